-- What clearances and records say of a log that only its own calls have changed.
-- Assumes nothing.
use Rattle.std.specs.Prelude.{◌≡◌, ℕ, suc, ◌+◌, ◌-◌, ◌<◌, ◌≤◌, Bool, true, false, ◌↔◌, Some, Ok, Err, Result}
use Rattle.std.specs.List.{slice_get}
use Rattle.reading.specs.Coldest.{FirstColdest, places}
use Rattle.firing_log.specs.Runs.{Reached}
use Rattle.firing_log.specs.State.{State, log_of}
use Rattle.bake.specs.Steps.{cleared, loaded, unloaded}
use Rattle.bake.specs.declared.fault.BakeFault.{BakeFault}
use Rattle.bake.specs.declared.fault.BakeFault.TheVariants.{ShortMemory, Window, CutBack, Late, NothingBaked, Index, TooCold}
use Rattle.bake.specs.declared.unloading.Record.{Record}

module _ {K : Type 0} (colder : K → K → Bool) where
  -- a window has one reading at least, and all of the log's at most
  abbrev pub InRange : State K → ℕ → Type 0
  InRange s w = (1 ≤ w) × (w ≤ s.count)

  -- x is the reading at place q, one of the last w
  pub record InWindow (s : State K) (w q : ℕ) (x : K) : Type 0 where
    pub from : s.count - w ≤ q
    pub to : q < s.count
    pub reads : slice_get (log_of s) q ≡ Some x

  -- no reading of the window is colder than the set one
  abbrev pub Warm : State K → ℕ → K → Type 0
  Warm s w set = (q : ℕ) (x : K) → InWindow s w q x → colder x set ≡ false

  -- a reading of the window is colder than the set one
  abbrev pub Cold : State K → ℕ → K → Type 0
  Cold s w set = (q : ℕ) × (x : K) × InWindow s w q x × (colder x set ≡ true)

  -- what each answer of clear says
  abbrev pub Clearing : State K → ℕ → K → Result ℕ BakeFault → Type 0
  Clearing s w set (Ok kept) = (kept ≡ s.count) × InRange s w × Warm s w set
  Clearing s w set (Err Window) = InRange s w → ⊥
  Clearing s w set (Err TooCold) = InRange s w × Cold s w set
  Clearing s w set (Err ShortMemory) = ⊥
  Clearing s w set (Err CutBack) = ⊥
  Clearing s w set (Err Late) = ⊥
  Clearing s w set (Err NothingBaked) = ⊥
  Clearing s w set (Err Index) = ⊥

  -- the record of a bake that ends with the log's last reading
  pub record Recorded (s : State K) (start : ℕ) (r : Record) : Type 0 where
    pub start_is : r.start ≡ start
    pub last_is : suc r.last ≡ s.count
    pub coldest_is : FirstColdest (places colder (log_of s)) r.start r.last r.coldest

  -- what each answer of unload says
  abbrev pub Unloading : State K → ℕ → Result Record BakeFault → Type 0
  Unloading s start (Ok r) = Recorded s start r
  Unloading s start (Err CutBack) = s.count < start
  Unloading s start (Err NothingBaked) = s.count ≡ start
  Unloading s start (Err ShortMemory) = ⊥
  Unloading s start (Err Window) = ⊥
  Unloading s start (Err Late) = ⊥
  Unloading s start (Err Index) = ⊥
  Unloading s start (Err TooCold) = ⊥

  -- a whole bake, with the log as it was when the clearance was given, when the bake was loaded and when it was unloaded
  pub record Baked (given begun ended : State K) (w : ℕ) (set : K) (r : Record) : Type 0 where
    pub in_range : InRange given w
    pub warm : Warm given w set
    pub not_cut : given.count ≤ begun.count
    pub soon : begun.count ≤ given.count + 60
    pub recorded : Recorded ended begun.count r

  module _ (seats : ℕ → ℕ → ℕ → ℕ) where
    pub record BakesRight : Type 0 where
      -- a clearance is given exactly when the window is in range and no reading of it is colder than the set one
      pub given : (s : State K) → Reached colder seats s → (w : ℕ) (set : K) → (cleared colder seats s w set ≡ Ok s.count) ↔ (InRange s w × Warm s w set)
      -- from a clearance to the record of its bake, whatever calls on the log came between
      pub baked : (s t u : State K) → Reached colder seats s → Reached colder seats t → Reached colder seats u → (w : ℕ) (set : K) (kept start : ℕ) (r : Record)
          → cleared colder seats s w set ≡ Ok kept → loaded kept t.count ≡ Ok start → unloaded colder seats u start ≡ Ok r → Baked s t u w set r
