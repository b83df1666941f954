-- Candidates: the colder of two, and the answers that the calls pass on.
-- Assumes nothing.
use Rattle.std.proofs.Common.{◌≡◌, ℕ, ◌+◌, ◌-◌, ◌^◌, Bool, true, false, cond, List, get_or, Some, Ok, Err, Result, sym, refl, ap, ◌∙◌, subst, ⊎_elim, arith}
use Rattle.std.specs.List.{slice_get}
use Rattle.std.proofs.lemmas.Bool.{cases_Bool}
use Rattle.reading.specs.Coldest.{places, colder_or_missing}
use Rattle.firing_log.specs.Of.{Stands, Chosen}
use Rattle.firing_log.specs.State.{State}
use Rattle.firing_log.specs.Steps.{join, in_blocks, across, entry_at, level}
use Rattle.firing_log.specs.declared.candidate.Candidate.{Candidate}
use Rattle.firing_log.specs.declared.fault.LogFault.{LogFault}
use Rattle.firing_log.specs.declared.fault.LogFault.TheVariants.{Index}
use Rattle.firing_log.proofs.Levels.{Covering}

module _ {K : Type 0} (readings : List K) where
  -- x is at place p
  pub record Held (p : ℕ) (x : Candidate K) : Type 0 where
    pub place : x.place ≡ p
    pub holds : Stands readings x

  pub colder_held : (colder : K → K → Bool) (p q : ℕ) (x y r : Candidate K) → Held p x → Held q y → r ≡ cond (colder y.reading x.reading) y x → Held (join (places colder readings) p q) r
  colder_held colder p q x y r hx hy e =
      let test : places colder readings q p ≡ colder y.reading x.reading =
      ap (λ i. places colder readings i p) (sym hy.place) ∙ ap (λ i. places colder readings y.place i) (sym hx.place)
      ∙ ap (λ a. colder_or_missing colder a (slice_get readings x.place)) hy.holds ∙ ap (λ b. colder_or_missing colder (Some y.reading) b) hx.holds in
      ⊎_elim
      (λ (d : colder y.reading x.reading ≡ true). subst (λ (z : Candidate K). Held (join (places colder readings) p q) z) (sym (e ∙ ap (λ b. cond b y x) d)) (rw (test, d) hy))
      (λ (d : colder y.reading x.reading ≡ false). subst (λ (z : Candidate K). Held (join (places colder readings) p q) z) (sym (e ∙ ap (λ b. cond b y x) d)) (rw (test, d) hx))
      (cases_Bool (colder y.reading x.reading))

  -- an answer that is refused where a test fails
  pub found_ok : (t : Bool) (p : ℕ) (x : Candidate K) → Chosen readings (cond t (Ok p) (Err Index)) (Ok x) → (t ≡ true) × Held p x
  found_ok true p x f = (refl, record { place = f.0; holds = f.1 })
  found_ok false p x f = absurd f

  pub found_err : (t : Bool) (p : ℕ) (e : LogFault) → Chosen readings (cond t (Ok p) (Err Index)) (Err e) → (t ≡ false) × (e ≡ Index)
  found_err true p e f = absurd f
  found_err false p e f = (refl, f)

-- ---- the two entries between blocks, where w is 2 ^ j as the code has it

module _ {K : Type 0} (colder : K → K → Bool) (s : State K) (b c j w p q : ℕ) (covering : Covering b c j) (power : w ≡ 2 ^ j) where
  -- what the two entries that are read name, and whether that lies in their blocks
  abbrev left_entry : ℕ
  left_entry = get_or s.entries (entry_at (b + w) j) 0

  abbrev left_inside : Bool
  left_inside = in_blocks (b + w + 1 - 2 ^ j) (b + w + 1) left_entry

  abbrev right_entry : ℕ
  right_entry = get_or s.entries (entry_at (c - 1) j) 0

  abbrev right_inside : Bool
  right_inside = in_blocks (c - 1 + 1 - 2 ^ j) (c - 1 + 1) right_entry

  abbrev answer : Result ℕ LogFault
  answer = across colder s b c (level (c - b - 1)) p q

  across_is : answer ≡ cond left_inside (cond right_inside (Ok (join (places colder s.readings) (join (places colder s.readings) (join (places colder s.readings) p left_entry) right_entry) q)) (Err Index)) (Err Index)
  across_is =
      let from : b + 2 ^ j + 1 - 2 ^ j ≡ b + 1 = omega arith in
      let to : b + 2 ^ j + 1 ≡ b + 1 + 2 ^ j = omega arith in
      let last : c - 1 + 1 ≡ c = omega (arith, covering.covers) in
      ap (λ l. across colder s b c l p q) (sym covering.levelled) ∙ rw (power, from, to, last)

  pub across_left : (e : LogFault) → Chosen s.readings (cond left_inside (Ok left_entry) (Err Index)) (Err e) → Chosen s.readings answer (Err e)
  across_left e f = let t = found_err s.readings left_inside left_entry e f in rw (across_is, t.0) t.1

  pub across_right : (x : Candidate K) (e : LogFault) → Chosen s.readings (cond left_inside (Ok left_entry) (Err Index)) (Ok x)
      → Chosen s.readings (cond right_inside (Ok right_entry) (Err Index)) (Err e) → Chosen s.readings answer (Err e)
  across_right x e f h =
      let l = found_ok s.readings left_inside left_entry x f in
      let r = found_err s.readings right_inside right_entry e h in
      rw (across_is, l.0, r.0) r.1

  pub across_both : (first last x y : Candidate K) → Held s.readings p first → Held s.readings q last
      → Chosen s.readings (cond left_inside (Ok left_entry) (Err Index)) (Ok x) → Chosen s.readings (cond right_inside (Ok right_entry) (Err Index)) (Ok y)
      → (u v z : Candidate K) → u ≡ cond (colder x.reading first.reading) x first → v ≡ cond (colder y.reading u.reading) y u → z ≡ cond (colder last.reading v.reading) last v
      → Chosen s.readings answer (Ok z)
  across_both first last x y hf hl f h u v z eu ev ez =
      let l = found_ok s.readings left_inside left_entry x f in
      let r = found_ok s.readings right_inside right_entry y h in
      let hu = colder_held s.readings colder p left_entry first x u hf l.1 eu in
      let hv = colder_held s.readings colder _ right_entry u y v hu r.1 ev in
      let hz = colder_held s.readings colder _ q v last z hv hl ez in
      rw (across_is, l.0, r.0) (hz.place, hz.holds)
