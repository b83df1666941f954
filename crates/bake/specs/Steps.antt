-- What each call of a bake answers, from the sheet and the memory as they are handed in, whoever wrote that memory.
-- No call changes the log.
-- Assumes nothing.
use Rattle.std.specs.Prelude.{ℕ, ◌-◌, Bool, cond, ◌||◌, Some, Ok, Err, Result, ◌==◌, nat_lt}
use Rattle.std.specs.List.{slice_get}
use Rattle.reading.specs.Coldest.{colder_or_missing}
use Rattle.firing_log.specs.State.{State, short}
use Rattle.firing_log.specs.Steps.{coldest}
use Rattle.firing_log.specs.declared.fault.LogFault.{LogFault}
use Rattle.bake.specs.declared.fault.BakeFault.{BakeFault}
use Rattle.bake.specs.declared.fault.BakeFault.TheVariants.{ShortMemory, Window, CutBack, Late, NothingBaked, Index, TooCold}
use Rattle.bake.specs.declared.unloading.Record.{Record}

-- ---- load

-- the start of a bake that is loaded at a count, on a clearance that keeps another: at most 60 readings came between
abbrev pub loaded : ℕ → ℕ → Result ℕ BakeFault
loaded kept count = cond (nat_lt count kept) (Err CutBack) (cond (nat_lt 60 (count - kept)) (Err Late) (Ok count))

module _ {K : Type 0} (colder : K → K → Bool) (seats : ℕ → ℕ → ℕ → ℕ) where
  -- ---- clear

  -- the count to keep, or the refusal, once the log has answered with the coldest place of the window; within the count it refuses for its index numbers alone
  abbrev pub judged : State K → K → Result ℕ LogFault → Result ℕ BakeFault
  judged s set (Ok place) = cond (colder_or_missing colder (slice_get s.readings place) (Some set)) (Err TooCold) (Ok s.count)
  judged s set (Err fault) = Err Index

  -- the count that a clearance keeps, over the last w readings and against a set reading
  abbrev pub cleared : State K → ℕ → K → Result ℕ BakeFault
  cleared s w set =
      cond (short s) (Err ShortMemory)
      (cond (w == 0 || nat_lt s.count w) (Err Window)
      (judged s set (coldest colder seats s (s.count - w) (s.count - 1))))

  -- ---- unload

  -- the record of a bake, or the refusal, once the log has answered with the coldest place of it
  abbrev pub recorded : ℕ → ℕ → Result ℕ LogFault → Result Record BakeFault
  recorded start last (Ok place) = Ok (record { start = start; last = last; coldest = place })
  recorded start last (Err fault) = Err Index

  -- the record of a bake with that start
  abbrev pub unloaded : State K → ℕ → Result Record BakeFault
  unloaded s start =
      cond (short s) (Err ShortMemory)
      (cond (nat_lt s.count start) (Err CutBack)
      (cond (s.count == start) (Err NothingBaked)
      (recorded start (s.count - 1) (coldest colder seats s start (s.count - 1)))))
