-- What the baker holds, and what the calls of a bake make of it and answer.
-- Assumes nothing.
use Rattle.std.specs.Prelude.{ℕ, Bool, Ok, Err, Result}
use Rattle.firing_log.specs.State.{State}
use Rattle.bake.specs.Of.{clearance_count, start_of}
use Rattle.bake.specs.Steps.{cleared, loaded, unloaded}
use Rattle.bake.specs.declared.fault.BakeFault.{BakeFault}
use Rattle.bake.specs.declared.unloading.Record.{Record}
use Rattle.shift.specs.declared.hand.Hand.{Hand}
use Rattle.shift.specs.declared.hand.Hand.TheVariants.{Empty, Cleared, Baking}
use Rattle.shift.specs.declared.refusal.Refusal.{Refusal}
use Rattle.shift.specs.declared.refusal.Refusal.TheVariants.{Malformed, Bake}
use Rattle.shift.specs.declared.reply.Reply.{Reply}
use Rattle.shift.specs.declared.reply.Reply.TheVariants.{Clear, Loaded, Unloaded, Abandoned}

-- nothing, a clearance by the count that it keeps, or a bake by its start
pub data Held : Type 0 where
  nothing : Held
  cleared_at : ℕ → Held
  baking_from : ℕ → Held

abbrev pub held : Hand → Held
held Empty = nothing
held (Cleared clearance) = cleared_at (clearance_count clearance)
held (Baking bake) = baking_from (start_of bake)

-- what is held and answered after an answer of clear, of load and of unload: a refusal leaves in hand what was there
abbrev pub clear_answer : Held → Result ℕ BakeFault → Held × Result Reply Refusal
clear_answer before (Ok kept) = (cleared_at kept, Ok (Clear kept))
clear_answer before (Err fault) = (before, Err (Bake fault))

abbrev pub load_answer : ℕ → Result ℕ BakeFault → Held × Result Reply Refusal
load_answer kept (Ok start) = (baking_from start, Ok (Loaded start))
load_answer kept (Err fault) = (cleared_at kept, Err (Bake fault))

abbrev pub unload_answer : ℕ → Result Record BakeFault → Held × Result Reply Refusal
unload_answer start (Ok r) = (nothing, Ok (Unloaded r))
unload_answer start (Err fault) = (baking_from start, Err (Bake fault))

-- a clearance takes the place of an older one, and none is given while a bake is on the stone
abbrev pub after_clear : {K : Type 0} → (K → K → Bool) → (ℕ → ℕ → ℕ → ℕ) → State K → ℕ → K → Held → Held × Result Reply Refusal
after_clear colder seats s w set nothing = clear_answer nothing (cleared colder seats s w set)
after_clear colder seats s w set (cleared_at kept) = clear_answer (cleared_at kept) (cleared colder seats s w set)
after_clear colder seats s w set (baking_from start) = (baking_from start, Err Malformed)

-- a load asks for a clearance in hand
abbrev pub after_load : ℕ → Held → Held × Result Reply Refusal
after_load count nothing = (nothing, Err Malformed)
after_load count (cleared_at kept) = load_answer kept (loaded kept count)
after_load count (baking_from start) = (baking_from start, Err Malformed)

-- to unload and to abandon ask for a bake in hand
abbrev pub after_unload : {K : Type 0} → (K → K → Bool) → (ℕ → ℕ → ℕ → ℕ) → State K → Held → Held × Result Reply Refusal
after_unload colder seats s nothing = (nothing, Err Malformed)
after_unload colder seats s (cleared_at kept) = (cleared_at kept, Err Malformed)
after_unload colder seats s (baking_from start) = unload_answer start (unloaded colder seats s start)

abbrev pub after_abandon : Held → Held × Result Reply Refusal
after_abandon nothing = (nothing, Err Malformed)
after_abandon (cleared_at kept) = (cleared_at kept, Err Malformed)
after_abandon (baking_from start) = (nothing, Ok (Abandoned start))
