-- What a command of a shift does to the log and to what the baker holds, and what it is answered.
-- Assumes nothing.
use Rattle.std.specs.Prelude.{ℕ, Bool, Ok, Err, Result}
use Rattle.firing_log.specs.State.{State}
use Rattle.firing_log.specs.Steps.{appended, cut}
use Rattle.firing_log.specs.declared.fault.LogFault.{LogFault}
use Rattle.shift.specs.Hands.{Held, after_clear, after_load, after_unload, after_abandon}
use Rattle.shift.specs.declared.command.Command.{Command}
use Rattle.shift.specs.declared.command.Command.TheVariants.{Append, Cut, Clear, Load, Unload, Abandon}
use Rattle.shift.specs.declared.refusal.Refusal.{Refusal}
use Rattle.shift.specs.declared.refusal.Refusal.TheVariants.{Log}
use Rattle.shift.specs.declared.reply.Reply.{Reply}
use Rattle.shift.specs.declared.reply.Reply.TheVariants.{Count}

-- the reply to a call on the log
abbrev pub counted : Result ℕ LogFault → Result Reply Refusal
counted (Ok count) = Ok (Count count)
counted (Err fault) = Err (Log fault)

-- what is held and answered, and the log after
abbrev pub played : {K : Type 0} → (K → K → Bool) → (ℕ → ℕ → ℕ → ℕ) → State K → Held → Command K → (Held × Result Reply Refusal) × State K
played colder seats s h (Append x) = ((h, counted (appended colder seats s x).0), (appended colder seats s x).1)
played colder seats s h (Cut n) = ((h, counted (cut colder s n).0), (cut colder s n).1)
played colder seats s h (Clear w set) = (after_clear colder seats s w set h, s)
played colder seats s h Load = (after_load s.count h, s)
played colder seats s h Unload = (after_unload colder seats s h, s)
played colder seats s h Abandon = (after_abandon h, s)
