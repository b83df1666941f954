-- What replay leaves where it refuses.
-- Assumes nothing.
use Rattle.std.proofs.Common.{◌≡◌, ℕ, List, Ok, Err, Result}
use Rattle.reading.specs.declared.tenths.Tenths.{Tenths}
use Rattle.paths.specs.Cell.{seat}
use Rattle.firing_log.specs.State.{State}
use Rattle.firing_log.specs.declared.memory.Memory.{Memory}
use Rattle.strip.specs.Replay.{replay_code, Replayed}
use Rattle.strip.specs.declared.replays.ReplayFault.{ReplayFault}
use Rattle.deck.specs.Faults.{returned}
use Rattle.deck.specs.Of.{log_at}
use Rattle.deck.specs.Strips.{replay_done}
use Rattle.deck.specs.declared.fault.Refusal.{Refusal}
use Rattle.deck.specs.declared.sheet.DeckSheet.{DeckSheet}

pub replay_refused : (bytes : List ℕ) (before after : Memory Tenths) (sheet : DeckSheet) (start : Result (State Tenths) ReplayFault) (answer : Result (Unit {0}) Refusal) (fault : ReplayFault)
    → Replayed seat bytes start before after (Err fault) → returned answer ≡ replay_code fault → (returned answer, log_at sheet after) ≡ replay_done bytes (log_at sheet before) start
replay_refused bytes before after sheet (Ok s) answer fault says is = absurd says
replay_refused bytes before after sheet (Err own) answer fault says is = cc
