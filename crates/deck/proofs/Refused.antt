-- What a call returns that passes a refusal up.
-- Assumes nothing.
use Rattle.std.proofs.Common.{◌≡◌, Ok, Err, Result, ap}
use Rattle.std.specs.Result.{IsErrAnd}
use Rattle.deck.specs.Faults.{refusal_code, returned}
use Rattle.deck.specs.declared.fault.Refusal.{Refusal}

pub passed_up : (answer : Result (Unit {0}) Refusal) (refusal : Refusal) → IsErrAnd answer (λ given. given ≡ refusal) → returned answer ≡ refusal_code refusal
passed_up (Ok done) refusal is = absurd is
passed_up (Err given) refusal is = ap refusal_code is
