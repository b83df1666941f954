-- The strip that the panel answers with is that of the readings.
-- Assumes nothing.
use Rattle.std.proofs.Common.{◌≡◌, ℕ, true, false, ltb, List, ◌++◌, length, take, drop, replicate, sym, refl, ap, ◌∙◌, ⊎_elim, arith}
use Rattle.std.proofs.Math.Seq.{take-append_seam}
use Rattle.std.proofs.lemmas.List.{length-take-le}
use Rattle.std.proofs.lemmas.Bool.{cases_Bool, ltb-true}
use Rattle.reading.specs.Coldest.{places}
use Rattle.reading.specs.Tenths.{tenths_colder}
use Rattle.reading.specs.declared.tenths.Tenths.{Tenths}
use Rattle.firing_log.specs.State.{State, log_of}
use Rattle.firing_log.specs.Strip.{strip, strip_of, strip_length}
use Rattle.firing_log.proofs.Alike.{length_strip}
use Rattle.firing_log.proofs.Short.{long_enough}
use Rattle.panel.specs.Firing.{Keeps, ShowsStrip}
use Rattle.panel.specs.Replies.{strip_answered}

pub shows_strip : {capacity : ℕ} {s : State Tenths} {xs : List Tenths} → Keeps tenths_colder capacity s xs → ShowsStrip xs (strip_answered s)
shows_strip {s = s} {xs = xs} k =
    let long = long_enough s.capacity s.readings s.shapes s.entries k.long in
    let count : length xs ≡ s.count = ap length (sym k.holds) ∙ length-take-le s.count s.readings (omega (arith, long.readings_long, k.within, k.capacity_is)) in
    let n : ℕ = strip_length s.count in
    ⊎_elim
    (λ (t : ltb 514 n ≡ true). rw (k.long, t) (omega (arith, ltb-true 514 n t, count), refl))
    (λ (t : ltb 514 n ≡ false).
    rw (k.long, t)
    (ap (λ m. take m (strip_of tenths_colder s ++ drop n (replicate 514 0))) (sym (length_strip (places tenths_colder (log_of s)) s.count))
    ∙ take-append_seam (strip_of tenths_colder s) (drop n (replicate 514 0))
    ∙ ap (λ ys. strip (places tenths_colder ys) s.count) k.holds
    ∙ ap (strip (places tenths_colder xs)) (sym count)))
    (cases_Bool (ltb 514 n))
