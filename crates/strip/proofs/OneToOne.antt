-- Accepted strips and shapes of logs correspond one to one.
-- Assumes nothing.
use Rattle.std.proofs.Common.{◌≡◌, ℕ, Bool, List, length, replicate, pos, Ok, sym, refl, ap, ◌∙◌, arith}
use lib.ListN.{length-replicate}
use Rattle.reading.specs.Coldest.{places}
use Rattle.reading.specs.Order.{Orders}
use Rattle.reading.specs.declared.tenths.Tenths.{Tenths}
use Rattle.reading.proofs.Lawful.{tenths_orders}
use Rattle.paths.specs.Laws.{AnswersFirsts}
use Rattle.firing_log.specs.Runs.{Reached}
use Rattle.firing_log.specs.State.{State, log_of}
use Rattle.firing_log.specs.Steps.{opened}
use Rattle.firing_log.specs.Strip.{strip_of}
use Rattle.firing_log.proofs.Alike.{two_logs}
use Rattle.firing_log.proofs.Reached.{reached_fit}
use Rattle.strip.specs.Bits.{count_of}
use Rattle.strip.specs.Laws.{IsOneToOne}
use Rattle.strip.proofs.Corresponds.{written_strips, replays_back}
use Rattle.strip.proofs.Strips.{strip_count}

-- the count that a log's strip begins with is the log's
counted : {K : Type 0} {colder : K → K → Bool} → Orders colder → (seats : ℕ → ℕ → ℕ → ℕ) → AnswersFirsts seats → (s : State K) → Reached colder seats s → count_of (strip_of colder s) ≡ s.count
counted {colder = colder} laws seats firsts s reached =
    let fit = reached_fit laws seats firsts s reached in
    strip_count (places colder (log_of s)) s.count (omega (arith, fit.within, fit.few))

-- memory for a log of the largest capacity
open_largest : (readings : List Tenths) (shapes entries : List ℕ) → length readings ≡ 32768 → length shapes ≡ 4096 → length entries ≡ 53248
    → opened 32768 readings shapes entries ≡ Ok (record { capacity = 32768; count = 0; readings = readings; shapes = shapes; entries = entries })
open_largest readings shapes entries a b c = rw (a, b, c) refl

unfoldable zero_tenths : List Tenths
zero_tenths = replicate 32768 (record { 0 = pos 0 })

unfoldable zeros : ℕ → List ℕ
zeros n = replicate n 0

zero_tenths_length : length zero_tenths ≡ 32768
unfolding zero_tenths
zero_tenths_length = length-replicate {A = Tenths} 32768 (record { 0 = pos 0 })

zeros_length : (n : ℕ) → length (zeros n) ≡ n
unfolding zeros
zeros_length n = length-replicate {A = ℕ} n 0

pub one_to_one : {K L : Type 0} {colder : K → K → Bool} {other : L → L → Bool} → Orders colder → Orders other → (seats places_of : ℕ → ℕ → ℕ → ℕ) → AnswersFirsts seats → AnswersFirsts places_of
    → IsOneToOne colder seats other places_of
one_to_one lk ll seats places_of fk fl = record {
  has_one = λ s reached. ((written_strips lk seats fk).accepted s reached, counted lk seats fk s reached);
  same_shape = (two_logs lk ll seats places_of fk fl).equal_strips;
  onto = λ bytes small is.
      let made = open_largest zero_tenths (zeros 4096) (zeros 53248) zero_tenths_length (zeros_length 4096) (zeros_length 53248) in
      let back = replays_back seats fk bytes small is 32768 zero_tenths (zeros 4096) (zeros 53248) _ made is.few in
      (_, back.reached, sym (counted tenths_orders seats fk _ back.reached) ∙ ap count_of back.same_strip, back.same_strip);
}
