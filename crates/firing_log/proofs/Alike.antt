-- Laws of any two logs that are reached.
-- Assumes nothing.
use Rattle.std.proofs.Common.{◌≡◌, ℕ, zero, suc, ◌+◌, ◌*◌, ◌/◌, ◌%◌, ◌≤◌, Bool, false, ◌∷◌, ◌++◌, length, get_or, drop, replicate, Ok, Result, sym, refl, ap, ◌∙◌, subst, arith, length-take}
use Rattle.std.proofs.lemmas.List.{length-append, length-replicate}
use Rattle.reading.specs.Order.{Orders}
use Rattle.reading.specs.Coldest.{FirstColdest, places}
use Rattle.reading.proofs.Orders.{places_orders}
use Rattle.paths.specs.Laws.{SameFirsts, AnswersFirsts}
use Rattle.paths.specs.Number.{weigh, shape}
use Rattle.paths.specs.Path.{path, moves}
use Rattle.paths.specs.Cell.{up_to}
use Rattle.paths.proofs.Answers.{moves_from_firsts, firsts_from_moves}
use Rattle.shape.proofs.Blocks.{equal_numbers}
use Rattle.paths.proofs.Moves.{Agree, same_moves, up_to_of_moves}
use Rattle.paths.proofs.Paths.{first_unique}
use Rattle.firing_log.specs.Laws.{SameAnswers, Alike, SameIndex, TwoLogs}
use Rattle.firing_log.specs.Runs.{Reached}
use Rattle.firing_log.specs.State.{State, log_of, block}
use Rattle.firing_log.specs.Strip.{bits_of, packed, bit_bytes, strip, strip_of, strip_length}
use Rattle.firing_log.specs.declared.fault.LogFault.{LogFault}
use Rattle.firing_log.proofs.Blocks.{length_block, block_places}
use Rattle.firing_log.proofs.Draws.{length_moves, same_strip}
use Rattle.firing_log.proofs.Firsts.{first_agreed}
use Rattle.firing_log.proofs.Fits.{Fit}
use Rattle.firing_log.proofs.Packs.{packed_same, length_packed}
use Rattle.firing_log.proofs.Reached.{reached_fit}
use Rattle.firing_log.proofs.Searches.{coldest_finds}

-- ---- strips and moves

pub length_bits : (o : ℕ → ℕ → Bool) (n : ℕ) → length (bits_of o n) ≡ 2 * n
length_bits o n = omega (arith, length-append (moves o n) (replicate (length (path o n)) false), length-replicate (length (path o n)) false, length_moves o n)

pub length_strip : (o : ℕ → ℕ → Bool) (n : ℕ) → length (strip o n) ≡ strip_length n
unfolding strip
length_strip o n = omega (arith, length_packed (bit_bytes n) (bits_of o n))

pub moves_from_bits : (o u : ℕ → ℕ → Bool) (n : ℕ) → bits_of o n ≡ bits_of u n → moves o n ≡ moves u n
unfolding moves
moves_from_bits o u zero e = refl
moves_from_bits o u (suc n) e =
    sym (up_to_of_moves o n (suc n) (replicate (length (path o (suc n))) false) (omega arith)) ∙ ap (up_to n) e ∙ up_to_of_moves u n (suc n) (replicate (length (path u (suc n))) false) (omega arith)

bits_from_strips : (o u : ℕ → ℕ → Bool) (n : ℕ) → strip o n ≡ strip u n → bits_of o n ≡ bits_of u n
unfolding strip
bits_from_strips o u n e =
    packed_same (bit_bytes n) (bits_of o n) (bits_of u n) (length_bits o n ∙ sym (length_bits u n)) (omega (arith, length_bits o n)) (ap (drop 2) e)

strips_from_moves : (o u : ℕ → ℕ → Bool) (n : ℕ) → path o n ≡ path u n → moves o n ≡ moves u n → strip o n ≡ strip u n
unfolding strip
strips_from_moves o u n p m =
    ap (λ ms. (n / 256) ∷ ((n % 256) ∷ packed (bit_bytes n) (ms ++ replicate (length (path o n)) false))) m
    ∙ ap (λ st. (n / 256) ∷ ((n % 256) ∷ packed (bit_bytes n) (moves u n ++ replicate (length st) false))) p

same_ok : {p q : ℕ} {r : Result ℕ LogFault} → r ≡ Ok p → r ≡ Ok q → p ≡ q
same_ok {p} {q} a b = cc

-- ---- two logs

module _ {K L : Type 0} {colder : K → K → Bool} {other : L → L → Bool} (lk : Orders colder) (ll : Orders other)
    (seats : ℕ → ℕ → ℕ → ℕ) (places_of : ℕ → ℕ → ℕ → ℕ) (fk : AnswersFirsts seats) (fl : AnswersFirsts places_of)
    (s : State K) (t : State L) (rs : Reached colder seats s) (rt : Reached other places_of t) where
  fit_s : Fit colder s
  fit_s = reached_fit lk seats fk s rs

  fit_t : Fit other t
  fit_t = reached_fit ll places_of fl t rt

  length_s : length (log_of s) ≡ s.count
  length_s = omega (arith, length-take s.count s.readings, fit_s.within, fit_s.room.readings_long)

  length_t : length (log_of t) ≡ t.count
  length_t = omega (arith, length-take t.count t.readings, fit_t.within, fit_t.room.readings_long)

  module _ (b c : ℕ) (full_b : 8 * b + 8 ≤ s.count) (full_c : 8 * c + 8 ≤ t.count) where
    eight_b : length (block b (log_of s)) ≡ 8
    eight_b = omega (arith, length_block b (log_of s), length_s)

    eight_c : length (block c (log_of t)) ≡ 8
    eight_c = omega (arith, length_block c (log_of t), length_t)

    number_b : get_or s.shapes b 0 ≡ shape colder (block b (log_of s))
    number_b = fit_s.sound.shapes_right b (omega arith)

    number_c : get_or t.shapes c 0 ≡ shape other (block c (log_of t))
    number_c = fit_t.sound.shapes_right c (omega arith)

    numbers_answer : get_or s.shapes b 0 ≡ get_or t.shapes c 0 → SameFirsts 8 (places colder (block b (log_of s))) (places other (block c (log_of t)))
    numbers_answer e = (equal_numbers lk ll).answers (block b (log_of s)) (block c (log_of t)) eight_b eight_c (sym number_b ∙ e ∙ number_c)

    answers_number : SameFirsts 8 (places colder (block b (log_of s))) (places other (block c (log_of t))) → get_or s.shapes b 0 ≡ get_or t.shapes c 0
    answers_number firsts = number_b ∙ (equal_numbers lk ll).numbers (block b (log_of s)) (block c (log_of t)) eight_b eight_c firsts ∙ sym number_c

  module _ (counts : s.count ≡ t.count) where
    o : ℕ → ℕ → Bool
    o = places colder (log_of s)

    u : ℕ → ℕ → Bool
    u = places other (log_of t)

    answers_from_firsts : SameFirsts s.count o u → SameAnswers colder seats other places_of s t
    unfolding o u
    answers_from_firsts firsts l r h within =
        let f = firsts l r h within in
        let a = coldest_finds lk seats fk s fit_s l r h within in
        let b = coldest_finds ll places_of fl t fit_t l r h (omega arith) in
        (f.0, a.is ∙ ap Ok (first_unique a.first f.1), b.is ∙ ap Ok (first_unique b.first f.2))

    firsts_from_answers : SameAnswers colder seats other places_of s t → SameFirsts s.count o u
    unfolding o u
    firsts_from_answers answers l r h within =
        let q = answers l r h within in
        let a = coldest_finds lk seats fk s fit_s l r h within in
        let b = coldest_finds ll places_of fl t fit_t l r h (omega arith) in (
          q.0,
          subst (λ (p : ℕ). FirstColdest (places colder (log_of s)) l r p) (same_ok a.is q.1) a.first,
          subst (λ (p : ℕ). FirstColdest (places other (log_of t)) l r p) (same_ok b.is q.2) b.first,
        )

    count_strip : strip_of other t ≡ strip u s.count
    unfolding u
    count_strip = ap (strip (places other (log_of t))) (sym counts)

    strips_answer : strip_of colder s ≡ strip_of other t → SameAnswers colder seats other places_of s t
    unfolding o u
    strips_answer e =
        answers_from_firsts (firsts_from_moves (places_orders lk (log_of s)) (places_orders ll (log_of t)) s.count
        (moves_from_bits o u s.count (bits_from_strips o u s.count (e ∙ count_strip))))

    answers_strip : SameAnswers colder seats other places_of s t → strip_of colder s ≡ strip_of other t
    unfolding o u
    answers_strip answers =
        let same = moves_from_firsts (places_orders lk (log_of s)) (places_orders ll (log_of t)) s.count (firsts_from_answers answers) in
        strips_from_moves o u s.count same.0 same.1 ∙ sym count_strip

  module _ (alike : Alike colder seats other places_of s t) where
    alike_strip : strip_of colder s ≡ strip_of other t
    alike_strip = same_strip (places colder (log_of s)) (places other (log_of t)) s.count alike.readings ∙ ap (strip (places other (log_of t))) alike.counts

    alike_indexes : SameIndex colder seats other places_of s t
    alike_indexes = record {
      shapes = λ b begun.
          let long : length (block b (log_of s)) ≡ length (block b (log_of t)) = omega (arith, length_block b (log_of s), length_block b (log_of t), length_s, length_t, alike.counts) in
          let inside : 8 * b + length (block b (log_of s)) ≤ s.count = omega (arith, length_block b (log_of s), length_s) in
          let agree : Agree (length (block b (log_of s))) (places colder (block b (log_of s))) (places other (block b (log_of t))) =
          λ i j hi hj. block_places colder b (log_of s) i j hi hj ∙ alike.readings (8 * b + i) (8 * b + j) (omega arith) (omega arith)
          ∙ sym (block_places other b (log_of t) i j (omega arith) (omega arith)) in
          fit_s.sound.shapes_right b begun
          ∙ ap (weigh 0 0) (same_moves (places colder (block b (log_of s))) (places other (block b (log_of t))) (length (block b (log_of s))) agree).1
          ∙ ap (λ n. weigh 0 0 (moves (places other (block b (log_of t))) n)) long
          ∙ sym (fit_t.sound.shapes_right b (omega (arith, alike.counts)));
      entries = λ b j full level.
          first_unique
          (first_agreed s.count _ (8 * b + 7) _ alike.readings (omega arith) (fit_s.sound.entries_right b j full level))
          (fit_t.sound.entries_right b j (omega (arith, alike.counts)) level);
    }

pub two_logs : {K L : Type 0} {colder : K → K → Bool} {other : L → L → Bool} → Orders colder → Orders other
    → (seats : ℕ → ℕ → ℕ → ℕ) (places_of : ℕ → ℕ → ℕ → ℕ) → AnswersFirsts seats → AnswersFirsts places_of → TwoLogs colder seats other places_of
two_logs lk ll seats places_of fk fl = record {
  equal_numbers = λ s t rs rt b c fb fc. (numbers_answer lk ll seats places_of fk fl s t rs rt b c fb fc, answers_number lk ll seats places_of fk fl s t rs rt b c fb fc);
  equal_strips = λ s t rs rt counts. (strips_answer lk ll seats places_of fk fl s t rs rt counts, answers_strip lk ll seats places_of fk fl s t rs rt counts);
  alike_index = λ s t rs rt alike. alike_indexes lk ll seats places_of fk fl s t rs rt alike;
  alike_strips = λ s t rs rt alike. alike_strip lk ll seats places_of fk fl s t rs rt alike;
  alike_answers = λ s t rs rt alike. strips_answer lk ll seats places_of fk fl s t rs rt alike.counts (alike_strip lk ll seats places_of fk fl s t rs rt alike);
}
