-- What memory that is long enough has, and states that agree field by field.
-- Assumes nothing.
use Rattle.std.proofs.Common.{◌≡◌, ℕ, ◌+◌, ◌*◌, ◌/◌, ◌%◌, ◌≤◌, Bool, false, ◌||◌, ltb, List, length, take, set, Some, None, Ok, Err, Option, sym, ap, ◌∙◌, arith, length-take}
use Rattle.std.proofs.lemmas.Bool.{or_from, or_parts, ltb-false, le-ltb, eq-eqb, ne_eqb}
use Rattle.reading.specs.Coldest.{places}
use Rattle.firing_log.specs.Of.{Rowed, row_in}
use Rattle.firing_log.specs.State.{State, blocks, too_short, short, log_of}
use Rattle.firing_log.specs.Steps.{cut, kept, last_shape, appended, grown, filled, entries_of, written, entry_at}
use Rattle.firing_log.specs.Strip.{strip, strip_of}
use Rattle.firing_log.specs.declared.fault.LogFault.{LogFault}
use Rattle.shape.proofs.Stacks.{places_front}
use Rattle.firing_log.proofs.Draws.{same_strip}

pub record Long {K : Type 0} (capacity : ℕ) (readings : List K) (shapes entries : List ℕ) : Type 0 where
  pub readings_long : capacity ≤ length readings
  pub shapes_long : blocks capacity ≤ length shapes
  pub entries_long : 13 * blocks capacity ≤ length entries

pub long_enough : {K : Type 0} (capacity : ℕ) (readings : List K) (shapes entries : List ℕ) → too_short capacity readings shapes entries ≡ false → Long capacity readings shapes entries
long_enough capacity readings shapes entries h =
    let first = or_parts (ltb (length readings) capacity) (ltb (length shapes) (blocks capacity) || ltb (length entries) (13 * blocks capacity)) h in
    let rest = or_parts (ltb (length shapes) (blocks capacity)) (ltb (length entries) (13 * blocks capacity)) first.1 in
    record {
      readings_long = ltb-false (length readings) capacity first.0;
      shapes_long = ltb-false (length shapes) (blocks capacity) rest.0;
      entries_long = ltb-false (length entries) (13 * blocks capacity) rest.1;
    }

-- memory that is long enough passes the test
pub long_passes : {K : Type 0} (capacity : ℕ) (readings : List K) (shapes entries : List ℕ) → Long capacity readings shapes entries → too_short capacity readings shapes entries ≡ false
long_passes capacity readings shapes entries long =
    or_from _ _ (le-ltb (length readings) capacity long.readings_long)
    (or_from _ _ (le-ltb (length shapes) (blocks capacity) long.shapes_long) (le-ltb (length entries) (13 * blocks capacity) long.entries_long))

pub same_state : {K : Type 0} (s t : State K) → s.capacity ≡ t.capacity → s.count ≡ t.count → s.readings ≡ t.readings → s.shapes ≡ t.shapes → s.entries ≡ t.entries → s ≡ t
same_state s t a b c d e = λ i. record { capacity = a i; count = b i; readings = c i; shapes = d i; entries = e i }

pub cut_done : {K : Type 0} (colder : K → K → Bool) (s : State K) (n : ℕ) → short s ≡ false → n ≤ s.count → cut colder s n ≡ (Ok n, kept colder s n)
cut_done colder s n long le = rw (long, le-ltb s.count n le)

-- ---- append

module _ {K : Type 0} (colder : K → K → Bool) (seats : ℕ → ℕ → ℕ → ℕ) (s : State K) (x : K) (t : ℕ)
    (long : short s ≡ false) (room : s.count ≡ s.capacity → ⊥) (number : t ≡ last_shape colder (set s.readings s.count x) (s.count + 1)) where
  pub append_begun : (s.count % 8 ≡ 7 → ⊥) → appended colder seats s x ≡ (Ok (s.count + 1), grown colder s x t s.entries)
  append_begun begun = rw (long, ne_eqb s.count s.capacity room, ne_eqb (s.count % 8) 7 begun, number)

  module _ (fills : s.count % 8 ≡ 7) (p : ℕ) (at : p ≡ 8 * (s.count / 8) + seats t 0 7) where
    order : ℕ → ℕ → Bool
    order = places colder (set s.readings s.count x)

    append_filled : appended colder seats s x ≡ filled colder s x t (entries_of order s.entries (s.count / 8) p)
    unfolding order
    append_filled = rw (long, ne_eqb s.count s.capacity room, eq-eqb (s.count % 8) 7 fills, ← number, at)

    pub append_refused : (e : LogFault) → Rowed (s.count / 8) (entries_of (places colder (set s.readings s.count x)) s.entries (s.count / 8) p) (Err e) → appended colder seats s x ≡ (Err e, s)
    unfolding order
    append_refused e rowed = append_filled ∙ go (entries_of order s.entries (s.count / 8) p) rowed
      where
        go : (o : Option (List ℕ)) → Rowed (s.count / 8) o (Err e) → filled colder s x t o ≡ (Err e, s)
        go None f = ap (λ y. (Err y, s)) (sym f)
        go (Some es) f = absurd f

    pub append_whole : (row : List ℕ) → Rowed (s.count / 8) (entries_of (places colder (set s.readings s.count x)) s.entries (s.count / 8) p) (Ok row)
        → appended colder seats s x ≡ (Ok (s.count + 1), grown colder s x t (written s.entries (entry_at (s.count / 8) 0) (row_in (s.count / 8) row)))
    unfolding order
    append_whole row rowed = append_filled ∙ go (entries_of order s.entries (s.count / 8) p) rowed
      where
        go : (o : Option (List ℕ)) → Rowed (s.count / 8) o (Ok row) → filled colder s x t o ≡ (Ok (s.count + 1), grown colder s x t (written s.entries (entry_at (s.count / 8) 0) (row_in (s.count / 8) row)))
        go None f = absurd f
        go (Some es) f = ap (λ l. (Ok (s.count + 1), grown colder s x t (written s.entries (entry_at (s.count / 8) 0) l))) (sym f)

-- ---- strip writing

-- a log's strip is that of the readings in front
pub front_strip : {K : Type 0} (colder : K → K → Bool) (s : State K) → s.count ≤ length s.readings → strip_of colder s ≡ strip (places colder s.readings) s.count
front_strip colder s within =
    let count : s.count ≡ length (log_of s) = omega (arith, length-take s.count s.readings) in
    sym (same_strip (places colder s.readings) (places colder (log_of s)) s.count (λ i j hi hj. places_front colder s.count s.readings i j (omega arith) (omega arith)))
