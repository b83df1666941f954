-- Each number below 1,430 is carried by a full block of any kind that has eight readings that never tie: the readings, sorted, stand for the ranks of any keys.
-- Assumes nothing.
use Rattle.std.proofs.Common.{◌≡◌, ℕ, zero, suc, ◌+◌, ◌<◌, ◌≤◌, Bool, true, false, cond, ◌||◌, ltb, List, [], ◌∷◌, map, length, get_or, Some, sym, refl, ap, ◌∙◌, ⊎_elim, arith}
use Rattle.std.proofs.lemmas.Grind.{common_steps}
use Rattle.std.specs.List.{slice_get, range_with_len, AllByRecursion as All}
use Rattle.std.proofs.lemmas.List.FromFn.{get_or-map-range_with_len, length-map-range_with_len}
use Rattle.std.proofs.ByRecursion.{All-get_or, All-weaker}
use Rattle.std.proofs.lemmas.Option.{slice_get-get_or}
use Rattle.std.proofs.lemmas.Bool.{both_ways, cases_Bool, cases_lt, cases_order, cond_both, le-ltb, lt-ltb, ltb-true, or_cases}
use Rattle.reading.specs.Order.{Orders}
use Rattle.reading.specs.Coldest.{places}
use Rattle.reading.proofs.Orders.{orders_by}
use Rattle.paths.specs.Laws.{Apart, NeverTie, ExactNumbers}
use Rattle.paths.specs.Number.{weigh, shape}
use Rattle.paths.proofs.Moves.{Agree, same_moves}
use Rattle.paths.proofs.Paths.{asymmetric}
use Rattle.paths.proofs.Ranks.{number_bound}
use Rattle.shape.proofs.Replays.{by_key, sample_key, sample_number}

-- ---- ranks

-- 1 where key k is below v
abbrev counts : ℕ → ℕ → ℕ
counts k v = cond (ltb k v) 1 0

-- how many of the first n places have a key below v
abbrev lower : (ℕ → ℕ) → ℕ → ℕ → ℕ
lower key zero v = 0
lower key (suc n) v = counts (key n) v + lower key n v

counts_most : (k v : ℕ) → counts k v ≤ 1
counts_most k v = cond_both (ltb k v) 1 0 (λ c. c ≤ 1) (λ d. omega arith) (λ d. omega arith)

counts_more : (k v w : ℕ) → v ≤ w → counts k v ≤ counts k w
counts_more k v w h =
    cond_both (ltb k v) 1 0 (λ c. c ≤ counts k w) (λ d. rw (lt-ltb k w (omega (arith, ltb-true k v d))) (omega arith)) (λ d. omega arith)

module _ (key : ℕ → ℕ) where
  lower_most : (n v : ℕ) → lower key n v ≤ n
  lower_most zero v = omega arith
  lower_most (suc n) v = omega (arith, counts_most (key n) v, lower_most n v)

  lower_more : (n v w : ℕ) → v ≤ w → lower key n v ≤ lower key n w
  lower_more zero v w h = omega arith
  lower_more (suc n) v w h = omega (arith, counts_more (key n) v w h, lower_more n v w h)

  -- place i counts for w, and not for its own key
  lower_grows : (n i w : ℕ) → i < n → key i < w → lower key n (key i) < lower key n w
  lower_grows zero i w h k = absurd (omega arith)
  lower_grows (suc n) i w h k =
      ⊎_elim
      (λ (at : i ≡ n).
      let own : ltb (key i) (key i) ≡ false = le-ltb (key i) (key i) (omega arith) in
      rw (← at, own, lt-ltb (key i) w k) (omega (arith, lower_more i (key i) w (omega arith))))
      (⊎_elim (λ (at : i < n). omega (arith, counts_more (key n) (key i) w (omega arith), lower_grows n i w at k))
      (λ (at : n < i). absurd (omega arith)))
      (cases_order i n)

  -- the rank of a place: how many keys are below its own
  lower_below : (n i : ℕ) → i < n → lower key n (key i) < n
  lower_below n i h = omega (arith, lower_grows n i (suc (key i)) h (omega arith), lower_most n (suc (key i)))

  lower_agrees : (n i j : ℕ) → i < n → ltb (lower key n (key i)) (lower key n (key j)) ≡ by_key key i j
  lower_agrees n i j h = grind (arith, common_steps, cases_lt, le-ltb, lower_grows, lower_more, lt-ltb)

-- ---- readings that never tie, sorted

abbrev inserted : {K : Type 0} → (K → K → Bool) → K → List K → List K
inserted colder x [] = x ∷ []
inserted colder x (z ∷ zs) = cond (colder x z) (x ∷ z ∷ zs) (z ∷ inserted colder x zs)

abbrev sorted : {K : Type 0} → (K → K → Bool) → List K → List K
sorted colder [] = []
sorted colder (x ∷ xs) = inserted colder x (sorted colder xs)

-- two readings do not tie
abbrev Unlike : {K : Type 0} → (K → K → Bool) → K → K → Type 0
Unlike colder x y = (colder x y || colder y x) ≡ true

-- each reading is colder than all later ones
abbrev Warming : {K : Type 0} → (K → K → Bool) → List K → Type 0
Warming colder [] = Unit {0}
Warming colder (z ∷ zs) = All (λ y. colder z y ≡ true) zs × Warming colder zs

-- n places, each with the reading of xs that has the rank of the place's key
abbrev arranged : {K : Type 0} → (K → K → Bool) → K → List K → (ℕ → ℕ) → ℕ → List K
arranged colder d xs key n = map (λ i. get_or (sorted colder xs) (lower key n (key i)) d) (range_with_len 0 n)

-- the places of a list that is made from a function
places_counted : {K : Type 0} (colder : K → K → Bool) (f : ℕ → K) (n i j : ℕ) → i < n → j < n
    → places colder (map f (range_with_len 0 n)) i j ≡ colder (f i) (f j)
places_counted colder f n i j h k = rw (at i h, at j k)
  where
    at : (p : ℕ) → p < n → slice_get (map f (range_with_len 0 n)) p ≡ Some (f p)
    at p below =
        slice_get-get_or (map f (range_with_len 0 n)) p (f p) (omega (arith, length-map-range_with_len f 0 n))
        ∙ ap Some (get_or-map-range_with_len f 0 n p p (f p) below (omega arith))

module _ {K : Type 0} (colder : K → K → Bool) where
  length_inserted : (x : K) (zs : List K) → length (inserted colder x zs) ≡ suc (length zs)
  length_inserted x [] = refl
  length_inserted x (z ∷ zs) =
      ⊎_elim (λ (d : colder x z ≡ true). rw d) (λ (d : colder x z ≡ false). rw d (ap suc (length_inserted x zs))) (cases_Bool (colder x z))

  length_sorted : (xs : List K) → length (sorted colder xs) ≡ length xs
  length_sorted [] = refl
  length_sorted (x ∷ xs) = length_inserted x (sorted colder xs) ∙ ap suc (length_sorted xs)

  all_inserted : (P : K → Type 0) (x : K) (zs : List K) → P x → All P zs → All P (inserted colder x zs)
  all_inserted P x [] here all = (here, tt)
  all_inserted P x (z ∷ zs) here all = grind (arith, common_steps, cases_Bool, all_inserted P x zs here all.1)

  all_sorted : (P : K → Type 0) (xs : List K) → All P xs → All P (sorted colder xs)
  all_sorted P [] all = tt
  all_sorted P (x ∷ xs) all = all_inserted P x (sorted colder xs) all.0 (all_sorted P xs all.1)

  all_apart : (x : K) (xs : List K) → Apart colder x xs → All (Unlike colder x) xs
  all_apart x [] apart = tt
  all_apart x (y ∷ ys) apart = (apart.0, all_apart x ys apart.1)

  warming_get_or : (zs : List K) (i j : ℕ) (d : K) → Warming colder zs → i < j → j < length zs → colder (get_or zs i d) (get_or zs j d) ≡ true
  warming_get_or [] i j d warming h k = absurd (omega arith)
  warming_get_or (z ∷ zs) i zero d warming h k = absurd (omega arith)
  warming_get_or (z ∷ zs) zero (suc j) d warming h k = All-get_or (λ y. colder z y ≡ true) zs j d (omega arith) warming.0
  warming_get_or (z ∷ zs) (suc i) (suc j) d warming h k = warming_get_or zs i j d warming.1 (omega arith) (omega arith)

module _ {K : Type 0} {colder : K → K → Bool} (laws : Orders colder) where
  inserted_warming : (x : K) (zs : List K) → All (Unlike colder x) zs → Warming colder zs
      → Warming colder (inserted colder x zs)
  inserted_warming x [] apart warming = (tt, tt)
  inserted_warming x (z ∷ zs) apart warming =
      grind (arith, common_steps, All-weaker, all_inserted, both_ways, cases_Bool, or_cases, inserted_warming x zs apart.1 warming.1)

  sorted_warming : (xs : List K) → NeverTie colder xs → Warming colder (sorted colder xs)
  sorted_warming [] apart = tt
  sorted_warming (x ∷ xs) apart =
      inserted_warming x (sorted colder xs) (all_sorted colder (Unlike colder x) xs (all_apart colder x xs apart.0)) (sorted_warming xs apart.1)

  warming_agrees : (zs : List K) (d : K) → Warming colder zs → (i j : ℕ) → i < length zs → j < length zs
      → colder (get_or zs i d) (get_or zs j d) ≡ ltb i j
  warming_agrees zs d warming i j h k =
      ⊎_elim (λ (e : i ≡ j). rw e (laws.irreflexive (get_or zs j d) ∙ sym (le-ltb j j (omega arith))))
      (⊎_elim (λ (e : i < j). warming_get_or colder zs i j d warming e k ∙ sym (lt-ltb i j e))
      (λ (e : j < i). asymmetric (orders_by laws (λ p. get_or zs p d)) j i (warming_get_or colder zs j i d warming e h) ∙ sym (le-ltb i j (omega arith))))
      (cases_order i j)

  -- readings that never tie can be put in the order of any keys
  arranged_agrees : (d : K) (xs : List K) (key : ℕ → ℕ) (n : ℕ) → length xs ≡ n → NeverTie colder xs
      → Agree n (places colder (arranged colder d xs key n)) (by_key key)
  arranged_agrees d xs key n e apart i j h k =
      grind (arith, common_steps, length_sorted, lower_agrees, lower_below, places_counted, sorted_warming, warming_agrees)

  -- for a caller: each number below 1,430 is the number of some block
  pub carried : (xs : List K) → length xs ≡ 8 → NeverTie colder xs → (t : ℕ) → t < 1430
      → (block : List K) × (length block ≡ 8) × (shape colder block ≡ t)
  carried [] e apart t h = absurd (omega arith)
  carried (x ∷ xs) e apart t h =
      let block : List K = arranged colder x (x ∷ xs) (sample_key t) 8 in
      let same = same_moves (places colder block) (by_key (sample_key t)) 8 (arranged_agrees x (x ∷ xs) (sample_key t) 8 e apart) in
      (block, refl, ap (weigh 0 0) same.1 ∙ sample_number t h)

  pub exact_numbers : ExactNumbers colder
  exact_numbers = record {
    bounded = λ block e. number_bound (places colder block) (length block) (omega arith);
    carried = carried;
  }
