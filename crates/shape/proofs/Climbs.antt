-- The working out of a shape number: one removal, the end of an arrival, one arrival more.
-- Assumes nothing.
use Rattle.std.proofs.Common.{◌≡◌, ℕ, zero, suc, ◌+◌, ◌-◌, ◌*◌, ◌/◌, ◌%◌, ◌^◌, ◌<◌, ◌≤◌, Bool, true, false, List, [], ◌∷◌, ◌++◌, length, get_or, Some, sym, refl, ap, ◌∙◌, arith}
use Rattle.std.proofs.lemmas.Grind.{common_steps}
use Rattle.std.specs.List.{slice_get}
use Rattle.std.proofs.lemmas.List.{length_push}
use Rattle.std.proofs.lemmas.Nat.{div-mul-add, mod-mul-add}
use Rattle.std.proofs.lemmas.Option.{slice_get_read}
use Rattle.reading.specs.Coldest.{places, colder_or_missing}
use Rattle.paths.specs.Ballot.{ballot}
use Rattle.paths.specs.Number.{weigh, shape}
use Rattle.paths.specs.Path.{left, arrival, path, moves}
use Rattle.paths.specs.Stack.{against, Below}
use Rattle.paths.proofs.Moves.{Agree, path_below, same_arrival, same_moves, arrivals, removals, arrivals_moves, removals_moves}
use Rattle.paths.proofs.Ranks.{number_bound, weigh_append}
use Rattle.shape.specs.Climbs.{packed, Climbs}
use Rattle.shape.specs.declared.number.Climb.{Climb}

-- ---- a path as a number

-- how many numbers have at most n digits
abbrev room : ℕ → ℕ
room zero = 1
room (suc n) = 256 * room n

packed_room : (c n : ℕ) (st : List ℕ) → c ≤ 8 → length st ≤ n → Below c st → packed st < room n
packed_room c zero [] few le below = omega arith
packed_room c (suc n) [] few le below = omega (arith, packed_room c n [] few (omega arith) tt)
packed_room c zero (t ∷ st) few le below = absurd (omega arith)
packed_room c (suc n) (t ∷ st) few le below = omega (arith, packed_room c n st few (omega arith) below.1, below.0)

-- a path of at most seven places has seven digits
packed_fits : (c : ℕ) (st : List ℕ) → c ≤ 8 → length st ≤ 7 → Below c st → packed st < 2 ^ 56
packed_fits c st few le below = packed_room c 7 st few le below

-- the last place of a path, and the path without it
pub record Top (c digits : ℕ) (rest : List ℕ) : Type 0 where
  pub under : List ℕ
  pub is : rest ≡ (digits % 256 - 1) ∷ under
  pub some : 0 < digits % 256
  pub within : digits % 256 - 1 < c
  pub under_is : digits / 256 ≡ packed under
  pub below : Below c under

top_of : (c digits : ℕ) (rest : List ℕ) → digits ≡ packed rest → Below c rest → c ≤ 8 → 0 < digits → Top c digits rest
top_of c digits [] is below few pos = absurd (omega arith)
top_of c digits (t ∷ st) is below few pos =
    let turned : digits ≡ packed st * 256 + suc t = omega (arith, is) in
    let small : suc t < 256 = omega (arith, below.0) in
    let low : digits % 256 ≡ suc t = ap (λ n. n % 256) turned ∙ mod-mul-add (packed st) 256 (suc t) small in
    let high : digits / 256 ≡ packed st = ap (λ n. n / 256) turned ∙ div-mul-add (packed st) 256 (suc t) small in
    let last : t ≡ digits % 256 - 1 = omega (arith, low) in
    record {
      under = st;
      is = ap (λ k. k ∷ st) last;
      some = omega (arith, low);
      within = omega (arith, low, below.0);
      under_is = high;
      below = below.1;
    }

-- ---- removals

-- the place c is making its removals from the path `whole`: `rest` is what stands of it, and the number comes to `total`
pub record Settling (o : ℕ → ℕ → Bool) (c : ℕ) (whole : List ℕ) (total : ℕ) (climb : Climb) : Type 0 where
  pub rest : List ℕ
  pub is : climb.path ≡ packed rest
  pub same : left o c rest ≡ left o c whole
  pub below : Below c rest
  pub removed : ℕ
  pub held : removed + length rest ≡ c
  pub column_is : climb.column + removed ≡ 8
  pub sum : climb.number + weigh c removed (arrival o c rest) ≡ total

-- they are made
pub record Settled (o : ℕ → ℕ → Bool) (c : ℕ) (whole : List ℕ) (total : ℕ) (climb : Climb) : Type 0 where
  pub is : climb.path ≡ packed (left o c whole)
  pub column_is : climb.column + c ≡ 8 + length (left o c whole)
  pub sum : climb.number ≡ total

module _ {o : ℕ → ℕ → Bool} {c : ℕ} {whole : List ℕ} {total : ℕ} {climb : Climb} (s : Settling o c whole total climb) where
  module _ (few : c ≤ 8) (some : 0 < climb.path) where
    settling_top : Top c climb.path s.rest
    settling_top = top_of c climb.path s.rest s.is s.below few some

    settling_more : o c (climb.path % 256 - 1) ≡ true
        → Settling o c whole total (record { path = climb.path / 256; column = climb.column - 1; number = climb.number + ballot (7 - c) climb.column })
    settling_more removes = grind (arith, common_steps, settling_top)

    settling_kept : o c (climb.path % 256 - 1) ≡ false → Settled o c whole total climb
    settling_kept kept =
        let t = settling_top in
        let stays : left o c s.rest ≡ s.rest = ap (left o c) t.is ∙ rw kept (sym t.is) in
        let none : weigh c s.removed (arrival o c s.rest) ≡ 0 = ap (λ st. weigh c s.removed (arrival o c st)) t.is ∙ rw kept in
        let all : s.rest ≡ left o c whole = sym stays ∙ s.same in
        record { is = s.is ∙ ap packed all; column_is = omega (arith, s.held, s.column_is, ap length all); sum = omega (arith, s.sum, none) }

  pub settling_empty : climb.path ≡ 0 → Settled o c whole total climb
  settling_empty none = from s.rest s.is s.same s.held s.sum
    where
      from : (rest : List ℕ) → climb.path ≡ packed rest → left o c rest ≡ left o c whole → s.removed + length rest ≡ c
          → climb.number + weigh c s.removed (arrival o c rest) ≡ total → Settled o c whole total climb
      from [] is same held sum = record { is = is ∙ ap packed same; column_is = omega (arith, held, s.column_is, ap length same); sum = omega (arith, sum) }
      from (t ∷ rest) is same held sum = absurd (omega (arith, is, none))

-- ---- one reading more

nth_push : {K : Type 0} (xs : List K) (x : K) → slice_get (xs ++ (x ∷ [])) (length xs) ≡ Some x
nth_push [] x = refl
nth_push (y ∷ xs) x = nth_push xs x

nth_front : {K : Type 0} (xs ys : List K) (i : ℕ) → i < length xs → slice_get (xs ++ ys) i ≡ slice_get xs i
nth_front [] ys i h = absurd (omega arith)
nth_front (x ∷ xs) ys zero h = refl
nth_front (x ∷ xs) ys (suc i) h = nth_front xs ys i (omega arith)

-- the reading x arrives behind a front
abbrev pub Arriving : {K : Type 0} → (K → K → Bool) → List K → K → Climb → Type 0
Arriving colder front x climb = Settling (against colder front x) (length front) (path (places colder front) (length front)) (shape colder (front ++ (x ∷ []))) climb

abbrev pub Arrived : {K : Type 0} → (K → K → Bool) → List K → K → Climb → Type 0
Arrived colder front x climb = Settled (against colder front x) (length front) (path (places colder front) (length front)) (shape colder (front ++ (x ∷ []))) climb

module _ {K : Type 0} (colder : K → K → Bool) (front : List K) (x : K) where
  all : List K
  all = front ++ (x ∷ [])

  n : ℕ
  n = length front

  longer : length all ≡ suc n
  unfolding all n
  longer = length_push front x ∙ (let e : length front + 1 ≡ suc (length front) = omega arith in e)

  agree : Agree n (places colder front) (places colder all)
  unfolding all n
  agree i j hi hj = grind (arith, common_steps, all, nth_front)

  -- the path before, by either list
  before : (path (places colder front) n ≡ path (places colder all) n) × (moves (places colder front) n ≡ moves (places colder all) n)
  before = same_moves (places colder front) (places colder all) n agree

  -- the arrival, by the reading and by its place
  arrives : (left (against colder front x) n (path (places colder front) n) ≡ left (places colder all) n (path (places colder all) n))
      × (arrival (against colder front x) n (path (places colder front) n) ≡ arrival (places colder all) n (path (places colder all) n))
  unfolding all n
  arrives =
      let here = same_arrival (against colder front x) (places colder all) n (path (places colder front) n)
      (λ t h. ap (λ a. colder_or_missing colder a (slice_get front t)) (sym (nth_push front x)) ∙ ap (colder_or_missing colder (slice_get all n)) (sym (nth_front front (x ∷ []) t h)))
      (path_below (places colder front) n) in
      (here.0 ∙ ap (left (places colder all) n) before.0, here.1 ∙ ap (arrival (places colder all) n) before.0)

  module _ {climb : Climb} where
    pub arriving_start : Climbs colder front climb → Arriving colder front x climb
    unfolding moves all n
    arriving_start s =
        grind (arith, common_steps, all, arrivals, arrivals_moves, arrives, before, longer, n, path_below, removals, removals_moves, weigh_append)

    pub arrived_joins : Arrived colder front x climb
        → Climbs colder (front ++ (x ∷ [])) (record { path = 256 * climb.path + (length front + 1); column = climb.column; number = climb.number })
    unfolding path all n
    arrived_joins s = grind (arith, common_steps, all, arrives, longer, n)

    module _ (s : Arriving colder front x climb) (few : length front < 8) where
      -- what is left of the path fits
      pub arriving_fits : climb.path < 2 ^ 56
      arriving_fits = omega (arith, s.is, packed_fits (length front) s.rest (omega arith) (omega (arith, s.held)) s.below)

      -- the number is below 1,430 and stays so
      pub arriving_bound : climb.number < 1430
      arriving_bound = omega (arith, s.sum, number_bound (places colder (front ++ (x ∷ []))) (length (front ++ (x ∷ []))) (omega (arith, length_push front x)))

      module _ (some : 0 < climb.path) where
        pub arriving_top : Top (length front) climb.path s.rest
        arriving_top = top_of (length front) climb.path s.rest s.is s.below (omega arith) some

        module _ (y : K) (is : y ≡ get_or front (climb.path % 256 - 1) y) where
          test : against colder front x (length front) (climb.path % 256 - 1) ≡ colder x y
          test = ap (colder_or_missing colder (Some x)) (slice_get_read front (length front) (climb.path % 256 - 1) y refl arriving_top.within is)

          -- y is removed
          pub arriving_more : colder x y ≡ true
              → Arriving colder front x (record { path = climb.path / 256; column = climb.column - 1; number = climb.number + ballot (7 - length front) climb.column })
          arriving_more removed = settling_more s (omega arith) some (test ∙ removed)

          -- y stays
          pub arriving_kept : colder x y ≡ false → Arrived colder front x climb
          arriving_kept kept = settling_kept s (omega arith) some (test ∙ kept)
