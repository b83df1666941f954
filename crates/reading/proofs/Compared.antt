-- What a comparison of two elements of a slice says of their places.
-- Assumes nothing.
use Rattle.std.proofs.Common.{◌≡◌, ℕ, ◌<◌, Bool, List, length, get_or, Some, refl, ap, ◌∙◌}
use Rattle.std.specs.List.{slice_get}
use Rattle.std.proofs.lemmas.Option.{slice_get_read}
use Rattle.reading.specs.Coldest.{places, colder_or_missing}

-- for a caller: x and y were read at i and j
pub places_read : {K : Type 0} (colder : K → K → Bool) (xs : List K) (i j : ℕ) (x y : K)
    → i < length xs → j < length xs → x ≡ get_or xs i x → y ≡ get_or xs j y → places colder xs i j ≡ colder x y
places_read colder xs i j x y hi hj ex ey =
    ap (λ a. colder_or_missing colder a (slice_get xs j)) (slice_get_read xs (length xs) i x refl hi ex)
    ∙ ap (λ b. colder_or_missing colder (Some x) b) (slice_get_read xs (length xs) j y refl hj ey)
