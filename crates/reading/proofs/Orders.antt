-- Orders that are made of another. Assumes nothing.
use Rattle.std.proofs.Common.{◌≡◌, Bool, true, false, List, Some, None, Option, refl}
use Rattle.std.specs.List.{slice_get}
use Rattle.std.proofs.lemmas.Bool.{true≢false, false≢true}
use Rattle.reading.specs.Order.{Orders}
use Rattle.reading.specs.Coldest.{colder_or_missing, places}

-- an order of what a function gives
pub orders_by : {A K : Type 0} {colder : K → K → Bool} → Orders colder → (f : A → K) → Orders (λ a b. colder (f a) (f b))
orders_by laws f = record {
  irreflexive = λ a. laws.irreflexive (f a);
  transitive = λ a b c. laws.transitive (f a) (f b) (f c);
  chained = λ a b c. laws.chained (f a) (f b) (f c);
}

module _ {K : Type 0} {colder : K → K → Bool} (laws : Orders colder) where
  irreflexive : (a : Option K) → colder_or_missing colder a a ≡ false
  irreflexive None = refl
  irreflexive (Some a) = laws.irreflexive a

  transitive : (a b c : Option K) → colder_or_missing colder a b ≡ true → colder_or_missing colder b c ≡ true → colder_or_missing colder a c ≡ true
  transitive (Some a) (Some b) (Some c) h k = laws.transitive a b c h k
  transitive (Some a) (Some b) None h k = refl
  transitive (Some a) None (Some c) h k = absurd (false≢true k)
  transitive (Some a) None None h k = refl
  transitive None (Some b) c h k = absurd (false≢true h)
  transitive None None c h k = absurd (false≢true h)

  chained : (a b c : Option K) → colder_or_missing colder a b ≡ false → colder_or_missing colder b c ≡ false → colder_or_missing colder a c ≡ false
  chained (Some a) (Some b) (Some c) h k = laws.chained a b c h k
  chained (Some a) (Some b) None h k = k
  chained (Some a) None c h k = absurd (true≢false h)
  chained None b (Some c) h k = refl
  chained None b None h k = refl

  -- a missing reading keeps the laws
  pub missing_orders : Orders (colder_or_missing colder)
  missing_orders = record { irreflexive = irreflexive; transitive = transitive; chained = chained }

  -- the places of a list of readings are ordered as the readings are
  pub places_orders : (xs : List K) → Orders (places colder xs)
  places_orders xs = orders_by missing_orders (slice_get xs)
