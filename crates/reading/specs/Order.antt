-- What it is to say of two readings, or of two places, whether the first is colder than the second.
-- Assumes nothing.
use Rattle.std.specs.Prelude.{◌≡◌, Bool, true, false}

-- the laws of colder; two tie when neither is colder
pub record Orders {K : Type 0} (colder : K → K → Bool) : Type 0 where
  pub irreflexive : (a : K) → colder a a ≡ false
  pub transitive : (a b c : K) → colder a b ≡ true → colder b c ≡ true → colder a c ≡ true
  pub chained : (a b c : K) → colder a b ≡ false → colder b c ≡ false → colder a c ≡ false
