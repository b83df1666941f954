-- What a path is: each place on it has passed what lies between it and the place below, and stays until a colder one comes.
-- Assumes nothing.
use Rattle.std.proofs.Common.{◌≡◌, ℕ, zero, suc, ◌<◌, ◌≤◌, Bool, true, false, leb, List, [], ◌∷◌, refl, ⊎_elim, arith}
use Rattle.std.proofs.lemmas.Grind.{common_steps}
use Rattle.std.proofs.lemmas.Bool.{cases_Bool, cases_order, cases_lt, both_ways, leb-true, leb-false, le-leb}
use Rattle.reading.specs.Order.{Orders}
use Rattle.reading.specs.Coldest.{FirstColdest}
use Rattle.paths.specs.Path.{left, path}
use Rattle.paths.specs.Cell.{lowest_from}

-- the lowest place above a path
abbrev pub floor : List ℕ → ℕ
floor [] = 0
floor (u ∷ rest) = suc u

-- t is not colder than the last place of a path
abbrev pub Kept : (ℕ → ℕ → Bool) → ℕ → List ℕ → Type 0
Kept o t [] = Unit {0}
Kept o t (u ∷ rest) = o t u ≡ false

-- how a place t sits on the path below it
pub record Sits (o : ℕ → ℕ → Bool) (t : ℕ) (below : List ℕ) : Type 0 where
  pub above : floor below ≤ t
  pub passed : (s : ℕ) → floor below ≤ s → s < t → o t s ≡ true
  pub kept : Kept o t below

abbrev pub Settled : (ℕ → ℕ → Bool) → List ℕ → Type 0
Settled o [] = Unit {0}
Settled o (t ∷ below) = Sits o t below × Settled o below

-- no place below c is colder than an earlier one on the path
abbrev pub Stays : (ℕ → ℕ → Bool) → ℕ → List ℕ → Type 0
Stays o c [] = Unit {0}
Stays o c (t ∷ below) = ((q : ℕ) → t < q → q < c → o q t ≡ false) × Stays o c below

module _ {o : ℕ → ℕ → Bool} (laws : Orders o) where
  pub asymmetric : (a b : ℕ) → o a b ≡ true → o b a ≡ false
  asymmetric a b h = grind (arith, common_steps, both_ways, cases_Bool)

  -- ---- an arrival

  pub left_settled : (c : ℕ) (st : List ℕ) → Settled o st → Settled o (left o c st)
  left_settled c [] s = tt
  left_settled c (t ∷ st) s =
      ⊎_elim (λ (d : o c t ≡ true). rw d (left_settled c st s.1)) (λ (d : o c t ≡ false). rw d s) (cases_Bool (o c t))

  pub left_sits : (c : ℕ) (st : List ℕ) → Settled o st → floor st ≤ c → ((s : ℕ) → floor st ≤ s → s < c → o c s ≡ true) → Sits o c (left o c st)
  left_sits c [] settled above passed = record { above = above; passed = passed; kept = tt }
  left_sits c (t ∷ st) settled above passed =
      ⊎_elim
      (λ (d : o c t ≡ true).
      rw d (left_sits c st settled.1 (omega (arith, settled.0.above))
      (λ s low high.
      ⊎_elim (λ (e : s ≡ t). rw e d)
      (⊎_elim (λ (e : s < t). laws.transitive c t s d (settled.0.passed s low e)) (λ (e : t < s). passed s e high))
      (cases_order s t))))
      (λ (d : o c t ≡ false). rw d (record { above = above; passed = passed; kept = d }))
      (cases_Bool (o c t))

  -- what stays below c stays at c too, under a path whose last place stays
  pub stays_more : (c : ℕ) (st : List ℕ) → Settled o st → Stays o c st → Kept o c st → Stays o (suc c) st
  stays_more c [] settled stays kept = tt
  stays_more c (t ∷ st) settled stays kept = (
    (λ q low high. ⊎_elim (λ (e : q ≡ c). rw e kept)
        (⊎_elim (λ (e : q < c). stays.0 q low e) (λ (e : c < q). absurd (omega arith))) (cases_order q c)),
    stays_more c st settled.1 stays.1 (below st settled.0),
  )
    where
      below : (rest : List ℕ) → Sits o t rest → Kept o c rest
      below [] sits = tt
      below (u ∷ rest) sits = laws.chained c t u kept sits.kept

  pub left_stays : (c : ℕ) (st : List ℕ) → Stays o c st → Stays o c (left o c st)
  left_stays c [] s = tt
  left_stays c (t ∷ st) s =
      ⊎_elim (λ (d : o c t ≡ true). rw d (left_stays c st s.1)) (λ (d : o c t ≡ false). rw d s) (cases_Bool (o c t))

  -- ---- the path after n arrivals

  pub record Good (n : ℕ) (st : List ℕ) : Type 0 where
    pub settled : Settled o st
    pub stays : Stays o n st
    pub top : floor st ≡ n

  pub path_good : (n : ℕ) → Good n (path o n)
  unfolding path
  path_good zero = record { settled = tt; stays = tt; top = refl }
  path_good (suc n) =
      let g : Good n (path o n) = path_good n in
      let sits : Sits o n (left o n (path o n)) = left_sits n (path o n) g.settled (omega (arith, g.top)) (λ s low high. absurd (omega (arith, g.top))) in
      record {
        settled = (sits, left_settled n (path o n) g.settled);
        stays = ((λ q low high. absurd (omega arith)), stays_more n (left o n (path o n)) (left_settled n (path o n) g.settled) (left_stays n (path o n) g.stays) sits.kept);
        top = refl;
      }

  -- ---- the first coldest place, read off the path

  -- what follows from being the first coldest place, and is enough for it
  pub record Leads (l r p : ℕ) : Type 0 where
    pub from : l ≤ p
    pub to : p ≤ r
    pub before : (q : ℕ) → l ≤ q → q < p → o p q ≡ true
    pub after : (q : ℕ) → p < q → q ≤ r → o q p ≡ false

  pub first_from_leads : (l r p : ℕ) → Leads l r p → FirstColdest o l r p
  first_from_leads l r p leads = record {
    from = leads.from;
    to = leads.to;
    coldest = λ q low high.
        ⊎_elim (λ (e : q ≡ p). rw e (laws.irreflexive p))
        (⊎_elim (λ (e : q < p). asymmetric p q (leads.before q low e)) (λ (e : p < q). leads.after q e high))
        (cases_order q p);
    lowest = λ q low high coldest.
        ⊎_elim (λ (e : q < p). absurd (both_ways (o p q) (coldest p leads.from leads.to) (leads.before q low e)))
        (λ (e : p ≤ q). e) (cases_lt q p);
  }

  pub leads_from_first : (l r p : ℕ) → FirstColdest o l r p → Leads l r p
  leads_from_first l r p first = record {
    from = first.from;
    to = first.to;
    before = λ q low high.
        ⊎_elim (λ (d : o p q ≡ true). d)
        (λ (d : o p q ≡ false).
        absurd (not_below q p high
        (first.lowest q low (omega (arith, first.to)) (λ s from to. laws.chained s p q (first.coldest s from to) d))))
        (cases_Bool (o p q));
    after = λ q low high. first.coldest q (omega (arith, first.from)) high;
  }
    where
      not_below : (a b : ℕ) → a < b → b ≤ a → ⊥
      not_below a b h k = omega arith

  pub lowest_leads : (i j p : ℕ) (st : List ℕ) → Sits o p st → Settled o st → Stays o (suc j) st → i ≤ p → p ≤ j
      → ((q : ℕ) → p < q → q ≤ j → o q p ≡ false) → Leads i j (lowest_from i p st)
  lowest_leads i j p [] sits settled stays low high after =
      record { from = low; to = high; before = λ q l h. sits.passed q (omega arith) h; after = after }
  lowest_leads i j p (u ∷ st) sits settled stays low high after =
      ⊎_elim
      (λ (d : leb i u ≡ true).
      rw d (lowest_leads i j u st settled.0 settled.1 stays.1 (leb-true i u d) (omega (arith, sits.above))
      (λ q l h. stays.0 q l (omega arith))))
      (λ (d : leb i u ≡ false).
      rw d (record { from = low; to = high; before = λ q l h. sits.passed q (omega (arith, leb-false i u d)) h; after = after }))
      (cases_Bool (leb i u))

  -- the lowest place from i on, on the path just after j arrived, is the first coldest place of i to j
  pub path_first : (i j : ℕ) → i ≤ j → FirstColdest o i j (lowest_from i j (path o (suc j)))
  unfolding path
  path_first i j h =
      let g : Good (suc j) (path o (suc j)) = path_good (suc j) in
      first_from_leads i j _ (
      rw (le-leb i j h) (lowest_leads i j j (left o j (path o j)) g.settled.0 g.settled.1 g.stays.1 h (omega arith) (λ q l k. absurd (omega arith))))

pub first_unique : {o : ℕ → ℕ → Bool} {l r p q : ℕ} → FirstColdest o l r p → FirstColdest o l r q → p ≡ q
first_unique {o} {l} {r} {p} {q} a b =
    omega (arith, a.lowest q b.from b.to b.coldest, b.lowest p a.from a.to a.coldest)
