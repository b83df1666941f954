-- The cells of the mask table, by index, and the first that is wrong.
-- Assumes nothing.
use Rattle.std.proofs.Common.{◌≡◌, ℕ, zero, suc, ◌+◌, ◌*◌, ◌/◌, ◌%◌, ◌<◌, true, false, eqb, ◌≢◌, List, [], ◌∷◌, length, get_or, Some, None, Ok, Err, Option, sym, refl, ap, ◌∙◌, ⊎_elim, mul_comm, arith}
use Rattle.std.proofs.lemmas.Grind.{common_steps}
use Rattle.std.proofs.lemmas.Nat.{div-mul-add, mod-mul-add, div_below, mod_below, div-add-mod'}
use Rattle.std.proofs.lemmas.List.FromFn.{length-map-range_with_len, get_or-map-range_with_len, fill_by_all}
use Rattle.std.proofs.lemmas.Bool.{cases_Bool, cases_order, eqb-true, eqb-false, eq-eqb}
use Rattle.paths.specs.Cell.{cell}
use Rattle.shape.specs.Masks.{cell_at, all_cells, first_wrong, cells_answer, opening_answer, Before, Opening}
use Rattle.shape.specs.declared.fault.TableFault.TheVariants.{WrongCell}

-- ---- by index

pub cell_at_place : (t j : ℕ) → j < 8 → cell_at (8 * t + j) ≡ cell t j
cell_at_place t j h = grind (arith, common_steps, div-mul-add, mod-mul-add, mul_comm)

index_before : (t j n e : ℕ) → j < 8 → Before t j n e → 8 * t + j < 8 * n + e
index_before t j n e h earlier = ⊎_elim (λ (lt : t < n). omega arith) (λ (same : (t ≡ n) × (j < e)). omega arith) earlier

pub length_all_cells : length all_cells ≡ 11440
unfolding all_cells
length_all_cells = length-map-range_with_len cell_at 0 11440

all_cells_at : (k : ℕ) → k < 11440 → get_or all_cells k 0 ≡ cell_at k
unfolding all_cells
all_cells_at k h = get_or-map-range_with_len cell_at 0 11440 k k 0 h (omega arith)

pub get_or_all_cells : (t j : ℕ) → t < 1430 → j < 8 → get_or all_cells (8 * t + j) 0 ≡ cell t j
get_or_all_cells t j h k = all_cells_at (8 * t + j) (omega arith) ∙ cell_at_place t j k

pub all_cells_from : (xs : List ℕ) → length xs ≡ 11440 → ((k : ℕ) → k < 11440 → get_or xs k 0 ≡ cell_at k) → xs ≡ all_cells
unfolding all_cells
all_cells_from xs e right = fill_by_all cell_at xs 11440 0 e right

-- ---- the first wrong cell

pub record Differs (k : ℕ) (xs : List ℕ) (n : ℕ) : Type 0 where
  pub at : ℕ
  pub is : n ≡ k + at
  pub within : at < length xs
  pub before : (i : ℕ) → i < at → get_or xs i 0 ≡ cell_at (k + i)
  pub differs : get_or xs at 0 ≢ cell_at (k + at)

-- what a scan of the cells that stand at index k and on finds
abbrev pub Scanned : ℕ → List ℕ → Option ℕ → Type 0
Scanned k xs None = (i : ℕ) → i < length xs → get_or xs i 0 ≡ cell_at (k + i)
Scanned k xs (Some n) = Differs k xs n

module _ (k x : ℕ) (xs : List ℕ) (here : x ≡ cell_at k) where
  next : (i : ℕ) → ((m : ℕ) → i ≡ suc m → get_or xs m 0 ≡ cell_at (suc k + m)) → get_or (x ∷ xs) i 0 ≡ cell_at (k + i)
  next zero later = let e : k + 0 ≡ k = omega arith in rw e here
  next (suc m) later = let e : k + suc m ≡ suc k + m = omega arith in rw e (later m refl)

  scanned_past : (o : Option ℕ) → Scanned (suc k) xs o → Scanned k (x ∷ xs) o
  scanned_past None right = λ i h. next i (λ m e. right m (omega arith))
  scanned_past (Some n) wrong =
      let e : k + suc wrong.at ≡ suc k + wrong.at = omega arith in
      record {
        at = suc wrong.at;
        is = omega (arith, wrong.is);
        within = omega (arith, wrong.within);
        before = λ i h. next i (λ m s. wrong.before m (omega arith));
        differs = rw e wrong.differs;
      }

pub scanned : (k : ℕ) (xs : List ℕ) → Scanned k xs (first_wrong k xs)
unfolding first_wrong
scanned k [] = λ i h. absurd (omega arith)
scanned k (x ∷ xs) = grind (arith, common_steps, cases_Bool, eqb-false, eqb-true, scanned_past, scanned (suc k) xs)

pub scanned_same : (k : ℕ) (xs : List ℕ) (o p : Option ℕ) → Scanned k xs o → Scanned k xs p → o ≡ p
scanned_same k xs None None a b = refl
scanned_same k xs None (Some n) a b = absurd (b.differs (a b.at b.within))
scanned_same k xs (Some m) None a b = absurd (a.differs (b a.at a.within))
scanned_same k xs (Some m) (Some n) a b = grind (arith, common_steps, cases_order)

-- ---- opening

module _ (cells : List ℕ) (long : length cells ≡ 11440) where
  opening_scanned : (o : Option ℕ) → Scanned 0 cells o → opening_answer cells ≡ cells_answer o
  opening_scanned o found = rw (eq-eqb (length cells) 11440 long) (ap cells_answer (scanned_same 0 cells (first_wrong 0 cells) o (scanned 0 cells) found))

  pub opening_wrong : (n e : ℕ) → n < 1430 → e < 8 → ((k : ℕ) → k < 8 * n + e → get_or cells k 0 ≡ cell_at k) → get_or cells (8 * n + e) 0 ≢ cell n e
      → opening_answer cells ≡ Err (WrongCell n e)
  opening_wrong n e hn he right wrong =
      let k : ℕ = 8 * n + e in
      let here : 0 + k ≡ k = omega arith in
      let turned : k ≡ n * 8 + e = omega (arith, mul_comm 8 n) in
      opening_scanned (Some k) (record {
        at = k;
        is = sym here;
        within = omega arith;
        before = λ i h. let z : 0 + i ≡ i = omega arith in rw z (right i h);
        differs = λ same. wrong (same ∙ ap cell_at here ∙ cell_at_place n e he);
      })
      ∙ ap (λ m. Err (WrongCell (m / 8) (m % 8))) turned
      ∙ ap (λ m. Err (WrongCell m ((n * 8 + e) % 8))) (div-mul-add n 8 e he)
      ∙ ap (λ m. Err (WrongCell n m)) (mod-mul-add n 8 e he)

-- for a caller: the table itself is opened
pub opening_all : opening_answer all_cells ≡ Ok tt
opening_all = opening_scanned all_cells length_all_cells None (λ i h. let e : 0 + i ≡ i = omega arith in rw e (all_cells_at i (omega (arith, length_all_cells))))

-- for a caller: each answer of an opening says what it should of the cells
pub opening_exact : (cells : List ℕ) → Opening cells (opening_answer cells)
opening_exact cells =
    ⊎_elim
    (λ (d : eqb (length cells) 11440 ≡ true). rw d (from (eqb-true (length cells) 11440 d) (first_wrong 0 cells) (scanned 0 cells)))
    (λ (d : eqb (length cells) 11440 ≡ false). rw d (eqb-false (length cells) 11440 d))
    (cases_Bool (eqb (length cells) 11440))
  where
    at_index : (k : ℕ) → get_or cells k 0 ≡ cell_at (0 + k) → get_or cells k 0 ≡ cell_at k
    at_index k h = let e : 0 + k ≡ k = omega arith in rw e at h

    from : length cells ≡ 11440 → (o : Option ℕ) → Scanned 0 cells o → Opening cells (cells_answer o)
    from long None right = all_cells_from cells long (λ k h. at_index k (right k (omega arith)))
    from long (Some k) wrong = grind (arith, common_steps, at_index, cell_at_place, div-add-mod', div_below, index_before, mod_below, mul_comm)
