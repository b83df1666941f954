-- The constant mask table is right: one test over all its words, which antt computes.
-- Assumes nothing.
use Rattle.std.proofs.Common.{◌≡◌, ℕ, zero, suc, ◌+◌, ◌-◌, ◌<◌, Bool, true, false, cond, ◌&&◌, eqb, ltb, List, [], ◌∷◌, length, get_or, refl, ap, ◌∙◌, subst, arith}
use Rattle.std.proofs.lemmas.Bool.{and_parts, eqb-true}
use Rattle.paths.specs.Ballot.{ballot}
use Rattle.paths.specs.Cell.{unrank, moves_of, up_to, retrace, path_of, mask, cell}
use Rattle.shape.specs.Table.{every}
use Rattle.shape.proofs.Table.{every_at}
use Rattle.deck.specs.Words.{byte_at, RightWords}

-- ---- ballot numbers, looked up

abbrev rows : List (List ℕ)
rows =
    (1 ∷ (1 ∷ (1 ∷ (1 ∷ (1 ∷ (1 ∷ (1 ∷ (1 ∷ (1 ∷ [])))))))))
    ∷ ((0 ∷ (1 ∷ (2 ∷ (3 ∷ (4 ∷ (5 ∷ (6 ∷ (7 ∷ (8 ∷ [])))))))))
    ∷ ((0 ∷ (0 ∷ (2 ∷ (5 ∷ (9 ∷ (14 ∷ (20 ∷ (27 ∷ (35 ∷ [])))))))))
    ∷ ((0 ∷ (0 ∷ (0 ∷ (5 ∷ (14 ∷ (28 ∷ (48 ∷ (75 ∷ (110 ∷ [])))))))))
    ∷ ((0 ∷ (0 ∷ (0 ∷ (0 ∷ (14 ∷ (42 ∷ (90 ∷ (165 ∷ (275 ∷ [])))))))))
    ∷ ((0 ∷ (0 ∷ (0 ∷ (0 ∷ (0 ∷ (42 ∷ (132 ∷ (297 ∷ (572 ∷ [])))))))))
    ∷ ((0 ∷ (0 ∷ (0 ∷ (0 ∷ (0 ∷ (0 ∷ (132 ∷ (429 ∷ (1001 ∷ [])))))))))
    ∷ ((0 ∷ (0 ∷ (0 ∷ (0 ∷ (0 ∷ (0 ∷ (0 ∷ (429 ∷ (1430 ∷ []))))))))) ∷ [])))))))

abbrev looked : ℕ → ℕ → ℕ
looked p q = get_or (get_or rows p []) q 0

abbrev right_row : ℕ → List ℕ → Bool
right_row p row = eqb (length row) 9 && every (λ q x. eqb x (ballot p q)) 0 row

rows_right : every right_row 0 rows ≡ true
unfolding ballot
rows_right = refl

looked_is : (p q : ℕ) → p < 8 → q < 9 → looked p q ≡ ballot p q
looked_is p q hp hq =
    let row : right_row p (get_or rows p []) ≡ true =
    subst (λ (k : ℕ). right_row k (get_or rows p []) ≡ true) (let e : 0 + p ≡ p = omega arith in e) (every_at right_row rows 0 p [] rows_right hp) in
    let parts = and_parts (eqb (length (get_or rows p [])) 9) (every (λ q x. eqb x (ballot p q)) 0 (get_or rows p [])) row in
    let at : eqb (looked p q) (ballot p q) ≡ true =
    subst (λ (k : ℕ). eqb (looked p q) (ballot p k) ≡ true) (let e : 0 + q ≡ q = omega arith in e)
    (every_at (λ q x. eqb x (ballot p q)) (get_or rows p []) 0 q 0 parts.1 (omega (arith, eqb-true (length (get_or rows p [])) 9 parts.0))) in
    eqb-true (looked p q) (ballot p q) at

-- ---- moves, by the numbers that were looked up

-- a `let` is computed only on the way that is taken
abbrev ranked : ℕ → ℕ → ℕ → ℕ → List Bool
ranked zero c k t = []
ranked (suc steps) c k t =
    cond (ltb c 8)
    (cond (ltb t (looked (7 - c) (8 - k))) (let rest = ranked steps (suc c) k t in true ∷ rest)
    (let rest = ranked steps c (suc k) (t - looked (7 - c) (8 - k)) in false ∷ rest))
    []

ranked_is : (steps c k t : ℕ) → ranked steps c k t ≡ unrank steps c k t
ranked_is zero c k t = refl
ranked_is (suc steps) c k t =
    let is : looked (7 - c) (8 - k) ≡ ballot (7 - c) (8 - k) = looked_is (7 - c) (8 - k) (omega arith) (omega arith) in
    let arrives = ranked_is steps (suc c) k t in
    let removes : ranked steps c (suc k) (t - looked (7 - c) (8 - k)) ≡ unrank steps c (suc k) (t - ballot (7 - c) (8 - k)) =
    ranked_is steps c (suc k) (t - looked (7 - c) (8 - k)) ∙ ap (λ (n : ℕ). unrank steps c (suc k) (t - n)) is in
    ap (λ (m : List Bool). cond (ltb c 8) (cond (ltb t (looked (7 - c) (8 - k))) (true ∷ m) (false ∷ ranked steps c (suc k) (t - looked (7 - c) (8 - k)))) []) arrives
    ∙ ap (λ (m : List Bool). cond (ltb c 8) (cond (ltb t (looked (7 - c) (8 - k))) (true ∷ unrank steps (suc c) k t) (false ∷ m)) []) removes
    ∙ ap (λ (n : ℕ). cond (ltb c 8) (cond (ltb t n) (true ∷ unrank steps (suc c) k t) (false ∷ unrank steps c (suc k) (t - ballot (7 - c) (8 - k)))) []) is

-- ---- the test

abbrev ends : List ℕ
ends = 0 ∷ (0 ∷ (0 ∷ (0 ∷ (0 ∷ (0 ∷ (0 ∷ (0 ∷ [])))))))

-- the word has the masks of these moves
abbrev has_masks : ℕ → List Bool → Bool
has_masks word moves = every (λ j _. eqb (byte_at word j) (mask (retrace 0 [] (up_to j moves)))) 0 ends

abbrev right_word : ℕ → ℕ → Bool
right_word t word = has_masks word (ranked 16 0 0 t)

abbrev pub right_words : List ℕ → Bool
right_words words = eqb (length words) 1430 && every right_word 0 words

cell_right : (words : List ℕ) → right_words words ≡ true → (t j : ℕ) → t < 1430 → j < 8 → byte_at (get_or words t 0) j ≡ cell t j
unfolding moves_of path_of
cell_right words test t j ht hj =
    let parts = and_parts (eqb (length words) 1430) (every right_word 0 words) test in
    let word = get_or words t 0 in
    let row : right_word t word ≡ true =
    subst (λ (k : ℕ). right_word k word ≡ true) (let e : 0 + t ≡ t = omega arith in e)
    (every_at right_word words 0 t 0 parts.1 (omega (arith, eqb-true (length words) 1430 parts.0))) in
    let at : eqb (byte_at word j) (mask (retrace 0 [] (up_to j (ranked 16 0 0 t)))) ≡ true =
    subst (λ (k : ℕ). eqb (byte_at word k) (mask (retrace 0 [] (up_to k (ranked 16 0 0 t)))) ≡ true) (let e : 0 + j ≡ j = omega arith in e)
    (every_at (λ j _. eqb (byte_at word j) (mask (retrace 0 [] (up_to j (ranked 16 0 0 t))))) ends 0 j 0 row hj) in
    eqb-true (byte_at word j) _ at ∙ ap (λ (moves : List Bool). mask (retrace 0 [] (up_to j moves))) (ranked_is 16 0 0 t)

pub words_right : (words : List ℕ) → right_words words ≡ true → RightWords words
words_right words test = record { bytes = cell_right words test }
