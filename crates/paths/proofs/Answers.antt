-- From a shape number to the answers of every block that carries it, and from the answers back to the number.
-- Assumes nothing.
use Rattle.std.proofs.Common.{◌≡◌, ℕ, zero, suc, ◌<◌, ◌≤◌, Bool, true, false, cond, List, [], ◌∷◌, ◌++◌, replicate, sym, refl, ap, ◌∙◌, subst, arith}
use Rattle.std.proofs.lemmas.Grind.{common_steps}
use Rattle.std.proofs.lemmas.Bool.{cases_Bool, cases_order, both_ways}
use Rattle.reading.specs.Order.{Orders}
use Rattle.reading.specs.Coldest.{FirstColdest}
use Rattle.paths.specs.Cell.{path_of, seat, up_to, retrace, lowest_from}
use Rattle.paths.specs.Laws.{SameFirsts, AnswersFirsts}
use Rattle.paths.specs.Number.{number}
use Rattle.paths.specs.Path.{left, arrival, path, moves}
use Rattle.paths.specs.Stack.{Below}
use Rattle.paths.proofs.Moves.{path_below, retrace_moves, up_to_of_moves}
use Rattle.paths.proofs.Paths.{Stays, path_good, path_first, leads_from_first}
use Rattle.paths.proofs.Ranks.{moves_of_number}

-- ---- from a number to the answers

pub path_of_number : (o : ℕ → ℕ → Bool) (m j : ℕ) → m ≤ 8 → j < m → path_of (number o m) j ≡ path o (suc j)
unfolding path_of
path_of_number o m j h k = grind (arith, common_steps, moves_of_number, replicate, retrace_moves, up_to_of_moves)

pub seat_answers : AnswersFirsts seat
unfolding seat
seat_answers o laws m i j h l k = rw (path_of_number o m j h k) (path_first laws i j l)

-- ---- from the answers to the moves

module _ {o u : ℕ → ℕ → Bool} (lo : Orders o) (lu : Orders u) (c : ℕ) where
  -- a place that stays until c arrives: whether c is colder shows in the first coldest place
  removes : (t p : ℕ) → t < c → ((q : ℕ) → t < q → q < c → u q t ≡ false) → FirstColdest o t c p → FirstColdest u t c p → o c t ≡ true → u c t ≡ true
  removes t p h stays fo fu d = grind (arith, common_steps, both_ways, cases_Bool, cases_order, leads_from_first)

same_test : (a b : Bool) → (a ≡ true → b ≡ true) → (b ≡ true → a ≡ true) → a ≡ b
same_test true b f g = sym (f refl)
same_test false true f g = g refl
same_test false false f g = refl

module _ {o u : ℕ → ℕ → Bool} (lo : Orders o) (lu : Orders u) where
  same_step : (c : ℕ) (st : List ℕ) → Below c st → Stays o c st → Stays u c st
      → ((t : ℕ) → t < c → (p : ℕ) × FirstColdest o t c p × FirstColdest u t c p)
      → (left o c st ≡ left u c st) × (arrival o c st ≡ arrival u c st)
  same_step c [] below so su firsts = (refl, refl)
  same_step c (t ∷ st) below so su firsts =
      let f = firsts t below.0 in
      let same : o c t ≡ u c t =
      same_test (o c t) (u c t) (removes lo lu c t f.0 below.0 su.0 f.1 f.2) (removes lu lo c t f.0 below.0 so.0 f.2 f.1) in
      let rest = same_step c st below.1 so.1 su.1 firsts in (
        ap (λ b. cond b (left o c st) (t ∷ st)) same ∙ ap (λ l. cond (u c t) l (t ∷ st)) rest.0,
        ap (λ b. cond b (false ∷ arrival o c st) (true ∷ [])) same ∙ ap (λ l. cond (u c t) (false ∷ l) (true ∷ [])) rest.1,
      )

  pub moves_from_firsts : (n : ℕ) → SameFirsts n o u → (path o n ≡ path u n) × (moves o n ≡ moves u n)
  unfolding path moves
  moves_from_firsts zero firsts = (refl, refl)
  moves_from_firsts (suc n) firsts =
      let before = moves_from_firsts n (λ i j h k. firsts i j h (omega arith)) in
      let here = same_step n (path o n) (path_below o n) (path_good lo n).stays
      (subst (λ (st : List ℕ). Stays u n st) (sym before.0) (path_good lu n).stays) (λ t h. firsts t n (omega arith) (omega arith)) in (
        ap (λ st. n ∷ st) (here.0 ∙ ap (left u n) before.0),
        ap (λ ms. ms ++ arrival o n (path o n)) before.1 ∙ ap (λ ms. moves u n ++ ms) (here.1 ∙ ap (arrival u n) before.0),
      )

  -- equal moves, equal answers
  pub firsts_from_moves : (n : ℕ) → moves o n ≡ moves u n → SameFirsts n o u
  firsts_from_moves n same i j h k =
      let paths : path o (suc j) ≡ path u (suc j) =
      sym (retrace_moves o (suc j)) ∙ ap (retrace 0 []) (sym (up_to_of_moves o j n [] k) ∙ ap (λ ms. up_to j (ms ++ [])) same ∙ up_to_of_moves u j n [] k) ∙ retrace_moves u (suc j) in
      (lowest_from i j (path o (suc j)), path_first lo i j h, rw paths (path_first lu i j h))
