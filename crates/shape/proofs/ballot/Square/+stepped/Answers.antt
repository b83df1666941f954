use Rattle.std.proofs.Common.{◌≡◌, ℕ, suc, ◌+◌, ◌-◌, sym, ap, ◌∙◌, subst, arith}
use Rattle.paths.specs.Ballot.{ballot}
use Rattle.paths.proofs.Ranks.{ballot_rule, ballot_back}
use Rattle.shape.proofs.Table.{ballot_small}
use Rattle.shape.proofs.ballot.Square.+stepped.Goals as goal

pub returns-then-q-p : goal.returns-then-q-p
returns-then-q-p t c = sym (ballot_rule.elsewhere c.args.self.p c.args.self.q c.if-q-p.true)

pub returns-then-q-eq0 : goal.returns-then-q-eq0
returns-then-q-eq0 t c =
    let p : c.args.self.p ≡ 0 = omega arith in
    let q : c.args.self.q ≡ 0 = omega arith in
    rw (p, q) (sym ballot_rule.start)

pub returns-then-p-eq0 : goal.returns-then-p-eq0
returns-then-p-eq0 t c =
    let p : c.args.self.p ≡ 0 = c.if-p-eq0.true in
    let q : c.args.self.q ≡ suc (c.args.self.q - 1) = omega (arith, c.if-q-eq0.false) in
    let one : ballot 0 c.args.self.q ≡ ballot 0 (c.args.self.q - 1) =
    subst (λ (x : ℕ). ballot 0 x ≡ ballot 0 (c.args.self.q - 1)) (sym q) (ballot_rule.edge (c.args.self.q - 1)) in
    c.stepped-left.ensures ∙ ap (λ x. ballot x (c.args.self.q - 1)) p ∙ sym one ∙ ap (λ x. ballot x c.args.self.q) (sym p)

module _ (t : ℕ) (c : goal.After-stepped t) where
  sum : c.stepped-left.result + c.stepped.result ≡ ballot c.args.self.p c.args.self.q
  sum =
      omega (arith, c.stepped-left.ensures, c.stepped.ensures, ballot_back c.args.self.p c.args.self.q c.if-q-p.false (omega (arith, c.if-p-eq0.false)) (omega (arith, c.if-q-eq0.false)))

pub overflow_add-result : goal.overflow_add-result
overflow_add-result t c = omega (arith, sum t c, ballot_small c.args.self.p c.args.self.q c.args.self.p_within c.args.self.q_within)

pub returns : goal.returns
returns t c = sum t c
