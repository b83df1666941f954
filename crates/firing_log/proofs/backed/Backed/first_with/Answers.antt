use Rattle.std.proofs.Common.{sym, ◌∙◌, arith}
use Rattle.firing_log.proofs.Lists.{nth_set_same, nth_set_other}
use Rattle.firing_log.proofs.Seats.{seated}
use Rattle.firing_log.proofs.backed.Backed.first_with.Goals as goal

pub overflow_add-place : goal.overflow_add-place
overflow_add-place g c =
    let s = seated (g.S.Answerer.seats c.args.answerer.now) (g.met.S.Answerer.firsts c.args.answerer.now) c.args.number 0 7 (omega arith) (omega arith)
    c.unwrap.result (sym c.unwrap.ensures ∙ c.first_coldest.ensures) in
    omega (arith, s.to)

pub returns-then-place-count-clause-stands : goal.returns-then-place-count-clause-stands
returns-then-place-count-clause-stands g c = rw c.if-place-count.true (nth_set_same c.args.self.now.readings.now c.args.self.now.sheet.now.count c.args.reading (omega arith))

pub at-requires : goal.at-requires
at-requires g c =
    let s = seated (g.S.Answerer.seats c.args.answerer.now) (g.met.S.Answerer.firsts c.args.answerer.now) c.args.number 0 7 (omega arith) (omega arith)
    c.unwrap.result (sym c.unwrap.ensures ∙ c.first_coldest.ensures) in
    omega (arith, s.to, c.if-place-count.false)

pub returns-clause-stands : goal.returns-clause-stands
returns-clause-stands g c = nth_set_other c.args.self.now.readings.now c.args.self.now.sheet.now.count c.at.result.place c.args.reading
    (λ e. omega (arith, e, c.at.ensures.place, c.if-place-count.false)) ∙ c.at.ensures.stands
