use Rattle.std.proofs.Common.{get_or, ◌∙◌, ◌+◌, ◌*◌, ap, arith}
use Rattle.firing_log.proofs.Seats.{seated, passed}
use Rattle.firing_log.proofs.backed.Backed.in_block.Goals as goal

pub overflow_add-block : goal.overflow_add-block
overflow_add-block g c =
    let s = seated (g.S.Answerer.seats c.args.answerer.now) (g.met.S.Answerer.firsts c.args.answerer.now) (get_or c.args.self.now.shapes.now c.args.block 0)
    c.args.from c.args.to c.requires.range.0 c.requires.range.1 c.in_ok-place.place
    (passed c.first_coldest.result c.in_ok-place.place _ c.in_ok-place.ensures.variant c.in_ok-place.ensures.cases ∙ c.first_coldest.ensures) in
    omega (arith, s.to)

pub at-requires : goal.at-requires
at-requires g c =
    let s = seated (g.S.Answerer.seats c.args.answerer.now) (g.met.S.Answerer.firsts c.args.answerer.now) (get_or c.args.self.now.shapes.now c.args.block 0)
    c.args.from c.args.to c.requires.range.0 c.requires.range.1 c.in_ok-place.place
    (passed c.first_coldest.result c.in_ok-place.place _ c.in_ok-place.ensures.variant c.in_ok-place.ensures.cases ∙ c.first_coldest.ensures) in
    omega (arith, s.to)

pub returns : goal.returns
returns g c =
    let s = seated (g.S.Answerer.seats c.args.answerer.now) (g.met.S.Answerer.firsts c.args.answerer.now) (get_or c.args.self.now.shapes.now c.args.block 0)
    c.args.from c.args.to c.requires.range.0 c.requires.range.1 c.in_ok-place.place
    (passed c.first_coldest.result c.in_ok-place.place _ c.in_ok-place.ensures.variant c.in_ok-place.ensures.cases ∙ c.first_coldest.ensures) in
    rw s.numbered (c.at.ensures.place ∙ ap (λ p. 8 * c.args.block + p) s.place, c.at.ensures.stands)
