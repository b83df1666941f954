use Rattle.std.proofs.Common.{◌∙◌}
use Rattle.strip.proofs.asking.last_least.Goals as goal

pub loop-search-preserved : goal.loop-search-preserved
loop-search-preserved c =
    let same = c.loop-search.invariant.strip in
    record {
      strip = c.step-search.ensures.searched.further.strip ∙ same;
      best = rw same at c.step-search.ensures.searched.best c.args.from c.loop-search.invariant.best;
      place = c.step-search.ensures.place;
    }
