use Rattle.std.proofs.Common.{◌+◌, ◌/◌, ◌<◌, refl, ◌∙◌, arith, length-set}
use Rattle.std.proofs.lemmas.Result.{err_from_is_err_and}
use Rattle.reading.specs.Coldest.{places}
use Rattle.firing_log.specs.Steps.{level}
use Rattle.firing_log.proofs.Rows.{halving, rise_more, rise_refused, rise_ends, level_refused, level_joined}
use Rattle.firing_log.proofs.backed.Backed.row_of.Goals as goal

pub overflow_sub-block : goal.overflow_sub-block
overflow_sub-block g c =
    let b = c.args.self.now.sheet.now.count / 8 in
    let below : c.loop-level.level < level (b + 1) = omega (arith, c.loop-level-test.true, c.top_level-level-end.ensures.level) in
    let h = halving b c.loop-level.level (omega arith) below in
    omega (arith, h.shifted, h.within, h.double, h.some)

pub entry-requires : goal.entry-requires
entry-requires g c =
    let b = c.args.self.now.sheet.now.count / 8 in
    let below : c.loop-level.level < level (b + 1) = omega (arith, c.loop-level-test.true, c.top_level-level-end.ensures.level) in
    let h = halving b c.loop-level.level (omega arith) below in
    record { full = omega (arith, h.shifted, h.some); level = omega (arith, h.shifted, h.within, h.double) }

pub returns-in_err-entry : goal.returns-in_err-entry
returns-in_err-entry g c =
    let b = c.args.self.now.sheet.now.count / 8 in
    let below : c.loop-level.level < level (b + 1) = omega (arith, c.loop-level-test.true, c.top_level-level-end.ensures.level) in
    let h = halving b c.loop-level.level (omega arith) below in
    let p = err_from_is_err_and c.from_residual.result c.from_residual.ensures.1 in
    let t = level_refused g.K.Reading.colder c.args.self.now.readings.now c.args.self.now.entries.now b c.loop-level.level _ h.within h.shifted c.in_err-entry.field-0.0 c.in_err-entry.ensures in
    λ rs holds same.
    rw (
      p.1,
      p.2,
      rise_refused g.K.Reading.colder c.args.self.now.entries.now b c.args.first rs (level (b + 1)) c.loop-level.level c.loop-level.best c.loop-level.row
          below (c.loop-level.invariant.1 rs holds same) (λ n. t.1 (places g.K.Reading.colder rs) n c.loop-level.best.place),
    ) t.0

pub loop-level-preserved : goal.loop-level-preserved
loop-level-preserved g c =
    let b = c.args.self.now.sheet.now.count / 8 in
    let below : c.loop-level.level < level (b + 1) = omega (arith, c.loop-level-test.true, c.top_level-level-end.ensures.level) in
    let h = halving b c.loop-level.level (omega arith) below in (
      length-set _ _ _ ∙ c.loop-level.invariant.0,
      λ rs holds same.
          rise_more g.K.Reading.colder c.args.self.now.entries.now b c.args.first rs (level (b + 1)) c.loop-level.level c.loop-level.best c.loop-level.row
          below (c.loop-level.invariant.1 rs holds same) c.or_colder-best.result _ h.within h.shifted c.args.self.now.readings.now (omega (arith, c.loop-level.invariant.0, c.top_level-level-end.ensures.few, c.loop-level-test.true))
          (level_joined g.K.Reading.colder c.args.self.now.readings.now c.args.self.now.entries.now b c.loop-level.level _ h.within h.shifted
          c.in_ok-entry.field-0 c.loop-level.best c.or_colder-best.result c.in_ok-entry.ensures c.or_colder-best.ensures rs (c.loop-level.invariant.1 rs holds same).holds same),
    )

pub returns : goal.returns
returns g c =
    λ rs holds same.
    rw (rise_ends g.K.Reading.colder c.args.self.now.entries.now (c.args.self.now.sheet.now.count / 8) c.args.first rs c.loop-level.level c.loop-level.best c.loop-level.row
    (omega (arith, c.loop-level-test.false, c.loop-level.auto.level-end, c.top_level-level-end.ensures.level)) (c.loop-level.invariant.1 rs holds same)) refl
