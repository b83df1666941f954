use Rattle.std.proofs.Common.{◌<◌, length, sym, ap, ◌∙◌, arith}
use Rattle.reading.specs.Coldest.{places}
use Rattle.reading.proofs.Compared.{places_read}
use Rattle.firing_log.proofs.Draws.{lowered_none, lowered_all, top_below, lowered_more, lowered_kept}
use Rattle.firing_log.proofs.strip.trim.Goals as goal

pub loop-height-init : goal.loop-height-init
loop-height-init g c = lowered_none (places g.K.Reading.colder c.args.readings.now) c.args.place c.args.path.now c.requires.below

pub offset_bounds-readings-from : goal.offset_bounds-readings-from
offset_bounds-readings-from g c = omega (arith, top_below c.loop-height.invariant c.loop-height-test.true, c.requires.within, c.from.ensures)

pub bounds-readings-from : goal.bounds-readings-from
bounds-readings-from g c = omega (arith, top_below c.loop-height.invariant c.loop-height-test.true, c.requires.within, c.from.ensures)

pub loop-height-preserved : goal.loop-height-preserved
loop-height-preserved g c =
    let within : c.from.result < length c.args.readings.now = omega (arith, top_below c.loop-height.invariant c.loop-height-test.true, c.requires.within, c.from.ensures) in
    let test = places_read g.K.Reading.colder c.args.readings.now c.args.place c.from.result c.index-readings-place.result c.index-readings-from.result
    c.requires.within within c.index-readings-place.is c.index-readings-from.is in
    lowered_more c.loop-height.invariant c.loop-height-test.true (ap (places g.K.Reading.colder c.args.readings.now c.args.place) (sym c.from.ensures) ∙ test ∙ sym c.if-is_colder.ensures)

pub returns-else-is_colder : goal.returns-else-is_colder
returns-else-is_colder g c =
    let within : c.from.result < length c.args.readings.now = omega (arith, top_below c.loop-height.invariant c.loop-height-test.true, c.requires.within, c.from.ensures) in
    let test = places_read g.K.Reading.colder c.args.readings.now c.args.place c.from.result c.index-readings-place.result c.index-readings-from.result
    c.requires.within within c.index-readings-place.is c.index-readings-from.is in
    record {
      height = c.loop-height.invariant.lower;
      path = lowered_kept c.loop-height.invariant c.loop-height-test.true (ap (places g.K.Reading.colder c.args.readings.now c.args.place) (sym c.from.ensures) ∙ test ∙ sym c.if-is_colder.ensures);
    }

pub returns-after-loop-height : goal.returns-after-loop-height
returns-after-loop-height g c = record { height = c.loop-height.invariant.lower; path = lowered_all c.loop-height.invariant (omega arith) }
