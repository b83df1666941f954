use Rattle.std.proofs.Common.{◌+◌, ◌-◌, ◌/◌, sym, ◌∙◌, arith}
use Rattle.shape.proofs.Climbs.{Arriving, arriving_start, arriving_fits, arriving_bound, arriving_top, arriving_more, arriving_kept, settling_empty, arrived_joins}
use Rattle.shape.proofs.number.Climb.arrive.Given as given
use Rattle.shape.proofs.number.Climb.arrive.Goals as goal
use Rattle.shape.proofs.number.Climb.arrive.Goals.{After-entry, then-loop-self-test+else-removes, else-loop-self-test}

pub loop-self-init : goal.loop-self-init
loop-self-init g c = arriving_start g.K.Reading.colder c.args.front.now c.args.reading c.requires.climbs

pub overflow_sub-self : goal.overflow_sub-self
overflow_sub-self g c = (arriving_top g.K.Reading.colder c.args.front.now c.args.reading c.loop-self.invariant c.requires.few c.loop-self-test.true).some

pub offset_bounds-front-self : goal.offset_bounds-front-self
offset_bounds-front-self g c = omega (arith, (arriving_top g.K.Reading.colder c.args.front.now c.args.reading c.loop-self.invariant c.requires.few c.loop-self-test.true).within)

pub bounds-front-self : goal.bounds-front-self
bounds-front-self g c = (arriving_top g.K.Reading.colder c.args.front.now c.args.reading c.loop-self.invariant c.requires.few c.loop-self-test.true).within

-- the removal that is being made
made : (g : given.Over) (c : goal.After-entry g)
    → Arriving g.K.Reading.colder c.args.front.now c.args.reading
    (record { path = c.loop-self.self.path / 256; column = c.loop-self.self.column - 1; number = c.loop-self.self.number + c.entry.result })
made g c =
    rw c.entry.ensures
    (arriving_more g.K.Reading.colder c.args.front.now c.args.reading c.loop-self.invariant c.requires.few c.loop-self-test.true c.index-front-self.result
    c.index-front-self.is (sym c.removes.ensures ∙ c.if-removes.true))

pub overflow_add-self : goal.overflow_add-self
overflow_add-self g c = omega (arith, arriving_bound g.K.Reading.colder c.args.front.now c.args.reading (made g c) c.requires.few)

pub loop-self-preserved : goal.loop-self-preserved
loop-self-preserved g c = made g (goal.at.loop-self-preserved g c).After-entry

pub overflow_mul-self : goal.overflow_mul-self
overflow_mul-self g c = omega (arith, arriving_fits g.K.Reading.colder c.args.front.now c.args.reading c.loop-self.invariant c.requires.few)

pub overflow_add-self-3 : goal.overflow_add-self-3
overflow_add-self-3 g c = omega (arith, c.requires.few, arriving_fits g.K.Reading.colder c.args.front.now c.args.reading c.loop-self.invariant c.requires.few)

pub returns : goal.returns
returns g c =
    arrived_joins g.K.Reading.colder c.args.front.now c.args.reading (elim c.loop-self-test.branch [
      | then-loop-self-test+else-removes w ↦
          arriving_kept g.K.Reading.colder c.args.front.now c.args.reading c.loop-self.invariant c.requires.few w.loop-self-test.true w.index-front-self.result
          w.index-front-self.is (sym w.removes.ensures ∙ w.if-removes.false)
      | else-loop-self-test w ↦ settling_empty c.loop-self.invariant (omega (arith, w.loop-self-test.false))
    ])
