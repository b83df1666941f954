use Rattle.std.proofs.Common.{◌-◌, ◌<◌, add-one, arith}
use Rattle.paths.specs.Ballot.{ballot}
use Rattle.shape.proofs.Walks.{walking_none, walking_some, walking_removes, walking_fits, walking_arrives, walking_ends}
use Rattle.shape.proofs.walk.path_mask.Goals as goal
use Rattle.shape.proofs.walk.path_mask.Goals.{After-entry}

pub loop-place-init : goal.loop-place-init
loop-place-init c = record { onward = λ h. walking_none c.args.number c.args.end c.requires.number_within; over = λ h. absurd (omega arith) }

pub overflow_sub-path : goal.overflow_sub-path
overflow_sub-path c =
    walking_some c.loop-rest.invariant (omega (arith, c.loop-rest.invariant.within, c.requires.end_within)) (omega (arith, c.entry.ensures, c.loop-rest-test.true))

pub loop-rest-preserved : goal.loop-rest-preserved
loop-rest-preserved c =
    rw (c.entry-rest.ensures, add-one)
    (walking_removes c.loop-rest.invariant (omega (arith, c.loop-rest.invariant.within, c.requires.end_within)) (omega (arith, c.entry.ensures, c.loop-rest-test.true)))

pub overflow_add-path : goal.overflow_add-path
overflow_add-path c = omega (arith, walking_fits c.loop-rest.invariant (omega (arith, c.loop-rest.invariant.within, c.requires.end_within)))

pub loop-place-preserved : goal.loop-place-preserved
loop-place-preserved c =
    let few : c.loop-place.place < 8 = omega (arith, c.loop-rest.invariant.within, c.requires.end_within) in
    let arrives : c.loop-rest.rest < ballot (7 - c.loop-place.place) (8 - c.loop-rest.removed) = omega (arith, c.entry.ensures, c.loop-rest-test.false) in
    rw add-one (record {
      onward = λ on. walking_arrives c.loop-rest.invariant few arrives on;
      over = λ over. walking_ends c.loop-rest.invariant few arrives (omega (arith, c.loop-rest.invariant.within, over));
    })

pub returns-2 : goal.returns-2
returns-2 c =
    let few : c.loop-place.place < 8 = omega (arith, c.loop-rest.invariant.within, c.requires.end_within) in
    let arrives : c.loop-rest.rest < ballot (7 - c.loop-place.place) (8 - c.loop-rest.removed) = omega (arith, c.entry.ensures, c.loop-rest-test.false) in
    walking_ends c.loop-rest.invariant few arrives (omega arith)
