use Rattle.std.proofs.Common.{◌+◌, ◌-◌, ◌*◌, pos, ap, ◌∙◌, arith, w32}
use Rattle.std.proofs.lemmas.Int.{to_z_pos}
use Rattle.firing_log.specs.Of.{state_of}
use Rattle.reading.proofs.Lawful.{tenths_orders}
use Rattle.strip.specs.Of.Strip.{strip_bytes}
use Rattle.strip.proofs.Appends.{replay_more, replay_ends, never_refused, reading_fits}
use Rattle.strip.proofs.replays.replaying.append_all.Goals as goal

pub overflow_mul-tenths : goal.overflow_mul-tenths
overflow_mul-tenths g c =
    let depth = rw (c.loop-place.invariant.strip, c.loop-place.invariant.place) at c.advance-cursor.ensures.depth in
    omega (arith, reading_fits (strip_bytes c.args.strip.now) c.args.strip.now.sound c.loop-place.place c.advance-cursor.result.height (omega (arith, c.loop-place-test.true)) depth)

pub overflow_sub-tenths : goal.overflow_sub-tenths
overflow_sub-tenths g c =
    let depth = rw (c.loop-place.invariant.strip, c.loop-place.invariant.place) at c.advance-cursor.ensures.depth in
    omega (arith, reading_fits (strip_bytes c.args.strip.now) c.args.strip.now.sound c.loop-place.place c.advance-cursor.result.height (omega (arith, c.loop-place-test.true)) depth)

pub overflow_cast-tenths : goal.overflow_cast-tenths
overflow_cast-tenths g c =
    let depth = rw (c.loop-place.invariant.strip, c.loop-place.invariant.place) at c.advance-cursor.ensures.depth in
    omega (arith, reading_fits (strip_bytes c.args.strip.now) c.args.strip.now.sound c.loop-place.place c.advance-cursor.result.height (omega (arith, c.loop-place-test.true)) depth)

pub unwrap-requires : goal.unwrap-requires
unwrap-requires g c =
    rw c.append.ensures.result (never_refused tenths_orders (g.S.Answerer.seats c.args.answerer.now) (g.met.S.Answerer.firsts c.args.answerer.now) (strip_bytes c.args.strip.now) (state_of c.args.sheet.now c.args.memory.now)
    c.loop-place.place (state_of c.loop-place.sheet c.loop-place.memory) c.loop-place.invariant.replaying (omega (arith, c.loop-place-test.true)) c.requires.room _)

pub loop-place-preserved : goal.loop-place-preserved
loop-place-preserved g c =
    let bytes = strip_bytes c.args.strip.now in
    let depth = rw (c.loop-place.invariant.strip, c.loop-place.invariant.place) at c.advance-cursor.ensures.depth in
    let fits = reading_fits bytes c.args.strip.now.sound c.loop-place.place c.advance-cursor.result.height (omega (arith, c.loop-place-test.true)) depth in
    let value = to_z_pos w32 (32768 * c.advance-cursor.result.height - c.loop-place.place) (omega arith) ∙ ap (λ n. pos (32768 * n - c.loop-place.place)) depth in
    let slices = c.append.ensures.same in
    record {
      strip = c.advance-cursor.ensures.strip ∙ c.loop-place.invariant.strip;
      place = c.advance-cursor.ensures.place ∙ ap (λ n. n + 1) c.loop-place.invariant.place;
      replaying = replay_more tenths_orders (g.S.Answerer.seats c.args.answerer.now) (g.met.S.Answerer.firsts c.args.answerer.now) bytes (state_of c.args.sheet.now c.args.memory.now)
          c.loop-place.place (state_of c.loop-place.sheet c.loop-place.memory) c.loop-place.invariant.replaying (omega (arith, c.loop-place-test.true)) c.requires.room _ _ (λ i. record { 0 = value i }) c.append.ensures.after;
      same = record { readings = slices.readings ∙ c.loop-place.invariant.same.readings; shapes = slices.shapes ∙ c.loop-place.invariant.same.shapes; entries = slices.entries ∙ c.loop-place.invariant.same.entries };
    }

pub returns-clause-after : goal.returns-clause-after
returns-clause-after g c =
    replay_ends (g.S.Answerer.seats c.args.answerer.now) (strip_bytes c.args.strip.now) (state_of c.args.sheet.now c.args.memory.now) c.loop-place.place (state_of c.loop-place.sheet c.loop-place.memory)
    c.loop-place.invariant.replaying (omega (arith, c.loop-place-test.false))
