use Rattle.std.proofs.Common.{◌≡◌, ℕ, ◌+◌, ◌<◌, ◌++◌, ◌∷◌, [], length, take, set, ap, ◌∙◌, sym, subst, arith}
use Rattle.std.proofs.lemmas.List.{length-take-le, take-take, take_more_set, length-set}
use Rattle.reading.specs.Coldest.{places}
use Rattle.firing_log.specs.Strip.{bit_bytes, packed, bits_of}
use Rattle.firing_log.proofs.Draws.{drawn_none, drawn_below, fits_in, drawn_more, drawn_all}
use Rattle.firing_log.proofs.strip.draw.Goals as goal

pub loop-place-init : goal.loop-place-init
loop-place-init g c = record {
  high = omega arith;
  drawn = drawn_none (places g.K.Reading.colder c.args.readings.now) (bit_bytes (length c.args.readings.now)) c.args.bits.now c.requires.clear;
}

pub trim-height-requires-clause-below : goal.trim-height-requires-clause-below
trim-height-requires-clause-below g c = drawn_below c.loop-place.invariant.drawn

pub set_bit-requires-clause-fits : goal.set_bit-requires-clause-fits
set_bit-requires-clause-fits g c =
    let stack = take c.loop-place.height c.loop-place.path in
    let kept = take c.trim-height.result stack in
    let high : length kept ≡ c.trim-height.result = length-take-le c.trim-height.result stack c.trim-height.ensures.height in
    rw high at (fits_in c.loop-place.invariant.drawn kept c.trim-height.ensures.path (omega (arith, c.loop-place-test.true)))

pub loop-place-preserved : goal.loop-place-preserved
loop-place-preserved g c =
    let stack = take c.loop-place.height c.loop-place.path in
    let kept = take c.trim-height.result stack in
    let high : length kept ≡ c.trim-height.result = length-take-le c.trim-height.result stack c.trim-height.ensures.height in
    let under : length stack ≡ c.loop-place.height = length-take-le c.loop-place.height c.loop-place.path c.loop-place.invariant.high in
    let within : c.trim-height.result < length c.loop-place.path =
    omega (arith, c.trim-height.ensures.height, c.loop-place.invariant.drawn.lower, c.requires.few, c.loop-place-test.true, c.loop-place-test.array_long) in
    let same : take c.trim-height.result c.loop-place.path ≡ kept = sym (take-take c.trim-height.result c.loop-place.height c.loop-place.path (omega (arith, under, c.trim-height.ensures.height))) in
    let pushed : take (c.trim-height.result + 1) (set c.loop-place.path c.trim-height.result c.loop-place.place) ≡ kept ++ (c.loop-place.place ∷ []) =
    take_more_set c.loop-place.path c.trim-height.result c.loop-place.place within ∙ ap (λ st. st ++ (c.loop-place.place ∷ [])) same in
    record {
      high = omega (arith, within, length-set c.loop-place.path c.trim-height.result c.loop-place.place);
      drawn = drawn_more c.loop-place.invariant.drawn kept c.trim-height.ensures.path (omega (arith, c.loop-place-test.true)) _ _ pushed (rw high c.set_bit.ensures);
    }

pub returns : goal.returns
returns g c =
    let all : c.loop-place.place ≡ length c.args.readings.now = omega (arith, c.loop-place-test.false, c.loop-place.auto.place-end) in
    let o = places g.K.Reading.colder c.args.readings.now in
    subst (λ (n : ℕ). c.loop-place.bits ≡ packed (bit_bytes (length c.args.readings.now)) (bits_of o n)) all (drawn_all c.loop-place.invariant.drawn)
