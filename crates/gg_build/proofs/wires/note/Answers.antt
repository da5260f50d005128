use Rattle.std.proofs.Common.{length, arith, ◌≡◌, subst}
use Rattle.gg_build.proofs.PlaceLemmas.{AreNoted, noted-none, noted-more, noted-all}
use Rattle.gg_build.proofs.wires.note.Goals as goal

pub loop-place-init : goal.loop-place-init
loop-place-init c = noted-none c.args.numbers.now c.args.places.now.items

pub loop-place-preserved : goal.loop-place-preserved
loop-place-preserved c =
    noted-more c.args.numbers.now c.loop-place.place c.args.places.now.items c.loop-place.places.items c.loop-place-test.true
    (c.requires.known c.loop-place.place 0 c.loop-place-test.true) c.loop-place.invariant

pub returns : goal.returns
returns c =
    noted-all c.args.numbers.now c.args.places.now.items c.loop-place.places.items
    (subst (λ k. AreNoted c.args.numbers.now k c.args.places.now.items c.loop-place.places.items) (let same : c.loop-place.place ≡ length c.args.numbers.now = omega arith in same) c.loop-place.invariant)
