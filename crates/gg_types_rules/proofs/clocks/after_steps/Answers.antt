use Rattle.std.proofs.Common.{◌/◌, ◌%◌, length, slice_index, map, eqb, if◌then◌else◌, refl, sym, ap, subst, ◌∙◌}
use Rattle.gg_types.specs.inside.Places.{ArePlaces, iterate}
use Rattle.gg_types.proofs.ClockLemmas.{map-places, if-places, squared}
use Rattle.gg_types_rules.proofs.clocks.after_steps.Goals as goal

pub loop-left-preserved : goal.loop-left-preserved
loop-left-preserved c =
    let n = length c.args.next.items in
    let jump = c.loop-left.jump.items in
    let reached = c.loop-left.reached.items in
    let odd = eqb (c.loop-left.left % 2) 1 in
    let inv = c.loop-left.invariant in
    let jump-is = c.in_ok-jump.ensures in
    let reached-is = c.in_ok-reached-2.ensures in (
      subst (ArePlaces n) (sym jump-is) (map-places n jump jump inv.0 inv.0),
      subst (ArePlaces n) (sym reached-is) (if-places n jump reached odd inv.0 inv.1),
      λ k lt. squared n c.loop-left.left k (iterate c.args.steps c.args.next.items k) jump reached odd inv.0 inv.1 refl lt (inv.2 k lt)
          ∙ ap (λ l. iterate (c.loop-left.left / 2) l (slice_index (if odd then map (slice_index jump) reached else reached) k)) (sym jump-is)
          ∙ ap (λ l. iterate (c.loop-left.left / 2) c.in_ok-jump.jump.items (slice_index l k)) (sym reached-is),
    )
