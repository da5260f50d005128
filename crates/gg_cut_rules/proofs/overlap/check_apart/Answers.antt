use Rattle.std.proofs.Common.{◌≡◌, ◌+◌, ◌∙◌, ◌<◌, ℕ, true, false, length, map, set, take, ap, sym, subst, Some}
use Rattle.std.specs.Prelude.{option_map, ◌||◌}
use Rattle.std.specs.List.{list_any}
use Rattle.gg_order.specs.Marks.{is_marked}
use Rattle.gg_cut_plan.specs.Listed.{instance_of, lies}
use Rattle.gg_cut_plan.specs.declared.fault.CutFault.TheVariants.{Doubled}
use Rattle.gg_cut_plan.proofs.ChainLemmas.{Apart, Apart-stop, Apart-more}
use Rattle.gg_cut_plan.proofs.FindLemmas.{told-same}
use Rattle.gg_cut_rules.proofs.overlap.check_apart.Goals as goal

pub returns-then-overlaps : goal.returns-then-overlaps
returns-then-overlaps c =
    let units = map (instance_of c.args.tree.now) (take c.loop-path.path-index c.args.units.now) in
    let place = c.place-place.ensures.place in
    let clash = subst (λ k. (list_any (lies c.args.tree.now k) units || is_marked c.loop-path.above k) ≡ true) place (sym (c.overlaps.ensures units c.loop-path.invariant.marks) ∙ c.if-overlaps.true) in
    told-same (Some (Doubled c.path-item.result)) _ c.doubled.result
    (sym (ap (option_map (λ path. Doubled path)) (Apart-stop c.args.tree.now c.args.units.now c.loop-path.path-index c.loop-path.own c.loop-path.above c.path-item.result c.loop-path-test.true c.path-item.is c.loop-path.invariant clash)))
    c.doubled.ensures

pub loop-path-preserved : goal.loop-path-preserved
loop-path-preserved c =
    let units = map (instance_of c.args.tree.now) (take c.loop-path.path-index c.args.units.now) in
    let place = c.place-place.ensures.place in
    let none = subst (λ k. (list_any (lies c.args.tree.now k) units || is_marked c.loop-path.above k) ≡ false) place (sym (c.overlaps.ensures units c.loop-path.invariant.marks) ∙ c.if-overlaps.false) in
    let within = subst (λ k. k < length c.args.tree.now.instances) place c.place-place.ensures.within in
    let marked = subst (λ k. (i : ℕ) → is_marked c.mark_above.new.marks i ≡ (is_marked c.loop-path.above i || lies c.args.tree.now k i)) place c.mark_above.ensures.above in
    subst (λ k. Apart c.args.tree.now c.args.units.now (c.loop-path.path-index + 1) (set c.loop-path.own k true) c.mark_above.new.marks) (sym place)
    (Apart-more c.args.tree.now c.args.units.now c.loop-path.path-index c.loop-path.own c.loop-path.above c.path-item.result c.loop-path-test.true c.path-item.is c.loop-path.invariant c.mark_above.new.marks within none marked c.mark_above.ensures.count)
