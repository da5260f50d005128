use Rattle.std.proofs.Common.{◌≡◌, ℕ, ◌<◌, List, [], ◌∷◌, ◌++◌, Option, length, get_or, ap, sym, subst, ◌∙◌, arith}
use Rattle.std.proofs.lemmas.List.{length_push}
use Rattle.gg_flat_tree.specs.declared.tree.Instance.{Instance}
use Rattle.gg_flat_tree.proofs.TopClockLemmas.{clocks-next, parent-before}
use Rattle.gg_flat_tree.proofs.tree.Tree.top_clocks.Goals as goal

pub loop-instance-preserved : goal.loop-instance-preserved
loop-instance-preserved c =
    let items : c.push_reserved.new.self.items ≡ c.loop-instance.clocks.items ++ c.in_ok-next.next ∷ [] = cc in
    let below : c.loop-instance.instance-index < length c.args.self.now.instances = omega (arith, c.loop-instance-test.true, ap (λ (l : List Instance). length l) c.instances-instance-items.ensures) in (
      ap (λ (l : List (List (Option ℕ))). length l) items ∙ length_push c.loop-instance.clocks.items c.in_ok-next.next ∙ omega (arith, c.loop-instance.invariant.0),
      λ k low.
          ap (λ (l : List (List (Option ℕ))). get_or l k []) items
          ∙ clocks-next c.args.self.now c.requires c.loop-instance.clocks.items c.loop-instance.instance-index c.instance-item.result c.in_ok-next.next c.loop-instance.invariant.0 below (rw c.instances-instance-items.ensures at c.instance-item.is) (rw c.as_slice.ensures.value at c.in_ok-next.ensures) c.loop-instance.invariant.1 k low,
    )

pub clocks_of-requires : goal.clocks_of-requires
clocks_of-requires c =
    let below : c.loop-instance.instance-index < length c.args.self.now.instances = omega (arith, c.loop-instance-test.true, ap (λ (l : List Instance). length l) c.instances-instance-items.ensures) in
    λ above parent.
    subst (λ (l : List (List (Option ℕ))). above < length l) (sym c.as_slice.ensures.value)
    (parent-before c.args.self.now c.requires c.loop-instance.clocks.items c.loop-instance.instance-index c.instance-item.result c.loop-instance.invariant.0 below (rw c.instances-instance-items.ensures at c.instance-item.is) above parent)
