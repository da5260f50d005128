use Rattle.std.proofs.Common.{◌≡◌, ℕ, ◌<◌, List, [], ◌∷◌, ◌++◌, Option, false, length, get_or, ap, sym, subst, ◌∙◌, arith}
use Rattle.std.proofs.lemmas.List.{length_push}
use Rattle.gg_flat_tree.specs.declared.tree.Instance.{Instance}
use Rattle.gg_flat_tree.proofs.TopClockLemmas.{parent-before}
use Rattle.gg_part.proofs.DomainLemmas.{inner-next}
use Rattle.gg_cut_parts.proofs.TableLemmas.{read-instance}
use Rattle.gg_cut_parts.proofs.tables.inner_table.Goals as goal

pub inner_of-requires : goal.inner_of-requires
inner_of-requires c =
    let tree = c.args.tree.now in
    let lt : c.loop-place.place < length tree.instances = omega (arith, c.loop-place-test.true, ap (λ (l : List Instance). length l) c.instances-instances.ensures) in
    λ above parent.
    subst (λ (l : List (List (Option ℕ))). above < length l) (sym c.as_slice.ensures.value)
    (parent-before tree c.requires.before c.loop-place.clocks.items c.loop-place.place c.index-instances-place.result c.loop-place.invariant.0 lt (rw c.instances-instances.ensures at c.index-instances-place.is) above parent)

pub loop-place-preserved : goal.loop-place-preserved
loop-place-preserved c =
    let tree = c.args.tree.now in
    let items : c.push_reserved.new.self.items ≡ c.loop-place.clocks.items ++ c.in_ok-next.next ∷ [] = cc in
    let lt : c.loop-place.place < length tree.instances = omega (arith, c.loop-place-test.true, ap (λ (l : List Instance). length l) c.instances-instances.ensures) in
    let instance = read-instance tree c.loop-place.place c.index-instances-place.result lt (rw c.instances-instances.ensures at c.index-instances-place.is) in (
      ap (λ (l : List (List (Option ℕ))). length l) items ∙ length_push c.loop-place.clocks.items c.in_ok-next.next ∙ omega (arith, c.loop-place.invariant.0),
      λ k low.
          ap (λ (l : List (List (Option ℕ))). get_or l k []) items
          ∙ inner-next tree c.requires.before (λ n. get_or c.args.homes.now n false) c.loop-place.clocks.items c.loop-place.place c.index-instances-place.result c.in_ok-next.next c.loop-place.invariant.0 lt instance (rw c.as_slice.ensures.value at c.in_ok-next.ensures) c.loop-place.invariant.1 k low,
    )
