use Rattle.std.proofs.Common.{◌≡◌, ◌++◌, ◌∷◌, [], ◌<◌, ◌^◌, List, get_or, length, sym, ap, ◌∙◌, subst, arith}
use Rattle.std.specs.Prelude.{All}
use Rattle.std.proofs.lemmas.List.{get_or_default}
use Rattle.std.proofs.lemmas.List.Elements.{All-push}
use Rattle.gg_flat_tree.specs.declared.tree.MemoryInstance.{MemoryInstance}
use Rattle.gg_flat_tree.specs.Tree.{memory_at}
use Rattle.gg_snap.specs.declared.text.row.Row.{Row}
use Rattle.gg_snap.proofs.TextLemmas.WriteLemmas.{memories-more}
use Rattle.gg_snap.proofs.text.table.memory_rows.Goals as goal

pub loop-place-preserved : goal.loop-place-preserved
loop-place-preserved c =
    let few : Row → Type 0 = λ (row : Row). row.count < 2 ^ 32 in
    let m = (get_or c.memories.result.now c.loop-place.place c.index-memories-place.result).memory in
    let low = c.loop-place-test.true in
    let lt : c.loop-place.place < length c.args.tree.now.memories = omega (arith, low, c.memory_count-count.ensures.count) in
    let is : m ≡ (memory_at c.args.tree.now c.loop-place.place).memory = ap (λ (l : List MemoryInstance). (get_or l c.loop-place.place c.index-memories-place.result).memory) c.memories.ensures ∙ ap (λ (x : MemoryInstance). x.memory) (get_or_default c.args.tree.now.memories c.loop-place.place _ _ lt) in
    let more = c.in_ok-push.ensures.items in (
      memories-more c.args.piece.now c.args.tree.now c.loop-place.place m c.loop-place.rows.items c.push.new.self.items c.in_ok-path.path c.memories-in-loop-place.result.now _ c.index-memories-number.result c.memories-in-loop-place.ensures c.index-memories-number.is (subst (λ k. k < length c.args.piece.now.memories) (sym is) (c.requires c.loop-place.place lt)) is (c.in_ok-path.ensures.cases ∙ c.memory_path.ensures) c.loop-place.invariant.0 (more ∙ ap (λ r. c.loop-place.rows.items ++ r ∷ []) c.row_of_memory-row.ensures.row),
      subst (All few) (sym more) (All-push few c.loop-place.rows.items c.row_of_memory-row.result c.loop-place.invariant.1 c.row_of_memory-row.ensures.few),
    )
