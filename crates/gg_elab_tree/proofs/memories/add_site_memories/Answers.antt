use Rattle.std.proofs.Common.{◌+◌, List, ◌++◌, ◌∷◌, [], map, take, subst, subst₂, sym, ap, ◌∙◌, arith}
use Rattle.std.specs.Prelude.{Contains}
use Rattle.std.proofs.lemmas.List.Elements.{All-contains}
use Rattle.gg_flat_tree.specs.declared.tree.MemoryInstance.{MemoryInstance}
use Rattle.gg_flat_tree.specs.Tree.{InstanceTree, joined}
use Rattle.gg_elab_sites.specs.declared.digest.OwnMemory.{OwnMemory}
use Rattle.gg_elab_sites.proofs.FlatLemmas.{seam}
use Rattle.gg_elab_sites.proofs.FreshLemmas.{next-new}
use Rattle.gg_elab_tree.specs.IsTreeOf.{Pairwise, HeldMemory}
use Rattle.gg_elab_tree.specs.inside.TreeParts.{IsHeldFor, held_at_place}
use Rattle.gg_elab_tree.proofs.KeptLemmas.{memories-kept}
use Rattle.gg_elab_tree.proofs.PairwiseLemmas.{Pairwise-push}
use Rattle.gg_elab_tree.proofs.TreePartLemmas.{memory-is-for}
use Rattle.gg_elab_tree.proofs.memories.add_site_memories.Goals as goal

pub loop-own-preserved : goal.loop-own-preserved
loop-own-preserved c =
    let circuit = c.args.typed.now.circuit in
    let place = c.args.place.now in
    let added = c.in_ok-add_memory.ensures {u = tt} in (
      ap (λ (t : InstanceTree). t.memory_paths) added
          ∙ ap (λ path. c.loop-own.tree.memory_paths ++ path ∷ []) c.in_ok-path.ensures
          ∙ ap (λ l. l ++ joined c.args.place.now.path c.own-item.result.name.now ∷ []) c.loop-own.invariant.0
          ∙ seam (λ (m : OwnMemory). joined c.args.place.now.path m.name.now) c.args.tree.now.memory_paths c.args.memories.now c.loop-own.own-index c.own-item.result (omega arith) c.own-item.is,
      λ said p q h.
          subst (λ (l : List MemoryInstance). Pairwise (IsHeldFor c.args.typed.now.circuit) (said ++ map (held_at_place c.args.typed.now.circuit.modules c.args.place.now) (take (c.loop-own.own-index + 1) c.args.memories.now)) l) (sym (ap (λ (t : InstanceTree). t.memories) added))
          (subst (λ (l : List HeldMemory). Pairwise (IsHeldFor c.args.typed.now.circuit) l (c.loop-own.tree.memories ++ c.in_ok-made.made ∷ [])) (seam (held_at_place c.args.typed.now.circuit.modules c.args.place.now) said c.args.memories.now c.loop-own.own-index c.own-item.result (omega arith) c.own-item.is)
          (Pairwise-push (IsHeldFor c.args.typed.now.circuit) (said ++ map (held_at_place c.args.typed.now.circuit.modules c.args.place.now) (take c.loop-own.own-index c.args.memories.now)) (held_at_place c.args.typed.now.circuit.modules c.args.place.now c.own-item.result) c.loop-own.tree.memories c.in_ok-made.made (c.loop-own.invariant.1 said p q h)
          (memory-is-for c.args.typed.now.circuit c.args.paths.now c.args.table.now.memories c.args.place.now c.own-item.result c.in_ok-made.made p q c.in_ok-made.ensures))),
      memories-kept c.args.tree.now c.loop-own.tree c.add_memory.new.tree (c.loop-own.tree.memory_paths ++ c.in_ok-path.path ∷ []) (c.loop-own.tree.memories ++ c.in_ok-made.made ∷ []) c.loop-own.invariant.2 added,
    )

pub add_memory-requires : goal.add_memory-requires
add_memory-requires c = record {
  fresh = λ h.
      next-new (λ (m : OwnMemory). joined c.args.place.now.path m.name.now) c.args.tree.now.memory_paths c.args.memories.now c.loop-own.own-index c.own-item.result c.requires.distinct (omega arith) c.own-item.is
      (subst₂ Contains c.loop-own.invariant.0 c.in_ok-path.ensures h);
}

pub memory-requires-clause-number : goal.memory-requires-clause-number
memory-requires-clause-number c =
    All-contains (λ (own : OwnMemory). Contains c.args.table.now.memories (joined c.args.place.now.path own.name.now)) c.args.memories.now c.own-item.result c.requires.numbers (c.loop-own.own-index, omega arith, sym c.own-item.is)
