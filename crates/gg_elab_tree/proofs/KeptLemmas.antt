-- A tree, of which some parts change step by step, keeps the others.
use Rattle.std.proofs.Common.{◌≡◌, ℕ, List, ◌++◌, Option, sym, ap, ◌∙◌}
use Rattle.gg_flat_tree.specs.declared.tree.Instance.{Instance}
use Rattle.gg_flat_tree.specs.declared.tree.MemoryInstance.{MemoryInstance}
use Rattle.gg_flat_tree.specs.declared.tree.StopInstance.{StopInstance}
use Rattle.gg_flat_tree.specs.Tree.{InstanceTree}
use Rattle.gg_flat_tree.specs.inside.Tree.{no_tree}
use Rattle.gg_elab_tree.specs.inside.TreeParts.{with_clocks, with_instances, with_memories, with_register_clocks, with_stops}

pub instances-kept : (old tree new : InstanceTree) (paths : List (List ℕ)) (instances : List Instance) → tree ≡ with_instances old tree.paths tree.instances → new ≡ with_instances tree paths instances → new ≡ with_instances old new.paths new.instances
instances-kept old tree new paths instances h added =
    added ∙ ap (λ (t : InstanceTree). with_instances t paths instances) h ∙ sym (ap (λ (t : InstanceTree). with_instances old t.paths t.instances) added)

pub memories-kept : (old tree new : InstanceTree) (paths : List (List ℕ)) (memories : List MemoryInstance) → tree ≡ with_memories old tree.memory_paths tree.memories → new ≡ with_memories tree paths memories → new ≡ with_memories old new.memory_paths new.memories
memories-kept old tree new paths memories h added =
    added ∙ ap (λ (t : InstanceTree). with_memories t paths memories) h ∙ sym (ap (λ (t : InstanceTree). with_memories old t.memory_paths t.memories) added)

pub stops-kept : (old tree new : InstanceTree) (stops : List StopInstance) → tree ≡ with_stops old tree.stops → new ≡ with_stops tree stops → new ≡ with_stops old new.stops
stops-kept old tree new stops h added =
    added ∙ ap (λ (t : InstanceTree). with_stops t stops) h ∙ sym (ap (λ (t : InstanceTree). with_stops old t.stops) added)

-- with more clocks at the end
pub register_clocks-more : (old tree new : InstanceTree) (more next all : List (Option ℕ)) → tree ≡ with_register_clocks old (old.register_clocks ++ more) → new ≡ with_register_clocks tree (tree.register_clocks ++ next) → (old.register_clocks ++ more) ++ next ≡ old.register_clocks ++ all → new ≡ with_register_clocks old (old.register_clocks ++ all)
register_clocks-more old tree new more next all h added is =
    added ∙ ap (λ (t : InstanceTree). with_register_clocks t (t.register_clocks ++ next)) h ∙ ap (with_register_clocks old) is

pub clocks-more : (old tree new : InstanceTree) (more next all : List (List ℕ)) → tree ≡ with_clocks old (old.clocks ++ more) → new ≡ with_clocks tree (tree.clocks ++ next) → (old.clocks ++ more) ++ next ≡ old.clocks ++ all → new ≡ with_clocks old (old.clocks ++ all)
clocks-more old tree new more next all h added is =
    added ∙ ap (λ (t : InstanceTree). with_clocks t (t.clocks ++ next)) h ∙ ap (with_clocks old) is

-- the parts of a tree that is made step by step
pub parts-made : (one two three four five : InstanceTree) (register_clocks : List (Option ℕ)) (clocks : List (List ℕ)) → one ≡ with_instances no_tree one.paths one.instances → two ≡ with_memories one two.memory_paths two.memories → three ≡ with_stops two three.stops → four ≡ with_register_clocks three (three.register_clocks ++ register_clocks) → five ≡ with_clocks four (four.clocks ++ clocks)
    → five ≡ (record { paths = one.paths; instances = one.instances; memory_paths = two.memory_paths; memories = two.memories; clocks = clocks; register_clocks = register_clocks; stops = three.stops })
parts-made one two three four five register_clocks clocks a b c d e =
    e
    ∙ ap (λ (t : InstanceTree). with_clocks t (t.clocks ++ clocks)) d
    ∙ ap last c
    ∙ ap (λ (t : InstanceTree). last (with_stops t three.stops)) b
    ∙ ap (λ (t : InstanceTree). last (with_stops (with_memories t two.memory_paths two.memories) three.stops)) a
  where
    last : InstanceTree → InstanceTree
    last t = record t { register_clocks = t.register_clocks ++ register_clocks; clocks = t.clocks ++ clocks }
