-- The tables of what registers and ports of memories follow inside of the units.
use Rattle.std.proofs.Common.{◌≡◌, ℕ, ◌<◌, ◌≤◌, List, [], Bool, Option, None, length, get_or, map, ap, ◌∙◌}
use Rattle.std.proofs.lemmas.List.{get_or-map}
use Rattle.gg_flat.specs.declared.piece.Driver.TheVariants.{Held}
use Rattle.gg_flat_tree.specs.declared.tree.MemoryInstance.{MemoryInstance}
use Rattle.gg_flat.specs.Circuit.{FlatCircuit, driver_at}
use Rattle.gg_flat_tree.specs.Clocked.{clock_at}
use Rattle.gg_flat.specs.Line.{value_at}
use Rattle.gg_flat_tree.specs.Tree.{InstanceTree, instance_at, memory_at}
use Rattle.gg_part.specs.inside.Domains.{FollowsInside, inner_clocks, ports_inside}
use Rattle.gg_part.specs.KeepsToTree.{KeepsToTree}
use Rattle.gg_cut_plan.specs.Held.{AreHeldOnce}
use Rattle.gg_cut_plan.proofs.KnownLemmas.{parents-before}
use Rattle.gg_cut_split.proofs.ClosedLemmas.TreeLemmas.{innermost-one}
use Rattle.gg_cut_parts.specs.inside.Innermost.{IsLast, IsTimedBy}
use Rattle.gg_cut_parts.proofs.TableLemmas.{last-innermost}

module _ (circuit : FlatCircuit) (tree : InstanceTree) (keeps : KeepsToTree circuit tree) (is_home : ℕ → Bool) (inner : List (List (Option ℕ))) (each : (k : ℕ) → k < length tree.instances → get_or inner k [] ≡ inner_clocks is_home tree k) where
  -- a register follows inside what the table has
  pub follows-inside : (places : List ℕ) (table : List (Option ℕ)) → AreHeldOnce circuit
      → ((s k : ℕ) → k < length tree.instances → (instance_at tree k).first ≤ s → s < (instance_at tree k).end → IsLast tree (length tree.instances) s (value_at places s))
      → (s r : ℕ) → s < length circuit.signals → driver_at circuit s ≡ Held r → IsTimedBy circuit tree inner places table r → FollowsInside is_home tree s r (get_or table r None)
  follows-inside places table once last s r lt held t k inner-k =
      let one : t.signal ≡ s = once t.signal s r t.known lt t.held held in
      let high = inner-k.holds in
      let at = last s k inner-k.known high.0 high.1 in
      let place : value_at places s ≡ k = innermost-one circuit tree keeps.fitting (value_at places s) k s (last-innermost circuit tree (parents-before circuit tree keeps.fitting) keeps.clocked is_home s (value_at places s) at) inner-k in
      t.clock
      ∙ ap (λ (x : ℕ). clock_at (get_or inner (value_at places x) []) (get_or tree.register_clocks r None)) one
      ∙ ap (λ (x : ℕ). clock_at (get_or inner x []) (get_or tree.register_clocks r None)) place
      ∙ ap (λ (l : List (Option ℕ)). clock_at l (get_or tree.register_clocks r None)) (each k inner-k.known)

  -- and a port of a memory does
  pub ports-follow : (k : ℕ) → k < length tree.memories → get_or (map (λ (memory : MemoryInstance). map (clock_at (get_or inner memory.instance [])) memory.clocks) tree.memories) k [] ≡ ports_inside is_home tree k
  ports-follow k lt =
      get_or-map (λ (memory : MemoryInstance). map (clock_at (get_or inner memory.instance [])) memory.clocks) tree.memories k (record { instance = 0; memory = 0; ports = []; clocks = [] }) [] lt
      ∙ ap (λ (l : List (Option ℕ)). map (clock_at l) (memory_at tree k).clocks) (each (memory_at tree k).instance (keeps.fitting.held k lt).instance)
