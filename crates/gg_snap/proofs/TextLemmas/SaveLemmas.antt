-- Which circuits can be saved.
use Rattle.std.proofs.Common.{◌≡◌, ◌<◌, ℕ, List, length, Bool, true, false, true≢false, sym, ap, ◌∙◌}
use Rattle.std.specs.Prelude.{All}
use Rattle.std.specs.List.{list_all}
use Rattle.std.proofs.lemmas.List.Elements.{All-contains}
use Rattle.std.proofs.lemmas.List.Folds.{list_all_at}
use Rattle.gg_flat.specs.declared.piece.Driver.TheVariants.{Held}
use Rattle.gg_flat.specs.Circuit.{FlatCircuit, driver_at}
use Rattle.gg_flat_tree.specs.Tree.{InstanceTree, IsTree, memory_at}
use Rattle.gg_snap.specs.text.Known.{CanSave, HasNo, IsPlain}

-- a byte that a test refuses isn't in a text whose bytes all pass it
no-byte : (test : ℕ → Bool) (b : ℕ) (path : List ℕ) → test b ≡ false → list_all test path ≡ true → HasNo b path
no-byte test b path other all has =
    true≢false (sym all ∙ list_all_at test path has.0 b has.1 (ap test has.2 ∙ other))

pub plain-path : (test : ℕ → Bool) (path : List ℕ) → test 32 ≡ false → test 10 ≡ false → list_all test path ≡ true → IsPlain path
plain-path test path blank feed all = (no-byte test 32 path blank all, no-byte test 10 path feed all)

-- the memories of a tree are the circuit's
pub tree-memories : (circuit : FlatCircuit) (tree : InstanceTree) → IsTree circuit tree → (place : ℕ) → place < length tree.memories → (memory_at tree place).memory < length circuit.memories
tree-memories circuit tree is place lt =
    let held = is.held place lt in
    let instance = is.each (memory_at tree place).instance held.instance in
    All-contains (λ m. m < length circuit.memories) _ (memory_at tree place).memory instance.memories held.own

pub can-save : (circuit : FlatCircuit) (tree : InstanceTree) → IsTree circuit tree
    → ((s t r : ℕ) → s < length circuit.signals → t < length circuit.signals → driver_at circuit s ≡ Held r → driver_at circuit t ≡ Held r → s ≡ t)
    → All IsPlain circuit.paths → All IsPlain tree.memory_paths → CanSave circuit tree
can-save circuit tree is held plain plain_memories = record {
  held = held;
  memories = tree-memories circuit tree is;
  once = is.once;
  plain = plain;
  plain_memories = plain_memories;
}
