-- What the tree of a circuit says of parents, and of the signals of channels.
use Rattle.std.proofs.Common.{◌≡◌, ℕ, zero, suc, ◌<◌, List, [], ◌∷◌, ◌++◌, length, map, get_or, sym, ◌∙◌, ap, subst, Some, None, arith}
use Rattle.std.specs.Prelude.{All, flat_map}
use Rattle.std.proofs.lemmas.List.{get_or-map, length-map}
use Rattle.gg_bits.specs.Shape.{shape}
use Rattle.gg_flat_tree.specs.declared.tree.InstancePort.{InstancePort}
use Rattle.gg_flat.specs.declared.memory.Reader.{Reader}
use Rattle.gg_flat.specs.declared.memory.Writer.{Writer}
use Rattle.gg_flat.specs.declared.memory.Memory.{Memory}
use Rattle.gg_flat.specs.Circuit.{FlatCircuit, signal_shapes, readers_at}
use Rattle.gg_flat.specs.WellFormed.{IsWellFormed}
use Rattle.gg_flat_tree.specs.Tree.{InstanceTree, IsTree, instance_at, memory_at, parent_place}
use Rattle.gg_flat_tree.specs.Scoped.{reader_fields, writer_fields, writers_at, memory_fields}
use Rattle.gg_flat.proofs.ListLemmas.{some-item}
use Rattle.gg_cut_plan.specs.declared.listed.Listed.{Listed}
use Rattle.gg_cut_plan.specs.inside.Listed.{ParentsBefore}
use Rattle.gg_cut_plan.specs.Channels.{flattened}
use Rattle.gg_cut_plan.specs.inside.Channels.{port_signals, channel_signals}

-- each instance stands after its parent
pub parents-before : (circuit : FlatCircuit) (tree : InstanceTree) → IsTree circuit tree → ParentsBefore tree
parents-before circuit tree is zero parent lt some = absurd (clash (sym is.top.parent ∙ some))
  where
    clash : {p : ℕ} {A : Type 0} → None ≡ Some p → A
    clash e = absurd (cc)
parents-before circuit tree is (suc k) parent lt some =
    let below = is.below (suc k) (omega arith) lt in
    let same : below.above ≡ parent = ap parent_place (sym below.parent ∙ some) in
    omega (arith, below.before, same)

-- ---- numbers below a bound

-- each number of the list is below n, by recursion
abbrev AllBelow : ℕ → List ℕ → Type 0
AllBelow n [] = Unit {0}
AllBelow n (x ∷ xs) = (x < n) × AllBelow n xs

append-below : (n : ℕ) (xs ys : List ℕ) → AllBelow n xs → AllBelow n ys → AllBelow n (xs ++ ys)
append-below n [] ys a b = b
append-below n (x ∷ xs) ys a b = (a.0, append-below n xs ys a.1 b)

all-from : (n : ℕ) (xs : List ℕ) → AllBelow n xs → All (λ x. x < n) xs
all-from n [] each k d lt = absurd (omega arith)
all-from n (x ∷ xs) each zero d lt = each.0
all-from n (x ∷ xs) each (suc k) d lt = all-from n xs each.1 k d (omega arith)

below-from : (n : ℕ) (xs : List ℕ) → ((k : ℕ) → k < length xs → get_or xs k 0 < n) → AllBelow n xs
below-from n [] each = tt
below-from n (x ∷ xs) each = (each 0 (omega arith), below-from n xs (λ k lt. each (suc k) (omega arith)))

flattened-below : (n bound : ℕ) (f : ℕ → List ℕ) (xs : List ℕ) → ((k : ℕ) → k < length xs → get_or xs k 0 < bound) → ((x : ℕ) → x < bound → AllBelow n (f x)) → AllBelow n (flattened f xs)
flattened-below n bound f [] known each = tt
flattened-below n bound f (x ∷ xs) known each = append-below n (f x) (flattened f xs) (each x (known 0 (omega arith))) (flattened-below n bound f xs (λ k lt. known (suc k) (omega arith)) each)

ports-below : (n : ℕ) (ports : List InstancePort) → ((k : ℕ) (d : InstancePort) → k < length ports → (get_or ports k d).signal < n) → AllBelow n (map (λ port. port.signal) ports)
ports-below n [] each = tt
ports-below n (port ∷ ports) each = (each 0 port (omega arith), ports-below n ports (λ k d lt. each (suc k) d (omega arith)))

readers-below : (n : ℕ) (readers : List Reader) → ((k : ℕ) (d : Reader) → k < length readers → AllBelow n (reader_fields (get_or readers k d))) → AllBelow n (flat_map (λ reader. reader_fields reader) readers)
readers-below n [] each = tt
readers-below n (reader ∷ readers) each = append-below n (reader_fields reader) _ (each 0 reader (omega arith)) (readers-below n readers (λ k d lt. each (suc k) d (omega arith)))

writers-below : (n : ℕ) (writers : List Writer) → ((k : ℕ) (d : Writer) → k < length writers → AllBelow n (writer_fields (get_or writers k d))) → AllBelow n (flat_map (λ writer. writer_fields writer) writers)
writers-below n [] each = tt
writers-below n (writer ∷ writers) each = append-below n (writer_fields writer) _ (each 0 writer (omega arith)) (writers-below n writers (λ k d lt. each (suc k) d (omega arith)))

module _ (circuit : FlatCircuit) (tree : InstanceTree) (formed : IsWellFormed circuit) (is : IsTree circuit tree) where
  count : length (signal_shapes circuit) ≡ length circuit.signals
  count = length-map circuit.signals (λ signal. shape signal.ty)

  pub memory-known : (j : ℕ) → j < length tree.memories → (memory_at tree j).memory < length circuit.memories
  memory-known j lt =
      let held = is.held j lt in
      let own = held.own in
      subst (λ m. m < length circuit.memories) own.2 ((is.each (memory_at tree j).instance held.instance).memories own.0 (memory_at tree j).memory own.1)

  fields-below : (m : ℕ) → m < length circuit.memories → AllBelow (length circuit.signals) (memory_fields circuit m)
  fields-below m lt =
      let n = length circuit.signals in
      let some = some-item circuit.memories m lt in
      let memory = get_or circuit.memories m some in
      let typed = formed.memories m some lt in
      let readers : readers_at circuit m ≡ memory.readers = get_or-map (λ (k : Memory). k.readers) circuit.memories m some [] lt in
      let writers : writers_at circuit m ≡ memory.writers = get_or-map (λ (k : Memory). k.writers) circuit.memories m some [] lt in
      append-below n (flat_map (λ reader. reader_fields reader) (readers_at circuit m)) (flat_map (λ writer. writer_fields writer) (writers_at circuit m))
      (subst (λ (l : List Reader). AllBelow n (flat_map (λ reader. reader_fields reader) l)) (sym readers)
      (readers-below n memory.readers (λ k d inside. let r = typed.readers k d inside in (omega (arith, r.address.0, count), (omega (arith, r.enable.0, count), (omega (arith, r.output.0, count), tt))))))
      (subst (λ (l : List Writer). AllBelow n (flat_map (λ writer. writer_fields writer) l)) (sym writers)
      (writers-below n memory.writers (λ k d inside. let w = typed.writers k d inside in (omega (arith, w.address.0, count), (omega (arith, w.enable.0, count), (omega (arith, w.input.0, count), (omega (arith, w.masked.0, count), tt)))))))

  -- the signals of channels are signals of the circuit
  pub signals-known : (listed : Listed) → All (λ unit. unit < length tree.instances) listed.units → All (λ place. place < length tree.memories) listed.memories → All (λ s. s < length circuit.signals) (channel_signals circuit tree listed)
  signals-known listed units memories =
      let n = length circuit.signals in
      all-from n (channel_signals circuit tree listed)
      (append-below n circuit.ins _ (below-from n circuit.ins (λ k lt. (formed.ins k lt).0))
      (append-below n (flattened (port_signals tree) listed.units) _
      (flattened-below n (length tree.instances) (port_signals tree) listed.units (λ k lt. units k 0 lt) (λ unit lt.
      let each = is.each unit lt in
      ports-below n (instance_at tree unit).ports (λ k d inside. let holds = each.ports k d inside in omega (arith, holds.1, each.inside))))
      (append-below n (flattened (λ j. memory_fields circuit (memory_at tree j).memory) listed.memories) circuit.outs
      (flattened-below n (length tree.memories) (λ j. memory_fields circuit (memory_at tree j).memory) listed.memories (λ k lt. memories k 0 lt) (λ j lt. fields-below (memory_at tree j).memory (memory-known j lt)))
      (below-from n circuit.outs formed.outs))))
