-- The parts of a network: the ins that its machines need exist, and its queues are within their capacities.
use Rattle.std.proofs.Common.{◌≡◌, ℕ, ◌<◌, ◌≤◌, Option, Some, length, sym, subst}
use Rattle.std.specs.Prelude.{All, Contains, slice_get}
use Rattle.std.proofs.lemmas.Option.{slice_get_within, get_or_from_slice_get}
use Rattle.gg_flat.specs.Streams.{Flow}
use Rattle.gg_node.specs.Machine.{Port, Machine, machine_at, first_empty, needs_at, missing}
use Rattle.gg_node.specs.inside.Machine.{due}
use Rattle.gg_node.specs.Step.{fields_of}
use Rattle.gg_net.specs.declared.shape.Wire.{Wire}
use Rattle.gg_net.specs.Network.{Network, queue_at, wire_at, Kind}
use Rattle.gg_net.specs.inside.Readings.{fields_at, due_fields}
use Rattle.gg_net.specs.Kept.{Kept}
use Rattle.gg_net.proofs.LatchLemmas.{first-among}
use Rattle.gg_net.proofs.MachineLemmas.{due-port}
use Rattle.gg_net.proofs.FrameLemmas.{machine-known, machine-there, kind-is}

module _ (flow : Flow) (net : Network) (kept : Kept flow net) where
  -- a queue is within its capacity
  pub queue-few : (c : ℕ) → c < length net.wires → length (queue_at net.queues c) ≤ (wire_at net.wires c).capacity
  queue-few c known = (kept.channels c known).room

  module _ (m : ℕ) (there : m < length net.machines) where
    -- an in that an out needs exists
    pub missing-within : (o i : ℕ) → missing (machine_at net.machines m) o ≡ Some i → i < length (machine_at net.machines m).latches
    missing-within o i is =
        let x : Machine = machine_at net.machines m in
        let has : Contains (needs_at x.needs o) i = first-among x.latches (needs_at x.needs o) i is in
        subst (λ (k : Kind). i < k.ins) (kind-is net m) (kept.sound.wired.needs m o i (machine-known net m there) (subst (λ (k : Kind). Contains (needs_at k.needs o) i) (sym (kind-is net m)) has))

    -- a field of the port that is due exists
    pub field-within : (p i : ℕ) → due (machine_at net.machines m) ≡ Some p → first_empty (machine_at net.machines m).latches (due_fields (machine_at net.machines m)) ≡ Some i → i < length (machine_at net.machines m).latches
    field-within p i is first =
        let x : Machine = machine_at net.machines m in
        let q : Port = (due-port (slice_get x.ports x.served) p is).0 in
        let port : slice_get x.ports x.served ≡ Some q = (due-port (slice_get x.ports x.served) p is).1 in
        let has : Contains (fields_of q.access) i = subst (λ (o : Option Port). Contains (fields_at o) i) port (first-among x.latches (due_fields x) i first) in
        let all : All (λ (r : Port). All (λ j. j < length x.latches) (fields_of r.access)) x.ports = subst (λ (k : Kind). All (λ (r : Port). All (λ j. j < k.ins) (fields_of r.access)) k.ports) (kind-is net m) (kept.sound.wired.fields m (machine-known net m there)) in
        let fields : All (λ j. j < length x.latches) (fields_of q.access) = subst (λ (r : Port). All (λ j. j < length x.latches) (fields_of r.access)) (get_or_from_slice_get x.ports x.served q q port) (all x.served q (slice_get_within x.ports x.served q port)) in
        subst (λ j. j < length x.latches) has.2 (fields has.0 i has.1)

  -- the machines at both ends of a channel exist, and have its out and its in
  module _ (c : ℕ) (known : c < length net.wires) (w : Wire) (is : w ≡ wire_at net.wires c) where
    pub wire-producer : w.producer < length net.machines
    wire-producer = subst (λ (v : Wire). v.producer < length net.machines) (sym is) (machine-there net (wire_at net.wires c).producer (kept.sound.wired.producer c known))

    pub wire-out : w.out < length (machine_at net.machines w.producer).flags
    wire-out =
        subst (λ (v : Wire). v.out < length (machine_at net.machines v.producer).flags) (sym is)
        (subst (λ (k : Kind). (wire_at net.wires c).out < k.outs) (kind-is net (wire_at net.wires c).producer) (kept.sound.wired.out c known))

    pub wire-consumer : w.consumer < length net.machines
    wire-consumer = subst (λ (v : Wire). v.consumer < length net.machines) (sym is) (machine-there net (wire_at net.wires c).consumer (kept.sound.wired.consumer c known))

    pub wire-place : w.place < length (machine_at net.machines w.consumer).latches
    wire-place =
        subst (λ (v : Wire). v.place < length (machine_at net.machines v.consumer).latches) (sym is)
        (subst (λ (k : Kind). (wire_at net.wires c).place < k.ins) (kind-is net (wire_at net.wires c).consumer) (kept.sound.wired.place c known))
