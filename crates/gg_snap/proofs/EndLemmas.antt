-- A network at the end of its run: no latch is full, so no port was served, and a channel that opened with a token has one.
use Rattle.std.proofs.Common.{◌≡◌, ℕ, ◌+◌, ◌-◌, ◌<◌, ◌≤◌, List, length, get_or, Option, None, Some, refl, sym, ap, ◌∙◌, subst, arith, ◌⊎◌, inl, inr}
use Rattle.std.specs.Prelude.{All, IsSome}
use Rattle.std.proofs.lemmas.Bool.{cases_lt}
use Rattle.std.proofs.lemmas.List.{get_or-take, length-take-le}
use Rattle.gg_flat.specs.Line.{value_at}
use Rattle.gg_flat.specs.Served.{Access, ByReader, ByWriter}
use Rattle.gg_flat.specs.Streams.{Flow}
use Rattle.gg_flat.proofs.ListLemmas.{some-item}
use Rattle.gg_node.specs.Machine.{Port, latch_at, machine_at}
use Rattle.gg_node.specs.Step.{fields_of}
use Rattle.gg_net.specs.Network.{Kind, Network, frame_of, got_by, kind_at, opening_queue, queue_at, takes, wire_at}
use Rattle.gg_net.specs.Kept.{Kept, list_at}
use Rattle.gg_net.proofs.MayLemmas.{consumer-there}
use Rattle.gg_net.specs.Network.{AllStandAt}
use Rattle.gg_measure.proofs.DoneLemmas.{all-drained}
use Rattle.gg_snap.specs.inside.Gathered.{newest}

-- each access has a first field
some-field : (access : Access) → 0 < length (fields_of access)
some-field (ByReader r reader) = omega arith
some-field (ByWriter w writer) = omega arith

full-none : (latch : Option ℕ) → IsSome latch → ((value : ℕ) → latch ≡ Some value → ⊥) → ⊥
full-none None full none = absurd cc
full-none (Some value) full none = none value refl

got-none : (cycle : ℕ) (latch : Option ℕ) → ((value : ℕ) → latch ≡ Some value → ⊥) → got_by cycle latch ≡ cycle
got-none cycle None none = refl
got-none cycle (Some value) none = absurd (none value refl)

module _ (flow : Flow) (net : Network) (kept : Kept flow net) (n : ℕ) (same : n ≡ net.end) (all : AllStandAt n net) where
  no-latch : (c value : ℕ) → c < length net.wires → latch_at (machine_at net.machines (wire_at net.wires c).consumer).latches (wire_at net.wires c).place ≡ Some value → ⊥
  no-latch c value known e =
      let q = (wire_at net.wires c).consumer in
      let there = consumer-there flow net kept c known in
      let low = ((kept.machines q there).latched c value known refl e).0 in
      omega (arith, low, all q there, same)

  takes-end : (c : ℕ) → c < length net.wires → takes net c ≡ n
  takes-end c known =
      let q = (wire_at net.wires c).consumer in
      got-none (machine_at net.machines q).cycle (latch_at (machine_at net.machines q).latches (wire_at net.wires c).place) (λ value e. no-latch c value known e) ∙ all q (consumer-there flow net kept c known)

  -- the token is the last one of the channel's list
  pub last-token : (c token : ℕ) → c < length net.wires → (wire_at net.wires c).first ≡ Some token → newest (queue_at net.queues c) ≡ value_at (list_at flow.lists c) n
  last-token c token known opens =
      let queue = queue_at net.queues c in
      let long : length queue ≡ 1 = all-drained flow net kept n same all c known ∙ ap (λ o. length (opening_queue o)) opens in
      let first : takes net c + 0 ≡ n = omega (arith, takes-end c known) in
      ap (λ k. value_at queue (k - 1)) long ∙ (kept.channels c known).tokens 0 (omega (arith, long)) ∙ ap (value_at (list_at flow.lists c)) first

  -- an in that is there is empty
  empty : (m i : ℕ) → m < length net.machines → i < (kind_at (frame_of net).kinds m).ins → m < length (frame_of net).kinds → IsSome (latch_at (machine_at net.machines m).latches i) → ⊥
  empty m i lt low known full =
      let at = kept.sound.wired.into m i known low in
      full-none (latch_at (machine_at net.machines m).latches i) full (λ value e.
      no-latch at.0 value at.1.known (ap (λ k. latch_at (machine_at net.machines k).latches (wire_at net.wires at.0).place) at.1.machine ∙ ap (latch_at (machine_at net.machines m).latches) at.1.place ∙ e))

  pub none-served : (m : ℕ) → m < length net.machines → m < length (frame_of net).kinds → (machine_at net.machines m).served ≡ 0
  none-served m lt known = by (cases_lt 0 (machine_at net.machines m).served)
    where
      by : (0 < (machine_at net.machines m).served) ⊎ ((machine_at net.machines m).served ≤ 0) → (machine_at net.machines m).served ≡ 0
      by (inr none) = omega (arith, none)
      by (inl some) =
          let machine = machine_at net.machines m in
          let at = kept.machines m lt in
          let few = at.served in
          let there : 0 < length machine.ports = omega (arith, some, few) in
          let long = length-take-le machine.served machine.ports few in
          let any = some-item machine.ports 0 there in
          let port = get_or machine.ports 0 any in
          let fields = subst (λ (p : Port). All (λ i. IsSome (latch_at machine.latches i)) (fields_of p.access)) (get_or-take machine.served machine.ports 0 any some) (at.fields 0 any (omega (arith, some, long))) in
          let ports : (kind_at (frame_of net).kinds m).ports ≡ machine.ports = ap (λ (k : Kind). k.ports) (sym at.kind) in
          let ins = subst (λ (l : List Port). All (λ (p : Port). All (λ i. i < (kind_at (frame_of net).kinds m).ins) (fields_of p.access)) l) ports (kept.sound.wired.fields m known) 0 any there in
          absurd (empty m (get_or (fields_of port.access) 0 0) lt (ins 0 0 (some-field port.access)) known (fields 0 0 (some-field port.access)))
