-- A network that is kept is the one with its counts, and there is only one with these counts.
use Rattle.std.proofs.Common.{◌≡◌, ℕ, suc, ◌+◌, ◌-◌, ◌*◌, ◌<◌, ◌≤◌, List, [], Option, Some, None, Bool, true, false, length, refl, ap, sym, subst, ◌∙◌, arith}
use Rattle.std.specs.Prelude.{nat_lt, take}
use Rattle.std.proofs.lemmas.Bool.{lt-ltb, le-ltb}
use Rattle.std.proofs.lemmas.List.{length-map, length-drop, length-take-le, get_or-drop, get_or-take, ext_get_or}
use Rattle.gg_flat.specs.Line.{value_at}
use Rattle.gg_flat.specs.Streams.{Flow}
use Rattle.gg_node.specs.Machine.{Behaviour, RunsPiece, GivesColumn, KeepsLast, Machine, no_machine, machine_at, latch_at, flag_at}
use Rattle.gg_net.specs.Network as network
use Rattle.gg_net.specs.Network.{Network, Frame, Kind, IsAtIn, IsAtOut, wire_at, queue_at, kind_of, kind_at, frame_of, and_one, got_by, entered_by}
use Rattle.gg_net.specs.Kept.{Kept, MachineAt, BetweenAt, HasKept, IsSound, IsStateOf, Keeps, KeepsNone, Runs, list_at, rows_at, start_at}
use Rattle.gg_net.specs.Step.{latch_of, flag_of}
use Rattle.gg_net.proofs.CountLemmas.{same-machine, same-network}
use Rattle.gg_net.proofs.MachineLemmas.{state-once}
use Rattle.gg_net.proofs.MayLemmas.{consumer-there}
use Rattle.gg_net.specs.markings.Marking.{Layout}
use Rattle.gg_net.specs.inside.Fits.{HasLayout, marking_of}
use Rattle.gg_net.proofs.MarkingsLemmas.CountLemmas.{cycle-at, puts-are, takes-are}
use Rattle.gg_net.proofs.MarkingsLemmas.PutsLemmas.{puts-within, entered-mono}
use Rattle.gg_net.specs.inside.Counts.{Counts, counts_of, AreSame}
use Rattle.gg_measure.specs.inside.Nets.{AreLast}
use Rattle.gg_measure.specs.inside.At.{MachineIsAt, IsAt, latch_if, served_now, part_of}
use Rattle.gg_measure.proofs.NetLemmas.{serves-are}
use Rattle.gg_measure.proofs.DoneLemmas.{last-of}

-- ---- over plain variables

latch-is : (cycle value : ℕ) (latch : Option ℕ) → ((v : ℕ) → latch ≡ Some v → v ≡ value) → latch ≡ latch_if (nat_lt cycle (got_by cycle latch)) value
latch-is cycle value None is = ap (λ b. latch_if b value) (sym (le-ltb cycle cycle (omega arith)))
latch-is cycle value (Some v) is = ap Some (is v refl) ∙ ap (λ b. latch_if b value) (sym (lt-ltb cycle (suc cycle) (omega arith)))

flag-is : (cycle : ℕ) (flag : Bool) → flag ≡ nat_lt cycle (and_one cycle flag)
flag-is cycle false = sym (le-ltb cycle cycle (omega arith))
flag-is cycle true = sym (lt-ltb cycle (suc cycle) (omega arith))

-- a queue is a part of its list
part-is : (list : List ℕ) (capacity taken entered : ℕ) (queue : List ℕ) → BetweenAt list capacity taken entered queue → entered ≤ length list → queue ≡ part_of list taken entered
part-is list capacity taken entered queue is le =
    ext_get_or 0 queue (part_of list taken entered) (omega (arith, is.held, length-drop taken (take entered list), length-take-le entered list le))
    (λ j lt. is.tokens j lt ∙ sym (get_or-drop taken (take entered list) j 0 ∙ get_or-take entered list (taken + j) 0 (omega (arith, lt, is.held))))

last-once : (list : List ℕ) (begin rows cycle : ℕ) (a b : List ℕ) → AreLast list begin rows cycle a → AreLast list begin rows cycle b → a ≡ b
last-once list begin rows cycle a b is was =
    let same : length a ≡ length b = is.count ∙ sym was.count in
    ext_get_or 0 a b same (λ j lt. is.is j lt ∙ ap (λ n. value_at list (cycle - n + j)) same ∙ sym (was.is j (omega (arith, lt, same))))

-- ---- a network that is kept

module _ (flow : Flow) (net : Network) (kept : Kept flow net) (layout : Layout) (has : HasLayout (frame_of net) layout) (counts : Counts) (same : AreSame layout counts (counts_of layout (marking_of net))) where
  abbrev frame : Frame
  frame = frame_of net

  there : (m : ℕ) → m < length frame.kinds → m < length net.machines
  there m known = omega (arith, known, length-map net.machines kind_of)

  cycle-is : (m : ℕ) → m < length frame.kinds → (machine_at net.machines m).cycle ≡ counts.cycles m
  cycle-is m known = sym (cycle-at net m) ∙ same.cycles m (omega (arith, known, has.machines))

  takes-is : (c : ℕ) → c < length net.wires → network.takes net c ≡ counts.takes c
  takes-is c known = takes-are net layout has c known ∙ same.takes c (omega (arith, known, has.channels))

  puts-is : (c : ℕ) → c < length net.wires → network.puts net c ≡ counts.puts c
  puts-is c known = puts-are net layout has c known ∙ same.puts c (omega (arith, known, has.channels))

  latch-at : (c : ℕ) → c < length net.wires → let q : ℕ = (wire_at net.wires c).consumer in latch_of net c ≡ latch_if (nat_lt (counts.cycles q) (counts.takes c)) (value_at (list_at flow.lists c) (counts.cycles q))
  latch-at c known =
      let q : ℕ = (wire_at net.wires c).consumer in
      let list : List ℕ = list_at flow.lists c in
      let at : MachineAt flow frame q (machine_at net.machines q) = kept.machines q (consumer-there flow net kept c known) in
      latch-is (machine_at net.machines q).cycle (value_at list (machine_at net.machines q).cycle) (latch_of net c) (λ v is. (at.latched c v known refl is).1)
      ∙ ap (λ n. latch_if (nat_lt n (network.takes net c)) (value_at list n)) (cycle-is q (kept.sound.wired.consumer c known))
      ∙ ap (λ n. latch_if (nat_lt (counts.cycles q) n) (value_at list (counts.cycles q))) (takes-is c known)

  flag-at : (c : ℕ) → c < length net.wires → flag_of net c ≡ nat_lt (counts.cycles (wire_at net.wires c).producer) (counts.puts c)
  flag-at c known =
      let p : ℕ = (wire_at net.wires c).producer in
      flag-is (machine_at net.machines p).cycle (flag_of net c)
      ∙ ap (λ n. nat_lt n (network.puts net c)) (cycle-is p (kept.sound.wired.producer c known))
      ∙ ap (nat_lt (counts.cycles p)) (puts-is c known)

  served-is : (m : ℕ) → m < length frame.kinds → (machine_at net.machines m).served ≡ served_now (kind_at frame.kinds m) counts m
  served-is m known =
      let x : Machine = machine_at net.machines m in
      let at : MachineAt flow frame m x = kept.machines m (there m known) in
      let in_layout : m < length layout.turns = omega (arith, known, has.machines) in
      omega (
        arith,
        serves-are flow net kept layout has m in_layout,
        same.serves m in_layout,
        ap (λ (kind : Kind). length kind.ports * x.cycle) at.kind,
        ap (λ n. length (kind_at frame.kinds m).ports * n) (cycle-is m known),
      )

  machine-is : (m : ℕ) → m < length frame.kinds → MachineIsAt flow frame counts m (machine_at net.machines m)
  machine-is m known =
      let x : Machine = machine_at net.machines m in
      let kind : Kind = kind_at frame.kinds m in
      let at : MachineAt flow frame m x = kept.machines m (there m known) in
      record {
        kind = at.kind;
        cycle = cycle-is m known;
        served = served-is m known;
        state = subst (λ n. IsStateOf kind.behaviour (start_at flow kind m) kind.ports (rows_at flow.runs m) (counts.cycles m) n x.state) (served-is m known)
            (subst (λ n. IsStateOf kind.behaviour (start_at flow kind m) kind.ports (rows_at flow.runs m) n x.served x.state) (cycle-is m known)
            (subst (λ (k : Kind). IsStateOf k.behaviour (start_at flow kind m) k.ports (rows_at flow.runs m) x.cycle x.served x.state) at.kind at.stands));
        latches = λ c c_known is.
            subst (λ k. latch_at (machine_at net.machines k).latches (wire_at net.wires c).place ≡ latch_if (nat_lt (counts.cycles k) (counts.takes c)) (value_at (list_at flow.lists c) (counts.cycles k))) is (latch-at c c_known);
        flags = λ c c_known is.
            subst (λ k. flag_at (machine_at net.machines k).flags (wire_at net.wires c).out ≡ nat_lt (counts.cycles k) (counts.puts c)) is (flag-at c c_known);
        kept = λ c rows c_known is keeps.
            let list : List ℕ = list_at flow.lists c in
            let has_kept : HasKept list flow.begin rows x.cycle x.kept =
            subst (λ b. Keeps b flow.begin list x.cycle x.kept) (ap (λ (k : Kind). k.behaviour) at.kind ∙ keeps) (at.kept c c_known is) in
            subst (λ n. AreLast list flow.begin rows n x.kept) (cycle-is m known) (last-of list flow.begin rows x.cycle x.kept has_kept);
        rest = subst (λ (k : Kind). KeepsNone k.behaviour x.kept) at.kind at.rest;
      }

  pub is-at : IsAt flow frame counts net
  is-at =
      record {
        frame_is = refl;
        machines = machine-is;
        count = kept.queues;
        queues = λ c known.
            let list : List ℕ = list_at flow.lists c in
            let first : Option ℕ = (wire_at net.wires c).first in
            let within : network.entered net c ≤ length list = omega (arith, entered-mono first (network.puts net c) net.end (puts-within flow net kept c known), kept.sound.solves.long c known) in
            part-is list (wire_at net.wires c).capacity (network.takes net c) (network.entered net c) (queue_at net.queues c) (kept.channels c known) within
            ∙ ap (λ n. part_of list n (network.entered net c)) (takes-is c known)
            ∙ ap (λ n. part_of list (counts.takes c) (entered_by first n)) (puts-is c known);
      }

-- ---- one network

module _ (flow : Flow) (frame : Frame) (sound : IsSound flow frame) (counts : Counts) where
  module _ (m : ℕ) (known : m < length frame.kinds) (x y : Machine) (at : MachineIsAt flow frame counts m x) (to : MachineIsAt flow frame counts m y) where
    kinds : kind_of x ≡ kind_of y
    kinds = at.kind ∙ sym to.kind

    latches-same : x.latches ≡ y.latches
    latches-same =
        ext_get_or None x.latches y.latches (ap (λ (k : Kind). k.ins) kinds) (λ i lt.
        let into : (c : ℕ) × IsAtIn frame.wires m i c = sound.wired.into m i known (omega (arith, lt, ap (λ (k : Kind). k.ins) at.kind)) in
        subst (λ j. latch_at x.latches j ≡ latch_at y.latches j) into.1.place (at.latches into.0 into.1.known into.1.machine ∙ sym (to.latches into.0 into.1.known into.1.machine)))

    flags-same : x.flags ≡ y.flags
    flags-same =
        ext_get_or false x.flags y.flags (ap (λ (k : Kind). k.outs) kinds) (λ o lt.
        let from : (c : ℕ) × IsAtOut frame.wires m o c = sound.wired.from m o known (omega (arith, lt, ap (λ (k : Kind). k.outs) at.kind)) in
        subst (λ j. flag_at x.flags j ≡ flag_at y.flags j) from.1.out (at.flags from.0 from.1.known from.1.machine ∙ sym (to.flags from.0 from.1.known from.1.machine)))

    kept-by : (b : Behaviour) → (kind_at frame.kinds m).behaviour ≡ b → KeepsNone b x.kept → KeepsNone b y.kept → x.kept ≡ y.kept
    kept-by (RunsPiece piece) is none empty = none ∙ sym empty
    kept-by (GivesColumn column) is none empty = none ∙ sym empty
    kept-by (KeepsLast rows) is none empty =
        let runs : Runs (KeepsLast rows) (kind_at frame.kinds m) (start_at flow (kind_at frame.kinds m) m) (rows_at flow.runs m) frame.end =
        subst (λ b. Runs b (kind_at frame.kinds m) (start_at flow (kind_at frame.kinds m) m) (rows_at flow.runs m) frame.end) is (sound.solves.does m known) in
        let into : (c : ℕ) × IsAtIn frame.wires m 0 c = sound.wired.into m 0 known (omega (arith, runs.0)) in
        last-once (list_at flow.lists into.0) flow.begin rows (counts.cycles m) x.kept y.kept (at.kept into.0 rows into.1.known into.1.machine is) (to.kept into.0 rows into.1.known into.1.machine is)

    machine-once : x ≡ y
    machine-once =
        let kind : Kind = kind_at frame.kinds m in
        same-machine x y kinds (at.cycle ∙ sym to.cycle)
        (state-once kind.behaviour (start_at flow kind m) kind.ports (rows_at flow.runs m) (counts.cycles m) (served_now kind counts m) x.state y.state at.state to.state)
        (at.served ∙ sym to.served) latches-same flags-same (kept-by kind.behaviour refl at.rest to.rest)

  pub at-once : (a b : Network) → IsAt flow frame counts a → IsAt flow frame counts b → a ≡ b
  at-once a b is was =
      let frames : frame_of a ≡ frame_of b = is.frame_is ∙ sym was.frame_is in
      let few : length a.machines ≡ length frame.kinds = sym (length-map a.machines kind_of) ∙ ap (λ (f : Frame). length f.kinds) is.frame_is in
      same-network a b frames
      (ext_get_or no_machine a.machines b.machines (few ∙ sym (sym (length-map b.machines kind_of) ∙ ap (λ (f : Frame). length f.kinds) was.frame_is))
      (λ m lt. machine-once m (omega (arith, lt, few)) (machine_at a.machines m) (machine_at b.machines m) (is.machines m (omega (arith, lt, few))) (was.machines m (omega (arith, lt, few)))))
      (ext_get_or [] a.queues b.queues (is.count ∙ sym was.count) (λ c lt. is.queues c (omega (arith, lt, is.count)) ∙ sym (was.queues c (omega (arith, lt, is.count)))))
