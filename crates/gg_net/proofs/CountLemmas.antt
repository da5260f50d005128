-- A network that is kept is determined by its frame and its counts.
use Rattle.std.proofs.Common.{◌≡◌, ℕ, ◌<◌, ◌≤◌, List, [], Option, None, Some, Bool, true, false, length, map, refl, sym, ap, subst, ◌∙◌, ⊎_elim, arith}
use Rattle.std.proofs.lemmas.Bool.{cases_lt}
use Rattle.std.proofs.lemmas.List.{length-map, ext_get_or}
use Rattle.gg_flat.specs.Line.{value_at}
use Rattle.gg_flat.specs.State.{State}
use Rattle.gg_flat.specs.Streams.{Flow}
use Rattle.gg_node.specs.Machine.{Behaviour, RunsPiece, GivesColumn, KeepsLast, Machine, no_machine, machine_at, latch_at, flag_at}
use Rattle.gg_net.specs.declared.shape.Wire.{Wire}
use Rattle.gg_net.specs.Network.{wire_at, IsAtIn, IsAtOut, Network, queue_at, and_one, got_by, entered_by, puts, takes, entered, Kind, kind_of, kind_at, Frame, frame_of}
use Rattle.gg_net.specs.inside.Network.{SameCounts}
use Rattle.gg_net.specs.Kept.{list_at, rows_at, start_at, Runs, IsSound, BetweenAt, IsStateOf, HasKept, Keeps, KeepsNone, MachineAt, Kept}
use Rattle.gg_net.proofs.MachineLemmas.{state-once}

-- ---- over plain variables

got-same : (cycle : ℕ) (a b : Option ℕ) (value : ℕ) → ((v : ℕ) → a ≡ Some v → v ≡ value) → ((v : ℕ) → b ≡ Some v → v ≡ value) → got_by cycle a ≡ got_by cycle b → a ≡ b
got-same cycle None None value is was same = refl
got-same cycle None (Some w) value is was same = absurd (omega (arith, same))
got-same cycle (Some v) None value is was same = absurd (omega (arith, same))
got-same cycle (Some v) (Some w) value is was same = ap Some (is v refl ∙ sym (was w refl))

given-same : (cycle : ℕ) (a b : Bool) → and_one cycle a ≡ and_one cycle b → a ≡ b
given-same cycle false false same = refl
given-same cycle false true same = absurd (omega (arith, same))
given-same cycle true false same = absurd (omega (arith, same))
given-same cycle true true same = refl

pub between-once : (list : List ℕ) (capacity taken put : ℕ) (a b : List ℕ) → BetweenAt list capacity taken put a → BetweenAt list capacity taken put b → a ≡ b
between-once list capacity taken put a b is was =
    ext_get_or 0 a b (omega (arith, is.held, was.held)) (λ j lt. is.tokens j lt ∙ sym (was.tokens j (omega (arith, lt, is.held, was.held))))

kept-once : (list : List ℕ) (begin rows cycle : ℕ) (a b : List ℕ) → HasKept list begin rows cycle a → HasKept list begin rows cycle b → a ≡ b
kept-once list begin rows cycle a b is was =
    let base : is.base ≡ was.base =
    ⊎_elim
    (λ (lt : length a < rows). ⊎_elim
    (λ (less : length b < rows). is.whole lt ∙ sym (was.whole less))
    (λ (le : rows ≤ length b). omega (arith, lt, le, is.whole lt, is.between.held, was.between.held, was.begun))
    (cases_lt (length b) rows))
    (λ (le : rows ≤ length a). ⊎_elim
    (λ (less : length b < rows). omega (arith, le, less, was.whole less, is.between.held, was.between.held, is.begun))
    (λ (more : rows ≤ length b). omega (arith, le, more, is.between.room, was.between.room, is.between.held, was.between.held))
    (cases_lt (length b) rows))
    (cases_lt (length a) rows) in
    between-once list rows was.base cycle a b (subst (λ n. BetweenAt list rows n cycle a) base is.between) was.between

-- a machine from its kind and what changes
machine_from : Kind → ℕ → State → ℕ → List (Option ℕ) → List Bool → List ℕ → Machine
machine_from kind cycle state served latches flags kept =
    record { behaviour = kind.behaviour; limit = kind.limit; ratios = kind.ratios; needs = kind.needs; port_count = kind.port_count; ports = kind.ports; cycle = cycle; state = state; served = served; latches = latches; flags = flags; kept = kept }

pub same-machine : (x y : Machine) → kind_of x ≡ kind_of y → x.cycle ≡ y.cycle → x.state ≡ y.state → x.served ≡ y.served → x.latches ≡ y.latches → x.flags ≡ y.flags → x.kept ≡ y.kept → x ≡ y
unfolding machine_from
same-machine x y kind cycle state served latches flags kept =
    ap (λ k. machine_from k x.cycle x.state x.served x.latches x.flags x.kept) kind
    ∙ ap (λ n. machine_from (kind_of y) n x.state x.served x.latches x.flags x.kept) cycle
    ∙ ap (λ s. machine_from (kind_of y) y.cycle s x.served x.latches x.flags x.kept) state
    ∙ ap (λ n. machine_from (kind_of y) y.cycle y.state n x.latches x.flags x.kept) served
    ∙ ap (λ l. machine_from (kind_of y) y.cycle y.state y.served l x.flags x.kept) latches
    ∙ ap (λ f. machine_from (kind_of y) y.cycle y.state y.served y.latches f x.kept) flags
    ∙ ap (λ k. machine_from (kind_of y) y.cycle y.state y.served y.latches y.flags k) kept

-- networks with the same frame, the same machines and the same queues are the same
pub same-network : (a b : Network) → frame_of a ≡ frame_of b → a.machines ≡ b.machines → a.queues ≡ b.queues → a ≡ b
same-network a b frame machines queues =
    ap (λ (xs : List Machine). record { machines = xs; wires = a.wires; queues = a.queues; end = a.end }) machines
    ∙ ap (λ (wires : List Wire). record { machines = b.machines; wires = wires; queues = a.queues; end = a.end }) (ap (λ (f : Frame). f.wires) frame)
    ∙ ap (λ (qs : List (List ℕ)). record { machines = b.machines; wires = b.wires; queues = qs; end = a.end }) queues
    ∙ ap (λ n. record { machines = b.machines; wires = b.wires; queues = b.queues; end = n }) (ap (λ (f : Frame). f.end) frame)

-- ---- one machine

module _ (flow : Flow) (frame : Frame) (sound : IsSound flow frame) (m : ℕ) (below : m < length frame.kinds) (x y : Machine) (at : MachineAt flow frame m x) (to : MachineAt flow frame m y) (cycle : x.cycle ≡ y.cycle) (served : x.served ≡ y.served) where
  kinds : kind_of x ≡ kind_of y
  kinds = at.kind ∙ sym to.kind

  module _ (takes_same : (c : ℕ) → c < length frame.wires → (wire_at frame.wires c).consumer ≡ m → got_by x.cycle (latch_at x.latches (wire_at frame.wires c).place) ≡ got_by y.cycle (latch_at y.latches (wire_at frame.wires c).place)) where
    latches-same : x.latches ≡ y.latches
    latches-same =
        ext_get_or None x.latches y.latches (ap (λ (k : Kind). k.ins) kinds) (λ i lt.
        let within : i < (kind_at frame.kinds m).ins = omega (arith, lt, ap (λ (k : Kind). k.ins) at.kind) in
        let c : ℕ = (sound.wired.into m i below within).0 in
        let in_at : IsAtIn frame.wires m i c = (sound.wired.into m i below within).1 in
        let p : ℕ = (wire_at frame.wires c).place in
        subst (λ j. latch_at x.latches j ≡ latch_at y.latches j) in_at.place
        (got-same y.cycle (latch_at x.latches p) (latch_at y.latches p) (value_at (list_at flow.lists c) y.cycle)
        (λ v is. (at.latched c v in_at.known in_at.machine is).1 ∙ ap (value_at (list_at flow.lists c)) cycle)
        (λ v is. (to.latched c v in_at.known in_at.machine is).1)
        (subst (λ n. got_by n (latch_at x.latches p) ≡ got_by y.cycle (latch_at y.latches p)) cycle (takes_same c in_at.known in_at.machine))))

  module _ (puts_same : (c : ℕ) → c < length frame.wires → (wire_at frame.wires c).producer ≡ m → and_one x.cycle (flag_at x.flags (wire_at frame.wires c).out) ≡ and_one y.cycle (flag_at y.flags (wire_at frame.wires c).out)) where
    flags-same : x.flags ≡ y.flags
    flags-same =
        ext_get_or false x.flags y.flags (ap (λ (k : Kind). k.outs) kinds) (λ o lt.
        let within : o < (kind_at frame.kinds m).outs = omega (arith, lt, ap (λ (k : Kind). k.outs) at.kind) in
        let c : ℕ = (sound.wired.from m o below within).0 in
        let out_at : IsAtOut frame.wires m o c = (sound.wired.from m o below within).1 in
        let p : ℕ = (wire_at frame.wires c).out in
        subst (λ j. flag_at x.flags j ≡ flag_at y.flags j) out_at.out
        (given-same y.cycle (flag_at x.flags p) (flag_at y.flags p)
        (subst (λ n. and_one n (flag_at x.flags p) ≡ and_one y.cycle (flag_at y.flags p)) cycle (puts_same c out_at.known out_at.machine))))

  state-same : x.state ≡ y.state
  state-same =
      state-once y.behaviour (start_at flow (kind_at frame.kinds m) m) y.ports (rows_at flow.runs m) y.cycle y.served x.state y.state
      (subst (λ b. IsStateOf b (start_at flow (kind_at frame.kinds m) m) y.ports (rows_at flow.runs m) y.cycle y.served x.state) (ap (λ (k : Kind). k.behaviour) kinds)
      (subst (λ ports. IsStateOf x.behaviour (start_at flow (kind_at frame.kinds m) m) ports (rows_at flow.runs m) y.cycle y.served x.state) (ap (λ (k : Kind). k.ports) kinds)
      (subst (λ n. IsStateOf x.behaviour (start_at flow (kind_at frame.kinds m) m) x.ports (rows_at flow.runs m) n y.served x.state) cycle
      (subst (λ n. IsStateOf x.behaviour (start_at flow (kind_at frame.kinds m) m) x.ports (rows_at flow.runs m) x.cycle n x.state) served at.stands))))
      to.stands

  kept-by : (b : Behaviour) → (kind_at frame.kinds m).behaviour ≡ b → KeepsNone b x.kept → KeepsNone b y.kept → ((c : ℕ) → c < length frame.wires → (wire_at frame.wires c).consumer ≡ m → Keeps b flow.begin (list_at flow.lists c) y.cycle x.kept × Keeps b flow.begin (list_at flow.lists c) y.cycle y.kept) → x.kept ≡ y.kept
  kept-by (RunsPiece piece) is none empty keeps = none ∙ sym empty
  kept-by (GivesColumn column) is none empty keeps = none ∙ sym empty
  kept-by (KeepsLast most) is none empty keeps =
      let runs : Runs (KeepsLast most) (kind_at frame.kinds m) (start_at flow (kind_at frame.kinds m) m) (rows_at flow.runs m) frame.end = subst (λ b. Runs b (kind_at frame.kinds m) (start_at flow (kind_at frame.kinds m) m) (rows_at flow.runs m) frame.end) is (sound.solves.does m below) in
      let within : 0 < (kind_at frame.kinds m).ins = omega (arith, runs.0) in
      let c : ℕ = (sound.wired.into m 0 below within).0 in
      let in_at : IsAtIn frame.wires m 0 c = (sound.wired.into m 0 below within).1 in
      kept-once (list_at flow.lists c) flow.begin most y.cycle x.kept y.kept (keeps c in_at.known in_at.machine).0 (keeps c in_at.known in_at.machine).1

  kept-same : x.kept ≡ y.kept
  kept-same =
      let behaviour : x.behaviour ≡ y.behaviour = ap (λ (k : Kind). k.behaviour) kinds in
      kept-by y.behaviour (sym (ap (λ (k : Kind). k.behaviour) to.kind)) (subst (λ b. KeepsNone b x.kept) behaviour at.rest) to.rest
      (λ c known is.
      (subst (λ b. Keeps b flow.begin (list_at flow.lists c) y.cycle x.kept) behaviour (subst (λ n. Keeps x.behaviour flow.begin (list_at flow.lists c) n x.kept) cycle (at.kept c known is)), to.kept c known is))

-- ---- the network

module _ (flow : Flow) (a b : Network) (is : Kept flow a) (was : Kept flow b) (frame : frame_of a ≡ frame_of b) (counts : SameCounts a b) where
  wires-same : a.wires ≡ b.wires
  wires-same = ap (λ (f : Frame). f.wires) frame

  there : length a.machines ≡ length b.machines
  there = sym (length-map a.machines kind_of) ∙ ap (λ (f : Frame). length f.kinds) frame ∙ length-map b.machines kind_of

  machine-same : (m : ℕ) → m < length a.machines → machine_at a.machines m ≡ machine_at b.machines m
  machine-same m lt =
      let x : Machine = machine_at a.machines m in
      let y : Machine = machine_at b.machines m in
      let below : m < length (map kind_of a.machines) = omega (arith, lt, length-map a.machines kind_of) in
      let at : MachineAt flow (frame_of a) m x = is.machines m lt in
      let to : MachineAt flow (frame_of a) m y = subst (λ f. MachineAt flow f m y) (sym frame) (was.machines m (omega (arith, lt, there))) in
      let cycle : x.cycle ≡ y.cycle = counts.cycles m lt in
      let served : x.served ≡ y.served = counts.served m lt in
      same-machine x y (at.kind ∙ sym to.kind) cycle
      (state-same flow (frame_of a) is.sound m below x y at to cycle served) served
      (latches-same flow (frame_of a) is.sound m below x y at to cycle served (λ c known consumer.
      subst (λ k. got_by (machine_at a.machines k).cycle (latch_at (machine_at a.machines k).latches (wire_at a.wires c).place) ≡ got_by (machine_at b.machines k).cycle (latch_at (machine_at b.machines k).latches (wire_at a.wires c).place)) consumer
      (counts.takes c known ∙ ap (λ (wires : List Wire). got_by (machine_at b.machines (wire_at wires c).consumer).cycle (latch_at (machine_at b.machines (wire_at wires c).consumer).latches (wire_at wires c).place)) (sym wires-same))))
      (flags-same flow (frame_of a) is.sound m below x y at to cycle served (λ c known producer.
      subst (λ k. and_one (machine_at a.machines k).cycle (flag_at (machine_at a.machines k).flags (wire_at a.wires c).out) ≡ and_one (machine_at b.machines k).cycle (flag_at (machine_at b.machines k).flags (wire_at a.wires c).out)) producer
      (counts.puts c known ∙ ap (λ (wires : List Wire). and_one (machine_at b.machines (wire_at wires c).producer).cycle (flag_at (machine_at b.machines (wire_at wires c).producer).flags (wire_at wires c).out)) (sym wires-same))))
      (kept-same flow (frame_of a) is.sound m below x y at to cycle served)

  queue-same : (c : ℕ) → c < length a.wires → queue_at a.queues c ≡ queue_at b.queues c
  queue-same c known =
      let list : List ℕ = list_at flow.lists c in
      let capacity : ℕ = (wire_at a.wires c).capacity in
      let between : BetweenAt list (wire_at b.wires c).capacity (takes b c) (entered b c) (queue_at b.queues c) = was.channels c (omega (arith, known, ap length wires-same)) in
      between-once list capacity (takes a c) (entered a c) (queue_at a.queues c) (queue_at b.queues c) (is.channels c known)
      (subst (λ n. BetweenAt list capacity n (entered a c) (queue_at b.queues c)) (sym (counts.takes c known))
      (subst (λ n. BetweenAt list capacity (takes b c) n (queue_at b.queues c)) (sym (ap (entered_by (wire_at a.wires c).first) (counts.puts c known)))
      (subst (λ (wires : List Wire). BetweenAt list (wire_at wires c).capacity (takes b c) (entered_by (wire_at wires c).first (puts b c)) (queue_at b.queues c)) (sym wires-same) between)))

  -- Two networks that are kept by one flow are the same if their frames and their counts are.
  pub counted-once : a ≡ b
  counted-once =
      same-network a b frame
      (ext_get_or no_machine a.machines b.machines there machine-same)
      (ext_get_or [] a.queues b.queues (is.queues ∙ ap length wires-same ∙ sym was.queues) (λ c lt. queue-same c (omega (arith, lt, is.queues))))
