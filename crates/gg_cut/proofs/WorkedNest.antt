-- A unit with an instance in it, with the plans in full: one lists the unit, the other the instance in it.
--
-- The top has the input `x`, the output `q` and an instance `u`; `u` has the input `x`, the output `q` and an instance `in` with
-- the input `a` and the output `b`. The top connects `u.x` to `x` and `q` to `u.q`, `u` connects `in.a` to `x` and `q` to `in.b`,
-- and `b` is `a`.
use Rattle.std.proofs.Common.{false, ℕ, ◌<◌, List, [], ◌∷◌, Some, None, set, refl, lit<, lit≤}
use Rattle.std.specs.Prelude.{codes, slice_index_or}
use Rattle.gg_flat.specs.declared.line.Op.TheVariants.{Ref}
use Rattle.gg_flat.specs.declared.piece.Driver.TheVariants.{Input}
use Rattle.gg_flat.specs.Circuit.{FlatCircuit}
use Rattle.gg_flat_tree.specs.Tree.{InstanceTree}
use Rattle.gg_flat.proofs.WorkedCircuits.{eight, node}
use Rattle.gg_flat.proofs.WorkedMemories.{signal, copy}
use Rattle.gg_flat.proofs.WorkedForms.{four}
use Rattle.gg_order.specs.Design.{Ordered}
use Rattle.gg_part.specs.Part.{IsPart}
use Rattle.gg_part.specs.declared.part.Part.{Part}
use Rattle.gg_partfile.specs.declared.request.Request.{Request}
use Rattle.gg_cut_plan.specs.declared.plan.Body.TheVariants.{Cut, Source, Tray}
use Rattle.gg_cut_plan.specs.declared.plan.Machine.{Machine}
use Rattle.gg_cut_plan.specs.declared.plan.Channel.{Channel}
use Rattle.gg_cut_plan.specs.declared.listed.Listed.{Listed}
use Rattle.gg_cut_plan.specs.declared.wires.Wire.{Wire}
use Rattle.gg_cut_plan.specs.Direct.{Hub, plan_hub}
use Rattle.gg_cut_plan.specs.Listed.{listed_of}
use Rattle.gg_cut_plan.specs.Channels.{wires_of, capacity_of}
use Rattle.gg_cut_plan.specs.Plan.{IsPlan, IsMachine, IsChannel, IsCutPart, wire_at}
use Rattle.gg_cut_plan.proofs.WorkedPair.{input, output, asks}
use Rattle.gg_cut.proofs.WorkedTests.{ascending, names-below, has-needs, lacks-need, foreign-signal, lost-signal}
use Rattle.gg_cut.proofs.WorkedHosts.{unshared}
use Rattle.gg_cut.proofs.WorkedParts.{is-part, no-memories, is-cut-part}

abbrev pub circuit : FlatCircuit
circuit =
    record {
      paths = codes "x" ∷ codes "q" ∷ codes "u.x" ∷ codes "u.q" ∷ codes "u.in.a" ∷ codes "u.in.b" ∷ [];
      signals = signal eight (Input 0) ∷ copy eight 3 ∷ copy eight 0 ∷ copy eight 5 ∷ copy eight 2 ∷ copy eight 4 ∷ [];
      registers = [];
      memories = [];
      ins = 0 ∷ [];
      outs = 1 ∷ [];
      clocks = 0;
    }

abbrev pub tree : InstanceTree
tree =
    record {
      paths = [] ∷ codes "u" ∷ codes "u.in" ∷ [];
      instances =
          record { parent = None; «module» = 2; first = 0; end = 6; ports = input 0 ∷ output 1 ∷ []; memories = []; clocks = [] }
          ∷ record { parent = Some 0; «module» = 1; first = 2; end = 6; ports = input 2 ∷ output 3 ∷ []; memories = []; clocks = [] }
          ∷ record { parent = Some 1; «module» = 0; first = 4; end = 6; ports = input 4 ∷ output 5 ∷ []; memories = []; clocks = [] } ∷ [];
      memory_paths = [];
      memories = [];
      clocks = [];
      register_clocks = [];
      stops = [];
    }

abbrev pub design : Ordered
design = record { circuit = circuit; tree = tree; order = 0 ∷ 2 ∷ 4 ∷ 5 ∷ 3 ∷ 1 ∷ [] }

-- a channel of capacity 2 that carries eight bits
abbrev channel : ℕ → List ℕ → ℕ → ℕ → List ℕ → Channel
channel s name producer consumer needs =
    record { signal = s; name = name; ty = eight; producer = producer; consumer = consumer; capacity = 2; pipe = false; needs = needs }

-- ---- `u` as a unit

abbrev outer : Request
outer = asks (codes "u" ∷ []) []

abbrev listed : Listed
listed = listed_of tree outer

abbrev wires : List Wire
wires = wires_of circuit tree listed []

abbrev routed : Hub
routed = plan_hub circuit tree outer

abbrev pub hub : Part
hub =
    record {
      piece =
          record {
            paths = codes "x" ∷ codes "u.x" ∷ codes "u.q" ∷ codes "q" ∷ [];
            signals =
                signal eight (Input 0) ∷ copy eight 0 ∷ signal eight (Input 1) ∷ copy eight 2 ∷ [];
            registers = [];
            memories = [];
            ins = 0 ∷ 2 ∷ [];
            outs = 1 ∷ 3 ∷ [];
            clocks = 0;
          };
      globals = 0 ∷ 2 ∷ 3 ∷ 1 ∷ [];
      held = [];
      memories = [];
      clocks = [];
    }

-- the part of the unit: it has the two signals of the instance in it
abbrev pub unit : Part
unit =
    record {
      piece =
          record {
            paths = codes "u.x" ∷ codes "u.in.a" ∷ codes "u.in.b" ∷ codes "u.q" ∷ [];
            signals =
                signal eight (Input 0) ∷ copy eight 0 ∷ copy eight 1 ∷ copy eight 2 ∷ [];
            registers = [];
            memories = [];
            ins = 0 ∷ [];
            outs = 3 ∷ [];
            clocks = 0;
          };
      globals = 2 ∷ 4 ∷ 5 ∷ 3 ∷ [];
      held = [];
      memories = [];
      clocks = [];
    }

hub-part : IsPart circuit hub.piece hub.globals [] [] []
hub-part =
    is-part circuit hub.piece hub.globals refl refl refl refl refl refl
    ((lit< tt, refl), ((names-below 4 (node eight (Ref 0) ∷ []) refl, refl), ((lit< tt, refl), ((names-below 4 (node eight (Ref 2) ∷ []) refl, refl), tt))))
    ((lit< tt, refl), ((lit< tt, refl), tt)) refl refl refl

unit-part : IsPart circuit unit.piece unit.globals [] [] []
unit-part =
    is-part circuit unit.piece unit.globals refl refl refl refl refl refl
    ((lit< tt, refl), ((names-below 4 (node eight (Ref 0) ∷ []) refl, refl), ((names-below 4 (node eight (Ref 1) ∷ []) refl, refl), ((names-below 4 (node eight (Ref 2) ∷ []) refl, refl), tt))))
    ((lit< tt, refl), tt) refl refl refl

hub-cut : IsCutPart design listed routed 0 hub
hub-cut = is-cut-part design listed routed 0 hub hub-part refl refl refl refl refl refl refl refl (no-memories tree listed 0 refl) refl

unit-cut : IsCutPart design listed routed 1 unit
unit-cut = is-cut-part design listed routed 1 unit unit-part refl refl refl refl refl refl refl refl (no-memories tree listed 1 refl) refl

abbrev machines : List Machine
machines =
    record { name = codes "hub:"; host = 0; body = Cut hub; ins = 0 ∷ 2 ∷ []; outs = 1 ∷ 3 ∷ [] }
    ∷ record { name = codes "u"; host = 1; body = Cut unit; ins = 1 ∷ []; outs = 2 ∷ [] }
    ∷ record { name = codes "in:x"; host = 2; body = Source 0; ins = []; outs = 0 ∷ [] }
    ∷ record { name = codes "out:q"; host = 3; body = Tray; ins = 3 ∷ []; outs = [] } ∷ []

abbrev channels : List Channel
channels =
    channel 0 (codes "x") 2 0 []
    ∷ channel 2 (codes "u.x") 0 1 (0 ∷ [])
    ∷ channel 3 (codes "u.q") 1 0 (1 ∷ [])
    ∷ channel 1 (codes "q") 0 3 (2 ∷ []) ∷ []

is-machine : (m : ℕ) (any : Machine) → m < 4 → IsMachine design outer [] listed routed m (slice_index_or machines m any)
is-machine m any =
    four (λ k. IsMachine design outer [] listed routed k (slice_index_or machines k any))
    (record { name = refl; host = refl; body = (lit< tt, hub-cut); ins = refl; outs = refl })
    (record { name = refl; host = refl; body = (lit< tt, unit-cut); ins = refl; outs = refl })
    (record { name = refl; host = refl; body = (lit< tt, refl); ins = refl; outs = refl })
    (record { name = refl; host = refl; body = (lit≤ tt, lit< tt); ins = refl; outs = refl })
    m

is-channel : (c : ℕ) (any : Channel) → c < 4 → IsChannel design (capacity_of [] 2) (λ s. false) machines (wire_at wires c) (slice_index_or channels c any)
is-channel c any =
    four (λ k. IsChannel design (capacity_of [] 2) (λ s. false) machines (wire_at wires k) (slice_index_or channels k any))
    (record { signal = refl; name = refl; type = refl; producer = refl; consumer = refl; bound = refl; pipe = refl; ascending = ascending [] refl; needs = λ other. refl })
    (record { signal = refl; name = refl; type = refl; producer = refl; consumer = refl; bound = refl; pipe = refl; ascending = ascending (0 ∷ []) refl; needs = λ other. has-needs hub (0 ∷ 2 ∷ []) 2 (0 ∷ []) refl })
    (record { signal = refl; name = refl; type = refl; producer = refl; consumer = refl; bound = refl; pipe = refl; ascending = ascending (1 ∷ []) refl; needs = λ other. has-needs unit (1 ∷ []) 3 (1 ∷ []) refl })
    (record { signal = refl; name = refl; type = refl; producer = refl; consumer = refl; bound = refl; pipe = refl; ascending = ascending (2 ∷ []) refl; needs = λ other. has-needs hub (0 ∷ 2 ∷ []) 1 (2 ∷ []) refl })
    c

pub is-plan : IsPlan design outer [] 2 (record { machines = machines; channels = channels; listed = listed; ratios = [] })
is-plan = record { listed = refl; ratios = refl; machine_total = refl; few = lit< tt; channel_total = refl; machine = is-machine; channel = is-channel; shared = unshared machines refl }

-- ---- what is no plan of the cut

abbrev any_machine : Machine
any_machine = record { name = []; host = 0; body = Tray; ins = []; outs = [] }

abbrev any_channel : Channel
any_channel = channel 0 [] 0 0 []

-- the path from `u.q` to `u.x` goes through `in`
missed-path : ¬ IsPlan design outer [] 2 (record { machines = machines; channels = set channels 2 (channel 3 (codes "u.q") 1 0 []); listed = listed; ratios = [] })
missed-path is = lacks-need unit (1 ∷ []) 3 [] 1 refl refl refl ((is.channel 2 any_channel (lit< tt)).needs any_machine 3 (lit< tt) refl)

-- A hub that has `in.a` besides, with its driver.

abbrev pub greedy : Part
greedy =
    record {
      piece =
          record {
            paths = codes "x" ∷ codes "u.x" ∷ codes "u.in.a" ∷ codes "u.q" ∷ codes "q" ∷ [];
            signals =
                signal eight (Input 0) ∷ copy eight 0 ∷ copy eight 1 ∷ signal eight (Input 1)
                ∷ copy eight 3 ∷ [];
            registers = [];
            memories = [];
            ins = 0 ∷ 3 ∷ [];
            outs = 1 ∷ 4 ∷ [];
            clocks = 0;
          };
      globals = 0 ∷ 2 ∷ 4 ∷ 3 ∷ 1 ∷ [];
      held = [];
      memories = [];
      clocks = [];
    }

greedy-part : IsPart circuit greedy.piece greedy.globals [] [] []
greedy-part =
    is-part circuit greedy.piece greedy.globals refl refl refl refl refl refl
    ((lit< tt, refl), ((names-below 5 (node eight (Ref 0) ∷ []) refl, refl), ((names-below 5 (node eight (Ref 1) ∷ []) refl, refl), ((lit< tt, refl), ((names-below 5 (node eight (Ref 3) ∷ []) refl, refl), tt)))))
    ((lit< tt, refl), ((lit< tt, refl), tt)) refl refl refl

-- it is a part, but no part of this cut: `in.a` belongs to `u`
inner-owned : ¬ IsPlan design outer [] 2 (record { machines = set machines 0 (record { name = codes "hub:"; host = 0; body = Cut greedy; ins = 0 ∷ 2 ∷ []; outs = 1 ∷ 3 ∷ [] }); channels = channels; listed = listed; ratios = [] })
inner-owned is = foreign-signal routed 0 greedy.globals 4 refl refl (is.machine 0 any_machine (lit< tt)).body.1.signals

-- a unit without `in.a`, which gets `in.b` from outside
abbrev pub hollow : Part
hollow =
    record {
      piece =
          record {
            paths = codes "u.x" ∷ codes "u.in.b" ∷ codes "u.q" ∷ [];
            signals =
                signal eight (Input 0) ∷ signal eight (Input 1) ∷ copy eight 1 ∷ [];
            registers = [];
            memories = [];
            ins = 0 ∷ 1 ∷ [];
            outs = 2 ∷ [];
            clocks = 0;
          };
      globals = 2 ∷ 5 ∷ 3 ∷ [];
      held = [];
      memories = [];
      clocks = [];
    }

hollow-part : IsPart circuit hollow.piece hollow.globals [] [] []
hollow-part =
    is-part circuit hollow.piece hollow.globals refl refl refl refl refl refl
    ((lit< tt, refl), ((lit< tt, refl), ((names-below 3 (node eight (Ref 1) ∷ []) refl, refl), tt)))
    ((lit< tt, refl), ((lit< tt, refl), tt)) refl refl refl

inner-lost : ¬ IsPlan design outer [] 2 (record { machines = set machines 1 (record { name = codes "u"; host = 1; body = Cut hollow; ins = 1 ∷ []; outs = 2 ∷ [] }); channels = channels; listed = listed; ratios = [] })
inner-lost is = lost-signal routed 1 hollow.globals 4 (lit< tt) refl refl (is.machine 1 any_machine (lit< tt)).body.1.signals

-- ---- `in` as a unit: the signals of `u` belong to the hub

abbrev lower : Request
lower = asks (codes "u.in" ∷ []) []

abbrev lower_listed : Listed
lower_listed = listed_of tree lower

abbrev lower_wires : List Wire
lower_wires = wires_of circuit tree lower_listed []

abbrev lower_routed : Hub
lower_routed = plan_hub circuit tree lower

abbrev pub around : Part
around =
    record {
      piece =
          record {
            paths = codes "x" ∷ codes "u.x" ∷ codes "u.in.a" ∷ codes "u.in.b" ∷ codes "u.q" ∷ codes "q" ∷ [];
            signals =
                signal eight (Input 0) ∷ copy eight 0 ∷ copy eight 1 ∷ signal eight (Input 1)
                ∷ copy eight 3 ∷ copy eight 4 ∷ [];
            registers = [];
            memories = [];
            ins = 0 ∷ 3 ∷ [];
            outs = 2 ∷ 5 ∷ [];
            clocks = 0;
          };
      globals = 0 ∷ 2 ∷ 4 ∷ 5 ∷ 3 ∷ 1 ∷ [];
      held = [];
      memories = [];
      clocks = [];
    }

abbrev pub within : Part
within =
    record {
      piece =
          record {
            paths = codes "u.in.a" ∷ codes "u.in.b" ∷ [];
            signals =
                signal eight (Input 0) ∷ copy eight 0 ∷ [];
            registers = [];
            memories = [];
            ins = 0 ∷ [];
            outs = 1 ∷ [];
            clocks = 0;
          };
      globals = 4 ∷ 5 ∷ [];
      held = [];
      memories = [];
      clocks = [];
    }

around-part : IsPart circuit around.piece around.globals [] [] []
around-part =
    is-part circuit around.piece around.globals refl refl refl refl refl refl
    ((lit< tt, refl), ((names-below 6 (node eight (Ref 0) ∷ []) refl, refl), ((names-below 6 (node eight (Ref 1) ∷ []) refl, refl), ((lit< tt, refl), ((names-below 6 (node eight (Ref 3) ∷ []) refl, refl), ((names-below 6 (node eight (Ref 4) ∷ []) refl, refl), tt))))))
    ((lit< tt, refl), ((lit< tt, refl), tt)) refl refl refl

within-part : IsPart circuit within.piece within.globals [] [] []
within-part =
    is-part circuit within.piece within.globals refl refl refl refl refl refl
    ((lit< tt, refl), ((names-below 2 (node eight (Ref 0) ∷ []) refl, refl), tt))
    ((lit< tt, refl), tt) refl refl refl

around-cut : IsCutPart design lower_listed lower_routed 0 around
around-cut = is-cut-part design lower_listed lower_routed 0 around around-part refl refl refl refl refl refl refl refl (no-memories tree lower_listed 0 refl) refl

within-cut : IsCutPart design lower_listed lower_routed 1 within
within-cut = is-cut-part design lower_listed lower_routed 1 within within-part refl refl refl refl refl refl refl refl (no-memories tree lower_listed 1 refl) refl

abbrev lower_machines : List Machine
lower_machines =
    record { name = codes "hub:"; host = 0; body = Cut around; ins = 0 ∷ 2 ∷ []; outs = 1 ∷ 3 ∷ [] }
    ∷ record { name = codes "u.in"; host = 1; body = Cut within; ins = 1 ∷ []; outs = 2 ∷ [] }
    ∷ record { name = codes "in:x"; host = 2; body = Source 0; ins = []; outs = 0 ∷ [] }
    ∷ record { name = codes "out:q"; host = 3; body = Tray; ins = 3 ∷ []; outs = [] } ∷ []

abbrev lower_channels : List Channel
lower_channels =
    channel 0 (codes "x") 2 0 []
    ∷ channel 4 (codes "u.in.a") 0 1 (0 ∷ [])
    ∷ channel 5 (codes "u.in.b") 1 0 (1 ∷ [])
    ∷ channel 1 (codes "q") 0 3 (2 ∷ []) ∷ []

is-lower-machine : (m : ℕ) (any : Machine) → m < 4 → IsMachine design lower [] lower_listed lower_routed m (slice_index_or lower_machines m any)
is-lower-machine m any =
    four (λ k. IsMachine design lower [] lower_listed lower_routed k (slice_index_or lower_machines k any))
    (record { name = refl; host = refl; body = (lit< tt, around-cut); ins = refl; outs = refl })
    (record { name = refl; host = refl; body = (lit< tt, within-cut); ins = refl; outs = refl })
    (record { name = refl; host = refl; body = (lit< tt, refl); ins = refl; outs = refl })
    (record { name = refl; host = refl; body = (lit≤ tt, lit< tt); ins = refl; outs = refl })
    m

-- the needs of the hub's channels go through the ports of `u`
is-lower-channel : (c : ℕ) (any : Channel) → c < 4 → IsChannel design (capacity_of [] 2) (λ s. false) lower_machines (wire_at lower_wires c) (slice_index_or lower_channels c any)
is-lower-channel c any =
    four (λ k. IsChannel design (capacity_of [] 2) (λ s. false) lower_machines (wire_at lower_wires k) (slice_index_or lower_channels k any))
    (record { signal = refl; name = refl; type = refl; producer = refl; consumer = refl; bound = refl; pipe = refl; ascending = ascending [] refl; needs = λ other. refl })
    (record { signal = refl; name = refl; type = refl; producer = refl; consumer = refl; bound = refl; pipe = refl; ascending = ascending (0 ∷ []) refl; needs = λ other. has-needs around (0 ∷ 2 ∷ []) 4 (0 ∷ []) refl })
    (record { signal = refl; name = refl; type = refl; producer = refl; consumer = refl; bound = refl; pipe = refl; ascending = ascending (1 ∷ []) refl; needs = λ other. has-needs within (1 ∷ []) 5 (1 ∷ []) refl })
    (record { signal = refl; name = refl; type = refl; producer = refl; consumer = refl; bound = refl; pipe = refl; ascending = ascending (2 ∷ []) refl; needs = λ other. has-needs around (0 ∷ 2 ∷ []) 1 (2 ∷ []) refl })
    c

pub is-lower-plan : IsPlan design lower [] 2 (record { machines = lower_machines; channels = lower_channels; listed = lower_listed; ratios = [] })
is-lower-plan = record { listed = refl; ratios = refl; machine_total = refl; few = lit< tt; channel_total = refl; machine = is-lower-machine; channel = is-lower-channel; shared = unshared lower_machines refl }
