-- Two units of one module that share a host, with their plan in full: each keeps a register of its own.
--
-- The top has the input `x` and the outputs `p` and `q`; its instances `u` and `v` of module Acc have each the input `a`, the output
-- `s` and the register `r`, which adds `a` up and is `s`. `u.a` is `x`, `v.a` its complement, `p` is `u.s` and `q` is `v.s`.
use Rattle.std.proofs.Common.{◌≡◌, false, ℕ, ◌<◌, List, [], ◌∷◌, Some, None, set, refl, ap, inl, inr, arith, lit<, lit≤}
use Rattle.std.specs.Prelude.{codes, slice_index_or}
use Rattle.gg_bits.specs.declared.ops.Op1.TheVariants.{Not}
use Rattle.gg_bits.specs.declared.ops.Op2.TheVariants.{Add}
use Rattle.gg_bits.specs.declared.ops.OpN.TheVariants.{Bits}
use Rattle.gg_flat.specs.declared.line.Node.{Node}
use Rattle.gg_flat.specs.declared.line.Op.TheVariants.{Ref, One, Two, Fix}
use Rattle.gg_flat.specs.declared.piece.Driver.TheVariants.{Input, Held, Computed}
use Rattle.gg_flat.specs.declared.piece.Register.{Register}
use Rattle.gg_flat.specs.Line.{value_at}
use Rattle.gg_flat.specs.Circuit.{FlatCircuit}
use Rattle.gg_flat_tree.specs.Tree.{InstanceTree}
use Rattle.gg_flat.proofs.WorkedCircuits.{eight, nine, node}
use Rattle.gg_flat.proofs.WorkedMemories.{signal, copy}
use Rattle.gg_flat.proofs.WorkedForms.{only}
use Rattle.gg_order.specs.Design.{Ordered}
use Rattle.gg_part.specs.Part.{IsPart, IsRegisterFrom}
use Rattle.gg_part.specs.Building.{AreHeld}
use Rattle.gg_part.specs.declared.part.Part.{Part}
use Rattle.gg_partfile.specs.declared.request.Request.{Request}
use Rattle.gg_cut_plan.specs.declared.plan.Body.TheVariants.{Cut, Source, Tray}
use Rattle.gg_cut_plan.specs.declared.plan.Machine.{Machine}
use Rattle.gg_cut_plan.specs.declared.plan.Channel.{Channel}
use Rattle.gg_cut_plan.specs.declared.listed.Listed.{Listed}
use Rattle.gg_cut_plan.specs.declared.wires.Wire.{Wire}
use Rattle.gg_cut_plan.specs.Direct.{Hub, plan_hub}
use Rattle.gg_cut_plan.specs.Listed.{listed_of}
use Rattle.gg_cut_plan.specs.Channels.{wires_of, capacity_of}
use Rattle.gg_cut_plan.specs.Plan.{IsPlan, IsMachine, IsChannel, IsCutPart, wire_at}
use Rattle.gg_cut_plan.proofs.WorkedPair.{input, output, asks}
use Rattle.gg_cut.proofs.WorkedTests.{each-below, ascending, names-below, has-needs, extra-need}
use Rattle.gg_cut.proofs.WorkedHosts.{shared-two}
use Rattle.gg_cut.proofs.WorkedParts.{is-part, is-part-with, no-memories, is-cut-part, idle-register}

-- a register that adds signal a up, and is itself signal r
abbrev sum_of : ℕ → ℕ → List Node
sum_of r a = node eight (Ref r) ∷ node eight (Ref a) ∷ node nine (Two Add 0 1) ∷ node eight (Fix Bits 2 7 0) ∷ []

abbrev adding : ℕ → ℕ → Register
adding r a = record { ty = eight; reset = None; next = Some (sum_of r a); clock = None }

abbrev pub circuit : FlatCircuit
circuit =
    record {
      paths = codes "x" ∷ codes "p" ∷ codes "q" ∷ codes "u.a" ∷ codes "u.s" ∷ codes "u.r" ∷ codes "v.a" ∷ codes "v.s" ∷ codes "v.r" ∷ [];
      signals =
          signal eight (Input 0) ∷ copy eight 4 ∷ copy eight 7
          ∷ copy eight 0 ∷ copy eight 5 ∷ signal eight (Held 0)
          ∷ signal eight (Computed (node eight (Ref 0) ∷ node eight (One Not 0) ∷ [])) ∷ copy eight 8 ∷ signal eight (Held 1) ∷ [];
      registers = adding 5 3 ∷ adding 8 6 ∷ [];
      memories = [];
      ins = 0 ∷ [];
      outs = 1 ∷ 2 ∷ [];
      clocks = 0;
    }

abbrev pub tree : InstanceTree
tree =
    record {
      paths = [] ∷ codes "u" ∷ codes "v" ∷ [];
      instances =
          record { parent = None; «module» = 1; first = 0; end = 9; ports = input 0 ∷ output 1 ∷ output 2 ∷ []; memories = []; clocks = [] }
          ∷ record { parent = Some 0; «module» = 0; first = 3; end = 6; ports = input 3 ∷ output 4 ∷ []; memories = []; clocks = [] }
          ∷ record { parent = Some 0; «module» = 0; first = 6; end = 9; ports = input 6 ∷ output 7 ∷ []; memories = []; clocks = [] } ∷ [];
      memory_paths = [];
      memories = [];
      clocks = [];
      register_clocks = [];
      stops = [];
    }

abbrev pub design : Ordered
design = record { circuit = circuit; tree = tree; order = 0 ∷ 5 ∷ 4 ∷ 3 ∷ 8 ∷ 7 ∷ 6 ∷ 1 ∷ 2 ∷ [] }

abbrev pub request : Request
request = asks (codes "u" ∷ codes "v" ∷ []) ((codes "u" ∷ codes "v" ∷ []) ∷ [])

abbrev pub listed : Listed
listed = listed_of tree request

abbrev pub wires : List Wire
wires = wires_of circuit tree listed []

abbrev pub routed : Hub
routed = plan_hub circuit tree request

-- ---- the parts

abbrev pub hub : Part
hub =
    record {
      piece =
          record {
            paths = codes "x" ∷ codes "u.s" ∷ codes "u.a" ∷ codes "v.s" ∷ codes "v.a" ∷ codes "p"
                ∷ codes "q" ∷ [];
            signals =
                signal eight (Input 0) ∷ signal eight (Input 1) ∷ copy eight 0 ∷ signal eight (Input 2)
                ∷ signal eight (Computed (node eight (Ref 0) ∷ node eight (One Not 0) ∷ [])) ∷ copy eight 1 ∷ copy eight 3 ∷ [];
            registers = [];
            memories = [];
            ins = 0 ∷ 1 ∷ 3 ∷ [];
            outs = 2 ∷ 4 ∷ 5 ∷ 6 ∷ [];
            clocks = 0;
          };
      globals = 0 ∷ 4 ∷ 3 ∷ 7 ∷ 6 ∷ 1 ∷ 2 ∷ [];
      held = [];
      memories = [];
      clocks = [];
    }

-- the part of `u`: the register, the output, the input
abbrev pub part_u : Part
part_u =
    record {
      piece =
          record {
            paths = codes "u.r" ∷ codes "u.s" ∷ codes "u.a" ∷ [];
            signals =
                signal eight (Held 0) ∷ copy eight 0 ∷ signal eight (Input 0) ∷ [];
            registers = adding 0 2 ∷ [];
            memories = [];
            ins = 2 ∷ [];
            outs = 1 ∷ [];
            clocks = 0;
          };
      globals = 5 ∷ 4 ∷ 3 ∷ [];
      held = 0 ∷ [];
      memories = [];
      clocks = [];
    }

abbrev pub part_v : Part
part_v =
    record {
      piece =
          record {
            paths = codes "v.r" ∷ codes "v.s" ∷ codes "v.a" ∷ [];
            signals =
                signal eight (Held 0) ∷ copy eight 0 ∷ signal eight (Input 0) ∷ [];
            registers = adding 0 2 ∷ [];
            memories = [];
            ins = 2 ∷ [];
            outs = 1 ∷ [];
            clocks = 0;
          };
      globals = 8 ∷ 7 ∷ 6 ∷ [];
      held = 1 ∷ [];
      memories = [];
      clocks = [];
    }

hub-part : IsPart circuit hub.piece hub.globals [] [] []
hub-part =
    is-part circuit hub.piece hub.globals refl refl refl refl refl refl
    ((lit< tt, refl), ((lit< tt, refl), ((names-below 7 (node eight (Ref 0) ∷ []) refl, refl), ((lit< tt, refl), ((names-below 7 (node eight (Ref 0) ∷ node eight (One Not 0) ∷ []) refl, refl), ((names-below 7 (node eight (Ref 1) ∷ []) refl, refl), ((names-below 7 (node eight (Ref 3) ∷ []) refl, refl), tt)))))))
    ((lit< tt, refl), ((lit< tt, refl), ((lit< tt, refl), tt))) refl refl refl

u-register : (r : ℕ) → r < 1 → IsRegisterFrom circuit part_u.piece part_u.globals (0 ∷ []) [] r
u-register =
    only (IsRegisterFrom circuit part_u.piece part_u.globals (0 ∷ []) []) (record {
      within = lit< tt;
      is = λ any other. refl;
      below = λ any s names. elim names [ inl none ↦ absurd none | inr at ↦ names-below 3 (sum_of 0 2) refl s at ];
      clocked = λ any. tt;
    })

pub u-part : IsPart circuit part_u.piece part_u.globals (0 ∷ []) [] []
u-part =
    is-part-with circuit part_u.piece part_u.globals (0 ∷ []) [] refl refl refl refl refl refl
    ((lit< tt, refl), ((names-below 3 (node eight (Ref 0) ∷ []) refl, refl), ((lit< tt, refl), tt)))
    ((lit< tt, refl), tt) refl refl u-register refl refl (λ m lt. absurd (omega arith))

v-register : (r : ℕ) → r < 1 → IsRegisterFrom circuit part_v.piece part_v.globals (1 ∷ []) [] r
v-register =
    only (IsRegisterFrom circuit part_v.piece part_v.globals (1 ∷ []) []) (record {
      within = lit< tt;
      is = λ any other. refl;
      below = λ any s names. elim names [ inl none ↦ absurd none | inr at ↦ names-below 3 (sum_of 0 2) refl s at ];
      clocked = λ any. tt;
    })

pub v-part : IsPart circuit part_v.piece part_v.globals (1 ∷ []) [] []
v-part =
    is-part-with circuit part_v.piece part_v.globals (1 ∷ []) [] refl refl refl refl refl refl
    ((lit< tt, refl), ((names-below 3 (node eight (Ref 0) ∷ []) refl, refl), ((lit< tt, refl), tt)))
    ((lit< tt, refl), tt) refl refl v-register refl refl (λ m lt. absurd (omega arith))

hub-cut : IsCutPart design listed routed 0 hub
hub-cut = is-cut-part design listed routed 0 hub hub-part refl refl refl refl refl refl refl refl (no-memories tree listed 0 refl) refl

u-cut : IsCutPart design listed routed 1 part_u
u-cut = is-cut-part design listed routed 1 part_u u-part refl refl refl refl refl refl refl refl (no-memories tree listed 1 refl) refl

v-cut : IsCutPart design listed routed 2 part_v
v-cut = is-cut-part design listed routed 2 part_v v-part refl refl refl refl refl refl refl refl (no-memories tree listed 2 refl) refl

-- ---- the plan

-- `u` and `v` have host 1
abbrev pub machines : List Machine
machines =
    record { name = codes "hub:"; host = 0; body = Cut hub; ins = 0 ∷ 2 ∷ 4 ∷ []; outs = 1 ∷ 3 ∷ 5 ∷ 6 ∷ [] }
    ∷ record { name = codes "u"; host = 1; body = Cut part_u; ins = 1 ∷ []; outs = 2 ∷ [] }
    ∷ record { name = codes "v"; host = 1; body = Cut part_v; ins = 3 ∷ []; outs = 4 ∷ [] }
    ∷ record { name = codes "in:x"; host = 2; body = Source 0; ins = []; outs = 0 ∷ [] }
    ∷ record { name = codes "out:p"; host = 3; body = Tray; ins = 5 ∷ []; outs = [] }
    ∷ record { name = codes "out:q"; host = 4; body = Tray; ins = 6 ∷ []; outs = [] } ∷ []

abbrev channel : ℕ → List ℕ → ℕ → ℕ → List ℕ → Channel
channel s name producer consumer needs =
    record { signal = s; name = name; ty = eight; producer = producer; consumer = consumer; capacity = 2; pipe = false; needs = needs }

-- a channel whose value a register holds needs nothing
abbrev pub channels : List Channel
channels =
    channel 0 (codes "x") 3 0 []
    ∷ channel 3 (codes "u.a") 0 1 (0 ∷ [])
    ∷ channel 4 (codes "u.s") 1 0 []
    ∷ channel 6 (codes "v.a") 0 2 (0 ∷ [])
    ∷ channel 7 (codes "v.s") 2 0 []
    ∷ channel 1 (codes "p") 0 4 (2 ∷ [])
    ∷ channel 2 (codes "q") 0 5 (4 ∷ []) ∷ []

is-machine : (m : ℕ) (any : Machine) → m < 6 → IsMachine design request [] listed routed m (slice_index_or machines m any)
is-machine m any =
    each-below (λ k. IsMachine design request [] listed routed k (slice_index_or machines k any)) 6 (
      record { name = refl; host = refl; body = (lit< tt, hub-cut); ins = refl; outs = refl },
      (
        record { name = refl; host = refl; body = (lit< tt, u-cut); ins = refl; outs = refl },
        (
          record { name = refl; host = refl; body = (lit< tt, v-cut); ins = refl; outs = refl },
          (
            record { name = refl; host = refl; body = (lit< tt, refl); ins = refl; outs = refl },
            (
              record { name = refl; host = refl; body = (lit≤ tt, lit< tt); ins = refl; outs = refl },
              (record { name = refl; host = refl; body = (lit≤ tt, lit< tt); ins = refl; outs = refl }, tt),
            ),
          ),
        ),
      ),
    ) m

is-channel : (c : ℕ) (any : Channel) → c < 7 → IsChannel design (capacity_of [] 2) (λ s. false) machines (wire_at wires c) (slice_index_or channels c any)
is-channel c any =
    each-below (λ k. IsChannel design (capacity_of [] 2) (λ s. false) machines (wire_at wires k) (slice_index_or channels k any)) 7 (
      record { signal = refl; name = refl; type = refl; producer = refl; consumer = refl; bound = refl; pipe = refl; ascending = ascending [] refl; needs = λ other. refl },
      (
        record { signal = refl; name = refl; type = refl; producer = refl; consumer = refl; bound = refl; pipe = refl; ascending = ascending (0 ∷ []) refl; needs = λ other. has-needs hub (0 ∷ 2 ∷ 4 ∷ []) 3 (0 ∷ []) refl },
        (
          record { signal = refl; name = refl; type = refl; producer = refl; consumer = refl; bound = refl; pipe = refl; ascending = ascending [] refl; needs = λ other. has-needs part_u (1 ∷ []) 4 [] refl },
          (
            record { signal = refl; name = refl; type = refl; producer = refl; consumer = refl; bound = refl; pipe = refl; ascending = ascending (0 ∷ []) refl; needs = λ other. has-needs hub (0 ∷ 2 ∷ 4 ∷ []) 6 (0 ∷ []) refl },
            (
              record { signal = refl; name = refl; type = refl; producer = refl; consumer = refl; bound = refl; pipe = refl; ascending = ascending [] refl; needs = λ other. has-needs part_v (3 ∷ []) 7 [] refl },
              (
                record { signal = refl; name = refl; type = refl; producer = refl; consumer = refl; bound = refl; pipe = refl; ascending = ascending (2 ∷ []) refl; needs = λ other. has-needs hub (0 ∷ 2 ∷ 4 ∷ []) 1 (2 ∷ []) refl },
                (record { signal = refl; name = refl; type = refl; producer = refl; consumer = refl; bound = refl; pipe = refl; ascending = ascending (4 ∷ []) refl; needs = λ other. has-needs hub (0 ∷ 2 ∷ 4 ∷ []) 2 (4 ∷ []) refl }, tt),
              ),
            ),
          ),
        ),
      ),
    ) c

pub is-plan : IsPlan design request [] 2 (record { machines = machines; channels = channels; listed = listed; ratios = [] })
is-plan =
    record {
      listed = refl;
      ratios = refl;
      machine_total = refl;
      few = lit< tt;
      channel_total = refl;
      machine = is-machine;
      channel = is-channel;
      shared =
          shared-two machines 1 2 9 (lit< tt) (λ e. absurd (omega (arith, e))) refl refl
          (λ any other. record { signals = refl; clocks = refl; registers = refl; memories = refl; ins = refl; outs = λ s. (λ c. c, λ c. c) })
          (λ any other. record { signals = refl; clocks = refl; registers = refl; memories = refl; ins = refl; outs = λ s. (λ c. c, λ c. c) });
    }

-- ---- what is no plan of the cut

abbrev any_machine : Machine
any_machine = record { name = []; host = 0; body = Tray; ins = []; outs = [] }

abbrev any_channel : Channel
any_channel = channel 0 [] 0 0 []

-- needs that go on through a register
through-register : ¬ IsPlan design request [] 2 (record { machines = machines; channels = set channels 2 (channel 4 (codes "u.s") 1 0 (1 ∷ [])); listed = listed; ratios = [] })
through-register is = extra-need part_u (1 ∷ []) 1 (1 ∷ []) 1 refl refl refl ((is.channel 2 any_channel (lit< tt)).needs any_machine 1 (lit< tt) refl)

-- a host of its own for the second unit
apart : ¬ IsPlan design request [] 2 (record { machines = set machines 2 (record { name = codes "v"; host = 2; body = Cut part_v; ins = 3 ∷ []; outs = 4 ∷ [] }); channels = channels; listed = listed; ratios = [] })
apart is = let host : 2 ≡ 1 = (is.machine 2 any_machine (lit< tt)).host in absurd (omega (arith, host))

-- a host number left out before the machines that follow
skipped : ¬ IsPlan design request [] 2 (record { machines = set machines 3 (record { name = codes "in:x"; host = 3; body = Source 0; ins = []; outs = 0 ∷ [] }); channels = channels; listed = listed; ratios = [] })
skipped is = let host : 3 ≡ 2 = (is.machine 3 any_machine (lit< tt)).host in absurd (omega (arith, host))

-- `v` with the register of `u`
abbrev mixed : Part
mixed = record { piece = part_v.piece; globals = part_v.globals; held = 0 ∷ []; memories = []; clocks = [] }

register-mixed : ¬ IsPlan design request [] 2 (record { machines = set machines 2 (record { name = codes "v"; host = 1; body = Cut mixed; ins = 3 ∷ []; outs = 4 ∷ [] }); channels = channels; listed = listed; ratios = [] })
register-mixed is = let body = (is.machine 2 any_machine (lit< tt)).body in let from = body.1.is.drivers 0 (lit< tt) in let wrong : Held 1 ≡ Held 0 = from.1 in cc

-- the registers of both units, of which the signals of `u` hold one
register-idle : ¬ AreHeld circuit part_u.globals (3 ∷ []) (0 ∷ 1 ∷ [])
register-idle = idle-register circuit part_u.globals (3 ∷ []) (0 ∷ 1 ∷ []) 1 refl refl

-- both units with the part of `u`
twice-u : ¬ IsPlan design request [] 2 (record { machines = set machines 2 (record { name = codes "v"; host = 1; body = Cut part_u; ins = 3 ∷ []; outs = 4 ∷ [] }); channels = channels; listed = listed; ratios = [] })
twice-u is = let body = (is.machine 2 any_machine (lit< tt)).body in let wrong : 3 ≡ 6 = ap (λ (l : List ℕ). value_at l 0) body.1.ins in absurd (omega (arith, wrong))

-- a part of `v` whose signals are listed in another order: it runs as well, but not as the part of `u`
abbrev turned : Part
turned =
    record {
      piece =
          record {
            paths = codes "v.r" ∷ codes "v.a" ∷ codes "v.s" ∷ [];
            signals =
                signal eight (Held 0) ∷ signal eight (Input 0) ∷ copy eight 0 ∷ [];
            registers = adding 0 1 ∷ [];
            memories = [];
            ins = 1 ∷ [];
            outs = 2 ∷ [];
            clocks = 0;
          };
      globals = 8 ∷ 6 ∷ 7 ∷ [];
      held = 1 ∷ [];
      memories = [];
      clocks = [];
    }

turned-register : (r : ℕ) → r < 1 → IsRegisterFrom circuit turned.piece turned.globals (1 ∷ []) [] r
turned-register =
    only (IsRegisterFrom circuit turned.piece turned.globals (1 ∷ []) []) (record {
      within = lit< tt;
      is = λ any other. refl;
      below = λ any s names. elim names [ inl none ↦ absurd none | inr at ↦ names-below 3 (sum_of 0 1) refl s at ];
      clocked = λ any. tt;
    })

turned-part : IsPart circuit turned.piece turned.globals (1 ∷ []) [] []
turned-part =
    is-part-with circuit turned.piece turned.globals (1 ∷ []) [] refl refl refl refl refl refl
    ((lit< tt, refl), ((lit< tt, refl), ((names-below 3 (node eight (Ref 0) ∷ []) refl, refl), tt)))
    ((lit< tt, refl), tt) refl refl turned-register refl refl (λ m lt. absurd (omega arith))

turned-cut : IsCutPart design listed routed 2 turned
turned-cut = is-cut-part design listed routed 2 turned turned-part refl refl refl refl refl refl refl refl (no-memories tree listed 2 refl) refl

-- one host, but two programs
two-programs : ¬ IsPlan design request [] 2 (record { machines = set machines 2 (record { name = codes "v"; host = 1; body = Cut turned; ins = 3 ∷ []; outs = 4 ∷ [] }); channels = channels; listed = listed; ratios = [] })
two-programs is =
    let alike = is.shared 1 2 any_machine any_machine (lit< tt) (lit< tt) (λ e. absurd (omega (arith, e))) refl in
    let wrong : 2 ≡ 1 = ap (λ (l : List ℕ). value_at l 0) alike.ins in absurd (omega (arith, wrong))
