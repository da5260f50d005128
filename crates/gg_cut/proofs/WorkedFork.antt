-- Two units of one module that share a host and fork differently, asked for with direct channels, with their plan in full.
--
-- The top has the input `x` and the outputs `p`, `q` and `w`; its instances `u` and `v` of module Inv have each the input `a` and the
-- output `s`, which is the complement of `a`. `u.a` and `v.a` are `x`, `p` and `q` are `u.s` and `w` is `v.s`. So the hub has nothing
-- left: the source of `x` is a fork, and `u` is one, but not `v`.
use Rattle.std.proofs.Common.{◌≡◌, false, ℕ, zero, suc, ◌<◌, List, [], ◌∷◌, None, Some, true, set, length, refl, ap, arith, lit<, lit≤}
use Rattle.std.specs.Prelude.{codes, slice_index_or, Contains}
use Rattle.gg_bits.specs.declared.ops.Op1.TheVariants.{Not}
use Rattle.gg_flat.specs.declared.line.Op.TheVariants.{Ref, One}
use Rattle.gg_flat.specs.declared.piece.Driver.TheVariants.{Input, Computed}
use Rattle.gg_flat.specs.Circuit.{FlatCircuit}
use Rattle.gg_flat_tree.specs.Tree.{InstanceTree}
use Rattle.gg_flat.proofs.WorkedCircuits.{eight, node}
use Rattle.gg_flat.proofs.WorkedMemories.{signal, copy}
use Rattle.gg_order.specs.Design.{Ordered}
use Rattle.gg_part.specs.Part.{IsPart}
use Rattle.gg_part.specs.declared.part.Part.{Part}
use Rattle.gg_partfile.specs.declared.request.Request.{Request}
use Rattle.gg_cut_plan.specs.declared.plan.Body.TheVariants.{Cut, Source, Tray}
use Rattle.gg_cut_plan.specs.declared.plan.Machine.{Machine}
use Rattle.gg_cut_plan.specs.declared.plan.Channel.{Channel}
use Rattle.gg_cut_plan.specs.declared.plan.Plan.{Plan}
use Rattle.gg_cut_plan.specs.declared.listed.Listed.{Listed}
use Rattle.gg_cut_plan.specs.declared.wires.Wire.{Wire}
use Rattle.gg_cut_plan.specs.Direct.{Hub, plan_hub, plan_wires}
use Rattle.gg_cut_plan.specs.Listed.{listed_of}
use Rattle.gg_cut_plan.specs.Channels.{capacity_of}
use Rattle.gg_cut_plan.specs.Plan.{IsPlan, IsMachine, IsChannel, IsCutPart, wire_at}
use Rattle.gg_cut_plan.proofs.WorkedPair.{input, output, asks}
use Rattle.gg_cut.proofs.WorkedTests.{each-below, ascending, names-below, has-needs}
use Rattle.gg_cut.proofs.WorkedHosts.{shared-two}
use Rattle.gg_cut.proofs.WorkedParts.{is-part, no-memories, is-cut-part}

abbrev circuit : FlatCircuit
circuit =
    record {
      paths = codes "x" ∷ codes "p" ∷ codes "q" ∷ codes "w" ∷ codes "u.a" ∷ codes "u.s" ∷ codes "v.a" ∷ codes "v.s" ∷ [];
      signals =
          signal eight (Input 0) ∷ copy eight 5 ∷ copy eight 5 ∷ copy eight 7
          ∷ copy eight 0 ∷ signal eight (Computed (node eight (Ref 4) ∷ node eight (One Not 0) ∷ []))
          ∷ copy eight 0 ∷ signal eight (Computed (node eight (Ref 6) ∷ node eight (One Not 0) ∷ [])) ∷ [];
      registers = [];
      memories = [];
      ins = 0 ∷ [];
      outs = 1 ∷ 2 ∷ 3 ∷ [];
      clocks = 0;
    }

abbrev tree : InstanceTree
tree =
    record {
      paths = [] ∷ codes "u" ∷ codes "v" ∷ [];
      instances =
          record { parent = None; «module» = 1; first = 0; end = 8; ports = input 0 ∷ output 1 ∷ output 2 ∷ output 3 ∷ []; memories = []; clocks = [] }
          ∷ record { parent = Some 0; «module» = 0; first = 4; end = 6; ports = input 4 ∷ output 5 ∷ []; memories = []; clocks = [] }
          ∷ record { parent = Some 0; «module» = 0; first = 6; end = 8; ports = input 6 ∷ output 7 ∷ []; memories = []; clocks = [] } ∷ [];
      memory_paths = [];
      memories = [];
      clocks = [];
      register_clocks = [];
      stops = [];
    }

abbrev design : Ordered
design = record { circuit = circuit; tree = tree; order = 0 ∷ 4 ∷ 5 ∷ 6 ∷ 7 ∷ 1 ∷ 2 ∷ 3 ∷ [] }

abbrev plain : Request
plain = asks (codes "u" ∷ codes "v" ∷ []) ((codes "u" ∷ codes "v" ∷ []) ∷ [])

abbrev request : Request
request = record plain { direct = true }

abbrev listed : Listed
listed = listed_of tree request

abbrev wires : List Wire
wires = plan_wires circuit tree request

abbrev routed : Hub
routed = plan_hub circuit tree request

-- ---- the parts

-- a piece for these signals: the first is the in-signal, the second its complement, which is listed for each channel
abbrev piece_with : List (List ℕ) → List ℕ → FlatCircuit
piece_with paths outs =
    record {
      paths = paths;
      signals =
          signal eight (Input 0)
          ∷ signal eight (Computed (node eight (Ref 0) ∷ node eight (One Not 0) ∷ [])) ∷ [];
      registers = [];
      memories = [];
      ins = 0 ∷ [];
      outs = outs;
      clocks = 0;
    }

abbrev hub : Part
hub = record { piece = record { paths = []; signals = []; registers = []; memories = []; ins = []; outs = []; clocks = 0 }; globals = []; held = []; memories = []; clocks = [] }

abbrev part_u : Part
part_u = record { piece = piece_with (codes "u.a" ∷ codes "u.s" ∷ []) (1 ∷ 1 ∷ []); globals = 4 ∷ 5 ∷ []; held = []; memories = []; clocks = [] }

abbrev part_v : Part
part_v = record { piece = piece_with (codes "v.a" ∷ codes "v.s" ∷ []) (1 ∷ []); globals = 6 ∷ 7 ∷ []; held = []; memories = []; clocks = [] }

hub-part : IsPart circuit hub.piece hub.globals [] [] []
hub-part = is-part circuit hub.piece hub.globals refl refl refl refl refl refl tt tt refl refl refl

u-part : IsPart circuit part_u.piece part_u.globals [] [] []
u-part =
    is-part circuit part_u.piece part_u.globals refl refl refl refl refl refl
    ((lit< tt, refl), ((names-below 2 (node eight (Ref 0) ∷ node eight (One Not 0) ∷ []) refl, refl), tt))
    ((lit< tt, refl), tt) refl refl refl

v-part : IsPart circuit part_v.piece part_v.globals [] [] []
v-part =
    is-part circuit part_v.piece part_v.globals refl refl refl refl refl refl
    ((lit< tt, refl), ((names-below 2 (node eight (Ref 0) ∷ node eight (One Not 0) ∷ []) refl, refl), tt))
    ((lit< tt, refl), tt) refl refl refl

hub-cut : IsCutPart design listed routed 0 hub
hub-cut = is-cut-part design listed routed 0 hub hub-part refl refl refl refl refl refl refl refl (no-memories tree listed 0 refl) refl

u-cut : IsCutPart design listed routed 1 part_u
u-cut = is-cut-part design listed routed 1 part_u u-part refl refl refl refl refl refl refl refl (no-memories tree listed 1 refl) refl

v-cut : IsCutPart design listed routed 2 part_v
v-cut = is-cut-part design listed routed 2 part_v v-part refl refl refl refl refl refl refl refl (no-memories tree listed 2 refl) refl

-- ---- the plan

abbrev machines : List Machine
machines =
    record { name = codes "hub:"; host = 0; body = Cut hub; ins = []; outs = [] }
    ∷ record { name = codes "u"; host = 1; body = Cut part_u; ins = 0 ∷ []; outs = 2 ∷ 3 ∷ [] }
    ∷ record { name = codes "v"; host = 1; body = Cut part_v; ins = 1 ∷ []; outs = 4 ∷ [] }
    ∷ record { name = codes "in:x"; host = 2; body = Source 0; ins = []; outs = 0 ∷ 1 ∷ [] }
    ∷ record { name = codes "out:p"; host = 3; body = Tray; ins = 2 ∷ []; outs = [] }
    ∷ record { name = codes "out:q"; host = 4; body = Tray; ins = 3 ∷ []; outs = [] }
    ∷ record { name = codes "out:w"; host = 5; body = Tray; ins = 4 ∷ []; outs = [] } ∷ []

abbrev channel : ℕ → List ℕ → ℕ → ℕ → List ℕ → Channel
channel s name producer consumer needs =
    record { signal = s; name = name; ty = eight; producer = producer; consumer = consumer; capacity = 2; pipe = false; needs = needs }

-- a channel has the name that it has without direct channels, and its producer's needs
abbrev channels : List Channel
channels =
    channel 4 (codes "u.a") 3 1 []
    ∷ channel 6 (codes "v.a") 3 2 []
    ∷ channel 1 (codes "p") 1 4 (0 ∷ [])
    ∷ channel 2 (codes "q") 1 5 (0 ∷ [])
    ∷ channel 3 (codes "w") 2 6 (1 ∷ []) ∷ []

abbrev plan : Plan
plan = record { machines = machines; channels = channels; listed = listed; ratios = [] }

is-machine : (m : ℕ) (any : Machine) → m < 7 → IsMachine design request [] listed routed m (slice_index_or machines m any)
is-machine m any =
    each-below (λ k. IsMachine design request [] listed routed k (slice_index_or machines k any)) 7 (
      record { name = refl; host = refl; body = (lit< tt, hub-cut); ins = refl; outs = refl },
      (
        record { name = refl; host = refl; body = (lit< tt, u-cut); ins = refl; outs = refl },
        (
          record { name = refl; host = refl; body = (lit< tt, v-cut); ins = refl; outs = refl },
          (
            record { name = refl; host = refl; body = (lit< tt, refl); ins = refl; outs = refl },
            (
              record { name = refl; host = refl; body = (lit≤ tt, lit< tt); ins = refl; outs = refl },
              (
                record { name = refl; host = refl; body = (lit≤ tt, lit< tt); ins = refl; outs = refl },
                (record { name = refl; host = refl; body = (lit≤ tt, lit< tt); ins = refl; outs = refl }, tt),
              ),
            ),
          ),
        ),
      ),
    ) m

is-channel : (c : ℕ) (any : Channel) → c < 5 → IsChannel design (capacity_of [] 2) (λ s. false) machines (wire_at wires c) (slice_index_or channels c any)
is-channel c any =
    each-below (λ k. IsChannel design (capacity_of [] 2) (λ s. false) machines (wire_at wires k) (slice_index_or channels k any)) 5 (
      record { signal = refl; name = refl; type = refl; producer = refl; consumer = refl; bound = refl; pipe = refl; ascending = ascending [] refl; needs = λ other. refl },
      (
        record { signal = refl; name = refl; type = refl; producer = refl; consumer = refl; bound = refl; pipe = refl; ascending = ascending [] refl; needs = λ other. refl },
        (
          record { signal = refl; name = refl; type = refl; producer = refl; consumer = refl; bound = refl; pipe = refl; ascending = ascending (0 ∷ []) refl; needs = λ other. has-needs part_u (0 ∷ []) 5 (0 ∷ []) refl },
          (
            record { signal = refl; name = refl; type = refl; producer = refl; consumer = refl; bound = refl; pipe = refl; ascending = ascending (0 ∷ []) refl; needs = λ other. has-needs part_u (0 ∷ []) 5 (0 ∷ []) refl },
            (record { signal = refl; name = refl; type = refl; producer = refl; consumer = refl; bound = refl; pipe = refl; ascending = ascending (1 ∷ []) refl; needs = λ other. has-needs part_v (1 ∷ []) 7 (1 ∷ []) refl }, tt),
          ),
        ),
      ),
    ) c

-- a fork lists its out-signal more than once
fewer : (s : ℕ) → Contains (1 ∷ 1 ∷ []) s → Contains (1 ∷ []) s
fewer s (zero, lt, is) = (0, omega arith, is)
fewer s (suc zero, lt, is) = (0, omega arith, is)
fewer s (suc (suc k), lt, is) = absurd (omega arith)

more : (s : ℕ) → Contains (1 ∷ []) s → Contains (1 ∷ 1 ∷ []) s
more s (zero, lt, is) = (0, omega arith, is)
more s (suc k, lt, is) = absurd (omega arith)

pub is-plan : IsPlan design request [] 2 plan
is-plan =
    record {
      listed = refl;
      ratios = refl;
      machine_total = refl;
      few = lit< tt;
      channel_total = refl;
      machine = is-machine;
      channel = is-channel;
      shared =
          shared-two machines 1 2 9 (lit< tt) (λ e. absurd (omega (arith, e))) refl refl
          (λ any other. record { signals = refl; clocks = refl; registers = refl; memories = refl; ins = refl; outs = λ s. (fewer s, more s) })
          (λ any other. record { signals = refl; clocks = refl; registers = refl; memories = refl; ins = refl; outs = λ s. (more s, fewer s) });
    }

-- ---- what is no plan of the cut

abbrev any_machine : Machine
any_machine = record { name = []; host = 0; body = Tray; ins = []; outs = [] }

-- direct channels that weren't asked for
unasked : ¬ IsPlan design plain [] 2 plan
unasked is = let count : 5 ≡ 8 = is.channel_total in absurd (omega (arith, count))

-- `u` with its out-signal listed once, though two channels carry it
abbrev once : Part
once = record { piece = piece_with (codes "u.a" ∷ codes "u.s" ∷ []) (1 ∷ []); globals = 4 ∷ 5 ∷ []; held = []; memories = []; clocks = [] }

listed-once : ¬ IsPlan design request [] 2 (record { machines = set machines 1 (record { name = codes "u"; host = 1; body = Cut once; ins = 0 ∷ []; outs = 2 ∷ 3 ∷ [] }); channels = channels; listed = listed; ratios = [] })
listed-once is = let body = (is.machine 1 any_machine (lit< tt)).body in let count : 1 ≡ 2 = ap (λ (l : List ℕ). length l) body.1.outs in absurd (omega (arith, count))

-- the source without the second of its channels
no-fork : ¬ IsPlan design request [] 2 (record { machines = set machines 3 (record { name = codes "in:x"; host = 2; body = Source 0; ins = []; outs = 0 ∷ [] }); channels = channels; listed = listed; ratios = [] })
no-fork is = let count : 1 ≡ 2 = ap (λ (l : List ℕ). length l) (is.machine 3 any_machine (lit< tt)).outs in absurd (omega (arith, count))
