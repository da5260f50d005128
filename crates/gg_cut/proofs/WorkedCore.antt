-- An instance within an instance as a unit, with its plan in full; and requests for the circuit that are refused.
--
-- The top has the output `o` and an instance `tile` with the output `o`, which holds an instance `core` with the output `o`, a
-- literal.
use Rattle.std.proofs.Common.{◌≡◌, false, ℕ, ◌<◌, List, [], ◌∷◌, Some, None, length, refl, ap, arith, lit<, lit≤}
use Rattle.std.specs.Prelude.{codes, slice_index_or}
use Rattle.std.specs.Fmt.{digits}
use Rattle.gg_bits.specs.declared.types.Ty.{Ty}
use Rattle.gg_flat.specs.declared.line.Op.TheVariants.{Ref, Literal}
use Rattle.gg_flat.specs.declared.piece.Driver.TheVariants.{Input, Computed}
use Rattle.gg_flat.specs.Circuit.{FlatCircuit}
use Rattle.gg_flat_tree.specs.Tree.{InstanceTree}
use Rattle.gg_flat.proofs.WorkedCircuits.{uint_type, node, value}
use Rattle.gg_flat.proofs.WorkedMemories.{signal, copy}
use Rattle.gg_flat.proofs.WorkedForms.{both, three}
use Rattle.gg_order.specs.Design.{Ordered}
use Rattle.gg_part.specs.Part.{IsPart}
use Rattle.gg_part.specs.declared.part.Part.{Part}
use Rattle.gg_partfile.specs.declared.request.Request.{Request}
use Rattle.gg_partfile.specs.Request.{no_request}
use Rattle.gg_cut_plan.specs.declared.fault.CutFault.TheVariants.{UnknownUnit, Doubled, UnknownMemory, UnknownChannel, OutOfRange}
use Rattle.gg_cut_plan.specs.declared.plan.Body.TheVariants.{Cut, Tray}
use Rattle.gg_cut_plan.specs.declared.plan.Machine.{Machine}
use Rattle.gg_cut_plan.specs.declared.plan.Channel.{Channel}
use Rattle.gg_cut_plan.specs.declared.listed.Listed.{Listed}
use Rattle.gg_cut_plan.specs.declared.wires.Wire.{Wire}
use Rattle.gg_cut_plan.specs.Direct.{Hub, plan_hub}
use Rattle.gg_cut_plan.specs.Listed.{listed_of}
use Rattle.gg_cut_plan.specs.Channels.{wires_of, capacity_of}
use Rattle.gg_cut_plan.specs.Clocks.{every_tick}
use Rattle.gg_cut_plan.specs.Fault.{first_fault, fault_text}
use Rattle.gg_cut_plan.specs.Plan.{IsPlan, IsMachine, IsChannel, IsCutPart, wire_at}
use Rattle.gg_cut_plan.proofs.WorkedPair.{output, asks}
use Rattle.gg_cut.proofs.WorkedTests.{ascending, names-below, has-needs}
use Rattle.gg_cut.proofs.WorkedHosts.{unshared}
use Rattle.gg_cut.proofs.WorkedParts.{is-part, no-memories, is-cut-part}

abbrev pub nibble : Ty
nibble = uint_type 4 (lit≤ tt) (lit≤ tt)

abbrev pub circuit : FlatCircuit
circuit =
    record {
      paths = codes "o" ∷ codes "tile.o" ∷ codes "tile.core.o" ∷ [];
      signals = copy nibble 1 ∷ copy nibble 2 ∷ signal nibble (Computed (node nibble (Literal (value 10)) ∷ [])) ∷ [];
      registers = [];
      memories = [];
      ins = [];
      outs = 0 ∷ [];
      clocks = 0;
    }

abbrev pub tree : InstanceTree
tree =
    record {
      paths = [] ∷ codes "tile" ∷ codes "tile.core" ∷ [];
      instances =
          record { parent = None; «module» = 2; first = 0; end = 3; ports = output 0 ∷ []; memories = []; clocks = [] }
          ∷ record { parent = Some 0; «module» = 1; first = 1; end = 3; ports = output 1 ∷ []; memories = []; clocks = [] }
          ∷ record { parent = Some 1; «module» = 0; first = 2; end = 3; ports = output 2 ∷ []; memories = []; clocks = [] } ∷ [];
      memory_paths = [];
      memories = [];
      clocks = [];
      register_clocks = [];
      stops = [];
    }

abbrev pub design : Ordered
design = record { circuit = circuit; tree = tree; order = 2 ∷ 1 ∷ 0 ∷ [] }

abbrev pub request : Request
request = asks (codes "tile.core" ∷ []) []

abbrev pub listed : Listed
listed = listed_of tree request

abbrev pub wires : List Wire
wires = wires_of circuit tree listed []

abbrev pub routed : Hub
routed = plan_hub circuit tree request

-- ---- the plan

-- the part of the hub: it has the output of `tile`, which is no unit
abbrev pub hub : Part
hub =
    record {
      piece =
          record {
            paths = codes "tile.core.o" ∷ codes "tile.o" ∷ codes "o" ∷ [];
            signals =
                signal nibble (Input 0) ∷ copy nibble 0 ∷ copy nibble 1 ∷ [];
            registers = [];
            memories = [];
            ins = 0 ∷ [];
            outs = 2 ∷ [];
            clocks = 0;
          };
      globals = 2 ∷ 1 ∷ 0 ∷ [];
      held = [];
      memories = [];
      clocks = [];
    }

abbrev pub core : Part
core =
    record {
      piece =
          record {
            paths = codes "tile.core.o" ∷ [];
            signals =
                signal nibble (Computed (node nibble (Literal (value 10)) ∷ [])) ∷ [];
            registers = [];
            memories = [];
            ins = [];
            outs = 0 ∷ [];
            clocks = 0;
          };
      globals = 2 ∷ [];
      held = [];
      memories = [];
      clocks = [];
    }

pub hub-part : IsPart circuit hub.piece hub.globals [] [] []
hub-part =
    is-part circuit hub.piece hub.globals refl refl refl refl refl refl
    ((lit< tt, refl), ((names-below 3 (node nibble (Ref 0) ∷ []) refl, refl), ((names-below 3 (node nibble (Ref 1) ∷ []) refl, refl), tt)))
    ((lit< tt, refl), tt) refl refl refl

pub core-part : IsPart circuit core.piece core.globals [] [] []
core-part =
    is-part circuit core.piece core.globals refl refl refl refl refl refl
    ((names-below 1 (node nibble (Literal (value 10)) ∷ []) refl, refl), tt)
    tt refl refl refl

hub-cut : IsCutPart design listed routed 0 hub
hub-cut = is-cut-part design listed routed 0 hub hub-part refl refl refl refl refl refl refl refl (no-memories tree listed 0 refl) refl

core-cut : IsCutPart design listed routed 1 core
core-cut = is-cut-part design listed routed 1 core core-part refl refl refl refl refl refl refl refl (no-memories tree listed 1 refl) refl

abbrev pub machines : List Machine
machines =
    record { name = codes "hub:"; host = 0; body = Cut hub; ins = 0 ∷ []; outs = 1 ∷ [] }
    ∷ record { name = codes "tile.core"; host = 1; body = Cut core; ins = []; outs = 0 ∷ [] }
    ∷ record { name = codes "out:o"; host = 2; body = Tray; ins = 1 ∷ []; outs = [] } ∷ []

abbrev pub channels : List Channel
channels =
    record { signal = 2; name = codes "tile.core.o"; ty = nibble; producer = 1; consumer = 0; capacity = 2; pipe = false; needs = [] }
    ∷ record { signal = 0; name = codes "o"; ty = nibble; producer = 0; consumer = 2; capacity = 2; pipe = false; needs = 0 ∷ [] } ∷ []

is-machine : (m : ℕ) (any : Machine) → m < 3 → IsMachine design request [] listed routed m (slice_index_or machines m any)
is-machine m any =
    three (λ k. IsMachine design request [] listed routed k (slice_index_or machines k any))
    (record { name = refl; host = refl; body = (lit< tt, hub-cut); ins = refl; outs = refl })
    (record { name = refl; host = refl; body = (lit< tt, core-cut); ins = refl; outs = refl })
    (record { name = refl; host = refl; body = (lit≤ tt, lit< tt); ins = refl; outs = refl })
    m

is-channel : (c : ℕ) (any : Channel) → c < 2 → IsChannel design (capacity_of [] 2) (λ s. false) machines (wire_at wires c) (slice_index_or channels c any)
is-channel c any =
    both (λ k. IsChannel design (capacity_of [] 2) (λ s. false) machines (wire_at wires k) (slice_index_or channels k any))
    (record { signal = refl; name = refl; type = refl; producer = refl; consumer = refl; bound = refl; pipe = refl; ascending = ascending [] refl; needs = λ other. has-needs core [] 2 [] refl })
    (record { signal = refl; name = refl; type = refl; producer = refl; consumer = refl; bound = refl; pipe = refl; ascending = ascending (0 ∷ []) refl; needs = λ other. has-needs hub (0 ∷ []) 0 (0 ∷ []) refl })
    c

pub is-plan : IsPlan design request [] 2 (record { machines = machines; channels = channels; listed = listed; ratios = [] })
is-plan = record { listed = refl; ratios = refl; machine_total = refl; few = lit< tt; channel_total = refl; machine = is-machine; channel = is-channel; shared = unshared machines refl }

-- the plan for another default is another
other-default : ¬ IsPlan design request [] 3 (record { machines = machines; channels = channels; listed = listed; ratios = [] })
other-default is = let bound : 2 ≡ 3 = (is.channel 0 (record { signal = 0; name = []; ty = nibble; producer = 0; consumer = 0; capacity = 0; pipe = false; needs = [] }) (lit< tt)).bound in absurd (omega (arith, bound))

-- a circuit without clocks has no ratios
with-ratio : ¬ IsPlan design request [] 2 (record { machines = machines; channels = channels; listed = listed; ratios = every_tick ∷ [] })
with-ratio is = let one : 1 ≡ 0 = ap length is.ratios in absurd (omega (arith, one))

-- ---- requests that are refused

accepted : first_fault design request ≡ None
accepted = refl

unknown : first_fault design (asks (codes "tile.cor" ∷ []) []) ≡ Some (UnknownUnit (codes "tile.cor"))
unknown = refl

nested : first_fault design (asks (codes "tile" ∷ codes "tile.core" ∷ []) []) ≡ Some (Doubled (codes "tile.core"))
nested = refl

-- entries that name nothing are reported before those that stand twice
unknown-first : first_fault design (asks (codes "tile" ∷ codes "tile.core" ∷ codes "tile.cor" ∷ []) []) ≡ Some (UnknownUnit (codes "tile.cor"))
unknown-first = refl

no-memory : first_fault design (record no_request { units = []; share = []; memories = codes "tile.m" ∷ []; capacity = [] }) ≡ Some (UnknownMemory (codes "tile.m"))
no-memory = refl

no-channel : first_fault design (record no_request { units = []; share = []; memories = []; capacity = (codes "oo", 1) ∷ [] }) ≡ Some (UnknownChannel (codes "oo"))
no-channel = refl

no-room : first_fault design (record no_request { units = []; share = []; memories = []; capacity = (codes "o", 0) ∷ [] }) ≡ Some (OutOfRange (codes "o") 0)
no-room = refl

-- the texts of these faults
texts : fault_text (UnknownUnit (codes "tile.cor")) ∷ fault_text (Doubled (codes "tile.core")) ∷ fault_text (UnknownMemory (codes "tile.m")) ∷ fault_text (UnknownChannel (codes "oo")) ∷ []
    ≡ codes "P2 tile.cor" ∷ codes "P3 tile.core" ∷ codes "P5 tile.m" ∷ codes "P7 oo" ∷ []
texts = refl

range-text : fault_text (OutOfRange (codes "o") 4097) ≡ codes "P8 o 4097"
unfolding digits
range-text = refl
