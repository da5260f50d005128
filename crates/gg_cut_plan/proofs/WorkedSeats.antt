-- A bridge at the ports of a circuit: the machines' numbers, names and channels, and the faults of bridges, worked by hand.
use Rattle.std.proofs.Common.{◌≡◌, ℕ, List, [], ◌∷◌, Option, Some, None, refl, arith, true}
use Rattle.std.specs.Prelude.{codes, map, option_map}
use Rattle.gg_bits.specs.declared.types.Ty.{Ty}
use Rattle.gg_flat.specs.declared.piece.Driver.TheVariants.{Input, Held}
use Rattle.gg_flat.specs.Circuit.{FlatCircuit}
use Rattle.gg_flat_tree.specs.Tree.{InstanceTree}
use Rattle.gg_flat.proofs.WorkedCircuits.{eight, nine}
use Rattle.gg_flat.proofs.WorkedMemories.{signal, copy}
use Rattle.gg_order.specs.Design.{Ordered}
use Rattle.gg_partfile.specs.declared.request.BridgeEntry.{BridgeEntry}
use Rattle.gg_partfile.specs.declared.request.Request.{Request}
use Rattle.gg_partfile.specs.Request.{no_request}
use Rattle.gg_cut_plan.specs.Listed.{listed_of}
use Rattle.gg_cut_plan.specs.Channels.{wire, wires_of}
use Rattle.gg_cut_plan.specs.Bridges.{Models, bridge_faults}
use Rattle.gg_cut_plan.specs.Fault.{fault_text, first_fault_with}
use Rattle.gg_bits.specs.Lists.{first_of}
use Rattle.gg_cut_plan.specs.Plan.{machine_names}
use Rattle.gg_cut_plan.specs.Ports.{Bridges, plan_bridges, machine_end, first_kept_tray, first_bridge, giver_of, keeper_of, open_ins, open_outs}
use Rattle.gg_cut_plan.specs.inside.Ports.{counts_of}
use Rattle.gg_cut_plan.specs.inside.Machines.{IsRole}
use Rattle.gg_cut_plan.specs.declared.numbering.Role.TheVariants.{Source, Tray, Bridge}
use Rattle.gg_cut_plan.specs.Direct.{plan_wires}
use Rattle.gg_cut_plan.proofs.WorkedPair.{input, output}

-- ---- machines

-- The inputs `x` and `y`, the output `p`, which is `x`, the output `q`, which is `y`, and a stop `s`.
abbrev circuit : FlatCircuit
circuit =
    record {
      paths = codes "x" ∷ codes "y" ∷ codes "p" ∷ codes "q" ∷ codes "s" ∷ [];
      signals = signal eight (Input 0) ∷ signal eight (Input 1) ∷ copy eight 0 ∷ copy eight 1 ∷ copy eight 1 ∷ [];
      registers = [];
      memories = [];
      ins = 0 ∷ 1 ∷ [];
      outs = 2 ∷ 3 ∷ 4 ∷ [];
      clocks = 0;
    }

abbrev tree : InstanceTree
tree =
    record {
      paths = [] ∷ [];
      instances = record { parent = None; «module» = 0; first = 0; end = 5; ports = input 0 ∷ input 1 ∷ output 2 ∷ output 3 ∷ []; memories = []; clocks = [] } ∷ [];
      memory_paths = [];
      memories = [];
      clocks = [];
      register_clocks = [];
      stops = record { instance = 0; signal = 4; clock = None } ∷ [];
    }

abbrev design : Ordered
design = record { circuit = circuit; tree = tree; order = 0 ∷ 1 ∷ 2 ∷ 3 ∷ 4 ∷ [] }

abbrev entry : List ℕ → List (List ℕ) → List (List ℕ) → BridgeEntry
entry name sees drives = record { name = name; sees = sees; drives = drives }

-- a bridge sees `q` and drives `x`
abbrev asks : Request
asks = record no_request { bridges = entry (codes "e") (codes "q" ∷ []) (codes "x" ∷ []) ∷ [] }

abbrev bridges : Bridges
bridges = plan_bridges circuit tree asks

-- without bridges: the hub is machine 0, the sources of `x` and `y` are 1 and 2, the trays of `p`, `q` and `s` 3 to 5
plain : wires_of circuit tree (listed_of tree asks) [] ≡ wire 0 1 0 ∷ wire 1 2 0 ∷ wire 2 0 3 ∷ wire 3 0 4 ∷ wire 4 0 5 ∷ []
plain = refl

numbers : first_kept_tray bridges ∷ first_bridge bridges ∷ machine_end bridges ∷ [] ≡ 2 ∷ 4 ∷ 5 ∷ []
numbers = refl

names : machine_names design asks (listed_of tree asks) ≡ codes "hub:" ∷ codes "in:y" ∷ codes "out:p" ∷ codes "halt:s" ∷ codes "bridge:e" ∷ []
names = refl

wires : plan_wires circuit tree asks ≡ wire 0 4 0 ∷ wire 1 1 0 ∷ wire 2 0 2 ∷ wire 3 0 4 ∷ wire 4 0 3 ∷ []
wires = refl

-- the source of `y` is behind no source of `x`, and the tray of the stop is behind that of `p`
givers : map (giver_of bridges) (0 ∷ 1 ∷ []) ≡ 4 ∷ 1 ∷ []
givers = refl

keepers : map (keeper_of bridges) (0 ∷ 1 ∷ 2 ∷ []) ≡ 2 ∷ 4 ∷ 3 ∷ []
keepers = refl

open-ins : open_ins circuit asks ≡ 1 ∷ []
open-ins = refl

open-outs : open_outs circuit 2 asks ≡ 2 ∷ []
open-outs = refl

-- the bridge gives no input that it doesn't drive
not-driven : ¬ (giver_of bridges 1 ≡ 4)
not-driven is = absurd (omega (arith, is))

counts : counts_of (listed_of tree asks) bridges ≡ record { units = 0; memories = 0; sources = 1; trays = 2; bridges = 1 }
counts = refl

the-source : IsRole (counts_of (listed_of tree asks) bridges) 1 (Source 0)
the-source = (omega arith, refl)

the-stop : IsRole (counts_of (listed_of tree asks) bridges) 3 (Tray 1)
the-stop = (omega arith, refl)

the-bridge : IsRole (counts_of (listed_of tree asks) bridges) 4 (Bridge 0)
the-bridge = (omega arith, refl)

no-second : ¬ IsRole (counts_of (listed_of tree asks) bridges) 2 (Source 1)
no-second is = absurd (omega (arith, is.0))

-- With direct channels `x`, which the bridge drives, is no origin, so `p` comes from the hub. `y` goes to the bridge from its source, and to the hub
-- for the stop, which is never direct.
direct-wires : plan_wires circuit tree (record asks { direct = true }) ≡ wire 0 4 0 ∷ wire 1 1 0 ∷ wire 2 0 2 ∷ record { signal = 3; given = 1; producer = 1; consumer = 4 } ∷ wire 4 0 3 ∷ []
direct-wires = refl

-- a stop is no output, so a bridge that lists it doesn't see it
abbrev sees_stop : Request
sees_stop = record no_request { bridges = entry (codes "e") (codes "s" ∷ []) [] ∷ [] }

stop-kept : wires_of circuit tree (listed_of tree sees_stop) sees_stop.bridges ≡ wire 0 1 0 ∷ wire 1 2 0 ∷ wire 2 0 3 ∷ wire 3 0 4 ∷ wire 4 0 5 ∷ []
stop-kept = refl

stop-seen : ¬ (keeper_of (plan_bridges circuit tree sees_stop) 2 ≡ 6)
stop-seen is = absurd (omega (arith, is))

-- a port that two entries list is the first one's, though such a request has a fault
abbrev sees_twice : Request
sees_twice = record no_request { bridges = entry (codes "e") (codes "q" ∷ []) [] ∷ entry (codes "f") (codes "q" ∷ codes "p" ∷ []) [] ∷ [] }

first-takes : map (keeper_of (plan_bridges circuit tree sees_twice)) (0 ∷ 1 ∷ 2 ∷ []) ≡ 5 ∷ 4 ∷ 3 ∷ []
first-takes = refl

-- ---- faults

-- what says what it saw in the cycle before
abbrev echo : Ty → FlatCircuit
echo ty =
    record {
      paths = codes "in" ∷ codes "out" ∷ [];
      signals = signal ty (Input 0) ∷ signal ty (Held 0) ∷ [];
      registers = [];
      memories = [];
      ins = 0 ∷ [];
      outs = 1 ∷ [];
      clocks = 0;
    }

abbrev models : Models
models = (codes "echo8", echo eight) ∷ (codes "echo9", echo nine) ∷ []

abbrev told : List BridgeEntry → Option (List ℕ)
told entries = option_map fault_text (first_of (bridge_faults circuit 1 models entries))

abbrev of_q : List ℕ → BridgeEntry
of_q name = entry name (codes "q" ∷ []) (codes "x" ∷ [])

no-fault : told (of_q (codes "echo8") ∷ []) ≡ None
no-fault = refl

unknown : told (of_q (codes "echo1") ∷ []) ≡ Some (codes "P14 echo1")
unknown = refl

wrong-drives : told (entry (codes "echo8") (codes "q" ∷ []) (codes "p" ∷ []) ∷ []) ≡ Some (codes "P15 p")
wrong-drives = refl

unfit : told (of_q (codes "echo9") ∷ []) ≡ Some (codes "P16 echo9")
unfit = refl

-- as many ports as the model has signals
too-many : told (entry (codes "echo8") (codes "p" ∷ codes "q" ∷ []) (codes "x" ∷ []) ∷ []) ≡ Some (codes "P16 echo8")
too-many = refl

-- a stop is no output
no-stop : told (entry (codes "echo8") (codes "s" ∷ []) (codes "x" ∷ []) ∷ []) ≡ Some (codes "P15 s")
no-stop = refl

-- the name comes before the ports, what it sees before what it drives, and the ports before their types
name-first : told (entry (codes "echo1") (codes "x" ∷ []) (codes "p" ∷ []) ∷ []) ≡ Some (codes "P14 echo1")
name-first = refl

sees-first : told (entry (codes "echo9") (codes "x" ∷ []) (codes "p" ∷ []) ∷ []) ≡ Some (codes "P15 x")
sees-first = refl

ports-first : told (entry (codes "echo9") (codes "q" ∷ []) (codes "p" ∷ []) ∷ []) ≡ Some (codes "P15 p")
ports-first = refl

-- what an entry before lists can't be listed again: a name, a port that it sees, and one that it drives
name-twice : told (of_q (codes "echo8") ∷ entry (codes "echo8") (codes "p" ∷ []) (codes "y" ∷ []) ∷ []) ≡ Some (codes "P14 echo8")
name-twice = refl

seen-twice : told (of_q (codes "echo8") ∷ entry (codes "echo9") (codes "q" ∷ []) (codes "y" ∷ []) ∷ []) ≡ Some (codes "P15 q")
seen-twice = refl

driven-twice : told (of_q (codes "echo8") ∷ entry (codes "echo9") (codes "p" ∷ []) (codes "x" ∷ []) ∷ []) ≡ Some (codes "P15 x")
driven-twice = refl

-- each fault of an entry comes before those of the next
entry-first : told (of_q (codes "echo9") ∷ of_q (codes "echo1") ∷ []) ≡ Some (codes "P16 echo9")
entry-first = refl

-- all other faults come before those of bridges
others-first : option_map fault_text (first_fault_with design models (record no_request { pipe = codes "zz" ∷ []; bridges = of_q (codes "echo1") ∷ [] })) ≡ Some (codes "P10 zz")
others-first = refl

bridges-last : option_map fault_text (first_fault_with design models (record no_request { pipe = codes "x" ∷ []; bridges = of_q (codes "echo1") ∷ [] })) ≡ Some (codes "P14 echo1")
bridges-last = refl
