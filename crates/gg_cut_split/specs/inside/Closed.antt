-- A machine of a cut is closed, so that what it has makes a part of the circuit.
-- Source: MEMOCODE 2009 (the nodes of a network, and the channels that each takes and gives); ICCAD 2019 (units and
-- memories of a target as models of their own).
use Rattle.std.specs.Prelude.{◌≡◌, ◌≢◌, ◌↔◌, ◌⊎◌, ℕ, ◌<◌, List, Some, slice_get, Contains, AllPairs}
use Rattle.gg_flat.specs.declared.piece.Register.{Register}
use Rattle.gg_flat.specs.declared.piece.Driver.TheVariants.{Held}
use Rattle.gg_flat.specs.Circuit.{driver_at}
use Rattle.gg_flat.specs.Reads.{NamesSignal, RegisterNames}
use Rattle.gg_part.specs.inside.Choice.{IsChoice}
use Rattle.gg_part.specs.KeepsToTree.{KeepsToTree}
use Rattle.gg_order.specs.Design.{Ordered, IsDesign}
use Rattle.gg_partfile.specs.declared.request.BridgeEntry.{BridgeEntry}
use Rattle.gg_cut_plan.specs.declared.listed.Listed.{Listed}
use Rattle.gg_cut_plan.specs.Machines.{first_source}
use Rattle.gg_cut_plan.specs.Channels.{wires_of}
use Rattle.gg_cut_plan.specs.Plan.{channels_to, channels_from, signals_of, givens_of, Takes, HasMemory}
use Rattle.gg_cut_plan.specs.inside.Plan.{Makes}
use Rattle.gg_cut_split.specs.inside.Apart.{AreApart}

-- ---- what a machine has

-- machine m of a cut makes signal s
abbrev pub MakesInCut : Ordered → Listed → List BridgeEntry → ℕ → ℕ → Type 0
MakesInCut design listed entries m s = Makes design.circuit design.tree listed (wires_of design.circuit design.tree listed entries) m s

-- machine m of a cut makes signal s, or takes it
abbrev pub HasInCut : Ordered → Listed → List BridgeEntry → ℕ → ℕ → Type 0
HasInCut design listed entries m s = MakesInCut design listed entries m s ⊎ Takes (wires_of design.circuit design.tree listed entries) m s

-- the signals that machine m of a cut takes, in the order of its channels
abbrev pub ins_in_cut : Ordered → Listed → List BridgeEntry → ℕ → List ℕ
ins_in_cut design listed entries m = signals_of (wires_of design.circuit design.tree listed entries) (channels_to (wires_of design.circuit design.tree listed entries) m)

-- the signals that give the channels of machine m of a cut their values, in the order of its channels
abbrev pub outs_in_cut : Ordered → Listed → List BridgeEntry → ℕ → List ℕ
outs_in_cut design listed entries m = givens_of (wires_of design.circuit design.tree listed entries) (channels_from (wires_of design.circuit design.tree listed entries) m)

-- ---- what holds of a machine

-- A machine has all that the drivers of its signals name.
abbrev pub DriversNameWithin : Type 0
DriversNameWithin =
    (design : Ordered) (listed : Listed) (entries : List BridgeEntry) (m s t : ℕ)
    -- The design keeps to its tree, and what is listed is apart.
    → IsDesign design → KeepsToTree design.circuit design.tree → AreApart design.tree listed
    -- The machine is the hub, a unit or a memory, and makes signal s.
    → m < first_source listed → MakesInCut design listed entries m s
    -- The driver of s names signal t.
    → NamesSignal (driver_at design.circuit s) t
    -- Then the machine has t.
    → HasInCut design listed entries m t

-- A machine has all that the registers of its signals name.
abbrev pub RegistersNameWithin : Type 0
RegistersNameWithin =
    (design : Ordered) (listed : Listed) (entries : List BridgeEntry) (m s r t : ℕ) (register : Register)
    -- The design keeps to its tree, and what is listed is apart.
    → IsDesign design → KeepsToTree design.circuit design.tree → AreApart design.tree listed
    -- The machine is the hub, a unit or a memory, and makes signal s.
    → m < first_source listed → MakesInCut design listed entries m s
    -- The signal holds a register, which names signal t.
    → driver_at design.circuit s ≡ Held r → slice_get design.circuit.registers r ≡ Some register → RegisterNames register t
    -- Then the machine has t.
    → HasInCut design listed entries m t

-- What a machine has makes a part of the circuit.
abbrev pub MachinesMakeParts : Type 0
MachinesMakeParts =
    (design : Ordered) (listed : Listed) (entries : List BridgeEntry) (m : ℕ) (globals memories : List ℕ)
    -- The design keeps to its tree, and what is listed is apart.
    → IsDesign design → KeepsToTree design.circuit design.tree → AreApart design.tree listed
    -- The machine is the hub, a unit or a memory.
    → m < first_source listed
    -- The list of signals has exactly the machine's signals, each once.
    → ((s : ℕ) → Contains globals s ↔ HasInCut design listed entries m s) → AllPairs (λ a b. a ≢ b) globals
    -- The list of memories has exactly the machine's memories, each once.
    → ((k : ℕ) → Contains memories k ↔ HasMemory design.tree listed m k) → AllPairs (λ a b. a ≢ b) memories
    -- These make a part. Its in-signals are the signals that the machine takes, its out-signals the signals that it
    -- gives.
    → IsChoice design.circuit globals (ins_in_cut design listed entries m) (outs_in_cut design listed entries m) memories
