-- The part of a unit that shares its host, from the part of the first unit of the host.
-- Source: FIRRTL Specification, "Instances": each instance of a module has all that the module declares; ICCAD 2019 (duplicate
-- instances that share one host unit).
use Rattle.std.specs.Prelude.{◌≡◌, ◌↔◌, ◌⊎◌, ℕ, ◌<◌, List, Option, length, map, All, AllPairs, Contains}
use Rattle.gg_flat.specs.declared.piece.Driver.TheVariants.{Held}
use Rattle.gg_flat.specs.Circuit.{FlatCircuit, driver_at}
use Rattle.gg_flat.specs.Line.{value_at}
use Rattle.gg_flat_tree.specs.Tree.{path_at}
use Rattle.gg_order.specs.Design.{Ordered}
use Rattle.gg_part.specs.declared.part.Clocking.{Clocking}
use Rattle.gg_part.specs.declared.part.Part.{Part}
use Rattle.gg_part.specs.Part.{IsPart}
use Rattle.gg_part.specs.Building.{AreHeld}
use Rattle.gg_part.specs.inside.Clocking.{IsTimed}
use Rattle.gg_flat.specs.InOrder.{IsInOrder}
use Rattle.gg_cut_plan.specs.declared.listed.Listed.{Listed}
use Rattle.gg_cut_plan.specs.Alike.{IsAlike}
use Rattle.gg_cut_plan.specs.Direct.{Hub, routes}
use Rattle.gg_cut_plan.specs.Plan.{channels_to, channels_from, signals_of, givens_of, MakesBy, Takes, HasMemory, IsCutPart, machine_clocks}
use Rattle.gg_cut_split.specs.inside.Again.{HasSignal, cut_wires}

-- ---- the piece

-- A piece for the signals of the whole circuit with these numbers: another piece with their paths, which gives `givens` to the outside.
pub record IsMovedPiece (whole other : FlatCircuit) (globals givens : List ℕ) (piece : FlatCircuit) : Type 0 where
  pub paths : piece.paths ≡ map (path_at whole.paths) globals
  pub signals : piece.signals ≡ other.signals
  pub registers : piece.registers ≡ other.registers
  pub memories : piece.memories ≡ other.memories
  pub ins : piece.ins ≡ other.ins
  pub outs : map (value_at globals) piece.outs ≡ givens
  pub outs_within : All (λ s. s < length globals) piece.outs
  pub clocks : piece.clocks ≡ other.clocks

-- a part with a moved piece, with these numbers and clocks
pub record IsMovedPart (whole : FlatCircuit) (leader : Part) (globals held banks givens : List ℕ) (clocks : List (Option ℕ)) (part : Part) : Type 0 where
  pub piece : IsMovedPiece whole leader.piece globals givens part.piece
  pub signals : part.globals ≡ globals
  pub registers : part.held ≡ held
  pub memories : part.memories ≡ banks
  pub follows : part.clocks ≡ clocks

-- The part of machine m, a unit, by the channels before the routing, which gives `givens`. A unit takes by the routed channels what it
-- took before, and gives by the same signals, maybe more than once. Its registers and ports follow what `clocking` has for the units.
pub record IsUnitPart (design : Ordered) (listed : Listed) (clocking : Clocking) (m : ℕ) (givens : List ℕ) (part : Part) : Type 0 where
  pub is : IsPart design.circuit part.piece part.globals part.held part.memories part.clocks
  pub clocks : part.clocks ≡ machine_clocks design.tree listed m
  pub timed : IsTimed part.piece part.held part.memories clocking.registers clocking.ports
  pub signals : (s : ℕ) → Contains part.globals s ↔ HasSignal design listed m s
  pub ins : map (value_at part.globals) part.piece.ins ≡ signals_of (cut_wires design listed) (channels_to (cut_wires design listed) m)
  pub outs : map (value_at part.globals) part.piece.outs ≡ givens
  pub held : AreHeld design.circuit part.globals (signals_of (cut_wires design listed) (channels_to (cut_wires design listed) m)) part.held
  pub memories : (k : ℕ) → Contains part.memories k ↔ HasMemory design.tree listed m k
  pub ordered : IsInOrder part.piece

-- exactly the signals that give the channels of machine m, a unit, their values before the routing
abbrev pub AreGivens : Ordered → Listed → ℕ → List ℕ → Type 0
AreGivens design listed m givens = (s : ℕ) → Contains givens s ↔ Contains (givens_of (cut_wires design listed) (channels_from (cut_wires design listed) m)) s

-- A unit has by the routed channels the signals that it had, takes the same in the same order, and gives by the same signals.
pub record IsUnitRouted (design : Ordered) (listed : Listed) (hub : Hub) (m : ℕ) : Type 0 where
  pub signals : (s : ℕ) → (MakesBy hub m s ⊎ Takes (routes hub) m s) ↔ HasSignal design listed m s
  pub ins : signals_of (routes hub) (channels_to (routes hub) m) ≡ signals_of (cut_wires design listed) (channels_to (cut_wires design listed) m)
  pub givens : AreGivens design listed m (givens_of (routes hub) (channels_from (routes hub) m))

-- what machine n, a unit, has: exactly the signals that it makes or takes, and its memories, ascending
pub record IsUnitShare (design : Ordered) (listed : Listed) (n : ℕ) (globals memories : List ℕ) : Type 0 where
  pub signals : (s : ℕ) → Contains globals s ↔ HasSignal design listed n s
  pub within : All (λ s. s < length design.circuit.signals) globals
  pub banks : (k : ℕ) → Contains memories k ↔ HasMemory design.tree listed n k
  pub ascend : AllPairs (λ a b. a < b) memories

-- The part of machine n, a unit, is like the part of the first unit of its host, and its memories are ascending. Its registers and ports follow what
-- `clocking` has for the units.
pub record IsFollower (design : Ordered) (listed : Listed) (hub : Hub) (clocking : Clocking) (n : ℕ) (leader part : Part) : Type 0 where
  pub cut : IsCutPart design listed hub n part
  pub timed : IsTimed part.piece part.held part.memories clocking.registers clocking.ports
  pub ascend : AllPairs (λ a b. a < b) part.memories
  pub alike : IsAlike leader.piece part.piece

-- ---- the registers

-- the signals with these numbers hold the registers that `registers` gives for the part's registers
abbrev pub HoldAgain : FlatCircuit → Part → List ℕ → (ℕ → ℕ) → Type 0
HoldAgain whole part globals registers = (s k : ℕ) → s < length globals → driver_at part.piece s ≡ Held k → driver_at whole (value_at globals s) ≡ Held (registers (value_at part.held k))

-- a table has what `registers` gives for the registers that the first `count` signals of the part hold
abbrev pub HasAgain : Part → (ℕ → ℕ) → List ℕ → ℕ → Type 0
HasAgain part registers table count = (s k : ℕ) → s < count → driver_at part.piece s ≡ Held k → value_at table (value_at part.held k) ≡ registers (value_at part.held k)
