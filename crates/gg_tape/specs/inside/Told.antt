-- Instructions that compute the nodes of a line.
use Rattle.std.specs.Prelude.{◌≡◌, ℕ, ◌+◌, ◌<◌, ◌≤◌, List, [], ◌∷◌, ◌++◌, length, take}
use Rattle.gg_flat.specs.declared.line.Node.{Node}
use Rattle.gg_flat.specs.declared.line.Op.{Op}
use Rattle.gg_flat.specs.declared.line.Op.TheVariants.{Ref, Literal, One, Two, Fix, Mux}
use Rattle.gg_flat.specs.Line.{shape_at, value_at, shapes_of, op_at, IsLine}
use Rattle.gg_flat.specs.inside.Line.{HasValue}
use Rattle.gg_tape.specs.declared.small.Small.{Small}
use Rattle.gg_tape.specs.declared.instruction.Operation.TheVariants.{Take, Constant, Apply1, Apply2, ApplyConst, Choose}
use Rattle.gg_tape.specs.declared.instruction.Instruction.{Instruction}
use Rattle.gg_tape.specs.inside.Instruction.{small}

-- an operation is a reference
abbrev pub IsRef : Op → Type 0
IsRef op = (s : ℕ) × (op ≡ Ref s)

-- The cell of the node at place i, if there are n signals: the cell of a signal if it refers to one, otherwise the cell at place i of the
-- scratch space.
abbrev pub cell_by : ℕ → ℕ → Op → ℕ
cell_by n i (Ref s) = s
cell_by n i (Literal value) = n + i
cell_by n i (One op j) = n + i
cell_by n i (Two op j k) = n + i
cell_by n i (Fix op j p q) = n + i
cell_by n i (Mux c j k) = n + i

abbrev pub cell_of : List Node → ℕ → ℕ → ℕ
cell_of nodes n i = cell_by n i (op_at nodes i)

-- the number and the type are the cell and the type of the node at place j
abbrev pub IsOf : List Node → ℕ → ℕ → ℕ → Small → Type 0
IsOf nodes n j number ty = (number ≡ cell_of nodes n j) × (small ty ≡ shape_at (shapes_of nodes) j)

-- An instruction does this operation of a node.
abbrev pub DoesOp : List Node → ℕ → List ℕ → Instruction → Op → Type 0
DoesOp nodes n literals i (Ref s) = (i.operation ≡ Take) × (i.first ≡ s)
DoesOp nodes n literals i (Literal value) = (i.operation ≡ Constant) × (i.first < length literals) × (value_at literals i.first ≡ value.0)
DoesOp nodes n literals i (One op j) = (i.operation ≡ Apply1 op) × IsOf nodes n j i.first i.first_ty
DoesOp nodes n literals i (Two op j k) = (i.operation ≡ Apply2 op) × IsOf nodes n j i.first i.first_ty × IsOf nodes n k i.second i.second_ty
DoesOp nodes n literals i (Fix op j p q) = (i.operation ≡ ApplyConst op) × IsOf nodes n j i.first i.first_ty × (i.second ≡ p) × (i.third ≡ q)
DoesOp nodes n literals i (Mux c j k) = (i.operation ≡ Choose) × IsOf nodes n j i.first i.first_ty × IsOf nodes n k i.second i.second_ty × (i.third ≡ cell_of nodes n c)

-- An instruction does what the node at place k does, and writes that node's cell in the scratch space.
pub record Does (nodes : List Node) (n : ℕ) (literals : List ℕ) (k : ℕ) (i : Instruction) : Type 0 where
  pub cell : i.cell ≡ n + k
  pub ty : small i.ty ≡ shape_at (shapes_of nodes) k
  pub op : DoesOp nodes n literals i (op_at nodes k)

-- The next instruction for the nodes starting at place i is for node k. The nodes between are references.
pub record IsNext (nodes : List Node) (n : ℕ) (literals : List ℕ) (i k : ℕ) (instruction : Instruction) : Type 0 where
  pub from : i ≤ k
  pub within : k < length nodes
  pub between : (j : ℕ) → i ≤ j → j < k → IsRef (op_at nodes j)
  pub does : Does nodes n literals k instruction

-- The instructions compute the nodes starting at place i, where there are n signals: one after another, except for references that aren't
-- the last node.
abbrev pub Told : List Node → ℕ → List ℕ → ℕ → List Instruction → Type 0
Told nodes n literals i [] = i ≡ length nodes
Told nodes n literals i (instruction ∷ rest) = (k : ℕ) × IsNext nodes n literals i k instruction × Told nodes n literals (k + 1) rest

-- an operation of the node at place k names only earlier nodes
abbrev pub NamesBefore : ℕ → Op → Type 0
NamesBefore k (Ref s) = Unit {0}
NamesBefore k (Literal value) = Unit {0}
NamesBefore k (One op i) = i < k
NamesBefore k (Two op i j) = (i < k) × (j < k)
NamesBefore k (Fix op i n m) = i < k
NamesBefore k (Mux c i j) = (c < k) × (i < k) × (j < k)

-- The new instructions are the old ones, followed by instructions that compute the nodes. The new literals are the old ones, maybe followed
-- by more.
pub record IsAdded (nodes : List Node) (n : ℕ) (old : List Instruction) (old_literals : List ℕ) (new : List Instruction) (new_literals : List ℕ) : Type 0 where
  pub made : List Instruction
  pub more : List ℕ
  pub are : new ≡ old ++ made
  pub literals_are : new_literals ≡ old_literals ++ more
  pub told : Told nodes n new_literals 0 made

-- `IsAdded` for the nodes from place i up to k: followed by instructions that compute the rest, the added ones compute all nodes starting
-- at i.
pub record TellsTo (nodes : List Node) (n : ℕ) (i k : ℕ) (old : List Instruction) (old_literals : List ℕ) (new : List Instruction) (new_literals : List ℕ) : Type 0 where
  pub made : List Instruction
  pub more : List ℕ
  pub are : new ≡ old ++ made
  pub literals_are : new_literals ≡ old_literals ++ more
  pub told : (further : List ℕ) (rest : List Instruction) → Told nodes n (new_literals ++ further) k rest → Told nodes n (new_literals ++ further) i (made ++ rest)

-- The instructions can be run for these nodes: the first n cells are the signals, and there is room after them.
pub record CanRun (nodes : List Node) (n : ℕ) (literals : List ℕ) (instructions : List Instruction) (cells : List ℕ) : Type 0 where
  pub told : Told nodes n literals 0 instructions
  pub line : IsLine (HasValue (take n cells)) nodes
  pub room : n + length nodes ≤ length cells

-- The instructions compute these nodes, where the signals have these values, and there is room for them.
pub record IsTold (nodes : List Node) (literals : List ℕ) (instructions : List Instruction) (values : List ℕ) (room : ℕ) : Type 0 where
  pub told : Told nodes (length values) literals 0 instructions
  pub line : IsLine (HasValue values) nodes
  pub enough : length nodes ≤ room
