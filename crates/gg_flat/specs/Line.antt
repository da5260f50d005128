-- Lines: an expression as a list of nodes, its types and its value. Source: FIRRTL Specification, "Expressions"
-- (references, literals, primitive operations, multiplexers) and "Connects".
use Rattle.std.specs.Prelude.{◌≡◌, ℕ, ◌-◌, ◌<◌, ◌≤◌, List, [], ◌∷◌, ◌++◌, Ok, length, map, fold, slice_index_or}
use Rattle.gg_bits.specs.Shape.{Shape, shape, uint, Fits}
use Rattle.gg_bits.specs.ResultType.{type1, type2, type_const, type_mux}
use Rattle.gg_bits.specs.Meaning.{value1, value2, value_const, value_mux, extended}
use Rattle.gg_flat.specs.declared.line.Node.{Node}
use Rattle.gg_flat.specs.declared.line.Op.{Op}
use Rattle.gg_flat.specs.declared.line.Op.TheVariants.{Ref, Literal, One, Two, Fix, Mux}

-- ---- the nodes by their places

-- the shape at a place; past the end a shape with a width of 0
abbrev pub shape_at : List Shape → ℕ → Shape
shape_at shapes i = slice_index_or shapes i (uint 0)

-- the value at a place; 0 past the end
abbrev pub value_at : List ℕ → ℕ → ℕ
value_at values i = slice_index_or values i 0

-- the shapes of the nodes' values, in order
abbrev pub shapes_of : List Node → List Shape
shapes_of nodes = map (λ node. shape node.ty) nodes

-- the operation of the node at a place; past the end a reference to signal 0
abbrev pub op_at : List Node → ℕ → Op
op_at nodes i = slice_index_or (map (λ node. node.op) nodes) i (Ref 0)

-- ---- types

-- An operation has the shape `to`. `Named` says which signal has which shape, for references. A literal has a value
-- that fits. An operation on nodes has its result type; the nodes are before place k and have the shapes `shapes`.
abbrev pub HasShape : (ℕ → Shape → Type 0) → List Shape → ℕ → Shape → Op → Type 0
HasShape Named shapes k to (Ref s) = Named s to
HasShape Named shapes k to (Literal value) = Fits to value.0
HasShape Named shapes k to (One op i) = (i < k) × (type1 op (shape_at shapes i) ≡ Ok to)
HasShape Named shapes k to (Two op i j) = (i < k) × (j < k) × (type2 op (shape_at shapes i) (shape_at shapes j) ≡ Ok to)
HasShape Named shapes k to (Fix op i n m) = (i < k) × (type_const op (shape_at shapes i) n m ≡ Ok to)
HasShape Named shapes k to (Mux c i j) = (c < k) × (i < k) × (j < k) × (type_mux (shape_at shapes c) (shape_at shapes i) (shape_at shapes j) ≡ Ok to)

-- A line: it has a node, and each node has its shape.
pub record IsLine (Named : ℕ → Shape → Type 0) (nodes : List Node) : Type 0 where
  pub some : 0 < length nodes
  pub typed : (k : ℕ) → k < length nodes → HasShape Named (shapes_of nodes) k (shape_at (shapes_of nodes) k) (op_at nodes k)

-- signal s has a shape in this list, and it is `to`
abbrev pub HasType : List Shape → ℕ → Shape → Type 0
HasType signals s to = (s < length signals) × (shape_at signals s ≡ to)

-- There is a value for each of the shapes, and it has that shape.
pub record AreTyped (shapes : List Shape) (values : List ℕ) : Type 0 where
  pub count : length values ≡ length shapes
  pub fits : (i : ℕ) → i < length shapes → Fits (shape_at shapes i) (value_at values i)

-- the shape of a line's result, which is its last node's
abbrev pub line_shape : List Node → Shape
line_shape nodes = shape_at (shapes_of nodes) (length nodes - 1)

-- A line that may be connected to a sink of this shape: of the same kind, and no wider ("Connects").
pub record IsSource (Named : ℕ → Shape → Type 0) (sink : Shape) (nodes : List Node) : Type 0 where
  pub line : IsLine Named nodes
  pub kind : (line_shape nodes).kind ≡ sink.kind
  pub width : (line_shape nodes).width ≤ sink.width

-- A line that may be a condition: its result is one unsigned bit.
pub record IsCondition (Named : ℕ → Shape → Type 0) (nodes : List Node) : Type 0 where
  pub line : IsLine Named nodes
  pub bit : line_shape nodes ≡ uint 1

-- ---- values

-- The value of an operation, if the signals have the values `signals` and the earlier nodes the values `before`.
abbrev pub op_value : List ℕ → List Shape → List ℕ → Op → ℕ
op_value signals shapes before (Ref s) = value_at signals s
op_value signals shapes before (Literal value) = value.0
op_value signals shapes before (One op i) = value1 op (shape_at shapes i) (value_at before i)
op_value signals shapes before (Two op i j) = value2 op (shape_at shapes i) (value_at before i) (shape_at shapes j) (value_at before j)
op_value signals shapes before (Fix op i n m) = value_const op (shape_at shapes i) (value_at before i) n m
op_value signals shapes before (Mux c i j) = value_mux (value_at before c) (shape_at shapes i) (value_at before i) (shape_at shapes j) (value_at before j)

-- the values of the nodes so far, and the value of one more node
abbrev pub with_node : List ℕ → List Shape → List ℕ → Node → List ℕ
with_node signals shapes before node = before ++ op_value signals shapes before node.op ∷ []

-- The values of the nodes, in order, each from the values before it. `shapes` are the shapes of the whole line.
abbrev pub node_values : List ℕ → List Shape → List Node → List ℕ
node_values signals shapes nodes = fold (with_node signals shapes) [] nodes

-- the value of a line's result
abbrev pub line_value : List ℕ → List Node → ℕ
line_value signals nodes = value_at (node_values signals (shapes_of nodes) nodes) (length nodes - 1)

-- the value of a line for a sink of this shape: the result, extended by its own kind ("Connects")
abbrev pub connected_value : List ℕ → Shape → List Node → ℕ
connected_value signals sink nodes = extended (line_shape nodes) sink.width (line_value signals nodes)
