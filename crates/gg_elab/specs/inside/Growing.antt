-- A line while it grows, node by node.
use Rattle.std.specs.Prelude.{◌≡◌, ℕ, ◌+◌, ◌<◌, List, [], ◌∷◌, ◌++◌, Result, Ok, Err, length, ◌⊎◌, Bool, true, false}
use Rattle.gg_bits.specs.declared.types.Bad.{Bad}
use Rattle.gg_bits.specs.declared.types.Ty.{Ty}
use Rattle.gg_bits.specs.Shape.{Shape, shape, uint}
use Rattle.gg_ast.specs.Term.{Term}
use Rattle.gg_flat.specs.declared.line.Node.{Node}
use Rattle.gg_flat.specs.declared.line.Op.{Op}
use Rattle.gg_flat.specs.declared.line.Op.TheVariants.{Literal}
use Rattle.gg_flat.specs.Line.{shape_at, value_at, shapes_of, op_at, HasShape, HasType, node_values}
use Rattle.gg_flat.specs.Reads.{Names}
use Rattle.gg_elab.specs.declared.expression.Stand.{Stand}
use Rattle.gg_elab.specs.declared.scope.Scope as kept
use Rattle.gg_elab_sites.specs.Known.{types_of}
use Rattle.gg_elab_sites.specs.Lines.{laid, with_term}
use Rattle.gg_elab_sites.specs.Meaning.{Context, in_scope, term_shape, term_value, TermNames}
use Rattle.gg_elab_sites.specs.inside.Views.{table_bindings}

-- where an expression is written, with the meaning of its names
abbrev pub context_of : kept.Scope → Context
context_of s = in_scope (table_bindings (types_of s.typed.now.circuit) s.table.now) (record { path = s.path.now; number = s.number })

-- the node of the UInt<1> 0
pub record IsZeroNode (n : Node) : Type 0 where
  pub typed : shape n.ty ≡ uint 1
  pub zero : n.op ≡ Literal (record { 0 = 0 })

-- The node of an operation with this result: the operation, or 0 if it doesn't take its operands.
abbrev pub IsResultNode : Result Ty Bad → Op → Node → Type 0
IsResultNode (Ok ty) op n = (n.ty ≡ ty) × (n.op ≡ op)
IsResultNode (Err bad) op n = IsZeroNode n

-- A node was added to the end of a line.
pub record IsPlaced (IsIt : Node → Type 0) (old new : List Node) (stand : Stand) : Type 0 where
  pub node : Node
  pub is : IsIt node
  pub added : new ≡ old ++ node ∷ []
  pub place : stand.node ≡ length old
  pub typed : stand.ty ≡ node.ty

-- each node has its shape
abbrev pub HaveShapes : Context → List Node → Type 0
HaveShapes w nodes = (k : ℕ) → k < length nodes → HasShape (HasType w.bindings.signals.shapes) (shapes_of nodes) k (shape_at (shapes_of nodes) k) (op_at nodes k)

-- Node k computes an expression, regardless of the nodes that follow.
pub record StandsFor (w : Context) (nodes : List Node) (k : ℕ) (e : Term) : Type 0 where
  pub within : k < length nodes
  pub node : shape_at (shapes_of nodes) k ≡ term_shape w e
  pub value : (values : List ℕ) (more : List Shape) → value_at (node_values values (shapes_of nodes ++ more) nodes) k ≡ term_value w values e
  pub named : (s : ℕ) → TermNames w s e → Names nodes s

-- The nodes of an expression were added to `old`. The last of them, node k, computes it.
pub record Added (w : Context) (old new : List Node) (e : Term) (k : ℕ) : Type 0 where
  pub stands : StandsFor w new k e
  pub last : length new ≡ k + 1
  pub kept : (i : ℕ) (f : Term) → StandsFor w old i f → StandsFor w new i f
  pub typed : HaveShapes w old → HaveShapes w new
  pub names : (s : ℕ) → Names new s → Names old s ⊎ TermNames w s e
  pub nodes : laid new ≡ with_term w (laid old) e

-- ---- whole lines

-- A node of 0 of this shape was added.
pub record IsZeroOf (old new : List Node) (sink : Shape) : Type 0 where
  pub node : Node
  pub typed : shape node.ty ≡ sink
  pub zero : node.op ≡ Literal (record { 0 = 0 })
  pub added : new ≡ old ++ node ∷ []

-- The line if its value can be taken, otherwise the line with a 0 at the end.
abbrev pub IsCut : Bool → List Node → Shape → List Node → Type 0
IsCut true line sink new = new ≡ line
IsCut false line sink new = IsZeroOf line new sink
