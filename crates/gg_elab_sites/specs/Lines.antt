-- How an expression is laid out as a line: a node for each of its parts, after the nodes of its operands from left to right. The last node
-- is the node of the whole (postfix order). The values and the names of such a line are defined apart, by what the expression means.
-- Source: FIRRTL Specification, "Expressions", "Primitive Operations": an operation's operands are in the order of its arguments.
use Rattle.std.specs.Prelude.{ℕ, ◌-◌, List, [], ◌∷◌, ◌++◌, Option, Some, None, Bool, true, false, Result, Ok, Err, length, map}
use Rattle.gg_bits.specs.declared.types.Bad.{Bad}
use Rattle.gg_bits.specs.Shape.{Shape, shape, uint}
use Rattle.gg_bits.specs.ResultType.{type1, type2, type_const, type_mux, is_condition}
use Rattle.gg_ast.specs.Term.{Term, NamedTerm, ConstantTerm, UnaryTerm, BinaryTerm, FixedTerm, MuxTerm}
use Rattle.gg_flat.specs.declared.line.Node.{Node}
use Rattle.gg_flat.specs.declared.line.Op.{Op}
use Rattle.gg_flat.specs.declared.line.Op.TheVariants.{Ref, Literal, One, Two, Fix, Mux}
use Rattle.gg_flat.specs.Line.{shape_at}
use Rattle.gg_types.specs.Literal.{literal_value}
use Rattle.gg_types.specs.Types.{literal_shape}
use Rattle.gg_elab_sites.specs.Connection.{Connection, ConnectedTo, Zeroed}
use Rattle.gg_elab_sites.specs.Meaning.{Signals, Context, named, term_shape, takes}

-- ---- nodes

-- a node: the shape of its value, and what it does
pub record Laid : Type 0 where
  pub shape : Shape
  pub op : Op

-- a node of a line as such: the shape of its type, and what it does
abbrev pub laid_node : Node → Laid
laid_node node = record { shape = shape node.ty; op = node.op }

-- the nodes of a line
abbrev pub laid : List Node → List Laid
laid line = map laid_node line

-- a line with one more node
abbrev pub with_laid : List Laid → Shape → Op → List Laid
with_laid line sort op = line ++ (record { shape = sort; op = op }) ∷ []

-- a line with one more node, a literal
abbrev pub with_number : List Laid → Shape → ℕ → List Laid
with_number line sort number = with_laid line sort (Literal (record { 0 = number }))

-- a reference to a signal; 0 if it names none
abbrev pub with_signal : Signals → List Laid → Option ℕ → List Laid
with_signal signals line None = with_number line (uint 1) 0
with_signal signals line (Some s) = with_laid line (shape_at signals.shapes s) (Ref s)

-- a literal; 0 if it doesn't fit
abbrev pub with_literal : List Laid → Option Shape → ℕ → List Laid
with_literal line None number = with_number line (uint 1) 0
with_literal line (Some sort) number = with_number line sort number

-- an operation with this result; 0 if it doesn't take its operands
abbrev pub with_result : List Laid → Result Shape Bad → Op → List Laid
with_result line (Ok sort) op = with_laid line sort op
with_result line (Err bad) op = with_number line (uint 1) 0

-- the place of the last node
abbrev pub last_of : List Laid → ℕ
last_of line = length line - 1

-- ---- lines

-- a line followed by the nodes of an expression
abbrev pub with_term : Context → List Laid → Term → List Laid
with_term context line (NamedTerm r) = with_signal context.bindings.signals line (named context r)
with_term context line (ConstantTerm l) = with_literal line (literal_shape l) (literal_value l)
with_term context line (UnaryTerm op a) =
    let x = with_term context line a in
    with_result x (type1 op (term_shape context a)) (One op (last_of x))
with_term context line (BinaryTerm op a b) =
    let x = with_term context line a in
    let y = with_term context x b in
    with_result y (type2 op (term_shape context a) (term_shape context b)) (Two op (last_of x) (last_of y))
with_term context line (FixedTerm op a n m) =
    let x = with_term context line a in
    with_result x (type_const op (term_shape context a) n m) (Fix op (last_of x) n m)
with_term context line (MuxTerm c a b) =
    let x = with_term context line c in
    let y = with_term context x a in
    let z = with_term context y b in
    with_result z (type_mux (term_shape context c) (term_shape context a) (term_shape context b)) (Mux (last_of x) (last_of y) (last_of z))

-- a line if its value can be taken, otherwise the line followed by a 0 of this shape
abbrev pub cut_line : Bool → Shape → List Laid → List Laid
cut_line true sink line = line
cut_line false sink line = with_number line sink 0

-- the line of a sink that gets an expression
abbrev pub taken_line : Context → Shape → Term → List Laid
taken_line context sink e = cut_line (takes sink (term_shape context e)) sink (with_term context [] e)

-- the line of a sink with this connection; 0 for `is invalid`, and if there is no connection
abbrev pub connected_line : Context → Shape → Option Connection → List Laid
connected_line context sink None = with_number [] sink 0
connected_line context sink (Some Zeroed) = with_number [] sink 0
connected_line context sink (Some (ConnectedTo e)) = taken_line context sink e

-- the line of a condition; 0 if the expression isn't a UInt<1>
abbrev pub condition_line : Context → Term → List Laid
condition_line context e = cut_line (is_condition (term_shape context e)) (uint 1) (with_term context [] e)
