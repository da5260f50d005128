-- What an expression means at a site of the circuit: its shape and its value, by the signals of the whole circuit. A name means the signal
-- with the site's path followed by the name.
-- Source: FIRRTL Specification, "Expressions" (references, literals, primitive operations, multiplexers), "Primitive Operations",
-- "Connects". The shape and the value of each operation are defined in gg_bits. The definitions are total. A reference that names nothing
-- is the UInt<1> 0, and so are a literal that doesn't fit and an operation that doesn't take its operands. A source that a sink can't take
-- is 0. None of these occurs in a circuit that passed the checks.
use Rattle.std.specs.Prelude.{◌≡◌, ℕ, List, Option, Some, None, Bool, ◌&&◌, Result, Ok, Err, nat_le, is_some, unwrap_or, ◌⊎◌, if◌then◌else◌}
use Rattle.gg_bits.specs.declared.types.Bad.{Bad}
use Rattle.gg_bits.specs.Shape.{Shape, uint}
use Rattle.gg_bits.specs.ResultType.{type1, type2, type_const, type_mux, same_kind, is_condition}
use Rattle.gg_bits.specs.Meaning.{value1, value2, value_const, value_mux, extended}
use Rattle.gg_ast.specs.declared.expression.Literal.{Literal}
use Rattle.gg_ast.specs.declared.expression.Reference.{Reference}
use Rattle.gg_ast.specs.Term.{Term, NamedTerm, ConstantTerm, UnaryTerm, BinaryTerm, FixedTerm, MuxTerm}
use Rattle.gg_ast.specs.Places.{place_of}
use Rattle.gg_flat.specs.Line.{shape_at, value_at}
use Rattle.gg_flat_tree.specs.Tree.{joined}
use Rattle.gg_shape_names.specs.Scope.{written}
use Rattle.gg_types.specs.Literal.{literal_value}
use Rattle.gg_types.specs.Types.{literal_shape}
use Rattle.gg_elab_sites.specs.Signals.{Types}
use Rattle.gg_elab_sites.specs.Connection.{Connection, ConnectedTo, Zeroed}
use Rattle.gg_elab_sites.specs.Flat.{Scope}

-- the paths and the shapes of the circuit's signals, in order
pub record Signals : Type 0 where
  pub paths : List (List ℕ)
  pub shapes : List Shape

-- the meaning of a circuit's names: the shapes that the type checks give them, the signals, and the paths of the memories
pub record Bindings : Type 0 where
  pub types : Types
  pub signals : Signals
  pub memories : List (List ℕ)

-- the meaning of names, and the scope where they are written
pub record Context : Type 0 where
  pub bindings : Bindings
  pub scope : Scope

-- the meaning of names where they are written in this scope
abbrev pub in_scope : Bindings → Scope → Context
in_scope bindings scope = record { bindings = bindings; scope = scope }

-- The signal that a reference names, by its place: the signal of this path, if the module knows the name.
abbrev pub named_if : Bool → List (List ℕ) → List ℕ → Option ℕ
named_if known paths path = if known then place_of path paths else None

-- the signal that a reference names, by its place; none if the module doesn't know it or it is no value
abbrev pub named : Context → Reference → Option ℕ
named context r =
    named_if (is_some (context.bindings.types context.scope.number r)) context.bindings.signals.paths (joined context.scope.path (written r))

-- the shape of the signal that is named; one unsigned bit if none is
abbrev pub shape_named : Signals → Option ℕ → Shape
shape_named signals None = uint 1
shape_named signals (Some s) = shape_at signals.shapes s

-- the value of the signal that is named; 0 if none is
abbrev pub value_named : List ℕ → Option ℕ → ℕ
value_named values None = 0
value_named values (Some s) = value_at values s

-- the shape of a literal; one unsigned bit if its number doesn't fit
abbrev pub shape_of_literal : Literal → Shape
shape_of_literal l = unwrap_or (literal_shape l) (uint 1)

-- the value of a literal that has this shape; 0 if it has none, since it doesn't fit
abbrev pub value_of_literal : Option Shape → Literal → ℕ
value_of_literal None l = 0
value_of_literal (Some s) l = literal_value l

-- a result type, and a value of it
abbrev pub accepted : Result Shape Bad → Shape
accepted (Ok s) = s
accepted (Err bad) = uint 1

-- this value, if the operation takes its operands; otherwise 0
abbrev pub value_if : Result Shape Bad → ℕ → ℕ
value_if (Ok s) value = value
value_if (Err bad) value = 0

-- the shape of an expression, from the shapes of its parts
abbrev pub term_shape : Context → Term → Shape
term_shape context (NamedTerm r) = shape_named context.bindings.signals (named context r)
term_shape context (ConstantTerm l) = shape_of_literal l
term_shape context (UnaryTerm op a) = accepted (type1 op (term_shape context a))
term_shape context (BinaryTerm op a b) = accepted (type2 op (term_shape context a) (term_shape context b))
term_shape context (FixedTerm op a n m) = accepted (type_const op (term_shape context a) n m)
term_shape context (MuxTerm c a b) =
    accepted (type_mux (term_shape context c) (term_shape context a) (term_shape context b))

-- the value of an expression, if the signals have these values
abbrev pub term_value : Context → List ℕ → Term → ℕ
term_value context values (NamedTerm r) = value_named values (named context r)
term_value context values (ConstantTerm l) = value_of_literal (literal_shape l) l
term_value context values (UnaryTerm op a) =
    value_if (type1 op (term_shape context a)) (value1 op (term_shape context a) (term_value context values a))
term_value context values (BinaryTerm op a b) =
    value_if (type2 op (term_shape context a) (term_shape context b))
    (value2 op (term_shape context a) (term_value context values a) (term_shape context b) (term_value context values b))
term_value context values (FixedTerm op a n m) =
    value_if (type_const op (term_shape context a) n m) (value_const op (term_shape context a) (term_value context values a) n m)
term_value context values (MuxTerm c a b) =
    value_if (type_mux (term_shape context c) (term_shape context a) (term_shape context b))
    (value_mux (term_value context values c) (term_shape context a) (term_value context values a) (term_shape context b) (term_value context values b))

-- the expression names signal s
abbrev pub TermNames : Context → ℕ → Term → Type 0
TermNames context s (NamedTerm r) = named context r ≡ Some s
TermNames context s (ConstantTerm l) = ⊥
TermNames context s (UnaryTerm op a) = TermNames context s a
TermNames context s (BinaryTerm op a b) = TermNames context s a ⊎ TermNames context s b
TermNames context s (FixedTerm op a n m) = TermNames context s a
TermNames context s (MuxTerm c a b) =
    TermNames context s c ⊎ (TermNames context s a ⊎ TermNames context s b)

-- ---- what a sink gets

-- a value of the second shape can be connected to a sink of the first: it has the same kind, and isn't wider
abbrev pub takes : Shape → Shape → Bool
takes sink source = same_kind sink.kind source.kind && nat_le source.width sink.width

-- what a sink gets from an expression: its value, extended by its own kind
abbrev pub taken_value : Context → List ℕ → Shape → Term → ℕ
taken_value context values sink e =
    if takes sink (term_shape context e)
    then extended (term_shape context e) sink.width (term_value context values e)
    else 0

-- what a sink gets from its connection; 0 for `is invalid`, and if there is no connection
abbrev pub connected_value : Context → List ℕ → Shape → Option Connection → ℕ
connected_value context values sink None = 0
connected_value context values sink (Some Zeroed) = 0
connected_value context values sink (Some (ConnectedTo e)) = taken_value context values sink e

-- a connection names signal s
abbrev pub ConnectionNames : Context → ℕ → Option Connection → Type 0
ConnectionNames context s None = ⊥
ConnectionNames context s (Some Zeroed) = ⊥
ConnectionNames context s (Some (ConnectedTo e)) = TermNames context s e

-- the value of a condition; 0 if the expression isn't a UInt<1>
abbrev pub condition_value : Context → List ℕ → Term → ℕ
condition_value context values e =
    if is_condition (term_shape context e) then term_value context values e else 0
