-- A circuit by hand, and its flat circuit:
--
--      1  circuit Counter :
--      2    module Counter :
--      3      input clock : Clock
--      4      input reset : UInt<1>
--      5      output out : UInt<8>
--      6      reg count : UInt<4>, clock with :
--      7        reset => (reset, UInt<4>("h0"))
--      8      node sum = add(count, UInt<1>("h1"))
--      9      count <= tail(sum, 1)
--     10      out <= count
use Rattle.std.proofs.Common.{◌≡◌, ℕ, zero, suc, ◌<◌, List, [], ◌∷◌, false, Some, None, codes, map, refl, ap, arith, lit≤, inl, inr}
use Rattle.std.specs.Prelude.{slice_index_or}
use Rattle.gg_bits.specs.declared.ops.Op2.TheVariants.{Add}
use Rattle.gg_bits.specs.declared.ops.OpN.TheVariants.{Tail}
use Rattle.gg_bits.specs.declared.types.Kind.TheVariants as kinds
use Rattle.gg_bits.specs.declared.types.Ty.{Ty}
use Rattle.gg_bits.specs.Shape.{shape, uint}
use Rattle.gg_ast.specs.declared.expression.Radix.TheVariants.{Hexadecimal}
use Rattle.gg_ast.specs.declared.expression.Reference.TheVariants.{Local}
use Rattle.gg_ast.specs.declared.module.Direction.TheVariants as direction
use Rattle.gg_ast.specs.declared.module.GroundType.TheVariants as types
use Rattle.gg_ast.specs.declared.statement.Reset as given
use Rattle.gg_ast.specs.declared.statement.StmtKind.TheVariants as says
use Rattle.gg_ast.specs.Term.{Term, NamedTerm, ConstantTerm, BinaryTerm, FixedTerm}
use Rattle.gg_ast.specs.Tree.{ModuleTree, CircuitTree}
use Rattle.gg_flat.specs.declared.line.Node.{Node}
use Rattle.gg_flat.specs.declared.line.Op.{Op}
use Rattle.gg_flat.specs.declared.line.Op.TheVariants as does
use Rattle.gg_flat.specs.declared.piece.Driver.TheVariants.{Input, Held, Computed}
use Rattle.gg_flat.specs.declared.piece.Register.{Register}
use Rattle.gg_flat.specs.Circuit.{FlatCircuit}
use Rattle.gg_flat.specs.Line.{connected_value as line_connected}
use Rattle.gg_elab_sites.specs.Sites.{sites_of}
use Rattle.gg_types.specs.Literal.{digit}
use Rattle.gg_elab_sites.specs.Connection.{ConnectedTo}
use Rattle.gg_elab_sites.specs.Flat.{FlatSignal, flat_signals}
use Rattle.gg_elab_sites.specs.IsFlat.{IsLineFor, IsLineOf, IsConditionOf, IsRegisterOf, IsDriven, IsFlat, signals_of}
use Rattle.gg_elab_sites.specs.Known.{types_of}
use Rattle.gg_elab_sites.specs.Lines.{Laid}
use Rattle.gg_elab_sites.specs.Meaning.{Signals, Bindings, Context, in_scope}
use Rattle.gg_elab_sites.proofs.WorkedParts.{on, port, ty_of, node, value, signal, AllBelow, each_below, names_one, gets_name, zero_names}

-- ---- the circuit

abbrev name_of : List ℕ → Term
name_of n = NamedTerm (Local n)

abbrev literal_of : ℕ → List ℕ → Term
literal_of width digits = ConstantTerm (record { kind = kinds.UInt; width = width; radix = Hexadecimal; negative = false; digits = digits })

abbrev reset : given.Reset
reset = record { line = 7; condition = name_of (codes "reset"); init = literal_of 4 (codes "0") }

abbrev sum : Term
sum = BinaryTerm Add (name_of (codes "count")) (literal_of 1 (codes "1"))

abbrev next : Term
next = FixedTerm Tail (name_of (codes "sum")) 1 0

abbrev counter : ModuleTree
counter =
    record {
      line = 2;
      name = codes "Counter";
      ports =
          port 3 (codes "clock") direction.Input types.Clock
          ∷ port 4 (codes "reset") direction.Input (types.UInt 1)
          ∷ port 5 (codes "out") direction.Output (types.UInt 8)
          ∷ [];
      statements =
          on 6 (says.Register (codes "count") (types.UInt 4) (name_of (codes "clock")) (Some reset))
          ∷ on 8 (says.Node (codes "sum") sum)
          ∷ on 9 (says.Connect (Local (codes "count")) next)
          ∷ on 10 (says.Connect (Local (codes "out")) (name_of (codes "count")))
          ∷ [];
    }

abbrev circuit : CircuitTree
circuit = record { line = 1; name = codes "Counter"; modules = counter ∷ [] }

-- ---- its flat circuit

abbrev one : Ty
one = ty_of kinds.UInt 1 (lit≤ tt) (lit≤ tt)

abbrev four : Ty
four = ty_of kinds.UInt 4 (lit≤ tt) (lit≤ tt)

abbrev five : Ty
five = ty_of kinds.UInt 5 (lit≤ tt) (lit≤ tt)

abbrev eight : Ty
eight = ty_of kinds.UInt 8 (lit≤ tt) (lit≤ tt)

abbrev paths : List (List ℕ)
paths = codes "reset" ∷ codes "out" ∷ codes "count" ∷ codes "sum" ∷ []

abbrev sum_line : List Node
sum_line = node four (does.Ref 2) ∷ node one (does.Literal (value 1)) ∷ node five (does.Two Add 0 1) ∷ []

abbrev next_line : List Node
next_line = node five (does.Ref 3) ∷ node four (does.Fix Tail 0 1 0) ∷ []

abbrev register : Register
register =
    record {
      ty = four;
      reset = Some (record { condition = node one (does.Ref 0) ∷ []; init = node four (does.Literal (value 0)) ∷ [] });
      next = Some next_line;
      clock = Some 0;
    }

abbrev flat_with : List Register → FlatCircuit
flat_with registers =
    record {
      paths = paths;
      signals =
          signal one (Input 0)
          ∷ signal eight (Computed (node four (does.Ref 2) ∷ []))
          ∷ signal four (Held 0)
          ∷ signal five (Computed sum_line)
          ∷ [];
      registers = registers;
      memories = [];
      ins = 0 ∷ [];
      outs = 1 ∷ [];
      clocks = 1;
    }

abbrev flat : FlatCircuit
flat = flat_with (register ∷ [])

-- ---- what the circuit says

abbrev all : List FlatSignal
all = flat_signals (types_of circuit) circuit.modules (sites_of circuit)

abbrev listed : Signals
listed = record { paths = paths; shapes = uint 1 ∷ uint 8 ∷ uint 4 ∷ uint 5 ∷ [] }

-- the signals are those of the module without its clock, and the node has the type of its expression
signals : signals_of all ≡ listed
unfolding types_of digit
signals = refl

abbrev bound : Bindings
bound = record { types = types_of circuit; signals = listed; memories = [] }

abbrev here : Context
here = in_scope bound (record { path = []; number = 0 })

-- ---- lines

sum_names : (s k : ℕ) → k < 3 → slice_index_or (does.Ref 2 ∷ does.Literal (value 1) ∷ does.Two Add 0 1 ∷ []) k (does.Ref s) ≡ does.Ref s → 2 ≡ s
sum_names s zero lt e = cc
sum_names s (suc zero) lt e = absurd (cc)
sum_names s (suc (suc zero)) lt e = absurd (cc)
sum_names s (suc (suc (suc k))) lt e = absurd (omega arith)

next_names : (s k : ℕ) → k < 2 → slice_index_or (does.Ref 3 ∷ does.Fix Tail 0 1 0 ∷ []) k (does.Ref s) ≡ does.Ref s → 3 ≡ s
next_names s zero lt e = cc
next_names s (suc zero) lt e = absurd (cc)
next_names s (suc (suc k)) lt e = absurd (omega arith)

sum_is : IsLineFor here (shape five) (Some (ConnectedTo sum)) sum_line
unfolding types_of digit
sum_is = record {
  value = λ values. refl;
  names = λ s. (
    λ h. inl (ap Some (sum_names s h.0 h.1 h.2)),
    λ h. elim h [ inl found ↦ (zero, lit≤ tt, ap does.Ref (cc)) | inr none ↦ absurd none ],
  );
  nodes = refl;
}

next_is : IsLineFor here (shape four) (Some (ConnectedTo next)) next_line
unfolding types_of digit
next_is = record {
  value = λ values. refl;
  names = λ s. (λ h. ap Some (next_names s h.0 h.1 h.2), λ h. (zero, lit≤ tt, ap does.Ref (cc)));
  nodes = refl;
}

-- with the operands in the other order it is no line of the sum, though it has the same values
abbrev turned_line : List Node
turned_line = node one (does.Literal (value 1)) ∷ node four (does.Ref 2) ∷ node five (does.Two Add 1 0) ∷ []

turned_value : (values : List ℕ) → line_connected values (shape five) turned_line ≡ line_connected values (shape five) sum_line
turned_value values = refl

-- the place of a node's first operand
abbrev first_operand : Op → ℕ
first_operand (does.Ref s) = s
first_operand (does.Literal v) = 0
first_operand (does.One op i) = i
first_operand (does.Two op i j) = i
first_operand (does.Fix op i n m) = i
first_operand (does.Mux c i j) = c

-- the first operand of a line's third node
abbrev third_first : List Laid → ℕ
third_first line = first_operand (slice_index_or (map (λ (l : Laid). l.op) line) 2 (does.Ref 0))

turned_isnt : IsLineFor here (shape five) (Some (ConnectedTo sum)) turned_line → ⊥
unfolding types_of digit
turned_isnt h = let same : 1 ≡ 0 = ap third_first h.nodes in omega (arith, same)

-- nor is it with the places of its operands exchanged
exchanged_isnt : IsLineFor here (shape five) (Some (ConnectedTo sum)) (node four (does.Ref 2) ∷ node one (does.Literal (value 1)) ∷ node five (does.Two Add 1 0) ∷ []) → ⊥
unfolding types_of digit
exchanged_isnt h = let same : 1 ≡ 0 = ap third_first h.nodes in omega (arith, same)

init_is : IsLineOf here (shape four) (literal_of 4 (codes "0")) (node four (does.Literal (value 0)) ∷ [])
unfolding types_of digit
init_is = record {
  value = λ values. refl;
  names = λ s. (λ h. zero_names s h.0 h.1 h.2, λ h. absurd h);
  nodes = refl;
}

condition_is : IsConditionOf here (name_of (codes "reset")) (node one (does.Ref 0) ∷ [])
unfolding types_of
condition_is = record {
  value = λ values. refl;
  names = λ s. (
    λ h. ap Some ((names_one (node one (does.Ref 0)) 0 s refl).0 h),
    λ h. (names_one (node one (does.Ref 0)) 0 s refl).1 (cc),
  );
  nodes = refl;
}

register_is : IsRegisterOf here (shape four) (Some reset) (Some (ConnectedTo next)) (Some 0) register
register_is = record { typed = refl; reset_is = (condition_is, init_is); next_is = next_is; clocked = refl }

-- ---- rows

abbrev IsDrivenAt : ℕ → Type 0
IsDrivenAt s = IsDriven bound all flat s

all_driven : AllBelow 4 IsDrivenAt
unfolding types_of digit
all_driven = (
  refl,
  (
    gets_name here (shape eight) (Local (codes "count")) (node four (does.Ref 2)) 2 (record { does = refl; names = refl; typed = refl; fits = refl }),
    (
      record { held = refl; within = lit≤ tt; register = λ any. register_is },
      (record { line = sum_line; computed = refl; stands = sum_is }, tt),
    ),
  ),
)

-- `flat` is a flat circuit of the circuit
right : IsFlat circuit flat
unfolding types_of digit
right = record {
  paths = refl;
  shapes = refl;
  drivers = λ s lt. each_below 4 IsDrivenAt all_driven s lt;
  register_count = refl;
  memory_count = refl;
  memories = λ m said any lt. absurd (omega (arith, lt));
  ins = refl;
  outs = refl;
  clocks = refl;
}

-- without the register's connection it isn't
unconnected : IsFlat circuit (flat_with (record register { next = None } ∷ [])) → ⊥
unfolding types_of digit
unconnected h = ((h.drivers 2 (lit≤ tt)).register register).next_is

-- with a register that no signal holds it isn't
one_too_many : IsFlat circuit (flat_with (register ∷ register ∷ [])) → ⊥
unfolding types_of digit
one_too_many h = let counted : 2 ≡ 1 = h.register_count in omega (arith, counted)
