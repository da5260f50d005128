-- Parts of circuits by hand, and lines that refer to one signal.
use Rattle.std.proofs.Common.{◌≡◌, ℕ, zero, suc, ◌<◌, ◌≤◌, List, [], ◌∷◌, Bool, true, Option, Some, refl, sym, ap, ◌∙◌, subst, arith, lit≤, if◌then◌else◌}
use Rattle.std.specs.Prelude.{slice_index_or, ◌↔◌}
use Rattle.gg_bits.specs.declared.types.Kind.{Kind}
use Rattle.gg_bits.specs.declared.types.Ty.{Ty}
use Rattle.gg_bits.specs.declared.types.Val.{Val}
use Rattle.gg_bits.specs.Meaning.{extended}
use Rattle.gg_bits.specs.Shape.{Shape, shape}
use Rattle.gg_ast.specs.declared.expression.Reference.{Reference}
use Rattle.gg_ast.specs.declared.module.Direction.{Direction}
use Rattle.gg_ast.specs.declared.module.GroundType.{GroundType}
use Rattle.gg_ast.specs.declared.module.Port.{Port}
use Rattle.gg_ast.specs.declared.statement.Field.{Field}
use Rattle.gg_ast.specs.declared.statement.MemoryField.{MemoryField}
use Rattle.gg_ast.specs.declared.statement.Stmt.{Stmt}
use Rattle.gg_ast.specs.declared.statement.StmtKind.{StmtKind}
use Rattle.gg_ast.specs.Term.{NamedTerm}
use Rattle.gg_flat.specs.declared.line.Node.{Node}
use Rattle.gg_flat.specs.declared.line.Op.{Op}
use Rattle.gg_flat.specs.declared.line.Op.TheVariants.{Ref, Literal}
use Rattle.gg_flat.specs.declared.piece.Driver.{Driver}
use Rattle.gg_flat.specs.declared.piece.Driver.TheVariants.{Computed}
use Rattle.gg_flat.specs.declared.piece.Signal.{Signal}
use Rattle.gg_flat.specs.Line.{shape_at, value_at, op_value}
use Rattle.gg_flat.specs.Reads.{Names}
use Rattle.gg_elab_sites.specs.Connection.{ConnectedTo}
use Rattle.gg_elab_sites.specs.IsFlat.{IsLineFor, IsComputed}
use Rattle.gg_elab_sites.specs.Meaning.{Context, named, shape_named, value_named, takes}

-- ---- parts of the text

abbrev pub on : ℕ → StmtKind → Stmt
on line kind = record { line = line; kind = kind }

abbrev pub port : ℕ → List ℕ → Direction → GroundType → Port
port line name direction ty = record { line = line; name = name; direction = direction; ty = ty }

abbrev pub field : ℕ → MemoryField → Field
field line kind = record { line = line; kind = kind }

-- ---- parts of the flat circuit

abbrev pub ty_of : (kind : Kind) (w : ℕ) → 1 ≤ w → w ≤ 128 → Ty
ty_of kind w positive bounded = record { kind = kind; width = w; positive = positive; bounded = bounded }

abbrev pub node : Ty → Op → Node
node ty op = record { ty = ty; op = op }

abbrev pub value : ℕ → Val
value n = record { 0 = n }

abbrev pub signal : Ty → Driver → Signal
signal ty driver = record { ty = ty; driver = driver }

-- a signal that is driven by another of the same type
abbrev pub follows : Ty → ℕ → Signal
follows ty s = signal ty (Computed (node ty (Ref s) ∷ []))

-- ---- facts about each number below another

abbrev pub AllBelow : ℕ → (ℕ → Type 0) → Type 0
AllBelow zero P = Unit {0}
AllBelow (suc n) P = P zero × AllBelow n (λ k. P (suc k))

pub each_below : (n : ℕ) (P : ℕ → Type 0) → AllBelow n P → (k : ℕ) → k < n → P k
each_below zero P h k lt = absurd (omega (arith, lt))
each_below (suc n) P h zero lt = h.0
each_below (suc n) P h (suc k) lt = each_below n (λ j. P (suc j)) h.1 k (omega (arith, lt))

-- ---- a line that refers to one signal

named_one : (n : Node) (p s : ℕ) → n.op ≡ Ref p → (k : ℕ) → k < 1 → slice_index_or (n.op ∷ []) k (Ref s) ≡ Ref s → p ≡ s
named_one n p s does zero lt e = cc
named_one n p s does (suc k) lt e = absurd (omega arith)

pub names_one : (n : Node) (p s : ℕ) → n.op ≡ Ref p → Names (n ∷ []) s ↔ (p ≡ s)
names_one n p s does = (λ h. named_one n p s does h.0 h.1 h.2, λ e. (zero, lit≤ tt, does ∙ ap Ref e))

-- The node refers to signal p, which the reference names. The signal has the node's type and can be connected to the sink.
pub record IsNamed (context : Context) (sink : Shape) (r : Reference) (n : Node) (p : ℕ) : Type 0 where
  pub does : n.op ≡ Ref p
  pub names : named context r ≡ Some p
  pub typed : shape_at context.bindings.signals.shapes p ≡ shape n.ty
  pub fits : takes sink (shape n.ty) ≡ true

pub line_of_name : (context : Context) (sink : Shape) (r : Reference) (n : Node) (p : ℕ) → IsNamed context sink r n p → IsLineFor context sink (Some (ConnectedTo (NamedTerm r))) (n ∷ [])
line_of_name context sink r n p h = record {
  value = λ values.
      ap (λ (o : Op). extended (shape n.ty) sink.width (op_value values (shape n.ty ∷ []) [] o)) h.does
      ∙ sym (ap (λ (b : Bool). if b then extended (shape n.ty) sink.width (value_at values p) else 0) h.fits)
      ∙ sym (ap (λ (s : Shape). if takes sink s then extended s sink.width (value_at values p) else 0) h.typed)
      ∙ sym (ap (λ (o : Option ℕ). if takes sink (shape_named context.bindings.signals o) then extended (shape_named context.bindings.signals o) sink.width (value_named values o) else 0) h.names);
  names = λ s. (
    λ k. h.names ∙ ap Some ((names_one n p s h.does).0 k),
    λ k. (names_one n p s h.does).1 (let a = h.names in cc),
  );
  nodes = rw (h.names, h.typed, h.fits, h.does) refl;
}

-- a line of that node computes the connection to the reference
pub gets_name : (context : Context) (sink : Shape) (r : Reference) (n : Node) (p : ℕ) → IsNamed context sink r n p → IsComputed context sink (Some (ConnectedTo (NamedTerm r))) (Computed (n ∷ []))
gets_name context sink r n p h = record { line = n ∷ []; computed = refl; stands = line_of_name context sink r n p h }

-- if a line of one reference computes the connection, it refers to the signal that is named
pub named_other : (context : Context) (sink : Shape) (r : Reference) (n : Node) (p q : ℕ) → n.op ≡ Ref p → named context r ≡ Some q → IsComputed context sink (Some (ConnectedTo (NamedTerm r))) (Computed (n ∷ [])) → q ≡ p
named_other context sink r n p q does names h =
    let same : n ∷ [] ≡ h.line = let e = h.computed in cc in
    let found : named context r ≡ Some p =
    (h.stands.names p).0 (subst (λ (l : List Node). Names l p) same ((names_one n p p does).1 refl)) in
    cc

-- a node of a literal refers to no signal
pub zero_names : (s k : ℕ) → k < 1 → slice_index_or (Literal (value 0) ∷ []) k (Ref s) ≡ Ref s → ⊥
zero_names s zero lt e = cc
zero_names s (suc k) lt e = omega arith
