-- Shapes of 1 to 128 bits are those of types. If a circuit has no fault of types, its signals have such shapes.
use Rattle.std.proofs.Common.{◌≡◌, ℕ, zero, suc, ◌<◌, ◌≤◌, Bool, true, false, List, [], ◌∷◌, ◌++◌, length, map, Option, Some, None, IfSome, refl, sym, subst, inl, inr, ◌⊎◌, if◌then◌else◌, arith}
use Rattle.std.specs.Prelude.{filter_map, flat_map, nat_lt, option_and_then, option_map, option_to_list}
use Rattle.std.specs.List.{cons_option}
use Rattle.std.proofs.lemmas.Bool.{cases_lt}
use Rattle.std.proofs.lemmas.List.{get_or_past}
use Rattle.gg_bits.specs.declared.types.Ty.{Ty}
use Rattle.gg_bits.specs.Shape.{Shape, sint, uint}
use Rattle.gg_ast.specs.declared.module.GroundType.{GroundType}
use Rattle.gg_ast.specs.declared.module.GroundType.TheVariants.{UInt, SInt, Clock}
use Rattle.gg_ast.specs.declared.module.Port.{Port}
use Rattle.gg_ast.specs.declared.expression.Reference.TheVariants as reference
use Rattle.gg_ast.specs.declared.statement.Field.{Field}
use Rattle.gg_ast.specs.declared.statement.Stmt.{Stmt}
use Rattle.gg_ast.specs.declared.statement.StmtKind.{StmtKind}
use Rattle.gg_ast.specs.declared.statement.StmtKind.TheVariants as says
use Rattle.gg_ast.specs.declared.expression.Reference.{Reference}
use Rattle.gg_ast.specs.Tree.{CircuitTree, ModuleTree, empty_module}
use Rattle.gg_flat.specs.declared.memory.Latency.{Latency}
use Rattle.gg_elab_sites.specs.Sites.{Site}
use Rattle.gg_flat.specs.Line.{shape_at}
use Rattle.gg_shape_names.specs.Modules.{module_at}
use Rattle.gg_types.specs.declared.sort.Sort.{Sort}
use Rattle.gg_types.specs.declared.sort.Sort.TheVariants as sorts
use Rattle.gg_types.specs.Types.{is_width, sort_named, type_faults}
use Rattle.gg_types.proofs.WidthLemmas.{IsWide, address-wide, is_width-tells, sort-wide}
use Rattle.gg_elab_sites.specs.Known.{types_of, value_shape}
use Rattle.gg_elab_sites.specs.Flat.{FlatSignal, flat_signal, flat_signals, signals_at}
use Rattle.gg_types.specs.Memories.{Bank, bank_of, bank_with, first_said, type_said, type_shape}
use Rattle.gg_elab_sites.specs.Signals.{Cause, Connected, Expressed, Kept, Own, OwnStop, cause_of_port, own, own_of_kind, own_of_port, own_signals, memory_signals, own_stops, reader_signals, readers_signals, statement_signals, stop_signal, writer_signals}

abbrev pub IsSized : Shape → Type 0
IsSized s = (1 ≤ s.width) × (s.width ≤ 128)

-- the type of a shape
abbrev pub type_of : (s : Shape) → IsSized s → Ty
type_of s sized = record { kind = s.kind; width = s.width; positive = sized.0; bounded = sized.1 }

pub one-bit : IsSized (uint 1)
one-bit = (omega arith, omega arith)

width-sized : (w : ℕ) (sort : Shape) → sort.width ≡ w → (b : Bool) → is_width w ≡ b → IfSome (if b then Some sort else None) IsSized
width-sized w sort is true e = subst (λ n. (1 ≤ n) × (n ≤ 128)) (sym is) (is_width-tells w e)
width-sized w sort is false e = tt

written-sized : (ty : GroundType) → IfSome (type_shape ty) IsSized
written-sized (UInt w) = width-sized w (uint w) refl (is_width w) refl
written-sized (SInt w) = width-sized w (sint w) refl (is_width w) refl
written-sized Clock = tt

-- ---- signals of a module

abbrev AreSized : List Own → Type 0
AreSized [] = Unit {0}
AreSized (o ∷ os) = IsSized o.shape × AreSized os

sized-append : (xs ys : List Own) → AreSized xs → AreSized ys → AreSized (xs ++ ys)
sized-append [] ys h g = g
sized-append (x ∷ xs) ys h g = (h.0, sized-append xs ys h.1 g)

sized-flat : {X : Type 0} (f : X → List Own) → ((x : X) → AreSized (f x)) → (xs : List X) → AreSized (flat_map f xs)
sized-flat f h [] = tt
sized-flat f h (x ∷ xs) = sized-append (f x) (flat_map f xs) (h x) (sized-flat f h xs)

sized-option : (name : List ℕ) (cause : Cause) (o : Option Shape) → IfSome o IsSized → AreSized (option_to_list (option_map (own name cause) o))
sized-option name cause None h = tt
sized-option name cause (Some s) h = (h, tt)

option-sized : (name : List ℕ) (cause : Cause) (o : Option Shape) (rest : List Own) → IfSome o IsSized → AreSized rest → AreSized (cons_option (option_map (own name cause) o) rest)
option-sized name cause None rest h g = g
option-sized name cause (Some s) rest h g = (h, g)

ports-sized : (ports : List Port) → AreSized (filter_map own_of_port ports)
ports-sized [] = tt
ports-sized (p ∷ ps) = option-sized p.name (cause_of_port p.direction) (type_shape p.ty) (filter_map own_of_port ps) (written-sized p.ty) (ports-sized ps)

-- ---- memories

abbrev pub WordSized : Bank → Type 0
WordSized bank = IsSized bank.word

abbrev bank_made : Shape → ℕ → Latency → List (List ℕ) → List (List ℕ) → Bank
bank_made word depth latency readers writers = record { word = word; depth = depth; latency = latency; readers = readers; writers = writers }

with-sized : (word : Option Shape) (depth : ℕ) (latency : Option Latency) (readers writers : List (List ℕ)) → IfSome word IsSized → IfSome (bank_with word depth latency readers writers) WordSized
with-sized None depth latency readers writers h = tt
with-sized (Some word) depth None readers writers h = tt
with-sized (Some word) depth (Some latency) readers writers h = go (nat_lt 0 depth)
  where
    go : (b : Bool) → IfSome (if b then Some (bank_made word depth latency readers writers) else None) WordSized
    go true = h
    go false = tt

then-sized : (o : Option GroundType) → IfSome (option_and_then type_shape o) IsSized
then-sized None = tt
then-sized (Some ty) = written-sized ty

pub bank-sized : (fields : List Field) → IfSome (bank_of fields) WordSized
bank-sized fields = with-sized (option_and_then type_shape (first_said type_said fields)) _ _ _ _ (then-sized (first_said type_said fields))

reader-sized : (memory : List ℕ) (bank : Bank) (place : ℕ) (port : List ℕ) → IsSized bank.word → AreSized (reader_signals memory bank place port)
reader-sized memory bank place port h = (address-wide bank.depth, (one-bit, (h, tt)))

readers-sized : (memory : List ℕ) (bank : Bank) (place : ℕ) (ports : List (List ℕ)) → IsSized bank.word → AreSized (readers_signals memory bank place ports)
readers-sized memory bank place [] h = tt
readers-sized memory bank place (port ∷ ports) h =
    sized-append (reader_signals memory bank place port) (readers_signals memory bank (suc place) ports) (reader-sized memory bank place port h) (readers-sized memory bank (suc place) ports h)

memory-sized : (memory : List ℕ) (o : Option Bank) → IfSome o WordSized → AreSized (memory_signals memory o)
memory-sized memory None h = tt
memory-sized memory (Some bank) h =
    sized-append (readers_signals memory bank 0 bank.readers) (flat_map (writer_signals memory bank) bank.writers) (readers-sized memory bank 0 bank.readers h)
    (sized-flat (writer_signals memory bank) (λ port. (address-wide bank.depth, (one-bit, (h, (one-bit, tt))))) bank.writers)

-- ---- signals of a circuit

abbrev pub AreFlatSized : List FlatSignal → Type 0
AreFlatSized [] = Unit {0}
AreFlatSized (x ∷ xs) = IsSized x.shape × AreFlatSized xs

flat-append : (xs ys : List FlatSignal) → AreFlatSized xs → AreFlatSized ys → AreFlatSized (xs ++ ys)
flat-append [] ys h g = g
flat-append (x ∷ xs) ys h g = (h.0, flat-append xs ys h.1 g)

-- the shape at a place
pub shape-sized : (xs : List FlatSignal) → AreFlatSized xs → (s : ℕ) → s < length xs → IsSized (shape_at (map (λ (x : FlatSignal). x.shape) xs) s)
shape-sized [] h s lt = absurd (omega (arith, lt))
shape-sized (x ∷ xs) h zero lt = h.0
shape-sized (x ∷ xs) h (suc s) lt = shape-sized xs h.1 s (omega (arith, lt))

-- ---- names

value-sized : (o : Option Sort) → IfSome o IsWide → IfSome (value_shape o) IsSized
value-sized None h = tt
value-sized (Some (sorts.Bits kind width)) h = h
value-sized (Some sorts.Clock) h = tt

module _ (circuit : CircuitTree) (faultless : type_faults circuit ≡ []) where
  pub named-sized : (k : ℕ) → k < length circuit.modules → (r : Reference) → IfSome (types_of circuit k r) IsSized
  unfolding types_of
  named-sized k lt r = value-sized (sort_named circuit.modules (module_at circuit.modules k) r) (sort-wide circuit faultless k lt r)

  kind-sized : (k : ℕ) → k < length circuit.modules → (kind : StmtKind) → AreSized (own_of_kind (types_of circuit) k kind)
  kind-sized k lt (says.Wire name ty) = sized-option name Connected (type_shape ty) (written-sized ty)
  kind-sized k lt (says.Node name value) = sized-option name (Expressed value) (types_of circuit k (reference.Local name)) (named-sized k lt (reference.Local name))
  kind-sized k lt (says.Register name ty clock reset) = sized-option name (Kept clock reset) (type_shape ty) (written-sized ty)
  kind-sized k lt (says.Instance name m) = tt
  kind-sized k lt (says.Memory name fields) = memory-sized name (bank_of fields) (bank-sized fields)
  kind-sized k lt (says.Connect sink source) = tt
  kind-sized k lt (says.Invalid sink) = tt
  kind-sized k lt says.Skip = tt
  kind-sized k lt (says.Stop clock condition code label) = tt
  kind-sized k lt (says.Report word arguments label) = tt

  stops-sized : (stops : List OwnStop) → AreSized (map stop_signal stops)
  stops-sized [] = tt
  stops-sized (stop ∷ stops) = (one-bit, stops-sized stops)

  own-sized : (k : ℕ) → k < length circuit.modules → (m : ModuleTree) → AreSized (own_signals (types_of circuit) k m)
  own-sized k lt m =
      sized-append (filter_map own_of_port m.ports) (statement_signals (types_of circuit) k m.statements) (ports-sized m.ports)
      (sized-append (flat_map (λ (s : Stmt). own_of_kind (types_of circuit) k s.kind) m.statements) (map stop_signal (own_stops m.statements))
      (sized-flat (λ (s : Stmt). own_of_kind (types_of circuit) k s.kind) (λ s. kind-sized k lt s.kind) m.statements) (stops-sized (own_stops m.statements)))

  -- ---- signals of the circuit

  made-sized : (site : Site) (os : List Own) → AreSized os → AreFlatSized (map (flat_signal circuit.modules site) os)
  made-sized site [] h = tt
  made-sized site (o ∷ os) h = (h.0, made-sized site os h.1)

  -- the module past the end has no signals
  site-sized : (site : Site) → AreFlatSized (signals_at (types_of circuit) circuit.modules site)
  site-sized site = go (cases_lt site.number (length circuit.modules))
    where
      go : (site.number < length circuit.modules) ⊎ (length circuit.modules ≤ site.number) → AreFlatSized (signals_at (types_of circuit) circuit.modules site)
      go (inl lt) = made-sized site (own_signals (types_of circuit) site.number (module_at circuit.modules site.number)) (own-sized site.number lt (module_at circuit.modules site.number))
      go (inr ge) =
          subst (λ (m : ModuleTree). AreFlatSized (map (flat_signal circuit.modules site) (own_signals (types_of circuit) site.number m))) (sym (get_or_past circuit.modules site.number (empty_module 0 []) ge)) tt

  pub signals-sized : (sites : List Site) → AreFlatSized (flat_signals (types_of circuit) circuit.modules sites)
  signals-sized [] = tt
  signals-sized (site ∷ sites) =
      flat-append (signals_at (types_of circuit) circuit.modules site) (flat_signals (types_of circuit) circuit.modules sites) (site-sized site) (signals-sized sites)
