-- What a channel of a plan needs is what it needs in the circuit.
use Rattle.std.proofs.Common.{◌≡◌, ℕ, zero, suc, ◌<◌, List, [], ◌∷◌, length, map, refl, sym, ◌∙◌, ap, subst, inl, inr, ◌⊎◌, arith, Option}
use Rattle.std.specs.Prelude.{Contains}
use Rattle.gg_flat.specs.declared.line.Node.{Node}
use Rattle.gg_flat.specs.declared.line.Op.{Op}
use Rattle.gg_flat.specs.declared.line.Op.TheVariants.{Ref, Literal, One, Two, Fix, Mux}
use Rattle.gg_flat.specs.declared.piece.Driver.{Driver}
use Rattle.gg_flat.specs.declared.piece.Driver.TheVariants.{Input, Held, MemoryWord, ReadRegister, Computed}
use Rattle.gg_flat.specs.Line.{value_at}
use Rattle.gg_flat.specs.Circuit.{FlatCircuit, driver_at}
use Rattle.gg_flat.specs.Reads.{Names, NamesSignal, Reads, IsPath}
use Rattle.gg_part.specs.Part.{IsPart, IsFrom}
use Rattle.gg_part.proofs.AlongLemmas.{named-in}
use Rattle.gg_cut_reference.specs.text.CheckText.{IsPathInside}
use Rattle.gg_flat.specs.Renaming.{renamed_line, renamed_op}

-- ---- what a driver of the whole names, the part's driver names

op-back : (globals : List ℕ) (op : Op) (t : ℕ) → renamed_op (value_at globals) op ≡ Ref t → (s : ℕ) × (op ≡ Ref s) × (value_at globals s ≡ t)
op-back globals (Ref s) t e = (s, refl, cc)
op-back globals (Literal value) t e = absurd (cc)
op-back globals (One op i) t e = absurd (cc)
op-back globals (Two op i j) t e = absurd (cc)
op-back globals (Fix op i n m) t e = absurd (cc)
op-back globals (Mux c i j) t e = absurd (cc)

Names-back : (globals : List ℕ) (line : List Node) (t : ℕ) → Names (renamed_line (value_at globals) line) t → (s : ℕ) × Names line s × (value_at globals s ≡ t)
Names-back globals [] t named = absurd (omega (arith, named.1))
Names-back globals (node ∷ nodes) t (zero, lt, is) =
    let found = op-back globals node.op t is in
    (found.0, (zero, omega arith, found.1), found.2)
Names-back globals (node ∷ nodes) t (suc k, lt, is) =
    let rest = Names-back globals nodes t (k, omega (arith, lt), is) in
    (rest.0, (suc rest.1.0, omega (arith, rest.1.1), rest.1.2), rest.2)

-- the part has a signal that stands for signal t of the whole, and the driver names it
record IsNamedAs (globals : List ℕ) (driver : Driver) (t : ℕ) : Type 0 where
  pub place : ℕ
  pub within : place < length globals
  pub is : value_at globals place ≡ t
  pub named : NamesSignal driver place

-- the driver isn't an in-signal's
abbrev NotInput : Driver → Type 0
NotInput driver = (place : ℕ) → driver ≡ Input place → ⊥

word-back : (globals : List ℕ) (m r addr en t : ℕ) → addr < length globals → en < length globals → (value_at globals addr ≡ t) ⊎ (value_at globals en ≡ t) → IsNamedAs globals (MemoryWord m r addr en) t
word-back globals m r addr en t la le (inl is) = record { place = addr; within = la; is = is; named = inl refl }
word-back globals m r addr en t la le (inr is) = record { place = en; within = le; is = is; named = inr refl }

named-out : (ins globals held memories : List ℕ) (a t : ℕ) (whole part : Driver) → IsFrom ins globals held memories a whole part → NotInput part → NamesSignal whole t → IsNamedAs globals part t
named-out ins globals held memories a t whole (Input place) from other named = absurd (other place refl)
named-out ins globals held memories a t whole (Held register) from other named = absurd (subst (λ d. NamesSignal d t) from.1 named)
named-out ins globals held memories a t whole (MemoryWord m r addr en) from other named =
    word-back globals m r addr en t from.1 from.2 (subst (λ d. NamesSignal d t) from.3 named)
named-out ins globals held memories a t whole (ReadRegister m r) from other named = absurd (subst (λ d. NamesSignal d t) from.1 named)
named-out ins globals held memories a t whole (Computed line) from other named =
    let found = Names-back globals line t (subst (λ d. NamesSignal d t) from.1 named) in
    record { place = found.0; within = from.0 found.0 found.1; is = found.2; named = found.1 }

-- ---- paths

-- the in-signals of the part stand for exactly these signals of the whole
pub record Gets (part : FlatCircuit) (globals taken : List ℕ) : Type 0 where
  pub not_taken : (a place : ℕ) → a < length globals → (Contains taken (value_at globals a) → ⊥) → driver_at part a ≡ Input place → ⊥
  pub input : (a : ℕ) → a < length globals → Contains taken (value_at globals a) → (place : ℕ) × (driver_at part a ≡ Input place)

module _ (whole part : FlatCircuit) (globals held memories taken : List ℕ) (clocks : List (Option ℕ)) (is : IsPart whole part globals held memories clocks) (gets : Gets part globals taken) where
  input-reads : (a b place : ℕ) → driver_at part a ≡ Input place → Reads part a b → ⊥
  input-reads a b place e reads = subst (λ d. NamesSignal d b) e reads.names

  step-out : (a b : ℕ) → Reads part a b → (a < length globals) × (b < length globals) × (Contains taken (value_at globals a) → ⊥) × Reads whole (value_at globals a) (value_at globals b)
  step-out a b reads =
      let known : a < length globals = omega (arith, reads.signal, is.count) in
      let at = named-in part.ins globals held memories a b (driver_at whole (value_at globals a)) (driver_at part a) (is.drivers a known) reads.names in
      (known, at.within, (λ t. let p = gets.input a known t in input-reads a b p.0 p.1 reads), record { signal = is.within a known; names = at.named })

  -- a path of the part is one of the whole inside it
  pub path-out : (a b : ℕ) (path : List ℕ) → IsPath part a path b → IsPathInside whole taken (value_at globals a) (map (value_at globals) path) (value_at globals b)
  path-out a b [] same = ap (value_at globals) same
  path-out a b (next ∷ path) reads =
      let step = step-out a next reads.0 in
      (step.2, step.3, path-out next b path reads.1)

  -- a path of the part from signal a to the one that stands for signal t of the whole
  pub record IsBack (a t : ℕ) : Type 0 where
    pub path : List ℕ
    pub place : ℕ
    pub within : place < length globals
    pub same : value_at globals place ≡ t
    pub reads : IsPath part a path place

  back-more : (a next t : ℕ) → Reads part a next → IsBack next t → IsBack a t
  back-more a next t reads back = record { path = next ∷ back.path; place = back.place; within = back.within; same = back.same; reads = (reads, back.reads) }

  pub path-back : (a s t : ℕ) (path : List ℕ) → a < length globals → value_at globals a ≡ s → IsPathInside whole taken s path t → IsBack a t
  path-back a s t [] known e same = record { path = []; place = a; within = known; same = e ∙ same; reads = refl }
  path-back a s t (next ∷ path) known e reads =
      let free : Contains taken (value_at globals a) → ⊥ = λ c. reads.0 (subst (λ x. Contains taken x) e c) in
      let named : NamesSignal (driver_at whole (value_at globals a)) next = subst (λ x. NamesSignal (driver_at whole x) next) (sym e) reads.1.names in
      let at = named-out part.ins globals held memories a next (driver_at whole (value_at globals a)) (driver_at part a) (is.drivers a known) (λ place input. gets.not_taken a place known free input) named in
      back-more a at.place t (record { signal = omega (arith, known, is.count); names = at.named }) (path-back at.place next t path at.within at.is reads.2)
