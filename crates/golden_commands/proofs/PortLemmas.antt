-- The ports of a well-formed circuit: their count, names and widths.
use Rattle.std.proofs.Common.{◌≡◌, ℕ, zero, suc, ◌<◌, List, [], ◌∷◌, length, get_or, refl, sym, ap, ◌∙◌, subst, inl, inr, arith, Some}
use Rattle.std.specs.Prelude.{Option, slice_get}
use Rattle.std.specs.List.{cons_option}
use Rattle.std.proofs.lemmas.Option.{slice_get_cases, get_or_from_slice_get}
use Rattle.std.proofs.lemmas.List.{get_or-map}
use Rattle.std.proofs.lemmas.Bool.{cases_order}
use Rattle.gg_bits.specs.Shape.{Shape, shape, uint}
use Rattle.gg_flat.specs.declared.piece.Signal.{Signal}
use Rattle.gg_flat.specs.declared.piece.Driver.TheVariants.{Input}
use Rattle.gg_flat.specs.Circuit.{FlatCircuit, signal_shapes, driver_at}
use Rattle.gg_flat.specs.Line.{shape_at, value_at}
use Rattle.gg_flat.specs.WellFormed.{IsWellFormed}
use Rattle.gg_flat.specs.declared.ports.Port.{Port}
use Rattle.gg_trace.specs.Ports.{name_at, width_at}
use Rattle.gg_flat.specs.Ports.{port_with, port_at, ports_at}

module _ (circuit : FlatCircuit) where
  -- the port of a signal: its name is the signal's path, its width the signal's
  pub record IsPort (s : ℕ) : Type 0 where
    pub port : Port
    pub is : port_at circuit s ≡ Some port
    pub named : port.name ≡ get_or circuit.paths s []
    pub wide : port.ty.width ≡ (shape_at (signal_shapes circuit) s).width

  port_from : (s : ℕ) (name : List ℕ) (signal : Signal) → slice_get circuit.paths s ≡ Some name → slice_get circuit.signals s ≡ Some signal
      → s < length circuit.signals → get_or circuit.signals s signal ≡ signal → IsPort s
  port_from s name signal path at lt get =
      record {
        port = record { name = name; ty = signal.ty };
        is = ap (λ o. port_with o (slice_get circuit.signals s)) path ∙ ap (port_with (Some name)) at;
        named = sym (get_or_from_slice_get circuit.paths s name [] path);
        wide = sym (ap (λ (z : Shape). z.width) (get_or-map (λ (x : Signal). shape x.ty) circuit.signals s signal (uint 0) lt) ∙ ap (λ (x : Signal). x.ty.width) get);
      }

  pub port_of_known : length circuit.paths ≡ length circuit.signals → (s : ℕ) → s < length circuit.signals → IsPort s
  port_of_known same s lt =
      elim (slice_get_cases circuit.paths s).1 [
        | inl path ↦ elim (slice_get_cases circuit.signals s).1 [
          | inl at ↦ port_from s path.0 at.0 path.2 at.2 lt at.3
          | inr past ↦ let le = past.0 in absurd (omega arith)
        ]
        | inr past ↦ let le = past.0 in absurd (omega arith)
      ]

  -- these are the ports of these signals
  pub record AreOf (ports : List Port) (ss : List ℕ) : Type 0 where
    pub count : length ports ≡ length ss
    pub named : (i : ℕ) → i < length ss → name_at ports i ≡ get_or circuit.paths (value_at ss i) []
    pub wide : (i : ℕ) → i < length ss → width_at ports i ≡ (shape_at (signal_shapes circuit) (value_at ss i)).width

  named_more : (s : ℕ) (port : Port) (ports : List Port) (ss : List ℕ) → port.name ≡ get_or circuit.paths s []
      → AreOf ports ss → (i : ℕ) → i < length (s ∷ ss) → name_at (port ∷ ports) i ≡ get_or circuit.paths (value_at (s ∷ ss) i) []
  named_more s port ports ss is are zero lt = is
  named_more s port ports ss is are (suc i) lt = are.named i (omega arith)

  wide_more : (s : ℕ) (port : Port) (ports : List Port) (ss : List ℕ) → port.ty.width ≡ (shape_at (signal_shapes circuit) s).width
      → AreOf ports ss → (i : ℕ) → i < length (s ∷ ss) → width_at (port ∷ ports) i ≡ (shape_at (signal_shapes circuit) (value_at (s ∷ ss) i)).width
  wide_more s port ports ss is are zero lt = is
  wide_more s port ports ss is are (suc i) lt = are.wide i (omega arith)

  are_more : (s : ℕ) (port : Port) (ports : List Port) (ss : List ℕ) → port.name ≡ get_or circuit.paths s []
      → port.ty.width ≡ (shape_at (signal_shapes circuit) s).width → AreOf ports ss → AreOf (port ∷ ports) (s ∷ ss)
  are_more s port ports ss named wide are = record {
    count = ap suc are.count;
    named = named_more s port ports ss named are;
    wide = wide_more s port ports ss wide are;
  }

  pub ports_at-are : length circuit.paths ≡ length circuit.signals → (ss : List ℕ) → ((i : ℕ) → i < length ss → value_at ss i < length circuit.signals)
      → AreOf (ports_at circuit ss) ss
  ports_at-are same [] known = record { count = refl; named = λ i lt. absurd (omega arith); wide = λ i lt. absurd (omega arith) }
  ports_at-are same (s ∷ ss) known =
      let p = port_of_known same s (known 0 (omega arith)) in
      let rest = ports_at-are same ss (λ i lt. known (suc i) (omega arith)) in
      let e : p.port ∷ ports_at circuit ss ≡ ports_at circuit (s ∷ ss) = sym (ap (λ (o : Option Port). cons_option o (ports_at circuit ss)) p.is) in
      subst (λ (ports : List Port). AreOf ports (s ∷ ss)) e (are_more s p.port (ports_at circuit ss) ss p.named p.wide rest)

  module _ (formed : IsWellFormed circuit) where
    pub paths_once : (s r : ℕ) → s < length circuit.signals → r < length circuit.signals → get_or circuit.paths s [] ≡ get_or circuit.paths r [] → s ≡ r
    paths_once s r ls lr e =
        let same = formed.named in
        elim (cases_order s r) [
          | inl is ↦ is
          | inr other ↦ elim other [
            | inl below ↦ absurd (formed.distinct s r [] below (omega arith) e)
            | inr above ↦ absurd (formed.distinct r s [] above (omega arith) (sym e))
          ]
        ]

    pub ins_once : (i j : ℕ) → i < length circuit.ins → j < length circuit.ins → value_at circuit.ins i ≡ value_at circuit.ins j → i ≡ j
    ins_once i j li lj e =
        let a : driver_at circuit (value_at circuit.ins i) ≡ Input i = (formed.ins i li).1 in
        let b : driver_at circuit (value_at circuit.ins j) ≡ Input j = (formed.ins j lj).1 in
        let c : Input i ≡ Input j = sym a ∙ ap (driver_at circuit) e ∙ b in cc

    -- there are as many ports as signals, if the circuit has these signals
    pub ports-count : (signals : List ℕ) → ((i : ℕ) → i < length signals → value_at signals i < length circuit.signals) → length (ports_at circuit signals) ≡ length signals
    ports-count signals known = (ports_at-are formed.named signals known).count
