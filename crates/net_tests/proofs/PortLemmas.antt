-- The ports of the inputs of a well-formed circuit: their count, names and widths. golden has the same lemmas, and stands above this crate.
use Rattle.std.proofs.Common.{◌≡◌, ℕ, zero, suc, ◌<◌, ◌^◌, List, [], ◌∷◌, length, get_or, refl, sym, ap, ◌∙◌, subst, inl, inr, arith, Some}
use Rattle.std.specs.Prelude.{Option, slice_get, slice_index, slice_index_or}
use Rattle.std.specs.List.{cons_option}
use Rattle.std.proofs.lemmas.Option.{slice_get_cases, get_or_from_slice_get}
use Rattle.std.proofs.lemmas.List.{get_or-map, get_or_default, length-map}
use Rattle.std.proofs.lemmas.Bool.{cases_order}
use Rattle.gg_bits.specs.Shape.{Shape, shape, uint}
use Rattle.gg_flat.specs.declared.piece.Signal.{Signal}
use Rattle.gg_flat.specs.declared.piece.Driver.TheVariants.{Input}
use Rattle.gg_flat.specs.Circuit.{FlatCircuit, signal_shapes, driver_at}
use Rattle.gg_flat.specs.Line.{shape_at, value_at}
use Rattle.gg_flat.specs.Run.{IsColumns}
use Rattle.gg_flat.specs.Settled.{IsInputs, in_shapes}
use Rattle.gg_flat.specs.WellFormed.{IsWellFormed}
use Rattle.gg_flat.specs.declared.ports.Port.{Port}
use Rattle.gg_trace.specs.Ports.{name_at, width_at, HasDistinctNames}
use Rattle.gg_trace.specs.Table.{row_of}
use Rattle.gg_trace.specs.Trace.{Columns, HaveWidths}
use Rattle.gg_flat.specs.Ports.{port_with, port_at, ports_at, in_ports}

module _ (circuit : FlatCircuit) where
  -- the port of a signal: its name is the signal's path, its width the signal's
  record IsPort (s : ℕ) : Type 0 where
    pub port : Port
    pub is : port_at circuit s ≡ Some port
    pub named : port.name ≡ get_or circuit.paths s []
    pub wide : port.ty.width ≡ (shape_at (signal_shapes circuit) s).width

  port_from : (s : ℕ) (name : List ℕ) (signal : Signal) → slice_get circuit.paths s ≡ Some name → slice_get circuit.signals s ≡ Some signal
      → s < length circuit.signals → get_or circuit.signals s signal ≡ signal → IsPort s
  port_from s name signal path at lt get =
      record {
        port = record { name = name; ty = signal.ty };
        is = ap (λ o. port_with o (slice_get circuit.signals s)) path ∙ ap (port_with (Some name)) at;
        named = sym (get_or_from_slice_get circuit.paths s name [] path);
        wide = sym (ap (λ (z : Shape). z.width) (get_or-map (λ (x : Signal). shape x.ty) circuit.signals s signal (uint 0) lt) ∙ ap (λ (x : Signal). x.ty.width) get);
      }

  port_of_known : length circuit.paths ≡ length circuit.signals → (s : ℕ) → s < length circuit.signals → IsPort s
  port_of_known same s lt =
      elim (slice_get_cases circuit.paths s).1 [
        | inl path ↦ elim (slice_get_cases circuit.signals s).1 [
          | inl at ↦ port_from s path.0 at.0 path.2 at.2 lt at.3
          | inr past ↦ let le = past.0 in absurd (omega arith)
        ]
        | inr past ↦ let le = past.0 in absurd (omega arith)
      ]

  -- these are the ports of these signals
  pub record AreOf (ports : List Port) (ss : List ℕ) : Type 0 where
    pub count : length ports ≡ length ss
    pub named : (i : ℕ) → i < length ss → name_at ports i ≡ get_or circuit.paths (value_at ss i) []
    pub wide : (i : ℕ) → i < length ss → width_at ports i ≡ (shape_at (signal_shapes circuit) (value_at ss i)).width

  named_more : (s : ℕ) (port : Port) (ports : List Port) (ss : List ℕ) → port.name ≡ get_or circuit.paths s []
      → AreOf ports ss → (i : ℕ) → i < length (s ∷ ss) → name_at (port ∷ ports) i ≡ get_or circuit.paths (value_at (s ∷ ss) i) []
  named_more s port ports ss is are zero lt = is
  named_more s port ports ss is are (suc i) lt = are.named i (omega arith)

  wide_more : (s : ℕ) (port : Port) (ports : List Port) (ss : List ℕ) → port.ty.width ≡ (shape_at (signal_shapes circuit) s).width
      → AreOf ports ss → (i : ℕ) → i < length (s ∷ ss) → width_at (port ∷ ports) i ≡ (shape_at (signal_shapes circuit) (value_at (s ∷ ss) i)).width
  wide_more s port ports ss is are zero lt = is
  wide_more s port ports ss is are (suc i) lt = are.wide i (omega arith)

  are_more : (s : ℕ) (port : Port) (ports : List Port) (ss : List ℕ) → port.name ≡ get_or circuit.paths s []
      → port.ty.width ≡ (shape_at (signal_shapes circuit) s).width → AreOf ports ss → AreOf (port ∷ ports) (s ∷ ss)
  are_more s port ports ss named wide are = record {
    count = ap suc are.count;
    named = named_more s port ports ss named are;
    wide = wide_more s port ports ss wide are;
  }

  pub ports_at-are : length circuit.paths ≡ length circuit.signals → (ss : List ℕ) → ((i : ℕ) → i < length ss → value_at ss i < length circuit.signals)
      → AreOf (ports_at circuit ss) ss
  ports_at-are same [] known = record { count = refl; named = λ i lt. absurd (omega arith); wide = λ i lt. absurd (omega arith) }
  ports_at-are same (s ∷ ss) known =
      let p = port_of_known same s (known 0 (omega arith)) in
      let rest = ports_at-are same ss (λ i lt. known (suc i) (omega arith)) in
      let e : p.port ∷ ports_at circuit ss ≡ ports_at circuit (s ∷ ss) = sym (ap (λ (o : Option Port). cons_option o (ports_at circuit ss)) p.is) in
      subst (λ (ports : List Port). AreOf ports (s ∷ ss)) e (are_more s p.port (ports_at circuit ss) ss p.named p.wide rest)

  module _ (formed : IsWellFormed circuit) where
    pub ins-are : AreOf (in_ports circuit) circuit.ins
    ins-are = ports_at-are formed.named circuit.ins (λ i lt. (formed.ins i lt).0)

    paths_once : (s r : ℕ) → s < length circuit.signals → r < length circuit.signals → get_or circuit.paths s [] ≡ get_or circuit.paths r [] → s ≡ r
    paths_once s r ls lr e =
        let same = formed.named in
        elim (cases_order s r) [
          | inl is ↦ is
          | inr other ↦ elim other [
            | inl below ↦ absurd (formed.distinct s r [] below (omega arith) e)
            | inr above ↦ absurd (formed.distinct r s [] above (omega arith) (sym e))
          ]
        ]

    ins_once : (i j : ℕ) → i < length circuit.ins → j < length circuit.ins → value_at circuit.ins i ≡ value_at circuit.ins j → i ≡ j
    ins_once i j li lj e =
        let a : driver_at circuit (value_at circuit.ins i) ≡ Input i = (formed.ins i li).1 in
        let b : driver_at circuit (value_at circuit.ins j) ≡ Input j = (formed.ins j lj).1 in
        let c : Input i ≡ Input j = sym a ∙ ap (driver_at circuit) e ∙ b in cc

    -- no two inputs have the same name
    pub in_ports-distinct : HasDistinctNames (in_ports circuit)
    in_ports-distinct i j li lj e =
        let are = ins-are in
        let n = are.count in
        let ki : i < length circuit.ins = omega arith in
        let kj : j < length circuit.ins = omega arith in
        ins_once i j ki kj (paths_once (value_at circuit.ins i) (value_at circuit.ins j) (formed.ins i ki).0 (formed.ins j kj).0
        (sym (are.named i ki) ∙ e ∙ are.named j kj))

    -- a row of a trace of the inputs can be the inputs of a cycle
    pub row-inputs : (bytes : List ℕ) (n : ℕ) (columns : List (List ℕ)) → Columns (in_ports circuit) bytes n columns
        → HaveWidths (in_ports circuit) n columns → (t : ℕ) → t < n → IsInputs circuit (row_of columns t)
    row-inputs bytes n columns cols fit t lt =
        let are = ins-are in
        let counted = are.count in
        let wide = cols.width in
        record {
          count = length-map columns (λ (column : List ℕ). slice_index column t) ∙ wide ∙ counted ∙ sym (length-map circuit.ins (shape_at (signal_shapes circuit)));
          fits = λ i li.
              let ki : i < length circuit.ins = omega (arith, length-map circuit.ins (shape_at (signal_shapes circuit))) in
              let kp : i < length (in_ports circuit) = omega arith in
              let kc : i < length columns = omega arith in
              let value : value_at (row_of columns t) i ≡ slice_index (slice_index_or columns i []) t = get_or-map (λ (column : List ℕ). slice_index column t) columns i [] 0 kc in
              let bound : slice_index (slice_index_or columns i []) t < 2 ^ width_at (in_ports circuit) i = fit.fits i t kp lt in
              let width : width_at (in_ports circuit) i ≡ (shape_at (in_shapes circuit) i).width =
              are.wide i ki ∙ sym (ap (λ (z : Shape). z.width) (get_or-map (shape_at (signal_shapes circuit)) circuit.ins i 0 (uint 0) ki)) in
              subst (λ (w : ℕ). value_at (row_of columns t) i < 2 ^ w) width (subst (λ (v : ℕ). v < 2 ^ width_at (in_ports circuit) i) (sym value) bound);
        }

    -- the columns that a trace gives the inputs are columns for the circuit
    pub trace-columns : (bytes : List ℕ) (n : ℕ) (columns : List (List ℕ)) → Columns (in_ports circuit) bytes n columns
        → HaveWidths (in_ports circuit) n columns → IsColumns circuit n columns
    trace-columns bytes n columns cols fit =
        let counted = ins-are.count in
        let wide = cols.width in
        record {
          count = wide ∙ counted;
          height = λ i d lt. ap (λ (column : List ℕ). length column) (get_or_default columns i d [] lt) ∙ cols.height i (omega (arith, lt));
          inputs = row-inputs bytes n columns cols fit;
        }

-- ---- ports that were made of a circuit

-- no two of them have the same name
pub ports-distinct : (circuit : FlatCircuit) (ports : List Port) → ports ≡ in_ports circuit → IsWellFormed circuit → HasDistinctNames ports
ports-distinct circuit ports e formed = subst (λ (p : List Port). HasDistinctNames p) (sym e) (in_ports-distinct circuit formed)

-- the columns that a trace gives them are columns for the circuit
pub ports-fed : (circuit : FlatCircuit) (ports : List Port) (bytes : List ℕ) (n : ℕ) (columns : List (List ℕ)) → ports ≡ in_ports circuit → IsWellFormed circuit
    → Columns ports bytes n columns → HaveWidths ports n columns → IsColumns circuit n columns
ports-fed circuit ports bytes n columns e formed =
    subst (λ (p : List Port). Columns p bytes n columns → HaveWidths p n columns → IsColumns circuit n columns) (sym e) (trace-columns circuit formed bytes n columns)
