-- The ports that no bridge has, and the columns that a trace gives them.
use Rattle.std.proofs.Common.{◌≡◌, ◌≢◌, ℕ, ◌<◌, ◌≤◌, ◌^◌, List, [], ◌∷◌, ◌++◌, Bool, true, false, None, Some, length, map, take, drop, refl, sym, ap, ap₂, ◌∙◌, subst, inl, inr, arith}
use Rattle.std.specs.Prelude.{All, AllPairs, Option, filter, if◌then◌else◌, not, slice_get, slice_index, slice_index_or}
use Rattle.std.specs.List.{cons_option}
use Rattle.std.proofs.Math.Seq.{drop-append_seam, take-append_seam}
use Rattle.std.proofs.lemmas.Option.{get_or_from_slice_get, same_Some}
use Rattle.std.proofs.lemmas.List.{get_or-map, get_or_append_left, get_or_default, length-append, length-map, map-append}
use Rattle.std.proofs.lemmas.List.Elements.{All-filter}
use Rattle.std.proofs.lemmas.List.Kept.{AllPairs-filter}
use Rattle.std.proofs.lemmas.Bool.{cases_order}
use Rattle.gg_bits.specs.Shape.{Shape, uint}
use Rattle.gg_flat.specs.Circuit.{FlatCircuit, signal_shapes}
use Rattle.gg_flat.specs.Line.{shape_at, value_at}
use Rattle.gg_flat.specs.Ports.{port_at, port_with, ports_at}
use Rattle.gg_flat.specs.Run.{IsColumns, column}
use Rattle.gg_flat_tree.specs.Scoped.{stop_signals}
use Rattle.gg_flat.specs.Settled.{IsInputs, in_shapes}
use Rattle.gg_flat_tree.specs.Tree.{path_at}
use Rattle.gg_flat.specs.WellFormed.{IsWellFormed}
use Rattle.gg_flat.specs.declared.piece.Signal.{Signal}
use Rattle.gg_flat.specs.declared.ports.Port.{Port}
use Rattle.gg_bridge.proofs.AtLemmas.{long, shape-old}
use Rattle.gg_bridge.specs.Ports.{driven_at, front_of, joined_at, seen_at}
use Rattle.gg_part.specs.KeepsToTree.{KeepsToTree}
use Rattle.gg_order.specs.Design.{Ordered}
use Rattle.gg_partfile.specs.Size.{all_driven, all_seen}
use Rattle.gg_partfile.specs.declared.request.BridgeEntry.{BridgeEntry}
use Rattle.gg_partfile.specs.declared.request.Request.{Request}
use Rattle.gg_cut_plan.specs.Bridges.{Models, model_of}
use Rattle.gg_cut_plan.specs.Direct.{plan_hub}
use Rattle.gg_cut_plan.specs.Listed.{is_among}
use Rattle.gg_cut_plan.specs.Ports.{open_ins, open_outs, output_count}
use Rattle.gg_cut_reference.specs.Links.{taken_as}
use Rattle.gg_cut_reference.specs.Made.{plan_reference}
use Rattle.gg_cut_reference.specs.whole.Whole.{CanBridge, plan_circuit, with_bridges}
use Rattle.gg_cut_reference.proofs.WholeLemmas.PlanLemmas.{reference-made}
use Rattle.gg_cut_reference.proofs.WholeLemmas.PortLemmas.{plan-ins, plan-outs}
use Rattle.gg_rows.specs.Printed.{plan_stops}
use Rattle.gg_rows.specs.inside.Printed.{shown_columns, stop_columns, text_of}
use Rattle.gg_trace.specs.Last.{halts, row_count}
use Rattle.gg_trace.specs.Ports.{HasDistinctNames, width_at}
use Rattle.gg_trace.specs.Printing.{trace_text}
use Rattle.gg_trace.specs.Table.{row_of}
use Rattle.gg_trace.specs.Trace.{Columns, HaveWidths}
use Rattle.golden_commands.specs.RunText.{columns_of, fed_ports, outputs_kept, outputs_of, outputs_shown, ports_without, run_text, shown_ports, stops_kept}
use Rattle.golden_commands.proofs.PortLemmas.{AreOf, ins_once, paths_once, ports_at-are}

-- ---- ports without names

-- a port has its signal's path
named-at : (circuit : FlatCircuit) (s : ℕ) (port : Port) → port_at circuit s ≡ Some port → port.name ≡ path_at circuit.paths s
named-at circuit s port e = go (slice_get circuit.paths s) (slice_get circuit.signals s) refl e
  where
    go : (o : Option (List ℕ)) (p : Option Signal) → slice_get circuit.paths s ≡ o → port_with o p ≡ Some port → port.name ≡ path_at circuit.paths s
    go None p f g = absurd (cc)
    go (Some name) None f g = absurd (cc)
    go (Some name) (Some signal) f g =
        let same : record { name = name; ty = signal.ty } ≡ port = same_Some (record { name = name; ty = signal.ty }) port g in
        ap (λ (q : Port). q.name) (sym same) ∙ sym (get_or_from_slice_get circuit.paths s name [] f)

module _ (names : List (List ℕ)) (circuit : FlatCircuit) where
  abbrev is_left : ℕ → Bool
  is_left s = not (is_among names (path_at circuit.paths s))

  without-more : (s : ℕ) (signals : List ℕ) (o : Option Port) (b : Bool) → port_at circuit s ≡ o → is_left s ≡ b → ports_without names (ports_at circuit signals) ≡ ports_at circuit (filter is_left signals)
      → ports_without names (cons_option o (ports_at circuit signals)) ≡ ports_at circuit (if b then s ∷ filter is_left signals else filter is_left signals)
  without-more s signals None true e f rest = rest ∙ sym (ap (λ (o : Option Port). cons_option o (ports_at circuit (filter is_left signals))) e)
  without-more s signals None false e f rest = rest
  without-more s signals (Some port) true e f rest =
      ap (λ b. if b then port ∷ ports_without names (ports_at circuit signals) else ports_without names (ports_at circuit signals)) (ap (λ (n : List ℕ). not (is_among names n)) (named-at circuit s port e) ∙ f)
      ∙ ap (λ (l : List Port). port ∷ l) rest
      ∙ sym (ap (λ (o : Option Port). cons_option o (ports_at circuit (filter is_left signals))) e)
  without-more s signals (Some port) false e f rest =
      ap (λ b. if b then port ∷ ports_without names (ports_at circuit signals) else ports_without names (ports_at circuit signals)) (ap (λ (n : List ℕ). not (is_among names n)) (named-at circuit s port e) ∙ f)
      ∙ rest

  -- the ports of some signals that have none of these names are those of the signals that have none of these paths
  pub without-at : (signals : List ℕ) → ports_without names (ports_at circuit signals) ≡ ports_at circuit (filter (λ s. not (is_among names (path_at circuit.paths s))) signals)
  without-at [] = refl
  without-at (s ∷ signals) = without-more s signals (port_at circuit s) (is_left s) refl refl (without-at signals)

-- the ports for which a trace has columns
pub fed-at : (circuit : FlatCircuit) (request : Request) → fed_ports circuit request ≡ ports_at circuit (open_ins circuit request)
fed-at circuit request = without-at (all_driven request.bridges) circuit circuit.ins

-- the signals of a circuit's inputs that no bridge drives
module _ (circuit : FlatCircuit) (request : Request) (formed : IsWellFormed circuit) where
  all-inputs : All (λ s. s < length circuit.signals) circuit.ins
  all-inputs i d lt = subst (λ s. s < length circuit.signals) (get_or_default circuit.ins i 0 d lt) (formed.ins i lt).0

  pub open-known : (i : ℕ) → i < length (open_ins circuit request) → value_at (open_ins circuit request) i < length circuit.signals
  open-known i lt =
      All-filter (λ s. not (is_among (all_driven request.bridges) (path_at circuit.paths s))) (λ s. s < length circuit.signals) circuit.ins all-inputs i 0 lt

  open-once : AllPairs (λ a b. a ≢ b) (open_ins circuit request)
  open-once =
      AllPairs-filter (λ a b. a ≢ b) (λ s. not (is_among (all_driven request.bridges) (path_at circuit.paths s))) circuit.ins
      (λ i j d less lt same.
      let one : i ≡ j =
      ins_once circuit formed i j (omega (arith, less, lt)) lt (get_or_default circuit.ins i 0 d (omega (arith, less, lt)) ∙ same ∙ get_or_default circuit.ins j d 0 lt) in
      omega (arith, less, one))

  pub fed-are : AreOf circuit (fed_ports circuit request) (open_ins circuit request)
  fed-are =
      subst (λ (ports : List Port). AreOf circuit ports (open_ins circuit request)) (sym (fed-at circuit request)) (ports_at-are circuit formed.named (open_ins circuit request) open-known)

  -- no two of them have the same name
  pub fed-distinct : HasDistinctNames (fed_ports circuit request)
  fed-distinct i j li lj e =
      let are = fed-are in
      let ki : i < length (open_ins circuit request) = omega (arith, li, are.count) in
      let kj : j < length (open_ins circuit request) = omega (arith, lj, are.count) in
      let same =
      paths_once circuit formed (value_at (open_ins circuit request) i) (value_at (open_ins circuit request) j) (open-known i ki) (open-known j kj) (sym (are.named i ki) ∙ e ∙ are.named j kj) in
      elim (cases_order i j) [
        | inl is ↦ is
        | inr other ↦ elim other [
          | inl below ↦ absurd (open-once i j 0 below kj same)
          | inr above ↦ absurd (open-once j i 0 above ki (sym same))
        ]
      ]

-- ---- the outputs that are shown

module _ (design : Ordered) (request : Request) (keeps : KeepsToTree design.circuit design.tree) where
  tops-count : output_count design ≡ length (outputs_of design.tree)
  tops-count =
      omega (
        arith,
        length-append (outputs_of design.tree) (stop_signals design.tree),
        ap (λ (l : List ℕ). length l) keeps.scoped.outs,
        length-map design.tree.stops (λ stop. stop.signal),
      )

  tops-are : take (output_count design) design.circuit.outs ≡ outputs_of design.tree
  tops-are =
      ap₂ (λ (n : ℕ) (l : List ℕ). take n l) tops-count (sym keeps.scoped.outs) ∙ take-append_seam (outputs_of design.tree) (stop_signals design.tree)

  stops-are : drop (output_count design) design.circuit.outs ≡ stop_signals design.tree
  stops-are =
      ap₂ (λ (n : ℕ) (l : List ℕ). drop n l) tops-count (sym keeps.scoped.outs) ∙ drop-append_seam (outputs_of design.tree) (stop_signals design.tree)

  pub outputs-open : open_outs design.circuit (output_count design) request ≡ outputs_shown design request
  outputs-open = ap (filter (λ s. not (is_among (all_seen request.bridges) (path_at design.circuit.paths s)))) tops-are

  pub shown-at : shown_ports design request ≡ ports_at design.circuit (outputs_shown design request)
  shown-at = without-at (all_seen request.bridges) design.circuit (outputs_of design.tree)

-- ---- the whole

-- signals of the circuit have their shapes in the one with models
low-shape : (models : Models) (one : FlatCircuit) (entries : List BridgeEntry) (s : ℕ) → s < length one.signals → shape_at (signal_shapes (with_bridges models one entries)) s ≡ shape_at (signal_shapes one) s
low-shape models one [] s lt = refl
low-shape models one (entry ∷ entries) s lt =
    let model = model_of models entry in
    low-shape models (joined_at one entry.name model entry.sees entry.drives) entries s (omega (arith, lt, long one (front_of entry.name) model (seen_at one entry.sees) (driven_at one entry.drives)))
    ∙ shape-old one (front_of entry.name) model (seen_at one entry.sees) (driven_at one entry.drives) s lt

module _ (design : Ordered) (request : Request) (models : Models) (can : CanBridge design request models) where
  abbrev whole : FlatCircuit
  whole = plan_circuit design request models

  whole-shape : (s : ℕ) → s < length design.circuit.signals → shape_at (signal_shapes (plan_circuit design request models)) s ≡ shape_at (signal_shapes design.circuit) s
  whole-shape s lt =
      let made = reference-made design request models can in
      low-shape models (plan_reference design request) request.bridges s (omega (arith, lt, made.signals)) ∙ made.shapes s lt

  -- ---- the columns of a trace

  -- a row of a trace can be the inputs of a cycle
  row-inputs : (bytes : List ℕ) (n : ℕ) (columns : List (List ℕ)) → Columns (fed_ports design.circuit request) bytes n columns → HaveWidths (fed_ports design.circuit request) n columns
      → (t : ℕ) → t < n → IsInputs whole (row_of columns t)
  row-inputs bytes n columns cols fit t lt =
      let are = fed-are design.circuit request can.design_is.formed in
      let counted = are.count in
      let wide = cols.width in
      let same : whole.ins ≡ open_ins design.circuit request = plan-ins design request models can in
      let as_many = ap (λ (l : List ℕ). length l) same in
      record {
        count = length-map columns (λ (column : List ℕ). slice_index column t) ∙ wide ∙ counted ∙ sym as_many ∙ sym (length-map whole.ins (shape_at (signal_shapes whole)));
        fits = λ i li.
            let ki : i < length (open_ins design.circuit request) = omega (arith, li, as_many, length-map whole.ins (shape_at (signal_shapes whole))) in
            let kw : i < length whole.ins = omega (arith, ki, as_many) in
            let kp : i < length (fed_ports design.circuit request) = omega (arith, ki, counted) in
            let kc : i < length columns = omega (arith, kp, wide) in
            let value : value_at (row_of columns t) i ≡ slice_index (slice_index_or columns i []) t = get_or-map (λ (column : List ℕ). slice_index column t) columns i [] 0 kc in
            let bound : slice_index (slice_index_or columns i []) t < 2 ^ width_at (fed_ports design.circuit request) i = fit.fits i t kp lt in
            let at : value_at whole.ins i ≡ value_at (open_ins design.circuit request) i = ap (λ (l : List ℕ). value_at l i) same in
            let width : width_at (fed_ports design.circuit request) i ≡ (shape_at (in_shapes whole) i).width =
            are.wide i ki
            ∙ ap (λ (z : Shape). z.width) (sym (whole-shape (value_at (open_ins design.circuit request) i) (open-known design.circuit request can.design_is.formed i ki)) ∙ ap (shape_at (signal_shapes whole)) (sym at))
            ∙ sym (ap (λ (z : Shape). z.width) (get_or-map (shape_at (signal_shapes whole)) whole.ins i 0 (uint 0) kw)) in
            subst (λ (w : ℕ). value_at (row_of columns t) i < 2 ^ w) width (subst (λ (v : ℕ). v < 2 ^ width_at (fed_ports design.circuit request) i) (sym value) bound);
      }

  -- the columns that a trace gives the inputs that no bridge drives are columns for the circuit with the models
  pub fed-columns : (bytes : List ℕ) (n : ℕ) (columns : List (List ℕ)) → Columns (fed_ports design.circuit request) bytes n columns → HaveWidths (fed_ports design.circuit request) n columns
      → IsColumns (plan_circuit design request models) n columns
  fed-columns bytes n columns cols fit =
      let counted = (fed-are design.circuit request can.design_is.formed).count in
      let wide = cols.width in
      record {
        count = wide ∙ counted ∙ sym (ap (λ (l : List ℕ). length l) (plan-ins design request models can));
        height = λ i d lt. ap (λ (column : List ℕ). length column) (get_or_default columns i d [] lt) ∙ cols.height i (omega (arith, lt, wide));
        inputs = row-inputs bytes n columns cols fit;
      }

  -- ---- the text of a run

  abbrev taken : ℕ → ℕ
  taken = taken_as (plan_hub design.circuit design.tree request)

  -- the out-signals of the circuit with the models: of the outputs that are shown, and of the stops
  outs-are : whole.outs ≡ outputs_kept design request ++ stops_kept design request
  outs-are =
      plan-outs design request models can
      ∙ map-append (taken_as (plan_hub design.circuit design.tree request)) (open_outs design.circuit (output_count design) request) (drop (output_count design) design.circuit.outs)
      ∙ ap₂ (λ (x y : List ℕ). map taken x ++ map taken y) (outputs-open design request can.keeps) (stops-are design request can.keeps)

  tops-known : All (λ s. s < length design.circuit.signals) (outputs_of design.tree)
  tops-known i d lt =
      let first : length (outputs_of design.tree) ≤ length design.circuit.outs =
      omega (arith, length-append (outputs_of design.tree) (stop_signals design.tree), ap (λ (l : List ℕ). length l) can.keeps.scoped.outs) in
      subst (λ s. s < length design.circuit.signals)
      (ap (λ (l : List ℕ). value_at l i) (sym can.keeps.scoped.outs) ∙ get_or_append_left (outputs_of design.tree) (stop_signals design.tree) 0 i lt ∙ get_or_default (outputs_of design.tree) i 0 d lt)
      (can.design_is.formed.outs i (omega (arith, lt, first)))

  -- there are as many ports as outputs that are shown
  pub shown-count : length (shown_ports design request) ≡ length (outputs_kept design request)
  shown-count =
      let known = All-filter (λ s. not (is_among (all_seen request.bridges) (path_at design.circuit.paths s))) (λ s. s < length design.circuit.signals) (outputs_of design.tree) tops-known in
      ap (λ (l : List Port). length l) (shown-at design request can.keeps)
      ∙ (ports_at-are design.circuit can.design_is.formed.named (outputs_shown design request) (λ i lt. known i 0 lt)).count
      ∙ sym (length-map (outputs_shown design request) taken)

  pub shown-few : length (shown_ports design request) ≤ length (plan_circuit design request models).outs
  shown-few = omega (arith, shown-count, ap (λ (l : List ℕ). length l) outs-are, length-append (outputs_kept design request) (stops_kept design request))

  module _ (rows : List (List ℕ)) where
    pub shown-are : shown_columns (plan_circuit design request models) (shown_ports design request) rows ≡ columns_of (outputs_kept design request) rows
    shown-are =
        ap (map (column rows)) (ap₂ (λ (n : ℕ) (l : List ℕ). take n l) shown-count outs-are ∙ take-append_seam (outputs_kept design request) (stops_kept design request))

    pub stops-shown : stop_columns (plan_circuit design request models) (shown_ports design request) rows ≡ columns_of (stops_kept design request) rows
    stops-shown =
        ap (map (column rows)) (ap₂ (λ (n : ℕ) (l : List ℕ). drop n l) shown-count outs-are ∙ drop-append_seam (outputs_kept design request) (stops_kept design request))

    -- the text of the first outs of the circuit with the models is the text of the run
    pub whole-text : (n : ℕ) → text_of (plan_stops design request) (plan_circuit design request models) (shown_ports design request) rows n ≡ run_text design request rows n
    whole-text n =
        ap₂ (λ (columns stops : List (List ℕ)). trace_text (shown_ports design request) columns (row_count (halts (plan_stops design request) stops) n)) shown-are stops-shown
