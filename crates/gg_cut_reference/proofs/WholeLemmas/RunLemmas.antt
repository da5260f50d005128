-- A run of the circuit with the models is a run of the reference circuit and of each model.
use Rattle.std.proofs.Common.{◌≡◌, ℕ, zero, suc, ◌+◌, ◌<◌, ◌≤◌, List, [], ◌∷◌, length, map, get_or, take, drop, refl, sym, ◌∙◌, ap, ap₂, subst, arith}
use Rattle.std.specs.Prelude.{sum}
use Rattle.std.specs.List.{range_with_len}
use Rattle.std.proofs.lemmas.List.{get_or-map, length-map}
use Rattle.std.proofs.lemmas.List.Sums.{sum_by-cons}
use Rattle.std.proofs.lemmas.Simd.{map-map}
use Rattle.gg_flat.specs.Circuit.{FlatCircuit}
use Rattle.gg_flat.specs.Line.{value_at}
use Rattle.gg_flat.specs.Run.{Start, IsColumns, IsRunFrom, column, later, row_at, since}
use Rattle.gg_flat.specs.State.{State, IsState, opening}
use Rattle.gg_flat_tree.specs.Tree.{path_at}
use Rattle.gg_order.specs.Design.{Ordered}
use Rattle.gg_part.specs.PartRun.{part_row, part_rows}
use Rattle.gg_partfile.specs.declared.request.BridgeEntry.{BridgeEntry}
use Rattle.gg_partfile.specs.declared.request.Request.{Request}
use Rattle.gg_bridge.specs.inside.All.{Attached, HasInputs, RunsAllFrom, RunsModelFrom, RunsModelsFrom, joined_all, joined_states, with_bridge}
use Rattle.gg_bridge.specs.All.{joined_state}
use Rattle.gg_bridge.proofs.AllLemmas.{all-runs}
use Rattle.gg_bridge.proofs.AtLemmas.{long}
use Rattle.gg_cut_plan.specs.Bridges.{Models, model_of}
use Rattle.gg_cut_plan.specs.Plan.{entry_at}
use Rattle.gg_cut_plan.specs.Ports.{open_ins}
use Rattle.gg_cut_plan.specs.Solves.{AreRows, model_start}
use Rattle.gg_cut_reference.specs.inside.Fitting.{attached_of}
use Rattle.gg_cut_reference.specs.Made.{plan_reference}
use Rattle.gg_cut_reference.proofs.FollowLemmas.{input-column}
use Rattle.gg_cut_reference.proofs.ReferenceLemmas.{drop-part, later-less, later-row, part-zero, row-part}
use Rattle.gg_cut_reference.specs.whole.Whole.{CanBridge, plan_begin, plan_circuit, states_with}
use Rattle.gg_cut_reference.specs.inside.Whole.{RunsModel, RunsWhole, driven_signal, model_signals, bridge_signal}
use Rattle.gg_cut_reference.proofs.WholeLemmas.PlanLemmas.{attach-all, circuit-formed, circuit-joined, reference-formed}
use Rattle.gg_cut_reference.proofs.WholeLemmas.PortLemmas.{plan-ins}

-- ---- rows by cycle

-- in rows from cycle c on, the columns of signals are inputs
columns-fed : (rows : List (List ℕ)) (c end : ℕ) (signals : List ℕ) → c ≤ end → length rows ≡ end → HasInputs (drop c rows) (map (column rows) signals) c (since c end) signals
columns-fed rows c end signals le count = λ t place lt known.
    let s = value_at signals place in
    let low : later c t < length rows = omega (arith, later-less c t end le lt, count) in
    get_or-map (λ (values : List ℕ). value_at values (later c t)) (map (column rows) signals) place [] 0 (omega (arith, known, length-map signals (column rows)))
    ∙ ap (λ (values : List ℕ). value_at values (later c t)) (get_or-map (column rows) signals place 0 [] known)
    ∙ get_or-map (λ (row : List ℕ). value_at row s) rows (later c t) [] 0 low
    ∙ ap (λ (row : List ℕ). value_at row s) (sym (later-row c t rows))

-- rows from the start on that are a run of a part of a circuit's signals make its rows by cycle
module _ (circuit : FlatCircuit) (start : Start) (globals signals : List ℕ) (end : ℕ) (rows : List (List ℕ)) where
  part-rows : start.cycle ≤ end → length rows ≡ end → ((t s : ℕ) → t < start.cycle → value_at (row_at rows t) s ≡ 0)
      → ((inputs : List (List ℕ)) → HasInputs (drop start.cycle rows) inputs start.cycle (since start.cycle end) signals → IsRunFrom circuit start inputs (since start.cycle end) (part_rows globals (drop start.cycle rows)))
      → AreRows circuit start (map (column rows) signals) end (part_rows globals rows)
  part-rows begun count before run =
      record {
        begun = begun;
        count = length-map rows (part_row globals) ∙ count;
        before = λ t s lt.
            ap (λ (row : List ℕ). value_at row s) (row-part globals rows t (omega (arith, lt, begun, count))) ∙ part-zero globals (row_at rows t) (λ k. before t k lt) s;
        run =
            subst (IsRunFrom circuit start (map (column rows) signals) (since start.cycle end)) (sym (drop-part globals rows start.cycle))
            (run (map (column rows) signals) (columns-fed rows start.cycle end signals begun count));
      }

-- columns that agree from a cycle on, before which all values are 0
columns-agree : (c : ℕ) (rows : List (List ℕ)) (globals : List ℕ) (s out : ℕ) → ((t k : ℕ) → t < c → value_at (row_at rows t) k ≡ 0) → column (drop c rows) s ≡ column (part_rows globals (drop c rows)) out → column rows s ≡ column (part_rows globals rows) out
columns-agree zero rows globals s out zeros same = same
columns-agree (suc c) [] globals s out zeros same = refl
columns-agree (suc c) (row ∷ rows) globals s out zeros same =
    ap₂ (λ (v : ℕ) (vs : List ℕ). v ∷ vs) (zeros 0 s (omega arith) ∙ sym (part-zero globals row (λ k. zeros 0 k (omega arith)) out))
    (columns-agree c rows globals s out (λ t k lt. zeros (suc t) k (omega (arith, lt))) same)

-- ---- the states

pub same-states : (seen driven : List ℕ → ℕ) (models : Models) (state : State) (entries : List BridgeEntry) → states_with models state entries ≡ joined_states state (map (attached_of seen driven models) entries)
same-states seen driven models state [] = refl
same-states seen driven models state (entry ∷ entries) = same-states seen driven models (joined_state state (opening (model_of models entry))) entries

-- ---- each model

sum-more : (x : ℕ) (xs : List ℕ) → sum (x ∷ xs) ≡ x + sum xs
sum-more x xs = sum_by-cons (λ (n : ℕ). n) x xs

module _ (seen driven : List ℕ → ℕ) (models : Models) (cycle n : ℕ) (rows : List (List ℕ)) where
  abbrev box : BridgeEntry → Attached
  box entry = attached_of seen driven models entry

  abbrev size : BridgeEntry → ℕ
  size entry = length (model_of models entry).signals

  model-runs : (one : FlatCircuit) (entries : List BridgeEntry) (k : ℕ) → k < length entries → RunsModelsFrom cycle n rows one (map (attached_of seen driven models) entries)
      → RunsModelFrom cycle n rows (range_with_len (length one.signals + sum (map size (take k entries))) (size (entry_at entries k))) (attached_of seen driven models (entry_at entries k))
  model-runs one [] k lt runs = absurd (omega (arith, lt))
  model-runs one (entry ∷ entries) zero lt runs =
      subst (λ first. RunsModelFrom cycle n rows (range_with_len first (size entry)) (box entry)) (let same : length one.signals ≡ length one.signals + 0 = omega arith in same) runs.0
  model-runs one (entry ∷ entries) (suc k) lt runs =
      let rest = sum (map size (take k entries)) in
      let both = length (with_bridge one (box entry)).signals in
      let many : both ≡ length one.signals + size entry = long one (box entry).front (box entry).model (box entry).sees (box entry).drives in
      subst (λ first. RunsModelFrom cycle n rows (range_with_len first (size (entry_at entries k))) (box (entry_at entries k))) (let same : both + rest ≡ length one.signals + sum (size entry ∷ map size (take k entries)) = omega (arith, many, sum-more (size entry) (map size (take k entries))) in same)
      (model-runs (with_bridge one (box entry)) entries k (omega (arith, lt)) runs.1)

-- ---- the whole

module _ (design : Ordered) (request : Request) (models : Models) (start : Start) (columns : List (List ℕ)) (end : ℕ) (rows : List (List ℕ)) (can : CanBridge design request models) (typed : IsState (plan_reference design request) start.state) (given : IsColumns (plan_circuit design request models) end columns) (run : AreRows (plan_circuit design request models) (plan_begin design request models start) columns end rows) where
  abbrev one : FlatCircuit
  one = plan_reference design request

  abbrev boxes : List Attached
  boxes = map (attached_of (bridge_signal design request) (driven_signal design) models) request.bridges

  abbrev begin_in : State → Start
  begin_in state = record { cycle = start.cycle; state = state; ratios = start.ratios }

  runs : RunsAllFrom start (since start.cycle end) (drop start.cycle rows) one boxes
  runs =
      all-runs start (since start.cycle end) one boxes columns (drop start.cycle rows) (attach-all design request models can) (reference-formed design request models can) typed
      (subst (λ (state : State). IsRunFrom (joined_all one boxes) (begin_in state) columns (since start.cycle end) (drop start.cycle rows)) (same-states (bridge_signal design request) (driven_signal design) models start.state request.bridges)
      (subst (λ (c : FlatCircuit). IsRunFrom c (plan_begin design request models start) columns (since start.cycle end) (drop start.cycle rows)) (circuit-joined design request models can) run.run))

  fed : (p t : ℕ) → p < length (open_ins design.circuit request) → start.cycle ≤ t → t < end → value_at (column rows (value_at (open_ins design.circuit request) p)) t ≡ value_at (get_or columns p []) t
  fed p t lt le below =
      let same = plan-ins design request models can in
      let inside : p < length (plan_circuit design request models).ins = omega (arith, lt, ap length same) in
      let at = (circuit-formed design request models can).ins p inside in
      ap (λ (list : List ℕ). value_at (column rows (value_at list p)) t) (sym same)
      ∙ input-column (plan_circuit design request models) (value_at (plan_circuit design request models).ins p) p inside at.0 at.1 (plan_begin design request models start) columns end rows given run t le below

  each : (k : ℕ) → k < length request.bridges → RunsModel design request models start end rows k (entry_at request.bridges k)
  each k lt =
      let entry = entry_at request.bridges k in
      let model = model_of models entry in
      let own = model-runs (bridge_signal design request) (driven_signal design) models start.cycle (since start.cycle end) (drop start.cycle rows) one request.bridges k lt runs.models in
      let globals = model_signals design request models k in
      record {
        run =
            subst (λ (cs : List (List ℕ)). AreRows model (model_start model start) cs end (part_rows globals rows)) (map-map (column rows) (bridge_signal design request) entry.sees)
            (part-rows model (model_start model start) globals (map (bridge_signal design request) entry.sees) end rows run.begun run.count run.before own.run);
        driven = λ i less.
            let name = path_at entry.drives i in
            columns-agree start.cycle rows globals (driven_signal design name) (value_at model.outs i) run.before
            (ap (column (drop start.cycle rows)) (sym (get_or-map (driven_signal design) entry.drives i [] 0 less)) ∙ own.driven i (omega (arith, less, length-map entry.drives (driven_signal design))));
      }

  pub whole-runs : RunsWhole design request models start columns end rows
  whole-runs =
      record {
        reference = part-rows one start (range_with_len 0 (length one.signals)) one.ins end rows run.begun run.count run.before runs.circuit;
        fed = fed;
        each = each;
      }
