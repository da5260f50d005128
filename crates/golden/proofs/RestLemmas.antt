-- `resume`: the run of the reference circuit from a snapshot on, and what is reported for a snapshot.
use Rattle.std.proofs.Common.{◌≡◌, ◌≢◌, ℕ, ◌+◌, ◌-◌, ◌<◌, ◌≤◌, List, [], drop, replicate, None, refl, sym, ap, ◌∙◌, subst, ◌⊎◌, inl, inr, arith}
use Rattle.std.proofs.lemmas.List.{get_or-replicate, get_or_append_left, length-append, length-replicate}
use Rattle.std.proofs.Math.Seq.{drop-append_seam}
use Rattle.gg_flat.specs.Along.{rows_from}
use Rattle.gg_flat.specs.Circuit.{FlatCircuit}
use Rattle.gg_flat.specs.Line.{value_at}
use Rattle.gg_flat.specs.Run.{IsRunFrom, Start, inputs_at, later, row_at, since}
use Rattle.gg_flat.specs.Settled.{IsInputs}
use Rattle.gg_flat.specs.State.{IsState, State}
use Rattle.gg_flat_tree.specs.Tree.{InstanceTree}
use Rattle.gg_flat.specs.WellFormed.{IsWellFormed}
use Rattle.gg_flat.specs.declared.ports.Port.{Port}
use Rattle.gg_order.proofs.RunsLemmas.AlongLemmas.{IsRunFrom-along}
use Rattle.gg_order.proofs.RunsLemmas.SinceLemmas.{later-since, since-add}
use Rattle.gg_cut_plan.specs.Bridges.{Models}
use Rattle.gg_cut_plan.specs.Clocks.{ratios_of}
use Rattle.gg_cut_plan.specs.Fault.{first_fault}
use Rattle.gg_cut_plan.specs.Solves.{AreRows}
use Rattle.gg_part.specs.KeepsToTree.{KeepsToTree}
use Rattle.gg_order.specs.Design.{IsDesign, Ordered}
use Rattle.gg_partfile.specs.declared.request.BridgeEntry.{BridgeEntry}
use Rattle.gg_partfile.specs.declared.request.Request.{Request}
use Rattle.gg_cut_reference.specs.Made.{AllHeld, plan_reference}
use Rattle.gg_cut_reference.proofs.PlanLemmas.{plan-formed}
use Rattle.gg_cut_reference.specs.whole.Whole.{CanBridge, plan_begin, plan_circuit, states_with}
use Rattle.gg_cut_reference.proofs.WholeLemmas.PlanLemmas.{circuit-formed}
use Rattle.gg_cut_reference.proofs.WholeLemmas.StateLemmas.{states-with}
use Rattle.gg_build.specs.Build.{circuit_order}
use Rattle.gg_build.specs.plan.Built.{IsGiven}
use Rattle.gg_rows.specs.Printed.{plan_stops}
use Rattle.gg_rows.specs.inside.Printed.{rows_since, text_since}
use Rattle.gg_snap.specs.inside.Whole.{CanBegin}
use Rattle.gg_snap.specs.text.Known.{AreKnown}
use Rattle.gg_snap.specs.text.Standing.{IfFault, IsFirstFault, IsSnap}
use Rattle.gg_snap.specs.text.Table.{rows_of}
use Rattle.gg_snap.specs.inside.TextWhole.{IsWhole}
use Rattle.gg_snap.specs.text.FaultText.{fault_words}
use Rattle.gg_snap.specs.declared.text.fault.SnapFault.{SnapFault}
use Rattle.gg_snap.specs.declared.text.fault.SnapFault.TheVariants as snap
use Rattle.gg_snap.specs.declared.text.fault.SnapFault.TheVariants.{S1}
use Rattle.gg_io.specs.Order.{IsOnly}
use Rattle.gg_io.specs.Said.{Said}
use Rattle.gg_trace.specs.Last.{halts, row_count}
use Rattle.gg_trace.specs.Printing.{text_from}
use Rattle.golden_commands.specs.Case.{IsFed}
use Rattle.golden_commands.specs.Lines.{few_rows, snap_fault}
use Rattle.golden_commands.specs.Resumed.{CanBeResumed, HasRest, IsResumedText, TellsLate, TellsNoSnap, rest_text, start_at}
use Rattle.golden_commands.specs.Partition.{to_save}
use Rattle.golden_commands.specs.RunText.{columns_of, outputs_kept, shown_ports}
use Rattle.golden_commands.specs.inside.Runs.{TellsSnapOf, meant_by, resumed_flow, resumed_rows}
use Rattle.golden_commands.specs.declared.case.Fed.{Fed}
use Rattle.golden_commands.proofs.AloneLemmas.{circuit-alone}
use Rattle.golden_commands.proofs.CaseLemmas.{case-can, case-faultless, case-fresh, case-ordered}
use Rattle.golden_commands.proofs.FedLemmas.{fed-are}
use Rattle.golden_commands.proofs.PartitionLemmas.{DesignsAgree}
use Rattle.golden.proofs.ResumedLemmas.{resumed-only}
use Rattle.golden_commands.proofs.WholePortLemmas.{shown-are, stops-shown}

-- ---- cycles

since-less : (c n : ℕ) → c ≤ n → n - c ≡ since c n
since-less c n le = omega (arith, since-add c n le, le)

later-is : (c t : ℕ) → c + t ≡ later c t
later-is c t =
    let there : c ≤ c + t = omega arith in
    let same : since c (c + t) ≡ t = omega (arith, since-add c (c + t) there) in
    sym (later-since c (c + t) there) ∙ ap (later c) same

-- ---- laws

-- a text has at most one cycle and one state
abbrev pub OneSnapshot : Type 0
OneSnapshot =
    (circuit : FlatCircuit) (tree : InstanceTree) (text : List ℕ) (c d : ℕ) (s t : State) → IsWellFormed circuit → IsWhole circuit tree → AreKnown circuit (rows_of circuit tree) → IsSnap circuit tree text c s → IsSnap circuit tree text d t
    → (c ≡ d) × (s ≡ t)

-- a snapshot's text has all of the state of a reference circuit
abbrev pub PlansAreWhole : Type 0
PlansAreWhole =
    (design : Ordered) (request : Request) → IsDesign design → KeepsToTree design.circuit design.tree → AllHeld design.circuit → first_fault design request ≡ None → IsWhole (plan_reference design request) design.tree

-- ---- the run from a snapshot on

module _ (models : Models) (circuit partition trace : List ℕ) (capacity : ℕ) (fed : Fed) (is : IsFed (to_save models) circuit partition trace capacity fed) (cycle : ℕ) (state : State) (within : cycle ≤ fed.trace.rows)
    (typed : IsState (plan_reference fed.case.design fed.case.cut.request) state) where
  abbrev design : Ordered
  design = fed.case.design

  abbrev request : Request
  request = fed.case.cut.request

  abbrev reference : FlatCircuit
  reference = plan_reference design request

  abbrev start : Start
  start = start_at (meant_by fed) cycle state

  abbrev n : ℕ
  n = fed.trace.rows

  -- the circuit that the network computes, and where it starts; no bridge is asked for, so it is the reference circuit
  abbrev all : FlatCircuit
  all = plan_circuit design request models

  abbrev begin : Start
  begin = plan_begin design request models start

  pub alone : fed.case.cut.request.bridges ≡ []
  alone = is.case.cuts.alone refl

  all-is : plan_circuit fed.case.design fed.case.cut.request models ≡ plan_reference fed.case.design fed.case.cut.request
  all-is = circuit-alone fed.case.design fed.case.cut.request alone models

  begin-is : plan_begin fed.case.design fed.case.cut.request models (start_at (meant_by fed) cycle state) ≡ start_at (meant_by fed) cycle state
  begin-is = ap (λ (bridges : List BridgeEntry). let from : Start = record { cycle = cycle; state = states_with models state bridges; ratios = ratios_of fed.case.design.tree fed.case.cut.request } in from) alone

  can : CanBridge fed.case.design fed.case.cut.request models
  can = case-can is.case

  -- the rows from the snapshot's cycle on, and those by cycle
  abbrev behind : List (List ℕ)
  behind = rows_from all (circuit_order design request models) begin fed.trace.columns (n - cycle)

  abbrev rows : List (List ℕ)
  rows = resumed_rows models fed cycle state

  formed : IsWellFormed reference
  formed = plan-formed design request is.case.designed is.case.keeps is.case.held (case-faultless is.case) (case-fresh is.case)

  begun-typed : IsState all begin.state
  begun-typed = states-with models (plan_reference design request) state request.bridges typed

  behind-run : IsRunFrom all begin fed.trace.columns (n - cycle) behind
  behind-run =
      IsRunFrom-along all (circuit_order design request models) begin fed.trace.columns (n - cycle) (circuit-formed design request models can) (case-ordered is.case) begun-typed
      (λ t lt.
      subst (λ u. IsInputs all (inputs_at fed.trace.columns u)) (later-is cycle t)
      (is.columns.inputs (cycle + t) (omega (arith, lt, within))))

  dropped : behind ≡ drop cycle rows
  dropped = sym (ap (λ k. drop k rows) (sym (length-replicate {A = List ℕ} cycle [])) ∙ drop-append_seam (replicate cycle []) behind)

  empty-before : (t s : ℕ) → t < cycle → value_at (row_at rows t) s ≡ 0
  empty-before t s lt =
      ap (λ (row : List ℕ). value_at row s)
      (get_or_append_left (replicate cycle []) behind [] t (omega (arith, lt, length-replicate {A = List ℕ} cycle [])) ∙ get_or-replicate cycle t [] [] lt)

  resumed-run : AreRows all begin fed.trace.columns n rows
  resumed-run =
      record {
        begun = within;
        count = omega (arith, length-append (replicate cycle []) behind, length-replicate {A = List ℕ} cycle [], behind-run.count, within);
        before = empty-before;
        run = subst (IsRunFrom all begin fed.trace.columns (since cycle n)) dropped (subst (λ k. IsRunFrom all begin fed.trace.columns k behind) (since-less cycle n within) behind-run);
      }

  -- it is a run of the reference circuit
  reference-run : AreRows (plan_reference fed.case.design fed.case.cut.request) (start_at (meant_by fed) cycle state) fed.trace.columns fed.trace.rows (resumed_rows models fed cycle state)
  reference-run =
      subst (λ (f : FlatCircuit). AreRows f start fed.trace.columns n rows) all-is
      (subst (λ (from : Start). AreRows all from fed.trace.columns n rows) begin-is resumed-run)

  pub resumed-given : IsGiven fed.case.design fed.case.cut.request models capacity fed.case.cut.plan fed.trace.columns fed.trace.rows (start_at (meant_by fed) cycle state) (resumed_rows models fed cycle state)
  resumed-given =
      record {
        can = can;
        held = is.case.held;
        some = is.case.bounded.0;
        planned = is.case.planned;
        most = is.most;
        given = is.columns;
        typed = typed;
        clocked = refl;
        run = resumed-run;
      }

  -- the network of the plan can begin with the snapshot
  abbrev pub resumed-can : CanBegin fed.case.cut.plan fed.case.design cycle state (start_at (meant_by fed) cycle state) fed.trace.columns fed.trace.rows (resumed_flow models fed cycle state)
  resumed-can =
      record {
        run = record { design = design; request = request; models = models; default = capacity; rows = rows; given = resumed-given; room = is.case.bounded.1; flow_is = refl };
        of_design = refl;
        alone = alone;
        at_cycle = refl;
        in_state = refl;
      }

  -- the text of the run for the ports that are shown
  pub resumed-text : (ports : List Port) → ports ≡ shown_ports fed.case.design fed.case.cut.request
      → text_since (plan_stops fed.case.design fed.case.cut.request) (plan_circuit fed.case.design fed.case.cut.request models) ports (resumed_rows models fed cycle state) cycle (fed.trace.rows - cycle) ≡ rest_text (meant_by fed) cycle (resumed_rows models fed cycle state)
  resumed-text ports e =
      let stops = plan_stops design request in
      let shown = shown_ports design request in
      ap (λ (p : List Port). text_since stops all p rows cycle (n - cycle)) e
      ∙ ap (λ (columns : List (List ℕ)). text_from shown columns cycle (rows_since stops all shown rows cycle (n - cycle))) (shown-are design request models can rows)
      ∙ ap (λ (columns : List (List ℕ)). text_from shown (columns_of (outputs_kept design request) rows) cycle (row_count (λ k. halts stops columns (cycle + k)) (n - cycle))) (stops-shown design request models can rows)

  module _ (snap : List ℕ) (reads : IsSnap (plan_reference fed.case.design fed.case.cut.request) fed.case.design.tree snap cycle state)
      (known : AreKnown (plan_reference fed.case.design fed.case.cut.request) (rows_of (plan_reference fed.case.design fed.case.cut.request) fed.case.design.tree)) where
    resumed-rest : OneSnapshot → PlansAreWhole → HasRest (to_save models) circuit partition trace snap (meant_by fed) cycle state (resumed_rows models fed cycle state)
    resumed-rest once whole =
        record {
          are = fed-are (to_save models) circuit partition trace capacity fed is;
          reads = reads;
          only = λ c s other. once reference design.tree snap c cycle s state formed (whole design request is.case.designed is.case.keeps is.case.whole (case-faultless is.case)) known other reads;
          within = within;
          run = reference-run;
        }

    -- the snapshot can be resumed, and its text is the only one
    pub resumed-so : DesignsAgree → OneSnapshot → PlansAreWhole
        → CanBeResumed (to_save models) circuit partition trace snap × IsOnly (IsResumedText (to_save models) circuit partition trace snap) (rest_text (meant_by fed) cycle (resumed_rows models fed cycle state))
    resumed-so agree once whole = (
      (meant_by fed, cycle, state, fed-are (to_save models) circuit partition trace capacity fed is, reads, within),
      resumed-only agree (meant_by fed) cycle state (resumed_rows models fed cycle state) (resumed-rest once whole),
    )

-- ---- what is reported

-- what is reported for a fault of a text is reported for its line
pub snap-fault : (made : Ordered) (count : ℕ) (bytes slice : List ℕ) (fault : SnapFault) (said : Said) → slice ≡ bytes → fault ≢ snap.NoMemory → IfFault (IsFirstFault made.circuit made.tree slice) fault
    → said ≡ snap_fault (fault_words fault) → TellsSnapOf made count bytes said
snap-fault made count bytes slice (S1 line) said e some first is = inl (line, subst (λ (b : List ℕ). IsFirstFault made.circuit made.tree b line) e first, is)
snap-fault made count bytes slice snap.NoMemory said e some first is = absurd (some refl)

-- what is reported for a snapshot of the reference circuit is reported for its file
pub snap-tells : (models : Models) (circuit partition trace : List ℕ) (capacity : ℕ) (fed : Fed) → IsFed (to_save models) circuit partition trace capacity fed → (made : Ordered) (count : ℕ) (snap : List ℕ) → made.circuit ≡ plan_reference fed.case.design fed.case.cut.request
    → made.tree ≡ fed.case.design.tree → count ≡ fed.trace.rows → (said : Said) → TellsSnapOf made count snap said → TellsNoSnap (to_save models) circuit partition trace snap said ⊎ TellsLate (to_save models) circuit partition trace snap said
snap-tells models circuit partition trace capacity fed is made count snap c t r said (inl (line, first, tells)) =
    inl (
      meant_by fed,
      line,
      fed-are (to_save models) circuit partition trace capacity fed is,
      subst (λ (f : FlatCircuit). IsFirstFault f fed.case.design.tree snap line) c (subst (λ (x : InstanceTree). IsFirstFault made.circuit x snap line) t first),
      tells,
    )
snap-tells models circuit partition trace capacity fed is made count snap c t r said (inr (cycle, state, reads, late, tells)) =
    inr (
      meant_by fed,
      cycle,
      state,
      fed-are (to_save models) circuit partition trace capacity fed is,
      subst (λ (f : FlatCircuit). IsSnap f fed.case.design.tree snap cycle state) c (subst (λ (x : InstanceTree). IsSnap made.circuit x snap cycle state) t reads),
      subst (λ k. k < cycle) r late,
      subst (λ k. said ≡ few_rows cycle k) r tells,
    )
