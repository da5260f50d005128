-- The run of a plan's network that was printed row by row: its text, and what came to the trays.
use Rattle.std.proofs.Common.{◌≡◌, ℕ, ◌+◌, ◌-◌, ◌<◌, List, Bool, length, sym, ap, ap₂, ◌∙◌, subst, arith}
use Rattle.std.specs.Prelude.{Result, Ok}
use Rattle.std.specs.Io.KnownBytes.{append_known}
use Rattle.gg_flat.specs.Clock.{Ratio}
use Rattle.gg_flat.specs.Run.{Start}
use Rattle.gg_flat.specs.Streams.{Flow}
use Rattle.gg_flat_tree.specs.Tree.{InstanceTree}
use Rattle.gg_flat.specs.declared.ports.Port.{Port}
use Rattle.gg_build.specs.Build.{IsToRunFrom}
use Rattle.gg_cut_plan.specs.Clocks.{stop_ratios}
use Rattle.gg_cut_plan.specs.declared.plan.Plan.{Plan}
use Rattle.gg_io.specs.declared.output.Sink
use Rattle.gg_net.specs.Network.{Network}
use Rattle.gg_order.specs.Design.{Ordered}
use Rattle.gg_cut_reference.specs.whole.Whole.{plan_circuit}
use Rattle.gg_io.specs.inside.Endings.{PrintsOn}
use Rattle.gg_io.specs.WentOn.{SinkWentOn}
use Rattle.gg_io.specs.declared.endings.Ending.{Ending}
use Rattle.gg_trace.specs.Printing.{header_line}
use Rattle.gg_trace.proofs.LastLaws.{rows-within}
use Rattle.gg_rows.specs.inside.Printed.{PrintsRow, RowForm, is_halt, out_columns, rows_since, text_since}
use Rattle.gg_rows.specs.Printed.{RowsAreKept, plan_stops}
use Rattle.gg_rows.specs.Rows.{TraysKeep}
use Rattle.gg_rows.specs.inside.Rows.{run_row}
use Rattle.gg_rows.specs.inside.Taken.{Ran}
use Rattle.gg_rows.proofs.PrintLemmas.{outputs-row, took-count, took-text}

-- the ratios of the stops' clocks, from the design and the plan
pub stops-are : {plan : Plan} {start : Start} {columns : List (List ℕ)} {n : ℕ} {flow : Flow} (run : IsToRunFrom plan start columns n flow) (design : Ordered) (tree : InstanceTree) (ratios stops : List Ratio)
    → run.design ≡ design → tree ≡ design.tree → ratios ≡ plan.ratios → stops ≡ stop_ratios tree ratios → stops ≡ plan_stops run.design run.request
stops-are run design tree ratios stops same its given is =
    is ∙ ap₂ stop_ratios (its ∙ sym (ap (λ (d : Ordered). d.tree) same)) (given ∙ run.given.planned.ratios)

module _ {K : Type 0} (sink : Sink.Ghosts K) {plan : Plan} {start : Start} {columns : List (List ℕ)} {n : ℕ} {flow : Flow} (run : IsToRunFrom plan start columns n flow) (begin : ℕ) (from : start.cycle ≡ begin)
    (told : RowForm) (ports : List Port) (is : told ≡ record { ports = ports; stops = plan_stops run.design run.request }) (opening : Network) (first : ℕ) (before after : K) where
  ran-so : {result : Result Bool Ending} → Ran (PrintsRow sink told.stops told.ports) (run_row run) opening first begin (n - begin) before after result
      → Ran (PrintsRow sink (plan_stops run.design run.request) ports) (run_row run) opening first begin (n - begin) before after result
  ran-so {result = result} ran = subst (λ (form : RowForm). Ran (PrintsRow sink form.stops form.ports) (run_row run) opening first begin (n - begin) before after result) is ran

  -- the run has its rows from there on
  counted : length run.rows ≡ begin + (n - begin)
  counted = omega (arith, run.given.run.count, run.given.run.begun, from)

  -- the header and the rows are the text
  pub ran-text : (first_out : K) → sink.written before ≡ append_known (sink.written first_out) (header_line ports) → SinkWentOn sink first_out before
      → {result : Result Bool Ending} → Ran (PrintsRow sink told.stops told.ports) (run_row run) opening first begin (n - begin) before after result
      → PrintsOn sink first_out after (text_since (plan_stops run.design run.request) (plan_circuit run.design run.request run.models) ports run.rows begin (n - begin)) result
  ran-text first_out header on ran = took-text sink (plan_stops run.design run.request) (plan_circuit run.design run.request run.models) ports run.rows begin (n - begin) counted before first_out header on (ran-so ran).took

  -- the rows came to the trays
  pub ran-kept : {all : Bool} → Ran (PrintsRow sink told.stops told.ports) (run_row run) opening first begin (n - begin) before after (Ok all)
      → RowsAreKept opening first begin (rows_since (plan_stops run.design run.request) (plan_circuit run.design run.request run.models) ports run.rows begin (n - begin)) (out_columns (plan_circuit run.design run.request run.models) run.rows)
  ran-kept ran t lt =
      let reference = plan_circuit run.design run.request run.models in
      let stops = plan_stops run.design run.request in
      let counts = took-count sink stops reference ports run.rows begin (n - begin) counted before (ran-so ran).took in
      let within : t < n - begin = omega (arith, lt, rows-within (λ k. is_halt stops reference ports run.rows (begin + k)) (n - begin)) in
      subst (TraysKeep opening first (begin + t)) (outputs-row reference run.rows (begin + t) (omega (arith, within, counted)) reference.outs) ((ran-so ran).kept t (omega (arith, lt, counts)))
