-- What the trays tell is the text of the run.
use Rattle.std.proofs.Common.{◌≡◌, ℕ, zero, suc, ◌+◌, ◌<◌, List, ◌++◌, length, take, refl, sym, ap, ap₂, ◌∙◌, subst, arith}
use Rattle.std.specs.Prelude.{drop, slice_index}
use Rattle.std.proofs.lemmas.List.{drop-map, length-map, take-map, take_all}
use Rattle.gg_flat.specs.Circuit.{FlatCircuit}
use Rattle.gg_flat.specs.Clock.{Ratio}
use Rattle.gg_flat.specs.Line.{value_at}
use Rattle.gg_flat.specs.Run.{Start, row_at, column}
use Rattle.gg_flat.specs.Streams.{Flow}
use Rattle.gg_flat.specs.declared.ports.Port.{Port}
use Rattle.gg_build.specs.Build.{IsOpeningFrom, IsToRunFrom, run_token}
use Rattle.gg_build.specs.inside.Build.{FromZeros}
use Rattle.gg_cut_plan.specs.Ports.{first_kept_tray, plan_bridges}
use Rattle.gg_cut_plan.specs.declared.plan.Plan.{Plan}
use Rattle.gg_cut_reference.specs.Follows.{plan_token}
use Rattle.gg_cut_reference.specs.whole.Whole.{plan_circuit}
use Rattle.gg_trace.specs.Last.{acts, halts, row_count}
use Rattle.gg_trace.specs.Printing.{row_line, trace_text}
use Rattle.gg_trace.specs.Table.{row_of}
use Rattle.gg_trace.proofs.LastLaws.{rows-agree, rows-within}
use Rattle.gg_rows.specs.Rows.{TraysKeep}
use Rattle.gg_rows.specs.inside.Rows.{outputs_in}
use Rattle.gg_rows.proofs.TrayKeepLemmas.{trays-only}
use Rattle.gg_rows.specs.Printed.{AreKept, plan_stops}
use Rattle.gg_rows.specs.inside.Printed.{is_halt, out_columns, rows_to, shown_columns, text_of}
use Rattle.gg_rows.proofs.PrintLemmas.{outputs-row}

-- texts with the same rows are the same
rows-text : (ports : List Port) (a b : List (List ℕ)) (n : ℕ) → ((t : ℕ) → t < n → row_of a t ≡ row_of b t) → trace_text ports a n ≡ trace_text ports b n
rows-text ports a b zero same = refl
rows-text ports a b (suc n) same =
    let there : 0 + n ≡ n = omega arith in
    ap₂ (λ (front row : List ℕ). front ++ row_line ports (0 + n) row) (rows-text ports a b n (λ t lt. same t (omega (arith, lt)))) (ap (row_of a) there ∙ same n (omega arith) ∙ sym (ap (row_of b) there))

-- what columns that come to the trays tell: as many rows as the run has, and its text
module _ (plan : Plan) (start : Start) (columns : List (List ℕ)) (n : ℕ) (flow : Flow) (run : IsToRunFrom plan start columns n flow) (zeros : FromZeros run) (ports : List Port) (told : ℕ) (kept : List (List ℕ))
    (are : AreKept run.design run.request plan columns n told kept) (count : length kept ≡ length (plan_circuit run.design run.request run.models).outs)
    (ends : told ≡ row_count (halts (plan_stops run.design run.request) (drop (length ports) kept)) n) where
  abbrev stops : List Ratio
  stops = plan_stops run.design run.request

  abbrev all : FlatCircuit
  all = plan_circuit run.design run.request run.models

  abbrev own : List (List ℕ)
  own = out_columns all run.rows

  -- a row that comes to the trays is a row of the run
  row-own : (t : ℕ) → t < told → row_of kept t ≡ row_of own t
  row-own t lt =
      let there : 0 + t ≡ t = omega arith in
      let within : t < n = omega (arith, lt, ends, rows-within (halts stops (drop (length ports) kept)) n) in
      let wide : length (row_of kept t) ≡ length (plan_circuit run.design run.request run.models).outs = length-map kept (λ (column : List ℕ). slice_index column t) ∙ count in
      let outs : length (outputs_in all run.rows t) ≡ length all.outs = length-map all.outs (value_at (row_at run.rows t)) in
      let opens : IsOpeningFrom plan start (run_token run) columns n are.opening = subst (λ (own : Start). IsOpeningFrom plan own (plan_token run.design run.request own.state) columns n are.opening) (sym zeros) are.opens in
      trays-only plan start columns n flow run are.opening opens t (row_of kept t) (omega (arith, wide)) (subst (λ k. TraysKeep are.opening (first_kept_tray (plan_bridges run.design.circuit run.design.tree run.request)) k (row_of kept k)) there (are.rows t lt))
      ∙ take_all (length (row_of kept t)) (outputs_in all run.rows t) (omega (arith, wide, outs))
      ∙ outputs-row all run.rows t (omega (arith, within, run.given.run.count)) all.outs

  -- of the ports and of the stops
  row-shown : (t : ℕ) → t < told → row_of (take (length ports) kept) t ≡ row_of (shown_columns all ports run.rows) t
  row-shown t lt =
      sym (take-map (λ (c : List ℕ). slice_index c t) (length ports) kept)
      ∙ ap (take (length ports)) (row-own t lt)
      ∙ take-map (λ (c : List ℕ). slice_index c t) (length ports) own
      ∙ ap (λ (l : List (List ℕ)). row_of l t) (take-map (column run.rows) (length ports) all.outs)

  row-stops : (t : ℕ) → t < told → halts stops (drop (length ports) kept) t ≡ is_halt stops all ports run.rows t
  row-stops t lt =
      ap (acts stops t)
      (sym (drop-map (λ (c : List ℕ). slice_index c t) (length ports) kept)
      ∙ ap (drop (length ports)) (row-own t lt)
      ∙ drop-map (λ (c : List ℕ). slice_index c t) (length ports) own
      ∙ ap (λ (l : List (List ℕ)). row_of l t) (drop-map (column run.rows) (length ports) all.outs))

  -- there are as many rows
  pub told-rows : told ≡ rows_to (plan_stops run.design run.request) (plan_circuit run.design run.request run.models) ports run.rows n
  told-rows =
      ends ∙ (rows-agree (halts stops (drop (length ports) kept)) (is_halt stops all ports run.rows) n (λ t lt. row-stops t (omega (arith, lt, ends)))).1

  pub shown-text : trace_text ports (take (length ports) kept) told ≡ text_of (plan_stops run.design run.request) (plan_circuit run.design run.request run.models) ports run.rows n
  shown-text =
      rows-text ports (take (length ports) kept) (shown_columns all ports run.rows) told row-shown
      ∙ ap (trace_text ports (shown_columns all ports run.rows)) told-rows
