-- What a run of known files wrote, and one that goes on from a known snapshot.
use Rattle.std.proofs.Common.{◌≡◌, ℕ, List, [], Bool, map, sym, ap, ap₂, ◌∙◌, subst, arith}
use Rattle.std.proofs.lemmas.List.{map-id}
use Rattle.gg_io.specs.Told.{Holds, Told}
use Rattle.gg_flat.proofs.ListLemmas.{map-same}
use Rattle.gg_flat.specs.Circuit.{FlatCircuit}
use Rattle.gg_flat_tree.specs.OutputPorts.{output_ports}
use Rattle.gg_flat.specs.Run.{IsRun, clocked_start, IsRunFrom}
use Rattle.gg_flat.specs.declared.ports.Port.{Port}
use Rattle.gg_flat_tree.specs.Scoped.{stop_signals}
use Rattle.gg_front.specs.Meaning.{MeansDesign}
use Rattle.gg_order.specs.Design.{Ordered}
use Rattle.gg_partfile.specs.Partition.{IsPartition}
use Rattle.gg_partfile.specs.declared.request.Request.{Request}
use Rattle.gg_cut_plan.specs.Bridges.{Models}
use Rattle.gg_cut_plan.specs.Clocks.{ratios_of}
use Rattle.gg_cut_plan.specs.Direct.{plan_hub}
use Rattle.gg_cut_reference.specs.Links.{taken_as}
use Rattle.gg_cut_reference.proofs.NothingLemmas.{plan-plain, plan-taken-same}
use Rattle.gg_rows.specs.Printed.{plan_stops}
use Rattle.gg_io.specs.Ends.{Loads}
use Rattle.gg_io.specs.Order.{IsJudgement, IsOnly, IsWritten, Order}
use Rattle.gg_io.specs.Said.{Said}
use Rattle.gg_io.proofs.EndsLemmas.{Failed, Stopped, Wanted, WhyEnds, Wrote, ends-why, unjudged-0}
use Rattle.gg_io.proofs.OrderLemmas.{Cut, Judged, Lost, Why, told-bytes, why-stops}
use Rattle.gg_trace.specs.Last.{halts, row_count}
use Rattle.gg_trace.specs.Printing.{trace_text}
use Rattle.gg_trace.specs.Trace.{Columns}
use Rattle.gg_words.specs.Meaning.{IsCommand}
use Rattle.gg_words.specs.declared.command.Cmd.{Cmd}
use Rattle.gg_words.specs.declared.command.Cmd.TheVariants.{Resume, Run}
use Rattle.golden_commands.specs.Commands.{order_of}
use Rattle.golden_commands.specs.Outcome.{Asked, Outcome, Unasked, WantsMemoryFirst}
use Rattle.golden_commands.specs.Partition.{Known, partition_file_for, to_run, to_save}
use Rattle.golden_commands.specs.Resumed.{IsResumedText, snap_file_for}
use Rattle.golden_commands.specs.Run.{IsPlainText, IsTextOf, circuit_file, trace_file_for}
use Rattle.golden_commands.specs.RunText.{IsRunBy, IsRunText, columns_of, outputs_of, run_rows}
use Rattle.golden_commands.proofs.AloneLemmas.{fed-alone, kept-alone, run-alone, shown-alone}
use Rattle.golden.proofs.CauseLemmas.{ExactOrders, OneMeaning, asks-once}
use Rattle.golden.proofs.StopLemmas.{ratios-plain, rows-plain}
use Rattle.golden.proofs.TickLemmas.{AreAlways, always-of, run-without-ratios}

-- bytes hold at most one request
abbrev pub OneRequest : Type 0
OneRequest = (bytes : List ℕ) (one other : Request) → IsPartition bytes one → IsPartition bytes other → one ≡ other

-- no file is refused with status 0
refused-some : {files : List ℕ → Told} {lost cut : List ℕ → Type 0} {order : Order} {said : Said} → Why files lost cut order said → said.status ≡ 0 → ⊥
refused-some (Lost name is rose) e = let status = ap (λ (said : Said). said.status) is in omega (arith, status, e)
refused-some (Cut status name rose stops) e = omega (arith, status, e)
refused-some (Judged status stops) e = unjudged-0 (subst IsJudgement e status)

-- ---- the whole text

module _ (models : Models) (loads : Loads) (unwritten : Type 0) (exact : ExactOrders models) where
  why-0 : (command : Cmd) (status : ℕ) (text line : List ℕ) → WhyEnds loads unwritten (order_of models command) status text line → status ≡ 0 → IsWritten loads.files (order_of models command) text
  why-0 command status text line (Stopped said stops is tells none) zero =
      absurd (refused-some (why-stops loads.files loads.lost loads.cut (order_of models command) said (exact command) stops) (sym is ∙ zero))
  why-0 command status text line (Wrote written is) zero = written
  why-0 command status text line (Failed failed whole written is) zero = absurd (omega (arith, is, zero))
  why-0 command status text line (Wanted is) zero = absurd (omega (arith, is, zero))

  -- at status 0 the text of the command that was asked for is written whole
  pub written-0 : OneMeaning → (words : List (List ℕ)) (status : ℕ) (text line : List ℕ) → Outcome models words loads unwritten status text line
      → (command : Cmd) → IsCommand words command → status ≡ 0 → IsWritten loads.files (order_of models command) text
  written-0 once words status text line (Asked other others ends) command asks zero =
      subst (λ (c : Cmd). IsWritten loads.files (order_of models c) text) (asks-once once words other command others asks)
      (why-0 other status text line (ends-why loads unwritten (order_of models other) status text line ends) zero)
  written-0 once words status text line (Unasked none said tells says nothing) command asks zero = absurd (none (command, asks))
  written-0 once words status text line (WantsMemoryFirst says nothing) command asks zero = absurd (omega (arith, says.0, zero))

-- the text of a run whose files are known is that of their bytes
pub run-known : (models : Models) (files : List ℕ → Told) (circuit partition trace : List ℕ) (capacity workers : ℕ) (mono : Bool) (c p t text : List ℕ)
    → files circuit ≡ Holds c → files partition ≡ Holds p → files trace ≡ Holds t
    → IsWritten files (order_of models (Run circuit partition trace capacity workers mono)) text → IsOnly (IsTextOf (to_run models) c p t) text
run-known models files circuit partition trace capacity workers mono c p t text hc hp ht (c', can, fits, (p', can', fits', (t', can'', fits'', only))) =
    let one : c' ≡ c = told-bytes files (circuit_file circuit) c c' hc can in
    let two : p' ≡ p = told-bytes files (partition_file_for (to_run models) c' partition) p p' hp can' in
    let three : t' ≡ t = told-bytes files (trace_file_for c' p' trace) t t' ht can'' in
    subst (λ (b : List ℕ). IsOnly (IsTextOf (to_run models) b p t) text) one
    (subst (λ (b : List ℕ). IsOnly (IsTextOf (to_run models) c' b t) text) two
    (subst (λ (b : List ℕ). IsOnly (IsTextOf (to_run models) c' p' b) text) three only))

-- the same of a run that goes on from a snapshot
pub resume-known : (models : Models) (files : List ℕ → Told) (circuit partition trace snap : List ℕ) (capacity workers : ℕ) (c p t s text : List ℕ)
    → files circuit ≡ Holds c → files partition ≡ Holds p → files trace ≡ Holds t → files snap ≡ Holds s
    → IsWritten files (order_of models (Resume circuit partition trace snap capacity workers)) text → IsOnly (IsResumedText (to_save models) c p t s) text
resume-known models files circuit partition trace snap capacity workers c p t s text hc hp ht hs (c', can, fits, (p', can', fits', (t', can'', fits'', (s', can''', fits''', only)))) =
    let one : c' ≡ c = told-bytes files (circuit_file circuit) c c' hc can in
    let two : p' ≡ p = told-bytes files (partition_file_for (to_save models) c' partition) p p' hp can' in
    let three : t' ≡ t = told-bytes files (trace_file_for c' p' trace) t t' ht can'' in
    let four : s' ≡ s = told-bytes files (snap_file_for (to_save models) c' p' t' snap) s s' hs can''' in
    subst (λ (b : List ℕ). IsOnly (IsResumedText (to_save models) b p t s) text) one
    (subst (λ (b : List ℕ). IsOnly (IsResumedText (to_save models) c' b t s) text) two
    (subst (λ (b : List ℕ). IsOnly (IsResumedText (to_save models) c' p' b s) text) three
    (subst (λ (b : List ℕ). IsOnly (IsResumedText (to_save models) c' p' t' b) text) four only)))

-- ---- a request that asks for no pipe and no bridge and gives no clocks

module _ (models : Models) (design : Ordered) (request : Request) (none : request.pipe ≡ []) (always : request.clocks ≡ []) (alone : request.bridges ≡ []) where
  -- each signal is taken as itself
  all-plain : (signals : List ℕ) → map (taken_as (plan_hub design.circuit design.tree request)) signals ≡ signals
  all-plain signals = map-same (taken_as (plan_hub design.circuit design.tree request)) (λ s. s) signals (plan-taken-same design request none) ∙ map-id signals

  -- and each clock has an edge in each cycle
  own-run : (columns : List (List ℕ)) (n : ℕ) (rows : List (List ℕ)) → IsRunBy design request models columns n rows → IsRun design.circuit columns n rows
  own-run columns n rows run =
      let ratios = ratios_of design.tree request in
      run-without-ratios design.circuit ratios (subst AreAlways (sym (ratios-plain design request always)) (always-of design.tree.clocks)) columns n rows
      (subst (λ (f : FlatCircuit). IsRunFrom f (clocked_start f ratios) columns n rows) (plan-plain design request none) (run-alone design request alone models columns n rows run))

  -- so the text of the run is that of the flat circuit's own
  pub text-plain : (circuit trace text : List ℕ) → MeansDesign circuit design → IsRunText design request models trace text → IsPlainText circuit trace text
  text-plain circuit trace text means ran =
      record {
        design = design;
        means = means;
        cycles = ran.cycles;
        columns = ran.columns;
        rows = ran.rows;
        feeds = subst (λ (ports : List Port). Columns ports trace ran.cycles ran.columns) (fed-alone design request alone) ran.feeds;
        run = own-run ran.columns ran.cycles ran.rows ran.run;
        is = ran.is
            ∙ ap₂ (λ (ports : List Port) (outs : List ℕ). trace_text ports (columns_of outs ran.rows) (run_rows design request ran.rows ran.cycles)) (shown-alone design request alone) (kept-alone design request alone)
            ∙ ap₂ (λ (outs stops : List ℕ). trace_text (output_ports design.circuit design.tree) (columns_of outs ran.rows) (row_count (halts (plan_stops design request) (columns_of stops ran.rows)) ran.cycles))
            (all-plain (outputs_of design.tree)) (all-plain (stop_signals design.tree))
            ∙ ap (λ k. trace_text (output_ports design.circuit design.tree) (columns_of (outputs_of design.tree) ran.rows) k) (rows-plain design request always (columns_of (stop_signals design.tree) ran.rows) ran.cycles);
      }

-- the text of a run whose partition asks for no pipe and no bridge and gives no clocks
pub run-plain : (known : Known) → OneRequest → (c p t text : List ℕ) (request : Request) → IsPartition p request → request.pipe ≡ [] → request.clocks ≡ [] → request.bridges ≡ [] → IsTextOf known c p t text → IsPlainText c t text
run-plain known one c p t text request asks none always alone (design, means, (other, others, ran)) =
    let same = one p other request others asks in
    text-plain known.models design other (ap (λ (r : Request). r.pipe) same ∙ none) (ap (λ (r : Request). r.clocks) same ∙ always) (ap (λ (r : Request). r.bridges) same ∙ alone) c t text means ran
