-- The summary of a demo's network is that of what its three texts mean, and the only one.
use Rattle.std.proofs.Common.{◌≡◌, ℕ, ◌+◌, ◌-◌, ◌*◌, ◌<◌, ◌≤◌, List, [], ◌++◌, length, sym, ap, ◌∙◌, subst, arith}
use Rattle.std.specs.Prelude.{Result, slice_index}
use Rattle.std.proofs.lemmas.List.{length-map}
use Rattle.gg_build.specs.inside.Build.{NeedsNone}
use Rattle.gg_build.specs.Build.{circuit_order, circuit_rows}
use Rattle.gg_build.proofs.AloneLemmas.{needs-none}
use Rattle.gg_rows.specs.CircuitText.{demo_circuit}
use Rattle.gg_rows.specs.PartitionText.{demo_partition}
use Rattle.gg_rows.specs.SummaryText.{demo_summary, fold_line, folded, last_line, network_line, size_line}
use Rattle.gg_rows.specs.TraceText.{demo_cycles, demo_trace}
use Rattle.gg_cut_plan.specs.Direct.{plan_hub}
use Rattle.gg_flat.specs.Circuit.{FlatCircuit}
use Rattle.gg_net.specs.inside.Fits.{HasLayout, marking_of}
use Rattle.gg_net.specs.markings.Marking.{Layout, Marking, opening_marking}
use Rattle.gg_measure.proofs.NetLemmas.{can-run, left-is}
use Rattle.gg_net.specs.Network.{frame_of, kind_of}
use Rattle.gg_order.specs.Design.{Ordered}
use Rattle.gg_net.specs.inside.Counts.{counts_of}
use Rattle.gg_net.specs.markings.Measure.{all_dues}
use Rattle.gg_net.specs.inside.Measure.{left}
use Rattle.gg_net.proofs.MarkingsLemmas.EndLemmas.{opening-left}
use Rattle.gg_cut_reference.specs.Follows.{plan_start}
use Rattle.gg_cut_reference.specs.Links.{taken_as}
use Rattle.gg_cut_reference.specs.whole.Whole.{plan_circuit}
use Rattle.gg_build.specs.plan.Built.{IsGiven}
use Rattle.gg_rows.specs.inside.Sums.{AreSums, FoldsRows, sums_text}
use Rattle.gg_rows.specs.Sums.{output_column}
use Rattle.gg_rows.specs.declared.sums.Sums.{Sums}
use Rattle.gg_io.specs.Ends.{Loads, Puts}
use Rattle.gg_io.specs.inside.Endings.{EndedOn, PrintsOrStops, PrintsText, Stops, Wants}
use Rattle.gg_io.specs.Order.{IsOnly, Write}
use Rattle.gg_io.specs.declared.endings.Ending.{Ending}
use Rattle.gg_io.specs.declared.endings.Ending.TheVariants.{Refused, Unwritten, NoMemory}
use Rattle.gg_io.proofs.EndingLemmas.{only-ends, wants-ends}
use Rattle.golden_commands.specs.Case.{IsFed}
use Rattle.golden_commands.specs.Demo.{IsDemoText, demo_capacity, setting_summary}
use Rattle.golden_commands.specs.Partition.{to_run}
use Rattle.golden_commands.specs.Replay.{IsSetting, Setting}
use Rattle.golden_commands.specs.Replayed.{fed_flow}
use Rattle.golden_commands.specs.declared.case.Fed.{Fed}
use Rattle.golden_commands.proofs.AloneLemmas.{circuit-alone}
use Rattle.golden_commands.proofs.CaseLemmas.{case-can, case-ordered}
use Rattle.golden_commands.proofs.FedLemmas.{fed-meaning, to-replay}
use Rattle.golden_commands.proofs.FedLemmas as fed_setting
use Rattle.golden_commands.proofs.HandedLemmas.{no-models}
use Rattle.golden_commands.proofs.PartitionLemmas.{DesignsAgree}
use Rattle.golden_commands.proofs.ReplayLemmas.{AreSet, are-set, begins, laid, setting_of}
use Rattle.golden_commands.proofs.SettingLemmas.{circuits-same, cycles-same, layouts-same, rows-same}
use Rattle.golden_commands.proofs.TextLemmas.{OneRun}

-- ---- lines

-- the summary that has these machines, channels and steps, and what is kept of these columns
summary-of : (seed size machines channels steps : ℕ) (ys zs : List ℕ) (sums : Sums) → sums.machines ≡ machines → sums.channels ≡ channels → sums.steps ≡ steps
    → sums.fold.last_y ≡ slice_index ys (demo_cycles size - 1) → sums.fold.last_z ≡ slice_index zs (demo_cycles size - 1)
    → sums.fold.all_y ≡ folded ys (demo_cycles size) → sums.fold.all_z ≡ folded zs (demo_cycles size)
    → sums_text seed size sums ≡ demo_summary seed size machines channels steps ys zs
summary-of seed size machines channels steps ys zs sums a b c ly lz ay az =
    let network : network_line sums.machines sums.channels sums.steps ≡ network_line machines channels steps =
    ap (λ x. network_line x sums.channels sums.steps) a ∙ ap (λ x. network_line machines x sums.steps) b ∙ ap (network_line machines channels) c in
    let last : last_line sums.fold.last_y sums.fold.last_z ≡ last_line (slice_index ys (demo_cycles size - 1)) (slice_index zs (demo_cycles size - 1)) =
    ap (λ x. last_line x sums.fold.last_z) ly ∙ ap (last_line (slice_index ys (demo_cycles size - 1))) lz in
    let all : fold_line sums.fold.all_y sums.fold.all_z ≡ fold_line (folded ys (demo_cycles size)) (folded zs (demo_cycles size)) =
    ap (λ x. fold_line x sums.fold.all_z) ay ∙ ap (fold_line (folded ys (demo_cycles size))) az in
    ap (λ (x : List ℕ). size_line seed size ++ x ++ last_line sums.fold.last_y sums.fold.last_z ++ fold_line sums.fold.all_y sums.fold.all_z) network
    ∙ ap (λ (x : List ℕ). size_line seed size ++ network_line machines channels steps ++ x ++ fold_line sums.fold.all_y sums.fold.all_z) last
    ∙ ap (λ (x : List ℕ). size_line seed size ++ network_line machines channels steps ++ last_line (slice_index ys (demo_cycles size - 1)) (slice_index zs (demo_cycles size - 1)) ++ x) all

-- ---- one summary

-- the summary by the circuit, its rows, the cycles and the layout
abbrev summary_by : (seed size : ℕ) → FlatCircuit → (rows : List (List ℕ)) → (n : ℕ) → Layout → List ℕ
summary_by seed size circuit rows n layout =
    demo_summary seed size (length layout.turns) (length layout.links) (n * (2 * length layout.links + length layout.turns + all_dues layout)) (output_column circuit rows 0) (output_column circuit rows 1)

-- settings that have these in common have the same summary
summary-same : (seed size : ℕ) (a b : Setting) → plan_circuit a.meant.design a.meant.request [] ≡ plan_circuit b.meant.design b.meant.request [] → a.rows ≡ b.rows → a.meant.cycles ≡ b.meant.cycles → a.layout ≡ b.layout → setting_summary seed size a ≡ setting_summary seed size b
summary-same seed size a b circuits rows cycles layouts =
    ap (λ (c : FlatCircuit). summary_by seed size c a.rows a.meant.cycles a.layout) circuits
    ∙ ap (λ (r : List (List ℕ)). summary_by seed size (plan_circuit b.meant.design b.meant.request []) r a.meant.cycles a.layout) rows
    ∙ ap (λ n. summary_by seed size (plan_circuit b.meant.design b.meant.request []) b.rows n a.layout) cycles
    ∙ ap (λ (l : Layout). summary_by seed size (plan_circuit b.meant.design b.meant.request []) b.rows b.meant.cycles l) layouts

-- ---- the network of a demo

module _ (seed size : ℕ) (fed : Fed) (is : IsFed (to_run []) (demo_circuit size) (demo_partition size) (demo_trace seed size) demo_capacity fed) where
  abbrev circuit : List ℕ
  circuit = demo_circuit size

  abbrev partition : List ℕ
  partition = demo_partition size

  abbrev trace : List ℕ
  trace = demo_trace seed size

  abbrev design : Ordered
  design = fed.case.design

  abbrev n : ℕ
  n = fed.trace.rows

  -- the run of the plan's circuit, computed along its order
  abbrev ran : List (List ℕ)
  ran = circuit_rows design fed.case.cut.request [] fed.trace.columns n

  abbrev whole_circuit : FlatCircuit
  whole_circuit = plan_circuit design fed.case.cut.request []

  given : IsGiven design fed.case.cut.request [] demo_capacity fed.case.cut.plan fed.trace.columns n (plan_start design fed.case.cut.request) ran
  given = fed_setting.given (to_run []) circuit partition trace demo_capacity fed is

  -- the plan needs no bridge, since no model is known
  pub demo-none : NeedsNone fed.case.cut.plan
  demo-none = needs-none design fed.case.cut.request [] demo_capacity fed.case.cut.plan is.case.planned (no-models design fed.case.cut.request (case-can is.case))

  -- its circuit has as many out-signals as the design's
  pub demo-two : 2 ≤ length fed.case.design.circuit.outs → 2 ≤ length (plan_circuit fed.case.design fed.case.cut.request []).outs
  demo-two two =
      let request = fed.case.cut.request in
      let alone = no-models design request (case-can is.case) in
      let same = ap (λ (f : FlatCircuit). length f.outs) (circuit-alone design request alone []) in
      omega (arith, two, same, length-map design.circuit.outs (taken_as (plan_hub design.circuit design.tree request)))

  module _ (agree : DesignsAgree) (once : OneRun) (some : 0 < size) (whole : n ≡ demo_cycles size) (sums : Sums)
      (are : AreSums (to-replay (to_run []) circuit partition trace demo_capacity fed is).run sums) where
    own : (layout : Layout) × HasLayout (frame_of are.net) layout × AreSet design fed.case.cut.request [] demo_capacity n fed.trace.columns ran layout × (marking_of are.net ≡ opening_marking layout 0)
    own =
        let l = laid design fed.case.cut.request [] demo_capacity fed.case.cut.plan fed.trace.columns n ran given are.net are.opens are.kept in (
          l.0,
          l.1.1,
          are-set design fed.case.cut.request [] demo_capacity fed.case.cut.plan fed.trace.columns n ran given are.net are.opens are.kept,
          begins design fed.case.cut.request [] demo_capacity fed.case.cut.plan fed.trace.columns n ran given are.net are.opens are.kept,
        )

    abbrev layout : Layout
    layout = own.0

    abbrev a : Setting
    a = setting_of design fed.case.cut.request n fed.trace.columns ran layout

    machines : sums.machines ≡ length layout.turns
    machines = are.machines ∙ sym (length-map are.net.machines kind_of) ∙ sym own.1.machines

    channels : sums.channels ≡ length layout.links
    channels = are.channels ∙ sym own.1.channels

    steps : sums.steps ≡ n * (2 * length layout.links + length layout.turns + all_dues layout)
    steps =
        are.steps ∙ left-is (fed_flow [] fed) are.net are.kept layout own.1
        ∙ ap (λ (m : Marking). left layout (counts_of layout m)) own.3
        ∙ opening-left layout (can-run (fed_flow [] fed) are.net are.kept layout own.1) 0 (omega arith)
        ∙ ap (λ k. k * (2 * length layout.links + length layout.turns + all_dues layout)) (let e : layout.end - 0 ≡ n = omega (arith, own.2.laid.end) in e)

    text : sums_text seed size sums ≡ setting_summary seed size a
    text =
        let f = subst (λ k. FoldsRows whole_circuit a.rows k sums.fold) whole are.folds in
        let lt : 0 < 4 * size = omega (arith, some) in
        summary-of seed size (length layout.turns) (length layout.links) (n * (2 * length layout.links + length layout.turns + all_dues layout))
        (output_column whole_circuit a.rows 0) (output_column whole_circuit a.rows 1) sums machines channels steps (f.last_y lt) (f.last_z lt) f.all_y f.all_z

    -- the text for these sums is the summary of the demo, and there is no other
    pub sums-only : IsOnly (IsDemoText seed size) (sums_text seed size sums)
    sums-only =
        let x : IsSetting (to_run []) circuit partition trace demo_capacity a = record { is = fed-meaning (to_run []) circuit partition trace demo_capacity fed is; run = own.2.run; laid = own.2.laid } in
        record {
          is = (a, x, text);
          only = λ other told.
              let b = told.0 in
              let y = told.1 in
              told.2
              ∙ summary-same seed size b a (circuits-same (to_run []) agree circuit partition trace demo_capacity b a y x)
              (rows-same (to_run []) agree once circuit partition trace demo_capacity a (circuit_order design fed.case.cut.request []) (case-ordered is.case) x is.feeds b y)
              (cycles-same (to_run []) agree circuit partition trace demo_capacity b a y x) (layouts-same (to_run []) agree circuit partition trace demo_capacity b a y x)
              ∙ sym text;
        }

-- ---- how a demo ends

-- the summary was printed, or writing stopped, or memory ran out
pub demo-ends : {T : Type 0} {loads : Loads} {out : Puts} {IsText : List ℕ → Type 0} {r : Result T Ending} → PrintsOrStops out (IsOnly IsText) (λ said. ⊥) r → EndedOn loads out (Write IsText) r
demo-ends {r = r} (PrintsText text only prints) = only-ends r (text, only, prints)
demo-ends (Stops (Refused said) ends says none) = absurd says
demo-ends (Stops Unwritten ends says none) = absurd says
demo-ends (Stops NoMemory ends says none) = wants-ends none ends
demo-ends (Wants ends none) = wants-ends none ends
