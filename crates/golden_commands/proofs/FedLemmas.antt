-- How the steps of a file end for what was read: the text that is printed is the only one, and what is reported is right.
use Rattle.std.proofs.Common.{◌≡◌, ◌↔◌, ℕ, ◌+◌, ◌*◌, ◌<◌, ◌≤◌, List, length, take, refl, sym, ap, ap₂, ◌∙◌, subst}
use Rattle.std.specs.Prelude.{Option, Result, Ok, drop}
use Rattle.std.proofs.lemmas.List.{drop-map, length-map, take-map}
use Rattle.gg_flat.specs.Run.{column}
use Rattle.gg_flat.specs.Clock.{Ratio}
use Rattle.gg_flat_tree.specs.Tree.{InstanceTree}
use Rattle.gg_flat.specs.declared.ports.Port.{Port}
use Rattle.gg_order.specs.Design.{Ordered}
use Rattle.gg_partfile.specs.declared.request.Request.{Request}
use Rattle.gg_cut_plan.specs.Clocks.{stop_ratios}
use Rattle.gg_cut_plan.specs.Bridges.{Models}
use Rattle.gg_cut_plan.specs.declared.plan.Plan.{Plan}
use Rattle.gg_net.specs.inside.Fits.{marking_of}
use Rattle.gg_net.specs.markings.Marking.{Layout, Marking}
use Rattle.gg_net.specs.markings.Measure.{all_dues}
use Rattle.gg_front.specs.inside.Paths.{HavePaths}
use Rattle.gg_cut_reference.specs.whole.Whole.{CanBridge, plan_circuit}
use Rattle.gg_cut_reference.specs.Follows.{plan_start}
use Rattle.gg_build.specs.plan.Built.{IsGiven}
use Rattle.gg_build.specs.Build.{circuit_order, circuit_rows}
use Rattle.gg_build.proofs.AlongLemmas.{given-along}
use Rattle.gg_replay.specs.steps_file.Steps.{steps_of}
use Rattle.gg_io.specs.Said.{Said}
use Rattle.gg_io.specs.inside.Endings.{Prints}
use Rattle.gg_io.specs.declared.endings.Ending.{Ending}
use Rattle.gg_trace.specs.Fields.{text_lines}
use Rattle.gg_trace.specs.Last.{halts, row_count}
use Rattle.gg_trace.specs.Printing.{trace_text}
use Rattle.golden_commands.specs.inside.Case.{AreFedToTrays}
use Rattle.golden_commands.specs.Case.{IsFed}
use Rattle.golden_commands.specs.Meaning.{AreMeant, IsMeaning}
use Rattle.golden_commands.specs.Network.{IsNetworkText}
use Rattle.golden_commands.specs.Partition.{Known}
use Rattle.golden_commands.specs.Replay.{CanGoOn, GoesOnUntilAll, IsReplayText, IsSetting, Setting, TellsSteps, all_steps, naming_of, replay_text, replayed}
use Rattle.golden_commands.specs.inside.Replay.{IsReplayed}
use Rattle.golden_commands.specs.inside.Replayed.{AreFewNames, IsToReplay}
use Rattle.golden_commands.specs.Replayed.{IsNetText, TellsStop, case_naming, fed_flow}
use Rattle.gg_rows.specs.inside.Printed.{out_columns, rows_to, text_of}
use Rattle.gg_rows.specs.Printed.{plan_stops}
use Rattle.golden_commands.specs.Run.{IsTextOf}
use Rattle.golden_commands.specs.inside.Runs.{meant_by}
use Rattle.golden_commands.specs.RunText.{IsRunBy, columns_of, outputs_kept, run_rows, run_text, shown_ports, stops_kept}
use Rattle.golden_commands.specs.declared.case.Fed.{Fed}
use Rattle.golden_commands.proofs.CaseLemmas.{case-can, case-faultless, case-ordered, case-paths}
use Rattle.golden_commands.proofs.BeginLemmas.{run-of}
use Rattle.golden_commands.proofs.FewLemmas.{few-names}
use Rattle.golden_commands.proofs.GoOnLemmas.{follows-few, line-follows}
use Rattle.golden_commands.proofs.PartitionLemmas.{DesignsAgree}
use Rattle.golden_commands.proofs.ReplayLemmas.{AreSet, are-set, frame-has, laid, naming-is, setting_of, stopped-so, text-is, went, wires-count}
use Rattle.golden_commands.proofs.SettingLemmas.{designs-alike, layouts-same, leads-same, ok-same, requests-same, rows-same, texts-same}
use Rattle.golden_commands.proofs.TextLemmas.{OneRun}
use Rattle.golden_commands.proofs.WholePortLemmas.{shown-are, shown-few, stops-shown, whole-text}

-- ---- what a circuit, a partition and a trace that were read give

module _ (known : Known) (circuit partition trace : List ℕ) (capacity : ℕ) (fed : Fed) (is : IsFed known circuit partition trace capacity fed) where
  abbrev design : Ordered
  design = fed.case.design

  abbrev request : Request
  request = fed.case.cut.request

  abbrev plan : Plan
  plan = fed.case.cut.plan

  abbrev columns : List (List ℕ)
  columns = fed.trace.columns

  abbrev n : ℕ
  n = fed.trace.rows

  abbrev models : Models
  models = known.models

  -- the models of the bridges can be joined in
  can : CanBridge fed.case.design fed.case.cut.request known.models
  can = case-can is.case

  -- the run, computed along an order of the plan's circuit
  abbrev rows : List (List ℕ)
  rows = circuit_rows design request models columns n

  pub given : IsGiven fed.case.design fed.case.cut.request known.models capacity fed.case.cut.plan fed.trace.columns fed.trace.rows (plan_start fed.case.design fed.case.cut.request) (circuit_rows fed.case.design fed.case.cut.request known.models fed.trace.columns fed.trace.rows)
  given = given-along design request models capacity plan columns n can is.case.held is.case.planned is.case.bounded.0 is.case.bounded.1 is.most is.columns

  -- the plan's network can be built
  abbrev pub to-replay : IsToReplay fed (fed_flow known.models fed)
  to-replay =
      record {
        run = record { design = design; request = request; models = models; default = capacity; rows = rows; given = given; room = is.case.bounded.1; flow_is = refl };
        of_design = refl;
        of_request = refl;
      }

  -- the three files mean what was read
  pub fed-meaning : IsMeaning known circuit partition trace (meant_by fed)
  fed-meaning = record { means = is.case.means; cuts = is.case.cuts; feeds = is.feeds.feeds }

  pub fed-are : AreMeant known circuit partition trace (meant_by fed)
  fed-are =
      record {
        is = fed-meaning;
        designed = is.case.designed;
        keeps = is.case.keeps;
        held = is.case.held;
        whole = is.case.whole;
      }

  pub own-run : IsRunBy fed.case.design fed.case.cut.request known.models fed.trace.columns fed.trace.rows (circuit_rows fed.case.design fed.case.cut.request known.models fed.trace.columns fed.trace.rows)
  own-run = run-of design request models columns n rows given.run

  -- the ratios of the stops' clocks, from the tree and the plan
  pub fed-stops : (tree : InstanceTree) (ratios stops : List Ratio) → tree ≡ fed.case.design.tree → ratios ≡ fed.case.cut.plan.ratios → stops ≡ stop_ratios tree ratios → stops ≡ plan_stops fed.case.design fed.case.cut.request
  fed-stops tree ratios stops its given own = own ∙ ap₂ stop_ratios its (given ∙ is.case.planned.ratios)

  -- the text of a run for the ports that are shown is that of the run
  pub fed-text : (ports : List Port) (ran : List (List ℕ)) → ports ≡ shown_ports fed.case.design fed.case.cut.request
      → text_of (plan_stops fed.case.design fed.case.cut.request) (plan_circuit fed.case.design fed.case.cut.request known.models) ports ran fed.trace.rows ≡ run_text fed.case.design fed.case.cut.request ran fed.trace.rows
  fed-text ports ran e = ap (λ (p : List Port). text_of (plan_stops design request) (plan_circuit design request models) p ran n) e ∙ whole-text design request models can ran n

  -- what is printed of that run for these ports is printed of the run
  pub fed-prints : {T : Type 0} (before now : Option (List ℕ)) (failed : Type 0) (r : Result T Ending) (ports : List Port) (ran : List (List ℕ)) → ports ≡ shown_ports fed.case.design fed.case.cut.request
      → Prints before now failed (text_of (plan_stops fed.case.design fed.case.cut.request) (plan_circuit fed.case.design fed.case.cut.request known.models) ports ran fed.trace.rows) r → Prints before now failed (run_text fed.case.design fed.case.cut.request ran fed.trace.rows) r
  fed-prints {T = T} before now failed r ports ran e prints = subst (λ (text : List ℕ). Prints before now failed text r) (fed-text ports ran e) prints

  -- and there are as many rows
  pub fed-rows : (ports : List Port) (ran : List (List ℕ)) → ports ≡ shown_ports fed.case.design fed.case.cut.request
      → rows_to (plan_stops fed.case.design fed.case.cut.request) (plan_circuit fed.case.design fed.case.cut.request known.models) ports ran fed.trace.rows ≡ run_rows fed.case.design fed.case.cut.request ran fed.trace.rows
  fed-rows ports ran e =
      ap (λ (p : List Port). rows_to (plan_stops design request) (plan_circuit design request models) p ran n) e
      ∙ ap (λ (stops : List (List ℕ)). row_count (halts (plan_stops design request) stops) n) (stops-shown design request models can ran)

  -- the columns of the trays are those of the outputs that are shown and of the stops
  pub fed-shown : (ran : List (List ℕ))
      → take (length (shown_ports fed.case.design fed.case.cut.request)) (out_columns (plan_circuit fed.case.design fed.case.cut.request known.models) ran) ≡ columns_of (outputs_kept fed.case.design fed.case.cut.request) ran
  fed-shown ran = take-map (column ran) (length (shown_ports design request)) (plan_circuit design request models).outs ∙ shown-are design request models can ran

  pub fed-stops-seen : (ran : List (List ℕ))
      → drop (length (shown_ports fed.case.design fed.case.cut.request)) (out_columns (plan_circuit fed.case.design fed.case.cut.request known.models) ran) ≡ columns_of (stops_kept fed.case.design fed.case.cut.request) ran
  fed-stops-seen ran = drop-map (column ran) (length (shown_ports design request)) (plan_circuit design request models).outs ∙ stops-shown design request models can ran

  pub fed-each : (ran : List (List ℕ)) → length (out_columns (plan_circuit fed.case.design fed.case.cut.request known.models) ran) ≡ length (plan_circuit fed.case.design fed.case.cut.request known.models).outs
  fed-each ran = length-map (plan_circuit design request models).outs (column ran)

  -- there are no more such ports than out-signals
  pub fed-ports : (ports : List Port) → ports ≡ shown_ports fed.case.design fed.case.cut.request → length ports ≤ length (plan_circuit fed.case.design fed.case.cut.request known.models).outs
  fed-ports ports e = subst (λ (p : List Port). length p ≤ length (plan_circuit design request models).outs) (sym e) (shown-few design request models can)

  -- its names are few
  pub few-named : AreFewNames plan design.tree
  few-named = few-names design request models capacity plan is.case.designed is.case.keeps (case-faultless is.case) is.case.planned

  -- and are those of the cut
  pub named : case_naming fed.case ≡ naming_of design request
  named = naming-is design request models capacity plan columns n rows given

  abbrev setting : Layout → Setting
  setting layout = setting_of design request n columns rows layout

  own-setting : (layout : Layout) → AreSet design request models capacity n columns rows layout → IsSetting known circuit partition trace capacity (setting layout)
  own-setting layout are = record { is = fed-meaning; run = are.run; laid = are.laid }

  module _ (agree : DesignsAgree) (once : OneRun) where
    -- the text of the marking that the steps lead to is the only one
    only-replay-text : (layout : Layout) (are : AreSet design request models capacity n columns rows layout) (steps : List ℕ) (marking : Marking)
        → replayed (setting layout) steps ≡ Ok marking → (other : List ℕ) → IsReplayText known circuit partition trace capacity steps other
        → other ≡ replay_text (setting layout) marking
    only-replay-text layout are steps marking leads other (b, y, (another, led, told)) =
        let a = setting layout in
        let x = own-setting layout are in
        let same = ok-same (replayed b steps) (replayed a steps) another marking (leads-same known agree circuit partition trace capacity b a y x steps) led leads in
        told ∙ texts-same b a another marking (designs-alike known agree circuit partition trace capacity b a y x) (requests-same known agree circuit partition trace capacity b a y x)
        (layouts-same known agree circuit partition trace capacity b a y x)
        (rows-same known agree once circuit partition trace capacity a (circuit_order design request models) (case-ordered is.case) x is.feeds b y) same

    -- a line can be added to the steps exactly if they are fewer than all
    on-until-all : (layout : Layout) (are : AreSet design request models capacity n columns rows layout) (steps : List ℕ) (marking : Marking)
        → replayed (setting layout) steps ≡ Ok marking → GoesOnUntilAll known circuit partition trace capacity steps
    on-until-all layout are steps marking leads b y =
        subst (λ k. (length (text_lines steps) < k) ↔ CanGoOn known circuit partition trace capacity steps) same (goes, ends)
      where
        x : IsSetting known circuit partition trace capacity (setting layout)
        x = own-setting layout are

        have : HavePaths design.circuit design.tree
        have = case-paths is.case

        same : all_steps (setting layout) ≡ all_steps b
        same =
            let layouts = layouts-same known agree circuit partition trace capacity (setting layout) b x y in
            let cycles : n ≡ b.meant.cycles = sym are.laid.end ∙ ap (λ (l : Layout). l.end) layouts ∙ y.laid.end in
            ap (λ k. k * (2 * length layout.links + length layout.turns + all_dues layout)) cycles
            ∙ ap (λ (l : Layout). b.meant.cycles * (2 * length l.links + length l.turns + all_dues l)) layouts

        goes : length (text_lines steps) < all_steps (setting layout) → CanGoOn known circuit partition trace capacity steps
        goes lt =
            let more = line-follows design request models capacity n can is.case.handed.names layout are.laid are.able have steps marking leads lt in
            (more.0, more.1, more.2.0, (setting layout, x, more.2.1))

        ends : CanGoOn known circuit partition trace capacity steps → length (text_lines steps) < all_steps (setting layout)
        ends (line, longer, more, (other, z, (next, led))) =
            follows-few design request models capacity n can is.case.handed.names layout are.laid are.able have steps marking leads line longer
            (more, (next, sym (leads-same known agree circuit partition trace capacity other (setting layout) z x longer) ∙ led))

    -- ---- a steps file

    module _ (steps : List ℕ) where
      -- the text of the network that the steps lead to is that of the marking that they lead to, and the only one
      pub text-so : (text : List ℕ) → IsNetText fed (fed_flow known.models fed) (steps_of (naming_of design request) steps) text
          → IsReplayed known circuit partition trace capacity steps text
      text-so text goes =
          let events = steps_of (naming_of design request) steps in
          let own = laid design request models capacity plan columns n rows given goes.opening goes.opened.opens goes.opened.kept in
          let are = are-set design request models capacity plan columns n rows given goes.opening goes.opened.opens goes.opened.kept in
          let leads = went design request models capacity plan columns n rows given goes.opening goes.opened.opens goes.opened.kept events goes.net goes.steps in
          let x = own-setting own.0 are in
          let same : text ≡ replay_text (setting own.0) (marking_of goes.net) =
          goes.is
          ∙ text-is design request models capacity plan columns n rows given own.0 goes.net
          (frame-has design request models capacity plan columns n rows given goes.opening goes.opened.opens goes.opened.kept events goes.net goes.steps)
          (wires-count design request models capacity plan columns n rows given goes.opening goes.opened.opens goes.opened.kept events goes.net goes.steps) in (
            (setting own.0, x, (marking_of goes.net, leads)),
            record {
              is = record { text_is = (setting own.0, x, (marking_of goes.net, leads, same)); goes_on = on-until-all own.0 are steps (marking_of goes.net) leads };
              only = λ other told. only-replay-text own.0 are steps (marking_of goes.net) leads other told.text_is ∙ sym same;
            },
          )

      -- what is reported for a step of the network is reported for the steps
      pub stop-so : (said : Said) → TellsStop fed (fed_flow known.models fed) (naming_of design request) (steps_of (naming_of design request) steps) said → TellsSteps known circuit partition trace capacity steps said
      stop-so said stops =
          let events = steps_of (naming_of design request) steps in
          let own = laid design request models capacity plan columns n rows given stops.opening stops.opened.opens stops.opened.kept in
          let are = are-set design request models capacity plan columns n rows given stops.opening stops.opened.opens stops.opened.kept in
          let leads = stopped-so design request models capacity plan columns n rows given stops.opening stops.opened.opens stops.opened.kept events stops.net stops.stopped stops.stops in
          (setting own.0, own-setting own.0 are, (stops.stopped, leads, stops.is))

-- ---- the text of the run

-- what is printed of a run of what was read is a text of the run
pub run-text-of : {known : Known} {circuit partition trace : List ℕ} {capacity : ℕ} {fed : Fed} → IsFed known circuit partition trace capacity fed → (ran : List (List ℕ)) → IsRunBy fed.case.design fed.case.cut.request known.models fed.trace.columns fed.trace.rows ran
    → IsTextOf known circuit partition trace (run_text fed.case.design fed.case.cut.request ran fed.trace.rows)
run-text-of {fed = fed} is ran run = (
  fed.case.design,
  is.case.means,
  (fed.case.cut.request, is.case.cuts.asks, record { cycles = fed.trace.rows; columns = fed.trace.columns; rows = ran; feeds = is.feeds.feeds; run = run; is = refl }),
)

-- if its rows come to the trays, it is the text of the network
pub network-text-of : {known : Known} {circuit partition trace : List ℕ} {capacity : ℕ} {fed : Fed} → IsFed known circuit partition trace capacity fed → (ran : List (List ℕ))
    → AreFedToTrays fed (run_rows fed.case.design fed.case.cut.request ran fed.trace.rows) (out_columns (plan_circuit fed.case.design fed.case.cut.request known.models) ran)
    → IsNetworkText known circuit partition trace capacity (run_text fed.case.design fed.case.cut.request ran fed.trace.rows)
network-text-of {known = known} {circuit = circuit} {partition = partition} {trace = trace} {capacity = capacity} {fed = fed} is ran kept =
    record {
      meant = meant_by fed;
      is_meant = fed-meaning known circuit partition trace capacity fed is;
      designed = is.case.designed;
      plan = fed.case.cut.plan;
      planned = is.case.planned;
      kept = out_columns (plan_circuit fed.case.design fed.case.cut.request known.models) ran;
      each = fed-each known circuit partition trace capacity fed is ran;
      told = run_rows fed.case.design fed.case.cut.request ran fed.trace.rows;
      ends = ap (λ (columns : List (List ℕ)). row_count (halts (plan_stops fed.case.design fed.case.cut.request) columns) fed.trace.rows) (sym (fed-stops-seen known circuit partition trace capacity fed is ran));
      trays = kept;
      is =
          ap (λ (columns : List (List ℕ)). trace_text (shown_ports fed.case.design fed.case.cut.request) columns (run_rows fed.case.design fed.case.cut.request ran fed.trace.rows))
          (sym (fed-shown known circuit partition trace capacity fed is ran));
    }
