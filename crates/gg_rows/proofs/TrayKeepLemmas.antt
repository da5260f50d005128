-- Host steps bring the rows of the reference circuit's run to the trays of a plan's network.
use Rattle.std.proofs.Common.{◌≡◌, ℕ, ◌+◌, ◌<◌, ◌≤◌, List, Some, length, map, take, sym, ap, ◌∙◌, subst, arith}
use Rattle.std.specs.Prelude.{Option}
use Rattle.std.proofs.lemmas.List.{ext_get_or, get_or-take, length-map, length-take-le}
use Rattle.gg_flat.specs.Line.{value_at}
use Rattle.gg_flat.specs.Run.{Start, row_at}
use Rattle.gg_flat.specs.Streams.{Flow}
use Rattle.gg_cut_plan.specs.Ports.{first_kept_tray, plan_bridges}
use Rattle.gg_cut_plan.specs.declared.plan.Plan.{Plan}
use Rattle.gg_cut_reference.specs.whole.Whole.{plan_circuit}
use Rattle.gg_net.specs.declared.event.Event.{Event}
use Rattle.gg_net.specs.declared.shape.Wire.{Wire}
use Rattle.gg_net.specs.Kept.{Kept}
use Rattle.gg_net.specs.inside.Net.{IsOpening}
use Rattle.gg_net.specs.Net.{opening_net}
use Rattle.gg_net.specs.Network.{Network, frame_of, AllStandAt}
use Rattle.gg_node.specs.Machine.{Machine, kept_value, machine_at}
use Rattle.gg_net.specs.inside.Fits.{HasLayout, marking_of}
use Rattle.gg_net.specs.inside.LayoutOf.{layout_of}
use Rattle.gg_net.specs.markings.Marking.{Layout, Marking}
use Rattle.gg_net.specs.markings.Steps.{Steps}
use Rattle.gg_net.proofs.MarkingsLemmas.LayoutLemmas.{has-layout}
use Rattle.gg_net.proofs.MarkingsLemmas.OpeningLemmas.{opens-so}
use Rattle.gg_net.proofs.MarkingsLemmas.StepsLemmas.{steps-frame, steps-kept}
use Rattle.gg_net.specs.inside.Counts.{AreAtMost, counts_of}
use Rattle.gg_net.proofs.MarkingsLemmas.EndLemmas.{opening-lowest}
use Rattle.gg_measure.proofs.NetLemmas.{allowed-of, begun-of, can-run}
use Rattle.gg_measure.proofs.WayLemmas.{steps-up}
use Rattle.gg_build.specs.plan.Built.{wires_of_plan}
use Rattle.gg_bits.specs.Limits.{tray_rows}
use Rattle.gg_build.specs.Build.{IsOpeningFrom, IsToRunFrom, run_token}
use Rattle.gg_rows.specs.Rows.{TraysKeep}
use Rattle.gg_rows.specs.inside.Rows.{outputs_in}
use Rattle.gg_build.specs.StandsAt.{IsNetOfPlan}
use Rattle.gg_rows.proofs.OpeningLemmas.{begins-so, opening-kept}
use Rattle.gg_rows.proofs.OutputLemmas.{keeps, keeps-only, net-stays, opening-is-net}

-- from a network before its first step steps lead to each other of the same flow and frame
module _ (flow : Flow) (machines : List Machine) (wires : List Wire) (end : ℕ) (opening : (m : ℕ) → m < length machines → IsOpening flow m (machine_at machines m)) where
  abbrev first_net : Network
  first_net = opening_net machines wires end

  pub reached : (net : Network) → Kept flow first_net → Kept flow net → frame_of net ≡ frame_of first_net → (events : List Event) × Steps first_net (map (λ e. Some e) events) net
  reached net first_kept kept same =
      let layout : Layout = layout_of (frame_of first_net) in
      let has = has-layout (frame_of first_net) first_kept.sound.wired in
      let other = subst (λ frame. HasLayout frame layout) (sym same) has in
      let begins : flow.begin ≤ layout.end = omega (arith, first_kept.sound.solves.begins, has.end) in
      let least : AreAtMost layout (counts_of layout (marking_of first_net)) (counts_of layout (marking_of net)) =
      subst (λ (m : Marking). AreAtMost layout (counts_of layout m) (counts_of layout (marking_of net))) (sym (opens-so flow machines wires end opening layout has))
      (opening-lowest layout (can-run flow first_net first_kept layout has) flow.begin begins (counts_of layout (marking_of net)) (allowed-of flow net kept layout other) (begun-of flow net kept layout other)) in
      steps-up flow first_net net layout first_kept kept same has least

-- ---- in the network of a plan

module _ (plan : Plan) (start : Start) (columns : List (List ℕ)) (n : ℕ) (flow : Flow) (run : IsToRunFrom plan start columns n flow) (opening : Network) (opens : IsOpeningFrom plan start (run_token run) columns n opening) where
  abbrev row : ℕ → List ℕ
  row t = outputs_in (plan_circuit run.design run.request run.models) run.rows t

  row-count : (t : ℕ) → length (row t) ≡ length (plan_circuit run.design run.request run.models).outs
  row-count t = let all = plan_circuit run.design run.request run.models in length-map all.outs (value_at (row_at run.rows t))

  kept : Kept flow opening
  kept = opening-kept plan start columns n flow run opening opens

  leads-to : (net : Network) → Kept flow net → frame_of net ≡ frame_of opening → (events : List Event) × Steps opening (map (λ e. Some e) events) net
  leads-to net later same =
      let begins : (m : ℕ) → m < length opens.machines → IsOpening flow m (machine_at opens.machines m) =
      (λ m lt. subst (λ (f : Flow). IsOpening f m (machine_at opens.machines m)) (sym run.flow_is) (begins-so plan start columns n flow run opening opens m lt)) in
      subst (λ (o : Network). (events : List Event) × Steps o (map (λ e. Some e) events) net) (sym opens.is)
      (reached flow opens.machines (wires_of_plan (run_token run) plan) n begins net (subst (Kept flow) opens.is kept) later (same ∙ ap frame_of opens.is))

  -- whatever steps are done, the tray of an output keeps no other value of a cycle
  no-other : (events : List (Option Event)) (net : Network) (k t value : ℕ) → Steps opening events net → k < length (plan_circuit run.design run.request run.models).outs
      → kept_value (machine_at net.machines (first_kept_tray (plan_bridges run.design.circuit run.design.tree run.request) + k)) t ≡ Some value → value ≡ value_at (row t) k
  no-other events net k t value steps lt has =
      let is = net-stays plan start (run_token run) columns n opening net (opening-is-net plan start (run_token run) columns n opening opens) (steps-frame opening events net steps) in
      keeps-only plan start columns n flow run net is (steps-kept flow opening events net kept steps) k t value lt has

  -- what a network that stands at the end of a window keeps of its cycles
  pub trays-keep : (net : Network) → Kept flow net → frame_of net ≡ frame_of opening → (upto t : ℕ) → AllStandAt upto net → start.cycle ≤ t → t < upto → upto ≤ t + tray_rows
      → TraysKeep opening (first_kept_tray (plan_bridges run.design.circuit run.design.tree run.request)) t (outputs_in (plan_circuit run.design run.request run.models) run.rows t)
  trays-keep net later same upto t stand from done near =
      let is : IsNetOfPlan plan start (run_token run) columns n net = net-stays plan start (run_token run) columns n opening net (opening-is-net plan start (run_token run) columns n opening opens) same in
      let way = leads-to net later same in
      record {
        events = map (λ e. Some e) way.0;
        net = net;
        leads = way.1;
        done = λ m lt. omega (arith, done, stand m lt);
        keep = λ k lt. keeps plan start columns n flow run net is later k upto t (omega (arith, lt, row-count t)) stand from done near;
        only = λ others other k value steps lt has. no-other others other k t value steps (omega (arith, lt, row-count t)) has;
      }

  -- nothing else comes to them
  pub trays-only : (t : ℕ) (values : List ℕ) → length values ≤ length (plan_circuit run.design run.request run.models).outs → TraysKeep opening (first_kept_tray (plan_bridges run.design.circuit run.design.tree run.request)) t values
      → values ≡ take (length values) (outputs_in (plan_circuit run.design run.request run.models) run.rows t)
  trays-only t values few keep =
      let count : length (take (length values) (row t)) ≡ length values = length-take-le (length values) (row t) (omega (arith, few, row-count t)) in
      ext_get_or 0 values (take (length values) (row t)) (sym count) (λ k lt.
      no-other keep.events keep.net k t (value_at values k) keep.leads (omega (arith, lt, few)) (keep.keep k lt) ∙ sym (get_or-take (length values) (row t) k 0 lt))
