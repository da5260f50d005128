-- The channels of the trays of a plan's network.
use Rattle.std.proofs.Common.{◌≡◌, ℕ, ◌+◌, ◌<◌, List, ◌++◌, length, map, drop, refl, sym, ◌∙◌, ap, subst, arith}
use Rattle.std.specs.Prelude.{Contains}
use Rattle.std.proofs.lemmas.List.{length-append, length-map}
use Rattle.gg_flat.specs.Line.{value_at}
use Rattle.gg_flat.specs.Run.{Start, row_at}
use Rattle.gg_order.specs.Design.{Ordered}
use Rattle.gg_partfile.specs.declared.request.Request.{Request}
use Rattle.gg_cut_plan.specs.Bridges.{Models}
use Rattle.gg_cut_plan.specs.Direct.{plan_hub, plan_wires}
use Rattle.gg_cut_plan.specs.Plan.{wire_at, channels_to}
use Rattle.gg_cut_plan.specs.Ports.{first_bridge, first_kept_tray, open_outs, output_count, plan_bridges}
use Rattle.gg_cut_plan.specs.Solves.{columns_of, streams}
use Rattle.gg_cut_plan.specs.declared.plan.Plan.{Plan}
use Rattle.gg_cut_reference.proofs.FittingLemmas.OpenLemmas.{outs-count}
use Rattle.gg_cut_reference.specs.Follows.{plan_token}
use Rattle.gg_cut_reference.specs.Links.{taken_as}
use Rattle.gg_net.specs.Kept.{list_at}
use Rattle.gg_cut_reference.specs.whole.Whole.{plan_circuit}
use Rattle.gg_cut_reference.proofs.WholeLemmas.PortLemmas.{plan-outs}
use Rattle.gg_build.specs.plan.Built.{IsGiven}
use Rattle.gg_build.specs.inside.Given.{given_of}
use Rattle.gg_build.proofs.PlanLemmas.ListedLemmas.{taken-is}
use Rattle.gg_build.proofs.PlanLemmas.SolveLemmas.{plan-output-value, plan-tray}

module _ (design : Ordered) (request : Request) (models : Models) (default : ℕ) (plan : Plan) (columns : List (List ℕ)) (n : ℕ) (start : Start) (rows : List (List ℕ)) (given : IsGiven design request models default plan columns n start rows) where
  abbrev kept : List ℕ
  kept = open_outs design.circuit (output_count design) request ++ drop (output_count design) design.circuit.outs

  outs : (plan_circuit design request models).outs ≡ map (taken_as (plan_hub design.circuit design.tree request)) kept
  outs = plan-outs design request models given.can

  many : length (plan_circuit design request models).outs ≡ length kept
  many = ap length outs ∙ length-map kept (taken_as (plan_hub design.circuit design.tree request))

  -- there is a tray for each out-signal of the plan's circuit
  pub trays-there : first_kept_tray (plan_bridges design.circuit design.tree request) + length (plan_circuit design request models).outs ≡ first_bridge (plan_bridges design.circuit design.tree request)
  trays-there =
      omega (
        arith,
        many,
        outs-count design.circuit design.tree request,
        length-append (open_outs design.circuit (output_count design) request) (drop (output_count design) design.circuit.outs),
      )

  -- Channel c leads to the tray of an out-signal, and carries its values.
  pub record IsTrayLink (k c : ℕ) : Type 0 where
    pub known : c < length plan.channels
    pub consumer : (wire_at (plan_wires design.circuit design.tree request) c).consumer ≡ first_kept_tray (plan_bridges design.circuit design.tree request) + k
    pub value : (t : ℕ) → t < n → value_at (list_at (streams start.cycle (plan_token design request start.state) plan.channels (columns_of plan rows)) c) t ≡ value_at (row_at rows t) (value_at (plan_circuit design request models).outs k)

  pub tray-link : (k : ℕ) → k < length (plan_circuit design request models).outs → (c : ℕ) × IsTrayLink k c
  tray-link k lt =
      let low : k < length kept = omega (arith, lt, many) in
      let m = first_kept_tray (plan_bridges design.circuit design.tree request) + k in
      let all = plan_wires design.circuit design.tree request in
      let tray = plan-tray (given_of given) k low in
      let c = tray.channel in
      let into : Contains (channels_to all m) c = subst (λ (l : List ℕ). Contains l c) (sym tray.into) (0, omega arith, refl) in (
        c,
        record {
          known = omega (arith, tray.known, given.planned.channel_total);
          consumer = (taken-is all m c into).consumer;
          value = λ t inside. plan-output-value (given_of given) k c t low tray.known tray.signal inside;
        },
      )
