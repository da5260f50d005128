-- The network of a plan can be built for the run of the plan's circuit, which is computed along an order.
use Rattle.std.proofs.Common.{ℕ, ◌<◌, ◌≤◌, List, refl, arith}
use Rattle.gg_bits.specs.Limits.{capacity_limit, cycle_limit}
use Rattle.gg_flat.specs.Circuit.{FlatCircuit}
use Rattle.gg_flat.specs.Order.{IsOrder}
use Rattle.gg_flat.specs.Run.{IsColumns, IsRunFrom, Start}
use Rattle.gg_order.proofs.RunsLemmas.AlongLemmas.{IsRunFrom-along}
use Rattle.gg_flat.proofs.OrderLemmas.{IsLoop-none}
use Rattle.gg_order.specs.Design.{Ordered}
use Rattle.gg_partfile.specs.declared.request.Request.{Request}
use Rattle.gg_cut_plan.specs.Bridges.{Models}
use Rattle.gg_cut_plan.specs.Plan.{IsPlan}
use Rattle.gg_cut_plan.specs.declared.plan.Plan.{Plan}
use Rattle.gg_cut_plan.specs.Held.{AreHeldOnce}
use Rattle.gg_cut_plan.specs.Solves.{AreRows}
use Rattle.gg_cut_reference.specs.Follows.{plan_start}
use Rattle.gg_cut_reference.specs.Made.{plan_reference}
use Rattle.gg_cut_reference.proofs.StartLemmas.{plan-typed}
use Rattle.gg_cut_reference.specs.whole.Whole.{CanBridge, plan_begin, plan_circuit}
use Rattle.gg_order.proofs.FoundLemmas.{found-is}
use Rattle.gg_cut_reference.proofs.WholeLemmas.PlanLemmas.{circuit-formed, circuit-ordered}
use Rattle.gg_cut_reference.proofs.WholeLemmas.StateLemmas.{states-with}
use Rattle.gg_build.specs.plan.Built.{IsGiven}
use Rattle.gg_build.specs.inside.Build.{IsToRun}
use Rattle.gg_build.specs.Build.{circuit_order, circuit_rows, flow_along}

module _ (design : Ordered) (request : Request) (models : Models) (default : ℕ) (plan : Plan) (columns : List (List ℕ)) (n : ℕ) (can : CanBridge design request models) (held : AreHeldOnce design.circuit) (planned : IsPlan design request models default plan)
    (some : 0 < default) (room : default ≤ capacity_limit) (most : n ≤ cycle_limit) (fed : IsColumns (plan_circuit design request models) n columns) where
  abbrev circuit : FlatCircuit
  circuit = plan_circuit design request models

  abbrev begin : Start
  begin = plan_begin design request models (plan_start design request)

  order : IsOrder circuit (circuit_order design request models)
  order =
      let any = circuit-ordered design request models can in
      found-is circuit (circuit-formed design request models can) (λ loop is. IsLoop-none circuit any.order loop any.is is)

  run-along : IsRunFrom circuit begin columns n (circuit_rows design request models columns n)
  run-along = IsRunFrom-along circuit (circuit_order design request models) begin columns n (circuit-formed design request models can) order (states-with models (plan_reference design request) (plan_start design request).state request.bridges (plan-typed design request)) fed.inputs

  rows-along : AreRows circuit begin columns n (circuit_rows design request models columns n)
  rows-along = record { begun = omega arith; count = run-along.count; before = λ t s lt. absurd (omega (arith, lt)); run = run-along }

  pub given-along : IsGiven design request models default plan columns n (plan_start design request) (circuit_rows design request models columns n)
  given-along =
      record {
        can = can;
        held = held;
        some = some;
        planned = planned;
        most = most;
        given = fed;
        typed = plan-typed design request;
        clocked = refl;
        run = rows-along;
      }

  pub to-run : IsToRun plan columns n (flow_along design request models plan columns n)
  to-run =
      record {
        start = plan_start design request;
        run =
            record {
              design = design;
              request = request;
              models = models;
              default = default;
              rows = circuit_rows design request models columns n;
              given = given-along;
              room = room;
              flow_is = refl;
            };
        zeros = refl;
      }
