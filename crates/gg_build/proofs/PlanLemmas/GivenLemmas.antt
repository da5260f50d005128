-- What is given with a plan: its request has no fault, its bridges' entries fit, and its channels are its routed links.
use Rattle.std.proofs.Common.{◌≡◌, ℕ, ◌<◌, None, length, take, sym, ap, subst, arith}
use Rattle.gg_flat.specs.declared.memory.Memory.{Memory}
use Rattle.gg_flat_tree.specs.Tree.{path_at}
use Rattle.gg_order.specs.Design.{Ordered}
use Rattle.gg_partfile.specs.declared.request.Request.{Request}
use Rattle.gg_part.specs.declared.part.Part.{Part}
use Rattle.gg_cut_plan.specs.declared.plan.Body.{Body}
use Rattle.gg_cut_plan.specs.declared.plan.Body.TheVariants.{Memory as Listing}
use Rattle.gg_cut_plan.specs.declared.plan.Plan.{Plan}
use Rattle.gg_cut_plan.specs.Bridges.{Models}
use Rattle.gg_cut_plan.specs.Fault.{first_fault}
use Rattle.gg_cut_plan.specs.Ports.{output_count}
use Rattle.gg_cut_plan.specs.Plan.{wire_at as link_at, IsPlan}
use Rattle.gg_cut_plan.proofs.WholeFaultLemmas.{faultless-bridges, faultless-others}
use Rattle.gg_cut_reference.specs.inside.Fitting.{AreFitting}
use Rattle.gg_cut_reference.proofs.FittingLemmas.FittingLemmas.{all-fit}
use Rattle.gg_cut_split.specs.inside.Apart.{AreApart, AreFew}
use Rattle.gg_cut_split.proofs.ClosedLemmas.FaultlessLemmas.{capacity-is, faultless-apart, faultless-few, range-free}
use Rattle.gg_cut_routes.specs.inside.Routes.{AreRoutes}
use Rattle.gg_cut_routes.proofs.RoutedLemmas.{plan-routed}
use Rattle.gg_cut_reference.specs.inside.Whole.{RunsWhole}
use Rattle.gg_cut_reference.specs.whole.Whole.{CanBridge}
use Rattle.gg_cut_plan.specs.Channels.{wire}
use Rattle.gg_cut_reference.proofs.WholeLemmas.RunLemmas.{whole-runs}
use Rattle.gg_build.specs.plan.Built.{machine_in, nameless}
use Rattle.gg_build.specs.inside.Given.{Given, IsBodyAt, cut_of}
use Rattle.gg_build.proofs.PlanLemmas.LinkLemmas.{AreLinks}
use Rattle.gg_build.proofs.PlanLemmas.MemoryPartLemmas.{IsMemoryPart, memory-part}

module _ (design : Ordered) (request : Request) (models : Models) (can : CanBridge design request models) where
  open cut_of design request use {listed, hub, wires}

  -- no fault, its bridges aside
  pub faultless : first_fault design request ≡ None
  faultless = faultless-others design models request can.faultless

  -- the entries of its bridges fit
  pub entries-fit : AreFitting design.circuit (take (output_count design) design.circuit.outs) models request.bridges
  entries-fit = all-fit design.circuit (take (output_count design) design.circuit.outs) models request.bridges (faultless-bridges design models request can.faultless)

  pub routed : AreRoutes design listed request.bridges hub
  routed = plan-routed design request can.design_is can.keeps faultless

  pub links-of : (default : ℕ) (plan : Plan) → 0 < default → IsPlan design request models default plan → AreLinks plan wires
  links-of default plan some planned =
      record {
        count = planned.channel_total;
        producer = λ c any lt. (planned.channel c any lt).producer;
        consumer = λ c any lt. (planned.channel c any lt).consumer;
        some = λ c any lt.
            subst (λ n. 0 < n) (sym (planned.channel c any lt).bound)
            (capacity-is (λ n. 0 < n) (λ n more few. more) request.capacity default (path_at design.circuit.paths (link_at wires c).signal) (range-free design request faultless) some);
        ins = λ m lt. (planned.machine m nameless lt).ins;
        outs = λ m lt. (planned.machine m nameless lt).outs;
        ends = λ c lt. let ends = routed.ends c (wire 0 0 0) lt in (omega (arith, ends.0, planned.machine_total), omega (arith, ends.1, planned.machine_total));
      }

-- ---- a given plan

module _ (given : Given) where
  open given use {design, request, models, default, plan, can}
  open cut_of design request use {listed, hub, wires}

  pub no-fault : first_fault design request ≡ None
  no-fault = faultless design request models can

  pub is-apart : AreApart design.tree listed
  is-apart = faultless-apart design request no-fault can.keeps.fitting

  pub are-few : AreFew design.circuit design.tree request
  are-few = faultless-few design request no-fault

  pub is-routed : AreRoutes design listed request.bridges hub
  is-routed = routed design request models can

  pub are-links : AreLinks plan wires
  are-links = links-of design request models can default plan given.some given.planned

  pub body-at : (m : ℕ) → m < length plan.machines → IsBodyAt given m (machine_in plan m).body
  body-at m lt = (given.planned.machine m nameless lt).body

  pub body-is : (m : ℕ) (body : Body) → m < length plan.machines → (machine_in plan m).body ≡ body → IsBodyAt given m body
  body-is m body lt is = subst (IsBodyAt given m) is (body-at m lt)

  -- the part of a listed memory
  pub memory-at : (m : ℕ) (part : Part) → IsBodyAt given m (Listing part) → (memory : Memory) × IsMemoryPart part memory
  memory-at m part body = memory-part design request m part can.design_is can.keeps is-apart is-routed body.0 body.1 body.2 are-few

  -- the run of the plan's circuit is one of the reference circuit, and one of each bridge's model
  pub runs-whole : RunsWhole design request models given.start given.columns given.n given.rows
  runs-whole = whole-runs design request models given.start given.columns given.n given.rows can given.typed given.given given.run
