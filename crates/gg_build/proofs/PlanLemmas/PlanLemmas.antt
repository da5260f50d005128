-- The network of a plan: its channels are listed, it is wired, and it has no ring.
use Rattle.std.proofs.Common.{ℕ, ◌<◌, ◌≤◌, List, [], length, map, sym, ◌∙◌, ap, subst, arith}
use Rattle.std.specs.Prelude.{◌==◌}
use Rattle.gg_flat.specs.Line.{value_at}
use Rattle.gg_flat.specs.Run.{Start}
use Rattle.gg_cut_plan.specs.Plan.{wire_at as link_at}
use Rattle.gg_cut_plan.proofs.WireLemmas.{all-plain}
use Rattle.gg_cut_plan.proofs.RangeLemmas.{filter-few}
use Rattle.gg_cut_plan.specs.declared.plan.Body.{Body}
use Rattle.gg_node.specs.Machine.{Machine, machine_at}
use Rattle.gg_net.specs.Network.{IsAtIn, IsAtOut, kind_of, kind_at}
use Rattle.gg_net.specs.Kept.{IsWired, HasNoRing}
use Rattle.gg_build.specs.plan.Built.{machine_in, wires_of_plan, AreBuilt, plan_frame}
use Rattle.gg_build.specs.inside.Built.{IsListedAt}
use Rattle.gg_build.specs.inside.Given.{Given, cut_of}
use Rattle.gg_build.proofs.PlanLemmas.GivenLemmas.{are-few, are-links, body-at}
use Rattle.gg_build.proofs.PlanLemmas.ListedLemmas.{at-in, at-out}
use Rattle.gg_build.proofs.PlanLemmas.WiredLemmas.{AreFitting, wired}
use Rattle.gg_build.proofs.PlanLemmas.FitLemmas.{kind-is, fitting}
use Rattle.gg_build.proofs.PlanLemmas.NeedLemmas.{HasNeeds, has-needs}
use Rattle.gg_build.proofs.PlanLemmas.CopyLemmas.{routes-reach}
use Rattle.gg_build.proofs.PlanLemmas.RingLemmas.{no-ring}

module _ (given : Given) (token : ℕ → ℕ) (starts : Body → Start) (machines : List Machine) (built : AreBuilt given.plan starts given.columns machines) where
  open given use {design, request, plan, n, can}
  open cut_of design request use {listed, hub, wires}

  pub fit : AreFitting wires (length plan.machines) (map kind_of machines)
  fit = fitting given starts machines built

  pub plan-wired : IsWired (plan_frame token plan machines n)
  plan-wired = wired token plan wires (map kind_of machines) n (are-links given) fit

  pub few : length wires ≤ 16384
  few = let channels = (are-few given).channels in omega (arith, channels)

  pub plan-listed : (m : ℕ) → m < length plan.machines → IsListedAt token plan m (kind_at (map kind_of machines) m)
  plan-listed m lt =
      let own = fit.each m lt in
      let ins = (are-links given).ins m lt in
      let outs = (are-links given).outs m lt in
      record {
        ins = ap length ins ∙ sym own.ins;
        into = λ i low. subst (λ (l : List ℕ). IsAtIn (wires_of_plan token plan) m i (value_at l i)) (sym ins) (at-in token plan wires (are-links given) m i (omega (arith, low, own.ins)));
        outs = ap length outs ∙ sym own.outs;
        from = λ o low. subst (λ (l : List ℕ). IsAtOut (wires_of_plan token plan) m o (value_at l o)) (sym outs) (at-out token plan wires (are-links given) m o (omega (arith, low, own.outs)));
        few = (
          omega (arith, own.ins, few, filter-few (λ c. (link_at wires c).consumer == m) 0 (length wires)),
          omega (arith, own.outs, few, filter-few (λ c. (link_at wires c).producer == m) 0 (length wires)),
        );
      }

  needs : (m : ℕ) → m < length plan.machines → HasNeeds design.circuit wires m (kind_at (map kind_of machines) m)
  needs m lt =
      subst (HasNeeds design.circuit wires m) (sym (kind-is machines m (omega (arith, lt, built.count))))
      (has-needs given (length (machine_in plan m).outs) m (starts (machine_in plan m).body) (machine_in plan m).body (machine_at machines m) (body-at given m lt) (built.each m lt))

  pub plan-no-ring : HasNoRing (plan_frame token plan machines n)
  plan-no-ring =
      let ordered = can.design_is.ordered in
      let reached = routes-reach hub design.order ordered (all-plain design.circuit design.tree listed request.bridges) in
      no-ring token plan wires (map kind_of machines) n design.circuit design.order ordered (are-links given) reached needs
