-- A network at the end of its run has the state of the reference circuit.
use Rattle.std.proofs.Common.{◌≡◌, ℕ, ◌<◌, ◌≤◌, List, length, sym, ap, ◌∙◌, subst}
use Rattle.std.specs.Prelude.{All}
use Rattle.gg_bits.specs.Limits.{cycle_limit}
use Rattle.gg_flat.specs.Run.{Start}
use Rattle.gg_flat.specs.State.{IsState}
use Rattle.gg_flat.specs.Streams.{Flow}
use Rattle.gg_order.specs.Design.{Ordered}
use Rattle.gg_cut_plan.specs.declared.plan.Channel.{Channel}
use Rattle.gg_cut_plan.specs.declared.plan.Plan.{Plan}
use Rattle.gg_cut_reference.specs.Made.{AllHeld, IsFresh, plan_reference}
use Rattle.gg_net.specs.Kept.{Kept}
use Rattle.gg_net.specs.Network.{Network}
use Rattle.gg_build.proofs.PlanLemmas.LinkLemmas.{length-from}
use Rattle.gg_build.specs.Build.{run_token}
use Rattle.gg_snap.specs.inside.Gathered.{AreApart, AreIn, IsAll}
use Rattle.gg_snap.specs.Whole.{HasEnded, last_state}
use Rattle.gg_snap.proofs.AloneLemmas.{run-alone}
use Rattle.gg_snap.proofs.PlannedLemmas.{channels-apart, known-signals}
use Rattle.gg_snap.proofs.SizeLemmas.{last-typed}
use Rattle.gg_snap.proofs.StandLemmas.{count, inside}
use Rattle.gg_snap.proofs.TokenLemmas.{everything, wires}

module _ (plan : Plan) (design : Ordered) (start : Start) (columns : List (List ℕ)) (n : ℕ) (flow : Flow) (net : Network) (ended : HasEnded plan design start columns n flow net) where
  pub ended-known : All (λ (channel : Channel). channel.signal < length design.circuit.signals) plan.channels
  ended-known =
      subst (λ (d : Ordered). All (λ (channel : Channel). channel.signal < length d.circuit.signals) plan.channels) ended.of_design
      (known-signals ended.run.design ended.run.request ended.run.models ended.run.default plan (run-alone ended.run ended.alone).planned (run-alone ended.run ended.alone).design_is (run-alone ended.run ended.alone).keeps (run-alone ended.run ended.alone).faultless)

  pub ended-apart : AreApart plan.channels
  ended-apart = channels-apart ended.run.design ended.run.request ended.run.models ended.run.default plan (run-alone ended.run ended.alone).planned (run-alone ended.run ended.alone).design_is (run-alone ended.run ended.alone).keeps (run-alone ended.run ended.alone).faultless

  pub ended-within : n ≤ cycle_limit
  ended-within = ended.run.given.most

  module _ (kept : Kept flow net) where
    pub ended-machines : length net.machines ≡ length plan.machines
    ended-machines = count plan start columns n flow ended.run ended.alone net kept ended.stands

    pub ended-wires : length net.wires ≡ length plan.channels
    ended-wires = ap length (wires plan start columns n flow ended.run ended.alone net kept ended.stands) ∙ length-from (run_token ended.run) plan 0 plan.channels

    module _ (fresh : IsFresh design.circuit) where
      own-fresh : IsFresh ended.run.design.circuit
      own-fresh = subst (λ (d : Ordered). IsFresh d.circuit) (sym ended.of_design) fresh

      pub ended-typed : IsState (plan_reference ended.run.design ended.run.request) (last_state ended.run)
      ended-typed = last-typed plan start columns n flow ended.run ended.alone own-fresh

      pub ended-in : AreIn design.circuit plan net (last_state ended.run)
      ended-in = subst (λ (d : Ordered). AreIn d.circuit plan net (last_state ended.run)) ended.of_design (inside plan start columns n flow ended.run ended.alone net kept ended.stands own-fresh)

      pub ended-all : AllHeld design.circuit → IsAll design.circuit plan net (last_state ended.run)
      ended-all held =
          subst (λ (d : Ordered). IsAll d.circuit plan net (last_state ended.run)) ended.of_design
          (everything plan start columns n flow ended.run ended.alone net kept ended.stands own-fresh (subst (λ (d : Ordered). AllHeld d.circuit) (sym ended.of_design) held))
