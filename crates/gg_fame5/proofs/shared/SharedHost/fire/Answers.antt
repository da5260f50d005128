use Rattle.std.proofs.Common.{◌≡◌, refl, ap, ◌∙◌, arith}
use Rattle.gg_node.specs.Step.{with_flag}
use Rattle.gg_program.specs.Unset.{unset}
use Rattle.gg_fame5.specs.inside.Lane.{fired_lane}
use Rattle.gg_fame5.proofs.SharedLemmas.{stepped, unset_turned}
use Rattle.gg_fame5.proofs.shared.SharedHost.fire.Goals as goal

pub returns-clause-step : goal.returns-clause-step
returns-clause-step c =
    stepped c.args.self.now c.token_by-value.new.self c.flag.new.self c.args.thread (λ lane. fired_lane lane c.args.place) (λ machine. with_flag machine c.args.place) (λ lane. refl)
    c.token_by-value.ensures.program c.token_by-value.ensures.lanes c.token_by-value.ensures.turn c.requires.thread c.flag.ensures.program c.flag.ensures.lanes

pub returns-clause-unset : goal.returns-clause-unset
returns-clause-unset c =
    let turned = c.token_by-value.new.self in
    let after = c.flag.new.self in
    let t = c.args.thread in
    let same : unset after.program.circuit after.slots ≡ unset turned.program.circuit turned.slots = ap (λ p. unset p.circuit after.slots) c.flag.ensures.program ∙ ap (unset turned.program.circuit) c.flag.ensures.slots in
    omega (arith, c.token_by-value.ensures.unset, unset_turned turned t c.token_by-value.ensures.turn, unset_turned after t (c.flag.ensures.turn ∙ c.token_by-value.ensures.turn), same)
