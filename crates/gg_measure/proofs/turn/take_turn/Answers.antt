use Rattle.std.proofs.Common.{◌||◌, ◌∙◌, ap, subst, sym}
use Rattle.gg_measure.specs.inside.Turns.{HadTurn}
use Rattle.gg_measure.proofs.TurnLemmas.{whole-turn}
use Rattle.gg_measure.proofs.turn.take_turn.Goals as goal

pub returns : goal.returns
returns g c =
    subst (λ b. HadTurn c.args.cycle c.args.machine c.args.net.now b c.attempt_noted-finished.new.net) (sym (c.either-3.ensures ∙ ap (λ b. b || c.attempt_noted-finished.result) (c.either-2.ensures ∙ ap (λ b. b || c.serve_all-served.result) c.either.ensures)))
    (whole-turn g.Z.Streams.flow c.args.cycle c.args.machine c.args.net.now c.latch_all-latched.new.net c.fire_all-fired.new.net c.serve_all-served.new.net c.attempt_noted-finished.new.net
    c.latch_all-latched.result c.fire_all-fired.result c.serve_all-served.result c.attempt_noted-finished.result
    c.latch_all-latched.ensures.goes c.latch_all-latched.ensures.none c.fire_all-fired.ensures.goes c.fire_all-fired.ensures.none c.serve_all-served.ensures.goes c.serve_all-served.ensures.none c.serve_all-served.ensures.work
    c.kept.ensures c.attempt_noted-finished.ensures)
