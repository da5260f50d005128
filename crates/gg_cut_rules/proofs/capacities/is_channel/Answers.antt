use Rattle.std.proofs.Common.{◌<◌, ◌∙◌, sym, subst}
use Rattle.std.specs.Prelude.{All}
use Rattle.gg_cut_plan.proofs.ChannelLemmas.{named-channel, unnamed-channel}
use Rattle.gg_cut_rules.proofs.capacities.is_channel.Goals as goal

pub returns-in-Some : goal.returns-in-Some
returns-in-Some c =
    let known = subst (λ n. All (λ s. s < n) c.args._signals.now) (sym c.signal_count.ensures.paths) c.requires.known in
    c.requires.marks c.in-Some.signal ∙ named-channel c.args.piece.now.paths c.args.name.now c.in-Some.signal c.args._signals.now c.signal_count.ensures.distinct c.in-Some.ensures.found known

pub returns-in-None : goal.returns-in-None
returns-in-None c =
    let known = subst (λ n. All (λ s. s < n) c.args._signals.now) (sym c.signal_count.ensures.paths) c.requires.known in
    unnamed-channel c.args.piece.now.paths c.args.name.now c.args._signals.now c.in-None.ensures.missing known
