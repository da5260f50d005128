use Rattle.std.proofs.Common.{◌+◌, ◌∙◌, ap, arith}
use Rattle.std.proofs.lemmas.Grind.{common_steps}
use Rattle.gg_cut_machines.proofs.HostLemmas.{count-more, counts-more}
use Rattle.gg_cut_machines.proofs.hosts.firsts_before.Goals as goal

pub loop-number-preserved : goal.loop-number-preserved
loop-number-preserved c =
    let now = c.args.leaders.now in
    let was = c.loop-number.invariant in (
      grind (arith, common_steps),
      omega (arith, c.one_if-total.ensures.small),
      ap (λ t. c.loop-number.total + t) c.one_if-total.ensures.one ∙ count-more now c.loop-number.number c.loop-number.total was.2,
      counts-more now c.loop-number.before.items c.push.new.self.items c.loop-number.number c.loop-number.total was.0 was.2 was.3 c.in_ok-push.ensures.items,
    )
