use Rattle.std.proofs.Common.{◌∙◌, sym, true≢false}
use Rattle.gg_workers.proofs.TurnLemmas.{one-ended}
use Rattle.gg_workers.proofs.turns.have_ended.Goals as goal

pub returns-then-not-has_ended : goal.returns-then-not-has_ended
returns-then-not-has_ended g c = (
  λ e. absurd (true≢false (sym e)),
  λ all. absurd (true≢false (sym (c.has_ended.ensures.1 (one-ended g.H.Host.machines c.args.upto c.args.linked_hosts.now c.loop-linked_host.linked_host-index c.linked_host-item.result c.linked_host-item.is c.loop-linked_host-test.true all)) ∙ c.if-not-has_ended.true)),
)
