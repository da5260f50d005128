use Rattle.std.proofs.Common.{length, ap, ◌∙◌}
use Rattle.gg_build.proofs.GroupLemmas.{shown-at, shown-pushed}
use Rattle.gg_build.proofs.groups.join.Goals as goal

pub returns-clause-members : goal.returns-clause-members
returns-clause-members c =
    shown-pushed (λ list. list.items) c.args.members.now.items c.args.host c.args.machine c.index_mut-own.result.now c.push.new.self c.requires.known c.index_mut-own.ensures.value c.in_ok-push.ensures.items

pub returns-clause-thread : goal.returns-clause-thread
returns-clause-thread c =
    c.len-thread.ensures ∙ c.index_mut-own.result.now.ok.0 ∙ ap length (shown-at (λ list. list.items) c.args.members.now.items c.args.host c.index_mut-own.result.now c.requires.known c.index_mut-own.ensures.value)
