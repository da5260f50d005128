use Rattle.std.proofs.Common.{◌++◌, ap, ◌∙◌}
use Rattle.gg_link.specs.Seats.{between}
use Rattle.gg_workers_pass.proofs.QueueLemmas.{refilled, empty-before}
use Rattle.gg_workers_pass.proofs.close.close_one.Goals as goal

pub returns-clause-queues : goal.returns-clause-queues
returns-clause-queues g c =
    let b = between (g.L.Link.putting c.args.put) (g.L.Link.taking c.args.take) in
    let from = c.into_tokens-held.ensures ∙ c.replace.ensures.value in
    refilled c.args.queues.now.items c.args.channel c.index_mut.result.now c.replace.new.dest c.of.result c.into_tokens-held.result c.close.new.into b c.requires.within c.index_mut.ensures.value from
    (c.close.ensures.items ∙ ap (λ l. l ++ between (g.L.Link.putting c.args.put) (g.L.Link.taking c.args.take)) (empty-before c.args.queues.now.items c.args.channel c.index_mut.result.now c.into_tokens-held.result c.requires.within c.index_mut.ensures.value from c.requires.empty))
    c.close.ensures.room c.of.ensures
