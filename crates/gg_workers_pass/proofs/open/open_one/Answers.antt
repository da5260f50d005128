use Rattle.std.proofs.Common.{◌≡◌, ◌++◌, [], ap, ◌∙◌, sym}
use Rattle.gg_net.specs.Kept.{list_at}
use Rattle.gg_net.specs.inside.Net.{held_at}
use Rattle.gg_workers_pass.proofs.QueueLemmas.{refilled, restored, same-before, either, held-front}
use Rattle.gg_workers_pass.proofs.open.open_one.Goals as goal

pub make-made-requires-clause-held : goal.make-made-requires-clause-held
make-made-requires-clause-held g c =
    let b = c.requires.between in
    let from = c.into_tokens-held.ensures ∙ c.replace.ensures.value in
    let front = held-front (list_at g.Z.Streams.flow.lists c.args.channel) (held_at c.args.queues.now.items c.args.channel).tokens c.args.capacity c.args.start b.0 b.1 b.2 in
    (front.0, front.1 ∙ ap (λ l. l ++ front.0) (sym (same-before c.args.queues.now.items c.args.channel c.index_mut.result.now c.into_tokens-held.result c.requires.within c.index_mut.ensures.value from)))

pub returns-clause-queues : goal.returns-clause-queues
returns-clause-queues g c =
    let from = c.into_tokens-held.ensures ∙ c.replace.ensures.value in
    either c.make-made.result (c.make-made.new.held.items ≡ []) (c.make-made.new.held.items ≡ c.into_tokens-held.result.items) _ _
    (λ e. refilled c.args.queues.now.items c.args.channel c.index_mut.result.now c.replace.new.dest c.of.result c.into_tokens-held.result c.make-made.new.held [] c.requires.within c.index_mut.ensures.value from e c.make-made.ensures.room c.of.ensures)
    (λ e. restored c.args.queues.now.items c.args.channel c.index_mut.result.now c.replace.new.dest c.of.result c.into_tokens-held.result c.make-made.new.held c.requires.within c.index_mut.ensures.value from e c.make-made.ensures.room c.of.ensures)
    c.make-made.ensures.held
