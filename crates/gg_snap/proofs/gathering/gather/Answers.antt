use Rattle.std.proofs.Common.{List, length, sym, ap, ◌∙◌, subst}
use Rattle.std.proofs.lemmas.List.FromFn.{length-map-range_with_len}
use Rattle.gg_cut_plan.specs.declared.plan.Channel.{Channel}
use Rattle.gg_cut_plan.specs.declared.plan.Machine as planned
use Rattle.gg_net.specs.Network.{queue_at}
use Rattle.gg_snap.specs.inside.Gathered.{AreDone, newest, newest_tokens}
use Rattle.gg_snap.proofs.GatherLemmas.{gathered}
use Rattle.gg_snap.proofs.PipeLemmas.{pipes-by}
use Rattle.gg_snap.proofs.gathering.gather.Goals as goal

pub pipes_of-requires-clause-count : goal.pipes_of-requires-clause-count
pipes_of-requires-clause-count g c =
    ap length (c.deref.ensures.value ∙ c.in_ok-tokens.ensures) ∙ length-map-range_with_len (λ k. newest (queue_at c.args.net.now.queues k)) 0 (length c.as_slice-channels.result.now)

pub returns : goal.returns
returns g c = λ whole in_all all.
    let plan = c.args.plan.now in
    let piece = c.args.piece.now in
    let net = c.args.net.now in
    let draft = c.in_ok-draft.draft in
    let done = c.in_ok-draft.ensures.done plan whole (sym c.as_slice.ensures) in_all in
    gathered piece plan net whole draft c.in_ok-draft.ensures.sized (subst (λ (l : List planned.Machine). AreDone plan whole (length l) draft) c.as_slice.ensures done) all c.in_ok-state.state c.in_ok-pipes.pipes.items
    (pipes-by c.as_slice-channels.result.now plan.channels c.signal_count.result (length piece.signals) c.deref.result.now (newest_tokens net.queues (length plan.channels)) c.in_ok-pipes.pipes.items
    c.as_slice-channels.ensures c.signal_count.ensures.count (c.deref.ensures.value ∙ c.in_ok-tokens.ensures ∙ ap (λ (l : List Channel). newest_tokens net.queues (length l)) c.as_slice-channels.ensures) c.in_ok-pipes.ensures)
    c.in_ok-state.ensures.registers c.in_ok-state.ensures.banks
