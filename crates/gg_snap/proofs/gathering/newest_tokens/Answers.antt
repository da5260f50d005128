use Rattle.std.proofs.Common.{◌≡◌, ℕ, ◌++◌, [], ◌∷◌, sym, ap, ap₂, ◌∙◌, arith}
use Rattle.std.proofs.lemmas.List.FromFn.{map-range_with_len_more}
use Rattle.gg_net.specs.Network.{queue_at}
use Rattle.gg_snap.specs.inside.Gathered.{newest, newest_tokens}
use Rattle.gg_snap.proofs.gathering.newest_tokens.Goals as goal

pub loop-c-preserved : goal.loop-c-preserved
loop-c-preserved g c =
    c.in_ok-push.ensures.items ∙ ap₂ (λ l (n : ℕ). l ++ n ∷ []) c.loop-c.invariant c.newest_of.ensures
    ∙ sym (map-range_with_len_more (λ k. newest (queue_at c.args.net.now.queues k)) 0 c.loop-c.c c.loop-c.c (omega arith))

pub returns : goal.returns
returns g c =
    let high = c.loop-c-test.false in
    let e : c.loop-c.c ≡ c.args.count = omega (arith, high, c.loop-c.auto.c-end) in
    c.loop-c.invariant ∙ ap (newest_tokens c.args.net.now.queues) e
