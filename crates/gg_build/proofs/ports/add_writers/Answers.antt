use Rattle.std.proofs.Common.{◌≡◌, ◌+◌, ◌∷◌, ◌++◌, [], None, get_or, take, suc, refl, ◌∙◌, ap, arith}
use Rattle.gg_flat.specs.Served.{ByWriter, by_writers}
use Rattle.gg_build.proofs.PortLemmas.{writers-more, entries-more}
use Rattle.gg_build.proofs.ports.add_writers.Goals as goal

pub loop-place-preserved : goal.loop-place-preserved
loop-place-preserved c =
    let k = c.loop-place.place in
    let writers = c.args.writers.now in
    let writer = get_or writers k (record { addr = 0; en = 0; word = 0; mask = 0; clock = None }) in
    entries-more c.args.readers c.args.ports.now.items c.loop-place.ports.items c.push.new.self.items (by_writers 0 (take k writers)) (by_writers 0 (take (k + 1) writers)) (ByWriter k writer) (c.args.readers + k) c.from-fields.result
    c.loop-place.invariant c.in_ok-push.ensures.items refl (c.from-fields.ensures ∙ c.in_ok-vec.ensures.items)
    (ap (λ n. by_writers 0 (take n writers)) (let same : k + 1 ≡ suc k = omega arith in same)
    ∙ writers-more 0 writers k (record { addr = 0; en = 0; word = 0; mask = 0; clock = None }) c.loop-place-test.true
    ∙ ap (λ n. by_writers 0 (take k writers) ++ ByWriter n writer ∷ []) (let same : 0 + k ≡ k = omega arith in same))
