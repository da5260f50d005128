use Rattle.std.proofs.Common.{◌≡◌, ◌+◌, ◌∷◌, ◌++◌, [], None, length, get_or, take, suc, refl, ◌∙◌, ap, arith}
use Rattle.gg_flat.specs.Served.{ByReader, by_readers}
use Rattle.gg_build.proofs.PortLemmas.{readers-more, entries-more}
use Rattle.gg_build.proofs.ports.add_readers.Goals as goal

pub loop-place-preserved : goal.loop-place-preserved
loop-place-preserved c =
    let k = c.loop-place.place in
    let readers = c.args.readers.now in
    let reader = get_or readers k (record { addr = 0; en = 0; word = 0; clock = None }) in
    entries-more (length readers) c.args.ports.now.items c.loop-place.ports.items c.push.new.self.items (by_readers 0 (take k readers)) (by_readers 0 (take (k + 1) readers)) (ByReader k reader) k c.from-fields.result
    c.loop-place.invariant c.in_ok-push.ensures.items refl (c.from-fields.ensures ∙ c.in_ok-vec.ensures.items)
    (ap (λ n. by_readers 0 (take n readers)) (let same : k + 1 ≡ suc k = omega arith in same)
    ∙ readers-more 0 readers k (record { addr = 0; en = 0; word = 0; clock = None }) c.loop-place-test.true
    ∙ ap (λ n. by_readers 0 (take k readers) ++ ByReader n reader ∷ []) (let same : 0 + k ≡ k = omega arith in same))
