use Rattle.std.proofs.Common.{◌≡◌, ◌++◌, take, drop, sym, ap, ◌∙◌, arith}
use Rattle.std.proofs.lemmas.List.{take-append-drop}
use Rattle.net_tests.proofs.links.held.hold.Goals as goal

pub returns-clause-held : goal.returns-clause-held
returns-clause-held c =
    let values = c.args.values.now in
    let at_end : c.loop-place.place ≡ c.args.count = omega arith in
    let rest = drop c.args.count values in
    (rest, sym (take-append-drop c.args.count values) ∙ ap (λ front. front ++ rest) (sym (c.loop-place.invariant.0 ∙ ap (λ k. take k values) at_end)))
