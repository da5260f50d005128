use Rattle.std.proofs.Common.{ℕ, ◌+◌, List, Option, [], ◌∷◌, ◌++◌, drop, ap, ◌∙◌}
use Rattle.gg_types.specs.Clocks.{clock_number}
use Rattle.gg_types.specs.inside.Clocks.{clock_numbers}
use Rattle.gg_types.proofs.InputLemmas.{numbers-more}
use Rattle.gg_types_rules.proofs.inputs.clock_numbers.Goals as goal

pub loop-port-preserved : goal.loop-port-preserved
loop-port-preserved c =
    let ports = c.args.ports.now in
    let i = c.loop-port.port-index in
    let done = c.loop-port.numbers.items in
    ap (λ (l : List (Option ℕ)). l ++ clock_numbers c.in_ok-count.count (drop (i + 1) ports)) (c.in_ok-push.ensures.items ∙ ap (λ o. done ++ o ∷ []) c.clock_number.ensures)
    ∙ ap (λ n. (done ++ clock_number c.loop-port.count c.port-item.result ∷ []) ++ clock_numbers n (drop (i + 1) ports)) c.in_ok-count.ensures
    ∙ numbers-more ports i c.loop-port.count c.port-item.result done (clock_numbers 0 ports) c.loop-port-test.true c.port-item.is c.loop-port.invariant
