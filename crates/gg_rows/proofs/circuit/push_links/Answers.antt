use Rattle.std.proofs.Common.{◌≡◌, ◌+◌, ◌-◌, suc, arith, ap, ◌∙◌, ◌++◌, string_bytes}
use Rattle.gg_rows.specs.CircuitText.{link_line}
use Rattle.gg_rows.proofs.RangeLemmas.{line-more}
use Rattle.gg_rows.proofs.circuit.push_links.Goals as goal

pub loop-i-preserved : goal.loop-i-preserved
loop-i-preserved c =
    let one : c.loop-i.i-counter + 1 - 1 ≡ suc (c.loop-i.i-counter - 1) = omega (arith, c.loop-i.auto.i-counter) in
    let place : 1 + (c.loop-i.i-counter - 1) ≡ c.loop-i.i-counter = omega (arith, c.loop-i.auto.i-counter) in
    line-more link_line 1 (c.loop-i.i-counter - 1) _ c.loop-i.i-counter _ _ _ _ c.loop-i.invariant one place c.in_ok-line.ensures.ok
    (c.in_ok-push_str.ensures.bytes ∙ ap (λ t. string_bytes c.loop-i.text ++ t) c.as_str.ensures.value)
