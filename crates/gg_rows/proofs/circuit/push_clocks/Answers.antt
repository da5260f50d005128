use Rattle.std.proofs.Common.{arith, ap, ◌∙◌, ◌++◌, string_bytes}
use Rattle.gg_rows.specs.CircuitText.{clock_line}
use Rattle.gg_rows.proofs.RangeLemmas.{line-more}
use Rattle.gg_rows.proofs.circuit.push_clocks.Goals as goal

pub loop-i-preserved : goal.loop-i-preserved
loop-i-preserved c =
    line-more clock_line 0 c.loop-i.i-counter _ c.loop-i.i-counter _ _ _ _ c.loop-i.invariant (omega arith) (omega arith) c.in_ok-line.ensures.ok
    (c.in_ok-push_str.ensures.bytes ∙ ap (λ t. string_bytes c.loop-i.text ++ t) c.as_str.ensures.value)
