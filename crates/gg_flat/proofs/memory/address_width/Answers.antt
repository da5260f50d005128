use Rattle.std.proofs.Common.{◌≡◌, ◌-◌, ◌+◌, ◌∙◌, sym, ap, arith}
use Rattle.gg_flat.specs.Memory.{first_width}
use Rattle.gg_flat.proofs.WidthLemmas.{first_width-here, first_width-next, shift-small}
use Rattle.gg_flat.proofs.memory.address_width.Goals as goal

pub returns-then-depth-width-clause-width : goal.returns-then-depth-width-clause-width
returns-then-depth-width-clause-width c =
    let w = c.loop-width.width in
    first_width-here (32 - w) w c.args.depth (omega arith) (omega (arith, shift-small w c.loop-width-test.true, c.if-depth-width.true)) ∙ sym c.loop-width.invariant

pub loop-width-preserved : goal.loop-width-preserved
loop-width-preserved c =
    let w = c.loop-width.width in
    let same : 32 - w - 1 ≡ 32 - (w + 1) = omega arith in
    c.loop-width.invariant
    ∙ first_width-next (32 - w) w c.args.depth (omega arith) (omega (arith, shift-small w c.loop-width-test.true, c.if-depth-width.false))
    ∙ ap (λ more. first_width more (w + 1) c.args.depth) same
