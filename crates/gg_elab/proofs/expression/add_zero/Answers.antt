use Rattle.std.proofs.Common.{◌≡◌, ◌∙◌, ap}
use Rattle.gg_bits.specs.declared.types.Kind.TheVariants.{UInt}
use Rattle.gg_bits.specs.Shape.{shape, of_kind}
use Rattle.gg_flat.specs.declared.line.Op.TheVariants.{Literal}
use Rattle.gg_elab.specs.inside.Growing.{IsZeroNode}
use Rattle.gg_elab.proofs.PlacedLemmas.{placed-weaker}
use Rattle.gg_elab.proofs.expression.add_zero.Goals as goal

pub returns : goal.returns
returns c =
    placed-weaker c.add_node.result (λ n. (n.ty ≡ c.new.result) × (n.op ≡ Literal (record { 0 = 0 }))) IsZeroNode c.args.line.now c.add_node.new.line
    (λ n p. record { typed = ap shape p.0 ∙ ap (λ k. of_kind k c.new.result.width) c.new.ensures.kind ∙ ap (of_kind UInt) c.new.ensures.width; zero = p.1 })
    c.add_node.ensures
