use Rattle.std.proofs.Common.{◌≡◌, subst, sym, Result}
use Rattle.gg_bits.specs.declared.types.Bad.{Bad}
use Rattle.gg_bits.specs.declared.types.Ty.{Ty}
use Rattle.gg_elab.specs.inside.Growing.{IsZeroNode, IsResultNode}
use Rattle.gg_elab.proofs.PlacedLemmas.{placed-weaker}
use Rattle.gg_elab.proofs.expression.add_result.Goals as goal

pub returns-in-Ok : goal.returns-in-Ok
returns-in-Ok c =
    placed-weaker c.add_node.result (λ n. (n.ty ≡ c.in-Ok.ty) × (n.op ≡ c.args.op)) (IsResultNode c.args.found c.args.op) c.args.line.now c.add_node.new.line
    (λ n p. subst (λ (r : Result Ty Bad). IsResultNode r c.args.op n) (sym c.in-Ok.is) p)
    c.add_node.ensures

pub returns-in-Err : goal.returns-in-Err
returns-in-Err c =
    placed-weaker c.add_zero.result IsZeroNode (IsResultNode c.args.found c.args.op) c.args.line.now c.add_zero.new.line
    (λ n p. subst (λ (r : Result Ty Bad). IsResultNode r c.args.op n) (sym c.in-Err.is) p)
    c.add_zero.ensures
