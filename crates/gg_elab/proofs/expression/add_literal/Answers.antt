use Rattle.std.proofs.Common.{◌≡◌, ap, refl}
use Rattle.gg_bits.specs.Shape.{shape}
use Rattle.gg_ast.specs.Term.{ConstantTerm}
use Rattle.gg_flat.specs.declared.line.Op.TheVariants.{Literal}
use Rattle.gg_elab.specs.inside.Growing.{context_of, IsZeroNode}
use Rattle.gg_elab.proofs.LineLemmas.{added_literal, added_no_literal}
use Rattle.gg_elab.proofs.PlacedLemmas.{finished}
use Rattle.gg_elab.proofs.expression.add_literal.Goals as goal

pub returns-in-Some : goal.returns-in-Some
returns-in-Some c =
    let f = c.in-Some in
    finished c.add_node.result (context_of c.args._scope.now) c.args.line.now c.args.line.now c.add_node.new.line (ConstantTerm c.args.constant.now) _ (λ n. (n.ty ≡ f.ty) × (n.op ≡ Literal f.value)) refl c.add_node.ensures
    (λ n p. added_literal (context_of c.args._scope.now) c.args.line.now n c.args.constant.now f.value (shape f.ty) f.ensures.some f.ensures.fits f.ensures.value (ap shape p.0) p.1)

pub returns-in-None : goal.returns-in-None
returns-in-None c =
    finished c.add_zero.result (context_of c.args._scope.now) c.args.line.now c.args.line.now c.add_zero.new.line (ConstantTerm c.args.constant.now) _ IsZeroNode refl c.add_zero.ensures
    (λ n p. added_no_literal (context_of c.args._scope.now) c.args.line.now n c.args.constant.now c.in-None.ensures.none p)
