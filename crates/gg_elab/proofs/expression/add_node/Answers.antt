use Rattle.std.proofs.Common.{◌≡◌, length, refl, arith}
use Rattle.gg_elab.proofs.expression.add_node.Goals as goal

pub returns : goal.returns
returns c =
    let place : c.in-Ok.node ≡ length c.args.line.now = omega (arith, c.in-Ok.ensures, c.len.ensures) in
    record { node = record { ty = c.args.ty; op = c.args.op }; is = (refl, refl); added = c.in_ok-push.ensures.ok; place = place; typed = refl }
