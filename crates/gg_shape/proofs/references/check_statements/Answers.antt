use Rattle.std.proofs.Common.{◌≡◌, List, ◌<◌, length, get_or, ap, subst, ◌∙◌, arith, rules}
use Rattle.gg_ast.specs.declared.statement.Stmt.{Stmt}
use Rattle.gg_shape.specs.Shape.{unknown_by}
use Rattle.gg_shape.specs.inside.Told.{module_of}
use Rattle.gg_shape_names.proofs.AlongLemmas.{left-more}
use Rattle.gg_shape.proofs.FlatLemmas.{along-refused}
use Rattle.gg_shape.proofs.PlaceLemmas.{stands}
use Rattle.gg_shape.proofs.references.check_statements.Goals as goal

pub overflow_add-next : goal.overflow_add-next
overflow_add-next c =
    let m = module_of c.args.names.now c.args.number in
    let s = c.index-statements-place.result in
    let lt : c.loop-place.place < length m.statements = subst (λ (l : List Stmt). c.loop-place.place < length l) c.requires.statements c.loop-place-test.true in
    let at = stands c.args.names.now.modules m.ports m.statements c.loop-place.place s lt (c.index-statements-place.is ∙ ap (λ (l : List Stmt). get_or l c.loop-place.place s) c.requires.statements) in
    omega (arith, at.room, c.len-total.ensures, c.loop-place.invariant.counted, c.declared_count.ensures)

pub returns-in_err-known_by : goal.returns-in_err-known_by
returns-in_err-known_by c =
    let m = module_of c.args.names.now c.args.number in
    let s = c.index-statements-place.result in
    let lt : c.loop-place.place < length m.statements = subst (λ (l : List Stmt). c.loop-place.place < length l) c.requires.statements c.loop-place-test.true in
    let is : s ≡ get_or m.statements c.loop-place.place s = c.index-statements-place.is ∙ ap (λ (l : List Stmt). get_or l c.loop-place.place s) c.requires.statements in
    let h = along-refused (unknown_by c.args.names.now.modules m.ports) m.statements c.loop-place.place s c.in_err-known_by.field-0.0 lt is c.loop-place.invariant.left_is c.in_err-known_by.ensures in
    search (rules, h)

pub loop-place-preserved : goal.loop-place-preserved
loop-place-preserved c =
    let m = module_of c.args.names.now c.args.number in
    let s = c.index-statements-place.result in
    let lt : c.loop-place.place < length m.statements = subst (λ (l : List Stmt). c.loop-place.place < length l) c.requires.statements c.loop-place-test.true in
    let is : s ≡ get_or m.statements c.loop-place.place s = c.index-statements-place.is ∙ ap (λ (l : List Stmt). get_or l c.loop-place.place s) c.requires.statements in
    let at = stands c.args.names.now.modules m.ports m.statements c.loop-place.place s lt is in
    record {
      counted = omega (arith, at.more, c.loop-place.invariant.counted, c.declared_count.ensures);
      left_is = left-more (unknown_by c.args.names.now.modules m.ports) m.statements c.loop-place.place s lt is c.in_ok-known_by.ensures c.loop-place.invariant.left_is;
    }
