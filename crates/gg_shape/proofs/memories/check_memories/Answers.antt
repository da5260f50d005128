use Rattle.std.proofs.Common.{rules, ◌≡◌, ◌<◌, ◌∙◌, List, length, get_or, ap, subst}
use Rattle.std.specs.List.{flat_map}
use Rattle.gg_ast.specs.declared.statement.Stmt.{Stmt}
use Rattle.gg_ast.specs.Tree.{ModuleTree}
use Rattle.gg_shape.specs.inside.Faults.{Refuses}
use Rattle.gg_shape.specs.Memories.{wrong_by, wrong_in_module}
use Rattle.gg_shape.proofs.FlatLemmas.{rest-refused}
use Rattle.gg_shape.proofs.memories.check_memories.Goals as goal

pub returns-in_err-check_statements : goal.returns-in_err-check_statements
returns-in_err-check_statements c =
    let modules = c.args.circuit.now.modules in
    let i = c.loop-module.module-index in
    let m = c.module-item.result in
    let is : m ≡ get_or modules i m = c.module-item.is ∙ ap (λ (l : List ModuleTree). get_or l i m) c.modules-module-items.ensures in
    let lt : i < length modules = subst (λ (l : List ModuleTree). i < length l) c.modules-module-items.ensures c.loop-module-test.true in
    let refusal = c.in_err-check_statements.field-0.0 in
    let refused : Refuses (wrong_in_module m) refusal = subst (λ (l : List Stmt). Refuses (flat_map wrong_by l) refusal) c.statements.ensures c.in_err-check_statements.ensures in
    let h = rest-refused wrong_in_module modules i m m refusal lt is c.loop-module.invariant refused in
    search (rules, h)
