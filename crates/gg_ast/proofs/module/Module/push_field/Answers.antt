use Rattle.std.proofs.Common.{◌≡◌, suc, ◌-◌, length, is_ok, ap, arith}
use Rattle.gg_ast.specs.contracts.module.Module.{the_view}
use Rattle.gg_ast.specs.Tree.{ModuleTree}
use Rattle.gg_ast.specs.inside.Tree.{statement_with_field}
use Rattle.gg_ast.proofs.LastModule.{slice_set-if, module-if}
use Rattle.gg_ast.proofs.module.Module.push_field.Goals as goal

pub returns : goal.returns
returns c = rw (← c.self.view_is)
    (let some : length c.self.inside.statements.items ≡ length c.args.self.now.statements = ap (λ (m : ModuleTree). length m.statements) c.self.view_is in
    let size : suc (c.len-last.result - 1) ≡ length c.self.inside.statements.items = omega (arith, c.self.inside.statements.ok.0, c.len-last.ensures) in
    module-if c.args.field (the_view c.self.inside) _ (is_ok c.push_field.result)
    (slice_set-if (statement_with_field c.args.field) c.self.inside.statements.items (c.len-last.result - 1) c.index_mut.result.now c.push_field.new.self (is_ok c.push_field.result) size c.index_mut.ensures.value c.push_field.ensures))
