-- The modules after the call are the modules before it, with the last one changed if the call succeeded.
use Rattle.std.proofs.Common.{◌≡◌, ◌<◌, suc, ◌-◌, length, is_ok, if◌then◌else◌, slice_set, sym, ◌∙◌, ap, refl, arith}
use Rattle.gg_ast.specs.contracts.circuit.Circuit.{the_view}
use Rattle.gg_ast.specs.Tree.{CircuitTree}
use Rattle.gg_ast.specs.inside.Tree.{on_last, with_statement}
use Rattle.gg_ast.specs.Places.{place_of}
use Rattle.gg_ast.specs.Rows.{statement_rows}
use Rattle.gg_ast.proofs.KeptNames.{named-if, named-statement}
use Rattle.gg_ast.proofs.LastModule.{slice_set-if, names_of-if, value-if, rows_of-if, rows_of_modules-with_statement, memory-if}
use Rattle.gg_ast.proofs.circuit.Circuit.push_statement.Goals as goal

written : (c : goal.After-self-1) → slice_set c.self.inside.modules.items (c.len-last.result - 1) c.push_statement.new.self ≡ (if is_ok c.push_statement.result then on_last (with_statement c.args.statement) c.self.inside.modules.items else c.self.inside.modules.items)
written c =
    let some : length c.self.inside.modules.items ≡ length c.args.self.now.modules = ap (λ (t : CircuitTree). length t.modules) c.self.view_is in
    let size : suc (c.len-last.result - 1) ≡ length c.self.inside.modules.items = omega (arith, c.self.inside.modules.ok.0, c.len-last.ensures) in
    slice_set-if (with_statement c.args.statement) c.self.inside.modules.items (c.len-last.result - 1) c.index_mut.result.now c.push_statement.new.self (is_ok c.push_statement.result) size c.index_mut.ensures.value c.push_statement.ensures

pub invariant_of-self : goal.invariant_of-self
invariant_of-self c = (
  named-if (with_statement c.args.statement) (the_view c.self.inside) _ (is_ok c.push_statement.result) (named-statement c.args.statement c.requires.named) (written c) c.self.invariant.0,
  λ q. c.self.invariant.1 q ∙ ap (place_of q) (sym (names_of-if (with_statement c.args.statement) c.self.inside.modules.items (slice_set c.self.inside.modules.items (c.len-last.result - 1) c.push_statement.new.self) (is_ok c.push_statement.result) (λ m. refl) (written c))),
)

some_left : (c : goal.After-self-1) → 0 < length c.self.inside.modules.items
some_left c =
    let some : length c.self.inside.modules.items ≡ length c.args.self.now.modules = ap (λ (t : CircuitTree). length t.modules) c.self.view_is in
    omega arith

pub returns-clause-value : goal.returns-clause-value
returns-clause-value c = rw (← c.self.view_is)
    (value-if (with_statement c.args.statement) (the_view c.self.inside) _ (is_ok c.push_statement.result) (written c))

pub returns-clause-rows : goal.returns-clause-rows
returns-clause-rows c = rw (← c.self.view_is)
    (rows_of-if (with_statement c.args.statement) (statement_rows c.args.statement) (the_view c.self.inside) _ c.push_statement.result (written c) (rows_of_modules-with_statement c.args.statement c.self.inside.modules.items (some_left c)))

pub returns-clause-fields : goal.returns-clause-fields
returns-clause-fields c = memory-if c.args.statement c.self.inside.modules.items _ c.push_statement.result (written c) (some_left c)
