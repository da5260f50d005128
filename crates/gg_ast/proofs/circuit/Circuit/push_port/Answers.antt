-- The modules after the call are the modules before it, with the last one changed if the call succeeded.
use Rattle.std.proofs.Common.{◌≡◌, suc, ◌-◌, [], ◌∷◌, length, is_ok, if◌then◌else◌, slice_set, sym, ◌∙◌, ap, refl, arith}
use Rattle.gg_ast.specs.contracts.circuit.Circuit.{the_view}
use Rattle.gg_ast.specs.Tree.{CircuitTree}
use Rattle.gg_ast.specs.inside.Tree.{on_last, with_port}
use Rattle.gg_ast.specs.Places.{place_of}
use Rattle.gg_ast.specs.Rows.{port_row}
use Rattle.gg_ast.proofs.KeptNames.{named-if, named-port}
use Rattle.gg_ast.proofs.LastModule.{slice_set-if, names_of-if, value-if, rows_of-if, rows_of_modules-with_port, open-if}
use Rattle.gg_ast.proofs.circuit.Circuit.push_port.Goals as goal

written : (c : goal.After-self-1) → slice_set c.self.inside.modules.items (c.len-last.result - 1) c.push_port.new.self ≡ (if is_ok c.push_port.result then on_last (with_port c.args.port) c.self.inside.modules.items else c.self.inside.modules.items)
written c =
    let some : length c.self.inside.modules.items ≡ length c.args.self.now.modules = ap (λ (t : CircuitTree). length t.modules) c.self.view_is in
    let size : suc (c.len-last.result - 1) ≡ length c.self.inside.modules.items = omega (arith, c.self.inside.modules.ok.0, c.len-last.ensures) in
    slice_set-if (with_port c.args.port) c.self.inside.modules.items (c.len-last.result - 1) c.index_mut.result.now c.push_port.new.self (is_ok c.push_port.result) size c.index_mut.ensures.value c.push_port.ensures

pub invariant_of-self : goal.invariant_of-self
invariant_of-self c = (
  named-if (with_port c.args.port) (the_view c.self.inside) _ (is_ok c.push_port.result) (named-port c.args.port c.requires.named) (written c) c.self.invariant.0,
  λ q. c.self.invariant.1 q ∙ ap (place_of q) (sym (names_of-if (with_port c.args.port) c.self.inside.modules.items (slice_set c.self.inside.modules.items (c.len-last.result - 1) c.push_port.new.self) (is_ok c.push_port.result) (λ m. refl) (written c))),
)

pub returns-clause-value : goal.returns-clause-value
returns-clause-value c = rw (← c.self.view_is)
    (value-if (with_port c.args.port) (the_view c.self.inside) _ (is_ok c.push_port.result) (written c))

pub returns-clause-rows : goal.returns-clause-rows
returns-clause-rows c = rw (← c.self.view_is)
    (λ may. rows_of-if (with_port c.args.port) (port_row c.args.port ∷ []) (the_view c.self.inside) _ c.push_port.result (written c) (rows_of_modules-with_port c.args.port c.self.inside.modules.items may))

pub returns-clause-ports : goal.returns-clause-ports
returns-clause-ports c = rw (← c.self.view_is)
    (open-if c.args.port c.self.inside.modules.items _ (is_ok c.push_port.result) (written c))
