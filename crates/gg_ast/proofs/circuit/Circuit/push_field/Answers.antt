-- The modules after the call are the modules before it, with the last one changed if the call succeeded.
use Rattle.std.proofs.Common.{◌≡◌, ◌<◌, suc, ◌-◌, [], ◌∷◌, length, is_ok, if◌then◌else◌, slice_set, sym, ◌∙◌, ap, subst, refl, arith}
use Rattle.gg_ast.specs.contracts.circuit.Circuit.{the_view}
use Rattle.gg_ast.specs.Tree.{CircuitTree}
use Rattle.gg_ast.specs.inside.Tree.{on_last, module_with_field, IsMemoryStatement, EndsInMemory, IsOpenToFields}
use Rattle.gg_ast.specs.Places.{place_of}
use Rattle.gg_ast.specs.Rows.{field_row}
use Rattle.gg_ast.proofs.KeptNames.{named-if, named-field}
use Rattle.gg_ast.proofs.LastModule.{slice_set-if, names_of-if, value-if, rows_of-if, rows_of_modules-with_field, fields-if, ends-some, ends-last}
use Rattle.gg_ast.proofs.circuit.Circuit.push_field.Goals as goal

open_left : (c : goal.After-self-1) → IsOpenToFields c.self.inside.modules.items
open_left c = subst (λ (t : CircuitTree). IsOpenToFields t.modules) (sym c.self.view_is) c.requires.open

written : (c : goal.After-self-1) → slice_set c.self.inside.modules.items (c.len-last.result - 1) c.push_field.new.self ≡ (if is_ok c.push_field.result then on_last (module_with_field c.args.field) c.self.inside.modules.items else c.self.inside.modules.items)
written c =
    let some : 0 < length c.self.inside.modules.items = ends-some EndsInMemory c.self.inside.modules.items (open_left c) in
    let size : suc (c.len-last.result - 1) ≡ length c.self.inside.modules.items = omega (arith, c.self.inside.modules.ok.0, c.len-last.ensures) in
    slice_set-if (module_with_field c.args.field) c.self.inside.modules.items (c.len-last.result - 1) c.index_mut.result.now c.push_field.new.self (is_ok c.push_field.result) size c.index_mut.ensures.value c.push_field.ensures

pub invariant_of-self : goal.invariant_of-self
invariant_of-self c = (
  named-if (module_with_field c.args.field) (the_view c.self.inside) _ (is_ok c.push_field.result) (named-field c.args.field c.requires.named) (written c) c.self.invariant.0,
  λ q. c.self.invariant.1 q ∙ ap (place_of q) (sym (names_of-if (module_with_field c.args.field) c.self.inside.modules.items (slice_set c.self.inside.modules.items (c.len-last.result - 1) c.push_field.new.self) (is_ok c.push_field.result) (λ m. refl) (written c))),
)

pub returns-clause-value : goal.returns-clause-value
returns-clause-value c = rw (← c.self.view_is)
    (value-if (module_with_field c.args.field) (the_view c.self.inside) _ (is_ok c.push_field.result) (written c))

pub returns-clause-rows : goal.returns-clause-rows
returns-clause-rows c = rw (← c.self.view_is)
    (rows_of-if (module_with_field c.args.field) (field_row c.args.field ∷ []) (the_view c.self.inside) _ c.push_field.result (written c) (rows_of_modules-with_field c.args.field c.self.inside.modules.items (open_left c)))

pub returns-clause-fields : goal.returns-clause-fields
returns-clause-fields c = fields-if c.args.field c.self.inside.modules.items _ (is_ok c.push_field.result) (written c) (open_left c)

pub push_field-requires : goal.push_field-requires
push_field-requires c =
    let left : IsOpenToFields c.self.inside.modules.items = subst (λ (t : CircuitTree). IsOpenToFields t.modules) (sym c.self.view_is) c.requires.open in
    let some : 0 < length c.self.inside.modules.items = ends-some EndsInMemory c.self.inside.modules.items left in
    let size : suc (c.len-last.result - 1) ≡ length c.self.inside.modules.items = omega (arith, c.self.inside.modules.ok.0, c.len-last.ensures) in
    ends-some IsMemoryStatement c.index_mut.result.now.statements
    (ends-last EndsInMemory c.self.inside.modules.items (c.len-last.result - 1) c.index_mut.result.now size c.index_mut.ensures.value left)
