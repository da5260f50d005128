use Rattle.std.proofs.Common.{◌≡◌, [], ◌∷◌, ◌++◌, refl, sym, ◌∙◌, ap, subst}
use Rattle.gg_ast.specs.Tree.{empty_module}
use Rattle.gg_ast.specs.inside.Tree.{IsOpenToPorts}
use Rattle.gg_ast.specs.Row.{numbered, CircuitRow}
use Rattle.gg_ast.specs.Rows.{rows_of_modules}
use Rattle.gg_ast.proofs.LastModule.{open-push, rows_of_modules-push}
use Rattle.gg_ast.proofs.circuit.Circuit.push_module.Goals as goal

pushed : (c : goal.After-push_reserved) → c.push_reserved.new.self.items ≡ c.self.inside.modules.items ++ empty_module c.args.line c.args.name ∷ []
pushed c = c.push_reserved.ensures.items ∙ ap (λ l. l ++ c.new.result ∷ []) c.reserve.ensures.items ∙ ap (λ m. c.self.inside.modules.items ++ m ∷ []) c.new.ensures

pub returns-clause-rows : goal.returns-clause-rows
returns-clause-rows c = rw (← c.self.view_is)
    (ap (λ l. numbered c.self.inside.line (CircuitRow c.self.inside.name) ∷ rows_of_modules l) (pushed c)
    ∙ ap (λ l. numbered c.self.inside.line (CircuitRow c.self.inside.name) ∷ l) (rows_of_modules-push c.self.inside.modules.items (empty_module c.args.line c.args.name)))

pub returns-clause-ports : goal.returns-clause-ports
returns-clause-ports c = subst IsOpenToPorts (sym (pushed c)) (open-push c.self.inside.modules.items (empty_module c.args.line c.args.name) refl)
