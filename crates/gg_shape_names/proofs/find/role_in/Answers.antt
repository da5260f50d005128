use Rattle.std.proofs.Common.{sym, ap, ◌∙◌}
use Rattle.gg_shape_names.specs.Scope.{first_name}
use Rattle.gg_shape_names.specs.inside.Tables.{through_found}
use Rattle.gg_bits.specs.Lists.{find_word}
use Rattle.gg_shape_names.proofs.FindLemmas.{table-at, placed-of, meaning-found}
use Rattle.gg_shape_names.proofs.find.role_in.Goals as goal

pub role_through-requires-clause-placed : goal.role_through-requires-clause-placed
role_through-requires-clause-placed c =
    let table = c.index-tables-number.result in
    let told = table-at c.args.modules.now c.args.tables.now c.args.number table c.requires.tables c.requires.within c.index-tables-number.is in
    placed-of c.args.modules.now table (first_name c.args.reference.now) c.in-Some.declared.now told.placed
    (ap (λ q. find_word q table) (sym c.first_name.ensures) ∙ sym c.in-Some.ensures)

pub returns-in-Some : goal.returns-in-Some
returns-in-Some c =
    let table = c.index-tables-number.result in
    let told = table-at c.args.modules.now c.args.tables.now c.args.number table c.requires.tables c.requires.within c.index-tables-number.is in
    c.role_through.ensures
    ∙ ap (λ o. through_found c.args.modules.now o c.args.reference.now) (c.in-Some.ensures ∙ ap (λ q. find_word q table) c.first_name.ensures)
    ∙ sym (meaning-found c.args.modules.now c.args.number table c.args.reference.now told)

pub returns-in-None : goal.returns-in-None
returns-in-None c =
    let table = c.index-tables-number.result in
    let told = table-at c.args.modules.now c.args.tables.now c.args.number table c.requires.tables c.requires.within c.index-tables-number.is in
    ap (λ o. through_found c.args.modules.now o c.args.reference.now) (c.in-None.ensures ∙ ap (λ q. find_word q table) c.first_name.ensures)
    ∙ sym (meaning-found c.args.modules.now c.args.number table c.args.reference.now told)
