use Rattle.std.proofs.Common.{◌≡◌, None, Some, sym, ap, ◌∙◌, lt-ltb, le-ltb, if◌then◌else◌}
use Rattle.gg_ast.specs.Places.{place_of}
use Rattle.gg_shape_names.specs.Scope.{first_name}
use Rattle.gg_shape_names.specs.inside.Tables.{found, names_told}
use Rattle.gg_shape_names.proofs.TableLemmas.{if_before}
use Rattle.gg_shape_names.proofs.FindLemmas.{table-at, meaning-before, meaning-found}
use Rattle.gg_shape_names.proofs.find.role_before_in.Goals as goal

pub returns-then-place-count : goal.returns-then-place-count
returns-then-place-count c = λ n is.
    let modules = c.args.modules.now in
    let table = c.index-tables-number.result in
    let r = c.args.reference.now in
    let told = table-at modules c.args.tables.now c.args.number table c.requires.tables c.requires.within c.index-tables-number.is in
    let placed : place_of (first_name r) (names_told table) ≡ Some c.in-Some.place =
    ap (λ q. place_of q (names_told table)) (sym c.first_name.ensures) ∙ sym c.place.ensures.place ∙ c.in-Some.is in
    c.role_in.ensures
    ∙ meaning-found modules c.args.number table r told
    ∙ sym (meaning-before modules c.args.number table r c.args.count n told is
    ∙ ap (λ o. if_before o c.args.count (found modules table r)) placed
    ∙ ap (λ b. if b then found modules table r else None) (lt-ltb c.in-Some.place c.args.count c.if-place-count.true))

pub returns-else-place-count : goal.returns-else-place-count
returns-else-place-count c = λ n is.
    let modules = c.args.modules.now in
    let table = c.index-tables-number.result in
    let r = c.args.reference.now in
    let told = table-at modules c.args.tables.now c.args.number table c.requires.tables c.requires.within c.index-tables-number.is in
    let placed : place_of (first_name r) (names_told table) ≡ Some c.in-Some.place =
    ap (λ q. place_of q (names_told table)) (sym c.first_name.ensures) ∙ sym c.place.ensures.place ∙ c.in-Some.is in
    sym (meaning-before modules c.args.number table r c.args.count n told is
    ∙ ap (λ o. if_before o c.args.count (found modules table r)) placed
    ∙ ap (λ b. if b then found modules table r else None) (le-ltb c.in-Some.place c.args.count c.if-place-count.false))

pub returns-in-None : goal.returns-in-None
returns-in-None c = λ n is.
    let modules = c.args.modules.now in
    let table = c.index-tables-number.result in
    let r = c.args.reference.now in
    let told = table-at modules c.args.tables.now c.args.number table c.requires.tables c.requires.within c.index-tables-number.is in
    let placed : place_of (first_name r) (names_told table) ≡ None =
    ap (λ q. place_of q (names_told table)) (sym c.first_name.ensures) ∙ sym c.place.ensures.place ∙ c.in-None.is in
    sym (meaning-before modules c.args.number table r c.args.count n told is
    ∙ ap (λ o. if_before o c.args.count (found modules table r)) placed)
