use Rattle.std.proofs.Common.{ap, ◌∙◌}
use Rattle.gg_ast.specs.Places.{place_of}
use Rattle.gg_shape_names.specs.inside.Tables.{names_told}
use Rattle.gg_shape_names.proofs.TableLemmas.{position-seen, seen}
use Rattle.gg_shape_names.proofs.table.Table.place.Goals as goal

pub returns-clause-place : goal.returns-clause-place
returns-clause-place c =
    c.get_index_of.ensures.index
    ∙ position-seen c.as_str.result.now c.self.inside.items.entries
    ∙ ap (λ q. place_of q (names_told (seen c.self.inside.items.entries))) c.as_str.ensures
    ∙ ap (λ l. place_of c.args.name.now (names_told l)) c.self.view_is
