use Rattle.std.proofs.Common.{ap, ◌∙◌, is_some}
use Rattle.std.specs.List.{list_any}
use Rattle.std.specs.Str.{bytes_eq}
use Rattle.gg_shape_names.specs.inside.Tables.{names_told}
use Rattle.gg_shape_names.proofs.TableLemmas.{lookup-seen, seen, some-value_of}
use Rattle.gg_shape_names.proofs.table.Table.has.Goals as goal

pub returns : goal.returns
returns c =
    c.contains_key.ensures
    ∙ ap is_some (lookup-seen c.as_str.result.now c.self.inside.items.entries)
    ∙ some-value_of c.as_str.result.now (seen c.self.inside.items.entries)
    ∙ ap (λ q. list_any (bytes_eq q) (names_told (seen c.self.inside.items.entries))) c.as_str.ensures
    ∙ ap (λ l. list_any (bytes_eq c.args.name.now) (names_told l)) c.self.view_is
