use Rattle.std.proofs.Common.{◌≡◌, false, ◌++◌, ◌∷◌, [], ap, ◌∙◌, is_some}
use Rattle.std.specs.List.{list_any}
use Rattle.std.specs.Str.{bytes_eq}
use Rattle.gg_shape_names.specs.inside.Tables.{names_told}
use Rattle.gg_bits.specs.Lists.{find_word}
use Rattle.gg_shape_names.proofs.TableLemmas.{lookup-seen, seen-push, seen, none-is_some, some-value_of}
use Rattle.indexmap.proofs.CallerLemmas.{insert_entry-new}
use Rattle.gg_shape_names.proofs.table.Table.declare.Goals as goal

pub returns-in-Ok-clause-names : goal.returns-in-Ok-clause-names
returns-in-Ok-clause-names c =
    let es = c.self.inside.items.entries in
    let fresh : is_some (find_word c.as_str.result.now (seen es)) ≡ false =
    some-value_of c.as_str.result.now (seen es)
    ∙ ap (λ q. list_any (bytes_eq q) (names_told (seen es))) c.as_str.ensures
    ∙ ap (λ l. list_any (bytes_eq c.args.name.now) (names_told l)) c.self.view_is
    ∙ c.requires in
    ap seen c.in-Ok.ensures.entries
    ∙ ap seen (insert_entry-new _ c.self.inside.items c.as_str.result c.args.kind (lookup-seen c.as_str.result.now es ∙ none-is_some _ fresh))
    ∙ seen-push es (c.as_str.result, c.args.kind)
    ∙ ap (λ q. seen es ++ (q, c.args.kind) ∷ []) c.as_str.ensures
    ∙ ap (λ l. l ++ (c.args.name.now, c.args.kind) ∷ []) c.self.view_is
