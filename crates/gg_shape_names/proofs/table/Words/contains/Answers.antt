use Rattle.std.proofs.Common.{ap, ◌∙◌}
use Rattle.std.specs.List.{list_any}
use Rattle.std.specs.Str.{bytes_eq}
use Rattle.gg_shape_names.proofs.TableLemmas.{any-texts, texts}
use Rattle.gg_shape_names.proofs.table.Words.contains.Goals as goal

pub returns : goal.returns
returns c =
    c.contains.ensures
    ∙ any-texts c.as_str.result.now c.self.inside.items.keys
    ∙ ap (λ q. list_any (bytes_eq q) (texts c.self.inside.items.keys)) c.as_str.ensures
    ∙ ap (list_any (bytes_eq c.args.name.now)) c.self.view_is
