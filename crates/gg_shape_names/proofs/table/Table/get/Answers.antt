use Rattle.std.proofs.Common.{ap, ◌∙◌}
use Rattle.gg_bits.specs.Lists.{find_word}
use Rattle.gg_shape_names.proofs.TableLemmas.{lookup-seen, seen}
use Rattle.gg_shape_names.proofs.table.Table.get.Goals as goal

pub returns : goal.returns
returns c =
    c.get.ensures.value
    ∙ lookup-seen c.as_str.result.now c.self.inside.items.entries
    ∙ ap (λ q. find_word q (seen c.self.inside.items.entries)) c.as_str.ensures
    ∙ ap (find_word c.args.name.now) c.self.view_is
