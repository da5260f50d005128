use Rattle.std.proofs.Common.{ap, ◌∙◌, ◌++◌, ◌∷◌, []}
use Rattle.std.specs.List.{list_any}
use Rattle.std.specs.Str.{bytes_eq}
use Rattle.gg_shape_names.proofs.TableLemmas.{any-inserted, texts}
use Rattle.gg_shape_names.proofs.table.Words.add.Goals as goal
use Rattle.gg_shape_names.proofs.table.Words.add.Goals.{in-Ok, in-Err}

pub returns : goal.returns
returns c =
    elim c.match-insert.branch [
      | in-Ok w ↦
          rw w.result-is
          (λ q. ap (λ l. list_any (bytes_eq q) (texts l)) w.in-Ok.ensures.keys
          ∙ any-inserted q c.self.inside.items.keys c.as_str.result
          ∙ ap (λ n. list_any (bytes_eq q) (texts c.self.inside.items.keys ++ n ∷ [])) c.as_str.ensures
          ∙ ap (λ l. list_any (bytes_eq q) (l ++ c.args.name.now ∷ [])) c.self.view_is)
      | in-Err w ↦ rw w.result-is tt
    ]
