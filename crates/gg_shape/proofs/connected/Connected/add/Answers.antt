use Rattle.std.proofs.Common.{◌++◌, ◌∷◌, [], map, ap, ◌∙◌}
use Rattle.gg_shape.specs.inside.Told.{reference_of, is_among}
use Rattle.gg_shape.proofs.ConnectedLemmas.{among-inserted}
use Rattle.gg_shape.proofs.connected.Connected.add.Goals as goal
use Rattle.gg_shape.proofs.connected.Connected.add.Goals.{in-Ok, in-Err}

pub returns : goal.returns
returns c =
    elim c.match-insert.branch [
      | in-Ok w ↦
          rw w.result-is
          (λ r. ap (λ l. is_among (map reference_of l) r) w.in-Ok.ensures.keys
          ∙ among-inserted r c.self.inside.keys.keys c.args.key
          ∙ ap (λ l. is_among (l ++ reference_of c.args.key ∷ []) r) c.self.view_is)
      | in-Err w ↦ rw w.result-is tt
    ]
