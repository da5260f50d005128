use Rattle.std.proofs.Common.{ap, ◌∙◌}
use Rattle.gg_shape.specs.inside.Told.{reference_of, is_among}
use Rattle.gg_shape.proofs.ConnectedLemmas.{among-own}
use Rattle.gg_shape.proofs.connected.Connected.contains.Goals as goal

pub returns : goal.returns
returns c =
    c.contains.ensures
    ∙ among-own c.args.key c.self.inside.keys.keys
    ∙ ap (λ l. is_among l (reference_of c.args.key)) c.self.view_is
