use Rattle.std.proofs.Common.{◌∙◌, ap}
use Rattle.gg_elab_sites.specs.Known.{types_of, value_shape}
use Rattle.gg_elab_sites.proofs.known.value_type.Goals as goal

pub returns : goal.returns
unfolding types_of
returns c = c.ground.ensures ∙ ap value_shape c.typing.ensures
