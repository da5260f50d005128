use Rattle.std.proofs.Common.{◌≡◌, map, take, string_bytes}
use Rattle.gg_flat_tree.specs.Tree.{path_at}
use Rattle.gg_cut_reference.specs.text.CheckText.{spaced}
use Rattle.gg_cut_reference.specs.inside.PlanText.{channel_names}
use Rattle.gg_cut_reference.proofs.text.needs.spaced.Given as goal

abbrev pub invariant-loop-need : goal.invariant-loop-need
invariant-loop-need l = string_bytes l.text ≡ spaced (map (path_at (channel_names l.channels)) (take l.need-index l.needs))
