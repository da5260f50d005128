use Rattle.gg_cut_routes.proofs.CutLemmas.{are-routes}
use Rattle.gg_cut_routes.proofs.laws.channels_routed.Goals as goal

pub returns : goal.returns
returns c = λ design listed piped entries direct is keeps apart.
    are-routes design listed piped entries direct is keeps apart (c.channels_once.ensures.once design listed entries is keeps apart) (c.channels_once.ensures.ends design listed entries is keeps apart) (λ m globals memories low signals once banks memories-once. c.machine_makes_part.ensures design listed entries m globals memories is keeps apart low signals once banks memories-once)
