use Rattle.gg_cut_plan.specs.Direct.{hub_of}
use Rattle.gg_cut_routes.proofs.CutLemmas.{cut-base}
use Rattle.gg_cut_reference.specs.Made.{holder_of, keeper_of}
use Rattle.gg_cut_reference.proofs.FollowLemmas.{channel-column}
use Rattle.gg_cut_reference.proofs.laws.channels_follow.Goals as goal

pub returns : goal.returns
returns c = λ design listed piped entries direct start columns end rows channel is keeps apart typed run lt.
    channel-column (hub_of design.circuit design.tree listed piped entries direct)
    (cut-base design listed piped entries direct is keeps apart (c.channels_once.ensures.once design listed entries is keeps apart) (c.channels_once.ensures.ends design listed entries is keeps apart)) is.formed (holder_of (hub_of design.circuit design.tree listed piped entries direct)) (keeper_of design.tree listed) start typed columns end rows run channel lt
