use Rattle.std.proofs.Common.{refl}
use Rattle.gg_cut_plan.specs.Ports.{giver_of, ports_of}
use Rattle.gg_cut_plan.specs.Direct.{hub_of}
use Rattle.gg_cut_routes.proofs.CutLemmas.{cut-base}
use Rattle.gg_cut_routes.proofs.SideLemmas.{source-routes}
use Rattle.gg_cut_reference.specs.Made.{holder_of, keeper_of}
use Rattle.gg_cut_reference.proofs.FollowLemmas.{source-column}
use Rattle.gg_cut_reference.proofs.laws.sources_follow.Goals as goal

pub returns : goal.returns
returns c = λ design listed piped entries direct start columns end rows p channel is keeps apart given typed run lt none from t le below.
    let hub = hub_of design.circuit design.tree listed piped entries direct in
    let base = cut-base design listed piped entries direct is keeps apart (c.channels_once.ensures.once design listed entries is keeps apart) (c.channels_once.ensures.ends design listed entries is keeps apart) in
    source-column hub base is.formed (holder_of hub) (keeper_of design.tree listed) (giver_of (ports_of design.circuit design.tree listed entries) p) p lt
    (source-routes design.circuit design.tree listed entries (hub_of design.circuit design.tree listed piped entries direct) base refl p lt none) start columns end rows given run channel from t le below
