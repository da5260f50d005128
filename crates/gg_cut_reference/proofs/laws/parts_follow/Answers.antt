use Rattle.gg_cut_plan.specs.Direct.{hub_of}
use Rattle.gg_cut_routes.proofs.CutLemmas.{cut-base}
use Rattle.gg_cut_reference.specs.Made.{holder_of, keeper_of}
use Rattle.gg_cut_reference.proofs.FollowLemmas.{follows}
use Rattle.gg_cut_reference.proofs.MachineLemmas.{cut-part}
use Rattle.gg_cut_reference.proofs.HolderLemmas.{holder-is, keeper-is}
use Rattle.gg_cut_reference.proofs.laws.parts_follow.Goals as goal

pub returns : goal.returns
returns c = λ design listed piped entries direct m part start columns end rows is keeps apart held cut typed run.
    follows (hub_of design.circuit design.tree listed piped entries direct)
    (cut-base design listed piped entries direct is keeps apart (c.channels_once.ensures.once design listed entries is keeps apart) (c.channels_once.ensures.ends design listed entries is keeps apart)) is.formed (holder_of (hub_of design.circuit design.tree listed piped entries direct)) (keeper_of design.tree listed) m part (cut-part design listed piped entries direct m part cut)
    (record { registers = holder-is (hub_of design.circuit design.tree listed piped entries direct) held; kept = λ k h. keeper-is design.circuit design.tree listed keeps.fitting m k ((cut.memories k).0 h) }) start typed columns end rows run
