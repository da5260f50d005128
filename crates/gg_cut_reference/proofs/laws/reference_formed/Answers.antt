use Rattle.gg_cut_plan.specs.Direct.{hub_of}
use Rattle.gg_cut_routes.proofs.CutLemmas.{cut-base}
use Rattle.gg_cut_reference.specs.Made.{holder_of, keeper_of}
use Rattle.gg_cut_reference.proofs.HolderLemmas.{keeper-is}
use Rattle.gg_cut_reference.proofs.WholeReference.{made, whole-formed, ordered}
use Rattle.gg_cut_reference.proofs.laws.reference_formed.Goals as goal

pub returns-clause-made : goal.returns-clause-made
returns-clause-made c = λ design listed piped entries direct is keeps apart.
    made design.circuit design.tree listed is.formed keeps.fitting keeps.scoped apart piped entries direct (cut-base design listed piped entries direct is keeps apart (c.channels_once.ensures.once design listed entries is keeps apart) (c.channels_once.ensures.ends design listed entries is keeps apart)) (holder_of (hub_of design.circuit design.tree listed piped entries direct)) (keeper_of design.tree listed)

pub returns-clause-formed : goal.returns-clause-formed
returns-clause-formed c = λ design listed piped entries direct is keeps apart fresh.
    whole-formed design.circuit design.tree listed is.formed keeps.fitting keeps.scoped apart piped entries direct (cut-base design listed piped entries direct is keeps apart (c.channels_once.ensures.once design listed entries is keeps apart) (c.channels_once.ensures.ends design listed entries is keeps apart)) (holder_of (hub_of design.circuit design.tree listed piped entries direct)) (keeper_of design.tree listed) (keeper-is design.circuit design.tree listed keeps.fitting) fresh

pub returns-clause-ordered : goal.returns-clause-ordered
returns-clause-ordered c = λ design listed piped entries direct is keeps apart.
    ordered design.circuit design.tree listed is.formed keeps.fitting keeps.scoped apart piped entries direct (cut-base design listed piped entries direct is keeps apart (c.channels_once.ensures.once design listed entries is keeps apart) (c.channels_once.ensures.ends design listed entries is keeps apart)) (holder_of (hub_of design.circuit design.tree listed piped entries direct)) (keeper_of design.tree listed) design.order is.ordered
