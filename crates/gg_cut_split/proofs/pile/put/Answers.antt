use Rattle.gg_cut_split.proofs.SpreadLemmas.{IsPut-set}
use Rattle.gg_cut_split.proofs.pile.put.Goals as goal

pub returns : goal.returns
returns c = IsPut-set c.args.piles.now c.push_at.new.piles c.args.machine c.args.number c.requires c.in_ok-push_at.ensures
