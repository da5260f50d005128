use Rattle.gg_elab_sites.proofs.NameLemmas.{place_of-at}
use Rattle.gg_elab_tree.proofs.places.place_at.Goals as goal

pub returns : goal.returns
returns c = record { is = place_of-at c.args.paths.now c.args.path.now c.in-Some.place c.in-Some.ensures.found c.len.ensures.distinct }
