use Rattle.std.proofs.Common.{ap, sym}
use Rattle.std.specs.Prelude.{unwrap_or}
use Rattle.gg_elab_sites.proofs.NameLemmas.{place_of-at, place_of-missing}
use Rattle.gg_elab_sites.proofs.table.number.Goals as goal

pub returns-in-Some : goal.returns-in-Some
returns-in-Some c = sym (ap (λ o. unwrap_or o 0) (place_of-at c.args.paths.now c.args.path.now c.in-Some.number c.in-Some.ensures.found c.len.ensures.distinct))

pub returns-in-None : goal.returns-in-None
returns-in-None c = sym (ap (λ o. unwrap_or o 0) (place_of-missing c.args.paths.now c.args.path.now c.in-None.ensures.missing))
