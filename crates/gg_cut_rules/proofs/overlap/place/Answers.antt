use Rattle.std.proofs.Common.{sym, arith}
use Rattle.std.specs.Prelude.{bytes_eq}
use Rattle.gg_cut_plan.proofs.PathLemmas.{first_place-Some}
use Rattle.gg_cut_rules.proofs.overlap.place.Goals as goal

pub returns-in-Some-clause-within : goal.returns-in-Some-clause-within
returns-in-Some-clause-within c =
    let at = first_place-Some (bytes_eq c.args.path.now) c.args.tree.now.paths c.in-Some.place (sym c.in-Some.ensures) in
    omega (arith, at.within, c.len.ensures.paths)
