use Rattle.std.proofs.Common.{List, ℕ, refl, subst}
use Rattle.gg_io.specs.inside.Endings.{PrintsOn}
use Rattle.gg_io.proofs.EndingLemmas.{exit-is}
use Rattle.gg_io.proofs.WritingLemmas.{none-front}
use Rattle.golden_commands.specs.Partition.{to_save}
use Rattle.golden_commands.proofs.FedLemmas.{fed-ports}
use Rattle.golden.proofs.RestLemmas.{resumed-can, resumed-text}
use Rattle.golden.proofs.resume.print_rest.Goals as goal

pub shown_ports-requires : goal.shown_ports-requires
shown_ports-requires g c = c.requires.fed.4.case.keeps

pub returns-in_err-ports-clause-prints : goal.returns-in_err-ports-clause-prints
returns-in_err-ports-clause-prints g c = rw (exit-is c.from_residual.ensures.1) (none-front _ _ _ refl)

pub print_since-requires-clause-run : goal.print_since-requires-clause-run
print_since-requires-clause-run g c κs within =
    let r = c.requires.fed in
    let fed = c.args.fed.now in (
      _,
      resumed-can c.args.tools.now.models.now r.0 r.1 r.2 r.3 fed r.4 c.args.snap.cycle c.args.snap.state c.requires.within c.requires.typed,
      fed-ports (to_save c.args.tools.now.models.now) r.0 r.1 r.2 r.3 fed r.4 c.in_ok-ports.ports c.in_ok-ports.ensures,
    )

pub returns-clause-prints : goal.returns-clause-prints
returns-clause-prints g c =
    let r = c.requires.fed in
    let fed = c.args.fed.now in
    let snap = c.args.snap in
    let models = c.args.tools.now.models.now in
    subst (λ (text : List ℕ). PrintsOn g.K.Sink c.args.out.now c.print_since.new.out text c.print_since.result)
    (resumed-text models r.0 r.1 r.2 r.3 fed r.4 snap.cycle snap.state c.requires.within c.requires.typed c.in_ok-ports.ports c.in_ok-ports.ensures)
    (c.print_since.ensures.prints _ (resumed-can models r.0 r.1 r.2 r.3 fed r.4 snap.cycle snap.state c.requires.within c.requires.typed))
