use Rattle.std.proofs.Common.{arith}
use Rattle.golden_commands.proofs.HandedLemmas.{none-handed}
use Rattle.golden.proofs.demo.demo_case.Goals as goal

pub returns-in-Ok : goal.returns-in-Ok
returns-in-Ok c =
    record {
      means = c.in_ok-design.ensures.means;
      designed = record { formed = c.piece.ensures.formed; ordered = c.order.ensures.ordered };
      keeps = c.in_ok-design.ensures.keeps;
      held = c.in_ok-design.ensures.held;
      whole = c.in_ok-design.ensures.whole;
      handed = none-handed;
      cuts = c.in-Ok.ensures.cuts;
      bounded = (omega arith, omega arith);
      planned = c.in-Ok.ensures.planned;
    }
