use Rattle.std.proofs.Common.{refl}
use Rattle.gg_io.specs.inside.Endings.{Wants}
use Rattle.golden.proofs.demo.demo.Goals as goal

pub print_demo-requires-clause-few : goal.print_demo-requires-clause-few
print_demo-requires-clause-few g c κs within = c.requires.few

pub print_demo-requires-clause-some : goal.print_demo-requires-clause-some
print_demo-requires-clause-some g c κs within = c.requires.some

pub print_demo-requires-clause-fed : goal.print_demo-requires-clause-fed
print_demo-requires-clause-fed g c κs within = c.in-Ok.ensures

pub returns-in-Ok-clause-ended : goal.returns-in-Ok-clause-ended
returns-in-Ok-clause-ended g c = c.print_demo.ensures.ended

pub returns-clause-ended : goal.returns-clause-ended
returns-clause-ended g c = Wants refl refl
