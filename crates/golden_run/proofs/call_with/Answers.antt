use Rattle.std.proofs.Common.{codes, refl, rules}
use Rattle.golden_run.proofs.HandLemmas.{can-four-at}
use Rattle.golden_run.proofs.call_with.Goals as goal

pub golden_with-requires-clause-bridges : goal.golden_with-requires-clause-bridges
golden_with-requires-clause-bridges g c κs within =
    can-four-at _ _ c.in_ok-bridges.bridges.items (codes "echo1") (codes "echo8") (codes "echo32") (codes "echo64")
    c.args.one c.args.eight c.args.many c.args.most
    (search rules) refl refl refl refl
    c.requires.one c.requires.eight c.requires.many c.requires.most
    c.requires.few1 c.requires.few2 c.requires.few3 c.requires.few4
