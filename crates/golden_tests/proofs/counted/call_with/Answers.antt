use Rattle.std.proofs.Common.{codes, refl, rules}
use Rattle.golden_tests.proofs.HandLemmas.{can-two-at}
use Rattle.golden_tests.proofs.counted.call_with.Goals as goal

pub golden_with-requires-clause-bridges : goal.golden_with-requires-clause-bridges
golden_with-requires-clause-bridges g c κs within =
    can-two-at _ _ c.in_ok-bridges.bridges.items (codes "first") (codes "other") c.args.first c.args.other
    (search rules) refl refl
    c.requires.first c.requires.other c.requires.few_of_first c.requires.few_of_other
