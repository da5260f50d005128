use Rattle.std.proofs.Common.{ap, ◌∙◌}
use Rattle.gg_types_rules.specs.inside.Known.{names_seen}
use Rattle.gg_types.specs.inside.Named.{owned}
use Rattle.gg_types.proofs.OwnLemmas.{owned-push}
use Rattle.gg_types_rules.proofs.statement.declare.Goals as goal

pub returns-in-Ok-clause-own : goal.returns-in-Ok-clause-own
returns-in-Ok-clause-own c = λ name next.
    ap (owned (names_seen c.args.known.now)) c.in-Ok.ensures.items
    ∙ owned-push (names_seen c.args.known.now) c.args.known.now.own.items c.args.own name next
