use Rattle.std.proofs.Common.{◌≡◌, drop}
use Rattle.gg_types_rules.specs.inside.Known.{roles_seen, traced_seen, owned_seen}
use Rattle.gg_types.specs.Types.{argument_faults}
use Rattle.gg_types_rules.proofs.statement.judge_arguments.Given as goal

abbrev pub invariant-loop-argument : goal.invariant-loop-argument
invariant-loop-argument l =
    argument_faults (roles_seen l.known) (traced_seen l.known) (owned_seen l.known) l.line l.arguments
    ≡ argument_faults (roles_seen l.known) (traced_seen l.known) (owned_seen l.known) l.line (drop l.argument-index l.arguments)
