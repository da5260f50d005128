use Rattle.std.proofs.Common.{◌≡◌, map, take, length}
use Rattle.gg_shape_names.specs.Namespace.{names_after}
use Rattle.gg_shape_names.specs.Along.{along}
use Rattle.gg_shape_names.proofs.AlongLemmas.{left}
use Rattle.gg_types_rules.specs.inside.Known.{roles_seen, traced_seen, owned_seen}
use Rattle.gg_types.specs.Owned.{port_own}
use Rattle.gg_types.specs.Types.{faults_of, known_after}
use Rattle.gg_types_rules.proofs.module.judge_statements.Given as goal

abbrev pub invariant-loop-statement : goal.invariant-loop-statement
invariant-loop-statement l =
    (l.known.names.now ≡ l.initial.known.names.now)
    × (l.known.number ≡ l.initial.known.number)
    × (l.known.traced.items ≡ l.initial.known.traced.items)
    × (length l.known.own.items ≡ length (names_after l._ports (take l.statement-index l.statements)))
    × (owned_seen l.known ≡ known_after (roles_seen l.initial.known) (traced_seen l.initial.known) (map port_own l._ports) (take l.statement-index l.statements))
    × (along (faults_of (roles_seen l.initial.known) (traced_seen l.initial.known) (map port_own l._ports)) l.statements ≡ left (faults_of (roles_seen l.initial.known) (traced_seen l.initial.known) (map port_own l._ports)) l.statements l.statement-index)
