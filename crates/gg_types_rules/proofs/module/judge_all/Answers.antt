use Rattle.std.proofs.Common.{◌≡◌, map, flat_map, OnOk, ap, subst, ◌∙◌}
use Rattle.gg_shape_names.specs.Along.{along}
use Rattle.gg_shape.specs.inside.Faults.{Answers}
use Rattle.gg_shape.proofs.FlatLemmas.{decided_next}
use Rattle.gg_types_rules.specs.inside.Known.{roles_seen, traced_seen, owned_seen}
use Rattle.gg_types.specs.Owned.{port_own}
use Rattle.gg_types.specs.Types.{port_faults, faults_of, known_after}
use Rattle.gg_types_rules.proofs.KnownLemmas.{roles-same, traced-same}
use Rattle.gg_types_rules.proofs.module.judge_all.Goals as goal

pub returns-clause-answers : goal.returns-clause-answers
returns-clause-answers c =
    let old = c.args.known.now in
    let now = c.judge_ports.new.known in
    let start = map port_own c.args.ports.now in
    let e = c.judge_ports.ensures in
    let same = ap (λ x. along (faults_of x (traced_seen now) start) c.args.statements.now) (roles-same now old e.names e.number)
    ∙ ap (λ x. along (faults_of (roles_seen old) x start) c.args.statements.now) (traced-same now old e.names e.number e.traced) in
    decided_next (flat_map port_faults c.args.ports.now) (along (faults_of (roles_seen old) (traced_seen old) start) c.args.statements.now) c.judge_statements.result
    c.in_ok-judge_ports.ensures.answers
    (subst (λ l. Answers l c.judge_statements.result) same c.judge_statements.ensures.answers)

pub returns-clause-own : goal.returns-clause-own
returns-clause-own c =
    let old = c.args.known.now in
    let now = c.judge_ports.new.known in
    let new = c.judge_statements.new.known in
    let start = map port_own c.args.ports.now in
    let e = c.judge_ports.ensures in
    let same = ap (λ x. known_after x (traced_seen now) start c.args.statements.now) (roles-same now old e.names e.number)
    ∙ ap (λ x. known_after (roles_seen old) x start c.args.statements.now) (traced-same now old e.names e.number e.traced) in
    subst (λ l. OnOk c.judge_statements.result (owned_seen new ≡ l)) same c.judge_statements.ensures.own
