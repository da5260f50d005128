use Rattle.std.proofs.Common.{◌≡◌, [], ◌+◌, ◌++◌, length, map, take, sym, ap, subst, ◌∙◌, rules}
use Rattle.gg_shape_names.specs.Namespace.{name_by}
use Rattle.gg_shape.specs.inside.Faults.{Refuses}
use Rattle.gg_shape.proofs.FlatLemmas.{along-refused}
use Rattle.gg_shape_names.proofs.AlongLemmas.{left-more}
use Rattle.gg_types_rules.specs.inside.Known.{roles_seen, traced_seen, owned_seen, names_seen}
use Rattle.gg_types.specs.Owned.{port_own}
use Rattle.gg_types.specs.Types.{faults_of, faults_of_kind, own_by}
use Rattle.gg_types_rules.proofs.KnownLemmas.{names-same, roles-same, traced-same}
use Rattle.gg_types.proofs.StepLemmas.{known_after-more, statement-next, count-more}
use Rattle.gg_types_rules.proofs.module.judge_statements.Goals as goal

pub judge-requires : goal.judge-requires
judge-requires c =
    let inv = c.loop-statement.invariant in
    let k = c.loop-statement.known in
    record {
      next = statement-next c.args._ports.now c.args.statements.now (names_seen k) c.loop-statement.statement-index (length k.own.items) c.statement-item.result
          (names-same k c.args.known.now inv.0 inv.1 ∙ c.requires.names) inv.3 c.loop-statement-test.true c.statement-item.is;
    }

pub returns-in_err-judge-clause-answers : goal.returns-in_err-judge-clause-answers
returns-in_err-judge-clause-answers c =
    let inv = c.loop-statement.invariant in
    let i = c.loop-statement.statement-index in
    let x = c.statement-item.result in
    let xs = c.args.statements.now in
    let old = c.args.known.now in
    let k = c.loop-statement.known in
    let r = roles_seen old in
    let t = traced_seen old in
    let start = map port_own c.args._ports.now in
    let same : faults_of_kind (roles_seen k) (traced_seen k) (owned_seen k) x.line x.kind ≡ faults_of r t start (take i xs) x =
    ap (λ y. faults_of_kind y (traced_seen k) (owned_seen k) x.line x.kind) (roles-same k old inv.0 inv.1)
    ∙ ap (λ y. faults_of_kind r y (owned_seen k) x.line x.kind) (traced-same k old inv.0 inv.1 inv.2)
    ∙ ap (λ y. faults_of_kind r t y x.line x.kind) inv.4 in
    let here = subst (λ l. Refuses l c.in_err-judge.field-0.0) same c.in_err-judge.ensures.answers in
    let h = along-refused (faults_of r t start) xs i x c.in_err-judge.field-0.0 c.loop-statement-test.true c.statement-item.is inv.5 here in
    search (rules, h)

pub loop-statement-preserved : goal.loop-statement-preserved
loop-statement-preserved c =
    let inv = c.loop-statement.invariant in
    let i = c.loop-statement.statement-index in
    let x = c.statement-item.result in
    let xs = c.args.statements.now in
    let old = c.args.known.now in
    let k = c.loop-statement.known in
    let r = roles_seen old in
    let t = traced_seen old in
    let start = map port_own c.args._ports.now in
    let roles = roles-same k old inv.0 inv.1 in
    let traced = traced-same k old inv.0 inv.1 inv.2 in
    let none : faults_of r t start (take i xs) x ≡ [] =
    sym (ap (λ y. faults_of_kind y (traced_seen k) (owned_seen k) x.line x.kind) roles
    ∙ ap (λ y. faults_of_kind r y (owned_seen k) x.line x.kind) traced
    ∙ ap (λ y. faults_of_kind r t y x.line x.kind) inv.4) ∙ c.in_ok-judge.ensures.answers in
    let grown = c.in_ok-judge.ensures.own
    ∙ ap (λ y. owned_seen k ++ own_by y (traced_seen k) (owned_seen k) x.kind) roles
    ∙ ap (λ y. owned_seen k ++ own_by r y (owned_seen k) x.kind) traced
    ∙ ap (λ y. y ++ own_by r t y x.kind) inv.4
    ∙ sym (known_after-more r t start xs i x c.loop-statement-test.true c.statement-item.is) in (
      c.judge.ensures.names ∙ inv.0,
      c.judge.ensures.number ∙ inv.1,
      c.judge.ensures.traced ∙ inv.2,
      c.in_ok-judge.ensures.count ∙ ap (λ n. n + length (name_by x)) inv.3 ∙ sym (count-more c.args._ports.now xs i x c.loop-statement-test.true c.statement-item.is),
      grown,
      left-more (faults_of r t start) xs i x c.loop-statement-test.true c.statement-item.is none inv.5,
    )
