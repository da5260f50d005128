use Rattle.std.proofs.Common.{◌≡◌, sym, ap, subst, ◌∙◌, rules}
use Rattle.gg_ast.specs.Tree.{ModuleTree}
use Rattle.gg_shape_names.specs.Modules.{module_at}
use Rattle.gg_shape_names.specs.inside.Namespace.{names_in}
use Rattle.gg_shape.specs.inside.Faults.{Refuses}
use Rattle.gg_types.specs.Clocks.{leads_to_input}
use Rattle.gg_types_rules.specs.inside.Known.{names_seen}
use Rattle.gg_types.specs.inside.Named.{flagged, owned}
use Rattle.gg_types.specs.Types.{faults_of_module}
use Rattle.gg_types_rules.proofs.KnownLemmas.{faults-same, known-same, names-at}
use Rattle.gg_types_rules.proofs.circuit.judge_module.Goals as goal

pub returns-in_err-judge_all-clause-answers : goal.returns-in_err-judge_all-clause-answers
returns-in_err-judge_all-clause-answers c =
    let circuit = c.args.names.now in
    let m = module_at circuit.modules c.args.number in
    let traced = flagged (names_in m) c.in_ok-flags.field-0.flags.items in
    let t : traced ≡ leads_to_input m = λ i. λ name. c.in_ok-flags.ensures.flags name i in
    let p = c.ports.ensures ∙ ap (λ (x : ModuleTree). x.ports) c.module_of-here.ensures in
    let s = c.statements.ensures ∙ ap (λ (x : ModuleTree). x.statements) c.module_of-here.ensures in
    let same = faults-same circuit m traced c.ports.result.now c.statements.result.now t p s in
    let h : Refuses (faults_of_module circuit.modules m) c.in_err-judge_all.field-0.0 = subst (λ l. Refuses l c.in_err-judge_all.field-0.0) same c.in_err-judge_all.ensures.answers in
    search (rules, h)

pub returns-clause-answers : goal.returns-clause-answers
returns-clause-answers c =
    let circuit = c.args.names.now in
    let m = module_at circuit.modules c.args.number in
    let traced = flagged (names_in m) c.in_ok-flags.field-0.flags.items in
    let t : traced ≡ leads_to_input m = λ i. λ name. c.in_ok-flags.ensures.flags name i in
    let p = c.ports.ensures ∙ ap (λ (x : ModuleTree). x.ports) c.module_of-here.ensures in
    let s = c.statements.ensures ∙ ap (λ (x : ModuleTree). x.statements) c.module_of-here.ensures in
    sym (faults-same circuit m traced c.ports.result.now c.statements.result.now t p s) ∙ c.in_ok-judge_all.ensures.answers

pub returns-clause-own : goal.returns-clause-own
returns-clause-own c =
    let circuit = c.args.names.now in
    let m = module_at circuit.modules c.args.number in
    let traced = flagged (names_in m) c.in_ok-flags.field-0.flags.items in
    let t : traced ≡ leads_to_input m = λ i. λ name. c.in_ok-flags.ensures.flags name i in
    let p = c.ports.ensures ∙ ap (λ (x : ModuleTree). x.ports) c.module_of-here.ensures in
    let s = c.statements.ensures ∙ ap (λ (x : ModuleTree). x.statements) c.module_of-here.ensures in
    let new = c.judge_all.new.known in
    let names : names_seen new ≡ names_in m = names-at new circuit c.args.number c.judge_all.ensures.names c.judge_all.ensures.number in
    record {
      one_each = c.in_ok-judge_all.ensures.count;
      told = ap (λ ns. owned ns new.own.items) (sym names) ∙ c.in_ok-judge_all.ensures.own ∙ known-same circuit m traced c.ports.result.now c.statements.result.now t p s;
    }
