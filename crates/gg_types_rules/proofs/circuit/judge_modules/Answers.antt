use Rattle.std.proofs.Common.{◌≡◌, ◌<◌, length, flat_map, subst, arith, ◌∙◌}
use Rattle.std.proofs.lemmas.List.{at_drop_all}
use Rattle.std.proofs.lemmas.Result.{err_from_is_err_and}
use Rattle.gg_shape.proofs.FlatLemmas.{module-more, module-refused}
use Rattle.gg_types.specs.inside.Typed.{TellModules, TellAllClocks}
use Rattle.gg_types.specs.Types.{faults_of_module}
use Rattle.gg_types_rules.proofs.TellLemmas.{own-more, clocks-more}
use Rattle.gg_types_rules.proofs.circuit.judge_modules.Goals as goal

pub returns-in_err-judged-clause-answers : goal.returns-in_err-judged-clause-answers
returns-in_err-judged-clause-answers c =
    let modules = c.args.names.now.modules in
    let n = c.loop-number.number in
    let p = err_from_is_err_and c.from_residual.result c.from_residual.ensures.1 in
    let lt : n < length modules = omega (arith, c.loop-number-test.true, c.node_count-number-end.ensures) in
    rw (p.1, p.2) (module-refused (faults_of_module modules) modules n c.in_err-judged.field-0.0 lt c.loop-number.invariant.0 c.in_err-judged.ensures.answers)

pub loop-number-preserved : goal.loop-number-preserved
loop-number-preserved c =
    let modules = c.args.names.now.modules in
    let n = c.loop-number.number in
    let inv = c.loop-number.invariant in
    let told = c.in_ok-judged.ensures in
    let old = c.loop-number.tables in
    let new = c.add_module.new.tables in
    let added = c.in_ok-add_module.ensures in
    let lt : n < length modules = omega (arith, c.loop-number-test.true, c.node_count-number-end.ensures) in (
      module-more (faults_of_module modules) modules n lt told.answers inv.0,
      own-more modules n old.own.items new.own.items c.in_ok-judged.judged.own.items added.own told.own inv.1,
      clocks-more modules n old.clocks.items new.clocks.items c.in_ok-judged.judged.clocks.items added.clocks told.clocks inv.2,
    )

pub returns : goal.returns
returns c =
    let modules = c.args.names.now.modules in
    let n = c.loop-number.number in
    let inv = c.loop-number.invariant in
    let tables = c.loop-number.tables in
    let all : n ≡ length modules = omega (arith, c.loop-number-test.false, c.loop-number.auto.number-end, c.node_count-number-end.ensures) in
    record {
      answers = inv.0 ∙ at_drop_all (flat_map (faults_of_module modules)) modules n (omega (arith, all));
      own = subst (λ k. TellModules modules k tables.own.items) all inv.1;
      clocks = subst (λ k. TellAllClocks modules k tables.clocks.items) all inv.2;
    }
