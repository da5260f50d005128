use Rattle.std.proofs.Common.{[], take, refl, sym, ap, subst, ◌∙◌, ◌++◌, ◌∷◌}
use Rattle.std.proofs.lemmas.Result.{err_from_is_err_and}
use Rattle.gg_shape_names.specs.inside.Repetitions.{Names}
use Rattle.gg_shape_names.specs.Repetitions.{repeated_in, repeated_port}
use Rattle.gg_shape_names.proofs.AlongLemmas.{left-more, left-refused}
use Rattle.gg_shape_names.proofs.ScopeLemmas.{TellsPorts, ports-start, ports-names, ports-next, ports-all}
use Rattle.gg_shape_names.specs.declared.table.Declared.TheVariants.{Plain}
use Rattle.gg_shape_names.proofs.module.declare_ports.Goals as goal

pub loop-port-init : goal.loop-port-init
loop-port-init c = record {
  told = subst (TellsPorts c.args._circuit.now.modules []) (sym c.requires) (ports-start c.args._circuit.now.modules);
  left_is = refl;
}

pub returns-in_err-fresh-clause-tells : goal.returns-in_err-fresh-clause-tells
returns-in_err-fresh-clause-tells c =
    let p = err_from_is_err_and c.from_residual.result c.from_residual.ensures.1 in
    let names = ports-names c.args._circuit.now.modules (take c.loop-port.port-index c.args.ports.now) c.loop-port.table c.loop-port.invariant.told in
    rw (p.1, p.2)
    (left-refused repeated_port c.args.ports.now c.loop-port.port-index c.port-item.result c.in_err-fresh.field-0.0 c.loop-port-test.true c.port-item.is c.loop-port.invariant.left_is
    (subst (λ names. Names (repeated_in names c.port-item.result.line c.port-item.result.name) c.in_err-fresh.field-0.0) names c.in_err-fresh.ensures))

pub loop-port-preserved : goal.loop-port-preserved
loop-port-preserved c =
    let names = ports-names c.args._circuit.now.modules (take c.loop-port.port-index c.args.ports.now) c.loop-port.table c.loop-port.invariant.told in
    record {
      told = ports-next c.args._circuit.now.modules c.args.ports.now c.loop-port.port-index c.port-item.result c.loop-port.table c.declare.new.self c.loop-port-test.true c.port-item.is c.in_ok-fresh.ensures
          (c.in_ok-declare.ensures.names ∙ ap (λ role. c.loop-port.table ++ (c.port-item.result.name, Plain role) ∷ []) c.port_role.ensures) c.loop-port.invariant.told;
      left_is = left-more repeated_port c.args.ports.now c.loop-port.port-index c.port-item.result c.loop-port-test.true c.port-item.is
          (ap (λ names. repeated_in names c.port-item.result.line c.port-item.result.name) (sym names) ∙ c.in_ok-fresh.ensures) c.loop-port.invariant.left_is;
    }

pub returns-clause-table : goal.returns-clause-table
returns-clause-table c = ports-all c.args._circuit.now.modules c.args.ports.now c.loop-port.port-index c.loop-port.table c.loop-port-test.false c.loop-port.invariant.told
