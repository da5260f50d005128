use Rattle.std.proofs.Common.{take}
use Rattle.std.proofs.lemmas.Result.{err_from_is_err_and}
use Rattle.gg_shape_names.specs.Repetitions.{repeated_in_field}
use Rattle.gg_shape_names.proofs.AlongLemmas.{left-more, left-refused}
use Rattle.gg_shape_names.proofs.PortLemmas.{have-next}
use Rattle.gg_shape_names.proofs.memory.memory_ports.Goals as goal

pub returns-in_err-add_ports-clause-tells : goal.returns-in_err-add_ports-clause-tells
returns-in_err-add_ports-clause-tells c =
    let p = err_from_is_err_and c.from_residual.result c.from_residual.ensures.1 in
    rw (p.1, p.2)
    (left-refused repeated_in_field c.args.fields.now c.loop-field.field-index c.field-item.result c.in_err-add_ports.field-0.0 c.loop-field-test.true c.field-item.is c.loop-field.invariant.left_is
    (c.in_err-add_ports.ensures.tells (take c.loop-field.field-index c.args.fields.now) c.loop-field.invariant.have))

pub loop-field-preserved : goal.loop-field-preserved
loop-field-preserved c = record {
  have = have-next c.args.fields.now c.loop-field.field-index c.field-item.result c.add_ports.new.ports.readers c.add_ports.new.ports.writers c.loop-field-test.true c.field-item.is
      (c.in_ok-add_ports.ensures.ports (take c.loop-field.field-index c.args.fields.now) c.loop-field.invariant.have);
  left_is = left-more repeated_in_field c.args.fields.now c.loop-field.field-index c.field-item.result c.loop-field-test.true c.field-item.is
      (c.in_ok-add_ports.ensures.tells (take c.loop-field.field-index c.args.fields.now) c.loop-field.invariant.have) c.loop-field.invariant.left_is;
}
