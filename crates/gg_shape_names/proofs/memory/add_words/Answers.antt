use Rattle.std.proofs.Common.{◌++◌, take}
use Rattle.std.proofs.lemmas.Result.{err_from_is_err_and}
use Rattle.gg_shape_names.specs.Repetitions.{repeated_port_of}
use Rattle.gg_shape_names.proofs.AlongLemmas.{left-more, left-refused}
use Rattle.gg_shape_names.proofs.PortLemmas.{either-grown, same-more}
use Rattle.gg_shape_names.proofs.memory.add_words.Goals as goal

pub returns-in_err-fresh-clause-tells : goal.returns-in_err-fresh-clause-tells
returns-in_err-fresh-clause-tells c =
    let p = err_from_is_err_and c.from_residual.result c.from_residual.ensures.1 in
    rw (p.1, p.2)
    (λ earlier either. left-refused (repeated_port_of earlier c.args.line) c.args.names.now c.loop-name.name-index c.name-item.result c.in_err-fresh.field-0.0 c.loop-name-test.true c.name-item.is
    (c.loop-name.invariant.left_is earlier either)
    (c.in_err-fresh.ensures (earlier ++ take c.loop-name.name-index c.args.names.now)
    (either-grown earlier c.args.words.now c.args.others.now (take c.loop-name.name-index c.args.names.now) c.loop-name.words either c.loop-name.invariant.same)))

pub loop-name-preserved : goal.loop-name-preserved
loop-name-preserved c = record {
  same = same-more c.args.words.now c.args.names.now c.loop-name.words c.add.new.self c.loop-name.name-index c.name-item.result c.loop-name-test.true c.name-item.is c.loop-name.invariant.same c.in_ok-add.ensures;
  left_is = λ earlier either.
      left-more (repeated_port_of earlier c.args.line) c.args.names.now c.loop-name.name-index c.name-item.result c.loop-name-test.true c.name-item.is
      (c.in_ok-fresh.ensures (earlier ++ take c.loop-name.name-index c.args.names.now)
      (either-grown earlier c.args.words.now c.args.others.now (take c.loop-name.name-index c.args.names.now) c.loop-name.words either c.loop-name.invariant.same))
      (c.loop-name.invariant.left_is earlier either);
}
