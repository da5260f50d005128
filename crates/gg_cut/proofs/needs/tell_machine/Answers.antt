use Rattle.std.specs.Prelude.{slice_index_or}
use Rattle.std.proofs.Common.{[]}
use Rattle.std.proofs.lemmas.Result.{on_ok_weaker}
use Rattle.gg_cut_plan.specs.Plan.{wire_at}
use Rattle.gg_cut.proofs.NeedLemmas.{given-cut, given-memory}
use Rattle.gg_cut.proofs.needs.tell_machine.Goals as goal

pub returns-in-Cut-clause-told : goal.returns-in-Cut-clause-told
returns-in-Cut-clause-told c = on_ok_weaker c.tell_part.result
    (λ told k lt gives. given-cut c.args.machine.now (wire_at c.args.wires.now k) c.in-Cut.part c.as_slice-ins.result.now (slice_index_or c.tell_part.new.table.items k []) c.in-Cut.is c.as_slice-ins.ensures (told k lt gives))
    c.tell_part.ensures.told

pub returns-in-Memory-clause-told : goal.returns-in-Memory-clause-told
returns-in-Memory-clause-told c = on_ok_weaker c.tell_part-in-Memory.result
    (λ told k lt gives. given-memory c.args.machine.now (wire_at c.args.wires.now k) c.in-Memory.part c.as_slice-ins.result.now (slice_index_or c.tell_part-in-Memory.new.table.items k []) c.in-Memory.is c.as_slice-ins.ensures (told k lt gives))
    c.tell_part-in-Memory.ensures.told
