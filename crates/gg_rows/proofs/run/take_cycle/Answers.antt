use Rattle.std.proofs.Common.{◌≡◌, List, ℕ, length, subst, arith}
use Rattle.gg_rows.proofs.run.take_cycle.Goals as goal

pub take-requires-clause-can : goal.take-requires-clause-can
take-requires-clause-can g c =
    let same : length c.args.outs.now ≡ length c.output_values.new.outs = omega (arith, c.output_values.auto.outs) in
    subst (g.W.Rows.can_take c.args.rows.now) same c.requires.can

pub returns-clause-row : goal.returns-clause-row
returns-clause-row g c =
    λ plan start columns n upto run stands from counted lt near.
    subst (λ (row : List ℕ). g.W.Rows.takes c.args.rows.now c.args.taken.now c.args.cycle row c.take.new.taken c.take.result)
    (c.output_values.ensures plan start columns n upto run stands.of_plan from counted stands.all lt near) c.take.ensures

pub returns-clause-at : goal.returns-clause-at
returns-clause-at g c = record { row = c.output_values.new.outs; took = c.take.ensures }
