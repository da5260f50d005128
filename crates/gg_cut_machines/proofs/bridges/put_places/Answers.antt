use Rattle.std.proofs.Common.{◌≡◌, ◌-◌, length, ◌∙◌, ap, arith}
use Rattle.std.specs.Prelude.{drop}
use Rattle.gg_flat.specs.Line.{value_at}
use Rattle.gg_flat_tree.specs.Tree.{path_at}
use Rattle.gg_cut_plan.specs.Listed.{place_of}
use Rattle.gg_cut_machines.proofs.PortLemmas.{behind-place, no-place, or_behind, place-more}
use Rattle.gg_cut_machines.proofs.bridges.put_places.Goals as goal

pub loop-step-init : goal.loop-step-init
loop-step-init c = (c.requires.count, λ s lt. no-place c.args.ports.now (path_at c.args.piece.now.paths s) (value_at c.args.table.now.items s) (c.requires.zero s))

pub loop-step-preserved : goal.loop-step-preserved
loop-step-preserved c = (
  c.set_named.ensures.count ∙ c.loop-step.invariant.0,
  λ s lt.
      place-more c.args.ports.now c.loop-step.step c.index-ports-place.result (path_at c.args.piece.now.paths s) (value_at c.loop-step.table.items s) (value_at c.set_named.new.table.items s)
      c.loop-step-test.true c.index-ports-place.is (c.loop-step.invariant.1 s lt) (c.set_named.ensures.set s lt),
)

pub returns-clause-places : goal.returns-clause-places
returns-clause-places c = λ s lt.
    let ports = c.args.ports.now in
    let path = path_at c.args.piece.now.paths s in
    let done : length ports - c.loop-step.step ≡ 0 = omega (arith, c.loop-step-test.false) in
    c.loop-step.invariant.1 s lt ∙ ap (λ n. or_behind n (place_of (drop n ports) path)) done ∙ behind-place ports path
