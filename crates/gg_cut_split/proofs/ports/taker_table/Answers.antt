use Rattle.std.proofs.Common.{◌≡◌, ◌-◌, ◌+◌, length, drop, ◌∙◌, ap, arith}
use Rattle.std.specs.Prelude.{if◌then◌else◌}
use Rattle.std.proofs.lemmas.List.{length-replicate}
use Rattle.gg_flat.specs.Line.{value_at}
use Rattle.gg_flat_tree.specs.Tree.{path_at}
use Rattle.gg_cut_plan.specs.Listed.{is_among}
use Rattle.gg_cut_plan.specs.Ports.{lister}
use Rattle.gg_cut_split.specs.inside.Ends.{entry_ports}
use Rattle.gg_cut_split.proofs.TakerLemmas.{behind-none, one_behind, taker-more, no-taker}
use Rattle.gg_cut_split.proofs.ports.taker_table.Goals as goal

pub loop-step-init : goal.loop-step-init
loop-step-init c = (
  ap length c.in_ok-table.ensures ∙ length-replicate c.signal_count.result 0 ∙ c.signal_count.ensures.count,
  λ s lt. no-taker c.args.seen c.args.entries.now (path_at c.args.piece.now.paths s) c.signal_count.result s (value_at c.in_ok-table.table.items s) (ap (λ l. value_at l s) c.in_ok-table.ensures),
)

pub loop-step-preserved : goal.loop-step-preserved
loop-step-preserved c = (
  c.put_ports.ensures.count ∙ c.loop-step.invariant.0,
  λ s lt.
      let path = path_at c.args.piece.now.paths s in
      let ports = c.entry_ports-ports.ensures in
      taker-more c.args.seen c.args.entries.now c.loop-step.step c.index-entries-place.result path (value_at c.loop-step.table.items s) (value_at c.put_ports.new.table.items s)
      c.loop-step-test.true c.index-entries-place.is (c.loop-step.invariant.1 s lt)
      (c.put_ports.ensures.put s lt ∙ ap (λ l. if is_among l path then length c.args.entries.now - 1 - c.loop-step.step + 1 else value_at c.loop-step.table.items s) ports),
)

pub returns-clause-takers : goal.returns-clause-takers
returns-clause-takers c = λ s lt.
    let entries = c.args.entries.now in
    let path = path_at c.args.piece.now.paths s in
    let done : length entries - c.loop-step.step ≡ 0 = omega (arith, c.loop-step-test.false) in
    c.loop-step.invariant.1 s lt
    ∙ ap (λ n. one_behind n (lister (entry_ports c.args.seen) (drop n entries) path)) done
    ∙ behind-none (lister (entry_ports c.args.seen) entries path)
