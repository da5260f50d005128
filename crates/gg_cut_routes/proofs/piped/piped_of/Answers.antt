use Rattle.std.specs.Prelude.{bytes_eq, ◌||◌}
use Rattle.std.proofs.Common.{ℕ, ◌+◌, List, Bool, length, sym, ap, subst, ◌∙◌}
use Rattle.std.proofs.lemmas.List.{take_all}
use Rattle.gg_flat_tree.specs.Tree.{path_at}
use Rattle.gg_order.specs.Marks.{is_marked}
use Rattle.gg_cut_plan.specs.Listed.{is_among}
use Rattle.gg_cut_routes.proofs.ListTables.{written-back}
use Rattle.gg_cut_routes.proofs.PipedTables.{MarkedBy, MarkedBy-next}
use Rattle.gg_cut_routes.proofs.piped.piped_of.Goals as goal

pub loop-name-init : goal.loop-name-init
loop-name-init c = record { long = c.in_ok-marks.ensures.count ∙ c.signal_count.ensures.count; each = λ s lt. c.in_ok-marks.ensures.none s }

pub loop-name-preserved : goal.loop-name-preserved
loop-name-preserved c =
    let paths = c.args.piece.now.paths in
    let names = c.args.names.now in
    let count = length c.args.piece.now.signals in
    let marks = c.loop-name.marks in
    let new = c.mark_named.new.marks in
    let kept = c.mark_named.ensures.count ∙ ap (λ (l : List Bool). length l) c.deref_mut.ensures.value in
    subst (λ (l : List Bool). MarkedBy c.args.piece.now.paths c.args.names.now (length c.args.piece.now.signals) (c.loop-name.name-index + 1) l)
    (sym (written-back marks.len new marks.items marks.ok.0 kept))
    (MarkedBy-next paths names count c.loop-name.name-index c.name-item.result marks.items new c.loop-name-test.true c.name-item.is c.loop-name.invariant kept
    (λ s lt. c.mark_named.ensures.marks s lt ∙ ap (λ (l : List Bool). is_marked l s || bytes_eq (path_at c.args.piece.now.paths s) c.name-item.result) c.deref_mut.ensures.value))

pub returns-clause-count : goal.returns-clause-count
returns-clause-count c = c.loop-name.invariant.long

pub returns-clause-marks : goal.returns-clause-marks
returns-clause-marks c = λ s lt.
    c.loop-name.invariant.each s lt ∙ ap (λ (l : List (List ℕ)). is_among l (path_at c.args.piece.now.paths s)) (take_all c.loop-name.name-index c.args.names.now c.loop-name-test.false)
