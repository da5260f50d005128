use Rattle.std.proofs.Common.{◌++◌, ◌∷◌, [], sym, ◌∙◌, ap}
use Rattle.std.specs.Prelude.{if◌then◌else◌}
use Rattle.gg_order.specs.Marks.{is_marked}
use Rattle.gg_cut_pipes.proofs.TableLemmas.{marked-more}
use Rattle.gg_cut_pipes.proofs.fill.marked_in.Goals as goal

pub loop-number-preserved : goal.loop-number-preserved
loop-number-preserved c =
    c.in_ok-push_if.ensures
    ∙ ap (λ l. l ++ (if is_marked c.args.marks.now c.loop-number.number then c.loop-number.number ∷ [] else [])) c.loop-number.invariant
    ∙ sym (marked-more c.args.marks.now c.loop-number.number)
