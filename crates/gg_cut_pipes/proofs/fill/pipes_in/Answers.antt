use Rattle.std.proofs.Common.{◌<◌, length, sym, ◌∙◌, ap, subst}
use Rattle.std.specs.Prelude.{All}
use Rattle.gg_cut_plan.specs.inside.Listed.{AreMarks}
use Rattle.gg_cut_pipes.proofs.TableLemmas.{pipes-found}
use Rattle.gg_cut_pipes.proofs.fill.pipes_in.Goals as goal

pub marks_of-requires : goal.marks_of-requires
marks_of-requires c = subst (All (λ s. s < c.args.count)) (sym (c.deref.ensures.value ∙ c.in_ok-places.ensures)) c.requires.known

pub returns : goal.returns
returns c =
    c.in_ok-pipes.ensures
    ∙ pipes-found c.deref-2.result.now c.deref.result.now c.args.count c.args.channels.now (ap length c.deref-2.ensures.value ∙ c.in_ok-marks.ensures.count)
    (subst (AreMarks c.deref.result.now) (sym c.deref-2.ensures.value) c.in_ok-marks.ensures.marks) (c.deref.ensures.value ∙ c.in_ok-places.ensures)
