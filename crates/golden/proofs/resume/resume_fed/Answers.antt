use Rattle.std.proofs.Common.{inl, refl}
use Rattle.gg_io.proofs.EndingLemmas.{IfRefused-map, exit-is, judged-ends, stopped-ends}
use Rattle.golden_commands.specs.Partition.{to_save}
use Rattle.golden_commands.specs.Resumed.{IsResumedText, snap_file_for}
use Rattle.golden.proofs.resume.resume_fed.Goals as goal

pub resume_bytes-requires-clause-fed : goal.resume_bytes-requires-clause-fed
resume_bytes-requires-clause-fed g c κs within = c.requires.fed

pub returns-in_err-bytes-clause-ended : goal.returns-in_err-bytes-clause-ended
returns-in_err-bytes-clause-ended g c = λ circuit partition trace capacity is.
    stopped-ends refl (exit-is c.from_residual.ensures.1) (IfRefused-map (λ said h. inl (inl h)) c.in_err-bytes.field-0.0 c.in_err-bytes.ensures.refused)

pub returns-clause-ended : goal.returns-clause-ended
returns-clause-ended g c = λ circuit partition trace capacity is.
    judged-ends {file = snap_file_for (to_save c.args.tools.now.models.now) circuit partition trace c.args.snap.now} {IsText = IsResumedText (to_save c.args.tools.now.models.now) circuit partition trace} (record { held = c.in_ok-bytes.ensures.held; within = c.in_ok-bytes.ensures.within })
    (c.resume_bytes.ensures.ended circuit partition trace capacity is)
