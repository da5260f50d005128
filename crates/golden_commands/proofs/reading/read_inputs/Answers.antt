use Rattle.std.proofs.Common.{List, ℕ, inr, subst}
use Rattle.std.proofs.lemmas.Result.{IfErr-weaker, IfOk-weaker}
use Rattle.gg_io.proofs.EndingLemmas.{IfRefused-map}
use Rattle.golden_commands.specs.Run.{TellsTraceOf}
use Rattle.golden_commands.specs.RunText.{FeedsOnly}
use Rattle.golden_commands.proofs.reading.read_inputs.Goals as goal

pub returns-clause-accepted : goal.returns-clause-accepted
returns-clause-accepted g c =
    let circuit = c.args.design.now.circuit in
    IfOk-weaker c.inputs_of.result _ _
    (λ trace feeds. (
      c.in_ok-bytes.bytes.items,
      record { held = c.in_ok-bytes.ensures.held; within = c.in_ok-bytes.ensures.within },
      subst (λ (b : List ℕ). FeedsOnly circuit c.args.request.now b trace.rows trace.columns) c.as_slice.ensures.value feeds,
    ))
    c.inputs_of.ensures.accepted

pub returns-clause-refused : goal.returns-clause-refused
returns-clause-refused g c =
    IfErr-weaker c.inputs_of.result _ _
    (λ ending. IfRefused-map
    (λ said h. inr (
      c.in_ok-bytes.bytes.items,
      record { held = c.in_ok-bytes.ensures.held; within = c.in_ok-bytes.ensures.within },
      subst (λ (b : List ℕ). TellsTraceOf c.args.design.now.circuit c.args.request.now b said) c.as_slice.ensures.value h,
    ))
    ending)
    c.inputs_of.ensures.refused
