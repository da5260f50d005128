use Rattle.std.proofs.Common.{◌≡◌, ◌+◌, List, take, get_or, ◌∙◌, ap}
use Rattle.gg_flat.specs.declared.piece.Signal.{Signal}
use Rattle.gg_flat.specs.Line.{value_at}
use Rattle.gg_cut_reference.specs.Made.{pipe_register, pipe_registers}
use Rattle.gg_cut_pipes.proofs.BuildLemmas.{registers-more, registers-grow}
use Rattle.gg_cut_pipes.proofs.made.add_pipe_registers.Goals as goal

pub loop-place-preserved : goal.loop-place-preserved
loop-place-preserved c =
    let one = c.args.one.now in
    let pipes = c.args.pipes.now in
    let k = c.loop-place.place in
    let low = c.loop-place-test.true in
    let own = c.index-signals-signal.result in
    let read : own ≡ get_or one.signals (value_at pipes k) own = c.index-signals-signal.is ∙ ap (λ (l : List Signal). get_or l (value_at pipes k) own) c.signals.ensures in
    registers-grow c.args.piece.now c.loop-place.piece c.add_register.new.self (pipe_registers one.signals (take k pipes)) (pipe_registers one.signals (take (k + 1) pipes)) c.in_ok-register.register (pipe_register (value_at pipes k) (get_or one.signals (value_at pipes k) own))
    c.in_ok-add_register.ensures.ok c.loop-place.invariant
    (c.in_ok-register.ensures ∙ ap (pipe_register (value_at pipes k)) read)
    (registers-more one.signals pipes k own low (c.requires k 0 low))
