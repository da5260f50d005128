use Rattle.std.proofs.Common.{subst}
use Rattle.gg_flat.specs.State.{IsState}
use Rattle.gg_bridge.specs.Model.{IsModel}
use Rattle.golden_fifo.specs.inside.Fifo.{Kept, fifo_piece, fifo_state}
use Rattle.golden_fifo.proofs.FifoLemmas.{fifo-is-state, fifo-model}
use Rattle.golden_fifo.proofs.fifo.FifoBridge.model.Goals as goal

pub returns-clause-model : goal.returns-clause-model
returns-clause-model c =
    let fifo = c.self.inside in
    subst (λ (kept : Kept). IsModel (fifo_piece kept.bit kept.ty)) c.self.view_is (fifo-model fifo.bit fifo.ty c.self.invariant.flag)

pub returns-clause-state : goal.returns-clause-state
returns-clause-state c =
    let fifo = c.self.inside in
    let are = c.self.invariant in
    subst (λ (kept : Kept). IsState (fifo_piece kept.bit kept.ty) (fifo_state kept.first kept.second kept.third kept.fourth)) c.self.view_is
    (fifo-is-state fifo.bit fifo.ty are.flag fifo.first fifo.second fifo.third fifo.fourth are.one are.two are.three are.four)
