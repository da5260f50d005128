use Rattle.std.proofs.Common.{subst}
use Rattle.gg_flat.specs.State.{IsState}
use Rattle.gg_bridge.specs.inside.Echo.{Echoing, echo_piece, echo_state}
use Rattle.gg_bridge.proofs.EchoLemmas.{echo-is-state, echo-model}
use Rattle.gg_bridge.proofs.echo.EchoBridge.model.Goals as goal

pub returns-clause-model : goal.returns-clause-model
returns-clause-model c = echo-model c.args.self.now.ty

pub returns-clause-state : goal.returns-clause-state
returns-clause-state c =
    let host = c.self.inside in
    subst (λ (echo : Echoing). IsState (echo_piece echo.ty) (echo_state echo.last)) c.self.view_is (echo-is-state host.ty host.last c.self.invariant.fits)
