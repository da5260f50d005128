use Rattle.std.proofs.Common.{◌≡◌, subst, sym, ◌∙◌}
use Rattle.std.proofs.lemmas.List.{get_or_default}
use Rattle.gg_node.specs.Token.{IsToken}
use Rattle.gg_program.specs.Unset.{IsConeDone}
use Rattle.gg_fame5.specs.inside.Lane.{Laned, lane_machine, out_signal}
use Rattle.gg_fame5.specs.inside.Shared.{Sharing, no_lane, lane_at}
use Rattle.gg_fame5.proofs.shared.Shared.value.Goals as goal

pub returns-clause-token : goal.returns-clause-token
returns-clause-token g c =
    let shared = c.self.inside in
    let at : lane_at shared.lanes.items shared.turn ≡ c.index.result.now = get_or_default shared.lanes.items shared.turn no_lane c.index.result.now c.self.invariant.some ∙ sym c.index.ensures in
    subst (λ (s : Sharing). IsToken (lane_machine s.program (lane_at s.lanes s.turn)) c.args.place c.token.result) c.self.view_is
    (subst (λ (l : Laned). IsToken (lane_machine shared.program l) c.args.place c.token.result) (sym at) c.token.ensures.token)

pub returns-clause-cone : goal.returns-clause-cone
returns-clause-cone g c =
    let shared = c.self.inside in
    let at : lane_at shared.lanes.items shared.turn ≡ c.index.result.now = get_or_default shared.lanes.items shared.turn no_lane c.index.result.now c.self.invariant.some ∙ sym c.index.ensures in
    subst (λ (s : Sharing). IsConeDone s.program.circuit (out_signal s.program.circuit (lane_at s.lanes s.turn) c.args.place) c.token.new.slots) c.self.view_is
    (subst (λ (l : Laned). IsConeDone shared.program.circuit (out_signal shared.program.circuit l c.args.place) c.token.new.slots) (sym at) c.token.ensures.cone)

pub returns-clause-still : goal.returns-clause-still
returns-clause-still g c = λ done.
    let shared = c.self.inside in
    let at : lane_at shared.lanes.items shared.turn ≡ c.index.result.now = get_or_default shared.lanes.items shared.turn no_lane c.index.result.now c.self.invariant.some ∙ sym c.index.ensures in
    let own : IsConeDone shared.program.circuit (out_signal shared.program.circuit (lane_at shared.lanes.items shared.turn) c.args.place) shared.slots =
    subst (λ (s : Sharing). IsConeDone s.program.circuit (out_signal s.program.circuit (lane_at s.lanes s.turn) c.args.place) s.slots) (sym c.self.view_is) done in
    c.token.ensures.still (subst (λ (l : Laned). IsConeDone shared.program.circuit (out_signal shared.program.circuit l c.args.place) shared.slots) at own)
