use Rattle.std.proofs.Common.{◌≡◌, subst, sym, ap, ◌∙◌, arith}
use Rattle.gg_node.specs.Machine.{Machine}
use Rattle.gg_node.specs.Token.{IsToken}
use Rattle.gg_program.specs.Programmed.{Programmed}
use Rattle.gg_program.specs.Unset.{unset}
use Rattle.gg_fame5.specs.inside.Shared.{Sharing}
use Rattle.gg_fame5.proofs.SharedLemmas.{lane_turned, unset_turned, unset_turn_to, cone_turned, cone_kept}
use Rattle.gg_fame5.proofs.shared.Shared.token_once.Goals as goal

pub returns-clause-token : goal.returns-clause-token
returns-clause-token g c = subst (λ (m : Machine). IsToken m c.args.place c.value.result) (sym (lane_turned c.args.self.now c.turn_to.new.self c.args.thread c.turn_to.ensures.program c.turn_to.ensures.lanes c.turn_to.ensures.turn c.requires.thread)) c.value.ensures.token

pub returns-clause-steps : goal.returns-clause-steps
returns-clause-steps g c =
    let first = c.args.self.now in
    let turned = c.turn_to.new.self in
    let after = c.value.new.self in
    let t = c.args.thread in
    let held = unset_turned after t (c.value.ensures.turn ∙ c.turn_to.ensures.turn) in
    let same : unset after.program.circuit after.slots ≡ unset turned.program.circuit after.slots = ap (λ (p : Programmed). unset p.circuit after.slots) c.value.ensures.program in
    let most = unset_turn_to first turned t c.turn_to.ensures.program c.turn_to.ensures.kept in
    omega (arith, c.value.ensures.steps, held, same, most)

pub returns-clause-exact : goal.returns-clause-exact
returns-clause-exact g c = λ turn.
    let first = c.args.self.now in
    let turned = c.turn_to.new.self in
    let after = c.value.new.self in
    let t = c.args.thread in
    let held = unset_turned after t (c.value.ensures.turn ∙ c.turn_to.ensures.turn) in
    let was = unset_turned first t turn in
    let same : unset after.program.circuit after.slots ≡ unset turned.program.circuit after.slots = ap (λ (p : Programmed). unset p.circuit after.slots) c.value.ensures.program in
    let kept : unset turned.program.circuit turned.slots ≡ unset first.program.circuit first.slots = ap (λ (s : Sharing). unset s.program.circuit s.slots) (c.turn_to.ensures.kept turn) in
    omega (arith, c.value.ensures.steps, held, was, same, kept)

pub returns-clause-cone : goal.returns-clause-cone
returns-clause-cone g c = cone_turned c.turn_to.new.self c.value.new.self c.args.thread c.args.place c.value.ensures.program c.value.ensures.lanes c.value.ensures.turn c.turn_to.ensures.turn c.value.ensures.cone

pub returns-clause-still : goal.returns-clause-still
returns-clause-still g c = λ done. c.value.ensures.still (cone_kept c.args.self.now c.turn_to.new.self c.args.thread c.args.place c.turn_to.ensures.kept done)
