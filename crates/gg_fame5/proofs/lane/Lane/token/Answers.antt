use Rattle.std.proofs.Common.{◌<◌, ℕ, length, subst, sym, ap, ◌∙◌, arith}
use Rattle.gg_flat.specs.Line.{value_at}
use Rattle.gg_flat.specs.State.{State}
use Rattle.gg_program.specs.Slots.{inputs_in, HasNeeded}
use Rattle.gg_program.specs.Right.{InCycle}
use Rattle.gg_program.specs.ConeValue.{IsConeValue}
use Rattle.gg_program.specs.Unset.{IsConeDone}
use Rattle.gg_fame5.specs.inside.Fork.{out_of}
use Rattle.gg_fame5.proofs.TokenLemmas.{token-is}
use Rattle.gg_fame5.proofs.ForkLemmas.{token-forked}
use Rattle.gg_fame5.proofs.LaneLemmas.{missing-of, needed-put, Hold-read}
use Rattle.gg_fame5.proofs.lane.Lane.token.Goals as goal

pub cone_once-requires-clause-needed : goal.cone_once-requires-clause-needed
cone_once-requires-clause-needed g c =
    let program = c.args.program.now in
    let lane = c.args.self.now in
    let place = c.args.place in
    let below : out_of lane.outs place < length program.circuit.outs = subst (λ (o : ℕ). o < length program.circuit.outs) c.out.ensures.out c.out.ensures.known in
    let none = missing-of program lane place c.requires.lane c.requires.may.there ∙ c.requires.may.needed in
    subst (λ (out : ℕ). HasNeeded program.circuit c.args.slots.now (value_at program.circuit.outs out)) (sym c.out.ensures.out)
    (needed-put program c.args.slots.now lane (out_of lane.outs place) c.piece.ensures.needs below c.requires.held none)

pub returns-clause-token : goal.returns-clause-token
returns-clause-token g c =
    let program = c.args.program.now in
    let lane = c.args.self.now in
    let place = c.args.place in
    let out = out_of lane.outs place in
    let held = inputs_in program.circuit c.args.slots.now.values in
    let below : out_of lane.outs place < length program.circuit.outs = subst (λ (o : ℕ). o < length program.circuit.outs) c.out.ensures.out c.out.ensures.known in
    let none = missing-of program lane place c.requires.lane c.requires.may.there ∙ c.requires.may.needed in
    let value : IsConeValue program.circuit lane.state held (value_at program.circuit.outs c.out.result) c.cone_once.result =
    subst (λ (s : State). IsConeValue program.circuit s held (value_at program.circuit.outs c.out.result) c.cone_once.result) (ap (λ l. l.state) c.self.view_is) c.cone_once.ensures.value in
    let at : IsConeValue program.circuit lane.state held (value_at program.circuit.outs out) c.cone_once.result =
    subst (λ (o : ℕ). IsConeValue program.circuit lane.state held (value_at program.circuit.outs o) c.cone_once.result) c.out.ensures.out value in
    token-forked program lane.outs lane.ratios lane.cycle lane.state lane.latches lane.flags lane.flags place c.cone_once.result (omega (arith, c.requires.may.there, c.requires.lane.outs))
    (token-is program lane.ratios lane.cycle lane.state lane.latches lane.flags held out c.cone_once.result c.piece.ensures.formed c.piece.ensures.needs below c.requires.held.tokens none at)

pub returns-clause-held : goal.returns-clause-held
returns-clause-held g c =
    let program = c.args.program.now in
    let lane = c.args.self.now in
    let place = c.args.place in
    let below : out_of lane.outs place < length program.circuit.outs = subst (λ (o : ℕ). o < length program.circuit.outs) c.out.ensures.out c.out.ensures.known in
    let none = missing-of program lane place c.requires.lane c.requires.may.there ∙ c.requires.may.needed in
    let needed = needed-put program c.args.slots.now lane (out_of lane.outs place) c.piece.ensures.needs below c.requires.held none in
    let at : HasNeeded program.circuit c.args.slots.now (value_at program.circuit.outs c.out.result) = subst (λ (out : ℕ). HasNeeded program.circuit c.args.slots.now (value_at program.circuit.outs out)) (sym c.out.ensures.out) needed in
    let cycle : InCycle program.circuit lane.state c.cone_once.new.slots = subst (λ (s : State). InCycle program.circuit s c.cone_once.new.slots) (ap (λ l. l.state) c.self.view_is) c.cone_once.ensures.cycle in
    Hold-read program.circuit c.args.slots.now c.cone_once.new.slots lane (value_at program.circuit.outs c.out.result) c.requires.held at c.cone_once.ensures.done cycle c.cone_once.ensures.inputs

pub returns-clause-still : goal.returns-clause-still
returns-clause-still g c = λ done.
    let circuit = c.args.program.now.circuit in
    c.cone_once.ensures.still (subst (λ (out : ℕ). IsConeDone circuit (value_at circuit.outs out) c.args.slots.now) (sym c.out.ensures.out) done)
