use Rattle.std.proofs.Common.{subst, sym}
use Rattle.gg_fame5.specs.inside.Lane.{Hold}
use Rattle.gg_fame5.proofs.LaneLemmas.{Hold-latched}
use Rattle.gg_fame5.proofs.lane.Lane.latch.Goals as goal

pub returns-clause-held : goal.returns-clause-held
returns-clause-held c =
    let circuit = c.args.program.now.circuit in
    let lane = c.args.self.now in
    subst (Hold circuit c.put.new.slots) (sym c.keep.ensures.step)
    (Hold-latched circuit c.args.slots.now c.put.new.slots lane c.args.place c.args.token c.piece.ensures.formed c.requires.lane c.requires.held c.requires.may.there c.put.ensures.put (c.put.ensures.cycle lane.state c.requires.held.cycle) c.put.ensures.inputs)
