use Rattle.std.proofs.Common.{◌<◌, [], length, get_or, subst, sym, ◌∙◌, arith}
use Rattle.std.proofs.lemmas.List.{get_or_default}
use Rattle.gg_flat.specs.Line.{value_at}
use Rattle.gg_order.specs.needs.Needs.{AreNeeds}
use Rattle.gg_program.specs.Programmed.{Programmed}
use Rattle.gg_program.proofs.program.Program.needs.Goals as goal

pub returns-clause-exact : goal.returns-clause-exact
returns-clause-exact c =
    let circuit = c.self.inside.piece.now in
    let needs = c.self.inside.needs.items in
    let out = c.args.out in
    let within : out < length circuit.outs = subst (λ (p : Programmed). out < length p.circuit.outs) (sym c.self.view_is) c.requires in
    let own : AreNeeds circuit (value_at circuit.outs out) (get_or needs out []) = c.self.invariant.needed.each out within in
    let is = c.as_slice.ensures ∙ c.index.ensures ∙ get_or_default needs out c.index.result.now [] (omega (arith, within, c.self.invariant.needed.count)) in
    subst (λ (p : Programmed). AreNeeds p.circuit (value_at p.circuit.outs out) c.as_slice.result.now) c.self.view_is
    (subst (AreNeeds circuit (value_at circuit.outs out)) (sym is) own)
