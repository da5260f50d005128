use Rattle.std.proofs.Common.{◌∷◌, [], List, sym, ap, subst, ◌∙◌}
use Rattle.gg_flat.specs.Circuit.{FlatCircuit}
use Rattle.gg_flat.specs.Clock.{Ratio}
use Rattle.gg_flat.specs.State.{IsState, State}
use Rattle.gg_cut_plan.specs.declared.plan.Body.TheVariants.{Cut}
use Rattle.gg_fame5.specs.Machine.{started_unit}
use Rattle.gg_build.specs.inside.Begin.{starts_of}
use Rattle.gg_build.proofs.HostLemmas.{alone-unit}
use Rattle.gg_build.proofs.hosts.unit_of.Goals as goal

pub from_state-requires-clause-state : goal.from_state-requires-clause-state
from_state-requires-clause-state c =
    subst (λ (circuit : FlatCircuit). IsState circuit c.in_ok-state.state) (sym (c.in_ok-program.ensures {u = tt}).circuit)
    (subst (IsState c.args.part.now.piece) (sym c.in_ok-state.ensures) c.requires.begin)

pub returns : goal.returns
returns c =
    let part = c.args.part.now in
    let own = starts_of c.args.ratios.now c.args.begin.now (Cut part) in
    let program = c.in_ok-program.program in
    alone-unit own part program c.in_ok-unit.unit c.requires.part (c.in_ok-program.ensures {u = tt}).circuit (c.in_ok-program.ensures {u = tt}).needs
    (c.in_ok-unit.ensures
    ∙ ap (λ (ratios : List Ratio). started_unit program ratios c.in_ok-state.state own.cycle ∷ []) (c.as_slice.ensures ∙ c.in_ok-own.ensures)
    ∙ ap (λ (state : State). started_unit program own.ratios state own.cycle ∷ []) c.in_ok-state.ensures)
