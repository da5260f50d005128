use Rattle.std.proofs.Common.{◌≡◌, List, refl, sym, ap, subst, ◌∙◌}
use Rattle.gg_flat.specs.Circuit.{FlatCircuit}
use Rattle.gg_flat.specs.Clock.{Ratio}
use Rattle.gg_flat.specs.State.{IsState, State}
use Rattle.gg_part.specs.PartRun.{part_state}
use Rattle.gg_cut_plan.specs.declared.plan.Body.TheVariants.{Memory}
use Rattle.gg_memunit.specs.MemoryUnit.{started_unit}
use Rattle.gg_build.proofs.PlanLemmas.StateLemmas.{IsState-part}
use Rattle.gg_build.specs.inside.Begin.{starts_of}
use Rattle.gg_build.proofs.hosts.memory_host.Goals as goal

pub from_state-requires-clause-state : goal.from_state-requires-clause-state
from_state-requires-clause-state g c =
    let part = c.args.part.now in
    let alone = c.in_ok-alone.alone in
    let cut = c.in_ok-alone.ensures in
    let own = starts_of c.args.ratios.now c.args.begin.now (Memory part) in
    subst (λ (circuit : FlatCircuit). IsState circuit c.in_ok-state.state) (sym c.into_piece.ensures)
    (subst (IsState alone.piece) (sym (c.in_ok-state.ensures ∙ ap (part_state alone.held alone.memories) c.in_ok-whole.ensures))
    (IsState-part part.piece alone.piece alone.globals alone.held alone.memories alone.clocks cut.is_part own.state c.requires.begin))

pub returns-clause-host : goal.returns-clause-host
returns-clause-host g c =
    let part = c.args.part.now in
    let alone = c.in_ok-alone.alone in
    let cut = c.in_ok-alone.ensures in
    let memory = c.requires.part.alone alone cut in
    let own = starts_of c.args.ratios.now c.args.begin.now (Memory part) in
    let state = part_state alone.held alone.memories own.state in
    let is : c.in_ok-unit.unit ≡ started_unit alone.piece own.ratios state own.cycle =
    subst (λ (p : FlatCircuit). c.in_ok-unit.unit ≡ started_unit p c.as_slice.result.now c.in_ok-state.state own.cycle) c.into_piece.ensures c.in_ok-unit.ensures
    ∙ ap (λ (ratios : List Ratio). started_unit alone.piece ratios c.in_ok-state.state own.cycle) (c.as_slice.ensures ∙ c.in_ok-own.ensures)
    ∙ ap (λ (s : State). started_unit alone.piece own.ratios s own.cycle) (c.in_ok-state.ensures ∙ ap (part_state alone.held alone.memories) c.in_ok-whole.ensures)
    in
    record {
      own = record {
        alone = refl;
        is = record {
          alone = alone;
          is_part = cut.is_part;
          clocks = cut.clocks;
          globals = cut.globals;
          ins = cut.ins;
          outs = cut.outs;
          memories = cut.memories;
          is_memory = memory;
          is = is;
        };
      };
      ports = record { piece = alone.piece; own = record { cycle = own.cycle; state = state; ratios = own.ratios }; is_memory = memory; is = is };
    }
