use Rattle.std.proofs.Common.{◌≡◌, ◌∙◌, ◌<◌, ◌≤◌, ◌^◌, ℕ, List, Option, length, sym, ap, subst, arith}
use Rattle.std.specs.Prelude.{AllPairs}
use Rattle.gg_flat.specs.Circuit.{FlatCircuit}
use Rattle.gg_part.specs.declared.part.Clocking.{Clocking}
use Rattle.gg_part.specs.Building.{AreHeld}
use Rattle.gg_part.specs.inside.Clocking.{AreTimed, IsTimed}
use Rattle.gg_cut_plan.specs.declared.wires.Wire.{Wire}
use Rattle.gg_cut_plan.specs.Direct.{routes}
use Rattle.gg_cut_plan.specs.Machines.{first_memory, first_unit}
use Rattle.gg_cut_plan.specs.Plan.{channels_to, channels_from, clock_home, givens_of, machine_clocks, signals_of}
use Rattle.gg_cut_parts.proofs.DomainTimes.{home-known}
use Rattle.gg_cut_parts.specs.inside.Draft.{draft_hub}
use Rattle.gg_cut_parts.specs.inside.MovedPart.{IsUnitRouted}
use Rattle.gg_cut_parts.proofs.DraftLemmas.{draft-routed}
use Rattle.gg_cut_parts.proofs.MachineLemmas.{to-below, from-below, cut-part}
use Rattle.gg_cut_parts.proofs.TimedLemmas.{share-timed}
use Rattle.gg_cut_parts.proofs.parts.cut_part.Goals as goal

pub signals-requires : goal.signals-requires
signals-requires c =
    let machine = c.args.machine.now in
    to-below c.wires.result.now machine.number machine.ins.now (c.requires.machine.share.takes ∙ ap (λ (w : List Wire). channels_to w machine.number) (sym (c.wires.ensures ∙ c.requires.machine.draft.wires)))

pub givens-requires : goal.givens-requires
givens-requires c =
    let machine = c.args.machine.now in
    from-below c.wires-2.result.now machine.number machine.outs.now (c.requires.machine.share.gives ∙ ap (λ (w : List Wire). channels_from w machine.number) (sym (c.wires-2.ensures ∙ c.requires.machine.draft.wires)))

pub part_of-requires-clause-few : goal.part_of-requires-clause-few
part_of-requires-clause-few c =
    let machine = c.args.machine.now in
    subst (λ (l : List (Option ℕ)). length l < 2 ^ 32) (sym c.clocks.ensures) (c.requires.machine.domains.few (clock_home machine.draft.now.listed machine.number))

pub part_of-requires-clause-timed : goal.part_of-requires-clause-timed
part_of-requires-clause-timed c =
    let machine = c.args.machine.now in
    let draft = machine.draft.now in
    let design = draft.design.now in
    let listed = draft.listed in
    let hub = draft_hub draft in
    let is = c.requires.machine in
    let k = c.clocking.result.now in
    let given = signals_of (routes hub) machine.ins.now in
    let home : c.clocks.result.now ≡ machine_clocks design.tree listed machine.number =
    c.clocks.ensures ∙ is.domains.clocks (clock_home listed machine.number) (home-known design.tree listed is.draft.keeps.fitting.top.there is.draft.apart.known machine.number) in
    let taken : c.deref.result.now ≡ signals_of (routes hub) machine.ins.now =
    c.deref.ensures.value ∙ c.in_ok-ins.ensures {u = tt} ∙ ap (λ (w : List Wire). signals_of w machine.ins.now) (c.wires.ensures ∙ is.draft.wires) in
    let unit : first_unit ≤ machine.number → machine.number < first_memory listed → IsUnitRouted design listed hub machine.number = λ first high. draft-routed draft is.draft (record { formed = c.piece.ensures.formed; ordered = c.order.ensures.ordered }) machine.number (λ z. absurd (omega (arith, first, z))) (omega (arith, high)) in
    subst (λ (w : FlatCircuit). AreTimed w machine.globals.now c.deref.result.now machine.memories.now c.clocks.result.now k.registers k.ports) (sym c.piece.ensures.circuit)
    (subst (λ (l : List ℕ). AreTimed design.circuit machine.globals.now l machine.memories.now c.clocks.result.now k.registers k.ports) (sym taken)
    (subst (λ (l : List (Option ℕ)). AreTimed design.circuit machine.globals.now given machine.memories.now l k.registers k.ports) (sym home)
    (share-timed design listed hub is.draft.keeps is.draft.apart c.piece.ensures.formed machine.domains.now is.domains machine.ins.now machine.outs.now machine.globals.now machine.memories.now k machine.number c.requires.machine.known is.share unit c.clocking.ensures.hub c.clocking.ensures.unit c.clocking.ensures.memory)))

pub returns-clause-part : goal.returns-clause-part
returns-clause-part c =
    let machine = c.args.machine.now in
    let draft = machine.draft.now in
    let is = c.requires.machine in
    let made = c.in_ok-part.ensures in
    let wires = c.wires.result.now in
    let home : c.clocks.result.now ≡ machine_clocks draft.design.now.tree draft.listed machine.number =
    c.clocks.ensures ∙ is.domains.clocks (clock_home draft.listed machine.number) (home-known draft.design.now.tree draft.listed is.draft.keeps.fitting.top.there is.draft.apart.known machine.number) in
    let taken : c.deref.result.now ≡ signals_of wires machine.ins.now = c.deref.ensures.value ∙ c.in_ok-ins.ensures {u = tt} in
    let given : c.deref-2.result.now ≡ givens_of wires machine.outs.now =
    c.deref-2.ensures.value ∙ c.in_ok-outs.ensures {u = tt} ∙ ap (λ (w : List Wire). givens_of w machine.outs.now) (c.wires-2.ensures ∙ sym c.wires.ensures) in
    cut-part draft.design.now draft.listed (draft_hub draft) wires (c.wires.ensures ∙ is.draft.wires) machine.number machine.ins.now machine.outs.now machine.globals.now machine.memories.now c.piece.result.now c.in_ok-part.part is.share c.piece.ensures.circuit made.part (made.clocks ∙ home)
    made.globals made.memories (made.ins ∙ taken) (made.outs ∙ given)
    (subst (λ (l : List ℕ). AreHeld c.piece.result.now l (signals_of wires machine.ins.now) c.in_ok-part.part.held) (sym made.globals)
    (subst (λ (l : List ℕ). AreHeld c.piece.result.now machine.globals.now l c.in_ok-part.part.held) taken made.held))
    c.order.ensures.ordered c.part_in_order.ensures.along

pub returns-clause-ascend : goal.returns-clause-ascend
returns-clause-ascend c =
    subst (λ (l : List ℕ). AllPairs (λ a b. a < b) l) (sym c.in_ok-part.ensures.memories) c.requires.machine.share.ascend

pub returns-clause-timed : goal.returns-clause-timed
returns-clause-timed c = λ first high.
    subst (λ (k : Clocking). IsTimed c.in_ok-part.part.piece c.in_ok-part.part.held c.in_ok-part.part.memories k.registers k.ports) (c.clocking.ensures.unit first high) c.in_ok-part.ensures.own
