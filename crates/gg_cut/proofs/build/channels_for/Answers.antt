use Rattle.std.proofs.Common.{List, refl, sym, ◌∙◌, subst, get_or}
use Rattle.gg_cut_plan.specs.Channels.{capacity_of}
use Rattle.gg_cut_plan.specs.Direct.{is_piped}
use Rattle.gg_cut_plan.specs.declared.wires.Wire.{Wire}
use Rattle.gg_cut.specs.inside.Made.{AreChannels, IsFit}
use Rattle.gg_cut.proofs.PlanLemmas.{machine-fit, channels-made}
use Rattle.gg_cut_machines.proofs.WireLemmas.{given-below, known-below}
use Rattle.gg_cut.proofs.build.channels_for.Goals as goal

pub needs_table-requires-clause-fit : goal.needs_table-requires-clause-fit
needs_table-requires-clause-fit c = λ m any lt.
    let draft = c.args.draft.now in
    subst (λ (w : List Wire). IsFit w m (get_or c.args.machines.now m any)) (sym (c.wires-wires.ensures ∙ c.requires.draft.wires))
    (machine-fit draft.design.now draft.request.now draft.models.now draft.listed m (get_or c.args.machines.now m any) c.requires.draft.listed c.piece.ensures.formed c.part_formed.ensures (c.requires.machines.each m any lt))

pub needs_table-requires-clause-given : goal.needs_table-requires-clause-given
needs_table-requires-clause-given c =
    let draft = c.args.draft.now in
    given-below draft.design.now draft.request.now draft.listed c.requires.draft.listed c.requires.draft.sound c.wires-wires.result.now c.args.machines.now (c.wires-wires.ensures ∙ c.requires.draft.wires) c.requires.machines.total

pub channels_of-requires-clause-known : goal.channels_of-requires-clause-known
channels_of-requires-clause-known c =
    let draft = c.args.draft.now in
    known-below draft.design.now draft.request.now draft.listed c.requires.draft.listed c.requires.draft.sound c.wires-wires.result.now draft.design.now.circuit (c.wires-wires.ensures ∙ c.requires.draft.wires) refl

pub returns : goal.returns
returns c =
    let draft = c.args.draft.now in
    let design = draft.design.now in
    let request = draft.request.now in
    let wires = c.wires-wires.result.now in
    let machines = c.args.machines.now in
    let same = c.wires-wires.ensures ∙ c.requires.draft.wires in
    subst (λ (w : List Wire). AreChannels design (capacity_of request.capacity draft.default_capacity) (is_piped design.circuit request) w machines c.in_ok-channels.channels.items) same
    (channels-made design request design.circuit (capacity_of request.capacity draft.default_capacity) wires machines c.in_ok-table.table.items c.in_ok-channels.channels.items refl
    (given-below design request draft.listed c.requires.draft.listed c.requires.draft.sound wires machines same c.requires.machines.total) (c.in_ok-table.ensures {u = tt}) (c.in_ok-channels.ensures {u = tt}))
