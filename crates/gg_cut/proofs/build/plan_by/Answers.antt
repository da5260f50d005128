use Rattle.std.proofs.Common.{List, sym, subst}
use Rattle.std.specs.Prelude.{All}
use Rattle.gg_cut_plan.specs.declared.plan.Channel.{Channel}
use Rattle.gg_cut_split.proofs.ClosedLemmas.FaultlessLemmas.{range-free}
use Rattle.gg_cut_machines.specs.inside.Drafted.{draft_wires}
use Rattle.gg_cut.specs.Made.{IsCapacity}
use Rattle.gg_cut.proofs.PlanLemmas.{bounds-sound}
use Rattle.gg_cut.proofs.build.plan_by.Goals as goal

pub returns-clause-capacities : goal.returns-clause-capacities
returns-clause-capacities c =
    let draft = c.args.draft in
    let request = draft.request.now in
    subst (λ (l : List Channel). All (λ channel. IsCapacity channel.capacity) l) (sym c.from-2.ensures)
    (bounds-sound draft.design.now request draft.default_capacity (draft_wires draft) c.deref.result.now c.in_ok-channels.channels.items c.requires.capacity (range-free draft.design.now request c.requires.faultless) (c.in_ok-channels.ensures {u = tt}))
