use Rattle.std.proofs.Common.{◌<◌, get_or, sym, ◌∙◌, ap, subst, arith}
use Rattle.gg_cut_plan.specs.declared.listed.Listed.{Listed}
use Rattle.gg_cut_plan.specs.Hosts.{leader}
use Rattle.gg_cut_split.specs.inside.Again.{IsUnitAgain}
use Rattle.gg_cut_parts.specs.inside.Draft.{draft_hub}
use Rattle.gg_cut.proofs.AlikeLemmas.{own-made}
use Rattle.gg_cut.proofs.BodyLemmas.{unit-body}
use Rattle.gg_cut_machines.proofs.HostLemmas.{leader-below}
use Rattle.gg_cut_machines.proofs.LeaderLemmas.{leaders-first}
use Rattle.gg_cut.proofs.machines.part_body.Goals as goal

pub moved_body-requires-clause-again : goal.moved_body-requires-clause-again
moved_body-requires-clause-again c =
    let machine = c.args.machine.now in
    let draft = machine.draft.now in
    let design = draft.design.now in
    let request = draft.request.now in
    let is = c.requires.machine in
    let first = c.args.first in
    let less : first < machine.number = c.if-first-machine.true in
    subst (λ (l : Listed). IsUnitAgain design l first machine.number) (sym is.draft.listed)
    (c.units_stand_again.ensures design request first machine.number
    (record { formed = c.piece.ensures.formed; ordered = c.order.ensures.ordered }) is.draft.keeps is.draft.faultless
    (λ same. absurd (omega (arith, less, same)))
    (ap (leader request.units request.share) c.requires.first ∙ leaders-first design request is.draft.faultless machine.number))

pub moved_body-requires-clause-leader : goal.moved_body-requires-clause-leader
moved_body-requires-clause-leader c =
    let machine = c.args.machine.now in
    let again = moved_body-requires-clause-again c in
    let earlier = c.requires.machines in
    let first = c.args.first in
    let any = c.index-machines-first.result in
    let less = c.if-first-machine.true in
    unit-body machine first c.requires.machine.draft.listed again.units.0 again.units.1 (get_or c.args.machines.now first any).body (earlier.each first any less).body (earlier.ascend first any less) (earlier.timed first any less)

pub returns-else-first-machine : goal.returns-else-first-machine
returns-else-first-machine c =
    let machine = c.args.machine.now in
    let draft = machine.draft.now in
    let request = draft.request.now in
    let n = machine.number in
    let below = leader-below request.units request.share n in
    own-made draft.design.now request draft.models.now draft.listed (draft_hub draft) machine.domains.now.units c.args.machines.now n c.own_body.result (omega (arith, c.requires.first, c.if-first-machine.false, below)) c.own_body.ensures.body c.own_body.ensures.ascend c.own_body.ensures.timed
