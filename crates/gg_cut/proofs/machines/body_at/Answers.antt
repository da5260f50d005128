use Rattle.std.proofs.Common.{◌<◌, ◌≤◌, ◌+◌, ◌-◌, subst, arith}
use Rattle.gg_cut_plan.specs.declared.numbering.Role.TheVariants.{Hub, Unit, Memory}
use Rattle.gg_cut_plan.specs.inside.Machines.{IsRole}
use Rattle.gg_cut_parts.specs.inside.Draft.{draft_hub}
use Rattle.gg_cut.proofs.BodyLemmas.{bridge-made, source-made, tray-made}
use Rattle.gg_cut.proofs.RoleLemmas.{bridge-role, low-role, source-role, tray-role}
use Rattle.gg_cut.proofs.machines.body_at.Goals as goal

pub part_at-requires-clause-known : goal.part_at-requires-clause-known
part_at-requires-clause-known c = low-role c.args.making.now.draft.now c.requires.making.draft c.numbering.result c.numbering.ensures c.args.number c.role.result c.role.ensures c.in-Hub.is

pub returns-in-Source-clause-body : goal.returns-in-Source-clause-body
returns-in-Source-clause-body c =
    let making = c.args.making.now in
    let draft = making.draft.now in
    let at = source-role draft c.requires.making.draft c.numbering.result c.numbering.ensures c.args.number c.in-Source.place (subst (IsRole c.numbering.result c.args.number) c.in-Source.is c.role.ensures) in
    source-made draft.design.now draft.request.now draft.models.now draft.listed c.requires.making.draft.listed (draft_hub draft) making.domains.now.units c.args.machines.now c.args.number c.in-Source.place at.0 at.1 at.2

pub returns-in-Tray-clause-body : goal.returns-in-Tray-clause-body
returns-in-Tray-clause-body c =
    let making = c.args.making.now in
    let draft = making.draft.now in
    let at = tray-role draft c.requires.making.draft c.numbering.result c.numbering.ensures c.args.number c.in-Tray.field-0 (subst (IsRole c.numbering.result c.args.number) c.in-Tray.is c.role.ensures) in
    tray-made draft.design.now draft.request.now draft.models.now draft.listed c.requires.making.draft.listed (draft_hub draft) making.domains.now.units c.args.machines.now c.args.number at.0 at.1

pub bridge_at-requires-clause-place : goal.bridge_at-requires-clause-place
bridge_at-requires-clause-place c = (bridge-role c.args.making.now.draft.now c.requires.making.draft c.numbering.result c.numbering.ensures c.args.number c.in-Bridge.place (subst (IsRole c.numbering.result c.args.number) c.in-Bridge.is c.role.ensures)).0

pub bridge_at-requires-clause-number : goal.bridge_at-requires-clause-number
bridge_at-requires-clause-number c = (bridge-role c.args.making.now.draft.now c.requires.making.draft c.numbering.result c.numbering.ensures c.args.number c.in-Bridge.place (subst (IsRole c.numbering.result c.args.number) c.in-Bridge.is c.role.ensures)).1

pub returns-in_ok-bridge-in-Bridge-clause-body : goal.returns-in_ok-bridge-in-Bridge-clause-body
returns-in_ok-bridge-in-Bridge-clause-body c =
    let making = c.args.making.now in
    let draft = making.draft.now in
    let at = bridge-role draft c.requires.making.draft c.numbering.result c.numbering.ensures c.args.number c.in-Bridge.place (subst (IsRole c.numbering.result c.args.number) c.in-Bridge.is c.role.ensures) in
    bridge-made draft.design.now draft.request.now draft.models.now draft.listed c.requires.making.draft.listed (draft_hub draft) making.domains.now.units c.args.machines.now c.args.number c.in_ok-bridge-in-Bridge.bridge (omega (arith, at.1)) c.in_ok-bridge-in-Bridge.ensures.body
