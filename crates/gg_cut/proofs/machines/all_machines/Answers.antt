use Rattle.std.proofs.Common.{◌≡◌, ◌<◌, List, length, sym, ◌∙◌, ap, subst, arith}
use Rattle.std.proofs.lemmas.List.{get_or_default, length-replicate}
use Rattle.gg_flat.specs.Circuit.{FlatCircuit}
use Rattle.gg_flat.specs.Line.{value_at}
use Rattle.gg_cut_plan.specs.declared.plan.Machine.{Machine}
use Rattle.gg_cut_parts.specs.inside.Draft.{draft_hub}
use Rattle.gg_cut_machines.specs.inside.Drafted.{draft_end}
use Rattle.gg_cut_split.proofs.TakerLemmas.{zeros}
use Rattle.gg_cut.specs.inside.Drafted.{AreEarlier, IsNextBody}
use Rattle.gg_cut.proofs.AlikeLemmas.{machine-placed, machines-none, machines-more, machines-made}
use Rattle.gg_cut.proofs.RoleLemmas.{end-few, end-is}
use Rattle.gg_cut.proofs.machines.all_machines.Goals as goal

pub loop-number-init : goal.loop-number-init
loop-number-init c =
    let making = c.args.making.now in
    let draft = making.draft.now in (
      ap length c.in_ok-table.ensures ∙ length-replicate c.signal_count.result 0 ∙ c.signal_count.ensures.count ∙ ap (λ (k : FlatCircuit). length k.signals) c.piece.ensures.circuit,
      λ s. ap (λ l. value_at l s) c.in_ok-table.ensures ∙ zeros c.signal_count.result s,
      machines-none draft.design.now draft.request.now draft.models.now draft.listed (draft_hub draft) making.domains.now.units c.new-machines.result.items c.new-machines.ensures.items,
    )

pub body_at-requires-clause-known : goal.body_at-requires-clause-known
body_at-requires-clause-known c = omega (arith, c.loop-number-test.true, end-is c.args.making.now.draft.now c.requires.draft c.numbering.result c.numbering.ensures c.count-number-end.result c.count-number-end.ensures)

pub body_at-requires-clause-machines : goal.body_at-requires-clause-machines
body_at-requires-clause-machines c =
    let making = c.args.making.now in
    subst (λ (l : List Machine). AreEarlier making.draft.now making.domains.now c.loop-number.number l) (sym c.deref.ensures.value) c.loop-number.invariant.2

pub machine_at-requires-clause-names : goal.machine_at-requires-clause-names
machine_at-requires-clause-names c = omega (arith, c.loop-number-test.true, end-is c.args.making.now.draft.now c.requires.draft c.numbering.result c.numbering.ensures c.count-number-end.result c.count-number-end.ensures, c.requires.places.names_many)

pub machine_at-requires-clause-hosts : goal.machine_at-requires-clause-hosts
machine_at-requires-clause-hosts c = omega (arith, c.loop-number-test.true, end-is c.args.making.now.draft.now c.requires.draft c.numbering.result c.numbering.ensures c.count-number-end.result c.count-number-end.ensures, c.requires.places.hosts.numbers_many)

pub machine_at-requires-clause-ins : goal.machine_at-requires-clause-ins
machine_at-requires-clause-ins c = omega (arith, c.loop-number-test.true, end-is c.args.making.now.draft.now c.requires.draft c.numbering.result c.numbering.ensures c.count-number-end.result c.count-number-end.ensures, c.requires.places.into.many)

pub machine_at-requires-clause-outs : goal.machine_at-requires-clause-outs
machine_at-requires-clause-outs c = omega (arith, c.loop-number-test.true, end-is c.args.making.now.draft.now c.requires.draft c.numbering.result c.numbering.ensures c.count-number-end.result c.count-number-end.ensures, c.requires.places.from.many)

pub loop-number-preserved : goal.loop-number-preserved
loop-number-preserved c =
    let making = c.args.making.now in
    let draft = making.draft.now in
    let n = c.loop-number.number in
    let low : n < draft_end draft = omega (arith, c.loop-number-test.true, end-is c.args.making.now.draft.now c.requires.draft c.numbering.result c.numbering.ensures c.count-number-end.result c.count-number-end.ensures) in
    let made = c.in_ok-made.made in
    let body = c.in_ok-body.body in
    let placed = c.in_ok-made.ensures {u = tt} in
    let next = subst (λ (l : List Machine). IsNextBody draft making.domains.now n l body) c.deref.ensures.value c.in_ok-body.ensures.body in (
      c.in_ok-body.ensures.count,
      c.in_ok-body.ensures.zero,
      machines-more draft.design.now draft.request.now draft.models.now draft.listed (draft_hub draft) making.domains.now.units c.loop-number.machines.items c.push.new.self.items n made body c.loop-number.invariant.2
          (machine-placed draft making.places.now c.requires.places n body made low placed next.is) placed.body next c.in_ok-push.ensures.items,
    )

pub returns : goal.returns
returns c =
    let making = c.args.making.now in
    let draft = making.draft.now in
    let done : c.loop-number.number ≡ draft_end draft = omega (arith, c.loop-number-test.false, c.loop-number.auto.number-end, end-is c.args.making.now.draft.now c.requires.draft c.numbering.result c.numbering.ensures c.count-number-end.result c.count-number-end.ensures) in
    machines-made draft.design.now draft.request.now draft.models.now draft.listed (draft_hub draft) making.domains.now.units c.requires.draft.faultless c.loop-number.machines.items (subst (λ k. AreEarlier draft making.domains.now k c.loop-number.machines.items) done c.loop-number.invariant.2) (end-few c.args.making.now.draft.now c.requires.draft)
