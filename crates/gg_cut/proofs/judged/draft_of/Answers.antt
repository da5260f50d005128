use Rattle.std.proofs.Common.{◌<◌, List, length, sym, ◌∙◌, subst}
use Rattle.std.specs.Prelude.{All, Option}
use Rattle.std.proofs.lemmas.Result.{err_from_is_err_and}
use Rattle.gg_flat.specs.Circuit.{FlatCircuit}
use Rattle.gg_flat.specs.WellFormed.{IsWellFormed}
use Rattle.gg_cut_plan.specs.declared.fault.CutFault.{CutFault}
use Rattle.gg_cut_plan.specs.declared.listed.Listed.{Listed}
use Rattle.gg_cut_plan.specs.declared.wires.Wire.{Wire}
use Rattle.gg_cut_plan.specs.Fault.{IsTold}
use Rattle.gg_cut_plan.proofs.WholeFaultLemmas.{bridges-first, others-told}
use Rattle.gg_partfile.specs.declared.request.BridgeEntry.{BridgeEntry}
use Rattle.gg_cut_split.specs.inside.Apart.{AreApart}
use Rattle.gg_cut_split.specs.inside.Ends.{AreEndsOf}
use Rattle.gg_cut_split.specs.inside.IsShare.{AreShares}
use Rattle.gg_cut.proofs.FaultlessLemmas.{entries-told}
use Rattle.gg_cut.proofs.PlanLemmas.{bridges-at}
use Rattle.gg_cut.proofs.judged.draft_of.Goals as goal

pub returns-in_err-listed-clause-told : goal.returns-in_err-listed-clause-told
returns-in_err-listed-clause-told c =
    let p = err_from_is_err_and c.from_residual.result c.from_residual.ensures.1 in
    let cause = c.in_err-listed.field-0.0 in
    rw (p.1, p.2) (others-told c.args.design.now c.args.models.now c.args.request.now cause (entries-told c.args.design.now c.args.request.now cause c.in_err-listed.ensures.told))

pub split-requires-clause-apart : goal.split-requires-clause-apart
split-requires-clause-apart c =
    let listed = c.in_ok-listed.ensures in
    subst (λ (l : Listed). AreApart c.args.design.now.tree l) (sym listed.listed) (c.listed_apart.ensures.apart c.args.design.now c.args.request.now c.requires.keeps listed.told)

pub plan_routes-requires-clause-apart : goal.plan_routes-requires-clause-apart
plan_routes-requires-clause-apart c =
    let listed = c.in_ok-listed.ensures in
    subst (λ (l : Listed). AreApart c.args.design.now.tree l) (sym listed.listed) (c.listed_apart.ensures.apart c.args.design.now c.args.request.now c.requires.keeps listed.told)

pub judge_routed-requires-clause-known : goal.judge_routed-requires-clause-known
judge_routed-requires-clause-known c =
    subst (λ (l : List Wire). All (λ w. w.signal < length c.args.design.now.circuit.signals) l) (sym (c.as_slice.ensures ∙ c.in_ok-routed.ensures.wires)) c.in_ok-routed.ensures.sound.known

pub judge_bridges-requires-clause-formed : goal.judge_bridges-requires-clause-formed
judge_bridges-requires-clause-formed c = subst (λ (k : FlatCircuit). IsWellFormed k) (sym c.piece.ensures.circuit) c.piece.ensures.formed

pub returns-in_err-judge_routed-clause-told : goal.returns-in_err-judge_routed-clause-told
returns-in_err-judge_routed-clause-told c =
    let p = err_from_is_err_and c.from_residual-in_err-judge_routed.result c.from_residual-in_err-judge_routed.ensures.1 in
    rw (p.1, p.2) (others-told c.args.design.now c.args.models.now c.args.request.now c.in_err-judge_routed.field-0.0 c.in_err-judge_routed.ensures)

pub returns-in_err-judge_bridges-clause-told : goal.returns-in_err-judge_bridges-clause-told
returns-in_err-judge_bridges-clause-told c =
    let p = err_from_is_err_and c.from_residual-in_err-judge_bridges.result c.from_residual-in_err-judge_bridges.ensures.1 in
    let design = c.args.design.now in
    let models = c.args.models.now in
    let request = c.args.request.now in
    let cause = c.in_err-judge_bridges.field-0.0 in
    rw (p.1, p.2) (subst (λ (fault : Option CutFault). IsTold fault cause) (bridges-at design models request c.piece.result.now c.tree.result.now c.piece.ensures.circuit c.tree.ensures.tree ∙ bridges-first design models request c.in_ok-judge_routed.ensures) c.in_err-judge_bridges.ensures)

pub returns-clause-told : goal.returns-clause-told
returns-clause-told c =
    let design = c.args.design.now in
    let models = c.args.models.now in
    let request = c.args.request.now in
    sym (bridges-first design models request c.in_ok-judge_routed.ensures)
    ∙ sym (bridges-at design models request c.piece.result.now c.tree.result.now c.piece.ensures.circuit c.tree.ensures.tree) ∙ c.in_ok-judge_bridges.ensures

pub returns-clause-draft : goal.returns-clause-draft
returns-clause-draft c =
    let listed = c.in_ok-listed.ensures in
    let design = c.args.design.now in
    record {
      small = c.requires.small;
      capacity = c.requires.capacity;
      keeps = c.requires.keeps;
      held = c.requires.held;
      faultless = c.in_ok-judge_routed.ensures;
      bridges = sym (bridges-at design c.args.models.now c.args.request.now c.piece.result.now c.tree.result.now c.piece.ensures.circuit c.tree.ensures.tree) ∙ c.in_ok-judge_bridges.ensures;
      listed = listed.listed;
      apart = subst (λ (l : Listed). AreApart design.tree l) (sym listed.listed) (c.listed_apart.ensures.apart design c.args.request.now c.requires.keeps listed.told);
      ends = subst (λ (l : List BridgeEntry). AreEndsOf design.circuit design.tree c.in_ok-listed.listed l c.in_ok-ends.ends) c.as_slice-entries.ensures (c.in_ok-ends.ensures {u = tt});
      shares = subst (λ (l : List BridgeEntry). AreShares design c.in_ok-listed.listed l c.in_ok-split.split.shares) c.as_slice-entries.ensures c.in_ok-split.ensures.shares;
      wires = c.in_ok-routed.ensures.wires;
      gone = c.in_ok-routed.ensures.gone;
      sound = c.in_ok-routed.ensures.sound;
    }
