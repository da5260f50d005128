use Rattle.std.proofs.Common.{◌≡◌, ◌<◌, ◌+◌, ◌^◌, ℕ, List, length, refl, sym, ◌∙◌, ap, subst, arith}
use Rattle.std.specs.Prelude.{All}
use Rattle.gg_cut_plan.specs.declared.listed.Listed.{Listed}
use Rattle.gg_cut_plan.specs.declared.wires.Wire.{Wire}
use Rattle.gg_cut_plan.specs.Listed.{listed_of}
use Rattle.gg_cut_plan.specs.Plan.{channels_from, channels_to, machine_names}
use Rattle.gg_cut_plan.specs.Ports.{machine_end, ports_of}
use Rattle.gg_cut_plan.specs.inside.Machines.{Counts, count_end}
use Rattle.gg_cut_split.proofs.ClosedLemmas.FaultlessLemmas.{faultless-few}
use Rattle.gg_cut_split.specs.inside.Spread.{AreLists}
use Rattle.gg_cut_reference.proofs.FittingLemmas.NameLemmas.{names-count}
use Rattle.gg_cut_parts.specs.declared.draft.Draft.{Draft}
use Rattle.gg_cut_parts.specs.inside.Draft.{IsDraft}
use Rattle.gg_cut_parts.proofs.DraftLemmas.{units-count}
use Rattle.gg_cut_machines.specs.inside.Drafted.{draft_end, draft_wires}
use Rattle.gg_cut_machines.specs.inside.Hosts.{AreHosts}
use Rattle.gg_cut_machines.proofs.WireLemmas.{plan-ends}
use Rattle.gg_cut_machines.proofs.places.places_of.Goals as goal

-- the number of all machines
end : (draft : Draft) → IsDraft draft → (numbering : Counts) → numbering ≡ draft.ends.numbering → (count : ℕ) → count ≡ count_end numbering → count ≡ draft_end draft
end draft is numbering same count counted =
    counted ∙ ap count_end (same ∙ is.ends.numbers) ∙ ap (λ (l : Listed). machine_end (ports_of draft.design.now.circuit draft.design.now.tree l draft.request.now.bridges)) is.listed

-- there are fewer than 2^32
few : (draft : Draft) → IsDraft draft → draft_end draft < 2 ^ 32
few draft is = subst (λ (l : Listed). machine_end (ports_of draft.design.now.circuit draft.design.now.tree l draft.request.now.bridges) < 2 ^ 32) is.listed is.ends.few

pub hosts_of-requires-clause-units : goal.hosts_of-requires-clause-units
hosts_of-requires-clause-units c =
    let draft = c.args.draft.now in
    let count = units-count draft.design.now draft.request.now (listed_of draft.design.now.tree draft.request.now) refl in
    omega (arith, end draft c.requires c.numbering.result c.numbering.ensures c.count-count.result c.count-count.ensures, count)

pub hosts_of-requires-clause-few : goal.hosts_of-requires-clause-few
hosts_of-requires-clause-few c =
    let draft = c.args.draft.now in
    omega (arith, end draft c.requires c.numbering.result c.numbering.ensures c.count-count.result c.count-count.ensures, few draft c.requires)

pub sides_of-requires-clause-few : goal.sides_of-requires-clause-few
sides_of-requires-clause-few c =
    let draft = c.args.draft.now in
    let most = (faultless-few draft.design.now draft.request.now c.requires.faultless).channels in
    omega (arith, most, ap length (c.wires.ensures ∙ c.requires.wires))

pub sides_of-requires-clause-ends : goal.sides_of-requires-clause-ends
sides_of-requires-clause-ends c =
    let draft = c.args.draft.now in
    subst (λ (n : ℕ). All (λ (w : Wire). (w.producer < n) × (w.consumer < n)) c.wires.result.now) (sym (end draft c.requires c.numbering.result c.numbering.ensures c.count-count.result c.count-count.ensures))
    (subst (λ (l : List Wire). All (λ w. (w.producer < draft_end draft) × (w.consumer < draft_end draft)) l) (sym (c.wires.ensures ∙ c.requires.wires)) (plan-ends draft.design.now draft.request.now draft.listed c.requires.listed c.requires.sound))

pub returns : goal.returns
returns c =
    let draft = c.args.draft.now in
    let end = end draft c.requires c.numbering.result c.numbering.ensures c.count-count.result c.count-count.ensures in
    let all = c.wires.ensures ∙ c.requires.wires in
    record {
      names = c.in_ok-names.ensures {u = tt};
      names_many = ap length (c.in_ok-names.ensures {u = tt} ∙ ap (machine_names draft.design.now draft.request.now) c.requires.listed) ∙ names-count draft.design.now draft.request.now;
      hosts = subst (λ n. AreHosts draft.request.now n c.in_ok-hosts.hosts) end (c.in_ok-hosts.ensures {u = tt});
      into =
          subst (λ n. AreLists (channels_to (draft_wires draft)) n c.in_ok-sides.sides.ins.items) end
          (subst (λ (l : List Wire). AreLists (channels_to l) c.count-count.result c.in_ok-sides.sides.ins.items) all c.in_ok-sides.ensures.ins);
      from =
          subst (λ n. AreLists (channels_from (draft_wires draft)) n c.in_ok-sides.sides.outs.items) end
          (subst (λ (l : List Wire). AreLists (channels_from l) c.count-count.result c.in_ok-sides.sides.outs.items) all c.in_ok-sides.ensures.outs);
    }
