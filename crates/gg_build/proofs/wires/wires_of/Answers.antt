use Rattle.std.proofs.Common.{List, ℕ, length, sym, subst}
use Rattle.gg_cut_plan.specs.declared.plan.Machine as planned
use Rattle.gg_cut_plan.specs.declared.plan.Channel.{Channel}
use Rattle.gg_cut_plan.specs.Direct.{plan_wires}
use Rattle.gg_build.specs.inside.Wires.{AreListed, ArePlaces, AreWires}
use Rattle.gg_build.proofs.WireLemmas.{outs_of, ins_of, links-in, few-links, listed-outs, listed-ins, wires-are}
use Rattle.gg_build.proofs.wires.wires_of.Goals as goal

pub places_of-requires : goal.places_of-requires
places_of-requires c =
    let plan = c.args.plan.now in
    let is = c.requires in
    let links = plan_wires is.design.circuit is.design.tree is.request in
    let are = links-in plan is in
    let few = few-links plan is in
    record {
      outs = subst (λ (ms : List planned.Machine). AreListed (outs_of ms) (length c.as_slice-channels.result.now)) (sym c.as_slice.ensures)
          (subst (λ (cs : List Channel). AreListed (outs_of plan.machines) (length cs)) (sym c.as_slice-channels.ensures) (listed-outs plan links are few));
      ins = subst (λ (ms : List planned.Machine). AreListed (ins_of ms) (length c.as_slice-channels.result.now)) (sym c.as_slice.ensures)
          (subst (λ (cs : List Channel). AreListed (ins_of plan.machines) (length cs)) (sym c.as_slice-channels.ensures) (listed-ins plan links are few));
    }

pub returns : goal.returns
returns c = λ token have.
    let plan = c.args.plan.now in
    let is = c.requires in
    let links = plan_wires is.design.circuit is.design.tree is.request in
    let places = c.in_ok-places.places in
    let wires = c.in_ok-wires.wires.items in
    wires-are plan links (links-in plan is) token places.outs.items places.ins.items c.args.tokens.now wires
    (subst (λ (cs : List Channel). ArePlaces (outs_of plan.machines) (length cs) places.outs.items) c.as_slice-channels.ensures (subst (λ (ms : List planned.Machine). ArePlaces (outs_of ms) (length c.as_slice-channels.result.now) places.outs.items) c.as_slice.ensures c.in_ok-places.ensures.outs))
    (subst (λ (cs : List Channel). ArePlaces (ins_of plan.machines) (length cs) places.ins.items) c.as_slice-channels.ensures (subst (λ (ms : List planned.Machine). ArePlaces (ins_of ms) (length c.as_slice-channels.result.now) places.ins.items) c.as_slice.ensures c.in_ok-places.ensures.ins))
    (subst (λ (os : List ℕ). AreWires plan.channels os places.ins.items c.args.tokens.now (length plan.channels) wires) c.deref.ensures.value
    (subst (λ (ps : List ℕ). AreWires plan.channels c.deref.result.now ps c.args.tokens.now (length plan.channels) wires) c.deref-2.ensures.value
    (subst (λ (cs : List Channel). AreWires cs c.deref.result.now c.deref-2.result.now c.args.tokens.now (length cs) wires) c.as_slice-channels.ensures c.in_ok-wires.ensures))) have
