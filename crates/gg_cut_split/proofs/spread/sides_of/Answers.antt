use Rattle.std.proofs.Common.{◌∙◌, ◌<◌, [], length, ap, subst, sym, ℕ}
use Rattle.std.specs.Prelude.{All}
use Rattle.std.proofs.lemmas.List.{length-replicate}
use Rattle.gg_cut_plan.specs.declared.wires.Wire.{Wire}
use Rattle.gg_cut_plan.specs.Plan.{channels_to, channels_from}
use Rattle.gg_cut_split.specs.inside.Spread.{AreLists}
use Rattle.gg_cut_split.proofs.GatherLemmas.{written}
use Rattle.gg_cut_split.proofs.spread.sides_of.Goals as goal

pub put_channels-requires-clause-ends : goal.put_channels-requires-clause-ends
put_channels-requires-clause-ends c =
    let many = ap length (c.deref_mut.ensures.value ∙ c.in_ok-ins.ensures) ∙ length-replicate c.args.count [] in
    subst (λ (n : ℕ). All (λ (w : Wire). (w.producer < n) × (w.consumer < n)) c.args.wires.now) (sym many) c.requires.ends

pub returns-clause-ins : goal.returns-clause-ins
returns-clause-ins c =
    let many = ap length (c.deref_mut.ensures.value ∙ c.in_ok-ins.ensures) ∙ length-replicate c.args.count [] in
    let lists = subst (λ n. AreLists (channels_to c.args.wires.now) n c.put_channels.new.ins) many c.in_ok-put_channels.ensures.ins in
    subst (AreLists (channels_to c.args.wires.now) c.args.count) (sym (written c.in_ok-ins.ins.len c.put_channels.new.ins c.in_ok-ins.ins.items (c.in_ok-put_channels.ensures.ins.many ∙ c.deref_mut.ensures.len))) lists

pub returns-clause-outs : goal.returns-clause-outs
returns-clause-outs c =
    let many = ap length (c.deref_mut-2.ensures.value ∙ c.in_ok-outs.ensures) ∙ length-replicate c.args.count [] in
    let lists = subst (λ n. AreLists (channels_from c.args.wires.now) n c.put_channels.new.outs) many c.in_ok-put_channels.ensures.outs in
    subst (AreLists (channels_from c.args.wires.now) c.args.count) (sym (written c.in_ok-outs.outs.len c.put_channels.new.outs c.in_ok-outs.outs.items (c.in_ok-put_channels.ensures.outs.many ∙ c.deref_mut-2.ensures.len))) lists
