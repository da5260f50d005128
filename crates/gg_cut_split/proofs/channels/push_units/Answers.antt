use Rattle.std.proofs.Common.{◌≡◌, ◌∙◌, ◌+◌, ◌++◌, suc, map, sym, ap, arith}
use Rattle.gg_flat_tree.specs.declared.tree.Instance.{Instance}
use Rattle.gg_flat.specs.Line.{value_at}
use Rattle.gg_cut_plan.specs.Channels.{port_wire, port_wires}
use Rattle.gg_cut_split.proofs.NumberedLemmas.{numbered-pushed, unit-step, instance-read}
use Rattle.gg_cut_split.proofs.channels.push_units.Goals as goal

pub loop-place-preserved : goal.loop-place-preserved
loop-place-preserved c =
    let unit = value_at c.args.units.now c.loop-place.place in
    let known = c.requires.known c.loop-place.place 0 c.loop-place-test.true in
    let read = c.index-instances-unit.is in
    numbered-pushed (port_wires c.args.tree.now c.args.units.now) 1 c.args.units.now c.loop-place.place 0 c.args.wires.now.items c.loop-place.wires.items c.push_ports.new.wires.items c.loop-place-test.true
    (unit-step c.args.piece.now c.args.tree.now c.args.units.now c.args.owners.now c.loop-place.place unit c.outside_of-outside.result c.index-instances-unit.result c.as_slice-ports.result.now
    c.loop-place.wires.items c.push_ports.new.wires.items c.requires.fitting known c.requires.owners (instance-read c.args.tree.now c.instances.result.now unit c.index-instances-unit.result known c.instances.ensures read)
    (c.as_slice-ports.ensures ∙ ap (λ (i : Instance). i.ports) (sym read)) c.outside_of-outside.ensures (c.in_ok-push_ports.ensures ∙ ap (λ n. c.loop-place.wires.items ++ map (port_wire c.outside_of-outside.result n) c.as_slice-ports.result.now) (c.unit.ensures ∙ (let same : suc c.loop-place.place ≡ 1 + c.loop-place.place = omega arith in same))))
    c.loop-place.invariant
