use Rattle.std.proofs.Common.{length, map, ◌∙◌, ap}
use Rattle.gg_flat.specs.Line.{value_at}
use Rattle.gg_cut_plan.specs.Plan.{wire_at}
use Rattle.gg_cut_machines.proofs.PortLemmas.{all-cleared, places-as}
use Rattle.gg_cut_machines.proofs.bridges.port_places.Goals as goal

pub returns-clause-places : goal.returns-clause-places
returns-clause-places c =
    places-as c.args.piece.now.paths (length c.args.piece.now.signals) c.args.ports.now c.args.wires.now c.args.channels.now c.put_places.new.table.items c.in_ok-places.places c.requires.wires c.requires.channels c.put_places.ensures.places
    (c.in_ok-places.ensures ∙ ap (λ l. map (λ k. value_at l (wire_at c.args.wires.now k).signal) c.args.channels.now) c.deref.ensures.value)

pub returns-clause-zero : goal.returns-clause-zero
returns-clause-zero c = λ s.
    all-cleared c.args.piece.now.paths (length c.args.piece.now.signals) c.args.ports.now c.put_places.new.table.items c.put_ports.new.table.items (c.put_ports.ensures.count ∙ c.put_places.ensures.count) c.put_places.ensures.places c.put_ports.ensures.put s
