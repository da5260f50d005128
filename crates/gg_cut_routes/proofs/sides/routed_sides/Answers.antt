use Rattle.gg_cut_routes.proofs.sides.routed_sides.Goals as goal

pub returns-clause-sides : goal.returns-clause-sides
returns-clause-sides c = c.put_wires.ensures.sides c.args.globals.now c.put_globals.ensures.sides
