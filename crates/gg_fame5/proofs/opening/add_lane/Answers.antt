use Rattle.std.proofs.Common.{List, sym, subst}
use Rattle.std.specs.Prelude.{All}
use Rattle.std.proofs.lemmas.List.Elements.{All-push}
use Rattle.gg_fame5.specs.inside.Lane.{Laned, IsLane}
use Rattle.gg_fame5.proofs.opening.add_lane.Goals as goal

pub returns-clause-each : goal.returns-clause-each
returns-clause-each c = λ all.
    let circuit = c.args.program.now.circuit in
    subst (λ (l : List Laned). All (IsLane circuit) l) (sym c.push_reserved.ensures.items) (All-push (IsLane circuit) c.args.lanes.now.items c.in_ok-lane.lane all (c.in_ok-lane.ensures {u = tt}).lane)
