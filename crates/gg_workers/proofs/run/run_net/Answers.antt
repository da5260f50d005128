use Rattle.std.proofs.Common.{◌≡◌, ℕ, ◌<◌, List, length, sym, subst}
use Rattle.gg_flat.specs.Line.{value_at}
use Rattle.gg_net.specs.Network.{Network, takes}
use Rattle.gg_workers.proofs.run.run_net.Goals as goal

pub run_parts-requires-clause-starts : goal.run_parts-requires-clause-starts
run_parts-requires-clause-starts g c κs within =
    subst (λ (xs : List ℕ). (length xs ≡ length g.E.Era.start.wires) × ((d : ℕ) → d < length g.E.Era.start.wires → value_at xs d ≡ takes g.E.Era.start d)) (sym c.deref.ensures.value)
    (subst (λ (n : Network). (length c.in-Ok.starts.items ≡ length n.wires) × ((d : ℕ) → d < length n.wires → value_at c.in-Ok.starts.items d ≡ takes n d)) (sym c.requires.start) c.in-Ok.ensures)
