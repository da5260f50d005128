use Rattle.std.proofs.Common.{◌≡◌, ◌<◌, None, length, subst, sym, ap, ◌∙◌, arith}
use Rattle.gg_node.specs.Machine.{latch_at}
use Rattle.gg_fame5.proofs.EmptyLemmas.{one-less}
use Rattle.gg_fame5.specs.inside.Lane.{Laned, IsLane, latched_lane}
use Rattle.gg_fame5.proofs.LaneLemmas.{IsLane-latched}
use Rattle.gg_fame5.proofs.lane.Lane.keep.Goals as goal

pub overflow_sub-self : goal.overflow_sub-self
overflow_sub-self c =
    let latches = c.self.inside.latches.items in
    let there : c.args.place < length latches = omega (arith, c.requires.there, ap (λ l. length l.latches) c.self.view_is) in
    let empty : latch_at latches c.args.place ≡ None = ap (λ l. latch_at l.latches c.args.place) c.self.view_is ∙ c.requires.empty in
    omega (arith, c.self.invariant, one-less latches c.args.place c.args.token there empty)

pub invariant_of-self : goal.invariant_of-self
invariant_of-self c =
    let latches = c.self.inside.latches.items in
    let there : c.args.place < length latches = omega (arith, c.requires.there, ap (λ l. length l.latches) c.self.view_is) in
    let empty : latch_at latches c.args.place ≡ None = ap (λ l. latch_at l.latches c.args.place) c.self.view_is ∙ c.requires.empty in
    omega (arith, c.self.invariant, one-less latches c.args.place c.args.token there empty)

pub returns-clause-lane : goal.returns-clause-lane
returns-clause-lane c =
    λ circuit fits is.
    subst (λ (l : Laned). IsLane circuit (latched_lane l c.args.place c.args.token)) (sym c.self.view_is) (IsLane-latched circuit c.args.self.now c.args.place c.args.token c.requires.there fits is)
