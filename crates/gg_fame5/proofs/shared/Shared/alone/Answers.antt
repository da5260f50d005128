use Rattle.std.proofs.Common.{◌≡◌, [], ◌∷◌, ◌++◌, List, sym, ap, subst, ◌∙◌}
use Rattle.gg_fame5.specs.inside.Lane.{Laned}
use Rattle.gg_fame5.specs.inside.Shared.{IsSharing}
use Rattle.gg_fame5.proofs.SharedLemmas.{IsSharing-alone}
use Rattle.gg_fame5.proofs.shared.Shared.alone.Goals as goal

pub invariant_of-result : goal.invariant_of-result
invariant_of-result c =
    let circuit = c.args.program.circuit in
    let own = c.in_ok-lane.lane in
    let lane = c.in_ok-lane.ensures {u = tt} in
    let slots = c.in_ok-slots.ensures {u = tt} in
    let are : c.push_reserved.new.self.items ≡ own ∷ [] = c.push_reserved.ensures.items ∙ ap (λ (l : List Laned). l ++ own ∷ []) (c.in_ok-lanes.ensures {u = tt}).items in
    subst (λ (l : List Laned). IsSharing circuit l 0 c.in_ok-slots.slots) (sym are)
    (IsSharing-alone circuit c.args.ratios.now c.args.state c.args.cycle own c.in_ok-slots.slots lane.started lane.lane (slots.cycle c.args.state) slots.none)
