use Rattle.std.proofs.Common.{◌≡◌, ℕ, List, sym, ◌∙◌, ap, subst}
use Rattle.gg_flat.specs.Circuit.{FlatCircuit}
use Rattle.gg_flat.specs.WellFormed.{IsWellFormed}
use Rattle.gg_bridge.specs.Joined.{joined}
use Rattle.gg_bridge.specs.inside.Joined.{HasOrder}
use Rattle.gg_bridge.proofs.designs.join_model.Goals as goal

made : (piece one own : FlatCircuit) (front : List ℕ) (model : FlatCircuit) (sees drives : List ℕ) → piece ≡ joined one front model sees drives → one ≡ own → piece ≡ joined own front model sees drives
made piece one own front model sees drives is same = is ∙ ap (λ (c : FlatCircuit). joined c front model sees drives) same

pub order_of-requires-clause-formed : goal.order_of-requires-clause-formed
order_of-requires-clause-formed c = subst IsWellFormed (sym (made c.in_ok-piece.piece c.piece.result.now c.args.design.now.circuit c.args.front.now c.args.model.now c.args.sees.now c.args.drives.now c.in_ok-piece.ensures c.piece.ensures.circuit)) (c.joined_formed.ensures c.args.design.now.circuit c.args.front.now c.args.model.now c.args.sees.now c.args.drives.now c.requires.can c.piece.ensures.formed c.requires.model)

pub order_of-requires-clause-ordered : goal.order_of-requires-clause-ordered
order_of-requires-clause-ordered c = subst HasOrder (sym (made c.in_ok-piece.piece c.piece.result.now c.args.design.now.circuit c.args.front.now c.args.model.now c.args.sees.now c.args.drives.now c.in_ok-piece.ensures c.piece.ensures.circuit)) (c.joined_ordered.ensures c.args.design.now.circuit c.args.front.now c.args.model.now c.args.sees.now c.args.drives.now c.args.design.now.order c.requires.can c.piece.ensures.formed c.order.ensures.ordered c.requires.model)

pub new-requires-clause-formed : goal.new-requires-clause-formed
new-requires-clause-formed c = subst IsWellFormed (sym (made c.in_ok-piece.piece c.piece.result.now c.args.design.now.circuit c.args.front.now c.args.model.now c.args.sees.now c.args.drives.now c.in_ok-piece.ensures c.piece.ensures.circuit)) (c.joined_formed.ensures c.args.design.now.circuit c.args.front.now c.args.model.now c.args.sees.now c.args.drives.now c.requires.can c.piece.ensures.formed c.requires.model)

pub returns-clause-circuit : goal.returns-clause-circuit
returns-clause-circuit c = c.new.ensures.circuit ∙ made c.in_ok-piece.piece c.piece.result.now c.args.design.now.circuit c.args.front.now c.args.model.now c.args.sees.now c.args.drives.now c.in_ok-piece.ensures c.piece.ensures.circuit
