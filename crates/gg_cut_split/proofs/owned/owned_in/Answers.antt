use Rattle.std.proofs.Common.{List, ℕ, length, sym, ◌∙◌, ap, subst, arith}
use Rattle.gg_flat.specs.Line.{value_at}
use Rattle.gg_cut_plan.specs.inside.Machines.{Counts}
use Rattle.gg_cut_plan.specs.Plan.{IsInner}
use Rattle.gg_cut_plan.specs.declared.wires.Wire.{Wire}
use Rattle.gg_cut_split.proofs.ShareLemmas.{inner-owner}
use Rattle.gg_cut_split.proofs.owned.owned_in.Goals as goal

pub memory_owners-requires-clause-held : goal.memory_owners-requires-clause-held
memory_owners-requires-clause-held c = λ k lt.
    let within = (c.requires.can.fitting.held k lt).instance in
    omega (arith, within, ap length c.deref.ensures.value, (c.in_ok-beginning.ensures {u = tt}).owners_many)

pub memory_owners-requires-clause-owners : goal.memory_owners-requires-clause-owners
memory_owners-requires-clause-owners c = λ k lt.
    let many = ap length c.deref.ensures.value ∙ (c.in_ok-beginning.ensures {u = tt}).owners_many in
    ap (λ (l : List ℕ). value_at l k) c.deref.ensures.value ∙ (c.in_ok-beginning.ensures {u = tt}).owner k (omega (arith, lt, many))

pub memory_owners-requires-clause-units : goal.memory_owners-requires-clause-units
memory_owners-requires-clause-units c = ap (λ (n : Counts). n.units) c.requires.ends.numbers

pub memory_owners-requires-clause-memories : goal.memory_owners-requires-clause-memories
memory_owners-requires-clause-memories c = ap (λ (n : Counts). n.memories) c.requires.ends.numbers

pub returns-clause-signals : goal.returns-clause-signals
returns-clause-signals c = λ s lt inner.
    let whole = c.args.whole.now in
    let begun = c.in_ok-beginning.ensures {u = tt} in
    ap (λ (l : List ℕ). value_at l s) c.from-2.ensures
    ∙ sym (inner-owner whole.piece.now whole.tree.now whole.order.now whole.listed.now whole.entries.now c.requires.can.formed c.requires.can.fitting c.requires.can.scoped c.requires.can.ordered c.requires.can.apart c.in_ok-beginning.beginning.holders.items begun.holder s lt
    (subst (λ (l : List Wire). IsInner l s) (c.from.ensures ∙ begun.channels) inner))
