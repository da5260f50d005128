use Rattle.std.proofs.Common.{List, ℕ, length, ◌∙◌, ap, arith}
use Rattle.gg_flat.specs.Line.{value_at}
use Rattle.gg_cut_plan.specs.inside.Machines.{Counts}
use Rattle.gg_cut_split.proofs.PartingLemmas.{machines-known, each-memories}
use Rattle.gg_cut_split.proofs.parting.memories_of.Goals as goal

pub memory_owners-requires-clause-held : goal.memory_owners-requires-clause-held
memory_owners-requires-clause-held c = λ k lt.
    let within = (c.requires.whole.can.fitting.held k lt).instance in
    omega (arith, within, ap length c.deref.ensures.value, c.requires.beginning.owners_many)

pub memory_owners-requires-clause-owners : goal.memory_owners-requires-clause-owners
memory_owners-requires-clause-owners c = λ k lt.
    let many = ap length c.deref.ensures.value ∙ c.requires.beginning.owners_many in
    ap (λ (l : List ℕ). value_at l k) c.deref.ensures.value ∙ c.requires.beginning.owner k (omega (arith, lt, many))

pub memory_owners-requires-clause-units : goal.memory_owners-requires-clause-units
memory_owners-requires-clause-units c = ap (λ (n : Counts). n.units) c.requires.whole.ends.numbers

pub memory_owners-requires-clause-memories : goal.memory_owners-requires-clause-memories
memory_owners-requires-clause-memories c = ap (λ (n : Counts). n.memories) c.requires.whole.ends.numbers

pub memories-requires-clause-owned : goal.memories-requires-clause-owned
memories-requires-clause-owned c =
    let whole = c.args.whole.now in
    machines-known whole.piece.now whole.tree.now whole.listed.now whole.entries.now c.requires.whole.can.fitting c.requires.whole.can.apart c.in_ok-machines.machines.items c.deref-2.result.now c.args.count c.deref-2.ensures.value c.requires.count c.in_ok-machines.ensures.count c.in_ok-machines.ensures.owners

pub returns : goal.returns
returns c =
    let whole = c.args.whole.now in
    each-memories whole.piece.now whole.tree.now whole.listed.now whole.entries.now c.requires.whole.can.fitting c.requires.whole.can.apart c.requires.whole.can.numbered c.in_ok-machines.machines.items c.deref-2.result.now c.args.count c.in_ok-lists.lists.items c.deref-2.ensures.value c.in_ok-machines.ensures.owners c.in_ok-lists.ensures
