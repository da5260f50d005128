use Rattle.std.proofs.Common.{◌≡◌, ◌<◌, ◌≤◌, ℕ, List, [], Bool, Option, None, length, get_or, map, sym, ap, ap₂, ◌∙◌, subst, subst₂}
use Rattle.gg_flat.specs.declared.piece.Driver.TheVariants.{Held}
use Rattle.gg_flat_tree.specs.declared.tree.MemoryInstance.{MemoryInstance}
use Rattle.gg_flat.specs.Circuit.{FlatCircuit, driver_at}
use Rattle.gg_flat_tree.specs.inside.Clocked.{AreParentsBefore}
use Rattle.gg_flat_tree.specs.Clocked.{clock_at}
use Rattle.gg_flat.specs.Line.{value_at}
use Rattle.gg_flat_tree.specs.Tree.{InstanceTree, instance_at}
use Rattle.gg_part.specs.inside.Domains.{FollowsInside, inner_clocks}
use Rattle.gg_order.specs.Marks.{is_marked}
use Rattle.gg_cut_plan.specs.inside.Listed.{AreMarks}
use Rattle.gg_cut_plan.proofs.KnownLemmas.{parents-before}
use Rattle.gg_cut_parts.specs.inside.Innermost.{IsLast, IsTimedBy}
use Rattle.gg_cut_parts.proofs.FollowLemmas.{follows-inside, ports-follow}
use Rattle.gg_cut_parts.proofs.domains.unit_clocking.Goals as goal

pub inner_table-requires-clause-before : goal.inner_table-requires-clause-before
inner_table-requires-clause-before c = subst AreParentsBefore (sym c.tree-tree.ensures.tree) (parents-before c.args.design.now.circuit c.args.design.now.tree c.requires.keeps.fitting)

pub returns : goal.returns
returns c =
    let circuit = c.args.design.now.circuit in
    let tree = c.args.design.now.tree in
    let keeps = c.requires.keeps in
    let whole = c.piece-piece.ensures.circuit in
    let same = c.tree-tree.ensures.tree in
    let homes = c.in_ok-homes.homes.items in
    let inner = c.in_ok-inner.inner.items in
    let places = c.in_ok-places.places.items in
    let table = c.in_ok-registers.registers.items in
    let each =
    subst₂ (λ (t : InstanceTree) (m : List Bool). (k : ℕ) → k < length t.instances → get_or inner k [] ≡ inner_clocks (is_marked m) t k) same c.deref.ensures.value c.in_ok-inner.ensures.each in
    let last =
    subst (λ (t : InstanceTree). (s k : ℕ) → k < length t.instances → (instance_at t k).first ≤ s → s < (instance_at t k).end → IsLast t (length t.instances) s (value_at places s)) same c.in_ok-places.ensures.last in
    let timed =
    subst₂ (λ (l : List (List (Option ℕ))) (p : List ℕ). (s r : ℕ) → s < length circuit.signals → driver_at circuit s ≡ Held r → IsTimedBy circuit tree l p table r) c.deref-2.ensures.value c.deref-3.ensures.value
    (subst₂ (λ (w : FlatCircuit) (t : InstanceTree). (s r : ℕ) → s < length w.signals → driver_at w s ≡ Held r → IsTimedBy w t c.deref-2.result.now c.deref-3.result.now table r) whole same c.in_ok-registers.ensures.each) in
    record {
      marks = homes;
      homes = subst (λ (units : List ℕ). AreMarks units homes) c.as_slice.ensures c.in_ok-homes.ensures.marks;
      register = λ s r lt held.
          subst (λ (l : List (Option ℕ)). FollowsInside (is_marked homes) tree s r (get_or l r None)) (sym c.from.ensures)
          (follows-inside circuit tree keeps (is_marked homes) inner each places table c.requires.held last s r lt held (timed s r lt held));
      ports = λ k lt.
          ap (λ (l : List (List (Option ℕ))). get_or l k [])
          (c.from-2.ensures ∙ c.in_ok-ports.ensures
          ∙ ap₂ (λ (l : List (List (Option ℕ))) (m : List MemoryInstance). map (λ (memory : MemoryInstance). map (clock_at (get_or l memory.instance [])) memory.clocks) m) c.deref-4.ensures.value (c.memories.ensures ∙ ap (λ (t : InstanceTree). t.memories) same))
          ∙ ports-follow circuit tree keeps (is_marked homes) inner each k lt;
    }
