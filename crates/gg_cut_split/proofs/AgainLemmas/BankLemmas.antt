-- The memories that belong to a unit, and those of a copy of it.
use Rattle.std.proofs.Common.{◌≡◌, ◌≢◌, ℕ, ◌+◌, ◌<◌, ◌≤◌, List, length, map, sym, ◌∙◌, ap, subst, inl, inr, ◌⊎◌, arith}
use Rattle.std.specs.Prelude.{◌↔◌, All, AllPairs, Contains, slice_index_or}
use Rattle.std.proofs.lemmas.List.Elements.{Contains-get_or}
use Rattle.gg_flat.specs.declared.memory.Memory.{Memory}
use Rattle.gg_flat_tree.specs.Tree.{InstanceTree}
use Rattle.gg_part.specs.Copies.{Start}
use Rattle.gg_part.specs.Moved.{shifted, unclocked_memory}
use Rattle.gg_order.specs.Design.{Ordered}
use Rattle.gg_cut_plan.specs.declared.listed.Listed.{Listed}
use Rattle.gg_cut_plan.specs.Machines.{first_memory, unit_number}
use Rattle.gg_cut_plan.specs.Listed.{memory_owner}
use Rattle.gg_cut_plan.specs.Plan.{HasMemory}
use Rattle.gg_cut_split.proofs.ClosedLemmas.ClosedLemmas.{owner-listed, owner-unlisted}
use Rattle.gg_cut_split.proofs.ClosedLemmas.ListLemmas.{Somewhere}
use Rattle.gg_cut_split.proofs.ClosedLemmas.MakerLemmas.{find-unit}
use Rattle.gg_cut_split.proofs.AgainLemmas.AscendingLemmas.{counterparts-same}
use Rattle.gg_cut_split.proofs.AgainLemmas.AtAgainLemmas.{shifted-back}
use Rattle.gg_cut_split.proofs.AgainLemmas.Pair.{ArePair, IsInUnit, turned}
use Rattle.gg_flat.specs.Renaming.{renamed_memory, signals_by}

-- The memory at place p is in the unit at place u, and isn't listed.
pub record IsOwn (tree : InstanceTree) (listed : Listed) (u p : ℕ) : Type 0 where
  pub known : p < length tree.memories
  pub inside : IsInUnit tree listed u p
  pub free : ¬ Contains listed.memories p

module _ (design : Ordered) (listed : Listed) (u v : ℕ) (one other : Start) (pair : ArePair design listed u v one other) where
  -- a memory that belongs to a unit is in it, and isn't listed; its number is its place
  pub own-of : (k : ℕ) → HasMemory design.tree listed (unit_number u) k → IsOwn design.tree listed u k
  own-of k has = subst (IsOwn design.tree listed u) (sym (pair.keeps.copies.number has.place has.known) ∙ has.is) (by (find-unit listed.memories has.place))
    where
      by : Somewhere (λ j. has.place ≡ j) listed.memories ⊎ All (λ j. has.place ≢ j) listed.memories → IsOwn design.tree listed u has.place
      by (inl at) =
          let place : memory_owner design.tree listed has.place ≡ first_memory listed + at.place =
          ap (memory_owner design.tree listed) (at.holds 0) ∙ owner-listed design.circuit design.tree listed pair.meant.formed pair.keeps.fitting pair.keeps.scoped pair.apart at.place at.within in
          let low = pair.there.known in
          absurd (omega (arith, low, sym has.owner ∙ place))
      by (inr none) =
          let unlisted = owner-unlisted design.circuit design.tree listed pair.meant.formed pair.keeps.fitting pair.keeps.scoped pair.apart has.place (λ i d lt same. none i d lt (sym same)) in
          record { known = has.known; inside = sym unlisted ∙ has.owner; free = λ h. none h.0 has.place h.1 (sym h.2) }

  -- and the other way
  pub has-own : (p : ℕ) → IsOwn design.tree listed u p → HasMemory design.tree listed (unit_number u) p
  has-own p own =
      record {
        place = p;
        known = own.known;
        is = pair.keeps.copies.number p own.known;
        owner = owner-unlisted design.circuit design.tree listed pair.meant.formed pair.keeps.fitting pair.keeps.scoped pair.apart p (λ i d lt same. own.free (subst (Contains listed.memories) same (Contains-get_or listed.memories i d lt))) ∙ own.inside;
      }

  pub own-too : (p : ℕ) → IsOwn design.tree listed u p → IsOwn design.tree listed v (shifted one.memories other.memories p)
  own-too p own =
      let there = pair.there in
      let q = shifted one.memories other.memories p in
      record {
        known = there.within p own.known own.inside;
        inside = there.holder p own.known own.inside;
        free = λ h.
            own.free (subst (Contains listed.memories) (shifted-back one.memories other.memories p (there.behind p own.known own.inside))
            (pair.back.counterpart q (there.within p own.known own.inside) (there.holder p own.known own.inside) h));
      }

  pub memory-too : (k : ℕ) (any : Memory) → HasMemory design.tree listed (unit_number u) k
      → (shifted one.memories other.memories k < length design.circuit.memories)
      × (unclocked_memory (slice_index_or design.circuit.memories (shifted one.memories other.memories k) any) ≡ unclocked_memory (renamed_memory (signals_by (shifted one.signals other.signals)) (slice_index_or design.circuit.memories k any)))
  memory-too k any has =
      let own = own-of k has in
      let within = pair.there.within k own.known own.inside in
      let count = pair.keeps.fitting.count in
      (omega (arith, within, count), pair.copy.memory k any own.known (pair.there.lies k own.known own.inside))

module _ (design : Ordered) (listed : Listed) (u v : ℕ) (one other : Start) (pair : ArePair design listed u v one other) where
  -- each memory of a list of the unit's has its counterpart in a list of the other's
  listed-too : (own others : List ℕ) → ((k : ℕ) → Contains own k ↔ HasMemory design.tree listed (unit_number u) k) → ((k : ℕ) → Contains others k ↔ HasMemory design.tree listed (unit_number v) k) → (k : ℕ) → Contains own k → (one.memories ≤ k) × Contains others (shifted one.memories other.memories k)
  listed-too own others is are k h =
      let mine = own-of design listed u v one other pair k ((is k).0 h) in
      (pair.there.behind k mine.known mine.inside, (are (shifted one.memories other.memories k)).1 (has-own design listed v u other one (turned pair) (shifted one.memories other.memories k) (own-too design listed u v one other pair k mine)))

  pub banks-too : (own others : List ℕ) → AllPairs (λ a b. a < b) own → AllPairs (λ a b. a < b) others → ((k : ℕ) → Contains own k ↔ HasMemory design.tree listed (unit_number u) k) → ((k : ℕ) → Contains others k ↔ HasMemory design.tree listed (unit_number v) k) → others ≡ map (shifted one.memories other.memories) own
  banks-too own others up down is are =
      counterparts-same one.memories other.memories own others up down (listed-too own others is are) (λ k h. back k h)
    where
      back : (k : ℕ) → Contains others k → (other.memories ≤ k) × Contains own (shifted other.memories one.memories k)
      back k h =
          let mine = own-of design listed v u other one (turned pair) k ((are k).0 h) in
          (pair.back.behind k mine.known mine.inside, (is (shifted other.memories one.memories k)).1 (has-own design listed u v one other pair (shifted other.memories one.memories k) (own-too design listed v u other one (turned pair) k mine)))
