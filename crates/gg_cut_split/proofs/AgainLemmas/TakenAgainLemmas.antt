-- What one of two units takes, the other takes too, in the same order.
use Rattle.std.proofs.Common.{◌≡◌, ℕ, ◌<◌, ◌≤◌, [], ◌∷◌, ◌++◌, length, map, Bool, true, false, refl, sym, ◌∙◌, ap, ap₂, eq-eqb, true-eqb}
use Rattle.std.specs.Prelude.{flat_map, cond, ◌==◌, Contains}
use Rattle.std.proofs.lemmas.List.{map-append}
use Rattle.std.proofs.lemmas.List.Elements.{All-contains}
use Rattle.std.proofs.lemmas.List.Kept.{AllPairs-filter}
use Rattle.gg_flat_tree.specs.declared.tree.InstancePort.{InstancePort}
use Rattle.gg_flat.specs.Line.{value_at}
use Rattle.gg_flat_tree.specs.Tree.{instance_at, memory_at}
use Rattle.gg_flat.proofs.ListLemmas.{Contains-filter, filter-cases}
use Rattle.gg_part.specs.Copies.{Start}
use Rattle.gg_part.specs.Moved.{shifted, moved_port}
use Rattle.gg_order.specs.Design.{Ordered}
use Rattle.gg_cut_plan.specs.declared.listed.Listed.{Listed}
use Rattle.gg_cut_plan.specs.Listed.{owner_of_instance}
use Rattle.gg_cut_plan.specs.Machines.{unit_number}
use Rattle.gg_cut_plan.specs.Plan.{channels_to, signals_of}
use Rattle.gg_cut_split.specs.inside.Again.{cut_wires}
use Rattle.gg_cut_split.proofs.AgainLemmas.AscendingLemmas.{counterparts-same}
use Rattle.gg_cut_split.proofs.AgainLemmas.FieldLemmas.{words-again}
use Rattle.gg_cut_split.proofs.AgainLemmas.FlatLemmas.{flat-moved}
use Rattle.gg_cut_split.proofs.AgainLemmas.Pair.{ArePair, IsInUnit, turned}
use Rattle.gg_cut_split.proofs.AgainLemmas.TakenLemmas.{input, words, held, taken-are}

module _ (design : Ordered) (listed : Listed) (u v : ℕ) (one other : Start) (pair : ArePair design listed u v one other) where
  abbrev is_in : ℕ → ℕ → Bool
  is_in unit j = owner_of_instance design.tree listed.units (memory_at design.tree j).instance == unit_number unit

  -- a listed memory that the unit holds is one of the tree, in the unit
  pub held-known : (p : ℕ) → Contains (held design.tree listed u) p → (p < length design.tree.memories) × IsInUnit design.tree listed u p
  held-known p h =
      let kept = filter-cases (is_in u) listed.memories p h in (
        All-contains (λ place. place < length design.tree.memories) listed.memories p pair.apart.memories kept.among,
        true-eqb (owner_of_instance design.tree listed.units (memory_at design.tree p).instance) (unit_number u) (sym kept.passes),
      )

  held-over : (p : ℕ) → Contains (held design.tree listed u) p → (one.memories ≤ p) × Contains (held design.tree listed v) (shifted one.memories other.memories p)
  held-over p h =
      let at = held-known p h in
      let next = shifted one.memories other.memories p in
      let kept = filter-cases (is_in u) listed.memories p h in (
        pair.there.behind p at.0 at.1,
        Contains-filter (is_in v) listed.memories next (pair.there.counterpart p at.0 at.1 kept.among)
            (eq-eqb (owner_of_instance design.tree listed.units (memory_at design.tree next).instance) (unit_number v) (pair.there.holder p at.0 at.1)),
      )

module _ (design : Ordered) (listed : Listed) (u v : ℕ) (one other : Start) (pair : ArePair design listed u v one other) where
  abbrev to : ℕ → ℕ
  to = shifted one.signals other.signals

  -- the listed memories in the two units are each other's counterparts, in the same order
  pub held-again : held design.tree listed v ≡ map (shifted one.memories other.memories) (held design.tree listed u)
  held-again =
      counterparts-same one.memories other.memories (held design.tree listed u) (held design.tree listed v)
      (AllPairs-filter (λ a b. a < b) (λ j. owner_of_instance design.tree listed.units (memory_at design.tree j).instance == unit_number u) listed.memories pair.apart.ascending)
      (AllPairs-filter (λ a b. a < b) (λ j. owner_of_instance design.tree listed.units (memory_at design.tree j).instance == unit_number v) listed.memories pair.apart.ascending)
      (held-over design listed u v one other pair)
      (held-over design listed v u other one (turned pair))

  ports-again : flat_map input (instance_at design.tree (value_at listed.units v)).ports ≡ map (shifted one.signals other.signals) (flat_map input (instance_at design.tree (value_at listed.units u)).ports)
  ports-again =
      ap (flat_map input) pair.copy.ports
      ∙ flat-moved input input (λ (port : InstancePort). moved_port to port) to (instance_at design.tree (value_at listed.units u)).ports (λ port h. by port.signal port.is_input)
    where
      by : (s : ℕ) (b : Bool) → cond b (shifted one.signals other.signals s ∷ []) [] ≡ map (shifted one.signals other.signals) (cond b (s ∷ []) [])
      by s true = refl
      by s false = refl

  -- the signals that the two units take, in the order of their channels, are each other's counterparts
  pub ins : signals_of (cut_wires design listed) (channels_to (cut_wires design listed) (unit_number v)) ≡ map (shifted one.signals other.signals) (signals_of (cut_wires design listed) (channels_to (cut_wires design listed) (unit_number u)))
  ins =
      taken-are design.circuit design.tree listed pair.keeps.fitting pair.apart v pair.back.known
      ∙ ap₂ (λ a b. a ++ b) ports-again
      (ap (flat_map (words design.circuit design.tree)) held-again
      ∙ flat-moved (words design.circuit design.tree) (words design.circuit design.tree) (shifted one.memories other.memories) to (held design.tree listed u)
      (λ p h. let at = held-known design listed u v one other pair p h in words-again design listed u v one other pair p at.0 at.1))
      ∙ sym (map-append to (flat_map input (instance_at design.tree (value_at listed.units u)).ports) (flat_map (words design.circuit design.tree) (held design.tree listed u)))
      ∙ ap (map to) (sym (taken-are design.circuit design.tree listed pair.keeps.fitting pair.apart u pair.there.known))
