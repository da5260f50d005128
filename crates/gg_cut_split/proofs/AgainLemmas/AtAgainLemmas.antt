-- The signals of one unit's channels have their counterparts among those of the other's.
use Rattle.std.proofs.Common.{◌≡◌, ℕ, ◌<◌, ◌≤◌, List, length, sym, ◌∙◌, ap, subst, None, arith}
use Rattle.std.specs.Prelude.{Contains}
use Rattle.std.proofs.lemmas.List.{get_or_default}
use Rattle.std.proofs.lemmas.List.Elements.{All-contains}
use Rattle.gg_flat_tree.specs.declared.tree.InstancePort.{InstancePort}
use Rattle.gg_flat_tree.specs.declared.tree.StopInstance.{StopInstance}
use Rattle.gg_flat.specs.Line.{value_at}
use Rattle.gg_flat.specs.Circuit.{FlatCircuit}
use Rattle.gg_flat_tree.specs.Tree.{InstanceTree, IsInnermost, Holds, instance_at, memory_at, stop_at}
use Rattle.gg_flat_tree.specs.Scoped.{memory_fields}
use Rattle.gg_flat.proofs.ListLemmas.{Contains-map}
use Rattle.gg_part.specs.Copies.{Start}
use Rattle.gg_part.specs.Moved.{shifted, moved_port, moved_stop}
use Rattle.gg_order.specs.Design.{Ordered}
use Rattle.gg_cut_plan.specs.declared.listed.Listed.{Listed}
use Rattle.gg_cut_split.proofs.AgainLemmas.FieldLemmas.{fields-again}
use Rattle.gg_cut_split.proofs.AgainLemmas.LiesLemmas.{owner-in}
use Rattle.gg_cut_split.proofs.AgainLemmas.Pair.{ArePair}
use Rattle.gg_cut_split.proofs.AgainLemmas.UnitSignalLemmas.{IsAtUnit, AtPort, AtField, AtStop, at-held, holder-owner}

-- a number behind a start, as far behind another and then again behind the first, is the same number
pub shifted-back : (from to s : ℕ) → from ≤ s → shifted to from (shifted from to s) ≡ s
shifted-back from to s le = omega (arith, le)

module _ (design : Ordered) (listed : Listed) (u v : ℕ) (one other : Start) (pair : ArePair design listed u v one other) where
  abbrev circuit : FlatCircuit
  circuit = design.circuit

  abbrev tree : InstanceTree
  tree = design.tree

  abbrev to : ℕ → ℕ
  to = shifted one.signals other.signals

  -- a signal of the one unit has its counterpart among the other's
  pub held-moved : (s : ℕ) → Holds (instance_at design.tree (value_at listed.units u)) s → Holds (instance_at design.tree (value_at listed.units v)) (shifted one.signals other.signals s)
  held-moved s holds =
      let low = pair.there.first in
      let start = pair.back.first in
      let size = pair.copy.size in
      let first = holds.0 in
      let last = holds.1 in
      (omega (arith, first, low, start), omega (arith, first, last, low, start, size))

  pub held-behind : (s : ℕ) → Holds (instance_at design.tree (value_at listed.units u)) s → one.signals ≤ s
  held-behind s holds = let low = pair.there.first in let first = holds.0 in omega (arith, first, low)

  -- ---- what is at the one unit has its counterpart at the other

  stop-again : (q s : ℕ) → q < length design.tree.stops → IsAtUnit circuit tree listed u s → (stop_at tree q).signal ≡ s → Contains design.tree.stops (moved_stop (shifted (value_at listed.units u) (value_at listed.units v)) to (stop_at tree q)) → IsAtUnit circuit tree listed v (to s)
  stop-again q s known at is (k, within, same) =
      AtStop k within
      (holder-owner circuit tree listed pair.keeps.fitting pair.keeps.scoped pair.apart v pair.back.known (stop_at tree k).instance (to s)
      (subst (IsInnermost tree (stop_at tree k).instance) signal (pair.keeps.scoped.stops k within).own)
      (held-moved s (at-held circuit tree listed pair.keeps.fitting pair.keeps.scoped pair.apart u pair.there.known s at)))
      signal
    where
      moved : StopInstance
      moved = moved_stop (shifted (value_at listed.units u) (value_at listed.units v)) to (stop_at tree q)

      signal : (stop_at tree k).signal ≡ to s
      signal = ap (λ (stop : StopInstance). stop.signal) (get_or_default design.tree.stops k (record { instance = 0; signal = 0; clock = None }) moved within ∙ same) ∙ ap to is

  pub at-again : (s : ℕ) → IsAtUnit design.circuit design.tree listed u s → IsAtUnit design.circuit design.tree listed v (shifted one.signals other.signals s)
  at-again s (AtPort port among is) =
      AtPort (moved_port to port)
      (subst (λ (l : List InstancePort). Contains l (moved_port to port)) (sym pair.copy.ports) (Contains-map (λ (p : InstancePort). moved_port to p) (instance_at tree (value_at listed.units u)).ports port among))
      (ap to is)
  at-again s (AtField p among inside field) =
      let known = All-contains (λ place. place < length tree.memories) listed.memories p pair.apart.memories among in
      AtField (shifted one.memories other.memories p) (pair.there.counterpart p known inside among) (pair.there.holder p known inside)
      (subst (λ (l : List ℕ). Contains l (to s)) (sym (fields-again design listed u v one other pair p known inside)) (Contains-map to (memory_fields circuit (memory_at tree p).memory) s field))
  at-again s (AtStop q known inside is) =
      stop-again q s known (AtStop q known inside is) is
      (pair.copy.stop q known (owner-in circuit tree listed pair.keeps.fitting pair.apart (stop_at tree q).instance u (pair.keeps.scoped.stops q known).own.known inside))
