-- Each machine of a plan has a share: its signals, along the order, and its memories.
use Rattle.std.proofs.Common.{◌≡◌, ℕ, List, [], Bool, false, length, map, refl, sym, subst, inl, inr, ◌⊎◌, arith}
use Rattle.std.specs.Prelude.{AllPairs, Contains, filter}
use Rattle.std.specs.List.{range_with_len}
use Rattle.std.proofs.lemmas.Bool.{cases_eq}
use Rattle.std.proofs.lemmas.List.{get_or_default}
use Rattle.std.proofs.lemmas.List.Elements.{Contains-get_or}
use Rattle.std.proofs.lemmas.List.FromFn.{get_or-map-range_with_len}
use Rattle.std.proofs.lemmas.List.Kept.{AllPairs-filter}
use Rattle.gg_flat.proofs.ListLemmas.{Contains-filter, Contains-map, filter-cases}
use Rattle.gg_part.specs.KeepsToTree.{KeepsToTree}
use Rattle.gg_order.specs.Design.{IsDesign, Ordered}
use Rattle.gg_flat.specs.inside.InOrder.{Precedes}
use Rattle.gg_partfile.specs.declared.request.BridgeEntry.{BridgeEntry}
use Rattle.gg_cut_plan.specs.declared.listed.Listed.{Listed}
use Rattle.gg_cut_plan.specs.declared.wires.Wire.{Wire}
use Rattle.gg_cut_plan.specs.Channels.{wire, wires_of}
use Rattle.gg_cut_plan.specs.Direct.{Hub, hub_of, is_gone, routes}
use Rattle.gg_cut_plan.specs.Listed.{memory_owner, owner_of}
use Rattle.gg_cut_plan.specs.Plan.{IsInner, Takes, channels_from, channels_to, givens_of, signals_of, wire_at}
use Rattle.gg_cut_plan.specs.inside.Plan.{Makes}
use Rattle.gg_cut_split.specs.inside.Apart.{AreApart}
use Rattle.gg_cut_split.proofs.ClosedLemmas.ChoiceLemmas.{gets-known}
use Rattle.gg_cut_split.proofs.ClosedLemmas.ListLemmas.{map-cases}
use Rattle.gg_cut_split.specs.inside.Share.{IsShareOf}
use Rattle.gg_cut_split.specs.inside.Spread.{AreMemories, AreSignals, memories_below}
use Rattle.gg_cut_split.proofs.ShareLemmas.{memories-are, shared}
use Rattle.gg_cut_routes.specs.inside.Routes.{AreRoutes}
use Rattle.gg_cut_routes.specs.inside.Share.{IsPlanShare, stays_by}
use Rattle.gg_cut_routes.proofs.PlanLemmas.{hub-plan-share, other-plan-share}
use Rattle.gg_cut.proofs.ExistenceLemmas.DecideLemmas.{Decided, all-three, either, holds, holds-true, is-below, true-holds}
use Rattle.gg_cut.proofs.ExistenceLemmas.FilledLemmas.{has-cases}

-- what a machine has, by its channels
pub record HasShare (design : Ordered) (listed : Listed) (hub : Hub) (m : ℕ) : Type 0 where
  pub globals : List ℕ
  pub memories : List ℕ
  pub is : IsPlanShare design listed hub m (channels_to (routes hub) m) (channels_from (routes hub) m) globals memories

in-turn : (order : List ℕ) → AllPairs (λ a b. Precedes order a b) order
in-turn order i j d less lt =
    record { first = i; second = j; before = less; within = lt; first_is = get_or_default order i 0 d (omega (arith, less, lt)); second_is = get_or_default order j 0 d lt }

module _ (design : Ordered) (listed : Listed) (entries : List BridgeEntry) (is : IsDesign design) (keeps : KeepsToTree design.circuit design.tree) (apart : AreApart design.tree listed) where
  abbrev wires : List Wire
  wires = wires_of design.circuit design.tree listed entries

  -- whether a channel carries a signal
  inner : (s : ℕ) → Decided (IsInner wires s)
  inner s = by (has-cases (map (λ (w : Wire). w.signal) wires) s)
    where
      by : Contains (map (λ (w : Wire). w.signal) wires) s ⊎ (Contains (map (λ (w : Wire). w.signal) wires) s → ⊥) → Decided (IsInner wires s)
      by (inl carried) = let at = map-cases (λ (w : Wire). w.signal) wires s carried in inr (λ none. none at.place at.within (at.holds (wire 0 0 0)))
      by (inr none) = inl (λ c lt same. none (subst (Contains (map (λ (w : Wire). w.signal) wires)) same (Contains-map (λ (w : Wire). w.signal) wires (wire_at wires c) (Contains-get_or wires c (wire 0 0 0) lt))))

  -- whether a machine makes or takes it
  gets : (m s : ℕ) → Decided (Makes design.circuit design.tree listed wires m s ⊎ Takes wires m s)
  gets m s =
      either
      (either (all-three (is-below s (length design.circuit.signals)) (cases_eq (owner_of design.circuit design.tree listed s) m) (inner s)) (has-cases (givens_of wires (channels_from wires m)) s))
      (has-cases (signals_of wires (channels_to wires m)) s)

  abbrev signals_for : ℕ → List ℕ
  signals_for m = filter (λ s. holds (gets m s)) design.order

  signals-for : (m : ℕ) → AreSignals design.circuit design.tree design.order listed entries m (signals_for m)
  signals-for m =
      record {
        just = λ s. (
          λ h. holds-true (gets m s) (filter-cases (λ t. holds (gets m t)) design.order s h).passes,
          λ has. Contains-filter (λ t. holds (gets m t)) design.order s (is.ordered.every s (gets-known design.circuit design.tree listed entries is.formed keeps.fitting keeps.scoped apart m s has)) (true-holds (gets m s) has),
        );
        along = AllPairs-filter (λ a b. Precedes design.order a b) (λ s. holds (gets m s)) design.order (in-turn design.order);
      }

  abbrev owners : List ℕ
  owners = map (memory_owner design.tree listed) (range_with_len 0 (length design.tree.memories))

  abbrev memories_for : ℕ → List ℕ
  memories_for m = memories_below design.tree owners (length design.tree.memories) m

  memories-for : (m : ℕ) → AreMemories design.tree listed m (memories_for m)
  memories-for m = memories-are design.tree listed keeps.copies.number owners (λ place lt. get_or-map-range_with_len (memory_owner design.tree listed) 0 (length design.tree.memories) place place 0 lt (omega arith)) m

  share-of : (m : ℕ) → IsShareOf design listed wires m (channels_to wires m) (channels_from wires m) (signals_for m) (memories_for m)
  share-of m =
      shared design.circuit design.tree design.order listed entries is.formed keeps.fitting keeps.scoped is.ordered apart m (channels_to wires m) (channels_from wires m) (signals_for m) (memories_for m)
      refl refl (signals-for m) (memories-for m)

  module _ (piped : ℕ → Bool) (direct : Bool) (are : AreRoutes design listed entries (hub_of design.circuit design.tree listed piped entries direct)) where
    abbrev hub : Hub
    hub = hub_of design.circuit design.tree listed piped entries direct

    abbrev gone : List Bool
    gone = map (is_gone hub) (range_with_len 0 (length design.circuit.signals))

    share-there : (m : ℕ) → HasShare design listed hub m
    share-there m = by (cases_eq m 0)
      where
        at-hub : HasShare design listed hub 0
        at-hub =
            record {
              globals = filter (stays_by (routes hub) gone) (signals_for 0);
              memories = memories_for 0;
              is = hub-plan-share design listed piped entries direct is keeps apart are gone (channels_to wires 0) (channels_from wires 0) (signals_for 0) (memories_for 0)
                  (λ s lt. get_or-map-range_with_len (is_gone hub) 0 (length design.circuit.signals) s s false lt (omega arith)) (share-of 0);
            }

        by : (m ≡ 0) ⊎ (m ≡ 0 → ⊥) → HasShare design listed hub m
        by (inl none) = subst (HasShare design listed hub) (sym none) at-hub
        by (inr some) =
            record {
              globals = signals_for m;
              memories = memories_for m;
              is = other-plan-share design listed piped entries direct is keeps apart are m (channels_to wires m) (channels_from wires m) (signals_for m) (memories_for m) some (share-of m);
            }

pub plan-share : (design : Ordered) (listed : Listed) (piped : ℕ → Bool) (entries : List BridgeEntry) (direct : Bool) → IsDesign design → KeepsToTree design.circuit design.tree → AreApart design.tree listed → AreRoutes design listed entries (hub_of design.circuit design.tree listed piped entries direct)
    → (m : ℕ) → HasShare design listed (hub_of design.circuit design.tree listed piped entries direct) m
plan-share design listed piped entries direct is keeps apart are m = share-there design listed entries is keeps apart piped direct are m
