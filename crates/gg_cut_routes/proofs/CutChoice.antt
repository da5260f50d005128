-- The parts that the machines of a cut make by the routed channels.
use Rattle.std.proofs.Common.{◌≡◌, ◌≢◌, ℕ, List, [], Bool, length, sym, subst, inl, inr, ◌⊎◌, eq-eqb}
use Rattle.std.specs.Prelude.{◌↔◌, ◌==◌, Contains, AllPairs, filter}
use Rattle.std.specs.List.{range_with_len}
use Rattle.std.proofs.lemmas.Bool.{cases_eq}
use Rattle.gg_flat.specs.Circuit.{FlatCircuit}
use Rattle.gg_flat_tree.specs.Tree.{InstanceTree, memory_at}
use Rattle.gg_flat_tree.specs.Scoped.{memory_fields}
use Rattle.gg_flat.proofs.ListLemmas.{Contains-filter, in-range}
use Rattle.gg_part.specs.inside.Choice.{IsChoice}
use Rattle.gg_partfile.specs.declared.request.BridgeEntry.{BridgeEntry}
use Rattle.gg_cut_plan.specs.declared.listed.Listed.{Listed}
use Rattle.gg_cut_plan.specs.Channels.{wires_of}
use Rattle.gg_cut_plan.specs.Listed.{memory_owner}
use Rattle.gg_cut_plan.specs.Plan.{channels_to, channels_from, signals_of, givens_of, Takes, HasMemory, MakesBy}
use Rattle.gg_cut_plan.specs.inside.Plan.{Makes}
use Rattle.gg_cut_plan.specs.Direct.{Hub, routes, hub_of, hub_fields}
use Rattle.gg_cut_routes.proofs.NameLemmas.{flat-in}
use Rattle.gg_cut_routes.proofs.RouteLemmas.{IsBase}
use Rattle.gg_cut_routes.proofs.SubLemmas.{IsSub, sub-choice}
use Rattle.gg_cut_routes.proofs.ChoiceLemmas.{before, before-is, before-once, hub-sub, other-sub}

-- what the plain channels of a cut give
pub record IsPlainCut (circuit : FlatCircuit) (tree : InstanceTree) (listed : Listed) (entries : List BridgeEntry) (m : ℕ) : Type 0 where
  pub choice : (globals memories : List ℕ) → ((s : ℕ) → Contains globals s ↔ (Makes circuit tree listed (wires_of circuit tree listed entries) m s ⊎ Takes (wires_of circuit tree listed entries) m s)) → AllPairs (λ a b. a ≢ b) globals → ((k : ℕ) → Contains memories k ↔ HasMemory tree listed m k) → AllPairs (λ a b. a ≢ b) memories
      → IsChoice circuit globals (signals_of (wires_of circuit tree listed entries) (channels_to (wires_of circuit tree listed entries) m)) (givens_of (wires_of circuit tree listed entries) (channels_from (wires_of circuit tree listed entries) m)) memories

module _ (circuit : FlatCircuit) (tree : InstanceTree) (listed : Listed) (piped : ℕ → Bool) (entries : List BridgeEntry) (direct : Bool) (base : IsBase (hub_of circuit tree listed piped entries direct)) where
  abbrev pub the_hub : Hub
  the_hub = hub_of circuit tree listed piped entries direct

  -- a field of a memory that the hub has
  pub field-held : (k s : ℕ) → HasMemory tree listed 0 k → Contains (memory_fields circuit k) s → Contains (hub_fields circuit tree listed) s
  field-held k s has field =
      flat-in (λ j. memory_fields circuit (memory_at tree j).memory) (filter (λ j. memory_owner tree listed j == 0) (range_with_len 0 (length tree.memories))) has.place s
      (Contains-filter (λ j. memory_owner tree listed j == 0) (range_with_len 0 (length tree.memories)) has.place (in-range (length tree.memories) has.place has.known) (eq-eqb (memory_owner tree listed has.place) 0 has.owner))
      (subst (λ n. Contains (memory_fields circuit n) s) (sym has.is) field)

  pub choice : (m : ℕ) (mine memories : List ℕ) → IsPlainCut circuit tree listed entries m → ((s : ℕ) → Contains mine s ↔ (MakesBy the_hub m s ⊎ Takes (routes the_hub) m s)) → AllPairs (λ a b. a ≢ b) mine → ((k : ℕ) → Contains memories k ↔ HasMemory tree listed m k) → AllPairs (λ a b. a ≢ b) memories
      → IsChoice circuit mine (signals_of (routes the_hub) (channels_to (routes the_hub) m)) (givens_of (routes the_hub) (channels_from (routes the_hub) m)) memories
  choice m mine memories plain has once banks memories-once =
      sub-choice circuit (before the_hub base m) (signals_of the_hub.base (channels_to the_hub.base m)) (givens_of the_hub.base (channels_from the_hub.base m)) memories mine
      (signals_of (routes the_hub) (channels_to (routes the_hub) m)) (givens_of (routes the_hub) (channels_from (routes the_hub) m))
      (plain.choice (before the_hub base m) memories (before-is the_hub base m) (before-once the_hub base m) banks memories-once)
      (by (cases_eq m 0) banks has)
    where
      by : (m ≡ 0) ⊎ (m ≡ 0 → ⊥) → ((k : ℕ) → Contains memories k ↔ HasMemory tree listed m k) → ((s : ℕ) → Contains mine s ↔ (MakesBy the_hub m s ⊎ Takes (routes the_hub) m s)) → IsSub circuit (before the_hub base m) (signals_of the_hub.base (channels_to the_hub.base m)) memories mine (signals_of (routes the_hub) (channels_to (routes the_hub) m)) (givens_of (routes the_hub) (channels_from (routes the_hub) m))
      by (inl zero) banks has =
          subst (λ n. ((k : ℕ) → Contains memories k ↔ HasMemory tree listed n k) → ((s : ℕ) → Contains mine s ↔ (MakesBy the_hub n s ⊎ Takes (routes the_hub) n s)) → IsSub circuit (before the_hub base n) (signals_of the_hub.base (channels_to the_hub.base n)) memories mine (signals_of (routes the_hub) (channels_to (routes the_hub) n)) (givens_of (routes the_hub) (channels_from (routes the_hub) n))) (sym zero)
          (λ banks has. hub-sub the_hub base (before the_hub base 0) memories mine (before-is the_hub base 0) has once (λ k s h field. field-held k s ((banks k).0 h) field)) banks has
      by (inr other) banks has = other-sub the_hub base m (before the_hub base m) memories mine (before-is the_hub base m) has once other
