-- What is found in tables and in lists of names are signals.
use Rattle.std.proofs.Common.{◌≡◌, ℕ, ◌<◌, List, ◌++◌, get_or, Option, Some, None, refl, inl, inr, ◌⊎◌}
use Rattle.std.specs.Prelude.{Contains, All, IfSome, flat_map}
use Rattle.std.specs.Option.{option_to_list}
use Rattle.std.proofs.lemmas.List.Elements.{Contains-get_or, Contains-append_cases}
use Rattle.gg_flat.specs.Circuit.{FlatCircuit, driver_at}
use Rattle.gg_flat_tree.specs.Scoped.{memory_fields}
use Rattle.gg_cut_plan.specs.Direct.{driver_names}
use Rattle.gg_cut_routes.specs.inside.Tables.{entry_at, AreKnown}
use Rattle.gg_cut_routes.proofs.ListTables.{flat-out, some-is}

pub found-known : (table : List (Option ℕ)) (signals : List ℕ) (count : ℕ) → AreKnown count table → All (λ x. x < count) (flat_map (λ s. option_to_list (entry_at table s)) signals)
found-known table signals count known i d lt =
    let found = flat_map (λ s. option_to_list (entry_at table s)) signals in
    let m = flat-out (λ s. option_to_list (entry_at table s)) signals (get_or found i d) (Contains-get_or found i d lt) in
    known m.item (get_or found i d) (some-is (entry_at table m.item) (get_or found i d) m.has)

module _ (circuit : FlatCircuit) (signals memories : List ℕ) (count : ℕ) (named : (s t : ℕ) → Contains signals s → Contains (driver_names circuit (driver_at circuit s)) t → t < count) (fields : (m t : ℕ) → Contains memories m → Contains (memory_fields circuit m) t → t < count) where
  pub named-known : (t : ℕ) → Contains (flat_map (λ s. driver_names circuit (driver_at circuit s)) signals ++ flat_map (memory_fields circuit) memories) t → t < count
  named-known t h = by (Contains-append_cases (flat_map (λ s. driver_names circuit (driver_at circuit s)) signals) (flat_map (memory_fields circuit) memories) t h)
    where
      by : Contains (flat_map (λ s. driver_names circuit (driver_at circuit s)) signals) t ⊎ Contains (flat_map (memory_fields circuit) memories) t → t < count
      by (inl a) = let m = flat-out (λ s. driver_names circuit (driver_at circuit s)) signals t a in named m.item t m.among m.has
      by (inr b) = let m = flat-out (memory_fields circuit) memories t b in fields m.item t m.among m.has

  pub names-all : All (λ t. t < count) (flat_map (λ s. driver_names circuit (driver_at circuit s)) signals ++ flat_map (memory_fields circuit) memories)
  names-all i d lt =
      let names = flat_map (λ s. driver_names circuit (driver_at circuit s)) signals ++ flat_map (memory_fields circuit) memories in
      named-known (get_or names i d) (Contains-get_or names i d lt)

pub if-some : (o : Option ℕ) (P : ℕ → Type 0) → ((x : ℕ) → o ≡ Some x → P x) → IfSome o P
if-some None P f = tt
if-some (Some x) P f = f x refl
