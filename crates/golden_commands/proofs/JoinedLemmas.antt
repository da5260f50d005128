-- Joining with the models of some entries, one after another.
use Rattle.std.proofs.Common.{◌≡◌, ℕ, zero, suc, Some, slice_get, ◌+◌, ◌<◌, ◌≤◌, List, [], ◌∷◌, length, get_or, drop, sym, ap, ◌∙◌, subst, arith}
use Rattle.std.proofs.lemmas.List.{drop_all}
use Rattle.gg_flat.specs.Circuit.{FlatCircuit}
use Rattle.gg_partfile.specs.declared.request.BridgeEntry.{BridgeEntry}
use Rattle.gg_bridge.specs.inside.Ports.{CanStand}
use Rattle.gg_bridge.specs.Ports.{joined_at}
use Rattle.gg_cut_reference.specs.inside.Whole.{CanStandAll}
use Rattle.gg_cut_reference.specs.whole.Whole.{with_bridges}
use Rattle.gg_cut_plan.specs.Bridges.{Models, model_of, model_or}
use Rattle.gg_cut_plan.specs.Listed.{place_of}
use Rattle.gg_cut_plan.specs.Models.{model_circuits, model_names}
use Rattle.gg_bridge.specs.Model.{IsModel}
use Rattle.std.specs.Prelude.{All, option_and_then}
use Rattle.std.proofs.lemmas.Option.{same_Some}
use Rattle.gg_cut_plan.proofs.FindLemmas.{rest-at}

module _ (models : Models) (one : FlatCircuit) where
  pub joined-first : (entries : List BridgeEntry) (k : ℕ) (entry : BridgeEntry) → k < length entries → entry ≡ get_or entries k entry → CanStandAll models one (drop k entries) → CanStand one entry.name (model_of models entry) entry.sees entry.drives
  joined-first entries k entry lt read can = (subst (CanStandAll models one) (rest-at entries k entry lt read) can).0

  module _ (next : FlatCircuit) (entries : List BridgeEntry) (k : ℕ) (entry : BridgeEntry) (lt : k < length entries) (read : entry ≡ get_or entries k entry) (is : next ≡ joined_at one entry.name (model_of models entry) entry.sees entry.drives) where
    pub joined-next : CanStandAll models one (drop k entries) → CanStandAll models next (drop (k + 1) entries)
    joined-next can = subst (λ (f : FlatCircuit). CanStandAll models f (drop (k + 1) entries)) (sym is) (subst (CanStandAll models one) (rest-at entries k entry lt read) can).1

    pub joined-then : with_bridges models next (drop (k + 1) entries) ≡ with_bridges models one (drop k entries)
    joined-then = ap (λ (f : FlatCircuit). with_bridges models f (drop (k + 1) entries)) is ∙ ap (with_bridges models one) (sym (rest-at entries k entry lt read))

  -- all were joined in
  pub joined-all : (entries : List BridgeEntry) (k : ℕ) → length entries ≤ k → one ≡ with_bridges models one (drop k entries)
  joined-all entries k le = ap (with_bridges models one) (sym (drop_all k entries le))

-- the model at the place of an entry's name is the entry's
pub model-at : (models : Models) (entry : BridgeEntry) (place : ℕ) (model : FlatCircuit) → place_of (model_names models) entry.name ≡ Some place → slice_get (model_circuits models) place ≡ Some model → model ≡ model_of models entry
model-at models entry place model at found = sym (ap model_or (ap (option_and_then (slice_get (model_circuits models))) at ∙ found))

-- a model that stands among models is one
pub model-there : (models : Models) (k : ℕ) (model : FlatCircuit) → All (λ m. IsModel m.1) models → slice_get (model_circuits models) k ≡ Some model → IsModel model
model-there [] k model all found = absurd (cc)
model-there (m ∷ models) zero model all found = subst IsModel (same_Some m.1 model found) (all 0 m (omega arith))
model-there (m ∷ models) (suc k) model all found = model-there models k model (λ i d lt. all (suc i) d (omega (arith, lt))) found
