-- The models of the bridges that are handed in, and the bridges among these that a plan needs.
use Rattle.std.proofs.Common.{◌≡◌, ◌≢◌, ℕ, zero, suc, ◌+◌, ◌<◌, List, [], ◌∷◌, ◌++◌, length, get_or, map, take, slice_get, refl, sym, ap, ◌∙◌, subst, Some, None, arith}
use Rattle.std.specs.Prelude.{All, AllPairs, Contains, Option, ◌≤◌, bytes_eq, option_and_then, slice_index_or, sum}
use Rattle.std.proofs.Math.Seq.{take-suc}
use Rattle.std.proofs.lemmas.List.{length-map, take_all}
use Rattle.std.proofs.lemmas.List.Elements.{All-append, All-contains, All-map}
use Rattle.std.proofs.lemmas.Option.{same_Some}
use Rattle.std.proofs.lemmas.Simd.{map-map}
use Rattle.std.proofs.lemmas.Slice.Eq.{bytes_eq-Decides}
use Rattle.gg_flat.specs.Circuit.{FlatCircuit}
use Rattle.gg_cut_plan.specs.Models.{model_circuits, model_names}
use Rattle.gg_flat.specs.Run.{Start}
use Rattle.gg_flat.specs.State.{State, opening}
use Rattle.gg_flat.specs.WellFormed.{IsWellFormed}
use Rattle.gg_bridge.specs.Model.{IsModel}
use Rattle.gg_order.specs.Design.{Ordered}
use Rattle.gg_partfile.specs.declared.request.BridgeEntry.{BridgeEntry}
use Rattle.gg_partfile.specs.declared.request.Request.{Request}
use Rattle.gg_cut_plan.specs.Bridges.{Models, model_named, model_or}
use Rattle.gg_cut_plan.specs.Listed.{place_of}
use Rattle.gg_cut_plan.specs.Ports.{output_count}
use Rattle.gg_cut_reference.specs.inside.Fitting.{IsFitting}
use Rattle.gg_cut_plan.specs.declared.plan.Plan.{Plan}
use Rattle.gg_cut_plan.proofs.PathLemmas.{first_place-Some}
use Rattle.gg_cut_reference.specs.whole.Whole.{CanBridge}
use Rattle.gg_build.specs.plan.Built.{IsGiven}
use Rattle.gg_build.proofs.PlanLemmas.BodyLemmas.{attached-entry}
use Rattle.gg_build.proofs.PlanLemmas.GivenLemmas.{entries-fit}
use Rattle.gg_build.specs.inside.Build.{HasBridges}
use Rattle.golden_commands.specs.Bridges.{CanHandIn, models_in}
use Rattle.golden_commands.specs.inside.Bridges.{HaveModels}
use Rattle.golden_commands.specs.Handed.{AreHandedIn, IsBridgeName, most_signals}

-- ---- copies of the models

-- The models of the first k bridges were added.
pub record AreAdded {B : Type 0} (piece : B → FlatCircuit) (bridges : List (List ℕ × B)) (k : ℕ) (models : Models) : Type 0 where
  pub are : models ≡ models_in piece (take k bridges)
  pub each : All (λ model. IsModel model.1) models

module _ {B : Type 0} (piece : B → FlatCircuit) (bridges : List (List ℕ × B)) where
  models-end : (xs : List (List ℕ × B)) (pair : List ℕ × B) → models_in piece (xs ++ pair ∷ []) ≡ models_in piece xs ++ (pair.0, piece pair.1) ∷ []
  models-end [] pair = refl
  models-end (x ∷ xs) pair = ap (λ (l : Models). (x.0, piece x.1) ∷ l) (models-end xs pair)

  pub added-none : (models : Models) → models ≡ [] → AreAdded piece bridges 0 models
  added-none models none = record { are = none; each = subst (λ (m : Models). All (λ model. IsModel model.1) m) (sym none) (λ k d lt. absurd (omega (arith, lt))) }

  pub added-next : (k : ℕ) (models more : Models) (pair : List ℕ × B) → k < length bridges → pair ≡ get_or bridges k pair → AreAdded piece bridges k models
      → more ≡ models ++ (pair.0, piece pair.1) ∷ [] → IsModel (piece pair.1) → AreAdded piece bridges (k + 1) more
  added-next k models more pair lt read added grown model =
      let step : take (k + 1) bridges ≡ take k bridges ++ pair ∷ [] =
      ap (λ n. take n bridges) (let e : k + 1 ≡ suc k = omega arith in e) ∙ take-suc bridges k pair lt ∙ ap (λ (p : List ℕ × B). take k bridges ++ p ∷ []) (sym read) in
      record {
        are = grown ∙ ap (λ (m : Models). m ++ (pair.0, piece pair.1) ∷ []) added.are ∙ sym (models-end (take k bridges) pair) ∙ ap (models_in piece) (sym step);
        each = subst (λ (m : Models). All (λ model. IsModel model.1) m) (sym grown)
            (All-append (λ model. IsModel model.1) models ((pair.0, piece pair.1) ∷ []) added.each (one model));
      }
    where
      one : IsModel (piece pair.1) → All (λ (m : List ℕ × FlatCircuit). IsModel m.1) ((pair.0, piece pair.1) ∷ [])
      one h zero d less = h
      one h (suc i) d less = absurd (omega (arith, less))

  -- all were added
  pub added-all : (k : ℕ) (models : Models) → length bridges ≤ k → AreAdded piece bridges k models → AreAdded piece bridges (length bridges) models
  added-all k models le added =
      record { are = added.are ∙ ap (models_in piece) (take_all k bridges le ∙ sym (take_all (length bridges) bridges (omega arith))); each = added.each }

  module _ (state : B → State) (can : CanHandIn piece state bridges) (models : Models) (added : AreAdded piece bridges (length bridges) models) where
    all-models : models ≡ models_in piece bridges
    all-models = added.are ∙ ap (models_in piece) (take_all (length bridges) bridges (omega arith))

    pub have-models : HaveModels piece state bridges models
    have-models = record { are = all-models; zeros = can.zeros }

    pub are-handed : AreHandedIn models
    are-handed =
        record {
          each = added.each;
          names = subst (λ (m : Models). All (λ model. IsBridgeName model.0) m) (sym all-models) (All-map (λ model. IsBridgeName model.0) (λ pair. (pair.0, piece pair.1)) bridges can.names);
          apart = subst (λ (m : Models). AllPairs (λ a b. a ≢ b) (model_names m)) (sym all-models)
              (subst (λ (l : List (List ℕ)). AllPairs (λ a b. a ≢ b) l) (sym (map-map (λ (model : List ℕ × FlatCircuit). model.0) (λ (pair : List ℕ × B). (pair.0, piece pair.1)) bridges)) can.apart);
          few = subst (λ (m : Models). sum (map (λ model. length model.1.signals) m) ≤ most_signals) (sym all-models)
              (subst (λ (l : List ℕ). sum l ≤ most_signals) (sym (map-map (λ (model : List ℕ × FlatCircuit). length model.1.signals) (λ (pair : List ℕ × B). (pair.0, piece pair.1)) bridges)) can.few);
        }

-- ---- what a plan needs

-- A bridge of this name, whose model is this one, is among these.
pub record IsThere {B : Type 0} (piece : B → FlatCircuit) (bridges : List (List ℕ × B)) (name : List ℕ) (model : FlatCircuit) : Type 0 where
  pub bridge : B
  pub known : Contains bridges (name, bridge)
  pub is : piece bridge ≡ model

module _ {B : Type 0} (piece : B → FlatCircuit) where
  there-at : (bridges : List (List ℕ × B)) (j : ℕ) (name : List ℕ) (model : FlatCircuit) → j < length bridges → get_or (model_names (models_in piece bridges)) j [] ≡ name
      → slice_get (model_circuits (models_in piece bridges)) j ≡ Some model → IsThere piece bridges name model
  there-at [] j name model lt is found = absurd (omega (arith, lt))
  there-at (pair ∷ bridges) zero name model lt is found =
      record { bridge = pair.1; known = (0, omega arith, ap (λ (n : List ℕ). (n, pair.1)) is); is = same_Some (piece pair.1) model found }
  there-at (pair ∷ bridges) (suc j) name model lt is found =
      let rest = there-at bridges j name model (omega (arith, lt)) is found in
      record { bridge = rest.bridge; known = (suc rest.known.0, omega (arith, rest.known.1), rest.known.2); is = rest.is }

  count-in : (bridges : List (List ℕ × B)) → length (model_names (models_in piece bridges)) ≡ length bridges
  count-in bridges = length-map (models_in piece bridges) (λ model. model.0) ∙ length-map bridges (λ pair. (pair.0, piece pair.1))

  pub named-there : (bridges : List (List ℕ × B)) (name : List ℕ) (model : FlatCircuit) → model_named (models_in piece bridges) name ≡ Some model → IsThere piece bridges name model
  named-there bridges name model found = by (place_of (model_names (models_in piece bridges)) name) refl found
    where
      by : (place : Option ℕ) → place_of (model_names (models_in piece bridges)) name ≡ place → option_and_then (slice_get (model_circuits (models_in piece bridges))) place ≡ Some model → IsThere piece bridges name model
      by None at e = absurd (cc)
      by (Some j) at e =
          let place = first_place-Some (bytes_eq name) (model_names (models_in piece bridges)) j at in
          let inside : j < length bridges = omega (arith, place.within, count-in bridges) in
          there-at bridges j name model inside (sym ((bytes_eq-Decides name (get_or (model_names (models_in piece bridges)) j [])).0 (place.passes []))) e

  module _ (state : B → State) (bridges : List (List ℕ × B)) (models : Models) (handed : AreHandedIn models) (have : HaveModels piece state bridges models) where
    names-apart : AllPairs (λ a b. a ≢ b) (map (λ pair. pair.0) bridges)
    names-apart =
        subst (λ (l : List (List ℕ)). AllPairs (λ a b. a ≢ b) l) (map-map (λ (model : List ℕ × FlatCircuit). model.0) (λ (pair : List ℕ × B). (pair.0, piece pair.1)) bridges)
        (subst (λ (m : Models). AllPairs (λ a b. a ≢ b) (model_names m)) have.are handed.apart)

    -- the bridges that are handed in are those that the plan of a request without a fault needs
    pub has-bridges : (design : Ordered) (request : Request) (default : ℕ) (plan : Plan) (columns : List (List ℕ)) (n : ℕ) (start : Start) (rows : List (List ℕ)) → IsGiven design request models default plan columns n start rows → HasBridges piece state plan bridges
    has-bridges design request default plan columns n start rows given =
        record {
          names = names-apart;
          each = λ m body lt is.
              let nothing : BridgeEntry = record { name = []; sees = []; drives = [] } in
              let entry = attached-entry design request models default plan columns n start rows given m lt body is in
              let fit = (entries-fit design request models given.can).each entry.0 nothing entry.1.0 in
              let own : model_named models body.name ≡ Some fit.model = ap (model_named models) entry.1.1 ∙ fit.named in
              let there = named-there bridges body.name fit.model (subst (λ (m : Models). model_named m body.name ≡ Some fit.model) have.are own) in
              let same : fit.model ≡ body.model = sym (ap model_or fit.named) ∙ sym entry.1.2 in
              record {
                bridge = there.bridge;
                known = there.known;
                model = there.is ∙ same;
                opens = All-contains (λ pair. state pair.1 ≡ opening (piece pair.1)) bridges (body.name, there.bridge) have.zeros there.known ∙ ap opening (there.is ∙ same);
              };
        }

-- each model is well formed
pub all-formed : (models : Models) → All (λ model. IsModel model.1) models → All (λ model. IsWellFormed model.1) models
all-formed models all k d lt = (all k d lt).formed

-- no models are handed in
pub none-handed : AreHandedIn []
none-handed =
    record {
      each = λ k d lt. absurd (omega (arith, lt));
      names = λ k d lt. absurd (omega (arith, lt));
      apart = λ i j d less lt. absurd (omega (arith, lt));
      few = omega arith;
    }

-- nothing is owed of no bridges
pub none-can : {B : Type 0} (piece : B → FlatCircuit) (state : B → State) (bridges : List (List ℕ × B)) → bridges ≡ [] → CanHandIn piece state bridges
none-can {B} piece state bridges none =
    subst (λ (l : List (List ℕ × B)). CanHandIn piece state l) (sym none)
    (record { names = λ k d lt. absurd (omega (arith, lt)); apart = λ i j d less lt. absurd (omega (arith, lt)); zeros = λ k d lt. absurd (omega (arith, lt)); few = omega arith })

pub none-models : {B : Type 0} (piece : B → FlatCircuit) (bridges : List (List ℕ × B)) → bridges ≡ [] → models_in piece bridges ≡ []
none-models piece bridges none = ap (models_in piece) none

-- a request without a fault asks for no bridge where no model is known
pub no-models : (design : Ordered) (request : Request) → CanBridge design request [] → request.bridges ≡ []
no-models design request can = by request.bridges (entries-fit design request [] can).each
  where
    by : (entries : List BridgeEntry) → ((k : ℕ) (any : BridgeEntry) → k < length entries → IsFitting design.circuit (take (output_count design) design.circuit.outs) [] (slice_index_or entries k any)) → entries ≡ []
    by [] each = refl
    by (entry ∷ entries) each = let known = (each 0 entry (omega arith)).known in absurd (omega (arith, known.1))
