-- Entries that fit can be at the ports of a circuit.
use Rattle.std.proofs.Common.{◌≡◌, ◌≢◌, ℕ, zero, suc, ◌<◌, List, [], ◌∷◌, ◌++◌, codes, length, map, get_or, drop, slice_get, true, true≢false, true-eqb, ◌==◌, Option, Some, None, refl, sym, ◌∙◌, ap, ap₂, subst, inl, inr, ◌⊎◌, arith}
use Rattle.std.specs.Prelude.{All, AllPairs, Contains, flat_map, option_and_then}
use Rattle.std.proofs.lemmas.List.{get_or-map, get_or_default, length-map, length-append, get_or_append_left}
use Rattle.std.proofs.lemmas.List.Elements.{Contains-append_cases, Contains-get_or}
use Rattle.std.proofs.lemmas.Option.{same_Some}
use Rattle.gg_bits.specs.Shape.{Shape}
use Rattle.gg_bits.specs.declared.types.Kind.{Kind}
use Rattle.gg_bits.specs.declared.types.Kind.TheVariants.{UInt, SInt}
use Rattle.gg_flat.specs.Circuit.{FlatCircuit, signal_shapes}
use Rattle.gg_flat.specs.Line.{shape_at, value_at}
use Rattle.gg_cut_plan.specs.Models.{model_names, model_circuits}
use Rattle.gg_flat_tree.specs.Tree.{path_at}
use Rattle.gg_partfile.specs.declared.request.BridgeEntry.{BridgeEntry}
use Rattle.gg_cut_plan.specs.Listed.{place_of}
use Rattle.gg_cut_plan.specs.Channels.{channel_names}
use Rattle.gg_cut_plan.specs.Bridges.{Models, same_kind, same_shape, is_of_shape, port_shape, fit_ports, shapes_at, model_named, model_or}
use Rattle.gg_bridge.specs.Model.{IsModel}
use Rattle.gg_bridge.specs.inside.All.{Attached, CanAttach, CanAttachEach}
use Rattle.gg_flat.proofs.ListLemmas.{some-item}
use Rattle.gg_bridge.proofs.EachLemmas.{second-once}
use Rattle.gg_cut_reference.specs.inside.Fitting.{IsFitting, AreFitting, attached_of, ArePortsAt}
use Rattle.gg_cut_reference.specs.fitting.Fitting.{AreModels}
use Rattle.gg_cut_reference.proofs.FittingLemmas.FittingLemmas.{both-true}

-- ---- shapes

pub kind-same : (a b : Kind) → same_kind a b ≡ true → a ≡ b
kind-same UInt UInt e = refl
kind-same UInt SInt e = absurd (true≢false (sym e))
kind-same SInt UInt e = absurd (true≢false (sym e))
kind-same SInt SInt e = refl

pub shape-same : (a b : Shape) → same_shape a b ≡ true → a ≡ b
shape-same a b e =
    let parts = both-true (same_kind a.kind b.kind) (a.width == b.width) e in
    ap₂ (λ k w. let s : Shape = record { kind = k; width = w } in s) (kind-same a.kind b.kind parts.0) (true-eqb a.width b.width (sym parts.1))

pub fit-count : (circuit : FlatCircuit) (ports : List (List ℕ)) (shapes : List Shape) → fit_ports circuit ports shapes ≡ true → length ports ≡ length shapes
fit-count circuit [] [] e = refl
fit-count circuit [] (b ∷ bs) e = absurd (true≢false (sym e))
fit-count circuit (port ∷ ports) [] e = absurd (true≢false (sym e))
fit-count circuit (port ∷ ports) (b ∷ bs) e = ap suc (fit-count circuit ports bs (both-true (is_of_shape (port_shape circuit port) b) (fit_ports circuit ports bs) e).1)

pub fit-at : (circuit : FlatCircuit) (ports : List (List ℕ)) (shapes : List Shape) (i : ℕ) (any x : Shape) → fit_ports circuit ports shapes ≡ true → i < length ports → port_shape circuit (path_at ports i) ≡ Some x → x ≡ get_or shapes i any
fit-at circuit [] shapes i any x e lt is = absurd (omega (arith, lt))
fit-at circuit (port ∷ ports) [] i any x e lt is = absurd (true≢false (sym e))
fit-at circuit (port ∷ ports) (b ∷ bs) zero any x e lt is =
    shape-same x b (sym (ap (λ o. is_of_shape o b) is) ∙ (both-true (is_of_shape (port_shape circuit port) b) (fit_ports circuit ports bs) e).0)
fit-at circuit (port ∷ ports) (b ∷ bs) (suc i) any x e lt is = fit-at circuit ports bs i any x (both-true (is_of_shape (port_shape circuit port) b) (fit_ports circuit ports bs) e).1 (omega (arith, lt)) is

-- ---- models

circuit-at : (models : Models) (k : ℕ) (model : FlatCircuit) → All (λ m. IsModel m.1) models → slice_get (model_circuits models) k ≡ Some model → IsModel model
circuit-at [] k model all found = absurd (cc)
circuit-at (m ∷ models) zero model all found = subst IsModel (same_Some m.1 model found) (all 0 m (omega arith))
circuit-at (m ∷ models) (suc k) model all found = circuit-at models k model (λ i d lt. all (suc i) d (omega (arith, lt))) found

pub model-is : (models : Models) (name : List ℕ) (model : FlatCircuit) → All (λ m. IsModel m.1) models → model_named models name ≡ Some model → IsModel model
model-is models name model all found = by (place_of (model_names models) name) found
  where
    by : (place : Option ℕ) → option_and_then (slice_get (model_circuits models)) place ≡ Some model → IsModel model
    by None e = absurd (cc)
    by (Some k) e = circuit-at models k model all e

-- ---- fronts

dot-front : (n m a b : List ℕ) → ¬ Contains n 46 → ¬ Contains m 46 → (n ++ 46 ∷ []) ++ a ≡ (m ++ 46 ∷ []) ++ b → n ≡ m
dot-front [] [] a b plain other e = refl
dot-front [] (y ∷ m) a b plain other e = absurd (other (0, omega arith, sym (ap (λ l. value_at l 0) e)))
dot-front (x ∷ n) [] a b plain other e = absurd (plain (0, omega arith, ap (λ l. value_at l 0) e))
dot-front (x ∷ n) (y ∷ m) a b plain other e =
    ap₂ (λ h t. h ∷ t) (ap (λ l. value_at l 0) e)
    (dot-front n m a b (λ h. plain (suc h.0, omega (arith, h.1), h.2)) (λ h. other (suc h.0, omega (arith, h.1), h.2)) (ap (λ l. drop 1 l) e))

-- ---- lists

-- images differ if the items do
map-differ : (f : List ℕ → ℕ) (xs : List (List ℕ)) → AllPairs (λ a b. a ≢ b) xs → ((a b : List ℕ) → Contains xs a → Contains xs b → f a ≡ f b → a ≡ b) → AllPairs (λ a b. a ≢ b) (map f xs)
map-differ f xs differ once i j d less lt same =
    let second : j < length xs = omega (arith, lt, length-map xs f) in
    let first : i < length xs = omega (arith, less, second) in
    differ i j [] less second (once (get_or xs i []) (get_or xs j []) (Contains-get_or xs i [] first) (Contains-get_or xs j [] second)
    (sym (get_or-map f xs i [] d first) ∙ same ∙ get_or-map f xs j [] d second))

map-append : (f : List ℕ → ℕ) (xs ys : List (List ℕ)) → map f (xs ++ ys) ≡ map f xs ++ map f ys
map-append f [] ys = refl
map-append f (x ∷ xs) ys = ap (λ l. f x ∷ l) (map-append f xs ys)

-- the items of the first list differ
first-once : (xs ys : List ℕ) → AllPairs (λ a b. a ≢ b) (xs ++ ys) → AllPairs (λ a b. a ≢ b) xs
first-once xs ys once i j d less lt same =
    once i j d less (omega (arith, lt, length-append xs ys)) (get_or_append_left xs ys d i (omega (arith, less, lt)) ∙ same ∙ sym (get_or_append_left xs ys d j lt))

module _ (circuit : FlatCircuit) (outs : List ℕ) (models : Models) (one : FlatCircuit) (seen_at driven_at : List ℕ → ℕ) (ports : ArePortsAt circuit outs one seen_at driven_at) (are : AreModels models) where
  abbrev attached : BridgeEntry → Attached
  attached entry = attached_of seen_at driven_at models entry

  abbrev attached_as : FlatCircuit → BridgeEntry → Attached
  attached_as model entry = record { front = codes "bridge:" ++ (entry.name ++ codes "."); model = model; sees = map seen_at entry.sees; drives = map driven_at entry.drives }

  can-attach-model : (entry : BridgeEntry) (fit : IsFitting circuit outs models entry) → AllPairs (λ a b. a ≢ b) (map driven_at entry.drives) → CanAttach one (attached_as fit.model entry)
  can-attach-model entry fit once =
      record {
        can = record {
          seen_count = length-map entry.sees seen_at ∙ fit-count circuit entry.sees (shapes_at fit.model fit.model.ins) fit.seen_types ∙ length-map fit.model.ins (shape_at (signal_shapes fit.model));
          seen = λ i lt. let low = see i lt in subst (λ s. s < length one.signals) (sym (get_or-map seen_at entry.sees i [] 0 low)) (ports.seen (path_at entry.sees i) (fit.seen i low)).0;
          seen_type = λ i lt.
              let low = see i lt in
              let count = fit-count circuit entry.sees (shapes_at fit.model fit.model.ins) fit.seen_types ∙ length-map fit.model.ins (shape_at (signal_shapes fit.model)) in
              ap (shape_at (signal_shapes one)) (get_or-map seen_at entry.sees i [] 0 low)
              ∙ fit-at circuit entry.sees (shapes_at fit.model fit.model.ins) i (shape_at (signal_shapes fit.model) 0) (shape_at (signal_shapes one) (seen_at (path_at entry.sees i))) fit.seen_types low (ports.seen (path_at entry.sees i) (fit.seen i low)).1
              ∙ get_or-map (shape_at (signal_shapes fit.model)) fit.model.ins i 0 (shape_at (signal_shapes fit.model) 0) (omega (arith, low, count));
          driven_count = length-map entry.drives driven_at ∙ fit-count circuit entry.drives (shapes_at fit.model fit.model.outs) fit.driven_types ∙ length-map fit.model.outs (shape_at (signal_shapes fit.model));
          driven = λ i lt. let low = drive i lt in subst (Contains one.ins) (sym (get_or-map driven_at entry.drives i [] 0 low)) (ports.driven (path_at entry.drives i) (fit.driven i low)).0;
          driven_type = λ i lt.
              let low = drive i lt in
              let count = fit-count circuit entry.drives (shapes_at fit.model fit.model.outs) fit.driven_types ∙ length-map fit.model.outs (shape_at (signal_shapes fit.model)) in
              ap (shape_at (signal_shapes one)) (get_or-map driven_at entry.drives i [] 0 low)
              ∙ fit-at circuit entry.drives (shapes_at fit.model fit.model.outs) i (shape_at (signal_shapes fit.model) 0) (shape_at (signal_shapes one) (driven_at (path_at entry.drives i))) fit.driven_types low (ports.driven (path_at entry.drives i) (fit.driven i low)).1
              ∙ get_or-map (shape_at (signal_shapes fit.model)) fit.model.outs i 0 (shape_at (signal_shapes fit.model) 0) (omega (arith, low, count));
          once = once;
          fresh = λ s i lt less. ports.fresh s ((entry.name ++ codes ".") ++ path_at fit.model.paths i) lt;
        };
        model = model-is models entry.name fit.model are.each fit.named;
      }
    where
      see : (i : ℕ) → i < length (map seen_at entry.sees) → i < length entry.sees
      see i lt = omega (arith, lt, length-map entry.sees seen_at)

      drive : (i : ℕ) → i < length (map driven_at entry.drives) → i < length entry.drives
      drive i lt = omega (arith, lt, length-map entry.drives driven_at)

  can-attach : (entry : BridgeEntry) → IsFitting circuit outs models entry → AllPairs (λ a b. a ≢ b) (map driven_at entry.drives) → CanAttach one (attached entry)
  can-attach entry fit once = subst (λ (o : Option FlatCircuit). CanAttach one (attached_as (model_or o) entry)) (sym fit.named) (can-attach-model entry fit once)

  -- ---- what all drive

  all-driven : (entries : List BridgeEntry) → flat_map (λ b. b.drives) (map attached entries) ≡ map driven_at (flat_map (λ e. e.drives) entries)
  all-driven [] = refl
  all-driven (entry ∷ entries) = ap (λ l. map driven_at entry.drives ++ l) (all-driven entries) ∙ sym (map-append driven_at entry.drives (flat_map (λ e. e.drives) entries))

  all-known : (entries : List BridgeEntry) → ((k : ℕ) (any : BridgeEntry) → k < length entries → IsFitting circuit outs models (get_or entries k any)) → (port : List ℕ) → Contains (flat_map (λ e. e.drives) entries) port → Contains (channel_names circuit circuit.ins) port
  all-known [] each port h = absurd (omega (arith, h.1))
  all-known (entry ∷ entries) each port h = by (Contains-append_cases entry.drives (flat_map (λ e. e.drives) entries) port h) (λ other. all-known entries (λ k any lt. each (suc k) any (omega (arith, lt))) port other)
    where
      by : Contains entry.drives port ⊎ Contains (flat_map (λ e. e.drives) entries) port → (Contains (flat_map (λ e. e.drives) entries) port → Contains (channel_names circuit circuit.ins) port) → Contains (channel_names circuit circuit.ins) port
      by (inl own) rest = subst (Contains (channel_names circuit circuit.ins)) (get_or_default entry.drives own.0 [] port own.1 ∙ own.2) ((each 0 entry (omega arith)).driven own.0 own.1)
      by (inr other) rest = rest other

  -- what one entry drives differs
  own-once : (entries : List BridgeEntry) (k : ℕ) (any : BridgeEntry) → AllPairs (λ a b. a ≢ b) (flat_map (λ b. b.drives) (map attached entries)) → k < length entries → AllPairs (λ a b. a ≢ b) (map driven_at (get_or entries k any).drives)
  own-once [] k any once lt = absurd (omega (arith, lt))
  own-once (entry ∷ entries) zero any once lt = first-once (map driven_at entry.drives) (flat_map (λ b. b.drives) (map attached entries)) once
  own-once (entry ∷ entries) (suc k) any once lt = own-once entries k any (second-once (map driven_at entry.drives) (flat_map (λ b. b.drives) (map attached entries)) once) (omega (arith, lt))

  pub all-can-attach : (entries : List BridgeEntry) → AreFitting circuit outs models entries → CanAttachEach one (map attached entries)
  all-can-attach entries fit =
      record {
        each = λ k any lt.
            let low : k < length entries = omega (arith, lt, length-map entries attached) in
            let entry = some-item entries k low in
            subst (CanAttach one) (sym (get_or-map attached entries k entry any low)) (can-attach (get_or entries k entry) (fit.each k entry low) (own-once entries k entry once low));
        once = once;
        apart = λ j k any less lt a b same.
            let second : k < length entries = omega (arith, lt, length-map entries attached) in
            let first : j < length entries = omega (arith, less, second) in
            let e = some-item entries k second in
            let is = ap (λ (x : Attached). x.front ++ a) (sym (get_or-map attached entries j e any first)) ∙ same ∙ ap (λ (x : Attached). x.front ++ b) (get_or-map attached entries k e any second) in
            let one-name = dot-front (get_or entries j e).name (get_or entries k e).name a b (are.plain (get_or entries j e).name (fit.each j e first).known) (are.plain (get_or entries k e).name (fit.each k e second).known) (ap (λ l. drop 7 l) is) in
            fit.names j k [] less (omega (arith, second, length-map entries (λ x. x.name)))
            (get_or-map (λ x. x.name) entries j e [] first ∙ one-name ∙ sym (get_or-map (λ x. x.name) entries k e [] second));
      }
    where
      once : AllPairs (λ a b. a ≢ b) (flat_map (λ b. b.drives) (map attached entries))
      once = subst (AllPairs (λ a b. a ≢ b)) (sym (all-driven entries)) (map-differ driven_at (flat_map (λ e. e.drives) entries) fit.drives (λ a b p q. ports.once a b (all-known entries fit.each a p) (all-known entries fit.each b q)))
