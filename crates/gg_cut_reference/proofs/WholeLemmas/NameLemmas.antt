-- A port is found by its name in the circuit with the bridges before, as it is in the circuit without them.
use Rattle.std.proofs.Common.{◌≡◌, ◌≢◌, ℕ, ◌<◌, List, [], ◌∷◌, ◌++◌, Bool, true, false, true≢false, length, map, get_or, Some, refl, sym, ◌∙◌, ap, ap₂, subst, inl, inr, ◌⊎◌, arith}
use Rattle.std.specs.Prelude.{AllPairs, Contains, codes, ◌||◌, if◌then◌else◌, bytes_eq}
use Rattle.std.proofs.lemmas.List.{get_or_append_left, length-append}
use Rattle.std.proofs.lemmas.List.Elements.{Contains-append_left, Contains-append_right, Contains-get_or}
use Rattle.std.proofs.lemmas.List.Folds.{list_any_at}
use Rattle.std.proofs.lemmas.Option.{slice_get-get_or}
use Rattle.std.proofs.lemmas.Slice.Eq.{bytes_eq-Decides}
use Rattle.gg_flat.specs.Circuit.{FlatCircuit}
use Rattle.gg_flat_tree.specs.Tree.{path_at}
use Rattle.gg_flat.proofs.ListLemmas.{here, further, Contains-cases}
use Rattle.gg_partfile.specs.declared.request.BridgeEntry.{BridgeEntry}
use Rattle.gg_partfile.specs.Size.{all_driven, all_seen}
use Rattle.gg_bridge.specs.inside.All.{Attached, with_bridge, joined_all, CanAttachAll}
use Rattle.gg_bridge.specs.inside.Joined.{CanJoin}
use Rattle.gg_bridge.specs.Joined.{joined, without}
use Rattle.gg_bridge.proofs.NumberLemmas.{left-in, left-is}
use Rattle.gg_bridge.specs.inside.Ports.{CanStand, IsAmong}
use Rattle.gg_bridge.specs.Ports.{front_of, is_path_of, is_called, first_called, seen_at, driven_at, joined_at}
use Rattle.gg_cut_plan.specs.Bridges.{Models, model_of}
use Rattle.gg_cut_reference.specs.inside.Fitting.{attached_of}
use Rattle.gg_cut_reference.proofs.FittingLemmas.PortLemmas.{apart-once, back-once}
use Rattle.gg_cut_reference.specs.inside.Whole.{CanStandAll}
use Rattle.gg_cut_reference.specs.whole.Whole.{with_bridges}

-- ---- the first that is called so

-- Signal s is among these, is called so, and is the only one among them.
pub record IsOnly (circuit : FlatCircuit) (signals : List ℕ) (name : List ℕ) (s : ℕ) : Type 0 where
  pub there : Contains signals s
  pub called : is_called circuit name s ≡ true
  pub only : (t : ℕ) → Contains signals t → is_called circuit name t ≡ true → t ≡ s

first-is : (circuit : FlatCircuit) (name : List ℕ) (signals : List ℕ) (s : ℕ) → Contains signals s → is_called circuit name s ≡ true → ((t : ℕ) → Contains signals t → is_called circuit name t ≡ true → t ≡ s) → first_called circuit name signals ≡ s
first-is circuit name [] s there called only = absurd (omega (arith, there.1))
first-is circuit name (t ∷ signals) s there called only = by (is_called circuit name t) refl (λ rest. first-is circuit name signals s rest called (λ x h is. only x (further t signals x h) is))
  where
    by : (b : Bool) → is_called circuit name t ≡ b → (Contains signals s → first_called circuit name signals ≡ s) → (if b then t else first_called circuit name signals) ≡ s
    by true e more = only t (here t signals) e
    by false e more = at (Contains-cases t s signals there)
      where
        at : (t ≡ s) ⊎ Contains signals s → first_called circuit name signals ≡ s
        at (inl same) = absurd (true≢false (sym called ∙ ap (is_called circuit name) (sym same) ∙ e))
        at (inr rest) = more rest

pub only-first : (circuit : FlatCircuit) (signals : List ℕ) (name : List ℕ) (s : ℕ) → IsOnly circuit signals name s → first_called circuit name signals ≡ s
only-first circuit signals name s is = first-is circuit name signals s is.there is.called is.only

only-among : (circuit : FlatCircuit) (signals : List ℕ) (name : List ℕ) (s : ℕ) → IsOnly circuit signals name s → IsAmong circuit signals name
only-among circuit signals name s is =
    list_any_at (is_called circuit name) signals is.there.0 s is.there.1 (ap (is_called circuit name) is.there.2 ∙ is.called)

-- ---- what it is to be called so

-- a signal's path is its name or that of its pipe
pub record HasPath (circuit : FlatCircuit) (name : List ℕ) (s : ℕ) : Type 0 where
  pub is : (path_at circuit.paths s ≡ name) ⊎ (path_at circuit.paths s ≡ codes "pipe:" ++ name)

pub called-has : (circuit : FlatCircuit) (name : List ℕ) (s : ℕ) → s < length circuit.paths → is_called circuit name s ≡ true → HasPath circuit name s
called-has circuit name s lt e = by (bytes_eq (path_at circuit.paths s) name) refl (sym (ap (is_path_of name) (slice_get-get_or circuit.paths s [] lt)) ∙ e)
  where
    by : (b : Bool) → bytes_eq (path_at circuit.paths s) name ≡ b → (bytes_eq (path_at circuit.paths s) name || bytes_eq (path_at circuit.paths s) (codes "pipe:" ++ name)) ≡ true → HasPath circuit name s
    by true t e = record { is = inl ((bytes_eq-Decides (path_at circuit.paths s) name).0 t) }
    by false t e = record { is = inr ((bytes_eq-Decides (path_at circuit.paths s) (codes "pipe:" ++ name)).0 (sym (ap (λ (b : Bool). b || bytes_eq (path_at circuit.paths s) (codes "pipe:" ++ name)) t) ∙ e)) }

pub has-called : (circuit : FlatCircuit) (name : List ℕ) (s : ℕ) → s < length circuit.paths → HasPath circuit name s → is_called circuit name s ≡ true
has-called circuit name s lt has = ap (is_path_of name) (slice_get-get_or circuit.paths s [] lt) ∙ by has.is
  where
    or-true : (b : Bool) → (b || true) ≡ true
    or-true true = refl
    or-true false = refl

    by : (path_at circuit.paths s ≡ name) ⊎ (path_at circuit.paths s ≡ codes "pipe:" ++ name) → (bytes_eq (path_at circuit.paths s) name || bytes_eq (path_at circuit.paths s) (codes "pipe:" ++ name)) ≡ true
    by (inl own) = ap (λ (b : Bool). b || bytes_eq (path_at circuit.paths s) (codes "pipe:" ++ name)) ((bytes_eq-Decides (path_at circuit.paths s) name).1 own)
    by (inr pipe) = ap (λ (b : Bool). bytes_eq (path_at circuit.paths s) name || b) ((bytes_eq-Decides (path_at circuit.paths s) (codes "pipe:" ++ name)).1 pipe) ∙ or-true (bytes_eq (path_at circuit.paths s) name)

-- ---- one bridge more

module _ (one : FlatCircuit) (front : List ℕ) (model : FlatCircuit) (sees drives : List ℕ) where
  abbrev all : FlatCircuit
  all = joined one front model sees drives

  pub called-old : (name : List ℕ) (s : ℕ) → s < length one.paths → is_called (joined one front model sees drives) name s ≡ is_called one name s
  called-old name s lt =
      ap (is_path_of name)
      (slice_get-get_or all.paths s [] (omega (arith, lt, length-append one.paths (map (λ path. front ++ path) model.paths)))
      ∙ ap Some (get_or_append_left one.paths (map (λ path. front ++ path) model.paths) [] s lt)
      ∙ sym (slice_get-get_or one.paths s [] lt))

  pub only-joined : (signals gone : List ℕ) (name : List ℕ) (s : ℕ) → ((t : ℕ) → Contains signals t → t < length one.paths) → (Contains gone s → ⊥) → IsOnly one signals name s → IsOnly (joined one front model sees drives) (without gone signals) name s
  only-joined signals gone name s low stays is =
      record {
        there = left-in gone signals s is.there stays;
        called = called-old name s (low s is.there) ∙ is.called;
        only = λ t h called.
            let among = (left-is gone signals t h).among in
            is.only t among (sym (called-old name t (low t among)) ∙ called);
      }

-- ---- all bridges

-- In this circuit the ports of the entries have these signals, and no two have the same.
pub record ArePorts (one : FlatCircuit) (seen driven : List ℕ → ℕ) (entries : List BridgeEntry) : Type 0 where
  pub outs : (name : List ℕ) → Contains (all_seen entries) name → IsOnly one one.outs name (seen name)
  pub ins : (name : List ℕ) → Contains (all_driven entries) name → IsOnly one one.ins name (driven name)
  pub low_outs : (s : ℕ) → Contains one.outs s → s < length one.paths
  pub low_ins : (s : ℕ) → Contains one.ins s → s < length one.paths
  pub sees : AllPairs (λ a b. a ≢ b) (all_seen entries)
  pub drives : AllPairs (λ a b. a ≢ b) (all_driven entries)
  pub seen_apart : (a b : List ℕ) → Contains (all_seen entries) a → Contains (all_seen entries) b → seen a ≡ seen b → a ≡ b
  pub driven_apart : (a b : List ℕ) → Contains (all_driven entries) a → Contains (all_driven entries) b → driven a ≡ driven b → a ≡ b

-- a name of a list's images
pub record IsImage (f : List ℕ → ℕ) (names : List (List ℕ)) (s : ℕ) : Type 0 where
  pub name : List ℕ
  pub among : Contains names name
  pub is : f name ≡ s

pub image-of : (f : List ℕ → ℕ) (names : List (List ℕ)) (s : ℕ) → Contains (map f names) s → IsImage f names s
image-of f [] s h = absurd (omega (arith, h.1))
image-of f (name ∷ names) s h = by (Contains-cases (f name) s (map f names) h) (λ rest. image-of f names s rest)
  where
    by : (f name ≡ s) ⊎ Contains (map f names) s → (Contains (map f names) s → IsImage f names s) → IsImage f (name ∷ names) s
    by (inl same) next = record { name = name; among = here name names; is = same }
    by (inr rest) next = let more = next rest in record { name = more.name; among = further name names more.name more.among; is = more.is }

map-at : {B : Type 0} (f g : List ℕ → B) (names : List (List ℕ)) → ((name : List ℕ) → Contains names name → f name ≡ g name) → map f names ≡ map g names
map-at f g [] same = refl
map-at f g (name ∷ names) same = ap₂ (λ x xs. x ∷ xs) (same name (here name names)) (map-at f g names (λ n h. same n (further name names n h)))

module _ (seen driven : List ℕ → ℕ) (models : Models) where
  abbrev box : BridgeEntry → Attached
  box entry = attached_of seen driven models entry

  module _ (one : FlatCircuit) (entry : BridgeEntry) (entries : List BridgeEntry) (ports : ArePorts one seen driven (entry ∷ entries)) where
    sees-same : seen_at one entry.sees ≡ map seen entry.sees
    sees-same = map-at (λ name. first_called one name one.outs) seen entry.sees (λ name h. only-first one one.outs name (seen name) (ports.outs name (Contains-append_left entry.sees (all_seen entries) name h)))

    drives-same : driven_at one entry.drives ≡ map driven entry.drives
    drives-same = map-at (λ name. first_called one name one.ins) driven entry.drives (λ name h. only-first one one.ins name (driven name) (ports.ins name (Contains-append_left entry.drives (all_driven entries) name h)))

    same-circuit : joined_at one entry.name (model_of models entry) entry.sees entry.drives ≡ with_bridge one (box entry)
    same-circuit = ap₂ (λ (s d : List ℕ). joined one (front_of entry.name) (model_of models entry) s d) sees-same drives-same

    outs-stay : (name : List ℕ) → Contains (all_seen entries) name → Contains (map seen entry.sees) (seen name) → ⊥
    outs-stay name h gone =
        let image = image-of seen entry.sees (seen name) gone in
        let same = ports.seen_apart image.name name (Contains-append_left entry.sees (all_seen entries) image.name image.among) (Contains-append_right entry.sees (all_seen entries) name h) image.is in
        apart-once entry.sees (all_seen entries) name ports.sees (subst (Contains entry.sees) same image.among) h

    ins-stay : (name : List ℕ) → Contains (all_driven entries) name → Contains (map driven entry.drives) (driven name) → ⊥
    ins-stay name h gone =
        let image = image-of driven entry.drives (driven name) gone in
        let same = ports.driven_apart image.name name (Contains-append_left entry.drives (all_driven entries) image.name image.among) (Contains-append_right entry.drives (all_driven entries) name h) image.is in
        apart-once entry.drives (all_driven entries) name ports.drives (subst (Contains entry.drives) same image.among) h

    longer : (s : ℕ) → s < length one.paths → s < length (with_bridge one (box entry)).paths
    longer s lt = omega (arith, lt, length-append one.paths (map (λ path. (box entry).front ++ path) (box entry).model.paths))

    ports-next : ArePorts (with_bridge one (box entry)) seen driven entries
    ports-next =
        record {
          outs = λ name h. only-joined one (box entry).front (box entry).model (map seen entry.sees) (map driven entry.drives) one.outs (map seen entry.sees) name (seen name) ports.low_outs (outs-stay name h) (ports.outs name (Contains-append_right entry.sees (all_seen entries) name h));
          ins = λ name h. only-joined one (box entry).front (box entry).model (map seen entry.sees) (map driven entry.drives) one.ins (map driven entry.drives) name (driven name) ports.low_ins (ins-stay name h) (ports.ins name (Contains-append_right entry.drives (all_driven entries) name h));
          low_outs = λ s h. longer s (ports.low_outs s (left-is (map seen entry.sees) one.outs s h).among);
          low_ins = λ s h. longer s (ports.low_ins s (left-is (map driven entry.drives) one.ins s h).among);
          sees = back-once entry.sees (all_seen entries) ports.sees;
          drives = back-once entry.drives (all_driven entries) ports.drives;
          seen_apart = λ a b ha hb. ports.seen_apart a b (Contains-append_right entry.sees (all_seen entries) a ha) (Contains-append_right entry.sees (all_seen entries) b hb);
          driven_apart = λ a b ha hb. ports.driven_apart a b (Contains-append_right entry.drives (all_driven entries) a ha) (Contains-append_right entry.drives (all_driven entries) b hb);
        }

    stand-first : CanJoin one (front_of entry.name) (model_of models entry) (map seen entry.sees) (map driven entry.drives) → CanStand one entry.name (model_of models entry) entry.sees entry.drives
    stand-first can =
        record {
          outputs = λ i d lt.
              let name = get_or entry.sees i d in
              only-among one one.outs name (seen name) (ports.outs name (Contains-append_left entry.sees (all_seen entries) name (Contains-get_or entry.sees i d lt)));
          inputs = λ i d lt.
              let name = get_or entry.drives i d in
              only-among one one.ins name (driven name) (ports.ins name (Contains-append_left entry.drives (all_driven entries) name (Contains-get_or entry.drives i d lt)));
          can = subst (λ (s : List ℕ). CanJoin one (front_of entry.name) (model_of models entry) s (driven_at one entry.drives)) (sym sees-same) (subst (λ (d : List ℕ). CanJoin one (front_of entry.name) (model_of models entry) (map seen entry.sees) d) (sym drives-same) can);
        }

  -- the circuit with the bridges at their names is the one with the bridges at their signals
  pub with-joined : (one : FlatCircuit) (entries : List BridgeEntry) → ArePorts one seen driven entries → with_bridges models one entries ≡ joined_all one (map (attached_of seen driven models) entries)
  with-joined one [] ports = refl
  with-joined one (entry ∷ entries) ports =
      ap (λ (c : FlatCircuit). with_bridges models c entries) (same-circuit one entry entries ports)
      ∙ with-joined (with_bridge one (box entry)) entries (ports-next one entry entries ports)

  pub stand-all : (one : FlatCircuit) (entries : List BridgeEntry) → ArePorts one seen driven entries → CanAttachAll one (map (attached_of seen driven models) entries) → CanStandAll models one entries
  stand-all one [] ports can = tt
  stand-all one (entry ∷ entries) ports can = (
    stand-first one entry entries ports can.0.can,
    subst (λ (c : FlatCircuit). CanStandAll models c entries) (sym (same-circuit one entry entries ports)) (stand-all (with_bridge one (box entry)) entries (ports-next one entry entries ports) can.1),
  )
