-- Entries of bridges without a fault fit.
use Rattle.std.proofs.Common.{◌≡◌, ◌≢◌, ℕ, zero, suc, ◌<◌, List, [], ◌∷◌, ◌++◌, length, map, get_or, Bool, true, false, true≢false, Option, Some, None, refl, sym, ◌∙◌, ap, subst, append_assoc, arith}
use Rattle.std.specs.Prelude.{flat_map, not, if◌then◌else◌, ◌||◌, ◌&&◌, AllPairs, Contains}
use Rattle.std.proofs.lemmas.List.{append-nil}
use Rattle.gg_flat.specs.Circuit.{FlatCircuit}
use Rattle.gg_cut_plan.specs.Models.{model_names}
use Rattle.gg_flat_tree.specs.Tree.{path_at}
use Rattle.gg_bits.proofs.PathLemmas.{found-path}
use Rattle.gg_partfile.specs.declared.request.BridgeEntry.{BridgeEntry}
use Rattle.gg_cut_plan.specs.declared.fault.CutFault.TheVariants.{UnknownBridge, WrongPort, UnfitBridge}
use Rattle.gg_cut_plan.specs.Listed.{is_among}
use Rattle.gg_cut_plan.specs.Channels.{channel_names}
use Rattle.gg_bits.specs.Lists.{first_of}
use Rattle.gg_cut_plan.specs.Bridges.{Models, unknown_bridge, wrong_port, model_named, fits_model, fit_ports, shapes_at, unfit_bridge, Before, none_before, before_next, own_faults, faults_after}
use Rattle.gg_cut_plan.proofs.PathLemmas.{among-contains}
use Rattle.gg_cut_plan.proofs.FindLemmas.{none-at, none-front, none-back, none-map}
use Rattle.gg_bridge.proofs.PairLemmas.{AllPairs-append}
use Rattle.gg_cut_reference.specs.inside.Fitting.{IsFitting, AreFitting}

-- ---- one name more

abbrev Differ : List (List ℕ) → Type 0
Differ paths = AllPairs (λ a b. a ≢ b) paths

single : (path : List ℕ) → Differ (path ∷ [])
single path i j d less lt same = absurd (omega (arith, less, lt))

one-of : (path other : List ℕ) → Contains (path ∷ []) other → path ≡ other
one-of path other (zero, lt, is) = is
one-of path other (suc k, lt, is) = absurd (omega (arith, lt))

pub push-differ : (earlier : List (List ℕ)) (path : List ℕ) → Differ earlier → is_among earlier path ≡ false → Differ (earlier ++ path ∷ [])
push-differ earlier path differ none =
    AllPairs-append (λ a b. a ≢ b) earlier (path ∷ []) differ (single path) (λ x y a b same.
    true≢false (sym (among-contains earlier path (subst (Contains earlier) (same ∙ sym (one-of path y b)) a)) ∙ none))

-- a fault that isn't there
record NotWrong (known earlier : List (List ℕ)) (path : List ℕ) : Type 0 where
  pub among : is_among known path ≡ true
  pub new : is_among earlier path ≡ false

not-wrong : (known earlier : List (List ℕ)) (path : List ℕ) → (not (is_among known path) || is_among earlier path) ≡ false → NotWrong known earlier path
not-wrong known earlier path e = by (is_among known path) refl (is_among earlier path) refl e
  where
    by : (a : Bool) → is_among known path ≡ a → (b : Bool) → is_among earlier path ≡ b → (not a || b) ≡ false → NotWrong known earlier path
    by true p false q e = record { among = p; new = q }
    by true p true q e = absurd (true≢false e)
    by false p b q e = absurd (true≢false e)

if-none : {A : Type 0} (b : Bool) (x : A) (rest : Option A) → (if b then Some x else rest) ≡ None → b ≡ false
if-none true x rest e = absurd (cc)
if-none false x rest e = refl

if-rest : {A : Type 0} (b : Bool) (x : A) (rest : Option A) → (if b then Some x else rest) ≡ None → rest ≡ None
if-rest true x rest e = absurd (cc)
if-rest false x rest e = e

-- ---- ports

pub ports-differ : (names earlier ports : List (List ℕ)) → Differ earlier → wrong_port names earlier ports ≡ None → Differ (earlier ++ ports)
ports-differ names earlier [] differ none = subst Differ (sym (append-nil earlier)) differ
ports-differ names earlier (port ∷ ports) differ none =
    let test = not (is_among names port) || is_among earlier port in
    let rest = wrong_port names (earlier ++ port ∷ []) ports in
    let new = not-wrong names earlier port (if-none test port rest none) in
    subst Differ (append_assoc earlier (port ∷ []) ports) (ports-differ names (earlier ++ port ∷ []) ports (push-differ earlier port differ new.new) (if-rest test port rest none))

pub ports-known : (names earlier ports : List (List ℕ)) → wrong_port names earlier ports ≡ None → (i : ℕ) → i < length ports → Contains names (path_at ports i)
ports-known names earlier [] none i lt = absurd (omega (arith, lt))
ports-known names earlier (port ∷ ports) none zero lt =
    found-path names port (not-wrong names earlier port (if-none (not (is_among names port) || is_among earlier port) port (wrong_port names (earlier ++ port ∷ []) ports) none)).among
ports-known names earlier (port ∷ ports) none (suc i) lt =
    ports-known names (earlier ++ port ∷ []) ports (if-rest (not (is_among names port) || is_among earlier port) port (wrong_port names (earlier ++ port ∷ []) ports) none) i (omega (arith, lt))

-- ---- entries

pub both-true : (a b : Bool) → (a && b) ≡ true → (a ≡ true) × (b ≡ true)
both-true true true e = (refl, refl)
both-true true false e = absurd (true≢false (sym e))
both-true false b e = absurd (true≢false (sym e))

module _ (circuit : FlatCircuit) (outs : List ℕ) (models : Models) where
  -- what an entry without a fault has
  record OwnFits (before : Before) (entry : BridgeEntry) : Type 0 where
    pub unknown : unknown_bridge (model_names models) before.names entry.name ≡ None
    pub sees : wrong_port (channel_names circuit outs) before.sees entry.sees ≡ None
    pub drives : wrong_port (channel_names circuit circuit.ins) before.drives entry.drives ≡ None
    pub unfit : unfit_bridge circuit models entry ≡ None

  own-fits : (before : Before) (entry : BridgeEntry) → first_of (own_faults circuit outs models before entry) ≡ None → OwnFits before entry
  own-fits before entry none =
      record {
        unknown = none-map UnknownBridge _ (none-at (own_faults circuit outs models before entry) 0 none);
        sees = none-map WrongPort _ (none-at (own_faults circuit outs models before entry) 1 none);
        drives = none-map WrongPort _ (none-at (own_faults circuit outs models before entry) 2 none);
        unfit = none-map UnfitBridge _ (none-at (own_faults circuit outs models before entry) 3 none);
      }

  entry-fits : (before : Before) (entry : BridgeEntry) → OwnFits before entry → IsFitting circuit outs models entry
  entry-fits before entry own = by (model_named models entry.name) refl
    where
      by : (found : Option FlatCircuit) → model_named models entry.name ≡ found → IsFitting circuit outs models entry
      by None e = absurd (true≢false (sym (if-fit (fits_model circuit entry (model_named models entry.name)) own.unfit) ∙ ap (fits_model circuit entry) e))
        where
          if-fit : (b : Bool) → (if b then None else Some entry.name) ≡ None → b ≡ true
          if-fit true e = refl
          if-fit false e = absurd (cc)
      by (Some model) e =
          let fit = both-true (fit_ports circuit entry.sees (shapes_at model model.ins)) (fit_ports circuit entry.drives (shapes_at model model.outs))
          (sym (ap (fits_model circuit entry) e) ∙ if-fit (fits_model circuit entry (model_named models entry.name)) own.unfit) in
          record {
            model = model;
            known = found-path (model_names models) entry.name (not-wrong (model_names models) before.names entry.name (if-none (not (is_among (model_names models) entry.name) || is_among before.names entry.name) entry.name None own.unknown)).among;
            named = e;
            seen = ports-known (channel_names circuit outs) before.sees entry.sees own.sees;
            driven = ports-known (channel_names circuit circuit.ins) before.drives entry.drives own.drives;
            seen_types = fit.0;
            driven_types = fit.1;
          }
        where
          if-fit : (b : Bool) → (if b then None else Some entry.name) ≡ None → b ≡ true
          if-fit true e = refl
          if-fit false e = absurd (cc)

  -- the entries of a list without a fault, after these
  record FitAfter (before : Before) (entries : List BridgeEntry) : Type 0 where
    pub each : (k : ℕ) (any : BridgeEntry) → k < length entries → IsFitting circuit outs models (get_or entries k any)
    pub names : Differ (before.names ++ map (λ entry. entry.name) entries)
    pub sees : Differ (before.sees ++ flat_map (λ entry. entry.sees) entries)
    pub drives : Differ (before.drives ++ flat_map (λ entry. entry.drives) entries)

  fit-after : (before : Before) (entries : List BridgeEntry) → Differ before.names → Differ before.sees → Differ before.drives → first_of (faults_after circuit outs models before entries) ≡ None → FitAfter before entries
  fit-after before [] names sees drives none =
      record {
        each = λ k any lt. absurd (omega (arith, lt));
        names = subst Differ (sym (append-nil before.names)) names;
        sees = subst Differ (sym (append-nil before.sees)) sees;
        drives = subst Differ (sym (append-nil before.drives)) drives;
      }
  fit-after before (entry ∷ entries) names sees drives none =
      let own = own-fits before entry (none-front (own_faults circuit outs models before entry) (faults_after circuit outs models (before_next before entry) entries) none) in
      let new = not-wrong (model_names models) before.names entry.name (if-none (not (is_among (model_names models) entry.name) || is_among before.names entry.name) entry.name None own.unknown) in
      let rest = fit-after (before_next before entry) entries (push-differ before.names entry.name names new.new)
      (ports-differ (channel_names circuit outs) before.sees entry.sees sees own.sees) (ports-differ (channel_names circuit circuit.ins) before.drives entry.drives drives own.drives)
      (none-back (own_faults circuit outs models before entry) (faults_after circuit outs models (before_next before entry) entries) none) in
      record {
        each = each rest (entry-fits before entry own);
        names = subst Differ (append_assoc before.names (entry.name ∷ []) (map (λ e. e.name) entries)) rest.names;
        sees = subst Differ (append_assoc before.sees entry.sees (flat_map (λ e. e.sees) entries)) rest.sees;
        drives = subst Differ (append_assoc before.drives entry.drives (flat_map (λ e. e.drives) entries)) rest.drives;
      }
    where
      each : FitAfter (before_next before entry) entries → IsFitting circuit outs models entry → (k : ℕ) (any : BridgeEntry) → k < length (entry ∷ entries) → IsFitting circuit outs models (get_or (entry ∷ entries) k any)
      each rest first zero any lt = first
      each rest first (suc k) any lt = rest.each k any (omega (arith, lt))

  none-yet : Differ []
  none-yet i j d less lt same = absurd (omega (arith, lt))

  pub all-fit : (entries : List BridgeEntry) → first_of (faults_after circuit outs models none_before entries) ≡ None → AreFitting circuit outs models entries
  all-fit entries none =
      let fit = fit-after none_before entries none-yet none-yet none-yet none in
      record { each = fit.each; names = fit.names; sees = fit.sees; drives = fit.drives }
