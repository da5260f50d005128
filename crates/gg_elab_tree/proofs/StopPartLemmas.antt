-- The stops of a tree, and what its registers follow, while the tree is made.
use Rattle.std.proofs.Common.{◌≡◌, ℕ, ◌+◌, ◌<◌, List, [], ◌∷◌, ◌++◌, Option, Some, None, length, take, get_or, map, refl, sym, ap, ◌∙◌, subst, append_assoc}
use Rattle.std.specs.Prelude.{filter_map, flat_map, Contains, All}
use Rattle.std.proofs.lemmas.Grind.{flat_map-append}
use Rattle.std.proofs.lemmas.List.{take_more, append-nil}
use Rattle.std.proofs.lemmas.List.Elements.{Contains-append_right, Contains-get_or}
use Rattle.std.proofs.lemmas.Simd.{map-map}
use Rattle.gg_ast.specs.declared.statement.Stmt.{Stmt}
use Rattle.gg_ast.specs.Tree.{ModuleTree, CircuitTree}
use Rattle.gg_flat_tree.specs.declared.tree.StopInstance.{StopInstance}
use Rattle.gg_flat_tree.specs.Tree.{joined}
use Rattle.gg_flat.proofs.ListLemmas.{Contains-map}
use Rattle.gg_elab_sites.specs.Sites.{Outer, Site, module_at, sites_of}
use Rattle.gg_elab_sites.specs.declared.digest.Digest.{Digest}
use Rattle.gg_elab_sites.specs.declared.own.OwnSignal.{OwnSignal}
use Rattle.gg_elab_sites.specs.declared.sites.Place.{Place}
use Rattle.gg_elab_sites.specs.declared.stops.OwnStop.{OwnStop}
use Rattle.gg_elab_sites.specs.Flat.{FlatSignal, drive_of, flat_signal, input_drive, flat_signals, signals_at}
use Rattle.gg_elab_sites.specs.Known.{types_of}
use Rattle.gg_elab_sites.specs.Signals as written
use Rattle.gg_elab_sites.specs.Signals.{Cause, FromOutside, Connected, Expressed, Kept, Answered, own_of_port, own_of_kind, own_stops, stop_signal, statement_signals}
use Rattle.gg_elab_sites.specs.inside.Views.{IsDigest, cause_of, own_of, own_stop_of, site_of}
use Rattle.gg_elab_sites.proofs.AmongLemmas.{in-flat_map}
use Rattle.gg_elab_sites.proofs.FlatLemmas.{one_more, signals-more}
use Rattle.gg_elab_tree.specs.IsTreeOf.{IsAt, clock_held, clocks_held, held_stop, held_stops, site_paths, signal_paths}
use Rattle.gg_elab_tree.specs.inside.TreeParts.{IsAskedFor, IsStopPart, clock_kept, stop_at_place}
use Rattle.gg_elab_tree.proofs.OwnLemmas.{own_in}

-- one more list at the end
pub flat-seam : {A B : Type 0} (f : A → List B) (xs : List B) (all : List A) (i : ℕ) (a : A) → i < length all → a ≡ get_or all i a → (xs ++ flat_map f (take i all)) ++ f a ≡ xs ++ flat_map f (take (i + 1) all)
flat-seam f xs all i a lt is =
    append_assoc xs (flat_map f (take i all)) (f a)
    ∙ ap (λ l. xs ++ (flat_map f (take i all) ++ l)) (sym (append-nil (f a)))
    ∙ ap (λ l. xs ++ l) (sym (flat_map-append f (take i all) (a ∷ [])))
    ∙ ap (λ l. xs ++ flat_map f l) (ap (λ x. take i all ++ x ∷ []) is ∙ sym (take_more all i a lt))

flat_map-map : {A B C : Type 0} (f : B → List C) (g : A → B) (xs : List A) → flat_map f (map g xs) ≡ flat_map (λ x. f (g x)) xs
flat_map-map f g [] = refl
flat_map-map f g (x ∷ xs) = ap (λ l. f (g x) ++ l) (flat_map-map f g xs)

-- ---- registers

input-holds : (modules : List ModuleTree) (outer : Option Outer) (name : List ℕ) → clock_held (input_drive modules outer name) ≡ []
input-holds modules None name = refl
input-holds modules (Some outer) name = refl

-- of a signal it is what its cause says
pub held-kept : (modules : List ModuleTree) (site : Site) (name : List ℕ) (cause : Cause) → clock_held (drive_of modules site name cause) ≡ clock_kept (module_at modules site.number) cause
held-kept modules site name FromOutside = input-holds modules site.outer name
held-kept modules site name Connected = refl
held-kept modules site name (Expressed value) = refl
held-kept modules site name (Kept clock reset) = refl
held-kept modules site name (Answered memory port place latency) = refl

site-clocks : (modules : List ModuleTree) (place : Place) (items : List OwnSignal) → clocks_held (map (λ (o : OwnSignal). flat_signal modules (site_of place) (own_of o)) items) ≡ flat_map (λ (s : OwnSignal). clock_kept (module_at modules place.number) (cause_of s.origin)) items
site-clocks modules place [] = refl
site-clocks modules place (s ∷ ss) =
    ap (λ l. l ++ clocks_held (map (λ (o : OwnSignal). flat_signal modules (site_of place) (own_of o)) ss)) (held-kept modules (site_of place) s.name (cause_of s.origin))
    ∙ ap (λ l. clock_kept (module_at modules place.number) (cause_of s.origin) ++ l) (site-clocks modules place ss)

-- what the registers of the sites up to the next one follow
pub held-clocks-more : (circuit : CircuitTree) (places : List Place) (i : ℕ) (p : Place) (digest : Digest) → i < length places → p ≡ get_or places i p → IsDigest (types_of circuit) circuit.modules p.number digest
    → clocks_held (flat_signals (types_of circuit) circuit.modules (map site_of (take i places))) ++ flat_map (λ (s : OwnSignal). clock_kept (module_at circuit.modules p.number) (cause_of s.origin)) digest.signals.items ≡ clocks_held (flat_signals (types_of circuit) circuit.modules (map site_of (take (i + 1) places)))
held-clocks-more circuit places i p digest lt is d =
    ap (λ l. clocks_held (flat_signals (types_of circuit) circuit.modules (map site_of (take i places))) ++ l) (sym (site-clocks circuit.modules p digest.signals.items))
    ∙ sym (flat_map-append (λ (s : FlatSignal). clock_held s.drive) (flat_signals (types_of circuit) circuit.modules (map site_of (take i places))) (map (λ (o : OwnSignal). flat_signal circuit.modules (site_of p) (own_of o)) digest.signals.items))
    ∙ ap clocks_held (sym (signals-more (types_of circuit) circuit.modules places i p digest lt is d))

-- ---- stops

pub stop-is-for : (circuit : CircuitTree) (paths signals : List (List ℕ)) (place : Place) (own : OwnStop) (made : StopInstance) → paths ≡ site_paths circuit → signals ≡ signal_paths circuit → IsStopPart paths signals (module_at circuit.modules place.number) place.path own made → IsAskedFor circuit (stop_at_place place own) made
stop-is-for circuit paths signals place own made p q h = record {
  holder = subst (λ l. IsAt l place.path made.instance) p h.holder;
  signal = subst (λ l. IsAt l (joined place.path own.name) made.signal) q h.signal;
  clock = h.clock_is;
}

-- the stops of the sites up to the next one
pub asked-more : (circuit : CircuitTree) (places : List Place) (i : ℕ) (p : Place) (digest : Digest) → i < length places → p ≡ get_or places i p → IsDigest (types_of circuit) circuit.modules p.number digest → flat_map (held_stops circuit.modules) (map site_of (take i places)) ++ map (stop_at_place p) digest.stops.items ≡ flat_map (held_stops circuit.modules) (map site_of (take (i + 1) places))
asked-more circuit places i p digest lt is d =
    ap (λ l. flat_map (held_stops circuit.modules) (map site_of (take i places)) ++ l) (sym (map-map (held_stop (site_of p)) own_stop_of digest.stops.items) ∙ ap (map (held_stop (site_of p))) d.stops)
    ∙ sym (one_more (held_stops circuit.modules) places i p lt is)

-- a stop's signal is one of its site's own
pub stop-own : (circuit : CircuitTree) (x : Site) (stop : written.OwnStop) → Contains (own_stops (module_at circuit.modules x.number).statements) stop → Contains (own_in circuit x) (stop_signal stop)
stop-own circuit x stop c =
    Contains-append_right (filter_map own_of_port (module_at circuit.modules x.number).ports) (statement_signals (types_of circuit) x.number (module_at circuit.modules x.number).statements) (stop_signal stop)
    (Contains-append_right (flat_map (λ (s : Stmt). own_of_kind (types_of circuit) x.number s.kind) (module_at circuit.modules x.number).statements) (map stop_signal (own_stops (module_at circuit.modules x.number).statements)) (stop_signal stop)
    (Contains-map stop_signal (own_stops (module_at circuit.modules x.number).statements) stop c))

-- and so is its path among the circuit's
pub stop-there : (circuit : CircuitTree) (x : Site) (stop : written.OwnStop) → Contains (sites_of circuit) x → Contains (own_stops (module_at circuit.modules x.number).statements) stop → Contains (signal_paths circuit) (joined x.path stop.name)
stop-there circuit x stop c k =
    Contains-map (λ (y : FlatSignal). y.path) (flat_signals (types_of circuit) circuit.modules (sites_of circuit)) (flat_signal circuit.modules x (stop_signal stop))
    (in-flat_map (signals_at (types_of circuit) circuit.modules) (sites_of circuit) x (flat_signal circuit.modules x (stop_signal stop)) c (Contains-map (flat_signal circuit.modules x) (own_in circuit x) (stop_signal stop) (stop-own circuit x stop k)))

pub stops-there : (circuit : CircuitTree) (place : Place) (digest : Digest) → IsDigest (types_of circuit) circuit.modules place.number digest → Contains (sites_of circuit) (site_of place) → (stops : List OwnStop) → stops ≡ digest.stops.items → All (λ (own : OwnStop). Contains (signal_paths circuit) (joined place.path own.name)) stops
stops-there circuit place digest d there stops same i any lt =
    let c : Contains stops (get_or stops i any) = Contains-get_or stops i any lt in
    stop-there circuit (site_of place) (own_stop_of (get_or stops i any)) there
    (subst (λ l. Contains l (own_stop_of (get_or stops i any))) (ap (map own_stop_of) same ∙ d.stops) (Contains-map own_stop_of stops (get_or stops i any) c))
