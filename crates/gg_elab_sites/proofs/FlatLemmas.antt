-- The signals and memories of the sites, with one more site.
use Rattle.std.proofs.Common.{◌≡◌, ℕ, ◌+◌, ◌<◌, List, [], ◌∷◌, ◌++◌, length, map, take, get_or, sym, ap, ◌∙◌, subst, append_assoc}
use Rattle.std.specs.Prelude.{flat_map}
use Rattle.std.proofs.lemmas.List.{map-append, take_more, append-nil}
use Rattle.std.proofs.lemmas.Grind.{flat_map-append}
use Rattle.std.proofs.lemmas.Simd.{map-map}
use Rattle.gg_bits.specs.declared.types.Ty.{Ty}
use Rattle.gg_bits.specs.Shape.{shape}
use Rattle.gg_ast.specs.Tree.{ModuleTree}
use Rattle.gg_flat_tree.specs.Tree.{joined}
use Rattle.gg_elab_sites.specs.Sites.{Site}
use Rattle.gg_elab_sites.specs.declared.digest.Digest.{Digest}
use Rattle.gg_elab_sites.specs.declared.digest.OwnMemory.{OwnMemory}
use Rattle.gg_elab_sites.specs.declared.own.OwnSignal.{OwnSignal}
use Rattle.gg_elab_sites.specs.declared.sites.Place.{Place}
use Rattle.gg_elab_sites.specs.declared.table.Table.{Table}
use Rattle.gg_elab_sites.specs.Flat.{FlatSignal, flat_signal, signals_at, flat_signals, FlatMemory, flat_memory, memories_at, flat_memories}
use Rattle.gg_elab_sites.specs.inside.Views.{table_signals, own_of, own_bank_of, site_of, IsDigest, AreDigests}
use Rattle.gg_elab_sites.specs.IsFlat.{signals_of, memory_paths}
use Rattle.gg_elab_sites.specs.Meaning.{Signals}
use Rattle.gg_elab_sites.specs.Signals.{Types}

-- the signals of a site are made from those that its module's digest keeps
pub signals-kept : (types : Types) (modules : List ModuleTree) (place : Place) (digest : Digest) → IsDigest types modules place.number digest → signals_at types modules (site_of place) ≡ map (λ o. flat_signal modules (site_of place) (own_of o)) digest.signals.items
signals-kept types modules place digest h =
    ap (map (flat_signal modules (site_of place))) (sym h.signals) ∙ map-map (flat_signal modules (site_of place)) own_of digest.signals.items

pub memories-kept : (types : Types) (modules : List ModuleTree) (place : Place) (digest : Digest) → IsDigest types modules place.number digest → memories_at modules (site_of place) ≡ map (λ m. flat_memory modules (site_of place) (own_bank_of m)) digest.memories.items
memories-kept types modules place digest h =
    ap (map (flat_memory modules (site_of place))) (sym h.memories) ∙ map-map (flat_memory modules (site_of place)) own_bank_of digest.memories.items

pub one_more : {B : Type 0} (f : Site → List B) (places : List Place) (i : ℕ) (p : Place) → i < length places → p ≡ get_or places i p → flat_map f (map site_of (take (i + 1) places)) ≡ flat_map f (map site_of (take i places)) ++ f (site_of p)
one_more f places i p lt is =
    ap (λ (l : List Place). flat_map f (map site_of l)) (take_more places i p lt ∙ ap (λ (x : Place). take i places ++ x ∷ []) (sym is))
    ∙ ap (flat_map f) (map-append site_of (take i places) (p ∷ []))
    ∙ flat_map-append f (map site_of (take i places)) (site_of p ∷ [])
    ∙ ap (λ l. flat_map f (map site_of (take i places)) ++ l) (append-nil (f (site_of p)))

-- the signals of the sites so far, with those of one more site
pub signals-more : (types : Types) (modules : List ModuleTree) (places : List Place) (i : ℕ) (p : Place) (digest : Digest) → i < length places → p ≡ get_or places i p → IsDigest types modules p.number digest → flat_signals types modules (map site_of (take (i + 1) places)) ≡ flat_signals types modules (map site_of (take i places)) ++ map (λ o. flat_signal modules (site_of p) (own_of o)) digest.signals.items
signals-more types modules places i p digest lt is h =
    one_more (signals_at types modules) places i p lt is
    ∙ ap (λ l. flat_signals types modules (map site_of (take i places)) ++ l) (signals-kept types modules p digest h)

pub memories-more : (types : Types) (modules : List ModuleTree) (places : List Place) (i : ℕ) (p : Place) (digest : Digest) → i < length places → p ≡ get_or places i p → IsDigest types modules p.number digest → flat_memories modules (map site_of (take (i + 1) places)) ≡ flat_memories modules (map site_of (take i places)) ++ map (λ m. flat_memory modules (site_of p) (own_bank_of m)) digest.memories.items
memories-more types modules places i p digest lt is h =
    one_more (memories_at modules) places i p lt is
    ∙ ap (λ l. flat_memories modules (map site_of (take i places)) ++ l) (memories-kept types modules p digest h)

-- the entry at a module's place is the module's digest
pub digest-at : (types : Types) (modules : List ModuleTree) (digests : List Digest) (k : ℕ) (d : Digest) → AreDigests types modules digests → k < length modules → d ≡ get_or digests k d → IsDigest types modules k d
digest-at types modules digests k d h lt is = subst (λ (x : Digest). IsDigest types modules k x) (sym is) (h.each k d lt)

-- ---- the table

pub table-more : (modules : List ModuleTree) (xs : List FlatSignal) (place : Place) (items : List OwnSignal) (old new : Table) → table_signals old ≡ signals_of xs → new.paths ≡ old.paths ++ map (λ s. joined place.path s.name) items → map (λ t. shape t) new.types.items ≡ map (λ t. shape t) old.types.items ++ map (λ s. shape s.ty) items → table_signals new ≡ signals_of (xs ++ map (λ o. flat_signal modules (site_of place) (own_of o)) items)
table-more modules xs place items old new h paths shapes =
    let f = λ (o : OwnSignal). flat_signal modules (site_of place) (own_of o) in
    let a : new.paths ≡ map (λ (x : FlatSignal). x.path) (xs ++ map f items) =
    paths ∙ ap (λ (s : Signals). s.paths ++ map (λ (o : OwnSignal). joined place.path o.name) items) h
    ∙ ap (λ l. map (λ (x : FlatSignal). x.path) xs ++ l) (sym (map-map (λ (x : FlatSignal). x.path) f items))
    ∙ sym (map-append (λ (x : FlatSignal). x.path) xs (map f items)) in
    let b : map (λ (t : Ty). shape t) new.types.items ≡ map (λ (x : FlatSignal). x.shape) (xs ++ map f items) =
    shapes ∙ ap (λ (s : Signals). s.shapes ++ map (λ (o : OwnSignal). shape o.ty) items) h
    ∙ ap (λ l. map (λ (x : FlatSignal). x.shape) xs ++ l) (sym (map-map (λ (x : FlatSignal). x.shape) f items))
    ∙ sym (map-append (λ (x : FlatSignal). x.shape) xs (map f items)) in
    λ i. record { paths = a i; shapes = b i }

pub memory_paths-more : (modules : List ModuleTree) (banks : List FlatMemory) (place : Place) (items : List OwnMemory) (old new : List (List ℕ)) → old ≡ memory_paths banks → new ≡ old ++ map (λ m. joined place.path m.name.now) items → new ≡ memory_paths (banks ++ map (λ m. flat_memory modules (site_of place) (own_bank_of m)) items)
memory_paths-more modules banks place items old new h more =
    let f = λ (m : OwnMemory). flat_memory modules (site_of place) (own_bank_of m) in
    more ∙ ap (λ (l : List (List ℕ)). l ++ map (λ (m : OwnMemory). joined place.path m.name.now) items) h
    ∙ ap (λ l. memory_paths banks ++ l) (sym (map-map (λ (x : FlatMemory). x.path) f items))
    ∙ sym (map-append (λ (x : FlatMemory). x.path) banks (map f items))

-- ---- one more signal of a site

pub seam : {A B : Type 0} (f : A → B) (xs : List B) (all : List A) (i : ℕ) (a : A) → i < length all → a ≡ get_or all i a → (xs ++ map f (take i all)) ++ f a ∷ [] ≡ xs ++ map f (take (i + 1) all)
seam f xs all i a lt is =
    append_assoc xs (map f (take i all)) (f a ∷ [])
    ∙ ap (λ l. xs ++ l) (sym (map-append f (take i all) (a ∷ [])))
    ∙ ap (λ l. xs ++ map f l) (ap (λ x. take i all ++ x ∷ []) is ∙ sym (take_more all i a lt))
