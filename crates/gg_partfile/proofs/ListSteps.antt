-- Lists that are read item by item.
use Rattle.std.proofs.Common.{◌≡◌, ℕ, ◌+◌, ◌<◌, List, [], ◌∷◌, ◌++◌, length, get_or, map, drop, Option, Some, None, Global, Bor, bytes_eq, ◌||◌, refl, sym, ap, ◌∙◌, append_assoc, arith}
use Rattle.std.specs.Prelude.{String, string_bytes, option_map, option_and_then}
use Rattle.std.specs.List.{list_any}
use Rattle.std.proofs.lemmas.List.{drop_more, length-map, get_or-map}
use Rattle.serde_json.specs.Data.{Data}
use Rattle.serde_json.specs.View.{items_of, view, items_view, members_view}
use Rattle.serde_json.specs.declared.value.Value.{Value}
use Rattle.gg_partfile.specs.Shapes.{each, two, is_one_of, each_member}

-- a list after another, if there is one
abbrev pub behind : {A : Type 0} → List A → Option (List A) → Option (List A)
behind found rest = option_map (λ more. found ++ more) rest

pub behind-more : {A : Type 0} (found : List A) (a : A) (rest : Option (List A)) → behind found (option_map (λ more. a ∷ more) rest) ≡ behind (found ++ a ∷ []) rest
behind-more found a None = refl
behind-more found a (Some more) = ap Some (sym (append_assoc found (a ∷ []) more))

-- ---- the items of a list

-- what was read of the first i items, and then what f reads of the others, is what f reads of all
pub record ReadsItems {A : Type 0} (f : Data → Option A) (ds : List Data) (i : ℕ) (found : List A) : Type 0 where
  pub reads : behind found (each f (items_of (drop i ds))) ≡ each f (items_of ds)

-- what f reads of the items from i on begins with what it reads of the one at i
items-at : {A : Type 0} (f : Data → Option A) (ds : List Data) (i : ℕ) (d : Data) (o : Option A) → i < length ds → d ≡ get_or ds i d → f d ≡ o → each f (items_of (drop i ds)) ≡ option_and_then (λ a. option_map (λ more. a ∷ more) (each f (items_of (drop (i + 1) ds)))) o
items-at f ds i d o lt is reads =
    ap (λ (l : List Data). each f (items_of l)) (drop_more ds i d lt ∙ ap (λ (e : Data). e ∷ drop (i + 1) ds) (sym is))
    ∙ ap (option_and_then (λ a. option_map (λ more. a ∷ more) (each f (items_of (drop (i + 1) ds))))) reads

pub items-more : {A : Type 0} (f : Data → Option A) (ds : List Data) (i : ℕ) (d : Data) (a : A) (found : List A) → i < length ds → d ≡ get_or ds i d → f d ≡ Some a → ReadsItems f ds i found → ReadsItems f ds (i + 1) (found ++ a ∷ [])
items-more f ds i d a found lt is reads h = record {
  reads = sym (behind-more found a (each f (items_of (drop (i + 1) ds)))) ∙ sym (ap (behind found) (items-at f ds i d (Some a) lt is reads)) ∙ h.reads;
}

pub items-stop : {A : Type 0} (f : Data → Option A) (ds : List Data) (i : ℕ) (d : Data) (found : List A) → i < length ds → d ≡ get_or ds i d → f d ≡ None → ReadsItems f ds i found → each f (items_of ds) ≡ None
items-stop f ds i d found lt is reads h = sym h.reads ∙ ap (behind found) (items-at f ds i d None lt is reads)

-- ---- the items of a list of values

pub values-more : {A : Type 0} (f : Data → Option A) (values : List Value) (i : ℕ) (value : Value) (a : A) (found : List A) → i < length values → value ≡ get_or values i value → f (view value) ≡ Some a → ReadsItems f (map view values) i found → ReadsItems f (map view values) (i + 1) (found ++ a ∷ [])
values-more f values i value a found lt is reads h =
    items-more f (map view values) i (view value) a found (omega (arith, lt, length-map values view)) (ap view is ∙ sym (get_or-map view values i value (view value) lt)) reads h

pub values-stop : {A : Type 0} (f : Data → Option A) (values : List Value) (i : ℕ) (value : Value) (found : List A) → i < length values → value ≡ get_or values i value → f (view value) ≡ None → ReadsItems f (map view values) i found → each f (items_of (map view values)) ≡ None
values-stop f values i value found lt is reads h =
    items-stop f (map view values) i (view value) found (omega (arith, lt, length-map values view)) (ap view is ∙ sym (get_or-map view values i value (view value) lt)) reads h

-- a list that doesn't have two items is no ratio
pub not-two : (values : List Value) → (length values ≡ 2 → ⊥) → two (items_view values) ≡ None
not-two [] differ = refl
not-two (a ∷ []) differ = refl
not-two (a ∷ b ∷ []) differ = absurd (differ refl)
not-two (a ∷ b ∷ c ∷ rest) differ = refl

-- ---- the members of an object

-- a name is one of the texts of a table
pub one-of-texts : (texts : List (Bor (List ℕ))) (k : List ℕ) → list_any (λ a. bytes_eq a.now k) texts ≡ is_one_of (map (λ n. n.now) texts) k
one-of-texts [] k = refl
one-of-texts (a ∷ rest) k = ap (λ b. bytes_eq a.now k || b) (one-of-texts rest k)

pub member-more : {A : Type 0} (f : Data → Option A) (entries rest : List (String Global × Value)) (key : String Global) (value : Value) (a : A) (found : List (List ℕ × A)) (all : Option (List (List ℕ × A))) → entries ≡ (key, value) ∷ rest → f (view value) ≡ Some a → behind found (each_member f (members_view entries)) ≡ all → behind (found ++ (string_bytes key, a) ∷ []) (each_member f (members_view rest)) ≡ all
member-more f entries rest key value a found all splits is reads =
    let at : each_member f (members_view entries) ≡ option_map (λ more. (string_bytes key, a) ∷ more) (each_member f (members_view rest)) =
    ap (λ (l : List (String Global × Value)). each_member f (members_view l)) splits
    ∙ ap (option_and_then (λ m. option_map (λ more. (string_bytes key, m) ∷ more) (each_member f (members_view rest)))) is in
    sym (behind-more found (string_bytes key, a) (each_member f (members_view rest))) ∙ ap (behind found) (sym at) ∙ reads
