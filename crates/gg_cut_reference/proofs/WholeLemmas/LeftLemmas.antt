-- What is left of a list without some of its items, by tests.
use Rattle.std.proofs.Common.{◌≡◌, ℕ, List, [], ◌∷◌, ◌++◌, Bool, true, false, map, refl, sym, ◌∙◌, ap, ap₂}
use Rattle.std.specs.Prelude.{Contains, cond, filter, flat_map, not, ◌&&◌, ◌||◌, ◌==◌}
use Rattle.std.specs.List.{list_any}
use Rattle.std.proofs.lemmas.List.{map-append}
use Rattle.std.proofs.lemmas.List.Folds.{list_any-append}
use Rattle.gg_flat.specs.Circuit.{FlatCircuit}
use Rattle.gg_flat.proofs.ListLemmas.{here, further}
use Rattle.gg_partfile.specs.declared.request.BridgeEntry.{BridgeEntry}
use Rattle.gg_partfile.specs.Size.{all_driven, all_seen}
use Rattle.gg_bridge.specs.inside.All.{Attached, with_bridge, joined_all}
use Rattle.gg_bridge.specs.Joined.{without}
use Rattle.gg_cut_plan.specs.Bridges.{Models}
use Rattle.gg_cut_reference.specs.inside.Fitting.{attached_of}

-- ---- filters

pub same-test : (a b : Bool) → (a ≡ true → b ≡ true) → (b ≡ true → a ≡ true) → a ≡ b
same-test true b to from = sym (to refl)
same-test false true to from = from refl
same-test false false to from = refl

pub filter-at : {A : Type 0} (f g : A → Bool) (xs : List A) → ((x : A) → Contains xs x → f x ≡ g x) → filter f xs ≡ filter g xs
filter-at f g [] same = refl
filter-at f g (x ∷ xs) same = ap₂ (λ b rest. cond b (x ∷ rest) rest) (same x (here x xs)) (filter-at f g xs (λ y h. same y (further x xs y h)))

pub filter-all : {A : Type 0} (f : A → Bool) (xs : List A) → ((x : A) → Contains xs x → f x ≡ true) → filter f xs ≡ xs
filter-all f [] each = refl
filter-all f (x ∷ xs) each = ap₂ (λ b rest. cond b (x ∷ rest) rest) (each x (here x xs)) (filter-all f xs (λ y h. each y (further x xs y h)))

pub filter-map : {A B : Type 0} (f : B → Bool) (g : A → B) (xs : List A) → filter f (map g xs) ≡ map g (filter (λ x. f (g x)) xs)
filter-map f g [] = refl
filter-map f g (x ∷ xs) = ap (λ rest. cond (f (g x)) (g x ∷ rest) rest) (filter-map f g xs) ∙ by (f (g x))
  where
    by : (b : Bool) → cond b (g x ∷ map g (filter (λ y. f (g y)) xs)) (map g (filter (λ y. f (g y)) xs)) ≡ map g (cond b (x ∷ filter (λ y. f (g y)) xs) (filter (λ y. f (g y)) xs))
    by true = refl
    by false = refl

filter-twice : {A : Type 0} (f g h : A → Bool) (xs : List A) → ((x : A) → h x ≡ (g x && f x)) → filter f (filter g xs) ≡ filter h xs
filter-twice f g h [] same = refl
filter-twice f g h (x ∷ xs) same = by (g x) (h x) (same x) (filter-twice f g h xs same)
  where
    by : (b c : Bool) → c ≡ (b && f x) → filter f (filter g xs) ≡ filter h xs → filter f (cond b (x ∷ filter g xs) (filter g xs)) ≡ cond c (x ∷ filter h xs) (filter h xs)
    by true c is rest = ap₂ (λ t l. cond t (x ∷ l) l) (sym is) rest
    by false c is rest = rest ∙ ap (λ t. cond t (x ∷ filter h xs) (filter h xs)) (sym is)

-- ---- without some

not-or : (a b : Bool) → not (a || b) ≡ (not a && not b)
not-or true b = refl
not-or false b = refl

without-none : (list : List ℕ) → without [] list ≡ list
without-none list = filter-all (λ s. not (list_any (λ t. t == s) [])) list (λ s h. refl)

without-twice : (gone more list : List ℕ) → without more (without gone list) ≡ without (gone ++ more) list
without-twice gone more list =
    filter-twice (λ s. not (list_any (λ t. t == s) more)) (λ s. not (list_any (λ t. t == s) gone)) (λ s. not (list_any (λ t. t == s) (gone ++ more))) list
    (λ s. ap not (list_any-append (λ t. t == s) gone more) ∙ not-or (list_any (λ t. t == s) gone) (list_any (λ t. t == s) more))

-- ---- the ports that are left

pub ins-left : (one : FlatCircuit) (bridges : List Attached) → (joined_all one bridges).ins ≡ without (flat_map (λ bridge. bridge.drives) bridges) one.ins
ins-left one [] = sym (without-none one.ins)
ins-left one (bridge ∷ bridges) = ins-left (with_bridge one bridge) bridges ∙ without-twice bridge.drives (flat_map (λ b. b.drives) bridges) one.ins

pub outs-left : (one : FlatCircuit) (bridges : List Attached) → (joined_all one bridges).outs ≡ without (flat_map (λ bridge. bridge.sees) bridges) one.outs
outs-left one [] = sym (without-none one.outs)
outs-left one (bridge ∷ bridges) = outs-left (with_bridge one bridge) bridges ∙ without-twice bridge.sees (flat_map (λ b. b.sees) bridges) one.outs

pub same-clocks : (one : FlatCircuit) (bridges : List Attached) → (joined_all one bridges).clocks ≡ one.clocks
same-clocks one [] = refl
same-clocks one (bridge ∷ bridges) = same-clocks (with_bridge one bridge) bridges

module _ (seen driven : List ℕ → ℕ) (models : Models) where
  pub drives-of : (entries : List BridgeEntry) → flat_map (λ bridge. bridge.drives) (map (attached_of seen driven models) entries) ≡ map driven (all_driven entries)
  drives-of [] = refl
  drives-of (entry ∷ entries) = ap (λ rest. map driven entry.drives ++ rest) (drives-of entries) ∙ sym (map-append driven entry.drives (all_driven entries))

  pub sees-of : (entries : List BridgeEntry) → flat_map (λ bridge. bridge.sees) (map (attached_of seen driven models) entries) ≡ map seen (all_seen entries)
  sees-of [] = refl
  sees-of (entry ∷ entries) = ap (λ rest. map seen entry.sees ++ rest) (sees-of entries) ∙ sym (map-append seen entry.sees (all_seen entries))
