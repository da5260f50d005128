-- If all words of a list differ, so do the first ones, and the next word is new.
use Rattle.std.proofs.Common.{◌≡◌, ℕ, ◌+◌, ◌<◌, List, [], ◌∷◌, ◌++◌, length, map, take, drop, get_or, refl, sym, ap, ◌∙◌, subst, arith, append_assoc, length-append}
use Rattle.std.specs.Prelude.{Contains, flat_map}
use Rattle.std.proofs.lemmas.List.{get_or_append_left, get_or_push, map-append, take-append-drop}
use Rattle.std.proofs.lemmas.Grind.{flat_map-append}
use Rattle.gg_elab_sites.proofs.FlatLemmas.{seam}
use Rattle.gg_elab_sites.proofs.NameLemmas.{Differ}

pub Differ-front : (xs ys : List (List ℕ)) → Differ (xs ++ ys) → Differ xs
Differ-front xs ys differ i j d lt within same =
    differ i j d lt (omega (arith, within, length-append xs ys))
    (get_or_append_left xs ys d i (omega (arith, lt, within)) ∙ same ∙ sym (get_or_append_left xs ys d j within))

-- the last word is none of those before it
pub last-new : (xs : List (List ℕ)) (w : List ℕ) → Differ (xs ++ w ∷ []) → ¬ Contains xs w
last-new xs w differ c =
    differ c.0 (length xs) w c.1 (omega (arith, length-append xs (w ∷ [])))
    (get_or_append_left xs (w ∷ []) w c.0 c.1 ∙ c.2 ∙ sym (get_or_push xs w w (length xs) refl))

-- the words of the first k elements differ, if all do
front-differs : {A : Type 0} (name : A → List ℕ) (xs : List (List ℕ)) (all : List A) (k : ℕ) → Differ (xs ++ map name all) → Differ (xs ++ map name (take k all))
front-differs name xs all k differ = Differ-front (xs ++ map name (take k all)) (map name (drop k all)) (subst Differ same differ)
  where
    same : xs ++ map name all ≡ (xs ++ map name (take k all)) ++ map name (drop k all)
    same =
        ap (λ l. xs ++ map name l) (sym (take-append-drop k all))
        ∙ ap (λ l. xs ++ l) (map-append name (take k all) (drop k all))
        ∙ sym (append_assoc xs (map name (take k all)) (map name (drop k all)))

-- the word of the next element is new
pub next-new : {A : Type 0} (name : A → List ℕ) (xs : List (List ℕ)) (all : List A) (i : ℕ) (a : A) → Differ (xs ++ map name all) → i < length all → a ≡ get_or all i a → ¬ Contains (xs ++ map name (take i all)) (name a)
next-new name xs all i a differ lt is =
    last-new (xs ++ map name (take i all)) (name a) (subst Differ (sym (seam name xs all i a lt is)) (front-differs name xs all (i + 1) differ))

-- the words of the first k parts differ, if all do
pub parts-front : {X A B : Type 0} (name : B → List ℕ) (f : A → List B) (g : X → A) (all : List X) (k : ℕ) → Differ (map name (flat_map f (map g all))) → Differ (map name (flat_map f (map g (take k all))))
parts-front name f g all k differ = Differ-front (map name (flat_map f (map g (take k all)))) (map name (flat_map f (map g (drop k all)))) (subst Differ same differ)
  where
    same : map name (flat_map f (map g all)) ≡ map name (flat_map f (map g (take k all))) ++ map name (flat_map f (map g (drop k all)))
    same =
        ap (λ l. map name (flat_map f (map g l))) (sym (take-append-drop k all))
        ∙ ap (λ l. map name (flat_map f l)) (map-append g (take k all) (drop k all))
        ∙ ap (map name) (flat_map-append f (map g (take k all)) (map g (drop k all)))
        ∙ map-append name (flat_map f (map g (take k all))) (flat_map f (map g (drop k all)))
