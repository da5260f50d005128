-- Lists that are made element by element.
use Rattle.std.proofs.Common.{◌≡◌, ℕ, ◌+◌, ◌<◌, List, [], ◌∷◌, ◌++◌, length, take, get_or, Option, Some, None, option_to_list, refl, sym, ap, ◌∙◌, append_assoc}
use Rattle.std.specs.Prelude.{filter_map}
use Rattle.std.proofs.lemmas.List.{take_more}
use Rattle.std.proofs.lemmas.List.Elements.{filter_map-append}

filter_map-one : {X Y : Type 0} (h : X → Option Y) (x : X) → filter_map h (x ∷ []) ≡ option_to_list (h x)
filter_map-one h x = go (h x) refl
  where
    go : (o : Option _) → h x ≡ o → filter_map h (x ∷ []) ≡ option_to_list (h x)
    go None e = rw e refl
    go (Some y) e = rw e refl

-- a list made by `filter_map` with one more element
pub filter_map-more : {X Y : Type 0} (h : X → Option Y) (before now after : List Y) (all : List X) (i : ℕ) (x : X) → i < length all → x ≡ get_or all i x → now ≡ before ++ filter_map h (take i all) → after ≡ now ++ option_to_list (h x) → after ≡ before ++ filter_map h (take (i + 1) all)
filter_map-more h before now after all i x lt is so step =
    step
    ∙ ap (λ l. l ++ option_to_list (h x)) so
    ∙ append_assoc before (filter_map h (take i all)) (option_to_list (h x))
    ∙ ap (λ l. before ++ (filter_map h (take i all) ++ l)) (sym (filter_map-one h x))
    ∙ ap (λ l. before ++ l) (sym (filter_map-append h (take i all) (x ∷ [])))
    ∙ ap (λ l. before ++ filter_map h l) (ap (λ y. take i all ++ y ∷ []) is ∙ sym (take_more all i x lt))
