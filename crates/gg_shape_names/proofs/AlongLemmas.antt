-- What is found along a list, element by element.
use Rattle.std.proofs.Common.{◌≡◌, ℕ, ◌+◌, ◌<◌, List, [], ◌∷◌, ◌++◌, length, get_or, take, drop, Some, sym, ap, subst, ◌∙◌}
use Rattle.std.proofs.lemmas.List.{take_more, drop_more}
use Rattle.gg_shape_names.specs.declared.fault.Repetition.{Repetition}
use Rattle.gg_shape_names.specs.declared.fault.NamesFault.{NamesFault}
use Rattle.gg_shape_names.specs.declared.fault.NamesFault.TheVariants.{Repeated, NoMemory}
use Rattle.gg_shape_names.specs.Along.{along, along_from, first}
use Rattle.gg_shape_names.specs.inside.Repetitions.{Names}

pub first-front : {B : Type 0} (xs ys : List B) (x : B) → first xs ≡ Some x → first (xs ++ ys) ≡ Some x
first-front [] ys x h = cc
first-front (y ∷ xs) ys x h = h

module _ {A B : Type 0} (at : List A → A → List B) (xs : List A) where
  -- what is found from the i-th element on
  abbrev pub left : ℕ → List B
  left i = along_from at (take i xs) (drop i xs)

  pub left-step : (i : ℕ) (d : A) → i < length xs → left i ≡ at (take i xs) (get_or xs i d) ++ left (i + 1)
  left-step i d lt =
      ap (along_from at (take i xs)) (drop_more xs i d lt)
      ∙ ap (λ before. at (take i xs) (get_or xs i d) ++ along_from at before (drop (i + 1) xs)) (sym (take_more xs i d lt))

  -- if nothing is found before the i-th element and at it, all that is found is found after it
  pub left-more : (i : ℕ) (x : A) → i < length xs → x ≡ get_or xs i x → at (take i xs) x ≡ [] → along at xs ≡ left i → along at xs ≡ left (i + 1)
  left-more i x lt is none h =
      h ∙ left-step i x lt ∙ ap (λ y. at (take i xs) y ++ left (i + 1)) (sym is) ∙ ap (λ l. l ++ left (i + 1)) none

  pub left-from : (i : ℕ) (x : A) → i < length xs → x ≡ get_or xs i x → along at xs ≡ left i → along at xs ≡ at (take i xs) x ++ left (i + 1)
  left-from i x lt is h = h ∙ left-step i x lt ∙ ap (λ y. at (take i xs) y ++ left (i + 1)) (sym is)

-- ---- refusals

pub names_first : (xs ys : List Repetition) (r : NamesFault) → Names xs r → Names (xs ++ ys) r
names_first xs ys (Repeated x) h = first-front xs ys x h
names_first xs ys NoMemory h = tt

-- if the i-th element is the first with a repetition, or memory ran out there, this is the answer for the whole list
pub left-refused : {A : Type 0} (at : List A → A → List Repetition) (xs : List A) (i : ℕ) (x : A) (r : NamesFault) → i < length xs → x ≡ get_or xs i x → along at xs ≡ left at xs i → Names (at (take i xs) x) r → Names (along at xs) r
left-refused at xs i x r lt is h refused =
    subst (λ l. Names l r) (sym (left-from at xs i x lt is h)) (names_first (at (take i xs) x) (left at xs (i + 1)) r refused)
