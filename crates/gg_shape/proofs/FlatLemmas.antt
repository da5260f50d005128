-- Faults one after another: of two checks, along a list, and of each element of a list.
use Rattle.std.proofs.Common.{◌≡◌, ℕ, ◌+◌, ◌<◌, List, [], ◌++◌, length, get_or, take, drop, Result, refl, sym, ap, subst, ◌∙◌}
use Rattle.std.specs.List.{flat_map}
use Rattle.std.proofs.lemmas.List.{drop_more}
use Rattle.gg_ast.specs.Tree.{ModuleTree, empty_module}
use Rattle.gg_shape_names.specs.Modules.{module_at}
use Rattle.gg_shape_names.proofs.AlongLemmas.{first-front, left, left-from}
use Rattle.gg_shape.specs.declared.fault.Fault.{Fault}
use Rattle.gg_shape.specs.declared.fault.CheckFault.{CheckFault}
use Rattle.gg_shape.specs.declared.fault.CheckFault.TheVariants.{F, NoMemory}
use Rattle.gg_shape_names.specs.Along.{along}
use Rattle.gg_shape.specs.inside.Faults.{Refuses, Answers}

-- a refusal for some faults is one for these and more after them
pub refused_first : (xs ys : List Fault) (r : CheckFault) → Refuses xs r → Refuses (xs ++ ys) r
refused_first xs ys (F fault) h = first-front xs ys fault h
refused_first xs ys NoMemory h = tt

-- if the first check finds nothing, the second decides
pub decided_next : {A : Type 0} (xs ys : List Fault) (r : Result A CheckFault) → xs ≡ [] → Answers ys r → Answers (xs ++ ys) r
decided_next xs ys r none h = rw none h

-- if no element before the i-th has a fault and the i-th is refused, the list is refused
pub along-refused : {A : Type 0} (at : List A → A → List Fault) (xs : List A) (i : ℕ) (x : A) (r : CheckFault) → i < length xs → x ≡ get_or xs i x → along at xs ≡ left at xs i → Refuses (at (take i xs) x) r → Refuses (along at xs) r
along-refused at xs i x r lt is h refused =
    subst (λ l. Refuses l r) (sym (left-from at xs i x lt is h)) (refused_first (at (take i xs) x) (left at xs (i + 1)) r refused)

module _ {A : Type 0} (f : A → List Fault) (xs : List A) where
  -- the faults from the i-th element on
  abbrev pub rest : ℕ → List Fault
  rest i = flat_map f (drop i xs)

  rest-step : (i : ℕ) (d : A) → i < length xs → rest i ≡ f (get_or xs i d) ++ rest (i + 1)
  rest-step i d lt = ap (flat_map f) (drop_more xs i d lt)

  -- if no element up to the i-th has a fault, all faults are after it
  pub rest-more : (i : ℕ) (d x : A) → i < length xs → x ≡ get_or xs i d → f x ≡ [] → flat_map f xs ≡ rest i → flat_map f xs ≡ rest (i + 1)
  rest-more i d x lt is none h = h ∙ rest-step i d lt ∙ ap (λ y. f y ++ rest (i + 1)) (sym is) ∙ ap (λ l. l ++ rest (i + 1)) none

  -- if no element before the i-th has a fault and the i-th is refused, the list is refused
  pub rest-refused : (i : ℕ) (d x : A) (r : CheckFault) → i < length xs → x ≡ get_or xs i d → flat_map f xs ≡ rest i → Refuses (f x) r → Refuses (flat_map f xs) r
  rest-refused i d x r lt is h refused =
      subst (λ l. Refuses l r) (sym (h ∙ rest-step i d lt ∙ ap (λ y. f y ++ rest (i + 1)) (sym is))) (refused_first (f x) (rest (i + 1)) r refused)

-- ---- modules by their places

-- if no module up to the i-th has a fault that `f` lists, all these faults are in the modules after it
pub module-more : (f : ModuleTree → List Fault) (modules : List ModuleTree) (i : ℕ) → i < length modules → f (module_at modules i) ≡ [] → flat_map f modules ≡ rest f modules i → flat_map f modules ≡ rest f modules (i + 1)
module-more f modules i lt none h = rest-more f modules i (empty_module 0 []) (module_at modules i) lt refl none h

pub module-refused : (f : ModuleTree → List Fault) (modules : List ModuleTree) (i : ℕ) (r : CheckFault) → i < length modules → flat_map f modules ≡ rest f modules i → Refuses (f (module_at modules i)) r → Refuses (flat_map f modules) r
module-refused f modules i r lt h refused = rest-refused f modules i (empty_module 0 []) (module_at modules i) r lt refl h refused
