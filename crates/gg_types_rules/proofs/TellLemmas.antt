-- The lists of what is told of the names of modules, with one module more.
use Rattle.std.proofs.Common.{◌≡◌, ℕ, ◌+◌, ◌<◌, Bool, true, false, List, [], ◌∷◌, ◌++◌, length, length-append, slice_index_or, nat_lt, Option, refl, sym, ap, subst, ◌∙◌, arith}
use Rattle.std.proofs.Math.ListN.{get_or-append}
use Rattle.std.proofs.Math.Seq.{get_or-append_seam}
use Rattle.std.proofs.lemmas.Bool.Decides.{nat_tests}
use Rattle.gg_ast.specs.Tree.{ModuleTree}
use Rattle.gg_shape_names.specs.Modules.{module_at}
use Rattle.gg_types.specs.declared.sort.Own.{Own}
use Rattle.gg_types.specs.inside.Typed.{TellsOwn, TellModules, TellsClocks, TellAllClocks}

module _ {X : Type 0} (nothing : X) (modules : List ModuleTree) (Tells : ModuleTree → X → Type 0) where
  each-more : (n : ℕ) (lists new : List X) (list : X) → length lists ≡ n → new ≡ lists ++ list ∷ [] → Tells (module_at modules n) list → ((k : ℕ) → k < n → Tells (module_at modules k) (slice_index_or lists k nothing)) → (k : ℕ) → k < n + 1 → Tells (module_at modules k) (slice_index_or new k nothing)
  each-more n lists new list size grown told old k below = go (nat_lt k n) refl
    where
      go : (b : Bool) → nat_lt k n ≡ b → Tells (module_at modules k) (slice_index_or new k nothing)
      go true e =
          let early : k < n = grind (arith, nat_tests, e) in
          subst (λ l. Tells (module_at modules k) (slice_index_or l k nothing)) (sym grown)
          (subst (Tells (module_at modules k)) (sym (get_or-append lists (list ∷ []) nothing k (omega (arith, early, size)))) (old k early))
      go false e =
          let last : k ≡ n = grind (arith, nat_tests, e, below) in
          subst (λ j. Tells (module_at modules j) (slice_index_or new j nothing)) (sym last)
          (subst (λ l. Tells (module_at modules n) (slice_index_or l n nothing)) (sym grown)
          (subst (Tells (module_at modules n)) (sym (ap (λ j. slice_index_or (lists ++ list ∷ []) j nothing) (sym size) ∙ get_or-append_seam lists list [] nothing)) told))

  count-more : (n : ℕ) (lists new : List X) (list : X) → length lists ≡ n → new ≡ lists ++ list ∷ [] → length new ≡ n + 1
  count-more n lists new list size grown = ap length grown ∙ omega (arith, length-append lists (list ∷ []), size)

-- with the type data of the next module
pub own-more : (modules : List ModuleTree) (n : ℕ) (lists new : List (List Own)) (list : List Own) → new ≡ lists ++ list ∷ [] → TellsOwn modules (module_at modules n) list → TellModules modules n lists → TellModules modules (n + 1) new
own-more modules n lists new list grown told old = record {
  count = count-more [] modules (TellsOwn modules) n lists new list old.count grown;
  each = each-more [] modules (TellsOwn modules) n lists new list old.count grown told old.each;
}

-- with the Clock inputs that the names of the next module lead to
pub clocks-more : (modules : List ModuleTree) (n : ℕ) (lists new : List (List (Option ℕ))) (list : List (Option ℕ)) → new ≡ lists ++ list ∷ [] → TellsClocks (module_at modules n) list → TellAllClocks modules n lists → TellAllClocks modules (n + 1) new
clocks-more modules n lists new list grown told old = record {
  count = count-more [] modules TellsClocks n lists new list old.count grown;
  each = each-more [] modules TellsClocks n lists new list old.count grown told old.each;
}
