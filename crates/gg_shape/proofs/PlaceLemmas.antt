-- Whether a module exists, and which names are declared before a statement.
use Rattle.std.proofs.Common.{◌≡◌, ◌≢◌, ⊎_elim, ℕ, ◌+◌, ◌<◌, ◌≤◌, List, [], ◌∷◌, ◌++◌, length, take, get_or, slice_index_or, Option, Some, None, is_some, refl, sym, ap, subst, ◌∙◌, arith, length-append}
use Rattle.std.proofs.lemmas.Bool.{cases_eq}
use Rattle.std.proofs.lemmas.List.{take_more, get_or_default, get_or_at, get_or_append_left}
use Rattle.gg_ast.specs.declared.expression.Reference.{Reference}
use Rattle.gg_ast.specs.declared.module.Port.{Port}
use Rattle.gg_ast.specs.declared.statement.Stmt.{Stmt}
use Rattle.gg_ast.specs.Places.{place_of}
use Rattle.gg_ast.specs.Tree.{ModuleTree, names_of}
use Rattle.gg_shape_names.specs.Namespace.{module_named, name_by, names_after, entries_by, scope_after}
use Rattle.gg_shape_names.specs.Modules.{module_at}
use Rattle.gg_shape_names.proofs.FindLemmas.{module-at}
use Rattle.gg_shape_names.proofs.BlockLemmas.{at-place, at-none}
use Rattle.gg_shape_names.proofs.ScopeLemmas.{names_after-push, scope_after-push, names-front}
use Rattle.gg_shape.specs.Shape.{unconnected_among, unconnected_sinks}
use Rattle.gg_shape.specs.inside.Told.{TellsConnected, TellsFirst, is_among}

pub module-there : (name : List ℕ) (modules : List ModuleTree) → is_some (module_named name modules) ≡ is_some (place_of name (names_of modules))
module-there name modules = go (place_of name (names_of modules)) refl
  where
    go : (o : Option ℕ) → place_of name (names_of modules) ≡ o → is_some (module_named name modules) ≡ is_some (place_of name (names_of modules))
    go None e = ap is_some (at-none modules name e) ∙ sym (ap is_some e)
    go (Some k) e = ap is_some (at-place modules name k e).named ∙ sym (ap is_some e)

-- ---- the names before a statement

-- the names and the scope before and after the i-th statement, and that there is room for what it declares
pub record Stands (modules : List ModuleTree) (ports : List Port) (statements : List Stmt) (i : ℕ) (s : Stmt) : Type 0 where
  pub names_next : names_after ports (take (i + 1) statements) ≡ names_after ports (take i statements) ++ name_by s
  pub scope_next : scope_after modules ports (take (i + 1) statements) ≡ scope_after modules ports (take i statements) ++ entries_by modules s
  pub more : length (names_after ports (take (i + 1) statements)) ≡ length (names_after ports (take i statements)) + length (name_by s)
  pub room : length (names_after ports (take i statements)) + length (name_by s) ≤ length (names_after ports statements)

pub stands : (modules : List ModuleTree) (ports : List Port) (statements : List Stmt) (i : ℕ) (s : Stmt) → i < length statements → s ≡ get_or statements i s → Stands modules ports statements i s
stands modules ports statements i s lt is =
    let grown : take (i + 1) statements ≡ take i statements ++ s ∷ [] = take_more statements i s lt ∙ ap (λ x. take i statements ++ x ∷ []) (sym is) in
    let names : names_after ports (take (i + 1) statements) ≡ names_after ports (take i statements) ++ name_by s = ap (names_after ports) grown ∙ names_after-push ports (take i statements) s in
    let count : length (names_after ports (take (i + 1) statements)) ≡ length (names_after ports (take i statements)) + length (name_by s) = ap length names ∙ length-append (names_after ports (take i statements)) (name_by s) in
    record {
      names_next = names;
      scope_next = ap (scope_after modules ports) grown ∙ scope_after-push modules ports (take i statements) s;
      more = count;
      room = omega (arith, names-front ports statements (i + 1), count);
    }

-- by a list that tells what a module's statements connect, the unconnected sinks are those of F5
pub sinks-told : (modules : List ModuleTree) (m : ModuleTree) (connected : List Reference) → TellsConnected m.statements connected → unconnected_among modules (is_among connected) m ≡ unconnected_sinks modules m
sinks-told modules m connected told = ap (λ f. unconnected_among modules f m) (λ i r. told r i)

pub sinks-at : (modules : List ModuleTree) (all : List (List Reference)) (i : ℕ) (connected : List Reference) (m : ModuleTree) → i < length modules → TellsFirst modules (length modules) all → connected ≡ get_or all i connected → m ≡ get_or modules i m → unconnected_among modules (is_among connected) m ≡ unconnected_sinks modules (module_at modules i)
sinks-at modules all i connected m lt told at is =
    let here : module_at modules i ≡ m = module-at modules i m lt is in
    let same : slice_index_or all i [] ≡ connected = get_or_default all i [] connected (omega (arith, told.one_each)) ∙ sym at in
    let tells : TellsConnected (module_at modules i).statements connected = subst (TellsConnected (module_at modules i).statements) same (told.tell i lt) in
    ap (unconnected_among modules (is_among connected)) (sym here) ∙ sinks-told modules (module_at modules i) connected tells

-- what is connected in one module more
pub TellsFirst-more : (modules : List ModuleTree) (count : ℕ) (all : List (List Reference)) (connected : List Reference) (new : List (List Reference)) → TellsFirst modules count all → new ≡ all ++ connected ∷ [] → TellsConnected (module_at modules count).statements connected → TellsFirst modules (count + 1) new
TellsFirst-more modules count all connected new told is one =
    subst (λ l. TellsFirst modules (count + 1) l) (sym is) (record {
      one_each = length-append all (connected ∷ []) ∙ ap (λ n. n + 1) told.one_each;
      tell = λ k lt. ⊎_elim
          (λ (same : k ≡ count).
          subst (λ l. TellsConnected (module_at modules k).statements l) (sym (get_or_at all connected [] [] k (told.one_each ∙ sym same)))
          (subst (λ n. TellsConnected (module_at modules n).statements connected) (sym same) one))
          (λ (other : k ≢ count).
          let low : k < count = omega (arith, lt, other) in
          subst (λ l. TellsConnected (module_at modules k).statements l) (sym (get_or_append_left all (connected ∷ []) [] k (omega (arith, low, told.one_each)))) (told.tell k low))
          (cases_eq k count);
    })
