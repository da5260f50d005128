-- What the tables of modules tell of references.
use Rattle.std.proofs.Common.{◌≡◌, ℕ, zero, suc, ◌+◌, ◌<◌, Bool, true, false, List, [], ◌∷◌, ◌++◌, length, take, get_or, slice_get, slice_index_or, nat_lt, lt-ltb, le-ltb, length-append, Option, Some, None, is_some, refl, sym, ap, subst, ◌∙◌, if◌then◌else◌, true≢false, arith}
use Rattle.std.specs.Option.{option_map}
use Rattle.std.specs.Str.{bytes_eq}
use Rattle.std.specs.List.{list_any}
use Rattle.std.proofs.lemmas.List.{get_or_default, take-map}
use Rattle.std.proofs.Math.ListN.{get_or-append}
use Rattle.std.proofs.Math.Seq.{get_or-append_seam}
use Rattle.std.proofs.lemmas.Bool.Decides.{nat_tests}
use Rattle.gg_ast.specs.declared.expression.Reference.{Reference}
use Rattle.gg_ast.specs.declared.module.Port.{Port}
use Rattle.gg_ast.specs.Places.{place_of}
use Rattle.gg_ast.specs.Tree.{ModuleTree, names_of}
use Rattle.gg_shape_names.specs.declared.role.Role.{Role}
use Rattle.gg_shape_names.specs.declared.table.Declared.{Declared}
use Rattle.gg_shape_names.specs.Modules.{module_at}
use Rattle.gg_shape_names.specs.Namespace.{role_of_instance_port, port_names, names_after, scope_of, scope_after, meaning_of}
use Rattle.gg_shape_names.specs.Scope.{first_name}
use Rattle.gg_shape_names.specs.inside.Tables.{TellsModule, AreTold, ArePlaced, IsPlaced, names_told, found, role_of_port_named}
use Rattle.gg_bits.specs.Lists.{find_word}
use Rattle.gg_shape_names.proofs.ScopeLemmas.{scope-found, found-before}
use Rattle.gg_shape_names.proofs.TableLemmas.{if_before}

-- ---- ports of an instance's module

abbrev pub role_at : List Port → Option ℕ → Option Role
role_at ports None = None
role_at ports (Some k) = option_map (λ (port : Port). role_of_instance_port port.direction port.ty) (slice_get ports k)

-- ports come first among the names of a module, so the place of a port's name is its place among the ports
pub port-role : (name : List ℕ) (ports : List Port) (others : List (List ℕ)) → role_of_port_named name ports ≡ role_at ports (place_of name (port_names ports ++ others))
port-role name [] others = go (place_of name others)
  where
    go : (o : Option ℕ) → role_of_port_named name [] ≡ role_at [] o
    go None = refl
    go (Some zero) = refl
    go (Some (suc k)) = refl
port-role name (p ∷ ps) others = go (bytes_eq name p.name) refl (place_of name (port_names ps ++ others)) refl (port-role name ps others)
  where
    at : Bool → Option ℕ
    at b = if b then Some 0 else option_map (λ j. j + 1) (place_of name (port_names ps ++ others))

    go : (b : Bool) → bytes_eq name p.name ≡ b → (o : Option ℕ) → place_of name (port_names ps ++ others) ≡ o → role_of_port_named name ps ≡ role_at ps (place_of name (port_names ps ++ others)) → role_of_port_named name (p ∷ ps) ≡ role_at (p ∷ ps) (place_of name (port_names (p ∷ ps) ++ others))
    go true e o u rest = rw e refl
    go false e None u rest = rw e (rest ∙ ap (role_at ps) u ∙ sym (ap (role_at (p ∷ ps)) (ap (option_map (λ j. j + 1)) u)))
    go false e (Some j) u rest =
        let more : j + 1 ≡ suc j = omega arith in
        rw e (rest ∙ ap (role_at ps) u ∙ sym (ap (role_at (p ∷ ps)) (ap (option_map (λ j. j + 1)) u ∙ ap Some more)))

-- ---- tables

-- if all entries of a table are placed among the modules, so is the one under a name
pub placed-of : (modules : List ModuleTree) (table : List (List ℕ × Declared)) (name : List ℕ) (declared : Declared) → ArePlaced modules table → find_word name table ≡ Some declared → IsPlaced modules declared
placed-of modules [] name declared placed h = absurd (true≢false (sym (ap is_some h)))
placed-of modules (e ∷ es) name declared placed h = go (bytes_eq name e.0) refl (placed-of modules es name declared placed.1)
  where
    go : (b : Bool) → bytes_eq name e.0 ≡ b → (find_word name es ≡ Some declared → IsPlaced modules declared) → IsPlaced modules declared
    go true t rest =
        let same : Some e.1 ≡ Some declared = sym (ap (λ b. if b then Some e.1 else find_word name es) t) ∙ h in
        let is : e.1 ≡ declared = cc in
        subst (IsPlaced modules) is placed.0
    go false t rest = rest (sym (ap (λ b. if b then Some e.1 else find_word name es) t) ∙ h)

-- the k-th table is the table of the k-th module
pub table-at : (modules : List ModuleTree) (tables : List (List (List ℕ × Declared))) (k : ℕ) (table : List (List ℕ × Declared)) → AreTold modules (length modules) tables → k < length modules → table ≡ get_or tables k table → TellsModule modules (module_at modules k) table
table-at modules tables k table told lt is =
    let same : get_or tables k [] ≡ table = get_or_default tables k [] table (omega (arith, told.one_each)) ∙ sym is in
    subst (TellsModule modules (module_at modules k)) same (told.tell k lt)

pub module-at : (modules : List ModuleTree) (k : ℕ) (m : ModuleTree) → k < length modules → m ≡ get_or modules k m → module_at modules k ≡ m
module-at modules k m lt is = get_or_default modules k _ m lt ∙ sym is

-- what a reference names in a module, found in the module's table
pub meaning-found : (modules : List ModuleTree) (k : ℕ) (table : List (List ℕ × Declared)) (r : Reference) → TellsModule modules (module_at modules k) table → meaning_of (scope_of modules (module_at modules k)) r ≡ found modules table r
meaning-found modules k table r told = scope-found modules (module_at modules k).ports (module_at modules k).statements table told r

-- what a reference names after the first statements: what the whole table tells, if its first name is declared by then
pub meaning-before : (modules : List ModuleTree) (k : ℕ) (table : List (List ℕ × Declared)) (r : Reference) (count n : ℕ) → TellsModule modules (module_at modules k) table → count ≡ length (names_after (module_at modules k).ports (take n (module_at modules k).statements)) → meaning_of (scope_after modules (module_at modules k).ports (take n (module_at modules k).statements)) r ≡ if_before (place_of (first_name r) (names_told table)) count (found modules table r)
meaning-before modules k table r count n told is =
    told.tells n r ∙ ap (λ c. found modules (take c table) r) (sym is) ∙ found-before modules table count r

-- ---- the tables of all modules

-- there is a place, and it is below n
abbrev pub is_before : Option ℕ → ℕ → Bool
is_before None n = false
is_before (Some k) n = nat_lt k n

any-front : (name : List ℕ) (names : List (List ℕ)) (n : ℕ) → list_any (bytes_eq name) (take n names) ≡ is_before (place_of name names) n
any-front name [] zero = refl
any-front name [] (suc n) = refl
any-front name (x ∷ xs) zero = go (bytes_eq name x) refl (place_of name xs) refl
  where
    go : (b : Bool) → bytes_eq name x ≡ b → (o : Option ℕ) → place_of name xs ≡ o → false ≡ is_before (place_of name (x ∷ xs)) 0
    go true e o u = rw e refl
    go false e None u = rw (e, u) refl
    go false e (Some j) u = rw (e, u) (sym (le-ltb (j + 1) 0 (omega arith)))
any-front name (x ∷ xs) (suc n) = go (bytes_eq name x) refl (place_of name xs) refl (any-front name xs n)
  where
    go : (b : Bool) → bytes_eq name x ≡ b → (o : Option ℕ) → place_of name xs ≡ o → list_any (bytes_eq name) (take n xs) ≡ is_before (place_of name xs) n → list_any (bytes_eq name) (x ∷ take n xs) ≡ is_before (place_of name (x ∷ xs)) (suc n)
    go true e o u rest = rw e (sym (lt-ltb 0 (suc n) (omega arith)))
    go false e None u rest = rw (e, u) (rest ∙ ap (λ o. is_before o n) u)
    go false e (Some j) u rest =
        let shift : nat_lt j n ≡ nat_lt (j + 1) (suc n) = grind (arith, nat_tests) in
        rw (e, u) (rest ∙ ap (λ o. is_before o n) u ∙ shift)

-- one of the first n modules has this name exactly if the name's place is below n
pub module-before : (modules : List ModuleTree) (n : ℕ) (name : List ℕ) → list_any (bytes_eq name) (names_of (take n modules)) ≡ is_before (place_of name (names_of modules)) n
module-before modules n name =
    ap (list_any (bytes_eq name)) (sym (take-map (λ (m : ModuleTree). m.name) n modules)) ∙ any-front name (names_of modules) n

-- with the table of the next module, the tables are those of the first i + 1 modules
pub told-next : (modules : List ModuleTree) (i : ℕ) (m : ModuleTree) (tables new : List (List (List ℕ × Declared))) (table : List (List ℕ × Declared)) → i < length modules → m ≡ get_or modules i m → TellsModule modules m table → new ≡ tables ++ table ∷ [] → AreTold modules i tables → AreTold modules (i + 1) new
told-next modules i m tables new table lt is told grown old = record {
  one_each = ap length grown ∙ omega (arith, length-append tables (table ∷ []), old.one_each);
  tell = λ k below. go k (nat_lt k i) refl below;
}
  where
    no_table : List (List ℕ × Declared)
    no_table = []

    go : (k : ℕ) (b : Bool) → nat_lt k i ≡ b → k < i + 1 → TellsModule modules (module_at modules k) (slice_index_or new k [])
    go k true e below =
        let early : k < i = grind (arith, nat_tests, e) in
        subst (λ l. TellsModule modules (module_at modules k) (slice_index_or l k [])) (sym grown)
        (subst (TellsModule modules (module_at modules k)) (sym (get_or-append tables (table ∷ []) no_table k (omega (arith, old.one_each)))) (old.tell k early))
    go k false e below =
        let last : k ≡ i = grind (arith, nat_tests, e, below) in
        subst (λ j. TellsModule modules (module_at modules j) (slice_index_or new j [])) (sym last)
        (subst (λ l. TellsModule modules l (slice_index_or new i [])) (sym (module-at modules i m lt is))
        (subst (λ l. TellsModule modules m (slice_index_or l i [])) (sym grown)
        (subst (TellsModule modules m) (sym (ap (λ j. slice_index_or (tables ++ table ∷ []) j no_table) (sym old.one_each) ∙ get_or-append_seam tables table [] no_table)) told)))
