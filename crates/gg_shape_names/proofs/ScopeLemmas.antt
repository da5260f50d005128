-- How a table tells more with each declaration.
use Rattle.std.proofs.Common.{◌≡◌, ℕ, ◌+◌, ◌<◌, ◌≤◌, Bool, true, false, List, [], ◌∷◌, ◌++◌, length, map, take, drop, get_or, zero, suc, Option, Some, None, is_some, nat_le, nat_lt, refl, sym, ap, subst, ◌∙◌, if◌then◌else◌, true≢false, arith, append_assoc, length-append}
use Rattle.std.specs.List.{list_any, flat_map}
use Rattle.std.specs.Str.{bytes_eq}
use Rattle.std.proofs.lemmas.List.{take_all, take_more, take-append-le, take-append-drop, map-append, append-nil}
use Rattle.std.proofs.lemmas.Grind.{flat_map-append}
use Rattle.std.proofs.lemmas.Slice.Eq.{bytes_eq-Decides}
use Rattle.std.proofs.lemmas.Bool.Decides.{nat_tests}
use Rattle.gg_ast.specs.declared.expression.Reference.{Reference}
use Rattle.gg_ast.specs.declared.module.Port.{Port}
use Rattle.gg_ast.specs.declared.statement.Stmt.{Stmt}
use Rattle.gg_ast.specs.declared.statement.StmtKind as statements
use Rattle.gg_ast.specs.declared.statement.StmtKind.TheVariants as kinds
use Rattle.gg_ast.specs.Places.{place_of}
use Rattle.gg_ast.specs.Tree.{ModuleTree, names_of}
use Rattle.gg_shape_names.specs.declared.role.Role.{Role}
use Rattle.gg_shape_names.specs.declared.role.Role.TheVariants as roles
use Rattle.gg_shape_names.specs.declared.table.Declared.{Declared}
use Rattle.gg_shape_names.specs.declared.table.Declared.TheVariants.{Plain, Instance, Memory}
use Rattle.gg_shape_names.specs.inside.Declares.{Declares, DeclaresBy}
use Rattle.gg_shape_names.specs.Namespace.{role_of_port, entry_by_port, entries_by, entries_by_kind, scope_after, name_by, name_by_kind, names_after, port_names}
use Rattle.gg_shape_names.specs.Repetitions.{repetition_if, repeated_in, repeated_by_kind, repeated_in_field}
use Rattle.gg_shape_names.specs.Along.{along}
use Rattle.gg_shape_names.specs.Scope.{entry_of, first_name}
use Rattle.gg_shape_names.specs.inside.Tables.{TellsScope, ArePlaced, IsPlaced, names_told, found, through, through_found}
use Rattle.gg_bits.specs.Lists.{find_word, or_else}
use Rattle.gg_shape_names.proofs.BlockLemmas.{IsBlock, entry_of-append, plain-block, instance-block, memory-block, at-place}
use Rattle.gg_shape_names.proofs.TableLemmas.{some-value_of, none-is_some, value_of-take, if_before}

-- ---- one more declaration

or_value : Option Declared → Option Declared → Option Declared
or_value None b = b
or_value (Some a) b = Some a

value_of-append : (q : List ℕ) (xs ys : List (List ℕ × Declared)) → find_word q (xs ++ ys) ≡ or_value (find_word q xs) (find_word q ys)
unfolding or_value
value_of-append q [] ys = refl
value_of-append q (x ∷ xs) ys = go (bytes_eq q x.0) refl (value_of-append q xs ys)
  where
    go : (b : Bool) → bytes_eq q x.0 ≡ b → find_word q (xs ++ ys) ≡ or_value (find_word q xs) (find_word q ys) → find_word q (x ∷ (xs ++ ys)) ≡ or_value (find_word q (x ∷ xs)) (find_word q ys)
    go true e rest = rw e refl
    go false e rest = rw e rest

-- a name that isn't in the table has no value in it
lacks : (q : List ℕ) (table : List (List ℕ × Declared)) → list_any (bytes_eq q) (names_told table) ≡ false → find_word q table ≡ None
lacks q table h = none-is_some (find_word q table) (some-value_of q table ∙ h)

pub Fresh : List ℕ → List (List ℕ × Declared) → Type 0
Fresh name table = list_any (bytes_eq name) (names_told table) ≡ false

-- if the name is no repetition, the table doesn't have it yet
pub fresh-name : (name : List ℕ) (table : List (List ℕ × Declared)) (line : ℕ) → repeated_in (names_told table) line name ≡ [] → Fresh name table
unfolding Fresh
fresh-name name table line h = go (list_any (bytes_eq name) (names_told table)) refl
  where
    go : (b : Bool) → list_any (bytes_eq name) (names_told table) ≡ b → list_any (bytes_eq name) (names_told table) ≡ false
    go false e = e
    go true e = let gone : repetition_if true line name ≡ [] = sym (ap (λ b. repetition_if b line name) e) ∙ h in cc

pub found-more : (modules : List ModuleTree) (scope : List (Reference × Role)) (table : List (List ℕ × Declared)) (name : List ℕ) (declared : Declared) (block : List (Reference × Role)) → Fresh name table → IsBlock modules name declared block → ((r : Reference) → entry_of r scope ≡ found modules table r) → (r : Reference) → entry_of r (scope ++ block) ≡ found modules (table ++ (name, declared) ∷ []) r
unfolding Fresh IsBlock or_value
found-more modules scope table name declared block fresh is_block tells r = go (find_word (first_name r) table) refl (bytes_eq (first_name r) name) refl
  where
    left : entry_of r (scope ++ block) ≡ or_else (found modules table r) (if bytes_eq (first_name r) name then through modules declared r else None)
    left = entry_of-append r scope block ∙ ap (λ o. or_else o (entry_of r block)) (tells r) ∙ ap (or_else (found modules table r)) (is_block r)

    right : found modules (table ++ (name, declared) ∷ []) r ≡ through_found modules (or_value (find_word (first_name r) table) (if bytes_eq (first_name r) name then Some declared else None)) r
    right = ap (λ o. through_found modules o r) (value_of-append (first_name r) table ((name, declared) ∷ []))

    go : (o : Option Declared) → find_word (first_name r) table ≡ o → (b : Bool) → bytes_eq (first_name r) name ≡ b → entry_of r (scope ++ block) ≡ found modules (table ++ (name, declared) ∷ []) r
    go None e true f = left ∙ ap (λ o. or_else (through_found modules o r) (if bytes_eq (first_name r) name then through modules declared r else None)) e ∙ ap (λ b. if b then through modules declared r else None) f
        ∙ sym (right ∙ ap (λ o. through_found modules (or_value o (if bytes_eq (first_name r) name then Some declared else None)) r) e ∙ ap (λ b. through_found modules (if b then Some declared else None) r) f)
    go None e false f = left ∙ ap (λ o. or_else (through_found modules o r) (if bytes_eq (first_name r) name then through modules declared r else None)) e ∙ ap (λ b. if b then through modules declared r else None) f
        ∙ sym (right ∙ ap (λ o. through_found modules (or_value o (if bytes_eq (first_name r) name then Some declared else None)) r) e ∙ ap (λ b. through_found modules (if b then Some declared else None) r) f)
    go (Some d) e false f = left ∙ ap (λ b. or_else (found modules table r) (if b then through modules declared r else None)) f ∙ or_none (found modules table r)
        ∙ ap (λ o. through_found modules o r) e
        ∙ sym (right ∙ ap (λ o. through_found modules (or_value o (if bytes_eq (first_name r) name then Some declared else None)) r) e)
      where
        or_none : (o : Option Role) → or_else o None ≡ o
        or_none None = refl
        or_none (Some x) = refl
    go (Some d) e true f =
        let same : find_word (first_name r) table ≡ None = ap (λ q. find_word q table) ((bytes_eq-Decides (first_name r) name).0 f) ∙ lacks name table fresh in
        absurd (true≢false (ap is_some (sym e ∙ same)))

-- ---- names

names_told-push : (table : List (List ℕ × Declared)) (name : List ℕ) (declared : Declared) → names_told (table ++ (name, declared) ∷ []) ≡ names_told table ++ name ∷ []
names_told-push table name declared = map-append (λ (e : List ℕ × Declared). e.0) table ((name, declared) ∷ [])

placed-push : (modules : List ModuleTree) (table : List (List ℕ × Declared)) (e : List ℕ × Declared) → ArePlaced modules table → IsPlaced modules e.1 → ArePlaced modules (table ++ e ∷ [])
placed-push modules [] e all here = (here, tt)
placed-push modules (t ∷ ts) e all here = (all.0, placed-push modules ts e all.1 here)

pub names_after-push : (ports : List Port) (before : List Stmt) (s : Stmt) → names_after ports (before ++ s ∷ []) ≡ names_after ports before ++ name_by s
names_after-push ports before s =
    ap (λ l. port_names ports ++ l) (flat_map-append name_by before (s ∷ []) ∙ ap (λ l. flat_map name_by before ++ l) (append-nil (name_by s)))
    ∙ sym (append_assoc (port_names ports) (flat_map name_by before) (name_by s))

pub scope_after-push : (modules : List ModuleTree) (ports : List Port) (before : List Stmt) (s : Stmt) → scope_after modules ports (before ++ s ∷ []) ≡ scope_after modules ports before ++ entries_by modules s
scope_after-push modules ports before s =
    ap (λ l. map entry_by_port ports ++ l) (flat_map-append (entries_by modules) before (s ∷ []) ∙ ap (λ l. flat_map (entries_by modules) before ++ l) (append-nil (entries_by modules s)))
    ∙ sym (append_assoc (map entry_by_port ports) (flat_map (entries_by modules) before) (entries_by modules s))

length-told : (table : List (List ℕ × Declared)) → length (names_told table) ≡ length table
length-told [] = refl
length-told (e ∷ es) = ap (λ n. suc n) (length-told es)

-- ---- what a table tells of the whole scope

-- what the table tells now, without the clause on the first statements
pub record TellsNow (modules : List ModuleTree) (scope : List (Reference × Role)) (names : List (List ℕ)) (table : List (List ℕ × Declared)) : Type 0 where
  pub names_are : names_told table ≡ names
  pub placed : ArePlaced modules table
  pub tells : (r : Reference) → entry_of r scope ≡ found modules table r

pub now-more : (modules : List ModuleTree) (scope : List (Reference × Role)) (names : List (List ℕ)) (table new : List (List ℕ × Declared)) (name : List ℕ) (declared : Declared) (block : List (Reference × Role)) → Fresh name table → IsPlaced modules declared → IsBlock modules name declared block → Declares name declared table new → TellsNow modules scope names table → TellsNow modules (scope ++ block) (names ++ name ∷ []) new
now-more modules scope names table new name declared block fresh placed is_block declares now = record {
  names_are = ap names_told declares ∙ names_told-push table name declared ∙ ap (λ l. l ++ name ∷ []) now.names_are;
  placed = subst (ArePlaced modules) (sym declares) (placed-push modules table (name, declared) now.placed placed);
  tells = λ r. found-more modules scope table name declared block fresh is_block now.tells r ∙ ap (λ t. found modules t r) (sym declares);
}

pub now-start : (modules : List ModuleTree) → TellsNow modules [] [] []
now-start modules = record { names_are = refl; placed = tt; tells = λ r. refl }

-- ---- the ports

-- the table tells of ports alone
pub TellsPorts : List ModuleTree → List Port → List (List ℕ × Declared) → Type 0
TellsPorts modules ports table = TellsNow modules (map entry_by_port ports) (port_names ports) table

pub ports-start : (modules : List ModuleTree) → TellsPorts modules [] []
unfolding TellsPorts
ports-start modules = now-start modules

pub ports-more : (modules : List ModuleTree) (ports : List Port) (p : Port) (table new : List (List ℕ × Declared)) → Fresh p.name table → Declares p.name (Plain (role_of_port p.direction)) table new → TellsPorts modules ports table → TellsPorts modules (ports ++ p ∷ []) new
unfolding TellsPorts
ports-more modules ports p table new fresh declares now =
    let more = now-more modules (map entry_by_port ports) (port_names ports) table new p.name (Plain (role_of_port p.direction)) (entry_by_port p ∷ []) fresh tt (plain-block modules p.name (role_of_port p.direction)) declares now in
    subst (λ scope. TellsNow modules scope (port_names (ports ++ p ∷ [])) new) (sym (map-append entry_by_port ports (p ∷ [])))
    (subst (λ names. TellsNow modules (map entry_by_port ports ++ entry_by_port p ∷ []) names new) (sym (map-append (λ (q : Port). q.name) ports (p ∷ []))) more)

abbrev no_statements : List Stmt
no_statements = []

take-nil : (n : ℕ) → take n no_statements ≡ []
take-nil zero = refl
take-nil (suc n) = refl

-- a table of all ports tells of the scope before the first statement
pub ports-told : (modules : List ModuleTree) (ports : List Port) (table : List (List ℕ × Declared)) → TellsPorts modules ports table → TellsScope modules ports [] table
unfolding TellsPorts
ports-told modules ports table now =
    let names : names_told table ≡ names_after ports [] = now.names_are ∙ sym (append-nil (port_names ports)) in
    let count : length table ≡ length (names_after ports []) = sym (length-told table) ∙ ap length names in
    record {
      names_are = names;
      placed = now.placed;
      tells = λ n r.
          ap (λ l. entry_of r (scope_after modules ports l)) (take-nil n)
          ∙ ap (entry_of r) (append-nil (map entry_by_port ports))
          ∙ now.tells r
          ∙ ap (λ t. found modules t r) (sym (take_all (length (names_after ports [])) table (omega (arith, count))))
          ∙ ap (λ l. found modules (take (length (names_after ports l)) table) r) (sym (take-nil n));
    }

-- ---- statements

whole : (modules : List ModuleTree) (ports : List Port) (before : List Stmt) (table : List (List ℕ × Declared)) → TellsScope modules ports before table → TellsNow modules (scope_after modules ports before) (names_after ports before) table
whole modules ports before table told =
    let all : take (length before) before ≡ before = take_all (length before) before (omega arith) in
    let count : length table ≡ length (names_after ports before) = sym (length-told table) ∙ ap length told.names_are in
    record {
      names_are = told.names_are;
      placed = told.placed;
      tells = λ r.
          ap (λ l. entry_of r (scope_after modules ports l)) (sym all)
          ∙ told.tells (length before) r
          ∙ ap (λ l. found modules (take (length (names_after ports l)) table) r) all
          ∙ ap (λ t. found modules t r) (take_all (length (names_after ports before)) table (omega (arith, count)));
    }

-- what a reference stands for in the whole scope, found in the table
pub scope-found : (modules : List ModuleTree) (ports : List Port) (statements : List Stmt) (table : List (List ℕ × Declared)) → TellsScope modules ports statements table → (r : Reference) → entry_of r (scope_after modules ports statements) ≡ found modules table r
scope-found modules ports statements table told r = (whole modules ports statements table told).tells r

pub names-front : (ports : List Port) (before : List Stmt) (n : ℕ) → length (names_after ports (take n before)) ≤ length (names_after ports before)
names-front ports before n =
    let parts : names_after ports before ≡ names_after ports (take n before) ++ flat_map name_by (drop n before) =
    ap (names_after ports) (sym (take-append-drop n before))
    ∙ ap (λ l. port_names ports ++ l) (flat_map-append name_by (take n before) (drop n before))
    ∙ sym (append_assoc (port_names ports) (flat_map name_by (take n before)) (flat_map name_by (drop n before))) in
    omega (arith, ap length parts, length-append (names_after ports (take n before)) (flat_map name_by (drop n before)))

-- if the new table tells of the scope after the statement, and its front of those before, it tells of the scope at each place
scope-more : (modules : List ModuleTree) (ports : List Port) (before : List Stmt) (s : Stmt) (table added new : List (List ℕ × Declared)) → new ≡ table ++ added → TellsScope modules ports before table → TellsNow modules (scope_after modules ports (before ++ s ∷ [])) (names_after ports (before ++ s ∷ [])) new → TellsScope modules ports (before ++ s ∷ []) new
scope-more modules ports before s table added new grown told now =
    record {
      names_are = now.names_are;
      placed = now.placed;
      tells = λ n r. go n r (nat_le (suc n) (length (before ++ s ∷ []))) refl;
    }
  where
    count : length table ≡ length (names_after ports before)
    count = sym (length-told table) ∙ ap length told.names_are

    count-new : length new ≡ length (names_after ports (before ++ s ∷ []))
    count-new = sym (length-told new) ∙ ap length now.names_are

    early : (n : ℕ) (r : Reference) → n ≤ length before → entry_of r (scope_after modules ports (take n (before ++ s ∷ []))) ≡ found modules (take (length (names_after ports (take n (before ++ s ∷ [])))) new) r
    early n r le =
        let front : take n (before ++ s ∷ []) ≡ take n before = take-append-le n before (s ∷ []) le in
        let short : length (names_after ports (take n before)) ≤ length table = omega (arith, names-front ports before n, count) in
        ap (λ l. entry_of r (scope_after modules ports l)) front
        ∙ told.tells n r
        ∙ ap (λ t. found modules t r) (sym (ap (take (length (names_after ports (take n before)))) grown ∙ take-append-le (length (names_after ports (take n before))) table added short))
        ∙ ap (λ l. found modules (take (length (names_after ports l)) new) r) (sym front)

    late : (n : ℕ) (r : Reference) → length before < n → entry_of r (scope_after modules ports (take n (before ++ s ∷ []))) ≡ found modules (take (length (names_after ports (take n (before ++ s ∷ [])))) new) r
    late n r lt =
        let all : take n (before ++ s ∷ []) ≡ before ++ s ∷ [] = take_all n (before ++ s ∷ []) (omega (arith, length-append before (s ∷ []))) in
        ap (λ l. entry_of r (scope_after modules ports l)) all
        ∙ now.tells r
        ∙ ap (λ t. found modules t r) (sym (take_all (length (names_after ports (before ++ s ∷ []))) new (omega (arith, count-new))))
        ∙ ap (λ l. found modules (take (length (names_after ports l)) new) r) (sym all)

    go : (n : ℕ) (r : Reference) (b : Bool) → nat_le (suc n) (length (before ++ s ∷ [])) ≡ b → entry_of r (scope_after modules ports (take n (before ++ s ∷ []))) ≡ found modules (take (length (names_after ports (take n (before ++ s ∷ [])))) new) r
    go n r true e = early n r (grind (arith, nat_tests, e, length-append before (s ∷ [])))
    go n r false e = late n r (grind (arith, nat_tests, e, length-append before (s ∷ [])))

-- after a statement that declares nothing, the same table tells of the scope
scope-same : (modules : List ModuleTree) (ports : List Port) (before : List Stmt) (s : Stmt) (table new : List (List ℕ × Declared)) → entries_by modules s ≡ [] → name_by s ≡ [] → new ≡ table → TellsScope modules ports before table → TellsScope modules ports (before ++ s ∷ []) new
scope-same modules ports before s table new no_entries no_names same told =
    let scope : scope_after modules ports (before ++ s ∷ []) ≡ scope_after modules ports before =
    scope_after-push modules ports before s ∙ ap (λ l. scope_after modules ports before ++ l) no_entries ∙ append-nil (scope_after modules ports before) in
    let names : names_after ports (before ++ s ∷ []) ≡ names_after ports before =
    names_after-push ports before s ∙ ap (λ l. names_after ports before ++ l) no_names ∙ append-nil (names_after ports before) in
    scope-more modules ports before s table [] new (same ∙ sym (append-nil table)) told
    (subst (λ l. TellsNow modules l (names_after ports (before ++ s ∷ [])) new) (sym scope)
    (subst (λ l. TellsNow modules (scope_after modules ports before) l new) (sym names)
    (subst (TellsNow modules (scope_after modules ports before) (names_after ports before)) (sym same) (whole modules ports before table told))))

-- after a statement that declares a name, the table with this name tells of the scope
scope-declared : (modules : List ModuleTree) (ports : List Port) (before : List Stmt) (s : Stmt) (table new : List (List ℕ × Declared)) (name : List ℕ) (declared : Declared) → name_by s ≡ name ∷ [] → IsBlock modules name declared (entries_by modules s) → Fresh name table → IsPlaced modules declared → Declares name declared table new → TellsScope modules ports before table → TellsScope modules ports (before ++ s ∷ []) new
scope-declared modules ports before s table new name declared named is_block fresh placed declares told =
    let more = now-more modules (scope_after modules ports before) (names_after ports before) table new name declared (entries_by modules s) fresh placed is_block declares (whole modules ports before table told) in
    let names : names_after ports (before ++ s ∷ []) ≡ names_after ports before ++ name ∷ [] = names_after-push ports before s ∙ ap (λ l. names_after ports before ++ l) named in
    scope-more modules ports before s table ((name, declared) ∷ []) new declares told
    (subst (λ l. TellsNow modules l (names_after ports (before ++ s ∷ [])) new) (sym (scope_after-push modules ports before s))
    (subst (λ l. TellsNow modules (scope_after modules ports before ++ entries_by modules s) l new) (sym names) more))

placed-at : (modules : List ModuleTree) (of_module : List ℕ) → IsPlaced modules (Instance (place_of of_module (names_of modules)))
placed-at modules of_module = go (place_of of_module (names_of modules)) refl
  where
    go : (o : Option ℕ) → place_of of_module (names_of modules) ≡ o → IsPlaced modules (Instance (place_of of_module (names_of modules)))
    go None e = rw e tt
    go (Some k) e = rw e (at-place modules of_module k e).within

append-first : {A : Type 0} (xs ys : List A) → xs ++ ys ≡ [] → xs ≡ []
append-first [] ys h = refl
append-first (x ∷ xs) ys h = cc

-- The table after a statement that repeats no name tells of the scope after it.
pub statement-told : (modules : List ModuleTree) (ports : List Port) (before : List Stmt) (s : Stmt) (table new : List (List ℕ × Declared)) → repeated_by_kind (names_told table) s.line s.kind ≡ [] → DeclaresBy modules s.kind table new → TellsScope modules ports before table → TellsScope modules ports (before ++ s ∷ []) new
statement-told modules ports before s table new none declares told = go s.kind refl none declares
  where
    fresh : (name : List ℕ) → repeated_in (names_told table) s.line name ≡ [] → Fresh name table
    fresh name h = fresh-name name table s.line h

    entries : (kind : statements.StmtKind) → s.kind ≡ kind → entries_by modules s ≡ entries_by_kind modules kind
    entries kind e = ap (entries_by_kind modules) e

    same : (kind : statements.StmtKind) → s.kind ≡ kind → entries_by_kind modules kind ≡ [] → name_by_kind kind ≡ [] → new ≡ table → TellsScope modules ports (before ++ s ∷ []) new
    same kind e a b c = scope-same modules ports before s table new (ap (entries_by_kind modules) e ∙ a) (ap name_by_kind e ∙ b) c told

    more : (kind : statements.StmtKind) (name : List ℕ) (declared : Declared) → s.kind ≡ kind → name_by_kind kind ≡ name ∷ [] → IsBlock modules name declared (entries_by_kind modules kind) → repeated_in (names_told table) s.line name ≡ [] → IsPlaced modules declared → Declares name declared table new → TellsScope modules ports (before ++ s ∷ []) new
    more kind name declared e named is_block f placed d =
        scope-declared modules ports before s table new name declared (ap name_by_kind e ∙ named) (subst (IsBlock modules name declared) (sym (ap (entries_by_kind modules) e)) is_block) (fresh name f) placed d told

    go : (kind : statements.StmtKind) → s.kind ≡ kind → repeated_by_kind (names_told table) s.line s.kind ≡ [] → DeclaresBy modules s.kind table new → TellsScope modules ports (before ++ s ∷ []) new
    go kind e f d = by kind e (sym (ap (repeated_by_kind (names_told table) s.line) e) ∙ f) (subst (λ k. DeclaresBy modules k table new) e d)
      where
        by : (kind : statements.StmtKind) → s.kind ≡ kind → repeated_by_kind (names_told table) s.line kind ≡ [] → DeclaresBy modules kind table new → TellsScope modules ports (before ++ s ∷ []) new
        by (kinds.Wire name ty) e f d = more (kinds.Wire name ty) name (Plain roles.Wire) e refl (plain-block modules name roles.Wire) f tt d
        by (kinds.Node name value) e f d = more (kinds.Node name value) name (Plain roles.Node) e refl (plain-block modules name roles.Node) f tt d
        by (kinds.Register name ty clock reset) e f d = more (kinds.Register name ty clock reset) name (Plain roles.Register) e refl (plain-block modules name roles.Register) f tt d
        by (kinds.Instance name of_module) e f d = more (kinds.Instance name of_module) name (Instance (place_of of_module (names_of modules))) e refl (instance-block modules name of_module) f (placed-at modules of_module) d
        by (kinds.Memory name fields) e f d = more (kinds.Memory name fields) name (Memory d.readers d.writers) e refl (memory-block name modules fields d.readers d.writers d.ports) (append-first (repeated_in (names_told table) s.line name) (along repeated_in_field fields) f) tt d.declares
        by (kinds.Connect sink source) e f d = same (kinds.Connect sink source) e refl refl d
        by (kinds.Invalid sink) e f d = same (kinds.Invalid sink) e refl refl d
        by kinds.Skip e f d = same kinds.Skip e refl refl d
        by (kinds.Stop clock condition code label) e f d = same (kinds.Stop clock condition code label) e refl refl d
        by (kinds.Report word arguments label) e f d = same (kinds.Report word arguments label) e refl refl d

-- ---- the first declarations alone

-- what a reference stands for among the first declarations
pub found-before : (modules : List ModuleTree) (table : List (List ℕ × Declared)) (count : ℕ) (r : Reference) → found modules (take count table) r ≡ if_before (place_of (first_name r) (names_told table)) count (found modules table r)
found-before modules table count r =
    ap (λ o. through_found modules o r) (value_of-take (first_name r) table count) ∙ go (place_of (first_name r) (names_told table))
  where
    go : (o : Option ℕ) → through_found modules (if_before o count (find_word (first_name r) table)) r ≡ if_before o count (found modules table r)
    go None = refl
    go (Some k) = pick (nat_lt k count)
      where
        pick : (b : Bool) → through_found modules (if b then find_word (first_name r) table else None) r ≡ (if b then found modules table r else None)
        pick true = refl
        pick false = refl

-- ---- steps of the loops

-- a table of ports alone has the names of the ports
pub ports-names : (modules : List ModuleTree) (ports : List Port) (table : List (List ℕ × Declared)) → TellsPorts modules ports table → names_told table ≡ names_after ports []
unfolding TellsPorts
ports-names modules ports table now = now.names_are ∙ sym (append-nil (port_names ports))

-- the table after the next port
pub ports-next : (modules : List ModuleTree) (ports : List Port) (i : ℕ) (p : Port) (table new : List (List ℕ × Declared)) → i < length ports → p ≡ get_or ports i p → repeated_in (names_told table) p.line p.name ≡ [] → Declares p.name (Plain (role_of_port p.direction)) table new → TellsPorts modules (take i ports) table → TellsPorts modules (take (i + 1) ports) new
ports-next modules ports i p table new lt is none declares told =
    subst (λ l. TellsPorts modules l new) (sym (take_more ports i p lt ∙ ap (λ x. take i ports ++ x ∷ []) (sym is)))
    (ports-more modules (take i ports) p table new (fresh-name p.name table p.line none) declares told)

-- the table after all ports
pub ports-all : (modules : List ModuleTree) (ports : List Port) (i : ℕ) (table : List (List ℕ × Declared)) → length ports ≤ i → TellsPorts modules (take i ports) table → TellsScope modules ports [] table
ports-all modules ports i table le told = ports-told modules ports table (subst (λ l. TellsPorts modules l table) (take_all i ports le) told)

-- the table after the next statement
pub statements-next : (modules : List ModuleTree) (ports : List Port) (statements : List Stmt) (i : ℕ) (s : Stmt) (table new : List (List ℕ × Declared)) → i < length statements → s ≡ get_or statements i s → repeated_by_kind (names_told table) s.line s.kind ≡ [] → DeclaresBy modules s.kind table new → TellsScope modules ports (take i statements) table → TellsScope modules ports (take (i + 1) statements) new
statements-next modules ports statements i s table new lt is none declares told =
    subst (λ l. TellsScope modules ports l new) (sym (take_more statements i s lt ∙ ap (λ x. take i statements ++ x ∷ []) (sym is)))
    (statement-told modules ports (take i statements) s table new none declares told)
