-- What a module declares: where no name comes twice, its names are distinct, and each is declared by one statement.
use Rattle.std.proofs.Common.{◌≡◌, ◌≢◌, ◌⊎◌, inl, inr, ℕ, zero, suc, ◌-◌, ◌<◌, ◌≤◌, Bool, true, false, ◌||◌, List, [], ◌∷◌, ◌++◌, Option, Some, None, length, get_or, refl, sym, ap, ◌∙◌, subst, arith, append_assoc, append-nil, length-append, true≢false}
use Rattle.std.specs.Prelude.{flat_map, filter_map, Contains, option_map}
use Rattle.std.specs.List.{list_any, cons_option}
use Rattle.std.specs.Bool.{Decides}
use Rattle.std.specs.Str.{bytes_eq}
use Rattle.std.proofs.lemmas.Bool.{cases_lt}
use Rattle.std.proofs.lemmas.List.{map-append}
use Rattle.std.proofs.lemmas.List.Elements.{Contains-append_left, Contains-append_right}
use Rattle.std.proofs.lemmas.Grind.{flat_map-append}
use Rattle.std.proofs.lemmas.Slice.Eq.{bytes_eq-Decides}
use Rattle.std.proofs.Math.Seq.{get_or-append_right}
use Rattle.std.proofs.lemmas.List.{get_or_default}
use Rattle.gg_ast.specs.declared.module.Port.{Port}
use Rattle.gg_ast.specs.declared.statement.Stmt.{Stmt}
use Rattle.gg_ast.specs.declared.statement.StmtKind.{StmtKind}
use Rattle.gg_ast.specs.declared.statement.StmtKind.TheVariants as says
use Rattle.gg_ast.specs.Places.{place_of}
use Rattle.gg_ast.specs.Tree.{ModuleTree, empty_module, names_of}
use Rattle.gg_shape_names.specs.Along.{along, along_from}
use Rattle.gg_shape_names.specs.Namespace.{name_by, name_by_kind, port_names, names_after}
use Rattle.gg_shape_names.specs.inside.Namespace.{names_in}
use Rattle.gg_shape_names.specs.Repetitions.{repetition_if, repeated_in, repeated_in_field, repeated_port, repeated_by_kind, repeated_by, repeated_declarations, repeated_module}
use Rattle.gg_elab_sites.specs.Sites.{Held, held, held_by, held_by_kind}
use Rattle.gg_types.specs.Memories.{Bank, bank_of}
use Rattle.gg_elab_sites.specs.Signals.{OwnBank, own_bank, own_banks, bank_of_kind}
use Rattle.gg_elab_sites.proofs.NameLemmas.{Differ, Differ-tail}
use Rattle.gg_elab_tree.proofs.ElementLemmas.{value_or}
use Rattle.gg_elab_tree.proofs.OwnLemmas.{front}

-- ---- lists of names

abbrev is_empty : {A : Type 0} → List A → Bool
is_empty [] = true
is_empty (x ∷ xs) = false

pub append-none : {A : Type 0} (xs ys : List A) → xs ++ ys ≡ [] → (xs ≡ []) × (ys ≡ [])
append-none [] ys h = (refl, h)
append-none (x ∷ xs) ys h = absurd (true≢false (sym (ap is_empty h)))

any-true : (n : List ℕ) (names : List (List ℕ)) → Contains names n → list_any (bytes_eq n) names ≡ true
any-true n [] c = absurd (omega (arith, c.1))
any-true n (x ∷ xs) c = go (bytes_eq n x) refl (bytes_eq-Decides n x) c (any-true n xs)
  where
    go : (b : Bool) → bytes_eq n x ≡ b → Decides (bytes_eq n x) (n ≡ x) → Contains (x ∷ xs) n → (Contains xs n → list_any (bytes_eq n) xs ≡ true) → (b || list_any (bytes_eq n) xs) ≡ true
    go true e d c next = refl
    go false e d (zero, lt, is) next = absurd (true≢false (sym (d.1 (sym is)) ∙ e))
    go false e d (suc k, lt, is) next = next (k, omega (arith, lt), is)

-- a name that isn't repeated isn't among those before it
pub fresh : (names : List (List ℕ)) (line : ℕ) (n : List ℕ) → repeated_in names line n ≡ [] → ¬ Contains names n
fresh names line n h c =
    let never : repetition_if true line n ≡ [] = ap (λ b. repetition_if b line n) (sym (any-true n names c)) ∙ h in
    true≢false (sym (ap is_empty never))

pub Differ-snoc : (xs : List (List ℕ)) (n : List ℕ) → Differ xs → ¬ Contains xs n → Differ (xs ++ n ∷ [])
Differ-snoc xs n d new i j e lt within same = go (cases_lt j (length xs))
  where
    go : (j < length xs) ⊎ (length xs ≤ j) → ⊥
    go (inl inside) = d i j e lt inside (sym (front xs (n ∷ []) i e (omega (arith, lt, inside))) ∙ same ∙ front xs (n ∷ []) j e inside)
    go (inr behind) =
        let size = length-append xs (n ∷ []) in
        let last : j - length xs ≡ 0 = omega (arith, within, size, behind) in
        let there : get_or (xs ++ n ∷ []) j e ≡ n = get_or-append_right xs (n ∷ []) j e behind ∙ ap (λ k. get_or (n ∷ []) k e) last in
        let inside : i < length xs = omega (arith, lt, within, size) in
        let here : get_or xs i e ≡ n = sym (front xs (n ∷ []) i e inside) ∙ same ∙ there in
        new (i, inside, get_or_default xs i n e inside ∙ here)

-- the first of distinct names isn't among the others
pub Differ-head : (n : List ℕ) (ns : List (List ℕ)) → Differ (n ∷ ns) → ¬ Contains ns n
Differ-head n ns d c = d 0 (suc c.0) n (omega arith) (omega (arith, c.1)) (sym c.2)

pub Differ-behind : (xs ys : List (List ℕ)) → Differ (xs ++ ys) → Differ ys
Differ-behind [] ys d = d
Differ-behind (x ∷ xs) ys d = Differ-behind xs ys (Differ-tail x (xs ++ ys) d)

-- where all names of two lists together are distinct, a name of the first isn't in the second
pub Differ-parts : (xs ys : List (List ℕ)) (n : List ℕ) → Differ (xs ++ ys) → Contains xs n → ¬ Contains ys n
Differ-parts [] ys n d c k = absurd (omega (arith, c.1))
Differ-parts (x ∷ xs) ys n d (zero, lt, is) k = Differ-head x (xs ++ ys) d (subst (Contains (xs ++ ys)) (sym is) (Contains-append_right xs ys n k))
Differ-parts (x ∷ xs) ys n d (suc i, lt, is) k = Differ-parts xs ys n (Differ-tail x (xs ++ ys) d) (i, omega (arith, lt), is) k

-- ---- the names of a module

ports-differ : (before ports : List Port) → Differ (port_names before) → along_from repeated_port before ports ≡ [] → Differ (port_names (before ++ ports))
ports-differ before [] d h = subst (λ l. Differ (port_names l)) (sym (append-nil before)) d
ports-differ before (p ∷ ps) d h =
    let parts = append-none (repeated_port before p) (along_from repeated_port (before ++ p ∷ []) ps) h in
    let new : ¬ Contains (port_names before) p.name = subst (λ l. ¬ Contains l p.name) (append-nil (port_names before)) (fresh (names_after before []) p.line p.name parts.0) in
    let more : Differ (port_names (before ++ p ∷ [])) = subst Differ (sym (map-append (λ (q : Port). q.name) before (p ∷ []))) (Differ-snoc (port_names before) p.name d new) in
    subst (λ l. Differ (port_names l)) (append_assoc before (p ∷ []) ps) (ports-differ (before ++ p ∷ []) ps more parts.1)

kind-differs : (names : List (List ℕ)) (line : ℕ) (kind : StmtKind) → Differ names → repeated_by_kind names line kind ≡ [] → Differ (names ++ name_by_kind kind)
kind-differs names line (says.Wire name ty) d h = Differ-snoc names name d (fresh names line name h)
kind-differs names line (says.Node name value) d h = Differ-snoc names name d (fresh names line name h)
kind-differs names line (says.Register name ty clock reset) d h = Differ-snoc names name d (fresh names line name h)
kind-differs names line (says.Instance name m) d h = Differ-snoc names name d (fresh names line name h)
kind-differs names line (says.Memory name fields) d h = Differ-snoc names name d (fresh names line name (append-none (repeated_in names line name) (along repeated_in_field fields) h).0)
kind-differs names line (says.Connect sink source) d h = subst Differ (sym (append-nil names)) d
kind-differs names line (says.Invalid sink) d h = subst Differ (sym (append-nil names)) d
kind-differs names line says.Skip d h = subst Differ (sym (append-nil names)) d
kind-differs names line (says.Stop clock condition code label) d h = subst Differ (sym (append-nil names)) d
kind-differs names line (says.Report word arguments label) d h = subst Differ (sym (append-nil names)) d

statements-differ : (ports : List Port) (before ss : List Stmt) → Differ (names_after ports before) → along_from (repeated_by ports) before ss ≡ [] → Differ (names_after ports (before ++ ss))
statements-differ ports before [] d h = subst (λ l. Differ (names_after ports l)) (sym (append-nil before)) d
statements-differ ports before (s ∷ ss) d h =
    let parts = append-none (repeated_by ports before s) (along_from (repeated_by ports) (before ++ s ∷ []) ss) h in
    let more : Differ (names_after ports before ++ name_by_kind s.kind) = kind-differs (names_after ports before) s.line s.kind d parts.0 in
    let same : names_after ports before ++ name_by_kind s.kind ≡ names_after ports (before ++ s ∷ []) =
    append_assoc (port_names ports) (flat_map name_by before) (name_by_kind s.kind)
    ∙ ap (λ l. port_names ports ++ l) (sym (flat_map-append name_by before (s ∷ []) ∙ ap (λ l. flat_map name_by before ++ l) (append-nil (name_by_kind s.kind)))) in
    subst (λ l. Differ (names_after ports l)) (append_assoc before (s ∷ []) ss) (statements-differ ports (before ++ s ∷ []) ss (subst Differ same more) parts.1)

-- the names that a module declares are distinct
pub names-differ : (m : ModuleTree) → repeated_declarations m ≡ [] → Differ (names_in m)
names-differ m h =
    let parts = append-none (along repeated_port m.ports) (along (repeated_by m.ports) m.statements) h in
    let ports = ports-differ [] m.ports (λ i j e lt within. absurd (omega (arith, lt, within))) parts.0 in
    statements-differ m.ports [] m.statements (subst Differ (sym (append-nil (port_names m.ports))) ports) parts.1

-- where no name of a circuit comes twice, no declaration of any of its modules is repeated
pub module-declared : (before modules : List ModuleTree) (k : ℕ) → along_from repeated_module before modules ≡ [] → repeated_declarations (get_or modules k (empty_module 0 [])) ≡ []
module-declared before [] k h = refl
module-declared before (m ∷ ms) zero h =
    let parts = append-none (repeated_module before m) (along_from repeated_module (before ++ m ∷ []) ms) h in
    (append-none (repeated_in (names_of before) m.line m.name) (repeated_declarations m) parts.0).1
module-declared before (m ∷ ms) (suc k) h =
    module-declared (before ++ m ∷ []) ms k (append-none (repeated_module before m) (along_from repeated_module (before ++ m ∷ []) ms) h).1

-- ---- statements by their names

-- the name that a statement declares is among the names that all statements declare
pub name-among : (ss : List Stmt) (i : ℕ) (s : Stmt) (n : List ℕ) → i < length ss → get_or ss i s ≡ s → name_by s ≡ n ∷ [] → Contains (flat_map name_by ss) n
name-among [] i s n lt at is = absurd (omega (arith, lt))
name-among (x ∷ xs) zero s n lt at is = Contains-append_left (name_by x) (flat_map name_by xs) n (subst (λ l. Contains l n) (sym (ap name_by at ∙ is)) (0, omega arith, refl))
name-among (x ∷ xs) (suc i) s n lt at is = Contains-append_right (name_by x) (flat_map name_by xs) n (name-among xs i s n (omega (arith, lt)) at is)

-- only one statement declares a name
pub one-statement : (ss : List Stmt) (i j : ℕ) (s t : Stmt) (n : List ℕ) → Differ (flat_map name_by ss) → i < length ss → j < length ss → get_or ss i s ≡ s → get_or ss j t ≡ t → name_by s ≡ n ∷ [] → name_by t ≡ n ∷ [] → s ≡ t
one-statement [] i j s t n d lt within at there is other = absurd (omega (arith, lt))
one-statement (x ∷ xs) zero zero s t n d lt within at there is other = sym at ∙ there
one-statement (x ∷ xs) zero (suc j) s t n d lt within at there is other =
    absurd (Differ-parts (name_by x) (flat_map name_by xs) n d (subst (λ l. Contains l n) (sym (ap name_by at ∙ is)) (0, omega arith, refl)) (name-among xs j t n (omega (arith, within)) there other))
one-statement (x ∷ xs) (suc i) zero s t n d lt within at there is other =
    absurd (Differ-parts (name_by x) (flat_map name_by xs) n d (subst (λ l. Contains l n) (sym (ap name_by there ∙ other)) (0, omega arith, refl)) (name-among xs i s n (omega (arith, lt)) at is))
one-statement (x ∷ xs) (suc i) (suc j) s t n d lt within at there is other =
    one-statement xs i j s t n (Differ-behind (name_by x) (flat_map name_by xs) d) (omega (arith, lt)) (omega (arith, within)) at there is other

-- A statement of the list of which f makes y.
pub record MadeBy {B : Type 0} (f : StmtKind → Option B) (ss : List Stmt) (y : B) : Type 0 where
  pub place : ℕ
  pub statement : Stmt
  pub inside : place < length ss
  pub at : get_or ss place statement ≡ statement
  pub makes : f statement.kind ≡ Some y

pub made-by : {B : Type 0} (f : StmtKind → Option B) (ss : List Stmt) (y : B) → Contains (filter_map (λ (s : Stmt). f s.kind) ss) y → MadeBy f ss y
made-by f [] y c = absurd (omega (arith, c.1))
made-by f (s ∷ ss) y c = go (f s.kind) refl c (made-by f ss y)
  where
    further : MadeBy f ss y → MadeBy f (s ∷ ss) y
    further m = record { place = suc m.place; statement = m.statement; inside = omega (arith, m.inside); at = m.at; makes = m.makes }

    go : (o : Option _) → f s.kind ≡ o → Contains (cons_option o (filter_map (λ (s : Stmt). f s.kind) ss)) y → (Contains (filter_map (λ (s : Stmt). f s.kind) ss) y → MadeBy f ss y) → MadeBy f (s ∷ ss) y
    go None e c next = further (next c)
    go (Some z) e (zero, lt, is) next = record { place = 0; statement = s; inside = omega arith; at = refl; makes = e ∙ ap Some is }
    go (Some z) e (suc k, lt, is) next = further (next (k, omega (arith, lt), is))

-- ---- kinds

-- a statement that declares an instance declares the instance's name
pub held-named : (modules : List ModuleTree) (kind : StmtKind) (h : Held) → held_by_kind modules kind ≡ Some h → name_by_kind kind ≡ h.name ∷ []
held-named modules (says.Wire name ty) h e = absurd (cc)
held-named modules (says.Node name value) h e = absurd (cc)
held-named modules (says.Register name ty clock reset) h e = absurd (cc)
held-named modules (says.Instance name m) h e = go (place_of m (names_of modules)) e
  where
    go : (o : Option ℕ) → option_map (held name) o ≡ Some h → name ∷ [] ≡ h.name ∷ []
    go None e = absurd (cc)
    go (Some k) e = ap (λ (x : Held). x.name ∷ []) (ap (value_or h) e)
held-named modules (says.Memory name fields) h e = absurd (cc)
held-named modules (says.Connect sink source) h e = absurd (cc)
held-named modules (says.Invalid sink) h e = absurd (cc)
held-named modules says.Skip h e = absurd (cc)
held-named modules (says.Stop clock condition code label) h e = absurd (cc)
held-named modules (says.Report word arguments label) h e = absurd (cc)

pub bank-named : (kind : StmtKind) (b : OwnBank) → bank_of_kind kind ≡ Some b → name_by_kind kind ≡ b.name ∷ []
bank-named (says.Wire name ty) b e = absurd (cc)
bank-named (says.Node name value) b e = absurd (cc)
bank-named (says.Register name ty clock reset) b e = absurd (cc)
bank-named (says.Instance name m) b e = absurd (cc)
bank-named (says.Memory name fields) b e = go (bank_of fields) e
  where
    go : (o : Option Bank) → option_map (own_bank name) o ≡ Some b → name ∷ [] ≡ b.name ∷ []
    go None e = absurd (cc)
    go (Some k) e = ap (λ (x : OwnBank). x.name ∷ []) (ap (value_or b) e)
bank-named (says.Connect sink source) b e = absurd (cc)
bank-named (says.Invalid sink) b e = absurd (cc)
bank-named says.Skip b e = absurd (cc)
bank-named (says.Stop clock condition code label) b e = absurd (cc)
bank-named (says.Report word arguments label) b e = absurd (cc)

-- no statement declares both an instance and a memory
pub not-both : (modules : List ModuleTree) (kind : StmtKind) (h : Held) (b : OwnBank) → held_by_kind modules kind ≡ Some h → bank_of_kind kind ≡ Some b → ⊥
not-both modules (says.Wire name ty) h b e f = absurd (cc)
not-both modules (says.Node name value) h b e f = absurd (cc)
not-both modules (says.Register name ty clock reset) h b e f = absurd (cc)
not-both modules (says.Instance name m) h b e f = absurd (cc)
not-both modules (says.Memory name fields) h b e f = absurd (cc)
not-both modules (says.Connect sink source) h b e f = absurd (cc)
not-both modules (says.Invalid sink) h b e f = absurd (cc)
not-both modules says.Skip h b e f = absurd (cc)
not-both modules (says.Stop clock condition code label) h b e f = absurd (cc)
not-both modules (says.Report word arguments label) h b e f = absurd (cc)

-- an instance and a memory of one module have different names
pub held-no-bank : (modules : List ModuleTree) (ss : List Stmt) (h : Held) (b : OwnBank) → Differ (flat_map name_by ss) → Contains (held_by modules ss) h → Contains (own_banks ss) b → h.name ≢ b.name
held-no-bank modules ss h b d c k same =
    let m = made-by (held_by_kind modules) ss h c in
    let n = made-by bank_of_kind ss b k in
    let one = one-statement ss m.place n.place m.statement n.statement h.name d m.inside n.inside m.at n.at (held-named modules m.statement.kind h m.makes) (bank-named n.statement.kind b n.makes ∙ ap (λ x. x ∷ []) (sym same)) in
    not-both modules m.statement.kind h b m.makes (ap (λ (s : Stmt). bank_of_kind s.kind) one ∙ n.makes)
