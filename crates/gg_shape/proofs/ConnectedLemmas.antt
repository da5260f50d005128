-- Sets of keys, and the lists of references that contracts see in their place.
use Rattle.std.proofs.Common.{◌≡◌, ℕ, ◌+◌, ◌<◌, Bool, true, false, true≢false, ◌&&◌, ◌||◌, List, [], ◌∷◌, ◌++◌, length, map, take, get_or, Some, refl, sym, ap, subst, ◌∙◌, if◌then◌else◌}
use Rattle.std.specs.List.{list_any}
use Rattle.std.specs.Str.{bytes_eq}
use Rattle.std.proofs.lemmas.List.Folds.{list_any-append}
use Rattle.std.proofs.lemmas.List.{map-append, take_more}
use Rattle.std.proofs.lemmas.Slice.Eq.{bytes_eq-Decides}
use Rattle.std.proofs.Math.Bool.{or-false, or-true}
use Rattle.std.proofs.lemmas.Bool.{and_parts}
use Rattle.indexmap.specs.IndexSet.{insert_key}
use Rattle.gg_ast.specs.declared.expression.Reference.{Reference}
use Rattle.gg_ast.specs.declared.expression.Reference.TheVariants as references
use Rattle.gg_ast.specs.declared.statement.Stmt.{Stmt}
use Rattle.gg_shape_names.specs.Namespace.{connected_by, connects, is_reference_to}
use Rattle.gg_shape_names.specs.Scope.{same_reference}
use Rattle.gg_shape.specs.Shape.{is_connected}
use Rattle.gg_shape.specs.declared.connected.Key.{Key}
use Rattle.gg_shape.specs.contracts.connected.KeyPartialEq.TheImpl.{eq-value}
use Rattle.gg_shape.specs.declared.connected.Key.TheVariants.{Local, PortOf, FieldOf}
use Rattle.gg_shape.specs.inside.Told.{reference_of, is_among, TellsConnected}

module _ (eq : Key → Key → Bool) (is_same : (a b : Key) → eq a b ≡ same_reference (reference_of a) (reference_of b)) where
  among-keys : (k : Key) (keys : List Key) → list_any (eq k) keys ≡ is_among (map reference_of keys) (reference_of k)
  among-keys k [] = refl
  among-keys k (x ∷ xs) = ap (λ b. b || list_any (eq k) xs) (is_same k x) ∙ ap (λ b. same_reference (reference_of k) (reference_of x) || b) (among-keys k xs)

-- the equality of keys is the one of the references that they stand for
own : (a b : Key) → eq-value.it a b ≡ same_reference (reference_of a) (reference_of b)
own (Local a) (Local x) = refl
own (Local a) (PortOf x y) = refl
own (Local a) (FieldOf x y z) = refl
own (PortOf a b) (Local x) = refl
own (PortOf a b) (PortOf x y) = refl
own (PortOf a b) (FieldOf x y z) = refl
own (FieldOf a b c) (Local x) = refl
own (FieldOf a b c) (PortOf x y) = refl
own (FieldOf a b c) (FieldOf x y z) = refl

-- references that the comparison finds the same are equal
same-is : (a b : Reference) → same_reference a b ≡ true → a ≡ b
same-is (references.Local a) (references.Local x) h = ap references.Local ((bytes_eq-Decides a x).0 h)
same-is (references.Local a) (references.PortOf x y) h = absurd (true≢false (sym h))
same-is (references.Local a) (references.FieldOf x y z) h = absurd (true≢false (sym h))
same-is (references.PortOf a b) (references.Local x) h = absurd (true≢false (sym h))
same-is (references.PortOf a b) (references.PortOf x y) h =
    let p = and_parts (bytes_eq a x) (bytes_eq b y) h in
    ap (λ l. references.PortOf l b) ((bytes_eq-Decides a x).0 p.0) ∙ ap (references.PortOf x) ((bytes_eq-Decides b y).0 p.1)
same-is (references.PortOf a b) (references.FieldOf x y z) h = absurd (true≢false (sym h))
same-is (references.FieldOf a b c) (references.Local x) h = absurd (true≢false (sym h))
same-is (references.FieldOf a b c) (references.PortOf x y) h = absurd (true≢false (sym h))
same-is (references.FieldOf a b c) (references.FieldOf x y z) h =
    let p = and_parts (bytes_eq a x) (bytes_eq b y && bytes_eq c z) h in
    let q = and_parts (bytes_eq b y) (bytes_eq c z) p.1 in
    ap (λ l. references.FieldOf l b c) ((bytes_eq-Decides a x).0 p.0)
    ∙ ap (λ l. references.FieldOf x l c) ((bytes_eq-Decides b y).0 q.0)
    ∙ ap (references.FieldOf x y) ((bytes_eq-Decides c z).0 q.1)

-- a list with one more reference
pub among-push : (r q : Reference) (refs : List Reference) → is_among (refs ++ q ∷ []) r ≡ is_among refs r || same_reference r q
among-push r q refs = list_any-append (same_reference r) refs (q ∷ []) ∙ ap (λ b. is_among refs r || b) (or-false (same_reference r q))

-- a reference that is there already adds nothing
among-again : (r q : Reference) (refs : List Reference) → is_among refs q ≡ true → is_among refs r ≡ is_among (refs ++ q ∷ []) r
among-again r q refs there = go (same_reference r q) refl ∙ sym (among-push r q refs)
  where
    go : (b : Bool) → same_reference r q ≡ b → is_among refs r ≡ is_among refs r || same_reference r q
    go true e = ap (is_among refs) (same-is r q e) ∙ there ∙ sym (ap (λ b. is_among refs r || b) e ∙ or-true (is_among refs r))
    go false e = sym (ap (λ b. is_among refs r || b) e ∙ or-false (is_among refs r))

pub among-inserted : (r : Reference) (keys : List Key) (k : Key) → is_among (map reference_of (insert_key eq-value.it keys k)) r ≡ is_among (map reference_of keys ++ reference_of k ∷ []) r
among-inserted r keys k = go (list_any (eq-value.it k) keys) refl
  where
    go : (b : Bool) → list_any (eq-value.it k) keys ≡ b → is_among (map reference_of (insert_key eq-value.it keys k)) r ≡ is_among (map reference_of keys ++ reference_of k ∷ []) r
    go true e =
        ap (λ b. is_among (map reference_of (if b then keys else keys ++ k ∷ [])) r) e
        ∙ among-again r (reference_of k) (map reference_of keys) (sym (among-keys eq-value.it own k keys) ∙ e)
    go false e =
        ap (λ b. is_among (map reference_of (if b then keys else keys ++ k ∷ [])) r) e
        ∙ ap (λ l. is_among l r) (map-append reference_of keys (k ∷ []))

pub among-own : (k : Key) (keys : List Key) → list_any (eq-value.it k) keys ≡ is_among (map reference_of keys) (reference_of k)
among-own k keys = among-keys eq-value.it own k keys

-- ---- what statements connect

connected-push : (before : List Stmt) (s : Stmt) (r : Reference) → is_connected (before ++ s ∷ []) r ≡ is_connected before r || connects r s
connected-push before s r = list_any-append (connects r) before (s ∷ []) ∙ ap (λ b. is_connected before r || b) (or-false (connects r s))

-- after a statement that connects q, the list with q added tells what the statements connect
pub told-more : (before : List Stmt) (s : Stmt) (q : Reference) (refs new : List Reference) → connected_by s ≡ Some q → ((r : Reference) → is_among new r ≡ is_among (refs ++ q ∷ []) r) → TellsConnected before refs → TellsConnected (before ++ s ∷ []) new
told-more before s q refs new is grown told = λ r.
    grown r ∙ among-push r q refs ∙ ap (λ b. b || same_reference r q) (told r)
    ∙ ap (λ o. is_connected before r || is_reference_to r o) (sym is)
    ∙ sym (connected-push before s r)

-- the first i statements and the next one are the first i + 1
pub told-next : (statements : List Stmt) (i : ℕ) (s : Stmt) (refs : List Reference) → i < length statements → s ≡ get_or statements i s → TellsConnected (take i statements ++ s ∷ []) refs → TellsConnected (take (i + 1) statements) refs
told-next statements i s refs lt is told =
    subst (λ l. TellsConnected l refs) (sym (take_more statements i s lt ∙ ap (λ x. take i statements ++ x ∷ []) (sym is))) told
