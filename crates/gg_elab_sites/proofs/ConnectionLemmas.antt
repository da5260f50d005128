-- A table of connections that gets one more connection.
use Rattle.std.proofs.Common.{◌≡◌, ℕ, zero, suc, ◌<◌, List, [], ◌∷◌, ◌++◌, length, Option, Some, None, Bool, true, false, true≢false, refl, sym, ap, ◌∙◌, arith}
use Rattle.std.specs.Prelude.{slice_get, option_map, if◌then◌else◌, Contains, IfSome, is_some}
use Rattle.std.specs.Str.{bytes_eq}
use Rattle.std.specs.Bool.{Decides}
use Rattle.std.proofs.lemmas.Slice.Eq.{bytes_eq-Decides}
use Rattle.gg_ast.specs.declared.statement.Stmt.{Stmt}
use Rattle.gg_ast.specs.Places.{place_of}
use Rattle.gg_ast.proofs.NamePlaces.{place_after, place_of-append, place_of-below, place_of-lacks}
use Rattle.gg_elab_sites.specs.declared.connections.Source.{Source}
use Rattle.gg_elab_sites.proofs.NameLemmas.{slice_get-at}
use Rattle.gg_elab_sites.specs.Connection.{Connection, connection_by, connection_in}
use Rattle.gg_bits.specs.Lists.{or_else}
use Rattle.gg_elab_sites.specs.inside.Views.{connection, source_at, TellsConnections}

-- the elements of a list are the same with one more after them
get-push : {A : Type 0} (xs : List A) (x : A) (i : ℕ) → i < length xs → slice_get (xs ++ x ∷ []) i ≡ slice_get xs i
get-push [] x i lt = absurd (omega (arith, lt))
get-push (y ∷ ys) x zero lt = refl
get-push (y ∷ ys) x (suc i) lt = get-push ys x i (omega (arith, lt))

get-last : {A : Type 0} (xs : List A) (x : A) → slice_get (xs ++ x ∷ []) (length xs) ≡ Some x
get-last [] x = refl
get-last (y ∷ ys) x = get-last ys x

is-there : {A B : Type 0} (f : A → B) (xs : List A) (i : ℕ) (other : Option B) → i < length xs → or_else (option_map f (slice_get xs i)) other ≡ option_map f (slice_get xs i)
is-there f [] i other lt = absurd (omega (arith, lt))
is-there f (y ∷ ys) zero other lt = refl
is-there f (y ∷ ys) (suc i) other lt = is-there f ys i other (omega (arith, lt))

-- a new sink is noted with its source, and the other sinks keep theirs
noted-new : (sources : List Source) (s : Source) (p : Option ℕ) (b : Bool) (n : ℕ) → length sources ≡ n → ((i : ℕ) → p ≡ Some i → i < n) → source_at (sources ++ s ∷ []) (place_after p b n) ≡ or_else (source_at sources p) (if b then Some (connection s) else None)
noted-new sources s (Some i) b n count within =
    let lt : i < length sources = omega (arith, within i refl, count) in
    ap (option_map connection) (get-push sources s i lt) ∙ sym (is-there connection sources i (if b then Some (connection s) else None) lt)
noted-new sources s None true n count within = ap (λ k. option_map connection (slice_get (sources ++ s ∷ []) k)) (sym count) ∙ ap (option_map connection) (get-last sources s)
noted-new sources s None false n count within = refl

pub noted : (names : List (List ℕ)) (sources : List Source) (name : List ℕ) (s : Source) → length sources ≡ length names → (q : List ℕ) → source_at (sources ++ s ∷ []) (place_of q (names ++ name ∷ [])) ≡ or_else (source_at sources (place_of q names)) (if bytes_eq q name then Some (connection s) else None)
noted names sources name s count q =
    ap (source_at (sources ++ s ∷ [])) (place_of-append q names name)
    ∙ noted-new sources s (place_of q names) (bytes_eq q name) (length names) count (λ i e. place_of-below q names i e)

-- a sink that is noted already keeps its source
noted-old : (names : List (List ℕ)) (sources : List Source) (name q : List ℕ) (c : Connection) (p : Option ℕ) (b : Bool) → place_of q names ≡ p → Decides b (q ≡ name) → length sources ≡ length names → Contains names name → source_at sources p ≡ or_else (source_at sources p) (if b then Some c else None)
noted-old names sources name q c (Some i) b is d count there =
    sym (is-there connection sources i (if b then Some c else None) (omega (arith, place_of-below q names i is, count)))
noted-old names sources name q c None false is d count there = refl
noted-old names sources name q c None true is d count there =
    absurd (place_of-lacks q names is there.0 (at names name there ∙ ap Some (sym (d.0 refl))))
  where
    at : (ns : List (List ℕ)) (n : List ℕ) (h : Contains ns n) → slice_get ns h.0 ≡ Some n
    at [] n (k, lt, e) = absurd (omega (arith, lt))
    at (m ∷ ms) n (zero, lt, e) = ap Some e
    at (m ∷ ms) n (suc k, lt, e) = at ms n (k, omega (arith, lt), e)

pub noted-again : (names : List (List ℕ)) (sources : List Source) (name : List ℕ) (c : Connection) → length sources ≡ length names → Contains names name → (q : List ℕ) → source_at sources (place_of q names) ≡ or_else (source_at sources (place_of q names)) (if bytes_eq q name then Some c else None)
noted-again names sources name c count there q =
    noted-old names sources name q c (place_of q names) (bytes_eq q name) refl (bytes_eq-Decides q name) count there

or_else-assoc : {A : Type 0} (a b c : Option A) → or_else (or_else a b) c ≡ or_else a (or_else b c)
or_else-assoc None b c = refl
or_else-assoc (Some x) b c = refl

pub connection_in-push : (ss : List Stmt) (s : Stmt) (name : List ℕ) → connection_in (ss ++ s ∷ []) name ≡ or_else (connection_in ss name) (connection_by name s.kind)
connection_in-push [] s name = go (connection_by name s.kind)
  where
    go : (o : Option Connection) → or_else o None ≡ o
    go None = refl
    go (Some c) = refl
connection_in-push (t ∷ ss) s name =
    ap (or_else (connection_by name t.kind)) (connection_in-push ss s name)
    ∙ sym (or_else-assoc (connection_by name t.kind) (connection_in ss name) (connection_by name s.kind))

pub tells-more : (ss : List Stmt) (s : Stmt) (names more : List (List ℕ)) (sources all : List Source) → TellsConnections ss names sources → ((name : List ℕ) → source_at all (place_of name more) ≡ or_else (source_at sources (place_of name names)) (connection_by name s.kind)) → TellsConnections (ss ++ s ∷ []) more all
tells-more ss s names more sources all tells step name =
    step name ∙ ap (λ o. or_else o (connection_by name s.kind)) (tells name) ∙ sym (connection_in-push ss s name)

pub found-there : (names : List (List ℕ)) (name : List ℕ) (r : Option ℕ) → IfSome r (λ k. slice_get names k ≡ Some name) → is_some r ≡ true → Contains names name
found-there names name None h e = absurd (true≢false (sym e))
found-there names name (Some k) h e = let at = slice_get-at names name k h in (k, at.0, at.1)
