-- How what is known grows from port to port and from statement to statement.
use Rattle.std.proofs.Common.{◌≡◌, ℕ, ◌+◌, ◌<◌, Bool, List, [], ◌∷◌, ◌++◌, length, get_or, take, drop, map, Option, refl, sym, ap, ◌∙◌, append_assoc, length-append, arith}
use Rattle.std.proofs.lemmas.List.{take_more, take_at, take-append-drop, map-append, length-map, append-nil}
use Rattle.std.proofs.lemmas.Grind.{common_steps, flat_map-append}
use Rattle.std.specs.List.{flat_map}
use Rattle.gg_ast.specs.declared.expression.Reference.{Reference}
use Rattle.gg_ast.specs.declared.module.Port.{Port}
use Rattle.gg_ast.specs.declared.statement.Stmt.{Stmt}
use Rattle.gg_shape_names.specs.declared.role.Role.{Role}
use Rattle.gg_shape_names.specs.Namespace.{name_by, names_after, port_names}
use Rattle.gg_types.specs.declared.sort.Own.{Own}
use Rattle.gg_types.specs.inside.Named.{AreNext}
use Rattle.gg_types.specs.Owned.{port_own}
use Rattle.gg_types.specs.Types.{known_after, own_by}

-- ---- one more statement

module _ (roles : List (Reference × Role)) (traced : List ℕ → Bool) where
  pub known_after-push : (known : List (List ℕ × Option Own)) (xs : List Stmt) (s : Stmt) → known_after roles traced known (xs ++ s ∷ []) ≡ known_after roles traced known xs ++ own_by roles traced (known_after roles traced known xs) s.kind
  known_after-push known [] s = refl
  known_after-push known (x ∷ xs) s = known_after-push (known ++ own_by roles traced known x.kind) xs s

  pub known_after-more : (known : List (List ℕ × Option Own)) (xs : List Stmt) (i : ℕ) (s : Stmt) → i < length xs → s ≡ get_or xs i s → known_after roles traced known (take (i + 1) xs) ≡ known_after roles traced known (take i xs) ++ own_by roles traced (known_after roles traced known (take i xs)) s.kind
  known_after-more known xs i s lt is =
      ap (known_after roles traced known) (take_more xs i s lt)
      ∙ ap (λ x. known_after roles traced known (take i xs ++ x ∷ [])) (sym is)
      ∙ known_after-push known (take i xs) s

-- ---- one more port

pub ports-more : (ports : List Port) (i : ℕ) (p : Port) → i < length ports → p ≡ get_or ports i p → map port_own (take (i + 1) ports) ≡ map port_own (take i ports) ++ port_own p ∷ []
ports-more ports i p lt is =
    ap (map port_own) (take_more ports i p lt)
    ∙ ap (λ x. map port_own (take i ports ++ x ∷ [])) (sym is)
    ∙ map-append port_own (take i ports) (p ∷ [])

-- ---- the next names

-- the first two of a list's three parts, as `take` gives them
record Parts {X : Type 0} (done now whole : List X) : Type 0 where
  before : take (length done) whole ≡ done
  next : take (length done + length now) whole ≡ take (length done) whole ++ now

parts : {X : Type 0} (done now rest whole : List X) → whole ≡ (done ++ now) ++ rest → Parts done now whole
parts done now rest whole e =
    let e2 : whole ≡ done ++ (now ++ rest) = e ∙ append_assoc done now rest in
    let first : take (length done) whole ≡ done = ap (take (length done)) e2 ∙ take_at done (now ++ rest) (length done) refl in
    let both : take (length done + length now) whole ≡ done ++ now =
    ap (take (length done + length now)) e ∙ take_at (done ++ now) rest (length done + length now) (length-append done now) in
    record { before = first; next = both ∙ ap (λ l. l ++ now) (sym first) }

next-of : (done now rest names : List (List ℕ)) (count : ℕ) → names ≡ (done ++ now) ++ rest → count ≡ length done → AreNext names count now
next-of done now rest names count e n = rw n (parts done now rest names e).next

-- the name of the port at place i comes after the first i names
pub port-next : (ports : List Port) (statements : List Stmt) (names : List (List ℕ)) (i count : ℕ) (p : Port) → names ≡ names_after ports statements → count ≡ i → i < length ports → p ≡ get_or ports i p → AreNext names count (p.name ∷ [])
port-next ports statements names i count p all n lt is =
    let grown : port_names (take (i + 1) ports) ≡ port_names (take i ports) ++ p.name ∷ [] =
    ap port_names (take_more ports i p lt)
    ∙ ap (λ x. port_names (take i ports ++ x ∷ [])) (sym is)
    ∙ map-append (λ (q : Port). q.name) (take i ports) (p ∷ []) in
    let whole : names ≡ (port_names (take i ports) ++ p.name ∷ []) ++ (port_names (drop (i + 1) ports) ++ flat_map name_by statements) =
    all
    ∙ ap (λ l. port_names l ++ flat_map name_by statements) (sym (take-append-drop (i + 1) ports))
    ∙ ap (λ l. l ++ flat_map name_by statements) (map-append (λ (q : Port). q.name) (take (i + 1) ports) (drop (i + 1) ports))
    ∙ append_assoc (port_names (take (i + 1) ports)) (port_names (drop (i + 1) ports)) (flat_map name_by statements)
    ∙ ap (λ l. l ++ (port_names (drop (i + 1) ports) ++ flat_map name_by statements)) grown in
    next-of (port_names (take i ports)) (p.name ∷ []) (port_names (drop (i + 1) ports) ++ flat_map name_by statements) names count whole
    (n ∙ sym (length-map (take i ports) (λ (q : Port). q.name) ∙ length-take-lt ports i lt))
  where
    length-take-lt : (ps : List Port) (k : ℕ) → k < length ps → length (take k ps) ≡ k
    length-take-lt ps k h = grind (arith, common_steps)

names_after-append : (ports : List Port) (xs ys : List Stmt) → names_after ports (xs ++ ys) ≡ names_after ports xs ++ flat_map name_by ys
names_after-append ports xs ys =
    ap (λ l. port_names ports ++ l) (flat_map-append name_by xs ys)
    ∙ sym (append_assoc (port_names ports) (flat_map name_by xs) (flat_map name_by ys))

pub names_after-more : (ports : List Port) (statements : List Stmt) (i : ℕ) (s : Stmt) → i < length statements → s ≡ get_or statements i s → names_after ports (take (i + 1) statements) ≡ names_after ports (take i statements) ++ name_by s
names_after-more ports statements i s lt is =
    ap (names_after ports) (take_more statements i s lt)
    ∙ ap (λ x. names_after ports (take i statements ++ x ∷ [])) (sym is)
    ∙ names_after-append ports (take i statements) (s ∷ [])
    ∙ ap (λ l. names_after ports (take i statements) ++ l) (append-nil (name_by s))

-- a statement's name, if it has one, comes after the names of the ports and of the statements before it
pub statement-next : (ports : List Port) (statements : List Stmt) (names : List (List ℕ)) (i count : ℕ) (s : Stmt) → names ≡ names_after ports statements → count ≡ length (names_after ports (take i statements)) → i < length statements → s ≡ get_or statements i s → AreNext names count (name_by s)
statement-next ports statements names i count s all n lt is =
    next-of (names_after ports (take i statements)) (name_by s) (flat_map name_by (drop (i + 1) statements)) names count
    (all
    ∙ ap (names_after ports) (sym (take-append-drop (i + 1) statements))
    ∙ names_after-append ports (take (i + 1) statements) (drop (i + 1) statements)
    ∙ ap (λ l. l ++ flat_map name_by (drop (i + 1) statements)) (names_after-more ports statements i s lt is))
    n

-- a statement adds as many names as it declares
pub count-more : (ports : List Port) (statements : List Stmt) (i : ℕ) (s : Stmt) → i < length statements → s ≡ get_or statements i s → length (names_after ports (take (i + 1) statements)) ≡ length (names_after ports (take i statements)) + length (name_by s)
count-more ports statements i s lt is = ap length (names_after-more ports statements i s lt is) ∙ length-append (names_after ports (take i statements)) (name_by s)
