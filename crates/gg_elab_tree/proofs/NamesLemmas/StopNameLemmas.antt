-- The names of a module's stops differ from each other, and from all names that are declared.
use Rattle.std.proofs.Common.{◌≡◌, inl, inr, ◌⊎◌, ℕ, zero, suc, ◌+◌, ◌<◌, ◌^◌, List, [], ◌∷◌, ◌++◌, length, get_or, map, drop, sym, ap, ◌∙◌, subst, arith}
use Rattle.std.specs.Prelude.{filter_map, Contains}
use Rattle.std.proofs.lemmas.Fmt.{decimal_injective}
use Rattle.std.proofs.lemmas.List.{length-map, get_or-map}
use Rattle.std.proofs.lemmas.Simd.{map-map}
use Rattle.gg_ast.specs.Names.{IsName}
use Rattle.gg_ast.specs.declared.statement.Stmt.{Stmt}
use Rattle.gg_elab_sites.specs.Signals.{Asked, Own, OwnStop, numbered, own_stops, stop_name, stop_of_kind, stop_signal}
use Rattle.gg_elab_sites.proofs.AmongLemmas.{element-at, from-map}
use Rattle.gg_elab_sites.proofs.NameLemmas.{Differ}
use Rattle.gg_elab_sites.proofs.StopLemmas.{numbered-among, stop_name-colon, stop_name-plain}
use Rattle.gg_elab_tree.proofs.NamesLemmas.CauseLemmas.{name-colonless}
use Rattle.gg_elab_tree.proofs.NamesLemmas.JoinLemmas.{dot-within}
use Rattle.gg_elab_tree.proofs.NamesLemmas.DifferLemmas.{BeginsIn}

-- the names of the stops of statements
abbrev pub stop_words : List Stmt → List (List ℕ)
stop_words ss = map (λ (o : Own). o.name) (map stop_signal (own_stops ss))

numbered-at : (from : ℕ) (all : List Asked) (i : ℕ) (d : OwnStop) → i < length (numbered from all) → (get_or (numbered from all) i d).name ≡ stop_name (from + i)
numbered-at from [] i d lt = absurd (omega (arith, lt))
numbered-at from (asked ∷ rest) zero d lt = let same : from ≡ from + 0 = omega arith in ap stop_name same
numbered-at from (asked ∷ rest) (suc i) d lt =
    let same : suc from + i ≡ from + suc i = omega arith in
    numbered-at (suc from) rest i d (omega (arith, lt)) ∙ ap stop_name same

-- the words are the names of the stops
words-are : (ss : List Stmt) → stop_words ss ≡ map (λ (s : OwnStop). s.name) (own_stops ss)
words-are ss = map-map (λ (o : Own). o.name) stop_signal (own_stops ss)

word-count : (ss : List Stmt) → length (stop_words ss) ≡ length (own_stops ss)
word-count ss = length-map (map stop_signal (own_stops ss)) (λ (o : Own). o.name) ∙ length-map (own_stops ss) stop_signal

word-at : (ss : List Stmt) (i : ℕ) (d : List ℕ) (any : OwnStop) → i < length (own_stops ss) → get_or (stop_words ss) i d ≡ stop_name i
word-at ss i d any lt =
    let same : 0 + i ≡ i = omega arith in
    ap (λ (l : List (List ℕ)). get_or l i d) (words-are ss)
    ∙ get_or-map (λ (s : OwnStop). s.name) (own_stops ss) i any d lt
    ∙ numbered-at 0 (filter_map (λ (s : Stmt). stop_of_kind s.kind) ss) i any lt
    ∙ ap stop_name same

stop-once : (m n : ℕ) → m < 2 ^ 64 → n < 2 ^ 64 → stop_name m ≡ stop_name n → m ≡ n
stop-once m n p q e = decimal_injective m n p q (ap (λ (l : List ℕ). drop 5 l) e)

-- there are not so many that their numbers are cut off
pub stops-differ : (ss : List Stmt) → length (own_stops ss) < 2 ^ 32 → Differ (stop_words ss)
stops-differ ss few i j d lt within same =
    let inside : j < length (own_stops ss) = omega (arith, within, word-count ss) in
    let e = element-at (own_stops ss) j inside in
    let equal = stop-once i j (omega (arith, lt, inside, few)) (omega (arith, inside, few)) (sym (word-at ss i d e.element (omega (arith, lt, inside))) ∙ same ∙ word-at ss j d e.element inside) in
    omega (arith, equal, lt)

-- A word is the name of a stop.
pub record StopWord (w : List ℕ) : Type 0 where
  pub number : ℕ
  pub is : w ≡ stop_name number

pub stop-word : (ss : List Stmt) (w : List ℕ) → Contains (stop_words ss) w → StopWord w
stop-word ss w c =
    let m = from-map (λ (s : OwnStop). s.name) (own_stops ss) w (subst (λ l. Contains l w) (words-are ss) c) in
    let n = numbered-among 0 (filter_map (λ (s : Stmt). stop_of_kind s.kind) ss) m.of m.among in
    record { number = n.number; is = sym m.made ∙ n.named }

-- it begins with no name
pub stop-apart : (names : List (List ℕ)) (w : List ℕ) → ((n : List ℕ) → Contains names n → IsName n) → BeginsIn names w → StopWord w → ⊥
stop-apart names w words b stop = go b.is
  where
    go : (w ≡ b.first) ⊎ ((r : List ℕ) × (w ≡ b.first ++ 46 ∷ r)) → ⊥
    go (inl is) = name-colonless b.first (words b.first b.among) (subst (λ l. Contains l 58) (sym stop.is ∙ is) (stop_name-colon stop.number))
    go (inr behind) = stop_name-plain stop.number (subst (λ l. Contains l 46) (sym behind.1 ∙ stop.is) (dot-within b.first behind.0))
