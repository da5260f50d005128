-- The stops of a module, statement by statement, and their names.
use Rattle.std.proofs.Common.{◌≡◌, ◌⊎◌, inl, inr, ℕ, zero, suc, ◌+◌, ◌^◌, ◌/◌, ◌%◌, ◌<◌, ◌≤◌, Bool, true, false, List, [], ◌∷◌, ◌++◌, Option, Some, None, length, length-append, get_or, drop, codes, decimal, option_to_list, eqb, nat_lt, if◌then◌else◌, refl, sym, ap, ◌∙◌, subst, append_assoc, arith}
use Rattle.std.proofs.lemmas.Bool.{cases_lt}
use Rattle.std.specs.Fmt.{digits, digits_onto, digit_glyph}
use Rattle.std.specs.Prelude.{filter_map, Contains}
use Rattle.std.specs.List.{cons_option}
use Rattle.std.proofs.lemmas.List.{drop_more, append-nil, get_or_past, length-map}
use Rattle.std.proofs.lemmas.List.Elements.{Contains-append_cases}
use Rattle.gg_flat.proofs.ListLemmas.{further}
use Rattle.gg_ast.specs.declared.statement.Stmt.{Stmt}
use Rattle.gg_ast.specs.Tree.{ModuleTree, empty_module}
use Rattle.gg_elab_sites.specs.Sites.{module_at}
use Rattle.gg_elab_sites.specs.declared.digest.Digest.{Digest}
use Rattle.gg_elab_sites.specs.Signals.{Asked, OwnStop, Types, numbered, own_stops, stop_name, stop_of_kind}
use Rattle.gg_elab_sites.specs.inside.Views.{AreDigests, own_stop_of}
use Rattle.gg_elab_sites.proofs.AmongLemmas.{element-at}

-- one more stop, if a statement makes one
one-more : (number next : ℕ) (o : Option Asked) (rest : List Asked) (done : List OwnStop) → next ≡ number + length (option_to_list o) → (done ++ numbered number (option_to_list o)) ++ numbered next rest ≡ done ++ numbered number (cons_option o rest)
one-more number next None rest done is =
    let same : next ≡ number = omega (arith, is) in
    ap (λ (l : List OwnStop). l ++ numbered next rest) (append-nil done) ∙ ap (λ n. done ++ numbered n rest) same
one-more number next (Some asked) rest done is =
    let same : next ≡ suc number = omega (arith, is) in
    append_assoc done (numbered number (asked ∷ [])) (numbered next rest)
    ∙ ap (λ n. done ++ ((record { name = stop_name number; asked = asked }) ∷ numbered n rest)) same

-- the stops so far and those that are left, with one more statement
pub stops-more : (statements : List Stmt) (i number next : ℕ) (s : Stmt) (done all : List OwnStop) → i < length statements → s ≡ get_or statements i s → next ≡ number + length (option_to_list (stop_of_kind s.kind))
    → done ++ numbered number (filter_map (λ (s : Stmt). stop_of_kind s.kind) (drop i statements)) ≡ all
    → (done ++ numbered number (option_to_list (stop_of_kind s.kind))) ++ numbered next (filter_map (λ (s : Stmt). stop_of_kind s.kind) (drop (i + 1) statements)) ≡ all
stops-more statements i number next s done all lt is count h =
    one-more number next (stop_of_kind s.kind) (filter_map (λ (s : Stmt). stop_of_kind s.kind) (drop (i + 1) statements)) done count
    ∙ ap (λ (x : Stmt). done ++ numbered number (filter_map (λ (s : Stmt). stop_of_kind s.kind) (x ∷ drop (i + 1) statements))) is
    ∙ ap (λ (l : List Stmt). done ++ numbered number (filter_map (λ (s : Stmt). stop_of_kind s.kind) l)) (sym (drop_more statements i s lt))
    ∙ h

-- ---- names of stops

-- A stop has a name by a number, and says one of these things.
pub record IsNumbered (from : ℕ) (all : List Asked) (stop : OwnStop) : Type 0 where
  pub number : ℕ
  pub named : stop.name ≡ stop_name number
  pub low : from ≤ number
  pub high : number < from + length all
  pub among : Contains all stop.asked

pub numbered-among : (from : ℕ) (all : List Asked) (stop : OwnStop) → Contains (numbered from all) stop → IsNumbered from all stop
numbered-among from [] stop c = absurd (omega (arith, c.1))
numbered-among from (asked ∷ rest) stop (zero, lt, is) = record {
  number = from;
  named = sym (ap (λ (x : OwnStop). x.name) is);
  low = omega arith;
  high = omega arith;
  among = (0, omega arith, ap (λ (x : OwnStop). x.asked) is);
}
numbered-among from (asked ∷ rest) stop (suc i, lt, is) =
    let n = numbered-among (suc from) rest stop (i, omega (arith, lt), is) in
    record { number = n.number; named = n.named; low = omega (arith, n.low); high = omega (arith, n.high); among = further asked rest stop.asked n.among }

glyph-high : (d : ℕ) → 48 ≤ digit_glyph false d
glyph-high d = go (nat_lt d 10)
  where
    go : (b : Bool) → 48 ≤ (if b then 48 + d else 87 + d)
    go true = omega arith
    go false = omega arith

-- the digits of a number are no dots: each is `0` or a later byte
onto-plain : (k n : ℕ) (acc : List ℕ) → ¬ Contains acc 46 → ¬ Contains (digits_onto k 10 false n acc) 46
onto-plain zero n acc plain = plain
onto-plain (suc k) n acc plain = go (eqb (n / 10) 0) (onto-plain k (n / 10) (digit_glyph false (n % 10) ∷ acc) more)
  where
    more : ¬ Contains (digit_glyph false (n % 10) ∷ acc) 46
    more (zero, lt, is) = absurd (omega (arith, is, glyph-high (n % 10)))
    more (suc i, lt, is) = plain (i, omega (arith, lt), is)

    go : (b : Bool) → ¬ Contains (digits_onto k 10 false (n / 10) (digit_glyph false (n % 10) ∷ acc)) 46 → ¬ Contains (if b then digit_glyph false (n % 10) ∷ acc else digits_onto k 10 false (n / 10) (digit_glyph false (n % 10) ∷ acc)) 46
    go true rest = more
    go false rest = rest

decimal-plain : (n : ℕ) → ¬ Contains (decimal n) 46
unfolding digits
decimal-plain n = onto-plain 64 n [] (λ c. omega (arith, c.1))

front-plain : ¬ Contains (codes "stop:") 46
front-plain (zero, lt, is) = omega (arith, is)
front-plain (suc zero, lt, is) = omega (arith, is)
front-plain (suc (suc zero), lt, is) = omega (arith, is)
front-plain (suc (suc (suc zero)), lt, is) = omega (arith, is)
front-plain (suc (suc (suc (suc zero))), lt, is) = omega (arith, is)
front-plain (suc (suc (suc (suc (suc i)))), lt, is) = omega (arith, lt)

-- the name of a stop has no dot
pub stop_name-plain : (n : ℕ) → ¬ Contains (stop_name n) 46
stop_name-plain n c = go (Contains-append_cases (codes "stop:") (decimal n) 46 c)
  where
    go : Contains (codes "stop:") 46 ⊎ Contains (decimal n) 46 → ⊥
    go (inl here) = front-plain here
    go (inr there) = decimal-plain n there

-- it has a colon
pub stop_name-colon : (n : ℕ) → Contains (stop_name n) 58
stop_name-colon n = (4, omega arith, refl)

-- ---- how many there are

numbered-length : (from : ℕ) (all : List Asked) → length (numbered from all) ≡ length all
numbered-length from [] = refl
numbered-length from (asked ∷ rest) = ap (λ n. suc n) (numbered-length (suc from) rest)

-- the number of the next stop is how many there are
pub counted-more : (old new : List OwnStop) (number next : ℕ) (o : Option Asked) → length old ≡ number → new ≡ old ++ numbered number (option_to_list o) → next ≡ number + length (option_to_list o) → length new ≡ next
counted-more old new number next o size more is =
    let sum = length-append old (numbered number (option_to_list o)) in
    let same = ap (λ (l : List OwnStop). length l) more in
    omega (arith, size, is, sum, same, numbered-length number (option_to_list o))

-- a module whose digest is kept has few stops, and so has the module where there is none
pub few-stops : (types : Types) (modules : List ModuleTree) (digests : List Digest) → AreDigests types modules digests → (k : ℕ) → length (own_stops (module_at modules k).statements) < 2 ^ 32
few-stops types modules digests h k = go (cases_lt k (length modules))
  where
    go : (k < length modules) ⊎ (length modules ≤ k) → length (own_stops (module_at modules k).statements) < 2 ^ 32
    go (inl lt) =
        let e = element-at digests k (omega (arith, lt, h.count)) in
        let d = h.each k e.element lt in
        let same = ap (λ (l : List OwnStop). length l) d.stops in
        omega (arith, d.few, same, length-map (get_or digests k e.element).stops.items own_stop_of)
    go (inr ge) = subst (λ (m : ModuleTree). length (own_stops m.statements) < 2 ^ 32) (sym (get_or_past modules k (empty_module 0 []) ge)) (omega arith)
