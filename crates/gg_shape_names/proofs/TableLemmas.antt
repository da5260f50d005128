-- Tables and sets of names, and the lists that contracts see in their place.
use Rattle.std.proofs.Common.{◌≡◌, ℕ, zero, suc, ◌+◌, ◌≤◌, Bool, true, false, cond, ◌||◌, List, [], ◌∷◌, ◌++◌, length, map, take, position, nat_lt, Option, None, Some, is_some, refl, sym, ap, ◌∙◌, if◌then◌else◌, true≢false, ltb-true, lt-ltb, le-ltb, arith}
use Rattle.std.specs.List.{position_or_len, list_any}
use Rattle.std.specs.Option.{option_map}
use Rattle.std.specs.Map.{lookup, keys_of}
use Rattle.std.specs.Str.{bytes_eq}
use Rattle.std.proofs.lemmas.Bool.Decides.{nat_tests}
use Rattle.std.proofs.lemmas.List.Folds.{list_any-append}
use Rattle.std.proofs.lemmas.Slice.Eq.{bytes_eq-Decides}
use Rattle.std.proofs.Math.Bool.{or-false, or-true}
use Rattle.indexmap.specs.IndexSet.{insert_key}
use denote.Ref.{Bor}
use Rattle.gg_ast.specs.Places.{place_of}
use Rattle.gg_bits.specs.Lists.{find_word}

-- ---- what a contract sees

-- the bytes of the keys of a set
abbrev pub texts : List (Bor (List ℕ)) → List (List ℕ)
texts keys = map (λ key. key.now) keys

abbrev pub is_text : List ℕ → Bor (List ℕ) → Bool
is_text q key = bytes_eq q key.now

pub any-texts : (q : List ℕ) (keys : List (Bor (List ℕ))) → list_any (is_text q) keys ≡ list_any (bytes_eq q) (texts keys)
any-texts q [] = refl
any-texts q (k ∷ ks) = ap (λ b. bytes_eq q k.now || b) (any-texts q ks)

pub texts-append : (xs ys : List (Bor (List ℕ))) → texts (xs ++ ys) ≡ texts xs ++ texts ys
texts-append [] ys = refl
texts-append (x ∷ xs) ys = ap (λ l. x.now ∷ l) (texts-append xs ys)

-- a name that is there already adds nothing
any-again : (q name : List ℕ) (names : List (List ℕ)) → list_any (bytes_eq name) names ≡ true → list_any (bytes_eq q) names ≡ list_any (bytes_eq q) (names ++ name ∷ [])
any-again q name names there = go (bytes_eq q name) refl ∙ sym (list_any-append (bytes_eq q) names (name ∷ []))
  where
    go : (b : Bool) → bytes_eq q name ≡ b → list_any (bytes_eq q) names ≡ list_any (bytes_eq q) names || (bytes_eq q name || false)
    go true e =
        ap (λ x. list_any (bytes_eq x) names) ((bytes_eq-Decides q name).0 e) ∙ there
        ∙ sym (ap (λ b. list_any (bytes_eq q) names || (b || false)) e ∙ or-true (list_any (bytes_eq q) names))
    go false e = sym (ap (λ b. list_any (bytes_eq q) names || (b || false)) e ∙ or-false (list_any (bytes_eq q) names))

-- a set after a key was put into it
pub any-inserted : (q : List ℕ) (keys : List (Bor (List ℕ))) (k : Bor (List ℕ)) → list_any (bytes_eq q) (texts (insert_key (λ a b. bytes_eq a.now b.now) keys k)) ≡ list_any (bytes_eq q) (texts keys ++ k.now ∷ [])
any-inserted q keys k = go (list_any (is_text k.now) keys) refl
  where
    go : (b : Bool) → list_any (is_text k.now) keys ≡ b → list_any (bytes_eq q) (texts (insert_key (λ a b. bytes_eq a.now b.now) keys k)) ≡ list_any (bytes_eq q) (texts keys ++ k.now ∷ [])
    go true e = ap (λ b. list_any (bytes_eq q) (texts (if b then keys else keys ++ k ∷ []))) e ∙ any-again q k.now (texts keys) (sym (any-texts k.now keys) ∙ e)
    go false e = ap (λ b. list_any (bytes_eq q) (texts (if b then keys else keys ++ k ∷ []))) e ∙ ap (list_any (bytes_eq q)) (texts-append keys (k ∷ []))

module _ {V : Type 0} where
  -- the entries of a map, with the bytes of their keys
  abbrev pub seen : List (Bor (List ℕ) × V) → List (List ℕ × V)
  seen entries = map (λ entry. (entry.0.now, entry.1)) entries

  abbrev pub names_seen : List (Bor (List ℕ) × V) → List (List ℕ)
  names_seen entries = map (λ e. e.0) (seen entries)

  pub lookup-seen : (q : List ℕ) (es : List (Bor (List ℕ) × V)) → lookup (is_text q) es ≡ find_word q (seen es)
  lookup-seen q [] = refl
  lookup-seen q (e ∷ es) = ap (λ r. cond (bytes_eq q e.0.now) (Some e.1) r) (lookup-seen q es)

  -- a map with one more entry at its end
  pub seen-push : (es : List (Bor (List ℕ) × V)) (e : Bor (List ℕ) × V) → seen (es ++ e ∷ []) ≡ seen es ++ (e.0.now, e.1) ∷ []
  seen-push [] e = refl
  seen-push (d ∷ es) e = ap (λ l. (d.0.now, d.1) ∷ l) (seen-push es e)

  -- a name has a value exactly if it is one of the names
  pub some-value_of : (q : List ℕ) (es : List (List ℕ × V)) → is_some (find_word q es) ≡ list_any (bytes_eq q) (map (λ e. e.0) es)
  some-value_of q [] = refl
  some-value_of q (e ∷ es) = go (bytes_eq q e.0) refl (some-value_of q es)
    where
      go : (b : Bool) → bytes_eq q e.0 ≡ b → is_some (find_word q es) ≡ list_any (bytes_eq q) (map (λ d. d.0) es) → is_some (find_word q (e ∷ es)) ≡ list_any (bytes_eq q) (map (λ d. d.0) (e ∷ es))
      go true t rest = rw t refl
      go false t rest = rw t rest

-- ---- places

module _ {X : Type 0} (p : X → Bool) where
  position_head : (x : X) (xs : List X) → p x ≡ true → position p (x ∷ xs) ≡ Some 0
  position_head x xs e = rw (e, lt-ltb 0 (length (x ∷ xs)) (omega arith)) refl

  position_next : (x : X) (xs : List X) → p x ≡ false → position p (x ∷ xs) ≡ option_map (λ k. k + 1) (position p xs)
  position_next x xs e = go (nat_lt (position_or_len p xs) (length xs)) refl
    where
      go : (b : Bool) → nat_lt (position_or_len p xs) (length xs) ≡ b → position p (x ∷ xs) ≡ option_map (λ k. k + 1) (position p xs)
      go true t =
          let lt = ltb-true _ _ t in
          let turned : 1 + position_or_len p xs ≡ position_or_len p xs + 1 = omega arith in
          rw (e, t, lt-ltb (1 + position_or_len p xs) (suc (length xs)) (omega arith)) (ap Some turned)
      go false t =
          let ge : length xs ≤ position_or_len p xs = grind arith in
          let inner = le-ltb (1 + position_or_len p xs) (suc (length xs)) (omega arith) in
          rw (e, t, inner) refl

pub position-seen : {V : Type 0} (q : List ℕ) (es : List (Bor (List ℕ) × V)) → position (is_text q) (keys_of es) ≡ place_of q (names_seen es)
position-seen q [] = refl
position-seen {V} q (e ∷ es) = go (bytes_eq q e.0.now) refl (position-seen q es)
  where
    go : (b : Bool) → bytes_eq q e.0.now ≡ b → position (is_text q) (keys_of es) ≡ place_of q (names_seen es) → position (is_text q) (e.0 ∷ keys_of es) ≡ place_of q (e.0.now ∷ names_seen es)
    go true t rest = position_head (is_text q) e.0 (keys_of es) t ∙ sym (ap (λ b. if b then Some 0 else option_map (λ k. k + 1) (place_of q (names_seen es))) t)
    go false t rest =
        position_next (is_text q) e.0 (keys_of es) t
        ∙ ap (option_map (λ k. k + 1)) rest
        ∙ sym (ap (λ b. if b then Some 0 else option_map (λ k. k + 1) (place_of q (names_seen es))) t)

-- a value that is there if its place is below n
abbrev pub if_before : {V : Type 0} → Option ℕ → ℕ → Option V → Option V
if_before None n value = None
if_before (Some k) n value = if nat_lt k n then value else None

pub value_of-take : {V : Type 0} (q : List ℕ) (ds : List (List ℕ × V)) (n : ℕ) → find_word q (take n ds) ≡ if_before (place_of q (map (λ d. d.0) ds)) n (find_word q ds)
value_of-take q [] zero = refl
value_of-take q [] (suc n) = refl
value_of-take {V} q (d ∷ ds) zero = go (bytes_eq q d.0) refl (place_of q (map (λ e. e.0) ds)) refl
  where
    go : (b : Bool) → bytes_eq q d.0 ≡ b → (o : Option ℕ) → place_of q (map (λ (e : List ℕ × V). e.0) ds) ≡ o → None ≡ if_before (place_of q (map (λ (e : List ℕ × V). e.0) (d ∷ ds))) 0 (find_word q (d ∷ ds))
    go true t o u = rw t refl
    go false t None u = rw (t, u) refl
    go false t (Some k) u = rw (t, u, le-ltb (k + 1) 0 (omega arith)) refl
value_of-take {V} q (d ∷ ds) (suc n) = go (bytes_eq q d.0) refl (place_of q (map (λ e. e.0) ds)) refl (value_of-take q ds n)
  where
    shift : (k : ℕ) → nat_lt k n ≡ nat_lt (k + 1) (suc n)
    shift k = grind (arith, nat_tests)

    go : (b : Bool) → bytes_eq q d.0 ≡ b → (o : Option ℕ) → place_of q (map (λ (e : List ℕ × V). e.0) ds) ≡ o → find_word q (take n ds) ≡ if_before (place_of q (map (λ (e : List ℕ × V). e.0) ds)) n (find_word q ds) → find_word q (d ∷ take n ds) ≡ if_before (place_of q (map (λ (e : List ℕ × V). e.0) (d ∷ ds))) (suc n) (find_word q (d ∷ ds))
    go true t o u rest = rw (t, lt-ltb 0 (suc n) (omega arith)) refl
    go false t None u rest = rw (t, u) (rest ∙ ap (λ o. if_before o n (find_word q ds)) u)
    go false t (Some k) u rest = rw (t, u) (rest ∙ ap (λ o. if_before o n (find_word q ds)) u ∙ ap (λ b. if b then find_word q ds else None) (shift k))

pub none-is_some : {A : Type 0} (o : Option A) → is_some o ≡ false → o ≡ None
none-is_some None h = refl
none-is_some (Some x) h = absurd (true≢false h)
