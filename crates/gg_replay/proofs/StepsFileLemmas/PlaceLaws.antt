-- The first place of a name in a list of names, and a table that finds it.
use Rattle.std.proofs.Common.{◌≡◌, ℕ, ◌+◌, List, [], ◌∷◌, ◌++◌, Bor, length, Option, None, Some, Bool, true, false, cond, nat_eq, refl, sym, ap, ◌∙◌, arith}
use Rattle.std.specs.Prelude.{is_some, if◌then◌else◌}
use Rattle.std.specs.HashMap.{HashMap, get_by}
use Rattle.std.specs.List.{position, position_from}
use Rattle.std.specs.Map.{update}
use Rattle.std.specs.declared.hash.FoldHasher.{FoldHasher}
use Rattle.std.specs.declared.hash.BuildHasherDefault.{BuildHasherDefault}
use Rattle.std.specs.Bool.{Decides}
use Rattle.std.specs.Str.{bytes_eq}
use Rattle.std.proofs.lemmas.Iterator.Adapters.{position_from-zero}
use Rattle.std.proofs.lemmas.Slice.Eq.{bytes_eq-Decides}
use Rattle.gg_replay.specs.steps_file.Naming.{first_place}
use Rattle.gg_replay.specs.inside.Table.{TellsNames}

-- after one more name, a name that had a place keeps it, and a new name has the next place
abbrev pub place_after : Option ℕ → Bool → ℕ → Option ℕ
place_after (Some i) b n = Some i
place_after None true n = Some n
place_after None false n = None

nil-push : (b : Bool) (i n : ℕ) → i ≡ n → cond b (Some i) None ≡ place_after None b n
nil-push true i n e = ap Some e
nil-push false i n e = refl

cons-push : (b c : Bool) (i n : ℕ) (o p : Option ℕ) → p ≡ place_after o c n → cond b (Some i) p ≡ place_after (cond b (Some i) o) c n
cons-push true c i n o p e = refl
cons-push false c i n o p e = e

from-push : {X : Type 0} (p : X → Bool) (i : ℕ) (xs : List X) (y : X) (n : ℕ) → i + length xs ≡ n
    → position_from p i (xs ++ y ∷ []) ≡ place_after (position_from p i xs) (p y) n
from-push p i [] y n e = nil-push (p y) i n (omega (arith, e))
from-push p i (x ∷ xs) y n e = cons-push (p x) (p y) i n (position_from p (i + 1) xs) _ (from-push p (i + 1) xs y n (omega (arith, e)))

pub position-push : {X : Type 0} (p : X → Bool) (xs : List X) (y : X) → position p (xs ++ y ∷ []) ≡ place_after (position p xs) (p y) (length xs)
position-push p xs y =
    position_from-zero p (xs ++ y ∷ []) ∙ from-push p 0 xs y (length xs) (omega arith)
    ∙ ap (λ o. place_after o (p y) (length xs)) (sym (position_from-zero p xs))

-- one more name that is there already changes no place
present_at : (q name : List ℕ) (b : Bool) (o p : Option ℕ) (n : ℕ) → Decides b (q ≡ name) → (q ≡ name → o ≡ p) → is_some p ≡ true → place_after o b n ≡ o
present_at q name b (Some i) p n d same there = refl
present_at q name false None p n d same there = refl
present_at q name true None p n d same there =
    let e : None ≡ p = same (d.0 refl) in
    let no : false ≡ true = ap (λ x. is_some x) e ∙ there in
    absurd (cc)

pub tells-present : (names : List (List ℕ)) (name : List ℕ) (places : HashMap (Bor (List ℕ)) ℕ (BuildHasherDefault FoldHasher)) → TellsNames names places
    → is_some (position (bytes_eq name) names) ≡ true → TellsNames (names ++ name ∷ []) places
tells-present names name places tells there = λ q.
    tells q ∙ sym (position-push (bytes_eq q) names name ∙ present_at q name (bytes_eq q name) (position (bytes_eq q) names) (position (bytes_eq name) names) (length names) (bytes_eq-Decides q name) (λ e. ap (λ x. position (bytes_eq x) names) e) there)

-- one more name that is new has the next place
new_at : (q name : List ℕ) (b e : Bool) (o p : Option ℕ) (n : ℕ) → Decides b (q ≡ name) → Decides e (name ≡ q) → (q ≡ name → o ≡ p) → is_some p ≡ false → (if e then Some n else o) ≡ place_after o b n
new_at q name false true o p n d d2 same gone = let no : false ≡ true = d.1 (sym (d2.0 refl)) in absurd (cc)
new_at q name true false o p n d d2 same gone = let no : false ≡ true = d2.1 (sym (d.0 refl)) in absurd (cc)
new_at q name false false (Some i) p n d d2 same gone = refl
new_at q name false false None p n d d2 same gone = refl
new_at q name true true None p n d d2 same gone = refl
new_at q name true true (Some i) p n d d2 same gone =
    let e : Some i ≡ p = same (d.0 refl) in
    let no : true ≡ false = ap (λ x. is_some x) e ∙ gone in
    absurd (cc)

pub tells-new : (names : List (List ℕ)) (name : List ℕ) (places new : HashMap (Bor (List ℕ)) ℕ (BuildHasherDefault FoldHasher)) → TellsNames names places
    → is_some (position (bytes_eq name) names) ≡ false
    → ((q : List ℕ) → get_by (λ key. bytes_eq q key.now) new ≡ update bytes_eq (λ p. get_by (λ key. bytes_eq p key.now) places) name (Some (length names)) q)
    → TellsNames (names ++ name ∷ []) new
tells-new names name places new tells gone sets = λ q.
    sets q ∙ ap (λ o. if bytes_eq name q then Some (length names) else o) (tells q)
    ∙ new_at q name (bytes_eq q name) (bytes_eq name q) (position (bytes_eq q) names) (position (bytes_eq name) names) (length names) (bytes_eq-Decides q name) (bytes_eq-Decides name q) (λ e. ap (λ x. position (bytes_eq x) names) e) gone
    ∙ sym (position-push (bytes_eq q) names name)

-- a word that isn't empty names the first place at which it is among the names
pub first_place-some : (word : List ℕ) (names : List (List ℕ)) → nat_eq (length word) 0 ≡ false → first_place word names ≡ position (bytes_eq word) names
first_place-some [] names h = absurd (cc)
first_place-some (byte ∷ word) names h = refl
