-- Laws of the place of a name in a list of names.
use Rattle.std.proofs.Common.{◌≡◌, ◌≢◌, ℕ, zero, suc, ◌+◌, ◌<◌, List, [], ◌∷◌, ◌++◌, length, Option, None, Some, Bool, true, false, refl, sym, ap, ◌∙◌, subst, arith}
use Rattle.std.specs.Prelude.{slice_get, option_map, is_some, if◌then◌else◌, String}
use Rattle.std.specs.HashMap.{HashMap, get_by_text}
use Rattle.std.specs.Map.{update}
use Rattle.std.specs.declared.alloc.Global.{Global}
use Rattle.std.specs.declared.hash.FoldHasher.{FoldHasher}
use Rattle.std.specs.declared.hash.BuildHasherDefault.{BuildHasherDefault}
use Rattle.std.specs.Bool.{Decides}
use Rattle.std.specs.Str.{bytes_eq}
use Rattle.std.proofs.lemmas.Slice.Eq.{bytes_eq-Decides}
use Rattle.std.proofs.lemmas.Option.{slice_get_within}
use Rattle.gg_ast.specs.inside.Places.{IsFirstOf, Lacks, TellsPlaces}
use Rattle.gg_ast.specs.Places.{place_of}

-- if the head is another name, the first place in the tail is one further in the whole list
first_further : (name n : List ℕ) (ns : List (List ℕ)) (j : ℕ) → (name ≡ n → ⊥) → IsFirstOf ns name j → IsFirstOf (n ∷ ns) name (suc j)
first_further name n ns j differs at = record { named = at.named; first = before }
  where
    before : (k : ℕ) → k < suc j → slice_get (n ∷ ns) k ≢ Some name
    before zero lt h = differs (cc)
    before (suc k) lt h = at.first k (omega arith) h

first_by_head : (name n : List ℕ) (ns : List (List ℕ)) (i : ℕ) (b : Bool) (o : Option ℕ) → Decides b (name ≡ n) → ((j : ℕ) → o ≡ Some j → IsFirstOf ns name j) → (if b then Some 0 else option_map (λ k. k + 1) o) ≡ Some i → IsFirstOf (n ∷ ns) name i
first_by_head name n ns i true o d rest e =
    let same : name ≡ n = d.0 refl in
    let start : zero ≡ i = cc in
    subst (λ k. IsFirstOf (n ∷ ns) name k) start (record { named = ap Some (sym same); first = λ k lt. absurd (omega (arith, lt)) })
first_by_head name n ns i false None d rest e = absurd (cc)
first_by_head name n ns i false (Some j) d rest e =
    let further : j + 1 ≡ i = cc in
    let place : suc j ≡ i = omega arith in
    let differs : name ≡ n → ⊥ = λ h. let no : false ≡ true = d.1 h in cc in
    subst (λ k. IsFirstOf (n ∷ ns) name k) place (first_further name n ns j differs (rest j refl))

-- the place of a name is the first that holds it
pub place_of-first : (name : List ℕ) (names : List (List ℕ)) (i : ℕ) → place_of name names ≡ Some i → IsFirstOf names name i
place_of-first name [] i e = absurd (cc)
place_of-first name (n ∷ ns) i e =
    first_by_head name n ns i (bytes_eq name n) (place_of name ns) (bytes_eq-Decides name n) (λ j h. place_of-first name ns j h) e

lacks_by_head : (name n : List ℕ) (ns : List (List ℕ)) (b : Bool) (o : Option ℕ) → Decides b (name ≡ n) → (o ≡ None → Lacks ns name) → (if b then Some 0 else option_map (λ k. k + 1) o) ≡ None → Lacks (n ∷ ns) name
lacks_by_head name n ns true o d rest e = absurd (cc)
lacks_by_head name n ns false (Some j) d rest e = absurd (cc)
lacks_by_head name n ns false None d rest e = each
  where
    each : (k : ℕ) → slice_get (n ∷ ns) k ≢ Some name
    each zero h = let same : name ≡ n = cc in let no : false ≡ true = d.1 same in cc
    each (suc k) h = rest refl k h

-- a name without a place isn't in the list
pub place_of-lacks : (name : List ℕ) (names : List (List ℕ)) → place_of name names ≡ None → Lacks names name
place_of-lacks name [] e = λ k h. cc
place_of-lacks name (n ∷ ns) e =
    lacks_by_head name n ns (bytes_eq name n) (place_of name ns) (bytes_eq-Decides name n) (place_of-lacks name ns) e

-- the place of a name after one more is added at place n: its old place if it had one, else n if it is the added name
abbrev pub place_after : Option ℕ → Bool → ℕ → Option ℕ
place_after (Some i) b n = Some i
place_after None true n = Some n
place_after None false n = None

after_head : (b c : Bool) (o : Option ℕ) (n : ℕ) → (if b then Some 0 else option_map (λ k. k + 1) (place_after o c n)) ≡ place_after (if b then Some 0 else option_map (λ k. k + 1) o) c (n + 1)
after_head true c o n = refl
after_head false c (Some i) n = refl
after_head false true None n = refl
after_head false false None n = refl

pub place_of-append : (name : List ℕ) (names : List (List ℕ)) (new : List ℕ) → place_of name (names ++ new ∷ []) ≡ place_after (place_of name names) (bytes_eq name new) (length names)
place_of-append name [] new = elim (bytes_eq name new) as (λ b. (if b then Some 0 else None) ≡ place_after None b 0) [ true ↦ refl | false ↦ refl ]
place_of-append name (n ∷ ns) new =
    let e = place_of-append name ns new in
    let size : length ns + 1 ≡ length (n ∷ ns) = omega arith in
    ap (λ o. if bytes_eq name n then Some 0 else option_map (λ k. k + 1) o) e ∙ after_head (bytes_eq name n) (bytes_eq name new) (place_of name ns) (length ns) ∙ ap (λ m. place_after (place_of name (n ∷ ns)) (bytes_eq name new) m) size

-- a place is below the length of the list
pub place_of-below : (name : List ℕ) (names : List (List ℕ)) (i : ℕ) → place_of name names ≡ Some i → i < length names
place_of-below name names i e = slice_get_within names i name (place_of-first name names i e).named

-- a name that is there already changes no place when it is added again
present_at : (q name : List ℕ) (b : Bool) (o p : Option ℕ) (n : ℕ) → Decides b (q ≡ name) → (q ≡ name → o ≡ p) → is_some p ≡ true → place_after o b n ≡ o
present_at q name b (Some i) p n d same there = refl
present_at q name false None p n d same there = refl
present_at q name true None p n d same there =
    let e : None ≡ p = same (d.0 refl) in
    let no : false ≡ true = ap (λ x. is_some x) e ∙ there in
    absurd (cc)

pub tells-present : (names : List (List ℕ)) (name : List ℕ) (places : HashMap (String Global) ℕ (BuildHasherDefault FoldHasher)) → TellsPlaces names places → is_some (place_of name names) ≡ true → TellsPlaces (names ++ name ∷ []) places
tells-present names name places tells there = λ q.
    tells q ∙ sym (place_of-append q names name ∙ present_at q name (bytes_eq q name) (place_of q names) (place_of name names) (length names) (bytes_eq-Decides q name) (λ e. ap (λ x. place_of x names) e) there)

-- a new name gets the next place
new_at : (q name : List ℕ) (b e : Bool) (o p : Option ℕ) (n : ℕ) → Decides b (q ≡ name) → Decides e (name ≡ q) → (q ≡ name → o ≡ p) → is_some p ≡ false → (if e then Some n else o) ≡ place_after o b n
new_at q name false true o p n d d2 same gone = let no : false ≡ true = d.1 (sym (d2.0 refl)) in absurd (cc)
new_at q name true false o p n d d2 same gone = let no : false ≡ true = d2.1 (sym (d.0 refl)) in absurd (cc)
new_at q name false false (Some i) p n d d2 same gone = refl
new_at q name false false None p n d d2 same gone = refl
new_at q name true true None p n d d2 same gone = refl
new_at q name true true (Some i) p n d d2 same gone =
    let e : Some i ≡ p = same (d.0 refl) in
    let no : true ≡ false = ap (λ x. is_some x) e ∙ gone in
    absurd (cc)

pub tells-new : (names : List (List ℕ)) (name : List ℕ) (places new : HashMap (String Global) ℕ (BuildHasherDefault FoldHasher)) → TellsPlaces names places → is_some (place_of name names) ≡ false → ((q : List ℕ) → get_by_text new q ≡ update bytes_eq (get_by_text places) name (Some (length names)) q) → TellsPlaces (names ++ name ∷ []) new
tells-new names name places new tells gone sets = λ q.
    sets q ∙ ap (λ o. if bytes_eq name q then Some (length names) else o) (tells q) ∙ new_at q name (bytes_eq q name) (bytes_eq name q) (place_of q names) (place_of name names) (length names) (bytes_eq-Decides q name) (bytes_eq-Decides name q) (λ e. ap (λ x. place_of x names) e) gone ∙ sym (place_of-append q names name)
