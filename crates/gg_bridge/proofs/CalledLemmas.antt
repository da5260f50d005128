-- The first signal that is called so, by the signals with its two paths and a table of places.
use Rattle.std.proofs.Common.{◌≡◌, ◌≢◌, ℕ, suc, ◌<◌, ◌≤◌, List, [], ◌∷◌, ◌++◌, length, Bool, true, false, true≢false, true-eqb, eq-eqb, Option, Some, None, codes, refl, sym, ◌∙◌, ap, ap₂, subst, inl, inr, ◌⊎◌, arith}
use Rattle.std.specs.Prelude.{◌==◌, ◌||◌, nat_lt, if◌then◌else◌, option_map, slice_get, bytes_eq, IfSome, IfNone, Contains, AllPairs}
use Rattle.std.proofs.lemmas.Bool.{cases_Bool, cases_lt, lt-ltb, le-ltb}
use Rattle.std.proofs.lemmas.Option.{slice_get_within, get_or_from_slice_get}
use Rattle.std.proofs.lemmas.Slice.Eq.{bytes_eq-Decides}
use Rattle.gg_flat.specs.Circuit.{FlatCircuit}
use Rattle.gg_flat.proofs.ListLemmas.{once-apart}
use Rattle.gg_bridge.specs.Joined.{place_among}
use Rattle.gg_bridge.specs.inside.Joined.{HasPlaces}
use Rattle.gg_bridge.specs.Ports.{is_path_of, first_called}
use Rattle.gg_bridge.specs.inside.Ports.{place_by, earlier, picked}

-- whether a signal's path is this one
abbrev is_path : List ℕ → Option (List ℕ) → Bool
is_path path None = false
is_path path (Some own) = bytes_eq own path

-- the place of the first of these signals that has this path
abbrev pub place_called : FlatCircuit → List ℕ → List ℕ → Option ℕ
place_called circuit path [] = None
place_called circuit path (s ∷ signals) = if is_path path (slice_get circuit.paths s) then Some 0 else option_map suc (place_called circuit path signals)

-- ---- the earlier of two places

picked-next : (s : ℕ) (signals : List ℕ) (o : Option ℕ) → picked (s ∷ signals) (option_map suc o) ≡ picked signals o
picked-next s signals None = refl
picked-next s signals (Some k) = refl

earlier-next : (a b : Option ℕ) → earlier (option_map suc a) (option_map suc b) ≡ option_map suc (earlier a b)
earlier-next None b = refl
earlier-next (Some i) None = refl
earlier-next (Some i) (Some j) = by (cases_lt j i)
  where
    by : (j < i) ⊎ (i ≤ j) → (if nat_lt (suc j) (suc i) then Some (suc j) else Some (suc i)) ≡ option_map suc (if nat_lt j i then Some j else Some i)
    by (inl low) = ap (λ (b : Bool). if b then Some (suc j) else Some (suc i)) (lt-ltb (suc j) (suc i) (omega (arith, low))) ∙ sym (ap (λ (b : Bool). option_map suc (if b then Some j else Some i)) (lt-ltb j i low))
    by (inr high) = ap (λ (b : Bool). if b then Some (suc j) else Some (suc i)) (le-ltb (suc j) (suc i) (omega (arith, high))) ∙ sym (ap (λ (b : Bool). option_map suc (if b then Some j else Some i)) (le-ltb j i high))

first-zero : (b : Option ℕ) → earlier (Some 0) b ≡ Some 0
first-zero None = refl
first-zero (Some j) = ap (λ (b : Bool). if b then Some j else Some 0) (le-ltb j 0 (omega arith))

other-zero : (a : Option ℕ) → earlier (option_map suc a) (Some 0) ≡ Some 0
other-zero None = refl
other-zero (Some k) = ap (λ (b : Bool). if b then Some 0 else Some (suc k)) (lt-ltb 0 (suc k) (omega arith))

-- the first that is called so is the earlier of the first with either path
pub first-is : (circuit : FlatCircuit) (name signals : List ℕ) → first_called circuit name signals ≡ picked signals (earlier (place_called circuit name signals) (place_called circuit (codes "pipe:" ++ name) signals))
first-is circuit name [] = refl
first-is circuit name (s ∷ signals) = by (slice_get circuit.paths s) (place_called circuit name signals) (place_called circuit (codes "pipe:" ++ name) signals) (first-is circuit name signals)
  where
    later : (p q : Option ℕ) → first_called circuit name signals ≡ picked signals (earlier p q) → first_called circuit name signals ≡ picked (s ∷ signals) (earlier (option_map suc p) (option_map suc q))
    later p q rest = rest ∙ sym (picked-next s signals (earlier p q)) ∙ ap (picked (s ∷ signals)) (sym (earlier-next p q))

    on : (t u : Bool) (p q : Option ℕ) → first_called circuit name signals ≡ picked signals (earlier p q)
        → (if t || u then s else first_called circuit name signals) ≡ picked (s ∷ signals) (earlier (if t then Some 0 else option_map suc p) (if u then Some 0 else option_map suc q))
    on true u p q rest = ap (picked (s ∷ signals)) (sym (first-zero (if u then Some 0 else option_map suc q)))
    on false true p q rest = ap (picked (s ∷ signals)) (sym (other-zero p))
    on false false p q rest = later p q rest

    by : (own : Option (List ℕ)) (p q : Option ℕ) → first_called circuit name signals ≡ picked signals (earlier p q)
        → (if is_path_of name own then s else first_called circuit name signals) ≡ picked (s ∷ signals) (earlier (if is_path name own then Some 0 else option_map suc p) (if is_path (codes "pipe:" ++ name) own then Some 0 else option_map suc q))
    by None p q rest = later p q rest
    by (Some path) p q rest = on (bytes_eq path name) (bytes_eq path (codes "pipe:" ++ name)) p q rest

-- ---- the signal with a path

path-is : (path : List ℕ) (o : Option (List ℕ)) → is_path path o ≡ true → o ≡ Some path
path-is path None is = absurd (true≢false (sym is))
path-is path (Some own) is = ap Some ((bytes_eq-Decides own path).0 is)

module _ (circuit : FlatCircuit) (path : List ℕ) where
  missing : (signals : List ℕ) → ¬ Contains circuit.paths path → place_called circuit path signals ≡ None
  missing [] none = refl
  missing (s ∷ signals) none = by (is_path path (slice_get circuit.paths s)) refl (missing signals none)
    where
      by : (b : Bool) → is_path path (slice_get circuit.paths s) ≡ b → place_called circuit path signals ≡ None → (if b then Some 0 else option_map suc (place_called circuit path signals)) ≡ None
      by false e rest = ap (option_map suc) rest
      by true e rest =
          let at = path-is path (slice_get circuit.paths s) e in
          absurd (none (s, slice_get_within circuit.paths s path at, get_or_from_slice_get circuit.paths s path path at))

  module _ (once : AllPairs (λ a b. a ≢ b) circuit.paths) (t : ℕ) (is : slice_get circuit.paths t ≡ Some path) where
    same-test : (s : ℕ) → is_path path (slice_get circuit.paths s) ≡ (s == t)
    same-test s = by (s == t) refl (cases_Bool (is_path path (slice_get circuit.paths s)))
      where
        by : (b : Bool) → (s == t) ≡ b → (is_path path (slice_get circuit.paths s) ≡ true) ⊎ (is_path path (slice_get circuit.paths s) ≡ false) → is_path path (slice_get circuit.paths s) ≡ b
        by true e is_so = ap (λ k. is_path path (slice_get circuit.paths k)) (true-eqb s t (sym e)) ∙ ap (is_path path) is ∙ (bytes_eq-Decides path path).1 refl
        by false e (inr other) = other
        by false e (inl so) =
            let at = path-is path (slice_get circuit.paths s) so in
            let same : s ≡ t = once-apart circuit.paths [] once s t (slice_get_within circuit.paths s path at) (slice_get_within circuit.paths t path is) (get_or_from_slice_get circuit.paths s path [] at ∙ sym (get_or_from_slice_get circuit.paths t path [] is)) in
            absurd (true≢false (sym (eq-eqb s t same) ∙ e))

    found : (signals : List ℕ) → place_called circuit path signals ≡ place_among signals t
    found [] = refl
    found (s ∷ signals) = ap₂ (λ (b : Bool) (o : Option ℕ). if b then Some 0 else option_map suc o) (same-test s) (found signals)

  pub place-by : (places : List (Option ℕ)) (signals : List ℕ) (o : Option ℕ) → AllPairs (λ a b. a ≢ b) circuit.paths → HasPlaces signals (length circuit.paths) places → IfSome o (λ t. slice_get circuit.paths t ≡ Some path) → IfNone o (¬ Contains circuit.paths path) → place_by places o ≡ place_called circuit path signals
  place-by places signals None once has some none = sym (missing signals none)
  place-by places signals (Some t) once has some none = has.each t (slice_get_within circuit.paths t path some) ∙ sym (found once t some signals)

-- a table for as many numbers
pub has-places : (list : List ℕ) (n m : ℕ) (table places : List (Option ℕ)) → HasPlaces list n table → n ≡ m → places ≡ table → HasPlaces list m places
has-places list n m table places has count same = subst (HasPlaces list m) (sym same) (subst (λ k. HasPlaces list k table) count has)
