-- Names and their places in a list of names with ways.
use Rattle.std.proofs.Common.{◌≡◌, ℕ, suc, ◌+◌, ◌<◌, Bool, true, false, List, [], ◌∷◌, length, Option, Some, None, refl, sym, ap, ◌∙◌, if◌then◌else◌, arith}
use Rattle.std.proofs.lemmas.Slice.Eq.{bytes_eq-Decides}
use Rattle.std.specs.Option.{option_map}
use Rattle.std.specs.Str.{bytes_eq}
use Rattle.std.proofs.lemmas.Option.{none-some}
use Rattle.gg_types.specs.declared.way.Way.{Way}
use Rattle.gg_bits.specs.Lists.{find_word}
use Rattle.gg_types.specs.inside.Places.{place_in, way_at}

pub same_bytes : (a b : List ℕ) → bytes_eq a b ≡ true → a ≡ b
same_bytes a b h = (bytes_eq-Decides a b).0 h

pub place-within : (name : List ℕ) (ways : List (List ℕ × Way)) (k : ℕ) → place_in name ways ≡ Some k → k < length ways
place-within name [] k h = cc
place-within name (d ∷ ds) k h = go (bytes_eq name d.0) refl (place_in name ds) refl (place-within name ds)
  where
    go : (b : Bool) → bytes_eq name d.0 ≡ b → (o : Option ℕ) → place_in name ds ≡ o → ((j : ℕ) → place_in name ds ≡ Some j → j < length ds) → k < suc (length ds)
    go true t o u rest =
        let e : Some 0 ≡ Some k = sym (ap (λ b. if b then Some 0 else option_map (λ k. k + 1) (place_in name ds)) t) ∙ h in
        let z : 0 ≡ k = cc in omega arith
    go false t None u rest =
        let e : None ≡ Some k = sym (ap (λ b. if b then Some 0 else option_map (λ k. k + 1) (place_in name ds)) t ∙ ap (option_map (λ k. k + 1)) u) ∙ h in
        cc
    go false t (Some j) u rest =
        let e : Some (j + 1) ≡ Some k = sym (ap (λ b. if b then Some 0 else option_map (λ k. k + 1) (place_in name ds)) t ∙ ap (option_map (λ k. k + 1)) u) ∙ h in
        let z : j + 1 ≡ k = cc in
        let below = rest j u in
        omega arith

-- a name without a place has no way
pub way-placed : (name : List ℕ) (ways : List (List ℕ × Way)) → place_in name ways ≡ None → find_word name ways ≡ None
way-placed name [] h = refl
way-placed name (d ∷ ds) h = go (bytes_eq name d.0) refl (place_in name ds) refl (way-placed name ds)
  where
    go : (b : Bool) → bytes_eq name d.0 ≡ b → (o : Option ℕ) → place_in name ds ≡ o → (place_in name ds ≡ None → find_word name ds ≡ None) → find_word name (d ∷ ds) ≡ None
    go true t o u rest =
        let e : Some 0 ≡ None = sym (ap (λ b. if b then Some 0 else option_map (λ k. k + 1) (place_in name ds)) t) ∙ h in
        cc
    go false t None u rest = ap (λ b. if b then Some d.1 else find_word name ds) t ∙ rest u
    go false t (Some j) u rest =
        let e : Some (j + 1) ≡ None = sym (ap (λ b. if b then Some 0 else option_map (λ k. k + 1) (place_in name ds)) t ∙ ap (option_map (λ k. k + 1)) u) ∙ h in
        cc

-- two names with the same place are the same
pub place-same : (a b : List ℕ) (ways : List (List ℕ × Way)) (k : ℕ) → place_in a ways ≡ Some k → place_in b ways ≡ Some k → a ≡ b
place-same a b [] k h g = cc
place-same a b (d ∷ ds) k h g = go (bytes_eq a d.0) refl (bytes_eq b d.0) refl (place_in a ds) refl (place_in b ds) refl (place-same a b ds)
  where
    at : List ℕ → Bool → Option ℕ
    at name t = if t then Some 0 else option_map (λ k. k + 1) (place_in name ds)

    go : (p : Bool) → bytes_eq a d.0 ≡ p → (q : Bool) → bytes_eq b d.0 ≡ q → (m : Option ℕ) → place_in a ds ≡ m → (n : Option ℕ) → place_in b ds ≡ n → ((j : ℕ) → place_in a ds ≡ Some j → place_in b ds ≡ Some j → a ≡ b) → a ≡ b
    go true t true s m u n v rest = same_bytes a d.0 t ∙ sym (same_bytes b d.0 s)
    go true t false s m u None v rest =
        let e : None ≡ Some k = sym (ap (at b) s ∙ ap (option_map (λ k. k + 1)) v) ∙ g in cc
    go true t false s m u (Some j) v rest =
        let e : Some (j + 1) ≡ Some k = sym (ap (at b) s ∙ ap (option_map (λ k. k + 1)) v) ∙ g in
        let f : Some 0 ≡ Some k = sym (ap (at a) t) ∙ h in
        let x : j + 1 ≡ k = cc in
        let y : 0 ≡ k = cc in
        absurd (omega arith)
    go false t true s None u n v rest =
        let e : None ≡ Some k = sym (ap (at a) t ∙ ap (option_map (λ k. k + 1)) u) ∙ h in cc
    go false t true s (Some j) u n v rest =
        let e : Some (j + 1) ≡ Some k = sym (ap (at a) t ∙ ap (option_map (λ k. k + 1)) u) ∙ h in
        let f : Some 0 ≡ Some k = sym (ap (at b) s) ∙ g in
        let x : j + 1 ≡ k = cc in
        let y : 0 ≡ k = cc in
        absurd (omega arith)
    go false t false s None u n v rest =
        let e : None ≡ Some k = sym (ap (at a) t ∙ ap (option_map (λ k. k + 1)) u) ∙ h in cc
    go false t false s (Some i) u None v rest =
        let e : None ≡ Some k = sym (ap (at b) s ∙ ap (option_map (λ k. k + 1)) v) ∙ g in cc
    go false t false s (Some i) u (Some j) v rest =
        let e : Some (i + 1) ≡ Some k = sym (ap (at a) t ∙ ap (option_map (λ k. k + 1)) u) ∙ h in
        let f : Some (j + 1) ≡ Some k = sym (ap (at b) s ∙ ap (option_map (λ k. k + 1)) v) ∙ g in
        let x : i + 1 ≡ k = cc in
        let y : j + 1 ≡ k = cc in
        let z : j ≡ i = omega arith in
        rest i u (v ∙ ap Some z)

-- the way of a name is the way at its place
pub placed-way : (name : List ℕ) (ways : List (List ℕ × Way)) (k : ℕ) → place_in name ways ≡ Some k → find_word name ways ≡ way_at ways k
placed-way name [] k h = absurd (none-some k h)
placed-way name (d ∷ ds) k h = go (bytes_eq name d.0) refl (place_in name ds) refl (placed-way name ds)
  where
    at : Bool → Option ℕ
    at t = if t then Some 0 else option_map (λ k. k + 1) (place_in name ds)

    go : (b : Bool) → bytes_eq name d.0 ≡ b → (o : Option ℕ) → place_in name ds ≡ o → ((j : ℕ) → place_in name ds ≡ Some j → find_word name ds ≡ way_at ds j) → find_word name (d ∷ ds) ≡ way_at (d ∷ ds) k
    go true t o u rest =
        let e : Some 0 ≡ Some k = sym (ap at t) ∙ h in
        let z : 0 ≡ k = cc in
        ap (λ b. if b then Some d.1 else find_word name ds) t ∙ ap (way_at (d ∷ ds)) z
    go false t None u rest = absurd (none-some k (sym (ap at t ∙ ap (option_map (λ k. k + 1)) u) ∙ h))
    go false t (Some j) u rest =
        let e : Some (j + 1) ≡ Some k = sym (ap at t ∙ ap (option_map (λ k. k + 1)) u) ∙ h in
        let z : j + 1 ≡ k = cc in
        let w : suc j ≡ k = omega arith in
        ap (λ b. if b then Some d.1 else find_word name ds) t ∙ rest j u ∙ ap (way_at (d ∷ ds)) w
