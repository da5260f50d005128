-- The hosts of a worker lie in falling order.
use Rattle.std.proofs.Common.{◌≡◌, ℕ, zero, suc, ◌+◌, ◌<◌, ◌≤◌, ◌%◌, List, [], ◌∷◌, ◌++◌, length, slice_index_or, sym, subst, arith, Bool, true, false, inl, inr, length-append, nat_eq, append-nil}
use Rattle.std.proofs.lemmas.Bool.{cases_eq}
use Rattle.std.proofs.lemmas.List.{get_or_append_left}
use Rattle.std.specs.Prelude.{if◌then◌else◌}
use Rattle.gg_workers.specs.inside.Assigned.{share_of}
use Rattle.gg_workers.specs.inside.Turns.{Falls}
use Rattle.gg_workers.proofs.ListLemmas.{last_is}

-- a list with a number behind it, or as it is
abbrev grown : Bool → List ℕ → ℕ → List ℕ
grown b l h = l ++ (if b then h ∷ [] else [])

-- no number is below this
abbrev NoneBelow : ℕ → List ℕ → Type 0
NoneBelow h l = (k d : ℕ) → k < length l → h ≤ slice_index_or l k d

grown-low : (b : Bool) (l : List ℕ) (h : ℕ) → NoneBelow (h + 1) l → NoneBelow h (grown b l h)
grown-low true l h low k d lt = elim (cases_eq k (length l)) [
  | inl end ↦ subst (λ (n : ℕ). h ≤ slice_index_or (l ++ h ∷ []) n d) (sym end) (subst (λ (n : ℕ). h ≤ n) (sym (last_is l h d)) (omega arith))
  | inr ne ↦
      let small : k < length l = omega (arith, lt, ne, length-append l (h ∷ [])) in
      subst (λ (n : ℕ). h ≤ n) (sym (get_or_append_left l (h ∷ []) d k small)) (omega (arith, low k d small))
]
grown-low false l h low k d lt = subst (NoneBelow h) (sym (append-nil l)) (λ i e le. omega (arith, low i e le)) k d lt

grown-falls : (b : Bool) (l : List ℕ) (h : ℕ) → NoneBelow (h + 1) l → Falls l → Falls (grown b l h)
grown-falls true l h low falls i k d lt le =
    let more : length (l ++ h ∷ []) ≡ length l + 1 = length-append l (h ∷ []) in
    let first : i < length l = omega (arith, lt, le, more) in
    let before : slice_index_or (l ++ h ∷ []) i d ≡ slice_index_or l i d = get_or_append_left l (h ∷ []) d i first in
    elim (cases_eq k (length l)) [
      | inl end ↦
          let last : slice_index_or (l ++ h ∷ []) (length l) d ≡ h = last_is l h d in
          subst (λ (n : ℕ). slice_index_or (l ++ h ∷ []) n d < slice_index_or (l ++ h ∷ []) i d) (sym end) (omega (arith, last, before, low i d first))
      | inr ne ↦
          let small : k < length l = omega (arith, le, ne, more) in
          omega (arith, before, get_or_append_left l (h ∷ []) d k small, falls i k d lt small)
    ]
grown-falls false l h low falls i k d lt le = subst Falls (sym (append-nil l)) falls i k d lt le

share-low : (w j h d : ℕ) → NoneBelow h (share_of w j h d)
share-low w j h zero k e lt = absurd (omega (arith, lt))
share-low w j h (suc d) k e lt = grown-low (nat_eq (h % w) j) (share_of w j (h + 1) d) h (share-low w j (h + 1) d) k e lt

pub share-falls : (w j h d : ℕ) → Falls (share_of w j h d)
share-falls w j h zero i k e lt le = absurd (omega (arith, le))
share-falls w j h (suc d) i k e lt le = grown-falls (nat_eq (h % w) j) (share_of w j (h + 1) d) h (share-low w j (h + 1) d) (share-falls w j (h + 1) d) i k e lt le
