-- Ratios by the names of clocks, while they are collected.
use Rattle.std.proofs.Common.{◌≡◌, ℕ, zero, suc, ◌+◌, ◌<◌, ◌≤◌, List, [], ◌∷◌, ◌++◌, length, take, get_or, Bool, true, false, refl, sym, ◌∙◌, ap, subst, inl, inr, ◌⊎◌, Some, None, arith}
use Rattle.std.specs.Prelude.{Option, find, option_map, bytes_eq, not, if◌then◌else◌, Contains}
use Rattle.std.proofs.lemmas.Bool.{cases_Bool, cases_lt}
use Rattle.std.proofs.lemmas.List.{get_or_append_left, get_or_push, length_push, take_more}
use Rattle.std.proofs.lemmas.Slice.Eq.{bytes_eq-Decides}
use Rattle.gg_flat.specs.Clock.{Ratio}
use Rattle.gg_cut_plan.specs.Clocks.{is_ratio, ratio_with}
use Rattle.gg_cut_plan.specs.Fault.{ratio_fault, unknown_clock}
use Rattle.gg_bits.specs.Lists.{or_else}
use Rattle.gg_cut_plan.specs.Listed.{is_among}
use Rattle.gg_cut_plan.specs.inside.Named.{AreNamed, ratio_named}
use Rattle.gg_cut_plan.specs.declared.fault.CutFault.TheVariants.{WrongRatio}
use Rattle.gg_cut_plan.proofs.FindLemmas.{find-same, none-map}

-- a set of names has the same unknown name
pub unknown-same : (set names : List (List ℕ)) (clocks : List (List ℕ × (ℕ × ℕ))) → ((path : List ℕ) → is_among set path ≡ is_among names path) → unknown_clock set clocks ≡ unknown_clock names clocks
unknown-same set names clocks same =
    ap (option_map (λ pair. pair.0)) (find-same (λ pair. not (is_among set pair.0)) (λ pair. not (is_among names pair.0)) clocks (λ pair. ap not (same pair.0)))

-- a pair behind others is found if none of them has the name
named-push : (clocks : List (List ℕ × (ℕ × ℕ))) (pair : List ℕ × (ℕ × ℕ)) (name : List ℕ) → ratio_named (clocks ++ pair ∷ []) name ≡ or_else (ratio_named clocks name) (ratio_named (pair ∷ []) name)
named-push [] pair name = refl
named-push (first ∷ clocks) pair name = go (bytes_eq first.0 name) (named-push clocks pair name)
  where
    go : (b : Bool) → ratio_named (clocks ++ pair ∷ []) name ≡ or_else (ratio_named clocks name) (ratio_named (pair ∷ []) name)
        → option_map (λ p. ratio_with p.1) (if b then Some first else find (λ p. bytes_eq p.0 name) (clocks ++ pair ∷ []))
        ≡ or_else (option_map (λ p. ratio_with p.1) (if b then Some first else find (λ p. bytes_eq p.0 name) clocks)) (ratio_named (pair ∷ []) name)
    go true rest = refl
    go false rest = rest

module _ (clocks : List (List ℕ × (ℕ × ℕ))) (i : ℕ) (names : List (List ℕ)) (ratios : List Ratio) (pair : List ℕ × (ℕ × ℕ)) (lt : i < length clocks) (is : get_or clocks i pair ≡ pair) (are : AreNamed clocks i names ratios) where
  more : (name : List ℕ) → ratio_named (take (i + 1) clocks) name ≡ or_else (ratio_named (take i clocks) name) (ratio_named (pair ∷ []) name)
  more name =
      ap (λ (l : List (List ℕ × (ℕ × ℕ))). ratio_named l name) (take_more clocks i pair lt ∙ ap (λ (p : List ℕ × (ℕ × ℕ)). take i clocks ++ p ∷ []) is)
      ∙ named-push (take i clocks) pair name

  -- what was found is found
  stays : (k : ℕ) (any : Ratio) → k < length names → ratio_named (take (i + 1) clocks) (get_or names k []) ≡ Some (get_or ratios k any)
  stays k any known = more (get_or names k []) ∙ ap (λ (o : Option Ratio). or_else o (ratio_named (pair ∷ []) (get_or names k []))) (are.found k any known)

  -- and what isn't named is missing
  misses : (name : List ℕ) → ¬ Contains names name → (pair.0 ≡ name → ⊥) → ratio_named (take (i + 1) clocks) name ≡ None
  misses name none other = more name ∙ ap (λ (o : Option Ratio). or_else o (ratio_named (pair ∷ []) name)) (are.missing name none) ∙ last (cases_Bool (bytes_eq pair.0 name))
    where
      last : (bytes_eq pair.0 name ≡ true) ⊎ (bytes_eq pair.0 name ≡ false) → ratio_named (pair ∷ []) name ≡ None
      last (inl same) = absurd (other ((bytes_eq-Decides pair.0 name).0 same))
      last (inr apart) = ap (λ (b : Bool). option_map (λ p. ratio_with p.1) (if b then Some pair else None)) apart

  -- a name that is there already
  pub named-again : Contains names pair.0 → AreNamed clocks (i + 1) names ratios
  named-again there =
      record {
        count = are.count;
        few = omega (arith, are.few);
        found = stays;
        missing = λ name none. misses name none (λ same. none (subst (Contains names) same there));
      }

  -- a new name
  pub named-more : (names' : List (List ℕ)) (ratios' : List Ratio) → ¬ Contains names pair.0 → names' ≡ names ++ pair.0 ∷ [] → ratios' ≡ ratios ++ ratio_with pair.1 ∷ [] → AreNamed clocks (i + 1) names' ratios'
  named-more names' ratios' fresh named given =
      subst (λ (l : List (List ℕ)). AreNamed clocks (i + 1) l ratios') (sym named)
      (subst (λ (l : List Ratio). AreNamed clocks (i + 1) (names ++ pair.0 ∷ []) l) (sym given)
      (record {
        count = length_push ratios (ratio_with pair.1) ∙ ap (λ n. n + 1) are.count ∙ sym (length_push names pair.0);
        few = omega (arith, are.few, length_push names pair.0);
        found = found;
        missing = λ name none.
            misses name (λ there. none (there.0, omega (arith, there.1, length_push names pair.0), get_or_append_left names (pair.0 ∷ []) name there.0 there.1 ∙ there.2))
            (λ same. none (length names, omega (arith, length_push names pair.0), get_or_push names pair.0 name (length names) refl ∙ same));
      }))
    where
      own : ratio_named (take (i + 1) clocks) pair.0 ≡ Some (ratio_with pair.1)
      own =
          more pair.0 ∙ ap (λ (o : Option Ratio). or_else o (ratio_named (pair ∷ []) pair.0)) (are.missing pair.0 fresh)
          ∙ ap (λ (b : Bool). option_map (λ p. ratio_with p.1) (if b then Some pair else None)) ((bytes_eq-Decides pair.0 pair.0).1 refl)

      found : (k : ℕ) (any : Ratio) → k < length (names ++ pair.0 ∷ []) → ratio_named (take (i + 1) clocks) (get_or (names ++ pair.0 ∷ []) k []) ≡ Some (get_or (ratios ++ ratio_with pair.1 ∷ []) k any)
      found k any known = at (cases_lt k (length names))
        where
          at : (k < length names) ⊎ (length names ≤ k) → ratio_named (take (i + 1) clocks) (get_or (names ++ pair.0 ∷ []) k []) ≡ Some (get_or (ratios ++ ratio_with pair.1 ∷ []) k any)
          at (inl low) =
              ap (ratio_named (take (i + 1) clocks)) (get_or_append_left names (pair.0 ∷ []) [] k low)
              ∙ stays k any low ∙ ap Some (sym (get_or_append_left ratios (ratio_with pair.1 ∷ []) any k (omega (arith, low, are.count))))
          at (inr high) =
              let e : k ≡ length names = omega (arith, high, known, length_push names pair.0) in
              ap (ratio_named (take (i + 1) clocks)) (get_or_push names pair.0 [] k (sym e))
              ∙ own ∙ ap Some (sym (get_or_push ratios (ratio_with pair.1) any k (are.count ∙ sym e)))

-- before the first name
pub named-start : (clocks : List (List ℕ × (ℕ × ℕ))) (names : List (List ℕ)) (ratios : List Ratio) → names ≡ [] → ratios ≡ [] → AreNamed clocks 0 names ratios
named-start clocks names ratios n r =
    subst (λ (l : List (List ℕ)). AreNamed clocks 0 l ratios) (sym n)
    (subst (λ (l : List Ratio). AreNamed clocks 0 [] l) (sym r)
    (record { count = refl; few = omega arith; found = λ k any lt. absurd (omega (arith, lt)); missing = λ name none. refl }))

-- ---- ratios without a fault are in range

all-right : (clocks : List (List ℕ × (ℕ × ℕ))) → find (λ pair. not (is_ratio pair.1.0 pair.1.1)) clocks ≡ None → (i : ℕ) (d : List ℕ × (ℕ × ℕ)) → i < length clocks → is_ratio (get_or clocks i d).1.0 (get_or clocks i d).1.1 ≡ true
all-right [] none i d lt = absurd (omega (arith, lt))
all-right (first ∷ clocks) none i d lt = go (cases_Bool (is_ratio first.1.0 first.1.1)) i lt (all-right clocks)
  where
    clash : {X : Type 0} → Some first ≡ None → X
    clash e = absurd (cc)

    go : (is_ratio first.1.0 first.1.1 ≡ true) ⊎ (is_ratio first.1.0 first.1.1 ≡ false) → (i : ℕ) → i < length (first ∷ clocks)
        → (find (λ pair. not (is_ratio pair.1.0 pair.1.1)) clocks ≡ None → (j : ℕ) (d : List ℕ × (ℕ × ℕ)) → j < length clocks → is_ratio (get_or clocks j d).1.0 (get_or clocks j d).1.1 ≡ true)
        → is_ratio (get_or (first ∷ clocks) i d).1.0 (get_or (first ∷ clocks) i d).1.1 ≡ true
    go (inl fine) zero lt later = fine
    go (inl fine) (suc j) lt later = later (sym (ap (λ (b : Bool). if not b then Some first else find (λ pair. not (is_ratio pair.1.0 pair.1.1)) clocks) fine) ∙ none) j d (omega (arith, lt))
    go (inr bad) i lt later = clash (sym (ap (λ (b : Bool). if not b then Some first else find (λ pair. not (is_ratio pair.1.0 pair.1.1)) clocks) bad) ∙ none)

pub ranges-at : (clocks : List (List ℕ × (ℕ × ℕ))) (i : ℕ) (pair : List ℕ × (ℕ × ℕ)) → ratio_fault clocks ≡ None → i < length clocks → get_or clocks i pair ≡ pair → is_ratio pair.1.0 pair.1.1 ≡ true
ranges-at clocks i pair none lt is =
    ap (λ (p : List ℕ × (ℕ × ℕ)). is_ratio p.1.0 p.1.1) (sym is)
    ∙ all-right clocks (none-map (λ pair. WrongRatio pair.0 pair.1.0 pair.1.1) (find (λ pair. not (is_ratio pair.1.0 pair.1.1)) clocks) none) i pair lt
