-- One more seat is taken into a row, or put back.
use Rattle.std.proofs.Common.{◌≡◌, ◌≢◌, ℕ, zero, suc, ◌<◌, ◌++◌, List, [], ◌∷◌, Option, None, Some, length, refl, sym, ap, subst, ◌∙◌, ⊎_elim, arith, get_or-set_same, get_or-set_other, true≢false}
use Rattle.std.specs.Prelude.{IsSome, slice_set}
use Rattle.std.proofs.lemmas.Bool.{cases_eq}
use Rattle.std.proofs.lemmas.List.{length-append, length-set, get_or_append_left, get_or_at}
use Rattle.gg_flat.specs.Line.{value_at}
use Rattle.gg_workers_pass.specs.inside.SeatLists.{seat_at, AreOnce, RowIsThere, RowTakenOut, RowPutBack}

-- a seat that is there is within the list
pub seat-within : {S : Type 0} (seats : List (Option S)) (c : ℕ) → IsSome (seat_at seats c) → c < length seats
seat-within [] c some = absurd (true≢false (sym some))
seat-within (seat ∷ seats) zero some = omega arith
seat-within (seat ∷ seats) (suc c) some = let within : c < length seats = seat-within seats c some in omega arith

before : (channels : List ℕ) (n k : ℕ) → AreOnce channels → n < length channels → k < n → value_at channels k ≢ value_at channels n
before channels n k once inside lt same = let is : k ≡ n = once k n (omega (arith, lt, inside)) inside same in omega (arith, lt, is)

module _ {S : Type 0} (channels : List ℕ) (once : AreOnce channels) (n : ℕ) (inside : n < length channels) where
  pub taken_out-start : (seats : List (Option S)) → RowTakenOut channels 0 seats seats []
  taken_out-start seats = record { long = refl; count = refl; row = λ k s lt. absurd (omega (arith, lt)); taken = λ k lt. absurd (omega (arith, lt)); others = λ c none. refl }

  module _ (old new : List (Option S)) (row : List S) (h : RowTakenOut channels n old new row) where
    pub next-same : seat_at new (value_at channels n) ≡ seat_at old (value_at channels n)
    next-same = h.others (value_at channels n) (λ k lt. before channels n k once inside lt)

    pub next-there : RowIsThere channels old → IsSome (seat_at new (value_at channels n))
    next-there there = subst IsSome (sym next-same) (there n inside)

    pub next-within : RowIsThere channels old → value_at channels n < length new
    next-within there = seat-within new (value_at channels n) (next-there there)

    pub taken_out-more : RowIsThere channels old → (seat : S) → seat_at new (value_at channels n) ≡ Some seat → RowTakenOut channels (suc n) old (slice_set new (value_at channels n) None) (row ++ seat ∷ [])
    taken_out-more there seat is =
        record {
          long = omega (arith, length-append row (seat ∷ []), h.long);
          count = length-set new (value_at channels n) None ∙ h.count;
          row = λ k s lt. ⊎_elim
              (λ (same : k ≡ n). ap (λ j. seat_at old (value_at channels j)) same ∙ sym next-same ∙ is ∙ ap (λ (t : S). Some t) (sym (get_or_at row seat [] s k (h.long ∙ sym same))))
              (λ (other : k ≢ n). h.row k s (omega (arith, lt, other)) ∙ ap (λ (t : S). Some t) (sym (get_or_append_left row (seat ∷ []) s k (omega (arith, lt, other, h.long)))))
              (cases_eq k n);
          taken = λ k lt. ⊎_elim
              (λ (same : k ≡ n). ap (λ j. seat_at (slice_set new (value_at channels n) None) (value_at channels j)) same ∙ get_or-set_same new (value_at channels n) None None (next-within there))
              (λ (other : k ≢ n). get_or-set_other new (value_at channels n) (value_at channels k) None None (before channels n k once inside (omega (arith, lt, other))) ∙ h.taken k (omega (arith, lt, other)))
              (cases_eq k n);
          others = λ c apart.
              get_or-set_other new (value_at channels n) c None None (λ same. apart n (omega arith) (sym same)) ∙ h.others c (λ k lt. apart k (omega (arith, lt)));
        }

  pub put_back-more : (old new : List (Option S)) (row : List S) (seat : S) → n ≡ length row → value_at channels n < length old → RowPutBack channels n row old new → RowPutBack channels (suc n) (row ++ seat ∷ []) old (slice_set new (value_at channels n) (Some seat))
  put_back-more old new row seat long within h =
      record {
        count = length-set new (value_at channels n) (Some seat) ∙ h.count;
        given = λ k s lt. ⊎_elim
            (λ (same : k ≡ n).
            ap (λ j. seat_at (slice_set new (value_at channels n) (Some seat)) (value_at channels j)) same
            ∙ get_or-set_same new (value_at channels n) (Some seat) None (omega (arith, within, h.count))
            ∙ ap (λ (t : S). Some t) (sym (get_or_at row seat [] s k (sym long ∙ sym same))))
            (λ (other : k ≢ n).
            get_or-set_other new (value_at channels n) (value_at channels k) (Some seat) None (before channels n k once inside (omega (arith, lt, other)))
            ∙ h.given k s (omega (arith, lt, other))
            ∙ ap (λ (t : S). Some t) (sym (get_or_append_left row (seat ∷ []) s k (omega (arith, lt, other, long)))))
            (cases_eq k n);
        others = λ c apart.
            get_or-set_other new (value_at channels n) c (Some seat) None (λ same. apart n (omega arith) (sym same)) ∙ h.others c (λ k lt. apart k (omega (arith, lt)));
      }
