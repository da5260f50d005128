-- A stream of which one more value is put, taken or handed back.
use Rattle.std.proofs.Common.{◌≡◌, ℕ, ◌+◌, ◌-◌, ◌<◌, ◌≤◌, List, [], ◌∷◌, ◌++◌, length, take, drop, get_or, slice_get, slice_index, Some, refl, sym, ap, ◌∙◌, arith, append_assoc, length-append, length-drop}
use Rattle.std.proofs.lemmas.List.{get_or-drop, take_more}

-- the value behind a front part
pub value-behind : (front : List ℕ) (value : ℕ) (rest : List ℕ) → slice_get (front ++ value ∷ rest) (length front) ≡ Some value
value-behind [] value rest = refl
value-behind (x ∷ front) value rest = value-behind front value rest

-- what stands behind k values, where all that is held begins with `value`
pub next_of : (stream done held after rest : List ℕ) (value : ℕ) → stream ≡ done ++ (held ++ rest) → held ≡ value ∷ after
    → (slice_get stream (length done) ≡ Some value) × (stream ≡ (done ++ value ∷ []) ++ (after ++ rest)) × (length (done ++ value ∷ []) ≡ length done + 1)
next_of stream done held after rest value is front =
    let whole : stream ≡ done ++ value ∷ (after ++ rest) = is ∙ ap (λ h. done ++ (h ++ rest)) front in (
      ap (λ s. slice_get s (length done)) whole ∙ value-behind done value (after ++ rest),
      whole ∙ sym (append_assoc done (value ∷ []) (after ++ rest)),
      length-append done (value ∷ []),
    )

-- the values from place `from` to place k, and the one at k
pub one_more : (stream : List ℕ) (from k value : ℕ) → from ≤ k → k < length stream → value ≡ slice_index stream k
    → take (k + 1 - from) (drop from stream) ≡ take (k - from) (drop from stream) ++ value ∷ []
one_more stream from k value le lt is =
    let n = k - from in
    let inside : n < length (drop from stream) = omega (arith, length-drop from stream) in
    let read : get_or (drop from stream) n 0 ≡ value = get_or-drop from stream n 0 ∙ ap (λ i. get_or stream i 0) (omega arith) ∙ sym is in
    let next : k + 1 - from ≡ n + 1 = omega arith in
    ap (λ i. take i (drop from stream)) next ∙ take_more (drop from stream) n 0 inside ∙ ap (λ x. take n (drop from stream) ++ x ∷ []) read

-- a value that is pushed behind a part
pub pushed_behind : (new old front part longer : List ℕ) (value : ℕ) → new ≡ old ++ value ∷ [] → old ≡ front ++ part → longer ≡ part ++ value ∷ [] → new ≡ front ++ longer
pushed_behind new old front part longer value pushed was is = pushed ∙ ap (λ l. l ++ value ∷ []) was ∙ append_assoc front part (value ∷ []) ∙ ap (λ l. front ++ l) (sym is)
