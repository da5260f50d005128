-- The fields of a text: its first field, and the fields of what follows it.
use Rattle.std.proofs.Common.{◌≡◌, ℕ, ◌+◌, ◌-◌, ◌<◌, ◌≤◌, Bool, true, false, not, List, [], ◌∷◌, length, get_or, take, drop, All, refl, sym, ap, ◌∙◌, subst, arith, suc, zero, length-drop}
use Rattle.std.specs.List.{slice_split, onto_first, position_or_len}
use Rattle.std.proofs.lemmas.List.Splits.{slice_split_first, slice_split_none, length-slice_split}
use Rattle.std.proofs.lemmas.List.Sums.{position_or_len_is, count_by-le-length}
use Rattle.std.proofs.lemmas.List.{get_or_default, take_all, drop-drop, get_or-drop}
use Rattle.std.proofs.lemmas.Bool.{false≢true}
use Rattle.gg_trace.specs.Fields.{is_blank, fields, fields_of_text, fields_of_parts, later_fields}

-- an empty part adds no field, if another part follows
later_fields-empty : (parts : List (List ℕ)) → 0 < length parts → later_fields ([] ∷ parts) ≡ later_fields parts
later_fields-empty [] h = absurd (omega arith)
later_fields-empty (x ∷ parts) h = refl

later_fields-onto : (b : ℕ) (parts : List (List ℕ)) → later_fields (onto_first b parts) ≡ fields_of_parts (onto_first b parts)
later_fields-onto b [] = refl
later_fields-onto b (x ∷ []) = refl
later_fields-onto b (x ∷ y ∷ parts) = refl

-- after a blank, the fields are those of what follows the run of blanks
later_fields-run : (p : ℕ → Bool) (text : List ℕ) → later_fields (slice_split p text) ≡ fields_of_parts (slice_split p (drop (position_or_len (λ b. not (p b)) text) text))
later_fields-run p [] = refl
later_fields-run p (b ∷ text) = by_kind (later_fields-run p text) (p b) refl
  where
    behind : ℕ
    behind = position_or_len (λ c. not (p c)) text

    by_kind : later_fields (slice_split p text) ≡ fields_of_parts (slice_split p (drop behind text)) → (kind : Bool) → p b ≡ kind
        → later_fields (slice_split p (b ∷ text)) ≡ fields_of_parts (slice_split p (drop (position_or_len (λ c. not (p c)) (b ∷ text)) (b ∷ text)))
    by_kind rest true h =
        let e : 1 + behind ≡ suc behind = omega arith in
        rw h (rw e (later_fields-empty (slice_split p text) (omega (arith, length-slice_split p text)) ∙ rest))
    by_kind rest false h = simp h (later_fields-onto b (slice_split p text))

-- a text without a blank is one field
pub fields_of_text-last : (text : List ℕ) (n : ℕ) → length text ≤ n → n ≤ length text → ((k : ℕ) → k < n → is_blank (get_or text k 0) ≡ false) → fields_of_text text ≡ take n text ∷ []
unfolding fields_of_text
fields_of_text-last text n long within same =
    let none : All (λ b. is_blank b ≡ false) text = λ k d h. ap is_blank (get_or_default text k d 0 h) ∙ same k (omega arith) in
    ap fields_of_parts (slice_split_none is_blank text none) ∙ ap (λ t. t ∷ []) (sym (take_all n text long))

-- for any test in place of `is_blank`: the first field ends where the test first holds, and the other fields follow
first_part : (p : ℕ → Bool) (text : List ℕ) (n : ℕ) → position_or_len p text ≡ n → n < length text
    → fields_of_parts (slice_split p text) ≡ take n text ∷ later_fields (slice_split p (drop (n + 1) text))
first_part p text n e inside =
    subst (λ i. fields_of_parts (slice_split p text) ≡ take i text ∷ later_fields (slice_split p (drop (i + 1) text))) e
    (ap fields_of_parts (slice_split_first p text 0 (omega arith)))

not_is : (b c : Bool) → b ≡ not c → not b ≡ c
not_is true true h = sym h
not_is true false h = refl
not_is false true h = refl
not_is false false h = sym h

-- a run of m blanks that begins at n goes on for m - 1 bytes after its first
behind_run : (p : ℕ → Bool) (text : List ℕ) (n m : ℕ) → n < length text → 0 < m
    → m ≤ length (drop n text) → ((k : ℕ) → k < m → p (get_or (drop n text) k 0) ≡ true)
    → (m < length (drop n text) → p (get_or (drop n text) m 0) ≡ false)
    → position_or_len (λ b. not (p b)) (drop (n + 1) text) ≡ m - 1
behind_run p text n m inside some within gap ends =
    let long = length-drop n text in
    let long_behind = length-drop (n + 1) text in
    position_or_len_is (λ b. not (p b)) (drop (n + 1) text) (m - 1) 0 (omega arith)
    (λ k h. not_is _ false (ap p (at k) ∙ gap (k + 1) (omega arith)))
    (λ h. not_is _ true (ap p (at (m - 1)) ∙ (let e : m - 1 + 1 ≡ m = omega arith in rw e (ends (omega arith)))))
  where
    at : (k : ℕ) → get_or (drop (n + 1) text) k 0 ≡ get_or (drop n text) (k + 1) 0
    at k =
        let e : n + 1 + k ≡ n + (k + 1) = omega arith in
        get_or-drop (n + 1) text k 0 ∙ ap (λ i. get_or text i 0) e ∙ sym (get_or-drop n text (k + 1) 0)

-- the first field, and then the fields of what follows the run of blanks after it
pub fields_of_text-first : (text : List ℕ) (n m : ℕ) → n < length text
    → ((k : ℕ) → k < n → is_blank (get_or text k 0) ≡ false) → is_blank (get_or text n 0) ≡ true
    → m ≤ length (drop n text) → ((k : ℕ) → k < m → is_blank (get_or (drop n text) k 0) ≡ true)
    → (m < length (drop n text) → is_blank (get_or (drop n text) m 0) ≡ false)
    → fields_of_text text ≡ take n text ∷ fields_of_text (drop m (drop n text))
unfolding fields_of_text
fields_of_text-first text n m inside before blank within gap ends =
    let long = length-drop n text in
    let some : 0 < m = starts m ends in
    let behind = behind_run is_blank text n m inside some within gap ends in
    let e : n + 1 + (m - 1) ≡ n + m = omega arith in
    let left : drop (m - 1) (drop (n + 1) text) ≡ drop m (drop n text) = drop-drop (m - 1) (n + 1) text ∙ ap (λ i. drop i text) e ∙ sym (drop-drop m n text) in
    first_part is_blank text n (position_or_len_is is_blank text n 0 (omega arith) before (λ _. blank)) inside
    ∙ ap (λ fields. take n text ∷ fields) (later_fields-run is_blank (drop (n + 1) text)
    ∙ ap (λ rest. fields_of_parts (slice_split is_blank rest)) (ap (λ i. drop i (drop (n + 1) text)) behind ∙ left))
  where
    starts : (i : ℕ) → (i < length (drop n text) → is_blank (get_or (drop n text) i 0) ≡ false) → 0 < i
    starts zero stop =
        let e : n + 0 ≡ n = omega arith in
        absurd (false≢true (sym (stop (omega (arith, length-drop n text))) ∙ ap is_blank (get_or-drop n text 0 0 ∙ ap (λ i. get_or text i 0) e) ∙ blank))
    starts (suc i) stop = omega arith

length-later_fields : (parts : List (List ℕ)) → length (later_fields parts) ≤ length parts
length-later_fields [] = omega arith
length-later_fields (x ∷ []) = omega arith
length-later_fields ([] ∷ y ∷ more) = omega (arith, length-later_fields (y ∷ more))
length-later_fields ((b ∷ x) ∷ y ∷ more) = omega (arith, length-later_fields (y ∷ more))

length-fields_of_parts : (parts : List (List ℕ)) → length (fields_of_parts parts) ≤ length parts
length-fields_of_parts [] = omega arith
length-fields_of_parts (x ∷ more) = omega (arith, length-later_fields more)

length-split : (text : List ℕ) → length (slice_split is_blank text) ≤ length text + 1
length-split text = omega (arith, length-slice_split is_blank text, count_by-le-length is_blank text)

-- a line has at most one field more than it has bytes
pub field_count : (line : List ℕ) → length (fields line) ≤ length line + 1
unfolding fields fields_of_text
field_count [] = omega arith
field_count (b ∷ line) = omega (arith, length-fields_of_parts (slice_split is_blank (b ∷ line)), length-split (b ∷ line))
