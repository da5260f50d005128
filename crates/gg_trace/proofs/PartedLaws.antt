-- `AreFields` holds for just one list of fields: the one that `fields` computes.
use Rattle.std.proofs.Common.{◌≡◌, ℕ, ◌+◌, ◌<◌, zero, suc, Bool, true, false, List, [], ◌∷◌, ◌++◌, length, get_or, drop, refl, sym, ap, ◌∙◌, subst, arith, length-append}
use Rattle.std.proofs.lemmas.List.{take_all, take_at, drop_at, get_or_append_left, get_or-append-add}
use Rattle.gg_trace.specs.Fields.{is_blank, fields, fields_of_text}
use Rattle.gg_trace.specs.inside.Parted.{HasNoBlank, IsGap, IsCut, IsParted, AreFields}
use Rattle.gg_trace.proofs.FieldLaws.{fields_of_text-last, fields_of_text-first}

-- a text that is cut into a first field and a rest has this first field
cut_field : (text field rest : List ℕ) → IsCut text field rest → fields_of_text text ≡ field ∷ fields_of_text rest
cut_field text field rest cut =
    subst (λ t. fields_of_text t ≡ field ∷ fields_of_text rest) (sym cut.whole)
    (fields_of_text-first whole (length field) (length cut.gap) inside before blank (omega (arith, long)) gap ends
    ∙ ap (λ f. f ∷ fields_of_text (drop (length cut.gap) (drop (length field) whole))) (take_at field behind (length field) refl)
    ∙ ap (λ t. field ∷ fields_of_text t) (ap (drop (length cut.gap)) after ∙ drop_at cut.gap rest (length cut.gap) refl))
  where
    behind : List ℕ
    behind = cut.gap ++ rest

    whole : List ℕ
    whole = field ++ behind

    after : drop (length field) whole ≡ behind
    after = drop_at field behind (length field) refl

    long : length (drop (length field) whole) ≡ length cut.gap + length rest
    long = ap length after ∙ length-append cut.gap rest

    inside : length field < length whole
    inside = omega (arith, length-append field behind, length-append cut.gap rest, cut.is_gap.some)

    before : (k : ℕ) → k < length field → is_blank (get_or whole k 0) ≡ false
    before k h = ap is_blank (get_or_append_left field behind 0 k h) ∙ cut.plain k h

    gap : (k : ℕ) → k < length cut.gap → is_blank (get_or (drop (length field) whole) k 0) ≡ true
    gap k h = ap (λ t. is_blank (get_or t k 0)) after ∙ ap is_blank (get_or_append_left cut.gap rest 0 k h) ∙ cut.is_gap.blanks k h

    blank : is_blank (get_or whole (length field) 0) ≡ true
    blank =
        let e : length field + 0 ≡ length field = omega arith in
        ap (λ n. is_blank (get_or whole n 0)) (sym e) ∙ ap is_blank (get_or-append-add field behind 0 0)
        ∙ ap is_blank (get_or_append_left cut.gap rest 0 0 cut.is_gap.some) ∙ cut.is_gap.blanks 0 cut.is_gap.some

    ends : length cut.gap < length (drop (length field) whole) → is_blank (get_or (drop (length field) whole) (length cut.gap) 0) ≡ false
    ends h =
        let e : length cut.gap + 0 ≡ length cut.gap = omega arith in
        ap (λ t. is_blank (get_or t (length cut.gap) 0)) after ∙ ap (λ n. is_blank (get_or behind n 0)) (sym e)
        ∙ ap is_blank (get_or-append-add cut.gap rest 0 0) ∙ cut.ends (omega (arith, long, h))

-- if a text is these fields with gaps between them, they are its fields
parted_is : (text : List ℕ) (fs : List (List ℕ)) → IsParted text fs → fs ≡ fields_of_text text
parted_is text [] h = absurd h
parted_is text (f ∷ []) h =
    let plain = subst HasNoBlank (sym h.0) h.1 in
    sym (fields_of_text-last text (length text) (omega arith) (omega arith) plain ∙ ap (λ t. t ∷ []) (take_all (length text) text (omega arith) ∙ h.0))
parted_is text (f ∷ g ∷ fs) h = ap (λ more. f ∷ more) (parted_is h.0 (g ∷ fs) h.2) ∙ sym (cut_field text f h.0 h.1)

one_blank : (b : ℕ) → is_blank b ≡ true → IsGap (b ∷ [])
one_blank b h = record { some = omega arith; blanks = blanks }
  where
    blanks : (k : ℕ) → k < 1 → is_blank (get_or (b ∷ []) k 0) ≡ true
    blanks zero _ = h
    blanks (suc k) small = absurd (omega arith)

more_blanks : (b : ℕ) (gap : List ℕ) → is_blank b ≡ true → IsGap gap → IsGap (b ∷ gap)
more_blanks b gap h is = record { some = omega arith; blanks = blanks }
  where
    blanks : (k : ℕ) → k < suc (length gap) → is_blank (get_or (b ∷ gap) k 0) ≡ true
    blanks zero _ = h
    blanks (suc k) small = is.blanks k (omega arith)

pub no_byte : HasNoBlank []
no_byte k h = absurd (omega arith)

pub more_plain : (b : ℕ) (text : List ℕ) → is_blank b ≡ false → HasNoBlank text → HasNoBlank (b ∷ text)
more_plain b text h is zero _ = h
more_plain b text h is (suc k) small = is k (omega arith)

-- a byte that is no blank joins the first field
join : (b : ℕ) (text : List ℕ) (fs : List (List ℕ)) → is_blank b ≡ false → IsParted text fs → (gs : List (List ℕ)) × IsParted (b ∷ text) gs
join b text [] h parted = absurd parted
join b text (f ∷ []) h parted = ((b ∷ f) ∷ [], (ap (λ t. b ∷ t) parted.0, more_plain b f h parted.1))
join b text (f ∷ g ∷ fs) h parted =
    let cut = parted.1 in
    ((b ∷ f) ∷ g ∷ fs, (parted.0, record { gap = cut.gap; whole = ap (λ t. b ∷ t) cut.whole; plain = more_plain b f h cut.plain; is_gap = cut.is_gap; ends = cut.ends }, parted.2))

-- a blank begins a gap, or lengthens the one at the front
lengthen : (b : ℕ) (text : List ℕ) (fs : List (List ℕ)) → is_blank b ≡ true → IsParted text fs → (gs : List (List ℕ)) × IsParted (b ∷ text) gs
lengthen b text [] h parted = absurd parted
lengthen b text ([] ∷ []) h parted =
    ([] ∷ [] ∷ [], (text, record { gap = b ∷ []; whole = refl; plain = no_byte; is_gap = one_blank b h; ends = λ some. absurd (omega (arith, ap length parted.0)) }, parted))
lengthen b text ((c ∷ f) ∷ []) h parted =
    ([] ∷ (c ∷ f) ∷ [], (text, record { gap = b ∷ []; whole = refl; plain = no_byte; is_gap = one_blank b h; ends = λ some. ap (λ t. is_blank (get_or t 0 0)) parted.0 ∙ parted.1 0 (omega arith) }, parted))
lengthen b text ([] ∷ g ∷ fs) h parted =
    let cut = parted.1 in
    ([] ∷ g ∷ fs, (parted.0, record { gap = b ∷ cut.gap; whole = ap (λ t. b ∷ t) cut.whole; plain = no_byte; is_gap = more_blanks b cut.gap h cut.is_gap; ends = cut.ends }, parted.2))
lengthen b text ((c ∷ f) ∷ g ∷ fs) h parted =
    let cut = parted.1 in (
      [] ∷ (c ∷ f) ∷ g ∷ fs,
      (text, record { gap = b ∷ []; whole = refl; plain = no_byte; is_gap = one_blank b h; ends = λ some. ap (λ t. is_blank (get_or t 0 0)) cut.whole ∙ cut.plain 0 (omega arith) }, parted),
    )

parts : (text : List ℕ) → (fs : List (List ℕ)) × IsParted text fs
parts [] = ([] ∷ [], (refl, no_byte))
parts (b ∷ text) = by_kind (parts text) (is_blank b) refl
  where
    by_kind : (fs : List (List ℕ)) × IsParted text fs → (kind : Bool) → is_blank b ≡ kind → (gs : List (List ℕ)) × IsParted (b ∷ text) gs
    by_kind found true h = lengthen b text found.0 h found.1
    by_kind found false h = join b text found.0 h found.1

-- a text is its fields with gaps between them
fields_part : (text : List ℕ) → IsParted text (fields_of_text text)
fields_part text = let found = parts text in subst (IsParted text) (parted_is text found.0 found.1) found.1

pub are_fields : (line : List ℕ) (fs : List (List ℕ)) → AreFields line fs → fs ≡ fields line
unfolding fields
are_fields [] fs h = h
are_fields (b ∷ line) fs h = parted_is (b ∷ line) fs h

pub fields_are : (line : List ℕ) → AreFields line (fields line)
unfolding fields
fields_are [] = refl
fields_are (b ∷ line) = fields_part (b ∷ line)
