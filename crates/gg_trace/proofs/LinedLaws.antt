-- `AreLines` holds for just one list of lines: the one that `text_lines` computes.
use Rattle.std.proofs.Common.{◌≡◌, ◌≢◌, ℕ, ◌+◌, ◌-◌, zero, suc, Bool, true, false, eqb, List, [], ◌∷◌, ◌++◌, length, get_or, drop, ◌⊎◌, inl, inr, refl, sym, ap, ◌∙◌, subst, arith, length-append}
use Rattle.std.specs.Str.Lines.{strip_carriage_return}
use Rattle.std.proofs.lemmas.Bool.{cases_eq}
use Rattle.std.proofs.lemmas.Bool.Decides.{nat_tests}
use Rattle.std.proofs.lemmas.List.{take_at, get_or_append_left}
use Rattle.gg_trace.specs.Fields.{text_lines}
use Rattle.gg_trace.specs.inside.Lined.{HasNoFeed, EndsInReturn, IsLineEnd, IsEnded, AreLines}
use Rattle.gg_trace.proofs.LineLaws.{text_lines-nil, text_lines-last, text_lines-first}

-- the byte after a front part
behind : (front rest : List ℕ) (b : ℕ) → get_or (front ++ b ∷ rest) (length front) 0 ≡ b
behind [] rest b = refl
behind (c ∷ front) rest b = behind front rest b

last_goes : (line : List ℕ) → strip_carriage_return (line ++ 13 ∷ []) ≡ line
last_goes line =
    let e : length (line ++ 13 ∷ []) - 1 ≡ length line = omega (arith, length-append line (13 ∷ [])) in
    rw (e, behind line [] 13) (take_at line (13 ∷ []) (length line) refl)

none_goes : (line : List ℕ) → ¬ EndsInReturn line → strip_carriage_return line ≡ line
none_goes [] h = refl
none_goes (b ∷ line) h = by_kind (eqb (get_or (b ∷ line) (length (b ∷ line) - 1) 0) 13) refl
  where
    by_kind : (is : Bool) → eqb (get_or (b ∷ line) (length (b ∷ line) - 1) 0) 13 ≡ is → strip_carriage_return (b ∷ line) ≡ b ∷ line
    by_kind true e =
        let return : get_or (b ∷ line) (length (b ∷ line) - 1) 0 ≡ 13 = grind (arith, nat_tests) in
        absurd (h (record { some = omega arith; is = return }))
    by_kind false e = rw e refl

-- a front part without a line feed that a line feed follows is the first line, without a carriage return at its end
cut_at : (front rest : List ℕ) → HasNoFeed front → text_lines (front ++ 10 ∷ rest) ≡ strip_carriage_return front ∷ text_lines rest
cut_at front rest plain =
    text_lines-first (front ++ 10 ∷ rest) (length front) (omega (arith, length-append front (10 ∷ rest)))
    (λ k h e. plain k h (sym (get_or_append_left front (10 ∷ rest) 0 k h) ∙ e)) (behind front rest 10)
    ∙ ap (λ f. strip_carriage_return f ∷ text_lines (drop (length front + 1) (front ++ 10 ∷ rest))) (take_at front (10 ∷ rest) (length front) refl)
    ∙ ap (λ t. strip_carriage_return front ∷ text_lines t) (left front)
  where
    left : (some : List ℕ) → drop (length some + 1) (some ++ 10 ∷ rest) ≡ rest
    left [] = refl
    left (b ∷ some) =
        let e : length (b ∷ some) + 1 ≡ suc (length some + 1) = omega arith in
        rw e (left some)

plain_return : (line : List ℕ) → HasNoFeed line → HasNoFeed (line ++ 13 ∷ [])
plain_return [] h zero small = λ e. omega (arith, e)
plain_return [] h (suc k) small = absurd (omega (arith, small))
plain_return (b ∷ line) h zero small = h 0 (omega arith)
plain_return (b ∷ line) h (suc k) small = plain_return line (λ j less. h (suc j) (omega (arith, less))) k (omega (arith, small))

joined : (line rest : List ℕ) → line ++ (13 ∷ 10 ∷ rest) ≡ (line ++ 13 ∷ []) ++ 10 ∷ rest
joined [] rest = refl
joined (b ∷ line) rest = ap (λ t. b ∷ t) (joined line rest)

-- a line that is followed by its end is the first line
ended_first : (text line rest : List ℕ) → IsEnded text line rest → text_lines text ≡ line ∷ text_lines rest
ended_first text line rest ended = by_end ended.is_end
  where
    by_end : IsLineEnd line ended.end → text_lines text ≡ line ∷ text_lines rest
    by_end (inl e) =
        ap text_lines (ended.whole ∙ ap (λ end. line ++ (end ++ rest)) e ∙ joined line rest)
        ∙ cut_at (line ++ 13 ∷ []) rest (plain_return line ended.plain) ∙ ap (λ f. f ∷ text_lines rest) (last_goes line)
    by_end (inr h) =
        ap text_lines (ended.whole ∙ ap (λ end. line ++ (end ++ rest)) h.0)
        ∙ cut_at line rest ended.plain ∙ ap (λ f. f ∷ text_lines rest) (none_goes line h.1)

pub are_lines : (text : List ℕ) (lines : List (List ℕ)) → AreLines text lines → lines ≡ text_lines text
are_lines text [] h = sym (ap text_lines h ∙ text_lines-nil)
are_lines text (line ∷ more) (inl last) =
    sym (text_lines-last text last.some last.plain ∙ ap (λ f. f ∷ []) (sym last.is) ∙ ap (λ others. line ∷ others) (sym last.last))
are_lines text (line ∷ more) (inr h) = ap (λ others. line ∷ others) (are_lines h.0 more h.2) ∙ sym (ended_first text line h.0 h.1)

more_plain : (b : ℕ) (text : List ℕ) → b ≢ 10 → HasNoFeed text → HasNoFeed (b ∷ text)
more_plain b text h plain zero small = h
more_plain b text h plain (suc k) small = plain k (omega (arith, small))

no_feed : HasNoFeed []
no_feed k h = absurd (omega arith)

-- a byte before a line that a line feed ends: it joins the line, or is the carriage return of its end
before_feed : (b : ℕ) (text line rest : List ℕ) (more : List (List ℕ)) (ended : IsEnded text line rest) → b ≢ 10 → ended.end ≡ 10 ∷ [] → ¬ EndsInReturn line
    → AreLines rest more → (lines : List (List ℕ)) × AreLines (b ∷ text) lines
before_feed b text [] rest more ended h feed none others = by_kind (cases_eq b 13)
  where
    by_kind : (b ≡ 13) ⊎ (b ≡ 13 → ⊥) → (lines : List (List ℕ)) × AreLines (b ∷ text) lines
    by_kind (inl e) =
        let whole : b ∷ text ≡ 13 ∷ 10 ∷ rest = ap (λ c. c ∷ text) e ∙ ap (λ t. 13 ∷ t) (ended.whole ∙ ap (λ end. end ++ rest) feed) in
        ([] ∷ more, inr (rest, record { end = 13 ∷ 10 ∷ []; whole = whole; plain = no_feed; is_end = inl refl }, others))
    by_kind (inr ne) = (
      (b ∷ []) ∷ more,
      inr (rest, record { end = ended.end; whole = ap (λ t. b ∷ t) ended.whole; plain = more_plain b [] h ended.plain; is_end = inr (feed, λ r. ne r.is) }, others),
    )
before_feed b text (c ∷ line) rest more ended h feed none others = (
  (b ∷ c ∷ line) ∷ more,
  inr (rest, record { end = ended.end; whole = ap (λ t. b ∷ t) ended.whole; plain = more_plain b (c ∷ line) h ended.plain; is_end = inr (feed, still) }, others),
)
  where
    still : ¬ EndsInReturn (b ∷ c ∷ line)
    still r =
        let e : length (b ∷ c ∷ line) - 1 ≡ suc (length line) = omega arith in
        let f : length (c ∷ line) - 1 ≡ length line = omega arith in
        none (record { some = omega arith; is = ap (λ n. get_or (c ∷ line) n 0) f ∙ sym (ap (λ n. get_or (b ∷ c ∷ line) n 0) e) ∙ r.is })

-- a byte that is no line feed joins the first line, or is the carriage return of its end
join : (b : ℕ) (text : List ℕ) (lines : List (List ℕ)) → b ≢ 10 → AreLines text lines → (others : List (List ℕ)) × AreLines (b ∷ text) others
join b text [] h none =
    ((b ∷ text) ∷ [], inl (record { some = omega arith; plain = more_plain b text h (subst HasNoFeed (sym none) no_feed); is = refl; last = refl }))
join b text (line ∷ more) h (inl last) = ((b ∷ text) ∷ [], inl (record { some = omega arith; plain = more_plain b text h last.plain; is = refl; last = refl }))
join b text (line ∷ more) h (inr (rest, ended, others)) = by_end ended.is_end
  where
    by_end : IsLineEnd line ended.end → (lines : List (List ℕ)) × AreLines (b ∷ text) lines
    by_end (inl e) = (
      (b ∷ line) ∷ more,
      inr (rest, record { end = ended.end; whole = ap (λ t. b ∷ t) ended.whole; plain = more_plain b line h ended.plain; is_end = inl e }, others),
    )
    by_end (inr (feed, none)) = before_feed b text line rest more ended h feed none others

some_lines : (text : List ℕ) → (lines : List (List ℕ)) × AreLines text lines
some_lines [] = ([], refl)
some_lines (b ∷ text) = by_kind (some_lines text) (cases_eq b 10)
  where
    by_kind : (lines : List (List ℕ)) × AreLines text lines → (b ≡ 10) ⊎ (b ≡ 10 → ⊥) → (lines : List (List ℕ)) × AreLines (b ∷ text) lines
    by_kind found (inl e) = (
      [] ∷ found.0,
      inr (text, record { end = 10 ∷ []; whole = ap (λ c. c ∷ text) e; plain = no_feed; is_end = inr (refl, λ r. omega (arith, r.some)) }, found.1),
    )
    by_kind found (inr ne) = join b text found.0 ne found.1

pub lines_are : (text : List ℕ) → AreLines text (text_lines text)
lines_are text = let found = some_lines text in subst (AreLines text) (are_lines text found.0 found.1) found.1
