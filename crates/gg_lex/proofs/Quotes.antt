-- The quote that ends a text.
use Rattle.std.proofs.Common.{◌≡◌, ◌≢◌, ℕ, zero, suc, ◌+◌, ◌-◌, ◌<◌, ◌≤◌, Bool, true, false, eqb, List, [], ◌∷◌, ◌++◌, length, get_or, take, drop, Some, None, sym, ap, ◌∙◌, subst, ⊎_elim, refl, arith, append_assoc, take-append-drop, length-append, length-take-le}
use Rattle.std.specs.Bool.{MatchBool}
use Rattle.std.proofs.Math.Seq.{take-add}
use Rattle.std.proofs.lemmas.Bool.{ne_eqb, MatchBool-at_false, cases_order}
use Rattle.std.proofs.lemmas.List.{drop_more, take_more, take_at, get_or_at}
use Rattle.std.proofs.lemmas.Option.{slice_get-get_or, slice_get_within, get_or_from_slice_get}
use Rattle.gg_lex.specs.Tokens.{IsQuoted, IsText}
use Rattle.gg_lex.specs.inside.Fronts.{IsLongest, HasNoFront, EndsQuoted, FindsQuote}

-- both cases of a fact that depends on a test may be replaced by what follows from them
MatchBool-map : (t : Bool) (P Q R S : Type 0) → (P → R) → (Q → S) → MatchBool t P Q → MatchBool t R S
MatchBool-map true P Q R S f g h = f h
MatchBool-map false P Q R S f g h = g h

MatchBool-both : (t : Bool) (P Q R S T : Type 0) → (P → R → T) → (Q → S → T) → MatchBool t P Q → MatchBool t R S → T
MatchBool-both true P Q R S T f g h k = f h k
MatchBool-both false P Q R S T f g h k = g h k

-- quoted bytes after quoted bytes are quoted; and what follows quoted bytes in such a list is quoted
IsQuoted-append : (xs ys : List ℕ) → IsQuoted xs → IsQuoted ys → IsQuoted (xs ++ ys)
IsQuoted-append [] ys front back = back
IsQuoted-append (b ∷ []) [] front back = front
IsQuoted-append (b ∷ []) (c ∷ cs) front back = rw (ne_eqb b 92 front.1) (front.0, back)
IsQuoted-append (b ∷ c ∷ bs) ys front back =
    MatchBool-map (eqb b 92) _ _ _ _ (λ escaped. IsQuoted-append bs ys escaped back) (λ plain. (plain.0, IsQuoted-append (c ∷ bs) ys plain.1 back)) front

IsQuoted-rest : (xs ys : List ℕ) → IsQuoted (xs ++ ys) → IsQuoted xs → IsQuoted ys
IsQuoted-rest [] ys all front = all
IsQuoted-rest (b ∷ []) [] all front = tt
IsQuoted-rest (b ∷ []) (c ∷ cs) all front = (MatchBool-at_false _ _ (ne_eqb b 92 front.1) all).1
IsQuoted-rest (b ∷ c ∷ bs) ys all front =
    MatchBool-both (eqb b 92) _ _ _ _ _ (λ escaped front_escaped. IsQuoted-rest bs ys escaped front_escaped) (λ plain front_plain. IsQuoted-rest (c ∷ bs) ys plain.1 front_plain.1) all front

no_quote_first : (bs : List ℕ) → IsQuoted (34 ∷ bs) → ⊥
no_quote_first [] quoted = quoted.0 refl
no_quote_first (b ∷ bs) quoted = quoted.0 refl

-- what the loop knows of the bytes before its place
pub record QuotedBefore (bs : List ℕ) (at : ℕ) : Type 0 where
  pub near : at ≤ length bs + 1
  pub quoted : at ≤ length bs → IsQuoted (take at bs)
  pub none : (m : ℕ) → m < at → EndsQuoted bs m → ⊥

module _ (bs : List ℕ) (at : ℕ) (within : at < length bs) (before : QuotedBefore bs at) where
  -- if the bytes up to some place past `at` are quoted, those from `at` on are quoted too, and begin with the byte there
  beyond : (k : ℕ) → IsQuoted (take (at + suc k) bs) → IsQuoted (get_or bs at 0 ∷ take k (drop (at + 1) bs))
  beyond k quoted =
      let parts : take (at + suc k) bs ≡ take at bs ++ (get_or bs at 0 ∷ take k (drop (at + 1) bs)) = take-add at (suc k) bs ∙ ap (λ (l : List ℕ). take at bs ++ take (suc k) l) (drop_more bs at 0 within) in
      IsQuoted-rest (take at bs) _ (subst IsQuoted parts quoted) (before.quoted (omega arith))

  pub quote_here : get_or bs at 0 ≡ 34 → FindsQuote bs (Some at)
  quote_here here = (
    (slice_get-get_or bs at 0 within ∙ ap (λ (b : ℕ). Some b) here, before.quoted (omega arith)),
    λ m ends. ⊎_elim (λ same. same) (λ apart. ⊎_elim (λ less. absurd (before.none m less ends)) (λ more. absurd (later m more ends)) apart) (cases_order m at),
  )
    where
      later : (m : ℕ) → at < m → EndsQuoted bs m → ⊥
      later m more ends =
          let k : ℕ = m - suc at in
          let there : m ≡ at + suc k = omega arith in
          no_quote_first _ (subst (λ (b : ℕ). IsQuoted (b ∷ take k (drop (at + 1) bs))) here (beyond k (subst (λ (n : ℕ). IsQuoted (take n bs)) there ends.1)))

  not_here : (b : ℕ) → get_or bs at 0 ≡ b → b ≢ 34 → EndsQuoted bs at → ⊥
  not_here b here other ends = other (sym here ∙ get_or_from_slice_get bs at 34 0 ends.0)

  pub escape_here : get_or bs at 0 ≡ 92 → QuotedBefore bs (at + 2)
  escape_here here = record {
    near = omega arith;
    quoted = λ room. subst IsQuoted (sym (two room)) (IsQuoted-append (take at bs) (92 ∷ get_or bs (at + 1) 0 ∷ []) (before.quoted (omega arith)) tt);
    none = λ m less ends. ⊎_elim (λ same. not_here 92 here (λ e. omega (arith, e)) (subst (EndsQuoted bs) same ends)) (λ apart. ⊎_elim (λ fewer. before.none m fewer ends) (λ more. alone (subst (EndsQuoted bs) (next m less more) ends)) apart) (cases_order m at);
  }
    where
      next : (m : ℕ) → m < at + 2 → at < m → m ≡ at + 1
      next m less more = omega arith

      alone : EndsQuoted bs (at + 1) → ⊥
      alone ends = (subst (λ (b : ℕ). IsQuoted (b ∷ [])) here (beyond 0 ends.1)).1 refl

      two : at + 2 ≤ length bs → take (at + 2) bs ≡ take at bs ++ (92 ∷ get_or bs (at + 1) 0 ∷ [])
      two room = take-add at 2 bs ∙ ap (λ (l : List ℕ). take at bs ++ take 2 l) (drop_more bs at 0 within) ∙ ap (λ (l : List ℕ). take at bs ++ (get_or bs at 0 ∷ take 1 l)) (drop_more bs (at + 1) 0 (omega arith)) ∙ ap (λ (b : ℕ). take at bs ++ (b ∷ get_or bs (at + 1) 0 ∷ [])) here

  pub plain_here : get_or bs at 0 ≢ 34 → get_or bs at 0 ≢ 92 → QuotedBefore bs (at + 1)
  plain_here no_quote no_escape = record {
    near = omega arith;
    quoted = λ room. subst IsQuoted (sym (take_more bs at 0 within)) (IsQuoted-append (take at bs) (get_or bs at 0 ∷ []) (before.quoted (omega arith)) (no_quote, no_escape));
    none = λ m less ends. ⊎_elim (λ same. not_here _ refl no_quote (subst (EndsQuoted bs) same ends)) (λ apart. ⊎_elim (λ fewer. before.none m fewer ends) (λ more. absurd (omega arith)) apart) (cases_order m at);
  }

pub no_quote : (bs : List ℕ) (at : ℕ) → length bs ≤ at → QuotedBefore bs at → FindsQuote bs None
no_quote bs at past before n ends =
    before.none n (omega (arith, slice_get_within bs n 34 ends.0)) ends

-- if the first m bytes are quoted bytes and a quote, this quote ends the quoted bytes
quote_within : (bs : List ℕ) (m : ℕ) (quoted : List ℕ) → m ≤ length bs → take m bs ≡ quoted ++ 34 ∷ [] → IsQuoted quoted → EndsQuoted bs (length quoted) × (m ≡ length quoted + 1)
quote_within bs m quoted within same is_quoted =
    let size : m ≡ length quoted + 1 = sym (length-take-le m bs within) ∙ ap length same ∙ length-append quoted (34 ∷ []) in
    let whole : bs ≡ quoted ++ (34 ∷ drop m bs) = sym (take-append-drop m bs) ∙ ap (λ (l : List ℕ). l ++ drop m bs) same ∙ append_assoc quoted (34 ∷ []) (drop m bs) in
    let front : take (length quoted) bs ≡ quoted = ap (take (length quoted)) whole ∙ take_at quoted _ _ refl in
    let there : get_or bs (length quoted) 0 ≡ 34 = ap (λ (l : List ℕ). get_or l (length quoted) 0) whole ∙ get_or_at quoted 34 _ 0 _ refl in
    ((slice_get-get_or bs (length quoted) 0 (omega arith) ∙ ap (λ (b : ℕ). Some b) there, subst IsQuoted (sym front) is_quoted), size)

longest_after_quote : (bs : List ℕ) (at : ℕ) → FindsQuote bs (Some at) → IsLongest IsText (34 ∷ bs) (suc (suc at))
longest_after_quote bs at found = record {
  within = omega (arith, inside);
  has = (take at bs, ap (λ (l : List ℕ). 34 ∷ l) spelt, found.0.1);
  longest = λ m. longest m;
}
  where
    inside : at < length bs
    inside = slice_get_within bs at 34 found.0.0

    spelt : take (suc at) bs ≡ take at bs ++ 34 ∷ []
    spelt = let counted : suc at ≡ at + 1 = omega arith in ap (λ (n : ℕ). take n bs) counted ∙ take_more bs at 0 inside ∙ ap (λ (b : ℕ). take at bs ++ b ∷ []) (get_or_from_slice_get bs at 34 0 found.0.0)

    longest : (m : ℕ) → m ≤ length (34 ∷ bs) → IsText (take m (34 ∷ bs)) → m ≤ suc (suc at)
    longest zero within text = omega arith
    longest (suc m) within (quoted, same, is_quoted) =
        let ends = quote_within bs m quoted (omega arith) (cc) is_quoted in
        omega (arith, found.1 (length quoted) ends.0, ends.1)

pub longest_text : (bs : List ℕ) (at : ℕ) → 0 < length bs → get_or bs 0 0 ≡ 34 → FindsQuote (drop 1 bs) (Some at) → IsLongest IsText bs (at + 2)
longest_text [] at nonempty here found = absurd (omega arith)
longest_text (b ∷ bs) at nonempty here found =
    let counted : suc (suc at) ≡ at + 2 = omega arith in
    subst (λ (n : ℕ). IsLongest IsText (b ∷ bs) n) counted (subst (λ (a : ℕ). IsLongest IsText (a ∷ bs) (suc (suc at))) (sym here) (longest_after_quote bs at found))

no_text_after : (bs : List ℕ) → FindsQuote bs None → HasNoFront IsText (34 ∷ bs)
no_text_after bs none zero within (quoted, same, is_quoted) = cc
no_text_after bs none (suc m) within (quoted, same, is_quoted) =
    none (length quoted) (quote_within bs m quoted (omega arith) (cc) is_quoted).0

pub no_text : (bs : List ℕ) → 0 < length bs → get_or bs 0 0 ≡ 34 → FindsQuote (drop 1 bs) None → HasNoFront IsText bs
no_text [] nonempty here none = absurd (omega arith)
no_text (b ∷ bs) nonempty here none =
    subst (λ (a : ℕ). HasNoFront IsText (a ∷ bs)) (sym here) (no_text_after bs none)
