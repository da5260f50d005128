-- File information and comments at the end of a line.
use Rattle.std.proofs.Common.{◌≡◌, ℕ, zero, suc, ◌+◌, ◌<◌, ◌≤◌, ◌↔◌, List, [], ◌∷◌, length, drop, Some, None, sym, ap, ◌∙◌, subst, ⊎_elim, refl, arith}
use Rattle.std.specs.Prelude.{slice_get}
use Rattle.std.proofs.lemmas.Bool.{cases_order}
use Rattle.std.proofs.lemmas.Option.{slice_get_within}
use Rattle.gg_lex.specs.Lines.{after_blanks, OpensInfo, ClosesBehind, IsInfo, IsComment, IsEndWith, IsEnd}
use Rattle.gg_lex.specs.inside.Ends.{FindsBracket, FindsInfo}

pub IsInfo-within : (bs : List ℕ) (n : ℕ) → IsInfo bs n → (3 ≤ n) × (n ≤ length bs)
IsInfo-within bs n info =
    let inside = slice_get_within bs (info.last.0 + 1) 93 info.last.3.0 in
    (omega (arith, info.last.1, info.last.2), omega (arith, info.last.2, inside))

-- file information doesn't go on after the first bracket that closes it
no_earlier : (bs : List ℕ) (n m : ℕ) → IsInfo bs n → IsInfo bs m → n < m → ⊥
no_earlier bs n m info later less =
    later.first info.last.0 info.last.1 (omega (arith, info.last.2)) info.last.3

IsInfo-same : (bs : List ℕ) (n m : ℕ) → IsInfo bs n → IsInfo bs m → n ≡ m
IsInfo-same bs n m info other =
    ⊎_elim (λ same. same) (λ apart. ⊎_elim (λ less. absurd (no_earlier bs n m info other less)) (λ more. absurd (no_earlier bs m n other info more)) apart) (cases_order n m)

no_comment : (bs : List ℕ) → slice_get bs 0 ≡ Some 64 → IsComment bs → ⊥
no_comment [] at_sign comment = cc
no_comment (b ∷ bs) at_sign comment =
    let e : b ≡ 64 = cc in
    omega (arith, e, comment)

-- before a file information the line may end exactly if it may end after it
pub IsEnd-after_info : (bs : List ℕ) (n : ℕ) → IsInfo (after_blanks bs) n → IsEnd bs ↔ IsEnd (drop n (after_blanks bs))
IsEnd-after_info bs n info = (λ end. go end.0 end.1, λ end. (suc end.0, (n, info, end.1)))
  where
    go : (infos : ℕ) → IsEndWith infos bs → IsEnd (drop n (after_blanks bs))
    go zero comment = absurd (no_comment (after_blanks bs) info.opens.0 comment)
    go (suc infos) (m, other, end) =
        (infos, subst (λ (k : ℕ). IsEndWith infos (drop k (after_blanks bs))) (IsInfo-same (after_blanks bs) m n other info) end)

-- without file information a line may end exactly if only a comment, or nothing, is left
pub IsEnd-without_info : (bs : List ℕ) → FindsInfo (after_blanks bs) None → IsEnd bs ↔ IsComment (after_blanks bs)
IsEnd-without_info bs none = (λ end. go end.0 end.1, λ comment. (0, comment))
  where
    go : (infos : ℕ) → IsEndWith infos bs → IsComment (after_blanks bs)
    go zero comment = comment
    go (suc infos) (m, other, end) = absurd (none m other)

-- a closing bracket that is found ends the file information; without one there is none
pub info_from_bracket : (bs : List ℕ) (at : ℕ) → OpensInfo bs → FindsBracket bs (Some at) → FindsInfo bs (Some (at + 2))
info_from_bracket bs at opens found =
    let info : IsInfo bs (at + 2) = record {
      opens = opens;
      last = (at, found.0, refl, found.1);
      first = λ k from less closes. found.2 k from (omega arith) closes;
    } in
    let within = IsInfo-within bs (at + 2) info in
    (within.0, within.1, info)

pub no_info_from_bracket : (bs : List ℕ) → FindsBracket bs None → FindsInfo bs None
no_info_from_bracket bs none n info = none info.last.0 info.last.1 info.last.3

pub no_info_unopened : (bs : List ℕ) → (OpensInfo bs → ⊥) → FindsInfo bs None
no_info_unopened bs unopened n info = unopened info.opens

pub no_bracket_past : (bs : List ℕ) (at : ℕ) → length bs ≤ at + 1 → ((k : ℕ) → 1 ≤ k → k < at → ClosesBehind bs k → ⊥) → FindsBracket bs None
no_bracket_past bs at past none k from closes =
    let inside = slice_get_within bs (k + 1) 93 closes.0 in
    none k from (omega (arith, inside)) closes

-- a turn of the loop over the file information, and its end
pub IsEnd-turn : (all rest start next : List ℕ) (n : ℕ) → IsEnd all ↔ IsEnd rest → start ≡ after_blanks rest → FindsInfo start (Some n) → next ≡ drop n start → IsEnd all ↔ IsEnd next
IsEnd-turn all rest start next n so_far start_is info next_is =
    let here : IsInfo (after_blanks rest) n = subst (λ (l : List ℕ). IsInfo l n) start_is info.2 in
    let step : IsEnd rest ↔ IsEnd (drop n (after_blanks rest)) = IsEnd-after_info rest n here in
    let same : drop n (after_blanks rest) ≡ next = sym (next_is ∙ ap (drop n) start_is) in
    (λ end. subst IsEnd same (step.0 (so_far.0 end)), λ end. so_far.1 (step.1 (subst IsEnd (sym same) end)))

pub IsEnd-stop : (all rest start : List ℕ) (P : Type 0) → IsEnd all ↔ IsEnd rest → start ≡ after_blanks rest → FindsInfo start None → P ↔ IsComment start → P ↔ IsEnd all
IsEnd-stop all rest start P so_far start_is none decides =
    let here : FindsInfo (after_blanks rest) None = subst (λ (l : List ℕ). FindsInfo l None) start_is none in
    let step : IsEnd rest ↔ IsComment (after_blanks rest) = IsEnd-without_info rest here in
    (λ p. so_far.1 (step.1 (subst IsComment start_is (decides.0 p))), λ end. decides.1 (subst IsComment (sym start_is) (step.0 (so_far.0 end))))
