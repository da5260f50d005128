-- How many brackets tokens open and close, counted token by token; and the first outside word.
use Rattle.std.proofs.Common.{◌≡◌, ℕ, ◌+◌, ◌<◌, ◌≤◌, List, [], ◌∷◌, ◌++◌, length, take, get_or, sym, ap, ◌∙◌, arith}
use Rattle.std.proofs.lemmas.List.{take_more}
use Rattle.gg_lex.specs.declared.token.Tok.{Tok}
use Rattle.gg_lex.specs.declared.token.Tok.TheVariants.{Word, Number, Text, Symbol}
use Rattle.gg_lex.specs.declared.token.Symbol.TheVariants as mark
use Rattle.gg_read.specs.Text.{opened, closed}

pub opened-cons : (t : Tok) (ts : List Tok) → opened (t ∷ ts) ≡ opened (t ∷ []) + opened ts
opened-cons (Word w) ts = omega arith
opened-cons (Number w) ts = omega arith
opened-cons (Text w) ts = omega arith
opened-cons (Symbol mark.OpenParen) ts = omega arith
opened-cons (Symbol _) ts = omega arith

pub closed-cons : (t : Tok) (ts : List Tok) → closed (t ∷ ts) ≡ closed (t ∷ []) + closed ts
closed-cons (Word w) ts = omega arith
closed-cons (Number w) ts = omega arith
closed-cons (Text w) ts = omega arith
closed-cons (Symbol mark.CloseParen) ts = omega arith
closed-cons (Symbol _) ts = omega arith

opened-append : (ts : List Tok) (t : Tok) → opened (ts ++ t ∷ []) ≡ opened ts + opened (t ∷ [])
opened-append [] t = omega arith
opened-append (u ∷ us) t = omega (arith, opened-cons u (us ++ t ∷ []), opened-cons u us, opened-append us t)

closed-append : (ts : List Tok) (t : Tok) → closed (ts ++ t ∷ []) ≡ closed ts + closed (t ∷ [])
closed-append [] t = omega arith
closed-append (u ∷ us) t = omega (arith, closed-cons u (us ++ t ∷ []), closed-cons u us, closed-append us t)

pub opened-more : (ts : List Tok) (i : ℕ) (t : Tok) → i < length ts → t ≡ get_or ts i t → opened (take (i + 1) ts) ≡ opened (take i ts) + opened (t ∷ [])
opened-more ts i t within is =
    ap opened (take_more ts i t within) ∙ opened-append (take i ts) (get_or ts i t) ∙ ap (λ (u : Tok). opened (take i ts) + opened (u ∷ [])) (sym is)

pub closed-more : (ts : List Tok) (i : ℕ) (t : Tok) → i < length ts → t ≡ get_or ts i t → closed (take (i + 1) ts) ≡ closed (take i ts) + closed (t ∷ [])
closed-more ts i t within is =
    ap closed (take_more ts i t within) ∙ closed-append (take i ts) (get_or ts i t) ∙ ap (λ (u : Tok). closed (take i ts) + closed (u ∷ [])) (sym is)

pub opened-one : (t : Tok) → opened (t ∷ []) ≤ 1
opened-one (Word w) = omega arith
opened-one (Number w) = omega arith
opened-one (Text w) = omega arith
opened-one (Symbol mark.OpenParen) = omega arith
opened-one (Symbol _) = omega arith

pub closed-one : (t : Tok) → closed (t ∷ []) ≤ 1
closed-one (Word w) = omega arith
closed-one (Number w) = omega arith
closed-one (Text w) = omega arith
closed-one (Symbol mark.CloseParen) = omega arith
closed-one (Symbol _) = omega arith
