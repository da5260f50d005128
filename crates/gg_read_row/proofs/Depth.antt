-- One level of an expression, and one argument of a list.
use Rattle.std.proofs.Common.{◌≡◌, ◌<◌, ℕ, zero, suc, ◌-◌, List, refl, arith, ap}
use Rattle.gg_lex.specs.declared.token.Tok.{Tok}
use Rattle.gg_ast.specs.declared.statement.Argument.{Argument}
use Rattle.gg_read_row.specs.inside.Reading.{expr_at, form_at, arguments_at}

pub expr_at-level : (depth : ℕ) (ts : List Tok) → (depth ≡ 0 → ⊥) → expr_at depth ts ≡ form_at (expr_at (depth - 1)) ts
expr_at-level zero ts some = absurd (some refl)
expr_at-level (suc depth) ts some = let e : depth ≡ suc depth - 1 = omega arith in ap (λ d. form_at (expr_at d) ts) e

-- if k arguments may still come and k is above 0, it is one more than k - 1
pub arguments_at-level : (k : ℕ) (before : List Argument) (ts : List Tok) → 0 < k → arguments_at k before ts ≡ arguments_at (suc (k - 1)) before ts
arguments_at-level k before ts some = let e : k ≡ suc (k - 1) = omega arith in ap (λ n. arguments_at n before ts) e
