-- What an answer of a network's step or test tells.
use Rattle.std.proofs.Common.{◌≡◌, Bool, Result, Ok, Err, is_ok, MatchBool, MatchResult, sym, subst}
use Rattle.gg_net.specs.declared.event.StepRefusal.{StepRefusal}

-- a test whose answer is told as a flag
pub told : (answer : Result (Unit {0}) StepRefusal) (flag : Bool) (P R : Type 0) (Q : StepRefusal → Type 0) → flag ≡ is_ok answer → MatchResult answer (λ x. P) Q → ((cause : StepRefusal) → Q cause → R) → MatchBool flag P R
told (Ok x) flag P R Q is holds so = subst (λ b. MatchBool b P R) (sym is) holds
told (Err cause) flag P R Q is holds so = subst (λ b. MatchBool b P R) (sym is) (so cause holds)
