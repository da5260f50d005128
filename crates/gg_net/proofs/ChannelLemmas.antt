-- One channel: its queue stays the part of the list from the tokens taken to the tokens that have entered.
use Rattle.std.proofs.Common.{◌≡◌, ℕ, suc, ◌<◌, ◌≤◌, ◌++◌, List, [], ◌∷◌, Option, None, Some, length, drop, refl, sym, ap, subst, ◌∙◌, ⊎_elim, arith}
use Rattle.std.proofs.lemmas.Bool.{cases_lt}
use Rattle.std.proofs.lemmas.List.{length-append, get_or_append_left, get_or_at}
use Rattle.gg_flat.specs.Line.{value_at}
use Rattle.gg_net.specs.Network.{entered_by, opening_queue}
use Rattle.gg_net.specs.Kept.{BetweenAt}

-- one more token was put, so one more has entered
pub entered-suc : (first : Option ℕ) (n : ℕ) → entered_by first (suc n) ≡ suc (entered_by first n)
entered-suc None n = refl
entered-suc (Some token) n = refl

-- before the first cycle, of number `begin`, nothing was put or taken since then
pub between-open : (first : Option ℕ) (list : List ℕ) (capacity begin : ℕ) → 0 < capacity → ((token : ℕ) → first ≡ Some token → token ≡ value_at list begin) → BetweenAt list capacity begin (entered_by first begin) (opening_queue first)
between-open None list capacity begin some opens = record { held = omega arith; room = omega arith; tokens = λ j below. absurd (omega (arith, below)) }
between-open (Some token) list capacity begin some opens =
    record {
      held = omega arith;
      room = omega (arith, some);
      tokens = λ j below. let none : j ≡ 0 = omega (arith, below) in ap (value_at (token ∷ [])) none ∙ opens token refl ∙ ap (value_at list) (omega (arith, none));
    }

-- this stays so for equal counts and an equal queue
pub between-same : (list : List ℕ) (capacity taken taken' put put' : ℕ) (queue queue' : List ℕ) → taken' ≡ taken → put' ≡ put → queue' ≡ queue → BetweenAt list capacity taken put queue → BetweenAt list capacity taken' put' queue'
between-same list capacity taken taken' put put' queue queue' takes puts same between =
    subst (λ t. BetweenAt list capacity t put' queue') (sym takes) (subst (λ p. BetweenAt list capacity taken p queue') (sym puts) (subst (BetweenAt list capacity taken put) (sym same) between))

-- the token at the front is the next one to be taken
pub front-is : (list : List ℕ) (capacity taken put : ℕ) (queue : List ℕ) → BetweenAt list capacity taken put queue → 0 < length queue → value_at queue 0 ≡ value_at list taken
front-is list capacity taken put queue between held = between.tokens 0 held ∙ ap (value_at list) (omega arith)

-- this stays so after a token was taken
pub taken-one : (list : List ℕ) (capacity taken put : ℕ) (queue : List ℕ) → BetweenAt list capacity taken put queue → 0 < length queue → BetweenAt list capacity (suc taken) put (drop 1 queue)
taken-one list capacity taken put [] between held = absurd (omega (arith, held))
taken-one list capacity taken put (token ∷ queue) between held =
    record {
      held = omega (arith, between.held);
      room = omega (arith, between.room);
      tokens = λ j below. between.tokens (suc j) (omega (arith, below)) ∙ ap (value_at list) (omega arith);
    }

-- this stays so after a token was put
pub put-one : (list : List ℕ) (capacity taken put : ℕ) (queue : List ℕ) (token : ℕ) → BetweenAt list capacity taken put queue → length queue < capacity → token ≡ value_at list put → BetweenAt list capacity taken (suc put) (queue ++ token ∷ [])
put-one list capacity taken put queue token between room is =
    record {
      held = omega (arith, between.held, length-append queue (token ∷ []));
      room = omega (arith, room, length-append queue (token ∷ []));
      tokens = λ j below. ⊎_elim
          (λ (lt : j < length queue). get_or_append_left queue (token ∷ []) 0 j lt ∙ between.tokens j lt)
          (λ (le : length queue ≤ j). let same : length queue ≡ j = omega (arith, le, below, length-append queue (token ∷ [])) in get_or_at queue token [] 0 j same ∙ is ∙ ap (value_at list) (omega (arith, same, between.held)))
          (cases_lt j (length queue));
    }
