use Rattle.std.proofs.Common.{◌≡◌, ◌<◌, ◌++◌, [], ◌∷◌, List, length, replicate, get_or, sym, ap, ap₂, subst, ◌∙◌, arith}
use Rattle.std.proofs.lemmas.List.{length-replicate, replicate_more, get_or-replicate}
use Rattle.gg_flat.specs.State.{State, IsState, opening}
use Rattle.gg_fame5.proofs.opening.opening_states.Goals as goal

pub push_reserved-requires : goal.push_reserved-requires
push_reserved-requires c = omega (arith, ap (λ (l : List State). length l) c.loop-i.invariant.0, length-replicate c.loop-i._i (opening c.args.piece.now))

pub loop-i-preserved : goal.loop-i-preserved
loop-i-preserved c = (
  c.push_reserved.ensures.items ∙ ap₂ (λ (l : List State) (s : State). l ++ s ∷ []) c.loop-i.invariant.0 c.in_ok-state.ensures.opening ∙ replicate_more c.loop-i._i (opening c.args.piece.now),
  λ some. subst (IsState c.args.piece.now) c.in_ok-state.ensures.opening c.in_ok-state.ensures.typed,
  omega (arith, c.loop-i.invariant.2, c.push_reserved.ensures.capacity),
)

pub returns-clause-states : goal.returns-clause-states
returns-clause-states c =
    let all : c.loop-i._i ≡ c.args.count = omega arith in
    c.loop-i.invariant.0 ∙ ap (λ n. replicate n (opening c.args.piece.now)) all

pub returns-clause-typed : goal.returns-clause-typed
returns-clause-typed c = λ k any lt.
    let low : k < c.loop-i._i = omega (arith, lt, ap (λ (l : List State). length l) c.loop-i.invariant.0, length-replicate c.loop-i._i (opening c.args.piece.now)) in
    subst (λ (l : List State). IsState c.args.piece.now (get_or l k any)) (sym c.loop-i.invariant.0)
    (subst (IsState c.args.piece.now) (sym (get_or-replicate c.loop-i._i k (opening c.args.piece.now) any low)) (c.loop-i.invariant.1 (omega (arith, low))))
