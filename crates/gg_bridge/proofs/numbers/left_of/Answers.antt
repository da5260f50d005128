use Rattle.std.proofs.Common.{◌≡◌, ◌<◌, ℕ, Bool, List, [], ◌∷◌, ◌++◌, length, Vec, Global, sym, ◌∙◌, ap, arith}
use Rattle.std.specs.Prelude.{not, is_none}
use Rattle.gg_flat.specs.Line.{value_at}
use Rattle.gg_bridge.specs.Joined.{place_among}
use Rattle.gg_bridge.specs.inside.Joined.{place_at}
use Rattle.gg_bridge.proofs.PlaceLemmas.{left-taken, left-skipped}
use Rattle.gg_bridge.proofs.numbers.left_of.Goals as goal
use Rattle.gg_bridge.proofs.numbers.left_of.Goals.{then-is_none+in_ok-push, else-is_none}

pub loop-number-preserved : goal.loop-number-preserved
loop-number-preserved c =
    let gone = c.args.gone.now in
    let list = c.args.list.now in
    let k = c.loop-number.number-index in
    let x = value_at list k in
    let lt : k < length list = omega (arith, c.loop-number-test.true) in
    let at : c.place_at.result ≡ place_among gone x = c.place_at.ensures ∙ ap (λ table. place_at table x) c.deref.ensures.value ∙ c.in_ok-places.ensures.each x (c.requires.below k lt) in
    elim c.if-is_none.branch [
      | then-is_none+in_ok-push w ↦
          ap (λ (v : Vec ℕ Global). v.items) w.left-is
          ∙ w.in_ok-push.ensures.items
          ∙ ap (λ (l : List ℕ). l ++ x ∷ []) c.loop-number.invariant
          ∙ sym (left-taken gone list k lt (sym (ap is_none at) ∙ ap not c.is_none.ensures ∙ ap (λ (b : Bool). not (not b)) w.if-is_none.true))
      | else-is_none w ↦
          ap (λ (v : Vec ℕ Global). v.items) w.left-is
          ∙ c.loop-number.invariant
          ∙ sym (left-skipped gone list k lt (sym (ap is_none at) ∙ ap not c.is_none.ensures ∙ ap (λ (b : Bool). not (not b)) w.if-is_none.false))
    ]
