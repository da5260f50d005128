use Rattle.std.proofs.Common.{ℕ, List, [], ◌∷◌, ◌++◌, Bool, Vec, Global, eq-eqb, sym, ◌∙◌, ap}
use Rattle.std.specs.Prelude.{if◌then◌else◌}
use Rattle.std.proofs.lemmas.Bool.{ne_eqb}
use Rattle.std.proofs.lemmas.List.{append-nil}
use Rattle.gg_flat.specs.Line.{value_at}
use Rattle.gg_cut_split.specs.inside.Ends.{is_open}
use Rattle.gg_cut_split.proofs.NumberLemmas.{open-next}
use Rattle.gg_cut_split.proofs.ends.open_at.Goals.{then-takers-place-eq0+in_ok-push, else-takers-place-eq0}
use Rattle.gg_cut_split.proofs.ends.open_at.Goals as goal

pub loop-place-preserved : goal.loop-place-preserved
loop-place-preserved c =
    let taker = value_at c.args.takers.now c.loop-place.place in
    let old = c.loop-place.left.items in
    let one : Bool → List ℕ = λ t. old ++ (if t then value_at c.args.signals.now c.loop-place.place ∷ [] else []) in
    open-next (is_open c.args.takers.now) c.args.signals.now c.loop-place.place old c.if-takers-place-eq0.left.items c.loop-place.invariant
    (elim c.if-takers-place-eq0.branch [
      | then-takers-place-eq0+in_ok-push w ↦ ap (λ (v : Vec ℕ Global). v.items) w.left-is ∙ (w.in_ok-push.ensures {u = tt}).items ∙ ap one (sym (eq-eqb taker 0 w.if-takers-place-eq0.true))
      | else-takers-place-eq0 w ↦ ap (λ (v : Vec ℕ Global). v.items) w.left-is ∙ sym (append-nil old) ∙ ap one (sym (ne_eqb taker 0 w.if-takers-place-eq0.false))
    ])
