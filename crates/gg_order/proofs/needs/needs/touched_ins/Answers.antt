use Rattle.std.proofs.Common.{◌≡◌, ℕ, ◌+◌, ◌<◌, List, ◌∷◌, [], ◌++◌, length, Vec, Global, true, false, subst, sym, ap, ◌∙◌, arith}
use Rattle.gg_flat.specs.declared.piece.Driver.TheVariants.{Input}
use Rattle.gg_flat.specs.Circuit.{driver_at}
use Rattle.gg_flat.specs.Line.{value_at}
use Rattle.gg_order.specs.Marks.{is_marked}
use Rattle.gg_order.specs.inside.Walk.{AreMarkedIns}
use Rattle.gg_order.specs.inside.NeedsMarks.{any_marks}
use Rattle.gg_order.proofs.NeedsLemmas.MarkedInLemmas.{AreMarkedIns-skip, AreMarkedIns-push}
use Rattle.gg_order.proofs.NeedsLemmas.AddLemmas.{any-some, any-none}
use Rattle.gg_order.proofs.needs.needs.touched_ins.Goals as goal
use Rattle.gg_order.proofs.needs.needs.touched_ins.Goals.{then-marks-signal-gt0+in_ok-push, else-marks-signal-gt0}

pub loop-signal-preserved : goal.loop-signal-preserved
loop-signal-preserved c =
    let k = c.loop-signal.signal-index in
    let circuit = c.args.piece.now in
    let sets = c.args.marks.now in
    let marks = any_marks sets in
    let ins = c.ins-signal-items.ensures in
    let signal = value_at c.ins-signal-items.result.now k in
    let within : k < length circuit.ins = omega (arith, c.loop-signal-test.true, ap (λ (l : List ℕ). length l) ins) in
    elim c.if-marks-signal-gt0.branch [
      | then-marks-signal-gt0+in_ok-push w ↦
          let is : is_marked marks (value_at circuit.ins k) ≡ true = subst (λ (l : List ℕ). is_marked marks (value_at l k) ≡ true) ins (any-some sets signal w.if-marks-signal-gt0.true) in
          let at : w.place_of.result ≡ k = w.place_of.ensures k (subst (λ (l : List ℕ). driver_at circuit (value_at l k) ≡ Input k) (sym ins) (c.requires.formed.ins k within).1) in
          subst (AreMarkedIns circuit marks (k + 1)) (sym (ap (λ (v : Vec ℕ Global). v.items) w.touched-is ∙ w.in_ok-push.ensures.items ∙ ap (λ (x : ℕ). c.loop-signal.touched.items ++ x ∷ []) at))
          (AreMarkedIns-push circuit marks k c.loop-signal.touched.items is c.loop-signal.invariant)
      | else-marks-signal-gt0 w ↦
          let not : is_marked marks (value_at circuit.ins k) ≡ false = subst (λ (l : List ℕ). is_marked marks (value_at l k) ≡ false) ins (any-none sets signal w.if-marks-signal-gt0.false) in
          subst (AreMarkedIns circuit marks (k + 1)) (sym (ap (λ (v : Vec ℕ Global). v.items) w.touched-is))
          (AreMarkedIns-skip circuit marks k c.loop-signal.touched.items not c.loop-signal.invariant)
    ]
