use Rattle.std.proofs.Common.{◌≡◌, ℕ, ◌+◌, List, ◌∷◌, [], ◌++◌, length, take, Vec, Global, true, false, true≢false, subst, sym, ap, inl, inr, ◌∙◌, arith}
use Rattle.std.specs.Prelude.{Contains}
use Rattle.std.proofs.lemmas.List.{get_or_default, take_more, take_all}
use Rattle.gg_flat.specs.Line.{value_at}
use Rattle.gg_order.specs.Marks.{is_marked}
use Rattle.gg_order.specs.inside.Walk.{AreMarkedIns, AreMarkedAmong}
use Rattle.gg_order.specs.inside.NeedsMarks.{marks_of}
use Rattle.gg_order.proofs.NeedsLemmas.MarkedInLemmas.{AreMarkedAmong-none, AreMarkedAmong-skip, AreMarkedAmong-push, AreMarkedIns-among, touched-before}
use Rattle.gg_order.proofs.NeedsLemmas.AddLemmas.{bit-cases, bit-marked, bit-unmarked}
use Rattle.gg_order.proofs.needs.needs.marked_ins.Goals as goal
use Rattle.gg_order.proofs.needs.needs.marked_ins.Goals.{then-has_mark+in_ok-push, else-has_mark}

pub loop-each-init : goal.loop-each-init
loop-each-init c =
    let marks = marks_of c.args.place c.args.marks.now in
    subst (AreMarkedAmong c.args.piece.now marks []) (sym c.new-ins.ensures.items) (AreMarkedAmong-none c.args.piece.now marks)

pub bounds-ins-each : goal.bounds-ins-each
bounds-ins-each c =
    let touched = c.args.touched.now in
    let i = c.loop-each.each-index in
    let k = value_at touched i in
    let has : Contains touched k = (i, c.loop-each-test.true, get_or_default touched i k 0 c.loop-each-test.true) in
    omega (arith, ((c.requires.touched.exact k).0 has).0, ap (λ (l : List ℕ). length l) c.ins.ensures)

pub loop-each-preserved : goal.loop-each-preserved
loop-each-preserved c =
    let i = c.loop-each.each-index in
    let circuit = c.args.piece.now in
    let place = c.args.place in
    let sets = c.args.marks.now in
    let marks = marks_of place sets in
    let touched = c.args.touched.now in
    let k = value_at touched i in
    let more : take (i + 1) touched ≡ take i touched ++ k ∷ [] = take_more touched i 0 c.loop-each-test.true in
    let signal = value_at c.ins.result.now k in
    elim c.if-has_mark.branch [
      | then-has_mark+in_ok-push w ↦
          let here : is_marked marks signal ≡ true = bit-marked place sets signal (c.has_mark.ensures.0 w.if-has_mark.true) in
          let is : is_marked marks (value_at circuit.ins k) ≡ true = subst (λ (l : List ℕ). is_marked marks (value_at l k) ≡ true) c.ins.ensures here in
          subst (λ (l : List ℕ). AreMarkedAmong circuit marks l c.if-has_mark.ins.items) (sym more)
          (subst (AreMarkedAmong circuit marks (take i touched ++ k ∷ [])) (sym (ap (λ (v : Vec ℕ Global). v.items) w.ins-is ∙ w.in_ok-push.ensures.items))
          (AreMarkedAmong-push circuit marks (take i touched) k c.loop-each.ins.items is (touched-before touched i c.loop-each-test.true c.requires.touched.ascending) c.loop-each.invariant))
      | else-has_mark w ↦
          let here : is_marked marks signal ≡ false = elim (bit-cases (value_at sets signal) place) [
            | inl one ↦ absurd (true≢false (sym (c.has_mark.ensures.1 one) ∙ w.if-has_mark.false))
            | inr none ↦ bit-unmarked place sets signal none
          ] in
          let not : is_marked marks (value_at circuit.ins k) ≡ false = subst (λ (l : List ℕ). is_marked marks (value_at l k) ≡ false) c.ins.ensures here in
          subst (λ (l : List ℕ). AreMarkedAmong circuit marks l c.if-has_mark.ins.items) (sym more)
          (subst (AreMarkedAmong circuit marks (take i touched ++ k ∷ [])) (sym (ap (λ (v : Vec ℕ Global). v.items) w.ins-is))
          (AreMarkedAmong-skip circuit marks (take i touched) k c.loop-each.ins.items not c.loop-each.invariant))
    ]

pub returns : goal.returns
returns c =
    let touched = c.args.touched.now in
    subst (AreMarkedIns c.args.piece.now (marks_of c.args.place c.args.marks.now) (length c.args.piece.now.ins)) (sym c.from.ensures)
    (AreMarkedIns-among c.args.piece.now c.args.place c.args.marks.now touched c.loop-each.ins.items c.requires.touched
    (subst (λ (l : List ℕ). AreMarkedAmong c.args.piece.now (marks_of c.args.place c.args.marks.now) l c.loop-each.ins.items) (take_all c.loop-each.each-index touched (omega (arith, c.loop-each-test.false))) c.loop-each.invariant))
