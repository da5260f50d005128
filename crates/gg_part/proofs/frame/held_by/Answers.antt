use Rattle.std.proofs.Common.{◌≡◌, ◌+◌, take, vec_len, sym, ◌∙◌, ap, subst, arith}
use Rattle.gg_part.specs.Building.{AreHeld}
use Rattle.gg_part.proofs.FrameLemmas.{AreHeld-more, AreHeld-passed}
use Rattle.gg_part.proofs.frame.held_by.Goals as goal
use Rattle.gg_part.proofs.frame.held_by.Goals.{in-Some+in_ok-push, in_default}

pub loop-signal-preserved : goal.loop-signal-preserved
loop-signal-preserved c =
    let whole = c.args.whole.now in
    let globals = c.args.globals.now in
    let ins = c.args.ins.now in
    let k = c.loop-signal.signal-index in
    elim c.match-register_of.branch [
      | in-Some+in_ok-push w ↦ record {
        are = AreHeld-more whole globals ins k c.loop-signal-test.true c.loop-signal.held.items c.match-register_of.held.items w.in-Some.register (w.in-Some.ensures.holds) (ap (λ v. v.items) w.held-is ∙ w.in_ok-push.ensures.items) c.loop-signal.invariant.are;
        few = let at : vec_len c.match-register_of.held ≡ vec_len c.loop-signal.held + 1 = ap vec_len w.held-is ∙ w.in_ok-push.ensures.len in omega (arith, c.loop-signal.invariant.few);
      }
      | in_default w ↦ record {
        are = subst (λ held. AreHeld whole (take (k + 1) globals) ins held) (sym (ap (λ v. v.items) w.held-is)) (AreHeld-passed whole globals ins k c.loop-signal-test.true c.loop-signal.held.items w.in_default.ensures.none c.loop-signal.invariant.are);
        few = let at : vec_len c.match-register_of.held ≡ vec_len c.loop-signal.held = ap vec_len w.held-is in omega (arith, c.loop-signal.invariant.few);
      }
    ]
