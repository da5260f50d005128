use Rattle.std.proofs.Common.{◌≡◌, ℕ, ◌+◌, ◌<◌, ◌≤◌, ◌⊎◌, ⊎_elim, take, subst, arith}
use Rattle.gg_read.specs.Text.{opened, closed}
use Rattle.gg_read.proofs.TokenCounts.{opened-more, closed-more, opened-one, closed-one}
use Rattle.gg_read.proofs.fault.is_too_deep.Goals as goal

pub returns-then-closed-opened : goal.returns-then-closed-opened
returns-then-closed-opened c =
    let ts = c.args.tokens.now in
    let i : ℕ = c.loop-token.token-index in
    let opens = opened-more ts i c.token-item.result c.loop-token-test.true c.token-item.is in
    let closes = closed-more ts i c.token-item.result c.loop-token-test.true c.token-item.is in
    (i + 1, omega (arith, opens, closes, c.loop-token.invariant.opens, c.loop-token.invariant.closes, c.opens-opened.ensures, c.closes-closed.ensures, c.if-closed-opened.true))

last_or_before : (k i : ℕ) → k ≤ i + 1 → (k ≤ i) ⊎ (k ≡ i + 1)
last_or_before k i h = grind arith

pub loop-token-preserved : goal.loop-token-preserved
loop-token-preserved c =
    let ts = c.args.tokens.now in
    let i : ℕ = c.loop-token.token-index in
    let opens = opened-more ts i c.token-item.result c.loop-token-test.true c.token-item.is in
    let closes = closed-more ts i c.token-item.result c.loop-token-test.true c.token-item.is in
    record {
      opens = omega (arith, opens, c.loop-token.invariant.opens, c.opens-opened.ensures);
      closes = omega (arith, closes, c.loop-token.invariant.closes, c.closes-closed.ensures);
      opened_fits = omega (arith, c.loop-token.invariant.opened_fits, c.opens-opened.ensures, opened-one c.token-item.result);
      closed_fits = omega (arith, c.loop-token.invariant.closed_fits, c.closes-closed.ensures, closed-one c.token-item.result);
      shallow = λ k below deep. ⊎_elim (λ h. c.loop-token.invariant.shallow k h deep)
          (λ e. omega (arith, subst (λ (j : ℕ). 256 + closed (take j ts) < opened (take j ts)) e deep, opens, closes, c.loop-token.invariant.opens, c.loop-token.invariant.closes, c.opens-opened.ensures, c.closes-closed.ensures, c.if-closed-opened.false))
          (last_or_before k i below);
    }
