use Rattle.std.proofs.Common.{◌≡◌, ℕ, ◌+◌, ◌<◌, ◌≤◌, take}
use Rattle.gg_read.specs.Text.{opened, closed}
use Rattle.gg_read.proofs.fault.is_too_deep.Given as goal

abbrev pub invariant-loop-token : goal.invariant-loop-token
invariant-loop-token l =
    record {
      opens : l.opened ≡ opened (take l.token-index l.tokens);
      closes : l.closed ≡ closed (take l.token-index l.tokens);
      opened_fits : l.opened ≤ l.token-index;
      closed_fits : l.closed ≤ l.token-index;
      shallow : (k : ℕ) → k ≤ l.token-index → 256 + closed (take k l.tokens) < opened (take k l.tokens) → ⊥;
    }
