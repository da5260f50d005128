-- The token that a channel opens with.
use Rattle.std.proofs.Common.{◌≡◌, ℕ, ◌+◌, ◌≤◌, Bool, true, false, arith}
use Rattle.gg_net.specs.Network.{and_one}

pub entered-is : (n : ℕ) (b : Bool) → and_one n b ≡ n + and_one 0 b
entered-is n false = omega arith
entered-is n true = omega arith

pub early-few : (b : Bool) → and_one 0 b ≤ 1
early-few false = omega arith
early-few true = omega arith
