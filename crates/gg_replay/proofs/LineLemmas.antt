-- The digits of a token.
use Rattle.std.proofs.Common.{◌≡◌, ℕ, ◌*◌, ◌/◌, ◌%◌, ◌^◌, ◌<◌, ◌≤◌, sym, ap, arith}
use Rattle.std.proofs.Math.Nat.{div-eq_of_lt}
use Rattle.std.proofs.Math.Pow.{pow_mono}

-- the digits past the first 128 bits are 0
pub digit-past : (value place : ℕ) → value < 2 ^ 128 → 32 ≤ place → 0 ≡ value / 2 ^ (4 * place) % 16
digit-past value place fits past =
    let wide : 128 ≤ 4 * place = omega (arith, past) in
    let room : 2 ^ 128 ≤ 2 ^ (4 * place) = pow_mono wide in
    let none : value / 2 ^ (4 * place) ≡ 0 = div-eq_of_lt (omega (arith, fits, room)) in
    sym (ap (λ n. n % 16) none)
