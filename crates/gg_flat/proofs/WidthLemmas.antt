-- The first width from w on that reaches a depth.
use Rattle.std.proofs.Common.{◌≡◌, ℕ, zero, suc, ◌+◌, ◌-◌, ◌^◌, ◌<◌, ◌≤◌, ◌*◌, ◌%◌, refl, sym, ap, ◌∙◌, inl, inr, arith, Bool}
use Rattle.std.specs.Prelude.{if◌then◌else◌}
use Rattle.std.proofs.lemmas.Bool.Decides.{leb_tells}
use Rattle.std.proofs.lemmas.Grind.{one_shifted}
use Rattle.gg_flat.specs.Memory.{first_width}

pub first_width-here : (more w depth : ℕ) → 0 < more → depth ≤ 2 ^ w → w ≡ first_width more w depth
first_width-here zero w depth some reaches = absurd (omega arith)
first_width-here (suc more) w depth some reaches =
    elim (leb_tells depth (2 ^ w)) [
      | inl is ↦ sym (ap (λ (b : Bool). if b then w else first_width more (suc w) depth) is.0)
      | inr is ↦ let past = is.1 in absurd (omega arith)
    ]

pub first_width-next : (more w depth : ℕ) → 0 < more → 2 ^ w < depth → first_width more w depth ≡ first_width (more - 1) (w + 1) depth
first_width-next zero w depth some past = absurd (omega arith)
first_width-next (suc more) w depth some past =
    elim (leb_tells depth (2 ^ w)) [
      | inl is ↦ let reaches = is.1 in absurd (omega arith)
      | inr is ↦
          ap (λ (b : Bool). if b then w else first_width more (suc w) depth) is.0
          ∙ ap (λ n. first_width n (suc w) depth) (let same : more ≡ suc more - 1 = omega arith in same)
          ∙ ap (λ v. first_width (suc more - 1) v depth) (let same : suc w ≡ w + 1 = omega arith in same)
    ]

-- in a u64, 1 shifted left by w places is 2 ^ w
pub shift-small : (w : ℕ) → w < 32 → 1 * 2 ^ w % 18446744073709551616 ≡ 2 ^ w
shift-small w small = (one_shifted w 18446744073709551615 refl (omega arith)).0
