-- What one tick more does to the quotient and the remainder, by which edges are told.
use Rattle.std.proofs.Common.{◌≡◌, ◌+◌, ◌-◌, ◌*◌, ◌/◌, ◌%◌, ◌<◌, ◌≤◌, ℕ, zero, suc, Bool, true, false, nat_lt, ⊎_elim, ap, ◌∙◌, arith}
use Rattle.std.specs.Prelude.{if◌then◌else◌}
use Rattle.std.proofs.Math.Nat.{mod-lt, suc-mul}
use Rattle.std.proofs.lemmas.Nat.{div-add-mod', div-mul-add, mod-mul-add}
use Rattle.std.proofs.lemmas.Bool.{cases_lt, lt-ltb, le-ltb}
use Rattle.gg_flat.specs.Clock.{Ratio, edge}
use Rattle.gg_clocks.specs.inside.Edges.{IsRatio, edge_count}

module _ (n m d : ℕ) (some : 0 < d) where
  -- n + m, by the quotient and the remainder of n
  split : n + m ≡ n / d * d + (n % d + m)
  split = let whole = div-add-mod' n d in omega (arith, whole)

  -- without an edge the quotient stays, and the remainder grows
  pub div-kept : n % d + m < d → (n + m) / d ≡ n / d
  div-kept less = ap (λ k. k / d) split ∙ div-mul-add (n / d) d (n % d + m) less

  pub mod-kept : n % d + m < d → (n + m) % d ≡ n % d + m
  mod-kept less = ap (λ k. k % d) split ∙ mod-mul-add (n / d) d (n % d + m) less

  module _ (more : d ≤ n % d + m) (within : m ≤ d) where
    over : n + m ≡ suc (n / d) * d + (n % d + m - d)
    over = let whole = split in let once = suc-mul (n / d) d in omega (arith, whole, once, more)

    below : n % d + m - d < d
    below = let rest = mod-lt n some in omega (arith, rest, more, within)

    -- with an edge the quotient is one more, and the remainder begins anew
    pub div-over : (n + m) / d ≡ suc (n / d)
    div-over = ap (λ k. k / d) over ∙ div-mul-add (suc (n / d)) d (n % d + m - d) below

    pub mod-over : (n + m) % d ≡ n % d + m - d
    mod-over = ap (λ k. k % d) over ∙ mod-mul-add (suc (n / d)) d (n % d + m - d) below

-- how much a tick adds to the count of edges
abbrev more_by : Bool → ℕ
more_by e = if e then 1 else 0

module _ (ratio : Ratio) (is : IsRatio ratio) (b : ℕ) where
  some : 0 < ratio.d
  some = omega (arith, is.some, is.within)

  next : suc b * ratio.m ≡ b * ratio.m + ratio.m
  next = suc-mul b ratio.m

  after : (b + 1) * ratio.m ≡ b * ratio.m + ratio.m
  after = let once : b + 1 ≡ suc b = omega arith in ap (λ n. n * ratio.m) once ∙ next

  -- what a tick without an edge, and one with an edge, leaves
  pub edge-kept : b * ratio.m % ratio.d + ratio.m < ratio.d → edge ratio b ≡ false
  edge-kept less = ap (λ n. nat_lt (b * ratio.m / ratio.d) (n / ratio.d)) next
      ∙ le-ltb (b * ratio.m / ratio.d) ((b * ratio.m + ratio.m) / ratio.d) (let same = div-kept (b * ratio.m) ratio.m ratio.d some less in omega (arith, same))

  pub phase-kept : b * ratio.m % ratio.d + ratio.m < ratio.d → (b + 1) * ratio.m % ratio.d ≡ b * ratio.m % ratio.d + ratio.m
  phase-kept less = ap (λ n. n % ratio.d) after ∙ mod-kept (b * ratio.m) ratio.m ratio.d some less

  pub edge-over : ratio.d ≤ b * ratio.m % ratio.d + ratio.m → edge ratio b ≡ true
  edge-over more = ap (λ n. nat_lt (b * ratio.m / ratio.d) (n / ratio.d)) next
      ∙ lt-ltb (b * ratio.m / ratio.d) ((b * ratio.m + ratio.m) / ratio.d) (let one_more = div-over (b * ratio.m) ratio.m ratio.d some more is.within in omega (arith, one_more))

  pub phase-over : ratio.d ≤ b * ratio.m % ratio.d + ratio.m → (b + 1) * ratio.m % ratio.d ≡ b * ratio.m % ratio.d + ratio.m - ratio.d
  phase-over more = ap (λ n. n % ratio.d) after ∙ mod-over (b * ratio.m) ratio.m ratio.d some more is.within

  -- the quotient grows by one exactly in a tick with an edge
  pub quotient-next : suc b * ratio.m / ratio.d ≡ b * ratio.m / ratio.d + more_by (edge ratio b)
  quotient-next = ⊎_elim
      (λ (less : b * ratio.m % ratio.d + ratio.m < ratio.d).
      let stays = div-kept (b * ratio.m) ratio.m ratio.d some less in
      let none : more_by (edge ratio b) ≡ 0 = ap more_by (edge-kept less) in
      ap (λ n. n / ratio.d) next ∙ omega (arith, stays, none))
      (λ (more : ratio.d ≤ b * ratio.m % ratio.d + ratio.m).
      let grows = div-over (b * ratio.m) ratio.m ratio.d some more is.within in
      let one_more : more_by (edge ratio b) ≡ 1 = ap more_by (edge-over more) in
      ap (λ n. n / ratio.d) next ∙ omega (arith, grows, one_more))
      (cases_lt (b * ratio.m % ratio.d + ratio.m) ratio.d)

-- the count of edges is the quotient
pub edge_count-quotient : (ratio : Ratio) → IsRatio ratio → (b : ℕ) → b * ratio.m / ratio.d ≡ edge_count ratio b
edge_count-quotient ratio is zero =
    let none : 0 * ratio.m ≡ 0 * ratio.d + 0 = omega arith in
    ap (λ n. n / ratio.d) none ∙ div-mul-add 0 ratio.d 0 (omega (arith, is.some, is.within))
edge_count-quotient ratio is (suc b) = quotient-next ratio is b ∙ ap (λ n. n + more_by (edge ratio b)) (edge_count-quotient ratio is b)
