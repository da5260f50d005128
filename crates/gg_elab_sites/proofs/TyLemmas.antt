-- Types of one shape are equal.
use Rattle.std.proofs.Common.{◌≡◌, ℕ, ◌≤◌, ◌∙◌, ap, subst}
use Rattle.std.proofs.Math.Bridge.{le_prop}
use Rattle.gg_bits.specs.declared.types.Kind.{Kind}
use Rattle.gg_bits.specs.declared.types.Ty.{Ty}
use Rattle.gg_bits.specs.Shape.{Shape, shape}

abbrev pub made : (k : Kind) (w : ℕ) → 1 ≤ w → w ≤ 128 → Ty
made k w p b = record { kind = k; width = w; positive = p; bounded = b }

made-same : (k : Kind) (w : ℕ) (p q : 1 ≤ w) (b c : w ≤ 128) → made k w p b ≡ made k w q c
made-same k w p q b c = ap (λ (z : 1 ≤ w). made k w z b) (le_prop p q) ∙ ap (λ (z : w ≤ 128). made k w q z) (le_prop b c)

made-equal : (k l : Kind) (w v : ℕ) → k ≡ l → w ≡ v → (p : 1 ≤ w) (b : w ≤ 128) (q : 1 ≤ v) (c : v ≤ 128) → made k w p b ≡ made l v q c
made-equal k l w v ek ew =
    subst (λ (x : ℕ). (p : 1 ≤ w) (b : w ≤ 128) (q : 1 ≤ x) (c : x ≤ 128) → made k w p b ≡ made l x q c) ew
    (subst (λ (y : Kind). (p : 1 ≤ w) (b : w ≤ 128) (q : 1 ≤ w) (c : w ≤ 128) → made k w p b ≡ made y w q c) ek
    (λ p b q c. made-same k w p q b c))

pub ty-equal : (a b : Ty) → shape a ≡ shape b → a ≡ b
ty-equal a b e = made-equal a.kind b.kind a.width b.width (ap (λ (s : Shape). s.kind) e) (ap (λ (s : Shape). s.width) e) a.positive a.bounded b.positive b.bounded
