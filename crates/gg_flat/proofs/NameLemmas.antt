-- The signals that a line names when a node is added to it.
use Rattle.std.proofs.Common.{◌≡◌, ℕ, zero, suc, List, [], ◌∷◌, ◌++◌, map, sym, subst, inl, inr, ◌⊎◌, arith}
use Rattle.std.specs.Prelude.{Contains}
use Rattle.std.proofs.lemmas.List.{map-append}
use Rattle.std.proofs.lemmas.List.Elements.{Contains-append_left, Contains-append_right, Contains-append_cases}
use Rattle.gg_flat.specs.declared.line.Node.{Node}
use Rattle.gg_flat.specs.declared.line.Op.{Op}
use Rattle.gg_flat.specs.declared.line.Op.TheVariants.{Ref}
use Rattle.gg_flat.specs.Reads.{Names}

pub Contains-one : {X : Type 0} (y x : X) → Contains (y ∷ []) x → y ≡ x
Contains-one y x (zero, lt, is) = is
Contains-one y x (suc k, lt, is) = absurd (omega arith)

pub Names-push : (nodes : List Node) (n : Node) (s : ℕ) → Names nodes s → Names (nodes ++ n ∷ []) s
Names-push nodes n s h =
    let P : List Op → Type 0 = λ l. Contains l (Ref s) in
    subst P (sym (map-append (λ (m : Node). m.op) nodes (n ∷ []))) (Contains-append_left (map (λ (m : Node). m.op) nodes) (n.op ∷ []) (Ref s) h)

pub Names-new : (nodes : List Node) (n : Node) (s : ℕ) → n.op ≡ Ref s → Names (nodes ++ n ∷ []) s
Names-new nodes n s is =
    let P : List Op → Type 0 = λ l. Contains l (Ref s) in
    subst P (sym (map-append (λ (m : Node). m.op) nodes (n ∷ []))) (Contains-append_right (map (λ (m : Node). m.op) nodes) (n.op ∷ []) (Ref s) (0, omega arith, is))

pub Names-push_cases : (nodes : List Node) (n : Node) (s : ℕ) → Names (nodes ++ n ∷ []) s → Names nodes s ⊎ (n.op ≡ Ref s)
Names-push_cases nodes n s h =
    let P : List Op → Type 0 = λ l. Contains l (Ref s) in
    elim (Contains-append_cases (map (λ (m : Node). m.op) nodes) (n.op ∷ []) (Ref s) (subst P (map-append (λ (m : Node). m.op) nodes (n ∷ [])) h)) [
      | inl a ↦ inl a
      | inr b ↦ inr (Contains-one n.op (Ref s) b)
    ]
