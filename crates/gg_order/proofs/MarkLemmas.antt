-- Sets of marks, what the nodes of a line name, and the driver at a place.
use Rattle.std.proofs.Common.{◌≡◌, ℕ, ◌<◌, List, [], length, Bool, sym, ap, ◌∙◌, inl, inr, ◌⊎◌, arith}
use Rattle.std.specs.Prelude.{slice_index_or}
use Rattle.std.proofs.lemmas.List.{length-map, get_or-map}
use Rattle.gg_flat.specs.declared.line.Node.{Node}
use Rattle.gg_flat.specs.declared.line.Op.TheVariants.{Ref}
use Rattle.gg_flat.specs.declared.piece.Driver.TheVariants.{Input}
use Rattle.gg_flat.specs.declared.piece.Signal.{Signal}
use Rattle.gg_flat.specs.Reads.{Names}
use Rattle.gg_order.specs.inside.Marks.{driver_of, Marks}

-- one set of marks after another
pub Marks-then : (P Q R : ℕ → Type 0) (a b c : List Bool) → ((s : ℕ) → P s → R s) → ((s : ℕ) → Q s → R s) → ((s : ℕ) → R s → P s ⊎ Q s) → Marks P a b → Marks Q b c → Marks R a c
Marks-then P Q R a b c from_p from_q cases first second = record {
  kept = λ s h. second.kept s (first.kept s h);
  marked = λ s r. elim (cases s r) [ inl p ↦ second.kept s (first.marked s p) | inr q ↦ second.marked s q ];
  only = λ s h. elim (second.only s h) [
    | inl g ↦ elim (first.only s g) [ inl k ↦ inl k | inr p ↦ inr (from_p s p) ]
    | inr q ↦ inr (from_q s q)
  ];
}

-- if nothing is named, nothing is marked
pub Marks-none : (P : ℕ → Type 0) (a : List Bool) → ((s : ℕ) → P s → ⊥) → Marks P a a
Marks-none P a none = record { kept = λ s h. h; marked = λ s p. absurd (none s p); only = λ s h. inl h }

pub Names-none : (s : ℕ) → Names [] s → ⊥
Names-none s h = omega (arith, h.1)

-- a node of the list names what it is a reference to
pub Names-at : (nodes : List Node) (i : ℕ) (n : Node) (s : ℕ) → i < length nodes → n ≡ slice_index_or nodes i n → n.op ≡ Ref s → Names nodes s
Names-at nodes i n s lt is op =
    (i, omega (arith, length-map nodes (λ (m : Node). m.op)), get_or-map (λ (m : Node). m.op) nodes i n (Ref s) lt ∙ ap (λ (m : Node). m.op) (sym is) ∙ op)

-- the driver of the signal at a place
pub driver_of-at : (signals : List Signal) (k : ℕ) (signal : Signal) → k < length signals → (slice_index_or signals k signal).driver ≡ driver_of signals k
driver_of-at signals k signal lt = sym (get_or-map (λ (s : Signal). s.driver) signals k signal (Input 0) lt)
