use Rattle.std.proofs.Common.{◌≡◌, ◌∙◌, ℕ, Option, Some, None, refl, ap}
use Rattle.std.specs.List.{each_same}
use Rattle.std.proofs.lemmas.List.Elements.{same_from_all_zip}
use Rattle.gg_flat_tree.specs.Tree.{InstanceTree}
use Rattle.gg_flat_tree.proofs.tree.Tree.copy.Goals as goal

-- copies of numbers that may be absent are the same
option-same : (R : Option ℕ → Option ℕ → Type 0) → ((a b : ℕ) → R (Some a) (Some b) → b ≡ a) → ((a : ℕ) → R (Some a) None → ⊥) → ((b : ℕ) → R None (Some b) → ⊥) → (x y : Option ℕ) → R x y → y ≡ x
option-same R some left right None None r = refl
option-same R some left right (Some a) (Some b) r = ap (λ k. Some k) (some a b r)
option-same R some left right (Some a) None r = absurd (left a r)
option-same R some left right None (Some b) r = absurd (right b r)

pub returns : goal.returns
returns c =
    let tree = c.self.inside in
    let paths : c.in_ok-clone.field-0 ≡ tree.paths = c.in_ok-clone.ensures.cases in
    let instances : c.in_ok-clone-2.field-0.items ≡ tree.instances.items = each_same tree.instances.items c.in_ok-clone-2.field-0.items c.in_ok-clone-2.ensures.cases.0 in
    let memory_paths : c.in_ok-clone-3.field-0 ≡ tree.memory_paths = c.in_ok-clone-3.ensures.cases in
    let memories : c.in_ok-clone-4.field-0.items ≡ tree.memories.items = each_same tree.memories.items c.in_ok-clone-4.field-0.items c.in_ok-clone-4.ensures.cases.0 in
    let clocks : c.in_ok-clone-5.field-0.items ≡ tree.clocks.items = each_same tree.clocks.items c.in_ok-clone-5.field-0.items c.in_ok-clone-5.ensures.cases.0 in
    let register_clocks : c.in_ok-clone-6.field-0.items ≡ tree.register_clocks.items = same_from_all_zip _ tree.register_clocks.items c.in_ok-clone-6.field-0.items c.in_ok-clone-6.ensures.cases.0 (option-same _ (λ a b r. r) (λ a r. r) (λ b r. r)) in
    let stops : c.in_ok-clone-7.field-0.items ≡ tree.stops.items = each_same tree.stops.items c.in_ok-clone-7.field-0.items c.in_ok-clone-7.ensures.cases.0 in
    let copied : InstanceTree = record { paths = c.in_ok-clone.field-0; instances = c.in_ok-clone-2.field-0.items; memory_paths = c.in_ok-clone-3.field-0; memories = c.in_ok-clone-4.field-0.items; clocks = c.in_ok-clone-5.field-0.items; register_clocks = c.in_ok-clone-6.field-0.items; stops = c.in_ok-clone-7.field-0.items } in
    let own : InstanceTree = record { paths = tree.paths; instances = tree.instances.items; memory_paths = tree.memory_paths; memories = tree.memories.items; clocks = tree.clocks.items; register_clocks = tree.register_clocks.items; stops = tree.stops.items } in
    let same : copied ≡ own = cc in
    same ∙ c.self.view_is
