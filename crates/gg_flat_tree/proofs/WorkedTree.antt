-- A small tree is the tree of its circuit, and those with one flaw each are not.
use Rattle.std.proofs.Common.{◌≡◌, ℕ, zero, suc, ◌<◌, ◌≤◌, List, [], ◌∷◌, Some, None, false, refl, sym, ap, subst, arith, lit<, lit≤}
use Rattle.std.specs.Prelude.{Contains, slice_index_or}
use Rattle.gg_flat.specs.declared.memory.Latency.TheVariants.{Zero}
use Rattle.gg_flat_tree.specs.declared.tree.Instance.{Instance}
use Rattle.gg_flat.specs.Line.{value_at}
use Rattle.gg_flat.specs.Circuit.{FlatCircuit}
use Rattle.gg_flat_tree.specs.Tree.{InstanceTree, IsTree, IsBelow, IsInstance, IsHeld, IsInnermost, IsWithin, Holds, path_at, instance_at, parent_place, joined}
use Rattle.gg_flat.proofs.WorkedForms.{only, both, pair, single, apart, letter}
use Rattle.gg_flat.proofs.WorkedCircuits.{eight}
use Rattle.gg_flat.proofs.WorkedMemories.{high}

-- Two signals: `q` of the top, and `u.r` of the instance `u`, which has a memory `m` with a reader `r` and no writer.
abbrev circuit : FlatCircuit
circuit =
    record {
      paths = (113 ∷ []) ∷ (117 ∷ 46 ∷ 114 ∷ []) ∷ [];
      signals = high ∷ high ∷ [];
      registers = [];
      memories = record { word = eight; depth = 1; latency = Zero; readers = record { addr = 0; en = 0; word = 1; clock = None } ∷ []; writers = [] } ∷ [];
      ins = [];
      outs = 0 ∷ [];
      clocks = 0;
    }

abbrev top : Instance
top = record { parent = None; «module» = 0; first = 0; end = 2; ports = record { signal = 0; is_input = false } ∷ []; memories = []; clocks = [] }

abbrev lower : Instance
lower = record { parent = Some 0; «module» = 1; first = 1; end = 2; ports = record { signal = 1; is_input = false } ∷ []; memories = 0 ∷ []; clocks = [] }

-- the tree with this instance as `u`
abbrev with_lower : Instance → InstanceTree
with_lower instance =
    record {
      paths = [] ∷ (117 ∷ []) ∷ [];
      instances = top ∷ instance ∷ [];
      memory_paths = (117 ∷ 46 ∷ 109 ∷ []) ∷ [];
      memories = record { instance = 1; memory = 0; ports = (114 ∷ []) ∷ []; clocks = [] } ∷ [];
      clocks = [];
      register_clocks = [];
      stops = [];
    }

abbrev tree : InstanceTree
tree = with_lower lower

below : (k : ℕ) → 0 < k → k < 2 → IsBelow tree k
below zero positive lt = absurd (omega arith)
below (suc zero) positive lt =
    record {
      above = 0;
      parent = refl;
      before = lit< tt;
      between = λ i after before. absurd (omega arith);
      path = record { name = 117 ∷ []; plain = letter 117 (apart 117 46 refl); is = refl };
      first = lit≤ tt;
      last = lit≤ tt;
    }
below (suc (suc k)) positive lt = absurd (omega arith)

-- no two instances have the same parent
no_siblings : (i j above : ℕ) → i < j → j < 2 → (instance_at tree i).parent ≡ Some above → ⊥
no_siblings zero j above before lt is = cc
no_siblings (suc i) j above before lt is = absurd (omega arith)

within : (k s : ℕ) → IsInnermost tree k s → IsWithin (path_at tree.paths k) (path_at circuit.paths s)
within zero zero is = record { rest = 113 ∷ []; is = refl }
within zero (suc zero) is = absurd (is.deeper 1 (lit< tt) refl (lit≤ tt, lit< tt))
within zero (suc (suc s)) is = let past : suc (suc s) < 2 = is.holds.1 in absurd (omega arith)
within (suc zero) zero is = let before : 1 ≤ 0 = is.holds.0 in absurd (omega arith)
within (suc zero) (suc zero) is = record { rest = 114 ∷ []; is = refl }
within (suc zero) (suc (suc s)) is = let past : suc (suc s) < 2 = is.holds.1 in absurd (omega arith)
within (suc (suc k)) s is = let past : suc (suc k) < 2 = is.known in absurd (omega arith)

tree-is : IsTree circuit tree
tree-is =
    record {
      top = record { there = lit< tt; parent = refl; path = refl; first = refl; all = refl };
      below = below;
      named = refl;
      distinct = pair _ _ (λ same. cc);
      apart = λ i j above before lt one other. absurd (no_siblings i j above before lt one);
      each = both (λ k. IsInstance circuit (instance_at tree k)) (record {
        range = lit≤ tt;
        inside = lit≤ tt;
        ports = λ k d lt. only (λ i. Holds top (slice_index_or top.ports i d).signal) (lit≤ tt, lit< tt) k lt;
        memories = λ k d lt. absurd (omega arith);
      }) (record {
        range = lit≤ tt;
        inside = lit≤ tt;
        ports = λ k d lt. only (λ i. Holds lower (slice_index_or lower.ports i d).signal) (lit≤ tt, lit< tt) k lt;
        memories = λ k d lt. only (λ i. slice_index_or lower.memories i d < 1) (lit< tt) k lt;
      });
      signals = within;
      count = refl;
      memory_named = refl;
      memory_distinct = single _;
      held = only (λ k. IsHeld circuit tree k) (record {
        instance = lit< tt;
        own = (0, lit< tt, refl);
        path = record { name = 109 ∷ []; plain = letter 109 (apart 109 46 refl); is = refl };
        ports = refl;
      });
      once = λ i j d lt past. absurd (omega arith);
      ordered = λ i j d lt past. absurd (omega arith);
    }

-- ---- flaws

-- an instance that is its own parent
own_parent : ¬ IsTree circuit (with_lower (record lower { parent = Some 1 }))
own_parent is = let k = is.below 1 (lit< tt) (lit< tt) in let same : 1 ≡ k.above = ap parent_place k.parent in absurd (omega (arith, k.before))

-- an instance with signals past those of its parent
past_parent : ¬ IsTree circuit (with_lower (record lower { end = 3 }))
past_parent is = let inside : 3 ≤ 2 = (is.each 1 (lit< tt)).inside in absurd (omega arith)

-- an instance with a port that is a signal of its parent
parents_port : ¬ IsTree circuit (with_lower (record lower { ports = record { signal = 0; is_input = false } ∷ [] }))
parents_port is = let held : 1 ≤ 0 = ((is.each 1 (lit< tt)).ports 0 (record { signal = 0; is_input = false }) (lit< tt)).0 in absurd (omega arith)

-- an instance whose name, after its parent's path, has a dot
dotted : ¬ IsTree circuit (record tree { paths = [] ∷ (117 ∷ 46 ∷ 118 ∷ []) ∷ [] })
dotted is = flawed (is.below 1 (lit< tt) (lit< tt))
  where
    flawed : IsBelow (record tree { paths = [] ∷ (117 ∷ 46 ∷ 118 ∷ []) ∷ [] }) 1 → ⊥
    flawed k =
        let same : 0 ≡ k.above = ap parent_place k.parent in
        let path : (117 ∷ 46 ∷ 118 ∷ []) ≡ k.path.name = subst (λ above. (117 ∷ 46 ∷ 118 ∷ []) ≡ joined (path_at ([] ∷ (117 ∷ 46 ∷ 118 ∷ []) ∷ []) above) k.path.name) (sym same) k.path.is in
        k.path.plain (subst (λ (name : List ℕ). Contains name 46) path (1, lit< tt, refl))

-- a signal of `u` whose path doesn't begin with `u`
no_prefix : ¬ IsTree (record circuit { paths = (113 ∷ []) ∷ (114 ∷ []) ∷ [] }) tree
no_prefix is =
    let begins = is.signals 1 1 (record { known = lit< tt; holds = (lit≤ tt, lit< tt); deeper = none }) in
    apart 114 117 refl (ap (λ (l : List ℕ). value_at l 0) begins.is)
  where
    none : (i : ℕ) → i < 2 → (instance_at tree i).parent ≡ Some 1 → ¬ Holds (instance_at tree i) 1
    none zero lt is = λ h. cc
    none (suc zero) lt is = λ h. absurd (omega (arith, ap parent_place is))
    none (suc (suc i)) lt is = absurd (omega arith)

-- a memory that its instance doesn't have
no_memory : ¬ IsTree circuit (with_lower (record lower { memories = [] }))
no_memory is = let own = (is.held 0 (lit< tt)).own in let past : own.0 < 0 = own.1 in absurd (omega arith)
