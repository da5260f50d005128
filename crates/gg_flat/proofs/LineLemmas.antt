-- The values of a line's nodes, node by node.
use Rattle.std.proofs.Common.{◌≡◌, ◌≢◌, ℕ, ◌<◌, ◌≤◌, ◌+◌, ◌-◌, List, [], ◌∷◌, ◌++◌, length, take, set, get_or, refl, sym, ◌∙◌, ap, subst, arith, below_more}
use Rattle.std.specs.Prelude.{fold}
use Rattle.std.proofs.lemmas.List.{get_or-take, take_more_set, take_all, get_or-map, get_or-set_same, get_or-set_other, get_or_at, length-set, length-append, length-take-le}
use Rattle.std.proofs.lemmas.List.Sums.{fold_more}
use Rattle.gg_bits.specs.Shape.{Shape, Fits}
use Rattle.gg_flat.specs.declared.line.Node.{Node}
use Rattle.gg_flat.specs.declared.line.Op.{Op}
use Rattle.gg_flat.specs.declared.line.Op.TheVariants.{Ref, Literal, One, Two, Fix, Mux}
use Rattle.gg_flat.specs.Line.{shape_at, value_at, shapes_of, op_at, HasShape, op_value, with_node, node_values, line_shape, line_value}
use Rattle.gg_flat.specs.inside.Line.{HasValue}

-- The front of the list `scratch` has the values of the first k nodes, each of its shape. The last of them is `value`.
pub record HoldsNodes (nodes : List Node) (signals : List ℕ) (k value : ℕ) (scratch : List ℕ) : Type 0 where
  pub room : length nodes ≤ length scratch
  pub values : take k scratch ≡ fold (with_node signals (shapes_of nodes)) [] (take k nodes)
  pub fits : (i : ℕ) → i < k → Fits (shape_at (shapes_of nodes) i) (value_at scratch i)
  pub last : 0 < k → value_at scratch (k - 1) ≡ value

pub HoldsNodes-none : (nodes : List Node) (signals : List ℕ) (value : ℕ) (scratch : List ℕ) → length nodes ≤ length scratch → HoldsNodes nodes signals 0 value scratch
HoldsNodes-none nodes signals value scratch room = record { room = room; values = refl; fits = λ i before. absurd (omega arith); last = λ some. absurd (omega arith) }

-- an operation at place k uses no value from place k on
op_value-take : (signals : List ℕ) (shapes : List Shape) (before : List ℕ) (k : ℕ) (to : Shape) (op : Op) → HasShape (HasValue signals) shapes k to op → op_value signals shapes before op ≡ op_value signals shapes (take k before) op
op_value-take signals shapes before k to (Ref s) has = refl
op_value-take signals shapes before k to (Literal value) has = refl
op_value-take signals shapes before k to (One op i) has = rw (get_or-take k before i 0 has.0)
op_value-take signals shapes before k to (Two op i j) has = rw (get_or-take k before i 0 has.0, get_or-take k before j 0 has.1)
op_value-take signals shapes before k to (Fix op i n m) has = rw (get_or-take k before i 0 has.0)
op_value-take signals shapes before k to (Mux c i j) has = rw (get_or-take k before c 0 has.0, get_or-take k before i 0 has.1, get_or-take k before j 0 has.2)

-- some node of a line that isn't empty
some-node : (nodes : List Node) (k : ℕ) → k < length nodes → Node
some-node [] k within = absurd (omega arith)
some-node (node ∷ nodes) k within = node

-- the value of node k is written at place k
pub HoldsNodes-more : (nodes : List Node) (signals : List ℕ) (k old : ℕ) (scratch : List ℕ) (value : ℕ) → k < length nodes → HasShape (HasValue signals) (shapes_of nodes) k (shape_at (shapes_of nodes) k) (op_at nodes k) → HoldsNodes nodes signals k old scratch → value ≡ op_value signals (shapes_of nodes) scratch (op_at nodes k) → Fits (shape_at (shapes_of nodes) k) value → HoldsNodes nodes signals (k + 1) value (set scratch k value)
HoldsNodes-more nodes signals k old scratch value within has holds is fits =
    let some = some-node nodes k within in
    let room : k < length scratch = omega (arith, within, holds.room) in
    let op : op_at nodes k ≡ (get_or nodes k some).op = get_or-map (λ node. node.op) nodes k some (Ref 0) within in
    let now : value ≡ op_value signals (shapes_of nodes) (take k scratch) (get_or nodes k some).op =
    is
    ∙ op_value-take signals (shapes_of nodes) scratch k (shape_at (shapes_of nodes) k) (op_at nodes k) has
    ∙ ap (op_value signals (shapes_of nodes) (take k scratch)) op in
    record {
      room = rw length-set holds.room;
      values =
          take_more_set scratch k value room
          ∙ ap (λ v. take k scratch ++ v ∷ []) now
          ∙ ap (λ before. before ++ op_value signals (shapes_of nodes) before (get_or nodes k some).op ∷ []) holds.values
          ∙ sym (fold_more (with_node signals (shapes_of nodes)) [] nodes k some within);
      fits =
          below_more (λ i. Fits (shape_at (shapes_of nodes) i) (value_at (set scratch k value) i)) k
          (λ i before.
          let other : i ≢ k = omega arith in
          subst (Fits (shape_at (shapes_of nodes) i)) (sym (get_or-set_other scratch k i value 0 other)) (holds.fits i before))
          (subst (Fits (shape_at (shapes_of nodes) k)) (sym (get_or-set_same scratch k value 0 room)) fits);
      last = λ some. let place : k + 1 - 1 ≡ k = omega arith in ap (value_at (set scratch k value)) place ∙ get_or-set_same scratch k value 0 room;
    }

-- once all nodes have their values, the last one is the line's
pub HoldsNodes-value : (nodes : List Node) (signals : List ℕ) (k value : ℕ) (scratch : List ℕ) → k ≡ length nodes → 0 < length nodes → HoldsNodes nodes signals k value scratch → value ≡ line_value signals nodes
HoldsNodes-value nodes signals k value scratch end some holds =
    let before : k - 1 < k = omega (arith, end, some) in
    let all : take k nodes ≡ nodes = take_all k nodes (omega (arith, end)) in
    let place : k - 1 ≡ length nodes - 1 = omega (arith, end) in
    sym (holds.last (omega (arith, end, some)))
    ∙ sym (get_or-take k scratch (k - 1) 0 before)
    ∙ ap (λ values. value_at values (k - 1)) (holds.values ∙ ap (node_values signals (shapes_of nodes)) all)
    ∙ ap (value_at (node_values signals (shapes_of nodes) nodes)) place

pub HoldsNodes-fits : (nodes : List Node) (signals : List ℕ) (k value : ℕ) (scratch : List ℕ) → k ≡ length nodes → 0 < length nodes → HoldsNodes nodes signals k value scratch → Fits (line_shape nodes) value
HoldsNodes-fits nodes signals k value scratch end some holds =
    let before : k - 1 < k = omega (arith, end, some) in
    let place : k - 1 ≡ length nodes - 1 = omega (arith, end) in
    subst (Fits (line_shape nodes)) (holds.last (omega (arith, end, some)))
    (subst (λ i. Fits (shape_at (shapes_of nodes) i) (value_at scratch (k - 1))) place (holds.fits (k - 1) before))
