-- Lines, resets and connections under other numbers of signals.
use Rattle.std.proofs.Common.{◌≡◌, ℕ, zero, suc, ◌<◌, ◌≤◌, ◌-◌, List, [], ◌∷◌, ◌++◌, length, map, refl, sym, ◌∙◌, ap, ap₂, subst, inl, inr, arith}
use Rattle.std.specs.Prelude.{fold, Option, Some, None, MatchOption, ⊤, ◌==◌, if◌then◌else◌}
use Rattle.std.proofs.lemmas.List.{length-map, map-id, get_or_default}
use Rattle.std.proofs.lemmas.Simd.{map-map}
use Rattle.gg_bits.specs.Shape.{Shape, shape}
use Rattle.gg_bits.specs.Meaning.{extended}
use Rattle.gg_flat.specs.declared.line.Node.{Node}
use Rattle.gg_flat.specs.declared.line.Op.{Op}
use Rattle.gg_flat.specs.declared.line.Op.TheVariants.{Ref, Literal, One, Two, Fix, Mux}
use Rattle.gg_flat.specs.declared.piece.Reset.{Reset}
use Rattle.gg_flat.specs.Line.{value_at, shape_at, shapes_of, op_at, line_shape, HasShape, IsLine, IsSource, IsCondition, op_value, with_node, line_value, connected_value}
use Rattle.gg_flat.specs.Reads.{Names, NextNames, ResetNames}
use Rattle.gg_flat.specs.State.{connected_or, reset_or}
use Rattle.gg_flat.specs.WellFormed.{IsReset}
use Rattle.gg_flat.proofs.ListLemmas.{map-same, further}
use Rattle.gg_flat.specs.Named.{NamesOnly}
use Rattle.gg_flat.specs.Renaming.{renamed_op, renamed_node, renamed_line, renamed_next, renamed_reset}

abbrev node_with : Node → Op → Node
node_with node op = record { ty = node.ty; op = op }

abbrev reset_with : List Node → List Node → Option Reset
reset_with condition init = Some (record { condition = condition; init = init })

-- what the first node of a line names
pub first-only : (P : ℕ → Type 0) (node : Node) (nodes : List Node) → NamesOnly P (node ∷ nodes) → (s : ℕ) → node.op ≡ Ref s → P s
first-only P node nodes only s is = only s (0, omega arith, is)

-- ---- shapes stay

module _ (to : ℕ → ℕ) where
  pub shapes-renamed : (line : List Node) → shapes_of (renamed_line to line) ≡ shapes_of line
  shapes-renamed line = map-map (λ (node : Node). shape node.ty) (λ node. renamed_node to node) line

  pub length-renamed : (line : List Node) → length (renamed_line to line) ≡ length line
  length-renamed line = length-map line (λ node. renamed_node to node)

  pub shape-renamed : (line : List Node) → line_shape (renamed_line to line) ≡ line_shape line
  shape-renamed line = ap₂ (λ shapes n. shape_at shapes (n - 1)) (shapes-renamed line) (length-renamed line)

  pub op-at-renamed : (line : List Node) (k : ℕ) → k < length line → op_at (renamed_line to line) k ≡ renamed_op to (op_at line k)
  op-at-renamed [] k lt = absurd (omega (arith, lt))
  op-at-renamed (node ∷ nodes) zero lt = refl
  op-at-renamed (node ∷ nodes) (suc k) lt = op-at-renamed nodes k (omega (arith, lt))

-- ---- 1. what is named under other numbers

module _ (to : ℕ → ℕ) where
  ref-back : (op : Op) (t : ℕ) → renamed_op to op ≡ Ref t → (s : ℕ) × (op ≡ Ref s) × (to s ≡ t)
  ref-back (Ref s) t is = (s, refl, (let same : to s ≡ t = cc in same))
  ref-back (Literal value) t is = absurd cc
  ref-back (One op i) t is = absurd cc
  ref-back (Two op i j) t is = absurd cc
  ref-back (Fix op i n m) t is = absurd cc
  ref-back (Mux c i j) t is = absurd cc

  pub named-there : (line : List Node) (s : ℕ) → Names line s → Names (renamed_line to line) (to s)
  named-there [] s named = absurd (let low = named.1 in omega (arith, low))
  named-there (node ∷ nodes) s (zero, lt, is) = (0, omega arith, ap (renamed_op to) is)
  named-there (node ∷ nodes) s (suc k, lt, is) = further (renamed_op to node.op) (map (λ n. n.op) (renamed_line to nodes)) (Ref (to s)) (named-there nodes s (k, omega (arith, lt), is))

  pub named-back : (line : List Node) (t : ℕ) → Names (renamed_line to line) t → (s : ℕ) × Names line s × (to s ≡ t)
  named-back [] t named = absurd (let low = named.1 in omega (arith, low))
  named-back (node ∷ nodes) t (zero, lt, is) = let b = ref-back node.op t is in (b.0, (0, omega arith, b.1), b.2)
  named-back (node ∷ nodes) t (suc k, lt, is) =
      let b = named-back nodes t (k, omega (arith, lt), is) in
      (b.0, further node.op (map (λ n. n.op) nodes) (Ref b.0) b.1, b.2)

  pub only-back : (P : ℕ → Type 0) (line : List Node) → NamesOnly P (renamed_line to line) → NamesOnly (λ s. P (to s)) line
  only-back P line only s named = only (to s) (named-there line s named)

  pub only-there : (P : ℕ → Type 0) (line : List Node) → NamesOnly (λ s. P (to s)) line → NamesOnly P (renamed_line to line)
  only-there P line only t named = let b = named-back line t named in subst P b.2 (only b.0 b.1)

-- ---- 2. numbers that agree on what is named

module _ (to other : ℕ → ℕ) where
  op-agree : (op : Op) → ((s : ℕ) → op ≡ Ref s → to s ≡ other s) → renamed_op to op ≡ renamed_op other op
  op-agree (Ref s) same = ap Ref (same s refl)
  op-agree (Literal value) same = refl
  op-agree (One op i) same = refl
  op-agree (Two op i j) same = refl
  op-agree (Fix op i n m) same = refl
  op-agree (Mux c i j) same = refl

  pub line-agree : (line : List Node) → NamesOnly (λ s. to s ≡ other s) line → renamed_line to line ≡ renamed_line other line
  line-agree [] same = refl
  line-agree (node ∷ nodes) same =
      ap₂ (λ op rest. node_with node op ∷ rest) (op-agree node.op (λ s is. same s (0, omega arith, is)))
      (line-agree nodes (λ s named. same s (further node.op (map (λ n. n.op) nodes) (Ref s) named)))

  pub next-agree : (next : Option (List Node)) → ((s : ℕ) → NextNames next s → to s ≡ other s) → renamed_next to next ≡ renamed_next other next
  next-agree None same = refl
  next-agree (Some line) same = ap Some (line-agree line same)

  pub reset-agree : (reset : Option Reset) → ((s : ℕ) → ResetNames reset s → to s ≡ other s) → renamed_reset to reset ≡ renamed_reset other reset
  reset-agree None same = refl
  reset-agree (Some reset) same = ap₂ reset_with (line-agree reset.condition (λ s named. same s (inl named))) (line-agree reset.init (λ s named. same s (inr named)))

-- ---- 3. the numbers that there are

op-same : (op : Op) → renamed_op (λ s. s) op ≡ op
op-same (Ref s) = refl
op-same (Literal value) = refl
op-same (One op i) = refl
op-same (Two op i j) = refl
op-same (Fix op i n m) = refl
op-same (Mux c i j) = refl

pub line-same : (line : List Node) → renamed_line (λ s. s) line ≡ line
line-same line = map-same (λ node. renamed_node (λ s. s) node) (λ node. node) line (λ node. ap (node_with node) (op-same node.op)) ∙ map-id line

pub next-same : (next : Option (List Node)) → renamed_next (λ s. s) next ≡ next
next-same None = refl
next-same (Some line) = ap Some (line-same line)

pub reset-same : (reset : Option Reset) → renamed_reset (λ s. s) reset ≡ reset
reset-same None = refl
reset-same (Some reset) = ap₂ reset_with (line-same reset.condition) (line-same reset.init)

-- ---- 4. one after the other

module _ (first second : ℕ → ℕ) where
  op-twice : (op : Op) → renamed_op second (renamed_op first op) ≡ renamed_op (λ s. second (first s)) op
  op-twice (Ref s) = refl
  op-twice (Literal value) = refl
  op-twice (One op i) = refl
  op-twice (Two op i j) = refl
  op-twice (Fix op i n m) = refl
  op-twice (Mux c i j) = refl

  pub line-twice : (line : List Node) → renamed_line second (renamed_line first line) ≡ renamed_line (λ s. second (first s)) line
  line-twice [] = refl
  line-twice (node ∷ nodes) = ap₂ (λ op rest. node_with node op ∷ rest) (op-twice node.op) (line-twice nodes)

  pub next-twice : (next : Option (List Node)) → renamed_next second (renamed_next first next) ≡ renamed_next (λ s. second (first s)) next
  next-twice None = refl
  next-twice (Some line) = ap Some (line-twice line)

  pub reset-twice : (reset : Option Reset) → renamed_reset second (renamed_reset first reset) ≡ renamed_reset (λ s. second (first s)) reset
  reset-twice None = refl
  reset-twice (Some reset) = ap₂ reset_with (line-twice reset.condition) (line-twice reset.init)

-- ---- 5. what comes out

-- `row` has under the new numbers what `mine` has under the old ones
module _ (to : ℕ → ℕ) (row mine : List ℕ) where
  abbrev pub IsAlike : ℕ → Type 0
  IsAlike s = value_at row (to s) ≡ value_at mine s

  op_value-renamed : (shapes : List Shape) (before : List ℕ) (op : Op) → ((s : ℕ) → op ≡ Ref s → IsAlike s) → op_value row shapes before (renamed_op to op) ≡ op_value mine shapes before op
  op_value-renamed shapes before (Ref s) alike = alike s refl
  op_value-renamed shapes before (Literal value) alike = refl
  op_value-renamed shapes before (One op i) alike = refl
  op_value-renamed shapes before (Two op i j) alike = refl
  op_value-renamed shapes before (Fix op i n m) alike = refl
  op_value-renamed shapes before (Mux c i j) alike = refl

  values-renamed : (shapes : List Shape) (before : List ℕ) (nodes : List Node) → NamesOnly IsAlike nodes → fold (with_node row shapes) before (renamed_line to nodes) ≡ fold (with_node mine shapes) before nodes
  values-renamed shapes before [] alike = refl
  values-renamed shapes before (node ∷ nodes) alike =
      ap (λ more. fold (with_node row shapes) (before ++ more ∷ []) (renamed_line to nodes)) (op_value-renamed shapes before node.op (λ s is. alike s (0, omega arith, is)))
      ∙ values-renamed shapes (with_node mine shapes before node) nodes (λ s named. alike s (further node.op (map (λ n. n.op) nodes) (Ref s) named))

  pub value-renamed : (line : List Node) → NamesOnly IsAlike line → line_value row (renamed_line to line) ≡ line_value mine line
  value-renamed line alike =
      ap₂ (λ shapes n. value_at (fold (with_node row shapes) [] (renamed_line to line)) (n - 1)) (shapes-renamed to line) (length-renamed to line)
      ∙ ap (λ values. value_at values (length line - 1)) (values-renamed (shapes_of line) [] line alike)

  pub connected-renamed : (sink : Shape) (line : List Node) → NamesOnly IsAlike line → connected_value row sink (renamed_line to line) ≡ connected_value mine sink line
  connected-renamed sink line alike = ap₂ (λ from value. extended from sink.width value) (shape-renamed to line) (value-renamed line alike)

  pub next-value : (sink : Shape) (next : Option (List Node)) (own : ℕ) → ((s : ℕ) → NextNames next s → IsAlike s) → connected_or row sink (renamed_next to next) own ≡ connected_or mine sink next own
  next-value sink None own alike = refl
  next-value sink (Some line) own alike = connected-renamed sink line alike

  pub reset-value : (sink : Shape) (reset : Option Reset) (other : ℕ) → ((s : ℕ) → ResetNames reset s → IsAlike s) → reset_or row sink (renamed_reset to reset) other ≡ reset_or mine sink reset other
  reset-value sink None other alike = refl
  reset-value sink (Some reset) other alike =
      ap₂ (λ condition init. if condition == 1 then init else other) (value-renamed reset.condition (λ s named. alike s (inl named))) (connected-renamed sink reset.init (λ s named. alike s (inr named)))

-- ---- 6. whether it is well formed

module _ (to : ℕ → ℕ) (Mine Other : ℕ → Shape → Type 0) where
  -- what is a signal of a shape under the old numbers is one of that shape under the new ones
  abbrev pub IsTypedThere : ℕ → Type 0
  IsTypedThere s = (sh : Shape) → Mine s sh → Other (to s) sh

  -- and the other way round
  abbrev pub IsTypedBack : ℕ → Type 0
  IsTypedBack s = (sh : Shape) → Other (to s) sh → Mine s sh

  op-there : (shapes : List Shape) (k : ℕ) (sh : Shape) (op : Op) → ((s : ℕ) → op ≡ Ref s → IsTypedThere s) → HasShape Mine shapes k sh op → HasShape Other shapes k sh (renamed_op to op)
  op-there shapes k sh (Ref s) typed is = typed s refl sh is
  op-there shapes k sh (Literal value) typed is = is
  op-there shapes k sh (One op i) typed is = is
  op-there shapes k sh (Two op i j) typed is = is
  op-there shapes k sh (Fix op i n m) typed is = is
  op-there shapes k sh (Mux c i j) typed is = is

  op-back : (shapes : List Shape) (k : ℕ) (sh : Shape) (op : Op) → ((s : ℕ) → op ≡ Ref s → IsTypedBack s) → HasShape Other shapes k sh (renamed_op to op) → HasShape Mine shapes k sh op
  op-back shapes k sh (Ref s) typed is = typed s refl sh is
  op-back shapes k sh (Literal value) typed is = is
  op-back shapes k sh (One op i) typed is = is
  op-back shapes k sh (Two op i j) typed is = is
  op-back shapes k sh (Fix op i n m) typed is = is
  op-back shapes k sh (Mux c i j) typed is = is

  named-at : (line : List Node) (k s : ℕ) → k < length line → op_at line k ≡ Ref s → Names line s
  named-at line k s lt at =
      let inside : k < length (map (λ (n : Node). n.op) line) = omega (arith, lt, length-map line (λ (n : Node). n.op)) in
      (k, inside, get_or_default (map (λ (n : Node). n.op) line) k (Ref s) (Ref 0) inside ∙ at)

  pub line-there : (line : List Node) → NamesOnly IsTypedThere line → IsLine Mine line → IsLine Other (renamed_line to line)
  line-there line typed is =
      record {
        some = (let low = is.some in omega (arith, low, length-renamed to line));
        typed = λ k lt.
            let inside : k < length line = omega (arith, lt, length-renamed to line) in
            subst (λ shapes. HasShape Other shapes k (shape_at shapes k) (op_at (renamed_line to line) k)) (sym (shapes-renamed to line))
            (subst (HasShape Other (shapes_of line) k (shape_at (shapes_of line) k)) (sym (op-at-renamed to line k inside))
            (op-there (shapes_of line) k (shape_at (shapes_of line) k) (op_at line k) (λ s at. typed s (named-at line k s inside at)) (is.typed k inside)));
      }

  pub line-back : (line : List Node) → NamesOnly IsTypedBack line → IsLine Other (renamed_line to line) → IsLine Mine line
  line-back line typed is =
      record {
        some = (let low = is.some in omega (arith, low, length-renamed to line));
        typed = λ k lt.
            op-back (shapes_of line) k (shape_at (shapes_of line) k) (op_at line k) (λ s at. typed s (named-at line k s lt at))
            (subst (λ (shapes : List Shape). HasShape Other shapes k (shape_at shapes k) (renamed_op to (op_at line k))) (shapes-renamed to line)
            (subst (HasShape Other (shapes_of (renamed_line to line)) k (shape_at (shapes_of (renamed_line to line)) k)) (op-at-renamed to line k lt)
            (is.typed k (omega (arith, lt, length-renamed to line)))));
      }

  pub source-there : (sink : Shape) (line : List Node) → NamesOnly IsTypedThere line → IsSource Mine sink line → IsSource Other sink (renamed_line to line)
  source-there sink line typed is =
      record {
        line = line-there line typed is.line;
        kind = ap (λ (sh : Shape). sh.kind) (shape-renamed to line) ∙ is.kind;
        width = subst (λ (sh : Shape). sh.width ≤ sink.width) (sym (shape-renamed to line)) is.width;
      }

  pub source-back : (sink : Shape) (line : List Node) → NamesOnly IsTypedBack line → IsSource Other sink (renamed_line to line) → IsSource Mine sink line
  source-back sink line typed is =
      record {
        line = line-back line typed is.line;
        kind = ap (λ (sh : Shape). sh.kind) (sym (shape-renamed to line)) ∙ is.kind;
        width = subst (λ (sh : Shape). sh.width ≤ sink.width) (shape-renamed to line) is.width;
      }

  pub condition-there : (line : List Node) → NamesOnly IsTypedThere line → IsCondition Mine line → IsCondition Other (renamed_line to line)
  condition-there line typed is = record { line = line-there line typed is.line; bit = shape-renamed to line ∙ is.bit }

  pub condition-back : (line : List Node) → NamesOnly IsTypedBack line → IsCondition Other (renamed_line to line) → IsCondition Mine line
  condition-back line typed is = record { line = line-back line typed is.line; bit = sym (shape-renamed to line) ∙ is.bit }

  pub next-there : (sink : Shape) (next : Option (List Node)) → ((s : ℕ) → NextNames next s → IsTypedThere s) → MatchOption next ⊤ (IsSource Mine sink) → MatchOption (renamed_next to next) ⊤ (IsSource Other sink)
  next-there sink None typed is = is
  next-there sink (Some line) typed is = source-there sink line typed is

  pub next-back : (sink : Shape) (next : Option (List Node)) → ((s : ℕ) → NextNames next s → IsTypedBack s) → MatchOption (renamed_next to next) ⊤ (IsSource Other sink) → MatchOption next ⊤ (IsSource Mine sink)
  next-back sink None typed is = is
  next-back sink (Some line) typed is = source-back sink line typed is

  pub reset-there : (sink : Shape) (reset : Option Reset) → ((s : ℕ) → ResetNames reset s → IsTypedThere s) → MatchOption reset ⊤ (IsReset Mine sink) → MatchOption (renamed_reset to reset) ⊤ (IsReset Other sink)
  reset-there sink None typed is = is
  reset-there sink (Some reset) typed is =
      record { condition = condition-there reset.condition (λ s named. typed s (inl named)) is.condition; init = source-there sink reset.init (λ s named. typed s (inr named)) is.init }

  pub reset-back : (sink : Shape) (reset : Option Reset) → ((s : ℕ) → ResetNames reset s → IsTypedBack s) → MatchOption (renamed_reset to reset) ⊤ (IsReset Other sink) → MatchOption reset ⊤ (IsReset Mine sink)
  reset-back sink None typed is = is
  reset-back sink (Some reset) typed is =
      record { condition = condition-back reset.condition (λ s named. typed s (inl named)) is.condition; init = source-back sink reset.init (λ s named. typed s (inr named)) is.init }
