-- Running the instructions of a line gives its value.
use Rattle.std.proofs.Common.{◌≡◌, ◌≢◌, ℕ, zero, suc, ◌<◌, ◌≤◌, ◌+◌, ◌-◌, ◌^◌, List, [], ◌∷◌, length, take, drop, set, get_or, refl, sym, ◌∙◌, ap, ap₂, subst, arith, below_more}
use Rattle.std.specs.Prelude.{Ok}
use Rattle.std.proofs.lemmas.List.{get_or-take, get_or-set_same, get_or-set_other, take-set-le, length-set, length-take-le, drop_more, drop_all}
use Rattle.gg_bits.specs.Shape.{Shape, Fits}
use Rattle.gg_bits.specs.Meaning.{value1, value2, value_const, value_mux}
use Rattle.gg_bits.specs.ResultType.{type1, type2, type_const, shape_mux}
use Rattle.gg_flat.specs.declared.line.Node.{Node}
use Rattle.gg_flat.specs.declared.line.Op.{Op}
use Rattle.gg_flat.specs.declared.line.Op.TheVariants.{Ref, Literal, One, Two, Fix, Mux}
use Rattle.gg_flat.specs.Line.{shape_at, value_at, shapes_of, op_at, HasShape, IsLine, op_value, line_shape, line_value}
use Rattle.gg_flat.specs.inside.Line.{HasValue}
use Rattle.gg_flat.proofs.LineLemmas.{HoldsNodes, HoldsNodes-none, HoldsNodes-more, HoldsNodes-value, HoldsNodes-fits}
use Rattle.gg_tape.specs.declared.small.Small.{Small}
use Rattle.gg_tape.specs.declared.instruction.Operation.{Operation}
use Rattle.gg_tape.specs.declared.instruction.Operation.TheVariants.{Take, Constant, Apply1, Apply2, ApplyConst, Choose}
use Rattle.gg_tape.specs.declared.instruction.Instruction.{Instruction}
use Rattle.gg_tape.specs.inside.Instruction.{small, IsOperand, given, CanDo}
use Rattle.gg_tape.specs.inside.Told.{IsRef, cell_by, cell_of, IsOf, DoesOp, IsNext, Told, CanRun}
use Rattle.gg_tape.proofs.TypeLemmas.{mux-is}

-- The cells of signals have the values `signals`, and there is room for the nodes behind them.
pub record Stands (nodes : List Node) (n : ℕ) (signals cells : List ℕ) : Type 0 where
  pub same : take n cells ≡ signals
  pub count : length signals ≡ n
  pub room : n + length nodes ≤ length cells

read-signal : (nodes : List Node) (n : ℕ) (signals cells : List ℕ) → Stands nodes n signals cells → (s : ℕ) → s < n → value_at cells s ≡ value_at signals s
read-signal nodes n signals cells stands s lt = sym (get_or-take n cells s 0 lt) ∙ ap (λ values. value_at values s) stands.same

-- The values of the nodes before place k are in their cells.
pub record Known (nodes : List Node) (n : ℕ) (signals cells : List ℕ) (k last : ℕ) : Type 0 where
  pub before : List ℕ
  pub holds : HoldsNodes nodes signals k last before
  pub cells_are : (j : ℕ) → j < k → value_at cells (cell_of nodes n j) ≡ value_at before j

pub Known-none : (nodes : List Node) (n : ℕ) (signals cells : List ℕ) → Stands nodes n signals cells → Known nodes n signals cells 0 0
Known-none nodes n signals cells stands =
    record { before = cells; holds = HoldsNodes-none nodes signals 0 cells (omega (arith, stands.room)); cells_are = λ j lt. absurd (omega arith) }

-- ---- operands

-- the cell of a node that is typed is there
cell-within : (nodes : List Node) (n : ℕ) (signals cells : List ℕ) (j : ℕ) (to : Shape) (op : Op) → Stands nodes n signals cells → j < length nodes → HasShape (HasValue signals) (shapes_of nodes) j to op → cell_by n j op < length cells
cell-within nodes n signals cells j to (Ref s) stands lt has = omega (arith, has.0, stands.count, stands.room, lt)
cell-within nodes n signals cells j to (Literal value) stands lt has = omega (arith, stands.room, lt)
cell-within nodes n signals cells j to (One op i) stands lt has = omega (arith, stands.room, lt)
cell-within nodes n signals cells j to (Two op i k) stands lt has = omega (arith, stands.room, lt)
cell-within nodes n signals cells j to (Fix op i p q) stands lt has = omega (arith, stands.room, lt)
cell-within nodes n signals cells j to (Mux c i k) stands lt has = omega (arith, stands.room, lt)

-- What is in the cell of an earlier node.
record IsRead (cells before : List ℕ) (shape : Shape) (j number : ℕ) : Type 0 where
  within : number < length cells
  value : value_at cells number ≡ value_at before j
  fits : Fits shape (value_at cells number)

read-node : (nodes : List Node) (n : ℕ) (signals cells : List ℕ) (k last j number : ℕ) → IsLine (HasValue signals) nodes → k < length nodes → Stands nodes n signals cells → (known : Known nodes n signals cells k last) → j < k → number ≡ cell_of nodes n j → IsRead cells known.before (shape_at (shapes_of nodes) j) j number
read-node nodes n signals cells k last j number line within stands known lt is =
    let value : value_at cells number ≡ value_at known.before j = ap (value_at cells) is ∙ known.cells_are j lt in
    let there : cell_of nodes n j < length cells = cell-within nodes n signals cells j (shape_at (shapes_of nodes) j) (op_at nodes j) stands (omega (arith, lt, within)) (line.typed j (omega (arith, lt, within))) in
    record {
      within = subst (λ x. x < length cells) (sym is) there;
      value = value;
      fits = subst (Fits (shape_at (shapes_of nodes) j)) (sym value) (known.holds.fits j lt);
    }

-- The same with the type that an instruction has for it.
record IsReadAs (cells before : List ℕ) (shape : Shape) (j number : ℕ) (ty : Small) : Type 0 where
  operand : IsOperand cells ty number
  value : value_at cells number ≡ value_at before j
  shape_is : small ty ≡ shape

read-as : (nodes : List Node) (n : ℕ) (signals cells : List ℕ) (k last j number : ℕ) (ty : Small) → IsLine (HasValue signals) nodes → k < length nodes → Stands nodes n signals cells → (known : Known nodes n signals cells k last) → j < k → IsOf nodes n j number ty → IsReadAs cells known.before (shape_at (shapes_of nodes) j) j number ty
read-as nodes n signals cells k last j number ty line within stands known lt of =
    let read = read-node nodes n signals cells k last j number line within stands known lt of.0 in
    record { operand = (read.within, subst (λ s. Fits s (value_at cells number)) (sym of.1) read.fits); value = read.value; shape_is = of.1 }

-- ---- what an instruction gives

-- An instruction can be done, and gives what the node's operation does.
record IsRight (literals cells before signals : List ℕ) (shapes : List Shape) (i : Instruction) (op : Op) : Type 0 where
  can : CanDo literals cells i i.operation
  gives : given literals cells i i.operation ≡ op_value signals shapes before op

right-by : (literals cells before signals : List ℕ) (shapes : List Shape) (i : Instruction) (op : Op) (operation : Operation) → i.operation ≡ operation → CanDo literals cells i operation → given literals cells i operation ≡ op_value signals shapes before op → IsRight literals cells before signals shapes i op
right-by literals cells before signals shapes i op operation is can gives =
    record { can = subst (CanDo literals cells i) (sym is) can; gives = ap (given literals cells i) is ∙ gives }

does-right : (nodes : List Node) (n : ℕ) (literals signals cells : List ℕ) (k last : ℕ) (i : Instruction) (op : Op) → IsLine (HasValue signals) nodes → k < length nodes → Stands nodes n signals cells → (known : Known nodes n signals cells k last) → small i.ty ≡ shape_at (shapes_of nodes) k → HasShape (HasValue signals) (shapes_of nodes) k (shape_at (shapes_of nodes) k) op → DoesOp nodes n literals i op → IsRight literals cells known.before signals (shapes_of nodes) i op
does-right nodes n literals signals cells k last i (Ref s) line within stands known ty has does =
    let value : value_at cells i.first ≡ value_at signals s = ap (value_at cells) does.1 ∙ read-signal nodes n signals cells stands s (omega (arith, has.0, stands.count)) in
    let there : i.first < length cells = omega (arith, does.1, has.0, stands.count, stands.room) in
    right-by literals cells known.before signals (shapes_of nodes) i (Ref s) Take does.0 (there, subst (Fits (small i.ty)) (sym value) (subst (λ t. Fits t (value_at signals s)) (sym ty) has.1)) value
does-right nodes n literals signals cells k last i (Literal literal) line within stands known ty has does =
    right-by literals cells known.before signals (shapes_of nodes) i (Literal literal) Constant does.0 (does.1, subst (Fits (small i.ty)) (sym does.2) (subst (λ t. Fits t literal.0) (sym ty) has)) does.2
does-right nodes n literals signals cells k last i (One op x) line within stands known ty has does =
    let a = read-as nodes n signals cells k last x i.first i.first_ty line within stands known has.0 does.1 in
    right-by literals cells known.before signals (shapes_of nodes) i (One op x) (Apply1 op) does.0 (a.operand, ap (type1 op) a.shape_is ∙ has.1 ∙ ap Ok (sym ty)) (ap₂ (value1 op) a.shape_is a.value)
does-right nodes n literals signals cells k last i (Two op x y) line within stands known ty has does =
    let a = read-as nodes n signals cells k last x i.first i.first_ty line within stands known has.0 does.1 in
    let b = read-as nodes n signals cells k last y i.second i.second_ty line within stands known has.1 does.2 in
    right-by literals cells known.before signals (shapes_of nodes) i (Two op x y) (Apply2 op) does.0 (a.operand, b.operand, ap₂ (type2 op) a.shape_is b.shape_is ∙ has.2 ∙ ap Ok (sym ty))
    (ap₂ (λ s v. value2 op s v (small i.second_ty) (value_at cells i.second)) a.shape_is a.value
    ∙ ap₂ (value2 op (shape_at (shapes_of nodes) x) (value_at known.before x)) b.shape_is b.value)
does-right nodes n literals signals cells k last i (Fix op x p q) line within stands known ty has does =
    let a = read-as nodes n signals cells k last x i.first i.first_ty line within stands known has.0 does.1 in
    right-by literals cells known.before signals (shapes_of nodes) i (Fix op x p q) (ApplyConst op) does.0
    (a.operand, ap (λ s. type_const op s i.second i.third) a.shape_is ∙ ap₂ (type_const op (shape_at (shapes_of nodes) x)) does.2 does.3 ∙ has.1 ∙ ap Ok (sym ty))
    (ap₂ (λ s v. value_const op s v i.second i.third) a.shape_is a.value ∙ ap₂ (value_const op (shape_at (shapes_of nodes) x) (value_at known.before x)) does.2 does.3)
does-right nodes n literals signals cells k last i (Mux c x y) line within stands known ty has does =
    let z = read-node nodes n signals cells k last c i.third line within stands known has.0 does.3 in
    let a = read-as nodes n signals cells k last x i.first i.first_ty line within stands known has.1 does.1 in
    let b = read-as nodes n signals cells k last y i.second i.second_ty line within stands known has.2 does.2 in
    let mux = mux-is (shape_at (shapes_of nodes) c) (shape_at (shapes_of nodes) x) (shape_at (shapes_of nodes) y) (shape_at (shapes_of nodes) k) has.3 in
    let kinds : i.first_ty.kind ≡ i.second_ty.kind = ap (λ s. s.kind) a.shape_is ∙ mux.kinds ∙ sym (ap (λ s. s.kind) b.shape_is) in
    right-by literals cells known.before signals (shapes_of nodes) i (Mux c x y) Choose does.0
    (a.operand, b.operand, z.within, subst (λ w. value_at cells i.third < 2 ^ w) mux.condition z.fits, kinds, ap₂ shape_mux a.shape_is b.shape_is ∙ mux.shape ∙ sym ty)
    (ap (λ v. value_mux v (small i.first_ty) (value_at cells i.first) (small i.second_ty) (value_at cells i.second)) z.value
    ∙ ap₂ (λ s v. value_mux (value_at known.before c) s v (small i.second_ty) (value_at cells i.second)) a.shape_is a.value
    ∙ ap₂ (value_mux (value_at known.before c) (shape_at (shapes_of nodes) x) (value_at known.before x)) b.shape_is b.value)

-- ---- one node more

-- a reference needs no instruction
Known-ref : (nodes : List Node) (n : ℕ) (signals cells : List ℕ) (k last : ℕ) → IsLine (HasValue signals) nodes → k < length nodes → Stands nodes n signals cells → Known nodes n signals cells k last → IsRef (op_at nodes k) → (now : ℕ) × Known nodes n signals cells (k + 1) now
Known-ref nodes n signals cells k last line within stands known ref =
    let s = ref.0 in
    let v = value_at signals s in
    let has : HasValue signals s (shape_at (shapes_of nodes) k) = subst (HasShape (HasValue signals) (shapes_of nodes) k (shape_at (shapes_of nodes) k)) ref.1 (line.typed k within) in
    let is : v ≡ op_value signals (shapes_of nodes) known.before (op_at nodes k) = sym (ap (op_value signals (shapes_of nodes) known.before) ref.1) in
    let long : k < length known.before = omega (arith, within, known.holds.room) in
    let cell : cell_of nodes n k ≡ s = ap (cell_by n k) ref.1 in (
      v,
      record {
        before = set known.before k v;
        holds = HoldsNodes-more nodes signals k last known.before v within (line.typed k within) known.holds is has.1;
        cells_are =
            below_more (λ j. value_at cells (cell_of nodes n j) ≡ value_at (set known.before k v) j) k
            (λ j lt. let other : j ≢ k = omega arith in known.cells_are j lt ∙ sym (get_or-set_other known.before k j v 0 other))
            (ap (value_at cells) cell ∙ read-signal nodes n signals cells stands s (omega (arith, has.0, stands.count)) ∙ sym (get_or-set_same known.before k v 0 long));
      },
    )

-- so do several
Known-refs : (d : ℕ) (nodes : List Node) (n : ℕ) (signals cells : List ℕ) (i k last : ℕ) → k ≡ d + i → IsLine (HasValue signals) nodes → k ≤ length nodes → Stands nodes n signals cells → Known nodes n signals cells i last → ((j : ℕ) → i ≤ j → j < k → IsRef (op_at nodes j)) → (now : ℕ) × Known nodes n signals cells k now
Known-refs zero nodes n signals cells i k last far line within stands known refs =
    let same : i ≡ k = omega (arith, far) in
    (last, subst (λ (x : ℕ). Known nodes n signals cells x last) same known)
Known-refs (suc d) nodes n signals cells i k last far line within stands known refs =
    let more = Known-ref nodes n signals cells i last line (omega (arith, far, within)) stands known (refs i (omega arith) (omega (arith, far))) in
    Known-refs d nodes n signals cells (i + 1) k more.0 (omega (arith, far)) line within stands more.1 (λ j from lt. refs j (omega (arith, from)) lt)

-- ---- the loop

-- Some instructions were run, and the others tell the rest. `now` is the value of the last node so far.
pub record Runs (nodes : List Node) (n : ℕ) (literals signals cells : List ℕ) (rest : List Instruction) (now : ℕ) : Type 0 where
  pub node : ℕ
  pub last : ℕ
  pub stands : Stands nodes n signals cells
  pub known : Known nodes n signals cells node last
  pub told : Told nodes n literals node rest
  pub value : 0 < node → now ≡ last

pub Runs-begin : (nodes : List Node) (n : ℕ) (literals cells : List ℕ) (instructions : List Instruction) (value : ℕ) → CanRun nodes n literals instructions cells → Runs nodes n literals (take n cells) cells instructions value
Runs-begin nodes n literals cells instructions value can =
    let stands : Stands nodes n (take n cells) cells = record { same = refl; count = length-take-le n cells (omega (arith, can.room)); room = can.room } in
    record { node = 0; last = 0; stands = stands; known = Known-none nodes n (take n cells) cells stands; told = can.told; value = λ some. absurd (omega arith) }

-- What the next instruction asks for, and what is so after it.
pub record IsRun (nodes : List Node) (n : ℕ) (literals signals cells : List ℕ) (i : Instruction) (rest : List Instruction) : Type 0 where
  pub can : CanDo literals cells i i.operation
  pub within : i.cell < length cells
  pub after : (value : ℕ) → value ≡ given literals cells i i.operation → Fits (small i.ty) value → Runs nodes n literals signals (set cells i.cell value) rest value

-- the cells behind a write to the cell of node k
Known-written : (nodes : List Node) (n : ℕ) (signals cells : List ℕ) (k last value : ℕ) → IsLine (HasValue signals) nodes → k < length nodes → Stands nodes n signals cells → (known : Known nodes n signals cells k last) → value ≡ op_value signals (shapes_of nodes) known.before (op_at nodes k) → Fits (shape_at (shapes_of nodes) k) value → Known nodes n signals (set cells (n + k) value) (k + 1) value
Known-written nodes n signals cells k last value line within stands known is fits =
    let long : k < length known.before = omega (arith, within, known.holds.room) in
    let there : n + k < length cells = omega (arith, within, stands.room) in
    record {
      before = set known.before k value;
      holds = HoldsNodes-more nodes signals k last known.before value within (line.typed k within) known.holds is fits;
      cells_are =
          below_more (λ j. value_at (set cells (n + k) value) (cell_of nodes n j) ≡ value_at (set known.before k value) j) k
          (λ j lt.
          let other : j ≢ k = omega arith in
          get_or-set_other cells (n + k) (cell_of nodes n j) value 0 (cell-other n j k (shape_at (shapes_of nodes) j) (op_at nodes j) signals (shapes_of nodes) stands.count lt (line.typed j (omega (arith, lt, within))))
          ∙ known.cells_are j lt
          ∙ sym (get_or-set_other known.before k j value 0 other))
          (here (op_at nodes k) (line.typed k within) is ∙ sym (get_or-set_same known.before k value 0 long));
    }
  where
    cell-other : (n j k : ℕ) (to : Shape) (op : Op) (signals : List ℕ) (shapes : List Shape) → length signals ≡ n → j < k → HasShape (HasValue signals) shapes j to op → cell_by n j op ≢ n + k
    cell-other n j k to (Ref s) signals shapes count lt has = let before : s < n + k = omega (arith, has.0, count) in λ same. absurd (omega (arith, same, before))
    cell-other n j k to (Literal value) signals shapes count lt has = λ same. absurd (omega (arith, same, lt))
    cell-other n j k to (One op x) signals shapes count lt has = λ same. absurd (omega (arith, same, lt))
    cell-other n j k to (Two op x y) signals shapes count lt has = λ same. absurd (omega (arith, same, lt))
    cell-other n j k to (Fix op x p q) signals shapes count lt has = λ same. absurd (omega (arith, same, lt))
    cell-other n j k to (Mux c x y) signals shapes count lt has = λ same. absurd (omega (arith, same, lt))

    here : (op : Op) → HasShape (HasValue signals) (shapes_of nodes) k (shape_at (shapes_of nodes) k) op → value ≡ op_value signals (shapes_of nodes) known.before op → value_at (set cells (n + k) value) (cell_by n k op) ≡ value
    here (Ref s) has is =
        let before : s ≢ n + k = omega (arith, has.0, stands.count) in
        get_or-set_other cells (n + k) s value 0 before ∙ read-signal nodes n signals cells stands s (omega (arith, has.0, stands.count)) ∙ sym is
    here (Literal literal) has is = get_or-set_same cells (n + k) value 0 (omega (arith, within, stands.room))
    here (One op x) has is = get_or-set_same cells (n + k) value 0 (omega (arith, within, stands.room))
    here (Two op x y) has is = get_or-set_same cells (n + k) value 0 (omega (arith, within, stands.room))
    here (Fix op x p q) has is = get_or-set_same cells (n + k) value 0 (omega (arith, within, stands.room))
    here (Mux c x y) has is = get_or-set_same cells (n + k) value 0 (omega (arith, within, stands.room))

pub Runs-next : (nodes : List Node) (n : ℕ) (literals signals cells : List ℕ) (i : Instruction) (rest : List Instruction) (old : ℕ) → IsLine (HasValue signals) nodes → Runs nodes n literals signals cells (i ∷ rest) old → IsRun nodes n literals signals cells i rest
Runs-next nodes n literals signals cells i rest old line runs =
    let k = runs.told.0 in
    let next : IsNext nodes n literals runs.node k i = runs.told.1 in
    let behind : Told nodes n literals (k + 1) rest = runs.told.2 in
    let far : k ≡ k - runs.node + runs.node = omega (arith, next.from) in
    let stands = runs.stands in
    let here = Known-refs (k - runs.node) nodes n signals cells runs.node k runs.last far line (omega (arith, next.within)) stands runs.known next.between in
    let right = does-right nodes n literals signals cells k here.0 i (op_at nodes k) line next.within stands here.1 next.does.ty (line.typed k next.within) next.does.op in
    record {
      can = right.can;
      within = omega (arith, next.does.cell, next.within, stands.room);
      after = λ value is fits.
          let known = Known-written nodes n signals cells k here.0 value line next.within stands here.1 (is ∙ right.gives) (subst (λ s. Fits s value) next.does.ty fits) in
          let cell = sym next.does.cell in
          record {
            node = k + 1;
            last = value;
            stands = record {
              same = take-set-le n cells i.cell value (omega (arith, next.does.cell)) ∙ stands.same;
              count = stands.count;
              room = subst (λ c. n + length nodes ≤ c) (sym (length-set cells i.cell value)) stands.room;
            };
            known = subst (λ (c : ℕ). Known nodes n signals (set cells c value) (k + 1) value) cell known;
            told = behind;
            value = λ some. refl;
          };
    }

-- at the end the value is the line's
pub Runs-value : (nodes : List Node) (n : ℕ) (literals signals cells : List ℕ) (value : ℕ) → IsLine (HasValue signals) nodes → Runs nodes n literals signals cells [] value → (value ≡ line_value signals nodes) × Fits (line_shape nodes) value
Runs-value nodes n literals signals cells value line runs =
    let end : runs.node ≡ length nodes = runs.told in
    let is : value ≡ runs.last = runs.value (omega (arith, end, line.some)) in (
      is ∙ HoldsNodes-value nodes signals runs.node runs.last runs.known.before end line.some runs.known.holds,
      subst (Fits (line_shape nodes)) (sym is) (HoldsNodes-fits nodes signals runs.node runs.last runs.known.before end line.some runs.known.holds),
    )

-- ---- all nodes that the instructions tell

-- Some instructions were run: so for each line that they tell, from these cells on.
pub record IsRunning (n : ℕ) (literals : List ℕ) (instructions : List Instruction) (first : List ℕ) (i : ℕ) (cells : List ℕ) (value : ℕ) : Type 0 where
  pub runs : (nodes : List Node) → CanRun nodes n literals instructions first → Runs nodes n literals (take n first) cells (drop i instructions) value
  pub count : length cells ≡ length first
  pub same : take n cells ≡ take n first

pub IsRunning-none : (n : ℕ) (literals : List ℕ) (instructions : List Instruction) (first : List ℕ) (value : ℕ) → IsRunning n literals instructions first 0 first value
IsRunning-none n literals instructions first value =
    record { runs = λ nodes can. Runs-begin nodes n literals first instructions value can; count = refl; same = refl }

-- what the instruction at place i asks for, for one line that they tell
pub IsRunning-next : (n : ℕ) (literals : List ℕ) (instructions : List Instruction) (first : List ℕ) (i : ℕ) (cells : List ℕ) (value : ℕ) (instruction : Instruction) (nodes : List Node) → i < length instructions → instruction ≡ get_or instructions i instruction → CanRun nodes n literals instructions first → IsRunning n literals instructions first i cells value → IsRun nodes n literals (take n first) cells instruction (drop (i + 1) instructions)
IsRunning-next n literals instructions first i cells value instruction nodes lt is can running =
    let rest : drop i instructions ≡ instruction ∷ drop (i + 1) instructions = drop_more instructions i instruction lt ∙ ap (λ x. x ∷ drop (i + 1) instructions) (sym is) in
    Runs-next nodes n literals (take n first) cells instruction (drop (i + 1) instructions) value can.line
    (subst (λ (xs : List Instruction). Runs nodes n literals (take n first) cells xs value) rest (running.runs nodes can))

pub IsRunning-more : (n : ℕ) (literals : List ℕ) (instructions : List Instruction) (first : List ℕ) (i : ℕ) (cells : List ℕ) (old value : ℕ) (instruction : Instruction) (some : (nodes : List Node) × CanRun nodes n literals instructions first) → i < length instructions → instruction ≡ get_or instructions i instruction → value ≡ given literals cells instruction instruction.operation → Fits (small instruction.ty) value → IsRunning n literals instructions first i cells old → IsRunning n literals instructions first (i + 1) (set cells instruction.cell value) value
IsRunning-more n literals instructions first i cells old value instruction some lt is gives fits running =
    let next : (nodes : List Node) → CanRun nodes n literals instructions first → Runs nodes n literals (take n first) (set cells instruction.cell value) (drop (i + 1) instructions) value = λ nodes can.
    (IsRunning-next n literals instructions first i cells old instruction nodes lt is can running).after value gives fits in
    record {
      runs = next;
      count = length-set cells instruction.cell value ∙ running.count;
      same = (next some.0 some.1).stands.same;
    }

-- at the end the value is that of each line that they tell
pub IsRunning-value : (n : ℕ) (literals : List ℕ) (instructions : List Instruction) (first : List ℕ) (i : ℕ) (cells : List ℕ) (value : ℕ) (nodes : List Node) → length instructions ≤ i → CanRun nodes n literals instructions first → IsRunning n literals instructions first i cells value → (value ≡ line_value (take n first) nodes) × Fits (line_shape nodes) value
IsRunning-value n literals instructions first i cells value nodes end can running =
    Runs-value nodes n literals (take n first) cells value can.line
    (subst (λ (xs : List Instruction). Runs nodes n literals (take n first) cells xs value) (drop_all i instructions end) (running.runs nodes can))
