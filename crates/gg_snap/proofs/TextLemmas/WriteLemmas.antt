-- A text that grows by the lines of a row, or of an address.
use Rattle.std.proofs.Common.{◌≡◌, ℕ, zero, suc, ◌+◌, ◌<◌, List, [], ◌∷◌, ◌++◌, length, map, take, get_or, sym, ap, ◌∙◌, arith}
use Rattle.std.specs.List.{concat, flat_map, range_with_len}
use Rattle.std.proofs.lemmas.List.{append-nil, get_or-map, take_more}
use Rattle.std.proofs.lemmas.List.Concat.{flat_map-append, flat_map_single}
use Rattle.std.proofs.lemmas.List.Folds.{concat-append}
use Rattle.gg_bits.specs.Shape.{Shape, shape}
use Rattle.gg_flat.specs.declared.memory.Memory.{Memory}
use Rattle.gg_flat.specs.declared.piece.Driver.{Driver}
use Rattle.gg_flat.specs.declared.piece.Driver.TheVariants.{Input}
use Rattle.gg_flat.specs.declared.piece.Signal.{Signal}
use Rattle.gg_flat.specs.Circuit.{FlatCircuit, driver_at, signal_shapes}
use Rattle.gg_flat.specs.Line.{shape_at, value_at}
use Rattle.gg_flat.specs.State.{State}
use Rattle.gg_flat_tree.specs.Tree.{InstanceTree, memory_at, path_at}
use Rattle.gg_snap.specs.declared.text.row.At.TheVariants.{Words}
use Rattle.gg_snap.specs.declared.text.row.Kind.TheVariants as kind
use Rattle.gg_snap.specs.text.Table.{memory_row}
use Rattle.gg_snap.specs.declared.text.row.Row.{Row}
use Rattle.gg_snap.specs.text.Lines.{row_lines, value_lines}

range-last : (a n : ℕ) → range_with_len a (suc n) ≡ range_with_len a n ++ (a + n) ∷ []
range-last a zero = let e : a ≡ a + 0 = omega arith in ap (λ x. x ∷ []) e
range-last a (suc n) =
    let e : (a + 1) + n ≡ a + suc n = omega arith in
    ap (λ l. a ∷ l) (range-last (a + 1) n ∙ ap (λ x. range_with_len (a + 1) n ++ x ∷ []) e)

pub row-more : (f : ℕ → List (List ℕ)) (n : ℕ) → concat (flat_map f (range_with_len 0 (n + 1))) ≡ concat (flat_map f (range_with_len 0 n)) ++ concat (f n)
row-more f n =
    let e : n + 1 ≡ suc n = omega arith in
    let z : 0 + n ≡ n = omega arith in
    ap (λ k. concat (flat_map f (range_with_len 0 k))) e
    ∙ ap (λ l. concat (flat_map f l)) (range-last 0 n ∙ ap (λ x. range_with_len 0 n ++ x ∷ []) z)
    ∙ ap concat (flat_map-append f (range_with_len 0 n) (n ∷ []) ∙ ap (λ l. flat_map f (range_with_len 0 n) ++ l) (append-nil (f n)))
    ∙ concat-append (flat_map f (range_with_len 0 n)) (f n)

pub rows-more : (s : State) (rows : List Row) (i : ℕ) (any : Row) → i < length rows → concat (value_lines s (take (i + 1) rows)) ≡ concat (value_lines s (take i rows)) ++ concat (row_lines s (get_or rows i any))
rows-more s rows i any lt =
    ap (λ l. concat (value_lines s l)) (take_more rows i any lt)
    ∙ ap concat (flat_map-append (row_lines s) (take i rows) (get_or rows i any ∷ []) ∙ ap (λ l. value_lines s (take i rows) ++ l) (append-nil (row_lines s (get_or rows i any))))
    ∙ concat-append (value_lines s (take i rows)) (row_lines s (get_or rows i any))

-- ---- rows that are added one by one

pub range-more : {A : Type 0} (f : ℕ → List A) (n : ℕ) → flat_map f (range_with_len 0 (n + 1)) ≡ flat_map f (range_with_len 0 n) ++ f n
range-more f n =
    let e : n + 1 ≡ suc n = omega arith in
    let z : 0 + n ≡ n = omega arith in
    ap (λ k. flat_map f (range_with_len 0 k)) e
    ∙ ap (flat_map f) (range-last 0 n ∙ ap (λ x. range_with_len 0 n ++ x ∷ []) z)
    ∙ flat_map-append f (range_with_len 0 n) (n ∷ []) ∙ ap (λ l. flat_map f (range_with_len 0 n) ++ l) (append-nil (f n))

pub map-more : {A : Type 0} (f : ℕ → A) (n : ℕ) → map f (range_with_len 0 (n + 1)) ≡ map f (range_with_len 0 n) ++ f n ∷ []
map-more f n =
    sym (flat_map_single f (range_with_len 0 (n + 1))) ∙ range-more (λ x. f x ∷ []) n ∙ ap (λ l. l ++ f n ∷ []) (flat_map_single f (range_with_len 0 n))

-- the row of one more signal
pub signals-more : (row : List ℕ → ℕ → Driver → List Row) (circuit : FlatCircuit) (s : ℕ) (rows more : List Row) (path : List ℕ) (signals : List Signal) (any signal : Signal) → signals ≡ circuit.signals → signal ≡ get_or signals s any → s < length circuit.signals
    → path ≡ path_at circuit.paths s → rows ≡ flat_map (λ s. row (path_at circuit.paths s) (shape_at (signal_shapes circuit) s).width (driver_at circuit s)) (range_with_len 0 s) → more ≡ rows ++ row path signal.ty.width signal.driver
    → more ≡ flat_map (λ s. row (path_at circuit.paths s) (shape_at (signal_shapes circuit) s).width (driver_at circuit s)) (range_with_len 0 (s + 1))
signals-more row circuit s rows more path signals any signal all at lt named before pushed =
    let f : ℕ → List Row = λ s. row (path_at circuit.paths s) (shape_at (signal_shapes circuit) s).width (driver_at circuit s) in
    let here : signal ≡ get_or circuit.signals s any = at ∙ ap (λ (l : List Signal). get_or l s any) all in
    let width : signal.ty.width ≡ (shape_at (signal_shapes circuit) s).width = ap (λ (x : Signal). x.ty.width) here ∙ sym (ap (λ (h : Shape). h.width) (get_or-map (λ (x : Signal). shape x.ty) circuit.signals s any (record { kind = _; width = 0 }) lt)) in
    let driver : signal.driver ≡ driver_at circuit s = ap (λ (x : Signal). x.driver) here ∙ sym (get_or-map (λ (x : Signal). x.driver) circuit.signals s any (Input 0) lt) in
    pushed
    ∙ ap (λ l. rows ++ l) (ap (λ p. row p signal.ty.width signal.driver) named ∙ ap (λ w. row (path_at circuit.paths s) w signal.driver) width ∙ ap (row (path_at circuit.paths s) (shape_at (signal_shapes circuit) s).width) driver)
    ∙ ap (λ l. l ++ f s) before ∙ sym (range-more f s)

-- the row of one more memory
pub memories-more : (circuit : FlatCircuit) (tree : InstanceTree) (place m : ℕ) (rows more : List Row) (path : List ℕ) (memories : List Memory) (any memory : Memory) → memories ≡ circuit.memories → memory ≡ get_or memories m any → m < length circuit.memories → m ≡ (memory_at tree place).memory
    → path ≡ path_at tree.memory_paths place → rows ≡ map (λ place. memory_row circuit (path_at tree.memory_paths place) (memory_at tree place).memory) (range_with_len 0 place) → more ≡ rows ++ record { kind = kind.Memory; path = path; width = memory.word.width; count = memory.depth; at = Words m } ∷ []
    → more ≡ map (λ place. memory_row circuit (path_at tree.memory_paths place) (memory_at tree place).memory) (range_with_len 0 (place + 1))
memories-more circuit tree place m rows more path memories any memory all at lt is named before pushed =
    let f : ℕ → Row = λ place. memory_row circuit (path_at tree.memory_paths place) (memory_at tree place).memory in
    let here : memory ≡ get_or circuit.memories m any = at ∙ ap (λ (l : List Memory). get_or l m any) all in
    let width : memory.word.width ≡ (shape_at (map (λ memory. shape memory.word) circuit.memories) m).width = ap (λ (x : Memory). x.word.width) here ∙ sym (ap (λ (h : Shape). h.width) (get_or-map (λ (x : Memory). shape x.word) circuit.memories m any (record { kind = _; width = 0 }) lt)) in
    let depth : memory.depth ≡ value_at (map (λ memory. memory.depth) circuit.memories) m = ap (λ (x : Memory). x.depth) here ∙ sym (get_or-map (λ (x : Memory). x.depth) circuit.memories m any 0 lt) in
    let row : record { kind = kind.Memory; path = path; width = memory.word.width; count = memory.depth; at = Words m } ≡ f place =
    ap (λ p. record { kind = kind.Memory; path = p; width = memory.word.width; count = memory.depth; at = Words m }) named
    ∙ ap (λ w. record { kind = kind.Memory; path = path_at tree.memory_paths place; width = w; count = memory.depth; at = Words m }) width
    ∙ ap (λ n. record { kind = kind.Memory; path = path_at tree.memory_paths place; width = (shape_at (map (λ memory. shape memory.word) circuit.memories) m).width; count = n; at = Words m }) depth
    ∙ ap (λ k. memory_row circuit (path_at tree.memory_paths place) k) is in
    pushed ∙ ap (λ r. rows ++ r ∷ []) row ∙ ap (λ l. l ++ f place ∷ []) before ∙ sym (map-more f place)
