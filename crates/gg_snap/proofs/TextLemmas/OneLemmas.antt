-- Two states with the same lines are one.
use Rattle.std.proofs.Common.{◌≡◌, ℕ, zero, suc, ◌+◌, ◌<◌, ◌≤◌, ◌^◌, List, [], ◌∷◌, ◌++◌, length, map, take, drop, get_or, codes, decimal, Some, None, Option, Bool, true, false, cond, refl, sym, ap, ap₂, ◌∙◌, subst, arith, inl, inr, ◌⊎◌}
use Rattle.std.specs.Prelude.{⊤, All, ◌==◌}
use Rattle.std.specs.List.{flat_map, range_with_len}
use Rattle.std.proofs.lemmas.Bool.Decides.{nat_tests}
use Rattle.std.proofs.lemmas.Bool.{cases_lt}
use Rattle.std.proofs.lemmas.List.{append_cancel_left, append_cancel_right, get_or-map, get_or_default, length-map, same_lists, take-take}
use Rattle.std.proofs.lemmas.List.Elements.{All-head, All-tail, All-weaker}
use Rattle.gg_bits.specs.Shape.{shape}
use Rattle.gg_trace.specs.Cells.{hexadecimal}
use Rattle.gg_trace.specs.Printing.{hex_digits, digit_count}
use Rattle.gg_trace.proofs.PrintLaws.{printed_value}
use Rattle.gg_flat.specs.declared.memory.Latency.{Latency}
use Rattle.gg_flat.specs.declared.memory.Latency.TheVariants.{Zero, One}
use Rattle.gg_flat.specs.declared.memory.Memory.{Memory}
use Rattle.gg_flat.specs.declared.piece.Driver.TheVariants.{Held, ReadRegister}
use Rattle.gg_flat.specs.WellFormed.{IsWellFormed, reader_driver}
use Rattle.gg_flat.proofs.ListLemmas.{some-item}
use Rattle.gg_flat.proofs.TypedLemmas.{has-reader}
use Rattle.gg_bits.specs.Limits.{cycle_limit}
use Rattle.gg_flat.specs.Circuit.{FlatCircuit, driver_at, latency_at, reader_at, readers_at, signal_shapes}
use Rattle.gg_flat.specs.Line.{shape_at, value_at}
use Rattle.gg_flat.specs.Memory.{Bank, bank_at, read_count}
use Rattle.gg_flat.specs.State.{IsState, State}
use Rattle.gg_flat_tree.specs.Tree.{InstanceTree, memory_at, path_at}
use Rattle.gg_snap.specs.declared.text.row.At.TheVariants.{Register, Read}
use Rattle.gg_snap.specs.declared.text.row.Kind.TheVariants as kind
use Rattle.gg_snap.specs.declared.text.row.Row.{Row}
use Rattle.gg_snap.specs.text.Known.{AreKnown, CanSave, IsKnown}
use Rattle.gg_snap.specs.inside.TextWhole.{IsWhole}
use Rattle.gg_snap.specs.text.Table.{by_path, channel_of, memory_row, memory_rows, pipe_named, pipe_row, pipe_rows, read_row, read_rows, register_named, register_row, register_rows, rows_of}
use Rattle.gg_snap.specs.text.Lines.{address_text, cycle_line, head_of, line_of, snap_lines, tail_of, value_lines, value_of}
use Rattle.gg_snap.specs.text.Standing.{CanStand, IsFirstFault, IsSnap, Lacks, Stops, pieces}
use Rattle.gg_snap.proofs.TextLemmas.FeedLemmas.{IsPlainRow, snap-begins, snap-pieces}
use Rattle.gg_snap.proofs.TextLemmas.PlainLemmas.{rows-plain}
use Rattle.gg_snap.proofs.TextLemmas.TableLemmas.{word-known}
use Rattle.gg_snap.specs.inside.Places.{Place, places, places_from}
use Rattle.gg_snap.proofs.TextLemmas.ItemLemmas.{AllApart, Are, Item, Off, On, first-text, none-else, texts}
use Rattle.gg_snap.proofs.TextLemmas.DraftLemmas.{fit-places}
use Rattle.gg_snap.proofs.TextLemmas.LineLemmas.{places-two, same-decimal}
use Rattle.gg_snap.proofs.TextLemmas.SortLemmas.{Among, in-by_path}
use Rattle.gg_snap.proofs.TextLemmas.PlaceLemmas.{all-apart, AreFit, AreSame, are-items, items, lines-of-rows, lines-texts, value_at_place}

-- ---- items with the same lines are the same

items-same : (ps : List Place) (xs ys : List Item) → Are ps xs → Are ps ys → AllApart ps → texts xs ≡ texts ys → xs ≡ ys
items-same [] [] [] a b apart e = refl
items-same [] [] (y ∷ ys) a b apart e = absurd b
items-same [] (x ∷ xs) ys a b apart e = absurd a
items-same (p ∷ ps) [] ys a b apart e = absurd a
items-same (p ∷ ps) (Off ∷ xs) [] a b apart e = absurd b
items-same (p ∷ ps) (On l ∷ xs) [] a b apart e = absurd b
items-same (p ∷ ps) (Off ∷ xs) (Off ∷ ys) a b apart e = ap (λ zs. Off ∷ zs) (items-same ps xs ys a b apart.1 e)
items-same (p ∷ ps) (Off ∷ xs) (On m ∷ ys) a b apart e = absurd (none-else p ps m apart.0 b.0 (first-text ps xs m (texts ys) a e))
items-same (p ∷ ps) (On l ∷ xs) (Off ∷ ys) a b apart e = absurd (none-else p ps l apart.0 a.0 (first-text ps ys l (texts xs) b (sym e)))
items-same (p ∷ ps) (On l ∷ xs) (On m ∷ ys) a b apart e =
    ap₂ (λ t zs. On t ∷ zs) (ap (λ (ls : List (List ℕ)). get_or ls 0 []) e) (items-same ps xs ys a.1 b.1 apart.1 (ap (λ (ls : List (List ℕ)). drop 1 ls) e))

-- ---- the same values

-- a line has one value
line-once : (row : Row) (a v w : ℕ) → 0 < row.width → v < 2 ^ row.width → w < 2 ^ row.width → line_of row a v ≡ line_of row a w → v ≡ w
line-once row a v w some low high e =
    sym (printed_value row.width v some low).1 ∙ ap hexadecimal digits ∙ (printed_value row.width w some high).1
  where
    tails : hex_digits (digit_count row.width) v ++ 10 ∷ [] ≡ hex_digits (digit_count row.width) w ++ 10 ∷ []
    tails = append_cancel_left (address_text row.at a) _ _ (append_cancel_left (head_of row) (tail_of row a v) (tail_of row a w) e)

    digits : hex_digits (digit_count row.width) v ≡ hex_digits (digit_count row.width) w
    digits = append_cancel_right (hex_digits (digit_count row.width) v) (hex_digits (digit_count row.width) w) (10 ∷ []) tails

line-in : Item → List ℕ
line-in Off = []
line-in (On l) = l

value-once : (p : Place) (v w : ℕ) (b c : Bool) → (v == 0) ≡ b → (w == 0) ≡ c → 0 < p.row.width → v < 2 ^ p.row.width → w < 2 ^ p.row.width → cond b Off (On (line_of p.row p.address v)) ≡ cond c Off (On (line_of p.row p.address w)) → v ≡ w
unfolding line-in
value-once p v w true true e f some low high same = let ev : v ≡ 0 = grind (arith, nat_tests) in let ew : w ≡ 0 = grind (arith, nat_tests) in ev ∙ sym ew
value-once p v w true false e f some low high same = cc
value-once p v w false true e f some low high same = cc
value-once p v w false false e f some low high same = line-once p.row p.address v w some low high (ap line-in same)

-- each place has some width
abbrev AreWide : List Place → Type 0
AreWide [] = ⊤
AreWide (p ∷ ps) = (0 < p.row.width) × AreWide ps

wide-from : (row : Row) (a n : ℕ) → 0 < row.width → (rest : List Place) → AreWide rest → AreWide (places_from row a n ++ rest)
wide-from row a zero some rest wide = wide
wide-from row a (suc n) some rest wide = (some, wide-from row (a + 1) n some rest wide)

wide-places : (circuit : FlatCircuit) (rows : List Row) → All (IsKnown circuit) rows → AreWide (places rows)
wide-places circuit [] known = tt
wide-places circuit (row ∷ rows) known = wide-from row 0 row.count (All-head (IsKnown circuit) row rows known).some (places rows) (wide-places circuit rows (All-tail (IsKnown circuit) row rows known))

values-same : (s t : State) (ps : List Place) → AreWide ps → AreFit s ps → AreFit t ps → items s ps ≡ items t ps → AreSame s t ps
values-same s t [] wide low high e = tt
values-same s t (p ∷ ps) wide low high e = (
  value-once p (value_at_place s p) (value_at_place t p) (value_at_place s p == 0) (value_at_place t p == 0) refl refl wide.0 low.0 high.0 (ap (λ (xs : List Item). get_or xs 0 Off) e),
  values-same s t ps wide.1 low.1 high.1 (ap (λ (xs : List Item). drop 1 xs) e),
)

pub same-values : (circuit : FlatCircuit) (rows : List Row) (s t : State) → AreKnown circuit rows → IsState circuit s → IsState circuit t → value_lines s rows ≡ value_lines t rows → AreSame s t (places rows)
same-values circuit rows s t known typed other e =
    let low = fit-places circuit s typed rows known.each in
    let high = fit-places circuit t other rows known.each in
    values-same s t (places rows) (wide-places circuit rows known.each) low high
    (items-same (places rows) (items s (places rows)) (items t (places rows)) (are-items s (places rows) low) (are-items t (places rows) high) (all-apart (places rows) (places-two circuit rows known.each known.differ))
    (sym (lines-of-rows s rows ∙ lines-texts s (places rows)) ∙ e ∙ (lines-of-rows t rows ∙ lines-texts t (places rows))))

-- ---- each value has a row

same-front : (s t : State) (ps qs : List Place) → AreSame s t (ps ++ qs) → AreSame s t ps
same-front s t [] qs same = tt
same-front s t (p ∷ ps) qs same = (same.0, same-front s t ps qs same.1)

same-behind : (s t : State) (ps qs : List Place) → AreSame s t (ps ++ qs) → AreSame s t qs
same-behind s t [] qs same = same
same-behind s t (p ∷ ps) qs same = same-behind s t ps qs same.1

same-from : (s t : State) (row : Row) (a n k : ℕ) → AreSame s t (places_from row a n) → k < n → value_of s row.at (a + k) ≡ value_of t row.at (a + k)
same-from s t row a zero k same lt = absurd (omega (arith, lt))
same-from s t row a (suc n) zero same lt =
    let e : a + 0 ≡ a = omega arith in
    subst (λ b. value_of s row.at b ≡ value_of t row.at b) (sym e) same.0
same-from s t row a (suc n) (suc k) same lt =
    let e : (a + 1) + k ≡ a + suc k = omega arith in
    subst (λ b. value_of s row.at b ≡ value_of t row.at b) e (same-from s t row (a + 1) n k same.1 (omega (arith, lt)))

same-at : (s t : State) (rows : List Row) (row : Row) (k : ℕ) → AreSame s t (places rows) → Among row rows → k < row.count → value_of s row.at k ≡ value_of t row.at k
same-at s t [] row k same among lt = absurd among
same-at s t (r ∷ rows) row k same (inl e) lt =
    subst (λ (x : Row). value_of s x.at k ≡ value_of t x.at k) (sym e)
    (let z : 0 + k ≡ k = omega arith in
    subst (λ b. value_of s r.at b ≡ value_of t r.at b) z (same-from s t r 0 r.count k (same-front s t (places_from r 0 r.count) (places rows) same) (subst (λ (x : Row). k < x.count) e lt)))
same-at s t (r ∷ rows) row k same (inr among) lt = same-at s t rows row k (same-behind s t (places_from r 0 r.count) (places rows) same) among lt

among-left : (row : Row) (xs ys : List Row) → Among row xs → Among row (xs ++ ys)
among-left row [] ys among = absurd among
among-left row (x ∷ xs) ys (inl e) = inl e
among-left row (x ∷ xs) ys (inr among) = inr (among-left row xs ys among)

among-right : (row : Row) (xs ys : List Row) → Among row ys → Among row (xs ++ ys)
among-right row [] ys among = among
among-right row (x ∷ xs) ys among = inr (among-right row xs ys among)

flat-among : (f : ℕ → List Row) (a n k : ℕ) (row : Row) → k < n → Among row (f (a + k)) → Among row (flat_map f (range_with_len a n))
flat-among f a zero k row lt among = absurd (omega (arith, lt))
flat-among f a (suc n) zero row lt among =
    let e : a + 0 ≡ a = omega arith in
    among-left row (f a) (flat_map f (range_with_len (a + 1) n)) (subst (λ b. Among row (f b)) e among)
flat-among f a (suc n) (suc k) row lt among =
    let e : a + suc k ≡ (a + 1) + k = omega arith in
    among-right row (f a) (flat_map f (range_with_len (a + 1) n)) (flat-among f (a + 1) n k row (omega (arith, lt)) (subst (λ b. Among row (f b)) e among))

map-among : (f : ℕ → Row) (a n k : ℕ) → k < n → Among (f (a + k)) (map f (range_with_len a n))
map-among f a zero k lt = absurd (omega (arith, lt))
map-among f a (suc n) zero lt = let e : a + 0 ≡ a = omega arith in inl (ap f e)
map-among f a (suc n) (suc k) lt =
    let e : (a + 1) + k ≡ a + suc k = omega arith in
    inr (subst (λ b. Among (f b) (map f (range_with_len (a + 1) n))) e (map-among f (a + 1) n k (omega (arith, lt))))

-- ---- two states with the same value in each row

module _ (circuit : FlatCircuit) (tree : InstanceTree) (formed : IsWellFormed circuit) (whole : IsWhole circuit tree) (s t : State) (low : IsState circuit s) (high : IsState circuit t) (same : AreSame s t (places (rows_of circuit tree))) where
  abbrev registers : List Row
  registers = by_path (register_rows circuit)

  abbrev reads : List Row
  reads = by_path (read_rows circuit)

  abbrev pipes : List Row
  pipes = by_path (pipe_rows circuit)

  abbrev memories : List Row
  memories = by_path (memory_rows circuit tree)

  in-registers : (row : Row) → Among row (register_rows circuit) → Among row (rows_of circuit tree)
  in-registers row among = among-left row registers (reads ++ (pipes ++ memories)) (in-by_path (register_rows circuit) row among)

  in-reads : (row : Row) → Among row (read_rows circuit) → Among row (rows_of circuit tree)
  in-reads row among = among-right row registers (reads ++ (pipes ++ memories)) (among-left row reads (pipes ++ memories) (in-by_path (read_rows circuit) row among))

  in-pipes : (row : Row) → Among row (pipe_rows circuit) → Among row (rows_of circuit tree)
  in-pipes row among = among-right row registers (reads ++ (pipes ++ memories)) (among-right row reads (pipes ++ memories) (among-left row pipes memories (in-by_path (pipe_rows circuit) row among)))

  in-memories : (row : Row) → Among row (memory_rows circuit tree) → Among row (rows_of circuit tree)
  in-memories row among = among-right row registers (reads ++ (pipes ++ memories)) (among-right row reads (pipes ++ memories) (among-right row pipes memories (in-by_path (memory_rows circuit tree) row among)))

  of-signal : (f : ℕ → List Row) (k : ℕ) (row : Row) → k < length circuit.signals → Among row (f k) → Among row (flat_map f (range_with_len 0 (length circuit.signals)))
  of-signal f k row lt among = let e : k ≡ 0 + k = omega arith in flat-among f 0 (length circuit.signals) k row lt (subst (λ b. Among row (f b)) e among)

  -- a register's value, whether or not it is a pipe's
  by-name : (k r : ℕ) (c : Option (List ℕ)) → k < length circuit.signals → driver_at circuit k ≡ Held r → channel_of (path_at circuit.paths k) ≡ c → value_at s.registers r ≡ value_at t.registers r
  by-name k r None lt holds own =
      let width = (shape_at (signal_shapes circuit) k).width in
      let path = path_at circuit.paths k in
      let row : Row = record { kind = kind.Register; path = path; width = width; count = 1; at = Register r } in
      same-at s t (rows_of circuit tree) row 0 same
      (in-registers row (of-signal (λ k. register_row (path_at circuit.paths k) (shape_at (signal_shapes circuit) k).width (driver_at circuit k)) k row lt
      (subst (λ d. Among row (register_row path width d)) (sym holds) (subst (λ c. Among row (register_named path width r c)) (sym own) (inl refl)))))
      (omega arith)
  by-name k r (Some channel) lt holds own =
      let width = (shape_at (signal_shapes circuit) k).width in
      let path = path_at circuit.paths k in
      let row : Row = record { kind = kind.Pipe; path = channel; width = width; count = 1; at = Register r } in
      same-at s t (rows_of circuit tree) row 0 same
      (in-pipes row (of-signal (λ k. pipe_row (path_at circuit.paths k) (shape_at (signal_shapes circuit) k).width (driver_at circuit k)) k row lt
      (subst (λ d. Among row (pipe_row path width d)) (sym holds) (subst (λ c. Among row (pipe_named width r c)) (sym own) (inl refl)))))
      (omega arith)

  same-register : (r : ℕ) → r < length circuit.registers → value_at s.registers r ≡ value_at t.registers r
  same-register r lt = let holder = whole.registers r lt in by-name holder.signal r (channel_of (path_at circuit.paths holder.signal)) holder.known holder.holds refl

  -- the values of a memory's readers
  read-by : (m r : ℕ) (latency : Latency) → m < length circuit.memories → latency_at circuit m ≡ latency → r < read_count latency (readers_at circuit m) → value_at (bank_at s.banks m).reads r ≡ value_at (bank_at t.banks m).reads r
  read-by m r Zero lt late inside = absurd (omega (arith, inside))
  read-by m r (One under) lt late inside =
      let k = (reader_at (readers_at circuit m) r).word in
      let has = has-reader circuit m r k formed (inside, refl) in
      let known : k < length circuit.signals = word-known circuit m r formed inside in
      let driver : driver_at circuit k ≡ ReadRegister m r = formed.reads m lt r inside ∙ ap (λ l. reader_driver l m r (reader_at (readers_at circuit m) r)) late in
      let width = (shape_at (signal_shapes circuit) k).width in
      let path = path_at circuit.paths k in
      let row : Row = record { kind = kind.Read; path = path; width = width; count = 1; at = Read m r } in
      same-at s t (rows_of circuit tree) row 0 same
      (in-reads row (of-signal (λ k. read_row (path_at circuit.paths k) (shape_at (signal_shapes circuit) k).width (driver_at circuit k)) k row known
      (subst (λ d. Among row (read_row path width d)) (sym driver) (inl refl))))
      (omega arith)

  -- the words of a memory
  same-word : (m a : ℕ) → m < length circuit.memories → a < value_at (map (λ memory. memory.depth) circuit.memories) m → value_at (bank_at s.banks m).words a ≡ value_at (bank_at t.banks m).words a
  same-word m a lt low =
      let held = whole.memories m lt in
      let place = held.place in
      let f : ℕ → Row = λ place. memory_row circuit (path_at tree.memory_paths place) (memory_at tree place).memory in
      let z : 0 + place ≡ place = omega arith in
      let among : Among (f place) (memory_rows circuit tree) = subst (λ b. Among (f b) (memory_rows circuit tree)) z (map-among f 0 (length tree.memories) place held.known) in
      let row : Row = memory_row circuit (path_at tree.memory_paths place) m in
      same-at s t (rows_of circuit tree) row a same (in-memories row (subst (λ n. Among (memory_row circuit (path_at tree.memory_paths place) n) (memory_rows circuit tree)) held.is among)) low

  same-list : (xs ys : List ℕ) (n : ℕ) → length xs ≡ n → length ys ≡ n → ((k : ℕ) → k < n → value_at xs k ≡ value_at ys k) → xs ≡ ys
  same-list xs ys n a b each =
      same_lists xs ys (a ∙ sym b) (λ k d lt.
      let in_xs : k < n = omega (arith, lt, a) in
      let in_ys : k < length ys = omega (arith, lt, a, b) in
      get_or_default xs k d 0 lt ∙ each k in_xs ∙ sym (get_or_default ys k d 0 in_ys))

  same-bank : (m : ℕ) (any : Memory) → m < length circuit.memories → bank_at s.banks m ≡ bank_at t.banks m
  same-bank m any lt =
      let one = low.held.each m any lt in
      let other = high.held.each m any lt in
      let memory = get_or circuit.memories m any in
      let late : latency_at circuit m ≡ memory.latency = get_or-map (λ (k : Memory). k.latency) circuit.memories m any Zero lt in
      let readers : readers_at circuit m ≡ memory.readers = get_or-map (λ (k : Memory). k.readers) circuit.memories m any [] lt in
      let depth : value_at (map (λ memory. memory.depth) circuit.memories) m ≡ memory.depth = get_or-map (λ (k : Memory). k.depth) circuit.memories m any 0 lt in
      let words = same-list (bank_at s.banks m).words (bank_at t.banks m).words memory.depth one.words.count other.words.count (λ a low. same-word m a lt (omega (arith, low, depth))) in
      let counts : read_count memory.latency memory.readers ≡ read_count memory.latency (readers_at circuit m) = ap (λ l. read_count memory.latency l) (sym readers) in
      let values = same-list (bank_at s.banks m).reads (bank_at t.banks m).reads (read_count memory.latency memory.readers) one.reads.count other.reads.count (λ r inside. read-by m r memory.latency lt late (omega (arith, inside, counts))) in
      ap₂ (λ (w r : List ℕ). record { words = w; reads = r }) words values

  pub same-state : s ≡ t
  same-state =
      let registers = same-list s.registers t.registers (length circuit.registers) (low.typed.count ∙ length-map circuit.registers (λ register. shape register.ty)) (high.typed.count ∙ length-map circuit.registers (λ register. shape register.ty)) same-register in
      let counts : length s.banks ≡ length t.banks = low.held.count ∙ sym high.held.count in
      let banks = same_lists s.banks t.banks counts (λ k d lt.
      let inside : k < length circuit.memories = omega (arith, lt, low.held.count) in
      let there : k < length t.banks = omega (arith, lt, counts) in
      get_or_default s.banks k d (record { words = []; reads = [] }) lt ∙ same-bank k (some-item circuit.memories k inside) inside ∙ sym (get_or_default t.banks k d (record { words = []; reads = [] }) there)) in
      ap₂ (λ (r : List ℕ) (b : List Bank). record { registers = r; banks = b }) registers banks

-- ---- one snapshot

same-cycle : (a b : ℕ) → a ≤ cycle_limit → b ≤ cycle_limit → cycle_line a ≡ cycle_line b → a ≡ b
same-cycle a b low high e =
    same-decimal a b (omega (arith, low)) (omega (arith, high)) (append_cancel_right (decimal a) (decimal b) (10 ∷ []) (append_cancel_left (codes "cycle ") (decimal a ++ 10 ∷ []) (decimal b ++ 10 ∷ []) e))

-- a text is that of one cycle
pub one-cycle : (circuit : FlatCircuit) (tree : InstanceTree) (text : List ℕ) (c d : ℕ) (s t : State) → IsSnap circuit tree text c s → IsSnap circuit tree text d t → c ≡ d
one-cycle circuit tree text c d s t a b =
    let rows = rows_of circuit tree in
    same-cycle c d a.within b.within
    (ap (λ (l : List (List ℕ)). get_or l 1 []) (sym (snap-begins rows c s) ∙ ap pieces (sym a.is ∙ b.is) ∙ snap-begins rows d t))

-- and of one state
pub one-snap : (circuit : FlatCircuit) (tree : InstanceTree) (text : List ℕ) (c d : ℕ) (s t : State) → IsWellFormed circuit → IsWhole circuit tree → AreKnown circuit (rows_of circuit tree) → IsSnap circuit tree text c s → IsSnap circuit tree text d t → (c ≡ d) × (s ≡ t)
one-snap circuit tree text c d s t formed whole known a b =
    let rows = rows_of circuit tree in
    let plain = All-weaker (IsKnown circuit) IsPlainRow (λ row one. one.plain) rows known.each in
    let lines : snap_lines rows c s ≡ snap_lines rows d t = sym (snap-pieces rows c s plain) ∙ ap pieces (sym a.is ∙ b.is) ∙ snap-pieces rows d t plain in (
      one-cycle circuit tree text c d s t a b,
      same-state circuit tree formed whole s t a.typed b.typed (same-values circuit rows s t known a.typed b.typed (ap (λ (l : List (List ℕ)). drop 2 l) lines)),
    )

-- the text of a snapshot has no fault
pub no-fault : (circuit : FlatCircuit) (tree : InstanceTree) (text : List ℕ) (cycle line : ℕ) (s : State) → CanSave circuit tree → IsSnap circuit tree text cycle s → IsFirstFault circuit tree text line → ⊥
no-fault circuit tree text cycle line s can is = by
  where
    lines : pieces text ≡ snap_lines (rows_of circuit tree) cycle s
    lines = ap pieces is.is ∙ snap-pieces (rows_of circuit tree) cycle s (rows-plain circuit tree can)

    by : IsFirstFault circuit tree text line → ⊥
    by (Stops k e there before stops) =
        stops (record { cycle = cycle; state = s; within = is.within; typed = is.typed; there = omega (arith, there); enough = omega (arith, there, ap length lines); same = ap (take (suc k)) lines })
    by (Lacks e few before) = omega (arith, few, ap length lines)

-- ---- one fault

module _ (circuit : FlatCircuit) (tree : InstanceTree) (text : List ℕ) where
  -- fewer lines can stand where more can
  fewer : (k n : ℕ) → k ≤ n → CanStand circuit tree text n → CanStand circuit tree text k
  fewer k n le can =
      let rows = rows_of circuit tree in
      record {
        cycle = can.cycle;
        state = can.state;
        within = can.within;
        typed = can.typed;
        there = omega (arith, le, can.there);
        enough = omega (arith, le, can.enough);
        same = sym (take-take k n (pieces text) le) ∙ ap (take k) can.same ∙ take-take k n (snap_lines rows can.cycle can.state) le;
      }

  -- a text has one first fault
  pub one-fault : (line other : ℕ) → IsFirstFault circuit tree text line → IsFirstFault circuit tree text other → line ≡ other
  one-fault line other (Stops k e there before stops) (Stops j f inside still ends) = by (cases_lt k j) (cases_lt j k)
    where
      by : (k < j) ⊎ (j ≤ k) → (j < k) ⊎ (k ≤ j) → line ≡ other
      by (inl lt) any = absurd (stops (fewer (suc k) j (omega (arith, lt)) still))
      by (inr le) (inl lt) = absurd (ends (fewer (suc j) k (omega (arith, lt)) before))
      by (inr le) (inr ge) = omega (arith, e, f, le, ge)
  one-fault line other (Stops k e there before stops) (Lacks f few still) = absurd (stops (fewer (suc k) (length (pieces text)) (omega (arith, there)) still))
  one-fault line other (Lacks e few before) (Stops j f inside still ends) = absurd (ends (fewer (suc j) (length (pieces text)) (omega (arith, inside)) before))
  one-fault line other (Lacks e few before) (Lacks f few_too still) = e ∙ sym f
