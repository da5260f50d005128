-- The column of a pipe: what it begins with, and then the values of its channel.
use Rattle.std.proofs.Common.{◌≡◌, Bool, ℕ, zero, suc, ◌<◌, ◌≤◌, List, [], ◌∷◌, ◌++◌, length, drop, replicate, take, get_or, refl, sym, ◌⊎◌, inl, inr, if◌then◌else◌, ◌∙◌, ap, ap₂, subst, length-take, arith}
use Rattle.std.proofs.lemmas.List.{get_or-map, get_or-take, length-map}
use Rattle.std.proofs.lemmas.Bool.{cases_lt}
use Rattle.std.proofs.lemmas.Grind.{same_number_lists}
use Rattle.gg_bits.specs.Shape.{Shape, shape, Fits}
use Rattle.gg_flat.specs.declared.piece.Register.{Register}
use Rattle.gg_flat.specs.declared.piece.Driver.TheVariants.{Held}
use Rattle.gg_flat.specs.Line.{value_at, shape_at}
use Rattle.gg_flat.specs.Circuit.{FlatCircuit, signal_shapes, driver_at}
use Rattle.gg_flat.specs.Clock.{edges_at, ticks}
use Rattle.gg_flat.specs.State.{State, next_register, taken_value, reset_or, connected_or}
use Rattle.gg_flat.specs.Settled.{driver_value}
use Rattle.gg_flat.specs.Run.{Start, state_at, row_at, inputs_at, column, later, since}
use Rattle.gg_flat.proofs.AdvanceLemmas.{length-next_registers, next_registers-at}
use Rattle.gg_flat.proofs.ListLemmas.{some-item}
use Rattle.gg_order.proofs.RunsLemmas.SinceLemmas.{row-dropped, since-add, since-next, since-self}
use Rattle.gg_cut_plan.specs.Solves.{AreRows}
use Rattle.gg_cut_reference.specs.inside.Reference.{IsPipeRegister}
use Rattle.gg_cut_plan.proofs.SameLemmas.{bare-value}

-- signal g is the register r, which takes signal c
pub record IsPipe (circuit : FlatCircuit) (g r c : ℕ) : Type 0 where
  pub known : g < length circuit.signals
  pub driver : driver_at circuit g ≡ Held r
  pub register : r < length circuit.registers
  pub from : c < length circuit.signals
  pub sink : Shape
  pub is : (any : Register) → IsPipeRegister (get_or circuit.registers r any) sink c
  pub shape_is : shape_at (signal_shapes circuit) c ≡ sink

-- ---- a list that comes a cycle later

pub shifted-low : (c t : ℕ) (xs : List ℕ) → t < c → get_or (replicate c 0 ++ xs) t 0 ≡ 0
shifted-low zero t xs lt = absurd (omega (arith, lt))
shifted-low (suc c) zero xs lt = refl
shifted-low (suc c) (suc t) xs lt = shifted-low c t xs (omega (arith, lt))

pub shifted-here : (c token : ℕ) (xs : List ℕ) → get_or (replicate c 0 ++ token ∷ xs) c 0 ≡ token
shifted-here zero token xs = refl
shifted-here (suc c) token xs = shifted-here c token xs

shifted-none : (c token t : ℕ) → c ≤ t → get_or (replicate c 0 ++ token ∷ drop c []) (suc t) 0 ≡ 0
shifted-none zero token t le = refl
shifted-none (suc c) token zero le = absurd (omega (arith, le))
shifted-none (suc c) token (suc t) le = ap (λ (l : List ℕ). get_or (replicate c 0 ++ token ∷ l) (suc t) 0) (sym (drop-none c)) ∙ shifted-none c token t (omega (arith, le))
  where
    drop-none : (c : ℕ) → drop {A = ℕ} c [] ≡ []
    drop-none zero = refl
    drop-none (suc c) = refl

pub shifted-high : (c token t : ℕ) (xs : List ℕ) → c ≤ t → get_or (replicate c 0 ++ token ∷ drop c xs) (suc t) 0 ≡ get_or xs t 0
shifted-high zero token t xs le = refl
shifted-high (suc c) token zero xs le = absurd (omega (arith, le))
shifted-high (suc c) token (suc t) [] le = shifted-none (suc c) token (suc t) le
shifted-high (suc c) token (suc t) (x ∷ xs) le = shifted-high c token t xs (omega (arith, le))

pub shifted-length : (c token : ℕ) (xs : List ℕ) → c ≤ length xs → length (replicate c 0 ++ token ∷ drop c xs) ≡ suc (length xs)
shifted-length zero token xs le = refl
shifted-length (suc c) token [] le = absurd (omega (arith, le))
shifted-length (suc c) token (x ∷ xs) le = ap suc (shifted-length c token xs (omega (arith, le)))

pub since-less : (c t e : ℕ) → c ≤ t → t < e → since c t < since c e
since-less c t e le lt = omega (arith, since-add c t le, since-add c e (omega (arith, le, lt)), lt)

module _ (circuit : FlatCircuit) (g r c : ℕ) (pipe : IsPipe circuit g r c) (start : Start) (counted : length start.state.registers ≡ length circuit.registers) (columns : List (List ℕ)) (end : ℕ) (rows : List (List ℕ)) (all : AreRows circuit start columns end rows) where
  abbrev state : ℕ → State
  state k = state_at circuit start (drop start.cycle rows) k

  counts : (k : ℕ) → length (state_at circuit start (drop start.cycle rows) k).registers ≡ length circuit.registers
  counts zero = counted
  counts (suc k) = length-next_registers (edges_at start.ratios (later start.cycle k)) (row_at (drop start.cycle rows) k) circuit.registers (state_at circuit start (drop start.cycle rows) k).registers (counts k)

  -- the register in each cycle
  row-value : (t : ℕ) → start.cycle ≤ t → t < end → value_at (row_at rows t) g ≡ value_at (state_at circuit start (drop start.cycle rows) (since start.cycle t)).registers r
  row-value t le lt =
      let k = since start.cycle t in
      ap (λ (row : List ℕ). value_at row g) (sym (row-dropped start.cycle t rows le))
      ∙ (all.run.settled k (since-less start.cycle t end le lt)).driven g pipe.known
      ∙ ap (driver_value (state_at circuit start (drop start.cycle rows) k) (inputs_at columns (later start.cycle k)) (row_at (drop start.cycle rows) k) (shape_at (signal_shapes circuit) g)) pipe.driver

  next-value : (edges : List Bool) (row : List ℕ) (own : ℕ) (register : Register) → IsPipeRegister register pipe.sink c → Fits pipe.sink (value_at row c) → next_register edges row register own ≡ value_at row c
  next-value edges row own register is fits =
      ap (λ clock. if ticks edges clock then taken_value row register own else own) is.clock
      ∙ ap₂ (λ reset next. reset_or row (shape register.ty) reset (connected_or row (shape register.ty) next own)) is.reset is.next
      ∙ bare-value row (shape register.ty) is.node c is.op (ap (λ (s : Shape). s.width) (is.wide ∙ sym is.type)) (subst (λ s. Fits s (value_at row c)) (sym is.type) fits)

  pub after : (t : ℕ) → start.cycle ≤ t → t < end → value_at (state_at circuit start (drop start.cycle rows) (suc (since start.cycle t))).registers r ≡ value_at (row_at rows t) c
  after t le lt =
      let k = since start.cycle t in
      let row = row_at (drop start.cycle rows) k in
      let own = state_at circuit start (drop start.cycle rows) k in
      let edges = edges_at start.ratios (later start.cycle k) in
      let some = some-item circuit.registers r pipe.register in
      let typed = (all.run.settled k (since-less start.cycle t end le lt)).typed in
      next_registers-at edges row circuit.registers own.registers r some (counts k) pipe.register
      ∙ next-value edges row (value_at own.registers r) (get_or circuit.registers r some) (pipe.is some)
      (subst (λ s. Fits s (value_at row c)) pipe.shape_is (typed.fits c (let low = pipe.from in omega (arith, low, length-map circuit.signals (λ signal. shape signal.ty)))))
      ∙ ap (λ (l : List ℕ). value_at l c) (row-dropped start.cycle t rows le)

  high : (s : ℕ) → length (column rows s) ≡ end
  high s = length-map rows (λ row. value_at row s) ∙ all.count

  at : (s t : ℕ) → t < end → value_at (column rows s) t ≡ value_at (row_at rows t) s
  at s t lt = get_or-map (λ row. value_at row s) rows t [] 0 (omega (arith, lt, all.count))

  -- the pipe's token, and then the values of its channel
  abbrev stream : List ℕ
  stream = replicate start.cycle 0 ++ value_at start.state.registers r ∷ drop start.cycle (column rows c)

  value-from : (t : ℕ) → start.cycle < t → t < end → value_at (row_at rows t) g ≡ value_at stream t
  value-from zero le lt = absurd (omega (arith, le))
  value-from (suc t) le lt =
      let low : start.cycle ≤ t = omega (arith, le) in
      row-value (suc t) (omega (arith, le)) lt
      ∙ ap (λ k. value_at (state_at circuit start (drop start.cycle rows) k).registers r) (since-next start.cycle t low)
      ∙ after t low (omega (arith, lt)) ∙ sym (at c t (omega (arith, lt))) ∙ sym (shifted-high start.cycle (value_at start.state.registers r) t (column rows c) low)

  value : (t : ℕ) → t < end → value_at (row_at rows t) g ≡ value_at stream t
  value t lt = by (cases_lt t start.cycle) (cases_lt start.cycle t)
    where
      here : t ≡ start.cycle → value_at (row_at rows t) g ≡ value_at stream t
      here e =
          let low : start.cycle ≤ t = omega (arith, e) in
          let none : since start.cycle t ≡ 0 = ap (since start.cycle) e ∙ since-self start.cycle in
          row-value t low lt
          ∙ ap (λ k. value_at (state_at circuit start (drop start.cycle rows) k).registers r) none
          ∙ sym (shifted-here start.cycle (value_at start.state.registers r) (drop start.cycle (column rows c))) ∙ ap (value_at stream) (sym e)

      by : (t < start.cycle) ⊎ (start.cycle ≤ t) → (start.cycle < t) ⊎ (t ≤ start.cycle) → value_at (row_at rows t) g ≡ value_at stream t
      by (inl low) other = all.before t g low ∙ sym (shifted-low start.cycle t (value_at start.state.registers r ∷ drop start.cycle (column rows c)) low)
      by (inr not_low) (inl more) = value-from t more lt
      by (inr not_low) (inr not_more) = here (omega (arith, not_low, not_more))

  pub pipe-column : column rows g ≡ take end stream
  pipe-column =
      same_number_lists (column rows g) (take end stream) (high g ∙ sym (long)) each
    where
      long : length (take end stream) ≡ end
      long = length-take end stream ∙ (let h = high c in let le = all.begun in omega (arith, h, shifted-length start.cycle (value_at start.state.registers r) (column rows c) (omega (arith, h, le))))

      each : (t : ℕ) → t < length (column rows g) → value_at (column rows g) t ≡ value_at (take end stream) t
      each t inside =
          let lt : t < end = omega (arith, inside, high g) in
          at g t lt ∙ value t lt ∙ sym (get_or-take end stream t 0 lt)
