-- The function makes a reference circuit.
use Rattle.std.proofs.Common.{◌≡◌, ℕ, zero, suc, ◌+◌, ◌<◌, List, [], ◌∷◌, ◌++◌, length, get_or, sym, ◌∙◌, ap, ap₂, subst, refl, arith}
use Rattle.std.specs.Prelude.{option_map, option_to_list}
use Rattle.std.proofs.lemmas.List.{get_or-map, get_or_append_left, get_or-append-add, length-append}
use Rattle.std.proofs.lemmas.Option.{slice_get-get_or}
use Rattle.gg_bits.specs.Shape.{Shape, shape, uint}
use Rattle.gg_flat.specs.declared.piece.Signal.{Signal}
use Rattle.gg_flat.specs.declared.piece.Register.{Register}
use Rattle.gg_flat.specs.declared.piece.Driver.{Driver}
use Rattle.gg_flat.specs.declared.piece.Driver.TheVariants.{Input}
use Rattle.gg_flat.specs.declared.line.Op.TheVariants.{Ref}
use Rattle.gg_flat.specs.Line.{value_at, shape_at}
use Rattle.gg_flat.specs.Circuit.{FlatCircuit, signal_shapes}
use Rattle.gg_flat.proofs.ListLemmas.{some-item}
use Rattle.gg_cut_reference.specs.Reference.{Views}
use Rattle.gg_cut_reference.specs.inside.Reference.{IsReference, IsPipeRegister}
use Rattle.gg_cut_reference.specs.Made.{seen_signal, pipe_signal, pipe_register, pipe_signals, pipe_registers, reference_of}
use Rattle.gg_flat.specs.Renaming.{renamed_driver, renamed_memory, renamed_register, signals_by}
use Rattle.gg_bits.specs.Lists.{by_number}

-- ---- items by number

pub length-by : {A B : Type 0} (f : ℕ → A → B) (n : ℕ) (xs : List A) → length (by_number f n xs) ≡ length xs
length-by f n [] = refl
length-by f n (x ∷ xs) = ap suc (length-by f (suc n) xs)

at-by : {A B : Type 0} (f : ℕ → A → B) (n : ℕ) (xs : List A) (i : ℕ) (any : A) (other : B) → i < length xs → get_or (by_number f n xs) i other ≡ f (n + i) (get_or xs i any)
at-by f n [] i any other lt = absurd (omega (arith, lt))
at-by f n (x ∷ xs) zero any other lt = ap (λ k. f k x) (let same : n ≡ n + 0 = omega arith in same)
at-by f n (x ∷ xs) (suc i) any other lt = at-by f (suc n) xs i any other (omega (arith, lt)) ∙ ap (λ k. f k (get_or xs i any)) (let same : suc n + i ≡ n + suc i = omega arith in same)

at-first : {A B : Type 0} (f : ℕ → A → B) (xs : List A) (i : ℕ) (any : A) (other : B) → i < length xs → get_or (by_number f 0 xs) i other ≡ f i (get_or xs i any)
at-first f xs i any other lt = at-by f 0 xs i any other lt ∙ ap (λ k. f k (get_or xs i any)) (let same : 0 + i ≡ i = omega arith in same)

-- ---- pipes

-- these are signals of the list
abbrev pub Known : List Signal → List ℕ → Type 0
Known signals cs = (k : ℕ) → k < length cs → value_at cs k < length signals

later-known : (signals : List Signal) (c : ℕ) (cs : List ℕ) → Known signals (c ∷ cs) → Known signals cs
later-known signals c cs known k lt = known (suc k) (omega (arith, lt))

signal-known : (signals : List Signal) (c : ℕ) (cs : List ℕ) → Known signals (c ∷ cs) → c < length signals
signal-known signals c cs known = known 0 (omega arith)

length-signals : (signals : List Signal) (r : ℕ) (cs : List ℕ) → Known signals cs → length (pipe_signals signals r cs) ≡ length cs
length-signals signals r [] known = refl
length-signals signals r (c ∷ cs) known =
    let lt = signal-known signals c cs known in
    ap (λ o. length (option_to_list (option_map (pipe_signal r) o) ++ pipe_signals signals (suc r) cs)) (slice_get-get_or signals c (some-item signals c lt) lt)
    ∙ ap suc (length-signals signals (suc r) cs (later-known signals c cs known))

signals-at : (signals : List Signal) (r : ℕ) (cs : List ℕ) (i : ℕ) (any other : Signal) → Known signals cs → i < length cs → get_or (pipe_signals signals r cs) i other ≡ pipe_signal (r + i) (get_or signals (value_at cs i) any)
signals-at signals r [] i any other known lt = absurd (omega (arith, lt))
signals-at signals r (c ∷ cs) zero any other known lt =
    ap (λ o. get_or (option_to_list (option_map (pipe_signal r) o) ++ pipe_signals signals (suc r) cs) 0 other) (slice_get-get_or signals c any (signal-known signals c cs known))
    ∙ ap (λ k. pipe_signal k (get_or signals c any)) (let same : r ≡ r + 0 = omega arith in same)
signals-at signals r (c ∷ cs) (suc i) any other known lt =
    ap (λ o. get_or (option_to_list (option_map (pipe_signal r) o) ++ pipe_signals signals (suc r) cs) (suc i) other) (slice_get-get_or signals c any (signal-known signals c cs known))
    ∙ signals-at signals (suc r) cs i any other (later-known signals c cs known) (omega (arith, lt))
    ∙ ap (λ k. pipe_signal k (get_or signals (value_at cs i) any)) (let same : suc r + i ≡ r + suc i = omega arith in same)

length-registers : (signals : List Signal) (cs : List ℕ) → Known signals cs → length (pipe_registers signals cs) ≡ length cs
length-registers signals [] known = refl
length-registers signals (c ∷ cs) known =
    let lt = signal-known signals c cs known in
    ap (λ o. length (option_to_list (option_map (pipe_register c) o) ++ pipe_registers signals cs)) (slice_get-get_or signals c (some-item signals c lt) lt)
    ∙ ap suc (length-registers signals cs (later-known signals c cs known))

registers-at : (signals : List Signal) (cs : List ℕ) (i : ℕ) (any : Signal) (other : Register) → Known signals cs → i < length cs → get_or (pipe_registers signals cs) i other ≡ pipe_register (value_at cs i) (get_or signals (value_at cs i) any)
registers-at signals [] i any other known lt = absurd (omega (arith, lt))
registers-at signals (c ∷ cs) zero any other known lt =
    ap (λ o. get_or (option_to_list (option_map (pipe_register c) o) ++ pipe_registers signals cs) 0 other) (slice_get-get_or signals c any (signal-known signals c cs known))
registers-at signals (c ∷ cs) (suc i) any other known lt =
    ap (λ o. get_or (option_to_list (option_map (pipe_register c) o) ++ pipe_registers signals cs) (suc i) other) (slice_get-get_or signals c any (signal-known signals c cs known))
    ∙ registers-at signals cs i any other (later-known signals c cs known) (omega (arith, lt))

-- ---- the reference circuit

module _ (one : FlatCircuit) (views : Views) (pipes : List ℕ) (known : Known one.signals pipes) where
  abbrev all : FlatCircuit
  all = reference_of one views pipes

  old : List Signal
  old = by_number (seen_signal views) 0 one.signals

  long : length (reference_of one views pipes).signals ≡ length one.signals + length pipes
  long =
      length-append (by_number (seen_signal views) 0 one.signals) (pipe_signals one.signals (length one.registers) pipes)
      ∙ ap₂ (λ a b. a + b) (length-by (seen_signal views) 0 one.signals) (length-signals one.signals (length one.registers) pipes known)

  many : length (reference_of one views pipes).registers ≡ length one.registers + length pipes
  many =
      length-append (by_number (λ r register. renamed_register (signals_by (views.seen (views.holder r))) register) 0 one.registers) (pipe_registers one.signals pipes)
      ∙ ap₂ (λ a b. a + b) (length-by (λ r register. renamed_register (signals_by (views.seen (views.holder r))) register) 0 one.registers) (length-registers one.signals pipes known)

  signal-is : (s : ℕ) (any other : Signal) → s < length one.signals → get_or (reference_of one views pipes).signals s other ≡ seen_signal views s (get_or one.signals s any)
  signal-is s any other lt =
      get_or_append_left (by_number (seen_signal views) 0 one.signals) (pipe_signals one.signals (length one.registers) pipes) other s (omega (arith, lt, length-by (seen_signal views) 0 one.signals))
      ∙ at-first (seen_signal views) one.signals s any other lt

  pipe-is : (k : ℕ) (any other : Signal) → k < length pipes → get_or (reference_of one views pipes).signals (length one.signals + k) other ≡ pipe_signal (length one.registers + k) (get_or one.signals (value_at pipes k) any)
  pipe-is k any other lt =
      ap (λ n. get_or (reference_of one views pipes).signals (n + k) other) (sym (length-by (seen_signal views) 0 one.signals))
      ∙ get_or-append-add (by_number (seen_signal views) 0 one.signals) (pipe_signals one.signals (length one.registers) pipes) k other
      ∙ signals-at one.signals (length one.registers) pipes k any other known lt

  register-is : (k : ℕ) (any : Signal) (other : Register) → k < length pipes → get_or (reference_of one views pipes).registers (length one.registers + k) other ≡ pipe_register (value_at pipes k) (get_or one.signals (value_at pipes k) any)
  register-is k any other lt =
      ap (λ n. get_or (reference_of one views pipes).registers (n + k) other) (sym (length-by (λ r register. renamed_register (signals_by (views.seen (views.holder r))) register) 0 one.registers))
      ∙ get_or-append-add (by_number (λ r register. renamed_register (signals_by (views.seen (views.holder r))) register) 0 one.registers) (pipe_registers one.signals pipes) k other
      ∙ registers-at one.signals pipes k any other known lt

  abbrev type_of : Signal → Shape
  type_of signal = shape signal.ty

  abbrev driver_of : Signal → Driver
  driver_of signal = signal.driver

  pub is-reference : IsReference one (reference_of one views pipes) views pipes
  is-reference =
      record {
        signals = long;
        shapes = λ s lt.
            let any = some-item one.signals s lt in
            get_or-map type_of (reference_of one views pipes).signals s any (uint 0) (omega (arith, lt, long)) ∙ ap type_of (signal-is s any any lt) ∙ sym (get_or-map type_of one.signals s any (uint 0) lt);
        drivers = λ s lt.
            let any = some-item one.signals s lt in
            get_or-map driver_of (reference_of one views pipes).signals s any (Input 0) (omega (arith, lt, long)) ∙ ap driver_of (signal-is s any any lt)
            ∙ ap (renamed_driver (signals_by (views.seen (views.maker s)))) (sym (get_or-map driver_of one.signals s any (Input 0) lt));
        registers = many;
        register = λ r any other lt.
            get_or_append_left (by_number (λ r register. renamed_register (signals_by (views.seen (views.holder r))) register) 0 one.registers) (pipe_registers one.signals pipes) other r
            (omega (arith, lt, length-by (λ r register. renamed_register (signals_by (views.seen (views.holder r))) register) 0 one.registers))
            ∙ at-first (λ r register. renamed_register (signals_by (views.seen (views.holder r))) register) one.registers r any other lt;
        memories = length-by (λ m memory. renamed_memory (signals_by (views.seen (views.keeper m))) memory) 0 one.memories;
        memory = λ m any other lt. at-first (λ m memory. renamed_memory (signals_by (views.seen (views.keeper m))) memory) one.memories m any other lt;
        paths = refl;
        ins = refl;
        outs = refl;
        clocks = refl;
        pipe_shape = λ k lt.
            let c = value_at pipes k in
            let any = some-item one.signals c (known k lt) in
            get_or-map type_of (reference_of one views pipes).signals (length one.signals + k) any (uint 0) (omega (arith, lt, long)) ∙ ap type_of (pipe-is k any any lt) ∙ sym (get_or-map type_of one.signals c any (uint 0) (known k lt));
        pipe_driver = λ k lt.
            let any = some-item one.signals (value_at pipes k) (known k lt) in
            get_or-map driver_of (reference_of one views pipes).signals (length one.signals + k) any (Input 0) (omega (arith, lt, long)) ∙ ap driver_of (pipe-is k any any lt);
        pipe_register = λ k any lt.
            let c = value_at pipes k in
            let some = some-item one.signals c (known k lt) in
            subst (λ register. IsPipeRegister register (shape_at (signal_shapes one) c) c) (sym (register-is k some any lt))
            (record {
              type = sym (get_or-map type_of one.signals c some (uint 0) (known k lt));
              reset = refl;
              node = record { ty = (get_or one.signals c some).ty; op = Ref c };
              next = refl;
              clock = refl;
              op = refl;
              wide = sym (get_or-map type_of one.signals c some (uint 0) (known k lt));
            });
      }
