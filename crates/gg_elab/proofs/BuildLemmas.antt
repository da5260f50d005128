-- A flat circuit that gets one more signal.
use Rattle.std.proofs.Common.{◌≡◌, ℕ, ◌+◌, ◌<◌, ◌≤◌, List, [], ◌∷◌, ◌++◌, length, map, take, get_or, Option, Some, None, option_to_list, Bool, true, false, cond, if◌then◌else◌, refl, sym, ap, ◌∙◌, subst, arith, below_more}
use Rattle.std.specs.Prelude.{count_by, All, MatchOption, ⊤}
use Rattle.std.proofs.lemmas.List.Elements.{All-push}
use Rattle.gg_flat.specs.WellFormed.{IsRegister}
use Rattle.gg_elab_tree.specs.inside.Fitting.{FitsDriver, IsFitting}
use Rattle.std.proofs.lemmas.List.{map-append, length-append, length-map, get_or_append_left, get_or_push, take-append-le, take_all, append-nil}
use Rattle.std.proofs.lemmas.List.Sums.{sum_by_push}
use Rattle.gg_bits.specs.Shape.{Shape, shape, uint}
use Rattle.gg_bits.specs.declared.types.Ty.{Ty}
use Rattle.gg_flat.specs.declared.memory.Latency.TheVariants as latency
use Rattle.gg_flat.specs.declared.piece.Driver.{Driver}
use Rattle.gg_flat.specs.declared.piece.Driver.TheVariants.{Input}
use Rattle.gg_flat.specs.declared.piece.Register.{Register}
use Rattle.gg_flat.specs.declared.piece.Signal.{Signal}
use Rattle.gg_flat.specs.Circuit.{FlatCircuit, driver_at}
use Rattle.gg_flat.specs.Line.{shape_at, HasType}
use Rattle.gg_elab_sites.specs.Flat.{Drive, Outside, Gets, Holds, Answers, FlatSignal}
use Rattle.gg_elab_sites.specs.IsFlat.{IsRegisterOf, IsDrivenBy, is_outside, is_register, drive_at, count_before}
use Rattle.gg_elab_sites.specs.Meaning.{Bindings, in_scope}
use Rattle.gg_elab.specs.inside.Building.{IsMade, with_made, is_input_driver, IsSoFar}

abbrev drives : List FlatSignal → List Drive
drives xs = map (λ (x : FlatSignal). x.drive) xs

abbrev shapes : List FlatSignal → List Shape
shapes xs = map (λ (x : FlatSignal). x.shape) xs

-- ---- counts

-- 1 if a test passes, else 0
abbrev one_if : Bool → ℕ
one_if b = cond b 1 0

before-push : (p : Drive → Bool) (xs : List FlatSignal) (x : FlatSignal) (s : ℕ) → s ≤ length xs → count_before p (xs ++ x ∷ []) s ≡ count_before p xs s
before-push p xs x s le =
    ap (λ (l : List Drive). count_by p (take s l)) (map-append (λ (y : FlatSignal). y.drive) xs (x ∷ []))
    ∙ ap (count_by p) (take-append-le s (drives xs) (x.drive ∷ []) (omega (arith, le, length-map xs (λ (y : FlatSignal). y.drive))))

before-all : (p : Drive → Bool) (xs : List FlatSignal) → count_before p xs (length xs) ≡ count_by p (drives xs)
before-all p xs = ap (count_by p) (take_all (length xs) (drives xs) (omega (arith, length-map xs (λ (y : FlatSignal). y.drive))))

before-last : (p : Drive → Bool) (xs : List FlatSignal) (x : FlatSignal) → count_before p (xs ++ x ∷ []) (length (xs ++ x ∷ [])) ≡ count_before p xs (length xs) + one_if (p x.drive)
before-last p xs x =
    before-all p (xs ++ x ∷ [])
    ∙ ap (count_by p) (map-append (λ (y : FlatSignal). y.drive) xs (x ∷ []))
    ∙ sum_by_push (λ d. cond (p d) 1 0) (drives xs) x.drive
    ∙ ap (λ n. n + one_if (p x.drive)) (sym (before-all p xs))

-- ---- places

drive-push : (xs : List FlatSignal) (x : FlatSignal) (s : ℕ) → s < length xs → drive_at (xs ++ x ∷ []) s ≡ drive_at xs s
drive-push xs x s lt =
    ap (λ (l : List Drive). get_or l s Outside) (map-append (λ (y : FlatSignal). y.drive) xs (x ∷ []))
    ∙ get_or_append_left (drives xs) (x.drive ∷ []) Outside s (omega (arith, lt, length-map xs (λ (y : FlatSignal). y.drive)))

drive-last : (xs : List FlatSignal) (x : FlatSignal) → drive_at (xs ++ x ∷ []) (length xs) ≡ x.drive
drive-last xs x =
    ap (λ (l : List Drive). get_or l (length xs) Outside) (map-append (λ (y : FlatSignal). y.drive) xs (x ∷ []))
    ∙ get_or_push (drives xs) x.drive Outside (length xs) (length-map xs (λ (y : FlatSignal). y.drive))

shape-push : (xs : List FlatSignal) (x : FlatSignal) (s : ℕ) → s < length xs → shape_at (shapes (xs ++ x ∷ [])) s ≡ shape_at (shapes xs) s
shape-push xs x s lt =
    ap (λ (l : List Shape). get_or l s (uint 0)) (map-append (λ (y : FlatSignal). y.shape) xs (x ∷ []))
    ∙ get_or_append_left (shapes xs) (x.shape ∷ []) (uint 0) s (omega (arith, lt, length-map xs (λ (y : FlatSignal). y.shape)))

shape-last : (xs : List FlatSignal) (x : FlatSignal) → shape_at (shapes (xs ++ x ∷ [])) (length xs) ≡ x.shape
shape-last xs x =
    ap (λ (l : List Shape). get_or l (length xs) (uint 0)) (map-append (λ (y : FlatSignal). y.shape) xs (x ∷ []))
    ∙ get_or_push (shapes xs) x.shape (uint 0) (length xs) (length-map xs (λ (y : FlatSignal). y.shape))

driver-push : (signals : List Signal) (n : Signal) (s : ℕ) → s < length signals → get_or (map (λ (x : Signal). x.driver) (signals ++ n ∷ [])) s (Input 0) ≡ get_or (map (λ (x : Signal). x.driver) signals) s (Input 0)
driver-push signals n s lt =
    ap (λ (l : List Driver). get_or l s (Input 0)) (map-append (λ (x : Signal). x.driver) signals (n ∷ []))
    ∙ get_or_append_left (map (λ (x : Signal). x.driver) signals) (n.driver ∷ []) (Input 0) s (omega (arith, lt, length-map signals (λ (x : Signal). x.driver)))

driver-last : (signals : List Signal) (n : Signal) (k : ℕ) → length signals ≡ k → get_or (map (λ (x : Signal). x.driver) (signals ++ n ∷ [])) k (Input 0) ≡ n.driver
driver-last signals n k is =
    ap (λ (l : List Driver). get_or l k (Input 0)) (map-append (λ (x : Signal). x.driver) signals (n ∷ []))
    ∙ get_or_push (map (λ (x : Signal). x.driver) signals) n.driver (Input 0) k (length-map signals (λ (x : Signal). x.driver) ∙ is)

-- ---- drivers

added_one : (b : Bool) (n : ℕ) → (if b then n + 1 else n) ≡ n + one_if b
added_one true n = refl
added_one false n = omega arith

module _ (bindings : Bindings) where
  -- a signal's drive says the same of its driver for equal counts, shapes, drives and drivers
  moved : (regs : List Register) (i i' st st' : ℕ) (sh sh' : Shape) (d d' : Drive) (r r' : Driver) → i ≡ i' → st ≡ st' → sh ≡ sh' → d ≡ d' → r ≡ r' → IsDrivenBy bindings regs i st sh d r → IsDrivenBy bindings regs i' st' sh' d' r'
  moved regs i i' st st' sh sh' d d' r r' ei es eh ed er h =
      subst (λ (x : ℕ). IsDrivenBy bindings regs x st' sh' d' r') ei
      (subst (λ (x : ℕ). IsDrivenBy bindings regs i x sh' d' r') es
      (subst (λ (x : Shape). IsDrivenBy bindings regs i st x d' r') eh
      (subst (λ (x : Drive). IsDrivenBy bindings regs i st sh x r') ed
      (subst (λ (x : Driver). IsDrivenBy bindings regs i st sh d x) er h))))

  -- a driver is still as the drive says if there are more registers
  kept : (regs more : List Register) (i st : ℕ) (sh : Shape) (d : Drive) (r : Driver) → IsDrivenBy bindings regs i st sh d r → IsDrivenBy bindings (regs ++ more) i st sh d r
  kept regs more i st sh Outside r h = h
  kept regs more i st sh (Gets scope c) r h = h
  kept regs more i st sh (Holds scope reset next own clock) r h = record {
    held = h.held;
    within = omega (arith, h.within, length-append regs more);
    register = λ any. subst (λ (x : Register). IsRegisterOf (in_scope bindings scope) sh reset next clock x) (sym (get_or_append_left regs more any st h.within)) (h.register any);
  }
  kept regs more i st sh (Answers memory place l addr en) r h = h

  -- a driver that is made for a drive, with the register that is made with it, is as the drive says
  made : (regs : List Register) (i : ℕ) (sh : Shape) (d : Drive) (r : Driver) (register : Option Register) → IsMade bindings i (length regs) sh d r register → IsDrivenBy bindings (regs ++ option_to_list register) i (length regs) sh d r
  made regs i sh Outside r register h = h.0
  made regs i sh (Gets scope c) r register h = h.0
  made regs i sh (Holds scope reset next own clock) r None h = absurd h.1
  made regs i sh (Holds scope reset next own clock) r (Some register) h = record {
    held = h.0;
    within = omega (arith, length-append regs (register ∷ []));
    register = λ any. subst (λ (x : Register). IsRegisterOf (in_scope bindings scope) sh reset next clock x) (sym (get_or_push regs register any (length regs) refl)) h.1;
  }
  made regs i sh (Answers memory place l addr en) r register h = h.0

  -- a register is made exactly if the drive holds one
  registers_made : (i st : ℕ) (sh : Shape) (d : Drive) (r : Driver) (register : Option Register) → IsMade bindings i st sh d r register → length (option_to_list register) ≡ one_if (is_register d)
  registers_made i st sh Outside r register h = ap (λ (o : Option Register). length (option_to_list o)) h.1
  registers_made i st sh (Gets scope c) r register h = ap (λ (o : Option Register). length (option_to_list o)) h.1
  registers_made i st sh (Holds scope reset next own clock) r None h = absurd h.1
  registers_made i st sh (Holds scope reset next own clock) r (Some register) h = refl
  registers_made i st sh (Answers memory place l addr en) r register h = ap (λ (o : Option Register). length (option_to_list o)) h.1

  -- an input is made exactly if the outside drives the signal
  inputs_made : (i st : ℕ) (sh : Shape) (d : Drive) (r : Driver) (register : Option Register) → IsMade bindings i st sh d r register → is_input_driver r ≡ is_outside d
  inputs_made i st sh Outside r register h = ap is_input_driver h.0
  inputs_made i st sh (Gets scope c) r register h = ap is_input_driver h.0.computed
  inputs_made i st sh (Holds scope reset next own clock) r register h = ap is_input_driver h.0
  inputs_made i st sh (Answers memory place latency.Zero addr en) r register h = ap is_input_driver h.0
  inputs_made i st sh (Answers memory place (latency.One under) addr en) r register h = ap is_input_driver h.0

  -- ---- the flat circuit so far

  pub so_far-more : (xs : List FlatSignal) (x : FlatSignal) (flat : FlatCircuit) (inputs more : ℕ) (path : List ℕ) (ty : Ty) (r : Driver) (register : Option Register) → IsSoFar bindings xs flat inputs → path ≡ x.path → shape ty ≡ x.shape → IsMade bindings inputs (length flat.registers) x.shape x.drive r register → IsFitting bindings.signals.shapes x.shape r register → more ≡ (if is_input_driver r then inputs + 1 else inputs) → IsSoFar bindings (xs ++ x ∷ []) (with_made flat path ty r register) more
  so_far-more xs x flat inputs more path ty r register h named shaped m fit counted = record {
    paths = ap (λ (l : List (List ℕ)). l ++ path ∷ []) h.paths ∙ ap (λ (p : List ℕ). map (λ (y : FlatSignal). y.path) xs ++ p ∷ []) named ∙ sym (map-append (λ (y : FlatSignal). y.path) xs (x ∷ []));
    shapes = map-append (λ (y : Signal). shape y.ty) flat.signals (record { ty = ty; driver = r } ∷ [])
        ∙ ap (λ (l : List Shape). l ++ shape ty ∷ []) h.shapes ∙ ap (λ (p : Shape). shapes xs ++ p ∷ []) shaped ∙ sym (map-append (λ (y : FlatSignal). y.shape) xs (x ∷ []));
    drivers = λ s lt. below_more (λ (s : ℕ). IsDrivenBy bindings new.registers (count_before is_outside (xs ++ x ∷ []) s) (count_before is_register (xs ++ x ∷ []) s) (shape_at (shapes (xs ++ x ∷ [])) s) (drive_at (xs ++ x ∷ []) s) (driver_at new s)) (length xs) old last s (omega (arith, lt, length-append xs (x ∷ [])));
    register_count = omega (arith, length-append flat.registers (option_to_list register), registers_made inputs (length flat.registers) x.shape x.drive r register m, h.register_count, before-last is_register xs x);
    input_count = counted ∙ ap (λ b. if b then inputs + 1 else inputs) (inputs_made inputs (length flat.registers) x.shape x.drive r register m) ∙ added_one (is_outside x.drive) inputs ∙ ap (λ n. n + one_if (is_outside x.drive)) h.input_count ∙ sym (before-last is_outside xs x);
    fitting = λ s lt. below_more (λ (s : ℕ). FitsDriver bindings.signals.shapes (shape_at (shapes (xs ++ x ∷ [])) s) (driver_at new s)) (length xs) fits fits_last s (omega (arith, lt, length-append xs (x ∷ [])));
    registers_fit = with_register flat.registers register h.registers_fit fit.1;
    no_memories = h.no_memories;
    no_ins = h.no_ins;
    no_outs = h.no_outs;
  }
    where
      new : FlatCircuit
      new = with_made flat path ty r register

      count : length flat.signals ≡ length xs
      count = sym (length-map flat.signals (λ (y : Signal). shape y.ty)) ∙ ap (λ (l : List Shape). length l) h.shapes ∙ length-map xs (λ (y : FlatSignal). y.shape)

      old : (s : ℕ) → s < length xs → IsDrivenBy bindings (flat.registers ++ option_to_list register) (count_before is_outside (xs ++ x ∷ []) s) (count_before is_register (xs ++ x ∷ []) s) (shape_at (shapes (xs ++ x ∷ [])) s) (drive_at (xs ++ x ∷ []) s) (driver_at (with_made flat path ty r register) s)
      old s lt =
          moved (flat.registers ++ option_to_list register) _ _ _ _ _ _ _ _ _ _
          (sym (before-push is_outside xs x s (omega (arith, lt)))) (sym (before-push is_register xs x s (omega (arith, lt)))) (sym (shape-push xs x s lt)) (sym (drive-push xs x s lt)) (sym (driver-push flat.signals (record { ty = ty; driver = r }) s (omega (arith, lt, count))))
          (kept flat.registers (option_to_list register) (count_before is_outside xs s) (count_before is_register xs s) (shape_at (shapes xs) s) (drive_at xs s) (driver_at flat s) (h.drivers s lt))

      last : IsDrivenBy bindings (flat.registers ++ option_to_list register) (count_before is_outside (xs ++ x ∷ []) (length xs)) (count_before is_register (xs ++ x ∷ []) (length xs)) (shape_at (shapes (xs ++ x ∷ [])) (length xs)) (drive_at (xs ++ x ∷ []) (length xs)) (driver_at (with_made flat path ty r register) (length xs))
      last =
          moved (flat.registers ++ option_to_list register) inputs _ (length flat.registers) _ x.shape _ x.drive _ r _
          (h.input_count ∙ sym (before-push is_outside xs x (length xs) (omega arith))) (h.register_count ∙ sym (before-push is_register xs x (length xs) (omega arith))) (sym (shape-last xs x)) (sym (drive-last xs x)) (sym (driver-last flat.signals (record { ty = ty; driver = r }) (length xs) count))
          (made flat.registers inputs x.shape x.drive r register m)

      at : (s : ℕ) (sh : Shape) (d : Driver) → shape_at (shapes (xs ++ x ∷ [])) s ≡ sh → driver_at (with_made flat path ty r register) s ≡ d → FitsDriver bindings.signals.shapes sh d → FitsDriver bindings.signals.shapes (shape_at (shapes (xs ++ x ∷ [])) s) (driver_at (with_made flat path ty r register) s)
      at s sh d a b k = subst (λ (y : Shape). FitsDriver bindings.signals.shapes y (driver_at (with_made flat path ty r register) s)) (sym a) (subst (λ (y : Driver). FitsDriver bindings.signals.shapes sh y) (sym b) k)

      fits : (s : ℕ) → s < length xs → FitsDriver bindings.signals.shapes (shape_at (shapes (xs ++ x ∷ [])) s) (driver_at (with_made flat path ty r register) s)
      fits s lt = at s _ _ (shape-push xs x s lt) (driver-push flat.signals (record { ty = ty; driver = r }) s (omega (arith, lt, count))) (h.fitting s lt)

      fits_last : FitsDriver bindings.signals.shapes (shape_at (shapes (xs ++ x ∷ [])) (length xs)) (driver_at (with_made flat path ty r register) (length xs))
      fits_last = at (length xs) x.shape r (shape-last xs x) (driver-last flat.signals (record { ty = ty; driver = r }) (length xs) count) fit.0

      with_register : (regs : List Register) (o : Option Register) → All (IsRegister (HasType bindings.signals.shapes)) regs → MatchOption o ⊤ (IsRegister (HasType bindings.signals.shapes)) → All (IsRegister (HasType bindings.signals.shapes)) (regs ++ option_to_list o)
      with_register regs None all one = subst (λ (l : List Register). All (IsRegister (HasType bindings.signals.shapes)) l) (sym (append-nil regs)) all
      with_register regs (Some o) all one = All-push (IsRegister (HasType bindings.signals.shapes)) regs o all one
