-- A FIFO is a model, says what its first place has and whether its last is full, and moves its values on.
use Rattle.std.proofs.Common.{◌≡◌, ◌≢◌, ℕ, zero, suc, ◌+◌, ◌<◌, ◌≤◌, List, [], ◌∷◌, Bool, true, false, length, get_or, refl, sym, ◌∙◌, ap, subst, true≢false, arith}
use Rattle.std.specs.Prelude.{◌==◌, if◌then◌else◌, Contains, All, AllPairs, bytes_eq}
use Rattle.std.specs.List.{list_any, range_with_len}
use Rattle.std.proofs.lemmas.List.FromFn.{get_or-range_with_len, length-range_with_len}
use Rattle.std.proofs.lemmas.List.Kept.{AllPairs-cons}
use Rattle.gg_bits.specs.Shape.{Shape, shape, uint, Fits}
use Rattle.gg_bits.specs.declared.types.Ty.{Ty}
use Rattle.gg_flat.specs.declared.piece.Register.{Register}
use Rattle.gg_flat.specs.declared.piece.Driver.TheVariants.{Input}
use Rattle.gg_flat.specs.Line.{value_at, shape_at, connected_value, HasType}
use Rattle.gg_flat.specs.Circuit.{FlatCircuit, register_shapes, signal_shapes, driver_at}
use Rattle.gg_flat.specs.Reads.{Reads, IsPath}
use Rattle.gg_flat.specs.Order.{IsOrder}
use Rattle.gg_flat.specs.Settled.{Settled}
use Rattle.gg_flat.specs.State.{IsState, State, taken_value}
use Rattle.gg_flat.specs.WellFormed.{IsWellFormed, MayDrive, IsRegister, IsClock}
use Rattle.gg_bits.proofs.PathLemmas.{missing-path}
use Rattle.gg_bridge.specs.Joined.{copy_line}
use Rattle.gg_bridge.specs.Model.{IsModel}
use Rattle.gg_bridge.specs.inside.Model.{IsSaid, IsAnswer}
use Rattle.gg_bridge.proofs.FormedLemmas.{copy-source}
use Rattle.gg_bridge.proofs.NumberLemmas.{behind-first, behind-once}
use Rattle.gg_bridge.proofs.RunLemmas.{copy-value}
use Rattle.golden_fifo.specs.declared.model.Place.{Place}
use Rattle.golden_fifo.specs.inside.Fifo.{IsPlace, fifo_piece, fifo_registers, fifo_state, next_place, taking}

-- ---- paths that differ

abbrev are_apart : List (List ℕ) → Bool
are_apart [] = true
are_apart (path ∷ paths) = if list_any (bytes_eq path) paths then false else are_apart paths

all-apart : (paths : List (List ℕ)) → are_apart paths ≡ true → AllPairs (λ a b. a ≢ b) paths
all-apart [] is = λ i j d less lt same. absurd (omega (arith, lt))
all-apart (path ∷ paths) is = by (list_any (bytes_eq path) paths) refl is (all-apart paths)
  where
    at : (xs : List (List ℕ)) (k : ℕ) (d e : List ℕ) → k < length xs → get_or xs k e ≡ get_or xs k d
    at [] k d e lt = absurd (omega (arith, lt))
    at (x ∷ xs) zero d e lt = refl
    at (x ∷ xs) (suc k) d e lt = at xs k d e (omega (arith, lt))

    by : (b : Bool) → list_any (bytes_eq path) paths ≡ b → (if b then false else are_apart paths) ≡ true → (are_apart paths ≡ true → AllPairs (λ a b. a ≢ b) paths) → AllPairs (λ a b. a ≢ b) (path ∷ paths)
    by true e is rest = absurd (true≢false (sym is))
    by false e is rest =
        AllPairs-cons (λ a b. a ≢ b) path paths
        (λ k d lt same. missing-path paths path e (k, lt, at paths k d path lt ∙ sym same))
        (rest is)

-- ---- it is a model

module _ (bit ty : Ty) (flag : shape bit ≡ uint 1) where
  abbrev fifo : FlatCircuit
  fifo = fifo_piece bit ty

  abbrev Named : ℕ → Shape → Type 0
  Named = HasType (signal_shapes (fifo_piece bit ty))

  register : (t : Ty) (full own behind : ℕ) → Named full (shape bit) → Named own (shape t) → Named behind (shape t) → IsRegister Named (taking bit full t own behind)
  register t full own behind a b c =
      record {
        reset = record { condition = record { line = (copy-source fifo (shape bit) bit full a refl).line; bit = flag }; init = copy-source fifo (shape t) t own b refl };
        next = copy-source fifo (shape t) t behind c refl;
      }

  registers : All (IsRegister Named) (fifo_registers bit ty)
  registers zero d lt = register bit 3 2 5 (omega arith, refl) (omega arith, refl) (omega arith, refl)
  registers (suc zero) d lt = register ty 3 4 6 (omega arith, refl) (omega arith, refl) (omega arith, refl)
  registers (suc (suc zero)) d lt = register bit 5 3 7 (omega arith, refl) (omega arith, refl) (omega arith, refl)
  registers (suc (suc (suc zero))) d lt = register ty 5 6 8 (omega arith, refl) (omega arith, refl) (omega arith, refl)
  registers (suc (suc (suc (suc zero)))) d lt = register bit 7 5 9 (omega arith, refl) (omega arith, refl) (omega arith, refl)
  registers (suc (suc (suc (suc (suc zero))))) d lt = register ty 7 8 10 (omega arith, refl) (omega arith, refl) (omega arith, refl)
  registers (suc (suc (suc (suc (suc (suc zero)))))) d lt = register bit 9 7 0 (omega arith, refl) (omega arith, refl) (omega arith, refl)
  registers (suc (suc (suc (suc (suc (suc (suc zero))))))) d lt = register ty 9 10 1 (omega arith, refl) (omega arith, refl) (omega arith, refl)
  registers (suc (suc (suc (suc (suc (suc (suc (suc r)))))))) d lt = absurd (omega (arith, lt))

  clocks : All (λ (r : Register). IsClock 0 r.clock) (fifo_registers bit ty)
  clocks zero d lt = tt
  clocks (suc zero) d lt = tt
  clocks (suc (suc zero)) d lt = tt
  clocks (suc (suc (suc zero))) d lt = tt
  clocks (suc (suc (suc (suc zero)))) d lt = tt
  clocks (suc (suc (suc (suc (suc zero))))) d lt = tt
  clocks (suc (suc (suc (suc (suc (suc zero)))))) d lt = tt
  clocks (suc (suc (suc (suc (suc (suc (suc zero))))))) d lt = tt
  clocks (suc (suc (suc (suc (suc (suc (suc (suc r)))))))) d lt = absurd (omega (arith, lt))

  drives : (s : ℕ) → s < 11 → MayDrive fifo s (driver_at fifo s)
  drives zero lt = (omega arith, refl)
  drives (suc zero) lt = (omega arith, refl)
  drives (suc (suc zero)) lt = (omega arith, refl)
  drives (suc (suc (suc zero))) lt = (omega arith, refl)
  drives (suc (suc (suc (suc zero)))) lt = (omega arith, refl)
  drives (suc (suc (suc (suc (suc zero))))) lt = (omega arith, refl)
  drives (suc (suc (suc (suc (suc (suc zero)))))) lt = (omega arith, refl)
  drives (suc (suc (suc (suc (suc (suc (suc zero))))))) lt = (omega arith, refl)
  drives (suc (suc (suc (suc (suc (suc (suc (suc zero)))))))) lt = (omega arith, refl)
  drives (suc (suc (suc (suc (suc (suc (suc (suc (suc zero))))))))) lt = (omega arith, refl)
  drives (suc (suc (suc (suc (suc (suc (suc (suc (suc (suc zero)))))))))) lt = (omega arith, refl)
  drives (suc (suc (suc (suc (suc (suc (suc (suc (suc (suc (suc s))))))))))) lt = absurd (omega (arith, lt))

  ins : (place : ℕ) → place < 3 → (value_at fifo.ins place < 11) × (driver_at fifo (value_at fifo.ins place) ≡ Input place)
  ins zero lt = (omega arith, refl)
  ins (suc zero) lt = (omega arith, refl)
  ins (suc (suc zero)) lt = (omega arith, refl)
  ins (suc (suc (suc place))) lt = absurd (omega (arith, lt))

  outs : (place : ℕ) → place < 3 → value_at fifo.outs place < 11
  outs zero lt = omega arith
  outs (suc zero) lt = omega arith
  outs (suc (suc zero)) lt = omega arith
  outs (suc (suc (suc place))) lt = absurd (omega (arith, lt))

  formed : IsWellFormed (fifo_piece bit ty)
  formed =
      record {
        named = refl;
        distinct = all-apart fifo.paths refl;
        drivers = drives;
        ins = ins;
        outs = outs;
        registers = registers;
        memories = λ m d lt. absurd (omega (arith, lt));
        reads = λ m lt. absurd (omega (arith, lt));
        register_clocks = clocks;
        memory_clocks = λ m d lt. absurd (omega (arith, lt));
      }

  -- no signal reads another: each is an in-signal or a register
  reads-none : (a b : ℕ) → Reads (fifo_piece bit ty) a b → ⊥
  reads-none zero b reads = reads.names
  reads-none (suc zero) b reads = reads.names
  reads-none (suc (suc zero)) b reads = reads.names
  reads-none (suc (suc (suc zero))) b reads = reads.names
  reads-none (suc (suc (suc (suc zero)))) b reads = reads.names
  reads-none (suc (suc (suc (suc (suc zero))))) b reads = reads.names
  reads-none (suc (suc (suc (suc (suc (suc zero)))))) b reads = reads.names
  reads-none (suc (suc (suc (suc (suc (suc (suc zero))))))) b reads = reads.names
  reads-none (suc (suc (suc (suc (suc (suc (suc (suc zero)))))))) b reads = reads.names
  reads-none (suc (suc (suc (suc (suc (suc (suc (suc (suc zero))))))))) b reads = reads.names
  reads-none (suc (suc (suc (suc (suc (suc (suc (suc (suc (suc zero)))))))))) b reads = reads.names
  reads-none (suc (suc (suc (suc (suc (suc (suc (suc (suc (suc (suc a))))))))))) b reads = absurd (let lt = reads.signal in omega (arith, lt))

  ordered : IsOrder (fifo_piece bit ty) (range_with_len 0 11)
  ordered =
      record {
        signals = λ i lt. (let low : i < 11 = omega (arith, lt, length-range_with_len 0 11) in let e = behind-first 11 i low in omega (arith, e, low));
        once = behind-once 0 11;
        every = λ s lt. (s, omega (arith, lt, length-range_with_len 0 11), get_or-range_with_len 0 11 s s lt ∙ (let same : 0 + s ≡ s = omega arith in same));
        after = λ i s lt reads. absurd (reads-none (value_at (range_with_len 0 11) i) s reads);
      }

  high : (out : ℕ) → Contains (3 ∷ 4 ∷ 9 ∷ []) out → 3 ≤ out
  high out (zero, lt, e) = omega (arith, e)
  high out (suc zero, lt, e) = omega (arith, e)
  high out (suc (suc zero), lt, e) = omega (arith, e)
  high out (suc (suc (suc k)), lt, e) = absurd (omega (arith, lt))

  low : (signal : ℕ) → Contains (0 ∷ 1 ∷ 2 ∷ []) signal → signal < 3
  low signal (zero, lt, e) = omega (arith, e)
  low signal (suc zero, lt, e) = omega (arith, e)
  low signal (suc (suc zero), lt, e) = omega (arith, e)
  low signal (suc (suc (suc k)), lt, e) = absurd (omega (arith, lt))

  pub fifo-model : IsModel (fifo_piece bit ty)
  fifo-model =
      record {
        formed = formed;
        order = range_with_len 0 11;
        ordered = ordered;
        clocks = refl;
        apart = λ out signal a b reaches. apart out signal (high out a) (low signal b) reaches.path reaches.reads;
      }
    where
      apart : (out signal : ℕ) → 3 ≤ out → signal < 3 → (path : List ℕ) → IsPath fifo out path signal → ⊥
      apart out signal a b [] is = absurd (omega (arith, a, b, is))
      apart out signal a b (next ∷ path) is = reads-none out next is.0

  -- places of this width make a state
  pub fifo-is-state : (first second third fourth : Place) → IsPlace ty.width first → IsPlace ty.width second → IsPlace ty.width third → IsPlace ty.width fourth
      → IsState (fifo_piece bit ty) (fifo_state first second third fourth)
  fifo-is-state first second third fourth one two three four =
      record { typed = record { count = refl; fits = at }; held = record { count = refl; each = λ m any lt. absurd (omega (arith, lt)) } }
    where
      of-flag : (n : ℕ) → n < 2 → Fits (shape bit) n
      of-flag n lt = subst (λ s. Fits s n) (sym flag) lt

      at : (i : ℕ) → i < 8 → Fits (shape_at (register_shapes (fifo_piece bit ty)) i) (value_at (fifo_state first second third fourth).registers i)
      at zero lt = of-flag first.full one.bit
      at (suc zero) lt = one.fits
      at (suc (suc zero)) lt = of-flag second.full two.bit
      at (suc (suc (suc zero))) lt = two.fits
      at (suc (suc (suc (suc zero)))) lt = of-flag third.full three.bit
      at (suc (suc (suc (suc (suc zero))))) lt = three.fits
      at (suc (suc (suc (suc (suc (suc zero)))))) lt = of-flag fourth.full four.bit
      at (suc (suc (suc (suc (suc (suc (suc zero))))))) lt = four.fits
      at (suc (suc (suc (suc (suc (suc (suc (suc i)))))))) lt = absurd (omega (arith, lt))

-- ---- what it says, and its next state

two-more : {X : Type 0} (a b x y : X) (xs ys : List X) → a ≡ x → b ≡ y → xs ≡ ys → a ∷ b ∷ xs ≡ x ∷ y ∷ ys
two-more a b x y xs ys e f g = ap (λ v. v ∷ b ∷ xs) e ∙ ap (λ v. x ∷ v ∷ xs) f ∙ ap (λ l. x ∷ y ∷ l) g

-- what a register takes
taken : (row : List ℕ) (bit ty : Ty) (full own behind x : ℕ) → Fits (shape ty) (value_at row own) → Fits (shape ty) (value_at row behind)
    → taken_value row (taking bit full ty own behind) x ≡ (if value_at row full == 1 then value_at row own else value_at row behind)
taken row bit ty full own behind x f g =
    ap (λ v. if value_at row full == 1 then v else connected_value row (shape ty) (copy_line ty behind)) (copy-value row ty own f)
    ∙ ap (λ v. if value_at row full == 1 then value_at row own else v) (copy-value row ty behind g)

full-of : (b : Bool) (r q : Place) → (if b then r else q).full ≡ (if b then r.full else q.full)
full-of true r q = refl
full-of false r q = refl

value-of : (b : Bool) (r q : Place) → (if b then r else q).value ≡ (if b then r.value else q.value)
value-of true r q = refl
value-of false r q = refl

-- a choice between what three signals have
chosen : (row : List ℕ) (full own behind a b c : ℕ) → value_at row full ≡ a → value_at row own ≡ b → value_at row behind ≡ c
    → (if value_at row full == 1 then value_at row own else value_at row behind) ≡ (if a == 1 then b else c)
chosen row full own behind a b c e f g =
    ap (λ v. if v == 1 then value_at row own else value_at row behind) e
    ∙ ap (λ v. if a == 1 then v else value_at row behind) f
    ∙ ap (λ v. if a == 1 then b else v) g

-- a place's two registers, before the others
moved : (row : List ℕ) (bit ty : Ty) (p q : Place) (stop : ℕ) (full value next from behind : ℕ) (others more : List ℕ)
    → value_at row full ≡ p.full → value_at row value ≡ p.value → value_at row next ≡ stop → value_at row from ≡ q.full → value_at row behind ≡ q.value
    → Fits (shape bit) (value_at row next) → Fits (shape bit) (value_at row from) → Fits (shape ty) (value_at row value) → Fits (shape ty) (value_at row behind)
    → others ≡ more
    → (next_place p q stop).full ∷ (next_place p q stop).value ∷ others ≡ taken_value row (taking bit full bit next from) p.full ∷ taken_value row (taking bit full ty value behind) p.value ∷ more
moved row bit ty p q stop full value next from behind others more a b c d e f g h i same =
    two-more (next_place p q stop).full (next_place p q stop).value (taken_value row (taking bit full bit next from) p.full) (taken_value row (taking bit full ty value behind) p.value) others more
    (full-of (p.full == 1) (record { full = stop; value = p.value }) q ∙ sym (taken row bit bit full next from p.full f g ∙ chosen row full next from p.full stop q.full a c d))
    (value-of (p.full == 1) (record { full = stop; value = p.value }) q ∙ sym (taken row bit ty full value behind p.value h i ∙ chosen row full value behind p.full p.value q.value a b e))
    same

abbrev with_registers : List ℕ → State
with_registers registers = record { registers = registers; banks = [] }

module _ (bit ty : Ty) (first second third fourth : Place) where
  pub fifo-said : IsSaid (fifo_piece bit ty) (fifo_state first second third fourth) (first.full ∷ first.value ∷ fourth.full ∷ [])
  fifo-said =
      record {
        count = refl;
        each = λ inputs row settled. two-more (value_at row 3) (value_at row 4) first.full first.value (value_at row 9 ∷ []) (fourth.full ∷ []) (settled.driven 3 (omega arith)) (settled.driven 4 (omega arith)) (ap (λ v. v ∷ []) (settled.driven 9 (omega arith)));
      }

  module _ (seen row : List ℕ) (settled : Settled (fifo_piece bit ty) (fifo_state first second third fourth) seen row) where
    abbrev put : Place
    put = record { full = value_at seen 0; value = value_at seen 1 }

    -- the registers of the places from one on, as the FIFO has them and as the circuit's next state has them
    abbrev own4 : List ℕ
    own4 = (next_place fourth put third.full).full ∷ (next_place fourth put third.full).value ∷ []

    abbrev own3 : List ℕ
    own3 = (next_place third fourth second.full).full ∷ (next_place third fourth second.full).value ∷ own4

    abbrev own2 : List ℕ
    own2 = (next_place second third first.full).full ∷ (next_place second third first.full).value ∷ own3

    abbrev next4 : List ℕ
    next4 = taken_value row (taking bit 9 bit 7 0) fourth.full ∷ taken_value row (taking bit 9 ty 10 1) fourth.value ∷ []

    abbrev next3 : List ℕ
    next3 = taken_value row (taking bit 7 bit 5 9) third.full ∷ taken_value row (taking bit 7 ty 8 10) third.value ∷ next4

    abbrev next2 : List ℕ
    next2 = taken_value row (taking bit 5 bit 3 7) second.full ∷ taken_value row (taking bit 5 ty 6 8) second.value ∷ next3

    fourth-moved : own4 ≡ next4
    fourth-moved =
        moved row bit ty fourth put third.full 9 10 7 0 1 [] []
        (settled.driven 9 (omega arith)) (settled.driven 10 (omega arith)) (settled.driven 7 (omega arith)) (settled.driven 0 (omega arith)) (settled.driven 1 (omega arith))
        (settled.typed.fits 7 (omega arith)) (settled.typed.fits 0 (omega arith)) (settled.typed.fits 10 (omega arith)) (settled.typed.fits 1 (omega arith))
        refl

    third-moved : own3 ≡ next3
    third-moved =
        moved row bit ty third fourth second.full 7 8 5 9 10 own4 next4
        (settled.driven 7 (omega arith)) (settled.driven 8 (omega arith)) (settled.driven 5 (omega arith)) (settled.driven 9 (omega arith)) (settled.driven 10 (omega arith))
        (settled.typed.fits 5 (omega arith)) (settled.typed.fits 9 (omega arith)) (settled.typed.fits 8 (omega arith)) (settled.typed.fits 10 (omega arith))
        fourth-moved

    second-moved : own2 ≡ next2
    second-moved =
        moved row bit ty second third first.full 5 6 3 7 8 own3 next3
        (settled.driven 5 (omega arith)) (settled.driven 6 (omega arith)) (settled.driven 3 (omega arith)) (settled.driven 7 (omega arith)) (settled.driven 8 (omega arith))
        (settled.typed.fits 3 (omega arith)) (settled.typed.fits 7 (omega arith)) (settled.typed.fits 6 (omega arith)) (settled.typed.fits 8 (omega arith))
        third-moved

    first-moved : (next_place first second (value_at seen 2)).full ∷ (next_place first second (value_at seen 2)).value ∷ own2
        ≡ taken_value row (taking bit 3 bit 2 5) first.full ∷ taken_value row (taking bit 3 ty 4 6) first.value ∷ next2
    first-moved =
        moved row bit ty first second (value_at seen 2) 3 4 2 5 6 own2 next2
        (settled.driven 3 (omega arith)) (settled.driven 4 (omega arith)) (settled.driven 2 (omega arith)) (settled.driven 5 (omega arith)) (settled.driven 6 (omega arith))
        (settled.typed.fits 2 (omega arith)) (settled.typed.fits 5 (omega arith)) (settled.typed.fits 4 (omega arith)) (settled.typed.fits 6 (omega arith))
        second-moved

  pub fifo-answer : (seen : List ℕ) → IsAnswer (fifo_piece bit ty) (fifo_state first second third fourth) seen
      (fifo_state (next_place first second (value_at seen 2)) (next_place second third first.full) (next_place third fourth second.full) (next_place fourth (record { full = value_at seen 0; value = value_at seen 1 }) third.full))
  fifo-answer seen row settled = ap with_registers (first-moved seen row settled)

  -- the same by what the places are
  pub fifo-answer-by : (seen : List ℕ) (one two three four : Place) → one ≡ next_place first second (value_at seen 2) → two ≡ next_place second third first.full → three ≡ next_place third fourth second.full
      → four ≡ next_place fourth (record { full = value_at seen 0; value = value_at seen 1 }) third.full
      → IsAnswer (fifo_piece bit ty) (fifo_state first second third fourth) seen (fifo_state one two three four)
  fifo-answer-by seen one two three four a b c d row settled =
      ap (λ p. fifo_state p two three four) a
      ∙ ap (λ p. fifo_state (next_place first second (value_at seen 2)) p three four) b
      ∙ ap (λ p. fifo_state (next_place first second (value_at seen 2)) (next_place second third first.full) p four) c
      ∙ ap (λ p. fifo_state (next_place first second (value_at seen 2)) (next_place second third first.full) (next_place third fourth second.full) p) d
      ∙ fifo-answer seen row settled
