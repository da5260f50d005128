-- A listed memory's part, cut once more by hand; and what isn't such a cut.
--
-- The part has the enable of the memory's only reader, its address and its data, in this order; its channels carry the address
-- first. So its in-signals are 1 and 0. Cut again, the address is signal 0.
use Rattle.std.proofs.Common.{◌≡◌, ◌≢◌, ℕ, zero, suc, ◌<◌, List, [], ◌∷◌, ◌++◌, refl, ap, arith, lit<}
use Rattle.std.specs.Prelude.{AllPairs, Contains, slice_index_or, None}
use Rattle.std.proofs.lemmas.List.Kept.{AllPairs-cons}
use Rattle.gg_flat.specs.declared.memory.Latency.TheVariants.{Zero}
use Rattle.gg_flat.specs.declared.memory.Memory.{Memory}
use Rattle.gg_flat.specs.declared.piece.Driver.TheVariants.{Input, Held, MemoryWord}
use Rattle.gg_flat.specs.Line.{value_at}
use Rattle.gg_flat.specs.WellFormed.{IsClock}
use Rattle.gg_flat.specs.Circuit.{FlatCircuit, driver_at, readers_at}
use Rattle.gg_flat.proofs.WorkedCircuits.{one, eight}
use Rattle.gg_flat.proofs.WorkedForms.{only, both, three, pair, single, apart}
use Rattle.gg_part.specs.Part.{IsPart, IsFrom, IsMemoryFrom}
use Rattle.gg_part.specs.inside.Part.{ReadsAmong}
use Rattle.gg_part.specs.Building.{IsHeldIn, AreHeld}
use Rattle.gg_part.specs.declared.part.Part.{Part}
use Rattle.gg_cut_plan.specs.declared.plan.Body.TheVariants.{Memory as Standing}
use Rattle.gg_build.specs.plan.Built.{body_rows}
use Rattle.gg_build.specs.inside.Alone.{IsCutAgain}

abbrev memory : ℕ → ℕ → Memory
memory addr en = record { word = eight; depth = 2; latency = Zero; readers = record { addr = addr; en = en; word = 2; clock = None } ∷ []; writers = [] }

abbrev part : Part
part =
    record {
      piece =
          record {
            paths = (101 ∷ []) ∷ (97 ∷ []) ∷ (100 ∷ []) ∷ [];
            signals = record { ty = one; driver = Input 1 } ∷ record { ty = one; driver = Input 0 } ∷ record { ty = eight; driver = MemoryWord 0 0 1 0 } ∷ [];
            registers = [];
            memories = memory 1 0 ∷ [];
            ins = 1 ∷ 0 ∷ [];
            outs = 2 ∷ [];
            clocks = 0;
          };
      globals = 4 ∷ 3 ∷ 5 ∷ [];
      held = [];
      memories = 0 ∷ [];
      clocks = [];
    }

abbrev alone : Part
alone =
    record {
      piece =
          record {
            paths = (97 ∷ []) ∷ (101 ∷ []) ∷ (100 ∷ []) ∷ [];
            signals = record { ty = one; driver = Input 0 } ∷ record { ty = one; driver = Input 1 } ∷ record { ty = eight; driver = MemoryWord 0 0 0 1 } ∷ [];
            registers = [];
            memories = memory 0 1 ∷ [];
            ins = 0 ∷ 1 ∷ [];
            outs = 2 ∷ [];
            clocks = 0;
          };
      globals = 1 ∷ 0 ∷ 2 ∷ [];
      held = [];
      memories = 0 ∷ [];
      clocks = [];
    }

once : AllPairs (λ a b. a ≢ b) alone.globals
once =
    AllPairs-cons (λ a b. a ≢ b) 1 (0 ∷ 2 ∷ []) (λ k d lt. both (λ i. 1 ≢ slice_index_or (0 ∷ 2 ∷ []) i d) (apart 1 0 refl) (apart 1 2 refl) k lt) (pair 0 2 (apart 0 2 refl))

its-memory : IsMemoryFrom part.piece alone.piece alone.globals alone.memories [] 0
its-memory =
    record {
      within = lit< tt;
      is = λ any other. refl;
      below = λ any. record { readers = λ k d lt. only (λ i. ReadsAmong 3 (slice_index_or (memory 0 1).readers i d)) (lit< tt, lit< tt, lit< tt) k lt; writers = λ k d lt. absurd (omega (arith, lt)) };
      clocked = λ any. record { readers = λ k d lt. only (λ i. IsClock 0 (slice_index_or (memory 0 1).readers i d).clock) tt k lt; writers = λ k d lt. absurd (omega (arith, lt)) };
      given = λ r place lt. only (λ i. driver_at alone.piece (slice_index_or (readers_at alone.piece 0) i (record { addr = 0; en = 0; word = 0; clock = None })).word ≢ Input place) (λ same. cc) r lt;
    }

is-part : IsPart part.piece alone.piece alone.globals [] (0 ∷ []) []
is-part =
    record {
      count = refl;
      within = three (λ s. value_at alone.globals s < 3) (lit< tt) (lit< tt) (lit< tt);
      once = once;
      paths = refl;
      types = refl;
      drivers = three (λ s. IsFrom alone.piece.ins alone.globals [] (0 ∷ []) s (driver_at part.piece (value_at alone.globals s)) (driver_at alone.piece s)) (lit< tt, refl) (lit< tt, refl) (lit< tt, lit< tt, lit< tt, refl);
      ins = both (λ place. (value_at alone.piece.ins place < 3) × (driver_at alone.piece (value_at alone.piece.ins place) ≡ Input place)) (lit< tt, refl) (lit< tt, refl);
      outs = only (λ place. value_at alone.piece.outs place < 3) (lit< tt);
      clock_count = refl;
      register_count = refl;
      register_from = λ r lt. absurd (omega (arith, lt));
      memory_count = refl;
      memories_once = single 0;
      memory_from = only (λ m. IsMemoryFrom part.piece alone.piece alone.globals (0 ∷ []) [] m) its-memory;
    }

-- none of the part's signals holds a register
no-held : (s r : ℕ) → Contains (part.piece.ins ++ part.piece.outs) s → driver_at part.piece s ≡ Held r → ⊥
no-held s r (zero, lt, is) = rw (← is) (λ same. cc)
no-held s r (suc zero, lt, is) = rw (← is) (λ same. cc)
no-held s r (suc (suc zero), lt, is) = rw (← is) (λ same. cc)
no-held s r (suc (suc (suc k)), lt, is) = absurd (omega (arith, lt))

none-held : AreHeld part.piece (part.piece.ins ++ part.piece.outs) part.piece.ins []
none-held =
    record {
      every = λ s r listed holds. absurd (no-held s r listed holds.holds);
      sound = λ r listed. absurd (omega (arith, listed.1));
    }

cut : IsCutAgain part alone
cut = record { is_part = is-part; clocks = refl; globals = refl; ins = refl; outs = refl; memories = refl; held = none-held }

-- ---- what isn't such a cut

-- a cut that takes along a register that no signal holds
idle : (piece : FlatCircuit) → ¬ IsCutAgain part (record alone { piece = piece; held = 0 ∷ [] })
idle piece is = by (is.held.sound 0 (0, lit< tt, refl))
  where
    by : IsHeldIn part.piece (part.piece.ins ++ part.piece.outs) part.piece.ins 0 → ⊥
    by held = no-held held.signal 0 held.chosen held.holds.holds

-- a cut whose signals are in the part's order, instead of the in-signals first
unturned : (piece : FlatCircuit) → ¬ IsCutAgain part (record alone { piece = piece; globals = 0 ∷ 1 ∷ 2 ∷ [] })
unturned piece is = let head : List ℕ → ℕ = λ l. value_at l 0 in apart 0 1 refl (ap head is.globals)

-- ---- the rows of a memory that stands alone

-- of a row of six signals, a memory alone has the values of the address, the enable and the data
its-rows : body_rows (λ s. s) 6 (Standing part) ((10 ∷ 11 ∷ 12 ∷ 13 ∷ 14 ∷ 15 ∷ []) ∷ []) ≡ (13 ∷ 14 ∷ 15 ∷ []) ∷ []
its-rows = refl
