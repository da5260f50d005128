-- Measures and layouts worked by hand.
use Rattle.std.proofs.Common.{◌≡◌, ℕ, zero, suc, ◌<◌, ◌≤◌, ◌*◌, List, [], ◌∷◌, false, true, Some, refl, arith}
use Rattle.std.specs.Prelude.{All}
use Rattle.gg_net.specs.declared.event.Event.TheVariants.{Latch, Fire, Finish}
use Rattle.gg_net.specs.declared.event.StepRefusal.TheVariants.{Unfired, NeedsInput, NoToken, Full}
use Rattle.gg_net.specs.Refusal.{Turn}
use Rattle.gg_net.specs.markings.Marking.{Link, Layout, opening_marking, held, marked_refusal, after}
use Rattle.gg_net.specs.inside.Counts.{counts_of, early, CanRun, IsAllowed, Flows}
use Rattle.gg_net.specs.inside.Measure.{left}
use Rattle.gg_net.specs.markings.Measure.{all_dues}
use Rattle.gg_net.specs.inside.Leads.{Leads, end_marking}

-- ---- two units that feed each other in one cycle: the hub 0, the units 1 and 2, a source 3, a tray 4

abbrev wire : ℕ → ℕ → List ℕ → Link
wire from to needs = record { producer = from; consumer = to; capacity = 1; needs = needs; piped = false }

abbrev two_units : Layout
two_units =
    record {
      links = wire 3 0 [] ∷ wire 0 1 (0 ∷ []) ∷ wire 0 1 (6 ∷ []) ∷ wire 1 0 (1 ∷ []) ∷ wire 1 0 (1 ∷ 2 ∷ []) ∷ wire 0 2 (3 ∷ []) ∷ wire 2 0 (5 ∷ []) ∷ wire 0 4 (4 ∷ []) ∷ [];
      port_counts = 0 ∷ 0 ∷ 0 ∷ 0 ∷ 0 ∷ [];
      turns = [] ∷ [] ∷ [] ∷ [] ∷ [] ∷ [];
      end = 2;
    }

two-units-left : left two_units (counts_of two_units (opening_marking two_units 0)) ≡ 42
two-units-left = refl

two-units-one : left two_units (counts_of two_units (after two_units (opening_marking two_units 0) (Fire 0))) ≡ 41
two-units-one = refl

two-units-end : left two_units (counts_of two_units (end_marking two_units)) ≡ 0
two-units-end = refl

-- ---- a memory of two readers and two writers as a machine of its own: the hub 0, the memory 1, sources 2 and 3, trays
-- 4 and 5; a step serves the port of a writer, and the readers read at once

abbrev writers : List Turn
writers = record { number = 2; fields = 8 ∷ 9 ∷ 10 ∷ 11 ∷ [] } ∷ record { number = 3; fields = 12 ∷ 13 ∷ 14 ∷ 15 ∷ [] } ∷ []

abbrev served_memory : Layout
served_memory =
    record {
      links = wire 2 0 [] ∷ wire 3 0 [] ∷ wire 0 1 (0 ∷ []) ∷ wire 0 1 [] ∷ wire 1 0 (2 ∷ 3 ∷ []) ∷ wire 0 1 (0 ∷ []) ∷ wire 0 1 (1 ∷ []) ∷ wire 1 0 (5 ∷ 6 ∷ [])
          ∷ wire 0 1 (0 ∷ []) ∷ wire 0 1 [] ∷ wire 0 1 (1 ∷ []) ∷ wire 0 1 [] ∷ wire 0 1 (0 ∷ []) ∷ wire 0 1 [] ∷ wire 0 1 (1 ∷ []) ∷ wire 0 1 [] ∷ wire 0 4 (4 ∷ []) ∷ wire 0 5 (7 ∷ []) ∷ [];
      port_counts = 0 ∷ 4 ∷ 0 ∷ 0 ∷ 0 ∷ 0 ∷ [];
      turns = [] ∷ writers ∷ [] ∷ [] ∷ [] ∷ [] ∷ [];
      end = 4;
    }

served-left : left served_memory (counts_of served_memory (opening_marking served_memory 0)) ≡ 176
served-left = refl

-- eight of them are the serves of two writers in four cycles
served-dues : all_dues served_memory * 4 ≡ 8
served-dues = refl

served-end : left served_memory (counts_of served_memory (end_marking served_memory)) ≡ 0
served-end = refl

-- ---- a source that feeds a tray

abbrev fed : ℕ → Layout
fed capacity = record { links = (record { producer = 0; consumer = 1; capacity = capacity; needs = []; piped = false }) ∷ []; port_counts = 0 ∷ 0 ∷ []; turns = [] ∷ [] ∷ []; end = 1 }

fed-runs : CanRun (fed 1)
fed-runs =
    record {
      producer = ends-p;
      consumer = ends-c;
      room = rooms;
      needs = no-needs;
      fields = no-fields;
      numbers = no-numbers;
      ranks = λ c. 0;
      lower = no-lower;
    }
  where
    ends-p : (c : ℕ) → c < 1 → (Rattle.gg_net.specs.markings.Marking.link_at (fed 1) c).producer < 2
    ends-p zero lt = omega arith
    ends-p (suc c) lt = absurd (omega (arith, lt))

    ends-c : (c : ℕ) → c < 1 → (Rattle.gg_net.specs.markings.Marking.link_at (fed 1) c).consumer < 2
    ends-c zero lt = omega arith
    ends-c (suc c) lt = absurd (omega (arith, lt))

    rooms : (c : ℕ) → c < 1 → 1 ≤ (Rattle.gg_net.specs.markings.Marking.link_at (fed 1) c).capacity
    rooms zero lt = omega arith
    rooms (suc c) lt = absurd (omega (arith, lt))

    no-needs : (c : ℕ) → c < 1 → All (λ d. (d < 1) × ((Rattle.gg_net.specs.markings.Marking.link_at (fed 1) d).consumer ≡ (Rattle.gg_net.specs.markings.Marking.link_at (fed 1) c).producer)) (Rattle.gg_net.specs.markings.Marking.link_at (fed 1) c).needs
    no-needs zero lt i any i_lt = absurd (omega (arith, i_lt))
    no-needs (suc c) lt i any i_lt = absurd (omega (arith, lt))

    no-lower : (c : ℕ) → c < 1 → All (λ d. 0 < 0) (Rattle.gg_net.specs.markings.Marking.link_at (fed 1) c).needs
    no-lower zero lt i any i_lt = absurd (omega (arith, i_lt))
    no-lower (suc c) lt i any i_lt = absurd (omega (arith, lt))

    no-fields : (m : ℕ) → m < 2 → All (λ turn. All (λ d. (d < 1) × ((Rattle.gg_net.specs.markings.Marking.link_at (fed 1) d).consumer ≡ m)) turn.fields) (Rattle.gg_net.specs.markings.Marking.turns_at (fed 1) m)
    no-fields zero lt i any i_lt = absurd (omega (arith, i_lt))
    no-fields (suc zero) lt i any i_lt = absurd (omega (arith, i_lt))
    no-fields (suc (suc m)) lt i any i_lt = absurd (omega (arith, lt))

    no-numbers : (m : ℕ) → m < 2 → All (λ turn. turn.number < Rattle.gg_net.specs.markings.Marking.port_count (fed 1) m) (Rattle.gg_net.specs.markings.Marking.turns_at (fed 1) m)
    no-numbers zero lt i any i_lt = absurd (omega (arith, i_lt))
    no-numbers (suc zero) lt i any i_lt = absurd (omega (arith, i_lt))
    no-numbers (suc (suc m)) lt i any i_lt = absurd (omega (arith, lt))

-- all its steps
fed-whole : Leads (fed 1) (opening_marking (fed 1) 0) (Fire 0 ∷ Finish 0 ∷ Latch 0 ∷ Finish 1 ∷ []) (end_marking (fed 1))
fed-whole = (refl, (refl, (refl, (refl, refl))))

-- ---- the same with a token that the channel opens with, begun at cycle 3 of 4

abbrev piped : ℕ → Layout
piped capacity = record { links = (record { producer = 0; consumer = 1; capacity = capacity; needs = []; piped = true }) ∷ []; port_counts = 0 ∷ 0 ∷ []; turns = [] ∷ [] ∷ []; end = 4 }

piped-left : left (piped 1) (counts_of (piped 1) (opening_marking (piped 1) 3)) ≡ 4
piped-left = refl

-- the token that the channel opens with is taken first; it holds one again at the end
piped-whole : Leads (piped 1) (opening_marking (piped 1) 3) (Latch 0 ∷ Finish 1 ∷ Fire 0 ∷ Finish 0 ∷ []) (end_marking (piped 1))
piped-whole = (refl, (refl, (refl, (refl, refl))))

piped-held : held (piped 1) (end_marking (piped 1)) 0 ≡ 1
piped-held = refl

-- at capacity 1 its room is taken until then
piped-full : marked_refusal (piped 1) (opening_marking (piped 1) 3) (Fire 0) ≡ Some (Full 0 1)
piped-full = refl

-- ---- without room nothing goes on

no-room-fire : marked_refusal (fed 0) (opening_marking (fed 0) 0) (Fire 0) ≡ Some (Full 0 0)
no-room-fire = refl

no-room-latch : marked_refusal (fed 0) (opening_marking (fed 0) 0) (Latch 0) ≡ Some (NoToken 0)
no-room-latch = refl

no-room-finish : marked_refusal (fed 0) (opening_marking (fed 0) 0) (Finish 0) ≡ Some (Unfired 0)
no-room-finish = refl

no-room-finish-tray : marked_refusal (fed 0) (opening_marking (fed 0) 0) (Finish 1) ≡ Some (NeedsInput 0)
no-room-finish-tray = refl

-- ---- counts that can't come up: more is taken than was put

not-allowed : IsAllowed (fed 1) (record { puts = λ c. 0; takes = λ c. 1; cycles = λ m. 0; serves = λ m. 0 }) → ⊥
not-allowed allowed = let flows : Flows (record { puts = λ c. 0; takes = λ c. 1; cycles = λ m. 0; serves = λ m. 0 }) 0 1 0 = allowed.flows 0 (omega arith) in omega (arith, flows.least)

-- where the channel opens with a token, these counts can come up
first-taken : Flows (record { puts = λ c. 0; takes = λ c. 1; cycles = λ m. 0; serves = λ m. 0 }) (early (piped 1) 0) 1 0
first-taken = record { least = omega arith; most = omega arith }
