-- A network worked by hand in which a channel leads from a machine to itself: the value of a counter in a cycle sets it
-- in the same cycle, if it is 1.
use Rattle.std.proofs.Common.{◌≡◌, ℕ, zero, suc, ◌<◌, ◌≤◌, List, [], ◌∷◌, Option, Some, None, Bool, true, false, length, refl, arith, lit<}
use Rattle.std.proofs.lemmas.Option.{none-some}
use Rattle.gg_bits.specs.Shape.{Fits}
use Rattle.gg_flat.specs.Line.{value_at, shape_at}
use Rattle.gg_flat.specs.Circuit.{register_shapes}
use Rattle.gg_flat.specs.State.{State, IsState}
use Rattle.gg_flat.specs.Settled.{in_shapes, IsInputs}
use Rattle.gg_flat.specs.Depends.{DependsOn}
use Rattle.gg_flat.specs.Run.{Start, later, inputs_at, row_at, IsRunFrom}
use Rattle.gg_flat.specs.Streams.{Flow}
use Rattle.gg_order.proofs.RunsLemmas.AlongLemmas.{IsRunFrom-along}
use Rattle.gg_order.proofs.RunsLemmas.UniqueLemmas.{Settled-once}
use Rattle.gg_order.proofs.RunsLemmas.DependLemmas.{depends-reached}
use Rattle.gg_flat.proofs.WorkedCircuits.{loaded, loaded_order}
use Rattle.gg_flat.proofs.WorkedForms.{only, both, loaded-formed, loaded-ordered}
use Rattle.gg_node.specs.Machine.{RunsPiece, Machine, needs_at}
use Rattle.gg_net.specs.declared.shape.Wire.{Wire}
use Rattle.gg_net.specs.Network.{Network, wire_at, entered_by, puts, takes, kind_at, frame_of}
use Rattle.gg_net.specs.declared.event.Event.TheVariants.{Latch, Fire, Finish}
use Rattle.gg_net.specs.declared.event.StepRefusal.{StepRefusal}
use Rattle.gg_net.specs.declared.event.StepRefusal.TheVariants.{NeedsInput}
use Rattle.gg_net.specs.Step.{after_latch, after_fire, after_finish, Ready}
use Rattle.gg_net.specs.Kept.{list_at, rows_at, start_at, in_columns, Runs, RunsRows, Answers, Asks, Solves, NeedsChannel, HasNoRing}
use Rattle.gg_net.proofs.WorkedNets.{no-needs}
use Rattle.gg_net.proofs.WorkedPipes.{none-reached}

abbrev holds : ℕ → State
holds v = record { registers = v ∷ []; banks = [] }

abbrev counts : ℕ → ℕ → Option ℕ → Bool → Machine
counts cycle v latch flag = record { behaviour = RunsPiece loaded; limit = 10; ratios = []; needs = [] ∷ []; port_count = 0; ports = []; cycle = cycle; state = holds v; served = 0; latches = latch ∷ []; flags = flag ∷ []; kept = [] }

abbrev wires : List Wire
wires = record { producer = 0; out = 0; consumer = 0; place = 0; capacity = 1; first = None } ∷ []

abbrev loop : Machine → List ℕ → Network
loop machine queue = record { machines = machine ∷ []; wires = wires; queues = queue ∷ []; end = 2 }

abbrev opens : Network
opens = loop (counts 0 0 None false) []

-- ---- the values that its channel should carry solve it: 0 and then 1

abbrev rows : List (List ℕ)
rows = (0 ∷ 0 ∷ []) ∷ (1 ∷ 1 ∷ []) ∷ []

abbrev flow : Flow
flow = record { lists = (0 ∷ 1 ∷ []) ∷ []; runs = rows ∷ []; begin = 0; states = holds 0 ∷ [] }

abbrev start : Start
start = record { cycle = 0; state = holds 0; ratios = [] }

is-state : IsState loaded (holds 0)
is-state = record {
  typed = record { count = refl; fits = only (λ i. Fits (shape_at (register_shapes loaded) i) (value_at (0 ∷ []) i)) (omega arith) };
  held = record { count = refl; each = λ m any lt. absurd (omega (arith, lt)) };
}

are-inputs : (t : ℕ) → t < 2 → IsInputs loaded (inputs_at ((0 ∷ 1 ∷ []) ∷ []) (later 0 t))
are-inputs =
    both (λ t. IsInputs loaded (inputs_at ((0 ∷ 1 ∷ []) ∷ []) (later 0 t)))
    (record { count = refl; fits = only (λ i. Fits (shape_at (in_shapes loaded) i) (value_at (0 ∷ []) i)) (omega arith) })
    (record { count = refl; fits = only (λ i. Fits (shape_at (in_shapes loaded) i) (value_at (1 ∷ []) i)) (omega arith) })

run : IsRunFrom loaded start (in_columns loaded rows) 2 rows
run = IsRunFrom-along loaded loaded_order start ((0 ∷ 1 ∷ []) ∷ []) 2 loaded-formed loaded-ordered is-state are-inputs

runs-rows : RunsRows loaded (kind_at (frame_of opens).kinds 0) start rows 2
runs-rows =
    record {
      formed = loaded-formed;
      once = λ state inputs v w sv sw. Settled-once loaded loaded_order state inputs v w loaded-ordered sv sw;
      suffice = only (λ o. DependsOn loaded (value_at loaded.outs o) (needs_at ([] ∷ []) o)) (depends-reached loaded loaded_order 1 [] loaded-formed loaded-ordered (lit< tt) none-reached);
      ins = refl;
      outs = refl;
      is = run;
      serves = tt;
    }

solved : Solves flow (frame_of opens)
solved =
    record {
      begins = omega arith;
      able = only (λ m. 2 ≤ (kind_at (frame_of opens).kinds m).limit) (omega arith);
      does = only (λ m. Runs (kind_at (frame_of opens).kinds m).behaviour (kind_at (frame_of opens).kinds m) (start_at flow (kind_at (frame_of opens).kinds m) m) (rows_at flow.runs m) 2) runs-rows;
      long = only (λ c. length (list_at flow.lists c) ≡ entered_by (wire_at wires c).first 2) refl;
      opens = λ c token known is. absurd (none-first c token known is);
      given = λ c known t ge lt. given c known t lt;
      taken = λ c known t ge lt. taken c known t lt;
    }
  where
    none-first : (c token : ℕ) → c < 1 → (wire_at wires c).first ≡ Some token → ⊥
    none-first zero token known is = none-some token is
    none-first (suc c) token known is = absurd (omega (arith, known))

    given : (c : ℕ) → c < 1 → (t : ℕ) → t < 2 → Answers (kind_at (frame_of opens).kinds (wire_at wires c).producer).behaviour (rows_at flow.runs (wire_at wires c).producer) (wire_at wires c).out t (value_at (list_at flow.lists c) (entered_by (wire_at wires c).first t))
    given zero known t lt = both (λ t. value_at (row_at rows t) 1 ≡ value_at (0 ∷ 1 ∷ []) t) refl refl t lt
    given (suc c) known t lt = absurd (omega (arith, known))

    taken : (c : ℕ) → c < 1 → (t : ℕ) → t < 2 → Asks (kind_at (frame_of opens).kinds (wire_at wires c).consumer).behaviour (rows_at flow.runs (wire_at wires c).consumer) (wire_at wires c).place t (value_at (list_at flow.lists c) t)
    taken zero known t lt = both (λ t. value_at (row_at rows t) 0 ≡ value_at (0 ∷ 1 ∷ []) t) refl refl t lt
    taken (suc c) known t lt = absurd (omega (arith, known))

-- another list doesn't
not-solved : Solves (record flow { lists = (0 ∷ 0 ∷ []) ∷ [] }) (frame_of opens) → ⊥
not-solved solves = let is : ◌≡◌ {A = ℕ} 1 0 = solves.given 0 (lit< tt) 1 (omega arith) (lit< tt) in omega (arith, is)

-- ---- a ring is only where the out needs the in

lower : (c d : ℕ) → NeedsChannel (frame_of opens) c d → value_at (0 ∷ []) d < value_at (0 ∷ []) c
lower zero d needs = absurd (no-needs 0 needs.place needs.needed)
lower (suc c) d needs = absurd (omega (arith, needs.known))

no-ring : HasNoRing (frame_of opens)
no-ring = record { ranks = 0 ∷ []; lower = lower }

abbrev ringed : Network
ringed = loop (record (counts 0 0 None false) { needs = (0 ∷ []) ∷ [] }) []

needs-itself : NeedsChannel (frame_of ringed) 0 0
needs-itself = record { known = lit< tt; place = 0; needed = (0, omega arith, refl); at = record { known = lit< tt; machine = refl; place = refl } }

not-ringed : HasNoRing (frame_of ringed) → ⊥
not-ringed none = omega (arith, none.lower 0 0 needs-itself)

-- ---- a cycle, event by event

may-fire : Ready opens (Fire 0)
may-fire = refl

gives : after_fire opens 0 0 ≡ loop (counts 0 0 None true) (0 ∷ [])
gives = refl

may-latch : Ready (loop (counts 0 0 None true) (0 ∷ [])) (Latch 0)
may-latch = refl

takes-it : after_latch (loop (counts 0 0 None true) (0 ∷ [])) 0 ≡ loop (counts 0 0 (Some 0) true) []
takes-it = refl

one-each : (puts (loop (counts 0 0 (Some 0) true) []) 0 ≡ 1) × (takes (loop (counts 0 0 (Some 0) true) []) 0 ≡ 1)
one-each = (refl, refl)

finishes : after_finish (loop (counts 0 0 (Some 0) true) []) 0 (holds 1) ≡ loop (counts 1 1 None false) []
finishes = refl

not-before-the-latch : Ready (loop (counts 0 0 None true) (0 ∷ [])) (Finish 0) → ⊥
not-before-the-latch ready = let is : ◌≡◌ {A = Option StepRefusal} (Some (NeedsInput 0)) None = ready in cc
