-- A network worked by hand that begins at cycle 1, with a channel that opens with a token: a source sets a counter,
-- whose values go to a tray one cycle later.
use Rattle.std.proofs.Common.{Option, None, ◌≡◌, ℕ, zero, suc, ◌+◌, ◌<◌, ◌≤◌, List, [], ◌∷◌, Some, None, false, length, drop, refl, sym, ap, arith, lit<}
use Rattle.std.specs.Prelude.{All, Contains}
use Rattle.std.proofs.lemmas.Option.{none-some, same_Some}
use Rattle.gg_bits.specs.Shape.{Fits}
use Rattle.gg_flat.specs.Line.{value_at, shape_at}
use Rattle.gg_flat.specs.Circuit.{register_shapes}
use Rattle.gg_flat.specs.Reads.{IsPath, Reaches}
use Rattle.gg_flat.specs.State.{State, IsState}
use Rattle.gg_flat.specs.Settled.{in_shapes, IsInputs}
use Rattle.gg_flat.specs.Depends.{DependsOn}
use Rattle.gg_flat.specs.Run.{Start, later, since, inputs_at, row_at, IsRunFrom}
use Rattle.gg_flat.specs.Streams.{Flow}
use Rattle.gg_order.proofs.RunsLemmas.AlongLemmas.{IsRunFrom-along}
use Rattle.gg_order.proofs.RunsLemmas.UniqueLemmas.{Settled-once}
use Rattle.gg_order.proofs.RunsLemmas.DependLemmas.{depends-reached}
use Rattle.gg_flat.proofs.WorkedCircuits.{loaded, loaded_order}
use Rattle.gg_flat.proofs.WorkedForms.{only, both, three, loaded-formed, loaded-ordered}
use Rattle.gg_node.specs.Machine.{RunsPiece, Port, Machine, no_state, machine_at, needs_at, source_machine, tray_machine}
use Rattle.gg_node.specs.Step.{fields_of}
use Rattle.gg_net.specs.declared.shape.Wire.{Wire}
use Rattle.gg_net.specs.declared.event.Event.TheVariants.{Latch, Fire}
use Rattle.gg_net.specs.declared.event.StepRefusal.{StepRefusal}
use Rattle.gg_net.specs.declared.event.StepRefusal.TheVariants.{Full}
use Rattle.gg_net.specs.Network.{Network, wire_at, IsAtIn, IsAtOut, queue_at, entered_by, puts, takes, entered, kind_at, frame_of}
use Rattle.gg_net.specs.Step.{after_latch, Ready, Refused}
use Rattle.gg_net.specs.Kept.{list_at, rows_at, start_at, in_columns, Runs, RunsRows, Answers, Asks, Solves, IsWired, NeedsChannel, BetweenAt, HasKept, Kept}
use Rattle.gg_net.specs.inside.Net.{IsOpening, HasRoom}
use Rattle.gg_net.specs.Net.{opening_net}
use Rattle.gg_net.proofs.OpenLemmas.{machine-open}
use Rattle.gg_net.proofs.WorkedNets.{no-needs}

abbrev holds : ℕ → State
holds v = record { registers = v ∷ []; banks = [] }

-- the counter holds 3 before cycle 1; its in sets it to 5
abbrev counts : Machine
counts = record { behaviour = RunsPiece loaded; limit = 10; ratios = []; needs = [] ∷ []; port_count = 0; ports = []; cycle = 1; state = holds 3; served = 0; latches = None ∷ []; flags = false ∷ []; kept = [] }

abbrev wires : List Wire
wires = record { producer = 0; out = 0; consumer = 1; place = 0; capacity = 1; first = None } ∷ record { producer = 1; out = 0; consumer = 2; place = 0; capacity = 1; first = Some 7 } ∷ []

abbrev machines : List Machine
machines = source_machine (0 ∷ 1 ∷ 0 ∷ []) 1 (false ∷ []) ∷ counts ∷ tray_machine 2 10 1 [] None ∷ []

abbrev piped : Network
piped = opening_net machines wires 3

-- the counter's rows in cycles 1 and 2; the tray gets 7 in cycle 1, and then what the counter had a cycle before
abbrev rows : List (List ℕ)
rows = [] ∷ (1 ∷ 3 ∷ []) ∷ (0 ∷ 5 ∷ []) ∷ []

abbrev flow : Flow
flow = record { lists = (0 ∷ 1 ∷ 0 ∷ []) ∷ (0 ∷ 7 ∷ 3 ∷ 5 ∷ []) ∷ []; runs = [] ∷ rows ∷ [] ∷ []; begin = 1; states = no_state ∷ holds 3 ∷ no_state ∷ [] }

abbrev start : Start
start = record { cycle = 1; state = holds 3; ratios = [] }

-- ---- the counter's rows are a run from cycle 1

is-state : IsState loaded (holds 3)
is-state = record {
  typed = record { count = refl; fits = only (λ i. Fits (shape_at (register_shapes loaded) i) (value_at (3 ∷ []) i)) (omega arith) };
  held = record { count = refl; each = λ m any lt. absurd (omega (arith, lt)) };
}

are-inputs : (t : ℕ) → t < 2 → IsInputs loaded (inputs_at ((0 ∷ 1 ∷ 0 ∷ []) ∷ []) (later 1 t))
are-inputs =
    both (λ t. IsInputs loaded (inputs_at ((0 ∷ 1 ∷ 0 ∷ []) ∷ []) (later 1 t)))
    (record { count = refl; fits = only (λ i. Fits (shape_at (in_shapes loaded) i) (value_at (1 ∷ []) i)) (omega arith) })
    (record { count = refl; fits = only (λ i. Fits (shape_at (in_shapes loaded) i) (value_at (0 ∷ []) i)) (omega arith) })

run : IsRunFrom loaded start (in_columns loaded rows) (since 1 3) (drop 1 rows)
run = IsRunFrom-along loaded loaded_order start ((0 ∷ 1 ∷ 0 ∷ []) ∷ []) 2 loaded-formed loaded-ordered is-state are-inputs

-- the out reaches no in
none-by : (place : ℕ) (path : List ℕ) → place < 1 → IsPath loaded 1 path (value_at loaded.ins place) → Contains {X = ℕ} [] place
none-by zero [] lt is = absurd (omega (arith, is))
none-by zero (next ∷ path) lt is = absurd is.0.names
none-by (suc place) path lt is = absurd (omega (arith, lt))

pub none-reached : (place : ℕ) → place < 1 → Reaches loaded 1 (value_at loaded.ins place) → Contains {X = ℕ} [] place
none-reached place lt to = none-by place to.path lt to.reads

runs-rows : RunsRows loaded (kind_at (frame_of piped).kinds 1) start rows 3
runs-rows =
    record {
      formed = loaded-formed;
      once = λ state inputs v w sv sw. Settled-once loaded loaded_order state inputs v w loaded-ordered sv sw;
      suffice = only (λ o. DependsOn loaded (value_at loaded.outs o) (needs_at ([] ∷ []) o)) (depends-reached loaded loaded_order 1 [] loaded-formed loaded-ordered (lit< tt) none-reached);
      ins = refl;
      outs = refl;
      is = run;
      serves = tt;
    }

solved : Solves flow (frame_of piped)
solved =
    record {
      begins = omega arith;
      able = three (λ m. 3 ≤ (kind_at (frame_of piped).kinds m).limit) (omega arith) (omega arith) (omega arith);
      does = three (λ m. Runs (kind_at (frame_of piped).kinds m).behaviour (kind_at (frame_of piped).kinds m) (start_at flow (kind_at (frame_of piped).kinds m) m) (rows_at flow.runs m) 3) (omega arith, refl) runs-rows (refl, refl, λ below. omega arith);
      long = both (λ c. length (list_at flow.lists c) ≡ entered_by (wire_at wires c).first 3) refl refl;
      opens = opens;
      given = given;
      taken = taken;
    }
  where
    opens : (c token : ℕ) → c < 2 → (wire_at wires c).first ≡ Some token → token ≡ value_at (list_at flow.lists c) 1
    opens zero token known is = absurd (none-some token is)
    opens (suc zero) token known is = sym (same_Some 7 token is)
    opens (suc (suc c)) token known is = absurd (omega (arith, known))

    counted : (t : ℕ) → 1 ≤ t → t < 3 → value_at (row_at rows t) 1 ≡ value_at (0 ∷ 7 ∷ 3 ∷ 5 ∷ []) (suc t)
    counted zero le lt = absurd (omega (arith, le))
    counted (suc zero) le lt = refl
    counted (suc (suc zero)) le lt = refl
    counted (suc (suc (suc t))) le lt = absurd (omega (arith, lt))

    set : (t : ℕ) → 1 ≤ t → t < 3 → value_at (row_at rows t) 0 ≡ value_at (0 ∷ 1 ∷ 0 ∷ []) t
    set zero le lt = absurd (omega (arith, le))
    set (suc zero) le lt = refl
    set (suc (suc zero)) le lt = refl
    set (suc (suc (suc t))) le lt = absurd (omega (arith, lt))

    given : (c : ℕ) → c < 2 → (t : ℕ) → 1 ≤ t → t < 3 → Answers (kind_at (frame_of piped).kinds (wire_at wires c).producer).behaviour (rows_at flow.runs (wire_at wires c).producer) (wire_at wires c).out t (value_at (list_at flow.lists c) (entered_by (wire_at wires c).first t))
    given zero known t le lt = refl
    given (suc zero) known t le lt = counted t le lt
    given (suc (suc c)) known t le lt = absurd (omega (arith, known))

    taken : (c : ℕ) → c < 2 → (t : ℕ) → 1 ≤ t → t < 3 → Asks (kind_at (frame_of piped).kinds (wire_at wires c).consumer).behaviour (rows_at flow.runs (wire_at wires c).consumer) (wire_at wires c).place t (value_at (list_at flow.lists c) t)
    taken zero known t le lt = set t le lt
    taken (suc zero) known t le lt = tt
    taken (suc (suc c)) known t le lt = absurd (omega (arith, known))

-- the channel opens with the token that its list has at the first cycle, and with no other
not-another : Solves (record flow { lists = (0 ∷ 1 ∷ 0 ∷ []) ∷ (0 ∷ 8 ∷ 3 ∷ 5 ∷ []) ∷ [] }) (frame_of piped) → ⊥
not-another solves = let is : ◌≡◌ {A = ℕ} 7 8 = solves.opens 1 7 (lit< tt) refl in omega (arith, is)

-- without the delay the lists solve nothing
not-at-once : Solves (record flow { lists = (0 ∷ 1 ∷ 0 ∷ []) ∷ (0 ∷ 3 ∷ 5 ∷ 0 ∷ []) ∷ [] }) (frame_of piped) → ⊥
not-at-once solves = let is : ◌≡◌ {A = ℕ} 7 3 = solves.opens 1 7 (lit< tt) refl in omega (arith, is)

-- ---- the wiring

into : (m i : ℕ) → m < 3 → i < (kind_at (frame_of piped).kinds m).ins → (c : ℕ) × IsAtIn wires m i c
into zero i there below = absurd (omega (arith, below))
into (suc zero) zero there below = (0, record { known = lit< tt; machine = refl; place = refl })
into (suc zero) (suc i) there below = absurd (omega (arith, below))
into (suc (suc zero)) zero there below = (1, record { known = lit< tt; machine = refl; place = refl })
into (suc (suc zero)) (suc i) there below = absurd (omega (arith, below))
into (suc (suc (suc m))) i there below = absurd (omega (arith, there))

from : (m o : ℕ) → m < 3 → o < (kind_at (frame_of piped).kinds m).outs → (c : ℕ) × IsAtOut wires m o c
from zero zero there below = (0, record { known = lit< tt; machine = refl; out = refl })
from zero (suc o) there below = absurd (omega (arith, below))
from (suc zero) zero there below = (1, record { known = lit< tt; machine = refl; out = refl })
from (suc zero) (suc o) there below = absurd (omega (arith, below))
from (suc (suc zero)) o there below = absurd (omega (arith, below))
from (suc (suc (suc m))) o there below = absurd (omega (arith, there))

one-in : (c d : ℕ) → c < 2 → d < 2 → (wire_at wires c).consumer ≡ (wire_at wires d).consumer → c ≡ d
one-in zero zero low high same = refl
one-in zero (suc zero) low high same = absurd (omega (arith, same))
one-in (suc zero) zero low high same = absurd (omega (arith, same))
one-in (suc zero) (suc zero) low high same = refl
one-in (suc (suc c)) d low high same = absurd (omega (arith, low))
one-in zero (suc (suc d)) low high same = absurd (omega (arith, high))
one-in (suc zero) (suc (suc d)) low high same = absurd (omega (arith, high))

one-out : (c d : ℕ) → c < 2 → d < 2 → (wire_at wires c).producer ≡ (wire_at wires d).producer → c ≡ d
one-out zero zero low high same = refl
one-out zero (suc zero) low high same = absurd (omega (arith, same))
one-out (suc zero) zero low high same = absurd (omega (arith, same))
one-out (suc zero) (suc zero) low high same = refl
one-out (suc (suc c)) d low high same = absurd (omega (arith, low))
one-out zero (suc (suc d)) low high same = absurd (omega (arith, high))
one-out (suc zero) (suc (suc d)) low high same = absurd (omega (arith, high))

needs : (m o i : ℕ) → m < 3 → Contains (needs_at (kind_at (frame_of piped).kinds m).needs o) i → i < (kind_at (frame_of piped).kinds m).ins
needs zero o i there has = absurd (no-needs o i has)
needs (suc zero) o i there has = absurd (no-needs o i has)
needs (suc (suc zero)) o i there has = absurd (omega (arith, has.1))
needs (suc (suc (suc m))) o i there has = absurd (omega (arith, there))

wired : IsWired (frame_of piped)
wired =
    record {
      some = both (λ c. 0 < (wire_at wires c).capacity) (lit< tt) (lit< tt);
      producer = both (λ c. (wire_at wires c).producer < 3) (lit< tt) (lit< tt);
      out = both (λ c. (wire_at wires c).out < (kind_at (frame_of piped).kinds (wire_at wires c).producer).outs) (lit< tt) (lit< tt);
      consumer = both (λ c. (wire_at wires c).consumer < 3) (lit< tt) (lit< tt);
      place = both (λ c. (wire_at wires c).place < (kind_at (frame_of piped).kinds (wire_at wires c).consumer).ins) (lit< tt) (lit< tt);
      into = into;
      from = from;
      order = record { ins = λ c d before high same. let is : c ≡ d = one-in c d (omega (arith, before, high)) high same in omega (arith, before, is); outs = λ c d before high same. let is : c ≡ d = one-out c d (omega (arith, before, high)) high same in omega (arith, before, is) };
      needs = needs;
      fields = three (λ m. All (λ (port : Port). All (λ i. i < (kind_at (frame_of piped).kinds m).ins) (fields_of port.access)) (kind_at (frame_of piped).kinds m).ports) (λ k d lt. absurd (omega (arith, lt))) (λ k d lt. absurd (omega (arith, lt))) (λ k d lt. absurd (omega (arith, lt)));
      numbers = three (λ m. All (λ (port : Port). port.number < (kind_at (frame_of piped).kinds m).port_count) (kind_at (frame_of piped).kinds m).ports) (λ k d lt. absurd (omega (arith, lt))) (λ k d lt. absurd (omega (arith, lt))) (λ k d lt. absurd (omega (arith, lt)));
    }

-- no channel needs another
lower : (c d : ℕ) → NeedsChannel (frame_of piped) c d → value_at (0 ∷ 0 ∷ []) d < value_at (0 ∷ 0 ∷ []) c
lower zero d needs = absurd (no-needs 0 needs.place needs.needed)
lower (suc zero) d needs = absurd (no-needs 0 needs.place needs.needed)
lower (suc (suc c)) d needs = absurd (omega (arith, needs.known))

-- with a capacity of 0 it isn't wired
not-without-room : IsWired (record (frame_of piped) { wires = record { producer = 0; out = 0; consumer = 1; place = 0; capacity = 0; first = None } ∷ record { producer = 1; out = 0; consumer = 2; place = 0; capacity = 1; first = Some 7 } ∷ [] }) → ⊥
not-without-room wired = let some : 0 < 0 = wired.some 0 (lit< tt) in omega (arith, some)

-- ---- the opening

opening : (m : ℕ) → m < 3 → IsOpening flow m (machine_at machines m)
opening =
    three (λ m. IsOpening flow m (machine_at machines m))
    (record { cycle = refl; state = refl; served = refl; latches = refl; flags = refl; kept = refl })
    (record { cycle = refl; state = refl; served = refl; latches = refl; flags = refl; kept = refl })
    (record { cycle = refl; state = refl; served = refl; latches = refl; flags = refl; kept = refl })

-- a machine that is in cycle 0, or in another state, isn't before its first cycle
not-at-zero : IsOpening flow 1 (record counts { cycle = 0 }) → ⊥
not-at-zero open_at = let is : ◌≡◌ {A = ℕ} 0 1 = open_at.cycle in omega (arith, is)

not-from-zeros : IsOpening flow 1 (record counts { state = holds 0 }) → ⊥
not-from-zeros open_at = let is : ◌≡◌ {A = ℕ} 0 3 = ap (λ (state : State). value_at state.registers 0) open_at.state in omega (arith, is)

two-entered : entered piped 1 ≡ 2
two-entered = refl

one-put : puts piped 1 ≡ 1
one-put = refl

opens-empty : BetweenAt (0 ∷ 1 ∷ 0 ∷ []) 1 (takes piped 0) (entered piped 0) []
opens-empty = record { held = refl; room = omega arith; tokens = λ j lt. absurd (omega (arith, lt)) }

opens-with : BetweenAt (0 ∷ 7 ∷ 3 ∷ 5 ∷ []) 1 (takes piped 1) (entered piped 1) (7 ∷ [])
opens-with = record { held = refl; room = omega arith; tokens = only (λ j. value_at (7 ∷ []) j ≡ value_at (0 ∷ 7 ∷ 3 ∷ 5 ∷ []) (1 + j)) refl }

-- without its token, or with the token twice, the queue doesn't agree with the list, whatever the capacity is
not-empty : (capacity : ℕ) → BetweenAt (0 ∷ 7 ∷ 3 ∷ 5 ∷ []) capacity (takes piped 1) (entered piped 1) [] → ⊥
not-empty capacity between = let held : ◌≡◌ {A = ℕ} 1 2 = between.held in omega (arith, held)

not-put-twice : (capacity : ℕ) → BetweenAt (0 ∷ 7 ∷ 3 ∷ 5 ∷ []) capacity (takes piped 1) (entered piped 1) (7 ∷ 7 ∷ []) → ⊥
not-put-twice capacity between = let held : ◌≡◌ {A = ℕ} 3 2 = between.held in omega (arith, held)

kept : Kept flow piped
kept =
    record {
      queues = refl;
      sound = record { wired = wired; no_ring = record { ranks = 0 ∷ 0 ∷ []; lower = lower }; solves = solved };
      machines = λ m there. machine-open flow machines wires 3 (omega arith) m (opening m there);
      channels = both (λ c. BetweenAt (list_at flow.lists c) (wire_at wires c).capacity (takes piped c) (entered piped c) (queue_at piped.queues c)) opens-empty opens-with;
    }

-- the queue is full before the first token is put; its token may be latched
full-at-once : Refused piped (Fire 1) (Full 1 1)
full-at-once = refl

no-room : Ready piped (Fire 1) → ⊥
no-room ready = let is : ◌≡◌ {A = Option StepRefusal} (Some (Full 1 1)) None = ready in cc

not-full-of-none : Refused piped (Fire 1) (Full 1 0) → ⊥
not-full-of-none refused = let is : ◌≡◌ {A = Option StepRefusal} (Some (Full 1 1)) (Some (Full 1 0)) = refused in cc

may-latch : Ready piped (Latch 1)
may-latch = refl

-- then there is room
after-latch : Ready (after_latch piped 1) (Fire 1)
after-latch = refl

-- ---- a tray that keeps the last two of the values from cycle 1 on

kept-none : HasKept (0 ∷ 7 ∷ 3 ∷ 5 ∷ []) 1 2 1 []
kept-none = record { base = 1; between = record { held = refl; room = omega arith; tokens = λ j lt. absurd (omega (arith, lt)) }; begun = omega arith; whole = λ few. refl }

kept-last : HasKept (0 ∷ 7 ∷ 3 ∷ 5 ∷ []) 1 2 4 (3 ∷ 5 ∷ [])
kept-last = record { base = 2; between = record { held = refl; room = omega arith; tokens = both (λ j. value_at (3 ∷ 5 ∷ []) j ≡ value_at (0 ∷ 7 ∷ 3 ∷ 5 ∷ []) (2 + j)) refl refl }; begun = omega arith; whole = λ few. absurd (omega (arith, few)) }

not-fewer : HasKept (0 ∷ 7 ∷ 3 ∷ 5 ∷ []) 1 2 4 (5 ∷ []) → ⊥
not-fewer has = let whole : has.base ≡ 1 = has.whole (lit< tt) in omega (arith, whole, has.between.held)

not-from-before : HasKept (0 ∷ 7 ∷ 3 ∷ 5 ∷ []) 1 2 2 (0 ∷ 7 ∷ []) → ⊥
not-from-before has = omega (arith, has.begun, has.between.held)

-- a queue has room for its channel's capacity, and not for a token less
not-less-room : ¬ HasRoom (record { producer = 0; out = 0; consumer = 1; place = 0; capacity = 4; first = None } ∷ []) (record { tokens = []; room = 3 } ∷ [])
not-less-room room = let least : 4 ≤ 3 = room 0 (lit< tt) in absurd (omega (arith, least))
