-- Networks worked by hand: two units that feed each other, and a memory that is served; what each event makes of them,
-- why an event is refused, and what must not hold.
use Rattle.std.proofs.Common.{◌≡◌, ℕ, zero, suc, ◌<◌, List, [], ◌∷◌, Option, Some, None, Bool, true, false, refl, sym, ◌∙◌, arith, lit<}
use Rattle.std.specs.Prelude.{◌+◌, ◌≤◌, slice_index_or, All, Contains, length}
use Rattle.std.proofs.lemmas.Option.{none-some}
use Rattle.gg_bits.specs.Limits.{capacity_limit}
use Rattle.gg_flat.specs.declared.line.Op.TheVariants.{Ref}
use Rattle.gg_flat.specs.declared.piece.Driver.TheVariants.{Input, Held, Computed}
use Rattle.gg_flat.specs.Line.{value_at}
use Rattle.gg_flat.specs.Circuit.{FlatCircuit, no_circuit}
use Rattle.gg_flat.specs.State.{State}
use Rattle.gg_flat.specs.Served.{ByReader, ByWriter}
use Rattle.gg_flat.proofs.WorkedCircuits.{eight, node}
use Rattle.gg_node.specs.Machine.{RunsPiece, Port, Machine, no_state, needs_at, source_machine, tray_machine}
use Rattle.gg_node.specs.Step.{fields_of}
use Rattle.gg_flat.proofs.WorkedForms.{only, both}
use Rattle.gg_net.specs.declared.shape.Wire.{Wire}
use Rattle.gg_net.specs.declared.event.Event.TheVariants.{Latch, Fire, Serve, Finish}
use Rattle.gg_net.specs.declared.event.StepRefusal.{StepRefusal}
use Rattle.gg_net.specs.declared.event.StepRefusal.TheVariants.{Stranger, Ended, Fired, NoToken, NeedsInput, Full, Order, Unfired, Unserved}
use Rattle.gg_net.specs.Network.{Network, IsAtIn, puts, takes, entered_by, serves, frame_of, wire_at, IsAtOut, kind_at}
use Rattle.gg_net.specs.Step.{after_latch, after_fire, after_serve, after_finish, facts_of, Ready, Refused}
use Rattle.gg_net.specs.Kept.{list_at, rows_at, start_at, Runs, Answers, Asks, Solves, IsWired, NeedsChannel, HasNoRing, BetweenAt}
use Rattle.gg_net.proofs.FindLemmas.{some-none}
use Rattle.gg_net.proofs.RowLemmas.{serve-stranger}
use Rattle.gg_net.specs.inside.Net.{IsWithinLimits}
use Rattle.gg_net.specs.Net.{opening_net}
use Rattle.gg_net.specs.declared.shape.Station.{Station}
use Rattle.gg_flat.specs.Streams.{Flow}

-- ---- two units: the out of `a` is its register, which takes its in; the out of `b` is its in

abbrev held : FlatCircuit
held =
    record {
      paths = (120 ∷ []) ∷ (121 ∷ []) ∷ [];
      signals = record { ty = eight; driver = Input 0 } ∷ record { ty = eight; driver = Held 0 } ∷ [];
      registers = record { ty = eight; reset = None; next = Some (node eight (Ref 0) ∷ []); clock = None } ∷ [];
      memories = [];
      ins = 0 ∷ [];
      outs = 1 ∷ [];
      clocks = 0;
    }

abbrev passed : FlatCircuit
passed =
    record {
      paths = (120 ∷ []) ∷ (121 ∷ []) ∷ [];
      signals = record { ty = eight; driver = Input 0 } ∷ record { ty = eight; driver = Computed (node eight (Ref 0) ∷ []) } ∷ [];
      registers = [];
      memories = [];
      ins = 0 ∷ [];
      outs = 1 ∷ [];
      clocks = 0;
    }

abbrev holds : ℕ → State
holds v = record { registers = v ∷ []; banks = [] }

abbrev a : ℕ → ℕ → Option ℕ → Bool → Machine
a cycle v latch flag = record { behaviour = RunsPiece held; limit = 10; ratios = []; needs = [] ∷ []; port_count = 0; ports = []; cycle = cycle; state = holds v; served = 0; latches = latch ∷ []; flags = flag ∷ []; kept = [] }

abbrev b : Option ℕ → Bool → Machine
b latch flag = record { behaviour = RunsPiece passed; limit = 10; ratios = []; needs = (0 ∷ []) ∷ []; port_count = 0; ports = []; cycle = 0; state = no_state; served = 0; latches = latch ∷ []; flags = flag ∷ []; kept = [] }

abbrev wires : List Wire
wires = record { producer = 0; out = 0; consumer = 1; place = 0; capacity = 1; first = None } ∷ record { producer = 1; out = 0; consumer = 0; place = 0; capacity = 2; first = None } ∷ []

abbrev pair : Machine → Machine → List ℕ → List ℕ → Network
pair first second to_b to_a = record { machines = first ∷ second ∷ []; wires = wires; queues = to_b ∷ to_a ∷ []; end = 2 }

abbrev opens : Network
opens = pair (a 0 3 None false) (b None false) [] []

-- ---- one cycle of `a`, event by event

gives : after_fire opens 0 3 ≡ pair (a 0 3 None true) (b None false) (3 ∷ []) []
gives = refl

takes-it : after_latch (pair (a 0 3 None true) (b None false) (3 ∷ []) []) 0 ≡ pair (a 0 3 None true) (b (Some 3) false) [] []
takes-it = refl

gives-back : after_fire (pair (a 0 3 None true) (b (Some 3) false) [] []) 1 3 ≡ pair (a 0 3 None true) (b (Some 3) true) [] (3 ∷ [])
gives-back = refl

takes-back : after_latch (pair (a 0 3 None true) (b (Some 3) true) [] (3 ∷ [])) 1 ≡ pair (a 0 3 (Some 3) true) (b (Some 3) true) [] []
takes-back = refl

finishes : after_finish (pair (a 0 3 (Some 3) true) (b (Some 3) true) [] []) 0 (holds 3) ≡ pair (a 1 3 None false) (b (Some 3) true) [] []
finishes = refl

-- the counts of tokens put and taken, each by the machine of its end
one-put : puts (after_fire opens 0 3) 0 ≡ 1
one-put = refl

none-taken : takes (after_fire opens 0 3) 0 ≡ 0
none-taken = refl

still-put : puts (pair (a 1 3 None false) (b (Some 3) true) [] []) 0 ≡ 1
still-put = refl

-- nothing is served where there is no port
none-served : serves (pair (a 1 3 None false) (b (Some 3) true) [] []) 0 ≡ 0
none-served = refl

-- ---- when an event may be done: an out waits only for the ins that it needs

all-true : (k : ℕ) (d : Bool) → k < 1 → slice_index_or (true ∷ []) k d ≡ true
all-true zero d below = refl
all-true (suc k) d below = absurd (omega arith)

a-first : Ready opens (Fire 0)
a-first = refl

b-waits : Refused opens (Fire 1) (NeedsInput 0)
b-waits = refl

b-not-yet : Ready opens (Fire 1) → ⊥
b-not-yet ready = let is : ◌≡◌ {A = Option StepRefusal} (Some (NeedsInput 0)) None = ready in cc

nothing-to-take : Refused opens (Latch 0) (NoToken 0)
nothing-to-take = refl

no-channel : Refused opens (Latch 2) Stranger
no-channel = refl

not-whole : Refused opens (Finish 0) (Unfired 0)
not-whole = refl

without-in : Refused (after_fire opens 0 3) (Finish 0) (NeedsInput 1)
without-in = refl

-- the first condition that fails gives the refusal: a flag comes before a queue without room
twice : Refused (after_fire opens 0 3) (Fire 0) Fired
twice = refl

not-full-first : Refused (after_fire opens 0 3) (Fire 0) (Full 0 1) → ⊥
not-full-first refused = let is : ◌≡◌ {A = Option StepRefusal} (Some Fired) (Some (Full 0 1)) = refused in cc

no-room : Refused (pair (a 1 3 None false) (b None false) (3 ∷ []) []) (Fire 0) (Full 0 1)
no-room = refl

-- a machine that has done all its cycles
ended : Refused (pair (a 2 3 None false) (b None false) [] []) (Fire 0) Ended
ended = refl

-- ---- no ring: only the channel of `b` needs another

second : (place d : ℕ) → IsAtIn wires 1 place d → value_at (0 ∷ 1 ∷ []) d < 1
second place zero at = lit< tt
second place (suc zero) at = absurd (omega (arith, at.machine))
second place (suc (suc d)) at = absurd (omega (arith, at.known))

lower : (c d : ℕ) → NeedsChannel (frame_of opens) c d → value_at (0 ∷ 1 ∷ []) d < value_at (0 ∷ 1 ∷ []) c
lower zero d needs = absurd (omega (arith, needs.needed.1))
lower (suc zero) d needs = second needs.place d needs.at
lower (suc (suc c)) d needs = absurd (omega (arith, needs.known))

ranked : HasNoRing (frame_of opens)
ranked = record { ranks = 0 ∷ 1 ∷ []; lower = lower }

-- ---- a queue: the list from the tokens taken to those put

queued : BetweenAt (3 ∷ 5 ∷ []) 1 0 1 (3 ∷ [])
queued = record { held = refl; room = omega arith; tokens = λ j below. first j below }
  where
    first : (j : ℕ) → j < 1 → value_at (3 ∷ []) j ≡ value_at (3 ∷ 5 ∷ []) (0 + j)
    first zero below = refl
    first (suc j) below = absurd (omega arith)

not-another : BetweenAt (3 ∷ 5 ∷ []) 1 0 1 (5 ∷ []) → ⊥
not-another between = omega (arith, between.tokens 0 (lit< tt))

not-longer : BetweenAt (3 ∷ 5 ∷ []) 1 0 2 (3 ∷ 5 ∷ []) → ⊥
not-longer between = omega (arith, between.room)

not-lost : BetweenAt (3 ∷ 5 ∷ []) 1 0 1 [] → ⊥
not-lost between = omega (arith, between.held)

-- ---- a memory that is served: a late reader (port 0) before a writer (port 1)

abbrev ports : List Port
ports =
    record { number = 0; access = ByReader 0 (record { addr = 0; en = 1; word = 6; clock = None }) }
    ∷ record { number = 1; access = ByWriter 0 (record { addr = 2; en = 3; word = 4; mask = 5; clock = None }) }
    ∷ []

abbrev memory : ℕ → List (Option ℕ) → Bool → Machine
memory served latches flag =
    record {
      behaviour = RunsPiece no_circuit;
      limit = 10;
      ratios = [];
      needs = [] ∷ [];
      port_count = 2;
      ports = ports;
      cycle = 0;
      state = record { registers = []; banks = record { words = 7 ∷ 9 ∷ []; reads = 0 ∷ [] } ∷ [] };
      served = served;
      latches = latches;
      flags = flag ∷ [];
      kept = [];
    }

abbrev alone : Machine → Network
alone machine =
    record { machines = machine ∷ []; wires = record { producer = 0; out = 0; consumer = 0; place = 0; capacity = 1; first = None } ∷ record { producer = 0; out = 0; consumer = 0; place = 1; capacity = 1; first = None } ∷ []; queues = [] ∷ [] ∷ []; end = 2 }

abbrev with_reader : List (Option ℕ)
with_reader = Some 1 ∷ Some 1 ∷ None ∷ None ∷ None ∷ None ∷ []

reader-first : Ready (alone (memory 0 with_reader true)) (Serve 0 0)
reader-first = refl

not-the-writer : Refused (alone (memory 0 with_reader true)) (Serve 0 1) (Order 0)
not-the-writer = refl

not-before-the-token : Ready (alone (memory 0 with_reader false)) (Serve 0 0) → ⊥
not-before-the-token ready = let is : ◌≡◌ {A = Option StepRefusal} (Some (Unfired 0)) None = ready in cc

field-wanted : Refused (alone (memory 0 (Some 1 ∷ None ∷ None ∷ None ∷ None ∷ None ∷ []) true)) (Serve 0 0) (NeedsInput 1)
field-wanted = refl

no-such-port : Refused (alone (memory 0 with_reader true)) (Serve 0 2) Stranger
no-such-port = refl

-- both were served: none is due, and the refusal has the number of the ports
none-due : Refused (alone (memory 2 with_reader true)) (Serve 0 1) (Order 2)
none-due = refl

left : Refused (alone (memory 1 with_reader true)) (Finish 0) (Unserved 1)
left = refl

-- the reader has the word at 1; the writer hasn't written
served-one : after_serve (alone (memory 0 with_reader true)) 0 ≡ alone (record (memory 1 with_reader true) { state = record { registers = []; banks = record { words = 7 ∷ 9 ∷ []; reads = 9 ∷ [] } ∷ [] } })
served-one = refl

-- two ports a cycle, over four cycles, and one of the fifth
served-so-far : serves (alone (record (memory 1 with_reader true) { cycle = 4 })) 0 ≡ 9
served-so-far = refl

-- what is served in a cycle is counted at once, and counted no more once the cycle is finished
counted-once : serves (after_finish (alone (memory 2 with_reader true)) 0 no_state) 0 ≡ serves (alone (memory 2 with_reader true)) 0
counted-once = refl

one-more : serves (after_serve (alone (memory 0 with_reader true)) 0) 0 ≡ 1
one-more = refl

-- ---- a memory whose reader gives its word in the same cycle: it is port 0, which isn't served; the writer is port 1

abbrev at_once : ℕ → Bool → Machine
at_once served flag = record (memory served with_reader flag) { needs = (0 ∷ 1 ∷ []) ∷ []; ports = record { number = 1; access = ByWriter 0 (record { addr = 2; en = 3; word = 4; mask = 5; clock = None }) } ∷ [] }

-- the reader is a port that is never due
writer-due : Refused (alone (at_once 0 true)) (Serve 0 0) (Order 1)
writer-due = refl

writer-served : Refused (alone (at_once 1 true)) (Serve 0 0) (Order 2)
writer-served = refl

word-first : Refused (alone (at_once 0 false)) (Serve 0 0) (Unfired 0)
word-first = refl

two-ports : Refused (alone (at_once 0 true)) (Serve 0 2) Stranger
two-ports = refl

-- it isn't refused as `Stranger`, and not with the number of the ports while a port is due
reader-there : Refused (alone (at_once 0 true)) (Serve 0 0) Stranger → ⊥
reader-there refused = let is : ◌≡◌ {A = Option StepRefusal} (Some (Order 1)) (Some Stranger) = refused in cc

not-none-due : Refused (alone (at_once 0 true)) (Serve 0 0) (Order 2) → ⊥
not-none-due refused = let is : ◌≡◌ {A = Option StepRefusal} (Some (Order 1)) (Some (Order 2)) = refused in cc

-- ---- a memory that is only read, in the same cycle: none of its ports is served

abbrev read_only : Machine
read_only = record (at_once 0 true) { port_count = 1; ports = [] }

never-due : Refused (alone read_only) (Serve 0 0) (Order 1)
never-due = refl

never-served : (p : ℕ) → Ready (alone read_only) (Serve 0 p) → ⊥
never-served zero ready = let is : ◌≡◌ {A = Option StepRefusal} (Some (Order 1)) None = ready in cc
never-served (suc p) ready = some-none Stranger (sym (serve-stranger (facts_of (alone read_only)) 0 (suc p) (omega arith)) ∙ ready)

-- ---- a source that feeds a tray: the values that its channel should carry, and rows without values, solve the network

-- the source gives 4 and then 6
abbrev pub fed_hosts : List (List Machine)
fed_hosts = (source_machine (4 ∷ 6 ∷ []) 0 (false ∷ []) ∷ []) ∷ (tray_machine 2 2 0 [] None ∷ []) ∷ []

abbrev pub fed_stations : List Station
fed_stations = record { host = 0; thread = 0; ins = []; outs = 0 ∷ []; ports = [] } ∷ record { host = 1; thread = 0; ins = 0 ∷ []; outs = []; ports = [] } ∷ []

abbrev pub fed_wires : List Wire
fed_wires = record { producer = 0; out = 0; consumer = 1; place = 0; capacity = 1; first = None } ∷ []

-- neither has rows
abbrev pub fed_flow : Flow
fed_flow = record { lists = (4 ∷ 6 ∷ []) ∷ []; runs = [] ∷ [] ∷ []; begin = 0; states = no_state ∷ no_state ∷ [] }

abbrev pub fed : Network
fed = opening_net (source_machine (4 ∷ 6 ∷ []) 0 (false ∷ []) ∷ tray_machine 2 2 0 [] None ∷ []) fed_wires 2

fed-into : (m i : ℕ) → m < 2 → i < (kind_at (frame_of fed).kinds m).ins → (c : ℕ) × IsAtIn fed.wires m i c
fed-into zero i there below = absurd (omega (arith, below))
fed-into (suc zero) zero there below = (0, record { known = lit< tt; machine = refl; place = refl })
fed-into (suc zero) (suc i) there below = absurd (omega (arith, below))
fed-into (suc (suc m)) i there below = absurd (omega (arith, there))

fed-from : (m o : ℕ) → m < 2 → o < (kind_at (frame_of fed).kinds m).outs → (c : ℕ) × IsAtOut fed.wires m o c
fed-from zero zero there below = (0, record { known = lit< tt; machine = refl; out = refl })
fed-from zero (suc o) there below = absurd (omega (arith, below))
fed-from (suc zero) o there below = absurd (omega (arith, below))
fed-from (suc (suc m)) o there below = absurd (omega (arith, there))

pub no-needs : (o i : ℕ) → Contains (needs_at ([] ∷ []) o) i → ⊥
no-needs zero i has = omega (arith, has.1)
no-needs (suc o) i has = omega (arith, has.1)

fed-needs : (m o i : ℕ) → m < 2 → Contains (needs_at (kind_at (frame_of fed).kinds m).needs o) i → i < (kind_at (frame_of fed).kinds m).ins
fed-needs zero o i there has = absurd (no-needs o i has)
fed-needs (suc zero) o i there has = absurd (omega (arith, has.1))
fed-needs (suc (suc m)) o i there has = absurd (omega (arith, there))

fed-fields : (m : ℕ) → m < 2 → All (λ (port : Port). All (λ i. i < (kind_at (frame_of fed).kinds m).ins) (fields_of port.access)) (kind_at (frame_of fed).kinds m).ports
fed-fields zero there k d below = absurd (omega (arith, below))
fed-fields (suc zero) there k d below = absurd (omega (arith, below))
fed-fields (suc (suc m)) there k d below = absurd (omega (arith, there))

fed-numbers : (m : ℕ) → m < 2 → All (λ (port : Port). port.number < (kind_at (frame_of fed).kinds m).port_count) (kind_at (frame_of fed).kinds m).ports
fed-numbers zero there k d below = absurd (omega (arith, below))
fed-numbers (suc zero) there k d below = absurd (omega (arith, below))
fed-numbers (suc (suc m)) there k d below = absurd (omega (arith, there))

pub fed-wired : IsWired (frame_of fed)
fed-wired =
    record {
      some = only (λ c. 0 < (wire_at fed.wires c).capacity) (lit< tt);
      producer = only (λ c. (wire_at fed.wires c).producer < 2) (lit< tt);
      out = only (λ c. (wire_at fed.wires c).out < (kind_at (frame_of fed).kinds (wire_at fed.wires c).producer).outs) (lit< tt);
      consumer = only (λ c. (wire_at fed.wires c).consumer < 2) (lit< tt);
      place = only (λ c. (wire_at fed.wires c).place < (kind_at (frame_of fed).kinds (wire_at fed.wires c).consumer).ins) (lit< tt);
      into = fed-into;
      from = fed-from;
      order = record { ins = λ c d before there same. omega (arith, before, there); outs = λ c d before there same. omega (arith, before, there) };
      needs = fed-needs;
      fields = fed-fields;
      numbers = fed-numbers;
    }

pub fed-solved : Solves fed_flow (frame_of fed)
fed-solved =
    record {
      begins = omega arith;
      able = both (λ m. 2 ≤ (kind_at (frame_of fed).kinds m).limit) (omega arith) (omega arith);
      does = both (λ m. Runs (kind_at (frame_of fed).kinds m).behaviour (kind_at (frame_of fed).kinds m) (start_at fed_flow (kind_at (frame_of fed).kinds m) m) (rows_at ([] ∷ [] ∷ []) m) 2) (omega arith, refl) (refl, refl, λ below. omega arith);
      long = only (λ c. length (list_at ((4 ∷ 6 ∷ []) ∷ []) c) ≡ entered_by (wire_at fed.wires c).first 2) refl;
      opens = λ c token known is. absurd (none-first c token known is);
      given = λ c known t le lt. given c known t;
      taken = λ c known t le lt. taken c known t;
    }
  where
    none-first : (c token : ℕ) → c < 1 → (wire_at fed.wires c).first ≡ Some token → ⊥
    none-first zero token known is = none-some token is
    none-first (suc c) token known is = absurd (omega (arith, known))

    given : (c : ℕ) → c < 1 → (t : ℕ) → Answers (kind_at (frame_of fed).kinds (wire_at fed.wires c).producer).behaviour (rows_at ([] ∷ [] ∷ []) (wire_at fed.wires c).producer) (wire_at fed.wires c).out t (value_at (list_at ((4 ∷ 6 ∷ []) ∷ []) c) (entered_by (wire_at fed.wires c).first t))
    given zero known t = refl
    given (suc c) known t = absurd (omega (arith, known))

    taken : (c : ℕ) → c < 1 → (t : ℕ) → Asks (kind_at (frame_of fed).kinds (wire_at fed.wires c).consumer).behaviour (rows_at ([] ∷ [] ∷ []) (wire_at fed.wires c).consumer) (wire_at fed.wires c).place t (value_at (list_at ((4 ∷ 6 ∷ []) ∷ []) c) t)
    taken zero known t = tt
    taken (suc c) known t = absurd (omega (arith, known))

-- it is within the limits, and isn't with one cycle above the limit
pub within-limits : IsWithinLimits (frame_of fed)
within-limits = record { cycles = omega arith; machines = omega arith; channels = omega arith; ports = omega arith; capacities = only (λ c. (wire_at fed.wires c).capacity ≤ capacity_limit) (omega arith) }

too-long : IsWithinLimits (frame_of (record fed { end = 1000001 })) → ⊥
too-long within = omega (arith, within.cycles)

-- another list does not solve it
not-solved : Solves (record fed_flow { lists = (4 ∷ 7 ∷ []) ∷ [] }) (frame_of fed) → ⊥
not-solved solves = let is : value_at (4 ∷ 6 ∷ []) 1 ≡ value_at (4 ∷ 7 ∷ []) 1 = solves.given 0 (lit< tt) 1 (omega arith) (lit< tt) in omega (arith, is)
