-- Markings worked by hand.
use Rattle.std.proofs.Common.{refl}
use Rattle.std.specs.Prelude.{◌≡◌, List, [], ◌∷◌, Option, Some, None, Result, Ok, Err, true, false}
use Rattle.gg_net.specs.declared.event.Event.{Event}
use Rattle.gg_net.specs.declared.event.Event.TheVariants.{Latch, Fire, Serve, Finish}
use Rattle.gg_net.specs.declared.event.StepRefusal.{StepRefusal}
use Rattle.gg_net.specs.declared.event.StepRefusal.TheVariants.{Stranger, Ended, Latched, Fired, NoToken, NeedsInput, Full, Order, Unfired, Unserved}
use Rattle.gg_net.specs.markings.Marking.{Link, Layout, Marking, opening_marking, marked_puts, marked_entered, marked_takes, held, marked_refusal, after}
use Rattle.gg_net.specs.markings.Goes.{Stopped, replayed_from}

-- ---- a counter: the hub 0, a source 1, a tray 2; channel 0 goes from the source to the hub, channel 1 from the hub to the tray

abbrev counter : Layout
counter =
    record {
      links = (record { producer = 1; consumer = 0; capacity = 1; needs = []; piped = false }) ∷ (record { producer = 0; consumer = 2; capacity = 1; needs = []; piped = false }) ∷ [];
      port_counts = 0 ∷ 0 ∷ 0 ∷ [];
      turns = [] ∷ [] ∷ [] ∷ [];
      end = 2;
    }

-- the hub gives before it has taken, since its output is a register; then each machine but the source finishes a cycle
abbrev steps : List (Option Event)
steps = Some (Fire 1) ∷ Some (Latch 1) ∷ Some (Finish 2) ∷ Some (Fire 0) ∷ Some (Latch 0) ∷ Some (Finish 0) ∷ Some (Fire 1) ∷ []

abbrev reached : Marking
reached = record { cycles = 1 ∷ 0 ∷ 1 ∷ []; served = 0 ∷ 0 ∷ 0 ∷ []; taken = false ∷ false ∷ []; given = true ∷ true ∷ [] }

counter-steps : replayed_from counter 1 (opening_marking counter 0) steps ≡ Ok reached
counter-steps = refl

counter-puts-0 : marked_puts counter reached 0 ≡ 1
counter-puts-0 = refl

counter-takes-0 : marked_takes counter reached 0 ≡ 1
counter-takes-0 = refl

counter-puts-1 : marked_puts counter reached 1 ≡ 2
counter-puts-1 = refl

counter-takes-1 : marked_takes counter reached 1 ≡ 1
counter-takes-1 = refl

-- the same with a token in channel 1 before the first cycle, here cycle 1: it is full at once, and its token may be
-- taken

abbrev piped : Layout
piped = record counter { links = (record { producer = 1; consumer = 0; capacity = 1; needs = []; piped = false }) ∷ (record { producer = 0; consumer = 2; capacity = 1; needs = []; piped = true }) ∷ [] }

piped-held : held piped (opening_marking piped 1) 1 ≡ 1
piped-held = refl

piped-entered : marked_entered piped (opening_marking piped 1) 1 ≡ 2
piped-entered = refl

piped-full : marked_refusal piped (opening_marking piped 1) (Fire 1) ≡ Some (Full 1 1)
piped-full = refl

piped-latch : marked_refusal piped (opening_marking piped 1) (Latch 1) ≡ None
piped-latch = refl

-- each cause for which the counter's `latch` and `fire` can be refused

abbrev start : Marking
start = opening_marking counter 0

latch-stranger : marked_refusal counter start (Latch 2) ≡ Some Stranger
latch-stranger = refl

latch-no-token : marked_refusal counter start (Latch 1) ≡ Some (NoToken 1)
latch-no-token = refl

fire-once : marked_refusal counter start (Fire 1) ≡ None
fire-once = refl

fire-twice : marked_refusal counter (after counter start (Fire 1)) (Fire 1) ≡ Some Fired
fire-twice = refl

latch-twice : replayed_from counter 1 start (Some (Fire 1) ∷ Some (Latch 1) ∷ Some (Latch 1) ∷ []) ≡ Err (record { step = 3; cause = Latched })
latch-twice = refl

-- the tray hasn't taken the first token, so the hub can't give the second
full-queue : replayed_from counter 1 start (Some (Fire 1) ∷ Some (Fire 0) ∷ Some (Latch 0) ∷ Some (Finish 0) ∷ Some (Fire 1) ∷ []) ≡ Err (record { step = 5; cause = Full 1 1 })
full-queue = refl

-- a line that is no event
no-event : replayed_from counter 1 start (Some (Fire 1) ∷ None ∷ []) ≡ Err (record { step = 2; cause = Stranger })
no-event = refl

-- after two cycles a machine has ended
after-the-end : replayed_from counter 1 start
    (Some (Fire 0) ∷ Some (Finish 1) ∷ Some (Latch 0) ∷ Some (Fire 0) ∷ Some (Finish 1) ∷ Some (Fire 0) ∷ [])
    ≡ Err (record { step = 6; cause = Ended })
after-the-end = refl

-- ---- finishing

finish-stranger : marked_refusal counter start (Finish 3) ≡ Some Stranger
finish-stranger = refl

finish-unfired : marked_refusal counter start (Finish 0) ≡ Some (Unfired 1)
finish-unfired = refl

finish-needs : marked_refusal counter (after counter start (Fire 1)) (Finish 0) ≡ Some (NeedsInput 0)
finish-needs = refl

-- ---- a unit whose output depends on both of its inputs: the unit 0, sources 1 and 2, a tray 3

abbrev adder : Layout
adder =
    record {
      links = (record { producer = 1; consumer = 0; capacity = 2; needs = []; piped = false })
          ∷ (record { producer = 2; consumer = 0; capacity = 2; needs = []; piped = false })
          ∷ (record { producer = 0; consumer = 3; capacity = 2; needs = 0 ∷ 1 ∷ []; piped = false }) ∷ [];
      port_counts = 0 ∷ 0 ∷ 0 ∷ 0 ∷ [];
      turns = [] ∷ [] ∷ [] ∷ [] ∷ [];
      end = 1;
    }

needs-first : marked_refusal adder (opening_marking adder 0) (Fire 2) ≡ Some (NeedsInput 0)
needs-first = refl

needs-second : replayed_from adder 1 (opening_marking adder 0) (Some (Fire 0) ∷ Some (Latch 0) ∷ Some (Fire 2) ∷ []) ≡ Err (record { step = 3; cause = NeedsInput 1 })
needs-second = refl

needs-met : replayed_from adder 1 (opening_marking adder 0) (Some (Fire 0) ∷ Some (Latch 0) ∷ Some (Fire 1) ∷ Some (Latch 1) ∷ Some (Fire 2) ∷ [])
    ≡ Ok (record { cycles = 0 ∷ 0 ∷ 0 ∷ 0 ∷ []; served = 0 ∷ 0 ∷ 0 ∷ 0 ∷ []; taken = true ∷ true ∷ false ∷ []; given = true ∷ true ∷ true ∷ [] })
needs-met = refl

-- ---- a memory that is served: machine 0 has a reader (port 0, latency 1) and a writer (port 1), whose fields are the channels 0
-- to 5; channel 6 is the reader's data; all come from and go to machine 1

abbrev to_memory : Link
to_memory = record { producer = 1; consumer = 0; capacity = 1; needs = []; piped = false }

abbrev served : Layout
served =
    record {
      links = to_memory ∷ to_memory ∷ to_memory ∷ to_memory ∷ to_memory ∷ to_memory ∷ (record { producer = 0; consumer = 1; capacity = 1; needs = []; piped = false }) ∷ [];
      port_counts = 2 ∷ 0 ∷ [];
      turns = ((record { number = 0; fields = 0 ∷ 1 ∷ [] }) ∷ (record { number = 1; fields = 2 ∷ 3 ∷ 4 ∷ 5 ∷ [] }) ∷ []) ∷ [] ∷ [];
      end = 2;
    }

serve-stranger : marked_refusal served (opening_marking served 0) (Serve 0 2) ≡ Some Stranger
serve-stranger = refl

serve-no-memory : marked_refusal served (opening_marking served 0) (Serve 1 0) ≡ Some Stranger
serve-no-memory = refl

serve-unfired : marked_refusal served (opening_marking served 0) (Serve 0 0) ≡ Some (Unfired 6)
serve-unfired = refl

-- the reader comes before the writer
serve-order : replayed_from served 1 (opening_marking served 0) (Some (Fire 6) ∷ Some (Serve 0 1) ∷ []) ≡ Err (record { step = 2; cause = Order 0 })
serve-order = refl

serve-needs : replayed_from served 1 (opening_marking served 0) (Some (Fire 6) ∷ Some (Fire 0) ∷ Some (Latch 0) ∷ Some (Serve 0 0) ∷ []) ≡ Err (record { step = 4; cause = NeedsInput 1 })
serve-needs = refl

finish-unserved : replayed_from served 1 (opening_marking served 0) (Some (Fire 6) ∷ Some (Finish 0) ∷ []) ≡ Err (record { step = 2; cause = Unserved 0 })
finish-unserved = refl

-- both are served: then no port is due, and the refusal has the number of the ports
serve-both : replayed_from served 1 (opening_marking served 0)
    (Some (Fire 6) ∷ Some (Fire 0) ∷ Some (Latch 0) ∷ Some (Fire 1) ∷ Some (Latch 1) ∷ Some (Serve 0 0) ∷ Some (Fire 2) ∷ Some (Latch 2) ∷ Some (Fire 3)
    ∷ Some (Latch 3) ∷ Some (Fire 4) ∷ Some (Latch 4) ∷ Some (Fire 5) ∷ Some (Latch 5) ∷ Some (Serve 0 1) ∷ Some (Serve 0 1) ∷ [])
    ≡ Err (record { step = 16; cause = Order 2 })
serve-both = refl

-- and the cycle can be finished: served ports, latches and flags are cleared
serve-finish : replayed_from served 1 (opening_marking served 0)
    (Some (Fire 6) ∷ Some (Fire 0) ∷ Some (Latch 0) ∷ Some (Fire 1) ∷ Some (Latch 1) ∷ Some (Serve 0 0) ∷ Some (Fire 2) ∷ Some (Latch 2) ∷ Some (Fire 3)
    ∷ Some (Latch 3) ∷ Some (Fire 4) ∷ Some (Latch 4) ∷ Some (Fire 5) ∷ Some (Latch 5) ∷ Some (Serve 0 1) ∷ Some (Finish 0) ∷ [])
    ≡ Ok (record {
      cycles = 1 ∷ 0 ∷ [];
      served = 0 ∷ 0 ∷ [];
      taken = false ∷ false ∷ false ∷ false ∷ false ∷ false ∷ false ∷ [];
      given = true ∷ true ∷ true ∷ true ∷ true ∷ true ∷ false ∷ [];
    })
serve-finish = refl

-- ---- the same memory with a reader that gives its word in the same cycle: it is still port 0, but isn't served; the writer is 1

abbrev at_once : Layout
at_once =
    record {
      links = to_memory ∷ to_memory ∷ to_memory ∷ to_memory ∷ to_memory ∷ to_memory ∷ (record { producer = 0; consumer = 1; capacity = 1; needs = 0 ∷ 1 ∷ []; piped = false }) ∷ [];
      port_counts = 2 ∷ 0 ∷ [];
      turns = ((record { number = 1; fields = 2 ∷ 3 ∷ 4 ∷ 5 ∷ [] }) ∷ []) ∷ [] ∷ [];
      end = 2;
    }

at-once-unfired : marked_refusal at_once (opening_marking at_once 0) (Serve 0 0) ≡ Some (Unfired 6)
at-once-unfired = refl

at-once-stranger : marked_refusal at_once (opening_marking at_once 0) (Serve 0 2) ≡ Some Stranger
at-once-stranger = refl

-- its tokens are given: the writer is due
at-once-order : replayed_from at_once 1 (opening_marking at_once 0) (Some (Fire 0) ∷ Some (Latch 0) ∷ Some (Fire 1) ∷ Some (Latch 1) ∷ Some (Fire 6) ∷ Some (Serve 0 0) ∷ []) ≡ Err (record { step = 6; cause = Order 1 })
at-once-order = refl

-- the writer is served: none is due, and the refusal has the number of the ports
at-once-none-due : replayed_from at_once 1 (opening_marking at_once 0)
    (Some (Fire 0) ∷ Some (Latch 0) ∷ Some (Fire 1) ∷ Some (Latch 1) ∷ Some (Fire 6) ∷ Some (Fire 2) ∷ Some (Latch 2) ∷ Some (Fire 3) ∷ Some (Latch 3)
    ∷ Some (Fire 4) ∷ Some (Latch 4) ∷ Some (Fire 5) ∷ Some (Latch 5) ∷ Some (Serve 0 1) ∷ Some (Serve 0 0) ∷ [])
    ≡ Err (record { step = 15; cause = Order 2 })
at-once-none-due = refl

-- a memory that is only read, in the same cycle: no port of it is ever due
abbrev read_only : Layout
read_only = record at_once { port_counts = 1 ∷ 0 ∷ []; turns = [] ∷ [] ∷ [] }

read-only-order : replayed_from read_only 1 (opening_marking read_only 0) (Some (Fire 0) ∷ Some (Latch 0) ∷ Some (Fire 1) ∷ Some (Latch 1) ∷ Some (Fire 6) ∷ Some (Serve 0 0) ∷ []) ≡ Err (record { step = 6; cause = Order 1 })
read-only-order = refl

-- ---- what must not hold

-- `serve` of a reader that isn't served isn't refused as `Stranger`, neither before its word is given nor when no port
-- is due
not-a-stranger : marked_refusal at_once (opening_marking at_once 0) (Serve 0 0) ≡ Some Stranger → ⊥
not-a-stranger said = let is : ◌≡◌ {A = Option StepRefusal} (Some (Unfired 6)) (Some Stranger) = said in cc

not-a-stranger-alone : marked_refusal read_only (record (opening_marking read_only 0) { given = false ∷ false ∷ false ∷ false ∷ false ∷ false ∷ true ∷ [] }) (Serve 0 0) ≡ Some Stranger → ⊥
not-a-stranger-alone said = let is : ◌≡◌ {A = Option StepRefusal} (Some (Order 1)) (Some Stranger) = said in cc

-- a token isn't given before a need is taken
not-before-its-needs : marked_refusal adder (opening_marking adder 0) (Fire 2) ≡ None → ⊥
not-before-its-needs said = let is : ◌≡◌ {A = Option StepRefusal} (Some (NeedsInput 0)) None = said in cc

-- a writer isn't served before a reader of old words
not-the-writer-first : marked_refusal served (after served (opening_marking served 0) (Fire 6)) (Serve 0 1) ≡ None → ⊥
not-the-writer-first said = let is : ◌≡◌ {A = Option StepRefusal} (Some (Order 0)) None = said in cc

-- a queue doesn't get longer than its capacity
not-past-its-capacity : (marking : Marking) → replayed_from counter 1 start (Some (Fire 1) ∷ Some (Fire 0) ∷ Some (Latch 0) ∷ Some (Finish 0) ∷ Some (Fire 1) ∷ []) ≡ Ok marking → ⊥
not-past-its-capacity marking said = let is : ◌≡◌ {A = Result Marking Stopped} (Err (record { step = 5; cause = Full 1 1 })) (Ok marking) = said in cc
