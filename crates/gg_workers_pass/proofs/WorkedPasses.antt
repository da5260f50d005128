-- Counts, passes and rows of seats worked by hand.
use Rattle.std.proofs.Common.{◌≡◌, ◌≢◌, ℕ, zero, suc, ◌<◌, ◌≤◌, [], ◌∷◌, Option, Some, None, true, false, length, refl, sym, ap, arith}
use Rattle.std.specs.Prelude.{slice_index_or}
use Rattle.std.proofs.lemmas.Option.{none-some}
use Rattle.gg_flat.specs.Line.{value_at}
use Rattle.gg_flat.specs.Streams.{Flow}
use Rattle.gg_link.specs.Seats.{seat_state}
use Rattle.gg_node.specs.Machine.{Machine, source_machine, tray_machine}
use Rattle.gg_net.specs.Network.{Network, wire_at, Frame, frame_of}
use Rattle.gg_net.specs.inside.Parted.{takes_by}
use Rattle.gg_workers_pass.specs.inside.Seats.{SeatCounts}
use Rattle.gg_workers_pass.specs.inside.Rows.{steps_by, StepsDone}
use Rattle.gg_workers_pass.specs.Pass.{RisesTo}
use Rattle.gg_workers_pass.specs.inside.Pass.{MachineWentOn}
use Rattle.gg_workers_pass.specs.inside.SeatLists.{seat_at, RowTakenOut}

-- ---- counts

rises : RisesTo 3 1 2
rises = record { up = omega arith; within = omega arith }

-- a count that is past the bound stays
stays : RisesTo 3 5 5
stays = record { up = omega arith; within = omega arith }

not-fallen : RisesTo 3 2 1 → ⊥
not-fallen r = let up : 2 ≤ 1 = r.up in omega arith

not-past : RisesTo 3 2 4 → ⊥
not-past r = let within : 4 ≤ 3 = r.within in omega arith

-- ---- a source that feeds a tray, over three cycles

abbrev source : Machine
source = source_machine (7 ∷ 8 ∷ 9 ∷ []) 0 (false ∷ [])

abbrev tray : ℕ → Option ℕ → Machine
tray cycle latch = tray_machine 3 10 cycle [] latch

abbrev net : Network
net =
    record {
      machines = source ∷ tray 0 None ∷ [];
      wires = record { producer = 0; out = 0; consumer = 1; place = 0; capacity = 2; first = None } ∷ [];
      queues = [] ∷ [];
      end = 3;
    }

abbrev frame : Frame
frame = frame_of net

-- the tray takes its first value
took : MachineWentOn frame 1 3 (tray 0 None) (tray 0 (Some 7))
took =
    record {
      kind = refl;
      cycle = record { up = omega arith; within = omega arith };
      takes = takes-rise;
      puts = λ c known from. record { up = omega arith; within = omega arith };
      serves = record { up = omega arith; within = omega arith };
    }
  where
    takes-rise : (c : ℕ) → c < 1 → (wire_at frame.wires c).consumer ≡ 1 → RisesTo 3 (takes_by frame (tray 0 None) c) (takes_by frame (tray 0 (Some 7)) c)
    takes-rise zero known to = record { up = omega arith; within = omega arith }
    takes-rise (suc c) known to = absurd (omega (arith, known))

-- the value in the latch is lost
not-lost : MachineWentOn frame 1 3 (tray 0 (Some 7)) (tray 0 None) → ⊥
not-lost w = let up : 1 ≤ 0 = (w.takes 0 (omega arith) refl).up in omega arith

-- a value is taken past the last cycle
not-late : MachineWentOn frame 1 3 (tray 3 None) (tray 3 (Some 7)) → ⊥
not-late w = let within : 4 ≤ 3 = (w.takes 0 (omega arith) refl).within in omega arith

-- a machine in cycle 2 that has latched has done five steps: a latch and the end in each cycle, and one more latch
five : steps_by (tray 2 (Some 9)) ≡ 5
five = refl

-- a pass that did nothing answers false, and not true
nothing : StepsDone net.machines 1 net.machines false
nothing = refl

not-nothing : StepsDone net.machines 1 net.machines true → ⊥
not-nothing more = omega (arith, more)

-- ---- seats

abbrev flow : Flow
flow = record { lists = (7 ∷ 8 ∷ 9 ∷ []) ∷ []; runs = []; begin = 0; states = [] }

-- the seat that puts, after two values
counts : SeatCounts flow net 0 2 (seat_state (7 ∷ 8 ∷ 9 ∷ []) 2 2 0 0)
counts = record { stream = refl; capacity = refl; count = refl }

-- it counts one more than was put
not-counts : SeatCounts flow net 0 1 (seat_state (7 ∷ 8 ∷ 9 ∷ []) 2 2 0 0) → ⊥
not-counts s = let count : 2 ≡ 1 = s.count in omega (arith, count)

-- a stream that begins too late
not-begun : SeatCounts flow net 0 2 (seat_state (8 ∷ 9 ∷ []) 2 2 0 0) → ⊥
not-begun s = let long : 2 ≡ 3 = ap length s.stream in omega (arith, long)

-- ---- rows of seats

-- the seat of channel 1 is taken
taken_out : RowTakenOut {S = ℕ} (1 ∷ []) 1 (Some 7 ∷ Some 8 ∷ []) (Some 7 ∷ None ∷ []) (8 ∷ [])
taken_out = record { long = refl; count = refl; row = rows; taken = takens; others = beside }
  where
    rows : (k s : ℕ) → k < 1 → seat_at {S = ℕ} (Some 7 ∷ Some 8 ∷ []) (value_at (1 ∷ []) k) ≡ Some (slice_index_or (8 ∷ []) k s)
    rows zero s lt = refl
    rows (suc k) s lt = absurd (omega (arith, lt))

    takens : (k : ℕ) → k < 1 → seat_at {S = ℕ} (Some 7 ∷ None ∷ []) (value_at (1 ∷ []) k) ≡ None
    takens zero lt = refl
    takens (suc k) lt = absurd (omega (arith, lt))

    beside : (c : ℕ) → ((k : ℕ) → k < 1 → value_at (1 ∷ []) k ≢ c) → seat_at {S = ℕ} (Some 7 ∷ None ∷ []) c ≡ seat_at {S = ℕ} (Some 7 ∷ Some 8 ∷ []) c
    beside zero apart = refl
    beside (suc zero) apart = absurd (apart 0 (omega arith) refl)
    beside (suc (suc c)) apart = refl

-- the seat of channel 0 is taken in its place
not-taken_out : RowTakenOut {S = ℕ} (1 ∷ []) 1 (Some 7 ∷ Some 8 ∷ []) (None ∷ Some 8 ∷ []) (7 ∷ []) → ⊥
not-taken_out r = none-some 8 (sym (r.taken 0 (omega arith)))
