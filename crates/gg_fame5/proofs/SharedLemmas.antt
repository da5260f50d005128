-- The machines of several threads.
use Rattle.std.proofs.Common.{◌≡◌, ℕ, zero, suc, ◌<◌, ◌≤◌, ◌^◌, List, [], ◌∷◌, Option, None, Some, replicate, Bool, true, false, nat_eq, length, map, refl, sym, ◌∙◌, ap, subst, arith}
use Rattle.std.specs.Prelude.{All, slice_index_or, slice_set, if◌then◌else◌}
use Rattle.std.specs.List.{range_with_len}
use Rattle.std.proofs.lemmas.Bool.Decides.{Decides-eqb}
use Rattle.std.proofs.lemmas.List.{get_or-map, length-map, map-set}
use Rattle.std.proofs.lemmas.List.FromFn.{get_or-map-range_with_len, length-map-range_with_len}
use Rattle.std.proofs.lemmas.Simd.{map-map}
use Rattle.gg_flat.specs.Clock.{Ratio}
use Rattle.gg_flat.specs.Line.{value_at}
use Rattle.gg_flat.specs.Circuit.{FlatCircuit}
use Rattle.gg_flat.specs.State.{State}
use Rattle.gg_flat.specs.Streams.{state_in}
use Rattle.gg_flat.proofs.ListLemmas.{map-same}
use Rattle.gg_node.specs.Machine.{Machine, machine_at, no_machine}
use Rattle.gg_program.specs.Programmed.{Programmed}
use Rattle.gg_program.specs.Slots.{Slotted, NoneDone}
use Rattle.gg_program.specs.Right.{InCycle}
use Rattle.gg_program.specs.Unset.{unset, IsConeDone}
use Rattle.gg_program.specs.inside.Unset.{assignments}
use Rattle.gg_program.proofs.UnsetLemmas.{unset-most}
use Rattle.gg_fame5.specs.Machine.{unit_machine, started_unit}
use Rattle.gg_fame5.specs.inside.Fork.{forked}
use Rattle.gg_fame5.specs.inside.Lane.{Laned, lane_machine, started_lane, out_signal, IsLane, Hold}
use Rattle.gg_fame5.specs.inside.Shared.{Sharing, no_lane, lane_at, machines_of, started_lanes, started_machines, IsSharing, unset_of, IsConeDoneOf}
use Rattle.gg_fame5.proofs.LaneLemmas.{Hold-empty}

pub machine_of_lane : (program : Programmed) (lanes : List Laned) (t : ℕ) → t < length lanes → machine_at (map (lane_machine program) lanes) t ≡ lane_machine program (lane_at lanes t)
machine_of_lane program lanes t below = get_or-map (lane_machine program) lanes t no_lane no_machine below

-- one thread is replaced
pub machines_set : (before after : Sharing) (t : ℕ) (lane : Laned) (machine : Machine) → after.program ≡ before.program → after.lanes ≡ slice_set before.lanes t lane → machine ≡ lane_machine before.program lane → machines_of after ≡ slice_set (machines_of before) t machine
machines_set before after t lane machine program lanes is =
    ap (λ (p : Programmed). map (lane_machine p) after.lanes) program
    ∙ ap (map (lane_machine before.program)) lanes
    ∙ map-set (lane_machine before.program) before.lanes t lane
    ∙ ap (slice_set (machines_of before) t) (sym is)

pub machines_same : (before after : Sharing) → after.program ≡ before.program → after.lanes ≡ before.lanes → machines_of after ≡ machines_of before
machines_same before after program lanes = ap (λ (p : Programmed). map (lane_machine p) after.lanes) program ∙ ap (map (lane_machine before.program)) lanes

-- ---- a thread gets the turn

pub lane_turned : (first turned : Sharing) (t : ℕ) → turned.program ≡ first.program → turned.lanes ≡ first.lanes → turned.turn ≡ t → t < length (machines_of first) → machine_at (machines_of first) t ≡ lane_machine turned.program (lane_at turned.lanes turned.turn)
lane_turned first turned t program lanes turn below =
    machine_of_lane first.program first.lanes t (omega (arith, below, length-map first.lanes (lane_machine first.program)))
    ∙ ap (λ (p : Programmed). lane_machine p (lane_at first.lanes t)) (sym program)
    ∙ ap (λ (l : List Laned). lane_machine turned.program (lane_at l t)) (sym lanes)
    ∙ ap (λ (k : ℕ). lane_machine turned.program (lane_at turned.lanes k)) (sym turn)

-- then it does a step
pub stepped : (first turned after : Sharing) (t : ℕ) (change_lane : Laned → Laned) (change : Machine → Machine) → ((lane : Laned) → change (lane_machine turned.program lane) ≡ lane_machine turned.program (change_lane lane)) → turned.program ≡ first.program → turned.lanes ≡ first.lanes → turned.turn ≡ t → t < length (machines_of first) → after.program ≡ turned.program → after.lanes ≡ slice_set turned.lanes turned.turn (change_lane (lane_at turned.lanes turned.turn)) → machines_of after ≡ slice_set (machines_of first) t (change (machine_at (machines_of first) t))
stepped first turned after t change_lane change same program lanes turn below kept set =
    let lane = lane_at turned.lanes turned.turn in
    let at = lane_turned first turned t program lanes turn below in
    machines_set turned after turned.turn (change_lane lane) (change (machine_at (machines_of first) t)) kept set (ap change at ∙ same lane)
    ∙ ap (λ (l : List Machine). slice_set l turned.turn (change (machine_at (machines_of first) t))) (machines_same first turned program lanes)
    ∙ ap (λ (k : ℕ). slice_set (machines_of first) k (change (machine_at (machines_of first) t))) turn

-- a thread does a step that leaves the slots as they are
pub stepped_apart : (first after : Sharing) (t : ℕ) (change_lane : Laned → Laned) (change : Machine → Machine) → ((lane : Laned) → change (lane_machine first.program lane) ≡ lane_machine first.program (change_lane lane)) → t < length (machines_of first) → after.program ≡ first.program → after.lanes ≡ slice_set first.lanes t (change_lane (lane_at first.lanes t)) → machines_of after ≡ slice_set (machines_of first) t (change (machine_at (machines_of first) t))
stepped_apart first after t change_lane change same below kept set =
    let at = machine_of_lane first.program first.lanes t (omega (arith, below, length-map first.lanes (lane_machine first.program))) in
    machines_set first after t (change_lane (lane_at first.lanes t)) (change (machine_at (machines_of first) t)) kept set (ap change at ∙ same (lane_at first.lanes t))

-- ---- what has still to be evaluated

pub unset_turned : (shared : Sharing) (t : ℕ) → shared.turn ≡ t → unset_of shared t ≡ unset shared.program.circuit shared.slots
unset_turned shared t turn = ap (λ b. if b then unset shared.program.circuit shared.slots else assignments shared.program.circuit) ((Decides-eqb shared.turn t).1 turn)

pub unset_turn_to : (first turned : Sharing) (t : ℕ) → turned.program ≡ first.program → (first.turn ≡ t → turned ≡ first) → unset turned.program.circuit turned.slots ≤ unset_of first t
unset_turn_to first turned t program kept = by (nat_eq first.turn t) refl
  where
    by : (b : Bool) → nat_eq first.turn t ≡ b → unset turned.program.circuit turned.slots ≤ unset_of first t
    by true e =
        let is : first.turn ≡ t = (Decides-eqb first.turn t).0 e in
        let same : unset turned.program.circuit turned.slots ≡ unset first.program.circuit first.slots = ap (λ (s : Sharing). unset s.program.circuit s.slots) (kept is) in
        omega (arith, same, unset_turned first t is)
    by false e =
        let all : unset_of first t ≡ assignments first.program.circuit = ap (λ b. if b then unset first.program.circuit first.slots else assignments first.program.circuit) e in
        omega (arith, all, unset-most turned.program.circuit turned.slots, ap (λ (p : Programmed). assignments p.circuit) program)

-- no more has to be evaluated than there are assignments
pub unset-of-most : (shared : Sharing) (t : ℕ) → unset_of shared t ≤ assignments shared.program.circuit
unset-of-most shared t = by (nat_eq shared.turn t)
  where
    by : (b : Bool) → (if b then unset shared.program.circuit shared.slots else assignments shared.program.circuit) ≤ assignments shared.program.circuit
    by true = unset-most shared.program.circuit shared.slots
    by false = omega arith

-- ---- what is done for an out

-- after it was worked out for the thread that has the turn
pub cone_turned : (turned after : Sharing) (t o : ℕ) → after.program ≡ turned.program → after.lanes ≡ turned.lanes → after.turn ≡ turned.turn → turned.turn ≡ t → IsConeDone turned.program.circuit (out_signal turned.program.circuit (lane_at turned.lanes turned.turn) o) after.slots → IsConeDoneOf after t o
cone_turned turned after t o program lanes kept turn done =
    record {
      turn = kept ∙ turn;
      cone =
          subst (λ (k : ℕ). IsConeDone after.program.circuit (out_signal after.program.circuit (lane_at after.lanes k) o) after.slots) turn
          (subst (λ (l : List Laned). IsConeDone after.program.circuit (out_signal after.program.circuit (lane_at l turned.turn) o) after.slots) (sym lanes)
          (subst (λ (p : Programmed). IsConeDone p.circuit (out_signal p.circuit (lane_at turned.lanes turned.turn) o) after.slots) (sym program) done));
    }

-- if it was done before, the thread had the turn, and it still is done
pub cone_kept : (first turned : Sharing) (t o : ℕ) → (first.turn ≡ t → turned ≡ first) → IsConeDoneOf first t o → IsConeDone turned.program.circuit (out_signal turned.program.circuit (lane_at turned.lanes turned.turn) o) turned.slots
cone_kept first turned t o kept done =
    subst (λ (s : Sharing). IsConeDone s.program.circuit (out_signal s.program.circuit (lane_at s.lanes s.turn) o) s.slots) (sym (kept done.turn))
    (subst (λ (k : ℕ). IsConeDone first.program.circuit (out_signal first.program.circuit (lane_at first.lanes k) o) first.slots) (sym done.turn) done.cone)

-- ---- how threads begin

pub started-unit : (program : Programmed) (outs : Option (List ℕ)) (ratios : List Ratio) (state : State) (cycle : ℕ) → lane_machine program (started_lane program.circuit outs ratios state cycle) ≡ started_unit (forked program outs) ratios state cycle
started-unit program None ratios state cycle = refl
started-unit program (Some outs) ratios state cycle = ap (λ (n : ℕ). unit_machine (forked program (Some outs)) ratios cycle state (replicate (length program.circuit.ins) None) (replicate n false)) (sym (length-map outs (value_at program.circuit.outs)))

pub machines-started : (program : Programmed) (outs : List (List ℕ)) (ratios : List (List Ratio)) (states : List State) (cycle : ℕ) → map (lane_machine program) (started_lanes program.circuit outs ratios states cycle) ≡ started_machines program outs ratios states cycle
machines-started program outs ratios states cycle =
    map-map (lane_machine program) (λ t. started_lane program.circuit (Some (slice_index_or outs t [])) (slice_index_or ratios t []) (state_in states t) cycle) (range_with_len 0 (length outs))
    ∙ map-same (λ t. lane_machine program (started_lane program.circuit (Some (slice_index_or outs t [])) (slice_index_or ratios t []) (state_in states t) cycle)) (λ t. started_unit (forked program (Some (slice_index_or outs t []))) (slice_index_or ratios t []) (state_in states t) cycle) (range_with_len 0 (length outs))
    (λ t. started-unit program (Some (slice_index_or outs t [])) (slice_index_or ratios t []) (state_in states t) cycle)

pub IsSharing-started : (circuit : FlatCircuit) (outs : List (List ℕ)) (ratios : List (List Ratio)) (states : List State) (cycle : ℕ) (lanes : List Laned) (slots : Slotted) → lanes ≡ started_lanes circuit outs ratios states cycle → 0 < length outs → length outs < 2 ^ 32 → All (IsLane circuit) lanes → ((state : State) → InCycle circuit state slots) → NoneDone slots → IsSharing circuit lanes 0 slots
IsSharing-started circuit outs ratios states cycle lanes slots are some few each in_cycle none =
    record {
      some = omega (arith, count, some);
      few = omega (arith, count, few);
      each = each;
      held = subst (Hold circuit slots) (sym first) (Hold-empty circuit slots (Some (slice_index_or outs 0 [])) (slice_index_or ratios 0 []) cycle (state_in states 0) (length circuit.ins) (replicate (length (slice_index_or outs 0 [])) false) (in_cycle (state_in states 0)) none);
    }
  where
    lane_of : ℕ → Laned
    lane_of t = started_lane circuit (Some (slice_index_or outs t [])) (slice_index_or ratios t []) (state_in states t) cycle

    count : length lanes ≡ length outs
    count = ap (λ (l : List Laned). length l) are ∙ length-map-range_with_len lane_of 0 (length outs)

    first : lane_at lanes 0 ≡ lane_of 0
    first = ap (λ (l : List Laned). lane_at l 0) are ∙ get_or-map-range_with_len lane_of 0 (length outs) 0 0 no_lane some refl

-- a single thread, with all outs of its program
pub IsSharing-alone : (circuit : FlatCircuit) (ratios : List Ratio) (state : State) (cycle : ℕ) (lane : Laned) (slots : Slotted) → lane ≡ started_lane circuit None ratios state cycle → IsLane circuit lane → InCycle circuit state slots → NoneDone slots → IsSharing circuit (lane ∷ []) 0 slots
IsSharing-alone circuit ratios state cycle lane slots is own in_cycle none =
    record {
      some = omega arith;
      few = omega arith;
      each = λ k d below. only (IsLane circuit) own k d below;
      held = subst (Hold circuit slots) (sym is) (Hold-empty circuit slots None ratios cycle state (length circuit.ins) (replicate (length circuit.outs) false) in_cycle none);
    }
  where
    only : (P : Laned → Type 0) → P lane → (k : ℕ) (d : Laned) → k < 1 → P (slice_index_or (lane ∷ []) k d)
    only P holds zero d below = holds
    only P holds (suc k) d below = absurd (omega arith)
