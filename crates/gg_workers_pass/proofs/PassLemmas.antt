-- A pass over one machine: its row of latches, its row of fires, its serves, and the end of its cycle.
use Rattle.std.proofs.Common.{◌≡◌, ◌≢◌, ◌+◌, ◌*◌, ℕ, ◌<◌, ◌≤◌, List, Option, None, Bool, true, false, length, map, refl, sym, ap, subst, ◌∙◌, arith, get_or-set_same, true≢false}
use Rattle.std.specs.Prelude.{◌^◌, All, IsSome, max, min, slice_index_or, slice_get}
use Rattle.std.proofs.lemmas.List.{get_or_default}
use Rattle.gg_flat.specs.Line.{value_at}
use Rattle.gg_flat.specs.State.{State}
use Rattle.gg_flat.specs.Streams.{Flow}
use Rattle.gg_link.specs.Seats.{SeatState}
use Rattle.gg_node.specs.Machine.{Port, Machine, no_machine, machine_at, latch_at, flag_at, needs_at, first_empty, missing}
use Rattle.gg_node.specs.inside.Machine.{due, port_number}
use Rattle.gg_node.specs.Token.{IsNextState}
use Rattle.gg_node.specs.Step.{AllFired, finished}
use Rattle.gg_net.specs.declared.shape.Station.{Station}
use Rattle.gg_net.specs.Network.{Network, wire_at, Kind, kind_of, kind_at, Frame, frame_of}
use Rattle.gg_net.specs.inside.Readings.{fields_at, due_fields}
use Rattle.gg_net.specs.Kept.{MachineAt, Kept}
use Rattle.gg_net.specs.inside.Net.{IsListed}
use Rattle.gg_net.specs.inside.Parted.{takes_by, enters_by}
use Rattle.gg_net.proofs.PortLemmas.{any_port}
use Rattle.gg_net.proofs.LatchLemmas.{all-filled, none-empty}
use Rattle.gg_net.proofs.StepLemmas.{all-served}
use Rattle.gg_net.proofs.MachineLemmas.{own_finish}
use Rattle.gg_net.proofs.PartLemmas.{takes-finish, enters-finish}
use Rattle.gg_workers_pass.specs.declared.choice.Chosen.{Chosen}
use Rattle.gg_workers_pass.specs.inside.Chosen.{all_chosen}
use Rattle.gg_workers_pass.specs.inside.Seats.{SeatCounts}
use Rattle.gg_workers_pass.specs.Tries.{StandsBelow}
use Rattle.gg_workers_pass.specs.inside.Tries.{ServeIsDue, FinishIsDue, FinishTriedIf}
use Rattle.gg_workers_pass.specs.inside.Rows.{SeatsByPlace, AreIns, AreOuts, LatchesTried, FiresTried, ServesTried, NoneServes}
use Rattle.gg_workers_pass.specs.inside.Pass.{puts_by, serves_by, MachineWentOn, HasSeats, ChosenDone, KnownDone}
use Rattle.gg_workers_pass.proofs.WentLemmas.{enters-puts, went-further, went-latches, went-fires, went-serves, went-finish, went-nowhere}

-- ---- what stays possible while tokens are latched and given

-- if no in was missing, none is once more latches hold tokens
pub still-filled : (old new : List (Option ℕ)) (ins : List ℕ) → ((i : ℕ) → IsSome (latch_at old i) → IsSome (latch_at new i)) → first_empty old ins ≡ None → first_empty new ins ≡ None
still-filled old new ins grows none = none-empty new ins (λ k d lt. grows (slice_index_or ins k d) (all-filled old ins none k d lt))

pub still-latched : (old new : List (Option ℕ)) → length new ≡ length old → ((i : ℕ) → IsSome (latch_at old i) → IsSome (latch_at new i)) → All (λ latch. IsSome latch) old → All (λ latch. IsSome latch) new
still-latched old new long grows all k d lt =
    subst IsSome (get_or_default new k None d lt) (grows k (all k None (omega (arith, lt, long))))

pub still-fired : (old new : List Bool) → length new ≡ length old → ((o : ℕ) → flag_at old o ≡ true → flag_at new o ≡ true) → All (λ flag. flag ≡ true) old → All (λ flag. flag ≡ true) new
still-fired old new long grows all k d lt =
    subst (λ flag. flag ≡ true) (get_or_default new k false d lt) (grows k (all k false (omega (arith, lt, long))))

-- the count of a seat and the count of its machine rise together
pub count-up : (flow : Flow) (net : Network) (c a b : ℕ) (old new : SeatState) → SeatCounts flow net c a old → SeatCounts flow net c b new → old.count < new.count → a < b
count-up flow net c a b old new before after lt = omega (arith, before.count, after.count, lt)

-- a row of seats counts by another function that agrees at its channels
pub placed-same : {X S : Type 0} (of : X → S → Type 0) (part : S → SeatState) (flow : Flow) (net : Network) (f g : ℕ → ℕ) (links : List X) (channels : List ℕ) (seats : List S) → ((k : ℕ) → k < length channels → g (value_at channels k) ≡ f (value_at channels k)) → SeatsByPlace of part flow net f links channels seats → SeatsByPlace of part flow net g links channels seats
placed-same of part flow net f g links channels seats same h =
    record {
      long = h.long;
      belongs = h.belongs;
      counts = λ k s lt. subst (λ n. SeatCounts flow net (value_at channels k) n (part (slice_index_or seats k s))) (sym (same k lt)) (h.counts k s lt);
    }

-- the channels at the ins and outs of a machine, as its station lists them
pub are-ins : (flow : Flow) (net : Network) (m : ℕ) (x : Machine) (station : Station) → MachineAt flow (frame_of net) m x → IsListed net.wires m (kind_at (frame_of net).kinds m) station → AreIns net m x station.ins
are-ins flow net m x station own listed = record { count = listed.ins ∙ sym (ap (λ (k : Kind). k.ins) own.kind); at = λ k lt. listed.into k (omega (arith, lt, listed.ins)) }

pub are-outs : (flow : Flow) (net : Network) (m : ℕ) (x : Machine) (station : Station) → MachineAt flow (frame_of net) m x → IsListed net.wires m (kind_at (frame_of net).kinds m) station → AreOuts net m x station.outs
are-outs flow net m x station own listed = record { count = listed.outs ∙ sym (ap (λ (k : Kind). k.outs) own.kind); at = λ k lt. listed.from k (omega (arith, lt, listed.outs)) }

-- The cycle was finished, or nothing was done, and that could be done only if it wasn't to be tried.
record Ended (tried : Bool) (flow : Flow) (frame : Frame) (m upto : ℕ) (x y : Machine) : Type 0 where
  machine : MachineAt flow frame m y
  went_on : MachineWentOn frame m upto x y
  takes : (c : ℕ) → c < length frame.wires → (wire_at frame.wires c).consumer ≡ m → takes_by frame y c ≡ takes_by frame x c
  enters : (c : ℕ) → c < length frame.wires → (wire_at frame.wires c).producer ≡ m → enters_by frame y c ≡ enters_by frame x c
  finish : tried ≡ true → FinishIsDue x → x.cycle < y.cycle

module _ {X S T : Type 0} (takes_from : X → S → Type 0) (puts_into : X → T → Type 0) (taking : S → SeatState) (putting : T → SeatState) (flow : Flow) (net : Network) (kept : Kept flow net) (links : List X) (m : ℕ) (there : m < length (map kind_of net.machines)) (upto : ℕ) (few : upto ≤ net.end) (ins outs : List ℕ)
    (x : Machine) (take_seats : List S) (put_seats : List T) (machine_seats : HasSeats takes_from puts_into taking putting flow net links m ins outs x take_seats put_seats)
    (into : AreIns net m x ins) (from : AreOuts net m x outs) (below : StandsBelow upto x) (chosen : Chosen)
    (x1 : Machine) (take_seats1 : List S) (latches : LatchesTried takes_from taking flow net m links ins chosen.first_in (max chosen.first_in (min chosen.past_in (length ins))) x take_seats x1 take_seats1)
    (x2 : Machine) (put_seats1 : List T) (fires : FiresTried puts_into putting flow net m links outs chosen.first_out (max chosen.first_out (min chosen.past_out (length outs))) x1 put_seats x2 put_seats1)
    (x3 : Machine) (serves : ServesTried flow net m x2 x3) (none : chosen.serves ≡ true → NoneServes x3) where
  abbrev frame : Frame
  frame = frame_of net

  kind-of : (y : Machine) → MachineAt flow frame m y → kind_of y ≡ kind_of x
  kind-of y at = at.kind ∙ sym machine_seats.machine.kind

  below1 : StandsBelow upto x1
  below1 = subst (λ n. n < upto) (sym (ap (λ (z : Machine). z.cycle) latches.same)) below

  below2 : StandsBelow upto x2
  below2 = subst (λ n. n < upto) (sym (ap (λ (z : Machine). z.cycle) fires.same)) below1

  below3 : StandsBelow upto x3
  below3 = subst (λ n. n < upto) (sym (ap (λ (z : Machine). z.cycle) serves.same)) below2

  went1 : MachineWentOn frame m upto x x1
  went1 = went-latches frame m upto x x1 below (kind-of x1 latches.machine) latches.same latches.grows

  went2 : MachineWentOn frame m upto x1 x2
  went2 = went-fires frame m upto x1 x2 below1 (kind-of x2 fires.machine ∙ sym (kind-of x1 latches.machine)) fires.same fires.grows

  went3 : MachineWentOn frame m upto x2 x3
  went3 = went-serves frame m upto x2 x3 below2 (kind-of x3 serves.machine ∙ sym (kind-of x2 fires.machine)) serves.same serves.grows serves.machine.served

  went13 : MachineWentOn frame m upto x1 x3
  went13 = went-further frame m upto x1 x2 x3 went2 went3

  -- what may be finished before the pass still may before the end of the cycle
  serve-still : (p : ℕ) → ServeIsDue x p → ServeIsDue x2 p
  serve-still p may =
      record {
        fired = all-fired may.fired;
        due = ap due fires.same ∙ ap due latches.same ∙ may.due;
        fields = fields-still may.fields;
      }
    where
      all-fired : AllFired x → AllFired x2
      all-fired all =
          still-fired x1.flags x2.flags (ap (λ (k : Kind). k.outs) (kind-of x2 fires.machine ∙ sym (kind-of x1 latches.machine))) fires.grows
          (subst (λ (flags : List Bool). All (λ flag. flag ≡ true) flags) (sym (ap (λ (z : Machine). z.flags) latches.same)) all)

      fields-still : first_empty x.latches (due_fields x) ≡ None → first_empty x2.latches (due_fields x2) ≡ None
      fields-still filled =
          let one : first_empty x1.latches (due_fields x) ≡ None = still-filled x.latches x1.latches (due_fields x) latches.grows filled in
          ap (λ (ls : List (Option ℕ)). first_empty ls (due_fields x2)) (ap (λ (z : Machine). z.latches) fires.same)
          ∙ ap (first_empty x1.latches) (ap due_fields fires.same ∙ ap due_fields latches.same)
          ∙ one

  pub finish-still : FinishIsDue x → FinishIsDue x3
  finish-still may =
      let due2 : due x2 ≡ None = ap due fires.same ∙ ap due latches.same ∙ may.served in
      let whole : x2.served ≡ length x2.ports = all-served x2.ports x2.served any_port fires.machine.served due2 in
      let ports3 : x3.ports ≡ x2.ports = ap (λ (z : Machine). z.ports) serves.same in
      let same3 : x3.served ≡ x2.served = omega (arith, whole, serves.grows, serves.machine.served, ap (λ (ports : List Port). length ports) ports3) in
      record {
        fired = subst (λ (flags : List Bool). All (λ flag. flag ≡ true) flags) (sym (ap (λ (z : Machine). z.flags) serves.same))
            (still-fired x1.flags x2.flags (ap (λ (k : Kind). k.outs) (kind-of x2 fires.machine ∙ sym (kind-of x1 latches.machine))) fires.grows
            (subst (λ (flags : List Bool). All (λ flag. flag ≡ true) flags) (sym (ap (λ (z : Machine). z.flags) latches.same)) may.fired));
        served = ap (λ (ps : List Port). port_number (slice_get ps x3.served)) ports3 ∙ ap (λ n. port_number (slice_get x2.ports n)) same3 ∙ due2;
        latched = subst (λ (ls : List (Option ℕ)). All (λ latch. IsSome latch) ls) (sym (ap (λ (z : Machine). z.latches) serves.same ∙ ap (λ (z : Machine). z.latches) fires.same))
            (still-latched x.latches x1.latches (ap (λ (k : Kind). k.ins) (kind-of x1 latches.machine)) latches.grows may.latched);
      }

  -- ---- the end of the cycle

  ended-not : (chosen.finishes ≡ true → FinishIsDue x3 → ⊥) → Ended chosen.finishes flow frame m upto x3 x3
  ended-not cause =
      record {
        machine = serves.machine;
        went_on = went-nowhere frame m upto x3;
        takes = λ c known to. refl;
        enters = λ c known by. refl;
        finish = λ tried may. absurd (cause tried may);
      }

  ended-so : (next : State) → FinishIsDue x3 → IsNextState x3 next → Ended chosen.finishes flow frame m upto x3 (finished x3 next)
  ended-so next whole goes =
      let count : x3.served ≡ length x3.ports = all-served x3.ports x3.served any_port serves.machine.served whole.served in
      let own : MachineAt flow frame m (finished x3 next) = own_finish flow frame kept.sound m there x3 serves.machine next (omega (arith, below3, few)) whole.latched count goes in
      record {
        machine = own;
        went_on = went-finish frame m upto flow kept.sound there x3 serves.machine below3 next (own.kind ∙ sym serves.machine.kind) whole.fired whole.latched;
        takes = λ c known to. takes-finish flow frame kept.sound m there x3 serves.machine next c known to whole.latched;
        enters = λ c known by. enters-finish flow frame kept.sound m there x3 serves.machine next c known by whole.fired;
        finish = λ tried may. omega arith;
      }

  ended-by : (hosts after : List Machine) (thread : ℕ) → thread < length hosts → machine_at hosts thread ≡ x3 → (tried b : Bool) → chosen.finishes ≡ tried → FinishTriedIf tried hosts thread after b → Ended chosen.finishes flow frame m upto x3 (machine_at after thread)
  ended-by hosts after thread here is false b not t =
      subst (Ended chosen.finishes flow frame m upto x3) (sym (ap (λ all. machine_at all thread) t.1 ∙ is)) (ended-not (λ yes may. absurd (true≢false (sym yes ∙ not))))
  ended-by hosts after thread here is true false so t =
      subst (Ended chosen.finishes flow frame m upto x3) (sym (ap (λ all. machine_at all thread) t.same ∙ is)) (ended-not (λ yes may. t.cause (subst FinishIsDue (sym is) may)))
  ended-by hosts after thread here is true true so t =
      subst (Ended chosen.finishes flow frame m upto x3)
      (sym (ap (λ all. machine_at all thread) t.step ∙ get_or-set_same hosts thread (finished (machine_at hosts thread) t.state) no_machine here ∙ ap (λ z. finished z t.state) is))
      (ended-so t.state (subst FinishIsDue is t.whole) (subst (λ z. IsNextState z t.state) is t.is))

  -- ---- the whole pass

  module _ (hosts after : List Machine) (thread : ℕ) (here : thread < length hosts) (is : machine_at hosts thread ≡ x3) (b : Bool) (t : FinishTriedIf chosen.finishes hosts thread after b) where
    abbrev y : Machine
    y = machine_at after thread

    ended : Ended chosen.finishes flow frame m upto x3 y
    ended = ended-by hosts after thread here is chosen.finishes b refl t

    pub pass-went : MachineWentOn frame m upto x y
    pass-went = went-further frame m upto x x1 y went1 (went-further frame m upto x1 x3 y went13 ended.went_on)

    pub pass-machine_seats : HasSeats takes_from puts_into taking putting flow net links m ins outs y take_seats1 put_seats1
    pass-machine_seats =
        record {
          machine = ended.machine;
          takes = placed-same takes_from taking flow net (takes_by frame x1) (takes_by frame y) links ins take_seats1
              (λ k lt. ended.takes (value_at ins k) (into.at k lt).known (into.at k lt).machine ∙ ap (λ z. takes_by frame z (value_at ins k)) serves.same ∙ ap (λ z. takes_by frame z (value_at ins k)) fires.same) latches.placed;
          puts = placed-same puts_into putting flow net (enters_by frame x2) (enters_by frame y) links outs put_seats1
              (λ k lt. ended.enters (value_at outs k) (from.at k lt).known (from.at k lt).machine ∙ ap (λ z. enters_by frame z (value_at outs k)) serves.same) fires.placed;
        }

    pub pass-done : ChosenDone taking putting frame upto chosen ins outs x take_seats put_seats y
    pass-done =
        let rest : MachineWentOn frame m upto x1 y = went-further frame m upto x1 x3 y went13 ended.went_on in
        record {
          latch = λ k s first past lt going empty seen.
              let c : ℕ = value_at ins k in
              let up : takes_by frame x c < takes_by frame x1 c =
              count-up flow net c (takes_by frame x c) (takes_by frame x1 c) (taking (slice_index_or take_seats k s)) (taking (slice_index_or take_seats1 k s)) (machine_seats.takes.counts k s lt) (latches.placed.counts k s lt) (latches.done k s first (omega (arith, past, lt)) lt empty seen) in
              omega (arith, up, (rest.takes c (into.at k lt).known (into.at k lt).machine).up);
          fire = λ k s first past lt going clear needed room.
              let c : ℕ = value_at outs k in
              let flag : flag_at x1.flags k ≡ false = ap (λ (z : Machine). flag_at z.flags k) latches.same ∙ clear in
              let none : missing x1 k ≡ None =
              ap (λ (needs : List (List ℕ)). first_empty x1.latches (needs_at needs k)) (ap (λ (z : Machine). z.needs) latches.same)
              ∙ still-filled x.latches x1.latches (needs_at x.needs k) latches.grows needed in
              let same : enters_by frame x1 c ≡ enters_by frame x c = ap (λ z. enters_by frame z c) latches.same in
              let up : enters_by frame x c < enters_by frame x2 c =
              count-up flow net c (enters_by frame x c) (enters_by frame x2 c) (putting (slice_index_or put_seats k s)) (putting (slice_index_or put_seats1 k s)) (machine_seats.puts.counts k s lt) (fires.placed.counts k s lt) (fires.done k s first (omega (arith, past, lt)) lt flag none room) in
              let more : puts_by frame x c < puts_by frame x2 c = enters-puts (wire_at frame.wires c).first (puts_by frame x c) (puts_by frame x2 c) up in
              omega (arith, more, (went3.puts c (from.at k lt).known (from.at k lt).machine).up, (ended.went_on.puts c (from.at k lt).known (from.at k lt).machine).up);
          serve = λ p tried going may.
              let port : ServeIsDue x2 p = serve-still p may in
              let apart : x3.served ≢ x2.served = λ same. none tried p (serve-again p port same) in
              let is2 : serves_by x2 ≡ serves_by x = ap serves_by fires.same ∙ ap serves_by latches.same in
              let is3 : serves_by x3 ≡ length x2.ports * x2.cycle + x3.served = ap serves_by serves.same in
              omega (arith, is2, is3, apart, serves.grows, ended.went_on.serves.up);
          finish = λ tried going may. omega (arith, ended.finish tried (finish-still may), went1.cycle.up, went13.cycle.up);
        }
      where
        serve-again : (p : ℕ) → ServeIsDue x2 p → x3.served ≡ x2.served → ServeIsDue x3 p
        serve-again p port same =
            let ports3 : x3.ports ≡ x2.ports = ap (λ (z : Machine). z.ports) serves.same in
            let latches3 : x3.latches ≡ x2.latches = ap (λ (z : Machine). z.latches) serves.same in
            record {
              fired = subst (λ (flags : List Bool). All (λ flag. flag ≡ true) flags) (sym (ap (λ (z : Machine). z.flags) serves.same)) port.fired;
              due = ap (λ (ps : List Port). port_number (slice_get ps x3.served)) ports3 ∙ ap (λ n. port_number (slice_get x2.ports n)) same ∙ port.due;
              fields =
                  ap (λ (ls : List (Option ℕ)). first_empty ls (fields_at (slice_get x3.ports x3.served))) latches3
                  ∙ ap (λ (ps : List Port). first_empty x2.latches (fields_at (slice_get ps x3.served))) ports3
                  ∙ ap (λ n. first_empty x2.latches (fields_at (slice_get x2.ports n))) same
                  ∙ port.fields;
            }

-- ---- a pass of a machine that isn't below the cycle

module _ {S T : Type 0} (taking : S → SeatState) (putting : T → SeatState) (frame : Frame) (upto : ℕ) (ins outs : List ℕ) (x : Machine) (take_seats : List S) (put_seats : List T) where
  -- Nothing was done, and nothing could be.
  pub idle-done : (chosen : Chosen) → upto ≤ x.cycle → ChosenDone taking putting frame upto chosen ins outs x take_seats put_seats x
  idle-done chosen le =
      record {
        latch = λ k s first past lt going empty seen. absurd (omega (arith, going, le));
        fire = λ k s first past lt going clear needed room. absurd (omega (arith, going, le));
        serve = λ p tried going may. absurd (omega (arith, going, le));
        finish = λ tried going may. absurd (omega (arith, going, le));
      }

  -- where all are chosen, all that could be done was done
  pub all-done : (y : Machine) → length ins < 2 ^ 32 → length outs < 2 ^ 32 → ChosenDone taking putting frame upto all_chosen ins outs x take_seats put_seats y → KnownDone taking putting frame upto ins outs x take_seats put_seats y
  all-done y few_ins few_outs done =
      record {
        latch = λ k s lt. done.latch k s (omega arith) (omega (arith, lt, few_ins)) lt;
        fire = λ k s lt. done.fire k s (omega arith) (omega (arith, lt, few_outs)) lt;
        serve = λ p. done.serve p refl;
        finish = done.finish refl;
      }
