-- The first pass over a machine does each of its events that the network could do.
use Rattle.std.proofs.Common.{◌≡◌, ℕ, ◌+◌, ◌*◌, ◌<◌, List, [], ◌∷◌, None, false, length, sym, ap, subst, ◌∙◌, arith}
use Rattle.gg_flat.specs.Line.{value_at}
use Rattle.gg_flat.specs.Streams.{Flow}
use Rattle.gg_link.specs.Seats.{SeatState}
use Rattle.gg_node.specs.Machine.{Machine, machine_at, latch_at, flag_at, missing}
use Rattle.gg_net.specs.declared.shape.Station.{Station}
use Rattle.gg_net.specs.Network.{Network, wire_at, queue_at, puts, takes, kind_at, Frame, frame_of}
use Rattle.gg_net.proofs.Can.{CanLatch, CanFire}
use Rattle.gg_net.specs.Step.{facts_of}
use Rattle.gg_net.proofs.RowLemmas.{latch-goes, fire-goes}
use Rattle.gg_net.proofs.TableLemmas.{latch-can, fire-can, serve-can, finish-can}
use Rattle.gg_net.specs.Kept.{Kept}
use Rattle.gg_net.specs.inside.Net.{IsListed}
use Rattle.gg_net.specs.inside.Parted.{takes_by}
use Rattle.gg_workers_pass.specs.Tries.{StandsBelow}
use Rattle.gg_workers_pass.specs.inside.Tries.{ServeIsDue, FinishIsDue}
use Rattle.gg_workers_pass.specs.inside.Pass.{puts_by, serves_by, MachineWentOn, HasSeats, HasNewSeats, KnownDone, EventsDone}
use Rattle.gg_workers_pass.proofs.AllLemmas.{in-listed, out-listed}

-- some element of a list that has one
pub some-of : {A : Type 0} (xs : List A) (k : ℕ) → k < length xs → A
some-of [] k lt = absurd (omega (arith, lt))
some-of (x ∷ xs) k lt = x

-- What was done stays done.
pub events-later : (net : Network) (m upto : ℕ) (y z : Machine) → EventsDone net m upto y → MachineWentOn (frame_of net) m upto y z → EventsDone net m upto z
events-later net m upto y z done went =
    record {
      latch = λ c can to below. omega (arith, done.latch c can to below, (went.takes c (latch-goes (facts_of net) c can).known to).up);
      fire = λ c can from below. omega (arith, done.fire c can from below, (went.puts c (fire-goes (facts_of net) c can).known from).up);
      serve = λ p can below. omega (arith, done.serve p can below, went.serves.up);
      finish = λ can below. omega (arith, done.finish can below, went.cycle.up);
    }

module _ {X S T : Type 0} (takes_from : X → S → Type 0) (puts_into : X → T → Type 0) (taking : S → SeatState) (putting : T → SeatState) (flow : Flow) (net : Network) (kept : Kept flow net) (links : List X) (m : ℕ) (station : Station) (listed : IsListed net.wires m (kind_at (frame_of net).kinds m) station) (upto : ℕ)
    (x : Machine) (take_seats : List S) (put_seats : List T) (machine_seats : HasSeats takes_from puts_into taking putting flow net links m station.ins station.outs x take_seats put_seats) (new : HasNewSeats taking putting net m station.ins station.outs x take_seats put_seats)
    (y : Machine) (known : KnownDone taking putting (frame_of net) upto station.ins station.outs x take_seats put_seats y) where
  abbrev frame : Frame
  frame = frame_of net

  going : StandsBelow upto (machine_at net.machines m) → StandsBelow upto x
  going below = subst (StandsBelow upto) (sym new.machine) below

  latch-done : (c : ℕ) → CanLatch net c → (wire_at net.wires c).consumer ≡ m → StandsBelow upto (machine_at net.machines m) → takes net c < takes_by frame y c
  latch-done c can to below =
      let k : ℕ = (wire_at net.wires c).place in
      let place = in-listed frame kept.sound.wired m station listed c can.can.0 to in
      let s : S = some-of take_seats k (omega (arith, place.0, machine_seats.takes.long)) in
      let empty : latch_at x.latches k ≡ None = ap (λ (z : Machine). latch_at z.latches k) new.machine ∙ ap (λ j. latch_at (machine_at net.machines j).latches k) (sym to) ∙ can.empty in
      let seat = new.takes k s place.0 in
      let more : takes_by frame x (value_at station.ins k) < takes_by frame y (value_at station.ins k) =
      known.latch k s place.0 (going below) empty (omega (arith, seat.0, seat.1, ap (λ d. length (queue_at net.queues d)) place.1, can.held)) in
      let here : takes_by frame x c < takes_by frame y c = subst (λ d. takes_by frame x d < takes_by frame y d) place.1 more in
      subst (λ n. n < takes_by frame y c) (ap (λ z. takes_by frame z c) new.machine ∙ ap (λ j. takes_by frame (machine_at net.machines j) c) (sym to)) here

  fire-done : (c : ℕ) → CanFire net c → (wire_at net.wires c).producer ≡ m → StandsBelow upto (machine_at net.machines m) → puts net c < puts_by frame y c
  fire-done c can from below =
      let k : ℕ = (wire_at net.wires c).out in
      let place = out-listed frame kept.sound.wired m station listed c can.can.0 from in
      let s : T = some-of put_seats k (omega (arith, place.0, machine_seats.puts.long)) in
      let clear : flag_at x.flags k ≡ false = ap (λ (z : Machine). flag_at z.flags k) new.machine ∙ ap (λ j. flag_at (machine_at net.machines j).flags k) (sym from) ∙ can.clear in
      let none : missing x k ≡ None = ap (λ (z : Machine). missing z k) new.machine ∙ ap (λ j. missing (machine_at net.machines j) k) (sym from) ∙ can.needed in
      let more : puts_by frame x (value_at station.outs k) < puts_by frame y (value_at station.outs k) =
      known.fire k s place.0 (going below) clear none
      (omega (arith, new.puts k s place.0, (machine_seats.puts.counts k s place.0).capacity, ap (λ d. length (queue_at net.queues d)) place.1, ap (λ d. (wire_at net.wires d).capacity) place.1, can.room)) in
      let here : puts_by frame x c < puts_by frame y c = subst (λ d. puts_by frame x d < puts_by frame y d) place.1 more in
      subst (λ n. n < puts_by frame y c) (ap (λ z. puts_by frame z c) new.machine ∙ ap (λ j. puts_by frame (machine_at net.machines j) c) (sym from)) here

  pub events-done : EventsDone net m upto y
  events-done =
      record {
        latch = λ c ready. latch-done c (latch-can net c ready);
        fire = λ c ready. fire-done c (fire-can net kept.sound.wired c ready);
        serve = λ p ready below.
            let can = serve-can net kept.sound.wired m p ready in
            subst (λ (z : Machine). length z.ports * z.cycle + z.served < serves_by y) new.machine
            (known.serve p (going below) (subst (λ z. ServeIsDue z p) (sym new.machine) (record { fired = can.fired; due = can.due; fields = can.fields })));
        finish = λ ready below.
            let can = finish-can net kept.sound.wired m ready in
            subst (λ (z : Machine). z.cycle < y.cycle) new.machine
            (known.finish (going below) (subst FinishIsDue (sym new.machine) (record { fired = can.fired; served = can.served; latched = can.latched })));
      }
