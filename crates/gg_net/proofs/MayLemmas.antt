-- What a host requires of `Latch` and `Fire` is met if the event may be done.
use Rattle.std.proofs.Common.{◌≡◌, ℕ, ◌<◌, ◌≤◌, List, length, map, refl, sym, ap, subst, ◌∙◌, arith}
use Rattle.std.proofs.lemmas.List.{length-map, get_or-map}
use Rattle.gg_bits.specs.Shape.{Shape, Fits, uint, shape}
use Rattle.gg_flat.specs.declared.piece.Signal.{Signal}
use Rattle.gg_flat.specs.Line.{value_at, shape_at}
use Rattle.gg_flat.specs.Circuit.{signal_shapes}
use Rattle.gg_flat.specs.Run.{row_at}
use Rattle.gg_flat.specs.Streams.{Flow}
use Rattle.gg_node.specs.Machine.{Behaviour, RunsPiece, GivesColumn, KeepsLast, Machine}
use Rattle.gg_node.specs.inside.Step.{FitsIn, HasValueAt, MayLatch, MayFire}
use Rattle.gg_net.specs.declared.shape.Wire.{Wire}
use Rattle.gg_net.specs.Network.{Network, wire_at, queue_at, producer_of, consumer_of, takes, entered, got_by, kind_of, kind_at, Frame, frame_of}
use Rattle.gg_net.specs.Step.{front_of}
use Rattle.gg_net.proofs.Can.{CanLatch, CanFire}
use Rattle.gg_net.specs.Kept.{list_at, rows_at, start_at, RunsRows, Runs, Asks, IsSound, MachineAt, Kept}
use Rattle.gg_net.proofs.MachineLemmas.{asks, does, behaviour-is, place-within, out-within}
use Rattle.gg_net.proofs.ChannelLemmas.{front-is}
use Rattle.gg_net.proofs.FrameLemmas.{machine-there}
use Rattle.gg_net.proofs.StateLemmas.{settled-at}

module _ (flow : Flow) (frame : Frame) (sound : IsSound flow frame) (m : ℕ) (below : m < length frame.kinds) where
  -- a channel's value is of the type of its in
  pub fits-by : (b : Behaviour) (c t : ℕ) → (kind_at frame.kinds m).behaviour ≡ b → c < length frame.wires → (wire_at frame.wires c).consumer ≡ m → flow.begin ≤ t → t < frame.end → FitsIn b (wire_at frame.wires c).place (value_at (list_at flow.lists c) t)
  fits-by (RunsPiece piece) c t is known to le lt =
      let i : ℕ = (wire_at frame.wires c).place in
      let s : ℕ = value_at piece.ins i in
      let row : List ℕ = row_at (rows_at flow.runs m) t in
      let run : RunsRows piece (kind_at frame.kinds m) (start_at flow (kind_at frame.kinds m) m) (rows_at flow.runs m) frame.end = does flow frame sound m below piece is in
      let place : i < (kind_at frame.kinds m).ins = subst (λ q. i < (kind_at frame.kinds q).ins) to (sound.wired.place c known) in
      let within : i < length piece.ins = omega (arith, place, run.ins) in
      let there : s < length piece.signals = (run.formed.ins i within).0 in
      let typed : Fits (shape_at (signal_shapes piece) s) (value_at row s) = (settled-at piece (start_at flow (kind_at frame.kinds m) m) (rows_at flow.runs m) t frame.end le lt run.is).typed.fits s (omega (arith, there, length-map piece.signals (λ (signal : Signal). shape signal.ty))) in
      let asked : value_at row s ≡ value_at (list_at flow.lists c) t = subst (λ b. Asks b (rows_at flow.runs m) i t (value_at (list_at flow.lists c) t)) is (asks flow frame sound m below c t known to le lt) in
      subst (λ (to_shape : Shape). Fits to_shape (value_at (list_at flow.lists c) t)) (sym (get_or-map (shape_at (signal_shapes piece)) piece.ins i 0 (uint 0) within))
      (subst (Fits (shape_at (signal_shapes piece) s)) asked typed)
  fits-by (GivesColumn column) c t is known to le lt = tt
  fits-by (KeepsLast rows) c t is known to le lt = tt

  -- a column has a value for each cycle
  pub known-by : (b : Behaviour) (t : ℕ) → (kind_at frame.kinds m).behaviour ≡ b → t < frame.end → HasValueAt b t
  known-by (RunsPiece piece) t is lt = tt
  known-by (GivesColumn column) t is lt = let long : frame.end ≤ length column = (subst (λ b. Runs b (kind_at frame.kinds m) (start_at flow (kind_at frame.kinds m) m) (rows_at flow.runs m) frame.end) is (sound.solves.does m below)).0 in omega (arith, lt, long)
  known-by (KeepsLast rows) t is lt = tt

module _ (flow : Flow) (net : Network) (kept : Kept flow net) where
  pub consumer-there : (c : ℕ) → c < length net.wires → (wire_at net.wires c).consumer < length net.machines
  consumer-there c lt = machine-there net (wire_at net.wires c).consumer (kept.sound.wired.consumer c lt)

  pub producer-there : (c : ℕ) → c < length net.wires → (wire_at net.wires c).producer < length net.machines
  producer-there c lt = machine-there net (wire_at net.wires c).producer (kept.sound.wired.producer c lt)

  pub may-latch : (c : ℕ) → CanLatch net c → MayLatch (consumer_of net c) (wire_at net.wires c).place (front_of net c)
  may-latch c can =
      let w : Wire = wire_at net.wires c in
      let m : ℕ = w.consumer in
      let lt : c < length net.wires = can.can.0 in
      let below : m < length (map kind_of net.machines) = kept.sound.wired.consumer c lt in
      let x : Machine = consumer_of net c in
      let at : MachineAt flow (frame_of net) m x = kept.machines m (machine-there net m below) in
      let token : front_of net c ≡ value_at (list_at flow.lists c) x.cycle =
      front-is (list_at flow.lists c) w.capacity (takes net c) (entered net c) (queue_at net.queues c) (kept.channels c lt) can.held ∙ ap (value_at (list_at flow.lists c)) (ap (got_by x.cycle) can.empty) in
      record {
        there = place-within flow (frame_of net) kept.sound m below x at c lt refl;
        empty = can.empty;
        typed =
            subst (λ v. FitsIn x.behaviour w.place v) (sym token)
            (fits-by flow (frame_of net) kept.sound m below x.behaviour c x.cycle (behaviour-is flow (frame_of net) kept.sound m below x at) lt refl at.begun can.can.1);
      }

  pub may-fire : (c : ℕ) → CanFire net c → MayFire (producer_of net c) (wire_at net.wires c).out
  may-fire c can =
      let w : Wire = wire_at net.wires c in
      let m : ℕ = w.producer in
      let lt : c < length net.wires = can.can.0 in
      let below : m < length (map kind_of net.machines) = kept.sound.wired.producer c lt in
      let x : Machine = producer_of net c in
      let at : MachineAt flow (frame_of net) m x = kept.machines m (machine-there net m below) in
      record {
        there = out-within flow (frame_of net) kept.sound m below x at c lt refl;
        clear = can.clear;
        needed = can.needed;
        known = known-by flow (frame_of net) kept.sound m below x.behaviour x.cycle (behaviour-is flow (frame_of net) kept.sound m below x at) can.can.1;
      }
