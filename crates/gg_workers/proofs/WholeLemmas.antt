-- A network that was brought to a cycle as a whole: before, no machine had reached it.
use Rattle.std.proofs.Common.{◌≡◌, ℕ, suc, ◌+◌, ◌*◌, ◌<◌, ◌≤◌, List, Option, None, Some, Bool, true, false, length, refl, sym, ap, subst, ◌∙◌, arith}
use Rattle.std.specs.Prelude.{slice_get}
use Rattle.std.proofs.lemmas.List.{length-map}
use Rattle.std.proofs.lemmas.Option.{none-some, slice_get_within}
use Rattle.gg_flat.specs.Streams.{Flow}
use Rattle.gg_node.specs.Machine.{Port, machine_at, latch_at, flag_at}
use Rattle.gg_node.specs.inside.Machine.{port_number}
use Rattle.gg_net.specs.Network.{Network, wire_at, producer_of, consumer_of, cycle_at, AllStandAt, and_one, got_by, puts, takes, serves, Kind, kind_of, kind_at, Frame, frame_of}
use Rattle.gg_net.specs.Kept.{Kept}
use Rattle.gg_net.specs.declared.event.Event.TheVariants.{Latch, Fire, Serve, Finish}
use Rattle.gg_net.proofs.FrameLemmas.{kind-is}
use Rattle.gg_net.proofs.MayLemmas.{consumer-there, producer-there}
use Rattle.gg_net.proofs.TableLemmas.{latch-can, fire-can, serve-can, finish-can}
use Rattle.gg_measure.specs.inside.Nets.{StaysWithin}
use Rattle.gg_workers_pass.specs.Pass.{RisesTo}
use Rattle.gg_workers_pass.proofs.WentLemmas.{serves-short}
use Rattle.gg_workers.specs.Work.{CountsRose, ReadyDone, IsLater}

-- ---- one count

got-least : (n : ℕ) (latch : Option ℕ) → n ≤ got_by n latch
got-least n None = omega arith
got-least n (Some value) = omega arith

got-most : (n : ℕ) (latch : Option ℕ) → got_by n latch ≤ suc n
got-most n None = omega arith
got-most n (Some value) = omega arith

given-least : (n : ℕ) (flag : Bool) → n ≤ and_one n flag
given-least n false = omega arith
given-least n true = omega arith

given-most : (n : ℕ) (flag : Bool) → and_one n flag ≤ suc n
given-most n false = omega arith
given-most n true = omega arith

-- where a port is due, fewer are served than there are
due-left : (ports : List Port) (served p : ℕ) (port : Option Port) → slice_get ports served ≡ port → port_number port ≡ Some p → served < length ports
due-left ports served p None at is = absurd (none-some p is)
due-left ports served p (Some port) at is = slice_get_within ports served port at

module _ (flow : Flow) (upto : ℕ) (old new : Network) (kept : Kept flow old) (kept_new : Kept flow new) (same : frame_of new ≡ frame_of old) (there : AllStandAt upto new) (bounds : StaysWithin upto old new) (below : (m : ℕ) → m < length old.machines → cycle_at old m < upto) where
  machine-still : (m : ℕ) → m < length old.machines → m < length new.machines
  machine-still m lt = omega (arith, lt, length-map new.machines kind_of, ap (λ (frame : Frame). length frame.kinds) same, length-map old.machines kind_of)

  channel-still : (c : ℕ) → c < length old.wires → c < length new.wires
  channel-still c lt = omega (arith, lt, ap (λ (frame : Frame). length frame.wires) same)

  stands : (m : ℕ) → m < length old.machines → cycle_at new m ≡ upto
  stands m lt = there m (machine-still m lt)

  -- ---- what a channel's machines count

  takes-least : (c : ℕ) → c < length old.wires → upto ≤ takes new c
  takes-least c lt =
      let m : ℕ = (wire_at new.wires c).consumer in
      omega (arith, there m (consumer-there flow new kept_new c (channel-still c lt)), got-least (cycle_at new m) (latch_at (consumer_of new c).latches (wire_at new.wires c).place))

  takes-most : (c : ℕ) → c < length old.wires → takes old c ≤ upto
  takes-most c lt =
      let m : ℕ = (wire_at old.wires c).consumer in
      omega (arith, below m (consumer-there flow old kept c lt), got-most (cycle_at old m) (latch_at (consumer_of old c).latches (wire_at old.wires c).place))

  puts-least : (c : ℕ) → c < length old.wires → upto ≤ puts new c
  puts-least c lt =
      let m : ℕ = (wire_at new.wires c).producer in
      omega (arith, there m (producer-there flow new kept_new c (channel-still c lt)), given-least (cycle_at new m) (flag_at (producer_of new c).flags (wire_at new.wires c).out))

  puts-most : (c : ℕ) → c < length old.wires → puts old c ≤ upto
  puts-most c lt =
      let m : ℕ = (wire_at old.wires c).producer in
      omega (arith, below m (producer-there flow old kept c lt), given-most (cycle_at old m) (flag_at (producer_of old c).flags (wire_at old.wires c).out))

  -- ---- serves

  ports-same : (m : ℕ) → (machine_at new.machines m).ports ≡ (machine_at old.machines m).ports
  ports-same m = ap (λ (kind : Kind). kind.ports) (sym (kind-is new m) ∙ ap (λ (frame : Frame). kind_at frame.kinds m) same ∙ kind-is old m)

  serves-least : (m : ℕ) → m < length old.machines → length (machine_at old.machines m).ports * upto ≤ serves new m
  serves-least m lt =
      subst (λ (ports : List Port). length ports * upto ≤ serves new m) (ports-same m)
      (subst (λ t. length (machine_at new.machines m).ports * t ≤ serves new m) (stands m lt) (omega arith))

  serves-most : (m : ℕ) → m < length old.machines → serves old m ≤ length (machine_at old.machines m).ports * upto
  serves-most m lt = serves-short (length (machine_at old.machines m).ports) (cycle_at old m) upto (machine_at old.machines m).served (kept.machines m lt).served (below m lt)

  -- ---- the network

  counts-rose : CountsRose upto old new
  counts-rose =
      record {
        cycles = λ m lt. record { up = omega (arith, below m lt, stands m lt); within = bounds.cycles m lt };
        serves = λ m lt. record { up = omega (arith, serves-most m lt, serves-least m lt); within = bounds.serves m lt };
        puts = λ c lt. record { up = omega (arith, puts-most c lt, puts-least c lt); within = bounds.puts c lt };
        takes = λ c lt. record { up = omega (arith, takes-most c lt, takes-least c lt); within = bounds.takes c lt };
      }

  ready-done : ReadyDone upto old new
  ready-done =
      record {
        latch = λ c ready low.
            let can = latch-can old c ready in
            let before : takes old c ≡ (consumer_of old c).cycle = ap (got_by (consumer_of old c).cycle) can.empty in
            omega (arith, before, low, takes-least c can.can.0);
        fire = λ c ready low.
            let can = fire-can old kept.sound.wired c ready in
            let before : puts old c ≡ (producer_of old c).cycle = ap (and_one (producer_of old c).cycle) can.clear in
            omega (arith, before, low, puts-least c can.can.0);
        serve = λ m p ready low.
            let can = serve-can old kept.sound.wired m p ready in
            let ports : List Port = (machine_at old.machines m).ports in
            let served : ℕ = (machine_at old.machines m).served in
            let left : served < length ports = due-left ports served p (slice_get ports served) refl can.due in
            omega (arith, serves-short (length ports) (cycle_at old m) upto (suc served) (omega (arith, left)) low, serves-least m can.there.0);
        finish = λ m ready low.
            let can = finish-can old kept.sound.wired m ready in
            omega (arith, low, stands m can.there);
      }

  pub whole-later : IsLater flow upto old new
  whole-later = record { frame = same; kept = kept_new; counts = counts-rose; done = ready-done }
