-- One machine gets its seats.
use Rattle.std.proofs.Common.{◌≡◌, ℕ, suc, ◌+◌, ◌<◌, List, Option, length, slice_index_or, subst, arith}
use Rattle.gg_flat.specs.Line.{value_at}
use Rattle.gg_net.specs.declared.shape.Station.{Station}
use Rattle.gg_net.specs.Network.{wire_at, kind_at, Frame}
use Rattle.gg_net.specs.Kept.{IsWired}
use Rattle.gg_net.specs.inside.Net.{IsListed, AreListed}
use Rattle.gg_workers_pass.specs.inside.SeatLists.{AreOnce, RowIsThere, RowTakenOut, AreLeft}
use Rattle.gg_workers_pass.specs.declared.machine_seats.MachineSeats.{MachineSeats}
use Rattle.gg_workers_pass.proofs.AllLemmas.{ins-once, outs-once, ins-of, outs-of, row-there, row-is, left-more}
use Rattle.gg_workers.specs.declared.host_seats.HostSeats.{HostSeats}
use Rattle.gg_workers.specs.inside.HostSeats.{IsEmptyFor, IsFilledFor, seats_at, EachMachine}

-- the machine at the next station has no seats
pub empty-here : {S T : Type 0} (stations : List Station) (rows : List (HostSeats S T)) (m : ℕ) (known : m < length stations) (station : Station) (at : (s : Station) → slice_index_or stations m s ≡ station) (old : HostSeats S T) (was : (r : HostSeats S T) → slice_index_or rows station.host r ≡ old)
    → EachMachine IsEmptyFor stations m (length stations) rows → (d : MachineSeats S T) → IsEmptyFor m station (slice_index_or old.by_thread.items station.thread d)
empty-here {S} {T} stations rows m known station at old was each d =
    subst (λ (r : HostSeats S T). IsEmptyFor m station (slice_index_or r.by_thread.items station.thread d)) (was old)
    (subst (λ (x : Station). IsEmptyFor m x (seats_at rows x old d)) (at station) (each m station old d (omega arith) known))

module _ {S T : Type 0} (frame : Frame) (wired : IsWired frame) (stations : List Station) (listed : AreListed frame stations) (all_takes : List S) (all_puts : List T) (takes_long : length all_takes ≡ length frame.wires) (puts_long : length all_puts ≡ length frame.wires)
    (m : ℕ) (known : m < length stations) (station : Station) (at : (s : Station) → slice_index_or stations m s ≡ station) where
  abbrev consumer : ℕ → ℕ
  consumer c = (wire_at frame.wires c).consumer

  abbrev producer : ℕ → ℕ
  producer c = (wire_at frame.wires c).producer

  here : IsListed frame.wires m (kind_at frame.kinds m) station
  here = subst (λ (s : Station). IsListed frame.wires m (kind_at frame.kinds m) s) (at station) (listed m station known)

  pub row-once : AreOnce station.ins × AreOnce station.outs
  row-once = (ins-once frame wired m station here, outs-once frame wired m station here)

  own-takes : (k : ℕ) → k < length station.ins → (value_at station.ins k < length all_takes) × (consumer (value_at station.ins k) ≡ m)
  own-takes k lt = let own = ins-of frame wired m station here k lt in (rw takes_long own.0, own.1)

  own-puts : (k : ℕ) → k < length station.outs → (value_at station.outs k < length all_puts) × (producer (value_at station.outs k) ≡ m)
  own-puts k lt = let own = outs-of frame wired m station here k lt in (rw puts_long own.0, own.1)

  module _ (takes : List (Option S)) (puts : List (Option T)) (some_takes : AreLeft consumer m all_takes takes) (some_puts : AreLeft producer m all_puts puts) where
    pub rows-there : RowIsThere station.ins takes × RowIsThere station.outs puts
    rows-there = (row-there consumer m all_takes takes some_takes station.ins own-takes, row-there producer m all_puts puts some_puts station.outs own-puts)

    module _ (takes_after : List (Option S)) (puts_after : List (Option T)) (q : MachineSeats S T) (takes_out : RowTakenOut station.ins (length station.ins) takes takes_after q.takes.items) (puts_out : RowTakenOut station.outs (length station.outs) puts puts_after q.puts.items) where
      pub full-here : q.machine ≡ m → IsFilledFor all_takes all_puts m station q
      full-here machine =
          record {
            machine = machine;
            takes = record { long = takes_out.long; each = row-is consumer m all_takes takes some_takes station.ins own-takes takes_after q.takes.items takes_out };
            puts = record { long = puts_out.long; each = row-is producer m all_puts puts some_puts station.outs own-puts puts_after q.puts.items puts_out };
          }

      pub takes-left : AreLeft consumer (m + 1) all_takes takes_after
      takes-left = subst (λ k. AreLeft consumer k all_takes takes_after) {x = suc m} {y = m + 1} (omega arith) (left-more consumer m all_takes takes some_takes station.ins own-takes takes_after q.takes.items takes_out)

      pub puts-left : AreLeft producer (m + 1) all_puts puts_after
      puts-left = subst (λ k. AreLeft producer k all_puts puts_after) {x = suc m} {y = m + 1} (omega arith) (left-more producer m all_puts puts some_puts station.outs own-puts puts_after q.puts.items puts_out)
