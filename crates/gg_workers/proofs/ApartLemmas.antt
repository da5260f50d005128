-- Seats that go back to their channels, machine by machine.
use Rattle.std.proofs.Common.{◌≡◌, ◌≢◌, ℕ, ◌<◌, List, [], ◌∷◌, ◌++◌, Option, Some, length, refl, sym, ap, subst, ◌∙◌, ⊎_elim, arith}
use Rattle.std.specs.Prelude.{slice_index_or}
use Rattle.std.proofs.lemmas.Bool.{cases_eq}
use Rattle.std.proofs.lemmas.List.{length-append, get_or_append_left, get_or_at}
use Rattle.gg_flat.specs.Line.{value_at}
use Rattle.gg_flat.specs.Streams.{Flow}
use Rattle.gg_link.specs.Seats.{SeatState}
use Rattle.gg_node.specs.Machine.{Machine, machine_at}
use Rattle.gg_net.specs.declared.shape.Station.{Station}
use Rattle.gg_net.specs.Network.{Network, wire_at, kind_at, frame_of}
use Rattle.gg_net.specs.Kept.{IsWired, Kept}
use Rattle.gg_net.specs.inside.Net.{IsListed, AreListed}
use Rattle.gg_workers_pass.specs.inside.SeatLists.{seat_at, AreOnce, RowPutBack, IsBack}
use Rattle.gg_workers_pass.specs.inside.Pass.{HasSeats}
use Rattle.gg_workers_pass.specs.declared.machine_seats.MachineSeats.{MachineSeats}
use Rattle.gg_workers_pass.proofs.AllLemmas.{in-listed, out-listed, ins-once, outs-once, ins-of, outs-of}
use Rattle.gg_workers_pass.proofs.AgainLemmas.{machine_seats-takes, machine_seats-puts}
use Rattle.gg_workers_pass.specs.inside.Seats.{TakeSeatOf, PutSeatOf}
use Rattle.gg_workers.specs.declared.host_seats.HostSeats.{HostSeats}
use Rattle.gg_workers.specs.inside.Apart.{consumer_in, producer_in, MachineBack, HostBack, AllBack, IsOwned}

-- ---- one machine

-- an element of a row, at whatever default
at-place : {A : Type 0} (P : ℕ → A → Type 0) (after : List (Option A)) (xs : List A) (k c : ℕ) → k < length xs → ((s : A) → seat_at after c ≡ Some (slice_index_or xs k s)) → ((s : A) → P c (slice_index_or xs k s)) → IsBack P c after
at-place P after [] k c none seat p = absurd (omega (arith, none))
at-place P after (x ∷ xs) k c lt seat p = record { seat = slice_index_or (x ∷ xs) k x; there = seat x; holds = p x }

pub machine_seats-back : {A : Type 0} (end_of : ℕ → ℕ) (P : ℕ → A → Type 0) (count m : ℕ) (channels : List ℕ) (row : List A) (old new : List (Option A))
    → length row ≡ length channels → RowPutBack channels (length channels) row old new
    → ((k : ℕ) → k < length channels → end_of (value_at channels k) ≡ m)
    → ((c : ℕ) → c < count → end_of c ≡ m → (k : ℕ) × (k < length channels) × (value_at channels k ≡ c))
    → ((k : ℕ) (s : A) → k < length channels → P (value_at channels k) (slice_index_or row k s))
    → MachineBack end_of P count m old new
machine_seats-back {A} end_of P count m channels row old new long collected own every holds =
    let here : (c : ℕ) → c < count → end_of c ≡ m → IsBack P c new = λ c lt is.
    let at = every c lt is in
    at-place P new row at.0 c (omega (arith, at.1, long)) (λ s. ap (seat_at new) (sym at.2) ∙ collected.given at.0 s at.1) (λ s. subst (λ d. P d (slice_index_or row at.0 s)) at.2 (holds at.0 s at.1)) in
    record {
      long = collected.count;
      keeps = λ c lt was. ⊎_elim
          (λ (is : end_of c ≡ m). here c lt is)
          (λ (other : end_of c ≢ m).
          record { seat = was.seat; there = collected.others c (λ k less same. other (ap end_of (sym same) ∙ own k less)) ∙ was.there; holds = was.holds })
          (cases_eq (end_of c) m);
      back = here;
    }

-- ---- one machine more

module _ {S T A : Type 0} (end_of : ℕ → ℕ) (P : ℕ → A → Type 0) (count : ℕ) where
  pub by_thread-none : (all : List (Option A)) → HostBack {S = S} {T = T} end_of P count [] all all
  by_thread-none all = record { long = refl; keeps = λ c lt was. was; back = λ c k d lt none. absurd (omega (arith, none)) }

  pub by_thread-more : (by_thread : List (MachineSeats S T)) (machine_seats : MachineSeats S T) (old mid new : List (Option A)) → HostBack end_of P count by_thread old mid → MachineBack end_of P count machine_seats.machine mid new → HostBack end_of P count (by_thread ++ machine_seats ∷ []) old new
  by_thread-more by_thread machine_seats old mid new before one =
      record {
        long = one.long ∙ before.long;
        keeps = λ c lt was. one.keeps c lt (before.keeps c lt was);
        back = λ c k d lt within is. ⊎_elim
            (λ (same : k ≡ length by_thread). one.back c lt (is ∙ ap (λ (e : MachineSeats S T). e.machine) (get_or_at by_thread machine_seats [] d k (sym same))))
            (λ (other : k ≢ length by_thread).
            let low : k < length by_thread = omega (arith, within, other, length-append by_thread (machine_seats ∷ [])) in
            one.keeps c lt (before.back c k d lt low (is ∙ ap (λ (e : MachineSeats S T). e.machine) (get_or_append_left by_thread (machine_seats ∷ []) d k low))))
            (cases_eq k (length by_thread));
      }

  pub rows-none : (all : List (Option A)) → AllBack {S = S} {T = T} {A = A} end_of P count [] all all
  rows-none all = record { long = refl; keeps = λ c lt was. was; back = λ c j k r d lt none. absurd (omega (arith, none)) }

  pub rows-more : (rows : List (HostSeats S T)) (row : HostSeats S T) (old mid new : List (Option A)) → AllBack end_of P count rows old mid → HostBack end_of P count row.by_thread.items mid new → AllBack end_of P count (rows ++ row ∷ []) old new
  rows-more rows row old mid new before one =
      record {
        long = one.long ∙ before.long;
        keeps = λ c lt was. one.keeps c lt (before.keeps c lt was);
        back = λ c j k r d lt high within is. ⊎_elim
            (λ (same : j ≡ length rows).
            let at : slice_index_or (rows ++ row ∷ []) j r ≡ row = get_or_at rows row [] r j (sym same) in
            one.back c k d lt (subst (λ (v : HostSeats S T). k < length v.by_thread.items) at within) (is ∙ ap (λ (v : HostSeats S T). (slice_index_or v.by_thread.items k d).machine) at))
            (λ (other : j ≢ length rows).
            let low : j < length rows = omega (arith, high, other, length-append rows (row ∷ [])) in
            let at : slice_index_or (rows ++ row ∷ []) j r ≡ slice_index_or rows j r = get_or_append_left rows (row ∷ []) r j low in
            one.keeps c lt (before.back c j k r d lt low (subst (λ (v : HostSeats S T). k < length v.by_thread.items) at within) (is ∙ ap (λ (v : HostSeats S T). (slice_index_or v.by_thread.items k d).machine) at)))
            (cases_eq j (length rows));
      }

-- ---- the seats of a machine of the network

module _ {X S T : Type 0} (takes_from : X → S → Type 0) (puts_into : X → T → Type 0) (taking : S → SeatState) (putting : T → SeatState) (flow : Flow) (net : Network) (kept : Kept flow net) (links : List X) (machines : List Machine) (stations : List Station) (count : length stations ≡ length net.machines) (listed : AreListed (frame_of net) stations)
    (machine_seats : MachineSeats S T) (owned : IsOwned takes_from puts_into taking putting flow net links machines stations machine_seats) (s : Station) (is : (e : Station) → slice_index_or stations machine_seats.machine e ≡ s) where
  abbrev m : ℕ
  m = machine_seats.machine

  abbrev wired : IsWired (frame_of net)
  wired = kept.sound.wired

  here : IsListed net.wires m (kind_at (frame_of net).kinds m) s
  here = subst (λ (e : Station). IsListed net.wires m (kind_at (frame_of net).kinds m) e) (is s) (listed m s owned.known)

  seats : HasSeats takes_from puts_into taking putting flow net links m s.ins s.outs (machine_at machines m) machine_seats.takes.items machine_seats.puts.items
  seats = subst (λ (e : Station). HasSeats takes_from puts_into taking putting flow net links m e.ins e.outs (machine_at machines m) machine_seats.takes.items machine_seats.puts.items) (is s) (owned.seats s)

  pub takes-back : (channels : List ℕ) (old new : List (Option S)) → channels ≡ s.ins → RowPutBack channels (length channels) machine_seats.takes.items old new → MachineBack (consumer_in net) (TakeSeatOf takes_from puts_into taking putting flow net links machines) (length net.wires) m old new
  takes-back channels old new same collected =
      machine_seats-back (consumer_in net) (TakeSeatOf takes_from puts_into taking putting flow net links machines) (length net.wires) m s.ins machine_seats.takes.items old new seats.takes.long
      (subst (λ (l : List ℕ). RowPutBack l (length l) machine_seats.takes.items old new) same collected)
      (λ k lt. (ins-of (frame_of net) wired m s here k lt).1)
      (λ c lt to. let at = in-listed (frame_of net) wired m s here c lt to in ((wire_at net.wires c).place, at.0, at.1))
      (machine_seats-takes takes_from puts_into taking putting flow net machines links m s here machine_seats.takes.items machine_seats.puts.items seats)

  pub puts-back : (channels : List ℕ) (old new : List (Option T)) → channels ≡ s.outs → RowPutBack channels (length channels) machine_seats.puts.items old new → MachineBack (producer_in net) (PutSeatOf takes_from puts_into taking putting flow net links machines) (length net.wires) m old new
  puts-back channels old new same collected =
      machine_seats-back (producer_in net) (PutSeatOf takes_from puts_into taking putting flow net links machines) (length net.wires) m s.outs machine_seats.puts.items old new seats.puts.long
      (subst (λ (l : List ℕ). RowPutBack l (length l) machine_seats.puts.items old new) same collected)
      (λ k lt. (outs-of (frame_of net) wired m s here k lt).1)
      (λ c lt to. let at = out-listed (frame_of net) wired m s here c lt to in ((wire_at net.wires c).out, at.0, at.1))
      (machine_seats-puts takes_from puts_into taking putting flow net machines links m s here machine_seats.takes.items machine_seats.puts.items seats)

  -- a station's channels are those that the seats can be put back to
  pub takes-once : (channels : List ℕ) → channels ≡ s.ins → AreOnce channels
  takes-once channels same = subst AreOnce (sym same) (ins-once (frame_of net) wired m s here)

  pub takes-long : (channels : List ℕ) → channels ≡ s.ins → length machine_seats.takes.items ≡ length channels
  takes-long channels same = seats.takes.long ∙ ap length (sym same)

  pub takes-within : (channels : List ℕ) (old : List (Option S)) → channels ≡ s.ins → length old ≡ length net.wires → (k : ℕ) → k < length channels → value_at channels k < length old
  takes-within channels old same long = subst (λ (l : List ℕ). (k : ℕ) → k < length l → value_at l k < length old) (sym same) (λ k lt. subst (λ n. value_at s.ins k < n) (sym long) (ins-of (frame_of net) wired m s here k lt).0)

  pub puts-once : (channels : List ℕ) → channels ≡ s.outs → AreOnce channels
  puts-once channels same = subst AreOnce (sym same) (outs-once (frame_of net) wired m s here)

  pub puts-long : (channels : List ℕ) → channels ≡ s.outs → length machine_seats.puts.items ≡ length channels
  puts-long channels same = seats.puts.long ∙ ap length (sym same)

  pub puts-within : (channels : List ℕ) (old : List (Option T)) → channels ≡ s.outs → length old ≡ length net.wires → (k : ℕ) → k < length channels → value_at channels k < length old
  puts-within channels old same long = subst (λ (l : List ℕ). (k : ℕ) → k < length l → value_at l k < length old) (sym same) (λ k lt. subst (λ n. value_at s.outs k < n) (sym long) (outs-of (frame_of net) wired m s here k lt).0)
