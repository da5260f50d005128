-- All rows of seats are taken out, machine by machine, and put back.
use Rattle.std.proofs.Common.{◌≡◌, ◌≢◌, ℕ, suc, ◌<◌, List, [], ◌∷◌, Option, None, Some, length, map, refl, sym, ap, subst, ◌∙◌, ⊎_elim, arith}
use Rattle.std.specs.Prelude.{IsSome, slice_index_or}
use Rattle.std.proofs.lemmas.Bool.{cases_eq}
use Rattle.std.proofs.lemmas.List.{get_or-map, get_or_default, length-map}
use Rattle.std.proofs.lemmas.Option.{same_Some}
use Rattle.gg_flat.specs.Line.{value_at}
use Rattle.gg_net.specs.declared.shape.Station.{Station}
use Rattle.gg_net.specs.Network.{wire_at, IsAtIn, IsAtOut, kind_at, Frame}
use Rattle.gg_net.specs.Kept.{IsWired}
use Rattle.gg_net.specs.inside.Net.{IsListed}
use Rattle.gg_net.proofs.WireLemmas.{one-in, one-out}
use Rattle.gg_workers_pass.specs.inside.SeatLists.{seat_at, AreOnce, RowIsThere, AllThere, RowTakenOut, RowPutBack, AreLeft, IsBack, AreBack}

-- ---- the channels of one machine

module _ (frame : Frame) (wired : IsWired frame) (m : ℕ) (station : Station) (listed : IsListed frame.wires m (kind_at frame.kinds m) station) where
  -- the place of a channel in the list of its consumer's ins, and of its producer's outs
  pub in-listed : (c : ℕ) → c < length frame.wires → (wire_at frame.wires c).consumer ≡ m → ((wire_at frame.wires c).place < length station.ins) × (value_at station.ins (wire_at frame.wires c).place ≡ c)
  in-listed c there to =
      let i : ℕ = (wire_at frame.wires c).place in
      let within : i < (kind_at frame.kinds m).ins = subst (λ k. i < (kind_at frame.kinds k).ins) to (wired.place c there) in
      let at : IsAtIn frame.wires m i (value_at station.ins i) = listed.into i within in
      (omega (arith, within, listed.ins), one-in frame wired (value_at station.ins i) c at.known there (at.machine ∙ sym to) at.place)

  pub out-listed : (c : ℕ) → c < length frame.wires → (wire_at frame.wires c).producer ≡ m → ((wire_at frame.wires c).out < length station.outs) × (value_at station.outs (wire_at frame.wires c).out ≡ c)
  out-listed c there from =
      let o : ℕ = (wire_at frame.wires c).out in
      let within : o < (kind_at frame.kinds m).outs = subst (λ k. o < (kind_at frame.kinds k).outs) from (wired.out c there) in
      let at : IsAtOut frame.wires m o (value_at station.outs o) = listed.from o within in
      (omega (arith, within, listed.outs), one-out frame wired (value_at station.outs o) c at.known there (at.machine ∙ sym from) at.out)

  pub ins-once : AreOnce station.ins
  ins-once j k low high same =
      sym (listed.into j (omega (arith, low, listed.ins))).place ∙ ap (λ c. (wire_at frame.wires c).place) same ∙ (listed.into k (omega (arith, high, listed.ins))).place

  pub outs-once : AreOnce station.outs
  outs-once j k low high same =
      sym (listed.from j (omega (arith, low, listed.outs))).out ∙ ap (λ c. (wire_at frame.wires c).out) same ∙ (listed.from k (omega (arith, high, listed.outs))).out

  -- the lists of ins and outs are of this machine
  pub ins-of : (k : ℕ) → k < length station.ins → (value_at station.ins k < length frame.wires) × ((wire_at frame.wires (value_at station.ins k)).consumer ≡ m)
  ins-of k lt = let at = listed.into k (omega (arith, lt, listed.ins)) in (at.known, at.machine)

  pub outs-of : (k : ℕ) → k < length station.outs → (value_at station.outs k < length frame.wires) × ((wire_at frame.wires (value_at station.outs k)).producer ≡ m)
  outs-of k lt = let at = listed.from k (omega (arith, lt, listed.outs)) in (at.known, at.machine)

-- ---- taking out, by the machine at one end of each channel

-- all seats are there at first
pub left-start : {S : Type 0} (end_of : ℕ → ℕ) (all : List S) → AreLeft end_of 0 all (map (λ seat. Some seat) all)
left-start end_of all =
    record {
      long = length-map all (λ seat. Some seat);
      left = λ c s le lt. get_or-map (λ seat. Some seat) all c s None lt;
    }

module _ {S : Type 0} (end_of : ℕ → ℕ) (m : ℕ) (all : List S) (left : List (Option S)) (h : AreLeft end_of m all left) (channels : List ℕ) (own : (k : ℕ) → k < length channels → (value_at channels k < length all) × (end_of (value_at channels k) ≡ m)) where
  -- the seats of the next machine are there
  pub row-there : RowIsThere channels left
  row-there k lt = some-there all (value_at channels k) (own k lt).0 (λ s. h.left (value_at channels k) s (omega (arith, (own k lt).1)) (own k lt).0)
    where
      some-there : (xs : List S) (c : ℕ) → c < length xs → ((s : S) → seat_at left c ≡ Some (slice_index_or xs c s)) → IsSome (seat_at left c)
      some-there [] c none is = absurd (omega (arith, none))
      some-there (x ∷ xs) c lt is = subst IsSome (sym (is x)) refl

  module _ (after : List (Option S)) (row : List S) (taken_out : RowTakenOut channels (length channels) left after row) where
    -- the row has the seats of the machine's channels
    pub row-is : (k : ℕ) (s : S) → k < length channels → slice_index_or row k s ≡ slice_index_or all (value_at channels k) s
    row-is k s lt = same_Some (slice_index_or row k s) (slice_index_or all (value_at channels k) s) (sym (taken_out.row k s lt) ∙ h.left (value_at channels k) s (omega (arith, (own k lt).1)) (own k lt).0)

    -- the seats of the machines behind it are left
    pub left-more : AreLeft end_of (suc m) all after
    left-more =
        record {
          long = taken_out.count ∙ h.long;
          left = λ c s le lt. taken_out.others c (λ k low same. omega (arith, le, (own k low).1, ap end_of same)) ∙ h.left c s (omega (arith, le)) lt;
        }

-- ---- putting back

pub back-start : {S : Type 0} (end_of : ℕ → ℕ) (P : ℕ → S → Type 0) (seats : List (Option S)) → AreBack end_of P 0 (length seats) seats
back-start end_of P seats = record { long = refl; back = λ c lt low. absurd (omega (arith, low)) }

module _ {S : Type 0} (end_of : ℕ → ℕ) (P : ℕ → S → Type 0) (m count : ℕ) (seats : List (Option S)) (h : AreBack end_of P m count seats) (channels : List ℕ) (own : (k : ℕ) → k < length channels → end_of (value_at channels k) ≡ m) (every : (c : ℕ) → c < count → end_of c ≡ m → (k : ℕ) × (k < length channels) × (value_at channels k ≡ c))
    (after : List (Option S)) (row : List S) (long : length row ≡ length channels) (put_back : RowPutBack channels (length channels) row seats after) (holds : (k : ℕ) (s : S) → k < length channels → P (value_at channels k) (slice_index_or row k s)) where
  at-place : (xs : List S) (k c : ℕ) → k < length xs → value_at channels k ≡ c → ((s : S) → seat_at after c ≡ Some (slice_index_or xs k s)) → ((s : S) → P c (slice_index_or xs k s)) → IsBack P c after
  at-place [] k c none is seat p = absurd (omega (arith, none))
  at-place (x ∷ xs) k c lt is seat p = record { seat = slice_index_or (x ∷ xs) k x; there = seat x; holds = p x }

  pub back-more : AreBack end_of P (suc m) count after
  back-more =
      record {
        long = put_back.count ∙ h.long;
        back = λ c lt low. ⊎_elim
            (λ (here : end_of c ≡ m).
            let at = every c lt here in
            at-place row at.0 c (omega (arith, at.1, long)) at.2 (λ s. ap (seat_at after) (sym at.2) ∙ put_back.given at.0 s at.1) (λ s. subst (λ d. P d (slice_index_or row at.0 s)) at.2 (holds at.0 s at.1)))
            (λ (other : end_of c ≢ m).
            let old : IsBack P c seats = h.back c lt (omega (arith, low, other)) in
            record { seat = old.seat; there = put_back.others c (λ k less same. other (ap end_of (sym same) ∙ own k less)) ∙ old.there; holds = old.holds })
            (cases_eq (end_of c) m);
      }

-- if all are back, all are there, and each is its channel's
module _ {S : Type 0} (end_of : ℕ → ℕ) (P : ℕ → S → Type 0) (m count : ℕ) (seats : List (Option S)) (h : AreBack end_of P m count seats) (below : (c : ℕ) → c < count → end_of c < m) where
  pub all-back : AllThere seats
  all-back k d lt =
      let within : k < count = omega (arith, lt, h.long) in
      let is : IsBack P k seats = h.back k within (below k within) in
      subst IsSome (sym is.there ∙ get_or_default seats k None d lt) refl

  pub all-hold : (all : List S) → map (λ seat. Some seat) all ≡ seats → (c : ℕ) (s : S) → c < count → P c (slice_index_or all c s)
  all-hold all are c s lt =
      let is : IsBack P c seats = h.back c lt (below c lt) in
      let within : c < length all = omega (arith, lt, h.long, ap length are, length-map all (λ (seat : S). Some seat)) in
      subst (P c) (same_Some is.seat (slice_index_or all c s) (sym is.there ∙ ap (λ list. seat_at list c) (sym are) ∙ get_or-map (λ (seat : S). Some seat) all c s None within)) is.holds
