-- One try in a row of tries: a fire.
use Rattle.std.proofs.Common.{◌≡◌, ◌≢◌, ℕ, suc, ◌+◌, ◌<◌, ◌≤◌, List, None, Some, Bool, true, false, length, drop, map, refl, sym, ap, subst, ◌∙◌, ⊎_elim, arith, get_or-set_same, get_or-set_other}
use Rattle.std.specs.Prelude.{slice_index_or, slice_set, slice_get}
use Rattle.std.proofs.lemmas.Bool.{cases_eq}
use Rattle.std.proofs.lemmas.List.{get_or-drop, get_or_default, length-drop}
use Rattle.std.proofs.lemmas.Option.{slice_get-get_or}
use Rattle.gg_flat.specs.Line.{value_at}
use Rattle.gg_flat.specs.Streams.{Flow}
use Rattle.gg_link.specs.Seats.{SeatState, SeatWentOn, Counted}
use Rattle.gg_node.specs.Machine.{Machine, no_machine, machine_at, flag_at, missing}
use Rattle.gg_node.specs.Token.{IsToken}
use Rattle.gg_node.specs.inside.Step.{MayFire}
use Rattle.gg_node.specs.Step.{with_flag}
use Rattle.gg_net.specs.Network.{Network, wire_at, IsAtOut, and_one, entered_by, takes, kind_of, frame_of}
use Rattle.gg_net.specs.Kept.{list_at, MachineAt, Kept}
use Rattle.gg_net.specs.inside.Parted.{enters_by}
use Rattle.gg_net.proofs.MachineLemmas.{own_fire, token_is}
use Rattle.gg_net.proofs.PartLemmas.{own-may-fire, enters-short, enters-fire, enters-fire-other}
use Rattle.gg_workers_pass.specs.inside.Seats.{SeatCounts}
use Rattle.gg_workers_pass.specs.inside.Tries.{FireTried}
use Rattle.gg_workers_pass.specs.inside.Rows.{SeatsByPlace, with_flags, FiresTried, AreOuts}
use Rattle.gg_workers_pass.proofs.RowLemmas.{set-cases, placed-set, alone-more}

-- a flag that stands, stays
pub flag-grows : (flags : List Bool) (n o : ℕ) → n < length flags → flag_at flags o ≡ true → flag_at (slice_set flags n true) o ≡ true
flag-grows flags n o below up =
    ⊎_elim
    (λ (is : o ≡ n). ap (flag_at (slice_set flags n true)) is ∙ get_or-set_same flags n true false below)
    (λ (other : o ≢ n). get_or-set_other flags n o true false other ∙ up)
    (cases_eq o n)

module _ {X S : Type 0} (of : X → S → Type 0) (part : S → SeatState) (flow : Flow) (net : Network) (kept : Kept flow net) (m : ℕ) (below : m < length (map kind_of net.machines)) (links : List X) (outs : List ℕ) (x0 : Machine) (are : AreOuts net m x0 outs) (first : ℕ) where
  pub fires-start : (x : Machine) (seats : List S) → MachineAt flow (frame_of net) m x → SeatsByPlace of part flow net (enters_by (frame_of net) x) links outs seats → FiresTried of part flow net m links outs first first x seats x seats
  fires-start x seats own placed =
      record {
        machine = own;
        placed = placed;
        same = refl;
        grows = λ o up. up;
        no_less = λ k s lt. omega arith;
        done = λ k s from none. absurd (omega (arith, from, none));
        untried = λ k s le. (refl, refl);
      }

  module _ (n : ℕ) (x : Machine) (old : List S) (y : Machine) (new : List S) (h : FiresTried of part flow net m links outs first n x old y new) (going : x.cycle < net.end) (inside : n < length outs) (p : S) (was : p ≡ slice_index_or new n p) where
    abbrev c : ℕ
    c = value_at outs n

    goes : y.cycle < net.end
    goes = subst (λ t. t < net.end) (sym (ap (λ (z : Machine). z.cycle) h.same)) going

    at : IsAtOut net.wires m n c
    at = are.at n inside

    counts : SeatCounts flow net c (enters_by (frame_of net) y c) (part p)
    counts = subst (λ (s : S). SeatCounts flow net c (enters_by (frame_of net) y c) (part s)) (sym was) (h.placed.counts n p inside)

    old-is : (s : S) → n < length new → p ≡ slice_index_or old n s
    old-is s lt = was ∙ get_or_default new n p s lt ∙ (h.untried n s (omega arith)).0

    clear-here : flag_at y.flags n ≡ false → flag_at y.flags (wire_at net.wires c).out ≡ false
    clear-here clear = ap (flag_at y.flags) at.out ∙ clear

    needed-here : missing y n ≡ None → missing y (wire_at net.wires c).out ≡ None
    needed-here none = ap (missing y) at.out ∙ none

    pub may-give : flag_at y.flags n ≡ false → missing y n ≡ None → MayFire y n
    may-give clear none =
        subst (MayFire y) at.out (own-may-fire flow (frame_of net) kept.sound m below y h.machine c at.known at.machine goes (clear-here clear) (needed-here none))

    own-given : flag_at y.flags n ≡ false → missing y n ≡ None → MachineAt flow (frame_of net) m (with_flag y n)
    own-given clear none =
        subst (λ j. MachineAt flow (frame_of net) m (with_flag y j)) at.out (own_fire flow (frame_of net) kept.sound m below y h.machine c at.known at.machine goes (clear-here clear) (needed-here none))

    more-given : flag_at y.flags n ≡ false → enters_by (frame_of net) (with_flag y n) c ≡ suc (enters_by (frame_of net) y c)
    more-given clear =
        subst (λ j. enters_by (frame_of net) (with_flag y j) c ≡ suc (enters_by (frame_of net) y c)) at.out (enters-fire flow (frame_of net) kept.sound m below y h.machine c at.known at.machine (clear-here clear))

    -- the token of the out is the next value of the stream
    pub token-next : (value : ℕ) → flag_at y.flags n ≡ false → missing y n ≡ None → IsToken y n value → slice_get (part p).stream (part p).count ≡ Some value
    token-next value clear none token =
        let is : value ≡ value_at (list_at flow.lists c) (entered_by (wire_at net.wires c).first y.cycle) =
        token_is flow (frame_of net) kept.sound m below y h.machine c value at.known at.machine goes (clear-here clear) (subst (λ j. IsToken y j value) (sym at.out) token) in
        let now : takes net c + (part p).count ≡ entered_by (wire_at net.wires c).first y.cycle = counts.count ∙ ap (λ flag. entered_by (wire_at net.wires c).first (and_one y.cycle flag)) (clear-here clear) in
        let short : enters_by (frame_of net) (with_flag y n) c ≤ length (list_at flow.lists c) = enters-short flow (frame_of net) kept.sound m below (with_flag y n) (own-given clear none) c at.known at.machine in
        let within : (part p).count < length (drop (takes net c) (list_at flow.lists c)) = omega (arith, short, more-given clear, counts.count, length-drop (takes net c) (list_at flow.lists c)) in
        ap (λ s. slice_get s (part p).count) counts.stream
        ∙ slice_get-get_or (drop (takes net c) (list_at flow.lists c)) (part p).count 0 within
        ∙ ap Some (get_or-drop (takes net c) (list_at flow.lists c) (part p).count 0 ∙ ap (value_at (list_at flow.lists c)) now ∙ sym is)

    module _ (q : S) (link : X) (there : slice_get links c ≡ Some link) (mine : of link q) (long : n < length new) where
      other-place : (k : ℕ) → k < length outs → k ≢ n → value_at outs k ≢ c
      other-place k lt other same = other (sym (are.at k lt).out ∙ ap (λ d. (wire_at net.wires d).out) same ∙ at.out)

      fired-yes : flag_at y.flags n ≡ false → missing y n ≡ None → Counted (part p) (part q) → FiresTried of part flow net m links outs first (suc n) x old (with_flag y n) (slice_set new n q)
      fired-yes clear none counted =
          let within : n < length y.flags = (may-give clear none).there in
          let others : (k : ℕ) → k < length outs → k ≢ n → enters_by (frame_of net) (with_flag y n) (value_at outs k) ≡ enters_by (frame_of net) y (value_at outs k) = λ k less other.
          subst (λ j. enters_by (frame_of net) (with_flag y j) (value_at outs k) ≡ enters_by (frame_of net) y (value_at outs k)) at.out
          (enters-fire-other flow (frame_of net) kept.sound m below y h.machine c (value_at outs k) at.known (are.at k less).known at.machine (are.at k less).machine (other-place k less other)) in
          record {
            machine = own-given clear none;
            placed = placed-set of part flow net (enters_by (frame_of net) y) (enters_by (frame_of net) (with_flag y n)) links outs new n q link h.placed inside there mine
                (record { stream = counted.went_on.stream ∙ counts.stream; capacity = counted.went_on.capacity ∙ counts.capacity; count = omega (arith, counted.count, counts.count, more-given clear) })
                others;
            same = ap (λ (z : Machine). with_flags z (slice_set y.flags n true)) h.same;
            grows = λ o up. flag-grows y.flags n o within (h.grows o up);
            no_less = λ k s less. set-cases (λ j u. (part (slice_index_or old j s)).count ≤ (part u).count) new n q long k s
                (λ is. omega (arith, counted.count, ap (λ u. (part u).count) (old-is s long)))
                (λ other. h.no_less k s less);
            done = λ k s from less known. set-cases (λ j u. flag_at x.flags j ≡ false → missing x j ≡ None → (part (slice_index_or old j s)).count < (part (slice_index_or old j s)).seen + (part (slice_index_or old j s)).capacity → (part (slice_index_or old j s)).count < (part u).count) new n q long k s
                (λ is free need room. omega (arith, counted.count, ap (λ u. (part u).count) (old-is s long)))
                (λ other. h.done k s from (omega (arith, less, other)) known);
            untried = λ k s le.
                let other : k ≢ n = λ same. omega (arith, le, same) in
                (get_or-set_other new n k q s other ∙ (h.untried k s (omega (arith, le))).0, get_or-set_other y.flags n k true false other ∙ (h.untried k s (omega (arith, le))).1);
          }

      fired-no : SeatWentOn (part p) (part q) → (part q).count ≡ (part p).count → (flag_at y.flags n ≡ false → missing y n ≡ None → (part q).seen + (part q).capacity ≡ (part q).count) → FiresTried of part flow net m links outs first (suc n) x old y (slice_set new n q)
      fired-no went count cause =
          record {
            machine = h.machine;
            placed = placed-set of part flow net (enters_by (frame_of net) y) (enters_by (frame_of net) y) links outs new n q link h.placed inside there mine
                (record { stream = went.stream ∙ counts.stream; capacity = went.capacity ∙ counts.capacity; count = omega (arith, count, counts.count) })
                (λ k less other. refl);
            same = h.same;
            grows = h.grows;
            no_less = λ k s less. set-cases (λ j u. (part (slice_index_or old j s)).count ≤ (part u).count) new n q long k s
                (λ is. omega (arith, count, ap (λ u. (part u).count) (old-is s long)))
                (λ other. h.no_less k s less);
            done = λ k s from less known. set-cases (λ j u. flag_at x.flags j ≡ false → missing x j ≡ None → (part (slice_index_or old j s)).count < (part (slice_index_or old j s)).seen + (part (slice_index_or old j s)).capacity → (part (slice_index_or old j s)).count < (part u).count) new n q long k s
                (λ is free need room.
                let full : (part q).seen + (part q).capacity ≡ (part q).count = cause ((h.untried n s (omega arith)).1 ∙ free) (ap (λ (z : Machine). missing z n) h.same ∙ need) in
                absurd (omega (arith, full, count, went.seen, went.capacity, room, ap (λ u. (part u).count) (old-is s long), ap (λ u. (part u).seen) (old-is s long), ap (λ u. (part u).capacity) (old-is s long))))
                (λ other. h.done k s from (omega (arith, less, other)) known);
            untried = λ k s le. let other : k ≢ n = λ same. omega (arith, le, same) in (get_or-set_other new n k q s other ∙ (h.untried k s (omega (arith, le))).0, (h.untried k s (omega (arith, le))).1);
          }

      -- after one more try, whatever came of it
      pub fire-step : (hosts after : List Machine) (thread : ℕ) → machine_at hosts thread ≡ y → thread < length hosts → (b : Bool) → FireTried hosts thread n (part p) after (part q) b → FiresTried of part flow net m links outs first (suc n) x old (machine_at after thread) (slice_set new n q)
      fire-step hosts after thread is within true t =
          let next : machine_at after thread ≡ with_flag y n = ap (λ all. machine_at all thread) t.step ∙ get_or-set_same hosts thread (with_flag (machine_at hosts thread) n) no_machine within ∙ ap (λ z. with_flag z n) is in
          subst (λ z. FiresTried of part flow net m links outs first (suc n) x old z (slice_set new n q)) (sym next)
          (fired-yes (subst (λ (z : Machine). flag_at z.flags n ≡ false) is t.clear) (subst (λ (z : Machine). missing z n ≡ None) is t.needed) t.counted)
      fire-step hosts after thread is within false t =
          subst (λ z. FiresTried of part flow net m links outs first (suc n) x old z (slice_set new n q)) (sym (ap (λ all. machine_at all thread) t.same ∙ is))
          (fired-no t.went_on t.count (λ clear none. t.cause (subst (λ (z : Machine). flag_at z.flags n ≡ false) (sym is) clear) (subst (λ (z : Machine). missing z n ≡ None) (sym is) none)))

pub alone-fire : (first hosts after : List Machine) (thread place : ℕ) (p q : SeatState) → thread < length first → hosts ≡ slice_set first thread (machine_at hosts thread) → (b : Bool) → FireTried hosts thread place p after q b → after ≡ slice_set first thread (machine_at after thread)
alone-fire first hosts after thread place p q within alone true t = alone-more first hosts after thread (with_flag (machine_at hosts thread) place) within alone t.step
alone-fire first hosts after thread place p q within alone false t = subst (λ all. all ≡ slice_set first thread (machine_at all thread)) (sym t.same) alone
