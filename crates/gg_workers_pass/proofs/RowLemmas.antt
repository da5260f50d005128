-- One try in a row of tries: a latch.
use Rattle.std.proofs.Common.{◌≡◌, ◌≢◌, ℕ, zero, suc, ◌<◌, ◌≤◌, List, [], ◌∷◌, None, Some, Bool, true, false, length, map, refl, sym, ap, subst, ◌∙◌, ⊎_elim, arith, get_or-set_same, get_or-set_other}
use Rattle.std.specs.Prelude.{slice_index_or, slice_set, slice_get}
use Rattle.std.proofs.lemmas.Bool.{cases_eq}
use Rattle.std.proofs.lemmas.List.{length-set, get_or-drop, get_or_default, set-get_or}
use Rattle.std.proofs.lemmas.Option.{same_Some, get_or_from_slice_get}
use Rattle.gg_flat.specs.Line.{value_at}
use Rattle.gg_flat.specs.Streams.{Flow}
use Rattle.gg_link.specs.Seats.{SeatState, SeatWentOn, Counted}
use Rattle.gg_node.specs.Machine.{Machine, no_machine, machine_at, latch_at}
use Rattle.gg_node.specs.inside.Step.{MayLatch}
use Rattle.gg_node.specs.Step.{with_latch}
use Rattle.gg_net.specs.Network.{Network, wire_at, IsAtIn, got_by, takes, kind_of, frame_of}
use Rattle.gg_net.specs.Kept.{list_at, MachineAt, Kept}
use Rattle.gg_net.specs.inside.Parted.{takes_by}
use Rattle.gg_net.proofs.LatchLemmas.{latch-grows}
use Rattle.gg_net.proofs.MachineLemmas.{own_latch}
use Rattle.gg_net.proofs.PartLemmas.{own-may-latch, takes-latch, takes-latch-other}
use Rattle.gg_workers_pass.specs.inside.Seats.{SeatCounts}
use Rattle.gg_workers_pass.specs.inside.Tries.{LatchTried}
use Rattle.gg_workers_pass.specs.inside.Rows.{SeatsByPlace, with_latches, LatchesTried, AreIns}

-- a fact about each place, once one was written
pub set-cases : {S : Type 0} (P : ℕ → S → Type 0) (seats : List S) (n : ℕ) (q : S) → n < length seats → (k : ℕ) (s : S) → (k ≡ n → P n q) → (k ≢ n → P k (slice_index_or seats k s)) → P k (slice_index_or (slice_set seats n q) k s)
set-cases {S = S} P seats n q lt k s here there =
    ⊎_elim
    (λ (is : k ≡ n). subst (λ j. P j (slice_index_or (slice_set seats n q) j s)) (sym is) (subst (λ (u : S). P n u) (sym (get_or-set_same seats n q s lt)) (here is)))
    (λ (other : k ≢ n). subst (λ (u : S). P k u) (sym (get_or-set_other seats n k q s other)) (there other))
    (cases_eq k n)

-- one seat of a row is replaced
pub placed-set : {X S : Type 0} (of : X → S → Type 0) (part : S → SeatState) (flow : Flow) (net : Network) (f g : ℕ → ℕ) (links : List X) (channels : List ℕ) (seats : List S) (n : ℕ) (q : S) (link : X) → SeatsByPlace of part flow net f links channels seats → n < length channels → slice_get links (value_at channels n) ≡ Some link → of link q
    → SeatCounts flow net (value_at channels n) (g (value_at channels n)) (part q) → ((k : ℕ) → k < length channels → k ≢ n → g (value_at channels k) ≡ f (value_at channels k)) → SeatsByPlace of part flow net g links channels (slice_set seats n q)
placed-set {X = X} {S = S} of part flow net f g links channels seats n q link h inside at mine counts others =
    let within : n < length seats = omega (arith, h.long, inside) in
    record {
      long = length-set seats n q ∙ h.long;
      belongs = λ k s l lt there. set-cases (λ j u. slice_get links (value_at channels j) ≡ Some l → of l u) seats n q within k s
          (λ is here. subst (λ (e : X). of e q) (same_Some link l (sym at ∙ here)) mine)
          (λ other here. h.belongs k s l lt here)
          there;
      counts = λ k s lt. set-cases (λ j u. SeatCounts flow net (value_at channels j) (g (value_at channels j)) (part u)) seats n q within k s
          (λ is. counts)
          (λ other. subst (λ c. SeatCounts flow net (value_at channels k) c (part (slice_index_or seats k s))) (sym (others k lt other)) (h.counts k s lt));
    }

module _ {X S : Type 0} (of : X → S → Type 0) (part : S → SeatState) (flow : Flow) (net : Network) (kept : Kept flow net) (m : ℕ) (below : m < length (map kind_of net.machines)) (links : List X) (ins : List ℕ) (x0 : Machine) (are : AreIns net m x0 ins) (first : ℕ) where
  pub latches-start : (x : Machine) (seats : List S) → MachineAt flow (frame_of net) m x → SeatsByPlace of part flow net (takes_by (frame_of net) x) links ins seats → LatchesTried of part flow net m links ins first first x seats x seats
  latches-start x seats own placed =
      record {
        machine = own;
        placed = placed;
        same = refl;
        grows = λ i some. some;
        no_less = λ k s lt. omega arith;
        done = λ k s from none. absurd (omega (arith, from, none));
        untried = λ k s le. (refl, refl);
      }

  module _ (n : ℕ) (x : Machine) (old : List S) (y : Machine) (new : List S) (h : LatchesTried of part flow net m links ins first n x old y new) (going : x.cycle < net.end) (inside : n < length ins) (p : S) (was : p ≡ slice_index_or new n p) where
    abbrev c : ℕ
    c = value_at ins n

    goes : y.cycle < net.end
    goes = subst (λ t. t < net.end) (sym (ap (λ (z : Machine). z.cycle) h.same)) going

    at : IsAtIn net.wires m n c
    at = are.at n inside

    counts : SeatCounts flow net c (takes_by (frame_of net) y c) (part p)
    counts = subst (λ (s : S). SeatCounts flow net c (takes_by (frame_of net) y c) (part s)) (sym was) (h.placed.counts n p inside)

    old-is : (s : S) → n < length new → p ≡ slice_index_or old n s
    old-is s lt = was ∙ get_or_default new n p s lt ∙ (h.untried n s (omega arith)).0

    empty-here : latch_at y.latches n ≡ None → latch_at y.latches (wire_at net.wires c).place ≡ None
    empty-here none = ap (latch_at y.latches) at.place ∙ none

    -- the next value of the stream is the channel's value of this cycle
    token-is : (value : ℕ) → latch_at y.latches n ≡ None → slice_get (part p).stream (part p).count ≡ Some value → value ≡ value_at (list_at flow.lists c) y.cycle
    token-is value none token =
        sym (get_or_from_slice_get (part p).stream (part p).count value 0 token)
        ∙ ap (λ s. value_at s (part p).count) counts.stream
        ∙ get_or-drop (takes net c) (list_at flow.lists c) (part p).count 0
        ∙ ap (value_at (list_at flow.lists c)) (counts.count ∙ ap (got_by y.cycle) (empty-here none))

    pub may-take : (value : ℕ) → latch_at y.latches n ≡ None → slice_get (part p).stream (part p).count ≡ Some value → MayLatch y n value
    may-take value none token =
        subst (λ i. MayLatch y i value) at.place
        (own-may-latch flow (frame_of net) kept.sound m below y h.machine c value at.known at.machine goes (empty-here none) (token-is value none token))

    module _ (q : S) (link : X) (there : slice_get links c ≡ Some link) (mine : of link q) (long : n < length new) where
      other-place : (k : ℕ) → k < length ins → k ≢ n → value_at ins k ≢ c
      other-place k lt other same = other (sym (are.at k lt).place ∙ ap (λ d. (wire_at net.wires d).place) same ∙ at.place)

      latched-yes : (value : ℕ) → latch_at y.latches n ≡ None → slice_get (part p).stream (part p).count ≡ Some value → Counted (part p) (part q) → LatchesTried of part flow net m links ins first (suc n) x old (with_latch y n value) (slice_set new n q)
      latched-yes value none token counted =
          let i : ℕ = (wire_at net.wires c).place in
          let within : n < length y.latches = (may-take value none token).there in
          let own : MachineAt flow (frame_of net) m (with_latch y n value) =
          subst (λ j. MachineAt flow (frame_of net) m (with_latch y j value)) at.place
          (own_latch flow (frame_of net) kept.sound m below y h.machine c value at.known at.machine goes (empty-here none) (token-is value none token)) in
          let more : takes_by (frame_of net) (with_latch y n value) c ≡ suc (takes_by (frame_of net) y c) =
          subst (λ j. takes_by (frame_of net) (with_latch y j value) c ≡ suc (takes_by (frame_of net) y c)) at.place
          (takes-latch flow (frame_of net) kept.sound m below y h.machine c value at.known at.machine (empty-here none)) in
          let others : (k : ℕ) → k < length ins → k ≢ n → takes_by (frame_of net) (with_latch y n value) (value_at ins k) ≡ takes_by (frame_of net) y (value_at ins k) = λ k less other.
          subst (λ j. takes_by (frame_of net) (with_latch y j value) (value_at ins k) ≡ takes_by (frame_of net) y (value_at ins k)) at.place
          (takes-latch-other flow (frame_of net) kept.sound m below y h.machine c (value_at ins k) value at.known (are.at k less).known at.machine (are.at k less).machine (other-place k less other)) in
          record {
            machine = own;
            placed = placed-set of part flow net (takes_by (frame_of net) y) (takes_by (frame_of net) (with_latch y n value)) links ins new n q link h.placed inside there mine
                (record { stream = counted.went_on.stream ∙ counts.stream; capacity = counted.went_on.capacity ∙ counts.capacity; count = omega (arith, counted.count, counts.count, more) })
                others;
            same = ap (λ (z : Machine). with_latches z (slice_set y.latches n (Some value))) h.same;
            grows = λ j some. latch-grows y.latches n value j within (h.grows j some);
            no_less = λ k s less. set-cases (λ j u. (part (slice_index_or old j s)).count ≤ (part u).count) new n q long k s
                (λ is. omega (arith, counted.count, ap (λ u. (part u).count) (old-is s long)))
                (λ other. h.no_less k s less);
            done = λ k s from less known. set-cases (λ j u. latch_at x.latches j ≡ None → (part (slice_index_or old j s)).count < (part (slice_index_or old j s)).seen → (part (slice_index_or old j s)).count < (part u).count) new n q long k s
                (λ is free seen. omega (arith, counted.count, ap (λ u. (part u).count) (old-is s long)))
                (λ other. h.done k s from (omega (arith, less, other)) known);
            untried = λ k s le.
                let other : k ≢ n = λ same. omega (arith, le, same) in
                (get_or-set_other new n k q s other ∙ (h.untried k s (omega (arith, le))).0, get_or-set_other y.latches n k (Some value) None other ∙ (h.untried k s (omega (arith, le))).1);
          }

      latched-no : SeatWentOn (part p) (part q) → (part q).count ≡ (part p).count → (latch_at y.latches n ≡ None → (part q).seen ≡ (part q).count) → LatchesTried of part flow net m links ins first (suc n) x old y (slice_set new n q)
      latched-no went count cause =
          record {
            machine = h.machine;
            placed = placed-set of part flow net (takes_by (frame_of net) y) (takes_by (frame_of net) y) links ins new n q link h.placed inside there mine
                (record { stream = went.stream ∙ counts.stream; capacity = went.capacity ∙ counts.capacity; count = omega (arith, count, counts.count) })
                (λ k less other. refl);
            same = h.same;
            grows = h.grows;
            no_less = λ k s less. set-cases (λ j u. (part (slice_index_or old j s)).count ≤ (part u).count) new n q long k s
                (λ is. omega (arith, count, ap (λ u. (part u).count) (old-is s long)))
                (λ other. h.no_less k s less);
            done = λ k s from less known. set-cases (λ j u. latch_at x.latches j ≡ None → (part (slice_index_or old j s)).count < (part (slice_index_or old j s)).seen → (part (slice_index_or old j s)).count < (part u).count) new n q long k s
                (λ is free seen.
                let all : (part q).seen ≡ (part q).count = cause ((h.untried n s (omega arith)).1 ∙ free) in
                absurd (omega (arith, all, count, went.seen, seen, ap (λ u. (part u).count) (old-is s long), ap (λ u. (part u).seen) (old-is s long))))
                (λ other. h.done k s from (omega (arith, less, other)) known);
            untried = λ k s le. let other : k ≢ n = λ same. omega (arith, le, same) in (get_or-set_other new n k q s other ∙ (h.untried k s (omega (arith, le))).0, (h.untried k s (omega (arith, le))).1);
          }

      -- after one more try, whatever came of it
      pub latch-step : (hosts after : List Machine) (thread : ℕ) → machine_at hosts thread ≡ y → thread < length hosts → (b : Bool) → LatchTried hosts thread n (part p) after (part q) b → LatchesTried of part flow net m links ins first (suc n) x old (machine_at after thread) (slice_set new n q)
      latch-step hosts after thread is within true t =
          let next : machine_at after thread ≡ with_latch y n t.value = ap (λ all. machine_at all thread) t.step ∙ get_or-set_same hosts thread (with_latch (machine_at hosts thread) n t.value) no_machine within ∙ ap (λ z. with_latch z n t.value) is in
          subst (λ z. LatchesTried of part flow net m links ins first (suc n) x old z (slice_set new n q)) (sym next)
          (latched-yes t.value (subst (λ (z : Machine). latch_at z.latches n ≡ None) is t.empty) t.token t.counted)
      latch-step hosts after thread is within false t =
          subst (λ z. LatchesTried of part flow net m links ins first (suc n) x old z (slice_set new n q)) (sym (ap (λ all. machine_at all thread) t.same ∙ is))
          (latched-no t.went_on t.count (λ none. t.cause (subst (λ (z : Machine). latch_at z.latches n ≡ None) (sym is) none)))

-- ---- one thread of a host

set-twice : {A : Type 0} (xs : List A) (i : ℕ) (a b : A) → slice_set (slice_set xs i a) i b ≡ slice_set xs i b
set-twice [] i a b = refl
set-twice (x ∷ xs) zero a b = refl
set-twice (x ∷ xs) (suc i) a b = ap (λ rest. x ∷ rest) (set-twice xs i a b)

-- only the machine of this thread has changed
pub alone-start : (hosts : List Machine) (thread : ℕ) → hosts ≡ slice_set hosts thread (machine_at hosts thread)
alone-start hosts thread = sym (set-get_or hosts thread no_machine)

pub alone-more : (first hosts after : List Machine) (thread : ℕ) (z : Machine) → thread < length first → hosts ≡ slice_set first thread (machine_at hosts thread) → after ≡ slice_set hosts thread z → after ≡ slice_set first thread (machine_at after thread)
alone-more first hosts after thread z within alone step =
    let last : after ≡ slice_set first thread z = step ∙ ap (λ all. slice_set all thread z) alone ∙ set-twice first thread (machine_at hosts thread) z in
    let here : machine_at after thread ≡ z = ap (λ all. machine_at all thread) last ∙ get_or-set_same first thread z no_machine within in
    last ∙ ap (slice_set first thread) (sym here)

pub alone-latch : (first hosts after : List Machine) (thread place : ℕ) (p q : SeatState) → thread < length first → hosts ≡ slice_set first thread (machine_at hosts thread) → (b : Bool) → LatchTried hosts thread place p after q b → after ≡ slice_set first thread (machine_at after thread)
alone-latch first hosts after thread place p q within alone true t = alone-more first hosts after thread (with_latch (machine_at hosts thread) place t.value) within alone t.step
alone-latch first hosts after thread place p q within alone false t = subst (λ all. all ≡ slice_set first thread (machine_at all thread)) (sym t.same) alone

pub alone-within : (first hosts : List Machine) (thread : ℕ) → thread < length first → hosts ≡ slice_set first thread (machine_at hosts thread) → thread < length hosts
alone-within first hosts thread within alone = omega (arith, within, ap length alone, length-set first thread (machine_at hosts thread))

-- what was read is there
pub read-some : {A : Type 0} (xs : List A) (i : ℕ) (a : A) → i < length xs → a ≡ slice_index_or xs i a → slice_get xs i ≡ Some a
read-some [] i a none is = absurd (omega (arith, none))
read-some (x ∷ xs) zero a lt is = ap (λ v. Some v) (sym is)
read-some (x ∷ xs) (suc i) a lt is = read-some xs i a (omega (arith, lt)) is
