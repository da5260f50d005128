-- A pass over the machines of a host, one after another, and over several hosts.
use Rattle.std.proofs.Common.{◌≡◌, ℕ, ◌+◌, ◌-◌, ◌<◌, ◌≤◌, inl, inr, List, [], ◌∷◌, length, map, slice_index_or, slice_set, sym, refl, ap, subst, ◌∙◌, arith, length-set}
use Rattle.std.proofs.lemmas.List.{map-set, set-get_or, get_or-map, length-map}
use Rattle.gg_flat.specs.Streams.{Flow}
use Rattle.gg_link.specs.Seats.{SeatState}
use Rattle.gg_node.specs.Machine.{Machine, machine_at}
use Rattle.gg_net.specs.declared.shape.Station.{Station}
use Rattle.gg_net.specs.Network.{Network, kind_at, Frame, frame_of}
use Rattle.gg_net.specs.Kept.{Kept}
use Rattle.gg_net.specs.inside.Net.{IsListed, AreListed}
use Rattle.gg_workers_pass.specs.inside.Pass.{HasSeats, HasNewSeats, MachineWentOn, KnownDone, EventsDone}
use Rattle.gg_workers_pass.specs.declared.machine_seats.MachineSeats.{MachineSeats}
use Rattle.gg_workers_pass.proofs.WentLemmas.{went-further}
use Rattle.gg_workers_pass.proofs.EventLemmas.{events-later, events-done}
use Rattle.gg_workers_pass.proofs.NetLemmas.{others-stay}
use Rattle.gg_workers.specs.declared.worker.LinkedHost.{LinkedHost}
use Rattle.gg_workers.specs.inside.LinkedHosts.{DoneAt, ReadyAt, EachThread, IsLinkedHost, AreLinkedHosts, AllEnded}
use Rattle.gg_workers.proofs.ListLemmas.{set_cases}

-- ---- one machine

module _ {X S T : Type 0} (takes_from : X → S → Type 0) (puts_into : X → T → Type 0) (taking : S → SeatState) (putting : T → SeatState) (flow : Flow) (net : Network) (stations : List Station) (links : List X) (upto : ℕ) where
  abbrev frame : Frame
  frame = frame_of net

  abbrev Ready : ℕ → ℕ → Machine → MachineSeats S T → Type 0
  Ready = ReadyAt takes_from puts_into taking putting flow net stations links upto

  abbrev Done : ℕ → ℕ → Machine → MachineSeats S T → Type 0
  Done = DoneAt takes_from puts_into taking putting flow net stations links upto

  pub done-ready : (h t : ℕ) (x : Machine) (d : MachineSeats S T) → Done h t x d → Ready h t x d
  done-ready h t x d done = record { at = done.at; before = inr done.done }

  -- where a machine has no cycle left to do, all is done
  pub ended-done : (h t : ℕ) (x : Machine) (d : MachineSeats S T) → upto ≤ x.cycle → (s : Station) → Ready h t x d → Done h t x d
  ended-done h t x d over s ready =
      record {
        at = ready.at;
        done = elim ready.before [
          | inl new ↦
              let end : upto ≤ (machine_at net.machines d.machine).cycle = subst (λ (z : Machine). upto ≤ z.cycle) (new s).machine over in
              record {
                latch = λ c can to below. absurd (omega (arith, end, below));
                fire = λ c can from below. absurd (omega (arith, end, below));
                serve = λ p can below. absurd (omega (arith, end, below));
                finish = λ can below. absurd (omega (arith, end, below));
              }
          | inr done ↦ done
        ];
      }

  module _ (kept : Kept flow net) (listed : AreListed (frame_of net) stations) (h t : ℕ) (x y : Machine) (p q : MachineSeats S T) (ready : Ready h t x p) (s : Station) (is : (e : Station) → slice_index_or stations p.machine e ≡ s) where
    here : IsListed net.wires p.machine (kind_at (frame_of net).kinds p.machine) s
    here = subst (λ (e : Station). IsListed net.wires p.machine (kind_at (frame_of net).kinds p.machine) e) (is s) (listed p.machine s ready.at.known)

    pub machine_seats-here : HasSeats takes_from puts_into taking putting flow net links p.machine s.ins s.outs x p.takes.items p.puts.items
    machine_seats-here = subst (λ (e : Station). HasSeats takes_from puts_into taking putting flow net links p.machine e.ins e.outs x p.takes.items p.puts.items) (is s) (ready.at.seats s)

    pub thread-here : s.thread ≡ t
    thread-here = ap (λ (e : Station). e.thread) (sym (is s)) ∙ ready.at.thread s

    -- the machine has gone on, and all that could be done was done
    went-done : q.machine ≡ p.machine → HasSeats takes_from puts_into taking putting flow net links p.machine s.ins s.outs y q.takes.items q.puts.items → MachineWentOn frame p.machine upto x y → EventsDone net p.machine upto y → Done h t y q
    went-done same machine_seats went all =
        record {
          at = record {
            known = subst (λ (m : ℕ). m < length stations) (sym same) ready.at.known;
            host = λ e. ap (λ (m : ℕ). (slice_index_or stations m e).host) same ∙ ready.at.host e;
            thread = λ e. ap (λ (m : ℕ). (slice_index_or stations m e).thread) same ∙ ready.at.thread e;
            seats = λ e.
                let mine : HasSeats takes_from puts_into taking putting flow net links p.machine (slice_index_or stations p.machine e).ins (slice_index_or stations p.machine e).outs y q.takes.items q.puts.items =
                subst (λ (z : Station). HasSeats takes_from puts_into taking putting flow net links p.machine z.ins z.outs y q.takes.items q.puts.items) (sym (is e)) machine_seats in
                subst (λ (m : ℕ). HasSeats takes_from puts_into taking putting flow net links m (slice_index_or stations m e).ins (slice_index_or stations m e).outs y q.takes.items q.puts.items) (sym same) mine;
            went_on = subst (λ (m : ℕ). MachineWentOn frame m upto (machine_at net.machines m) y) (sym same) (went-further frame p.machine upto (machine_at net.machines p.machine) x y ready.at.went_on went);
          };
          done = subst (λ (m : ℕ). EventsDone net m upto y) (sym same) all;
        }

    -- a pass was made over the machine
    pub pass-done : q.machine ≡ p.machine → HasSeats takes_from puts_into taking putting flow net links p.machine s.ins s.outs y q.takes.items q.puts.items
        → MachineWentOn frame p.machine upto x y → KnownDone taking putting frame upto s.ins s.outs x p.takes.items p.puts.items y → Done h t y q
    pass-done same machine_seats went known =
        let all : EventsDone net p.machine upto y = elim ready.before [
          | inl new ↦
              let newly : HasNewSeats taking putting net p.machine s.ins s.outs x p.takes.items p.puts.items = subst (λ (e : Station). HasNewSeats taking putting net p.machine e.ins e.outs x p.takes.items p.puts.items) (is s) (new s) in
              events-done takes_from puts_into taking putting flow net kept links p.machine s here upto x p.takes.items p.puts.items machine_seats-here newly y known
          | inr done ↦ events-later net p.machine upto x y done went
        ] in
        went-done same machine_seats went all

    -- an event of the machine was looked at
    pub look-done : q.machine ≡ p.machine → HasSeats takes_from puts_into taking putting flow net links p.machine s.ins s.outs y q.takes.items q.puts.items → MachineWentOn frame p.machine upto x y → EventsDone net p.machine upto x → Done h t y q
    look-done same machine_seats went done = went-done same machine_seats went (events-later net p.machine upto x y done went)

-- some element of a list that has one
some-of : {A : Type 0} (xs : List A) (k : ℕ) → k < length xs → A
some-of [] k lt = absurd (omega (arith, lt))
some-of (x ∷ xs) k lt = x

module _ {H X S T : Type 0} (machines : H → List Machine) (threads : List ℕ) (takes_from : X → S → Type 0) (puts_into : X → T → Type 0) (taking : S → SeatState) (putting : T → SeatState) (flow : Flow) (net : Network) (stations : List Station) (links : List X) (upto : ℕ) where
  -- where no machine has a cycle left to do, all is done
  pub all-ended : (bs : List (LinkedHost H S T)) → AreLinkedHosts machines threads (ReadyAt takes_from puts_into taking putting flow net stations links upto) bs → AllEnded machines upto bs → AreLinkedHosts machines threads (DoneAt takes_from puts_into taking putting flow net stations links upto) bs
  all-ended bs are ended k b lt =
      let is = are k b lt in
      let linked_host : LinkedHost H S T = slice_index_or bs k b in
      record {
        by_thread = record {
          count = is.by_thread.count;
          each = λ t d le.
              let ready = is.by_thread.each t d le in
              ended-done takes_from puts_into taking putting flow net stations links upto (slice_index_or bs k b).number t (machine_at (machines (slice_index_or bs k b).host) t) (slice_index_or (slice_index_or bs k b).by_thread.items t d) (ended k b lt t (omega (arith, le, is.by_thread.count))) (some-of stations (slice_index_or (slice_index_or bs k b).by_thread.items t d).machine ready.at.known) ready;
        };
        count = is.count;
      }

-- where no machine of several hosts is below the cycle, none of one of them is
pub one-ended : {H S T : Type 0} (machines : H → List Machine) (upto : ℕ) (bs : List (LinkedHost H S T)) (k : ℕ) (b : LinkedHost H S T) → b ≡ slice_index_or bs k b → k < length bs → AllEnded machines upto bs → (t : ℕ) → t < length (machines b.host) → upto ≤ (machine_at (machines b.host) t).cycle
one-ended {H} {S} {T} machines upto bs k b is lt all = subst (λ (x : LinkedHost H S T). (t : ℕ) → t < length (machines x.host) → upto ≤ (machine_at (machines x.host) t).cycle) (sym is) (all k b lt)

-- ---- the machines of one host

module _ {S T : Type 0} (P Q : ℕ → ℕ → Machine → MachineSeats S T → Type 0) (imp : (h t : ℕ) (x : Machine) (d : MachineSeats S T) → Q h t x d → P h t x d) (h : ℕ) where
  -- the first n were passed
  pub record AreTurning (n : ℕ) (xs : List Machine) (ds : List (MachineSeats S T)) : Type 0 where
    pub count : length ds ≡ length xs
    pub each : (t : ℕ) (d : MachineSeats S T) → t < length ds → P h t (machine_at xs t) (slice_index_or ds t d)
    pub first : (t : ℕ) (d : MachineSeats S T) → t < n → t < length ds → Q h t (machine_at xs t) (slice_index_or ds t d)

  pub turn-start : (xs : List Machine) (ds : List (MachineSeats S T)) → EachThread P h xs ds → AreTurning 0 xs ds
  turn-start xs ds a = record { count = a.count; each = a.each; first = λ t d lt. absurd (omega (arith, lt)) }

  pub turn-end : (n : ℕ) (xs : List Machine) (ds : List (MachineSeats S T)) → AreTurning n xs ds → length ds ≤ n → EachThread Q h xs ds
  turn-end n xs ds a over = record { count = a.count; each = λ t d lt. a.first t d (omega (arith, lt, over)) lt }

  pub turn-step : (n s : ℕ) (xs ys : List Machine) (ds : List (MachineSeats S T)) (q : MachineSeats S T) → AreTurning n xs ds → n < length ds → s ≡ n → ys ≡ slice_set xs s (machine_at ys s) → Q h n (machine_at ys s) q → AreTurning (n + 1) ys (slice_set ds n q)
  turn-step n s xs ys ds q a inside e alone' done' =
      let alone : ys ≡ slice_set xs n (machine_at ys n) = subst (λ (k : ℕ). ys ≡ slice_set xs k (machine_at ys k)) e alone' in
      let done : Q h n (machine_at ys n) q = subst (λ (k : ℕ). Q h n (machine_at ys k) q) e done' in
      record {
        count = length-set ds n q ∙ a.count ∙ sym (ap length alone ∙ length-set xs n (machine_at ys n));
        each = λ t d lt. set_cases (λ j z. P h j (machine_at ys j) z) ds n q inside t d
            (λ is. imp h n (machine_at ys n) q done)
            (λ ne. subst (λ (z : Machine). P h t z (slice_index_or ds t d)) (sym (others-stay xs ys n t ne alone)) (a.each t d (rw length-set at lt)));
        first = λ t d le lt. set_cases (λ j z. Q h j (machine_at ys j) z) ds n q inside t d
            (λ is. done)
            (λ ne. subst (λ (z : Machine). Q h t z (slice_index_or ds t d)) (sym (others-stay xs ys n t ne alone)) (a.first t d (omega (arith, le, ne)) (rw length-set at lt)));
      }

-- one of the machines has gone on
pub one-turned : {S T : Type 0} (P : ℕ → ℕ → Machine → MachineSeats S T → Type 0) (h n s : ℕ) (xs ys : List Machine) (ds : List (MachineSeats S T)) (q : MachineSeats S T) → EachThread P h xs ds → n < length ds → s ≡ n → ys ≡ slice_set xs s (machine_at ys s) → P h n (machine_at ys s) q → EachThread P h ys (slice_set ds n q)
one-turned {S} {T} P h n s xs ys ds q all inside e alone done =
    let turned : AreTurning P P (λ i t x d is. is) h (n + 1) ys (slice_set ds n q) =
    turn-step P P (λ i t x d is. is) h n s xs ys ds q (record { count = all.count; each = all.each; first = λ t d le lt. all.each t d lt }) inside e alone done in
    record { count = turned.count; each = turned.each }

-- ---- several hosts

numbers-set : {H S T : Type 0} (l : List (LinkedHost H S T)) (i : ℕ) (z w : LinkedHost H S T) → i < length l → ((d : LinkedHost H S T) → slice_index_or l i d ≡ w) → z.number ≡ w.number → map (λ (b : LinkedHost H S T). b.number) (slice_set l i z) ≡ map (λ (b : LinkedHost H S T). b.number) l
numbers-set {H} {S} {T} l i z w lt at e =
    map-set (λ (b : LinkedHost H S T). b.number) l i z
    ∙ ap (λ n. slice_set (map (λ (b : LinkedHost H S T). b.number) l) i n) (e ∙ sym (get_or-map (λ (b : LinkedHost H S T). b.number) l i w 0 lt ∙ ap (λ (b : LinkedHost H S T). b.number) (at w)))
    ∙ set-get_or (map (λ (b : LinkedHost H S T). b.number) l) i 0

-- one of the hosts has changed, and not its number
module _ {H S T : Type 0} (machines : H → List Machine) (threads : List ℕ) (P : ℕ → ℕ → Machine → MachineSeats S T → Type 0) (bs : List (LinkedHost H S T)) (n : ℕ) (p q : LinkedHost H S T) (inside : n < length bs) (was : (d : LinkedHost H S T) → slice_index_or bs n d ≡ p) (number : q.number ≡ p.number) where
  pub one-passed : AreLinkedHosts machines threads P bs → IsLinkedHost machines threads P q → AreLinkedHosts machines threads P (slice_set bs n q)
  one-passed are is k b lt = set_cases (λ j z. IsLinkedHost machines threads P z) bs n q inside k b (λ e. is) (λ ne. are k b (rw length-set at lt))

  pub one-numbered : map (λ (b : LinkedHost H S T). b.number) (slice_set bs n q) ≡ map (λ (b : LinkedHost H S T). b.number) bs
  one-numbered = numbers-set bs n q p inside was number

-- lists of the same numbers are as long
pub same-long : {H S T : Type 0} (a b : List (LinkedHost H S T)) → map (λ (x : LinkedHost H S T). x.number) a ≡ map (λ (x : LinkedHost H S T). x.number) b → length a ≡ length b
same-long {H} {S} {T} a b e = sym (length-map a (λ (x : LinkedHost H S T). x.number)) ∙ ap length e ∙ length-map b (λ (x : LinkedHost H S T). x.number)

module _ {H S T : Type 0} (machines : H → List Machine) (threads : List ℕ) (P Q : ℕ → ℕ → Machine → MachineSeats S T → Type 0) (imp : (h t : ℕ) (x : Machine) (d : MachineSeats S T) → Q h t x d → P h t x d) where
  pub linked_host-imp : (b : LinkedHost H S T) → IsLinkedHost machines threads Q b → IsLinkedHost machines threads P b
  linked_host-imp b is = record { by_thread = record { count = is.by_thread.count; each = λ t d lt. imp b.number t (machine_at (machines b.host) t) (slice_index_or b.by_thread.items t d) (is.by_thread.each t d lt) }; count = is.count }

  pub linked_hosts-imp : (bs : List (LinkedHost H S T)) → AreLinkedHosts machines threads Q bs → AreLinkedHosts machines threads P bs
  linked_hosts-imp bs are k b lt = linked_host-imp (slice_index_or bs k b) (are k b lt)

  -- those from the last down to place n were passed
  pub record ArePassing (n : ℕ) (old bs : List (LinkedHost H S T)) : Type 0 where
    pub each : AreLinkedHosts machines threads P bs
    pub last : (k : ℕ) (b : LinkedHost H S T) → n ≤ k → k < length bs → IsLinkedHost machines threads Q (slice_index_or bs k b)
    pub numbers : map (λ (b : LinkedHost H S T). b.number) bs ≡ map (λ (b : LinkedHost H S T). b.number) old

  pub pass-start : (bs : List (LinkedHost H S T)) → AreLinkedHosts machines threads P bs → ArePassing (length bs) bs bs
  pass-start bs are = record { each = are; last = λ k b le lt. absurd (omega (arith, le, lt)); numbers = refl }

  pub pass-step : (n : ℕ) (old bs : List (LinkedHost H S T)) (p q : LinkedHost H S T) → ArePassing n old bs → 0 < n → n - 1 < length bs → ((d : LinkedHost H S T) → slice_index_or bs (n - 1) d ≡ p) → IsLinkedHost machines threads Q q → q.number ≡ p.number → ArePassing (n - 1) old (slice_set bs (n - 1) q)
  pass-step n old bs p q a some inside was is number =
      record {
        each = λ k b lt. set_cases (λ j z. IsLinkedHost machines threads P z) bs (n - 1) q inside k b (λ e. linked_host-imp q is) (λ ne. a.each k b (rw length-set at lt));
        last = λ k b le lt. set_cases (λ j z. IsLinkedHost machines threads Q z) bs (n - 1) q inside k b (λ e. is) (λ ne. a.last k b (omega (arith, le, ne, some)) (rw length-set at lt));
        numbers = numbers-set bs (n - 1) q p inside was number ∙ a.numbers;
      }
