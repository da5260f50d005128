-- Assigning, running and collecting, taken together.
use Rattle.std.proofs.Common.{◌≡◌, ℕ, ◌<◌, List, [], ◌∷◌, ◌++◌, length, map, slice_index_or, sym, refl, subst, ◌∙◌, arith}
use Rattle.std.specs.Prelude.{All, take}
use Rattle.std.proofs.Math.Seq.{take-append_seam}
use Rattle.gg_node.specs.Machine.{Machine}
use Rattle.gg_workers_pass.specs.declared.machine_seats.MachineSeats.{MachineSeats}
use Rattle.gg_workers.specs.declared.worker.LinkedHost.{LinkedHost}
use Rattle.gg_workers.specs.declared.worker.Worker.{Worker}
use Rattle.gg_workers.specs.inside.LinkedHosts.{IsLinkedHost, AreLinkedHosts, AreNumbered}
use Rattle.gg_workers.specs.inside.Assigned.{IsOf, Assigning, IsFrom, Collecting}
use Rattle.gg_workers.specs.inside.Turns.{Falls}
use Rattle.gg_workers.proofs.FallLemmas.{share-falls}

some-of : {A : Type 0} (xs : List A) (k : ℕ) → k < length xs → A
some-of [] k lt = absurd (omega (arith, lt))
some-of (x ∷ xs) k lt = x

module _ {H S T : Type 0} (machines : H → List Machine) (threads : List ℕ) (P : ℕ → ℕ → Machine → MachineSeats S T → Type 0) (ss0 : List (LinkedHost H S T)) (n : ℕ) (ws : List (Worker H S T)) (assigned : Assigning ss0 n 0 (length ss0) [] ws) where
  -- what holds of each host holds of each that was assigned
  pub assigned-linked_hosts : AreLinkedHosts machines threads P ss0 → All (λ v. AreLinkedHosts machines threads P v.linked_hosts.items) ws
  assigned-linked_hosts linked_hosts j e lt k f le =
      let is : IsOf ss0 (slice_index_or (slice_index_or ws j e).linked_hosts.items k f) = assigned.of_all j k e f (rw (sym assigned.count) lt) le in
      subst (λ (s : LinkedHost H S T). IsLinkedHost machines threads P s) (is.there f) (linked_hosts (slice_index_or (slice_index_or ws j e).linked_hosts.items k f).number f is.below)

  -- each worker has its hosts in falling order
  pub assigned-falls : All (λ v. Falls (map (λ s. s.number) v.linked_hosts.items)) ws
  assigned-falls j e lt = subst Falls (sym (assigned.numbers j e (rw (sym assigned.count) lt))) (share-falls n j 0 (length ss0))

  module _ (ws1 : List (Worker H S T)) (long : length ws1 ≡ length ws) (numbers : (j : ℕ) (e : Worker H S T) → j < length ws → map (λ (s : LinkedHost H S T). s.number) (slice_index_or ws1 j e).linked_hosts.items ≡ map (λ (s : LinkedHost H S T). s.number) (slice_index_or ws j e).linked_hosts.items) where
    -- hosts that keep their numbers can be collected
    pub collect-ready : Collecting ws1 n 0 (length ss0) ws1 []
    collect-ready = record {
      count = long ∙ assigned.count;
      count0 = long ∙ assigned.count;
      long = refl;
      numbers = λ j e lt. numbers j e (rw assigned.count lt) ∙ assigned.numbers j e lt;
      fronts = λ j k e f lt le. (le, refl);
      got = λ i f lt. absurd (omega arith);
    }

-- what holds of each worker's hosts holds of each that was collected
pub collected-linked_hosts : {H S T : Type 0} (machines : H → List Machine) (threads : List ℕ) (Q : ℕ → ℕ → Machine → MachineSeats S T → Type 0) (ws1 ws2 : List (Worker H S T)) (n m : ℕ) (ss1 : List (LinkedHost H S T))
    → Collecting ws1 n m 0 ws2 ss1 → ((j : ℕ) (e : Worker H S T) → j < length ws1 → AreLinkedHosts machines threads Q (slice_index_or ws1 j e).linked_hosts.items) → AreLinkedHosts machines threads Q ss1
collected-linked_hosts {H} {S} {T} machines threads Q ws1 ws2 n m ss1 g are i d lt =
    let from : IsFrom ws1 (slice_index_or ss1 i d) = (g.got i d (rw g.long at lt)).1 in
    let e : Worker H S T = some-of ws1 from.worker from.worker_in in
    subst (λ (s : LinkedHost H S T). IsLinkedHost machines threads Q s) (from.there e d) (are from.worker e from.worker_in from.place d (from.place_in e))

pub collected-numbered : {H S T : Type 0} (ws1 ws2 : List (Worker H S T)) (n m : ℕ) (ss1 : List (LinkedHost H S T)) → Collecting ws1 n m 0 ws2 ss1 → AreNumbered ss1
collected-numbered ws1 ws2 n m ss1 g i d lt = (g.got i d (rw g.long at lt)).0

-- the workers' list, lent as a slice, comes back as this
pub take-whole : {A : Type 0} (n : ℕ) (ys zs : List A) → length ys ≡ n → take n (ys ++ zs) ≡ ys
take-whole n ys zs e = let P : ℕ → Type 0 = λ k. take k (ys ++ zs) ≡ ys in subst P e (take-append_seam ys zs)

pub ready-lent : {H S T : Type 0} (ws1 taken : List (Worker H S T)) (n i k : ℕ) (ss : List (LinkedHost H S T)) → taken ≡ ws1 → length ws1 ≡ n → k ≡ i → ss ≡ [] → Collecting ws1 n 0 i ws1 [] → Collecting taken (length taken) 0 k taken ss
ready-lent {H} {S} {T} ws1 taken n i k ss e long ik none g =
    let a : Collecting ws1 (length ws1) 0 i ws1 [] = subst (λ (j : ℕ). Collecting ws1 j 0 i ws1 []) (sym long) g in
    let b : Collecting taken (length taken) 0 i taken [] = subst (λ (l : List (Worker H S T)). Collecting l (length l) 0 i l []) (sym e) a in
    subst (λ (j : ℕ). Collecting taken (length taken) 0 j taken ss) (sym ik) (subst (λ (l : List (LinkedHost H S T)). Collecting taken (length taken) 0 i taken l) (sym none) b)

pub collected-lent : {H S T : Type 0} (ws1 taken ws2 : List (Worker H S T)) (n i k : ℕ) (ss : List (LinkedHost H S T)) → taken ≡ ws1 → length ws1 ≡ n → k ≡ i → Collecting taken (length taken) k 0 ws2 ss → Collecting ws1 n i 0 ws2 ss
collected-lent {H} {S} {T} ws1 taken ws2 n i k ss e long ik g =
    let a : Collecting ws1 (length ws1) k 0 ws2 ss = subst (λ (l : List (Worker H S T)). Collecting l (length l) k 0 ws2 ss) e g in
    subst (λ (j : ℕ). Collecting ws1 n j 0 ws2 ss) ik (subst (λ (j : ℕ). Collecting ws1 j k 0 ws2 ss) long a)
