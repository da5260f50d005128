-- The seats of one machine are set.
use Rattle.std.proofs.Common.{◌≡◌, ◌≢◌, ℕ, ◌+◌, ◌<◌, ◌≤◌, inl, inr, List, length, slice_index_or, slice_set, sym, ap, subst, ◌∙◌, arith, length-set, get_or-set_same, get_or-set_other}
use Rattle.std.proofs.lemmas.Bool.{cases_eq}
use Rattle.gg_node.specs.Machine.{Machine}
use Rattle.gg_net.specs.declared.shape.Station.{Station}
use Rattle.gg_net.specs.inside.Stations.{hosted, IsStationed, AreStationed}
use Rattle.gg_workers_pass.specs.declared.machine_seats.MachineSeats.{MachineSeats}
use Rattle.gg_workers.specs.declared.host_seats.HostSeats.{HostSeats}
use Rattle.gg_workers.specs.inside.HostSeats.{seats_at, HasPlaces, EachMachine}
use Rattle.gg_workers.proofs.ListLemmas.{set_cases}

module _ {S T : Type 0} (rows : List (HostSeats S T)) (h t : ℕ) (old new : HostSeats S T) (q : MachineSeats S T) (inside : h < length rows) (was : (r : HostSeats S T) → slice_index_or rows h r ≡ old) (e : new.by_thread.items ≡ slice_set old.by_thread.items t q) where
  stays : (i j : ℕ) → (i ≡ h → j ≢ t) → (r : HostSeats S T) (d : MachineSeats S T) → slice_index_or (slice_index_or (slice_set rows h new) i r).by_thread.items j d ≡ slice_index_or (slice_index_or rows i r).by_thread.items j d
  stays i j apart r d = elim (cases_eq i h) [
    | inl is ↦
        ap (λ k. slice_index_or (slice_index_or (slice_set rows h new) k r).by_thread.items j d) is
        ∙ ap (λ (x : HostSeats S T). slice_index_or x.by_thread.items j d) (get_or-set_same rows h new r inside)
        ∙ ap (λ l. slice_index_or l j d) e
        ∙ get_or-set_other old.by_thread.items t j q d (apart is)
        ∙ ap (λ (x : HostSeats S T). slice_index_or x.by_thread.items j d) (sym (was r))
        ∙ ap (λ k. slice_index_or (slice_index_or rows k r).by_thread.items j d) (sym is)
    | inr ne ↦ ap (λ (x : HostSeats S T). slice_index_or x.by_thread.items j d) (get_or-set_other rows h i new r ne)
  ]

  comes : t < length old.by_thread.items → (r : HostSeats S T) (d : MachineSeats S T) → slice_index_or (slice_index_or (slice_set rows h new) h r).by_thread.items t d ≡ q
  comes within r d =
      ap (λ (x : HostSeats S T). slice_index_or x.by_thread.items t d) (get_or-set_same rows h new r inside) ∙ ap (λ l. slice_index_or l t d) e ∙ get_or-set_same old.by_thread.items t q d within

module _ {S T : Type 0} (stations : List Station) (machines : List (List Machine)) (stationed : AreStationed machines stations) (rows : List (HostSeats S T)) (places : HasPlaces machines rows) (m : ℕ) (known : m < length stations) (station : Station) (at : (s : Station) → slice_index_or stations m s ≡ station) where
  here : IsStationed machines station
  here = subst (λ (s : Station). IsStationed machines s) (at station) (stationed.each m station known)

  pub host-within : station.host < length rows
  host-within = rw places.count here.host

  module _ (old : HostSeats S T) (was : (r : HostSeats S T) → slice_index_or rows station.host r ≡ old) where
    pub thread-within : station.thread < length old.by_thread.items
    thread-within = let long : length old.by_thread.items ≡ length (hosted machines station.host) = ap (λ (x : HostSeats S T). length x.by_thread.items) (sym (was old)) ∙ places.each station.host old host-within in rw long here.thread

    module _ (new : HostSeats S T) (q : MachineSeats S T) (e : new.by_thread.items ≡ slice_set old.by_thread.items station.thread q) where
      pub places-kept : HasPlaces machines (slice_set rows station.host new)
      places-kept =
          record {
            count = length-set rows station.host new ∙ places.count;
            each = λ h r lt. set_cases (λ i x. length x.by_thread.items ≡ length (hosted machines i)) rows station.host new host-within h r
                (λ is. ap length e ∙ length-set old.by_thread.items station.thread q ∙ ap (λ (x : HostSeats S T). length x.by_thread.items) (sym (was old)) ∙ places.each station.host old host-within)
                (λ ne. places.each h r (rw length-set at lt));
          }

      module _ (P : ℕ → Station → MachineSeats S T → Type 0) where
        -- those of other machines stay
        pub each-kept : (from to : ℕ) → to ≤ length stations → ((k : ℕ) → from ≤ k → k < to → k ≢ m) → EachMachine P stations from to rows → EachMachine P stations from to (slice_set rows station.host new)
        each-kept from to within others each k s r d low high =
            let apart : (slice_index_or stations k s).host ≡ station.host → (slice_index_or stations k s).thread ≢ station.thread =
            (λ host thread. others k low high (stationed.alone k m s s (omega (arith, high, within)) known (host ∙ ap (λ (x : Station). x.host) (sym (at s))) (thread ∙ ap (λ (x : Station). x.thread) (sym (at s))))) in
            subst (P k (slice_index_or stations k s)) (sym (stays rows station.host station.thread old new q host-within was e (slice_index_or stations k s).host (slice_index_or stations k s).thread apart r d)) (each k s r d low high)

        -- one machine more
        pub each-more : P m station q → EachMachine P stations 0 m rows → EachMachine P stations 0 (m + 1) (slice_set rows station.host new)
        each-more is each k s r d low high = elim (cases_eq k m) [
          | inl same ↦
              let mine : P m station (seats_at (slice_set rows station.host new) station r d) = subst (P m station) (sym (comes rows station.host station.thread old new q host-within was e thread-within r d)) is in
              let there : P m (slice_index_or stations m s) (seats_at (slice_set rows station.host new) (slice_index_or stations m s) r d) = subst (λ (x : Station). P m x (seats_at (slice_set rows station.host new) x r d)) (sym (at s)) mine in
              subst (λ (i : ℕ). P i (slice_index_or stations i s) (seats_at (slice_set rows station.host new) (slice_index_or stations i s) r d)) (sym same) there
          | inr ne ↦ each-kept 0 m (omega (arith, known)) (λ j le lt eq. omega (arith, lt, eq)) each k s r d low (omega (arith, high, ne))
        ]
