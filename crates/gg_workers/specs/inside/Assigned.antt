-- Host h is assigned to worker h mod W; each worker has its hosts in falling order.
-- Source: this program's own.
use Rattle.std.specs.Prelude.{◌≡◌, ℕ, zero, suc, ◌+◌, ◌<◌, ◌≤◌, ◌%◌, List, [], ◌∷◌, ◌++◌, length, map, if◌then◌else◌, nat_eq, slice_index_or}
use Rattle.std.specs.Vec.{vec_capacity}
use Rattle.gg_workers.specs.declared.worker.LinkedHost.{LinkedHost}
use Rattle.gg_workers.specs.declared.worker.Worker.{Worker}

-- the hosts of worker j, in falling order, among the d hosts that begin with h
abbrev pub share_of : ℕ → ℕ → ℕ → ℕ → List ℕ
share_of w j h zero = []
share_of w j h (suc d) = share_of w j (h + 1) d ++ (if nat_eq (h % w) j then h ∷ [] else [])

module _ {H S T : Type 0} where
  -- s is the host of its number in the row
  pub record IsOf (ss : List (LinkedHost H S T)) (s : LinkedHost H S T) : Type 0 where
    pub below : s.number < length ss
    pub there : (d : LinkedHost H S T) → slice_index_or ss s.number d ≡ s

  -- While hosts are assigned: the first h of all are left, as they were. The other d are with their workers. Each worker has its share of them in
  -- falling order, and room for the hosts that are left.
  pub record Assigning (ss0 : List (LinkedHost H S T)) (w h d : ℕ) (rest : List (LinkedHost H S T)) (ws : List (Worker H S T)) : Type 0 where
    pub count : length ws ≡ w
    pub long : length rest ≡ h
    pub whole : h + d ≡ length ss0
    pub same : (k : ℕ) (e : LinkedHost H S T) → k < h → slice_index_or rest k e ≡ slice_index_or ss0 k e
    pub numbers : (j : ℕ) (e : Worker H S T) → j < w → map (λ s. s.number) (slice_index_or ws j e).linked_hosts.items ≡ share_of w j h d
    pub of_all : (j k : ℕ) (e : Worker H S T) (f : LinkedHost H S T) → j < w → k < length (slice_index_or ws j e).linked_hosts.items → IsOf ss0 (slice_index_or (slice_index_or ws j e).linked_hosts.items k f)
    pub room : (j : ℕ) (e : Worker H S T) → j < w → length (slice_index_or ws j e).linked_hosts.items + h ≤ vec_capacity (slice_index_or ws j e).linked_hosts

  -- s is one of these workers' hosts
  pub record IsFrom (ws : List (Worker H S T)) (s : LinkedHost H S T) : Type 0 where
    pub worker : ℕ
    pub place : ℕ
    pub worker_in : worker < length ws
    pub place_in : (e : Worker H S T) → place < length (slice_index_or ws worker e).linked_hosts.items
    pub there : (e : Worker H S T) (f : LinkedHost H S T) → slice_index_or (slice_index_or ws worker e).linked_hosts.items place f ≡ s

  -- While hosts are collected: the first m are back, in the order of their numbers. Each worker still has its share of the d others, which are the
  -- first of its old hosts.
  pub record Collecting (ws0 : List (Worker H S T)) (w m d : ℕ) (ws : List (Worker H S T)) (ss : List (LinkedHost H S T)) : Type 0 where
    pub count : length ws ≡ w
    pub count0 : length ws0 ≡ w
    pub long : length ss ≡ m
    pub numbers : (j : ℕ) (e : Worker H S T) → j < w → map (λ s. s.number) (slice_index_or ws j e).linked_hosts.items ≡ share_of w j m d
    pub fronts : (j k : ℕ) (e : Worker H S T) (f : LinkedHost H S T) → j < w → k < length (slice_index_or ws j e).linked_hosts.items → (k < length (slice_index_or ws0 j e).linked_hosts.items) × (slice_index_or (slice_index_or ws j e).linked_hosts.items k f ≡ slice_index_or (slice_index_or ws0 j e).linked_hosts.items k f)
    pub got : (i : ℕ) (f : LinkedHost H S T) → i < m → ((slice_index_or ss i f).number ≡ i) × IsFrom ws0 (slice_index_or ss i f)
