-- Which machines of a plan share a host.
-- Source: ICCAD 2019 (duplicate instances that share one host unit, a thread each).
use Rattle.std.specs.Prelude.{◌≡◌, ◌↔◌, ◌⊎◌, ℕ, ◌<◌, ◌≤◌, ◌++◌, List, [], ◌∷◌, Option, Some, None, length, slice_index_or, slice_set}
use Rattle.gg_flat.specs.Line.{value_at}

-- the machines of a host, by thread; none past the end
abbrev pub group_at : List (List ℕ) → ℕ → List ℕ
group_at members h = slice_index_or members h []

-- thread t of host h is machine m
pub record IsMember (members : List (List ℕ)) (h t m : ℕ) : Type 0 where
  pub host : h < length members
  pub thread : t < length (group_at members h)
  pub is : value_at (group_at members h) t ≡ m

-- The first `count` machines by hosts: for each machine its host and its thread there, and for each host its machines by thread.
pub record AreGrouped (count : ℕ) (hosts threads : List ℕ) (members : List (List ℕ)) : Type 0 where
  pub host_count : length hosts ≡ count
  pub thread_count : length threads ≡ count
  pub at : (m : ℕ) → m < count → IsMember members (value_at hosts m) (value_at threads m) m
  pub known : (h t : ℕ) → t < length (group_at members h) → value_at (group_at members h) t < count
  pub back : (h t : ℕ) → t < length (group_at members h) → (value_at hosts (value_at (group_at members h) t) ≡ h) × (value_at threads (value_at (group_at members h) t) ≡ t)
  pub few : (h : ℕ) → length (group_at members h) ≤ count

-- each host has a machine
abbrev pub AllHaveSome : List (List ℕ) → Type 0
AllHaveSome members = (h : ℕ) → h < length members → 0 < length (group_at members h)

-- Two machines have one host exactly if they have one in the plan. `planned` has the plan's number of the host of each machine.
abbrev pub AreTogether : List ℕ → List ℕ → Type 0
AreTogether planned hosts = (m k : ℕ) → m < length planned → k < length planned → (value_at planned m ≡ value_at planned k) ↔ (value_at hosts m ≡ value_at hosts k)

-- a machine before machine m has host h
pub record HasEarlier (host_at : ℕ → ℕ) (h m : ℕ) : Type 0 where
  pub machine : ℕ
  pub earlier : machine < m
  pub host : host_at machine ≡ h

-- The hosts of the first `count` machines are numbered in the order of their first machines: each host with a smaller number than a machine's host
-- has an earlier machine.
abbrev pub FirstsAscend : (ℕ → ℕ) → ℕ → Type 0
FirstsAscend host_at count = (m h : ℕ) → m < count → h < host_at m → HasEarlier host_at h m

-- the machines of a plan by hosts
pub record AreGroups (planned hosts threads : List ℕ) (members : List (List ℕ)) : Type 0 where
  pub grouped : AreGrouped (length planned) hosts threads members
  pub some : AllHaveSome members
  pub together : AreTogether planned hosts
  pub ascend : FirstsAscend (value_at hosts) (length planned)

-- ---- machine by machine

-- the host that has this number in the plan; None if it has no machine yet
abbrev pub host_for : List (Option ℕ) → ℕ → Option ℕ
host_for numbers p = slice_index_or numbers p None

-- The hosts of the first `count` machines by their numbers in the plan. No host has two numbers.
pub record AreNumbered (planned : List ℕ) (count : ℕ) (numbers : List (Option ℕ)) (hosts : List ℕ) (total : ℕ) : Type 0 where
  pub each : (m : ℕ) → m < count → host_for numbers (value_at planned m) ≡ Some (value_at hosts m)
  pub known : (p h : ℕ) → host_for numbers p ≡ Some h → h < total
  pub once : (p q h : ℕ) → host_for numbers p ≡ Some h → host_for numbers q ≡ Some h → p ≡ q

-- the first `count` machines of a plan by hosts
pub record AreSoFar (planned : List ℕ) (count : ℕ) (numbers : List (Option ℕ)) (hosts threads : List ℕ) (members : List (List ℕ)) : Type 0 where
  pub grouped : AreGrouped count hosts threads members
  pub some : AllHaveSome members
  pub numbered : AreNumbered planned count numbers hosts (length members)
  pub ascend : FirstsAscend (value_at hosts) count
  pub size : length numbers ≡ length planned
  pub most : length members ≤ count

-- the host with number p in the plan has this number
pub record IsFound (p host : ℕ) (old new : List (Option ℕ)) (members grown : List (List ℕ)) : Type 0 where
  pub found : host_for old p ≡ Some host
  pub numbers : new ≡ old
  pub same : grown ≡ members

-- the host with number p in the plan had no number, and has the next now
pub record IsOpened (p host : ℕ) (old new : List (Option ℕ)) (members grown : List (List ℕ)) : Type 0 where
  pub none : host_for old p ≡ None
  pub next : host ≡ length members
  pub numbers : new ≡ slice_set old p (Some host)
  pub longer : grown ≡ members ++ [] ∷ []

-- the host with number p in the plan has this number now
abbrev pub IsHostFor : ℕ → ℕ → List (Option ℕ) → List (Option ℕ) → List (List ℕ) → List (List ℕ) → Type 0
IsHostFor p host old new members grown = IsFound p host old new members grown ⊎ IsOpened p host old new members grown
