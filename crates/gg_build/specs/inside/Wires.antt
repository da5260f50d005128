-- The places of channels in the lists of their machines.
-- Source: MEMOCODE 2009 (nodes with inputs and outputs, connected by queues).
use Rattle.std.specs.Prelude.{◌≡◌, ℕ, ◌^◌, ◌<◌, ◌≤◌, List, [], length, All, Contains, slice_index_or}
use Rattle.gg_flat.specs.Line.{value_at}
use Rattle.gg_cut_plan.specs.declared.plan.Channel.{Channel}
use Rattle.gg_net.specs.declared.shape.Wire.{Wire}
use Rattle.gg_net.specs.Network.{wire_at}
use Rattle.gg_build.specs.plan.Built.{first_token}

-- channel c is at place p of the list of a machine
pub record IsPlaceAt (channels : List ℕ) (c p : ℕ) : Type 0 where
  pub known : p < length channels
  pub is : value_at channels p ≡ c

-- The places of a list's channels are written: for each of them a place that it has in the list. The places of other channels stay as they were.
pub record IsNoted (channels old new : List ℕ) : Type 0 where
  pub count : length new ≡ length old
  pub placed : (c : ℕ) → Contains channels c → IsPlaceAt channels c (value_at new c)
  pub others : (c : ℕ) → ¬ Contains channels c → value_at new c ≡ value_at old c

-- the list at a place; an empty one past the end
abbrev pub channels_at : List (List ℕ) → ℕ → List ℕ
channels_at lists m = slice_index_or lists m []

-- channel c is at place p of the list of some machine
pub record IsPlace (lists : List (List ℕ)) (c p : ℕ) : Type 0 where
  pub at_machine : ℕ
  pub there : at_machine < length lists
  pub place : IsPlaceAt (channels_at lists at_machine) c p

-- Each of `count` channels is in the list of a machine, and no other channel is. Numbers of 32 bits suffice for the
-- places in a list.
pub record AreListed (lists : List (List ℕ)) (count : ℕ) : Type 0 where
  pub few : (m : ℕ) → m < length lists → length (channels_at lists m) ≤ 2 ^ 32
  pub known : (m : ℕ) → m < length lists → All (λ c. c < count) (channels_at lists m)
  pub listed : (c : ℕ) → c < count → (m : ℕ) × (m < length lists) × Contains (channels_at lists m) c

-- for each of `count` channels a place that it has in the list of some machine
pub record ArePlaces (lists : List (List ℕ)) (count : ℕ) (places : List ℕ) : Type 0 where
  pub total : length places ≡ count
  pub each : (c : ℕ) → c < count → IsPlace lists c (value_at places c)

-- The network's channels for the first `count` channels of the plan, at these places. A piped channel opens with its token, any other
-- without one.
pub record AreWires (channels : List Channel) (outs ins tokens : List ℕ) (count : ℕ) (wires : List Wire) : Type 0 where
  pub total : length wires ≡ count
  pub each : (c : ℕ) (any : Channel) → c < count → wire_at wires c ≡ record { producer = (slice_index_or channels c any).producer; out = value_at outs c; consumer = (slice_index_or channels c any).consumer; place = value_at ins c; capacity = (slice_index_or channels c any).capacity; first = first_token (slice_index_or channels c any).pipe (value_at tokens c) }
