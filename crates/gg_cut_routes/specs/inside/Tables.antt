-- Tables by signal. From them the routed channels are found in a few passes.
-- Source: this program's own way to find them.
use Rattle.std.specs.Prelude.{◌≡◌, ℕ, ◌<◌, ◌++◌, List, Bool, true, false, not, ◌&&◌, ◌||◌, ◌==◌, if◌then◌else◌, Option, Some, None, Contains, length, map, filter, flat_map, is_some, option_and_then, slice_index_or}
use Rattle.std.specs.List.{list_any}
use Rattle.std.specs.Option.{option_to_list}
use Rattle.gg_flat.specs.Circuit.{FlatCircuit, driver_at}
use Rattle.gg_flat_tree.specs.Scoped.{memory_fields}
use Rattle.gg_order.specs.Marks.{is_marked}
use Rattle.gg_cut_plan.specs.declared.wires.Wire.{Wire}
use Rattle.gg_cut_plan.specs.inside.Listed.{AreMarks}
use Rattle.gg_cut_plan.specs.inside.Machines.{Counts, silent_by}
use Rattle.gg_cut_plan.specs.Direct.{Hub, is_taken, is_own, driver_names, copied, origin}
use Rattle.gg_cut_routes.specs.declared.sides.Side.{Side}
use Rattle.gg_cut_routes.specs.declared.sides.Side.TheVariants.{Other, Own, Out, In}

-- ---- what a signal is to the hub

-- what a signal is to the hub by a table; past the table's end it is nothing to the hub
abbrev pub side_at : List Side → ℕ → Side
side_at sides s = slice_index_or sides s Other

-- what a signal is by a channel that carries it, and by what it was before
abbrev pub side_by : Wire → Side → Side
side_by w before = if w.consumer == 0 then In w.producer else (if w.producer == 0 then Out else before)

-- the hub is at an end of the channel, which carries signal s
abbrev pub ends_at_hub : ℕ → Wire → Bool
ends_at_hub s w = ((w.consumer == 0) || (w.producer == 0)) && (w.signal == s)

-- one of these channels carries signal s between these machines
pub record IsCarried (wires : List Wire) (s producer consumer : ℕ) : Type 0 where
  pub wire : Wire
  pub among : Contains wires wire
  pub is : wire.signal ≡ s
  pub from : wire.producer ≡ producer
  pub to : wire.consumer ≡ consumer

-- one of these channels carries signal s from the hub
pub record IsFromHub (wires : List Wire) (s : ℕ) : Type 0 where
  pub consumer : ℕ
  pub carried : IsCarried wires s 0 consumer

-- What signal s is to the hub, by these channels and the signals that the hub has.
abbrev pub IsSide : List Wire → List ℕ → ℕ → Side → Type 0
IsSide wires globals s Other = (list_any (λ t. s == t) globals ≡ false) × (list_any (ends_at_hub s) wires ≡ false)
IsSide wires globals s Own = (list_any (λ t. s == t) globals ≡ true) × (list_any (ends_at_hub s) wires ≡ false)
IsSide wires globals s Out = IsFromHub wires s
IsSide wires globals s (In producer) = IsCarried wires s producer 0

-- the table has what each signal is to the hub
abbrev pub AreSides : List Wire → List ℕ → List Side → Type 0
AreSides wires globals sides = (s : ℕ) → IsSide wires globals s (side_at sides s)

-- whether the hub takes a signal of this side
abbrev pub is_in : Side → Bool
is_in Other = false
is_in Own = false
is_in Out = false
is_in (In producer) = true

-- whether the hub makes a signal of this side, and no channel carries it
abbrev pub is_inner : Side → Bool
is_inner Other = false
is_inner Own = true
is_inner Out = false
is_inner (In producer) = false

-- whether the hub makes a signal of this side
abbrev pub is_makers : Side → Bool
is_makers Other = false
is_makers Own = true
is_makers Out = true
is_makers (In producer) = false

-- ---- tables of signals

-- an entry of a table that has a signal, or none, for each signal
abbrev pub entry_at : List (Option ℕ) → ℕ → Option ℕ
entry_at table s = slice_index_or table s None

-- what is in the table is a signal
abbrev pub AreKnown : ℕ → List (Option ℕ) → Type 0
AreKnown count table = (s x : ℕ) → entry_at table s ≡ Some x → x < count

-- ---- origins

-- the origin of what a signal is a copy of
abbrev pub origin_beyond : FlatCircuit → List (Option ℕ) → ℕ → Option ℕ
origin_beyond circuit origins s = option_and_then (entry_at origins) (copied circuit s)

-- the origin of a signal, from the origins of the signals before it; an in-channel that is barred is none
abbrev pub origin_by : Side → Bool → ℕ → Option ℕ → Option ℕ
origin_by Other barred s beyond = None
origin_by Own barred s beyond = beyond
origin_by Out barred s beyond = None
origin_by (In producer) barred s beyond = if barred then None else Some s

-- the table has the origin of each signal
pub record AreOrigins (hub : Hub) (origins : List (Option ℕ)) : Type 0 where
  pub each : (s : ℕ) → s < length hub.circuit.signals → entry_at origins s ≡ origin hub s

-- what the table of origins is filled from
pub record IsSeen (hub : Hub) (circuit : FlatCircuit) (sides : List Side) (marks : List Bool) : Type 0 where
  pub is : hub.circuit ≡ circuit
  pub taken : (s : ℕ) → is_taken hub s ≡ is_in (side_at sides s)
  pub own : (s : ℕ) → s < length circuit.signals → is_own hub s ≡ is_inner (side_at sides s)
  -- the marks are on the signals of piped channels
  pub barred : (s : ℕ) → hub.piped s ≡ is_marked marks s

-- ---- direct channels

-- in-channel x, if x is one and its producer is a source or a unit
abbrev pub given_by : Counts → ℕ → Side → Option ℕ
given_by counts x Other = None
given_by counts x Own = None
given_by counts x Out = None
given_by counts x (In producer) = if silent_by counts producer then None else Some x

-- an in-channel that a source or a unit gives
abbrev pub if_given : Counts → List Side → Option ℕ → Option ℕ
if_given counts sides None = None
if_given counts sides (Some x) = given_by counts x (side_at sides x)

-- The in-channel that is given in place of a channel, if the channel is direct. The marks are on what the hub names and on the
-- stops.
abbrev pub direct_by : FlatCircuit → Counts → List Side → List (Option ℕ) → List Bool → Bool → Wire → Option ℕ
direct_by circuit counts sides origins named direct w =
    if (direct && (w.producer == 0)) && not (is_marked named w.signal) then if_given counts sides (origin_beyond circuit origins w.signal) else None

-- the table has f w for the signal of each channel w, and none for the other signals
pub record AreEntries (f : Wire → Option ℕ) (wires : List Wire) (table : List (Option ℕ)) : Type 0 where
  pub each : (w : Wire) → Contains wires w → entry_at table w.signal ≡ f w
  pub rest : (s : ℕ) → list_any (λ w. w.signal == s) wires ≡ false → entry_at table s ≡ None

-- ---- what leaves

-- whether a signal that the hub makes is neither a copy nor direct
abbrev pub is_kept : Side → Option ℕ → Option ℕ → Bool
is_kept side origin direct = not (is_inner side && is_some origin) && not (is_some direct)

-- the origin is a direct channel's, and isn't needed
abbrev pub is_left : List Bool → List Bool → Option ℕ → Bool
is_left left needed None = false
is_left left needed (Some x) = is_marked left x && not (is_marked needed x)

-- The marks on what leaves, by the signals that the hub makes, by its memories and by the tables: some of them mark the origins of
-- direct channels, others the origins of all that is named by what is kept.
pub record AreGone (circuit : FlatCircuit) (sides : List Side) (made memories : List ℕ) (origins straight : List (Option ℕ)) (gone : List Bool) : Type 0 where
  pub left : List Bool
  pub needed : List Bool
  pub ends : AreMarks (flat_map (λ s. option_to_list (entry_at straight s)) made) left
  pub needs : AreMarks (flat_map (λ t. option_to_list (entry_at origins t)) (flat_map (λ s. driver_names circuit (driver_at circuit s)) (filter (λ s. is_kept (side_at sides s) (entry_at origins s) (entry_at straight s)) made) ++ flat_map (memory_fields circuit) memories)) needed
  pub is : gone ≡ map (is_left left needed) origins

-- ---- routed channels

-- the channel as it is given by in-channel x: from the producer of x to the channel's own consumer; unchanged if x is no in-channel
abbrev pub from_by : Wire → ℕ → Side → Wire
from_by w x Other = w
from_by w x Own = w
from_by w x Out = w
from_by w x (In producer) = record { signal = w.signal; given = x; producer = producer; consumer = w.consumer }

-- a channel with the in-channel that is given in its place, if there is one
abbrev pub routed_by : List Side → Wire → Option ℕ → Wire
routed_by sides w None = w
routed_by sides w (Some x) = from_by w x (side_at sides x)
