-- When an event may be done, by counts: what confluence is proved with. No clause speaks of it; `FreeLemmas` has that it
-- is what the table says of the marking.
use Rattle.std.specs.Prelude.{◌≡◌, ℕ, suc, ◌+◌, ◌*◌, ◌<◌, Some, All, length, slice_get}
use Rattle.gg_net.specs.declared.event.Event.{Event}
use Rattle.gg_net.specs.declared.event.Event.TheVariants.{Latch, Fire, Serve, Finish}
use Rattle.gg_net.specs.Refusal.{Turn}
use Rattle.gg_net.specs.markings.Marking.{Layout, link_at, turns_at}
use Rattle.gg_net.specs.inside.Counts.{Counts, early, WasTaken, HasGiven}
use Rattle.gg_net.specs.markings.Counts.{dues}

-- A token of channel c may be taken: the channel exists, its consumer has cycles left and hasn't taken the token of this cycle, and the
-- queue holds one.
pub record FreeLatch (layout : Layout) (counts : Counts) (c : ℕ) : Type 0 where
  pub known : c < length layout.links
  pub below : counts.cycles (link_at layout c).consumer < layout.end
  pub clear : counts.takes c ≡ counts.cycles (link_at layout c).consumer
  pub held : counts.takes c < counts.puts c + early layout c

-- A token of channel c may be given: the channel exists, its producer has cycles left, hasn't given the token of this cycle and has taken
-- those that the channel needs, and the queue has room.
pub record FreeFire (layout : Layout) (counts : Counts) (c : ℕ) : Type 0 where
  pub known : c < length layout.links
  pub below : counts.cycles (link_at layout c).producer < layout.end
  pub clear : counts.puts c ≡ counts.cycles (link_at layout c).producer
  pub needed : All (WasTaken counts (counts.cycles (link_at layout c).producer)) (link_at layout c).needs
  pub room : counts.puts c + early layout c < counts.takes c + (link_at layout c).capacity

-- Port p of machine m may be served: the machine exists, has cycles left and has given all tokens of this cycle, the port is due, and the
-- tokens of its fields were taken.
pub record FreeServe (layout : Layout) (counts : Counts) (m p : ℕ) : Type 0 where
  pub known : m < length layout.turns
  pub below : counts.cycles m < layout.end
  pub given : HasGiven layout counts m (counts.cycles m)
  -- how many ports were served in this cycle
  pub served : ℕ
  pub count : counts.serves m ≡ dues layout m * counts.cycles m + served
  pub turn : Turn
  pub due : slice_get (turns_at layout m) served ≡ Some turn
  pub number : turn.number ≡ p
  pub fields : All (WasTaken counts (counts.cycles m)) turn.fields

-- Machine m may finish its cycle: it exists, has cycles left, has given all its tokens of this cycle, served all ports that are due in it,
-- and taken all its tokens.
pub record FreeFinish (layout : Layout) (counts : Counts) (m : ℕ) : Type 0 where
  pub known : m < length layout.turns
  pub below : counts.cycles m < layout.end
  pub given : HasGiven layout counts m (counts.cycles m)
  pub served : counts.serves m ≡ dues layout m * counts.cycles m + dues layout m
  pub taken : (c : ℕ) → c < length layout.links → (link_at layout c).consumer ≡ m → counts.takes c ≡ suc (counts.cycles m)

-- all conditions of an event hold
abbrev pub Free : Layout → Counts → Event → Type 0
Free layout counts (Latch c) = FreeLatch layout counts c
Free layout counts (Fire c) = FreeFire layout counts c
Free layout counts (Serve m p) = FreeServe layout counts m p
Free layout counts (Finish m) = FreeFinish layout counts m
