-- What the program keeps of a module, as a contract sees it.
use Rattle.std.specs.Prelude.{◌≡◌, ℕ, List, Option, Some, None, map, option_map, slice_get, slice_index_or, length, ◌<◌, ◌^◌, IfSome}
use Rattle.gg_bits.specs.Shape.{shape}
use Rattle.gg_ast.specs.declared.statement.Stmt.{Stmt}
use Rattle.gg_ast.specs.Places.{place_of}
use Rattle.gg_ast.specs.Tree.{ModuleTree}
use Rattle.gg_elab_sites.specs.Sites as count
use Rattle.gg_elab_sites.specs.declared.connections.Source.{Source}
use Rattle.gg_elab_sites.specs.declared.connections.Source.TheVariants.{Of, Zero}
use Rattle.gg_elab_sites.specs.declared.digest.Digest.{Digest}
use Rattle.gg_elab_sites.specs.declared.digest.Instance.{Instance}
use Rattle.gg_elab_sites.specs.declared.digest.OwnMemory.{OwnMemory}
use Rattle.gg_elab_sites.specs.declared.own.Origin.{Origin}
use Rattle.gg_elab_sites.specs.declared.own.Origin.TheVariants as origin
use Rattle.gg_elab_sites.specs.declared.own.OwnSignal.{OwnSignal}
use Rattle.gg_elab_sites.specs.declared.sites.Above.{Above}
use Rattle.gg_elab_sites.specs.declared.sites.Around.{Around}
use Rattle.gg_elab_sites.specs.declared.sites.Place.{Place}
use Rattle.gg_elab_sites.specs.declared.sites.Step as kept_step
use Rattle.gg_elab_sites.specs.declared.stops.OwnStop as kept_stop
use Rattle.gg_elab_sites.specs.declared.table.Table.{Table}
use Rattle.gg_elab_sites.specs.Clocks.{own_clocks, site_clocks}
use Rattle.gg_types.specs.inside.Memories.{bank_seen}
use Rattle.gg_elab_sites.specs.Signals.{Cause, FromOutside, Connected, Expressed, Kept, Answered, Own, Types, own_signals, OwnBank, own_banks, OwnStop, own_stops}
use Rattle.gg_elab_sites.specs.Connection.{Connection, ConnectedTo, Zeroed, connection_in}
use Rattle.gg_elab_sites.specs.Meaning.{Signals, Bindings}

-- ---- signals

-- the source of a signal's value, as it is kept
abbrev pub cause_of : Origin → Cause
cause_of origin.FromOutside = FromOutside
cause_of origin.Connected = Connected
cause_of (origin.Expressed value) = Expressed value.now
cause_of (origin.Kept clock None) = Kept clock.now None
cause_of (origin.Kept clock (Some reset)) = Kept clock.now (Some reset.now)
cause_of (origin.Answered memory port place latency) = Answered memory.now port.now place latency

-- a signal of a module, as it is kept
abbrev pub own_of : OwnSignal → Own
own_of signal = record { name = signal.name; shape = shape signal.ty; cause = cause_of signal.origin }

-- ---- memories

-- a memory of a module, as it is kept
abbrev pub own_bank_of : OwnMemory → OwnBank
own_bank_of memory = record { name = memory.name.now; bank = bank_seen memory.bank }

-- ---- stops

-- a stop of a module, as it is kept
abbrev pub own_stop_of : kept_stop.OwnStop → OwnStop
own_stop_of stop = record { name = stop.name; asked = record { clock = stop.clock.now; condition = stop.condition.now } }

-- ---- instances and sites

-- an instance that a module holds, as it is kept
abbrev pub held_of : Instance → count.Held
held_of instance = record { name = instance.name.now; number = instance.number }

-- the site that holds an instance, as it is kept; none for the top
abbrev pub outer_of : Option Around → Option count.Outer
outer_of None = None
outer_of (Some around) = Some (record { path = around.path; number = around.number; name = around.name.now })

-- a step from an instance to the site that holds it, as it is kept
abbrev pub step_of : kept_step.Step → count.Step
step_of step = record { number = step.number; name = step.name.now }

-- a site, as it is kept
abbrev pub site_of : Place → count.Site
site_of place = record { path = place.path; number = place.number; depth = place.depth; outer = outer_of place.outer; steps = map step_of place.steps.items }

-- the data of a site for the instances that it holds
pub record IsAbove (place : Place) (above : Above) : Type 0 where
  pub path : above.path ≡ place.path
  pub number : above.number ≡ place.number
  pub depth : above.depth ≡ place.depth
  pub steps : map step_of above.steps.items ≡ map step_of place.steps.items
  pub clocks : above.clocks.items ≡ place.clocks.items

-- The modules of a site and of what holds it are among these modules. The Clock inputs and the clocks that are kept are the site's.
pub record IsPlaceIn (modules : List ModuleTree) (place : Place) : Type 0 where
  pub own : place.number < length modules
  pub around : IfSome place.outer (λ a. a.number < length modules)
  pub followed : place.own_clocks.items ≡ own_clocks modules (site_of place)
  pub led : place.clocks.items ≡ site_clocks modules (site_of place)

-- ---- connections

-- what a sink is connected to, as it is kept
abbrev pub connection : Source → Connection
connection (Of e) = ConnectedTo e.now
connection Zero = Zeroed

-- `connection` for a sink that may have no connection
abbrev pub seen : Option Source → Option Connection
seen None = None
seen (Some source) = Some (connection source)

-- the connection at a place of a list, if there is one
abbrev pub source_at : List Source → Option ℕ → Option Connection
source_at sources None = None
source_at sources (Some place) = option_map connection (slice_get sources place)

-- The table has what each sink is connected to by these statements.
abbrev pub TellsConnections : List Stmt → List (List ℕ) → List Source → Type 0
TellsConnections statements names sources = (name : List ℕ) → source_at sources (place_of name names) ≡ connection_in statements name

-- ---- modules

-- What is kept of the module at a place: its signals, the instances that it holds, its memories, its stops, fewer than 2^32, and its
-- connections.
pub record IsDigest (types : Types) (modules : List ModuleTree) (k : ℕ) (digest : Digest) : Type 0 where
  pub signals : map own_of digest.signals.items ≡ own_signals types k (count.module_at modules k)
  pub instances : map held_of digest.instances.items ≡ count.held_at modules k
  pub memories : map own_bank_of digest.memories.items ≡ own_banks (count.module_at modules k).statements
  pub stops : map own_stop_of digest.stops.items ≡ own_stops (count.module_at modules k).statements
  pub few : length digest.stops.items < 2 ^ 32
  pub connections : TellsConnections (count.module_at modules k).statements digest.sinks.names digest.sinks.sources.items
  pub sources : length digest.sinks.sources.items ≡ length digest.sinks.names

-- `IsDigest` for each module
pub record AreDigests (types : Types) (modules : List ModuleTree) (digests : List Digest) : Type 0 where
  pub count : length digests ≡ length modules
  pub each : (k : ℕ) (any : Digest) → k < length modules → IsDigest types modules k (slice_index_or digests k any)

-- ---- the table

-- the paths and the shapes of the signals in the program's table
abbrev pub table_signals : Table → Signals
table_signals table = record { paths = table.paths; shapes = map (λ t. shape t) table.types.items }

-- the meaning of names by the program's table, with these types from the checks
abbrev pub table_bindings : Types → Table → Bindings
table_bindings types table = record { types = types; signals = table_signals table; memories = table.memories }
