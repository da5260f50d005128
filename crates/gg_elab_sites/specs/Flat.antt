-- The signals and memories of a circuit: of the top and of every instance below it, by their paths.
-- Source: FIRRTL Specification, "Circuits and Modules", "Instances", "Memories", "Connects". An instance's input is connected in the module
-- that holds the instance, as i.p. Every other sink is connected in its own module.
use Rattle.std.specs.Prelude.{ℕ, List, Option, Some, None, map, flat_map, codes}
use Rattle.gg_bits.specs.Shape.{Shape}
use Rattle.gg_ast.specs.declared.statement.Reset.{Reset}
use Rattle.gg_ast.specs.Tree.{ModuleTree}
use Rattle.gg_flat.specs.declared.memory.Latency.{Latency}
use Rattle.gg_flat_tree.specs.Clocked.{clock_at}
use Rattle.gg_flat_tree.specs.Tree.{joined}
use Rattle.gg_elab_sites.specs.Sites.{Site, Outer, module_at}
use Rattle.gg_types.specs.Memories.{Bank}
use Rattle.gg_elab_sites.specs.Clocks.{clock_of, port_clock, site_clocks}
use Rattle.gg_elab_sites.specs.Signals.{Cause, FromOutside, Connected, Expressed, Kept, Answered, Own, Types, own_signals, OwnBank, own_banks, own_stops, dotted, field_name}
use Rattle.gg_elab_sites.specs.Connection.{Connection, ConnectedTo, connection_in}

-- where a name is written: the path before it, and the place of the module
pub record Scope : Type 0 where
  pub path : List ℕ
  pub number : ℕ

-- the scope of the module of a site
abbrev pub scope_at : Site → Scope
scope_at site = record { path = site.path; number = site.number }

-- the scope of the module that holds an instance
abbrev pub scope_around : Outer → Scope
scope_around outer = record { path = outer.path; number = outer.number }

-- The source of a signal's value in the circuit: the outside; its connection, with where that is written; the state of a register; or a
-- reader of a memory. Of a register it has the reset, the connection, the Clock input of its site that it follows, and the clock of the
-- circuit. Of a reader it has the memory's path, the reader's place, and the paths of its address and its enable.
pub data Drive : Type 0 where
  Outside : Drive
  Gets : Scope → Option Connection → Drive
  Holds : Scope → Option Reset → Option Connection → Option ℕ → Option ℕ → Drive
  Answers : List ℕ → ℕ → Latency → List ℕ → List ℕ → Drive

-- A signal of the circuit: its path from the top, its shape, and the source of its value.
pub record FlatSignal : Type 0 where
  pub path : List ℕ
  pub shape : Shape
  pub drive : Drive

-- the drive of an input port of this name, in the top and in an instance
abbrev pub input_drive : List ModuleTree → Option Outer → List ℕ → Drive
input_drive modules None name = Outside
input_drive modules (Some outer) name =
    Gets (scope_around outer) (connection_in (module_at modules outer.number).statements (dotted outer.name name))

-- the drive of the signal of this name at a site, by its cause in the module
abbrev pub drive_of : List ModuleTree → Site → List ℕ → Cause → Drive
drive_of modules site name FromOutside = input_drive modules site.outer name
drive_of modules site name Connected = Gets (scope_at site) (connection_in (module_at modules site.number).statements name)
drive_of modules site name (Expressed value) = Gets (scope_at site) (Some (ConnectedTo value))
drive_of modules site name (Kept clock reset) =
    Holds (scope_at site) reset (connection_in (module_at modules site.number).statements name)
    (clock_of (module_at modules site.number) clock) (clock_at (site_clocks modules site) (clock_of (module_at modules site.number) clock))
drive_of modules site name (Answered memory port place latency) =
    Answers (joined site.path memory) place latency (joined site.path (field_name memory port (codes "addr"))) (joined site.path (field_name memory port (codes "en")))

-- a module's own signal at one of the module's sites
abbrev pub flat_signal : List ModuleTree → Site → Own → FlatSignal
flat_signal modules site o =
    record { path = joined site.path o.name; shape = o.shape; drive = drive_of modules site o.name o.cause }

-- the signals of a site, in its module's order
abbrev pub signals_at : Types → List ModuleTree → Site → List FlatSignal
signals_at types modules site = map (flat_signal modules site) (own_signals types site.number (module_at modules site.number))

-- the signals of all sites, site by site
abbrev pub flat_signals : Types → List ModuleTree → List Site → List FlatSignal
flat_signals types modules all = flat_map (signals_at types modules) all

-- ---- memories

-- A memory of the circuit: its path, and what its fields say. For the name of a port it has the Clock input of its site
-- that the port follows, and the clock of the circuit.
pub record FlatMemory : Type 0 where
  pub path : List ℕ
  pub bank : Bank
  -- the Clock input of its site that the port of this name follows, if any
  pub own_clock : List ℕ → Option ℕ
  -- the clock of the circuit that the port of this name follows, if any
  pub clock : List ℕ → Option ℕ

-- a module's own memory at one of the module's sites
abbrev pub flat_memory : List ModuleTree → Site → OwnBank → FlatMemory
flat_memory modules site own =
    record {
      path = joined site.path own.name;
      bank = own.bank;
      own_clock = λ port. port_clock (module_at modules site.number) own.name port;
      clock = λ port. clock_at (site_clocks modules site) (port_clock (module_at modules site.number) own.name port);
    }

-- the memories of a site, in the order of the file
abbrev pub memories_at : List ModuleTree → Site → List FlatMemory
memories_at modules site = map (flat_memory modules site) (own_banks (module_at modules site.number).statements)

-- the memories of all sites, a site's before the memories of the sites below it, wherever its module declares them
abbrev pub flat_memories : List ModuleTree → List Site → List FlatMemory
flat_memories modules all = flat_map (memories_at modules) all

-- ---- stops

-- the paths of the stops of a site, in the order of the file
abbrev pub stop_paths_at : List ModuleTree → Site → List (List ℕ)
stop_paths_at modules site = map (λ stop. joined site.path stop.name) (own_stops (module_at modules site.number).statements)

-- the paths of the stops of all sites, a site's before the stops of the sites below it
abbrev pub stop_paths : List ModuleTree → List Site → List (List ℕ)
stop_paths modules all = flat_map (stop_paths_at modules) all
