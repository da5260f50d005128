-- Sites, signals and memories that are the same in two instances of one module, but for the front of their paths.
use Rattle.std.specs.Prelude.{◌≡◌, ◌⊎◌, ℕ, List, Option, Some, Contains}
use Rattle.gg_ast.specs.declared.statement.Reset.{Reset}
use Rattle.gg_ast.specs.Tree.{ModuleTree}
use Rattle.gg_flat.specs.declared.memory.Latency.{Latency}
use Rattle.gg_flat_tree.specs.Tree.{joined}
use Rattle.gg_elab_sites.specs.Sites.{Site, Outer, module_at}
use Rattle.gg_elab_sites.specs.Connection.{Connection}
use Rattle.gg_elab_sites.specs.Signals.{Types, Own, own_signals, FromOutside}
use Rattle.gg_elab_sites.specs.Flat.{Scope, scope_around, Drive, Gets, Holds, Answers, FlatSignal, FlatMemory, input_drive}
use Rattle.gg_part.specs.Moved.{IsMoved}

-- Two places where names are written: the same module, and each name stands for the same behind the two paths.
pub record AreLikeScopes (from to : List ℕ) (a b : Scope) : Type 0 where
  pub number : a.number ≡ b.number
  pub moved : (name : List ℕ) → IsMoved from to (joined a.path name) (joined b.path name)

-- What gives two signals their values is the same but for the front of its paths and the clocks of the circuit, except at the
-- input ports of the two instances, which are connected where the instances are held.
pub data AreLikeDrives (types : Types) (modules : List ModuleTree) (u v : Site) (path : List ℕ) (d e : Drive) : Type 0 where
  AtPort : (o : Own) → Contains (own_signals types u.number (module_at modules u.number)) o → o.cause ≡ FromOutside → path ≡ joined u.path o.name → d ≡ input_drive modules u.outer o.name → e ≡ input_drive modules v.outer o.name → AreLikeDrives types modules u v path d e
  Connected : (a b : Scope) (c : Option Connection) → AreLikeScopes u.path v.path a b → d ≡ Gets a c → e ≡ Gets b c → AreLikeDrives types modules u v path d e
  Kept : (a b : Scope) (reset : Option Reset) (next : Option Connection) (own clock clock' : Option ℕ) → AreLikeScopes u.path v.path a b → d ≡ Holds a reset next own clock → e ≡ Holds b reset next own clock' → AreLikeDrives types modules u v path d e
  Answered : (m n : List ℕ) (place : ℕ) (latency : Latency) (addr addr' en en' : List ℕ) → IsMoved u.path v.path m n → IsMoved u.path v.path addr addr' → IsMoved u.path v.path en en' → d ≡ Answers m place latency addr en → e ≡ Answers n place latency addr' en' → AreLikeDrives types modules u v path d e

pub record AreLikeSignals (types : Types) (modules : List ModuleTree) (u v : Site) (x y : FlatSignal) : Type 0 where
  pub path : IsMoved u.path v.path x.path y.path
  pub shape : x.shape ≡ y.shape
  pub drive : AreLikeDrives types modules u v x.path x.drive y.drive

pub record AreLikeMemories (u v : Site) (x y : FlatMemory) : Type 0 where
  pub path : IsMoved u.path v.path x.path y.path
  pub bank : x.bank ≡ y.bank
  pub own : (port : List ℕ) → x.own_clock port ≡ y.own_clock port

-- Two sites of the subtrees of u and v: they are u and v themselves, or are held by such sites under the same name.
pub record AreLikeSites (u v x y : Site) : Type 0 where
  pub number : x.number ≡ y.number
  pub moved : (name : List ℕ) → IsMoved u.path v.path (joined x.path name) (joined y.path name)
  pub outer : ((x ≡ u) × (y ≡ v)) ⊎ ((a : Outer) × (b : Outer) × (x.outer ≡ Some a) × (y.outer ≡ Some b) × (a.name ≡ b.name) × AreLikeScopes u.path v.path (scope_around a) (scope_around b))
