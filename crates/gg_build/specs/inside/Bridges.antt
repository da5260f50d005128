-- The bridges that are handed in, by their names, while the machines of a plan take them.
-- Source: ICCAD 2019 (bridges: models in the host's own code, next to the units of a target).
use Rattle.std.specs.Prelude.{◌≡◌, ◌≢◌, ℕ, nat_eq, List, Option, Some, Contains, ⊤}
use Rattle.std.specs.Cmp.Lexicographic.{pointwise}
use Rattle.std.specs.HashMap.{HashMap, get}
use Rattle.std.specs.declared.hash.FoldHasher.{FoldHasher}
use Rattle.std.specs.declared.hash.BuildHasherDefault.{BuildHasherDefault}
use Rattle.gg_flat.specs.Circuit.{FlatCircuit}
use Rattle.gg_flat.specs.State.{State, opening}
use Rattle.gg_cut_plan.specs.declared.plan.Body.{Body}
use Rattle.gg_cut_plan.specs.declared.plan.Body.TheVariants.{Cut, Memory, Source, Tray, Bridge}
use Rattle.gg_cut_plan.specs.declared.plan.BridgeBody.{BridgeBody}

-- bridges by their names
abbrev pub Table : Type 0 → Type 0
Table B = HashMap (List ℕ) B (BuildHasherDefault FoldHasher)

-- the bridge with this name, if there is one
abbrev pub bridge_named : {B : Type 0} → Table B → List ℕ → Option B
bridge_named table name = get (pointwise nat_eq) table name

-- Each of these bridges is in the table, under its name.
abbrev pub TellsBridges : {B : Type 0} → List (List ℕ × B) → Table B → Type 0
TellsBridges {B} bridges table = (name : List ℕ) (bridge : B) → Contains bridges (name, bridge) → bridge_named table name ≡ Some bridge

-- The table has a bridge with this name, the model and the state of zeros.
pub record IsTold {B : Type 0} (piece : B → FlatCircuit) (state : B → State) (table : Table B) (body : BridgeBody) : Type 0 where
  pub bridge : B
  pub known : bridge_named table body.name ≡ Some bridge
  pub model : piece bridge ≡ body.model
  pub opens : state bridge ≡ opening body.model

-- The table has the machine's bridge, if it is the machine of a bridge.
abbrev pub HasOwn : {B : Type 0} → (B → FlatCircuit) → (B → State) → Table B → Body → Type 0
HasOwn piece state table (Cut part) = ⊤
HasOwn piece state table (Memory part) = ⊤
HasOwn piece state table (Source place) = ⊤
HasOwn piece state table Tray = ⊤
HasOwn piece state table (Bridge body) = IsTold piece state table body

-- This isn't the machine of the bridge with this name.
abbrev pub IsOther : Body → List ℕ → Type 0
IsOther (Cut part) name = ⊤
IsOther (Memory part) name = ⊤
IsOther (Source place) name = ⊤
IsOther Tray name = ⊤
IsOther (Bridge body) name = body.name ≢ name

-- All bridges except this machine's stay in the table.
abbrev pub KeepsOthers : {B : Type 0} → Body → Table B → Table B → Type 0
KeepsOthers body old new = (name : List ℕ) → IsOther body name → bridge_named new name ≡ bridge_named old name

-- If this is the machine of a bridge, both tables have the same bridge for it.
abbrev pub HasSame : {B : Type 0} → Table B → Table B → Body → Type 0
HasSame old new (Cut part) = ⊤
HasSame old new (Memory part) = ⊤
HasSame old new (Source place) = ⊤
HasSame old new Tray = ⊤
HasSame old new (Bridge body) = bridge_named new body.name ≡ bridge_named old body.name

-- These aren't the machines of two bridges with one name.
abbrev pub AreApart : Body → Body → Type 0
AreApart one other = (body : BridgeBody) → other ≡ Bridge body → IsOther one body.name
