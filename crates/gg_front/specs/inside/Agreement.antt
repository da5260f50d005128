-- How far a text settles which fault is reported. The fault of reading is the only one. The first fault of a circuit is the only one too,
-- except that any ring of modules and any combinational loop may be reported.
-- Source: this program's own. The FIRRTL Specification says which circuits are wrong, and doesn't say which fault is reported first.
use Rattle.std.specs.Prelude.{◌≡◌, ◌⊎◌, ℕ, List, ⊤}
use Rattle.gg_shape.specs.declared.fault.Fault.{Fault}
use Rattle.gg_shape.specs.declared.fault.Fault.TheVariants.{ModuleRing, Loop}
use Rattle.gg_front.specs.declared.fault.FrontFault.{FrontFault}
use Rattle.gg_front.specs.declared.fault.FrontFault.TheVariants as front

-- both are rings of modules
pub record AreRings (one other : Fault) : Type 0 where
  pub modules : List (List ℕ)
  pub others : List (List ℕ)
  pub one_is : one ≡ ModuleRing modules
  pub other_is : other ≡ ModuleRing others

-- both are combinational loops
pub record AreLoops (one other : Fault) : Type 0 where
  pub paths : List (List ℕ)
  pub others : List (List ℕ)
  pub one_is : one ≡ Loop paths
  pub other_is : other ≡ Loop others

-- the same fault, or two rings, or two loops
abbrev pub AreAlike : Fault → Fault → Type 0
AreAlike one other = (one ≡ other) ⊎ (AreRings one other ⊎ AreLoops one other)

-- `NoMemory` agrees with every fault; a fault of reading agrees only with itself
abbrev pub Agree : FrontFault → FrontFault → Type 0
Agree (front.Read one) (front.Read other) = one ≡ other
Agree (front.Read one) (front.Fault other) = ⊥
Agree (front.Read one) front.NoMemory = ⊤
Agree (front.Fault one) (front.Read other) = ⊥
Agree (front.Fault one) (front.Fault other) = AreAlike one other
Agree (front.Fault one) front.NoMemory = ⊤
Agree front.NoMemory other = ⊤
