-- What the registers and the ports of memories of a cut's machines follow.
-- Source: FIRRTL Specification, "Clock" types, "Instances" (which clock a Clock input follows is said where the instance stands). A unit
-- has its own Clock inputs, so two units of one module are one circuit, whatever clocks they are given.
use Rattle.std.specs.Prelude.{◌≡◌, ℕ, ◌<◌, ◌^◌, List, [], Bool, None, length, map, slice_index_or}
use Rattle.gg_flat.specs.declared.piece.Driver.TheVariants.{Held}
use Rattle.gg_flat.specs.Circuit.{FlatCircuit, driver_at}
use Rattle.gg_flat_tree.specs.Clocked.{top_clocks}
use Rattle.gg_part.specs.inside.Domains.{FollowsInside, ports_inside}
use Rattle.gg_order.specs.Design.{Ordered}
use Rattle.gg_order.specs.Marks.{is_marked}
use Rattle.gg_part.specs.declared.part.Clocking.{Clocking}
use Rattle.gg_part.specs.inside.Clocking.{clocks_of_ports}
use Rattle.gg_cut_plan.specs.declared.listed.Listed.{Listed}
use Rattle.gg_cut_split.specs.inside.Again.{AreHomes}
use Rattle.gg_cut_parts.specs.declared.domains.Domains.{Domains}

-- the clocks of the circuit that its registers and the ports of its memories follow
pub record AreWholeClocks (circuit : FlatCircuit) (clocking : Clocking) : Type 0 where
  pub registers : clocking.registers ≡ map (λ register. register.clock) circuit.registers
  pub ports : clocking.ports ≡ map (λ memory. clocks_of_ports memory) circuit.memories

-- The Clock inputs that the registers and the ports of memories follow inside of their unit, or, outside of all units, inside of the top.
pub record AreUnitClocks (design : Ordered) (listed : Listed) (clocking : Clocking) : Type 0 where
  pub marks : List Bool
  pub homes : AreHomes listed (is_marked marks)
  pub register : (s r : ℕ) → s < length design.circuit.signals → driver_at design.circuit s ≡ Held r → FollowsInside (is_marked marks) design.tree s r (slice_index_or clocking.registers r None)
  pub ports : (k : ℕ) → k < length design.tree.memories → slice_index_or clocking.ports k [] ≡ ports_inside (is_marked marks) design.tree k

-- the clocks that the machines of a cut have, and that their registers and ports follow
pub record AreDomains (design : Ordered) (listed : Listed) (domains : Domains) : Type 0 where
  pub whole : AreWholeClocks design.circuit domains.whole
  pub units : AreUnitClocks design listed domains.units
  pub count : length domains.clocks ≡ length design.tree.instances
  pub clocks : (k : ℕ) → k < length design.tree.instances → slice_index_or domains.clocks k [] ≡ top_clocks design.tree k
  pub few : (k : ℕ) → length (slice_index_or domains.clocks k []) < 2 ^ 32
