-- What the host of a machine tells of a cycle.
use Rattle.std.proofs.Common.{◌≡◌, ℕ, List, [], ◌∷◌, zero, suc, None, map, get_or, sym, ap, ◌∙◌, subst, arith}
use Rattle.std.specs.Prelude.{Contains, Option, unwrap_or}
use Rattle.std.proofs.lemmas.List.{get_or-map, length-map}
use Rattle.gg_node.specs.Machine.{Behaviour, GivesColumn, KeepsLast, Machine, RunsPiece, kept_value, machine_at}
use Rattle.gg_node.specs.inside.Machine.{IsTray}
use Rattle.gg_fame5.specs.inside.Lane.{Laned, lane_machine}
use Rattle.gg_fame5.specs.inside.Shared.{Sharing}
use Rattle.gg_fame5.specs.inside.Shared as shared
use Rattle.gg_build.specs.inside.Node.{machine_of, machines_of}
use Rattle.gg_build.specs.declared.node.Node.{Node}
use Rattle.gg_build.specs.declared.node.Node.TheVariants as node
use Rattle.gg_rows.specs.inside.Rows.{told_by, told_value}

-- what is told, by what the machine is
told-by : (machine : Machine) (cycle : ℕ) (value : Option ℕ) → (IsTray machine.behaviour → value ≡ kept_value machine cycle) → (¬ IsTray machine.behaviour → value ≡ None)
    → unwrap_or value 0 ≡ told_value machine cycle
told-by machine cycle value tray other = by machine.behaviour tray other
  where
    by : (behaviour : Behaviour) → (IsTray behaviour → value ≡ kept_value machine cycle) → (¬ IsTray behaviour → value ≡ None) → unwrap_or value 0 ≡ told_by behaviour (kept_value machine cycle)
    by (RunsPiece piece) tray other = ap (λ (v : Option ℕ). unwrap_or v 0) (other (λ is. is))
    by (GivesColumn column) tray other = ap (λ (v : Option ℕ). unwrap_or v 0) (other (λ is. is))
    by (KeepsLast rows) tray other = ap (λ (v : Option ℕ). unwrap_or v 0) (tray tt)

-- a host of one machine
told-alone : (own machine : Machine) (cycle : ℕ) (value : Option ℕ) → Contains (own ∷ []) machine → (IsTray own.behaviour → value ≡ kept_value own cycle) → (¬ IsTray own.behaviour → value ≡ None)
    → unwrap_or value 0 ≡ told_value machine cycle
told-alone own machine cycle value (zero, lt, e) tray other = subst (λ (m : Machine). unwrap_or value 0 ≡ told_value m cycle) e (told-by own cycle value tray other)
told-alone own machine cycle value (suc k, lt, e) tray other = absurd (omega (arith, lt))

-- a host of units: none of its machines is a tray
told-shared : (unit : Sharing) (machine : Machine) (cycle : ℕ) (value : Option ℕ) → Contains (shared.machines_of unit) machine
    → (¬ IsTray (machine_at (shared.machines_of unit) 0).behaviour → value ≡ None) → unwrap_or value 0 ≡ told_value machine cycle
told-shared unit machine cycle value has other = by unit.lanes has other
  where
    by : (lanes : List Laned) → Contains (map (lane_machine unit.program) lanes) machine → (¬ IsTray (machine_at (map (lane_machine unit.program) lanes) 0).behaviour → value ≡ None) → unwrap_or value 0 ≡ told_value machine cycle
    by [] has other = absurd (omega (arith, has.1))
    by (lane ∷ lanes) has other =
        let inside = has.1 in
        let is : lane_machine unit.program (get_or (lane ∷ lanes) has.0 lane) ≡ machine =
        sym (get_or-map (lane_machine unit.program) (lane ∷ lanes) has.0 lane machine (omega (arith, inside, length-map lanes (lane_machine unit.program)))) ∙ has.2 in
        ap (λ (v : Option ℕ). unwrap_or v 0) (other (λ tray. tray)) ∙ ap (λ (m : Machine). told_value m cycle) is

-- a machine's host tells its value
pub host-tells : {B : Type 0} (host : Node B) (machine : Machine) (cycle : ℕ) (value : Option ℕ) → Contains (machines_of host) machine → (IsTray (machine_of host).behaviour → value ≡ kept_value (machine_of host) cycle)
    → (¬ IsTray (machine_of host).behaviour → value ≡ None) → unwrap_or value 0 ≡ told_value machine cycle
host-tells (node.Unit unit) machine cycle value has tray other = told-shared unit machine cycle value has other
host-tells (node.Shared units) machine cycle value has tray other = told-shared units machine cycle value has other
host-tells (node.Memory own) machine cycle value has tray other = told-alone own machine cycle value has tray other
host-tells (node.Source own) machine cycle value has tray other = told-alone own machine cycle value has tray other
host-tells (node.Tray own) machine cycle value has tray other = told-alone own machine cycle value has tray other
host-tells (node.Bridge own) machine cycle value has tray other = told-alone own.machine machine cycle value has tray other
