-- The machines of a plan that are trays, by their bodies.
-- Source: ICCAD 2019 (sinks at the outputs of a target).
use Rattle.std.specs.Prelude.{Bool, true, false}
use Rattle.gg_cut_plan.specs.declared.plan.Body.{Body}
use Rattle.gg_cut_plan.specs.declared.plan.Body.TheVariants.{Cut, Memory, Source, Tray, Bridge}
use Rattle.gg_cut_plan.specs.declared.plan.Machine.{Machine}

-- whether a machine with this body is neither a tray nor a bridge
abbrev pub body_is_inner : Body → Bool
body_is_inner (Cut part) = true
body_is_inner (Memory part) = true
body_is_inner (Source place) = true
body_is_inner Tray = false
body_is_inner (Bridge bridge) = false

-- whether a machine with this body is a tray
abbrev pub body_is_tray : Body → Bool
body_is_tray (Cut part) = false
body_is_tray (Memory part) = false
body_is_tray (Source place) = false
body_is_tray Tray = true
body_is_tray (Bridge bridge) = false

-- whether a machine is neither a tray nor a bridge
abbrev pub is_inner : Machine → Bool
is_inner machine = body_is_inner machine.body

-- whether a machine is a tray
abbrev pub is_tray : Machine → Bool
is_tray machine = body_is_tray machine.body
