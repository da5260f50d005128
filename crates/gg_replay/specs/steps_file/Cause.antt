-- The text of the cause of a refused step.
-- Source: this program's own form. It is the cause's name, followed by what the cause is about, each after a space,
-- with the names of a steps file.
use Rattle.std.specs.Prelude.{ℕ, List, [], ◌∷◌, ◌++◌, Option, Some, None, codes, decimal, slice_get}
use Rattle.gg_net.specs.declared.event.Event.{Event}
use Rattle.gg_net.specs.declared.event.Event.TheVariants.{Latch, Fire, Serve, Finish}
use Rattle.gg_net.specs.declared.event.StepRefusal.{StepRefusal}
use Rattle.gg_net.specs.declared.event.StepRefusal.TheVariants.{Stranger, Ended, Latched, Fired, NoToken, NeedsInput, Full, Order, Unfired, Unserved}
use Rattle.gg_replay.specs.steps_file.Naming.{Naming, name_at, ports_at}

-- the names of the ports of the machine that a step names; none if it names no machine
abbrev pub step_ports : Naming → Option Event → List (List ℕ)
step_ports naming None = []
step_ports naming (Some (Latch channel)) = []
step_ports naming (Some (Fire channel)) = []
step_ports naming (Some (Serve machine port)) = ports_at naming machine
step_ports naming (Some (Finish machine)) = ports_at naming machine

-- the name of the port that is due; `-` if no port has the number, which means that no port is due
abbrev pub due_name : Option (List ℕ) → List ℕ
due_name None = codes "-"
due_name (Some name) = name

-- The text of a cause. Ports are ports of the machine that the step names.
abbrev pub cause_text : Naming → Option Event → StepRefusal → List ℕ
cause_text naming step Stranger = codes "Stranger"
cause_text naming step Ended = codes "Ended"
cause_text naming step Latched = codes "Latched"
cause_text naming step Fired = codes "Fired"
cause_text naming step (NoToken channel) = codes "NoToken " ++ name_at naming.channels channel
cause_text naming step (NeedsInput channel) = codes "NeedsInput " ++ name_at naming.channels channel
cause_text naming step (Full channel len) = codes "Full " ++ name_at naming.channels channel ++ 32 ∷ decimal len
cause_text naming step (Order due) = codes "Order " ++ due_name (slice_get (step_ports naming step) due)
cause_text naming step (Unfired channel) = codes "Unfired " ++ name_at naming.channels channel
cause_text naming step (Unserved port) = codes "Unserved " ++ name_at (step_ports naming step) port
