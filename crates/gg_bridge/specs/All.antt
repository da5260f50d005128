-- A circuit with the models of several bridges in it, one after the other.
-- Source: ICCAD 2019 (bridges: models in the host's own code that stand at a target's ports).
use Rattle.std.specs.Prelude.{◌++◌}
use Rattle.gg_flat.specs.State.{State}

-- the state of a circuit with a model: the circuit's registers and banks, followed by the model's
abbrev pub joined_state : State → State → State
joined_state state model = record { registers = state.registers ++ model.registers; banks = state.banks ++ model.banks }
