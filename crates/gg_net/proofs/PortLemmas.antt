-- A port for places where there is none.
use Rattle.std.specs.Prelude.{None}
use Rattle.gg_flat.specs.Served.{ByReader}
use Rattle.gg_node.specs.Machine.{Port}

-- some port
abbrev pub any_port : Port
any_port = record { number = 0; access = ByReader 0 (record { addr = 0; en = 0; word = 0; clock = None }) }
