-- The circuit of a demo: a row of stages. Each stage has a register. It gives the exclusive or of its input and the
-- register to the next stage, and adds its input to the register.
-- Source: this program's own. A line is as lowered FIRRTL spells it.
use Rattle.std.specs.Prelude.{ℕ, ◌-◌, List, ◌++◌, codes, decimal, flat_map}
use Rattle.std.specs.List.{range_with_len}

-- the name of the stage with this number
abbrev pub stage : ℕ → List ℕ
stage i = codes "s" ++ decimal i

-- the first line, and the module of a stage
abbrev pub stage_module : List ℕ
stage_module = codes "circuit Demo :\nmodule Stage :\ninput clock : Clock\ninput a : UInt<32>\noutput p : UInt<32>\noutput q : UInt<32>\n"
    ++ codes "reg r : UInt<32>, clock\np <= xor(a, r)\nq <= r\nr <= bits(add(a, r), 31, 0)\n"

-- the front of the top module: its ports
abbrev pub top_ports : List ℕ
top_ports = codes "module Demo :\ninput clock : Clock\ninput x : UInt<32>\noutput y : UInt<32>\noutput z : UInt<32>\n"

-- the line that makes a stage
abbrev pub instance_line : ℕ → List ℕ
instance_line i = codes "inst " ++ (stage i ++ codes " of Stage\n")

-- the line that gives the stage with this number the circuit's clock
abbrev pub clock_line : ℕ → List ℕ
clock_line i = stage i ++ codes ".clock <= clock\n"

-- the line that connects the stage with this number to the stage before it
abbrev pub link_line : ℕ → List ℕ
link_line i = stage i ++ (codes ".a <= " ++ (stage (i - 1) ++ codes ".p\n"))

-- the lines of the outputs, which the last stage gives
abbrev pub output_lines : ℕ → List ℕ
output_lines last = codes "y <= " ++ (stage last ++ (codes ".p\nz <= " ++ (stage last ++ codes ".q\n")))

-- The text of the circuit with this many stages, at least one.
abbrev pub demo_circuit : (size : ℕ) → List ℕ
demo_circuit size = stage_module ++ top_ports
    ++ flat_map instance_line (range_with_len 0 size)
    ++ flat_map clock_line (range_with_len 0 size)
    ++ codes "s0.a <= x\n"
    ++ flat_map link_line (range_with_len 1 (size - 1))
    ++ output_lines (size - 1)
