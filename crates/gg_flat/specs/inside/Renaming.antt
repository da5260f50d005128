-- More on Renaming: what no promise of the program reaches.
-- Source: FIRRTL Specification, "Instances": each instance of a module has all that the module declares, under names of its own.
use Rattle.gg_flat.specs.Renaming.{Renaming, signals_by}

-- the numbers as they are
abbrev pub same_numbers : Renaming
same_numbers = signals_by (λ s. s)

-- one renaming, and then the other
abbrev pub one_by_one : Renaming → Renaming → Renaming
one_by_one first second =
    record {
      signals = λ s. second.signals (first.signals s);
      registers = λ r. second.registers (first.registers r);
      memories = λ m. second.memories (first.memories m);
      clocks = λ clock. second.clocks (first.clocks clock);
    }
