-- More on ElabText: what no promise of the program reaches.
-- Source: this program's own, as the limits are.
use Rattle.std.specs.Prelude.{ℕ, List, codes}
use Rattle.gg_shape.specs.declared.fault.Fault.TheVariants.{OverLimit}
use Rattle.gg_shape.specs.FaultText.{fault_text}
use Rattle.gg_elab.specs.declared.fault.ElabFault.{ElabFault}
use Rattle.gg_elab.specs.declared.fault.ElabFault.TheVariants.{TooLarge, NoMemory}
use Rattle.gg_elab.specs.ElabText.{limit_of}

-- how a value of `ElabFault` is printed: as fault F15, or that memory has run out
abbrev pub elab_text : ElabFault → List ℕ
elab_text (TooLarge excess) = fault_text (OverLimit (limit_of excess.measure) excess.count)
elab_text NoMemory = codes "out of memory"
