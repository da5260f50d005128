-- More on Limits: what no promise of the program reaches.
-- Source: this program's own; the counts and the limits are gg_elab_sites's.
use Rattle.std.specs.Prelude.{Option, Some, None}
use Rattle.gg_elab_sites.specs.declared.counts.Excess.{Excess}
use Rattle.gg_elab.specs.declared.fault.ElabFault.{ElabFault}
use Rattle.gg_elab.specs.declared.fault.ElabFault.TheVariants.{TooLarge, NoMemory}

-- the count above its limit that an error reports
abbrev pub excess_of : ElabFault → Option Excess
excess_of (TooLarge excess) = Some excess
excess_of NoMemory = None
