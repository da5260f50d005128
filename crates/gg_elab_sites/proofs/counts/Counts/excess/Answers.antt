use Rattle.std.proofs.Common.{◌≡◌, ℕ, Bool, true, false, Option, Some, None, refl}
use Rattle.std.specs.Prelude.{nat_lt, if◌then◌else◌}
use Rattle.std.specs.Option.{option_or}
use Rattle.gg_elab_sites.specs.declared.counts.Measure.TheVariants.{Depth, Signals, Words, Instances}
use Rattle.gg_elab_sites.specs.Counts.{excess_of, memory_or}
use Rattle.gg_elab_sites.proofs.counts.Counts.excess.Goals as goal

-- the first excess of the five, by which of the counts are above their limits
by-cases : (depth signals words instances : ℕ) (memory : Option ℕ) (d s w i : Bool) →
    option_or (option_or (option_or (option_or (if d then excess_of Depth depth else None) (if s then excess_of Signals signals else None)) (memory_or memory None)) (if w then excess_of Words words else None)) (if i then excess_of Instances instances else None)
    ≡ (if d then excess_of Depth depth else (if s then excess_of Signals signals else memory_or memory (if w then excess_of Words words else (if i then excess_of Instances instances else None))))
by-cases depth signals words instances memory true s w i = refl
by-cases depth signals words instances memory false true w i = refl
by-cases depth signals words instances (Some m) false false w i = refl
by-cases depth signals words instances None false false true i = refl
by-cases depth signals words instances None false false false true = refl
by-cases depth signals words instances None false false false false = refl

pub returns : goal.returns
returns c =
    let counts = c.args.self.now in
    let first = by-cases counts.depth counts.signals counts.words counts.instances counts.memory (nat_lt 32 counts.depth) (nat_lt 200000 counts.signals) (nat_lt 1048576 counts.words) (nat_lt 1000000 counts.instances) in
    cc
