-- The text of a fault of the elaboration.
-- Source: this program's own, as the limits are.
use Rattle.gg_elab_sites.specs.declared.counts.Measure.{Measure}
use Rattle.gg_elab_sites.specs.declared.counts.Measure.TheVariants as measures
use Rattle.gg_shape.specs.declared.fault.Limit.{Limit}
use Rattle.gg_shape.specs.declared.fault.Limit.TheVariants as limits

-- the limit for a count of this measure
abbrev pub limit_of : Measure → Limit
limit_of measures.Depth = limits.Depth
limit_of measures.Signals = limits.Signals
limit_of measures.Memory = limits.Memory
limit_of measures.Words = limits.Words
limit_of measures.Instances = limits.Instances
