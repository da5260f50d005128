use Rattle.std.proofs.Common.{◌≡◌, drop}
use Rattle.gg_elab_sites.specs.Counts.{depth_of_fields}
use Rattle.gg_elab_sites.proofs.counts.depth_of.Given as goal

-- the fields that are left give the depth that all of them give
abbrev pub invariant-loop-field : goal.invariant-loop-field
invariant-loop-field l = depth_of_fields l.fields ≡ depth_of_fields (drop l.field-index l.fields)
