use Rattle.std.proofs.Common.{◌≡◌, ℕ, ◌<◌, length}
use Rattle.std.specs.Prelude.{slice_index_or}
use Rattle.gg_elab_sites.specs.declared.digest.Digest.{Digest}
use Rattle.gg_elab_sites.specs.Known.{types_of}
use Rattle.gg_elab_sites.specs.inside.Views.{IsDigest}
use Rattle.gg_elab_sites.proofs.digest.digests.Given as goal

abbrev pub invariant-loop-body : goal.invariant-loop-body
invariant-loop-body l = (length l.digests.items ≡ l.body-index) × ((k : ℕ) (any : Digest) → k < l.body-index → IsDigest (types_of l.typed.circuit) l.typed.circuit.modules k (slice_index_or l.digests.items k any))
