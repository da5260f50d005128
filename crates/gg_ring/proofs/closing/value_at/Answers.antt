use Rattle.std.proofs.Common.{refl}
use Rattle.gg_ring.proofs.HalfLemmas.{read_of}
use Rattle.gg_ring.proofs.closing.value_at.Goals as goal

pub returns : goal.returns
returns c = rw (c.joined.ensures, read_of _ _ _ c.word-low.ensures, read_of _ _ _ c.word-high.ensures) refl
