use Rattle.std.proofs.Common.{ℕ, subst, arith}
use Rattle.gg_elab_sites.specs.Known.{types_of}
use Rattle.gg_elab_sites.specs.inside.Views.{IsDigest}
use Rattle.gg_elab_sites.proofs.DigestLemmas.{digests-more}
use Rattle.gg_elab_sites.proofs.digest.digests.Goals as goal

pub loop-body-preserved : goal.loop-body-preserved
loop-body-preserved c =
    digests-more (types_of c.args.typed.now.circuit) c.args.typed.now.circuit.modules c.loop-body.digests.items c.push_reserved.new.self.items c.in_ok-next.next c.loop-body.body-index c.loop-body.invariant.0 c.loop-body.invariant.1 (cc)
    (subst (λ (k : ℕ). IsDigest (types_of c.args.typed.now.circuit) c.args.typed.now.circuit.modules k c.in_ok-next.next) (omega arith) c.in_ok-next.ensures)
