use Rattle.std.proofs.Common.{◌≡◌, length, take, ◌∙◌, ap, arith}
use Rattle.std.specs.Prelude.{fold}
use Rattle.std.proofs.Math.Seq.{take-length}
use Rattle.gg_flat.specs.Served.{written}
use Rattle.gg_flat.proofs.WordLemmas.{written-all}
use Rattle.gg_order.proofs.runs.bank.write_words.Goals as goal

pub returns : goal.returns
returns c =
    let edges = c.args.edges.now in
    let signals = c.args.signals.now in
    let all : c.loop-w.w ≡ length c.args.writers.now = omega arith in
    c.loop-w.invariant
    ∙ ap (λ n. fold (written edges signals) c.args.words.now (take n c.args.writers.now)) all
    ∙ ap (fold (written edges signals) c.args.words.now) (take-length c.args.writers.now)
    ∙ written-all edges signals c.args.writers.now c.args.words.now
