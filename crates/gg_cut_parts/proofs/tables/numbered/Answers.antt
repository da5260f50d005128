use Rattle.std.proofs.Common.{◌≡◌, ◌∷◌, ◌++◌, [], ℕ, List, Option, Some, length, ap, ◌∙◌, arith}
use Rattle.gg_flat_tree.specs.Clocked.{clocks_from}
use Rattle.gg_cut_parts.proofs.TableLemmas.{clocks-length, clocks-push}
use Rattle.gg_cut_parts.proofs.tables.numbered.Goals as goal

pub loop-number-preserved : goal.loop-number-preserved
loop-number-preserved c =
    c.in_ok-push.ensures.items ∙ ap (λ l. l ++ Some c.loop-number.number ∷ []) c.loop-number.invariant ∙ clocks-push 0 c.loop-number.number c.loop-number.number (omega arith)

pub returns-clause-few : goal.returns-clause-few
returns-clause-few c =
    let whole = clocks-length 0 c.args.count in
    let items : c.from.result ≡ clocks_from 0 c.args.count = c.from.ensures ∙ c.loop-number.invariant ∙ ap (clocks_from 0) (let done : c.loop-number.number ≡ c.args.count = omega (arith, c.loop-number-test.false, c.loop-number.auto.number-end) in done) in
    omega (arith, ap (λ (l : List (Option ℕ)). length l) items, whole)
