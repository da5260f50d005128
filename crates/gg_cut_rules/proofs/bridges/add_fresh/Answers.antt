use Rattle.std.proofs.Common.{List, ℕ, ap, sym, subst}
use Rattle.std.specs.Prelude.{Err, Contains, not}
use Rattle.gg_cut_plan.proofs.PathLemmas.{among-missing, among-contains}
use Rattle.gg_cut_rules.proofs.bridges.add_fresh.Goals as goal

pub returns-in-Ok-clause-fresh : goal.returns-in-Ok-clause-fresh
returns-in-Ok-clause-fresh c =
    let fresh = subst (λ (path : List ℕ). ¬ Contains c.args.names.now path) c.in_ok-copied.ensures.copy c.in-Ok.ensures.fresh in
    sym (ap not (among-missing c.args.names.now c.args.name.now fresh))

pub returns-in-Err-Doubled-clause-fresh : goal.returns-in-Err-Doubled-clause-fresh
returns-in-Err-Doubled-clause-fresh c =
    let there = c.in-Err-Doubled.ensures.doubled.0 (ap Err c.in-Err-Doubled.field-0-is) in
    let stands = subst (λ (path : List ℕ). Contains c.args.names.now path) c.in_ok-copied.ensures.copy there in
    sym (ap not (among-contains c.args.names.now c.args.name.now stands))
