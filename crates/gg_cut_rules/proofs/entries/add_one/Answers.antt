use Rattle.std.proofs.Common.{List, ℕ, Some, None, ap, sym, subst}
use Rattle.std.specs.Prelude.{Err, Contains, option_map, if◌then◌else◌}
use Rattle.gg_cut_plan.specs.declared.fault.CutFault.TheVariants.{Doubled}
use Rattle.gg_cut_plan.proofs.PathLemmas.{among-missing, among-contains}
use Rattle.gg_cut_plan.proofs.FindLemmas.{told-same}
use Rattle.gg_cut_rules.proofs.entries.add_one.Goals as goal

pub returns-in-Ok-clause-told : goal.returns-in-Ok-clause-told
returns-in-Ok-clause-told c =
    let fresh = subst (λ (path : List ℕ). ¬ Contains c.args.seen.now path) c.in_ok-copied.ensures.copy c.in-Ok.ensures.fresh in
    ap (λ b. option_map (λ path. Doubled path) (if b then Some c.args.path.now else None)) (among-missing c.args.seen.now c.args.path.now fresh)

pub returns-in-Err-Doubled-clause-told : goal.returns-in-Err-Doubled-clause-told
returns-in-Err-Doubled-clause-told c =
    let there = c.in-Err-Doubled.ensures.doubled.0 (ap Err c.in-Err-Doubled.field-0-is) in
    let stands = subst (λ (path : List ℕ). Contains c.args.seen.now path) c.in_ok-copied.ensures.copy there in
    told-same (Some (Doubled c.args.path.now)) _ c.doubled.result
    (sym (ap (λ b. option_map (λ path. Doubled path) (if b then Some c.args.path.now else None)) (among-contains c.args.seen.now c.args.path.now stands)))
    c.doubled.ensures
