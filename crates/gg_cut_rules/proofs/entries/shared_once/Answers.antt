use Rattle.std.proofs.Common.{◌≡◌, ◌++◌, List, ℕ, None, subst}
use Rattle.std.specs.Prelude.{option_map}
use Rattle.gg_cut_plan.specs.declared.fault.CutFault.TheVariants.{Doubled}
use Rattle.gg_cut_plan.specs.Fault.{IsTold, first_clash, same_path}
use Rattle.gg_cut_plan.proofs.FindLemmas.{SeenGroups-more, clash-stop}
use Rattle.gg_cut_rules.proofs.entries.shared_once.Goals as goal

pub returns-in-Err : goal.returns-in-Err
returns-in-Err c =
    let told = subst (λ (group : List (List ℕ)). IsTold (option_map (λ path. Doubled path) (first_clash same_path c.loop-group.seen group)) c.in-Err.cause) c.as_slice.ensures c.in-Err.ensures.told in
    clash-stop c.args.share.now c.loop-group.group-index c.group-item.result c.loop-group.seen c.in-Err.cause c.loop-group-test.true c.group-item.is c.loop-group.invariant.clash told

pub loop-group-preserved : goal.loop-group-preserved
loop-group-preserved c =
    let none = subst (λ (group : List (List ℕ)). option_map (λ path. Doubled path) (first_clash same_path c.loop-group.seen group) ≡ None) c.as_slice.ensures c.in-Ok.ensures.told in
    let added = subst (λ (group : List (List ℕ)). c.add_all.new.seen ≡ c.loop-group.seen ++ group) c.as_slice.ensures c.in-Ok.ensures.added in
    SeenGroups-more c.args.share.now c.loop-group.group-index c.group-item.result c.loop-group.seen c.add_all.new.seen c.loop-group-test.true c.group-item.is c.loop-group.invariant none added
