use Rattle.std.proofs.Common.{◌≡◌, ◌∙◌, ℕ, [], List, sym, ap, subst, ⊎_elim, get_or, ◌<◌, ◌≤◌, arith}
use Rattle.std.proofs.lemmas.Bool.{cases_lt}
use Rattle.std.proofs.lemmas.List.{get_or_default}
use Rattle.gg_cut_plan.specs.declared.plan.Machine.{Machine}
use Rattle.gg_cut_plan.specs.Plan.{wire_at}
use Rattle.gg_cut.specs.inside.Made.{AreGiven}
use Rattle.gg_cut.proofs.needs.needs_table.Goals as goal

pub loop-number-preserved : goal.loop-number-preserved
loop-number-preserved c =
    let wires = c.args.wires.now in
    let machines = c.args.machines.now in
    let n = c.loop-number.number in
    let told = c.in_ok-tell_machine.ensures in
    let was = c.loop-number.invariant in
    let machine = c.index-machines-number.result in
    let old = c.loop-number.table.items in
    let new = c.tell_machine.new.table.items in (
      told.count ∙ was.0,
      λ k any lt below. ⊎_elim
          (λ (less : (wire_at wires k).producer < n).
          subst (λ (l : List ℕ). AreGiven (get_or machines (wire_at wires k).producer any) (wire_at wires k) l) (sym (told.others k lt (λ same. absurd (omega (arith, less, same))))) (was.1 k any lt less))
          (λ (le : n ≤ (wire_at wires k).producer).
          let same : (wire_at wires k).producer ≡ n = omega (arith, le, below) in
          let is : machine ≡ get_or machines (wire_at wires k).producer any = c.index-machines-number.is ∙ get_or_default machines n machine any c.loop-number-test.true ∙ ap (λ p. get_or machines p any) (sym same) in
          subst (λ (m : Machine). AreGiven m (wire_at wires k) (get_or new k [])) is (told.told k lt same))
          (cases_lt (wire_at wires k).producer n),
      λ k lt le. told.others k lt (λ same. absurd (omega (arith, le, same))) ∙ was.2 k lt (omega (arith, le)),
    )
