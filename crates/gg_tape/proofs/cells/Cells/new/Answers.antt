use Rattle.std.proofs.Common.{◌≡◌, ℕ, ◌+◌, ◌-◌, length, take, replicate, ◌∙◌, ap, arith}
use Rattle.std.proofs.lemmas.List.{length-replicate}
use Rattle.gg_tape.proofs.CellsLemmas.{Celled-same, take-zeros}
use Rattle.gg_tape.proofs.cells.Cells.new.Goals as goal

pub returns : goal.returns
returns c =
    let n = c.args.signals in
    let sum : c.in-Some.count ≡ n + c.args.room = c.in-Some.ensures.1 in
    let are : c.in_ok-all.all.items ≡ replicate {A = ℕ} (n + c.args.room) 0 = c.in_ok-all.ensures {u = tt} ∙ ap (λ k. replicate {A = ℕ} k 0) sum in
    let long : length c.in_ok-all.all.items ≡ n + c.args.room = ap length are ∙ length-replicate {A = ℕ} (n + c.args.room) 0 in
    Celled-same (ap (take {A = ℕ} n) are ∙ take-zeros n c.args.room) (let few : length c.in_ok-all.all.items - n ≡ c.args.room = omega (arith, long) in few)
