use Rattle.std.proofs.Common.{◌++◌, [], ◌∷◌, ℕ, List, Option, map, sym, ap, ap₂, ◌∙◌}
use Rattle.std.proofs.lemmas.List.{map_more, take_all}
use Rattle.gg_flat.specs.declared.piece.Register.{Register}
use Rattle.gg_cut_parts.proofs.whole.clocks_of_registers.Goals as goal

pub loop-register-preserved : goal.loop-register-preserved
loop-register-preserved c =
    c.in_ok-push.ensures.items ∙ ap₂ (λ (l : List (Option ℕ)) (r : Register). l ++ r.clock ∷ []) c.loop-register.invariant c.register-item.is
    ∙ sym (map_more (λ (r : Register). r.clock) c.args.registers.now c.loop-register.register-index c.register-item.result c.loop-register-test.true)

pub returns : goal.returns
returns c = c.loop-register.invariant ∙ ap (map (λ (r : Register). r.clock)) (take_all c.loop-register.register-index c.args.registers.now c.loop-register-test.false)
