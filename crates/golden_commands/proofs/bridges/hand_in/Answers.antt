use Rattle.std.proofs.Common.{◌≡◌, ◌++◌, ◌∷◌, [], ap, ◌∙◌, subst, List, ℕ}
use Rattle.std.specs.Prelude.{None}
use Rattle.golden_commands.specs.inside.HandFault.{hand_fault}
use Rattle.golden_commands.proofs.HandInLemmas.{can-push}
use Rattle.golden_commands.proofs.bridges.hand_in.Goals as goal

pub returns-clause-can : goal.returns-clause-can
returns-clause-can g c =
    let bridges = c.args.bridges.now.items in
    can-push g.B.Bridge.piece g.B.Bridge.state bridges c.push.new.self.items c.args.name.now c.args.bridge
    (c.in_ok-push.ensures.items ∙ ap (λ name. bridges ++ (name, c.args.bridge) ∷ []) c.in_ok-own.ensures)
    c.requires.can (subst (λ (given : List (List ℕ × g.row.B.Denot)). hand_fault g.B.Bridge.piece given c.args.name.now c.args.bridge ≡ None) c.as_slice.ensures.value c.in_ok-judge.ensures) c.requires.zeros
