use Rattle.std.proofs.Common.{ℕ, List, sym, subst}
use Rattle.std.proofs.lemmas.Result.{IfOk-weaker}
use Rattle.std.specs.Prelude.{◌≡◌}
use Rattle.gg_flat.specs.Circuit.{FlatCircuit}
use Rattle.gg_bridge.specs.inside.Ports.{CanStand}
use Rattle.gg_bridge.specs.Ports.{joined_at}
use Rattle.golden_commands.proofs.JoinedLemmas.{model-at, model-there}
use Rattle.golden_commands.proofs.whole.joined_by.Goals as goal

pub join-requires-clause-can : goal.join-requires-clause-can
join-requires-clause-can c =
    subst (λ (name : List ℕ). CanStand c.args.design.circuit name c.in-Some.model.now c.args.entry.now.sees c.args.entry.now.drives) (sym c.as_str.ensures)
    (subst (λ (m : FlatCircuit). CanStand c.args.design.circuit c.args.entry.now.name m c.args.entry.now.sees c.args.entry.now.drives) (sym (model-at c.args.models.now c.args.entry.now c.args.place c.in-Some.model.now c.requires.at (sym c.in-Some.ensures))) c.requires.can)

pub join-requires-clause-model : goal.join-requires-clause-model
join-requires-clause-model c = model-there c.args.models.now c.args.place c.in-Some.model.now c.requires.models (sym c.in-Some.ensures)

pub returns-in-Some : goal.returns-in-Some
returns-in-Some c =
    IfOk-weaker c.join.result _ _
    (λ made is.
    subst (λ (m : FlatCircuit). made.circuit ≡ joined_at c.args.design.circuit c.args.entry.now.name m c.args.entry.now.sees c.args.entry.now.drives) (model-at c.args.models.now c.args.entry.now c.args.place c.in-Some.model.now c.requires.at (sym c.in-Some.ensures))
    (subst (λ (name : List ℕ). made.circuit ≡ joined_at c.args.design.circuit name c.in-Some.model.now c.args.entry.now.sees c.args.entry.now.drives) c.as_str.ensures is))
    c.join.ensures.circuit
