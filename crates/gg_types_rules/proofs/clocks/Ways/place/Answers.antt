use Rattle.std.proofs.Common.{ℕ, List, map, sym, ap, ◌∙◌}
use Rattle.gg_ast.specs.Places.{place_of}
use Rattle.gg_shape_names.specs.Modules.{module_at}
use Rattle.gg_types.specs.declared.way.Way.{Way}
use Rattle.gg_types_rules.proofs.WayLemmas.{ways-names, place-there}
use Rattle.gg_types_rules.proofs.clocks.Ways.place.Goals as goal

pub returns-clause-place : goal.returns-clause-place
returns-clause-place c =
    c.place.ensures
    ∙ ap (place_of c.args.name.now) (sym (ways-names (module_at c.self.inside.names.now.modules c.self.inside.number)) ∙ ap (map (λ (w : List ℕ × Way). w.0)) c.self.view_is)

pub returns-clause-within : goal.returns-clause-within
returns-clause-within c =
    place-there c.args.name.now c.args.self.now c.place.result
    (c.place.ensures
    ∙ ap (place_of c.args.name.now) (sym (ways-names (module_at c.self.inside.names.now.modules c.self.inside.number)) ∙ ap (map (λ (w : List ℕ × Way). w.0)) c.self.view_is))
