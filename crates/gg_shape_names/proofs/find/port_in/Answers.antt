use Rattle.std.proofs.Common.{Some, sym, ap, ◌∙◌}
use Rattle.std.specs.List.{flat_map}
use Rattle.gg_ast.specs.Places.{place_of}
use Rattle.gg_shape_names.specs.Namespace.{name_by}
use Rattle.gg_shape_names.proofs.FindLemmas.{port-role, role_at}
use Rattle.gg_shape_names.proofs.find.port_in.Goals as goal

pub returns-in-Some : goal.returns-in-Some
returns-in-Some c =
    let m = c.args.this.now in
    c.role_at.ensures
    ∙ ap (λ ports. role_at ports (Some c.in-Some.place)) c.ports.ensures
    ∙ ap (role_at m.ports) (sym c.in-Some.is ∙ c.place.ensures.place ∙ ap (place_of c.args.port.now) c.requires)
    ∙ sym (port-role c.args.port.now m.ports (flat_map name_by m.statements))

pub returns-in-None : goal.returns-in-None
returns-in-None c =
    let m = c.args.this.now in
    ap (role_at m.ports) (sym c.in-None.is ∙ c.place.ensures.place ∙ ap (place_of c.args.port.now) c.requires)
    ∙ sym (port-role c.args.port.now m.ports (flat_map name_by m.statements))
