use Rattle.std.proofs.Common.{sym, subst, rules}
use Rattle.std.specs.List.{flat_map}
use Rattle.gg_shape_names.specs.declared.role.PortKind.TheVariants.{Reader, Writer}
use Rattle.gg_shape.specs.inside.Faults.{Answers, Refuses}
use Rattle.gg_shape.specs.inside.Told.{is_among, unconnected_in_field}
use Rattle.gg_shape.proofs.FlatLemmas.{refused_first, decided_next}
use Rattle.gg_shape.proofs.UnconnectedLemmas.{memory-told}
use Rattle.gg_shape.proofs.unconnected.check_memory.Goals as goal

pub returns-in_err-check_kind : goal.returns-in_err-check_kind
returns-in_err-check_kind c =
    let f = unconnected_in_field Reader c.args.memory.now (is_among c.args.declaration.connected.now) c.args.declaration.line in
    let g = unconnected_in_field Writer c.args.memory.now (is_among c.args.declaration.connected.now) c.args.declaration.line in
    let h = subst (λ l. Refuses l c.in_err-check_kind.field-0.0) (sym (memory-told (is_among c.args.declaration.connected.now) c.args.declaration.line c.args.memory.now c.args.fields.now))
    (refused_first (flat_map f c.args.fields.now) (flat_map g c.args.fields.now) c.in_err-check_kind.field-0.0 c.in_err-check_kind.ensures) in
    search (rules, h)

pub returns : goal.returns
returns c =
    let f = unconnected_in_field Reader c.args.memory.now (is_among c.args.declaration.connected.now) c.args.declaration.line in
    let g = unconnected_in_field Writer c.args.memory.now (is_among c.args.declaration.connected.now) c.args.declaration.line in
    subst (λ l. Answers l c.check_kind-2.result) (sym (memory-told (is_among c.args.declaration.connected.now) c.args.declaration.line c.args.memory.now c.args.fields.now))
    (decided_next (flat_map f c.args.fields.now) (flat_map g c.args.fields.now) c.check_kind-2.result c.in_ok-check_kind.ensures c.check_kind-2.ensures)
