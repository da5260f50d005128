use Rattle.std.proofs.Common.{sym, ap, ◌∙◌}
use Rattle.gg_shape_names.specs.inside.Tables.{through}
use Rattle.gg_shape_names.proofs.find.role_through.Goals as goal

pub returns-in-FieldOf : goal.returns-in-FieldOf
returns-in-FieldOf c = c.field_of.ensures c.args.modules.now c.in-FieldOf.field-0 ∙ sym (ap (through c.args.modules.now c.args.declared.now) c.in-FieldOf.is)
