use Rattle.std.proofs.Common.{sym, ap, ◌∙◌, arith}
use Rattle.gg_shape_names.specs.Modules.{module_at}
use Rattle.gg_shape_names.specs.inside.Namespace.{names_in}
use Rattle.gg_types.proofs.OwnLemmas.{entry_at, entry-placed, entry_at-there, entry_at-past}
use Rattle.gg_types.proofs.lookup.own_of.Goals as goal

pub returns-in_err-place : goal.returns-in_err-place
returns-in_err-place c =
    let ns = names_in (module_at c.args.names.now.modules c.args.number) in
    let e = entry-placed c.args.name.now ns c.args.own.now ∙ ap (entry_at c.args.own.now) (sym c.place.ensures ∙ c.in_err-place.was) in
    grind (arith, e)

pub returns-then-place-own : goal.returns-then-place-own
returns-then-place-own c =
    let ns = names_in (module_at c.args.names.now.modules c.args.number) in
    sym (entry-placed c.args.name.now ns c.args.own.now
    ∙ ap (entry_at c.args.own.now) (sym c.place.ensures ∙ c.in_ok-place.was)
    ∙ entry_at-there c.args.own.now c.in_ok-place.place _ (omega arith))

pub returns-else-place-own : goal.returns-else-place-own
returns-else-place-own c =
    let ns = names_in (module_at c.args.names.now.modules c.args.number) in
    sym (entry-placed c.args.name.now ns c.args.own.now
    ∙ ap (entry_at c.args.own.now) (sym c.place.ensures ∙ c.in_ok-place.was)
    ∙ entry_at-past c.args.own.now c.in_ok-place.place (omega arith))
