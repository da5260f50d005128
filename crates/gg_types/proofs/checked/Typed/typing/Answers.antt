use Rattle.std.proofs.Common.{◌<◌, length, sym, subst}
use Rattle.gg_types.specs.inside.Typed.{TypedTree}
use Rattle.gg_types.proofs.WidthLemmas.{IsWide, typing-wide}
use Rattle.gg_types.proofs.checked.Typed.typing.Goals as goal

pub new-requires-clause-positive : goal.new-requires-clause-positive
new-requires-clause-positive c =
    let lt = subst (λ (t : TypedTree). c.args.number < length t.circuit.modules) (sym c.self.view_is) c.requires.there in
    let wide = typing-wide c.self.inside.names c.self.inside.order.items c.self.inside.own.items c.args.number c.args.reference.now c.as_slice-own.result.now c.self.inside.clocks.items c.sort_of_name.result c.in_ok-kind.field-0
    c.self.invariant lt (rw c.as_slice-own.ensures c.index.ensures) c.sort_of_name.ensures c.in_ok-kind.was in
    (subst IsWide c.in-Bits.is wide).0

pub new-requires-clause-bounded : goal.new-requires-clause-bounded
new-requires-clause-bounded c =
    let lt = subst (λ (t : TypedTree). c.args.number < length t.circuit.modules) (sym c.self.view_is) c.requires.there in
    let wide = typing-wide c.self.inside.names c.self.inside.order.items c.self.inside.own.items c.args.number c.args.reference.now c.as_slice-own.result.now c.self.inside.clocks.items c.sort_of_name.result c.in_ok-kind.field-0
    c.self.invariant lt (rw c.as_slice-own.ensures c.index.ensures) c.sort_of_name.ensures c.in_ok-kind.was in
    (subst IsWide c.in-Bits.is wide).1
