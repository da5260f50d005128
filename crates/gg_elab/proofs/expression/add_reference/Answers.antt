use Rattle.std.proofs.Common.{◌≡◌, ◌<◌, length, ◌∙◌, ap, refl, sym, Some, None, arith}
use Rattle.std.proofs.lemmas.List.{length-map, get_or-map}
use Rattle.gg_bits.specs.declared.types.Ty.{Ty}
use Rattle.gg_bits.specs.Shape.{shape, uint}
use Rattle.gg_ast.specs.Term.{NamedTerm}
use Rattle.gg_flat.specs.declared.line.Op.TheVariants.{Ref}
use Rattle.gg_elab.specs.inside.Growing.{context_of, IsZeroNode}
use Rattle.gg_elab_sites.specs.Meaning.{named}
use Rattle.gg_elab.proofs.LineLemmas.{added_reference, added_nothing}
use Rattle.gg_elab.proofs.PlacedLemmas.{finished}
use Rattle.gg_elab.proofs.ScopeLemmas.{named-below}
use Rattle.gg_elab.proofs.expression.add_reference.Goals as goal

pub index-ty-requires : goal.index-ty-requires
index-ty-requires c =
    let w = context_of c.args.scope.now in
    let found : named w c.args.reference.now ≡ Some c.in-Some.signal = sym c.in_ok-signal.ensures ∙ c.in-Some.is in
    omega (arith, named-below w c.args.reference.now c.in-Some.signal found, c.args.scope.now.even)

pub returns-in-Some : goal.returns-in-Some
returns-in-Some c =
    let w = context_of c.args.scope.now in
    let types = c.args.scope.now.table.now.types.items in
    let s = c.in-Some.signal in
    let found : named w c.args.reference.now ≡ Some s = sym c.in_ok-signal.ensures ∙ c.in-Some.is in
    let below : s < length types = omega (arith, named-below w c.args.reference.now s found, c.args.scope.now.even) in
    finished c.add_node.result w c.args.line.now c.args.line.now c.add_node.new.line (NamedTerm c.args.reference.now) _ (λ n. (n.ty ≡ c.index-ty.result.now) × (n.op ≡ Ref s)) refl c.add_node.ensures
    (λ n p. added_reference w c.args.line.now n c.args.reference.now s found (omega (arith, below, length-map types (λ (t : Ty). shape t)))
    (get_or-map (λ (t : Ty). shape t) types s c.index-ty.result.now (uint 0) below ∙ ap shape (sym c.index-ty.ensures ∙ sym p.0)) p.1)

pub returns-in-None : goal.returns-in-None
returns-in-None c =
    let w = context_of c.args.scope.now in
    let none : named w c.args.reference.now ≡ None = sym c.in_ok-signal.ensures ∙ c.in-None.is in
    finished c.add_zero.result w c.args.line.now c.args.line.now c.add_zero.new.line (NamedTerm c.args.reference.now) _ IsZeroNode refl c.add_zero.ensures
    (λ n p. added_nothing w c.args.line.now n c.args.reference.now none p)
