use Rattle.std.proofs.Common.{◌≡◌, ℕ, [], ◌∷◌, ◌++◌, length, ap, refl, sym, subst, arith}
use Rattle.gg_bits.specs.Shape.{shape}
use Rattle.gg_flat.specs.Circuit.{FlatCircuit}
use Rattle.gg_elab.specs.inside.Building.{IsMade, IsSoFar}
use Rattle.gg_elab_sites.specs.Flat.{FlatSignal, flat_signal}
use Rattle.gg_elab_sites.specs.inside.Views.{table_bindings, own_of, site_of}
use Rattle.gg_elab_sites.specs.Known.{types_of}
use Rattle.gg_elab.proofs.BuildLemmas.{so_far-more}
use Rattle.gg_elab.proofs.build.add_signal.Goals as goal

pub returns-clause-so_far : goal.returns-clause-so_far
returns-clause-so_far c = λ xs h.
    let circuit = c.args.site.now.typed.now.circuit in
    let bindings = table_bindings (types_of circuit) c.args.site.now.table.now in
    let old = c.args.piece.now in
    let made = c.in_ok-made.made in
    let x : FlatSignal = flat_signal circuit.modules (site_of c.args.site.now.place.now) (own_of c.args.signal.now) in
    let states : c.in-Ok.states ≡ length old.registers = omega (arith, c.in-Ok.ensures, ap (λ l. length l) c.registers.ensures) in
    subst (λ (f : FlatCircuit). IsSoFar bindings (xs ++ x ∷ []) f c.with_input-more.result) (sym c.in_ok-add_made.ensures)
    (so_far-more bindings xs x old c.args.inputs c.with_input-more.result c.in_ok-path.path c.args.signal.now.ty made.driver made.register h c.in_ok-path.ensures refl
    (subst (λ (n : ℕ). IsMade bindings c.args.inputs n (shape c.args.signal.now.ty) x.drive made.driver made.register) states c.in_ok-made.ensures.made)
    c.in_ok-made.ensures.fits
    c.with_input-more.ensures)
