use Rattle.std.proofs.Common.{◌≡◌, ℕ, ◌<◌, List, [], Option, Some, None, length, get_or, refl, sym, ap, ◌∙◌, subst, arith}
use Rattle.std.proofs.lemmas.List.{get_or_default, length-set}
use Rattle.gg_flat.specs.declared.piece.Driver.TheVariants.{Held}
use Rattle.gg_flat.specs.declared.piece.Signal.{Signal}
use Rattle.gg_flat.specs.Circuit.{driver_at}
use Rattle.gg_flat_tree.specs.Clocked.{clock_at}
use Rattle.gg_flat.specs.Line.{value_at}
use Rattle.gg_cut_parts.specs.inside.Innermost.{IsTimedBy}
use Rattle.gg_cut_parts.proofs.TableLemmas.{held-known, timed-more, timed-passed}
use Rattle.gg_cut_parts.proofs.tables.fill_registers.Goals as goal
use Rattle.gg_cut_parts.proofs.tables.fill_registers.Goals.{in-Some, in_default}

pub bounds-register_clocks-register : goal.bounds-register_clocks-register
bounds-register_clocks-register c =
    let lt : c.loop-signal.signal < length c.args.piece.now.signals = omega (arith, c.loop-signal-test.true, ap (λ (l : List Signal). length l) c.signals-signal-end.ensures) in
    let known = held-known c.args.piece.now c.loop-signal.signal c.in-Some.register c.requires.formed lt ((c.in-Some.ensures.held c.in-Some.register).0 refl) in
    omega (arith, known, c.requires.registers, ap (λ (l : List (Option ℕ)). length l) c.register_clocks.ensures)

pub bounds-table-register : goal.bounds-table-register
bounds-table-register c =
    let lt : c.loop-signal.signal < length c.args.piece.now.signals = omega (arith, c.loop-signal-test.true, ap (λ (l : List Signal). length l) c.signals-signal-end.ensures) in
    let known = held-known c.args.piece.now c.loop-signal.signal c.in-Some.register c.requires.formed lt ((c.in-Some.ensures.held c.in-Some.register).0 refl) in
    omega (arith, known, c.requires.count, c.loop-signal.invariant.count)

pub loop-signal-preserved : goal.loop-signal-preserved
loop-signal-preserved c =
    let piece = c.args.piece.now in
    let tree = c.args.tree.now in
    let inner = c.args.inner.now in
    let places = c.args.places.now in
    let table = c.loop-signal.table in
    let n = c.loop-signal.signal in
    let lt : n < length piece.signals = omega (arith, c.loop-signal-test.true, ap (λ (l : List Signal). length l) c.signals-signal-end.ensures) in
    elim c.match-held_by.branch [
      | in-Some w ↦
          let r = w.in-Some.register in
          let held : driver_at piece n ≡ Held r = (w.in-Some.ensures.held r).0 refl in
          let known = held-known piece n r c.requires.formed lt held in
          let there : value_at places n < length inner = c.requires.known n 0 (omega (arith, lt, c.requires.places)) in
          let value =
          w.clock_at.ensures
          ∙ ap (λ (l : List (Option ℕ)). clock_at l (get_or w.register_clocks.result.now r None)) (w.as_slice.ensures ∙ w.index-inner-instance.is ∙ get_or_default inner (value_at places n) w.index-inner-instance.result [] there)
          ∙ ap (λ (l : List (Option ℕ)). clock_at (get_or inner (value_at places n) []) (get_or l r None)) w.register_clocks.ensures
          in
          record {
            count = ap (λ (l : List (Option ℕ)). length l) w.table-is ∙ length-set table r w.clock_at.result ∙ c.loop-signal.invariant.count;
            each = λ s q low holds.
                subst (λ (l : List (Option ℕ)). IsTimedBy piece tree inner places l q) (sym w.table-is)
                (timed-more piece tree inner places table n lt c.loop-signal.invariant.each r w.clock_at.result held (omega (arith, known, c.requires.count, c.loop-signal.invariant.count)) value s q low holds);
          }
      | in_default w ↦
          record {
            count = ap (λ (l : List (Option ℕ)). length l) w.table-is ∙ c.loop-signal.invariant.count;
            each = λ s q low holds.
                subst (λ (l : List (Option ℕ)). IsTimedBy piece tree inner places l q) (sym w.table-is)
                (timed-passed piece tree inner places table n lt c.loop-signal.invariant.each (λ r is. let never : None ≡ Some r = (w.in_default.ensures.held r).1 is in absurd (cc)) s q low holds);
          }
    ]
