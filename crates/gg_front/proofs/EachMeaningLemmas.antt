-- The bytes of an accepted text mean a design, and its circuit has one run for each trace.
use Rattle.std.proofs.Common.{◌≡◌, ℕ, Bool, true, false, true≢false, List, [], ◌∷◌, map, refl, sym, ap, subst}
use Rattle.gg_ast.specs.Places.{place_of}
use Rattle.gg_ast.specs.Tree.{CircuitTree, module_names}
use Rattle.gg_flat.specs.inside.Along.{rows_along}
use Rattle.gg_flat.specs.Circuit.{FlatCircuit}
use Rattle.gg_flat.specs.Order.{IsOrder}
use Rattle.gg_flat.specs.Run.{opening_start}
use Rattle.gg_flat.specs.WellFormed.{IsWellFormed}
use Rattle.gg_order.proofs.RunsLemmas.AlongLemmas.{IsRun-along}
use Rattle.gg_order.proofs.RunsLemmas.UniqueLemmas.{IsRunFrom-once}
use Rattle.gg_shape_names.specs.declared.fault.Repetition.{Repetition}
use Rattle.gg_shape_names.specs.Repetitions.{repetitions}
use Rattle.gg_order.specs.Design.{IsDesign, Ordered}
use Rattle.gg_order.specs.Found.{found_order}
use Rattle.gg_order.proofs.FoundLemmas.{found-is}
use Rattle.gg_read.proofs.NamesSpelt.{circuit-named}
use Rattle.gg_shape.specs.Shape.{missing_top, named_faults, repeated_name, repeated_names}
use Rattle.gg_elab_sites.proofs.NameLemmas.{Differ}
use Rattle.gg_elab_tree.proofs.NamesLemmas.DeclaredLemmas.{append-none}
use Rattle.gg_elab_tree.proofs.EachTreeLemmas.{tree-there}
use Rattle.gg_elab_tree.proofs.ElementLemmas.{some-of}
use Rattle.gg_elab_tree.proofs.WellFormedLemmas.CircuitFormedLemmas.{circuit-formed}
use Rattle.gg_elab_tree.proofs.NamesLemmas.ModuleNameLemmas.{memory-paths-differ}
use Rattle.gg_elab_tree.proofs.NamesLemmas.SignalPathLemmas.{signal-paths-differ}
use Rattle.gg_elab_tree.proofs.WellFormedLemmas.TopLemmas.{has-top}
use Rattle.gg_elab.proofs.EachCircuitLemmas.{flat-there}
use Rattle.gg_elab.proofs.FewStopLemmas.{few-within}
use Rattle.gg_front.specs.Accepted.{IsAcceptedText}
use Rattle.gg_front.specs.Meaning.{Means, MeansDesign, MeansOne}

abbrev is_none : {A : Type 0} → List A → Bool
is_none [] = true
is_none (x ∷ xs) = false

-- no name is repeated if there is no fault
none-repeated : (all : List Repetition) → map repeated_name all ≡ [] → all ≡ []
none-repeated [] h = refl
none-repeated (r ∷ rs) h = absurd (true≢false (sym (ap is_none h)))

once-named : (circuit : CircuitTree) → named_faults circuit ≡ [] → repetitions circuit ≡ []
once-named circuit h = none-repeated (repetitions circuit) (append-none (repeated_names circuit) _ (append-none (missing_top circuit) _ h).1).0

module _ (bytes : List ℕ) (text : IsAcceptedText bytes) where
  formed : IsWellFormed (flat-there text.circuit text.accepted.sound.typed).0
  formed =
      let circuit = text.circuit in
      let named = text.accepted.sound.shaped.named in
      let names = circuit-named bytes circuit text.spelt in
      let once = once-named circuit named in
      let top = some-of (place_of circuit.name (module_names circuit)) (has-top circuit named) in
      let flat = flat-there circuit text.accepted.sound.typed in
      circuit-formed circuit flat.0 top.0 top.1 flat.1 flat.2 (subst Differ (sym flat.1.paths) (signal-paths-differ circuit names once (few-within circuit text.accepted.within)))
      (memory-paths-differ circuit names once)

  ordered : IsOrder (flat-there text.circuit text.accepted.sound.typed).0 (found_order (flat-there text.circuit text.accepted.sound.typed).0)
  ordered = let flat = flat-there text.circuit text.accepted.sound.typed in found-is flat.0 formed (text.accepted.free flat.0 flat.1)

  abbrev means-there : Means bytes (flat-there text.circuit text.accepted.sound.typed).0
  means-there = record { text = text; flattened = (flat-there text.circuit text.accepted.sound.typed).1; formed = formed }

  pub design-there : (design : Ordered) × IsDesign design × MeansDesign bytes design
  design-there =
      let flat = flat-there text.circuit text.accepted.sound.typed in
      let tree = tree-there text.circuit in
      (record { circuit = flat.0; tree = tree.0; order = found_order flat.0 }, record { formed = formed; ordered = ordered }, record { means = means-there; grown = tree.1 })

  pub one-there : ((one other : FlatCircuit) → Means bytes one → Means bytes other → one ≡ other) → MeansOne bytes
  one-there same =
      let flat = (flat-there text.circuit text.accepted.sound.typed).0 in
      record {
        flat = flat;
        means = means-there;
        only = λ other means. same other flat means means-there;
        runs = λ columns n typed.
            let run = IsRun-along flat (found_order flat) columns n formed ordered typed in
            record {
              rows = rows_along flat (found_order flat) columns n;
              run = run;
              only = λ others other. IsRunFrom-once flat (found_order flat) (opening_start flat) columns n others (rows_along flat (found_order flat) columns n) ordered other run;
            };
      }
