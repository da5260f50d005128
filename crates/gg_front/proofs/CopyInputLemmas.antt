-- Which signals are inputs, of two instances of one module.
use Rattle.std.proofs.Common.{◌≡◌, ℕ, ◌+◌, ◌<◌, List, length, get_or, Some, refl, sym, ap, ◌∙◌, subst, arith, inl, inr, ◌⊎◌}
use Rattle.std.specs.Prelude.{slice_get}
use Rattle.std.proofs.lemmas.List.{get_or_default}
use Rattle.std.proofs.lemmas.Option.{same_Some}
use Rattle.gg_ast.specs.inside.Names.{AreNamesOfCircuit}
use Rattle.gg_ast.specs.declared.module.Direction.{Direction}
use Rattle.gg_ast.specs.declared.module.Direction.TheVariants as direction
use Rattle.gg_ast.specs.declared.module.Port.{Port}
use Rattle.gg_ast.specs.Places.{place_of}
use Rattle.gg_ast.specs.Tree.{CircuitTree, module_names}
use Rattle.gg_flat_tree.specs.declared.tree.InstancePort.{InstancePort}
use Rattle.gg_flat.specs.Circuit.{FlatCircuit}
use Rattle.gg_flat_tree.specs.Scoped.{IsInputOf}
use Rattle.gg_flat_tree.specs.Tree.{InstanceTree, instance_at, joined}
use Rattle.gg_flat.proofs.ListLemmas.{some-item}
use Rattle.gg_elab_sites.specs.Sites.{Site, module_at, sites_of}
use Rattle.gg_elab_sites.specs.IsFlat.{IsFlat}
use Rattle.gg_elab_sites.specs.Known.{types_of}
use Rattle.gg_elab_sites.specs.Signals.{Cause, FromOutside, Own, cause_of_port}
use Rattle.gg_elab_sites.proofs.NameLemmas.{place_of-at}
use Rattle.gg_elab_tree.specs.IsTreeOf.{IsTreeOf, IsPortFor, Pairwise, signal_paths, signal_ports}
use Rattle.gg_elab_tree.proofs.NamesLemmas.CauseLemmas.{IsNamed}
use Rattle.gg_elab_tree.proofs.DriverLemmas.{own-cases, port-is-input, port-own-cause, goes-in}
use Rattle.gg_elab_tree.proofs.InstanceLemmas.{signals_in, instance-for}
use Rattle.gg_elab_tree.proofs.OwnLemmas.{own_in, own-place, Pairwise-at}
use Rattle.gg_elab_tree.proofs.PairwiseLemmas.{Pairwise-length}
use Rattle.gg_elab_tree.proofs.PlaceLemmas.{Placed}
use Rattle.gg_elab_tree.proofs.RangeLemmas.{count_to}
use Rattle.gg_elab_tree.proofs.ScopeOfTreeLemmas.{HasApartNames}
use Rattle.gg_elab_tree.proofs.TreeLemmas.{HasDistinctPaths, HasPlainNames, no_own, port-at}
use Rattle.gg_elab_tree.proofs.VisibleLemmas.{HasKnownNames}
use Rattle.gg_front.proofs.CopyDriverLemmas.{AtInput}

outside-in : (way : Direction) → cause_of_port way ≡ FromOutside → way ≡ direction.Input
outside-in direction.Input e = refl
outside-in direction.Output e = absurd (cc)

module _ (circuit : CircuitTree) (flat : FlatCircuit) (tree : InstanceTree) (top : ℕ) (known_top : place_of circuit.name (module_names circuit) ≡ Some top) (is_flat : IsFlat circuit flat) (is_tree : IsTreeOf circuit tree) (distinct : HasDistinctPaths circuit) (plain : HasPlainNames circuit) (names : HasApartNames circuit) (known : HasKnownNames circuit) (are_names : AreNamesOfCircuit circuit) where
  abbrev Stands : ℕ → Site → Type 0
  Stands k x = Placed (length circuit.modules) circuit.modules (sites_of circuit) k x

  abbrev from_site : ℕ → ℕ
  from_site k = count_to (signals_in circuit) (sites_of circuit) k

  -- an input of the one is an input of the other
  pub input-there : (i j : ℕ) (u v : Site) → Stands i u → Stands j v → u.number ≡ v.number → (s : ℕ) → IsInputOf tree j (from_site j + s) → IsInputOf tree i (from_site i + s)
  input-there i j u v at_i at_j same s input = port-is-input circuit flat tree top known_top is_flat is_tree distinct plain names known are_names i u at_i n port (from_site i + s) counted lt way
    where
      n : ℕ
      n = input.listed.0

      at : ((get_or (instance_at tree j).ports n input.port).signal ≡ from_site j + n) × (n < length (own_in circuit v))
      at = port-at circuit flat tree top known_top is_flat is_tree distinct plain j v at_j n input.port input.listed.1

      counted : from_site i + s ≡ from_site i + n
      counted = let e : from_site j + s ≡ from_site j + n = sym input.is ∙ sym (ap (λ (x : InstancePort). x.signal) input.listed.2) ∙ at.0 in omega (arith, e)

      h : Pairwise (IsPortFor circuit v) (signal_ports (module_at circuit.modules v.number)) (instance_at tree j).ports
      h = (instance-for circuit tree top known_top is_tree distinct.of_sites j v at_j).ports

      lt_v : n < length (signal_ports (module_at circuit.modules v.number))
      lt_v = omega (arith, input.listed.1, Pairwise-length (IsPortFor circuit v) (signal_ports (module_at circuit.modules v.number)) (instance_at tree j).ports h)

      lt : n < length (signal_ports (module_at circuit.modules u.number))
      lt = subst (λ (k : ℕ). n < length (signal_ports (module_at circuit.modules k))) (sym same) lt_v

      port : Port
      port = some-item (signal_ports (module_at circuit.modules u.number)) n lt

      way : (get_or (signal_ports (module_at circuit.modules u.number)) n port).direction ≡ direction.Input
      way =
          let each = Pairwise-at (IsPortFor circuit v) (signal_ports (module_at circuit.modules v.number)) (instance_at tree j).ports n port input.port h lt_v in
          ap (λ (k : ℕ). (get_or (signal_ports (module_at circuit.modules k)) n port).direction) same
          ∙ goes-in circuit flat tree top known_top is_flat is_tree distinct plain names known are_names (get_or (signal_ports (module_at circuit.modules v.number)) n port).direction
          (sym each.goes ∙ ap (λ (y : InstancePort). y.is_input) input.listed.2 ∙ input.input)

  -- a signal at an input port is an input of the instance
  pub input-here : (i : ℕ) (u : Site) → Stands i u → (s : ℕ) (path : List ℕ) → slice_get (signal_paths circuit) (from_site i + s) ≡ Some path → AtInput (types_of circuit) circuit.modules u path → IsInputOf tree i (from_site i + s)
  input-here i u at_i s path found at = go (own-cases circuit flat tree top known_top is_flat is_tree distinct plain names known are_names u n at.among.1)
    where
      n : ℕ
      n = at.among.0

      cause : (get_or (own_in circuit u) n no_own).cause ≡ FromOutside
      cause = ap (λ (o : Own). o.cause) (get_or_default (own_in circuit u) n no_own at.port at.among.1 ∙ at.among.2) ∙ at.cause

      there : slice_get (signal_paths circuit) (from_site i + s) ≡ Some (joined u.path at.port.name)
      there = found ∙ ap Some at.is

      counted : from_site i + s ≡ from_site i + n
      counted =
          same_Some (from_site i + s) (from_site i + n)
          (sym (place_of-at (signal_paths circuit) (joined u.path at.port.name) (from_site i + s) there distinct.of_signals)
          ∙ ap (λ (o : Own). place_of (joined u.path o.name) (signal_paths circuit)) (sym at.among.2)
          ∙ own-place circuit i u at_i distinct.of_signals n at.port at.among.1)

      port-in : (lt : n < length (signal_ports (module_at circuit.modules u.number))) → IsInputOf tree i (from_site i + s)
      port-in lt =
          let port = some-item (signal_ports (module_at circuit.modules u.number)) n lt in
          port-is-input circuit flat tree top known_top is_flat is_tree distinct plain names known are_names i u at_i n port (from_site i + s) counted lt
          (outside-in (get_or (signal_ports (module_at circuit.modules u.number)) n port).direction
          (sym (port-own-cause circuit flat tree top known_top is_flat is_tree distinct plain names known are_names u n no_own port lt) ∙ cause))

      go : (n < length (signal_ports (module_at circuit.modules u.number))) ⊎ IsNamed (λ name. (o : ℕ) × (o < length (own_in circuit u)) × ((get_or (own_in circuit u) o no_own).name ≡ name)) (get_or (own_in circuit u) n no_own).cause → IsInputOf tree i (from_site i + s)
      go (inl lt) = port-in lt
      go (inr named) = absurd (subst (λ (c : Cause). IsNamed (λ name. (o : ℕ) × (o < length (own_in circuit u)) × ((get_or (own_in circuit u) o no_own).name ≡ name)) c) cause named)
