-- If all names of a circuit are valid and none is repeated, and no site has 2^32 stops, the paths of its signals differ.
use Rattle.std.proofs.Common.{◌≡◌, ◌⊎◌, inl, inr, ℕ, ◌<◌, ◌≤◌, ◌^◌, Bool, true, false, List, [], ◌∷◌, ◌++◌, length, get_or, map, refl, sym, ap, ap₂, ◌∙◌, subst, arith, if◌then◌else◌}
use Rattle.std.specs.Prelude.{Contains, flat_map, nat_lt}
use Rattle.std.proofs.lemmas.Bool.Decides.{nat_tests}
use Rattle.std.proofs.lemmas.List.Elements.{Contains-append_cases}
use Rattle.std.proofs.lemmas.Simd.{map-map}
use Rattle.gg_ast.specs.inside.Names.{AreNamesOfCircuit}
use Rattle.gg_ast.specs.Places.{place_of}
use Rattle.gg_ast.specs.Tree.{CircuitTree, module_names}
use Rattle.gg_shape_names.specs.Repetitions.{repetitions}
use Rattle.gg_flat_tree.specs.Tree.{joined}
use Rattle.gg_flat.proofs.ListLemmas.{here, further}
use Rattle.gg_elab_sites.specs.Sites.{Held, Site, held_at, module_at, sites_of, top_site}
use Rattle.gg_elab_sites.specs.Flat.{FlatSignal, flat_signal, signals_at}
use Rattle.gg_elab_sites.specs.Known.{types_of}
use Rattle.gg_elab_sites.specs.Signals.{Own, own_banks, own_signals, own_stops}
use Rattle.gg_elab_sites.proofs.AmongLemmas.{MadeOf, from-map}
use Rattle.gg_elab_sites.proofs.NameLemmas.{Differ}
use Rattle.gg_elab_tree.specs.IsTreeOf.{signal_paths}
use Rattle.gg_elab_tree.proofs.NamesLemmas.CauseLemmas.{name-dotless}
use Rattle.gg_elab_tree.proofs.FieldLemmas.{FieldPlace, memory-field}
use Rattle.gg_elab_tree.proofs.NamesLemmas.JoinLemmas.{dot-within}
use Rattle.gg_elab_tree.proofs.OwnLemmas.{own_in}
use Rattle.gg_elab_tree.proofs.NamesLemmas.SoundLemmas.{apart-names}
use Rattle.gg_elab_tree.proofs.NamesLemmas.WordLemmas.{bank-word}
use Rattle.gg_elab_tree.proofs.NamesLemmas.ApartLemmas.{behind, AreApart, own_paths}
use Rattle.gg_elab_tree.proofs.NamesLemmas.DifferLemmas.{Differ-append, Differ-none, first-once, flat_map-parts}
use Rattle.gg_elab_tree.proofs.NamesLemmas.ModuleNameLemmas.{declared-differ, declared_words, held-differ, held-plain, held-some, no-stop, of-sites, own-parts, port_words, statement_words, words}
use Rattle.gg_elab_tree.proofs.NamesLemmas.StopNameLemmas.{stop-word, stop_words, stops-differ}

module _ (circuit : CircuitTree) (are_names : AreNamesOfCircuit circuit) (once : repetitions circuit ≡ []) where
  abbrev own_names : ℕ → List (List ℕ)
  own_names k = map (λ (o : Own). o.name) (own_signals (types_of circuit) k (module_at circuit.modules k))

  own-differ : (k : ℕ) → length (own_stops (module_at circuit.modules k).statements) < 2 ^ 32 → Differ (own_names k)
  own-differ k few =
      subst Differ (sym (own-parts circuit are_names once k))
      (Differ-append (declared_words circuit are_names once k) (stop_words (module_at circuit.modules k).statements) (declared-differ circuit are_names once k) (stops-differ (module_at circuit.modules k).statements few)
      (λ w a b. no-stop circuit are_names once k w (stop-word (module_at circuit.modules k).statements w b) (Contains-append_cases (flat_map (port_words circuit are_names once) (module_at circuit.modules k).ports) (flat_map (statement_words circuit are_names once k) (module_at circuit.modules k).statements) w a)))

  -- ---- signals

  -- the names of a module's signals, if it hasn't too many stops: no site is of one that has
  abbrev is_few : ℕ → Bool
  is_few k = nat_lt (length (own_stops (module_at circuit.modules k).statements)) (2 ^ 32)

  abbrev kept_names : ℕ → List (List ℕ)
  kept_names k = if is_few k then own_names k else []

  kept-differ : (k : ℕ) → Differ (kept_names k)
  kept-differ k = go (is_few k) refl
    where
      go : (b : Bool) → is_few k ≡ b → Differ (if b then own_names k else [])
      go true is = own-differ k (grind (arith, nat_tests))
      go false is = Differ-none

  kept-own : (k : ℕ) (w : List ℕ) → Contains (kept_names k) w → Contains (own_names k) w
  kept-own k w h = go (is_few k) h
    where
      go : (b : Bool) → Contains (if b then own_names k else []) w → Contains (own_names k) w
      go true h = h
      go false h = absurd (omega (arith, h.1))

  kept-is : (k : ℕ) → length (own_stops (module_at circuit.modules k).statements) < 2 ^ 32 → own_names k ≡ kept_names k
  kept-is k few = go (is_few k) refl
    where
      go : (b : Bool) → is_few k ≡ b → own_names k ≡ (if b then own_names k else [])
      go true is = refl
      go false is =
          let many : 2 ^ 32 ≤ length (own_stops (module_at circuit.modules k).statements) = grind (arith, nat_tests) in
          absurd (omega (arith, few, many))

  signals-apart : AreApart circuit.modules kept_names
  signals-apart = record {
    differ = kept-differ;
    held = held-differ circuit are_names once;
    some = held-some circuit are_names once;
    plain = held-plain circuit are_names once;
    apart = λ k h r c has. clash k h r c (from-map (λ (o : Own). o.name) (own_in circuit (top_site k)) (behind h r) (kept-own k (behind h r) has));
  }
    where
      clash : (k : ℕ) (h : Held) (r : List ℕ) → Contains (held_at circuit.modules k) h → MadeOf (λ (o : Own) n. o.name ≡ n) (own_in circuit (top_site k)) (behind h r) → ⊥
      clash k h r c m = go ((apart-names circuit are_names once).of_own (top_site k) m.among.0 m.among.1)
        where
          named : (get_or (own_in circuit (top_site k)) m.among.0 m.of).name ≡ behind h r
          named = ap (λ (o : Own). o.name) m.among.2 ∙ m.made

          go : ((d : Own) → ¬ Contains (get_or (own_in circuit (top_site k)) m.among.0 d).name 46) ⊎ ((d : Own) → FieldPlace (module_at circuit.modules k).statements (get_or (own_in circuit (top_site k)) m.among.0 d)) → ⊥
          go (inl plain) = plain m.of (subst (λ n. Contains n 46) (sym named) (dot-within h.name r))
          go (inr field) =
              let f = field m.of in
              let name = memory-field f.bank.name f.bank.bank f.among.0 (get_or (own_in circuit (top_site k)) m.among.0 m.of) f.among.1 in
              let is : behind h r ≡ f.bank.name ++ 46 ∷ (name.port ++ 46 ∷ name.field) = sym named ∙ ap (λ (o : Own). o.name) (sym f.among.2) ∙ name.is in
              let listed : Contains (own_banks (module_at circuit.modules k).statements) f.bank = (f.place, f.known, f.is f.bank) in
              let word = bank-word (module_at circuit.modules k).statements f.bank (words circuit are_names once k) listed in
              (apart-names circuit are_names once).apart (top_site k) h f.bank c listed
              (first-once h.name f.bank.name r (name.port ++ 46 ∷ name.field) (held-plain circuit are_names once k h c) (name-dotless f.bank.name word.name) is)

  -- ---- the circuit's paths

  module _ (few : (site : Site) → Contains (sites_of circuit) site → length (own_stops (module_at circuit.modules site.number).statements) < 2 ^ 32) where
    site-names : (sites : List Site) → ((site : Site) → Contains sites site → Contains (sites_of circuit) site)
        → flat_map (λ (s : Site). map (λ (x : FlatSignal). x.path) (signals_at (types_of circuit) circuit.modules s)) sites ≡ flat_map (own_paths circuit.modules kept_names signals-apart) sites
    site-names [] known = refl
    site-names (site ∷ sites) known = ap₂ (λ a b. a ++ b) same (site-names sites (λ s h. known s (further site sites s h)))
      where
        same : map (λ (x : FlatSignal). x.path) (signals_at (types_of circuit) circuit.modules site) ≡ map (joined site.path) (kept_names site.number)
        same =
            map-map (λ (x : FlatSignal). x.path) (flat_signal circuit.modules site) (own_signals (types_of circuit) site.number (module_at circuit.modules site.number))
            ∙ sym (map-map (joined site.path) (λ (o : Own). o.name) (own_signals (types_of circuit) site.number (module_at circuit.modules site.number)))
            ∙ ap (map (joined site.path)) (kept-is site.number (few site (known site (here site sites))))

    pub signal-paths-differ : Differ (signal_paths circuit)
    signal-paths-differ =
        subst Differ (sym (flat_map-parts (signals_at (types_of circuit) circuit.modules) (λ (x : FlatSignal). x.path) (sites_of circuit) ∙ site-names (sites_of circuit) (λ s h. h)))
        (of-sites circuit are_names once kept_names signals-apart (place_of circuit.name (module_names circuit)))
