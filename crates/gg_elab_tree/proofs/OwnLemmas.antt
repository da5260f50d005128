-- The own signals of a site by their places: their paths, and the ports among them.
use Rattle.std.proofs.Common.{◌≡◌, ℕ, zero, suc, ◌+◌, ◌-◌, ◌<◌, List, [], ◌∷◌, ◌++◌, Option, Some, None, length, take, get_or, map, filter, is_some, refl, sym, ap, ◌∙◌, arith, length-append}
use Rattle.std.specs.Prelude.{flat_map, filter_map}
use Rattle.std.proofs.lemmas.List.{length-map, get_or-map, get_or_append_left}
use Rattle.std.proofs.lemmas.List.Concat.{get_or-flat_map}
use Rattle.std.proofs.lemmas.List.Folds.{length-flat_map-take}
use Rattle.std.proofs.lemmas.Option.{slice_get-get_or, same_Some}
use Rattle.gg_bits.specs.Shape.{Shape}
use Rattle.gg_ast.specs.declared.module.Port.{Port}
use Rattle.gg_ast.specs.Places.{place_of}
use Rattle.gg_ast.specs.Tree.{CircuitTree}
use Rattle.gg_flat_tree.specs.declared.tree.InstancePort.{InstancePort}
use Rattle.gg_flat_tree.specs.Tree.{joined}
use Rattle.gg_elab_sites.specs.Sites.{Site, module_at, sites_of}
use Rattle.gg_elab_sites.specs.Flat.{FlatSignal, flat_signal, flat_signals}
use Rattle.gg_elab_tree.specs.IsTreeOf.{Pairwise, signal_paths, signal_ports, IsPortFor}
use Rattle.gg_elab_sites.specs.Known.{types_of}
use Rattle.gg_types.specs.Memories.{type_shape}
use Rattle.gg_elab_sites.specs.Signals.{Own, own_of_port, own_signals, statement_signals}
use Rattle.gg_elab_sites.proofs.NameLemmas.{Differ, place_of-at}
use Rattle.gg_elab_tree.proofs.PlaceLemmas.{within-some, Placed}
use Rattle.gg_elab_tree.proofs.RangeLemmas.{count_to, placed-at, placed-inside}
use Rattle.gg_elab_tree.proofs.InstanceLemmas.{signals_in}

-- the own signals of the module of a site
abbrev pub own_in : CircuitTree → Site → List Own
own_in circuit x = own_signals (types_of circuit) x.number (module_at circuit.modules x.number)

-- the count before the next site is greater by what this site has
pub count-next : {X : Type 0} (f : Site → List X) (all : List Site) (k : ℕ) (d : Site) → k < length all → count_to f all (suc k) ≡ count_to f all k + length (f (get_or all k d))
count-next f [] k d lt = absurd (omega (arith, lt))
count-next f (x ∷ xs) zero d lt = let sum = length-append (f x) [] in omega (arith, sum)
count-next f (x ∷ xs) (suc k) d lt =
    let a = length-append (f x) (flat_map f (take (suc k) xs)) in
    let b = length-append (f x) (flat_map f (take k xs)) in
    omega (arith, a, b, count-next f xs k d (omega (arith, lt)))

pub Pairwise-at : {A B : Type 0} (R : A → B → Type 0) (xs : List A) (ys : List B) (i : ℕ) (a : A) (b : B) → Pairwise R xs ys → i < length xs → R (get_or xs i a) (get_or ys i b)
Pairwise-at R [] ys i a b h lt = absurd (omega (arith, lt))
Pairwise-at R (x ∷ xs) [] i a b h lt = absurd h
Pairwise-at R (x ∷ xs) (y ∷ ys) zero a b h lt = h.0
Pairwise-at R (x ∷ xs) (y ∷ ys) (suc i) a b h lt = Pairwise-at R xs ys i a b h.1 (omega (arith, lt))

-- the ports' signals have the ports' names
port-names : (ports : List Port) → map (λ (o : Own). o.name) (filter_map own_of_port ports) ≡ map (λ (p : Port). p.name) (filter (λ (port : Port). is_some (type_shape port.ty)) ports)
port-names [] = refl
port-names (p ∷ ps) = go (type_shape p.ty) refl (port-names ps)
  where
    go : (o : Option Shape) → type_shape p.ty ≡ o → map (λ (o : Own). o.name) (filter_map own_of_port ps) ≡ map (λ (p : Port). p.name) (filter (λ (port : Port). is_some (type_shape port.ty)) ps) → map (λ (o : Own). o.name) (filter_map own_of_port (p ∷ ps)) ≡ map (λ (p : Port). p.name) (filter (λ (port : Port). is_some (type_shape port.ty)) (p ∷ ps))
    go None e rest = rw e rest
    go (Some s) e rest = rw e (ap (λ l. p.name ∷ l) rest)

pub front : {A : Type 0} (xs ys : List A) (i : ℕ) (d : A) → i < length xs → get_or (xs ++ ys) i d ≡ get_or xs i d
front xs ys i d lt = get_or_append_left xs ys d i lt

-- the port at a place, among the ports that are signals, has the name of the own signal at that place
pub port-own : (circuit : CircuitTree) (x : Site) (i : ℕ) (p : Port) → i < length (signal_ports (module_at circuit.modules x.number)) → (i < length (own_in circuit x)) × ((d : Own) → (get_or (own_in circuit x) i d).name ≡ (get_or (signal_ports (module_at circuit.modules x.number)) i p).name)
port-own circuit x i p lt =
    let same = ap (λ (l : List (List ℕ)). length l) (port-names (module_at circuit.modules x.number).ports) in
    let a = length-map (filter_map own_of_port (module_at circuit.modules x.number).ports) (λ (o : Own). o.name) in
    let b = length-map (signal_ports (module_at circuit.modules x.number)) (λ (q : Port). q.name) in
    let inside : i < length (filter_map own_of_port (module_at circuit.modules x.number).ports) = omega (arith, lt, same, a, b) in (
      omega (arith, inside, length-append (filter_map own_of_port (module_at circuit.modules x.number).ports) (statement_signals (types_of circuit) x.number (module_at circuit.modules x.number).statements)),
      λ d.
          ap (λ (o : Own). o.name) (front (filter_map own_of_port (module_at circuit.modules x.number).ports) (statement_signals (types_of circuit) x.number (module_at circuit.modules x.number).statements) i d inside)
          ∙ sym (get_or-map (λ (o : Own). o.name) (filter_map own_of_port (module_at circuit.modules x.number).ports) i d [] inside)
          ∙ ap (λ (l : List (List ℕ)). get_or l i []) (port-names (module_at circuit.modules x.number).ports)
          ∙ get_or-map (λ (q : Port). q.name) (signal_ports (module_at circuit.modules x.number)) i p [] lt,
    )

module _ (circuit : CircuitTree) (k : ℕ) (x : Site) (placed : Placed (length circuit.modules) circuit.modules (sites_of circuit) k x) where
  pub placed-known : k < length (sites_of circuit)
  placed-known =
      let inside = placed-inside (length circuit.modules) circuit.modules (sites_of circuit) k x placed in
      let some = within-some (length circuit.modules - x.depth) circuit.modules x in
      omega (arith, inside, some)

  -- the count before the next site is greater by the number of the site's own signals
  pub own-count : count_to (signals_in circuit) (sites_of circuit) (suc k) ≡ count_to (signals_in circuit) (sites_of circuit) k + length (own_in circuit x)
  own-count =
      count-next (signals_in circuit) (sites_of circuit) k x placed-known
      ∙ ap (λ (y : Site). count_to (signals_in circuit) (sites_of circuit) k + length (signals_in circuit y)) (placed-at (length circuit.modules) circuit.modules (sites_of circuit) k x x placed)
      ∙ ap (λ n. count_to (signals_in circuit) (sites_of circuit) k + n) (length-map (own_in circuit x) (flat_signal circuit.modules x))

  -- the signal at offset o from the site's first is the site's own signal o
  pub own-signal : (o : ℕ) (d : FlatSignal) (e : Own) → o < length (own_in circuit x) → get_or (flat_signals (types_of circuit) circuit.modules (sites_of circuit)) (count_to (signals_in circuit) (sites_of circuit) k + o) d ≡ flat_signal circuit.modules x (get_or (own_in circuit x) o e)
  own-signal o d e lt =
      let here = placed-at (length circuit.modules) circuit.modules (sites_of circuit) k x x placed in
      let size : length (signals_in circuit (get_or (sites_of circuit) k x)) ≡ length (own_in circuit x) = ap (λ (y : Site). length (signals_in circuit y)) here ∙ length-map (own_in circuit x) (flat_signal circuit.modules x) in
      get_or-flat_map (signals_in circuit) (sites_of circuit) k o x d placed-known (omega (arith, lt, size))
      ∙ ap (λ (y : Site). get_or (signals_in circuit y) o d) here
      ∙ get_or-map (flat_signal circuit.modules x) (own_in circuit x) o e d lt

  pub own-inside : (o : ℕ) → o < length (own_in circuit x) → count_to (signals_in circuit) (sites_of circuit) k + o < length (flat_signals (types_of circuit) circuit.modules (sites_of circuit))
  own-inside o lt =
      let size : length (signals_in circuit (get_or (sites_of circuit) k x)) ≡ length (own_in circuit x) = ap (λ (y : Site). length (signals_in circuit y)) (placed-at (length circuit.modules) circuit.modules (sites_of circuit) k x x placed) ∙ length-map (own_in circuit x) (flat_signal circuit.modules x) in
      let bound = length-flat_map-take (signals_in circuit) (sites_of circuit) k x placed-known in
      omega (arith, lt, size, bound)

  -- its path is the site's path joined with its name
  pub own-path : (o : ℕ) (d : List ℕ) (e : Own) → o < length (own_in circuit x) → get_or (signal_paths circuit) (count_to (signals_in circuit) (sites_of circuit) k + o) d ≡ joined x.path (get_or (own_in circuit x) o e).name
  own-path o d e lt =
      get_or-map (λ (s : FlatSignal). s.path) (flat_signals (types_of circuit) circuit.modules (sites_of circuit)) (count_to (signals_in circuit) (sites_of circuit) k + o) (flat_signal circuit.modules x e) d (own-inside o lt)
      ∙ ap (λ (s : FlatSignal). s.path) (own-signal o (flat_signal circuit.modules x e) e lt)

  -- where no two signals have the same path, the first place of its path is its own place
  pub own-place : Differ (signal_paths circuit) → (o : ℕ) (e : Own) → o < length (own_in circuit x) → place_of (joined x.path (get_or (own_in circuit x) o e).name) (signal_paths circuit) ≡ Some (count_to (signals_in circuit) (sites_of circuit) k + o)
  own-place differ o e lt =
      place_of-at (signal_paths circuit) (joined x.path (get_or (own_in circuit x) o e).name) (count_to (signals_in circuit) (sites_of circuit) k + o)
      (slice_get-get_or (signal_paths circuit) (count_to (signals_in circuit) (sites_of circuit) k + o) [] (omega (arith, own-inside o lt, length-map (flat_signals (types_of circuit) circuit.modules (sites_of circuit)) (λ (s : FlatSignal). s.path)))
      ∙ ap Some (own-path o [] e lt))
      differ

  -- the signals of a site's ports are its first, in port order
  pub port-signals : Differ (signal_paths circuit) → (ports : List InstancePort) → Pairwise (IsPortFor circuit x) (signal_ports (module_at circuit.modules x.number)) ports → (i : ℕ) (q : InstancePort) (p : Port) (e : Own) → i < length (signal_ports (module_at circuit.modules x.number)) → (get_or ports i q).signal ≡ count_to (signals_in circuit) (sites_of circuit) k + i
  port-signals differ ports each i q p e lt =
      let h = Pairwise-at (IsPortFor circuit x) (signal_ports (module_at circuit.modules x.number)) ports i p q each lt in
      let o = port-own circuit x i p lt in
      same_Some (get_or ports i q).signal (count_to (signals_in circuit) (sites_of circuit) k + i)
      (sym h.signal.is ∙ ap (λ name. place_of (joined x.path name) (signal_paths circuit)) (sym (o.1 e)) ∙ own-place differ i e o.0)
