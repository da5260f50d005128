-- A flat circuit keeps to the scopes of its circuit's tree: what drivers and registers name is visible where they are written.
use Rattle.std.proofs.Common.{◌≡◌, ◌⊎◌, inl, inr, ℕ, ◌+◌, ◌-◌, ◌<◌, ◌≤◌, Bool, true, false, List, Option, Some, None, is_some, length, get_or, refl, sym, ap, ◌∙◌, subst, arith, codes, unwrap_or, true≢false, length-append, slice_get, slice_index_or}
use Rattle.std.specs.Prelude.{filter_map, All, IfSome}
use Rattle.std.proofs.lemmas.Bool.{cases_lt}
use Rattle.std.proofs.lemmas.List.{get_or-map, get_or_default}
use Rattle.std.proofs.lemmas.Option.{get_or_from_slice_get}
use Rattle.std.proofs.Math.Seq.{get_or-append_right, get_or-append-add}
use Rattle.std.proofs.lemmas.List.Elements.{Contains-get_or}
use Rattle.gg_bits.specs.Shape.{Shape}
use Rattle.gg_ast.specs.Names.{IsName}
use Rattle.gg_ast.specs.inside.Names.{AreNamesOfReference, AreNamesOfTerm, AreNamesOfReset, AreNamesOfStatement, AreNamesOfCircuit}
use Rattle.gg_ast.specs.declared.expression.Reference.{Reference}
use Rattle.gg_ast.specs.declared.expression.Reference.TheVariants as reference
use Rattle.gg_ast.specs.declared.module.Direction.{Direction}
use Rattle.gg_ast.specs.declared.module.Direction.TheVariants as direction
use Rattle.gg_ast.specs.declared.module.Port.{Port}
use Rattle.gg_ast.specs.declared.statement.Reset as given
use Rattle.gg_ast.specs.Places.{place_of}
use Rattle.gg_ast.specs.Term.{Term, NamedTerm, ConstantTerm, UnaryTerm, BinaryTerm, FixedTerm, MuxTerm}
use Rattle.gg_ast.specs.Tree.{CircuitTree, module_names}
use Rattle.gg_flat_tree.specs.Clocked.{clock_at}
use Rattle.gg_flat.specs.Circuit.{FlatCircuit, driver_at}
use Rattle.gg_flat.specs.Line.{shape_at}
use Rattle.gg_flat.specs.Reads.{NamesSignal, ResetNames, NextNames, RegisterNames}
use Rattle.gg_flat.specs.declared.line.Node.{Node}
use Rattle.gg_flat.specs.declared.memory.Latency.{Latency}
use Rattle.gg_flat.specs.declared.memory.Latency.TheVariants.{Zero, One}
use Rattle.gg_flat.specs.declared.piece.Driver.{Driver}
use Rattle.gg_flat.specs.declared.piece.Driver.TheVariants.{Input, Held, MemoryWord, ReadRegister, Computed}
use Rattle.gg_flat.specs.declared.piece.Register.{Register}
use Rattle.gg_flat.specs.declared.piece.Reset as kept
use Rattle.gg_flat_tree.specs.declared.tree.InstancePort.{InstancePort}
use Rattle.gg_flat_tree.specs.Tree.{InstanceTree, IsInnermost, instance_at, joined}
use Rattle.gg_flat_tree.specs.Scoped.{IsScoped, IsVisible, IsWritten, IsOwnSink, IsChildsInput, IsInputOf}
use Rattle.gg_flat.proofs.ListLemmas.{some-item}
use Rattle.gg_shape_names.specs.Scope.{written}
use Rattle.gg_elab_sites.specs.Sites.{Site, site_below, module_at, sites_of}
use Rattle.gg_elab_sites.specs.Clocks.{clock_of, site_clocks}
use Rattle.gg_elab_sites.specs.Connection.{Connection, ConnectedTo, Zeroed, connection_in}
use Rattle.gg_elab_sites.specs.Flat.{scope_at, Drive, Outside, FlatSignal, flat_signal, flat_signals, drive_of}
use Rattle.gg_elab_sites.specs.IsFlat.{IsFlat, bindings_of, IsDrivenBy, IsRegisterOf, HasReset, HasNext, answer, number_of, drive_at, signals_of, memory_paths, count_before, is_outside, is_register}
use Rattle.gg_elab_tree.specs.IsTreeOf.{IsTreeOf, Pairwise, IsPortFor, signal_paths, signal_ports, is_input, memories_of}
use Rattle.gg_elab_sites.specs.Known.{types_of}
use Rattle.gg_elab_sites.specs.Meaning.{Signals, Bindings, Context, in_scope, named_if, TermNames, ConnectionNames}
use Rattle.gg_elab_sites.specs.Signals.{Cause, FromOutside, Connected, Expressed, Kept, Answered, Own, own_of_port, statement_signals, cause_of_port, field_name, dotted}
use Rattle.gg_elab_tree.proofs.PairwiseLemmas.{Pairwise-length}
use Rattle.gg_elab_tree.proofs.PlaceLemmas.{Placed, Under}
use Rattle.gg_elab_tree.proofs.RangeLemmas.{Ranges, count_to}
use Rattle.gg_elab_tree.proofs.InstanceLemmas.{signals_in, ranges, instance-for}
use Rattle.gg_elab_tree.proofs.OwnLemmas.{own_in, own-signal, own-inside, own-place, placed-known, Pairwise-at, front}
use Rattle.gg_elab_tree.proofs.TreeLemmas.{HasDistinctPaths, HasPlainNames, no_own, no_port, OwnPlace, own-place-of, port-at}
use Rattle.gg_elab_tree.proofs.ScopeOfTreeLemmas.{HasApartNames, own-is-innermost, ins-of, outs-of, port-of, ports_once-of, field-of, fields_once-of}
use Rattle.gg_elab_tree.proofs.NamesLemmas.NamedLemmas.{named-of, apart-of}
use Rattle.gg_elab_tree.proofs.VisibleLemmas.{HasKnownNames, IsPlain, IsPlainReference, visible}
use Rattle.gg_elab_tree.proofs.StopLemmas.{stop-of, stops_once-of}
use Rattle.gg_elab_tree.proofs.StopOutLemmas.{outs-with-stops}
use Rattle.gg_elab_tree.proofs.StopOwnLemmas.{all-cause}
use Rattle.gg_elab_tree.proofs.NamesLemmas.CauseLemmas.{name-some, name-dotless, AreNamesOfConnection, connected-names, statements-named, IsNamed, AreNamed, port-cause, port-count}

-- a name isn't empty and has no dot; the same of each name of a reference
plain-name : (a : List ℕ) → IsName a → IsPlain a
plain-name a h = record { some = name-some a h; dotless = name-dotless a h }

plain-reference : (r : Reference) → AreNamesOfReference r → IsPlainReference r
plain-reference (reference.Local a) h = plain-name a h
plain-reference (reference.PortOf a b) h = (plain-name a h.0, plain-name b h.1)
plain-reference (reference.FieldOf a b c) h = (plain-name a h.0, plain-name b h.1, plain-name c h.2)

-- a name that stands for signal t is known, and t is the place of its path
named-known : (known : Bool) (paths : List (List ℕ)) (path : List ℕ) (t : ℕ) → named_if known paths path ≡ Some t → (known ≡ true) × (place_of path paths ≡ Some t)
named-known true paths path t h = (refl, h)
named-known false paths path t h = absurd (cc)

module _ (circuit : CircuitTree) (flat : FlatCircuit) (tree : InstanceTree) (top : ℕ) (known_top : place_of circuit.name (module_names circuit) ≡ Some top) (is_flat : IsFlat circuit flat) (is_tree : IsTreeOf circuit tree) (distinct : HasDistinctPaths circuit) (plain : HasPlainNames circuit) (names : HasApartNames circuit) (known : HasKnownNames circuit) (are_names : AreNamesOfCircuit circuit) where
  abbrev Stands : ℕ → Site → Type 0
  Stands k x = Placed (length circuit.modules) circuit.modules (sites_of circuit) k x

  abbrev all_signals : Signals
  all_signals = signals_of (flat_signals (types_of circuit) circuit.modules (sites_of circuit))

  abbrev bindings : Bindings
  bindings = bindings_of (types_of circuit) (flat_signals (types_of circuit) circuit.modules (sites_of circuit)) (memories_of circuit)

  -- where the names of a site are written
  abbrev context_at : Site → Context
  context_at x = in_scope bindings (scope_at x)

  abbrev from_site : ℕ → ℕ
  from_site k = count_to (signals_in circuit) (sites_of circuit) k

  -- what an expression names at a site is visible there
  term-visible : (k : ℕ) (x : Site) → Stands k x → (e : Term) → AreNamesOfTerm e → (t : ℕ) → TermNames (context_at x) t e → IsVisible tree k t
  term-visible k x p (NamedTerm r) h t n =
      let here = named-known (is_some (types_of circuit x.number r)) (signal_paths circuit) (joined x.path (written r)) t n in
      visible circuit flat tree top known_top is_flat is_tree distinct plain names known k x p r (plain-reference r h) here.0 t here.1
  term-visible k x p (ConstantTerm l) h t n = absurd n
  term-visible k x p (UnaryTerm op a) h t n = term-visible k x p a h t n
  term-visible k x p (BinaryTerm op a b) h t (inl n) = term-visible k x p a h.0 t n
  term-visible k x p (BinaryTerm op a b) h t (inr n) = term-visible k x p b h.1 t n
  term-visible k x p (FixedTerm op a i j) h t n = term-visible k x p a h t n
  term-visible k x p (MuxTerm c a b) h t (inl n) = term-visible k x p c h.0 t n
  term-visible k x p (MuxTerm c a b) h t (inr (inl n)) = term-visible k x p a h.1 t n
  term-visible k x p (MuxTerm c a b) h t (inr (inr n)) = term-visible k x p b h.2 t n

  connection-visible : (k : ℕ) (x : Site) → Stands k x → (c : Option Connection) → AreNamesOfConnection c → (t : ℕ) → ConnectionNames (context_at x) t c → IsVisible tree k t
  connection-visible k x p None h t n = absurd n
  connection-visible k x p (Some Zeroed) h t n = absurd n
  connection-visible k x p (Some (ConnectedTo e)) h t n = term-visible k x p e h t n

  statements_of : (x : Site) → All AreNamesOfStatement (module_at circuit.modules x.number).statements
  statements_of x = statements-named circuit.modules x.number are_names.of_modules

  connected-visible : (k : ℕ) (x : Site) → Stands k x → (name : List ℕ) (t : ℕ) → ConnectionNames (context_at x) t (connection_in (module_at circuit.modules x.number).statements name) → IsVisible tree k t
  connected-visible k x p name t n = connection-visible k x p (connection_in (module_at circuit.modules x.number).statements name) (connected-names (module_at circuit.modules x.number).statements name (statements_of x)) t n

  -- ---- drives

  -- the site has an own signal of this name
  abbrev HasOwn : Site → List ℕ → Type 0
  HasOwn x name = (o : ℕ) × (o < length (own_in circuit x)) × ((get_or (own_in circuit x) o no_own).name ≡ name)

  own-visible : (k : ℕ) (x : Site) → Stands k x → (name : List ℕ) → HasOwn x name → (t : ℕ) → number_of (signal_paths circuit) (joined x.path name) ≡ t → IsVisible tree k t
  own-visible k x p name has t is =
      let at = own-place circuit k x p distinct.of_signals has.0 no_own has.1 in
      let path : number_of (signal_paths circuit) (joined x.path (get_or (own_in circuit x) has.0 no_own).name) ≡ number_of (signal_paths circuit) (joined x.path name) = ap (λ n. number_of (signal_paths circuit) (joined x.path n)) has.2 in
      let number : from_site k + has.0 ≡ t = sym (ap (λ o. unwrap_or o 0) at) ∙ path ∙ is in
      inl (subst (λ s. IsInnermost tree k s) number (own-is-innermost circuit flat tree top known_top is_flat is_tree distinct plain names k x p has.0 has.1))

  answer-visible : (k : ℕ) (x : Site) → Stands k x → (latency : Latency) (memory reader : ℕ) (addr en : List ℕ) → HasOwn x addr → HasOwn x en → (t : ℕ) → NamesSignal (answer latency memory reader (number_of (signal_paths circuit) (joined x.path addr)) (number_of (signal_paths circuit) (joined x.path en))) t → IsVisible tree k t
  answer-visible k x p Zero memory reader addr en has_addr has_en t (inl is) = own-visible k x p addr has_addr t is
  answer-visible k x p Zero memory reader addr en has_addr has_en t (inr is) = own-visible k x p en has_en t is
  answer-visible k x p (One under) memory reader addr en has_addr has_en t n = absurd n

  -- the driver of signal s does what `drive` asks for
  abbrev Driven : ℕ → Drive → Driver → Type 0
  Driven s drive driver = IsDrivenBy bindings flat.registers (count_before is_outside (flat_signals (types_of circuit) circuit.modules (sites_of circuit)) s) (count_before is_register (flat_signals (types_of circuit) circuit.modules (sites_of circuit)) s) (shape_at all_signals.shapes s) drive driver

  cause-visible : (k : ℕ) (x : Site) → Stands k x → (s : ℕ) (name : List ℕ) (cause : Cause) → IsNamed (HasOwn x) cause → (driver : Driver) → Driven s (drive_of circuit.modules x name cause) driver → (t : ℕ) → NamesSignal driver t → IsVisible tree k t
  cause-visible k x p s name FromOutside h driver is t n = absurd h
  cause-visible k x p s name Connected h driver is t n = connected-visible k x p name t ((is.stands.names t).0 (subst (λ d. NamesSignal d t) is.computed n))
  cause-visible k x p s name (Expressed value) h driver is t n = term-visible k x p value h t ((is.stands.names t).0 (subst (λ d. NamesSignal d t) is.computed n))
  cause-visible k x p s name (Kept clock reset) h driver is t n = absurd (subst (λ d. NamesSignal d t) is.held n)
  cause-visible k x p s name (Answered memory port place latency) h driver is t n =
      answer-visible k x p latency (number_of (memory_paths (memories_of circuit)) (joined x.path memory)) place (field_name memory port (codes "addr")) (field_name memory port (codes "en")) h.0 h.1 t (subst (λ d. NamesSignal d t) is n)

  -- ---- registers

  reset-visible : (k : ℕ) (x : Site) → Stands k x → (sink : Shape) (asked : Option given.Reset) (reset : Option kept.Reset) → IfSome asked AreNamesOfReset → HasReset (context_at x) sink asked reset → (t : ℕ) → ResetNames reset t → IsVisible tree k t
  reset-visible k x p sink None reset h is t n = absurd (subst (λ r. ResetNames r t) is n)
  reset-visible k x p sink (Some asked) None h is t n = absurd is
  reset-visible k x p sink (Some asked) (Some reset) h is t (inl n) = term-visible k x p asked.condition h.0 t ((is.0.names t).0 n)
  reset-visible k x p sink (Some asked) (Some reset) h is t (inr n) = term-visible k x p asked.init h.1 t ((is.1.names t).0 n)

  next-visible : (k : ℕ) (x : Site) → Stands k x → (sink : Shape) (c : Option Connection) (next : Option (List Node)) → AreNamesOfConnection c → HasNext (context_at x) sink c next → (t : ℕ) → NextNames next t → IsVisible tree k t
  next-visible k x p sink None next h is t n = absurd (subst (λ r. NextNames r t) is n)
  next-visible k x p sink (Some c) None h is t n = absurd is
  next-visible k x p sink (Some c) (Some line) h is t n = connection-visible k x p (Some c) h t ((is.names t).0 n)

  register-visible : (k : ℕ) (x : Site) → Stands k x → (sink : Shape) (name : List ℕ) (asked : Option given.Reset) (clock : Option ℕ) (register : Register) → IfSome asked AreNamesOfReset → IsRegisterOf (context_at x) sink asked (connection_in (module_at circuit.modules x.number).statements name) clock register → (t : ℕ) → RegisterNames register t → IsVisible tree k t
  register-visible k x p sink name asked clock register h is t (inl n) = reset-visible k x p sink asked register.reset h is.reset_is t n
  register-visible k x p sink name asked clock register h is t (inr n) =
      next-visible k x p sink (connection_in (module_at circuit.modules x.number).statements name) register.next (connected-names (module_at circuit.modules x.number).statements name (statements_of x)) is.next_is t n

  abbrev is_held : Driver → Bool
  is_held (Held r) = true
  is_held (Input i) = false
  is_held (MemoryWord m r a e) = false
  is_held (ReadRegister m r) = false
  is_held (Computed line) = false

  not-held : (driver other : Driver) (r : ℕ) → driver ≡ other → is_held other ≡ false → driver ≡ Held r → ⊥
  not-held driver other r e differs h = true≢false (sym (ap is_held h) ∙ ap is_held e ∙ differs)

  answer-not-held : (latency : Latency) (memory reader addr en : ℕ) → is_held (answer latency memory reader addr en) ≡ false
  answer-not-held Zero memory reader addr en = refl
  answer-not-held (One under) memory reader addr en = refl

  same-held : (a b : ℕ) → Held a ≡ Held b → a ≡ b
  same-held a b e = cc

  cause-register : (k : ℕ) (x : Site) → Stands k x → (s : ℕ) (name : List ℕ) (cause : Cause) → IsNamed (HasOwn x) cause → (driver : Driver) → Driven s (drive_of circuit.modules x name cause) driver → (r : ℕ) (register : Register) → driver ≡ Held r → slice_get flat.registers r ≡ Some register → (t : ℕ) → RegisterNames register t → IsVisible tree k t
  cause-register k x p s name FromOutside h driver is r register held at t n = absurd h
  cause-register k x p s name Connected h driver is r register held at t n = absurd (not-held driver (Computed is.line) r is.computed refl held)
  cause-register k x p s name (Expressed value) h driver is r register held at t n = absurd (not-held driver (Computed is.line) r is.computed refl held)
  cause-register k x p s name (Kept clock reset) h driver is r register held at t n =
      let number = same-held r (count_before is_register (flat_signals (types_of circuit) circuit.modules (sites_of circuit)) s) (sym held ∙ is.held) in
      let same : slice_index_or flat.registers (count_before is_register (flat_signals (types_of circuit) circuit.modules (sites_of circuit)) s) register ≡ register = ap (λ i. get_or flat.registers i register) (sym number) ∙ get_or_from_slice_get flat.registers r register register at in
      let led = clock_at (site_clocks circuit.modules x) (clock_of (module_at circuit.modules x.number) clock) in
      register-visible k x p (shape_at all_signals.shapes s) name reset led register h
      (subst (λ y. IsRegisterOf (context_at x) (shape_at all_signals.shapes s) reset (connection_in (module_at circuit.modules x.number).statements name) led y) same (is.register register)) t n
  cause-register k x p s name (Answered memory port place latency) h driver is r register held at t n =
      absurd (not-held driver (answer latency (number_of (memory_paths (memories_of circuit)) (joined x.path memory)) place (number_of (signal_paths circuit) (joined x.path (field_name memory port (codes "addr")))) (number_of (signal_paths circuit) (joined x.path (field_name memory port (codes "en"))))) r is
      (answer-not-held latency (number_of (memory_paths (memories_of circuit)) (joined x.path memory)) place (number_of (signal_paths circuit) (joined x.path (field_name memory port (codes "addr")))) (number_of (signal_paths circuit) (joined x.path (field_name memory port (codes "en"))))) held)

  -- ---- where a driver is written

  -- A signal's driver does what a statement of this site says.
  pub record WrittenAs (k s : ℕ) : Type 0 where
    pub site : Site
    pub stands : Placed (length circuit.modules) circuit.modules (sites_of circuit) k site
    pub name : List ℕ
    pub cause : Cause
    pub named : IsNamed (λ name. (o : ℕ) × (o < length (own_in circuit site)) × ((get_or (own_in circuit site) o no_own).name ≡ name)) cause
    pub driven : IsDrivenBy (bindings_of (types_of circuit) (flat_signals (types_of circuit) circuit.modules (sites_of circuit)) (memories_of circuit)) flat.registers (count_before is_outside (flat_signals (types_of circuit) circuit.modules (sites_of circuit)) s) (count_before is_register (flat_signals (types_of circuit) circuit.modules (sites_of circuit)) s) (shape_at (signals_of (flat_signals (types_of circuit) circuit.modules (sites_of circuit))).shapes s) (drive_of circuit.modules site name cause) (driver_at flat s)

  -- the driver of an own signal does what the signal's cause asks for
  own-driven : (k : ℕ) (x : Site) → Stands k x → (o : ℕ) → o < length (own_in circuit x) → Driven (from_site k + o) (drive_of circuit.modules x (get_or (own_in circuit x) o no_own).name (get_or (own_in circuit x) o no_own).cause) (driver_at flat (from_site k + o))
  own-driven k x p o lt =
      let inside = own-inside circuit k x p o lt in
      let drive : drive_at (flat_signals (types_of circuit) circuit.modules (sites_of circuit)) (from_site k + o) ≡ drive_of circuit.modules x (get_or (own_in circuit x) o no_own).name (get_or (own_in circuit x) o no_own).cause =
      get_or-map (λ (y : FlatSignal). y.drive) (flat_signals (types_of circuit) circuit.modules (sites_of circuit)) (from_site k + o) (flat_signal circuit.modules x no_own) Outside inside
      ∙ ap (λ (y : FlatSignal). y.drive) (own-signal circuit k x p o (flat_signal circuit.modules x no_own) no_own lt) in
      subst (λ d. Driven (from_site k + o) d (driver_at flat (from_site k + o))) drive (is_flat.drivers (from_site k + o) inside)

  -- the cause of a port's own signal follows from the port's direction
  pub port-own-cause : (x : Site) (i : ℕ) (d : Own) (q : Port) → i < length (signal_ports (module_at circuit.modules x.number)) → (get_or (own_in circuit x) i d).cause ≡ cause_of_port (get_or (signal_ports (module_at circuit.modules x.number)) i q).direction
  port-own-cause x i d q lt =
      let r = port-cause (module_at circuit.modules x.number).ports i d q lt in
      ap (λ (o : Own). o.cause) (front (filter_map own_of_port (module_at circuit.modules x.number).ports) (statement_signals (types_of circuit) x.number (module_at circuit.modules x.number).statements) i d r.0) ∙ r.1

  -- an own signal is a port's, or its cause names what IsNamed allows
  pub own-cases : (x : Site) (o : ℕ) → o < length (own_in circuit x) → (o < length (signal_ports (module_at circuit.modules x.number))) ⊎ IsNamed (HasOwn x) (get_or (own_in circuit x) o no_own).cause
  own-cases x o lt = go (cases_lt o (length (filter_map own_of_port (module_at circuit.modules x.number).ports)))
    where
      sum : length (own_in circuit x) ≡ length (filter_map own_of_port (module_at circuit.modules x.number).ports) + length (statement_signals (types_of circuit) x.number (module_at circuit.modules x.number).statements)
      sum = length-append (filter_map own_of_port (module_at circuit.modules x.number).ports) (statement_signals (types_of circuit) x.number (module_at circuit.modules x.number).statements)

      named : AreNamed (HasOwn x) (statement_signals (types_of circuit) x.number (module_at circuit.modules x.number).statements)
      named = all-cause (HasOwn x) (types_of circuit) x.number (module_at circuit.modules x.number).statements (statements_of x)
          (λ i d inside. (
            length (filter_map own_of_port (module_at circuit.modules x.number).ports) + i,
            omega (arith, inside, sum),
            ap (λ (y : Own). y.name)
                (get_or-append-add (filter_map own_of_port (module_at circuit.modules x.number).ports) (statement_signals (types_of circuit) x.number (module_at circuit.modules x.number).statements) i no_own
                ∙ get_or_default (statement_signals (types_of circuit) x.number (module_at circuit.modules x.number).statements) i no_own d inside),
          ))

      go : (o < length (filter_map own_of_port (module_at circuit.modules x.number).ports)) ⊎ (length (filter_map own_of_port (module_at circuit.modules x.number).ports) ≤ o) → (o < length (signal_ports (module_at circuit.modules x.number))) ⊎ IsNamed (HasOwn x) (get_or (own_in circuit x) o no_own).cause
      go (inl here) = inl (omega (arith, here, port-count (module_at circuit.modules x.number).ports))
      go (inr behind) = inr (subst (λ (y : Own). IsNamed (HasOwn x) y.cause)
          (sym (get_or-append_right (filter_map own_of_port (module_at circuit.modules x.number).ports) (statement_signals (types_of circuit) x.number (module_at circuit.modules x.number).statements) o no_own behind))
          (named (o - length (filter_map own_of_port (module_at circuit.modules x.number).ports)) no_own (omega (arith, lt, behind, sum))))

  tells : Ranges (length circuit.modules) circuit.modules (signals_in circuit) (sites_of circuit) tree
  tells = ranges circuit tree top known_top is_tree distinct.of_sites

  -- the own signal of an input port of a site is an input of the site's instance
  pub port-is-input : (k : ℕ) (x : Site) → Stands k x → (o : ℕ) (q : Port) (s : ℕ) → s ≡ from_site k + o → o < length (signal_ports (module_at circuit.modules x.number)) → (get_or (signal_ports (module_at circuit.modules x.number)) o q).direction ≡ direction.Input → IsInputOf tree k s
  port-is-input k x p o q s counted lt way =
      let h = (instance-for circuit tree top known_top is_tree distinct.of_sites k x p).ports in
      let size = Pairwise-length (IsPortFor circuit x) (signal_ports (module_at circuit.modules x.number)) (instance_at tree k).ports h in
      let inside : o < length (instance_at tree k).ports = omega (arith, lt, size) in
      let at = port-at circuit flat tree top known_top is_flat is_tree distinct plain k x p o no_port inside in
      let each = Pairwise-at (IsPortFor circuit x) (signal_ports (module_at circuit.modules x.number)) (instance_at tree k).ports o q no_port h lt in
      record {
        known = omega (arith, tells.same, placed-known circuit k x p);
        port = get_or (instance_at tree k).ports o no_port;
        listed = Contains-get_or (instance_at tree k).ports o no_port inside;
        is = at.0 ∙ sym counted;
        input = each.goes ∙ ap is_input way;
      }

  own-written : (k s : ℕ) → IsOwnSink tree k s → WrittenAs k s
  own-written k s sink = go (own-cases o.site o.offset o.known)
    where
      o : OwnPlace circuit flat tree top known_top is_flat is_tree distinct plain k s
      o = own-place-of circuit flat tree top known_top is_flat is_tree distinct plain k s sink.own

      driven : Driven s (drive_of circuit.modules o.site (get_or (own_in circuit o.site) o.offset no_own).name (get_or (own_in circuit o.site) o.offset no_own).cause) (driver_at flat s)
      driven = subst (λ i. Driven i (drive_of circuit.modules o.site (get_or (own_in circuit o.site) o.offset no_own).name (get_or (own_in circuit o.site) o.offset no_own).cause) (driver_at flat i)) (sym o.counted) (own-driven k o.site o.placed o.offset o.known)

      port : (lt : o.offset < length (signal_ports (module_at circuit.modules o.site.number))) → (way : Direction) → (get_or (signal_ports (module_at circuit.modules o.site.number)) o.offset (some-item (signal_ports (module_at circuit.modules o.site.number)) o.offset lt)).direction ≡ way → WrittenAs k s
      port lt direction.Input e = absurd (sink.inner (port-is-input k o.site o.placed o.offset (some-item (signal_ports (module_at circuit.modules o.site.number)) o.offset lt) s o.counted lt e))
      port lt direction.Output e = record {
        site = o.site;
        stands = o.placed;
        name = (get_or (own_in circuit o.site) o.offset no_own).name;
        cause = Connected;
        named = tt;
        driven = subst (λ cause. Driven s (drive_of circuit.modules o.site (get_or (own_in circuit o.site) o.offset no_own).name cause) (driver_at flat s)) (port-own-cause o.site o.offset no_own (some-item (signal_ports (module_at circuit.modules o.site.number)) o.offset lt) lt ∙ ap cause_of_port e) driven;
      }

      go : (o.offset < length (signal_ports (module_at circuit.modules o.site.number))) ⊎ IsNamed (HasOwn o.site) (get_or (own_in circuit o.site) o.offset no_own).cause → WrittenAs k s
      go (inl lt) = port lt (get_or (signal_ports (module_at circuit.modules o.site.number)) o.offset (some-item (signal_ports (module_at circuit.modules o.site.number)) o.offset lt)).direction refl
      go (inr named) = record {
        site = o.site;
        stands = o.placed;
        name = (get_or (own_in circuit o.site) o.offset no_own).name;
        cause = (get_or (own_in circuit o.site) o.offset no_own).cause;
        named = named;
        driven = driven;
      }

  pub goes-in : (way : Direction) → is_input way ≡ true → way ≡ direction.Input
  goes-in direction.Input e = refl
  goes-in direction.Output e = absurd (true≢false (sym e))

  input-written : (k s : ℕ) → IsChildsInput tree k s → WrittenAs k s
  input-written k s input = record {
    site = u.outer;
    stands = u.at_outer;
    name = dotted u.held.name (get_or (own_in circuit x) i no_own).name;
    cause = Connected;
    named = tt;
    driven = subst (λ j. Driven j (drive_of circuit.modules x (get_or (own_in circuit x) i no_own).name FromOutside) (driver_at flat j)) (sym counted) (subst (λ cause. Driven (from_site input.child + i) (drive_of circuit.modules x (get_or (own_in circuit x) i no_own).name cause) (driver_at flat (from_site input.child + i))) cause (own-driven input.child x u.at_place i at.1));
  }
    where
      known_child : input.child < length (sites_of circuit)
      known_child = omega (arith, input.input.known, tells.same)

      u : Under (length circuit.modules) circuit.modules (sites_of circuit) k input.child
      u = tells.under input.child k known_child input.parent

      x : Site
      x = site_below u.outer u.held

      i : ℕ
      i = input.input.listed.0

      at : ((get_or (instance_at tree input.child).ports i input.input.port).signal ≡ from_site input.child + i) × (i < length (own_in circuit x))
      at = port-at circuit flat tree top known_top is_flat is_tree distinct plain input.child (site_below u.outer u.held) u.at_place i input.input.port input.input.listed.1

      counted : s ≡ from_site input.child + i
      counted = sym input.input.is ∙ sym (ap (λ (q : InstancePort). q.signal) input.input.listed.2) ∙ at.0

      h : Pairwise (IsPortFor circuit x) (signal_ports (module_at circuit.modules x.number)) (instance_at tree input.child).ports
      h = (instance-for circuit tree top known_top is_tree distinct.of_sites input.child (site_below u.outer u.held) u.at_place).ports

      inside : i < length (signal_ports (module_at circuit.modules x.number))
      inside = omega (arith, input.input.listed.1, Pairwise-length (IsPortFor circuit x) (signal_ports (module_at circuit.modules x.number)) (instance_at tree input.child).ports h)

      q : Port
      q = some-item (signal_ports (module_at circuit.modules x.number)) i inside

      way : (get_or (signal_ports (module_at circuit.modules x.number)) i q).direction ≡ direction.Input
      way =
          let each = Pairwise-at (IsPortFor circuit x) (signal_ports (module_at circuit.modules x.number)) (instance_at tree input.child).ports i q input.input.port h inside in
          goes-in (get_or (signal_ports (module_at circuit.modules x.number)) i q).direction (sym each.goes ∙ ap (λ (y : InstancePort). y.is_input) input.input.listed.2 ∙ input.input.input)

      cause : (get_or (own_in circuit x) i no_own).cause ≡ FromOutside
      cause = port-own-cause x i no_own q inside ∙ ap cause_of_port way

  written-as : (k s : ℕ) → IsWritten tree k s → WrittenAs k s
  written-as k s (inl sink) = own-written k s sink
  written-as k s (inr input) = input-written k s input

  -- the flat circuit of a circuit keeps to the scopes of the circuit's tree
  pub scoped-of : IsScoped flat tree
  scoped-of = record {
    ins = ins-of circuit flat tree top known_top is_flat is_tree distinct plain names;
    outs = outs-with-stops circuit flat tree is_flat is_tree (outs-of circuit flat tree top known_top is_flat is_tree distinct plain names);
    stops = stop-of circuit flat tree top known_top is_flat is_tree distinct plain names;
    stops_once = stops_once-of circuit flat tree top known_top is_flat is_tree distinct plain names;
    ports = port-of circuit flat tree top known_top is_flat is_tree distinct plain names;
    ports_once = ports_once-of circuit flat tree top known_top is_flat is_tree distinct plain names;
    fields = field-of circuit flat tree top known_top is_flat is_tree distinct plain names;
    fields_once = fields_once-of circuit flat tree top known_top is_flat is_tree distinct plain names;
    named = named-of circuit flat tree top known_top is_flat is_tree distinct plain names;
    apart = apart-of circuit flat tree top known_top is_flat is_tree distinct plain names;
    drivers = λ k s t written n.
        let w = written-as k s written in
        cause-visible k w.site w.stands s w.name w.cause w.named (driver_at flat s) w.driven t n;
    registers = λ k s r t register written held at n.
        let w = written-as k s written in
        cause-register k w.site w.stands s w.name w.cause w.named (driver_at flat s) w.driven r register held at t n;
  }
