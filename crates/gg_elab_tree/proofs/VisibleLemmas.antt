-- What a reference names at a site is visible in its instance: a signal of its own, or a port of an instance that it holds.
use Rattle.std.proofs.Common.{◌≡◌, ◌≢◌, ◌⊎◌, inl, inr, ℕ, zero, suc, ◌+◌, ◌-◌, ◌<◌, Bool, true, false, not, ◌&&◌, nat_eq, List, [], ◌∷◌, ◌++◌, Some, is_some, length, get_or, refl, sym, ap, ◌∙◌, subst, arith, true≢false}
use Rattle.std.specs.Prelude.{Contains}
use Rattle.std.specs.List.{list_all}
use Rattle.std.proofs.lemmas.List.{length-map}
use Rattle.std.proofs.lemmas.List.Elements.{Contains-get_or}
use Rattle.std.proofs.lemmas.Option.{same_Some}
use Rattle.gg_ast.specs.declared.expression.Reference.{Reference}
use Rattle.gg_ast.specs.declared.expression.Reference.TheVariants.{Local, PortOf, FieldOf}
use Rattle.gg_ast.specs.declared.module.Port.{Port}
use Rattle.gg_ast.specs.Places.{place_of}
use Rattle.gg_ast.specs.Tree.{CircuitTree, module_names}
use Rattle.gg_flat.specs.Circuit.{FlatCircuit}
use Rattle.gg_flat_tree.specs.Tree.{InstanceTree, IsInnermost, instance_at, joined}
use Rattle.gg_flat_tree.specs.Scoped.{IsVisible}
use Rattle.gg_shape_names.specs.Scope.{written}
use Rattle.gg_elab_sites.specs.Sites.{Held, Site, site_below, module_at, held_at, sites_of, top_site}
use Rattle.gg_elab_sites.specs.Flat.{FlatSignal, flat_signals}
use Rattle.gg_elab_sites.specs.IsFlat.{IsFlat}
use Rattle.gg_elab_tree.specs.IsTreeOf.{IsTreeOf, IsPortFor, signal_paths, signal_ports, site_paths}
use Rattle.gg_elab_sites.specs.Known.{types_of}
use Rattle.gg_elab_sites.specs.Signals.{Own, OwnBank}
use Rattle.gg_elab_sites.proofs.NameLemmas.{place_of-path}
use Rattle.gg_elab_tree.proofs.PairwiseLemmas.{Pairwise-length}
use Rattle.gg_elab_tree.proofs.NamesLemmas.JoinLemmas.{joined-once, joined-some, joined-twice}
use Rattle.gg_elab_tree.proofs.PlaceLemmas.{Placed, Under}
use Rattle.gg_elab_tree.proofs.RangeLemmas.{count_to, Ranges, owner, placed-same, own-innermost}
use Rattle.gg_elab_tree.proofs.InstanceLemmas.{signals_in, top_placed, held_at-place, path-place, ranges, instance-for, stands}
use Rattle.gg_elab_tree.proofs.OwnLemmas.{own_in, own-count, own-path, placed-known}
use Rattle.gg_elab_tree.proofs.HeldMemoryLemmas.{banks_in}
use Rattle.gg_elab_tree.proofs.TreeLemmas.{HasDistinctPaths, HasPlainNames, no_own, no_port, port-at}
use Rattle.gg_elab_tree.proofs.FieldLemmas.{FieldPlace, FieldName, memory-field}
use Rattle.gg_elab_tree.proofs.ScopeOfTreeLemmas.{HasApartNames}

-- A name that isn't empty and has no dot.
pub record IsPlain (name : List ℕ) : Type 0 where
  pub some : name ≢ []
  pub dotless : ¬ Contains name 46

-- all names of a reference are plain
abbrev pub IsPlainReference : Reference → Type 0
IsPlainReference (Local a) = IsPlain a
IsPlainReference (PortOf a b) = IsPlain a × IsPlain b
IsPlainReference (FieldOf a b c) = IsPlain a × IsPlain b × IsPlain c

-- What can be named in a module: where `i` is an instance, `i.p` is a port of it and `i.p.f` nothing; a signal with the name of a
-- port is that port's; and the ports of memories have plain names.
pub record HasKnownNames (circuit : CircuitTree) : Type 0 where
  pub of_bank_ports : (x : Site) (b : OwnBank) (p : List ℕ) → Contains (banks_in circuit x) b → Contains b.bank.readers p ⊎ Contains b.bank.writers p → IsPlain p
  pub of_child : (x : Site) (h : Held) (a b : List ℕ) → is_some (types_of circuit x.number (PortOf a b)) ≡ true → Contains (held_at circuit.modules x.number) h → h.name ≡ a → (p : Port) × Contains (module_at circuit.modules h.number).ports p × (p.name ≡ b)
  pub of_port : (x : Site) (p : Port) (o : ℕ) → Contains (module_at circuit.modules x.number).ports p → o < length (own_in circuit x) → ((d : Own) → (get_or (own_in circuit x) o d).name ≡ p.name) → o < length (signal_ports (module_at circuit.modules x.number))
  pub of_field : (x : Site) (h : Held) (a b c : List ℕ) → is_some (types_of circuit x.number (FieldOf a b c)) ≡ true → Contains (held_at circuit.modules x.number) h → h.name ≡ a → ⊥

-- a list whose bytes aren't dots contains no dot
pub without-dot : (w : List ℕ) → list_all (λ b. not (nat_eq b 46)) w ≡ true → ¬ Contains w 46
without-dot [] h c = absurd (omega (arith, c.1))
without-dot (b ∷ bs) h c = go (nat_eq b 46) refl h c (without-dot bs)
  where
    go : (t : Bool) → nat_eq b 46 ≡ t → (not t && list_all (λ b. not (nat_eq b 46)) bs) ≡ true → Contains (b ∷ bs) 46 → (list_all (λ b. not (nat_eq b 46)) bs ≡ true → ¬ Contains bs 46) → ⊥
    go true e h c next = absurd (true≢false (sym h))
    go false e h (zero, lt, is) next = absurd (true≢false (sym (ap (λ x. nat_eq x 46) is) ∙ e))
    go false e h (suc k, lt, is) next = next h (k, omega (arith, lt), is)

module _ (circuit : CircuitTree) (flat : FlatCircuit) (tree : InstanceTree) (top : ℕ) (known_top : place_of circuit.name (module_names circuit) ≡ Some top) (is_flat : IsFlat circuit flat) (is_tree : IsTreeOf circuit tree) (distinct : HasDistinctPaths circuit) (plain : HasPlainNames circuit) (names : HasApartNames circuit) (known : HasKnownNames circuit) where
  abbrev Stands : ℕ → Site → Type 0
  Stands k x = Placed (length circuit.modules) circuit.modules (sites_of circuit) k x

  -- Two sites with the same path are the same.
  pub record Same (k : ℕ) (x : Site) (i : ℕ) (y : Site) : Type 0 where
    pub place : k ≡ i
    pub site : x ≡ y

  pub same-path : (k : ℕ) (x : Site) (i : ℕ) (y : Site) → Stands k x → Stands i y → x.path ≡ y.path → Same k x i y
  same-path k x i y p q e =
      let place : k ≡ i = same_Some k i (sym (path-place circuit tree top known_top is_tree distinct.of_sites k x p) ∙ ap (λ path. place_of path (site_paths circuit)) e ∙ path-place circuit tree top known_top is_tree distinct.of_sites i y q) in
      record { place = place; site = placed-same (length circuit.modules) circuit.modules (sites_of circuit) i x y (subst (λ n. Stands n x) place p) q }

  -- A site whose path ends in a name is held by the site of the path before the name.
  pub record HeldBy (k : ℕ) (path name : List ℕ) : Type 0 where
    pub above : ℕ
    pub under : Under (length circuit.modules) circuit.modules (sites_of circuit) above k
    pub path_is : under.outer.path ≡ path
    pub name_is : under.held.name ≡ name

  pub held-by : (k : ℕ) (x : Site) → Stands k x → (path name : List ℕ) → IsPlain name → x.path ≡ joined path name → HeldBy k path name
  held-by zero x p path name named e =
      let top_is = placed-same (length circuit.modules) circuit.modules (sites_of circuit) 0 x (top_site top) p (top_placed circuit tree top known_top) in
      absurd (joined-some path name named.some (sym e ∙ ap (λ (y : Site). y.path) top_is))
  held-by (suc k) x p path name named e =
      let h = held_at-place circuit tree top known_top k (placed-known circuit (suc k) x p) in
      let u = h.under in
      let here = placed-same (length circuit.modules) circuit.modules (sites_of circuit) (suc k) (site_below u.outer u.held) x u.at_place p in
      let once = joined-once u.outer.path path u.held.name name (plain.of_instances u.outer.number u.held u.among) named.dotless (ap (λ (y : Site). y.path) here ∙ e) in
      record { above = h.above; under = u; path_is = once.0; name_is = once.1 }

  -- A signal, and the site that has it as its own.
  pub record Owned (t : ℕ) : Type 0 where
    pub place : ℕ
    pub site : Site
    pub stands : Stands place site
    pub offset : ℕ
    pub inside : offset < length (own_in circuit site)
    pub counted : t ≡ count_to (signals_in circuit) (sites_of circuit) place + offset
    pub inner : IsInnermost tree place t

  pub owned : (t : ℕ) → t < length (flat_signals (types_of circuit) circuit.modules (sites_of circuit)) → Owned t
  owned t lt =
      let o = owner (signals_in circuit) (sites_of circuit) t lt in
      let s = stands circuit tree top known_top o.place o.known in
      record {
        place = o.place;
        site = s.0;
        stands = s.1;
        offset = t - count_to (signals_in circuit) (sites_of circuit) o.place;
        inside = omega (arith, o.from, o.to, own-count circuit o.place s.0 s.1);
        counted = omega (arith, o.from);
        inner = own-innermost (length circuit.modules) circuit.modules (signals_in circuit) (sites_of circuit) tree (ranges circuit tree top known_top is_tree distinct.of_sites) o.place t o.known o.from o.to;
      }

  -- an own signal of the site with this path is visible there
  at-path : (k : ℕ) (x : Site) → Stands k x → (t : ℕ) → (o : Owned t) → o.site.path ≡ x.path → IsVisible tree k t
  at-path k x p t o e =
      let same = same-path o.place o.site k x o.stands p e in
      inl (subst (λ i. IsInnermost tree i t) same.place o.inner)

  -- no instance has the path of a memory
  not-memory : (k : ℕ) (x : Site) → Stands k x → (i : ℕ) (y : Site) → Stands i y → (b : OwnBank) → Contains (banks_in circuit y) b → x.path ≡ joined y.path b.name → ⊥
  not-memory k x p i y q b listed e =
      let named : IsPlain b.name = record { some = names.some_name y b listed; dotless = plain.of_memories y b listed } in
      let h = held-by k x p y.path b.name named e in
      let same = same-path h.above h.under.outer i y h.under.at_outer q h.path_is in
      names.apart y h.under.held b (subst (λ (z : Site). Contains (held_at circuit.modules z.number) h.under.held) same.site h.under.among) listed h.name_is

  -- a port of an instance that the site holds is visible there
  childs-port : (k : ℕ) (x : Site) → Stands k x → (a b : List ℕ) → IsPlain a → is_some (types_of circuit x.number (PortOf a b)) ≡ true → (t : ℕ) → (o : Owned t) → o.site.path ≡ joined x.path a → ((d : Own) → (get_or (own_in circuit o.site) o.offset d).name ≡ b) → IsVisible tree k t
  childs-port k x p a b named typed t o e is = inr (record {
    child = o.place;
    parent = parent;
    port = record {
      known = omega (arith, same_count, placed-known circuit o.place o.site o.stands);
      port = get_or (instance_at tree o.place).ports o.offset no_port;
      listed = Contains-get_or (instance_at tree o.place).ports o.offset no_port listed;
      is = port.0 ∙ sym o.counted;
    };
  })
    where
      h : HeldBy o.place x.path a
      h = held-by o.place o.site o.stands x.path a named e

      outer : Same h.above h.under.outer k x
      outer = same-path h.above h.under.outer k x h.under.at_outer p h.path_is

      tells : Ranges (length circuit.modules) circuit.modules (signals_in circuit) (sites_of circuit) tree
      tells = ranges circuit tree top known_top is_tree distinct.of_sites

      parent : (instance_at tree o.place).parent ≡ Some k
      parent = tells.parent o.place h.above h.under ∙ ap Some outer.place

      same_count : length tree.instances ≡ length (sites_of circuit)
      same_count = tells.same

      child : site_below h.under.outer h.under.held ≡ o.site
      child = placed-same (length circuit.modules) circuit.modules (sites_of circuit) o.place (site_below h.under.outer h.under.held) o.site h.under.at_place o.stands

      number : h.under.held.number ≡ o.site.number
      number = ap (λ (y : Site). y.number) child

      declared : (q : Port) × Contains (module_at circuit.modules h.under.held.number).ports q × (q.name ≡ b)
      declared = known.of_child x h.under.held a b typed (subst (λ (z : Site). Contains (held_at circuit.modules z.number) h.under.held) outer.site h.under.among) h.name_is

      among_ports : o.offset < length (signal_ports (module_at circuit.modules o.site.number))
      among_ports = known.of_port o.site declared.0 o.offset (subst (λ n. Contains (module_at circuit.modules n).ports declared.0) number declared.1) o.inside (λ d. is d ∙ sym declared.2)

      listed : o.offset < length (instance_at tree o.place).ports
      listed = omega (arith, among_ports, Pairwise-length (IsPortFor circuit o.site) (signal_ports (module_at circuit.modules o.site.number)) (instance_at tree o.place).ports (instance-for circuit tree top known_top is_tree distinct.of_sites o.place o.site o.stands).ports)

      port : ((get_or (instance_at tree o.place).ports o.offset no_port).signal ≡ count_to (signals_in circuit) (sites_of circuit) o.place + o.offset) × (o.offset < length (own_in circuit o.site))
      port = port-at circuit flat tree top known_top is_flat is_tree distinct plain o.place o.site o.stands o.offset no_port listed

  -- a reference to an own signal whose name has no dot: the signal is visible
  plain-visible : (k : ℕ) (x : Site) → Stands k x → (r : Reference) → IsPlainReference r → is_some (types_of circuit x.number r) ≡ true → (t : ℕ) → (o : Owned t) → ((d : Own) → ¬ Contains (get_or (own_in circuit o.site) o.offset d).name 46) → joined o.site.path (get_or (own_in circuit o.site) o.offset no_own).name ≡ joined x.path (written r) → IsVisible tree k t
  plain-visible k x p (Local a) named typed t o dotless e =
      at-path k x p t o (joined-once o.site.path x.path (get_or (own_in circuit o.site) o.offset no_own).name a (dotless no_own) named.dotless e).0
  plain-visible k x p (PortOf a b) named typed t o dotless e =
      let once = joined-once o.site.path (joined x.path a) (get_or (own_in circuit o.site) o.offset no_own).name b (dotless no_own) named.1.dotless (e ∙ joined-twice x.path a b named.0.some) in
      childs-port k x p a b named.0 typed t o once.0 (λ d. any-name (own_in circuit o.site) o.offset d no_own o.inside ∙ once.1)
    where
      any-name : (l : List Own) (i : ℕ) (d e : Own) → i < length l → (get_or l i d).name ≡ (get_or l i e).name
      any-name [] i d e lt = absurd (omega (arith, lt))
      any-name (y ∷ ys) zero d e lt = refl
      any-name (y ∷ ys) (suc i) d e lt = any-name ys i d e (omega (arith, lt))
  plain-visible k x p (FieldOf a b c) named typed t o dotless e =
      let twice = joined-twice x.path a (b ++ 46 ∷ c) named.0.some ∙ joined-twice (joined x.path a) b c named.1.some in
      let once = joined-once o.site.path (joined (joined x.path a) b) (get_or (own_in circuit o.site) o.offset no_own).name c (dotless no_own) named.2.dotless (e ∙ twice) in
      let h = held-by o.place o.site o.stands (joined x.path a) b named.1 once.0 in
      let g = held-by h.above h.under.outer h.under.at_outer x.path a named.0 h.path_is in
      let same = same-path g.above g.under.outer k x g.under.at_outer p g.path_is in
      absurd (known.of_field x g.under.held a b c typed (subst (λ (z : Site). Contains (held_at circuit.modules z.number) g.under.held) same.site g.under.among) g.name_is)

  -- a reference to a field of a memory: the field is visible
  field-visible : (k : ℕ) (x : Site) → Stands k x → (r : Reference) → IsPlainReference r → (t : ℕ) → (o : Owned t) → (b : OwnBank) → Contains (banks_in circuit o.site) b → (f : FieldName b.name b.bank (get_or (own_in circuit o.site) o.offset no_own).name) → joined o.site.path (get_or (own_in circuit o.site) o.offset no_own).name ≡ joined x.path (written r) → IsVisible tree k t
  field-visible k x p r named t o b listed f e = go r named e
    where
      port : IsPlain f.port
      port = known.of_bank_ports o.site b f.port listed f.of_port

      memory : List ℕ
      memory = joined o.site.path b.name

      path : joined o.site.path (get_or (own_in circuit o.site) o.offset no_own).name ≡ joined (joined (joined o.site.path b.name) f.port) f.field
      path =
          ap (joined o.site.path) f.is
          ∙ joined-twice o.site.path b.name (f.port ++ 46 ∷ f.field) (names.some_name o.site b listed)
          ∙ joined-twice (joined o.site.path b.name) f.port f.field port.some

      go : (r : Reference) → IsPlainReference r → joined o.site.path (get_or (own_in circuit o.site) o.offset no_own).name ≡ joined x.path (written r) → IsVisible tree k t
      go (Local a) named e =
          let once = joined-once x.path (joined (joined o.site.path b.name) f.port) a f.field named.dotless (without-dot f.field f.of_word) (sym e ∙ path) in
          let h = held-by k x p (joined o.site.path b.name) f.port port once.0 in
          absurd (not-memory h.above h.under.outer h.under.at_outer o.place o.site o.stands b listed h.path_is)
      go (PortOf a c) named e =
          let once = joined-once (joined x.path a) (joined (joined o.site.path b.name) f.port) c f.field named.1.dotless (without-dot f.field f.of_word) (sym (joined-twice x.path a c named.0.some) ∙ sym e ∙ path) in
          let twice = joined-once x.path (joined o.site.path b.name) a f.port named.0.dotless port.dotless once.0 in
          absurd (not-memory k x p o.place o.site o.stands b listed twice.0)
      go (FieldOf a c d) named e =
          let whole = joined-twice x.path a (c ++ 46 ∷ d) named.0.some ∙ joined-twice (joined x.path a) c d named.1.some in
          let once = joined-once (joined (joined x.path a) c) (joined (joined o.site.path b.name) f.port) d f.field named.2.dotless (without-dot f.field f.of_word) (sym whole ∙ sym e ∙ path) in
          let twice = joined-once (joined x.path a) (joined o.site.path b.name) c f.port named.1.dotless port.dotless once.0 in
          let thrice = joined-once x.path o.site.path a b.name named.0.dotless (plain.of_memories o.site b listed) twice.0 in
          at-path k x p t o (sym thrice.0)

  -- what a reference names is visible where the reference is written
  pub visible : (k : ℕ) (x : Site) → Stands k x → (r : Reference) → IsPlainReference r → is_some (types_of circuit x.number r) ≡ true → (t : ℕ) → place_of (joined x.path (written r)) (signal_paths circuit) ≡ Some t → IsVisible tree k t
  visible k x p r named typed t at = go (names.of_own o.site o.offset o.inside)
    where
      found : (t < length (signal_paths circuit)) × (get_or (signal_paths circuit) t [] ≡ joined x.path (written r))
      found = place_of-path (signal_paths circuit) (joined x.path (written r)) t at

      o : Owned t
      o = owned t (omega (arith, found.0, length-map (flat_signals (types_of circuit) circuit.modules (sites_of circuit)) (λ (s : FlatSignal). s.path)))

      path : joined o.site.path (get_or (own_in circuit o.site) o.offset no_own).name ≡ joined x.path (written r)
      path =
          sym (own-path circuit o.place o.site o.stands o.offset [] no_own o.inside)
          ∙ ap (λ i. get_or (signal_paths circuit) i []) (sym o.counted)
          ∙ found.1

      go : ((d : Own) → ¬ Contains (get_or (own_in circuit o.site) o.offset d).name 46) ⊎ ((d : Own) → FieldPlace (module_at circuit.modules o.site.number).statements (get_or (own_in circuit o.site) o.offset d)) → IsVisible tree k t
      go (inl dotless) = plain-visible k x p r named typed t o dotless path
      go (inr field) =
          let f = field no_own in
          let name = memory-field f.bank.name f.bank.bank f.among.0 (get_or (own_in circuit o.site) o.offset no_own) f.among.1 in
          field-visible k x p r named t o f.bank (f.place, f.known, f.is f.bank) (subst (λ (y : Own). FieldName f.bank.name f.bank.bank y.name) f.among.2 name) path
