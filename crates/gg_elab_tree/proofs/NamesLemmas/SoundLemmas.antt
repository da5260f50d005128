-- Where no name of a circuit comes twice and all are names as the language allows them, the names of its modules are as the lemmas
-- on trees require.
use Rattle.std.proofs.Common.{◌≡◌, ◌⊎◌, inl, inr, ℕ, zero, suc, ◌-◌, ◌<◌, ◌≤◌, List, [], ◌∷◌, ◌++◌, is_some, length, get_or, sym, ap, ◌∙◌, subst, arith, length-append}
use Rattle.std.specs.Prelude.{flat_map, filter_map, Contains, All}
use Rattle.std.proofs.lemmas.Bool.{cases_lt}
use Rattle.std.proofs.Math.Seq.{get_or-append_right}
use Rattle.std.proofs.lemmas.List.Elements.{All-contains}
use Rattle.gg_ast.specs.inside.Names.{IsPortNamed, AreNamesOfStatement, AreNamesOfCircuit}
use Rattle.gg_ast.specs.declared.module.Port.{Port}
use Rattle.gg_ast.specs.Tree.{CircuitTree}
use Rattle.gg_shape_names.specs.Namespace.{name_by, port_names}
use Rattle.gg_shape_names.specs.inside.Namespace.{names_in}
use Rattle.gg_shape_names.specs.Repetitions.{repetitions}
use Rattle.gg_elab_sites.specs.Sites.{Site, module_at}
use Rattle.gg_flat.proofs.ListLemmas.{filter-cases}
use Rattle.gg_elab_tree.specs.IsTreeOf.{signal_ports}
use Rattle.gg_elab_sites.specs.Known.{types_of}
use Rattle.gg_types.specs.Memories.{type_shape}
use Rattle.gg_elab_sites.specs.Signals.{Own, OwnBank, own_of_port, statement_signals}
use Rattle.gg_elab_sites.proofs.NameLemmas.{Differ}
use Rattle.gg_elab_tree.proofs.ElementLemmas.{element}
use Rattle.gg_elab_tree.proofs.NamesLemmas.CauseLemmas.{name-some, name-dotless, name-colonless, statements-named, port-count}
use Rattle.gg_elab_tree.proofs.ChildLemmas.{child-known, field-known}
use Rattle.gg_elab_tree.proofs.NamesLemmas.DeclaredLemmas.{names-differ, module-declared, Differ-behind, Differ-parts, held-no-bank}
use Rattle.gg_elab_tree.proofs.FieldLemmas.{FieldPlace, memory-field}
use Rattle.gg_elab_tree.proofs.NamesLemmas.JoinLemmas.{dot-within}
use Rattle.gg_elab_tree.proofs.OwnLemmas.{own_in, port-own}
use Rattle.gg_elab_tree.proofs.ScopeOfTreeLemmas.{HasApartNames}
use Rattle.gg_elab_tree.proofs.TreeLemmas.{HasPlainNames, no_own}
use Rattle.gg_elab_tree.proofs.VisibleLemmas.{IsPlain, HasKnownNames}
use Rattle.gg_elab_tree.proofs.StopOwnLemmas.{StopPlace, stop-dotless, stop-colon, all-own}
use Rattle.gg_elab_tree.proofs.NamesLemmas.WordLemmas.{ports-named, held-word, BankWords, bank-word, DeclaredIn}

-- ---- lists

port-among : (ports : List Port) (p : Port) → Contains ports p → Contains (port_names ports) p.name
port-among [] p c = absurd (omega (arith, c.1))
port-among (q ∷ qs) p (zero, lt, is) = (0, omega arith, ap (λ (x : Port). x.name) is)
port-among (q ∷ qs) p (suc k, lt, is) = let r = port-among qs p (k, omega (arith, lt), is) in (suc r.0, omega (arith, r.1), r.2)

module _ (circuit : CircuitTree) (are_names : AreNamesOfCircuit circuit) (once : repetitions circuit ≡ []) where
  names_differ : (n : ℕ) → Differ (names_in (module_at circuit.modules n))
  names_differ n = names-differ (module_at circuit.modules n) (module-declared [] circuit.modules n once)

  declared_differ : (n : ℕ) → Differ (flat_map name_by (module_at circuit.modules n).statements)
  declared_differ n = Differ-behind (port_names (module_at circuit.modules n).ports) (flat_map name_by (module_at circuit.modules n).statements) (names_differ n)

  words : (n : ℕ) → All AreNamesOfStatement (module_at circuit.modules n).statements
  words n = statements-named circuit.modules n are_names.of_modules

  -- names of instances and memories have no dots
  pub plain-names : HasPlainNames circuit
  plain-names = record {
    of_instances = λ k h c. name-dotless h.name (held-word circuit.modules (module_at circuit.modules k).statements h (words k) c);
    of_memories = λ x b c. let w = bank-word (module_at circuit.modules x.number).statements b (words x.number) c in name-dotless b.name w.name;
  }

  port-word : (x : Site) (p : Port) → Contains (module_at circuit.modules x.number).ports p → IsPortNamed p
  port-word x p c = All-contains IsPortNamed (module_at circuit.modules x.number).ports p (ports-named circuit.modules x.number are_names.of_modules) c

  port-plain : (x : Site) (p : Port) → Contains (module_at circuit.modules x.number).ports p → ¬ Contains p.name 46
  port-plain x p c = name-dotless p.name (port-word x p c)

  -- What an own signal behind the ports is: it has the name of a statement, is a field of a memory, or a stop's.
  abbrev Behind : Site → ℕ → Type 0
  Behind x o = DeclaredIn (module_at circuit.modules x.number).statements (get_or (own_in circuit x) o no_own) ⊎ (FieldPlace (module_at circuit.modules x.number).statements (get_or (own_in circuit x) o no_own) ⊎ StopPlace (module_at circuit.modules x.number).statements (get_or (own_in circuit x) o no_own))

  same-own : (x : Site) (o : ℕ) → o < length (own_in circuit x) → (d : Own) → get_or (own_in circuit x) o no_own ≡ get_or (own_in circuit x) o d
  same-own x o lt d = let e = element (own_in circuit x) o lt in e.2 no_own ∙ sym (e.2 d)

  -- an own signal is a port's, or behind the ports
  own-is : (x : Site) (o : ℕ) → o < length (own_in circuit x) → (o < length (signal_ports (module_at circuit.modules x.number))) ⊎ Behind x o
  own-is x o lt = go (cases_lt o (length (filter_map own_of_port (module_at circuit.modules x.number).ports)))
    where
      go : (o < length (filter_map own_of_port (module_at circuit.modules x.number).ports)) ⊎ (length (filter_map own_of_port (module_at circuit.modules x.number).ports) ≤ o) → (o < length (signal_ports (module_at circuit.modules x.number))) ⊎ Behind x o
      go (inl here) = inl (omega (arith, here, port-count (module_at circuit.modules x.number).ports))
      go (inr behind) =
          let rest = all-own (types_of circuit) x.number (module_at circuit.modules x.number).statements (o - length (filter_map own_of_port (module_at circuit.modules x.number).ports)) no_own (words x.number)
          (omega (arith, lt, behind, length-append (filter_map own_of_port (module_at circuit.modules x.number).ports) (statement_signals (types_of circuit) x.number (module_at circuit.modules x.number).statements))) in
          inr (subst (λ y. DeclaredIn (module_at circuit.modules x.number).statements y ⊎ (FieldPlace (module_at circuit.modules x.number).statements y ⊎ StopPlace (module_at circuit.modules x.number).statements y))
          (sym (get_or-append_right (filter_map own_of_port (module_at circuit.modules x.number).ports) (statement_signals (types_of circuit) x.number (module_at circuit.modules x.number).statements) o no_own behind)) rest)

  -- the signal of a port has the port's name
  pub port-has : (x : Site) (o : ℕ) → o < length (signal_ports (module_at circuit.modules x.number)) → (p : Port) × Contains (module_at circuit.modules x.number).ports p × ((d : Own) → (get_or (own_in circuit x) o d).name ≡ p.name)
  port-has x o lt =
      let e = element (signal_ports (module_at circuit.modules x.number)) o lt in
      let own = port-own circuit x o e.0 lt in
      (e.0, (filter-cases (λ (q : Port). is_some (type_shape q.ty)) (module_at circuit.modules x.number).ports e.0 e.1).among, λ d. own.1 d ∙ ap (λ (q : Port). q.name) (e.2 e.0))

  -- a field has a dot in its name
  field-dotted : (x : Site) (o : Own) → FieldPlace (module_at circuit.modules x.number).statements o → Contains o.name 46
  field-dotted x o f =
      let name = memory-field f.bank.name f.bank.bank f.among.0 o f.among.1 in
      subst (λ (y : Own). Contains y.name 46) f.among.2 (subst (λ n. Contains n 46) (sym name.is) (dot-within f.bank.name (name.port ++ 46 ∷ name.field)))

  pub apart-names : HasApartNames circuit
  apart-names = record {
    of_ports = port-plain;
    of_own = λ x o lt. own-names x o lt (own-is x o lt);
    some_name = λ x b c. let w = bank-word (module_at circuit.modules x.number).statements b (words x.number) c in name-some b.name w.name;
    apart = λ x h b c k. held-no-bank circuit.modules (module_at circuit.modules x.number).statements h b (declared_differ x.number) c k;
  }
    where
      own-names : (x : Site) (o : ℕ) → o < length (own_in circuit x) → (o < length (signal_ports (module_at circuit.modules x.number))) ⊎ Behind x o → ((d : Own) → ¬ Contains (get_or (own_in circuit x) o d).name 46) ⊎ ((d : Own) → FieldPlace (module_at circuit.modules x.number).statements (get_or (own_in circuit x) o d))
      own-names x o known (inl lt) = let p = port-has x o lt in inl (λ d. subst (λ n. ¬ Contains n 46) (sym (p.2 d)) (port-plain x p.0 p.1))
      own-names x o known (inr (inl a)) = inl (λ d. subst (λ (y : Own). ¬ Contains y.name 46) (same-own x o known d) a.dotless)
      own-names x o known (inr (inr (inl a))) = inr (λ d. subst (FieldPlace (module_at circuit.modules x.number).statements) (same-own x o known d) a)
      own-names x o known (inr (inr (inr a))) = inl (λ d. subst (λ (y : Own). ¬ Contains y.name 46) (same-own x o known d) (stop-dotless (module_at circuit.modules x.number).statements (get_or (own_in circuit x) o no_own) a))

  pub known-names : HasKnownNames circuit
  known-names = record {
    of_bank_ports = λ x b p c k. of-ports x b p (bank-word (module_at circuit.modules x.number).statements b (words x.number) c) k;
    of_child = λ x h a b typed c named. child-known circuit x.number h a b (declared_differ x.number) typed c named;
    of_port = λ x p o c lt named. of-port x p o c named (own-is x o lt);
    of_field = λ x h a b c typed has named. field-known circuit x.number h a b c (declared_differ x.number) typed has named;
  }
    where
      of-ports : (x : Site) (b : OwnBank) (p : List ℕ) → BankWords b → Contains b.bank.readers p ⊎ Contains b.bank.writers p → IsPlain p
      of-ports x b p w (inl c) = record { some = name-some p (w.readers p c); dotless = name-dotless p (w.readers p c) }
      of-ports x b p w (inr c) = record { some = name-some p (w.writers p c); dotless = name-dotless p (w.writers p c) }

      of-port : (x : Site) (p : Port) (o : ℕ) → Contains (module_at circuit.modules x.number).ports p → ((d : Own) → (get_or (own_in circuit x) o d).name ≡ p.name) → (o < length (signal_ports (module_at circuit.modules x.number))) ⊎ Behind x o → o < length (signal_ports (module_at circuit.modules x.number))
      of-port x p o c named (inl lt) = lt
      of-port x p o c named (inr (inl a)) =
          absurd (Differ-parts (port_names (module_at circuit.modules x.number).ports) (flat_map name_by (module_at circuit.modules x.number).statements) p.name (names_differ x.number) (port-among (module_at circuit.modules x.number).ports p c)
          (subst (Contains (flat_map name_by (module_at circuit.modules x.number).statements)) (named no_own) a.among))
      of-port x p o c named (inr (inr (inl a))) =
          absurd (port-plain x p c (subst (λ n. Contains n 46) (named no_own) (field-dotted x (get_or (own_in circuit x) o no_own) a)))
      of-port x p o c named (inr (inr (inr a))) =
          absurd (name-colonless p.name (port-word x p c) (subst (λ n. Contains n 58) (named no_own) (stop-colon (module_at circuit.modules x.number).statements (get_or (own_in circuit x) o no_own) a)))
