-- The signals of a module's stops among its own.
use Rattle.std.proofs.Common.{◌≡◌, ◌⊎◌, inl, inr, ℕ, ◌-◌, ◌<◌, ◌≤◌, List, ◌++◌, Some, length, get_or, map, sym, ap, ◌∙◌, subst, arith, length-append}
use Rattle.std.specs.Prelude.{flat_map, filter_map, Contains, All}
use Rattle.std.proofs.lemmas.Bool.{cases_lt}
use Rattle.std.proofs.Math.Seq.{get_or-append_right}
use Rattle.std.proofs.lemmas.List.Elements.{All-contains}
use Rattle.gg_ast.specs.inside.Names.{AreNamesOfTerm, AreNamesOfKind, AreNamesOfStatement}
use Rattle.gg_ast.specs.declared.statement.Stmt.{Stmt}
use Rattle.gg_ast.specs.declared.statement.StmtKind.{StmtKind}
use Rattle.gg_ast.specs.declared.statement.StmtKind.TheVariants as says
use Rattle.gg_elab_sites.specs.Signals.{Types, Asked, Own, OwnStop, own_of_kind, own_stops, statement_signals, stop_of_kind, stop_signal}
use Rattle.gg_elab_sites.proofs.AmongLemmas.{element-at, from-filter_map, from-map}
use Rattle.gg_elab_sites.proofs.StopLemmas.{numbered-among, stop_name-plain, stop_name-colon}
use Rattle.gg_elab_tree.proofs.NamesLemmas.CauseLemmas.{AreHad, AreNamed, IsNamed, named-append, statements-cause}
use Rattle.gg_elab_tree.proofs.FieldLemmas.{FieldPlace}
use Rattle.gg_elab_tree.proofs.OwnLemmas.{front}
use Rattle.gg_elab_tree.proofs.NamesLemmas.WordLemmas.{DeclaredIn, statement-own}

-- ---- names

kind-names : (kind : StmtKind) (asked : Asked) → stop_of_kind kind ≡ Some asked → AreNamesOfKind kind → AreNamesOfTerm asked.clock × AreNamesOfTerm asked.condition
kind-names (says.Wire name ty) asked e n = absurd (cc)
kind-names (says.Node name value) asked e n = absurd (cc)
kind-names (says.Register name ty clock reset) asked e n = absurd (cc)
kind-names (says.Instance name m) asked e n = absurd (cc)
kind-names (says.Memory name fields) asked e n = absurd (cc)
kind-names (says.Connect sink source) asked e n = absurd (cc)
kind-names (says.Invalid sink) asked e n = absurd (cc)
kind-names says.Skip asked e n = absurd (cc)
kind-names (says.Stop clock condition code label) asked e n =
    let same : (record { clock = clock; condition = condition }) ≡ asked = cc in
    (subst (λ (a : Asked). AreNamesOfTerm a.clock) same n.0, subst (λ (a : Asked). AreNamesOfTerm a.condition) same n.1)
kind-names (says.Report word arguments label) asked e n = absurd (cc)

-- the names in a stop of a module are names
pub stop-names : (ss : List Stmt) (stop : OwnStop) → All AreNamesOfStatement ss → Contains (own_stops ss) stop → AreNamesOfTerm stop.asked.clock × AreNamesOfTerm stop.asked.condition
stop-names ss stop words c =
    let n = numbered-among 0 (filter_map (λ (s : Stmt). stop_of_kind s.kind) ss) stop c in
    let m = from-filter_map (λ (s : Stmt). stop_of_kind s.kind) ss stop.asked n.among in
    kind-names m.of.kind stop.asked m.made (All-contains AreNamesOfStatement ss m.of words m.among)

-- ---- signals

-- The signal is that of one of the stops of these statements.
pub record StopPlace (ss : List Stmt) (o : Own) : Type 0 where
  pub stop : OwnStop
  pub among : Contains (own_stops ss) stop
  pub is : stop_signal stop ≡ o

pub stop-place : (ss : List Stmt) (o : Own) → Contains (map stop_signal (own_stops ss)) o → StopPlace ss o
stop-place ss o c = let m = from-map stop_signal (own_stops ss) o c in record { stop = m.of; among = m.among; is = m.made }

-- its name has no dot
pub stop-dotless : (ss : List Stmt) (o : Own) → StopPlace ss o → ¬ Contains o.name 46
stop-dotless ss o p =
    let n = numbered-among 0 (filter_map (λ (s : Stmt). stop_of_kind s.kind) ss) p.stop p.among in
    subst (λ name. ¬ Contains name 46) (sym n.named ∙ ap (λ (x : Own). x.name) p.is) (stop_name-plain n.number)

-- it has a colon
pub stop-colon : (ss : List Stmt) (o : Own) → StopPlace ss o → Contains o.name 58
stop-colon ss o p =
    let n = numbered-among 0 (filter_map (λ (s : Stmt). stop_of_kind s.kind) ss) p.stop p.among in
    subst (λ name. Contains name 58) (sym n.named ∙ ap (λ (x : Own). x.name) p.is) (stop_name-colon n.number)

-- the signals of what statements declare, and those of their stops
abbrev declared_by : Types → ℕ → List Stmt → List Own
declared_by types k ss = flat_map (λ (s : Stmt). own_of_kind types k s.kind) ss

abbrev stopped_by : List Stmt → List Own
stopped_by ss = map stop_signal (own_stops ss)

module _ (Has : List ℕ → Type 0) (types : Types) (k : ℕ) (ss : List Stmt) (words : All AreNamesOfStatement ss) where
  stops-cause : AreNamed Has (stopped_by ss)
  stops-cause i d lt =
      let e = element-at (stopped_by ss) i lt in
      let p = stop-place ss e.element e.among in
      subst (λ (o : Own). IsNamed Has o.cause) (p.is ∙ sym (e.is d)) (stop-names ss p.stop words p.among).1

  -- what gives a module's own signals their values has names alone
  pub all-cause : AreHad Has (statement_signals types k ss) → AreNamed Has (statement_signals types k ss)
  all-cause had =
      named-append Has (declared_by types k ss) (stopped_by ss)
      (statements-cause Has types k ss words (λ i d lt. subst (λ (o : Own). Has o.name) (front (declared_by types k ss) (stopped_by ss) i d lt) (had i d (omega (arith, lt, length-append (declared_by types k ss) (stopped_by ss))))))
      stops-cause

-- each own signal of statements has the name of one of them, or is a field of the memory of one, or a stop's
pub all-own : (types : Types) (k : ℕ) (ss : List Stmt) (i : ℕ) (d : Own) → All AreNamesOfStatement ss → i < length (statement_signals types k ss) → DeclaredIn ss (get_or (statement_signals types k ss) i d) ⊎ (FieldPlace ss (get_or (statement_signals types k ss) i d) ⊎ StopPlace ss (get_or (statement_signals types k ss) i d))
all-own types k ss i d words lt = go (cases_lt i (length (declared_by types k ss)))
  where
    first : DeclaredIn ss (get_or (declared_by types k ss) i d) ⊎ FieldPlace ss (get_or (declared_by types k ss) i d) → DeclaredIn ss (get_or (declared_by types k ss) i d) ⊎ (FieldPlace ss (get_or (declared_by types k ss) i d) ⊎ StopPlace ss (get_or (declared_by types k ss) i d))
    first (inl a) = inl a
    first (inr a) = inr (inl a)

    go : (i < length (declared_by types k ss)) ⊎ (length (declared_by types k ss) ≤ i) → DeclaredIn ss (get_or ((declared_by types k ss) ++ (stopped_by ss)) i d) ⊎ (FieldPlace ss (get_or ((declared_by types k ss) ++ (stopped_by ss)) i d) ⊎ StopPlace ss (get_or ((declared_by types k ss) ++ (stopped_by ss)) i d))
    go (inl inside) = subst (λ o. DeclaredIn ss o ⊎ (FieldPlace ss o ⊎ StopPlace ss o)) (sym (front (declared_by types k ss) (stopped_by ss) i d inside)) (first (statement-own types k ss i d words inside))
    go (inr behind) =
        let e = element-at (stopped_by ss) (i - length (declared_by types k ss)) (omega (arith, lt, behind, length-append (declared_by types k ss) (stopped_by ss))) in
        inr (inr (stop-place ss (get_or ((declared_by types k ss) ++ (stopped_by ss)) i d) (subst (Contains (stopped_by ss)) (sym (e.is d) ∙ sym (get_or-append_right (declared_by types k ss) (stopped_by ss) i d behind)) e.among)))
