-- A line of one instance is the line of another instance of its module, with other numbers of signals.
use Rattle.std.proofs.Common.{◌≡◌, ℕ, ◌+◌, ◌-◌, ◌<◌, ◌≤◌, List, [], ◌∷◌, map, Option, Some, None, Result, Ok, Err, refl, sym, ap, ap₂, ◌∙◌, arith, option_map, inl, inr, Bool, true, false, is_some}
use Rattle.std.specs.Prelude.{slice_get}
use Rattle.std.proofs.lemmas.List.{map-append, length-map}
use Rattle.std.proofs.lemmas.Simd.{map-map}
use Rattle.std.proofs.lemmas.Option.{get_or_from_slice_get}
use Rattle.gg_bits.specs.declared.types.Bad.{Bad}
use Rattle.gg_bits.specs.Shape.{Shape, uint}
use Rattle.gg_bits.specs.ResultType.{type1, type2, type_const, type_mux, is_condition}
use Rattle.gg_ast.specs.declared.expression.Reference.{Reference}
use Rattle.gg_ast.specs.Places.{place_of}
use Rattle.gg_ast.specs.Term.{Term, NamedTerm, ConstantTerm, UnaryTerm, BinaryTerm, FixedTerm, MuxTerm}
use Rattle.gg_flat.specs.declared.line.Node.{Node}
use Rattle.gg_flat.specs.declared.line.Op.{Op}
use Rattle.gg_flat.specs.declared.line.Op.TheVariants.{Ref, Literal, One, Two, Fix, Mux}
use Rattle.gg_flat.specs.Line.{shape_at}
use Rattle.gg_flat_tree.specs.Tree.{joined}
use Rattle.gg_shape_names.specs.Scope.{written}
use Rattle.gg_types.specs.Literal.{literal_value}
use Rattle.gg_types.specs.Types.{literal_shape}
use Rattle.gg_elab_sites.specs.Connection.{Connection, ConnectedTo, Zeroed}
use Rattle.gg_elab_sites.specs.Flat.{Scope}
use Rattle.gg_elab_sites.specs.Lines.{Laid, laid_node, laid, with_laid, with_signal, with_literal, with_result, with_term, last_of, cut_line, taken_line, connected_line, condition_line}
use Rattle.gg_elab_sites.specs.Meaning.{Signals, Bindings, in_scope, named, named_if, shape_named, accepted, term_shape, takes, TermNames, ConnectionNames}
use Rattle.gg_elab_sites.proofs.NameLemmas.{Differ, place_of-at, place_of-path}
use Rattle.gg_elab_tree.proofs.NamesLemmas.ApartLemmas.{joined-same}
use Rattle.gg_part.specs.Moved.{shifted}
use Rattle.gg_front.proofs.LikeSites.{AreLikeScopes}
use Rattle.gg_elab_sites.proofs.OneLemmas.{line-same}
use Rattle.gg_flat.specs.Renaming.{renamed_line, renamed_node, renamed_op}

-- ---- numbers

-- The paths from place f on and those from place g on are the same behind two paths.
pub record SamePaths (paths : List (List ℕ)) (from to : List ℕ) (f g size : ℕ) : Type 0 where
  pub at : (s : ℕ) → s < size → (w : List ℕ) × (slice_get paths (f + s) ≡ Some (joined from w)) × (slice_get paths (g + s) ≡ Some (joined to w))

pub SamePaths-turned : (paths : List (List ℕ)) (from to : List ℕ) (f g size : ℕ) → SamePaths paths from to f g size → SamePaths paths to from g f size
SamePaths-turned paths from to f g size h = record { at = λ s lt. let a = h.at s lt in (a.0, a.2, a.1) }

-- the number of a path, and that of the same behind another path
pub number-moved : (paths : List (List ℕ)) (from to : List ℕ) (f g size : ℕ) → Differ paths → SamePaths paths from to f g size → (w : List ℕ) (t : ℕ) → place_of (joined from w) paths ≡ Some t → f ≤ t → t < f + size → place_of (joined to w) paths ≡ Some (shifted f g t)
number-moved paths from to f g size differ h w t is low high =
    let a = h.at (t - f) (omega (arith, low, high)) in
    let at : f + (t - f) ≡ t = omega (arith, low) in
    let found = place_of-path paths (joined from w) t is in
    let there : slice_get paths t ≡ Some (joined from a.0) = ap (λ (k : ℕ). slice_get paths k) (sym at) ∙ a.1 in
    let same : w ≡ a.0 = joined-same from w a.0 (sym found.1 ∙ get_or_from_slice_get paths t (joined from a.0) [] there) in
    let turned : g + (t - f) ≡ shifted f g t = omega arith in
    ap (λ (k : List ℕ). place_of (joined to k) paths) same
    ∙ place_of-at paths (joined to a.0) (g + (t - f)) a.2 differ
    ∙ ap Some turned

-- ---- nodes

abbrev pub moved_laid : (ℕ → ℕ) → Laid → Laid
moved_laid to n = record { shape = n.shape; op = renamed_op to n.op }

abbrev laid_made : Shape → Op → Laid
laid_made sort op = record { shape = sort; op = op }

node-moved : (to : ℕ → ℕ) (x : List Laid) (sort : Shape) (op : Op) → with_laid (map (moved_laid to) x) sort (renamed_op to op) ≡ map (moved_laid to) (with_laid x sort op)
node-moved to x sort op = sym (map-append (moved_laid to) x (laid_made sort op ∷ []))

result-moved : (to : ℕ → ℕ) (x : List Laid) (r : Result Shape Bad) (op : Op) → with_result (map (moved_laid to) x) r (renamed_op to op) ≡ map (moved_laid to) (with_result x r op)
result-moved to x (Ok sort) op = node-moved to x sort op
result-moved to x (Err bad) op = node-moved to x (uint 1) (Literal (record { 0 = 0 }))

literal-moved : (to : ℕ → ℕ) (x : List Laid) (o : Option Shape) (n : ℕ) → with_literal (map (moved_laid to) x) o n ≡ map (moved_laid to) (with_literal x o n)
literal-moved to x None n = node-moved to x (uint 1) (Literal (record { 0 = 0 }))
literal-moved to x (Some sort) n = node-moved to x sort (Literal (record { 0 = n }))

signal-moved : (signals : Signals) (to : ℕ → ℕ) (x : List Laid) (o : Option ℕ) → shape_named signals (option_map to o) ≡ shape_named signals o → with_signal signals (map (moved_laid to) x) (option_map to o) ≡ map (moved_laid to) (with_signal signals x o)
signal-moved signals to x None e = node-moved to x (uint 1) (Literal (record { 0 = 0 }))
signal-moved signals to x (Some s) e = ap (λ (sort : Shape). with_laid (map (moved_laid to) x) sort (Ref (to s))) e ∙ node-moved to x (shape_at signals.shapes s) (Ref s)

cut-moved : (to : ℕ → ℕ) (taken : Bool) (sink : Shape) (x : List Laid) → cut_line taken sink (map (moved_laid to) x) ≡ map (moved_laid to) (cut_line taken sink x)
cut-moved to true sink x = refl
cut-moved to false sink x = node-moved to x sink (Literal (record { 0 = 0 }))

last-moved : (to : ℕ → ℕ) (x : List Laid) → last_of (map (moved_laid to) x) ≡ last_of x
last-moved to x = ap (λ (n : ℕ). n - 1) (length-map x (moved_laid to))

-- a line whose nodes are those of another, with other numbers
pub line-moved : (to : ℕ → ℕ) (one other : List Node) → laid other ≡ map (moved_laid to) (laid one) → other ≡ renamed_line to one
line-moved to one other h = line-same other (renamed_line to one) (h ∙ map-map (moved_laid to) laid_node one ∙ sym (map-map laid_node (renamed_node to) one))

-- ---- references

module _ (bindings : Bindings) (from to : List ℕ) (f g size : ℕ) (differ : Differ bindings.signals.paths) (paths : SamePaths bindings.signals.paths from to f g size) (shapes : (s : ℕ) → s < size → shape_at bindings.signals.shapes (g + s) ≡ shape_at bindings.signals.shapes (f + s)) where
  -- a reference in one scope, and in another that is like it
  pub record Moves (a b : Scope) (r : Reference) : Type 0 where
    pub number : named (in_scope bindings b) r ≡ option_map (shifted f g) (named (in_scope bindings a) r)
    pub shape : shape_named bindings.signals (named (in_scope bindings b) r) ≡ shape_named bindings.signals (named (in_scope bindings a) r)

  abbrev IsInside : ℕ → ℕ → Type 0
  IsInside first t = (first ≤ t) × (t < first + size)

  named-by : (known : Bool) (path : List ℕ) (t : ℕ) → named_if known bindings.signals.paths path ≡ Some t → (known ≡ true) × (place_of path bindings.signals.paths ≡ Some t)
  named-by true path t h = (refl, h)
  named-by false path t h = absurd (cc)

  reference-at : (a b : Scope) (r : Reference) → AreLikeScopes from to a b → (t : ℕ) → named (in_scope bindings a) r ≡ Some t → IsInside f t → named (in_scope bindings b) r ≡ Some (shifted f g t)
  reference-at a b r l t is inside =
      let m = l.moved (written r) in
      let here = named-by (is_some (bindings.types a.number r)) (joined a.path (written r)) t is in
      let found : place_of (joined to m.rest) bindings.signals.paths ≡ Some (shifted f g t) =
      number-moved bindings.signals.paths from to f g size differ paths m.rest t (ap (λ (p : List ℕ). place_of p bindings.signals.paths) (sym m.one) ∙ here.1) inside.0 inside.1 in
      ap (λ (k : Bool). named_if k bindings.signals.paths (joined b.path (written r))) (ap (λ (n : ℕ). is_some (bindings.types n r)) (sym l.number) ∙ here.0)
      ∙ ap (λ (p : List ℕ). place_of p bindings.signals.paths) m.other
      ∙ found

  shape-at : (t : ℕ) → IsInside f t → shape_at bindings.signals.shapes (shifted f g t) ≡ shape_at bindings.signals.shapes t
  shape-at t inside =
      ap (shape_at bindings.signals.shapes) (omega (arith, inside.0))
      ∙ shapes (t - f) (omega (arith, inside.0, inside.1))
      ∙ ap (shape_at bindings.signals.shapes) (omega (arith, inside.0))

  -- what the one names and what the other names, as far as it is known that these are signals of the two instances
  both : (a b : Scope) (r : Reference) (n m : Option ℕ) → named (in_scope bindings a) r ≡ n → named (in_scope bindings b) r ≡ m → ((t : ℕ) → n ≡ Some t → IsInside f t × (m ≡ Some (shifted f g t))) → ((t : ℕ) → m ≡ Some t → (k : ℕ) × (n ≡ Some k)) → Moves a b r
  both a b r None None one other here there = record { number = other ∙ sym (ap (option_map (shifted f g)) one); shape = ap (shape_named bindings.signals) (other ∙ sym one) }
  both a b r None (Some m) one other here there = let h = there m refl in absurd (let e = h.1 in cc)
  both a b r (Some n) m one other here there =
      let h = here n refl in record {
        number = other ∙ h.1 ∙ sym (ap (option_map (shifted f g)) one);
        shape = ap (shape_named bindings.signals) (other ∙ h.1) ∙ shape-at n h.0 ∙ sym (ap (shape_named bindings.signals) one);
      }

module _ (bindings : Bindings) (from to : List ℕ) (f g size : ℕ) (differ : Differ bindings.signals.paths) (paths : SamePaths bindings.signals.paths from to f g size) (shapes : (s : ℕ) → s < size → shape_at bindings.signals.shapes (g + s) ≡ shape_at bindings.signals.shapes (f + s)) (a b : Scope) (l : AreLikeScopes from to a b) where
  abbrev MovesHere : Reference → Type 0
  MovesHere r = Moves bindings from to f g size differ paths shapes a b r

  turned : AreLikeScopes to from b a
  turned = record { number = sym l.number; moved = λ name. let m = l.moved name in record { rest = m.rest; one = m.other; other = m.one } }

  -- a reference moves if what it names in the one scope and in the other is in the two instances
  pub reference-moves : (r : Reference) → ((t : ℕ) → named (in_scope bindings a) r ≡ Some t → (f ≤ t) × (t < f + size)) → ((t : ℕ) → named (in_scope bindings b) r ≡ Some t → (g ≤ t) × (t < g + size)) → MovesHere r
  reference-moves r here there =
      both bindings from to f g size differ paths shapes a b r (named (in_scope bindings a) r) (named (in_scope bindings b) r) refl refl
      (λ t e. (here t e, reference-at bindings from to f g size differ paths shapes a b r l t e (here t e)))
      (λ t e. (shifted g f t, reference-at bindings to from g f size differ (SamePaths-turned bindings.signals.paths from to f g size paths) (λ s lt. sym (shapes s lt)) b a r turned t e (there t e)))

  -- ---- expressions

  -- what an expression names in the one scope is in the one instance, and in the other in the other
  pub record IsInBoth (e : Term) : Type 0 where
    pub here : (t : ℕ) → TermNames (in_scope bindings a) t e → (f ≤ t) × (t < f + size)
    pub there : (t : ℕ) → TermNames (in_scope bindings b) t e → (g ≤ t) × (t < g + size)

  abbrev Line : Type 0
  Line = List Laid

  abbrev moved : Line → Line
  moved x = map (moved_laid (shifted f g)) x

  pub shape-same : (e : Term) → IsInBoth e → term_shape (in_scope bindings b) e ≡ term_shape (in_scope bindings a) e
  shape-same (NamedTerm r) h = (reference-moves r h.here h.there).shape
  shape-same (ConstantTerm l) h = refl
  shape-same (UnaryTerm op e) h = ap (λ (s : Shape). accepted (type1 op s)) (shape-same e (record { here = h.here; there = h.there }))
  shape-same (BinaryTerm op d e) h =
      let one = shape-same d (record { here = λ t n. h.here t (inl n); there = λ t n. h.there t (inl n) }) in
      let two = shape-same e (record { here = λ t n. h.here t (inr n); there = λ t n. h.there t (inr n) }) in
      ap₂ (λ (s t : Shape). accepted (type2 op s t)) one two
  shape-same (FixedTerm op e n m) h = ap (λ (s : Shape). accepted (type_const op s n m)) (shape-same e (record { here = h.here; there = h.there }))
  shape-same (MuxTerm c d e) h =
      let one = shape-same c (record { here = λ t n. h.here t (inl n); there = λ t n. h.there t (inl n) }) in
      let two = shape-same d (record { here = λ t n. h.here t (inr (inl n)); there = λ t n. h.there t (inr (inl n)) }) in
      let three = shape-same e (record { here = λ t n. h.here t (inr (inr n)); there = λ t n. h.there t (inr (inr n)) }) in
      ap (λ (s : Shape). accepted (type_mux s (term_shape (in_scope bindings b) d) (term_shape (in_scope bindings b) e))) one
      ∙ ap₂ (λ (s t : Shape). accepted (type_mux (term_shape (in_scope bindings a) c) s t)) two three

  pub term-moved : (e : Term) → IsInBoth e → (x : Line) → with_term (in_scope bindings b) (moved x) e ≡ moved (with_term (in_scope bindings a) x e)
  term-moved (NamedTerm r) h x =
      let m = reference-moves r h.here h.there in
      ap (with_signal bindings.signals (moved x)) m.number
      ∙ signal-moved bindings.signals (shifted f g) x (named (in_scope bindings a) r) (ap (shape_named bindings.signals) (sym m.number) ∙ m.shape)
  term-moved (ConstantTerm l) h x = literal-moved (shifted f g) x (literal_shape l) (literal_value l)
  term-moved (UnaryTerm op e) h x =
      let in_e : IsInBoth e = record { here = h.here; there = h.there } in
      let y : Line = with_term (in_scope bindings a) x e in
      ap (λ (z : Line). with_result z (type1 op (term_shape (in_scope bindings b) e)) (One op (last_of z))) (term-moved e in_e x)
      ∙ ap (λ (s : Shape). with_result (moved y) (type1 op s) (One op (last_of (moved y)))) (shape-same e in_e)
      ∙ ap (λ (k : ℕ). with_result (moved y) (type1 op (term_shape (in_scope bindings a) e)) (One op k)) (last-moved (shifted f g) y)
      ∙ result-moved (shifted f g) y (type1 op (term_shape (in_scope bindings a) e)) (One op (last_of y))
  term-moved (FixedTerm op e n m) h x =
      let in_e : IsInBoth e = record { here = h.here; there = h.there } in
      let y : Line = with_term (in_scope bindings a) x e in
      ap (λ (z : Line). with_result z (type_const op (term_shape (in_scope bindings b) e) n m) (Fix op (last_of z) n m)) (term-moved e in_e x)
      ∙ ap (λ (s : Shape). with_result (moved y) (type_const op s n m) (Fix op (last_of (moved y)) n m)) (shape-same e in_e)
      ∙ ap (λ (k : ℕ). with_result (moved y) (type_const op (term_shape (in_scope bindings a) e) n m) (Fix op k n m)) (last-moved (shifted f g) y)
      ∙ result-moved (shifted f g) y (type_const op (term_shape (in_scope bindings a) e) n m) (Fix op (last_of y) n m)
  term-moved (BinaryTerm op d e) h x =
      let in_d : IsInBoth d = record { here = λ t n. h.here t (inl n); there = λ t n. h.there t (inl n) } in
      let in_e : IsInBoth e = record { here = λ t n. h.here t (inr n); there = λ t n. h.there t (inr n) } in
      let y : Line = with_term (in_scope bindings a) x d in
      let z : Line = with_term (in_scope bindings a) y e in
      ap (λ (w : Line). let v : Line = with_term (in_scope bindings b) w e in with_result v (type2 op (term_shape (in_scope bindings b) d) (term_shape (in_scope bindings b) e)) (Two op (last_of w) (last_of v))) (term-moved d in_d x)
      ∙ ap (λ (v : Line). with_result v (type2 op (term_shape (in_scope bindings b) d) (term_shape (in_scope bindings b) e)) (Two op (last_of (moved y)) (last_of v))) (term-moved e in_e y)
      ∙ ap₂ (λ (s t : Shape). with_result (moved z) (type2 op s t) (Two op (last_of (moved y)) (last_of (moved z)))) (shape-same d in_d) (shape-same e in_e)
      ∙ ap₂ (λ (i j : ℕ). with_result (moved z) (type2 op (term_shape (in_scope bindings a) d) (term_shape (in_scope bindings a) e)) (Two op i j)) (last-moved (shifted f g) y) (last-moved (shifted f g) z)
      ∙ result-moved (shifted f g) z (type2 op (term_shape (in_scope bindings a) d) (term_shape (in_scope bindings a) e)) (Two op (last_of y) (last_of z))
  term-moved (MuxTerm c d e) h x =
      let in_c : IsInBoth c = record { here = λ t n. h.here t (inl n); there = λ t n. h.there t (inl n) } in
      let in_d : IsInBoth d = record { here = λ t n. h.here t (inr (inl n)); there = λ t n. h.there t (inr (inl n)) } in
      let in_e : IsInBoth e = record { here = λ t n. h.here t (inr (inr n)); there = λ t n. h.there t (inr (inr n)) } in
      let x1 : Line = with_term (in_scope bindings a) x c in
      let x2 : Line = with_term (in_scope bindings a) x1 d in
      let x3 : Line = with_term (in_scope bindings a) x2 e in
      let sort : Result Shape Bad = type_mux (term_shape (in_scope bindings a) c) (term_shape (in_scope bindings a) d) (term_shape (in_scope bindings a) e) in
      let sort' : Result Shape Bad = type_mux (term_shape (in_scope bindings b) c) (term_shape (in_scope bindings b) d) (term_shape (in_scope bindings b) e) in
      let sorts : sort' ≡ sort =
      ap (λ (s : Shape). type_mux s (term_shape (in_scope bindings b) d) (term_shape (in_scope bindings b) e)) (shape-same c in_c)
      ∙ ap₂ (λ (s t : Shape). type_mux (term_shape (in_scope bindings a) c) s t) (shape-same d in_d) (shape-same e in_e) in
      ap (λ (u : Line). let v : Line = with_term (in_scope bindings b) u d in let w : Line = with_term (in_scope bindings b) v e in with_result w sort' (Mux (last_of u) (last_of v) (last_of w))) (term-moved c in_c x)
      ∙ ap (λ (v : Line). let w : Line = with_term (in_scope bindings b) v e in with_result w sort' (Mux (last_of (moved x1)) (last_of v) (last_of w))) (term-moved d in_d x1)
      ∙ ap (λ (w : Line). with_result w sort' (Mux (last_of (moved x1)) (last_of (moved x2)) (last_of w))) (term-moved e in_e x2)
      ∙ ap (λ (s : Result Shape Bad). with_result (moved x3) s (Mux (last_of (moved x1)) (last_of (moved x2)) (last_of (moved x3)))) sorts
      ∙ ap (λ (i : ℕ). with_result (moved x3) sort (Mux i (last_of (moved x2)) (last_of (moved x3)))) (last-moved (shifted f g) x1)
      ∙ ap₂ (λ (j k : ℕ). with_result (moved x3) sort (Mux (last_of x1) j k)) (last-moved (shifted f g) x2) (last-moved (shifted f g) x3)
      ∙ result-moved (shifted f g) x3 sort (Mux (last_of x1) (last_of x2) (last_of x3))

  -- ---- whole lines

  pub taken-moved : (sink : Shape) (e : Term) → IsInBoth e → taken_line (in_scope bindings b) sink e ≡ moved (taken_line (in_scope bindings a) sink e)
  taken-moved sink e h =
      ap (λ (s : Shape). cut_line (takes sink s) sink (with_term (in_scope bindings b) [] e)) (shape-same e h)
      ∙ ap (cut_line (takes sink (term_shape (in_scope bindings a) e)) sink) (term-moved e h [])
      ∙ cut-moved (shifted f g) (takes sink (term_shape (in_scope bindings a) e)) sink (with_term (in_scope bindings a) [] e)

  pub condition-moved : (e : Term) → IsInBoth e → condition_line (in_scope bindings b) e ≡ moved (condition_line (in_scope bindings a) e)
  condition-moved e h =
      ap (λ (s : Shape). cut_line (is_condition s) (uint 1) (with_term (in_scope bindings b) [] e)) (shape-same e h)
      ∙ ap (cut_line (is_condition (term_shape (in_scope bindings a) e)) (uint 1)) (term-moved e h [])
      ∙ cut-moved (shifted f g) (is_condition (term_shape (in_scope bindings a) e)) (uint 1) (with_term (in_scope bindings a) [] e)

  pub record IsConnectedInBoth (c : Option Connection) : Type 0 where
    pub here : (t : ℕ) → ConnectionNames (in_scope bindings a) t c → (f ≤ t) × (t < f + size)
    pub there : (t : ℕ) → ConnectionNames (in_scope bindings b) t c → (g ≤ t) × (t < g + size)

  pub connected-moved : (sink : Shape) (c : Option Connection) → IsConnectedInBoth c → connected_line (in_scope bindings b) sink c ≡ moved (connected_line (in_scope bindings a) sink c)
  connected-moved sink None h = refl
  connected-moved sink (Some Zeroed) h = refl
  connected-moved sink (Some (ConnectedTo e)) h = taken-moved sink e (record { here = h.here; there = h.there })
