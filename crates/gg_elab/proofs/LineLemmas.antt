-- Laws of a line that gets one more node.
use Rattle.std.proofs.Common.{◌≡◌, ℕ, ◌+◌, ◌<◌, ◌≤◌, List, [], ◌∷◌, ◌++◌, length, map, refl, sym, ap, ◌∙◌, subst, arith, inl, inr, ◌⊎◌, append_assoc, below_more, Result, Ok, Err, Option, Some, None}
use Rattle.std.specs.Prelude.{fold, slice_index_or}
use Rattle.std.proofs.lemmas.List.{map-append, length-map, get_or_append_left, length_push}
use Rattle.std.proofs.Math.Seq.{get_or-append_seam}
use Rattle.std.proofs.lemmas.List.Sums.{fold-append}
use Rattle.std.proofs.lemmas.Nat.{pow_pos}
use Rattle.gg_bits.specs.declared.types.Bad.{Bad}
use Rattle.gg_bits.specs.declared.types.Ty.{Ty}
use Rattle.gg_bits.specs.declared.types.Val.{Val}
use Rattle.gg_bits.specs.declared.ops.Op1.{Op1}
use Rattle.gg_bits.specs.declared.ops.Op2.{Op2}
use Rattle.gg_bits.specs.declared.ops.OpN.{OpN}
use Rattle.gg_bits.specs.ResultType.{type1, type2, type_const, type_mux}
use Rattle.gg_bits.specs.Shape.{Shape, shape, uint, Fits}
use Rattle.gg_bits.specs.inside.Shape.{shape_of as shape_found}
use Rattle.gg_ast.specs.declared.expression.Reference.{Reference}
use Rattle.gg_ast.specs.declared.expression.Literal as literals
use Rattle.gg_ast.specs.Term.{Term, NamedTerm, ConstantTerm, UnaryTerm, BinaryTerm, FixedTerm, MuxTerm}
use Rattle.gg_flat.specs.declared.line.Node.{Node}
use Rattle.gg_flat.specs.declared.line.Op.{Op}
use Rattle.gg_flat.specs.declared.line.Op.TheVariants.{Ref, Literal, Mux}
use Rattle.gg_flat.specs.declared.line.Op.TheVariants as flat
use Rattle.gg_flat.specs.Line.{shape_at, value_at, shapes_of, op_at, op_value, with_node, node_values, HasShape, HasType}
use Rattle.gg_flat.specs.Reads.{Names}
use Rattle.gg_flat.proofs.NameLemmas.{Names-push, Names-new, Names-push_cases}
use Rattle.gg_types.specs.Literal.{literal_value}
use Rattle.gg_types.specs.Types.{literal_shape}
use Rattle.gg_elab_sites.specs.Lines.{Laid, laid_node, laid, with_laid, with_number, with_signal, with_literal, with_result, with_term, last_of}
use Rattle.gg_elab_sites.specs.Meaning.{Context, named, accepted, term_shape, term_value, TermNames}
use Rattle.gg_elab.specs.inside.Growing.{IsZeroNode, IsResultNode, HaveShapes, StandsFor, Added}

-- ---- lists

pub shapes_of-push : (nodes : List Node) (n : Node) → shapes_of (nodes ++ n ∷ []) ≡ shapes_of nodes ++ shape n.ty ∷ []
shapes_of-push nodes n = map-append (λ (m : Node). shape m.ty) nodes (n ∷ [])

length-shapes_of : (nodes : List Node) → length (shapes_of nodes) ≡ length nodes
length-shapes_of nodes = length-map nodes (λ (m : Node). shape m.ty)

-- the shape of an old node is the same
pub shape_at-push : (nodes : List Node) (n : Node) (k : ℕ) → k < length nodes → shape_at (shapes_of (nodes ++ n ∷ [])) k ≡ shape_at (shapes_of nodes) k
shape_at-push nodes n k lt =
    let within : k < length (shapes_of nodes) = omega (arith, length-shapes_of nodes) in
    ap (λ l. shape_at l k) (shapes_of-push nodes n) ∙ get_or_append_left (shapes_of nodes) (shape n.ty ∷ []) (uint 0) k within

-- the shape of the new node
pub shape_at-last : (nodes : List Node) (n : Node) → shape_at (shapes_of (nodes ++ n ∷ [])) (length nodes) ≡ shape n.ty
shape_at-last nodes n =
    ap (λ l. shape_at l (length nodes)) (shapes_of-push nodes n)
    ∙ ap (λ k. shape_at (shapes_of nodes ++ shape n.ty ∷ []) k) (sym (length-shapes_of nodes))
    ∙ get_or-append_seam (shapes_of nodes) (shape n.ty) [] (uint 0)

pub op_at-push : (nodes : List Node) (n : Node) (k : ℕ) → k < length nodes → op_at (nodes ++ n ∷ []) k ≡ op_at nodes k
op_at-push nodes n k lt =
    let ops = map (λ (m : Node). m.op) nodes in
    let within : k < length ops = omega (arith, length-map nodes (λ (m : Node). m.op)) in
    ap (λ (l : List Op). slice_index_or l k (Ref 0)) (map-append (λ (m : Node). m.op) nodes (n ∷ [])) ∙ get_or_append_left ops (n.op ∷ []) (Ref 0) k within

pub op_at-last : (nodes : List Node) (n : Node) → op_at (nodes ++ n ∷ []) (length nodes) ≡ n.op
op_at-last nodes n =
    let ops = map (λ (m : Node). m.op) nodes in
    ap (λ (l : List Op). slice_index_or l (length nodes) (Ref 0)) (map-append (λ (m : Node). m.op) nodes (n ∷ []))
    ∙ ap (λ k. slice_index_or (ops ++ n.op ∷ []) k (Ref 0)) (sym (length-map nodes (λ (m : Node). m.op)))
    ∙ get_or-append_seam ops n.op [] (Ref 0)

-- ---- values

pub length-node_values : (v : List ℕ) (shapes : List Shape) (before : List ℕ) (nodes : List Node) → length (fold (with_node v shapes) before nodes) ≡ length before + length nodes
length-node_values v shapes before [] = omega arith
length-node_values v shapes before (n ∷ nodes) =
    let rest = length-node_values v shapes (with_node v shapes before n) nodes in
    let one = length_push before (op_value v shapes before n.op) in
    omega arith

node_values-push : (v : List ℕ) (shapes : List Shape) (nodes : List Node) (n : Node) → node_values v shapes (nodes ++ n ∷ []) ≡ node_values v shapes nodes ++ op_value v shapes (node_values v shapes nodes) n.op ∷ []
node_values-push v shapes nodes n = fold-append (with_node v shapes) [] nodes (n ∷ [])

pub value_at-push : (v : List ℕ) (shapes : List Shape) (nodes : List Node) (n : Node) (k : ℕ) → k < length nodes → value_at (node_values v shapes (nodes ++ n ∷ [])) k ≡ value_at (node_values v shapes nodes) k
value_at-push v shapes nodes n k lt =
    let before = node_values v shapes nodes in
    let within : k < length before = omega (arith, length-node_values v shapes [] nodes) in
    ap (λ l. value_at l k) (node_values-push v shapes nodes n) ∙ get_or_append_left before (op_value v shapes before n.op ∷ []) 0 k within

pub value_at-last : (v : List ℕ) (shapes : List Shape) (nodes : List Node) (n : Node) → value_at (node_values v shapes (nodes ++ n ∷ [])) (length nodes) ≡ op_value v shapes (node_values v shapes nodes) n.op
value_at-last v shapes nodes n =
    let before = node_values v shapes nodes in
    let count : length before ≡ length nodes = omega (arith, length-node_values v shapes [] nodes) in
    ap (λ l. value_at l (length nodes)) (node_values-push v shapes nodes n)
    ∙ ap (λ k. value_at (before ++ op_value v shapes before n.op ∷ []) k) (sym count)
    ∙ get_or-append_seam before (op_value v shapes before n.op) [] 0

-- the shapes of a line with one more node, and of what follows
shapes_of-before : (nodes : List Node) (n : Node) (more : List Shape) → shapes_of (nodes ++ n ∷ []) ++ more ≡ shapes_of nodes ++ (shape n.ty ∷ more)
shapes_of-before nodes n more = ap (λ l. l ++ more) (shapes_of-push nodes n) ∙ append_assoc (shapes_of nodes) (shape n.ty ∷ []) more

-- ---- what stands for an expression still does with one more node

pub StandsFor-push : (w : Context) (nodes : List Node) (n : Node) (k : ℕ) (e : Term) → StandsFor w nodes k e → StandsFor w (nodes ++ n ∷ []) k e
StandsFor-push w nodes n k e h = record {
  within = omega (arith, h.within, length_push nodes n);
  node = shape_at-push nodes n k h.within ∙ h.node;
  value = λ values more.
      ap (λ l. value_at (node_values values l (nodes ++ n ∷ [])) k) (shapes_of-before nodes n more)
      ∙ value_at-push values (shapes_of nodes ++ (shape n.ty ∷ more)) nodes n k h.within
      ∙ h.value values (shape n.ty ∷ more);
  named = λ s t. Names-push nodes n s (h.named s t);
}

-- the shape of a node is the same if more shapes follow
shape_at-more : (nodes : List Node) (more : List Shape) (k : ℕ) → k < length nodes → shape_at (shapes_of nodes ++ more) k ≡ shape_at (shapes_of nodes) k
shape_at-more nodes more k lt =
    let within : k < length (shapes_of nodes) = omega (arith, length-shapes_of nodes) in
    get_or_append_left (shapes_of nodes) more (uint 0) k within

-- ---- shapes

HasShape-push : (Named : ℕ → Shape → Type 0) (nodes : List Node) (n : Node) (k : ℕ) (to : Shape) (op : Op) → k ≤ length nodes → HasShape Named (shapes_of nodes) k to op → HasShape Named (shapes_of (nodes ++ n ∷ [])) k to op
HasShape-push Named nodes n k to (Ref s) le h = h
HasShape-push Named nodes n k to (Literal v) le h = h
HasShape-push Named nodes n k to (flat.One op i) le h = (h.0, rw (shape_at-push nodes n i (omega arith)) h.1)
HasShape-push Named nodes n k to (flat.Two op i j) le h = (h.0, h.1, rw (shape_at-push nodes n i (omega arith), shape_at-push nodes n j (omega arith)) h.2)
HasShape-push Named nodes n k to (flat.Fix op i p q) le h = (h.0, rw (shape_at-push nodes n i (omega arith)) h.1)
HasShape-push Named nodes n k to (Mux c i j) le h = (h.0, h.1, h.2, rw (shape_at-push nodes n c (omega arith), shape_at-push nodes n i (omega arith), shape_at-push nodes n j (omega arith)) h.3)

abbrev HoldsAt : Context → List Node → ℕ → Shape → Op → Type 0
HoldsAt w nodes k to op = HasShape (HasType w.bindings.signals.shapes) (shapes_of nodes) k to op

-- with one more node of its shape, each node has its shape
pub HaveShapes-push : (w : Context) (nodes : List Node) (n : Node) → HasShape (HasType w.bindings.signals.shapes) (shapes_of nodes) (length nodes) (shape n.ty) n.op → HaveShapes w nodes → HaveShapes w (nodes ++ n ∷ [])
HaveShapes-push w nodes n own h = λ k lt. at k (omega (arith, lt, length_push nodes n))
  where
    old : (k : ℕ) → k < length nodes → HoldsAt w (nodes ++ n ∷ []) k (shape_at (shapes_of (nodes ++ n ∷ [])) k) (op_at (nodes ++ n ∷ []) k)
    old k lt =
        let at_old = HasShape-push (HasType w.bindings.signals.shapes) nodes n k (shape_at (shapes_of nodes) k) (op_at nodes k) (omega arith) (h k lt) in
        subst (λ (to : Shape). HoldsAt w (nodes ++ n ∷ []) k to (op_at (nodes ++ n ∷ []) k)) (sym (shape_at-push nodes n k lt))
        (subst (λ (op : Op). HoldsAt w (nodes ++ n ∷ []) k (shape_at (shapes_of nodes) k) op) (sym (op_at-push nodes n k lt)) at_old)

    last : HoldsAt w (nodes ++ n ∷ []) (length nodes) (shape_at (shapes_of (nodes ++ n ∷ [])) (length nodes)) (op_at (nodes ++ n ∷ []) (length nodes))
    last =
        let at_last = HasShape-push (HasType w.bindings.signals.shapes) nodes n (length nodes) (shape n.ty) n.op (omega arith) own in
        subst (λ (to : Shape). HoldsAt w (nodes ++ n ∷ []) (length nodes) to (op_at (nodes ++ n ∷ []) (length nodes))) (sym (shape_at-last nodes n))
        (subst (λ (op : Op). HoldsAt w (nodes ++ n ∷ []) (length nodes) (shape n.ty) op) (sym (op_at-last nodes n)) at_last)

    at : (k : ℕ) → k < length nodes + 1 → HoldsAt w (nodes ++ n ∷ []) k (shape_at (shapes_of (nodes ++ n ∷ [])) k) (op_at (nodes ++ n ∷ []) k)
    at = below_more (λ (k : ℕ). HoldsAt w (nodes ++ n ∷ []) k (shape_at (shapes_of (nodes ++ n ∷ [])) k) (op_at (nodes ++ n ∷ []) k)) (length nodes) old last

-- ---- how a line is laid out with one more node

abbrev laid_made : Shape → Op → Laid
laid_made sort op = record { shape = sort; op = op }

pub laid-push : (nodes : List Node) (n : Node) (sort : Shape) (op : Op) → shape n.ty ≡ sort → n.op ≡ op → laid (nodes ++ n ∷ []) ≡ with_laid (laid nodes) sort op
laid-push nodes n sort op typed does =
    map-append laid_node nodes (n ∷ [])
    ∙ ap (λ (s : Shape). laid nodes ++ laid_made s n.op ∷ []) typed
    ∙ ap (λ (o : Op). laid nodes ++ laid_made sort o ∷ []) does

laid-result : (nodes : List Node) (n : Node) (found : Result Ty Bad) (op : Op) → IsResultNode found op n → laid (nodes ++ n ∷ []) ≡ with_result (laid nodes) (shape_found found) op
laid-result nodes n (Ok ty) op is = laid-push nodes n (shape ty) op (ap shape is.0) is.1
laid-result nodes n (Err bad) op is = laid-push nodes n (uint 1) (Literal (record { 0 = 0 })) is.typed is.zero

-- the place of the last node
last-place : (nodes : List Node) (k : ℕ) → length nodes ≡ k + 1 → k ≡ last_of (laid nodes)
last-place nodes k e = omega (arith, e, length-map nodes laid_node)

-- ---- the node of each kind of expression

-- what one more node has to satisfy to stand for e
pub record Fresh (w : Context) (nodes : List Node) (n : Node) (e : Term) : Type 0 where
  pub node : shape n.ty ≡ term_shape w e
  pub has : HasShape (HasType w.bindings.signals.shapes) (shapes_of nodes) (length nodes) (term_shape w e) n.op
  pub value : (values : List ℕ) (more : List Shape) → op_value values (shapes_of nodes ++ (shape n.ty ∷ more)) (node_values values (shapes_of nodes ++ (shape n.ty ∷ more)) nodes) n.op ≡ term_value w values e
  pub named : (s : ℕ) → TermNames w s e → Names (nodes ++ n ∷ []) s

StandsFor-new : (w : Context) (nodes : List Node) (n : Node) (e : Term) → Fresh w nodes n e → StandsFor w (nodes ++ n ∷ []) (length nodes) e
StandsFor-new w nodes n e h = record {
  within = omega (arith, length_push nodes n);
  node = shape_at-last nodes n ∙ h.node;
  value = λ values more.
      ap (λ (l : List Shape). value_at (node_values values l (nodes ++ n ∷ [])) (length nodes)) (shapes_of-before nodes n more)
      ∙ value_at-last values (shapes_of nodes ++ (shape n.ty ∷ more)) nodes n
      ∙ h.value values more;
  named = h.named;
}

HaveShapes-fresh : (w : Context) (nodes : List Node) (n : Node) (e : Term) → Fresh w nodes n e → HaveShapes w nodes → HaveShapes w (nodes ++ n ∷ [])
HaveShapes-fresh w nodes n e h typed =
    HaveShapes-push w nodes n (subst (λ (s : Shape). HasShape (HasType w.bindings.signals.shapes) (shapes_of nodes) (length nodes) s n.op) (sym h.node) h.has) typed

-- the shape of an operand is the same if more shapes follow
operand_shape : (w : Context) (nodes : List Node) (k : ℕ) (e : Term) (more : List Shape) → StandsFor w nodes k e → shape_at (shapes_of nodes ++ more) k ≡ term_shape w e
operand_shape w nodes k e more h = shape_at-more nodes more k h.within ∙ h.node

-- what holds after the operands' nodes were added: old nodes stand for what they stood for, all nodes have their shapes, and
-- only what e names is named anew
pub record Kept (w : Context) (old mid : List Node) (e : Term) : Type 0 where
  pub kept : (i : ℕ) (f : Term) → StandsFor w old i f → StandsFor w mid i f
  pub typed : HaveShapes w old → HaveShapes w mid
  pub names : (s : ℕ) → Names mid s → Names old s ⊎ TermNames w s e

added_fresh : (w : Context) (old mid : List Node) (n : Node) (e : Term) → Kept w old mid e → Fresh w mid n e → ((s : ℕ) → n.op ≡ flat.Ref s → TermNames w s e) → laid (mid ++ n ∷ []) ≡ with_term w (laid old) e → Added w old (mid ++ n ∷ []) e (length mid)
added_fresh w old mid n e before fresh own placed = record {
  stands = StandsFor-new w mid n e fresh;
  last = length_push mid n;
  kept = λ i f h. StandsFor-push w mid n i f (before.kept i f h);
  typed = λ h. HaveShapes-fresh w mid n e fresh (before.typed h);
  names = λ s h. elim (Names-push_cases mid n s h) [ inl g ↦ before.names s g | inr g ↦ inr (own s g) ];
  nodes = placed;
}

nothing_before : (w : Context) (old : List Node) (e : Term) → Kept w old old e
nothing_before w old e = record { kept = λ i f h. h; typed = λ h. h; names = λ s h. inl h }

no_name : (n : Node) (s : ℕ) → IsZeroNode n → n.op ≡ flat.Ref s → ⊥
no_name n s z is = let e : Literal (record { 0 = 0 }) ≡ flat.Ref s = sym z.zero ∙ is in cc

-- ---- leaves

pub added_reference : (w : Context) (old : List Node) (n : Node) (r : Reference) (i : ℕ) → named w r ≡ Some i → i < length w.bindings.signals.shapes → shape_at w.bindings.signals.shapes i ≡ shape n.ty → n.op ≡ flat.Ref i → Added w old (old ++ n ∷ []) (NamedTerm r) (length old)
added_reference w old n r i at within typed does =
    added_fresh w old old n (NamedTerm r) (nothing_before w old (NamedTerm r))
    (record {
      node = rw at (sym typed);
      has = rw (does, at) (within, refl);
      value = λ values more. rw (does, at) refl;
      named = λ s names. let same : i ≡ s = cc in Names-new old n s (does ∙ ap flat.Ref same);
    })
    (λ s h. let same : i ≡ s = cc in at ∙ ap Some same)
    (laid-push old n (shape_at w.bindings.signals.shapes i) (flat.Ref i) (sym typed) does ∙ ap (with_signal w.bindings.signals (laid old)) (sym at))

pub added_nothing : (w : Context) (old : List Node) (n : Node) (r : Reference) → named w r ≡ None → IsZeroNode n → Added w old (old ++ n ∷ []) (NamedTerm r) (length old)
added_nothing w old n r none z =
    added_fresh w old old n (NamedTerm r) (nothing_before w old (NamedTerm r))
    (record {
      node = rw none z.typed;
      has = rw (z.zero, none) (pow_pos 1);
      value = λ values more. rw (z.zero, none) refl;
      named = λ s names. absurd (cc);
    })
    (λ s h. absurd (no_name n s z h))
    (laid-push old n (uint 1) (Literal (record { 0 = 0 })) z.typed z.zero ∙ ap (with_signal w.bindings.signals (laid old)) (sym none))

pub added_literal : (w : Context) (old : List Node) (n : Node) (l : literals.Literal) (v : Val) (to : Shape) → literal_shape l ≡ Some to → Fits to v.0 → v.0 ≡ literal_value l → shape n.ty ≡ to → n.op ≡ flat.Literal v → Added w old (old ++ n ∷ []) (ConstantTerm l) (length old)
added_literal w old n l v to given fits said typed does =
    added_fresh w old old n (ConstantTerm l) (nothing_before w old (ConstantTerm l))
    (record {
      node = rw given typed;
      has = rw (does, given) fits;
      value = λ values more. rw (does, given) said;
      named = λ s names. absurd names;
    })
    (λ s h. absurd (cc))
    (laid-push old n to (flat.Literal v) typed does
    ∙ ap (with_number (laid old) to) said
    ∙ ap (λ (o : Option Shape). with_literal (laid old) o (literal_value l)) (sym given))

pub added_no_literal : (w : Context) (old : List Node) (n : Node) (l : literals.Literal) → literal_shape l ≡ None → IsZeroNode n → Added w old (old ++ n ∷ []) (ConstantTerm l) (length old)
added_no_literal w old n l none z =
    added_fresh w old old n (ConstantTerm l) (nothing_before w old (ConstantTerm l))
    (record {
      node = rw none z.typed;
      has = rw (z.zero, none) (pow_pos 1);
      value = λ values more. rw (z.zero, none) refl;
      named = λ s names. absurd names;
    })
    (λ s h. absurd (no_name n s z h))
    (laid-push old n (uint 1) (Literal (record { 0 = 0 })) z.typed z.zero ∙ ap (λ (o : Option Shape). with_literal (laid old) o (literal_value l)) (sym none))

-- ---- operations

-- What an operation needs of the line: its shape and value there if it has a result type, and that the line names all signals
-- that its operands name.
pub record Operation (w : Context) (mid : List Node) (e : Term) (result : Result Shape Bad) (op : Op) : Type 0 where
  pub shaped : term_shape w e ≡ accepted result
  pub has : (to : Shape) → result ≡ Ok to → HasShape (HasType w.bindings.signals.shapes) (shapes_of mid) (length mid) to op
  pub value : (values : List ℕ) (more : List Shape) (to : Shape) → result ≡ Ok to → op_value values (shapes_of mid ++ more) (node_values values (shapes_of mid ++ more) mid) op ≡ term_value w values e
  pub none : (values : List ℕ) (bad : Bad) → result ≡ Err bad → term_value w values e ≡ 0
  pub named : (s : ℕ) → TermNames w s e → Names mid s
  pub no_reference : (s : ℕ) → op ≡ flat.Ref s → ⊥

pub added_operation : (w : Context) (old mid : List Node) (n : Node) (e : Term) (found : Result Ty Bad) (op : Op) → Kept w old mid e → Operation w mid e (shape_found found) op → IsResultNode found op n → with_result (laid mid) (shape_found found) op ≡ with_term w (laid old) e → Added w old (mid ++ n ∷ []) e (length mid)
added_operation w old mid n e (Ok ty) op before o is placed =
    added_fresh w old mid n e before
    (record {
      node = ap shape is.0 ∙ sym o.shaped;
      has = subst (λ (p : Op). HasShape (HasType w.bindings.signals.shapes) (shapes_of mid) (length mid) (term_shape w e) p) (sym is.1)
          (subst (λ (t : Shape). HasShape (HasType w.bindings.signals.shapes) (shapes_of mid) (length mid) t op) (sym o.shaped) (o.has (shape ty) refl));
      value = λ values more. rw is.1 (o.value values (shape n.ty ∷ more) (shape ty) refl);
      named = λ s names. Names-push mid n s (o.named s names);
    })
    (λ s h. absurd (o.no_reference s (sym is.1 ∙ h)))
    (laid-result mid n (Ok ty) op is ∙ placed)
added_operation w old mid n e (Err bad) op before o is placed =
    added_fresh w old mid n e before
    (record {
      node = is.typed ∙ sym o.shaped;
      has = rw (is.zero, o.shaped) (pow_pos 1);
      value = λ values more. rw is.zero (sym (o.none values bad refl));
      named = λ s names. Names-push mid n s (o.named s names);
    })
    (λ s h. absurd (no_name n s is h))
    (laid-result mid n (Err bad) op is ∙ placed)

one_is : (w : Context) (nodes : List Node) (op : Op1) (a : Term) (i : ℕ) → StandsFor w nodes i a → Operation w nodes (UnaryTerm op a) (type1 op (term_shape w a)) (flat.One op i)
one_is w nodes op a i at = record {
  shaped = refl;
  has = λ to e. (at.within, rw at.node e);
  value = λ values more to e. rw (operand_shape w nodes i a more at, at.value values more) (rw e refl);
  none = λ values bad e. rw e refl;
  named = at.named;
  no_reference = λ s h. absurd (cc);
}

two_is : (w : Context) (nodes : List Node) (op : Op2) (a b : Term) (i j : ℕ) → StandsFor w nodes i a → StandsFor w nodes j b → Operation w nodes (BinaryTerm op a b) (type2 op (term_shape w a) (term_shape w b)) (flat.Two op i j)
two_is w nodes op a b i j at bt = record {
  shaped = refl;
  has = λ to e. (at.within, bt.within, rw (at.node, bt.node) e);
  value = λ values more to e. rw (operand_shape w nodes i a more at, at.value values more, operand_shape w nodes j b more bt, bt.value values more) (rw e refl);
  none = λ values bad e. rw e refl;
  named = λ s names. elim names [ inl h ↦ at.named s h | inr h ↦ bt.named s h ];
  no_reference = λ s h. absurd (cc);
}

fixed_is : (w : Context) (nodes : List Node) (op : OpN) (a : Term) (i p q : ℕ) → StandsFor w nodes i a → Operation w nodes (FixedTerm op a p q) (type_const op (term_shape w a) p q) (flat.Fix op i p q)
fixed_is w nodes op a i p q at = record {
  shaped = refl;
  has = λ to e. (at.within, rw at.node e);
  value = λ values more to e. rw (operand_shape w nodes i a more at, at.value values more) (rw e refl);
  none = λ values bad e. rw e refl;
  named = at.named;
  no_reference = λ s h. absurd (cc);
}

mux_is : (w : Context) (nodes : List Node) (c a b : Term) (h i j : ℕ) → StandsFor w nodes h c → StandsFor w nodes i a → StandsFor w nodes j b → Operation w nodes (MuxTerm c a b) (type_mux (term_shape w c) (term_shape w a) (term_shape w b)) (Mux h i j)
mux_is w nodes c a b h i j ct at bt = record {
  shaped = refl;
  has = λ to e. (ct.within, at.within, bt.within, rw (ct.node, at.node, bt.node) e);
  value = λ values more to e. rw (ct.value values more, operand_shape w nodes i a more at, at.value values more, operand_shape w nodes j b more bt, bt.value values more) (rw e refl);
  none = λ values bad e. rw e refl;
  named = λ s names. elim names [ inl g ↦ ct.named s g | inr g ↦ elim g [ inl k ↦ at.named s k | inr k ↦ bt.named s k ] ];
  no_reference = λ s g. absurd (cc);
}

pub added_one : (w : Context) (old mid : List Node) (n : Node) (op : Op1) (a : Term) (i : ℕ) (found : Result Ty Bad) → Added w old mid a i → shape_found found ≡ type1 op (term_shape w a) → IsResultNode found (flat.One op i) n → Added w old (mid ++ n ∷ []) (UnaryTerm op a) (length mid)
added_one w old mid n op a i found at same is =
    added_operation w old mid n (UnaryTerm op a) found (flat.One op i)
    (record { kept = at.kept; typed = at.typed; names = at.names })
    (subst (λ (r : Result Shape Bad). Operation w mid (UnaryTerm op a) r (flat.One op i)) (sym same) (one_is w mid op a i at.stands)) is
    (ap (λ (r : Result Shape Bad). with_result (laid mid) r (flat.One op i)) same
    ∙ ap (λ (k : ℕ). with_result (laid mid) (type1 op (term_shape w a)) (flat.One op k)) (last-place mid i at.last)
    ∙ ap (λ (x : List Laid). with_result x (type1 op (term_shape w a)) (flat.One op (last_of x))) at.nodes)

pub added_fix : (w : Context) (old mid : List Node) (n : Node) (op : OpN) (a : Term) (i p q : ℕ) (found : Result Ty Bad) → Added w old mid a i → shape_found found ≡ type_const op (term_shape w a) p q → IsResultNode found (flat.Fix op i p q) n → Added w old (mid ++ n ∷ []) (FixedTerm op a p q) (length mid)
added_fix w old mid n op a i p q found at same is =
    added_operation w old mid n (FixedTerm op a p q) found (flat.Fix op i p q)
    (record { kept = at.kept; typed = at.typed; names = at.names })
    (subst (λ (r : Result Shape Bad). Operation w mid (FixedTerm op a p q) r (flat.Fix op i p q)) (sym same) (fixed_is w mid op a i p q at.stands)) is
    (ap (λ (r : Result Shape Bad). with_result (laid mid) r (flat.Fix op i p q)) same
    ∙ ap (λ (k : ℕ). with_result (laid mid) (type_const op (term_shape w a) p q) (flat.Fix op k p q)) (last-place mid i at.last)
    ∙ ap (λ (x : List Laid). with_result x (type_const op (term_shape w a) p q) (flat.Fix op (last_of x) p q)) at.nodes)

pub added_two : (w : Context) (old one mid : List Node) (n : Node) (op : Op2) (a b : Term) (i j : ℕ) (found : Result Ty Bad) → Added w old one a i → Added w one mid b j → shape_found found ≡ type2 op (term_shape w a) (term_shape w b) → IsResultNode found (flat.Two op i j) n → Added w old (mid ++ n ∷ []) (BinaryTerm op a b) (length mid)
added_two w old one mid n op a b i j found at bt same is =
    added_operation w old mid n (BinaryTerm op a b) found (flat.Two op i j)
    (record {
      kept = λ i f h. bt.kept i f (at.kept i f h);
      typed = λ h. bt.typed (at.typed h);
      names = λ s h. elim (bt.names s h) [ inl g ↦ elim (at.names s g) [ inl k ↦ inl k | inr k ↦ inr (inl k) ] | inr g ↦ inr (inr g) ];
    })
    (subst (λ (r : Result Shape Bad). Operation w mid (BinaryTerm op a b) r (flat.Two op i j)) (sym same) (two_is w mid op a b i j (bt.kept i a at.stands) bt.stands)) is
    (let to : Result Shape Bad = type2 op (term_shape w a) (term_shape w b) in
    ap (λ (r : Result Shape Bad). with_result (laid mid) r (flat.Two op i j)) same
    ∙ ap (λ (k : ℕ). with_result (laid mid) to (flat.Two op k j)) (last-place one i at.last)
    ∙ ap (λ (k : ℕ). with_result (laid mid) to (flat.Two op (last_of (laid one)) k)) (last-place mid j bt.last)
    ∙ ap (λ (y : List Laid). with_result y to (flat.Two op (last_of (laid one)) (last_of y))) bt.nodes
    ∙ ap (λ (x : List Laid). let y : List Laid = with_term w x b in with_result y to (flat.Two op (last_of x) (last_of y))) at.nodes)

pub added_mux : (w : Context) (old one two mid : List Node) (n : Node) (c a b : Term) (h i j : ℕ) (found : Result Ty Bad) → Added w old one c h → Added w one two a i → Added w two mid b j → shape_found found ≡ type_mux (term_shape w c) (term_shape w a) (term_shape w b) → IsResultNode found (Mux h i j) n → Added w old (mid ++ n ∷ []) (MuxTerm c a b) (length mid)
added_mux w old one two mid n c a b h i j found ct at bt same is =
    added_operation w old mid n (MuxTerm c a b) found (Mux h i j)
    (record {
      kept = λ i f h. bt.kept i f (at.kept i f (ct.kept i f h));
      typed = λ h. bt.typed (at.typed (ct.typed h));
      names = λ s h. elim (bt.names s h) [
        | inl g ↦ elim (at.names s g) [
          | inl k ↦ elim (ct.names s k) [ inl m ↦ inl m | inr m ↦ inr (inl m) ]
          | inr k ↦ inr (inr (inl k))
        ]
        | inr g ↦ inr (inr (inr g))
      ];
    })
    (subst (λ (r : Result Shape Bad). Operation w mid (MuxTerm c a b) r (Mux h i j)) (sym same) (mux_is w mid c a b h i j (bt.kept h c (at.kept h c ct.stands)) (bt.kept i a at.stands) bt.stands)) is
    (let to : Result Shape Bad = type_mux (term_shape w c) (term_shape w a) (term_shape w b) in
    ap (λ (r : Result Shape Bad). with_result (laid mid) r (Mux h i j)) same
    ∙ ap (λ (k : ℕ). with_result (laid mid) to (Mux k i j)) (last-place one h ct.last)
    ∙ ap (λ (k : ℕ). with_result (laid mid) to (Mux (last_of (laid one)) k j)) (last-place two i at.last)
    ∙ ap (λ (k : ℕ). with_result (laid mid) to (Mux (last_of (laid one)) (last_of (laid two)) k)) (last-place mid j bt.last)
    ∙ ap (λ (z : List Laid). with_result z to (Mux (last_of (laid one)) (last_of (laid two)) (last_of z))) bt.nodes
    ∙ ap (λ (y : List Laid). let z : List Laid = with_term w y b in with_result z to (Mux (last_of (laid one)) (last_of y) (last_of z))) at.nodes
    ∙ ap (λ (x : List Laid). let y : List Laid = with_term w x a in let z : List Laid = with_term w y b in with_result z to (Mux (last_of x) (last_of y) (last_of z))) ct.nodes)
