-- Each expression, connection and condition of a circuit has a line, if the shapes of the circuit's signals are those of types.
use Rattle.std.proofs.Common.{◌≡◌, ℕ, zero, suc, ◌<◌, Bool, true, false, ◌&&◌, List, [], ◌∷◌, ◌++◌, length, Option, Some, None, Result, Ok, Err, refl, subst, inl, inr, ◌⊎◌, if◌then◌else◌, arith}
use Rattle.std.specs.Prelude.{is_some}
use Rattle.std.proofs.lemmas.Bool.Decides.{nat_tests}
use Rattle.std.proofs.lemmas.Nat.{pow_pos}
use Rattle.gg_bits.specs.declared.types.Bad.{Bad}
use Rattle.gg_bits.specs.declared.types.Ty.{Ty}
use Rattle.gg_bits.specs.ResultType.{is_condition, kinds2, params_const, same_kind, shape1, shape2, shape_const, shape_mux, type1, type2, type_const, type_mux}
use Rattle.gg_bits.specs.Shape.{Fits, Shape, of_kind, uint}
use Rattle.gg_bits.specs.inside.Shape.{shape_of as shape_found}
use Rattle.gg_ast.specs.declared.expression.Literal as literals
use Rattle.gg_ast.specs.declared.expression.Reference.{Reference}
use Rattle.gg_ast.specs.Term.{Term, NamedTerm, ConstantTerm, UnaryTerm, BinaryTerm, FixedTerm, MuxTerm}
use Rattle.gg_ast.proofs.NamePlaces.{place_of-below}
use Rattle.gg_flat.specs.declared.line.Node.{Node}
use Rattle.gg_flat.specs.declared.line.Op.{Op}
use Rattle.gg_flat.specs.declared.line.Op.TheVariants.{Ref, Literal, One, Two, Fix, Mux}
use Rattle.gg_flat.specs.Line.{HasShape, HasType, IsCondition, IsSource, op_at, shape_at, shapes_of}
use Rattle.gg_flat.specs.Reads.{Names}
use Rattle.gg_flat_tree.specs.Tree.{joined}
use Rattle.gg_flat.proofs.ListLemmas.{Contains-cases}
use Rattle.gg_flat.proofs.TypedLemmas.{pattern_of-lt}
use Rattle.gg_shape_names.specs.Scope.{written}
use Rattle.gg_types.specs.Literal.{literal_fits, literal_number, literal_value}
use Rattle.gg_types.specs.Types.{is_width, literal_shape}
use Rattle.gg_types.proofs.WidthLemmas.{answer-wide}
use Rattle.gg_elab_sites.specs.Connection.{Connection, ConnectedTo, Zeroed}
use Rattle.gg_elab_sites.specs.IsFlat.{IsConditionOf, IsLineFor, IsLineOf}
use Rattle.gg_elab_sites.specs.Meaning.{Context, named, named_if, takes, term_shape}
use Rattle.gg_elab.specs.inside.Growing.{Added, IsCut, IsResultNode, IsZeroNode, IsZeroOf}
use Rattle.gg_elab.proofs.LineLemmas.{added_fix, added_literal, added_mux, added_no_literal, added_nothing, added_one, added_reference, added_two}
use Rattle.gg_elab.proofs.SizedLemmas.{IsSized, one-bit, type_of}
use Rattle.gg_elab.proofs.WholeLineLemmas.{condition_fits, condition_stands, cut_fits, cut_stands, zero_connected, zero_laid}

-- ---- nodes

-- a node of 0
abbrev zero-node : (s : Shape) → IsSized s → Node
zero-node s sized = record { ty = type_of s sized; op = Literal (record { 0 = 0 }) }

abbrev zero-bit : Node
zero-bit = zero-node (uint 1) one-bit

zero-is : IsZeroNode zero-bit
zero-is = record { typed = refl; zero = refl }

-- a node for the result of an operation
record Given (result : Result Shape Bad) (op : Op) : Type 0 where
  node : Node
  found : Result Ty Bad
  same : shape_found found ≡ result
  is : IsResultNode found op node

given : (result : Result Shape Bad) (op : Op) → ((s : Shape) → result ≡ Ok s → IsSized s) → Given result op
given (Ok s) op sized = record { node = record { ty = type_of s (sized s refl); op = op }; found = Ok (type_of s (sized s refl)); same = refl; is = (refl, refl) }
given (Err bad) op sized = record { node = zero-bit; found = Err bad; same = refl; is = zero-is }

-- a literal with a shape has a pattern of that shape
literal-kept : (l : literals.Literal) (to : Shape) → literal_shape l ≡ Some to → IsSized to × Fits to (literal_value l)
literal-kept l to e = go (is_width l.width) refl (literal_fits l) e
  where
    go : (a : Bool) → is_width l.width ≡ a → (b : Bool) → (if a && b then Some (of_kind l.kind l.width) else None) ≡ Some to → IsSized to × Fits to (literal_value l)
    go true is true e =
        let same : of_kind l.kind l.width ≡ to = cc in
        let sized : IsSized (of_kind l.kind l.width) = grind (arith, nat_tests) in
        subst (λ (s : Shape). IsSized s × Fits s (literal_value l)) same (sized, pattern_of-lt l.width (literal_number l))
    go true is false e = absurd (cc)
    go false is b e = absurd (cc)

module _ (w : Context) (even : length w.bindings.signals.paths ≡ length w.bindings.signals.shapes) (sized : (s : ℕ) → s < length w.bindings.signals.shapes → IsSized (shape_at w.bindings.signals.shapes s)) where
  -- ---- expressions

  -- a line with the nodes of an expression behind it
  record Grown (old : List Node) (e : Term) : Type 0 where
    new : List Node
    last : ℕ
    added : Added w old new e last

  named-within : (r : Reference) (s : ℕ) → named w r ≡ Some s → s < length w.bindings.signals.shapes
  named-within r s e = go (is_some (w.bindings.types w.scope.number r)) e
    where
      go : (known : Bool) → named_if known w.bindings.signals.paths (joined w.scope.path (written r)) ≡ Some s → s < length w.bindings.signals.shapes
      go true e = omega (arith, even, place_of-below (joined w.scope.path (written r)) w.bindings.signals.paths s e)
      go false e = absurd (cc)

  grown : (e : Term) (old : List Node) → Grown old e
  grown (NamedTerm r) old = by (named w r) refl
    where
      by : (o : Option ℕ) → named w r ≡ o → Grown old (NamedTerm r)
      by None e = record { new = old ++ zero-bit ∷ []; last = length old; added = added_nothing w old zero-bit r e zero-is }
      by (Some s) e =
          let lt = named-within r s e in
          let n : Node = record { ty = type_of (shape_at w.bindings.signals.shapes s) (sized s lt); op = Ref s } in
          record { new = old ++ n ∷ []; last = length old; added = added_reference w old n r s e lt refl refl }
  grown (ConstantTerm l) old = by (literal_shape l) refl
    where
      by : (o : Option Shape) → literal_shape l ≡ o → Grown old (ConstantTerm l)
      by None e = record { new = old ++ zero-bit ∷ []; last = length old; added = added_no_literal w old zero-bit l e zero-is }
      by (Some to) e =
          let kept = literal-kept l to e in
          let n : Node = record { ty = type_of to kept.0; op = Literal (record { 0 = literal_value l }) } in
          record { new = old ++ n ∷ []; last = length old; added = added_literal w old n l (record { 0 = literal_value l }) to e kept.1 refl refl refl }
  grown (UnaryTerm op a) old =
      let x = grown a old in
      let s = term_shape w a in
      let g = given (type1 op s) (One op x.last) (λ t e. answer-wide true true (shape1 op s) t e) in
      record { new = x.new ++ g.node ∷ []; last = length x.new; added = added_one w old x.new g.node op a x.last g.found x.added g.same g.is }
  grown (BinaryTerm op a b) old =
      let x = grown a old in
      let y = grown b x.new in
      let s = term_shape w a in
      let r = term_shape w b in
      let g = given (type2 op s r) (Two op x.last y.last) (λ t e. answer-wide (kinds2 op s r) true (shape2 op s r) t e) in
      record { new = y.new ++ g.node ∷ []; last = length y.new; added = added_two w old x.new y.new g.node op a b x.last y.last g.found x.added y.added g.same g.is }
  grown (FixedTerm op a n m) old =
      let x = grown a old in
      let s = term_shape w a in
      let g = given (type_const op s n m) (Fix op x.last n m) (λ t e. answer-wide true (params_const op s n m) (shape_const op s n m) t e) in
      record { new = x.new ++ g.node ∷ []; last = length x.new; added = added_fix w old x.new g.node op a x.last n m g.found x.added g.same g.is }
  grown (MuxTerm c a b) old =
      let x = grown c old in
      let y = grown a x.new in
      let z = grown b y.new in
      let t = term_shape w c in
      let s = term_shape w a in
      let r = term_shape w b in
      let g = given (type_mux t s r) (Mux x.last y.last z.last) (λ u e. answer-wide (is_condition t && same_kind s.kind r.kind) true (shape_mux s r) u e) in
      record { new = z.new ++ g.node ∷ []; last = length z.new; added = added_mux w old x.new y.new z.new g.node c a b x.last y.last z.last g.found x.added y.added z.added g.same g.is }

  -- ---- whole lines

  abbrev Fitting : Shape → List Node → Type 0
  Fitting sink line = IsSource (HasType w.bindings.signals.shapes) sink line

  cut : (b : Bool) (line : List Node) (sink : Shape) → IsSized sink → (new : List Node) × IsCut b line sink new
  cut true line sink s = (line, refl)
  cut false line sink s = (line ++ zero-node sink s ∷ [], record { node = zero-node sink s; typed = refl; zero = refl; added = refl })

  pub taken : (sink : Shape) → IsSized sink → (e : Term) → (line : List Node) × IsLineOf w sink e line × Fitting sink line
  taken sink s e =
      let x = grown e [] in
      let c = cut (takes sink (term_shape w e)) x.new sink s in
      (c.0, cut_stands w x.new e x.last x.added sink c.0 c.1, cut_fits w x.new e x.last x.added sink c.0 c.1)

  pub tested : (e : Term) → (line : List Node) × IsConditionOf w e line × IsCondition (HasType w.bindings.signals.shapes) line
  tested e =
      let x = grown e [] in
      let c = cut (is_condition (term_shape w e)) x.new (uint 1) one-bit in
      (c.0, condition_stands w x.new e x.last x.added c.0 c.1, condition_fits w x.new e x.last x.added c.0 c.1)

  module _ (sink : Shape) (s : IsSized sink) where
    abbrev zeros : List Node
    zeros = zero-node sink s ∷ []

    zeros-are : IsZeroOf [] zeros sink
    zeros-are = record { node = zero-node sink s; typed = refl; zero = refl; added = refl }

    zeros-name : (t : ℕ) → Names zeros t → ⊥
    zeros-name t h = by (Contains-cases (Literal (record { 0 = 0 })) (Ref t) [] h)
      where
        by : (Literal (record { 0 = 0 }) ≡ Ref t) ⊎ Names [] t → ⊥
        by (inl same) = absurd (cc)
        by (inr none) = absurd (omega (arith, none.1))

    zeros-typed : (k : ℕ) → k < 1 → HasShape (HasType w.bindings.signals.shapes) (shapes_of zeros) k (shape_at (shapes_of zeros) k) (op_at zeros k)
    zeros-typed zero lt = pow_pos sink.width
    zeros-typed (suc k) lt = absurd (omega (arith, lt))

    zeros-fit : Fitting sink zeros
    zeros-fit = record { line = record { some = omega arith; typed = zeros-typed }; kind = refl; width = omega arith }

  pub connected : (sink : Shape) → IsSized sink → (c : Option Connection) → (line : List Node) × IsLineFor w sink c line × Fitting sink line
  connected sink s None =
      (zeros sink s, record { value = zero_connected [] (zeros sink s) sink (zeros-are sink s); names = λ t. (λ h. zeros-name sink s t h, λ h. absurd h); nodes = zero_laid [] (zeros sink s) sink (zeros-are sink s) }, zeros-fit sink s)
  connected sink s (Some Zeroed) =
      (zeros sink s, record { value = zero_connected [] (zeros sink s) sink (zeros-are sink s); names = λ t. (λ h. zeros-name sink s t h, λ h. absurd h); nodes = zero_laid [] (zeros sink s) sink (zeros-are sink s) }, zeros-fit sink s)
  connected sink s (Some (ConnectedTo e)) =
      let line = taken sink s e in
      (line.0, record { value = line.1.value; names = line.1.names; nodes = line.1.nodes }, line.2)
