-- A whole line: as it is, cut for a sink or a condition, and a line of 0.
use Rattle.std.proofs.Common.{◌≡◌, ℕ, ◌+◌, ◌-◌, ◌≤◌, ◌^◌, List, [], ◌∷◌, ◌++◌, length, refl, sym, ap, ◌∙◌, subst, arith, inl, inr, Bool, true, false, if◌then◌else◌}
use Rattle.std.specs.Prelude.{nat_le, nat_lt, ◌==◌, pos, ◌-ℤ◌}
use Rattle.std.proofs.lemmas.List.{append-nil, length_push}
use Rattle.std.proofs.lemmas.Nat.{pow_pos}
use Rattle.std.proofs.lemmas.Bool.Decides.{nat_tests}
use Rattle.std.proofs.Math.Nat.{zero-mod}
use Rattle.std.proofs.lemmas.Bool.{and_parts}
use Rattle.gg_bits.specs.declared.types.Kind.{Kind}
use Rattle.gg_bits.specs.declared.types.Kind.TheVariants.{UInt, SInt}
use Rattle.gg_bits.specs.Shape.{Shape, uint, of_kind}
use Rattle.gg_bits.specs.Value.{pattern_of, number_of}
use Rattle.gg_bits.specs.Meaning.{extended}
use Rattle.gg_bits.specs.ResultType.{same_kind, is_condition, is_uint}
use Rattle.gg_ast.specs.Term.{Term}
use Rattle.gg_flat.specs.declared.line.Node.{Node}
use Rattle.gg_flat.specs.declared.line.Op.TheVariants.{Ref, Literal}
use Rattle.gg_flat.specs.Line.{shape_at, value_at, shapes_of, HasType, IsLine, IsSource, IsCondition, line_shape, line_value, node_values, connected_value}
use Rattle.gg_flat.specs.Reads.{Names}
use Rattle.gg_elab.specs.inside.Growing.{HaveShapes, Added, IsZeroOf, IsCut}
use Rattle.gg_elab_sites.specs.IsFlat.{IsLineOf, IsConditionOf}
use Rattle.gg_elab_sites.specs.Lines.{laid, with_number, cut_line, with_term}
use Rattle.gg_elab_sites.specs.Meaning.{Context, term_shape, term_value, TermNames, takes}
use Rattle.gg_flat.proofs.NameLemmas.{Names-push, Names-push_cases}
use Rattle.gg_elab.proofs.LineLemmas.{shape_at-last, value_at-last, HaveShapes-push, laid-push}

last_node : (n k : ℕ) → n ≡ k + 1 → n - 1 ≡ k
last_node n k e = omega arith

-- ---- 0

-- 0 extended to any width is 0
pub extended-zero : (s : Shape) (w : ℕ) → extended s w 0 ≡ 0
extended-zero s w = ap (pattern_of w) (number-zero s.kind s.width) ∙ zero-mod (2 ^ w)
  where
    number-zero : (k : Kind) (n : ℕ) → number_of k n 0 ≡ pos 0
    number-zero UInt n = refl
    number-zero SInt n = go (nat_lt 0 (2 ^ (n - 1))) refl
      where
        go : (b : Bool) → nat_lt 0 (2 ^ (n - 1)) ≡ b → (if b then pos 0 else (pos 0 -ℤ pos (2 ^ n))) ≡ pos 0
        go true e = refl
        go false e = absurd (let le : 2 ^ (n - 1) ≤ 0 = grind (arith, nat_tests) in omega (arith, pow_pos (n - 1)))

-- a line with a 0 at its end gives 0
module _ (old new : List Node) (sink : Shape) (z : IsZeroOf old new sink) where
  pub zero_shape : line_shape new ≡ sink
  zero_shape =
      ap (λ (l : List Node). line_shape l) z.added
      ∙ ap (λ k. shape_at (shapes_of (old ++ z.node ∷ [])) k) (last_node (length (old ++ z.node ∷ [])) (length old) (length_push old z.node))
      ∙ shape_at-last old z.node ∙ z.typed

  pub zero_value : (values : List ℕ) → line_value values new ≡ 0
  zero_value values =
      ap (λ (l : List Node). line_value values l) z.added
      ∙ ap (λ k. value_at (node_values values (shapes_of (old ++ z.node ∷ [])) (old ++ z.node ∷ [])) k) (last_node (length (old ++ z.node ∷ [])) (length old) (length_push old z.node))
      ∙ value_at-last values (shapes_of (old ++ z.node ∷ [])) old z.node
      ∙ rw z.zero refl

  pub zero_connected : (values : List ℕ) → connected_value values sink new ≡ 0
  zero_connected values = ap (extended (line_shape new) sink.width) (zero_value values) ∙ extended-zero (line_shape new) sink.width

  zero_names : (s : ℕ) → Names new s → Names old s
  zero_names s h =
      elim (Names-push_cases old z.node s (subst (λ (l : List Node). Names l s) z.added h)) [
        | inl n ↦ n
        | inr e ↦ absurd (let clash : Literal (record { 0 = 0 }) ≡ Ref s = sym z.zero ∙ e in cc)
      ]

  old_names : (s : ℕ) → Names old s → Names new s
  old_names s h = subst (λ (l : List Node). Names l s) (sym z.added) (Names-push old z.node s h)

  zero_typed : (w : Context) → HaveShapes w old → HaveShapes w new
  zero_typed w h = subst (λ (l : List Node). HaveShapes w l) (sym z.added) (HaveShapes-push w old z.node (rw z.zero (pow_pos z.node.ty.width)) h)

  pub zero_laid : laid new ≡ with_number (laid old) sink 0
  zero_laid = ap (λ (l : List Node). laid l) z.added ∙ laid-push old z.node sink (Literal (record { 0 = 0 })) z.typed z.zero

cut-laid : (b : Bool) (line new : List Node) (sink : Shape) → IsCut b line sink new → laid new ≡ cut_line b sink (laid line)
cut-laid true line new sink c = ap (λ (l : List Node). laid l) c
cut-laid false line new sink c = zero_laid line new sink c

-- ---- a whole expression

module _ (w : Context) (nodes : List Node) (e : Term) (k : ℕ) (h : Added w [] nodes e k) where
  pub whole_shape : line_shape nodes ≡ term_shape w e
  whole_shape = ap (shape_at (shapes_of nodes)) (last_node (length nodes) k h.last) ∙ h.stands.node

  pub whole_value : (values : List ℕ) → line_value values nodes ≡ term_value w values e
  whole_value values =
      ap (value_at (node_values values (shapes_of nodes) nodes)) (last_node (length nodes) k h.last)
      ∙ ap (λ (l : List Shape). value_at (node_values values l nodes) k) (sym (append-nil (shapes_of nodes)))
      ∙ h.stands.value values []

  whole_names : (s : ℕ) → Names nodes s → TermNames w s e
  whole_names s n = elim (h.names s n) [ inl none ↦ absurd (omega (arith, none.1)) | inr t ↦ t ]

  whole_typed : HaveShapes w nodes
  whole_typed = h.typed (λ i lt. absurd (omega arith))

  whole_line : IsLine (HasType w.bindings.signals.shapes) nodes
  whole_line = record { some = omega (arith, h.last); typed = whole_typed }

  -- how the line is laid out, cut or not
  whole_laid : (b t : Bool) (new : List Node) (sink : Shape) → t ≡ b → IsCut b nodes sink new → laid new ≡ cut_line t sink (with_term w [] e)
  whole_laid b t new sink same c =
      cut-laid b nodes new sink c ∙ ap (cut_line b sink) h.nodes ∙ ap (λ (x : Bool). cut_line x sink (with_term w [] e)) (sym same)

  -- the line, cut for a sink, gives it the expression's value
  pub cut_stands : (sink : Shape) (new : List Node) → IsCut (takes sink (term_shape w e)) nodes sink new → IsLineOf w sink e new
  cut_stands sink new c = go (takes sink (term_shape w e)) refl c
    where
      go : (b : Bool) → takes sink (term_shape w e) ≡ b → IsCut b nodes sink new → IsLineOf w sink e new
      go true t c = record {
        value = λ values.
            ap (λ (l : List Node). connected_value values sink l) c
            ∙ ap (λ (s : Shape). extended s sink.width (line_value values nodes)) whole_shape
            ∙ ap (extended (term_shape w e) sink.width) (whole_value values)
            ∙ sym (ap (λ b. if b then extended (term_shape w e) sink.width (term_value w values e) else 0) t);
        names = λ s. (λ n. whole_names s (subst (λ (l : List Node). Names l s) c n), λ n. subst (λ (l : List Node). Names l s) (sym c) (h.stands.named s n));
        nodes = whole_laid true (takes sink (term_shape w e)) new sink t c;
      }
      go false t c = record {
        value = λ values. zero_connected nodes new sink c values ∙ sym (ap (λ b. if b then extended (term_shape w e) sink.width (term_value w values e) else 0) t);
        names = λ s. (λ n. whole_names s (zero_names nodes new sink c s n), λ n. old_names nodes new sink c s (h.stands.named s n));
        nodes = whole_laid false (takes sink (term_shape w e)) new sink t c;
      }

  same-kind : (a b : Kind) → same_kind a b ≡ true → b ≡ a
  same-kind UInt UInt e = refl
  same-kind UInt SInt e = absurd (cc)
  same-kind SInt UInt e = absurd (cc)
  same-kind SInt SInt e = refl

  pub cut_fits : (sink : Shape) (new : List Node) → IsCut (takes sink (term_shape w e)) nodes sink new → IsSource (HasType w.bindings.signals.shapes) sink new
  cut_fits sink new c = go (takes sink (term_shape w e)) refl c
    where
      go : (b : Bool) → takes sink (term_shape w e) ≡ b → IsCut b nodes sink new → IsSource (HasType w.bindings.signals.shapes) sink new
      go true t c =
          let narrow : nat_le (term_shape w e).width sink.width ≡ true = (and_parts (same_kind sink.kind (term_shape w e).kind) (nat_le (term_shape w e).width sink.width) t).1 in
          let le : (term_shape w e).width ≤ sink.width = grind (arith, nat_tests) in
          subst (λ (l : List Node). IsSource (HasType w.bindings.signals.shapes) sink l) (sym c) (record {
            line = whole_line;
            kind = ap (λ (s : Shape). s.kind) whole_shape ∙ same-kind sink.kind (term_shape w e).kind (and_parts (same_kind sink.kind (term_shape w e).kind) (nat_le (term_shape w e).width sink.width) t).0;
            width = omega (arith, ap (λ (s : Shape). s.width) whole_shape, le);
          })
      go false t c = record {
        line = record { some = omega (arith, ap (λ (l : List Node). length l) c.added, length_push nodes c.node); typed = zero_typed nodes new sink c w whole_typed };
        kind = ap (λ (s : Shape). s.kind) (zero_shape nodes new sink c);
        width = omega (arith, ap (λ (s : Shape). s.width) (zero_shape nodes new sink c));
      }

  uint_only : (k : Kind) → is_uint k ≡ true → k ≡ UInt
  uint_only UInt e = refl
  uint_only SInt e = absurd (cc)

  -- the line, cut for a condition, gives the condition's value
  pub condition_stands : (new : List Node) → IsCut (is_condition (term_shape w e)) nodes (uint 1) new → IsConditionOf w e new
  condition_stands new c = go (is_condition (term_shape w e)) refl c
    where
      go : (b : Bool) → is_condition (term_shape w e) ≡ b → IsCut b nodes (uint 1) new → IsConditionOf w e new
      go true t c = record {
        value = λ values.
            ap (λ (l : List Node). line_value values l) c
            ∙ whole_value values
            ∙ sym (ap (λ b. if b then term_value w values e else 0) t);
        names = λ s. (λ n. whole_names s (subst (λ (l : List Node). Names l s) c n), λ n. subst (λ (l : List Node). Names l s) (sym c) (h.stands.named s n));
        nodes = whole_laid true (is_condition (term_shape w e)) new (uint 1) t c;
      }
      go false t c = record {
        value = λ values. zero_value nodes new (uint 1) c values ∙ sym (ap (λ b. if b then term_value w values e else 0) t);
        names = λ s. (λ n. whole_names s (zero_names nodes new (uint 1) c s n), λ n. old_names nodes new (uint 1) c s (h.stands.named s n));
        nodes = whole_laid false (is_condition (term_shape w e)) new (uint 1) t c;
      }

  pub condition_fits : (new : List Node) → IsCut (is_condition (term_shape w e)) nodes (uint 1) new → IsCondition (HasType w.bindings.signals.shapes) new
  condition_fits new c = go (is_condition (term_shape w e)) refl c
    where
      go : (b : Bool) → is_condition (term_shape w e) ≡ b → IsCut b nodes (uint 1) new → IsCondition (HasType w.bindings.signals.shapes) new
      go true t c =
          let kind : (term_shape w e).kind ≡ UInt = uint_only (term_shape w e).kind (and_parts (is_uint (term_shape w e).kind) ((term_shape w e).width == 1) t).0 in
          let narrow : ((term_shape w e).width == 1) ≡ true = (and_parts (is_uint (term_shape w e).kind) ((term_shape w e).width == 1) t).1 in
          let one : (term_shape w e).width ≡ 1 = grind (arith, nat_tests) in
          subst (λ (l : List Node). IsCondition (HasType w.bindings.signals.shapes) l) (sym c) (record {
            line = whole_line;
            bit = whole_shape ∙ ap (λ (k : Kind). of_kind k (term_shape w e).width) kind ∙ ap (of_kind UInt) one;
          })
      go false t c = record {
        line = record { some = omega (arith, ap (λ (l : List Node). length l) c.added, length_push nodes c.node); typed = zero_typed nodes new (uint 1) c w whole_typed };
        bit = zero_shape nodes new (uint 1) c;
      }
