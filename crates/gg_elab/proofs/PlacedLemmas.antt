-- A node that was added stands for its expression, in the terms of the call that adds it.
use Rattle.std.proofs.Common.{◌≡◌, ℕ, List, [], ◌∷◌, ◌++◌, length, sym, ap, ◌∙◌, subst, Result, Ok, Err}
use Rattle.std.specs.Prelude.{IfOk}
use Rattle.gg_bits.specs.Shape.{shape}
use Rattle.gg_ast.specs.Term.{Term}
use Rattle.gg_flat.specs.declared.line.Node.{Node}
use Rattle.gg_elab.specs.declared.expression.Stand.{Stand}
use Rattle.gg_elab.specs.inside.Growing.{IsPlaced, Added}
use Rattle.gg_elab_sites.specs.Meaning.{Context, term_shape}
use Rattle.gg_elab.proofs.LineLemmas.{shape_at-last}

pub placed-weaker : {E : Type 0} (r : Result Stand E) (P Q : Node → Type 0) (old new : List Node) → ((n : Node) → P n → Q n) → IfOk r (λ s. IsPlaced P old new s) → IfOk r (λ s. IsPlaced Q old new s)
placed-weaker (Ok s) P Q old new f h = record { node = h.node; is = f h.node h.is; added = h.added; place = h.place; typed = h.typed }
placed-weaker (Err e) P Q old new f h = tt

-- what the call that adds the last node of an expression ensures
abbrev pub Stands : Context → List Node → List Node → Term → Stand → Type 0
Stands w old new e stand = Added w old new e stand.node × (shape stand.ty ≡ term_shape w e)

pub finished : {E : Type 0} (r : Result Stand E) (w : Context) (old mid new : List Node) (e x : Term) (P : Node → Type 0) → x ≡ e → IfOk r (λ s. IsPlaced P mid new s) → ((n : Node) → P n → Added w old (mid ++ n ∷ []) e (length mid)) → IfOk r (λ s. Stands w old new x s)
finished (Ok s) w old mid new e x P same h f =
    let a : Added w old (mid ++ h.node ∷ []) e (length mid) = f h.node h.is in
    let whole : Added w old new e s.node =
    subst (λ (l : List Node). Added w old l e s.node) (sym h.added) (subst (λ (k : ℕ). Added w old (mid ++ h.node ∷ []) e k) (sym h.place) a) in
    let typed : shape s.ty ≡ term_shape w e = ap shape h.typed ∙ sym (shape_at-last mid h.node) ∙ a.stands.node in
    subst (λ (t : Term). Stands w old new t s) (sym same) (whole, typed)
finished (Err e) w old mid new t x P same h f = tt

-- what stands for a term stands for an equal term: an operand, and what its pointer holds
pub operand : (w : Context) (old new : List Node) (a b : Term) (stand : Stand) → a ≡ b → Stands w old new a stand → Stands w old new b stand
operand w old new a b stand e h = subst (λ (t : Term). Stands w old new t stand) e h
