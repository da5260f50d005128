-- Any two faults that one text may be refused with agree.
use Rattle.std.proofs.Common.{◌≡◌, ◌≢◌, ℕ, List, Option, None, Some, refl, sym, ◌∙◌, subst, inl, inr}
use Rattle.std.specs.Str.{IsUtf8}
use Rattle.gg_ast.specs.Tree.{CircuitTree}
use Rattle.gg_elab_sites.specs.declared.counts.Excess.{Excess}
use Rattle.gg_read.specs.Text.{LineTokens, IsFaultLine, IsTooDeep, HasReadFault, first_outside}
use Rattle.gg_read.specs.declared.text.ReadFault.{ReadFault}
use Rattle.gg_read.specs.declared.text.ReadFault.TheVariants as unread
use Rattle.gg_shape_names.specs.Along.{first}
use Rattle.gg_shape.specs.Judged.{RefusesFrom, IsInRing}
use Rattle.gg_shape.specs.Memories.{memory_faults}
use Rattle.gg_shape.specs.Shape.{named_faults}
use Rattle.gg_shape.specs.declared.fault.Fault.{Fault}
use Rattle.gg_shape.specs.declared.fault.CheckFault.TheVariants.{F}
use Rattle.gg_types.specs.Types.{type_faults}
use Rattle.gg_front.specs.Accepted.{excess_of}
use Rattle.gg_front.specs.inside.Agreement.{AreAlike, Agree}
use Rattle.gg_front.specs.Fault.{HasFrontFault, IsFirstFault, OfShape, OfTypes, OfLimits, OfLoop, over_limit}
use Rattle.gg_front.specs.declared.fault.FrontFault.{FrontFault}
use Rattle.gg_front.specs.declared.fault.FrontFault.TheVariants as front
use Rattle.gg_front.proofs.FaultLemmas.{OneCircuit, none-first, shaped-told, within-over, read-told}

-- a text has at most one fault line
abbrev pub OneFaultLine : Type 0
OneFaultLine = (text : List ℕ) (n m : ℕ) (line other : LineTokens) → IsFaultLine text n line → IsFaultLine text m other → (n ≡ m) × (line ≡ other)

-- ---- faults of reading

-- the fault of a fault line, by the line's tokens
data TellsLine (n : ℕ) (line : LineTokens) (fault : ReadFault) : Type 0 where
  Deep : (deep : IsTooDeep line.tokens) (is : fault ≡ unread.TooDeep n) → TellsLine n line fault
  Left : (word : List ℕ) (shallow : IsTooDeep line.tokens → ⊥) (found : first_outside line.tokens ≡ Some word) (is : fault ≡ unread.Outside n word) → TellsLine n line fault
  Wrong : (shallow : IsTooDeep line.tokens → ⊥) (none : first_outside line.tokens ≡ None) (is : fault ≡ unread.Syntax n) → TellsLine n line fault

tells-once : (n : ℕ) (line : LineTokens) (one other : ReadFault) → TellsLine n line one → TellsLine n line other → one ≡ other
tells-once n line one other (Deep deep is) (Deep deep' is') = is ∙ sym is'
tells-once n line one other (Deep deep is) (Left word shallow found is') = absurd (shallow deep)
tells-once n line one other (Deep deep is) (Wrong shallow none is') = absurd (shallow deep)
tells-once n line one other (Left word shallow found is) (Deep deep is') = absurd (shallow deep)
tells-once n line one other (Left word shallow found is) (Left word' shallow' found' is') = let e : word ≡ word' = cc in cc
tells-once n line one other (Left word shallow found is) (Wrong shallow' none is') = absurd (cc)
tells-once n line one other (Wrong shallow none is) (Deep deep is') = absurd (shallow deep)
tells-once n line one other (Wrong shallow none is) (Left word shallow' found is') = absurd (cc)
tells-once n line one other (Wrong shallow none is) (Wrong shallow' none' is') = is ∙ sym is'

-- why a text isn't read
data Unread (text : List ℕ) (fault : ReadFault) : Type 0 where
  NoText : (none : IsUtf8 text → ⊥) (is : fault ≡ unread.NotText) → Unread text fault
  AtLine : (utf8 : IsUtf8 text) (n : ℕ) (line : LineTokens) (at : IsFaultLine text n line) (tells : TellsLine n line fault) → Unread text fault

unread-by : (text : List ℕ) (fault : ReadFault) → fault ≢ unread.NoMemory → HasReadFault text fault → Unread text fault
unread-by text unread.NotText some has = NoText has refl
unread-by text (unread.TooDeep n) some has = AtLine has.0 n has.1.0 has.1.1 (Deep has.1.2 refl)
unread-by text (unread.Outside n word) some has = AtLine has.0 n has.1.0 has.1.1 (Left word has.1.2 has.1.3 refl)
unread-by text (unread.Syntax n) some has = AtLine has.0 n has.1.0 has.1.1 (Wrong has.1.2 has.1.3 refl)
unread-by text unread.NoMemory some has = absurd (some refl)

unread-once : OneFaultLine → (text : List ℕ) (one other : ReadFault) → Unread text one → Unread text other → one ≡ other
unread-once line_once text one other (NoText none is) (NoText none' is') = is ∙ sym is'
unread-once line_once text one other (NoText none is) (AtLine utf8 n line at tells) = absurd (none utf8)
unread-once line_once text one other (AtLine utf8 n line at tells) (NoText none is) = absurd (none utf8)
unread-once line_once text one other (AtLine utf8 n line at tells) (AtLine utf8' m line' at' tells') =
    let same = line_once text n m line line' at at' in
    tells-once m line' one other
    (subst (λ (l : LineTokens). TellsLine m l one) same.1 (subst (λ (k : ℕ). TellsLine k line one) same.0 tells)) tells'

-- a text has at most one fault of reading
pub read-once : OneFaultLine → (text : List ℕ) (one other : ReadFault) → one ≢ unread.NoMemory → HasReadFault text one → other ≢ unread.NoMemory → HasReadFault text other → one ≡ other
read-once line_once text one other some has some' has' = unread-once line_once text one other (unread-by text one some has) (unread-by text other some' has')

-- ---- faults of circuits

first-once : (faults : List Fault) (one other : Fault) → first faults ≡ Some one → first faults ≡ Some other → one ≡ other
first-once faults one other a b = cc

excess-once : (found : Option Excess) (one other : Excess) → found ≡ Some one → found ≡ Some other → over_limit one ≡ over_limit other
excess-once found one other a b = let e : one ≡ other = cc in cc

rings-alike : (circuit : CircuitTree) (one other : Fault) → IsInRing (named_faults circuit) circuit one → IsInRing (named_faults circuit) circuit other → AreAlike one other
rings-alike circuit one other a b = inr (inl (record { modules = _; others = _; one_is = a.told.fault_is; other_is = b.told.fault_is }))

shape-alike : (circuit : CircuitTree) (one other : Fault) → RefusesFrom (named_faults circuit) circuit (F one) → RefusesFrom (named_faults circuit) circuit (F other) → AreAlike one other
shape-alike circuit one other (inl a) (inl b) = inl (first-once (named_faults circuit) one other a b)
shape-alike circuit one other (inl a) (inr (inl b)) = absurd (none-first (named_faults circuit) one b.named a)
shape-alike circuit one other (inl a) (inr (inr b)) = absurd (none-first (named_faults circuit) one b.named a)
shape-alike circuit one other (inr (inl a)) (inl b) = absurd (none-first (named_faults circuit) other a.named b)
shape-alike circuit one other (inr (inl a)) (inr (inl b)) = rings-alike circuit one other a b
shape-alike circuit one other (inr (inl a)) (inr (inr b)) = absurd (b.ringless a.told.ring a.told.is_ring)
shape-alike circuit one other (inr (inr a)) (inl b) = absurd (none-first (named_faults circuit) other a.named b)
shape-alike circuit one other (inr (inr a)) (inr (inl b)) = absurd (a.ringless b.told.ring b.told.is_ring)
shape-alike circuit one other (inr (inr a)) (inr (inr b)) = inl (first-once (memory_faults circuit) one other a.told b.told)

pub first-alike : (circuit : CircuitTree) (one other : Fault) → IsFirstFault circuit one → IsFirstFault circuit other → AreAlike one other
first-alike circuit one other (OfShape a) (OfShape b) = shape-alike circuit one other a b
first-alike circuit one other (OfShape a) (OfTypes shaped b) = absurd (shaped-told circuit one shaped a)
first-alike circuit one other (OfShape a) (OfLimits sound excess over is) = absurd (shaped-told circuit one sound.shaped a)
first-alike circuit one other (OfShape a) (OfLoop sound within flat flattened told) = absurd (shaped-told circuit one sound.shaped a)
first-alike circuit one other (OfTypes shaped a) (OfShape b) = absurd (shaped-told circuit other shaped b)
first-alike circuit one other (OfTypes shaped a) (OfTypes shaped' b) = inl (first-once (type_faults circuit) one other a b)
first-alike circuit one other (OfTypes shaped a) (OfLimits sound excess over is) = absurd (none-first (type_faults circuit) one sound.typed a)
first-alike circuit one other (OfTypes shaped a) (OfLoop sound within flat flattened told) = absurd (none-first (type_faults circuit) one sound.typed a)
first-alike circuit one other (OfLimits sound excess over is) (OfShape b) = absurd (shaped-told circuit other sound.shaped b)
first-alike circuit one other (OfLimits sound excess over is) (OfTypes shaped b) = absurd (none-first (type_faults circuit) other sound.typed b)
first-alike circuit one other (OfLimits sound excess over is) (OfLimits sound' excess' over' is') =
    inl (is ∙ excess-once (excess_of circuit) excess excess' over over' ∙ sym is')
first-alike circuit one other (OfLimits sound excess over is) (OfLoop sound' within flat flattened told) = absurd (within-over (excess_of circuit) excess within over)
first-alike circuit one other (OfLoop sound within flat flattened told) (OfShape b) = absurd (shaped-told circuit other sound.shaped b)
first-alike circuit one other (OfLoop sound within flat flattened told) (OfTypes shaped b) = absurd (none-first (type_faults circuit) other sound.typed b)
first-alike circuit one other (OfLoop sound within flat flattened told) (OfLimits sound' excess over is') = absurd (within-over (excess_of circuit) excess within over)
first-alike circuit one other (OfLoop sound within flat flattened told) (OfLoop sound' within' flat' flattened' told') =
    inr (inr (record { paths = _; others = _; one_is = told.fault_is; other_is = told'.fault_is }))

-- ---- faults of texts

pub faults-agree : OneCircuit → OneFaultLine → (text : List ℕ) (one other : FrontFault) → HasFrontFault text one → HasFrontFault text other → Agree one other
faults-agree spelt_once line_once text (front.Read one) (front.Read other) a b =
    read-once line_once text one other a.1 a.0 b.1 b.0
faults-agree spelt_once line_once text (front.Read one) (front.Fault other) a b = read-told text one other a.1 a.0 b
faults-agree spelt_once line_once text (front.Read one) front.NoMemory a b = tt
faults-agree spelt_once line_once text (front.Fault one) (front.Read other) a b = read-told text other one b.1 b.0 a
faults-agree spelt_once line_once text (front.Fault one) (front.Fault other) a b =
    let told = subst (λ (t : CircuitTree). IsFirstFault t one) (spelt_once text a.circuit b.circuit a.spelt b.spelt) a.told in
    first-alike b.circuit one other told b.told
faults-agree spelt_once line_once text (front.Fault one) front.NoMemory a b = tt
faults-agree spelt_once line_once text front.NoMemory other a b = tt
