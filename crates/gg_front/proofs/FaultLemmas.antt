-- Faults exclude each other: an accepted text has no fault, and a text with a fault of reading has no fault of a circuit.
use Rattle.std.proofs.Common.{◌≡◌, ◌≢◌, ℕ, List, [], Option, None, Some, refl, sym, ◌∙◌, subst, inl, inr}
use Rattle.gg_ast.specs.Tree.{CircuitTree}
use Rattle.gg_read.specs.Text.{Spells, HasNoFaultLine, HasReadFault}
use Rattle.gg_read.specs.declared.text.ReadFault.{ReadFault}
use Rattle.gg_read.specs.declared.text.ReadFault.TheVariants as unread
use Rattle.gg_elab_sites.specs.declared.counts.Excess.{Excess}
use Rattle.gg_shape_names.specs.Along.{first}
use Rattle.gg_shape.specs.Judged.{IsShaped, RefusesFrom}
use Rattle.gg_shape.specs.Memories.{memory_faults}
use Rattle.gg_shape.specs.Shape.{named_faults}
use Rattle.gg_shape.specs.declared.fault.Fault.{Fault}
use Rattle.gg_shape.specs.declared.fault.CheckFault.TheVariants.{F}
use Rattle.gg_types.specs.Types.{type_faults}
use Rattle.gg_front.specs.Accepted.{IsAccepted, IsAcceptedText}
use Rattle.gg_front.specs.Fault.{HasFrontFault, IsFaulty, IsFirstFault, OfShape, OfTypes, OfLimits, OfLoop}
use Rattle.gg_front.specs.declared.fault.FrontFault.{FrontFault}
use Rattle.gg_front.specs.declared.fault.FrontFault.TheVariants as front

-- a text spells at most one circuit
abbrev pub OneCircuit : Type 0
OneCircuit = (text : List ℕ) (c d : CircuitTree) → Spells text c → Spells text d → c ≡ d

-- a text that spells a circuit and has no fault line has no fault of reading
spelt-read : (bytes : List ℕ) (circuit : CircuitTree) (fault : ReadFault) → fault ≢ unread.NoMemory → Spells bytes circuit → HasNoFaultLine bytes → HasReadFault bytes fault → ⊥
spelt-read bytes circuit unread.NotText some spelt faultless has = has spelt.utf8
spelt-read bytes circuit (unread.Syntax n) some spelt faultless has = faultless n has.1.0 has.1.1
spelt-read bytes circuit (unread.Outside n word) some spelt faultless has = faultless n has.1.0 has.1.1
spelt-read bytes circuit (unread.TooDeep n) some spelt faultless has = faultless n has.1.0 has.1.1
spelt-read bytes circuit unread.NoMemory some spelt faultless has = some refl

-- an empty list of faults has no first fault
pub none-first : (faults : List Fault) (fault : Fault) → faults ≡ [] → first faults ≡ Some fault → ⊥
none-first faults fault none told = let e : first [] ≡ Some fault = subst (λ (xs : List Fault). first xs ≡ Some fault) none told in absurd (cc)

pub shaped-told : (circuit : CircuitTree) (fault : Fault) → IsShaped circuit → RefusesFrom (named_faults circuit) circuit (F fault) → ⊥
shaped-told circuit fault shaped (inl told) = none-first (named_faults circuit) fault shaped.named told
shaped-told circuit fault shaped (inr (inl told)) = shaped.ringless told.told.ring told.told.is_ring
shaped-told circuit fault shaped (inr (inr told)) = none-first (memory_faults circuit) fault shaped.memories told.told

pub within-over : (found : Option Excess) (excess : Excess) → found ≡ None → found ≡ Some excess → ⊥
within-over found excess none some = let e : None ≡ Some excess = sym none ∙ some in absurd (cc)

-- an accepted circuit has no first fault
accepted-told : (circuit : CircuitTree) (fault : Fault) → IsAccepted circuit → IsFirstFault circuit fault → ⊥
accepted-told circuit fault accepted (OfShape told) = shaped-told circuit fault accepted.sound.shaped told
accepted-told circuit fault accepted (OfTypes shaped told) = none-first (type_faults circuit) fault accepted.sound.typed told
accepted-told circuit fault accepted (OfLimits sound excess over is) = within-over _ excess accepted.within over
accepted-told circuit fault accepted (OfLoop sound within flat flattened told) = accepted.free flat flattened told.signals told.loop.loop

pub text-told : OneCircuit → (text : List ℕ) (fault : FrontFault) → IsAcceptedText text → fault ≢ front.NoMemory → HasFrontFault text fault → ⊥
text-told one text (front.Read fault) accepted some has = spelt-read text accepted.circuit fault has.1 accepted.spelt accepted.faultless has.0
text-told one text (front.Fault fault) accepted some has =
    accepted-told has.circuit fault (subst IsAccepted (one text accepted.circuit has.circuit accepted.spelt has.spelt) accepted.accepted) has.told
text-told one text front.NoMemory accepted some has = some refl

pub read-told : (bytes : List ℕ) (one : ReadFault) (fault : Fault) → one ≢ unread.NoMemory → HasReadFault bytes one → IsFaulty bytes fault → ⊥
read-told bytes one fault some has faulty = spelt-read bytes faulty.circuit one some faulty.spelt faulty.faultless has
