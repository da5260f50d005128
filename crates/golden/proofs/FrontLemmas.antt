-- What is reported for a circuit's text that is refused.
use Rattle.std.proofs.Common.{◌≡◌, ◌≢◌, ℕ, List, refl, sym, ap, ◌∙◌, inl}
use Rattle.gg_read.specs.FaultText.{fault_text}
use Rattle.gg_read.specs.Text.{HasReadFault}
use Rattle.gg_read.specs.declared.text.ReadFault.{ReadFault}
use Rattle.gg_read.specs.declared.text.ReadFault.TheVariants as unread
use Rattle.gg_front.specs.Accepted.{IsAcceptedText}
use Rattle.gg_front.specs.Fault.{HasFrontFault, IsFaulty, front_text}
use Rattle.gg_front.specs.declared.fault.FrontFault.{FrontFault}
use Rattle.gg_front.specs.declared.fault.FrontFault.TheVariants as front
use Rattle.gg_front.proofs.AgreementLemmas.{OneFaultLine, read-once}
use Rattle.gg_shape.specs.declared.fault.Fault.{Fault}
use Rattle.gg_io.specs.Said.{Said}
use Rattle.golden_commands.specs.Lines.{TellsUnread, circuit_fault}
use Rattle.gg_io.specs.Order.{IsExactFile}
use Rattle.golden_commands.specs.Run.{TellsCircuit, circuit_file}
use Rattle.gg_io.proofs.OrderLemmas.{exact-by}

-- an accepted text has no fault
abbrev pub NoFaultAccepted : Type 0
NoFaultAccepted = (text : List ℕ) (fault : FrontFault) → IsAcceptedText text → fault ≢ front.NoMemory → HasFrontFault text fault → ⊥

-- a text with a fault of reading has no fault of a circuit
abbrev pub NoFaultUnread : Type 0
NoFaultUnread = (text : List ℕ) (one : ReadFault) (fault : Fault) → one ≢ unread.NoMemory → HasReadFault text one → IsFaulty text fault → ⊥

-- if a text has a fault of reading, only this fault is reported
told-once : OneFaultLine → NoFaultUnread → (bytes : List ℕ) (fault : ReadFault) (other : FrontFault) → fault ≢ unread.NoMemory → HasReadFault bytes fault
    → other ≢ front.NoMemory → HasFrontFault bytes other → front_text other ≡ fault_text fault
told-once one apart bytes fault (front.Read other) some has told has' =
    ap fault_text (read-once one bytes other fault has'.1 has'.0 some has)
told-once one apart bytes fault (front.Fault other) some has told has' = absurd (apart bytes fault other some has has')
told-once one apart bytes fault front.NoMemory some has told has' = absurd (told refl)

pub unread-once : OneFaultLine → NoFaultUnread → (bytes : List ℕ) (fault : ReadFault) (said other : Said) → HasReadFault bytes fault → TellsUnread fault said
    → TellsCircuit bytes other → other ≡ said
unread-once one apart bytes fault said other has tells (told, has', some, is) =
    is ∙ ap circuit_fault (told-once one apart bytes fault told tells.0 has some has') ∙ sym tells.1

-- nothing is reported for a circuit's bytes that are accepted, and all that is reported for others has the status 1
pub circuit_file-exact : NoFaultAccepted → (name : List ℕ) → IsExactFile (circuit_file name)
circuit_file-exact never name =
    exact-by 1 (inl refl) (λ bytes said accepts refuses. never bytes refuses.0 accepts refuses.2 refuses.1) (λ bytes said refuses. ap (λ (s : Said). s.status) refuses.3)
