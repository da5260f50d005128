-- Why a command with an order of files has ended, by its status.
use Rattle.std.proofs.Common.{◌≡◌, ℕ, List, [], ◌∙◌, inl, inr, arith, ◌⊎◌}
use Rattle.gg_io.specs.Said.{Said}
use Rattle.gg_io.specs.Order.{Order, StopsAt, IsWritten, DueAt, IsDueAccepted, IsExact, IsJudgement}
use Rattle.gg_io.specs.Ends.{Ends, Refused, Done, Unwritten, WantsMemory, Loads, NoneLost}
use Rattle.gg_io.proofs.OrderLemmas.{stops-due, written-due, stops-accepted}

-- no other status is one of a judgement
pub unjudged-0 : IsJudgement 0 → ⊥
unjudged-0 (inl e) = absurd (omega arith)
unjudged-0 (inr (inl e)) = absurd (omega arith)
unjudged-0 (inr (inr (inl e))) = absurd (omega arith)
unjudged-0 (inr (inr (inr (inl e)))) = absurd (omega arith)
unjudged-0 (inr (inr (inr (inr e)))) = absurd (omega arith)

pub unjudged-2 : IsJudgement 2 → ⊥
unjudged-2 (inl e) = absurd (omega arith)
unjudged-2 (inr (inl e)) = absurd (omega arith)
unjudged-2 (inr (inr (inl e))) = absurd (omega arith)
unjudged-2 (inr (inr (inr (inl e)))) = absurd (omega arith)
unjudged-2 (inr (inr (inr (inr e)))) = absurd (omega arith)

pub unjudged-3 : IsJudgement 3 → ⊥
unjudged-3 (inl e) = absurd (omega arith)
unjudged-3 (inr (inl e)) = absurd (omega arith)
unjudged-3 (inr (inr (inl e))) = absurd (omega arith)
unjudged-3 (inr (inr (inr (inl e)))) = absurd (omega arith)
unjudged-3 (inr (inr (inr (inr e)))) = absurd (omega arith)

pub unjudged-4 : IsJudgement 4 → ⊥
unjudged-4 (inl e) = absurd (omega arith)
unjudged-4 (inr (inl e)) = absurd (omega arith)
unjudged-4 (inr (inr (inl e))) = absurd (omega arith)
unjudged-4 (inr (inr (inr (inl e)))) = absurd (omega arith)
unjudged-4 (inr (inr (inr (inr e)))) = absurd (omega arith)

pub unjudged-5 : IsJudgement 5 → ⊥
unjudged-5 (inl e) = absurd (omega arith)
unjudged-5 (inr (inl e)) = absurd (omega arith)
unjudged-5 (inr (inr (inl e))) = absurd (omega arith)
unjudged-5 (inr (inr (inr (inl e)))) = absurd (omega arith)
unjudged-5 (inr (inr (inr (inr e)))) = absurd (omega arith)

pub unjudged-8 : IsJudgement 8 → ⊥
unjudged-8 (inl e) = absurd (omega arith)
unjudged-8 (inr (inl e)) = absurd (omega arith)
unjudged-8 (inr (inr (inl e))) = absurd (omega arith)
unjudged-8 (inr (inr (inr (inl e)))) = absurd (omega arith)
unjudged-8 (inr (inr (inr (inr e)))) = absurd (omega arith)

module _ (loads : Loads) (unwritten : Type 0) where
  -- why a command ended, with its status
  pub data WhyEnds (order : Order) (status : ℕ) (text line : List ℕ) : Type 0 where
    Stopped : (said : Said) (stops : StopsAt loads.files loads.lost loads.cut order said) (is : status ≡ said.status) (tells : line ≡ said.line) (none : text ≡ []) → WhyEnds order status text line
    Wrote : (written : IsWritten loads.files order text) (is : status ≡ 0) → WhyEnds order status text line
    Failed : (failed : unwritten) (whole : List ℕ) (written : IsWritten loads.files order whole) (is : status ≡ 4) → WhyEnds order status text line
    Wanted : (is : status ≡ 5) → WhyEnds order status text line

  pub ends-why : (order : Order) (status : ℕ) (text line : List ℕ) → Ends loads unwritten order status text line → WhyEnds order status text line
  ends-why order status text line (Refused said stops says none) = Stopped said stops says.0 says.1 none
  ends-why order status text line (Done written says) = Wrote written says.0
  ends-why order status text line (Unwritten failed whole written front says) = Failed failed whole written says.0
  ends-why order status text line (WantsMemory front says) = Wanted says.0

  -- what is reported is due, with the same status, or memory ran out
  abbrev pub SaysDue : (status : ℕ) (line : List ℕ) → Order → Said → Type 0
  SaysDue status line order due = ((status ≡ due.status) × ((said : Said) × DueAt loads.files order said × (status ≡ said.status) × (line ≡ said.line))) ⊎ (status ≡ 5)

  pub due-ends : (status : ℕ) (text line : List ℕ) (order : Order) (due : Said) → IsExact order → DueAt loads.files order due → NoneLost loads → WhyEnds order status text line
      → SaysDue status line order due
  due-ends status text line order due exact d none (Stopped said stops is tells nothing) =
      let same = stops-due loads.files loads.lost loads.cut order due said exact none d stops in
      inl (is ∙ same.1, (said, same.0, is, tells))
  due-ends status text line order due exact d none (Wrote written is) = absurd (written-due loads.files order due text exact d written)
  due-ends status text line order due exact d none (Failed failed whole written is) = absurd (written-due loads.files order due whole exact d written)
  due-ends status text line order due exact d none (Wanted is) = inr is

  pub complete-ends : (status : ℕ) (text line : List ℕ) (order : Order) → IsExact order → IsDueAccepted loads.files order → NoneLost loads → (unwritten → ⊥)
      → WhyEnds order status text line → (status ≡ 0) ⊎ (status ≡ 5)
  complete-ends status text line order exact d none wrote (Stopped said stops is tells nothing) = absurd (stops-accepted loads.files loads.lost loads.cut order said exact none d stops)
  complete-ends status text line order exact d none wrote (Wrote written is) = inl is
  complete-ends status text line order exact d none wrote (Failed failed part written is) = absurd (wrote failed)
  complete-ends status text line order exact d none wrote (Wanted is) = inr is
