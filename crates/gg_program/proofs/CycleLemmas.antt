-- Slots during a cycle: the signals that a signal reaches are worked out, and in the end all signals.
use Rattle.std.proofs.Common.{◌≡◌, ℕ, zero, suc, ◌<◌, List, length, take, replicate, Bool, true, false, true≢false, refl, sym, ◌∙◌, ap, subst, inl, inr, ◌⊎◌, arith}
use Rattle.std.specs.Prelude.{All, Contains}
use Rattle.std.specs.List.Sorted.{IsNonDecreasingBy}
use Rattle.std.proofs.lemmas.Bool.{cases_lt}
use Rattle.std.proofs.lemmas.List.{get_or_default, get_or-take, length-take, length-set, length-map, length-replicate}
use Rattle.gg_bits.specs.Shape.{shape, Fits}
use Rattle.gg_flat.specs.declared.piece.Signal.{Signal}
use Rattle.gg_flat.specs.declared.piece.Driver.TheVariants.{Input}
use Rattle.gg_flat.specs.Line.{shape_at, value_at, AreTyped}
use Rattle.gg_flat.specs.Circuit.{FlatCircuit, signal_shapes}
use Rattle.gg_flat.specs.Reads.{Reaches}
use Rattle.gg_order.specs.runs.Room.{HasRoom}
use Rattle.gg_flat.specs.WellFormed.{IsWellFormed, MayDrive}
use Rattle.gg_flat.specs.State.{State}
use Rattle.gg_flat.specs.Settled.{Settled, in_shapes}
use Rattle.gg_flat.proofs.TypedLemmas.{shape_at-in_shapes, AreTyped-zeros, AreTyped-set}
use Rattle.gg_flat.specs.InOrder.{IsInOrder}
use Rattle.gg_order.specs.Marks.{is_marked}
use Rattle.gg_order.proofs.NeedsLemmas.ReachLemmas.{Reaches-on, Reaches-within, along-reaches}
use Rattle.gg_program.specs.Slots.{Slotted, IsDone, NoneDone, AreSlots, HasInput, HasInputs, HasNeeded, inputs_in, DoneWith}
use Rattle.gg_program.specs.inside.Slots.{with_input}
use Rattle.gg_program.specs.Right.{AreRight, InCycle}
use Rattle.gg_program.specs.inside.Right.{IsInner}
use Rattle.gg_program.specs.inside.Search.{Searched, IsGathered, IsFull, StandBehind}
use Rattle.gg_program.proofs.SearchLemmas.{mark-more, mark-cases, marked-within}
use Rattle.gg_program.proofs.RightLemmas.{AreRight-same, AreRight-none, AreRight-put}

-- ---- what was found

-- found signals in ascending order come after the signals that they read
pub StandBehind-sorted : (circuit : FlatCircuit) (out : ℕ) (first : List Bool) (search : Searched) → IsInOrder circuit → IsNonDecreasingBy (λ s. s) search.found → IsGathered circuit out first search → StandBehind circuit first search.found
StandBehind-sorted circuit out first search ordered sorted g i s within reads = by (is_marked first s) refl
  where
    a : ℕ
    a = value_at search.found i

    by : (m : Bool) → is_marked first s ≡ m → (is_marked first s ≡ true) ⊎ Contains (take i search.found) s
    by true e = inl e
    by false e =
        let reached = ((g.found a).0 (i, within, get_or_default search.found i a 0 within)).0 in
        let has = (g.found s).1 (Reaches-on circuit out a s reached reads, e) in
        let at : value_at search.found has.0 ≡ s = get_or_default search.found has.0 0 s has.1 ∙ has.2 in
        let low : s < a = ordered a s reads in
        inr (elim (cases_lt has.0 i) [
          | inl less ↦ (has.0, omega (arith, less, has.1, length-take i search.found), get_or-take i search.found has.0 s less ∙ has.2)
          | inr ge ↦ let rises = sorted i has.0 0 ge has.1 in absurd (omega (arith, rises, at, low))
        ])

-- if the needed inputs were put, no found signal is an in-signal
pub found-inner : (circuit : FlatCircuit) (out : ℕ) (slots : Slotted) (search : Searched) → IsWellFormed circuit → out < length circuit.signals → HasNeeded circuit slots out → IsGathered circuit out slots.done search → All (IsInner circuit) search.found
found-inner circuit out slots search formed known needed g i d within =
    let s = value_at search.found i in
    let of = (g.found s).0 (i, within, get_or_default search.found i s 0 within) in
    let there = Reaches-within circuit out s formed known of.0 in
    subst (IsInner circuit) (get_or_default search.found i 0 d within)
    (record {
      known = there;
      inner = λ place is.
          let may : MayDrive circuit s (Input place) = subst (MayDrive circuit s) is (formed.drivers s there) in
          let put : IsDone slots (value_at circuit.ins place) = needed place may.0 (subst (Reaches circuit out) (sym may.1) of.0) in
          true≢false (sym (subst (IsDone slots) may.1 put) ∙ of.1);
    })

-- values that are right for the signals marked at first and for the found ones are right for all that are marked in the end
pub right-reached : (circuit : FlatCircuit) (state : State) (out : ℕ) (first : List Bool) (search : Searched) (values : List ℕ) → IsGathered circuit out first search → AreRight circuit state values (λ s. (is_marked first s ≡ true) ⊎ Contains search.found s) → AreRight circuit state values (λ s. is_marked search.marks s ≡ true)
right-reached circuit state out first search values g right =
    AreRight-same circuit state values (λ s. (is_marked first s ≡ true) ⊎ Contains search.found s) (λ s. is_marked search.marks s ≡ true) to from right
  where
    to : (s : ℕ) → (is_marked first s ≡ true) ⊎ Contains search.found s → is_marked search.marks s ≡ true
    to s (inl m) = (g.marked s).1 (inl m)
    to s (inr has) = (g.marked s).1 (inr ((g.found s).0 has).0)

    from : (s : ℕ) → is_marked search.marks s ≡ true → (is_marked first s ≡ true) ⊎ Contains search.found s
    from s is = elim ((g.marked s).0 is) [ inl m ↦ inl m | inr reaches ↦ by (is_marked first s) refl reaches ]
      where
        by : (m : Bool) → is_marked first s ≡ m → Reaches circuit out s → (is_marked first s ≡ true) ⊎ Contains search.found s
        by true e reaches = inl e
        by false e reaches = inr ((g.found s).1 (reaches, e))

-- slots in which the signals that a signal reaches were worked out
pub InCycle-reached : (circuit : FlatCircuit) (state : State) (out : ℕ) (before : Slotted) (search : Searched) (values : List ℕ) (room : ℕ) → AreSlots circuit before → room ≡ before.room → AreTyped (signal_shapes circuit) values → IsGathered circuit out before.done search → AreRight circuit state values (λ s. (is_marked before.done s ≡ true) ⊎ Contains search.found s) → InCycle circuit state (record { values = values; done = search.marks; room = room })
InCycle-reached circuit state out before search values room held same typed g right =
    record {
      held = record { typed = typed; count = g.count; room = subst (HasRoom circuit) (sym same) held.room };
      right = right-reached circuit state out before.done search values g right;
    }

-- ---- what is done afterwards

-- what was searched for is done, and nothing else
pub DoneWith-gathered : (circuit : FlatCircuit) (out : ℕ) (before after : Slotted) (search : Searched) → IsGathered circuit out before.done search → after.done ≡ search.marks → DoneWith circuit out before after
DoneWith-gathered circuit out before after search g same =
    record {
      done = λ s e. subst (λ (l : List Bool). is_marked l s ≡ true) (sym same) ((g.marked s).1 e);
      only = λ s is. elim ((g.marked s).0 (subst (λ (l : List Bool). is_marked l s ≡ true) same is)) [ inl was ↦ inl was | inr to ↦ inr (inl to) ];
    }

-- the signal was done before
pub DoneWith-before : (circuit : FlatCircuit) (state : State) (out : ℕ) (slots : Slotted) → InCycle circuit state slots → IsDone slots out → DoneWith circuit out slots slots
DoneWith-before circuit state out slots cycle is =
    record {
      done = λ s e. elim e [ inl was ↦ was | inr to ↦ along-reaches circuit (IsDone slots) (λ a b at reads. cycle.right.closed a b at reads) out s is to ];
      only = λ s was. inl was;
    }

-- all inputs were put, and all signals are done
pub DoneWith-all : (circuit : FlatCircuit) (out : ℕ) (before after : Slotted) → IsWellFormed circuit → out < length circuit.signals → length before.done ≡ length circuit.signals → HasInputs circuit before → ((s : ℕ) → s < length circuit.signals → IsDone after s) → DoneWith circuit out before after
DoneWith-all circuit out before after formed known count inputs all =
    record {
      done = λ s e. elim e [ inl was ↦ all s (omega (arith, count, marked-within before.done s was)) | inr to ↦ all s (Reaches-within circuit out s formed known to) ];
      only = λ s is. inr (inr inputs);
    }

-- if all signals are done, the values are settled
pub Settled-all : (circuit : FlatCircuit) (state : State) (inputs : List ℕ) (slots : Slotted) → InCycle circuit state slots → ((s : ℕ) → s < length circuit.signals → IsDone slots s) → inputs_in circuit slots.values ≡ inputs → Settled circuit state inputs slots.values
Settled-all circuit state inputs slots cycle all same =
    subst (λ (l : List ℕ). Settled circuit state l slots.values) same (record { typed = cycle.held.typed; driven = λ s known. cycle.right.driven s known (all s known) })

-- slots in which the rest was worked out
pub InCycle-rest : (circuit : FlatCircuit) (state : State) (before : Slotted) (values : List ℕ) (marks : List Bool) (room : ℕ) → AreSlots circuit before → IsWellFormed circuit → room ≡ before.room → AreTyped (signal_shapes circuit) values → length marks ≡ length before.done → IsFull marks → AreRight circuit state values (λ s. s < length circuit.signals) → InCycle circuit state (record { values = values; done = marks; room = room })
InCycle-rest circuit state before values marks room held formed same typed count full right =
    let total : length marks ≡ length circuit.signals = count ∙ held.count in
    record {
      held = record { typed = typed; count = total; room = subst (HasRoom circuit) (sym same) held.room };
      right =
          AreRight-same circuit state values (λ s. s < length circuit.signals) (λ s. is_marked marks s ≡ true)
          (λ s known. full s (omega (arith, known, total))) (λ s is. omega (arith, marked-within marks s is, total)) right;
    }

-- ---- the start of a cycle

pub unmarked : (n s : ℕ) → is_marked (replicate n false) s ≡ true → ⊥
unmarked zero s is = true≢false (sym is)
unmarked (suc n) zero is = true≢false (sym is)
unmarked (suc n) (suc s) is = unmarked n s is

-- slots in which nothing is done
pub InCycle-none : (circuit : FlatCircuit) (state : State) (slots : Slotted) → AreSlots circuit slots → NoneDone slots → InCycle circuit state slots
InCycle-none circuit state slots held none = record { held = held; right = AreRight-none circuit state slots.values (IsDone slots) none }

pub AreSlots-zeros : (circuit : FlatCircuit) (slots : Slotted) (n : ℕ) → n ≡ length circuit.signals → slots.values ≡ replicate n 0 → slots.done ≡ replicate n false → HasRoom circuit slots.room → AreSlots circuit slots
AreSlots-zeros circuit slots n all values done room =
    record {
      typed = subst (AreTyped (signal_shapes circuit)) (sym values) (AreTyped-zeros (signal_shapes circuit) n (all ∙ sym (length-map circuit.signals (λ (signal : Signal). shape signal.ty))));
      count = ap (λ (l : List Bool). length l) done ∙ length-replicate n false ∙ all;
      room = room;
    }

pub NoneDone-replicate : (slots : Slotted) (n : ℕ) → slots.done ≡ replicate n false → NoneDone slots
NoneDone-replicate slots n done s is = unmarked n s (subst (λ (l : List Bool). is_marked l s ≡ true) done is)

-- ---- an input is put

pub InCycle-put : (circuit : FlatCircuit) (state : State) (slots : Slotted) (place input : ℕ) → IsWellFormed circuit → place < length circuit.ins → Fits (shape_at (in_shapes circuit) place) input → ¬ HasInput circuit slots place → InCycle circuit state slots → InCycle circuit state (with_input circuit slots place input)
InCycle-put circuit state slots place input formed within fits free h =
    let s = value_at circuit.ins place in
    let known = (formed.ins place within).0 in
    let marked : s < length slots.done = omega (arith, known, h.held.count) in
    record {
      held = record {
        typed = AreTyped-set (signal_shapes circuit) slots.values s input h.held.typed
            (omega (arith, known, length-map circuit.signals (λ (signal : Signal). shape signal.ty)))
            (subst (λ sh. Fits sh input) (shape_at-in_shapes circuit place within) fits);
        count = length-set slots.done s true ∙ h.held.count;
        room = h.held.room;
      };
      right = AreRight-put circuit state slots.values place input (IsDone slots) (IsDone (with_input circuit slots place input)) formed within free
          (λ t is. mark-cases slots.done s t is) (λ t is. mark-more slots.done s t marked is) h.right;
    }
