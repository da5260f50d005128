-- Slots worked by hand, of the unit whose output `p` is its input `x` and whose output `q` is `xor(x, k)`: what is done after each
-- step, and which slots aren't those of a cycle.
use Rattle.std.proofs.Common.{◌≡◌, ℕ, zero, suc, ◌≤◌, ◌+◌, List, [], ◌∷◌, Bool, true, false, true≢false, refl, sym, subst, inl, inr, arith, lit<}
use Rattle.std.specs.List.Sorted.{IsNonDecreasingBy}
use Rattle.gg_flat.specs.declared.piece.Driver.TheVariants.{Input}
use Rattle.gg_flat.specs.Line.{shape_at, value_at}
use Rattle.gg_flat.specs.Circuit.{signal_shapes, driver_at}
use Rattle.gg_flat.specs.Reads.{Reads, Reaches}
use Rattle.gg_flat.specs.State.{State}
use Rattle.gg_flat.specs.Settled.{driver_value}
use Rattle.gg_flat.proofs.WorkedCircuits.{eight}
use Rattle.gg_flat.proofs.WorkedForms.{both, four}
use Rattle.gg_order.proofs.NeedsLemmas.ReachLemmas.{Reaches-itself, along-reaches}
use Rattle.gg_order.proofs.NeedsLemmas.WorkedUnits.{unit, q-k, In, copies, in-closed, p-k}
use Rattle.gg_program.specs.Slots.{Slotted, IsDone, HasInput, HasNeeded, HasInputs, DoneWith, inputs_in}
use Rattle.gg_program.specs.inside.Slots.{with_input}
use Rattle.gg_program.specs.Right.{AreRight, InCycle}
use Rattle.gg_program.specs.Unset.{unset, unset_among, IsConeDone}

abbrev start : State
start = record { registers = []; banks = [] }

abbrev slots : List ℕ → List Bool → Slotted
slots values done = record { values = values; done = done; room = 3 }

-- nothing is done, then `x` is put, then `p` is worked out
abbrev empty : Slotted
empty = slots (0 ∷ 0 ∷ 0 ∷ 0 ∷ []) (false ∷ false ∷ false ∷ false ∷ [])

abbrev with-x : Slotted
with-x = slots (5 ∷ 0 ∷ 0 ∷ 0 ∷ []) (true ∷ false ∷ false ∷ false ∷ [])

abbrev with-p : Slotted
with-p = slots (5 ∷ 0 ∷ 5 ∷ 0 ∷ []) (true ∷ false ∷ true ∷ false ∷ [])

puts-x : with_input unit empty 0 5 ≡ with-x
puts-x = refl

inputs : inputs_in unit with-x.values ≡ 5 ∷ 0 ∷ []
inputs = refl

-- then `p` may be worked out, and `q` not
p-may : HasNeeded unit with-x 2
p-may zero lt to = refl
p-may (suc zero) lt to = absurd (p-k to)
p-may (suc (suc place)) lt to = absurd (omega (arith, lt))

q-may-not : ¬ HasNeeded unit with-x 3
q-may-not needed = true≢false (sym (needed 1 (lit< tt) q-k))

-- the cycle may not be finished without `k`
not-all : ¬ HasInputs unit with-p
not-all all = true≢false (sym (all 1 (lit< tt)))

-- `p` is done with its driver's value, and what it reads is done
p-closed : (a b : ℕ) → IsDone with-p a → Reads unit a b → IsDone with-p b
p-closed zero b is reads = absurd reads.names
p-closed (suc zero) b is reads = absurd reads.names
p-closed (suc (suc zero)) b is reads = subst (IsDone with-p) (copies 0 b reads.names) refl
p-closed (suc (suc (suc zero))) b is reads = absurd (true≢false (sym is))
p-closed (suc (suc (suc (suc a)))) b is reads = absurd (true≢false (sym is))

p-right : AreRight unit start with-p.values (IsDone with-p)
p-right =
    record {
      closed = p-closed;
      driven = four (λ s. IsDone with-p s → value_at with-p.values s ≡ driver_value start (5 ∷ 0 ∷ []) with-p.values (shape_at (signal_shapes unit) s) (driver_at unit s))
          (λ is. refl) (λ is. absurd (true≢false (sym is))) (λ is. refl) (λ is. absurd (true≢false (sym is)));
    }

-- slots with another value of `p`, or with a signal done without what it reads, aren't those of a cycle
not-another : ¬ InCycle unit start (slots (5 ∷ 0 ∷ 6 ∷ 0 ∷ []) (true ∷ false ∷ true ∷ false ∷ []))
not-another cycle = absurd (omega (arith, cycle.right.driven 2 (lit< tt) refl))

not-alone : ¬ InCycle unit start (slots (5 ∷ 0 ∷ 5 ∷ 0 ∷ []) (false ∷ false ∷ true ∷ false ∷ []))
not-alone cycle = true≢false (sym (cycle.right.closed 2 0 refl (record { signal = lit< tt; names = (0, lit< tt, refl) })))

-- two signals have to be worked out, whether `x` was put or not; then one, then none
abbrev with-q : Slotted
with-q = slots (5 ∷ 3 ∷ 5 ∷ 6 ∷ []) (true ∷ true ∷ true ∷ true ∷ [])

unset-empty : unset unit empty ≡ 2
unset-empty = refl

unset-first : unset unit with-x ≡ 2
unset-first = refl

unset-then : unset unit with-p ≡ 1
unset-then = refl

unset-last : unset unit with-q ≡ 0
unset-last = refl

-- what `q` reaches isn't all done when `p` is
not-cone : ¬ IsConeDone unit 3 with-p
not-cone done = true≢false (sym (done 3 (Reaches-itself unit 3)))

-- `p` doesn't reach `q`, and `k` wasn't put, so `q` isn't done because `p` was worked out
p-q : ¬ Reaches unit 2 3
p-q to = along-reaches unit In in-closed 2 3 tt to

not-q : ¬ DoneWith unit 2 with-x (slots (5 ∷ 0 ∷ 5 ∷ 5 ∷ []) (true ∷ false ∷ true ∷ true ∷ []))
not-q done = elim (done.only 3 refl) [
  | inl was ↦ true≢false (sym was)
  | inr more ↦ elim more [ inl to ↦ p-q to | inr all ↦ true≢false (sym (all 1 (lit< tt))) ]
]

-- after `p` was worked out it must be done
not-less : ¬ DoneWith unit 2 with-x with-x
not-less done = true≢false (sym (done.done 2 (inr (Reaches-itself unit 2))))

-- if `k` was put too, all may be worked out with `p`
abbrev with-k : Slotted
with-k = slots (5 ∷ 3 ∷ 0 ∷ 0 ∷ []) (true ∷ true ∷ false ∷ false ∷ [])

was-done : (s : ℕ) → IsDone with-k s → IsDone with-q s
was-done zero is = refl
was-done (suc zero) is = refl
was-done (suc (suc zero)) is = refl
was-done (suc (suc (suc zero))) is = refl
was-done (suc (suc (suc (suc s)))) is = absurd (true≢false (sym is))

in-done : (s : ℕ) → In s → IsDone with-q s
in-done zero at = refl
in-done (suc zero) at = refl
in-done (suc (suc zero)) at = refl
in-done (suc (suc (suc s))) at = absurd at

all-done : DoneWith unit 2 with-k with-q
all-done =
    record {
      done = λ s e. elim e [ inl was ↦ was-done s was | inr to ↦ in-done s (along-reaches unit In in-closed 2 s tt to) ];
      only = λ s is. inr (inr (both (HasInput unit with-k) refl refl));
    }

-- slots with room for one node less than the line of `q` has
not-cramped : (values : List ℕ) (done : List Bool) → ¬ InCycle unit start (record { values = values; done = done; room = 2 })
not-cramped values done cycle = let least : 3 ≤ 2 = cycle.held.room.drivers 3 (record { ty = eight; driver = Input 0 }) (lit< tt) in absurd (omega (arith, least))

-- what is done already isn't evaluated once more
not-again : 7 + 1 ≤ 7 + unset_among unit with-q.done → ⊥
not-again steps = let least : 8 ≤ 7 = steps in absurd (omega (arith, least))

-- signals that are found stand in ascending order
not-turned : IsNonDecreasingBy (λ (s : ℕ). s) (2 ∷ 1 ∷ []) → ⊥
not-turned sorted = let least : 2 ≤ 1 = sorted 0 1 0 (omega arith) (lit< tt) in absurd (omega (arith, least))
