-- A unit worked by hand: the sets of marks after the pass, the needs that they give, and lists that aren't its needs.
use Rattle.std.proofs.Common.{◌≡◌, ℕ, zero, suc, List, [], ◌∷◌, true, false, true≢false, inr, refl, sym, subst, arith, lit<}
use Rattle.std.specs.Prelude.{Contains, length, slice_index_or}
use Rattle.gg_bits.specs.declared.ops.Op2.TheVariants.{Xor}
use Rattle.gg_flat.specs.declared.line.Op.TheVariants.{Ref, Two}
use Rattle.gg_flat.specs.Line.{value_at}
use Rattle.gg_flat.specs.declared.piece.Driver.TheVariants.{MemoryWord}
use Rattle.gg_flat.specs.Reads.{NamesSignal, Reaches}
use Rattle.gg_flat.proofs.WorkedForms.{both, same}
use Rattle.gg_order.specs.Marks.{is_marked}
use Rattle.gg_order.specs.needs.Needs.{AreNeeds}
use Rattle.gg_order.specs.needs.Needs.{AreNeedsOfOuts}
use Rattle.gg_order.specs.inside.Walk.{IsClosed, MarksReached}
use Rattle.gg_order.proofs.NeedsLemmas.MarkedInLemmas.{AreNeeds-marked, AreMarkedIns-none, AreMarkedIns-skip, AreMarkedIns-push}
use Rattle.gg_order.proofs.NeedsLemmas.ReachLemmas.{along-reaches}
use Rattle.gg_order.proofs.NeedsLemmas.WorkedUnits.{unit}
use Rattle.gg_order.specs.inside.NeedsMarks.{marks_of, Adds}
use Rattle.gg_order.specs.inside.Groups.{IsGroup}
use Rattle.gg_order.specs.inside.Walk.{AreReached, HandsOn}

-- The inputs `x` and `k` are signals 0 and 1, the outputs `p`, which is `x`, and `q`, which is `xor(x, k)`, signals 2 and 3. Both
-- outputs reach `x`, `q` alone reaches `k`, and each reaches itself.
abbrev sets : List ℕ
sets = 3 ∷ 2 ∷ 1 ∷ 2 ∷ []

copies : (s : ℕ) → Contains (Ref 0 ∷ []) (Ref s) → 0 ≡ s
copies s (zero, lt, is) = same 0 s is
copies s (suc i, lt, is) = absurd (omega arith)

p-closed : IsClosed unit (marks_of 0 sets)
p-closed zero b is reads = absurd reads.names
p-closed (suc zero) b is reads = absurd reads.names
p-closed (suc (suc zero)) b is reads = subst (λ (s : ℕ). is_marked (marks_of 0 sets) s ≡ true) (copies b reads.names) refl
p-closed (suc (suc (suc zero))) b is reads = cc
p-closed (suc (suc (suc (suc a)))) b is reads = cc

operands : (s : ℕ) → Contains (Ref 0 ∷ Ref 1 ∷ Two Xor 0 1 ∷ []) (Ref s) → is_marked (marks_of 1 sets) s ≡ true
operands s (zero, lt, is) = subst (λ (s : ℕ). is_marked (marks_of 1 sets) s ≡ true) (same 0 s is) refl
operands s (suc zero, lt, is) = subst (λ (s : ℕ). is_marked (marks_of 1 sets) s ≡ true) (same 1 s is) refl
operands s (suc (suc zero), lt, is) = cc
operands s (suc (suc (suc i)), lt, is) = absurd (omega arith)

q-closed : IsClosed unit (marks_of 1 sets)
q-closed zero b is reads = absurd reads.names
q-closed (suc zero) b is reads = absurd reads.names
q-closed (suc (suc zero)) b is reads = cc
q-closed (suc (suc (suc zero))) b is reads = operands b reads.names
q-closed (suc (suc (suc (suc a)))) b is reads = cc

p-reaches : (s : ℕ) → is_marked (marks_of 0 sets) s ≡ true → Reaches unit 2 s
p-reaches zero is = record { path = 0 ∷ []; reads = (record { signal = lit< tt; names = (0, lit< tt, refl) }, refl) }
p-reaches (suc zero) is = cc
p-reaches (suc (suc zero)) is = record { path = []; reads = refl }
p-reaches (suc (suc (suc zero))) is = cc
p-reaches (suc (suc (suc (suc s)))) is = cc

q-reaches : (s : ℕ) → is_marked (marks_of 1 sets) s ≡ true → Reaches unit 3 s
q-reaches zero is = record { path = 0 ∷ []; reads = (record { signal = lit< tt; names = (0, lit< tt, refl) }, refl) }
q-reaches (suc zero) is = record { path = 1 ∷ []; reads = (record { signal = lit< tt; names = (1, lit< tt, refl) }, refl) }
q-reaches (suc (suc zero)) is = cc
q-reaches (suc (suc (suc zero))) is = record { path = []; reads = refl }
q-reaches (suc (suc (suc (suc s)))) is = cc

p-marks : MarksReached unit 2 (marks_of 0 sets)
p-marks s = (p-reaches s, λ to. along-reaches unit (λ (x : ℕ). is_marked (marks_of 0 sets) x ≡ true) p-closed 2 s refl to)

q-marks : MarksReached unit 3 (marks_of 1 sets)
q-marks s = (q-reaches s, λ to. along-reaches unit (λ (x : ℕ). is_marked (marks_of 1 sets) x ≡ true) q-closed 3 s refl to)

-- these are the sets after the pass for the group of both outputs
after-pass : AreReached unit (2 ∷ 3 ∷ []) sets
after-pass = record { count = refl; each = λ place lt. both (λ (p : ℕ). MarksReached unit (value_at (2 ∷ 3 ∷ []) p) (marks_of p sets)) p-marks q-marks place lt }

-- other sets are wrong: `p` doesn't reach `k`
too-many : ¬ AreReached unit (2 ∷ 3 ∷ []) (3 ∷ 3 ∷ 1 ∷ 2 ∷ [])
too-many wrong = let is = (p-marks 1).1 ((wrong.each 0 (lit< tt) 1).0 refl) in cc

-- `x` doesn't lack the mark of `p`, which reads it
too-few : ¬ AreReached unit (2 ∷ 3 ∷ []) (2 ∷ 2 ∷ 1 ∷ 2 ∷ [])
too-few wrong = true≢false (sym ((wrong.each 0 (lit< tt) 0).1 (record { path = 0 ∷ []; reads = (record { signal = lit< tt; names = (0, lit< tt, refl) }, refl) })))

-- `q` passes its own mark on, and no other
other-mark : ¬ HandsOn unit 3 (0 ∷ 0 ∷ 0 ∷ 2 ∷ []) (1 ∷ 1 ∷ 0 ∷ 2 ∷ [])
other-mark hands = true≢false (sym ((hands.each 1).read 0 refl (record { signal = lit< tt; names = (0, lit< tt, refl) })))

-- ---- a set that is added to that of a signal

-- the marks that the signal has stay
not-lost : ¬ Adds 1 (λ s. 0 ≡ s) (2 ∷ []) (1 ∷ [])
not-lost adds = let is : (false ∷ []) ≡ (true ∷ []) = adds.kept 1 refl in cc

-- the signal gets those that are added
not-added : ¬ Adds 1 (λ s. 0 ≡ s) (0 ∷ []) (0 ∷ [])
not-added adds = true≢false (sym ((adds.given 0 refl).marked 0 refl))

-- so does the enable of a read, and not its address alone
not-enabled : ¬ Adds 1 (NamesSignal (MemoryWord 0 0 0 1)) (0 ∷ 0 ∷ []) (1 ∷ 0 ∷ [])
not-enabled adds = true≢false (sym ((adds.given 0 refl).marked 1 (inr refl)))

-- a group has no more out-signals than a set has bits
not-larger : (outs group : List ℕ) → length group ≡ 129 → ¬ IsGroup outs 0 group
not-larger outs group many is = absurd (omega (arith, is.most, many))

-- ---- the needs

p-both : ¬ AreNeeds unit 2 (0 ∷ 1 ∷ [])
p-both needs = let is = (p-marks 1).1 ((needs.exact 1).0 (1, lit< tt, refl)).1 in cc

p-needs : AreNeeds unit 2 (0 ∷ [])
p-needs = AreNeeds-marked unit 2 (marks_of 0 sets) (0 ∷ []) p-marks (AreMarkedIns-skip unit (marks_of 0 sets) 1 (0 ∷ []) refl (AreMarkedIns-push unit (marks_of 0 sets) 0 [] refl (AreMarkedIns-none unit (marks_of 0 sets))))

q-needs : AreNeeds unit 3 (0 ∷ 1 ∷ [])
q-needs = AreNeeds-marked unit 3 (marks_of 1 sets) (0 ∷ 1 ∷ []) q-marks (AreMarkedIns-push unit (marks_of 1 sets) 1 (0 ∷ []) refl (AreMarkedIns-push unit (marks_of 1 sets) 0 [] refl (AreMarkedIns-none unit (marks_of 1 sets))))

-- `p` needs `x`, and `q` both
all-needs : AreNeedsOfOuts unit ((0 ∷ []) ∷ (0 ∷ 1 ∷ []) ∷ [])
all-needs =
    record { count = refl; each = λ out lt. both (λ (o : ℕ). AreNeeds unit (value_at unit.outs o) (slice_index_or ((0 ∷ []) ∷ (0 ∷ 1 ∷ []) ∷ []) o [])) p-needs q-needs out lt }

-- not the other way round, not all inputs for each, and a list for each
reversed : ¬ AreNeedsOfOuts unit ((0 ∷ 1 ∷ []) ∷ (0 ∷ []) ∷ [])
reversed wrong = p-both (wrong.each 0 (lit< tt))

all-for-each : ¬ AreNeedsOfOuts unit ((0 ∷ 1 ∷ []) ∷ (0 ∷ 1 ∷ []) ∷ [])
all-for-each wrong = p-both (wrong.each 0 (lit< tt))

one-list : ¬ AreNeedsOfOuts unit ((0 ∷ []) ∷ [])
one-list wrong = absurd (omega (arith, wrong.count))
