-- Each out-signal of a piece in an order of evaluation has its needs, and so has each channel of a plan.
use Rattle.std.proofs.Common.{◌≡◌, ℕ, zero, suc, ◌<◌, List, [], ◌∷◌, length, map, ap, subst, inl, inr, ◌⊎◌, arith}
use Rattle.std.specs.Prelude.{filter}
use Rattle.std.specs.List.{range_with_len}
use Rattle.std.proofs.lemmas.Bool.{cases_eq}
use Rattle.gg_flat.specs.declared.line.Node.{Node}
use Rattle.gg_flat.specs.declared.line.Op.{Op}
use Rattle.gg_flat.specs.declared.line.Op.TheVariants.{Ref, Literal, One, Two, Fix, Mux}
use Rattle.gg_flat.specs.declared.piece.Driver.{Driver}
use Rattle.gg_flat.specs.declared.piece.Driver.TheVariants.{Input, Held, MemoryWord, ReadRegister, Computed}
use Rattle.gg_flat.specs.Circuit.{FlatCircuit, driver_at}
use Rattle.gg_flat.specs.Line.{value_at}
use Rattle.gg_flat.specs.Reads.{IsPath, Names, NamesSignal, Reaches, Reads}
use Rattle.gg_flat.proofs.ListLemmas.{Contains-cases, Contains-filter, filter-cases, further, in-range, numbers-up, range-below}
use Rattle.gg_order.specs.needs.Needs.{AreNeeds, AreNeedsOfOuts}
use Rattle.gg_order.proofs.NeedsLemmas.ReachLemmas.{Reaches-itself}
use Rattle.gg_flat.specs.InOrder.{IsInOrder}
use Rattle.gg_cut.proofs.ExistenceLemmas.DecideLemmas.{Decided, IsAny, any-below, both, either, holds, holds-true, is-below, true-holds}
use Rattle.gg_cut.proofs.ExistenceLemmas.FilledLemmas.{IsFilled, filled}

-- ---- what a signal reads

is-ref : (op : Op) (s : ℕ) → Decided (op ≡ Ref s)
is-ref (Ref t) s = by (cases_eq t s)
  where
    by : (t ≡ s) ⊎ (t ≡ s → ⊥) → Decided (Ref t ≡ Ref s)
    by (inl same) = inl (ap Ref same)
    by (inr other) = inr (λ e. other (let same : t ≡ s = cc in same))
is-ref (Literal value) s = inr (λ e. absurd (cc))
is-ref (One op i) s = inr (λ e. absurd (cc))
is-ref (Two op i j) s = inr (λ e. absurd (cc))
is-ref (Fix op i n m) s = inr (λ e. absurd (cc))
is-ref (Mux c i j) s = inr (λ e. absurd (cc))

names : (line : List Node) (s : ℕ) → Decided (Names line s)
names [] s = inr (λ c. absurd (let lt = c.1 in omega (arith, lt)))
names (node ∷ line) s = by (is-ref node.op s) (names line s)
  where
    by : Decided (node.op ≡ Ref s) → Decided (Names line s) → Decided (Names (node ∷ line) s)
    by (inl same) d = inl (0, omega arith, same)
    by (inr other) (inl later) = inl (further node.op (map (λ (n : Node). n.op) line) (Ref s) later)
    by (inr other) (inr none) = inr (λ c. at (Contains-cases node.op (Ref s) (map (λ (n : Node). n.op) line) c))
      where
        at : (node.op ≡ Ref s) ⊎ Names line s → ⊥
        at (inl same) = other same
        at (inr later) = none later

names-signal : (driver : Driver) (s : ℕ) → Decided (NamesSignal driver s)
names-signal (Input place) s = inr (λ n. n)
names-signal (Held register) s = inr (λ n. n)
names-signal (MemoryWord memory reader addr en) s = either (cases_eq addr s) (cases_eq en s)
names-signal (ReadRegister memory reader) s = inr (λ n. n)
names-signal (Computed line) s = names line s

-- the needs of all out-signals
pub record HasNeeds (circuit : FlatCircuit) : Type 0 where
  pub lists : List (List ℕ)
  pub are : AreNeedsOfOuts circuit lists

module _ (circuit : FlatCircuit) (ordered : IsInOrder circuit) where
  reads : (a b : ℕ) → Decided (Reads circuit a b)
  reads a b = by (both (is-below a (length circuit.signals)) (names-signal (driver_at circuit a) b))
    where
      by : Decided ((a < length circuit.signals) × NamesSignal (driver_at circuit a) b) → Decided (Reads circuit a b)
      by (inl p) = inl (record { signal = p.0; names = p.1 })
      by (inr n) = inr (λ r. n (r.signal, r.names))

  -- a signal that a reads, and that reaches b
  abbrev Leads : ℕ → ℕ → ℕ → Type 0
  Leads a b x = Reads circuit a x × Reaches circuit x b

  reaches-by : (a b : ℕ) → Decided (a ≡ b) → Decided (IsAny (Leads a b) a) → Decided (Reaches circuit a b)
  reaches-by a b (inl same) d = inl (subst (Reaches circuit a) same (Reaches-itself circuit a))
  reaches-by a b (inr other) (inl any) = inl (record { path = any.number ∷ any.is.1.path; reads = (any.is.0, any.is.1.reads) })
  reaches-by a b (inr other) (inr none) = inr (λ r. at r.path r.reads)
    where
      at : (path : List ℕ) → IsPath circuit a path b → ⊥
      at [] is = other is
      at (next ∷ path) is = none (record { number = next; below = ordered a next is.0; is = (is.0, record { path = path; reads = is.1 }) })

  -- a signal reads only signals before it, so it can be told what it reaches
  reaches : (k a b : ℕ) → a < k → Decided (Reaches circuit a b)
  reaches zero a b lt = absurd (omega (arith, lt))
  reaches (suc k) a b lt = reaches-by a b (cases_eq a b) (any-below (Leads a b) a (λ x low. both (reads a x) (reaches k x b (omega (arith, lt, low)))))

  reach : (a b : ℕ) → Decided (Reaches circuit a b)
  reach a b = reaches (suc a) a b (omega arith)

  -- the needs of a signal
  abbrev needs_for : ℕ → List ℕ
  needs_for out = filter (λ place. holds (reach out (value_at circuit.ins place))) (range_with_len 0 (length circuit.ins))

  needs-are : (out : ℕ) → AreNeeds circuit out (needs_for out)
  needs-are out =
      record {
        ascending = numbers-up (λ place. holds (reach out (value_at circuit.ins place))) (length circuit.ins);
        exact = λ place. (
          λ h.
              let kept = filter-cases (λ p. holds (reach out (value_at circuit.ins p))) (range_with_len 0 (length circuit.ins)) place h in
              (range-below (length circuit.ins) place kept.among, holds-true (reach out (value_at circuit.ins place)) kept.passes),
          λ h. Contains-filter (λ p. holds (reach out (value_at circuit.ins p))) (range_with_len 0 (length circuit.ins)) place (in-range (length circuit.ins) place h.0) (true-holds (reach out (value_at circuit.ins place)) h.1),
        );
      }

  abbrev NeedsFor : ℕ → List ℕ → Type 0
  NeedsFor out needs = AreNeeds circuit (value_at circuit.outs out) needs

  needs-by : IsFilled NeedsFor (length circuit.outs) → HasNeeds circuit
  needs-by table = record { lists = table.items; are = record { count = table.many; each = λ out lt. table.each out [] lt } }

  pub needs-there : HasNeeds circuit
  needs-there = needs-by (filled NeedsFor (length circuit.outs) (λ out lt. record { it = needs_for (value_at circuit.outs out); is = needs-are (value_at circuit.outs out) }))
