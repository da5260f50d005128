-- What the data of a memory's reader needs: its address and its enable if it gives the word in the same cycle, else nothing.
use Rattle.std.proofs.Common.{◌≡◌, ◌≢◌, ℕ, ◌<◌, List, [], ◌∷◌, length, refl, sym, ◌∙◌, ap, subst, inl, inr, ◌⊎◌, arith}
use Rattle.std.specs.Prelude.{◌↔◌, AllPairs, Contains}
use Rattle.std.proofs.lemmas.List.Elements.{All-nil, All-cons}
use Rattle.std.proofs.lemmas.List.Kept.{AllPairs-cons}
use Rattle.gg_flat.specs.declared.piece.Driver.{Driver}
use Rattle.gg_flat.specs.declared.piece.Driver.TheVariants.{Input, MemoryWord, ReadRegister}
use Rattle.gg_flat.specs.Line.{value_at}
use Rattle.gg_flat.specs.Circuit.{FlatCircuit, driver_at}
use Rattle.gg_flat.specs.Reads.{NamesSignal, Reads, IsPath, Reaches}
use Rattle.gg_flat.proofs.ListLemmas.{Contains-cases, once-apart}
use Rattle.gg_cut_split.proofs.ClosedLemmas.ListLemmas.{pairs-nil}

-- the places, ascending, of just the in-signals that a signal reaches
pub record AreReached (circuit : FlatCircuit) (out : ℕ) (places : List ℕ) : Type 0 where
  pub ascending : AllPairs (λ a b. a < b) places
  pub exact : (place : ℕ) → Contains places place ↔ ((place < length circuit.ins) × Reaches circuit out (value_at circuit.ins place))

module _ (circuit : FlatCircuit) (inputs : (place : ℕ) → place < length circuit.ins → driver_at circuit (value_at circuit.ins place) ≡ Input place) (once : AllPairs (λ a b. a ≢ b) circuit.ins) (out : ℕ) (known : out < length circuit.signals) where
  -- an in-signal reaches itself alone
  in-alone : (place s : ℕ) (path : List ℕ) → place < length circuit.ins → IsPath circuit (value_at circuit.ins place) path s → value_at circuit.ins place ≡ s
  in-alone place s [] lt is = is
  in-alone place s (next ∷ path) lt is = absurd (subst (λ (d : Driver). NamesSignal d next) (inputs place lt) is.0.names)

  -- ---- a late reader

  pub late-needs : (m r : ℕ) → driver_at circuit out ≡ ReadRegister m r → AreReached circuit out []
  late-needs m r driven =
      record {
        ascending = pairs-nil (λ a b. a < b);
        exact = λ place. (λ has. absurd (omega (arith, has.1)), λ needed. absurd (none place needed.0 needed.1.path needed.1.reads));
      }
    where
      none : (place : ℕ) → place < length circuit.ins → (path : List ℕ) → IsPath circuit out path (value_at circuit.ins place) → ⊥
      none place lt [] is = let clash : ReadRegister m r ≡ Input place = sym driven ∙ ap (driver_at circuit) is ∙ inputs place lt in absurd (cc)
      none place lt (next ∷ path) is = absurd (subst (λ (d : Driver). NamesSignal d next) driven is.0.names)

  -- ---- a reader that gives the word in the same cycle

  module _ (m r addr en : ℕ) (less : addr < en) (inside : en < length circuit.ins) (driven : driver_at circuit out ≡ MemoryWord m r (value_at circuit.ins addr) (value_at circuit.ins en)) where
    low : addr < length circuit.ins
    low = omega (arith, less, inside)

    names : (s : ℕ) → (value_at circuit.ins addr ≡ s) ⊎ (value_at circuit.ins en ≡ s) → Reads circuit out s
    names s is = record { signal = known; names = subst (λ (d : Driver). NamesSignal d s) (sym driven) is }

    step : (s : ℕ) → Reads circuit out s → Reaches circuit out s
    step s reads = record { path = s ∷ []; reads = (reads, refl) }

    abbrev IsNeeded : ℕ → Type 0
    IsNeeded place = (place < length circuit.ins) × Reaches circuit out (value_at circuit.ins place)

    to-en : (place : ℕ) → (en ≡ place) ⊎ Contains [] place → IsNeeded place
    to-en place (inl is) = subst IsNeeded is (inside, step (value_at circuit.ins en) (names (value_at circuit.ins en) (inr refl)))
    to-en place (inr none) = absurd (omega (arith, none.1))

    to : (place : ℕ) → (addr ≡ place) ⊎ Contains (en ∷ []) place → IsNeeded place
    to place (inl is) = subst IsNeeded is (low, step (value_at circuit.ins addr) (names (value_at circuit.ins addr) (inl refl)))
    to place (inr rest) = to-en place (Contains-cases en place [] rest)

    -- a field that reaches the in-signal at a place is that in-signal
    named : (place next : ℕ) (path : List ℕ) → place < length circuit.ins → IsPath circuit next path (value_at circuit.ins place) → (value_at circuit.ins addr ≡ next) ⊎ (value_at circuit.ins en ≡ next) → Contains (addr ∷ en ∷ []) place
    named place next path lt is (inl same) =
        let end = in-alone addr (value_at circuit.ins place) path low (subst (λ s. IsPath circuit s path (value_at circuit.ins place)) (sym same) is) in
        (0, omega arith, once-apart circuit.ins 0 once addr place low lt end)
    named place next path lt is (inr same) =
        let end = in-alone en (value_at circuit.ins place) path inside (subst (λ s. IsPath circuit s path (value_at circuit.ins place)) (sym same) is) in
        (1, omega arith, once-apart circuit.ins 0 once en place inside lt end)

    from : (place : ℕ) (path : List ℕ) → place < length circuit.ins → IsPath circuit out path (value_at circuit.ins place) → Contains (addr ∷ en ∷ []) place
    from place [] lt is = let clash : MemoryWord m r (value_at circuit.ins addr) (value_at circuit.ins en) ≡ Input place = sym driven ∙ ap (driver_at circuit) is ∙ inputs place lt in absurd (cc)
    from place (next ∷ path) lt is = named place next path lt is.1 (subst (λ (d : Driver). NamesSignal d next) driven is.0.names)

    pub same-cycle-needs : AreReached circuit out (addr ∷ en ∷ [])
    same-cycle-needs =
        record {
          ascending = AllPairs-cons (λ a b. a < b) addr (en ∷ []) (All-cons (λ b. addr < b) en [] less (All-nil (λ b. addr < b))) (λ i j d lt within. absurd (omega (arith, lt, within)));
          exact = λ place. (λ has. to place (Contains-cases addr place (en ∷ []) has), λ needed. from place needed.1.path needed.0 needed.1.reads);
        }
