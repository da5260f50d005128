-- The tokens of a unit, and its next state.
use Rattle.std.proofs.Common.{◌≡◌, ◌↔◌, ◌⊎◌, ℕ, zero, suc, ◌<◌, List, [], ◌∷◌, Option, None, Some, Bool, true, false, true≢false, nat_eq, length, refl, sym, ap, subst, ◌∙◌, inl, inr, arith}
use Rattle.std.specs.Prelude.{All, Contains, IsSome, slice_index_or, slice_set}
use Rattle.std.proofs.lemmas.Bool.Decides.{Decides-eqb}
use Rattle.std.proofs.lemmas.List.{get_or-set_same, get_or-set_other}
use Rattle.gg_flat.specs.Clock.{Ratio, edges_at}
use Rattle.gg_flat.specs.Line.{value_at}
use Rattle.gg_flat.specs.WellFormed.{IsWellFormed}
use Rattle.gg_flat.specs.State.{State, next_state}
use Rattle.gg_flat.specs.Settled.{Settled}
use Rattle.gg_node.specs.Machine.{RunsPiece, latch_at, latched_value, latched_values, first_empty, needs_at}
use Rattle.gg_node.specs.Token.{IsTokenOf, IsNextOf}
use Rattle.gg_node.proofs.EmptyLemmas.{filled}
use Rattle.gg_program.specs.ConeValue.{IsConeValue}
use Rattle.gg_order.specs.needs.Needs.{AreNeedsOfOuts}
use Rattle.gg_program.specs.Programmed.{Programmed}
use Rattle.gg_program.proofs.ConeLemmas.{row-in}
use Rattle.gg_fame5.specs.Machine.{unit_machine}
use Rattle.gg_fame5.specs.inside.Lane.{HaveTokens}

-- ---- latches

-- if none of these ins is empty, each has its token
pub has-token : (latches : List (Option ℕ)) (ins : List ℕ) → first_empty latches ins ≡ None → (k d : ℕ) → k < length ins → latch_at latches (slice_index_or ins k d) ≡ Some (latched_value (latch_at latches (slice_index_or ins k d)))
has-token latches [] none k d below = absurd (omega arith)
has-token latches (i ∷ ins) none zero d below = (filled (latch_at latches i) i (first_empty latches ins) none).0
has-token latches (i ∷ ins) none (suc k) d below = has-token latches ins (filled (latch_at latches i) i (first_empty latches ins) none).1 k d (omega arith)

-- if a token is put into a latch, and the same value into the input, the latches still have the inputs' tokens
pub tokens-latched : (latches : List (Option ℕ)) (inputs : List ℕ) (place token : ℕ) → length latches ≡ length inputs → place < length latches → HaveTokens latches inputs → HaveTokens (slice_set latches place (Some token)) (slice_set inputs place token)
tokens-latched [] inputs place token same below have = absurd (omega arith)
tokens-latched (latch ∷ latches) [] place token same below have = absurd (omega arith)
tokens-latched (latch ∷ latches) (input ∷ inputs) zero token same below have = λ i value is. at i value is
  where
    at : (i value : ℕ) → latch_at (Some token ∷ latches) i ≡ Some value → value_at (token ∷ inputs) i ≡ value
    at zero value is = cc
    at (suc i) value is = have (suc i) value is
tokens-latched (latch ∷ latches) (input ∷ inputs) (suc place) token same below have = λ i value is. at (tokens-latched latches inputs place token (omega arith) (omega arith) (λ i value is. have (suc i) value is)) i value is
  where
    at : HaveTokens (slice_set latches place (Some token)) (slice_set inputs place token) → (i value : ℕ) → latch_at (latch ∷ slice_set latches place (Some token)) i ≡ Some value → value_at (input ∷ slice_set inputs place token) i ≡ value
    at rest zero value is = have zero value is
    at rest (suc i) value is = rest i value is

-- if all latches have tokens, their values are the inputs
pub all-inputs : (latches : List (Option ℕ)) (inputs : List ℕ) → length latches ≡ length inputs → All (λ latch. IsSome latch) latches → HaveTokens latches inputs → latched_values latches ≡ inputs
all-inputs [] [] same all have = refl
all-inputs [] (input ∷ inputs) same all have = absurd (omega arith)
all-inputs (latch ∷ latches) [] same all have = absurd (omega arith)
all-inputs (latch ∷ latches) (input ∷ inputs) same all have = by latch (all zero None (omega arith)) (λ value is. have zero value is) (all-inputs latches inputs (omega arith) (λ k d below. all (suc k) d (omega arith)) (λ i value is. have (suc i) value is))
  where
    by : (latch : Option ℕ) → IsSome latch → ((value : ℕ) → latch ≡ Some value → input ≡ value) → latched_values latches ≡ inputs → latched_values (latch ∷ latches) ≡ input ∷ inputs
    by None some first rest = cc some
    by (Some value) some first rest = cc (first value refl)

-- ---- tokens

-- the value that is worked out for an out-signal is its out's token
pub token-is : (program : Programmed) (ratios : List Ratio) (cycle : ℕ) (state : State) (latches : List (Option ℕ)) (flags : List Bool) (held : List ℕ) (out value : ℕ) → IsWellFormed program.circuit → AreNeedsOfOuts program.circuit program.needs → out < length program.circuit.outs → HaveTokens latches held
    → first_empty latches (needs_at program.needs out) ≡ None → IsConeValue program.circuit state held (value_at program.circuit.outs out) value → IsTokenOf (RunsPiece program.circuit) (unit_machine program ratios cycle state latches flags) out value
token-is program ratios cycle state latches flags held out value formed needs below have none cone inputs signals settled agrees =
    cone.every inputs signals settled (λ place within reaches.
    let has : Contains (needs_at program.needs out) place = ((needs.each out below).exact place).1 (within, reaches) in
    let token : latch_at latches place ≡ Some (latched_value (latch_at latches place)) = subst (λ i. latch_at latches i ≡ Some (latched_value (latch_at latches i))) has.2 (has-token latches (needs_at program.needs out) none has.0 place has.1) in
    row-in program.circuit state inputs signals place formed settled within
    ∙ agrees place (latched_value (latch_at latches place)) has token
    ∙ sym (have place (latched_value (latch_at latches place)) token))

-- ---- the next state

pub next-is : (program : Programmed) (ratios : List Ratio) (cycle : ℕ) (state next : State) (latches : List (Option ℕ)) (flags : List Bool) (held row : List ℕ) → ((signals : List ℕ) → Settled program.circuit state held signals → row ≡ signals)
    → length latches ≡ length held → All (λ latch. IsSome latch) latches → HaveTokens latches held → next ≡ next_state (edges_at ratios cycle) program.circuit state row → IsNextOf (RunsPiece program.circuit) [] (unit_machine program ratios cycle state latches flags) next
next-is program ratios cycle state next latches flags held row once same all have is signals settled =
    is ∙ ap (next_state (edges_at ratios cycle) program.circuit state) (once signals (subst (λ inputs. Settled program.circuit state inputs signals) (all-inputs latches held same all have) settled))

-- ---- which latches hold a token

-- an empty latch holds no token
pub empty-latch : (latch : Option ℕ) → latch ≡ None → ¬ IsSome latch
empty-latch latch is some = true≢false (sym (subst (λ (l : Option ℕ). IsSome l) is some))

-- the latches that hold a token after one was put into one of them
pub latched-at : (latches : List (Option ℕ)) (place token i : ℕ) → place < length latches → IsSome (latch_at (slice_set latches place (Some token)) i) ↔ (IsSome (latch_at latches i) ⊎ (place ≡ i))
latched-at latches place token i below = (to, from)
  where
    to : IsSome (latch_at (slice_set latches place (Some token)) i) → IsSome (latch_at latches i) ⊎ (place ≡ i)
    to some = by (nat_eq i place) refl
      where
        by : (b : Bool) → nat_eq i place ≡ b → IsSome (latch_at latches i) ⊎ (place ≡ i)
        by true e = inr (sym ((Decides-eqb i place).0 e))
        by false e = inl (subst (λ (l : Option ℕ). IsSome l) (get_or-set_other latches place i (Some token) None (λ same. true≢false (sym ((Decides-eqb i place).1 same) ∙ e))) some)

    itself : (i : ℕ) → place ≡ i → IsSome (latch_at (slice_set latches place (Some token)) i)
    itself i same = subst (λ (x : ℕ). IsSome (latch_at (slice_set latches place (Some token)) x)) same (subst (λ (l : Option ℕ). IsSome l) (sym (get_or-set_same latches place (Some token) None below)) refl)

    from : IsSome (latch_at latches i) ⊎ (place ≡ i) → IsSome (latch_at (slice_set latches place (Some token)) i)
    from (inr same) = itself i same
    from (inl some) = by (nat_eq i place) refl
      where
        by : (b : Bool) → nat_eq i place ≡ b → IsSome (latch_at (slice_set latches place (Some token)) i)
        by true e = itself i (sym ((Decides-eqb i place).0 e))
        by false e = subst (λ (l : Option ℕ). IsSome l) (sym (get_or-set_other latches place i (Some token) None (λ same. true≢false (sym ((Decides-eqb i place).1 same) ∙ e)))) some
