-- The states in which the machines of a plan begin, and the signals of a memory that stands alone.
use Rattle.std.proofs.Common.{◌≡◌, ℕ, ◌-◌, ◌<◌, ◌≤◌, List, [], ◌∷◌, ◌++◌, ◌⊎◌, inl, inr, length, map, refl, sym, ◌∙◌, ap, ap₂, arith}
use Rattle.std.proofs.lemmas.Bool.{cases_lt}
use Rattle.std.proofs.lemmas.List.{nil_from_length, length-map, length-append, get_or-map, get_or-append_right}
use Rattle.gg_flat.specs.Line.{value_at}
use Rattle.gg_flat.specs.State.{State}
use Rattle.gg_flat.proofs.ListLemmas.{once-apart}
use Rattle.gg_part.specs.Part.{IsPart}
use Rattle.gg_part.specs.PartRun.{part_state}
use Rattle.gg_part.specs.declared.part.Part.{Part}
use Rattle.gg_memunit.proofs.DependLemmas.{IsOutOf}

pub one-number : (numbers : List ℕ) → length numbers ≡ 1 → numbers ≡ value_at numbers 0 ∷ []
one-number [] one = absurd (omega arith)
one-number (x ∷ []) one = refl
one-number (x ∷ y ∷ numbers) one = absurd (omega arith)

-- a memory that stands alone begins with what its part takes from a state
pub memory-begins : (part alone : Part) (state : State) → IsPart part.piece alone.piece alone.globals alone.held alone.memories alone.clocks → alone.memories ≡ 0 ∷ [] → alone.piece.registers ≡ [] → length part.memories ≡ 1 → part_state alone.held alone.memories (part_state part.held part.memories state) ≡ part_state [] part.memories state
memory-begins part alone state inner memories none one =
    let held : alone.held ≡ [] = nil_from_length alone.held (sym inner.register_count ∙ ap length none) in
    ap₂ (λ (held memories : List ℕ). part_state held memories (part_state part.held part.memories state)) held memories
    ∙ ap (λ (l : List ℕ). part_state [] (0 ∷ []) (part_state part.held l state)) (one-number part.memories one)
    ∙ ap (λ (l : List ℕ). part_state [] l state) (sym (one-number part.memories one))

-- each signal of a memory that stands alone is an in-signal or an out-signal
pub memory-sides : (part alone : Part) → IsPart part.piece alone.piece alone.globals alone.held alone.memories alone.clocks → alone.globals ≡ part.piece.ins ++ part.piece.outs → map (value_at alone.globals) alone.piece.ins ≡ part.piece.ins → map (value_at alone.globals) alone.piece.outs ≡ part.piece.outs
    → (s : ℕ) → s < length alone.piece.signals → (s < length alone.piece.ins) ⊎ IsOutOf alone.piece s
memory-sides part alone is globals ins outs s lt = by (cases_lt s (length part.piece.ins))
  where
    in_count : length alone.piece.ins ≡ length part.piece.ins
    in_count = sym (length-map alone.piece.ins (value_at alone.globals)) ∙ ap length ins

    out_count : length alone.piece.outs ≡ length part.piece.outs
    out_count = sym (length-map alone.piece.outs (value_at alone.globals)) ∙ ap length outs

    low : s < length alone.globals
    low = omega (arith, lt, is.count)

    total : length alone.globals ≡ length (part.piece.ins ++ part.piece.outs)
    total = ap length globals

    by : (s < length part.piece.ins) ⊎ (length part.piece.ins ≤ s) → (s < length alone.piece.ins) ⊎ IsOutOf alone.piece s
    by (inl less) = inl (omega (arith, less, in_count))
    by (inr le) =
        let place = s - length part.piece.ins in
        let within : place < length part.piece.outs = omega (arith, le, low, total, length-append part.piece.ins part.piece.outs) in
        let there : place < length alone.piece.outs = omega (arith, within, out_count) in
        inr (record {
          place = place;
          within = there;
          is = once-apart alone.globals 0 is.once (value_at alone.piece.outs place) s (is.outs place there) low
              (sym (get_or-map (value_at alone.globals) alone.piece.outs place 0 0 there) ∙ ap (λ (l : List ℕ). value_at l place) outs
              ∙ sym (ap (λ (l : List ℕ). value_at l s) globals ∙ get_or-append_right part.piece.ins part.piece.outs (length part.piece.ins) s 0 refl le));
        })
