-- The registers' next values, one by one.
use Rattle.std.proofs.Common.{◌≡◌, ℕ, zero, suc, ◌<◌, ◌≤◌, ◌+◌, List, [], ◌∷◌, Bool, length, map, get_or, set, refl, sym, ◌∙◌, ap, subst, ⊎_elim, arith}
use Rattle.std.proofs.lemmas.Bool.{cases_eq}
use Rattle.std.proofs.lemmas.List.{get_or_default, get_or-map, get_or-set_same, get_or-set_other, length-map, length-set}
use Rattle.std.proofs.lemmas.Grind.{same_number_lists}
use Rattle.gg_bits.specs.Shape.{Shape, shape, uint, Fits}
use Rattle.gg_flat.specs.declared.piece.Register.{Register}
use Rattle.gg_flat.specs.Line.{value_at, shape_at, AreTyped}
use Rattle.gg_flat.specs.State.{next_register, next_registers}
use Rattle.gg_flat.proofs.ListLemmas.{some-item}

-- the shapes of registers
abbrev pub shapes_of_registers : List Register → List Shape
shapes_of_registers registers = map (λ register. shape register.ty) registers

-- the registers before place k have their next values, and the others their old ones
pub record Advanced (registers : List Register) (edges : List Bool) (signals old : List ℕ) (k : ℕ) (own : List ℕ) : Type 0 where
  pub typed : AreTyped (shapes_of_registers registers) own
  pub next : (i : ℕ) → i < k → (register : Register) → register ≡ get_or registers i register → value_at own i ≡ next_register edges signals register (value_at old i)
  pub rest : (i : ℕ) → k ≤ i → value_at own i ≡ value_at old i

-- one more register has its next value
pub Advanced-more : (registers : List Register) (edges : List Bool) (signals old : List ℕ) (k : ℕ) (own : List ℕ) (register : Register) (value : ℕ) → k < length registers → register ≡ get_or registers k register → value ≡ next_register edges signals register (value_at own k) → Fits (shape register.ty) value
    → Advanced registers edges signals old k own → Advanced registers edges signals old (k + 1) (set own k value)
Advanced-more registers edges signals old k own register value lt is value_is fits before =
    let long : length own ≡ length registers = before.typed.count ∙ length-map registers (λ (x : Register). shape x.ty) in
    let within : k < length own = omega (arith, lt, long) in
    record {
      typed = record {
        count = length-set own k value ∙ before.typed.count;
        fits = λ i known. ⊎_elim
            (λ (same : i ≡ k). subst (λ j. Fits (shape_at (shapes_of_registers registers) j) (value_at (set own k value) j)) (sym same)
            (subst (λ s. Fits s (value_at (set own k value) k)) (ap (λ (x : Register). shape x.ty) is ∙ sym (get_or-map (λ (x : Register). shape x.ty) registers k register (uint 0) lt)) (subst (Fits (shape register.ty)) (sym (get_or-set_same own k value 0 within)) fits)))
            (λ other. subst (Fits (shape_at (shapes_of_registers registers) i)) (sym (get_or-set_other own k i value 0 other)) (before.typed.fits i known))
            (cases_eq i k);
      };
      next = λ i below some some_is. ⊎_elim
          (λ (same : i ≡ k).
          let one : some ≡ register = some_is ∙ ap (λ j. get_or registers j some) same ∙ get_or_default registers k some register lt ∙ sym is in
          ap (value_at (set own k value)) same ∙ get_or-set_same own k value 0 within ∙ value_is
          ∙ ap (next_register edges signals register) (before.rest k (omega arith) ∙ ap (value_at old) (sym same))
          ∙ ap (λ (x : Register). next_register edges signals x (value_at old i)) (sym one))
          (λ other. get_or-set_other own k i value 0 other ∙ before.next i (omega (arith, below, other)) some some_is)
          (cases_eq i k);
      rest = λ i above. get_or-set_other own k i value 0 (λ same. absurd (omega (arith, same, above))) ∙ before.rest i (omega (arith, above));
    }

-- the next values of registers, by their places
pub length-next_registers : (edges : List Bool) (signals : List ℕ) (registers : List Register) (old : List ℕ) → length old ≡ length registers → length (next_registers edges signals registers old) ≡ length registers
length-next_registers edges signals [] old count = refl
length-next_registers edges signals (register ∷ registers) [] count = absurd (omega arith)
length-next_registers edges signals (register ∷ registers) (own ∷ old) count = ap suc (length-next_registers edges signals registers old (omega arith))

pub next_registers-at : (edges : List Bool) (signals : List ℕ) (registers : List Register) (old : List ℕ) (i : ℕ) (some : Register) → length old ≡ length registers → i < length registers → value_at (next_registers edges signals registers old) i ≡ next_register edges signals (get_or registers i some) (value_at old i)
next_registers-at edges signals [] old i some count lt = absurd (omega arith)
next_registers-at edges signals (register ∷ registers) [] i some count lt = absurd (omega arith)
next_registers-at edges signals (register ∷ registers) (own ∷ old) zero some count lt = refl
next_registers-at edges signals (register ∷ registers) (own ∷ old) (suc i) some count lt = next_registers-at edges signals registers old i some (omega arith) (omega arith)

pub Advanced-all : (registers : List Register) (edges : List Bool) (signals old own : List ℕ) → length old ≡ length registers → Advanced registers edges signals old (length registers) own → own ≡ next_registers edges signals registers old
Advanced-all registers edges signals old own count advanced =
    let long : length own ≡ length registers = advanced.typed.count ∙ length-map registers (λ (x : Register). shape x.ty) in
    same_number_lists own (next_registers edges signals registers old) (long ∙ sym (length-next_registers edges signals registers old count)) (λ i lt.
    let within : i < length registers = omega (arith, lt, long) in
    let some = some-item registers i within in
    advanced.next i within (get_or registers i some) (get_or_default registers i some (get_or registers i some) within)
    ∙ sym (next_registers-at edges signals registers old i some count within))
