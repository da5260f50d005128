-- The registers of a part, and those that stand for them in another unit.
use Rattle.std.proofs.Common.{◌≡◌, ◌≢◌, ℕ, ◌+◌, ◌<◌, List, length, map, set, refl, sym, ◌∙◌, ap, subst, inl, inr, ◌⊎◌, below_more, arith}
use Rattle.std.specs.Prelude.{Contains}
use Rattle.std.proofs.lemmas.Bool.{cases_eq}
use Rattle.std.proofs.lemmas.List.{get_or-set_same, get_or-set_other, get_or-map, length-map, same_lists, get_or_default}
use Rattle.std.proofs.lemmas.List.Elements.{Contains-get_or}
use Rattle.gg_flat.specs.declared.piece.Driver.{Driver}
use Rattle.gg_flat.specs.declared.piece.Driver.TheVariants.{Input, Held, MemoryWord, ReadRegister, Computed}
use Rattle.gg_flat.specs.Circuit.{FlatCircuit, driver_at}
use Rattle.gg_flat.specs.Line.{value_at}
use Rattle.gg_flat.proofs.ListLemmas.{Contains-map}
use Rattle.gg_part.specs.declared.part.Part.{Part}
use Rattle.gg_part.specs.Building.{AreHeld}
use Rattle.gg_part.specs.Part.{IsPart, IsFrom}
use Rattle.gg_cut_parts.specs.inside.MovedPart.{HoldAgain, HasAgain}

module _ (whole : FlatCircuit) (part : Part) (globals : List ℕ) where
  pub again-none : (registers : ℕ → ℕ) (table : List ℕ) → HasAgain part registers table 0
  again-none registers table s k lt = absurd (omega (arith, lt))

  -- the register that the next signal holds is written
  pub again-put : (table : List ℕ) (place own register : ℕ) (registers : ℕ → ℕ) → place < length globals → driver_at part.piece place ≡ Held own → ((r : ℕ) → driver_at whole (value_at globals place) ≡ Held r → register ≡ r) → value_at part.held own < length table → HoldAgain whole part globals registers → HasAgain part registers table place
      → HasAgain part registers (set table (value_at part.held own) register) (place + 1)
  again-put table place own register registers lt is reads room hold before s k low e =
      below_more (λ s. (k : ℕ) → driver_at part.piece s ≡ Held k → value_at (set table (value_at part.held own) register) (value_at part.held k) ≡ registers (value_at part.held k)) place
      (λ s less k f. earlier s k less f (cases_eq (value_at part.held k) (value_at part.held own)))
      (λ k f. last k (let same : Held k ≡ Held own = sym f ∙ is in cc))
      s low k e
    where
      here : register ≡ registers (value_at part.held own)
      here = reads (registers (value_at part.held own)) (hold place own lt is)

      earlier : (s k : ℕ) → s < place → driver_at part.piece s ≡ Held k → (value_at part.held k ≡ value_at part.held own) ⊎ (value_at part.held k ≢ value_at part.held own) → value_at (set table (value_at part.held own) register) (value_at part.held k) ≡ registers (value_at part.held k)
      earlier s k less f (inl same) =
          ap (value_at (set table (value_at part.held own) register)) same
          ∙ get_or-set_same table (value_at part.held own) register 0 room ∙ here ∙ ap registers (sym same)
      earlier s k less f (inr other) = get_or-set_other table (value_at part.held own) (value_at part.held k) register 0 other ∙ before s k less f

      last : (k : ℕ) → k ≡ own → value_at (set table (value_at part.held own) register) (value_at part.held k) ≡ registers (value_at part.held k)
      last k same =
          ap (λ i. value_at (set table (value_at part.held own) register) (value_at part.held i)) same
          ∙ get_or-set_same table (value_at part.held own) register 0 room ∙ here ∙ ap (λ i. registers (value_at part.held i)) (sym same)

  -- the next signal holds no register
  pub again-left : (table : List ℕ) (place : ℕ) (registers : ℕ → ℕ) → ((r : ℕ) → driver_at part.piece place ≢ Held r) → HasAgain part registers table place → HasAgain part registers table (place + 1)
  again-left table place registers none before s k low e =
      below_more (λ s. (k : ℕ) → driver_at part.piece s ≡ Held k → value_at table (value_at part.held k) ≡ registers (value_at part.held k)) place
      (λ s less k f. before s k less f)
      (λ k f. absurd (none k f))
      s low k e

  module _ (is : IsPart whole part.piece part.globals part.held part.memories part.clocks) where
    -- a register that a signal of the part holds is one of the part
    pub register-listed : (s k : ℕ) → s < length part.globals → driver_at part.piece s ≡ Held k → k < length part.held
    register-listed s k lt e = (subst (IsFrom part.piece.ins part.globals part.held part.memories s (driver_at whole (value_at part.globals s))) e (is.drivers s lt)).0

    -- the signal of the part that holds a register
    from-held : (ins : List ℕ) → ins ≡ map (value_at part.globals) part.piece.ins → (s r : ℕ) → (Contains ins (value_at part.globals s) → ⊥) → driver_at whole (value_at part.globals s) ≡ Held r → (d : Driver) → driver_at part.piece s ≡ d → IsFrom part.piece.ins part.globals part.held part.memories s (driver_at whole (value_at part.globals s)) d
        → (k : ℕ) × (driver_at part.piece s ≡ Held k) × (value_at part.held k ≡ r)
    from-held ins same s r outside holds (Input place) e h =
        absurd (outside (subst (λ (l : List ℕ). Contains l (value_at part.globals s)) (sym same) (Contains-map (value_at part.globals) part.piece.ins s (subst (Contains part.piece.ins) h.1 (Contains-get_or part.piece.ins place 0 h.0)))))
    from-held ins same s r outside holds (Held k) e h = (k, e, let one : Held (value_at part.held k) ≡ Held r = sym h.1 ∙ holds in cc)
    from-held ins same s r outside holds (MemoryWord m q a b) e h = let no : MemoryWord (value_at part.memories m) q (value_at part.globals a) (value_at part.globals b) ≡ Held r = sym h.3 ∙ holds in absurd (cc)
    from-held ins same s r outside holds (ReadRegister m q) e h = let no : ReadRegister (value_at part.memories m) q ≡ Held r = sym h.1 ∙ holds in absurd (cc)
    from-held ins same s r outside holds (Computed line) e h = absurd (let no = sym h.1 ∙ holds in cc)

    -- the table gives the registers that stand for the part's
    pub held-again : (table ins : List ℕ) (registers : ℕ → ℕ) → AreHeld whole part.globals ins part.held → ins ≡ map (value_at part.globals) part.piece.ins → HasAgain part registers table (length part.globals) → map (value_at table) part.held ≡ map registers part.held
    held-again table ins registers are same has =
        same_lists (map (value_at table) part.held) (map registers part.held) (length-map part.held (value_at table) ∙ sym (length-map part.held registers))
        (λ r d below.
        let lt : r < length part.held = omega (arith, below, length-map part.held (value_at table)) in
        let at = are.sound (value_at part.held r) (Contains-get_or part.held r 0 lt) in
        let s = at.chosen.0 in
        let g : value_at part.globals s ≡ at.signal = get_or_default part.globals s 0 at.signal at.chosen.1 ∙ at.chosen.2 in
        let k = from-held ins same s (value_at part.held r) (λ c. at.holds.inside (subst (Contains ins) g c)) (ap (driver_at whole) g ∙ at.holds.holds) (driver_at part.piece s) refl (is.drivers s at.chosen.1) in
        get_or-map (value_at table) part.held r 0 d lt
        ∙ subst (λ x. value_at table x ≡ registers x) {x = value_at part.held k.0} k.2 (has s k.0 at.chosen.1 k.1)
        ∙ sym (get_or-map registers part.held r 0 d lt))
