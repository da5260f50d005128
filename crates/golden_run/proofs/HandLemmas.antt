-- Four echoes can be handed in.
use Rattle.std.proofs.Common.{◌≡◌, ◌≢◌, ℕ, zero, suc, ◌<◌, ◌≤◌, List, [], ◌∷◌, length, map, get_or, false, codes, refl, sym, ◌∙◌, ap, subst, arith}
use Rattle.std.specs.Prelude.{All, bytes_eq, sum}
use Rattle.std.specs.List.{list_any}
use Rattle.std.proofs.lemmas.List.Kept.{AllPairs-cons}
use Rattle.gg_flat.specs.Circuit.{FlatCircuit}
use Rattle.gg_flat.specs.State.{State, opening}
use Rattle.gg_bits.proofs.PathLemmas.{missing-path}
use Rattle.golden_commands.specs.Handed.{IsBridgeName, most_signals}
use Rattle.golden_commands.specs.Bridges.{CanHandIn}

module _ {B : Type 0} (piece : B → FlatCircuit) (state : B → State) where
  pub can-none : CanHandIn {B = B} piece state []
  can-none = record { names = λ k d lt. absurd (omega (arith, lt)); apart = λ i j d less lt same. absurd (omega (arith, lt)); zeros = λ k d lt. absurd (omega (arith, lt)); few = omega arith }

  -- with one bridge more before the others: its name is new, and it is in the state of zeros
  pub can-more : (name : List ℕ) (bridge : B) (bridges : List (List ℕ × B)) → IsBridgeName name → list_any (bytes_eq name) (map (λ pair. pair.0) bridges) ≡ false
      → state bridge ≡ opening (piece bridge) → sum (map (λ pair. length (piece pair.1).signals) ((name, bridge) ∷ bridges)) ≤ most_signals → CanHandIn piece state bridges
      → CanHandIn piece state ((name, bridge) ∷ bridges)
  can-more name bridge bridges named fresh zeros few can =
      record {
        names = names;
        apart = AllPairs-cons (λ a b. a ≢ b) name (map (λ pair. pair.0) bridges) (λ k d lt same. missing-path (map (λ pair. pair.0) bridges) name fresh (k, lt, at (map (λ pair. pair.0) bridges) k d name lt ∙ sym same)) can.apart;
        zeros = all-zeros;
        few = few;
      }
    where
      at : (xs : List (List ℕ)) (k : ℕ) (d e : List ℕ) → k < length xs → get_or xs k e ≡ get_or xs k d
      at [] k d e lt = absurd (omega (arith, lt))
      at (x ∷ xs) zero d e lt = refl
      at (x ∷ xs) (suc k) d e lt = at xs k d e (omega (arith, lt))

      names : All (λ pair. IsBridgeName pair.0) ((name, bridge) ∷ bridges)
      names zero d lt = named
      names (suc k) d lt = can.names k d (omega (arith, lt))

      all-zeros : All (λ pair. state pair.1 ≡ opening (piece pair.1)) ((name, bridge) ∷ bridges)
      all-zeros zero d lt = zeros
      all-zeros (suc k) d lt = can.zeros k d (omega (arith, lt))

  pub can-two : (c d : B) → state c ≡ opening (piece c) → state d ≡ opening (piece d) → length (piece c).signals ≡ 2 → length (piece d).signals ≡ 2
      → CanHandIn piece state ((codes "echo32", c) ∷ (codes "echo64", d) ∷ [])
  can-two c d r s g h =
      can-more (codes "echo32") c ((codes "echo64", d) ∷ []) (record { some = omega arith; bytes = refl }) refl r (omega (arith, g, h))
      (can-more (codes "echo64") d [] (record { some = omega arith; bytes = refl }) refl s (omega (arith, h)) can-none)

  pub can-four : (a b c d : B) → state a ≡ opening (piece a) → state b ≡ opening (piece b) → state c ≡ opening (piece c) → state d ≡ opening (piece d)
      → length (piece a).signals ≡ 2 → length (piece b).signals ≡ 2 → length (piece c).signals ≡ 2 → length (piece d).signals ≡ 2
      → CanHandIn piece state ((codes "echo1", a) ∷ (codes "echo8", b) ∷ (codes "echo32", c) ∷ (codes "echo64", d) ∷ [])
  can-four a b c d p q r s e f g h =
      can-more (codes "echo1") a ((codes "echo8", b) ∷ (codes "echo32", c) ∷ (codes "echo64", d) ∷ []) (record { some = omega arith; bytes = refl }) refl p (omega (arith, e, f, g, h))
      (can-more (codes "echo8") b ((codes "echo32", c) ∷ (codes "echo64", d) ∷ []) (record { some = omega arith; bytes = refl }) refl q (omega (arith, f, g, h))
      (can-two c d r s g h))

  -- the same of a list that is made so
  pub can-four-at : (items : List (List ℕ × B)) (k l m n : List ℕ) (a b c d : B) → items ≡ (k, a) ∷ (l, b) ∷ (m, c) ∷ (n, d) ∷ []
      → k ≡ codes "echo1" → l ≡ codes "echo8" → m ≡ codes "echo32" → n ≡ codes "echo64"
      → state a ≡ opening (piece a) → state b ≡ opening (piece b) → state c ≡ opening (piece c) → state d ≡ opening (piece d)
      → length (piece a).signals ≡ 2 → length (piece b).signals ≡ 2 → length (piece c).signals ≡ 2 → length (piece d).signals ≡ 2
      → CanHandIn piece state items
  can-four-at items k l m n a b c d is ek el em en p q r s e f g h =
      subst (CanHandIn piece state)
      (sym (is ∙ ap (λ x. (x, a) ∷ (l, b) ∷ (m, c) ∷ (n, d) ∷ []) ek ∙ ap (λ x. (codes "echo1", a) ∷ (x, b) ∷ (m, c) ∷ (n, d) ∷ []) el ∙ ap (λ x. (codes "echo1", a) ∷ (codes "echo8", b) ∷ (x, c) ∷ (n, d) ∷ []) em ∙ ap (λ x. (codes "echo1", a) ∷ (codes "echo8", b) ∷ (codes "echo32", c) ∷ (x, d) ∷ []) en))
      (can-four a b c d p q r s e f g h)
