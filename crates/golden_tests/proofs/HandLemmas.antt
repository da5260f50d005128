-- Two and five bridges can be handed in.
use Rattle.std.proofs.Common.{◌≡◌, ◌≢◌, ℕ, zero, suc, ◌<◌, ◌≤◌, List, [], ◌∷◌, length, map, get_or, false, codes, refl, sym, ◌∙◌, ap, subst, arith}
use Rattle.std.specs.Prelude.{All, bytes_eq, sum}
use Rattle.std.specs.List.{list_any}
use Rattle.std.proofs.lemmas.List.Kept.{AllPairs-cons}
use Rattle.gg_flat.specs.Circuit.{FlatCircuit}
use Rattle.gg_flat.specs.State.{State, opening}
use Rattle.gg_bits.proofs.PathLemmas.{missing-path}
use Rattle.golden_commands.specs.Handed.{IsBridgeName, most_signals}
use Rattle.golden_commands.specs.Bridges.{CanHandIn}

module _ {B : Type 0} (piece : B → FlatCircuit) (state : B → State) where
  pub can-none : CanHandIn {B = B} piece state []
  can-none = record { names = λ k d lt. absurd (omega (arith, lt)); apart = λ i j d less lt same. absurd (omega (arith, lt)); zeros = λ k d lt. absurd (omega (arith, lt)); few = omega arith }

  -- with one bridge more before the others: its name is new, and it is in the state of zeros
  pub can-more : (name : List ℕ) (bridge : B) (bridges : List (List ℕ × B)) → IsBridgeName name → list_any (bytes_eq name) (map (λ pair. pair.0) bridges) ≡ false
      → state bridge ≡ opening (piece bridge) → sum (map (λ pair. length (piece pair.1).signals) ((name, bridge) ∷ bridges)) ≤ most_signals → CanHandIn piece state bridges
      → CanHandIn piece state ((name, bridge) ∷ bridges)
  can-more name bridge bridges named fresh zeros few can =
      record {
        names = names;
        apart = AllPairs-cons (λ a b. a ≢ b) name (map (λ pair. pair.0) bridges) (λ k d lt same. missing-path (map (λ pair. pair.0) bridges) name fresh (k, lt, at (map (λ pair. pair.0) bridges) k d name lt ∙ sym same)) can.apart;
        zeros = all-zeros;
        few = few;
      }
    where
      at : (xs : List (List ℕ)) (k : ℕ) (d e : List ℕ) → k < length xs → get_or xs k e ≡ get_or xs k d
      at [] k d e lt = absurd (omega (arith, lt))
      at (x ∷ xs) zero d e lt = refl
      at (x ∷ xs) (suc k) d e lt = at xs k d e (omega (arith, lt))

      names : All (λ pair. IsBridgeName pair.0) ((name, bridge) ∷ bridges)
      names zero d lt = named
      names (suc k) d lt = can.names k d (omega (arith, lt))

      all-zeros : All (λ pair. state pair.1 ≡ opening (piece pair.1)) ((name, bridge) ∷ bridges)
      all-zeros zero d lt = zeros
      all-zeros (suc k) d lt = can.zeros k d (omega (arith, lt))

  pub can-two : (k l : List ℕ) (c d : B) → IsBridgeName k → IsBridgeName l → list_any (bytes_eq k) (l ∷ []) ≡ false
      → state c ≡ opening (piece c) → state d ≡ opening (piece d) → length (piece c).signals ≡ 2 → length (piece d).signals ≡ 2
      → CanHandIn piece state ((k, c) ∷ (l, d) ∷ [])
  can-two k l c d kn ln fresh r s g h =
      can-more k c ((l, d) ∷ []) kn fresh r (omega (arith, g, h))
      (can-more l d [] ln refl s (omega (arith, h)) can-none)

  pub can-two-at : (items : List (List ℕ × B)) (k l : List ℕ) (c d : B) → items ≡ (k, c) ∷ (l, d) ∷ [] → k ≡ codes "first" → l ≡ codes "other"
      → state c ≡ opening (piece c) → state d ≡ opening (piece d) → length (piece c).signals ≡ 2 → length (piece d).signals ≡ 2
      → CanHandIn piece state items
  can-two-at items k l c d is ek el r s g h =
      subst (CanHandIn piece state)
      (sym (is ∙ ap (λ x. (x, c) ∷ (l, d) ∷ []) ek ∙ ap (λ x. (codes "first", c) ∷ (x, d) ∷ []) el))
      (can-two (codes "first") (codes "other") c d (record { some = omega arith; bytes = refl }) (record { some = omega arith; bytes = refl }) refl r s g h)

  pub can-five : (a b o c d : B) → state a ≡ opening (piece a) → state b ≡ opening (piece b) → state o ≡ opening (piece o) → state c ≡ opening (piece c) → state d ≡ opening (piece d)
      → length (piece a).signals ≡ 2 → length (piece b).signals ≡ 2 → length (piece o).signals ≡ 2 → length (piece c).signals ≡ 2 → length (piece d).signals ≡ 2
      → CanHandIn piece state ((codes "echo1", a) ∷ (codes "echo8", b) ∷ (codes "other8", o) ∷ (codes "echo32", c) ∷ (codes "echo64", d) ∷ [])
  can-five a b o c d p q t r s e f i g h =
      can-more (codes "echo1") a ((codes "echo8", b) ∷ (codes "other8", o) ∷ (codes "echo32", c) ∷ (codes "echo64", d) ∷ []) (record { some = omega arith; bytes = refl }) refl p (omega (arith, e, f, g, h, i))
      (can-more (codes "echo8") b ((codes "other8", o) ∷ (codes "echo32", c) ∷ (codes "echo64", d) ∷ []) (record { some = omega arith; bytes = refl }) refl q (omega (arith, f, g, h, i))
      (can-more (codes "other8") o ((codes "echo32", c) ∷ (codes "echo64", d) ∷ []) (record { some = omega arith; bytes = refl }) refl t (omega (arith, g, h, i))
      (can-two (codes "echo32") (codes "echo64") c d (record { some = omega arith; bytes = refl }) (record { some = omega arith; bytes = refl }) refl r s g h)))

  pub can-five-at : (items : List (List ℕ × B)) (k l o m n : List ℕ) (a b t c d : B) → items ≡ (k, a) ∷ (l, b) ∷ (o, t) ∷ (m, c) ∷ (n, d) ∷ []
      → k ≡ codes "echo1" → l ≡ codes "echo8" → o ≡ codes "other8" → m ≡ codes "echo32" → n ≡ codes "echo64"
      → state a ≡ opening (piece a) → state b ≡ opening (piece b) → state t ≡ opening (piece t) → state c ≡ opening (piece c) → state d ≡ opening (piece d)
      → length (piece a).signals ≡ 2 → length (piece b).signals ≡ 2 → length (piece t).signals ≡ 2 → length (piece c).signals ≡ 2 → length (piece d).signals ≡ 2
      → CanHandIn piece state items
  can-five-at items k l o m n a b t c d is ek el eo em en p q u r s e f i g h =
      subst (CanHandIn piece state)
      (sym (is ∙ ap (λ x. (x, a) ∷ (l, b) ∷ (o, t) ∷ (m, c) ∷ (n, d) ∷ []) ek ∙ ap (λ x. (codes "echo1", a) ∷ (x, b) ∷ (o, t) ∷ (m, c) ∷ (n, d) ∷ []) el ∙ ap (λ x. (codes "echo1", a) ∷ (codes "echo8", b) ∷ (x, t) ∷ (m, c) ∷ (n, d) ∷ []) eo ∙ ap (λ x. (codes "echo1", a) ∷ (codes "echo8", b) ∷ (codes "other8", t) ∷ (x, c) ∷ (n, d) ∷ []) em ∙ ap (λ x. (codes "echo1", a) ∷ (codes "echo8", b) ∷ (codes "other8", t) ∷ (codes "echo32", c) ∷ (x, d) ∷ []) en))
      (can-five a b t c d p q u r s e f i g h)
