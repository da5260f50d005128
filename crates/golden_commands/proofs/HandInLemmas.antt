-- A bridge that is added can be handed in with the others.
use Rattle.std.proofs.Common.{◌≡◌, ◌≢◌, ℕ, ◌+◌, ◌<◌, ◌≤◌, true, false, true≢false, List, [], ◌∷◌, ◌++◌, length, map, get_or, refl, sym, ap, ◌∙◌, subst, arith}
use Rattle.std.specs.Prelude.{AllPairs, Bool, None, Option, Some, bytes_eq, if◌then◌else◌, nat_lt, not, sum, ◌==◌}
use Rattle.std.specs.List.{list_all}
use Rattle.std.proofs.lemmas.Bool.{and_parts}
use Rattle.std.proofs.lemmas.Slice.Eq.{bytes_eq-Decides}
use Rattle.std.proofs.lemmas.List.{get_or-map, get_or_default, length-map, map-append}
use Rattle.std.proofs.lemmas.List.Elements.{All-push}
use Rattle.std.proofs.lemmas.List.Folds.{list_any-from_Any}
use Rattle.std.proofs.lemmas.List.Quantifiers.{all_pairs_push}
use Rattle.std.proofs.lemmas.List.Sums.{fold-append}
use Rattle.gg_flat.specs.Circuit.{FlatCircuit}
use Rattle.gg_flat.specs.State.{State, opening}
use Rattle.golden_commands.specs.Handed.{IsBridgeName, is_word_byte, most_signals}
use Rattle.golden_commands.specs.Bridges.{CanHandIn}
use Rattle.golden_commands.specs.inside.HandFault.{hand_fault, has_name, is_taken, signals_of}
use Rattle.golden_commands.specs.declared.bridges.HandFault.{HandFault}

-- a name that passes the test is one
name-is : (name : List ℕ) → has_name name ≡ true → IsBridgeName name
name-is [] has = absurd (true≢false (sym has))
name-is (b ∷ name) has = record { some = omega arith; bytes = (and_parts (not (length (b ∷ name) == 0)) (list_all is_word_byte (b ∷ name)) has).1 }

not-false : (b : Bool) → not b ≡ false → b ≡ true
not-false true is = refl
not-false false is = sym is

at-most : (a b : ℕ) → nat_lt a b ≡ false → b ≤ a
at-most a b is = grind (arith, is)

-- where a test has no reason to tell, it is false, and the rest has none
if-none : (b : Bool) (fault : HandFault) (rest : Option HandFault) → (if b then Some fault else rest) ≡ None → (b ≡ false) × (rest ≡ None)
if-none true fault rest is = absurd (cc)
if-none false fault rest is = (refl, is)

module _ {B : Type 0} (piece : B → FlatCircuit) (state : B → State) where
  -- one more bridge has its own signals
  signals-push : (bridges : List (List ℕ × B)) (pair : List ℕ × B) → signals_of piece (bridges ++ pair ∷ []) ≡ signals_of piece bridges + length (piece pair.1).signals
  signals-push bridges pair =
      let own : List ℕ × B → ℕ = λ bridge. length (piece bridge.1).signals in
      ap sum (map-append own bridges (pair ∷ [])) ∙ fold-append ◌+◌ 0 (map own bridges) (own pair ∷ [])

  -- no bridge has a name that isn't taken
  fresh : (bridges : List (List ℕ × B)) (name : List ℕ) (bridge : B) → is_taken bridges name ≡ false → (k : ℕ) (d : List ℕ) → k < length (map (λ pair. pair.0) bridges) → get_or (map (λ pair. pair.0) bridges) k d ≢ name
  fresh bridges name bridge free k d lt same =
      let low : k < length bridges = omega (arith, lt, length-map bridges (λ (pair : List ℕ × B). pair.0)) in
      let pair = get_or bridges k (name, bridge) in
      let own : pair.0 ≡ name = sym (get_or-map (λ (pair : List ℕ × B). pair.0) bridges k (name, bridge) d low) ∙ same in
      let taken = list_any-from_Any (λ (pair : List ℕ × B). bytes_eq pair.0 name) bridges (k, pair, low, get_or_default bridges k pair (name, bridge) low, (bytes_eq-Decides pair.0 name).1 own) in
      true≢false (sym taken ∙ free)

  -- what holds of a bridge that can be handed in
  passed : (bridges : List (List ℕ × B)) (name : List ℕ) (bridge : B) → hand_fault piece bridges name bridge ≡ None
      → (has_name name ≡ true) × (is_taken bridges name ≡ false) × (signals_of piece bridges + length (piece bridge).signals ≤ most_signals)
  passed bridges name bridge none =
      let named = if-none (not (has_name name)) _ _ none in
      let free = if-none (is_taken bridges name) _ _ named.1 in
      let few = if-none (nat_lt most_signals (signals_of piece bridges + length (piece bridge).signals)) _ _ free.1 in
      (not-false (has_name name) named.0, free.0, at-most _ _ few.0)

  -- the bridges with it can be handed in
  pub can-push : (bridges more : List (List ℕ × B)) (name : List ℕ) (bridge : B) → more ≡ bridges ++ (name, bridge) ∷ [] → CanHandIn piece state bridges → hand_fault piece bridges name bridge ≡ None
      → state bridge ≡ opening (piece bridge) → CanHandIn piece state more
  can-push bridges more name bridge grown can none zeros =
      let own = passed bridges name bridge none in
      let count : signals_of piece (bridges ++ (name, bridge) ∷ []) ≡ signals_of piece bridges + length (piece bridge).signals = signals-push bridges (name, bridge) in
      subst (CanHandIn piece state) (sym grown)
      (record {
        names = All-push (λ (pair : List ℕ × B). IsBridgeName pair.0) bridges (name, bridge) can.names (name-is name own.0);
        apart = subst (AllPairs (λ a b. a ≢ b)) (sym (map-append (λ (pair : List ℕ × B). pair.0) bridges ((name, bridge) ∷ [])))
            (all_pairs_push (λ a b. a ≢ b) (map (λ (pair : List ℕ × B). pair.0) bridges) name can.apart (fresh bridges name bridge own.1));
        zeros = All-push (λ (pair : List ℕ × B). state pair.1 ≡ opening (piece pair.1)) bridges (name, bridge) can.zeros zeros;
        few = omega (arith, own.2, count);
      })
