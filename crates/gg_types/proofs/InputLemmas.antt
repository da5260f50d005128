-- The Clock inputs of a module, and which of them a name leads to.
use Rattle.std.proofs.Common.{◌≡◌, ℕ, zero, suc, ◌+◌, ◌<◌, Bool, true, false, List, [], ◌∷◌, ◌++◌, length, get_or, map, drop, filter, Option, Some, None, refl, sym, ap, ◌∙◌, if◌then◌else◌, true≢false, append_assoc, arith}
use Rattle.std.specs.Option.{option_map}
use Rattle.std.specs.Str.{bytes_eq}
use Rattle.std.proofs.lemmas.List.{drop_more}
use Rattle.std.proofs.lemmas.Option.{none-some}
use Rattle.gg_ast.specs.declared.module.Direction.{Direction}
use Rattle.gg_ast.specs.declared.module.Direction.TheVariants as directions
use Rattle.gg_ast.specs.declared.module.Port.{Port}
use Rattle.gg_ast.specs.declared.statement.Stmt.{Stmt}
use Rattle.gg_types.specs.declared.way.Way.{Way}
use Rattle.gg_types.specs.Clocks.{clock_from, clock_inputs, clock_named, clock_number, counted_clock, followed, is_clock_input, is_followed, port_way, way_of_port}
use Rattle.gg_types.specs.inside.Clocks.{clock_numbers}
use Rattle.gg_types.specs.inside.Named.{number_at}
use Rattle.gg_bits.specs.Lists.{find_word}
use Rattle.gg_types.specs.inside.Places.{TellsNext, Reaches, place_in}
use Rattle.gg_types.proofs.ClockLemmas.{IsSaid, reached-told, undeclared-told}

-- ---- numbers of ports

-- one more port, while they are numbered one after another
pub numbers-more : (ports : List Port) (i count : ℕ) (p : Port) (done all : List (Option ℕ)) → i < length ports → p ≡ get_or ports i p → done ++ clock_numbers count (drop i ports) ≡ all
    → (done ++ clock_number count p ∷ []) ++ clock_numbers (counted_clock count p) (drop (i + 1) ports) ≡ all
numbers-more ports i count p done all lt is h =
    append_assoc done (clock_number count p ∷ []) (clock_numbers (counted_clock count p) (drop (i + 1) ports))
    ∙ ap (λ q. done ++ clock_numbers count (q ∷ drop (i + 1) ports)) is
    ∙ ap (λ l. done ++ clock_numbers count l) (sym (drop_more ports i p lt))
    ∙ h

-- a number is below the count of the Clock inputs
numbered-below : (count : ℕ) (p : Port) (ps : List Port) (b : Bool) → is_clock_input p ≡ b → (j : ℕ) → clock_number count p ≡ Some j → j < count + length (clock_inputs (p ∷ ps))
numbered-below count p ps true t j h =
    let here : Some count ≡ Some j = sym (ap (λ b. if b then Some count else None) t) ∙ h in
    let same : count ≡ j = cc in
    let size : length (clock_inputs (p ∷ ps)) ≡ suc (length (clock_inputs ps)) = ap (λ b. length (map (λ (q : Port). q.name) (if b then p ∷ filter is_clock_input ps else filter is_clock_input ps))) t in
    omega (arith, same, size)
numbered-below count p ps false t j h = absurd (none-some j (sym (ap (λ b. if b then Some count else None) t) ∙ h))

later-below : (count : ℕ) (p : Port) (ps : List Port) (b : Bool) → is_clock_input p ≡ b → counted_clock count p + length (clock_inputs ps) ≡ count + length (clock_inputs (p ∷ ps))
later-below count p ps true t =
    let more : counted_clock count p ≡ suc count = ap (λ b. if b then suc count else count) t in
    let size : length (clock_inputs (p ∷ ps)) ≡ suc (length (clock_inputs ps)) = ap (λ b. length (map (λ (q : Port). q.name) (if b then p ∷ filter is_clock_input ps else filter is_clock_input ps))) t in
    omega (arith, more, size)
later-below count p ps false t =
    let more : counted_clock count p ≡ count = ap (λ b. if b then suc count else count) t in
    let size : length (clock_inputs (p ∷ ps)) ≡ length (clock_inputs ps) = ap (λ b. length (map (λ (q : Port). q.name) (if b then p ∷ filter is_clock_input ps else filter is_clock_input ps))) t in
    omega (arith, more, size)

from-below : (count : ℕ) (ports : List Port) (name : List ℕ) (j : ℕ) → clock_from count ports name ≡ Some j → j < count + length (clock_inputs ports)
from-below count [] name j h = absurd (none-some j h)
from-below count (p ∷ ps) name j h = go (bytes_eq name p.name) refl (from-below (counted_clock count p) ps name j)
  where
    go : (b : Bool) → bytes_eq name p.name ≡ b → (clock_from (counted_clock count p) ps name ≡ Some j → j < counted_clock count p + length (clock_inputs ps)) → j < count + length (clock_inputs (p ∷ ps))
    go true t later = numbered-below count p ps (is_clock_input p) refl j (sym (ap (λ b. if b then clock_number count p else clock_from (counted_clock count p) ps name) t) ∙ h)
    go false t later =
        let below = later (sym (ap (λ b. if b then clock_number count p else clock_from (counted_clock count p) ps name) t) ∙ h) in
        omega (arith, below, later-below count p ps (is_clock_input p) refl)

-- the number of a Clock input is below their count
pub clock-below : (ports : List Port) (name : List ℕ) (j : ℕ) → clock_named ports name ≡ Some j → j < length (clock_inputs ports)
clock-below ports name j h = omega (arith, from-below 0 ports name j h)

-- ---- names and places

port-not-followed : (d : Direction) → is_followed (Some (way_of_port d)) ≡ false
port-not-followed directions.Input = refl
port-not-followed directions.Output = refl

module _ (rest : List (List ℕ × Way)) where
  abbrev Ways : List Port → List (List ℕ × Way)
  Ways ports = map port_way ports ++ rest

  placed-number : (count : ℕ) (ports : List Port) (name : List ℕ) (k : ℕ) → place_in name (Ways ports) ≡ Some k → clock_from count ports name ≡ get_or (clock_numbers count ports) k None
  placed-number count [] name zero h = refl
  placed-number count [] name (suc k) h = refl
  placed-number count (p ∷ ps) name k h = go (bytes_eq name p.name) refl (place_in name (Ways ps)) refl (placed-number (counted_clock count p) ps name)
    where
      go : (b : Bool) → bytes_eq name p.name ≡ b → (o : Option ℕ) → place_in name (Ways ps) ≡ o → ((j : ℕ) → place_in name (Ways ps) ≡ Some j → clock_from (counted_clock count p) ps name ≡ get_or (clock_numbers (counted_clock count p) ps) j None) → clock_from count (p ∷ ps) name ≡ get_or (clock_numbers count (p ∷ ps)) k None
      go true t o u later =
          let e : Some 0 ≡ Some k = sym (ap (λ b. if b then Some 0 else option_map (λ k. k + 1) (place_in name (Ways ps))) t) ∙ h in
          let z : 0 ≡ k = cc in
          ap (λ b. if b then clock_number count p else clock_from (counted_clock count p) ps name) t
          ∙ ap (λ i. get_or (clock_numbers count (p ∷ ps)) i None) z
      go false t None u later =
          let e : None ≡ Some k = sym (ap (λ b. if b then Some 0 else option_map (λ k. k + 1) (place_in name (Ways ps))) t ∙ ap (option_map (λ k. k + 1)) u) ∙ h in
          absurd (none-some k e)
      go false t (Some j) u later =
          let e : Some (j + 1) ≡ Some k = sym (ap (λ b. if b then Some 0 else option_map (λ k. k + 1) (place_in name (Ways ps))) t ∙ ap (option_map (λ k. k + 1)) u) ∙ h in
          let z : j + 1 ≡ k = cc in
          let next : suc j ≡ k = omega (arith, z) in
          ap (λ b. if b then clock_number count p else clock_from (counted_clock count p) ps name) t
          ∙ later j u
          ∙ ap (λ i. get_or (clock_numbers count (p ∷ ps)) i None) next

  undeclared-number : (count : ℕ) (ports : List Port) (name : List ℕ) → place_in name (Ways ports) ≡ None → clock_from count ports name ≡ None
  undeclared-number count [] name h = refl
  undeclared-number count (p ∷ ps) name h = go (bytes_eq name p.name) refl (place_in name (Ways ps)) refl (undeclared-number (counted_clock count p) ps name)
    where
      go : (b : Bool) → bytes_eq name p.name ≡ b → (o : Option ℕ) → place_in name (Ways ps) ≡ o → (place_in name (Ways ps) ≡ None → clock_from (counted_clock count p) ps name ≡ None) → clock_from count (p ∷ ps) name ≡ None
      go true t o u later = absurd (none-some 0 (sym (sym (ap (λ b. if b then Some 0 else option_map (λ k. k + 1) (place_in name (Ways ps))) t) ∙ h)))
      go false t None u later = ap (λ b. if b then clock_number count p else clock_from (counted_clock count p) ps name) t ∙ later u
      go false t (Some j) u later = absurd (none-some (j + 1) (sym (sym (ap (λ b. if b then Some 0 else option_map (λ k. k + 1) (place_in name (Ways ps))) t ∙ ap (option_map (λ k. k + 1)) u) ∙ h)))

  followed-number : (count : ℕ) (ports : List Port) (name : List ℕ) → is_followed (find_word name (Ways ports)) ≡ true → clock_from count ports name ≡ None
  followed-number count [] name h = refl
  followed-number count (p ∷ ps) name h = go (bytes_eq name p.name) refl (followed-number (counted_clock count p) ps name)
    where
      go : (b : Bool) → bytes_eq name p.name ≡ b → (is_followed (find_word name (Ways ps)) ≡ true → clock_from (counted_clock count p) ps name ≡ None) → clock_from count (p ∷ ps) name ≡ None
      go true t later =
          absurd (true≢false (sym h ∙ ap (λ b. is_followed (if b then Some (way_of_port p.direction) else find_word name (Ways ps))) t ∙ port-not-followed p.direction))
      go false t later =
          ap (λ b. if b then clock_number count p else clock_from (counted_clock count p) ps name) t
          ∙ later (sym (ap (λ b. is_followed (if b then Some (way_of_port p.direction) else find_word name (Ways ps))) t) ∙ h)

  module _ (ports : List Port) (statements : List Stmt) where
    clock-said : IsSaid (Ways ports) statements None (clock_named ports) (λ k. get_or (clock_numbers 0 ports) k None)
    clock-said = record {
      placed = λ name k u. placed-number 0 ports name k u;
      undeclared = λ name u. undeclared-number 0 ports name u;
      leads_on = λ name t. followed-number 0 ports name t;
    }

    -- the numbers of the places that are reached tell the Clock inputs that names lead to
    pub clocks-told : (next reached : List ℕ) (clocks : List (Option ℕ)) → TellsNext (Ways ports) statements next → Reaches (length (Ways ports)) next reached → clocks ≡ map (λ k. get_or (clock_numbers 0 ports) k None) reached
        → (name : List ℕ) → number_at clocks (place_in name (Ways ports)) ≡ clock_named ports (followed (Ways ports) statements (length (Ways ports)) name)
    clocks-told next reached clocks tells reaches is name = go (place_in name (Ways ports)) refl
      where
        go : (p : Option ℕ) → place_in name (Ways ports) ≡ p → number_at clocks (place_in name (Ways ports)) ≡ clock_named ports (followed (Ways ports) statements (length (Ways ports)) name)
        go None u = ap (number_at clocks) u ∙ undeclared-told (Ways ports) statements None (clock_named ports) (λ k. get_or (clock_numbers 0 ports) k None) clock-said name u
        go (Some k) u = ap (number_at clocks) u ∙ reached-told (Ways ports) statements None (clock_named ports) (λ k. get_or (clock_numbers 0 ports) k None) clock-said next reached clocks tells reaches is name k u
