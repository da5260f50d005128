-- The circuit with a bridge at ports that are given by their names.
use Rattle.std.proofs.Common.{◌≡◌, ℕ, List, map, sym, ◌∙◌, ap, ap₂, subst}
use Rattle.gg_flat.specs.Circuit.{FlatCircuit}
use Rattle.gg_bridge.specs.inside.Joined.{CanJoin}
use Rattle.gg_bridge.specs.Joined.{joined}
use Rattle.gg_bridge.specs.Ports.{first_called, front_of, seen_at, driven_at, joined_at}

pub seen-is : (circuit piece : FlatCircuit) (outs : List ℕ) (names sees : List (List ℕ)) (items seen : List ℕ) → piece ≡ circuit → outs ≡ piece.outs → names ≡ sees → items ≡ map (λ name. first_called piece name outs) names → seen ≡ items → seen ≡ seen_at circuit sees
seen-is circuit piece outs names sees items seen same ports listed found is =
    is ∙ found
    ∙ ap₂ (λ (l : List ℕ) (ns : List (List ℕ)). map (λ name. first_called piece name l) ns) ports listed
    ∙ ap (λ (p : FlatCircuit). map (λ name. first_called p name p.outs) sees) same

pub driven-is : (circuit piece : FlatCircuit) (ins : List ℕ) (names drives : List (List ℕ)) (items driven : List ℕ) → piece ≡ circuit → ins ≡ piece.ins → names ≡ drives → items ≡ map (λ name. first_called piece name ins) names → driven ≡ items → driven ≡ driven_at circuit drives
driven-is circuit piece ins names drives items driven same ports listed found is =
    is ∙ found
    ∙ ap₂ (λ (l : List ℕ) (ns : List (List ℕ)). map (λ name. first_called piece name l) ns) ports listed
    ∙ ap (λ (p : FlatCircuit). map (λ name. first_called p name p.ins) drives) same

module _ (circuit : FlatCircuit) (name front : List ℕ) (model : FlatCircuit) (sees drives : List (List ℕ)) (seen driven : List ℕ) (fronts : front ≡ front_of name) (views : seen ≡ seen_at circuit sees) (drivers : driven ≡ driven_at circuit drives) where
  pub can-join : CanJoin circuit (front_of name) model (seen_at circuit sees) (driven_at circuit drives) → CanJoin circuit front model seen driven
  can-join can =
      subst (λ (l : List ℕ). CanJoin circuit l model seen driven) (sym fronts)
      (subst (λ (l : List ℕ). CanJoin circuit (front_of name) model l driven) (sym views)
      (subst (λ (l : List ℕ). CanJoin circuit (front_of name) model (seen_at circuit sees) l) (sym drivers) can))

  pub is-joined : joined circuit front model seen driven ≡ joined_at circuit name model sees drives
  is-joined =
      ap (λ (l : List ℕ). joined circuit l model seen driven) fronts
      ∙ ap₂ (λ (s d : List ℕ). joined circuit (front_of name) model s d) views drivers
