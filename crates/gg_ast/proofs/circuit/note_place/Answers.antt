use Rattle.std.proofs.Common.{◌≡◌, ℕ, List, Some, string_bytes, is_some, true, false, sym, ◌∙◌, ap}
use Rattle.std.specs.HashMap.{get_by_text}
use Rattle.std.specs.Map.{update}
use Rattle.std.specs.Str.{bytes_eq}
use Rattle.std.proofs.lemmas.Map.Text.{hash_map_updates_text}
use Rattle.std.proofs.lemmas.Result.{IfOk-at_ok}
use Rattle.gg_ast.specs.Places.{place_of}
use Rattle.gg_ast.proofs.NamePlaces.{tells-present, tells-new}
use Rattle.gg_ast.proofs.circuit.note_place.Goals as goal

pub returns-then-contains_key-clause-ok : goal.returns-then-contains_key-clause-ok
returns-then-contains_key-clause-ok c = λ names tells at.
    let there : is_some (place_of c.args.name.now names) ≡ true =
    ap (λ o. is_some o) (sym (tells c.args.name.now)) ∙ sym c.contains_key.ensures ∙ c.if-contains_key.true in
    tells-present names c.args.name.now c.args.places.now tells there

pub returns-clause-ok : goal.returns-clause-ok
returns-clause-ok c = λ names tells at.
    let name = c.args.name.now in
    let gone : is_some (place_of name names) ≡ false =
    ap (λ o. is_some o) (sym (tells name)) ∙ sym c.contains_key.ensures ∙ c.if-contains_key.false in
    let key : string_bytes c.in_ok-key.key ≡ name = IfOk-at_ok (λ s. string_bytes s ≡ name) c.in_ok-key.was c.from_str.ensures.ok in
    let sets : (q : List ℕ) → get_by_text c.insert.new.self q ≡ update bytes_eq (get_by_text c.args.places.now) (string_bytes c.in_ok-key.key) (Some c.args.place) q =
    hash_map_updates_text (string_bytes c.in_ok-key.key) c.args.places.now c.insert.new.self _ c.in_ok-insert.ensures.updates in
    tells-new names name c.args.places.now c.insert.new.self tells gone (λ q. sets q ∙ ap (λ k. update bytes_eq (get_by_text c.args.places.now) k (Some c.args.place) q) key ∙ ap (λ n. update bytes_eq (get_by_text c.args.places.now) name (Some n) q) at)
