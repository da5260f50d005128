use Rattle.std.proofs.Common.{◌≡◌, ℕ, List, Some, is_some, true, false, sym, ◌∙◌, ap}
use Rattle.std.specs.HashMap.{get_by}
use Rattle.std.specs.List.{position}
use Rattle.std.specs.Map.{update}
use Rattle.std.specs.Str.{bytes_eq}
use Rattle.std.proofs.lemmas.Map.Text.{hash_map_updates_str}
use Rattle.gg_replay.proofs.StepsFileLemmas.PlaceLaws.{tells-present, tells-new}
use Rattle.gg_replay.proofs.steps_file.table.note_place.Goals as goal

pub returns-then-contains_key-clause-ok : goal.returns-then-contains_key-clause-ok
returns-then-contains_key-clause-ok c = λ names tells at.
    let there : is_some (position (bytes_eq c.args.name.now) names) ≡ true =
    ap (λ o. is_some o) (sym (tells c.args.name.now)) ∙ sym c.contains_key.ensures ∙ c.if-contains_key.true in
    tells-present names c.args.name.now c.args.places.now tells there

pub returns-clause-ok : goal.returns-clause-ok
returns-clause-ok c = λ names tells at.
    let name = c.args.name.now in
    let places = c.args.places.now in
    let gone : is_some (position (bytes_eq name) names) ≡ false =
    ap (λ o. is_some o) (sym (tells name)) ∙ sym c.contains_key.ensures ∙ c.if-contains_key.false in
    let sets : (q : List ℕ) → get_by (λ key. bytes_eq q key.now) c.insert.new.self ≡ update bytes_eq (λ p. get_by (λ key. bytes_eq p key.now) places) name (Some c.args.place) q =
    hash_map_updates_str name places c.insert.new.self _ c.in_ok-insert.ensures.updates in
    tells-new names name places c.insert.new.self tells gone (λ q. sets q ∙ ap (λ n. update bytes_eq (λ p. get_by (λ key. bytes_eq p key.now) places) name (Some n) q) at)
