-- The texts that the getters of the matches read, by the rows.
use Rattle.std.proofs.Common.{◌≡◌, [], Option, None, Some, refl, sym, ap, ◌∙◌}
use Rattle.std.specs.Prelude.{option_map, unwrap_or}
use Rattle.std.specs.Borrow.{Bor}
use Rattle.clap.specs.Walk.{Text, first_of, rows_of}
use Rattle.clap.specs.Matches.{first_value}
use Rattle.clap.specs.declared.parser.matches.Found.{Found}
use Rattle.clap.proofs.WalkLemmas.{first_value-rows}
use Rattle.gg_words.specs.Meaning.{text_of}

module _ (f : Found) (id : Text) (given : Option (Bor Text)) (got : option_map (λ s. s.now) given ≡ first_value f id) where
  -- the text that was got is the first one of this argument in the rows
  pub first-given : first_of id (rows_of f) ≡ option_map (λ (s : Bor Text). s.now) given
  first-given = sym (first_value-rows f id) ∙ sym got

  pub first-some : (text : Bor Text) → given ≡ Some text → first_of id (rows_of f) ≡ Some text.now
  first-some text is = first-given ∙ ap (option_map (λ (s : Bor Text). s.now)) is

  pub first-none : given ≡ None → first_of id (rows_of f) ≡ None
  first-none is = first-given ∙ ap (option_map (λ (s : Bor Text). s.now)) is

  -- if there is none, it is the empty text
  pub text-given : (empty text : Bor Text) → empty.now ≡ [] → text ≡ unwrap_or given empty → text.now ≡ text_of id (rows_of f)
  text-given empty text none is = ap (λ (t : Bor Text). t.now) is ∙ go given ∙ ap (λ o. unwrap_or o []) (sym first-given)
    where
      go : (o : Option (Bor Text)) → (unwrap_or o empty).now ≡ unwrap_or (option_map (λ (s : Bor Text). s.now) o) []
      go None = none
      go (Some t) = refl
