use Rattle.std.proofs.Common.{◌≡◌, ℕ, List, [], ◌∷◌, map, Bor, refl, sym, ap₂, ◌∙◌}
use Rattle.std.specs.Prelude.{◌||◌, bytes_eq}
use Rattle.std.specs.List.{list_any}
use Rattle.std.proofs.lemmas.Bool.Decides.{same_from_decides}
use Rattle.std.proofs.lemmas.Slice.Eq.{bytes_eq-Decides}
use Rattle.gg_read.proofs.fault.is_one_of.Goals as goal

either-way : (xs ys : List ℕ) → bytes_eq xs ys ≡ bytes_eq ys xs
either-way xs ys =
    let back = bytes_eq-Decides ys xs in
    same_from_decides (bytes_eq xs ys) (bytes_eq ys xs) (bytes_eq-Decides xs ys) (λ e. sym (back.0 e), λ e. back.1 (sym e))

of-texts : (texts : List (Bor (List ℕ))) (word : List ℕ) → list_any (λ a. bytes_eq a.now word) texts ≡ list_any (bytes_eq word) (map (λ w. w.now) texts)
of-texts [] word = refl
of-texts (a ∷ rest) word = ap₂ (λ x y. x || y) (either-way a.now word) (of-texts rest word)

pub returns : goal.returns
returns c = c.contains.ensures.value ∙ of-texts c.args.words.now c.args.word.now
