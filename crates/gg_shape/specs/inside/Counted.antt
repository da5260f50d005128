-- How often a key comes, as the check of memories counts.
-- Source: FIRRTL Specification, "Memories".
use Rattle.std.specs.Prelude.{ℕ, List, [], ◌∷◌}
use Rattle.gg_shape.specs.declared.memories.Given.{Given}
use Rattle.gg_shape.specs.declared.memories.Given.TheVariants.{Never, Once, Often}

-- how often the numbers of a key come, and the number itself if there is only one
abbrev pub count_of : List ℕ → Given
count_of [] = Never
count_of (n ∷ []) = Once n
count_of (n ∷ m ∷ ns) = Often

-- the count after at most one number more
abbrev pub with_value : Given → List ℕ → Given
with_value given [] = given
with_value Never (n ∷ _) = Once n
with_value (Once m) (n ∷ _) = Often
with_value Often (n ∷ _) = Often
