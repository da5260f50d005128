-- What is found along a list, in its order.
use Rattle.std.specs.Prelude.{List, [], ◌∷◌, ◌++◌, Option, Some, None}

-- What is found at each element, given the elements before it: `at before x` is found at `x` after the elements `before`.
abbrev pub along_from : {A B : Type 0} → (List A → A → List B) → List A → List A → List B
along_from at before [] = []
along_from at before (x ∷ xs) = at before x ++ along_from at (before ++ x ∷ []) xs

-- `along_from` for a whole list
abbrev pub along : {A B : Type 0} → (List A → A → List B) → List A → List B
along at xs = along_from at [] xs

-- the first element of a list, if it has one
abbrev pub first : {B : Type 0} → List B → Option B
first [] = None
first (x ∷ _) = Some x
