-- The number that a word names, and the words of a line that consists of words.
use Rattle.std.proofs.Common.{◌≡◌, ℕ, zero, suc, ◌+◌, ◌≤◌, List, [], ◌∷◌, codes, Option, Some, Bool, true, false, cond, refl, sym, ap, ◌∙◌, subst, arith}
use Rattle.std.specs.Prelude.{slice_get}
use Rattle.std.specs.List.{position_from, slice_split, onto_first}
use Rattle.std.specs.Bool.{Decides}
use Rattle.std.specs.Str.{bytes_eq}
use Rattle.std.proofs.lemmas.Iterator.Adapters.{position_from-zero}
use Rattle.std.proofs.lemmas.Slice.Eq.{bytes_eq-Decides}
use Rattle.gg_trace.specs.Fields.{is_blank}
use Rattle.gg_trace.specs.inside.Parted.{HasNoBlank}
use Rattle.gg_trace.proofs.PartedLaws.{no_byte, more_plain}
use Rattle.gg_replay.specs.steps_file.Naming.{first_place}
use Rattle.gg_replay.specs.steps_file.Words.{words}
use Rattle.gg_replay.specs.inside.Spelling.{GoesBy, StartsWith}
use Rattle.gg_replay.proofs.StepsFileLemmas.WordLaws.{words-last, words-front}

-- the first place of a name
pub record IsFirst (names : List (List ℕ)) (name : List ℕ) (place : ℕ) : Type 0 where
  pub has : slice_get names place ≡ Some name
  pub first : (k : ℕ) → slice_get names k ≡ Some name → place ≤ k

from-head : (name x : List ℕ) (names : List (List ℕ)) (i n : ℕ) (b : Bool) (o : Option ℕ) → Decides b (name ≡ x)
    → (o ≡ Some n → (j : ℕ) × (i + 1 + j ≡ n) × IsFirst names name j) → cond b (Some i) o ≡ Some n → (j : ℕ) × (i + j ≡ n) × IsFirst (x ∷ names) name j
from-head name x names i n true o d rest e =
    let start : i ≡ n = cc in
    (0, omega (arith, start), record { has = ap Some (sym (d.0 refl)); first = λ k h. omega arith })
from-head name x names i n false o d rest e =
    let r = rest e in
    (suc r.0, omega (arith, r.1), record { has = r.2.has; first = first r.0 r.2 })
  where
    first : (j : ℕ) → IsFirst names name j → (k : ℕ) → slice_get (x ∷ names) k ≡ Some name → suc j ≤ k
    first j at zero h = let same : name ≡ x = cc in let no : false ≡ true = d.1 same in absurd (cc)
    first j at (suc k) h = omega (arith, at.first k h)

from-first : (name : List ℕ) (i : ℕ) (names : List (List ℕ)) (n : ℕ) → position_from (bytes_eq name) i names ≡ Some n → (j : ℕ) × (i + j ≡ n) × IsFirst names name j
from-first name i [] n e = absurd (cc)
from-first name i (x ∷ names) n e =
    from-head name x names i n (bytes_eq name x) (position_from (bytes_eq name) (i + 1) names) (bytes_eq-Decides name x) (from-first name (i + 1) names n) e

first-head : (name x : List ℕ) (i : ℕ) (b : Bool) (o : Option ℕ) → Decides b (name ≡ x) → name ≡ x → cond b (Some i) o ≡ Some i
first-head name x i true o d e = refl
first-head name x i false o d e = let no : false ≡ true = d.1 e in absurd (cc)

first-tail : (name x : List ℕ) (i n : ℕ) (b : Bool) (o : Option ℕ) → Decides b (name ≡ x) → (name ≡ x → ⊥) → o ≡ Some n → cond b (Some i) o ≡ Some n
first-tail name x i n true o d differs e = absurd (differs (d.0 refl))
first-tail name x i n false o d differs e = e

first-from : (name : List ℕ) (i : ℕ) (names : List (List ℕ)) (j n : ℕ) → i + j ≡ n → IsFirst names name j → position_from (bytes_eq name) i names ≡ Some n
first-from name i [] j n e at = let no = at.has in absurd (cc)
first-from name i (x ∷ names) zero n e at =
    let same : name ≡ x = let h = at.has in cc in
    first-head name x i (bytes_eq name x) _ (bytes_eq-Decides name x) same ∙ ap Some (omega (arith, e))
first-from name i (x ∷ names) (suc j) n e at =
    first-tail name x i n (bytes_eq name x) _ (bytes_eq-Decides name x) (λ same. let no : suc j ≤ 0 = at.first 0 (ap Some (sym same)) in absurd (omega arith))
    (first-from name (i + 1) names j n (omega (arith, e)) (record { has = at.has; first = λ k h. let below : suc j ≤ suc k = at.first (suc k) h in omega arith }))

-- a word's first place among the names is the number that goes by the word
pub names-goes : (names : List (List ℕ)) (word : List ℕ) (n : ℕ) → HasNoBlank word → first_place word names ≡ Some n → GoesBy names n word
names-goes names [] n plain e = absurd (cc)
names-goes names (b ∷ word) n plain e =
    let r = from-first (b ∷ word) 0 names n (sym (position_from-zero (bytes_eq (b ∷ word)) names) ∙ e) in
    let here : r.0 ≡ n = omega (arith, r.1) in
    let at : IsFirst names (b ∷ word) n = subst (λ k. IsFirst names (b ∷ word) k) here r.2 in
    record { has = at.has; first = at.first; some = omega arith; plain = plain }

pub goes-names : (names : List (List ℕ)) (word : List ℕ) (n : ℕ) → GoesBy names n word → first_place word names ≡ Some n
goes-names names [] n goes = let some = goes.some in absurd (omega arith)
goes-names names (b ∷ word) n goes =
    position_from-zero (bytes_eq (b ∷ word)) names
    ∙ first-from (b ∷ word) 0 names n n (omega arith) (record { has = goes.has; first = goes.first })

-- the line is these words, with one blank between each two, and no word has a blank
abbrev pub AreWordsOf : List ℕ → List (List ℕ) → Type 0
AreWordsOf line [] = ⊥
AreWordsOf line (x ∷ []) = (line ≡ x) × HasNoBlank x
AreWordsOf line (x ∷ y ∷ more) = (rest : List ℕ) × StartsWith line x rest × HasNoBlank x × AreWordsOf rest (y ∷ more)

words-onto : (b : ℕ) (line : List ℕ) (parts : List (List ℕ)) → is_blank b ≡ false → AreWordsOf line parts → AreWordsOf (b ∷ line) (onto_first b parts)
words-onto b line [] other are = absurd are
words-onto b line (x ∷ []) other are = (ap (λ t. b ∷ t) are.0, more_plain b x other are.1)
words-onto b line (x ∷ y ∷ more) other are =
    let start = are.1 in
    (are.0, record { blank = start.blank; splits = start.splits; whole = ap (λ t. b ∷ t) start.whole }, more_plain b x other are.2, are.3)

words-behind : (b : ℕ) (line : List ℕ) (parts : List (List ℕ)) → is_blank b ≡ true → AreWordsOf line parts → AreWordsOf (b ∷ line) ([] ∷ parts)
words-behind b line [] splits are = absurd are
words-behind b line (x ∷ more) splits are = (line, record { blank = b; splits = splits; whole = refl }, no_byte, are)

words-kind : (b : ℕ) (line : List ℕ) (kind : Bool) (parts : List (List ℕ)) → is_blank b ≡ kind → AreWordsOf line parts
    → AreWordsOf (b ∷ line) (cond kind ([] ∷ parts) (onto_first b parts))
words-kind b line true parts h are = words-behind b line parts h are
words-kind b line false parts h are = words-onto b line parts h are

-- a line is its words, with one blank between each two
pub words-are : (line : List ℕ) → AreWordsOf line (words line)
unfolding words
words-are [] = (refl, no_byte)
words-are (b ∷ line) = words-kind b line (is_blank b) (slice_split is_blank line) refl (words-are line)

-- the words that begin a step have no blank
pub latch-plain : HasNoBlank (codes "latch")
unfolding words
latch-plain = let are = words-are (codes "latch") in are.1

pub fire-plain : HasNoBlank (codes "fire")
unfolding words
fire-plain = let are = words-are (codes "fire") in are.1

pub finish-plain : HasNoBlank (codes "finish")
unfolding words
finish-plain = let are = words-are (codes "finish") in are.1

pub serve-plain : HasNoBlank (codes "serve")
unfolding words
serve-plain = let are = words-are (codes "serve") in are.1

-- the words of a line of two words, and of a line of three
pub words-two : (line word name : List ℕ) → HasNoBlank word → StartsWith line word name → HasNoBlank name → words line ≡ word ∷ name ∷ []
words-two line word name plain start plain_name =
    ap words start.whole ∙ words-front word start.blank name plain start.splits ∙ ap (λ more. word ∷ more) (words-last name plain_name)

pub words-three : (line word names name own : List ℕ) → HasNoBlank word → StartsWith line word names → HasNoBlank name → StartsWith names name own → HasNoBlank own
    → words line ≡ word ∷ name ∷ own ∷ []
words-three line word names name own plain start plain_name start_name plain_own =
    ap words start.whole ∙ words-front word start.blank names plain start.splits
    ∙ ap (λ more. word ∷ more) (words-two names name own plain_name start_name plain_own)
