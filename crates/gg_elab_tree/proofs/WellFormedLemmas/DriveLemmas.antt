-- Elements at the numbers of their paths, and what a signal's drive says.
use Rattle.std.proofs.Common.{◌≡◌, ℕ, ◌<◌, Bool, true, false, List, [], Option, Some, None, length, get_or, map, refl, sym, ap, ◌∙◌, subst, arith, unwrap_or}
use Rattle.std.specs.Prelude.{Contains}
use Rattle.std.proofs.lemmas.List.{length-map, get_or-map}
use Rattle.std.proofs.lemmas.Option.{slice_get-get_or}
use Rattle.gg_ast.specs.Tree.{ModuleTree}
use Rattle.gg_flat.specs.declared.memory.Latency.{Latency}
use Rattle.gg_flat.specs.declared.memory.Latency.TheVariants.{Zero, One}
use Rattle.gg_flat.specs.Circuit.{FlatCircuit}
use Rattle.gg_flat.specs.declared.memory.Reader.{Reader}
use Rattle.gg_flat.specs.declared.piece.Driver.TheVariants.{MemoryWord}
use Rattle.gg_flat_tree.specs.Tree.{joined}
use Rattle.gg_flat.specs.WellFormed.{IsDataOf, MayDrive, reader_driver}
use Rattle.gg_elab_sites.specs.Sites.{Site, Outer}
use Rattle.gg_elab_sites.specs.Flat.{Drive, Outside, Gets, Holds, Answers, drive_of}
use Rattle.gg_elab_sites.specs.IsFlat.{answer, number_of, is_outside}
use Rattle.gg_elab_sites.specs.Signals.{Cause, FromOutside, Connected, Expressed, Kept, Answered}
use Rattle.gg_elab_sites.proofs.AmongLemmas.{element-at}
use Rattle.gg_elab_sites.proofs.NameLemmas.{Differ, place_of-at}

-- ---- elements by their paths

-- the number of an element's path is the element's place
pub number-at : {A : Type 0} (path : A → List ℕ) (xs : List A) (s : ℕ) (d : A) → Differ (map path xs) → s < length xs → number_of (map path xs) (path (get_or xs s d)) ≡ s
number-at path xs s d differ lt =
    ap (λ o. unwrap_or o 0)
    (place_of-at (map path xs) (path (get_or xs s d)) s (slice_get-get_or (map path xs) s [] (omega (arith, lt, length-map xs path)) ∙ ap Some (get_or-map path xs s d [] lt)) differ)

-- Element x stands at place n.
pub record Stands {A : Type 0} (xs : List A) (x : A) (n : ℕ) : Type 0 where
  pub inside : n < length xs
  pub is : (d : A) → get_or xs n d ≡ x

pub stands-at : {A : Type 0} (path : A → List ℕ) (xs : List A) (x : A) → Differ (map path xs) → Contains xs x → Stands xs x (number_of (map path xs) (path x))
stands-at path xs x differ c =
    let e = element-at xs c.0 c.1 in
    let is : (d : _) → get_or xs c.0 d ≡ x = λ d. e.is d ∙ sym (e.is x) ∙ c.2 in
    subst (Stands xs x) (sym (ap (λ y. number_of (map path xs) (path y)) (sym c.2) ∙ number-at path xs c.0 x differ c.1)) (record { inside = c.1; is = is })

-- ---- what a drive says

abbrev memory_read : List ℕ → Drive → List ℕ
memory_read d Outside = d
memory_read d (Gets scope c) = d
memory_read d (Holds scope reset next own clock) = d
memory_read d (Answers memory place latency addr en) = memory

abbrev place_read : ℕ → Drive → ℕ
place_read d Outside = d
place_read d (Gets scope c) = d
place_read d (Holds scope reset next own clock) = d
place_read d (Answers memory place latency addr en) = place

abbrev latency_read : Latency → Drive → Latency
latency_read d Outside = d
latency_read d (Gets scope c) = d
latency_read d (Holds scope reset next own clock) = d
latency_read d (Answers memory place latency addr en) = latency

abbrev answers : Drive → Bool
answers Outside = false
answers (Gets scope c) = false
answers (Holds scope reset next own clock) = false
answers (Answers memory place latency addr en) = true

-- The cause of a signal whose drive is a reader's answer.
pub record AnswerCause (x : Site) (cause : Cause) (memory : List ℕ) (place : ℕ) (latency : Latency) : Type 0 where
  pub said : List ℕ
  pub port : List ℕ
  pub is : cause ≡ Answered said port place latency
  pub path : memory ≡ joined x.path said

pub answer-cause : (modules : List ModuleTree) (x : Site) (name : List ℕ) (cause : Cause) (memory : List ℕ) (place : ℕ) (latency : Latency) (addr en : List ℕ) → drive_of modules x name cause ≡ Answers memory place latency addr en → AnswerCause x cause memory place latency
answer-cause modules x name FromOutside memory place latency addr en e = go x.outer e
  where
    go : (o : Option Outer) → drive_of modules (record x { outer = o }) name FromOutside ≡ Answers memory place latency addr en → AnswerCause x FromOutside memory place latency
    go None e = let never : false ≡ true = ap answers e in absurd (cc)
    go (Some outer) e = let never : false ≡ true = ap answers e in absurd (cc)
answer-cause modules x name Connected memory place latency addr en e = let never : false ≡ true = ap answers e in absurd (cc)
answer-cause modules x name (Expressed value) memory place latency addr en e = let never : false ≡ true = ap answers e in absurd (cc)
answer-cause modules x name (Kept clock reset) memory place latency addr en e = let never : false ≡ true = ap answers e in absurd (cc)
answer-cause modules x name (Answered said port at late) memory place latency addr en e = record {
  said = said;
  port = port;
  is = ap (λ n. Answered said port n late) (ap (place_read 0) e) ∙ ap (λ l. Answered said port place l) (ap (latency_read late) e);
  path = sym (ap (memory_read memory) e);
}

-- a reader's driver, by its latency
pub answer-is : (latency : Latency) (m r addr en : ℕ) (reader : Reader) → reader.addr ≡ addr → reader.en ≡ en → answer latency m r addr en ≡ reader_driver latency m r reader
answer-is Zero m r addr en reader a e = ap (λ n. MemoryWord m r n en) (sym a) ∙ ap (λ n. MemoryWord m r reader.addr n) (sym e)
answer-is (One under) m r addr en reader a e = refl

-- a reader's data may drive a signal, at each latency
pub data-drives : (flat : FlatCircuit) (latency : Latency) (m r addr en s : ℕ) → IsDataOf flat m r s → MayDrive flat s (answer latency m r addr en)
data-drives flat Zero m r addr en s h = h
data-drives flat (One under) m r addr en s h = h

-- what is driven from outside
pub outside-is : (drive : Drive) → is_outside drive ≡ true → drive ≡ Outside
outside-is Outside h = refl
outside-is (Gets scope c) h = absurd (cc)
outside-is (Holds scope reset next own clock) h = absurd (cc)
outside-is (Answers memory place latency addr en) h = absurd (cc)
