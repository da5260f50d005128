-- Numbers that stand for other numbers: what holds of the others holds of them too.
use Rattle.std.proofs.Common.{◌≡◌, ◌≢◌, ℕ, ◌<◌, List, length, map, get_or, sym, ◌∙◌, ap, subst, arith, Option}
use Rattle.std.specs.Prelude.{All, AllPairs, Contains, None}
use Rattle.std.proofs.lemmas.List.{length-map, get_or-map, get_or_default}
use Rattle.std.proofs.lemmas.Grind.{same_number_lists}
use Rattle.std.proofs.lemmas.Simd.{map-map}
use Rattle.gg_flat.specs.declared.memory.Reader.{Reader}
use Rattle.gg_flat.specs.Line.{value_at}
use Rattle.gg_flat.proofs.ListLemmas.{once-apart}
use Rattle.gg_part.specs.inside.Part.{ReadsAmong}
use Rattle.gg_part.specs.Part.{in_whole}
use Rattle.gg_cut_split.proofs.ClosedLemmas.ListLemmas.{map-cases}
use Rattle.gg_flat.specs.Renaming.{renamed_reader}

pub All-unmap : {A B : Type 0} (P : B → Type 0) (f : A → B) (xs : List A) → All P (map f xs) → All (λ x. P (f x)) xs
All-unmap P f xs all = λ i d lt. subst P (get_or-map f xs i d (f d) lt) (all i (f d) (omega (arith, lt, length-map xs f)))

-- numbers that stand for distinct numbers are distinct
pub distinct-back : (f : ℕ → ℕ) (xs ys : List ℕ) → map f xs ≡ ys → AllPairs (λ a b. a ≢ b) ys → AllPairs (λ a b. a ≢ b) xs
distinct-back f xs ys is once = λ i j d less lt same.
    let all = subst (λ (l : List ℕ). AllPairs (λ a b. a ≢ b) l) (sym is) once in
    all i j (f d) less (omega (arith, lt, length-map xs f)) (get_or-map f xs i d (f d) (omega (arith, less, lt)) ∙ ap f same ∙ sym (get_or-map f xs j d (f d) lt))

module _ (globals : List ℕ) (once : AllPairs (λ a b. a ≢ b) globals) where
  -- if what s stands for is in the list that another list stands for, s is in the other list
  pub contains-back : (xs ys : List ℕ) (s : ℕ) → ((k : ℕ) → k < length xs → value_at xs k < length globals) → map (value_at globals) xs ≡ ys → s < length globals → Contains ys (value_at globals s) → Contains xs s
  contains-back xs ys s low is lt has =
      let at = map-cases (value_at globals) xs (value_at globals s) (subst (λ (l : List ℕ). Contains l (value_at globals s)) (sym is) has) in
      let below = subst (λ k. k < length globals) (get_or_default xs at.place 0 s at.within) (low at.place at.within) in
      (at.place, at.within, once-apart globals 0 once (get_or xs at.place s) s below lt (at.holds s))

  -- two lists that stand for the same list are the same
  pub map-back : (xs ys : List ℕ) → ((k : ℕ) → k < length xs → value_at xs k < length globals) → ((k : ℕ) → k < length ys → value_at ys k < length globals) → map (value_at globals) xs ≡ map (value_at globals) ys → xs ≡ ys
  map-back xs ys low high is =
      let count : length xs ≡ length ys = sym (length-map xs (value_at globals)) ∙ ap length is ∙ length-map ys (value_at globals) in
      same_number_lists xs ys count (λ k lt.
      let inside : k < length ys = omega (arith, lt, count) in
      once-apart globals 0 once (value_at xs k) (value_at ys k) (low k lt) (high k inside)
      (sym (get_or-map (value_at globals) xs k 0 0 lt) ∙ ap (λ (l : List ℕ). value_at l k) is ∙ get_or-map (value_at globals) ys k 0 0 inside))

  -- out-signals that stand for the data of readers are the data of these readers
  pub words-back : (clocks : List (Option ℕ)) (outs : List ℕ) (readers : List Reader) → ((k : ℕ) → k < length outs → value_at outs k < length globals) → All (λ reader. ReadsAmong (length globals) reader) readers → map (value_at globals) outs ≡ map (λ (reader : Reader). reader.word) (map (renamed_reader (in_whole globals clocks)) readers)
      → outs ≡ map (λ (reader : Reader). reader.word) readers
  words-back clocks outs readers low among is =
      let word : Reader → ℕ = λ reader. reader.word in
      let nobody : Reader = record { addr = 0; en = 0; word = 0; clock = None } in
      map-back outs (map word readers) low
      (λ k lt.
      let inside : k < length readers = omega (arith, lt, length-map readers word) in
      subst (λ s. s < length globals) (sym (get_or-map word readers k nobody 0 inside)) (among k nobody inside).2)
      (is ∙ map-map word (renamed_reader (in_whole globals clocks)) readers ∙ sym (map-map (value_at globals) word readers))
