-- The words and read registers of a memory after the accesses of a cycle, and after one access at a time.
use Rattle.std.proofs.Common.{◌≡◌, ◌≢◌, ℕ, zero, suc, ◌+◌, ◌<◌, List, [], ◌∷◌, length, set, refl, sym, ◌∙◌, ap, subst, arith, Bool, true, false, true≢false}
use Rattle.std.specs.Prelude.{fold, ◌==◌, ◌&&◌, if◌then◌else◌}
use Rattle.std.proofs.lemmas.Bool.Decides.{Decides-eqb}
use Rattle.std.proofs.lemmas.List.{get_or-set_same, get_or-set_other, length-set}
use Rattle.std.proofs.lemmas.Grind.{same_number_lists}
use Rattle.gg_flat.specs.declared.memory.Writer.{Writer}
use Rattle.gg_flat.specs.Clock.{ticks}
use Rattle.gg_flat.specs.Line.{value_at}
use Rattle.gg_flat.specs.Memory.{hits, next_word, next_words_from, next_words}
use Rattle.gg_flat.specs.Served.{written}

module _ (edges : List Bool) (signals : List ℕ) where
  pub length-next_words : (writers : List Writer) (a : ℕ) (words : List ℕ) → length (next_words_from edges signals writers a words) ≡ length words
  length-next_words writers a [] = refl
  length-next_words writers a (own ∷ words) = ap suc (length-next_words writers (suc a) words)

  pub next_words-at : (writers : List Writer) (a : ℕ) (words : List ℕ) (i : ℕ) → i < length words → value_at (next_words_from edges signals writers a words) i ≡ next_word edges signals writers (a + i) (value_at words i)
  next_words-at writers a [] i lt = absurd (omega arith)
  next_words-at writers a (own ∷ words) zero lt = ap (λ k. next_word edges signals writers k own) (let same : a ≡ a + 0 = omega arith in same)
  next_words-at writers a (own ∷ words) (suc i) lt =
      next_words-at writers (suc a) words i (omega arith)
      ∙ ap (λ k. next_word edges signals writers k (value_at words i)) (let same : suc a + i ≡ a + suc i = omega arith in same)

  pub next_words-here : (writers : List Writer) (words : List ℕ) (i : ℕ) → i < length words → value_at (next_words edges signals writers words) i ≡ next_word edges signals writers i (value_at words i)
  next_words-here writers words i lt = next_words-at writers 0 words i lt ∙ ap (λ k. next_word edges signals writers k (value_at words i)) (let same : 0 + i ≡ i = omega arith in same)

  pub length-written : (words : List ℕ) (writer : Writer) → length (written edges signals words writer) ≡ length words
  length-written words writer = by (ticks edges writer.clock && (value_at signals writer.en == 1) && (value_at signals writer.mask == 1))
    where
      by : (b : Bool) → length (if b then set words (value_at signals writer.addr) (value_at signals writer.word) else words) ≡ length words
      by true = length-set words (value_at signals writer.addr) (value_at signals writer.word)
      by false = refl

  -- a word after one writer
  written-at : (words : List ℕ) (writer : Writer) (i : ℕ) → i < length words → value_at (written edges signals words writer) i ≡ (if hits edges signals writer i then value_at signals writer.word else value_at words i)
  written-at words writer i lt = by (ticks edges writer.clock) (value_at signals writer.en == 1) (value_at signals writer.mask == 1)
    where
      addr : ℕ
      addr = value_at signals writer.addr

      given : ℕ
      given = value_at signals writer.word

      set-at : (b : Bool) → (addr == i) ≡ b → value_at (set words addr given) i ≡ (if b then given else value_at words i)
      set-at true e =
          let same : addr ≡ i = (Decides-eqb addr i).0 e in
          subst (λ k. value_at (set words k given) i ≡ given) (sym same) (get_or-set_same words i given 0 lt)
      set-at false e =
          let other : i ≢ addr = λ same. true≢false (sym ((Decides-eqb addr i).1 (sym same)) ∙ e) in
          get_or-set_other words addr i given 0 other

      by : (a b c : Bool) → value_at (if a && b && c then set words addr given else words) i ≡ (if a && b && c && (addr == i) then given else value_at words i)
      by true true true = set-at (addr == i) refl
      by true true false = refl
      by true false c = refl
      by false b c = refl

  pub length-fold : (writers : List Writer) (words : List ℕ) → length (fold (written edges signals) words writers) ≡ length words
  length-fold [] words = refl
  length-fold (writer ∷ writers) words = length-fold writers (written edges signals words writer) ∙ length-written words writer

  fold-at : (writers : List Writer) (words : List ℕ) (i : ℕ) → i < length words → value_at (fold (written edges signals) words writers) i ≡ next_word edges signals writers i (value_at words i)
  fold-at [] words i lt = refl
  fold-at (writer ∷ writers) words i lt =
      fold-at writers (written edges signals words writer) i (omega (arith, lt, length-written words writer))
      ∙ ap (next_word edges signals writers i) (written-at words writer i lt)

  -- the writers one after another
  pub written-all : (writers : List Writer) (words : List ℕ) → fold (written edges signals) words writers ≡ next_words edges signals writers words
  written-all writers words =
      same_number_lists (fold (written edges signals) words writers) (next_words edges signals writers words) (length-fold writers words ∙ sym (length-next_words writers 0 words)) (λ i lt.
      let within : i < length words = omega (arith, lt, length-fold writers words) in
      fold-at writers words i within ∙ sym (next_words-here writers words i within))
