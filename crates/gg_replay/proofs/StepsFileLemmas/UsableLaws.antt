-- Each event whose parts have names that can be used in a line has a line that spells it.
use Rattle.std.proofs.Common.{◌≡◌, ◌≢◌, ◌⊎◌, ◌==◌, true, false, not, ℕ, zero, suc, ◌<◌, ◌≤◌, List, [], ◌∷◌, ◌++◌, Some, codes, length, get_or, refl, sym, ap, ◌∙◌, subst, inl, inr, arith, length-append}
use Rattle.std.specs.Prelude.{slice_get}
use Rattle.std.specs.List.{list_all}
use Rattle.std.proofs.lemmas.Bool.{cases_lt}
use Rattle.std.proofs.lemmas.List.Sums.{AllPass-from_list_all}
use Rattle.gg_net.specs.declared.event.Event.{Event}
use Rattle.gg_net.specs.declared.event.Event.TheVariants.{Latch, Fire, Serve, Finish}
use Rattle.gg_trace.specs.inside.Lined.{HasNoFeed}
use Rattle.gg_trace.specs.inside.Parted.{HasNoBlank}
use Rattle.gg_replay.specs.steps_file.Naming.{Naming, name_at, ports_at}
use Rattle.gg_replay.specs.inside.Spelling.{AreUsable, GoesBy, HasNames, IsLine, IsUsable, Spells, StartsWith}

-- ---- names

-- the name of a number below the count of names
there : (names : List (List ℕ)) (k : ℕ) → k < length names → slice_get names k ≡ Some (name_at names k)
there [] k lt = absurd (omega (arith, lt))
there (name ∷ names) zero lt = refl
there (name ∷ names) (suc k) lt = there names k (omega (arith, lt))

-- it is what any look-up in the list finds
looked-up : (names : List (List ℕ)) (k : ℕ) (name : List ℕ) → slice_get names k ≡ Some name → (k < length names) × ((d : List ℕ) → get_or names k d ≡ name)
looked-up [] k name e = absurd (cc)
looked-up (first ∷ names) zero name e = (omega arith, λ d. cc)
looked-up (first ∷ names) (suc k) name e = let rest = looked-up names k name e in (omega (arith, rest.0), rest.1)

module _ (names : List (List ℕ)) (usable : AreUsable names) where
  goes-by : (k : ℕ) → k < length names → GoesBy names k (name_at names k)
  goes-by k lt =
      let own = looked-up names k (name_at names k) (there names k lt) in
      record {
        has = there names k lt;
        first = λ i at. least i at (cases_lt i k);
        some = subst (λ name. 0 < length name) (own.1 []) (usable.some k [] lt);
        plain = subst HasNoBlank (own.1 []) (usable.plain k [] lt);
      }
    where
      least : (i : ℕ) → slice_get names i ≡ Some (name_at names k) → (i < k) ⊎ (k ≤ i) → k ≤ i
      least i at (inr le) = le
      least i at (inl below) =
          let own = looked-up names k (name_at names k) (there names k lt) in
          let other = looked-up names i (name_at names k) at in
          absurd (usable.differ i k [] below lt (other.1 [] ∙ sym (own.1 [])))

  feedless : (k : ℕ) → k < length names → HasNoFeed (name_at names k)
  feedless k lt = subst HasNoFeed ((looked-up names k (name_at names k) (there names k lt)).1 []) (usable.inline k [] lt)

-- ---- lines

one-more : (b : ℕ) (text : List ℕ) → b ≢ 10 → HasNoFeed text → HasNoFeed (b ∷ text)
one-more b text h plain zero lt = h
one-more b text h plain (suc k) lt = plain k (omega (arith, lt))

no-byte : HasNoFeed []
no-byte k lt = absurd (omega (arith, lt))

joined : (a b : List ℕ) → HasNoFeed a → HasNoFeed b → HasNoFeed (a ++ b)
joined [] b x y = y
joined (c ∷ a) b x y = one-more c (a ++ b) (x 0 (omega arith)) (joined a b (λ k lt. x (suc k) (omega (arith, lt))) y)

-- a word, a space and a rest
spaced-line : (word rest : List ℕ) → HasNoFeed word → HasNoFeed rest → IsLine (word ++ 32 ∷ rest)
spaced-line word rest x y =
    record { some = omega (arith, length-append word (32 ∷ rest)); inline = joined word (32 ∷ rest) x (one-more 32 rest (λ e. omega (arith, e)) y) }

starts : (word rest : List ℕ) → StartsWith (word ++ 32 ∷ rest) word rest
starts word rest = record { blank = 32; splits = refl; whole = refl }

-- a word without the byte of a line feed
word-feedless : (word : List ℕ) → list_all (λ b. not (b == 10)) word ≡ true → HasNoFeed word
word-feedless word e k lt same =
    let passes : not (get_or word k 0 == 10) ≡ true = AllPass-from_list_all (λ b. not (b == 10)) word e k 0 lt in
    let clash : false ≡ true = sym (ap (λ b. not (b == 10)) same) ∙ passes in
    absurd (cc)

-- ---- events

pub has-line : (naming : Naming) (event : Event) → IsUsable naming → HasNames naming event → (line : List ℕ) × IsLine line × Spells naming line event
has-line naming (Latch channel) usable lt =
    let name = name_at naming.channels channel in (
      codes "latch" ++ 32 ∷ name,
      spaced-line (codes "latch") name (word-feedless (codes "latch") refl) (feedless naming.channels usable.channels channel lt),
      (name, goes-by naming.channels usable.channels channel lt, starts (codes "latch") name),
    )
has-line naming (Fire channel) usable lt =
    let name = name_at naming.channels channel in (
      codes "fire" ++ 32 ∷ name,
      spaced-line (codes "fire") name (word-feedless (codes "fire") refl) (feedless naming.channels usable.channels channel lt),
      (name, goes-by naming.channels usable.channels channel lt, starts (codes "fire") name),
    )
has-line naming (Finish machine) usable lt =
    let name = name_at naming.machines machine in (
      codes "finish" ++ 32 ∷ name,
      spaced-line (codes "finish") name (word-feedless (codes "finish") refl) (feedless naming.machines usable.machines machine lt),
      (name, goes-by naming.machines usable.machines machine lt, starts (codes "finish") name),
    )
has-line naming (Serve machine port) usable (known, lt) =
    let name = name_at naming.machines machine in
    let own = name_at (ports_at naming machine) port in
    let rest = name ++ 32 ∷ own in
    let inner : IsLine rest = spaced-line name own (feedless naming.machines usable.machines machine known) (feedless (ports_at naming machine) (usable.ports machine) port lt) in (
      codes "serve" ++ 32 ∷ rest,
      spaced-line (codes "serve") rest (word-feedless (codes "serve") refl) inner.inline,
      (name, own, rest, goes-by naming.machines usable.machines machine known, goes-by (ports_at naming machine) (usable.ports machine) port lt, starts (codes "serve") rest, starts name own),
    )
