-- The registers that a part's signals hold, one signal after another; and how many numbers a frame can have.
use Rattle.std.proofs.Common.{◌≡◌, ◌≢◌, ℕ, zero, suc, ◌+◌, ◌<◌, ◌≤◌, ◌⊎◌, List, [], ◌∷◌, ◌++◌, length, take, get_or, true, false, eqb, sym, ◌∙◌, ap, subst, inl, inr, arith}
use Rattle.std.specs.Prelude.{All, AllPairs, Contains, Some, slice_get, flat_map}
use Rattle.std.proofs.lemmas.Bool.{cases_Bool}
use Rattle.std.proofs.lemmas.List.{take_more, get_or-map}
use Rattle.std.proofs.lemmas.List.Elements.{Contains-get_or, Contains-append_left, Contains-append_right, Contains-push, Contains-push_cases, All-contains}
use Rattle.std.proofs.lemmas.Bool.Decides.{Decides-eqb}
use Rattle.std.proofs.lemmas.Map.Keys.{IsDistinct-from_apart}
use Rattle.std.proofs.lemmas.Map.Steps.{length-le_from_distinct_below}
use Rattle.std.proofs.lemmas.Map.Views.{Contains-from_any}
use Rattle.gg_flat.specs.declared.piece.Driver.TheVariants.{Held}
use Rattle.gg_flat.specs.Line.{value_at}
use Rattle.gg_flat.specs.declared.piece.Register.{Register}
use Rattle.gg_flat.specs.declared.memory.Reader.{Reader}
use Rattle.gg_flat.specs.declared.memory.Writer.{Writer}
use Rattle.gg_flat.specs.declared.memory.Memory.{Memory}
use Rattle.gg_flat.specs.Circuit.{FlatCircuit, driver_at, readers_at}
use Rattle.gg_flat.specs.Reads.{RegisterNames}
use Rattle.gg_flat_tree.specs.Scoped.{reader_fields, writer_fields, writers_at, memory_fields}
use Rattle.gg_flat.specs.WellFormed.{MayDrive, IsWellFormed}
use Rattle.gg_part.specs.inside.Choice.{IsChoice}
use Rattle.gg_part.specs.Building.{Holds, IsHeldIn, AreHeld}

-- there are at most n distinct numbers below n
pub length-once : (xs : List ℕ) (n : ℕ) → AllPairs (λ a b. a ≢ b) xs → All (λ x. x < n) xs → length xs ≤ n
length-once xs n once below =
    length-le_from_distinct_below xs n (IsDistinct-from_apart eqb xs (λ i j d before within. by i j d (once i j d before within) (cases_Bool (eqb (get_or xs i d) (get_or xs j d)))))
    (λ q found. All-contains (λ x. x < n) xs q below (Contains-from_any (λ x y. (Decides-eqb x y).0) q xs found))
  where
    by : (i j d : ℕ) → (get_or xs i d ≢ get_or xs j d) → (eqb (get_or xs i d) (get_or xs j d) ≡ true) ⊎ (eqb (get_or xs i d) (get_or xs j d) ≡ false) → eqb (get_or xs i d) (get_or xs j d) ≡ false
    by i j d ne (inl same) = absurd (ne ((Decides-eqb (get_or xs i d) (get_or xs j d)).0 same))
    by i j d ne (inr other) = other

module _ (whole : FlatCircuit) (globals ins : List ℕ) (k : ℕ) (lt : k < length globals) where
  -- a signal among the first k + 1 is among the first k, or stands at place k
  among-more : (s : ℕ) → Contains (take (k + 1) globals) s → Contains (take k globals) s ⊎ (value_at globals k ≡ s)
  among-more s chosen = Contains-push_cases (take k globals) (value_at globals k) s (subst (λ (all : List ℕ). Contains all s) (take_more globals k 0 lt) chosen)

  among-before : (s : ℕ) → Contains (take k globals) s → Contains (take (k + 1) globals) s
  among-before s chosen = subst (λ (all : List ℕ). Contains all s) (sym (take_more globals k 0 lt)) (Contains-append_left (take k globals) (value_at globals k ∷ []) s chosen)

  among-last : Contains (take (k + 1) globals) (value_at globals k)
  among-last = subst (λ (all : List ℕ). Contains all (value_at globals k)) (sym (take_more globals k 0 lt)) (Contains-push (take k globals) (value_at globals k))

  held-before : (r : ℕ) → IsHeldIn whole (take k globals) ins r → IsHeldIn whole (take (k + 1) globals) ins r
  held-before r held = record { signal = held.signal; chosen = among-before held.signal held.chosen; holds = held.holds }

  -- one more signal, which holds a register
  pub AreHeld-more : (held more : List ℕ) (r : ℕ) → Holds whole ins (value_at globals k) r → more ≡ held ++ r ∷ [] → AreHeld whole (take k globals) ins held → AreHeld whole (take (k + 1) globals) ins more
  AreHeld-more held more r holds is are =
      record {
        every = λ s q chosen own. subst (λ (all : List ℕ). Contains all q) (sym is) (every s q own (among-more s chosen));
        sound = λ q listed. sound q (Contains-push_cases held r q (subst (λ (all : List ℕ). Contains all q) is listed));
      }
    where
      every : (s q : ℕ) → Holds whole ins s q → Contains (take k globals) s ⊎ (value_at globals k ≡ s) → Contains (held ++ r ∷ []) q
      every s q own (inl before) = Contains-append_left held (r ∷ []) q (are.every s q before own)
      every s q own (inr same) =
          let one : Held r ≡ Held q = sym holds.holds ∙ ap (driver_at whole) same ∙ own.holds in
          let equal : r ≡ q = cc in
          subst (λ p. Contains (held ++ r ∷ []) p) equal (Contains-push held r)

      sound : (q : ℕ) → Contains held q ⊎ (r ≡ q) → IsHeldIn whole (take (k + 1) globals) ins q
      sound q (inl before) = held-before q (are.sound q before)
      sound q (inr same) = record { signal = value_at globals k; chosen = among-last; holds = subst (λ p. Holds whole ins (value_at globals k) p) same holds }

  -- one more signal, which holds none
  pub AreHeld-passed : (held : List ℕ) → ((r : ℕ) → Holds whole ins (value_at globals k) r → ⊥) → AreHeld whole (take k globals) ins held → AreHeld whole (take (k + 1) globals) ins held
  AreHeld-passed held none are =
      record {
        every = λ s r chosen own. every s r own (among-more s chosen);
        sound = λ r listed. held-before r (are.sound r listed);
      }
    where
      every : (s r : ℕ) → Holds whole ins s r → Contains (take k globals) s ⊎ (value_at globals k ≡ s) → Contains held r
      every s r own (inl before) = are.every s r before own
      every s r own (inr same) = absurd (none r (subst (λ t. Holds whole ins t r) (sym same) own))

-- the registers that signals hold are registers of the whole
pub held-within : (whole : FlatCircuit) (globals ins held : List ℕ) → IsWellFormed whole → All (λ s. s < length whole.signals) globals → AreHeld whole globals ins held → All (λ r. r < length whole.registers) held
held-within whole globals ins held formed within are =
    λ k d lt.
    let r = get_or held k d in
    let at = are.sound r (Contains-get_or held k d lt) in
    let known = All-contains (λ s. s < length whole.signals) globals at.signal within at.chosen in
    (subst (MayDrive whole at.signal) at.holds.holds (formed.drivers at.signal known)).0

-- the signals that come from outside are signals of the whole
pub ins-within : (globals ins : List ℕ) (n : ℕ) → All (λ s. s < n) globals → All (λ s. Contains globals s) ins → All (λ s. s < n) ins
ins-within globals ins n within among = λ k d lt. All-contains (λ s. s < n) globals (get_or ins k d) within (among k d lt)

-- what a register of the part names is one of its signals
pub register-closed : (whole : FlatCircuit) (globals ins held memories : List ℕ) → IsChoice whole globals ins [] memories → AreHeld whole globals ins held → (r t : ℕ) (register : Register) → Contains held r → slice_get whole.registers r ≡ Some register → RegisterNames register t → Contains globals t
register-closed whole globals ins held memories chosen are r t register listed is named =
    let at = are.sound r listed in
    chosen.registers at.signal r t register at.chosen at.holds.inside at.holds.holds is named

-- ---- the fields of a memory's ports

in-flat_map : {X A : Type 0} (f : X → List A) (xs : List X) (k : ℕ) (d : X) (a : A) → k < length xs → Contains (f (get_or xs k d)) a → Contains (flat_map f xs) a
in-flat_map f [] k d a lt has = absurd (omega arith)
in-flat_map f (x ∷ xs) zero d a lt has = Contains-append_left (f x) (flat_map f xs) a has
in-flat_map f (x ∷ xs) (suc k) d a lt has = Contains-append_right (f x) (flat_map f xs) a (in-flat_map f xs k d a (omega arith) has)

-- all the numbers that a memory's readers and writers have are signals of the part
pub reader-fields : (whole : FlatCircuit) (globals : List ℕ) (m : ℕ) (memory : Memory) → m < length whole.memories → memory ≡ get_or whole.memories m memory → ((s : ℕ) → Contains (memory_fields whole m) s → Contains globals s) → All (λ reader. All (λ s. Contains globals s) (reader_fields reader)) memory.readers
reader-fields whole globals m memory lt read fields =
    let same : readers_at whole m ≡ memory.readers = get_or-map (λ (k : Memory). k.readers) whole.memories m memory [] lt ∙ ap (λ (k : Memory). k.readers) (sym read) in
    λ k d inside j e within.
    let field = get_or (reader_fields (get_or memory.readers k d)) j e in
    fields field
    (Contains-append_left (flat_map (λ reader. reader_fields reader) (readers_at whole m)) (flat_map (λ writer. writer_fields writer) (writers_at whole m)) field
    (subst (λ (l : List Reader). Contains (flat_map (λ reader. reader_fields reader) l) field) (sym same)
    (in-flat_map (λ reader. reader_fields reader) memory.readers k d field inside (Contains-get_or (reader_fields (get_or memory.readers k d)) j e within))))

pub writer-fields : (whole : FlatCircuit) (globals : List ℕ) (m : ℕ) (memory : Memory) → m < length whole.memories → memory ≡ get_or whole.memories m memory → ((s : ℕ) → Contains (memory_fields whole m) s → Contains globals s) → All (λ writer. All (λ s. Contains globals s) (writer_fields writer)) memory.writers
writer-fields whole globals m memory lt read fields =
    let same : writers_at whole m ≡ memory.writers = get_or-map (λ (k : Memory). k.writers) whole.memories m memory [] lt ∙ ap (λ (k : Memory). k.writers) (sym read) in
    λ k d inside j e within.
    let field = get_or (writer_fields (get_or memory.writers k d)) j e in
    fields field
    (Contains-append_right (flat_map (λ reader. reader_fields reader) (readers_at whole m)) (flat_map (λ writer. writer_fields writer) (writers_at whole m)) field
    (subst (λ (l : List Writer). Contains (flat_map (λ writer. writer_fields writer) l) field) (sym same)
    (in-flat_map (λ writer. writer_fields writer) memory.writers k d field inside (Contains-get_or (writer_fields (get_or memory.writers k d)) j e within))))
