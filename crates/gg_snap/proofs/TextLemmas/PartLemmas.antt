-- A state that is put together has the values of the whole.
use Rattle.std.proofs.Common.{◌≡◌, ℕ, zero, suc, ◌+◌, ◌<◌, List, [], ◌∷◌, length, map, drop, get_or, set, refl, sym, ap, ◌∙◌, subst, arith, ◌⊎◌, inl, inr}
use Rattle.std.specs.Prelude.{All, Contains}
use Rattle.std.proofs.lemmas.Bool.{cases_eq}
use Rattle.std.proofs.lemmas.List.{drop_more, get_or-set_other, get_or-set_same, length-set}
use Rattle.std.proofs.lemmas.List.Elements.{All-head, All-tail}
use Rattle.gg_flat.specs.Line.{value_at}
use Rattle.gg_flat.specs.Memory.{Bank, bank_at}
use Rattle.gg_flat.specs.State.{State}
use Rattle.gg_flat.proofs.ListLemmas.{Contains-cases}
use Rattle.gg_snap.specs.inside.Parts.{HasPart, HasSizeOf, IsPartState, put}

-- ---- lists of any items, with a default

module _ {A : Type 0} (none : A) where
  set-at : (old whole : List A) (r k : ℕ) → r < length old → get_or old k none ≡ get_or whole k none → get_or (set old r (get_or whole r none)) k none ≡ get_or whole k none
  set-at old whole r k lt same = by (cases_eq k r)
    where
      by : (k ≡ r) ⊎ (k ≡ r → ⊥) → get_or (set old r (get_or whole r none)) k none ≡ get_or whole k none
      by (inl e) = subst (λ j. get_or (set old r (get_or whole r none)) j none ≡ get_or whole j none) (sym e) (get_or-set_same old r (get_or whole r none) none lt)
      by (inr ne) = get_or-set_other old r k (get_or whole r none) none ne ∙ same

  further : (old whole : List A) (r : ℕ) (places : List ℕ) → All (λ s. s < length old) (r ∷ places) → All (λ s. s < length (set old r (get_or whole r none))) places
  further old whole r places known = subst (λ n. All (λ s. s < n) places) (sym (length-set old r (get_or whole r none))) (All-tail (λ s. s < length old) r places known)

  pub put-length : (old : List A) (places : List ℕ) (items : List A) → length (put old places items) ≡ length old
  put-length old [] items = refl
  put-length old (r ∷ places) [] = refl
  put-length old (r ∷ places) (item ∷ items) = put-length (set old r item) places items ∙ length-set old r item

  pub put-kept : (old whole : List A) (places : List ℕ) (k : ℕ) → All (λ r. r < length old) places → get_or old k none ≡ get_or whole k none → get_or (put old places (map (λ r. get_or whole r none) places)) k none ≡ get_or whole k none
  put-kept old whole [] k known same = same
  put-kept old whole (r ∷ places) k known same =
      put-kept (set old r (get_or whole r none)) whole places k (further old whole r places known) (set-at old whole r k (All-head (λ s. s < length old) r places known) same)

  first : (old whole : List A) (r k : ℕ) → r < length old → r ≡ k → get_or (set old r (get_or whole r none)) k none ≡ get_or whole k none
  first old whole r k lt e = subst (λ j. get_or (set old r (get_or whole r none)) j none ≡ get_or whole j none) e (get_or-set_same old r (get_or whole r none) none lt)

  pub put-there : (old whole : List A) (places : List ℕ) (k : ℕ) → All (λ r. r < length old) places → Contains places k → get_or (put old places (map (λ r. get_or whole r none) places)) k none ≡ get_or whole k none
  put-there old whole [] k known has = absurd (omega (arith, has.1))
  put-there old whole (r ∷ places) k known has =
      by (λ later. put-there (set old r (get_or whole r none)) whole places k (further old whole r places known) later)
      (λ e. put-kept (set old r (get_or whole r none)) whole places k (further old whole r places known) (first old whole r k (All-head (λ s. s < length old) r places known) e)) (Contains-cases r k places has)
    where
      by : (Contains places k → get_or (put (set old r (get_or whole r none)) places (map (λ r. get_or whole r none) places)) k none ≡ get_or whole k none)
          → (r ≡ k → get_or (put (set old r (get_or whole r none)) places (map (λ r. get_or whole r none) places)) k none ≡ get_or whole k none)
          → (r ≡ k) ⊎ Contains places k → get_or (put (set old r (get_or whole r none)) places (map (λ r. get_or whole r none) places)) k none ≡ get_or whole k none
      by later here (inl e) = here e
      by later here (inr in_rest) = later in_rest

abbrev pub no_bank : Bank
no_bank = record { words = []; reads = [] }

-- a state with a part's values in it
pub part-put : (whole old state : State) (held memories : List ℕ) → All (λ r. r < length old.registers) held → All (λ m. m < length old.banks) memories → IsPartState whole held memories state
    → HasPart whole held memories old (record { registers = put old.registers held state.registers; banks = put old.banks memories state.banks })
part-put whole old state held memories registers banks part =
    let values = λ (items : List ℕ). put old.registers held items in
    let hold = λ (items : List Bank). put old.banks memories items in
    record {
      register_count = put-length 0 old.registers held state.registers;
      bank_count = put-length no_bank old.banks memories state.banks;
      registers = λ r same. ap (λ (l : List ℕ). value_at (put old.registers held l) r) part.registers ∙ put-kept 0 old.registers whole.registers held r registers same;
      put_registers = λ r has. ap (λ (l : List ℕ). value_at (put old.registers held l) r) part.registers ∙ put-there 0 old.registers whole.registers held r registers has;
      banks = λ m same. ap (λ (l : List Bank). bank_at (put old.banks memories l) m) part.banks ∙ put-kept no_bank old.banks whole.banks memories m banks same;
      put_memories = λ m has. ap (λ (l : List Bank). bank_at (put old.banks memories l) m) part.banks ∙ put-there no_bank old.banks whole.banks memories m banks has;
    }

-- ---- item by item

pub put-more : {A : Type 0} (old : List A) (places : List ℕ) (items : List A) (i : ℕ) (p : ℕ) (d : A) → i < length places → i < length items → put old (drop i places) (drop i items) ≡ put (set old (get_or places i p) (get_or items i d)) (drop (i + 1) places) (drop (i + 1) items)
put-more old places items i p d low high =
    ap (λ l. put old l (drop i items)) (drop_more places i p low) ∙ ap (λ l. put old (get_or places i p ∷ drop (i + 1) places) l) (drop_more items i d high)

size-itself : (bank : Bank) → HasSizeOf bank bank
size-itself bank = record { words = refl; reads = refl }

pub sizes-itself : (old : List Bank) (m : ℕ) → HasSizeOf (bank_at old m) (bank_at old m)
sizes-itself old m = size-itself (bank_at old m)

-- a bank of the same size in place of another
pub sizes-set : (old first : List Bank) (place : ℕ) (bank : Bank) → HasSizeOf bank (bank_at old place) → ((m : ℕ) → HasSizeOf (bank_at old m) (bank_at first m)) → (m : ℕ) → HasSizeOf (bank_at (set old place bank) m) (bank_at first m)
sizes-set [] first place bank own all m = all m
sizes-set (b ∷ old) first zero bank own all zero = record { words = own.words ∙ (all 0).words; reads = own.reads ∙ (all 0).reads }
sizes-set (b ∷ old) first zero bank own all (suc m) = all (suc m)
sizes-set (b ∷ old) first (suc place) bank own all zero = all 0
sizes-set (b ∷ old) [] (suc place) bank own all (suc m) = sizes-set old [] place bank own (λ k. all (suc k)) m
sizes-set (b ∷ old) (f ∷ first) (suc place) bank own all (suc m) = sizes-set old first place bank own (λ k. all (suc k)) m

pub size-then : (a b c : Bank) → HasSizeOf a b → HasSizeOf c b → HasSizeOf a c
size-then a b c one other = record { words = one.words ∙ sym other.words; reads = one.reads ∙ sym other.reads }
