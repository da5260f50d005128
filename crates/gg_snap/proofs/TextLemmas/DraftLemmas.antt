-- A state with one value in place of another.
use Rattle.std.proofs.Common.{◌≡◌, ◌≢◌, ℕ, zero, suc, ◌+◌, ◌<◌, ◌≤◌, ◌^◌, List, [], ◌∷◌, ◌++◌, length, map, replicate, get_or, set, refl, sym, ap, ◌∙◌, subst, arith, ◌⊎◌, inl, inr}
use Rattle.std.specs.Prelude.{All}
use Rattle.std.proofs.lemmas.Bool.{cases_eq}
use Rattle.std.proofs.lemmas.List.{length-set, length-map, get_or-map, get_or-set_same, get_or-set_other}
use Rattle.std.proofs.lemmas.List.Elements.{All-head, All-tail}
use Rattle.gg_bits.specs.Shape.{Shape, shape, Fits}
use Rattle.gg_flat.specs.declared.memory.Memory.{Memory}
use Rattle.gg_flat.specs.declared.memory.Latency.{Latency}
use Rattle.gg_flat.specs.declared.memory.Latency.TheVariants.{Zero}
use Rattle.gg_flat.specs.declared.memory.Reader.{Reader}
use Rattle.gg_flat.specs.declared.piece.Register.{Register as register}
use Rattle.gg_flat.specs.Circuit.{FlatCircuit, register_shapes, latency_at}
use Rattle.gg_flat.specs.Line.{shape_at, value_at}
use Rattle.gg_flat.specs.Memory.{AreBanks, Bank, IsBank, bank_at, opening_bank, read_count}
use Rattle.gg_flat.specs.State.{IsState, State, opening}
use Rattle.gg_snap.specs.declared.text.row.At.{At}
use Rattle.gg_snap.specs.declared.text.row.At.TheVariants.{Register, Read, Words}
use Rattle.gg_snap.specs.declared.text.row.Row.{Row}
use Rattle.gg_snap.specs.inside.Draft.{HasValue, with_value}
use Rattle.gg_snap.specs.text.Known.{IsAt, IsElsewhere, IsKnown}
use Rattle.gg_snap.specs.text.Lines.{value_of}
use Rattle.gg_snap.specs.inside.Places.{Place, places, places_from}
use Rattle.gg_snap.proofs.TextLemmas.PlaceLemmas.{AreFit, AreZero}

-- ---- lists

-- what one item says stays, if the new item says at its place what the old one did
pub set-keeps : {A : Type 0} (F : A → ℕ) (xs : List A) (m n : ℕ) (x d : A) → F x ≡ F (get_or xs m d) → F (get_or (set xs m x) n d) ≡ F (get_or xs n d)
set-keeps F [] m n x d e = refl
set-keeps F (y ∷ ys) zero zero x d e = e
set-keeps F (y ∷ ys) zero (suc n) x d e = refl
set-keeps F (y ∷ ys) (suc m) zero x d e = refl
set-keeps F (y ∷ ys) (suc m) (suc n) x d e = set-keeps F ys m n x d e

-- what holds of each item, and of the new one, holds of each item afterwards
pub set-holds : (P : ℕ → Type 0) (xs : List ℕ) (r i v : ℕ) → P v → P (get_or xs i 0) → P (get_or (set xs r v) i 0)
set-holds P [] r i v new old = old
set-holds P (y ∷ ys) zero zero v new old = new
set-holds P (y ∷ ys) zero (suc i) v new old = old
set-holds P (y ∷ ys) (suc r) zero v new old = old
set-holds P (y ∷ ys) (suc r) (suc i) v new old = set-holds P ys r i v new old

zero-replicate : (n i : ℕ) → value_at (replicate n 0) i ≡ 0
zero-replicate zero i = refl
zero-replicate (suc n) zero = refl
zero-replicate (suc n) (suc i) = zero-replicate n i

-- ---- what a value changes

abbrev none : Bank
none = record { words = []; reads = [] }

pub set-here : (s : State) (at : At) (a v : ℕ) → HasValue s at a → value_of (with_value s at a v) at a ≡ v
set-here s (Register r) a v has = get_or-set_same s.registers r v 0 has
set-here s (Read m r) a v has =
    let bank : Bank = record { words = (bank_at s.banks m).words; reads = set (bank_at s.banks m).reads r v } in
    ap (λ (b : Bank). value_at b.reads r) (get_or-set_same s.banks m bank none has.0) ∙ get_or-set_same (bank_at s.banks m).reads r v 0 has.1
set-here s (Words m) a v has =
    let bank : Bank = record { words = set (bank_at s.banks m).words a v; reads = (bank_at s.banks m).reads } in
    ap (λ (b : Bank). value_at b.words a) (get_or-set_same s.banks m bank none has.0) ∙ get_or-set_same (bank_at s.banks m).words a v 0 has.1

pub set-elsewhere : (s : State) (at other : At) (a v b : ℕ) → IsElsewhere at other → value_of (with_value s at a v) other b ≡ value_of s other b
set-elsewhere s (Register r) (Register q) a v b apart = get_or-set_other s.registers r q v 0 (λ e. apart (sym e))
set-elsewhere s (Register r) (Read n q) a v b apart = refl
set-elsewhere s (Register r) (Words n) a v b apart = refl
set-elsewhere s (Read m r) (Register q) a v b apart = refl
set-elsewhere s (Read m r) (Read n q) a v b apart = by (cases_eq r q)
  where
    by : (r ≡ q) ⊎ (r ≡ q → ⊥) → value_of (with_value s (Read m r) a v) (Read n q) b ≡ value_of s (Read n q) b
    by (inl e) = ap (λ (k : Bank). value_at k.reads q) (get_or-set_other s.banks m n (record { words = (bank_at s.banks m).words; reads = set (bank_at s.banks m).reads r v }) none (λ same. apart (sym same, e)))
    by (inr ne) = set-keeps (λ (k : Bank). value_at k.reads q) s.banks m n (record { words = (bank_at s.banks m).words; reads = set (bank_at s.banks m).reads r v }) none (get_or-set_other (bank_at s.banks m).reads r q v 0 (λ e. ne (sym e)))
set-elsewhere s (Read m r) (Words n) a v b apart = set-keeps (λ (k : Bank). value_at k.words b) s.banks m n (record { words = (bank_at s.banks m).words; reads = set (bank_at s.banks m).reads r v }) none refl
set-elsewhere s (Words m) (Register q) a v b apart = refl
set-elsewhere s (Words m) (Read n q) a v b apart = set-keeps (λ (k : Bank). value_at k.reads q) s.banks m n (record { words = set (bank_at s.banks m).words a v; reads = (bank_at s.banks m).reads }) none refl
set-elsewhere s (Words m) (Words n) a v b apart =
    ap (λ (k : Bank). value_at k.words b) (get_or-set_other s.banks m n (record { words = set (bank_at s.banks m).words a v; reads = (bank_at s.banks m).reads }) none (λ same. apart (sym same)))

-- a word at another address
pub set-beside : (s : State) (m a v b : ℕ) → a ≢ b → value_of (with_value s (Words m) a v) (Words m) b ≡ value_of s (Words m) b
set-beside s m a v b apart =
    set-keeps (λ (k : Bank). value_at k.words b) s.banks m m (record { words = set (bank_at s.banks m).words a v; reads = (bank_at s.banks m).reads }) none
    (get_or-set_other (bank_at s.banks m).words a b v 0 (λ e. apart (sym e)))

-- ---- what a circuit's states have

any_memory : (circuit : FlatCircuit) (m : ℕ) → m < length circuit.memories → Memory
any_memory circuit m lt = some circuit.memories m lt
  where
    some : (ms : List Memory) (m : ℕ) → m < length ms → Memory
    some [] m lt = absurd (omega (arith, lt))
    some (x ∷ ms) m lt = x

module _ (circuit : FlatCircuit) (state : State) (is : IsState circuit state) where
  abbrev word_shapes : List Shape
  word_shapes = map (λ memory. shape memory.word) circuit.memories

  -- a bank, by any memory
  bank-is : (m : ℕ) (any : Memory) → m < length circuit.memories → IsBank (get_or circuit.memories m any) (bank_at state.banks m)
  bank-is m any lt = is.held.each m any lt

  word-shape : (m : ℕ) (any : Memory) → m < length circuit.memories → shape_at word_shapes m ≡ shape (get_or circuit.memories m any).word
  word-shape m any lt = get_or-map (λ (k : Memory). shape k.word) circuit.memories m any (record { kind = _; width = 0 }) lt

  pub has-value : (width count a : ℕ) (at : At) → IsAt circuit width count at → a < count → HasValue state at a
  has-value width count a (Register r) h low = omega (arith, h.0, is.typed.count, length-map circuit.registers (λ (k : register). shape k.ty))
  has-value width count a (Read m r) h low =
      let any = any_memory circuit m h.0 in
      let late = get_or-map (λ (k : Memory). k.latency) circuit.memories m any Zero h.0 in
      let readers = get_or-map (λ (k : Memory). k.readers) circuit.memories m any [] h.0 in
      let below : r < read_count (get_or circuit.memories m any).latency (get_or circuit.memories m any).readers = subst (λ (l : Latency). r < read_count l (get_or circuit.memories m any).readers) late (subst (λ (rs : List Reader). r < read_count (latency_at circuit m) rs) readers h.1) in
      (omega (arith, h.0, is.held.count), omega (arith, below, (bank-is m any h.0).reads.count))
  has-value width count a (Words m) h low =
      let any = any_memory circuit m h.0 in
      let depth = get_or-map (λ (k : Memory). k.depth) circuit.memories m any 0 h.0 in
      (omega (arith, h.0, is.held.count), omega (arith, low, h.1, depth, (bank-is m any h.0).words.count))

  pub has-fit : (width count a : ℕ) (at : At) → IsAt circuit width count at → a < count → value_of state at a < 2 ^ width
  has-fit width count a (Register r) h low =
      let lt : r < length (register_shapes circuit) = omega (arith, h.0, length-map circuit.registers (λ (k : register). shape k.ty)) in
      subst (λ w. value_at state.registers r < 2 ^ w) (sym h.2) (is.typed.fits r lt)
  has-fit width count a (Read m r) h low =
      let any = any_memory circuit m h.0 in
      subst (λ w. value_at (bank_at state.banks m).reads r < 2 ^ w) (sym (h.3 ∙ ap (λ (s : Shape). s.width) (word-shape m any h.0))) ((bank-is m any h.0).reads.fits r)
  has-fit width count a (Words m) h low =
      let any = any_memory circuit m h.0 in
      subst (λ w. value_at (bank_at state.banks m).words a < 2 ^ w) (sym (h.2 ∙ ap (λ (s : Shape). s.width) (word-shape m any h.0))) ((bank-is m any h.0).words.fits a)

  -- a bank in place of another
  with-bank : (m : ℕ) (bank : Bank) → ((any : Memory) → m < length circuit.memories → IsBank (get_or circuit.memories m any) bank) → AreBanks circuit.memories (set state.banks m bank)
  with-bank m bank here = record {
    count = length-set state.banks m bank ∙ is.held.count;
    each = λ n any lt. by n any lt (cases_eq n m);
  }
    where
      by : (n : ℕ) (any : Memory) → n < length circuit.memories → (n ≡ m) ⊎ (n ≡ m → ⊥) → IsBank (get_or circuit.memories n any) (bank_at (set state.banks m bank) n)
      by n any lt (inl e) =
          let there : m < length state.banks = omega (arith, lt, e, is.held.count) in
          subst (λ k. IsBank (get_or circuit.memories k any) (bank_at (set state.banks m bank) k)) (sym e)
          (subst (IsBank (get_or circuit.memories m any)) (sym (get_or-set_same state.banks m bank none there)) (here any (omega (arith, lt, e))))
      by n any lt (inr ne) = subst (IsBank (get_or circuit.memories n any)) (sym (get_or-set_other state.banks m n bank none ne)) (is.held.each n any lt)

  pub with-value : (width count a v : ℕ) (at : At) → IsAt circuit width count at → v < 2 ^ width → IsState circuit (with_value state at a v)
  with-value width count a v (Register r) h fits = record {
    typed = record {
      count = length-set state.registers r v ∙ is.typed.count;
      fits = λ i lt. by i lt (cases_eq i r);
    };
    held = is.held;
  }
    where
      by : (i : ℕ) → i < length (register_shapes circuit) → (i ≡ r) ⊎ (i ≡ r → ⊥) → Fits (shape_at (register_shapes circuit) i) (value_at (set state.registers r v) i)
      by i lt (inl e) =
          let there : r < length state.registers = omega (arith, lt, e, is.typed.count) in
          subst (λ k. Fits (shape_at (register_shapes circuit) k) (value_at (set state.registers r v) k)) (sym e)
          (subst (Fits (shape_at (register_shapes circuit) r)) (sym (get_or-set_same state.registers r v 0 there)) (subst (λ w. v < 2 ^ w) h.2 fits))
      by i lt (inr ne) = subst (Fits (shape_at (register_shapes circuit) i)) (sym (get_or-set_other state.registers r i v 0 ne)) (is.typed.fits i lt)
  with-value width count a v (Read m r) h fits = record {
    typed = is.typed;
    held = with-bank m (record { words = (bank_at state.banks m).words; reads = set (bank_at state.banks m).reads r v }) (λ any lt. record {
      words = (bank-is m any lt).words;
      reads = record {
        count = length-set (bank_at state.banks m).reads r v ∙ (bank-is m any lt).reads.count;
        fits = λ i. set-holds (Fits (shape (get_or circuit.memories m any).word)) (bank_at state.banks m).reads r i v (subst (λ w. v < 2 ^ w) (h.3 ∙ ap (λ (s : Shape). s.width) (word-shape m any lt)) fits) ((bank-is m any lt).reads.fits i);
      };
    });
  }
  with-value width count a v (Words m) h fits = record {
    typed = is.typed;
    held = with-bank m (record { words = set (bank_at state.banks m).words a v; reads = (bank_at state.banks m).reads }) (λ any lt. record {
      words = record {
        count = length-set (bank_at state.banks m).words a v ∙ (bank-is m any lt).words.count;
        fits = λ i. set-holds (Fits (shape (get_or circuit.memories m any).word)) (bank_at state.banks m).words a i v (subst (λ w. v < 2 ^ w) (h.2 ∙ ap (λ (s : Shape). s.width) (word-shape m any lt)) fits) ((bank-is m any lt).words.fits i);
      };
      reads = (bank-is m any lt).reads;
    });
  }

  -- ---- all places of a table

  fit-from : (row : Row) → IsKnown circuit row → (a n : ℕ) → a + n ≤ row.count → (rest : List Place) → AreFit state rest → AreFit state (places_from row a n ++ rest)
  fit-from row known a zero within rest fit = fit
  fit-from row known a (suc n) within rest fit =
      (has-fit row.width row.count a row.at known.at (omega (arith, within)), fit-from row known (a + 1) n (omega (arith, within)) rest fit)

  pub fit-places : (rows : List Row) → All (IsKnown circuit) rows → AreFit state (places rows)
  fit-places [] known = tt
  fit-places (row ∷ rows) known =
      fit-from row (All-head (IsKnown circuit) row rows known) 0 row.count (omega arith) (places rows) (fit-places rows (All-tail (IsKnown circuit) row rows known))

-- ---- zeros

reads-zero : (memories : List Memory) (m r : ℕ) → value_at (bank_at (map (λ memory. opening_bank memory) memories) m).reads r ≡ 0
reads-zero [] m r = refl
reads-zero (k ∷ memories) zero r = zero-replicate (read_count k.latency k.readers) r
reads-zero (k ∷ memories) (suc m) r = reads-zero memories m r

words-zero : (memories : List Memory) (m a : ℕ) → value_at (bank_at (map (λ memory. opening_bank memory) memories) m).words a ≡ 0
words-zero [] m a = refl
words-zero (k ∷ memories) zero a = zero-replicate k.depth a
words-zero (k ∷ memories) (suc m) a = words-zero memories m a

opening-zero : (circuit : FlatCircuit) (at : At) (a : ℕ) → value_of (opening circuit) at a ≡ 0
opening-zero circuit (Register r) a = zero-replicate (length circuit.registers) r
opening-zero circuit (Read m r) a = reads-zero circuit.memories m r
opening-zero circuit (Words m) a = words-zero circuit.memories m a

pub zero-places : (circuit : FlatCircuit) (ps : List Place) → AreZero (opening circuit) ps
zero-places circuit [] = tt
zero-places circuit (p ∷ ps) = (opening-zero circuit p.row.at p.address, zero-places circuit ps)
