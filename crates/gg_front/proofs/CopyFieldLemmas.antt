-- The fields of an instance's memories are among its signals, and its memories among its memories.
use Rattle.std.proofs.Common.{◌≡◌, ℕ, zero, suc, ◌+◌, ◌<◌, List, [], ◌∷◌, ◌++◌, length, map, Option, Some, None, refl, sym, ap, ◌∙◌, subst, arith, codes}
use Rattle.std.specs.Prelude.{Contains, slice_get}
use Rattle.std.proofs.lemmas.Option.{slice_get-get_or}
use Rattle.gg_ast.specs.Tree.{ModuleTree}
use Rattle.gg_flat.specs.declared.memory.Latency.{Latency}
use Rattle.gg_flat_tree.specs.Tree.{joined}
use Rattle.gg_flat.proofs.ListLemmas.{Contains-map}
use Rattle.gg_elab_sites.specs.Sites.{Site, Outer, module_at}
use Rattle.gg_elab_sites.specs.Flat.{Drive, Answers, Outside, Gets, Holds, FlatSignal, flat_signal, drive_of, signals_at, flat_signals, FlatMemory, flat_memory, memories_at, flat_memories}
use Rattle.gg_types.specs.Memories.{Bank}
use Rattle.gg_elab_sites.specs.Signals.{Types, Cause, FromOutside, Connected, Expressed, Kept, Answered, Own, OwnBank, own_signals, own_banks, reader_signals, writer_signals, field_name}
use Rattle.gg_elab_sites.proofs.AmongLemmas.{in-flat_map, from-flat_map, from-map}
use Rattle.gg_elab_tree.proofs.WellFormedLemmas.BankFieldLemmas.{bank-signal, reader-among, writer-among}
use Rattle.gg_elab_tree.proofs.NamesLemmas.JoinLemmas.{joined-behind}
use Rattle.gg_front.proofs.CopyDriverLemmas.{Stretch, stretch-at, stretch-inside}

-- what is in a stretch stands there
pub there-of : (paths : List (List ℕ)) (first : ℕ) (part : List (List ℕ)) → Stretch paths first part → (w : List ℕ) → Contains part w → (k : ℕ) × (k < length part) × (slice_get paths (first + k) ≡ Some w)
there-of paths first part at w (k, lt, is) = (
  k,
  lt,
  slice_get-get_or paths (first + k) w (omega (arith, lt, stretch-inside paths first part at)) ∙ ap Some (stretch-at paths first part at k w lt ∙ is),
)

-- the own signals of a site among these are among the signals
pub own-there : (types : Types) (modules : List ModuleTree) (xs : List Site) (x : Site) (o : Own) → Contains xs x → Contains (own_signals types x.number (module_at modules x.number)) o → Contains (map (λ (y : FlatSignal). y.path) (flat_signals types modules xs)) (joined x.path o.name)
own-there types modules xs x o c k =
    Contains-map (λ (y : FlatSignal). y.path) (flat_signals types modules xs) (flat_signal modules x o)
    (in-flat_map (signals_at types modules) xs x (flat_signal modules x o) c (Contains-map (flat_signal modules x) (own_signals types x.number (module_at modules x.number)) o k))

pub bank-there : (modules : List ModuleTree) (xs : List Site) (x : Site) (b : OwnBank) → Contains xs x → Contains (own_banks (module_at modules x.number).statements) b → Contains (map (λ (y : FlatMemory). y.path) (flat_memories modules xs)) (joined x.path b.name)
bank-there modules xs x b c k =
    Contains-map (λ (y : FlatMemory). y.path) (flat_memories modules xs) (flat_memory modules x b)
    (in-flat_map (memories_at modules) xs x (flat_memory modules x b) c (Contains-map (flat_memory modules x) (own_banks (module_at modules x.number).statements) b k))

-- ---- fields

-- An own signal with this name.
pub record HasNamed (all : List Own) (name : List ℕ) : Type 0 where
  pub signal : Own
  pub among : Contains all signal
  pub is : signal.name ≡ name

reader-word : (memory : List ℕ) (bank : Bank) (place : ℕ) (port word : List ℕ) → Contains (codes "addr" ∷ codes "en" ∷ codes "data" ∷ []) word → HasNamed (reader_signals memory bank place port) (field_name memory port word)
reader-word memory bank place port word (zero, lt, is) = record { signal = _; among = (0, omega arith, refl); is = ap (field_name memory port) is }
reader-word memory bank place port word (suc zero, lt, is) = record { signal = _; among = (1, omega arith, refl); is = ap (field_name memory port) is }
reader-word memory bank place port word (suc (suc zero), lt, is) = record { signal = _; among = (2, omega arith, refl); is = ap (field_name memory port) is }
reader-word memory bank place port word (suc (suc (suc k)), lt, is) = absurd (omega (arith, lt))

writer-word : (memory : List ℕ) (bank : Bank) (port word : List ℕ) → Contains (codes "addr" ∷ codes "en" ∷ codes "data" ∷ codes "mask" ∷ []) word → HasNamed (writer_signals memory bank port) (field_name memory port word)
writer-word memory bank port word (zero, lt, is) = record { signal = _; among = (0, omega arith, refl); is = ap (field_name memory port) is }
writer-word memory bank port word (suc zero, lt, is) = record { signal = _; among = (1, omega arith, refl); is = ap (field_name memory port) is }
writer-word memory bank port word (suc (suc zero), lt, is) = record { signal = _; among = (2, omega arith, refl); is = ap (field_name memory port) is }
writer-word memory bank port word (suc (suc (suc zero)), lt, is) = record { signal = _; among = (3, omega arith, refl); is = ap (field_name memory port) is }
writer-word memory bank port word (suc (suc (suc (suc k))), lt, is) = absurd (omega (arith, lt))

module _ (types : Types) (modules : List ModuleTree) (xs : List Site) where
  abbrev paths : List (List ℕ)
  paths = map (λ (y : FlatSignal). y.path) (flat_signals types modules xs)

  -- a field of a memory of a site, by its path
  field-path : (x : Site) (b : OwnBank) (port word : List ℕ) → joined x.path (field_name b.name port word) ≡ field_name (joined x.path b.name) port word
  field-path x b port word = joined-behind x.path b.name (port ++ 46 ∷ word)

  pub reader-there : (y : FlatMemory) → Contains (flat_memories modules xs) y → (port word : List ℕ) → Contains y.bank.readers port → Contains (codes "addr" ∷ codes "en" ∷ codes "data" ∷ []) word → Contains paths (field_name y.path port word)
  reader-there y c port word at w =
      let x = from-flat_map (memories_at modules) xs y c in
      let b = from-map (flat_memory modules x.of) (own_banks (module_at modules x.of.number).statements) y x.made in
      let port_at : Contains b.of.bank.readers port = subst (λ (z : FlatMemory). Contains z.bank.readers port) (sym b.made) at in
      let o = reader-word b.of.name b.of.bank port_at.0 port word w in
      subst (Contains paths)
      (ap (joined x.of.path) o.is ∙ field-path x.of b.of port word ∙ ap (λ (z : FlatMemory). field_name z.path port word) b.made)
      (own-there types modules xs x.of o.signal x.among
      (bank-signal types x.of.number (module_at modules x.of.number) b.of o.signal b.among (reader-among b.of.name b.of.bank port_at.0 port o.signal port_at.1 port_at.2 o.among)))

  pub writer-there : (y : FlatMemory) → Contains (flat_memories modules xs) y → (port word : List ℕ) → Contains y.bank.writers port → Contains (codes "addr" ∷ codes "en" ∷ codes "data" ∷ codes "mask" ∷ []) word → Contains paths (field_name y.path port word)
  writer-there y c port word at w =
      let x = from-flat_map (memories_at modules) xs y c in
      let b = from-map (flat_memory modules x.of) (own_banks (module_at modules x.of.number).statements) y x.made in
      let port_at : Contains b.of.bank.writers port = subst (λ (z : FlatMemory). Contains z.bank.writers port) (sym b.made) at in
      let o = writer-word b.of.name b.of.bank port word w in
      subst (Contains paths)
      (ap (joined x.of.path) o.is ∙ field-path x.of b.of port word ∙ ap (λ (z : FlatMemory). field_name z.path port word) b.made)
      (own-there types modules xs x.of o.signal x.among
      (bank-signal types x.of.number (module_at modules x.of.number) b.of o.signal b.among (writer-among b.of.name b.of.bank port o.signal port_at o.among)))

-- ---- answers

abbrev is_answer : Drive → ℕ
is_answer Outside = 0
is_answer (Gets scope c) = 0
is_answer (Holds scope reset next own clock) = 0
is_answer (Answers memory place latency addr en) = 1

-- The cause of a signal whose drive is a reader's answer, and the paths.
pub record AnswerParts (x : Site) (cause : Cause) (memory : List ℕ) (place : ℕ) (latency : Latency) (addr en : List ℕ) : Type 0 where
  pub said : List ℕ
  pub port : List ℕ
  pub at : ℕ
  pub late : Latency
  pub is : cause ≡ Answered said port at late
  pub path : memory ≡ joined x.path said
  pub addr_is : addr ≡ joined x.path (field_name said port (codes "addr"))
  pub en_is : en ≡ joined x.path (field_name said port (codes "en"))

no-answer : {B : Type 0} (d e : Drive) → d ≡ e → is_answer d ≡ 0 → is_answer e ≡ 1 → B
no-answer d e same here there = absurd (let never : 0 ≡ 1 = sym here ∙ ap is_answer same ∙ there in omega (arith, never))

pub answer-parts : (modules : List ModuleTree) (x : Site) (name : List ℕ) (cause : Cause) (memory : List ℕ) (place : ℕ) (latency : Latency) (addr en : List ℕ) → drive_of modules x name cause ≡ Answers memory place latency addr en → AnswerParts x cause memory place latency addr en
answer-parts modules x name FromOutside memory place latency addr en e = go x.outer e
  where
    go : (o : Option Outer) → drive_of modules (record x { outer = o }) name FromOutside ≡ Answers memory place latency addr en → AnswerParts x FromOutside memory place latency addr en
    go None e = no-answer Outside (Answers memory place latency addr en) e refl refl
    go (Some outer) e = no-answer (drive_of modules (record x { outer = Some outer }) name FromOutside) (Answers memory place latency addr en) e refl refl
answer-parts modules x name Connected memory place latency addr en e = no-answer (drive_of modules x name Connected) (Answers memory place latency addr en) e refl refl
answer-parts modules x name (Expressed value) memory place latency addr en e = no-answer (drive_of modules x name (Expressed value)) (Answers memory place latency addr en) e refl refl
answer-parts modules x name (Kept clock reset) memory place latency addr en e = no-answer (drive_of modules x name (Kept clock reset)) (Answers memory place latency addr en) e refl refl
answer-parts modules x name (Answered said port at late) memory place latency addr en e = record {
  said = said;
  port = port;
  at = at;
  late = late;
  is = refl;
  path = let s : joined x.path said ≡ memory = cc in sym s;
  addr_is = let s : joined x.path (field_name said port (codes "addr")) ≡ addr = cc in sym s;
  en_is = let s : joined x.path (field_name said port (codes "en")) ≡ en = cc in sym s;
}
