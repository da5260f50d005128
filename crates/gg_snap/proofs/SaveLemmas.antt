-- The states of a reference circuit can be saved.
use Rattle.std.proofs.Common.{◌≡◌, ℕ, zero, suc, ◌+◌, ◌-◌, ◌<◌, ◌≤◌, List, [], ◌∷◌, ◌++◌, codes, length, map, refl, sym, ap, ◌∙◌, subst, arith, ◌⊎◌, inl, inr}
use Rattle.std.specs.Prelude.{All}
use Rattle.std.proofs.lemmas.Bool.{cases_lt}
use Rattle.std.proofs.lemmas.List.Elements.{All-append, All-cons, All-head, All-nil, All-tail, All-weaker}
use Rattle.gg_flat.specs.declared.piece.Driver.{Driver}
use Rattle.gg_flat.specs.declared.piece.Driver.TheVariants.{Input, Held, MemoryWord, ReadRegister, Computed}
use Rattle.gg_flat.specs.Circuit.{FlatCircuit, driver_at}
use Rattle.gg_flat_tree.specs.Tree.{InstanceTree, IsTree, memory_at, path_at}
use Rattle.gg_flat.specs.WellFormed.{IsWellFormed, MayDrive}
use Rattle.gg_front.specs.inside.Paths.{HavePaths, IsPath, IsSignalPath, is_path_byte, is_signal_byte}
use Rattle.gg_cut_plan.specs.Held.{AreHeldOnce}
use Rattle.gg_cut_reference.specs.inside.Reference.{IsReference}
use Rattle.gg_cut_reference.specs.Reference.{Views}
use Rattle.gg_snap.specs.text.Known.{CanSave, IsPlain}
use Rattle.gg_snap.proofs.TextLemmas.FeedLemmas.{free-no, no-append, no-nil}
use Rattle.gg_snap.proofs.TextLemmas.SaveLemmas.{plain-path, tree-memories}
use Rattle.gg_flat.specs.Renaming.{renamed_driver, signals_by}

-- ---- paths

signal-plain : (path : List ℕ) → IsSignalPath path → IsPlain path
signal-plain path is = plain-path is_signal_byte path refl refl is.bytes

path-plain : (path : List ℕ) → IsPath path → IsPlain path
path-plain path is = plain-path is_path_byte path refl refl is.bytes

plain-at : (paths : List (List ℕ)) (c : ℕ) → All IsPlain paths → IsPlain (path_at paths c)
plain-at [] c all = (no-nil 32, no-nil 10)
plain-at (path ∷ paths) zero all = All-head IsPlain path paths all
plain-at (path ∷ paths) (suc c) all = plain-at paths c (All-tail IsPlain path paths all)

pipe-plain : (path : List ℕ) → IsPlain path → IsPlain (codes "pipe:" ++ path)
pipe-plain path plain = (
  no-append 32 (codes "pipe:") path (free-no 32 (codes "pipe:") (λ e. omega (arith, e), (λ e. omega (arith, e), (λ e. omega (arith, e), (λ e. omega (arith, e), (λ e. omega (arith, e), tt)))))) plain.0,
  no-append 10 (codes "pipe:") path (free-no 10 (codes "pipe:") (λ e. omega (arith, e), (λ e. omega (arith, e), (λ e. omega (arith, e), (λ e. omega (arith, e), (λ e. omega (arith, e), tt)))))) plain.1,
)

pipes-plain : (paths : List (List ℕ)) (pipes : List ℕ) → All IsPlain paths → All IsPlain (map (λ c. codes "pipe:" ++ path_at paths c) pipes)
pipes-plain paths [] all = All-nil IsPlain
pipes-plain paths (c ∷ pipes) all = All-cons IsPlain (codes "pipe:" ++ path_at paths c) (map (λ c. codes "pipe:" ++ path_at paths c) pipes) (pipe-plain (path_at paths c) (plain-at paths c all)) (pipes-plain paths pipes all)

-- ---- registers

held-by : (to : ℕ → ℕ) (d : Driver) (r : ℕ) → renamed_driver (signals_by to) d ≡ Held r → d ≡ Held r
held-by to (Input place) r e = cc
held-by to (Held register) r e = e
held-by to (MemoryWord memory reader addr en) r e = cc
held-by to (ReadRegister memory reader) r e = cc
held-by to (Computed line) r e = cc

same-register : (a b : ℕ) → Held a ≡ Held b → a ≡ b
same-register a b e = ap number e
  where
    number : Driver → ℕ
    number (Input place) = 0
    number (Held register) = register
    number (MemoryWord memory reader addr en) = 0
    number (ReadRegister memory reader) = 0
    number (Computed line) = 0

module _ (one all : FlatCircuit) (views : Views) (pipes : List ℕ) (reference : IsReference one all views pipes) (formed : IsWellFormed one) (tree : InstanceTree) (fitting : IsTree one tree) (once : AreHeldOnce one) (paths : HavePaths one tree) where
  own : (s r : ℕ) → s < length one.signals → driver_at all s ≡ Held r → driver_at one s ≡ Held r
  own s r lt holds = held-by (views.seen (views.maker s)) (driver_at one s) r (sym (reference.drivers s lt) ∙ holds)

  below : (s r : ℕ) → s < length one.signals → driver_at all s ≡ Held r → r < length one.registers
  below s r lt holds = (subst (MayDrive one s) (own s r lt holds) (formed.drivers s lt)).0

  above : (s r : ℕ) → length one.signals ≤ s → s < length all.signals → driver_at all s ≡ Held r → r ≡ length one.registers + (s - length one.signals)
  above s r le lt holds =
      let k = s - length one.signals in
      let low : k < length pipes = omega (arith, le, lt, reference.signals) in
      let at : length one.signals + k ≡ s = omega (arith, le) in
      same-register r (length one.registers + k) (sym holds ∙ ap (driver_at all) (sym at) ∙ reference.pipe_driver k low)

  held : (s t r : ℕ) → s < length all.signals → t < length all.signals → driver_at all s ≡ Held r → driver_at all t ≡ Held r → s ≡ t
  held s t r low high a b = by (cases_lt s (length one.signals)) (cases_lt t (length one.signals))
    where
      by : (s < length one.signals) ⊎ (length one.signals ≤ s) → (t < length one.signals) ⊎ (length one.signals ≤ t) → s ≡ t
      by (inl x) (inl y) = once s t r x y (own s r x a) (own t r y b)
      by (inl x) (inr y) = absurd (omega (arith, below s r x a, above t r y high b))
      by (inr x) (inl y) = absurd (omega (arith, below t r y b, above s r x low a))
      by (inr x) (inr y) = omega (arith, x, y, above s r x low a, above t r y high b)

  memories : (place : ℕ) → place < length tree.memories → (memory_at tree place).memory < length all.memories
  memories place lt = let known = tree-memories one tree fitting place lt in omega (arith, known, reference.memories)

  pub can-save : CanSave all tree
  can-save =
      let plain = All-weaker IsSignalPath IsPlain signal-plain one.paths paths.signals in
      record {
        held = held;
        memories = memories;
        once = fitting.once;
        plain = subst (All IsPlain) (sym reference.paths) (All-append IsPlain one.paths (map (λ c. codes "pipe:" ++ path_at one.paths c) pipes) plain (pipes-plain one.paths pipes plain));
        plain_memories = All-weaker IsPath IsPlain path-plain tree.memory_paths paths.memories;
      }
