-- The data of memories: the machine of a memory makes them, and sees them as they are.
use Rattle.std.proofs.Common.{◌≡◌, ℕ, ◌<◌, List, [], length, Bool, sym, ◌∙◌, subst, inl, inr, ◌⊎◌}
use Rattle.std.specs.Prelude.{Contains}
use Rattle.gg_flat.specs.Circuit.{FlatCircuit, readers_at, reader_at}
use Rattle.gg_flat.specs.WellFormed.{IsWellFormed}
use Rattle.gg_flat_tree.specs.Tree.{InstanceTree, IsTree, memory_at}
use Rattle.gg_flat_tree.specs.Scoped.{IsScoped, memory_fields}
use Rattle.gg_partfile.specs.declared.request.BridgeEntry.{BridgeEntry}
use Rattle.gg_cut_plan.specs.declared.listed.Listed.{Listed}
use Rattle.gg_cut_plan.specs.Plan.{HasMemory}
use Rattle.gg_cut_split.specs.inside.Apart.{AreApart}
use Rattle.gg_cut_split.proofs.ClosedLemmas.KindLemmas.{word-field}
use Rattle.gg_cut_split.proofs.ClosedLemmas.ClosedLemmas.{fields-closed, words-made}
use Rattle.gg_cut_split.proofs.ClosedLemmas.TreeLemmas.{innermost-known}
use Rattle.gg_cut_plan.specs.Direct.{Hub, hub_of}
use Rattle.gg_cut_routes.proofs.RouteLemmas.{IsBase}
use Rattle.gg_cut_routes.proofs.ChoiceLemmas.{Made, Taken, inner-none, wire-made, ins-before}
use Rattle.gg_cut_reference.specs.Links.{maker_of, seen_by}
use Rattle.gg_cut_reference.proofs.SeenLemmas.{maker-inner, maker-wire, seen-own}

module _ (circuit : FlatCircuit) (tree : InstanceTree) (listed : Listed) (formed : IsWellFormed circuit) (fits : IsTree circuit tree) (scoped : IsScoped circuit tree) (apart : AreApart tree listed) (piped : ℕ → Bool) (entries : List BridgeEntry) (direct : Bool) (base : IsBase (hub_of circuit tree listed piped entries direct)) where
  abbrev the_hub : Hub
  the_hub = hub_of circuit tree listed piped entries direct

  abbrev word_of : ℕ → ℕ → ℕ
  word_of k r = (reader_at (readers_at circuit k) r).word

  word-free : (m k r : ℕ) → HasMemory tree listed m k → r < length (readers_at circuit k) → ¬ Taken the_hub base m (word_of k r)
  word-free m k r has lt taken = words-made circuit tree listed entries formed fits scoped apart m k r has lt taken

  pub word-plain : (m k r : ℕ) → HasMemory tree listed m k → r < length (readers_at circuit k) → seen_by (hub_of circuit tree listed piped entries direct) m (reader_at (readers_at circuit k) r).word ≡ (reader_at (readers_at circuit k) r).word
  word-plain m k r has lt = seen-own the_hub base m (word_of k r) (λ taken. word-free m k r has lt (ins-before the_hub base m (word_of k r) taken))

  pub word-maker : (m k r : ℕ) → HasMemory tree listed m k → r < length (readers_at circuit k) → maker_of (hub_of circuit tree listed piped entries direct) (reader_at (readers_at circuit k) r).word ≡ m
  word-maker m k r has lt = by (fields-closed circuit tree listed entries formed fits scoped apart m k (word_of k r) has field known)
    where
      field : Contains (memory_fields circuit k) (word_of k r)
      field = word-field circuit k r lt

      known : word_of k r < length circuit.signals
      known = innermost-known circuit tree fits (memory_at tree has.place).instance (word_of k r) (scoped.fields has.place (word_of k r) has.known (subst (λ n. Contains (memory_fields circuit n) (word_of k r)) (sym has.is) field)).own

      by : Made the_hub base m (word_of k r) ⊎ Taken the_hub base m (word_of k r) → maker_of the_hub (word_of k r) ≡ m
      by (inl (inl own)) = maker-inner the_hub base (word_of k r) (inner-none the_hub base (word_of k r) own.2) ∙ own.1
      by (inl (inr h)) = maker-wire the_hub base m (word_of k r) (wire-made the_hub base m (word_of k r) h)
      by (inr taken) = absurd (word-free m k r has lt taken)
