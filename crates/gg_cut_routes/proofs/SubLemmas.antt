-- A choice with fewer signals: what stays is chosen where it names only what stays.
use Rattle.std.proofs.Common.{◌≢◌, ℕ, ◌<◌, List, length, get_or}
use Rattle.std.specs.Prelude.{Contains, AllPairs}
use Rattle.std.proofs.lemmas.List.Elements.{All-contains, Contains-get_or}
use Rattle.gg_flat.specs.Circuit.{FlatCircuit, driver_at, readers_at, reader_at}
use Rattle.gg_flat_tree.specs.Scoped.{memory_fields}
use Rattle.gg_part.specs.inside.Choice.{IsChoice}
use Rattle.gg_cut_plan.specs.Direct.{driver_names}
use Rattle.gg_cut_routes.proofs.NameLemmas.{driver-named, held-named}

-- `mine`, `ins` and `outs` stay of a choice.
pub record IsSub (whole : FlatCircuit) (globals entries memories mine ins outs : List ℕ) : Type 0 where
  pub within : (s : ℕ) → Contains mine s → Contains globals s
  pub once : AllPairs (λ a b. a ≢ b) mine
  pub taken : (s : ℕ) → Contains ins s → Contains mine s
  pub entered : (s : ℕ) → Contains ins s → Contains entries s
  pub ins_once : AllPairs (λ a b. a ≢ b) ins
  pub outside : (s : ℕ) → Contains mine s → Contains entries s → Contains ins s
  pub exits : (s : ℕ) → Contains outs s → Contains mine s
  pub closed : (s t : ℕ) → Contains mine s → ¬ Contains entries s → Contains (driver_names whole (driver_at whole s)) t → Contains globals t → Contains mine t
  pub fields : (k s : ℕ) → Contains memories k → Contains (memory_fields whole k) s → Contains globals s → Contains mine s

pub sub-choice : (whole : FlatCircuit) (globals entries exits memories mine ins outs : List ℕ) → IsChoice whole globals entries exits memories → IsSub whole globals entries memories mine ins outs → IsChoice whole mine ins outs memories
sub-choice whole globals entries exits memories mine ins outs choice sub =
    record {
      within = λ i d lt. All-contains (λ s. s < length whole.signals) globals (get_or mine i d) choice.within (sub.within (get_or mine i d) (Contains-get_or mine i d lt));
      once = sub.once;
      ins = λ i d lt. sub.taken (get_or ins i d) (Contains-get_or ins i d lt);
      ins_once = sub.ins_once;
      outs = λ i d lt. sub.exits (get_or outs i d) (Contains-get_or outs i d lt);
      given = λ s place e h. sub.outside s h (choice.given s place e (sub.within s h));
      closed = λ s t h free named.
          sub.closed s t h (λ e. free (sub.outside s h e)) (driver-named whole (driver_at whole s) t named)
          (choice.closed s t (sub.within s h) (λ e. free (sub.outside s h e)) named);
      registers = λ s r t register h free held found named.
          sub.closed s t h (λ e. free (sub.outside s h e)) (held-named whole (driver_at whole s) r t register held found named)
          (choice.registers s r t register (sub.within s h) (λ e. free (sub.outside s h e)) held found named);
      memory_within = choice.memory_within;
      memories_once = choice.memories_once;
      banks = λ s k h free named. choice.banks s k (sub.within s h) (λ e. free (sub.outside s h e)) named;
      fields = λ k s h field. sub.fields k s h field (choice.fields k s h field);
      answers = λ k r h lt entered. choice.answers k r h lt (sub.entered (reader_at (readers_at whole k) r).word entered);
    }
