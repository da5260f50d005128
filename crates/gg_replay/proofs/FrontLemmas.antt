-- The log of a network, step by step.
use Rattle.std.proofs.Common.{◌≡◌, ◌≢◌, ℕ, ◌+◌, ◌-◌, ◌<◌, ◌++◌, List, [], ◌∷◌, Option, Some, None, length, sym, ap, subst, ◌∙◌, ⊎_elim, arith, get_or-set_same, get_or-set_other}
use Rattle.std.specs.Prelude.{take, slice_set, slice_index_or}
use Rattle.std.proofs.lemmas.Bool.{cases_eq}
use Rattle.std.proofs.lemmas.List.{length-set, take_more}
use Rattle.gg_flat.specs.Line.{value_at}
use Rattle.gg_flat.specs.Streams.{Flow}
use Rattle.gg_net.specs.declared.event.Event.{Event}
use Rattle.gg_net.specs.declared.event.Event.TheVariants.{Fire}
use Rattle.gg_net.specs.Network.{Network, Frame, wire_at, queue_at, puts, entered_by, entered}
use Rattle.gg_net.specs.Kept.{Kept, list_at}
use Rattle.gg_net.specs.Step.{facts_of, Step}
use Rattle.gg_net.proofs.RowLemmas.{fire-goes}
use Rattle.gg_net.specs.markings.Steps.{IsStep, Steps}
use Rattle.gg_net.proofs.MarkingsLemmas.GoesLemmas.{step-frame}
use Rattle.gg_net.proofs.MarkingsLemmas.PutsLemmas.{front-grows, step-others}
use Rattle.gg_net.proofs.MarkingsLemmas.StepsLemmas.{steps-more}
use Rattle.gg_replay.specs.inside.Log.{tokens_at, AreFronts, IsBehind}

-- equal `Fire` events give the token of the same channel
fired-same : (c d : ℕ) → Fire c ≡ Fire d → c ≡ d
fired-same c d same = cc

module _ (flow : Flow) (old : Network) (kept : Kept flow old) (log : List (List ℕ)) (fronts : AreFronts flow old log) (new : Network) where
  -- a step doesn't change the number of channels
  same-channels : (event : Event) → Step old event new → length new.wires ≡ length old.wires
  same-channels event step = ap (λ (frame : Frame). length frame.wires) (step-frame old event new step)

  -- no token has entered a channel at an event that isn't its `Fire`
  entered-others : (event : Event) → Step old event new → (c : ℕ) → c < length old.wires → event ≢ Fire c → entered new c ≡ entered old c
  entered-others event step c known other =
      ap (λ (frame : Frame). entered_by (wire_at frame.wires c).first (puts new c)) (step-frame old event new step)
      ∙ ap (entered_by (wire_at old.wires c).first) (step-others flow old kept event new c step known other)

  -- an event that isn't `Fire` puts no token, so the log is still right
  none-put : (event : Event) → ((c : ℕ) → event ≢ Fire c) → Step old event new → AreFronts flow new log
  none-put event other step =
      record {
        count = fronts.count ∙ sym (same-channels event step);
        each =
            λ c lt.
            let known : c < length old.wires = omega (arith, lt, same-channels event step) in
            fronts.each c known ∙ ap (λ n. take n (list_at flow.lists c)) (sym (entered-others event step c known (other c)));
      }

  -- `Fire` puts a token, and the log with this token is right
  one-put : (c token : ℕ) → Step old (Fire c) new → token ≡ value_at (queue_at new.queues c) (length (queue_at new.queues c) - 1) → AreFronts flow new (slice_set log c (tokens_at log c ++ token ∷ []))
  one-put c token step is =
      let known : c < length old.wires = (fire-goes (facts_of old) c step.ready).known in
      let longer : List ℕ = tokens_at log c ++ token ∷ [] in
      let grown : longer ≡ take (entered new c) (list_at flow.lists c) =
      ap (λ l. l ++ token ∷ []) (fronts.each c known) ∙ ap (λ x. take (entered old c) (list_at flow.lists c) ++ x ∷ []) is ∙ sym (front-grows flow old new kept c step) in
      record {
        count = length-set log c longer ∙ fronts.count ∙ sym (same-channels (Fire c) step);
        each =
            λ d lt.
            let known-old : d < length old.wires = omega (arith, lt, same-channels (Fire c) step) in
            ⊎_elim
            (λ (same : d ≡ c). subst (λ k. tokens_at (slice_set log c longer) k ≡ take (entered new k) (list_at flow.lists k)) (sym same) (get_or-set_same log c longer [] (omega (arith, known, fronts.count)) ∙ grown))
            (λ other. get_or-set_other log c d longer [] other ∙ fronts.each d known-old
            ∙ ap (λ n. take n (list_at flow.lists d)) (sym (entered-others (Fire c) step d known-old (λ same. other (sym (fired-same c d same))))))
            (cases_eq d c);
      }

module _ (flow : Flow) (new : Network) (log : List (List ℕ)) where
  -- after `Fire`, the log is right once the newest token of the channel's queue is added to it
  pub newest-added : (c token : ℕ) → IsBehind flow (Some (Fire c)) new log → token ≡ value_at (queue_at new.queues c) (length (queue_at new.queues c) - 1) → AreFronts flow new (slice_set log c (tokens_at log c ++ token ∷ []))
  newest-added c token behind is = one-put flow behind.before behind.kept log behind.fronts new c token behind.done is

  -- after any other event, the log is right as it is
  pub none-added : (event : Event) → IsBehind flow (Some event) new log → ((c : ℕ) → event ≢ Fire c) → AreFronts flow new log
  none-added event behind other = none-put flow behind.before behind.kept log behind.fronts new event other behind.done

-- some steps, and one more
pub one-more-step : (old now new : Network) (steps : List (Option Event)) (i : ℕ) → i < length steps → Steps old (take i steps) now → IsStep now (slice_index_or steps i None) new → Steps old (take (i + 1) steps) new
one-more-step old now new steps i within done step = subst (λ some. Steps old some new) (sym (take_more steps i None within)) (steps-more old (take i steps) now (slice_index_or steps i None) new done step)
