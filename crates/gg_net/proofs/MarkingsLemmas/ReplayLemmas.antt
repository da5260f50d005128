-- Replays: steps on markings one after another, of which none is refused.
use Rattle.std.proofs.Common.{◌≡◌, ℕ, suc, ◌+◌, ◌<◌, ◌++◌, List, [], ◌∷◌, Option, Some, None, length, refl, ap, subst, ◌∙◌, inl, inr, arith}
use Rattle.std.specs.Prelude.{Result, Ok, Err}
use Rattle.std.proofs.lemmas.List.{length_push}
use Rattle.gg_net.specs.declared.event.Event.{Event}
use Rattle.gg_net.specs.declared.event.StepRefusal.{StepRefusal}
use Rattle.gg_net.specs.markings.Marking.{Layout, Marking, marked_refusal, after}
use Rattle.gg_net.specs.markings.Goes.{Stopped, step_refusal, after_step, go_on, replayed_from}
use Rattle.gg_net.specs.inside.Counts.{counts_of, IsAllowed, CanRun, IsMarkingOf}
use Rattle.gg_net.specs.inside.Measure.{left}
use Rattle.gg_net.proofs.MarkingsLemmas.LeadLemmas.{Went, went}
use Rattle.gg_net.proofs.MarkingsLemmas.EndLemmas.{goes-or-ends, end-left}

ok-same : (one other : Marking) → ◌≡◌ {A = Result Marking Stopped} (Ok one) (Ok other) → one ≡ other
ok-same one other same = cc

-- a step before others that are done isn't refused
pub goes-past : (k : ℕ) (o : Option StepRefusal) (rest : Result Marking Stopped) (new : Marking) → go_on k o rest ≡ Ok new → (o ≡ None) × (rest ≡ Ok new)
goes-past k None rest new is = (refl, is)
goes-past k (Some cause) rest new is = let no : ◌≡◌ {A = Result Marking Stopped} (Err (record { step = k; cause = cause })) (Ok new) = is in cc

module _ (layout : Layout) where
  -- what follows on steps that are done begins where they lead
  replayed-behind : (k : ℕ) (old : Marking) (events more : List (Option Event)) (new : Marking) → replayed_from layout k old events ≡ Ok new → replayed_from layout k old (events ++ more) ≡ replayed_from layout (k + length events) new more
  replayed-behind k old [] more new is =
      ap (λ x. replayed_from layout k x more) (ok-same old new is) ∙ ap (λ n. replayed_from layout n new more) (let same : k ≡ k + 0 = omega arith in same)
  replayed-behind k old (event ∷ events) more new is =
      let past : (step_refusal layout old event ≡ None) × (replayed_from layout (suc k) (after_step layout old event) events ≡ Ok new) =
      goes-past k (step_refusal layout old event) (replayed_from layout (suc k) (after_step layout old event) events) new is in
      ap (λ o. go_on k o (replayed_from layout (suc k) (after_step layout old event) (events ++ more))) past.0
      ∙ replayed-behind (suc k) (after_step layout old event) events more new past.1
      ∙ ap (λ n. replayed_from layout n new more) (let same : suc k + length events ≡ k + suc (length events) = omega arith in same)

  -- one step that is done
  one-done : (k : ℕ) (old : Marking) (event : Event) → marked_refusal layout old event ≡ None → replayed_from layout k old (Some event ∷ []) ≡ Ok (after layout old event)
  one-done k old event free = ap (λ o. go_on k o (Ok (after layout old event))) free

  module _ (can : CanRun layout) where
    -- steps that are done keep counts allowed, and lower the measure by one each
    pub replayed-kept : (k : ℕ) (old : Marking) (events : List (Option Event)) (new : Marking) → IsMarkingOf layout old → IsAllowed layout (counts_of layout old) → replayed_from layout k old events ≡ Ok new
        → IsMarkingOf layout new × IsAllowed layout (counts_of layout new) × (length events + left layout (counts_of layout new) ≡ left layout (counts_of layout old))
    replayed-kept k old [] new shape allowed is =
        let same : old ≡ new = ok-same old new is in
        (subst (IsMarkingOf layout) same shape, subst (λ x. IsAllowed layout (counts_of layout x)) same allowed, omega (arith, ap (λ x. left layout (counts_of layout x)) same))
    replayed-kept k old (None ∷ events) new shape allowed is =
        absurd (no-step k (replayed_from layout (suc k) old events) new is)
      where
        no-step : (n : ℕ) (rest : Result Marking Stopped) (x : Marking) → go_on n (step_refusal layout old None) rest ≡ Ok x → ⊥
        no-step n rest x is = let none : ◌≡◌ {A = Option StepRefusal} (step_refusal layout old None) None = (goes-past n (step_refusal layout old None) rest x is).0 in cc
    replayed-kept k old (Some event ∷ events) new shape allowed is =
        let past : (marked_refusal layout old event ≡ None) × (replayed_from layout (suc k) (after layout old event) events ≡ Ok new) =
        goes-past k (marked_refusal layout old event) (replayed_from layout (suc k) (after layout old event) events) new is in
        let step : Went layout old event = went layout can old event shape allowed past.0 in
        let rest : IsMarkingOf layout new × IsAllowed layout (counts_of layout new) × (length events + left layout (counts_of layout new) ≡ left layout (counts_of layout (after layout old event))) =
        replayed-kept (suc k) (after layout old event) events new step.shape step.allowed past.1 in
        (rest.0, rest.1, omega (arith, rest.2, step.falls))

    module _ (k : ℕ) (old : Marking) (events : List (Option Event)) (new : Marking) (shape : IsMarkingOf layout old) (allowed : IsAllowed layout (counts_of layout old)) (is : replayed_from layout k old events ≡ Ok new) where
      kept : IsMarkingOf layout new × IsAllowed layout (counts_of layout new) × (length events + left layout (counts_of layout new) ≡ left layout (counts_of layout old))
      kept = replayed-kept k old events new shape allowed is

      pub longer-left : (more : Option Event) (next : Marking) → replayed_from layout k old (events ++ more ∷ []) ≡ Ok next → length events < left layout (counts_of layout old)
      longer-left more next longer =
          omega (arith, (replayed-kept k old (events ++ more ∷ []) next shape allowed longer).2, length_push events more)

      pub left-longer : length events < left layout (counts_of layout old) → (event : Event) × (next : Marking) × (replayed_from layout k old (events ++ Some event ∷ []) ≡ Ok next)
      left-longer lt =
          elim (goes-or-ends layout can new kept.0 kept.1) [
            | inl found ↦ (found.0, after layout new found.0, replayed-behind k old events (Some found.0 ∷ []) new is ∙ one-done (k + length events) new found.0 found.1)
            | inr ends ↦ absurd (omega (arith, lt, kept.2, end-left layout can, ap (λ x. left layout (counts_of layout x)) ends))
          ]
