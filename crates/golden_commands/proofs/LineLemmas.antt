-- Lines that are put one by one.
use Rattle.std.proofs.Common.{◌≡◌, ℕ, zero, suc, ◌+◌, ◌<◌, List, [], ◌∷◌, ◌++◌, length, take, get_or, refl, sym, ap, ◌∙◌, subst, append_assoc}
use Rattle.std.specs.Prelude.{Option, Result, Err, flat_map}
use Rattle.std.specs.Io.KnownBytes.{append_known}
use Rattle.gg_io.specs.declared.output.Sink
use Rattle.gg_io.specs.declared.endings.Ending.{Ending}
use Rattle.gg_cut_plan.specs.declared.plan.Machine.{Machine}
use Rattle.gg_cut_plan.specs.declared.plan.Plan.{Plan}
use Rattle.gg_cut_reference.specs.inside.PlanText.{channel_names, line_of_channel, line_of_machine, machine_names, plan_text}
use Rattle.gg_io.specs.Ends.{IsFront}
use Rattle.gg_cut_reference.proofs.TextLemmas.LineLemmas.{lines-more}
use Rattle.gg_io.specs.inside.Endings.{Prints, PrintsOn}
use Rattle.gg_io.specs.WentOn.{SinkWentOn}
use Rattle.gg_io.proofs.WritingLemmas.{on-then, prints-first, rose-earlier, stop-within, append_known-append}

-- the first lines are a front part of all lines
pub lines-front : {A : Type 0} (f : A → List ℕ) (xs : List A) (i : ℕ) → IsFront (flat_map f (take i xs)) (flat_map f xs)
lines-front f xs zero = (flat_map f xs, refl)
lines-front f [] (suc i) = ([], refl)
lines-front f (x ∷ xs) (suc i) =
    let front = lines-front f xs i in
    (front.0, append_assoc (f x) (flat_map f (take i xs)) front.0 ∙ ap (λ l. f x ++ l) front.1)

-- the first i lines are on the output sink, after what was there before
pub record LinesTo {A K : Type 0} (f : A → List ℕ) (xs : List A) (sink : Sink.Ghosts K) (out out' : K) (i : ℕ) : Type 0 where
  pub written : sink.written out' ≡ append_known (sink.written out) (flat_map f (take i xs))
  pub on : SinkWentOn sink out out'

module _ {A K : Type 0} {f : A → List ℕ} {xs : List A} {sink : Sink.Ghosts K} {out out' : K} {i : ℕ} (x : A) (lt : i < length xs) (is : get_or xs i x ≡ x) (so : LinesTo f xs sink out out' i) where
  lines-one : flat_map f (take i xs) ++ f x ≡ flat_map f (take (i + 1) xs)
  lines-one = ap (λ y. flat_map f (take i xs) ++ f y) (sym is) ∙ lines-more f xs i x lt

  -- one more line
  pub lines-next : {out'' : K} → sink.written out'' ≡ append_known (sink.written out') (f x) → SinkWentOn sink out' out'' → LinesTo f xs sink out out'' (i + 1)
  lines-next puts on = record {
    written =
        puts ∙ ap (λ w. append_known w (f x)) so.written ∙ append_known-append (sink.written out) (flat_map f (take i xs)) (f x)
        ∙ ap (append_known (sink.written out)) lines-one;
    on = on-then so.on on;
  }

  -- if a line stops, all lines stop there
  pub lines-stop : (out'' : K) {T : Type 0} {r : Result T Ending} {ending : Ending} → r ≡ Err ending → PrintsOn {T = T} sink out' out'' (f x) (Err ending)
      → PrintsOn sink out out'' (flat_map f xs) r
  lines-stop out'' {T = T} {ending = ending} e prints =
      rw e (stop-within T _ _ _ _ _ (flat_map f (take i xs)) (f x) (flat_map f xs) ending so.written (rose-earlier _ _ _ so.on.faults_stay_or_rise)
      (subst (λ l. IsFront l (flat_map f xs)) (sym lines-one) (lines-front f xs (i + 1))) prints)

-- if a plan's text stopped among the machines, the whole text stopped there
pub plan-first : (T : Type 0) (before now : Option (List ℕ)) (failed : Type 0) (machines : List Machine) (plan : Plan) (ending : Ending) → machines ≡ plan.machines
    → Prints {T = T} before now failed (flat_map line_of_machine machines) (Err ending) → Prints {T = T} before now failed (plan_text plan) (Err ending)
plan-first T before now failed machines plan ending e prints =
    prints-first T before now failed (flat_map line_of_machine plan.machines) (flat_map (line_of_channel (machine_names plan.machines) (channel_names plan.channels)) plan.channels) ending
    (subst (λ (ms : List Machine). Prints {T = T} before now failed (flat_map line_of_machine ms) (Err ending)) e prints)
