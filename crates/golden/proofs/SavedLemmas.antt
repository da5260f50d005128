-- What `save` answers for the bytes of its files is one: the text, or what is reported for the trace.
use Rattle.std.proofs.Common.{◌≡◌, ◌⊎◌, ℕ, List, ◌≤◌, refl, sym, ap, ◌∙◌, subst, inl, inr, arith}
use Rattle.gg_cut_plan.specs.Bridges.{Models}
use Rattle.gg_flat.specs.Run.{IsRunFrom}
use Rattle.gg_order.proofs.RunsLemmas.UniqueLemmas.{IsRunFrom-once}
use Rattle.gg_cut_reference.specs.Follows.{plan_start}
use Rattle.gg_partfile.proofs.OnceLemmas.{request-once}
use Rattle.gg_snap.specs.text.Lines.{snap_text}
use Rattle.gg_io.specs.Order.{IsExactFile, IsJudgement, IsOnly, IsUniqueFile}
use Rattle.gg_io.specs.Said.{Said}
use Rattle.golden_commands.specs.Lines.{few_rows}
use Rattle.golden_commands.specs.Meaning.{Meaning, meant_reference, meant_values}
use Rattle.golden_commands.specs.Partition.{to_save}
use Rattle.golden_commands.specs.Run.{TellsTraceFor}
use Rattle.golden_commands.specs.RunText.{fed_ports}
use Rattle.golden_commands.specs.Saved.{CanBeSaved, HasRun, IsSavedText, TellsFew, save_limit, saved_file_for, state_before}
use Rattle.golden_commands.proofs.AloneLemmas.{run-alone}
use Rattle.golden.proofs.MeantLemmas.{meant-is, meant-ordered, meant-run, reference_order}
use Rattle.golden_commands.proofs.PartitionLemmas.{DesignsAgree}
use Rattle.golden_commands.proofs.TextLemmas.{OneFlat}
use Rattle.golden.proofs.TraceLemmas.{NoFault, OneFirstFault, fault-moved, trace-once, trace-status}

module _ (models : Models) (agree : DesignsAgree) where
  -- two runs of the same bytes
  module _ {circuit partition trace : List ℕ} (one other : Meaning) (rows others : List (List ℕ)) (x : HasRun (to_save models) circuit partition trace one rows) (y : HasRun (to_save models) circuit partition trace other others) where
    -- for `save` no bridge is asked for, so they are runs of the reference circuit
    alone-x : IsRunFrom (meant_reference other) (plan_start other.design other.request) other.columns other.cycles rows
    alone-x = run-alone other.design other.request (y.are.is.cuts.alone refl) models other.columns other.cycles rows (meant-run agree one other x.are y.are models rows x.run)

    alone-y : IsRunFrom (meant_reference other) (plan_start other.design other.request) other.columns other.cycles others
    alone-y = run-alone other.design other.request (y.are.is.cuts.alone refl) models other.columns other.cycles others y.run

    run-same : rows ≡ others
    run-same =
        IsRunFrom-once (meant_reference other) (reference_order other.design other.request) (plan_start other.design other.request) other.columns other.cycles rows others
        (meant-ordered y.are) alone-x alone-y

    limit-same : save_limit one rows ≡ save_limit other others
    limit-same = ap (λ (m : Meaning). save_limit m rows) (meant-is agree one other x.are y.are) ∙ ap (save_limit other) run-same

    saved-same : (at : ℕ) → snap_text (meant_values one) at (state_before one rows at) ≡ snap_text (meant_values other) at (state_before other others at)
    saved-same at =
        ap (λ (m : Meaning). snap_text (meant_values m) at (state_before m rows at)) (meant-is agree one other x.are y.are)
        ∙ ap (λ (r : List (List ℕ)). snap_text (meant_values other) at (state_before other r at)) run-same

  -- the text is the only one
  pub saved-only : {circuit partition trace : List ℕ} (meant : Meaning) (rows : List (List ℕ)) → HasRun (to_save models) circuit partition trace meant rows → (at : ℕ) → at ≤ save_limit meant rows
      → IsOnly (IsSavedText (to_save models) circuit partition at trace) (snap_text (meant_values meant) at (state_before meant rows at))
  saved-only {circuit} {partition} {trace} meant rows has at le = record { is = (meant, rows, has, le, refl); only = only }
    where
      only : (text : List ℕ) → IsSavedText (to_save models) circuit partition at trace text → text ≡ snap_text (meant_values meant) at (state_before meant rows at)
      only text (other, others, y, within, is) = is ∙ saved-same other meant others rows y has at

  -- ---- the trace

  module _ (flat : OneFlat) (one-fault : OneFirstFault) (none : NoFault) (circuit partition : List ℕ) (at : ℕ) where
    -- a trace with a run has no fault
    run-apart : (trace : List ℕ) (meant : Meaning) (rows : List (List ℕ)) (said : Said) → HasRun (to_save models) circuit partition trace meant rows → TellsTraceFor circuit partition trace said → ⊥
    run-apart trace meant rows said has (other, means, (request, asks, (fault, first, is))) =
        none (fed_ports meant.design.circuit meant.request) trace meant.cycles meant.columns fault has.are.is.feeds
        (fault-moved other meant.design.circuit request meant.request (flat circuit other meant.design.circuit means has.are.is.means.means) (request-once partition request meant.request asks has.are.is.cuts.asks) trace fault first)

    few-apart : (trace : List ℕ) (said other : Said) → TellsFew (to_save models) circuit partition at trace said → TellsTraceFor circuit partition trace other → ⊥
    few-apart trace said other (meant, rows, has, lt, is) told = run-apart trace meant rows other has told

    few-status : (trace : List ℕ) (said : Said) → TellsFew (to_save models) circuit partition at trace said → said.status ≡ 10
    few-status trace said (meant, rows, has, lt, is) = ap (λ (s : Said). s.status) is

    few-once : (trace : List ℕ) (said other : Said) → TellsFew (to_save models) circuit partition at trace said → TellsFew (to_save models) circuit partition at trace other → said ≡ other
    few-once trace said other (meant, rows, x, lt, is) (meant', rows', y, lt', is') = is ∙ ap (few_rows at) (limit-same meant meant' rows rows' x y) ∙ sym is'

    saved-apart : (trace : List ℕ) (said : Said) → CanBeSaved (to_save models) circuit partition at trace → TellsTraceFor circuit partition trace said ⊎ TellsFew (to_save models) circuit partition at trace said → ⊥
    saved-apart trace said (meant, rows, has, le) (inl told) = run-apart trace meant rows said has told
    saved-apart trace said (meant, rows, x, le) (inr (other, others, y, lt, is)) = omega (arith, le, lt, limit-same meant other rows others x y)

    saved-status : (trace : List ℕ) (said other : Said) → TellsTraceFor circuit partition trace said ⊎ TellsFew (to_save models) circuit partition at trace said → TellsTraceFor circuit partition trace other ⊎ TellsFew (to_save models) circuit partition at trace other
        → said.status ≡ other.status
    saved-status trace said other (inl a) (inl b) = trace-status flat one-fault none circuit partition trace said a ∙ sym (trace-status flat one-fault none circuit partition trace other b)
    saved-status trace said other (inl a) (inr b) = absurd (few-apart trace other said b a)
    saved-status trace said other (inr a) (inl b) = absurd (few-apart trace said other a b)
    saved-status trace said other (inr a) (inr b) = few-status trace said a ∙ sym (few-status trace other b)

    saved-judges : (trace : List ℕ) (said : Said) → TellsTraceFor circuit partition trace said ⊎ TellsFew (to_save models) circuit partition at trace said → IsJudgement said.status
    saved-judges trace said (inl told) = subst IsJudgement (sym (trace-status flat one-fault none circuit partition trace said told)) (inr (inr (inl refl)))
    saved-judges trace said (inr few) = subst IsJudgement (sym (few-status trace said few)) (inr (inr (inr (inr refl))))

    -- nothing is reported for a trace whose run can be saved, and all that is reported for another has the status of its fault, or that of
    -- a run that is too short
    pub saved_file-exact : (name : List ℕ) → IsExactFile (saved_file_for (to_save models) circuit partition at name)
    saved_file-exact name = record { apart = saved-apart; one_status = saved-status; judges = saved-judges }

    -- at most one thing is reported for it
    saved-once : (trace : List ℕ) (said other : Said) → TellsTraceFor circuit partition trace said ⊎ TellsFew (to_save models) circuit partition at trace said → TellsTraceFor circuit partition trace other ⊎ TellsFew (to_save models) circuit partition at trace other → said ≡ other
    saved-once trace said other (inl a) (inl b) = trace-once flat one-fault none circuit partition trace said other a b
    saved-once trace said other (inl a) (inr b) = absurd (few-apart trace other said b a)
    saved-once trace said other (inr a) (inl b) = absurd (few-apart trace said other a b)
    saved-once trace said other (inr a) (inr b) = few-once trace said other a b

    pub saved_file-unique : (name : List ℕ) → IsUniqueFile (saved_file_for (to_save models) circuit partition at name)
    saved_file-unique name = saved-once
