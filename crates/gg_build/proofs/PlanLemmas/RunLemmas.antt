-- The reference circuit in the run of a plan: its own run, and the columns that channels have in it.
use Rattle.std.proofs.Common.{◌≡◌, ℕ, ◌<◌, length, take, get_or, sym, ◌∙◌, ap, subst, arith}
use Rattle.gg_flat.specs.Run.{column}
use Rattle.gg_cut_plan.specs.declared.plan.Channel.{Channel}
use Rattle.gg_cut_plan.specs.Channels.{wire}
use Rattle.gg_cut_plan.specs.Direct.{is_piped}
use Rattle.gg_cut_plan.specs.Plan.{wire_at as link_at}
use Rattle.gg_cut_plan.specs.Solves.{AreRows, columns_of, stream}
use Rattle.gg_cut_reference.specs.Links.{taken_as}
use Rattle.gg_cut_reference.specs.Made.{plan_reference}
use Rattle.gg_cut_reference.specs.inside.Follows.{given_column}
use Rattle.gg_cut_reference.proofs.PlanLemmas.{plan-kept, rows-given, rows-taken}
use Rattle.gg_build.specs.inside.Given.{Given, cut_of, run_of}
use Rattle.gg_build.proofs.PlanLemmas.GivenLemmas.{is-routed, no-fault, runs-whole}
use Rattle.gg_build.proofs.PlanLemmas.RowLemmas.{front-columns, reference-many}

module _ (given : Given) where
  open given use {design, request, plan, n, start, rows, can}
  open cut_of design request use {hub, wires}
  open run_of given use {own, fed, count, token}

  pub reference-run : AreRows (plan_reference design request) start fed n own
  reference-run = (runs-whole given).reference

  -- the design's signals are signals of the reference circuit
  pub below : (s : ℕ) → s < length design.circuit.signals → s < count
  below s lt = omega (arith, lt, reference-many given)

  -- ---- columns of channels

  -- a plan's channel has the signal of its link
  pub channel-signal : (c : ℕ) (any : Channel) → c < length plan.channels → (get_or plan.channels c any).signal ≡ (link_at wires c).signal
  channel-signal c any lt = (given.planned.channel c any lt).signal

  -- columns of channels are those in the reference circuit
  pub own-columns : columns_of plan rows ≡ columns_of plan own
  own-columns =
      front-columns count plan.channels rows (λ c any lt.
      let low : c < length wires = omega (arith, lt, given.planned.channel_total) in
      subst (λ s. s < count) (sym (channel-signal c any lt)) (below (link_at wires c).signal ((is-routed given).known c (wire 0 0 0) low)))

  -- the signal of a channel has the column of what is given
  pub column-given : (c : ℕ) → c < length wires → column own (link_at wires c).signal ≡ given_column hub own c
  column-given c lt = rows-given design request can.design_is can.keeps given.held (no-fault given) start given.typed fed n own reference-run c lt

  -- what the consumer takes is the column of the signal by which it is taken
  pub column-taken : (c : ℕ) → c < length wires → let s = (link_at wires c).signal in take n (stream start.cycle (token s) (is_piped design.circuit request s) (column own s)) ≡ column own (taken_as hub s)
  column-taken c lt =
      sym (rows-taken design request can.design_is can.keeps given.held (no-fault given) start given.typed fed n own reference-run c lt)
      ∙ ap (column own) (plan-kept design request can.design_is can.keeps given.held (no-fault given) c lt)
