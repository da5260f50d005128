use Rattle.std.proofs.Common.{ℕ, ◌+◌, ◌^◌, ◌<◌, List, length, arith}
use Rattle.gg_cut_split.proofs.ClosedLemmas.FaultlessLemmas.{faultless-few}
use Rattle.gg_cut_pipes.specs.inside.CanPipe.{CanPipe}
use Rattle.golden_commands.specs.Case.{IsCase}
use Rattle.golden_commands.specs.Partition.{Known}
use Rattle.golden_commands.specs.declared.case.Case.{Case}
use Rattle.golden_commands.proofs.CaseLemmas.{case-faultless, case-fresh}
use Rattle.golden_commands.proofs.SizeLemmas.{few-signals}
use Rattle.golden_commands.proofs.whole.reference_of.Goals as goal

-- F15 limits the signals, and P9 the channels
few-both : {known : Known} {circuit partition : List ℕ} {capacity : ℕ} {case : Case} → IsCase known circuit partition capacity case → length case.design.circuit.signals + length case.cut.plan.channels < 2 ^ 32
few-both {circuit = circuit} {case = case} is =
    let design = case.design in
    let request = case.cut.request in
    let signals = few-signals circuit design.circuit is.means.means in
    let channels = (faultless-few design request (case-faultless is)).channels in
    let total = is.planned.channel_total in
    omega (arith, signals, channels, total)

abbrev can-pipe : {known : Known} {circuit partition : List ℕ} {capacity : ℕ} {case : Case} → IsCase known circuit partition capacity case → CanPipe case.design case.cut.plan
can-pipe {known = known} {capacity = capacity} {case = case} is =
    record { request = case.cut.request; models = known.models; default = capacity; keeps = is.keeps; held = is.held; whole = is.whole; fresh = case-fresh is; none = case-faultless is; is = is.planned; few = few-both is }

pub pipe-requires : goal.pipe-requires
pipe-requires c = can-pipe c.requires.4

pub returns-clause-circuit : goal.returns-clause-circuit
returns-clause-circuit c = c.in_ok-made.ensures.circuit (can-pipe c.requires.4)
