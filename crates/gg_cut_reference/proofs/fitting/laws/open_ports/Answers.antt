use Rattle.std.proofs.Common.{◌+◌, ◌-◌, length, arith}
use Rattle.gg_cut_plan.proofs.CountLemmas.{before-found}
use Rattle.gg_cut_reference.proofs.FittingLemmas.OpenLemmas.{ins-count, outs-count, undriven-is, unseen-is, in-place, out-place, outs-place, stop-unseen, stop-before}
use Rattle.gg_cut_reference.proofs.fitting.laws.open_ports.Goals as goal

pub returns-clause-ins : goal.returns-clause-ins
returns-clause-ins c = λ circuit tree request. ins-count circuit tree request

pub returns-clause-outs : goal.returns-clause-outs
returns-clause-outs c = λ circuit tree request. outs-count circuit tree request

pub returns-clause-undriven : goal.returns-clause-undriven
returns-clause-undriven c = λ circuit tree request p. undriven-is circuit tree request p

pub returns-clause-unseen : goal.returns-clause-unseen
returns-clause-unseen c = λ circuit tree request p lt. unseen-is circuit tree request p lt

pub returns-clause-input : goal.returns-clause-input
returns-clause-input c = λ circuit tree request p lt keeps. let at = in-place circuit tree request p lt keeps in (at.within, at.is)

pub returns-clause-output : goal.returns-clause-output
returns-clause-output c = λ circuit tree request p lt keeps. let at = out-place circuit tree request p lt keeps in (at.within, at.is)

pub returns-clause-stop : goal.returns-clause-stop
returns-clause-stop c = λ circuit tree request k. (stop-unseen circuit tree request (length circuit.outs - length tree.stops + k) (omega arith), stop-before circuit tree request k)

pub returns-clause-found : goal.returns-clause-found
returns-clause-found c = λ keeps n k lt. let found = before-found keeps n k lt in (found.place, found.known, found.kept, found.is)

pub returns-clause-left : goal.returns-clause-left
returns-clause-left c = λ circuit tree request p lt keeps. let at = outs-place circuit tree request p lt keeps in at.is
