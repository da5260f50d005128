use Rattle.gg_trace.proofs.FirstLaws.{columns_have_no_fault}
use Rattle.gg_trace.proofs.FirstLaws.{one_first_fault as one_fault}
use Rattle.gg_trace.proofs.laws.one_first_fault.Goals as goal

pub returns : goal.returns
returns c = record {
  once = one_fault;
  apart = λ ports bytes n columns fault given first. columns_have_no_fault _ _ _ _ fault given first.1;
}
