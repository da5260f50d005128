use Rattle.std.proofs.Common.{[]}
use Rattle.golden_commands.proofs.CaseLemmas.{case-can}
use Rattle.golden_commands.proofs.WholePortLemmas.{fed-columns}
use Rattle.gg_rows.specs.TraceText.{demo_trace}
use Rattle.golden.proofs.demo.demo_fed.Goals as goal

pub returns-in-Ok : goal.returns-in-Ok
returns-in-Ok c =
    let case = c.in_ok-case.case in
    let trace = c.in-Ok.trace in
    record {
      case = c.in_ok-case.ensures;
      feeds = c.in-Ok.ensures.feeds;
      most = c.in-Ok.ensures.most;
      columns = fed-columns case.design case.cut.request [] (case-can c.in_ok-case.ensures) (demo_trace c.args.seed c.args.size) trace.rows trace.columns c.in-Ok.ensures.feeds.feeds c.in-Ok.ensures.widths;
    }
