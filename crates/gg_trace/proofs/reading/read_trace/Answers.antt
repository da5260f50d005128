use Rattle.std.proofs.Common.{subst, MatchResult}
use Rattle.std.proofs.lemmas.Result.{MatchResult-weaker}
use Rattle.gg_trace.specs.Trace.{Columns, IfFirstFault}
use Rattle.gg_trace.proofs.FirstLaws.{columns_have_no_fault, columns_have_widths, one_count, one_columns, first_or_memory, columns_or_memory}
use Rattle.gg_trace.proofs.reading.read_trace.Goals as goal

pub returns-clause-widths : goal.returns-clause-widths
returns-clause-widths c =
    let read = subst (λ ports. MatchResult c.read_lines.result (λ trace. Columns ports c.args.bytes.now trace.rows trace.columns) (IfFirstFault ports c.args.bytes.now)) c.as_slice.ensures c.read_lines.ensures in
    MatchResult-weaker c.read_lines.result read (λ trace good. columns_have_widths _ _ _ _ good) (λ given h. tt)

pub returns-clause-complete : goal.returns-clause-complete
returns-clause-complete c = λ n columns whole.
    let read = subst (λ ports. MatchResult c.read_lines.result (λ trace. Columns ports c.args.bytes.now trace.rows trace.columns) (IfFirstFault ports c.args.bytes.now)) c.as_slice.ensures c.read_lines.ensures in
    MatchResult-weaker c.read_lines.result read
    (λ trace good. (one_count _ _ _ n _ columns good whole, one_columns _ _ _ n _ columns good whole))
    (λ given h. columns_or_memory _ _ n columns given whole h)

pub returns-clause-due : goal.returns-clause-due
returns-clause-due c = λ first is.
    let read = subst (λ ports. MatchResult c.read_lines.result (λ trace. Columns ports c.args.bytes.now trace.rows trace.columns) (IfFirstFault ports c.args.bytes.now)) c.as_slice.ensures c.read_lines.ensures in
    MatchResult-weaker c.read_lines.result read
    (λ trace good. columns_have_no_fault _ _ _ _ first good is.1)
    (λ given h. first_or_memory _ _ given first h is)

pub returns-clause-clean : goal.returns-clause-clean
returns-clause-clean c =
    let read = subst (λ ports. MatchResult c.read_lines.result (λ trace. Columns ports c.args.bytes.now trace.rows trace.columns) (IfFirstFault ports c.args.bytes.now)) c.as_slice.ensures c.read_lines.ensures in
    MatchResult-weaker c.read_lines.result read (λ trace good fault. columns_have_no_fault _ _ _ _ fault good) (λ given h. tt)
