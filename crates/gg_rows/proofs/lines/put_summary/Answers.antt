use Rattle.std.proofs.Common.{◌++◌, Err, refl}
use Rattle.gg_rows.specs.SummaryText.{fold_line, last_line, network_line, size_line}
use Rattle.gg_io.proofs.EndingLemmas.{exit-is}
use Rattle.gg_rows.proofs.LineLemmas.{Stands, prints-next, stands-more, stops-so}
use Rattle.gg_rows.proofs.lines.put_summary.Goals as goal

pub returns-in_err-put_line-clause-prints : goal.returns-in_err-put_line-clause-prints
returns-in_err-put_line-clause-prints g c =
    let s = c.args.sums.now in
    let one = size_line c.args.seed c.args.size in
    let two = network_line s.machines s.channels s.steps in
    let three = last_line s.fold.last_y s.fold.last_z in
    let four = fold_line s.fold.all_y s.fold.all_z in
    let a = c.args.out.now in
    let b = c.put_line.new.out in
    let ending = c.in_err-put_line.field-0.0 in
    stops-so g.K.Sink a b (one ++ two ++ three) four (Unit {0}) _ ending (exit-is c.from_residual.ensures.1)
    (stops-so g.K.Sink a b (one ++ two) three (Unit {0}) (Err ending) ending refl
    (stops-so g.K.Sink a b one two (Unit {0}) (Err ending) ending refl (c.in_err-put_line.ensures.prints one c.size_line.ensures)))

pub returns-in_err-put_line-2-clause-prints : goal.returns-in_err-put_line-2-clause-prints
returns-in_err-put_line-2-clause-prints g c =
    let s = c.args.sums.now in
    let one = size_line c.args.seed c.args.size in
    let two = network_line s.machines s.channels s.steps in
    let three = last_line s.fold.last_y s.fold.last_z in
    let four = fold_line s.fold.all_y s.fold.all_z in
    let a = c.args.out.now in
    let b = c.put_line-2.new.out in
    let ending = c.in_err-put_line-2.field-0.0 in
    let s1 : Stands g.K.Sink a c.put_line.new.out one = record { written = c.in_ok-put_line.ensures.prints one c.size_line.ensures; on = c.put_line.ensures.out } in
    stops-so g.K.Sink a b (one ++ two ++ three) four (Unit {0}) _ ending (exit-is c.from_residual-in_err-put_line-2.ensures.1)
    (stops-so g.K.Sink a b (one ++ two) three (Unit {0}) (Err ending) ending refl
    (prints-next g.K.Sink a c.put_line.new.out one two (Unit {0}) b (Err ending) s1 (c.in_err-put_line-2.ensures.prints two c.network_line.ensures)))

pub returns-in_err-put_line-3-clause-prints : goal.returns-in_err-put_line-3-clause-prints
returns-in_err-put_line-3-clause-prints g c =
    let s = c.args.sums.now in
    let one = size_line c.args.seed c.args.size in
    let two = network_line s.machines s.channels s.steps in
    let three = last_line s.fold.last_y s.fold.last_z in
    let four = fold_line s.fold.all_y s.fold.all_z in
    let a = c.args.out.now in
    let b = c.put_line-3.new.out in
    let ending = c.in_err-put_line-3.field-0.0 in
    let s1 : Stands g.K.Sink a c.put_line.new.out one = record { written = c.in_ok-put_line.ensures.prints one c.size_line.ensures; on = c.put_line.ensures.out } in
    let s2 = stands-more g.K.Sink a c.put_line.new.out one two c.put_line-2.new.out s1 (c.in_ok-put_line-2.ensures.prints two c.network_line.ensures) c.put_line-2.ensures.out in
    stops-so g.K.Sink a b (one ++ two ++ three) four (Unit {0}) _ ending (exit-is c.from_residual-in_err-put_line-3.ensures.1)
    (prints-next g.K.Sink a c.put_line-2.new.out (one ++ two) three (Unit {0}) b (Err ending) s2 (c.in_err-put_line-3.ensures.prints three c.last_line.ensures))

pub returns-clause-prints : goal.returns-clause-prints
returns-clause-prints g c =
    let s = c.args.sums.now in
    let one = size_line c.args.seed c.args.size in
    let two = network_line s.machines s.channels s.steps in
    let three = last_line s.fold.last_y s.fold.last_z in
    let four = fold_line s.fold.all_y s.fold.all_z in
    let a = c.args.out.now in
    let s1 : Stands g.K.Sink a c.put_line.new.out one = record { written = c.in_ok-put_line.ensures.prints one c.size_line.ensures; on = c.put_line.ensures.out } in
    let s2 = stands-more g.K.Sink a c.put_line.new.out one two c.put_line-2.new.out s1 (c.in_ok-put_line-2.ensures.prints two c.network_line.ensures) c.put_line-2.ensures.out in
    let s3 = stands-more g.K.Sink a c.put_line-2.new.out (one ++ two) three c.put_line-3.new.out s2 (c.in_ok-put_line-3.ensures.prints three c.last_line.ensures) c.put_line-3.ensures.out in
    prints-next g.K.Sink a c.put_line-3.new.out (one ++ two ++ three) four (Unit {0}) c.put_line-4.new.out c.put_line-4.result s3 (c.put_line-4.ensures.prints four c.fold_line.ensures)
