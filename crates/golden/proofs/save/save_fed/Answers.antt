use Rattle.golden.proofs.UptoLemmas.{cut-upto}
use Rattle.golden.proofs.save.save_fed.Goals as goal

pub save_upto-requires-clause-fed : goal.save_upto-requires-clause-fed
save_upto-requires-clause-fed g c κs within =
    let r = c.requires.fed in
    (r.0, r.1, r.2, r.3, c.args.fed, r.4, c.rows-cycles.ensures.count, cut-upto c.args.fed c.args.at c.rows-cycles.result c.min.result c.upto-fed.result c.rows-cycles.ensures.count c.min.ensures c.upto-fed.ensures)

pub returns-clause-ended : goal.returns-clause-ended
returns-clause-ended g c = λ circuit partition trace capacity is.
    c.save_upto.ensures.ended circuit partition trace capacity c.args.fed is c.rows-cycles.ensures.count
    (cut-upto c.args.fed c.args.at c.rows-cycles.result c.min.result c.upto-fed.result c.rows-cycles.ensures.count c.min.ensures c.upto-fed.ensures)
