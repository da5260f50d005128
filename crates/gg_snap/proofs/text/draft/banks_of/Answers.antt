use Rattle.std.proofs.Common.{rules, sym, ◌∙◌}
use Rattle.std.proofs.lemmas.List.{map-id}
use Rattle.std.proofs.lemmas.Iterator.Adapters.{YieldsList-from_vec}
use Rattle.std.proofs.lemmas.Iterator.Consumers.{YieldsList-end}
use Rattle.gg_snap.proofs.text.draft.banks_of.Goals as goal

pub returns : goal.returns
returns c =
    c.loop-bank.invariant ∙ sym (map-id c.loop-bank.yielded)
    ∙ (YieldsList-end (YieldsList-from_vec {s = c.into_iter-bank-iterator.result} c.args.filled.items (search rules) (search rules)) c.loop-bank.yielded c.loop-bank.bank-iterator c.loop-bank.yielded_by c.next.result c.next.new.self c.in-None.is c.next.ensures.steps).0
