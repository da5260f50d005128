use Rattle.std.proofs.Common.{length, sym, ◌∙◌, ap, ap₂, arith}
use Rattle.gg_cut_plan.specs.Hosts.{host_of, leader}
use Rattle.gg_cut_plan.specs.inside.Machines.{Counts}
use Rattle.gg_cut_parts.proofs.DraftLemmas.{draft-units}
use Rattle.gg_cut_machines.proofs.hosts.hosts_of.Goals as goal

pub leaders_of-requires-clause-numbering : goal.leaders_of-requires-clause-numbering
leaders_of-requires-clause-numbering c = ap (λ (n : Counts). n.units) (c.numbering.ensures ∙ c.requires.draft.ends.numbers) ∙ draft-units c.args.draft.now c.requires.draft ∙ sym (ap length c.as_slice-units.ensures)

pub leaders_of-requires-clause-units : goal.leaders_of-requires-clause-units
leaders_of-requires-clause-units c = omega (arith, c.requires.units, ap length c.as_slice-units.ensures)

pub returns : goal.returns
returns c =
    let leaders = c.in_ok-leaders.ensures in
    let numbers = c.in_ok-numbers.ensures in
    let many = ap length c.deref.ensures.value in
    record {
      leaders_many = leaders.count;
      numbers_many = numbers.count ∙ many ∙ leaders.count;
      first = λ m lt. leaders.leaders m lt ∙ ap₂ (λ u s. leader u s m) c.as_slice-units.ensures c.as_slice-share.ensures;
      host = λ m lt. numbers.hosts m (omega (arith, lt, many, leaders.count)) ∙ ap₂ (λ u s. host_of u s m) c.as_slice-units.ensures c.as_slice-share.ensures;
    }
