use Rattle.golden.proofs.run.print_text.Goals as goal

pub returns-then-mono-clause-network : goal.returns-then-mono-clause-network
returns-then-mono-clause-network g c = λ off. let on = c.if-mono.true in absurd (cc)

pub returns-else-mono-clause-prints : goal.returns-else-mono-clause-prints
returns-else-mono-clause-prints g c = let printed = c.print_fed.ensures.prints in (printed.0, printed.1, printed.2)
