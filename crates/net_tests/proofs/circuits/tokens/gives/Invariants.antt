use Rattle.net_tests.proofs.circuits.tokens.gives.Given as goal

-- a ledger of its own
abbrev pub ghosts-tokens_of : goal.ghosts-tokens_of
ghosts-tokens_of a = record { name = a.blank.name; parts = a.blank.parts }
