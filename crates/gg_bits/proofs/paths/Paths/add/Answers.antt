use Rattle.std.proofs.Common.{refl, sym, ◌∙◌}
use Rattle.gg_bits.proofs.PathLemmas.{found-path, missing-path}
use Rattle.gg_bits.proofs.paths.Paths.add.Goals as goal
use Rattle.gg_bits.proofs.paths.Paths.add.Goals.{in-Ok, in-Err}

pub returns-then-contains-clause-doubled : goal.returns-then-contains-clause-doubled
returns-then-contains-clause-doubled c =
    rw (← c.self.view_is) (λ _. found-path _ _ (sym c.contains.ensures ∙ c.if-contains.true), λ _. refl)

pub returns-clause-doubled : goal.returns-clause-doubled
returns-clause-doubled c =
    rw (← c.self.view_is) (
      elim c.match-insert.branch [ in-Ok w ↦ λ e. absurd (cc) | in-Err w ↦ λ e. absurd (cc) ],
      λ member. absurd (missing-path _ _ (sym c.contains.ensures ∙ c.if-contains.false) member),
    )
