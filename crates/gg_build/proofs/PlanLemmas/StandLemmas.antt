-- A listed memory of a plan can stand alone.
use Rattle.std.proofs.Common.{ℕ, [], ◌∷◌, ◌++◌}
use Rattle.gg_flat.specs.WellFormed.{IsWellFormed}
use Rattle.gg_part.specs.inside.Choice.{IsChoice}
use Rattle.gg_part.specs.declared.part.Part.{Part}
use Rattle.gg_part.proofs.FormedLemmas.{IsWellFormed-part}
use Rattle.gg_cut_plan.specs.declared.plan.Body.TheVariants.{Memory}
use Rattle.gg_memunit.specs.MemoryUnit.{IsMemoryPiece}
use Rattle.gg_build.specs.inside.Alone.{IsCutAgain}
use Rattle.gg_build.specs.inside.Given.{Given, IsBodyAt}
use Rattle.gg_build.proofs.PlanLemmas.GivenLemmas.{memory-at}
use Rattle.gg_build.proofs.PlanLemmas.ChosenLemmas.{chosen}
use Rattle.gg_build.proofs.PlanLemmas.AloneLemmas.{stands-alone}

module _ (given : Given) (m : ℕ) (part : Part) (body : IsBodyAt given m (Memory part)) where
  open given use {design}

  pub memory-formed : IsWellFormed part.piece
  memory-formed = IsWellFormed-part design.circuit part.piece part.globals part.held part.memories part.clocks given.can.design_is.formed body.2.is

  pub memory-chosen : IsChoice part.piece (part.piece.ins ++ part.piece.outs) part.piece.ins part.piece.outs (0 ∷ [])
  memory-chosen = let own = memory-at given m part body in chosen design.circuit part own.0 memory-formed body.2.is own.1

  pub memory-alone : (alone : Part) → IsCutAgain part alone → IsMemoryPiece alone.piece
  memory-alone alone is = let own = memory-at given m part body in stands-alone part alone own.0 memory-formed own.1 is
