-- The part of a listed memory, cut once more, so that only the memory is left.
-- Source: ICCAD 2019 (memories of a target as models of their own); FIRRTL Specification, "Memories".
use Rattle.std.specs.Prelude.{◌≡◌, [], ◌∷◌, ◌++◌, map}
use Rattle.gg_flat_tree.specs.Clocked.{clocks_from}
use Rattle.gg_flat.specs.Line.{value_at}
use Rattle.gg_part.specs.Part.{IsPart}
use Rattle.gg_part.specs.Building.{AreHeld}
use Rattle.gg_part.specs.declared.part.Part.{Part}

-- A part of this part. It has the in-signals followed by the out-signals, which are the in-signals and out-signals of
-- the new part too, exactly the registers that these signals hold, the first memory, and all clocks, each under its number.
pub record IsCutAgain (part alone : Part) : Type 0 where
  pub is_part : IsPart part.piece alone.piece alone.globals alone.held alone.memories alone.clocks
  pub clocks : alone.clocks ≡ clocks_from 0 part.piece.clocks
  pub globals : alone.globals ≡ part.piece.ins ++ part.piece.outs
  pub ins : map (value_at alone.globals) alone.piece.ins ≡ part.piece.ins
  pub outs : map (value_at alone.globals) alone.piece.outs ≡ part.piece.outs
  pub memories : alone.memories ≡ 0 ∷ []
  pub held : AreHeld part.piece (part.piece.ins ++ part.piece.outs) part.piece.ins alone.held
