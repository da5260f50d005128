use Rattle.std.proofs.Common.{◌∷◌, refl, ap₂, ◌∙◌}
use Rattle.std.proofs.lemmas.Option.{MatchOption-at_none}
use Rattle.gg_snap.specs.inside.Heading.{NotFirst, NotSecond}
use Rattle.gg_snap.specs.text.Standing.{pieces}
use Rattle.gg_snap.proofs.text.heading.read_heading.Goals as goal

pub returns-then-not-same_bytes-clause-refused : goal.returns-then-not-same_bytes-clause-refused
returns-then-not-same_bytes-clause-refused c = NotFirst refl c.cut_piece.result.0.now (pieces c.cut_piece.result.1.now) c.cut_piece.ensures.cut c.if-not-same_bytes.ensures.differ

pub returns-in_default-clause-refused : goal.returns-in_default-clause-refused
returns-in_default-clause-refused c =
    NotSecond refl c.cut_piece-2.result.0.now (pieces c.cut_piece-2.result.1.now) (c.cut_piece.ensures.cut ∙ ap₂ (λ x xs. x ∷ xs) c.if-not-same_bytes.ensures.same c.cut_piece-2.ensures.cut)
    (MatchOption-at_none _ _ c.in_default.is c.in_ok-cycle.ensures)
