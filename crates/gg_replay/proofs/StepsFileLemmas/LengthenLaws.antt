-- A text can be lengthened by any line.
use Rattle.std.proofs.Common.{ℕ, ◌+◌, ◌≤◌, List, [], ◌∷◌, ◌++◌, length, refl, sym, ap, ◌∙◌, subst, inl, inr, arith, append_assoc}
use Rattle.gg_trace.specs.Fields.{text_lines}
use Rattle.gg_trace.specs.inside.Lined.{AreLines, HasNoFeed, IsEnded, IsLastLine}
use Rattle.gg_trace.proofs.LinedLaws.{are_lines, lines_are}
use Rattle.gg_replay.specs.inside.Spelling.{IsLine}
use Rattle.gg_replay.specs.steps_file.Spelling.{IsLengthened}

-- These bytes behind the text make one more line of it.
record IsAdded (text line added : List ℕ) (lines : List (List ℕ)) : Type 0 where
  few : length added ≤ length line + 2
  are : AreLines (text ++ added) (lines ++ line ∷ [])

module _ (line : List ℕ) (is : IsLine line) where
  alone : AreLines line (line ∷ [])
  alone = inl (record { some = is.some; plain = is.inline; is = refl; last = refl })

  -- a last line without a line end gets one
  behind-last : (text last : List ℕ) (more : List (List ℕ)) → IsLastLine text last more → IsAdded text line (13 ∷ 10 ∷ line) (last ∷ more)
  behind-last text last more at =
      record {
        few = omega arith;
        are = inr (
          line,
          record { end = 13 ∷ 10 ∷ []; whole = ap (λ t. t ++ 13 ∷ 10 ∷ line) (sym at.is); plain = subst HasNoFeed (sym at.is) at.plain; is_end = inl refl },
          subst (λ others. AreLines line (others ++ line ∷ [])) (sym at.last) alone,
        );
      }

  -- a line with its line end stays as it is
  behind-ended : (text first rest added : List ℕ) (more : List (List ℕ)) → IsEnded text first rest → IsAdded rest line added more → IsAdded text line added (first ∷ more)
  behind-ended text first rest added more ended at =
      record {
        few = at.few;
        are = inr (
          rest ++ added,
          record {
            end = ended.end;
            whole = ap (λ t. t ++ added) ended.whole ∙ append_assoc first (ended.end ++ rest) added ∙ ap (λ t. first ++ t) (append_assoc ended.end rest added);
            plain = ended.plain;
            is_end = ended.is_end;
          },
          at.are,
        );
      }

  behind : (text : List ℕ) (lines : List (List ℕ)) → AreLines text lines → (added : List ℕ) × IsAdded text line added lines
  behind text [] none = (line, record { few = omega arith; are = subst (λ t. AreLines (t ++ line) (line ∷ [])) (sym none) alone })
  behind text (last ∷ more) (inl at) = (13 ∷ 10 ∷ line, behind-last text last more at)
  behind text (first ∷ more) (inr (rest, ended, others)) =
      let found = behind rest more others in
      (found.0, behind-ended text first rest found.0 more ended found.1)

  pub lengthened : (text : List ℕ) → (longer : List ℕ) × IsLengthened text line longer
  lengthened text =
      let found = behind text (text_lines text) (lines_are text) in (
        text ++ found.0,
        record { added = found.0; whole = refl; few = found.1.few; lines = sym (are_lines (text ++ found.0) (text_lines text ++ line ∷ []) found.1.are) },
      )
