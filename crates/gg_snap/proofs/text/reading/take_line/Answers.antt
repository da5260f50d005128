use Rattle.std.proofs.Common.{◌≢◌, ◌≤◌, ◌<◌, ◌^◌, ◌+◌, ℕ, refl, sym, ap, ◌∙◌, subst}
use Rattle.std.proofs.lemmas.Option.{MatchOption-at_none, MatchOption-at_some}
use Rattle.gg_snap.specs.declared.text.reading.Cursor.{Cursor}
use Rattle.gg_snap.specs.declared.text.row.Row.{Row}
use Rattle.gg_snap.specs.inside.Draft.{with_value}
use Rattle.gg_snap.specs.text.Known.{IsKnown}
use Rattle.gg_snap.specs.text.Lines.{line_of}
use Rattle.gg_snap.specs.inside.Places.{behind}
use Rattle.gg_snap.proofs.TextLemmas.DraftLemmas.{has-value}
use Rattle.gg_snap.proofs.TextLemmas.FindLemmas.{none-here, row-known, skips-line, skips-taken, taken-here}
use Rattle.gg_snap.proofs.text.reading.take_line.Goals as goal

pub returns-in_default-2-clause-refused : goal.returns-in_default-2-clause-refused
returns-in_default-2-clause-refused c =
    let rows = c.args.rows.now in
    let line = c.args.line.now in
    let found = c.in-Some.ensures in
    let none = MatchOption-at_none _ _ c.in_default-2.is c.in_ok-address.ensures in
    skips-line line (behind rows c.args.cursor.now) (behind rows c.find.new.cursor) found.skips
    (none-here c.requires.known.0 rows c.requires.known.1 c.find.new.cursor c.index-rows-cursor.result found.within line c.in-Some.rest.now (found.head c.index-rows-cursor.result)
    (subst (λ (r : Row). (address value : ℕ) → c.find.new.cursor.address ≤ address → address < r.count → 0 < value → value < 2 ^ r.width → line ≢ line_of r address value) c.index-rows-cursor.is none))

pub set-requires : goal.set-requires
set-requires c =
    let rows = c.args.rows.now in
    let found = c.in-Some.ensures in
    let circuit = c.requires.known.0 in
    let row = c.index-rows-cursor.result in
    let known = subst (IsKnown circuit) (sym c.index-rows-cursor.is) (row-known circuit rows c.requires.known.1 c.find.new.cursor row found.within c.args.line.now) in
    let some = MatchOption-at_some _ _ _ c.in-Some-2.is c.in_ok-address.ensures in
    has-value circuit c.args.draft.now c.requires.known.2 row.width row.count c.in-Some-2.address row.at known.at some.1

pub returns-clause-taken : goal.returns-clause-taken
returns-clause-taken c =
    let rows = c.args.rows.now in
    let line = c.args.line.now in
    let found = c.in-Some.ensures in
    let some = MatchOption-at_some _ _ _ c.in-Some-2.is c.in_ok-address.ensures in
    let next : Cursor = record { row = c.find.new.cursor.row; address = c.in-Some-2.address + 1 } in
    let row = c.index-rows-cursor.result in
    let is = c.index-rows-cursor.is in
    skips-taken line (behind rows c.args.cursor.now) (behind rows c.find.new.cursor) (behind rows next) c.args.draft.now c.set.new.self found.skips
    (taken-here c.requires.known.0 rows c.requires.known.1 c.find.new.cursor row found.within line next c.args.draft.now c.set.new.self c.in-Some-2.address c.in-Some-2.value some.0
    (subst (λ (r : Row). c.in-Some-2.address < r.count) is some.1) some.2 (subst (λ (r : Row). c.in-Some-2.value < 2 ^ r.width) is some.3) (some.4 ∙ ap (λ (r : Row). line_of r c.in-Some-2.address c.in-Some-2.value) is)
    (c.set.ensures ∙ ap (λ (r : Row). with_value c.args.draft.now r.at c.in-Some-2.address c.in-Some-2.value) is) refl)
