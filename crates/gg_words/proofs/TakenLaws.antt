-- If clap refuses nothing, a command is found, and each word that it requires was given.
use Rattle.std.proofs.Common.{◌≡◌, ℕ, Bool, cond, true, false, not, true≢false, List, [], ◌∷◌, Option, None, Some, is_some, refl, sym, ap, ◌∙◌, subst, inl, inr}
use Rattle.std.specs.Prelude.{◌&&◌, ◌||◌, find, option_and_then, option_map, slice_get}
use Rattle.std.specs.List.{list_all}
use Rattle.std.specs.Option.{option_map_or}
use Rattle.std.specs.Str.{bytes_eq}
use Rattle.std.proofs.lemmas.Bool.{and_parts, or_parts, not-false}
use Rattle.clap.specs.Walk.{Held, Names, Row, Rule, Text, arg_by_long, arg_by_short, first_of, finished, has_long, nothing_held, settled, stop_after, walk, walk_from}
use Rattle.clap.specs.Simple.{App, Shape, argument_words, built, entered, label_of, names_of, rows_at, subcommand_of}
use Rattle.clap.specs.Takes.{is_given}
use Rattle.clap.specs.Kinds.{Kinds, check_kinds, or_else}
use Rattle.clap.specs.Faults.{check_fault, defaults_fault, entered_fault, fault_of, level_fault, settle_fault, walk_fault}
use Rattle.clap.specs.Walk.{answers_to}
use Rattle.clap.specs.declared.error.kind.ErrorKind.{ErrorKind}
use Rattle.gg_words.specs.Line.{golden_app}
use Rattle.gg_words.specs.inside.Meaning.{HaveTexts, HasWords, run_files, replay_files, check_files, demo_numbers, save_words, resume_files}
use Rattle.gg_words.proofs.FileLaws.{AreFull, find-all, find-passes, full-finished, full-walk, has_value}

cons≢nil : (k : ErrorKind) (ks : Kinds) → k ∷ ks ≡ [] → ⊥
cons≢nil k ks e = true≢false (ap (λ (xs : Kinds). some xs) e)
  where
    some : Kinds → Bool
    some [] = false
    some (x ∷ xs) = true

none-both : (a b : Kinds) → or_else a b ≡ [] → (a ≡ []) × (b ≡ [])
none-both [] b e = (refl, e)
none-both (k ∷ ks) b e = absurd (cons≢nil k ks e)

is-there : (b : Bool) → (not b && true) ≡ false → b ≡ true
is-there true e = refl
is-there false e = absurd (true≢false e)

-- if a check refuses nothing, it has neither of these faults
check-none : (a b c : Bool) → check_kinds a b c ≡ [] → (b ≡ false) × (c ≡ false)
check-none true b c e = absurd (cons≢nil _ _ e)
check-none false true c e = absurd (cons≢nil _ _ e)
check-none false false true e = absurd (cons≢nil _ _ e)
check-none false false false e = (refl, refl)

-- if a level refuses nothing, neither does what is below it, nor its own check
level-none : (s : Shape) (names : Names) (h : Held) (words : List Text) (has : Bool) (below : Kinds) → level_fault s names h words has below ≡ []
    → (below ≡ []) × (check_fault s (finished s.rules (walk s.rules names h words).held) has ≡ [])
level-none s names h words has below e =
    let end = (walk s.rules names h words).held in
    let first = none-both (walk_fault s names (walk_from h) words) _ e in
    let second = none-both below _ first.1 in
    let third = none-both (settle_fault s.rules s.args_override_self end) _ second.1 in
    let fourth = none-both (defaults_fault (settled s.rules end).rows s.rules) _ third.1 in
    (second.0, fourth.1)

-- an argument that was given has a text
given-text : (id : Text) (rows : List Row) → AreFull id rows → is_given id rows ≡ true → is_some (first_of id rows) ≡ true
given-text id [] full given = absurd (true≢false (sym given))
given-text id (r ∷ rs) full given = go (bytes_eq r.id id) refl (given-text id rs full.1) given
  where
    first-there : (values : List Text) → has_value values ≡ true → is_some (slice_get values 0) ≡ true
    first-there [] e = absurd (true≢false (sym e))
    first-there (v ∷ vs) e = refl

    go : (b : Bool) → bytes_eq r.id id ≡ b → (is_given id rs ≡ true → is_some (first_of id rs) ≡ true)
        → option_map_or (λ (x : Row). Rattle.clap.specs.Facts.explicit_source x.source) (cond b (Some r) (find (λ (x : Row). bytes_eq x.id id) rs)) false ≡ true
        → is_some (option_and_then (λ (x : Row). slice_get x.values 0) (cond b (Some r) (find (λ (x : Row). bytes_eq x.id id) rs))) ≡ true
    go true is later h = first-there r.values (full.0 (Rattle.gg_words.proofs.FileLaws.same-text r.id id is))
    go false is later h = later h

-- the rule is a positional, or isn't this argument
abbrev is_apart : Text → Rule → Bool
is_apart id a = is_some a.index || not (bytes_eq a.id id)

apart : (id : Text) (a : Rule) (name : Text) → is_apart id a ≡ true → (not (is_some a.index) && has_long a name) ≡ true → a.id ≡ id → ⊥
apart id a name e long is = go (is_some a.index) (bytes_eq a.id id) e long (subst (λ t. bytes_eq a.id t ≡ true) is ((Rattle.std.proofs.lemmas.Slice.Eq.bytes_eq-Decides a.id a.id).1 refl))
  where
    go : (i b : Bool) → (i || not b) ≡ true → (not i && has_long a name) ≡ true → b ≡ true → ⊥
    go true b h k t = true≢false (sym k)
    go false true h k t = true≢false (sym h)
    go false false h k t = true≢false (sym t)

-- in a command without short options, a file that was given has a text
file-text : (id : Text) (c : List Rule) → list_all (is_apart id) c ≡ true → ((x : ℕ) → arg_by_short c x ≡ None) → (names : Names) (words : List Text)
    → is_given id (finished c (walk c names nothing_held words).held) ≡ true → is_some (first_of id (finished c (walk c names nothing_held words).held)) ≡ true
file-text id c all no_short names words given =
    let no_option : (name : Text) (a : Rule) → arg_by_long c name ≡ Some a → a.id ≡ id → ⊥ =
    λ name a found. apart id a name (find-all (λ (r : Rule). not (is_some r.index) && has_long r name) (is_apart id) c a found all) (find-passes (λ (r : Rule). not (is_some r.index) && has_long r name) c a found) in
    given-text id (finished c (walk c names nothing_held words).held)
    (full-finished id c (walk c names nothing_held words).held (full-walk id c no_option no_short names words (walk_from nothing_held) (tt, tt))) given

-- the commands as `clap` builds them
abbrev whole : App
whole = built golden_app

abbrev shape_at : List Shape → ℕ → Shape
shape_at ss i = Rattle.std.proofs.Common.get_or ss i golden_app.top

abbrev run_built : Shape
run_built = shape_at whole.subs 0

abbrev replay_built : Shape
replay_built = shape_at whole.subs 1

abbrev check_built : Shape
check_built = shape_at whole.subs 2

abbrev demo_built : Shape
demo_built = shape_at whole.subs 3

abbrev save_built : Shape
save_built = shape_at whole.subs 4

abbrev resume_built : Shape
resume_built = shape_at whole.subs 5

-- one of these files was not given
abbrev lacks : List Row → List Text → Bool
lacks rows [] = false
lacks rows (id ∷ ids) = not (is_given id rows) || lacks rows ids

-- none of these is an option
abbrev are_apart : List Rule → List Text → Bool
are_apart c [] = true
are_apart c (id ∷ ids) = list_all (is_apart id) c && are_apart c ids

-- if none of a command's files is missing, each has a text
file-texts : (c : List Rule) → ((x : ℕ) → arg_by_short c x ≡ None) → (words : List Text) (ids : List Text) → are_apart c ids ≡ true
    → lacks (finished c (walk c [] nothing_held words).held) ids ≡ false → HaveTexts ids (finished c (walk c [] nothing_held words).held)
file-texts c no_short words [] all none = tt
file-texts c no_short words (id ∷ ids) all none =
    let apart = and_parts (list_all (is_apart id) c) (are_apart c ids) all in
    let given = or_parts (not (is_given id (finished c (walk c [] nothing_held words).held))) (lacks (finished c (walk c [] nothing_held words).held) ids) none in
    (file-text id c apart.0 no_short [] words (not-false _ given.0), file-texts c no_short words ids apart.1 given.1)

-- if a command refuses nothing, none of its files is missing
none-lacking : (s : Shape) (words : List Text) (ids : List Text)
    → check_fault s (rows_at s words).1 false ≡ check_kinds false false (lacks (rows_at s words).1 ids)
    → level_fault s [] nothing_held words false [] ≡ [] → lacks (rows_at s words).1 ids ≡ false
none-lacking s words ids is e = (check-none false false (lacks (rows_at s words).1 ids) (sym is ∙ (level-none s [] nothing_held words false [] e).1)).1

run-texts : (words : List Text) → level_fault run_built [] nothing_held words false [] ≡ [] → HaveTexts run_files (rows_at run_built words).1
run-texts words e = file-texts run_built.rules (λ x. refl) words run_files refl (none-lacking run_built words run_files refl e)

replay-texts : (words : List Text) → level_fault replay_built [] nothing_held words false [] ≡ [] → HaveTexts replay_files (rows_at replay_built words).1
replay-texts words e = file-texts replay_built.rules (λ x. refl) words replay_files refl (none-lacking replay_built words replay_files refl e)

check-texts : (words : List Text) → level_fault check_built [] nothing_held words false [] ≡ [] → HaveTexts check_files (rows_at check_built words).1
check-texts words e = file-texts check_built.rules (λ x. refl) words check_files refl (none-lacking check_built words check_files refl e)

demo-texts : (words : List Text) → level_fault demo_built [] nothing_held words false [] ≡ [] → HaveTexts demo_numbers (rows_at demo_built words).1
demo-texts words e = file-texts demo_built.rules (λ x. refl) words demo_numbers refl (none-lacking demo_built words demo_numbers refl e)

save-texts : (words : List Text) → level_fault save_built [] nothing_held words false [] ≡ [] → HaveTexts save_words (rows_at save_built words).1
save-texts words e = file-texts save_built.rules (λ x. refl) words save_words refl (none-lacking save_built words save_words refl e)

resume-texts : (words : List Text) → level_fault resume_built [] nothing_held words false [] ≡ [] → HaveTexts resume_files (rows_at resume_built words).1
resume-texts words e = file-texts resume_built.rules (λ x. refl) words resume_files refl (none-lacking resume_built words resume_files refl e)

-- the command that is entered: the first of these whose test holds
abbrev entering : (run replay check demo save resume : Bool) → Option Shape
entering run replay check demo save resume = cond run (Some run_built) (cond replay (Some replay_built) (cond check (Some check_built) (cond demo (Some demo_built)
    (cond save (Some save_built) (cond resume (Some resume_built) None)))))

-- what the command that was entered requires
by-command : (words : List Text) (run replay check demo save resume : Bool)
    → option_map_or (λ (s : Shape). level_fault s [] nothing_held words false []) (entering run replay check demo save resume) [] ≡ []
    → is_some (option_map (λ (s : Shape). rows_at s words) (entering run replay check demo save resume)) ≡ true
    → HasWords (option_map (λ (s : Shape). rows_at s words) (entering run replay check demo save resume))
by-command words true replay check demo save resume none met = inl (refl, run-texts words none)
by-command words false true check demo save resume none met = inr (inl (refl, replay-texts words none))
by-command words false false true demo save resume none met = inr (inr (inl (refl, check-texts words none)))
by-command words false false false true save resume none met = inr (inr (inr (inl (refl, demo-texts words none))))
by-command words false false false false true resume none met = inr (inr (inr (inr (inl (refl, save-texts words none)))))
by-command words false false false false false true none met = inr (inr (inr (inr (inr (refl, resume-texts words none)))))
by-command words false false false false false false none met = absurd (true≢false (sym met))

entered-names : (stop : Option (Text × List Text)) → entered_fault whole stop ≡ [] → is_some (entered whole stop) ≡ true → HasWords (entered whole stop)
entered-names None none met = absurd (true≢false (sym met))
entered-names (Some p) none met =
    by-command p.1 (answers_to p.0 (label_of run_built)) (answers_to p.0 (label_of replay_built)) (answers_to p.0 (label_of check_built)) (answers_to p.0 (label_of demo_built))
    (answers_to p.0 (label_of save_built)) (answers_to p.0 (label_of resume_built)) none met

pub taken-names : (words : List Text) → fault_of golden_app words ≡ [] → HasWords (subcommand_of golden_app words)
taken-names words e =
    let stop = stop_after whole.top.rules (names_of whole) (argument_words golden_app words) in
    let parts = level-none whole.top (names_of whole) nothing_held (argument_words golden_app words) (is_some (entered whole stop)) (entered_fault whole stop) e in
    entered-names stop parts.0 (is-there _ (check-none _ _ false parts.1).0)
