-- The kinds with which `clap` may refuse words: all of them are for a word, or none is.
use Rattle.std.proofs.Common.{◌≡◌, ◌≢◌, ◌⊎◌, ℕ, Bool, cond, true, false, not, true≢false, zero, suc, List, [], ◌∷◌, Option, None, Some, is_some, refl, sym, ap, ◌∙◌, subst, inl, inr, length, drop, codes, ⊎_elim}
use Rattle.std.specs.Prelude.{◌&&◌, ◌||◌, ◌==◌, find, nat_lt, encode_utf8, slice_get}
use Rattle.std.specs.List.{list_any}
use Rattle.std.specs.Option.{option_map_or}
use Rattle.std.specs.Str.{bytes_eq, chars}
use Rattle.clap.specs.Facts.{parser_of_value, unwrap_or_range}
use Rattle.clap.specs.ValueTests.{accepts}
use Rattle.clap.specs.Values.{refused_kind}
use Rattle.clap.specs.Lexer.{long_of, short_of}
use Rattle.clap.specs.Walk.{Held, Names, next, trailing, subcommand, value, is_empty, has_row, Row, Rule, Step, Text, Walk, action_of, answers_to, arg_by_id, arg_by_index, arg_by_long, arg_by_short, attached_value, is_pending, most_values, nothing_held, reacted, settled, stop_after, subcommand_met, takes_several, takes_values, values_or_missing, walk, walk_from, walked, with_default, word_met}
use Rattle.clap.specs.Simple.{App, Shape, argument_words, built, entered, label_of, names_of}
use Rattle.clap.specs.Kinds.{IsAmong, Kinds, check_kinds, or_else, range_kinds, request_kinds, value_kinds, values_kinds}
use Rattle.clap.specs.Faults.{is_simple_and_free, action_fault, bundle_fault, bundle_step_fault, count_fault, default_fault, defaults_fault, entered_fault, fault_of, flag_word_fault, flags_fault, level_fault, long_fault, option_fault, other_fault, positional_fault, react_fault, repeat_fault, set_fault, settle_fault, short_fault, step_fault, stray_fault, turn_fault, use_fault, values_fault, walk_fault, word_fault}
use Rattle.clap.specs.declared.builder.action.ArgAction.{ArgAction}
use Rattle.clap.specs.declared.builder.action.ArgAction.TheVariants as action
use Rattle.clap.specs.declared.builder.value_parser.ValueParser.{ValueParser}
use Rattle.clap.specs.declared.error.kind.ErrorKind.{ErrorKind}
use Rattle.clap.specs.declared.error.kind.ErrorKind.TheVariants as kind
use Rattle.clap.proofs.OnLiterals.{clap_on_literals}
use Rattle.gg_words.specs.Line.{golden_app}
use Rattle.gg_words.specs.Unexpected.{has_unexpected, is_for_word}
use Rattle.gg_words.proofs.FileLaws.{find-all}

abbrev Even : Kinds → Type 0
Even kinds = (k : ErrorKind) → IsAmong k kinds → is_for_word k ≡ list_any is_for_word kinds

even-none : Even []
even-none k among = absurd among

even-one : (x : ErrorKind) → Even (x ∷ [])
even-one x k among = ⊎_elim (λ is. ap is_for_word is ∙ go (is_for_word x)) (λ none. absurd none) among
  where
    go : (b : Bool) → b ≡ (b || false)
    go true = refl
    go false = refl

even-else : (a b : Kinds) → Even a → Even b → Even (or_else a b)
even-else [] b one two = two
even-else (k ∷ ks) b one two = one

even-if : (b : Bool) (x y : Kinds) → Even x → Even y → Even (cond b x y)
even-if true x y one two = one
even-if false x y one two = two

even-option : {X : Type 0} (f : X → Kinds) (o : Option X) → ((x : X) → Even (f x)) → Even (option_map_or f o [])
even-option f None each = even-none
even-option f (Some x) each = each x

even-stray : Even (kind.UnknownArgument ∷ kind.InvalidSubcommand ∷ [])
even-stray k (inl is) = ap is_for_word is
even-stray k (inr (inl is)) = ap is_for_word is
even-stray k (inr (inr none)) = absurd none

even-help : (b disabled : Bool) → disabled ≡ true → Even (cond (b && not disabled) (kind.DisplayHelp ∷ kind.InvalidSubcommand ∷ []) [])
even-help true true is = even-none
even-help false true is = even-none
even-help b false is = absurd (true≢false (sym is))

-- ---- one use of an argument

even-value : (i : Bool) (p : ValueParser) (t : Text) → Even (value_kinds i p t)
even-value i p t = even-if (accepts i p t) [] (refused_kind p ∷ []) even-none (even-one (refused_kind p))

even-values : (i : Bool) (p : ValueParser) (ts : List Text) → Even (values_kinds i p ts)
even-values i p [] = even-none
even-values i p (t ∷ ts) = even-else (value_kinds i p t) (values_kinds i p ts) (even-value i p t) (even-values i p ts)

even-range : (least most n : ℕ) → Even (range_kinds least most n)
even-range least most n = even-if (nat_lt 0 least && n == 0) _ _ (even-one _)
    (even-if (least == most) _ _ (even-if (least == n) _ _ even-none (even-one _))
    (even-if (nat_lt n least) _ _ (even-one _) (even-if (nat_lt most n) _ _ (even-one _) even-none)))

even-request : (a : ArgAction) → Even (request_kinds a)
even-request action.Set = even-none
even-request action.Append = even-none
even-request action.SetTrue = even-none
even-request action.SetFalse = even-none
even-request action.Count = even-none
even-request action.Help = even-one _
even-request action.HelpShort = even-one _
even-request action.HelpLong = even-one _
even-request action.Version = even-one _

even-check : (a b c : Bool) → Even (check_kinds a b c)
even-check a b c = even-if a _ _ (even-one _) (even-if b _ _ (even-one _) (even-if c _ _ (even-one _) even-none))

even-count : (a : Rule) (values : List Text) (rows : List Row) → Even (count_fault a values rows)
even-count a [] rows = even-value a.ignore_case (parser_of_value a.parser) _
even-count a (v ∷ vs) rows = even-values a.ignore_case (parser_of_value a.parser) (v ∷ vs)

even-set : (again : Bool) (a : Rule) (values : List Text) (rows : List Row) → Even (set_fault again a values rows)
even-set again a values rows = even-else (repeat_fault again a.id rows) (values_fault a values)
    (even-if (has_row a.id rows && not again) _ _ (even-one _) even-none) (even-values a.ignore_case (parser_of_value a.parser) values)

even-action : (x : ArgAction) (again : Bool) (a : Rule) (values : List Text) (rows : List Row) → Even (action_fault x again a values rows)
even-action action.Set again a values rows = even-set again a values rows
even-action action.SetTrue again a values rows = even-set again a values rows
even-action action.SetFalse again a values rows = even-set again a values rows
even-action action.Append again a values rows = even-values a.ignore_case (parser_of_value a.parser) values
even-action action.Count again a values rows = even-count a values rows
even-action action.Help again a values rows = even-request action.Help
even-action action.HelpShort again a values rows = even-request action.HelpShort
even-action action.HelpLong again a values rows = even-request action.HelpLong
even-action action.Version again a values rows = even-request action.Version

even-use : (again : Bool) (a : Rule) (values : List Text) (rows : List Row) → Even (use_fault again a values rows)
even-use again a values rows = even-else (range_kinds (unwrap_or_range a.range).start_inclusive (most_values a) (length values)) _
    (even-range (unwrap_or_range a.range).start_inclusive (most_values a) (length values))
    (even-action (action_of a) again a (values_or_missing a values) rows)

-- ---- the walk

module _ (c : List Rule) (again : Bool) where
  even-settle : (h : Held) → Even (settle_fault c again h)
  even-settle h = even-option (λ (p : Text × List Text). option_map_or (λ (a : Rule). use_fault again a p.1 h.rows) (arg_by_id c p.0) []) h.pending
      (λ p. even-option (λ (a : Rule). use_fault again a p.1 h.rows) (arg_by_id c p.0) (λ a. even-use again a p.1 h.rows))

  even-react : (a : Rule) (values : List Text) (h : Held) → Even (react_fault c again a values h)
  even-react a values h = even-else (settle_fault c again h) (use_fault again a values (settled c h).rows) (even-settle h) (even-use again a values (settled c h).rows)

  even-opt : (a : Rule) (v : Option Text) (h : Held) → Even (option_fault c again a v h)
  even-opt a (Some v) h = even-react a (v ∷ []) h
  even-opt a None h = even-settle h

  even-long : (found : Option Rule) (v : Option Text) (h : Held) → Even (long_fault c again found v h)
  even-long None v h = even-one _
  even-long (Some a) v h = even-if (takes_values a) (option_fault c again a v h) _ (even-opt a v h)
      (even-if (is_some v) _ (react_fault c again a [] h) (even-one _) (even-react a [] h))

  even-short : (found : Option Rule) (rest : Text) (h : Held) (after : Held → Kinds) → ((x : Held) → Even (after x)) → Even (short_fault c again found rest h after)
  even-short None rest h after later = even-one _
  even-short (Some a) rest h after later = even-if (takes_values a) (option_fault c again a (attached_value rest) h) _ (even-opt a (attached_value rest) h)
      (even-else (react_fault c again a [] h) (after (reacted c a [] h)) (even-react a [] h) (later (reacted c a [] h)))

  even-bundle_step : (o : Option ℕ) (flags : Text) (skip : ℕ) (h : Held) (after : Text → ℕ → Held → Kinds) → ((t : Text) (n : ℕ) (x : Held) → Even (after t n x))
      → Even (bundle_step_fault c again o flags skip h after)
  even-bundle_step None flags skip h after later = even-none
  even-bundle_step (Some x) flags zero h after later = even-short (arg_by_short c x) _ h _ (later (drop (length (encode_utf8 x)) flags) 0)
  even-bundle_step (Some x) flags (suc skip) h after later = later (drop (length (encode_utf8 x)) flags) skip h

  even-flags : (k : ℕ) (flags : Text) (skip : ℕ) (h : Held) → Even (flags_fault c again k flags skip h)
  unfolding flags_fault
  even-flags zero flags skip h = even-none
  even-flags (suc k) flags skip h = even-bundle_step (slice_get (chars flags) 0) flags skip h (flags_fault c again k) (even-flags k)

  even-flag_word : (found : Option (Text × Option Text)) (word : Text) (h : Held) → Even (flag_word_fault c again found word h)
  even-flag_word (Some p) word h = even-long (arg_by_long c p.0) p.1 h
  even-flag_word None word h = even-option (λ (flags : Text). bundle_fault c again flags h) (short_of word) (λ flags. even-flags (length flags) flags h.skip (record h { skip = 0 }))

  even-positional : (a : Rule) (h : Held) → Even (positional_fault c again a h)
  even-positional a h = even-if (is_pending a h.pending && takes_several a) [] (settle_fault c again h) even-none (even-settle h)

module _ (s : Shape) (no_help : s.disable_help_subcommand ≡ true) where
  even-other : (met : Option Text) (word : Text) (h : Held) → Even (other_fault s met word h)
  even-other (Some name) word h = even-help (bytes_eq name (codes "help")) s.disable_help_subcommand no_help
  even-other None word h = even-if (bytes_eq word (45 ∷ 45 ∷ [])) [] _ even-none (even-flag_word s.rules s.args_override_self (long_of word) word h)

  even-step : (position : ℕ) (h : Held) (step : Step) → Even (step_fault s position h step)
  even-step position h value = go (arg_by_index s.rules position)
    where
      go : (found : Option Rule) → Even (option_map_or (λ (a : Rule). positional_fault s.rules s.args_override_self a h) found (stray_fault s))
      go (Some a) = even-positional s.rules s.args_override_self a h
      go None = even-if s.is_leaf _ _ (even-one _) even-stray
  even-step position h (next waiting) = even-none
  even-step position h (trailing place) = even-none
  even-step position h (subcommand name) = even-none

  module _ (names : Names) where
    even-turn : (w : Walk) (word : Text) → Even (turn_fault s names w word)
    even-turn w word =
        let met = word_met s.rules names w.is_trailing w.waiting w.position word w.held in
        even-if (is_some w.stopped) [] _ even-none (even-else (word_fault s names w.is_trailing w.waiting word w.held) (step_fault s w.position met.0 met.1)
        (even-if w.is_trailing [] _ even-none (even-other (subcommand_met names w.waiting word) word w.held)) (even-step w.position met.0 met.1))

    even-walk : (w : Walk) (words : List Text) → Even (walk_fault s names w words)
    unfolding walk_fault
    even-walk w [] = even-none
    even-walk w (word ∷ rest) = even-else (turn_fault s names w word) (walk_fault s names (walked s.rules names w word) rest) (even-turn w word) (even-walk (walked s.rules names w word) rest)

-- ---- after the walk

even-default : (rows : List Row) (a : Rule) → Even (default_fault rows a)
even-default rows a = even-if (has_row a.id rows || is_empty a.defaults) [] _ even-none
    (even-else (request_kinds (action_of a)) (values_fault a a.defaults) (even-request (action_of a)) (even-values a.ignore_case (parser_of_value a.parser) a.defaults))

even-defaults : (rules : List Rule) (rows : List Row) → Even (defaults_fault rows rules)
unfolding defaults_fault
even-defaults [] rows = even-none
even-defaults (a ∷ rest) rows = even-else (default_fault rows a) (defaults_fault (with_default rows a) rest) (even-default rows a) (even-defaults rest (with_default rows a))

even-level : (s : Shape) → s.disable_help_subcommand ≡ true → (names : Names) (h : Held) (words : List Text) (has : Bool) (below : Kinds) → Even below → Even (level_fault s names h words has below)
even-level s no_help names h words has below under =
    let end = (walk s.rules names h words).held in
    even-else (walk_fault s names (walk_from h) words) _ (even-walk s no_help names (walk_from h) words)
    (even-else below _ under
    (even-else (settle_fault s.rules s.args_override_self end) _ (even-settle s.rules s.args_override_self end)
    (even-else (defaults_fault (settled s.rules end).rows s.rules) _ (even-defaults s.rules (settled s.rules end).rows)
    (even-check _ _ _))))

-- ---- the program's command line

abbrev whole : App
whole = built golden_app

even-found : (words : List Text) (found : Option Shape) → ((s : Shape) → found ≡ Some s → s.disable_help_subcommand ≡ true)
    → Even (option_map_or (λ (s : Shape). level_fault s [] nothing_held words false []) found [])
even-found words None no_help = even-none
even-found words (Some s) no_help = even-level s (no_help s refl) [] nothing_held words false [] even-none

even-entered : (stop : Option (Text × List Text)) → Even (entered_fault whole stop)
even-entered None = even-none
even-entered (Some p) =
    even-found p.1 (find (λ (s : Shape). answers_to p.0 (label_of s)) whole.subs)
    (λ s found. find-all (λ (x : Shape). answers_to p.0 (label_of x)) (λ (x : Shape). x.disable_help_subcommand) whole.subs s found refl)

even-fault : (words : List Text) → Even (fault_of golden_app words)
even-fault words =
    let stop = stop_after whole.top.rules (names_of whole) (argument_words golden_app words) in
    even-level whole.top refl (names_of whole) nothing_held (argument_words golden_app words) (is_some (entered whole stop)) (entered_fault whole stop) (even-entered stop)

-- if `clap` may refuse words with this kind, it is for a word just if they have an unexpected one
pub for-word : (words : List Text) (k : ErrorKind) → IsAmong k (fault_of golden_app words) → is_for_word k ≡ has_unexpected words
unfolding has_unexpected
for-word words k among = even-fault words k among

-- words that `clap` takes have no unexpected one
pub taken-expected : (words : List Text) → fault_of golden_app words ≡ [] → has_unexpected words ≡ false
unfolding has_unexpected
taken-expected words none = ap (list_any is_for_word) none

-- nor have no words
pub nothing-expected : has_unexpected [] ≡ false
unfolding has_unexpected clap_on_literals
nothing-expected = refl

-- a refusal whose kind isn't that of memory has one of these kinds
pub among-others : (words : List Text) (k : ErrorKind) → k ≢ kind.OutOfMemory → (k ≡ kind.OutOfMemory) ⊎ IsAmong k (fault_of golden_app words) → IsAmong k (fault_of golden_app words)
among-others words k other among = ⊎_elim (λ e. absurd (other e)) (λ a. a) among

-- ---- what a refusal by `clap` tells, if the line that was asked is the program's

pub expected-if-taken : (app : App) (words : List Text) → app ≡ golden_app → (is_simple_and_free app ≡ true → fault_of app words ≡ []) → has_unexpected words ≡ false
expected-if-taken app words is none = taken-expected words (subst (λ a. is_simple_and_free a ≡ true → fault_of a words ≡ []) is none refl)

pub unexpected-if-for-word : (app : App) (words : List Text) (k : ErrorKind) → app ≡ golden_app → k ≢ kind.OutOfMemory
    → (is_simple_and_free app ≡ true → (k ≡ kind.OutOfMemory) ⊎ IsAmong k (fault_of app words)) → is_for_word k ≡ has_unexpected words
unexpected-if-for-word app words k is other among =
    ⊎_elim (λ e. absurd (other e)) (λ a. for-word words k a) (subst (λ a. is_simple_and_free a ≡ true → (k ≡ kind.OutOfMemory) ⊎ IsAmong k (fault_of a words)) is among refl)
