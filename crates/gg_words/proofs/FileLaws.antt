-- Whatever the words are, no row of a file of a command is without a text.
use Rattle.std.proofs.Common.{◌≡◌, ℕ, ◌+◌, min, Bool, cond, true, false, true≢false, zero, suc, List, [], ◌∷◌, ◌++◌, length, drop, Option, None, Some, is_some, refl, sym, ap, ◌∙◌, subst}
use Rattle.std.specs.Prelude.{◌&&◌, ⊤, encode_utf8, find, fold, slice_get}
use Rattle.std.specs.List.{list_all}
use Rattle.std.specs.Str.{bytes_eq, chars}
use Rattle.std.proofs.lemmas.Slice.Eq.{bytes_eq-Decides}
use Rattle.std.proofs.lemmas.Option.{same_Some}
use Rattle.clap.specs.Lexer.{long_of, short_of}
use Rattle.clap.specs.Matches.{count_text}
use Rattle.clap.specs.Walk.{Held, Names, Outcome, Row, Rule, Step, Text, Waiting, Walk, after_flag, after_step, arg_by_id, arg_by_index, arg_by_long, arg_by_short, at_row, bundle, bundle_met, bundle_step, count_of, counted, default_rows, finished, flag_met, has_row, idle, long_met, long_or_other, more_values, new_count, next, option, option_met, option_word, plain, plain_word, positional, positional_held, pushed, reacted, reading_by, refused, settled, settled_rows, short_or_plain, started, subcommand, subcommand_met, subcommand_or_other, takes_values, to_positional, trailing, used, used_as, used_by_id, value, values_or_missing, waits, walked, walked_from, with_count, with_default, with_values, without, word_met, done, action_of, is_pending, takes_several}
use Rattle.clap.specs.declared.builder.action.ArgAction.{ArgAction}
use Rattle.clap.specs.declared.builder.action.ArgAction.TheVariants as action
use Rattle.clap.specs.declared.builder.value_parser.Reading.{Reading}
use Rattle.clap.specs.declared.parser.matches.ValueSource.{ValueSource}
use Rattle.clap.specs.declared.parser.matches.ValueSource.TheVariants.{CommandLine, DefaultValue}

abbrev pub has_value : List Text → Bool
has_value [] = false
has_value (v ∷ vs) = true

-- each row of this argument has a value
abbrev pub AreFull : Text → List Row → Type 0
AreFull id [] = ⊤
AreFull id (r ∷ rs) = (r.id ≡ id → has_value r.values ≡ true) × AreFull id rs

-- the argument whose values are being read has a value too
abbrev pub IsPendingFull : Text → Option (Text × List Text) → Type 0
IsPendingFull id None = ⊤
IsPendingFull id (Some p) = p.0 ≡ id → has_value p.1 ≡ true

abbrev pub IsHeldFull : Text → Held → Type 0
IsHeldFull id h = AreFull id h.rows × IsPendingFull id h.pending

value-front : (xs ys : List Text) → has_value xs ≡ true → has_value (xs ++ ys) ≡ true
value-front [] ys h = absurd (true≢false (sym h))
value-front (x ∷ xs) ys h = refl

value-back : (xs : List Text) (y : Text) → has_value (xs ++ y ∷ []) ≡ true
value-back [] y = refl
value-back (x ∷ xs) y = refl

pub same-text : (xs ys : Text) → bytes_eq xs ys ≡ true → xs ≡ ys
same-text xs ys h = (bytes_eq-Decides xs ys).0 h

pub find-passes : {X : Type 0} (p : X → Bool) (xs : List X) (x : X) → find p xs ≡ Some x → p x ≡ true
find-passes p [] x e = absurd (true≢false (sym (ap is_some e)))
find-passes p (y ∷ ys) x e = go (p y) refl (find-passes p ys x) e
  where
    go : (b : Bool) → p y ≡ b → (find p ys ≡ Some x → p x ≡ true) → cond b (Some y) (find p ys) ≡ Some x → p x ≡ true
    go true is later found = subst (λ z. p z ≡ true) (same_Some y x found) is
    go false is later found = later found

-- if all elements pass a test, so does the one that is found
pub find-all : {X : Type 0} (p t : X → Bool) (xs : List X) (x : X) → find p xs ≡ Some x → list_all t xs ≡ true → t x ≡ true
find-all p t [] x e all = absurd (true≢false (sym (ap is_some e)))
find-all p t (y ∷ ys) x e all = go (p y) (t y) refl (find-all p t ys x) e all
  where
    go : (b d : Bool) → t y ≡ d → (find p ys ≡ Some x → list_all t ys ≡ true → t x ≡ true)
        → cond b (Some y) (find p ys) ≡ Some x → (d && list_all t ys) ≡ true → t x ≡ true
    go b false is later found every = absurd (true≢false (sym every))
    go true true is later found every = subst (λ z. t z ≡ true) (same_Some y x found) is
    go false true is later found every = later found every

module _ (id : Text) where
  full-append : (xs ys : List Row) → AreFull id xs → AreFull id ys → AreFull id (xs ++ ys)
  full-append [] ys h k = k
  full-append (x ∷ xs) ys h k = (h.0, full-append xs ys h.1 k)

  full-at : (key : Text) (change : Row → List Row) (missing : List Row)
      → ((r : Row) → (r.id ≡ id → has_value r.values ≡ true) → AreFull id (change r)) → AreFull id missing
      → (rows : List Row) → AreFull id rows → AreFull id (at_row key change missing rows)
  full-at key change missing keeps new [] h = new
  full-at key change missing keeps new (r ∷ rs) h = go (bytes_eq r.id key) (full-at key change missing keeps new rs h.1)
    where
      go : (b : Bool) → AreFull id (at_row key change missing rs) → AreFull id (cond b (change r ++ rs) (r ∷ at_row key change missing rs))
      go true rest = full-append (change r) rs (keeps r h.0) h.1
      go false rest = (h.0, rest)

  full-without : (key : Text) (rows : List Row) → AreFull id rows → AreFull id (without key rows)
  full-without key rows h = full-at key (λ _. []) [] (λ r k. tt) tt rows h

  full-values : (key : Text) (how : Reading) (s : ValueSource) (values : List Text) → (key ≡ id → has_value values ≡ true)
      → (rows : List Row) → AreFull id rows → AreFull id (with_values key how s values rows)
  full-values key how s values given rows h =
      full-at key (more_values s values) (record { id = key; values = values; count = None; source = Some s; reading = how } ∷ []) (λ r k. ((λ e. value-front r.values values (k e)), tt)) (given, tt) rows h

  full-count : (key : Text) (how : Reading) (s : ValueSource) (n : ℕ) (rows : List Row) → AreFull id rows → AreFull id (with_count key how s n rows)
  full-count key how s n rows h =
      full-at key (new_count s n) (record { id = key; values = count_text n ∷ []; count = Some n; source = Some s; reading = how } ∷ [])
      (λ r k. ((λ e. value-back r.values (count_text n)), tt)) ((λ e. refl), tt) rows h

  full-counted : (key : Text) (how : Reading) (values : List Text) → (key ≡ id → has_value values ≡ true)
      → (rows : List Row) → AreFull id rows → AreFull id (counted key how values rows)
  full-counted key how [] given rows h = full-count key how CommandLine (min (count_of key rows + 1) 255) (without key rows) (full-without key rows h)
  full-counted key how (v ∷ vs) given rows h = full-values key how CommandLine (v ∷ vs) given (without key rows) (full-without key rows h)

  full-used_as : (a : ArgAction) (key : Text) (how : Reading) (values : List Text) → (key ≡ id → has_value values ≡ true)
      → (rows : List Row) → AreFull id rows → AreFull id (used_as a key how values rows)
  full-used_as action.Set key how values given rows h = full-values key how CommandLine values given (without key rows) (full-without key rows h)
  full-used_as action.SetTrue key how values given rows h = full-values key how CommandLine values given (without key rows) (full-without key rows h)
  full-used_as action.SetFalse key how values given rows h = full-values key how CommandLine values given (without key rows) (full-without key rows h)
  full-used_as action.Append key how values given rows h = full-values key how CommandLine values given rows h
  full-used_as action.Count key how values given rows h = full-counted key how values given rows h
  full-used_as action.Help key how values given rows h = h
  full-used_as action.HelpShort key how values given rows h = h
  full-used_as action.HelpLong key how values given rows h = h
  full-used_as action.Version key how values given rows h = h

  full-used : (a : Rule) (values : List Text) → (a.id ≡ id → has_value (values_or_missing a values) ≡ true)
      → (rows : List Row) → AreFull id rows → AreFull id (used a values rows)
  full-used a values given rows h = full-used_as (action_of a) a.id (reading_by a) (values_or_missing a values) given rows h

  given-value : (a : Rule) (values : List Text) → has_value values ≡ true → has_value (values_or_missing a values) ≡ true
  given-value a [] h = absurd (true≢false (sym h))
  given-value a (v ∷ vs) h = refl

  module _ (c : List Rule) where
    full-settled_rows : (p : Option (Text × List Text)) (rows : List Row) → AreFull id rows → IsPendingFull id p → AreFull id (settled_rows c p rows)
    full-settled_rows None rows h k = h
    full-settled_rows (Some p) rows h k = go (arg_by_id c p.0) refl
      where
        go : (found : Option Rule) → arg_by_id c p.0 ≡ found → AreFull id (used_by_id found p.1 rows)
        go None e = h
        go (Some a) e = full-used a p.1 (λ is. given-value a p.1 (k (sym (same-text a.id p.0 (find-passes (λ (r : Rule). bytes_eq r.id p.0) c a e)) ∙ is))) rows h

    full-settled : (h : Held) → IsHeldFull id h → IsHeldFull id (settled c h)
    full-settled h full = (full-settled_rows h.pending h.rows full.0 full.1, tt)

    full-reacted : (a : Rule) (values : List Text) (h : Held) → (a.id ≡ id → has_value (values_or_missing a values) ≡ true) → IsHeldFull id h → IsHeldFull id (reacted c a values h)
    full-reacted a values h given full = (full-used a values given (settled c h).rows (full-settled h full).0, tt)

    full-pushed : (key word : Text) (h : Held) → IsHeldFull id h → IsHeldFull id (pushed key word h)
    full-pushed key word h full = (full.0, λ e. value-back (started key h.pending).1 word)

    full-positional : (a : Rule) (word : Text) (h : Held) → IsHeldFull id h → IsHeldFull id (positional_held c a word h)
    full-positional a word h full = go (is_pending a h.pending && takes_several a)
      where
        go : (b : Bool) → IsHeldFull id (pushed a.id word (cond b h (settled c h)))
        go true = full-pushed a.id word h full
        go false = full-pushed a.id word (settled c h) (full-settled h full)

    full-option_word : (found : Option Rule) (key word : Text) (h : Held) → IsHeldFull id h → IsHeldFull id (option_word found key word h).0
    full-option_word None key word h full = full
    full-option_word (Some a) key word h full = full-pushed key word h full

    full-plain : (w : Waiting) (word : Text) (h : Held) → IsHeldFull id h → IsHeldFull id (plain_word c w word h).0
    full-plain idle word h full = full
    full-plain (option key) word h full = full-option_word (arg_by_id c key) key word h full
    full-plain positional word h full = full

    full-after_flag : (w : Waiting) (word : Text) (h : Held) (o : Outcome) → IsHeldFull id h → IsHeldFull id (after_flag c w word h o).0
    full-after_flag w word h done full = full
    full-after_flag w word h (waits key) full = full
    full-after_flag w word h plain full = full-plain w word h full
    full-after_flag w word h refused full = full-plain w word h full

    -- no option is this argument, and no argument has a short name
    module _ (no_option : (name : Text) (a : Rule) → arg_by_long c name ≡ Some a → a.id ≡ id → ⊥) (no_short : (x : ℕ) → arg_by_short c x ≡ None) where
      full-option : (a : Rule) (v : Option Text) (h : Held) → (a.id ≡ id → ⊥) → IsHeldFull id h → IsHeldFull id (option_met c a v h).0
      full-option a None h other full = ((full-settled h full).0, λ e. absurd (other e))
      full-option a (Some v) h other full = full-reacted a (v ∷ []) h (λ e. refl) full

      full-flag : (a : Rule) (v : Option Text) (h : Held) → (a.id ≡ id → ⊥) → IsHeldFull id h → IsHeldFull id (flag_met c a v h).0
      full-flag a None h other full = full-reacted a [] h (λ e. absurd (other e)) full
      full-flag a (Some v) h other full = full

      full-long : (found : Option Rule) (v : Option Text) (h : Held) → ((a : Rule) → found ≡ Some a → a.id ≡ id → ⊥) → IsHeldFull id h → IsHeldFull id (long_met c found v h).0
      full-long None v h other full = full
      full-long (Some a) v h other full = go (takes_values a)
        where
          go : (b : Bool) → IsHeldFull id (cond b (option_met c a v h) (flag_met c a v h)).0
          go true = full-option a v h (other a refl) full
          go false = full-flag a v h (other a refl) full

      -- a bundle of flags leaves what is held as it is
      bundle-holds : (k : ℕ) (flags : Text) (skip : ℕ) (o : Outcome) (h : Held) → (bundle_met c k flags skip o h).0 ≡ h
      unfolding bundle_met
      bundle-holds zero flags skip o h = refl
      bundle-holds (suc k) flags skip o h = go (slice_get (chars flags) 0) skip (λ rest less. bundle-holds k rest less o h)
        where
          go : (x : Option ℕ) (skip : ℕ) → ((rest : Text) (less : ℕ) → (bundle_met c k rest less o h).0 ≡ h) → (bundle_step c x flags skip o h (bundle_met c k)).0 ≡ h
          go None skip later = refl
          go (Some x) zero later = rw (no_short x) refl
          go (Some x) (suc skip) later = later (drop (length (encode_utf8 x)) flags) skip

      full-bundle : (flags : Text) (h : Held) → IsHeldFull id h → IsHeldFull id (bundle c flags h).0
      full-bundle flags h full = subst (IsHeldFull id) (sym (bundle-holds (length flags) flags h.skip plain (record h { skip = 0 }))) full

      full-short : (w : Waiting) (word : Text) (flags : Option Text) (h : Held) → IsHeldFull id h → IsHeldFull id (short_or_plain c w word flags h).0
      full-short w word None h full = full-plain w word h full
      full-short w word (Some flags) h full = full-after_flag w word (bundle c flags h).0 (bundle c flags h).1 (full-bundle flags h full)

      full-other : (w : Waiting) (word : Text) (found : Option (Text × Option Text)) (h : Held) → IsHeldFull id h → IsHeldFull id (long_or_other c w word found h).0
      full-other w word None h full = full-short w word (short_of word) h full
      full-other w word (Some p) h full = full-after_flag w word (long_met c (arg_by_long c p.0) p.1 h).0 (long_met c (arg_by_long c p.0) p.1 h).1
          (full-long (arg_by_long c p.0) p.1 h (no_option p.0) full)

      full-word : (met : Option Text) (w : Waiting) (position : ℕ) (word : Text) (h : Held) → IsHeldFull id h → IsHeldFull id (subcommand_or_other c met w position word h).0
      full-word (Some name) w position word h full = full
      full-word None w position word h full = go (bytes_eq word (45 ∷ 45 ∷ []))
        where
          go : (b : Bool) → IsHeldFull id (cond b (h, trailing position) (long_or_other c w word (long_of word) h)).0
          go true = full
          go false = full-other w word (long_of word) h full

      module _ (names : Names) where
        full-met : (is_trailing : Bool) (w : Waiting) (position : ℕ) (word : Text) (h : Held) → IsHeldFull id h → IsHeldFull id (word_met c names is_trailing w position word h).0
        full-met true w position word h full = full
        full-met false w position word h full = full-word (subcommand_met names w word) w position word h full

        full-to_positional : (found : Option Rule) (word : Text) (w : Walk) (h : Held) → IsHeldFull id h → IsHeldFull id (to_positional c found word w h).held
        full-to_positional None word w h full = full
        full-to_positional (Some a) word w h full = full-positional a word h full

        full-step : (word : Text) (w : Walk) (h : Held) (s : Step) → IsHeldFull id h → IsHeldFull id (after_step c word w h s).held
        full-step word w h (next waiting) full = full
        full-step word w h (trailing position) full = full
        full-step word w h (subcommand name) full = full
        full-step word w h value full = full-to_positional (arg_by_index c w.position) word w h full

        full-walked : (w : Walk) (word : Text) → IsHeldFull id w.held → IsHeldFull id (walked c names w word).held
        unfolding walked
        full-walked w word full = go w.stopped
          where
            go : (stopped : Option (Text × List Text)) → IsHeldFull id (walked_from c names stopped w word).held
            go (Some p) = full
            go None = full-step word w (word_met c names w.is_trailing w.waiting w.position word w.held).0 (word_met c names w.is_trailing w.waiting w.position word w.held).1 (full-met w.is_trailing w.waiting w.position word w.held full)

        pub full-walk : (words : List Text) (w : Walk) → IsHeldFull id w.held → IsHeldFull id (fold (walked c names) w words).held
        full-walk [] w full = full
        full-walk (word ∷ words) w full = full-walk words (walked c names w word) (full-walked w word full)

    full-default_rows : (key : Text) (how : Reading) (values : List Text) (rows : List Row) → AreFull id rows → AreFull id (default_rows key how values rows)
    full-default_rows key how [] rows h = h
    full-default_rows key how (v ∷ vs) rows h = full-values key how DefaultValue (v ∷ vs) (λ e. refl) rows h

    full-default : (a : Rule) (rows : List Row) → AreFull id rows → AreFull id (with_default rows a)
    full-default a rows h = go (has_row a.id rows)
      where
        go : (b : Bool) → AreFull id (cond b rows (default_rows a.id (reading_by a) a.defaults rows))
        go true = h
        go false = full-default_rows a.id (reading_by a) a.defaults rows h

    full-defaults : (rules : List Rule) (rows : List Row) → AreFull id rows → AreFull id (fold with_default rows rules)
    full-defaults [] rows h = h
    full-defaults (a ∷ rules) rows h = full-defaults rules (with_default rows a) (full-default a rows h)

    pub full-finished : (h : Held) → IsHeldFull id h → AreFull id (finished c h)
    full-finished h full = full-defaults c (settled c h).rows (full-settled h full).0
