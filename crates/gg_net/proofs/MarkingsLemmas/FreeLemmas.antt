-- An event isn't refused in a marking exactly if its conditions hold of the counts.
use Rattle.std.proofs.Common.{◌≡◌, ℕ, zero, suc, ◌+◌, ◌<◌, ◌≤◌, List, [], ◌∷◌, Some, None, Bool, true, false, cond, length, refl, ap, sym, subst, ◌∙◌, inl, inr, arith}
use Rattle.std.specs.Prelude.{◌==◌, All, not, find, slice_index_or, slice_get}
use Rattle.std.proofs.lemmas.Bool.{cases_lt, eq-eqb, eqb-true, lt-ltb, ltb-true}
use Rattle.std.proofs.lemmas.List.{get_or_past}
use Rattle.std.proofs.lemmas.Option.{slice_get_within, slice_get_past, slice_get-get_or, same_Some, none-some}
use Rattle.gg_flat.specs.Line.{value_at}
use Rattle.gg_net.specs.declared.event.Event.{Event}
use Rattle.gg_net.specs.declared.event.Event.TheVariants.{Latch, Fire, Serve, Finish}
use Rattle.gg_net.specs.Refusal.{Turn, Facts, first_without, ins_of_machine, outs_of_machine}
use Rattle.gg_net.proofs.FindLemmas.{find-none, found-skips, chosen-fail}
use Rattle.gg_net.proofs.RowLemmas.{LatchGoes, latch-goes, goes-latch, FireGoes, fire-goes, goes-fire, ServeGoes, serve-goes, goes-serve, FinishGoes, finish-goes, goes-finish}
use Rattle.gg_net.specs.markings.Marking.{Layout, Marking, link_at, turns_at, is_set, port_count, due_turn, marked_facts, marked_refusal}
use Rattle.gg_net.specs.Network.{and_one}
use Rattle.gg_net.specs.inside.Counts.{Counts, counts_of, early, WasTaken, HasGiven, HasServed, IsAllowed, CanRun}
use Rattle.gg_net.specs.markings.Counts.{dues}
use Rattle.gg_net.proofs.MarkingsLemmas.Free.{FreeLatch, FreeFire, FreeServe, FreeFinish, Free}
use Rattle.gg_net.proofs.MarkingsLemmas.EarlyLemmas.{entered-is}

-- ---- marks

pub set-one : (n : ℕ) (b : Bool) → b ≡ true → and_one n b ≡ suc n
set-one n b is = ap (and_one n) is

pub clear-one : (n : ℕ) (b : Bool) → b ≡ false → and_one n b ≡ n
clear-one n b is = ap (and_one n) is

one-set : (n : ℕ) (b : Bool) → and_one n b ≡ suc n → b ≡ true
one-set n true is = refl
one-set n false is = absurd (omega (arith, is))

pub one-clear : (n : ℕ) (b : Bool) → and_one n b ≡ n → b ≡ false
one-clear n true is = absurd (omega (arith, is))
one-clear n false is = refl

not-set : (b : Bool) → not b ≡ false → b ≡ true
not-set true is = refl
not-set false is = sym is

-- ---- searches

-- if none is found, none passes
all-fail : (p : ℕ → Bool) (xs : List ℕ) → find p xs ≡ None → (i d : ℕ) → i < length xs → p (slice_index_or xs i d) ≡ false
all-fail p [] is i d lt = absurd (omega (arith, lt))
all-fail p (a ∷ rest) is zero d lt = (found-skips p a rest is).0
all-fail p (a ∷ rest) is (suc i) d lt = all-fail p rest (found-skips p a rest is).1 i d (omega (arith, lt))

none-found : (p : ℕ → Bool) (xs : List ℕ) → ((i d : ℕ) → i < length xs → p (slice_index_or xs i d) ≡ false) → find p xs ≡ None
none-found p [] fails = refl
none-found p (a ∷ rest) fails = ap (λ b. cond b (Some a) (find p rest)) (fails 0 0 (omega arith)) ∙ none-found p rest (λ i d lt. fails (suc i) d (omega (arith, lt)))

module _ (layout : Layout) (marking : Marking) (can : CanRun layout) where
  abbrev counts : Counts
  counts = counts_of layout marking

  abbrev facts : Facts
  facts = marked_facts layout marking

  -- ---- channels

  pub taken-of : (c : ℕ) → counts.takes c ≡ suc (counts.cycles (link_at layout c).consumer) → is_set marking.taken c ≡ true
  taken-of c is = one-set (value_at marking.cycles (link_at layout c).consumer) (is_set marking.taken c) is

  of-taken : (c : ℕ) → is_set marking.taken c ≡ true → counts.takes c ≡ suc (counts.cycles (link_at layout c).consumer)
  of-taken c is = set-one (value_at marking.cycles (link_at layout c).consumer) (is_set marking.taken c) is

  pub given-of : (c : ℕ) → counts.puts c ≡ suc (counts.cycles (link_at layout c).producer) → is_set marking.given c ≡ true
  given-of c is = one-set (value_at marking.cycles (link_at layout c).producer) (is_set marking.given c) is

  of-given : (c : ℕ) → is_set marking.given c ≡ true → counts.puts c ≡ suc (counts.cycles (link_at layout c).producer)
  of-given c is = set-one (value_at marking.cycles (link_at layout c).producer) (is_set marking.given c) is

  -- all of these channels, which a machine takes, were taken in its cycle
  pub all-taken : (m : ℕ) (channels : List ℕ) → All (λ d. (d < length layout.links) × ((link_at layout d).consumer ≡ m)) channels → first_without facts.taken channels ≡ None → All (WasTaken counts (counts.cycles m)) channels
  all-taken m channels known none =
      λ i any lt.
      of-taken (slice_index_or channels i any) (not-set (is_set marking.taken (slice_index_or channels i any)) (all-fail (λ c. not (is_set marking.taken c)) channels none i any lt))
      ∙ ap (λ k. suc (counts.cycles k)) (known i any lt).1

  none-missing : (m : ℕ) (channels : List ℕ) → All (λ d. (d < length layout.links) × ((link_at layout d).consumer ≡ m)) channels → All (WasTaken counts (counts.cycles m)) channels → first_without facts.taken channels ≡ None
  none-missing m channels known taken =
      none-found (λ c. not (is_set marking.taken c)) channels (λ i any lt.
      ap not (taken-of (slice_index_or channels i any) (taken i any lt ∙ ap (λ k. suc (counts.cycles k)) (sym (known i any lt).1))))

  pub has-given : (m : ℕ) → first_without facts.given (outs_of_machine facts m) ≡ None → HasGiven layout counts m (counts.cycles m)
  has-given m none c known is =
      of-given c (not-set (is_set marking.given c) (chosen-fail (λ d. not (is_set marking.given d)) (λ d. (link_at layout d).producer == m) 0 (length layout.links) none c (omega arith) (omega (arith, known)) (eq-eqb (link_at layout c).producer m is)))
      ∙ ap (λ k. suc (counts.cycles k)) is

  none-unfired : (m : ℕ) → HasGiven layout counts m (counts.cycles m) → first_without facts.given (outs_of_machine facts m) ≡ None
  none-unfired m given =
      find-none (λ d. not (is_set marking.given d)) (λ d. (link_at layout d).producer == m) 0 (length layout.links) (λ c le lt chosen.
      let is : (link_at layout c).producer ≡ m = eqb-true (link_at layout c).producer m chosen in
      ap not (given-of c (given c (omega (arith, lt)) is ∙ ap (λ k. suc (counts.cycles k)) (sym is))))

  has-taken : (m : ℕ) → first_without facts.taken (ins_of_machine facts m) ≡ None → (c : ℕ) → c < length layout.links → (link_at layout c).consumer ≡ m → counts.takes c ≡ suc (counts.cycles m)
  has-taken m none c known is =
      of-taken c (not-set (is_set marking.taken c) (chosen-fail (λ d. not (is_set marking.taken d)) (λ d. (link_at layout d).consumer == m) 0 (length layout.links) none c (omega arith) (omega (arith, known)) (eq-eqb (link_at layout c).consumer m is)))
      ∙ ap (λ k. suc (counts.cycles k)) is

  none-unlatched : (m : ℕ) → ((c : ℕ) → c < length layout.links → (link_at layout c).consumer ≡ m → counts.takes c ≡ suc (counts.cycles m)) → first_without facts.taken (ins_of_machine facts m) ≡ None
  none-unlatched m taken =
      find-none (λ d. not (is_set marking.taken d)) (λ d. (link_at layout d).consumer == m) 0 (length layout.links) (λ c le lt chosen.
      let is : (link_at layout c).consumer ≡ m = eqb-true (link_at layout c).consumer m chosen in
      ap not (taken-of c (taken c (omega (arith, lt)) is ∙ ap (λ k. suc (counts.cycles k)) (sym is))))

  -- ---- Latch and Fire

  module _ (c : ℕ) where
    latch-free : marked_refusal layout marking (Latch c) ≡ None → FreeLatch layout counts c
    latch-free is =
        let goes : LatchGoes facts c = latch-goes facts c is in
        record {
          known = goes.known;
          below = ltb-true (value_at marking.cycles (link_at layout c).consumer) layout.end goes.below;
          clear = clear-one (value_at marking.cycles (link_at layout c).consumer) (is_set marking.taken c) goes.empty;
          held = omega (arith, goes.held, entered-is (counts.puts c) (link_at layout c).piped);
        }

    free-latch : FreeLatch layout counts c → marked_refusal layout marking (Latch c) ≡ None
    free-latch free =
        goes-latch facts c (record {
          known = free.known;
          below = lt-ltb (value_at marking.cycles (link_at layout c).consumer) layout.end free.below;
          empty = one-clear (value_at marking.cycles (link_at layout c).consumer) (is_set marking.taken c) free.clear;
          held = omega (arith, free.held, entered-is (counts.puts c) (link_at layout c).piped);
        })

    fire-free : (c < length layout.links → counts.takes c ≤ counts.puts c + early layout c) → marked_refusal layout marking (Fire c) ≡ None → FreeFire layout counts c
    fire-free least is =
        let goes : FireGoes facts c = fire-goes facts c is in
        record {
          known = goes.known;
          below = ltb-true (value_at marking.cycles (link_at layout c).producer) layout.end goes.below;
          clear = clear-one (value_at marking.cycles (link_at layout c).producer) (is_set marking.given c) goes.clear;
          needed = all-taken (link_at layout c).producer (link_at layout c).needs (can.needs c goes.known) goes.needed;
          room = omega (arith, goes.room, least goes.known, entered-is (counts.puts c) (link_at layout c).piped);
        }

    free-fire : FreeFire layout counts c → marked_refusal layout marking (Fire c) ≡ None
    free-fire free =
        goes-fire facts c (record {
          known = free.known;
          below = lt-ltb (value_at marking.cycles (link_at layout c).producer) layout.end free.below;
          clear = one-clear (value_at marking.cycles (link_at layout c).producer) (is_set marking.given c) free.clear;
          needed = none-missing (link_at layout c).producer (link_at layout c).needs (can.needs c free.known) free.needed;
          room = omega (arith, free.room, can.room c free.known, entered-is (counts.puts c) (link_at layout c).piped);
        })

  -- ---- Serve

  module _ (m p : ℕ) where
    -- a machine that serves ports exists
    serves-known : (j : ℕ) → j < dues layout m → m < length layout.turns
    serves-known j lt =
        elim (cases_lt m (length layout.turns)) [
          | inl known ↦ known
          | inr over ↦ absurd (omega (arith, lt, ap length (get_or_past layout.turns m [] over)))
        ]

    serve-free : marked_refusal layout marking (Serve m p) ≡ None → FreeServe layout counts m p
    serve-free is =
        let goes : ServeGoes facts m p = serve-goes facts m p is in
        let turn : Turn = goes.due.turn in
        let within : value_at marking.served m < dues layout m = slice_get_within (turns_at layout m) (value_at marking.served m) turn goes.due.is in
        let known : m < length layout.turns = serves-known (value_at marking.served m) within in
        let at : slice_index_or (turns_at layout m) (value_at marking.served m) turn ≡ turn = same_Some (slice_index_or (turns_at layout m) (value_at marking.served m) turn) turn (sym (slice_get-get_or (turns_at layout m) (value_at marking.served m) turn within) ∙ goes.due.is) in
        record {
          known = known;
          below = ltb-true (value_at marking.cycles m) layout.end goes.below;
          given = has-given m goes.fired;
          served = value_at marking.served m;
          count = refl;
          turn = turn;
          due = goes.due.is;
          number = goes.due.number;
          fields = all-taken m turn.fields (subst (λ (t : Turn). All (λ d. (d < length layout.links) × ((link_at layout d).consumer ≡ m)) t.fields) at (can.fields m known (value_at marking.served m) turn within)) goes.due.fields;
        }

    free-serve : FreeServe layout counts m p → marked_refusal layout marking (Serve m p) ≡ None
    free-serve free =
        let j_is : free.served ≡ value_at marking.served m = omega (arith, free.count) in
        let due : due_turn layout marking m ≡ Some free.turn = ap (slice_get (turns_at layout m)) (sym j_is) ∙ free.due in
        let within : value_at marking.served m < dues layout m = slice_get_within (turns_at layout m) (value_at marking.served m) free.turn due in
        let at : slice_index_or (turns_at layout m) (value_at marking.served m) free.turn ≡ free.turn = same_Some (slice_index_or (turns_at layout m) (value_at marking.served m) free.turn) free.turn (sym (slice_get-get_or (turns_at layout m) (value_at marking.served m) free.turn within) ∙ due) in
        let port : p < port_count layout m = omega (arith, free.number, subst (λ (turn : Turn). turn.number < port_count layout m) at (can.numbers m free.known (value_at marking.served m) free.turn within)) in
        let fields : All (λ d. (d < length layout.links) × ((link_at layout d).consumer ≡ m)) free.turn.fields = subst (λ (turn : Turn). All (λ d. (d < length layout.links) × ((link_at layout d).consumer ≡ m)) turn.fields) at (can.fields m free.known (value_at marking.served m) free.turn within) in
        goes-serve facts m p (record {
          port = port;
          below = lt-ltb (value_at marking.cycles m) layout.end free.below;
          fired = none-unfired m free.given;
          due = record { turn = free.turn; is = due; number = free.number; fields = none-missing m free.turn.fields fields free.fields };
        })

  -- ---- Finish

  module _ (m : ℕ) where
    finish-free : (m < length layout.turns → value_at marking.served m ≤ dues layout m) → marked_refusal layout marking (Finish m) ≡ None → FreeFinish layout counts m
    finish-free most is =
        let goes : FinishGoes facts m = finish-goes facts m is in
        let all : value_at marking.served m ≡ dues layout m =
        elim (cases_lt (value_at marking.served m) (dues layout m)) [
          | inl lt ↦ absurd (none-some (slice_index_or (turns_at layout m) (value_at marking.served m) (record { number = 0; fields = [] })) (sym goes.served ∙ slice_get-get_or (turns_at layout m) (value_at marking.served m) (record { number = 0; fields = [] }) lt))
          | inr over ↦ omega (arith, over, most goes.there)
        ] in
        record {
          known = goes.there;
          below = ltb-true (value_at marking.cycles m) layout.end goes.below;
          given = has-given m goes.fired;
          served = omega (arith, all);
          taken = has-taken m goes.latched;
        }

    free-finish : FreeFinish layout counts m → marked_refusal layout marking (Finish m) ≡ None
    free-finish free =
        goes-finish facts m (record {
          there = free.known;
          below = lt-ltb (value_at marking.cycles m) layout.end free.below;
          fired = none-unfired m free.given;
          served = slice_get_past (turns_at layout m) (value_at marking.served m) (omega (arith, free.served));
          latched = none-unlatched m free.taken;
        })

  -- ---- any event

  pub is-free : IsAllowed layout counts → (event : Event) → marked_refusal layout marking event ≡ None → Free layout counts event
  is-free allowed (Latch c) is = latch-free c is
  is-free allowed (Fire c) is = fire-free c (λ known. (allowed.flows c known).least) is
  is-free allowed (Serve m p) is = serve-free m p is
  is-free allowed (Finish m) is = finish-free m (λ known. let has : (j : ℕ) × HasServed layout counts m j = allowed.serves m known in omega (arith, has.1.count, has.1.within)) is

  pub free-is : (event : Event) → Free layout counts event → marked_refusal layout marking event ≡ None
  free-is (Latch c) free = free-latch c free
  free-is (Fire c) free = free-fire c free
  free-is (Serve m p) free = free-serve m p free
  free-is (Finish m) free = free-finish m free

  -- the turn that is due in a machine that may serve a port
  pub due-is : (m p : ℕ) (free : FreeServe layout counts m p) → due_turn layout marking m ≡ Some free.turn
  due-is m p free = ap (slice_get (turns_at layout m)) (let j_is : value_at marking.served m ≡ free.served = omega (arith, free.count) in j_is) ∙ free.due
