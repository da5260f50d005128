-- Facts that agree at each channel and each machine that exists get the same answers from the table of steps.
use Rattle.std.proofs.Common.{◌≡◌, ℕ, zero, suc, ◌+◌, ◌<◌, ◌≤◌, List, [], ◌∷◌, Option, None, Some, Bool, true, false, cond, refl, sym, ap, ◌∙◌, ⊎_elim, arith}
use Rattle.std.specs.Prelude.{All, not, nat_lt, filter, ◌==◌}
use Rattle.std.specs.List.{range_with_len}
use Rattle.std.proofs.lemmas.Bool.{cases_lt}
use Rattle.gg_net.specs.declared.event.Event.{Event}
use Rattle.gg_net.specs.declared.event.Event.TheVariants.{Latch, Fire, Serve, Finish}
use Rattle.gg_net.specs.declared.event.StepRefusal.{StepRefusal}
use Rattle.gg_net.specs.declared.event.StepRefusal.TheVariants.{Stranger, Ended, Latched, Fired, NoToken, NeedsInput, Full, Order, Unfired}
use Rattle.gg_net.specs.Refusal.{Turn, Facts, ins_of_machine, outs_of_machine, unless, naming, first_without, needing, not_due, unserved, refusal, latch_refusal, fire_refusal, serve_refusal, finish_refusal}
use Rattle.gg_bits.specs.Lists.{or_else}
use Rattle.gg_net.proofs.RowLemmas.{latch-stranger, fire-stranger, serve-stranger, finish-stranger}

-- ---- searches

pub first-alike : (p q : ℕ → Bool) (xs : List ℕ) → All (λ d. p d ≡ q d) xs → first_without p xs ≡ first_without q xs
first-alike p q [] same = refl
first-alike p q (d ∷ xs) same =
    ap (λ b. cond (not b) (Some d) (first_without p xs)) (same 0 0 (omega arith))
    ∙ ap (λ o. cond (not (q d)) (Some d) o) (first-alike p q xs (λ k any lt. same (suc k) any (omega (arith, lt))))

pub chosen-alike : (p q s t : ℕ → Bool) (a n : ℕ) → ((c : ℕ) → c < a + n → p c ≡ q c) → ((c : ℕ) → c < a + n → s c ≡ t c) → first_without p (filter s (range_with_len a n)) ≡ first_without q (filter t (range_with_len a n))
chosen-alike p q s t a zero marks same = refl
chosen-alike p q s t a (suc n) marks same =
    let one : List ℕ = filter s (range_with_len (a + 1) n) in
    let other : List ℕ = filter t (range_with_len (a + 1) n) in
    ap (λ b. first_without p (cond b (a ∷ one) one)) (same a (omega arith))
    ∙ by (t a) one other (marks a (omega arith)) (chosen-alike p q s t (a + 1) n (λ c lt. marks c (omega (arith, lt))) (λ c lt. same c (omega (arith, lt))))
  where
    by : (b : Bool) (one other : List ℕ) → p a ≡ q a → first_without p one ≡ first_without q other → first_without p (cond b (a ∷ one) one) ≡ first_without q (cond b (a ∷ other) other)
    by true one other mark rest = ap (λ b. cond (not b) (Some a) (first_without p one)) mark ∙ ap (λ o. cond (not (q a)) (Some a) o) rest
    by false one other mark rest = rest

-- The facts agree wherever a channel or a machine exists.
pub record AreAlike (a b : Facts) : Type 0 where
  pub channels : a.channels ≡ b.channels
  pub machines : a.machines ≡ b.machines
  pub ports : (m : ℕ) → a.ports m ≡ b.ports m
  pub below : (m : ℕ) → a.below m ≡ b.below m
  pub producer : (c : ℕ) → c < a.channels → a.producer c ≡ b.producer c
  pub consumer : (c : ℕ) → c < a.channels → a.consumer c ≡ b.consumer c
  pub needs : (c : ℕ) → c < a.channels → a.needs c ≡ b.needs c
  pub capacity : (c : ℕ) → c < a.channels → a.capacity c ≡ b.capacity c
  pub taken : (c : ℕ) → c < a.channels → a.taken c ≡ b.taken c
  pub given : (c : ℕ) → c < a.channels → a.given c ≡ b.given c
  pub held : (c : ℕ) → c < a.channels → a.held c ≡ b.held c
  pub due : (m : ℕ) → m < a.machines → a.due m ≡ b.due m
  -- what is needed and what is looked at are channels, and ports are those of a machine
  pub needed : (c : ℕ) → c < a.channels → All (λ d. d < a.channels) (b.needs c)
  pub fields : (m : ℕ) (turn : Turn) → m < a.machines → b.due m ≡ Some turn → All (λ d. d < a.channels) turn.fields
  pub there : (m p : ℕ) → p < a.ports m → m < a.machines

module _ (a b : Facts) (alike : AreAlike a b) where
  -- ---- the parts of conditions

  needing-same : (xs ys : List ℕ) → xs ≡ ys → All (λ d. d < a.channels) ys → needing a xs ≡ needing b ys
  needing-same xs ys same known = ap (needing a) same ∙ ap (naming NeedsInput) (first-alike a.taken b.taken ys (λ k any lt. alike.taken _ (known k any lt)))

  pub outs-same : (m : ℕ) → first_without a.given (outs_of_machine a m) ≡ first_without b.given (outs_of_machine b m)
  outs-same m =
      chosen-alike a.given b.given (λ c. a.producer c == m) (λ c. b.producer c == m) 0 a.channels (λ c lt. alike.given c (omega (arith, lt))) (λ c lt. ap (λ k. k == m) (alike.producer c (omega (arith, lt))))
      ∙ ap (λ n. first_without b.given (filter (λ c. b.producer c == m) (range_with_len 0 n))) alike.channels

  ins-same : (m : ℕ) → first_without a.taken (ins_of_machine a m) ≡ first_without b.taken (ins_of_machine b m)
  ins-same m =
      chosen-alike a.taken b.taken (λ c. a.consumer c == m) (λ c. b.consumer c == m) 0 a.channels (λ c lt. alike.taken c (omega (arith, lt))) (λ c lt. ap (λ k. k == m) (alike.consumer c (omega (arith, lt))))
      ∙ ap (λ n. first_without b.taken (filter (λ c. b.consumer c == m) (range_with_len 0 n))) alike.channels

  due-same : (m p : ℕ) (o : Option Turn) → m < a.machines → b.due m ≡ o → not_due a m p o ≡ not_due b m p o
  due-same m p None there is = ap (λ n. Some (Order n)) (alike.ports m)
  due-same m p (Some turn) there is = ap (or_else (unless (turn.number == p) (Order turn.number))) (needing-same turn.fields turn.fields refl (alike.fields m turn there is))

  pub needs-same : (c : ℕ) → c < a.channels → first_without a.taken (a.needs c) ≡ first_without b.taken (b.needs c)
  needs-same c lt = ap (first_without a.taken) (alike.needs c lt) ∙ first-alike a.taken b.taken (b.needs c) (λ k any k_lt. alike.taken _ (alike.needed c lt k any k_lt))

  -- ---- the rows

  abbrev latch_by : ℕ → ℕ → Bool → Bool → ℕ → Option StepRefusal
  latch_by c n below taken held = or_else (unless (nat_lt c n) Stranger) (or_else (unless below Ended) (or_else (unless (not taken) Latched) (unless (nat_lt 0 held) (NoToken c))))

  same-latch : (c : ℕ) → latch_refusal a c ≡ latch_refusal b c
  same-latch c =
      ⊎_elim
      (λ (lt : c < a.channels).
      ap (λ n. latch_by c n (a.below (a.consumer c)) (a.taken c) (a.held c)) alike.channels
      ∙ ap (λ x. latch_by c b.channels x (a.taken c) (a.held c)) (alike.below (a.consumer c) ∙ ap b.below (alike.consumer c lt))
      ∙ ap (λ x. latch_by c b.channels (b.below (b.consumer c)) x (a.held c)) (alike.taken c lt)
      ∙ ap (latch_by c b.channels (b.below (b.consumer c)) (b.taken c)) (alike.held c lt))
      (λ (past : a.channels ≤ c). latch-stranger a c past ∙ sym (latch-stranger b c (omega (arith, past, alike.channels))))
      (cases_lt c a.channels)

  abbrev fire_by : ℕ → ℕ → Bool → Bool → Option StepRefusal → ℕ → ℕ → Option StepRefusal
  fire_by c n below given needs held capacity = or_else (unless (nat_lt c n) Stranger) (or_else (unless below Ended) (or_else (unless (not given) Fired) (or_else needs (unless (nat_lt held capacity) (Full c held)))))

  same-fire : (c : ℕ) → fire_refusal a c ≡ fire_refusal b c
  same-fire c =
      ⊎_elim
      (λ (lt : c < a.channels).
      ap (λ n. fire_by c n (a.below (a.producer c)) (a.given c) (needing a (a.needs c)) (a.held c) (a.capacity c)) alike.channels
      ∙ ap (λ x. fire_by c b.channels x (a.given c) (needing a (a.needs c)) (a.held c) (a.capacity c)) (alike.below (a.producer c) ∙ ap b.below (alike.producer c lt))
      ∙ ap (λ x. fire_by c b.channels (b.below (b.producer c)) x (needing a (a.needs c)) (a.held c) (a.capacity c)) (alike.given c lt)
      ∙ ap (λ x. fire_by c b.channels (b.below (b.producer c)) (b.given c) x (a.held c) (a.capacity c)) (needing-same (a.needs c) (b.needs c) (alike.needs c lt) (alike.needed c lt))
      ∙ ap (λ n. fire_by c b.channels (b.below (b.producer c)) (b.given c) (needing b (b.needs c)) n (a.capacity c)) (alike.held c lt)
      ∙ ap (fire_by c b.channels (b.below (b.producer c)) (b.given c) (needing b (b.needs c)) (b.held c)) (alike.capacity c lt))
      (λ (past : a.channels ≤ c). fire-stranger a c past ∙ sym (fire-stranger b c (omega (arith, past, alike.channels))))
      (cases_lt c a.channels)

  abbrev serve_by : ℕ → ℕ → Bool → Option ℕ → Option StepRefusal → Option StepRefusal
  serve_by p n below first due = or_else (unless (nat_lt p n) Stranger) (or_else (unless below Ended) (or_else (naming Unfired first) due))

  same-serve : (m p : ℕ) → serve_refusal a m p ≡ serve_refusal b m p
  same-serve m p =
      ⊎_elim
      (λ (lt : p < a.ports m).
      let there : m < a.machines = alike.there m p lt in
      ap (λ n. serve_by p n (a.below m) (first_without a.given (outs_of_machine a m)) (not_due a m p (a.due m))) (alike.ports m)
      ∙ ap (λ x. serve_by p (b.ports m) x (first_without a.given (outs_of_machine a m)) (not_due a m p (a.due m))) (alike.below m)
      ∙ ap (λ o. serve_by p (b.ports m) (b.below m) o (not_due a m p (a.due m))) (outs-same m)
      ∙ ap (serve_by p (b.ports m) (b.below m) (first_without b.given (outs_of_machine b m))) (ap (not_due a m p) (alike.due m there) ∙ due-same m p (b.due m) there refl))
      (λ (past : a.ports m ≤ p). serve-stranger a m p past ∙ sym (serve-stranger b m p (omega (arith, past, alike.ports m))))
      (cases_lt p (a.ports m))

  abbrev finish_by : ℕ → ℕ → Bool → Option ℕ → Option Turn → Option ℕ → Option StepRefusal
  finish_by m n below first due last = or_else (unless (nat_lt m n) Stranger) (or_else (unless below Ended) (or_else (naming Unfired first) (or_else (unserved due) (naming NeedsInput last))))

  same-finish : (m : ℕ) → finish_refusal a m ≡ finish_refusal b m
  same-finish m =
      ⊎_elim
      (λ (there : m < a.machines).
      ap (λ n. finish_by m n (a.below m) (first_without a.given (outs_of_machine a m)) (a.due m) (first_without a.taken (ins_of_machine a m))) alike.machines
      ∙ ap (λ x. finish_by m b.machines x (first_without a.given (outs_of_machine a m)) (a.due m) (first_without a.taken (ins_of_machine a m))) (alike.below m)
      ∙ ap (λ o. finish_by m b.machines (b.below m) o (a.due m) (first_without a.taken (ins_of_machine a m))) (outs-same m)
      ∙ ap (λ o. finish_by m b.machines (b.below m) (first_without b.given (outs_of_machine b m)) o (first_without a.taken (ins_of_machine a m))) (alike.due m there)
      ∙ ap (finish_by m b.machines (b.below m) (first_without b.given (outs_of_machine b m)) (b.due m)) (ins-same m))
      (λ (past : a.machines ≤ m). finish-stranger a m past ∙ sym (finish-stranger b m (omega (arith, past, alike.machines))))
      (cases_lt m a.machines)

  pub same-refusal : (event : Event) → refusal a event ≡ refusal b event
  same-refusal (Latch c) = same-latch c
  same-refusal (Fire c) = same-fire c
  same-refusal (Serve m p) = same-serve m p
  same-refusal (Finish m) = same-finish m
