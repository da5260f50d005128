-- The table of steps over any facts: what holds where it doesn't refuse, and that it doesn't where that holds.
use Rattle.std.proofs.Common.{◌≡◌, ℕ, ◌<◌, ◌≤◌, Option, None, Some, Bool, true, false, refl, ap, ◌∙◌}
use Rattle.std.specs.Prelude.{not, nat_lt}
use Rattle.std.proofs.lemmas.Bool.{lt-ltb, le-ltb, ltb-true, not-true, eqb-true, eq-eqb}
use Rattle.gg_net.specs.declared.event.StepRefusal.{StepRefusal}
use Rattle.gg_net.specs.declared.event.StepRefusal.TheVariants.{Stranger, NeedsInput, Order, Unfired, Unserved}
use Rattle.gg_net.specs.Refusal.{Turn, Facts, ins_of_machine, outs_of_machine, unless, naming, first_without, not_due, unserved, latch_refusal, fire_refusal, serve_refusal, finish_refusal}
use Rattle.gg_bits.specs.Lists.{or_else}
use Rattle.gg_net.proofs.FindLemmas.{failed, some-none}

-- ---- conditions in a row

both-pass : (a b : Option StepRefusal) → or_else a b ≡ None → (a ≡ None) × (b ≡ None)
both-pass None b is = (refl, is)
both-pass (Some cause) b is = absurd (some-none cause is)

pass-both : (a b : Option StepRefusal) → a ≡ None → b ≡ None → or_else a b ≡ None
pass-both a b one other = ap (λ o. or_else o b) one ∙ other

holds : (b : Bool) (cause : StepRefusal) → unless b cause ≡ None → b ≡ true
holds true cause is = refl
holds false cause is = absurd (some-none cause is)

passes : (b : Bool) (cause : StepRefusal) → b ≡ true → unless b cause ≡ None
passes b cause is = ap (λ x. unless x cause) is

none-named : (f : ℕ → StepRefusal) (o : Option ℕ) → naming f o ≡ None → o ≡ None
none-named f None is = refl
none-named f (Some d) is = absurd (some-none (f d) is)

none-unserved : (o : Option Turn) → unserved o ≡ None → o ≡ None
none-unserved None is = refl
none-unserved (Some turn) is = absurd (some-none (Unserved turn.number) is)

module _ (facts : Facts) where
  -- ---- `Latch` and `Fire`

  module _ (c : ℕ) where
    -- nothing refuses it
    pub record LatchGoes : Type 0 where
      pub known : c < facts.channels
      pub below : facts.below (facts.consumer c) ≡ true
      pub empty : facts.taken c ≡ false
      pub held : 0 < facts.held c

    pub latch-goes : latch_refusal facts c ≡ None → LatchGoes
    latch-goes is =
        let h1 = both-pass _ _ is in
        let h2 = both-pass _ _ h1.1 in
        let h3 = both-pass _ _ h2.1 in
        record { known = ltb-true c facts.channels (holds _ _ h1.0); below = holds _ _ h2.0; empty = not-true (facts.taken c) (holds _ _ h3.0); held = ltb-true 0 (facts.held c) (holds _ _ h3.1) }

    pub goes-latch : LatchGoes → latch_refusal facts c ≡ None
    goes-latch goes =
        pass-both _ _ (passes _ _ (lt-ltb c facts.channels goes.known))
        (pass-both _ _ (passes _ _ goes.below)
        (pass-both _ _ (passes _ _ (ap not goes.empty))
        (passes _ _ (lt-ltb 0 (facts.held c) goes.held))))

    pub latch-stranger : facts.channels ≤ c → latch_refusal facts c ≡ Some Stranger
    latch-stranger past_end = failed (nat_lt c facts.channels) Stranger _ (le-ltb c facts.channels past_end)

    pub record FireGoes : Type 0 where
      pub known : c < facts.channels
      pub below : facts.below (facts.producer c) ≡ true
      pub clear : facts.given c ≡ false
      pub needed : first_without facts.taken (facts.needs c) ≡ None
      pub room : facts.held c < facts.capacity c

    pub fire-goes : fire_refusal facts c ≡ None → FireGoes
    fire-goes is =
        let h1 = both-pass _ _ is in
        let h2 = both-pass _ _ h1.1 in
        let h3 = both-pass _ _ h2.1 in
        let h4 = both-pass _ _ h3.1 in
        record {
          known = ltb-true c facts.channels (holds _ _ h1.0);
          below = holds _ _ h2.0;
          clear = not-true (facts.given c) (holds _ _ h3.0);
          needed = none-named NeedsInput _ h4.0;
          room = ltb-true (facts.held c) (facts.capacity c) (holds _ _ h4.1);
        }

    pub goes-fire : FireGoes → fire_refusal facts c ≡ None
    goes-fire goes =
        pass-both _ _ (passes _ _ (lt-ltb c facts.channels goes.known))
        (pass-both _ _ (passes _ _ goes.below)
        (pass-both _ _ (passes _ _ (ap not goes.clear))
        (pass-both _ _ (ap (naming NeedsInput) goes.needed)
        (passes _ _ (lt-ltb (facts.held c) (facts.capacity c) goes.room)))))

    pub fire-stranger : facts.channels ≤ c → fire_refusal facts c ≡ Some Stranger
    fire-stranger past_end = failed (nat_lt c facts.channels) Stranger _ (le-ltb c facts.channels past_end)

  -- ---- `Serve` and `Finish`

  module _ (m : ℕ) where
    module _ (p : ℕ) where
      -- this port is due, and its fields are there
      pub record IsDue (o : Option Turn) : Type 0 where
        pub turn : Turn
        pub is : o ≡ Some turn
        pub number : turn.number ≡ p
        pub fields : first_without facts.taken turn.fields ≡ None

      is-due : (o : Option Turn) → not_due facts m p o ≡ None → IsDue o
      is-due None is = absurd (some-none (Order (facts.ports m)) is)
      is-due (Some turn) is =
          let h = both-pass _ _ is in
          record { turn = turn; is = refl; number = eqb-true turn.number p (holds _ _ h.0); fields = none-named NeedsInput _ h.1 }

      pub record ServeGoes : Type 0 where
        pub port : p < facts.ports m
        pub below : facts.below m ≡ true
        pub fired : first_without facts.given (outs_of_machine facts m) ≡ None
        pub due : IsDue (facts.due m)

      pub serve-goes : serve_refusal facts m p ≡ None → ServeGoes
      serve-goes is =
          let h1 = both-pass _ _ is in
          let h2 = both-pass _ _ h1.1 in
          let h3 = both-pass _ _ h2.1 in
          record { port = ltb-true p (facts.ports m) (holds _ _ h1.0); below = holds _ _ h2.0; fired = none-named Unfired _ h3.0; due = is-due (facts.due m) h3.1 }

      pub goes-serve : ServeGoes → serve_refusal facts m p ≡ None
      goes-serve goes =
          pass-both _ _ (passes _ _ (lt-ltb p (facts.ports m) goes.port))
          (pass-both _ _ (passes _ _ goes.below)
          (pass-both _ _ (ap (naming Unfired) goes.fired)
          (ap (not_due facts m p) goes.due.is ∙ pass-both _ _ (passes _ _ (eq-eqb goes.due.turn.number p goes.due.number)) (ap (naming NeedsInput) goes.due.fields))))

      pub serve-stranger : facts.ports m ≤ p → serve_refusal facts m p ≡ Some Stranger
      serve-stranger past_end = failed (nat_lt p (facts.ports m)) Stranger _ (le-ltb p (facts.ports m) past_end)

    pub record FinishGoes : Type 0 where
      pub there : m < facts.machines
      pub below : facts.below m ≡ true
      pub fired : first_without facts.given (outs_of_machine facts m) ≡ None
      pub served : facts.due m ≡ None
      pub latched : first_without facts.taken (ins_of_machine facts m) ≡ None

    pub finish-goes : finish_refusal facts m ≡ None → FinishGoes
    finish-goes is =
        let h1 = both-pass _ _ is in
        let h2 = both-pass _ _ h1.1 in
        let h3 = both-pass _ _ h2.1 in
        let h4 = both-pass _ _ h3.1 in
        record { there = ltb-true m facts.machines (holds _ _ h1.0); below = holds _ _ h2.0; fired = none-named Unfired _ h3.0; served = none-unserved (facts.due m) h4.0; latched = none-named NeedsInput _ h4.1 }

    pub goes-finish : FinishGoes → finish_refusal facts m ≡ None
    goes-finish goes =
        pass-both _ _ (passes _ _ (lt-ltb m facts.machines goes.there))
        (pass-both _ _ (passes _ _ goes.below)
        (pass-both _ _ (ap (naming Unfired) goes.fired)
        (pass-both _ _ (ap unserved goes.served) (ap (naming NeedsInput) goes.latched))))

    pub finish-stranger : facts.machines ≤ m → finish_refusal facts m ≡ Some Stranger
    finish-stranger past_end = failed (nat_lt m facts.machines) Stranger _ (le-ltb m facts.machines past_end)
