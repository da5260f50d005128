-- The marked in-signals are what a signal needs, where just what it reaches is marked.
use Rattle.std.proofs.Common.{◌≡◌, ℕ, ◌+◌, ◌<◌, List, [], ◌∷◌, ◌++◌, length, take, get_or, Bool, true, false, true≢false, sym, ◌∙◌, ap, subst, inl, inr, arith}
use Rattle.std.specs.Prelude.{AllPairs, Contains}
use Rattle.std.proofs.lemmas.List.{get_or_default, get_or-take, length-take}
use Rattle.std.proofs.lemmas.List.Elements.{Contains-append_left, Contains-push, Contains-push_cases}
use Rattle.std.proofs.lemmas.List.Quantifiers.{all_pairs_push}
use Rattle.std.proofs.lemmas.Bool.{cases_lt}
use Rattle.gg_flat.specs.Line.{value_at}
use Rattle.gg_flat.specs.Circuit.{FlatCircuit}
use Rattle.gg_order.specs.Marks.{is_marked}
use Rattle.gg_order.specs.needs.Needs.{AreNeeds}
use Rattle.gg_order.specs.inside.NeedsMarks.{marks_of, any_marks}
use Rattle.gg_order.specs.inside.Walk.{MarksReached, AreMarkedIns, AreMarkedAmong}
use Rattle.gg_order.proofs.NeedsLemmas.AddLemmas.{any-marked}

-- ---- the marked in-signals, place by place

pub AreMarkedIns-none : (circuit : FlatCircuit) (marks : List Bool) → AreMarkedIns circuit marks 0 []
AreMarkedIns-none circuit marks =
    record {
      ascending = λ i j d lt within. absurd (omega arith);
      exact = λ place. (λ h. absurd (omega (arith, h.1)), λ h. absurd (omega (arith, h.0)));
    }

pub AreMarkedIns-skip : (circuit : FlatCircuit) (marks : List Bool) (k : ℕ) (needs : List ℕ) → is_marked marks (value_at circuit.ins k) ≡ false → AreMarkedIns circuit marks k needs → AreMarkedIns circuit marks (k + 1) needs
AreMarkedIns-skip circuit marks k needs not h =
    record {
      ascending = h.ascending;
      exact = λ place. (
        λ has. let old = (h.exact place).0 has in (omega (arith, old.0), old.1),
        λ both. elim (cases_lt place k) [
          | inl less ↦ (h.exact place).1 (less, both.1)
          | inr ge ↦
              let same : place ≡ k = omega (arith, both.0, ge) in
              absurd (true≢false (sym both.1 ∙ ap (λ (x : ℕ). is_marked marks (value_at circuit.ins x)) same ∙ not))
        ],
      );
    }

pub AreMarkedIns-push : (circuit : FlatCircuit) (marks : List Bool) (k : ℕ) (needs : List ℕ) → is_marked marks (value_at circuit.ins k) ≡ true → AreMarkedIns circuit marks k needs → AreMarkedIns circuit marks (k + 1) (needs ++ k ∷ [])
AreMarkedIns-push circuit marks k needs is h =
    record {
      ascending = all_pairs_push (λ (a b : ℕ). a < b) needs k h.ascending (λ i d lt.
          ((h.exact (get_or needs i d)).0 (i, lt, get_or_default needs i (get_or needs i d) d lt)).0);
      exact = λ place. (
        λ has. elim (Contains-push_cases needs k place has) [
          | inl old ↦ let both = (h.exact place).0 old in (omega (arith, both.0), both.1)
          | inr same ↦ (omega (arith, same), subst (λ (x : ℕ). is_marked marks (value_at circuit.ins x) ≡ true) same is)
        ],
        λ both. elim (cases_lt place k) [
          | inl less ↦ Contains-append_left needs (k ∷ []) place ((h.exact place).1 (less, both.1))
          | inr ge ↦
              let same : k ≡ place = omega (arith, both.0, ge) in
              subst (Contains (needs ++ k ∷ [])) same (Contains-push needs k)
        ],
      );
    }

-- ---- the marked ones among places that are listed

pub AreMarkedAmong-none : (circuit : FlatCircuit) (marks : List Bool) → AreMarkedAmong circuit marks [] []
AreMarkedAmong-none circuit marks =
    record {
      ascending = λ i j d lt within. absurd (omega arith);
      exact = λ place. (λ h. absurd (omega (arith, h.1)), λ h. absurd (omega (arith, h.0.1)));
    }

pub AreMarkedAmong-skip : (circuit : FlatCircuit) (marks : List Bool) (places : List ℕ) (k : ℕ) (needs : List ℕ) → is_marked marks (value_at circuit.ins k) ≡ false → AreMarkedAmong circuit marks places needs → AreMarkedAmong circuit marks (places ++ k ∷ []) needs
AreMarkedAmong-skip circuit marks places k needs not h =
    record {
      ascending = h.ascending;
      exact = λ place. (
        λ has. let old = (h.exact place).0 has in (Contains-append_left places (k ∷ []) place old.0, old.1),
        λ both. elim (Contains-push_cases places k place both.0) [
          | inl old ↦ (h.exact place).1 (old, both.1)
          | inr same ↦ absurd (true≢false (sym both.1 ∙ ap (λ (x : ℕ). is_marked marks (value_at circuit.ins x)) (sym same) ∙ not))
        ],
      );
    }

pub AreMarkedAmong-push : (circuit : FlatCircuit) (marks : List Bool) (places : List ℕ) (k : ℕ) (needs : List ℕ) → is_marked marks (value_at circuit.ins k) ≡ true → ((place : ℕ) → Contains places place → place < k) → AreMarkedAmong circuit marks places needs → AreMarkedAmong circuit marks (places ++ k ∷ []) (needs ++ k ∷ [])
AreMarkedAmong-push circuit marks places k needs is below h =
    record {
      ascending = all_pairs_push (λ (a b : ℕ). a < b) needs k h.ascending (λ i d lt.
          below (get_or needs i d) ((h.exact (get_or needs i d)).0 (i, lt, get_or_default needs i (get_or needs i d) d lt)).0);
      exact = λ place. (
        λ has. elim (Contains-push_cases needs k place has) [
          | inl old ↦ let both = (h.exact place).0 old in (Contains-append_left places (k ∷ []) place both.0, both.1)
          | inr same ↦ (subst (Contains (places ++ k ∷ [])) same (Contains-push places k), subst (λ (x : ℕ). is_marked marks (value_at circuit.ins x) ≡ true) same is)
        ],
        λ both. elim (Contains-push_cases places k place both.0) [
          | inl old ↦ Contains-append_left needs (k ∷ []) place ((h.exact place).1 (old, both.1))
          | inr same ↦ subst (Contains (needs ++ k ∷ [])) same (Contains-push needs k)
        ],
      );
    }

-- in an ascending list each place is below the places after it
pub touched-before : (places : List ℕ) (i : ℕ) → i < length places → AllPairs (λ a b. a < b) places → (place : ℕ) → Contains (take i places) place → place < value_at places i
touched-before places i within rising place has =
    let less : has.0 < i = omega (arith, has.1, length-take i places) in
    let at : get_or places has.0 place ≡ place = sym (get_or-take i places has.0 place less) ∙ has.2 in
    let rises = rising has.0 i place less within in
    omega (arith, rises, at, get_or_default places i 0 place within)

-- a signal with the mark of one out-signal has a mark
pub AreMarkedIns-among : (circuit : FlatCircuit) (place : ℕ) (marks touched needs : List ℕ) → AreMarkedIns circuit (any_marks marks) (length circuit.ins) touched → AreMarkedAmong circuit (marks_of place marks) touched needs → AreMarkedIns circuit (marks_of place marks) (length circuit.ins) needs
AreMarkedIns-among circuit place marks touched needs all h =
    record {
      ascending = h.ascending;
      exact = λ in_place. (
        λ has. let both = (h.exact in_place).0 has in (((all.exact in_place).0 both.0).0, both.1),
        λ both. (h.exact in_place).1 ((all.exact in_place).1 (both.0, any-marked place marks (value_at circuit.ins in_place) both.1), both.1),
      );
    }

-- ---- what a signal needs

pub AreNeeds-marked : (circuit : FlatCircuit) (out : ℕ) (marks : List Bool) (needs : List ℕ) → MarksReached circuit out marks → AreMarkedIns circuit marks (length circuit.ins) needs → AreNeeds circuit out needs
AreNeeds-marked circuit out marks needs exact h =
    record {
      ascending = h.ascending;
      exact = λ place. (
        λ has. let both = (h.exact place).0 has in (both.0, (exact (value_at circuit.ins place)).0 both.1),
        λ both. (h.exact place).1 (both.0, (exact (value_at circuit.ins place)).1 both.1),
      );
    }
