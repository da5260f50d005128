-- What machines have, gathered machine by machine.
use Rattle.std.proofs.Common.{◌≡◌, ◌≢◌, ℕ, ◌+◌, ◌<◌, ◌≤◌, List, [], ◌∷◌, ◌++◌, length, set, take, drop, refl, sym, ◌∙◌, ap, subst, inl, inr, ◌⊎◌, arith}
use Rattle.std.specs.Prelude.{slice_index_or}
use Rattle.std.proofs.lemmas.Bool.{cases_lt}
use Rattle.std.proofs.lemmas.List.{get_or-set_other, length-set, length_push, get_or_append_left, get_or_push, take-append-le, take_all}
use Rattle.gg_cut_split.specs.declared.share.Share.{Share}
use Rattle.gg_cut_split.specs.inside.IsShare.{IsGathered, AreGathered}

-- after a slice is written to the whole of a vector, the vector holds the slice
pub written : {A : Type 0} (n : ℕ) (new old : List A) → length new ≡ n → take n (new ++ drop (length new) old) ≡ new
written n new old many = take-append-le n new (drop (length new) old) (omega arith) ∙ take_all n new (omega arith)

-- the lists of the machines from m on are as they were
pub record LeftFrom (m : ℕ) (old lists : List (List ℕ)) : Type 0 where
  pub many : length lists ≡ length old
  pub left : (k : ℕ) → m ≤ k → slice_index_or lists k [] ≡ slice_index_or old k []

pub LeftFrom-all : (old : List (List ℕ)) → LeftFrom 0 old old
LeftFrom-all old = record { many = refl; left = λ k le. refl }

pub LeftFrom-more : (m : ℕ) (old lists new : List (List ℕ)) → new ≡ set lists m [] → LeftFrom m old lists → LeftFrom (m + 1) old new
LeftFrom-more m old lists new is before =
    record {
      many = ap length is ∙ length-set lists m [] ∙ before.many;
      left = λ k le. ap (λ (l : List (List ℕ)). slice_index_or l k []) is ∙ get_or-set_other lists m k [] [] (let ne : k ≢ m = omega (arith, le) in ne) ∙ before.left k (omega (arith, le));
    }

-- the machines before m have their shares, and the lists of the others are as they were
pub record GatheredTo (globals memories : List (List ℕ)) (m : ℕ) (now_globals now_memories : List (List ℕ)) (shares : List Share) : Type 0 where
  pub globals_left : LeftFrom m globals now_globals
  pub memories_left : LeftFrom m memories now_memories
  pub made : AreGathered globals memories m shares

pub GatheredTo-none : (globals memories : List (List ℕ)) (shares : List Share) → shares ≡ [] → GatheredTo globals memories 0 globals memories shares
GatheredTo-none globals memories shares none =
    record {
      globals_left = LeftFrom-all globals;
      memories_left = LeftFrom-all memories;
      made = record { many = ap length none; each = λ m any lt. absurd (omega (arith, lt)) };
    }

module _ (globals memories : List (List ℕ)) (m : ℕ) (now_globals now_memories : List (List ℕ)) (shares : List Share) (before : GatheredTo globals memories m now_globals now_memories shares) where
  same-share : (share : Share) → IsGathered now_globals now_memories m share → IsGathered globals memories m share
  same-share share is = record { signals = is.signals ∙ before.globals_left.left m (omega arith); banks = is.banks ∙ before.memories_left.left m (omega arith) }

  pub GatheredTo-more : (share : Share) (new_globals new_memories : List (List ℕ)) (new : List Share) → IsGathered now_globals now_memories m share → new_globals ≡ set now_globals m [] → new_memories ≡ set now_memories m [] → new ≡ shares ++ share ∷ [] → GatheredTo globals memories (m + 1) new_globals new_memories new
  GatheredTo-more share new_globals new_memories new is g b pushed =
      record {
        globals_left = LeftFrom-more m globals now_globals new_globals g before.globals_left;
        memories_left = LeftFrom-more m memories now_memories new_memories b before.memories_left;
        made = record { many = ap length pushed ∙ length_push shares share ∙ ap (λ n. n + 1) before.made.many; each = λ k any lt. by k any lt (cases_lt k m) };
      }
    where
      by : (k : ℕ) (any : Share) → k < m + 1 → (k < m) ⊎ (m ≤ k) → IsGathered globals memories k (slice_index_or new k any)
      by k any lt (inl less) =
          subst (IsGathered globals memories k)
          (sym (ap (λ (l : List Share). slice_index_or l k any) pushed ∙ get_or_append_left shares (share ∷ []) any k (omega (arith, less, before.made.many))))
          (before.made.each k any less)
      by k any lt (inr le) =
          let same : k ≡ m = omega (arith, lt, le) in
          subst (λ j. IsGathered globals memories j (slice_index_or new j any)) (sym same)
          (subst (IsGathered globals memories m) (sym (ap (λ (l : List Share). slice_index_or l m any) pushed ∙ get_or_push shares share any m before.made.many)) (same-share share is))
