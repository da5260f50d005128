-- The table of what signals are to the hub, channel by channel.
use Rattle.std.proofs.Common.{◌≡◌, ℕ, ◌+◌, ◌<◌, ◌≤◌, List, [], ◌∷◌, ◌++◌, length, take, set, Bool, true, false, refl, sym, ◌∙◌, ap, subst, inl, inr, ◌⊎◌}
use Rattle.std.specs.Prelude.{◌&&◌, ◌||◌, ◌==◌, if◌then◌else◌}
use Rattle.std.specs.List.{list_any}
use Rattle.std.proofs.lemmas.Bool.{cases_eq, eqb-true, ne_eqb}
use Rattle.std.proofs.lemmas.List.{get_or-set_same, get_or-set_other, length-set, take_more, take_all}
use Rattle.std.proofs.lemmas.List.Elements.{Contains-append_left, Contains-append_right}
use Rattle.std.proofs.lemmas.List.Folds.{list_any-append}
use Rattle.gg_flat.proofs.ListLemmas.{here}
use Rattle.gg_cut_plan.specs.declared.wires.Wire.{Wire}
use Rattle.gg_cut_plan.specs.Channels.{wire}
use Rattle.gg_cut_plan.specs.Plan.{wire_at}
use Rattle.gg_cut_routes.specs.declared.sides.Side.{Side}
use Rattle.gg_cut_routes.specs.declared.sides.Side.TheVariants.{Other, Own, Out, In}
use Rattle.gg_cut_routes.specs.inside.Tables.{side_at, side_by, ends_at_hub, IsCarried, IsSide, AreSides}

-- ---- the hub's own signals

-- the signals before place i are the hub's own
pub record OwnTo (globals : List ℕ) (i : ℕ) (old sides : List Side) : Type 0 where
  pub count : length sides ≡ length old
  pub own : (s : ℕ) → side_at sides s ≡ (if list_any (λ t. s == t) (take i globals) then Own else Other)

-- ---- channels

module _ (globals : List ℕ) (done : List Wire) (w : Wire) where
  more-carried : (s producer consumer : ℕ) → IsCarried done s producer consumer → IsCarried (done ++ w ∷ []) s producer consumer
  more-carried s producer consumer c = record { wire = c.wire; among = Contains-append_left done (w ∷ []) c.wire c.among; is = c.is; from = c.from; to = c.to }

  last-carried : (producer consumer : ℕ) → w.producer ≡ producer → w.consumer ≡ consumer → IsCarried (done ++ w ∷ []) w.signal producer consumer
  last-carried producer consumer from to = record { wire = w; among = Contains-append_right done (w ∷ []) w (here w []); is = refl; from = from; to = to }

  more-none : (s : ℕ) → ends_at_hub s w ≡ false → list_any (ends_at_hub s) done ≡ false → list_any (ends_at_hub s) (done ++ w ∷ []) ≡ false
  more-none s off none =
      list_any-append (ends_at_hub s) done (w ∷ [])
      ∙ ap (λ b. b || (ends_at_hub s w || false)) none
      ∙ ap (λ b. b || false) off

  -- a channel that doesn't end at the hub, or carries another signal
  still : (s : ℕ) (side : Side) → ends_at_hub s w ≡ false → IsSide done globals s side → IsSide (done ++ w ∷ []) globals s side
  still s Other off is = (is.0, more-none s off is.1)
  still s Own off is = (is.0, more-none s off is.1)
  still s Out off is = record { consumer = is.consumer; carried = more-carried s 0 is.consumer is.carried }
  still s (In producer) off is = more-carried s producer 0 is

  -- the signal of this channel
  now : (side : Side) → IsSide done globals w.signal side → IsSide (done ++ w ∷ []) globals w.signal (side_by w side)
  now side is = by (w.consumer == 0) (w.producer == 0) refl refl
    where
      by : (to from : Bool) → (w.consumer == 0) ≡ to → (w.producer == 0) ≡ from → IsSide (done ++ w ∷ []) globals w.signal (side_by w side)
      by true from a b =
          subst (IsSide (done ++ w ∷ []) globals w.signal) (sym (ap (λ t. if t then In w.producer else (if w.producer == 0 then Out else side)) a))
          (last-carried w.producer 0 refl (eqb-true w.consumer 0 a))
      by false true a b =
          subst (IsSide (done ++ w ∷ []) globals w.signal)
          (sym (ap (λ t. if t then In w.producer else (if w.producer == 0 then Out else side)) a ∙ ap (λ t. if t then Out else side) b))
          (record { consumer = w.consumer; carried = last-carried 0 w.consumer (eqb-true w.producer 0 b) refl })
      by false false a b =
          subst (IsSide (done ++ w ∷ []) globals w.signal)
          (sym (ap (λ t. if t then In w.producer else (if w.producer == 0 then Out else side)) a ∙ ap (λ t. if t then Out else side) b))
          (still w.signal side (ap (λ t. (t || (w.producer == 0)) && (w.signal == w.signal)) a ∙ ap (λ t. t && (w.signal == w.signal)) b) is)

-- what the channels before place i say of each signal
pub record SidesTo (wires : List Wire) (i : ℕ) (old sides : List Side) : Type 0 where
  pub count : length sides ≡ length old
  pub each : (globals : List ℕ) → ((s : ℕ) → side_at old s ≡ (if list_any (λ t. s == t) globals then Own else Other)) → AreSides (take i wires) globals sides

pub SidesTo-none : (wires : List Wire) (old : List Side) → SidesTo wires 0 old old
SidesTo-none wires old = record { count = refl; each = λ globals own s. subst (IsSide [] globals s) (sym (own s)) (by globals s (list_any (λ t. s == t) globals) refl) }
  where
    by : (globals : List ℕ) (s : ℕ) (b : Bool) → list_any (λ t. s == t) globals ≡ b → IsSide [] globals s (if b then Own else Other)
    by globals s true e = (e, refl)
    by globals s false e = (e, refl)

pub SidesTo-more : (wires : List Wire) (i : ℕ) (old sides : List Side) → i < length wires → (wire_at wires i).signal < length sides → SidesTo wires i old sides → SidesTo wires (i + 1) old (set sides (wire_at wires i).signal (side_by (wire_at wires i) (side_at sides (wire_at wires i).signal)))
SidesTo-more wires i old sides lt within before =
    record {
      count = length-set sides (wire_at wires i).signal (side_by (wire_at wires i) (side_at sides (wire_at wires i).signal)) ∙ before.count;
      each = λ globals own s.
          subst (λ (done : List Wire). IsSide done globals s (side_at (set sides (wire_at wires i).signal (side_by (wire_at wires i) (side_at sides (wire_at wires i).signal))) s)) (sym (take_more wires i (wire 0 0 0) lt))
          (by globals s (before.each globals own) (cases_eq s (wire_at wires i).signal));
    }
  where
    by : (globals : List ℕ) (s : ℕ) → AreSides (take i wires) globals sides → (s ≡ (wire_at wires i).signal) ⊎ (s ≡ (wire_at wires i).signal → ⊥) → IsSide (take i wires ++ wire_at wires i ∷ []) globals s (side_at (set sides (wire_at wires i).signal (side_by (wire_at wires i) (side_at sides (wire_at wires i).signal))) s)
    by globals s are (inl same) =
        subst (λ t. IsSide (take i wires ++ wire_at wires i ∷ []) globals t (side_at (set sides (wire_at wires i).signal (side_by (wire_at wires i) (side_at sides (wire_at wires i).signal))) t)) (sym same)
        (subst (IsSide (take i wires ++ wire_at wires i ∷ []) globals (wire_at wires i).signal) (sym (get_or-set_same sides (wire_at wires i).signal (side_by (wire_at wires i) (side_at sides (wire_at wires i).signal)) Other within))
        (now globals (take i wires) (wire_at wires i) (side_at sides (wire_at wires i).signal) (are (wire_at wires i).signal)))
    by globals s are (inr other) =
        subst (IsSide (take i wires ++ wire_at wires i ∷ []) globals s) (sym (get_or-set_other sides (wire_at wires i).signal s (side_by (wire_at wires i) (side_at sides (wire_at wires i).signal)) Other other))
        (still globals (take i wires) (wire_at wires i) s (side_at sides s) (no-end s other) (are s))
      where
        no-end : (s : ℕ) → (s ≡ (wire_at wires i).signal → ⊥) → ends_at_hub s (wire_at wires i) ≡ false
        no-end s other = and-false (((wire_at wires i).consumer == 0) || ((wire_at wires i).producer == 0)) ((wire_at wires i).signal == s) (ne_eqb (wire_at wires i).signal s (λ e. absurd (other (sym e))))
          where
            and-false : (a b : Bool) → b ≡ false → (a && b) ≡ false
            and-false true b e = e
            and-false false b e = refl

pub SidesTo-end : (wires : List Wire) (i : ℕ) (old sides : List Side) → SidesTo wires i old sides → length wires ≤ i → (globals : List ℕ) → ((s : ℕ) → side_at old s ≡ (if list_any (λ t. s == t) globals then Own else Other)) → AreSides wires globals sides
SidesTo-end wires i old sides before past globals own s = subst (λ (done : List Wire). IsSide done globals s (side_at sides s)) (take_all i wires past) (before.each globals own s)
