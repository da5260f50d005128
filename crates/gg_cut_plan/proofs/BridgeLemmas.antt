-- The faults of bridges, entry by entry and port by port.
use Rattle.std.proofs.Common.{◌≡◌, ◌≢◌, ℕ, zero, suc, ◌+◌, ◌-◌, ◌<◌, ◌^◌, List, [], ◌∷◌, ◌++◌, length, get_or, take, drop, slice_get, Bool, true, false, refl, sym, ◌∙◌, ap, subst, Some, None, append_assoc, arith}
use Rattle.std.specs.Prelude.{option_map, flat_map, not, if◌then◌else◌, ◌||◌, ◌&&◌, All}
use Rattle.std.proofs.lemmas.List.{length-append, append-nil, get_or_default, get_or_append_left, take-append-drop}
use Rattle.std.proofs.lemmas.Option.{same_Some}
use Rattle.gg_bits.specs.Shape.{Shape}
use Rattle.gg_flat.specs.Circuit.{FlatCircuit}
use Rattle.gg_cut_plan.specs.Models.{model_circuits}
use Rattle.gg_flat.specs.WellFormed.{IsWellFormed}
use Rattle.gg_partfile.specs.declared.request.BridgeEntry.{BridgeEntry}
use Rattle.gg_cut_plan.specs.declared.fault.CutFault.{CutFault}
use Rattle.gg_cut_plan.specs.declared.fault.CutFault.TheVariants.{WrongPort}
use Rattle.gg_cut_plan.specs.Listed.{is_among}
use Rattle.gg_cut_plan.specs.Fault.{IsTold}
use Rattle.gg_bits.specs.Lists.{or_else, first_of}
use Rattle.gg_cut_plan.specs.Bridges.{Models, wrong_port, fit_ports, shapes_at, Before, before_next, own_faults, faults_after}
use Rattle.gg_cut_plan.proofs.FindLemmas.{or_else-map, told-first, told-same, first-append, rest-at}

-- ---- ports

pub wrong-append : (names earlier xs ys : List (List ℕ)) → wrong_port names earlier (xs ++ ys) ≡ or_else (wrong_port names earlier xs) (wrong_port names (earlier ++ xs) ys)
wrong-append names earlier [] ys = ap (λ l. wrong_port names l ys) (sym (append-nil earlier))
wrong-append names earlier (x ∷ xs) ys =
    by (not (is_among names x) || is_among earlier x) (wrong-append names (earlier ++ x ∷ []) xs ys ∙ ap (λ l. or_else (wrong_port names (earlier ++ x ∷ []) xs) (wrong_port names l ys)) (append_assoc earlier (x ∷ []) xs))
  where
    by : (b : Bool) → wrong_port names (earlier ++ x ∷ []) (xs ++ ys) ≡ or_else (wrong_port names (earlier ++ x ∷ []) xs) (wrong_port names (earlier ++ x ∷ xs) ys)
        → (if b then Some x else wrong_port names (earlier ++ x ∷ []) (xs ++ ys)) ≡ or_else (if b then Some x else wrong_port names (earlier ++ x ∷ []) xs) (wrong_port names (earlier ++ x ∷ xs) ys)
    by true rest = refl
    by false rest = rest

-- a fault told of the port at a place is one of all ports
pub wrong-stop : (names earlier listed ports : List (List ℕ)) (i : ℕ) (port : List ℕ) (cause : CutFault) → i < length listed → port ≡ get_or listed i port → wrong_port names earlier listed ≡ wrong_port names ports (drop i listed)
    → IsTold (option_map WrongPort (wrong_port names ports (port ∷ []))) cause → IsTold (option_map WrongPort (wrong_port names earlier listed)) cause
wrong-stop names earlier listed ports i port cause lt read so_far told =
    let rest = wrong_port names (ports ++ port ∷ []) (drop (i + 1) listed) in
    told-same (or_else (option_map WrongPort (wrong_port names ports (port ∷ []))) (option_map WrongPort rest)) (option_map WrongPort (wrong_port names earlier listed)) cause
    (sym (or_else-map WrongPort (wrong_port names ports (port ∷ [])) rest)
    ∙ ap (option_map WrongPort) (sym (so_far ∙ ap (wrong_port names ports) (rest-at listed i port lt read) ∙ wrong-append names ports (port ∷ []) (drop (i + 1) listed))))
    (told-first (option_map WrongPort (wrong_port names ports (port ∷ []))) (option_map WrongPort rest) cause told)

-- ---- models

-- ports fit as many shapes only
pub unequal-fit : (circuit : FlatCircuit) (ports : List (List ℕ)) (shapes : List Shape) → length ports ≢ length shapes → fit_ports circuit ports shapes ≡ false
unequal-fit circuit [] [] other = absurd (other refl)
unequal-fit circuit [] (b ∷ bs) other = refl
unequal-fit circuit (port ∷ ports) [] other = refl
unequal-fit circuit (port ∷ ports) (b ∷ bs) other = by _ (unequal-fit circuit ports bs (λ same. other (ap suc same)))
  where
    by : (c : Bool) {r : Bool} → r ≡ false → (c && r) ≡ false
    by true e = e
    by false e = refl

pub length-shapes : (model : FlatCircuit) (signals : List ℕ) → length (shapes_at model signals) ≡ length signals
length-shapes model [] = refl
length-shapes model (s ∷ signals) = ap suc (length-shapes model signals)

-- ---- what is known of a circuit's ports

pub known-ins : (circuit : FlatCircuit) → IsWellFormed circuit → All (λ s. s < length circuit.signals) circuit.ins
known-ins circuit formed = λ i d lt. subst (λ s. s < length circuit.signals) (get_or_default circuit.ins i 0 d lt) (formed.ins i lt).0

pub known-outs : (circuit : FlatCircuit) → IsWellFormed circuit → All (λ s. s < length circuit.signals) circuit.outs
known-outs circuit formed = λ i d lt. subst (λ s. s < length circuit.signals) (get_or_default circuit.outs i 0 d lt) (formed.outs i lt)

pub known-first : (circuit : FlatCircuit) → IsWellFormed circuit → (n : ℕ) → All (λ s. s < length circuit.signals) (take n circuit.outs)
known-first circuit formed n = λ i d lt.
    let inside : i < length circuit.outs = omega (arith, lt, length-append (take n circuit.outs) (drop n circuit.outs), ap length (take-append-drop n circuit.outs)) in
    subst (λ s. s < length circuit.signals) (ap (λ l. get_or l i d) (sym (take-append-drop n circuit.outs)) ∙ get_or_append_left (take n circuit.outs) (drop n circuit.outs) d i lt) (known-outs circuit formed i d inside)

-- a model that stands among well-formed ones is well formed
pub model-formed : (models : Models) (k : ℕ) (circuit : FlatCircuit) → All (λ model. IsWellFormed model.1) models → slice_get (model_circuits models) k ≡ Some circuit → IsWellFormed circuit
model-formed [] k circuit all found = absurd (cc)
model-formed (model ∷ models) zero circuit all found = subst IsWellFormed (same_Some model.1 circuit found) (all 0 model (omega arith))
model-formed (model ∷ models) (suc k) circuit all found = model-formed models k circuit (λ i d lt. all (suc i) d (omega (arith, lt))) found

-- ---- entries

-- a fault told of the entry at a place is one of all entries
pub entry-stop : (circuit : FlatCircuit) (outs : List ℕ) (models : Models) (first before : Before) (entries : List BridgeEntry) (i : ℕ) (entry : BridgeEntry) (cause : CutFault) → i < length entries → entry ≡ get_or entries i entry
    → first_of (faults_after circuit outs models first entries) ≡ first_of (faults_after circuit outs models before (drop i entries))
    → IsTold (first_of (own_faults circuit outs models before entry)) cause → IsTold (first_of (faults_after circuit outs models first entries)) cause
entry-stop circuit outs models first before entries i entry cause lt read so_far told =
    let rest = faults_after circuit outs models (before_next before entry) (drop (i + 1) entries) in
    told-same (or_else (first_of (own_faults circuit outs models before entry)) (first_of rest)) (first_of (faults_after circuit outs models first entries)) cause
    (sym (so_far ∙ ap (λ es. first_of (faults_after circuit outs models before es)) (rest-at entries i entry lt read) ∙ first-append (own_faults circuit outs models before entry) rest))
    (told-first (first_of (own_faults circuit outs models before entry)) (first_of rest) cause told)

-- where an entry has none, those of all are those of the entries after it
pub entry-next : (circuit : FlatCircuit) (outs : List ℕ) (models : Models) (first before : Before) (entries : List BridgeEntry) (i : ℕ) (entry : BridgeEntry) → i < length entries → entry ≡ get_or entries i entry
    → first_of (faults_after circuit outs models first entries) ≡ first_of (faults_after circuit outs models before (drop i entries))
    → first_of (own_faults circuit outs models before entry) ≡ None → first_of (faults_after circuit outs models first entries) ≡ first_of (faults_after circuit outs models (before_next before entry) (drop (i + 1) entries))
entry-next circuit outs models first before entries i entry lt read so_far none =
    let rest = faults_after circuit outs models (before_next before entry) (drop (i + 1) entries) in
    so_far ∙ ap (λ es. first_of (faults_after circuit outs models before es)) (rest-at entries i entry lt read) ∙ first-append (own_faults circuit outs models before entry) rest ∙ ap (λ f. or_else f (first_of rest)) none

-- how many items the lists of the entries from place i on have
pub rest-many : (f : BridgeEntry → List (List ℕ)) (entries : List BridgeEntry) (i : ℕ) (entry : BridgeEntry) → i < length entries → entry ≡ get_or entries i entry
    → length (flat_map f (drop i entries)) ≡ length (f entry) + length (flat_map f (drop (i + 1) entries))
rest-many f entries i entry lt read = ap (λ es. length (flat_map f es)) (rest-at entries i entry lt read) ∙ length-append (f entry) (flat_map f (drop (i + 1) entries))

-- The entries before place i are judged, and none had a fault. What they list stands in `before`.
pub record AreJudged (circuit : FlatCircuit) (outs : List ℕ) (models : Models) (first : Before) (entries : List BridgeEntry) (i : ℕ) (before : Before) : Type 0 where
  pub faults : first_of (faults_after circuit outs models first entries) ≡ first_of (faults_after circuit outs models before (drop i entries))
  pub names : length before.names + length (drop i entries) < 2 ^ 32
  pub seen : length before.sees + length (flat_map (λ entry. entry.sees) (drop i entries)) < 2 ^ 32
  pub driven : length before.drives + length (flat_map (λ entry. entry.drives) (drop i entries)) < 2 ^ 32

-- the numbers suffice for the entry at place i
pub record IsFew (before : Before) (entry : BridgeEntry) : Type 0 where
  pub names : length before.names < 2 ^ 32 - 1
  pub seen : length before.sees + length entry.sees < 2 ^ 32
  pub driven : length before.drives + length entry.drives < 2 ^ 32

pub entry-few : (circuit : FlatCircuit) (outs : List ℕ) (models : Models) (first : Before) (entries : List BridgeEntry) (i : ℕ) (before : Before) (entry : BridgeEntry) → i < length entries → entry ≡ get_or entries i entry
    → AreJudged circuit outs models first entries i before → IsFew before entry
entry-few circuit outs models first entries i before entry lt read judged =
    record {
      names = omega (arith, judged.names, ap length (rest-at entries i entry lt read));
      seen = omega (arith, judged.seen, rest-many (λ e. e.sees) entries i entry lt read);
      driven = omega (arith, judged.driven, rest-many (λ e. e.drives) entries i entry lt read);
    }

pub entry-judged : (circuit : FlatCircuit) (outs : List ℕ) (models : Models) (first : Before) (entries : List BridgeEntry) (i : ℕ) (before after : Before) (entry : BridgeEntry) → i < length entries → entry ≡ get_or entries i entry
    → AreJudged circuit outs models first entries i before → first_of (own_faults circuit outs models before entry) ≡ None
    → after.names ≡ before.names ++ entry.name ∷ [] → after.sees ≡ before.sees ++ entry.sees → after.drives ≡ before.drives ++ entry.drives → AreJudged circuit outs models first entries (i + 1) after
entry-judged circuit outs models first entries i before after entry lt read judged none names sees drives =
    record {
      faults = entry-next circuit outs models first before entries i entry lt read judged.faults none ∙ ap (λ b. first_of (faults_after circuit outs models b (drop (i + 1) entries))) (next names sees drives);
      names = omega (arith, judged.names, ap length (rest-at entries i entry lt read), ap length names, length-append before.names (entry.name ∷ []));
      seen = omega (arith, judged.seen, rest-many (λ e. e.sees) entries i entry lt read, ap length sees, length-append before.sees entry.sees);
      driven = omega (arith, judged.driven, rest-many (λ e. e.drives) entries i entry lt read, ap length drives, length-append before.drives entry.drives);
    }
  where
    next : {ns ss ds : List (List ℕ)} → ns ≡ before.names ++ entry.name ∷ [] → ss ≡ before.sees ++ entry.sees → ds ≡ before.drives ++ entry.drives → ◌≡◌ {A = Before} (before_next before entry) (record { names = ns; sees = ss; drives = ds })
    next {ns} {ss} {ds} n s d = ap (λ x. record { names = x; sees = before.sees ++ entry.sees; drives = before.drives ++ entry.drives }) (sym n) ∙ (ap (λ x. record { names = ns; sees = x; drives = before.drives ++ entry.drives }) (sym s) ∙ ap (λ x. record { names = ns; sees = ss; drives = x }) (sym d))
