-- The ports that no bridge has, and their signals.
use Rattle.std.proofs.Common.{◌≡◌, ℕ, suc, ◌+◌, ◌<◌, List, [], ◌∷◌, ◌++◌, length, get_or, take, Bool, true, false, refl, sym, ap, ◌∙◌, subst, ◌≤◌, arith}
use Rattle.std.specs.Prelude.{All, bytes_eq, filter, flat_map, if◌then◌else◌, not, ◌||◌}
use Rattle.std.proofs.Math.Seq.{take-suc}
use Rattle.std.proofs.lemmas.List.{take_all, take_more}
use Rattle.std.proofs.lemmas.List.Elements.{All-filter, filter-append}
use Rattle.gg_flat.specs.Circuit.{FlatCircuit}
use Rattle.gg_flat.specs.Ports.{in_ports, ports_at}
use Rattle.gg_flat_tree.specs.Tree.{path_at}
use Rattle.gg_flat.specs.declared.ports.Port.{Port}
use Rattle.gg_partfile.specs.Size.{all_driven}
use Rattle.gg_partfile.specs.declared.request.BridgeEntry.{BridgeEntry}
use Rattle.gg_partfile.specs.declared.request.Request.{Request}
use Rattle.gg_cut_plan.specs.Listed.{is_among}
use Rattle.golden_commands.specs.RunText.{fed_ports, ports_without}
use Rattle.golden_commands.proofs.WholePortLemmas.{without-at}

-- ---- sets of names

among-append : (xs ys : List (List ℕ)) (name : List ℕ) → is_among (xs ++ ys) name ≡ (is_among xs name || is_among ys name)
among-append [] ys name = refl
among-append (x ∷ xs) ys name = by (bytes_eq name x) (among-append xs ys name)
  where
    by : (b : Bool) → is_among (xs ++ ys) name ≡ (is_among xs name || is_among ys name) → (b || is_among (xs ++ ys) name) ≡ ((b || is_among xs name) || is_among ys name)
    by true e = refl
    by false e = e

or-none : (b : Bool) → (b || false) ≡ b
or-none true = refl
or-none false = refl

-- The set has what it had, and the first k names.
pub record HasMore (old names : List (List ℕ)) (k : ℕ) (set : List (List ℕ)) : Type 0 where
  pub same : (other : List ℕ) → is_among set other ≡ (is_among old other || is_among (take k names) other)

-- The set has the names that the first k entries list.
pub record HasListed (ports : BridgeEntry → List (List ℕ)) (entries : List BridgeEntry) (k : ℕ) (set : List (List ℕ)) : Type 0 where
  pub same : (other : List ℕ) → is_among set other ≡ is_among (flat_map ports (take k entries)) other

or-assoc : (a b c : Bool) → ((a || b) || c) ≡ (a || (b || c))
or-assoc true b c = refl
or-assoc false b c = refl

flat-end : (ports : BridgeEntry → List (List ℕ)) (xs : List BridgeEntry) (x : BridgeEntry) (name : List ℕ) → is_among (flat_map ports (xs ++ x ∷ [])) name ≡ (is_among (flat_map ports xs) name || is_among (ports x) name)
flat-end ports [] x name = among-append (ports x) [] name ∙ or-none (is_among (ports x) name)
flat-end ports (y ∷ xs) x name =
    among-append (ports y) (flat_map ports (xs ++ x ∷ [])) name
    ∙ ap (λ b. is_among (ports y) name || b) (flat-end ports xs x name)
    ∙ sym (or-assoc (is_among (ports y) name) (is_among (flat_map ports xs) name) (is_among (ports x) name))
    ∙ ap (λ b. b || is_among (ports x) name) (sym (among-append (ports y) (flat_map ports xs) name))

step : {A : Type 0} (xs : List A) (k : ℕ) (x : A) → k < length xs → x ≡ get_or xs k x → take (k + 1) xs ≡ take k xs ++ x ∷ []
step {A} xs k x lt read = ap (λ n. take n xs) (let e : k + 1 ≡ suc k = omega arith in e) ∙ take-suc xs k x lt ∙ ap (λ (y : A). take k xs ++ y ∷ []) (sym read)

pub more-none : (old names : List (List ℕ)) → HasMore old names 0 old
more-none old names = record { same = λ other. sym (or-none (is_among old other)) }

pub more-next : (old names : List (List ℕ)) (k : ℕ) (set next : List (List ℕ)) (name : List ℕ) → k < length names → name ≡ get_or names k name → HasMore old names k set
    → ((other : List ℕ) → is_among next other ≡ (is_among set other || bytes_eq other name)) → HasMore old names (k + 1) next
more-next old names k set next name lt read has added =
    record {
      same = λ other.
          added other ∙ ap (λ b. b || bytes_eq other name) (has.same other) ∙ or-assoc (is_among old other) (is_among (take k names) other) (bytes_eq other name)
          ∙ ap (λ b. is_among old other || b)
          (ap (λ b. is_among (take k names) other || b) (sym (or-none (bytes_eq other name))) ∙ sym (among-append (take k names) (name ∷ []) other) ∙ ap (λ (l : List (List ℕ)). is_among l other) (sym (step names k name lt read)));
    }

-- all names
pub more-all : (old names : List (List ℕ)) (k : ℕ) (set : List (List ℕ)) → length names ≤ k → HasMore old names k set → (other : List ℕ) → is_among set other ≡ (is_among old other || is_among names other)
more-all old names k set past has other = has.same other ∙ ap (λ (l : List (List ℕ)). is_among old other || is_among l other) (take_all k names past)

pub listed-none : (ports : BridgeEntry → List (List ℕ)) (entries : List BridgeEntry) (set : List (List ℕ)) → set ≡ [] → HasListed ports entries 0 set
listed-none ports entries set none = record { same = λ other. ap (λ (l : List (List ℕ)). is_among l other) none }

pub listed-next : (ports : BridgeEntry → List (List ℕ)) (entries : List BridgeEntry) (k : ℕ) (set next : List (List ℕ)) (entry : BridgeEntry) → k < length entries → entry ≡ get_or entries k entry → HasListed ports entries k set
    → ((other : List ℕ) → is_among next other ≡ (is_among set other || is_among (ports entry) other)) → HasListed ports entries (k + 1) next
listed-next ports entries k set next entry lt read has added =
    record {
      same = λ other.
          added other ∙ ap (λ b. b || is_among (ports entry) other) (has.same other) ∙ sym (flat-end ports (take k entries) entry other)
          ∙ ap (λ (l : List BridgeEntry). is_among (flat_map ports l) other) (sym (step entries k entry lt read));
    }

pub listed-all : (ports : BridgeEntry → List (List ℕ)) (entries : List BridgeEntry) (k : ℕ) (set : List (List ℕ)) → length entries ≤ k → HasListed ports entries k set → (other : List ℕ) → is_among set other ≡ is_among (flat_map ports entries) other
listed-all ports entries k set past has other = has.same other ∙ ap (λ (l : List BridgeEntry). is_among (flat_map ports l) other) (take_all k entries past)

-- what was added are the names of a list that is this one
pub listed-same : (set next slice own : List (List ℕ)) → slice ≡ own → ((other : List ℕ) → is_among next other ≡ (is_among set other || is_among slice other)) → (other : List ℕ) → is_among next other ≡ (is_among set other || is_among own other)
listed-same set next slice own e added other = added other ∙ ap (λ (l : List (List ℕ)). is_among set other || is_among l other) e

-- ---- signals

-- one more signal
pub filter-more : (test : ℕ → Bool) (signals : List ℕ) (k d : ℕ) → k < length signals → (before after : List ℕ) → before ≡ filter test (take k signals) → after ≡ before ++ filter test (get_or signals k d ∷ []) → after ≡ filter test (take (k + 1) signals)
filter-more test signals k d lt before after was grown =
    grown ∙ ap (λ (l : List ℕ). l ++ filter test (get_or signals k d ∷ [])) was ∙ sym (filter-append test (take k signals) (get_or signals k d ∷ [])) ∙ ap (filter test) (sym (take_more signals k d lt))

-- what isn't in a set isn't in one that has the same
pub open-same : (paths set names : List (List ℕ)) → ((name : List ℕ) → is_among set name ≡ is_among names name) → (signals : List ℕ)
    → filter (λ s. not (is_among set (path_at paths s))) signals ≡ filter (λ s. not (is_among names (path_at paths s))) signals
open-same paths set names same [] = refl
open-same paths set names same (s ∷ signals) = by (is_among set (path_at paths s)) (is_among names (path_at paths s)) (same (path_at paths s)) (open-same paths set names same signals)
  where
    by : (a b : Bool) → a ≡ b → {xs ys : List ℕ} → xs ≡ ys → (if not a then s ∷ xs else xs) ≡ (if not b then s ∷ ys else ys)
    by true true e rest = rest
    by true false e rest = absurd (cc)
    by false true e rest = absurd (cc)
    by false false e rest = ap (λ (l : List ℕ). s ∷ l) rest

-- the ports that were made of the inputs that are left are those that no bridge drives
pub all-open : (circuit : FlatCircuit) (set : List (List ℕ)) (signals : List ℕ) → All (λ s. s < length circuit.signals) signals → (kept : List ℕ) → kept ≡ filter (λ s. not (is_among set (path_at circuit.paths s))) signals → All (λ s. s < length circuit.signals) kept
all-open circuit set signals known kept e = subst (All (λ s. s < length circuit.signals)) (sym e) (All-filter (λ s. not (is_among set (path_at circuit.paths s))) (λ s. s < length circuit.signals) signals known)

pub fed-made : (circuit : FlatCircuit) (request : Request) → (entries : List BridgeEntry) → entries ≡ request.bridges → (set : List (List ℕ)) → ((name : List ℕ) → is_among set name ≡ is_among (all_driven entries) name)
    → (ins : List ℕ) → ins ≡ circuit.ins → (kept : List ℕ) → kept ≡ filter (λ s. not (is_among set (path_at circuit.paths s))) ins → (ports : List Port) → ports ≡ ports_at circuit kept → ports ≡ fed_ports circuit request
fed-made circuit request entries e set same ins i kept o ports made =
    made
    ∙ ap (ports_at circuit) (o ∙ open-same circuit.paths set (all_driven entries) same ins ∙ ap (filter (λ s. not (is_among (all_driven entries) (path_at circuit.paths s)))) i)
    ∙ sym (without-at (all_driven entries) circuit circuit.ins)
    ∙ ap (λ (l : List BridgeEntry). ports_without (all_driven l) (in_ports circuit)) e
