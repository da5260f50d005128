-- A table of the names of ports, while it is filled.
use Rattle.std.proofs.Common.{◌≡◌, ◌≢◌, ℕ, ◌+◌, ◌<◌, Bool, true, false, List, Bor, length, Option, None, Some, MatchOption, refl, sym, ◌∙◌, subst, arith}
use Rattle.std.specs.Prelude.{if◌then◌else◌}
use Rattle.std.specs.Bool.{Decides}
use Rattle.std.specs.HashMap.{HashMap, get_by}
use Rattle.std.specs.Map.{update}
use Rattle.std.specs.Str.{bytes_eq}
use Rattle.std.specs.declared.hash.FoldHasher.{FoldHasher}
use Rattle.std.specs.declared.hash.BuildHasherDefault.{BuildHasherDefault}
use Rattle.std.proofs.lemmas.Slice.Eq.{bytes_eq-Decides}
use Rattle.std.proofs.lemmas.Bool.{false≢true}
use borrow.Author.Count.{below_more}
use Rattle.gg_flat.specs.declared.ports.Port.{Port}
use Rattle.gg_trace.specs.Ports.{name_at, IsNamed}
use Rattle.gg_trace.specs.inside.Ports.{NamesNone}
use Rattle.gg_trace.specs.inside.Places.{TellsPorts}

-- what a look-up by name answers if the table holds the first n ports
abbrev pub Tells : List Port → ℕ → List ℕ → Option ℕ → Type 0
Tells ports n name found = MatchOption found ((i : ℕ) → i < n → name_at ports i ≢ name) (λ i. (i < n) × (name_at ports i ≡ name))

one_more : (ports : List Port) (n : ℕ) (name q : List ℕ) (b : Bool) (found : Option ℕ) → name_at ports n ≡ name → Decides b (name ≡ q) → Tells ports n q found
    → Tells ports (n + 1) q (if b then Some n else found)
one_more ports n name q true found is same tells = (omega arith, is ∙ same.0 refl)
one_more ports n name q false None is same tells =
    below_more (λ k. name_at ports k ≢ q) n tells (λ here. false≢true (same.1 (sym is ∙ here)))
one_more ports n name q false (Some i) is same tells = (omega (arith, tells.0), tells.1)

-- after the next port's name was put into the table, the table holds one port more
pub tells_one_more : (ports : List Port) (n : ℕ) (name : List ℕ) (old new : HashMap (Bor (List ℕ)) ℕ (BuildHasherDefault FoldHasher)) → TellsPorts ports n old → name_at ports n ≡ name
    → ((q : List ℕ) → get_by (λ k. bytes_eq q k.now) new ≡ update bytes_eq (λ p. get_by (λ k. bytes_eq p k.now) old) name (Some n) q) → TellsPorts ports (n + 1) new
tells_one_more ports n name old new tells is sets = λ q.
    subst (Tells ports (n + 1) q) (sym (sets q)) (one_more ports n name q (bytes_eq name q) _ is (bytes_eq-Decides name q) (tells q))

-- what a look-up by name answers if the table holds all ports
pub all_told : (ports : List Port) (name : List ℕ) (found : Option ℕ) → Tells ports (length ports) name found → MatchOption found (NamesNone ports name) (IsNamed ports name)
all_told ports name None tells = tells
all_told ports name (Some i) tells = record { within = tells.0; is = tells.1 }
