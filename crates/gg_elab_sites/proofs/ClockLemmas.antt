-- The Clock inputs of a module, port by port.
use Rattle.std.proofs.Common.{◌≡◌, ℕ, suc, ◌+◌, ◌-◌, ◌<◌, Bool, true, false, List, [], ◌∷◌, ◌++◌, Option, Some, length, length-append, get_or, map, take, filter, if◌then◌else◌, refl, sym, ap, ◌∙◌, append_assoc, arith}
use Rattle.std.proofs.lemmas.List.{map-append, take_more}
use Rattle.gg_ast.specs.declared.module.Port.{Port}
use Rattle.gg_flat_tree.specs.Clocked.{clocks_from}
use Rattle.gg_types.specs.Clocks.{clock_inputs, is_clock_input}

inputs-append : (xs ys : List Port) → clock_inputs (xs ++ ys) ≡ clock_inputs xs ++ clock_inputs ys
inputs-append [] ys = refl
inputs-append (x ∷ xs) ys = go (is_clock_input x) (inputs-append xs ys)
  where
    go : (b : Bool) → clock_inputs (xs ++ ys) ≡ clock_inputs xs ++ clock_inputs ys → map (λ (p : Port). p.name) (if b then x ∷ filter is_clock_input (xs ++ ys) else filter is_clock_input (xs ++ ys)) ≡ map (λ (p : Port). p.name) (if b then x ∷ filter is_clock_input xs else filter is_clock_input xs) ++ clock_inputs ys
    go true rest = ap (λ (l : List (List ℕ)). x.name ∷ l) rest
    go false rest = rest

-- with one more port
pub inputs-more : (ports : List Port) (i : ℕ) (p : Port) → i < length ports → p ≡ get_or ports i p → clock_inputs (take (i + 1) ports) ≡ clock_inputs (take i ports) ++ clock_inputs (p ∷ [])
inputs-more ports i p lt is =
    ap clock_inputs (take_more ports i p lt)
    ∙ ap (λ x. clock_inputs (take i ports ++ x ∷ [])) (sym is)
    ∙ inputs-append (take i ports) (p ∷ [])

pub mapped-more : (f : List ℕ → Option ℕ) (ports : List Port) (i : ℕ) (p : Port) (old new : List (Option ℕ)) → i < length ports → p ≡ get_or ports i p → old ≡ map f (clock_inputs (take i ports)) → new ≡ old ++ map f (clock_inputs (p ∷ [])) → new ≡ map f (clock_inputs (take (i + 1) ports))
mapped-more f ports i p old new lt is h more =
    more ∙ ap (λ (l : List (Option ℕ)). l ++ map f (clock_inputs (p ∷ []))) h
    ∙ sym (map-append f (clock_inputs (take i ports)) (clock_inputs (p ∷ [])))
    ∙ ap (map f) (sym (inputs-more ports i p lt is))

pub counted-one : (p : Port) (b : Bool) → is_clock_input p ≡ b → length (clock_inputs (p ∷ [])) ≡ (if b then 1 else 0)
counted-one p true is = ap (λ b. length (map (λ (q : Port). q.name) (if b then p ∷ [] else []))) is
counted-one p false is = ap (λ b. length (map (λ (q : Port). q.name) (if b then p ∷ [] else []))) is

pub counted-more : (ports : List Port) (i n : ℕ) (p : Port) (b : Bool) → i < length ports → p ≡ get_or ports i p → n ≡ length (clock_inputs (take i ports)) → is_clock_input p ≡ b → n + (if b then 1 else 0) ≡ length (clock_inputs (take (i + 1) ports))
counted-more ports i n p b lt is h t =
    ap (λ k. k + (if b then 1 else 0)) h
    ∙ ap (λ k. length (clock_inputs (take i ports)) + k) (sym (counted-one p b t))
    ∙ sym (ap length (inputs-more ports i p lt is) ∙ length-append (clock_inputs (take i ports)) (clock_inputs (p ∷ [])))

-- one more clock
pub clocks-more : (number count : ℕ) (done all : List (Option ℕ)) → number < count → done ++ clocks_from number (count - number) ≡ all → (done ++ Some number ∷ []) ++ clocks_from (number + 1) (count - (number + 1)) ≡ all
clocks-more number count done all lt h =
    let left : count - number ≡ suc (count - (number + 1)) = omega (arith, lt) in
    let next : number + 1 ≡ suc number = omega arith in
    append_assoc done (Some number ∷ []) (clocks_from (number + 1) (count - (number + 1)))
    ∙ ap (λ n. done ++ Some number ∷ clocks_from n (count - (number + 1))) next
    ∙ ap (λ n. done ++ clocks_from number n) (sym left)
    ∙ h
