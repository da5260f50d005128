-- The lists of the reference circuit grow item by item.
use Rattle.std.proofs.Common.{◌≡◌, ◌≢◌, ℕ, suc, ◌+◌, ◌<◌, ◌≤◌, List, [], ◌∷◌, ◌++◌, length, take, get_or, sym, ◌∙◌, ap, ap₂, subst, arith}
use Rattle.std.specs.Prelude.{AllPairs, Contains, Option, Some, None, option_map, slice_get}
use Rattle.std.specs.Option.{option_to_list}
use Rattle.std.proofs.Math.Seq.{take-append-add}
use Rattle.std.proofs.lemmas.List.{take_more, length-take-le, length-append, append_assoc, get_or_default, get_or-take, get_or-append-add}
use Rattle.std.proofs.lemmas.Option.{slice_get-get_or}
use Rattle.gg_flat.specs.declared.piece.Signal.{Signal}
use Rattle.gg_flat.specs.declared.piece.Register.{Register}
use Rattle.gg_flat.specs.declared.memory.Memory.{Memory}
use Rattle.gg_flat.specs.Circuit.{FlatCircuit}
use Rattle.gg_flat.specs.Line.{value_at}
use Rattle.gg_cut_reference.specs.Made.{pipe_signal, pipe_register, pipe_signals, pipe_registers}
use Rattle.gg_bits.specs.Lists.{by_number}

number-push : {A B : Type 0} (f : ℕ → A → B) (n : ℕ) (xs : List A) (x : A) → by_number f n (xs ++ x ∷ []) ≡ by_number f n xs ++ f (n + length xs) x ∷ []
number-push f n [] x = ap (λ k. f k x ∷ []) (let same : n ≡ n + 0 = omega arith in same)
number-push f n (y ∷ xs) x = ap (λ l. f n y ∷ l) (number-push f (suc n) xs x ∙ ap (λ k. by_number f (suc n) xs ++ f k x ∷ []) (let same : suc n + length xs ≡ n + suc (length xs) = omega arith in same))

-- the items by number up to one more
pub number-more : {A B : Type 0} (f : ℕ → A → B) (xs : List A) (i : ℕ) (d : A) → i < length xs → by_number f 0 (take (i + 1) xs) ≡ by_number f 0 (take i xs) ++ f i (get_or xs i d) ∷ []
number-more f xs i d lt =
    ap (by_number f 0) (take_more xs i d lt)
    ∙ number-push f 0 (take i xs) (get_or xs i d)
    ∙ ap (λ k. by_number f 0 (take i xs) ++ f k (get_or xs i d) ∷ []) (let long = length-take-le i xs (omega (arith, lt)) in let same : 0 + length (take i xs) ≡ i = omega (arith, long) in same)

signals-push : (signals : List Signal) (r : ℕ) (cs : List ℕ) (c : ℕ) (any : Signal) → c < length signals → pipe_signals signals r (cs ++ c ∷ []) ≡ pipe_signals signals r cs ++ pipe_signal (r + length cs) (get_or signals c any) ∷ []
signals-push signals r [] c any lt =
    ap (λ o. option_to_list (option_map (pipe_signal r) o) ++ []) (slice_get-get_or signals c any lt)
    ∙ ap (λ k. pipe_signal k (get_or signals c any) ∷ []) (let same : r ≡ r + 0 = omega arith in same)
signals-push signals r (b ∷ cs) c any lt =
    ap (λ l. head ++ l) (signals-push signals (suc r) cs c any lt ∙ ap (λ k. pipe_signals signals (suc r) cs ++ pipe_signal k (get_or signals c any) ∷ []) (let same : suc r + length cs ≡ r + suc (length cs) = omega arith in same))
    ∙ sym (append_assoc head (pipe_signals signals (suc r) cs) (pipe_signal (r + suc (length cs)) (get_or signals c any) ∷ []))
  where
    head : List Signal
    head = option_to_list (option_map (pipe_signal r) (slice_get signals b))

pub signals-more : (signals : List Signal) (r : ℕ) (cs : List ℕ) (i : ℕ) (any : Signal) → i < length cs → value_at cs i < length signals → pipe_signals signals r (take (i + 1) cs) ≡ pipe_signals signals r (take i cs) ++ pipe_signal (r + i) (get_or signals (value_at cs i) any) ∷ []
signals-more signals r cs i any lt known =
    ap (pipe_signals signals r) (take_more cs i 0 lt)
    ∙ signals-push signals r (take i cs) (value_at cs i) any known
    ∙ ap (λ k. pipe_signals signals r (take i cs) ++ pipe_signal k (get_or signals (value_at cs i) any) ∷ []) (let long = length-take-le i cs (omega (arith, lt)) in let same : r + length (take i cs) ≡ r + i = omega (arith, long) in same)

registers-push : (signals : List Signal) (cs : List ℕ) (c : ℕ) (any : Signal) → c < length signals → pipe_registers signals (cs ++ c ∷ []) ≡ pipe_registers signals cs ++ pipe_register c (get_or signals c any) ∷ []
registers-push signals [] c any lt = ap (λ o. option_to_list (option_map (pipe_register c) o) ++ []) (slice_get-get_or signals c any lt)
registers-push signals (b ∷ cs) c any lt =
    ap (λ l. head ++ l) (registers-push signals cs c any lt)
    ∙ sym (append_assoc head (pipe_registers signals cs) (pipe_register c (get_or signals c any) ∷ []))
  where
    head : List Register
    head = option_to_list (option_map (pipe_register b) (slice_get signals b))

pub registers-more : (signals : List Signal) (cs : List ℕ) (i : ℕ) (any : Signal) → i < length cs → value_at cs i < length signals → pipe_registers signals (take (i + 1) cs) ≡ pipe_registers signals (take i cs) ++ pipe_register (value_at cs i) (get_or signals (value_at cs i) any) ∷ []
registers-more signals cs i any lt known = ap (pipe_registers signals) (take_more cs i 0 lt) ∙ registers-push signals (take i cs) (value_at cs i) any known

-- an item of a list without repeats isn't among those before it
pub fresh-at : (paths : List (List ℕ)) (k : ℕ) → AllPairs (λ a b. a ≢ b) paths → k < length paths → ¬ Contains (take k paths) (get_or paths k [])
fresh-at paths k once lt h =
    let long = length-take-le k paths (omega (arith, lt)) in
    let low : h.0 < k = (let inside = h.1 in omega (arith, inside, long)) in
    once h.0 k [] low lt (sym (get_or-take k paths h.0 [] low) ∙ get_or_default (take k paths) h.0 [] (get_or paths k []) h.1 ∙ h.2)

-- the same behind another list
pub fresh-behind : (before paths : List (List ℕ)) (k : ℕ) → AllPairs (λ a b. a ≢ b) (before ++ paths) → k < length paths → ¬ Contains (before ++ take k paths) (get_or paths k [])
fresh-behind before paths k once lt h =
    let long = length-append before paths in
    fresh-at (before ++ paths) (length before + k) once (omega (arith, lt, long))
    (subst (λ path. Contains (take (length before + k) (before ++ paths)) path) (sym (get_or-append-add before paths k []))
    (subst (λ (l : List (List ℕ)). Contains l (get_or paths k [])) (sym (take-append-add before paths k)) h))

-- there are no more pipes than channels
pub signals-few : (signals : List Signal) (r : ℕ) (cs : List ℕ) → length (pipe_signals signals r cs) ≤ length cs
signals-few signals r [] = omega arith
signals-few signals r (c ∷ cs) =
    let rest = signals-few signals (suc r) cs in
    let long = length-append (option_to_list (option_map (pipe_signal r) (slice_get signals c))) (pipe_signals signals (suc r) cs) in
    let one = at-most (slice_get signals c) in
    omega (arith, rest, long, one)
  where
    at-most : (o : Option Signal) → length (option_to_list (option_map (pipe_signal r) o)) ≤ 1
    at-most None = omega arith
    at-most (Some signal) = omega arith

-- ---- a circuit that grows

pub registers-grow : (one old new : FlatCircuit) (front more : List Register) (x y : Register) → new ≡ record old { registers = old.registers ++ x ∷ [] } → old ≡ record one { registers = one.registers ++ front } → x ≡ y → more ≡ front ++ y ∷ [] → new ≡ record one { registers = one.registers ++ more }
registers-grow one old new front more x y is before same grown =
    is
    ∙ ap₂ (λ (p : FlatCircuit) z. let d : FlatCircuit = record p { registers = p.registers ++ z ∷ [] } in d) before same
    ∙ ap (λ l. let d : FlatCircuit = record one { registers = l } in d) (append_assoc one.registers front (y ∷ []) ∙ ap (λ l. one.registers ++ l) (sym grown))

pub memories-grow : (one old new : FlatCircuit) (front more : List Memory) (x y : Memory) → new ≡ record old { memories = old.memories ++ x ∷ [] } → old ≡ record one { memories = one.memories ++ front } → x ≡ y → more ≡ front ++ y ∷ [] → new ≡ record one { memories = one.memories ++ more }
memories-grow one old new front more x y is before same grown =
    is
    ∙ ap₂ (λ (p : FlatCircuit) z. let d : FlatCircuit = record p { memories = p.memories ++ z ∷ [] } in d) before same
    ∙ ap (λ l. let d : FlatCircuit = record one { memories = l } in d) (append_assoc one.memories front (y ∷ []) ∙ ap (λ l. one.memories ++ l) (sym grown))

pub signals-grow : (one old new : FlatCircuit) (paths more_paths : List (List ℕ)) (front more : List Signal) (path : List ℕ) (x y : Signal) → new ≡ record old { paths = old.paths ++ path ∷ []; signals = old.signals ++ x ∷ [] } → old ≡ record one { paths = one.paths ++ paths; signals = one.signals ++ front } → x ≡ y → more_paths ≡ paths ++ path ∷ [] → more ≡ front ++ y ∷ [] → new ≡ record one { paths = one.paths ++ more_paths; signals = one.signals ++ more }
signals-grow one old new paths more_paths front more path x y is before same grown_paths grown =
    is
    ∙ ap₂ (λ (p : FlatCircuit) z. let d : FlatCircuit = record p { paths = p.paths ++ path ∷ []; signals = p.signals ++ z ∷ [] } in d) before same
    ∙ ap₂ (λ l m. let d : FlatCircuit = record one { paths = l; signals = m } in d) (append_assoc one.paths paths (path ∷ []) ∙ ap (λ l. one.paths ++ l) (sym grown_paths)) (append_assoc one.signals front (y ∷ []) ∙ ap (λ l. one.signals ++ l) (sym grown))
