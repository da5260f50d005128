-- The ports of readers and writers, one after another.
use Rattle.std.proofs.Common.{◌≡◌, ℕ, zero, suc, ◌+◌, ◌<◌, List, [], ◌∷◌, ◌++◌, length, get_or, take, map, refl, sym, ap, ◌∙◌, append_assoc, arith}
use Rattle.gg_flat.specs.declared.memory.Reader.{Reader}
use Rattle.gg_flat.specs.declared.memory.Writer.{Writer}
use Rattle.gg_flat.specs.Served.{Access, ByReader, ByWriter, by_readers, by_writers}
use Rattle.gg_node.specs.Step.{fields_of}
use Rattle.gg_memunit.specs.MemoryUnit.{port_of}
use Rattle.gg_net.specs.declared.shape.ServedPort.{ServedPort}
use Rattle.gg_net.specs.inside.Net.{entry_of}

-- the accesses of some readers, and of one more
pub readers-more : (r : ℕ) (readers : List Reader) (k : ℕ) (any : Reader) → k < length readers → by_readers r (take (suc k) readers) ≡ by_readers r (take k readers) ++ ByReader (r + k) (get_or readers k any) ∷ []
readers-more r [] k any below = absurd (omega arith)
readers-more r (reader ∷ readers) zero any below = ap (λ n. ByReader n reader ∷ []) (let same : r ≡ r + 0 = omega arith in same)
readers-more r (reader ∷ readers) (suc k) any below =
    ap (λ l. ByReader r reader ∷ l) (readers-more (suc r) readers k any (omega arith) ∙ ap (λ n. by_readers (suc r) (take k readers) ++ ByReader n (get_or readers k any) ∷ []) (let same : suc r + k ≡ r + suc k = omega arith in same))

-- the accesses of some writers, and of one more
pub writers-more : (w : ℕ) (writers : List Writer) (k : ℕ) (any : Writer) → k < length writers → by_writers w (take (suc k) writers) ≡ by_writers w (take k writers) ++ ByWriter (w + k) (get_or writers k any) ∷ []
writers-more w [] k any below = absurd (omega arith)
writers-more w (writer ∷ writers) zero any below = ap (λ n. ByWriter n writer ∷ []) (let same : w ≡ w + 0 = omega arith in same)
writers-more w (writer ∷ writers) (suc k) any below =
    ap (λ l. ByWriter w writer ∷ l) (writers-more (suc w) writers k any (omega arith) ∙ ap (λ n. by_writers (suc w) (take k writers) ++ ByWriter n (get_or writers k any) ∷ []) (let same : suc w + k ≡ w + suc k = omega arith in same))

-- the entries of some ports, and of one more
pub entries-more : (n : ℕ) (old now new : List ServedPort) (accesses more : List Access) (access : Access) (number : ℕ) (fields : List ℕ) → now ≡ old ++ map entry_of (map (port_of n) accesses) → new ≡ now ++ record { number = number; fields = fields } ∷ [] → number ≡ (port_of n access).number → fields ≡ fields_of (port_of n access).access → more ≡ accesses ++ access ∷ []
    → new ≡ old ++ map entry_of (map (port_of n) more)
entries-more n old now new accesses more access number fields was made same looks grows =
    let entry : record { number = number; fields = fields } ≡ entry_of (port_of n access) = ap (λ k. record { number = k; fields = fields }) same ∙ ap (λ l. record { number = (port_of n access).number; fields = l }) looks in
    made
    ∙ ap (λ l. l ++ record { number = number; fields = fields } ∷ []) was
    ∙ append_assoc old (map entry_of (map (port_of n) accesses)) (record { number = number; fields = fields } ∷ [])
    ∙ ap (λ l. old ++ l) (ap (λ (e : ServedPort). map entry_of (map (port_of n) accesses) ++ e ∷ []) entry ∙ sym (mapped accesses) ∙ ap (λ l. map entry_of (map (port_of n) l)) (sym grows))
  where
    mapped : (front : List Access) → map entry_of (map (port_of n) (front ++ access ∷ [])) ≡ map entry_of (map (port_of n) front) ++ entry_of (port_of n access) ∷ []
    mapped [] = refl
    mapped (a ∷ front) = ap (λ l. entry_of (port_of n a) ∷ l) (mapped front)
