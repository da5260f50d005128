-- The state in which a part begins, and the ratios of a part's own clocks.
use Rattle.std.proofs.Common.{◌≡◌, ℕ, suc, ◌+◌, ◌<◌, List, [], ◌∷◌, Option, length, map, get_or, refl, sym, ◌∙◌, ap, ap₂, subst, arith}
use Rattle.std.proofs.lemmas.List.{length-map, get_or-map}
use Rattle.gg_bits.specs.Shape.{Fits, Shape, shape, uint}
use Rattle.gg_flat.specs.declared.memory.Latency.{Latency}
use Rattle.gg_flat.specs.declared.memory.Latency.TheVariants.{Zero, One}
use Rattle.gg_flat.specs.declared.memory.Memory.{Memory}
use Rattle.gg_flat.specs.declared.memory.Reader.{Reader}
use Rattle.gg_flat.specs.declared.piece.Register.{Register}
use Rattle.gg_flat.specs.Circuit.{FlatCircuit, register_shapes}
use Rattle.gg_flat.specs.Clock.{Ratio}
use Rattle.gg_flat_tree.specs.Clocked.{clocks_from}
use Rattle.gg_flat.specs.Line.{shape_at, value_at}
use Rattle.gg_flat.specs.Memory.{AreWords, Bank, IsBank, bank_at, read_count}
use Rattle.gg_flat.specs.State.{IsState, State}
use Rattle.gg_flat.proofs.ListLemmas.{some-item}
use Rattle.gg_part.specs.Part.{IsPart, in_whole}
use Rattle.gg_part.specs.PartRun.{part_ratios, part_state, ratio_at}
use Rattle.gg_flat.specs.Renaming.{renamed_memory, renamed_reader, renamed_register}

-- ---- states

reads-back : (globals : List ℕ) (clocks : List (Option ℕ)) (latency : Latency) (readers : List Reader) → read_count latency (map (λ reader. renamed_reader (in_whole globals clocks) reader) readers) ≡ read_count latency readers
reads-back globals clocks Zero readers = refl
reads-back globals clocks (One under) readers = length-map readers (λ reader. renamed_reader (in_whole globals clocks) reader)

-- what a memory of the whole circuit can hold the part's can hold
bank-back : (globals : List ℕ) (clocks : List (Option ℕ)) (memory : Memory) (bank : Bank) → IsBank (renamed_memory (in_whole globals clocks) memory) bank → IsBank memory bank
bank-back globals clocks memory bank is =
    record {
      words = is.words;
      reads = subst (λ n. AreWords (shape memory.word) n bank.reads) (reads-back globals clocks memory.latency memory.readers) is.reads;
    }

module _ (whole part : FlatCircuit) (globals held memories : List ℕ) (clocks : List (Option ℕ)) (is : IsPart whole part globals held memories clocks) where
  abbrev shape_of : Register → Shape
  shape_of register = shape register.ty

  shape-held : (r : ℕ) → r < length held → shape_at (register_shapes part) r ≡ shape_at (register_shapes whole) (value_at held r)
  shape-held r lt =
      let within : r < length part.registers = omega (arith, lt, is.register_count) in
      let some = some-item part.registers r within in
      let other = renamed_register (in_whole globals clocks) (get_or part.registers r some) in
      let at = is.register_from r lt in
      get_or-map shape_of part.registers r some (uint 0) within
      ∙ sym (get_or-map shape_of whole.registers (value_at held r) other (uint 0) at.within ∙ ap shape_of (at.is some other))

  bank-held : (state : State) (m : ℕ) (any : Memory) → m < length memories → IsBank (get_or whole.memories (value_at memories m) (renamed_memory (in_whole globals clocks) (get_or part.memories m any))) (bank_at state.banks (value_at memories m))
      → IsBank (get_or part.memories m any) (bank_at (map (bank_at state.banks) memories) m)
  bank-held state m any lt of =
      let local = get_or part.memories m any in
      subst (IsBank local) (sym (get_or-map (bank_at state.banks) memories m 0 (record { words = []; reads = [] }) lt))
      (bank-back globals clocks local (bank_at state.banks (value_at memories m))
      (subst (λ (memory : Memory). IsBank memory (bank_at state.banks (value_at memories m))) ((is.memory_from m lt).is any (renamed_memory (in_whole globals clocks) local)) of))

  -- the part's state of a state of the whole circuit is a state of the part
  pub IsState-part : (state : State) → IsState whole state → IsState part (part_state held memories state)
  IsState-part state of =
      let count = length-map part.registers shape_of in
      record {
        typed =
            record {
              count = length-map held (value_at state.registers) ∙ sym is.register_count ∙ sym count;
              fits = λ r lt.
                  let known : r < length held = omega (arith, lt, count, is.register_count) in
                  let low = (is.register_from r known).within in
                  subst (λ to. Fits to (value_at (map (value_at state.registers) held) r)) (sym (shape-held r known))
                  (subst (Fits (shape_at (register_shapes whole) (value_at held r))) (sym (get_or-map (value_at state.registers) held r 0 0 known))
                  (of.typed.fits (value_at held r) (omega (arith, low, length-map whole.registers shape_of))));
            };
        held =
            record {
              count = length-map memories (bank_at state.banks) ∙ sym is.memory_count;
              each = λ m any lt.
                  let known : m < length memories = omega (arith, lt, is.memory_count) in
                  bank-held state m any known (of.held.each (value_at memories m) (renamed_memory (in_whole globals clocks) (get_or part.memories m any)) (is.memory_from m known).within);
            };
      }

-- ---- ratios

-- the ratios of all clocks from number k on
ratios-from : (all : List Ratio) (k : ℕ) (rest : List Ratio) → ((i : ℕ) → i < length rest → get_or all (k + i) (record { m = 1; d = 1 }) ≡ get_or rest i (record { m = 1; d = 1 })) → map (ratio_at all) (clocks_from k (length rest)) ≡ rest
ratios-from all k [] same = refl
ratios-from all k (ratio ∷ rest) same =
    ap₂ (λ (r : Ratio) (l : List Ratio). r ∷ l)
    (ap (λ i. get_or all i (record { m = 1; d = 1 })) (let plain : k ≡ k + 0 = omega arith in plain) ∙ same 0 (omega arith))
    (ratios-from all (suc k) rest (λ i lt. ap (λ j. get_or all j (record { m = 1; d = 1 })) (let next : suc k + i ≡ k + suc i = omega arith in next) ∙ same (suc i) (omega (arith, lt))))

own-ratios : (count : ℕ) (ratios : List Ratio) → length ratios ≡ count → part_ratios (clocks_from 0 count) ratios ≡ ratios
own-ratios count [] long = refl
own-ratios count (ratio ∷ ratios) long = ap (λ n. map (ratio_at (ratio ∷ ratios)) (clocks_from 0 n)) (sym long) ∙ ratios-from (ratio ∷ ratios) 0 (ratio ∷ ratios) (λ i lt. ap (λ j. get_or (ratio ∷ ratios) j (record { m = 1; d = 1 })) (let same : 0 + i ≡ i = omega arith in same))

-- all clocks of a part, each under its number, have the part's ratios
pub ratios-again : (clocks : List (Option ℕ)) (ratios : List Ratio) → part_ratios (clocks_from 0 (length clocks)) (part_ratios clocks ratios) ≡ part_ratios clocks ratios
ratios-again clocks [] = refl
ratios-again clocks (ratio ∷ ratios) = own-ratios (length clocks) (map (ratio_at (ratio ∷ ratios)) clocks) (length-map clocks (ratio_at (ratio ∷ ratios)))
