-- The loops over the read registers of a memory, and over memories.
use Rattle.std.proofs.Common.{◌≡◌, ℕ, ◌<◌, ◌≤◌, List, [], Bool, length, get_or, sym, ◌∙◌, arith}
use Rattle.std.proofs.lemmas.List.{ext_get_or}
use Rattle.gg_flat.specs.declared.memory.Reader.{Reader}
use Rattle.gg_flat.specs.declared.memory.Memory.{Memory}
use Rattle.gg_flat.specs.Line.{value_at}
use Rattle.gg_flat.specs.Circuit.{reader_at}
use Rattle.gg_flat.specs.Memory.{Bank, next_read, late_reads, next_bank, next_banks, bank_at, AreBanks}
use Rattle.gg_flat.proofs.BankLemmas.{length-late_reads, late_reads-at, length-next_banks, next_banks-at}
use Rattle.gg_flat.proofs.ListLemmas.{some-item}

-- ---- read registers

-- the read registers before place r have their next values, and the others their old ones
pub record Found (edges : List Bool) (signals words : List ℕ) (readers : List Reader) (old : List ℕ) (r : ℕ) (reads : List ℕ) : Type 0 where
  pub count : length reads ≡ length readers
  pub found : (i : ℕ) → i < r → value_at reads i ≡ next_read edges signals words (reader_at readers i) (value_at old i)
  pub rest : (i : ℕ) → r ≤ i → value_at reads i ≡ value_at old i

pub Found-all : (edges : List Bool) (signals words : List ℕ) (readers : List Reader) (old reads : List ℕ) → length old ≡ length readers → Found edges signals words readers old (length readers) reads → reads ≡ late_reads edges signals words readers old
Found-all edges signals words readers old reads count all =
    ext_get_or 0 reads (late_reads edges signals words readers old) (all.count ∙ sym (length-late_reads edges signals words readers old count)) (λ i lt.
    let within : i < length readers = omega (arith, lt, all.count) in
    all.found i within ∙ sym (late_reads-at edges signals words readers old i count within))

-- ---- memories

-- the memories before place k hold what they hold after the cycle, and the others what they held
pub record BanksSoFar (edges : List Bool) (signals : List ℕ) (memories : List Memory) (old : List Bank) (k : ℕ) (banks : List Bank) : Type 0 where
  pub count : length banks ≡ length memories
  pub next : (i : ℕ) (any : Memory) → i < k → bank_at banks i ≡ next_bank edges signals (get_or memories i any) (bank_at old i)
  pub rest : (i : ℕ) → k ≤ i → bank_at banks i ≡ bank_at old i

pub BanksSoFar-all : (edges : List Bool) (signals : List ℕ) (memories : List Memory) (old banks : List Bank) → AreBanks memories old → BanksSoFar edges signals memories old (length memories) banks → banks ≡ next_banks edges signals memories old
BanksSoFar-all edges signals memories old banks held all =
    ext_get_or (record { words = []; reads = [] }) banks (next_banks edges signals memories old) (all.count ∙ sym (length-next_banks edges signals memories old held.count)) (λ i lt.
    let within : i < length memories = omega (arith, lt, all.count) in
    let some = some-item memories i within in
    all.next i some within ∙ sym (next_banks-at edges signals memories old i some held.count within))
