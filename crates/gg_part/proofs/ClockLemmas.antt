-- What follows a clock of a part.
use Rattle.std.proofs.Common.{◌≡◌, ℕ, ◌+◌, ◌-◌, ◌<◌, ◌≤◌, List, length, get_or, None, sym, ◌∙◌, ap, ap₂, subst, inl, inr, ◌⊎◌, arith}
use Rattle.std.proofs.lemmas.Bool.{cases_lt}
use Rattle.std.specs.Prelude.{Option, map}
use Rattle.std.proofs.lemmas.List.{length-append, length-map, get_or_append_left, get_or-append-add, get_or-map}
use Rattle.gg_flat.specs.declared.memory.Memory.{Memory}
use Rattle.gg_flat.specs.declared.memory.Reader.{Reader}
use Rattle.gg_flat.specs.declared.memory.Writer.{Writer}
use Rattle.gg_part.specs.inside.Clocking.{LeadsTo, PortsFollow, clocks_of_ports}

-- it does so by equal lists and clocks
pub leads-same : {clocks clocks' : List (Option ℕ)} {there there' own own' : Option ℕ} → clocks ≡ clocks' → there ≡ there' → own ≡ own' → LeadsTo clocks there own → LeadsTo clocks' there' own'
leads-same {clocks = clocks} {there = there} {there' = there'} {own' = own'} c t o leads =
    subst (λ (l : List (Option ℕ)). LeadsTo l there' own') c (subst (λ (x : Option ℕ). LeadsTo clocks x own') t (subst (LeadsTo clocks there) o leads))

-- ---- the ports of a memory, by their places

pub port-count : (memory : Memory) → length (clocks_of_ports memory) ≡ length memory.readers + length memory.writers
port-count memory =
    length-append (map (λ (reader : Reader). reader.clock) memory.readers) (map (λ (writer : Writer). writer.clock) memory.writers)
    ∙ ap₂ (λ a b. a + b) (length-map memory.readers (λ (reader : Reader). reader.clock)) (length-map memory.writers (λ (writer : Writer). writer.clock))

pub port-reader : (memory : Memory) (p : ℕ) (any : Reader) → p < length memory.readers → get_or (clocks_of_ports memory) p None ≡ (get_or memory.readers p any).clock
port-reader memory p any lt =
    get_or_append_left (map (λ (reader : Reader). reader.clock) memory.readers) (map (λ (writer : Writer). writer.clock) memory.writers) None p (omega (arith, lt, length-map memory.readers (λ (reader : Reader). reader.clock)))
    ∙ get_or-map (λ (reader : Reader). reader.clock) memory.readers p any None lt

pub port-writer : (memory : Memory) (p : ℕ) (any : Writer) → p < length memory.writers → get_or (clocks_of_ports memory) (length memory.readers + p) None ≡ (get_or memory.writers p any).clock
port-writer memory p any lt =
    ap (λ n. get_or (clocks_of_ports memory) (n + p) None) (sym (length-map memory.readers (λ (reader : Reader). reader.clock)))
    ∙ get_or-append-add (map (λ (reader : Reader). reader.clock) memory.readers) (map (λ (writer : Writer). writer.clock) memory.writers) p None
    ∙ get_or-map (λ (writer : Writer). writer.clock) memory.writers p any None lt

-- the ports of a memory follow these clocks if its readers follow the first ones and its writers those behind them
pub ports-follow : (ports : List (Option ℕ)) (memory : Memory) (first : ℕ) → length memory.readers ≡ first → ((p : ℕ) (any : Reader) → p < length memory.readers → (get_or memory.readers p any).clock ≡ get_or ports p None)
    → ((p : ℕ) (any : Writer) → p < length memory.writers → (get_or memory.writers p any).clock ≡ get_or ports (first + p) None) → PortsFollow ports memory
ports-follow ports memory first count reads writes p lt = go (cases_lt p (length memory.readers))
  where
    go : (p < length memory.readers) ⊎ (length memory.readers ≤ p) → get_or (clocks_of_ports memory) p None ≡ get_or ports p None
    go (inl low) = let any : Reader = record { addr = 0; en = 0; word = 0; clock = None } in port-reader memory p any low ∙ reads p any low
    go (inr high) =
        let any : Writer = record { addr = 0; en = 0; word = 0; mask = 0; clock = None } in
        let q = p - length memory.readers in
        let here : p ≡ length memory.readers + q = omega (arith, high) in
        let below : q < length memory.writers = omega (arith, lt, high, port-count memory) in
        ap (λ n. get_or (clocks_of_ports memory) n None) here
        ∙ port-writer memory q any below
        ∙ writes q any below
        ∙ ap (λ n. get_or ports n None) (omega (arith, count, high))
