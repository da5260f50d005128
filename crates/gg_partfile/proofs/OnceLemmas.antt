-- Bytes hold one request at most.
use Rattle.std.proofs.Common.{◌≡◌, ℕ, List, Bool, sym, ap, ◌∙◌, subst}
use Rattle.std.proofs.lemmas.Option.{same_Some}
use Rattle.serde_json.specs.Data.{Data}
use Rattle.gg_partfile.specs.Partition.{Asks, IsPartition}
use Rattle.gg_partfile.specs.declared.request.BridgeEntry.{BridgeEntry}
use Rattle.gg_partfile.specs.declared.request.Request.{Request}

requests-equal : (a b : Request) → a.units ≡ b.units → a.share ≡ b.share → a.memories ≡ b.memories → a.capacity ≡ b.capacity
    → a.direct ≡ b.direct → a.pipe ≡ b.pipe → a.clocks ≡ b.clocks → a.bridges ≡ b.bridges → a ≡ b
requests-equal a b u s m c d p k g =
    ap (λ (x : List (List ℕ)). record a { units = x }) u
    ∙ ap (λ (x : List (List (List ℕ))). record a { units = b.units; share = x }) s
    ∙ ap (λ (x : List (List ℕ)). record a { units = b.units; share = b.share; memories = x }) m
    ∙ ap (λ (x : List (List ℕ × ℕ)). record a { units = b.units; share = b.share; memories = b.memories; capacity = x }) c
    ∙ ap (λ (x : Bool). record b { direct = x; pipe = a.pipe; clocks = a.clocks; bridges = a.bridges }) d
    ∙ ap (λ (x : List (List ℕ)). record b { pipe = x; clocks = a.clocks; bridges = a.bridges }) p
    ∙ ap (λ (x : List (List ℕ × (ℕ × ℕ))). record b { clocks = x; bridges = a.bridges }) k
    ∙ ap (λ (x : List BridgeEntry). record b { bridges = x }) g

asked-once : (d : Data) (a b : Request) → Asks d a → Asks d b → a ≡ b
asked-once d a b p q =
    requests-equal a b (same_Some a.units b.units (sym p.units ∙ q.units)) (same_Some a.share b.share (sym p.share ∙ q.share))
    (same_Some a.memories b.memories (sym p.memories ∙ q.memories)) (same_Some a.capacity b.capacity (sym p.capacity ∙ q.capacity))
    (same_Some a.direct b.direct (sym p.direct ∙ q.direct)) (same_Some a.pipe b.pipe (sym p.pipe ∙ q.pipe))
    (same_Some a.clocks b.clocks (sym p.clocks ∙ q.clocks)) (same_Some a.bridges b.bridges (sym p.bridges ∙ q.bridges))

pub request-once : (bytes : List ℕ) (a b : Request) → IsPartition bytes a → IsPartition bytes b → a ≡ b
request-once bytes a b p q =
    asked-once q.value a b (subst (λ (d : Data). Asks d a) (same_Some p.value q.value (sym p.is ∙ q.is)) p.asks) q.asks
