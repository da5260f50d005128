-- Tests of plans in full: which machines have one host.
use Rattle.std.proofs.Common.{◌≡◌, ◌≢◌, ◌==◌, ℕ, ◌<◌, List, length, map, get_or, set, true, not, sym, ◌∙◌, ap, subst, inl, inr, ◌⊎◌, arith}
use Rattle.std.proofs.lemmas.Bool.{cases_eq}
use Rattle.std.proofs.lemmas.List.{get_or-map, get_or-set_other, length-map, length-set}
use Rattle.gg_flat.specs.Line.{value_at}
use Rattle.gg_flat.proofs.ListLemmas.{once-apart}
use Rattle.gg_cut_plan.specs.declared.plan.Machine.{Machine}
use Rattle.gg_cut_plan.specs.Alike.{AreAlike}
use Rattle.gg_cut.proofs.WorkedTests.{all_pairs, distinct}

module _ (machines : List Machine) where
  abbrev pub hosts : List ℕ
  hosts = map (λ (machine : Machine). machine.host) machines

  host-at : (m : ℕ) (any : Machine) → m < length machines → value_at (map (λ (machine : Machine). machine.host) machines) m ≡ (get_or machines m any).host
  host-at m any lt = get_or-map (λ (machine : Machine). machine.host) machines m any 0 lt

  -- each machine has a host of its own
  pub unshared : all_pairs (λ a b. not (a == b)) (map (λ (machine : Machine). machine.host) machines) ≡ true → (m n : ℕ) (any other : Machine) → m < length machines → n < length machines → m ≢ n → (get_or machines m any).host ≡ (get_or machines n other).host → AreAlike (get_or machines m any).body (get_or machines n other).body
  unshared is m n any other lt low differ same =
      absurd (differ
      (once-apart hosts 0 (distinct hosts is) m n (omega (arith, lt, length-map machines (λ (machine : Machine). machine.host))) (omega (arith, low, length-map machines (λ (machine : Machine). machine.host)))
      (host-at m any lt ∙ same ∙ sym (host-at n other low))))

  -- machine b has the host of machine a, and with a fresh host for b each machine has one of its own
  module _ (a b fresh : ℕ) (inside : a < length machines) (other : a ≢ b) (one : value_at (map (λ (machine : Machine). machine.host) machines) a ≡ value_at (map (λ (machine : Machine). machine.host) machines) b) (is : all_pairs (λ x y. not (x == y)) (set (map (λ (machine : Machine). machine.host) machines) b fresh) ≡ true) where
    apart : (m n : ℕ) → m < length machines → n < length machines → m ≢ b → n ≢ b → value_at (map (λ (machine : Machine). machine.host) machines) m ≡ value_at (map (λ (machine : Machine). machine.host) machines) n → m ≡ n
    apart m n lt low p q same =
        let count : length (set hosts b fresh) ≡ length machines = length-set hosts b fresh ∙ length-map machines (λ (machine : Machine). machine.host) in
        once-apart (set hosts b fresh) 0 (distinct (set hosts b fresh) is) m n (omega (arith, lt, count)) (omega (arith, low, count))
        (get_or-set_other hosts b m fresh 0 p ∙ same ∙ sym (get_or-set_other hosts b n fresh 0 q))

    pub shared-two : ((any some : Machine) → AreAlike (get_or machines a any).body (get_or machines b some).body) → ((any some : Machine) → AreAlike (get_or machines b any).body (get_or machines a some).body)
        → (m n : ℕ) (any some : Machine) → m < length machines → n < length machines → m ≢ n → (get_or machines m any).host ≡ (get_or machines n some).host → AreAlike (get_or machines m any).body (get_or machines n some).body
    shared-two forth back m n any some lt low differ same = by (cases_eq m b) (cases_eq n b)
      where
        host : value_at (map (λ (machine : Machine). machine.host) machines) m ≡ value_at (map (λ (machine : Machine). machine.host) machines) n
        host = host-at m any lt ∙ same ∙ sym (host-at n some low)

        by : (m ≡ b) ⊎ (m ≢ b) → (n ≡ b) ⊎ (n ≢ b) → AreAlike (get_or machines m any).body (get_or machines n some).body
        by (inl p) (inl q) = absurd (differ (p ∙ sym q))
        by (inl p) (inr q) =
            let at : n ≡ a = apart n a low inside q other (sym host ∙ ap (value_at hosts) p ∙ sym one) in
            subst (λ k. AreAlike (get_or machines k any).body (get_or machines n some).body) (sym p)
            (subst (λ k. AreAlike (get_or machines b any).body (get_or machines k some).body) (sym at) (back any some))
        by (inr p) (inl q) =
            let at : m ≡ a = apart m a lt inside p other (host ∙ ap (value_at hosts) q ∙ sym one) in
            subst (λ k. AreAlike (get_or machines k any).body (get_or machines n some).body) (sym at)
            (subst (λ k. AreAlike (get_or machines a any).body (get_or machines k some).body) (sym q) (forth any some))
        by (inr p) (inr q) = absurd (differ (apart m n lt low p q host))
