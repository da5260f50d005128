-- The wiring: which channel is at an in, and that there is one only.
use Rattle.std.proofs.Common.{◌≡◌, ℕ, zero, suc, ◌<◌, Bool, true, ◌&&◌, length, ap, ◌∙◌, sym, ⊎_elim, inl, inr, arith, true≢false}
use Rattle.std.specs.Prelude.{◌==◌, if◌then◌else◌}
use Rattle.std.proofs.lemmas.Bool.{cases_eq, cases_lt, cases_Bool, eq-eqb, eqb-true, and_parts, and_from}
use Rattle.gg_net.specs.Network.{Frame, IsAtIn, wire_at, kind_at}
use Rattle.gg_net.specs.Kept.{IsWired}
use Rattle.gg_net.specs.Step.{last_below, channel_into}

found-below : (test : ℕ → Bool) (n c : ℕ) → c < n → test c ≡ true → (last_below test n < n) × (test (last_below test n) ≡ true)
found-below test zero c lt passes = absurd (omega (arith, lt))
found-below test (suc n) c lt passes =
    elim (cases_Bool (test n)) [
      | inl here ↦
          let is : last_below test (suc n) ≡ n = ap (λ b. if b then n else last_below test n) here in
          (omega (arith, is), ap test is ∙ here)
      | inr not_here ↦
          let is : last_below test (suc n) ≡ last_below test n = ap (λ b. if b then n else last_below test n) not_here in
          let less : c < n = elim (cases_eq c n) [ inl same ↦ absurd (true≢false (sym passes ∙ ap test same ∙ not_here)) | inr other ↦ omega (arith, lt, other) ] in
          let rest : (last_below test n < n) × (test (last_below test n) ≡ true) = found-below test n c less passes in
          (omega (arith, is, rest.0), ap test is ∙ rest.1)
    ]

module _ (frame : Frame) (wired : IsWired frame) where
  -- two channels don't lead to one in
  pub one-in : (c d : ℕ) → c < length frame.wires → d < length frame.wires → (wire_at frame.wires c).consumer ≡ (wire_at frame.wires d).consumer → (wire_at frame.wires c).place ≡ (wire_at frame.wires d).place → c ≡ d
  one-in c d low high same place =
      ⊎_elim
      (λ (lt : c < d). let less = wired.order.ins c d lt high same in omega (arith, less, place))
      (λ le. ⊎_elim (λ (lt : d < c). let less = wired.order.ins d c lt low (sym same) in omega (arith, less, place)) (λ ge. omega (arith, le, ge)) (cases_lt d c))
      (cases_lt c d)

  -- two channels don't come from one out
  pub one-out : (c d : ℕ) → c < length frame.wires → d < length frame.wires → (wire_at frame.wires c).producer ≡ (wire_at frame.wires d).producer → (wire_at frame.wires c).out ≡ (wire_at frame.wires d).out → c ≡ d
  one-out c d low high same out =
      ⊎_elim
      (λ (lt : c < d). let less = wired.order.outs c d lt high same in omega (arith, less, out))
      (λ le. ⊎_elim (λ (lt : d < c). let less = wired.order.outs d c lt low (sym same) in omega (arith, less, out)) (λ ge. omega (arith, le, ge)) (cases_lt d c))
      (cases_lt c d)

  -- the channel at an in is at this in
  pub channel-is : (m i : ℕ) → m < length frame.kinds → i < (kind_at frame.kinds m).ins → IsAtIn frame.wires m i (channel_into frame.wires m i)
  channel-is m i known within =
      let test : ℕ → Bool = λ c. (wire_at frame.wires c).consumer == m && (wire_at frame.wires c).place == i in
      let c : (c : ℕ) × IsAtIn frame.wires m i c = wired.into m i known within in
      let passes : test c.0 ≡ true = and_from ((wire_at frame.wires c.0).consumer == m) ((wire_at frame.wires c.0).place == i) (eq-eqb (wire_at frame.wires c.0).consumer m c.1.machine) (eq-eqb (wire_at frame.wires c.0).place i c.1.place) in
      let found : (last_below test (length frame.wires) < length frame.wires) × (test (last_below test (length frame.wires)) ≡ true) = found-below test (length frame.wires) c.0 c.1.known passes in
      let d : ℕ = last_below test (length frame.wires) in
      let both : ((wire_at frame.wires d).consumer == m ≡ true) × ((wire_at frame.wires d).place == i ≡ true) = and_parts ((wire_at frame.wires d).consumer == m) ((wire_at frame.wires d).place == i) found.1 in
      record { known = found.0; machine = eqb-true (wire_at frame.wires d).consumer m both.0; place = eqb-true (wire_at frame.wires d).place i both.1 }
