-- Start tags. The first unfinished packet of a session has for its tag its mark less its charge times the stride; the tag of each next one is the
-- mark before it.
use Rattle.std.proofs.Common.{◌≡◌, ℕ, ◌+◌, ◌*◌, ◌<◌, ◌≤◌, max, List, [], ◌∷◌, ◌++◌, length, refl, mul-le-mul_right, arith}
use Rattle.calls.specs.Strides.{charge}
use Rattle.calls.specs.declared.call.Packet.{Packet}

-- marks that follow one another from b up to l at the stride g, of packets that are charged m at most
abbrev pub Chained : (g m b : ℕ) → List Packet → ℕ → Type 0
Chained g m b [] l = b ≡ l
Chained g m b (p ∷ ps) l = (p.mark ≡ b + charge p.length * g) × (charge p.length ≤ m) × Chained g m p.mark ps l

-- the first of the packets is marked v or later
abbrev pub Ahead : ℕ → List Packet → Type 0
Ahead v [] = Unit {0}
Ahead v (p ∷ ps) = v ≤ p.mark

-- at the clock v, t is the tag of a session with these packets unfinished and the last mark l; with none unfinished the tag is the clock
abbrev pub Tagged : (v g m l : ℕ) → List Packet → ℕ → Type 0
Tagged v g m l [] t = (t ≡ v) × (l ≤ v)
Tagged v g m l (p ∷ ps) t = (t ≤ v) × (v ≤ p.mark) × Chained g m t (p ∷ ps) l

chain_rises : (g m b : ℕ) (ps : List Packet) (l : ℕ) → Chained g m b ps l → b ≤ l
chain_rises g m b [] l c = omega arith
chain_rises g m b (p ∷ ps) l c = let up = chain_rises g m p.mark ps l c.2 in omega arith

chain_push : (g m b : ℕ) (ps : List Packet) (l : ℕ) (p : Packet) → Chained g m b ps l → p.mark ≡ l + charge p.length * g →
    charge p.length ≤ m → Chained g m b (ps ++ (p ∷ [])) p.mark
chain_push g m b [] l p c e f = (omega arith, f, refl)
chain_push g m b (q ∷ ps) l p c e f = (c.0, c.1, chain_push g m q.mark ps l p c.2 e f)

module _ (v g m l t : ℕ) where
  -- one more packet is marked from the last mark or the clock, whichever is larger, and the tag stays
  pub tag_push : (ps : List Packet) (p : Packet) → Tagged v g m l ps t → p.mark ≡ max l v + charge p.length * g → charge p.length ≤ m →
      Tagged v g m p.mark (ps ++ (p ∷ [])) t
  tag_push [] p a e f = (omega arith, omega arith, (omega arith, f, refl))
  tag_push (q ∷ ps) p a e f =
      let up = chain_rises g m q.mark ps l a.2.2 in
      (a.0, a.1, chain_push g m t (q ∷ ps) l p a.2 (omega arith) f)

  -- the clock rises, not past the first unfinished mark
  pub tag_rise : (w : ℕ) (ps : List Packet) → Tagged v g m l ps t → v ≤ w → Ahead w ps →
      (u : ℕ) × Tagged w g m l ps u × (t ≤ u) × (0 < length ps → u ≡ t)
  tag_rise w [] a up ahead = (w, (refl, omega arith), omega arith, λ h. omega arith)
  tag_rise w (p ∷ ps) a up ahead = (t, (omega arith, ahead, a.2), omega arith, λ h. refl)

  -- the first packet is finished, at a clock that is its mark
  pub tag_end : (p : Packet) (ps : List Packet) → Tagged v g m l (p ∷ ps) t → p.mark ≡ v → Tagged v g m l ps (t + charge p.length * g)
  tag_end p [] a e = (omega arith, omega arith)
  tag_end p (q ∷ qs) a e = (omega arith, omega arith, (omega arith, a.2.2.1, a.2.2.2))

  -- the tag is never past the clock, and at most one packet behind it
  pub tag_low : (ps : List Packet) → Tagged v g m l ps t → t ≤ v
  tag_low [] a = omega arith
  tag_low (p ∷ ps) a = a.0

  pub tag_high : (ps : List Packet) → Tagged v g m l ps t → v ≤ t + m * g
  tag_high [] a = omega arith
  tag_high (p ∷ ps) a = omega (arith, mul-le-mul_right g a.2.1)
