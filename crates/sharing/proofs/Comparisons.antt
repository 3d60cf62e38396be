-- Over a stretch from any sound state: the session with packets pending against every session, and against all of them together.
use Rattle.std.proofs.Common.{◌≡◌, ℕ, zero, suc, ◌+◌, ◌-◌, ◌*◌, ◌<◌, ◌≤◌, cond, eqb, [], ◌∷◌, ◌++◌, length, Some, Option, sym, refl, ap, ◌∙◌, subst, subst₂, mul-le-mul_left, arith}
use Rattle.std.proofs.lemmas.Bool.{eq-eqb}
use Rattle.calls.specs.Strides.{charge, stride}
use Rattle.calls.specs.Sums.{sum_below}
use Rattle.calls.proofs.Tables.{weight_times_stride}
use Rattle.calls.specs.declared.call.Packet.{Packet}
use Rattle.calls.specs.declared.call.Call.{Call}
use Rattle.calls.specs.Answers.{Answer}
use Rattle.calls.specs.declared.refusal.Refusal.{Refusal}
use Rattle.sharing.specs.Histories.{History, finished, charges, served, sent, sent_by, finished_by, packet_of, Terms, weight_in, most_in}
use Rattle.sharing.specs.Meanings.{Meaning, waiting_in, served_of, General}
use Rattle.sharing.specs.Meanings as step
use Rattle.sharing.specs.Clocked.{Clocked}
use Rattle.sharing.proofs.Sums.{sum_le, sum_spare, sum_add, sum_times, term_le_sum}
use Rattle.sharing.proofs.Views.{weight, most, Good, unweighed, open_has}
use Rattle.sharing.proofs.Steps.{view, Sound}
use Rattle.sharing.proofs.Stretches.{Stretch, still, further, stretch_pending, stretch_sound, charges_append, served_most, served_least}

-- ---- one session against every session

-- a bound with strides is a bound with weights
scaled : (wi wj gi gj a b c : ℕ) → wi * gi ≡ 720720 → wj * gj ≡ 720720 → a * gi ≤ b * gj + c * gi → wj * a ≤ wi * b + wj * c
scaled wi wj gi gj a b c e f h =
    let up : (wi * wj) * (a * gi) ≤ (wi * wj) * (b * gj + c * gi) = mul-le-mul_left (wi * wj) h in
    let left : (wi * wj) * (a * gi) ≡ (wj * a) * 720720 = regroup wi wj a gi ∙ ap (λ n. (wj * a) * n) e in
    let mid : (wi * wj) * (b * gj) ≡ (wi * b) * 720720 = swap (b * gj) ∙ regroup wj wi b gj ∙ ap (λ n. (wi * b) * n) f in
    let right : (wi * wj) * (c * gi) ≡ (wj * c) * 720720 = regroup wi wj c gi ∙ ap (λ n. (wj * c) * n) e in
    omega arith
  where
    regroup : (u v m g : ℕ) → (u * v) * (m * g) ≡ (v * m) * (u * g)
    regroup u v m g = omega arith

    swap : (n : ℕ) → (wi * wj) * n ≡ (wj * wi) * n
    swap n = omega arith

too_little : (v b : ℕ) → b * suc v ≤ v → b ≡ 0
too_little v zero k = refl
too_little v (suc b) k = omega arith

-- with these terms, session i is not behind session s by more than a packet of each
abbrev pub Compared : (ℕ → Option Terms) → ℕ → History → Type 0
Compared terms i later =
    (s : ℕ) →
    weight_in (terms i) * served s later ≤
    (served i later + most_in (terms i)) * weight_in (terms s) + weight_in (terms i) * most_in (terms s)

module _ (i : ℕ) (y x : Clocked) (later : History) (sound : Sound y) (w : Stretch i y later x) where
  pub is_open : 0 < weight (view i x)
  is_open = open_has i (view i x) ((stretch_sound i sound w).each i) (stretch_pending i w)

  pub compare : Compared (λ s. (view s x).terms) i later
  compare s =
      let now = stretch_sound i sound w in
      let least = served_least i y x later sound w in
      let most-of-s = served_most i y x later sound w s in
      let whole = weight_times_stride (weight (view i x)) is_open (now.each i).fits in
      go (now.each s) (weight (view s x)) refl least most-of-s whole
    where
      go : Good s (view s x) → (n : ℕ) → weight (view s x) ≡ n →
          x.clock ≤ y.clock + (served i later + most (view i x)) * stride (weight (view i x)) →
          ((g : ℕ) → (0 < weight (view s x) → g ≡ stride (weight (view s x))) → y.clock + served s later * g ≤ x.clock + most (view s x) * g) →
          weight (view i x) * stride (weight (view i x)) ≡ 720720 →
          weight (view i x) * served s later ≤ (served i later + most (view i x)) * weight (view s x) + weight (view i x) * most (view s x)
      go good zero e least most-of-s whole =
          let unlimited : most (view s x) * suc x.clock ≡ 0 * suc x.clock =
          ap (λ m. m * suc x.clock) (unweighed (view s x).terms good.weighs e)
          in
          let none : served s later ≡ 0 = too_little x.clock (served s later) (omega (arith, most-of-s (suc x.clock) (λ k. omega arith))) in
          let nothing : weight (view i x) * served s later ≡ weight (view i x) * 0 = ap (λ b. weight (view i x) * b) none in
          omega arith
      go good (suc n) e least most-of-s whole =
          let k : 0 < weight (view s x) = omega arith in
          let so : served s later * stride (weight (view s x)) ≤
          (served i later + most (view i x)) * stride (weight (view i x)) + most (view s x) * stride (weight (view s x)) =
          omega (arith, most-of-s (stride (weight (view s x))) (λ q. refl))
          in
          let done = scaled (weight (view s x)) (weight (view i x)) (stride (weight (view s x))) (stride (weight (view i x)))
          (served s later) (served i later + most (view i x)) (most (view s x))
          (weight_times_stride (weight (view s x)) k good.fits) whole so
          in
          omega arith

-- ---- one session against all of them

-- the session whose packet is in service is one of the 64
served_number : (z : Clocked) → Sound z → (n : ℕ) (p : Packet) → z.meaning.in_service ≡ Some (record { session = n; packet = p }) → n < 64
served_number z sound n p is =
    let good = sound.each n in
    let has : served_of n z.meaning.in_service ≡ p ∷ [] = ap (served_of n) is ∙ ap (λ b. cond b (p ∷ []) []) (eq-eqb n n refl) in
    let some : (view n z).pending ≡ p ∷ waiting_in z.meaning n = ap (λ l. l ++ waiting_in z.meaning n) has in
    good.number (open_has n (view n z) good (omega (arith, ap length some)))

sent_step : (z : Clocked) (y : Meaning) → Sound z → {why : Option Refusal} {c : Call} {a : Answer} → General z.meaning why y c a →
    sent_by a ≤ sum_below 64 (λ s. charges (finished_by s a))
sent_step z y sound (step.opens none to) = omega arith
sent_step z y sound (step.enters none to) = omega arith
sent_step z y sound (step.starts none first to) = omega arith
sent_step z y sound (step.finishes {s = n} {packet = p} none is to) =
    let one = term_le_sum 64 n (λ s. charges (packet_of s n p)) (served_number z sound n p is) in
    let here : charges (cond (eqb n n) (p ∷ []) []) ≡ charge p.length + 0 = ap (λ b. charges (cond b (p ∷ []) [])) (eq-eqb n n refl) in
    omega arith
sent_step z y sound (step.refuses why to) = omega arith

-- what is sent is what the sessions are served together
pub sent_sum : (i : ℕ) {y x : Clocked} {later : History} → Sound y → Stretch i y later x → sent later ≤ sum_below 64 (λ s. served s later)
sent_sum i sound (still has) = omega arith
sent_sum i sound (further {e} {later} {z} {x} w step has) =
    let before = sent_sum i sound w in
    let one = sent_step z x.meaning (stretch_sound i sound w) step.general in
    let both = sum_le 64 (λ s. served s later + charges (finished_by s e.answer)) (λ s. served s (e ∷ later))
    (λ s. omega (arith, charges_append (finished s later) (finished_by s e.answer)))
    in
    let parts = sum_add 64 (λ s. served s later) (λ s. charges (finished_by s e.answer)) in
    omega arith

-- the session's own weight w and own packet m taken out of the sums r and l
without_own : (w t r l a m : ℕ) → w ≤ r → m ≤ l → w * t + (w * m + w * m) ≤ (a + m) * r + w * l → w * t ≤ r * a + (r - w) * m + w * (l - m)
without_own w t r l a m u v k =
    let er : r ≡ w + (r - w) = omega arith in
    let el : l ≡ m + (l - m) = omega arith in
    let h : w * t + (w * m + w * m) ≤ (a + m) * (w + (r - w)) + w * (m + (l - m)) =
    subst₂ (λ p q. w * t + (w * m + w * m) ≤ (a + m) * p + w * q) er el k
    in
    let g : w * t ≤ (w + (r - w)) * a + (r - w) * m + w * (l - m) = regroup (r - w) (l - m) h in
    subst (λ p. w * t ≤ p * a + (r - w) * m + w * (l - m)) (sym er) g
  where
    regroup : (p q : ℕ) → w * t + (w * m + w * m) ≤ (a + m) * (w + p) + w * (m + q) → w * t ≤ (w + p) * a + p * m + w * q
    regroup p q k = omega arith

module _ (terms : ℕ → Option Terms) (i : ℕ) (later : History) (number : i < 64) where
  pub weight_counted : weight_in (terms i) ≤ sum_below 64 (λ s. weight_in (terms s))
  weight_counted = term_le_sum 64 i (λ s. weight_in (terms s)) number

  pub most_counted : most_in (terms i) ≤ sum_below 64 (λ s. most_in (terms s))
  most_counted = term_le_sum 64 i (λ s. most_in (terms s)) number

  -- the comparison with each session, added up
  pub share : sent later ≤ sum_below 64 (λ s. served s later) → Compared terms i later →
      weight_in (terms i) * sent later ≤
      sum_below 64 (λ s. weight_in (terms s)) * served i later + (sum_below 64 (λ s. weight_in (terms s)) - weight_in (terms i)) * most_in (terms i) +
      weight_in (terms i) * (sum_below 64 (λ s. most_in (terms s)) - most_in (terms i))
  share whole compared =
      let w = weight_in (terms i) in
      let m = most_in (terms i) in
      let a = served i later in
      let all = mul-le-mul_left w whole in
      let spared = sum_spare 64 i (w * m + w * m) (λ s. w * served s later) (λ s. (a + m) * weight_in (terms s) + w * most_in (terms s))
      compared (omega arith) number
      in
      let left = sum_times 64 w (λ s. served s later) in
      let parts = sum_add 64 (λ s. (a + m) * weight_in (terms s)) (λ s. w * most_in (terms s)) in
      let weights = sum_times 64 (a + m) (λ s. weight_in (terms s)) in
      let mosts = sum_times 64 w (λ s. most_in (terms s)) in
      without_own w (sent later) (sum_below 64 (λ s. weight_in (terms s))) (sum_below 64 (λ s. most_in (terms s))) a m
      weight_counted most_counted (omega arith)
