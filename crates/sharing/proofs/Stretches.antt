-- A stretch of a run, from any state that is sound, in which one session always has packets pending: what the clock and the tags do meanwhile.
use Rattle.std.proofs.Common.{◌≡◌, ℕ, zero, suc, ◌+◌, ◌*◌, ◌<◌, ◌≤◌, Bool, true, false, List, [], ◌∷◌, ◌++◌, length, sym, refl, ap, ◌∙◌, subst, arith}
use Rattle.calls.specs.Strides.{stride}
use Rattle.calls.specs.declared.call.Packet.{Packet}
use Rattle.calls.specs.declared.call.Call.{Call}
use Rattle.calls.specs.Answers.{Answer}
use Rattle.sharing.specs.Histories.{Event, History, charges, served, finished, finished_by, weight_in, most_in}
use Rattle.sharing.specs.Clocked.{Clocked, ClockedStep}
use Rattle.sharing.proofs.Tags.{Tagged, tag_low, tag_high}
use Rattle.sharing.proofs.Views.{weight, most, Tag, Good, Changes, Agrees, gain, stays_open, cleared}
use Rattle.sharing.proofs.Steps.{view, Sound, changes, sound_step}

-- from y to x by the steps of `later`, with packets of session i pending at every moment
pub data Stretch (i : ℕ) (y : Clocked) : History → Clocked → Type 0 where
  still : 0 < length (view i y).pending → Stretch i y [] y
  further :
      {e : Event} {later : History} {z x : Clocked} → Stretch i y later z → ClockedStep z e.call e.answer x → 0 < length (view i x).pending →
      Stretch i y (e ∷ later) x

pub stretch_pending : (i : ℕ) {y x : Clocked} {later : History} → Stretch i y later x → 0 < length (view i x).pending
stretch_pending i (still has) = has
stretch_pending i (further w step has) = has

pub stretch_sound : (i : ℕ) {y x : Clocked} {later : History} → Sound y → Stretch i y later x → Sound x
stretch_sound i sound (still has) = sound
stretch_sound i sound (further {z = z} {x = x} w step has) = sound_step z x (stretch_sound i sound w) step

-- a step that leaves something of session i pending does not set the clock back
going : (i : ℕ) (z x : Clocked) (c : Call) (a : Answer) → Sound z → ClockedStep z c a x → 0 < length (view i x).pending → (s : ℕ) →
    Changes s false (view s z) (view s x) (finished_by s a)
going i z x c a sound step has = let r = changes z x sound step in go r.0 r.1
  where
    go : (idle : Bool) → ((s : ℕ) → Changes s idle (view s z) (view s x) (finished_by s a)) → (s : ℕ) →
        Changes s false (view s z) (view s x) (finished_by s a)
    go false each = each
    go true each = let no : ⊥ = omega (arith, ap length (cleared i (each i))) in absurd no

pub charges_append : (ps qs : List Packet) → charges (ps ++ qs) ≡ charges ps + charges qs
charges_append [] qs = omega arith
charges_append (p ∷ ps) qs = let more = charges_append ps qs in omega arith

-- an open session keeps its terms
pub stretch_terms : (i s : ℕ) {y x : Clocked} {later : History} → Sound y → Stretch i y later x → 0 < weight (view s y) →
    (view s x).terms ≡ (view s y).terms
stretch_terms i s sound (still has) k = refl
stretch_terms i s sound (further {e} {later} {z} {x} w step has) k =
    let same = stretch_terms i s sound w k in
    stays_open s (going i z x e.call e.answer (stretch_sound i sound w) step has s) (subst (λ t. 0 < weight_in t) (sym same) k) ∙ same

-- the tag of session s gains at least what the session is served, times the stride, and the tag of session i no more
pub stretch_gain : (i s : ℕ) {y x : Clocked} {later : History} → Sound y → Stretch i y later x → (t : ℕ) → Tag (view s y) t →
    (u : ℕ) × Tag (view s x) u ×
    ((g : ℕ) → Agrees g (weight (view s x)) → (t + served s later * g ≤ u) × (s ≡ i → u ≡ t + served s later * g))
stretch_gain i s sound (still has) t h = (t, h, λ g ag. (omega arith, λ e. omega arith))
stretch_gain i s sound (further {e} {later} {z} {x} w step has) t h =
    let good = (stretch_sound i sound w).each s in
    let change = going i z x e.call e.answer (stretch_sound i sound w) step has s in
    let r = stretch_gain i s sound w t h in
    let q = gain s change good r.0 r.1 in (
      q.0,
      q.1,
      λ g ag.
          let so : Agrees g (weight (view s z)) = λ k.
          let same = stays_open s change k in subst (λ o. g ≡ stride (weight_in o)) same (ag (subst (λ o. 0 < weight_in o) (sym same) k))
          in
          let old = r.2 g so in
          let new = q.2 g ag in
          let sum : served s (e ∷ later) * g ≡ (served s later + charges (finished_by s e.answer)) * g =
          ap (λ n. n * g) (charges_append (finished s later) (finished_by s e.answer))
          in
          let full : s ≡ i → 0 < length (view s z).pending = λ k. subst (λ n. 0 < length (view n z).pending) (sym k) (stretch_pending i w) in
          (omega (arith, old.0, new.least, sum), λ k. omega (arith, old.1 k, new.exact (full k), sum)),
    )

module _ (i : ℕ) (y x : Clocked) (later : History) (sound : Sound y) (w : Stretch i y later x) where
  -- no session is served more than the advance of the clock and one packet
  pub served_most : (s g : ℕ) → Agrees g (weight (view s x)) → y.clock + served s later * g ≤ x.clock + most (view s x) * g
  served_most s g ag =
      let good = sound.each s in
      let r = stretch_gain i s sound w good.tag good.tagged in
      let more = (r.2 g ag).0 in
      let low = tag_low x.clock (stride (weight (view s x))) (most (view s x)) (x.last s) r.0 (view s x).pending r.1 in
      go (weight (view s y)) refl good r.0 more low
    where
      go : (n : ℕ) → weight (view s y) ≡ n → (good : Good s (view s y)) (u : ℕ) → good.tag + served s later * g ≤ u → u ≤ x.clock →
          y.clock + served s later * g ≤ x.clock + most (view s x) * g
      go zero e good u more low =
          let free : Tagged y.clock (stride (weight (view s y))) (most (view s y)) (y.last s) [] good.tag = rw (good.empty e) at good.tagged in
          omega (arith, free.0)
      go (suc n) e good u more low =
          let k : 0 < weight (view s y) = omega arith in
          let same = stretch_terms i s sound w k in
          let high = tag_high y.clock (stride (weight (view s y))) (most (view s y)) (y.last s) good.tag (view s y).pending good.tagged in
          let stride-same : g ≡ stride (weight (view s y)) = ag (subst (λ o. 0 < weight_in o) (sym same) k) ∙ ap (λ o. stride (weight_in o)) same in
          let most-same : most (view s x) * g ≡ most (view s y) * stride (weight (view s y)) = λ j. most_in (same j) * stride-same j in
          omega (arith, high, most-same)

  -- the session that always has packets pending is served no less than the advance of the clock but for one packet
  pub served_least : x.clock ≤ y.clock + (served i later + most (view i x)) * stride (weight (view i x))
  served_least =
      let good = sound.each i in
      let r = stretch_gain i i sound w good.tag good.tagged in
      let low = tag_low y.clock (stride (weight (view i y))) (most (view i y)) (y.last i) good.tag (view i y).pending good.tagged in
      let high = tag_high x.clock (stride (weight (view i x))) (most (view i x)) (x.last i) r.0 (view i x).pending r.1 in
      omega (arith, low, high, (r.2 (stride (weight (view i x))) (λ k. refl)).1 refl)
