-- The reach: the longest length that passes, and which lengths do.
use Rattle.std.proofs.Common.{◌≡◌, ℕ, zero, suc, ◌<◌, ◌≤◌, Bool, true, false, cond, leb, ◌⊎◌, sym, refl, ap, ◌∙◌, inl, inr, ⊎_elim, mul-le-mul_right, arith}
use Rattle.std.proofs.lemmas.Bool.{cases_eq, cases_lt, cond-true, cond-false, leb-true, le-leb, lt-leb}
use Rattle.calls.specs.Strides.{stride}
use Rattle.sharing.specs.Rules.{mark_from, ceiling, longest, reach_from}
use Rattle.sharing.proofs.Steps.{charge_monotone}

pub longest_is : (n : ℕ) (test : ℕ → Bool) (r : ℕ) → r ≤ n → (0 < r → test r ≡ true) → ((k : ℕ) → r < k → k ≤ n → test k ≡ false) →
    longest n test ≡ r
unfolding longest
longest_is zero test r low pass above = omega arith
longest_is (suc n) test r low pass above =
    ⊎_elim
    (λ (e : r ≡ suc n). cond-true (test (suc n)) (suc n) (longest n test) (sym (ap test e) ∙ pass (omega arith)) ∙ sym e)
    (λ (ne : r ≡ suc n → ⊥).
    cond-false (test (suc n)) (suc n) (longest n test) (above (suc n) (omega arith) (omega arith)) ∙
    longest_is n test r (omega arith) pass (λ k a b. above k a (omega arith)))
    (cases_eq r (suc n))

-- it passes if it is not 0, and no longer one passes
pub longest_passes : (n : ℕ) (test : ℕ → Bool) → 0 < longest n test → test (longest n test) ≡ true
unfolding longest
longest_passes zero test some = let no : ⊥ = omega arith in absurd no
longest_passes (suc n) test some = go (test (suc n)) refl some (longest_passes n test)
  where
    go : (b : Bool) → test (suc n) ≡ b → 0 < cond b (suc n) (longest n test) → (0 < longest n test → test (longest n test) ≡ true) →
        test (cond b (suc n) (longest n test)) ≡ true
    go true e some less = e
    go false e some less = less some

pub longest_above : (n : ℕ) (test : ℕ → Bool) (k : ℕ) → 0 < k → k ≤ n → test k ≡ true → k ≤ longest n test
unfolding longest
longest_above zero test k some low pass = omega arith
longest_above (suc n) test k some low pass = go (test (suc n)) refl (cases_eq k (suc n)) (longest_above n test k some)
  where
    go : (b : Bool) → test (suc n) ≡ b → (k ≡ suc n) ⊎ (k ≡ suc n → ⊥) → (k ≤ n → test k ≡ true → k ≤ longest n test) →
        k ≤ cond b (suc n) (longest n test)
    go true e at less = low
    go false e (inl at) less = let no : true ≡ false = sym pass ∙ ap test at ∙ e in let z : ◌≡◌ {A = ℕ} 0 1 = cc in omega arith
    go false e (inr ne) less = less (omega arith) pass

module _ (base weight : ℕ) where
  -- a longer packet has no smaller mark
  pub mark_monotone : (m n : ℕ) → m ≤ n → mark_from base m weight ≤ mark_from base n weight
  mark_monotone m n le = omega (arith, mul-le-mul_right (stride weight) (charge_monotone m n le))

  pub reach_is : (r : ℕ) → r ≤ 65535 → (0 < r → mark_from base r weight ≤ ceiling) →
      ((k : ℕ) → r < k → k ≤ 65535 → ceiling < mark_from base k weight) → reach_from base weight ≡ r
  reach_is r low pass above =
      longest_is 65535 (λ k. leb (mark_from base k weight) ceiling) r low (λ some. le-leb (mark_from base r weight) ceiling (pass some))
      (λ k a b. lt-leb (mark_from base k weight) ceiling (above k a b))

  -- a length is within the reach exactly where its mark does not pass the ceiling
  pub within_reach : (length : ℕ) → 0 < length → length ≤ 65535 → leb length (reach_from base weight) ≡ leb (mark_from base length weight) ceiling
  within_reach length some low = go (cases_lt ceiling (mark_from base length weight)) (cases_lt (reach_from base weight) length)
    where
      passes : ℕ → Bool
      passes k = leb (mark_from base k weight) ceiling

      go : (ceiling < mark_from base length weight) ⊎ (mark_from base length weight ≤ ceiling) →
          (reach_from base weight < length) ⊎ (length ≤ reach_from base weight) →
          leb length (reach_from base weight) ≡ leb (mark_from base length weight) ceiling
      go (inl past) (inl short) = lt-leb length (reach_from base weight) short ∙ sym (lt-leb (mark_from base length weight) ceiling past)
      go (inl past) (inr long) =
          let pass = leb-true (mark_from base (reach_from base weight) weight) ceiling (longest_passes 65535 passes (omega arith)) in
          let no : ⊥ = omega (arith, mark_monotone length (reach_from base weight) long) in absurd no
      go (inr fits) (inl short) =
          let no : ⊥ = omega (arith, longest_above 65535 passes length some low (le-leb (mark_from base length weight) ceiling fits)) in absurd no
      go (inr fits) (inr long) = le-leb length (reach_from base weight) long ∙ sym (le-leb (mark_from base length weight) ceiling fits)
