-- What `add` answers and leaves, by what its checks tell.
use Rattle.std.proofs.Common.{◌≡◌, ℕ, ◌<◌, Bool, cond, ltb, set, is_some, Some, None, Ok, Err, Option, refl, ap, ◌∙◌, ⊎_elim, arith}
use Rattle.calls.specs.declared.refusal.Refusal.TheVariants.{NoSuchSession}
use Rattle.std.proofs.lemmas.Bool.{cases_lt, cond-true, cond-false, lt-ltb, le-ltb}
use Rattle.ready.specs.Tags.{Tags, tag_of, place_answer, free_answer, add_answer, added}

-- the place of a session is the session, which is below 64
pub place_is : (s p : ℕ) → Ok p ≡ place_answer s → (p ≡ s) × (s < 64)
place_is s p at = ⊎_elim
    (λ (l : s < 64). let e : Ok p ≡ Ok s = at ∙ cond-true (ltb s 64) (Ok s) (Err NoSuchSession) (lt-ltb s 64 l) in (cc, l))
    (λ past. let e : Ok p ≡ Err NoSuchSession = at ∙ cond-false (ltb s 64) (Ok s) (Err NoSuchSession) (le-ltb s 64 past) in let z : ◌≡◌ {A = ℕ} 0 1 = cc in absurd (omega arith))
    (cases_lt s 64)

free_is : (o : Option ℕ) → Ok tt ≡ free_answer (is_some o) → o ≡ None
free_is None e = refl
free_is (Some t) e = let z : ◌≡◌ {A = ℕ} 0 1 = cc in absurd (omega arith)

-- a session that may have an entry has none
pub is_free : (o : Option ℕ) (b : Bool) → b ≡ is_some o → Ok tt ≡ free_answer b → o ≡ None
is_free o b e ok = free_is o (ok ∙ ap free_answer e)

-- a session below 64 that has no entry takes one
module _ (xs : Tags) (t s : ℕ) (below : s < 64) (none : tag_of xs s ≡ None) where
  pub add_answers : add_answer xs s ≡ Ok tt
  add_answers = cond-true (ltb s 64) (free_answer (is_some (tag_of xs s))) (Err NoSuchSession) (lt-ltb s 64 below) ∙ ap (λ (o : Option ℕ). free_answer (is_some o)) none

  pub add_leaves : added xs t s ≡ set xs s (Some t)
  add_leaves =
      cond-true (ltb s 64) (cond (is_some (tag_of xs s)) xs (set xs s (Some t))) xs (lt-ltb s 64 below)
      ∙ ap (λ (o : Option ℕ). cond (is_some o) xs (set xs s (Some t))) none
