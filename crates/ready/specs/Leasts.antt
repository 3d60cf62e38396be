-- The least entry: there is one, it is the only one, and how it is found session by session.
use Rattle.std.specs.Prelude.{◌≡◌, ℕ, zero, suc, ◌+◌, ◌<◌, ◌≤◌, length, drop, Some, None, Option, ◌≢◌, refl}
use Rattle.std.proofs.Common.{sym, ap, subst, ◌∙◌, ⊎_elim, arith, add-one}
use Rattle.std.proofs.lemmas.List.{at_drop_more, at_drop_all, get_or_past}
use Rattle.std.proofs.lemmas.Bool.{cases_eq, cases_lt, cond_both}
use Rattle.ready.specs.Order.{Entry, at_most, AtMost}
use Rattle.ready.specs.Tags.{Tags, tag_of, entry_of, earlier, least_after, least_of}
use Rattle.ready.specs.Least.{IsLeast}
use Rattle.ready.specs.Orders.{at_most_same, at_most_through, at_most_other, at_most_both}

pub none_some : (t : ℕ) → ◌≡◌ {A = Option ℕ} None (Some t) → ⊥
none_some t e = let z : ◌≡◌ {A = ℕ} 0 1 = cc in omega arith

pub same_some : (t u : ℕ) → ◌≡◌ {A = Option ℕ} (Some t) (Some u) → t ≡ u
same_some t u e = cc

-- a session that has an entry is one of those that are listed
pub tag_within : (xs : Tags) (s t : ℕ) → tag_of xs s ≡ Some t → s < length xs
tag_within xs s t e = ⊎_elim (λ l. l) (λ p. absurd (none_some t (sym (get_or_past xs s None p) ∙ e))) (cases_lt s (length xs))

-- the same as `IsLeast`, of the sessions below k
abbrev pub LeastBelow : Tags → ℕ → Option Entry → Type 0
LeastBelow xs k None = (s t : ℕ) → s < k → tag_of xs s ≢ Some t
LeastBelow xs k (Some e) = (tag_of xs e.1 ≡ Some e.0) × ((s t : ℕ) → s < k → tag_of xs s ≡ Some t → AtMost e (t, s))

module _ (xs : Tags) (k : ℕ) where
  -- what holds of the entries below k and of session k's holds of those below k + 1
  one_more : (P : ℕ → ℕ → Type 0) → ((s t : ℕ) → s < k → tag_of xs s ≡ Some t → P s t) → ((t : ℕ) → tag_of xs k ≡ Some t → P k t) →
      (s t : ℕ) → s < k + 1 → tag_of xs s ≡ Some t → P s t
  one_more P below here s t l e = ⊎_elim
      (λ (q : s ≡ k). subst (λ (n : ℕ). P n t) (sym q) (here t (ap (tag_of xs) (sym q) ∙ e)))
      (λ nq. below s t (omega arith) e)
      (cases_eq s k)

  new_least : (u : ℕ) → tag_of xs k ≡ Some u → ((s t : ℕ) → s < k → tag_of xs s ≡ Some t → AtMost (u, k) (t, s)) → LeastBelow xs (k + 1) (Some (u, k))
  new_least u e below = (e, one_more (λ s t. AtMost (u, k) (t, s)) below (λ t o. let q = same_some u t (sym e ∙ o) in subst (λ (n : ℕ). AtMost (u, k) (n, k)) q (at_most_same (u, k))))

  step : (best : Option Entry) (o : Option ℕ) → tag_of xs k ≡ o → LeastBelow xs k best → LeastBelow xs (k + 1) (earlier best (entry_of k o))
  step None None e h = one_more (λ s t. ⊥) h (λ t o. none_some t (sym e ∙ o))
  step None (Some u) e h = new_least u e (λ s t l o. absurd (h s t l o))
  step (Some b) None e h = (h.0, one_more (λ s t. AtMost b (t, s)) h.1 (λ t o. absurd (none_some t (sym e ∙ o))))
  step (Some b) (Some u) e h =
      cond_both (at_most b (u, k)) (Some b) (Some (u, k)) (LeastBelow xs (k + 1))
      (λ y. (h.0, one_more (λ s t. AtMost b (t, s)) h.1 (λ t o. let q = same_some u t (sym e ∙ o) in subst (λ (n : ℕ). AtMost b (n, k)) q y)))
      (λ n. new_least u e (λ s t l o. at_most_through (u, k) b (t, s) (at_most_other b (u, k) n) (h.1 s t l o)))

  -- one session more
  pub least_more : (best : Option Entry) → k < length xs → least_after best k (drop k xs) ≡ least_after (earlier best (entry_of k (tag_of xs k))) (k + 1) (drop (k + 1) xs)
  least_more best l =
      at_drop_more (least_after best k) xs k None l
      ∙ ap (λ (n : ℕ). least_after (earlier best (entry_of k (tag_of xs k))) n (drop (k + 1) xs)) (sym (add-one k))

  -- and past the last
  pub least_all : (best : Option Entry) → length xs ≤ k → least_after best k (drop k xs) ≡ best
  least_all best l = at_drop_all (least_after best k) xs k l

below_all : (xs : Tags) (k : ℕ) (r : Option Entry) → length xs ≤ k → LeastBelow xs k r → IsLeast xs r
below_all xs k None l h = λ s t o. let w = tag_within xs s t o in h s t (omega arith) o
below_all xs k (Some e) l h = (h.0, λ s t o. let w = tag_within xs s t o in h.1 s t (omega arith) o)

least_rest : (xs : Tags) (n k : ℕ) (best : Option Entry) → length xs ≤ n + k → LeastBelow xs k best → IsLeast xs (least_after best k (drop k xs))
least_rest xs zero k best l h = subst (IsLeast xs) (sym (least_all xs k best (omega arith))) (below_all xs k best (omega arith) h)
least_rest xs (suc n) k best l h = ⊎_elim
    (λ (within : k < length xs).
    subst (IsLeast xs) (sym (least_more xs k best within)) (least_rest xs n (k + 1) (earlier best (entry_of k (tag_of xs k))) (omega arith) (step xs k best (tag_of xs k) refl h)))
    (λ past. subst (IsLeast xs) (sym (least_all xs k best past)) (below_all xs k best past h))
    (cases_lt k (length xs))

-- `least_of` is the least entry
pub least_is_least : (xs : Tags) → IsLeast xs (least_of xs)
least_is_least xs = least_rest xs (length xs) 0 None (omega arith) (λ s t l o. absurd (omega arith))

-- and no other is
pub is_least_unique : (xs : Tags) (a b : Option Entry) → IsLeast xs a → IsLeast xs b → a ≡ b
is_least_unique xs None None p q = refl
is_least_unique xs None (Some f) p q = absurd (p f.1 f.0 q.0)
is_least_unique xs (Some e) None p q = absurd (q e.1 e.0 p.0)
is_least_unique xs (Some e) (Some f) p q = ap Some (at_most_both e f (p.1 f.1 f.0 q.0) (q.1 e.1 e.0 p.0))

-- the same, as a method shows it and as a caller learns it
pub equals_least : (xs : Tags) (r : Option Entry) → IsLeast xs r → r ≡ least_of xs
equals_least xs r h = is_least_unique xs r (least_of xs) h (least_is_least xs)

pub is_least_from : (xs : Tags) (r : Option Entry) → r ≡ least_of xs → IsLeast xs r
is_least_from xs r e = subst (IsLeast xs) (sym e) (least_is_least xs)

-- the least entry's session has its tag
pub least_tag : (xs : Tags) (e : Entry) → Some e ≡ least_of xs → tag_of xs e.1 ≡ Some e.0
least_tag xs e is = (is_least_from xs (Some e) is).0

pub least_within : (xs : Tags) (e : Entry) → Some e ≡ least_of xs → e.1 < length xs
least_within xs e is = tag_within xs e.1 e.0 (least_tag xs e is)
