-- The least entry, session by session.
use Rattle.std.proofs.Common.{◌≡◌, ℕ, ◌+◌, add-one, [], ◌∷◌, length, fold, None, ap, ◌∙◌, refl, subst, Option}
use Rattle.std.specs.List.{range_with_len, zip}
use Rattle.ready.specs.Order.{Entry}
use Rattle.ready.specs.Tags.{Tags, entry_of, earlier, least_after, least_of}

-- the best so far, and the sessions from s on
after_is : (xs : Tags) (s : ℕ) (best : Option Entry) → fold (λ b p. earlier b (entry_of p.0 p.1)) best (zip (range_with_len s (length xs)) xs) ≡ least_after best s xs
after_is [] s best = refl
after_is (x ∷ xs) s best = after_is xs (s + 1) (earlier best (entry_of s x)) ∙ ap (λ n. least_after (earlier best (entry_of s x)) n xs) (add-one s)

pub least_folded : (xs : Tags) → length xs ≡ 64 → fold (λ b p. earlier b (entry_of p.0 p.1)) None (zip (range_with_len 0 64) xs) ≡ least_of xs
least_folded xs wide = subst (λ n. fold (λ b p. earlier b (entry_of p.0 p.1)) None (zip (range_with_len 0 n) xs) ≡ least_of xs) wide (after_is xs 0 None)
