-- Cutting at a separator: where the first one stands, and one part at a time.
use Rattle.std.proofs.Common.{◌≡◌, ℕ, zero, suc, ◌+◌, ◌-◌, ◌<◌, Bool, true, false, cond, eqb, List, [], ◌∷◌, ◌++◌, length, get_or, take, drop, Some, None, Option, sym, refl, ap, ◌∙◌, add-one, arith, eq-eqb, ne_eqb}
use native.Mathlib.Nat.{sub-zero}
use Rattle.std.proofs.lemmas.List.{length-drop, take_rest}
use Rattle.std.proofs.lemmas.Bool.{cond_both, eqb-true, eqb-false}
use Rattle.std.specs.List.{AllByRecursion}
use Rattle.std.specs.Option.{option_map}
use Rattle.trace.specs.Cuts.{split_once, split, onto_first}
use Rattle.trace.specs.Laws.{PartsAreBetweenSeparators}
use Rattle.trace.specs.Texts.{join}

abbrev Before : ℕ → List ℕ → ℕ → Type 0
Before s xs i = (k : ℕ) → k < i → get_or xs k 0 ≡ s → ⊥

pub split_once_at : (s : ℕ) (xs : List ℕ) (i : ℕ) → Before s xs i → i < length xs → get_or xs i 0 ≡ s →
    split_once s xs ≡ Some (take i xs, drop (suc i) xs)
split_once_at s [] i none within here = absurd (let no : ⊥ = omega arith in no)
split_once_at s (c ∷ cs) zero none within here = ap (λ b. cond b (Some ([], cs)) (option_map (λ p. (c ∷ p.0, p.1)) (split_once s cs))) (eq-eqb c s here)
split_once_at s (c ∷ cs) (suc i) none within here =
    ap (λ b. cond b (Some ([], cs)) (option_map (λ p. (c ∷ p.0, p.1)) (split_once s cs))) (ne_eqb c s (none 0 (omega arith)))
    ∙ ap (option_map (λ p. (c ∷ p.0, p.1))) (split_once_at s cs i (λ k h. none (suc k) (omega arith)) (omega arith) here)

pub split_once_none : (s : ℕ) (xs : List ℕ) → Before s xs (length xs) → split_once s xs ≡ None
split_once_none s [] none = refl
split_once_none s (c ∷ cs) none =
    ap (λ b. cond b (Some ([], cs)) (option_map (λ p. (c ∷ p.0, p.1)) (split_once s cs))) (ne_eqb c s (none 0 (omega arith)))
    ∙ ap (option_map (λ p. (c ∷ p.0, p.1))) (split_once_none s cs (λ k h. none (suc k) (omega arith)))

-- the same, with the two parts as the code takes them
pub cut_at : (s : ℕ) (xs : List ℕ) (i : ℕ) → Before s xs i → i < length xs → get_or xs i 0 ≡ s →
    Some (take (i - 0) xs, take (length xs - (i + 1)) (drop (i + 1) xs)) ≡ split_once s xs
cut_at s xs i none within here =
    (λ j. Some (take (sub-zero i j) xs, (take_rest xs (i + 1) ∙ ap (λ n. drop n xs) (add-one i)) j)) ∙ sym (split_once_at s xs i none within here)

pub rest_shorter : (xs : List ℕ) (i : ℕ) → i < length xs → length (take (length xs - (i + 1)) (drop (i + 1) xs)) < length xs
rest_shorter xs i within = omega (arith, ap length (take_rest xs (i + 1)), length-drop (i + 1) xs)

-- all parts, from the first cut
abbrev parts_from : ℕ → List ℕ → Option (List ℕ × List ℕ) → List (List ℕ)
parts_from s xs None = xs ∷ []
parts_from s xs (Some p) = p.0 ∷ split s p.1

parts_onto : (s c : ℕ) (cs : List ℕ) (o : Option (List ℕ × List ℕ)) →
    onto_first c (parts_from s cs o) ≡ parts_from s (c ∷ cs) (option_map (λ p. (c ∷ p.0, p.1)) o)
parts_onto s c cs None = refl
parts_onto s c cs (Some p) = refl

pub split_by_cut : (s : ℕ) (xs : List ℕ) → split s xs ≡ parts_from s xs (split_once s xs)
split_by_cut s [] = refl
split_by_cut s (c ∷ cs) = go (eqb c s) (split_by_cut s cs)
  where
    go : (b : Bool) → split s cs ≡ parts_from s cs (split_once s cs) →
        cond b ([] ∷ split s cs) (onto_first c (split s cs))
        ≡ parts_from s (c ∷ cs) (cond b (Some ([], cs)) (option_map (λ p. (c ∷ p.0, p.1)) (split_once s cs)))
    go true e = refl
    go false e = ap (onto_first c) e ∙ parts_onto s c cs (split_once s cs)

pub split_more : (s : ℕ) (xs front rest : List ℕ) → Some (front, rest) ≡ split_once s xs → split s xs ≡ front ∷ split s rest
split_more s xs front rest e = split_by_cut s xs ∙ ap (parts_from s xs) (sym e)

pub split_last : (s : ℕ) (xs : List ℕ) → None ≡ split_once s xs → split s xs ≡ xs ∷ []
split_last s xs e = split_by_cut s xs ∙ ap (parts_from s xs) (sym e)

-- ---- splitting and joining

abbrev Lacks : ℕ → List ℕ → Type 0
Lacks s part = AllByRecursion (λ c. c ≡ s → ⊥) part

join_empty : (s : ℕ) (parts : List (List ℕ)) → 0 < length parts → join s ([] ∷ parts) ≡ s ∷ join s parts
join_empty s [] some = let no : ⊥ = omega arith in absurd no
join_empty s (part ∷ parts) some = refl

join_onto : (s c : ℕ) (parts : List (List ℕ)) → join s (onto_first c parts) ≡ c ∷ join s parts
join_onto s c [] = refl
join_onto s c (part ∷ []) = refl
join_onto s c (part ∷ next ∷ parts) = refl

length_onto : (c : ℕ) (parts : List (List ℕ)) → 0 < length (onto_first c parts)
length_onto c [] = omega arith
length_onto c (part ∷ parts) = omega arith

split_some : (s : ℕ) (xs : List ℕ) → 0 < length (split s xs)
split_some s [] = omega arith
split_some s (c ∷ cs) =
    cond_both (eqb c s) ([] ∷ split s cs) (onto_first c (split s cs)) (λ parts. 0 < length parts) (λ e. omega arith) (λ e. length_onto c (split s cs))

join_split : (s : ℕ) (xs : List ℕ) → join s (split s xs) ≡ xs
join_split s [] = refl
join_split s (c ∷ cs) =
    cond_both (eqb c s) ([] ∷ split s cs) (onto_first c (split s cs)) (λ parts. join s parts ≡ c ∷ cs)
    (λ e. join_empty s (split s cs) (split_some s cs) ∙ (λ i. sym (eqb-true c s e) i ∷ join_split s cs i))
    (λ e. join_onto s c (split s cs) ∙ ap (λ r. c ∷ r) (join_split s cs))

apart_onto : (s c : ℕ) (parts : List (List ℕ)) → (c ≡ s → ⊥) → AllByRecursion (Lacks s) parts → AllByRecursion (Lacks s) (onto_first c parts)
apart_onto s c [] ne all = ((ne, tt), tt)
apart_onto s c (part ∷ parts) ne all = ((ne, all.0), all.1)

split_apart : (s : ℕ) (xs : List ℕ) → AllByRecursion (Lacks s) (split s xs)
split_apart s [] = (tt, tt)
split_apart s (c ∷ cs) =
    cond_both (eqb c s) ([] ∷ split s cs) (onto_first c (split s cs)) (AllByRecursion (Lacks s))
    (λ e. (tt, split_apart s cs))
    (λ e. apart_onto s c (split s cs) (eqb-false c s e) (split_apart s cs))

pub parts_are_between_separators : (s : ℕ) → PartsAreBetweenSeparators s
parts_are_between_separators s = record { joined = join_split s; apart = split_apart s }

-- parts that lack the separator are the parts of their join
split_front : (s : ℕ) (part rest : List ℕ) → Lacks s part → split s (part ++ (s ∷ rest)) ≡ part ∷ split s rest
split_front s [] rest lacks = ap (λ b. cond b ([] ∷ split s rest) (onto_first s (split s rest))) (eq-eqb s s refl)
split_front s (c ∷ cs) rest lacks =
    ap (λ b. cond b ([] ∷ split s (cs ++ (s ∷ rest))) (onto_first c (split s (cs ++ (s ∷ rest))))) (ne_eqb c s lacks.0)
    ∙ ap (onto_first c) (split_front s cs rest lacks.1)

split_whole : (s : ℕ) (part : List ℕ) → Lacks s part → split s part ≡ part ∷ []
split_whole s [] lacks = refl
split_whole s (c ∷ cs) lacks =
    ap (λ b. cond b ([] ∷ split s cs) (onto_first c (split s cs))) (ne_eqb c s lacks.0) ∙ ap (onto_first c) (split_whole s cs lacks.1)

pub split_join : (s : ℕ) (parts : List (List ℕ)) → 0 < length parts → AllByRecursion (Lacks s) parts → split s (join s parts) ≡ parts
split_join s [] some lacks = let no : ⊥ = omega arith in absurd no
split_join s (part ∷ []) some lacks = split_whole s part lacks.0
split_join s (part ∷ next ∷ parts) some lacks =
    split_front s part (join s (next ∷ parts)) lacks.0 ∙ ap (λ ps. part ∷ ps) (split_join s (next ∷ parts) (omega arith) lacks.1)
