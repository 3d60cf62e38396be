-- Cutting octets at a separator.
use Rattle.std.specs.Prelude.{ℕ, cond, List, [], ◌∷◌, Some, None, Option, ◌==◌}
use Rattle.std.specs.Option.{option_map}

-- the octets before the first s, and those behind it
abbrev pub split_once : ℕ → List ℕ → Option (List ℕ × List ℕ)
split_once s [] = None
split_once s (c ∷ cs) = cond (c == s) (Some ([], cs)) (option_map (λ p. (c ∷ p.0, p.1)) (split_once s cs))

-- an octet more in front of the first part
abbrev pub onto_first : ℕ → List (List ℕ) → List (List ℕ)
onto_first c [] = (c ∷ []) ∷ []
onto_first c (part ∷ parts) = (c ∷ part) ∷ parts

-- the parts between the separators s, empty ones too: one part more than there are separators
abbrev pub split : ℕ → List ℕ → List (List ℕ)
split s [] = [] ∷ []
split s (c ∷ cs) = cond (c == s) ([] ∷ split s cs) (onto_first c (split s cs))
