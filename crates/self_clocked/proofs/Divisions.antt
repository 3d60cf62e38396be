-- The reach, by one division.
use Rattle.std.proofs.Common.{◌≡◌, ℕ, ◌-◌, ◌*◌, ◌/◌, ◌<◌, ◌≤◌, min, ◌⊎◌, sym, ap, ◌∙◌, inl, inr, mul-le-mul_right, div-lt_iff_lt-mul, div-mul-le_self, arith}
use Rattle.std.proofs.lemmas.Bool.{cases_eq}
use Rattle.calls.specs.Strides.{stride}
use Rattle.calls.proofs.Tables.{weight_times_stride}
use Rattle.sharing.specs.Rules.{ceiling, reach_from}
use Rattle.sharing.proofs.Reaches.{reach_is}

pub stride_positive : (w : ℕ) → 0 < w → w ≤ 16 → 0 < stride w
stride_positive w some few = go (stride w) (weight_times_stride w some few)
  where
    go : (n : ℕ) → w * n ≡ 720720 → 0 < n
    go n e = go_on (cases_eq n 0)
      where
        go_on : (n ≡ 0) ⊎ (n ≡ 0 → ⊥) → 0 < n
        go_on (inl z) = let no : w * 0 ≡ 720720 = ap (λ k. w * k) (sym z) ∙ e in let nothing : ⊥ = omega arith in absurd nothing
        go_on (inr ne) = omega arith

-- where the base is above the ceiling the difference is 0
pub reach_divided : (base w : ℕ) → 0 < stride w → reach_from base w ≡ min ((ceiling - base) / stride w) 65535
reach_divided base w some = go ((ceiling - base) / stride w) (div-mul-le_self (ceiling - base) (stride w)) (λ k l. (div-lt_iff_lt-mul some).0 l)
  where
    go : (q : ℕ) → q * stride w ≤ ceiling - base → ((k : ℕ) → q < k → ceiling - base < k * stride w) → reach_from base w ≡ min q 65535
    go q fits above =
        let less : min q 65535 * stride w ≤ q * stride w = mul-le-mul_right (stride w) (omega arith) in
        let more : 0 < min q 65535 → stride w ≤ min q 65535 * stride w = λ l. omega (arith, mul-le-mul_right (stride w) l) in
        reach_is base w (min q 65535) (omega arith)
        (λ l. omega (arith, less, fits, more l))
        (λ k a b. omega (arith, above k (omega arith)))
