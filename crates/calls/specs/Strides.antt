-- Weights, their strides, and what a packet is charged.
use Rattle.std.specs.Prelude.{◌≡◌, ℕ, ◌*◌, ◌/◌, ◌<◌, ◌≤◌, Bool, cond, ◌&&◌, Ok, Err, Result, nat_le, nat_lt}
use Rattle.calls.specs.declared.refusal.Refusal.{Refusal}
use Rattle.calls.specs.declared.refusal.Refusal.TheVariants.{BadWeight}

-- a number from 1 to the top
abbrev pub within : ℕ → ℕ → Bool
within n top = nat_lt 0 n && nat_le n top

-- what an octet adds to a mark at the weight w
abbrev pub stride : ℕ → ℕ
stride w = 720720 / w

-- nothing is lost in the division: every weight times its stride is n
abbrev pub ProductOfWeightAndStride : ℕ → Type 0
ProductOfWeightAndStride n = (w : ℕ) → 0 < w → w ≤ 16 → w * stride w ≡ n

abbrev pub stride_answer : ℕ → Result ℕ Refusal
stride_answer w = cond (within w 16) (Ok (stride w)) (Err BadWeight)

-- what the link is charged for a packet of this length
abbrev pub charge : ℕ → ℕ
charge length = length
