-- An idle line has room, and each session reaches its limit.
use Rattle.std.specs.Prelude.{◌≡◌, ℕ, ◌<◌, ◌≤◌, max, ◌⊎◌, None, nat_le}
use Rattle.std.proofs.Common.{inl, inr, sym, ap, subst, mul-le-mul_right, mul-le-mul_left, div-le_self, arith}
use Rattle.std.proofs.lemmas.Bool.{cases_lt, le-leb}
use Rattle.calls.specs.Strides.{stride}
use Rattle.ready.specs.Tags.{Tags}
use Rattle.sharing.specs.Rules.{mark_from, ceiling, reach_from}
use Rattle.sharing.specs.Meanings.{Session, all_waiting}
use Rattle.sharing.specs.Clocked.{Clocked}
use Rattle.sharing.proofs.Reaches.{longest_above}
use Rattle.self_clocked.specs.Exact.{weight_at, room_of, reach_of, Sound}

-- 65535 * 720720 is far below the ceiling
no_mark_above : (n w : ℕ) → n ≤ 65535 → mark_from 0 n w ≤ ceiling
no_mark_above n w low =
    let strided : stride w ≤ 720720 = div-le_self 720720 w in
    omega (arith, mul-le-mul_right (stride w) low, mul-le-mul_left 65535 strided)

all_within : (w n : ℕ) → n ≤ 65535 → n ≤ reach_from 0 w
all_within w n low = go (cases_lt 0 n)
  where
    go : (0 < n) ⊎ (n ≤ 0) → n ≤ reach_from 0 w
    go (inl some) = longest_above 65535 (λ k. nat_le (mark_from 0 k w) ceiling) n some low (le-leb (mark_from 0 n w) ceiling (no_mark_above n w low))
    go (inr none) = omega arith

pub idle_room : (tags : Tags) (x : Clocked) (s : ℕ) (t : Session) → Sound tags x → all_waiting x.meaning ≡ 0 → x.meaning.in_service ≡ None →
    t.limit ≤ 65535 → (0 < room_of x s) × (t.limit ≤ reach_of x s)
idle_room tags x s t ok none free low =
    let reset = ok.idle (record { none_waits = none; none_served = free }) in
    let base : max (x.last s) x.clock ≡ 0 = omega (arith, reset.clock, ap (λ f. f s) reset.last) in
    (omega arith, subst (λ (n : ℕ). t.limit ≤ reach_from n (weight_at x s)) (sym base) (all_within (weight_at x s) t.limit low))
