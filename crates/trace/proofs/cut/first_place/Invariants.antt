use Rattle.std.proofs.Common.{◌≡◌, ℕ, ◌-◌, ◌<◌, ◌≤◌, List, length, get_or}
use Rattle.trace.proofs.cut.first_place.Given as goal

-- the separator does not stand before the place
abbrev Passed : List ℕ → ℕ → ℕ → Type 0
Passed octets separator place = (place ≤ length octets) × ((k : ℕ) → k < place → get_or octets k 0 ≡ separator → ⊥)

abbrev pub invariant-loop-place : goal.invariant-loop-place
invariant-loop-place l = Passed l.octets l.separator l.place

abbrev pub decreases-loop-place : goal.decreases-loop-place
decreases-loop-place l = length l.octets - l.place

abbrev pub invariant-loop-place-2 : goal.invariant-loop-place-2
invariant-loop-place-2 l = Passed l.octets l.separator l.place

abbrev pub decreases-loop-place-2 : goal.decreases-loop-place-2
decreases-loop-place-2 l = length l.octets - l.place

abbrev pub invariant-loop-place-3 : goal.invariant-loop-place-3
invariant-loop-place-3 l = Passed l.octets l.separator l.place

abbrev pub decreases-loop-place-3 : goal.decreases-loop-place-3
decreases-loop-place-3 l = length l.octets - l.place
