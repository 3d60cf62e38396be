-- Rings of 256 session numbers.
use Rattle.std.specs.Prelude.{◌≡◌, ℕ, zero, suc, ◌+◌, ◌%◌, ◌<◌, length, List, [], ◌∷◌, replicate, slice_index, slice_set}
use Rattle.std.proofs.Common.{◌∙◌, arith}
use Rattle.std.proofs.lemmas.List.{length-set}
use Rattle.first_come.specs.declared.ring.Ring.{Ring}

-- n entries from a place on
abbrev pub entries : List ℕ → ℕ → ℕ → List ℕ
entries numbers place zero = []
entries numbers place (suc n) = slice_index numbers place ∷ entries numbers ((place + 1) % 256) n

-- the first n entries of a ring
abbrev pub entries_of : Ring → ℕ → List ℕ
entries_of ring n = entries ring.numbers ring.head n

pub record Fresh (ring : Ring) : Type 0 where
  pub numbers : ring.numbers ≡ replicate 256 0
  pub head : ring.head ≡ 0

-- a write leaves the 256 places, and the head stays below them
pub set_places : (ring : Ring) (place s : ℕ) → length (slice_set ring.numbers place s) ≡ 256
set_places ring place s = length-set ring.numbers place s ∙ ring.places

pub next_front : (ring : Ring) → (ring.head + 1) % 256 < 256
next_front ring = omega arith

abbrev pub advanced : Ring → Ring
advanced ring = record { numbers = ring.numbers; head = (ring.head + 1) % 256; places = ring.places; front = next_front ring }

abbrev pub appended : Ring → ℕ → ℕ → Ring
appended ring count s = record {
  numbers = slice_set ring.numbers ((ring.head + count) % 256) s;
  head = ring.head;
  places = set_places ring ((ring.head + count) % 256) s;
  front = ring.front;
}
