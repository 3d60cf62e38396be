-- What always holds of the chains.
use Rattle.std.specs.Prelude.{◌≡◌, ℕ, ◌+◌, ◌-◌, ◌^◌, ◌<◌, ◌≤◌, List, sum_by}
use Rattle.waiting.specs.declared.chains.Chains.{Chains}
use Rattle.waiting.specs.Chains.{place_of, header, chain, queue_chain, packets, total_length, occurrences, last_or}

-- every number of a place is below 256, used or not
abbrev pub LinksWithin : Chains → Type 0
LinksWithin t = (i : ℕ) → (place_of t.places i).next < 256

abbrev pub HeadsWithin : Chains → Type 0
HeadsWithin t = (s : ℕ) → (header t s).head < 256

abbrev pub TailsWithin : Chains → Type 0
TailsWithin t = (s : ℕ) → (header t s).tail < 256

-- a length has 32 bits
abbrev pub LengthsWithin : Chains → Type 0
LengthsWithin t = (i : ℕ) → (place_of t.places i).packet.length < 2 ^ 32

-- what a header says of its queue: the tail is the last place, and the lengths are those of its packets
abbrev pub TailsLast : Chains → Type 0
TailsLast t = (s : ℕ) → (header t s).tail ≡ last_or (header t s).tail (queue_chain t.places (header t s))

abbrev pub LengthsSummed : Chains → Type 0
LengthsSummed t =
    (s : ℕ) → (header t s).lengths ≡ total_length (packets t.places (queue_chain t.places (header t s)))

-- the places in use are those of the queues
abbrev pub CountsSummed : Chains → Type 0
CountsSummed t = t.used ≡ sum_by (λ q. q.count) t.queues

-- the free places
abbrev pub free_chain : Chains → List ℕ
free_chain t = chain t.places t.free (256 - t.used)

-- no place stands twice, in one chain or in two
abbrev pub NoPlaceTwice : Chains → Type 0
NoPlaceTwice t = (i : ℕ) → occurrences i (free_chain t) + sum_by (λ q. occurrences i (queue_chain t.places q)) t.queues ≤ 1
