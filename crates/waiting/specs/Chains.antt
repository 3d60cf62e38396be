-- Chains of places, and what they hold.
use Rattle.std.specs.Prelude.{ℕ, zero, suc, ◌+◌, cond, List, [], ◌∷◌, map, ◌==◌, slice_index_or}
use Rattle.calls.specs.declared.call.Packet.{Packet}
use Rattle.waiting.specs.declared.place.Place.{Place}
use Rattle.waiting.specs.declared.place.Queue.{Queue}
use Rattle.waiting.specs.declared.chains.Chains.{Chains}

abbrev pub empty_place : Place
empty_place = record { packet = record { length = 0; ticket = 0; mark = 0 }; next = 0 }

abbrev pub empty_queue : Queue
empty_queue = record { head = 0; tail = 0; count = 0; lengths = 0 }

abbrev pub place_of : List Place → ℕ → Place
place_of ps i = slice_index_or ps i empty_place

-- the header of the queue of session s; one past the last session has no packet
abbrev pub header : Chains → ℕ → Queue
header t s = slice_index_or t.queues s empty_queue

-- n places from i on, each named by the one before it
abbrev pub chain : List Place → ℕ → ℕ → List ℕ
chain ps i zero = []
chain ps i (suc n) = i ∷ chain ps (place_of ps i).next n

-- the places of a queue, the first one first
abbrev pub queue_chain : List Place → Queue → List ℕ
queue_chain ps q = chain ps q.head q.count

-- what these places hold
abbrev pub packets : List Place → List ℕ → List Packet
packets ps is = map (λ i. (place_of ps i).packet) is

-- the lengths of the packets together
abbrev pub total_length : List Packet → ℕ
total_length [] = 0
total_length (p ∷ ps) = p.length + total_length ps

-- how often i stands in a list
abbrev pub occurrences : ℕ → List ℕ → ℕ
occurrences i [] = 0
occurrences i (k ∷ ks) = cond (k == i) 1 0 + occurrences i ks

-- the last of a list, or d where there is none
abbrev pub last_or : ℕ → List ℕ → ℕ
last_or d [] = d
last_or d (k ∷ ks) = last_or k ks
