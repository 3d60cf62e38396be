-- What the private calls make of the chains, and what they need for it.
use Rattle.std.specs.Prelude.{◌≡◌, ℕ, ◌+◌, ◌-◌, ◌^◌, ◌<◌, ◌≤◌, cond, List, length, replicate, ◌==◌, nat_lt, slice_set}
use Rattle.calls.specs.declared.call.Packet.{Packet}
use Rattle.waiting.specs.declared.place.Place.{Place}
use Rattle.waiting.specs.declared.place.Queue.{Queue}
use Rattle.waiting.specs.declared.chains.Chains.{Chains}
use Rattle.waiting.specs.Chains.{empty_place, empty_queue, place_of, header}

-- ---- a place
abbrev pub with_packet : List Place → ℕ → Packet → List Place
with_packet ps i p = slice_set ps i (record { packet = p; next = (place_of ps i).next })

abbrev pub with_next : List Place → ℕ → ℕ → List Place
with_next ps i n = slice_set ps i (record { packet = (place_of ps i).packet; next = n })

-- ---- a header: a packet of this length comes last, into this place; or the first, of this length, goes
abbrev pub with_last : Queue → ℕ → ℕ → Queue
with_last q place len =
    record { head = cond (q.count == 0) place q.head; tail = place; count = q.count + 1; lengths = q.lengths + len }

abbrev pub without_first : Queue → ℕ → ℕ → Queue
without_first q next len = record { head = next; tail = q.tail; count = q.count - 1; lengths = q.lengths - len }

-- ---- a new table: every place is empty, each of the first n names the one behind it, and no queue has a packet
abbrev pub LinkedBelow : ℕ → List Place → Type 0
LinkedBelow n ps = (k : ℕ) → place_of ps k ≡ record { packet = empty_place.packet; next = cond (nat_lt k n) (k + 1) 0 }

pub record Fresh (t : Chains) : Type 0 where
  pub all_places : length t.places ≡ 256
  pub places : LinkedBelow 255 t.places
  pub others : t ≡ record { places = t.places; queues = replicate 64 empty_queue; free = 0; used = 0 }

-- ---- the chains
-- the packet goes into the first free place
abbrev pub stored : Chains → Packet → Chains
stored t p =
    record {
      places = with_packet t.places t.free p;
      queues = t.queues;
      free = (place_of t.places t.free).next;
      used = t.used + 1;
    }

-- the place is the first free one
abbrev pub freed : Chains → ℕ → Chains
freed t i = record { places = with_next t.places i t.free; queues = t.queues; free = i; used = t.used - 1 }

-- the place stands behind the last one of the queue, if there is one
abbrev pub linked : Chains → Queue → ℕ → Chains
linked t q i =
    record {
      places = cond (q.count == 0) t.places (with_next t.places q.tail i);
      queues = t.queues;
      free = t.free;
      used = t.used;
    }

abbrev pub with_header : Chains → ℕ → Queue → Chains
with_header t s q = record { places = t.places; queues = slice_set t.queues s q; free = t.free; used = t.used }

-- the packet comes last in the queue of session s
abbrev pub appended : Chains → ℕ → Packet → Chains
appended t s p =
    with_header (linked (stored t p) (header t s) t.free) s (with_last (header t s) t.free p.length)

-- the place of the first packet of session s
abbrev pub first_place : Chains → ℕ → Place
first_place t s = place_of t.places (header t s).head

-- the first packet of session s goes
abbrev pub removed : Chains → ℕ → Chains
removed t s =
    with_header (freed t (header t s).head) s
    (without_first (header t s) (first_place t s).next (first_place t s).packet.length)

-- what keeps these within the arrays and the numbers
pub record Appendable (t : Chains) (s : ℕ) (p : Packet) : Type 0 where
  pub session : s < 64
  pub free : t.free < 256
  pub tail : (header t s).tail < 256
  pub count : (header t s).count < 256
  pub lengths : (header t s).lengths + p.length < 2 ^ 64
  pub used : t.used < 256

pub record Removable (t : Chains) (s : ℕ) : Type 0 where
  pub session : s < 64
  pub head : (header t s).head < 256
  pub count : 0 < (header t s).count
  pub lengths : (first_place t s).packet.length ≤ (header t s).lengths
  pub used : 0 < t.used
