-- What a change of one queue has to show, and that it then keeps what always holds and the other queues.
use Rattle.std.proofs.Common.{◌≡◌, ℕ, ◌+◌, ◌-◌, ◌^◌, ◌<◌, ◌≤◌, List, length, set, sym, ap, ◌∙◌, arith}
use Rattle.std.proofs.lemmas.List.{get_or-set_same, get_or-set_other, length-set}
use Rattle.std.proofs.lemmas.List.Sums.{sum_by-set}
use Rattle.waiting.specs.declared.place.Place.{Place}
use Rattle.waiting.specs.declared.place.Queue.{Queue}
use Rattle.waiting.specs.declared.chains.Chains.{Chains}
use Rattle.waiting.specs.declared.table.Waiting.{Waiting}
use Rattle.waiting.specs.Chains.{empty_queue, place_of, header, chain, queue_chain, packets, total_length, occurrences, last_or}
use Rattle.waiting.specs.Invariants.{LinksWithin, HeadsWithin, TailsWithin, LengthsWithin, TailsLast, LengthsSummed, CountsSummed, free_chain, NoPlaceTwice}
use Rattle.waiting.specs.Queues.{queue_in}
use Rattle.waiting.proofs.Updates.{each_set, sum_changed}

-- a change at the queue of session s: its header becomes q, and the places, the first free place and the number of used places these
pub record Change (w : Waiting) (s : ℕ) (ps : List Place) (q : Queue) (free used : ℕ) : Type 0 where
  pub all_places : length ps ≡ 256
  pub links : (i : ℕ) → (place_of ps i).next < 256
  pub sizes : (i : ℕ) → (place_of ps i).packet.length < 2 ^ 32
  pub head : q.head < 256
  pub tail : q.tail < 256
  pub first_free : free < 256
  pub last : q.tail ≡ last_or q.tail (queue_chain ps q)
  pub lengths : q.lengths ≡ total_length (packets ps (queue_chain ps q))
  pub count : used + (header w.chains s).count ≡ w.chains.used + q.count
  pub within : used ≤ 256
  pub other_chains :
      (k : ℕ) → (k ≡ s → ⊥) → queue_chain ps (header w.chains k) ≡ queue_chain w.chains.places (header w.chains k)
  pub other_packets :
      (k : ℕ) → (k ≡ s → ⊥) →
      packets ps (queue_chain w.chains.places (header w.chains k)) ≡ queue_in w.chains k
  -- the free places and those of this queue are together what they were
  pub same_places :
      (i : ℕ) →
      occurrences i (chain ps free (256 - used)) + occurrences i (queue_chain ps q) ≡
      occurrences i (free_chain w.chains) + occurrences i (queue_chain w.chains.places (header w.chains s))

-- the ghost fields of a table, one within the other
abbrev pub Ghosts : Chains → Type 0
Ghosts t =
    record {
      places : length t.places ≡ 256;
      queues : length t.queues ≡ 64;
      links : LinksWithin t;
      heads : HeadsWithin t;
      tails : TailsWithin t;
      free : t.free < 256;
      used : t.used ≤ 256;
      sizes : LengthsWithin t;
      lasts : TailsLast t;
      lengths : LengthsSummed t;
      counts : CountsSummed t;
      once : NoPlaceTwice t;
    }

module _ {w : Waiting} {s : ℕ} {ps : List Place} {q : Queue} {free used : ℕ} (low : s < 64) (change : Change w s ps q free used) where
  abbrev qs : List Queue
  qs = w.chains.queues

  -- the chains after the change
  abbrev pub changed : Chains
  changed = record { places = ps; queues = set qs s q; free = free; used = used }

  at : s < length qs
  at = omega (arith, w.queues)

  others_stay : (k : ℕ) → (k ≡ s → ⊥) → packets ps (queue_chain ps (header w.chains k)) ≡ queue_in w.chains k
  others_stay k ne = ap (packets ps) (change.other_chains k ne) ∙ change.other_packets k ne

  heads : HeadsWithin changed
  heads = each_set (λ (h : Queue). h.head < 256) qs s q empty_queue at change.head (λ k ne. w.heads k)

  tails : TailsWithin changed
  tails = each_set (λ (h : Queue). h.tail < 256) qs s q empty_queue at change.tail (λ k ne. w.tails k)

  lasts : TailsLast changed
  lasts =
      each_set (λ (h : Queue). h.tail ≡ last_or h.tail (queue_chain ps h)) qs s q empty_queue at change.last
      (λ k ne. w.lasts k ∙ ap (last_or (header w.chains k).tail) (sym (change.other_chains k ne)))

  lengths : LengthsSummed changed
  lengths =
      each_set (λ (h : Queue). h.lengths ≡ total_length (packets ps (queue_chain ps h))) qs s q empty_queue at change.lengths
      (λ k ne. w.lengths k ∙ ap total_length (sym (others_stay k ne)))

  counts : CountsSummed changed
  counts = omega (arith, w.counts, change.count, sum_by-set (λ (h : Queue). h.count) qs s q empty_queue at)

  once : NoPlaceTwice changed
  once i =
      omega (
        arith,
        w.once i,
        change.same_places i,
        sum_changed (λ h. occurrences i (queue_chain w.chains.places h)) (λ h. occurrences i (queue_chain ps h)) qs s q empty_queue at
            (λ k lt ne. ap (occurrences i) (change.other_chains k ne)),
      )

  pub change_keeps : Ghosts changed
  change_keeps = record {
    places = change.all_places;
    queues = length-set qs s q ∙ w.queues;
    links = change.links;
    heads = heads;
    tails = tails;
    free = change.first_free;
    used = change.within;
    sizes = change.sizes;
    lasts = lasts;
    lengths = lengths;
    counts = counts;
    once = once;
  }

  pub changed_queue : queue_in changed s ≡ packets ps (queue_chain ps q)
  changed_queue = ap (λ h. packets ps (queue_chain ps h)) (get_or-set_same qs s q empty_queue at)

  pub other_queue : (k : ℕ) → (k ≡ s → ⊥) → queue_in changed k ≡ queue_in w.chains k
  other_queue k ne = ap (λ h. packets ps (queue_chain ps h)) (get_or-set_other qs s k q empty_queue ne) ∙ others_stay k ne
