-- What follows from what always holds of a table: bounds, and that no place is in two chains.
use Rattle.std.proofs.Common.{◌≡◌, ℕ, ◌+◌, ◌*◌, ◌^◌, ◌<◌, ◌≤◌, List, ap, ⊎_elim, arith}
use Rattle.std.proofs.lemmas.List.{get_or_past}
use Rattle.std.proofs.lemmas.List.Sums.{get_or-le-sum_by}
use Rattle.std.proofs.lemmas.Bool.{cases_lt}
use Rattle.waiting.specs.declared.place.Place.{Place}
use Rattle.waiting.specs.declared.place.Queue.{Queue}
use Rattle.waiting.specs.declared.table.Waiting.{Waiting}
use Rattle.waiting.specs.Chains.{empty_queue, header, queue_chain, occurrences}
use Rattle.waiting.specs.Invariants.{free_chain}
use Rattle.waiting.proofs.Linking.{total_length_bound, length_chain}
use Rattle.waiting.proofs.Updates.{two_of_sum}

module _ (w : Waiting) where
  abbrev ps : List Place
  ps = w.chains.places

  abbrev qs : List Queue
  qs = w.chains.queues

  -- a number past the last session has no packet
  pub header_past : (k : ℕ) → 64 ≤ k → header w.chains k ≡ empty_queue
  header_past k past = get_or_past qs k empty_queue (omega (arith, w.queues))

  pub count_within : (s : ℕ) → s < 64 → (header w.chains s).count ≤ w.chains.used
  count_within s low = omega (arith, w.counts, get_or-le-sum_by (λ q. q.count) qs s empty_queue (omega (arith, w.queues)))

  pub lengths_within : (s : ℕ) → (header w.chains s).lengths ≤ (header w.chains s).count * 2 ^ 32
  lengths_within s =
      let q : Queue = header w.chains s in
      omega (
        arith,
        w.lengths s,
        total_length_bound ps w.sizes (queue_chain ps q),
        ap (λ n. n * 2 ^ 32) (length_chain ps q.head q.count),
      )

  -- a place of a queue stands there once, and is not free
  pub once_in_queue : (i s : ℕ) → s < 64 → occurrences i (free_chain w.chains) + occurrences i (queue_chain ps (header w.chains s)) ≤ 1
  once_in_queue i s low =
      omega (arith, w.once i, get_or-le-sum_by (λ q. occurrences i (queue_chain ps q)) qs s empty_queue (omega (arith, w.queues)))

  -- a free place is in no queue
  pub free_in_no_queue : (i : ℕ) → 1 ≤ occurrences i (free_chain w.chains) → (k : ℕ) → occurrences i (queue_chain ps (header w.chains k)) ≡ 0
  free_in_no_queue i on k =
      ⊎_elim
      (λ (lt : k < 64). omega (arith, once_in_queue i k lt))
      (λ (past : 64 ≤ k). ap (λ q. occurrences i (queue_chain ps q)) (header_past k past))
      (cases_lt k 64)

  -- a place of one queue is in no other
  pub in_no_other_queue :
      (i s : ℕ) → s < 64 → 1 ≤ occurrences i (queue_chain ps (header w.chains s)) → (k : ℕ) → (k ≡ s → ⊥) →
      occurrences i (queue_chain ps (header w.chains k)) ≡ 0
  in_no_other_queue i s low on k ne =
      ⊎_elim
      (λ (lt : k < 64).
      omega (
        arith,
        w.once i,
        two_of_sum (λ q. occurrences i (queue_chain ps q)) qs k s empty_queue (omega (arith, w.queues)) (omega (arith, w.queues)) ne,
      ))
      (λ (past : 64 ≤ k). ap (λ q. occurrences i (queue_chain ps q)) (header_past k past))
      (cases_lt k 64)
