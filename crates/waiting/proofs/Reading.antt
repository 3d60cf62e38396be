-- What the headers and the numbers of a table say of its queues.
use Rattle.std.proofs.Common.{◌≡◌, ℕ, zero, suc, ◌+◌, ◌<◌, ◌≤◌, eqb, List, [], length, take, Some, None, sum_by, sym, refl, ap, ◌∙◌, subst, add-one, arith}
use Rattle.std.proofs.lemmas.List.{take_all}
use Rattle.std.proofs.lemmas.List.Sums.{sum_by_more}
use Rattle.std.proofs.lemmas.Bool.{cond_both, eqb-true, eqb-false}
use Rattle.calls.specs.Sums.{sum_below}
use Rattle.waiting.specs.declared.place.Place.{Place}
use Rattle.waiting.specs.declared.place.Queue.{Queue}
use Rattle.waiting.specs.declared.table.Waiting.{Waiting}
use Rattle.waiting.specs.Chains.{empty_queue, place_of, header, chain, queue_chain, packets}
use Rattle.waiting.specs.Headers.{Describes}
use Rattle.waiting.specs.Queues.{queue, total_length, all_waiting, first_of}
use Rattle.waiting.proofs.Linking.{length_packets, length_chain, chain_cons}
use Rattle.waiting.proofs.Apart.{header_past}

module _ (w : Waiting) where
  abbrev ps : List Place
  ps = w.chains.places

  abbrev qs : List Queue
  qs = w.chains.queues

  pub queue_count : (s : ℕ) → (header w.chains s).count ≡ length (queue w s)
  unfolding queue
  queue_count s =
      sym (length_packets ps (queue_chain ps (header w.chains s)) ∙ length_chain ps (header w.chains s).head (header w.chains s).count)

  pub queue_lengths : (s : ℕ) → (header w.chains s).lengths ≡ total_length (queue w s)
  unfolding queue
  queue_lengths s = w.lengths s

  pub queue_none : (s : ℕ) → (header w.chains s).count ≡ 0 → queue w s ≡ []
  unfolding queue
  queue_none s none = ap (λ n. packets ps (chain ps (header w.chains s).head n)) none

  pub queue_past : (s : ℕ) → 64 ≤ s → queue w s ≡ []
  queue_past s past = queue_none s (ap (λ q. q.count) (header_past w s past))

  pub queue_first :
      (s : ℕ) → 0 < (header w.chains s).count → first_of (queue w s) ≡ Some (place_of ps (header w.chains s).head).packet
  unfolding queue
  queue_first s some = ap (λ is. first_of (packets ps is)) (chain_cons ps (header w.chains s).head (header w.chains s).count some)

  pub describes : (s : ℕ) → s < 64 → Describes w s (header w.chains s)
  describes s low =
      record {
        session = low;
        head = w.heads s;
        tail = w.tails s;
        count = queue_count s;
        lengths = queue_lengths s;
        first =
            cond_both (eqb (header w.chains s).count 0) None (Some (place_of ps (header w.chains s).head).packet) (λ x. x ≡ first_of (queue w s))
            (λ none. sym (ap first_of (queue_none s (eqb-true (header w.chains s).count 0 none))))
            (λ some.
            let ne : (header w.chains s).count ≡ 0 → ⊥ = eqb-false (header w.chains s).count 0 some in
            sym (queue_first s (omega arith)));
      }

  counted :
      (n : ℕ) → n ≤ length qs → sum_below n (λ s. length (queue w s)) ≡ sum_by (λ (q : Queue). q.count) (take n qs)
  unfolding sum_below
  counted zero within = refl
  counted (suc n) within =
      let more : sum_by (λ (q : Queue). q.count) (take (suc n) qs) ≡ sum_by (λ (q : Queue). q.count) (take n qs) + (header w.chains n).count =
      subst (λ k. sum_by (λ (q : Queue). q.count) (take k qs) ≡ sum_by (λ (q : Queue). q.count) (take n qs) + (header w.chains n).count) (add-one n)
      (sum_by_more (λ (q : Queue). q.count) qs n empty_queue within)
      in
      omega (arith, counted n (omega arith), queue_count n)

  -- the places in use are as many as all packets that wait
  pub used_is_all_waiting : w.chains.used ≡ all_waiting w
  used_is_all_waiting =
      w.counts
      ∙ sym (counted 64 (omega (arith, w.queues)) ∙ ap (sum_by (λ (q : Queue). q.count)) (take_all 64 qs (omega (arith, w.queues))))
