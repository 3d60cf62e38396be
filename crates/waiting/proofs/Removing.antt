-- The first packet of a queue goes, and its place is free.
use Rattle.std.proofs.Common.{◌≡◌, ℕ, ◌+◌, ◌-◌, ◌^◌, ◌<◌, ◌≤◌, List, ◌∷◌, length, sym, refl, ap, ◌∙◌, subst, arith, length-set}
use Rattle.calls.specs.declared.call.Packet.{Packet}
use Rattle.waiting.specs.declared.place.Place.{Place}
use Rattle.waiting.specs.declared.place.Queue.{Queue}
use Rattle.waiting.specs.declared.table.Waiting.{Waiting}
use Rattle.waiting.specs.Chains.{empty_place, place_of, header, chain, queue_chain, packets, total_length, occurrences, last_or}
use Rattle.waiting.specs.Invariants.{free_chain}
use Rattle.waiting.specs.Steps.{with_next, without_first, first_place, removed, Removable}
use Rattle.waiting.specs.Queues.{queue_in, rest_of}
use Rattle.waiting.proofs.Linking.{occurs_first, chain_cons, this_place, chain_stays, packet_kept, packets_same, last_rest}
use Rattle.waiting.proofs.Updates.{each_set}
use Rattle.waiting.proofs.Apart.{count_within, once_in_queue, in_no_other_queue}
use Rattle.waiting.proofs.Keeping.{Change, Ghosts, change_keeps, changed_queue, other_queue}

module _ (w : Waiting) (s : ℕ) where
  abbrev ps : List Place
  ps = w.chains.places

  abbrev q : Queue
  q = header w.chains s

  -- the places of the queue behind the first
  abbrev behind : List ℕ
  behind = chain ps (first_place w.chains s).next (q.count - 1)

  abbrev ps_after : List Place
  ps_after = with_next ps q.head w.chains.free

  abbrev q_after : Queue
  q_after = without_first q (first_place w.chains s).next (first_place w.chains s).packet.length

  module _ (low : s < 64) (some : 0 < q.count) where
    at : q.head < length ps
    at = omega (arith, w.heads s, w.places)

    chain_before : queue_chain ps q ≡ q.head ∷ behind
    chain_before = chain_cons ps q.head q.count some

    head_once : occurrences q.head (q.head ∷ behind) ≡ 1 + occurrences q.head behind
    head_once = occurs_first q.head q.head behind refl

    in_queue : 1 ≤ occurrences q.head (queue_chain ps q)
    in_queue = subst (λ ks. 1 ≤ occurrences q.head ks) (sym chain_before) (omega (arith, head_once))

    not_behind : occurrences q.head behind ≡ 0
    not_behind = omega (arith, once_in_queue w q.head s low, ap (occurrences q.head) chain_before, head_once)

    not_free : occurrences q.head (free_chain w.chains) ≡ 0
    not_free = omega (arith, once_in_queue w q.head s low, in_queue)

    some_used : 0 < w.chains.used
    some_used = omega (arith, count_within w s low)

    lengths_before : q.lengths ≡ (first_place w.chains s).packet.length + total_length (packets ps behind)
    lengths_before = w.lengths s ∙ ap (λ ks. total_length (packets ps ks)) chain_before

    chain_after : queue_chain ps_after q_after ≡ behind
    chain_after = chain_stays ps q.head _ (first_place w.chains s).next (q.count - 1) not_behind

    free_after : chain ps_after q.head (256 - (w.chains.used - 1)) ≡ q.head ∷ free_chain w.chains
    free_after =
        let free : ℕ = w.chains.free in
        let used : ℕ = w.chains.used in
        let one_more : 256 - (used - 1) - 1 ≡ 256 - used = omega (arith, some_used, w.used) in
        let next : (place_of ps_after q.head).next ≡ free = ap (λ (x : Place). x.next) (this_place ps q.head _ at) in
        chain_cons ps_after q.head (256 - (used - 1)) (omega (arith, some_used, w.used))
        ∙ ap (λ n. q.head ∷ chain ps_after (place_of ps_after q.head).next n) one_more
        ∙ ap (λ i. q.head ∷ chain ps_after i (256 - used)) next
        ∙ ap (λ ks. q.head ∷ ks) (chain_stays ps q.head _ free (256 - used) not_free)

    packets_kept : (is : List ℕ) → packets ps_after is ≡ packets ps is
    packets_kept = packets_same ps_after ps (packet_kept ps q.head _ at refl)

    packets_after : packets ps_after (queue_chain ps_after q_after) ≡ packets ps behind
    packets_after = ap (packets ps_after) chain_after ∙ packets_kept behind

    removes : Change w s ps_after q_after q.head (w.chains.used - 1)
    removes =
        record {
          all_places = length-set ps q.head _ ∙ w.places;
          links = each_set (λ (x : Place). x.next < 256) ps q.head _ empty_place at w.free (λ k ne. w.links k);
          sizes = λ i. subst (λ (x : Packet). x.length < 2 ^ 32) (sym (packet_kept ps q.head _ at refl i)) (w.sizes i);
          head = w.links q.head;
          tail = w.tails s;
          first_free = w.heads s;
          last =
              last_rest q.tail q.head behind (w.lasts s ∙ ap (last_or q.tail) chain_before)
              ∙ ap (last_or q.tail) (sym chain_after);
          lengths =
              let left : q_after.lengths ≡ total_length (packets ps behind) = omega (arith, lengths_before) in
              left ∙ ap total_length (sym packets_after);
          count = omega (arith, some_used);
          within = omega (arith, w.used);
          other_chains = λ k ne.
              chain_stays ps q.head _ (header w.chains k).head (header w.chains k).count
              (in_no_other_queue w q.head s low in_queue k ne);
          other_packets = λ k ne. packets_kept (queue_chain ps (header w.chains k));
          same_places = λ i.
              omega (
                arith,
                ap (occurrences i) free_after,
                ap (occurrences i) chain_after,
                ap (occurrences i) chain_before,
              );
        }

    pub removable : Removable w.chains s
    removable =
        record { session = low; head = w.heads s; count = some; lengths = omega (arith, lengths_before); used = some_used }

    pub removed_keeps : Ghosts (removed w.chains s)
    removed_keeps = change_keeps low removes

    pub removed_queue : queue_in (removed w.chains s) s ≡ rest_of (queue_in w.chains s)
    removed_queue =
        changed_queue low removes ∙ packets_after ∙ sym (ap (λ is. rest_of (packets ps is)) chain_before)

    pub removed_others : (k : ℕ) → (k ≡ s → ⊥) → queue_in (removed w.chains s) k ≡ queue_in w.chains k
    removed_others = other_queue low removes
