-- A packet goes into the first free place, which becomes the last of a queue.
use Rattle.std.proofs.Common.{◌≡◌, ℕ, suc, ◌+◌, ◌-◌, ◌^◌, ◌<◌, ◌≤◌, Bool, true, false, cond, eqb, List, [], ◌∷◌, ◌++◌, length, sym, refl, ap, ◌∙◌, subst, arith, length-set}
use Rattle.std.proofs.lemmas.Bool.{eqb-true, eqb-false}
use Rattle.calls.specs.declared.call.Packet.{Packet}
use Rattle.waiting.specs.declared.place.Place.{Place}
use Rattle.waiting.specs.declared.place.Queue.{Queue}
use Rattle.waiting.specs.declared.table.Waiting.{Waiting}
use Rattle.waiting.specs.Chains.{empty_place, place_of, header, chain, queue_chain, packets, total_length, occurrences, last_or}
use Rattle.waiting.specs.Invariants.{free_chain}
use Rattle.waiting.specs.Steps.{with_packet, with_next, appended, Appendable}
use Rattle.waiting.specs.Queues.{queue_in}
use Rattle.waiting.proofs.Linking.{occurs_first, occurrences_append, chain_cons, this_place, chain_stays, chain_extends, packets_stay, packet_kept, packets_same, packets_append, total_length_push, last_occurs, last_push}
use Rattle.waiting.proofs.Updates.{each_set}
use Rattle.waiting.proofs.Apart.{count_within, lengths_within, once_in_queue, free_in_no_queue, in_no_other_queue}
use Rattle.waiting.proofs.Keeping.{Change, Ghosts, change_keeps, changed_queue, other_queue}

-- what holds in either case of a test that chooses two values
either_case :
    {X Y : Type 0} (b : Bool) (P : X → Y → Type 0) (x x' : X) (y y' : Y) → (b ≡ true → P x y) → (b ≡ false → P x' y') →
    P (cond b x x') (cond b y y')
either_case true P x x' y y' here there = here refl
either_case false P x x' y y' here there = there refl

module _ (w : Waiting) (s : ℕ) (p : Packet) where
  abbrev ps : List Place
  ps = w.chains.places

  abbrev q : Queue
  q = header w.chains s

  abbrev free : ℕ
  free = w.chains.free

  abbrev used : ℕ
  used = w.chains.used

  -- the places with the packet, and with its place behind the one that was last
  abbrev ps_stored : List Place
  ps_stored = with_packet ps free p

  abbrev ps_linked : List Place
  ps_linked = with_next ps_stored q.tail free

  -- the free places behind the first
  abbrev free_behind : List ℕ
  free_behind = chain ps (place_of ps free).next (256 - (used + 1))

  abbrev q_after : ℕ → Queue
  q_after head = record { head = head; tail = free; count = q.count + 1; lengths = q.lengths + p.length }

  module _ (low : s < 64) (room : used < 256) (fits : p.length < 2 ^ 32) where
    at : free < length ps
    at = omega (arith, w.free, w.places)

    free_before : free_chain w.chains ≡ free ∷ free_behind
    free_before =
        let less : 256 - used - 1 ≡ 256 - (used + 1) = omega arith in
        chain_cons ps free (256 - used) (omega arith) ∙ ap (λ n. free ∷ chain ps (place_of ps free).next n) less

    free_once : occurrences free (free ∷ free_behind) ≡ 1 + occurrences free free_behind
    free_once = occurs_first free free free_behind refl

    not_queued : (k : ℕ) → occurrences free (queue_chain ps (header w.chains k)) ≡ 0
    not_queued = free_in_no_queue w free (subst (λ ks. 1 ≤ occurrences free ks) (sym free_before) (omega (arith, free_once)))

    not_behind : occurrences free free_behind ≡ 0
    not_behind = omega (arith, once_in_queue w free s low, ap (occurrences free) free_before, free_once)

    -- what the places and the head have to be for the packet to be last
    record Last (ps_after : List Place) (head : ℕ) : Type 0 where
      pub all_places : length ps_after ≡ 256
      pub links : (i : ℕ) → (place_of ps_after i).next < 256
      pub head_within : head < 256
      pub this_chain : queue_chain ps_after (q_after head) ≡ queue_chain ps q ++ (free ∷ [])
      pub other_chains : (k : ℕ) → (k ≡ s → ⊥) → queue_chain ps_after (header w.chains k) ≡ queue_chain ps (header w.chains k)
      pub free_chain_after : chain ps_after (place_of ps free).next (256 - (used + 1)) ≡ free_behind
      pub packet : (i : ℕ) → (place_of ps_after i).packet ≡ (place_of ps_stored i).packet

    module _ (ps_after : List Place) (head : ℕ) (last : Last ps_after head) where
      packets_kept : (is : List ℕ) → occurrences free is ≡ 0 → packets ps_after is ≡ packets ps is
      packets_kept is off = packets_same ps_after ps_stored last.packet is ∙ packets_stay ps free _ is off

      packet_there : (place_of ps_after free).packet ≡ p
      packet_there = last.packet free ∙ ap (λ (x : Place). x.packet) (this_place ps free _ at)

      packets_after : packets ps_after (queue_chain ps_after (q_after head)) ≡ queue_in w.chains s ++ (p ∷ [])
      packets_after =
          ap (packets ps_after) last.this_chain
          ∙ packets_append ps_after (queue_chain ps q) (free ∷ [])
          ∙ ap (λ rest. rest ++ ((place_of ps_after free).packet ∷ [])) (packets_kept (queue_chain ps q) (not_queued s))
          ∙ ap (λ x. queue_in w.chains s ++ (x ∷ [])) packet_there

      appends : Change w s ps_after (q_after head) (place_of ps free).next (used + 1)
      appends =
          record {
            all_places = last.all_places;
            links = last.links;
            sizes = λ i.
                subst (λ (x : Packet). x.length < 2 ^ 32) (sym (last.packet i))
                (each_set (λ (x : Place). x.packet.length < 2 ^ 32) ps free _ empty_place at fits (λ k ne. w.sizes k) i);
            head = last.head_within;
            tail = w.free;
            first_free = w.links free;
            last = sym (ap (last_or free) last.this_chain ∙ last_push free (queue_chain ps q) free);
            lengths =
                ap (λ n. n + p.length) (w.lengths s)
                ∙ sym (ap total_length packets_after ∙ total_length_push (queue_in w.chains s) p);
            count = omega arith;
            within = omega arith;
            other_chains = last.other_chains;
            other_packets = λ k ne. packets_kept (queue_chain ps (header w.chains k)) (not_queued k);
            same_places = λ i.
                omega (
                  arith,
                  ap (occurrences i) last.free_chain_after,
                  ap (occurrences i) last.this_chain,
                  ap (occurrences i) free_before,
                  occurrences_append i (queue_chain ps q) (free ∷ []),
                );
          }

    -- the packet's place is on no other chain
    stored_chain : (k : ℕ) → queue_chain ps_stored (header w.chains k) ≡ queue_chain ps (header w.chains k)
    stored_chain k = chain_stays ps free _ (header w.chains k).head (header w.chains k).count (not_queued k)

    stored_free : chain ps_stored (place_of ps free).next (256 - (used + 1)) ≡ free_behind
    stored_free = chain_stays ps free _ (place_of ps free).next (256 - (used + 1)) not_behind

    stored_links : (i : ℕ) → (place_of ps_stored i).next < 256
    stored_links = each_set (λ (x : Place). x.next < 256) ps free _ empty_place at (w.links free) (λ k ne. w.links k)

    last_of_none : q.count ≡ 0 → Last ps_stored free
    last_of_none none =
        record {
          all_places = length-set ps free _ ∙ w.places;
          links = stored_links;
          head_within = w.free;
          this_chain =
              ap (λ n. chain ps_stored free (n + 1)) none ∙ ap (λ n. chain ps q.head n ++ (free ∷ [])) (sym none);
          other_chains = λ k ne. stored_chain k;
          free_chain_after = stored_free;
          packet = λ i. refl;
        }

    module _ (some : 0 < q.count) where
      tail_in_queue : 1 ≤ occurrences q.tail (queue_chain ps q)
      tail_in_queue =
          let rest : List ℕ = chain ps (place_of ps q.head).next (q.count - 1) in
          let cons : queue_chain ps q ≡ q.head ∷ rest = chain_cons ps q.head q.count some in
          let last : q.tail ≡ last_or q.tail (q.head ∷ rest) = w.lasts s ∙ ap (last_or q.tail) cons in
          subst (λ ks. 1 ≤ occurrences q.tail ks) (sym cons)
          (subst (λ k. 1 ≤ occurrences k (q.head ∷ rest)) (sym last) (last_occurs q.tail q.head rest))

      tail_within : q.tail < length ps_stored
      tail_within = omega (arith, w.tails s, w.places, length-set ps free (record { packet = p; next = (place_of ps free).next }))

      linked_chain : queue_chain ps_linked (q_after q.head) ≡ queue_chain ps q ++ (free ∷ [])
      linked_chain =
          let count : suc (q.count - 1) ≡ q.count = omega arith in
          let more : q.count + 1 ≡ suc (suc (q.count - 1)) = omega arith in
          let before : chain ps_stored q.head (suc (q.count - 1)) ≡ queue_chain ps q = ap (chain ps_stored q.head) count ∙ stored_chain s in
          ap (chain ps_linked q.head) more
          ∙ chain_extends ps_stored q.tail _ q.head (q.count - 1) tail_within (w.lasts s ∙ ap (last_or q.tail) (sym before))
          (omega (arith, once_in_queue w q.tail s low, ap (occurrences q.tail) before))
          ∙ ap (λ ks. ks ++ (free ∷ [])) before

      last_of_some : Last ps_linked q.head
      last_of_some =
          record {
            all_places = length-set ps_stored q.tail _ ∙ length-set ps free _ ∙ w.places;
            links = each_set (λ (x : Place). x.next < 256) ps_stored q.tail _ empty_place tail_within w.free (λ k ne. stored_links k);
            head_within = w.heads s;
            this_chain = linked_chain;
            other_chains = λ k ne.
                chain_stays ps_stored q.tail _ (header w.chains k).head (header w.chains k).count
                (ap (occurrences q.tail) (stored_chain k) ∙ in_no_other_queue w q.tail s low tail_in_queue k ne)
                ∙ stored_chain k;
            free_chain_after =
                chain_stays ps_stored q.tail _ (place_of ps free).next (256 - (used + 1))
                (omega (
                  arith,
                  ap (occurrences q.tail) stored_free,
                  ap (occurrences q.tail) free_before,
                  once_in_queue w q.tail s low,
                  tail_in_queue,
                ))
                ∙ stored_free;
            packet = packet_kept ps_stored q.tail _ tail_within refl;
          }

    abbrev ps_appended : List Place
    ps_appended = cond (eqb q.count 0) ps_stored ps_linked

    abbrev head_appended : ℕ
    head_appended = cond (eqb q.count 0) free q.head

    last_appended : Last ps_appended head_appended
    last_appended =
        either_case (eqb q.count 0) Last ps_stored ps_linked free q.head
        (λ none. last_of_none (eqb-true q.count 0 none))
        (λ some. let ne : q.count ≡ 0 → ⊥ = eqb-false q.count 0 some in last_of_some (omega arith))

    pub appendable : Appendable w.chains s p
    appendable =
        record {
          session = low;
          free = w.free;
          tail = w.tails s;
          count = omega (arith, count_within w s low);
          lengths = omega (arith, count_within w s low, lengths_within w s);
          used = room;
        }

    pub appended_keeps : Ghosts (appended w.chains s p)
    appended_keeps = change_keeps low (appends ps_appended head_appended last_appended)

    pub appended_queue : queue_in (appended w.chains s p) s ≡ queue_in w.chains s ++ (p ∷ [])
    appended_queue =
        changed_queue low (appends ps_appended head_appended last_appended) ∙ packets_after ps_appended head_appended last_appended

    pub appended_others : (k : ℕ) → (k ≡ s → ⊥) → queue_in (appended w.chains s p) k ≡ queue_in w.chains k
    appended_others = other_queue low (appends ps_appended head_appended last_appended)
