-- A new table: every place is free, and names the one behind it.
use Rattle.std.proofs.Common.{◌≡◌, ℕ, zero, suc, ◌+◌, ◌^◌, ◌<◌, ◌≤◌, cond, eqb, ltb, List, [], length, get_or, replicate, sum_by, sym, refl, ap, ◌∙◌, subst, ⊎_elim, arith}
use Rattle.std.proofs.lemmas.List.{get_or_past, get_or-replicate, length-replicate}
use Rattle.std.proofs.lemmas.List.Sums.{sum_by-cons}
use Rattle.std.proofs.lemmas.Bool.{cases_eq, cases_lt, cond-true, cond-false, cond_both, lt-ltb, ltb-true, le-ltb, ne_eqb}
use Rattle.waiting.specs.declared.place.Place.{Place}
use Rattle.waiting.specs.declared.place.Queue.{Queue}
use Rattle.waiting.specs.declared.chains.Chains.{Chains}
use Rattle.waiting.specs.Chains.{empty_place, empty_queue, place_of, header, chain, queue_chain, packets, total_length, occurrences, last_or}
use Rattle.waiting.specs.Steps.{LinkedBelow, Fresh}
use Rattle.waiting.specs.Queues.{queue_in}
use Rattle.waiting.proofs.Linking.{occurs_first}
use Rattle.waiting.proofs.Keeping.{Ghosts}

-- ---- a list of one element repeated
repeated : {X : Type 0} (n k : ℕ) (x : X) → get_or (replicate n x) k x ≡ x
repeated n k x =
    ⊎_elim
    (λ (lt : k < n). get_or-replicate n k x x lt)
    (λ (past : n ≤ k). get_or_past (replicate n x) k x (subst (λ m. m ≤ k) (sym (length-replicate n x)) past))
    (cases_lt k n)

sum_repeated : {X : Type 0} (f : X → ℕ) (n : ℕ) (x : X) → f x ≡ 0 → sum_by f (replicate n x) ≡ 0
sum_repeated f zero x none = refl
sum_repeated f (suc n) x none = omega (arith, sum_by-cons f x (replicate n x), sum_repeated f n x none)

pub linked_below_none : LinkedBelow 0 (replicate 256 empty_place)
linked_below_none k =
    repeated 256 k empty_place
    ∙ ap (λ n. record { packet = empty_place.packet; next = n }) (sym (cond-false {A = ℕ} (ltb k 0) (k + 1) 0 (le-ltb k 0 (omega arith))))

-- ---- a chain that goes up has each place once, and none below its start
rising_once :
    (ps : List Place) (n a : ℕ) → ((k : ℕ) → k + 1 < a + n → (place_of ps k).next ≡ k + 1) → (i : ℕ) →
    (occurrences i (chain ps a n) ≤ 1) × (i < a → occurrences i (chain ps a n) ≡ 0)
rising_once ps zero a up i = (omega arith, λ below. refl)
rising_once ps (suc zero) a up i =
    ⊎_elim
    (λ (e : a ≡ i). let one = occurs_first i a [] e in (omega arith, λ below. omega arith))
    (λ (ne : a ≡ i → ⊥).
    let none : cond {A = ℕ} (eqb a i) 1 0 ≡ 0 = cond-false {A = ℕ} (eqb a i) 1 0 (ne_eqb a i ne) in
    (omega arith, λ below. omega arith))
    (cases_eq a i)
rising_once ps (suc (suc n)) a up i =
    let next : (place_of ps a).next ≡ a + 1 = up a (omega arith) in
    let rest = rising_once ps (suc n) (a + 1) (λ k lt. up k (omega arith)) i in
    let same : occurrences i (chain ps (place_of ps a).next (suc n)) ≡ occurrences i (chain ps (a + 1) (suc n)) =
    ap (λ j. occurrences i (chain ps j (suc n))) next
    in
    ⊎_elim
    (λ (e : a ≡ i).
    let one = occurs_first i a (chain ps (place_of ps a).next (suc n)) e in
    let above : occurrences i (chain ps (a + 1) (suc n)) ≡ 0 = rest.1 (omega arith) in
    (omega arith, λ below. omega arith))
    (λ (ne : a ≡ i → ⊥).
    let none : cond {A = ℕ} (eqb a i) 1 0 ≡ 0 = cond-false {A = ℕ} (eqb a i) 1 0 (ne_eqb a i ne) in
    (omega (arith, rest.0), λ below. omega (arith, rest.1 (omega arith))))
    (cases_eq a i)

-- n free places, and m queues with no packet
all_free_once :
    (ps : List Place) (n m : ℕ) → ((k : ℕ) → k + 1 < n → (place_of ps k).next ≡ k + 1) → (i : ℕ) →
    occurrences i (chain ps 0 n) + sum_by (λ (q : Queue). occurrences i (queue_chain ps q)) (replicate m empty_queue) ≤ 1
all_free_once ps n m up i =
    omega (
      arith,
      (rising_once ps n 0 (λ k lt. up k (omega arith)) i).0,
      sum_repeated (λ (q : Queue). occurrences i (queue_chain ps q)) m empty_queue refl,
    )

-- the chains with these places, all of them free
abbrev all_free : List Place → Chains
all_free ps = record { places = ps; queues = replicate 64 empty_queue; free = 0; used = 0 }

module _ (ps : List Place) (linked : LinkedBelow 255 ps) where
  each_queue : (P : Queue → Type 0) → P empty_queue → (s : ℕ) → P (header (all_free ps) s)
  each_queue P here s = subst P (sym (repeated 64 s empty_queue)) here

  next_within : (k : ℕ) → (place_of ps k).next < 256
  next_within k =
      subst (λ (x : Place). x.next < 256) (sym (linked k))
      (cond_both (ltb k 255) (k + 1) 0 (λ n. n < 256) (λ low. omega (arith, ltb-true k 255 low)) (λ past. omega arith))

  next_up : (k : ℕ) → k + 1 < 256 → (place_of ps k).next ≡ k + 1
  next_up k low =
      ap (λ (x : Place). x.next) (linked k) ∙ cond-true {A = ℕ} (ltb k 255) (k + 1) 0 (lt-ltb k 255 (omega arith))

  all_free_keeps : length ps ≡ 256 → Ghosts (all_free ps)
  all_free_keeps all_places = record {
    places = all_places;
    queues = length-replicate 64 empty_queue;
    links = next_within;
    heads = each_queue (λ q. q.head < 256) (omega arith);
    tails = each_queue (λ q. q.tail < 256) (omega arith);
    free = omega arith;
    used = omega arith;
    sizes = λ i. subst (λ (x : Place). x.packet.length < 2 ^ 32) (sym (linked i)) (omega arith);
    lasts = each_queue (λ q. q.tail ≡ last_or q.tail (queue_chain ps q)) refl;
    lengths = each_queue (λ q. q.lengths ≡ total_length (packets ps (queue_chain ps q))) refl;
    counts = sym (sum_repeated (λ (q : Queue). q.count) 64 empty_queue refl);
    once = all_free_once ps 256 64 next_up;
  }

module _ (t : Chains) (fresh : Fresh t) where
  pub fresh_keeps : Ghosts t
  fresh_keeps = subst Ghosts (sym fresh.others) (all_free_keeps t.places fresh.places fresh.all_places)

  pub fresh_queue : (s : ℕ) → queue_in t s ≡ []
  fresh_queue s =
      ap (λ x. queue_in x s) fresh.others
      ∙ ap (λ q. packets t.places (queue_chain t.places q)) (repeated 64 s empty_queue)
