-- Chains of places: what a write leaves of them, and what they hold.
use Rattle.std.proofs.Common.{◌≡◌, ℕ, zero, suc, ◌+◌, ◌-◌, ◌*◌, ◌^◌, ◌<◌, ◌≤◌, eqb, List, [], ◌∷◌, ◌++◌, length, set, sym, refl, ap, ◌∙◌, subst, ⊎_elim, arith}
use Rattle.std.proofs.lemmas.List.{get_or-set_same, get_or-set_other}
use Rattle.std.proofs.lemmas.Bool.{cases_eq, cond-true, eq-eqb}
use Rattle.calls.specs.declared.call.Packet.{Packet}
use Rattle.waiting.specs.declared.place.Place.{Place}
use Rattle.waiting.specs.Chains.{empty_place, place_of, chain, packets, total_length, occurrences, last_or}

-- ---- how often a place stands in a list
pub occurs_first : (i k : ℕ) (ks : List ℕ) → k ≡ i → occurrences i (k ∷ ks) ≡ 1 + occurrences i ks
occurs_first i k ks e = ap (λ n. n + occurrences i ks) (cond-true {A = ℕ} (eqb k i) 1 0 (eq-eqb k i e))

pub absent_first : (i k : ℕ) (ks : List ℕ) → occurrences i (k ∷ ks) ≡ 0 → k ≡ i → ⊥
absent_first i k ks none e = omega (arith, occurs_first i k ks e)

pub occurrences_append : (i : ℕ) (ks js : List ℕ) → occurrences i (ks ++ js) ≡ occurrences i ks + occurrences i js
occurrences_append i [] js = omega arith
occurrences_append i (k ∷ ks) js = omega (arith, occurrences_append i ks js)

-- ---- the last of a list
pub last_occurs : (d k : ℕ) (ks : List ℕ) → 1 ≤ occurrences (last_or d (k ∷ ks)) (k ∷ ks)
last_occurs d k [] = omega (arith, occurs_first k k [] refl)
last_occurs d k (j ∷ ks) = omega (arith, last_occurs k j ks)

pub last_push : (d : ℕ) (ks : List ℕ) (k : ℕ) → last_or d (ks ++ (k ∷ [])) ≡ k
last_push d [] k = refl
last_push d (j ∷ ks) k = last_push j ks k

pub last_rest : (t k : ℕ) (ks : List ℕ) → t ≡ last_or t (k ∷ ks) → t ≡ last_or t ks
last_rest t k [] e = refl
last_rest t k (j ∷ ks) e = e

-- ---- chains
pub other_place : (ps : List Place) (p : ℕ) (x : Place) (i : ℕ) → (i ≡ p → ⊥) → place_of (set ps p x) i ≡ place_of ps i
other_place ps p x i ne = get_or-set_other ps p i x empty_place ne

pub this_place : (ps : List Place) (p : ℕ) (x : Place) → p < length ps → place_of (set ps p x) p ≡ x
this_place ps p x within = get_or-set_same ps p x empty_place within

pub length_chain : (ps : List Place) (i n : ℕ) → length (chain ps i n) ≡ n
length_chain ps i zero = refl
length_chain ps i (suc n) = ap suc (length_chain ps (place_of ps i).next n)

pub chain_cons : (ps : List Place) (i n : ℕ) → 0 < n → chain ps i n ≡ i ∷ chain ps (place_of ps i).next (n - 1)
chain_cons ps i zero some = let no : ⊥ = omega arith in absurd no
chain_cons ps i (suc n) some =
    let e : n ≡ suc n - 1 = omega arith in ap (λ m. i ∷ chain ps (place_of ps i).next m) e

-- a write to a place that is not on a chain leaves it
pub chain_stays :
    (ps : List Place) (p : ℕ) (x : Place) (i n : ℕ) → occurrences p (chain ps i n) ≡ 0 → chain (set ps p x) i n ≡ chain ps i n
chain_stays ps p x i zero off = refl
chain_stays ps p x i (suc n) off =
    let next : ℕ = (place_of ps i).next in
    let here : place_of (set ps p x) i ≡ place_of ps i = other_place ps p x i (absent_first p i (chain ps next n) off) in
    let rest : chain (set ps p x) next n ≡ chain ps next n = chain_stays ps p x next n (omega arith) in
    ap (λ ks. i ∷ ks) (ap (λ (q : Place). chain (set ps p x) q.next n) here ∙ rest)

-- a write to the last place of a chain adds the place that it names
pub chain_extends :
    (ps : List Place) (t : ℕ) (x : Place) (i n : ℕ) → t < length ps → t ≡ last_or t (chain ps i (suc n)) →
    occurrences t (chain ps i (suc n)) ≤ 1 → chain (set ps t x) i (suc (suc n)) ≡ chain ps i (suc n) ++ (x.next ∷ [])
chain_extends ps t x i zero within last once =
    let here : place_of (set ps t x) i ≡ x = subst (λ k. place_of (set ps t x) k ≡ x) last (this_place ps t x within) in
    ap (λ (q : Place). i ∷ (q.next ∷ [])) here
chain_extends ps t x i (suc n) within last once =
    let next : ℕ = (place_of ps i).next in
    let on : 1 ≤ occurrences t (chain ps next (suc n)) =
    subst (λ k. 1 ≤ occurrences k (chain ps next (suc n))) (sym last) (last_occurs i next (chain ps (place_of ps next).next n))
    in
    let ne : i ≡ t → ⊥ = λ e. omega (arith, occurs_first t i (chain ps next (suc n)) e) in
    let here : place_of (set ps t x) i ≡ place_of ps i = other_place ps t x i ne in
    let rest : chain (set ps t x) next (suc (suc n)) ≡ chain ps next (suc n) ++ (x.next ∷ []) =
    chain_extends ps t x next n within last (omega arith)
    in
    ap (λ ks. i ∷ ks) (ap (λ (q : Place). chain (set ps t x) q.next (suc (suc n))) here ∙ rest)

-- ---- what the places of a list hold
pub packets_stay :
    (ps : List Place) (p : ℕ) (x : Place) (is : List ℕ) → occurrences p is ≡ 0 → packets (set ps p x) is ≡ packets ps is
packets_stay ps p x [] off = refl
packets_stay ps p x (i ∷ is) off =
    let here : place_of (set ps p x) i ≡ place_of ps i = other_place ps p x i (absent_first p i is off) in
    let rest : packets (set ps p x) is ≡ packets ps is = packets_stay ps p x is (omega arith) in
    ap (λ (q : Place). q.packet ∷ packets (set ps p x) is) here ∙ ap (λ qs. (place_of ps i).packet ∷ qs) rest

-- a write that leaves the packet leaves all packets
pub packet_kept :
    (ps : List Place) (p : ℕ) (x : Place) → p < length ps → x.packet ≡ (place_of ps p).packet → (i : ℕ) →
    (place_of (set ps p x) i).packet ≡ (place_of ps i).packet
packet_kept ps p x within same i =
    ⊎_elim
    (λ (e : i ≡ p).
    subst (λ k. (place_of (set ps p x) k).packet ≡ (place_of ps k).packet) (sym e)
    (ap (λ (q : Place). q.packet) (this_place ps p x within) ∙ same))
    (λ (ne : i ≡ p → ⊥). ap (λ (q : Place). q.packet) (other_place ps p x i ne))
    (cases_eq i p)

pub packets_same :
    (ps qs : List Place) → ((i : ℕ) → (place_of ps i).packet ≡ (place_of qs i).packet) → (is : List ℕ) → packets ps is ≡ packets qs is
packets_same ps qs same [] = refl
packets_same ps qs same (i ∷ is) =
    ap (λ p. p ∷ packets ps is) (same i) ∙ ap (λ rest. (place_of qs i).packet ∷ rest) (packets_same ps qs same is)

pub length_packets : (ps : List Place) (is : List ℕ) → length (packets ps is) ≡ length is
length_packets ps [] = refl
length_packets ps (i ∷ is) = ap suc (length_packets ps is)

pub packets_append : (ps : List Place) (is js : List ℕ) → packets ps (is ++ js) ≡ packets ps is ++ packets ps js
packets_append ps [] js = refl
packets_append ps (i ∷ is) js = ap (λ rest. (place_of ps i).packet ∷ rest) (packets_append ps is js)

-- ---- lengths
pub total_length_push : (qs : List Packet) (q : Packet) → total_length (qs ++ (q ∷ [])) ≡ total_length qs + q.length
total_length_push [] q = omega arith
total_length_push (r ∷ qs) q = omega (arith, total_length_push qs q)

pub total_length_bound :
    (ps : List Place) → ((i : ℕ) → (place_of ps i).packet.length < 2 ^ 32) → (is : List ℕ) → total_length (packets ps is) ≤ length is * 2 ^ 32
total_length_bound ps sizes [] = omega arith
total_length_bound ps sizes (i ∷ is) = omega (arith, sizes i, total_length_bound ps sizes is)
