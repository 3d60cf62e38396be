-- What a caller learns from the contracts, in the forms that its proofs want.
use Rattle.std.proofs.Common.{◌≡◌, ℕ, ◌+◌, ◌<◌, ◌≤◌, Bool, true, false, cond, eqb, ltb, List, [], ◌∷◌, ◌++◌, length, Some, None, Ok, Err, Result, sym, refl, ap, ◌∙◌, subst, ⊎_elim, arith}
use Rattle.std.proofs.lemmas.List.{length_push}
use Rattle.std.proofs.lemmas.Bool.{cases_eq, cases_lt, cond-true, cond-false, eq-eqb, ne_eqb, lt-ltb, le-ltb, ltb-true}
use Rattle.calls.specs.declared.call.Packet.{Packet}
use Rattle.calls.specs.declared.refusal.Refusal.{Refusal}
use Rattle.calls.specs.declared.refusal.Refusal.TheVariants.{NoSuchSession, Full}
use Rattle.waiting.specs.declared.table.Waiting.{Waiting}
use Rattle.waiting.specs.Queues.{queue, first_of, rest_of, total, all_waiting, no_packets, put, of_session, first_answer, put_answer, after_put, after_take}
use Rattle.waiting.proofs.Sums.{sum_below_none, sum_below_changed, term_within_sum}
use Rattle.waiting.proofs.Reading.{queue_past, used_is_all_waiting}

-- ---- one queue of many
module _ (q : ℕ → List Packet) (s : ℕ) (ps : List Packet) where
  pub put_here : put q s ps s ≡ ps
  put_here = cond-true (eqb s s) ps (q s) (eq-eqb s s refl)

  pub put_other : (n : ℕ) → (n ≡ s → ⊥) → put q s ps n ≡ q n
  put_other n ne = cond-false (eqb n s) ps (q n) (ne_eqb n s ne)

  -- queues that are ps at s, and those of q elsewhere
  pub is_put : (r : ℕ → List Packet) → r s ≡ ps → ((n : ℕ) → (n ≡ s → ⊥) → r n ≡ q n) → r ≡ put q s ps
  is_put r here there =
      let at : (n : ℕ) → r n ≡ put q s ps n = λ n.
      ⊎_elim
      (λ (e : n ≡ s). subst (λ k. r k ≡ put q s ps k) (sym e) (here ∙ sym put_here))
      (λ (ne : n ≡ s → ⊥). there n ne ∙ sym (put_other n ne))
      (cases_eq n s)
      in
      λ i n. at n i

  pub put_same : q s ≡ ps → q ≡ put q s ps
  put_same same = is_put q same (λ n ne. refl)

  pub total_put : s < 64 → total (put q s ps) + length (q s) ≡ total q + length ps
  total_put low =
      omega (
        arith,
        sum_below_changed 64 (λ n. length (q n)) (λ n. length (put q s ps n)) s low (λ n ne. ap length (put_other n ne)),
        ap length put_here,
      )

-- ---- how many wait
pub total_no_packets : total no_packets ≡ 0
total_no_packets = sum_below_none 64 (λ s. length (no_packets s)) (λ s low. refl)

pub count_within_total : (q : ℕ → List Packet) (s : ℕ) → s < 64 → length (q s) ≤ total q
count_within_total q s low = term_within_sum 64 (λ n. length (q n)) s low

no_length : (ps : List Packet) → length ps ≡ 0 → ps ≡ []
no_length [] none = refl
no_length (p ∷ ps) none = let no : ⊥ = omega arith in absurd no

pub none_of_total : (q : ℕ → List Packet) → total q ≡ 0 → (s : ℕ) → s < 64 → q s ≡ []
none_of_total q none s low = no_length (q s) (omega (arith, count_within_total q s low))

pub total_push : (q : ℕ → List Packet) (s : ℕ) (p : Packet) → s < 64 → total (put q s (q s ++ p ∷ [])) ≡ total q + 1
total_push q s p low = omega (arith, total_put q s (q s ++ p ∷ []) low, length_push (q s) p)

pub total_take :
    (q : ℕ → List Packet) (s : ℕ) (p : Packet) (ps : List Packet) → s < 64 → q s ≡ p ∷ ps → total (after_take q s) + 1 ≡ total q
total_take q s p ps low is = omega (arith, total_put q s (rest_of (q s)) low, ap length is, ap (λ xs. length (rest_of xs)) is)

module _ (w : Waiting) where
  pub at_most_256_wait : all_waiting w ≤ 256
  at_most_256_wait = omega (arith, used_is_all_waiting w, w.used)

  -- no session above 63 has a packet; and where none waits, no session has one
  pub no_queue_past : (s : ℕ) → 64 ≤ s → queue w s ≡ []
  no_queue_past = queue_past w

  pub none_waiting : all_waiting w ≡ 0 → queue w ≡ no_packets
  none_waiting none =
      let at : (s : ℕ) → queue w s ≡ [] = λ s.
      ⊎_elim (λ (low : s < 64). none_of_total (queue w) none s low) (λ (past : 64 ≤ s). queue_past w s past) (cases_lt s 64)
      in
      λ i s. at s i

-- what a call makes of the count of all, from w to v
module _ (w v : Waiting) (s : ℕ) (p : Packet) (low : s < 64) where
  pub one_more_waits : queue v ≡ put (queue w) s (queue w s ++ p ∷ []) → all_waiting v ≡ all_waiting w + 1
  one_more_waits after = ap total after ∙ total_push (queue w) s p low

  pub one_less_waits : (ps : List Packet) → queue w s ≡ p ∷ ps → queue v ≡ after_take (queue w) s → all_waiting v + 1 ≡ all_waiting w
  one_less_waits ps is after = omega (arith, ap total after, total_take (queue w) s p ps low is)

-- ---- answers
-- what passes a test that refuses
passed : {X E : Type 0} (b : Bool) (r : Result X E) (e : E) (x : X) → cond b r (Err e) ≡ Ok x → (b ≡ true) × (r ≡ Ok x)
passed true r e x is = (refl, is)
passed false r e x is = let never : ◌≡◌ {A = ℕ} 0 1 = cc in let no : ⊥ = omega arith in absurd no

pub of_session_low : {X : Type 0} (s : ℕ) (x : X) → s < 64 → of_session s x ≡ Ok x
of_session_low s x low = cond-true (ltb s 64) (Ok x) (Err NoSuchSession) (lt-ltb s 64 low)

pub of_session_past : {X : Type 0} (s : ℕ) (x : X) → 64 ≤ s → of_session s x ≡ Err NoSuchSession
of_session_past s x past = cond-false (ltb s 64) (Ok x) (Err NoSuchSession) (le-ltb s 64 past)

pub of_session_ok : {X : Type 0} (s : ℕ) (x y : X) → of_session s x ≡ Ok y → (s < 64) × (x ≡ y)
of_session_ok s x y is =
    let low = passed (ltb s 64) (Ok x) NoSuchSession y is in
    let same : Ok x ≡ Ok y = low.1 in
    (ltb-true s 64 low.0, (cc))

pub of_session_err : {X : Type 0} (s : ℕ) (x : X) (e : Refusal) → of_session s x ≡ Err e → (64 ≤ s) × (e ≡ NoSuchSession)
of_session_err s x e is =
    ⊎_elim
    (λ (low : s < 64).
    let ok : of_session s x ≡ Ok x = of_session_low s x low in
    let never : ◌≡◌ {A = ℕ} 0 1 = cc in
    let no : ⊥ = omega arith in absurd no)
    (λ (past : 64 ≤ s).
    let err : of_session s x ≡ Err NoSuchSession = of_session_past s x past in
    (past, (cc)))
    (cases_lt s 64)

-- there is room, or a packet
pub put_room : (q : ℕ → List Packet) (s : ℕ) → put_answer q s ≡ Ok tt → (s < 64) × (total q < 256)
put_room q s is =
    let low = passed (ltb s 64) (cond (ltb (total q) 256) (Ok tt) (Err Full)) NoSuchSession tt is in
    let room = passed (ltb (total q) 256) (Ok tt) Full tt low.1 in
    (ltb-true s 64 low.0, ltb-true (total q) 256 room.0)

pub put_accepted : (q : ℕ → List Packet) (s : ℕ) → s < 64 → total q < 256 → put_answer q s ≡ Ok tt
put_accepted q s low room =
    cond-true (ltb s 64) (cond (ltb (total q) 256) (Ok tt) (Err Full)) (Err NoSuchSession) (lt-ltb s 64 low)
    ∙ cond-true (ltb (total q) 256) (Ok tt) (Err Full) (lt-ltb (total q) 256 room)

first_cons : (ps : List Packet) (p : Packet) → first_of ps ≡ Some p → ps ≡ p ∷ rest_of ps
first_cons [] p is = let never : ◌≡◌ {A = ℕ} 0 1 = cc in let no : ⊥ = omega arith in absurd no
first_cons (x ∷ ps) p is = cc

first_nil : (ps : List Packet) → first_of ps ≡ None → ps ≡ []
first_nil [] is = refl
first_nil (x ∷ ps) is = let never : ◌≡◌ {A = ℕ} 0 1 = cc in let no : ⊥ = omega arith in absurd no

pub first_some : (q : ℕ → List Packet) (s : ℕ) (p : Packet) → first_answer q s ≡ Ok (Some p) → (s < 64) × (q s ≡ p ∷ rest_of (q s))
first_some q s p is = let ok = of_session_ok s (first_of (q s)) (Some p) is in (ok.0, first_cons (q s) p ok.1)

pub first_none : (q : ℕ → List Packet) (s : ℕ) → first_answer q s ≡ Ok None → (s < 64) × (q s ≡ [])
first_none q s is = let ok = of_session_ok s (first_of (q s)) None is in (ok.0, first_nil (q s) ok.1)

pub first_found :
    (q : ℕ → List Packet) (s : ℕ) (p : Packet) (ps : List Packet) → s < 64 → q s ≡ p ∷ ps → first_answer q s ≡ Ok (Some p)
first_found q s p ps low is = of_session_low s (first_of (q s)) low ∙ ap (λ xs. Ok (first_of xs)) is

-- put_last where it is known that there is room
pub put_last_accepted :
    (q after : ℕ → List Packet) (s : ℕ) (p : Packet) (r : Result (Unit {0}) Refusal) → r ≡ put_answer q s → after ≡ after_put q s p r →
    s < 64 → total q < 256 → (r ≡ Ok tt) × (after ≡ put q s (q s ++ p ∷ []))
put_last_accepted q after s p r answer queues low room =
    let ok : r ≡ Ok tt = answer ∙ put_accepted q s low room in (ok, queues ∙ ap (after_put q s p) ok)

-- where there is no packet, taking one leaves the queues
pub take_none : (q : ℕ → List Packet) (s : ℕ) → q s ≡ [] → q ≡ after_take q s
take_none q s none = put_same q s (rest_of (q s)) (none ∙ sym (ap rest_of none))

pub take_refused : (w : Waiting) (s : ℕ) (e : Refusal) → Err e ≡ first_answer (queue w) s → queue w ≡ after_take (queue w) s
take_refused w s e is = take_none (queue w) s (queue_past w s (of_session_err s (first_of (queue w s)) e (sym is)).0)
