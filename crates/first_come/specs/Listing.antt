-- How the arrivals list the waiting packets.
use Rattle.std.specs.Prelude.{◌≡◌, ℕ, ◌+◌, ◌<◌, true, cond, List, [], ◌∷◌, ◌++◌, length, is_some, count_by, ◌==◌, ◌≢◌, nat_eq, refl}
use Rattle.std.proofs.Common.{sym, ap, subst, ⊎_elim, arith}
use Rattle.std.proofs.lemmas.List.{length_push}
use Rattle.std.proofs.lemmas.List.Sums.{sum_by-cons, sum_by_push}
use Rattle.std.proofs.lemmas.Bool.{cases_eq, eq-eqb, ne_eqb, cond-true, cond-false}
use Rattle.calls.specs.declared.call.Packet.{Packet}
use Rattle.sharing.specs.Meanings.{Meaning, waiting_in, after_first, after_enter, after_start}
use Rattle.sessions.proofs.Using.{enter_waiting_here, enter_waiting_there, start_waiting_here, start_waiting_there}
use Rattle.first_come.specs.Invariants.{ListsAll}

abbrev times : ℕ → List ℕ → ℕ
times s arrivals = count_by (λ k. nat_eq k s) arrivals

module _ (n s : ℕ) where
  one_here : n ≡ s → ◌≡◌ {A = ℕ} (cond (n == s) 1 0) 1
  one_here e = cond-true (n == s) 1 0 (eq-eqb n s e)

  none_here : (n ≢ s) → ◌≡◌ {A = ℕ} (cond (n == s) 1 0) 0
  none_here ne = cond-false (n == s) 1 0 (ne_eqb n s ne)

  times_push : (arrivals : List ℕ) → times s (arrivals ++ n ∷ []) ≡ times s arrivals + cond (n == s) 1 0
  times_push arrivals = sum_by_push (λ k. cond (k == s) 1 0) arrivals n

  times_cons : (arrivals : List ℕ) → times s (n ∷ arrivals) ≡ cond (n == s) 1 0 + times s arrivals
  times_cons arrivals = sum_by-cons (λ k. cond (k == s) 1 0) n arrivals

-- a packet enters
pub enter_lists :
    (m : Meaning) (arrivals : List ℕ) (n : ℕ) (packet : Packet) → is_some (m.session n) ≡ true → ListsAll m arrivals →
    ListsAll (after_enter m n packet) (arrivals ++ n ∷ [])
enter_lists m arrivals n packet opened all s =
    ⊎_elim
    (λ (e : s ≡ n).
    subst (λ k. times k (arrivals ++ n ∷ []) ≡ length (waiting_in (after_enter m n packet) k)) (sym e)
    (omega (
      arith,
      times_push n n arrivals,
      one_here n n refl,
      all n,
      ap length (enter_waiting_here m n packet opened),
      length_push (waiting_in m n) packet,
    )))
    (λ (ne : s ≡ n → ⊥).
    omega (arith, times_push n s arrivals, none_here n s (λ e. ne (sym e)), all s, ap length (enter_waiting_there m n packet s ne)))
    (cases_eq s n)

-- the first arrival starts
pub start_lists :
    (m : Meaning) (n : ℕ) (later : List ℕ) (packet first : Packet) (rest : List Packet) → waiting_in m n ≡ first ∷ rest → ListsAll m (n ∷ later) →
    ListsAll (after_start m n packet) later
start_lists m n later packet first rest is all s =
    ⊎_elim
    (λ (e : s ≡ n).
    subst (λ k. times k later ≡ length (waiting_in (after_start m n packet) k)) (sym e)
    (omega (
      arith,
      times_cons n n later,
      one_here n n refl,
      all n,
      ap length is,
      ap length (start_waiting_here m n packet),
      ap (λ ps. length (after_first ps)) is,
    )))
    (λ (ne : s ≡ n → ⊥).
    omega (arith, times_cons n s later, none_here n s (λ e. ne (sym e)), all s, ap length (start_waiting_there m n packet s ne)))
    (cases_eq s n)

some_first : (packets : List Packet) → 0 < length packets → (first : Packet) × (rest : List Packet) × (packets ≡ first ∷ rest)
some_first [] none = let no : ⊥ = omega arith in absurd no
some_first (first ∷ rest) some = (first, rest, refl)

-- the session of the first arrival has a packet
pub earliest_waits : (m : Meaning) (n : ℕ) (later : List ℕ) → ListsAll m (n ∷ later) → (first : Packet) × (rest : List Packet) × (waiting_in m n ≡ first ∷ rest)
earliest_waits m n later all = some_first (waiting_in m n) (omega (arith, times_cons n n later, one_here n n refl, all n))
