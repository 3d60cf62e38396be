-- Each exact step of a sound line is a general step, and a self-clocked one.
use Rattle.std.specs.Prelude.{◌≡◌, ℕ, zero, suc, ◌<◌, ◌≤◌, ◌⊎◌, List, [], ◌∷◌, length, is_some, Some, None, Option, refl}
use Rattle.std.proofs.Common.{inl, inr, sym, ap, subst, subst₂, ◌∙◌, arith, Err}
use Rattle.std.proofs.lemmas.Bool.{cases_lt}
use Rattle.std.proofs.lemmas.Bool.Decides.{nat_tests}
use Rattle.calls.specs.Sums.{sum_below}
use Rattle.calls.specs.declared.call.Packet.{Packet}
use Rattle.calls.specs.declared.call.Service.{Service}
use Rattle.calls.specs.declared.call.Call.{Call}
use Rattle.calls.specs.declared.call.Call.TheVariants.{Open, Enter, Start, Finish}
use Rattle.calls.specs.Answers.{Answer}
use Rattle.calls.specs.declared.refusal.Refusal.{Refusal}
use Rattle.ready.specs.Order.{Entry, AtMost}
use Rattle.ready.specs.Tags.{tag_of, least_of}
use Rattle.ready.specs.Leasts.{is_least_from}
use Rattle.sharing.specs.Rules.{finish_refusal}
use Rattle.sharing.specs.Meanings.{Meaning, waiting_in, all_waiting, after_first, General}
use Rattle.sharing.specs.Meanings as step
use Rattle.sharing.specs.Clocked.{Clocked, Marks, ClockedStep}
use Rattle.sharing.specs.Clocked as marks
use Rattle.sharing.proofs.Steps.{ruled_clocked}
use Rattle.sessions.specs.Verdicts.{settled}
use Rattle.sessions.proofs.Using.{startable}
use Rattle.self_clocked.specs.Exact.{
  room_of,
  reach_of,
  refusal_of,
  first_mark,
  first_marks,
  next,
  started_with,
  finished_with,
  accepted_answer,
  started_at,
  finished_at,
  accepted_after,
  decided,
  answer_to,
  after,
  Exact,
}
use Rattle.self_clocked.specs.Firsts.{first_marks_at, least_first, next_is}

-- ---- where a packet waits there is a next one

sum_some : (n : ℕ) (f : ℕ → ℕ) → 0 < sum_below n f → (k : ℕ) × (k < n) × (0 < f k)
unfolding sum_below
sum_some zero f some = let no : ⊥ = omega arith in absurd no
sum_some (suc n) f some = go (cases_lt 0 (f n)) (sum_some n f)
  where
    go : (0 < f n) ⊎ (f n ≤ 0) → (0 < sum_below n f → (k : ℕ) × (k < n) × (0 < f k)) → (k : ℕ) × (k < suc n) × (0 < f k)
    go (inl here) less = (n, omega arith, here)
    go (inr none) less = let below = less (omega arith) in (below.0, omega (arith, below.1), below.2)

one_first : (packets : List Packet) → 0 < length packets → (p : Packet) × (packets ≡ p ∷ after_first packets)
one_first [] some = let no : ⊥ = omega arith in absurd no
one_first (p ∷ ps) some = (p, refl)

-- the next packet to start: it is the first of its session, and no first packet has a smaller mark
pub record Next (m : Meaning) : Type 0 where
  pub service : Service
  pub is : next m ≡ Some service
  pub first : waiting_in m service.session ≡ service.packet ∷ after_first (waiting_in m service.session)
  pub smallest : (s : ℕ) (q : Packet) (qs : List Packet) → s < 64 → waiting_in m s ≡ q ∷ qs → service.packet.mark ≤ q.mark
  -- and by mark and session it is at most every first packet
  pub below : service.session < 64
  pub least : (s : ℕ) (q : Packet) (qs : List Packet) → s < 64 → waiting_in m s ≡ q ∷ qs → AtMost (service.packet.mark, service.session) (q.mark, s)

no_larger : (a b : Entry) → AtMost a b → a.0 ≤ b.0
no_larger a b le = grind (arith, nat_tests)

pub next_of_some : (m : Meaning) → 0 < all_waiting m → Next m
next_of_some m some = go (least_of (first_marks m)) refl
  where
    has_tag : (s : ℕ) (q : Packet) (qs : List Packet) → s < 64 → waiting_in m s ≡ q ∷ qs → tag_of (first_marks m) s ≡ Some q.mark
    has_tag s q qs low is = first_marks_at m s low ∙ ap first_mark is

    go : (o : Option Entry) → o ≡ least_of (first_marks m) → Next m
    go None is =
        let who = sum_some 64 (λ s. length (waiting_in m s)) some in
        let first = one_first (waiting_in m who.0) who.2 in
        absurd (is_least_from (first_marks m) None is who.0 first.0.mark (has_tag who.0 first.0 (after_first (waiting_in m who.0)) who.1 first.1))
    go (Some entry) is =
        let first = least_first m entry is in
        let least = is_least_from (first_marks m) (Some entry) is in
        record {
          service = record { session = entry.1; packet = first.packet };
          below = first.session;
          is = next_is m entry first.packet (after_first (waiting_in m entry.1)) is first.first;
          first = first.first;
          smallest = λ s q qs low has.
              let no_less = no_larger entry (q.mark, s) (least.1 s q.mark (has_tag s q qs low has)) in
              omega (arith, first.mark);
          least = λ s q qs low has.
              subst (λ (t : ℕ). AtMost (t, entry.1) (q.mark, s)) (sym first.mark) (least.1 s q.mark (has_tag s q qs low has));
        }

pub next_to_start : (x : Clocked) → refusal_of x Start ≡ None → Next x.meaning
next_to_start x none = next_of_some x.meaning (startable x.meaning none).1

pub in_service_to_finish : (x : Clocked) → refusal_of x Finish ≡ None → (service : Service) × (x.meaning.in_service ≡ Some service)
in_service_to_finish x none = go x.meaning.in_service refl none
  where
    go : (o : Option Service) → x.meaning.in_service ≡ o → finish_refusal (is_some o) ≡ None → (service : Service) × (x.meaning.in_service ≡ Some service)
    go None is e = let z : ◌≡◌ {A = ℕ} 0 1 = cc in let no : ⊥ = omega arith in absurd no
    go (Some service) is e = (service, is)

-- ---- the general step

accepted_general : (x : Clocked) (call : Call) → refusal_of x call ≡ None →
    General x.meaning (refusal_of x call) (accepted_after x call).meaning call (accepted_answer x call)
accepted_general x (Open s weight limit) none = step.opens none refl
accepted_general x (Enter s length ticket) none = step.enters none refl
accepted_general x Start none =
    let n = next_to_start x none in
    subst (λ (o : Option Service). General x.meaning (refusal_of x Start) (started_at x o).meaning Start (started_with o)) (sym n.is)
    (step.starts none n.first refl)
accepted_general x Finish none =
    let n = in_service_to_finish x none in
    subst (λ (o : Option Service). General x.meaning (refusal_of x Finish) (finished_at x o).meaning Finish (finished_with o)) (sym n.1)
    (step.finishes none n.1 refl)

call_general : (x : Clocked) (call : Call) → General x.meaning (refusal_of x call) (after x call).meaning call (answer_to x call)
call_general x call = go (refusal_of x call) refl
  where
    go : (o : Option Refusal) → refusal_of x call ≡ o →
        General x.meaning (refusal_of x call) (settled o x (accepted_after x call)).meaning call (decided o (accepted_answer x call))
    go (Some reason) is = step.refuses is refl
    go None is = accepted_general x call is

pub exact_general : (x y : Clocked) (call : Call) (a : Answer) → Exact x call a y →
    General x.meaning (refusal_of x call) y.meaning call a
exact_general x y call a e =
    subst₂ (λ (b : Answer) (z : Clocked). General x.meaning (refusal_of x call) z.meaning call b) (sym e.answer) (sym e.after) (call_general x call)

-- ---- the marks

module _ (x : Clocked) (waits_below : (s : ℕ) (q : Packet) (qs : List Packet) → waiting_in x.meaning s ≡ q ∷ qs → s < 64) where
  accepted_marks : (call : Call) → refusal_of x call ≡ None → Marks x (accepted_after x call) call (accepted_answer x call)
  accepted_marks (Open s weight limit) none = marks.opens (record { clock = refl; last = refl })
  accepted_marks (Enter s length ticket) none = marks.enters (record { mark_is = refl; clock = refl; last = refl })
  accepted_marks Start none =
      let n = next_to_start x none in
      subst (λ (o : Option Service). Marks x (started_at x o) Start (started_with o)) (sym n.is)
      (marks.starts (record { smallest = λ s q qs has. n.smallest s q qs (waits_below s q qs has) has; clock = refl; last = refl }))
  accepted_marks Finish none =
      let n = in_service_to_finish x none in
      subst (λ (o : Option Service). Marks x (finished_at x o) Finish (finished_with o)) (sym n.1) (marks.finishes (record { clock = refl; last = refl }))

  call_marks : (call : Call) → Marks x (after x call) call (answer_to x call)
  call_marks call = go (refusal_of x call) refl
    where
      go : (o : Option Refusal) → refusal_of x call ≡ o → Marks x (settled o x (accepted_after x call)) call (decided o (accepted_answer x call))
      go (Some reason) is = marks.refuses (record { clock = refl; last = refl })
      go None is = accepted_marks call is

  pub exact_clocked : (y : Clocked) (call : Call) (a : Answer) → Exact x call a y → ClockedStep x call a y
  exact_clocked y call a e =
      ruled_clocked x y (room_of x) (reach_of x) call (exact_general x y call a e)
      (subst₂ (λ (b : Answer) (z : Clocked). Marks x z call b) (sym e.answer) (sym e.after) (call_marks call))

-- ---- a refused call changes nothing

accepted_refused : (x : Clocked) (call : Call) (reason : Refusal) → accepted_answer x call ≡ Err reason → accepted_after x call ≡ x
accepted_refused x (Open s weight limit) reason e = let z : ◌≡◌ {A = ℕ} 0 1 = cc in let no : ⊥ = omega arith in absurd no
accepted_refused x (Enter s length ticket) reason e = let z : ◌≡◌ {A = ℕ} 0 1 = cc in let no : ⊥ = omega arith in absurd no
accepted_refused x Start reason e = go (next x.meaning) e
  where
    go : (o : Option Service) → started_with o ≡ Err reason → started_at x o ≡ x
    go None e = refl
    go (Some service) e = let z : ◌≡◌ {A = ℕ} 0 1 = cc in let no : ⊥ = omega arith in absurd no
accepted_refused x Finish reason e = go x.meaning.in_service e
  where
    go : (o : Option Service) → finished_with o ≡ Err reason → finished_at x o ≡ x
    go None e = refl
    go (Some service) e = let z : ◌≡◌ {A = ℕ} 0 1 = cc in let no : ⊥ = omega arith in absurd no

pub exact_refused : (x y : Clocked) (call : Call) (reason : Refusal) → Exact x call (Err reason) y → y ≡ x
exact_refused x y call reason e = e.after ∙ go (refusal_of x call) (sym e.answer)
  where
    go : (o : Option Refusal) → decided o (accepted_answer x call) ≡ Err reason → settled o x (accepted_after x call) ≡ x
    go (Some other) is = refl
    go None is = accepted_refused x call reason is
