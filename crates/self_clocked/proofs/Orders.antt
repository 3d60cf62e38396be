-- The order in which waiting packets start: one start or finish at a time, and what the whole of it is.
use Rattle.std.proofs.Common.{◌≡◌, ℕ, zero, suc, ◌+◌, ◌<◌, List, [], ◌∷◌, ◌++◌, is_some, Some, None, Option, sym, refl, ap, ◌∙◌, arith}
use Rattle.std.proofs.lemmas.List.{append_assoc}
use Rattle.std.proofs.lemmas.Bool.{lt-ltb}
use Rattle.calls.specs.declared.call.Service.{Service}
use Rattle.calls.specs.declared.call.Call.TheVariants.{Open, Enter, Start, Finish}
use Rattle.calls.specs.declared.refusal.Refusal.{Refusal}
use Rattle.calls.specs.declared.refusal.Refusal.TheVariants.{NothingWaiting, NothingInService}
use Rattle.sharing.specs.Rules.{check, start_refusal, finish_refusal}
use Rattle.sharing.specs.Meanings.{Meaning, waiting_in, all_waiting, after_first, after_start, after_finish}
use Rattle.sharing.specs.Clocked.{Clocked}
use Rattle.sessions.specs.Verdicts.{settled, why_start, why_finish}
use Rattle.sessions.proofs.Using.{same_all_waiting, finish_waiting, start_all_waiting, startable}
use Rattle.self_clocked.specs.Exact.{refusal_of, next, started_with, finished_with, started_at, finished_at, accepted_answer, accepted_after, decided, answer_to, after}
use Rattle.self_clocked.specs.Rows.{answers_to, after_calls}
use Rattle.self_clocked.specs.Previews.{finishes_and_starts, started_by, started_in, start_order, StartsFollowTheOrder}
use Rattle.self_clocked.specs.Steps.{Next, next_of_some}

-- ---- a finish

-- what it leaves: nothing in service, and the same packets wait
pub record Rests (x : Clocked) : Type 0 where
  pub starts_none : started_by (answer_to x Finish) ≡ []
  pub free : (after x Finish).meaning.in_service ≡ None
  pub waiting : (s : ℕ) → waiting_in (after x Finish).meaning s ≡ waiting_in x.meaning s

pub finish_rests : (x : Clocked) → Rests x
finish_rests x = go x.meaning.in_service refl
  where
    go : (o : Option Service) → x.meaning.in_service ≡ o → Rests x
    go None is =
        let why : refusal_of x Finish ≡ Some NothingInService = ap (λ o. finish_refusal (is_some o)) is in
        let same : after x Finish ≡ x = ap (λ r. settled r x (accepted_after x Finish)) why in
        record {
          starts_none = ap (λ r. started_by (decided r (accepted_answer x Finish))) why;
          free = ap (λ y. y.meaning.in_service) same ∙ is;
          waiting = λ s. ap (λ y. waiting_in y.meaning s) same;
        }
    go (Some service) is =
        let why : refusal_of x Finish ≡ None = ap (λ o. finish_refusal (is_some o)) is in
        let to : after x Finish ≡ finished_at x (Some service) = ap (λ r. settled r x (accepted_after x Finish)) why ∙ ap (finished_at x) is in
        record {
          starts_none = ap (λ r. started_by (decided r (accepted_answer x Finish))) why ∙ ap (λ o. started_by (finished_with o)) is;
          free = ap (λ y. y.meaning.in_service) to;
          waiting = λ s. ap (λ y. waiting_in y.meaning s) to ∙ finish_waiting x.meaning service.session service.packet s;
        }

pub finish_waits : (x : Clocked) → all_waiting (after x Finish).meaning ≡ all_waiting x.meaning
finish_waits x = same_all_waiting x.meaning (after x Finish).meaning (finish_rests x).waiting

-- with nothing in service it is refused
free_finish : (x : Clocked) → x.meaning.in_service ≡ None → after x Finish ≡ x
free_finish x free = ap (λ o. settled (finish_refusal (is_some o)) x (accepted_after x Finish)) free

-- ---- the order, n starts of it

first_starts : ℕ → Clocked → List Service
first_starts n x = started_in (answers_to x (finishes_and_starts n))

-- one start on a line with nothing in service, and then n more
one_start : ℕ → Clocked → List Service
one_start n y = started_by (answer_to y Start) ++ first_starts n (after y Start)

first_more : (n : ℕ) (x : Clocked) → first_starts (suc n) x ≡ one_start n (after x Finish)
unfolding first_starts one_start
first_more n x = ap (λ services. services ++ one_start n (after x Finish)) (finish_rests x).starts_none

order_as : (n : ℕ) (x : Clocked) → all_waiting x.meaning ≡ n → start_order x ≡ first_starts n x
unfolding start_order first_starts
order_as n x is = ap (λ k. started_in (answers_to x (finishes_and_starts k))) is

pub order_none : (x : Clocked) → all_waiting x.meaning ≡ 0 → start_order x ≡ []
unfolding first_starts
order_none x none = order_as 0 x none

order_free : (x : Clocked) → x.meaning.in_service ≡ None → (n : ℕ) → all_waiting x.meaning ≡ suc n → start_order x ≡ one_start n x
order_free x free n is = order_as (suc n) x is ∙ first_more n x ∙ ap (one_start n) (free_finish x free)

pub order_finish : (x : Clocked) → start_order x ≡ start_order (after x Finish)
order_finish x = go (all_waiting x.meaning) refl
  where
    go : (n : ℕ) → all_waiting x.meaning ≡ n → start_order x ≡ start_order (after x Finish)
    go zero is = order_none x is ∙ sym (order_none (after x Finish) (finish_waits x ∙ is))
    go (suc n) is =
        order_as (suc n) x is ∙ first_more n x ∙ sym (order_free (after x Finish) (finish_rests x).free n (finish_waits x ∙ is))

-- ---- a start

pub may_start : (y : Clocked) → y.meaning.in_service ≡ None → 0 < all_waiting y.meaning → refusal_of y Start ≡ None
may_start y free some =
    ap (λ o. start_refusal (is_some o) (all_waiting y.meaning)) free ∙ ap (λ b. check b NothingWaiting None) (lt-ltb 0 (all_waiting y.meaning) some)

-- what an accepted one starts and leaves
pub record Begins (x : Clocked) : Type 0 where
  pub next_is : Next x.meaning
  pub session : next_is.service.session < 64
  pub starts : started_by (answer_to x Start) ≡ next_is.service ∷ []
  pub leaves : (after x Start).meaning ≡ after_start x.meaning next_is.service.session next_is.service.packet
  pub one_less : all_waiting (after x Start).meaning + 1 ≡ all_waiting x.meaning

pub begins : (x : Clocked) → refusal_of x Start ≡ None → Begins x
begins x why =
    let some = (startable x.meaning why).1 in
    let n = next_of_some x.meaning some in
    let to : after x Start ≡ started_at x (Some n.service) = ap (λ r. settled r x (accepted_after x Start)) why ∙ ap (started_at x) n.is in
    record {
      next_is = n;
      session = n.below;
      starts = ap (λ r. started_by (decided r (accepted_answer x Start))) why ∙ ap (λ o. started_by (started_with o)) n.is;
      leaves = ap (λ y. y.meaning) to;
      one_less =
          ap (λ y. all_waiting y.meaning + 1) to ∙
          start_all_waiting x.meaning n.service.session n.service.packet n.service.packet (after_first (waiting_in x.meaning n.service.session))
          n.below n.first;
    }

one_then : (n : ℕ) (x : Clocked) → all_waiting (after x Start).meaning ≡ n → one_start n x ≡ started_by (answer_to x Start) ++ start_order (after x Start)
unfolding one_start
one_then n x is = ap (λ services. started_by (answer_to x Start) ++ services) (sym (order_as n (after x Start) is))

pub order_start : (x : Clocked) → start_order x ≡ started_by (answer_to x Start) ++ start_order (after x Start)
order_start x = go (refusal_of x Start) refl
  where
    go : (o : Option Refusal) → refusal_of x Start ≡ o → start_order x ≡ started_by (answer_to x Start) ++ start_order (after x Start)
    go (Some reason) why =
        sym (λ i. started_by (decided (why i) (accepted_answer x Start)) ++ start_order (settled (why i) x (accepted_after x Start)))
    go None why =
        let b = begins x why in
        let free = (startable x.meaning why).0 in
        let n = all_waiting (after x Start).meaning in
        order_free x free n (omega (arith, b.one_less)) ∙ one_then n x refl

-- ---- the clock and the last marks play no part in it

started_to : Meaning → Option Service → Meaning
started_to m None = m
started_to m (Some service) = after_start m service.session service.packet

finished_to : Meaning → Option Service → Meaning
finished_to m None = m
finished_to m (Some service) = after_finish m service.session service.packet

settled_meaning : (o : Option Refusal) (x y : Clocked) → (settled o x y).meaning ≡ settled o x.meaning y.meaning
settled_meaning None x y = refl
settled_meaning (Some reason) x y = refl

start_meaning : (x : Clocked) → (after x Start).meaning ≡ settled (why_start x.meaning) x.meaning (started_to x.meaning (next x.meaning))
unfolding started_to
start_meaning x =
    settled_meaning (why_start x.meaning) x (started_at x (next x.meaning)) ∙
    ap (settled (why_start x.meaning) x.meaning) (go (next x.meaning))
  where
    go : (o : Option Service) → (started_at x o).meaning ≡ started_to x.meaning o
    go None = refl
    go (Some service) = refl

finish_meaning : (x : Clocked) → (after x Finish).meaning ≡ settled (why_finish x.meaning) x.meaning (finished_to x.meaning x.meaning.in_service)
unfolding finished_to
finish_meaning x =
    settled_meaning (why_finish x.meaning) x (finished_at x x.meaning.in_service) ∙
    ap (settled (why_finish x.meaning) x.meaning) (go x.meaning.in_service)
  where
    go : (o : Option Service) → (finished_at x o).meaning ≡ finished_to x.meaning o
    go None = refl
    go (Some service) = refl

same_starts : (n : ℕ) (x y : Clocked) → x.meaning ≡ y.meaning → first_starts n x ≡ first_starts n y
unfolding one_start first_starts
same_starts zero x y same = refl
same_starts (suc n) x y same =
    let rested : (after x Finish).meaning ≡ (after y Finish).meaning =
    finish_meaning x ∙ ap (λ m. settled (why_finish m) m (finished_to m m.in_service)) same ∙ sym (finish_meaning y) in
    let begun : (after (after x Finish) Start).meaning ≡ (after (after y Finish) Start).meaning =
    start_meaning (after x Finish) ∙ ap (λ m. settled (why_start m) m (started_to m (next m))) rested ∙ sym (start_meaning (after y Finish)) in
    first_more n x ∙
    (λ i. started_by (decided (why_start (rested i)) (started_with (next (rested i)))) ++ same_starts n (after (after x Finish) Start) (after (after y Finish) Start) begun i) ∙
    sym (first_more n y)

pub same_order : (x y : Clocked) → x.meaning ≡ y.meaning → start_order x ≡ start_order y
same_order x y same =
    order_as (all_waiting x.meaning) x refl ∙ same_starts (all_waiting x.meaning) x y same ∙
    sym (order_as (all_waiting x.meaning) y (sym (ap all_waiting same)))

-- ---- any starts and finishes

pub starts_follow_the_order : StartsFollowTheOrder
starts_follow_the_order x [] all = refl
starts_follow_the_order x (Start ∷ calls) all =
    order_start x ∙ ap (λ services. started_by (answer_to x Start) ++ services) (starts_follow_the_order (after x Start) calls all.1) ∙
    sym (append_assoc (started_by (answer_to x Start)) (started_in (answers_to (after x Start) calls)) (start_order (after_calls (after x Start) calls)))
starts_follow_the_order x (Finish ∷ calls) all =
    order_finish x ∙ starts_follow_the_order (after x Finish) calls all.1 ∙
    ap (λ services. (services ++ started_in (answers_to (after x Finish) calls)) ++ start_order (after_calls (after x Finish) calls)) (sym (finish_rests x).starts_none)
starts_follow_the_order x (Open s weight limit ∷ calls) all = absurd all.0
starts_follow_the_order x (Enter s length ticket ∷ calls) all = absurd all.0
