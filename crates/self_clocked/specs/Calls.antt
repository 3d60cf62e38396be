-- Each call as it is made is the exact step, and the line is sound after it.
use Rattle.std.specs.Prelude.{◌≡◌, ℕ, zero, suc, Bool, true, false, cond, List, [], ◌∷◌, replicate, is_some, Some, None, Ok, Option, Result, ◌==◌, nat_eq, slice_index, slice_set, refl}
use Rattle.std.proofs.Common.{sym, ap, subst, ◌∙◌, arith, Err}
use Rattle.std.proofs.lemmas.List.{get_or-replicate}
use Rattle.calls.specs.declared.call.Packet.{Packet}
use Rattle.calls.specs.declared.call.Service.{Service}
use Rattle.calls.specs.declared.call.Call.{Call}
use Rattle.calls.specs.declared.call.Call.TheVariants.{Open, Enter, Start, Finish}
use Rattle.calls.specs.Answers.{Answer}
use Rattle.calls.specs.declared.call.Reply.TheVariants.{Entered}
use Rattle.calls.specs.declared.refusal.Refusal.{Refusal}
use Rattle.ready.specs.Tags.{Tags, no_entries, least_of, without}
use Rattle.ready.specs.Leasts.{least_tag}
use Rattle.waiting.specs.Queues.{first_of}
use Rattle.sharing.specs.Rules.{finish_refusal}
use Rattle.sharing.specs.Meanings.{Meaning, nothing_open, waiting_in, all_waiting, after_open, after_finish}
use Rattle.sharing.specs.Clocked.{Clocked, while_waiting}
use Rattle.sharing.proofs.Pending.{open_allowed}
use Rattle.discipline.specs.Answers.{opened, entered, started, finished}
use Rattle.sessions.specs.Verdicts.{verdict, settled, why_open, why_put, why_start, taken, served, finish_answer, after_served}
use Rattle.sessions.proofs.Using.{same_all_waiting, finish_waiting, accepted, puttable, put_parts, startable}
use Rattle.self_clocked.specs.Exact.{
  room_of,
  reach_of,
  refusal_of,
  first_marks,
  with_first,
  first_with,
  next,
  mark_for,
  enter_answer,
  accepted_answer,
  accepted_after,
  decided,
  started_with,
  finished_with,
  opened_at,
  entered_at,
  started_at,
  finished_at,
  Exact,
  Due,
  Sound,
  Fresh,
}
use Rattle.self_clocked.specs.States.{last_in}
use Rattle.self_clocked.specs.Firsts.{first_marks_at, first_marks_from, least_first}
use Rattle.self_clocked.specs.Keeps.{sound_opened, sound_entered, sound_started, sound_finished}
use Rattle.self_clocked.specs.Steps.{next_to_start}

-- the exact step of a call, and a sound line after it
abbrev pub Stepped : Tags → Clocked → Call → Answer → Clocked → Type 0
Stepped tags x call answer y = Exact x call answer y × Sound tags y

-- ---- a verdict tells whether there is a reason

pub verdict_ok : {A : Type 0} (o : Option Refusal) (value given : A) → Ok given ≡ verdict o value → (o ≡ None) × (given ≡ value)
verdict_ok None value given e = (refl, cc)
verdict_ok (Some other) value given e = let z : ◌≡◌ {A = ℕ} 0 1 = cc in let no : ⊥ = omega arith in absurd no

-- ---- a refused call

pub step_refused : (tags : Tags) (x y : Clocked) (call : Call) (reason : Refusal) → refusal_of x call ≡ Some reason → y ≡ x → Sound tags x →
    Stepped tags x call (Err reason) y
step_refused tags x y call reason why same ok = (
  record { answer = sym (ap (λ o. decided o (accepted_answer x call)) why); after = same ∙ sym (ap (λ o. settled o x (accepted_after x call)) why) },
  subst (Sound tags) (sym same) ok,
)

-- ---- an accepted one

step_accepted : (tags : Tags) (x y : Clocked) (call : Call) (answer : Answer) → refusal_of x call ≡ None → answer ≡ accepted_answer x call →
    y ≡ accepted_after x call → Sound tags y → Stepped tags x call answer y
step_accepted tags x y call answer why is to ok = (
  record { answer = is ∙ sym (ap (λ o. decided o (accepted_answer x call)) why); after = to ∙ sym (ap (λ o. settled o x (accepted_after x call)) why) },
  ok,
)

-- ---- open

pub step_opened : (tags : Tags) (x : Clocked) (y : Meaning) (s weight limit : ℕ) (r : Result (Unit {0}) Refusal) →
    r ≡ verdict (why_open x.meaning s weight limit) tt →
    y ≡ settled (why_open x.meaning s weight limit) x.meaning (after_open x.meaning s weight limit) → Sound tags x →
    Stepped tags x (Open s weight limit) (opened r) (record { meaning = y; clock = x.clock; last = x.last })
step_opened tags x y s weight limit r answer to ok = go (why_open x.meaning s weight limit) refl answer to
  where
    go : (o : Option Refusal) → why_open x.meaning s weight limit ≡ o → r ≡ verdict o tt → y ≡ settled o x.meaning (after_open x.meaning s weight limit) →
        Stepped tags x (Open s weight limit) (opened r) (record { meaning = y; clock = x.clock; last = x.last })
    go (Some reason) why is to =
        subst (λ (q : Result (Unit {0}) Refusal). Stepped tags x (Open s weight limit) (opened q) (record { meaning = y; clock = x.clock; last = x.last })) (sym is)
        (step_refused tags x (record { meaning = y; clock = x.clock; last = x.last }) (Open s weight limit) reason why
        (λ i. record { meaning = to i; clock = x.clock; last = x.last }) ok)
    go None why is to =
        let may = open_allowed x.meaning s weight limit (room_of x, reach_of x, why) in
        let left : Clocked = record { meaning = y; clock = x.clock; last = x.last } in
        let at : left ≡ opened_at x s weight limit = λ i. record { meaning = to i; clock = x.clock; last = x.last } in
        step_accepted tags x left (Open s weight limit) (opened r) why (ap opened is) at
        (subst (Sound tags) (sym at) (sound_opened tags x s weight limit ok (ap is_some may.was_closed)))

-- ---- enter

-- a packet that is admitted has the mark of the rule, and may be put
pub record Admitted (x : Clocked) (s n ticket mark : ℕ) : Type 0 where
  pub allowed : refusal_of x (Enter s n ticket) ≡ None
  pub mark_is : mark ≡ mark_for x s n
  pub putting : why_put x.meaning s ≡ None

pub admitted : (x : Clocked) (s n ticket mark : ℕ) → Ok mark ≡ enter_answer x s n → Admitted x s n ticket mark
admitted x s n ticket mark is =
    let both = verdict_ok (refusal_of x (Enter s n ticket)) (mark_for x s n) mark is in
    let may = accepted x.meaning (room_of x) (reach_of x) s n ticket both.0 in
    record { allowed = both.0; mark_is = both.1; putting = puttable x.meaning s may.session may.is_open (omega (arith, may.has_room)) }

pub step_entered : (tags : Tags) (x y : Clocked) (s n ticket mark : ℕ) → Ok mark ≡ enter_answer x s n →
    y ≡ entered_at x s (record { length = n; ticket = ticket; mark = mark }) → tags ≡ first_marks y.meaning →
    Stepped tags x (Enter s n ticket) (entered (Ok mark)) y
step_entered tags x y s n ticket mark is to ready =
    let may = admitted x s n ticket mark is in
    let p : Packet = record { length = n; ticket = ticket; mark = mark } in
    let o = put_parts x.meaning s may.putting in
    step_accepted tags x y (Enter s n ticket) (Ok (Entered mark)) may.allowed (ap (λ m. Ok (Entered m)) may.mark_is)
    (to ∙ (λ i. entered_at x s (record { length = n; ticket = ticket; mark = may.mark_is i })))
    (subst (Sound tags) (sym to) (sound_entered tags x s p o.session o.is_open (ready ∙ ap (λ z. first_marks z.meaning) to)))

-- ---- start

-- its least entry is due
pub start_due : (tags rest : Tags) (m : Meaning) (mark s : ℕ) → why_start m ≡ None → tags ≡ first_marks m → Some (mark, s) ≡ least_of tags →
    rest ≡ without tags (Some (mark, s)) → Due rest m mark s
start_due tags rest m mark s none ready is gone =
    let least = is ∙ ap least_of ready in
    let first = least_first m (mark, s) least in
    record {
      none_served = (startable m none).0;
      session = first.session;
      first = sym (first_marks_at m s first.session) ∙ least_tag (first_marks m) (mark, s) least;
      others = gone ∙ ap (λ xs. slice_set xs s None) ready;
    }

pub step_started : (tags rest left : Tags) (x y : Clocked) (mark s : ℕ) (r : Result Service Refusal) → why_start x.meaning ≡ None → tags ≡ first_marks x.meaning →
    Some (mark, s) ≡ least_of tags → Due rest x.meaning mark s → r ≡ taken s (first_of (waiting_in x.meaning s)) →
    y ≡ started_at x (with_first s (waiting_in x.meaning s)) → left ≡ first_marks y.meaning → Stepped left x Start (started r) y
step_started tags rest left x y mark s r none ready is due answer to now_ready =
    let m = x.meaning in
    let chosen : next m ≡ with_first s (waiting_in m s) = ap (first_with m) (sym (is ∙ ap least_of ready)) in
    let at : y ≡ started_at x (next m) = to ∙ ap (started_at x) (sym chosen) in
    let n = next_to_start x none in
    let found : y ≡ started_at x (Some n.service) = at ∙ ap (started_at x) n.is in
    step_accepted left x y Start (started r) none (ap started answer ∙ same_answer (waiting_in m s) ∙ ap started_with (sym chosen)) at
    (subst (Sound left) (sym found) (sound_started left x n.service (now_ready ∙ ap (λ z. first_marks z.meaning) found)))
  where
    same_answer : (ps : List Packet) → started (taken s (first_of ps)) ≡ started_with (with_first s ps)
    same_answer [] = refl
    same_answer (p ∷ ps) = refl

-- ---- finish

served_ok : (o : Option Service) (service : Service) → Ok service ≡ served o → o ≡ Some service
served_ok None service e = let z : ◌≡◌ {A = ℕ} 0 1 = cc in let no : ⊥ = omega arith in absurd no
served_ok (Some other) service e = cc

zeros : (m n : ℕ) → ◌≡◌ {A = ℕ} (slice_index (replicate m 0) n) 0
zeros zero n = refl
zeros (suc m) zero = refl
zeros (suc m) (suc n) = zeros m n

pub zeros_last : last_in (replicate 64 0) ≡ (λ s. 0)
zeros_last = λ i s. zeros 64 s i

pub step_finished : (tags : Tags) (x : Clocked) (y : Meaning) (lasts new_lasts : List ℕ) (clock : ℕ) (service : Service) → x.last ≡ last_in lasts →
    Ok service ≡ finish_answer x.meaning → y ≡ after_served x.meaning (Ok service) → clock ≡ while_waiting y x.clock →
    new_lasts ≡ cond (all_waiting y == 0) (replicate 64 0) lasts → Sound tags x →
    Stepped tags x Finish (finished (Ok service)) (record { meaning = y; clock = clock; last = last_in new_lasts })
step_finished tags x y lasts new_lasts clock service had is to clock_is lasts_are ok =
    let m = x.meaning in
    let held : m.in_service ≡ Some service = served_ok m.in_service service is in
    let allowed : refusal_of x Finish ≡ None = ap (λ o. finish_refusal (is_some o)) held in
    let waiting : all_waiting y ≡ all_waiting m = ap all_waiting to ∙ same_all_waiting m (after_finish m service.session service.packet) (finish_waiting m service.session service.packet) in
    let b : nat_eq (all_waiting y) 0 ≡ nat_eq (all_waiting m) 0 = ap (λ n. nat_eq n 0) waiting in
    let clock_path : clock ≡ while_waiting m x.clock = clock_is ∙ ap (λ t. cond t 0 x.clock) b in
    let last_path : last_in new_lasts ≡ (λ s. while_waiting m (x.last s)) =
    ap last_in lasts_are ∙ emptied (all_waiting y == 0) ∙ (λ i s. cond (b i) 0 (sym had i s))
    in
    let left : Clocked = record { meaning = y; clock = clock; last = last_in new_lasts } in
    let at : left ≡ finished_at x (Some service) = λ i. record { meaning = to i; clock = clock_path i; last = last_path i } in
    step_accepted tags x left Finish (finished (Ok service)) allowed (ap (λ o. finished_with o) (sym held)) (at ∙ ap (finished_at x) (sym held))
    (subst (Sound tags) (sym at) (sound_finished tags x service ok))
  where
    emptied : (b : Bool) → last_in (cond b (replicate 64 0) lasts) ≡ (λ s. cond b 0 (last_in lasts s))
    emptied true = zeros_last
    emptied false = refl

-- ---- a new line

pub fresh_sound : (tags : Tags) (x : Clocked) → Fresh tags x → Sound tags x
fresh_sound tags x f =
    record {
      ready = f.ready ∙ first_marks_from nothing_open no_entries refl (λ s low. get_or-replicate 64 s None None low) ∙ ap first_marks (sym f.new.meaning);
      idle = λ i. record { clock = f.new.clock; last = f.new.last };
    }
