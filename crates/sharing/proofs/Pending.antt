-- The general step as one session sees it: its terms, and its pending packets, which are the one in service and those that wait.
use Rattle.std.proofs.Common.{◌≡◌, ℕ, ◌<◌, ◌≤◌, Bool, true, false, cond, not, eqb, ltb, leb, ◌⊎◌, List, [], ◌∷◌, ◌++◌, is_some, Some, None, Option, sym, refl, ap, ◌∙◌, subst, inl, inr, arith}
use Rattle.std.specs.Option.{option_map}
use Rattle.std.proofs.lemmas.List.{append-nil, append_assoc}
use Rattle.std.proofs.lemmas.Bool.{cases_eq, eq-eqb, ne_eqb, ltb-true, leb-true, and_parts}
use Rattle.calls.specs.Strides.{within, charge}
use Rattle.calls.specs.declared.call.Packet.{Packet}
use Rattle.calls.specs.declared.call.Call.{Call}
use Rattle.calls.specs.declared.call.Call.TheVariants.{Open, Enter, Start}
use Rattle.calls.specs.Answers.{Answer}
use Rattle.calls.specs.declared.refusal.Refusal.{Refusal}
use Rattle.sharing.specs.Histories.{Terms, packet_of, accepted_by, finished_by, opened_by, latest}
use Rattle.sharing.specs.Rules.{check, length_refusal}
use Rattle.sharing.specs.Meanings.{
  Session,
  Service,
  Meaning,
  terms_at,
  waiting_of,
  waiting_in,
  served_of,
  in_service_of,
  with_session,
  with_waiting,
  after_first,
  credited,
  after_open,
  after_enter,
  after_start,
  after_finish,
  General,
  opens,
  enters,
  starts,
  finishes,
  refuses,
  Allowed,
}

abbrev pub pending : Meaning → ℕ → List Packet
pending m s = in_service_of m s ++ waiting_in m s

-- ---- what the rules say of an allowed call

passes : (test : Bool) (reason : Refusal) (others : Option Refusal) → check test reason others ≡ None → (test ≡ true) × (others ≡ None)
passes true reason others e = (refl, e)
passes false reason others e = let z : ◌≡◌ {A = ℕ} 0 1 = cc in let no : ⊥ = omega arith in absurd no

within_parts : (n top : ℕ) → within n top ≡ true → (0 < n) × (n ≤ top)
within_parts n top e =
    let both = and_parts (ltb 0 n) (leb n top) e in
    (ltb-true 0 n both.0, leb-true n top both.1)

closed : {A : Type 0} (o : Option A) → not (is_some o) ≡ true → o ≡ None
closed None e = refl
closed (Some t) e = let z : ◌≡◌ {A = ℕ} 0 1 = cc in let no : ⊥ = omega arith in absurd no

pub record OpenAllowed (m : Meaning) (s weight limit : ℕ) : Type 0 where
  pub number : s < 64
  pub weighs : 0 < weight
  pub weight_fits : weight ≤ 16
  pub was_closed : m.session s ≡ None

pub open_allowed : (m : Meaning) (s weight limit : ℕ) → Allowed m (Open s weight limit) → OpenAllowed m s weight limit
open_allowed m s weight limit a =
    let first = passes (ltb s 64) _ _ a.2 in
    let second = passes (within weight 16) _ _ first.1 in
    let third = passes (within limit 65535) _ _ second.1 in
    let fourth = passes (not (is_some (m.session s))) _ _ third.1 in
    let range = within_parts weight 16 second.0 in
    record { number = ltb-true s 64 first.0; weighs = range.0; weight_fits = range.1; was_closed = closed (m.session s) fourth.0 }

pub record EnterAllowed (m : Meaning) (s length : ℕ) : Type 0 where
  pub session : Session
  pub is_open : m.session s ≡ Some session
  pub some_length : 0 < length
  pub fits : length ≤ session.limit

pub enter_allowed : (m : Meaning) (s length ticket : ℕ) → Allowed m (Enter s length ticket) → EnterAllowed m s length
enter_allowed m s length ticket a = go (m.session s) refl (passes (ltb s 64) _ _ a.2).1
  where
    go : (o : Option Session) → m.session s ≡ o → length_refusal (option_map (λ t. t.limit) o) (a.0 s) (a.1 s) length ≡ None → EnterAllowed m s length
    go None e r = let z : ◌≡◌ {A = ℕ} 0 1 = cc in let no : ⊥ = omega arith in absurd no
    go (Some t) e r =
        let range = within_parts length t.limit (passes (within length t.limit) _ _ r).0 in
        record { session = t; is_open = e; some_length = range.0; fits = range.1 }

pub start_allowed : (m : Meaning) → Allowed m Start → m.in_service ≡ None
start_allowed m a = closed m.in_service (passes (not (is_some m.in_service)) _ _ a.2).0

-- ---- one session of many

-- at session n, and at any other
pub by_session : (P : ℕ → Bool → Type 0) (n : ℕ) → P n true → ((s : ℕ) → P s false) → (s : ℕ) → P s (eqb n s)
by_session P n here there s = go (cases_eq n s)
  where
    go : (n ≡ s) ⊎ (n ≡ s → ⊥) → P s (eqb n s)
    go (inl e) = subst (λ k. P k (eqb n k)) e (rw (eq-eqb n n refl) here)
    go (inr d) = rw (ne_eqb n s d) (there s)

-- ---- what each accepted call does to the terms and the pending packets of session s

abbrev pub terms_in : Option Session → Option Terms
terms_in o = option_map (λ t. record { weight = t.weight; limit = t.limit }) o

same_terms : (f : Session → Session) → ((t : Session) → terms_in (Some (f t)) ≡ terms_in (Some t)) → (o : Option Session) → terms_in (option_map f o) ≡ terms_in o
same_terms f same None = refl
same_terms f same (Some t) = same t

module _ (m : Meaning) (n : ℕ) where
  -- a change of one session that leaves its terms
  keeps_terms : (f : Session → Session) → ((t : Session) → terms_in (Some (f t)) ≡ terms_in (Some t)) → (o : Option Service) (s : ℕ) →
      terms_at (with_session m n (option_map f (m.session n)) o) s ≡ terms_at m s
  keeps_terms f same o =
      by_session (λ s b. terms_in (cond b (option_map f (m.session n)) (m.session s)) ≡ terms_in (m.session s)) n
      (same_terms f same (m.session n)) (λ s. refl)

  pub open_terms : (weight limit s : ℕ) →
      terms_at (after_open m n weight limit) s ≡ cond (eqb n s) (Some (record { weight = weight; limit = limit })) (terms_at m s)
  open_terms weight limit =
      by_session
      (λ s b.
      terms_in (cond b (Some (record { weight = weight; limit = limit; octets = 0; waiting = [] })) (m.session s)) ≡
      cond b (Some (record { weight = weight; limit = limit })) (terms_at m s))
      n refl (λ s. refl)

  pub open_pending : (weight limit : ℕ) → m.session n ≡ None → (s : ℕ) → pending (after_open m n weight limit) s ≡ pending m s
  open_pending weight limit was =
      by_session
      (λ s b.
      in_service_of m s ++ waiting_of (cond b (Some (record { weight = weight; limit = limit; octets = 0; waiting = [] })) (m.session s)) ≡ pending m s)
      n (λ i. in_service_of m n ++ waiting_of (sym was i)) (λ s. refl)

  pub enter_terms : (p : Packet) (s : ℕ) → terms_at (after_enter m n p) s ≡ terms_at m s
  enter_terms p = keeps_terms _ (λ t. refl) m.in_service

  pub enter_pending : (p : Packet) (t : Session) → m.session n ≡ Some t → (s : ℕ) → pending (after_enter m n p) s ≡ pending m s ++ packet_of s n p
  enter_pending p t is =
      by_session
      (λ s b.
      in_service_of m s ++ waiting_of (cond b (option_map (λ t. with_waiting (t.waiting ++ p ∷ []) t) (m.session n)) (m.session s)) ≡
      pending m s ++ cond b (p ∷ []) [])
      n
      ((λ i. in_service_of m n ++ waiting_of (option_map (λ t. with_waiting (t.waiting ++ p ∷ []) t) (is i))) ∙
      sym (append_assoc (in_service_of m n) t.waiting (p ∷ [])) ∙ (λ i. (in_service_of m n ++ waiting_of (sym is i)) ++ p ∷ []))
      (λ s. sym (append-nil (pending m s)))

  pub start_terms : (p : Packet) (s : ℕ) → terms_at (after_start m n p) s ≡ terms_at m s
  start_terms p = keeps_terms _ (λ t. refl) (Some (record { session = n; packet = p }))

  pub start_pending : (p : Packet) (rest : List Packet) → m.in_service ≡ None → waiting_in m n ≡ p ∷ rest → (s : ℕ) →
      pending (after_start m n p) s ≡ pending m s
  start_pending p rest free first s =
      by_session
      (λ s b.
      cond b (p ∷ []) [] ++ waiting_of (cond b (option_map (λ t. with_waiting (after_first t.waiting) t) (m.session n)) (m.session s)) ≡ waiting_in m s)
      n
      (go (m.session n) first)
      (λ s. refl) s ∙
      (λ i. served_of s (sym free i) ++ waiting_in m s)
    where
      go : (o : Option Session) → waiting_of o ≡ p ∷ rest →
          p ∷ waiting_of (option_map (λ t. with_waiting (after_first t.waiting) t) o) ≡ waiting_of o
      go None e = cc
      go (Some t) e = (λ i. p ∷ after_first (e i)) ∙ sym e

  pub finish_terms : (p : Packet) (s : ℕ) → terms_at (after_finish m n p) s ≡ terms_at m s
  finish_terms p = keeps_terms _ (λ t. refl) None

  pub finish_waiting : (p : Packet) (s : ℕ) → waiting_in (after_finish m n p) s ≡ waiting_in m s
  finish_waiting p =
      by_session (λ s b. waiting_of (cond b (option_map (credited amount) (m.session n)) (m.session s)) ≡ waiting_in m s) n (same (m.session n)) (λ s. refl)
    where
      amount : ℕ
      amount = charge p.length

      same : (o : Option Session) → waiting_of (option_map (credited amount) o) ≡ waiting_of o
      same None = refl
      same (Some t) = refl

  pub finish_pending : (p : Packet) → m.in_service ≡ Some (record { session = n; packet = p }) → (s : ℕ) →
      pending m s ≡ packet_of s n p ++ pending (after_finish m n p) s
  finish_pending p is s = (λ i. served_of s (is i) ++ waiting_in m s) ∙ ap (λ l. packet_of s n p ++ l) (sym (finish_waiting p s))

-- ---- and what each general step does

module _ (x : Meaning) (why : Option Refusal) (y : Meaning) where
  -- what was pending and what was accepted is what was finished and what is pending
  pub flows : {c : Call} {a : Answer} → (why ≡ None → Allowed x c) → General x why y c a → (s : ℕ) →
      pending x s ++ accepted_by s c a ≡ finished_by s a ++ pending y s
  flows allowed (opens {s = n} {weight = w} {limit = l} none to) s =
      let may = open_allowed x n w l (allowed none) in
      append-nil (pending x s) ∙ sym (open_pending x n w l may.was_closed s) ∙ ap (λ m. pending m s) (sym to)
  flows allowed (enters {s = n} {length = len} {ticket = k} {mark = m} none to) s =
      let may = enter_allowed x n len k (allowed none) in
      sym (enter_pending x n _ may.session may.is_open s) ∙ ap (λ m. pending m s) (sym to)
  flows allowed (starts {s = n} {first = p} {rest = ps} none first to) s =
      append-nil (pending x s) ∙ sym (start_pending x n p ps (start_allowed x (allowed none)) first s) ∙ ap (λ m. pending m s) (sym to)
  flows allowed (finishes {s = n} {packet = p} none is to) s =
      append-nil (pending x s) ∙ finish_pending x n p is s ∙ ap (λ m. packet_of s n p ++ pending m s) (sym to)
  flows allowed (refuses why to) s = append-nil (pending x s) ∙ ap (λ m. pending m s) (sym to)

  -- an opening gives the session its terms, and they stay
  pub agrees : {c : Call} {a : Answer} → General x why y c a → (s : ℕ) → latest (opened_by s c a) (terms_at x s) ≡ terms_at y s
  agrees (opens {s = n} {weight = w} {limit = l} none to) s =
      latest_cond (eqb n s) _ _ ∙ sym (open_terms x n w l s) ∙ ap (λ m. terms_at m s) (sym to)
    where
      latest_cond : (b : Bool) (t : Terms) (o : Option Terms) → latest (cond b (Some t) None) o ≡ cond b (Some t) o
      latest_cond true t o = refl
      latest_cond false t o = refl
  agrees (enters {s = n} none to) s = sym (enter_terms x n _ s) ∙ ap (λ m. terms_at m s) (sym to)
  agrees (starts {s = n} {first = p} none first to) s = sym (start_terms x n p s) ∙ ap (λ m. terms_at m s) (sym to)
  agrees (finishes {s = n} {packet = p} none is to) s = sym (finish_terms x n p s) ∙ ap (λ m. terms_at m s) (sym to)
  agrees (refuses why to) s = ap (λ m. terms_at m s) (sym to)
