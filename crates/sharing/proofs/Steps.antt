-- A self-clocked step changes the view of each session, and what holds of every view is kept.
use Rattle.std.proofs.Common.{◌≡◌, ℕ, zero, suc, ◌<◌, ◌≤◌, Bool, true, false, cond, eqb, ◌⊎◌, List, [], ◌∷◌, ◌++◌, length, Some, None, Option, sym, refl, ap, ◌∙◌, subst, subst₂, inl, inr, arith}
use Rattle.std.proofs.lemmas.List.{append-nil, nil_from_length}
use Rattle.std.proofs.lemmas.Bool.{cases_lt, cases_Bool, eqb-true}
use Rattle.calls.specs.Strides.{charge}
use Rattle.calls.specs.declared.call.Packet.{Packet}
use Rattle.calls.specs.declared.call.Call.{Call}
use Rattle.calls.specs.declared.call.Call.TheVariants.{Open, Enter, Start}
use Rattle.calls.specs.Answers.{Answer}
use Rattle.calls.specs.declared.refusal.Refusal.{Refusal}
use Rattle.sharing.specs.Histories.{packet_of, finished_by, weight_in, most_in}
use Rattle.sharing.specs.Meanings.{Service, Meaning, terms_at, waiting_in, all_waiting, refusal, served_of, in_service_of, after_open, after_enter, after_start, after_finish, General, Allowed}
use Rattle.sharing.specs.Meanings as step
use Rattle.sharing.specs.Clocked.{Clocked, Opens, Enters, Starts, Finishes, Refuses, Marks, ClockedStep}
use Rattle.sharing.specs.Clocked as marks
use Rattle.sharing.proofs.Sums.{term_le_sum}
use Rattle.sharing.proofs.Tags.{Tagged, Ahead}
use Rattle.sharing.proofs.Pending.{
  pending,
  terms_in,
  open_allowed,
  enter_allowed,
  start_allowed,
  by_session,
  open_terms,
  open_pending,
  enter_terms,
  enter_pending,
  start_terms,
  start_pending,
  finish_terms,
  finish_waiting,
  finish_pending,
}
use Rattle.sharing.proofs.Views.{View, weight, Good, Changes, keeps, weighed}
use Rattle.sharing.proofs.Views as change

abbrev pub view : ℕ → Clocked → View
view s x = record { clock = x.clock; terms = terms_at x.meaning s; last = x.last s; pending = pending x.meaning s }

-- the packet in service has the clock for its mark
abbrev pub Holds : ℕ → Option Service → Type 0
Holds clock None = Unit {0}
Holds clock (Some service) = service.packet.mark ≡ clock

-- what every self-clocked step keeps
pub record Sound (x : Clocked) : Type 0 where
  pub each : (s : ℕ) → Good s (view s x)
  pub held : Holds x.clock x.meaning.in_service

-- a larger length is not charged less
pub charge_monotone : (m n : ℕ) → m ≤ n → charge m ≤ charge n
charge_monotone m n le = omega arith

onto : {s : ℕ} {idle : Bool} {a b c : View} {finished : List Packet} → c ≡ b → Changes s idle a b finished → Changes s idle a c finished
onto {s} {idle} {a} {b} {c} {finished} e t = subst (λ d. Changes s idle a d finished) (sym e) t

ahead : (v : ℕ) (ps : List Packet) → ((q : Packet) (qs : List Packet) → ps ≡ q ∷ qs → v ≤ q.mark) → Ahead v ps
ahead v [] f = tt
ahead v (q ∷ qs) f = f q qs refl

first_ahead : (v g m l t : ℕ) (ps : List Packet) (p : Packet) (rest : List Packet) → ps ≡ p ∷ rest → Tagged v g m l ps t → v ≤ p.mark
first_ahead v g m l t ps p rest e h =
    let k : Tagged v g m l (p ∷ rest) t = subst (λ qs. Tagged v g m l qs t) e h in
    k.1

-- nothing of any session waits where nothing at all waits
pub none_waits : (x : Clocked) → Sound x → all_waiting x.meaning ≡ 0 → (s : ℕ) → waiting_in x.meaning s ≡ []
none_waits x sound none s = go (cases_lt s 64) (weight (view s x)) refl
  where
    none_right : (a b : List Packet) → a ++ b ≡ [] → b ≡ []
    none_right [] b e = e
    none_right (p ∷ a) b e = cc

    go : (s < 64) ⊎ (64 ≤ s) → (w : ℕ) → weight (view s x) ≡ w → waiting_in x.meaning s ≡ []
    go (inl l) w e =
        let few = term_le_sum 64 s (λ k. length (waiting_in x.meaning k)) l in
        nil_from_length (waiting_in x.meaning s) (omega arith)
    go (inr l) zero e = none_right (in_service_of x.meaning s) (waiting_in x.meaning s) ((sound.each s).empty e)
    go (inr l) (suc w) e = let no : ⊥ = omega (arith, (sound.each s).number (omega arith)) in absurd no

module _ (x y : Clocked) (sound : Sound x) where
  opens_change : (n w l : ℕ) → Allowed x.meaning (Open n w l) → y.meaning ≡ after_open x.meaning n w l → Opens x y → (s : ℕ) →
      Changes s false (view s x) (view s y) []
  opens_change n w l allowed to o s =
      let m = x.meaning in
      let may = open_allowed m n w l allowed in
      let was : terms_at m n ≡ None = ap terms_in may.was_closed in
      let new : ℕ → Bool → View = λ k b.
      record {
        clock = x.clock;
        terms = cond b (Some (record { weight = w; limit = l })) (terms_at m k);
        last = x.last k;
        pending = pending m k;
      } in
      let terms_path = ap (λ k. terms_at k s) to ∙ open_terms m n w l s in
      let pending_path = ap (λ k. pending k s) to ∙ open_pending m n w l may.was_closed s in
      let at : view s y ≡ new s (eqb n s) = λ i. record { clock = o.clock i; terms = terms_path i; last = o.last i s; pending = pending_path i } in
      onto at
      (by_session (λ k b. Changes k false (view k x) (new k b) []) n
      (change.opens may.number may.weighs may.weight_fits was ((sound.each n).empty (ap weight_in was)))
      (λ k. change.stays) s)

  enters_change : (n : ℕ) (p : Packet) → Allowed x.meaning (Enter n p.length p.ticket) → y.meaning ≡ after_enter x.meaning n p →
      Enters n p.length p.mark x y → (s : ℕ) → Changes s false (view s x) (view s y) []
  enters_change n p allowed to o s =
      let m = x.meaning in
      let may = enter_allowed m n p.length p.ticket allowed in
      let is : terms_at m n ≡ terms_in (Some may.session) = ap terms_in may.is_open in
      let fits : charge p.length ≤ most_in (terms_at m n) =
      subst (λ t. charge p.length ≤ most_in t) (sym is) (charge_monotone p.length may.session.limit may.fits)
      in
      let new : ℕ → Bool → View = λ k b.
      record { clock = x.clock; terms = terms_at m k; last = cond b p.mark (x.last k); pending = pending m k ++ cond b (p ∷ []) [] }
      in
      let terms_path = ap (λ k. terms_at k s) to ∙ enter_terms m n p s in
      let pending_path = ap (λ k. pending k s) to ∙ enter_pending m n p may.session may.is_open s in
      let at : view s y ≡ new s (eqb n s) = λ i. record { clock = o.clock i; terms = terms_path i; last = o.last i s; pending = pending_path i } in
      let same : (k : ℕ) → new k false ≡ view k x = λ k i.
      record { clock = x.clock; terms = terms_at m k; last = x.last k; pending = append-nil (pending m k) i }
      in
      onto at
      (by_session (λ k b. Changes k false (view k x) (new k b) []) n
      (change.enters p (weighed (terms_at m n) _ (sound.each n).weighs is) o.mark_is fits)
      (λ k. onto (same k) change.stays) s)

  starts_change : (n : ℕ) (p : Packet) (rest : List Packet) → Allowed x.meaning Start → waiting_in x.meaning n ≡ p ∷ rest →
      y.meaning ≡ after_start x.meaning n p → Starts p x y → (s : ℕ) → Changes s false (view s x) (view s y) []
  starts_change n p rest allowed first to o s =
      let m = x.meaning in
      let free = start_allowed m allowed in
      let all-wait : (k : ℕ) → pending m k ≡ waiting_in m k = λ k i. served_of k (free i) ++ waiting_in m k in
      let good = sound.each n in
      let up : x.clock ≤ p.mark = first_ahead _ _ _ _ good.tag (pending m n) p rest (all-wait n ∙ first) good.tagged in
      let least : Ahead p.mark (pending m s) = ahead p.mark (pending m s) (λ q qs e. o.smallest s q qs (sym (all-wait s) ∙ e)) in
      let terms_path = ap (λ k. terms_at k s) to ∙ start_terms m n p s in
      let pending_path = ap (λ k. pending k s) to ∙ start_pending m n p rest free first s in
      let at : view s y ≡ record { clock = p.mark; terms = terms_at m s; last = x.last s; pending = pending m s } =
      λ i. record { clock = o.clock i; terms = terms_path i; last = o.last i s; pending = pending_path i }
      in
      onto at (change.rises up least)

  finishes_change : (n : ℕ) (p : Packet) → x.meaning.in_service ≡ Some (record { session = n; packet = p }) →
      y.meaning ≡ after_finish x.meaning n p → Finishes x y →
      (idle : Bool) × ((s : ℕ) → Changes s idle (view s x) (view s y) (packet_of s n p))
  finishes_change n p is to o = go (cases_Bool (eqb (all_waiting m) 0))
    where
      m : Meaning
      m = x.meaning

      terms_path : (s : ℕ) → terms_at y.meaning s ≡ terms_at x.meaning s
      terms_path s = ap (λ k. terms_at k s) to ∙ finish_terms x.meaning n p s

      pending_path : (s : ℕ) → pending x.meaning s ≡ packet_of s n p ++ pending y.meaning s
      pending_path s = finish_pending x.meaning n p is s ∙ ap (λ k. packet_of s n p ++ pending k s) (sym to)

      at_clock : p.mark ≡ x.clock
      at_clock = subst (Holds x.clock) is sound.held

      ends : (s : ℕ) (b : Bool) (q : List Packet) → pending x.meaning s ≡ cond b (p ∷ []) [] ++ q →
          Changes s false (view s x) (record { clock = x.clock; terms = terms_at x.meaning s; last = x.last s; pending = q }) (cond b (p ∷ []) [])
      ends s true q e = change.ends e at_clock
      ends s false q e =
          let at : record { clock = x.clock; terms = terms_at x.meaning s; last = x.last s; pending = q } ≡ view s x =
          λ i. record { clock = x.clock; terms = terms_at x.meaning s; last = x.last s; pending = sym e i }
          in
          onto at change.stays

      go : (eqb (all_waiting m) 0 ≡ true) ⊎ (eqb (all_waiting m) 0 ≡ false) →
          (idle : Bool) × ((s : ℕ) → Changes s idle (view s x) (view s y) (packet_of s n p))
      go (inl none) = (
        true,
        λ s.
            let empty : pending y.meaning s ≡ [] =
            ap (λ k. pending k s) to ∙ finish_waiting m n p s ∙ none_waits x sound (eqb-true (all_waiting m) 0 none) s
            in
            let all : pending m s ≡ packet_of s n p = pending_path s ∙ ap (λ l. packet_of s n p ++ l) empty ∙ append-nil (packet_of s n p) in
            let clock-path = o.clock ∙ ap (λ b. cond b 0 x.clock) none in
            let last-path = ap (λ f. f s) o.last ∙ ap (λ b. cond b 0 (x.last s)) none in
            let at : view s y ≡ record { clock = 0; terms = terms_at m s; last = 0; pending = [] } =
            λ i. record { clock = clock-path i; terms = terms_path s i; last = last-path i; pending = empty i }
            in
            onto at (subst (λ l. Changes s true (view s x) (record { clock = 0; terms = terms_at m s; last = 0; pending = [] }) l) all change.clears),
      )
      go (inr some) = (
        false,
        λ s.
            let clock-path = o.clock ∙ ap (λ b. cond b 0 x.clock) some in
            let last-path = ap (λ f. f s) o.last ∙ ap (λ b. cond b 0 (x.last s)) some in
            let at : view s y ≡ record { clock = x.clock; terms = terms_at m s; last = x.last s; pending = pending y.meaning s } =
            λ i. record { clock = clock-path i; terms = terms_path s i; last = last-path i; pending = pending y.meaning s }
            in
            onto at (ends s (eqb n s) (pending y.meaning s) (pending_path s)),
      )

  refuses_change : y.meaning ≡ x.meaning → Refuses x y → (s : ℕ) → Changes s false (view s x) (view s y) []
  refuses_change to o s =
      let at : view s y ≡ view s x =
      λ i. record { clock = o.clock i; terms = terms_at (to i) s; last = o.last i s; pending = pending (to i) s }
      in
      onto at change.stays

  -- a step changes every view, and they agree on whether anything is left waiting
  marked_changes : {why : Option Refusal} {c : Call} {a : Answer} → (why ≡ None → Allowed x.meaning c) → General x.meaning why y.meaning c a →
      Marks x y c a → (idle : Bool) × ((s : ℕ) → Changes s idle (view s x) (view s y) (finished_by s a))
  marked_changes allowed (step.opens {s = n} {weight = w} {limit = l} none to) (marks.opens o) = (false, opens_change n w l (allowed none) to o)
  marked_changes allowed (step.enters {s = n} {length = len} {ticket = k} {mark = m} none to) (marks.enters o) =
      (false, enters_change n (record { length = len; ticket = k; mark = m }) (allowed none) to o)
  marked_changes allowed (step.starts {s = n} {first = p} {rest = ps} none first to) (marks.starts o) =
      (false, starts_change n p ps (allowed none) first to o)
  marked_changes allowed (step.finishes {s = n} {packet = p} none is to) (marks.finishes o) = finishes_change n p is to o
  marked_changes allowed (step.refuses why to) (marks.refuses o) = (false, refuses_change to o)

  pub changes : {c : Call} {a : Answer} → ClockedStep x c a y → (idle : Bool) × ((s : ℕ) → Changes s idle (view s x) (view s y) (finished_by s a))
  changes t = marked_changes t.allowed t.general t.marks

  marked_holds : {why : Option Refusal} {c : Call} {a : Answer} → General x.meaning why y.meaning c a → Marks x y c a →
      Holds y.clock y.meaning.in_service
  marked_holds (step.opens none to) (marks.opens o) = subst₂ Holds (sym o.clock) (ap (λ m. m.in_service) (sym to)) sound.held
  marked_holds (step.enters none to) (marks.enters o) = subst₂ Holds (sym o.clock) (ap (λ m. m.in_service) (sym to)) sound.held
  marked_holds (step.starts none first to) (marks.starts o) = subst₂ Holds (sym o.clock) (ap (λ m. m.in_service) (sym to)) refl
  marked_holds (step.finishes none is to) (marks.finishes o) = subst (Holds y.clock) (ap (λ m. m.in_service) (sym to)) tt
  marked_holds (step.refuses why to) (marks.refuses o) = subst₂ Holds (sym o.clock) (ap (λ m. m.in_service) (sym to)) sound.held

  pub sound_step : {c : Call} {a : Answer} → ClockedStep x c a y → Sound y
  sound_step t = let r = changes t in record { each = λ s. keeps s (r.1 s) (sound.each s); held = marked_holds t.general t.marks }

-- a general step by the rules, with these marks, is a self-clocked one
pub ruled_clocked : (x y : Clocked) (room reach : ℕ → ℕ) (c : Call) {a : Answer} →
    General x.meaning (refusal x.meaning room reach c) y.meaning c a → Marks x y c a → ClockedStep x c a y
ruled_clocked x y room reach c general marks =
    record { why = refusal x.meaning room reach c; allowed = λ none. (room, reach, none); general = general; marks = marks }
