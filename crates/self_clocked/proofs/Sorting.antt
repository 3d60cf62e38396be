-- The order in which waiting packets start is that of their marks and then of their sessions, and has each of them once.
use Rattle.std.proofs.Common.{◌≡◌, ℕ, zero, suc, ◌≤◌, cond, ◌⊎◌, List, [], ◌∷◌, ◌++◌, length, None, sym, refl, ap, ◌∙◌, subst, inl, inr, arith}
use Rattle.std.specs.List.{AllByRecursion}
use Rattle.std.proofs.lemmas.Bool.{cases_eq, eq-eqb, ne_eqb}
use Rattle.std.proofs.lemmas.Bool.Decides.{nat_tests}
use Rattle.calls.specs.Strides.{stride}
use Rattle.calls.specs.declared.call.Packet.{Packet}
use Rattle.calls.specs.declared.call.Service.{Service}
use Rattle.calls.specs.declared.call.Call.TheVariants.{Start, Finish}
use Rattle.ready.specs.Order.{AtMost}
use Rattle.ready.specs.Orders.{at_most_through}
use Rattle.sharing.specs.Meanings.{Meaning, waiting_in, all_waiting, after_first, after_start, served_of}
use Rattle.sharing.specs.Clocked.{Clocked}
use Rattle.sharing.proofs.Tags.{Chained, Tagged}
use Rattle.sharing.proofs.Views.{weight, most}
use Rattle.sharing.proofs.Steps.{view, Sound, none_waits}
use Rattle.sessions.proofs.Using.{start_waiting_here, start_waiting_there}
use Rattle.self_clocked.specs.Exact.{answer_to, after}
use Rattle.self_clocked.specs.Previews.{start_order, of_session, entry, ByMarkAndSession, Ordered, OrderIsByMarkAndSession}
use Rattle.self_clocked.proofs.Exacts.{sound_waits, exact_keeps, exact_sound}
use Rattle.self_clocked.proofs.Orders.{Begins, begins, finish_rests, finish_waits, order_none, order_finish, order_start, may_start}

-- ---- a line with nothing in service and n + 1 packets waiting: one of them starts

-- the state y, in which x is once its packet has left; the packet v that starts, and the state z after it
record Turn (x : Clocked) (n : ℕ) : Type 0 where
  begun : Begins (after x Finish)
  order : start_order x ≡ begun.next_is.service ∷ start_order (after (after x Finish) Start)
  left : all_waiting (after (after x Finish) Start).meaning ≡ n

turn : (x : Clocked) (n : ℕ) → all_waiting x.meaning ≡ suc n → Turn x n
turn x n is =
    let y = after x Finish in
    let b = begins y (may_start y (finish_rests x).free (omega (arith, finish_waits x))) in
    record {
      begun = b;
      order = order_finish x ∙ order_start y ∙ ap (λ services. services ++ start_order (after y Start)) b.starts;
      left = omega (arith, b.one_less, finish_waits x);
    }

-- ---- what holds of every waiting packet holds of every packet of the order

Waits : (ℕ → Packet → Type 0) → Meaning → Type 0
Waits P m = (s : ℕ) → AllByRecursion (P s) (waiting_in m s)

all_rest : (P : Packet → Type 0) (ps : List Packet) → AllByRecursion P ps → AllByRecursion P (after_first ps)
all_rest P [] all = all
all_rest P (p ∷ ps) all = all.1

module _ (P : ℕ → Packet → Type 0) where
  waits_started : (m y : Meaning) (n : ℕ) → Waits P m → waiting_in y n ≡ after_first (waiting_in m n) →
      ((k : ℕ) → (k ≡ n → ⊥) → waiting_in y k ≡ waiting_in m k) → Waits P y
  unfolding Waits
  waits_started m y n all here there s = go (cases_eq s n)
    where
      go : (s ≡ n) ⊎ (s ≡ n → ⊥) → AllByRecursion (P s) (waiting_in y s)
      go (inl e) =
          subst (λ (ps : List Packet). AllByRecursion (P s) ps) (sym (ap (waiting_in y) e ∙ here ∙ ap (λ k. after_first (waiting_in m k)) (sym e)))
          (all_rest (P s) (waiting_in m s) (all s))
      go (inr ne) = subst (λ (ps : List Packet). AllByRecursion (P s) ps) (sym (there s ne)) (all s)

  waits_left : (y : Clocked) (b : Begins y) → Waits P y.meaning → Waits P (after y Start).meaning
  waits_left y b all =
      let v = b.next_is.service in
      subst (Waits P) (sym b.leaves)
      (waits_started y.meaning _ v.session all (start_waiting_here y.meaning v.session v.packet) (start_waiting_there y.meaning v.session v.packet))

  order_all : (n : ℕ) (x : Clocked) → all_waiting x.meaning ≡ n → Waits P x.meaning → AllByRecursion (λ v. P v.session v.packet) (start_order x)
  unfolding Waits
  order_all zero x is all = subst (AllByRecursion (λ v. P v.session v.packet)) (sym (order_none x is)) tt
  order_all (suc n) x is all =
      let t = turn x n is in
      let y = after x Finish in
      let v = t.begun.next_is.service in
      let at : AllByRecursion (P v.session) (v.packet ∷ after_first (waiting_in y.meaning v.session)) =
      subst (λ (ps : List Packet). AllByRecursion (P v.session) ps) (sym ((finish_rests x).waiting v.session) ∙ t.begun.next_is.first) (all v.session) in
      let waits : Waits P y.meaning = λ s. subst (λ (ps : List Packet). AllByRecursion (P s) ps) (sym ((finish_rests x).waiting s)) (all s) in
      let z : Waits P (after y Start).meaning = waits_left y t.begun waits in
      subst (AllByRecursion (λ v. P v.session v.packet)) (sym t.order) (at.0, order_all n (after y Start) t.left z)

-- ---- the marks of a session rise

chain_above : (g m b : ℕ) (ps : List Packet) (l low : ℕ) → low ≤ b → Chained g m b ps l → AllByRecursion (λ p. low ≤ p.mark) ps
chain_above g m b [] l low le c = tt
chain_above g m b (p ∷ ps) l low le c = let up : low ≤ p.mark = omega arith in (up, chain_above g m p.mark ps l low up c.2)

same_session : (s a b : ℕ) → a ≤ b → AtMost (a, s) (b, s)
same_session s a b le = grind (arith, nat_tests)

module _ (y : Clocked) (ok : Sound y) (free : y.meaning.in_service ≡ None) (n : Begins y) where
  -- the packet that starts is at most every waiting one
  least_of_all : (s : ℕ) → AllByRecursion (λ p. AtMost (entry n.next_is.service) (p.mark, s)) (waiting_in y.meaning s)
  least_of_all s = go (waiting_in y.meaning s) refl
    where
      v : Service
      v = n.next_is.service

      later : (q : Packet) (ps : List Packet) → AtMost (entry v) (q.mark, s) → AllByRecursion (λ p. q.mark ≤ p.mark) ps → AllByRecursion (λ p. AtMost (entry v) (p.mark, s)) ps
      later q [] most up = tt
      later q (p ∷ ps) most up = (at_most_through (entry v) (q.mark, s) (p.mark, s) most (same_session s q.mark p.mark up.0), later q ps most up.1)

      go : (ps : List Packet) → waiting_in y.meaning s ≡ ps → AllByRecursion (λ p. AtMost (entry v) (p.mark, s)) ps
      go [] is = tt
      go (q ∷ qs) is =
          let pending : (view s y).pending ≡ q ∷ qs = ap (λ o. served_of s o ++ waiting_in y.meaning s) free ∙ is in
          let good = ok.each s in
          let g = stride (weight (view s y)) in
          let c = most (view s y) in
          let tagged : Tagged y.clock g c (y.last s) (q ∷ qs) good.tag =
          subst (λ (ps : List Packet). Tagged y.clock g c (y.last s) ps good.tag) pending good.tagged in
          let first = n.next_is.least s q qs (sound_waits y ok s q qs is) is in
          (first, later q qs first (chain_above g c q.mark qs (y.last s) q.mark (omega arith) tagged.2.2))

-- ---- the whole order

-- what the next turn adds in front of the order of what it leaves
module _ (x y : Clocked) (s : ℕ) (n : Begins y) (waiting : (k : ℕ) → waiting_in y.meaning k ≡ waiting_in x.meaning k) where
  v : Service
  v = n.next_is.service

  one_of_session : (rest : List Service) → of_session s rest ≡ waiting_in (after y Start).meaning s → of_session s (v ∷ rest) ≡ waiting_in x.meaning s
  unfolding v
  one_of_session rest is = go (cases_eq v.session s)
    where
      m : Meaning
      m = y.meaning

      go : (v.session ≡ s) ⊎ (v.session ≡ s → ⊥) → of_session s (v ∷ rest) ≡ waiting_in x.meaning s
      go (inl e) =
          ap (λ b. cond b (v.packet ∷ []) [] ++ of_session s rest) (eq-eqb v.session s e) ∙
          ap (λ ps. v.packet ∷ ps)
          (is ∙ ap (λ k. waiting_in k s) n.leaves ∙ ap (waiting_in (after_start m v.session v.packet)) (sym e) ∙ start_waiting_here m v.session v.packet) ∙
          sym n.next_is.first ∙ waiting v.session ∙ ap (waiting_in x.meaning) e
      go (inr ne) =
          ap (λ b. cond b (v.packet ∷ []) [] ++ of_session s rest) (ne_eqb v.session s ne) ∙ is ∙ ap (λ k. waiting_in k s) n.leaves ∙
          start_waiting_there m v.session v.packet s (λ e. ne (sym e)) ∙ waiting s

ordered : (n : ℕ) (x : Clocked) → Sound x → all_waiting x.meaning ≡ n → Ordered x
unfolding v Waits
ordered zero x ok is =
    let none = order_none x is in
    record {
      each = λ s. ap (of_session s) none ∙ sym (none_waits x ok is s);
      count = ap length none ∙ sym is;
      sorted = subst ByMarkAndSession (sym none) tt;
    }
ordered (suc n) x ok is =
    let t = turn x n is in
    let y = after x Finish in
    let z = after y Start in
    let y-ok : Sound y = exact_keeps x y Finish (answer_to x Finish) ok (record { answer = refl; after = refl }) in
    let z-ok : Sound z = exact_keeps y z Start (answer_to y Start) y-ok (record { answer = refl; after = refl }) in
    let rest = ordered n z z-ok t.left in
    let e = entry t.begun.next_is.service in
    let waits : (s : ℕ) → AllByRecursion (λ p. AtMost e (p.mark, s)) (waiting_in y.meaning s) = least_of_all y y-ok (finish_rests x).free t.begun in
    record {
      each = λ s. ap (of_session s) t.order ∙ one_of_session x y s t.begun (finish_rests x).waiting (start_order z) (rest.each s);
      count = omega (arith, ap length t.order, rest.count, t.left, is);
      sorted =
          subst ByMarkAndSession (sym t.order)
          (order_all (λ s p. AtMost e (p.mark, s)) n z t.left (waits_left (λ s p. AtMost e (p.mark, s)) y t.begun waits), rest.sorted);
    }

pub order_is_by_mark_and_session : OrderIsByMarkAndSession
order_is_by_mark_and_session h x led = ordered (all_waiting x.meaning) x (exact_sound h x led) refl
