-- A preview: the heap of the first packets, and the starts one after the other.
use Rattle.std.proofs.Common.{◌≡◌, ℕ, ◌+◌, ◌<◌, ◌≤◌, ◌&&◌, leb, ◌⊎◌, List, [], ◌∷◌, ◌++◌, length, drop, set, replicate, Some, None, Ok, Option, sym, refl, ap, ◌∙◌, inl, inr, arith, Err}
use Rattle.std.proofs.lemmas.List.{append_assoc, append-nil, length-append, length-drop, drop-drop, length-set, get_or-set_same, get_or-set_other, get_or-replicate}
use Rattle.std.proofs.lemmas.Bool.{cases_lt, cases_eq, and_parts, leb-true}
use Rattle.calls.specs.declared.call.Packet.{Packet}
use Rattle.calls.specs.declared.call.Service.{Service}
use Rattle.calls.specs.declared.call.Call.TheVariants.{Start, Finish}
use Rattle.calls.specs.declared.call.Reply.TheVariants.{Started}
use Rattle.calls.specs.declared.refusal.Refusal.{Refusal}
use Rattle.calls.specs.declared.refusal.Refusal.TheVariants.{ShortBuffer}
use Rattle.waiting.specs.Queues.{first_of}
use Rattle.ready.specs.Tags.{Tags, tag_of, no_entries}
use Rattle.ready.proofs.Adds.{add_leaves}
use Rattle.sharing.specs.Meanings.{Meaning, waiting_in, all_waiting}
use Rattle.sharing.specs.Clocked.{Clocked}
use Rattle.sessions.specs.Verdicts.{verdict, settled}
use Rattle.sessions.proofs.Keeping.{passed, no_reason}
use Rattle.self_clocked.specs.Exact.{refusal_of, first_mark, first_marks, renewed, accepted_answer, decided, answer_to, after}
use Rattle.self_clocked.specs.Previews.{started_by, start_order, tickets_of, preview_refusal, preview_answer, tickets_after, scratch_after}
use Rattle.self_clocked.specs.Firsts.{first_marks_from}
use Rattle.self_clocked.proofs.Orders.{begins, finish_rests, finish_waits, order_none, order_finish, order_start, may_start, same_order}

-- ---- the heap of the first packets

-- the sessions below n have their first packets in it, and no other session has an entry
pub record FirstsBelow (m : Meaning) (n : ℕ) (tags : Tags) : Type 0 where
  pub long : length tags ≡ 64
  pub below : (s : ℕ) → s < n → tag_of tags s ≡ first_mark (waiting_in m s)
  pub above : (s : ℕ) → n ≤ s → s < 64 → tag_of tags s ≡ None

pub firsts_none : (m : Meaning) (tags : Tags) → tags ≡ no_entries → FirstsBelow m 0 tags
firsts_none m tags e =
    record {
      long = ap length e;
      below = λ s less. let no : ⊥ = omega arith in absurd no;
      above = λ s some low. ap (λ xs. tag_of xs s) e ∙ get_or-replicate 64 s None None low;
    }

pub firsts_more : (m : Meaning) (n : ℕ) (tags after : Tags) → n < 64 → FirstsBelow m n tags → after ≡ renewed tags (first_of (waiting_in m n)) n → FirstsBelow m (n + 1) after
firsts_more m n tags after low so_far is = go (waiting_in m n) refl (is)
  where
    at : (xs : Tags) → length xs ≡ 64 → tag_of xs n ≡ first_mark (waiting_in m n) → ((s : ℕ) → (s ≡ n → ⊥) → tag_of xs s ≡ tag_of tags s) → after ≡ xs → FirstsBelow m (n + 1) after
    at xs long here there e =
        record {
          long = ap length e ∙ long;
          below = λ s less. ap (λ ys. tag_of ys s) e ∙ each s less (cases_eq s n);
          above = λ s more top. ap (λ ys. tag_of ys s) e ∙ there s (λ k. let no : ⊥ = omega arith in no) ∙ so_far.above s (omega arith) top;
        }
      where
        each : (s : ℕ) → s < n + 1 → (s ≡ n) ⊎ (s ≡ n → ⊥) → tag_of xs s ≡ first_mark (waiting_in m s)
        each s less (inl k) = ap (tag_of xs) k ∙ here ∙ ap (λ j. first_mark (waiting_in m j)) (sym k)
        each s less (inr ne) = there s ne ∙ so_far.below s (omega arith)

    go : (ps : List Packet) → waiting_in m n ≡ ps → after ≡ renewed tags (first_of (waiting_in m n)) n → FirstsBelow m (n + 1) after
    go [] none is =
        at tags so_far.long (so_far.above n (omega arith) low ∙ sym (ap first_mark none)) (λ s ne. refl) (is ∙ ap (λ ps. renewed tags (first_of ps) n) none)
    go (p ∷ ps) some is =
        let inside : n < length tags = omega (arith, so_far.long) in
        at (set tags n (Some p.mark)) (length-set tags n (Some p.mark) ∙ so_far.long)
        (get_or-set_same tags n (Some p.mark) None inside ∙ sym (ap first_mark some))
        (λ s ne. get_or-set_other tags n s (Some p.mark) None ne)
        (is ∙ ap (λ qs. renewed tags (first_of qs) n) some ∙ add_leaves tags p.mark n low (so_far.above n (omega arith) low))

pub firsts_all : (m : Meaning) (tags : Tags) → FirstsBelow m 64 tags → tags ≡ first_marks m
firsts_all m tags all = first_marks_from m tags all.long all.below

-- ---- the starts, one after the other, from the line x on; y is where it is now

pub record Written (x : Clocked) (before : List ℕ) (y : Clocked) (tickets : List ℕ) (count : ℕ) : Type 0 where
  pub done : List ℕ
  pub buffer : tickets ≡ done ++ drop count before
  pub long : count ≡ length done
  pub order : tickets_of (start_order x) ≡ done ++ tickets_of (start_order y)
  pub left : count + all_waiting y.meaning ≡ all_waiting x.meaning
  pub free : y.meaning.in_service ≡ None

pub written_none : (x y : Clocked) (before : List ℕ) → y ≡ after x Finish → Written y before y before 0
written_none x y before to =
    record {
      done = [];
      buffer = refl;
      long = refl;
      order = refl;
      left = omega arith;
      free = ap (λ z. z.meaning.in_service) to ∙ (finish_rests x).free;
    }

pub rested_room : (x y : Clocked) (n : ℕ) → y ≡ after x Finish → all_waiting x.meaning ≤ n → all_waiting y.meaning ≤ n
rested_room x y n to room = omega (arith, ap (λ z. all_waiting z.meaning) to, finish_waits x)

-- a start that was accepted was allowed
not_refused : (y : Clocked) (service : Service) → Ok (Started service) ≡ answer_to y Start → refusal_of y Start ≡ None
not_refused y service is = go (refusal_of y Start) is
  where
    go : (o : Option Refusal) → Ok (Started service) ≡ decided o (accepted_answer y Start) → o ≡ None
    go None e = refl
    go (Some reason) e = let z : ◌≡◌ {A = ℕ} 0 1 = cc in let no : ⊥ = omega arith in absurd no

put_behind : (done rest : List ℕ) (ticket : ℕ) → 0 < length rest → set (done ++ rest) (length done) ticket ≡ (done ++ ticket ∷ []) ++ drop 1 rest
put_behind [] [] ticket some = let no : ⊥ = omega arith in absurd no
put_behind [] (r ∷ rest) ticket some = refl
put_behind (d ∷ done) rest ticket some = ap (λ ts. d ∷ ts) (put_behind done rest ticket some)

put_next : (done before : List ℕ) (n ticket : ℕ) → n ≡ length done → n < length before →
    set (done ++ drop n before) n ticket ≡ (done ++ ticket ∷ []) ++ drop (n + 1) before
put_next done before n ticket long inside =
    ap (λ k. set (done ++ drop n before) k ticket) long ∙ put_behind done (drop n before) ticket (omega (arith, length-drop n before)) ∙
    ap (λ ts. (done ++ ticket ∷ []) ++ ts) (drop-drop 1 n before)

module _ (x : Clocked) (before : List ℕ) (y : Clocked) (tickets : List ℕ) (count : ℕ) (so_far : Written x before y tickets count)
    (room : all_waiting x.meaning ≤ length before) (service : Service) (is : Ok (Started service) ≡ answer_to y Start) where
  pub written_room : count < length before
  written_room = let b = begins y (not_refused y service is) in omega (arith, so_far.left, b.one_less)

  pub written_more : (z : Clocked) → z ≡ after (after y Start) Finish → Written x before z (set tickets count service.packet.ticket) (count + 1)
  written_more z to =
      let b = begins y (not_refused y service is) in
      let order : start_order y ≡ service ∷ start_order z =
      order_start y ∙ ap (λ a. started_by a ++ start_order (after y Start)) (sym is) ∙ ap (λ services. service ∷ services) (order_finish (after y Start) ∙ ap start_order (sym to)) in
      record {
        done = so_far.done ++ service.packet.ticket ∷ [];
        buffer = ap (λ ts. set ts count service.packet.ticket) so_far.buffer ∙ put_next so_far.done before count service.packet.ticket so_far.long written_room;
        long = omega (arith, so_far.long, length-append so_far.done (service.packet.ticket ∷ []));
        order =
            so_far.order ∙ ap (λ services. so_far.done ++ tickets_of services) order ∙
            sym (append_assoc so_far.done (service.packet.ticket ∷ []) (tickets_of (start_order z)));
        left = omega (arith, so_far.left, b.one_less, ap (λ v. all_waiting v.meaning) to, finish_waits (after y Start));
        free = ap (λ v. v.meaning.in_service) to ∙ (finish_rests (after y Start)).free;
      }

-- with nothing in service a start is refused only where nothing waits
none_left : (y : Clocked) (reason : Refusal) → y.meaning.in_service ≡ None → Err reason ≡ answer_to y Start → all_waiting y.meaning ≡ 0
none_left y reason free is = go (cases_lt 0 (all_waiting y.meaning))
  where
    go : (0 < all_waiting y.meaning) ⊎ (all_waiting y.meaning ≤ 0) → all_waiting y.meaning ≡ 0
    go (inl some) =
        let b = begins y (may_start y free some) in
        let none : [] ≡ b.next_is.service ∷ [] = ap started_by is ∙ b.starts in
        let z : ◌≡◌ {A = ℕ} 0 1 = ap length none in
        let no : ⊥ = omega arith in
        absurd no
    go (inr none) = omega arith

module _ (x y z : Clocked) (before tickets : List ℕ) (count : ℕ) (reason : Refusal) (to : y ≡ after x Finish) (so_far : Written y before z tickets count)
    (is : Err reason ≡ answer_to z Start) where
  none : all_waiting z.meaning ≡ 0
  none = none_left z reason so_far.free is

  pub written_count : count ≡ all_waiting x.meaning
  written_count = omega (arith, so_far.left, none, ap (λ v. all_waiting v.meaning) to, finish_waits x)

  pub written_all : tickets ≡ tickets_of (start_order x) ++ drop (all_waiting x.meaning) before
  written_all =
      so_far.buffer ∙
      (λ i. (sym (append-nil so_far.done) ∙ ap (λ services. so_far.done ++ tickets_of services) (sym (order_none z none)) ∙ sym so_far.order ∙
      ap tickets_of (ap start_order to ∙ sym (order_finish x))) i ++ drop (written_count i) before)

-- ---- the buffers

module _ (tickets scratch : List ℕ) (none : Ok (tt {0}) ≡ verdict (preview_refusal tickets scratch) (tt {0})) where
  allowed : preview_refusal tickets scratch ≡ None
  allowed = no_reason (preview_refusal tickets scratch) (tt {0}) (tt {0}) none

  long : (256 ≤ length tickets) × (256 ≤ length scratch)
  long =
      let both = and_parts (leb 256 (length tickets)) (leb 256 (length scratch))
      (passed (leb 256 (length tickets) && leb 256 (length scratch)) ShortBuffer None allowed).0 in
      (leb-true 256 (length tickets) both.0, leb-true 256 (length scratch) both.1)

  pub long_tickets : 256 ≤ length tickets
  long_tickets = long.0

  pub long_scratch : 256 ≤ length scratch
  long_scratch = long.1

  -- x is the line, and y the one that the preview ran
  module _ (x y : Clocked) (same : y.meaning ≡ x.meaning) where
    pub previewed_count : (count : ℕ) → count ≡ all_waiting y.meaning → Ok count ≡ preview_answer x tickets scratch
    previewed_count count is = ap Ok (is ∙ ap all_waiting same) ∙ ap (λ o. verdict o (all_waiting x.meaning)) (sym allowed)

    pub previewed_tickets : (after : List ℕ) → after ≡ tickets_of (start_order y) ++ drop (all_waiting y.meaning) tickets → after ≡ tickets_after x tickets scratch
    previewed_tickets after is =
        is ∙ (λ i. tickets_of (same_order y x same i) ++ drop (all_waiting (same i)) tickets) ∙
        ap (λ o. settled o tickets (tickets_of (start_order x) ++ drop (all_waiting x.meaning) tickets)) (sym allowed)

  pub previewed_scratch : (after : List ℕ) → after ≡ replicate 256 0 ++ drop 256 scratch → after ≡ scratch_after tickets scratch
  previewed_scratch after is = is ∙ ap (λ o. settled o scratch (replicate 256 0 ++ drop 256 scratch)) (sym allowed)
