-- What the changes of the chains are to the table: that it keeps its ghost fields, and what its queues are then.
use Rattle.std.proofs.Common.{◌≡◌, ℕ, ◌^◌, ◌<◌, [], ◌∷◌, ◌++◌, length, Some, Ok, Option, sym, ap, ◌∙◌, subst, arith}
use Rattle.calls.specs.declared.call.Packet.{Packet}
use Rattle.waiting.specs.declared.chains.Chains.{Chains}
use Rattle.waiting.specs.declared.table.Waiting.{Waiting}
use Rattle.waiting.specs.Chains.{header}
use Rattle.waiting.specs.Steps.{appended, removed, Appendable, Removable}
use Rattle.waiting.specs.Queues.{queue, queue_in, rest_of, put, put_answer, first_answer, after_take}
use Rattle.waiting.proofs.Keeping.{Ghosts}
use Rattle.waiting.proofs.Appending.{appendable, appended_keeps, appended_queue, appended_others}
use Rattle.waiting.proofs.Removing.{removable, removed_keeps, removed_queue, removed_others}
use Rattle.waiting.proofs.Reading.{queue_count, used_is_all_waiting}
use Rattle.waiting.proofs.Using.{is_put, put_room, first_some}

queue_from : (v : Waiting) (t : Chains) → v.chains ≡ t → queue v ≡ queue_in t
unfolding queue
queue_from v t is = ap queue_in is

module _ (w : Waiting) (s : ℕ) where
  module _ (p : Packet) (ok : Ok tt ≡ put_answer (queue w) s) (fits : p.length < 2 ^ 32) where
    low : s < 64
    low = (put_room (queue w) s (sym ok)).0

    room : w.chains.used < 256
    room = omega (arith, used_is_all_waiting w, (put_room (queue w) s (sym ok)).1)

    pub can_append : Appendable w.chains s p
    can_append = appendable w s p low room fits

    pub append_keeps : (t : Chains) → t ≡ appended w.chains s p → Ghosts t
    append_keeps t is = subst Ghosts (sym is) (appended_keeps w s p low room fits)

    pub append_queues : (v : Waiting) → v.chains ≡ appended w.chains s p → queue v ≡ put (queue w) s (queue w s ++ p ∷ [])
    unfolding queue
    append_queues v is =
        queue_from v (appended w.chains s p) is
        ∙ is_put (queue w) s (queue w s ++ p ∷ []) (queue_in (appended w.chains s p))
        (appended_queue w s p low room fits)
        (appended_others w s p low room fits)

  module _ (o : Option Packet) (p : Packet) (ok : Ok o ≡ first_answer (queue w) s) (is_some : o ≡ Some p) where
    found : (s < 64) × (queue w s ≡ p ∷ rest_of (queue w s))
    found = first_some (queue w) s p (sym ok ∙ ap Ok is_some)

    in_range : s < 64
    in_range = found.0

    some : 0 < (header w.chains s).count
    some = omega (arith, queue_count w s, ap length found.1)

    pub can_remove : Removable w.chains s
    can_remove = removable w s in_range some

    pub remove_keeps : (t : Chains) → t ≡ removed w.chains s → Ghosts t
    remove_keeps t is = subst Ghosts (sym is) (removed_keeps w s in_range some)

    pub remove_queues : (v : Waiting) → v.chains ≡ removed w.chains s → queue v ≡ after_take (queue w) s
    unfolding queue
    remove_queues v is =
        queue_from v (removed w.chains s) is
        ∙ is_put (queue w) s (rest_of (queue w s)) (queue_in (removed w.chains s))
        (removed_queue w s in_range some)
        (removed_others w s in_range some)
