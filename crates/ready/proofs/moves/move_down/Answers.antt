use Rattle.std.proofs.Common.{ℕ, length, sym, subst}
use Rattle.std.proofs.lemmas.List.Sorted.{IsPermutation-trans}
use Rattle.ready.specs.Entries.{entry_at}
use Rattle.ready.specs.Orders.{at_most_other, at_most_through}
use Rattle.ready.specs.Places.{ExceptBelow, below_more, below_done}
use Rattle.ready.proofs.moves.move_down.Goals as goal

pub returns-then-at_most : goal.returns-then-at_most
returns-then-at_most c =
    let xs = c.loop-at.heap in
    let i = c.loop-at.at in
    let child = c.first_child-child in record {
      same = c.loop-at.invariant.0;
      ordered = below_done (entry_at xs) (length xs) i
          (λ k ch l. at_most_through (entry_at xs i) (entry_at xs child.result) (entry_at xs k) (sym c.if-at_most.ensures) (child.ensures.first k ch l))
          c.loop-at.invariant.1;
    }

pub loop-at-preserved : goal.loop-at-preserved
loop-at-preserved c =
    let xs = c.loop-at.heap in
    let ys = c.swap.new.self in
    let i = c.loop-at.at in
    let child = c.first_child-child in
    let j = child.result in
    let places = c.swap.ensures.by_index in
    let P : ℕ → Type 0 = λ n. ExceptBelow (entry_at ys) n j in (
      IsPermutation-trans c.args.heap.now xs ys c.loop-at.invariant.0 c.swap.ensures.permutation,
      subst P (sym c.swap.ensures.len)
          (below_more (entry_at xs) (entry_at ys) (length xs) i j child.ensures.child
          (places.0 (0, 0), places.1 (0, 0), λ m a b. places.2 m (0, 0) a b)
          (at_most_other (entry_at xs i) (entry_at xs j) (sym c.if-at_most.ensures))
          child.ensures.within
          child.ensures.first
          c.loop-at.invariant.1),
    )
