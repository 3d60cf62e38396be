use Rattle.std.proofs.Common.{ℕ, ◌-◌, ◌/◌, length, sym, subst, arith}
use Rattle.std.proofs.lemmas.List.Sorted.{IsPermutation-trans}
use Rattle.ready.specs.Entries.{entry_at}
use Rattle.ready.specs.Orders.{at_most_other}
use Rattle.ready.specs.Places.{ExceptAbove, above_more}
use Rattle.ready.proofs.moves.move_up.Goals as goal

pub loop-at-preserved : goal.loop-at-preserved
loop-at-preserved c =
    let xs = c.loop-at.heap in
    let ys = c.swap.new.self in
    let j = c.loop-at.at in
    let i = (j - 1) / 2 in
    let places = c.swap.ensures.by_index in
    let P : ℕ → Type 0 = λ n. ExceptAbove (entry_at ys) n i in (
      omega arith,
      IsPermutation-trans c.args.heap.now xs ys c.loop-at.invariant.1 c.swap.ensures.permutation,
      subst P (sym c.swap.ensures.len)
          (above_more (entry_at xs) (entry_at ys) (length xs) i j (omega arith, omega arith)
          (places.1 (0, 0), places.0 (0, 0), λ m a b. places.2 m (0, 0) b a)
          (at_most_other (entry_at xs i) (entry_at xs j) (sym c.if-at_most.ensures))
          (omega arith)
          c.loop-at.invariant.2),
    )
