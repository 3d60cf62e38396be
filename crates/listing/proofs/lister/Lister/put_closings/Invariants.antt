use Rattle.std.proofs.Common.{◌*◌, ◌≤◌}
use Rattle.self_clocked.specs.States.{state}
use Rattle.listing.specs.Texts.{Wrote}
use Rattle.listing.specs.Listings.{closings_below}
use Rattle.listing.proofs.lister.Lister.put_closings.Given as goal

abbrev pub invariant-loop-session : goal.invariant-loop-session
invariant-loop-session l =
    Wrote l.initial.out 0 (closings_below l.session (state l.self).meaning) l.out l.end
    × (l.end ≤ 96 * l.session)
