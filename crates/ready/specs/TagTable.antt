-- What a clause sees of a ready line of its own type.
use Rattle.std.specs.Prelude.{◌≡◌, length}
use Rattle.ready.specs.Tags.{Tags}

-- the tags of the 64 sessions
pub record TagTable : Type 0 where
  pub tags : Tags
  pub sessions : length tags ≡ 64
