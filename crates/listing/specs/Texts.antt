-- Text that is written into octets from a place on.
use Rattle.std.specs.Prelude.{◌≡◌, ℕ, ◌+◌, List, ◌++◌, length, take, drop}

-- what was there, with the piece over it from the place on
unfoldable pub put_at : List ℕ → ℕ → List ℕ → List ℕ
put_at out at piece = take at out ++ (piece ++ drop (at + length piece) out)

-- the text was written over what was there, and `end` is the place behind it
pub record Wrote (before : List ℕ) (at : ℕ) (text after : List ℕ) (end : ℕ) : Type 0 where
  pub octets : after ≡ put_at before at text
  pub place : end ≡ at + length text
