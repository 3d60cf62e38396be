-- What a ready line means, and what each call answers and leaves.
use Rattle.std.specs.Prelude.{ℕ, suc, Bool, cond, List, [], ◌∷◌, replicate, is_some, Some, None, Ok, Err, count_by, Option, Result, nat_lt, slice_index_or, slice_set}
pub use Rattle.calls.specs.Places.{place_answer}
use Rattle.calls.specs.declared.refusal.Refusal.{Refusal}
use Rattle.calls.specs.declared.refusal.Refusal.TheVariants.{NoSuchSession, DuplicateEntry}
use Rattle.ready.specs.Order.{Entry, at_most}

-- for each session in turn the tag of its entry, if it has one
abbrev pub Tags : Type 0
Tags = List (Option ℕ)

-- the tag of session s
abbrev pub tag_of : Tags → ℕ → Option ℕ
tag_of xs s = slice_index_or xs s None

abbrev pub no_entries : Tags
no_entries = replicate 64 None

abbrev pub entry_count : Tags → ℕ
entry_count xs = count_by is_some xs

-- a session takes no second entry
abbrev pub free_answer : Bool → Result (Unit {0}) Refusal
free_answer has_entry = cond has_entry (Err DuplicateEntry) (Ok tt)

-- what `add` answers: a session above 63 is refused, and then one that has an entry
abbrev pub add_answer : Tags → ℕ → Result (Unit {0}) Refusal
add_answer xs s = cond (nat_lt s 64) (free_answer (is_some (tag_of xs s))) (Err NoSuchSession)

-- what `add` leaves: where it is not refused the entry is in, and nothing else has changed
abbrev pub added : Tags → ℕ → ℕ → Tags
added xs t s = cond (nat_lt s 64) (cond (is_some (tag_of xs s)) xs (slice_set xs s (Some t))) xs

-- the entry of session s, if it has one
abbrev pub entry_of : ℕ → Option ℕ → Option Entry
entry_of s None = None
entry_of s (Some t) = Some (t, s)

-- of two entries the one that comes first
abbrev pub earlier : Option Entry → Option Entry → Option Entry
earlier None b = b
earlier (Some a) None = Some a
earlier (Some a) (Some b) = cond (at_most a b) (Some a) (Some b)

-- of `best` and the entries of xs, which are those of the sessions from s on, the one that comes first
abbrev pub least_after : Option Entry → ℕ → Tags → Option Entry
least_after best s [] = best
least_after best s (x ∷ xs) = least_after (earlier best (entry_of s x)) (suc s) xs

-- the entry that comes first
abbrev pub least_of : Tags → Option Entry
least_of xs = least_after None 0 xs

-- what is left without an entry
abbrev pub without : Tags → Option Entry → Tags
without xs None = xs
without xs (Some e) = slice_set xs e.1 None
