-- Seats: what is kept of a session beside its packets. A session that is not open has no account.
use Rattle.std.specs.Prelude.{ℕ, ◌+◌, min, Bool, true, cond, ◌&&◌, List, length, Some, None, Err, Option, Result, nat_lt, slice_index_or, ok_or, option_map}
use Rattle.calls.specs.Strides.{within}
use Rattle.calls.specs.declared.call.Packet.{Packet}
use Rattle.calls.specs.declared.call.Terms.{Terms}
use Rattle.calls.specs.declared.refusal.Refusal.{Refusal}
use Rattle.calls.specs.declared.refusal.Refusal.TheVariants.{NoSuchSession, NotOpen}
use Rattle.sharing.specs.Meanings.{Session}
use Rattle.sessions.specs.declared.seat.Account.{Account}

-- no session above 63 is open
abbrev pub seat_at : List (Option Account) → ℕ → Option Account
seat_at seats s = slice_index_or seats s None

abbrev pub new_account : Terms → Account
new_account terms = record { terms = terms; octets = 0 }

-- a sum above 18446744073709551615 becomes that number
abbrev pub with_octets : ℕ → Account → Account
with_octets amount account = record { terms = account.terms; octets = min (account.octets + amount) 18446744073709551615 }

-- weights are from 1 to 16, limits from 1 to 65535
abbrev pub terms_within : Option Account → Bool
terms_within None = true
terms_within (Some account) = within account.terms.weight 16 && within account.terms.limit 65535

-- how many packets wait at a closed seat
abbrev pub waiting_while_closed : Option Account → List Packet → ℕ
waiting_while_closed None packets = length packets
waiting_while_closed (Some account) packets = 0

-- what an account and the queue of its session mean
abbrev pub session_with : Account → List Packet → Session
session_with account packets =
    record { weight = account.terms.weight; limit = account.terms.limit; octets = account.octets; waiting = packets }

abbrev pub session_of : Option Account → List Packet → Option Session
session_of seat packets = option_map (λ account. session_with account packets) seat

-- ---- the account of an open session

abbrev pub account_of : Option Account → Result Account Refusal
account_of seat = ok_or seat NotOpen

abbrev pub account_at : List (Option Account) → ℕ → Result Account Refusal
account_at seats s = cond (nat_lt s 64) (account_of (seat_at seats s)) (Err NoSuchSession)
