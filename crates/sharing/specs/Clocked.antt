-- Self-clocked lines: what every line means, with a clock and the last mark of each session.
use Rattle.std.specs.Prelude.{◌≡◌, ℕ, ◌≤◌, cond, List, ◌∷◌, None, Option, ◌==◌, Ok, Err}
use Rattle.calls.specs.declared.call.Packet.{Packet}
use Rattle.calls.specs.declared.call.Call.{Call}
use Rattle.calls.specs.declared.call.Call.TheVariants.{Open, Enter, Start, Finish}
use Rattle.calls.specs.Answers.{Answer}
use Rattle.calls.specs.declared.call.Reply.TheVariants.{Opened, Entered, Started, Finished}
use Rattle.calls.specs.declared.refusal.Refusal.{Refusal}
use Rattle.sharing.specs.Histories.{weight_in}
use Rattle.sharing.specs.Rules.{mark_after}
use Rattle.sharing.specs.Meanings.{Meaning, nothing_open, terms_at, waiting_in, all_waiting, General, Allowed}

pub record Clocked : Type 0 where
  pub meaning : Meaning
  pub clock : ℕ
  -- the last mark of each session, 0 where it has none
  pub last : ℕ → ℕ

pub record New (x : Clocked) : Type 0 where
  pub meaning : x.meaning ≡ nothing_open
  pub clock : x.clock ≡ 0
  pub last : x.last ≡ (λ s. 0)

-- ---- what each call does to the clock and to the last marks

pub record Opens (x y : Clocked) : Type 0 where
  pub clock : y.clock ≡ x.clock
  pub last : y.last ≡ x.last

abbrev pub with_mark : (ℕ → ℕ) → ℕ → ℕ → ℕ → ℕ
with_mark last n mark s = cond (n == s) mark (last s)

-- the answered mark is that of the rule of marks, and is now the last mark of the session
pub record Enters (s length mark : ℕ) (x y : Clocked) : Type 0 where
  pub mark_is : mark ≡ mark_after (x.last s) x.clock length (weight_in (terms_at x.meaning s))
  pub clock : y.clock ≡ x.clock
  pub last : y.last ≡ with_mark x.last s mark

-- the packet that starts has the smallest mark of all first waiting packets, or one of the smallest; the clock goes to its mark
pub record Starts (packet : Packet) (x y : Clocked) : Type 0 where
  pub smallest : (s : ℕ) (first : Packet) (rest : List Packet) → waiting_in x.meaning s ≡ first ∷ rest → packet.mark ≤ first.mark
  pub clock : y.clock ≡ packet.mark
  pub last : y.last ≡ x.last

-- n while a packet waits, else 0
abbrev pub while_waiting : Meaning → ℕ → ℕ
while_waiting m n = cond (all_waiting m == 0) 0 n

-- a finish that leaves nothing waiting sets the clock and every last mark to 0; any other leaves them
pub record Finishes (x y : Clocked) : Type 0 where
  pub clock : y.clock ≡ while_waiting x.meaning x.clock
  pub last : y.last ≡ (λ s. while_waiting x.meaning (x.last s))

pub record Refuses (x y : Clocked) : Type 0 where
  pub clock : y.clock ≡ x.clock
  pub last : y.last ≡ x.last

pub data Marks (x y : Clocked) : Call → Answer → Type 0 where
  opens : {s weight limit : ℕ} → Opens x y → Marks x y (Open s weight limit) (Ok Opened)
  enters : {s length ticket mark : ℕ} → Enters s length mark x y → Marks x y (Enter s length ticket) (Ok (Entered mark))
  starts : {s : ℕ} {packet : Packet} → Starts packet x y → Marks x y Start (Ok (Started (record { session = s; packet = packet })))
  finishes : {s : ℕ} {packet : Packet} → Finishes x y → Marks x y Finish (Ok (Finished (record { session = s; packet = packet })))
  refuses : {call : Call} {reason : Refusal} → Refuses x y → Marks x y call (Err reason)

-- the self-clocked step: a general step with these marks. A call may be refused for any reason; an accepted one is allowed by the rules
pub record ClockedStep (x : Clocked) (call : Call) (answer : Answer) (y : Clocked) : Type 0 where
  pub why : Option Refusal
  pub allowed : why ≡ None → Allowed x.meaning call
  pub general : General x.meaning why y.meaning call answer
  pub marks : Marks x y call answer
