-- The three statements: how two sessions share, what share of the whole each session is sure of, and that no session's order changes.
use Rattle.std.specs.Prelude.{◌≡◌, ℕ, ◌+◌, ◌-◌, ◌*◌, ◌≤◌, ◌++◌}
use Rattle.sharing.specs.Histories.{History, accepted, finished, BackloggedThroughout, served, sent, weight_of, most_of, weight_of_all, most_of_all}
use Rattle.sharing.specs.Meanings.{Meaning, nothing_open, waiting_in, in_service_of, RuledStep}
use Rattle.sharing.specs.Clocked.{Clocked, New, ClockedStep}
use Rattle.sharing.specs.Runs.{Led}

-- ---- (a) two sessions, between the moments `before` and `later ++ before`; weights and limits are those of the later moment

-- w(i) B + w(j) M(i) + w(i) M(j), where B is what j was served, and M the most that one packet of the session is charged
abbrev pub pairwise_bound : ℕ → ℕ → History → History → ℕ
pairwise_bound i j later before =
    let now = later ++ before in
    weight_of i now * served j later + weight_of j now * most_of i now + weight_of i now * most_of j now

-- w(j) A is no more, where A is what i was served
abbrev pub PairwiseFairness : History → History → Type 0
PairwiseFairness later before =
    (i j : ℕ) → BackloggedThroughout i later before → BackloggedThroughout j later before →
    weight_of j (later ++ before) * served i later ≤ pairwise_bound i j later before

-- ---- (b) one session and all of them

-- R A + (R - w) M + w (the M of the other sessions together), where R is the weight of all open sessions, and w, M and A are the session's
abbrev pub share_bound : ℕ → History → History → ℕ
share_bound i later before =
    let now = later ++ before in
    weight_of_all now * served i later + (weight_of_all now - weight_of i now) * most_of i now +
    weight_of i now * (most_of_all now - most_of i now)

-- w T is no more, where T is what was sent; and neither difference in the bound is below 0
pub record ShareOf (i : ℕ) (later before : History) : Type 0 where
  pub weight_counted : weight_of i (later ++ before) ≤ weight_of_all (later ++ before)
  pub most_counted : most_of i (later ++ before) ≤ most_of_all (later ++ before)
  pub share : weight_of i (later ++ before) * sent later ≤ share_bound i later before

abbrev pub GuaranteedShare : History → History → Type 0
GuaranteedShare later before = (i : ℕ) → BackloggedThroughout i later before → ShareOf i later before

-- both, between every two moments of h; `since` is what came after them
pub record Shares (h : History) : Type 0 where
  pub pairwise : (since later before : History) → h ≡ since ++ (later ++ before) → PairwiseFairness later before
  pub guaranteed : (since later before : History) → h ≡ since ++ (later ++ before) → GuaranteedShare later before

-- ---- (c) the finished packets of a session, then the one in service, then those that wait are its accepted packets in their order

abbrev pub OrderPreserved : History → Meaning → Type 0
OrderPreserved h m = (s : ℕ) → finished s h ++ (in_service_of m s ++ waiting_in m s) ≡ accepted s h

-- ---- the theorems

pub record Fair (h : History) (m : Meaning) : Type 0 where
  pub shares : Shares h
  pub order : OrderPreserved h m

abbrev pub EveryClockedRunShares : Type 0
EveryClockedRunShares = (h : History) (x : Clocked) → Led New ClockedStep h x → Fair h x.meaning

abbrev pub EveryGeneralRunKeepsOrder : Type 0
EveryGeneralRunKeepsOrder = (h : History) (m : Meaning) → Led (λ x. x ≡ nothing_open) RuledStep h m → OrderPreserved h m
