-- The script of the generated bank.
use Rattle.std.specs.Prelude.{ℕ, zero, suc, ◌+◌, ◌*◌, ◌/◌, ◌%◌, ◌==◌, ◌||◌, if◌then◌else◌, List, [], ◌∷◌, ◌++◌, map, codes}
use Rattle.std.specs.Fmt.{decimal}
use Rattle.arj_base.specs.declared.state.Format.TheVariants as format
use Rattle.arj_gen.specs.declared.draws.Transfer.{Transfer}
use Rattle.arj_class.specs.declared.value.Value.TheVariants.{Account}
use Rattle.arj_journal.specs.declared.header.Header.{Header}
use Rattle.arj_journal.specs.declared.header.ObjectLine.{ObjectLine}
use Rattle.arj_journal.specs.ScriptText.{nodes_text, object_text}

-- A draw sets the state, and gives its upper bits.
abbrev pub next_state : ℕ → ℕ
next_state s = (s * 6364136223846793005 + 1442695040888963407) % 18446744073709551616

-- what a draw gives
abbrev pub drawn : ℕ → ℕ
drawn s = next_state s / 8589934592

-- the state behind four draws
abbrev pub behind_four : ℕ → ℕ
behind_four s = next_state (next_state (next_state (next_state s)))

-- the account that a draw picks beside another
abbrev pub other_account : ℕ → ℕ → ℕ
other_account account draw = 1 + (account + draw % 19) % 20

-- the transfer that four draws make
abbrev pub transfer_by : ℕ → ℕ → ℕ → ℕ → Transfer
transfer_by first second third fourth = record {
  node = 1 + first % 5;
  source = 1 + second % 20;
  target = other_account (1 + second % 20) third;
  amount = 1 + fourth % 5;
}

-- the transfer that is drawn from this state
abbrev pub transfer_from : ℕ → Transfer
transfer_from s =
    transfer_by (drawn s) (drawn (next_state s)) (drawn (next_state (next_state s))) (drawn (next_state (next_state (next_state s))))

-- the label of a transfer
abbrev pub tag : ℕ → List ℕ
tag i = codes "T" ++ decimal i

-- each tenth transfer loses the newest frame
abbrev pub loses : ℕ → List (List ℕ)
loses i = if i % 10 == 0 then codes "lose last" ∷ [] else []

-- what it takes
abbrev pub taking : ℕ → Transfer → List (List ℕ)
taking i t =
    (codes "begin " ++ (tag i ++ (codes " at " ++ decimal t.node)))
    ∷ (codes "call " ++ (tag i ++ (codes " " ++ (decimal t.source ++ (codes " withdraw " ++ decimal t.amount)))))
    ∷ []

-- what it gives
abbrev pub giving : ℕ → Transfer → List (List ℕ)
giving i t =
    (codes "tick " ++ decimal t.node)
    ∷ codes "settle"
    ∷ (codes "call " ++ (tag i ++ (codes " " ++ (decimal t.target ++ (codes " deposit " ++ decimal t.amount)))))
    ∷ codes "settle"
    ∷ (codes "commit " ++ tag i)
    ∷ codes "settle"
    ∷ []

-- the lines of a crash of node 3
abbrev pub crash_lines : List (List ℕ)
crash_lines = (codes "crash " ++ decimal 3) ∷ (codes "restart " ++ decimal 3) ∷ codes "settle" ∷ []

-- behind two of the transfers node 3 crashes and comes back
abbrev pub crashes : ℕ → List (List ℕ)
crashes i = if (i == 67) || (i == 134) then crash_lines else []

-- the lines of a transfer
abbrev pub transfer_lines : ℕ → Transfer → List (List ℕ)
transfer_lines i t = taking i t ++ (loses i ++ (giving i t ++ crashes i))

-- the state behind so many transfers
abbrev pub state_behind : ℕ → ℕ → ℕ
state_behind n zero = n
state_behind n (suc k) = behind_four (state_behind n k)

-- the lines of so many transfers
abbrev pub lines_of_first : ℕ → ℕ → List (List ℕ)
lines_of_first n zero = []
lines_of_first n (suc k) = lines_of_first n k ++ transfer_lines (k + 1) (transfer_from (state_behind n k))

-- the event lines of the script of n
abbrev pub event_lines : ℕ → List (List ℕ)
event_lines n = lines_of_first n 200 ++ codes "quiesce" ∷ []

-- an account of 1000 with two servers and three stores
abbrev pub account_line : ℕ → ObjectLine
account_line x = record {
  x = x;
  value = Account 1000;
  servers = (1 + x % 5) ∷ (1 + (x + 1) % 5) ∷ [];
  stores = (1 + x % 5) ∷ (1 + (x + 1) % 5) ∷ (1 + (x + 2) % 5) ∷ [];
}

-- the first accounts
abbrev pub accounts : ℕ → List ObjectLine
accounts zero = []
accounts (suc k) = accounts k ++ account_line (k + 1) ∷ []

-- five nodes and 20 accounts
abbrev pub bank_header : Header
bank_header = record { nodes = 5; objects = accounts 20; format = format.Two }

-- the lines of the script of n
abbrev pub bank_lines : ℕ → List (List ℕ)
bank_lines n = nodes_text 5 ∷ (map object_text (accounts 20) ++ codes "run" ∷ event_lines n)
