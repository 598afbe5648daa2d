-- Whole commits: what one hears from its start to its decision, and what it has heard by then.
use Rattle.std.specs.Prelude.{◌≡◌, ◌⊎◌, ℕ, ◌+◌, ◌==◌, ◌&&◌, Bool, true, false, List, [], ◌∷◌, ◌++◌, if◌then◌else◌}
use Rattle.std.specs.List.{list_any, list_all, AllByRecursion}
use Rattle.arj_protocol.specs.Ask.{Reply, ask_kind, reply_kind}
use Rattle.arj_protocol.specs.Words.voted
use Rattle.arj_protocol.specs.Words.prepared
use Rattle.arj_protocol.specs.Words.confirmed
use Rattle.arj_protocol.specs.Commit.{Plan, Used, Machine, CommitStep, Stays, Asks, Decides, left_of, ask_of, answered, given_up}
use Rattle.arj_protocol.specs.Commit.{servers_of, targets_of, states_for, is_marked}
use Rattle.arj_protocol.specs.Order.{has}

-- ---- what a commit hears

-- an answer of a node, or a giveup
pub data Heard : Type 0 where
  Answer : ℕ → Reply → Heard
  GiveUp : Heard

-- The step waits for it: an answer of its kind, from a node that hasn't answered. A commit may always be given up.
abbrev pub is_due : Machine → Heard → Bool
is_due m (Answer from r) = (reply_kind r == ask_kind (ask_of m from)) && has (left_of m) from
is_due m GiveUp = true

-- the step after it
abbrev pub after : Machine → Heard → CommitStep
after m (Answer from r) = let t = answered from m r in t.step
after m GiveUp = let t = given_up m in t.step

-- A commit at this step hears these in order, each when it is due, and then it is decided by this plan.
abbrev pub DecidedBy : List Heard → CommitStep → Plan → Type 0
DecidedBy [] (Decides p) q = p ≡ q
DecidedBy (h ∷ hs) (Stays m) q = (is_due m h ≡ true) × DecidedBy hs (after m h) q
DecidedBy (h ∷ hs) (Asks m) q = (is_due m h ≡ true) × DecidedBy hs (after m h) q
DecidedBy _ _ q = ⊥

-- ---- what it has heard when it is decided

-- a server says yes
abbrev pub is_vote : Heard → Bool
is_vote (Answer from (Reply.Voted (voted.Yes states))) = true
is_vote _ = false

-- a store has prepared or doesn't take part, or those that haven't answered are given up
abbrev pub is_of_store : Heard → Bool
is_of_store (Answer from (Reply.Prepared prepared.Yes)) = true
is_of_store (Answer from (Reply.Prepared (prepared.InDoubt x holder))) = true
is_of_store GiveUp = true
is_of_store _ = false

-- this store has prepared
abbrev pub is_ready : ℕ → Heard → Bool
is_ready s (Answer from (Reply.Prepared prepared.Yes)) = from == s
is_ready s _ = false

-- naming says yes
abbrev pub naming_yes : Heard
naming_yes = Answer 1 (Reply.Confirmed confirmed.Yes)

-- an answer of this node
abbrev pub is_from : ℕ → Heard → Bool
is_from n (Answer from r) = from == n
is_from n GiveUp = false

-- how often a node has answered
abbrev pub answers_of : ℕ → List Heard → ℕ
answers_of n [] = 0
answers_of n (h ∷ hs) = if is_from n h then 1 + answers_of n hs else answers_of n hs

-- The store is marked for each object of which it is sent a state.
abbrev pub AllMarked : ℕ → Plan → Type 0
AllMarked s p = AllByRecursion (λ st. is_marked st.uid.num s p ≡ true) (states_for s p)

-- Naming confirms, where there is a used object: the last that is heard.
abbrev pub Confirms : List Used → List Heard → Plan → Type 0
Confirms [] hs q = hs ≡ []
Confirms (u ∷ us) hs q = (hs ≡ naming_yes ∷ []) × (q.confirmed ≡ true)

-- nothing has been heard
pub record IsFresh (p : Plan) : Type 0 where
  pub changed : p.changed ≡ []
  pub prepared : p.prepared ≡ []
  pub excluded : p.excluded ≡ []
  pub confirmed : p.confirmed ≡ false

-- What a commit of the plan p has heard when it is decided by the plan q: first each server said yes, once; then each
-- store has prepared, as it said, or is marked; and then naming said yes.
pub record InOrder (p : Plan) (heard : List Heard) (q : Plan) : Type 0 where
  pub votes : List Heard
  pub stores : List Heard
  pub confirms : List Heard
  pub in_turn : heard ≡ votes ++ (stores ++ confirms)
  pub all_votes : list_all is_vote votes ≡ true
  pub voted_once : (s : ℕ) → answers_of s votes ≡ (if has (servers_of q) s then 1 else 0)
  pub all_stores : list_all is_of_store stores ≡ true
  pub prepared_or_marked : (s : ℕ) → has (targets_of q) s ≡ true → (has q.prepared s ≡ true) ⊎ AllMarked s q
  pub prepared_said : (s : ℕ) → has q.prepared s ≡ true → list_any (is_ready s) stores ≡ true
  pub confirmed : Confirms q.used confirms q
  pub used : q.used ≡ p.used
  pub path : q.path ≡ p.path
  pub ends : q.ends ≡ p.ends
