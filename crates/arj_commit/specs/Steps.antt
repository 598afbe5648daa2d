-- The steps of a commit as the code has them, and what the protocol's step is where one of them follows.
use Rattle.std.specs.Prelude.{◌≡◌, ℕ, ◌+◌, ◌≤◌, ◌&&◌, Bool, false, List, [], if◌then◌else◌, Option, Some, None, ⊤}
use Rattle.std.specs.List.{AllByRecursion}
use Rattle.arj_base.specs.Uid.{uid_eq}
use Rattle.arj_msg.specs.declared.message.Asked.{Asked}
use Rattle.arj_msg.specs.declared.message.Message.{Message}
use Rattle.arj_protocol.specs.Ask.{Reply, actor, answers}
use Rattle.arj_protocol.specs.Asking.{waits_for_commit}
use Rattle.arj_protocol.specs.Commit.{Plan, Machine, Voting, Preparing, Confirming, CommitStep, Stays, Asks, Decides, Aborts, Marked}
use Rattle.arj_protocol.specs.Commit.{plainly, plan_of, answered, participants, has_record}
use Rattle.arj_commit.specs.Awaiting.{Awaiting}
use Rattle.arj_commit.specs.Fits.{IsNode}
use Rattle.arj_commit.specs.declared.next.Next.{Next}
use Rattle.arj_commit.specs.declared.step.Step.{Step}
use Rattle.arj_commit.specs.declared.limits.TheConstants.{LAST_START}

-- the machines of the steps that wait for several nodes
abbrev pub voting : Awaiting → Machine
voting a = Voting a.plan a.left

-- the machine that waits for stores
abbrev pub preparing : Awaiting → Machine
preparing a = Preparing a.plan a.left

-- ---- what a message is to the step that waits

-- The answer is one that the step waits for, whoever asked.
abbrev pub waits_by : ℕ → Option (Asked × Reply) → Machine → Bool
waits_by from None m = false
waits_by from (Some a) m = waits_for_commit from a.0 a.1 m

-- so it is of a message
abbrev pub waits_for : ℕ → Message → Machine → Bool
waits_for from message m = waits_by from (answers message) m

-- It is, and this action had asked.
abbrev pub takes_by : ℕ → Option (Asked × Reply) → Machine → Bool
takes_by from None m = false
takes_by from (Some a) m = uid_eq a.0.act (actor (plan_of m).path) && waits_for_commit from a.0 a.1 m

-- so it is of a message
abbrev pub takes : ℕ → Message → Machine → Bool
takes from message m = takes_by from (answers message) m

-- what an answer leads to
abbrev pub heard_by : ℕ → Option (Asked × Reply) → Machine → Marked
heard_by from None m = plainly (Stays m)
heard_by from (Some a) m = answered from m a.1

-- what a message leads to
abbrev pub heard : ℕ → Message → Machine → Marked
heard from message m = heard_by from (answers message) m

-- ---- what the protocol's step is

-- where the step has just been entered
abbrev pub begun : Step → CommitStep
begun (Step.Voting a) = Asks (voting a)
begun (Step.Preparing a) = Asks (preparing a)
begun (Step.Confirming p) = Asks (Confirming p)
begun (Step.Decide a) = Decides a.plan
begun (Step.Aborted why p) = Aborts why p

-- where it follows in the vote
abbrev pub after_votes : Step → Marked
after_votes (Step.Voting a) = plainly (Stays (voting a))
after_votes s = plainly (begun s)

-- where it follows in the prepare step: when that ends, what is marked is what the commit excludes
abbrev pub after_stores : Step → Marked
after_stores (Step.Preparing a) = plainly (Stays (preparing a))
after_stores (Step.Confirming p) = record { step = Asks (Confirming p); marks = p.excluded }
after_stores (Step.Decide a) = record { step = Decides a.plan; marks = a.plan.excluded }
after_stores s = plainly (begun s)

-- where it follows in the confirmation
abbrev pub after_confirm : Step → Marked
after_confirm (Step.Confirming p) = plainly (Stays (Confirming p))
after_confirm s = plainly (begun s)

-- the nodes that have to acknowledge a decided commit
abbrev pub to_acknowledge : Plan → List ℕ
to_acknowledge p = if has_record p then participants p else []

-- of a decided commit all participants are awaited, where it has a record
abbrev pub AwaitsAll : Step → Type 0
AwaitsAll (Step.Decide a) = a.left ≡ to_acknowledge a.plan
AwaitsAll _ = ⊤

-- ---- the step that follows, and its lists

-- the lists of a step that is entered
abbrev pub next_of : CommitStep → Next
next_of (Asks (Preparing p left)) = Next.Prepare left p.sent
next_of (Asks (Confirming p)) = Next.Confirm p.sent
next_of (Decides p) = Next.Decide (to_acknowledge p)
next_of _ = Next.Decide []

-- a step is entered with its lists
abbrev pub entered : Plan → Next → Step
entered p (Next.Prepare left sent) = Step.Preparing (record { plan = record p { req = p.req + 1; sent = sent }; left = left })
entered p (Next.Confirm sent) = Step.Confirming (record p { req = p.req + 1; sent = sent })
entered p (Next.Decide left) = Step.Decide (record { plan = p; left = left })

-- the plan has a request number for the step, and the stores are nodes
abbrev pub MayEnter : Plan → Next → Type 0
MayEnter p (Next.Prepare left sent) = AllByRecursion IsNode left × (p.req ≤ LAST_START + 1)
MayEnter p (Next.Confirm sent) = p.req ≤ LAST_START + 2
MayEnter p (Next.Decide left) = ⊤
