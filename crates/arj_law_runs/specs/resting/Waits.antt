-- Who waits for what at a coordinator, and what is under way that answers it.
use Rattle.std.specs.Prelude.{◌≡◌, ◌⊎◌, ℕ, true, List, [], Option, Some, None, Contains, option_map}
use Rattle.arj_protocol.specs.Words.{Ask, Asked, Binding, Body, Head, Line, Message, Uid, asks}
use Rattle.arj_protocol.specs.Words.body
use Rattle.arj_protocol.specs.Ask.{Reply, answers, ask_kind, asked_by, reply_kind}
use Rattle.arj_protocol.specs.Call.{At, AtActivate, AtNote, Known, Steps, next_ask, next_node}
use Rattle.arj_protocol.specs.Commit.{Machine, ask_of, left_of, plan_of}
use Rattle.arj_protocol.specs.Coord.{Calling, Committing, Coord, Doing, doing_of}
use Rattle.arj_protocol.specs.Node.{Parts}
use Rattle.arj_protocol.specs.Order.{binding_less, has}
use Rattle.arj_protocol.specs.Step.{Node}
use Rattle.arj_promise.specs.Runs.{Post}
use Rattle.arj_promise.specs.Waiting.{IsOvertaken}

-- an action's request: by which number it asks, for which kind of answer, and which node
pub record Want : Type 0 where
  pub act : Uid
  pub req : ℕ
  pub kind : ℕ
  pub node : ℕ

-- what an answer to it names
abbrev pub asked_for : Want → Asked
asked_for w = record { act = w.act; req = w.req }

-- what a call or an include waits for
abbrev pub want_of_call : Uid → Steps → Want
want_of_call u s = record { act = u; req = s.req; kind = ask_kind (next_ask [] s); node = next_node s }

-- what a commit waits for, of one of its nodes
abbrev pub want_of_commit : Uid → Machine → ℕ → Want
want_of_commit u m n = record { act = u; req = (plan_of m).req; kind = ask_kind (ask_of m n); node = n }

-- the message is that request
pub record AsksFor (w : Want) (m : Message) : Type 0 where
  pub head : Head
  pub ask : Ask
  pub is : asks m ≡ Some (head, ask)
  pub by : asked_by head ≡ asked_for w
  pub kind : ask_kind ask ≡ w.kind

-- it is an answer to that request
pub record AnswersTo (w : Want) (m : Message) : Type 0 where
  pub reply : Reply
  pub is : answers m ≡ Some (asked_for w, reply)
  pub kind : reply_kind reply ≡ w.kind

-- The message between two nodes brings an answer to the one who wants it: it is the request, or the answer.
pub data Brings (k : ℕ) (w : Want) (p : Post) : Type 0 where
  Asking : p.from ≡ k → p.to ≡ w.node → AsksFor w p.message → Brings k w p
  Answering : p.from ≡ w.node → p.to ≡ k → AnswersTo w p.message → Brings k w p

-- such a message is under way
pub record HasWay (under : Post → Type 0) (k : ℕ) (w : Want) : Type 0 where
  pub post : Post
  pub under_way : under post
  pub brings : Brings k w post

-- At these coordinators, for each call, include and commit that waits, what answers it is under way, unless it is overtaken.
pub record AreBrought (nodes : ℕ → Type 0) (coords : ℕ → Option Coord) (under : Post → Type 0) (said : Body → Type 0) : Type 0 where
  pub calls : (k : ℕ) (c : Coord) (u : Uid) (q : Doing) (s : Steps) → nodes k → coords k ≡ Some c → doing_of u c ≡ Some q →
      q.now ≡ Calling s → IsOvertaken said s ⊎ HasWay under k (want_of_call u s)
  pub commits : (k : ℕ) (c : Coord) (u : Uid) (q : Doing) (m : Machine) (n : ℕ) → nodes k → coords k ≡ Some c → doing_of u c ≡ Some q →
      q.now ≡ Committing m → has (left_of m) n ≡ true → HasWay under k (want_of_commit u m n)
