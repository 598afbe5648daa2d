-- What a quiesce leaves waiting, where every node stays up in it and no limit is met.
use Rattle.std.specs.Prelude.{⊤, ◌≡◌, ◌≤◌, ◌⊎◌, ℕ, Bool, true, false, ◌&&◌, nat_le, List, [], Some}
use Rattle.arj_protocol.specs.Words as words
use Rattle.arj_protocol.specs.Words.{Header, Uid}
use Rattle.arj_protocol.specs.Ask.{Reply, answers}
use Rattle.arj_protocol.specs.Asking.{waits_for_call}
use Rattle.arj_protocol.specs.Call.{Steps}
use Rattle.arj_protocol.specs.Commit.{Machine, left_of}
use Rattle.arj_protocol.specs.Coord.{Calling, Committing, Coord, Doing, doing_of}
use Rattle.arj_protocol.specs.Effect.{Disk}
use Rattle.arj_protocol.specs.Node.{Handled, Parts, Took, Void, reply_is_meant, taken}
use Rattle.arj_protocol.specs.Order.{has}
use Rattle.arj_protocol.specs.Step.{is_waiting_now}
use Rattle.arj_protocol.specs.Tree.{at_place}
use Rattle.arj_protocol.specs.World.{Asked, World, is_node, is_up_at}
use Rattle.arj_law_parts.specs.moves.Seen.{In, up}
use Rattle.arj_promise.specs.Runs.{Post, Seen}
use Rattle.arj_law_runs.specs.resting.Waits.{AsksFor, Want, want_of_call, want_of_commit}
use Rattle.arj_promise.specs.Waiting.{IsOvertaken, IsSaid, coord_in}

-- the message changes nothing
abbrev pub IsVoid : Handled → Type 0
IsVoid (Void outs) = ⊤
IsVoid (Took t outs) = ⊥

-- A message that was sent comes to node j, which is up, and is what this action asks there.
pub record HasCome (j : ℕ) (M : Seen) (c : Coord) (w : Want) : Type 0 where
  pub post : Post
  pub sent : In post M.sent
  pub to : post.to ≡ j
  pub node : w.node ≡ j
  pub coord : coord_in (M.nodes post.from) ≡ Some c
  pub asks : AsksFor w post.message

-- A relation gives that messages go to nodes of the header; that a request for which a call or an include waits is void nowhere, unless the
-- call is overtaken; that the answer for which it waits can be meant; and that a request for which a commit waits is void nowhere.
pub record AnswersWaits (hd : Header) (R : Seen → Type 0) : Type 0 where
  pub within : (M : Seen) (p : Post) → R M → In p M.sent → (nat_le 1 p.to && nat_le p.to hd.nodes) ≡ true
  pub calls : (j : ℕ) (d : Disk) (t : Parts) (M : Seen) (c : Coord) (u : Uid) (q : Doing) (s : Steps) → R (up j d t M) →
      doing_of u c ≡ Some q → q.now ≡ Calling s → (h : HasCome j (up j d t M) c (want_of_call u s))
      → IsVoid (taken j d t (let p = h.post in p.from) (let p = h.post in p.message)) → IsOvertaken (IsSaid M.lines) s
  pub meant : (j : ℕ) (d : Disk) (t : Parts) (M : Seen) (p : Post) (a : words.Asked) (r : Reply) (q : Doing) (s : Steps) → R (up j d t M) →
      In p M.sent → p.to ≡ j → answers p.message ≡ Some (a, r)
      → doing_of a.act t.coord ≡ Some q → q.now ≡ Calling s → waits_for_call p.from a r s ≡ true → reply_is_meant t.coord a r ≡ true
  pub commits : (j : ℕ) (d : Disk) (t : Parts) (M : Seen) (c : Coord) (u : Uid) (q : Doing) (m : Machine) (n : ℕ) → R (up j d t M) →
      doing_of u c ≡ Some q → q.now ≡ Committing m → has (left_of m) n ≡ true → (h : HasCome j (up j d t M) c (want_of_commit u m n))
      → IsVoid (taken j d t (let p = h.post in p.from) (let p = h.post in p.message)) → ⊥

-- At the nodes of the header whoever waits is a call that is overtaken, or a commit that waits for no node.
abbrev pub WaitOvertaken : World → Type 0
WaitOvertaken w = (k : ℕ) (c : Coord) (u : Uid) (q : Doing) → is_node k w ≡ true → coord_in (at_place k w.nodes) ≡ Some c →
    doing_of u c ≡ Some q → is_waiting_now q.now ≡ true
    → ((s : Steps) × (q.now ≡ Calling s) × IsOvertaken (IsSaid w.lines) s) ⊎ ((m : Machine) × (q.now ≡ Committing m) × (left_of m ≡ []))
