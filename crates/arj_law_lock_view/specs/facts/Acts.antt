-- What each handler keeps of the actions that were begun, beside good nodes.
use Rattle.std.specs.Prelude.{◌+◌, ◌≡◌, ℕ, true, List, [], ◌∷◌, Option, Some, None}
use Rattle.arj_protocol.specs.Words.{Body, Header, Kind, Label, Message}
use Rattle.arj_protocol.specs.Asking.{again_all, begin_action}
use Rattle.arj_protocol.specs.Effect.{Disk, Effect}
use Rattle.arj_protocol.specs.Follow.{tick_outs}
use Rattle.arj_protocol.specs.Node.{Parts, Took, handle, is_meant, with_coord}
use Rattle.arj_protocol.specs.Step.{Input, acts, begin_refusal, parent_of, parts_in, refusal_up, restart_outs}
use Rattle.arj_protocol.specs.Tree.{next_uid, path_below}
use Rattle.arj_law_parts.specs.parts.Actions.{Action}
use Rattle.arj_law_runs.specs.kept.Worlds.{IsGoodOf}
use Rattle.arj_law_parts.specs.moves.Keeps.{DidKeeps, IsAtStarts, MayGive, is_act, label_at}
use Rattle.arj_law_parts.specs.moves.Seen.{AreQuiet, In, at, down, given, said, up}
use Rattle.arj_promise.specs.Runs.{Seen}
use Rattle.arj_law_parts.specs.moves.Walks.{Up, Walks, halted}
use Rattle.arj_start.specs.Kinds.{is_serial}

-- the action that begins in this branch
abbrev pub begins_in : Kind → Option Label → Parts → Action
begins_in how parent t = record { path = path_below how (parent_of parent t.coord) (next_uid t.coord.tree); kind = how }

-- Each handler before which nodes are good, and something else holds, keeps the relation for the actions that were begun, with one more
-- where one begins; and it holds at first, of none.
pub record KeepsOf (hd : Header) (G : List Action → Seen → Type 0) (R : List Action → Seen → Type 0) : Type 0 where
  pub quiet : (begun : List Action) (e : ℕ) (bs : List Body) (M : Seen) → AreQuiet bs → G begun M → IsGoodOf begun M → R begun M →
      R begun (said e bs M)
  pub stop : (begun : List Action) (e k : ℕ) (d : Disk) (live : Option Parts) (M : Seen) → G begun (at k d live M) →
      IsGoodOf begun (at k d live M) → R begun (at k d live M) → R begun (halted e k d M)
  pub message : (begun : List Action) (e k : ℕ) (d : Disk) (t v : Parts) (from : ℕ) (m : Message) (outs : List Effect) (M : Seen)
      → G begun (up k d t M) → IsGoodOf begun (up k d t M) → R begun (up k d t M) → In (record { from = from; to = k; message = m })
      M.sent → is_meant t m ≡ true → handle k d t from m ≡ Took v outs → Walks (R begun) e k outs (Up (R begun) k v) d M
  pub act : (begun : List Action) (e k : ℕ) (d : Disk) (t : Parts) (i : Input) (M : Seen) → is_act i ≡ true → refusal_up hd i t.coord ≡ None
      → G begun (up k d t M) → IsGoodOf begun (up k d t M) → R begun (up k d t M) → DidKeeps (R begun) e k d t (acts i d.intents t.coord) M
  pub begin : (begun : List Action) (e k : ℕ) (d : Disk) (t : Parts) (l : Label) (how : Kind) (parent : Option Label) (M : Seen)
      → label_at l M.labels ≡ None → MayGive M.labels k how parent → begin_refusal how t.coord parent ≡ None
      → G begun (up k d t M) → IsGoodOf begun (up k d t M) → R begun (up k d t M)
      → DidKeeps (R (begins_in how parent t ∷ begun)) e k d t (begin_action l how parent (parent_of parent t.coord) t.coord)
      (given l (record { node = k; serial = is_serial how }) M)
  pub tick : (begun : List Action) (e k : ℕ) (d : Disk) (t : Parts) (M : Seen) → G begun (up k d t M) → IsGoodOf begun (up k d t M) →
      R begun (up k d t M)
      → Walks (R begun) e k (tick_outs (record { number = k; disk = d; live = Some t }) t)
      (Up (R begun) k (with_coord t (again_all t.coord.doings t.coord).part)) d M
  pub restart : (begun : List Action) (e k : ℕ) (d : Disk) (M : Seen) → G begun (down k d M) → IsGoodOf begun (down k d M) →
      R begun (down k d M) → Walks (R begun) e k (restart_outs hd k (d.inc + 1) d) (Up (R begun) k (parts_in k (d.inc + 1) d)) d M
  pub first : IsAtStarts hd (R [])
