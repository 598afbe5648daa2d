-- When answers are made: at which place of the journal, and what each says of the lines before it.
use Rattle.std.specs.Prelude.{◌≡◌, ◌≤◌, ◌⊎◌, ℕ, Bool, true, false, ◌&&◌, ◌==◌, List, [], ◌∷◌, ◌++◌, length, Option, Some, None, is_some}
use Rattle.std.specs.Prelude.{not}
use Rattle.std.specs.List.{AllByRecursion}
use Rattle.arj_lock.proofs.Members as list
use Rattle.arj_protocol.specs.Words.{Ask, Asked, FrameKind, Head, Line, Message, Uid, asks}
use Rattle.arj_protocol.specs.Words.ask
use Rattle.arj_protocol.specs.Words.body
use Rattle.arj_protocol.specs.Ask.{Reply, actor, answers, asked_by, frame_kind, response}
use Rattle.arj_protocol.specs.Effect.{Disk, Do, Effect, Say, Send}
use Rattle.arj_protocol.specs.Node.{Parts, Took, handle, is_meant}
use Rattle.arj_protocol.specs.Order.{at_uid}
use Rattle.arj_protocol.specs.Server.{Kept, Server, changed_by}
use Rattle.arj_protocol.specs.Step.{Node}
use Rattle.arj_protocol.specs.World.{numbered}
use Rattle.arj_law_parts.specs.moves.Moments.{Asking, Moment, fits, is_restart, up}
use Rattle.arj_law_parts.specs.moves.Seen.{In}
use Rattle.arj_promise.specs.Runs.{Post}

-- an answer of a node to a request
pub record Answer : Type 0 where
  pub from : ℕ
  pub to : ℕ
  pub head : Head
  pub ask : Ask
  pub reply : Reply

-- what answers say of the lines before the place at which they are made
abbrev pub Saying : Type 1
Saying = Answer → List Line → Type 0

-- the first of these lines is that of a frame of this kind, from one node to another
abbrev pub BeginsWith : ℕ → ℕ → FrameKind → List Line → Type 0
BeginsWith from to what [] = ⊥
BeginsWith from to what (line ∷ rest) = (k : ℕ) × (line.body ≡ body.Sent k from to what)

-- the kind of frame in which an answer goes
abbrev pub answer_kind : Answer → FrameKind
answer_kind a = frame_kind (response (asked_by a.head) a.reply)

-- An answer was made behind the first of these lines. Each event that asked its action, and can own the request, came before; its frame was
-- sent there, unless it was lost, or to the node itself it goes without; and so much is said of the lines before.
pub record IsMade (S : Saying) (lost : Type 0) (askings : List Asking) (lines : List Line) (a : Answer) : Type 0 where
  pub before : List Line
  pub after : List Line
  pub are : lines ≡ before ++ after
  pub behind : (k : Asking) → list.In k askings → k.act ≡ actor (let h = a.head in h.path) → k.first ≤ (let h = a.head in h.req) →
      (let e = k.asked in e.at) ≤ length before
  pub framed : (a.from ≡ a.to) ⊎ (BeginsWith a.from a.to (answer_kind a) after ⊎ lost)
  pub so : S a before

-- the request to which it answers was sent, and it was made
pub record IsAnswered (S : Saying) (lost : Type 0) (M : Moment) (a : Answer) : Type 0 where
  pub request : Post
  pub posted : In request M.seen.sent
  pub asking : asks request.message ≡ Some (a.head, a.ask)
  pub to : request.to ≡ a.from
  pub from : request.from ≡ a.to
  pub made : IsMade S lost M.past.askings M.seen.lines a

-- so it is of an answer that names this action and its request
abbrev pub AnswersTo : Saying → Type 0 → Moment → ℕ → ℕ → Asked → Reply → Type 0
AnswersTo S lost M from to a r =
    (h : Head) × (q : Ask) × (asked_by h ≡ a) × IsAnswered S lost M (record { from = from; to = to; head = h; ask = q; reply = r })

-- so it is of each answer that was sent
abbrev pub AreMade : Saying → Moment → Type 0
AreMade S M = (p : Post) (a : Asked) (r : Reply) → In p M.seen.sent → answers p.message ≡ Some (a, r) → AnswersTo S ⊥ M p.from p.to a r

-- and of an answer that a server keeps, but that its frame may have been lost
abbrev pub IsKeptSo : Saying → Moment → ℕ → Uid → Kept → Type 0
IsKeptSo S M j u k = AnswersTo S (fits M ≡ false) M j u.node (record { act = u; req = k.req }) (Reply.Invoked k.answer)

-- of each of these
abbrev pub AreKeptSo : Saying → Moment → ℕ → List (Uid × Kept) → Type 0
AreKeptSo S M j kept = AllByRecursion (λ (e : Uid × Kept). IsKeptSo S M j e.0 e.1) kept

-- each event that asked something came before the lines that are to follow
abbrev pub AreBefore : Moment → Type 0
AreBefore M = (k : Asking) → list.In k M.past.askings → (let e = k.asked in e.at) ≤ length M.seen.lines

-- The answers that were sent were made so, and those that servers keep.
pub record AnswersAreMade (S : Saying) (M : Moment) : Type 0 where
  pub sent : AreMade S M
  pub kept : (j : ℕ) (n : Node) (t : Parts) → M.seen.nodes j ≡ Some n → n.live ≡ Some t → AreKeptSo S M j (let s = t.server in s.kept)
  pub asked : AreBefore M

-- ---- what has to be shown of what answers say

-- the request is one that was answered, and the answer is given again
abbrev pub is_kept : ℕ → Option Kept → Bool
is_kept req None = false
is_kept req (Some k) = k.req == req

-- so it is of a call that names the active copy
abbrev pub is_again : Head → Ask → Server → Bool
is_again h (ask.Invoke x b i ends op) s = not (is_some (changed_by i x b s)) && is_kept h.req (at_uid (actor h.path) s.kept)
is_again h a s = false

-- the lines behind effects that send nothing
abbrev pub lines_behind : ℕ → List Effect → List Line → List Line
lines_behind e [] lines = lines
lines_behind e (Say b ∷ es) lines = lines_behind e es (lines ++ numbered e (b ∷ []))
lines_behind e (Send to m ∷ es) lines = lines_behind e es lines
lines_behind e (Do w ∷ es) lines = lines_behind e es lines

-- Where so much is known, and no node restarts, whoever serves a request, and doesn't give an answer again, gives one that says what is so
-- of the lines then.
abbrev pub Tells : (Moment → Type 0) → Saying → Type 0
Tells G S = (k : ℕ) (d : Disk) (t v : Parts) (from : ℕ) (m : Message) (h : Head) (a : Ask) (r : Reply) (front : List Effect) (M : Moment) →
    G (up k d t M) → In (record { from = from; to = k; message = m }) M.seen.sent → is_restart M.past.event ≡ false →
    is_meant t m ≡ true → asks m ≡ Some (h, a) → is_again h a t.server ≡ false →
    handle k d t from m ≡ Took v (front ++ Send from (response (asked_by h) r) ∷ [])
    → S (record { from = k; to = from; head = h; ask = a; reply = r }) (lines_behind M.past.number front M.seen.lines)
