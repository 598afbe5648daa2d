-- Answers in whole runs, and who takes them.
use Rattle.std.specs.Prelude.{⊤, ◌≡◌, ◌≤◌, ◌⊎◌, List, Some, length, ◌++◌}
use Rattle.arj_lock.proofs.Members as list
use Rattle.arj_protocol.specs.Words.{Ask, Asked, Head, Header, Line}
use Rattle.arj_protocol.specs.Ask.{Reply, answers, asked_by}
use Rattle.arj_law_parts.specs.moves.Moments.{Asking, Moment}
use Rattle.arj_law_parts.specs.moves.Seen.{In}
use Rattle.arj_law_parts.specs.moves.With.{HoldsWith, past_of}
use Rattle.arj_promise.specs.Runs.{Post, Run, world_by}
use Rattle.arj_law_lock_view.specs.moments.Made.{Answer, AnswersAreMade, BeginsWith, Saying, answer_kind}

-- An answer was made in the span of what was asked: behind lines that stand behind the event that asked, where its frame was sent, or, to
-- the node itself, without one; and so much is said of the lines before.
pub record IsInSpan (S : Saying) (k : Asking) (lines : List Line) (a : Answer) : Type 0 where
  pub before : List Line
  pub after : List Line
  pub are : lines ≡ before ++ after
  pub behind : (let e = k.asked in e.at) ≤ length before
  pub framed : (a.from ≡ a.to) ⊎ BeginsWith a.from a.to (answer_kind a) after
  pub so : S a before

-- Whoever takes an answer that was sent, to a request whose number isn't below that with which an event asked the action, takes one that
-- was made in the span of what that event asked.
abbrev pub AnswersAreTakenInSpan : Saying → Type 0
AnswersAreTakenInSpan S = (M : Moment) → AnswersAreMade S M → (p : Post) (a : Asked) (r : Reply) → In p M.seen.sent →
    answers p.message ≡ Some (a, r) → (k : Asking) → list.In k M.past.askings → k.act ≡ a.act → k.first ≤ a.req →
    (h : Head) × (q : Ask) × (asked_by h ≡ a)
    × IsInSpan S k M.seen.lines (record { from = p.from; to = p.to; head = h; ask = q; reply = r })

-- nothing is said of the lines before
abbrev pub says_nothing : Saying
says_nothing a lines = ⊤

-- in every run each answer that was sent was made so
abbrev pub RunsMakeAnswers : Type 0
RunsMakeAnswers = (hd : Header) (r : Run hd) → HoldsWith hd (AnswersAreMade says_nothing) (past_of hd r) (world_by hd r)
