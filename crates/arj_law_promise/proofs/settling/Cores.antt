-- What holds in every run of tops that stores have prepared something for, so that each abort of a decided one has a cause.
use Rattle.arj_law_parts.proofs.Words
use Words.{◌≡◌, ◌⊎◌, ◌∙◌, ◌++◌, ℕ, List, [], ◌∷◌, true, Some, refl, sym, ap, subst, inl, inr, ⊎_elim, ⊤, Contains, is_on, Line, End, Uid}
use Words.{last_end, Confirming, Machine, Preparing, Voting, Intent, is_prepared, Parts, at_uid, has, Node, Post, Seen}
use Words.ending
use Words.message
use Rattle.arj_law_promise.proofs.Terms
use Terms.{IsCommitting, told_by, In, is_awaited_by, book, is_decided, AreAt, was_excluded}
use Terms.body
use Terms.role
use Rattle.arj_law_promise.proofs.settling
use settling.Causes.{HasCause, cause_more, excluded_more}
use settling.Yeses.{AskedFrom, IsMarked, SaidYes, Votes}

-- ---- what stands of a top at a store

-- its coordinator asked the node's store to prepare
abbrev pub IsAsked : Seen → Uid → ℕ → Type 0
IsAsked M u n = AskedFrom u.node M.sent u n

-- its record is on its node's disk
abbrev pub Recorded : Seen → Uid → Type 0
Recorded M u = (a : Node) × (i : Intent) × (M.nodes u.node ≡ Some a) × (at_uid u (let d = a.disk in d.intents) ≡ Some i)

-- it is decided, by the journal or by its record
abbrev pub IsDone : Seen → Uid → Type 0
IsDone M u = (is_decided (book M.lines) u ≡ true) ⊎ Recorded M u

-- the record lists the node
abbrev pub Lists : Seen → Uid → ℕ → Type 0
Lists M u n =
    (a : Node) × (i : Intent) × (M.nodes u.node ≡ Some a) × (at_uid u (let d = a.disk in d.intents) ≡ Some i) × (has i.nodes n ≡ true)

-- the node's store has something prepared for it
abbrev pub IsHeld : Seen → ℕ → Uid → Type 0
IsHeld M n u = (a : Node) × (M.nodes n ≡ Some a) × (is_prepared u (let d = a.disk in d.store) ≡ true)

-- it is prepared and its record lists the node, or an abort has a cause
abbrev pub IsSafe : Seen → Uid → ℕ → Type 0
IsSafe M u n = (IsHeld M n u × Lists M u n) ⊎ HasCause M.lines n u

-- the node has acknowledged its end
abbrev pub IsAcked : List Post → ℕ → Uid → Type 0
IsAcked sent n u = (p : Post) × In p sent × (p.from ≡ n) × (p.message ≡ message.Acked (record { act = u }))

-- the node was told that it was aborted
abbrev pub TellsAbort : List Post → Uid → ℕ → Type 0
TellsAbort sent u n = (p : Post) × In p sent × (p.to ≡ n) × (last_end (told_by p.message) ≡ Some (u, ending.Abort))

-- some node was told of its end
abbrev pub WasTold : List Post → Uid → Type 0
WasTold sent u = (p : Post) × In p sent × (e : End) × Contains (told_by p.message) (u, e)

-- a store's abort in these lines has a cause, behind those
abbrev pub AreCaused : List Line → List Line → Type 0
AreCaused first lines = (before : List Line) (line : Line) (behind : List Line) (n : ℕ) (u : Uid) → lines ≡ before ++ line ∷ behind →
    line.body ≡ body.Done n u role.Store ending.Abort → is_decided (book (first ++ before)) u ≡ true → HasCause (first ++ before) n u

-- no store is marked while the servers vote; and marked stores of a commit that naming is asked to confirm have their lines
abbrev pub HasMarks : List Line → Uid → Machine → Type 0
HasMarks lines u (Voting p left) = (n : ℕ) → IsMarked p n → ⊥
HasMarks lines u (Preparing p left) = ⊤
HasMarks lines u (Confirming p) = (n : ℕ) → IsMarked p n → was_excluded lines n u ≡ true

pub marks_on : (lines more : List Line) (u : Uid) (m : Machine) → HasMarks lines u m → HasMarks (lines ++ more) u m
marks_on lines more u (Voting p left) has = has
marks_on lines more u (Preparing p left) has = tt
marks_on lines more u (Confirming p) has = λ n marked. excluded_more lines more n u (has n marked)

-- a coordinator: marked stores of a commit that naming is asked to confirm have their lines; who is at its commit and was answered Yes has
-- something prepared there; of each commit what it has heard; and each node of a record is awaited or has acknowledged
pub record IsWatched (M : Seen) (k : ℕ) (a : Node) (t : Parts) : Type 0 where
  pub marked : AreAt (HasMarks M.lines) t.coord
  pub held : (u : Uid) (n : ℕ) → u.node ≡ k → IsCommitting u t.coord → SaidYes M.sent n u → IsHeld M n u
  pub votes : AreAt (Votes k M.sent) t.coord
  pub telling : (u : Uid) (i : Intent) (n : ℕ) → at_uid u (let d = a.disk in d.intents) ≡ Some i → has i.nodes n ≡ true →
      (is_awaited_by n (at_uid u t.coord.telling) ≡ true) ⊎ IsAcked M.sent n u

pub record IsCore (M : Seen) : Type 0 where
  pub done : (u : Uid) (n : ℕ) → IsDone M u → IsAsked M u n → IsSafe M u n
  pub acked : (u : Uid) (n : ℕ) → IsAcked M.sent n u → IsDone M u → IsAsked M u n → HasCause M.lines n u
  pub told : (u : Uid) (n : ℕ) → TellsAbort M.sent u n → IsAsked M u n → Lists M u n → ⊥
  pub held : (u : Uid) (n : ℕ) → IsHeld M n u → IsAsked M u n
  pub yeses : (u : Uid) (n : ℕ) → SaidYes M.sent n u → IsAsked M u n
  pub ends : (u : Uid) (n : ℕ) → IsAcked M.sent n u → WasTold M.sent u
  pub called : (u : Uid) (n : ℕ) → IsAsked M u n → is_on (let B = book M.lines in B.called) u ≡ true
  pub lines : AreCaused [] M.lines
  pub coords : (k : ℕ) (a : Node) (t : Parts) → M.nodes k ≡ Some a → a.live ≡ Some t → IsWatched M k a t

-- ---- from one moment to another

-- What has to be shown of a step so that it goes on.
pub record Onward (M N : Seen) : Type 0 where
  pub more : List Line
  pub lines : N.lines ≡ M.lines ++ more
  pub sent : (p : Post) → In p M.sent → In p N.sent
  pub called : (u : Uid) → is_on (let B = book M.lines in B.called) u ≡ true → is_on (let B = book N.lines in B.called) u ≡ true
  pub done : (u : Uid) (n : ℕ) → IsDone N u → IsAsked M u n → IsDone M u ⊎ (IsSafe N u n × (IsAcked M.sent n u → ⊥))
  pub safe : (u : Uid) (n : ℕ) → IsDone M u → IsAsked M u n → IsSafe M u n → IsSafe N u n
  pub asked : (u : Uid) (n : ℕ) → IsAsked N u n → IsAsked M u n ⊎ ((IsDone N u → ⊥) × (is_on (let B = book N.lines in B.called) u ≡ true))
  pub acked : (u : Uid) (n : ℕ) → IsAcked N.sent n u →
      IsAcked M.sent n u ⊎ ((IsDone N u → IsAsked N u n → HasCause N.lines n u) × WasTold N.sent u)
  pub tells : (u : Uid) (n : ℕ) → TellsAbort N.sent u n → IsAsked M u n → Lists N u n → TellsAbort M.sent u n × Lists M u n
  pub held : (u : Uid) (n : ℕ) → IsHeld N n u → IsHeld M n u ⊎ IsAsked M u n
  pub yeses : (u : Uid) (n : ℕ) → SaidYes N.sent n u → SaidYes M.sent n u ⊎ IsAsked M u n
  pub clean : AreCaused M.lines more
  pub coords : (k : ℕ) (a : Node) (t : Parts) → N.nodes k ≡ Some a → a.live ≡ Some t → IsWatched N k a t

asked_on : (M N : Seen) → ((p : Post) → In p M.sent → In p N.sent) → (u : Uid) (n : ℕ) → IsAsked M u n → IsAsked N u n
asked_on M N sent u n (p, i, from, to, h, states, is, act) = (p, sent p i, from, to, h, states, is, act)

listed : (M : Seen) (u : Uid) (n : ℕ) → Lists M u n → IsDone M u
listed M u n l = inr (l.0, l.1, l.2, l.3)

-- a line stands in the first lines, or in those behind them
pub split : (xs ys before : List Line) (line : Line) (behind : List Line) → xs ++ ys ≡ before ++ line ∷ behind →
    ((rest : List Line) × (xs ≡ before ++ line ∷ rest)) ⊎ ((rest : List Line) × (before ≡ xs ++ rest) × (ys ≡ rest ++ line ∷ behind))
split [] ys before line behind is = inr (before, refl, is)
split (x ∷ xs) ys [] line behind is = let one : x ≡ line = cc is in inl (xs, ap (λ z. z ∷ xs) one)
split (x ∷ xs) ys (b ∷ before) line behind is =
    let one : x ≡ b = cc is in
    let rest : xs ++ ys ≡ before ++ line ∷ behind = cc is in
    ⊎_elim (λ f. inl (f.0, (λ i. one i ∷ f.1 i))) (λ s. inr (s.0, (λ i. sym one i ∷ s.1 i), s.2)) (split xs ys before line behind rest)

pub core_on : (M N : Seen) → IsCore M → Onward M N → IsCore N
core_on M N c o = record {
  done = λ u n done asked. ⊎_elim (λ old. ⊎_elim (λ was. o.safe u n was old (c.done u n was old)) (λ now. now.0) (o.done u n done old))
      (λ new. absurd (new.0 done)) (o.asked u n asked);
  acked = λ u n acked done asked. ⊎_elim
      (λ old. ⊎_elim
      (λ first. ⊎_elim (λ was. subst (λ ls. HasCause ls n u) (sym o.lines) (cause_more M.lines o.more n u (c.acked u n old was first)))
      (λ now. absurd (now.1 old)) (o.done u n done first))
      (λ new. absurd (new.0 done)) (o.asked u n asked))
      (λ new. new.0 done asked) (o.acked u n acked);
  told = λ u n tells asked lists. ⊎_elim (λ old. let t = o.tells u n tells old lists in
      c.told u n t.0 old t.1) (λ new. new.0 (listed N u n lists)) (o.asked u n asked);
  held = λ u n held. asked_on M N o.sent u n (⊎_elim (λ old. c.held u n old) (λ new. new) (o.held u n held));
  yeses = λ u n yes_said. asked_on M N o.sent u n (⊎_elim (λ old. c.yeses u n old) (λ new. new) (o.yeses u n yes_said));
  ends = λ u n acked. ⊎_elim (λ old. let w = c.ends u n old in (w.0, o.sent w.0 w.1, w.2, w.3)) (λ new. new.1) (o.acked u n acked);
  called = λ u n asked. ⊎_elim (λ old. o.called u (c.called u n old)) (λ new. new.1) (o.asked u n asked);
  lines = λ before line behind n u is says decided. ⊎_elim
      (λ f. c.lines before line f.0 n u f.1 says decided)
      (λ s. subst (λ ls. HasCause ls n u) (sym s.1)
      (o.clean s.0 line behind n u s.2 says (subst (λ ls. is_decided (book ls) u ≡ true) s.1 decided)))
      (split M.lines o.more before line behind (sym o.lines ∙ is));
  coords = o.coords;
}
