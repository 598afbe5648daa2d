-- One event: what laws say of its lines one by one makes what it may write (`Step` of `arj_model`).
use Rattle.arj_law_parts.proofs.Words
use Words.{◌≡◌, ◌⊎◌, ◌∙◌, ◌+◌, ◌==◌, ◌&&◌, ◌++◌, inl, inr, ⊎_elim, ℕ, Bool, true, false, List, [], ◌∷◌, Option, Some, None, refl, sym, ap, subst}
use Words.{append-nil, append_assoc, and_parts, eqb-true, list_all, AllByRecursion, Body, Event, Header, Label, Line, name}
use Words.body
use Words.cause
use Words.event
use Rattle.std.specs.Prelude.{MatchOption}
use Rattle.arj_journal.specs.declared.body.Cause.{Cause}
use Rattle.arj_model.specs.Actions.{Act, act_in, acts}
use Rattle.arj_model.specs.Follows.{Accepted, AnswerFits, AnswersFit, IsRefusedDoomed, Step, is_limited}
use Rattle.arj_model.specs.Own.{Begins, BeginsCommit, commit_line, may_stand}
use Rattle.arj_model.specs.Past.{Asked, Past, asked_of, block, is_refused}
use Rattle.arj_model.specs.Refusals.{refusal}
use Rattle.arj_start.specs.Kinds.{is_serial}
use Rattle.arj_start.specs.Start.{Start}
use Rattle.arj_law_cause.specs.follow.causes.Refusals.{doomed}
use Rattle.arj_law_cause.specs.follow.lines.Lines.{BeginsCommitSo, BeginsSo, HasLines, LinesStep, NetFits, is_of_net, may_stand_or_lose}
use Rattle.arj_law_cause.specs.operations.Runs.{AnswersIt}
use Rattle.arj_law_cause.specs.waits.commits.Commits.{CommitsFit, CommitsFitIn, CommitsStep, calls_commit, ends_commit}
use Rattle.arj_law_cause.specs.waits.doomed.Dooms.{DoomsStep, IsToldDoomed}
use Rattle.arj_law_cause.specs.waits.lost.Lost.{LostStep, is_lost}
use Rattle.arj_law_cause.specs.waits.lowest.Refusals.{RefusalsStep}
use Rattle.arj_law_cause.specs.waits.replies.Ends.{EndWaits, EndsWait, RepliesStep}

-- ---- fronts and backs of lists

pub front_all : {A : Type 0} (P : A → Type 0) (xs ys : List A) → AllByRecursion P (xs ++ ys) → AllByRecursion P xs
front_all P [] ys all = tt
front_all P (x ∷ xs) ys all = (all.0, front_all P xs ys all.1)

pub back_all : {A : Type 0} (P : A → Type 0) (xs ys : List A) → AllByRecursion P (xs ++ ys) → AllByRecursion P ys
back_all P [] ys all = all
back_all P (x ∷ xs) ys all = back_all P xs ys all.1

-- what stands between the first and the last lines
middle_all : (P : Body → Type 0) (own others last : List Body) → AllByRecursion P (own ++ (others ++ last)) → AllByRecursion P others
middle_all P own others last all = front_all P others last (back_all P own (others ++ last) all)

module _ (acc : List Asked) (n : ℕ) where
  waits_behind : (lines : List Line) (own rest : List Body) → EndWaits acc lines n (own ++ rest) → EndWaits acc (lines ++ block n own) n rest
  waits_behind lines [] rest h = subst (λ ls. EndWaits acc ls n rest) (sym (append-nil lines)) h
  waits_behind lines (b ∷ own) rest h =
      subst (λ ls. EndWaits acc ls n rest) (append_assoc lines (block n (b ∷ [])) (block n own))
      (waits_behind (lines ++ block n (b ∷ [])) own rest h.1)

  waits_front : (lines : List Line) (bs last : List Body) → EndWaits acc lines n (bs ++ last) → EndWaits acc lines n bs
  waits_front lines [] last h = tt
  waits_front lines (b ∷ bs) last h = (h.0, waits_front (lines ++ block n (b ∷ [])) bs last h.1)

module _ (st : Start) (acc : List Asked) (n : ℕ) where
  commits_behind : (lines : List Line) (own rest : List Body) → CommitsFit st acc lines n (own ++ rest) →
      CommitsFit st acc (lines ++ block n own) n rest
  commits_behind lines [] rest h = subst (λ ls. CommitsFit st acc ls n rest) (sym (append-nil lines)) h
  commits_behind lines (b ∷ own) rest h =
      subst (λ ls. CommitsFit st acc ls n rest) (append_assoc lines (block n (b ∷ [])) (block n own))
      (commits_behind (lines ++ block n (b ∷ [])) own rest h.1)

  commits_front : (lines : List Line) (bs last : List Body) → CommitsFit st acc lines n (bs ++ last) → CommitsFit st acc lines n bs
  commits_front lines [] last h = tt
  commits_front lines (b ∷ bs) last h = (h.0, commits_front (lines ++ block n (b ∷ [])) bs last h.1)

  -- where a commit's own line is left out, that is its only own line
  behind_own : (lines : List Line) (own rest : List Body) (b : Bool) → (b ≡ true → (x : Body) × (own ≡ x ∷ [])) →
      CommitsFitIn b st acc lines n (own ++ rest) → CommitsFit st acc (lines ++ block n own) n rest
  behind_own lines own rest false one h = commits_behind lines own rest h
  behind_own lines own rest true one h =
      let o = one refl in
      subst (λ xs. CommitsFit st acc (lines ++ block n xs) n rest) (sym o.1)
      (subst (λ xs. CommitsFitIn true st acc lines n (xs ++ rest)) o.1 h)

one_own : (hd : Header) (p : Past) (e : Event) (own : List Body) → calls_commit e ≡ true → BeginsSo hd p e own →
    (x : Body) × (own ≡ x ∷ [])
one_own hd p (event.Commit l) own is begins = by (act_in (acts p.lines) (name l)) begins
  where
    by : (o : Option Act) → BeginsCommitSo l o own → (x : Body) × (own ≡ x ∷ [])
    by None h = absurd h
    by (Some a) h = ⊎_elim (λ k. (commit_line a.kind l, k)) (λ k. (body.Aborted l cause.Doomed, k)) h
one_own hd p e own is begins = absurd (cc is)

-- a commit says that its action is doomed where the journal dooms it
begun : (hd : Header) (p : Past) (e : Event) (own : List Body) → BeginsSo hd p e own →
    ((l : Label) → e ≡ event.Commit l → own ≡ body.Aborted l cause.Doomed ∷ [] → IsToldDoomed p (name l)) → Begins hd p e own
begun hd p (event.Commit l) own begins dooms = by (act_in (acts p.lines) (name l)) refl begins
  where
    same_kind : (a : Act) (t : IsToldDoomed p (name l)) → act_in (acts p.lines) (name l) ≡ Some a → is_serial a.kind ≡ false
    same_kind a t is =
        let one : ◌≡◌ {A = Option Act} (Some a) (Some t.act) = sym is ∙ t.named in
        let same : a ≡ t.act = cc one in
        ap (λ (x : Act). is_serial x.kind) same ∙ t.plain

    by : (o : Option Act) → act_in (acts p.lines) (name l) ≡ o → BeginsCommitSo l o own → BeginsCommit p l o own
    by None is h = absurd h
    by (Some a) is h = ⊎_elim (λ k. inl k) (λ k. let t = dooms l refl k in inr (k, same_kind a t is, t.lost)) h
begun hd p e own begins dooms = begins

-- ---- a line

-- what is lost stands where it may
stands : (e : Event) (b : Body) → may_stand_or_lose e b ≡ true → (is_lost b ≡ true → may_stand e b ≡ true) → may_stand e b ≡ true
stands e (body.Lost l n) any lost = lost refl
stands e b any lost = any

all_stand : (e : Event) (bs : List Body) → list_all (may_stand_or_lose e) bs ≡ true →
    AllByRecursion (λ (b : Body). is_lost b ≡ true → may_stand e b ≡ true) bs → list_all (may_stand e) bs ≡ true
all_stand e [] any lost = refl
all_stand e (b ∷ bs) any lost =
    let q = and_parts (may_stand_or_lose e b) (list_all (may_stand_or_lose e) bs) any in
    (λ i. stands e b q.0 lost.0 i && all_stand e bs q.1 lost.1 i)

-- an abort that was asked for stands between no lines, nor one of a doomed action
none_asked : (e : Event) (l : Label) → may_stand e (body.Aborted l cause.Asked) ≡ true → ⊥
none_asked event.Settle l may = cc may
none_asked e l may = cc may

none_doomed : (e : Event) (l : Label) → may_stand e (body.Aborted l cause.Doomed) ≡ true → ⊥
none_doomed event.Settle l may = cc may
none_doomed e l may = cc may

module _ (e : Event) (st : Start) (acc : List Asked) where
  ended : (lines : List Line) (l : Label) (c : Cause) → may_stand e (body.Aborted l c) ≡ true →
      (ends_commit (body.Aborted l c) ≡ true → AnswerFits st acc lines (body.Aborted l c)) → AnswerFits st acc lines (body.Aborted l c)
  ended lines l cause.Asked may commits = absurd (none_asked e l may)
  ended lines l cause.Doomed may commits = absurd (none_doomed e l may)
  ended lines l c may commits = commits refl

  one_fits : (lines behind : List Line) (b : Body) → may_stand e b ≡ true → EndsWait acc lines behind b →
      (ends_commit b ≡ true → AnswerFits st acc lines b) → (is_of_net b ≡ true → AnswerFits st acc lines b) → AnswersIt b →
      AnswerFits st acc lines b
  one_fits lines behind (body.Ok l x op answer) may waits commits net its = (waits.0, its)
  one_fits lines behind (body.Includes l x n) may waits commits net its = waits.0
  one_fits lines behind (body.Conflict l holder mode n) may waits commits net its = waits.0
  one_fits lines behind (body.Lost l n) may waits commits net its = waits.0
  one_fits lines behind (body.Changed l n d) may waits commits net its = waits.0
  one_fits lines behind (body.Committed l) may waits commits net its = commits refl
  one_fits lines behind (body.Aborted l c) may waits commits net its = ended lines l c may commits
  one_fits lines behind (body.Halted n) may waits commits net its = net refl
  one_fits lines behind (body.Sent k from to carried) may waits commits net its = net refl
  one_fits lines behind (body.Got k) may waits commits net its = net refl
  one_fits lines behind (body.Void k) may waits commits net its = net refl
  one_fits lines behind b may waits commits net its = tt

  all_fit : (n : ℕ) (lines : List Line) (bs : List Body) → list_all (may_stand e) bs ≡ true → EndWaits acc lines n bs →
      CommitsFit st acc lines n bs → NetFits st acc lines n bs → AllByRecursion AnswersIt bs → AnswersFit st acc lines n bs
  all_fit n lines [] may waits commits net its = tt
  all_fit n lines (b ∷ bs) may waits commits net its =
      let q = and_parts (may_stand e b) (list_all (may_stand e) bs) may in (
        one_fits lines (lines ++ block n (b ∷ [])) b q.0 waits.0 commits.0 net.0 its.0,
        all_fit n (lines ++ block n (b ∷ [])) bs q.1 waits.1 commits.1 net.1 its.1,
      )

-- ---- an event

two_lines : (b c : Body) (bs : List Body) → is_refused (b ∷ c ∷ bs) ≡ false
two_lines (body.Refused k) c bs = refl
two_lines b c bs = refl

one_refused : (bodies : List Body) → is_refused bodies ≡ true → (c : ℕ) × (bodies ≡ body.Refused c ∷ [])
one_refused [] is = absurd (cc is)
one_refused (body.Refused c ∷ []) is = (c, refl)
one_refused (b ∷ []) is = absurd (cc is)
one_refused (b ∷ c ∷ bs) is = let no_way : true ≡ false = sym is ∙ two_lines b c bs in absurd (cc no_way)

module _ (hd : Header) (p : Past) (e : Event) (bodies : List Body) (replies : RepliesStep hd p e bodies) (commits : CommitsStep hd p e bodies)
    (lost : LostStep hd p e bodies) (its : AllByRecursion AnswersIt bodies) (dooms : DoomsStep hd p e bodies) where
  abbrev n : ℕ
  n = p.count + 1

  abbrev acc : List Asked
  acc = p.accepted ++ asked_of p e ∷ []

  accepted : HasLines hd p e bodies → Accepted hd p e bodies
  accepted h =
      let may : list_all (may_stand e) h.others ≡ true = all_stand e h.others h.only
      (middle_all (λ (b : Body). is_lost b ≡ true → may_stand e b ≡ true) h.own h.others h.last
      (subst (AllByRecursion (λ (b : Body). is_lost b ≡ true → may_stand e b ≡ true)) h.parts lost)) in record {
        own = h.own;
        others = h.others;
        last = h.last;
        parts = h.parts;
        begins = begun hd p e h.own h.begins (λ l is k. dooms.aborted l (h.others ++ h.last) is
            (h.parts ∙ ap (λ own. own ++ (h.others ++ h.last)) k));
        ends = h.ends;
        only = may;
        halts = h.halts;
        answers = all_fit e p.start acc n (p.lines ++ block n h.own) h.others may
            (waits_front acc n (p.lines ++ block n h.own) h.others h.last
            (waits_behind acc n p.lines h.own (h.others ++ h.last) (subst (EndWaits acc p.lines n) h.parts replies)))
            (commits_front p.start acc n (p.lines ++ block n h.own) h.others h.last
            (behind_own p.start acc n p.lines h.own (h.others ++ h.last) (calls_commit e) (λ is. one_own hd p e h.own is h.begins)
            (subst (CommitsFitIn (calls_commit e) p.start acc p.lines n) h.parts commits)))
            h.net (middle_all AnswersIt h.own h.others h.last (subst (AllByRecursion AnswersIt) h.parts its));
      }

  abbrev Writes : Option ℕ → Type 0
  Writes o = MatchOption o (Accepted hd p e bodies) (λ c. bodies ≡ body.Refused c ∷ [])

  abbrev MayWrite : Type 0
  MayWrite = Writes (refusal hd p e) ⊎ IsRefusedDoomed hd p e bodies

  -- the lines of an event that isn't refused, which has no cause then
  free : LinesStep hd p e bodies → RefusalsStep hd p e bodies → is_refused bodies ≡ false → (o : Option ℕ) → refusal hd p e ≡ o → Writes o
  free l r off None is = accepted (l.lines off)
  free l r off (Some c) is =
      ⊎_elim (λ line. let no_way : true ≡ false = sym (ap is_refused line) ∙ off in absurd (cc no_way))
      (λ line. let no_way : true ≡ false = sym (ap is_refused line) ∙ off in absurd (cc no_way)) (r.lowest c is)

  -- the line of one that is
  refused : RefusalsStep hd p e bodies → (c : ℕ) → bodies ≡ body.Refused c ∷ [] → (b : Bool) → (c == doomed) ≡ b → MayWrite
  refused r c line true same =
      let twelve : bodies ≡ body.Refused doomed ∷ [] = line ∙ ap (λ k. body.Refused k ∷ []) (eqb-true c doomed same) in
      let d = dooms.refused twelve in
      inr (record { label = d.0; about = d.1; lost = (let t = d.2 in t.lost); lowest = r.behind twelve; line = twelve })
  refused r c line false off = inl (subst Writes (sym (r.refused c line off)) line)

  lines_of : LinesStep hd p e bodies → RefusalsStep hd p e bodies → (b : Bool) → is_refused bodies ≡ b → MayWrite
  lines_of l r true is = let one = one_refused bodies is in refused r one.0 one.1 (one.0 == doomed) refl
  lines_of l r false off = inl (free l r off (refusal hd p e) refl)

  pub assembled : is_limited p.lines ≡ false → LinesStep hd p e bodies → RefusalsStep hd p e bodies → Step hd p e bodies
  assembled going l r = record { goes_on = going; lines = lines_of l r (is_refused bodies) refl }
