-- No handler says both that a call was answered and that a commit is called.
use Rattle.arj_law_parts.proofs.Words
use Words.{◌≡◌, ◌≢◌, ◌⊎◌, ℕ, List, [], ◌∷◌, Bool, true, false, Some, None, Option, ap, refl, sym, ◌∙◌, inl, inr, is_some, not}
use Words.{AllByRecursion, Asked, Body, Kind, Label, Message, Uid, Reply, answers, begin_action, end_line, At, AtActivate, AtBind, AtInvoke}
use Words.{AtLoad, AtNote, CallEnd, CallStep, Ended, Goal, Include, Run, given_up, Coord, Doing, doing_of, Disk, Effect, Intent, say_for}
use Words.{says, tick_outs, Parts, Took, handle, Input, Node, acts, parent_of}
use Words.body
use Words.message
use Words.calls
use Words.input
use Rattle.arj_law_serial.proofs.Terms.{is_act, is_for_parts, SayOf}
use Rattle.arj_law_serial.proofs.whole.CalledSays.{acts_fine, both, calls_commit, is_apart, message_fine, tick_fine}

-- the line answers a call, or an include
abbrev pub answers_call : Body → Bool
answers_call (body.Ok l x o a) = true
answers_call (body.Includes l x n) = true
answers_call b = false

-- no commit is called by the line
abbrev pub NoCommit : Body → Type 0
NoCommit b = calls_commit b ≡ false

-- no call is answered by it
abbrev pub NoAnswer : Body → Type 0
NoAnswer b = answers_call b ≡ false

pub apart_commit : (b : Body) → is_apart b ≡ false → NoCommit b
apart_commit (body.Committing l) none = absurd (cc none)
apart_commit b none = refl

pub apart_answer : (b : Body) → is_apart b ≡ false → NoAnswer b
apart_answer (body.Ok l x o a) none = absurd (cc none)
apart_answer (body.Includes l x n) none = absurd (cc none)
apart_answer b none = refl

end_commit : (x : ℕ) (g : Goal) (e : CallEnd) (l : Label) → NoCommit (end_line x g e l)
end_commit x (Run o) (calls.Answered a) l = refl
end_commit x (Include s) (calls.Answered a) l = refl
end_commit x g (calls.Included st) l = refl
end_commit x g (calls.Conflict h m n) l = refl
end_commit x g (calls.Changed n w) l = refl
end_commit x g (calls.Lost n b) l = refl

marks_commit : (l : Label) (marks : List (ℕ × ℕ)) → AllByRecursion (λ (z : ℕ × ℕ). NoCommit (body.Excluded l z.0 z.1)) marks
marks_commit l [] = tt
marks_commit l (z ∷ marks) = (refl, marks_commit l marks)

marks_answer : (l : Label) (marks : List (ℕ × ℕ)) → AllByRecursion (λ (z : ℕ × ℕ). NoAnswer (body.Excluded l z.0 z.1)) marks
marks_answer l [] = tt
marks_answer l (z ∷ marks) = (refl, marks_answer l marks)

-- who gives up answers nothing
lost_answer : (x : ℕ) (g : Goal) (l : Label) (n : ℕ) (b : Bool) (e : CallEnd) → ◌≡◌ {A = CallStep} (Ended (calls.Lost n b)) (Ended e) →
    NoAnswer (end_line x g e l)
lost_answer x g l n b (calls.Lost m c) is = refl
lost_answer x g l n b (calls.Answered a) is = absurd (cc is)
lost_answer x g l n b (calls.Included st) is = absurd (cc is)
lost_answer x g l n b (calls.Conflict h m k) is = absurd (cc is)
lost_answer x g l n b (calls.Changed m w) is = absurd (cc is)

given_answer : (x : ℕ) (g : Goal) (at : At) (e : CallEnd) → given_up at ≡ Ended e → (l : Label) → NoAnswer (end_line x g e l)
given_answer x g (AtBind avoid) e is l = lost_answer x g l 1 false e is
given_answer x g (AtLoad k s []) e is l = lost_answer x g l s false e is
given_answer x g (AtLoad k s (n ∷ ns)) e is l = absurd (cc is)
given_answer x g (AtActivate k st) e is l = lost_answer x g l k.server false e is
given_answer x g (AtNote k i) e is l = lost_answer x g l 1 false e is
given_answer x g (AtInvoke k i) e is l = lost_answer x g l k.server true e is

module _ (k : ℕ) (d : Disk) (t v : Parts) where
  -- a message calls no commit
  pub message_commits : (from : ℕ) (m : Message) (outs : List Effect) → handle k d t from m ≡ Took v outs →
      AllByRecursion (SayOf NoCommit) outs
  message_commits from m outs is = message_fine NoCommit apart_commit k d t v from m outs is
      (λ a r q s of found now waits e ends l. end_commit s.x s.goal e l) (λ a r q c of found now. marks_commit q.label _)

-- nothing that isn't for the coordinator is an answer
no_answer : (m : Message) → is_for_parts m ≡ true → (y : Asked × Reply) → answers m ≡ Some y → ⊥
no_answer (message.Acked m) is y of = absurd (cc is)
no_answer (message.Query m) is y of = absurd (cc is)
no_answer m is y of = by (answers m) is of
  where
    by : (o : Option (Asked × Reply)) → not (is_some o) ≡ true → o ≡ Some y → ⊥
    by None is of = cc of
    by (Some z) is of = cc is

-- so it answers no call
pub message_answers : (k : ℕ) (d : Disk) (t v : Parts) (from : ℕ) (m : Message) (outs : List Effect) → is_for_parts m ≡ true →
    handle k d t from m ≡ Took v outs → AllByRecursion (SayOf NoAnswer) outs
message_answers k d t v from m outs mine is = message_fine NoAnswer apart_answer k d t v from m outs is
    (λ a r q s of found now waits e ends l. absurd (no_answer m mine (a, r) of)) (λ a r q c of found now. marks_answer q.label _)

-- where an action begins none is called
pub begin_commits : (l : Label) (how : Kind) (parent : Option Label) (c : Coord) →
    AllByRecursion (SayOf NoCommit) (begin_action l how parent (parent_of parent c) c).outs
begin_commits l how parent c = (refl, tt)

-- an input calls none, or answers none
pub acts_apart : (c : Coord) (i : Input) (intents : List (Uid × Intent)) → is_act i ≡ true →
    AllByRecursion (SayOf NoCommit) (acts i intents c).outs ⊎ AllByRecursion (SayOf NoAnswer) (acts i intents c).outs
acts_apart c i intents act = by i act
  where
    plain : (j : Input) → is_act j ≡ true → ((l : Label) → j ≢ input.Commit l) → AllByRecursion (SayOf NoCommit) (acts j intents c).outs
    plain j is none = acts_fine NoCommit apart_commit (AllByRecursion (SayOf NoCommit)) (λ es all. all) c j intents
        (λ l q parent same. not_begin j l q parent is same) (λ u d s found now e ends l. end_commit s.x s.goal e l)
        (λ u d m found now. marks_commit d.label _) (λ l same. absurd (none l same))
      where
        not_begin : (j : Input) (l : Label) (q : Kind) (parent : Option Label) → is_act j ≡ true → j ≡ input.Begin l q parent → ⊥
        not_begin j l q parent is same = let no_way : false ≡ true = sym (ap is_act same) ∙ is in cc

    by : (j : Input) → is_act j ≡ true →
        AllByRecursion (SayOf NoCommit) (acts j intents c).outs ⊎ AllByRecursion (SayOf NoAnswer) (acts j intents c).outs
    by (input.Commit l) is = inr
        (acts_fine NoAnswer apart_answer (AllByRecursion (SayOf NoAnswer)) (λ es all. all) c (input.Commit l) intents (λ m q parent same.
        absurd (cc same)) (λ u d s found now e ends l. given_answer s.x s.goal s.at e ends l) (λ u d m found now. marks_answer d.label _)
        (λ m same u es all. both NoAnswer apart_answer (says u body.Committing c) es (says_answer u) all))
      where
        says_answer : (u : Uid) → AllByRecursion (SayOf NoAnswer) (says u body.Committing c)
        says_answer u = one (doing_of u c)
          where
            one : (o : Option Doing) → AllByRecursion (SayOf NoAnswer) (say_for body.Committing o)
            one None = tt
            one (Some d) = (refl, tt)
    by (input.Call l x o) is = inl (plain (input.Call l x o) is (λ m same. absurd (cc same)))
    by (input.Include l x s) is = inl (plain (input.Include l x s) is (λ m same. absurd (cc same)))
    by (input.Abort l) is = inl (plain (input.Abort l) is (λ m same. absurd (cc same)))
    by (input.GiveUp l) is = inl (plain (input.GiveUp l) is (λ m same. absurd (cc same)))
    by input.Tick is = absurd (cc is)
    by input.Restart is = absurd (cc is)
    by input.Crash is = absurd (cc is)
    by (input.Show x) is = absurd (cc is)
    by (input.Frame f from m) is = absurd (cc is)
    by (input.Begin l q p) is = absurd (cc is)

pub tick_commits : (n : Node) (t : Parts) → AllByRecursion (SayOf NoCommit) (tick_outs n t)
tick_commits n t = tick_fine NoCommit apart_commit n t
