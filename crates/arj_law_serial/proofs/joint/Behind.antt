-- What is committed anywhere was decided before, by a journal whose lines are right.
use Rattle.arj_law_parts.proofs.Words
use Words.{◌≡◌, ◌&&◌, ◌||◌, List, [], ◌∷◌, ◌++◌, Bool, true, false, refl, sym, ◌∙◌, ap, inl, inr, append_assoc, list_any, uid_same, uid_eq}
use Words.{End, Uid, Body, Line, In, in_from, each_behind}
use Rattle.arj_law_serial.proofs.Terms
use Terms.{Act, acts, committed, is_committed, recovered, IsCommittedIn, IsSound, is_said}
use Terms.ending
use Terms.body
use Rattle.arj_law_runs.specs.journal.Laws.{IsCaused}
use Rattle.arj_model.specs.Outcome.{is_behind_decision}
use Rattle.arj_promise.specs.Outcome.{commits_are_behind}

pub both : (a b : Bool) → a ≡ true → b ≡ true → (a && b) ≡ true
both a b e f = λ i. e i && f i

pub any_in : (p : Act → Bool) (xs : List Act) (x : Act) → In x xs → p x ≡ true → list_any p xs ≡ true
any_in p [] x i e = absurd i
any_in p (y ∷ ys) x (inl is) e = ap (λ b. b || list_any p ys) (ap p is ∙ e)
any_in p (y ∷ ys) x (inr i) e = by (p y) (any_in p ys x i e)
  where
    by : (b : Bool) → list_any p ys ≡ true → (b || list_any p ys) ≡ true
    by true f = refl
    by false f = f

pub said_so : (lines : List Line) (u : Uid) → IsCommittedIn lines u → is_said lines u ≡ true
said_so lines u (a, there, is, done) = any_in (λ (b : Act). uid_eq b.uid u && is_committed (committed lines) (recovered lines) b)
    (acts lines) a (in_from a (acts lines) there) (both (uid_eq a.uid u) _ (ap (uid_eq a.uid) (sym is) ∙ uid_same a.uid) done)

module _ (test : List Line → Body → Bool) (all : List Line) (each : (before : List Line) (line : Line) (behind : List Line) →
    all ≡ before ++ line ∷ behind → test before line.body ≡ true) where
  pub each_from : (before lines : List Line) → all ≡ before ++ lines → each_behind test before lines ≡ true
  each_from before [] e = refl
  each_from before (line ∷ lines) e = both (test before line.body) (each_behind test (before ++ line ∷ []) lines) (each before line lines e)
      (each_from (before ++ line ∷ []) lines (e ∙ sym (append_assoc before (line ∷ []) lines)))

behind : (before : List Line) (b : Body) → IsCaused before b → is_behind_decision before b ≡ true
behind before (body.Done n u r e) c = by e c
  where
    by : (e : End) → IsCaused before (body.Done n u r e) → is_behind_decision before (body.Done n u r e) ≡ true
    by ending.Commit c = said_so before u c
    by ending.Abort c = refl
behind before b c = refl

pub right_commits : (lines : List Line) → IsSound lines → commits_are_behind lines ≡ true
right_commits lines s =
    each_from is_behind_decision lines (λ before line rest e. behind before line.body (s.causes before line rest e)) [] lines refl
