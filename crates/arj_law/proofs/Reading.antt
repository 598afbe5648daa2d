-- A journal with more lines, as what is read of it.
use Rattle.arj_law.proofs.Terms
use Terms.{◌≡◌, ℕ, ◌+◌, List, [], ◌∷◌, ◌++◌, length, true, false, Option, Some, None, refl, ◌∙◌, ap, arith, append-nil, filter_map, Body}
use Terms.{Line, Act, Placed, acts, acts_after, acts_from, read, put, committed_of, recovered_of, said_of, committing_of, kept}
use Terms.{committed_calls, tops, top_of, arrange, serial_less, serial_calls, more}
use Terms.body
use Rattle.arj_law.proofs.Common.{never}
use Rattle.arj_law.specs.Growth.{is_quiet}

put-append : {A : Type 0} (n : ℕ) (o : Option A) (xs ys : List (Placed A)) → put n o (xs ++ ys) ≡ put n o xs ++ ys
put-append n None xs ys = refl
put-append n (Some a) xs ys = refl

-- the actions after more lines
pub acts-append : (us : List Act) (ls ks : List Line) → acts_from us (ls ++ ks) ≡ acts_from (acts_from us ls) ks
acts-append us [] ks = refl
acts-append us (l ∷ ls) ks = acts-append (acts_after us l.body) ls ks

-- what is read of the journal so far stays, and what comes is read with the actions so far
pub read-append : {A : Type 0} (f : List Act → Body → Option A) (us : List Act) (n : ℕ) (ls ks : List Line) →
    read f us n (ls ++ ks) ≡ read f us n ls ++ read f (acts_from us ls) (n + length ls) ks
read-append f us n [] ks = ap (λ m. read f us m ks) (omega arith)
read-append {A} f us n (l ∷ ls) ks =
    let e : n + 1 + length ls ≡ n + length (l ∷ ls) = omega arith in
    let ih = read-append f (acts_after us l.body) (n + 1) ls ks in
    ap (put n (f us l.body))
    (ih ∙ ap (λ m. read f (acts_after us l.body) (n + 1) ls ++ read f (acts_from (acts_after us l.body) ls) m ks) e)
    ∙ put-append n (f us l.body) (read f (acts_after us l.body) (n + 1) ls)
    (read f (acts_from (acts_after us l.body) ls) (n + length (l ∷ ls)) ks)

-- where the line says nothing of the kind, nothing changes
pub read_none : {A : Type 0} (f : List Act → Body → Option A) (lines : List Line) (line : Line) → f (acts lines) line.body ≡ None →
    read f [] 0 (more lines line) ≡ read f [] 0 lines
read_none f lines line e =
    read-append f [] 0 lines (line ∷ []) ∙ ap (λ o. read f [] 0 lines ++ put (0 + length lines) o []) e ∙ append-nil (read f [] 0 lines)

pub read_some : {A : Type 0} (f : List Act → Body → Option A) (lines : List Line) (line : Line) (a : A) → f (acts lines) line.body ≡ Some a
    → read f [] 0 (more lines line) ≡ read f [] 0 lines ++ (record { at = 0 + length lines; it = a }) ∷ []
read_some f lines line a e = read-append f [] 0 lines (line ∷ []) ∙ ap (λ o. read f [] 0 lines ++ put (0 + length lines) o []) e

-- A quiet line.
pub record IsUnread (us : List Act) (b : Body) : Type 0 where
  pub answer : said_of us b ≡ None
  pub called : committing_of us b ≡ None
  pub commit : committed_of us b ≡ None
  pub found : recovered_of us b ≡ None

quiet_unread : (us : List Act) (b : Body) → is_quiet b ≡ true → IsUnread us b
quiet_unread us (body.Ok l x op answer) e = never false e refl
quiet_unread us (body.Committing l) e = never false e refl
quiet_unread us (body.Committed l) e = never false e refl
quiet_unread us (body.Recovered n u) e = never false e refl
quiet_unread us b e = record { answer = refl; called = refl; commit = refl; found = refl }

pub quiet_calls : (lines : List Line) (line : Line) → is_quiet line.body ≡ true → committed_calls (more lines line) ≡ committed_calls lines
quiet_calls lines line e =
    let u = quiet_unread (acts lines) line.body e in
    (λ i. filter_map (kept (read_none committed_of lines line u.commit i) (read_none recovered_of lines line u.found i))
    (read_none said_of lines line u.answer i))

pub quiet_tops : (lines : List Line) (line : Line) → is_quiet line.body ≡ true → tops (more lines line) ≡ tops lines
quiet_tops lines line e =
    let u = quiet_unread (acts lines) line.body e in
    (λ i. filter_map (top_of (read_none committed_of lines line u.commit i) (read_none recovered_of lines line u.found i))
    (read_none committing_of lines line u.called i))

pub quiet_serial : (lines : List Line) (line : Line) → is_quiet line.body ≡ true → serial_calls (more lines line) ≡ serial_calls lines
quiet_serial lines line e = (λ i. arrange (serial_less (quiet_tops lines line e i)) (quiet_calls lines line e i))
