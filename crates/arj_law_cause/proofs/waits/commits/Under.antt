-- A commit that is under way by the journal: from its call on, behind lines of what it excludes or gives up.
use Rattle.arj_law.proofs.Reading.{read_none}
use Rattle.arj_law_parts.proofs.Words
use Words.{◌≡◌, ◌∙◌, ◌==◌, ◌+◌, ◌++◌, ◌&&◌, ◌||◌, not, ℕ, Bool, true, false, List, [], ◌∷◌, Option, Some, None, refl, ap, arith}
use Words.{Body, Label, Line, name}
use Words.body
use Rattle.arj_law_runs.proofs.Terms.{Act, Placed, act_in, acts, acts_after, acts_from, path, put, read, top_in, is_top, AreFormed}
use Rattle.arj_law_runs.proofs.journal.Owners.{acts_more}
use Rattle.arj_model.specs.Actions.{begun_of, ended_of, halt_of, has_end, is_halted, is_over, numbered as numbered_acts}
use Rattle.arj_model.specs.Calls.{committing_of, committings}
use Rattle.arj_model.specs.Past.{block}
use Rattle.arj_model.specs.Refusals.{holds_of, is_committing, was_called}
use Rattle.arj_law_cause.proofs.waits.waiting.Called.{top_path}

-- the line says what a commit excludes, or that its action gave up a node
abbrev pub is_front_line : Body → Bool
is_front_line (body.Excluded l x n) = true
is_front_line (body.GaveUp l n) = true
is_front_line b = false

-- by this line no action begins, none ends, and no node halts
record IsMild (b : Body) : Type 0 where
  begun : begun_of b ≡ None
  ended : (xs : List Act) → ended_of xs b ≡ None
  halt : (xs : List Act) → halt_of xs b ≡ None

front_mild : (b : Body) → is_front_line b ≡ true → IsMild b
front_mild (body.Excluded l x n) is = record { begun = refl; ended = λ xs. refl; halt = λ xs. refl }
front_mild (body.GaveUp l n) is = record { begun = refl; ended = λ xs. refl; halt = λ xs. refl }
front_mild b is = absurd (cc is)

front_calls : (b : Body) → is_front_line b ≡ true → (xs : List Act) → committing_of xs b ≡ None
front_calls (body.Excluded l x n) is xs = refl
front_calls (body.GaveUp l n) is xs = refl
front_calls b is xs = absurd (cc is)

module _ (l : Line) (mild : IsMild l.body) (ls : List Line) where
  acts_stay : acts (ls ++ l ∷ []) ≡ acts ls
  acts_stay = acts_more [] ls (l ∷ []) ∙ ap (numbered_acts (acts ls)) mild.begun

  over_stays : (a : Act) → is_over (ls ++ l ∷ []) a ≡ is_over ls a
  over_stays a = λ i. has_end (read_none ended_of ls l (mild.ended (acts ls)) i) a.id || is_halted (read_none halt_of ls l (mild.halt (acts ls)) i) a

-- whatever a commit excludes or gives up, it is under way still
pub front_stays : (n : ℕ) (b : Body) → is_front_line b ≡ true → (ls : List Line) (m : List ℕ) →
    is_committing (ls ++ block n (b ∷ [])) m ≡ is_committing ls m
front_stays n b is ls m =
    (λ i. holds_of (λ a. was_called (committings (ls ++ line ∷ [])) a.id && not (is_over (ls ++ line ∷ []) a))
    (act_in (acts_stay line mild ls i) m)) ∙ by (act_in (acts ls) m)
  where
    line : Line
    line = record { event = n; body = b }

    mild : IsMild b
    mild = front_mild b is

    by : (o : Option Act) → holds_of (λ a. was_called (committings (ls ++ line ∷ [])) a.id && not (is_over (ls ++ line ∷ []) a)) o
        ≡ holds_of (λ a. was_called (committings ls) a.id && not (is_over ls a)) o
    by None = refl
    by (Some a) = λ i. was_called (read_none committing_of ls line (front_calls b is (acts ls)) i) a.id && not (over_stays line mild ls a i)

-- ---- a commit is called

any_put : (id n : ℕ) (o : Option (List Act)) (rest : List (Placed (List Act))) → was_called rest id ≡ true →
    was_called (put n o rest) id ≡ true
any_put id n None rest is = is
any_put id n (Some p) rest is = or_more (holds_of (λ top. top.id == id) (top_in p)) is
  where
    or_more : (b : Bool) → was_called rest id ≡ true → (b || was_called rest id) ≡ true
    or_more true more = refl
    or_more false more = more

called_last : (l : Label) (id e : ℕ) (xs : List Act) (n : ℕ) (ls : List Line) →
    holds_of (λ top. top.id == id) (top_in (path (acts_from xs ls) (name l))) ≡ true →
    was_called (read committing_of xs n (ls ++ record { event = e; body = body.Committing l } ∷ [])) id ≡ true
called_last l id e xs n [] is = λ i. is i || false
called_last l id e xs n (x ∷ ls) is = any_put id n (committing_of xs x.body)
    (read committing_of (acts_after xs x.body) (n + 1) (ls ++ record { event = e; body = body.Committing l } ∷ []))
    (called_last l id e (acts_after xs x.body) (n + 1) ls is)

same_id : (n : ℕ) → (n == n) ≡ true
same_id n = grind arith

-- behind the line that calls the commit of an open top it is under way
pub called_now : (ls : List Line) (n : ℕ) (l : Label) (a : Act) → AreFormed (acts ls) → act_in (acts ls) (name l) ≡ Some a →
    is_top a.kind ≡ true → is_over ls a ≡ false → is_committing (ls ++ block n (body.Committing l ∷ [])) (name l) ≡ true
called_now ls n l a formed named top opened =
    let line : Line = record { event = n; body = body.Committing l } in
    let mild : IsMild (body.Committing l) = record { begun = refl; ended = λ xs. refl; halt = λ xs. refl } in
    let own : holds_of (λ (t : Act). t.id == a.id) (top_in (path (acts ls) (name l))) ≡ true =
    ap (holds_of (λ (t : Act). t.id == a.id)) (top_path (acts ls) (name l) a formed named top) ∙ same_id a.id in
    ap (holds_of (λ b. was_called (committings (ls ++ line ∷ [])) b.id && not (is_over (ls ++ line ∷ []) b)))
    (ap (λ xs. act_in xs (name l)) (acts_stay line mild ls) ∙ named)
    ∙ (λ i. called_last l a.id n [] 0 ls own i && not ((over_stays line mild ls a ∙ opened) i))
