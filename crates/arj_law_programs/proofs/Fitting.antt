-- The lines of each event of a run are of what was asked.
use Rattle.std.proofs.Common.{◌≡◌, ◌∙◌, ◌⊎◌, inl, inr, ℕ, ◌+◌, List, [], ◌∷◌, ◌++◌, refl, ap, sym, subst, true, false}
use Rattle.std.proofs.Common.{Bool, Option, Some, None, cond, ◌||◌, ◌&&◌, append-nil, true≢false}
use Rattle.std.specs.Prelude.{⊤, MatchOption}
use Rattle.std.specs.List.{AllByRecursion, list_all}
use Rattle.std.proofs.lemmas.List.{append_assoc}
use Rattle.arj_base.specs.declared.uid.Uid.{Uid}
use Rattle.arj_journal.specs.declared.body.Body.{Body}
use Rattle.arj_journal.specs.declared.body.Body.TheVariants as body
use Rattle.arj_journal.specs.declared.body.Cause.TheVariants as cause
use Rattle.arj_journal.specs.declared.body.Kind.{Kind}
use Rattle.arj_journal.specs.declared.body.Kind.TheVariants as kind
use Rattle.arj_journal.specs.declared.body.Line.{Line}
use Rattle.arj_journal.specs.declared.body.Which.TheVariants as which
use Rattle.arj_journal.specs.declared.event.Event.{Event}
use Rattle.arj_journal.specs.declared.event.Event.TheVariants as event
use Rattle.arj_journal.specs.declared.header.Header.{Header}
use Rattle.arj_text.specs.Label.{name}
use Rattle.arj_text.specs.declared.label.Label.{Label}
use Rattle.arj_model.specs.Actions.{Act, act_in, acts, is_begun}
use Rattle.arj_model.specs.Follows.{Accepted, AnswersFit, IsRefusedDoomed, Step, is_ending}
use Rattle.arj_model.specs.Own.{AreAborted, AreGiveUps, Begins, BeginsCommit, Ends, aborted_of, commit_line, may_stand}
use Rattle.arj_model.specs.Past.{Past, asked_of, block, next}
use Rattle.arj_model.specs.Refusals.{causes, first_cause, has_ended, refusal, was_given}
use Rattle.arj_progrun.specs.Events.{ask_of}
use Rattle.arj_progrun.specs.Schedule.{Given}
use Rattle.arj_progrun.specs.Stepped.{AreNumbered}
use Rattle.arj_law_programs.proofs.Along.{Tolerant, TraceHas, block_of, lines_of}
use Rattle.arj_law_programs.proofs.Acts.{all_append}
use Rattle.arj_law_programs.proofs.Fits.{AreFit, FitAlong, LaterFit, LaterFits, bodies_of}

-- ---- lines that fit anywhere

abbrev Plain : Body → Type 0
Plain (body.Ok l x op answer) = ⊥
Plain (body.Committed l) = ⊥
Plain (body.Began l k u p) = ⊥
Plain (body.Committing l) = ⊥
Plain (body.Refused c) = ⊥
Plain b = ⊤

plain_fits : (past : Past) (e : Event) (lines : List Line) (b : Body) → Plain b → LaterFits past e lines b
plain_fits past e lines (body.Ok l x op answer) never = absurd never
plain_fits past e lines (body.Committed l) never = absurd never
plain_fits past e lines (body.Began l k u p) never = absurd never
plain_fits past e lines (body.Committing l) never = absurd never
plain_fits past e lines (body.Refused c) never = absurd never
plain_fits past e lines _ plain = tt

ending_plain : (b : Body) → is_ending b ≡ true → Plain b
ending_plain (body.Ok l x op answer) never = absurd (true≢false (sym never))
ending_plain (body.Committed l) never = absurd (true≢false (sym never))
ending_plain (body.Began l k u p) never = absurd (true≢false (sym never))
ending_plain (body.Committing l) never = absurd (true≢false (sym never))
ending_plain (body.Refused c) never = absurd (true≢false (sym never))
ending_plain _ is = tt

abbrev ArePlain : List Body → Type 0
ArePlain bs = AllByRecursion Plain bs

-- plain lines, and then others that fit
plain_front : (past : Past) (e : Event) (lines : List Line) (own rest : List Body) → ArePlain own →
    LaterFit past e (lines ++ block (past.count + 1) own) rest → LaterFit past e lines (own ++ rest)
plain_front past e lines [] rest all fit = subst (λ ls. LaterFit past e ls rest) (append-nil lines) fit
plain_front past e lines (b ∷ own) rest all fit = (
  plain_fits past e lines b all.0,
  plain_front past e (lines ++ block (past.count + 1) (b ∷ [])) own rest all.1
      (subst (λ ls. LaterFit past e ls rest)
      (sym (append_assoc lines (block (past.count + 1) (b ∷ [])) (block (past.count + 1) own))) fit),
)

all_plain : (past : Past) (e : Event) (lines : List Line) (bs : List Body) → ArePlain bs → LaterFit past e lines bs
all_plain past e lines [] all = tt
all_plain past e lines (b ∷ bs) all =
    (plain_fits past e lines b all.0, all_plain past e (lines ++ block (past.count + 1) (b ∷ [])) bs all.1)

-- where all fit as later ones, they fit as an event's
pub first_of_later : (past : Past) (e : Event) (bs : List Body) → LaterFit past e past.lines bs → AreFit past e bs
first_of_later past e [] fit = tt
first_of_later past e (body.Ok l x op answer ∷ bs) fit = fit
first_of_later past e (body.Committed l ∷ bs) fit = (inr fit.0, fit.1)
first_of_later past e (body.Began l k u p ∷ bs) fit = absurd fit.0
first_of_later past e (body.Committing l ∷ bs) fit = absurd fit.0
first_of_later past e (body.Refused c ∷ bs) fit = absurd fit.0
first_of_later past e (b ∷ bs) fit = fit

-- ---- lines between

-- no action begins between an event's own lines, no commit is called, and nothing is refused
begins_not : (e : Event) (l : Label) (k : Kind) (u : Uid) (p : Option Label) → may_stand e (body.Began l k u p) ≡ false
begins_not (event.GiveUp m) l k u p = refl
begins_not (event.Restart n) l k u p = refl
begins_not (event.Show x) l k u p = refl
begins_not _ l k u p = refl

calls_not : (e : Event) (l : Label) → may_stand e (body.Committing l) ≡ false
calls_not (event.GiveUp m) l = refl
calls_not (event.Restart n) l = refl
calls_not (event.Show x) l = refl
calls_not _ l = refl

refuses_not : (e : Event) (c : ℕ) → may_stand e (body.Refused c) ≡ false
refuses_not (event.GiveUp m) c = refl
refuses_not (event.Restart n) c = refl
refuses_not (event.Show x) c = refl
refuses_not _ c = refl

never_both : {P : Type 0} (b : Bool) → b ≡ true → b ≡ false → P
never_both b holds fails = absurd (true≢false (sym holds ∙ fails))

stands_fit : (past : Past) (e : Event) (lines : List Line) (b : Body) → may_stand e b ≡ true →
    AnswersFit past.start (past.accepted ++ asked_of past e ∷ []) lines (past.count + 1) (b ∷ []) → LaterFits past e lines b
stands_fit past e lines (body.Ok l x op answer) may fit = let one = fit.0 in one.0
stands_fit past e lines (body.Committed l) may fit = fit.0
stands_fit past e lines (body.Began l k u p) may fit = never_both (may_stand e (body.Began l k u p)) may (begins_not e l k u p)
stands_fit past e lines (body.Committing l) may fit = never_both (may_stand e (body.Committing l)) may (calls_not e l)
stands_fit past e lines (body.Refused c) may fit = never_both (may_stand e (body.Refused c)) may (refuses_not e c)
stands_fit past e lines _ may fit = tt

and_parts : (a b : Bool) → (a && b) ≡ true → (a ≡ true) × (b ≡ true)
and_parts true b e = (refl, e)
and_parts false b e = absurd (true≢false (sym e))

others_fit : (past : Past) (e : Event) (lines : List Line) (others rest : List Body) → list_all (may_stand e) others ≡ true →
    AnswersFit past.start (past.accepted ++ asked_of past e ∷ []) lines (past.count + 1) others → ArePlain rest →
    LaterFit past e lines (others ++ rest)
others_fit past e lines [] rest may fit plain = all_plain past e lines rest plain
others_fit past e lines (b ∷ others) rest may fit plain =
    let m = and_parts (may_stand e b) (list_all (may_stand e) others) may in (
      stands_fit past e lines b m.0 (fit.0, tt),
      others_fit past e (lines ++ block (past.count + 1) (b ∷ [])) others rest m.1 fit.1 plain,
    )

-- ---- the end of an event

limit_plain : (last : List Body) → last ≡ body.Limit which.Frames ∷ [] → ArePlain last
limit_plain last is = subst ArePlain (sym is) (tt, tt)

may_plain : (last : List Body) → (last ≡ []) ⊎ (last ≡ body.Limit which.Frames ∷ []) → ArePlain last
may_plain last (inl none) = subst ArePlain (sym none) tt
may_plain last (inr is) = limit_plain last is

ends_plain : (e : Event) (own last : List Body) → Ends e own last → ArePlain last
ends_plain event.Quiesce own last (inl (b, is)) = subst ArePlain (sym is) (tt, tt)
ends_plain event.Quiesce own last (inr is) = limit_plain last is
ends_plain (event.Junk n bytes) [] last is = limit_plain last is
ends_plain (event.Junk n bytes) (b ∷ own) last is = subst ArePlain (sym is) tt
ends_plain (event.Call l x op) own last is = may_plain last is
ends_plain (event.Include l x n) own last is = may_plain last is
ends_plain (event.Commit l) own last is = may_plain last is
ends_plain (event.Abort l) own last is = may_plain last is
ends_plain (event.GiveUp l) own last is = may_plain last is
ends_plain (event.Deliver k) own last is = may_plain last is
ends_plain (event.Tick n) own last is = may_plain last is
ends_plain event.Settle own last is = may_plain last is
ends_plain (event.Restart n) own last is = may_plain last is
ends_plain _ own last is = subst ArePlain (sym is) tt

-- ---- its own lines

aborts_plain : (dead : List Act) (own : List Body) → AreAborted dead own → ArePlain own
aborts_plain [] [] are = tt
aborts_plain (a ∷ dead) (body.Aborted l cause.Asked ∷ own) are = (tt, aborts_plain dead own are.1)
aborts_plain _ _ never = absurd never

giveups_plain : (l : Label) (own : List Body) → AreGiveUps l own → ArePlain own
giveups_plain l (body.GaveUp m n ∷ []) are = (tt, tt)
giveups_plain l (body.GaveUp m n ∷ body.GaveUp k i ∷ own) are = (tt, giveups_plain l (body.GaveUp k i ∷ own) are.2)
giveups_plain l _ never = absurd never

or_parts : (a b : Bool) → (a || b) ≡ false → (a ≡ false) × (b ≡ false)
or_parts false b e = (refl, e)
or_parts true b e = absurd (true≢false e)

-- no cause holds where none is the first
none_hold : (cs : List (ℕ × Bool)) → first_cause cs ≡ None → AllByRecursion (λ (c : ℕ × Bool). c.1 ≡ false) cs
none_hold [] e = tt
none_hold (c ∷ cs) e = by c.1 refl e (λ rest. none_hold cs rest)
  where
    by : (b : Bool) → c.1 ≡ b → cond b (Some c.0) (first_cause cs) ≡ None →
        (first_cause cs ≡ None → AllByRecursion (λ (d : ℕ × Bool). d.1 ≡ false) cs) →
        (c.1 ≡ false) × AllByRecursion (λ (d : ℕ × Bool). d.1 ≡ false) cs
    by true is never ih = absurd (cc never)
    by false is rest ih = (is, ih rest)

module _ (hd : Header) (past : Past) where
  -- the lines of an accepted event, by its own
  abbrev OwnFit : Event → List Body → Type 0
  OwnFit e own = (rest : List Body) → LaterFit past e (past.lines ++ block (past.count + 1) own) rest → AreFit past e (own ++ rest)

  own_plain : (e : Event) (own : List Body) → ArePlain own → OwnFit e own
  own_plain e own all rest fit = first_of_later past e (own ++ rest) (plain_front past e past.lines own rest all fit)

  own_is : (e : Event) (own bs : List Body) → own ≡ bs → OwnFit e bs → OwnFit e own
  own_is e own bs is f = subst (OwnFit e) (sym is) f

  begun_new : (l : List ℕ) → (was_given past.start l || is_begun past.lines l) ≡ false → is_begun past.lines l ≡ false
  begun_new l e = (or_parts (was_given past.start l) (is_begun past.lines l) e).1

  commits_own : (l : Label) (o : Option Act) (own : List Body) → act_in (acts past.lines) (name l) ≡ o →
      has_ended past.lines (name l) ≡ false → BeginsCommit past l o own → OwnFit (event.Commit l) own
  commits_own l None own found open_now begins = absurd begins
  commits_own l (Some a) own found open_now (inr (is, plain, lost)) = own_plain (event.Commit l) own (subst ArePlain (sym is) (tt, tt))
  commits_own l (Some a) own found open_now (inl is) =
      own_is (event.Commit l) own (commit_line a.kind l ∷ []) is (by a.kind refl)
    where
      by : (k : Kind) → a.kind ≡ k → OwnFit (event.Commit l) (commit_line k l ∷ [])
      by kind.Nested e rest fit = (inl (refl, (a, found, ap (λ k. commit_line k l) e), open_now), fit)
      by kind.Serial e rest fit = (tt, fit)
      by kind.Top e rest fit = ((refl, (a, found, ap (λ k. commit_line k l) e), open_now), fit)
      by kind.Constituent e rest fit = ((refl, (a, found, ap (λ k. commit_line k l) e), open_now), fit)
      by kind.Independent e rest fit = ((refl, (a, found, ap (λ k. commit_line k l) e), open_now), fit)

  own_fit : (e : Event) (own : List Body) → refusal hd past e ≡ None → Begins hd past e own → OwnFit e own
  own_fit (event.Begin l n) own none is =
      let all = none_hold (causes hd past (event.Begin l n)) none in
      let second = all.1 in
      let third = second.1 in
      own_is (event.Begin l n) own _ is (λ rest fit. (((refl, refl, refl), begun_new (name l) third.0), fit))
  own_fit (event.Serial l n) own none is =
      let all = none_hold (causes hd past (event.Serial l n)) none in
      let second = all.1 in
      let third = second.1 in
      own_is (event.Serial l n) own _ is (λ rest fit. ((tt, begun_new (name l) third.0), fit))
  own_fit (event.BeginIn l p) own none (n, node, is) =
      let first = none_hold (causes hd past (event.BeginIn l p)) none in
      own_is (event.BeginIn l p) own _ is (λ rest fit. (((refl, refl, refl), begun_new (name l) first.0), fit))
  own_fit (event.Top l p) own none (n, node, is) =
      let first = none_hold (causes hd past (event.Top l p)) none in
      own_is (event.Top l p) own _ is (λ rest fit. ((tt, begun_new (name l) first.0), fit))
  own_fit (event.Commit l) own none begins =
      let first = none_hold (causes hd past (event.Commit l)) none in
      let second = first.1 in
      commits_own l (act_in (acts past.lines) (name l)) own refl
      (or_parts (was_given past.start (name l)) (has_ended past.lines (name l)) second.0).1 begins
  own_fit (event.Abort l) own none are =
      own_plain (event.Abort l) own (aborts_plain (aborted_of past.lines (act_in (acts past.lines) (name l))) own are)
  own_fit (event.GiveUp l) own none are = own_plain (event.GiveUp l) own (giveups_plain l own are)
  own_fit (event.Deliver k) own none (inl is) = own_plain (event.Deliver k) own (subst ArePlain (sym is) (tt, tt))
  own_fit (event.Deliver k) own none (inr is) = own_plain (event.Deliver k) own (subst ArePlain (sym is) (tt, tt))
  own_fit (event.Lose k) own none is = own_plain (event.Lose k) own (subst ArePlain (sym is) (tt, tt))
  own_fit (event.Crash n) own none is = own_plain (event.Crash n) own (subst ArePlain (sym is) (tt, tt))
  own_fit (event.Restart n) own none (inl (i, more, is)) = own_plain (event.Restart n) own (subst ArePlain (sym is) (tt, tt))
  own_fit (event.Restart n) own none (inr is) = own_plain (event.Restart n) own (subst ArePlain (sym is) (tt, tt))
  own_fit (event.Stop n calls k) own none is = own_plain (event.Stop n calls k) own (subst ArePlain (sym is) (tt, tt))
  own_fit (event.Junk n bytes) own none (inl is) = own_plain (event.Junk n bytes) own (subst ArePlain (sym is) (tt, tt))
  own_fit (event.Junk n bytes) own none (inr is) = own_plain (event.Junk n bytes) own (subst ArePlain (sym is) tt)
  own_fit (event.Call l x op) own none is = own_plain (event.Call l x op) own (subst ArePlain (sym is) tt)
  own_fit (event.Include l x n) own none is = own_plain (event.Include l x n) own (subst ArePlain (sym is) tt)
  own_fit (event.Tick n) own none is = own_plain (event.Tick n) own (subst ArePlain (sym is) tt)
  own_fit event.Settle own none is = own_plain event.Settle own (subst ArePlain (sym is) tt)
  own_fit event.Quiesce own none is = own_plain event.Quiesce own (subst ArePlain (sym is) tt)
  own_fit (event.Show x) own none is = own_plain (event.Show x) own (subst ArePlain (sym is) tt)

  -- with lines outside of events behind
  accepted_fit : (e : Event) (bs tail : List Body) → refusal hd past e ≡ None → Accepted hd past e bs → ArePlain tail →
      AreFit past e (bs ++ tail)
  accepted_fit e bs tail none a plain =
      subst (AreFit past e) (sym (ap (λ cs. cs ++ tail) a.parts ∙ append_assoc a.own (a.others ++ a.last) tail
      ∙ ap (λ cs. a.own ++ cs) (append_assoc a.others a.last tail)))
      (own_fit e a.own none a.begins (a.others ++ (a.last ++ tail))
      (others_fit past e (past.lines ++ block (past.count + 1) a.own) a.others (a.last ++ tail) a.only a.answers
      (all_append Plain a.last tail (ends_plain e a.own a.last a.ends) plain)))

  step_fit : (e : Event) (bs : List Body) → Step hd past e bs → AreFit past e bs
  step_fit e bs s = by (refusal hd past e) refl s.lines
    where
      by : (o : Option ℕ) → refusal hd past e ≡ o → MatchOption o (Accepted hd past e bs) (λ c. bs ≡ body.Refused c ∷ [])
          ⊎ IsRefusedDoomed hd past e bs → AreFit past e bs
      by o is (inr d) = subst (AreFit past e) (sym d.line) (inl refl)
      by (Some c) is (inl refused) = subst (AreFit past e) (sym refused) (inl refl)
      by None is (inl a) = subst (AreFit past e) (append-nil bs) (accepted_fit e bs [] is a tt)

  tolerant_fit : (e : Event) (bs : List Body) → Tolerant (Step hd) past e bs → AreFit past e bs
  tolerant_fit e bs (inl s) = step_fit e bs s
  tolerant_fit e bs (inr (quiet, (front, x, cut, last, s))) =
      subst (AreFit past e) (sym cut) (by (refusal hd past e) refl s.lines)
    where
      refused_front : (c : ℕ) → front ≡ body.Refused c ∷ [] → AreFit past e (front ++ x ∷ [])
      refused_front c is =
          subst (λ cs. AreFit past e (cs ++ x ∷ [])) (sym is) (inr (ap ask_of quiet, (last, tt)))

      by : (o : Option ℕ) → refusal hd past e ≡ o → MatchOption o (Accepted hd past e front) (λ c. front ≡ body.Refused c ∷ [])
          ⊎ IsRefusedDoomed hd past e front → AreFit past e (front ++ x ∷ [])
      by o is (inr d) = refused_front 12 d.line
      by (Some c) is (inl refused) = refused_front c refused
      by None is (inl a) = accepted_fit e front (x ∷ []) is a (ending_plain x last, tt)

-- so are those of all events of a trace
pub trace_fits : (hd : Header) (past : Past) (gs : List Given) → TraceHas (Step hd) past gs → AreNumbered (past.count + 1) gs →
    (end : Past) × FitAlong past gs end
trace_fits hd past [] has numbers = (past, refl)
trace_fits hd past (g ∷ gs) has numbers =
    let r = trace_fits hd (next past g.event (bodies_of g.lines)) gs has.1 numbers.1 in
    (r.0, (block_of (past.count + 1) g.lines numbers.0, tolerant_fit hd past g.event (bodies_of g.lines) has.0, r.1))

-- and they make its journal
pub trace_lines : (past : Past) (gs : List Given) (end : Past) → FitAlong past gs end → end.lines ≡ past.lines ++ lines_of gs
trace_lines past [] end fit = ap (λ (p : Past). p.lines) (sym fit) ∙ sym (append-nil past.lines)
trace_lines past (g ∷ gs) end fit =
    trace_lines (next past g.event (bodies_of g.lines)) gs end fit.2
    ∙ append_assoc past.lines (block (past.count + 1) (bodies_of g.lines)) (lines_of gs)
    ∙ ap (λ ls. past.lines ++ (ls ++ lines_of gs)) (sym fit.0)
