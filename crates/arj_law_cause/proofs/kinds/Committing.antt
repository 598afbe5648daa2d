-- The part of the row of committed lines: a nested action commits in the event that commits it, and any other while its commit is under
-- way.
use Rattle.arj_law_parts.proofs.Words
use Words.{◌≡◌, ◌∙◌, ◌⊎◌, ◌++◌, ◌&&◌, ◌||◌, not, ℕ, Bool, true, false, cond, List, [], ◌∷◌, Option, Some, None, refl, sym, ap, subst}
use Words.{◌+◌, inl, inr, and_parts, list_all, numbered, Body, Event, Header, Kind, Label, Line, Start, bytes_eq, bytes_eq-Decides, name}
use Words.{journal_by}
use Words.body
use Words.event
use Words.kind
use Rattle.arj_journal.specs.declared.body.Cause.TheVariants as cause
use Rattle.arj_law_runs.proofs.Terms.{Act}
use Rattle.arj_law_runs.proofs.follow.Walking.{behind_all}
use Rattle.arj_law_runs.proofs.journal.{Models.its_acts, Models.named_in, Models.right_before}
use Rattle.arj_law_runs.specs.follow.Frames.{are_so, run_events}
use Rattle.arj_law_runs.specs.journal.Book.{book, is_top, new_book}
use Rattle.arj_law_runs.specs.journal.Right.{AreRight, Right}
use Rattle.arj_model.specs.Actions.{act_in, acts, is_over}
use Rattle.arj_model.specs.Calls.{committings}
use Rattle.arj_model.specs.CauseEnds.{is_commit_of}
use Rattle.arj_model.specs.CauseSpans.{Here, behind, commit_here, here_at, holds_in}
use Rattle.arj_model.specs.Follows.{Accepted, AnswerFits, AnswersFit, IsRefusedDoomed, Step}
use Rattle.arj_model.specs.Own.{AreAborted, AreGiveUps, Begins, BeginsCommit, Ends, aborted_of, commit_line}
use Rattle.arj_model.specs.Past.{Along, Asked, Past, asked_of, next}
use Rattle.arj_model.specs.Refusals.{holds_of, is_committing, refusal, was_called}
use Rattle.arj_protocol.specs.Tree.{is_nested}
use Rattle.std.specs.Prelude.{MatchOption}
use Rattle.arj_law_cause.proofs.kinds.Committed.{right_lines}
use Rattle.arj_law_cause.proofs.kinds.Lines.{tested_row}
use Rattle.arj_law_cause.proofs.kinds.LostCommits.{commit_so}
use Rattle.arj_law_cause.proofs.kinds.Waiting.{called_is}
use Rattle.arj_law_cause.proofs.kinds.Walks.{behind_lines, none_pass, so_both}
use Rattle.arj_law_cause.proofs.told.Joined.{journals_follow}
use Rattle.arj_law_cause.specs.kinds.Kinds.{is_committed}
use Rattle.arj_law_cause.specs.kinds.Rows.{TestHolds, TestedStep, tested}

-- A nested action commits in the event that commits it, and any other while its commit is under way.
abbrev pub is_under_way : Here → Body → Bool
is_under_way h (body.Committed l) =
    holds_of (λ a. cond (is_nested a.kind) (is_commit_of (name l) h.event) (holds_in (λ (c : ℕ). true) (commit_here h (name l))))
    (act_in (acts h.lines) (name l))
is_under_way h _ = true

-- ---- by the events

-- the event commits a nested action with this label, or its commit is under way
abbrev fits : Here → Body → Bool
fits h (body.Committed l) = (holds_of (λ (a : Act). is_nested a.kind) (act_in (acts h.lines) (name l)) && is_commit_of (name l) h.event)
    || is_committing h.lines (name l)
fits h b = true

abbrev passes : Here → Body → Bool
passes = tested fits (λ h. is_committed)

abbrev others : List Body → Bool
others bs = list_all (λ b. not (is_committed b)) bs

others_so : (h : Here) (bs : List Body) → others bs ≡ true → are_so passes h bs ≡ true
others_so h bs none = none_pass fits (λ g. is_committed) h bs (λ g. none)

-- nor does a line with which an event ends
end_never : (e : Event) (own last : List Body) → Ends e own last → others last ≡ true
end_never event.Quiesce own last (inl q) = ap others q.1
end_never event.Quiesce own last (inr met) = ap others met
end_never (event.Junk n bytes) [] last met = ap others met
end_never (event.Junk n bytes) (b ∷ own) last none = ap others none
end_never (event.Call l x op) own last (inl none) = ap others none
end_never (event.Call l x op) own last (inr met) = ap others met
end_never (event.Include l x n) own last (inl none) = ap others none
end_never (event.Include l x n) own last (inr met) = ap others met
end_never (event.Commit l) own last (inl none) = ap others none
end_never (event.Commit l) own last (inr met) = ap others met
end_never (event.Abort l) own last (inl none) = ap others none
end_never (event.Abort l) own last (inr met) = ap others met
end_never (event.GiveUp l) own last (inl none) = ap others none
end_never (event.GiveUp l) own last (inr met) = ap others met
end_never (event.Deliver k) own last (inl none) = ap others none
end_never (event.Deliver k) own last (inr met) = ap others met
end_never (event.Tick n) own last (inl none) = ap others none
end_never (event.Tick n) own last (inr met) = ap others met
end_never event.Settle own last (inl none) = ap others none
end_never event.Settle own last (inr met) = ap others met
end_never (event.Restart n) own last (inl none) = ap others none
end_never (event.Restart n) own last (inr met) = ap others met
end_never e own last none = ap others none

giveups_never : (l : Label) (own : List Body) → AreGiveUps l own → others own ≡ true
giveups_never l [] are = absurd are
giveups_never l (body.GaveUp m n ∷ []) are = refl
giveups_never l (body.GaveUp m n ∷ body.GaveUp k i ∷ own) are = giveups_never l (body.GaveUp k i ∷ own) are.2
giveups_never l (body.GaveUp m n ∷ b ∷ own) are = absurd are
giveups_never l (b ∷ own) are = absurd are

aborts_never : (acted : List Act) (own : List Body) → AreAborted acted own → others own ≡ true
aborts_never [] [] are = refl
aborts_never [] (b ∷ own) are = absurd are
aborts_never (a ∷ acted) [] are = absurd are
aborts_never (a ∷ acted) (body.Aborted m cause.Asked ∷ own) are = aborts_never acted own are.1
aborts_never (a ∷ acted) (b ∷ own) are = absurd are

same_name : (l : Label) → bytes_eq (name l) (name l) ≡ true
same_name l = (bytes_eq-Decides (name l) (name l)).1 refl

module _ (hd : Header) (p : Past) (bodies : List Body) where
  abbrev at : Event → Here
  at e = here_at hd p e bodies

  nested_so : (l : Label) (found : Option Act) → act_in (acts p.lines) (name l) ≡ found → (own : List Body) → BeginsCommit p l found own →
      are_so passes (at (event.Commit l)) own ≡ true
  nested_so l None there own none = absurd none
  nested_so l (Some a) there own (inr doomed) = others_so (at (event.Commit l)) own (ap others doomed.0)
  nested_so l (Some a) there own (inl is) = by a.kind refl
    where
      one : a.kind ≡ kind.Nested → holds_of (λ (b : Act). is_nested b.kind) (act_in (acts p.lines) (name l)) ≡ true
      one nested = ap (holds_of (λ (b : Act). is_nested b.kind)) there ∙ ap is_nested nested

      by : (k : Kind) → a.kind ≡ k → are_so passes (at (event.Commit l)) own ≡ true
      by kind.Nested k = ap (are_so passes (at (event.Commit l))) (is ∙ ap (λ j. commit_line j l ∷ []) k)
          ∙ (λ i. ((one k i && same_name l i) || is_committing p.lines (name l)) && true)
      by kind.Serial k = others_so (at (event.Commit l)) own (ap others (is ∙ ap (λ j. commit_line j l ∷ []) k))
      by kind.Top k = others_so (at (event.Commit l)) own (ap others (is ∙ ap (λ j. commit_line j l ∷ []) k))
      by kind.Independent k = others_so (at (event.Commit l)) own (ap others (is ∙ ap (λ j. commit_line j l ∷ []) k))
      by kind.Constituent k = others_so (at (event.Commit l)) own (ap others (is ∙ ap (λ j. commit_line j l ∷ []) k))

  own_so : (e : Event) (own : List Body) → Begins hd p e own → are_so passes (at e) own ≡ true
  own_so (event.Begin l n) own is = others_so (at (event.Begin l n)) own (ap others is)
  own_so (event.Serial l n) own is = others_so (at (event.Serial l n)) own (ap others is)
  own_so (event.BeginIn l q) own is = others_so (at (event.BeginIn l q)) own (ap others is.2)
  own_so (event.Top l q) own is = others_so (at (event.Top l q)) own (ap others is.2)
  own_so (event.Commit l) own is = nested_so l (act_in (acts p.lines) (name l)) refl own is
  own_so (event.Abort l) own are = others_so (at (event.Abort l)) own (aborts_never (aborted_of p.lines (act_in (acts p.lines) (name l)))
      own are)
  own_so (event.GiveUp l) own are = others_so (at (event.GiveUp l)) own (giveups_never l own are)
  own_so (event.Deliver k) own (inl got) = others_so (at (event.Deliver k)) own (ap others got)
  own_so (event.Deliver k) own (inr void) = others_so (at (event.Deliver k)) own (ap others void)
  own_so (event.Lose k) own is = others_so (at (event.Lose k)) own (ap others is)
  own_so (event.Crash n) own is = others_so (at (event.Crash n)) own (ap others is)
  own_so (event.Restart n) own (inl up) = others_so (at (event.Restart n)) own (ap others up.2)
  own_so (event.Restart n) own (inr halted) = others_so (at (event.Restart n)) own (ap others halted)
  own_so (event.Stop n calls k) own is = others_so (at (event.Stop n calls k)) own (ap others is)
  own_so (event.Junk n bytes) own (inl sent) = others_so (at (event.Junk n bytes)) own (ap others sent)
  own_so (event.Junk n bytes) own (inr none) = others_so (at (event.Junk n bytes)) own (ap others none)
  own_so e own none = others_so (at e) own (ap others none)

  -- what fits behind the lines before it
  answers_so : (st : Start) (accepted : List Asked) (h : Here) (bs : List Body) → AnswersFit st accepted h.lines h.number bs →
      are_so passes h bs ≡ true
  answers_so st accepted h [] fit = refl
  answers_so st accepted h (b ∷ bs) fit = λ i. one b fit.0 i && answers_so st accepted (behind h b) bs fit.1 i
    where
      last_true : (x : Bool) → (x || true) ≡ true
      last_true true = refl
      last_true false = refl

      one : (c : Body) → AnswerFits st accepted h.lines c → passes h c ≡ true
      one (body.Committed l) f = (λ i. (holds_of (λ (a : Act). is_nested a.kind) (act_in (acts h.lines) (name l)) && is_commit_of (name l)
          h.event) || f i)
          ∙ last_true (holds_of (λ (a : Act). is_nested a.kind) (act_in (acts h.lines) (name l)) && is_commit_of (name l) h.event)
      one c f = refl

  accepted_so : (e : Event) → Accepted hd p e bodies → are_so passes (at e) bodies ≡ true
  accepted_so e h = subst (λ bs. are_so passes (at e) bs ≡ true) (sym h.parts)
      (so_both passes (at e) h.own (h.others ++ h.last) (own_so e h.own h.begins)
      (so_both passes (behind_all (at e) h.own) h.others h.last
      (answers_so p.start (p.accepted ++ asked_of p e ∷ []) (behind_all (at e) h.own) h.others fit)
      (others_so (behind_all (behind_all (at e) h.own) h.others) h.last (end_never e h.own h.last h.ends))))
    where
      place : behind_all (at e) h.own ≡ record (at e) { lines = p.lines ++ numbered (p.count + 1) h.own }
      place = behind_lines (at e) h.own

      fit : (let g = behind_all (at e) h.own in AnswersFit p.start (p.accepted ++ asked_of p e ∷ []) g.lines g.number h.others)
      fit = subst (λ (g : Here). AnswersFit p.start (p.accepted ++ asked_of p e ∷ []) g.lines g.number h.others) (sym place) h.answers

  step_so : (e : Event) → Step hd p e bodies → TestedStep fits (λ h. is_committed) hd p e bodies
  step_so e s = by s.lines
    where
      match : (o : Option ℕ) → MatchOption o (Accepted hd p e bodies) (λ c. bodies ≡ body.Refused c ∷ []) → are_so passes (at e) bodies ≡
          true
      match None a = accepted_so e a
      match (Some c) is = others_so (at e) bodies (ap others is)

      by : MatchOption (refusal hd p e) (Accepted hd p e bodies) (λ c. bodies ≡ body.Refused c ∷ []) ⊎ IsRefusedDoomed hd p e bodies →
          are_so passes (at e) bodies ≡ true
      by (inl m) = match (refusal hd p e) m
      by (inr d) = others_so (at e) bodies (ap others d.line)

along_so : (hd : Header) (es : List Event) (p end : Past) → Along (Step hd) p es end → Along (TestedStep fits (λ h. is_committed) hd) p es
    end
along_so hd [] p end a = a
along_so hd (e ∷ es) p end a = (a.0, step_so hd p a.0 e a.1, along_so hd es (next p e a.0) end a.2)

-- ---- by the lines before

record IsRightLine (before : List Line) (b : Body) : Type 0 where
  pub right : AreRight new_book before
  pub its : Right (book before) b

to_test : (h : Here) (b : Body) → is_committed b ≡ true → IsRightLine h.lines b → fits h b ≡ true → is_under_way h b ≡ true
to_test h (body.Committed l) its k is = ap (holds_of (λ (c : Act). cond (is_nested c.kind) (is_commit_of (name l) h.event)
    (holds_in (λ (n : ℕ). true) (commit_here h (name l))))) named ∙ by (is_nested a.kind) refl
  where
    a : Act
    a = (let r = k.its in r.0)

    named : act_in (acts h.lines) (name l) ≡ Some a
    named = let r = k.its in let o = r.1 in ap (λ xs. act_in xs (name l)) (sym (its_acts h.lines k.right)) ∙ o.named

    not_top : (c : Kind) → is_nested c ≡ true → is_top c ≡ false
    not_top kind.Nested e = refl
    not_top kind.Serial e = absurd (cc e)
    not_top kind.Top e = absurd (cc e)
    not_top kind.Independent e = absurd (cc e)
    not_top kind.Constituent e = absurd (cc e)

    none_under : is_nested a.kind ≡ true → is_committing h.lines (name l) ≡ false
    none_under nested = ap (holds_of (λ (c : Act). was_called (committings h.lines) c.id && not (is_over h.lines c))) named
        ∙ (λ i. (called_is h.lines k.right a (named_in (acts h.lines) (name l) a named) ∙ (let r = k.its in r.3) ∙ not_top a.kind nested) i
        && not (is_over h.lines a))

    under : is_nested a.kind ≡ false → is_committing h.lines (name l) ≡ true
    under off = (λ i. ((sym (ap (holds_of (λ (c : Act). is_nested c.kind)) named ∙ off)) i && is_commit_of (name l) h.event)
        || is_committing h.lines (name l)) ∙ is

    by : (x : Bool) → is_nested a.kind ≡ x → cond x (is_commit_of (name l) h.event) (holds_in (λ (n : ℕ). true) (commit_here h (name l))) ≡
        true
    by true nested = (and_parts (holds_of (λ (c : Act). is_nested c.kind) (act_in (acts h.lines) (name l))) (is_commit_of (name l) h.event)
        (sym (or_false (holds_of (λ (c : Act). is_nested c.kind) (act_in (acts h.lines) (name l)) && is_commit_of (name l) h.event))
        ∙ (λ i. (holds_of (λ (c : Act). is_nested c.kind) (act_in (acts h.lines) (name l)) && is_commit_of (name l) h.event)
        || sym (none_under nested) i) ∙ is)).1
      where
        or_false : (y : Bool) → (y || false) ≡ y
        or_false true = refl
        or_false false = refl
    by false off = sym (ap (holds_of (λ (c : Act). holds_in (λ (n : ℕ). true) (commit_here h (name l)))) named) ∙ commit_so h (name l)
        k.right (under off)
to_test h b its k is = absurd (cc its)

pub under_way_run : TestHolds is_under_way is_committed
under_way_run hd r form =
    let lines = journal_by hd r in
    let right = right_lines hd r in
    let f = journals_follow hd r form in
    tested_row IsRightLine is_committed fits is_under_way to_test lines (λ before line behind is.
    let x = right_before new_book before line behind (subst (AreRight new_book) is right) in record { right = x.0; its = x.1 })
    hd r.start (run_events hd r) (f.0, f.1, along_so hd (run_events hd r) _ f.0 f.2, f.3, f.4)
