-- The row of what is refused, and aborted as doomed: where an event writes what it may, both have their causes.
use Rattle.arj_law_parts.proofs.Words
use Words.{◌≡◌, ◌∙◌, ◌+◌, ◌-◌, ◌==◌, ◌&&◌, ◌||◌, ◌++◌, not, ℕ, Bool, true, false, cond, if◌then◌else◌, List, [], ◌∷◌, filter, inl, inr}
use Words.{⊎_elim, refl, sym, ap, subst, arith, nat_tests}
use Words.{eqb-true, Option, Some, None, append-nil, filter-append, list_all, list_any, and_parts, nat_le, AllByRecursion, bytes_eq-Decides}
use Words.{name, Body, Event, Header, Kind, Label, Line}
use Words.body
use Words.cause
use Words.event
use Words.kind
use Rattle.std.specs.Prelude.{MatchOption}
use Rattle.std.proofs.Math.Nat.{add-sub_cancel}
use Rattle.arj_journal.specs.declared.body.Cause.{Cause}
use Rattle.arj_law_runs.specs.follow.Frames.{are_so}
use Rattle.arj_model.specs.Actions.{Act, act_in, acts, read}
use Rattle.arj_model.specs.Caused.{has_cause}
use Rattle.arj_model.specs.CauseNodes.{is_cause, refused_caused}
use Rattle.arj_model.specs.CauseEnds.{doomed_caused}
use Rattle.arj_model.specs.CauseSpans.{Here, behind, had_invoked, here_at, holds_in, is_doomed, lost_by}
use Rattle.arj_model.specs.Follows.{Accepted, Follows, IsRefusedDoomed, Runs, Step, is_behind_doom, label_doomed}
use Rattle.arj_model.specs.Own.{AreAborted, AreGiveUps, Begins, BeginsCommit, Ends, MayMeetLimit, commit_line, may_stand}
use Rattle.arj_model.specs.Past.{Along, Asked, Past, asked_of, at_start, is_refused, next}
use Rattle.arj_model.specs.Refusals.{asks_by, causes, holds_of, is_ask_by, last_asked, refusal}
use Rattle.arj_start.specs.Kinds.{is_serial}
use Rattle.arj_start.specs.Start.{Start}
use Rattle.arj_law_cause.proofs.kinds.Refused.{not_among}
use Rattle.arj_law_cause.specs.kinds.Kinds.{is_denial}
use Rattle.arj_law_cause.specs.kinds.Rows.{RowStep, row}

-- ---- lines of other kinds

-- the line is none of these
abbrev IsOther : Body → Type 0
IsOther b = is_denial b ≡ false

abbrev AreOther : List Body → Type 0
AreOther bs = AllByRecursion IsOther bs

abbrev fits : Here → Body → Bool
fits h b = row (λ x. is_denial) h b

others_fit : (h : Here) (bs : List Body) → AreOther bs → are_so fits h bs ≡ true
others_fit h [] all = refl
others_fit h (b ∷ bs) all = λ i. (not (all.0 i) || has_cause h b) && others_fit (behind h b) bs all.1 i

both_other : (xs ys : List Body) → AreOther xs → AreOther ys → AreOther (xs ++ ys)
both_other [] ys a b = b
both_other (x ∷ xs) ys a b = (a.0, both_other xs ys a.1 b)

never_refused : (e : Event) (c : ℕ) → may_stand e (body.Refused c) ≡ true → ⊥
never_refused event.Settle c may = cc may
never_refused event.Quiesce c may = cc may
never_refused e c may = cc may

never_doomed : (e : Event) (l : Label) → may_stand e (body.Aborted l cause.Doomed) ≡ true → ⊥
never_doomed event.Settle l may = cc may
never_doomed event.Quiesce l may = cc may
never_doomed e l may = cc may

-- what may stand between is another line
one_other : (e : Event) (b : Body) → may_stand e b ≡ true → is_denial b ≡ false
one_other e (body.Refused c) may = absurd (never_refused e c may)
one_other e (body.Aborted l c) may = by c may
  where
    by : (z : Cause) → may_stand e (body.Aborted l z) ≡ true → is_denial (body.Aborted l z) ≡ false
    by cause.Doomed may = absurd (never_doomed e l may)
    by z may = refl
one_other e b may = refl

between_other : (e : Event) (bs : List Body) → list_all (may_stand e) bs ≡ true → AreOther bs
between_other e [] all = tt
between_other e (b ∷ bs) all = let q = and_parts (may_stand e b) (list_all (may_stand e) bs) all in
    (one_other e b q.0, between_other e bs q.1)

limit_other : (last : List Body) → MayMeetLimit last → AreOther last
limit_other last (inl none) = subst AreOther (sym none) tt
limit_other last (inr limit) = subst AreOther (sym limit) (refl, tt)

last_other : (e : Event) (own last : List Body) → Ends e own last → AreOther last
last_other event.Quiesce own last (inl q) = subst AreOther (sym q.1) (refl, tt)
last_other event.Quiesce own last (inr limit) = subst AreOther (sym limit) (refl, tt)
last_other (event.Junk n bytes) [] last limit = subst AreOther (sym limit) (refl, tt)
last_other (event.Junk n bytes) (b ∷ own) last none = subst AreOther (sym none) tt
last_other (event.Call l x op) own last may = limit_other last may
last_other (event.Include l x n) own last may = limit_other last may
last_other (event.Commit l) own last may = limit_other last may
last_other (event.Abort l) own last may = limit_other last may
last_other (event.GiveUp l) own last may = limit_other last may
last_other (event.Deliver k) own last may = limit_other last may
last_other (event.Tick n) own last may = limit_other last may
last_other event.Settle own last may = limit_other last may
last_other (event.Restart n) own last may = limit_other last may
last_other (event.Begin l n) own last none = subst AreOther (sym none) tt
last_other (event.Serial l n) own last none = subst AreOther (sym none) tt
last_other (event.BeginIn l p) own last none = subst AreOther (sym none) tt
last_other (event.Top l p) own last none = subst AreOther (sym none) tt
last_other (event.Lose k) own last none = subst AreOther (sym none) tt
last_other (event.Crash n) own last none = subst AreOther (sym none) tt
last_other (event.Stop n calls how) own last none = subst AreOther (sym none) tt
last_other (event.Show x) own last none = subst AreOther (sym none) tt

aborts_other : (as_begun : List Act) (own : List Body) → AreAborted as_begun own → AreOther own
aborts_other [] [] its = tt
aborts_other [] (b ∷ own) its = absurd its
aborts_other (a ∷ rest) (body.Aborted l cause.Asked ∷ own) its = (refl, aborts_other rest own its.1)
aborts_other (a ∷ rest) own its = absurd its

giveups_other : (l : Label) (own : List Body) → AreGiveUps l own → AreOther own
giveups_other l (body.GaveUp m n ∷ []) its = (refl, tt)
giveups_other l (body.GaveUp m n ∷ body.GaveUp k i ∷ own) its = (refl, giveups_other l (body.GaveUp k i ∷ own) its.2)
giveups_other l own its = absurd its

-- ---- events

abbrev is_commit : Event → Bool
is_commit (event.Commit l) = true
is_commit e = false

the_commit : (e : Event) → is_commit e ≡ true → (l : Label) × (e ≡ event.Commit l)
the_commit (event.Commit l) is = (l, refl)
the_commit e is = absurd (cc is)

-- no cause but that of doomed actions has its number
never_twelve : (hd : Header) (p : Past) (e : Event) → refusal hd p e ≡ Some 12 → ⊥
never_twelve hd p (event.Begin l n) is = not_among 12 (causes hd p (event.Begin l n)) refl is
never_twelve hd p (event.Serial l n) is = not_among 12 (causes hd p (event.Serial l n)) refl is
never_twelve hd p (event.BeginIn l m) is = not_among 12 (causes hd p (event.BeginIn l m)) refl is
never_twelve hd p (event.Top l m) is = not_among 12 (causes hd p (event.Top l m)) refl is
never_twelve hd p (event.Call l x o) is = not_among 12 (causes hd p (event.Call l x o)) refl is
never_twelve hd p (event.Include l x n) is = not_among 12 (causes hd p (event.Include l x n)) refl is
never_twelve hd p (event.Commit l) is = not_among 12 (causes hd p (event.Commit l)) refl is
never_twelve hd p (event.Abort l) is = not_among 12 (causes hd p (event.Abort l)) refl is
never_twelve hd p (event.GiveUp l) is = not_among 12 (causes hd p (event.GiveUp l)) refl is
never_twelve hd p (event.Deliver k) is = not_among 12 (causes hd p (event.Deliver k)) refl is
never_twelve hd p (event.Lose k) is = not_among 12 (causes hd p (event.Lose k)) refl is
never_twelve hd p (event.Tick n) is = not_among 12 (causes hd p (event.Tick n)) refl is
never_twelve hd p event.Settle is = not_among 12 (causes hd p event.Settle) refl is
never_twelve hd p event.Quiesce is = not_among 12 (causes hd p event.Quiesce) refl is
never_twelve hd p (event.Crash n) is = not_among 12 (causes hd p (event.Crash n)) refl is
never_twelve hd p (event.Restart n) is = not_among 12 (causes hd p (event.Restart n)) refl is
never_twelve hd p (event.Stop n calls k) is = not_among 12 (causes hd p (event.Stop n calls k)) refl is
never_twelve hd p (event.Junk n bytes) is = not_among 12 (causes hd p (event.Junk n bytes)) refl is
never_twelve hd p (event.Show x) is = not_among 12 (causes hd p (event.Show x)) refl is

-- ---- one event

module _ (hd : Header) (p : Past) (bodies : List Body) where
  one : (own : List Body) (b : Body) → is_denial b ≡ false → own ≡ b ∷ [] → AreOther own
  one own b other is = subst AreOther (sym is) (other, tt)

  none : (own : List Body) → own ≡ [] → AreOther own
  none own is = subst AreOther (sym is) tt

  -- what an event begins with is none of these, but a commit's line may be
  own_other : (e : Event) → is_commit e ≡ false → (own : List Body) → Begins hd p e own → AreOther own
  own_other (event.Commit l) off own its = absurd (cc off)
  own_other (event.Begin l n) off own its = one own _ refl its
  own_other (event.Serial l n) off own its = one own _ refl its
  own_other (event.BeginIn l q) off own its = one own _ refl its.2
  own_other (event.Top l q) off own its = one own _ refl its.2
  own_other (event.Abort l) off own its = aborts_other _ own its
  own_other (event.GiveUp l) off own its = giveups_other l own its
  own_other (event.Deliver k) off own its = ⊎_elim (λ is. one own _ refl is) (λ is. one own _ refl is) its
  own_other (event.Lose k) off own its = one own _ refl its
  own_other (event.Crash n) off own its = one own _ refl its
  own_other (event.Restart n) off own its = ⊎_elim (λ r. one own _ refl r.2) (λ is. one own _ refl is) its
  own_other (event.Stop n calls how) off own its = one own _ refl its
  own_other (event.Junk n bytes) off own its = ⊎_elim (λ is. one own _ refl is) (λ is. none own is) its
  own_other (event.Call l x op) off own its = none own its
  own_other (event.Include l x n) off own its = none own its
  own_other (event.Tick n) off own its = none own its
  own_other event.Settle off own its = none own its
  own_other event.Quiesce off own its = none own its
  own_other (event.Show x) off own its = none own its

  commit_other : (k : Kind) (l : Label) → is_denial (commit_line k l) ≡ false
  commit_other kind.Nested l = refl
  commit_other kind.Serial l = refl
  commit_other kind.Top l = refl
  commit_other kind.Independent l = refl
  commit_other kind.Constituent l = refl

  -- a commit asks no call
  same_doom : (l : Label) →
      is_doomed (p.accepted ++ asked_of p (event.Commit l) ∷ []) p.lines (name l) ≡ is_doomed p.accepted p.lines (name l)
  same_doom l = λ i. holds_of (λ a. list_any (λ lost. holds_in (had_invoked p.lines (let u = a.uid in u.node) lost)
      (last_asked (filter (λ (k : Asked). nat_le k.at lost.at) (same i)))) (read (lost_by (name l)) [] 0 p.lines))
      (act_in (acts p.lines) (name l))
    where
      same : asks_by (p.accepted ++ asked_of p (event.Commit l) ∷ []) (name l) ≡ asks_by p.accepted (name l)
      same = filter-append (λ (k : Asked). is_ask_by (name l) k.event) p.accepted (asked_of p (event.Commit l) ∷ [])
          ∙ append-nil (asks_by p.accepted (name l))

  module _ (e : Event) where
    -- lines of other kinds alone
    all_other : AreOther bodies → RowStep (λ x. is_denial) hd p e bodies
    all_other all = others_fit (here_at hd p e bodies) bodies all

  -- a commit whose action is aborted as doomed
  doomed_fits : (l : Label) (a : Act) (rest : List Body) → act_in (acts p.lines) (name l) ≡ Some a → is_serial a.kind ≡ false →
      is_doomed p.accepted p.lines (name l) ≡ true → AreOther rest →
      RowStep (λ x. is_denial) hd p (event.Commit l) (body.Aborted l cause.Doomed ∷ rest)
  doomed_fits l a rest named plain lost others =
      (λ i. its i && others_fit
      (behind (here_at hd p (event.Commit l) (body.Aborted l cause.Doomed ∷ rest)) (body.Aborted l cause.Doomed)) rest others i)
    where
      its : doomed_caused (here_at hd p (event.Commit l) (body.Aborted l cause.Doomed ∷ rest)) (name l) ≡ true
      its = (λ i. (bytes_eq-Decides (name l) (name l)).1 refl i
          && (holds_of (λ x. not (is_serial x.kind)) (named i) && is_doomed (accepted i) p.lines (name l)))
          ∙ (λ i. not (plain i) && (same_doom l ∙ lost) i)
        where
          accepted : (if is_refused (body.Aborted l cause.Doomed ∷ rest) then p.accepted else p.accepted ++ asked_of p
              (event.Commit l) ∷ [])
              ≡ p.accepted ++ asked_of p (event.Commit l) ∷ []
          accepted = refl

  commit_fits : (l : Label) (own rest : List Body) → bodies ≡ own ++ rest → AreOther rest → (o : Option Act) →
      act_in (acts p.lines) (name l) ≡ o →
      BeginsCommit p l o own → RowStep (λ x. is_denial) hd p (event.Commit l) bodies
  commit_fits l own rest parts others None named its = absurd its
  commit_fits l own rest parts others (Some a) named (inl line) =
      all_other (event.Commit l)
      (subst AreOther (sym parts) (both_other own rest (one own (commit_line a.kind l) (commit_other a.kind l) line) others))
  commit_fits l own rest parts others (Some a) named (inr d) =
      subst (RowStep (λ x. is_denial) hd p (event.Commit l)) (sym (parts ∙ ap (λ bs. bs ++ rest) d.0))
      (doomed_fits l a rest named d.1 d.2 others)

  accepted_fits : (e : Event) → Accepted hd p e bodies → RowStep (λ x. is_denial) hd p e bodies
  accepted_fits e a = by (is_commit e) refl
    where
      others : AreOther (a.others ++ a.last)
      others = both_other a.others a.last (between_other e a.others a.only) (last_other e a.own a.last a.ends)

      by : (b : Bool) → is_commit e ≡ b → RowStep (λ x. is_denial) hd p e bodies
      by false off = all_other e
          (subst AreOther (sym a.parts) (both_other a.own (a.others ++ a.last) (own_other e off a.own a.begins) others))
      by true on =
          let c = the_commit e on in
          subst (λ x. RowStep (λ z. is_denial) hd p x bodies) (sym c.1)
          (commit_fits c.0 a.own (a.others ++ a.last) a.parts others (act_in (acts p.lines) (name c.0)) refl
          (subst (λ x. Begins hd p x a.own) c.1 a.begins))

  -- ---- refusals

  module _ (e : Event) where
    back : (p.count + 1) - 1 ≡ p.count
    back = add-sub_cancel p.count 1

    same_number : (n : ℕ) → (n == n) ≡ true
    same_number n = grind (arith, nat_tests)

    its_refusal : refusal hd (record p { count = (p.count + 1) - 1 }) e ≡ refusal hd p e
    its_refusal = ap (λ n. refusal hd (record p { count = n }) e) back

    refused_fits : (c : ℕ) → refusal hd p e ≡ Some c → RowStep (λ x. is_denial) hd p e (body.Refused c ∷ [])
    refused_fits c is = λ i. at (c == 12) refl i && true
      where
        at : (b : Bool) → (c == 12) ≡ b → refused_caused (here_at hd p e (body.Refused c ∷ [])) c ≡ true
        at true twelve = absurd (never_twelve hd p e (subst (λ k. refusal hd p e ≡ Some k) (eqb-true c 12 twelve) is))
        at false other = (λ i. cond (other i) (holds_in (is_doomed p.accepted p.lines) (label_doomed e)
            && is_behind_doom (refusal hd (record p { count = (p.count + 1) - 1 }) e))
            (is_cause c (refusal hd (record p { count = (p.count + 1) - 1 }) e)))
            ∙ ap (is_cause c) (its_refusal ∙ is) ∙ same_number c

    doomed_so : IsRefusedDoomed hd p e bodies → RowStep (λ x. is_denial) hd p e bodies
    doomed_so d = subst (RowStep (λ x. is_denial) hd p e) (sym d.line) (λ i. its i && true)
      where
        its : refused_caused (here_at hd p e (body.Refused 12 ∷ [])) 12 ≡ true
        its = (λ i. holds_in (is_doomed p.accepted p.lines) (d.about i) && is_behind_doom (its_refusal i)) ∙ (λ i. d.lost i && d.lowest i)

    pub step_fits : Step hd p e bodies → RowStep (λ x. is_denial) hd p e bodies
    step_fits s = ⊎_elim (λ w. by (refusal hd p e) refl w) (λ d. doomed_so d) s.lines
      where
        by : (o : Option ℕ) → refusal hd p e ≡ o → MatchOption o (Accepted hd p e bodies) (λ c. bodies ≡ body.Refused c ∷ []) →
            RowStep (λ x. is_denial) hd p e bodies
        by None is a = accepted_fits e a
        by (Some c) is line = subst (RowStep (λ x. is_denial) hd p e) (sym line) (refused_fits c is)

-- ---- runs

along_fits : (hd : Header) (p : Past) (es : List Event) (end : Past) → Along (Step hd) p es end →
    Along (RowStep (λ x. is_denial) hd) p es end
along_fits hd p [] end is = is
along_fits hd p (e ∷ es) end h = (h.0, step_fits hd p h.0 e h.1, along_fits hd (next p e h.0) es end h.2)

-- so it is of each journal that follows its events
pub denials_fit : (hd : Header) (st : Start) (es : List Event) (journal : List Line) → Follows hd st es journal →
    Runs (RowStep (λ x. is_denial) hd) st es journal
denials_fit hd st es journal h = (h.0, h.1, along_fits hd (at_start st) es h.0 h.2, h.3, h.4)
