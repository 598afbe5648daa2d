-- A coordinator's lines about ends and commits.
use Rattle.arj_law_parts.proofs.Words
use Words.{◌≡◌, ◌≢◌, ◌≤◌, ℕ, ◌+◌, List, [], ◌∷◌, ◌++◌, length, true, false, Some, refl, sym, ◌∙◌, ap, subst, ⊎_elim, arith, is_some, Body}
use Words.{Line, Uid, Aborts, Asks, CommitStep, Decides, Stays, Coord, Doing, doing_of, Branch, branch_of, numbered, is_serial}
use Words.cause
use Words.kind
use Rattle.arj_law_lock_view.proofs.Terms
use Terms.{Act, at_act, is_action, root, same, State, act_here, act_other, by_cases, differ, same_is, Paths, IsFreeToEnd}
use Terms.{IsPlaced, stage_of, Acts, Codes, ChangesOne, SameEnd, aborted, called_at, committed_at, moved_by, now_by, OnlyEnded, SeesWhole}
use Terms.{IsLabelled, IsOnPage, Page, IsTiedToLines, CallsStay, EndsStay}
use Terms.body
use Rattle.arj_law_lock.specs.machine.State.{Action}
use Rattle.arj_law_lock_view.proofs.journal
use journal.{Reading.length_more, Reading.more, Saying.said_by}
use journal.Pages.{behind_none, none_tied, one_tied, page_still}
use Rattle.arj_law_lock_view.proofs.view.ActingSteps.{low_stage, unended_none}

-- ---- what stays where actions end

module _ (unit : ℕ) (S T : State) (only : OnlyEnded unit S T) where
  pub calls_stay : CallsStay S T
  calls_stay = (ap (λ (s : State). s.calls) only.rest, ap (λ (s : State). s.includes) only.rest)

  pub first_stays : T.initial ≡ S.initial
  first_stays = ap (λ (s : State). s.initial) only.rest

-- where one action becomes what it was, all stay
pub one_stays : (m : Act) (S T : State) → ChangesOne m (S.action m) S T → EndsStay S T
one_stays m S T o a its = ⊎_elim
    (λ (is : same a m ≡ true). let e = same_is a m is in subst (SameEnd (S.action a)) (sym (subst (λ (k : Act). T.action k ≡ S.action k)
    (sym e) (o.one (ap is_action (sym e) ∙ its)))) (record { stage = refl; place = refl; done = refl }))
    (λ (isnt : same a m ≡ false).
    subst (SameEnd (S.action a)) (sym (o.others a its isnt)) (record { stage = refl; place = refl; done = refl }))
    (by_cases (same a m))

-- lines behind lines
pub said_twice : (e : ℕ) (xs ys : List Body) (lines : List Line) →
    (lines ++ numbered e xs) ++ numbered e ys ≡ lines ++ numbered e (xs ++ ys)
said_twice e xs ys lines = by lines
  where
    each : (zs : List Body) → numbered e zs ++ numbered e ys ≡ numbered e (zs ++ ys)
    each [] = refl
    each (z ∷ zs) = ap (λ ls. record { event = e; body = z } ∷ ls) (each zs)

    by : (ls : List Line) → (ls ++ numbered e xs) ++ numbered e ys ≡ ls ++ numbered e (xs ++ ys)
    by [] = each xs
    by (l ∷ ls) = ap (λ ks. l ∷ ks) (by ls)

-- the lines of one page behind another
pub lines_behind : (p : Page) (xs ys : List Body) →
    (p.lines ++ numbered p.event xs) ++ numbered p.event ys ≡ p.lines ++ numbered p.event (xs ++ ys)
lines_behind p xs ys = said_twice p.event xs ys p.lines

-- ---- a step of a commit

module _ (act : Acts) (code : Codes) (x : ℕ) (p : Page) (c : Coord) (u : Uid) (b : Branch) (d : Doing) (found : branch_of u c.tree ≡ Some b)
    (works : doing_of u c ≡ Some d) (S T : State) (on : IsOnPage act code x p c S) where
  abbrev n : ℕ
  n = length p.lines + 1

  now_S : S.now ≤ n
  now_S = let t = on.tied in t.now

  pub step_tied : (st : CommitStep) → T.initial ≡ S.initial → CallsStay S T → T.now ≡ now_by st n S.now →
      ChangesOne (act u) (moved_by st n (S.action (act u))) S T → (is_action (act u) ≡ true → (S.action (act u)).stage ≤ 2) →
      IsTiedToLines act code p.values x (p.lines ++ numbered p.event (said_by st d.label)) T
  step_tied st first calls now changes low = by st now changes
    where
      l : IsLabelled p.lines u b d
      l = on.labels u b d found works

      stays : T.now ≡ S.now → ChangesOne (act u) (S.action (act u)) S T → IsTiedToLines act code p.values x (p.lines ++ []) T
      stays same o = subst (λ (q : Page). IsTiedToLines act code p.values x q.lines T) (sym (behind_none p))
          (none_tied act code x p c S T on first (let k = now_S in omega (arith, k, same)) calls (one_stays (act u) S T o))

      by : (st : CommitStep) → T.now ≡ now_by st n S.now → ChangesOne (act u) (moved_by st n (S.action (act u))) S T →
          IsTiedToLines act code p.values x (p.lines ++ numbered p.event (said_by st d.label)) T
      by (Stays m) same o = stays same o
      by (Asks m) same o = stays same o
      by (Decides q) then o = one_tied act code x p c S T on (body.Committed d.label) first (omega (arith, then)) (
        calls,
        (
          l.0,
          l.1,
          subst (λ (v : Uid). is_action (act v) ≡ true → (S.action (act v)).stage ≤ 2) (sym l.2) low,
          subst (λ (v : Uid). ChangesOne (act v) (committed_at n (S.action (act v))) S T) (sym l.2) o,
        ),
      )
      by (Aborts why q) same o =
          one_tied act code x p c S T on (body.Aborted d.label why) first (let k = now_S in omega (arith, k, same)) (
            calls,
            (
              l.0,
              l.1,
              subst (λ (v : Uid). is_action (act v) ≡ true → (S.action (act v)).stage ≢ 3) (sym l.2) (λ its e. let k = low its in
                  omega (arith, k, e)),
              subst (λ (v : Uid). ChangesOne (act v) (aborted (S.action (act v))) S T) (sym l.2) o,
            ),
          )

-- an open action isn't decided
pub open_low : (act : Acts) (code : Codes) (x : ℕ) (c : Coord) (u : Uid) (b : Branch) (d : Doing) (S : State) → branch_of u c.tree ≡ Some b
    → is_some b.ended ≡ false → doing_of u c ≡ Some d → SeesWhole act code x c S → is_action (act u) ≡ true → (S.action (act u)).stage ≤ 2
open_low act code x c u b d S found unended works whole its =
    let k = whole.coord in
    let a = k.actions in
    let l = low_stage x b d (S.action (act u)) (a.each u b d found works its) unended in
    omega (arith, l)

-- ---- the commit of a nested action, and of one that is doomed

module _ (act : Acts) (code : Codes) (paths : Paths) (x : ℕ) (p : Page) (c : Coord) (u : Uid) (b : Branch) (d : Doing) (S T : State)
    (free : IsFreeToEnd act paths c u b d) (on : IsOnPage act code x p c S) (whole : SeesWhole act code x c S)
    (only : OnlyEnded (root (act u)) S T) where
  its_label : IsLabelled p.lines u b d
  its_label = on.labels u b d free.there free.works

  -- it commits by its line
  pub nested_said : T.now ≤ length p.lines + 1 + 1 → ChangesOne (act u) (committed_at (length p.lines + 1) (S.action (act u))) S T →
      IsTiedToLines act code p.values x (p.lines ++ numbered p.event (body.Committed d.label ∷ [])) T
  nested_said now o = let l = its_label in
      one_tied act code x p c S T on (body.Committed d.label) (first_stays (root (act u)) S T only) (omega (arith, now)) (
        calls_stay (root (act u)) S T only,
        (
          l.0,
          l.1,
          subst (λ (v : Uid). is_action (act v) ≡ true →
              (S.action (act v)).stage ≤ 2) (sym l.2) (open_low act code x c u b d S free.there free.unended free.works whole),
          subst (λ (v : Uid). ChangesOne (act v) (committed_at (length p.lines + 1) (S.action (act v))) S T) (sym l.2) o,
        ),
      )

  -- a serializing action ends by its line
  pub serial_said : b.kind ≡ kind.Serial → T.now ≤ length p.lines + 1 + 1 → ChangesOne (act u) (committed_at (length p.lines + 1)
      (S.action (act u))) S T → IsTiedToLines act code p.values x (p.lines ++ numbered p.event (body.Ended d.label ∷ [])) T
  serial_said is now o = let l = its_label in one_tied act code x p c S T on (body.Ended d.label) (first_stays (root (act u)) S T only)
      (omega (arith, now)) (calls_stay (root (act u)) S T only, stays, (l.0, l.1, ap is_serial (l.3 ∙ is)))
    where
      no_action : is_action (act u) ≡ false
      no_action = subst (IsPlaced (act u)) is (free.steady.placed u b free.there)

      stays : EndsStay S T
      stays a acts_it = subst (SameEnd (S.action a)) (sym (o.others a acts_it (⊎_elim (λ (e : same a (act u) ≡ true).
          absurd (differ (ap is_action (sym (same_is a (act u) e)) ∙ acts_it) no_action)) (λ e. e) (by_cases (same a (act u))))))
          (record { stage = refl; place = refl; done = refl })

  -- a doomed one is aborted by its line
  pub doomed_said : T.now ≡ S.now → ChangesOne (act u) (aborted (S.action (act u))) S T →
      IsTiedToLines act code p.values x (p.lines ++ numbered p.event (body.Aborted d.label cause.Doomed ∷ [])) T
  doomed_said now o = let l = its_label in one_tied act code x p c S T on (body.Aborted d.label cause.Doomed)
      (first_stays (root (act u)) S T only) (let t = on.tied in let m = t.now in omega (arith, now, m)) (
        calls_stay (root (act u)) S T only,
        (
          l.0,
          l.1,
          subst (λ (v : Uid). is_action (act v) ≡ true → (S.action (act v)).stage ≢ 3) (sym l.2)
              (λ its_one e. let k = open_low act code x c u b d S free.there free.unended free.works whole its_one in omega (arith, k, e)),
          subst (λ (v : Uid). ChangesOne (act v) (aborted (S.action (act v))) S T) (sym l.2) o,
        ),
      )

-- ---- the commit of a top is called

-- the page with the line of the call
abbrev pub page_called : Page → Doing → Page
page_called p d = record p { lines = more p.lines p.event (body.Committing d.label) }

-- The call has its line, and the step that comes with it.
pub top_said : (act : Acts) (code : Codes) (paths : Paths) (x : ℕ) (p : Page) (c : Coord) (u : Uid) (b : Branch) (d : Doing)
    (st : CommitStep) (S T : State) → IsFreeToEnd act paths c u b d → IsOnPage act code x p c S → SeesWhole act code x c S →
    OnlyEnded (root (act u)) S T
    → T.now ≡ now_by st (length p.lines + 1 + 1) (length p.lines + 1 + 1) →
    ChangesOne (act u) (moved_by st (length p.lines + 1 + 1) (called_at (length p.lines + 1) (S.action (act u)))) S T
    → IsTiedToLines act code p.values x (p.lines ++ numbered p.event (body.Committing d.label ∷ said_by st d.label)) T
top_said act code paths x p c u b d st S T free on whole only now o =
    subst (λ ls. IsTiedToLines act code p.values x ls T) (lines_behind p (body.Committing d.label ∷ []) (said_by st d.label))
    (step_tied act code x (page_called p d) c u b d free.there free.works behind_first T on1 st (first_stays (root (act u)) S T only)
    (calls_stay (root (act u)) S T only) (now ∙ (λ i. now_by st (same_place i) (length p.lines + 1 + 1))) (record {
      one = λ its_one. o.one its_one ∙ (λ i. moved_by st (same_place i) (sym (act_here S.action (act u) called) i));
      others = λ a its_one other. o.others a its_one other ∙ sym (act_other S.action (act u) called a other);
    }) (λ its_one. let e : (behind_first.action (act u)).stage ≡ 1 = ap (λ (v : Action). v.stage) (act_here S.action (act u) called) in
    omega (arith, e)))
  where
    l : IsLabelled p.lines u b d
    l = on.labels u b d free.there free.works

    called : Action
    called = called_at (length p.lines + 1) (S.action (act u))

    behind_first : State
    behind_first = record S { action = at_act S.action (act u) called; now = length p.lines + 1 + 1 }

    -- where the next line stands
    same_place : length p.lines + 1 + 1 ≡ length (page_called p d).lines + 1
    same_place = let e = length_more p.lines (record { event = p.event; body = body.Committing d.label }) in omega (arith, e)

    zero_now : is_action (act u) ≡ true → (S.action (act u)).stage ≡ 0
    zero_now its_one = let k = whole.coord in let a = k.actions in let s = a.each u b d free.there free.works its_one in
        s.stage ∙ (λ i. stage_of (unended_none b.ended free.unended i) (free.idle i))

    on1 : IsOnPage act code x (page_called p d) c behind_first
    on1 = page_still act code x p c S behind_first (body.Committing d.label) refl on
        (one_tied act code x p c S behind_first on (body.Committing d.label) refl (omega arith) (
          (refl, refl),
          (
            l.0,
            l.1,
            subst (λ (v : Uid). is_action (act v) ≡ true → (S.action (act v)).stage ≡ 0) (sym l.2) zero_now,
            subst (λ (v : Uid). ChangesOne (act v) (called_at (length p.lines + 1) (S.action (act v))) S behind_first) (sym l.2) (record {
              one = λ its_one. act_here S.action (act u) called;
              others = λ a its_one other. act_other S.action (act u) called a other;
            }),
          ),
        ))
