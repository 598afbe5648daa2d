-- The lines of a commit's exclusions, and what a commit has marked once naming is asked.
use Rattle.arj_law_parts.proofs.Words
use Words.{◌≡◌, ◌∙◌, ◌++◌, ◌==◌, ℕ, true, List, [], ◌∷◌, Some, refl, sym, ap, subst, inl, inr, ⊎_elim, eqb-true, option_map, list_any}
use Words.{or_cases, Line, Body, Label, Path, Uid, name, Reply, mark_lines, CommitStep, Confirming, Machine, Plan, Preparing, Used, Voting}
use Words.{begin_confirm, begin_prepare, begin_vote, marks_store, marks_stores, servers_of, targets_of, Coord, Doing, Root, doing_of}
use Words.{plan_for, say_for, says, without_number}
use Words.list
use Words.body
use Words.prepared
use Words.voted
use Words.confirmed
use Words.commit
use Rattle.arj_law_promise.proofs.Terms
use Terms.{Act, act_in, acts, Book, book, book_from, is_top, new_book, turned, AreRight, Right, book_more, is_sound, right_front}
use Terms.{was_excluded, IsNext}
use Rattle.arj_law_promise.proofs.settling
use settling.{Causes.excluded_more, Causes.excluded_said, Cores.HasMarks, Yeses.IsMarked}
use settling.Trails.{HasLine, SaysIn, says_left, says_right}
use Rattle.arj_law_runs.proofs.journal.Books.{still_named}

-- ---- which lines are said

in_marks : (n : ℕ) (ms : List (ℕ × ℕ)) → list_any (λ (m : ℕ × ℕ). m.1 == n) ms ≡ true → (x : ℕ) × list.In (x, n) ms
in_marks n [] is = absurd (cc is)
in_marks n (m ∷ ms) is = ⊎_elim (λ here. (m.0, inl (λ i. (m.0, eqb-true m.1 n here i)))) (λ there. let r = in_marks n ms there in
    (r.0, inr r.1)) (or_cases (m.1 == n) (list_any (λ (z : ℕ × ℕ). z.1 == n) ms) is)

-- a mark has its line
mark_said : (u : Uid) (c : Coord) (d : Doing) → doing_of u c ≡ Some d → (ms : List (ℕ × ℕ)) (x n : ℕ) → list.In (x, n) ms →
    SaysIn (body.Excluded d.label x n) (mark_lines u ms c)
mark_said u c d found [] x n i = absurd i
mark_said u c d found (m ∷ ms) x n (inl same) = says_left (body.Excluded d.label x n) (says u (λ l. body.Excluded l m.0 m.1) c)
    (mark_lines u ms c) (subst (λ (z : ℕ × ℕ). SaysIn (body.Excluded d.label x n) (says u (λ l. body.Excluded l z.0 z.1) c)) (sym same)
    (subst (λ o. SaysIn (body.Excluded d.label x n) (say_for (λ l. body.Excluded l x n) o)) (sym found) (inl refl)))
mark_said u c d found (m ∷ ms) x n (inr i) =
    says_right (body.Excluded d.label x n) (says u (λ l. body.Excluded l m.0 m.1) c) (mark_lines u ms c) (mark_said u c d found ms x n i)

-- a label goes on standing for its action
named_turn : (B : Book) (b : Body) → Right B b → (l : List ℕ) (a : Act) → act_in B.acts l ≡ Some a →
    act_in (let V = turned B b in V.acts) l ≡ Some a
named_turn B (body.Began q h u p) right l a is =
    still_named B.acts (record { id = _; label = name q; kind = h; uid = u; parent = option_map name p }) right.0 l a is
named_turn B (body.Committing q) right l a is = is
named_turn B (body.Committed q) right l a is = is
named_turn B (body.Aborted q c) right l a is = is
named_turn B (body.Ended q) right l a is = is
named_turn B (body.Recovered n w) right l a is = is
named_turn B (body.Ok q x o r) right l a is = is
named_turn B (body.Includes q x n) right l a is = is
named_turn B b right l a is = is

named_from : (B : Book) (ls : List Line) → AreRight B ls → (l : List ℕ) (a : Act) → act_in B.acts l ≡ Some a →
    act_in (let V = book_from B ls in V.acts) l ≡ Some a
named_from B [] right l a is = is
named_from B (x ∷ ls) right l a is = named_from (turned B x.body) ls right.1 l a (named_turn B x.body right.0 l a is)

right_rest : (B : Book) (xs ys : List Line) → AreRight B (xs ++ ys) → AreRight (book_from B xs) ys
right_rest B [] ys right = right
right_rest B (x ∷ xs) ys right = right_rest (turned B x.body) xs ys right.1

-- who was excluded by a line behind these
pub excluded_line : (first lines : List Line) (l : Label) (a : Act) (x n : ℕ) → AreRight new_book lines → act_in (let B = book first in
    B.acts) (name l) ≡ Some a → is_top a.kind ≡ true → HasLine first lines (body.Excluded l x n) → was_excluded lines n a.uid ≡ true
excluded_line first lines l a x n right named top h =
    let line : Line = record { event = h.event; body = body.Excluded l x n } in
    let front = right_front new_book h.before (line ∷ h.behind) (subst (AreRight new_book) h.are right) in
    let rest = right_rest new_book first h.rest (subst (AreRight new_book) h.from front) in
    let later : act_in (let B = book h.before in B.acts) (name l) ≡ Some a = subst (λ B. act_in (let V = B in V.acts) (name l) ≡ Some a)
    (sym (ap book h.from ∙ book_more new_book first h.rest)) (named_from (book first) h.rest rest (name l) a named) in
    let model : act_in (acts h.before) (name l) ≡ Some a = subst (λ us. act_in us (name l) ≡ Some a) (let s = is_sound h.before front in
    let r = s.reads in r.begun) later in
    subst (λ ls. was_excluded ls n a.uid ≡ true) (sym (h.are ∙ sym (one_more h.before line h.behind)))
    (excluded_more (h.before ++ line ∷ []) h.behind n a.uid (excluded_said h.before front l a model top h.event x n))
  where
    one_more : (xs : List Line) (y : Line) (ys : List Line) → (xs ++ y ∷ []) ++ ys ≡ xs ++ y ∷ ys
    one_more [] y ys = refl
    one_more (z ∷ xs) y ys = ap (λ zs. z ∷ zs) (one_more xs y ys)

-- ---- the steps of a commit

module _ (lines : List Line) (u : Uid) where
  abbrev Next : CommitStep → Type 0
  Next s = IsNext (HasMarks lines) u s

  abbrev Excludes : List (ℕ × ℕ) → Type 0
  Excludes ms = (n : ℕ) → list_any (λ (m : ℕ × ℕ). m.1 == n) ms ≡ true → was_excluded lines n u ≡ true

  confirm_marks : (us : List Used) (q : Plan) → Excludes q.excluded → Next (begin_confirm us q)
  confirm_marks [] q each = tt
  confirm_marks (x ∷ us) q each = each

  prepare_marks : (ns : List ℕ) (q : Plan) → ((n : ℕ) → IsMarked q n → ⊥) → Next (begin_prepare ns q)
  prepare_marks [] q none = confirm_marks q.used q (λ n marked. absurd (none n marked))
  prepare_marks (s ∷ ss) q none = tt

  votes_marks : (ns : List ℕ) (q : Plan) → ((n : ℕ) → IsMarked q n → ⊥) → Next (commit.votes_left ns q)
  votes_marks [] q none = prepare_marks (targets_of q) q none
  votes_marks (s ∷ ss) q none = none

  stores_marks : (ns : List ℕ) (q : Plan) → Excludes (commit.stores_left ns q).marks → Next (commit.stores_left ns q).step
  stores_marks [] q each = confirm_marks q.used q each
  stores_marks (s ∷ ss) q each = tt

  pub answer_marks : (from : ℕ) (m : Machine) (r : Reply) → HasMarks lines u m → Excludes (commit.answered from m r).marks →
      Next (commit.answered from m r).step
  answer_marks from (Voting p left) (Reply.Voted (voted.Yes states)) has each =
      votes_marks (without_number from left) (record p { changed = commit.with_states states p.changed }) has
  answer_marks from (Voting p left) (Reply.Voted (voted.Changed w)) has each = tt
  answer_marks from (Voting p left) (Reply.Bound r) has each = has
  answer_marks from (Voting p left) (Reply.Loaded r) has each = has
  answer_marks from (Voting p left) (Reply.Activated r) has each = has
  answer_marks from (Voting p left) (Reply.Noted r) has each = has
  answer_marks from (Voting p left) (Reply.Invoked r) has each = has
  answer_marks from (Voting p left) (Reply.Prepared r) has each = has
  answer_marks from (Voting p left) (Reply.Confirmed r) has each = has
  answer_marks from (Preparing p left) (Reply.Prepared prepared.Yes) has each = stores_marks (without_number from left) _ each
  answer_marks from (Preparing p left) (Reply.Prepared (prepared.InDoubt x h)) has each =
      stores_marks (without_number from left) (marks_store from p) each
  answer_marks from (Preparing p left) (Reply.Prepared (prepared.Old x w)) has each = tt
  answer_marks from (Preparing p left) (Reply.Bound r) has each = tt
  answer_marks from (Preparing p left) (Reply.Loaded r) has each = tt
  answer_marks from (Preparing p left) (Reply.Activated r) has each = tt
  answer_marks from (Preparing p left) (Reply.Noted r) has each = tt
  answer_marks from (Preparing p left) (Reply.Invoked r) has each = tt
  answer_marks from (Preparing p left) (Reply.Voted r) has each = tt
  answer_marks from (Preparing p left) (Reply.Confirmed r) has each = tt
  answer_marks from (Confirming p) (Reply.Confirmed confirmed.Yes) has each = tt
  answer_marks from (Confirming p) (Reply.Confirmed (confirmed.Conflict h m)) has each = tt
  answer_marks from (Confirming p) (Reply.Confirmed (confirmed.Changed w)) has each = tt
  answer_marks from (Confirming p) (Reply.Confirmed (confirmed.NoStores x)) has each = tt
  answer_marks from (Confirming p) (Reply.Confirmed (confirmed.Listed x s)) has each = tt
  answer_marks from (Confirming p) (Reply.Bound r) has each = has
  answer_marks from (Confirming p) (Reply.Loaded r) has each = has
  answer_marks from (Confirming p) (Reply.Activated r) has each = has
  answer_marks from (Confirming p) (Reply.Noted r) has each = has
  answer_marks from (Confirming p) (Reply.Invoked r) has each = has
  answer_marks from (Confirming p) (Reply.Voted r) has each = has
  answer_marks from (Confirming p) (Reply.Prepared r) has each = has

  pub giveup_marks : (m : Machine) → Excludes (commit.given_up m).marks → Next (commit.given_up m).step
  giveup_marks (Voting p left) each = tt
  giveup_marks (Preparing p left) each = stores_marks [] (marks_stores left p) each
  giveup_marks (Confirming p) each = tt

  -- as a commit begins nothing is marked
  pub start_marks : (path : Path) (req : ℕ) (r : Root) (c : Coord) → Next (commit.start (plan_for path req r c)).step
  start_marks path req r c = by (servers_of (plan_for path req r c))
    where
      by : (ns : List ℕ) → Next (begin_vote ns (plan_for path req r c))
      by [] = prepare_marks (targets_of (plan_for path req r c)) (plan_for path req r c) (λ n marked. cc marked)
      by (s ∷ ss) = λ n marked. cc marked

  -- each mark whose line is said is of an excluded store
  pub excludes : (c : Coord) (d : Doing) → doing_of u c ≡ Some d → (ms : List (ℕ × ℕ)) →
      ((x n : ℕ) → SaysIn (body.Excluded d.label x n) (mark_lines u ms c) → was_excluded lines n u ≡ true) → Excludes ms
  excludes c d found ms each n marked = let i = in_marks n ms marked in each i.0 n (mark_said u c d found ms i.0 n i.1)
