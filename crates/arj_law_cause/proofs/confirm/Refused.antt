-- Where a coordinator says that naming refused a commit for a listed store, or since no store would be left, the line has its cause.
use Rattle.arj_law_parts.proofs.Words
use Words.{⊤, ◌≡◌, ◌≤◌, ◌∙◌, ◌==◌, ◌&&◌, not, ℕ, Bool, true, false, if◌then◌else◌, List, [], ◌∷◌, length, map, Some}
use Words.{refl, sym, ap, subst, inl, inr, ⊎_elim, is_some, list_all, and_parts, eqb-true, AllByRecursion, In, Asked}
use Words.{ConfirmedReply, Mode, cond, entry, in_from, take, top_path, tops_of, uids_of}
use Words.{Header, Line, Message, Reply, Start, Uid, actor, answers, is_listed, name, marked, Confirming}
use Words.{Plan, Used, confirm_ask, included_of, is_marked, waits_for_commit, Committing, Doing, doing_of, Disk, Parts, Node, Seen}
use Words.{is_own, filter, last_uid, list_any, is_on, top_of, Option, None, Kind, End, ◌||◌}
use Words.{is_committing_now, is_waiting_now, has, Body, ask_kind, reply_kind, Label}
use Words.body
use Words.cause
use Words.confirmed
use Words.frame
use Words.mode
use Rattle.arj_promise.specs.Runs.{HeaderFits}
use Rattle.arj_law_disk_view.proofs.Terms.{or_cases, or_left, or_right, plan_at, test_same}
use Rattle.arj_law_disk_view.proofs.view.ConfirmSteps.{marked_is}
use Rattle.arj_law_lock_view.proofs.Terms.{same_number, some_is}
use Rattle.arj_law_lock_view.proofs.facts.Requests.{requests_keep}
use Rattle.arj_law_lock_view.specs.facts.Entries.{HasObject}
use Rattle.arj_law_lock_view.specs.facts.Requests.{IsAskedBy, RequestsAreKnown}
use Rattle.arj_law_lock_view.specs.moments.Made.{AnswersAreMade, AnswersTo, BeginsWith}
use Rattle.arj_law_parts.proofs.moves.Happens.{Wide, keeps_asked}
use Rattle.arj_law_parts.specs.moves.Moments.{Moment, up}
use Rattle.arj_law_parts.specs.moves.Seen as seen
use Rattle.arj_law_parts.specs.parts.Requests.{IsNumbered}
use Rattle.arj_law_promise.proofs.meant.Requests.{meant_keep}
use Rattle.arj_law_promise.specs.meant.Meant.{AskFits, MeantAreKnown}
use Rattle.arj_law_runs.proofs.follow.Halts.{KnowsAll, halts_keep}
use Rattle.arj_law_runs.proofs.journal.{Models.its_acts, Models.its_sound}
use Rattle.arj_law_runs.proofs.journal.Closed.{stands_lines, stands_new}
use Rattle.arj_law_runs.specs.journal.Book.{Book, book, is_decided, is_top, new_book}
use Rattle.arj_law_runs.specs.journal.Knows.{IsEnd}
use Rattle.arj_law_serial.proofs.order.Order.{own as own_top}
use Rattle.arj_law_cause.proofs.rows.Paths.{uid_of_top}
use Rattle.arj_law_cause.specs.rows.Early.{IsEarly}
use Rattle.arj_law_cause.proofs.confirm.{Called.called_more, Entries.decided_more}
use Rattle.arj_model.specs.Actions.{top_in}
use Rattle.arj_law_runs.specs.journal.Right.{AreRight}
use Rattle.arj_law_serial.proofs.Terms.{IsKept, MarksAreSaid, kept_both, lines_keep, was_marked}
use Rattle.arj_law_serial.proofs.joint.{Clean.object_some, JoinModel.joined, Leaving.left, MarkRuns.marks_given, MarkRuns.own_doing}
use Rattle.arj_law_serial.specs.joint.Joins.{has_included}
use Rattle.arj_model.specs.Actions.{Act, act_in, acts}
use Rattle.arj_model.specs.CauseCommits.{is_listed_before, leaves_all, leaves_none}
use Rattle.arj_model.specs.CauseSpans.{Here, answered, commit_here, commits_so}
use Rattle.arj_model.specs.Last.{is_among, joins_of, leaves_of, listed, object_line}
use Rattle.arj_model.specs.Refusals.{is_committing}
use Rattle.arj_law_cause.proofs.confirm.{Called.Based, Called.BasedCalled, Called.called_keep, Called.is_called, Included.included_join}
use Rattle.arj_law_cause.proofs.confirm.{Included.none_left, Joined.early_before, Plain.why_of, Reached.Reached}
use Rattle.arj_law_cause.proofs.confirm.{Reached.reached_has}
use Rattle.arj_law_cause.proofs.confirm.{Says.confirms_so, Says.refuses}
use Rattle.arj_law_cause.proofs.confirm.{Says.says_of, Spans.commits_at, Spans.place}
use Rattle.arj_law_cause.proofs.rows.Paths.{label_path}
use Rattle.arj_law_cause.proofs.rows.Spans.{answered_at}
use Rattle.arj_law_parts.specs.parts.Messages.{FitsAsk, FitsAsked, IsAsker}
use Rattle.arj_law_serial.proofs.Terms.{AreAlike, AreDistinct, act_of, path, path_by, uids}
use Rattle.arj_law_serial.proofs.holding.{Running.Showing, Running.alike_of}
use Rattle.arj_law_serial.proofs.tables.Holders.{path_fits}
use Rattle.arj_model.specs.Actions.{tops_in}
use Rattle.arj_law_cause.proofs.rows.Entered.{IsSettled}
use Rattle.arj_model.specs.CauseAnswers.{meets}
use Rattle.arj_model.specs.CauseCommits.{commit_differs, confirm_meets, is_old}
use Rattle.arj_model.specs.CauseSpans.{top_uids}
use Rattle.arj_model.specs.Last.{Exclusion, excluded}
use Rattle.arj_law_serial.proofs.Terms.{Placed}
use Rattle.arj_law_cause.proofs.confirm.{Says.MeetsRow, Says.Shows}
use Rattle.arj_law_cause.proofs.waits.waiting.{Acting.Stands, Waiting.commit_is}
use Rattle.arj_law_cause.proofs.waits.waiting.Acting as acting
use Rattle.arj_law_cause.proofs.confirm.Ups.{UpsRise}

-- ---- lists

all_each : (f : ℕ → Bool) (ss : List ℕ) → ((s : ℕ) → is_among ss s ≡ true → f s ≡ true) → list_all f ss ≡ true
all_each f [] each = refl
all_each f (s ∷ ss) each = λ i. each s (or_left (s == s) (is_among ss s) (test_same s)) i
    && all_each f ss (λ r on. each r (or_right (s == r) (is_among ss r) on)) i

all_to : (f g : ℕ → Bool) (ss : List ℕ) → ((s : ℕ) → f s ≡ true → g s ≡ true) → list_all f ss ≡ true → list_all g ss ≡ true
all_to f g [] to all = refl
all_to f g (s ∷ ss) to all = let z = and_parts (f s) (list_all f ss) all in λ i. to s z.0 i && all_to f g ss to z.1 i

object_of : (hd : Header) (us : List Used) → AllByRecursion (λ (g : ℕ × ℕ). HasObject hd g.0)
    (map {A = Used} {B = ℕ × ℕ} (λ u. (u.x, u.grant)) us) → (u : Used) → In u us → HasObject hd u.x
object_of hd [] all u i = absurd i
object_of hd (v ∷ vs) all u (inl same) = subst (λ (w : Used). HasObject hd w.x) same all.0
object_of hd (v ∷ vs) all u (inr more) = object_of hd vs all.1 u more

-- one of the exclusions of a top passes, if one for this object would
excluded_any : (g : ℕ → Bool) (id y s : ℕ) (es : List (Placed Exclusion)) → g y ≡ true →
    is_among (map (λ (e : Placed Exclusion). e.it.node) (filter (λ (e : Placed Exclusion). (e.it.top == id) && (e.it.x == y)) es)) s
    ≡ true →
    list_any (λ (e : Placed Exclusion). (e.it.top == id) && g e.it.x) es ≡ true
excluded_any g id y s [] so is = absurd (cc is)
excluded_any g id y s (e ∷ es) so is = by ((e.it.top == id) && (e.it.x == y)) refl is (λ more. excluded_any g id y s es so more)
  where
    by : (b : Bool) → ((e.it.top == id) && (e.it.x == y)) ≡ b →
        is_among (map (λ (f : Placed Exclusion). f.it.node)
        (cond b (e ∷ filter (λ (f : Placed Exclusion). (f.it.top == id) && (f.it.x == y)) es)
        (filter (λ (f : Placed Exclusion). (f.it.top == id) && (f.it.x == y)) es))) s ≡ true →
        (is_among (map (λ (f : Placed Exclusion). f.it.node) (filter (λ (f : Placed Exclusion). (f.it.top == id) && (f.it.x == y)) es)) s
        ≡ true →
        list_any (λ (f : Placed Exclusion). (f.it.top == id) && g f.it.x) es ≡ true) →
        list_any (λ (f : Placed Exclusion). (f.it.top == id) && g f.it.x) (e ∷ es) ≡ true
    by true at on ih = let q = and_parts (e.it.top == id) (e.it.x == y) at in
        or_left ((e.it.top == id) && g e.it.x) (list_any (λ (f : Placed Exclusion). (f.it.top == id) && g f.it.x) es)
        (λ i. q.0 i && (ap g (eqb-true e.it.x y q.1) ∙ so) i)
    by false at on ih = or_right ((e.it.top == id) && g e.it.x) (list_any (λ (f : Placed Exclusion). (f.it.top == id) && g f.it.x) es)
        (ih on)

-- an action that has no end, and that no restart has found, isn't decided
undecided_so : (B : Book) (u : Uid) (k : Kind) (o : Option End) → is_some o ≡ false → IsEnd B u k o → is_decided B u ≡ false
undecided_so B u k (Some e) none is = absurd (cc none)
undecided_so B u k None none is = (λ i. front (is_on B.committed u) (is_on B.aborted u || is_on B.ended u) is.0 i || is.1 i)
  where
    front : (x y : Bool) → (x || y) ≡ false → x ≡ false
    front true y e = absurd (cc e)
    front false y e = refl

-- ---- what a line says

-- Where a commit was refused the line has its cause, by these lines before it, as long as they are early, and settled where a store refused
-- it, in a run with this start.
abbrev pub Fits : Header → Start → List Line → Body → Type 0
Fits hd st lines (body.Aborted l (cause.Listed y s)) =
    IsEarly lines → (h : Here) → h.header ≡ hd → h.lines ≡ lines → is_listed_before h (name l) y s ≡ true
Fits hd st lines (body.Aborted l (cause.NoStores y)) =
    IsEarly lines → (h : Here) → h.header ≡ hd → h.lines ≡ lines → leaves_none h (name l) y ≡ true
Fits hd st lines (body.Aborted l (cause.Conflict u m n)) =
    IsEarly lines → (h : Here) → h.header ≡ hd → h.lines ≡ lines → confirm_meets h (name l) u m n ≡ true
Fits hd st lines (body.Aborted l (cause.Old n y v)) = IsSettled lines → (h : Here) → h.header ≡ hd → h.start ≡ st → h.lines ≡ lines →
    is_old h (name l) n y v ≡ true
Fits hd st lines (body.Aborted l (cause.Changed n d)) = IsSettled lines → UpsRise st lines → (h : Here) → h.header ≡ hd → h.start ≡ st →
    h.lines ≡ lines → commit_differs h (name l) n d ≡ true
Fits hd st lines b = ⊤

-- ---- at the coordinator

module _ (hd : Header) (st : Start) (form : HeaderFits hd) (before : List Line) (event : ℕ) (k : ℕ) (d : Disk) (t : Parts) (M : Moment)
    (tabled : Shows hd before event (up k d t M)) (made : AnswersAreMade (confirms_so hd st) (up k d t M)) (from : ℕ) (m : Message)
    (sent_it : seen.In (record { from = from; to = k; message = m }) M.seen.sent) (a : Asked) (q : ConfirmedReply)
    (answer : answers m ≡ Some (a, Reply.Confirmed q)) (w : Doing) (p : Plan) (found : doing_of a.act t.coord ≡ Some w)
    (now : w.now ≡ Committing (Confirming p)) (waits : waits_for_commit from a (Reply.Confirmed q) (Confirming p) ≡ true) where
  abbrev known : Wide (Reached hd) (up k d t M)
  known = tabled.1

  abbrev Z : Seen
  Z = let N = up k d t M in seen.with_sent known.0 N.seen

  abbrev lines : List Line
  lines = M.seen.lines

  mine : Node
  mine = record { number = k; disk = d; live = Some t }

  here : (let N = up k d t M in N.seen.nodes k) ≡ Some (record { number = k; disk = d; live = Some t })
  here = λ i. if same_number k i then Some (record { number = k; disk = d; live = Some t }) else M.seen.nodes k

  all : KnowsAll Z
  all = reached_has hd KnowsAll (keeps_asked hd KnowsAll (halts_keep hd)) Z known.2

  right : AreRight new_book M.seen.lines
  right = let z = acting.written Z all k (record { number = k; disk = d; live = Some t }) t here refl in z.right

  stands : Stands Z all k (record { number = k; disk = d; live = Some t }) t here refl a.act w
  stands = acting.stands Z all k (record { number = k; disk = d; live = Some t }) t here refl a.act w found

  under : is_committing M.seen.lines (name w.label) ≡ true
  under = commit_is Z all k (record { number = k; disk = d; live = Some t }) t here refl a.act w found stands ∙ ap is_committing_now now

  own : is_own a.act t.coord.tree ≡ true
  own = own_doing a.act t.coord w found

  -- ---- the answer

  ans : AnswersTo (confirms_so hd st) ⊥ (up k d t M) from k a (Reply.Confirmed q)
  ans = made.sent (record { from = from; to = k; message = m }) a (Reply.Confirmed q) sent_it answer

  asker : actor (let h = ans.0 in h.path) ≡ a.act
  asker = ap (λ (b : Asked). b.act) ans.2

  its_parts : ((p.req == a.req) ≡ true) × ((has (1 ∷ []) from) ≡ true)
  its_parts =
      let z = and_parts (p.req == a.req) ((reply_kind (Reply.Confirmed q) == ask_kind (confirm_ask p)) && has (1 ∷ []) from) waits in
      (z.0, (and_parts (reply_kind (Reply.Confirmed q) == ask_kind (confirm_ask p)) (has (1 ∷ []) from) z.1).1)

  one : from ≡ 1
  one = ⊎_elim (λ is. sym (eqb-true 1 from is)) (λ never. absurd (cc never)) (or_cases (1 == from) false its_parts.1)

  asked_for : IsAskedBy t.coord (let z = ans.3 in let r = z.request in r.to) ans.0 ans.1
  asked_for =
      let z = ans.3 in
      let known_now : RequestsAreKnown Z = reached_has hd RequestsAreKnown (keeps_asked hd RequestsAreKnown (requests_keep hd)) Z known.2 in
      known_now.1 k (record { number = k; disk = d; live = Some t }) t here refl z.request ans.0 ans.1 (known.1 z.request z.posted) z.from
      z.asking (ap (λ v. is_own v t.coord.tree) asker ∙ own)

  doing_is : (let z = asked_for in z.doing) ≡ w
  doing_is = let z = asked_for in some_is (sym z.found ∙ ap (λ v. doing_of v t.coord) asker ∙ found)

  numbered : p.req ≡ w.req
  numbered = (subst (IsNumbered w.req) now (acting.numbered Z all k
      (record { number = k; disk = d; live = Some t }) t here refl a.act w found)).0

  its_ask : ans.1 ≡ confirm_ask p
  its_ask = let z = asked_for in (z.commit (Confirming p) (ap (λ (x : Doing). x.now) doing_is ∙ now)
      (ap (λ (b : Asked). b.req) ans.2 ∙ sym (eqb-true p.req a.req its_parts.0) ∙ numbered ∙ ap (λ (x : Doing). x.req) (sym doing_is))).1

  so : says_of hd st ans.0 (confirm_ask p) (Reply.Confirmed q) (let z = ans.3 in z.made.before)
  so = let z = ans.3 in subst (λ b. says_of hd st ans.0 b (Reply.Confirmed q) z.made.before) its_ask z.made.so.0

  fits : AskFits hd (confirm_ask p)
  fits = let z = ans.3 in
      let known_now : MeantAreKnown hd Z = reached_has hd (MeantAreKnown hd) (meant_keep hd form) Z known.2 in
      subst (AskFits hd) its_ask (known_now.1 z.request ans.0 ans.1 (known.1 z.request z.posted) z.asking)

  -- ---- the action

  its_uid : (let s = stands in let b = s.act in b.uid) ≡ a.act
  its_uid = let s = stands in s.uid

  home : k ≡ (let s = stands in let b = s.act in b.uid.node)
  home = sym (ap (λ (u : Uid). u.node) its_uid
      ∙ eqb-true a.act.node t.coord.tree.node (and_parts (a.act.node == t.coord.tree.node) (a.act.inc == t.coord.tree.inc) own).0
      ∙ acting.node_is Z all k (record { number = k; disk = d; live = Some t }) t here refl)

  called : is_called (let z = ans.3 in z.made.before) (let s = stands in let b = s.act in b.uid)
  called = subst (is_called (let z = ans.3 in z.made.before)) (asker ∙ sym its_uid) so.0

  -- its plan has the journal's includes and exclusions
  joins_so : (x s : ℕ) →
      is_among (joins_of M.seen.lines (let b = stands in let c = b.act in c.id) x) s ≡ has (let z = plan_at x p in z.joins) s
  joins_so x s =
      let b = stands in
      let based : Based Z = (reached_has hd BasedCalled (called_keep hd) Z known.2).0 in
      let f = (based.1 k (record { number = k; disk = d; live = Some t }) t here refl).1 a.act w (Confirming p) found now in
      let same : f.0 ≡ b.act = some_is (sym f.1 ∙ ap (λ us. act_in us (name w.label)) (its_acts M.seen.lines right) ∙ b.named) in
      sym (joined M.seen.lines right x b.act b.began s) ∙ ap (λ (c : Act). has_included (book M.seen.lines) c.uid x s) (sym same)
      ∙ sym (let z = f.3 in z.same x s)

  leaves_so : (x s : ℕ) → is_among (leaves_of M.seen.lines (let b = stands in let c = b.act in c.id) x) s ≡ is_marked x s p
  leaves_so x s =
      let b = stands in
      let said : IsKept Z × MarksAreSaid Z = reached_has hd (λ N. IsKept N × MarksAreSaid N) (keeps_asked hd
      (λ N. IsKept N × MarksAreSaid N)
      (kept_both hd IsKept MarksAreSaid (lines_keep hd) (marks_given hd))) Z known.2 in
      sym (left M.seen.lines right x b.act b.began s) ∙ ap (λ l. was_marked M.seen.lines l x s) b.label
      ∙ said.1 k (record { number = k; disk = d; live = Some t }) t a.act w here refl found (Confirming p) now x s

  -- ---- the path

  abbrev base : Wide (Showing hd (length before) event) (up k d t M)
  base = tabled.0.0.1

  asker_fits : IsAsker base.2.0 (let h = ans.0 in h.path)
  asker_fits =
      let good = base.2.1.0.1.0 in
      let z = ans.3 in
      let r = z.request in
      subst (λ b. FitsAsk base.2.0 ans.0 b) its_ask (subst (FitsAsked base.2.0 r.message) z.asking (good.fits r (base.1 r z.posted)))

  tops_same : top_uids (path (acts M.seen.lines) (name w.label)) ≡ top_path (let h = ans.0 in h.path)
  tops_same =
      let good = base.2.1.0.1.0 in
      let a = asker_fits in
      let alike : AreAlike base.2.0 (acts M.seen.lines) = alike_of hd (length before) event base.2.0
      (let N = up k d t M in seen.with_sent base.0 N.seen) base.2.1.0 in
      let f = path_fits base.2.0 (acts M.seen.lines) good.begun alike a.0 (in_from a.0 base.2.0 a.1) in
      let distinct : AreDistinct (acts M.seen.lines) = (let z = its_sound M.seen.lines right in z.distinct) in
      let same : path (acts M.seen.lines) (name w.label) ≡ path_by (acts M.seen.lines) (act_of a.0) =
      label_path (acts M.seen.lines) distinct (name w.label) (let s = stands in s.act) (let s = stands in s.named)
      ∙ ap (path_by (acts M.seen.lines)) (its_uid ∙ sym asker ∙ ap actor (sym a.2)) in
      let tops : tops_in (path (acts M.seen.lines) (name w.label)) ≡ tops_of (let b = a.0 in b.path) =
      ap tops_in same ∙ (let z = f.actor_is in z.tops_are) in
      let its : uids (path (acts M.seen.lines) (name w.label)) ≡ uids_of (let b = a.0 in b.path) =
      ap uids same ∙ (let z = f.actor_is in z.path_is) in
      (λ i. take (tops i) (its i)) ∙ ap top_path a.2

  -- it is a top, and is the one of its path
  asks_top : actor (let h = ans.0 in h.path) ≡ top_of (let h = ans.0 in h.path)
  asks_top =
      let b = (let s = stands in s.act) in
      let began : In b (acts M.seen.lines) = (let s = stands in s.began) in
      let on : is_on (let B = book M.seen.lines in B.called) b.uid ≡ true =
      (let z = ans.3 in subst (λ ls. is_called ls b.uid) (sym z.made.are) (called_more z.made.before z.made.after b.uid called)) in
      let kind : is_top b.kind ≡ true = (let s = stands_lines new_book M.seen.lines right stands_new in
      let c = s.closes in c.calls b (subst (In b) (sym (its_acts M.seen.lines right)) began) on) in
      let its : top_in (path (acts M.seen.lines) (name w.label)) ≡ Some b =
      ap (λ l. top_in (path (acts M.seen.lines) l)) (sym (let s = stands in s.label)) ∙ own_top M.seen.lines right b began kind in
      asker ∙ sym its_uid ∙ uid_of_top (path (acts M.seen.lines) (name w.label)) b its ∙ ap last_uid tops_same

  -- and its outcome is open
  undecided : is_decided (book M.seen.lines) a.act ≡ false
  undecided =
      let u = acting.up Z all k (record { number = k; disk = d; live = Some t }) t here refl in
      let s = stands in
      let known = u.knows.acts a.act s.branch w s.found found in
      undecided_so (book M.seen.lines) a.act (let b = s.branch in b.kind) (let b = s.branch in b.ended)
      (acting.open_waits Z all k (record { number = k; disk = d; live = Some t }) t here refl a.act w found (ap is_waiting_now now)
      s.branch s.found) known.end

  -- ---- the row, where the line comes

  module _ (h : Here) where
    -- behind these lines
    abbrev there : Here
    there = record h { header = hd; lines = M.seen.lines }

    its_place : (c : ℕ) × (commit_here (record h { header = hd; lines = M.seen.lines }) (name w.label) ≡ Some c)
        × (c ≤ length (let z = ans.3 in z.made.before))
    its_place = place there (name w.label) (let z = ans.3 in z.made.before) (let z = ans.3 in z.made.after)
        (let z = ans.3 in z.made.are) right
        (let s = stands in s.act) (let s = stands in s.named) under called

    shown : (c : ℕ) → c ≤ length (let z = ans.3 in z.made.before) → (shows : List Line → Bool) →
        shows (let z = ans.3 in z.made.before) ≡ true →
        answered (record h { header = hd; lines = M.seen.lines }) c (let s = stands in let b = s.act in b.uid.node) 1
        (frame.Confirmed ∷ []) shows
        ≡ true
    shown c late shows is = let z = ans.3 in
        answered_at (record h { header = hd; lines = M.seen.lines }) c (let s = stands in let b = s.act in b.uid.node) 1 frame.Confirmed
        (frame.Confirmed ∷ []) shows z.made.before z.made.after z.made.are late
        (⊎_elim (λ same. inl (sym one ∙ same ∙ home))
        (λ f. ⊎_elim (λ begins. inr (subst (λ j. BeginsWith 1 j frame.Confirmed z.made.after) home
        (subst (λ j. BeginsWith j k frame.Confirmed z.made.after) one begins))) (λ never. absurd never) f) z.made.framed) refl is

    early_place : IsEarly M.seen.lines → IsEarly (let z = ans.3 in z.made.before)
    early_place early = let z = ans.3 in early_before z.made.before z.made.after (subst IsEarly z.made.are early)

    at_place_so : (row : Act → ℕ → Bool) → row (let s = stands in s.act) its_place.0 ≡ true →
        commits_so (record h { header = hd; lines = M.seen.lines }) (name w.label) row ≡ true
    unfolding its_place
    at_place_so row is = commits_at (record h { header = hd; lines = M.seen.lines }) (name w.label) (let z = ans.3 in z.made.before)
        (let z = ans.3 in z.made.after) (let z = ans.3 in z.made.are) right (let s = stands in s.act)
        (let s = stands in s.named) under called
        row is

    listed_row : (y s : ℕ) → refuses hd ans.0 p.excluded (included_of p) (confirmed.Listed y s) (let z = ans.3 in z.made.before) →
        IsEarly M.seen.lines → is_listed_before (record h { header = hd; lines = M.seen.lines }) (name w.label) y s ≡ true
    listed_row y s says early =
        let j = included_join p y s fits.0 says.0 in
        let line : is_some (object_line hd y) ≡ true = subst (λ x. is_some (object_line hd x) ≡ true) j.2
        (object_some hd (let u = j.0 in u.x) (object_of hd p.used fits.1 j.0 j.1)) in
        let shows = shown its_place.0 its_place.2 (λ before. is_among (listed hd before y) s) (says.1 line (early_place early)) in
        at_place_so (λ b c. is_among (joins_of M.seen.lines b.id y) s && (not (is_among (leaves_of M.seen.lines b.id y) s)
        && answered (record h { header = hd; lines = M.seen.lines }) c b.uid.node 1 (frame.Confirmed ∷ [])
        (λ before. is_among (listed hd before y) s)))
        (λ i. (joins_so y s ∙ j.3) i && (not ((leaves_so y s ∙ j.4) i) && shows i))

    bare_row : (y : ℕ) → refuses hd ans.0 p.excluded (included_of p) (confirmed.NoStores y) (let z = ans.3 in z.made.before) →
        IsEarly M.seen.lines → leaves_none (record h { header = hd; lines = M.seen.lines }) (name w.label) y ≡ true
    bare_row y says early =
        let id = (let b = stands in let c = b.act in c.id) in
        let e = says.1 (early_place early) in
        let gone : list_all (is_among (leaves_of M.seen.lines id y)) (joins_of M.seen.lines id y) ≡ true =
        all_each (is_among (leaves_of M.seen.lines id y)) (joins_of M.seen.lines id y)
        (λ s on. leaves_so y s ∙ none_left p y s says.0 (sym (joins_so y s) ∙ on)) in
        let every : list_all (is_among (leaves_of M.seen.lines id y)) (listed hd (let z = ans.3 in z.made.before) y) ≡ true =
        all_to (λ s. is_listed s (marked y p.excluded)) (is_among (leaves_of M.seen.lines id y)) (listed hd
        (let z = ans.3 in z.made.before) y)
        (λ s on. leaves_so y s ∙ sym (marked_is y s p.excluded) ∙ on) e.1 in
        let shows = shown its_place.0 its_place.2 (leaves_all hd (leaves_of M.seen.lines id y) y) (λ i. e.0 i && every i) in
        at_place_so (λ b c. list_all (is_among (leaves_of M.seen.lines b.id y)) (joins_of M.seen.lines b.id y)
        && answered (record h { header = hd; lines = M.seen.lines }) c b.uid.node 1 (frame.Confirmed ∷ [])
        (leaves_all hd (leaves_of M.seen.lines b.id y) y))
        (λ i. gone i && shows i)

    conflict_row : (u : Uid) (m : Mode) → refuses hd ans.0 p.excluded (included_of p) (confirmed.Conflict u m)
        (let z = ans.3 in z.made.before) →
        IsEarly M.seen.lines → confirm_meets (record h { header = hd; lines = M.seen.lines }) (name w.label) u m 1 ≡ true
    conflict_row u m says early = by (says (early_place early))
      where
        by : MeetsRow ans.0 p.excluded u m (let z = ans.3 in z.made.before) →
            confirm_meets (record h { header = hd; lines = M.seen.lines }) (name w.label) u m 1 ≡ true
        by (inl over) =
            let z = ans.3 in
            let on : is_decided (book M.seen.lines) a.act ≡ true =
            subst (λ ls. is_decided (book ls) a.act ≡ true) (sym z.made.are)
            (decided_more z.made.before z.made.after a.act (ap (is_decided (book z.made.before)) (sym asker) ∙ over asks_top)) in
            let no_way : true ≡ false = sym on ∙ undecided in absurd (cc no_way)
        by (inr met) =
            let a = (let s = stands in s.act) in
            let shows = shown its_place.0 its_place.2 (meets 1 (top_uids (path (acts M.seen.lines) a.label)) (entry met.0) mode.Exclude u m)
            (ap (λ us. meets 1 us (entry met.0) mode.Exclude u m (let z = ans.3 in z.made.before))
            (ap (λ l. top_uids (path (acts M.seen.lines) l)) (let s = stands in s.label) ∙ tops_same) ∙ met.3) in
            at_place_so (λ b c. list_any (λ (e : Placed Exclusion). (e.it.top == b.id)
            && answered (record h { header = hd; lines = M.seen.lines }) c b.uid.node 1 (frame.Confirmed ∷ [])
            (meets 1 (top_uids (path (acts M.seen.lines) b.label)) (entry e.it.x) mode.Exclude u m)) (excluded M.seen.lines))
            (excluded_any (λ x. answered (record h { header = hd; lines = M.seen.lines }) its_place.0 a.uid.node 1 (frame.Confirmed ∷ [])
            (meets 1 (top_uids (path (acts M.seen.lines) a.label)) (entry x) mode.Exclude u m)) a.id met.0 met.1 (excluded M.seen.lines)
            shows
            (leaves_so met.0 met.1 ∙ sym (marked_is met.0 met.1 p.excluded) ∙ met.2))

  -- the line that the refusal says fits
  pub fits_line : (f : Label → Body) → why_of q ≡ Some f → Fits hd st M.seen.lines (f w.label)
  fits_line f why = by q so.1 why
    where
      by : (z : ConfirmedReply) → refuses hd ans.0 p.excluded (included_of p) z (let y = ans.3 in y.made.before) → why_of z ≡ Some f →
          Fits hd st M.seen.lines (f w.label)
      by (confirmed.Listed y s) says is = subst (λ (g : Label → Body). Fits hd st M.seen.lines (g w.label)) (some_is is)
          (λ early h header at. subst (λ g. is_listed_before g (name w.label) y s ≡ true)
          (λ i. record h { header = sym header i; lines = sym at i }) (listed_row h y s says early))
      by (confirmed.NoStores y) says is = subst (λ (g : Label → Body). Fits hd st M.seen.lines (g w.label)) (some_is is)
          (λ early h header at. subst (λ g. leaves_none g (name w.label) y ≡ true)
          (λ i. record h { header = sym header i; lines = sym at i }) (bare_row h y says early))
      by (confirmed.Conflict u n) says is = subst (λ (g : Label → Body). Fits hd st M.seen.lines (g w.label)) (some_is is)
          (λ early h header at. subst (λ g. confirm_meets g (name w.label) u n 1 ≡ true)
          (λ i. record h { header = sym header i; lines = sym at i }) (conflict_row h u n says early))
      by confirmed.Yes says is = absurd (cc is)
      by (confirmed.Changed v) says is = absurd (cc is)
