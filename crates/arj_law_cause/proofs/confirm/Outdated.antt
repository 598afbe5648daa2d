-- Where a coordinator says that a store refused a commit's state as too late, the line has its cause.
use Rattle.arj_law_parts.proofs.Words
use Words.{◌≡◌, ◌≤◌, ◌∙◌, ◌+◌, ◌==◌, ◌&&◌, ℕ, Bool, true, false, if◌then◌else◌, List, [], ◌∷◌, length, Some, refl, sym, ap}
use Words.{subst, inl, inr, ⊎_elim, is_some, and_parts, eqb-true, In, Asked, Header, Line, Message, Reply, Start, actor, answers, nat_le}
use Words.{nat_tests, arith, name, Plan, Preparing}
use Words.{states_for, ask_of, waits_for_commit, Committing, Doing, doing_of, Disk, Parts, Node, Seen, is_own, is_committing_now, has}
use Words.{ask_kind}
use Words.{reply_kind, Uid, is_waiting_now, uid_eq, uid_same}
use Words.ask
use Words.frame
use Words.prepared
use Rattle.arj_promise.specs.Runs.{HeaderFits}
use Rattle.arj_law_lock_view.proofs.Terms.{same_number, some_is}
use Rattle.arj_law_lock_view.proofs.facts.Requests.{requests_keep}
use Rattle.arj_law_lock_view.specs.facts.Requests.{IsAskedBy, RequestsAreKnown}
use Rattle.arj_law_lock_view.specs.moments.Made.{AnswersAreMade, AnswersTo, BeginsWith}
use Rattle.arj_law_parts.proofs.moves.Happens.{Wide, keeps_asked}
use Rattle.arj_law_parts.specs.moves.Moments.{Moment, up}
use Rattle.arj_law_parts.specs.moves.Seen as seen
use Rattle.arj_law_parts.specs.parts.Requests.{IsNumbered}
use Rattle.arj_law_runs.proofs.follow.Halts.{KnowsAll, halts_keep}
use Rattle.arj_law_runs.proofs.journal.{Books.sane_lines, Books.sane_new, Closed.one_act, Models.act_there, Models.in_later}
use Rattle.arj_law_runs.proofs.journal.{Models.its_acts}
use Rattle.arj_law_runs.proofs.journal.{Models.its_sound, Owners.acts_more}
use Rattle.arj_law_runs.specs.journal.Book.{book, new_book}
use Rattle.arj_law_runs.specs.journal.Right.{AreRight}
use Rattle.arj_law_serial.proofs.Terms.{AreDistinct, any_in, path_by}
use Rattle.arj_law_serial.proofs.joint.{MarkRuns.own_doing}
use Rattle.arj_law_serial.proofs.order.Paths as paths
use Rattle.arj_model.specs.Actions.{Act, acts, is_over, path, root_in}
use Rattle.arj_model.specs.CauseCommits.{has_restarted, is_old, writers}
use Rattle.arj_model.specs.CausePends.{changes}
use Rattle.arj_model.specs.CauseSpans.{Here, answered, commit_here}
use Rattle.arj_model.specs.Refusals.{is_committing}
use Rattle.arj_law_cause.proofs.confirm.{Called.is_called, Joined.IsEarly, Joined.early_before}
use Rattle.arj_law_cause.proofs.confirm.{Olds.IsTooLate, Olds.says_late, Reached.Reached}
use Rattle.arj_law_cause.proofs.confirm.{Reached.reached_has, Says.ShowsFrom, Spans.commits_at, Spans.place}
use Rattle.arj_law_cause.proofs.confirm.{Had.path_still, Losing.old_so, Losing.says_lost, Losing.says_old}
use Rattle.arj_law_cause.proofs.confirm.Spans.{right_front}
use Rattle.arj_law_cause.proofs.rows.{Entered.IsSettled, Entered.settled_before, Paths.label_path}
use Rattle.arj_law_cause.proofs.kinds.Over.{over_later}
use Rattle.arj_law_cause.proofs.rows.Spans.{answered_at}
use Rattle.arj_law_cause.proofs.votes.Asks.{AskChanged, AsksAreChanged, ChangesEach, changed_keep}
use Rattle.arj_law_cause.proofs.waits.waiting.{Acting.Stands, Waiting.commit_is}
use Rattle.arj_law_cause.proofs.waits.waiting.Acting as acting

-- ---- at the coordinator

module _ (hd : Header) (st : Start) (form : HeaderFits hd) (before : List Line) (event : ℕ) (k : ℕ) (d : Disk) (t : Parts) (M : Moment)
    (shown : ShowsFrom hd st before event (up k d t M)) (made : AnswersAreMade (old_so st) (up k d t M)) (from : ℕ) (m : Message)
    (sent_it : seen.In (record { from = from; to = k; message = m }) M.seen.sent) (a : Asked) (y v : ℕ)
    (answer : answers m ≡ Some (a, Reply.Prepared (prepared.Old y v))) (w : Doing) (p : Plan) (left : List ℕ)
    (found : doing_of a.act t.coord ≡ Some w) (now : w.now ≡ Committing (Preparing p left))
    (waits : waits_for_commit from a (Reply.Prepared (prepared.Old y v)) (Preparing p left) ≡ true) where
  abbrev known : Wide (Reached hd) (up k d t M)
  known = shown.0.1

  abbrev Z : Seen
  Z = let N = up k d t M in seen.with_sent known.0 N.seen

  abbrev mine : Node
  mine = record { number = k; disk = d; live = Some t }

  here : (let N = up k d t M in N.seen.nodes k) ≡ Some (record { number = k; disk = d; live = Some t })
  here = λ i. if same_number k i then Some (record { number = k; disk = d; live = Some t }) else M.seen.nodes k

  all : KnowsAll Z
  all = reached_has hd KnowsAll (keeps_asked hd KnowsAll (halts_keep hd)) Z known.2

  right : AreRight new_book M.seen.lines
  right = let z = acting.written Z all k mine t here refl in z.right

  stands : Stands Z all k mine t here refl a.act w
  stands = acting.stands Z all k mine t here refl a.act w found

  under : is_committing M.seen.lines (name w.label) ≡ true
  under = commit_is Z all k mine t here refl a.act w found stands ∙ ap is_committing_now now

  own : is_own a.act t.coord.tree ≡ true
  own = own_doing a.act t.coord w found

  abbrev act : Act
  act = let s = stands in s.act

  unended : is_some (let s = stands in let b = s.branch in b.ended) ≡ false
  unended = acting.open_waits Z all k mine t here refl a.act w found (ap is_waiting_now now) (let s = stands in s.branch)
      (let s = stands in s.found)

  opened : is_over M.seen.lines (let s = stands in s.act) ≡ false
  opened = (let s = stands in s.over) ∙ unended

  -- ---- the answer

  ans : AnswersTo (old_so st) ⊥ (up k d t M) from k a (Reply.Prepared (prepared.Old y v))
  ans = made.sent (record { from = from; to = k; message = m }) a (Reply.Prepared (prepared.Old y v)) sent_it answer

  asker : actor (let h = ans.0 in h.path) ≡ a.act
  asker = ap (λ (b : Asked). b.act) ans.2

  its_parts : ((p.req == a.req) ≡ true) × ((has left from) ≡ true)
  its_parts =
      let z = and_parts (p.req == a.req) ((reply_kind (Reply.Prepared (prepared.Old y v)) == ask_kind (ask_of (Preparing p left) from))
      && has left from) waits in
      (z.0, (and_parts (reply_kind (Reply.Prepared (prepared.Old y v)) == ask_kind (ask_of (Preparing p left) from)) (has left from) z.1).1)

  asked_for : IsAskedBy t.coord (let z = ans.3 in let r = z.request in r.to) ans.0 ans.1
  asked_for =
      let z = ans.3 in
      let known_now : RequestsAreKnown Z = reached_has hd RequestsAreKnown (keeps_asked hd RequestsAreKnown (requests_keep hd)) Z known.2 in
      known_now.1 k mine t here refl z.request ans.0 ans.1 (known.1 z.request z.posted) z.from
      z.asking (ap (λ v. is_own v t.coord.tree) asker ∙ own)

  doing_is : (let z = asked_for in z.doing) ≡ w
  doing_is = let z = asked_for in some_is (sym z.found ∙ ap (λ v. doing_of v t.coord) asker ∙ found)

  numbered : p.req ≡ w.req
  numbered = (subst (IsNumbered w.req) now (acting.numbered Z all k mine t here refl a.act w found)).0

  its_ask : ans.1 ≡ ask.Prepare (states_for from p)
  its_ask = let z = asked_for in let q = ans.3 in (z.commit (Preparing p left) (ap (λ (x : Doing). x.now) doing_is ∙ now)
      (ap (λ (b : Asked). b.req) ans.2 ∙ sym (eqb-true p.req a.req its_parts.0) ∙ numbered ∙ ap (λ (x : Doing). x.req) (sym doing_is))).1
      ∙ ap (λ n. ask.Prepare (states_for n p)) q.to

  so : is_called (let z = ans.3 in z.made.before) (actor (let h = ans.0 in h.path))
      × says_late st ans.0 (states_for from p) y v (let z = ans.3 in z.made.before) × says_lost ans.0 y (let z = ans.3 in z.made.before)
  so = let z = ans.3 in subst (λ b. says_old st ans.0 b (Reply.Prepared (prepared.Old y v)) z.made.before) its_ask z.made.so

  -- ---- the action

  its_uid : (let s = stands in let b = s.act in b.uid) ≡ a.act
  its_uid = let s = stands in s.uid

  home : k ≡ (let s = stands in let b = s.act in b.uid.node)
  home = sym (ap (λ (u : Uid). u.node) its_uid
      ∙ eqb-true (let u = a.act in u.node) t.coord.tree.node (and_parts ((let u = a.act in u.node) == t.coord.tree.node)
      ((let u = a.act in u.inc) == t.coord.tree.inc) own).0
      ∙ acting.node_is Z all k mine t here refl)

  called : is_called (let z = ans.3 in z.made.before) (let s = stands in let b = s.act in b.uid)
  called = subst (is_called (let z = ans.3 in z.made.before)) (asker ∙ sym its_uid) so.0

  front_right : AreRight new_book (let z = ans.3 in z.made.before)
  front_right = right_front (let z = ans.3 in z.made.before) (let z = ans.3 in z.made.after) (subst (AreRight new_book)
      (let z = ans.3 in z.made.are) right)

  -- it was there when the store answered, and open
  there_then : In (let s = stands in s.act) (acts (let z = ans.3 in z.made.before))
  there_then =
      let z = ans.3 in
      let c : (b : Act) × In b (acts z.made.before) × (b.uid ≡ (let s = stands in let b = s.act in b.uid)) =
      (let w = act_there (let B = book z.made.before in B.acts) (let s = stands in let b = s.act in b.uid)
      (let s = sane_lines new_book z.made.before front_right sane_new in s.called (let s = stands in let b = s.act in b.uid) called) in
      (w.0, subst (In w.0) (its_acts z.made.before front_right) w.1, w.2)) in
      let later : In c.0 (acts M.seen.lines) = subst (In c.0) (sym (acts_more [] z.made.before z.made.after) ∙ ap acts (sym z.made.are))
      (in_later z.made.after (acts z.made.before) c.0 c.1) in
      subst (λ (b : Act). In b (acts z.made.before)) (one_act (acts M.seen.lines) (let s = its_sound M.seen.lines right in s.distinct) c.0
      (let s = stands in s.act) later (let s = stands in s.began) c.2) c.1

  open_then : is_over (let z = ans.3 in z.made.before) (let s = stands in s.act) ≡ false
  open_then = by (is_over (let z = ans.3 in z.made.before) (let s = stands in s.act)) refl
    where
      by : (b : Bool) → is_over (let z = ans.3 in z.made.before) (let s = stands in s.act) ≡ b → b ≡ false
      by false is = refl
      by true is = let z = ans.3 in let no_way : true ≡ false = sym (over_later z.made.before z.made.after (let s = stands in s.act) is)
          ∙ ap (λ ls. is_over ls (let s = stands in s.act)) (sym z.made.are) ∙ opened in absurd (cc no_way)

  early_place : IsEarly M.seen.lines → IsEarly (let z = ans.3 in z.made.before)
  early_place early = let z = ans.3 in early_before z.made.before z.made.after (subst IsEarly z.made.are early)

  settled_place : IsSettled M.seen.lines → IsSettled (let z = ans.3 in z.made.before)
  settled_place settled = let z = ans.3 in settled_before z.made.before z.made.after (subst IsSettled z.made.are settled)

  -- its path was the same
  path_then : path (acts (let z = ans.3 in z.made.before)) (let s = stands in let b = s.act in b.label)
      ≡ path (acts M.seen.lines) (let s = stands in let b = s.act in b.label)
  path_then =
      let z = ans.3 in let s = stands in
      label_path (acts z.made.before) (let w = its_sound z.made.before front_right in w.distinct) (let b = s.act in b.label) s.act
      (paths.found (acts z.made.before) (let w = its_sound z.made.before front_right in w.distinct) s.act there_then)
      ∙ sym (path_still z.made.before z.made.after
      (subst (λ ls. AreDistinct (acts ls)) z.made.are (let w = its_sound M.seen.lines right in w.distinct))
      (let b = s.act in b.uid) (any_in (λ (y : Act). uid_eq y.uid (let b = s.act in b.uid)) s.act (acts z.made.before) there_then
      (uid_same (let b = s.act in b.uid))))
      ∙ ap (λ ls. path_by (acts ls) (let b = s.act in b.uid)) (sym z.made.are)
      ∙ sym (label_path (acts M.seen.lines) (let w = its_sound M.seen.lines right in w.distinct) (let b = s.act in b.label) s.act
      (paths.found (acts M.seen.lines) (let w = its_sound M.seen.lines right in w.distinct) s.act s.began))

  lost : IsSettled M.seen.lines → has_restarted (let z = ans.3 in z.made.before) y
      (root_in (path (acts M.seen.lines) (let s = stands in let b = s.act in b.label))) ≡ true
  lost settled = subst (λ p. has_restarted (let z = ans.3 in z.made.before) y (root_in p) ≡ true) path_then
      (so.2 (settled_place settled) (let s = stands in s.act) there_then (its_uid ∙ sym asker) open_then)

  late : IsEarly M.seen.lines → IsTooLate st (states_for from p) y v (let z = ans.3 in z.made.before)
  late early = so.1 (early_place early) (let s = stands in s.act) there_then (its_uid ∙ sym asker) open_then

  module _ (settled : IsSettled M.seen.lines) where
    early : IsEarly M.seen.lines
    early = settled.early

    abbrev s : IsTooLate st (states_for from p) y v (let z = ans.3 in z.made.before)
    s = late early

    -- the top changes the object
    its_change : changes M.seen.lines (let s = stands in let b = s.act in b.id) y ≡ true
    its_change =
        let z = ans.3 in
        let known_now : AsksAreChanged hd Z =
        (reached_has hd (λ N. Reached hd N × AsksAreChanged hd N) (changed_keep hd form) Z known.2).1 in
        let asked_so : AskChanged M.seen.lines (Some (ans.0, ask.Prepare (states_for from p))) =
        subst (λ b. AskChanged M.seen.lines (Some (ans.0, b))) its_ask
        (subst (AskChanged M.seen.lines) z.asking (known_now z.request (known.1 z.request z.posted)).0) in
        let c : ChangesEach M.seen.lines (actor (let h = ans.0 in h.path)) (states_for from p) = asked_so.1 early in
        let same : c.0 ≡ (let s = stands in s.act) = one_act (acts M.seen.lines) (let s = its_sound M.seen.lines right in s.distinct) c.0
        (let s = stands in s.act) c.1 (let s = stands in s.began) (c.2 ∙ asker ∙ sym its_uid) in
        ap (λ (b : Act). changes M.seen.lines b.id y) (sym same)
        ∙ ap (λ (u : Uid). changes M.seen.lines (let b = c.0 in b.id) u.num) (sym (late early).of)
        ∙ c.3 (late early).state (late early).among

    -- ---- where the line comes

    module _ (h : Here) (starts : (let g = h in g.start) ≡ st) where
      abbrev behind_them : Here
      behind_them = record h { header = hd; lines = M.seen.lines }

      its_place : (c : ℕ) × (commit_here (record h { header = hd; lines = M.seen.lines }) (name w.label) ≡ Some c)
          × (c ≤ length (let z = ans.3 in z.made.before))
      its_place = place (record h { header = hd; lines = M.seen.lines }) (name w.label) (let z = ans.3 in z.made.before)
          (let z = ans.3 in z.made.after) (let z = ans.3 in z.made.are) right (let s = stands in s.act)
          (let s = stands in s.named) under called

      counted : nat_le v ((let m = h.start.marks.states y in m.version) + writers (let z = ans.3 in z.made.before) y) ≡ true
      counted = ap (λ (s0 : Start). nat_le v ((let m = s0.marks.states y in m.version) + writers (let z = ans.3 in z.made.before) y)) starts
          ∙ low v _ (late early).count
        where
          low : (x z : ℕ) → x ≤ z → nat_le x z ≡ true
          low x z le = grind (arith, nat_tests, le)

      some : nat_le 1 v ≡ true
      some = low v (late early).some
        where
          low : (z : ℕ) → 1 ≤ z → nat_le 1 z ≡ true
          low z le = grind (arith, nat_tests, le)

      answered_so : answered (record h { header = hd; lines = M.seen.lines }) its_place.0
          (let s = stands in let b = s.act in b.uid.node) from
          (frame.Prepared ∷ []) (λ ls. nat_le v ((let m = h.start.marks.states y in m.version) + writers ls y)
          && has_restarted ls y (root_in (path (acts M.seen.lines) (let s = stands in let b = s.act in b.label)))) ≡ true
      answered_so = let z = ans.3 in
          answered_at (record h { header = hd; lines = M.seen.lines }) its_place.0 (let s = stands in let b = s.act in b.uid.node) from
          frame.Prepared (frame.Prepared ∷ []) (λ ls. nat_le v ((let m = h.start.marks.states y in m.version) + writers ls y)
          && has_restarted ls y (root_in (path (acts M.seen.lines) (let s = stands in let b = s.act in b.label))))
          z.made.before z.made.after z.made.are its_place.2
          (⊎_elim (λ same. inl (same ∙ home))
          (λ f. ⊎_elim (λ begins. inr (subst (λ j. BeginsWith from j frame.Prepared z.made.after) home begins))
          (λ never. absurd never) f) z.made.framed) refl (λ i. counted i && lost settled i)

      pub old_row : is_old (record h { header = hd; lines = M.seen.lines }) (name w.label) from y v ≡ true
      unfolding its_place
      old_row = λ i. some i && commits_at (record h { header = hd; lines = M.seen.lines }) (name w.label) (let z = ans.3 in z.made.before)
          (let z = ans.3 in z.made.after) (let z = ans.3 in z.made.are) right (let s = stands in s.act)
          (let s = stands in s.named) under called (λ b c. changes M.seen.lines b.id y
          && answered (record h { header = hd; lines = M.seen.lines }) c b.uid.node from (frame.Prepared ∷ [])
          (λ ls. nat_le v ((let m = h.start.marks.states y in m.version) + writers ls y)
          && has_restarted ls y (root_in (path (acts M.seen.lines) b.label))))
          (λ j. its_change j && answered_so j) i
