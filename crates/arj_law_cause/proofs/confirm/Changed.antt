-- Where a coordinator says that a server, or naming, refused a commit since something changed, the line has its cause.
use Rattle.arj_law_parts.proofs.Words
use Words.{◌≡◌, ◌≤◌, ◌<◌, ◌⊎◌, ◌∙◌, ◌==◌, ◌&&◌, ◌||◌, ℕ, Bool, true, false, if◌then◌else◌, List, [], ◌∷◌, length, Some, refl, sym, ap}
use Words.{subst, inl, inr, ⊎_elim, and_parts, eqb-true, In, Asked, Header, Line, Message, Reply, Start, What, actor, answers, arith}
use Words.{nat_tests, ask_kind, ask_of, differs, frame_kind, has, name, response, reply_kind, waits_for_commit, Committing, Confirming, Doing}
use Words.{Machine, Voting, doing_of, is_committing_now, is_own, plan_of, Disk, Parts, Node, Seen, Uid, left_of, list_any, AllByRecursion}
use Words.{in_from, in_map, nat_lt, ObjectLine, Plan, Used}
use Words.confirmed
use Words.frame
use Words.voted
use Words.what
use Rattle.arj_law_lock_view.proofs.Terms.{same_number, some_is}
use Rattle.arj_law_lock_view.proofs.facts.Requests.{requests_keep}
use Rattle.arj_law_lock_view.specs.facts.Requests.{IsAskedBy, RequestsAreKnown}
use Rattle.arj_law_lock_view.specs.moments.Made.{AnswersAreMade, AnswersTo, BeginsWith}
use Rattle.arj_law_parts.proofs.moves.Happens.{Wide, keeps_asked}
use Rattle.arj_law_parts.specs.moves.Moments.{Moment, up}
use Rattle.arj_law_parts.specs.moves.Seen as seen
use Rattle.arj_law_parts.specs.parts.Requests.{IsNumbered}
use Rattle.arj_law_runs.proofs.follow.Halts.{KnowsAll, halts_keep}
use Rattle.arj_law_runs.specs.journal.Book.{new_book}
use Rattle.arj_law_runs.specs.journal.Right.{AreRight}
use Rattle.arj_promise.specs.Runs.{HeaderFits}
use Rattle.arj_law_disk_view.proofs.Terms.{or_left, or_right}
use Rattle.arj_law_lock_view.specs.facts.Entries.{HasObject}
use Rattle.arj_law_serial.proofs.Terms.{acts, any_in, its_sound, one_act, path}
use Rattle.arj_law_serial.proofs.joint.{MarkRuns.own_doing}
use Rattle.arj_model.specs.Actions.{root_in}
use Rattle.arj_model.specs.CauseCopies.{has_entered_in}
use Rattle.arj_model.specs.CauseSpans.{Here, answered, commit_here}
use Rattle.arj_protocol.specs.Words.{FrameKind}
use Rattle.arj_model.specs.Refusals.{incarnation, is_committing}
use Rattle.arj_law_cause.proofs.confirm.{Called.is_called, Changes.IsVoted, Changes.says_changed, Plain.Confirms, Plain.IsChange}
use Rattle.arj_law_cause.proofs.confirm.{Plain.Votes, Reached.Reached, Reached.reached_has, Says.ShowsFrom, Says.confirms_so}
use Rattle.arj_law_cause.proofs.confirm.{Spans.commits_at, Spans.place}
use Rattle.arj_law_cause.proofs.confirm.{Granted.NowHad, Granting.GrantsAreHad, Granting.own_of, Had.HadIn, Had.IsUsedSo, Had.PlanSo}
use Rattle.arj_law_cause.proofs.confirm.{Had.UsesIn}
use Rattle.arj_law_cause.proofs.confirm.{Ups.UpsRise, Using.entered, Using.older}
use Rattle.arj_law_cause.proofs.rows.Entered.{IsSettled}
use Rattle.arj_law_cause.proofs.rows.Spans.{answered_at}
use Rattle.arj_law_cause.proofs.waits.waiting.{Acting.Stands, Waiting.commit_is}
use Rattle.arj_law_cause.proofs.waits.waiting.Acting as acting
use Rattle.arj_law_cause.specs.rows.Early.{IsEarly}
use Rattle.arj_law_cause.proofs.bindings.{Lines.IsLined, Since.IsActiveIn, Since.active_in_more, Since.active_then}
use Rattle.arj_law_cause.proofs.confirm.{Joined.early_before, Planned.in_set, Using.served, Voting.voted_differs}
use Rattle.arj_law_cause.proofs.rows.{Differing.Differs, Machines.plan_object}
use Rattle.arj_law_lock_view.proofs.Terms.{IsLeft, KnowsParted}
use Rattle.arj_law_runs.specs.calls.Bindings.{HasFewBindings}
use Rattle.arj_law_serial.proofs.Terms.{kept_of, parted_keep}
use Rattle.arj_law_serial.proofs.joint.Sparing.{ArePartedNow}
use Rattle.arj_model.specs.CauseCommits.{commit_differs, commit_differs_on}
use Rattle.arj_model.specs.CausePends.{unit_uses}
use Rattle.arj_model.specs.CauseCopies.{had_both, may_have_met, was_active_in}
use Rattle.arj_model.specs.CauseSpans.{same_frame}
use Words.{Binding, filter, in_filter, is_at_server, least_of, map, servers_of}

has_in : (ns : List ℕ) (n : ℕ) → has ns n ≡ true → In n ns
has_in [] n is = absurd (cc is)
has_in (m ∷ ns) n is = by (m == n) refl is (has_in ns n)
  where
    by : (b : Bool) → (m == n) ≡ b → (b || has ns n) ≡ true → (has ns n ≡ true → In n ns) → In n (m ∷ ns)
    by true same h ih = inl (eqb-true m n same)
    by false other h ih = inr (ih h)

all_at : {A : Type 0} (Q : A → Type 0) (a : A) (xs : List A) → AllByRecursion Q xs → In a xs → Q a
all_at Q a [] every i = absurd i
all_at {A} Q a (y ∷ ys) every (inl same) = subst Q same every.0
all_at Q a (y ∷ ys) every (inr i) = all_at Q a ys every.1 i

module _ (hd : Header) (st : Start) (form : HeaderFits hd) (before : List Line) (event : ℕ) (k : ℕ) (d : Disk) (t : Parts) (M : Moment)
    (shown : ShowsFrom hd st before event (up k d t M)) (made : AnswersAreMade (confirms_so hd st) (up k d t M)) (from : ℕ) (m : Message)
    (sent_it : seen.In (record { from = from; to = k; message = m }) M.seen.sent) (a : Asked) (r : Reply) (answer : answers m ≡ Some (a, r))
    (w : Doing) (machine : Machine) (c : What) (n : ℕ) (found : doing_of a.act t.coord ≡ Some w) (now : w.now ≡ Committing machine)
    (waits : waits_for_commit from a r machine ≡ true) (changes : IsChange from machine r c n)
    (had : GrantsAreHad st (up k d t M)) where
  abbrev known : Wide (Reached hd) (up k d t M)
  known = shown.0.1

  abbrev Z : Seen
  Z = let N = up k d t M in seen.with_sent known.0 N.seen

  abbrev mine : Node
  mine = record { number = k; disk = d; live = Some t }

  here : (let N = up k d t M in N.seen.nodes k) ≡ Some (record { number = k; disk = d; live = Some t })
  here = λ i. if same_number k i then Some (record { number = k; disk = d; live = Some t }) else M.seen.nodes k

  all : KnowsAll Z
  all = reached_has hd KnowsAll (keeps_asked hd KnowsAll (halts_keep hd)) Z known.2

  right : AreRight new_book M.seen.lines
  right = let z = acting.written Z all k mine t here refl in z.right

  stands : Stands Z all k mine t here refl a.act w
  stands = acting.stands Z all k mine t here refl a.act w found

  under : is_committing M.seen.lines (name w.label) ≡ true
  under = commit_is Z all k mine t here refl a.act w found stands ∙ ap is_committing_now now

  own : is_own a.act t.coord.tree ≡ true
  own = own_doing a.act t.coord w found

  -- ---- the answer

  ans : AnswersTo (confirms_so hd st) ⊥ (up k d t M) from k a r
  ans = made.sent (record { from = from; to = k; message = m }) a r sent_it answer

  asker : actor (let h = ans.0 in h.path) ≡ a.act
  asker = ap (λ (b : Asked). b.act) ans.2

  asked_for : IsAskedBy t.coord (let z = ans.3 in let q = z.request in q.to) ans.0 ans.1
  asked_for =
      let z = ans.3 in
      let known_now : RequestsAreKnown Z = reached_has hd RequestsAreKnown (keeps_asked hd RequestsAreKnown (requests_keep hd)) Z known.2 in
      known_now.1 k mine t here refl z.request ans.0 ans.1 (known.1 z.request z.posted) z.from
      z.asking (ap (λ v. is_own v t.coord.tree) asker ∙ own)

  doing_is : (let z = asked_for in z.doing) ≡ w
  doing_is = let z = asked_for in some_is (sym z.found ∙ ap (λ v. doing_of v t.coord) asker ∙ found)

  numbered : (let p = plan_of machine in p.req) ≡ w.req
  numbered = (subst (IsNumbered w.req) now (acting.numbered Z all k mine t here refl a.act w found)).0

  same_req : (let p = plan_of machine in p.req) ≡ a.req
  same_req = eqb-true (let p = plan_of machine in p.req) a.req (and_parts ((let p = plan_of machine in p.req) == a.req)
      ((reply_kind r == ask_kind (ask_of machine from)) && has (left_of machine) from) waits).0

  its_ask : ans.1 ≡ ask_of machine from
  its_ask = let z = asked_for in let q = ans.3 in (z.commit machine (ap (λ (x : Doing). x.now) doing_is ∙ now)
      (ap (λ (b : Asked). b.req) ans.2 ∙ sym same_req ∙ numbered ∙ ap (λ (x : Doing). x.req) (sym doing_is))).1
      ∙ ap (λ j. ask_of machine j) q.to

  so : says_changed st from ans.0 (ask_of machine from) r (let z = ans.3 in z.made.before)
  so = let z = ans.3 in subst (λ b. says_changed st from ans.0 b r z.made.before) its_ask z.made.so.1

  -- a server answered its Vote so
  abbrev Voted : Type 0
  Voted = (p : Plan) × (left : List ℕ) × (machine ≡ Voting p left) × (frame_kind (response a r) ≡ frame.Voted)
      × IsVoted st n (least_of (map (λ (u : Used). u.inc) (filter (is_at_server n) p.used)))
      (map {A = Used} {B = ℕ × Binding} (λ u. (u.x, u.binding)) (filter (is_at_server n) p.used)) c (let z = ans.3 in z.made.before)

  -- naming answered so: of another incarnation is a grant that the plan uses
  abbrev Confirmed : Type 0
  Confirmed = (n ≡ 1) × (p : Plan) × (machine ≡ Confirming p) × (frame_kind (response a r) ≡ frame.Confirmed) × (u : Used) × In u p.used
      × (c ≡ what.Inc u.grant (incarnation st (let z = ans.3 in z.made.before) 1))
      × ((u.grant == incarnation st (let z = ans.3 in z.made.before) 1) ≡ false)

  told : is_called (let z = ans.3 in z.made.before) (actor (let h = ans.0 in h.path)) × (n ≡ from) × (Voted ⊎ Confirmed)
  told = by changes so
    where
      by : IsChange from machine r c n → says_changed st from ans.0 (ask_of machine from) r (let z = ans.3 in z.made.before) →
          is_called (let z = ans.3 in z.made.before) (actor (let h = ans.0 in h.path)) × (n ≡ from) × (Voted ⊎ Confirmed)
      by (Votes p left is reply same) s =
          let z : says_changed st from ans.0 (ask_of (Voting p left) from) (Reply.Voted (voted.Changed c)) (let y = ans.3 in y.made.before) =
          subst (λ q. says_changed st from ans.0 (ask_of (Voting p left) from) q (let y = ans.3 in y.made.before)) reply
          (subst (λ b. says_changed st from ans.0 (ask_of b from) r (let y = ans.3 in y.made.before)) is s) in (
            z.0,
            same,
            inl (
              p,
              left,
              is,
              ap (λ q. frame_kind (response a q)) reply,
              subst (λ j. IsVoted st j (least_of (map (λ (u : Used). u.inc) (filter (is_at_server j) p.used)))
                  (map {A = Used} {B = ℕ × Binding} (λ u. (u.x, u.binding)) (filter (is_at_server j) p.used)) c
                  (let y = ans.3 in y.made.before)) (sym same) z.1,
            ),
          )
      by (Confirms p is reply same) s =
          let z : says_changed st from ans.0 (ask_of (Confirming p) from) (Reply.Confirmed (confirmed.Changed c))
          (let y = ans.3 in y.made.before) =
          subst (λ q. says_changed st from ans.0 (ask_of (Confirming p) from) q (let y = ans.3 in y.made.before)) reply
          (subst (λ b. says_changed st from ans.0 (ask_of b from) r (let y = ans.3 in y.made.before)) is s) in
          let g = z.1 in
          let u = in_map (λ (v : Used). (v.x, v.grant)) g.0 p.used g.1 in
          let grant : (let v = u.0 in v.grant) ≡ (let f = g.0 in f.1) = ap (λ (f : ℕ × ℕ). f.1) u.2 in (
            z.0,
            same ∙ sym one,
            inr (
              same,
              p,
              is,
              ap (λ q. frame_kind (response a q)) reply,
              u.0,
              u.1,
              g.2 ∙ ap (λ j. what.Inc j (incarnation st (let y = ans.3 in y.made.before) 1)) (sym grant),
              ap (λ j. j == incarnation st (let y = ans.3 in y.made.before) 1) grant ∙ g.3,
            ),
          )
        where
          one : from ≡ 1
          one = only (and_parts (reply_kind r == ask_kind (ask_of machine from)) (has (left_of machine) from)
              (and_parts ((let q = plan_of machine in q.req) == a.req)
              ((reply_kind r == ask_kind (ask_of machine from)) && has (left_of machine) from) waits).1).1
            where
              only : has (left_of machine) from ≡ true → from ≡ 1
              only h = at (1 == from) refl (subst (λ b. has (left_of b) from ≡ true) is h)
                where
                  at : (b : Bool) → (1 == from) ≡ b → (b || false) ≡ true → from ≡ 1
                  at true e f = sym (eqb-true 1 from e)
                  at false e f = absurd (cc f)

  -- ---- the action

  its_uid : (let s = stands in let b = s.act in b.uid) ≡ a.act
  its_uid = let s = stands in s.uid

  home : k ≡ (let s = stands in let b = s.act in b.uid.node)
  home = sym (ap (λ (u : Uid). u.node) its_uid
      ∙ eqb-true (let u = a.act in u.node) t.coord.tree.node (and_parts ((let u = a.act in u.node) == t.coord.tree.node)
      ((let u = a.act in u.inc) == t.coord.tree.inc) own).0
      ∙ acting.node_is Z all k mine t here refl)

  called : is_called (let z = ans.3 in z.made.before) (let s = stands in let b = s.act in b.uid)
  called = subst (is_called (let z = ans.3 in z.made.before)) (asker ∙ sym its_uid) told.0

  -- ---- where the line comes

  module _ (h : Here) (starts : (let g = h in g.start) ≡ st) where
    its_place : (e : ℕ) × (commit_here (record h { header = hd; lines = M.seen.lines }) (name w.label) ≡ Some e)
        × (e ≤ length (let z = ans.3 in z.made.before))
    its_place = place (record h { header = hd; lines = M.seen.lines }) (name w.label) (let z = ans.3 in z.made.before)
        (let z = ans.3 in z.made.after) (let z = ans.3 in z.made.are) right (let s = stands in s.act)
        (let s = stands in s.named) under called

    framed : (kind : FrameKind) → frame_kind (response a r) ≡ kind → (n ≡ (let s = stands in let b = s.act in b.uid.node))
        ⊎ BeginsWith n (let s = stands in let b = s.act in b.uid.node) kind (let z = ans.3 in z.made.after)
    framed kind is = let z = ans.3 in ⊎_elim (λ same. inl (told.1 ∙ same ∙ home))
        (λ f. ⊎_elim (λ begins. inr (subst (λ j. BeginsWith j (let s = stands in let b = s.act in b.uid.node) kind z.made.after) (sym told.1)
        (subst (λ j. BeginsWith from j kind z.made.after) home
        (subst (λ x. BeginsWith from k x z.made.after) (ap (λ (b : Asked). frame_kind (response b r)) ans.2 ∙ is) begins))))
        (λ never. absurd never) f) z.made.framed

    itself : (j : ℕ) → (j == j) ≡ true
    itself j = grind (arith, nat_tests)

    lower : (g j : ℕ) → g < j → nat_lt g j ≡ true
    lower g j is = grind (arith, nat_tests, is)

    module _ (settled : IsSettled M.seen.lines) (rises : UpsRise st M.seen.lines) where
      -- of what the plan of the commit uses it differs so
      abbrev Of : Used → Type 0
      Of u = commit_differs_on (record h { header = hd; lines = M.seen.lines }) (let s = stands in s.act) its_place.0 n u.x (differs c) ≡ true

      plan_uses : AllByRecursion (PlanSo st M.seen.lines a.act) (let p = plan_of machine in p.used)
      plan_uses = subst (NowHad (HadIn st M.seen.lines) (PlanSo st M.seen.lines) a.act) now
          (let o = own_of st k d t M had in o.works a.act w found)

      used : (u : Used) → In u (let p = plan_of machine in p.used) → IsUsedSo st M.seen.lines a.act u
      used u i = all_at (PlanSo st M.seen.lines a.act) u (let p = plan_of machine in p.used) plan_uses i (let e = settled.early in e.few)

      was_called : is_called (let y = ans.3 in y.made.before) a.act
      was_called = subst (is_called (let y = ans.3 in y.made.before)) its_uid called

      -- ---- a server's vote

      voted_so : Voted → (u : Used) × In u (let p = plan_of machine in p.used) × Of u
      voted_so z = (v.0, in_plan v.0 v.1, of c v.3 v.4)
        where
          same_used : (let p = plan_of machine in p.used) ≡ (let p = z.0 in p.used)
          same_used = ap (λ b. (let p = plan_of b in p.used)) z.2

          in_plan : (u : Used) → In u (let p = z.0 in p.used) → In u (let p = plan_of machine in p.used)
          in_plan u i = subst (In u) (sym same_used) i

          sought : has (servers_of z.0) n ≡ true
          sought =
              let parted : ArePartedNow Z =
              reached_has hd ArePartedNow (keeps_asked hd ArePartedNow (kept_of hd KnowsParted (parted_keep hd))) Z known.2 in
              let left : IsLeft (Committing (Voting z.0 z.1)) = subst IsLeft (now ∙ ap Committing z.2)
              ((let q = parted.2 in q.coords k mine t here refl).1 a.act w found) in
              ap (has (servers_of z.0)) told.1 ∙ left from (ap (λ b. has (left_of b) from) (sym z.2)
              ∙ (and_parts (reply_kind r == ask_kind (ask_of machine from)) (has (left_of machine) from)
              (and_parts ((let q = plan_of machine in q.req) == a.req)
              ((reply_kind r == ask_kind (ask_of machine from)) && has (left_of machine) from) waits).1).1)

          some : (u : Used) × In u (let p = z.0 in p.used) × (u.called ≡ true) × (u.server ≡ n)
          some =
              let i = in_set n (map (λ (u : Used). u.server) (filter (λ (u : Used). u.called) (let p = z.0 in p.used)))
              (has_in (servers_of z.0) n sought) in
              let f = in_map (λ (u : Used). u.server) n (filter (λ (u : Used). u.called) (let p = z.0 in p.used)) i in
              let g = in_filter (λ (u : Used). u.called) f.0 (let p = z.0 in p.used) f.1 in (f.0, g.0, g.1, f.2)

          each : (u : Used) → In u (let p = z.0 in p.used) → u.called ≡ true → u.server ≡ n →
              IsLined (let y = ans.3 in y.made.before) u.x u.binding n
              × IsActiveIn st (let y = ans.3 in y.made.before) n u.x u.binding u.inc
          each u i on at = subst (λ j. IsLined (let y = ans.3 in y.made.before) u.x u.binding j
              × IsActiveIn st (let y = ans.3 in y.made.before) j u.x u.binding u.inc) at
              (let y = ans.3 in served hd st Z known.2 k mine t here refl a.act u (used u (in_plan u i)) settled.early
              y.made.before y.made.after y.made.are
              was_called on)

          few : HasFewBindings (let y = ans.3 in y.made.before)
          few = let y = ans.3 in let e = early_before y.made.before y.made.after (subst IsEarly y.made.are settled.early) in e.few

          v : (u : Used) × In u (let p = z.0 in p.used) × (u.server ≡ n) × Differs st n u.x c (let y = ans.3 in y.made.before)
              × ((j l : ℕ) → c ≡ what.Inc j l → IsActiveIn st (let y = ans.3 in y.made.before) n u.x u.binding j)
          v = voted_differs st n c (let y = ans.3 in y.made.before) (let p = z.0 in p.used) some each few z.4

          voted_then : (kinds : List FrameKind) → list_any (same_frame frame.Voted) kinds ≡ true → (shows : List Line → Bool) →
              shows (let y = ans.3 in y.made.before) ≡ true →
              answered (record h { header = hd; lines = M.seen.lines }) its_place.0 (let s = stands in let b = s.act in b.uid.node) n kinds shows
              ≡ true
          voted_then kinds there shows is = let y = ans.3 in
              answered_at (record h { header = hd; lines = M.seen.lines }) its_place.0 (let s = stands in let b = s.act in b.uid.node) n
              frame.Voted kinds shows y.made.before y.made.after y.made.are its_place.2 (framed frame.Voted z.3) there is

          of : (x : What) → Differs st n (let u = v.0 in u.x) x (let y = ans.3 in y.made.before) →
              ((j l : ℕ) → x ≡ what.Inc j l → IsActiveIn st (let y = ans.3 in y.made.before) n (let u = v.0 in u.x) (let u = v.0 in u.binding) j) →
              commit_differs_on (record h { header = hd; lines = M.seen.lines }) (let s = stands in s.act) its_place.0 n (let u = v.0 in u.x)
              (differs x) ≡ true
          of (what.Inc old new) d met = λ i. lower old new d.0 i && (may_have i && voted_now i)
            where
              may_have : may_have_met h.start M.seen.lines n (let u = v.0 in u.x)
                  (root_in (path (acts M.seen.lines) (let s = stands in let b = s.act in b.label))) old ≡ true
              may_have =
                  let y = ans.3 in
                  ap (λ s0. may_have_met s0 M.seen.lines n (let u = v.0 in u.x)
                  (root_in (path (acts M.seen.lines) (let s = stands in let b = s.act in b.label))) old) starts
                  ∙ or_left (was_active_in st M.seen.lines n (let u = v.0 in u.x) old)
                  ((n == 1) && has_entered_in st M.seen.lines (let u = v.0 in u.x)
                  (root_in (path (acts M.seen.lines) (let s = stands in let b = s.act in b.label))) old)
                  (active_then st M.seen.lines n (let u = v.0 in u.x) (let u = v.0 in u.binding) old
                  (subst (λ ls. IsActiveIn st ls n (let u = v.0 in u.x) (let u = v.0 in u.binding) old) (sym y.made.are)
                  (active_in_more st y.made.before y.made.after n (let u = v.0 in u.x) (let u = v.0 in u.binding) old (met old new refl))))

              voted_now : answered (record h { header = hd; lines = M.seen.lines }) its_place.0 (let s = stands in let b = s.act in b.uid.node) n
                  (frame.Voted ∷ frame.Confirmed ∷ []) (λ ls. incarnation h.start ls n == new) ≡ true
              voted_now = voted_then (frame.Voted ∷ frame.Confirmed ∷ []) refl (λ ls. incarnation h.start ls n == new)
                  (ap (λ s0. incarnation s0 (let y = ans.3 in y.made.before) n == new) starts ∙ ap (λ j. j == new) d.1 ∙ itself new)
          of (what.Bind old new) d met = λ i. d.0 i && voted_then (frame.Voted ∷ []) refl (had_both n (let u = v.0 in u.x) old new) d.1 i

      -- ---- naming's answer

      confirmed_so : Confirmed → (u : Used) × In u (let p = plan_of machine in p.used) × Of u
      confirmed_so z = (
        z.4,
        in_plan z.4 z.5,
        subst (λ x. commit_differs_on (record h { header = hd; lines = M.seen.lines }) (let s = stands in s.act) its_place.0 n
            (let u = z.4 in u.x) (differs x) ≡ true) (sym z.6) (λ i. less i && (may_have i && answers_it i)),
      )
        where
          in_plan : (u : Used) → In u (let p = z.1 in p.used) → In u (let p = plan_of machine in p.used)
          in_plan u i = subst (λ b. In u (let p = plan_of b in p.used)) (sym z.2) i

          its : IsUsedSo st M.seen.lines a.act z.4
          its = used z.4 (in_plan z.4 z.5)

          less : nat_lt (let u = z.4 in u.grant) (incarnation st (let y = ans.3 in y.made.before) 1) ≡ true
          less = lower (let u = z.4 in u.grant) (incarnation st (let y = ans.3 in y.made.before) 1)
              (let y = ans.3 in older hd st Z known.2 k mine t here refl a.act z.4 its rises y.made.before y.made.after y.made.are
              was_called z.7)

          may_have : may_have_met h.start M.seen.lines n (let u = z.4 in u.x)
              (root_in (path (acts M.seen.lines) (let s = stands in let b = s.act in b.label))) (let u = z.4 in u.grant) ≡ true
          may_have = ap (λ s0. may_have_met s0 M.seen.lines n (let u = z.4 in u.x)
              (root_in (path (acts M.seen.lines) (let s = stands in let b = s.act in b.label))) (let u = z.4 in u.grant)) starts
              ∙ or_right (was_active_in st M.seen.lines n (let u = z.4 in u.x) (let u = z.4 in u.grant))
              ((n == 1) && has_entered_in st M.seen.lines (let u = z.4 in u.x)
              (root_in (path (acts M.seen.lines) (let s = stands in let b = s.act in b.label))) (let u = z.4 in u.grant))
              (λ i. (z.0 i == 1) && entered hd st Z known.2 k mine t here refl a.act z.4 its settled (let s = stands in s.act)
              (let s = stands in s.began) its_uid i)

          answers_it : answered (record h { header = hd; lines = M.seen.lines }) its_place.0
              (let s = stands in let b = s.act in b.uid.node) n (frame.Voted ∷ frame.Confirmed ∷ [])
              (λ ls. incarnation h.start ls n == incarnation st (let y = ans.3 in y.made.before) 1) ≡ true
          answers_it = let y = ans.3 in
              answered_at (record h { header = hd; lines = M.seen.lines }) its_place.0 (let s = stands in let b = s.act in b.uid.node) n
              frame.Confirmed (frame.Voted ∷ frame.Confirmed ∷ []) (λ ls. incarnation h.start ls n == incarnation st y.made.before 1)
              y.made.before y.made.after y.made.are its_place.2 (framed frame.Confirmed z.3) refl
              (ap (λ s. incarnation s y.made.before n == incarnation st y.made.before 1) starts
              ∙ ap (λ j. incarnation st y.made.before j == incarnation st y.made.before 1) z.0 ∙ itself (incarnation st y.made.before 1))

      -- ---- the row

      -- the action's unit uses what its plan uses
      unit_so : (u : Used) → In u (let p = plan_of machine in p.used) → unit_uses M.seen.lines (let s = stands in s.act) u.x ≡ true
      unit_so u i =
          let sound = its_sound M.seen.lines right in
          let q = used u i in
          let its : UsesIn M.seen.lines a.act u.x = q.uses sound.distinct in
          subst (λ b. unit_uses M.seen.lines b u.x ≡ true) (one_act (acts M.seen.lines) sound.distinct its.0 (let s = stands in s.act) its.1
          (let s = stands in s.began) (its.2 ∙ sym its_uid)) its.3

      pub changed_row : commit_differs (record h { header = hd; lines = M.seen.lines }) (name w.label) n (differs c) ≡ true
      unfolding its_place
      changed_row = commits_at (record h { header = hd; lines = M.seen.lines }) (name w.label) (let z = ans.3 in z.made.before)
          (let z = ans.3 in z.made.after) (let z = ans.3 in z.made.are) right (let s = stands in s.act)
          (let s = stands in s.named) under called
          (λ b e. list_any (λ (o : ObjectLine). unit_uses M.seen.lines b o.x
          && commit_differs_on (record h { header = hd; lines = M.seen.lines }) b e n o.x (differs c)) hd.objects)
          (there (⊎_elim {C = (u : Used) × In u (let p = plan_of machine in p.used) × Of u} (λ z. voted_so z)
          (λ z. confirmed_so z) told.2))
        where
          there : ((u : Used) × In u (let p = plan_of machine in p.used) × Of u) →
              list_any (λ (o : ObjectLine). unit_uses M.seen.lines (let s = stands in s.act) o.x
              && commit_differs_on (record h { header = hd; lines = M.seen.lines }) (let s = stands in s.act)
              its_place.0 n o.x (differs c)) hd.objects ≡ true
          there z =
              let o : HasObject hd (let u = z.0 in u.x) =
              plan_object hd form k d t M.seen known.0 known.2 settled.early a.act w machine found now z.0 z.1 in
              any_in (λ (o : ObjectLine). unit_uses M.seen.lines (let s = stands in s.act) o.x
              && commit_differs_on (record h { header = hd; lines = M.seen.lines }) (let s = stands in s.act)
              its_place.0 n o.x (differs c)) o.0 hd.objects (in_from o.0 hd.objects o.1)
              (ap (λ y. unit_uses M.seen.lines (let s = stands in s.act) y
              && commit_differs_on (record h { header = hd; lines = M.seen.lines }) (let s = stands in s.act) its_place.0 n y (differs c))
              o.2 ∙ (λ j. unit_so z.0 z.1 j && z.2 j))
