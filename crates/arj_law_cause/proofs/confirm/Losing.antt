-- What a store's answer to a Prepare says, where it refuses a state as too late: of which object that is, of which version, and that naming
-- came up again since the root of the action that asks first had a lock on the object's entry.
use Rattle.arj_law_parts.proofs.Words
use Words.{⊤, ◌≡◌, ◌≤◌, ◌∙◌, ◌==◌, ◌++◌, ℕ, Bool, true, false, if◌then◌else◌, List, [], ◌∷◌, length, Option, Some, None, refl, sym, ap}
use Words.{subst}
use Words.{eqb-true, append_assoc, in_find, in_to, AllByRecursion, In, Ask, Disk, Do, Effect, Say, Send, Head, Header}
use Words.{Line, Message, Node, ObjectState, Parts, Prep, PreparedReply, Prepare, Ready, Already, InDoubt, Old, Look, Reply, Seen, Start}
use Words.{Took, Void}
use Words.{Uid, Used, plan_of, actor, asks, asked_by, response, entry, first_uid, uid_eq, uid_is, uids_of, is_on}
use Words.{handle_ask, is_prepared, prepare_answer, prepare_by, sends_answer, serve}
use Words.ask
use Words.body
use Words.mode
use Words.prepared
use Words.role
use Rattle.arj_promise.specs.Runs.{HeaderFits}
use Rattle.arj_law_disk.specs.machine.State.{target}
use Rattle.arj_law_disk_view.specs.view.Plans.{plan_at, plan_by, used_at}
use Rattle.arj_law_lock_view.proofs.Terms.{same_number}
use Rattle.arj_law_lock_view.specs.moments.Made.{Saying, Tells, lines_behind}
use Rattle.arj_law_parts.proofs.moves.Happens.{Wide}
use Rattle.arj_law_parts.proofs.parts.Begun.{on_own, path_some}
use Rattle.arj_law_parts.specs.moves.Moments.{Moment, up}
use Rattle.arj_law_parts.specs.moves.Seen as seen
use Rattle.arj_law_runs.proofs.journal.{Models.its_sound, Ties.on_path}
use Rattle.arj_law_runs.proofs.resting.PlainRuns.{each_of}
use Rattle.arj_law_runs.specs.journal.Book.{new_book}
use Rattle.arj_law_runs.specs.journal.Right.{AreRight}
use Rattle.arj_law_serial.proofs.Terms.{Act, Action, AreDistinct, act_of, acts, path, path_by, uids}
use Rattle.arj_law_serial.proofs.order.Paths.{found}
use Rattle.arj_law_serial.proofs.tables.Holders.{path_fits}
use Rattle.arj_model.specs.Actions.{is_over, root_in}
use Rattle.arj_model.specs.CauseAnswers.{has_lock}
use Rattle.arj_model.specs.CauseCommits.{has_restarted}
use Rattle.arj_model.specs.CauseCopies.{has_entered_in}
use Rattle.arj_model.specs.Refusals.{incarnation, is_root}
use Rattle.arj_law_cause.proofs.confirm.{Called.BasedCalled, Called.called_keep, Called.is_called, Granted.NowHad}
use Rattle.arj_law_cause.proofs.confirm.{Granting.GrantsAreHad, Granting.IsHadSo, Had.HadIn, Had.IsUsedSo, Had.PlanSo, Had.WasHad}
use Rattle.arj_law_cause.proofs.confirm.{Labels.written, Olds.IsTooLate, Olds.says_late, Olds.too_late, Opened.IsAtCommit}
use Rattle.arj_law_cause.proofs.confirm.{Reached.Reached, Reached.reached_has, Restarted.no_such, Restarts.same_life}
use Rattle.arj_law_cause.proofs.confirm.Olds as olds
use Rattle.arj_law_cause.proofs.confirm.Placed as placed
use Rattle.arj_law_cause.proofs.rows.{Entered.IsSettled, Entered.entered_then, Entered.one_root, Holders.alike_from, Holders.one_passes}
use Rattle.arj_law_cause.proofs.rows.{Paths.label_path, Telling.outs_in, Telling.same_reply}

-- ---- what is said

-- Naming came up again since the root of the action that asks entered the object, while the action is open, by lines that are settled.
abbrev pub says_lost : Head → ℕ → List Line → Type 0
says_lost h y before = IsSettled before → (a : Act) → In a (acts before) → a.uid ≡ actor h.path → is_over before a ≡ false →
    has_restarted before y (root_in (path (acts before) a.label)) ≡ true

-- the commit was called, and of a refusal as too late all is so
abbrev pub says_old : Start → Head → Ask → Reply → List Line → Type 0
says_old st h (ask.Prepare states) (Reply.Prepared (prepared.Old y v)) before =
    is_called before (actor h.path) × says_late st h states y v before × says_lost h y before
says_old st h a r before = ⊤

-- so it is of an answer, in a run with this start
abbrev pub old_so : Start → Saying
old_so st a before = says_old st (let z = a in z.head) (let z = a in z.ask) (let z = a in z.reply) before

-- ---- where a store serves it

root_is : (o q : Option ℕ) → is_root o q ≡ true → o ≡ q
root_is None q is = absurd (cc is)
root_is (Some a) None is = absurd (cc is)
root_is (Some a) (Some b) is = ap Some (eqb-true a b is)

-- a store that is a target has something planned for it
planned_some : (o : Option Used) (e : Option ObjectState) (k : ℕ) → target (plan_by o e) k ≡ true → (r : Used) × (o ≡ Some r)
planned_some None e k is = absurd (cc is)
planned_some (Some r) e k is = (r, refl)

module _ (hd : Header) (form : HeaderFits hd) (Z : Seen) (reached : Reached hd Z) (settled : IsSettled Z.lines)
    (had : (j : ℕ) (n : Node) (t : Parts) → Z.nodes j ≡ Some n → n.live ≡ Some t → IsHadSo Z.start Z.lines t.coord) where
  right : AreRight new_book Z.lines
  right = let w = written hd Z reached in w.right

  distinct : AreDistinct (acts Z.lines)
  distinct = let s = its_sound Z.lines right in s.distinct

  -- ---- paths of actions that began

  module _ (k : ℕ) (n : Node) (t : Parts) (here : Z.nodes k ≡ Some n) (live : n.live ≡ Some t) (a : Act) (began : In a (acts Z.lines)) where
    action : (b : Action) × In b (placed.begun hd Z reached k n t here live) × (act_of b ≡ a.uid)
    action = let f = alike_from (placed.begun hd Z reached k n t here live) (acts Z.lines) (placed.alike hd Z reached k n t here live) a
        began in (f.0, f.1, sym f.2)

    by_uid : path (acts Z.lines) a.label ≡ path_by (acts Z.lines) a.uid
    by_uid = label_path (acts Z.lines) distinct a.label a (found (acts Z.lines) distinct a began)

    uids_are : uids (path (acts Z.lines) a.label) ≡ uids_of (let b = action.0 in b.path)
    uids_are = ap uids by_uid ∙ ap (λ u. uids (path_by (acts Z.lines) u)) (sym action.2)
        ∙ (let f = path_fits (placed.begun hd Z reached k n t here live) (acts Z.lines) (placed.all_begun hd Z reached k n t here live)
        (placed.alike hd Z reached k n t here live) action.0 action.1 in let z = f.actor_is in z.path_is)

    some : 1 ≤ length (uids (path (acts Z.lines) a.label))
    some = subst (λ us. 1 ≤ length us) (sym uids_are) (path_some (let b = action.0 in b.path))

    above : is_on (uids_of (let b = action.0 in b.path)) a.uid ≡ true
    above = subst (λ u. is_on (uids_of (let b = action.0 in b.path)) u ≡ true) action.2 (on_own (let b = action.0 in b.path))

  -- ---- the refusal

  module _ (k : ℕ) (d : Disk) (t : Parts) (here : Z.nodes k ≡ Some (record { number = k; disk = d; live = Some t })) (from : ℕ)
      (m : Message) (sent : seen.In (record { from = from; to = k; message = m }) Z.sent) (h : Head) (states : List ObjectState)
      (asking : asks m ≡ Some (h, ask.Prepare states)) (w : Uid) (v : ℕ) (is : prepare_answer (actor h.path) states d.store ≡ Old w v)
      (a : Act) (began : In a (acts Z.lines)) (its : a.uid ≡ actor h.path) (opened : is_over Z.lines a ≡ false) where
    abbrev c : IsAtCommit Z a.uid
    c = olds.c hd form Z reached k d t here from m sent h states asking w v is settled.early a began its opened

    goal : target (plan_at w.num (plan_of (let z = olds.c hd form Z reached k d t here from m sent h states asking w v is settled.early a
        began its opened in z.machine))) k ≡ true
    goal = olds.goal hd form Z reached k d t here from m sent h states asking w v is settled.early a began its opened

    abbrev used : List Used
    used = let z = olds.c hd form Z reached k d t here from m sent h states asking w v is settled.early a began its opened in
        let p = plan_of z.machine in p.used

    r : (r : Used) × (used_at w.num used ≡ Some r)
    r = planned_some (used_at w.num used) _ k goal

    among : In r.0 used × (((let y = r.0 in y.x) == w.num) ≡ true)
    among = in_find (λ (y : Used). y.x == w.num) r.0 used r.1

    object_is : (let y = r.0 in y.x) ≡ w.num
    object_is = eqb-true (let y = r.0 in y.x) w.num among.1

    -- what the plan uses was had by lines before
    E : IsUsedSo Z.start Z.lines a.uid r.0
    E = each_of (PlanSo Z.start Z.lines a.uid) used r.0 plan among.0 (let e = settled.early in e.few)
      where
        coord : IsHadSo Z.start Z.lines (let p = c.parts in p.coord)
        coord = had (let u = a.uid in u.node) c.node c.parts c.there c.live

        plan : AllByRecursion (PlanSo Z.start Z.lines a.uid) used
        plan = subst (NowHad (HadIn Z.start Z.lines) (PlanSo Z.start Z.lines) a.uid) c.now (coord.works a.uid c.doing c.does)

    top : (b : Act) × In b (acts Z.lines) × (b.uid ≡ (let e = E in e.top))
    top = let f = one_passes (λ (b : Act). uid_eq b.uid (let e = E in e.top)) (acts Z.lines) (let e = E in e.there) in
        (f.0, f.1, uid_is (let b = f.0 in b.uid) (let e = E in e.top) f.2)

    abbrev of_top : List Act
    of_top = path (acts Z.lines) (let b = top.0 in b.label)

    abbrev root : Option ℕ
    root = root_in (path (acts Z.lines) a.label)

    -- the top that had the lock is of the root
    same_root : root_in (path (acts Z.lines) (let b = top.0 in b.label)) ≡ root_in (path (acts Z.lines) a.label)
    same_root = root_is (root_in of_top) root (one_root (acts Z.lines) distinct of_top (path (acts Z.lines) a.label)
        (on_path (acts Z.lines) (let b = top.0 in b.label)) (on_path (acts Z.lines) a.label)
        (some (let u = a.uid in u.node) c.node c.parts c.there c.live top.0 top.1)
        (some (let u = a.uid in u.node) c.node c.parts c.there c.live a began) firsts)
      where
        firsts : first_uid (uids of_top) ≡ first_uid (uids (path (acts Z.lines) a.label))
        firsts = ap (λ p. first_uid (uids p)) (by_uid (let u = a.uid in u.node) c.node c.parts c.there c.live top.0 top.1
            ∙ ap (path_by (acts Z.lines)) top.2) ∙ (let e = E in e.root distinct)
            ∙ ap (λ p. first_uid (uids p)) (sym (by_uid (let u = a.uid in u.node) c.node c.parts c.there c.live a began))

    had_it : WasHad Z.start (let e = E in e.first) (let e = E in e.top) (let y = r.0 in y.x) (let y = r.0 in y.grant)
    had_it = let e = E in e.had

    lines_are : Z.lines ≡ (let z = had_it in z.before) ++ ((let z = had_it in z.after) ++ (let e = E in e.more))
    lines_are = (let e = E in e.are) ∙ (λ i. (let z = had_it in z.are) i ++ (let e = E in e.more))
        ∙ append_assoc (let z = had_it in z.before) (let z = had_it in z.after) (let e = E in e.more)

    -- so the root entered in that incarnation
    entered : has_entered_in Z.start Z.lines w.num (root_in (path (acts Z.lines) a.label)) (let y = r.0 in y.grant) ≡ true
    entered = subst (λ i. has_entered_in Z.start Z.lines w.num root i ≡ true) (let z = had_it in z.inc)
        (subst (λ o. has_entered_in Z.start Z.lines w.num o (incarnation Z.start (let z = had_it in z.before) 1) ≡ true) same_root
        (entered_then Z.start Z.lines (let z = had_it in z.before) ((let z = had_it in z.after) ++ (let e = E in e.more)) lines_are
        (placed.begun hd Z reached (let u = a.uid in u.node) c.node c.parts c.there c.live)
        (placed.all_begun hd Z reached (let u = a.uid in u.node) c.node c.parts c.there c.live)
        (placed.alike hd Z reached (let u = a.uid in u.node) c.node c.parts c.there c.live) distinct of_b.0
        (in_to of_b.0 (placed.begun hd Z reached (let u = a.uid in u.node) c.node c.parts c.there c.live) of_b.1) (let e = E in e.top)
        (subst (λ u. is_on (uids_of (let b = of_b.0 in b.path)) u ≡ true) top.2
        (above (let u = a.uid in u.node) c.node c.parts c.there c.live top.0 top.1)) of_top
        (uids_are (let u = a.uid in u.node) c.node c.parts c.there c.live top.0 top.1) (on_path (acts Z.lines) (let b = top.0 in b.label))
        settled.begins w.num mode.Read (subst (λ y. has_lock 1 (let e = E in e.top) (entry y) mode.Read (let z = had_it in z.before) ≡ true)
        object_is (let z = had_it in z.lock))))
      where
        of_b : (b : Action) × In b (placed.begun hd Z reached (let u = a.uid in u.node) c.node c.parts c.there c.live)
            × (act_of b ≡ (let b = top.0 in b.uid))
        of_b = action (let u = a.uid in u.node) c.node c.parts c.there c.live top.0 top.1

    pub lost : has_restarted Z.lines w.num (root_in (path (acts Z.lines) a.label)) ≡ true
    lost = by (has_restarted Z.lines w.num root) refl
      where
        by : (b : Bool) → has_restarted Z.lines w.num root ≡ b → b ≡ true
        by true e = refl
        by false e = absurd (no_such hd w.num form (olds.line hd form Z reached k d t here from m sent h states asking w v is) Z reached
            settled.early a.uid c (olds.left hd form Z reached k d t here from m sent h states asking w v is settled.early a began its opened)
            r.0 r.1 k (record { number = k; disk = d; live = Some t }) t here refl
            (let z = olds.refusal hd form Z reached k d t here from m sent h states asking w v is in z.held) goal
            (olds.held_there hd form Z reached k d t here from m sent h states asking w v is)
            (olds.unbelow hd form Z reached k d t here from m sent h states asking w v is settled.early a began its opened)
            (same_life Z.start Z.lines w.num root (let y = r.0 in y.grant) entered e) (let z = had_it in z.since))

-- ---- what its answer says

abbrev tail_of : List Effect → List Effect
tail_of [] = []
tail_of (e ∷ es) = es

module _ (hd : Header) (st : Start) (form : HeaderFits hd) (k : ℕ) (d : Disk) (t v : Parts) (from : ℕ) (m : Message) (h : Head)
    (states : List ObjectState) (r : Reply) (front : List Effect) (M : Moment) (known : Wide (Reached hd) (up k d t M))
    (starts : (let N = M.seen in N.start) ≡ st) (there : seen.In (record { from = from; to = k; message = m }) M.seen.sent)
    (asking : asks m ≡ Some (h, ask.Prepare states)) (had : GrantsAreHad st (up k d t M)) where
  abbrev stored : Seen
  stored = let N = up k d t M in seen.with_sent known.0 N.seen

  its_place : (let N = up k d t M in N.seen.nodes k) ≡ Some (record { number = k; disk = d; live = Some t })
  its_place = λ i. if same_number k i then Some (record { number = k; disk = d; live = Some t }) else M.seen.nodes k

  its_post : seen.In (record { from = from; to = k; message = m }) known.0
  its_post = known.1 (record { from = from; to = k; message = m }) there

  prepare_called : is_called M.seen.lines (actor h.path)
  prepare_called = (reached_has hd BasedCalled (called_keep hd) (let N = up k d t M in seen.with_sent known.0 N.seen) known.2).1
      (record { from = from; to = k; message = m }) h (ask.Prepare states) its_post asking

  pub prepare_says : serve k d t from h (ask.Prepare states) ≡ Took v (front ++ Send from (response (asked_by h) r) ∷ []) →
      says_old st h (ask.Prepare states) r (lines_behind M.past.number front M.seen.lines)
  prepare_says e = by (is_prepared (actor h.path) d.store) (prepare_answer (actor h.path) states d.store) refl e
    where
      plain_so : (q : PreparedReply) → r ≡ Reply.Prepared q → ((y n : ℕ) → q ≡ prepared.Old y n → ⊥) →
          says_old st h (ask.Prepare states) r (lines_behind M.past.number front M.seen.lines)
      plain_so prepared.Yes is off = subst (λ z. says_old st h (ask.Prepare states) z (lines_behind M.past.number front M.seen.lines))
          (sym is) tt
      plain_so (prepared.InDoubt y u) is off =
          subst (λ z. says_old st h (ask.Prepare states) z (lines_behind M.past.number front M.seen.lines)) (sym is) tt
      plain_so (prepared.Old y n) is off = absurd (off y n refl)

      by : (b : Bool) (a : Prep) → prepare_answer (actor h.path) states d.store ≡ a →
          (if b then sends_answer from h t [] (Some (Reply.Prepared prepared.Yes)) else prepare_by k states from h t a)
          ≡ Took v (front ++ Send from (response (asked_by h) r) ∷ []) →
          says_old st h (ask.Prepare states) r (lines_behind M.past.number front M.seen.lines)
      by true a is f =
          plain_so prepared.Yes (same_reply from h r (Reply.Prepared prepared.Yes) front [] (sym (ap outs_in f))) (λ y n z. cc z)
      by false Ready is f = plain_so prepared.Yes (same_reply from h r (Reply.Prepared prepared.Yes) front
          (Do Look ∷ Do (Prepare role.Store (actor h.path) states) ∷ Say (body.Prepared k (actor h.path) role.Store) ∷ [])
          (sym (ap outs_in f))) (λ y n z. cc z)
      by false (Already u) is f = let no_way : Void (Do Look ∷ []) ≡ Took v (front ++ Send from (response (asked_by h) r) ∷ []) = f in
          absurd (cc no_way)
      by false (InDoubt u w) is f = plain_so (prepared.InDoubt (let z = u in z.num) w) (same_reply from h r
          (Reply.Prepared (prepared.InDoubt (let z = u in z.num) w)) front (Do Look ∷ []) (sym (ap outs_in f))) (λ y n z. cc z)
      by false (Old u n) is f = subst (λ z. says_old st h (ask.Prepare states) z (lines_behind M.past.number front M.seen.lines))
          (sym (same_reply from h r (Reply.Prepared (prepared.Old (let z = u in z.num) n)) front (Do Look ∷ []) (sym (ap outs_in f))))
          (subst (λ ls. is_called ls (actor h.path) × says_late st h states (let z = u in z.num) n ls × says_lost h (let z = u in z.num) ls)
          (sym (behind_look f)) (
            prepare_called,
            λ early a began its opened. subst (λ s. IsTooLate s states (let z = u in z.num) n M.seen.lines) starts
                (too_late hd form (let N = up k d t M in seen.with_sent known.0 N.seen) known.2 k d t its_place from m its_post h states
                asking u n
                is early a began its opened),
            λ settled a began its opened. lost hd form (let N = up k d t M in seen.with_sent known.0 N.seen) known.2 settled
                (λ j n p at live. subst (λ s. IsHadSo s M.seen.lines p.coord) (sym starts) (had j n p at live)) k d t its_place from m
                its_post h states asking u n is a began its opened,
          ))
        where
          behind_look : Took t (Do Look ∷ Send from (response (asked_by h) (Reply.Prepared (prepared.Old (let z = u in z.num) n))) ∷ [])
              ≡ Took v (front ++ Send from (response (asked_by h) r) ∷ []) →
              lines_behind M.past.number front M.seen.lines ≡ M.seen.lines
          behind_look f = two front (ap outs_in f)
            where
              two : (es : List Effect) →
                  Do Look ∷ Send from (response (asked_by h) (Reply.Prepared (prepared.Old (let z = u in z.num) n))) ∷ []
                  ≡ es ++ Send from (response (asked_by h) r) ∷ [] → lines_behind M.past.number es M.seen.lines ≡ M.seen.lines
              two [] g = absurd (cc g)
              two (Do w ∷ []) g = refl
              two (Say b ∷ []) g = absurd (cc g)
              two (Send to z ∷ []) g = refl
              two (a ∷ b ∷ []) g = absurd (cc (ap tail_of (ap tail_of g)))
              two (a ∷ b ∷ c ∷ es) g = absurd (cc (ap tail_of (ap tail_of g)))

pub old_tells : (hd : Header) (st : Start) → HeaderFits hd → (K : Moment → Type 0) →
    ((M : Moment) → K M → Wide (Reached hd) M × ((let N = M.seen in N.start) ≡ st) × GrantsAreHad st M) → Tells K (old_so st)
old_tells hd st form K to k d t v from m h (ask.Confirm grants gone more) r front M known there other meant asking new is = tt
old_tells hd st form K to k d t v from m h (ask.Bind x include avoid) r front M known there other meant asking new is = tt
old_tells hd st form K to k d t v from m h (ask.Load x) r front M known there other meant asking new is = tt
old_tells hd st form K to k d t v from m h (ask.Activate b state) r front M known there other meant asking new is = tt
old_tells hd st form K to k d t v from m h (ask.Record x b i g) r front M known there other meant asking new is = tt
old_tells hd st form K to k d t v from m h (ask.Invoke x b i ends op) r front M known there other meant asking new is = tt
old_tells hd st form K to k d t v from m h (ask.Vote i ties ends) r front M known there other meant asking new is = tt
old_tells hd st form K to k d t v from m h (ask.Prepare states) r front M known there other meant asking new is =
    let z = to (up k d t M) known in
    prepare_says hd st form k d t v from m h states r front M z.0 z.1 there asking z.2 (sym (ap (handle_ask k d t from m) asking) ∙ is)
