-- What a coordinator has of naming's answers is kept where an answer comes to a commit: a vote, a store's answer, and naming's.
use Rattle.arj_law_parts.proofs.Words
use Words.{if◌then◌else◌, ◌≡◌, ◌==◌, ◌&&◌, ℕ, Bool, true, false, List, [], ◌∷◌, Option, Some, None, is_some, refl, sym, ◌∙◌, ap, subst}
use Words.{⊎_elim, filter, not, and_parts, Asked, Cause, End, Kind, Message, Path, Uid, asks, Reply, answers, ask_kind, differs, reply_kind}
use Words.{heard_by, heard_doing, heard_none, heard_now, moved_commit, waits_for_commit, Aborts, Confirming, Machine, Plan, Preparing}
use Words.{Voting, ask_of, left_of, plainly, plan_of, Calling, Committing, Coord, Doing, Idle, Now, doing_of, nodes_sent, root_at}
use Words.{servers_told, Did, Disk, Effect, Intent, aborts_with, ended, is_deferred, says, tell_all, tolds_by, tolds_of, tolds_of_branch}
use Words.{up_to, Parts, Took, coord_heard, handle, handle_answer, handle_ask, with_coord, at_uid, uid_number, AreAll, is_committing}
use Words.{is_committing_now, Branch, at_place, branch_of, ended_at, ends_of, is_open_branch, root_of, all_both, Seen}
use Words.body
use Words.cause
use Words.confirmed
use Words.ending
use Words.kind
use Words.voted
use Words.commit
use Words.order
use Rattle.arj_law_disk_view.proofs.Terms
use Terms.{found_by, IsGood, KnowsFew, doing_here, KnowsUses, Names, Office, In as InList, bool_cases, falls_to, never, or_left, test_is}
use Terms.{test_same, up, Up, KnowsNode, SeesRecords, nodes_of, KnowsMachine, IsLater, Kinds, SeesCoord, IsEndedBare, IsRecorded}
use Terms.{OnlyDecided, OnlyMemory, SeesBoth, is_no_work, Change, Deciding, MayGoOn, Quietly, asked_change, change_by, doing_change}
use Terms.{now_change, reply_change, root_retains, SeesHeard, HasHeard, HoldsFrom, going_of, IsHeardAt, answers_commit, IsOwnAnswer}
use Terms.{IsOwnVote, only_decides, World}
use Terms.disk
use Rattle.arj_law_disk_view.proofs.names.{BareEnds.none_ended, CommitBoth.says_work, CoordBoth.no_work, Onward.goes_onward}
use Rattle.arj_law_disk_view.proofs.running
use running.{Decisions.goes_along, HeardDecisions.heard_decided, HeardOther.took_to}
use running.HeardVotes.{heard_refused, heard_store, heard_vote}
use Rattle.arj_law_disk_view.proofs.view
use view.{DecideWalks.confirming_of, Doings.doing_tree, Frames.node_here, Later.effects_are_later}
use view.Ended.{ended_here, own_same, tree_ended}
use Rattle.arj_law_disk_view.specs.names.Both.{IsUndecided}
use Rattle.arj_law_parts.specs.moves.Seen.{In}

-- ---- an abort has no work on the disk

tells_work : (root : Uid) (ack : Bool) (ends : List (Uid × End)) (ns : List ℕ) → AreAll is_no_work (tell_all root ack ends ns)
tells_work root ack ends [] = refl
tells_work root ack ends (n ∷ ns) = tells_work root ack ends ns

tolds_work : (intents : List (Uid × Intent)) (c : Coord) (u : Uid) → AreAll is_no_work (tolds_of intents c u)
tolds_work intents c u = of (branch_of u c.tree)
  where
    by : (k : Kind) (p : Path) → AreAll is_no_work (tolds_by u k p intents c)
    by kind.Nested p = tells_work (root_of p) false (up_to u (ends_of (root_of p) c.tree)) (servers_told u (root_at (root_of p) c) c)
    by kind.Serial p =
        tells_work u false ((u, ending.Abort) ∷ []) (filter (λ n. not (is_deferred u intents n)) (nodes_sent u (root_at u c)))
    by kind.Top p = tells_work (root_of p) false ((u, ending.Abort) ∷ []) (nodes_sent u (root_at (root_of p) c))
    by kind.Independent p = tells_work (root_of p) false ((u, ending.Abort) ∷ []) (nodes_sent u (root_at (root_of p) c))
    by kind.Constituent p = tells_work (root_of p) false ((u, ending.Abort) ∷ []) (nodes_sent u (root_at (root_of p) c))

    of : (o : Option Branch) → AreAll is_no_work (tolds_of_branch u intents c o)
    of None = refl
    of (Some b) = by b.kind b.path

aborts_work : (u : Uid) (why : Cause) (intents : List (Uid × Intent)) (c : Coord) →
    AreAll is_no_work (let did = aborts_with u why intents c in did.outs)
aborts_work u why intents c = all_both is_no_work (says u (λ l. body.Aborted l why) c) (tolds_of intents (ended u ending.Abort c) u)
    (says_work u (λ l. body.Aborted l why) c) (tolds_work intents (ended u ending.Abort c) u)

-- ---- naming's answer

module _ (x : ℕ) (tops : Kinds) (e k : ℕ) (d : Disk) (t : Parts) (M : Seen) (A : Office) (good : IsGood (up k d t M))
    (few : KnowsFew (up k d t M)) (uses : KnowsUses t.coord) (knows : KnowsNode tops k d t M) (both : SeesBoth x tops A (up k d t M))
    (h : SeesHeard x tops A (up k d t M)) (u : Uid) (q : Doing) (at_work : doing_of u t.coord ≡ Some q) where
  abbrev Goal : Change → Did Coord → Type 0
  Goal o did = (g : HasHeard (SeesHeard x) x tops o A (going_of e k d t did, M)) × MayGoOn x g.office did.part

  module _ (p : Plan) (now : q.now ≡ Committing (Confirming p)) where
    abbrev O : Change
    O = Deciding (uid_number u) (root_retains x u p t.coord)

    abbrev v : Parts
    v = with_coord t (ended u ending.Abort t.coord)

    n : KnowsMachine tops t.coord u (Confirming p)
    n = let c = knows.coord in c.machines u q (Confirming p) at_work now

    -- a refused commit isn't decided: it has no record, and no commit without one has ended it
    module _ (C B : Office) (L : Seen) (was : SeesBoth x tops C (up k d t M)) (c : OnlyDecided (λ z. z == uid_number u)
        (λ z. root_retains x u p t.coord) C B) (seen : SeesBoth x tops B (up k d (with_coord t (ended u ending.Abort t.coord)) L)) where
      sees : SeesCoord x k d.inc tops t.coord C.world.disk
      sees = let s = was.disks in s.coords k (record { number = k; disk = d; live = Some t }) t
          (node_here M k (record { number = k; disk = d; live = Some t })) refl

      stage : C.world.disk.stage (uid_number u) ≡ disk.Confirming
      stage = let z = confirming_of x tops C.world.disk (uid_number u) n.branch.kind q.now p n.top now
          (sees.working u n.branch q n.found n.unended at_work) in z.stage

      undone : disk.decided C.world.disk (uid_number u) ≡ false
      undone = falls_to (disk.decided C.world.disk (uid_number u))
          (λ on. never ((let y = was.named in y.whole.core.coordinators.decided_closed) (uid_number u) on) (ap disk.is_gone stage))

      here : u.node ≡ k
      here = test_is u.node t.coord.tree.node
          (and_parts (u.node == t.coord.tree.node) (u.inc == t.coord.tree.inc) (found_by u t.coord.tree n.branch n.found).0).0 ∙ sees.node

      records : SeesRecords k d.intents B.world.disk
      records = let s = seen.disks in
          s.records k (record { number = k; disk = d; live = Some v }) (node_here L k (record { number = k; disk = d; live = Some v }))

      unrecorded : at_uid u d.intents ≡ None
      unrecorded = let y = knows.coord in
          y.unrecorded u (ap is_open_branch n.found ∙ ap (λ o. is_open_branch (Some (record n.branch { ended = o }))) n.unended)

      later : IsLater C.world B.world
      later = let a = c.along in
          subst (IsLater C.world) a.here (effects_are_later C.world a.effects a.allowed (let s = was.disks in s.whole))

      not_recorded : IsRecorded (root_retains x u p t.coord) (uid_number u) C B → ⊥
      not_recorded z =
          let done : disk.decided B.world.disk (uid_number u) ≡ true = ap (λ ds. disk.decided_in ds (uid_number u)) z.tops
          ∙ or_left (z.done.top == uid_number u) (disk.decided C.world.disk (uid_number u))
          (ap (λ y. y == uid_number u) z.top ∙ test_same (uid_number u)) in
          ⊎_elim (λ old. never old undone) (λ some. never some (ap is_some (records.is u here ∙ ap nodes_of unrecorded)))
          ((goes_along (λ y. y == uid_number u) C.world B.world (let s = was.disks in s.whole) c.along).0 (uid_number u) done)

      not_bare : IsEndedBare (root_retains x u p t.coord) (uid_number u) C B → ⊥
      not_bare z = let e : ◌≡◌ {A = Option End} (Some ending.Abort) (Some ending.Commit) =
          (coord_then.bare u (record n.branch { ended = Some ending.Abort }) (record q { now = Idle }) aborted works z.bare).committed in cc
        where
          coord_then : SeesCoord x k d.inc tops (ended u ending.Abort t.coord) B.world.disk
          coord_then = let s = seen.disks in s.coords k (record { number = k; disk = d; live = Some v }) v
              (node_here L k (record { number = k; disk = d; live = Some v })) refl

          aborted : branch_of u (ended u ending.Abort t.coord).tree ≡ Some (record n.branch { ended = Some ending.Abort })
          aborted = ap (branch_of u) (doing_tree u (λ (y : Doing). record y { now = Idle })
              (record t.coord { tree = ended_at u ending.Abort t.coord.tree })) ∙ ended_here u n.branch ending.Abort t.coord.tree
              (ended_at u ending.Abort t.coord.tree) n.found (tree_ended u n.branch ending.Abort t.coord.tree n.found)

          works : doing_of u (ended u ending.Abort t.coord) ≡ Some (record q { now = Idle })
          works = doing_here u (λ (y : Doing). record y { now = Idle }) (record t.coord { tree = ended_at u ending.Abort t.coord.tree }) q
              (doing_mid ∙ at_work)
            where
              doing_mid : doing_of u (record t.coord { tree = ended_at u ending.Abort t.coord.tree }) ≡ doing_of u t.coord
              doing_mid = λ i. if own_same u n.branch ending.Abort t.coord.tree (ended_at u ending.Abort t.coord.tree) n.found
                  (tree_ended u n.branch ending.Abort t.coord.tree n.found) u i then at_place u.num t.coord.doings else None

      only_memory : OnlyMemory C B
      only_memory =
          ⊎_elim undecided (λ z. absurd (⊎_elim not_recorded not_bare z)) (c.how (uid_number u) (λ z is. test_is z (uid_number u) is))
        where
          undecided : IsUndecided (uid_number u) C B → OnlyMemory C B
          undecided z = record {
            later = later;
            tops = z.tops;
            bare = λ y on. ⊎_elim (λ (own : (y == uid_number u) ≡ true). let same = test_is y (uid_number u) own in
                ap C.world.disk.bare same ∙ z.bare (ap B.world.disk.bare (sym same) ∙ on)) (λ (other : (y == uid_number u) ≡ false).
                none_ended (only_decides (λ k. k == uid_number u)) y other C.world B.world c.along on) (bool_cases (y == uid_number u));
            had = ap (λ (m : Names). m.had) z.names;
            kept = ap (λ (m : Names). m.kept) z.names;
            answers = λ a i. subst (λ (m : Names). InList a m.answers) (sym z.names) i;
            inc = ap (λ (m : Names). m.inc) z.names;
            confd = λ y on. ap (λ (m : Names). m.confd y) z.names ∙ on;
            onward = goes_onward (only_decides (λ k. k == uid_number u)) (λ y. refl) C B c.along;
          }

    heard_denied : (why : Cause) → Goal O (moved_commit u (plainly (Aborts why p)) d.intents t.coord)
    heard_denied why =
        let g = heard_refused x tops e k d t M A good few knows both h u q at_work (Confirming p) p why now in
        let b = g.0 in (
          record {
            office = b.office;
            only = b.only;
            both = b.both;
            along = no_work e k M (HoldsFrom (SeesHeard x) x tops Quietly b.office) (HoldsFrom (SeesHeard x) x tops O b.office)
                (Up (HoldsFrom (SeesHeard x) x tops Quietly b.office) k v) (Up (HoldsFrom (SeesHeard x) x tops O b.office) k v) d
                (λ L same holds B c seen. holds B (only_memory b.office B L b.both c seen) seen) (aborts_with u why d.intents t.coord).outs
                (aborts_work u why d.intents t.coord) M refl b.along;
          },
          g.1,
        )

  -- ---- an answer of the kind that is waited for

  module _ (from : ℕ) (m : Message) (a : Asked) (posted : In (record { from = from; to = k; message = m }) M.sent) (own : IsOwnVote m)
      (act : a.act ≡ u) (R : World → Seen → Type 0) (at : IsHeardAt x R tops A (k, d, t) M) where
    heard_reply : (y : Machine) (r : Reply) → answers m ≡ Some (a, r) → q.now ≡ Committing y → reply_kind r ≡ ask_kind (ask_of y from) →
        waits_for_commit from a r y ≡ true →
        Goal (now_change x u t.coord (Committing y)) (moved_commit u (commit.answered from y r) d.intents t.coord)
    heard_reply (Voting p left) (Reply.Voted (voted.Yes states)) it now kd waits =
        heard_vote x tops e k d t M A good few knows both h u q at_work p left now from m a states posted it act (subst IsOwnAnswer it own)
        (let z = at.decided in z.past)
    heard_reply (Voting p left) (Reply.Voted (voted.Changed w)) it now kd waits =
        heard_refused x tops e k d t M A good few knows both h u q at_work (Voting p left) p (cause.Changed from (differs w)) now
    heard_reply (Voting p left) (Reply.Bound r) it now kd waits = absurd (cc kd)
    heard_reply (Voting p left) (Reply.Loaded r) it now kd waits = absurd (cc kd)
    heard_reply (Voting p left) (Reply.Activated r) it now kd waits = absurd (cc kd)
    heard_reply (Voting p left) (Reply.Noted r) it now kd waits = absurd (cc kd)
    heard_reply (Voting p left) (Reply.Invoked r) it now kd waits = absurd (cc kd)
    heard_reply (Voting p left) (Reply.Prepared r) it now kd waits = absurd (cc kd)
    heard_reply (Voting p left) (Reply.Confirmed r) it now kd waits = absurd (cc kd)
    heard_reply (Preparing p left) (Reply.Prepared r) it now kd waits =
        heard_store x tops e k d t M A good few knows both h u q at_work p left now from r
    heard_reply (Preparing p left) (Reply.Bound r) it now kd waits = absurd (cc kd)
    heard_reply (Preparing p left) (Reply.Loaded r) it now kd waits = absurd (cc kd)
    heard_reply (Preparing p left) (Reply.Activated r) it now kd waits = absurd (cc kd)
    heard_reply (Preparing p left) (Reply.Noted r) it now kd waits = absurd (cc kd)
    heard_reply (Preparing p left) (Reply.Invoked r) it now kd waits = absurd (cc kd)
    heard_reply (Preparing p left) (Reply.Voted r) it now kd waits = absurd (cc kd)
    heard_reply (Preparing p left) (Reply.Confirmed r) it now kd waits = absurd (cc kd)
    heard_reply (Confirming p) (Reply.Confirmed confirmed.Yes) it now kd waits =
        heard_decided x tops e k d t M A good few uses knows both h u q p at_work now
    heard_reply (Confirming p) (Reply.Confirmed (confirmed.Conflict holder mode)) it now kd waits =
        heard_denied p now (cause.Conflict holder mode 1)
    heard_reply (Confirming p) (Reply.Confirmed (confirmed.Changed w)) it now kd waits = heard_denied p now (cause.Changed 1 (differs w))
    heard_reply (Confirming p) (Reply.Confirmed (confirmed.NoStores y)) it now kd waits = heard_denied p now (cause.NoStores y)
    heard_reply (Confirming p) (Reply.Confirmed (confirmed.Listed y s)) it now kd waits = heard_denied p now (cause.Listed y s)
    heard_reply (Confirming p) (Reply.Bound r) it now kd waits = absurd (cc kd)
    heard_reply (Confirming p) (Reply.Loaded r) it now kd waits = absurd (cc kd)
    heard_reply (Confirming p) (Reply.Activated r) it now kd waits = absurd (cc kd)
    heard_reply (Confirming p) (Reply.Noted r) it now kd waits = absurd (cc kd)
    heard_reply (Confirming p) (Reply.Invoked r) it now kd waits = absurd (cc kd)
    heard_reply (Confirming p) (Reply.Voted r) it now kd waits = absurd (cc kd)
    heard_reply (Confirming p) (Reply.Prepared r) it now kd waits = absurd (cc kd)

-- ---- the message

pub heard_answer : (x : ℕ) (R : World → Seen → Type 0) → ((W : World) (M : Seen) → R W M → IsGood M × KnowsFew M) → (tops : Kinds) (e k : ℕ)
    (d : Disk) (t v : Parts) (from : ℕ) (m : Message) (a : Asked) (r : Reply) (outs : List Effect) (M : Seen) (A : Office) →
    IsHeardAt x R tops A (k, d, t) M → KnowsUses t.coord
    → In (record { from = from; to = k; message = m }) M.sent → IsOwnVote m → asks m ≡ None → answers m ≡ Some (a, r) →
    answers_commit a t.coord ≡ true → handle k d t from m ≡ Took v outs
    → (h : HasHeard (SeesHeard x) x tops (change_by x d t m) A
    (record { event = e; node = k; disk = d; before = t; outs = outs; after = v }, M)) × MayGoOn x h.office v.coord
heard_answer x R runs tops e k d t v from m a r outs M A at uses posted own none it commits is =
    by (doing_of a.act t.coord) refl commits (sym (ap (handle_answer k d t from m) it) ∙ (sym (ap (handle_ask k d t from m) none) ∙ is))
  where
    Goal : Parts → List Effect → Type 0
    Goal w es = (h : HasHeard (SeesHeard x) x tops (change_by x d t m) A
        (record { event = e; node = k; disk = d; before = t; outs = es; after = w }, M)) × MayGoOn x h.office w.coord

    change : (q : Doing) (y : Machine) → doing_of a.act t.coord ≡ Some q → q.now ≡ Committing y →
        change_by x d t m ≡ now_change x a.act t.coord (Committing y)
    change q y does now = ap (asked_change x d t m) none
        ∙ (ap (reply_change x t.coord) it ∙ (ap (doing_change x a.act t.coord) does ∙ ap (now_change x a.act t.coord) now))

    taken : (q : Doing) (y : Machine) → doing_of a.act t.coord ≡ Some q → q.now ≡ Committing y → (b : Bool) → waits_for_commit from a r y
        ≡ b → coord_heard t (if b then heard_by (moved_commit a.act (commit.answered from y r) d.intents t.coord) else heard_none t.coord)
        ≡ Took v outs → Goal v outs
    taken q y does now false waits took = absurd (cc took)
    taken q y does now true waits took =
        let did = moved_commit a.act (commit.answered from y r) d.intents t.coord in
        let one = and_parts ((plan_of y).req == a.req) ((reply_kind r == ask_kind (ask_of y from)) && order.has (left_of y) from) waits in
        let two = and_parts (reply_kind r == ask_kind (ask_of y from)) (order.has (left_of y) from) one.1 in
        took_to Goal (with_coord t did.part) did.outs v outs took
        (subst (λ o. (h : HasHeard (SeesHeard x) x tops o A (going_of e k d t did, M)) × MayGoOn x h.office did.part)
        (sym (change q y does now))
        (heard_reply x tops e k d t M A (runs _ _ at.run).0 (runs _ _ at.run).1 uses at.knows at.both at.heard a.act q does from m a posted
        own refl R at y r it now (test_is (reply_kind r) (ask_kind (ask_of y from)) two.0) waits))

    by_now : (q : Doing) (n : Now) → doing_of a.act t.coord ≡ Some q → q.now ≡ n → is_committing_now n ≡ true →
        coord_heard t (heard_now from a r d.intents t.coord n) ≡ Took v outs → Goal v outs
    by_now q Idle does now on took = absurd (cc on)
    by_now q (Calling s) does now on took = absurd (cc on)
    by_now q (Committing y) does now on took = taken q y does now (waits_for_commit from a r y) refl took

    by : (o : Option Doing) → doing_of a.act t.coord ≡ o → is_committing o ≡ true →
        coord_heard t (heard_doing from a r d.intents t.coord o) ≡ Took v outs → Goal v outs
    by None does on took = absurd (cc on)
    by (Some q) does on took = by_now q q.now does refl on took
