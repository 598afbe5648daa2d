-- What coordinators have of naming's answers is kept where one takes an answer to a call or an include.
use Rattle.arj_law_parts.proofs.Words
use Words.{◌≡◌, ◌+◌, ℕ, ◌==◌, ◌&&◌, if◌then◌else◌, Bool, true, false, List, [], Option, Some, None, refl, sym, ◌∙◌, ap, subst, ⊎_elim}
use Words.{AllByRecursion, and_parts, Asked, Message, Uid, asks, uids_of, Reply, actor, answers, ask_kind, asked_by, reply_kind, top_of}
use Words.{end_line, heard_call, heard_by, heard_doing, heard_none, heard_now, root_moved, step_call, waits_for_call, CallStep, Ended}
use Words.{Moved, On, Steps, answered, next_ask, next_node, Machine, Calling, Committing, Coord, Doing, Idle, Now, doing_of, is_free}
use Words.{kept_of, on_doing, on_root, root_at, Disk, Effect, Parts, Took, Void, coord_heard, handle, handle_answer, handle_ask, with_coord}
use Words.{uid_number, is_committing, is_committing_now, ends_of, root_of, Seen}
use Rattle.arj_law_disk_view.proofs.Terms
use Terms.{head_of, KnowsFew, IsGood, Office, never, test_is, up, KnowsNode, IsFixed, Kinds, SeesBoth, MayGoOn, Quietly, asked_change}
use Terms.{change_by, doing_change, now_change, reply_change, IsToStep, SeesHeard, SeesHeardAt, HasHeard, answers_commit}
use Rattle.arj_law_disk_view.proofs.running
use running.{HeardAborts.says_say, HeardCoord.mine, HeardCoord.step_from, HeardGoing.old_goes_on, HeardOther.took_to, HeardPlaces.StandsIn}
use running.{HeardPosts.SaysHeard, HeardQuiet.fixed_in, HeardServe.actor_of_step, HeardTick.request_says, HeardTick.step_claims}
use running.HeardAnswers.{IsHeardBy, heard_each}
use running.HeardMoved.{gone_root, has_gone, joins_from, next_of}
use running.HeardStarts.{asking, step_stands, top_apart}
use running.HeardStays.{at_stays, memory_goes, memory_stays}
use running.HeardTaken.{HasGone, NextSees, at_gone, now_of, taken_heard}
use Rattle.arj_law_disk_view.proofs.view.Frames.{node_here}
use Rattle.arj_law_parts.specs.moves.Seen.{In}

module _ (x : ℕ) (tops : Kinds) (e k : ℕ) (d : Disk) (t : Parts) (M : Seen) (A : Office) (good : IsGood (up k d t M)) (few : KnowsFew
    (up k d t M)) (knows : KnowsNode tops k d t M) (both : SeesBoth x tops A (up k d t M)) (p : SeesHeard x tops A (up k d t M)) where
  -- what has to hold of a step to this memory, with these effects
  abbrev Kept_by : Parts → List Effect → Type 0
  Kept_by v outs = (h : HasHeard (SeesHeard x) x tops Quietly A
      (record { event = e; node = k; disk = d; before = t; outs = outs; after = v }, M)) × MayGoOn x h.office v.coord

  module _ (u : Uid) (w : Doing) (s : Steps) (does : doing_of u t.coord ≡ Some w) (now : w.now ≡ Calling s) (r : Reply)
      (to : IsToStep k M.sent s r) (kind : (reply_kind r == ask_kind (next_ask [] s)) ≡ true) where
    abbrev m : Moved
    m = answered (is_free (root_of s.path) (actor s.path) s.x t.coord) (kept_of s.x (root_at (root_of s.path) t.coord)) s.goal s.at r

    place : StandsIn tops t.coord s.path
    place = step_stands tops k d t M good few knows u w s does now

    heard : IsHeardBy x tops k d t M A good few knows both p u w s does now r
        (answered (is_free (root_of s.path) (actor s.path) s.x t.coord) (kept_of s.x (root_at (root_of s.path) t.coord)) s.goal s.at r)
    heard = heard_each x tops k d t M A good few knows both p u w s does now r to kind

    fixed : IsFixed tops A.world.disk
    fixed = fixed_in x tops A (up k d t M) both

    found : doing_of (actor s.path) t.coord ≡ Some w
    found = ap (λ v. doing_of v t.coord) (actor_of_step (up k d t M) good few k (record { number = k; disk = d; live = Some t }) t
        (node_here M k (record { number = k; disk = d; live = Some t })) refl u w s does now) ∙ does

    gone : HasGone s (next_of s m.step) (gone_root s m.step (root_moved s r m (root_at (root_of s.path) t.coord))) t.coord
        (heard_call s r t.coord).part
    gone = has_gone s t.coord w found (root_moved s r m) m.step heard.plain

    -- the coordinator afterwards
    seen : SeesHeardAt x k tops M.sent (heard_call s r t.coord).part heard.office
    seen = at_gone x k tops M.sent s (next_of s m.step) (gone_root s m.step (root_moved s r m (root_at (root_of s.path) t.coord))) t.coord
        (heard_call s r t.coord).part A heard.office fixed p.kinds place heard.taken gone
        (let a = asking tops k d t M good few knows u w s does now in
        record { uid = u; branch = a.branch; found = a.found; path = ap uids_of (sym a.path) })
        (joins_from x tops s r m (root_at (root_of s.path) t.coord))
        both.named (let b = heard.sees in b.named) heard.root heard.keeps heard.next
        (λ v y z at is same. top_apart tops k d t M good few knows u w s does now y z (ap (λ b. doing_of b t.coord) (sym same) ∙ at) is)
        (λ v y z at is. let q = step_stands tops k d t M good few knows v y z at is in let b = q.root in b.own)
        (mine x tops k d t M A both p)

    world : SeesHeard x tops heard.office (up k d (with_coord t (heard_call s r t.coord).part) M)
    world = let v = place.root in taken_heard x tops k d t (with_coord t (heard_call s r t.coord).part) M (root_of s.path) (top_of s.path) A
        heard.office both p v.own place.top v.alone heard.taken (let b = heard.sees in b.named) seen

    says_it : AllByRecursion (SaysHeard x d.inc heard.office) (heard_call s r t.coord).outs
    says_it = by m.step heard.next
      where
        mid : Coord
        mid = on_root (root_of s.path) (root_moved s r m) t.coord

        by : (step : CallStep) →
            NextSees x k M.sent (next_of s step) (gone_root s step (root_moved s r m (root_at (root_of s.path) t.coord))) heard.office.names
            → AllByRecursion (SaysHeard x d.inc heard.office) (step_call s step (on_root (root_of s.path) (root_moved s r m) t.coord)).outs
        by (On at) sees =
            let next : Steps = record s { req = s.req + 1; at = at } in
            let asked : Coord = on_doing (actor s.path)
            (λ (z : Doing). record z { req = s.req + 1; now = Calling (record s { req = s.req + 1; at = at }) }) mid in
            request_says x d.inc k M.sent heard.office s.path (s.req + 1)
            (next_node next, next_ask (ends_of (root_of s.path) asked.tree) next) asked
            (step_claims x d.inc k M.sent heard.office next (ends_of (root_of s.path) asked.tree) (λ of. let z = sees of in z.step))
        by (Ended end) sees = says_say x d.inc heard.office (actor s.path) (end_line s.x s.goal end) mid

    pub heard_step : Kept_by (with_coord t (heard_call s r t.coord).part) (heard_call s r t.coord).outs
    heard_step = (
      record {
        office = heard.office;
        only = (let z = heard.taken in z.only);
        both = heard.sees;
        along = step_from x tops k d (with_coord t (heard_call s r t.coord).part) M heard.office fixed_then (let b = heard.sees in
            b.named) world (with_coord t (heard_call s r t.coord).part)
            (λ N B only h more. at_stays x tops heard.office B fixed_then h (memory_goes heard.office B only) k M.sent N.sent
            (heard_call s r t.coord).part more (λ v own how. memory_stays tops heard.office B only (tops.root (uid_number v))) seen)
            e (heard_call s r t.coord).outs M refl refl says_it;
      },
      old_goes_on x tops k d t M heard.office knows heard.sees (heard_call s r t.coord).part
          (λ v y z at is past. ⊎_elim (λ old. old.1) (λ new. absurd (no_commit z (next_of s m.step) (sym new ∙ is))) (gone.works v y at)),
    )
      where
        fixed_then : IsFixed tops heard.office.world.disk
        fixed_then = fixed_in x tops heard.office (up k d t M) heard.sees

        no_commit : (z : Machine) (o : Option Steps) → now_of o ≡ Committing z → ⊥
        no_commit z None is = cc is
        no_commit z (Some y) is = cc is

  -- ---- the message

  pub heard_called : (v : Parts) (from : ℕ) (m : Message) (a : Asked) (r : Reply) (outs : List Effect) →
      In (record { from = from; to = k; message = m }) M.sent → asks m ≡ None → answers m ≡ Some (a, r) → answers_commit a t.coord ≡ false →
      handle k d t from m ≡ Took v outs
      → (h : HasHeard (SeesHeard x) x tops (change_by x d t m) A
      (record { event = e; node = k; disk = d; before = t; outs = outs; after = v }, M)) × MayGoOn x h.office v.coord
  heard_called v from m a r outs sent none answering off is = by (doing_of a.act t.coord) refl
    where
      took : coord_heard t (heard_doing from a r d.intents t.coord (doing_of a.act t.coord)) ≡ Took v outs
      took = sym (ap (handle_answer k d t from m) answering) ∙ (sym (ap (handle_ask k d t from m) none) ∙ is)

      Goal : Parts → List Effect → Type 0
      Goal z es = (h : HasHeard (SeesHeard x) x tops (change_by x d t m) A
          (record { event = e; node = k; disk = d; before = t; outs = es; after = z }, M)) × MayGoOn x h.office z.coord

      change : (q : Doing) → doing_of a.act t.coord ≡ Some q → (n : Now) → q.now ≡ n → now_change x a.act t.coord n ≡ Quietly →
          change_by x d t m ≡ Quietly
      change q does n now quiet = ap (asked_change x d t m) none ∙ (ap (reply_change x t.coord) answering
          ∙ (ap (doing_change x a.act t.coord) does ∙ (ap (now_change x a.act t.coord) now ∙ quiet)))

      void : {es : List Effect} → Void es ≡ Took v outs → Goal v outs
      void same = absurd (cc same)

      waits : (q : Doing) (s : Steps) → doing_of a.act t.coord ≡ Some q → q.now ≡ Calling s → (b : Bool) → waits_for_call from a r s ≡ b →
          coord_heard t (if b then heard_by (heard_call s r t.coord) else heard_none t.coord) ≡ Took v outs → Goal v outs
      waits q s does now false off got = void got
      waits q s does now true on got =
          let z = and_parts (s.req == a.req) ((reply_kind r == ask_kind (next_ask [] s)) && (next_node s == from)) on in
          let kind = (and_parts (reply_kind r == ask_kind (next_ask [] s)) (next_node s == from) z.1).0 in
          let who : a.act ≡ actor s.path = sym (actor_of_step (up k d t M) good few k (record { number = k; disk = d; live = Some t }) t
          (node_here M k (record { number = k; disk = d; live = Some t })) refl a.act q s does now) in
          let asker : a ≡ asked_by (head_of s) = λ i. record { act = who i; req = sym (test_is s.req a.req z.0) i } in
          took_to Goal (with_coord t (heard_call s r t.coord).part) (heard_call s r t.coord).outs v outs got
          (subst (λ o. (h : HasHeard (SeesHeard x) x tops o A (
            record {
              event = e;
              node = k;
              disk = d;
              before = t;
              outs = (heard_call s r t.coord).outs;
              after = with_coord t (heard_call s r t.coord).part;
            },
            M,
          )) × MayGoOn x h.office (heard_call s r t.coord).part)
          (sym (change q does (Calling s) now refl)) (heard_step a.act q s does now r (record {
            post = record { from = from; to = k; message = m };
            posted = sent;
            node = refl;
            answer = answering ∙ ap (λ y. Some (y, r)) asker;
          }) kind))

      by_now : (q : Doing) → doing_of a.act t.coord ≡ Some q → (n : Now) → q.now ≡ n →
          coord_heard t (heard_now from a r d.intents t.coord n) ≡ Took v outs → Goal v outs
      by_now q does Idle now got = void got
      by_now q does (Calling s) now got = waits q s does now (waits_for_call from a r s) refl got
      by_now q does (Committing z) now got = absurd (never (ap is_committing does ∙ ap is_committing_now now) off)

      by : (o : Option Doing) → doing_of a.act t.coord ≡ o → Goal v outs
      by None does = void (sym (ap (λ o. coord_heard t (heard_doing from a r d.intents t.coord o)) does) ∙ took)
      by (Some q) does = by_now q does q.now refl (sym (ap (λ o. coord_heard t (heard_doing from a r d.intents t.coord o)) does) ∙ took)
