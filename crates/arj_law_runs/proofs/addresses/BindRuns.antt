-- In every run coordinators know what their calls stand on, and each answer to a Bind is one to it.
use Rattle.arj_law_parts.proofs.Words
use Words.{◌≡◌, ◌≢◌, ◌⊎◌, ◌≤◌, ◌<◌, ◌+◌, ◌==◌, ◌&&◌, ℕ, zero, suc, List, [], ◌∷◌, ◌++◌, Bool, true, false, cond, length, map}
use Words.{Option, Some, None, refl, sym, ◌∙◌, ap, subst, inl, inr, ⊎_elim, arith, eqb-true, and_parts, Uid, Asked, Binding, Body}
use Words.{BoundReply, Head, Header, Kind, Label, Message, asks, is_on, uids_of, Reply, actor, answers, ask_kind, reply_kind, again_all}
use Words.{begin_action, heard, At, AtActivate, AtBind, AtInvoke, AtLoad, AtNote, Goal, Include, Run, is_include, next_ask, next_node}
use Words.{back_lines, Coord, Doing, doing_of, root_at, Disk, Do, Effect, Intent, Look, PutInc, Say, Send, stopped, worked, acked, tell}
use Words.{tell_all, tick_outs, Named, Naming, Parts, Took, handle, holders, prepared_actions, query_about, with_coord, uid_set}
use Words.{without_number, Input, Node, acts, branch_named, commit_reasons, hello_to, naming_at, naming_back}
use Words.{numbers_to, parent_of, parts_in, recovered_records, refusal_up, refused_by, restart_outs, tolds_again, Branch, at_place, is_own}
use Words.{new_tree, root_of, Labelled, Post, Seen, is_serial}
use Words.ask
use Words.body
use Words.bound
use Words.ending
use Words.input
use Rattle.arj_law_runs.proofs.Terms
use Terms.{IsAtStarts, disk_by, Action, paths_of, IsGoodCoord, IsTree, Paths, IsNumbered, begun_tree, on_own, path_found, named_found, off}
use Terms.{doing_by, all_flat}
use Terms.{all_map, true_on, true_query, true_records, well_acked, well_acts, well_again, well_heard, IsGood, IsGoodOf, IsUp, Keeps, is_act}
use Terms.{In, at, down, given, posted, said, up, Up, Walks, walks_both, Answers, AnswersAt, AnswersWaiting, IsAnswerOf, KeepsCalled}
use Terms.{KnowsBinds}
use Rattle.arj_law_runs.proofs.addresses
use addresses.{BindPlans.plan_keeps, Lists.never, Lists.some_is}
use addresses.BindNodes.{AllFine, FineEffect, IsFine, fine_both, handled_fine, queries, quiet, sent_fine}
use addresses.BindSteps.{acked_binds, acts_binds, again_binds, begin_binds, heard_binds}
use Rattle.arj_law_runs.proofs.calls
use calls.{WorldVotes.fits_asked}
use calls.CoordOuts.{acked_so, acts_so, again_so, heard_so, tolds_so}
use Rattle.arj_law_runs.proofs.kept
use kept.{AllRuns.all_keep, Starts.first_up, Walked.other_number, Walked.same_number}
use kept.Handled.{counted_of, own_of_disk, tops_of_disk}
use Rattle.arj_law_runs.specs.addresses.Binds.{BindsAreKnown, IsAsked, IsReply}

-- ---- one message more

asked_more : (p : Post) (sent : List Post) (from : ℕ) (a : Asked) (include : Bool) → IsAsked sent from a include →
    IsAsked (p ∷ sent) from a include
asked_more p sent from a include q = record {
  post = q.post;
  head = q.head;
  object = q.object;
  avoid = q.avoid;
  posted = inr q.posted;
  sender = q.sender;
  asking = q.asking;
  asker = q.asker;
}

asked_within : (few many : List Post) → ((p : Post) → In p few → In p many) → (from : ℕ) (a : Asked) (include : Bool) →
    IsAsked few from a include → IsAsked many from a include
asked_within few many up from a include q = record {
  post = q.post;
  head = q.head;
  object = q.object;
  avoid = q.avoid;
  posted = up q.post q.posted;
  sender = q.sender;
  asking = q.asking;
  asker = q.asker;
}

reply_more : (p q : Post) (sent : List Post) → IsReply sent q → IsReply (p ∷ sent) q
reply_more p q sent its a r is = let f = its a r is in (f.0, f.1, asked_more p sent q.to a f.0 f.2)

-- another node's coordinator looks at its own Binds alone
others_more : (p : Post) (sent : List Post) (j : ℕ) (c : Coord) → (p.from ≡ j → ⊥) → KnowsBinds sent j c → KnowsBinds (p ∷ sent) j c
others_more p sent j c apart knows = record {
  said = knows.said;
  steps = knows.steps;
  counted = λ q h x include avoid i from is own.
      ⊎_elim (λ same. absurd (apart (ap (λ (z : Post). z.from) same ∙ from))) (λ old. knows.counted q h x include avoid old from is own) i;
}

own_more : (to k : ℕ) (m : Message) (sent few : List Post) (c : Coord) → IsFine few c to m → KnowsBinds sent k c →
    KnowsBinds (record { from = k; to = to; message = m } ∷ sent) k c
own_more to k m sent few c fine knows = record {
  said = knows.said;
  steps = knows.steps;
  counted = λ q h x include avoid i from is own. ⊎_elim (λ same. fine.bind h x include avoid (ap (λ (z : Post). asks z.message) same ∙ is))
      (λ old. knows.counted q h x include avoid old from is own) i;
}

-- ---- one node apart from the others

pub record Around (k : ℕ) (M : Seen) : Type 0 where
  pub nodes : (j : ℕ) (n : Node) (t : Parts) → (j ≡ k → ⊥) → M.nodes j ≡ Some n → n.live ≡ Some t → KnowsBinds M.sent j t.coord
  pub replies : (p : Post) → In p M.sent → IsReply M.sent p

stands_at : (k : ℕ) (d : Disk) (live : Option Parts) (M : Seen) →
    (let S = at k d live M in S.nodes k) ≡ Some (record { number = k; disk = d; live = live })
stands_at k d live M = λ i. cond (same_number k i) (Some (record { number = k; disk = d; live = live })) (M.nodes k)

around : (k : ℕ) (d : Disk) (live : Option Parts) (M : Seen) → BindsAreKnown (at k d live M) → Around k M
around k d live M all = record {
  nodes = λ j n t apart is up_it.
      all.nodes j n t ((λ i. cond (other_number j k apart i) (Some (record { number = k; disk = d; live = live })) (M.nodes j)) ∙ is) up_it;
  replies = all.replies;
}

its_own : (k : ℕ) (d : Disk) (t : Parts) (M : Seen) → BindsAreKnown (up k d t M) → KnowsBinds M.sent k t.coord
its_own k d t M all = all.nodes k (record { number = k; disk = d; live = Some t }) t (stands_at k d (Some t) M) refl

back : (k : ℕ) (d : Disk) (live : Option Parts) (M : Seen) → ((t : Parts) → live ≡ Some t → KnowsBinds M.sent k t.coord) → Around k M →
    BindsAreKnown (at k d live M)
back k d live M own o = record { nodes = λ j n t is up_it. by j n t (j == k) refl is up_it; replies = o.replies }
  where
    x : Node
    x = record { number = k; disk = d; live = live }

    by : (j : ℕ) (n : Node) (t : Parts) (b : Bool) → (j == k) ≡ b → cond b (Some x) (M.nodes j) ≡ Some n → n.live ≡ Some t →
        KnowsBinds M.sent j t.coord
    by j n t true same is live_is = let here : x ≡ n = some_is is in
        subst (λ z. KnowsBinds M.sent z t.coord) (sym (eqb-true j k same)) (own t (ap (λ (z : Node). z.live) here ∙ live_is))
    by j n t false apart is live_is = o.nodes j n t (λ same. never (ap (λ z. z == k) same ∙ same_number k) apart) is live_is

quietly : (e : ℕ) (bs : List Body) (M : Seen) → BindsAreKnown M → BindsAreKnown (said e bs M)
quietly e bs M all = record { nodes = all.nodes; replies = all.replies }

around_said : (k e : ℕ) (bs : List Body) (M : Seen) → Around k M → Around k (said e bs M)
around_said k e bs M o = record { nodes = o.nodes; replies = o.replies }

around_posted : (k to : ℕ) (m : Message) (few : List Post) (c : Coord) (M : Seen) → ((p : Post) → In p few → In p M.sent) →
    IsFine few c to m → Around k M → Around k (posted (record { from = k; to = to; message = m }) M)
around_posted k to m few c M grown fine o = record {
  nodes = λ j n t apart is live. others_more p M.sent j t.coord (λ same. apart (sym same)) (o.nodes j n t apart is live);
  replies = λ q i. ⊎_elim (λ same. subst (IsReply (p ∷ M.sent)) same new) (λ old. reply_more p q M.sent (o.replies q old)) i;
}
  where
    p : Post
    p = record { from = k; to = to; message = m }

    new : IsReply (record { from = k; to = to; message = m } ∷ M.sent) (record { from = k; to = to; message = m })
    new a r is = let f = fine.reply a r is in (f.0, f.1, asked_more p M.sent to a f.0 (asked_within few M.sent grown to a f.0 f.2))

-- whatever a node does
binds_walk : (e k : ℕ) (few : List Post) (v : Parts) (outs : List Effect) (d : Disk) (M : Seen) → ((p : Post) → In p few → In p M.sent) →
    AllFine few v.coord outs → Around k M → KnowsBinds M.sent k v.coord → Walks BindsAreKnown e k outs (Up BindsAreKnown k v) d M
binds_walk e k few v [] d M grown fine o own =
    back k d (Some v) M (λ t is. subst (λ (z : Parts). KnowsBinds M.sent k z.coord) (some_is is) own) o
binds_walk e k few v (Do w ∷ es) d M grown fine o own = (
  (λ how. quietly e (body.Halted k ∷ []) (down k (stopped how w d) M) (back k (stopped how w d) None M (λ t is. absurd (cc is)) o)),
  binds_walk e k few v es (worked w d) M grown fine.1 o own,
)
binds_walk e k few v (Say b ∷ es) d M grown fine o own =
    binds_walk e k few v es d (said e (b ∷ []) M) grown fine.1 (around_said k e (b ∷ []) M o) own
binds_walk e k few v (Send to m ∷ es) d M grown fine o own = λ more quiet_lines.
    binds_walk e k few v es d (said e more (posted (record { from = k; to = to; message = m }) M)) (λ p i. inr (grown p i)) fine.1
    (around_said k e more (posted (record { from = k; to = to; message = m }) M) (around_posted k to m few v.coord M grown fine.0 o))
    (own_more to k m M.sent few v.coord fine.0 own)

-- ---- a node of a good world

module _ (begun : List Action) (e k : ℕ) (d : Disk) (t : Parts) (M : Seen) (good : IsGoodOf begun (up k d t M))
    (all : BindsAreKnown (up k d t M)) where
  abbrev paths : Paths
  paths = paths_of begun

  tree : IsTree paths
  tree = begun_tree begun good.begun

  its_up : IsUp begun M.sent M.labels k d.inc t
  its_up = let p = good.places k (record { number = k; disk = d; live = Some t }) (stands_at k d (Some t) M) in p.memory

  its_coord : IsGoodCoord begun paths t.coord
  its_coord = let u = its_up in let g = u.good paths tree (path_found begun good.begun) in g.coord

  knows : KnowsBinds M.sent k t.coord
  knows = its_own k d t M all

  -- an answer to a Bind is of the kind that its step asks for
  fits_flag : (g : Goal) (r : BoundReply) (include : Bool) → IsAnswerOf include r → is_include g ≡ include → Answers g r
  fits_flag (Run o) (bound.Live b server i n stores) include its is = tt
  fits_flag (Run o) (bound.Make b server n stores) include its is = tt
  fits_flag (Run o) (bound.Write n stores) include its is = let no_way : false ≡ true = is ∙ its in cc
  fits_flag (Run o) (bound.Conflict holder m) include its is = tt
  fits_flag (Include x) (bound.Live b server i n stores) include its is = let no_way : true ≡ false = is ∙ its in cc
  fits_flag (Include x) (bound.Make b server n stores) include its is = let no_way : true ≡ false = is ∙ its in cc
  fits_flag (Include x) (bound.Write n stores) include its is = tt
  fits_flag (Include x) (bound.Conflict holder m) include its is = tt

  pub answers_fit : (from : ℕ) (m : Message) → In (record { from = from; to = k; message = m }) M.sent → (a : Asked) (r : Reply) →
      answers m ≡ Some (a, r) → AnswersWaiting from a r t.coord
  answers_fit from m there a r is q s found now waits = by s.at r is
    where
      same_req : s.req ≡ a.req
      same_req =
          eqb-true s.req a.req (and_parts (s.req == a.req) ((reply_kind r == ask_kind (next_ask [] s)) && (next_node s == from)) waits).0

      own : is_own a.act t.coord.tree ≡ true
      own = (doing_by a.act t.coord q found).0

      flag : (b : BoundReply) → answers m ≡ Some (a, Reply.Bound b) → Answers s.goal b
      flag b at_b =
          let f = all.replies (record { from = from; to = k; message = m }) there a b at_b in
          let w = f.2 in
          let who : actor (let h = w.head in h.path) ≡ a.act = ap (λ (z : Asked). z.act) w.asker in
          let n = knows.counted w.post w.head w.object f.0 w.avoid w.posted w.sender w.asking (ap (λ z. is_own z t.coord.tree) who ∙ own) in
          let same : n.doing ≡ q = some_is (sym n.found ∙ ap (λ z. doing_of z t.coord) who ∙ found) in
          let u = its_up in
          fits_flag s.goal b f.0 f.1 (n.last s (ap (λ (z : Doing). z.now) same ∙ now) (ap (λ (z : Asked). z.req) w.asker ∙ sym same_req
          ∙ subst (IsNumbered q.req) now (u.numbered a.act q found) ∙ ap (λ (z : Doing). z.req) (sym same)))

      by : (w : At) (r : Reply) → answers m ≡ Some (a, r) → AnswersAt s.goal w r
      by (AtBind avoid) (Reply.Bound b) at_b = flag b at_b
      by (AtBind avoid) (Reply.Loaded x) at_b = tt
      by (AtBind avoid) (Reply.Activated x) at_b = tt
      by (AtBind avoid) (Reply.Noted x) at_b = tt
      by (AtBind avoid) (Reply.Invoked x) at_b = tt
      by (AtBind avoid) (Reply.Voted x) at_b = tt
      by (AtBind avoid) (Reply.Prepared x) at_b = tt
      by (AtBind avoid) (Reply.Confirmed x) at_b = tt
      by (AtLoad z n rest) r at_b = tt
      by (AtActivate z st) r at_b = tt
      by (AtNote z i) r at_b = tt
      by (AtInvoke z i) r at_b = tt

  message_binds : (from : ℕ) (m : Message) (v : Parts) (outs : List Effect) → In (record { from = from; to = k; message = m }) M.sent →
      handle k d t from m ≡ Took v outs → Walks BindsAreKnown e k outs (Up BindsAreKnown k v) d M
  message_binds from m v outs there is = binds_walk e k M.sent v outs d M (λ p i. i) h.1 (around k d (Some t) M all) h.0
    where
      works : length t.coord.doings ≡ length t.coord.tree.branches
      works = let u = its_up in let f = u.faithful in f.works

      h : KnowsBinds M.sent k v.coord × AllFine M.sent v.coord outs
      h = let u = its_up in handled_fine M.sent k d t from m there knows
          (λ a r at_r. let w = well_heard begun paths tree from a r d.intents t.coord its_coord in (
            heard_binds begun paths tree M.sent k t.coord its_coord u.numbered works knows from a r d.intents
                (answers_fit from m there a r at_r),
            sent_fine M.sent (heard from a r d.intents t.coord).part (heard from a r d.intents t.coord).outs w.1
                (heard_so begun paths tree t.coord its_coord u.numbered works from a r d.intents),
          ))
          (λ w. let g = well_acked begun paths tree from w d.intents t.coord in (
            acked_binds begun paths tree M.sent k t.coord its_coord u.numbered works knows from w d.intents,
            sent_fine M.sent (acked from w d.intents t.coord).part (acked from w d.intents t.coord).outs g.1
                (acked_so from w d.intents t.coord),
          ))
          (λ w. true_query begun paths tree from w d.intents t.coord (tops_of_disk e k d t M (begun, good))
          (own_of_disk e k d t M (begun, good)) its_coord) v outs is

  act_binds : (hd : Header) (i : Input) → is_act i ≡ true → refusal_up hd i t.coord ≡ None → Walks BindsAreKnown e k
      (let r = acts i d.intents t.coord in r.outs) (Up BindsAreKnown k (with_coord t (acts i d.intents t.coord).part)) d M
  act_binds hd i is free =
      let r = acts i d.intents t.coord in
      let u = its_up in
      let works = (let f = u.faithful in f.works) in
      let w = well_acts begun paths tree d.intents t.coord its_coord works hd i free other in
      binds_walk e k M.sent (with_coord t r.part) r.outs d M (λ p j. j) (sent_fine M.sent r.part r.outs w.1
      (acts_so begun paths tree t.coord its_coord u.numbered works i d.intents other)) (around k d (Some t) M all)
      (acts_binds begun paths tree M.sent k t.coord its_coord u.numbered works knows hd i d.intents free other)
    where
      other : (l : Label) (how : Kind) (parent : Option Label) → i ≢ input.Begin l how parent
      other l how parent same = let no_way : false ≡ true = sym (ap is_act same) ∙ is in cc

  -- of what a commit finds called the root keeps bindings
  pub commit_keeps : (hd : Header) (l : Label) → refusal_up hd (input.Commit l) t.coord ≡ None → (b : Branch) →
      branch_named l t.coord ≡ Some b → KeepsCalled (actor b.path) (root_at (root_of b.path) t.coord) t.coord
  commit_keeps hd l free b is = plan_keeps begun paths tree M.sent k t.coord its_coord knows b (named_found begun paths tree d.intents
      t.coord its_coord l b is) (off (commit_reasons b t.coord) (sym (ap (refused_by commit_reasons t.coord) is) ∙ free)).0

  tick_binds : Walks BindsAreKnown e k (tick_outs (record { number = k; disk = d; live = Some t }) t)
      (Up BindsAreKnown k (with_coord t (again_all t.coord.doings t.coord).part)) d M
  tick_binds =
      let r = again_all t.coord.doings t.coord in
      let u = its_up in
      let works = (let f = u.faithful in f.works) in
      let w = well_again begun paths tree t.coord its_coord in
      let tolds = tolds_again t.coord.telling in
      binds_walk e k M.sent (with_coord t r.part) (tick_outs (record { number = k; disk = d; live = Some t }) t) d M (λ p j. j)
      (fine_both M.sent r.part (r.outs ++ tolds) (map query_about (holders d t)) (fine_both M.sent r.part r.outs tolds (sent_fine M.sent
      r.part r.outs w.1 (again_so begun paths tree t.coord its_coord u.numbered works)) (sent_fine M.sent r.part tolds (true_on t.coord
      r.part w.0 tolds (true_records t.coord u.faithful)) (tolds_so r.part t.coord.telling))) (queries M.sent r.part (holders d t)))
      (around k d (Some t) M all) (again_binds M.sent k t.coord.doings t.coord knows)

  begin_known : (l : Label) (how : Kind) (parent : Option Label) (g : Labelled) →
      Walks BindsAreKnown e k (let r = begin_action l how parent (parent_of parent t.coord) t.coord in
      r.outs) (Up BindsAreKnown k (with_coord t (begin_action l how parent (parent_of parent t.coord) t.coord).part)) d (given l g M)
  begin_known l how parent g =
      let r = begin_action l how parent (parent_of parent t.coord) t.coord in
      let o = around k d (Some t) M all in
      binds_walk e k M.sent (with_coord t r.part) r.outs d (given l g M) (λ p j. j) (tt, tt)
      (record { nodes = o.nodes; replies = o.replies }) (begin_binds M.sent k l how parent t.coord knows)

-- ---- restarts, and at first

no_doing : (b : Bool) (j : ℕ) (x : Doing) → cond b (at_place j []) None ≡ Some x → ⊥
no_doing true zero x is = let no_way : ◌≡◌ {A = Option Doing} None (Some x) = is in absurd (cc no_way)
no_doing true (suc j) x is = let no_way : ◌≡◌ {A = Option Doing} None (Some x) = is in absurd (cc no_way)
no_doing false j x is = let no_way : ◌≡◌ {A = Option Doing} None (Some x) = is in absurd (cc no_way)

-- a coordinator at its beginning, of which no Bind was sent
new_binds : (sent : List Post) (k node i : ℕ) (d : Disk) → ((p : Post) (h : Head) (x : ℕ) (include : Bool) (avoid : Binding) → In p sent →
    asks p.message ≡ Some (h, ask.Bind x include avoid) → is_own (actor h.path) (new_tree node i) ≡ true → ⊥) →
    KnowsBinds sent k (let t = parts_in node i d in t.coord)
new_binds sent k node i d fresh = record {
  said = λ root s there. absurd there;
  steps = λ u x s found now. absurd (no_doing (is_own u (new_tree node i)) u.num x found);
  counted = λ p h x include avoid there from is own. absurd (fresh p h x include avoid there is own);
}

module _ (begun : List Action) (hd : Header) (e k : ℕ) (d : Disk) (M : Seen) (good : IsGoodOf begun (down k d M))
    (all : BindsAreKnown (down k d M)) where
  abbrev v : Parts
  v = parts_in k (d.inc + 1) d

  fresh : (p : Post) (h : Head) (x : ℕ) (include : Bool) (avoid : Binding) → In p M.sent →
      asks p.message ≡ Some (h, ask.Bind x include avoid) → is_own (actor h.path) (new_tree k (d.inc + 1)) ≡ true → ⊥
  fresh p h x include avoid there is own =
      let asker = fits_asked begun p.message h (ask.Bind x include avoid) is (good.fits p there) in
      let f = counted_of k d None M (begun, good) in
      let o = and_parts (u.node == k) (u.inc == d.inc + 1) own in
      late (f.1 asker.0 u asker.1 (ap (λ q. is_on (uids_of q) u) asker.2 ∙ on_own h.path) (eqb-true u.node k o.0))
      (eqb-true u.inc (d.inc + 1) o.1)
    where
      u : Uid
      u = actor h.path

      late : {n : ℕ} → (u.inc < d.inc) ⊎ ((u.inc ≡ d.inc) × (u.num ≤ n)) → u.inc ≡ d.inc + 1 → ⊥
      late (inl less) same = omega (arith, less, same)
      late (inr q) same = omega (arith, q.0, same)

  fine_new : AllFine M.sent v.coord (restart_outs hd k (d.inc + 1) d)
  fine_new = both four hellos
      (both three asking (both two tolds (both one records (tt, (tt, (tt, (tt, back_so (naming_at k (d.inc + 1) d.names)))))
      (tt, all_map (FineEffect M.sent v.coord) (λ (e : Uid × Intent). Say (body.Recovered k e.0)) d.intents (λ e. tt)))
      (all_flat (FineEffect M.sent v.coord) (λ (e : Uid × Intent). tell_all e.1.root true ((e.0, ending.Commit) ∷ []) e.1.nodes) d.intents
      (λ e. all_map (FineEffect M.sent v.coord) (tell e.1.root true ((e.0, ending.Commit) ∷ [])) e.1.nodes (λ n.
      quiet M.sent v.coord n _ refl refl)))) (queries M.sent v.coord (uid_set (prepared_actions d.store ++ prepared_actions d.names))))
      (all_map (FineEffect M.sent v.coord) (hello_to k (d.inc + 1)) (without_number k (numbers_to hd.nodes))
      (λ w. quiet M.sent v.coord w _ refl refl))
    where
      both : (es fs : List Effect) → AllFine M.sent v.coord es → AllFine M.sent v.coord fs → AllFine M.sent v.coord (es ++ fs)
      both es fs a b = fine_both M.sent v.coord es fs a b

      back_so : (o : Option Naming) → AllFine M.sent v.coord (naming_back o)
      back_so None = tt
      back_so (Some o) = all_flat (FineEffect M.sent v.coord) (λ (e : ℕ × Named). back_lines e.1) o.objects
          (λ e. all_map (FineEffect M.sent v.coord) _ e.1.rows (λ r. tt))

      one : List Effect
      one = Do Look ∷ Do (PutInc (d.inc + 1)) ∷ Say (body.Up k (d.inc + 1)) ∷ Do Look ∷ naming_back (naming_at k (d.inc + 1) d.names)

      records : List Effect
      records = Do Look ∷ recovered_records k d.intents

      two : List Effect
      two = one ++ records

      tolds : List Effect
      tolds = tolds_again d.intents

      three : List Effect
      three = two ++ tolds

      asking : List Effect
      asking = map query_about (uid_set (prepared_actions d.store ++ prepared_actions d.names))

      four : List Effect
      four = three ++ asking

      hellos : List Effect
      hellos = map (hello_to k (d.inc + 1)) (without_number k (numbers_to hd.nodes))

  restart_binds : Walks BindsAreKnown e k (restart_outs hd k (d.inc + 1) d) (Up BindsAreKnown k (parts_in k (d.inc + 1) d)) d M
  restart_binds = binds_walk e k M.sent v (restart_outs hd k (d.inc + 1) d) d M (λ p i. i) fine_new (around k d None M all)
      (new_binds M.sent k k (d.inc + 1) d fresh)

first_binds : (hd : Header) → IsAtStarts hd BindsAreKnown
first_binds hd st formed = record {
  nodes = λ j n t is live. subst (λ (z : Parts). KnowsBinds [] j z.coord) (first_up hd st j n t is live)
      (new_binds [] j j (st.incs j + 1) (disk_by hd st j) (λ p h x include avoid there. absurd there));
  replies = λ p there. absurd there;
}

-- ---- all runs

-- beside what is known of nodes
abbrev pub AreBound : Seen → Type 0
AreBound M = IsGood M × BindsAreKnown M

pub binds_keep : (hd : Header) → Keeps hd (λ M. IsGood M × BindsAreKnown M)
binds_keep hd = record {
  quiet = λ e bs M quiet_lines p. (good.quiet e bs M quiet_lines p.0, quietly e bs M p.1);
  stop = λ e k d live M p. (
    good.stop e k d live M p.0,
    quietly e (body.Halted k ∷ []) (down k d M) (back k d None M (λ t is. absurd (cc is)) (around k d live M p.1)),
  );
  message = λ e k d t v from m outs M p there meant is. both e k outs v d M (good.message e k d t v from m outs M p.0 there meant is)
      (let h = p.0 in message_binds h.0 e k d t M h.1 p.1 from m v outs there is);
  act = λ e k d t i M is free p. let did = acts i d.intents t.coord in both e k did.outs (with_coord t did.part) d M
      (good.act e k d t i M is free p.0) (let h = p.0 in act_binds h.0 e k d t M h.1 p.1 hd i is free);
  begin = λ e k d t l how parent M new may free p. let did = begin_action l how parent (parent_of parent t.coord) t.coord in
      let g : Labelled = record { node = k; serial = is_serial how } in both e k did.outs (with_coord t did.part) d (given l g M)
      (good.begin e k d t l how parent M new may free p.0) (let h = p.0 in begin_known h.0 e k d t M h.1 p.1 l how parent g);
  tick = λ e k d t M p. both e k (tick_outs (record { number = k; disk = d; live = Some t }) t) (with_coord t
      (again_all t.coord.doings t.coord).part) d M (good.tick e k d t M p.0) (let h = p.0 in tick_binds h.0 e k d t M h.1 p.1);
  restart = λ e k d M p. both e k (restart_outs hd k (d.inc + 1) d) (parts_in k (d.inc + 1) d) d M (good.restart e k d M p.0)
      (let h = p.0 in restart_binds h.0 hd e k d M h.1 p.1);
  first = λ st formed. (good.first st formed, first_binds hd st formed);
}
  where
    good : Keeps hd IsGood
    good = all_keep hd

    both : (e k : ℕ) (outs : List Effect) (v : Parts) (d : Disk) (M : Seen) → Walks IsGood e k outs (Up IsGood k v) d M →
        Walks BindsAreKnown e k outs (Up BindsAreKnown k v) d M →
        Walks (λ N. IsGood N × BindsAreKnown N) e k outs (Up (λ N. IsGood N × BindsAreKnown N) k v) d M
    both e k outs v d M a b = walks_both IsGood BindsAreKnown e k outs (Up IsGood k v) (Up BindsAreKnown k v) d M a b
