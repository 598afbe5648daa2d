-- Answers go in the whole world: what a message shows that was sent is what the step, or the commit, that waits for it counts on.
use Rattle.arj_law_parts.proofs.Words
use Words.{◌<◌, inl, inr, [], ⊎_elim, ◌≡◌, ◌≢◌, ◌⊎◌, ◌∙◌, ◌==◌, ◌&&◌, ℕ, List, Bool, true, false, cond, Option, Some, None, refl, sym, ap}
use Words.{subst, arith, eqb-true, ⊤, and_parts, in_from, Ask, Asked, Binding, End, Head, Uid, Reply, actor, answers, ask_kind, reply_kind}
use Words.{response, top_of, heard, heard_by, heard_call, heard_doing, heard_none, heard_now, moved_commit, waits_for_call}
use Words.{waits_for_commit, At, AtActivate, AtBind, AtInvoke, AtLoad, AtNote, Goal, Include as IncludeStore, Run, Steps, ask_at, next_ask}
use Words.{next_node, Machine, ask_of, left_of, plan_of, Calling, Committing, Coord, Doing, Idle, Now, doing_of, Served, reply_is_meant}
use Words.{binding_number, has, Branch, is_own, Post}
use Words.commit
use Rattle.arj_law_lock_view.proofs.Terms
use Terms.{AreBegun, action_of, paths_of, IsAsking, IsBusy, IsVoting, IsNumbered, begun_tree, path_found, doing_by, good_heard, ends_in}
use Terms.{well_heard, IsOfStep, AnswersAt, AnswersWaiting, answers_fit, IsAskedBy, KnowsEnds, same_number as number_same, stay, IsWaiting}
use Terms.{ShowsReply, ShowsNamingReply, ShowsToCommit, head_of, View, KnowsAnswer, Case, HoldsNamingIn, IsSeenIn, Spot, view_in, world_at}
use Terms.{IsWorking, KnowsAsks, StepGoes, coord_at, records_at, Fixed, IsAnswerSeen}
use Rattle.arj_law_lock_view.proofs.facts
use facts.{Confirms.top_own, Inner.ends_kept, Kept.Place, States.states_heard}
use facts.Asked.{AreWaiting, IsNewAt, waiting_heard}
use Rattle.arj_law_lock_view.proofs.running
use running.{AskedSteps.step_back, CommitGoes.commit_answers_go, GoodSteps.its}
use running.CallGoes.{call_answers_go, include_answers_go, other_answers_go}
use running.ShownAnswers.{answer_shown, call_shown, commit_shown, include_shown}
use running.WorkSteps.{Behind, at_commit, behind_step, placed, waits_in, works_in}
use Rattle.arj_law_lock_view.specs.running.Answers.{AnswersGo}
use Rattle.arj_law_parts.proofs.parts.EndsSaid.{sure_heard}
use Rattle.arj_law_parts.specs.moves.Seen.{In}

pub answers_back : (a : Asked) (r : Reply) → answers (response a r) ≡ Some (a, r)
answers_back a (Reply.Bound r) = refl
answers_back a (Reply.Loaded r) = refl
answers_back a (Reply.Activated r) = refl
answers_back a (Reply.Noted r) = refl
answers_back a (Reply.Invoked r) = refl
answers_back a (Reply.Voted r) = refl
answers_back a (Reply.Prepared r) = refl
answers_back a (Reply.Confirmed r) = refl

module _ (c : Case) (s : Spot) (e from : ℕ) (a : Asked) (r : Reply) (is_seen : IsSeenIn c (world_at s))
    (holds : HoldsNamingIn c s.node (let t = s.parts in t.naming)) (knows : KnowsAnswer c s from a r)
    (sent : In (record { from = from; to = s.node; message = response a r }) (let M = s.seen in M.sent)) where
  abbrev f : Fixed
  f = c.fixed

  abbrev C : Coord
  C = coord_at s

  abbrev V : View
  V = view_in c s.node

  abbrev post : Post
  post = record { from = from; to = s.node; message = response a r }

  pub shown : IsAnswerSeen V (let M = s.seen in M.sent) post (a, r) c.state
  shown = let z = is_seen.sees in answer_shown f c.x c.begun (let M = s.seen in M.sent) from s.node a r c.state (z.posts post sent)

  -- the answer is of the kind that the step asks for
  fits : AnswersWaiting from a r C
  fits = answers_fit c.begun e s.node s.disk s.parts s.seen is_seen.good knows.binds from (response a r) sent a r (answers_back a r)

  -- ---- to what was asked by the action that waits

  module _ (d : Doing) (found : doing_of a.act C ≡ Some d) where
    pub who : actor (let h = shown.head in h.path) ≡ a.act
    who = ap (λ (z : Asked). z.act) shown.of

    -- what was asked by that number is what waits
    was_asked : IsAskedBy C from shown.head shown.ask
    was_asked = knows.requests (record { from = s.node; to = from; message = shown.request }) shown.head shown.ask shown.asked refl shown.is
        (ap (λ (u : Uid). is_own u C.tree) who ∙ (doing_by a.act C d found).0)

    same_doing : was_asked.doing ≡ d
    same_doing = let two : ◌≡◌ {A = Option Doing} (Some was_asked.doing) (Some d) = sym was_asked.found ∙ ap (λ (u : Uid). doing_of u C) who
        ∙ found in cc two

    same_number : a.req ≡ d.req → (let h = shown.head in h.req) ≡ (let y = was_asked.doing in y.req)
    same_number last = ap (λ (z : Asked). z.req) shown.of ∙ last ∙ ap (λ (z : Doing). z.req) (sym same_doing)

    -- ---- a step of a call or an include

    module _ (w : Steps) (is : d.now ≡ Calling w) (waits : waits_for_call from a r w ≡ true) where
      parts : ((w.req == a.req) ≡ true) × (((reply_kind r == ask_kind (next_ask [] w)) && (next_node w == from)) ≡ true)
      parts = and_parts (w.req == a.req) ((reply_kind r == ask_kind (next_ask [] w)) && (next_node w == from)) waits

      kinds : (reply_kind r == ask_kind (next_ask [] w)) ≡ true
      kinds = (and_parts (reply_kind r == ask_kind (next_ask [] w)) (next_node w == from) parts.1).0

      number : a.req ≡ d.req
      number = sym (eqb-true w.req a.req parts.0) ∙ subst (IsNumbered d.req) is (let i = its c s is_seen in i.numbered a.act d found)

      of_step : IsOfStep w from shown.head shown.ask
      of_step = was_asked.step w (ap (λ (z : Doing). z.now) same_doing ∙ is) (same_number number)

      ask_is : shown.ask ≡ next_ask (ends_in shown.ask) w
      ask_is = step_back shown.ask w of_step.same

      server : ShowsReply V (head_of w) (next_ask (ends_in shown.ask) w) c.state r
      server = subst (λ (h : Head). ShowsReply V h (next_ask (ends_in shown.ask) w) c.state r) of_step.head
          (subst (λ (q : Ask). ShowsReply V shown.head q c.state r) ask_is shown.server)

      naming : ShowsNamingReply V (head_of w) (next_ask (ends_in shown.ask) w) c.state r
      naming = subst (λ (h : Head). ShowsNamingReply V h (next_ask (ends_in shown.ask) w) c.state r) of_step.head
          (subst (λ (q : Ask). ShowsNamingReply V shown.head q c.state r) ask_is shown.naming)

      asking : IsAsking C.tree a.act w.path
      asking = subst (IsBusy C.tree a.act) is (let p = placed c s is_seen in let q = p.good in q.busy a.act d found)

      abbrev b : Branch
      b = asking.branch

      work : IsWorking c s a.act b d
      work = works_in c s is_seen a.act b asking.found knows.waits d w found is

      waiting : IsWaiting b d w
      waiting = waits_in c s is_seen a.act b asking.found knows.waits d w found is

      kind_at : (g : Goal) (ends : List (Uid × End)) (at : At) → (reply_kind r == ask_kind (ask_at w.x g [] at)) ≡ true →
          (reply_kind r == ask_kind (ask_at w.x g ends at)) ≡ true
      kind_at g ends (AtBind avoid) is = is
      kind_at g ends (AtLoad k n rest) is = is
      kind_at g ends (AtActivate k st) is = is
      kind_at g ends (AtNote k i) is = is
      kind_at g ends (AtInvoke k i) is = is

      step_goes : let D = heard_call w r C in Behind c s D.part → StepGoes c s e D
      step_goes after = ⊎_elim (λ about. by about w.goal refl)
          (λ other. other_answers_go c s e a.act b d w r is_seen work waiting other after.coord after.asks) (about_it w.x c.x)
        where
          about_it : (m n : ℕ) → (m ≡ n) ⊎ (m ≢ n)
          about_it m n = grind arith

          fits_goal : (g : Goal) → w.goal ≡ g → AnswersAt g w.at r
          fits_goal g goal = subst (λ (y : Goal). AnswersAt y w.at r) goal (fits d w found is waits)

          by : w.x ≡ c.x → (g : Goal) → w.goal ≡ g → StepGoes c s e (heard_call w r C)
          by about (Run o) goal = call_answers_go c s e a.act b d w o r is_seen work
              (record { calling = is; about = about; goal = goal; path = waiting.path; last = waiting.last })
              (call_shown V w c.state about (ends_in shown.ask) o w.at r (kind_at (Run o) (ends_in shown.ask) w.at
              (subst (λ (g : Goal). (reply_kind r == ask_kind (ask_at w.x g [] w.at)) ≡ true) goal kinds))
              (subst (λ (g : Goal). ShowsReply V (head_of w) (ask_at w.x g (ends_in shown.ask) w.at) c.state r) goal server)
              (subst (λ (g : Goal). ShowsNamingReply V (head_of w) (ask_at w.x g (ends_in shown.ask) w.at) c.state r) goal naming)
              (fits_goal (Run o) goal)
              (λ k st at. (let q = knows.asks in q.states a.act d w k st found is at) ∙ about)
              (λ k n rest st at reply. knows.last d w k n rest o st found is about goal at reply waits))
              after.coord after.asks
          by about (IncludeStore store) goal = include_answers_go c s e store a.act b d w r is_seen work waiting about goal
              (include_shown V w c.state about (ends_in shown.ask) store w.at r (kind_at (IncludeStore store) (ends_in shown.ask) w.at
              (subst (λ (g : Goal). (reply_kind r == ask_kind (ask_at w.x g [] w.at)) ≡ true) goal kinds))
              (subst (λ (g : Goal). ShowsNamingReply V (head_of w) (ask_at w.x g (ends_in shown.ask) w.at) c.state r) goal naming)
              (fits_goal (IncludeStore store) goal))
              after.coord after.asks

    -- ---- a commit

    module _ (m : Machine) (is : d.now ≡ Committing m) (waits : waits_for_commit from a r m ≡ true) where
      commit_number : a.req ≡ d.req
      commit_number = sym (eqb-true (let p = plan_of m in p.req) a.req
          (and_parts ((let p = plan_of m in p.req) == a.req) ((reply_kind r == ask_kind (ask_of m from)) && has (left_of m) from) waits).0)
          ∙ (subst (IsNumbered d.req) is (let i = its c s is_seen in i.numbered a.act d found)).0

      pub of_commit : ((let h = shown.head in h.path) ≡ (let p = plan_of m in p.path)) × (shown.ask ≡ ask_of m from)
      of_commit = was_asked.commit m (ap (λ (z : Doing). z.now) same_doing ∙ is) (same_number commit_number)

      voting : IsVoting C.tree a.act (plan_of m)
      voting = subst (IsBusy C.tree a.act) is (let p = placed c s is_seen in let q = p.good in q.busy a.act d found)

      abbrev top_branch : Branch
      top_branch = let v = voting.asking in v.branch

      -- its path is a top's
      own_top : top_of (let h = shown.head in h.path) ≡ actor (let h = shown.head in h.path)
      own_top =
          let q = voting.asking in
          let path : (let h = shown.head in h.path) ≡ top_branch.path = of_commit.0 ∙ sym q.path in
          ap top_of path ∙ top_own c.begun (let p = placed c s is_seen in let w = p.whole in
          w.begun) (action_of top_branch) (in_from (action_of top_branch) c.begun (let p = placed c s is_seen in let g = p.good in
          g.known a.act top_branch q.found)) (voting.top top_branch q.found) q.unserial ∙ ap actor (sym path)

      shows : ShowsToCommit c.x (f.act a.act) m from r c.state
      shows = subst (λ (u : Uid). ShowsToCommit c.x (f.act u) m from r c.state) who
          (commit_shown V shown.head m from r c.state (ap f.act own_top) (subst (λ (q : Ask). ShowsReply V shown.head q c.state r)
          of_commit.1 shown.server) (subst (λ (q : Ask). ShowsNamingReply V shown.head q c.state r) of_commit.1 shown.naming))

      commit_goes : let D = moved_commit a.act (commit.answered from m r) (records_at s) C in Behind c s D.part → StepGoes c s e D
      commit_goes after = commit_answers_go c s e from a.act top_branch d m r is_seen holds
          (at_commit c s is_seen a.act top_branch (let v = voting.asking in v.found) d m found is) shows after.coord after.asks after.ends

  -- ---- what waits

  abbrev Goes : Served Coord (Unit {0}) → Type 0
  Goes D = Behind c s D.part → StepGoes c s e (record { part = D.part; outs = D.outs })

  -- nothing waits for it
  stays : Goes (heard_none C)
  stays after agrees = (c.state, is_seen.sees, is_seen.tied, stay)

  now_goes : (d : Doing) (found : doing_of a.act C ≡ Some d) (n : Now) → d.now ≡ n → Goes (heard_now from a r (records_at s) C n)
  now_goes d found Idle is = stays
  now_goes d found (Calling w) is = by (waits_for_call from a r w) refl
    where
      by : (t : Bool) → waits_for_call from a r w ≡ t → Goes (cond t (heard_by (heard_call w r C)) (heard_none C))
      by true on = step_goes d found w is on
      by false off = stays
  now_goes d found (Committing m) is = by (waits_for_commit from a r m) refl
    where
      by : (t : Bool) → waits_for_commit from a r m ≡ t →
          Goes (cond t (heard_by (moved_commit a.act (commit.answered from m r) (records_at s) C)) (heard_none C))
      by true on = commit_goes d found m is on
      by false off = stays

  answer_goes : Goes (heard from a r (records_at s) C)
  answer_goes = by (doing_of a.act C) refl
    where
      by : (o : Option Doing) → doing_of a.act C ≡ o → Goes (heard_doing from a r (records_at s) C o)
      by None none = stays
      by (Some d) found = now_goes d found d.now refl

  -- ---- the coordinator behind it

  abbrev behind : Coord
  behind = let D = heard from a r (records_at s) C in D.part

  actions_begun : AreBegun c.begun
  actions_begun = let g = is_seen.good in g.begun

  place : Place (let M = s.seen in M.sent) s.node C
  place = record {
    actions = c.begun;
    begun = actions_begun;
    good = (let i = its c s is_seen in
        let n = i.good (paths_of c.begun) (begun_tree c.begun actions_begun) (path_found c.begun actions_begun) in n.coord);
    numbered = (let i = its c s is_seen in i.numbered);
    faithful = (let i = its c s is_seen in i.faithful);
    binds = (let b = knows.binds in
        b.nodes s.node (record { number = s.node; disk = s.disk; live = Some s.parts }) s.parts (λ i. cond (number_same s.node i)
        (Some (record { number = s.node; disk = s.disk; live = Some s.parts })) (let M = s.seen in M.nodes s.node)) refl);
  }

  ends_behind : KnowsEnds behind
  ends_behind = let k = ends_kept (λ b. ⊤) in
      k.hears (let M = s.seen in M.sent) s.node C place from a r (records_at s) fits (λ b same. tt) knows.ends

  -- the Bind of a step of the object avoids a binding that was made
  abbrev HasAvoided : Steps → Type 0
  HasAvoided w = (b : Binding) → w.at ≡ AtBind b → w.x ≡ c.x → binding_number b < (let S = c.state in let n = S.naming in n.bound)

  asks_behind : reply_is_meant C a r ≡ true → KnowsAsks c behind
  asks_behind meant = record {
    states = states_heard (record { node = s.node; sent = (let M = s.seen in M.sent) }) C place from a r (records_at s) fits meant
        (let q = knows.asks in q.states);
    avoids = λ u d w b found is at about. all u d w found is b at about;
  }
    where
      next : (w : Steps) (d : Doing) (req : ℕ) (at : At) → doing_of a.act C ≡ Some d → d.now ≡ Calling w → HasAvoided w →
          (at ≡ w.at) ⊎ IsNewAt r at → HasAvoided (record w { req = req; at = at })
      next w d req at found is known (inl same) b at_it about = known b (sym same ∙ at_it) about
      next w d req at found is known (inr new) b at_it about = absurd (subst (IsNewAt r) at_it new)

      all : AreWaiting HasAvoided behind
      all = waiting_heard HasAvoided (let M = s.seen in M.sent) s.node C place from a r (records_at s) fits next
          (λ u d w found is b at about. (let q = knows.asks in q.avoids u d w b found is at about))

  -- it goes on, is good and sure, by the protocol alone
  behind_it : reply_is_meant C a r ≡ true → Behind c s behind
  behind_it meant =
      let p = placed c s is_seen in
      let tree = (let w = p.whole in w.tree) in
      behind_step c s is_seen behind
      (well_heard c.begun f.paths tree from a r (records_at s) C p.good).0
      (good_heard c.begun f.paths tree from a r (records_at s) C p.good)
      (sure_heard c.begun f.paths tree from a r (records_at s) C p.good (let q = its c s is_seen in q.sure)).0
      (record { asks = asks_behind meant; ends = ends_behind })

pub answers_go : AnswersGo
answers_go c s e from a r is_seen holds knows sent meant =
    answer_goes c s e from a r is_seen holds knows sent (behind_it c s e from a r is_seen holds knows sent meant)
