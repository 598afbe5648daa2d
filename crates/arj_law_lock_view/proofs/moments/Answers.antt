-- Answers are made at places: whoever sends one makes it where its frame goes out, or gives again what its server kept; and no event asks
-- anew by a number that a request has had.
use Rattle.arj_law_parts.proofs.Words
use Words.{◌≡◌, ◌≢◌, ◌≤◌, ◌∙◌, ◌==◌, ◌+◌, ℕ, Bool, true, false, cond, List, [], ◌∷◌, ◌++◌, map, filter, length, refl, sym, ap}
use Words.{subst, inl, inr}
use Words.{append-nil, arith, Option, Some, None, ⊤, AllByRecursion, Ask, Asked, End, Head, Header, Kind, Label, Message, Uid}
use Words.{asks, Reply, actor, answers, asked_by, last_end, response, again_all, begin_action, heard, last_req, Coord, Doing}
use Words.{doing_of, Disk, Do}
use Words.{Effect, Intent, Look, PutInc, Say, Send, acked, answer_query, tell, tell_all, tick_outs, Named, Naming, Handled, Parts, Took}
use Words.{Void, ack_told}
use Words.{by_reply, end_states, handle, handle_answer, handle_ask, handle_ends, handle_other, holders, is_earlier, is_meant}
use Words.{naming_told}
use Words.{prepared_actions, query_about, store_told, with_coord, uid_set, without_number, AreAll, is_naming_effect, is_server_effect}
use Words.{Input, Node, acts}
use Words.{hello_to, naming_at, naming_back, numbers_to, parent_of, parts_in, recovered_records, refusal_up, restart_outs, tolds_again}
use Words.{branch_named}
use Words.{refused_by, call_reasons, include_reasons, commit_reasons, Branch, is_own, is_prepared, Kept, ends_own, told_own, is_serial}
use Words.{is_deferred}
use Words.{is_open, at_uid, has, Post, Seen, see, back_lines, ◌||◌, world_from, numbered, and_parts, eqb-true, at_place, branch_of}
use Words.body
use Words.frame
use Words.list
use Words.ending
use Words.message
use Words.naming
use Words.server
use Words.input
use Rattle.arj_law_lock_view.proofs.Terms
use Terms.{Action, paths_of, AreTrue, IsGoodCoord, IsTree, begun_tree, path_found, all_flat, well_acked, well_acts}
use Terms.{well_again}
use Terms.{well_heard, IsGoodOf, IsUp, same_number, some_is, no_answer}
use Rattle.arj_law_lock_view.proofs.facts.{Homes.home_keep, Requests.requests_keep}
use Rattle.arj_law_lock_view.proofs.moments
use moments.Later.{AreMute, Carried, IsMute, Later, before_later, behind_is, behind_outs, carried_later, carried_of, carried_up, kept_later}
use moments.Later.{mute_walk, never, none_is, put_at}
use moments.Later.{put_answer, silent_walk, stop_made, to_later}
use moments.Serving.{HasCome, IsNew, IsServed, Serves, Was, found_all, serves, told_kept}
use Rattle.arj_law_lock_view.specs.facts.Homes.{RequestsAreHome}
use Rattle.arj_law_lock_view.specs.moments.Made.{Answer, AnswersAreMade, AnswersTo, AreBefore, AreKeptSo, IsAnswered, IsKeptSo, Saying}
use Rattle.arj_law_lock_view.specs.moments.Made.{Tells}
use Rattle.arj_law_lock_view.specs.moments.Made.{is_again, lines_behind}
use Rattle.arj_law_parts.proofs.moves.{Flat.post, Happens.Wide, Happens.wide_kept, Happens.keeps_asked}
use Rattle.arj_law_parts.proofs.parts.SaidIncs.{all_quiet}
use Rattle.arj_law_parts.specs.moves.Moments.{Asking, MayTake, Moment, asks_now, asking_of, at, closed, fits, found_act, given, halted}
use Rattle.arj_law_parts.specs.moves.Moments.{is_restart, lined, no_history, opened, said, sent, up}
use Rattle.arj_law_parts.specs.moves.Seen.{In}
use Rattle.arj_law_parts.specs.moves.Seen as seen
use Rattle.arj_law_parts.specs.moves.With.{Closes, IsAtFirst, IsFirst, KeepsAll, KeepsSteps, KeepsWith, Opens, UpWith, WalksWith}
use Rattle.arj_law_parts.proofs.moves.Together.{with_both}
use Rattle.arj_law_parts.proofs.parts.CoordInputs.{named_found}
use Rattle.arj_law_lock_view.specs.facts.Requests.{IsAskedBy, RequestsAreKnown}
use Rattle.arj_law_lock_view.proofs.Terms.{IsAtStarts, Keeps, kept_both, first_up, is_act}
use Rattle.arj_law_runs.proofs.calls.Given.{keeps_given}
use Rattle.arj_protocol.specs.Ending.{answer_decided, answer_recorded, is_kept_commit, root_or_self}

-- ---- what sends no answer

mute_both : (es fs : List Effect) → AreMute es → AreMute fs → AreMute (es ++ fs)
mute_both [] fs a b = b
mute_both (e ∷ es) fs a b = (a.0, mute_both es fs a.1 b)

-- what a coordinator does is of its own
true_mute : (c : Coord) (outs : List Effect) → AreTrue c outs → AreMute outs
true_mute c [] all = tt
true_mute c (Send to m ∷ es) all = let f = all.0 in (no_answer m f.plain, true_mute c es all.1)
true_mute c (Say b ∷ es) all = (tt, true_mute c es all.1)
true_mute c (Do w ∷ es) all = (tt, true_mute c es all.1)

server_mute : (n : ℕ) (es : List Effect) → AreAll (is_server_effect n) es → AreMute es
server_mute n es own = all_quiet IsMute (is_server_effect n) (λ to m. refl) one es own
  where
    one : (f : Effect) → is_server_effect n f ≡ true → IsMute f
    one (Say b) is = tt
    one (Send to m) is = absurd (cc is)
    one (Do w) is = tt

naming_mute : (es : List Effect) → AreAll is_naming_effect es → AreMute es
naming_mute es own = all_quiet IsMute is_naming_effect (λ to m. refl) one es own
  where
    one : (f : Effect) → is_naming_effect f ≡ true → IsMute f
    one (Say b) is = tt
    one (Send to m) is = absurd (cc is)
    one (Do w) is = tt

map_mute : {A : Type 0} (f : A → Effect) (xs : List A) → ((a : A) → IsMute (f a)) → AreMute (map f xs)
map_mute f [] each = tt
map_mute f (x ∷ xs) each = (each x, map_mute f xs each)

tolds_mute : (telling : List (Uid × Intent)) → AreMute (tolds_again telling)
tolds_mute [] = tt
tolds_mute (e ∷ es) = mute_both (tell_all e.1.root true ((e.0, ending.Commit) ∷ []) e.1.nodes) (tolds_again es)
    (map_mute (tell e.1.root true ((e.0, ending.Commit) ∷ [])) e.1.nodes (λ n. refl)) (tolds_mute es)

asks_mute : (us : List Uid) → AreMute (map query_about us)
asks_mute us = map_mute query_about us (λ u. refl)

-- ---- messages that are no requests

-- No answer is sent, and of what the server kept nothing is new.
abbrev IsOther : Parts → Handled → Type 0
IsOther t (Void outs) = ⊤
IsOther t (Took v outs) = AreMute outs × AllByRecursion (λ (e : Uid × Kept). list.In e t.server.kept) v.server.kept

all_in : {A : Type 0} (xs : List A) → AllByRecursion (λ (a : A). list.In a xs) xs
all_in {A} xs = within xs (λ a i. i)
  where
    within : (ys : List A) → ((a : A) → list.In a ys → list.In a xs) → AllByRecursion (λ (a : A). list.In a xs) ys
    within [] f = tt
    within (y ∷ ys) f = (f y (inl refl), within ys (λ a i. f a (inr i)))

in_all : {A : Type 0} (P : A → Type 0) (a : A) (xs : List A) → AllByRecursion P xs → list.In a xs → P a
in_all P a [] all i = absurd i
in_all P a (x ∷ xs) all (inl is) = subst P is all.0
in_all P a (x ∷ xs) all (inr i) = in_all P a xs all.1 i

all_less : {A : Type 0} (P : A → Type 0) (few many : List A) → AllByRecursion P many → AllByRecursion (λ (a : A). list.In a many) few →
    AllByRecursion P few
all_less P [] many all each = tt
all_less P (x ∷ xs) many all each = (in_all P x many all each.0, all_less P xs many all each.1)

module _ (n : ℕ) (d : Disk) (t : Parts) (from : ℕ) where
  coord_other : (c : Coord) (outs : List Effect) (r : Option (Unit {0})) → AreMute outs → IsOther t (by_reply (with_coord t c) outs r)
  coord_other c outs None mute = tt
  coord_other c outs (Some u) mute = (mute, all_in t.server.kept)

  ends_other : (ack : Bool) (ends : List (Uid × End)) (o : Option (Uid × End)) → IsOther t (handle_ends n d t from ack ends o)
  ends_other ack ends None = (tt, all_in t.server.kept)
  ends_other ack ends (Some e) =
      let s = server.told n ends t.server in
      let o = naming_told e.0 e.1 d.names t.naming in (
        mute_both (store_told n e.0 e.1 d.store ++ o.outs ++ s.outs) (ack_told from e.0 ack)
            (mute_both (store_told n e.0 e.1 d.store ++ o.outs) s.outs
            (mute_both (store_told n e.0 e.1 d.store) o.outs (stored (is_prepared e.0 d.store) e.1) (named t.naming))
            (server_mute n s.outs (ends_own n ends t.server))) (acks ack),
        told_kept (λ u k. list.In (u, k) t.server.kept) n ends t.server (all_in t.server.kept),
      )
    where
      stored : (b : Bool) (how : End) → AreMute (cond b (end_states n e.0 how) [])
      stored false how = tt
      stored true ending.Commit = (tt, (tt, tt))
      stored true ending.Abort = (tt, (tt, tt))

      named : (o : Option Naming) → AreMute (let r = naming_told e.0 e.1 d.names o in r.outs)
      named None = tt
      named (Some o) = naming_mute (naming.told e.0 e.1 d.names o).outs (told_own e.0 e.1 d.names o)

      acks : (b : Bool) → AreMute (ack_told from e.0 b)
      acks true = (refl, tt)
      acks false = tt

  query_mute : (u : Uid) (intents : List (Uid × Intent)) (c : Coord) → AreMute (answer_query from u intents c)
  query_mute u intents c = by (is_open u c.tree || is_deferred u intents from)
    where
      decided : AreMute (answer_decided from u c)
      decided = one (is_kept_commit from u c)
        where
          one : (b : Bool) → AreMute (cond b (tell (root_or_self u (branch_of u c.tree)) false ((u, ending.Commit) ∷ []) from ∷ [])
              (tell (root_or_self u (branch_of u c.tree)) false ((u, ending.Abort) ∷ []) from ∷ []))
          one true = (refl, tt)
          one false = (refl, tt)

      recorded : (o : Option Intent) → AreMute (answer_recorded from u c o)
      recorded None = decided
      recorded (Some i) = one (has i.nodes from)
        where
          one : (b : Bool) → AreMute (cond b (tell i.root true ((u, ending.Commit) ∷ []) from ∷ []) (answer_decided from u c))
          one true = (refl, tt)
          one false = decided

      by : (b : Bool) → AreMute (cond b [] (answer_recorded from u c (at_uid u intents)))
      by true = tt
      by false = recorded (at_uid u intents)

  other_kept : (m : Message) → ((u : Uid) → AreMute (acked from u d.intents t.coord).outs) → IsOther t (handle_other n d t from m)
  other_kept (message.Told m) acks = ends_other m.ack m.ends (last_end m.ends)
  other_kept (message.Acked m) acks = let r = acked from m.act d.intents t.coord in coord_other r.part r.outs r.reply (acks m.act)
  other_kept (message.Query m) acks = (query_mute m.act d.intents t.coord, all_in t.server.kept)
  other_kept (message.Hello m) acks = (asks_mute (filter (is_earlier m.node m.inc) (holders d t)), all_in t.server.kept)
  other_kept (message.Bind m) acks = tt
  other_kept (message.Bound m) acks = tt
  other_kept (message.Load m) acks = tt
  other_kept (message.Loaded m) acks = tt
  other_kept (message.Activate m) acks = tt
  other_kept (message.Activated m) acks = tt
  other_kept (message.RecordMsg m) acks = tt
  other_kept (message.Recorded m) acks = tt
  other_kept (message.Invoke m) acks = tt
  other_kept (message.Invoked m) acks = tt
  other_kept (message.Vote m) acks = tt
  other_kept (message.Voted m) acks = tt
  other_kept (message.Prepare m) acks = tt
  other_kept (message.Prepared m) acks = tt
  other_kept (message.Confirm m) acks = tt
  other_kept (message.Confirmed m) acks = tt

-- ---- what is known in every run

-- the requests that were sent are known to their coordinators, and come from where their actors began
abbrev pub Known : Seen → Type 0
Known M = RequestsAreKnown M × RequestsAreHome M

pub known_keep : (hd : Header) → Keeps hd Known
known_keep hd = kept_both hd RequestsAreKnown RequestsAreHome (requests_keep hd)
    (keeps_given hd RequestsAreKnown RequestsAreHome (home_keep hd))

-- a node that is up in what is seen with more sent
module _ (k : ℕ) (d : Disk) (t : Parts) (M : Moment) (known : Wide Known (up k d t M)) where
  abbrev mine : Node
  mine = record { number = k; disk = d; live = Some t }

  there : (let S = up k d t M in S.seen.nodes k) ≡ Some (record { number = k; disk = d; live = Some t })
  there = λ i. cond (same_number k i) (Some (record { number = k; disk = d; live = Some t })) (M.seen.nodes k)

  abbrev begun : List Action
  begun = known.2.0.0.0.0

  good : IsGoodOf begun (seen.with_sent known.0 (up k d t M).seen)
  good = known.2.0.0.0.1

  tree : IsTree (paths_of known.2.0.0.0.0)
  tree = begun_tree known.2.0.0.0.0 good.begun

  its_up : IsUp known.2.0.0.0.0 known.0 M.seen.labels k d.inc t
  its_up = let p = good.places k mine there in p.memory

  its_coord : IsGoodCoord known.2.0.0.0.0 (paths_of known.2.0.0.0.0) t.coord
  its_coord = let u = its_up in let g = u.good (paths_of begun) tree (path_found begun good.begun) in g.coord

  home_of : (from : ℕ) (m : Message) (h : Head) (a : Ask) → In (post from k m) M.seen.sent → asks m ≡ Some (h, a) →
      (actor h.path).node ≡ from
  home_of from m h a sent_it is = known.2.1.1.0 (post from k m) h a (known.1 (post from k m) sent_it) is

  heard_mute : (from : ℕ) (a : Asked) (r : Reply) → AreMute (heard from a r d.intents t.coord).outs
  heard_mute from a r = let q = heard from a r d.intents t.coord in
      true_mute q.part q.outs (well_heard begun (paths_of begun) tree from a r d.intents t.coord its_coord).1

  acked_mute : (from : ℕ) (u : Uid) → AreMute (acked from u d.intents t.coord).outs
  acked_mute from u = let q = acked from u d.intents t.coord in
      true_mute q.part q.outs (well_acked begun (paths_of begun) tree from u d.intents t.coord).1

  acts_mute : (hd : Header) (i : Input) → is_act i ≡ true → refusal_up hd i t.coord ≡ None → AreMute (acts i d.intents t.coord).outs
  acts_mute hd i is free = let r = acts i d.intents t.coord in true_mute r.part r.outs
      (well_acts begun (paths_of begun) tree d.intents t.coord
      its_coord (let u = its_up in let f = u.faithful in f.works) hd i free other).1
    where
      other : (l : Label) (how : Kind) (parent : Option Label) → i ≢ input.Begin l how parent
      other l how parent same = let no_way : false ≡ true = sym (ap is_act same) ∙ is in cc no_way

  tick_mute : AreMute (tick_outs (record { number = k; disk = d; live = Some t }) t)
  tick_mute =
      let r = again_all t.coord.doings t.coord in
      mute_both (r.outs ++ tolds_again t.coord.telling) (map query_about (holders d t))
      (mute_both r.outs (tolds_again t.coord.telling) (true_mute r.part r.outs (well_again begun (paths_of begun) tree t.coord its_coord).1)
      (tolds_mute t.coord.telling)) (asks_mute (holders d t))

  other_of : (from : ℕ) (m : Message) → asks m ≡ None → IsOther t (handle k d t from m)
  other_of from m none = subst (λ o. IsOther t (handle_ask k d t from m o)) (sym none) (by (answers m))
    where
      by : (o : Option (Asked × Reply)) → IsOther t (handle_answer k d t from m o)
      by None = other_kept k d t from m (acked_mute from)
      by (Some a) = let r = heard from a.0 a.1 d.intents t.coord in coord_other k d t from r.part r.outs r.reply (heard_mute from a.0 a.1)

-- ---- who is asked anew

-- no request that was sent is of the action that is asked, with a number as high as its next one
module _ (k : ℕ) (d : Disk) (t : Parts) (M : Moment) (known : Wide Known (up k d t M)) where
  abbrev IsNewFor : Asking → Type 0
  IsNewFor q = (p : Post) (h : Head) (a : Ask) → In p M.seen.sent → asks p.message ≡ Some (h, a) → q.act ≡ actor h.path → q.first ≤ h.req →
      ⊥

  -- the requests of its own actions are of no later number than their last ones
  asked_new : (l : Label) (b : Branch) → branch_named l t.coord ≡ Some b → IsNewFor (asking_of l t.coord M.past.run M.past.event)
  asked_new l b named p h a sent_it is act first =
      too_high (doing_of (actor h.path) t.coord) by.doing by.found (sym (ap (λ u. doing_of u t.coord) act)) by.low first
    where
      actor_is : actor b.path ≡ actor h.path
      actor_is = sym (ap found_act named) ∙ act

      own : is_own (actor h.path) t.coord.tree ≡ true
      own = subst (λ w. is_own w t.coord.tree ≡ true) actor_is (own_found (actor b.path) b
          (named_found known.2.0.0.0.0 (paths_of known.2.0.0.0.0) (tree k d t M known) d.intents t.coord
          (its_coord k d t M known) l b named))
        where
          own_found : (w : Uid) (b : Branch) → branch_of w t.coord.tree ≡ Some b → is_own w t.coord.tree ≡ true
          own_found w b found = one (is_own w t.coord.tree) refl found
            where
              one : (c : Bool) → is_own w t.coord.tree ≡ c → cond c (at_place w.num t.coord.tree.branches) None ≡ Some b →
                  is_own w t.coord.tree ≡ true
              one true same f = same
              one false same f = absurd (none_is f)

      from_here : p.from ≡ k
      from_here = sym (known.2.1.1.0 p h a (known.1 p sent_it) is)
          ∙ (eqb-true (actor h.path).node t.coord.tree.node (and_parts ((actor h.path).node == t.coord.tree.node)
          ((actor h.path).inc == t.coord.tree.inc) own).0 ∙ (let w = its_up k d t M known in w.node))

      by : IsAskedBy t.coord p.to h a
      by = known.2.0.1 k (mine k d t M known) t (there k d t M known) refl p h a (known.1 p sent_it) from_here is own

      too_high : (o : Option Doing) (q : Doing) → o ≡ Some q → o ≡ doing_of (found_act (branch_named l t.coord)) t.coord → h.req ≤ q.req →
          last_req (doing_of (found_act (branch_named l t.coord)) t.coord) + 1 ≤ h.req → ⊥
      too_high o q found same low high =
          let last : last_req (doing_of (found_act (branch_named l t.coord)) t.coord) ≡ q.req = ap last_req (sym same ∙ found) in
          omega (arith, last, low, high)

module _ (S : Saying) where
  -- one more was asked, which can own none of the requests that were sent
  asked_more : (q : Asking) (M : Moment) (lost : Type 0) (a : Answer)
      → ((p : Post) (h : Head) (b : Ask) → In p M.seen.sent → asks p.message ≡ Some (h, b) → q.act ≡ actor h.path → q.first ≤ h.req → ⊥)
      → IsAnswered S lost M a → IsAnswered S lost (record M { past = record M.past { askings = q ∷ M.past.askings } }) a
  asked_more q M lost a new h = record {
    request = h.request;
    posted = h.posted;
    asking = h.asking;
    to = h.to;
    from = h.from;
    made = record {
      before = h.made.before;
      after = h.made.after;
      are = h.made.are;
      behind = behind;
      framed = h.made.framed;
      so = h.made.so;
    };
  }
    where
      behind : (k : Asking) → list.In k (q ∷ M.past.askings) → k.act ≡ actor (let b = a.head in b.path) →
          k.first ≤ (let b = a.head in b.req) → k.asked.at ≤ length h.made.before
      behind k (inl same) act first = absurd (new h.request a.head a.ask h.posted h.asking (ap (λ (z : Asking). z.act) same ∙ act)
          (subst (λ (z : Asking). z.first ≤ (let b = a.head in b.req)) (sym same) first))
      behind k (inr old) act first = h.made.behind k old act first

  pub carried_asked : (k : ℕ) (t : Parts) (q : Asking) (M : Moment) →
      ((p : Post) (h : Head) (b : Ask) → In p M.seen.sent → asks p.message ≡ Some (h, b) → q.act ≡ actor h.path → q.first ≤ h.req → ⊥) →
      q.asked.at ≤ length M.seen.lines → Carried S k t M → Carried S k t
      (record M { past = record M.past { askings = q ∷ M.past.askings } })
  carried_asked k t q M new at_last h = record {
    sent = λ p a r there is. more ⊥ p.from p.to a r (h.sent p a r there is);
    others = λ j n u apart is live. kept j u.server.kept (h.others j n u apart is live);
    own = kept k t.server.kept h.own;
    asked = asked;
  }
    where
      N : Moment
      N = record M { past = record M.past { askings = q ∷ M.past.askings } }

      more : (lost : Type 0) (from to : ℕ) (a : Asked) (r : Reply) → AnswersTo S lost M from to a r →
          AnswersTo S lost (record M { past = record M.past { askings = q ∷ M.past.askings } }) from to a r
      more lost from to a r z =
          (z.0, z.1, z.2, asked_more q M lost (record { from = from; to = to; head = z.0; ask = z.1; reply = r }) new z.3)

      kept : (j : ℕ) (es : List (Uid × Kept)) → AreKeptSo S M j es →
          AreKeptSo S (record M { past = record M.past { askings = q ∷ M.past.askings } }) j es
      kept j [] all = tt
      kept j (e ∷ es) all = (
        more (fits M ≡ false) j e.0.node (record { act = e.0; req = e.1.req }) (Reply.Invoked e.1.answer) all.0,
        kept j es all.1,
      )

      asked : AreBefore (record M { past = record M.past { askings = q ∷ M.past.askings } })
      asked k (inl same) = subst (λ (z : Asking). z.asked.at ≤ length M.seen.lines) same at_last
      asked k (inr old) = h.asked k old

  -- ---- at a later moment

  pub made_later : (M N : Moment) → Later M N → ((j : ℕ) → N.seen.nodes j ≡ M.seen.nodes j) →
      ((p : Post) → In p N.seen.sent → In p M.seen.sent) → AnswersAreMade S M → AnswersAreMade S N
  made_later M N later nodes same h = record {
    sent = λ p a r there is. to_later S ⊥ ⊥ M N p.from p.to a r (λ l. l) later (h.sent p a r (same p there) is);
    kept = λ j n t is live. kept_later S M N j t.server.kept later (h.kept j n t (sym (nodes j) ∙ is) live);
    asked = before_later S M N later h.asked;
  }

  stop_any : (k : ℕ) (d : Disk) (live : Option Parts) (M : Moment) → AnswersAreMade S (at k d live M) → AnswersAreMade S (halted k d M)
  stop_any k d None M h = stop_made S k d (parts_in k 0 d) M (carried_of S k d None (parts_in k 0 d) M h tt)
  stop_any k d (Some t) M h = stop_made S k d t M (carried_up S k d t M h)

  -- ---- a request is served

  module _ (k : ℕ) (d : Disk) (t v : Parts) (from : ℕ) (m : Message) (h : Head) (a : Ask) (outs : List Effect) (M : Moment)
      (sent_it : In (post from k m) M.seen.sent) (is : asks m ≡ Some (h, a)) (home : (actor h.path).node ≡ from)
      (all : AnswersAreMade S (up k d t M)) (sv : Serves from h a t v outs)
      (says : is_again h a t.server ≡ false →
      S (record { from = k; to = from; head = h; ask = a; reply = sv.reply }) (lines_behind M.past.number sv.front M.seen.lines)) where
    abbrev here : Moment
    here = behind_outs sv.front M

    abbrev then : Asked → Moment
    then x = sent (post k from (response x sv.reply)) (behind_outs sv.front M)

    abbrev Result : Asked → Type 0
    Result x = Carried S k t (then x) × AnswersTo S (fits (then x) ≡ false) (then x) k from x sv.reply

    within : (outs : List Effect) (N : Moment) → ((p : Post) → In p N.seen.sent → In p (let L = behind_outs outs N in L.seen.sent))
    within [] N p i = i
    within (Say b ∷ es) N p i = within es (said (b ∷ []) N) p i
    within (Send to x ∷ es) N p i = within es N p i
    within (Do w ∷ es) N p i = within es N p i

    answered : Carried S k t (behind_outs sv.front M) → Result (asked_by h)
    answered c = by (is_again h a t.server) refl
      where
        by : (b : Bool) → is_again h a t.server ≡ b → Result (asked_by h)
        by false new =
            let r = put_answer S k t from h a sv.reply here (post from k m) (within sv.front M (post from k m) sent_it) is refl refl c
            (inr (subst (λ ls. S (record { from = k; to = from; head = h; ask = a; reply = sv.reply }) ls) (sym (behind_is sv.front M))
            (says new))) in
            (r.0, (h, a, refl, r.1))
        by true again =
            let f = sv.again again in
            let old = found_all (IsKeptSo S here k) (actor h.path) f.0 t.server.kept c.own f.1 in
            let named : asked_by old.0 ≡ asked_by h = old.2 ∙ (λ i. record { act = actor h.path; req = f.2 i }) in
            let it : AnswersTo S (fits here ≡ false) here k from (asked_by old.0) sv.reply = subst
            (λ n. AnswersTo S (fits here ≡ false) here k n (asked_by old.0) sv.reply) home
            (subst (λ r. AnswersTo S (fits here ≡ false) here k (actor h.path).node (asked_by old.0) r) (sym f.3)
            (old.0, old.1, refl, old.3)) in
            let r = put_answer S k t from it.0 it.1 sv.reply here it.3.request it.3.posted it.3.asking it.3.to it.3.from c
            (inl it.3.made) in
            subst Result (it.2 ∙ named) (r.0, (it.0, it.1, refl, r.1))

    kept_so : (N : Moment) → AreKeptSo S N k t.server.kept → AnswersTo S (fits N ≡ false) N k from (asked_by h) sv.reply →
        AreKeptSo S N k v.server.kept
    kept_so N own it = each v.server.kept sv.kept
      where
        one : (u : Uid) (x : Kept) → HasCome h sv.reply t.server.kept u x → IsKeptSo S N k u x
        one u x (Was i) = in_all (λ (e : Uid × Kept). IsKeptSo S N k e.0 e.1) (u, x) t.server.kept own i
        one u x (IsNew q act same reply_is) =
            subst (λ w. IsKeptSo S N k w x) act (subst (IsKeptSo S N k (actor h.path)) same
            (subst (λ n. AnswersTo S (fits N ≡ false) N k n (asked_by h) (Reply.Invoked q)) (sym home)
            (subst (λ r. AnswersTo S (fits N ≡ false) N k from (asked_by h) r) reply_is it)))

        each : (es : List (Uid × Kept)) → AllByRecursion (λ (e : Uid × Kept). HasCome h sv.reply t.server.kept e.0 e.1) es →
            AreKeptSo S N k es
        each [] all = tt
        each (e ∷ es) all = (one e.0 e.1 all.0, each es all.1)

    pub serve_walk : WalksWith (AnswersAreMade S) k outs (UpWith (AnswersAreMade S) k v) d M
    serve_walk = subst (λ es. WalksWith (AnswersAreMade S) k es (UpWith (AnswersAreMade S) k v) d M) (sym sv.are)
        (silent_walk S k t sv.front (Send from (response (asked_by h) sv.reply) ∷ []) (UpWith (AnswersAreMade S) k v) d M sv.silent
        (carried_up S k d t M all) (λ c carried. let r = answered carried in
        put_at S k c (Some v) t (then (asked_by h)) r.0
        (λ w same. subst (λ (z : Parts). AreKeptSo S (then (asked_by h)) k z.server.kept) (some_is same)
        (kept_so (then (asked_by h)) r.0.own r.1))))

  -- ---- what sends no answer

  pub other_walk : (k : ℕ) (t v : Parts) (outs : List Effect) (d : Disk) (M : Moment) → AreMute outs → Carried S k t M →
      AllByRecursion (λ (e : Uid × Kept). list.In e t.server.kept) v.server.kept
      → WalksWith (AnswersAreMade S) k outs (UpWith (AnswersAreMade S) k v) d M
  other_walk k t v outs d M mute h kept =
      subst (λ es. WalksWith (AnswersAreMade S) k es (UpWith (AnswersAreMade S) k v) d M) (append-nil outs)
      (mute_walk S k t outs [] (UpWith (AnswersAreMade S) k v) d M mute h (λ c N g. put_at S k c (Some v) t N g
      (λ w same. subst (λ (z : Parts). AreKeptSo S N k z.server.kept) (some_is same)
      (all_less (λ (e : Uid × Kept). IsKeptSo S N k e.0 e.1) v.server.kept t.server.kept g.own kept))))

-- ---- every handler

restart_mute : (hd : Header) (k inc : ℕ) (d : Disk) → AreMute (restart_outs hd k inc d)
restart_mute hd k inc d =
    let back = naming_back (naming_at k inc d.names) in
    let records = Do Look ∷ recovered_records k d.intents in
    let asks = map query_about (uid_set (prepared_actions d.store ++ prepared_actions d.names)) in
    let first = Do Look ∷ Do (PutInc inc) ∷ Say (body.Up k inc) ∷ Do Look ∷ back in
    mute_both (first ++ records ++ tolds_again d.intents ++ asks) (map (hello_to k inc) (without_number k (numbers_to hd.nodes)))
    (mute_both (first ++ records ++ tolds_again d.intents) asks
    (mute_both (first ++ records) (tolds_again d.intents)
    (mute_both first records (tt, (tt, (tt, (tt, backs (naming_at k inc d.names))))) (tt, map_mute _ d.intents (λ e. tt)))
    (tolds_mute d.intents))
    (asks_mute (uid_set (prepared_actions d.store ++ prepared_actions d.names))))
    (map_mute (hello_to k inc) (without_number k (numbers_to hd.nodes)) (λ n. refl))
  where
    backs : (o : Option Naming) → AreMute (naming_back o)
    backs None = tt
    backs (Some o) = all_flat IsMute (λ (e : ℕ × Named). back_lines e.1) o.objects (λ e. map_mute _ e.1.rows (λ r. tt))

-- the action of a label is asked
asked_by_label : (S : Saying) (k : ℕ) (d : Disk) (t : Parts) (M : Moment) → Wide Known (up k d t M) × AnswersAreMade S (up k d t M) →
    IsFirst M →
    (l : Label) (b : Branch) → branch_named l t.coord ≡ Some b → Carried S k t
    (record M { past = record M.past { askings = asking_of l t.coord M.past.run M.past.event ∷ M.past.askings } })
asked_by_label S k d t M h first l b named = carried_asked S k t (asking_of l t.coord M.past.run M.past.event) M
    (asked_new k d t M h.0 l b named) (low (λ i. length (first i))) (carried_up S k d t M h.1)
  where
    low : {m n : ℕ} → m ≡ n → m ≤ n
    low is = omega (arith, is)

same_lines : (S : Saying) (M N : Moment) → N.seen ≡ M.seen → N.past.askings ≡ M.past.askings → (fits M ≡ false → fits N ≡ false) →
    AnswersAreMade S M → AnswersAreMade S N
same_lines S M N seen askings full h = made_later S M N
    (record {
      more = [];
      lines = ap (λ (s : Seen). s.lines) seen ∙ sym (append-nil M.seen.lines);
      askings = askings;
      sent = λ p i. subst (In p) (ap (λ (s : Seen). s.sent) (sym seen)) i;
      full = full;
    })
    (λ j. ap (λ (s : Seen). s.nodes j) seen) (λ p i. subst (In p) (ap (λ (s : Seen). s.sent) seen) i) h

-- as an event comes, and as it is over
pub made_opens : (S : Saying) → Opens (AnswersAreMade S) (AnswersAreMade S)
made_opens S e M first number h = same_lines S M (opened e M) refl refl (λ f. f) h

pub made_closes : (S : Saying) → Closes (AnswersAreMade S) (AnswersAreMade S)
made_closes S bodies M number lines h = same_lines S M (closed bodies M) refl refl (λ f. f) h

-- What is known beside: so much that an answer says what is so, and that requests are known.
module _ (hd : Header) (S : Saying) (G : Moment → Type 0) (wide : KeepsSteps hd G) (knows : (M : Moment) → G M → Wide Known M)
    (tells : Tells G S) where
  -- what is known, and that answers are made at places
  abbrev pub Both : Moment → Type 0
  Both M = G M × AnswersAreMade S M

  -- the same, in words of requests
  abbrev Plain : Moment → Type 0
  Plain M = Wide Known M × AnswersAreMade S M

  plain : (M : Moment) → Both M → Plain M
  plain M h = (knows M h.0, h.1)

  both_walk : (k : ℕ) (outs : List Effect) (v : Parts) (d : Disk) (M : Moment) →
      WalksWith G k outs (UpWith G k v) d M →
      WalksWith (AnswersAreMade S) k outs (UpWith (AnswersAreMade S) k v) d M → WalksWith Both k outs (UpWith Both k v) d M
  both_walk k outs v d M a b =
      with_both G (AnswersAreMade S) k outs (UpWith G k v) (UpWith (AnswersAreMade S) k v) d M a b

  message_made : (k : ℕ) (d : Disk) (t v : Parts) (from : ℕ) (m : Message) (outs : List Effect) (M : Moment) → Both (up k d t M) →
      In (post from k m) M.seen.sent → is_meant t m ≡ true → MayTake M.past.event m → handle k d t from m ≡ Took v outs →
      WalksWith (AnswersAreMade S) k outs (UpWith (AnswersAreMade S) k v) d M
  message_made k d t v from m outs M h sent_it meant may is = by (asks m) refl
    where
      known : Wide Known (up k d t M)
      known = knows (up k d t M) h.0

      -- no node restarts, where a request is taken
      other : (a : Head × Ask) → asks m ≡ Some a → is_restart M.past.event ≡ false
      other a asks_it = one (is_restart M.past.event) refl
        where
          one : (b : Bool) → is_restart M.past.event ≡ b → b ≡ false
          one true restarts = absurd (none_is (sym (may restarts).0 ∙ asks_it))
          one false apart = refl

      asked : (q : Head) (a : Ask) → asks m ≡ Some (q, a) → Serves from q a t v outs →
          WalksWith (AnswersAreMade S) k outs (UpWith (AnswersAreMade S) k v) d M
      asked q a asks_it sv = serve_walk S k d t v from m q a outs M sent_it asks_it
          (home_of k d t M known from m q a sent_it asks_it) h.1 sv
          (λ new. tells k d t v from m q a sv.reply sv.front M h.0 sent_it (other (q, a) asks_it) meant asks_it new
          (is ∙ ap (Took v) sv.are))

      by : (o : Option (Head × Ask)) → asks m ≡ o → WalksWith (AnswersAreMade S) k outs (UpWith (AnswersAreMade S) k v) d M
      by None none =
          let o = subst (IsOther t) is (other_of k d t M known from m none) in
          other_walk S k t v outs d M o.0 (carried_up S k d t M h.1) o.1
      by (Some a) asks_it = asked a.0 a.1 asks_it (subst (IsServed from a.0 a.1 t)
          (sym (ap (handle_ask k d t from m) asks_it) ∙ is) (serves k d t from a.0 a.1))

  act_carried : (k : ℕ) (d : Disk) (t : Parts) (i : Input) (M : Moment) → IsFirst M → refusal_up hd i t.coord ≡ None → Plain (up k d t M) →
      Carried S k t (asks_now i t.coord M)
  act_carried k d t (input.Call l x o) M first free h = by (branch_named l t.coord) refl free
    where
      by : (b : Option Branch) → branch_named l t.coord ≡ b → refused_by (call_reasons hd x o) t.coord b ≡ None →
          Carried S k t (asks_now (input.Call l x o) t.coord M)
      by None named none = absurd (cc none)
      by (Some b) named none = asked_by_label S k d t M h first l b named
  act_carried k d t (input.Include l x s) M first free h = by (branch_named l t.coord) refl free
    where
      by : (b : Option Branch) → branch_named l t.coord ≡ b → refused_by (include_reasons hd x) t.coord b ≡ None →
          Carried S k t (asks_now (input.Include l x s) t.coord M)
      by None named none = absurd (cc none)
      by (Some b) named none = asked_by_label S k d t M h first l b named
  act_carried k d t (input.Commit l) M first free h = by (branch_named l t.coord) refl free
    where
      by : (b : Option Branch) → branch_named l t.coord ≡ b → refused_by commit_reasons t.coord b ≡ None →
          Carried S k t (asks_now (input.Commit l) t.coord M)
      by None named none = absurd (cc none)
      by (Some b) named none = asked_by_label S k d t M h first l b named
  act_carried k d t (input.Begin l how p) M first free h = carried_up S k d t M h.1
  act_carried k d t (input.Abort l) M first free h = carried_up S k d t M h.1
  act_carried k d t (input.GiveUp l) M first free h = carried_up S k d t M h.1
  act_carried k d t (input.Frame f from m) M first free h = carried_up S k d t M h.1
  act_carried k d t input.Tick M first free h = carried_up S k d t M h.1
  act_carried k d t input.Restart M first free h = carried_up S k d t M h.1
  act_carried k d t input.Crash M first free h = carried_up S k d t M h.1
  act_carried k d t (input.Show x) M first free h = carried_up S k d t M h.1

  pub answers_step : KeepsSteps hd Both
  answers_step = record {
    quiet = λ bs M plain h. (
      wide.quiet bs M plain h.0,
      made_later S M (said bs M)
          (record { more = numbered M.past.number bs; lines = refl; askings = refl; sent = λ p i. i; full = λ f. f }) (λ j. refl)
          (λ p i. i) h.1,
    );
    junk = λ n M fit h. (
      wide.junk n M fit h.0,
      made_later S M (lined 0 n frame.Junk M) (record {
        more = numbered M.past.number (body.Sent (M.past.frames + 1) 0 n frame.Junk ∷ []);
        lines = refl;
        askings = refl;
        sent = λ p i. i;
        full = λ full. never fit full;
      }) (λ j. refl) (λ p i. i) h.1,
    );
    stop = λ k d live M h. (wide.stop k d live M h.0, stop_any S k d live M h.1);
    message = λ k d t v from m outs M h there meant may is.
        both_walk k outs v d M (wide.message k d t v from m outs M h.0 there meant may is)
        (message_made k d t v from m outs M h there meant may is);
    act = λ k d t i M is brings first asks free h. let r = acts i d.intents t.coord in
        both_walk k r.outs (with_coord t r.part) d (asks_now i t.coord M) (wide.act k d t i M is brings first asks free h.0)
        (other_walk S k t (with_coord t r.part) r.outs d (asks_now i t.coord M)
        (acts_mute k d t M (knows (up k d t M) h.0) hd i is free)
        (act_carried k d t i M first free (plain (up k d t M) h)) (all_in t.server.kept));
    begin = λ k d t l how parent M brings first free gives none h.
        let r = begin_action l how parent (parent_of parent t.coord) t.coord in
        let N = given l (record { node = k; serial = is_serial how }) M in
        both_walk k r.outs (with_coord t r.part) d N (wide.begin k d t l how parent M brings first free gives none h.0)
        (other_walk S k t (with_coord t r.part) r.outs d N (tt, tt) (carried_later S k t M N
        (record { more = []; lines = sym (append-nil M.seen.lines); askings = refl; sent = λ p i. i; full = λ f. f }) (λ j. refl)
        (λ p i. inl i) (carried_up S k d t M h.1)) (all_in t.server.kept));
    tick = λ k d t M h. let r = again_all t.coord.doings t.coord in
        let outs = tick_outs (record { number = k; disk = d; live = Some t }) t in
        both_walk k outs (with_coord t r.part) d M (wide.tick k d t M h.0) (other_walk S k t (with_coord t r.part) outs d M
        (tick_mute k d t M (knows (up k d t M) h.0)) (carried_up S k d t M h.1) (all_in t.server.kept));
    restart = λ k d M event first h. let v = parts_in k (d.inc + 1) d in
        both_walk k (restart_outs hd k (d.inc + 1) d) v d M (wide.restart k d M event first h.0)
        (other_walk S k v v (restart_outs hd k (d.inc + 1) d) d M
        (restart_mute hd k (d.inc + 1) d) (carried_of S k d None v M h.1 tt) tt);
  }

-- at first no answer was sent, and none is kept
pub first_made : (hd : Header) (S : Saying) → IsAtFirst hd (AnswersAreMade S)
first_made hd S st formed = record {
  sent = λ p a r there is. absurd there;
  kept = λ j n t is live. subst (λ (z : Parts). AreKeptSo S (record { past = no_history st; seen = see [] (world_from hd st) }) j
      z.server.kept)
      (first_up hd st j n t is live) tt;
  asked = λ k there. absurd there;
}

pub known_wide : (hd : Header) → KeepsWith hd (IsAtStarts hd Known) (Wide Known)
known_wide hd = wide_kept hd (IsAtStarts hd Known) Known (keeps_asked hd Known (known_keep hd))

pub answers_keep : (hd : Header) (S : Saying) → Tells (Wide Known) S → KeepsAll hd (λ M. Wide Known M × AnswersAreMade S M)
answers_keep hd S tells =
    let known = known_wide hd in
    record {
      opens = λ e M first number h. (known.opens e M first number h.0, made_opens S e M first number h.1);
      closes = λ bodies M number lines h. (known.closes bodies M number lines h.0, made_closes S bodies M number lines h.1);
      steps = answers_step hd S (Wide Known) known.steps (λ M h. h) tells;
      first = λ st formed. (([], (λ p i. i), known.first st formed), first_made hd S st formed);
    }
