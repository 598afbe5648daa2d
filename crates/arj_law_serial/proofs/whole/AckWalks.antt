-- Who acknowledges is known: each handler keeps it, for the actions that were begun.
use Rattle.arj_law_parts.proofs.Words
use Words.{◌≡◌, ◌≢◌, ◌⊎◌, ◌≤◌, ◌<◌, ◌==◌, ◌∙◌, ◌&&◌, arith, ℕ, List, [], ◌∷◌, ◌++◌, map, Bool, true, false, cond, Option, Some, None}
use Words.{Contains, refl, sym, ap, subst, inl, inr, ⊎_elim, eqb-true, ⊤, is_some, nat_le, not, option_map, AllByRecursion, and_parts}
use Words.{in_from, in_to, Ask, End, Head, Header, Kind, Label, Message, Uid, asks, before_last, first_uid, is_on, uids_of, actor, last_end}
use Words.{again_all, heard, plan_of, Committing, Coord, Doing, Idle, doing_of, Abort, Commit, Did, Disk, Do, Effect, Intent, Look, Prepare}
use Words.{PutInc, PutIntent, RemoveIntent, Say, Send, Served, Work, worked, acked, acked_by, acked_left, tolds_let_go, tick_outs, Parts}
use Words.{Took, handle, holders, is_meant, query_about, with_coord, at_uid, has, put_uid, without_number, without_uid, is_told, Input}
use Words.{Node, acts, refusal_up, tolds_again, Branch, branch_of, ends_of, is_own, Post, Seen}
use Words.list
use Words.ending
use Words.kind
use Words.message
use Words.input
use Rattle.arj_law_serial.proofs.Terms
use Terms.{Action, AreBegun, act_of, paths_of, IsBusy, IsGoodCoord, IsVoting, IsTree, AllSayEnds, AreOfCommits, Decides, IsSure}
use Terms.{IsSurelyHandled, told_by, IsTrulyHandled, Reach, IsTopAction, begun_tree, path_found, doing_by, found_by, truly_handled}
use Terms.{IsGoodOf, IsUp, act_good, good_coord, it, message_good, own_of_disk, records_of_disk, tick_good, tops_of_disk, is_act, In, at}
use Terms.{posted, said, up, Up, Walks, LivesRun, PassesAll, PassesIn, KnowsFew, quiet_again, AllQuiet, home_in, is_home, node_here, Stood}
use Terms.{stood, walks_both, none_in, surely_handled, stand_acts, stand_again, well_acts, well_again, is_for_parts, AsksBegun, AreRecorded}
use Terms.{IsRecorded, IsRooted, recorded, AreSorted, IsPart, KnowsParted, KnowsParts, asks_part, IsTopOf, AreInner, WorksAreKnown, AllSeek}
use Terms.{SeeksSo, acts_seeks, again_seeks, heard_seeks, seek_both, parted_keep, works_keep, ArePastIn, IsClosedAt, live_in, IsPartAsked}
use Terms.{AcksAreKnown, AreHomed, AreListed, HasAcked, IsDemanded, IsPartOf, IsVoter, KnowsAcked, KnowsAcks, acked_in, demanded}
use Terms.{demanded_if}
use Terms.keys as sorted_keys
use Rattle.arj_law_disk_view.proofs.{running.Telling.again_telling, view.Marks.has_without}
use Rattle.arj_law_disk_view.specs.running.Records.{HaveRecords}
use Rattle.arj_law_lock_view.proofs.facts.PartSends.{seek_quiet}
use Rattle.arj_law_parts.proofs.parts.TrueSteps.{top_in}
use Rattle.arj_law_parts.specs.parts.Lives.{NamesAsked}
use Rattle.arj_law_runs.proofs.calls.CoordOuts.{quiet_acked, quiet_query}
use Rattle.arj_law_serial.proofs.past.Past.{past_of}
use Rattle.arj_law_serial.proofs.whole
use whole.AckOuts.{AreLines, Plainly, Puts, Stepped, acts_stepped, asked_again, heard_stepped}
use whole.AckServes.{PartSo, Serves, ServesSo, serves_so}
use whole.AckSteps.{AllMay, MayPost, MayWork, Others, acks_walk, here_at, known_at, records_at}
use whole.AckTells.{AllTell, IsIdle, Teller, again_so, let_go_so, open_none, queries_so, query_so, tell_both}
use whole.CoordCases.{Acks, Asks, CoordCase, Heard, OfParts, coord_case}
use Rattle.arj_law_parts.proofs.parts.Keys as keys

pub some_is : {A : Type 0} {a b : A} → Some a ≡ Some b → a ≡ b
some_is {A} {a} {b} is = let k : ◌≡◌ {A = Option A} (Some a) (Some b) = is in cc

none_some : {A P : Type 0} {o : Option A} {x : A} → o ≡ None → o ≡ Some x → P
none_some {A} {P} {o} {x} none is = let no_way : ◌≡◌ {A = Option A} None (Some x) = sym none ∙ is in absurd (cc no_way)

pub never : {A : Type 0} {b : Bool} → b ≡ true → b ≡ false → A
never a b = let no_way : true ≡ false = sym a ∙ b in absurd (cc no_way)

-- ---- messages

last_in : (es : List (Uid × End)) (e : Uid × End) → last_end es ≡ Some e → list.In e es
last_in [] e is = absurd (cc is)
last_in (f ∷ []) e is = inl (some_is is)
last_in (f ∷ g ∷ es) e is = inr (last_in (g ∷ es) e is)

-- what is to be acknowledged is told
wants_told : (b : Bool) (es : List (Uid × End)) (u : Uid) → demanded_if b es ≡ Some u → (e : End) × Contains {X = Uid × End} es (u, e)
wants_told false es u is = absurd (cc is)
wants_told true es u is = by (last_end es) refl is
  where
    by : (o : Option (Uid × End)) → last_end es ≡ o → demanded_if true es ≡ Some u → (e : End) × Contains {X = Uid × End} es (u, e)
    by None at is = let no_way : ◌≡◌ {A = Option Uid} None (Some u) = (λ i. option_map (λ (e : Uid × End). e.0) (sym at i)) ∙ is in
        absurd (cc no_way)
    by (Some e) at is =
        let same : e.0 ≡ u = some_is ((λ i. option_map (λ (e : Uid × End). e.0) (sym at i)) ∙ is) in
        (e.1, in_to (u, e.1) es (subst (λ (z : Uid × End). list.In z es) (λ i. (same i, e.1)) (last_in es e at)))

demanded_told : (m : Message) (u : Uid) → demanded m ≡ Some u → (e : End) × Contains {X = Uid × End} (told_by m) (u, e)
demanded_told (message.Told m) u is = wants_told m.ack m.ends u is
demanded_told (message.Acked m) u is = absurd (cc is)
demanded_told (message.Query m) u is = absurd (cc is)
demanded_told (message.Hello m) u is = absurd (cc is)
demanded_told (message.Bind m) u is = absurd (cc is)
demanded_told (message.Bound m) u is = absurd (cc is)
demanded_told (message.Load m) u is = absurd (cc is)
demanded_told (message.Loaded m) u is = absurd (cc is)
demanded_told (message.Activate m) u is = absurd (cc is)
demanded_told (message.Activated m) u is = absurd (cc is)
demanded_told (message.RecordMsg m) u is = absurd (cc is)
demanded_told (message.Recorded m) u is = absurd (cc is)
demanded_told (message.Invoke m) u is = absurd (cc is)
demanded_told (message.Invoked m) u is = absurd (cc is)
demanded_told (message.Vote m) u is = absurd (cc is)
demanded_told (message.Voted m) u is = absurd (cc is)
demanded_told (message.Prepare m) u is = absurd (cc is)
demanded_told (message.Prepared m) u is = absurd (cc is)
demanded_told (message.Confirm m) u is = absurd (cc is)
demanded_told (message.Confirmed m) u is = absurd (cc is)

-- ---- what a walk comes to

abbrev pub sent_after : ℕ → List Effect → List Post → List Post
sent_after k [] sent = sent
sent_after k (Send to m ∷ es) sent = sent_after k es (record { from = k; to = to; message = m } ∷ sent)
sent_after k (Say b ∷ es) sent = sent_after k es sent
sent_after k (Do w ∷ es) sent = sent_after k es sent

after_in : (k : ℕ) (es : List Effect) (sent : List Post) (p : Post) → In p sent → In p (sent_after k es sent)
after_in k [] sent p i = i
after_in k (Send to m ∷ es) sent p i = after_in k es (record { from = k; to = to; message = m } ∷ sent) p (inr i)
after_in k (Say b ∷ es) sent p i = after_in k es sent p i
after_in k (Do w ∷ es) sent p i = after_in k es sent p i

pub record Ended (P : Seen → Type 0) (k : ℕ) (v : Parts) (outs : List Effect) (M : Seen) : Type 0 where
  pub disk : Disk
  pub seen : Seen
  pub holds : P (up k disk v seen)
  pub sent : seen.sent ≡ sent_after k outs M.sent

pub ended_of : (P : Seen → Type 0) (e k : ℕ) (v : Parts) (outs : List Effect) (d : Disk) (M : Seen) → Walks P e k outs (Up P k v) d M →
    Ended P k v outs M
ended_of P e k v [] d M w = record { disk = d; seen = M; holds = w; sent = refl }
ended_of P e k v (Do z ∷ es) d M w = let r = ended_of P e k v es (worked z d) M w.1 in
    record { disk = r.disk; seen = r.seen; holds = r.holds; sent = r.sent }
ended_of P e k v (Say b ∷ es) d M w = let r = ended_of P e k v es d (said e (b ∷ []) M) w in
    record { disk = r.disk; seen = r.seen; holds = r.holds; sent = r.sent }
ended_of P e k v (Send to m ∷ es) d M w = let r = ended_of P e k v es d (said e [] (posted (record { from = k; to = to; message = m }) M))
    (w [] refl) in record { disk = r.disk; seen = r.seen; holds = r.holds; sent = r.sent }

-- ---- a coordinator, with all that was sent

-- What is known of one, of this node: it is good and sure, lists ends of inner actions, knows who is part of its commits, and whoever was
-- told to have ended isn't open there; and who votes is a top.
record Stays (begun : List Action) (k : ℕ) (sent : List Post) (c : Coord) : Type 0 where
  good : IsGoodCoord begun (paths_of begun) c
  sure : IsSure c
  node : c.tree.node ≡ k
  inner : (root : Uid) → AreInner c.tree (ends_of root c.tree)
  parts : KnowsParts sent c
  tops : (p : Post) (h : Head) (a : Ask) → In p sent → asks p.message ≡ Some (h, a) → asks_part a ≡ true → IsTopOf begun (actor h.path)
  closed : (p : Post) (u : Uid) (e : End) → In p sent → Contains {X = Uid × End} (told_by p.message) (u, e) → u.node ≡ k → (b : Branch) →
      branch_of u c.tree ≡ Some b → is_some b.ended ≡ true

stays_at : (begun : List Action) (k : ℕ) (d : Disk) (t : Parts) (M : Seen) → IsGoodOf begun (up k d t M) → ArePastIn begun (up k d t M) →
    KnowsParted begun (up k d t M) → WorksAreKnown (up k d t M) → Stays begun k M.sent t.coord
stays_at begun k d t M good past parted works = record {
  good = good_coord 0 k d t M (begun, good);
  sure = x.sure;
  node = x.node;
  inner = (let w = works.1.nodes k (record { number = k; disk = d; live = Some t }) t
      (node_here M k (record { number = k; disk = d; live = Some t })) refl in let z = w.0 in z.ends.lists);
  parts = (parted.coords k (record { number = k; disk = d; live = Some t }) t
      (node_here M k (record { number = k; disk = d; live = Some t })) refl).0;
  tops = parted.tops;
  closed = λ p u e there told home b found. subst (IsClosedAt u) (ap (λ j. live_in ((up k d t M).nodes j)) home
      ∙ ap live_in (node_here M k (record { number = k; disk = d; live = Some t }))) ((past.posts p there).told u e told).1 b found;
}
  where
    x : IsUp begun M.sent M.labels k d.inc t
    x = it 0 k d t M (begun, good)

-- all that is known beside
abbrev Known : List Action → Seen → Type 0
Known begun M = IsGoodOf begun M × (ArePastIn begun M × (KnowsParted begun M × WorksAreKnown M))

known_walk : (begun : List Action) (e k : ℕ) (v : Parts) (outs : List Effect) (d : Disk) (M : Seen) →
    Walks (IsGoodOf begun) e k outs (Up (IsGoodOf begun) k v) d M → Walks (ArePastIn begun) e k outs (Up (ArePastIn begun) k v) d M →
    Walks (KnowsParted begun) e k outs (Up (KnowsParted begun) k v) d M
    → Walks WorksAreKnown e k outs (Up WorksAreKnown k v) d M → Stays begun k (sent_after k outs M.sent) v.coord
known_walk begun e k v outs d M a b c w =
    let two = walks_both (KnowsParted begun) WorksAreKnown e k outs (Up (KnowsParted begun) k v) (Up WorksAreKnown k v) d M c w in
    let three = walks_both (ArePastIn begun) (λ N. KnowsParted begun N × WorksAreKnown N) e k outs (Up (ArePastIn begun) k v)
    (Up (λ N. KnowsParted begun N × WorksAreKnown N) k v) d M b two in
    let four = walks_both (IsGoodOf begun) (λ N. ArePastIn begun N × (KnowsParted begun N × WorksAreKnown N)) e k outs
    (Up (IsGoodOf begun) k v) (Up (λ N. ArePastIn begun N × (KnowsParted begun N × WorksAreKnown N)) k v) d M a three in
    let r = ended_of (Known begun) e k v outs d M four in
    subst (λ sent. Stays begun k sent v.coord) r.sent (stays_at begun k r.disk v r.seen r.holds.0 r.holds.1.0 r.holds.1.1.0 r.holds.1.1.1)

pub all_at : {A : Type 0} (P : A → Type 0) (xs : List A) (x : A) → AllByRecursion P xs → list.In x xs → P x
all_at P [] x all none = absurd none
all_at P (y ∷ ys) x all (inl same) = subst P same all.0
all_at P (y ∷ ys) x all (inr i) = all_at P ys x all.1 i

module _ (few : Bool) (begun : List Action) (all : AreBegun begun) (homes : AreHomed begun) (k : ℕ) where
  -- a part is of its action's node
  pub part_home : (u w : Uid) → IsPartOf begun u w → w.node ≡ k → u.node ≡ k
  part_home u w (inl same) home = ap (λ (z : Uid). z.node) same ∙ home
  part_home u w (inr a) home = ap (λ (z : Uid). z.node) (sym a.2) ∙ sym (all_at (λ (z : Action). (first_uid (uids_of z.path)).node
      ≡ (act_of z).node) begun a.0 homes (in_from a.0 begun a.1)) ∙ ap (λ (z : Uid). z.node) a.4 ∙ home

  -- ---- whoever is open was told no end of

  module _ (sent : List Post) (c : Coord) (h : Stays begun k sent c) where
    home_of : (u : Uid) (b : Branch) → branch_of u c.tree ≡ Some b → u.node ≡ k
    home_of u b is =
        eqb-true u.node c.tree.node (and_parts (u.node == c.tree.node) (u.inc == c.tree.inc) (found_by u c.tree b is).0).0 ∙ h.node

    open_untold : (u : Uid) (b : Branch) → branch_of u c.tree ≡ Some b → is_some b.ended ≡ false → (p : Post) (e : End) → In p sent →
        Contains {X = Uid × End} (told_by p.message) (u, e) → ⊥
    open_untold u b found opened p e there told = never (h.closed p u e there told (home_of u b found) b found) opened

    part_untold : (u : Uid) (b : Branch) → branch_of u c.tree ≡ Some b → is_some b.ended ≡ false → (p : Post) (w : Uid) → In p sent →
        Contains {X = Uid × End} (told_by p.message) (w, ending.Abort) → IsPartOf begun u w → ⊥
    part_untold u b found opened p w there told (inl same) = open_untold u b found opened p ending.Abort there
        (subst (λ z. Contains {X = Uid × End} (told_by p.message) (z, ending.Abort)) (sym same) told)
    part_untold u b found opened p w there told (inr a) = never (h.good.tree.closed u (act_of s.0) b q.0 found above q.1
        (h.closed p (act_of s.0) ending.Abort there (subst (λ z. Contains {X = Uid × End} (told_by p.message) (z, ending.Abort))
        (sym a.4 ∙ ap first_uid s.3) told) (home_of (act_of s.0) q.0 q.1) q.0 q.1)) opened
      where
        s : Stood begun a.0 kind.Constituent
        s = subst (Stood begun a.0) a.3 (stood begun all a.0 a.1)

        above : before_last (paths_of begun u) ≡ Some (act_of s.0)
        above = ap before_last (ap (paths_of begun) (sym a.2) ∙ path_found begun all a.0 a.1 ∙ s.3)

        q : (z : Branch) × (branch_of (act_of s.0) c.tree ≡ Some z)
        q = h.good.tree.lists.parents u (act_of s.0) b found above

  -- ---- votes

  -- Who asks for parts in its commit: a top of this node without a record, of which, and of whose serializing action, no end was told.
  pub record MayVote (intents : List (Uid × Intent)) (sent : List Post) (u : Uid) : Type 0 where
    home : u.node ≡ k
    unrecorded : (j : Intent) → at_uid u intents ≡ Some j → ⊥
    untold : (p : Post) (e : End) → In p sent → Contains {X = Uid × End} (told_by p.message) (u, e) → ⊥
    unaborted : (p : Post) (w : Uid) → In p sent → Contains {X = Uid × End} (told_by p.message) (w, ending.Abort) → IsPartOf begun u w → ⊥

  abbrev pub VoteSo : List (Uid × Intent) → List Post → Effect → Type 0
  VoteSo intents sent (Send to m) = (h : Head) (a : Ask) → asks m ≡ Some (h, a) → asks_part a ≡ true → MayVote intents sent (actor h.path)
  VoteSo intents sent (Say b) = ⊤
  VoteSo intents sent (Do w) = ⊤

  abbrev AllVote : List (Uid × Intent) → List Post → List Effect → Type 0
  AllVote intents sent outs = AllByRecursion (VoteSo intents sent) outs

  votes_of : (intents : List (Uid × Intent)) (sent : List Post) (c : Coord) → Stays begun k sent c →
      ((u : Uid) (b : Branch) → branch_of u c.tree ≡ Some b → is_some b.ended ≡ false → (j : Intent) → at_uid u intents ≡ Some j → ⊥) →
      (outs : List Effect) → AllSeek c outs → AllVote intents sent outs
  votes_of intents sent c h none [] seek = tt
  votes_of intents sent c h none (Say b ∷ es) seek = (tt, votes_of intents sent c h none es seek.1)
  votes_of intents sent c h none (Do w ∷ es) seek = (tt, votes_of intents sent c h none es seek.1)
  votes_of intents sent c h none (Send to m ∷ es) seek = (one, votes_of intents sent c h none es seek.1)
    where
      one : (j : Head) (a : Ask) → asks m ≡ Some (j, a) → asks_part a ≡ true → MayVote intents sent (actor j.path)
      one j a asking part =
          let q = seek.0 j a asking part in
          let v : IsVoting c.tree (actor j.path) (plan_of q.machine) = subst (IsBusy c.tree (actor j.path)) q.now
          (h.good.busy (actor j.path) q.doing q.works) in
          let b = v.asking.branch in
          record {
            home = home_of sent c h (actor j.path) b v.asking.found;
            unrecorded = none (actor j.path) b v.asking.found v.asking.opened;
            untold = open_untold sent c h (actor j.path) b v.asking.found v.asking.opened;
            unaborted = part_untold sent c h (actor j.path) b v.asking.found v.asking.opened;
          }

  pub votes_quiet : (intents : List (Uid × Intent)) (sent : List Post) (outs : List Effect) → AllQuiet outs → AllVote intents sent outs
  votes_quiet intents sent [] q = tt
  votes_quiet intents sent (Say b ∷ es) q = (tt, votes_quiet intents sent es q.1)
  votes_quiet intents sent (Do w ∷ es) q = (tt, votes_quiet intents sent es q.1)
  votes_quiet intents sent (Send to m ∷ es) q = ((λ h a asking part. none_some q.0 asking), votes_quiet intents sent es q.1)

  -- ---- effects that leave the records

  idle_may : (v : Parts) (w : Work) (sent : List Post) (intents : List (Uid × Intent)) → IsIdle w →
      MayWork few begun k v w sent intents × (recorded (Do w) intents ≡ intents)
  idle_may v Look sent intents idle = (tt, refl)
  idle_may v (PutInc i) sent intents idle = (tt, refl)
  idle_may v (Prepare r u states) sent intents idle = (tt, refl)
  idle_may v (Commit r u) sent intents idle = (tt, refl)
  idle_may v (Abort r u) sent intents idle = (tt, refl)
  idle_may v (PutIntent u i) sent intents idle = absurd idle
  idle_may v (RemoveIntent u) sent intents idle = absurd idle

  module _ (v : Parts) (found : ℕ → Option Node) (intents : List (Uid × Intent)) where
    pub tell_may : (S : List Post) →
        ((p : Post) (h : Head) (a : Ask) → In p S → asks p.message ≡ Some (h, a) → asks_part a ≡ true → IsTopOf begun (actor h.path))
        → (outs : List Effect) (sent : List Post) → sent_after k outs sent ≡ S → AllTell begun all k intents outs →
        AllVote intents S outs → AllMay few begun k v found outs sent intents
    tell_may S tops [] sent is tells votes = tt
    tell_may S tops (Say b ∷ es) sent is tells votes = tell_may S tops es sent is tells.1 votes.1
    tell_may S tops (Do w ∷ es) sent is tells votes = let m = idle_may v w sent intents tells.0 in
        (m.0, subst (AllMay few begun k v found es sent) (sym m.1) (tell_may S tops es sent is tells.1 votes.1))
    tell_may S tops (Send to m ∷ es) sent is tells votes = (
      post,
      (λ u acks. none_some (let t = tells.0 in t.acks) acks),
      tell_may S tops es (record { from = k; to = to; message = m } ∷ sent) is tells.1 votes.1,
    )
      where
        older : (p : Post) → In p sent → In p S
        older p i = subst (In p) is (after_in k (Send to m ∷ es) sent p i)

        post : MayPost begun (records_at k intents found) sent (record { from = k; to = to; message = m })
        post = record {
          part = λ h a asking part. let z = votes.0 h a asking part in (
            here_at k intents found (actor h.path) z.home ∙ nothing (at_uid (actor h.path) intents) refl z.unrecorded,
            (λ d. let r = demanded_told d.post.message (actor h.path) d.demands in z.untold d.post r.0 (older d.post d.posted) r.1),
            λ q w there told part. z.unaborted q w (older q there) told part,
          );
          demand = λ u wants. let r = tells.0.demands u wants in (r.0, here_at k intents found u r.2 ∙ r.1);
          abort = λ w u i told part had at on. tells.0.aborts w told u i part
              (subst (IsTopOf begun) had.by (tops had.post had.head had.ask (older had.post had.there) had.is had.part))
              (sym (here_at k intents found u (part_home u w part (tells.0.home w ending.Abort told))) ∙ at) on;
          ack = λ u acks. none_some tells.0.acks acks;
        }
          where
            nothing : (o : Option Intent) → o ≡ o → ((j : Intent) → o ≡ Some j → ⊥) → o ≡ None
            nothing None same none = refl
            nothing (Some j) same none = absurd (none j refl)

    -- what naming, a server and a store do
    parts_may : (m : Message) (outs : List Effect) (sent : List Post) → ((u : Uid) → demanded m ≡ Some u → IsDemanded sent u) →
        AllByRecursion (PartSo m v.server) outs → AllMay few begun k v found outs sent intents
    parts_may m [] sent told so = tt
    parts_may m (Say b ∷ es) sent told so = parts_may m es sent told so.1
    parts_may m (Do w ∷ es) sent told so = let z = idle_may v w sent intents so.0 in
        (z.0, subst (AllMay few begun k v found es sent) (sym z.1) (parts_may m es sent told so.1))
    parts_may m (Send to n ∷ es) sent told so = (
      record {
        part = λ h a asking part. none_some so.0.0.asks_none asking;
        demand = λ u wants. none_some so.0.0.wants wants;
        abort = λ w u i here part had at on.
            none_in w ending.Abort (subst (λ es. Contains {X = Uid × End} es (w, ending.Abort)) so.0.0.told here);
        ack = λ u acks. told u (so.0.1 u acks).0;
      },
      (λ u acks. (so.0.1 u acks).1),
      parts_may m es (record { from = k; to = to; message = n } ∷ sent) (λ u wants. let d = told u wants in
          record { post = d.post; posted = inr d.posted; demands = d.demands }) so.1,
    )

  -- ---- a coordinator's step

  all_split : (P : Effect → Type 0) (xs ys : List Effect) → AllByRecursion P (xs ++ ys) → AllByRecursion P ys
  all_split P [] ys both = both
  all_split P (x ∷ xs) ys both = all_split P xs ys both.1

  lines_sent : (lines rest : List Effect) (sent : List Post) → AreLines lines → sent_after k (lines ++ rest) sent ≡ sent_after k rest sent
  lines_sent [] rest sent say = refl
  lines_sent (Say b ∷ es) rest sent say = lines_sent es rest sent say.1
  lines_sent (Do w ∷ es) rest sent say = absurd say.0
  lines_sent (Send to m ∷ es) rest sent say = absurd say.0

  lines_may : (v : Parts) (found : ℕ → Option Node) (lines rest : List Effect) (sent : List Post) (intents : List (Uid × Intent)) →
      AreLines lines → AllMay few begun k v found rest sent intents → AllMay few begun k v found (lines ++ rest) sent intents
  lines_may v found [] rest sent intents say may = may
  lines_may v found (Say b ∷ es) rest sent intents say may = lines_may v found es rest sent intents say.1 may
  lines_may v found (Do w ∷ es) rest sent intents say may = absurd say.0
  lines_may v found (Send to m ∷ es) rest sent intents say may = absurd say.0

  -- who isn't awaited any more acknowledged
  abbrev Awaits : List Post → List (Uid × Intent) → List (Uid × Intent) → Type 0
  Awaits sent intents telling = (u : Uid) (j i : Intent) (m : ℕ) → at_uid u telling ≡ Some j → at_uid u intents ≡ Some i →
      has i.nodes m ≡ true → has j.nodes m ≡ false → HasAcked sent u m

  module _ (tree : IsTree (paths_of begun)) (d : Disk) (t v : Parts) (M : Seen) (outs : List Effect) (was : Stays begun k M.sent t.coord)
      (now : Stays begun k (sent_after k outs M.sent) v.coord) (commits : AreOfCommits d.intents t.coord.tree)
      (later : AreOfCommits d.intents v.coord.tree)
      (rooted : (u : Uid) (i : Intent) → at_uid u d.intents ≡ Some i →
      IsRooted begun u i) (old : Awaits M.sent d.intents t.coord.telling) where
    teller_was : Teller begun all k d.intents t.coord
    teller_was = record { good = was.good; sure = was.sure; node = was.node; inner = was.inner; records = commits }

    teller_now : Teller begun all k d.intents v.coord
    teller_now = record { good = now.good; sure = now.sure; node = now.node; inner = now.inner; records = later }

    step_may : Stepped begun all tree k d.intents rooted t.coord v.coord outs → AllSeek v.coord outs →
        Awaits M.sent d.intents v.coord.telling × AllMay few begun k v M.nodes outs M.sent d.intents
    step_may (Plainly same fine) seek = (
      subst (Awaits M.sent d.intents) (sym same) old,
      tell_may v M.nodes d.intents (sent_after k outs M.sent) now.tops outs M.sent refl fine (votes_of d.intents (sent_after k outs M.sent)
          v.coord now (λ u b found opened j at. open_none begun all k d.intents v.coord teller_now u b j found opened at) outs seek),
    )
    step_may (Puts lines u i rest is say fine same put) seek = (
      awaits,
      subst (λ es. AllMay few begun k v M.nodes es M.sent d.intents) (sym is)
          (lines_may v M.nodes lines (Do (PutIntent u i) ∷ rest) M.sent d.intents say (may_put, after)),
    )
      where
        S : List Post
        S = sent_after k outs M.sent

        after_is : sent_after k rest M.sent ≡ sent_after k outs M.sent
        after_is = sym (lines_sent lines (Do (PutIntent u i) ∷ rest) M.sent say) ∙ ap (λ es. sent_after k es M.sent) (sym is)

        older : (p : Post) → In p M.sent → In p (sent_after k outs M.sent)
        older p there = after_in k outs M.sent p there

        home : u.node ≡ k
        home = home_of M.sent t.coord was u put.branch put.found

        unrecorded : (j : Intent) → at_uid u d.intents ≡ Some j → ⊥
        unrecorded j at = open_none begun all k d.intents t.coord teller_was u put.branch j put.found put.opened at

        awaits : Awaits M.sent d.intents v.coord.telling
        awaits w j z m telling at on isnt = ⊎_elim (λ here. absurd (unrecorded z (ap (λ y. at_uid y d.intents) (sym here.0) ∙ at)))
            (λ other. old w j z m other.1 at on isnt) (sorted_keys.put_cases w u i j t.coord.telling (ap (at_uid w) (sym same) ∙ telling))

        lists : (j : ℕ) → IsPartAsked M.sent u j → has i.nodes j ≡ true
        lists j x = by (now.parts x.post x.head x.ask (older x.post x.there) x.is x.part
            (subst (λ w. is_own w v.coord.tree ≡ true) (sym x.by) (doing_by u v.coord put.doing put.works).0))
          where
            by : IsPart v.coord (actor x.head.path) x.post.to x.ask → has i.nodes j ≡ true
            by (inl s) =
                let idle : Committing s.machine ≡ Idle = sym s.now
                ∙ ap (λ (q : Doing). q.now) (some_is (sym s.works ∙ ap (λ w. doing_of w v.coord) x.by ∙ put.works)) ∙ put.idle in
                absurd (cc idle)
            by (inr h) =
                let same_doing : h.doing ≡ put.doing = some_is (sym h.works ∙ ap (λ w. doing_of w v.coord) x.by ∙ put.works) in
                let same_branch = some_is (sym h.found ∙ ap (λ w. branch_of w v.coord.tree) x.by ∙ put.ended.1) in
                ap (has i.nodes) (sym x.to_it) ∙ ap (λ ns. has ns x.post.to) (sym (ap (λ (q : Doing). q.took) same_doing ∙ put.took))
                ∙ h.took (ap (λ (q : Branch). q.ended) same_branch ∙ put.ended.2)

        may_put : MayWork few begun k v (PutIntent u i) M.sent d.intents
        may_put = record {
          home = home;
          lists = lists;
          none = λ q w there told part. part_untold M.sent t.coord was u put.branch put.found put.opened q w there told part;
          awaits = λ j telling.
              ap (λ (z : Intent). z.nodes) (some_is (sym telling ∙ ap (at_uid u) same ∙ sorted_keys.put_same u i t.coord.telling));
        }

        after : AllMay few begun k v M.nodes rest M.sent (put_uid u i d.intents)
        after = tell_may v M.nodes (put_uid u i d.intents) (sent_after k outs M.sent) now.tops rest M.sent after_is fine
            (votes_of (put_uid u i d.intents) (sent_after k outs M.sent) v.coord now none rest (all_split (SeeksSo v.coord) (Do (PutIntent u
            i) ∷ []) rest (all_split (SeeksSo v.coord) lines (Do (PutIntent u i) ∷ rest) (subst (AllSeek v.coord) is seek))))
          where
            none : (w : Uid) (b : Branch) → branch_of w v.coord.tree ≡ Some b → is_some b.ended ≡ false → (j : Intent) →
                at_uid w (put_uid u i d.intents) ≡ Some j → ⊥
            none w b found opened j at = ⊎_elim
                (λ here. never (ap is_some (ap (λ (q : Branch). q.ended)
                (some_is (sym found ∙ ap (λ z. branch_of z v.coord.tree) here.0 ∙ put.ended.1)) ∙ put.ended.2)) opened)
                (λ other. open_none begun all k d.intents v.coord teller_now w b j found opened other.1)
                (sorted_keys.put_cases w u i j d.intents at)

  -- ---- an acknowledgement

  without_none : (n m : ℕ) (ns : List ℕ) → has ns m ≡ true → has (without_number n ns) m ≡ false → m ≡ n
  without_none n m ns on isnt = by (m == n) refl
    where
      by : (b : Bool) → (m == n) ≡ b → m ≡ n
      by true is = eqb-true m n is
      by false is = never (has_without n m ns ∙ (λ i. on i && not (is i))) isnt

  module _ (d : Disk) (t : Parts) (M : Seen) (was : Stays begun k M.sent t.coord) (commits : AreOfCommits d.intents t.coord.tree)
      (rec : IsRecorded begun (record { number = k; disk = d; live = Some t }))
      (l : AreListed begun (records_at k d.intents M.nodes) M.sent) (old : Awaits M.sent d.intents t.coord.telling)
      (tops : (u : Uid) (j : Intent) → at_uid u d.intents ≡ Some j → IsTopAction begun u) (claims : (u : Uid) (j : Intent) →
      at_uid u t.coord.telling ≡ Some j → u.node ≡ k) (from : ℕ) (u : Uid) (acks : HasAcked M.sent u from) where
    acked_may : (v : Parts) (outs : List Effect) → (let q = acked from u d.intents t.coord in q.part) ≡ v.coord →
        (let q = acked from u d.intents t.coord in q.outs) ≡ outs → ((p : Post) (h : Head) (a : Ask) → In p (sent_after k outs M.sent) →
        asks p.message ≡ Some (h, a) → asks_part a ≡ true → IsTopOf begun (actor h.path))
        → AllQuiet outs → Awaits M.sent d.intents v.coord.telling × AllMay few begun k v M.nodes outs M.sent d.intents
    acked_may v outs part_is outs_is voters quiet = by (at_uid u t.coord.telling) refl part_is outs_is
      where
        held : HaveRecords d.intents t.coord.telling × AreSorted t.coord.telling
        held = rec.live t refl

        same : t.coord ≡ v.coord → [] ≡ outs → Awaits M.sent d.intents v.coord.telling × AllMay few begun k v M.nodes outs M.sent d.intents
        same part none = (
          subst (λ (c : Coord). Awaits M.sent d.intents c.telling) part old,
          subst (λ es. AllMay few begun k v M.nodes es M.sent d.intents) none tt,
        )

        left : (j : Intent) → at_uid u t.coord.telling ≡ Some j → has j.nodes from ≡ true → (ns : List ℕ) → without_number from j.nodes
            ≡ ns → (let q = acked_left u j d.intents t.coord ns in q.part) ≡ v.coord → (let q = acked_left u j d.intents t.coord ns in
            q.outs) ≡ outs → Awaits M.sent d.intents v.coord.telling × AllMay few begun k v M.nodes outs M.sent d.intents
        left j at on (n ∷ ns) left_is part none = (
          subst (λ (c : Coord). Awaits M.sent d.intents c.telling) part awaits,
          subst (λ es. AllMay few begun k v M.nodes es M.sent d.intents) none tt,
        )
          where
            awaits : Awaits M.sent d.intents (put_uid u (record j { nodes = n ∷ ns }) t.coord.telling)
            awaits w y z m telling has_it lists isnt = ⊎_elim here (λ other. old w y z m other.1 has_it lists isnt)
                (sorted_keys.put_cases w u (record j { nodes = n ∷ ns }) y t.coord.telling telling)
              where
                here : (w ≡ u) × (record j { nodes = n ∷ ns } ≡ y) → HasAcked M.sent w m
                here (is, its) = by_had (has j.nodes m) refl
                  where
                    out_of : has (without_number from j.nodes) m ≡ false
                    out_of = ap (λ ms. has ms m) left_is ∙ ap (λ (x : Intent). has x.nodes m) its ∙ isnt

                    by_had : (b : Bool) → has j.nodes m ≡ b → HasAcked M.sent w m
                    by_had true had = let it_is = without_none from m j.nodes had out_of in
                        subst (λ x. HasAcked M.sent x m) (sym is) (subst (HasAcked M.sent u) (sym it_is) acks)
                    by_had false had = old w j z m (ap (λ x. at_uid x t.coord.telling) is ∙ at) has_it lists had
        left j at on [] left_is part none = (
          subst (λ (c : Coord). Awaits M.sent d.intents c.telling) part (λ w y z m telling has_it lists isnt.
              old w y z m (sorted_keys.without_cases w u y t.coord.telling held.1 telling).1 has_it lists isnt),
          subst (λ es. AllMay few begun k v M.nodes es M.sent d.intents) none (
            may_remove,
            tell_may v M.nodes (without_uid u d.intents) (sent_after k outs M.sent) voters
                (tolds_let_go u (without_uid u d.intents) t.coord (at_uid u d.intents)) M.sent (ap (λ es. sent_after k es M.sent) none)
                (go (at_uid u d.intents) refl) (votes_quiet (without_uid u d.intents) (sent_after k outs M.sent)
                (tolds_let_go u (without_uid u d.intents) t.coord (at_uid u d.intents)) (subst AllQuiet (sym none) quiet).1),
          ),
        )
          where
            record_is : (i : Intent) × (at_uid u d.intents ≡ Some i)
            record_is = held.0.told u j at

            home : u.node ≡ k
            home = claims u j at

            may_remove : MayWork few begun k v (RemoveIntent u) M.sent d.intents
            may_remove = record { home = home; sorted = rec.disk.sorted; each = each }
              where
                each : (m : ℕ) → IsPartAsked M.sent u m → HasAcked M.sent u m
                each m x = by_had (has j.nodes m) refl
                  where
                    lists : has record_is.0.nodes m ≡ true
                    lists = l.listed u record_is.0 m (here_at k d.intents M.nodes u home ∙ record_is.1) x

                    by_had : (b : Bool) → has j.nodes m ≡ b → HasAcked M.sent u m
                    by_had true had = subst (HasAcked M.sent u) (sym (without_none from m j.nodes had (ap (λ ms. has ms m) left_is))) acks
                    by_had false had = old u j record_is.0 m at record_is.1 lists had

            rooted : (w : Uid) (i : Intent) → at_uid w (without_uid u d.intents) ≡ Some i → IsRooted begun w i
            rooted w i is = rec.disk.each w i (sorted_keys.without_cases w u i d.intents rec.disk.sorted is).1

            go : (o : Option Intent) → at_uid u d.intents ≡ o →
                AllTell begun all k (without_uid u d.intents) (tolds_let_go u (without_uid u d.intents) t.coord o)
            go None is = tt
            go (Some i) is =
                let_go_so begun all k (without_uid u d.intents) rooted t.coord was.node u i (rec.disk.each u i is) (tops u i is)

        by : (o : Option Intent) → at_uid u t.coord.telling ≡ o → (let q = acked_by from u d.intents t.coord o in q.part) ≡ v.coord →
            (let q = acked_by from u d.intents t.coord o in q.outs) ≡ outs →
            Awaits M.sent d.intents v.coord.telling × AllMay few begun k v M.nodes outs M.sent d.intents
        by None is part none = same part none
        by (Some j) is part none = one (has j.nodes from) refl part none
          where
            one : (b : Bool) → has j.nodes from ≡ b → (let q = cond {A = Served Coord (Unit {0})} b (acked_left u j d.intents t.coord
                (without_number from j.nodes)) (record { part = t.coord; outs = []; reply = None }) in q.part) ≡ v.coord →
                (let q = cond {A = Served Coord (Unit {0})} b (acked_left u j d.intents t.coord (without_number from j.nodes))
                (record { part = t.coord; outs = []; reply = None }) in q.outs) ≡ outs
                → Awaits M.sent d.intents v.coord.telling × AllMay few begun k v M.nodes outs M.sent d.intents
            one true on part none = left j is on (without_number from j.nodes) refl part none
            one false isnt part none = same part none

-- ---- incarnations

-- no node is in an incarnation before one that a Vote names
abbrev not_before : Option Node → ℕ → Bool
not_before None i = true
not_before (Some n) i = nat_le i n.disk.inc

pub voter_low : (M : Seen) → KnowsFew M → (u : Uid) (k i : ℕ) (n : Node) → M.nodes k ≡ Some n → IsVoter M.sent u k i → i ≤ n.disk.inc
voter_low M few u k i n is v = low (sym (ap (λ o. not_before o i) (ap M.nodes v.to ∙ is)) ∙ named.2)
  where
    low : {a b : ℕ} → nat_le a b ≡ true → a ≤ b
    low {a} {b} at = grind (arith, at)

    up_to : (a b : ℕ) → a ≤ b → nat_le a b ≡ true
    up_to a b at = grind (arith, at)

    reach : Reach
    reach j x m h = not_before (M.nodes j) h

    lives : LivesRun M
    lives = few.1.0

    passes : PassesAll reach M
    passes = record {
      zero = λ j x m. zero (M.nodes j);
      nodes = λ j m at.
          record { past = λ x y h less. ap (λ o. not_before o h) at ∙ up_to h m.disk.inc (omega (arith, less)); here = here j m at m.live };
    }
      where
        zero : (o : Option Node) → not_before o 0 ≡ true
        zero None = refl
        zero (Some m) = up_to 0 m.disk.inc (omega arith)

        here : (j : ℕ) (m : Node) → M.nodes j ≡ Some m → (o : Option Parts) → PassesIn reach j m.disk.inc o
        here j m at None = λ x y. ap (λ o. not_before o m.disk.inc) at ∙ up_to m.disk.inc m.disk.inc (omega arith)
        here j m at (Some t) = λ x y c there under. ap (λ o. not_before o m.disk.inc) at ∙ up_to m.disk.inc m.disk.inc (omega arith)

    named : (z : ℕ) × (m : ℕ) × (not_before (M.nodes v.post.to) i ≡ true)
    named =
        let l = lives.1.lived (home_in lives.0) reach (is_home lives.0 lives.1.apart) passes in
        let p = l.sent v.post v.posted in
        subst (NamesAsked (home_in lives.0) reach v.post.to) v.asking p.asking

-- ---- each handler

abbrev pub AcksNeed : Bool → List Action → Seen → Type 0
AcksNeed few begun M = (few ≡ true → KnowsFew M) × (ArePastIn begun M × (AreRecorded begun M × (KnowsParted begun M × WorksAreKnown M)))

module _ (hd : Header) (few : Bool) (begun : List Action) (e k : ℕ) (d : Disk) (t : Parts) (M : Seen)
    (more : AcksNeed few begun (up k d t M)) (good : IsGoodOf begun (up k d t M)) (all : AcksAreKnown few begun (up k d t M)) where
  abbrev past : ArePastIn begun (up k d t M)
  past = more.1.0

  abbrev parted : KnowsParted begun (up k d t M)
  parted = more.1.1.1.0

  abbrev working : WorksAreKnown (up k d t M)
  working = more.1.1.1.1

  rec : IsRecorded begun (record { number = k; disk = d; live = Some t })
  rec = more.1.1.0 k (record { number = k; disk = d; live = Some t }) (node_here M k (record { number = k; disk = d; live = Some t }))

  tree : IsTree (paths_of begun)
  tree = begun_tree begun good.begun

  was : Stays begun k M.sent t.coord
  was = stays_at begun k d t M good past parted working

  x : IsUp begun M.sent M.labels k d.inc t
  x = it 0 k d t M (begun, good)

  commits : AreOfCommits d.intents t.coord.tree
  commits = records_of_disk 0 k d t M (begun, good)

  before : AreListed begun (records_at k d.intents M.nodes) M.sent × Others few begun k t M
      × KnowsAcks few M.sent k (record { number = k; disk = d; live = Some t })
  before = known_at few begun k t d (Some t) M all

  mine : KnowsAcked few M.sent k d.intents t
  mine = before.2 t refl

  stays_in : (v : Parts) (outs : List Effect) → Awaits few begun good.begun all.homes k M.sent d.intents v.coord.telling →
      KnowsAcked few M.sent k d.intents v → AllMay few begun k v M.nodes outs M.sent d.intents →
      Walks (AcksAreKnown few begun) e k outs (Up (AcksAreKnown few begun) k v) d M
  stays_in v outs awaits knows may = acks_walk few begun k v e outs d M all.homes (before.0, knows) before.1 may

  -- with another coordinator
  with_it : (c : Coord) → Awaits few begun good.begun all.homes k M.sent d.intents c.telling →
      KnowsAcked few M.sent k d.intents (with_coord t c)
  with_it c awaits = record { voted = mine.voted; acked = mine.acked; awaited = awaits }

  pub message_acks : (v : Parts) (from : ℕ) (m : Message) (outs : List Effect) → In (record { from = from; to = k; message = m }) M.sent →
      is_meant t m ≡ true → handle k d t from m ≡ Took v outs →
      Walks (AcksAreKnown few begun) e k outs (Up (AcksAreKnown few begun) k v) d M
  message_acks v from m outs there meant is = let z = by (coord_case k d t v from m outs is) in stays_in v outs z.0 (knows z.0) z.1
    where
      p : Post
      p = record { from = from; to = k; message = m }

      truly : IsTrulyHandled k t (Took v outs)
      truly = subst (IsTrulyHandled k t) is (truly_handled k t begun (paths_of begun) tree was.good d (own_of_disk 0 k d t M (begun, good))
          from m (tops_of_disk 0 k d t M (begun, good)))

      surely : IsSure v.coord × Decides t.coord.tree v.coord.tree × AllSayEnds v.coord.tree outs
      surely = subst (IsSurelyHandled t) is (surely_handled k t begun (paths_of begun) tree was.good x.sure d commits from m)

      later : AreOfCommits d.intents v.coord.tree
      later u i c own = surely.1 u ending.Commit (commits u i c (sym (truly.0.own u) ∙ own))

      now : Stays begun k (sent_after k outs M.sent) v.coord
      now = known_walk begun e k v outs d M (message_good e k d t M (begun, good) v from m outs there is)
          ((past_of hd).message begun e k d t v from m outs M tt good past there meant is)
          ((parted_keep hd).message begun e k d t v from m outs M tt good parted there meant is)
          ((works_keep hd).message e k d t v from m outs M working there meant is)

      serves : Serves m t.server v.server × (is_for_parts m ≡ true → AllByRecursion (PartSo m v.server) outs)
      serves = subst (ServesSo k d t from m) is (serves_so k d t from m)

      knows : Awaits few begun good.begun all.homes k M.sent d.intents v.coord.telling → KnowsAcked few M.sent k d.intents v
      knows awaits = record { voted = voted; acked = acked_so; awaited = awaits }
        where
          inc : t.server.inc ≡ v.server.inc
          inc = sym truly.1

          voted : (u : Uid) → is_on v.server.voted u ≡ true → IsVoter M.sent u k v.server.inc
          voted u on = subst (IsVoter M.sent u k) inc (⊎_elim (λ old. mine.voted u old) (λ q.
              record { post = p; posted = there; to = refl; head = q.head; ties = q.ties; ends = q.ends; asking = q.asking; top = q.top })
              (serves.0.voted u on))

          acked_so : few ≡ true → (u : Uid) → HasAcked M.sent u k →
              (is_told u v.server ≡ true) ⊎ ((i : ℕ) → IsVoter M.sent u k i → i < v.server.inc)
          acked_so counted u a =
              ⊎_elim (λ told. inl (serves.0.told u told)) (λ late. inr (λ i q. subst (λ n. i < n) inc (late i q))) (mine.acked counted u a)

      teller : Teller begun good.begun k d.intents v.coord
      teller = record { good = now.good; sure = now.sure; node = now.node; inner = now.inner; records = later }

      by : CoordCase d t from m v outs →
          Awaits few begun good.begun all.homes k M.sent d.intents v.coord.telling × AllMay few begun k v M.nodes outs M.sent d.intents
      by (OfParts fp same plain sent_to) = (
        subst (λ (c : Coord). Awaits few begun good.begun all.homes k M.sent d.intents c.telling) (sym same) mine.awaited,
        parts_may few begun good.begun all.homes k v M.nodes d.intents m outs M.sent
            (λ u wants. record { post = p; posted = there; demands = wants }) (serves.1 fp),
      )
      by (Asks u which same outs_are) = (
        subst (λ (c : Coord). Awaits few begun good.begun all.homes k M.sent d.intents c.telling) (sym same) mine.awaited,
        tell_may few begun good.begun all.homes k v M.nodes d.intents (sent_after k outs M.sent) now.tops outs M.sent refl
            (subst (AllTell begun good.begun k d.intents) outs_are
            (query_so begun good.begun k d.intents rec.disk.each from u t.coord (home (past.posts p there).asks)))
            (votes_quiet few begun good.begun all.homes k d.intents (sent_after k outs M.sent) outs
            (subst AllQuiet outs_are (quiet_query from u d.intents t.coord))),
      )
        where
          home : AsksBegun begun k m → u.node ≡ k
          home asks_it = let a = subst (λ (z : Message). AsksBegun begun k z) which asks_it in sym a.0
      by (Heard a r of part outs_are) =
          step_may few begun good.begun all.homes k tree d t v M outs was now commits later rec.disk.each mine.awaited
          (subst (λ es. Stepped begun good.begun tree k d.intents rec.disk.each t.coord v.coord es) outs_are
          (subst (λ c. Stepped begun good.begun tree k d.intents rec.disk.each t.coord c (heard from a r d.intents t.coord).outs) part
          (heard_stepped begun good.begun tree k d.intents rec.disk.each from a r t.coord
          (teller_was few begun good.begun all.homes k tree d t v M outs was now commits later rec.disk.each mine.awaited)
          (subst (Teller begun good.begun k d.intents) (sym part) teller))))
          (subst (AllSeek v.coord) outs_are (subst (λ c. AllSeek c (heard from a r d.intents t.coord).outs) part
          (heard_seeks begun (paths_of begun) tree t.coord was.good x.faithful.works from a r d.intents)))
      by (Acks u which part outs_are) =
          acked_may few begun good.begun all.homes k d t M was commits rec before.0 mine.awaited
          (λ w j at. top_in begun w j d.intents (tops_of_disk 0 k d t M (begun, good)) (keys.at_in w j d.intents at))
          (λ w j at. (x.faithful.told w j (in_to (w, j) t.coord.telling (keys.at_in w j t.coord.telling at))).0 ∙ x.node) from u
          (record { post = p; posted = there; from = refl; acks = ap acked_in which }) v outs part outs_are now.tops
          (subst AllQuiet outs_are (quiet_acked from u d.intents t.coord))

  pub act_acks : (i : Input) → is_act i ≡ true → refusal_up hd i t.coord ≡ None → (let did = acts i d.intents t.coord in
      Walks (AcksAreKnown few begun) e k did.outs (Up (AcksAreKnown few begun) k (with_coord t did.part)) d M)
  act_acks i is free = stays_in v did.outs z.0 (with_it did.part z.0) z.1
    where
      did : Did Coord
      did = acts i d.intents t.coord

      v : Parts
      v = with_coord t did.part

      other : (l : Label) (how : Kind) (parent : Option Label) → i ≢ input.Begin l how parent
      other l how parent same = let no_way : false ≡ true = sym (ap is_act same) ∙ is in absurd (cc no_way)

      later : AreOfCommits d.intents did.part.tree
      later u j c own = (stand_acts begun (paths_of begun) tree d.intents t.coord was.good hd i free).ends u ending.Commit (commits u j c
          (sym ((well_acts begun (paths_of begun) tree d.intents t.coord was.good x.faithful.works hd i free other).0.own u) ∙ own))

      now : Stays begun k (sent_after k did.outs M.sent) did.part
      now = known_walk begun e k v did.outs d M (act_good e k d t M (begun, good) hd i is free) ((past_of hd).act begun e k d t i M is free
          tt good past) ((parted_keep hd).act begun e k d t i M is free tt good parted) ((works_keep hd).act e k d t i M is free working)

      z : Awaits few begun good.begun all.homes k M.sent d.intents did.part.telling × AllMay few begun k v M.nodes did.outs M.sent d.intents
      z = step_may few begun good.begun all.homes k tree d t v M did.outs was now commits later rec.disk.each mine.awaited
          (acts_stepped begun good.begun tree k d.intents rec.disk.each t.coord
          (teller_was few begun good.begun all.homes k tree d t v M did.outs was now commits later rec.disk.each mine.awaited)
          x.faithful.works hd i free (record { good = now.good; sure = now.sure; node = now.node; inner = now.inner; records = later }))
          (acts_seeks begun (paths_of begun) tree t.coord was.good x.faithful.works i d.intents other)

  pub tick_acks : Walks (AcksAreKnown few begun) e k (tick_outs (record { number = k; disk = d; live = Some t }) t)
      (Up (AcksAreKnown few begun) k (with_coord t (again_all t.coord.doings t.coord).part)) d M
  tick_acks = stays_in v outs awaits (with_it c awaits)
      (tell_may few begun good.begun all.homes k v M.nodes d.intents (sent_after k outs M.sent) now.tops outs M.sent refl tells
      (votes_of few begun good.begun all.homes k d.intents (sent_after k outs M.sent) c now none outs seeks))
    where
      c : Coord
      c = (again_all t.coord.doings t.coord).part

      v : Parts
      v = with_coord t c

      tolds : List Effect
      tolds = tolds_again t.coord.telling

      queries : List Effect
      queries = map query_about (holders d t)

      outs : List Effect
      outs = (again_all t.coord.doings t.coord).outs ++ tolds ++ queries

      awaits : Awaits few begun good.begun all.homes k M.sent d.intents c.telling
      awaits =
          subst (Awaits few begun good.begun all.homes k M.sent d.intents) (sym (again_telling begun t.coord.doings t.coord)) mine.awaited

      now : Stays begun k (sent_after k outs M.sent) c
      now = known_walk begun e k v outs d M (tick_good e k d t M (begun, good)) ((past_of hd).tick begun e k d t M tt good past)
          ((parted_keep hd).tick begun e k d t M tt good parted) ((works_keep hd).tick e k d t M working)

      later : AreOfCommits d.intents c.tree
      later u j at own = (stand_again begun (paths_of begun) tree t.coord.doings t.coord).ends u ending.Commit
          (commits u j at (sym ((well_again begun (paths_of begun) tree t.coord was.good).0.own u) ∙ own))

      none : (u : Uid) (b : Branch) → branch_of u c.tree ≡ Some b → is_some b.ended ≡ false → (j : Intent) → at_uid u d.intents ≡ Some j → ⊥
      none u b found opened j at = open_none begun good.begun k d.intents c
          (record { good = now.good; sure = now.sure; node = now.node; inner = now.inner; records = later }) u b j found opened at

      held : HaveRecords d.intents t.coord.telling × AreSorted t.coord.telling
      held = rec.live t refl

      tells : AllTell begun good.begun k d.intents outs
      tells = tell_both begun good.begun k d.intents ((again_all t.coord.doings t.coord).outs ++ tolds) queries
          (tell_both begun good.begun k d.intents (again_all t.coord.doings t.coord).outs tolds
          (asked_again begun good.begun tree k d.intents rec.disk.each t.coord.doings t.coord)
          (again_so begun good.begun k d.intents t.coord.telling (λ u j i. (
            held.0.told u j (keys.in_at (u, j) t.coord.telling held.1 i),
            (x.faithful.told u j (in_to (u, j) t.coord.telling i)).0 ∙ x.node,
          ))))
          (queries_so begun good.begun k d.intents (holders d t))

      quiet : (us : List Uid) → AllQuiet (map query_about us)
      quiet [] = tt
      quiet (u ∷ us) = (refl, quiet us)

      seeks : AllSeek c outs
      seeks = seek_both c ((again_all t.coord.doings t.coord).outs ++ tolds) queries (seek_both c (again_all t.coord.doings t.coord).outs
          tolds (again_seeks begun (paths_of begun) tree t.coord was.good x.faithful.works x.numbered)
          (seek_quiet c tolds (quiet_again t.coord.telling))) (seek_quiet c queries (quiet (holders d t)))
