-- What is known of aborts that are told is kept by each handler, where the journal, who takes part in commits, questions and records are
-- known.
use Rattle.arj_law_parts.proofs.Words
use Words.{◌≡◌, ◌≢◌, ◌⊎◌, ◌<◌, ◌∙◌, ◌+◌, ◌==◌, ◌++◌, arith, ℕ, Bool, true, false, cond, List, [], ◌∷◌, map, length, refl, sym, ap, subst}
use Words.{inl, inr, ⊎_elim, Option, Some, None, Contains, is_some, and_parts, eqb-true, in_from, in_to, Ask, End, Head, Header, Kind}
use Words.{Label, Message, Uid, asks, first_uid, is_on, uids_of, Reply, actor, asked_by, response, again_all, begin_action, heard, Coord}
use Words.{Disk, Do, Effect, Intent, Look, PutInc, PutIntent, Say, Send, acked, answer_query, tick_outs, Parts, Took, handle, holders}
use Words.{query_about, with_coord, at_uid, AreAll, Input, Node, acts, parent_of, parts_in, refusal_up, restart_outs, tolds_again, Tree}
use Words.{branch_of, is_own, root_of, Post, Seen, is_serial}
use Words.ending
use Words.kind
use Words.message
use Words.effect
use Words.input
use Rattle.arj_law_serial.proofs.Terms
use Terms.{IsAtStarts}
use Terms.{Action, AreBegun, action_of, act_of, paths_of, IsCommitting, IsGoodCoord, IsOver, IsTree, Decides, IsSure, IsSurelyHandled}
use Terms.{IsDecided, IsTopAction, begun_tree, on_own, one_action, serial_alone, where_stands, stand_acts, stand_again, surely_handled}
use Terms.{none_in, at_in, IsTrulyHandled, truly_handled, well_acts, well_again, work_there, IsGoodOf, IsUp, begin_good, act_good}
use Terms.{good_coord, it, message_good, own_of_disk, records_of_disk, tick_good, tops_of_disk, same_number, is_act, In, at, down, given}
use Terms.{up, Up, Walks, halted, book, IsEnd, IsKnown, KnowsUp, its_own, AreRecorded, IsRooted, KeepsOf, begins_in, HasPart, IsPart}
use Terms.{KnowsParted, KnowsParts, AllSeek, acts_seeks, again_seeks, heard_seeks, seek_both, told_in, AreSentTo, IsSentTo, leaves}
use Terms.{AbortsAreKnown, KnowsAborts, TopsAreKnown}
use Rattle.arj_law_lock_view.proofs.facts
use facts.{PartSends.acked_seeks, PartSteps.StaysPart, PartWalks.handled}
use facts.PartCoords.{part_acked, part_acts, part_again, part_begins, part_heard}
use Rattle.arj_law_parts.proofs.parts.{Decided.stand_begins, TrueSteps.top_in}
use Rattle.arj_law_parts.specs.parts.Actions.{Stands}
use Rattle.arj_law_runs.specs.journal.Knows.{IsWritten}
use Rattle.arj_law_serial.proofs.whole
use whole.{Of.walk_end}
use whole.AbortWalks.{Around, Before, Here, IsAsker, IsHome, around, decided_keeps, down_so, mute_queries, mute_records, mute_restart}
use whole.AbortWalks.{mute_seeks, mute_tells, quietly, runs_walk, start_walk, walk}
use whole.Aborting.{AllTell, IsFirm, Runs, acked_tells, acts_run, heard_runs, plain_runs, query_earlier, query_tells, tell_again, tell_both}
use whole.CoordCases.{Acks, Asks, CoordCase, Heard, OfParts, coord_case}

never : {P : Type 0} {b : Bool} → b ≡ true → b ≡ false → P
never {P} {b} holds fails = let no_way : true ≡ false = sym holds ∙ fails in absurd (cc no_way)

-- what is known besides, as a handler begins
abbrev pub AbortsNeed : List Action → Seen → Type 0
AbortsNeed begun M = (IsWritten M × KnowsParted begun M) × (TopsAreKnown begun M × AreRecorded begun M)

-- ---- what parts send

-- no answer tells ends
answer_mute : (h : Head) (r : Reply) (u : Uid) → Contains {X = Uid × End} (told_in (response (asked_by h) r)) (u, ending.Abort) → ⊥
answer_mute h (Reply.Bound r) u i = none_in u ending.Abort i
answer_mute h (Reply.Loaded r) u i = none_in u ending.Abort i
answer_mute h (Reply.Activated r) u i = none_in u ending.Abort i
answer_mute h (Reply.Noted r) u i = none_in u ending.Abort i
answer_mute h (Reply.Invoked r) u i = none_in u ending.Abort i
answer_mute h (Reply.Voted r) u i = none_in u ending.Abort i
answer_mute h (Reply.Prepared r) u i = none_in u ending.Abort i
answer_mute h (Reply.Confirmed r) u i = none_in u ending.Abort i

sent_mute : (from : ℕ) (q : Option (Head × Ask)) (to : ℕ) (z : Message) → IsSentTo from q to z → (u : Uid) →
    Contains {X = Uid × End} (told_in z) (u, ending.Abort) → ⊥
sent_mute from (Some q) to z s u i = let r = s.1 in
    answer_mute q.0 r.0 u (subst (λ (y : Message). Contains {X = Uid × End} (told_in y) (u, ending.Abort)) r.1 i)
sent_mute from None to (message.Acked m) s u i = none_in u ending.Abort i
sent_mute from None to (message.Query m) s u i = none_in u ending.Abort i
sent_mute from None to _ s u i = absurd s

parts_tell : (begun : List Action) (c : Coord) (from : ℕ) (q : Option (Head × Ask)) (outs : List Effect) → AreAll leaves outs →
    AreSentTo from q outs → AllTell begun c outs
parts_tell begun c from q [] all sent = tt
parts_tell begun c from q (Say b ∷ es) all sent =
    (tt, parts_tell begun c from q es (and_parts (leaves (Say b)) _ all).1 (λ to z i. sent to z (inr i)))
parts_tell begun c from q (Send to m ∷ es) all sent = (
  (λ u i. absurd (sent_mute from q to m (sent to m (inl refl)) u i)),
  parts_tell begun c from q es (and_parts (leaves (Send to m)) _ all).1 (λ to z i. sent to z (inr i)),
)
parts_tell begun c from q (Do Look ∷ es) all sent = (tt, parts_tell begun c from q es all (λ to z i. sent to z (inr i)))
parts_tell begun c from q (Do (effect.Prepare r u states) ∷ es) all sent =
    (tt, parts_tell begun c from q es all (λ to z i. sent to z (inr i)))
parts_tell begun c from q (Do (effect.Commit r u) ∷ es) all sent = (tt, parts_tell begun c from q es all (λ to z i. sent to z (inr i)))
parts_tell begun c from q (Do (effect.Abort r u) ∷ es) all sent = (tt, parts_tell begun c from q es all (λ to z i. sent to z (inr i)))
parts_tell begun c from q (Do (PutInc i) ∷ es) all sent = absurd (cc all)
parts_tell begun c from q (Do (PutIntent u i) ∷ es) all sent = absurd (cc all)
parts_tell begun c from q (Do (effect.RemoveIntent u) ∷ es) all sent = absurd (cc all)

-- ---- roots

-- the root of an action that isn't nested is its own root
pub root_own : (begun : List Action) → AreBegun begun → (a : Action) → Contains begun a → a.kind ≢ kind.Nested →
    (r : Action) × Contains begun r × (act_of r ≡ root_of a.path) × (root_of r.path ≡ root_of a.path)
root_own begun started a known unnested = by a.kind refl (where_stands begun started a (in_from a begun known))
  where
    alone : uids_of a.path ≡ act_of a ∷ [] →
        (r : Action) × Contains begun r × (act_of r ≡ root_of a.path) × (root_of r.path ≡ root_of a.path)
    alone path = (a, known, sym (ap first_uid path), refl)

    by : (k : Kind) → a.kind ≡ k → Stands begun a k →
        (r : Action) × Contains begun r × (act_of r ≡ root_of a.path) × (root_of r.path ≡ root_of a.path)
    by kind.Nested is s = absurd (unnested is)
    by kind.Top is s = alone s.0
    by kind.Serial is s = alone s.0
    by kind.Independent is s = alone s.0
    by kind.Constituent is s =
        let up = serial_alone begun started s.0 (in_from s.0 begun s.1) s.2 in
        let path : uids_of a.path ≡ act_of s.0 ∷ act_of a ∷ [] = s.3 ∙ ap (λ us. us ++ act_of a ∷ []) up.0 in
        (s.0, s.1, sym (ap first_uid path), ap first_uid up.0 ∙ sym (ap first_uid path))

-- ---- a coordinator behind a walk

home_end : (begun : List Action) (e k : ℕ) (v : Parts) (outs : List Effect) (d : Disk) (M : Seen) →
    Walks (IsGoodOf begun) e k outs (Up (IsGoodOf begun) k v) d M → IsHome begun k v.coord × IsSure v.coord
home_end begun e k v outs d M w =
    let x = walk_end (IsGoodOf begun) e k (Up (IsGoodOf begun) k v) outs d M w in
    let u = it e k x.0 v x.1 (begun, x.2) in
    (record { good = good_coord e k x.0 v x.1 (begun, x.2); node = u.node }, u.sure)

-- what ended stays so
over_on : (t v : Tree) → Decides t v → (u : Uid) → IsOver u t → IsOver u v
over_on t v on u o = by (let b = o.0 in b.ended) refl o.2
  where
    by : (x : Option End) → (let b = o.0 in b.ended) ≡ x → is_some x ≡ true → IsOver u v
    by None is some = absurd (cc some)
    by (Some e) is some = let d = on u e (o.0, o.1, is) in (d.0, d.1, ap is_some d.2)

-- ---- a node of a good world

module _ (begun : List Action) (e k : ℕ) (d : Disk) (t : Parts) (M : Seen) (good : IsGoodOf begun (up k d t M))
    (need : AbortsNeed begun (up k d t M)) (all : AbortsAreKnown begun (up k d t M)) where
  tree : IsTree (paths_of begun)
  tree = begun_tree begun good.begun

  abbrev x : IsUp begun M.sent M.labels k d.inc t
  x = it e k d t M (begun, good)

  coord : IsGoodCoord begun (paths_of begun) t.coord
  coord = good_coord e k d t M (begun, good)

  works : length t.coord.doings ≡ length t.coord.tree.branches
  works = let f = x.faithful in f.works

  abbrev its_node : Node
  its_node = record { number = k; disk = d; live = Some t }

  here : (let S = up k d t M in S.nodes k) ≡ Some its_node
  here = λ i. cond (same_number k i) (Some its_node) (M.nodes k)

  o : Around begun k M
  o = around begun k d (Some t) M good all

  aborts : KnowsAborts begun M.sent t.coord.tree
  aborts = all.up k its_node t here refl

  parts : KnowsParts M.sent t.coord
  parts = (let p = need.0.1 in p.coords k its_node t here refl).0

  written : KnowsUp (book M.lines) d.intents t.coord
  written = let n = its_own k d (Some t) M need.0.0 in n.live t refl

  before : Before begun t.coord (book M.lines) M.sent
  before = record { good = coord; started = good.begun; aborts = aborts; says = says }
    where
      says : (u : Uid) → IsDecided u ending.Abort t.coord.tree → is_on (let B = book M.lines in B.aborted) u ≡ true
      says u gone =
          let q = work_there t.coord works u gone.0 gone.1 in
          let s : IsKnown (book M.lines) u (let b = gone.0 in b.kind) (let b = gone.0 in b.ended) (let z = q.0 in
          z.label) = (let w = written in let n = w.knows in n.acts u gone.0 q.0 gone.1 q.1) in
          subst (IsEnd (book M.lines) u (let b = gone.0 in b.kind)) gone.2 s.end

  -- what it has is so of the coordinator behind a step
  here_of : (v : Parts) → StaysPart t.coord v.coord → ((u : Uid) → is_own u v.coord.tree ≡ is_own u t.coord.tree) →
      Decides t.coord.tree v.coord.tree → Here begun k v M.sent
  here_of v stays own on = record { asker = asker; aborts = aborts_on }
    where
      asker : IsAsker begun M.sent v.coord
      asker p h a there is part its = by (stays (actor h.path) p.to a (parts p h a there is part (sym (own (actor h.path)) ∙ its)))
        where
          by : IsPart v.coord (actor h.path) p.to a → IsCommitting (actor h.path) v.coord ⊎ HasPart v.coord (actor h.path) p.to
          by (inl s) = inl (s.doing, s.machine, s.works, s.now)
          by (inr part) = inr part

      aborts_on : KnowsAborts begun M.sent v.coord.tree
      aborts_on u to p its =
          let z = aborts u to p (sym (own u) ∙ its) in (
            over_on t.coord.tree v.coord.tree on u z.0,
            λ q. ⊎_elim (λ gone. inl (on u ending.Abort gone)) (λ over.
                inr (over.0, over.1, over.2, over_on t.coord.tree v.coord.tree on (root_of (let a = over.0 in a.path)) over.3)) (z.1 q),
          )

  firm_of : (v : Parts) → IsHome begun k v.coord × IsSure v.coord → IsFirm begun good.begun (paths_of begun) tree v.coord
  firm_of v h = (let z = h.0 in z.good, h.1)

  was_firm : IsFirm begun good.begun (paths_of begun) tree t.coord
  was_firm = (coord, x.sure)

  -- ---- messages

  message_walk : (from : ℕ) (m : Message) (v : Parts) (outs : List Effect) → In (record { from = from; to = k; message = m }) M.sent →
      handle k d t from m ≡ Took v outs → Walks (AbortsAreKnown begun) e k outs (Up (AbortsAreKnown begun) k v) d M
  message_walk from m v outs there is = runs_walk begun k v end.0 t.coord e outs d M (runs (coord_case k d t v from m outs is)) h.1 before o
      (here_of v h.0 (let g = truly.0 in g.own) surely.1) (let w = written in w.found)
    where
      end : IsHome begun k v.coord × IsSure v.coord
      end = home_end begun e k v outs d M (message_good e k d t M (begun, good) v from m outs there is)

      truly : IsTrulyHandled k t (Took v outs)
      truly = subst (IsTrulyHandled k t) is (truly_handled k t begun (paths_of begun) tree coord d (own_of_disk e k d t M (begun, good))
          from m (tops_of_disk e k d t M (begun, good)))

      surely : IsSurelyHandled t (Took v outs)
      surely = subst (IsSurelyHandled t) is
          (surely_handled k t begun (paths_of begun) tree coord x.sure d (records_of_disk e k d t M (begun, good)) from m)

      h : StaysPart t.coord v.coord × AllSeek v.coord outs
      h = handled (λ c. StaysPart t.coord c) k d t from m (λ u to a is. is)
          (λ a r at. (
            part_heard begun (paths_of begun) tree t.coord coord from a r d.intents,
            heard_seeks begun (paths_of begun) tree t.coord coord works from a r d.intents,
          ))
          (λ w. (part_acked from w d.intents t.coord, acked_seeks from w d.intents t.coord)) v outs is

      -- the root of a record's action is its own
      roots : (u : Uid) (i : Intent) → at_uid u d.intents ≡ Some i →
          (a : Action) × Contains begun a × (act_of a ≡ i.root) × (root_of a.path ≡ i.root)
      roots u i at =
          let rooted : IsRooted begun u i = (let r = need.1.1 k its_node here in let z = r.disk in z.each u i at) in
          let top : IsTopAction begun u = top_in begun u i d.intents (tops_of_disk e k d t M (begun, good)) (at_in u i d.intents at) in
          let one : rooted.0 ≡ top.0 = one_action begun good.begun rooted.0 top.0 (in_from rooted.0 begun rooted.1)
          (in_from top.0 begun top.1) (rooted.2 ∙ sym top.2) in
          let r = root_own begun good.begun rooted.0 rooted.1 (λ nested. top.3 (ap (λ (z : Action). z.kind) (sym one) ∙ nested)) in
          (r.0, r.1, r.2 ∙ rooted.3, r.3 ∙ rooted.3)

      asked : (u : Uid) → m ≡ message.Query (record { act = u }) → AllTell begun t.coord (answer_query from u d.intents t.coord)
      asked u same = by (is_own u t.coord.tree) refl
        where
          about : (u.node ≡ k) × IsTopAction begun u
          about = (let w = need.1.0 in w.sent (record { from = from; to = k; message = message.Query (record { act = u }) })
              (subst (λ (z : Message). In (record { from = from; to = k; message = z }) M.sent) same there)).0

          by : (b : Bool) → is_own u t.coord.tree ≡ b → AllTell begun t.coord (answer_query from u d.intents t.coord)
          by false own = query_earlier begun good.begun (paths_of begun) tree from u d.intents t.coord
              (own, about.0 ∙ sym x.node, ((about.1).0, (about.1).1, (about.1).2))
          by true own =
              let a : IsTopAction begun u = about.1 in
              let b = coord.home a.0 u a.1
              (subst (λ z. is_on (uids_of (let y = a.0 in y.path)) z ≡ true) a.2 (on_own (let y = a.0 in y.path))) own in
              let found : branch_of u t.coord.tree ≡ Some b.0 = ap (λ z. branch_of z t.coord.tree) (sym a.2) ∙ b.1 in
              let one : action_of b.0 ≡ a.0 = one_action begun good.begun (action_of b.0) a.0 (in_from (action_of b.0) begun
              (coord.known u b.0 found)) (in_from a.0 begun a.1) (coord.tree.lists.places u b.0 found ∙ sym a.2) in
              query_tells begun good.begun (paths_of begun) tree from u d.intents t.coord was_firm works b.0 found
              (λ nested. a.3 (ap (λ (z : Action). z.kind) (sym one) ∙ nested))

      runs : CoordCase d t from m v outs → Runs begun t.coord v.coord outs
      runs (OfParts mine same plain sent_to) =
          plain_runs begun t.coord v.coord outs (parts_tell begun v.coord from (asks m) outs plain sent_to)
      runs (Asks u query same outs_are) = plain_runs begun t.coord v.coord outs (subst (AllTell begun v.coord) outs_are
          (subst (λ c. AllTell begun c (answer_query from u d.intents t.coord)) (sym same) (asked u query)))
      runs (Heard a r of same outs_are) = subst (Runs begun t.coord v.coord) outs_are (subst (λ c.
          Runs begun t.coord c (let q = heard from a r d.intents t.coord in q.outs)) same (heard_runs begun good.begun (paths_of begun) tree
          from a r d.intents t.coord coord (subst (IsFirm begun good.begun (paths_of begun) tree) (sym same) (firm_of v end))))
      runs (Acks u which same outs_are) = plain_runs begun t.coord v.coord outs
          (subst (AllTell begun v.coord) outs_are (subst (λ c. AllTell begun c (let q = acked from u d.intents t.coord in q.outs)) same
          (acked_tells begun good.begun (paths_of begun) tree from u d.intents t.coord was_firm (roots u))))

  -- ---- inputs and ticks

  act_walk : (hd : Header) (i : Input) → is_act i ≡ true → refusal_up hd i t.coord ≡ None → Walks (AbortsAreKnown begun) e k
      (let r = acts i d.intents t.coord in r.outs) (Up (AbortsAreKnown begun) k (with_coord t (acts i d.intents t.coord).part)) d M
  act_walk hd i is free =
      let r = acts i d.intents t.coord in
      let v = with_coord t r.part in
      let end = home_end begun e k v r.outs d M (act_good e k d t M (begun, good) hd i is free) in
      let g = (well_acts begun (paths_of begun) tree d.intents t.coord coord works hd i free other).0 in
      runs_walk begun k v end.0 t.coord e r.outs d M
      (acts_run begun good.begun (paths_of begun) tree d.intents t.coord coord works hd i free (firm_of v end))
      (acts_seeks begun (paths_of begun) tree t.coord coord works i d.intents other) before o
      (here_of v (part_acts begun (paths_of begun) tree t.coord coord hd i d.intents free other) g.own
      (stand_acts begun (paths_of begun) tree d.intents t.coord coord hd i free).ends) (let w = written in w.found)
    where
      other : (l : Label) (how : Kind) (parent : Option Label) → i ≢ input.Begin l how parent
      other l how parent same = let no_way : false ≡ true = sym (ap is_act same) ∙ is in absurd (cc no_way)

  tick_walk : Walks (AbortsAreKnown begun) e k (tick_outs (record { number = k; disk = d; live = Some t }) t)
      (Up (AbortsAreKnown begun) k (with_coord t (again_all t.coord.doings t.coord).part)) d M
  tick_walk =
      let r = again_all t.coord.doings t.coord in
      let v = with_coord t r.part in
      let tolds = tolds_again t.coord.telling in
      let queries = map query_about (holders d t) in
      let end = home_end begun e k v (tick_outs (record { number = k; disk = d; live = Some t }) t) d M
      (tick_good e k d t M (begun, good)) in
      let g = (well_again begun (paths_of begun) tree t.coord coord).0 in
      walk begun k v end.0 e (tick_outs (record { number = k; disk = d; live = Some t }) t) d M
      (tell_both begun r.part (r.outs ++ tolds) queries (tell_both begun r.part r.outs tolds
      (tell_again begun r.part t.coord.doings t.coord) (mute_tells begun r.part tolds (mute_records t.coord.telling)))
      (mute_tells begun r.part queries (mute_queries (holders d t))))
      (seek_both r.part (r.outs ++ tolds) queries (seek_both r.part r.outs tolds
      (again_seeks begun (paths_of begun) tree t.coord coord works x.numbered) (mute_seeks r.part tolds (mute_records t.coord.telling)))
      (mute_seeks r.part queries (mute_queries (holders d t))))
      o (here_of v (part_again t.coord.doings t.coord) g.own (stand_again begun (paths_of begun) tree t.coord.doings t.coord).ends)
      (inr (let w = written in w.found))

-- ---- an action begins

module _ (a : Action) (begun : List Action) where
  known_more : (b : Action) → Contains begun b → Contains (a ∷ begun) b
  known_more b known = in_to b (a ∷ begun) (inr (in_from b begun known))

  aborts_more : (sent : List Post) (t : Tree) → KnowsAborts begun sent t → KnowsAborts (a ∷ begun) sent t
  aborts_more sent t knows u to p own = let z = knows u to p own in
      (z.0, λ q. ⊎_elim (λ gone. inl gone) (λ over. inr (over.0, known_more over.0 over.1, over.2, over.3)) (z.1 q))

  -- the new action isn't one of which an abort was told
  around_more : (k : ℕ) (M : Seen) → AreBegun (a ∷ begun) → Around begun k M → Around (a ∷ begun) k M
  around_more k M started o = record {
    told = λ u to p. let b = o.told u to p in let z = b.0 in ((z.0, known_more z.0 z.1, z.2), b.1);
    confirms = o.confirms;
    up = λ j n t apart is up_it. aborts_more M.sent t.coord.tree (o.up j n t apart is up_it);
    down = λ j n apart is down_it w i at other open_still u to node told part b known of root. ⊎_elim
        (λ same. absurd (let z = (o.told u to told).0 in never (subst (λ y. is_on (uids_of (let x = z.0 in x.path)) y ≡ true)
        (z.2 ∙ sym of ∙ ap act_of (sym same)) (on_own (let x = z.0 in x.path))) (started.0.new z.0 z.1)))
        (λ old. o.down j n apart is down_it w i at other open_still u to node told part b (in_to b begun old) of root)
        (in_from b (a ∷ begun) known);
    homes = o.homes;
  }

begin_walk : (begun : List Action) (e k : ℕ) (d : Disk) (t : Parts) (l : Label) (how : Kind) (parent : Option Label) (M : Seen) →
    (let a = begins_in how parent t in let did = begin_action l how parent (parent_of parent t.coord) t.coord in
    Walks (IsGoodOf (a ∷ begun)) e k did.outs (Up (IsGoodOf (a ∷ begun)) k (with_coord t did.part)) d
    (given l (record { node = k; serial = is_serial how }) M))
    → IsGoodOf begun (up k d t M) → AbortsNeed begun (up k d t M) → AbortsAreKnown begun (up k d t M)
    → (let a = begins_in how parent t in let did = begin_action l how parent (parent_of parent t.coord) t.coord in
    Walks (AbortsAreKnown (a ∷ begun)) e k did.outs (Up (AbortsAreKnown (a ∷ begun)) k (with_coord t did.part)) d
    (given l (record { node = k; serial = is_serial how }) M))
begin_walk begun e k d t l how parent M goes good need all =
    let a = begins_in how parent t in
    let did = begin_action l how parent (parent_of parent t.coord) t.coord in
    let v = with_coord t did.part in
    let N = given l (record { node = k; serial = is_serial how }) M in
    let end = home_end (a ∷ begun) e k v did.outs d N goes in
    let w = walk_end (IsGoodOf (a ∷ begun)) e k (Up (IsGoodOf (a ∷ begun)) k v) did.outs d N goes in
    let started = (let g = w.2 in g.begun) in
    let h = here_of begun e k d t M good need all v (part_begins l how parent t.coord) (λ u. refl) (stand_begins how _ t.coord.tree).ends in
    let r = around_more a begun k M started (o begun e k d t M good need all) in
    walk (a ∷ begun) k v end.0 e did.outs d N (tt, tt) (tt, tt)
    (record { told = r.told; confirms = r.confirms; up = r.up; down = r.down; homes = r.homes })
    (record { asker = h.asker; aborts = aborts_more a begun M.sent did.part.tree h.aborts })
    (inr (let z = written begun e k d t M good need all in z.found))

-- ---- restarts

restart_walk : (hd : Header) (begun : List Action) (e k : ℕ) (d : Disk) (M : Seen) → IsGoodOf begun (down k d M) →
    AbortsAreKnown begun (down k d M) →
    Walks (AbortsAreKnown begun) e k (restart_outs hd k (d.inc + 1) d) (Up (AbortsAreKnown begun) k (parts_in k (d.inc + 1) d)) d M
restart_walk hd begun e k d M good all = start_walk begun k (parts_in k (d.inc + 1) d) bare e (restart_outs hd k (d.inc + 1) d) d M
    (mute_restart hd k (d.inc + 1) d) (around begun k d None M good all)
    (all.down k (record { number = k; disk = d; live = None }) here refl)
  where
    here : (let S = down k d M in S.nodes k) ≡ Some (record { number = k; disk = d; live = None })
    here = λ i. cond (same_number k i) (Some (record { number = k; disk = d; live = None })) (M.nodes k)

    late : (n i : ℕ) → (i < n) ⊎ (i ≡ n) → i ≡ n + 1 → ⊥
    late n i (inl less) is = omega (arith, less, is)
    late n i (inr same) is = omega (arith, same, is)

    bare : (u : Uid) → is_own u (let v = parts_in k (d.inc + 1) d in let c = v.coord in c.tree) ≡ true →
        ((a : Action) × Contains begun a × (act_of a ≡ u)) → ⊥
    bare u own a =
        let q = and_parts (u.node == k) (u.inc == d.inc + 1) own in
        let counted = (good.places k (record { number = k; disk = d; live = None }) here).memory in
        let on = subst (λ w. is_on (uids_of (let x = a.0 in x.path)) w ≡ true) a.2 (on_own (let x = a.0 in x.path)) in
        late d.inc u.inc (⊎_elim (λ less. inl less) (λ same. inr same.0) (counted.1 a.0 u a.1 on (eqb-true u.node k q.0)))
        (eqb-true u.inc (d.inc + 1) q.1)

-- ---- all runs

aborts_first : (hd : Header) → IsAtStarts hd (AbortsAreKnown [])
aborts_first hd st formed = record {
  told = λ u to p. absurd p.1;
  confirms = λ p h a there. absurd there;
  up = λ j n t is up_it u to p. absurd p.1;
  down = λ j n is down_it w i at other open_still u to node told. absurd told.1;
}

pub aborts_of : (hd : Header) → KeepsOf hd AbortsNeed AbortsAreKnown
aborts_of hd = record {
  quiet = λ begun e bs M quiet_lines need good all. quietly begun e bs M all;
  stop = λ begun e k d live M need good all. by begun e k d M live need good all;
  message = λ begun e k d t v from m outs M need good all there meant is. message_walk begun e k d t M good need all from m v outs there is;
  act = λ begun e k d t i M is free need good all. act_walk begun e k d t M good need all hd i is free;
  begin = λ begun e k d t l how parent M new may free need good all.
      begin_walk begun e k d t l how parent M (begin_good e k d t l how parent M new may free (begun, good)) good need all;
  tick = λ begun e k d t M need good all. tick_walk begun e k d t M good need all;
  restart = λ begun e k d M need good all. restart_walk hd begun e k d M good all;
  first = aborts_first hd;
}
  where
    by : (begun : List Action) (e k : ℕ) (d : Disk) (M : Seen) (live : Option Parts) → AbortsNeed begun (at k d live M) →
        IsGoodOf begun (at k d live M) → AbortsAreKnown begun (at k d live M) → AbortsAreKnown begun (halted e k d M)
    by begun e k d M None need good all = down_so begun e k d M (all.down k (record { number = k; disk = d; live = None }) (λ i.
        cond (same_number k i) (Some (record { number = k; disk = d; live = None })) (M.nodes k)) refl) (around begun k d None M good all)
    by begun e k d M (Some t) need good all = down_so begun e k d M (decided_keeps begun M.sent (book M.lines) k d.intents
        (let n = its_own k d (Some t) M need.0.0 in let w = n.live t refl in w.found)) (around begun k d (Some t) M good all)
