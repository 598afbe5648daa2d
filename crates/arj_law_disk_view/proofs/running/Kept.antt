-- Each handler keeps what it keeps of each kinds, for every kinds that agree with the actions begun: so it is with an object that
-- is seen; and copies agree.
use Rattle.arj_law_parts.proofs.Words
use Words.{◌≡◌, ℕ, ◌+◌, List, [], ◌∷◌, ◌++◌, true, false, Option, Some, None, refl, sym, ◌∙◌, ap, subst, inl, inr, ⊎_elim, AllByRecursion}
use Words.{and_parts, uid_is, in_from, in_to, Uid, Ask, Asked, Body, Head, Header, Kind, Label, Line, ObjectState, Message, asks, object}
use Words.{is_on, uid_eq, uids_of, Reply, actor, answers, again_all, begin_action, heard, Steps, Plan, Voting, Calling, Committing, Doing}
use Words.{doing_of, Disk, Effect, acked, answer_query, tick_outs, uid_set, Parts, Took, answer_is_meant, asked_is_meant, handle}
use Words.{is_loaded_for, is_loaded_in, is_meant, prepared_actions, reply_is_meant, with_coord, Input, acts, begin_refusal, parent_of}
use Words.{parts_in, refusal_up, restart_outs, next_uid, path_below, numbered, acked_own, acts_own, again_own}
use Words.{heard_own, query_own, Seen, is_serial}
use Words.ask
use Words.loaded
use Rattle.arj_law_disk_view.proofs.Terms
use Terms.{IsAtStarts, Among, Action, act_of, paths_of, IsBusy, IsGoodCoord, IsVoting, IsTree, begun_tree, IsGoodOf, good_coord, it, World}
use Terms.{Keeps}
use Terms.{is_act, label_at, AreQuiet, at, down, given, said, up, Walks, Up, halted, walks_both, walks_to, KnowsNode, IsOfKind, KnowsKinds}
use Terms.{Kinds, IsSeenByDisks, was_begun, KeepsGiven, GivesVotes, Agrees, AreOfOneNode, AreOfTops, kinds_of, ArePlaced, AreRecorded}
use Terms.{AreOwnStates, AreSound, FitsVote, IsOwnAnswer, IsOwnVote}
use Rattle.arj_law_disk_view.proofs.running
use running.{Begun.kinds_agree, FirstCommits.input_first, Known.knows_node, Means.All, Means.coord_means, RootPaths.on_paths}
use running.{TopPaths.of_request}
use running.PlaceWalks.{ByTop, PlacedBy, begin_placed, both_here, line_stays, message_placed, other_coord, placed_walk}
use running.PlaceWalks.{prepared_begun, restart_placed, starts_are_placed, stop_placed, tick_means, up_here}
use running.RecordWalks.{KeptBy, kept_walk, message_kept, recorded_more, restart_recorded, starts_are_recorded, stop_recorded, tick_kept}
use running.SoundCoords.{sound_acts, sound_again, sound_begins, sound_heard}
use running.Telling.{acked_kept, acts_kept, heard_kept, same_kept}
use Rattle.arj_law_disk_view.specs.{running.Sound.IsUsedAt, running.Sound.VotesFit, view.Sees.ClaimsAsked}
use Rattle.arj_law_parts.proofs.moves.Together.{walks_each}
use Rattle.arj_law_parts.proofs.parts.TrueSteps.{true_query, well_acked, well_acts, well_again, well_heard}
use Rattle.arj_law_parts.specs.moves.{Keeps.DidKeeps, Keeps.MayGive, Seen.In}
use Rattle.arj_law_runs.proofs.kept.{Begins.begin_good, Begins.its_node, Begins.its_uid, Starts.first_of, Starts.restart_good}
use Rattle.arj_law_runs.proofs.kept.Handled.{act_good, message_good, own_of_disk, stopped_good, tick_good, tops_of_disk}

-- ---- what is kept

-- Good nodes, with what they have recorded and placed; the relation; and something for each kinds that agree with the actions.
abbrev pub IsKeptWith : (Seen → Type 0) → (Kinds → Seen → Type 0) → List Action → Seen → Type 0
IsKeptWith R Q begun M =
    IsGoodOf begun M × AreOfOneNode begun × AreRecorded begun M × ArePlaced begun M × R M × ((tops : Kinds) → Agrees tops begun → Q tops M)

abbrev pub IsKeptInRun : (Seen → Type 0) → (Kinds → Seen → Type 0) → Seen → Type 0
IsKeptInRun R Q M = (begun : List Action) × IsKeptWith R Q begun M

-- It holds at first, and is kept by each handler, at a node of which is known what the disk half counts on. The object is seen by it.
pub record KeepsEach (hd : Header) (x : ℕ) (R : Seen → Type 0) (Q : Kinds → Seen → Type 0) : Type 0 where
  pub sees : (tops : Kinds) (M : Seen) → Q tops M → IsSeenByDisks x tops M
  pub quiet : (tops : Kinds) (e : ℕ) (bs : List Body) (M : Seen) → tops.walk ≡ None → AreQuiet bs → R M → Q tops M → Q tops (said e bs M)
  pub stop : (tops : Kinds) (e k : ℕ) (d : Disk) (live : Option Parts) (M : Seen) → tops.walk ≡ None → R (at k d live M) →
      Q tops (at k d live M) → Q tops (halted e k d M)
  pub message : (tops : Kinds) (e k : ℕ) (d : Disk) (t v : Parts) (from : ℕ) (m : Message) (outs : List Effect) (M : Seen) →
      tops.walk ≡ None → KnowsNode tops k d t M → R (up k d t M)
      → In (record { from = from; to = k; message = m }) M.sent → is_meant t m ≡ true → handle k d t from m ≡ Took v outs →
      AreOfTops tops m → IsOwnVote m → Q tops (up k d t M) → Walks (Q tops) e k outs (Up (Q tops) k v) d M
  pub act : (tops : Kinds) (e k : ℕ) (d : Disk) (t : Parts) (i : Input) (M : Seen) → tops.walk ≡ None → KnowsNode tops k d t M →
      R (up k d t M)
      → is_act i ≡ true → refusal_up hd i t.coord ≡ None → Q tops (up k d t M) → DidKeeps (Q tops) e k d t (acts i d.intents t.coord) M
  pub begin : (tops : Kinds) (e k : ℕ) (d : Disk) (t : Parts) (l : Label) (how : Kind) (parent : Option Label) (M : Seen) →
      tops.walk ≡ None → KnowsNode tops k d t M → R (up k d t M)
      → label_at l M.labels ≡ None → MayGive M.labels k how parent → begin_refusal how t.coord parent ≡ None →
      IsOfKind tops (next_uid t.coord.tree) how (path_below how (parent_of parent t.coord) (next_uid t.coord.tree))
      → Q tops (up k d t M) → DidKeeps (Q tops) e k d t (begin_action l how parent (parent_of parent t.coord) t.coord)
      (given l (record { node = k; serial = is_serial how }) M)
  pub tick : (tops : Kinds) (e k : ℕ) (d : Disk) (t : Parts) (M : Seen) → tops.walk ≡ None → KnowsNode tops k d t M → R (up k d t M) →
      Q tops (up k d t M)
      → Walks (Q tops) e k (tick_outs (record { number = k; disk = d; live = Some t }) t)
      (Up (Q tops) k (with_coord t (again_all t.coord.doings t.coord).part)) d M
  pub restart : (tops : Kinds) (e k : ℕ) (d : Disk) (M : Seen) → tops.walk ≡ None → AllByRecursion (λ u. was_begun u M.lines ≡ true)
      (uid_set (prepared_actions d.store ++ prepared_actions d.names)) → R (down k d M) → Q tops (down k d M)
      → Walks (Q tops) e k (restart_outs hd k (d.inc + 1) d) (Up (Q tops) k (parts_in k (d.inc + 1) d)) d M
  pub first : (tops : Kinds) → tops.walk ≡ None → KnowsKinds tops → IsAtStarts hd (Q tops)

-- ---- what is walked through

-- With the nodes, the relation and each machine walked through, all together is.
module _ (R : Seen → Type 0) (Q : Kinds → Seen →
    Type 0) (begun : List Action) (home : AreOfOneNode begun) (e k : ℕ) (outs : List Effect) (v : Parts) (d : Disk) (M : Seen) where
  abbrev Kept_kinds : Type 0
  Kept_kinds = (tops : Kinds) × Agrees tops begun

  abbrev Seen_by : Kept_kinds → Seen → Type 0
  Seen_by p N = Q p.0 N

  abbrev All_seen : Seen → Type 0
  All_seen N = (p : Kept_kinds) → Q p.0 N

  abbrev Known_here : Seen → Type 0
  Known_here N = (IsGoodOf begun N × AreRecorded begun N) × (ArePlaced begun N × R N)

  abbrev Known_up : ℕ → Parts → Disk → Seen → Type 0
  Known_up k v c N = (Up (IsGoodOf begun) k v c N × Up (AreRecorded begun) k v c N) × (Up (ArePlaced begun) k v c N × Up R k v c N)

  all_walk : Walks (IsGoodOf begun) e k outs (Up (IsGoodOf begun) k v) d M →
      Walks (AreRecorded begun) e k outs (Up (AreRecorded begun) k v) d M → Walks (ArePlaced begun) e k outs (Up (ArePlaced begun) k v) d M
      → Walks R e k outs (Up R k v) d M → ((tops : Kinds) → Agrees tops begun → Walks (Q tops) e k outs (Up (Q tops) k v) d M)
      → Walks (IsKeptInRun R Q) e k outs (Up (IsKeptInRun R Q) k v) d M
  all_walk good recs placed rest seen =
      let each : Walks All_seen e k outs (λ c N. (p : Kept_kinds) → Up (Q p.0) k v c N) d M = walks_each {A = Kept_kinds} Seen_by e k outs
      (λ p. Up (Q p.0) k v) d M (λ p. seen p.0 p.1) in
      let one = walks_both (IsGoodOf begun) (AreRecorded begun) e k outs (Up (IsGoodOf begun) k v) (Up (AreRecorded begun) k v) d M good
      recs in
      let two = walks_both (ArePlaced begun) R e k outs (Up (ArePlaced begun) k v) (Up R k v) d M placed rest in
      let three = walks_both (λ N. IsGoodOf begun N × AreRecorded begun N) (λ N. ArePlaced begun N × R N) e k outs (λ c N.
      Up (IsGoodOf begun) k v c N × Up (AreRecorded begun) k v c N) (λ c N. Up (ArePlaced begun) k v c N × Up R k v c N) d M one two in
      let four = walks_both Known_here All_seen e k outs (Known_up k v) (λ c N. (p : Kept_kinds) → Up (Q p.0) k v c N) d M three each in
      walks_to (λ N. Known_here N × All_seen N) (IsKeptInRun R Q) e k outs
      (λ c N. Known_up k v c N × ((p : Kept_kinds) → Up (Q p.0) k v c N)) (Up (IsKeptInRun R Q) k v) d M
      (λ N h. (begun, (h.0.0.0, home, h.0.0.1, h.0.1.0, h.0.1.1, λ tops agree. h.1 (tops, agree))))
      (λ c N h. (begun, (h.0.0.0, home, h.0.0.1, h.0.1.0, h.0.1.1, λ tops agree. h.1 (tops, agree)))) four

-- ---- an action that begins

agree_less : (a : Action) (begun : List Action) (tops : Kinds) → Agrees tops (a ∷ begun) → Agrees tops begun
agree_less a begun tops agree =
    record { kinds = agree.kinds; unwalked = agree.unwalked; each = λ b c. agree.each b (in_to b (a ∷ begun) (inr (in_from b begun c))) }

-- a Confirm that was sent is asked by a top
by_top : (x : ℕ) (begun : List Action) (k : ℕ) (m : Message) (o : Option (Head × Ask)) →
    (tops : Kinds) × (W : World) × (lines : List Line) × (from : ℕ) × ClaimsAsked x tops W lines from k m o → ByTop begun o
by_top x begun k m None c = tt
by_top x begun k m (Some (h, ask.Bind y include avoid)) c = tt
by_top x begun k m (Some (h, ask.Load y)) c = tt
by_top x begun k m (Some (h, ask.Activate b st)) c = tt
by_top x begun k m (Some (h, ask.Record y b i g)) c = tt
by_top x begun k m (Some (h, ask.Invoke y b i ends op)) c = tt
by_top x begun k m (Some (h, ask.Vote i ties ends)) c = tt
by_top x begun k m (Some (h, ask.Prepare states)) c = tt
by_top x begun k m (Some (h, ask.Confirm grants excluded included)) c = c.4.0

-- lines are said
placed_said : (begun : List Action) (e : ℕ) (bs : List Body) (M : Seen) → ArePlaced begun M → ArePlaced begun (said e bs M)
placed_said begun e bs M p =
    record { nodes = p.nodes; asks = p.asks; votes = p.votes; lines = λ a c. line_stays (act_of a) M.lines (numbered e bs) (p.lines a c) }

-- what a good coordinator says is about actions that were begun
module _ (begun : List Action) (e k : ℕ) (d : Disk) (t : Parts) (M : Seen) (good : IsGoodOf begun (up k d t M)) where
  tree : IsTree (paths_of begun)
  tree = begun_tree begun good.begun

  coord : IsGoodCoord begun (paths_of begun) t.coord
  coord = good_coord e k d t M (begun, good)

  heard_means : (from : ℕ) (a : Asked) (r : Reply) → All begun (let q = heard from a r d.intents t.coord in q.outs)
  heard_means from a r = let q = heard from a r d.intents t.coord in coord_means begun q.part q.outs
      (well_heard begun (paths_of begun) tree from a r d.intents t.coord coord).1 (heard_own from a r d.intents t.coord)

  -- an answer that can be meant is taken
  heard_placed : (from : ℕ) (m : Message) → In (record { from = from; to = k; message = m }) M.sent → is_meant t m ≡ true → VotesFit k t M →
      IsOwnVote m → AreSound t.coord → (a : Asked) (r : Reply) → answers m ≡ Some (a, r) →
      All begun (let q = heard from a r d.intents t.coord in q.outs) × AreSound (let q = heard from a r d.intents t.coord in q.part)
  heard_placed from m sent meant votes own sound a r is = (
    heard_means from a r,
    sound_heard from a r d.intents t.coord (λ st s q same at now. uid_is st.uid (object s.x)
        (sym (loads st s q same at now) ∙ (and_parts (asked_is_meant t.server (asks m)) (answer_is_meant t.coord (answers m)) meant).1))
        (λ states q p left same at now req on. fits states p (its_path q p left at now) (subst IsOwnAnswer (is ∙ ap (λ z. Some (a, z)) same)
        own) (votes from m a states sent (is ∙ ap (λ z. Some (a, z)) same) q p left at now req on))
        (on_paths begun good.begun t.coord coord) sound,
  )
    where
      -- the plan is by the top's path
      its_path : (q : Doing) (p : Plan) (left : List ℕ) → doing_of a.act t.coord ≡ Some q → q.now ≡ Committing (Voting p left) →
          actor p.path ≡ a.act
      its_path q p left at now = let v : IsVoting t.coord.tree a.act p = subst (IsBusy t.coord.tree a.act) now (coord.busy a.act q at) in
          let b = v.asking in ap actor (sym b.path) ∙ coord.tree.lists.places a.act b.branch b.found

      fits : (states : List ObjectState) (p : Plan) → actor p.path ≡ a.act → AreOwnStates a.act states →
          ((s : ObjectState) → Among s states → IsUsedAt p from s.uid.num) → FitsVote p from states
      fits states p path its used = record {
        used = λ s i. let u = used s i in
            record { own = its.own s i; writer = its.writer s i ∙ sym path; used = u.used; found = u.found; server = u.server };
        once = its.once;
      }

      loads : (st : ObjectState) (s : Steps) (q : Doing) → r ≡ Reply.Loaded (loaded.State st) → doing_of a.act t.coord ≡ Some q →
          q.now ≡ Calling s → answer_is_meant t.coord (answers m) ≡ uid_eq st.uid (object s.x)
      loads st s q same at now =
          ap (answer_is_meant t.coord) is ∙ ap (reply_is_meant t.coord a) same ∙ ap (is_loaded_for st) at ∙ ap (is_loaded_in st) now

  acked_means : (from : ℕ) (u : Uid) → All begun (let q = acked from u d.intents t.coord in q.outs)
  acked_means from u = let q = acked from u d.intents t.coord in coord_means begun q.part q.outs
      (well_acked begun (paths_of begun) tree from u d.intents t.coord).1 (acked_own from u d.intents t.coord)

  query_means : (from : ℕ) (u : Uid) → All begun (answer_query from u d.intents t.coord)
  query_means from u =
      coord_means begun t.coord (answer_query from u d.intents t.coord) (true_query begun (paths_of begun) tree from u d.intents t.coord
      (tops_of_disk e k d t M (begun, good)) (own_of_disk e k d t M (begun, good)) coord) (query_own from u d.intents t.coord)

  acts_mean : (hd : Header) (i : Input) → is_act i ≡ true → refusal_up hd i t.coord ≡ None →
      All begun (let q = acts i d.intents t.coord in q.outs)
  acts_mean hd i is free = let q = acts i d.intents t.coord in coord_means begun q.part q.outs
      (well_acts begun (paths_of begun) tree d.intents t.coord coord (let n = it e k d t M (begun, good) in n.faithful.works) hd i free
      (λ l how parent same. let no_way : false ≡ true = sym (ap is_act same) ∙ is in cc)).1 (acts_own i d.intents t.coord)

  all_again : All begun (let q = again_all t.coord.doings t.coord in q.outs)
  all_again = let q = again_all t.coord.doings t.coord in
      coord_means begun q.part q.outs (well_again begun (paths_of begun) tree t.coord coord).1 (again_own t.coord.doings t.coord)

-- where more holds before each handler
module _ (hd : Header) (x : ℕ) (R G : Seen → Type 0) (Q : Kinds → Seen →
    Type 0) (kept : Keeps hd R) (gives : GivesVotes (λ M. R M × G M)) (each : KeepsEach hd x (λ M. R M × G M) Q) where
  abbrev P : Seen → Type 0
  P = IsKeptInRun R Q

  message_keeps : (e k : ℕ) (d : Disk) (t v : Parts) (from : ℕ) (m : Message) (outs : List Effect) (M : Seen) → G (up k d t M) →
      P (up k d t M) → In (record { from = from; to = k; message = m }) M.sent → is_meant t m ≡ true → handle k d t from m ≡ Took v outs →
      Walks P e k outs (Up P k v) d M
  message_keeps e k d t v from m outs M more (begun, h) sent meant is =
      all_walk R Q begun h.1 e k outs v d M (message_good e k d t M (begun, h.0) v from m outs sent is)
      (kept_walk begun e k d t v outs M (subst (KeptBy begun t.coord) is
      (message_kept begun k d t from (λ a r. heard_kept begun (paths_of begun) (begun_tree begun h.0.begun) from a r d.intents t.coord
      (good_coord e k d t M (begun, h.0))) (λ u. acked_kept begun from u d.intents t.coord) m)) h.2)
      (let p = subst (PlacedBy begun k) is (message_placed begun h.0.begun k d t from (both_here begun h.0.begun k d t M h.3) (up_here begun
      h.0.begun k d t M h.3) m (heard_placed begun e k d t M h.0 from m sent meant (gives begun k d t M (h.4, more) h.0) (h.3.votes
      (record { from = from; to = k; message = m }) sent) (let u = up_here begun h.0.begun k d t M h.3 in u.coord)) (acked_means begun e
      k d t M h.0 from) (query_means begun e k d t M h.0 from) (h.0.fits (record { from = from; to = k; message = m }) sent)
      (by_top x begun k m (asks m) (let s = each.sees (kinds_of begun) (up k d t M) (h.5 (kinds_of begun) (kinds_agree begun h.0.begun
      h.1)) in (kinds_of begun, s.0, M.lines, from, s.1.posts (record { from = from; to = k; message = m }) sent)))) in
      placed_walk begun e k d t v outs M p.0 p.1 h.3) (kept.message e k d t v from m outs M h.4 sent meant is)
      (λ tops agree. each.message tops e k d t v from m outs M agree.unwalked (knows_node tops begun k d t M h.0 agree h.2 h.3) (h.4, more)
      sent meant is (of_request begun h.0.begun tops agree m (h.0.fits (record { from = from; to = k; message = m }) sent))
      (let p = h.3 in p.votes (record { from = from; to = k; message = m }) sent) (h.5 tops agree))

  act_keeps : (e k : ℕ) (d : Disk) (t : Parts) (i : Input) (M : Seen) → is_act i ≡ true → refusal_up hd i t.coord ≡ None → G (up k d t M) →
      P (up k d t M) → DidKeeps P e k d t (acts i d.intents t.coord) M
  act_keeps e k d t i M is free more (begun, h) = let did = acts i d.intents t.coord in
      all_walk R Q begun h.1 e k did.outs (with_coord t did.part) d M (act_good e k d t M (begun, h.0) hd i is free)
      (kept_walk begun e k d t (with_coord t did.part) did.outs M (acts_kept begun (paths_of begun) (begun_tree begun h.0.begun) d.intents
      t.coord (good_coord e k d t M (begun, h.0)) hd i free) h.2)
      (placed_walk begun e k d t (with_coord t did.part) did.outs M (acts_mean begun e k d t M h.0 hd i is free) (let u = up_here begun
      h.0.begun k d t M h.3 in other_coord begun k t did.part (sound_acts i d.intents t.coord (input_first begun k d t M h.0 hd i free)
      (on_paths begun h.0.begun t.coord (coord begun e k d t M h.0)) (let n = it e k d t M (begun, h.0) in n.sure) u.coord) u) h.3)
      (kept.act e k d t i M is free h.4)
      (λ tops agree.
      each.act tops e k d t i M agree.unwalked (knows_node tops begun k d t M h.0 agree h.2 h.3) (h.4, more) is free (h.5 tops agree))

  begin_keeps : (e k : ℕ) (d : Disk) (t : Parts) (l : Label) (how : Kind) (parent : Option Label) (M : Seen) → label_at l M.labels ≡ None →
      MayGive M.labels k how parent → begin_refusal how t.coord parent ≡ None
      → G (up k d t M) → P (up k d t M) → DidKeeps P e k d t (begin_action l how parent (parent_of parent t.coord) t.coord)
      (given l (record { node = k; serial = is_serial how }) M)
  begin_keeps e k d t l how parent M new may free more (begun, h) =
      let did = begin_action l how parent (parent_of parent t.coord) t.coord in
      all_walk R Q (a ∷ begun) home e k did.outs (with_coord t did.part) d (given l (record { node = k; serial = is_serial how }) M)
      (begin_good e k d t l how parent M new may free (begun, h.0))
      (kept_walk (a ∷ begun) e k d t (with_coord t did.part) did.outs (given l (record { node = k; serial = is_serial how }) M)
      (same_kept (a ∷ begun) t.coord did.part did.outs refl refl) (recorded_more a begun (up k d t M) h.2))
      (begin_placed a begun e k d t did.part l how parent (next_uid t.coord.tree)
      (given l (record { node = k; serial = is_serial how }) M) uid (let u = up_here begun h.0.begun k d t M h.3 in sound_begins l
      how parent (parent_of parent t.coord) t.coord u.coord) (placed_given h.3)) (kept.begin e k d t l how parent M new may free h.4)
      (λ tops agree. let less = agree_less a begun tops agree in
      each.begin tops e k d t l how parent M agree.unwalked (knows_node tops begun k d t M h.0 less h.2 h.3) (h.4, more) new may free
      (subst (λ u. IsOfKind tops u how (path_below how (parent_of parent t.coord) (next_uid t.coord.tree))) uid
      (agree.each a (in_to a (a ∷ begun) (inl refl))).0) (h.5 tops less))
    where
      a : Action
      a = record { path = path_below how (parent_of parent t.coord) (next_uid t.coord.tree); kind = how }

      placed_given : ArePlaced begun (up k d t M) →
          ArePlaced begun (up k d t (given l (record { node = k; serial = is_serial how }) M))
      placed_given q = record { nodes = q.nodes; asks = q.asks; votes = q.votes; lines = q.lines }

      uid : actor (path_below how (parent_of parent t.coord) (next_uid t.coord.tree)) ≡ next_uid t.coord.tree
      uid = its_uid e k d t l how parent M new may free (begun, h.0)

      home : AreOfOneNode (a ∷ begun)
      home b w c on = ⊎_elim (λ same. subst (λ (z : Action). is_on (uids_of z.path) w ≡ true → (w.node ≡ (act_of z).node)
          × (w.inc ≡ (act_of z).inc)) same (newest w) on) (λ old. h.1 b w (in_to b begun old) on) (in_from b (a ∷ begun) c)
        where
          newest : (w : Uid) → is_on (uids_of (path_below how (parent_of parent t.coord) (next_uid t.coord.tree))) w ≡ true →
              (w.node ≡ (actor (path_below how (parent_of parent t.coord) (next_uid t.coord.tree))).node)
              × (w.inc ≡ (actor (path_below how (parent_of parent t.coord) (next_uid t.coord.tree))).inc)
          newest w on = let q = its_node e k d t l how parent M new may free (begun, h.0) w on in
              (q.0 ∙ sym (ap (λ (u : Uid). u.node) uid), q.1 ∙ sym (ap (λ (u : Uid). u.inc) uid))

  tick_keeps : (e k : ℕ) (d : Disk) (t : Parts) (M : Seen) → G (up k d t M) → P (up k d t M) → Walks P e k
      (tick_outs (record { number = k; disk = d; live = Some t }) t) (Up P k (with_coord t (again_all t.coord.doings t.coord).part)) d M
  tick_keeps e k d t M more (begun, h) = all_walk R Q begun h.1 e k (tick_outs (record { number = k; disk = d; live = Some t }) t)
      (with_coord t (again_all t.coord.doings t.coord).part) d M (tick_good e k d t M (begun, h.0))
      (kept_walk begun e k d t (with_coord t (again_all t.coord.doings t.coord).part)
      (tick_outs (record { number = k; disk = d; live = Some t }) t) M (tick_kept begun k d t) h.2)
      (placed_walk begun e k d t (with_coord t (again_all t.coord.doings t.coord).part) (tick_outs
      (record { number = k; disk = d; live = Some t }) t) M (tick_means begun k d t h.0.begun (both_here begun h.0.begun k d t M h.3)
      (up_here begun h.0.begun k d t M h.3) (all_again begun e k d t M h.0)) (let u = up_here begun h.0.begun k d t M h.3 in other_coord
      begun k t (again_all t.coord.doings t.coord).part (sound_again t.coord.doings t.coord u.coord) u) h.3) (kept.tick e k d t M h.4)
      (λ tops agree. each.tick tops e k d t M agree.unwalked (knows_node tops begun k d t M h.0 agree h.2 h.3) (h.4, more) (h.5 tops agree))

  pub all_keep : KeepsGiven hd G P
  all_keep = record {
    quiet = λ e bs M quiet more p. let h = p.1 in (
      p.0,
      (
        h.0,
        h.1,
        h.2,
        placed_said p.0 e bs M h.3,
        kept.quiet e bs M quiet h.4,
        λ tops agree. each.quiet tops e bs M agree.unwalked quiet (h.4, more) (h.5 tops agree),
      ),
    );
    stop = λ e k d live M more p. let h = p.1 in (
      p.0,
      (
        stopped_good k d live M (p.0, h.0) e,
        h.1,
        stop_recorded p.0 e k d live M h.2,
        stop_placed p.0 e k d live M h.3,
        kept.stop e k d live M h.4,
        λ tops agree. each.stop tops e k d live M agree.unwalked (h.4, more) (h.5 tops agree),
      ),
    );
    message = message_keeps;
    act = act_keeps;
    begin = begin_keeps;
    tick = tick_keeps;
    restart = λ e k d M more p. let h = p.1 in
        all_walk R Q p.0 h.1 e k (restart_outs hd k (d.inc + 1) d) (parts_in k (d.inc + 1) d) d M (restart_good hd e k d M (p.0, h.0))
        (restart_recorded p.0 hd e k d M h.2) (restart_placed p.0 hd e k d M h.0.begun h.3) (kept.restart e k d M h.4)
        (λ tops agree. each.restart tops e k d M agree.unwalked (prepared_begun p.0 k d None M h.3) (h.4, more) (h.5 tops agree));
    first = λ st formed. (
      [],
      (
        first_of hd st formed,
        (λ a w c on. absurd (in_from a [] c)),
        starts_are_recorded hd st formed,
        starts_are_placed hd st formed,
        kept.first st formed,
        λ tops agree. each.first tops agree.unwalked agree.kinds st formed,
      ),
    );
  }
