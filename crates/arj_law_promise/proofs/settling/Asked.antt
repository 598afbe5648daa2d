-- What each handler's effects prepare was asked, and what they ask is for the action itself.
use Rattle.arj_law_parts.proofs.Words
use Words.{◌≡◌, ◌≢◌, ◌==◌, ◌∙◌, ◌++◌, ℕ, Bool, true, false, cond, List, [], ◌∷◌, Option, Some, None, refl, sym, ap, subst, filter, map}
use Words.{Contains, eqb-true, ⊤, if◌then◌else◌, ◌||◌, not, option_map, is_some, AllByRecursion, list_all, and_parts, in_from, Ask, Asked}
use Words.{ConfirmedReply, End, Head, Header, Kind, Message, ObjectState, Path, Uid, asks, is_on, last_uid, object, uids_of, Reply, actor}
use Words.{asked_by, last_end, response, top_of, top_path, heard, At, AtActivate, AtBind, AtInvoke, AtLoad, AtNote, Goal, ask_at, Steps}
use Words.{Machine, plan_of, Grants, Marks, checked, confirm, confirm_entries, confirm_new, confirms, entries_after, has_all, lock_all}
use Words.{prepared_by, wanted, Calling, Committing, Coord, Idle, Now, Abort, Already, Commit, Disk, Do, Effect, InDoubt, Intent, Look, Old}
use Words.{Pair, Prep, Prepare, PutInc, PutIntent, Ready, RemoveIntent, Say, Send, did_nothing, held_at, holder_of, is_prepared}
use Words.{prepare_answer, reply, void, acked, answer_query, tell_all, Naming, end_entries, end_lines, end_orphans, has_locks, is_over}
use Words.{orphans, own_entries, taken_end, told_new, Handled, Parts, Took, Void, ack_told, end_states, handle, handle_ends, handle_other}
use Words.{holders, if_naming, is_earlier, load_by, load_held, naming_hello, naming_told, prepare_by, query_about, sends_answer, serve}
use Words.{store_told, with_naming, with_server, AreAll, is_coord_effect, is_server_effect, restart_outs, tolds_again, is_own, activate_own}
use Words.{ends_own, invoke_own, vote_own, Post}
use Words.ask
use Words.body
use Words.confirmed
use Words.ending
use Words.kind
use Words.loaded
use Words.message
use Words.part
use Words.prepared
use Words.role
use Words.naming
use Words.server
use Rattle.arj_law_promise.proofs.Terms
use Terms.{Action, AreBegun, Stands, act_of, action_of, Paths, IsBusy, IsGoodCoord, IsVoting, serial_alone, where_stands, doing_by}
use Terms.{all_both, all_flat, all_map, bare, AllSo, IsSentBy, no_request, In, is_say, bind_says, note_says, HasNaming, AsksForItself}
use Terms.{IsForItself, MeansAsked, WasAsked, preparer, preparer_in, by_coord, by_message, restart_said, some_is}
use Rattle.arj_law_disk_view.proofs.view.ConfirmWalks.{locks_say}
use Rattle.arj_law_parts.proofs.parts.Begun.{whole_top}

none_at : {A P : Type 0} {o : Option A} {x : A} → o ≡ None → o ≡ Some x → P
none_at {A} {P} {o} {x} none is = let no_way : ◌≡◌ {A = Option A} None (Some x) = sym none ∙ is in absurd (cc no_way)

-- a step of a call asks nobody to prepare
pub step_plain : (x : ℕ) (g : Goal) (h : Head) (at : At) → preparer h (ask_at x g [] at) ≡ None
step_plain x g h (AtBind avoid) = refl
step_plain x g h (AtLoad k s rest) = refl
step_plain x g h (AtActivate k st) = refl
step_plain x g h (AtNote k i) = refl
step_plain x g h (AtInvoke k i) = refl

pub bare_same : (h : Head) (a : Ask) → preparer h a ≡ preparer h (bare a)
bare_same h (ask.Bind x include avoid) = refl
bare_same h (ask.Load x) = refl
bare_same h (ask.Activate b st) = refl
bare_same h (ask.Record x b i g) = refl
bare_same h (ask.Invoke x b i ends op) = refl
bare_same h (ask.Vote i ties ends) = refl
bare_same h (ask.Prepare states) = refl
bare_same h (ask.Confirm grants excluded included) = refl

module _ (acts : List Action) (begun : AreBegun acts) where
  -- an action that is neither nested nor serializing is the top of its path
  alone : (a : Action) → Contains acts a → a.kind ≢ kind.Nested → a.kind ≢ kind.Serial → top_path a.path ≡ uids_of a.path
  alone a there unnested unserial = by a.kind refl (where_stands acts begun a (in_from a acts there))
    where
      by : (k : Kind) → a.kind ≡ k → Stands acts a k → top_path a.path ≡ uids_of a.path
      by kind.Top is s = whole_top a.path (act_of a ∷ []) s.0 s.1
      by kind.Independent is s = whole_top a.path (act_of a ∷ []) s.0 s.1
      by kind.Nested is s = absurd (unnested is)
      by kind.Serial is s = absurd (unserial is)
      by kind.Constituent is s =
          let up = serial_alone acts begun s.0 (in_from s.0 acts s.1) s.2 in
          whole_top a.path (act_of s.0 ∷ act_of a ∷ []) (s.3 ∙ ap (λ us. us ++ act_of a ∷ []) up.0) s.4

  -- ---- what a coordinator asks

  module _ (paths : Paths) (e : Coord) (good : IsGoodCoord acts paths e) where
    request_own : (to : ℕ) (h : Head) (a : Ask) → IsSentBy e to h a → AsksForItself acts (let t = e.tree in t.node) (Some (h, a))
    request_own to h a s u is = by s.doing.now refl
      where
        own : is_own (actor h.path) e.tree ≡ true
        own = (doing_by (actor h.path) e s.doing s.found).0

        -- a step of a call prepares nothing
        step : (z : Steps) → s.doing.now ≡ Calling z → IsForItself acts (let t = e.tree in t.node) h u
        step z now = let f = s.step z now in none_at (bare_same h a ∙ ap (preparer h) f.same ∙ step_plain z.x z.goal h z.at) is

        commit : (m : Machine) → s.doing.now ≡ Committing m → IsForItself acts (let t = e.tree in t.node) h u
        commit m now =
            let v : IsVoting e.tree (actor h.path) (plan_of m) = subst (IsBusy e.tree (actor h.path)) now
            (good.busy (actor h.path) s.doing s.found) in
            let b = v.asking in
            let branch = b.branch in
            let c : Action = action_of branch in
            let there : Contains acts c = good.known (actor h.path) branch b.found in
            let its : h.path ≡ branch.path = (s.commit m now).path ∙ sym b.path in
            let same : actor h.path ≡ u = for a is (alone c there (v.top branch b.found) b.unserial) its in
            record {
              top = (c, there, ap actor (sym its) ∙ same, v.top branch b.found, b.unserial);
              home = ap (λ (w : Uid). w.node) (sym same)
                  ∙ eqb-true (let w = actor h.path in w.node) (let t = e.tree in t.node) (and_parts (let w = actor h.path in
                  w.node == (let t = e.tree in t.node)) (let w = actor h.path in w.inc == (let t = e.tree in t.inc)) own).0;
              same = same;
            }
          where
            for : (b : Ask) → preparer h b ≡ Some u → {p : Path} → top_path p ≡ uids_of p → h.path ≡ p → actor h.path ≡ u
            for (ask.Prepare states) is whole its = some_is is
            for (ask.Confirm grants excluded included) is whole its =
                ap (λ p. last_uid (uids_of p)) its ∙ ap last_uid (sym whole) ∙ ap top_of (sym its) ∙ some_is is
            for (ask.Bind x include avoid) is whole its = none_at refl is
            for (ask.Load x) is whole its = none_at refl is
            for (ask.Activate b st) is whole its = none_at refl is
            for (ask.Record x b i g) is whole its = none_at refl is
            for (ask.Invoke x b i ends op) is whole its = none_at refl is
            for (ask.Vote i ties ends) is whole its = none_at refl is

        by : (n : Now) → s.doing.now ≡ n → IsForItself acts (let t = e.tree in t.node) h u
        by Idle now = absurd (s.busy now)
        by (Calling z) now = step z now
        by (Committing m) now = commit m now

    pub coord_asks : (sent : List Post) (es : List Effect) → AllSo e es → AreAll is_coord_effect es →
        AllByRecursion (MeansAsked acts sent (let t = e.tree in t.node)) es
    coord_asks sent [] so own = tt
    coord_asks sent (Say b ∷ es) so own =
        (tt, coord_asks sent es so.1 (and_parts (is_coord_effect (Say b)) (list_all is_coord_effect es) own).1)
    coord_asks sent (Send to m ∷ es) so own =
        (of (asks m) refl, coord_asks sent es so.1 (and_parts (is_coord_effect (Send to m)) (list_all is_coord_effect es) own).1)
      where
        of : (o : Option (Head × Ask)) → asks m ≡ o → AsksForItself acts (let t = e.tree in t.node) o
        of None is = tt
        of (Some q) is = request_own to q.0 q.1 (so.0 q.0 q.1 is)
    coord_asks sent (Do (PutIntent u i) ∷ es) so own = (tt, coord_asks sent es so.1 own)
    coord_asks sent (Do (RemoveIntent u) ∷ es) so own = (tt, coord_asks sent es so.1 own)
    coord_asks sent (Do Look ∷ es) so own = absurd (cc own)
    coord_asks sent (Do (PutInc i) ∷ es) so own = absurd (cc own)
    coord_asks sent (Do (Prepare r u states) ∷ es) so own = absurd (cc own)
    coord_asks sent (Do (Commit r u) ∷ es) so own = absurd (cc own)
    coord_asks sent (Do (Abort r u) ∷ es) so own = absurd (cc own)

  -- ---- effects

  module _ (sent : List Post) (k : ℕ) where
    abbrev Means : Effect → Type 0
    Means e = MeansAsked acts sent k e

    abbrev Fine : List Effect → Type 0
    Fine outs = AllByRecursion Means outs

    both : (es fs : List Effect) → Fine es → Fine fs → Fine (es ++ fs)
    both es fs a b = all_both Means es fs a b

    plain : (to : ℕ) (m : Message) → asks m ≡ None → Means (Send to m)
    plain to m nothing = subst (AsksForItself acts k) (sym nothing) tt

    pub queries : (us : List Uid) → Fine (map query_about us)
    queries us = all_map Means query_about us (λ u. tt)

    says : (es : List Effect) → AreAll is_say es → Fine es
    says [] own = tt
    says (Say b ∷ es) own = (tt, says es own)
    says (Send to m ∷ es) own = absurd (cc own)
    says (Do w ∷ es) own = absurd (cc own)

    server_fine : (n : ℕ) (es : List Effect) → AreAll (is_server_effect n) es → Fine es
    server_fine n [] own = tt
    server_fine n (Say b ∷ es) own =
        (tt, server_fine n es (and_parts (is_server_effect n (Say b)) (list_all (is_server_effect n) es) own).1)
    server_fine n (Send to m ∷ es) own = absurd (cc own)
    server_fine n (Do w ∷ es) own = absurd (cc own)

    -- ---- naming

    ends_entries : (u : Uid) (how : End) → Fine (end_entries u how)
    ends_entries u ending.Commit = (tt, (tt, tt))
    ends_entries u ending.Abort = (tt, (tt, tt))

    told_fine : (u : Uid) (how : End) (d : Pair) (n : Naming) → Fine (naming.told u how d n).outs
    told_fine u how d n = both (own_entries u how d) (let t = (if is_on n.told u then did_nothing n else told_new u (taken_end u how n) d
        n) in t.outs) (own (is_prepared u d)) (by (is_on n.told u))
      where
        own : (b : Bool) → Fine (if b then end_entries u how else [])
        own true = ends_entries u how
        own false = tt

        orphan : (e : End) → Fine (end_orphans u e d n)
        orphan ending.Commit = tt
        orphan ending.Abort = all_flat Means (λ act. end_entries act ending.Abort) (orphans u d n) (λ w. ends_entries w ending.Abort)

        lines : (e : End) (b : Bool) → Fine (if b then Say (body.Told 1 u e part.Naming) ∷ [] else [])
        lines e true = (tt, tt)
        lines e false = tt

        by : (b : Bool) → Fine (let t = (if b then did_nothing n else told_new u (taken_end u how n) d n) in t.outs)
        by true = tt
        by false = both (end_orphans u (taken_end u how n) d n) (end_lines u (taken_end u how n) n) (orphan (taken_end u how n))
            (lines (taken_end u how n) (has_locks u n))

    confirm_fine : (p : Path) (grants : Grants) (excluded included : Marks) (d : Pair) (n : Naming) → WasAsked sent (top_of p) × (k ≡ 1) →
        Fine (confirm p grants excluded included d n).outs
    confirm_fine p grants excluded included d n asked =
        by (is_over p n || not (has_all grants n)) (is_on n.confirmed (top_of p) || is_prepared (top_of p) d)
      where
        locks : Fine (let l = lock_all (wanted (top_of p) grants excluded d) p n in l.outs)
        locks = says (lock_all (wanted (top_of p) grants excluded d) p n).outs (locks_say (wanted (top_of p) grants excluded d) p n)

        answered : (ss : List ObjectState) (a : Prep) →
            Fine (prepared_by (top_of p) ss (lock_all (wanted (top_of p) grants excluded d) p n) a).outs
        answered ss Ready = both (lock_all (wanted (top_of p) grants excluded d) p n).outs (Do Look ∷ Do (Prepare role.Names (top_of p) ss)
            ∷ Say (body.Prepared 1 (top_of p) role.Names) ∷ []) locks (tt, (asked, (tt, tt)))
        answered ss (Already u) = both (lock_all (wanted (top_of p) grants excluded d) p n).outs (Do Look ∷ []) locks (tt, tt)
        answered ss (Old u v) = both (lock_all (wanted (top_of p) grants excluded d) p n).outs (Do Look ∷ []) locks (tt, tt)
        answered ss (InDoubt u h) = both (lock_all (wanted (top_of p) grants excluded d) p n).outs (Do Look ∷ []) locks (tt, tt)

        entries : (ss : List ObjectState) → Fine (confirm_entries (top_of p) ss d (lock_all (wanted (top_of p) grants excluded d) p n)).outs
        entries [] = locks
        entries (s ∷ ss) = answered (s ∷ ss) (prepare_answer (top_of p) (s ∷ ss) d)

        anew : (o : Option ConfirmedReply) → Fine (confirm_new p grants excluded included d n o).outs
        anew (Some r) = tt
        anew None = entries (entries_after (top_of p) grants excluded included d)

        by : (a b : Bool) → Fine (if a then void n else (if b then reply (confirms (top_of p) n) confirmed.Yes else confirm_new p grants
            excluded included d n (checked p grants excluded included d n))).outs
        by true b = tt
        by false true = tt
        by false false = anew (checked p grants excluded included d n)

    -- ---- one message

    module _ (d : Disk) (t : Parts) (from : ℕ) (m : Message) (there : In (record { from = from; to = k; message = m }) sent)
        (has : HasNaming k t) where
      -- naming stays where it is
      abbrev By : Handled → Type 0
      By (Void outs) = ⊤
      By (Took v outs) = Fine outs × HasNaming k v

      answered : (h : Head) (v : Parts) (outs : List Effect) (o : Option Reply) → Fine outs → HasNaming k v →
          By (sends_answer from h v outs o)
      answered h v outs None fine so = tt
      answered h v outs (Some r) fine so = (
        both outs (Send from (response (asked_by h) r) ∷ []) fine (plain from (response (asked_by h) r) (no_request (asked_by h) r), tt),
        so,
      )

      with_it : (f : Naming → Handled) (o : Option Naming) → t.naming ≡ o → ((n : Naming) → k ≡ 1 → By (f n)) → By (if_naming f o)
      with_it f None is each = tt
      with_it f (Some n) is each = each n (eqb-true k 1 (sym has ∙ ap (λ (o : Option Naming). is_some o) is))

      -- it is some naming there
      there_it : (n : Naming) → k ≡ 1 → HasNaming k (with_naming t n)
      there_it n one = sym (ap (λ j. j == 1) one)

      asked : (h : Head) (a : Ask) → ((u : Uid) → preparer h a ≡ Some u → WasAsked sent u) → By (serve k d t from h a)
      asked h (ask.Bind x include avoid) was =
          with_it _ t.naming refl (λ n one. let s = naming.bind h.path x include avoid d.names n in answered h (with_naming t s.part) s.outs
          (option_map Reply.Bound s.reply) (says s.outs (bind_says h.path x include avoid d.names n)) (there_it s.part one))
      asked h (ask.Load x) was = load (holder_of (object x) d.store)
        where
          held : (s : Option ObjectState) → By (load_held from h t s)
          held None = tt
          held (Some s) = answered h t (Do Look ∷ []) (Some (Reply.Loaded (loaded.State s))) (tt, tt) has

          load : (o : Option Uid) → By (load_by x d.store from h t o)
          load (Some u) = answered h t [] (Some (Reply.Loaded (loaded.InDoubt u))) tt has
          load None = held (held_at (object x) d.store)
      asked h (ask.Activate b st) was = let r = server.activate k h.path b st t.server in answered h (with_server t r.part) r.outs
          (option_map Reply.Activated r.reply) (server_fine k r.outs (activate_own k h.path b st t.server)) has
      asked h (ask.Record x b i g) was = with_it _ t.naming refl (λ n one. let r = naming.note h.path x b i g n in answered h
          (with_naming t r.part) r.outs (option_map Reply.Noted r.reply) (says r.outs (note_says h.path x b i g n)) (there_it r.part one))
      asked h (ask.Invoke x b i ends o) was = let r = server.invoke k h x b i ends o t.server in answered h (with_server t r.part) r.outs
          (option_map Reply.Invoked r.reply) (server_fine k r.outs (invoke_own k h x b i ends o t.server)) has
      asked h (ask.Vote i ties ends) was = let r = server.vote k h.path i ties ends t.server in answered h (with_server t r.part) r.outs
          (option_map Reply.Voted r.reply) (server_fine k r.outs (vote_own k h.path i ties ends t.server)) has
      asked h (ask.Prepare states) was = each (is_prepared (actor h.path) d.store)
        where
          new : (a : Prep) → By (prepare_by k states from h t a)
          new Ready = answered h t (Do Look ∷ Do (Prepare role.Store (actor h.path) states) ∷ Say (body.Prepared k (actor h.path)
              role.Store) ∷ []) (Some (Reply.Prepared prepared.Yes)) (tt, (was (actor h.path) refl, (tt, tt))) has
          new (Already u) = tt
          new (Old u v) = answered h t (Do Look ∷ []) (Some (Reply.Prepared (prepared.Old u.num v))) (tt, tt) has
          new (InDoubt u holder) = answered h t (Do Look ∷ []) (Some (Reply.Prepared (prepared.InDoubt u.num holder))) (tt, tt) has

          each : (b : Bool) → By (cond b (sends_answer from h t [] (Some (Reply.Prepared prepared.Yes)))
              (prepare_by k states from h t (prepare_answer (actor h.path) states d.store)))
          each true = answered h t [] (Some (Reply.Prepared prepared.Yes)) tt has
          each false = new (prepare_answer (actor h.path) states d.store)
      asked h (ask.Confirm grants excluded included) was = with_it _ t.naming refl (λ n one. let r = confirm h.path grants excluded included
          d.names n in answered h (with_naming t r.part) r.outs (option_map Reply.Confirmed r.reply)
          (confirm_fine h.path grants excluded included d.names n (was (top_of h.path) refl, one)) (there_it r.part one))

      ends_left : (ack : Bool) (ends : List (Uid × End)) (o : Option (Uid × End)) → By (handle_ends k d t from ack ends o)
      ends_left ack ends None = (tt, has)
      ends_left ack ends (Some e) =
          let s = server.told k ends t.server in
          let o = naming_told e.0 e.1 d.names t.naming in (
            both (store_told k e.0 e.1 d.store ++ o.outs ++ s.outs) (ack_told from e.0 ack) (both (store_told k e.0 e.1 d.store ++ o.outs)
                s.outs (both (store_told k e.0 e.1 d.store) o.outs (stored (is_prepared e.0 d.store) e.1) (named t.naming))
                (server_fine k s.outs (ends_own k ends t.server))) (acked_told ack),
            stays t.naming ∙ has,
          )
        where
          stored : (b : Bool) (how : End) → Fine (cond b (end_states k e.0 how) [])
          stored false how = tt
          stored true ending.Commit = (tt, (tt, tt))
          stored true ending.Abort = (tt, (tt, tt))

          named : (o : Option Naming) → Fine (let r = naming_told e.0 e.1 d.names o in r.outs)
          named None = tt
          named (Some n) = told_fine e.0 e.1 d.names n

          stays : (o : Option Naming) → is_some (let r = naming_told e.0 e.1 d.names o in r.part) ≡ is_some o
          stays None = refl
          stays (Some n) = refl

          acked_told : (b : Bool) → Fine (ack_told from e.0 b)
          acked_told true = (tt, tt)
          acked_told false = tt

      module _ (hears : (a : Asked) (r : Reply) → Fine (let q = heard from a r d.intents t.coord in q.outs)) (acks : (u : Uid) → Fine
          (let q = acked from u d.intents t.coord in q.outs)) (answers_it : (u : Uid) → Fine (answer_query from u d.intents t.coord)) where
        other : (m : Message) → By (handle_other k d t from m)
        other (message.Told m) = ends_left m.ack m.ends (last_end m.ends)
        other (message.Acked m) = by_coord k d t from By tt (acked from m.act d.intents t.coord) (acks m.act, has)
        other (message.Query m) = (answers_it m.act, has)
        other (message.Hello m) = (queries (filter (is_earlier m.node m.inc) (holders d t)), stays t.naming ∙ has)
          where
            stays : (o : Option Naming) → is_some (naming_hello m.node m.inc o) ≡ is_some o
            stays None = refl
            stays (Some n) = refl
        other m = tt

        pub handled : (v : Parts) (outs : List Effect) → handle k d t from m ≡ Took v outs → Fine outs × HasNaming k v
        handled v outs is = subst By is (by_message k d t from By tt m
            (λ h a of. asked h a (λ u its. (record { from = from; to = k; message = m }, there, ap (preparer_in) of ∙ its)))
            (λ a r of. by_coord k d t from By tt (heard from a r d.intents t.coord) (hears a r, has)) (other m))

    -- ---- a restart

    pub restart_fine : (hd : Header) (inc : ℕ) (d : Disk) → Fine (restart_outs hd k inc d)
    restart_fine hd inc d = restart_said Means (λ b. tt) hd k inc d tt tt (tolds_fine d.intents) (λ u. tt) (λ n. tt)
      where
        tolds_fine : (telling : List (Uid × Intent)) → Fine (tolds_again telling)
        tolds_fine [] = tt
        tolds_fine (e ∷ es) = let i = e.1 in both (tell_all i.root true ((e.0, ending.Commit) ∷ []) i.nodes) (tolds_again es)
            (all_map Means _ i.nodes (λ w. tt)) (tolds_fine es)
