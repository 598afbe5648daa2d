-- A restart is walked through.
use Rattle.arj_law_parts.proofs.Words
use Words.{◌≡◌, ◌∙◌, ◌+◌, ◌≢◌, ℕ, List, [], ◌∷◌, ◌++◌, ◌==◌, Bool, true, false, cond, Option, Some, None, refl, sym, ap, subst, inl, inr}
use Words.{⊎_elim, arith, map, is_some, ◌&&◌, list_all, and_parts, append-nil, append_assoc, uid_cases, in_from, in_to, End, Header, Row}
use Words.{Uid, is_on, last_uid, back_lines, recovered_naming, After, Before, Disk, Do, Effect, InPart, Intent, Look, PutInc, Say, Send}
use Words.{tell, tell_all, Named, Naming, Parts, prepared_actions, query_about, at_uid, uid_set, without_number, AreAll, hello_to}
use Words.{naming_at, naming_back, numbers_to, parts_in, recovered_records, tolds_again, all_both, all_flat, Post, Seen}
use Words.list
use Words.body
use Words.ending
use Rattle.arj_law_lock_view.proofs.Terms
use Terms.{Run, stay, State, go_on, is_plain, Action, IsTopAction, at_in, Within, down, posted, said, Stops, Up, Walks, halted, AreOneTree}
use Terms.{HasEnded, View, Case, IsSeenIn, KnowsEntry, Fixed, family_of, view_of, AreToldSo, IsToldSo, HasConfirm, IsConfirmedAt}
use Terms.{HaveConfirms, SeesDown, IsSeenSo}
use Terms.each
use Rattle.arj_law_lock_view.proofs.running
use running.{HaltSteps.halt_down, StartSteps.HasStarted, StartSteps.started, WalkSteps.AreSendsSeen, WalkSteps.IsSendSeen}
use running.NameSteps.{confirms_down, confirms_later, confirms_more, found_keys}
use running.OtherSteps.{SeesOthers, confirms_of, here_of, others_of, posted_others, reached_of, said_others, with_here}
use running.RestartSteps.{down_found, nobody_found, others_found, run_record, tied_record}
use running.TieSteps.{IsTiedNow, tied_again, tied_moved, tied_now, tied_plain, tied_quiet}
use Rattle.arj_law_lock_view.specs.running.World.{RestartsGo}
use Rattle.arj_law_parts.specs.parts.Messages.{AreOfTops}
use Rattle.arj_law_runs.proofs.kept.Handled.{place_of}

-- ---- effects that are no work, and say lines of frames, servers and naming alone

abbrev pub is_no_work : Effect → Bool
is_no_work (Do w) = false
is_no_work (Say b) = is_plain b
is_no_work (Send to m) = true

abbrev pub is_said : Effect → Bool
is_said (Say b) = is_plain b
is_said _ = false

module _ (f : Fixed) (x : ℕ) (begun : List Action) (k e : ℕ) (P : Seen → Type 0) (E : Disk → Seen → Type 0) where
  -- what is said and sent, before the rest
  pub quiet_walk : (T : State) (sent : List Post) (D : Disk) (outs rest : List Effect) → AreAll is_no_work outs →
      AreSendsSeen f x begun k T sent outs
      → ((N : Seen) → Within sent N.sent → SeesOthers f x begun k T N → IsTiedNow f x begun T N.lines → Walks P e k rest E D N)
      → (N : Seen) → Within sent N.sent → SeesOthers f x begun k T N → IsTiedNow f x begun T N.lines → Walks P e k (outs ++ rest) E D N
  quiet_walk T sent D [] rest quiet sends go N within others now = go N within others now
  quiet_walk T sent D (Do w ∷ es) rest quiet sends go N within others now = absurd (cc quiet)
  quiet_walk T sent D (Say b ∷ es) rest quiet sends go N within others now =
      let p = and_parts (is_plain b) (list_all is_no_work es) quiet in
      quiet_walk T sent D es rest p.1 sends.1 go (said e (b ∷ []) N) within (said_others f x begun k e (b ∷ []) T N others)
      (tied_plain f x begun e (b ∷ []) T N.lines (p.0, tt) now)
  quiet_walk T sent D (Send to m ∷ es) rest quiet sends go N within others now = λ more q.
      let p : Post = record { from = k; to = to; message = m } in
      quiet_walk T sent D es rest quiet sends.1 go (said e more (posted p N)) (λ r there. inr (within r there))
      (said_others f x begun k e more T (posted p N) (posted_others f x begun k p T N others
      (sends.0 (p ∷ N.sent) (λ r there. inr (within r there))))) (tied_quiet f x begun e more T N.lines q now)

  -- lines send nothing
  no_sends : (T : State) (sent : List Post) (outs : List Effect) → AreAll is_said outs → AreSendsSeen f x begun k T sent outs
  no_sends T sent [] all = tt
  no_sends T sent (Say b ∷ es) all = (tt, no_sends T sent es (and_parts (is_plain b) (list_all is_said es) all).1)
  no_sends T sent (Do w ∷ es) all = absurd (cc all)
  no_sends T sent (Send to m ∷ es) all = absurd (cc all)

  no_works : (outs : List Effect) → AreAll is_said outs → AreAll is_no_work outs
  no_works [] all = refl
  no_works (Say b ∷ es) all = let p = and_parts (is_plain b) (list_all is_said es) all in
      both (is_plain b) (list_all is_no_work es) p.0 (no_works es p.1)
    where
      both : (a b : Bool) → a ≡ true → b ≡ true → (a && b) ≡ true
      both a b x y = (λ i. x i && b) ∙ y
  no_works (Do w ∷ es) all = absurd (cc all)
  no_works (Send to m ∷ es) all = absurd (cc all)

  -- ---- records that are found

  module _ (whole : AreOneTree (family_of f begun)) (R : State) (d D : Disk) (rest : List Effect) (go : (T : State) (N : Seen) →
      SeesOthers f x begun k T N → (z : SeesDown (view_of f x begun k) T d) → z.last ≡ None → HaveConfirms f x k T N.sent d None →
      IsTiedNow f x begun T N.lines → Run R T → Walks P e k rest E D N) where
    records_walk : (es : List (Uid × Intent)) → ((u : Uid) (i : Intent) → list.In {X = Uid × Intent} (u, i) es → IsTopAction begun u) →
        ((u : Uid) (i : Intent) → list.In {X = Uid × Intent} (u, i) es → list.In {X = Uid × Intent} (u, i) d.intents)
        → (S : State) (N : Seen) → SeesOthers f x begun k S N → (s : SeesDown (view_of f x begun k) S d) →
        ((u : Uid) → s.last ≡ Some u → (i : Intent) × list.In {X = Uid × Intent} (u, i) es) → HaveConfirms f x k S N.sent d None →
        IsTiedNow f x begun S N.lines → Run R S → Walks P e k (recovered_records k es ++ rest) E D N
    records_walk [] tops kept S N others s pending confirms now run = go S N others s (none s.last refl) confirms now run
      where
        none : (o : Option Uid) → s.last ≡ o → s.last ≡ None
        none None is = is
        none (Some u) is = absurd (pending u is).1
    records_walk ((w, i) ∷ es) tops kept S N others s pending confirms now run = by (λ T L o z p h n r.
        records_walk es (λ u j there. tops u j (inr there)) (λ u j there. kept u j (inr there)) T L o z p h n r) s.last refl
      where
        -- a top that is committed
        old : (s.last ≡ Some w → ⊥) → IsTiedNow f x begun S (let L = said e (body.Recovered k w ∷ []) N in L.lines)
        old other = tied_again f x begun e k w S N.lines (⊎_elim (λ its. absurd (other its)) (λ so. so.committed)
            (s.records w i (in_to {X = Uid × Intent} (w, i) d.intents (kept w i (inl refl))))) now

        later : (u : Uid) → u ≢ w → (j : Intent) × list.In {X = Uid × Intent} (u, j) ((w, i) ∷ es) →
            (j : Intent) × list.In {X = Uid × Intent} (u, j) es
        later u other (j, inl same) = absurd (other (first_of same))
          where
            first_of : ◌≡◌ {A = Uid × Intent} (w, i) (u, j) → u ≡ w
            first_of q = sym (ap (λ (z : Uid × Intent). z.0) q)
        later u other (j, inr there) = (j, there)

        by : ((T : State) (L : Seen) → SeesOthers f x begun k T L → (z : SeesDown (view_of f x begun k) T d) →
            ((u : Uid) → z.last ≡ Some u → (j : Intent) × list.In {X = Uid × Intent} (u, j) es) → HaveConfirms f x k T L.sent d None →
            IsTiedNow f x begun T L.lines → Run R T → Walks P e k (recovered_records k es ++ rest) E D L) → (o : Option Uid) → s.last ≡ o →
            Walks P e k (recovered_records k es ++ rest) E D (said e (body.Recovered k w ∷ []) N)
        by next None is = next S _ (said_others f x begun k e (body.Recovered k w ∷ []) S N others) s (λ u its. absurd (let bad : None ≡
            Some u = sym is ∙ its in cc bad)) confirms (old (λ its. (let bad : None ≡ Some w = sym is ∙ its in cc bad))) run
        by next (Some u) is = ⊎_elim
            (λ (same : u ≡ w). (let its : s.last ≡ Some w = is ∙ ap Some same in
            let z = down_found f x begun k whole S d w N e others s its (tops w i (inl refl)) in
            next _ _ (others_found f x begun k whole S d w N e others s its (tops w i (inl refl))) z.0 (λ y none. absurd (let bad : None ≡
            Some y = sym z.1 ∙ none in cc bad)) (confirms_later f x k S _ (reached_of f x begun k S N others) (run_record f x begun k
            whole S d w N e others s its (tops w i (inl refl))) (λ one. nobody_found f x begun k whole S d w N e others s its
            (tops w i (inl refl))) N.sent N.sent (λ r there. there) d None confirms) (tied_record f x begun k whole S d w N e others s
            its (tops w i (inl refl)) now) (go_on run (run_record f x begun k whole S d w N e others s its (tops w i (inl refl))))))
            (λ (other : u ≢ w). next S _ (said_others f x begun k e (body.Recovered k w ∷ []) S N others) s (λ y its. later y (λ same.
            other (let two : ◌≡◌ {A = Option Uid} (Some u) (Some y) = sym is ∙ its in let one : u ≡ y = cc two in one ∙ same)) (pending
            y its)) confirms (old (λ its. other (let two : ◌≡◌ {A = Option Uid} (Some u) (Some w) = sym is ∙ its in cc two))) run)
            (uid_cases u w)

-- ---- what a node sends as it starts

module _ (f : Fixed) (x : ℕ) (begun : List Action) (k : ℕ) (T : State) (sent : List Post) where
  abbrev Send_seen : Effect → Type 0
  Send_seen e = IsSendSeen f x begun k T sent e

  -- a decided top is told again to its nodes
  told_seen : (u : Uid) (i : Intent) → HasEnded (view_of f x begun k) T u ending.Commit →
      AreSendsSeen f x begun k T sent (tell_all i.root true ((u, ending.Commit) ∷ []) i.nodes)
  told_seen u i so = each.all_map Send_seen (tell i.root true ((u, ending.Commit) ∷ [])) i.nodes (λ n wide within. told n)
    where
      told : (n : ℕ) → AreToldSo (view_of f x begun n) ((u, ending.Commit) ∷ []) T
      told n w g there = ⊎_elim (λ same. subst (λ (z : Uid × End). IsToldSo (view_of f x begun n) T z.0 z.1) same so) (λ none. absurd none)
          (in_from {X = Uid × End} (w, g) ((u, ending.Commit) ∷ []) there)

  pub tolds_seen : (telling : List (Uid × Intent)) → ((u : Uid) (i : Intent) → list.In {X = Uid × Intent} (u, i) telling →
      HasEnded (view_of f x begun k) T u ending.Commit) → AreSendsSeen f x begun k T sent (tolds_again telling)
  tolds_seen [] so = tt
  tolds_seen ((u, i) ∷ es) so = each.all_both Send_seen (tell_all i.root true ((u, ending.Commit) ∷ []) i.nodes) (tolds_again es)
      (told_seen u i (so u i (inl refl))) (tolds_seen es (λ w j there. so w j (inr there)))

  pub queries_seen : (us : List Uid) → AreSendsSeen f x begun k T sent (map query_about us)
  queries_seen us = each.all_map Send_seen query_about us (λ u wide within. tt)

  pub hellos_seen : (inc : ℕ) (ns : List ℕ) → AreSendsSeen f x begun k T sent (map (hello_to k inc) ns)
  hellos_seen inc ns = each.all_map Send_seen (hello_to k inc) ns (λ n wide within. tt)

-- they are no work
pub tolds_quiet : (telling : List (Uid × Intent)) → AreAll is_no_work (tolds_again telling)
tolds_quiet [] = refl
tolds_quiet ((u, i) ∷ es) =
    all_both is_no_work (tell_all i.root true ((u, ending.Commit) ∷ []) i.nodes) (tolds_again es) (sends i.nodes) (tolds_quiet es)
  where
    sends : (ns : List ℕ) → AreAll is_no_work (tell_all i.root true ((u, ending.Commit) ∷ []) ns)
    sends [] = refl
    sends (n ∷ ns) = sends ns

pub queries_quiet : (us : List Uid) → AreAll is_no_work (map query_about us)
queries_quiet [] = refl
queries_quiet (u ∷ us) = queries_quiet us

hellos_quiet : (k inc : ℕ) (ns : List ℕ) → AreAll is_no_work (map (hello_to k inc) ns)
hellos_quiet k inc [] = refl
hellos_quiet k inc (n ∷ ns) = hellos_quiet k inc ns

back_said : (o : Option Naming) → AreAll is_said (naming_back o)
back_said None = refl
back_said (Some n) = all_flat is_said (λ (z : ℕ × Named). back_lines z.1) n.objects (λ z. rows (let o = z.1 in o.rows))
  where
    rows : (rs : List Row) → AreAll is_said (map (λ r. Say (body.Granted 1 (last_uid r.holder) r.object r.mode)) rs)
    rows [] = refl
    rows (r ∷ rs) = rows rs

-- ---- the whole restart

module _ (hd : Header) (c : Case) (e k : ℕ) (d : Disk) (M : Seen) (is_seen : IsSeenIn c (down k d M)) (entry : KnowsEntry c.x k d) where
  abbrev f : Fixed
  f = c.fixed

  abbrev S : State
  S = c.state

  abbrev v : View
  v = view_of f c.x c.begun k

  abbrev inc : ℕ
  inc = d.inc + 1

  abbrev risen : Disk
  risen = record d { inc = inc }

  abbrev P : Seen → Type 0
  P = IsSeenSo c

  abbrev E : Disk → Seen → Type 0
  E = Up P k (parts_in k inc d)

  whole : AreOneTree (family_of f c.begun)
  whole = let a = is_seen.agrees in a.whole

  others : SeesOthers f c.x c.begun k S M
  others = others_of f c.x c.begun k d None S M is_seen.sees

  here : SeesDown v S d
  here = here_of f c.x c.begun k d None S M is_seen.sees

  -- the incarnation has risen on the disk
  here_risen : SeesDown v S risen
  here_risen = record {
    server = (let s = here.server in record { last = s.last; low = (let l = s.low in omega (arith, l)); empty = s.empty });
    naming = λ one. (let n = here.naming one in record {
      bound = (let b = n.bound in omega (arith, b));
      first = (let b = n.first in omega (arith, b));
      recorded = (let b = n.recorded in omega (arith, b));
      empty = n.empty;
      nobody = n.nobody;
      made = n.made;
    });
    tree = here.tree;
    last = here.last;
    stopped = here.stopped;
    decided = here.decided;
    home = here.home;
    past = here.past;
    records = here.records;
  }

  halts : (D : Disk) (N : Seen) → SeesDown v S D → SeesOthers f c.x c.begun k S N → HaveConfirms f c.x k S N.sent D None →
      IsTiedNow f c.x c.begun S N.lines → P (halted e k D N)
  halts D N s o h now agrees = halt_down f c.x c.begun k e S D N o s h now

  looks : (D : Disk) (N : Seen) → SeesDown v S D → SeesOthers f c.x c.begun k S N → HaveConfirms f c.x k S N.sent D None →
      IsTiedNow f c.x c.begun S N.lines → Stops P e k Look D N
  looks D N s o h now Before = halts D N s o h now
  looks D N s o h now After = halts D N s o h now
  looks D N s o h now (InPart which) = halts D N s o h now

  -- whom naming had confirmed
  had : (D : Disk) (N : Seen) → D.names ≡ d.names → Within M.sent N.sent → HaveConfirms f c.x k S N.sent D None
  had D N names within = confirms_down f c.x k S N.sent d D None names
      (confirms_more f c.x k S M.sent N.sent within d None (confirms_of f c.x c.begun k d None S M is_seen.sees))

  rises : (N : Seen) → Within M.sent N.sent → SeesOthers f c.x c.begun k S N → IsTiedNow f c.x c.begun S N.lines →
      Stops P e k (PutInc inc) d N
  rises N w o now Before = halts d N here o (had d N refl w) now
  rises N w o now After = halts risen N here_risen o (had risen N refl w) now
  rises N w o now (InPart which) = halts d N here o (had d N refl w) now

  abbrev Hs : List Uid
  Hs = uid_set (prepared_actions d.store ++ prepared_actions d.names)

  abbrev Hellos : List Effect
  Hellos = map (hello_to k inc) (without_number k (numbers_to hd.nodes))

  abbrev Sent : List Effect
  Sent = tolds_again d.intents ++ (map query_about Hs ++ Hellos)

  -- naming confirms whose entries are prepared, and no one else
  confirms_up : (T : State) (sent : List Post) → HaveConfirms f c.x k T sent d None →
      HaveConfirms f c.x k T sent risen (Some (parts_in k inc d))
  confirms_up T sent have = (who, have.1)
    where
      one : (t : Parts) → ◌≡◌ {A = Option Parts} (Some (parts_in k inc d)) (Some t) → parts_in k inc d ≡ t
      one t same = cc same

      confirmed_back : (b : Bool) (n : Naming) → cond b (Some (recovered_naming inc d.names)) None ≡ Some n →
          prepared_actions d.names ≡ n.confirmed
      confirmed_back true n its = ap (λ (z : Naming). z.confirmed) (same its)
        where
          same : ◌≡◌ {A = Option Naming} (Some (recovered_naming inc d.names)) (Some n) → recovered_naming inc d.names ≡ n
          same q = cc q
      confirmed_back false n its = absurd (cc its)

      who : (u : Uid) → IsConfirmedAt u risen (Some (parts_in k inc d)) → HasConfirm f c.x T sent u
      who u (inl prepared) = have.0 u (inl prepared)
      who u (inr (t, n, is, at, on)) = have.0 u (inl (found_keys u (let z = d.names in
          z.pend) ((λ i. is_on (confirmed_back (k == 1) n (ap (λ (z : Parts). z.naming) (one t is) ∙ at) i) u) ∙ on)))

  -- what is sent, and the end
  ends_walk : (R T : State) → Run c.state T → (N : Seen) → HasStarted f c.x c.begun k R d N T →
      ((u : Uid) (i : Intent) → list.In {X = Uid × Intent} (u, i) d.intents → HasEnded v T u ending.Commit) →
      HaveConfirms f c.x k T N.sent d None → IsTiedNow f c.x c.begun T N.lines → Walks P e k Sent E risen N
  ends_walk R T run N has so confirms now =
      let end : (L : Seen) → Within N.sent L.sent → SeesOthers f c.x c.begun k T L → IsTiedNow f c.x c.begun T L.lines → Walks P e k [] E
      risen L = λ L w o n agrees. (
        T,
        with_here f c.x c.begun k risen (Some (parts_in k inc d)) T L o has.up
            (confirms_more f c.x k T N.sent L.sent w risen (Some (parts_in k inc d)) (confirms_up T N.sent confirms)),
        n.tied,
        run,
      ) in
      quiet_walk f c.x c.begun k e P E T N.sent risen (tolds_again d.intents) (map query_about Hs ++ Hellos) (tolds_quiet d.intents)
      (tolds_seen f c.x c.begun k T N.sent d.intents so)
      (λ L w o n. quiet_walk f c.x c.begun k e P E T N.sent risen (map query_about Hs) Hellos (queries_quiet Hs)
      (queries_seen f c.x c.begun k T N.sent Hs)
      (λ K y q m. subst (λ es. Walks P e k es E risen K) (append-nil Hellos)
      (quiet_walk f c.x c.begun k e P E T N.sent risen Hellos [] (hellos_quiet k inc (without_number k (numbers_to hd.nodes)))
      (hellos_seen f c.x c.begun k T N.sent inc (without_number k (numbers_to hd.nodes))) end K y q m)) L w o n)
      N (λ r i. i) has.others now

  -- after the last look
  last_walk : (N : Seen) → Within M.sent N.sent → SeesOthers f c.x c.begun k S N → IsTiedNow f c.x c.begun S N.lines →
      Walks P e k (recovered_records k d.intents ++ Sent) E risen N
  last_walk N w o now = records_walk f c.x c.begun k e P E whole S d risen Sent
      (λ T L os z none h n r. (let g = started f c.x c.begun k T d L os z none entry in
      ends_walk T g.0 (go_on r (let q = g.1 in q.run)) L g.1 (λ u i there. (let z = g.1 in let y = z.up in
      ⊎_elim (λ none. absurd (cc none)) (λ so. so) (y.records u i (in_to {X = Uid × Intent} (u, i) d.intents there))))
      (confirms_later f c.x k T g.0 (reached_of f c.x c.begun k T L os) (let q = g.1 in q.run) (λ one. (let q = g.1 in q.nobody)) L.sent
      L.sent (λ r there. there) d None h) (tied_moved f c.x c.begun T g.0 L.lines (let q = g.1 in q.moved) n)))
      d.intents tops (λ u i there. there) S N o here (λ u is. recorded u is) (had d N refl w) now stay
    where
      tops : (u : Uid) (i : Intent) → list.In {X = Uid × Intent} (u, i) d.intents → IsTopAction c.begun u
      tops u i there = all_of d.intents (let p = place_of k d None M (c.begun, is_seen.good) in let q = p.disk in q.tops) there
        where
          all_of : (es : List (Uid × Intent)) → AreOfTops c.begun es → list.In {X = Uid × Intent} (u, i) es → IsTopAction c.begun u
          all_of [] all i = absurd i
          all_of (z ∷ es) all (inl same) = subst (λ (w : Uid × Intent). IsTopAction c.begun w.0) same all.0
          all_of (z ∷ es) all (inr i) = all_of es all.1 i

      recorded : (u : Uid) → here.last ≡ Some u → (i : Intent) × list.In {X = Uid × Intent} (u, i) d.intents
      recorded u is = by (at_uid u d.intents) refl (here.decided u is)
        where
          by : (o : Option Intent) → at_uid u d.intents ≡ o → is_some o ≡ true → (i : Intent) × list.In {X = Uid × Intent} (u, i) d.intents
          by None it some = absurd (cc some)
          by (Some i) it some = (i, at_in u i d.intents it)

  abbrev First : List Effect
  First = Do Look ∷ Do (PutInc inc) ∷ Say (body.Up k inc) ∷ Do Look ∷ naming_back (naming_at k inc d.names)

  abbrev Next : List Effect
  Next = Do Look ∷ recovered_records k d.intents

  whole_walk : Walks P e k (First ++ (Next ++ Sent)) E d M
  whole_walk =
      let o = said_others f c.x c.begun k e (body.Up k inc ∷ []) S M others in
      let now = tied_now c (down k d M) is_seen in
      let n = tied_plain f c.x c.begun e (body.Up k inc ∷ []) S M.lines (refl, tt) now in (
        looks d M here others (had d M refl (λ r i. i)) now,
        (
          rises M (λ r i. i) others now,
          (
            looks risen (said e (body.Up k inc ∷ []) M) here_risen o (had risen (said e (body.Up k inc ∷ []) M) refl (λ r i. i)) n,
            quiet_walk f c.x c.begun k e P E S M.sent risen (naming_back (naming_at k inc d.names)) (Next ++ Sent)
                (no_works f c.x c.begun k e P E (naming_back (naming_at k inc d.names)) (back_said (naming_at k inc d.names)))
                (no_sends f c.x c.begun k e P E S M.sent (naming_back (naming_at k inc d.names)) (back_said (naming_at k inc d.names)))
                (λ N w q m. (looks risen N here_risen q (had risen N refl w) m, last_walk N w q m)) (said e (body.Up k inc ∷ []) M)
                (λ r i. i) o n,
          ),
        ),
      )

pub restarts_go : RestartsGo
restarts_go hd c e k d M is_seen entry =
    let inc : ℕ = d.inc + 1 in
    let first : List Effect = Do Look ∷ Do (PutInc inc) ∷ Say (body.Up k inc) ∷ Do Look ∷ naming_back (naming_at k inc d.names) in
    let next : List Effect = Do Look ∷ recovered_records k d.intents in
    let tolds : List Effect = tolds_again d.intents in
    let queries : List Effect = map query_about (uid_set (prepared_actions d.store ++ prepared_actions d.names)) in
    let hellos : List Effect = map (hello_to k inc) (without_number k (numbers_to hd.nodes)) in
    subst (λ es. Walks (IsSeenSo c) e k es (Up (IsSeenSo c) k (parts_in k inc d)) d M)
    (sym (append_assoc ((first ++ next) ++ tolds) queries hellos ∙ append_assoc (first ++ next) tolds (queries ++ hellos)
    ∙ append_assoc first next (tolds ++ (queries ++ hellos))))
    (whole_walk hd c e k d M is_seen entry)
