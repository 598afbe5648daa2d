-- A message, walked with both halves.
use Rattle.arj_law_parts.proofs.Words
use Words.{ℕ, ◌≡◌, ◌⊎◌, ◌==◌, List, [], ◌∷◌, ◌++◌, Bool, true, false, Option, Some, None, refl, sym, ◌∙◌, ap, subst, inl, inr, ⊎_elim}
use Words.{is_some, filter, map, not, ⊤, if◌then◌else◌, option_map, or_parts, Uid, Ask, Asked, Binding, BoundReply}
use Words.{Cause, End, Head, Message, ObjectState, What, asks, object, Reply, actor, answers, asked_by, differs, last_end}
use Words.{response, top_of, heard, heard_by, heard_doing, heard_none, heard_now, moved_commit, waits_for_commit, CommitStep, Aborts, Stays}
use Words.{Machine, Voting, Preparing, Confirming, plainly, votes_left, with_states, confirm, Calling, Committing, Coord, Doing, Idle, Now}
use Words.{doing_of, root_at, top_uses, is_open_branch, root_of, Disk, Effect}
use Words.{Look, Prep, Ready, Already, Old, InDoubt, Say, Send, Do, Served, Prepare, held_at, holder_of, is_prepared, prepare_answer, acked}
use Words.{answer_query, ended, says, tolds_of, Naming, Handled, Parts, by_reply}
use Words.{Took, Void, ack_told, coord_heard, handle, handle_answer, handle_ask, handle_ends, handle_hello, handle_other}
use Words.{handle_told, holders, if_naming, is_earlier, load_by, load_held, naming_hello, naming_told, prepare_by, query_about}
use Words.{sends_answer, serve, served, store_told, with_coord, with_naming, with_server, uid_number, without_number, AreAll}
use Words.{is_coord_effect, is_committing, is_committing_now, acked_own, heard_own, query_own, activate_own, all_both}
use Words.{ends_own, invoke_own, vote_own, Seen}
use Words.ask
use Words.body
use Words.cause
use Words.confirmed
use Words.ending
use Words.loaded
use Words.message
use Words.prepared
use Words.role
use Words.voted
use Words.commit
use Words.naming
use Words.server
use Rattle.arj_law_disk_view.proofs.Terms
use Terms.{World, Acks, Note, only_begins, only_decides, Office, Do as act, In}
use Terms.{never, some_is, test_is, test_same, up, Walks, Up, walks_to, ConfirmsAreBooked, KnowsNode, NotesMessage}
use Terms.{KnowsMachine, ClaimsReply, ClaimsAnswered, ClaimsAsk, ClaimsLast, ClaimsOther, Kinds, SeesDisks, Walk}
use Terms.{followed, plan_at, IsOpenByDisks, BothWalk, DisksWalk, HasNoPart, IsSeenFrom, OnlyMemory, SeesBoth, has_part}
use Terms.{is_no_work, leaves_the_inc, ClaimsBound, HasGiven, Answering, Change, CountsOn, Deciding, IsOpenAfter, IsSeenAfter}
use Terms.{MayGoOn, Quietly, answer_change, asked_change, bind_change, change_by, doing_change, now_change, reply_change, root_retains}
use Terms.{SeesNaming}
use Terms.seen
use Rattle.arj_law_disk_view.proofs.names.CommitBoth.{says_work as commit_says, GoesOn, begun_both, coord_leaves, going_both, left_goes}
use Rattle.arj_law_disk_view.proofs.names.CommitBoth.{plain_both}
use Rattle.arj_law_disk_view.proofs.names.ConfirmBoth.{confirms_keep_both}
use Rattle.arj_law_disk_view.proofs.names.CoordBoth.{decisions_keep_both, decisions_stop, never_stops, no_work}
use Rattle.arj_law_disk_view.proofs.names.NamingWalks.{binds_keep_both, hellos_keep_both, notes_keep_both, queries_leave}
use Rattle.arj_law_disk_view.proofs.names.StepsBoth.{walks_start}
use Rattle.arj_law_disk_view.proofs.names.StepsFollowed.{messages_are_followed}
use Rattle.arj_law_disk_view.proofs.view
use view.{CommitWalks.aborts, Followed.coord_on, Followed.kinds_on, Frames.node_here}
use view.{ServedWalks.bind_says, StoreWalks.took_is, ToldWalks.ends_are_walked}
use view.DecideWalks.{confirmed_stops, confirming_of}
use view.HeardWalks.{is_say, preparing_of}
use Rattle.arj_law_disk_view.specs.names.{Handlers.MessagesKeepBoth, Handlers.MessagesStopOpen}
use Rattle.arj_law_disk_view.specs.view.{Coordinating.commit_note, Sees.ClaimsAsked}
use Rattle.arj_law_disk_view.proofs.names.ToldOnes.{asked_only, asks_confirm, is_told, told_ends, told_ack, machine_in, server_leaves}
use Rattle.arj_law_disk_view.proofs.names.ToldOnes.{stored_leaves, acks_leave, tolds_work, told_both}

-- ---- a message

module _ (x : ℕ) (tops : Kinds) (unwalked : tops.walk ≡ None) (e k : ℕ) (d : Disk) (t v : Parts) (from : ℕ) (m : Message) (outs : List
    Effect) (A : Office) (M : Seen) (knows : KnowsNode tops k d t M) (sent : seen.In (record { from = from; to = k; message = m }) M.sent)
    (counts : (n : Naming) → t.naming ≡ Some n → CountsOn x tops d n m A) (may : MayGoOn x A v.coord)
    (handled : handle k d t from m ≡ Took v outs) (both : SeesBoth x tops A (up k d t M)) where
  -- nothing is decided
  abbrev IsCalm : Change → Type 0
  IsCalm Quietly = ⊤
  IsCalm (Answering u r) = ⊤
  IsCalm (Deciding u keeps) = ⊥

  abbrev Calm : Type 0
  Calm = BothWalk x tops A e k outs v d M

  abbrev Leaves : Parts → List Effect → Type 0
  Leaves p es = (p.naming ≡ t.naming) × AreAll leaves_the_inc es

  abbrev Notes_at : (Note → Bool) → Type 0
  Notes_at f = NotesMessage (Some (record { from = A.world; noted = f })) t.coord m

  walk_from : (f : Note → Bool) (B : Office) → SeesBoth x tops B (up k d t M) → NotesMessage (Some (record { from = B.world; noted = f }))
      t.coord m → ConfirmsAreBooked d t B.world (asks m) → DisksWalk f x tops B e k outs v d M
  walk_from f B seen notes booked = messages_are_followed x tops f e k d t v from m outs B M knows notes sent booked handled seen

  walk_at : (f : Note → Bool) → Notes_at f → ConfirmsAreBooked d t A.world (asks m) → DisksWalk f x tops A e k outs v d M
  walk_at f notes booked = walk_from f A both notes booked

  calm : Leaves v outs → DisksWalk (λ n. false) x tops A e k outs v d M → Calm
  calm leaves walk = plain_both x tops unwalked e k d t A M both v outs leaves.1 leaves.0 walk

  left_by : (p : Parts) (es : List Effect) → Took p es ≡ Took v outs → Leaves p es → Leaves v outs
  left_by p es is leaves = took_is x k tops e Leaves p es v outs is leaves

  -- ---- requests

  sends_leave : (h : Head) (p : Parts) (es : List Effect) (r : Option Reply) → Leaves p es → sends_answer from h p es r ≡ Took v outs →
      Leaves v outs
  sends_leave h p es None leaves is = absurd (cc is)
  sends_leave h p es (Some q) leaves is = left_by p (es ++ Send from (response (asked_by h) q) ∷ []) is
      (leaves.0, all_both leaves_the_inc es (Send from (response (asked_by h) q) ∷ []) leaves.1 refl)

  module _ (h : Head) (a : Ask) (it : asks m ≡ Some (h, a)) (off : asks_confirm (Some (h, a)) ≡ false) where
    asked_notes : (f : Note → Bool) → Notes_at f
    asked_notes f = record {
      asker = λ z grants excluded included at. absurd (never (ap asks_confirm (sym it ∙ at)) off);
      answered = λ b r q z at does now. absurd (never (ap is_some at) (ap is_some (asked_only m (h, a) it)));
      told = λ root ack ends u how is last on. absurd (never (ap is_some it) (ap (λ z. is_some (asks z)) is));
    }

    asked_booked : ConfirmsAreBooked d t A.world (asks m)
    asked_booked = subst (ConfirmsAreBooked d t A.world) (sym it) (by a off)
      where
        by : (b : Ask) → asks_confirm (Some (h, b)) ≡ false → ConfirmsAreBooked d t A.world (Some (h, b))
        by (ask.Bind y include avoid) no_confirm = tt
        by (ask.Load y) no_confirm = tt
        by (ask.Activate b st) no_confirm = tt
        by (ask.Record y b i g) no_confirm = tt
        by (ask.Invoke y b i ends op) no_confirm = tt
        by (ask.Vote i ties ends) no_confirm = tt
        by (ask.Prepare states) no_confirm = tt
        by (ask.Confirm grants excluded included) no_confirm = absurd (never refl no_confirm)

    asked_walk : DisksWalk (λ n. false) x tops A e k outs v d M
    asked_walk = walk_at (λ n. false) (asked_notes (λ n. false)) asked_booked

    asked_calm : Leaves v outs → Calm
    asked_calm leaves = calm leaves asked_walk

  -- a request to naming is taken there
  to_naming : (h : Head) (a : Ask) → asks m ≡ Some (h, a) → (f : Naming → Handled) →
      ((o : Option Naming) → t.naming ≡ o → serve k d t from h a ≡ if_naming f o) → serve k d t from h a ≡ Took v outs
      → ((n : Naming) → t.naming ≡ Some n → (j : ℕ) → 1 ≡ j → SeesBoth x tops A (up j d t M) → serve j d t from h a ≡ Took v outs →
      BothWalk x tops A e j outs v d M) → Calm
  to_naming h a it f served_by is at_one = by t.naming refl
    where
      by : (o : Option Naming) → t.naming ≡ o → Calm
      by None none = absurd (let clash : Void [] ≡ Took v outs = sym (served_by None none) ∙ is in cc)
      by (Some n) named = at_one n named k (sym (knows.naming_here n named).0) both is

  -- the answer to a Bind is among the machine's
  abbrev Answered_so : Change → Office → Type 0
  Answered_so Quietly B = ⊤
  Answered_so (Answering u r) B = HasGiven u r B.names
  Answered_so (Deciding u keeps) B = ⊤

  abbrev Walked_to : Change → ℕ → Type 0
  Walked_to o j =
      Walks (IsSeenFrom x tops A) e j outs (λ c N. (B : Office) × OnlyMemory A B × SeesBoth x tops B (up j c v N) × Answered_so o B) d M

  by_bind : (h : Head) (y : ℕ) (include : Bool) (avoid : Binding) → asks m ≡ Some (h, ask.Bind y include avoid) →
      serve k d t from h (ask.Bind y include avoid) ≡ Took v outs
      → Walks (IsSeenFrom x tops A) e k outs (λ c N. (B : Office) × OnlyMemory A B × SeesBoth x tops B (up k c v N)
      × Answered_so (bind_change x y include avoid h d t.naming) B) d M
  by_bind h y include avoid it is = by t.naming refl
    where
      claimed : (b : Bool) (r : BoundReply) (B : Office) → (y == x) ≡ b → ClaimsBound x y (uid_number (top_of h.path)) r B.names →
          Answered_so (if b then Answering (uid_number (top_of h.path)) r else Quietly) B
      claimed true r B same claim = claim (test_is y x same)
      claimed false r B same claim = tt

      bound : (n : Naming) → t.naming ≡ Some n → SeesBoth x tops A (up 1 d t M) → serve 1 d t from h (ask.Bind y include avoid)
          ≡ Took v outs → DisksWalk (λ n. false) x tops A e k outs v d M → Walked_to (bind_change x y include avoid h d (Some n)) 1
      bound n named seen g walk = by (let s = naming.bind h.path y include avoid d.names n in s.reply) refl
        where
          took : served from h (with_naming t) Reply.Bound (naming.bind h.path y include avoid d.names n) ≡ Took v outs
          took =
              sym (ap (if_naming (λ z. served from h (with_naming t) Reply.Bound (naming.bind h.path y include avoid d.names z))) named) ∙ g

          walked : DisksWalk (λ n. false) x tops A e 1 outs v d M
          walked = subst (λ j. DisksWalk (λ n. false) x tops A e j outs v d M) (knows.naming_here n named).0 walk

          by : (o : Option BoundReply) → (let s = naming.bind h.path y include avoid d.names n in s.reply) ≡ o →
              Walked_to (bind_change x y include avoid h d (Some n)) 1
          by None none =
              absurd (let clash : Void [] ≡ Took v outs = sym (ap (λ o. sends_answer from h (with_naming t (naming.bind h.path y include
              avoid d.names n).part) (naming.bind h.path y include avoid d.names n).outs (option_map Reply.Bound o)) none) ∙ took in cc)
          by (Some r) reply = walks_to (IsSeenFrom x tops A) (IsSeenFrom x tops A) e 1 outs (λ c N. (B : Office) × OnlyMemory A B
              × SeesBoth x tops B (up 1 c v N) × ClaimsBound x y (uid_number (top_of h.path)) r B.names)
              (λ c N. (B : Office) × OnlyMemory A B × SeesBoth x tops B (up 1 c v N)
              × Answered_so (bind_change x y include avoid h d (Some n)) B) d M (λ N s. s)
              (λ c N s. (
                s.0,
                s.1,
                s.2,
                subst (λ z. Answered_so (answer_change x y (top_of h.path) z) s.0) (sym reply) (claimed (y == x) r s.0 refl s.3),
              ))
              (binds_keep_both x y tops e d t v n from h include avoid r outs A M unwalked named reply g
              ((counts n named).path h (ask.Bind y include avoid) it) seen walked)

      by : (o : Option Naming) → t.naming ≡ o → Walked_to (bind_change x y include avoid h d o) k
      by None none = absurd (let clash : Void [] ≡ Took v outs = sym
          (ap (if_naming (λ n. served from h (with_naming t) Reply.Bound (naming.bind h.path y include avoid d.names n))) none) ∙ is in cc)
      by (Some n) named = at_one n named k (sym (knows.naming_here n named).0) both is
        where
          at_one : (n : Naming) → t.naming ≡ Some n → (j : ℕ) → 1 ≡ j → SeesBoth x tops A (up j d t M) →
              serve j d t from h (ask.Bind y include avoid) ≡ Took v outs → Walked_to (bind_change x y include avoid h d (Some n)) j
          at_one n named j one = subst (λ j. SeesBoth x tops A (up j d t M) → serve j d t from h (ask.Bind y include avoid) ≡ Took v outs →
              Walked_to (bind_change x y include avoid h d (Some n)) j) one
              (λ seen g. bound n named seen g (asked_walk h (ask.Bind y include avoid) it refl))

  says_work : (es : List Effect) → AreAll is_say es → AreAll is_no_work es
  says_work [] all = refl
  says_work (Say b ∷ es) all = says_work es all
  says_work (Send to q ∷ es) all = absurd (cc all)
  says_work (Do w ∷ es) all = absurd (cc all)

  bind_work : (h : Head) (y : ℕ) (include : Bool) (avoid : Binding) → serve k d t from h (ask.Bind y include avoid) ≡ Took v outs →
      AreAll is_no_work outs
  bind_work h y include avoid is = by t.naming refl
    where
      sent_work : (p : Parts) (es : List Effect) (o : Option Reply) → AreAll is_no_work es → sends_answer from h p es o ≡ Took v outs →
          AreAll is_no_work outs
      sent_work p es None all g = absurd (cc g)
      sent_work p es (Some q) all g = took_is x k tops e (λ w fs. AreAll is_no_work fs) p (es ++ Send from (response (asked_by h) q) ∷ []) v
          outs g (all_both is_no_work es (Send from (response (asked_by h) q) ∷ []) all refl)

      by : (o : Option Naming) → t.naming ≡ o → AreAll is_no_work outs
      by None none = absurd (let clash : Void [] ≡ Took v outs = sym
          (ap (if_naming (λ n. served from h (with_naming t) Reply.Bound (naming.bind h.path y include avoid d.names n))) none) ∙ is in cc)
      by (Some n) named = let s = naming.bind h.path y include avoid d.names n in sent_work (with_naming t s.part) s.outs
          (option_map Reply.Bound s.reply) (says_work s.outs (bind_says h.path y include avoid d.names n))
          (sym (ap (if_naming (λ z. served from h (with_naming t) Reply.Bound (naming.bind h.path y include avoid d.names z))) named) ∙ is)

  by_ask : (h : Head) (a : Ask) → asks m ≡ Some (h, a) → serve k d t from h a ≡ Took v outs → Calm
  by_ask h (ask.Load y) it is = asked_calm h (ask.Load y) it refl (by (holder_of (object y) d.store) is)
    where
      held : (o : Option ObjectState) → load_held from h t o ≡ Took v outs → Leaves v outs
      held None g = absurd (cc g)
      held (Some st) g = sends_leave h t (Do Look ∷ []) (Some (Reply.Loaded (loaded.State st))) (refl, refl) g

      by : (o : Option Uid) → load_by y d.store from h t o ≡ Took v outs → Leaves v outs
      by None g = held (held_at (object y) d.store) g
      by (Some z) g = sends_leave h t [] (Some (Reply.Loaded (loaded.InDoubt z))) (refl, refl) g
  by_ask h (ask.Activate b st) it is = let r = server.activate k h.path b st t.server in
      asked_calm h (ask.Activate b st) it refl (sends_leave h (with_server t r.part) r.outs (option_map Reply.Activated r.reply)
      (refl, server_leaves k r.outs (activate_own k h.path b st t.server)) is)
  by_ask h (ask.Invoke y b i ends op) it is = let r = server.invoke k h y b i ends op t.server in
      asked_calm h (ask.Invoke y b i ends op) it refl (sends_leave h (with_server t r.part) r.outs (option_map Reply.Invoked r.reply)
      (refl, server_leaves k r.outs (invoke_own k h y b i ends op t.server)) is)
  by_ask h (ask.Vote i ties ends) it is = let r = server.vote k h.path i ties ends t.server in
      asked_calm h (ask.Vote i ties ends) it refl (sends_leave h (with_server t r.part) r.outs (option_map Reply.Voted r.reply)
      (refl, server_leaves k r.outs (vote_own k h.path i ties ends t.server)) is)
  by_ask h (ask.Prepare states) it is = asked_calm h (ask.Prepare states) it refl (by (is_prepared (actor h.path) d.store) is)
    where
      new : (p : Prep) → prepare_by k states from h t p ≡ Took v outs → Leaves v outs
      new Ready g = sends_leave h t (Do Look ∷ Do (Prepare role.Store (actor h.path) states)
          ∷ Say (body.Prepared k (actor h.path) role.Store) ∷ []) (Some (Reply.Prepared prepared.Yes)) (refl, refl) g
      new (Already u) g = absurd (cc g)
      new (Old u i) g = sends_leave h t (Do Look ∷ []) (Some (Reply.Prepared (prepared.Old u.num i))) (refl, refl) g
      new (InDoubt u z) g = sends_leave h t (Do Look ∷ []) (Some (Reply.Prepared (prepared.InDoubt u.num z))) (refl, refl) g

      by : (b : Bool) → (if b then sends_answer from h t [] (Some (Reply.Prepared prepared.Yes)) else prepare_by k states from h t
          (prepare_answer (actor h.path) states d.store)) ≡ Took v outs → Leaves v outs
      by true g = sends_leave h t [] (Some (Reply.Prepared prepared.Yes)) (refl, refl) g
      by false g = new (prepare_answer (actor h.path) states d.store) g
  by_ask h (ask.Bind y include avoid) it is = walks_to (IsSeenFrom x tops A) (IsSeenFrom x tops A) e k outs
      (λ c N. (B : Office) × OnlyMemory A B × SeesBoth x tops B (up k c v N) × Answered_so (bind_change x y include avoid h d t.naming) B)
      (Up (IsSeenFrom x tops A) k v) d M (λ N s. s) (λ c N s. (s.0, s.1, s.2)) (by_bind h y include avoid it is)
  by_ask h (ask.Record y b i g0) it is =
      to_naming h (ask.Record y b i g0) it (λ n. served from h (with_naming t) Reply.Noted (naming.note h.path y b i g0 n))
      (λ o named. ap (if_naming (λ n. served from h (with_naming t) Reply.Noted (naming.note h.path y b i g0 n))) named) is
      (λ n named j one. subst (λ j. SeesBoth x tops A (up j d t M) → serve j d t from h (ask.Record y b i g0) ≡ Took v outs →
      BothWalk x tops A e j outs v d M) one
      (λ seen g. let c = counts n named in notes_keep_both x y tops e d t v n from h b i g0 outs A M unwalked named g
      (c.path h (ask.Record y b i g0) it) (c.recorded h y b i g0 it) seen
      (subst (λ j. DisksWalk (λ n. false) x tops A e j outs v d M) (knows.naming_here n named).0
      (asked_walk h (ask.Record y b i g0) it refl))))
  by_ask h (ask.Confirm grants excluded included) it is = to_naming h (ask.Confirm grants excluded included) it
      (λ n. served from h (with_naming t) Reply.Confirmed (confirm h.path grants excluded included d.names n))
      (λ o named.
      ap (if_naming (λ n. served from h (with_naming t) Reply.Confirmed (confirm h.path grants excluded included d.names n))) named) is
      (λ n named j one. subst (λ j. SeesBoth x tops A (up j d t M) →
      serve j d t from h (ask.Confirm grants excluded included) ≡ Took v outs → BothWalk x tops A e j outs v d M) one
      (λ seen g. let c = counts n named in
      confirms_keep_both x tops e d t v n from h grants excluded included outs A M unwalked named g (c.taken h grants excluded included
      it) (c.path h (ask.Confirm grants excluded included) it) claims (c.confirmed h grants excluded included it) seen))
    where
      claims : ClaimsAsk x A.world k h (ask.Confirm grants excluded included)
      claims = subst (λ o. ClaimsAsked x tops A.world M.lines from k m o) it
          (both.disks.posts (record { from = from; to = k; message = m }) sent)

  -- ---- answers

  coord_leaves_all : (s : Served Coord (Unit {0})) → AreAll is_coord_effect s.outs → coord_heard t s ≡ Took v outs → Leaves v outs
  coord_leaves_all s own is = by s.reply is
    where
      by : (o : Option (Unit {0})) → by_reply (with_coord t s.part) s.outs o ≡ Took v outs → Leaves v outs
      by None g = absurd (cc g)
      by (Some u) g = left_by (with_coord t s.part) s.outs g (refl, coord_leaves s.outs own)

  module _ (a : Asked) (r : Reply) (it : answers m ≡ Some (a, r)) (none : asks m ≡ None)
      (took : coord_heard t (heard from a r d.intents t.coord) ≡ Took v outs) where
    abbrev Answered : Change → Type 0
    Answered o = Walks (IsSeenAfter o x tops A) e k outs (Up (IsSeenAfter o x tops A) k v) d M

    abbrev Stopping : Change → Type 0
    Stopping o = Walks (IsOpenAfter o x tops A) e k outs (λ c N. ⊤) d M

    abbrev top : ℕ
    top = uid_number a.act

    leaves : Leaves v outs
    leaves = coord_leaves_all (heard from a r d.intents t.coord) (heard_own from a r d.intents t.coord) took

    decided : change_by x d t m ≡ doing_change x a.act t.coord (doing_of a.act t.coord)
    decided = ap (asked_change x d t m) none ∙ ap (reply_change x t.coord) it

    notes : (f : Note → Bool) → ((q : Doing) (z : Machine) → doing_of a.act t.coord ≡ Some q → q.now ≡ Committing z →
        f (commit_note z (uid_number a.act)) ≡ true) → Notes_at f
    notes f ok = record {
      asker = λ z grants excluded included at. absurd (never (ap is_some at) (ap is_some none));
      answered = λ b s q z at does now.
          let same : a.act ≡ b.act = ap (λ (p : Asked × Reply). let w = p.0 in w.act) (some_is it at) in
          subst (λ w. f (commit_note z (uid_number w)) ≡ true) same (ok q z (ap (λ w. doing_of w t.coord) same ∙ does) now);
      told = λ root ack ends u how is last on. absurd (never (ap is_some it) (ap (λ z. is_some (answers z)) is));
    }

    booked : ConfirmsAreBooked d t A.world (asks m)
    booked = subst (ConfirmsAreBooked d t A.world) (sym none) tt

    answer_walk : (f : Note → Bool) → ((q : Doing) (z : Machine) → doing_of a.act t.coord ≡ Some q → q.now ≡ Committing z →
        f (commit_note z (uid_number a.act)) ≡ true) → DisksWalk f x tops A e k outs v d M
    answer_walk f ok = walk_at f (notes f ok) booked

    -- no commit is answered
    uncommitted : is_committing (doing_of a.act t.coord) ≡ false → doing_change x a.act t.coord (doing_of a.act t.coord) ≡ Quietly →
        Answered (change_by x d t m)
    uncommitted off undecided = subst Answered (sym (decided ∙ undecided))
        (calm leaves (answer_walk (λ n. false) (λ q z does now. absurd (never (ap is_committing does ∙ ap is_committing_now now) off))))

    module _ (q : Doing) (does : doing_of a.act t.coord ≡ Some q) where
      -- the commit's machine is this one
      one_machine : (z : Machine) → q.now ≡ Committing z → (w : Doing) (y : Machine) → doing_of a.act t.coord ≡ Some w →
          w.now ≡ Committing y → z ≡ y
      one_machine z now w y also then_now =
          some_is (ap machine_in now) (ap (λ (s : Doing). machine_in s.now) (some_is does also) ∙ ap machine_in then_now)

      knows_it : (z : Machine) → q.now ≡ Committing z → KnowsMachine tops t.coord a.act z
      knows_it z now = knows.coord.machines a.act q z does now

      preparing : (p : commit.Plan) (left : List ℕ) → q.now ≡ Committing (Preparing p left) → Answered Quietly
      preparing p left now =
          let h = knows_it (Preparing p left) now in
          let works = (both.disks.coords k (record { number = k; disk = d; live = Some t }) t
          (node_here M k (record { number = k; disk = d; live = Some t })) refl).working a.act h.branch q h.found h.unended does in
          begun_both x tops unwalked e k d t A M both top v outs
          (preparing_of x tops A.world.disk top (let b = h.branch in b.kind) q.now p left h.top now works).begun leaves.1 leaves.0
          (answer_walk (only_begins top) (λ w y also now_then. subst (λ z. only_begins top (commit_note z top) ≡ true)
          (one_machine (Preparing p left) now w y also now_then) (test_same top)))

      no_part : (p : commit.Plan) → q.now ≡ Committing (Confirming p) → (z : ℕ) → (z == top) ≡ true →
          root_retains x a.act p t.coord ≡ false → HasNoPart A.world.disk z
      no_part p now z same off =
          let h = knows_it (Confirming p) now in
          let works = (both.disks.coords k (record { number = k; disk = d; live = Some t }) t
          (node_here M k (record { number = k; disk = d; live = Some t })) refl).working a.act h.branch q h.found h.unended does in
          let sees = confirming_of x tops A.world.disk top (let b = h.branch in b.kind) q.now p h.top now works in
          let parts = or_parts (top_uses a.act x (root_at (root_of p.path) t.coord) t.coord) (has_part (plan_at x p)) off in
          subst (HasNoPart A.world.disk) (sym (test_is z top same)) (sees.begun, ap has_part sees.plan ∙ parts.1)

      naming_same : (o : Naming) → k ≡ 1 → v.naming ≡ Some o → SeesNaming x tops o A.world.disk A.names
      naming_same o one is = both.names.memory (record { number = k; disk = d; live = Some t }) t o (ap (λ j. (up k d t M).nodes j)
          (sym one) ∙ node_here M k (record { number = k; disk = d; live = Some t })) refl (sym leaves.0 ∙ is)

      confirming : (p : commit.Plan) → q.now ≡ Committing (Confirming p) → Answered (Deciding top (root_retains x a.act p t.coord))
      confirming p now = decisions_keep_both x tops e k d (Some t) v outs (λ z. z == top) (λ z. root_retains x a.act p t.coord) A M unwalked
          leaves.1 (no_part p now) naming_same both
          (answer_walk (only_decides (λ z. z == top)) (λ w y also now_then. subst (λ z. only_decides (λ n. n == top) (commit_note z top)
          ≡ true) (one_machine (Confirming p) now w y also now_then) (test_same top)))

      -- wherever a stop falls there, nobody was decided
      abbrev Followed : Kinds
      Followed = followed tops A.world (only_decides (λ z. z == top))

      abbrev Opened : Seen → Type 0
      Opened = IsOpenByDisks x Followed A.world

      said_so : ClaimsReply x A.world from a.act r
      said_so = subst (λ o. ClaimsAnswered x tops A.world M.lines from k m o) it (subst (λ o. ClaimsAsked x tops A.world M.lines from k m o)
          none (both.disks.posts (record { from = from; to = k; message = m }) sent))

      aborts_stop : (why : Cause) (p : commit.Plan) →
          Walks Opened e k (let did = moved_commit a.act (plainly (Aborts why p)) d.intents t.coord in did.outs) (λ c N. ⊤) d M
      aborts_stop why p = never_stops Opened e k (let did = moved_commit a.act (plainly (Aborts why p)) d.intents t.coord in did.outs)
          (let z = ended a.act ending.Abort t.coord in all_both is_no_work (says a.act (λ l. body.Aborted l why) t.coord)
          (tolds_of d.intents z a.act) (commit_says a.act (λ l. body.Aborted l why) t.coord) (tolds_work d.intents z a.act)) d M

      answer_stops : (p : commit.Plan) → q.now ≡ Committing (Confirming p) → (s : Reply) → ClaimsReply x A.world from a.act s → Walks Opened
          e k (let did = moved_commit a.act (commit.answered from (Confirming p) s) d.intents t.coord in did.outs) (λ c N. ⊤) d M
      answer_stops p now (Reply.Confirmed confirmed.Yes) claim =
          let h = knows_it (Confirming p) now in
          confirmed_stops x Followed e k d t from a.act p M
          (record {
            branch = h.branch;
            found = h.found;
            unended = h.unended;
            doing = q;
            at_work = does;
            now = now;
            path = h.plan.actor_is;
            unrecorded = knows.coord.unrecorded a.act
                (ap is_open_branch h.found ∙ ap (λ o. is_open_branch (Some (record h.branch { ended = o }))) h.unended);
            changes = h.changes;
          })
          h.top (test_same top) A.world (walks_start x tops (only_decides (λ z. z == top)) A (up k d t M) both) claim
      answer_stops p now (Reply.Confirmed (confirmed.Conflict holder mode)) claim = aborts_stop (cause.Conflict holder mode 1) p
      answer_stops p now (Reply.Confirmed (confirmed.Changed w)) claim = aborts_stop (cause.Changed 1 (differs w)) p
      answer_stops p now (Reply.Confirmed (confirmed.NoStores y)) claim = aborts_stop (cause.NoStores y) p
      answer_stops p now (Reply.Confirmed (confirmed.Listed y s)) claim = aborts_stop (cause.Listed y s) p
      answer_stops p now (Reply.Bound s) claim = tt
      answer_stops p now (Reply.Loaded s) claim = tt
      answer_stops p now (Reply.Activated s) claim = tt
      answer_stops p now (Reply.Noted s) claim = tt
      answer_stops p now (Reply.Invoked s) claim = tt
      answer_stops p now (Reply.Voted s) claim = tt
      answer_stops p now (Reply.Prepared s) claim = tt

      confirming_stops : (p : commit.Plan) → q.now ≡ Committing (Confirming p) → coord_heard t (heard_now from a r d.intents t.coord
          (Committing (Confirming p))) ≡ Took v outs → Stopping (Deciding top (root_retains x a.act p t.coord))
      confirming_stops p now g = decisions_stop (λ z. z == top) (λ z. root_retains x a.act p t.coord) A both.named (no_part p now) x tops
          unwalked e k d (Some t) v M naming_same both outs leaves.1 (by (waits_for_commit from a r (Confirming p)) g)
        where
          by : (b : Bool) → coord_heard t (if b then heard_by (moved_commit a.act (commit.answered from (Confirming p) r) d.intents
              t.coord) else heard_none t.coord) ≡ Took v outs → Walks Opened e k outs (λ c N. ⊤) d M
          by false g = absurd (cc g)
          by true g = let did = moved_commit a.act (commit.answered from (Confirming p) r) d.intents t.coord in
              took_is x k tops e (λ w es. Walks Opened e k es (λ c N. ⊤) d M) (with_coord t did.part) did.outs v outs g
              (answer_stops p now r said_so)

      module _ (p : commit.Plan) (left : List ℕ) (now : q.now ≡ Committing (Voting p left)) where
        abbrev Took_by : Reply → Type 0
        Took_by s = coord_heard t (heard_now from a s d.intents t.coord (Committing (Voting p left))) ≡ Took v outs

        h : KnowsMachine tops t.coord a.act (Voting p left)
        h = knows_it (Voting p left) now

        -- by what is asked next, or not yet
        votes_go : (s : Reply) (step : CommitStep) → commit.answered from (Voting p left) s ≡ plainly step → GoesOn step → Took_by s →
            Answered Quietly
        votes_go s step step_is goes = by (waits_for_commit from a s (Voting p left))
          where
            by : (b : Bool) → coord_heard t (if b then heard_by (moved_commit a.act (commit.answered from (Voting p left) s) d.intents
                t.coord) else heard_none t.coord) ≡ Took v outs → Answered Quietly
            by false g = absurd (cc g)
            by true g = let did = moved_commit a.act (plainly step) d.intents t.coord in
                took_is x k tops e (λ w es. MayGoOn x A w.coord → DisksWalk (only_begins top) x tops A e k es w d M →
                BothWalk x tops A e k es w d M) (with_coord t did.part) did.outs v outs
                (sym (ap (λ z. let y = moved_commit a.act z d.intents t.coord in Took (with_coord t y.part) y.outs) step_is) ∙ g)
                (λ go w. going_both x tops unwalked e k d t A M both [] a.act h.branch q step [] d.intents refl h.found h.unended does h.top
                goes go w) may
                (answer_walk (only_begins top) (λ w y also now_then. subst (λ z. only_begins top (commit_note z top) ≡ true)
                (one_machine (Voting p left) now w y also now_then) (test_same top)))

        -- a vote is refused
        changed : (w : What) → Took_by (Reply.Voted (voted.Changed w)) → Answered Quietly
        changed w = by (waits_for_commit from a (Reply.Voted (voted.Changed w)) (Voting p left))
          where
            by : (b : Bool) → coord_heard t (if b then heard_by (moved_commit a.act (commit.answered from (Voting p left)
                (Reply.Voted (voted.Changed w))) d.intents t.coord) else heard_none t.coord) ≡ Took v outs → Answered Quietly
            by false g = absurd (cc g)
            by true g = let did = moved_commit a.act (plainly (Aborts (cause.Changed from (differs w)) p)) d.intents t.coord in
                let Z : Option Walk = Some (record { from = A.world; noted = λ n. false }) in
                calm leaves
                (took_is x k tops e (λ w es. DisksWalk (λ n. false) x tops A e k es w d M) (with_coord t did.part) did.outs v outs g
                (aborts x (followed tops A.world (λ n. false)) e k d t from a.act q M (kinds_on tops Z knows.kinds) (coord_on tops Z
                d.intents t.coord knows.coord) does A.world (walks_start x tops (λ n. false) A (up k d t M) both) (Voting p left)
                ((coord_on tops Z d.intents t.coord knows.coord).machines a.act q (Voting p left) does now)
                (cause.Changed from (differs w))))

        stays : GoesOn (Stays (Voting p left))
        stays = (Voting p left, inr refl)

        voting : (s : Reply) → Took_by s → Answered Quietly
        voting (Reply.Voted (voted.Yes states)) = votes_go (Reply.Voted (voted.Yes states))
            (votes_left (without_number from left) (record p { changed = with_states states p.changed })) refl
            (left_goes (without_number from left) (record p { changed = with_states states p.changed }) h.used h.more h.uses)
        voting (Reply.Voted (voted.Changed w)) = changed w
        voting (Reply.Bound s) = votes_go (Reply.Bound s) (Stays (Voting p left)) refl stays
        voting (Reply.Loaded s) = votes_go (Reply.Loaded s) (Stays (Voting p left)) refl stays
        voting (Reply.Activated s) = votes_go (Reply.Activated s) (Stays (Voting p left)) refl stays
        voting (Reply.Noted s) = votes_go (Reply.Noted s) (Stays (Voting p left)) refl stays
        voting (Reply.Invoked s) = votes_go (Reply.Invoked s) (Stays (Voting p left)) refl stays
        voting (Reply.Prepared s) = votes_go (Reply.Prepared s) (Stays (Voting p left)) refl stays
        voting (Reply.Confirmed s) = votes_go (Reply.Confirmed s) (Stays (Voting p left)) refl stays

      by_now : (now : Now) → q.now ≡ now → coord_heard t (heard_now from a r d.intents t.coord now) ≡ Took v outs →
          Answered (change_by x d t m)
      by_now Idle is g = uncommitted (ap is_committing does ∙ ap is_committing_now is)
          (ap (doing_change x a.act t.coord) does ∙ ap (now_change x a.act t.coord) is)
      by_now (Calling s) is g = uncommitted (ap is_committing does ∙ ap is_committing_now is)
          (ap (doing_change x a.act t.coord) does ∙ ap (now_change x a.act t.coord) is)
      by_now (Committing (Voting p left)) is g = subst Answered
          (sym (decided ∙ ap (doing_change x a.act t.coord) does ∙ ap (now_change x a.act t.coord) is)) (voting p left is r g)
      by_now (Committing (Preparing p left)) is g =
          subst Answered (sym (decided ∙ ap (doing_change x a.act t.coord) does ∙ ap (now_change x a.act t.coord) is)) (preparing p left is)
      by_now (Committing (Confirming p)) is g =
          subst Answered (sym (decided ∙ ap (doing_change x a.act t.coord) does ∙ ap (now_change x a.act t.coord) is)) (confirming p is)

      stops_now : (now : Now) → q.now ≡ now → coord_heard t (heard_now from a r d.intents t.coord now) ≡ Took v outs →
          IsCalm (change_by x d t m) ⊎ Stopping (change_by x d t m)
      stops_now Idle is g =
          inl (subst IsCalm (sym (decided ∙ ap (doing_change x a.act t.coord) does ∙ ap (now_change x a.act t.coord) is)) tt)
      stops_now (Calling s) is g =
          inl (subst IsCalm (sym (decided ∙ ap (doing_change x a.act t.coord) does ∙ ap (now_change x a.act t.coord) is)) tt)
      stops_now (Committing (Voting p left)) is g =
          inl (subst IsCalm (sym (decided ∙ ap (doing_change x a.act t.coord) does ∙ ap (now_change x a.act t.coord) is)) tt)
      stops_now (Committing (Preparing p left)) is g =
          inl (subst IsCalm (sym (decided ∙ ap (doing_change x a.act t.coord) does ∙ ap (now_change x a.act t.coord) is)) tt)
      stops_now (Committing (Confirming p)) is g = inr (subst Stopping
          (sym (decided ∙ ap (doing_change x a.act t.coord) does ∙ ap (now_change x a.act t.coord) is)) (confirming_stops p is g))

    stops_answer : IsCalm (change_by x d t m) ⊎ Stopping (change_by x d t m)
    stops_answer = by (doing_of a.act t.coord) refl took
      where
        by : (o : Option Doing) → doing_of a.act t.coord ≡ o → coord_heard t (heard_doing from a r d.intents t.coord o) ≡ Took v outs →
            IsCalm (change_by x d t m) ⊎ Stopping (change_by x d t m)
        by None is g = absurd (cc g)
        by (Some q) is g = stops_now q is q.now refl g

    by_answer : Answered (change_by x d t m)
    by_answer = by (doing_of a.act t.coord) refl took
      where
        by : (o : Option Doing) → doing_of a.act t.coord ≡ o → coord_heard t (heard_doing from a r d.intents t.coord o) ≡ Took v outs →
            Answered (change_by x d t m)
        by None is g = absurd (cc g)
        by (Some q) is g = by_now q is q.now refl g

  -- ---- what stands alone

  module _ (none : asks m ≡ None) (also : answers m ≡ None) where
    other_notes : (f : Note → Bool) → ((u : Uid) (how : End) → is_told m ≡ true → last_end (told_ends m) ≡ Some (u, how) → told_ack m
        ≡ true → f (Acks (uid_number u)) ≡ true) → (B : Office) → NotesMessage (Some (record { from = B.world; noted = f })) t.coord m
    other_notes f ok B = record {
      asker = λ z grants excluded included at. absurd (never (ap is_some at) (ap is_some none));
      answered = λ b s q z at does now. absurd (never (ap is_some at) (ap is_some also));
      told = λ root ack ends u how is last on. ok u how (ap is_told is) (ap (λ z. last_end (told_ends z)) is ∙ last) (ap told_ack is ∙ on);
    }

    other_booked : (B : Office) → ConfirmsAreBooked d t B.world (asks m)
    other_booked B = subst (ConfirmsAreBooked d t B.world) (sym none) tt

    -- what tells of no end
    untold : is_told m ≡ false → DisksWalk (λ n. false) x tops A e k outs v d M
    untold off = walk_at (λ n. false) (other_notes (λ n. false) (λ u how on last acks. absurd (never on off)) A) (other_booked A)

    claims : ClaimsOther tops A.world M.lines from k m
    claims = subst (λ o. ClaimsAnswered x tops A.world M.lines from k m o) also (subst (λ o. ClaimsAsked x tops A.world M.lines from k m o)
        none (both.disks.posts (record { from = from; to = k; message = m }) sent))

    -- an end that a node without naming is told of
    module _ (ack : Bool) (ends : List (Uid × End)) where
      told_leaves : (u : Uid) (how : End) → t.naming ≡ None → handle_told k d t from ack ends u how ≡ Took v outs → Leaves v outs
      told_leaves u how named g =
          let s = server.told k ends t.server in
          left_by (record { server = s.part; naming = None; coord = t.coord })
          (store_told k u how d.store ++ [] ++ s.outs ++ ack_told from u ack)
          (sym (ap (λ o. Took (record { server = s.part; naming = (naming_told u how d.names o).part; coord = t.coord })
          (store_told k u how d.store ++ (naming_told u how d.names o).outs ++ s.outs ++ ack_told from u ack)) named) ∙ g) (
            sym named,
            all_both leaves_the_inc (store_told k u how d.store ++ [] ++ s.outs) (ack_told from u ack)
                (all_both leaves_the_inc (store_told k u how d.store ++ []) s.outs (all_both leaves_the_inc (store_told k u how d.store) []
                (stored_leaves k u how (is_prepared u d.store)) refl) (server_leaves k s.outs (ends_own k ends t.server)))
                (acks_leave from u ack),
          )

      ends_leave : (o : Option (Uid × End)) → t.naming ≡ None → handle_ends k d t from ack ends o ≡ Took v outs → Leaves v outs
      ends_leave None named g = left_by t [] g (refl, refl)
      ends_leave (Some z) named g = told_leaves z.0 z.1 named g

    by_told : (root : Uid) (ack : Bool) (ends : List (Uid × End)) → m ≡ message.Told (record { root = root; ack = ack; ends = ends }) →
        handle_ends k d t from ack ends (last_end ends) ≡ Took v outs → Calm
    by_told root ack ends is g = by t.naming refl
      where
        Z : Kinds
        Z = followed tops A.world (λ n. false)

        claimed : (tops : Kinds) (W : World) → SeesDisks x tops W (up k d t M) → ClaimsLast tops W k ack (last_end ends)
        claimed tops W s = subst (ClaimsOther tops W M.lines from k) is (subst (λ o. ClaimsAnswered x tops W M.lines from k m o) also
            (subst (λ o. ClaimsAsked x tops W M.lines from k m o) none (s.posts (record { from = from; to = k; message = m }) sent)))

        last_of : (o : Option (Uid × End)) → last_end ends ≡ o → last_end (told_ends m) ≡ o
        last_of o last = ap (λ z. last_end (told_ends z)) is ∙ last

        at_one : (n : Naming) → t.naming ≡ Some n → (u : Uid) (how : End) → last_end ends ≡ Some (u, how) → (j : ℕ) → 1 ≡ j →
            SeesBoth x tops A (up j d t M)
            → ((f : Note → Bool) (B : Office) → SeesBoth x tops B (up j d t M) → (ack ≡ true → f (Acks (uid_number u)) ≡ true) →
            DisksWalk f x tops B e j outs v d M) → ClaimsLast tops A.world j ack (Some (u, how)) →
            handle_told j d t from ack ends u how ≡ Took v outs → BothWalk x tops A e j outs v d M
        at_one n named u how last j one = subst (λ j. SeesBoth x tops A (up j d t M) → ((f : Note → Bool) (B : Office) →
            SeesBoth x tops B (up j d t M) → (ack ≡ true → f (Acks (uid_number u)) ≡ true) → DisksWalk f x tops B e j outs v d M) →
            ClaimsLast tops A.world j ack (Some (u, how))
            → handle_told j d t from ack ends u how ≡ Took v outs → BothWalk x tops A e j outs v d M) one
            (λ seen walk c h.
            told_both x tops unwalked e d t v n from ack ends u outs A M named knows.kinds (counts n named).there seen walk how c h)

        there : (n : Naming) → t.naming ≡ Some n → (o : Option (Uid × End)) → last_end ends ≡ o → Calm
        there n named None last = calm (left_by t [] (sym (ap (handle_ends k d t from ack ends) last) ∙ g) (refl, refl))
            (walk_at (λ z. false) (other_notes (λ z. false)
            (λ u how on also_last acks. absurd (never (ap is_some also_last) (ap is_some (last_of None last)))) A) (other_booked A))
        there n named (Some z) last = at_one n named z.0 z.1 last k (sym (knows.naming_here n named).0) both
            (λ f B seen ok. walk_from f B seen (other_notes f (λ u how on also_last acks. subst (λ w. f (Acks (uid_number w)) ≡ true)
            (ap (λ (p : Uid × End). p.0) (some_is (last_of (Some z) last) also_last)) (ok (sym (ap told_ack is) ∙ acks))) B)
            (other_booked B))
            (subst (ClaimsLast tops A.world k ack) last (claimed tops A.world both.disks))
            (sym (ap (handle_ends k d t from ack ends) last) ∙ g)

        by : (o : Option Naming) → t.naming ≡ o → Calm
        by None named = calm (ends_leave ack ends (last_end ends) named g)
            (ends_are_walked x (followed tops A.world (λ n. false)) e k d t v from ack ends outs M (knows.elsewhere named) named
            (A.world, walks_start x tops (λ n. false) A (up k d t M) both) (λ W s. claimed (followed tops A.world (λ n. false)) W s) g)
        by (Some n) named = there n named (last_end ends) refl

    by_hello : (node inc : ℕ) → is_told m ≡ false → handle_hello d t node inc ≡ Took v outs → Calm
    by_hello node inc off g = by t.naming refl
      where
        at_one : (n : Naming) → (j : ℕ) → 1 ≡ j → SeesBoth x tops A (up j d t M) → DisksWalk (λ z. false) x tops A e j outs v d M →
            BothWalk x tops A e j outs v d M
        at_one n j one = subst (λ j. SeesBoth x tops A (up j d t M) → DisksWalk (λ z. false) x tops A e j outs v d M →
            BothWalk x tops A e j outs v d M) one (λ seen walk. hellos_keep_both x tops e d t v node inc outs A M unwalked g seen walk)

        by : (o : Option Naming) → t.naming ≡ o → Calm
        by None named = calm
            (left_by (record t { naming = naming_hello node inc t.naming }) (map query_about (filter (is_earlier node inc) (holders d t))) g
            (ap (naming_hello node inc) named ∙ sym named, queries_leave (filter (is_earlier node inc) (holders d t)))) (untold off)
        by (Some n) named = at_one n k (sym (knows.naming_here n named).0) both (untold off)

    by_other : (z : Message) → m ≡ z → handle_other k d t from z ≡ Took v outs → Calm
    by_other (message.Told z) is g = by_told z.root z.ack z.ends is g
    by_other (message.Acked z) is g =
        calm (coord_leaves_all (acked from z.act d.intents t.coord) (acked_own from z.act d.intents t.coord) g) (untold (ap is_told is))
    by_other (message.Query z) is g = calm (left_by t (answer_query from z.act d.intents t.coord) g
        (refl, coord_leaves (answer_query from z.act d.intents t.coord) (query_own from z.act d.intents t.coord))) (untold (ap is_told is))
    by_other (message.Hello z) is g = by_hello z.node z.inc (ap is_told is) g
    by_other (message.Bind z) is g = absurd (cc g)
    by_other (message.Bound z) is g = absurd (cc g)
    by_other (message.Load z) is g = absurd (cc g)
    by_other (message.Loaded z) is g = absurd (cc g)
    by_other (message.Activate z) is g = absurd (cc g)
    by_other (message.Activated z) is g = absurd (cc g)
    by_other (message.RecordMsg z) is g = absurd (cc g)
    by_other (message.Recorded z) is g = absurd (cc g)
    by_other (message.Invoke z) is g = absurd (cc g)
    by_other (message.Invoked z) is g = absurd (cc g)
    by_other (message.Vote z) is g = absurd (cc g)
    by_other (message.Voted z) is g = absurd (cc g)
    by_other (message.Prepare z) is g = absurd (cc g)
    by_other (message.Prepared z) is g = absurd (cc g)
    by_other (message.Confirm z) is g = absurd (cc g)
    by_other (message.Confirmed z) is g = absurd (cc g)

  -- ---- whichever it is

  abbrev So : Type 0
  So = Walks (IsSeenAfter (change_by x d t m) x tops A) e k outs (Up (IsSeenAfter (change_by x d t m) x tops A) k v) d M

  calmly : change_by x d t m ≡ Quietly → Calm → So
  calmly quiet walk = subst (λ o. Walks (IsSeenAfter o x tops A) e k outs (Up (IsSeenAfter o x tops A) k v) d M) (sym quiet) walk

  -- a Bind's answer decides nothing
  module _ (h : Head) (y : ℕ) (include : Bool) (avoid : Binding) where
    answer_calm : (o : Option BoundReply) → IsCalm (answer_change x y (top_of h.path) o)
    answer_calm None = tt
    answer_calm (Some r) = by (y == x)
      where
        by : (b : Bool) → IsCalm (if b then Answering (uid_number (top_of h.path)) r else Quietly)
        by true = tt
        by false = tt

    bind_calm : (o : Option Naming) → IsCalm (bind_change x y include avoid h d o)
    bind_calm None = tt
    bind_calm (Some n) = answer_calm (let s = naming.bind h.path y include avoid d.names n in s.reply)

  -- a Bind's walk has no work on which a stop could fall
  bind_so : (h : Head) (y : ℕ) (include : Bool) (avoid : Binding) → asks m ≡ Some (h, ask.Bind y include avoid) →
      serve k d t from h (ask.Bind y include avoid) ≡ Took v outs → So
  bind_so h y include avoid it is =
      subst (λ o. Walks (IsSeenAfter o x tops A) e k outs (Up (IsSeenAfter o x tops A) k v) d M) (sym (ap (asked_change x d t m) it))
      (no_work e k M (IsSeenFrom x tops A) (IsSeenAfter (bind_change x y include avoid h d t.naming) x tops A) (λ c N. (B : Office)
      × OnlyMemory A B × SeesBoth x tops B (up k c v N) × Answered_so (bind_change x y include avoid h d t.naming) B)
      (Up (IsSeenAfter (bind_change x y include avoid h d t.naming) x tops A) k v) d
      (λ L same s. turned (bind_change x y include avoid h d t.naming) (bind_calm h y include avoid t.naming) s) outs
      (bind_work h y include avoid is) M refl (by_bind h y include avoid it is))
    where
      turned : {N : Seen} (o : Change) → IsCalm o → (B : Office) × OnlyMemory A B × SeesBoth x tops B N × Answered_so o B →
          IsSeenAfter o x tops A N
      turned Quietly calm s = (s.0, s.1, s.2)
      turned (Answering u r) calm s = (s.0, (s.1, s.3), s.2)
      turned (Deciding u keeps) calm s = absurd calm

  asked_so : (h : Head) (a : Ask) → asks m ≡ Some (h, a) → serve k d t from h a ≡ Took v outs → So
  asked_so h (ask.Bind y include avoid) it is = bind_so h y include avoid it is
  asked_so h (ask.Load y) it is = calmly (ap (asked_change x d t m) it) (by_ask h (ask.Load y) it is)
  asked_so h (ask.Activate b st) it is = calmly (ap (asked_change x d t m) it) (by_ask h (ask.Activate b st) it is)
  asked_so h (ask.Record y b i g0) it is = calmly (ap (asked_change x d t m) it) (by_ask h (ask.Record y b i g0) it is)
  asked_so h (ask.Invoke y b i ends op) it is = calmly (ap (asked_change x d t m) it) (by_ask h (ask.Invoke y b i ends op) it is)
  asked_so h (ask.Vote i ties ends) it is = calmly (ap (asked_change x d t m) it) (by_ask h (ask.Vote i ties ends) it is)
  asked_so h (ask.Prepare states) it is = calmly (ap (asked_change x d t m) it) (by_ask h (ask.Prepare states) it is)
  asked_so h (ask.Confirm grants excluded included) it is =
      calmly (ap (asked_change x d t m) it) (by_ask h (ask.Confirm grants excluded included) it is)

  pub message_both : So
  message_both = by (asks m) refl
    where
      by_answers : asks m ≡ None → (o : Option (Asked × Reply)) → answers m ≡ o → So
      by_answers none None also = calmly (ap (asked_change x d t m) none ∙ ap (reply_change x t.coord) also)
          (by_other none also m refl (sym (ap (handle_answer k d t from m) also) ∙ (sym (ap (handle_ask k d t from m) none) ∙ handled)))
      by_answers none (Some a) it =
          by_answer a.0 a.1 it none (sym (ap (handle_answer k d t from m) it) ∙ (sym (ap (handle_ask k d t from m) none) ∙ handled))

      by : (o : Option (Head × Ask)) → asks m ≡ o → So
      by None none = by_answers none (answers m) refl
      by (Some a) it = asked_so a.0 a.1 it (sym (ap (handle_ask k d t from m) it) ∙ handled)

  -- ---- where stops fall

  abbrev Stopped_so : Type 0
  Stopped_so = Walks (IsOpenAfter (change_by x d t m) x tops A) e k outs (λ c N. ⊤) d M

  calm_stops : (o : Change) → IsCalm o → Walks (IsSeenAfter o x tops A) e k outs (Up (IsSeenAfter o x tops A) k v) d M →
      Walks (IsOpenAfter o x tops A) e k outs (λ c N. ⊤) d M
  calm_stops Quietly calm walk = walks_to (IsSeenAfter Quietly x tops A) (IsOpenAfter Quietly x tops A) e k outs
      (Up (IsSeenAfter Quietly x tops A) k v) (λ c N. ⊤) d M (λ N s. (s.0, s.1, (let o = s.1 in o.tops), s.2)) (λ c N s. tt) walk
  calm_stops (Answering u r) calm walk = walks_to (IsSeenAfter (Answering u r) x tops A) (IsOpenAfter (Answering u r) x tops A) e k outs
      (Up (IsSeenAfter (Answering u r) x tops A) k v) (λ c N. ⊤) d M (λ N s. (s.0, s.1, (let o = s.1.0 in o.tops), s.2)) (λ c N s. tt) walk
  calm_stops (Deciding u keeps) calm walk = absurd calm

  calmly_stops : IsCalm (change_by x d t m) → Stopped_so
  calmly_stops calm = calm_stops (change_by x d t m) calm message_both

  asks_calm : (h : Head) (a : Ask) → asks m ≡ Some (h, a) → IsCalm (change_by x d t m)
  asks_calm h (ask.Bind y include avoid) it = subst IsCalm (sym (ap (asked_change x d t m) it)) (bind_calm h y include avoid t.naming)
  asks_calm h (ask.Load y) it = subst IsCalm (sym (ap (asked_change x d t m) it)) tt
  asks_calm h (ask.Activate b st) it = subst IsCalm (sym (ap (asked_change x d t m) it)) tt
  asks_calm h (ask.Record y b i g0) it = subst IsCalm (sym (ap (asked_change x d t m) it)) tt
  asks_calm h (ask.Invoke y b i ends op) it = subst IsCalm (sym (ap (asked_change x d t m) it)) tt
  asks_calm h (ask.Vote i ties ends) it = subst IsCalm (sym (ap (asked_change x d t m) it)) tt
  asks_calm h (ask.Prepare states) it = subst IsCalm (sym (ap (asked_change x d t m) it)) tt
  asks_calm h (ask.Confirm grants excluded included) it = subst IsCalm (sym (ap (asked_change x d t m) it)) tt

  pub message_stops : Stopped_so
  message_stops = by (asks m) refl
    where
      by_answers : asks m ≡ None → (o : Option (Asked × Reply)) → answers m ≡ o → Stopped_so
      by_answers none None also = calmly_stops (subst IsCalm (sym (ap (asked_change x d t m) none ∙ ap (reply_change x t.coord) also)) tt)
      by_answers none (Some a) it = ⊎_elim (λ calm. calmly_stops calm) (λ stops. stops)
          (stops_answer a.0 a.1 it none (sym (ap (handle_answer k d t from m) it) ∙ (sym (ap (handle_ask k d t from m) none) ∙ handled)))

      by : (o : Option (Head × Ask)) → asks m ≡ o → Stopped_so
      by None none = by_answers none (answers m) refl
      by (Some a) it = calmly_stops (asks_calm a.0 a.1 it)

pub messages_keep_both : MessagesKeepBoth
messages_keep_both x tops e k d t v from m outs A M unwalked knows sent counts may handled both =
    message_both x tops unwalked e k d t v from m outs A M knows sent counts may handled both

pub messages_stop_open : MessagesStopOpen
messages_stop_open x tops e k d t v from m outs A M unwalked knows sent counts may handled both =
    message_stops x tops unwalked e k d t v from m outs A M knows sent counts may handled both
