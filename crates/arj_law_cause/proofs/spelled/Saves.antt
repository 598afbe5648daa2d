-- States are in form wherever they are: on disks of stores, at servers, with coordinators and in messages; and so is what servers answer.
-- They restore, and answers are in form, where this holds: that older states restore.
use Rattle.arj_law_parts.proofs.Words
use Words.{◌≡◌, ◌∙◌, ◌++◌, ℕ, Bool, true, false, cond, filter, map, List, [], ◌∷◌, Option, Some, None, IfSome, refl, sym, ap}
use Words.{subst, ⊤, option_map, AllByRecursion, list_all, and_parts, object}
use Words.{unwrap_or, either, first_refusal, refusal_in, refusal_of, by_holder, is_old, uid_eq, Pair, VotedReply}
use Words.{activate_own, bind_own, confirm_own, ends_own, invoke_own, note_own, told_own, vote_own, Ask, Asked, End, Head}
use Words.{Message, ObjectState, Op, Uid, asks, Reply, actor, answers, asked_by, last_end, response}
use Words.{heard, Coord, Abort, After, Already, Before, Commit, Disk, Do, Effect, InDoubt, InPart, Look}
use Words.{Old, Prep, Prepare, PutInc, PutIntent, Ready, RemoveIntent, Say, Send, Served, Stop, Work, held_at, holder_of, is_prepared}
use Words.{prepare_answer, stopped, worked, acked}
use Words.{answer_query, Naming, Handled, Parts, Took, Void, ack_told, coord_heard, end_states, handle, handle_ends, handle_other}
use Words.{holders, if_naming, is_earlier, is_meant, answer_is_meant, asked_is_meant, load_by, load_held, naming_told, prepare_by}
use Words.{query_about, sends_answer, serve, served, store_told, with_naming, with_server, AreAll}
use Words.{is_naming_effect, is_server_effect, Node, response_reads_back, Post}
use Words.{Seen, Binding, confirm}
use Words.ask
use Words.body
use Words.ending
use Words.loaded
use Words.message
use Words.prepared
use Words.role
use Words.voted
use Words.naming
use Words.server
use Rattle.arj_law_promise.proofs.Terms
use Terms.{AllSilent, Fits, In, Own, all_append, by_coord, by_message}
use Terms.{some_is}
use Rattle.arj_law_disk_view.proofs.running.StateEnds.{acks_so, query_so}
use Rattle.arj_law_disk_view.proofs.running.StateInputs.{hears_so}
use Rattle.arj_law_disk_view.specs.running.States.{AllSay, AnsweredIsSo, AskIsSo, AskedIsSo, CoordIsSo, MayKeep, MessageIsSo, PreparesNone}
use Rattle.arj_law_disk_view.specs.running.States.{ReplyIsSo}
use Rattle.arj_law_serial.proofs.Terms.{OpTextInForm}
use Rattle.arj_law_serial.proofs.joint.FormPairs.{aborted_so, committed_so, in_part_so, prepared_so}
use Rattle.arj_law_serial.specs.joint.Forms.{PairIsSo}
use Rattle.arj_law_cause.proofs.spelled.Servers as servers
use Rattle.arj_law_cause.proofs.spelled.Servers.{InvokedSays, IsByTop, IsMade, Restored, ServerSaves}
use Rattle.arj_base.specs.Uid.{UidFits}
use Rattle.arj_msg.specs.InForm.{IsLong}

-- each operation that is asked of a server is in form
abbrev pub AreOpsIn : List Post → Type 0
AreOpsIn sent = (p : Post) (h : Head) (x : ℕ) (b : Binding) (i : ℕ) (ends : List (Uid × End)) (o : Op) → In p sent →
    asks p.message ≡ Some (h, ask.Invoke x b i ends o) → OpTextInForm o

module _ (A : Type 0) where
  -- ---- what is so

  -- a state is in form, under whatever Uid, and so is that of who wrote it
  abbrev pub Saved : Uid → ObjectState → Type 0
  Saved u st = IsMade A st × UidFits st.writer

  abbrev pub F : Fits
  F = record { loaded = Saved; voted = Saved; kept = Saved }

  pub keep : MayKeep F
  keep = record { loaded = λ u st its. its; voted = λ u st its. its }

  -- a node's memory
  abbrev pub PartsSave : Parts → Type 0
  PartsSave t = ServerSaves A t.server × CoordIsSo F t.coord

  abbrev pub UpSaves : Option Parts → Type 0
  UpSaves None = ⊤
  UpSaves (Some t) = PartsSave t

  -- a node's store, and its memory
  abbrev pub NodeSaves : Node → Type 0
  NodeSaves n = PairIsSo Saved (let d = n.disk in d.store) × UpSaves n.live

  -- of an answer: what an operation answers, and the version of a state
  abbrev pub ReplySays : Reply → Type 0
  ReplySays (Reply.Invoked r) = InvokedSays A r
  ReplySays (Reply.Prepared (prepared.Old x v)) = IsLong v
  ReplySays r = ⊤

  -- so it is of a message
  abbrev pub AnswersSave : Message → Type 0
  AnswersSave m = (a : Asked) (r : Reply) → answers m ≡ Some (a, r) → ReplySays r

  abbrev pub MessageSaves : Message → Type 0
  MessageSaves m = MessageIsSo F m × AnswersSave m

  -- each node and each message
  abbrev pub AreSavedIn : Seen → Type 0
  AreSavedIn M = ((j : ℕ) (n : Node) → M.nodes j ≡ Some n → NodeSaves n) × ((p : Post) → In p M.sent → MessageSaves p.message)

  -- ---- work, and effects

  abbrev pub WorkSaves : Work → Type 0
  WorkSaves (Prepare role.Store u states) = AllByRecursion (Own Saved) states
  WorkSaves w = ⊤

  abbrev pub Store : Disk → Type 0
  Store d = PairIsSo Saved d.store

  pub worked_so : (w : Work) (d : Disk) → WorkSaves w → Store d → Store (worked w d)
  worked_so Look d its so = so
  worked_so (PutInc i) d its so = so
  worked_so (Prepare role.Store u states) d its so = prepared_so Saved u states d.store its so
  worked_so (Prepare role.Names u states) d its so = so
  worked_so (Commit role.Store u) d its so = committed_so Saved u d.store so
  worked_so (Commit role.Names u) d its so = so
  worked_so (Abort role.Store u) d its so = aborted_so Saved u d.store so
  worked_so (Abort role.Names u) d its so = so
  worked_so (PutIntent u i) d its so = so
  worked_so (RemoveIntent u) d its so = so

  pub stopped_so : (how : Stop) (w : Work) (d : Disk) → WorkSaves w → Store d → Store (stopped how w d)
  stopped_so Before w d its so = so
  stopped_so After w d its so = worked_so w d its so
  stopped_so (InPart which) (Commit role.Store u) d its so = in_part_so Saved which u d.store so
  stopped_so (InPart which) (Commit role.Names u) d its so = so
  stopped_so (InPart which) Look d its so = so
  stopped_so (InPart which) (PutInc i) d its so = so
  stopped_so (InPart which) (Prepare r u states) d its so = so
  stopped_so (InPart which) (Abort r u) d its so = so
  stopped_so (InPart which) (PutIntent u i) d its so = so
  stopped_so (InPart which) (RemoveIntent u) d its so = so

  abbrev pub EffectSaves : Effect → Type 0
  EffectSaves (Send to m) = MessageSaves m
  EffectSaves (Say b) = ⊤
  EffectSaves (Do w) = WorkSaves w

  abbrev pub AllSave : List Effect → Type 0
  AllSave outs = AllByRecursion EffectSaves outs

  both : (es fs : List Effect) → AllSave es → AllSave fs → AllSave (es ++ fs)
  both es fs a b = all_append EffectSaves es fs a b

  works_so : (w : Work) → PreparesNone w → WorkSaves w
  works_so Look none = tt
  works_so (PutInc i) none = tt
  works_so (Prepare r u states) none = absurd none
  works_so (Commit r u) none = tt
  works_so (Abort r u) none = tt
  works_so (PutIntent u i) none = tt
  works_so (RemoveIntent u) none = tt

  -- what a coordinator says, and answers nobody
  pub coord_saves : (es : List Effect) → AllSay F es → AllSilent es → AllSave es
  coord_saves [] all silent = tt
  coord_saves (Send to m ∷ es) all silent = (
    (
      all.0,
      λ a r is. let no_way : ◌≡◌ {A = Option (Asked × Reply)} None (Some (a, r)) = sym silent.0 ∙ is in absurd (cc no_way),
    ),
    coord_saves es all.1 silent.1,
  )
  coord_saves (Say b ∷ es) all silent = (tt, coord_saves es all.1 silent.1)
  coord_saves (Do w ∷ es) all silent = (works_so w all.0, coord_saves es all.1 silent.1)

  -- lines, and work on entries
  naming_saves : (es : List Effect) → AreAll is_naming_effect es → AllSave es
  naming_saves [] own = tt
  naming_saves (Say b ∷ es) own = (tt, naming_saves es (and_parts (is_naming_effect (Say b)) (list_all is_naming_effect es) own).1)
  naming_saves (Send to m ∷ es) own = absurd (cc own)
  naming_saves (Do w ∷ es) own = (
    work w (and_parts (is_naming_effect (Do w)) (list_all is_naming_effect es) own).0,
    naming_saves es
        (and_parts (is_naming_effect (Do w)) (list_all is_naming_effect es) own).1,
  )
    where
      work : (w : Work) → is_naming_effect (Do w) ≡ true → WorkSaves w
      work (Prepare role.Store u states) is = absurd (cc is)
      work (Prepare role.Names u states) is = tt
      work Look is = tt
      work (PutInc i) is = tt
      work (Commit r u) is = tt
      work (Abort r u) is = tt
      work (PutIntent u i) is = tt
      work (RemoveIntent u) is = tt

  server_saves : (n : ℕ) (es : List Effect) → AreAll (is_server_effect n) es → AllSave es
  server_saves n [] own = tt
  server_saves n (Say b ∷ es) own = (tt, server_saves n es (and_parts (is_server_effect n (Say b)) (list_all (is_server_effect n) es) own).1)
  server_saves n (Send to m ∷ es) own = absurd (cc own)
  server_saves n (Do w ∷ es) own = absurd (cc own)

  -- ---- answers

  -- what an answer has to say
  abbrev ReplySaves : Reply → Type 0
  ReplySaves (Reply.Loaded (loaded.State st)) = Own Saved st
  ReplySaves (Reply.Voted (voted.Yes states)) = AllByRecursion (Own Saved) states
  ReplySaves (Reply.Invoked r) = InvokedSays A r
  ReplySaves (Reply.Prepared (prepared.Old x v)) = IsLong v
  ReplySaves r = ⊤

  reply_says : (r : Reply) → ReplySaves r → ReplySays r
  reply_says (Reply.Invoked r) its = its
  reply_says (Reply.Prepared (prepared.Old x v)) its = its
  reply_says (Reply.Prepared prepared.Yes) its = tt
  reply_says (Reply.Prepared (prepared.InDoubt x u)) its = tt
  reply_says (Reply.Bound r) its = tt
  reply_says (Reply.Loaded r) its = tt
  reply_says (Reply.Activated i) its = tt
  reply_says (Reply.Noted r) its = tt
  reply_says (Reply.Voted r) its = tt
  reply_says (Reply.Confirmed r) its = tt

  reply_so : (r : Reply) → ReplySaves r → ReplyIsSo F r
  reply_so (Reply.Loaded (loaded.State st)) its = its
  reply_so (Reply.Loaded (loaded.InDoubt h)) its = tt
  reply_so (Reply.Voted (voted.Yes states)) its = its
  reply_so (Reply.Voted (voted.Changed w)) its = tt
  reply_so (Reply.Bound r) its = tt
  reply_so (Reply.Activated i) its = tt
  reply_so (Reply.Noted r) its = tt
  reply_so (Reply.Invoked r) its = tt
  reply_so (Reply.Prepared r) its = tt
  reply_so (Reply.Confirmed r) its = tt

  response_saves : (to : ℕ) (a : Asked) (q : Reply) → ReplySaves q → EffectSaves (Send to (response a q))
  response_saves to a q its = (
    so q (reply_so q its),
    λ b r is. subst ReplySays
        (ap (λ (z : Asked × Reply). z.1) (some_is (sym (response_reads_back a q) ∙ is))) (reply_says q its),
  )
    where
      so : (r : Reply) → ReplyIsSo F r → MessageIsSo F (response a r)
      so (Reply.Bound r) s = (tt, s)
      so (Reply.Loaded r) s = (tt, s)
      so (Reply.Activated i) s = (tt, s)
      so (Reply.Noted r) s = (tt, s)
      so (Reply.Invoked r) s = (tt, s)
      so (Reply.Voted r) s = (tt, s)
      so (Reply.Prepared r) s = (tt, s)
      so (Reply.Confirmed r) s = (tt, s)

  -- ---- what a store has

  -- the version of a state that is newer
  abbrev PrepLong : Prep → Type 0
  PrepLong (Old u v) = IsLong v
  PrepLong a = ⊤

  prep_long : (act : Uid) (d : Pair) → PairIsSo Saved d → (states : List ObjectState) → PrepLong (prepare_answer act states d)
  prep_long act d so states = out (first_refusal act d states) (first states)
    where
      out : (o : Option Prep) → IfSome o PrepLong → PrepLong (unwrap_or o Ready)
      out None fits = tt
      out (Some a) fits = fits

      either_long : (o q : Option Prep) → IfSome o PrepLong → IfSome q PrepLong → IfSome (either o q) PrepLong
      either_long None q a b = b
      either_long (Some z) q a b = a

      held_by : (s : ObjectState) (o : Option Uid) → IfSome (by_holder s o) PrepLong
      held_by s None = tt
      held_by s (Some u) = tt

      refused : (s : ObjectState) (h : Option ObjectState) (o : Option Uid) → held_at s.uid d ≡ h → IfSome (refusal_of act s h o) PrepLong
      refused s None o is = held_by s o
      refused s (Some h) o is = by (uid_eq h.writer act) (is_old s h)
        where
          by : (a b : Bool) → IfSome (cond {A = Option Prep} a (Some (Already s.uid))
              (cond {A = Option Prep} b (Some (Old s.uid h.version)) (by_holder s o))) PrepLong
          by true b = tt
          by false true = let p = so.held s.uid h is in let q = p.0 in let w = q.0 in w.1.1
          by false false = held_by s o

      first : (ss : List ObjectState) → IfSome (first_refusal act d ss) PrepLong
      first [] = tt
      first (s ∷ ss) = either_long (refusal_in act d s) (first_refusal act d ss)
          (refused s (held_at s.uid d) (holder_of s.uid d) refl) (first ss)

  -- ---- one message

  module _ (k : ℕ) (d : Disk) (t : Parts) (from : ℕ) (store : Store d) (its : PartsSave t) where
    abbrev pub By : Handled → Type 0
    By (Void outs) = ⊤
    By (Took v outs) = PartsSave v × AllSave outs

    answered_by : (h : Head) (v : Parts) (outs : List Effect) (o : Option Reply) → PartsSave v → AllSave outs → IfSome o ReplySaves →
        By (sends_answer from h v outs o)
    answered_by h v outs None part all each = tt
    answered_by h v outs (Some r) part all each =
        (part, both outs (Send from (response (asked_by h) r) ∷ []) all (response_saves from (asked_by h) r each, tt))

    said_so : {Q : Type 0} (say : Q → Reply) → (o : Option Q) → IfSome o (λ q. ReplySaves (say q)) → IfSome (option_map say o) ReplySaves
    said_so say None each = tt
    said_so say (Some q) each = each

    any_so : {Q : Type 0} (say : Q → Reply) → ((q : Q) → ReplySaves (say q)) → (o : Option Q) → IfSome (option_map say o) ReplySaves
    any_so say each None = tt
    any_so say each (Some q) = each q

    with_it : (f : Naming → Handled) (o : Option Naming) → ((n : Naming) → By (f n)) → By (if_naming f o)
    with_it f None each = tt
    with_it f (Some n) each = each n

    module _ (m : Message) (so : MessageSaves m) (ops : (h : Head) (x : ℕ) (b : Binding) (i : ℕ) (ends : List (Uid × End)) (o : Op) →
        asks m ≡ Some (h, ask.Invoke x b i ends o) → OpTextInForm o)
        (asker : (h : Head) (a : Ask) → asks m ≡ Some (h, a) → UidFits (actor h.path)) where
      asked : (h : Head) (a : Ask) → asks m ≡ Some (h, a) → AskIsSo F a → By (serve k d t from h a)
      asked h (ask.Bind x include avoid) is fits =
          with_it (λ o. served from h (with_naming t) Reply.Bound (naming.bind h.path x include avoid d.names o)) t.naming
          (λ n. let r = naming.bind h.path x include avoid d.names n in answered_by h (with_naming t r.part) r.outs
          (option_map Reply.Bound r.reply) its (naming_saves r.outs (bind_own h.path x include avoid d.names n))
          (any_so Reply.Bound (λ q. tt) r.reply))
      asked h (ask.Load x) is fits = load (holder_of (object x) d.store)
        where
          held : (o : Option ObjectState) → held_at (object x) d.store ≡ o → By (load_held from h t o)
          held None at_it = tt
          held (Some s) at_it = answered_by h t (Do Look ∷ []) (Some (Reply.Loaded (loaded.State s))) its (tt, tt)
              (let p = store.held (object x) s at_it in p.0)

          load : (o : Option Uid) → By (load_by x d.store from h t o)
          load (Some u) = answered_by h t [] (Some (Reply.Loaded (loaded.InDoubt u))) its tt tt
          load None = held (held_at (object x) d.store) refl
      asked h (ask.Activate b st) is fits = let r = server.activate k h.path b st t.server in answered_by h (with_server t r.part) r.outs
          (option_map Reply.Activated r.reply) (servers.activate_so A k h.path b st t.server fits.0 its.0, its.1)
          (server_saves k r.outs (activate_own k h.path b st t.server)) (any_so Reply.Activated (λ q. tt) r.reply)
      asked h (ask.Record x b i g) is fits =
          with_it (λ o. served from h (with_naming t) Reply.Noted (naming.note h.path x b i g o)) t.naming
          (λ n. let r = naming.note h.path x b i g n in answered_by h (with_naming t r.part) r.outs (option_map Reply.Noted r.reply) its
          (naming_saves r.outs (note_own h.path x b i g n)) (any_so Reply.Noted (λ q. tt) r.reply))
      asked h (ask.Invoke x b i ends o) is fits = let r = server.invoke k h x b i ends o t.server in
          let a = servers.invoke_so A k h x b i ends o t.server (ops h x b i ends o is) its.0 in
          answered_by h (with_server t r.part) r.outs (option_map Reply.Invoked r.reply) (a.0, its.1)
          (server_saves k r.outs (invoke_own k h x b i ends o t.server)) (said_so Reply.Invoked r.reply a.1)
      asked h (ask.Vote i ties ends) is fits = let r = server.vote k h.path i ties ends t.server in
          let v = servers.vote_so A k h.path i ties ends t.server its.0 in
          answered_by h (with_server t r.part) r.outs (option_map Reply.Voted r.reply) (v.0, its.1)
          (server_saves k r.outs (vote_own k h.path i ties ends t.server))
          (said_so Reply.Voted r.reply (voted_so r.reply v.1 (servers.vote_by k h.path i ties ends t.server)))
        where
          by_top : (states : List ObjectState) → AllByRecursion (IsMade A) states →
              AllByRecursion (λ (st : ObjectState). st.writer ≡ actor h.path) states → AllByRecursion (Own Saved) states
          by_top [] made top = tt
          by_top (st ∷ rest) made top =
              ((made.0, subst UidFits (sym top.0) (asker h (ask.Vote i ties ends) is)), by_top rest made.1 top.1)

          voted_so : (o : Option VotedReply) → IfSome o (Restored A) → IfSome o (IsByTop (actor h.path)) →
              IfSome o (λ q. ReplySaves (Reply.Voted q))
          voted_so None made top = tt
          voted_so (Some (voted.Yes states)) made top = by_top states made top
          voted_so (Some (voted.Changed w)) made top = tt
      asked h (ask.Prepare states) is fits = each (is_prepared (actor h.path) d.store)
        where
          new : (a : Prep) → PrepLong a → By (prepare_by k states from h t a)
          new Ready long = answered_by h t
              (Do Look ∷ Do (Prepare role.Store (actor h.path) states) ∷ Say (body.Prepared k (actor h.path) role.Store) ∷ [])
              (Some (Reply.Prepared prepared.Yes)) its (tt, (fits, (tt, tt))) tt
          new (Already u) long = tt
          new (Old u v) long = answered_by h t (Do Look ∷ []) (Some (Reply.Prepared (prepared.Old u.num v))) its (tt, tt) long
          new (InDoubt u holder) long = answered_by h t (Do Look ∷ []) (Some (Reply.Prepared (prepared.InDoubt u.num holder))) its (tt, tt) tt

          each : (b : Bool) → By (cond b (sends_answer from h t [] (Some (Reply.Prepared prepared.Yes)))
              (prepare_by k states from h t (prepare_answer (actor h.path) states d.store)))
          each true = answered_by h t [] (Some (Reply.Prepared prepared.Yes)) its tt tt
          each false = new (prepare_answer (actor h.path) states d.store) (prep_long (actor h.path) d.store store states)
      asked h (ask.Confirm grants excluded included) is fits =
          with_it (λ o. served from h (with_naming t) Reply.Confirmed (confirm h.path grants excluded included d.names o)) t.naming
          (λ n. let r = confirm h.path grants excluded included d.names n in answered_by h (with_naming t r.part) r.outs
          (option_map Reply.Confirmed r.reply) its (naming_saves r.outs (confirm_own h.path grants excluded included d.names n))
          (any_so Reply.Confirmed (λ q. tt) r.reply))

      ends_left : (ack : Bool) (ends : List (Uid × End)) (o : Option (Uid × End)) → By (handle_ends k d t from ack ends o)
      ends_left ack ends None = (its, tt)
      ends_left ack ends (Some e) =
          let s = server.told k ends t.server in
          let o = naming_told e.0 e.1 d.names t.naming in (
            (servers.told_so A k ends t.server its.0, its.1),
            both (store_told k e.0 e.1 d.store ++ o.outs ++ s.outs) (ack_told from e.0 ack)
                (both (store_told k e.0 e.1 d.store ++ o.outs) s.outs
                (both (store_told k e.0 e.1 d.store) o.outs (ended (is_prepared e.0 d.store) e.1) (named t.naming))
                (server_saves k s.outs (ends_own k ends t.server))) (acked_told ack),
          )
        where
          ended : (b : Bool) (how : End) → AllSave (cond b (end_states k e.0 how) [])
          ended false how = tt
          ended true ending.Commit = (tt, (tt, tt))
          ended true ending.Abort = (tt, (tt, tt))

          named : (o : Option Naming) → AllSave (let r = naming_told e.0 e.1 d.names o in r.outs)
          named None = tt
          named (Some n) = naming_saves (naming.told e.0 e.1 d.names n).outs (told_own e.0 e.1 d.names n)

          acked_told : (b : Bool) → AllSave (ack_told from e.0 b)
          acked_told true = (((tt, tt), λ a r is. absurd (cc is)), tt)
          acked_told false = tt

      queries : (us : List Uid) → AllSave (map query_about us)
      queries [] = tt
      queries (u ∷ us) = (((tt, tt), λ a r is. absurd (cc is)), queries us)

      module _ (hears : (a : Asked) (r : Reply) → AllSilent (heard from a r d.intents t.coord).outs)
          (acks : (u : Uid) → AllSilent (acked from u d.intents t.coord).outs)
          (tells : (u : Uid) → AllSilent (answer_query from u d.intents t.coord)) (meant : is_meant t m ≡ true) where
        coord_left : (r : Served Coord (Unit {0})) → CoordIsSo F r.part × AllSay F r.outs → AllSilent r.outs → By (coord_heard t r)
        coord_left r so_far silent = by_coord k d t from By tt r ((its.0, so_far.0), coord_saves r.outs so_far.1 silent)

        other : (p : Message) → By (handle_other k d t from p)
        other (message.Told p) = ends_left p.ack p.ends (last_end p.ends)
        other (message.Acked p) =
            coord_left (acked from p.act d.intents t.coord) (acks_so F keep from p.act d.intents t.coord its.1) (acks p.act)
        other (message.Query p) = (
          its,
          coord_saves (answer_query from p.act d.intents t.coord)
              (query_so F keep from p.act d.intents t.coord) (tells p.act),
        )
        other (message.Hello p) = (its, queries (filter (is_earlier p.node p.inc) (holders d t)))
        other p = tt

        answer : (a : Asked) (r : Reply) → answers m ≡ Some (a, r) → By (coord_heard t (heard from a r d.intents t.coord))
        answer a r is = coord_left (heard from a r d.intents t.coord)
            (hears_so F keep from a r d.intents t.coord its.1
            (subst (λ o. answer_is_meant t.coord o ≡ true) is
            (and_parts (asked_is_meant t.server (asks m)) (answer_is_meant t.coord (answers m)) meant).1)
            (subst (λ o. AnsweredIsSo F o) is (let z = so.0 in z.1)))
            (hears a r)

        pub message_saves : By (handle k d t from m)
        message_saves = by_message k d t from By tt m
            (λ h a is. asked h a is (subst (λ o. AskedIsSo F o) is (let z = so.0 in z.0)))
            answer (other m)
