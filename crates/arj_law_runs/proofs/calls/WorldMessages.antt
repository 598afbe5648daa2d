-- Each message that a node takes leaves what holds of calls and votes.
use Rattle.arj_law_parts.proofs.Words
use Words.{◌≡◌, ◌⊎◌, ◌==◌, ◌||◌, ℕ, List, [], ◌∷◌, ◌++◌, Bool, true, false, cond, Option, Some, None, refl, sym, ◌∙◌, ap, subst, inl, inr}
use Words.{⊎_elim, map, filter, ⊤, Contains, option_map, in_to, Uid, Ask, Asked, Binding, End, Head, InvokedReply, Message, ObjectState, Op}
use Words.{Path, What, VotedReply, asks, last_uid, object, Reply, actor, answers, asked_by, last_end, response, heard, Machine, plan_of}
use Words.{confirm, Committing, Coord, Doing, doing_of, Copy, Over, invoke_copy, Already, Disk, Do, Effect, InDoubt, Look, Old, Prep}
use Words.{Prepare, Ready, Say, Send, Served, either, held_at, holder_of, is_prepared, prepare_answer, reply, void, acked, answer_query}
use Words.{Naming, Handled, Parts, Took, Void, ack_told, by_reply, coord_heard, end_states, handle, handle_answer, handle_ask, handle_ends}
use Words.{handle_other, holders, if_naming, is_earlier, load_by, load_held, naming_told, prepare_by, query_about, sends_answer, serve}
use Words.{store_told, with_coord, with_naming, with_server, at_number, at_uid, binding_eq, binding_less, Kept, Server, active_binding}
use Words.{apply_ends, changed_by, changed_states, first_unbound, has_ended, invoke_kept, invoke_new, invoke_now, is_below, keeps, on_copy}
use Words.{other_inc, took_copy, vote_now, Node, activate_own, bind_own, confirm_own, ends_own, invoke_own, note_own, told_own, vote_own}
use Words.{Post, and_parts, list_all, if◌then◌else◌, PreparedReply, AreAll, is_server_effect, Did}
use Words.list
use Words.ask
use Words.body
use Words.ending
use Words.loaded
use Words.message
use Words.prepared
use Words.role
use Words.voted
use Words.naming
use Words.server
use Rattle.arj_law_runs.proofs.Terms
use Terms.{Action, AreTrue, IsTree, Paths, brought_by, FitsAsk, FitsMessage, SealsAsked, In, Call, IsSaidToCommit, call_by, ends_in}
use Terms.{is_refusal, refusal_of, refused_by, refuses, IsVotedIn, KnowsCalls, AreFromCalls, AreOneCall, AreKeyed, KnowsNode, vote_by}
use Terms.{vote_in, vote_of}
use Rattle.arj_law_runs.proofs.{calls.CoordOuts.query_so, calls.CoordSends.AllSo, calls.ServerInvokes.Left, calls.ServerInvokes.it_is_left}
use Rattle.arj_law_runs.proofs.calls.ServerCalls.{GoesOn, from_activate, from_before, from_told, from_vote, goes_activate, goes_invoke}
use Rattle.arj_law_runs.proofs.calls.ServerCalls.{goes_told, goes_vote, itself, past_on, some_is}
use Rattle.arj_law_runs.proofs.calls.WorldSteps.{ArePlain, IsPlain, answer_plain, answer_so, coord_plain, naming_plain, no_request}
use Rattle.arj_law_runs.proofs.calls.WorldSteps.{plain_both, plain_fine, reads_back, server_plain}
use Rattle.arj_law_runs.proofs.calls.WorldVotes.{fits_asked, keyed_put, keyed_told}
use Rattle.arj_law_runs.proofs.calls.WorldWalks.{AllFine, IsFine, VoteFits}
use Rattle.arj_law_runs.specs.calls.Servers.{HaveReached}

-- ---- each object once

keyed_activate : (n : ℕ) (p : Path) (b : Binding) (st : ObjectState) (s : Server) → AreKeyed s.objects →
    AreKeyed (let r = server.activate n p b st s in let z = r.part in z.objects)
keyed_activate n p b st s keyed =
    by (has_ended p s) (binding_less b (active_binding st.uid.num s)) (binding_eq b (active_binding st.uid.num s))
  where
    by : (over lower equal : Bool) → AreKeyed (let r = cond {A = Served Server ℕ} (over || lower) (void s)
        (cond equal (reply s s.inc) (took_copy n st.uid.num b st s)) in let z = r.part in z.objects)
    by true lower equal = keyed
    by false true equal = keyed
    by false false true = keyed
    by false false false = keyed_put st.uid.num _ s.objects keyed

keyed_vote : (n : ℕ) (p : Path) (i : ℕ) (ties : List (ℕ × Binding)) (ends : List (Uid × End)) (s : Server) → AreKeyed s.objects →
    AreKeyed (let r = server.vote n p i ties ends s in let z = r.part in z.objects)
keyed_vote n p i ties ends s keyed = by (has_ended p s)
  where
    yes : (w : Option What) → AreKeyed (let r = vote_now n (actor p) ends s w in let z = r.part in z.objects)
    yes (Some w) = keyed
    yes None = keyed_told n ends s keyed

    by : (b : Bool) → AreKeyed (let r = cond {A = Served Server VotedReply} b (void s)
        (vote_now n (actor p) ends s (either (other_inc i s.inc) (first_unbound ties s))) in let z = r.part in z.objects)
    by true = keyed
    by false = yes (either (other_inc i s.inc) (first_unbound ties s))

keyed_invoke : (n : ℕ) (h : Head) (x : ℕ) (b : Binding) (i : ℕ) (ends : List (Uid × End)) (o : Op) (s : Server) → AreKeyed s.objects →
    AreKeyed (let r = server.invoke n h x b i ends o s in let z = r.part in z.objects)
keyed_invoke n h x b i ends o s keyed = by (has_ended h.path s || is_below h.req (at_uid (actor h.path) s.kept))
  where
    kept_on : (q : Option InvokedReply) (z : Server) → AreKeyed z.objects → AreKeyed (let v = keeps (actor h.path) h.req q z in v.objects)
    kept_on None z its = its
    kept_on (Some a) z its = its

    copied : (z : Server) → AreKeyed z.objects → (c : Option Copy) →
        AreKeyed (let r = on_copy x (invoke_copy n h.path x o) z c in let v = r.part in v.objects)
    copied z its None = its
    copied z its (Some c) = keyed_put x (invoke_copy n h.path x o c).part z.objects its

    new : AreKeyed (let r = invoke_new n h x ends o s in let z = r.part in z.objects)
    new =
        let d = apply_ends n ends s in
        let t = d.part in
        let r = on_copy x (invoke_copy n h.path x o) t (at_number x t.objects) in
        kept_on r.reply r.part (copied t (keyed_told n ends s keyed) (at_number x t.objects))

    again : (k : Option Kept) → AreKeyed (let r = invoke_kept n h x ends o s k in let z = r.part in z.objects)
    again None = new
    again (Some k) = one (k.req == h.req)
      where
        one : (c : Bool) → AreKeyed (let r = cond {A = Served Server InvokedReply} c (reply s k.answer) (invoke_new n h x ends o s) in
            let z = r.part in z.objects)
        one true = keyed
        one false = new

    now : (w : Option What) → AreKeyed (let r = invoke_now n h x ends o s w in let z = r.part in z.objects)
    now (Some w) = keyed
    now None = again (at_uid (actor h.path) s.kept)

    by : (c : Bool) → AreKeyed (let r = cond {A = Served Server InvokedReply} c (void s)
        (invoke_now n h x ends o s (changed_by i x b s)) in let z = r.part in z.objects)
    by true = keyed
    by false = now (changed_by i x b s)

-- what a server answers Yes are the states that the top made
vote_states : (n : ℕ) (p : Path) (i : ℕ) (ties : List (ℕ × Binding)) (ends : List (Uid × End)) (s : Server) (states : List ObjectState) →
    (server.vote n p i ties ends s).reply ≡ Some (voted.Yes states) → states ≡ changed_states (actor p) (server.vote n p i ties ends s).part
vote_states n p i ties ends s states is = by (has_ended p s) is
  where
    yes : (w : Option What) → (vote_now n (actor p) ends s w).reply ≡ Some (voted.Yes states) →
        states ≡ changed_states (actor p) (vote_now n (actor p) ends s w).part
    yes (Some w) e = let no_way : ◌≡◌ {A = VotedReply} (voted.Changed w) (voted.Yes states) = some_is e in absurd (cc no_way)
    yes None e = let same : ◌≡◌ {A = VotedReply} (voted.Yes (changed_states (actor p) (let d = apply_ends n ends s in d.part)))
        (voted.Yes states) = some_is e in cc

    by : (b : Bool) → (cond {A = Served Server VotedReply} b (void s) (vote_now n (actor p) ends s
        (either (other_inc i s.inc) (first_unbound ties s)))).reply ≡ Some (voted.Yes states) → states ≡ changed_states (actor p) (cond
        {A = Served Server VotedReply} b (void s) (vote_now n (actor p) ends s (either (other_inc i s.inc) (first_unbound ties s)))).part
    by true e = let no_way : ◌≡◌ {A = Option VotedReply} None (Some (voted.Yes states)) = e in absurd (cc no_way)
    by false e = yes (either (other_inc i s.inc) (first_unbound ties s)) e

-- overlays have the paths of their actions
abbrev pub HaveOvers : Paths → Server → Type 0
HaveOvers paths s = (x : ℕ) (e : Copy) (o : Over) → at_number x s.objects ≡ Some e → list.In o e.stack →
    o.holder ≡ paths (last_uid o.holder)

-- a coordinator at the node that asks
abbrev pub IsCoordAt : (ℕ → Option Node) → ℕ → Coord → ℕ → Coord → Type 0
IsCoordAt nodes k own from c =
    ((from ≡ k) × (c ≡ own)) ⊎ ((j : Node) × (t : Parts) × (from ≡ k → ⊥) × (nodes from ≡ Some j) × (j.live ≡ Some t) × (c ≡ t.coord))

module _ (acts : List Action) (paths : Paths) (tree : IsTree paths) (k : ℕ) (d : Disk) (t : Parts) (from : ℕ) (sent : List Post)
    (nodes : ℕ → Option Node) (mine : KnowsNode paths sent k (record { number = k; disk = d; live = Some t }))
    (server_inc : t.server.inc ≡ d.inc) (coord_inc : t.coord.tree.inc ≡ d.inc) (coord_node : t.coord.tree.node ≡ k)
    (one : AreOneCall sent) (reached : HaveReached sent k (record { number = k; disk = d; live = Some t }))
    (votable : (c : Coord) → IsCoordAt nodes k t.coord from c → (s : Server) → AreFromCalls sent k s → AreKeyed s.objects →
    HaveOvers paths s → (top : Uid) (q : Doing) (m : Machine) → doing_of top c ≡ Some q → q.now ≡ Committing m → (st : ObjectState) →
    list.In st (changed_states top s) → IsVotedIn sent c (plan_of m) st.uid.num k) where
  abbrev At : Parts → Node
  At v = record { number = k; disk = d; live = Some v }

  -- what has to be shown of what a handler leaves
  abbrev pub By : Handled → Type 0
  By (Void outs) = ⊤
  By (Took v outs) = HaveOvers paths v.server → KnowsNode paths sent k (At v) × AllFine acts paths k (At v) v nodes outs sent d

  none_at : {A : Type 0} {o : Option A} {x : A} → o ≡ None → o ≡ Some x → ⊥
  none_at {A} {o} {x} none is = let no_way : ◌≡◌ {A = Option A} None (Some x) = sym none ∙ is in cc

  -- what a server says, before others
  server_then : (v : Parts) (n : ℕ) (es fs : List Effect) → AreAll (is_server_effect n) es → AllFine acts paths k (At v) v nodes fs sent d →
      AllFine acts paths k (At v) v nodes (es ++ fs) sent d
  server_then v n [] fs all rest = rest
  server_then v n (Say b ∷ es) fs all rest =
      server_then v n es fs (and_parts (is_server_effect n (Say b)) (list_all (is_server_effect n) es) all).1 rest
  server_then v n (Send to m ∷ es) fs all rest = absurd (cc all)
  server_then v n (Do w ∷ es) fs all rest = absurd (cc all)

  calls : KnowsCalls paths sent t.coord
  calls = mine.coord t refl

  -- with another server and another coordinator
  mine_by : (v : Parts) → KnowsCalls paths sent v.coord → GoesOn t.server v.server → AreFromCalls sent k v.server →
      AreKeyed v.server.objects → KnowsNode paths sent k (At v)
  mine_by v knows goes sources keyed = record {
    coord = λ w is. subst (λ (z : Parts). KnowsCalls paths sent z.coord) (some_is is) knows;
    server = λ w is. subst (λ (z : Parts). AreFromCalls sent k z.server) (some_is is) sources;
    keys = λ w is. subst (λ (z : Parts). AreKeyed z.server.objects) (some_is is) keyed;
    refusals = λ a r. let f = mine.refusals a r in record {
      call = f.call;
      from = f.from;
      asked = f.asked;
      same = f.same;
      past = ⊎_elim (λ later. inl later) (λ p. inr (p.0, past_on t.server v.server goes f.call p.1)) f.past;
    };
    past = mine.past;
  }

  plainly : (v : Parts) (outs : List Effect) → v.server ≡ t.server → v.coord.tree.inc ≡ d.inc → KnowsCalls paths sent v.coord →
      ArePlain d.inc v.coord outs → By (Took v outs)
  plainly v outs same inc knows plain overs = (
    mine_by v knows (subst (GoesOn t.server) (sym same) (itself t.server)) (subst (AreFromCalls sent k) (sym same) (mine.server t refl))
        (subst (λ (z : Server). AreKeyed z.objects) (sym same) (mine.keys t refl)),
    plain_fine acts paths k (At v) v inc nodes outs d sent refl plain,
  )

  -- ---- requests

  -- an answer that refuses and votes nothing, by the same coordinator
  answered : (h : Head) (v : Parts) (outs : List Effect) (o : Option Reply) → v.server ≡ t.server → v.coord ≡ t.coord → ((r : Reply) →
      o ≡ Some r → (refuses r ≡ false) × (vote_in (asked_by h) r ≡ None)) → ArePlain d.inc v.coord outs → By (sends_answer from h v outs o)
  answered h v outs None same coord fine plain = tt
  answered h v outs (Some r) same coord fine plain = plainly v (outs ++ Send from (response (asked_by h) r) ∷ []) same
      (ap (λ (c : Coord). c.tree.inc) coord ∙ coord_inc) (subst (KnowsCalls paths sent) (sym coord) calls) (plain_both d.inc v.coord outs
      (Send from (response (asked_by h) r) ∷ []) plain (answer_plain d.inc v.coord from (asked_by h) r (fine r refl).0 (fine r refl).1, tt))

  -- answers of a kind that neither refuses nor votes
  kind_fine : {R : Type 0} (say : R → Reply) (h : Head) → ((r : R) → (refuses (say r) ≡ false) × (vote_in (asked_by h) (say r) ≡ None)) →
      (o : Option R) (r : Reply) → option_map say o ≡ Some r → (refuses r ≡ false) × (vote_in (asked_by h) r ≡ None)
  kind_fine say h each None r is = absurd (cc is)
  kind_fine say h each (Some q) r is = subst (λ z. (refuses z ≡ false) × (vote_in (asked_by h) z ≡ None)) (some_is is) (each q)

  named : (f : Naming → Handled) (o : Option Naming) → ((m : Naming) → By (f m)) → By (if_naming f o)
  named f None each = tt
  named f (Some m) each = each m

  said_in : (m : Message) (h : Head) (a : Ask) → asks m ≡ Some (h, a) → In (record { from = from; to = k; message = m }) sent → (u : Uid) →
      list.In (u, ending.Commit) (ends_in a) → IsSaidToCommit sent u
  said_in m h a is posted u i = record {
    post = record { from = from; to = k; message = m };
    posted = posted;
    said = inl (subst (λ o. Contains (brought_by o) (u, ending.Commit)) (sym is) (in_to (u, ending.Commit) (ends_in a) i));
  }

  asked : (m : Message) → In (record { from = from; to = k; message = m }) sent → FitsMessage acts m → (h : Head) (a : Ask) →
      asks m ≡ Some (h, a) → By (serve k d t from h a)
  asked m posted fit h (ask.Bind x include avoid) is = named _ t.naming (λ o. let r = naming.bind h.path x include avoid d.names o in
      answered h (with_naming t r.part) r.outs (option_map Reply.Bound r.reply) refl refl
      (kind_fine Reply.Bound h (λ q. (refl, refl)) r.reply) (naming_plain d.inc t.coord r.outs (bind_own h.path x include avoid d.names o)))
  asked m posted fit h (ask.Load x) is = load (holder_of (object x) d.store)
    where
      held : (s : Option ObjectState) → By (load_held from h t s)
      held None = tt
      held (Some s) = plainly t (Do Look ∷ Send from (response (asked_by h) (Reply.Loaded (loaded.State s))) ∷ []) refl coord_inc calls
          (tt, (answer_plain d.inc t.coord from (asked_by h) (Reply.Loaded (loaded.State s)) refl refl, tt))

      load : (o : Option Uid) → By (load_by x d.store from h t o)
      load (Some u) = plainly t (Send from (response (asked_by h) (Reply.Loaded (loaded.InDoubt u))) ∷ []) refl coord_inc calls
          (answer_plain d.inc t.coord from (asked_by h) (Reply.Loaded (loaded.InDoubt u)) refl refl, tt)
      load None = held (held_at (object x) d.store)
  asked m posted fit h (ask.Activate b st) is = by r.reply
    where
      r : Served Server ℕ
      r = server.activate k h.path b st t.server

      by : (o : Option ℕ) → By (sends_answer from h (with_server t r.part) r.outs (option_map Reply.Activated o))
      by None = tt
      by (Some i) = λ overs. (
        mine_by (with_server t r.part) calls (goes_activate k h.path b st t.server) (from_activate sent k r.part h.path b st t.server
            (from_before sent k r.part t.server (goes_activate k h.path b st t.server) (mine.server t refl)))
            (keyed_activate k h.path b st t.server (mine.keys t refl)),
        plain_fine acts paths k (At (with_server t r.part)) (with_server t r.part) coord_inc nodes
            (r.outs ++ Send from (response (asked_by h) (Reply.Activated i)) ∷ []) d sent refl
            (plain_both d.inc t.coord r.outs (Send from (response (asked_by h) (Reply.Activated i)) ∷ []) (server_plain d.inc t.coord k
            r.outs (activate_own k h.path b st t.server)) (answer_plain d.inc t.coord from (asked_by h) (Reply.Activated i) refl refl, tt)),
      )
  asked m posted fit h (ask.Record x b i g) is = named _ t.naming (λ o. let r = naming.note h.path x b i g o in
      answered h (with_naming t r.part) r.outs (option_map Reply.Noted r.reply) refl refl
      (kind_fine Reply.Noted h (λ q. (refl, refl)) r.reply) (naming_plain d.inc t.coord r.outs (note_own h.path x b i g o)))
  asked m posted fit h (ask.Invoke x b i ends o) is = by r.reply refl
    where
      r : Served Server InvokedReply
      r = server.invoke k h x b i ends o t.server

      v : Parts
      v = with_server t (server.invoke k h x b i ends o t.server).part

      fits : FitsAsk acts h (ask.Invoke x b i ends o)
      fits = fits_asked acts m h (ask.Invoke x b i ends o) is fit

      call : Call
      call = record { head = h; x = x; binding = b; inc = i; op = o }

      left : Left paths tree sent k from m posted h x b i ends o is d t server_inc one mine.refusals
          (reached from call (record { message = m; posted = posted; call = ap call_by is })) fits.1
          (said_in m h (ask.Invoke x b i ends o) is posted) (mine.server t refl) (server.invoke k h x b i ends o t.server)
      left = it_is_left paths tree sent k from m posted h x b i ends o is d t server_inc one mine.refusals
          (reached from call (record { message = m; posted = posted; call = ap call_by is })) fits.1
          (said_in m h (ask.Invoke x b i ends o) is posted) (mine.server t refl)

      by : (q : Option InvokedReply) → (server.invoke k h x b i ends o t.server).reply ≡ q →
          By (sends_answer from h (with_server t r.part) r.outs (option_map Reply.Invoked q))
      by None none = tt
      by (Some q) at = λ overs. (
        mine_by v calls (goes_invoke k h x b i ends o t.server) left.0 (keyed_invoke k h x b i ends o t.server (mine.keys t refl)),
        server_then v k r.outs (Send from (response (asked_by h) (Reply.Invoked q)) ∷ []) (invoke_own k h x b i ends o t.server) (
          (
            answer,
            inr refl,
            (λ h2 a2 gone. absurd (none_at (no_request (asked_by h) (Reply.Invoked q)) gone)),
            λ j other at_j p live a2 states vote. absurd (none_at none_voted vote),
          ),
          refl,
        ),
      )
        where
          none_voted : vote_of (response (asked_by h) (Reply.Invoked q)) ≡ None
          none_voted = ap vote_by (reads_back (asked_by h) (Reply.Invoked q))

          refused : (a : Asked) → refusal_of (response (asked_by h) (Reply.Invoked q)) ≡ Some a → (is_refusal q ≡ true) × (asked_by h ≡ a)
          refused a gone = both (is_refusal q) (sym (ap refused_by (reads_back (asked_by h) (Reply.Invoked q))) ∙ gone)
            where
              both : (b : Bool) → cond b (Some (asked_by h)) None ≡ Some a → (b ≡ true) × (asked_by h ≡ a)
              both true e = (refl, some_is e)
              both false e = absurd (none_at refl e)

          answer : IsFine acts paths sent k (At v) v from (response (asked_by h) (Reply.Invoked q))
          answer = record {
            so = answer_so v.coord from (asked_by h) (Reply.Invoked q);
            refusal = λ a gone. let f = refused a gone in record {
              call = call;
              from = from;
              asked = record { message = m; posted = posted; call = ap call_by is };
              same = f.1;
              past = (let l = left.1 in l.past q at f.0);
            };
            clear = λ a gone y c e there j source same. let f = refused a gone in
                (let l = left.1 in l.clear q at f.0 y c e there j source (same ∙ sym f.1));
            vote = λ a states vote. absurd (none_at none_voted vote);
            fits = λ to_k a states vote. absurd (none_at none_voted vote);
          }
  asked m posted fit h (ask.Vote i ties ends) is = by r.reply refl
    where
      r : Served Server VotedReply
      r = server.vote k h.path i ties ends t.server

      v : Parts
      v = with_server t (server.vote k h.path i ties ends t.server).part

      goes : GoesOn t.server v.server
      goes = goes_vote k h.path i ties ends t.server

      sources : AreFromCalls sent k v.server
      sources = from_vote sent k v.server h.path i ties ends t.server (said_in m h (ask.Vote i ties ends) is posted)
          (from_before sent k v.server t.server goes (mine.server t refl))

      keyed : AreKeyed v.server.objects
      keyed = keyed_vote k h.path i ties ends t.server (mine.keys t refl)

      by : (q : Option VotedReply) → (server.vote k h.path i ties ends t.server).reply ≡ q →
          By (sends_answer from h (with_server t r.part) r.outs (option_map Reply.Voted q))
      by None none = tt
      by (Some q) at = λ overs. (
        mine_by v calls goes sources keyed,
        server_then v k r.outs (Send from (response (asked_by h) (Reply.Voted q)) ∷ []) (vote_own k h.path i ties ends t.server) (
          (
            answer overs,
            inl none_refused,
            (λ h2 a2 gone. absurd (none_at (no_request (asked_by h) (Reply.Voted q)) gone)),
            λ j other at_j p live. fitting overs p.coord (inr (j, p, other, at_j, live, refl)),
          ),
          refl,
        ),
      )
        where
          none_refused : refusal_of (response (asked_by h) (Reply.Voted q)) ≡ None
          none_refused = ap refused_by (reads_back (asked_by h) (Reply.Voted q))

          voting : (a : Asked) (states : List ObjectState) → vote_of (response (asked_by h) (Reply.Voted q)) ≡ Some (a, states) →
              (a.act ≡ actor h.path) × (q ≡ voted.Yes states)
          voting a states vote = yes q (sym (ap vote_by (reads_back (asked_by h) (Reply.Voted q))) ∙ vote)
            where
              yes : (z : VotedReply) → vote_in (asked_by h) (Reply.Voted z) ≡ Some (a, states) →
                  (a.act ≡ actor h.path) × (z ≡ voted.Yes states)
              yes (voted.Changed w) e = absurd (none_at refl e)
              yes (voted.Yes st) e = let same : ◌≡◌ {A = Asked × List ObjectState} (asked_by h, st) (a, states) = some_is e in (
                ap (λ (z : Asked × List ObjectState). (let y = z.0 in y.act)) (sym same),
                ap (λ (z : Asked × List ObjectState). voted.Yes z.1) same,
              )

          fitting : HaveOvers paths v.server → (c : Coord) → IsCoordAt nodes k t.coord from c →
              VoteFits sent k (response (asked_by h) (Reply.Voted q)) c
          fitting overs c there a states vote w z found now st there_in =
              let f = voting a states vote in
              let same : states ≡ changed_states (actor h.path) v.server = vote_states k h.path i ties ends t.server states
              (at ∙ ap Some f.1) in
              votable c there v.server sources keyed overs (actor h.path) w z (ap (λ u. doing_of u c) (sym f.0) ∙ found) now st
              (subst (list.In st) same there_in)

          answer : HaveOvers paths v.server → IsFine acts paths sent k (At v) v from (response (asked_by h) (Reply.Voted q))
          answer overs = record {
            so = answer_so v.coord from (asked_by h) (Reply.Voted q);
            refusal = λ a gone. absurd (none_at none_refused gone);
            clear = λ a gone y c e there j source same. absurd (none_at none_refused gone);
            vote = λ a states vote. (
              record { from = from; to = k; message = m },
              posted,
              refl,
              subst (λ o. SealsAsked m o a.act) (sym is) (inr (voting a states vote).0),
            );
            fits = λ to_k. fitting overs t.coord (inl (to_k, refl));
          }
  asked m posted fit h (ask.Prepare states) is = twice (is_prepared (actor h.path) d.store)
    where
      plain : (p : PreparedReply) → IsPlain d.inc t.coord (Send from (response (asked_by h) (Reply.Prepared p)))
      plain p = answer_plain d.inc t.coord from (asked_by h) (Reply.Prepared p) refl refl

      new : (a : Prep) → By (prepare_by k states from h t a)
      new Ready =
          plainly t (Do Look ∷ Do (Prepare role.Store (actor h.path) states) ∷ Say (body.Prepared k (actor h.path) role.Store) ∷ Send from
          (response (asked_by h) (Reply.Prepared prepared.Yes)) ∷ []) refl coord_inc calls (tt, (tt, (tt, (plain prepared.Yes, tt))))
      new (Already u) = tt
      new (Old u w) = plainly t (Do Look ∷ Send from (response (asked_by h) (Reply.Prepared (prepared.Old u.num w))) ∷ []) refl coord_inc
          calls (tt, (plain (prepared.Old u.num w), tt))
      new (InDoubt u holder) = plainly t (Do Look ∷ Send from (response (asked_by h) (Reply.Prepared (prepared.InDoubt u.num holder))) ∷ [])
          refl coord_inc calls (tt, (plain (prepared.InDoubt u.num holder), tt))

      twice : (b : Bool) → By (cond b (sends_answer from h t [] (Some (Reply.Prepared prepared.Yes)))
          (prepare_by k states from h t (prepare_answer (actor h.path) states d.store)))
      twice true =
          plainly t (Send from (response (asked_by h) (Reply.Prepared prepared.Yes)) ∷ []) refl coord_inc calls (plain prepared.Yes, tt)
      twice false = new (prepare_answer (actor h.path) states d.store)
  asked m posted fit h (ask.Confirm grants excluded included) is = named _ t.naming (λ o. let r = confirm h.path grants excluded included
      d.names o in answered h (with_naming t r.part) r.outs (option_map Reply.Confirmed r.reply) refl refl (kind_fine Reply.Confirmed h
      (λ q. (refl, refl)) r.reply) (naming_plain d.inc t.coord r.outs (confirm_own h.path grants excluded included d.names o)))

  -- ---- answers, ends and questions

  coord_left : (r : Served Coord (Unit {0})) →
      KnowsCalls paths sent r.part × (r.part.tree.inc ≡ d.inc) × AreTrue r.part r.outs × AllSo r.part r.outs → By (coord_heard t r)
  coord_left r f = by r.reply
    where
      by : (o : Option (Unit {0})) → By (by_reply (with_coord t r.part) r.outs o)
      by None = tt
      by (Some u) =
          plainly (with_coord t r.part) r.outs refl f.1 f.0 (subst (λ z. ArePlain z r.part r.outs) f.1 (coord_plain r.part r.outs f.2 f.3))

  ends_left : (ack : Bool) (ends : List (Uid × End)) → ((u : Uid) → list.In (u, ending.Commit) ends → IsSaidToCommit sent u) →
      (o : Option (Uid × End)) → By (handle_ends k d t from ack ends o)
  ends_left ack ends said None = plainly t [] refl coord_inc calls tt
  ends_left ack ends said (Some e) = λ overs. (
    mine_by v calls goes (from_told sent k v.server ends t.server said (from_before sent k v.server t.server goes (mine.server t refl)))
        (keyed_told k ends t.server (mine.keys t refl)),
    plain_fine acts paths k (At v) v coord_inc nodes outs d sent refl (plain_both d.inc t.coord (store_told k e.0 e.1 d.store ++ o.outs
        ++ s.outs) (ack_told from e.0 ack) (plain_both d.inc t.coord (store_told k e.0 e.1 d.store ++ o.outs) s.outs
        (plain_both d.inc t.coord (store_told k e.0 e.1 d.store) o.outs (stored (is_prepared e.0 d.store) e.1) (names t.naming))
        (server_plain d.inc t.coord k s.outs (ends_own k ends t.server))) (acked_told ack)),
  )
    where
      s : Did Server
      s = server.told k ends t.server

      o : Did (Option Naming)
      o = naming_told e.0 e.1 d.names t.naming

      v : Parts
      v = record { server = (server.told k ends t.server).part; naming = (naming_told e.0 e.1 d.names t.naming).part; coord = t.coord }

      outs : List Effect
      outs = store_told k e.0 e.1 d.store ++ (naming_told e.0 e.1 d.names t.naming).outs ++ (server.told k ends t.server).outs
          ++ ack_told from e.0 ack

      goes : GoesOn t.server v.server
      goes = goes_told k ends t.server

      stored : (b : Bool) (how : End) → ArePlain d.inc t.coord (if b then end_states k e.0 how else [])
      stored false how = tt
      stored true ending.Commit = (tt, (tt, tt))
      stored true ending.Abort = (tt, (tt, tt))

      names : (o : Option Naming) → ArePlain d.inc t.coord (naming_told e.0 e.1 d.names o).outs
      names None = tt
      names (Some m) = naming_plain d.inc t.coord (naming.told e.0 e.1 d.names m).outs (told_own e.0 e.1 d.names m)

      acked_told : (b : Bool) → ArePlain d.inc t.coord (ack_told from e.0 b)
      acked_told true = (((λ h a is. absurd (none_at refl is)), refl, refl), tt)
      acked_told false = tt

  asks_about : (us : List Uid) → ArePlain d.inc t.coord (map query_about us)
  asks_about [] = tt
  asks_about (u ∷ us) = (((λ h a is. absurd (none_at refl is)), refl, refl), asks_about us)

  module _ (m : Message) (posted : In (record { from = from; to = k; message = m }) sent) (hears : (a : Asked) (r : Reply) →
      answers m ≡ Some (a, r) → (let q = heard from a r d.intents t.coord in
      KnowsCalls paths sent q.part × (let c = q.part in c.tree.inc ≡ d.inc) × AreTrue q.part q.outs × AllSo q.part q.outs))
      (acks : (u : Uid) → (let q = acked from u d.intents t.coord in
      KnowsCalls paths sent q.part × (let c = q.part in c.tree.inc ≡ d.inc) × AreTrue q.part q.outs × AllSo q.part q.outs))
      (answers_it : (u : Uid) → AreTrue t.coord (answer_query from u d.intents t.coord)) where
    other : (n : Message) → n ≡ m → By (handle_other k d t from n)
    other (message.Told n) same = ends_left n.ack n.ends (λ u i. record {
      post = record { from = from; to = k; message = message.Told n };
      posted = subst (λ z. In (record { from = from; to = k; message = z }) sent) (sym same) posted;
      said = inr (in_to (u, ending.Commit) n.ends i);
    }) (last_end n.ends)
    other (message.Acked n) same = coord_left (acked from n.act d.intents t.coord) (acks n.act)
    other (message.Query n) same = plainly t (answer_query from n.act d.intents t.coord) refl coord_inc calls
        (subst (λ z. ArePlain z t.coord (answer_query from n.act d.intents t.coord)) coord_inc (coord_plain t.coord
        (answer_query from n.act d.intents t.coord) (answers_it n.act) (query_so t.coord from n.act d.intents t.coord)))
    other (message.Hello n) same = plainly _ (map query_about (filter (is_earlier n.node n.inc) (holders d t))) refl coord_inc calls
        (asks_about (filter (is_earlier n.node n.inc) (holders d t)))
    other (message.Bind n) same = tt
    other (message.Bound n) same = tt
    other (message.Load n) same = tt
    other (message.Loaded n) same = tt
    other (message.Activate n) same = tt
    other (message.Activated n) same = tt
    other (message.RecordMsg n) same = tt
    other (message.Recorded n) same = tt
    other (message.Invoke n) same = tt
    other (message.Invoked n) same = tt
    other (message.Vote n) same = tt
    other (message.Voted n) same = tt
    other (message.Prepare n) same = tt
    other (message.Prepared n) same = tt
    other (message.Confirm n) same = tt
    other (message.Confirmed n) same = tt

    pub message_known : FitsMessage acts m → By (handle k d t from m)
    message_known fit = by (asks m) refl
      where
        answer : (o : Option (Asked × Reply)) → answers m ≡ o → By (handle_answer k d t from m o)
        answer None is = other m refl
        answer (Some a) is = coord_left (heard from a.0 a.1 d.intents t.coord) (hears a.0 a.1 is)

        by : (o : Option (Head × Ask)) → asks m ≡ o → By (handle_ask k d t from m o)
        by None is = answer (answers m) refl
        by (Some a) is = asked m posted fit a.0 a.1 is
