-- What a server has written over an object was called, by a path that begins as the overlay's; and what it votes is of its overlays.
use Rattle.arj_law_parts.proofs.Words
use Words.{◌≡◌, ◌∙◌, ◌==◌, ◌||◌, ◌++◌, append-nil, append_assoc, ℕ, Bool, true, false, cond, filter, map, not, List, [], ◌∷◌, Option, Some}
use Words.{None, IfSome, refl, sym, ap, subst, ⊤, option_map, inr, length, min, AllByRecursion, list_all, and_parts, object}
use Words.{activate_own, bind_own, confirm_own, ends_own, invoke_own, note_own, told_own, vote_own, Ask, Asked, Binding, End, Head}
use Words.{InvokedReply, Message, ObjectState, Op, Path, Row, Uid, Value, VotedReply, What, asks, Reply, actor, answers, asked_by, last_end}
use Words.{response, heard, first_conflict, front, is_on, last_uid, op_mode, tops_of, uids_of, value_after, writes, Copy, Over, ask_copy}
use Words.{changed_states, current, end_copy, folded, invoke_copy, is_of, is_top_over, over_of, overs_committed, settled, taken_copy}
use Words.{written, Did, Served, did_nothing, either, reply, void, at_number, at_uid, put_number, binding_eq, binding_less, Kept, Server}
use Words.{activate, active_binding, apply_ends, changed_by, end_new, end_one, first_unbound, has_ended, invoke, invoke_kept, invoke_new}
use Words.{invoke_now, is_below, is_told, keeps, on_copy, other_inc, told, took_copy, vote, vote_now}
use Words.{Coord, Disk, Do, Effect, InDoubt, Look, Old, Already, Prep, Prepare, Ready, Say, Send, held_at, holder_of, is_prepared}
use Words.{prepare_answer, acked, answer_query, Naming, Handled, Parts, Took, Void, ack_told, coord_heard, end_states, handle, handle_ends}
use Words.{handle_other, holders, if_naming, is_earlier, load_by, load_held, naming_told, prepare_by, query_about, sends_answer, serve}
use Words.{served, store_told, with_naming, with_server, AreAll, is_naming_effect, is_server_effect, response_reads_back, Post, confirm}
use Words.ask
use Words.body
use Words.ending
use Words.loaded
use Words.message
use Words.prepared
use Words.role
use Words.voted
use Words.naming
use Words.server
use Rattle.arj_law_promise.proofs.Terms
use Terms.{AllSilent, In, all_append, all_filter, by_coord, by_message, keyed_each, keyed_found, keyed_put, some_is}
use Rattle.arj_law_runs.proofs.calls.WorldVotes.{keyed_each as once_each, keyed_put as once_put}
use Rattle.arj_protocol.specs.Server.{taken_end}
use Rattle.arj_law_runs.specs.calls.Calls.{Call, call_by, call_of}
use Rattle.arj_law_runs.specs.calls.Worlds.{AreKeyed}

-- ---- what was called

-- a call on this object was asked for, by a path that begins with these Uids
pub record IsUnder (sent : List Post) (x : ℕ) (holder : List Uid) : Type 0 where
  pub post : Post
  pub call : Call
  pub posted : In post sent
  pub asked : call_of post.message ≡ Some call
  pub object : call.x ≡ x
  pub rest : List Uid
  pub path : uids_of (let h = call.head in h.path) ≡ holder ++ rest

pub under_more : (p : Post) (sent : List Post) (x : ℕ) (us : List Uid) → IsUnder sent x us → IsUnder (p ∷ sent) x us
under_more p sent x us u = record {
  post = u.post;
  call = u.call;
  posted = inr u.posted;
  asked = u.asked;
  object = u.object;
  rest = u.rest;
  path = u.path;
}

-- each of these overlays is of such a path
abbrev pub AreUnder : List Post → ℕ → List Over → Type 0
AreUnder sent x es = AllByRecursion (λ (e : Over). IsUnder sent x e.holder) es

-- the overlays of a copy
abbrev pub IsCalledOver : List Post → ℕ → Copy → Type 0
IsCalledOver sent x c = AreUnder sent x c.stack

-- those of all copies of a server, of which each object has one
abbrev pub AreCalled : List Post → Server → Type 0
AreCalled sent s = AllByRecursion (λ (e : ℕ × Copy). IsCalledOver sent e.0 e.1) s.objects × AreKeyed s.objects

overs_more : (p : Post) (sent : List Post) (x : ℕ) (es : List Over) → AreUnder sent x es → AreUnder (p ∷ sent) x es
overs_more p sent x [] all = tt
overs_more p sent x (e ∷ es) all = (under_more p sent x e.holder all.0, overs_more p sent x es all.1)

pub called_more : (p : Post) (sent : List Post) (s : Server) → AreCalled sent s → AreCalled (p ∷ sent) s
called_more p sent s all = (by s.objects all.0, all.1)
  where
    by : (es : List (ℕ × Copy)) → AllByRecursion (λ (e : ℕ × Copy). IsCalledOver sent e.0 e.1) es →
        AllByRecursion (λ (e : ℕ × Copy). IsCalledOver (p ∷ sent) e.0 e.1) es
    by [] its = tt
    by (e ∷ es) its = (overs_more p sent e.0 (let c = e.1 in c.stack) its.0, by es its.1)

-- ---- copies

-- Uids are their front, and more
front_rest : (us : List Uid) → (rest : List Uid) × (us ≡ front us ++ rest)
front_rest [] = ([], refl)
front_rest (u ∷ []) = (u ∷ [], refl)
front_rest (u ∷ v ∷ us) = let r = front_rest (v ∷ us) in (r.0, ap (λ ws. u ∷ ws) r.1)

module _ (sent : List Post) (x : ℕ) where
  abbrev Of : Over → Type 0
  Of e = IsUnder sent x e.holder

  front_under : (us : List Uid) → IsUnder sent x us → IsUnder sent x (front us)
  front_under us u = let f = front_rest us in record {
    post = u.post;
    call = u.call;
    posted = u.posted;
    asked = u.asked;
    object = u.object;
    rest = f.0 ++ u.rest;
    path = u.path ∙ ap (λ ws. ws ++ u.rest) f.1 ∙ append_assoc (front us) f.0 u.rest;
  }

  written_so : (holder : List Uid) (tops : ℕ) (v : Value) (es : List Over) → IsUnder sent x holder → AreUnder sent x es →
      AreUnder sent x (written holder tops v es)
  written_so holder tops v [] its all = (its, tt)
  written_so holder tops v (e ∷ es) its all = by (is_of (last_uid holder) e)
    where
      by : (b : Bool) →
          AreUnder sent x (cond b (record e { value = v } ∷ es) (record { holder = holder; tops = tops; value = v } ∷ e ∷ es))
      by true = (all.0, all.1)
      by false = (its, all)

  folded_so : (u : Uid) (es : List Over) → AreUnder sent x es → AreUnder sent x (folded u es)
  folded_so u [] all = tt
  folded_so u (e ∷ es) all = by (is_of u e)
    where
      by : (b : Bool) → AreUnder sent x (cond b (written (front e.holder) (min e.tops (length (front e.holder))) e.value es) (e ∷ es))
      by true = written_so (front e.holder) (min e.tops (length (front e.holder))) e.value es (front_under e.holder all.0) all.1
      by false = all

  committed_so : (u : Uid) (o : Option Over) (c : Copy) → IsCalledOver sent x c → IsCalledOver sent x (overs_committed u o c)
  committed_so u None c all = all
  committed_so u (Some e) c all = by (is_top_over e)
    where
      by : (b : Bool) → IsCalledOver sent x (cond {A = Copy} b (settled u e c) (record c { stack = folded u c.stack }))
      by true = all_filter Of (λ o. not (is_of u o)) c.stack all
      by false = folded_so u c.stack all

  ended_so : (u : Uid) (e : End) (c : Copy) → IsCalledOver sent x c → IsCalledOver sent x (end_copy u e c)
  ended_so u ending.Commit c all = committed_so u (over_of u c.stack) c all
  ended_so u ending.Abort c all = all_filter Of (λ e. not (is_on e.holder u)) c.stack all

  asked_so : (n : ℕ) (p : Path) (o : Op) (c : Copy) (r : Option Row) → IsUnder sent x (uids_of p) → IsCalledOver sent x c →
      IsCalledOver sent x (let a = ask_copy n p x o c r in a.part)
  asked_so n p o c (Some r) its all = all
  asked_so n p o c None its all = by (writes o)
    where
      by : (b : Bool) →
          AreUnder sent x (cond b (written (uids_of p) (tops_of p) (value_after o (current c.base c.stack)) c.stack) c.stack)
      by true = written_so (uids_of p) (tops_of p) (value_after o (current c.base c.stack)) c.stack its all
      by false = all

-- ---- a server

module _ (sent : List Post) where
  put_so : (x : ℕ) (c : Copy) (m : List (ℕ × Copy)) → IsCalledOver sent x c →
      AllByRecursion (λ (e : ℕ × Copy). IsCalledOver sent e.0 e.1) m × AreKeyed m →
      AllByRecursion (λ (e : ℕ × Copy). IsCalledOver sent e.0 e.1) (put_number x c m) × AreKeyed (put_number x c m)
  put_so x c m its all = (keyed_put (IsCalledOver sent) x c m its all.0, once_put x c m all.1)

  end_one_so : (n : ℕ) (u : Uid) (e : End) (s : Server) → AreCalled sent s → AreCalled sent (let d = end_one n u e s in d.part)
  end_one_so n u e s all = by (is_told u s)
    where
      by : (b : Bool) → AreCalled sent (let d = cond {A = Did Server} b (did_nothing s) (end_new n u (taken_end u e s) s) in d.part)
      by true = all
      by false = (
        keyed_each (IsCalledOver sent) (λ x. end_copy u (taken_end u e s)) (λ x c. ended_so sent x u (taken_end u e s) c) s.objects
            all.0,
        once_each (λ x. end_copy u (taken_end u e s)) s.objects all.1,
      )

  told_so : (n : ℕ) (es : List (Uid × End)) (s : Server) → AreCalled sent s → AreCalled sent (let d = told n es s in d.part)
  told_so n [] s all = all
  told_so n (e ∷ es) s all = told_so n es (let d = end_one n e.0 e.1 s in d.part) (end_one_so n e.0 e.1 s all)

  activate_so : (n : ℕ) (p : Path) (b : Binding) (st : ObjectState) (s : Server) → AreCalled sent s →
      AreCalled sent (let r = activate n p b st s in r.part)
  activate_so n p b st s all =
      by (has_ended p s) (binding_less b (active_binding st.uid.num s)) (binding_eq b (active_binding st.uid.num s))
    where
      by : (over lower equal : Bool) → AreCalled sent (let r = cond {A = Served Server ℕ} (over || lower) (void s)
          (cond equal (reply s s.inc) (took_copy n st.uid.num b st s)) in r.part)
      by true lower equal = all
      by false true equal = all
      by false false true = all
      by false false false = put_so st.uid.num (taken_copy b st) s.objects tt all

  invoke_so : (n : ℕ) (h : Head) (x : ℕ) (b : Binding) (i : ℕ) (ends : List (Uid × End)) (o : Op) (s : Server) →
      IsUnder sent x (uids_of h.path) → AreCalled sent s → AreCalled sent (let r = invoke n h x b i ends o s in r.part)
  invoke_so n h x b i ends o s its all = by (has_ended h.path s || is_below h.req (at_uid (actor h.path) s.kept))
    where
      stays : (a : Option InvokedReply) (z : Server) → AreCalled sent z → AreCalled sent (keeps (actor h.path) h.req a z)
      stays None z so = so
      stays (Some a) z so = so

      copied : (z : Server) → AreCalled sent z → (f : Option Copy) → at_number x z.objects ≡ f →
          AreCalled sent (let r = on_copy x (invoke_copy n h.path x o) z f in r.part)
      copied z so None there = so
      copied z so (Some c) there = put_so x (let a = invoke_copy n h.path x o c in a.part) z.objects
          (asked_so sent x n h.path o c (first_conflict (uids_of h.path) (object x) (op_mode o) c.rows) its
          (keyed_found (IsCalledOver sent) x z.objects c so.0 there)) so

      new : AreCalled sent (let r = invoke_new n h x ends o s in r.part)
      new =
          let d = apply_ends n ends s in
          let z = d.part in
          let r = on_copy x (invoke_copy n h.path x o) z (at_number x z.objects) in
          stays r.reply r.part (copied z (told_so n ends s all) (at_number x z.objects) refl)

      again : (q : Option Kept) → AreCalled sent (let r = invoke_kept n h x ends o s q in r.part)
      again None = new
      again (Some q) = one (q.req == h.req)
        where
          one : (c : Bool) →
              AreCalled sent (let r = cond {A = Served Server InvokedReply} c (reply s q.answer) (invoke_new n h x ends o s) in r.part)
          one true = all
          one false = new

      now : (w : Option What) → AreCalled sent (let r = invoke_now n h x ends o s w in r.part)
      now (Some w) = all
      now None = again (at_uid (actor h.path) s.kept)

      by : (c : Bool) → AreCalled sent (let r = cond {A = Served Server InvokedReply} c (void s)
          (invoke_now n h x ends o s (changed_by i x b s)) in r.part)
      by true = all
      by false = now (changed_by i x b s)

  vote_so : (n : ℕ) (p : Path) (i : ℕ) (ties : List (ℕ × Binding)) (ends : List (Uid × End)) (s : Server) → AreCalled sent s →
      AreCalled sent (let r = vote n p i ties ends s in r.part)
  vote_so n p i ties ends s all = by (has_ended p s)
    where
      now : (w : Option What) → AreCalled sent (let r = vote_now n (actor p) ends s w in r.part)
      now (Some w) = all
      now None = told_so n ends s all

      by : (c : Bool) → AreCalled sent (let r = cond {A = Served Server VotedReply} c (void s)
          (vote_now n (actor p) ends s (either (other_inc i s.inc) (first_unbound ties s))) in r.part)
      by true = all
      by false = now (either (other_inc i s.inc) (first_unbound ties s))

-- ---- what is voted

-- an answer votes what a top made, as the server has it
abbrev pub IsVoteOf : Server → Reply → Type 0
IsVoteOf s (Reply.Voted (voted.Yes states)) = (top : Uid) × (states ≡ changed_states top s)
IsVoteOf s r = ⊤

abbrev pub VotesSo : Server → Effect → Type 0
VotesSo s (Send to m) = (a : Asked) (r : Reply) → answers m ≡ Some (a, r) → IsVoteOf s r
VotesSo s (Say b) = ⊤
VotesSo s (Do w) = ⊤

abbrev pub AllVoteSo : Server → List Effect → Type 0
AllVoteSo s outs = AllByRecursion (VotesSo s) outs

-- what a server answers are the states that the top made
voted_so : (n : ℕ) (p : Path) (i : ℕ) (ties : List (ℕ × Binding)) (ends : List (Uid × End)) (s : Server) →
    (let r = vote n p i ties ends s in IfSome r.reply (λ q. IsVoteOf r.part (Reply.Voted q)))
voted_so n p i ties ends s = by (has_ended p s)
  where
    now : (w : Option What) → (let r = vote_now n (actor p) ends s w in IfSome r.reply (λ q. IsVoteOf r.part (Reply.Voted q)))
    now (Some w) = tt
    now None = (actor p, refl)

    by : (c : Bool) → (let r = cond {A = Served Server VotedReply} c (void s)
        (vote_now n (actor p) ends s (either (other_inc i s.inc) (first_unbound ties s))) in
        IfSome r.reply (λ q. IsVoteOf r.part (Reply.Voted q)))
    by true = tt
    by false = now (either (other_inc i s.inc) (first_unbound ties s))

module _ (s : Server) where
  both : (es fs : List Effect) → AllVoteSo s es → AllVoteSo s fs → AllVoteSo s (es ++ fs)
  both es fs a b = all_append (VotesSo s) es fs a b

  pub silent_vote : (es : List Effect) → AllSilent es → AllVoteSo s es
  silent_vote [] all = tt
  silent_vote (Say b ∷ es) all = (tt, silent_vote es all.1)
  silent_vote (Do w ∷ es) all = (tt, silent_vote es all.1)
  silent_vote (Send to m ∷ es) all = (
    λ a r is. let no_way : ◌≡◌ {A = Option (Asked × Reply)} None (Some (a, r)) = sym all.0 ∙ is in absurd (cc no_way),
    silent_vote es all.1,
  )

  -- without messages
  plain_vote : (test : Effect → Bool) → ((to : ℕ) (p : Message) → test (Send to p) ≡ false) → (es : List Effect) → AreAll test es →
      AllVoteSo s es
  plain_vote test none [] own = tt
  plain_vote test none (Say b ∷ es) own = (tt, plain_vote test none es (and_parts (test (Say b)) (list_all test es) own).1)
  plain_vote test none (Do w ∷ es) own = (tt, plain_vote test none es (and_parts (test (Do w)) (list_all test es) own).1)
  plain_vote test none (Send to p ∷ es) own =
      let no_way : true ≡ false = sym (and_parts (test (Send to p)) (list_all test es) own).0 ∙ none to p in absurd (cc no_way)

  naming_vote : (es : List Effect) → AreAll is_naming_effect es → AllVoteSo s es
  naming_vote es own = plain_vote is_naming_effect (λ to p. refl) es own

  server_vote : (n : ℕ) (es : List Effect) → AreAll (is_server_effect n) es → AllVoteSo s es
  server_vote n es own = plain_vote (is_server_effect n) (λ to p. refl) es own

  response_votes : (to : ℕ) (a : Asked) (q : Reply) → IsVoteOf s q → VotesSo s (Send to (response a q))
  response_votes to a q its b r is = subst (IsVoteOf s)
      (ap (λ (z : Asked × Reply). z.1) (some_is (sym (response_reads_back a q) ∙ is))) its

-- ---- one message

module _ (sent : List Post) (k : ℕ) (d : Disk) (t : Parts) (from : ℕ) (its : AreCalled sent t.server) where
  abbrev pub By : Handled → Type 0
  By (Void outs) = ⊤
  By (Took v outs) = AreCalled sent v.server × AllVoteSo v.server outs

  answered_by : (h : Head) (v : Parts) (outs : List Effect) (o : Option Reply) → AreCalled sent v.server → AllVoteSo v.server outs →
      IfSome o (IsVoteOf v.server) → By (sends_answer from h v outs o)
  answered_by h v outs None part all each = tt
  answered_by h v outs (Some r) part all each = (
    part,
    both v.server outs (Send from (response (asked_by h) r) ∷ []) all (response_votes v.server from (asked_by h) r each, tt),
  )

  said : {Q : Type 0} (s : Server) (say : Q → Reply) (o : Option Q) → IfSome o (λ q. IsVoteOf s (say q)) →
      IfSome (option_map say o) (IsVoteOf s)
  said s say None each = tt
  said s say (Some q) each = each

  any : {Q : Type 0} (s : Server) (say : Q → Reply) → ((q : Q) → IsVoteOf s (say q)) → (o : Option Q) →
      IfSome (option_map say o) (IsVoteOf s)
  any s say each None = tt
  any s say each (Some q) = each q

  with_it : (f : Naming → Handled) (o : Option Naming) → ((n : Naming) → By (f n)) → By (if_naming f o)
  with_it f None each = tt
  with_it f (Some n) each = each n

  module _ (m : Message) (posted : In (record { from = from; to = k; message = m }) sent) where
    asked : (h : Head) (a : Ask) → asks m ≡ Some (h, a) → By (serve k d t from h a)
    asked h (ask.Bind x include avoid) is =
        with_it (λ o. served from h (with_naming t) Reply.Bound (naming.bind h.path x include avoid d.names o)) t.naming
        (λ n. let r = naming.bind h.path x include avoid d.names n in answered_by h (with_naming t r.part) r.outs
        (option_map Reply.Bound r.reply) its (naming_vote t.server r.outs (bind_own h.path x include avoid d.names n))
        (any t.server Reply.Bound (λ q. tt) r.reply))
    asked h (ask.Load x) is = load (holder_of (object x) d.store)
      where
        state : (o : Option ObjectState) → By (load_held from h t o)
        state None = tt
        state (Some st) = answered_by h t (Do Look ∷ []) (Some (Reply.Loaded (loaded.State st))) its (tt, tt) tt

        load : (o : Option Uid) → By (load_by x d.store from h t o)
        load (Some u) = answered_by h t [] (Some (Reply.Loaded (loaded.InDoubt u))) its tt tt
        load None = state (held_at (object x) d.store)
    asked h (ask.Activate b st) is = let r = activate k h.path b st t.server in
        answered_by h (with_server t r.part) r.outs (option_map Reply.Activated r.reply) (activate_so sent k h.path b st t.server its)
        (server_vote r.part k r.outs (activate_own k h.path b st t.server)) (any r.part Reply.Activated (λ q. tt) r.reply)
    asked h (ask.Record x b i g) is = with_it (λ o. served from h (with_naming t) Reply.Noted (naming.note h.path x b i g o)) t.naming
        (λ n. let r = naming.note h.path x b i g n in answered_by h (with_naming t r.part) r.outs (option_map Reply.Noted r.reply) its
        (naming_vote t.server r.outs (note_own h.path x b i g n)) (any t.server Reply.Noted (λ q. tt) r.reply))
    asked h (ask.Invoke x b i ends o) is = let r = invoke k h x b i ends o t.server in
        answered_by h (with_server t r.part) r.outs (option_map Reply.Invoked r.reply)
        (invoke_so sent k h x b i ends o t.server under its) (server_vote r.part k r.outs (invoke_own k h x b i ends o t.server))
        (any r.part Reply.Invoked (λ q. tt) r.reply)
      where
        under : IsUnder sent x (uids_of h.path)
        under = record {
          post = record { from = from; to = k; message = m };
          call = record { head = h; x = x; binding = b; inc = i; op = o };
          posted = posted;
          asked = ap call_by is;
          object = refl;
          rest = [];
          path = sym (append-nil (uids_of h.path));
        }
    asked h (ask.Vote i ties ends) is = let r = vote k h.path i ties ends t.server in
        answered_by h (with_server t r.part) r.outs (option_map Reply.Voted r.reply) (vote_so sent k h.path i ties ends t.server its)
        (server_vote r.part k r.outs (vote_own k h.path i ties ends t.server))
        (said r.part Reply.Voted r.reply (voted_so k h.path i ties ends t.server))
    asked h (ask.Prepare states) is = each (is_prepared (actor h.path) d.store)
      where
        new : (a : Prep) → By (prepare_by k states from h t a)
        new Ready = answered_by h t
            (Do Look ∷ Do (Prepare role.Store (actor h.path) states) ∷ Say (body.Prepared k (actor h.path) role.Store) ∷ [])
            (Some (Reply.Prepared prepared.Yes)) its (tt, (tt, (tt, tt))) tt
        new (Already u) = tt
        new (Old u v) = answered_by h t (Do Look ∷ []) (Some (Reply.Prepared (prepared.Old u.num v))) its (tt, tt) tt
        new (InDoubt u holder) =
            answered_by h t (Do Look ∷ []) (Some (Reply.Prepared (prepared.InDoubt u.num holder))) its (tt, tt) tt

        each : (b : Bool) → By (cond b (sends_answer from h t [] (Some (Reply.Prepared prepared.Yes)))
            (prepare_by k states from h t (prepare_answer (actor h.path) states d.store)))
        each true = answered_by h t [] (Some (Reply.Prepared prepared.Yes)) its tt tt
        each false = new (prepare_answer (actor h.path) states d.store)
    asked h (ask.Confirm grants excluded included) is =
        with_it (λ o. served from h (with_naming t) Reply.Confirmed (confirm h.path grants excluded included d.names o)) t.naming
        (λ n. let r = confirm h.path grants excluded included d.names n in answered_by h (with_naming t r.part) r.outs
        (option_map Reply.Confirmed r.reply) its (naming_vote t.server r.outs (confirm_own h.path grants excluded included d.names n))
        (any t.server Reply.Confirmed (λ q. tt) r.reply))

    queries : (us : List Uid) → AllVoteSo t.server (map query_about us)
    queries [] = tt
    queries (u ∷ us) = ((λ a r is. absurd (cc is)), queries us)

    ends_left : (ack : Bool) (ends : List (Uid × End)) (o : Option (Uid × End)) → By (handle_ends k d t from ack ends o)
    ends_left ack ends None = (its, tt)
    ends_left ack ends (Some e) =
        let s = server.told k ends t.server in
        let o = naming_told e.0 e.1 d.names t.naming in
        let z = s.part in (
          told_so sent k ends t.server its,
          both z (store_told k e.0 e.1 d.store ++ o.outs ++ s.outs) (ack_told from e.0 ack)
              (both z (store_told k e.0 e.1 d.store ++ o.outs) s.outs
              (both z (store_told k e.0 e.1 d.store) o.outs (stored z (is_prepared e.0 d.store) e.1) (named z t.naming))
              (server_vote z k s.outs (ends_own k ends t.server))) (acked_told z ack),
        )
      where
        stored : (z : Server) (b : Bool) (how : End) → AllVoteSo z (cond b (end_states k e.0 how) [])
        stored z false how = tt
        stored z true ending.Commit = (tt, (tt, tt))
        stored z true ending.Abort = (tt, (tt, tt))

        named : (z : Server) (o : Option Naming) → AllVoteSo z (let r = naming_told e.0 e.1 d.names o in r.outs)
        named z None = tt
        named z (Some n) = naming_vote z (naming.told e.0 e.1 d.names n).outs (told_own e.0 e.1 d.names n)

        acked_told : (z : Server) (b : Bool) → AllVoteSo z (ack_told from e.0 b)
        acked_told z true = ((λ a r is. absurd (cc is)), tt)
        acked_told z false = tt

    module _ (hears : (a : Asked) (r : Reply) → AllSilent (heard from a r d.intents t.coord).outs)
        (acks : (u : Uid) → AllSilent (acked from u d.intents t.coord).outs)
        (tells : (u : Uid) → AllSilent (answer_query from u d.intents t.coord)) where
      coord_left : (r : Served Coord (Unit {0})) → AllSilent r.outs → By (coord_heard t r)
      coord_left r silent = by_coord k d t from By tt r (its, silent_vote t.server r.outs silent)

      other : (p : Message) → By (handle_other k d t from p)
      other (message.Told p) = ends_left p.ack p.ends (last_end p.ends)
      other (message.Acked p) = coord_left (acked from p.act d.intents t.coord) (acks p.act)
      other (message.Query p) = (its, silent_vote t.server (answer_query from p.act d.intents t.coord) (tells p.act))
      other (message.Hello p) = (its, queries (filter (is_earlier p.node p.inc) (holders d t)))
      other p = tt

      pub message_calls : By (handle k d t from m)
      message_calls = by_message k d t from By tt m asked (λ a r is. coord_left (heard from a r d.intents t.coord) (hears a r)) (other m)
