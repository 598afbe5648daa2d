-- What a node makes of a message for its server, naming and its coordinator, whatever is kept of them, and what it sends: answers to who
-- asked, and requests of what waits.
use Rattle.arj_law_parts.proofs.Words
use Words.{◌≡◌, ℕ, List, [], ◌∷◌, ◌++◌, Bool, true, false, cond, filter, map, Option, Some, None, refl, sym, ◌∙◌, subst, ⊤, option_map}
use Words.{AllByRecursion, list_all, and_parts, Ask, Asked, Binding, BoundReply, End, Head, Header, Message, ObjectState, Op, Uid, asks}
use Words.{object, Reply, actor, answers, asked_by, last_end, response, heard, Grants, Marks, confirm, Coord, Already, Disk, Do, Effect}
use Words.{InDoubt, Look, Old, Prep, Ready, Say, Send, Served, held_at, holder_of, is_prepared, prepare_answer, acked, answer_query, Naming}
use Words.{Handled, Parts, Took, Void, ack_told, coord_heard, end_states, handle, handle_ends, handle_other, holders, if_naming, is_earlier}
use Words.{load_by, load_held, naming_hello, naming_told, prepare_by, query_about, sends_answer, serve, served, store_told, with_naming}
use Words.{with_server, AreAll, is_naming_effect, is_server_effect, Server, parts_in, restart_outs, activate_own, bind_own, confirm_own}
use Words.{ends_own, invoke_own, note_own, told_own, vote_own}
use Words.ask
use Words.ending
use Words.loaded
use Words.message
use Words.prepared
use Words.naming
use Words.server
use Rattle.arj_law_promise.proofs.Terms.{all_append, some_is, AllQuiet, AllSo, SendsSo, AllSilent, no_request, by_coord, by_message}
use Rattle.arj_law_serial.proofs.joint.Mute.{AllMute, restart_mute}

-- ---- without answers

pub quiet_silent : (es : List Effect) → AllQuiet es → AllSilent es
quiet_silent [] q = tt
quiet_silent (Say b ∷ es) q = (tt, quiet_silent es q.1)
quiet_silent (Do w ∷ es) q = (tt, quiet_silent es q.1)
quiet_silent (Send to p ∷ es) q = (q.0, quiet_silent es q.1)

-- nor does it ask
pub restart_asks : (hd : Header) (k inc : ℕ) (d : Disk) → AllSo (let t = parts_in k inc d in t.coord) (restart_outs hd k inc d)
restart_asks hd k inc d = by (restart_outs hd k inc d) (restart_mute hd k inc d)
  where
    by : (es : List Effect) → AllMute es → AllSo (let t = parts_in k inc d in t.coord) es
    by [] m = tt
    by (Say b ∷ es) m = (tt, by es m.1)
    by (Do w ∷ es) m = (tt, by es m.1)
    by (Send to p ∷ es) m =
        ((λ h a is. let no_way : ◌≡◌ {A = Option (Head × Ask)} None (Some (h, a)) = sym (m.0).1 ∙ is in absurd (cc no_way)), by es m.1)

-- ---- what a node makes of a message

-- An answer that is sent: it goes to who asked, and this holds of it, if it names a binding or brings a state.
module _ (RB : Head → ℕ → Bool → Binding → BoundReply → Type 0) (RL : Head → ℕ → ObjectState → Type 0) (from : ℕ) (m : Message) where
  pub record NamesTo (to : ℕ) (a : Asked) (r : BoundReply) : Type 0 where
    pub head : Head
    pub object : ℕ
    pub include : Bool
    pub avoid : Binding
    pub asking : asks m ≡ Some (head, ask.Bind object include avoid)
    pub asker : asked_by head ≡ a
    pub back : to ≡ from
    pub so : RB head object include avoid r

  pub record LoadsTo (to : ℕ) (a : Asked) (st : ObjectState) : Type 0 where
    pub head : Head
    pub object : ℕ
    pub asking : asks m ≡ Some (head, ask.Load object)
    pub asker : asked_by head ≡ a
    pub back : to ≡ from
    pub so : RL head object st

  abbrev pub AnswerSo : ℕ → Asked → Reply → Type 0
  AnswerSo to a (Reply.Bound r) = NamesTo to a r
  AnswerSo to a (Reply.Loaded (loaded.State st)) = LoadsTo to a st
  AnswerSo to a _ = ⊤

  abbrev pub EffectSo : Coord → Effect → Type 0
  EffectSo c (Send to p) = ((a : Asked) (r : Reply) → answers p ≡ Some (a, r) → AnswerSo to a r) × SendsSo c (Send to p)
  EffectSo c (Say b) = ⊤
  EffectSo c (Do w) = ⊤

  abbrev pub AllSend : Coord → List Effect → Type 0
  AllSend c outs = AllByRecursion (EffectSo c) outs

  -- what a coordinator sends answers nobody
  pub quiet_so : (c : Coord) (es : List Effect) → AllQuiet es → AllSo c es → AllSend c es
  quiet_so c es q so = by es (quiet_silent es q) so
    where
      by : (fs : List Effect) → AllSilent fs → AllSo c fs → AllSend c fs
      by [] s so = tt
      by (Say b ∷ fs) s so = (tt, by fs s.1 so.1)
      by (Do w ∷ fs) s so = (tt, by fs s.1 so.1)
      by (Send to p ∷ fs) s so = (
        ((λ a r is. let no_way : ◌≡◌ {A = Option (Asked × Reply)} None (Some (a, r)) = sym s.0 ∙ is in absurd (cc no_way)), so.0),
        by fs s.1 so.1,
      )

  module _ (c : Coord) where
    so_both : (es fs : List Effect) → AllSend c es → AllSend c fs → AllSend c (es ++ fs)
    so_both es fs a b = all_append (EffectSo c) es fs a b

    -- without messages nothing is answered
    silent : (test : Effect → Bool) → ((to : ℕ) (p : Message) → test (Send to p) ≡ false) → (es : List Effect) → AreAll test es →
        AllSend c es
    silent test none [] own = tt
    silent test none (Say b ∷ es) own = (tt, silent test none es (and_parts (test (Say b)) (list_all test es) own).1)
    silent test none (Do w ∷ es) own = (tt, silent test none es (and_parts (test (Do w)) (list_all test es) own).1)
    silent test none (Send to p ∷ es) own =
        let no_way : true ≡ false = sym (and_parts (test (Send to p)) (list_all test es) own).0 ∙ none to p in absurd (cc no_way)

    queries_so : (us : List Uid) → AllSend c (map query_about us)
    queries_so [] = tt
    queries_so (u ∷ us) = (((λ a r is. absurd (cc is)), λ h a is. absurd (cc is)), queries_so us)

    same_answer : (to : ℕ) (a b : Asked) (q r : Reply) → ◌≡◌ {A = Option (Asked × Reply)} (Some (a, q)) (Some (b, r)) → AnswerSo to a q →
        AnswerSo to b r
    same_answer to a b q r is so = let two : ◌≡◌ {A = Asked × Reply} (a, q) (b, r) = some_is is in
        subst (λ (z : Asked × Reply). AnswerSo to z.0 z.1) two so

    response_so : (to : ℕ) (a : Asked) (r : Reply) → AnswerSo to a r → EffectSo c (Send to (response a r))
    response_so to a r so =
        (by r so, λ h q is. absurd (let no_way : ◌≡◌ {A = Option (Head × Ask)} None (Some (h, q)) = sym (no_request a r) ∙ is in cc no_way))
      where
        by : (q : Reply) → AnswerSo to a q → (b : Asked) (r : Reply) → answers (response a q) ≡ Some (b, r) → AnswerSo to b r
        by (Reply.Bound q) so b r is = same_answer to a b (Reply.Bound q) r is so
        by (Reply.Loaded q) so b r is = same_answer to a b (Reply.Loaded q) r is so
        by (Reply.Activated q) so b r is = same_answer to a b (Reply.Activated q) r is so
        by (Reply.Noted q) so b r is = same_answer to a b (Reply.Noted q) r is so
        by (Reply.Invoked q) so b r is = same_answer to a b (Reply.Invoked q) r is so
        by (Reply.Voted q) so b r is = same_answer to a b (Reply.Voted q) r is so
        by (Reply.Prepared q) so b r is = same_answer to a b (Reply.Prepared q) r is so
        by (Reply.Confirmed q) so b r is = same_answer to a b (Reply.Confirmed q) r is so

  module _ (k : ℕ) (d : Disk) (t : Parts) (S : Server → Type 0) (N : Option Naming → Type 0) (C : Coord → Type 0) where
    -- what is kept of the server and of naming, and what the answers are
    pub record IsKeptIn : Type 0 where
      pub its_server : S t.server
      pub activate : (h : Head) (b : Binding) (st : ObjectState) → asks m ≡ Some (h, ask.Activate b st) →
          S (server.activate k h.path b st t.server).part
      pub invoke : (h : Head) (x : ℕ) (b : Binding) (i : ℕ) (ends : List (Uid × End)) (o : Op) →
          asks m ≡ Some (h, ask.Invoke x b i ends o) → S (server.invoke k h x b i ends o t.server).part
      pub vote : (h : Head) (i : ℕ) (ties : List (ℕ × Binding)) (ends : List (Uid × End)) →
          S (server.vote k h.path i ties ends t.server).part
      pub told : (ends : List (Uid × End)) → S (server.told k ends t.server).part
      pub its_naming : N t.naming
      pub its_coord : C t.coord
      pub bind : (h : Head) (x : ℕ) (include : Bool) (avoid : Binding) (n : Naming) → asks m ≡ Some (h, ask.Bind x include avoid) →
          t.naming ≡ Some n → let r = naming.bind h.path x include avoid d.names n in
          N (Some r.part) × ((q : BoundReply) → r.reply ≡ Some q → RB h x include avoid q)
      pub note : (h : Head) (x : ℕ) (b : Binding) (i g : ℕ) (n : Naming) → t.naming ≡ Some n →
          N (Some (let r = naming.note h.path x b i g n in r.part))
      pub confirm : (h : Head) (grants : Grants) (excluded included : Marks) (n : Naming) → t.naming ≡ Some n →
          N (Some (let r = confirm h.path grants excluded included d.names n in r.part))
      pub ended : (u : Uid) (e : End) (n : Naming) → t.naming ≡ Some n → N (Some (let r = naming.told u e d.names n in r.part))
      pub hello : (node inc : ℕ) (n : Naming) → t.naming ≡ Some n → N (Some (naming.hello node inc n))
      pub load : (h : Head) (x : ℕ) (st : ObjectState) → held_at (object x) d.store ≡ Some st → RL h x st

    module _ (kept : IsKeptIn) where
      abbrev By : Handled → Type 0
      By (Void outs) = ⊤
      By (Took v outs) = ((S v.server × N v.naming) × C v.coord) × AllSend v.coord outs

      answered : (h : Head) (v : Parts) (outs : List Effect) (o : Option Reply) → S v.server → N v.naming → C v.coord →
          AllSend v.coord outs → ((r : Reply) → o ≡ Some r → AnswerSo from (asked_by h) r) → By (sends_answer from h v outs o)
      answered h v outs None s n c so each = tt
      answered h v outs (Some r) s n c so each = (
        ((s, n), c),
        so_both v.coord outs (Send from (response (asked_by h) r) ∷ []) so (response_so v.coord from (asked_by h) r (each r refl), tt),
      )

      -- an answer of another kind
      plain : {Q : Type 0} (h : Head) (say : Q → Reply) → ((q : Q) → AnswerSo from (asked_by h) (say q)) → (o : Option Q) (r : Reply) →
          option_map say o ≡ Some r → AnswerSo from (asked_by h) r
      plain h say each None r is = absurd (cc is)
      plain h say each (Some q) r is = subst (AnswerSo from (asked_by h)) (some_is is) (each q)

      with_it : (f : Naming → Handled) (o : Option Naming) → t.naming ≡ o → ((n : Naming) → t.naming ≡ Some n → By (f n)) →
          By (if_naming f o)
      with_it f None is each = tt
      with_it f (Some n) is each = each n is

      own_naming : (es : List Effect) → AreAll is_naming_effect es → AllSend t.coord es
      own_naming es own = silent t.coord is_naming_effect (λ to p. refl) es own

      own_server : (es : List Effect) → AreAll (is_server_effect k) es → AllSend t.coord es
      own_server es own = silent t.coord (is_server_effect k) (λ to p. refl) es own

      bound_so : (h : Head) (x : ℕ) (include : Bool) (avoid : Binding) → asks m ≡ Some (h, ask.Bind x include avoid) →
          (o : Option BoundReply) → ((q : BoundReply) → o ≡ Some q → RB h x include avoid q) → (r : Reply) →
          option_map Reply.Bound o ≡ Some r → AnswerSo from (asked_by h) r
      bound_so h x include avoid is None each r of = absurd (cc of)
      bound_so h x include avoid is (Some q) each r of =
          subst (AnswerSo from (asked_by h)) (some_is of)
          (record { head = h; object = x; include = include; avoid = avoid; asking = is; asker = refl; back = refl; so = each q refl })

      asked : (h : Head) (a : Ask) → asks m ≡ Some (h, a) → By (serve k d t from h a)
      asked h (ask.Bind x include avoid) is =
          with_it (λ o. served from h (with_naming t) Reply.Bound (naming.bind h.path x include avoid d.names o)) t.naming refl
          (λ n at. let r = naming.bind h.path x include avoid d.names n in let b = kept.bind h x include avoid n is at in
          answered h (with_naming t r.part) r.outs (option_map Reply.Bound r.reply) kept.its_server b.0 kept.its_coord
          (own_naming r.outs (bind_own h.path x include avoid d.names n)) (bound_so h x include avoid is r.reply b.1))
      asked h (ask.Load x) is = load (holder_of (object x) d.store)
        where
          state : (o : Option ObjectState) → held_at (object x) d.store ≡ o → By (load_held from h t o)
          state None at = tt
          state (Some st) at = answered h t (Do Look ∷ []) (Some (Reply.Loaded (loaded.State st))) kept.its_server kept.its_naming
              kept.its_coord (tt, tt) one
            where
              one : (r : Reply) → Some (Reply.Loaded (loaded.State st)) ≡ Some r → AnswerSo from (asked_by h) r
              one r of = subst (AnswerSo from (asked_by h)) (some_is of)
                  (record { head = h; object = x; asking = is; asker = refl; back = refl; so = kept.load h x st at })

          load : (o : Option Uid) → By (load_by x d.store from h t o)
          load (Some u) = (
            ((kept.its_server, kept.its_naming), kept.its_coord),
            (response_so t.coord from (asked_by h) (Reply.Loaded (loaded.InDoubt u)) tt, tt),
          )
          load None = state (held_at (object x) d.store) refl
      asked h (ask.Activate b st) is = let r = server.activate k h.path b st t.server in
          answered h (with_server t r.part) r.outs (option_map Reply.Activated r.reply) (kept.activate h b st is) kept.its_naming
          kept.its_coord (own_server r.outs (activate_own k h.path b st t.server)) (plain h Reply.Activated (λ q. tt) r.reply)
      asked h (ask.Record x b i g) is =
          with_it (λ o. served from h (with_naming t) Reply.Noted (naming.note h.path x b i g o)) t.naming refl
          (λ n at. let r = naming.note h.path x b i g n in
          answered h (with_naming t r.part) r.outs (option_map Reply.Noted r.reply) kept.its_server (kept.note h x b i g n at)
          kept.its_coord (own_naming r.outs (note_own h.path x b i g n)) (plain h Reply.Noted (λ q. tt) r.reply))
      asked h (ask.Invoke x b i ends o) is = let r = server.invoke k h x b i ends o t.server in
          answered h (with_server t r.part) r.outs (option_map Reply.Invoked r.reply) (kept.invoke h x b i ends o is) kept.its_naming
          kept.its_coord (own_server r.outs (invoke_own k h x b i ends o t.server)) (plain h Reply.Invoked (λ q. tt) r.reply)
      asked h (ask.Vote i ties ends) is = let r = server.vote k h.path i ties ends t.server in
          answered h (with_server t r.part) r.outs (option_map Reply.Voted r.reply) (kept.vote h i ties ends) kept.its_naming kept.its_coord
          (own_server r.outs (vote_own k h.path i ties ends t.server)) (plain h Reply.Voted (λ q. tt) r.reply)
      asked h (ask.Prepare states) is = each (is_prepared (actor h.path) d.store)
        where
          new : (a : Prep) → By (prepare_by k states from h t a)
          new Ready = (
            ((kept.its_server, kept.its_naming), kept.its_coord),
            (tt, (tt, (tt, (response_so t.coord from (asked_by h) (Reply.Prepared prepared.Yes) tt, tt)))),
          )
          new (Already u) = tt
          new (Old u v) = (
            ((kept.its_server, kept.its_naming), kept.its_coord),
            (tt, (response_so t.coord from (asked_by h) (Reply.Prepared (prepared.Old u.num v)) tt, tt)),
          )
          new (InDoubt u holder) = (
            ((kept.its_server, kept.its_naming), kept.its_coord),
            (tt, (response_so t.coord from (asked_by h) (Reply.Prepared (prepared.InDoubt u.num holder)) tt, tt)),
          )

          each : (b : Bool) → By (cond b (sends_answer from h t [] (Some (Reply.Prepared prepared.Yes)))
              (prepare_by k states from h t (prepare_answer (actor h.path) states d.store)))
          each true = (
            ((kept.its_server, kept.its_naming), kept.its_coord),
            (response_so t.coord from (asked_by h) (Reply.Prepared prepared.Yes) tt, tt),
          )
          each false = new (prepare_answer (actor h.path) states d.store)
      asked h (ask.Confirm grants excluded included) is =
          with_it (λ o. served from h (with_naming t) Reply.Confirmed (confirm h.path grants excluded included d.names o)) t.naming refl
          (λ n at. let r = confirm h.path grants excluded included d.names n in answered h (with_naming t r.part) r.outs
          (option_map Reply.Confirmed r.reply) kept.its_server (kept.confirm h grants excluded included n at) kept.its_coord
          (own_naming r.outs (confirm_own h.path grants excluded included d.names n)) (plain h Reply.Confirmed (λ q. tt) r.reply))

      coord_left : (r : Served Coord (Unit {0})) → C r.part × AllSend r.part r.outs → By (coord_heard t r)
      coord_left r so = by_coord k d t from By tt r (((kept.its_server, kept.its_naming), so.0), so.1)

      ends_left : (ack : Bool) (ends : List (Uid × End)) (o : Option (Uid × End)) → By (handle_ends k d t from ack ends o)
      ends_left ack ends None = (((kept.its_server, kept.its_naming), kept.its_coord), tt)
      ends_left ack ends (Some e) =
          let s = server.told k ends t.server in
          let o = naming_told e.0 e.1 d.names t.naming in (
            ((kept.told ends, named t.naming refl), kept.its_coord),
            so_both t.coord (store_told k e.0 e.1 d.store ++ o.outs ++ s.outs) (ack_told from e.0 ack)
                (so_both t.coord (store_told k e.0 e.1 d.store ++ o.outs) s.outs (so_both t.coord (store_told k e.0 e.1 d.store) o.outs
                (stored (is_prepared e.0 d.store) e.1) (said t.naming)) (own_server s.outs (ends_own k ends t.server))) (acked_told ack),
          )
        where
          stored : (b : Bool) (how : End) → AllSend t.coord (cond b (end_states k e.0 how) [])
          stored false how = tt
          stored true ending.Commit = (tt, (tt, tt))
          stored true ending.Abort = (tt, (tt, tt))

          said : (o : Option Naming) → AllSend t.coord (naming_told e.0 e.1 d.names o).outs
          said None = tt
          said (Some n) = own_naming (naming.told e.0 e.1 d.names n).outs (told_own e.0 e.1 d.names n)

          named : (o : Option Naming) → t.naming ≡ o → N (naming_told e.0 e.1 d.names o).part
          named None is = subst N is kept.its_naming
          named (Some n) is = kept.ended e.0 e.1 n is

          acked_told : (b : Bool) → AllSend t.coord (ack_told from e.0 b)
          acked_told true = (((λ a r is. absurd (cc is)), λ h a is. absurd (cc is)), tt)
          acked_told false = tt

      hello_left : (node inc : ℕ) (o : Option Naming) → t.naming ≡ o → N (naming_hello node inc o)
      hello_left node inc None is = subst N is kept.its_naming
      hello_left node inc (Some n) is = kept.hello node inc n is

      module _ (hears : (a : Asked) (r : Reply) → answers m ≡ Some (a, r) → let q = heard from a r d.intents t.coord in
          C q.part × AllSend q.part q.outs) (acks : (u : Uid) → let q = acked from u d.intents t.coord in
          C q.part × AllSend q.part q.outs) (tells : (u : Uid) → AllSend t.coord (answer_query from u d.intents t.coord)) where
        other : (p : Message) → By (handle_other k d t from p)
        other (message.Told p) = ends_left p.ack p.ends (last_end p.ends)
        other (message.Acked p) = coord_left (acked from p.act d.intents t.coord) (acks p.act)
        other (message.Query p) = (((kept.its_server, kept.its_naming), kept.its_coord), tells p.act)
        other (message.Hello p) = (
          ((kept.its_server, hello_left p.node p.inc t.naming refl), kept.its_coord),
          queries_so t.coord (filter (is_earlier p.node p.inc) (holders d t)),
        )
        other p = tt

        pub message_served : By (handle k d t from m)
        message_served =
            by_message k d t from By tt m asked (λ a r is. coord_left (heard from a r d.intents t.coord) (hears a r is)) (other m)
