-- A request is served: with lines and works alone, and then the answer. And which answers the server keeps then.
use Rattle.arj_law_parts.proofs.Words
use Words.{◌∙◌, ◌≡◌, ◌||◌, ◌&&◌, ◌==◌, ℕ, Bool, true, false, not, cond, List, [], ◌∷◌, ◌++◌, refl, sym, ap, subst, inl, inr, Option}
use Words.{Some}
use Words.{None, ⊤, is_some}
use Words.{option_map, AllByRecursion, match_ordering, Ordering, Less, Equal, Greater, eqb-true, uid_order, is_eq}
use Words.{Ask, Binding, End, Head, InvokedReply, ObjectState, Op, Path, Uid, VotedReply, What, object, Reply, actor, asked_by}
use Words.{response}
use Words.{Copy, invoke_copy, Did, Served, did_nothing, either, reply, void, at_number, at_uid, put_uid}
use Words.{binding_eq, binding_less, Kept, Server, activate, active_binding, apply_ends, changed_by, end_new, end_one, first_unbound}
use Words.{has_ended, invoke, invoke_kept, invoke_new, invoke_now, is_below, is_told, keeps, on_copy, other_inc, told, took_copy, vote}
use Words.{vote_now}
use Words.{confirm, Already, Disk, Do, Effect, InDoubt, Look, Old, Prep, Prepare, Ready, Say, Send, held_at, holder_of, is_prepared}
use Words.{prepare_answer, Naming, Handled, Parts, Took, Void, if_naming, load_by, load_held, prepare_by, sends_answer, serve, served}
use Words.{with_naming, with_server, AreAll, is_naming_effect, is_server_effect, activate_own, bind_own, confirm_own, invoke_own, note_own}
use Words.{vote_own}
use Words.ask
use Words.list
use Words.body
use Words.role
use Words.loaded
use Words.prepared
use Words.naming
use Words.server
use Rattle.arj_law_lock_view.proofs.Terms.{all_without, order_exact, some_is}
use Rattle.arj_law_lock_view.proofs.moments.Later.{AreSilent, IsSilent}
use Rattle.arj_law_parts.proofs.parts.SaidIncs.{all_quiet}
use Rattle.arj_law_lock_view.specs.moments.Made.{is_again, is_kept}
use Rattle.arj_protocol.specs.Server.{taken_end}

-- ---- maps under Uids

put_all : {X : Type 0} (Q : Uid → X → Type 0) (u : Uid) (x : X) (es : List (Uid × X)) → Q u x →
    AllByRecursion (λ (e : Uid × X). Q e.0 e.1) es → AllByRecursion (λ (e : Uid × X). Q e.0 e.1) (put_uid u x es)
put_all Q u x [] its all = (its, tt)
put_all {X} Q u x (e ∷ es) its all = by (uid_order u e.0) refl (put_all Q u x es its all.1)
  where
    by : (r : Ordering) → uid_order u e.0 ≡ r → AllByRecursion (λ (f : Uid × X). Q f.0 f.1) (put_uid u x es) →
        AllByRecursion (λ (f : Uid × X). Q f.0 f.1) (match_ordering r ((u, x) ∷ e ∷ es) ((e.0, x) ∷ es) (e ∷ put_uid u x es))
    by Less is ih = (its, all)
    by Equal is ih = (subst (λ w. Q w x) (order_exact u e.0 is) its, all.1)
    by Greater is ih = (all.0, ih)

-- what is found has its key
pub found_all : {X : Type 0} (Q : Uid → X → Type 0) (u : Uid) (x : X) (es : List (Uid × X)) →
    AllByRecursion (λ (e : Uid × X). Q e.0 e.1) es → at_uid u es ≡ Some x → Q u x
found_all {X} Q u x [] all is = let no_way : ◌≡◌ {A = Option X} None (Some x) = is in cc
found_all {X} Q u x (e ∷ es) all is = by (uid_order u e.0) refl is (found_all Q u x es all.1)
  where
    by : (r : Ordering) → uid_order u e.0 ≡ r → cond (is_eq r) (Some e.1) (at_uid u es) ≡ Some x → (at_uid u es ≡ Some x → Q u x) → Q u x
    by Less apart s ih = ih s
    by Equal same s ih = subst (λ w. Q w x) (sym (order_exact u e.0 same)) (subst (λ y. Q e.0 y) (some_is s) all.0)
    by Greater apart s ih = ih s

-- ---- what a server keeps

module _ (Q : Uid → Kept → Type 0) where
  abbrev pub AllKept : Server → Type 0
  AllKept s = AllByRecursion (λ (e : Uid × Kept). Q e.0 e.1) s.kept

  end_kept : (n : ℕ) (u : Uid) (e : End) (s : Server) → AllKept s → AllKept (end_one n u e s).part
  end_kept n u e s all = by (is_told u s)
    where
      by : (b : Bool) → AllKept (cond {A = Did Server} b (did_nothing s) (end_new n u (taken_end u e s) s)).part
      by true = all
      by false = all_without (λ (k : Uid × Kept). Q k.0 k.1) u s.kept all

  pub told_kept : (n : ℕ) (es : List (Uid × End)) (s : Server) → AllKept s → AllKept (told n es s).part
  told_kept n [] s all = all
  told_kept n (e ∷ es) s all = told_kept n es (end_one n e.0 e.1 s).part (end_kept n e.0 e.1 s all)

  vote_kept : (n : ℕ) (p : Path) (i : ℕ) (ties : List (ℕ × Binding)) (ends : List (Uid × End)) (s : Server) → AllKept s →
      AllKept (vote n p i ties ends s).part
  vote_kept n p i ties ends s all = by (has_ended p s)
    where
      now : (w : Option What) → AllKept (vote_now n (actor p) ends s w).part
      now (Some w) = all
      now None = told_kept n ends s all

      by : (b : Bool) → AllKept (cond {A = Served Server VotedReply} b (void s)
          (vote_now n (actor p) ends s (either (other_inc i s.inc) (first_unbound ties s)))).part
      by true = all
      by false = now (either (other_inc i s.inc) (first_unbound ties s))

  activate_kept : (n : ℕ) (p : Path) (b : Binding) (st : ObjectState) (s : Server) → AllKept s → AllKept (activate n p b st s).part
  activate_kept n p b st s all =
      by (has_ended p s) (binding_less b (active_binding st.uid.num s)) (binding_eq b (active_binding st.uid.num s))
    where
      by : (over lower equal : Bool) →
          AllKept (cond {A = Served Server ℕ} (over || lower) (void s) (cond equal (reply s s.inc) (took_copy n st.uid.num b st s))).part
      by true lower equal = all
      by false true equal = all
      by false false true = all
      by false false false = all

  -- an answer that is new is kept
  invokes_kept : (n : ℕ) (h : Head) (x : ℕ) (b : Binding) (i : ℕ) (ends : List (Uid × End)) (o : Op) (s : Server) → AllKept s →
      ((q : InvokedReply) → (invoke n h x b i ends o s).reply ≡ Some q → Q (actor h.path) (record { req = h.req; answer = q })) →
      AllKept (invoke n h x b i ends o s).part
  invokes_kept n h x b i ends o s all = by (has_ended h.path s || is_below h.req (at_uid (actor h.path) s.kept))
    where
      Owes : Served Server InvokedReply → Type 0
      Owes r = ((q : InvokedReply) → r.reply ≡ Some q → Q (actor h.path) (record { req = h.req; answer = q })) → AllKept r.part

      stays : (q : Option InvokedReply) (v : Server) → AllKept v →
          ((a : InvokedReply) → q ≡ Some a → Q (actor h.path) (record { req = h.req; answer = a })) →
          AllKept (keeps (actor h.path) h.req q v)
      stays None v its owed = its
      stays (Some q) v its owed =
          put_all Q (actor h.path) (record { req = h.req; answer = q }) v.kept (owed q refl) its

      copied : (t : Server) → AllKept t → (f : Option Copy) → AllKept (on_copy x (invoke_copy n h.path x o) t f).part
      copied t its None = its
      copied t its (Some c) = its

      new : Owes (invoke_new n h x ends o s)
      new owed =
          let t = (apply_ends n ends s).part in
          let r = on_copy x (invoke_copy n h.path x o) t (at_number x t.objects) in
          stays r.reply r.part (copied t (told_kept n ends s all) (at_number x t.objects)) owed

      kept : (q : Option Kept) → Owes (invoke_kept n h x ends o s q)
      kept None = new
      kept (Some q) = one (q.req == h.req)
        where
          one : (c : Bool) → Owes (cond {A = Served Server InvokedReply} c (reply s q.answer) (invoke_new n h x ends o s))
          one true owed = all
          one false owed = new owed

      now : (w : Option What) → Owes (invoke_now n h x ends o s w)
      now (Some w) owed = all
      now None owed = kept (at_uid (actor h.path) s.kept) owed

      by : (c : Bool) → Owes (cond {A = Served Server InvokedReply} c (void s) (invoke_now n h x ends o s (changed_by i x b s)))
      by true owed = all
      by false owed = now (changed_by i x b s) owed

-- what is answered again was kept
again_kept : (n : ℕ) (h : Head) (x : ℕ) (b : Binding) (i : ℕ) (ends : List (Uid × End)) (o : Op) (s : Server) (q : InvokedReply) →
    (invoke n h x b i ends o s).reply ≡ Some q → (not (is_some (changed_by i x b s)) && is_kept h.req (at_uid (actor h.path) s.kept)) ≡ true
    →
    (k : Kept) × (at_uid (actor h.path) s.kept ≡ Some k) × (k.req ≡ h.req) × (q ≡ k.answer)
again_kept n h x b i ends o s q is again =
    by (has_ended h.path s || is_below h.req (at_uid (actor h.path) s.kept)) is
  where
    Kept_so : Type 0
    Kept_so = (k : Kept) × (at_uid (actor h.path) s.kept ≡ Some k) × (k.req ≡ h.req) × (q ≡ k.answer)

    one : (k : Kept) (c : Bool) → (k.req == h.req) ≡ c → c ≡ true → at_uid (actor h.path) s.kept ≡ Some k →
        (cond {A = Served Server InvokedReply} c (reply s k.answer) (invoke_new n h x ends o s)).reply ≡ Some q → Kept_so
    one k true same again_is found its = (k, found, eqb-true k.req h.req same, sym (some_is its))
    one k false same again_is found its = absurd (cc again_is)

    kept : (f : Option Kept) → at_uid (actor h.path) s.kept ≡ f → is_kept h.req f ≡ true → (invoke_kept n h x ends o s f).reply ≡ Some q →
        Kept_so
    kept None found again_is its = absurd (cc again_is)
    kept (Some k) found again_is its = one k (k.req == h.req) refl again_is found its

    now : (w : Option What) → (not (is_some w) && is_kept h.req (at_uid (actor h.path) s.kept)) ≡ true →
        (invoke_now n h x ends o s w).reply ≡ Some q → Kept_so
    now (Some w) again_is its = absurd (cc again_is)
    now None again_is its = kept (at_uid (actor h.path) s.kept) refl again_is its

    by : (c : Bool) → (cond {A = Served Server InvokedReply} c (void s) (invoke_now n h x ends o s (changed_by i x b s))).reply ≡ Some q →
        Kept_so
    by true its = let no_way : ◌≡◌ {A = Option InvokedReply} None (Some q) = its in absurd (cc no_way)
    by false its = now (changed_by i x b s) again its

-- ---- a request

server_silent : (n : ℕ) (es : List Effect) → AreAll (is_server_effect n) es → AreSilent es
server_silent n es own = all_quiet IsSilent (is_server_effect n) (λ to m. refl) one es own
  where
    one : (f : Effect) → is_server_effect n f ≡ true → IsSilent f
    one (Say b) is = tt
    one (Send to m) is = absurd (cc is)
    one (Do w) is = tt

naming_silent : (es : List Effect) → AreAll is_naming_effect es → AreSilent es
naming_silent es own = all_quiet IsSilent is_naming_effect (λ to m. refl) one es own
  where
    one : (f : Effect) → is_naming_effect f ≡ true → IsSilent f
    one (Say b) is = tt
    one (Send to m) is = absurd (cc is)
    one (Do w) is = tt

-- what is kept was kept before, or is the answer
pub data HasCome (h : Head) (r : Reply) (old : List (Uid × Kept)) (u : Uid) (k : Kept) : Type 0 where
  Was : list.In (u, k) old → HasCome h r old u k
  IsNew : (q : InvokedReply) → actor h.path ≡ u → record { req = h.req; answer = q } ≡ k → r ≡ Reply.Invoked q → HasCome h r old u k

all_there : (P : Uid → Kept → Type 0) (es : List (Uid × Kept)) → ((u : Uid) (k : Kept) → list.In (u, k) es → P u k) →
    AllByRecursion (λ (e : Uid × Kept). P e.0 e.1) es
all_there P [] f = tt
all_there P (e ∷ es) f = (f e.0 e.1 (inl refl), all_there P es (λ u k i. f u k (inr i)))

-- Without sending anything else it answers; what the server keeps then was kept before, or is the answer; and what is answered again was
-- kept.
pub record Serves (from : ℕ) (h : Head) (a : Ask) (t v : Parts) (outs : List Effect) : Type 0 where
  pub front : List Effect
  pub reply : Reply
  pub are : outs ≡ front ++ Send from (response (asked_by h) reply) ∷ []
  pub silent : AreSilent front
  pub kept : AllByRecursion (λ (e : Uid × Kept). HasCome h reply (let s = t.server in s.kept) e.0 e.1) (let s = v.server in s.kept)
  pub again : is_again h a t.server ≡ true →
      (k : Kept) × (at_uid (actor h.path) (let s = t.server in s.kept) ≡ Some k) × (k.req ≡ h.req) × (reply ≡ Reply.Invoked k.answer)

abbrev pub IsServed : ℕ → Head → Ask → Parts → Handled → Type 0
IsServed from h a t (Void outs) = ⊤
IsServed from h a t (Took v outs) = Serves from h a t v outs

module _ (k : ℕ) (d : Disk) (t : Parts) (from : ℕ) (h : Head) where
  were : (r : Reply) → AllByRecursion (λ (e : Uid × Kept). HasCome h r t.server.kept e.0 e.1) t.server.kept
  were r = all_there (HasCome h r t.server.kept) t.server.kept (λ u x i. Was i)

  -- an answer that isn't kept
  answers : (a : Ask) → is_again h a t.server ≡ false → (v : Parts) (outs : List Effect) (o : Option Reply) → AreSilent outs →
      ((r : Reply) → o ≡ Some r → AllByRecursion (λ (e : Uid × Kept). HasCome h r t.server.kept e.0 e.1) v.server.kept) →
      IsServed from h a t (sends_answer from h v outs o)
  answers a new v outs None silent kept = tt
  answers a new v outs (Some r) silent kept = record {
    front = outs;
    reply = r;
    are = refl;
    silent = silent;
    kept = kept r refl;
    again = λ again_is. let no_way : true ≡ false = sym again_is ∙ new in absurd (cc no_way);
  }

  by_naming : (f : Naming → Handled) (o : Option Naming) (a : Ask) → ((n : Naming) → IsServed from h a t (f n)) →
      IsServed from h a t (if_naming f o)
  by_naming f None a each = tt
  by_naming f (Some n) a each = each n

  pub serves : (a : Ask) → IsServed from h a t (serve k d t from h a)
  serves (ask.Bind x include avoid) = by_naming (λ o. served from h (with_naming t) Reply.Bound
      (naming.bind h.path x include avoid d.names o))
      t.naming (ask.Bind x include avoid) (λ n. let r = naming.bind h.path x include avoid d.names n in
      answers (ask.Bind x include avoid) refl (with_naming t r.part) r.outs (option_map Reply.Bound r.reply)
      (naming_silent r.outs (bind_own h.path x include avoid d.names n)) (λ q is. were q))
  serves (ask.Load x) = load (holder_of (object x) d.store)
    where
      held : (s : Option ObjectState) → IsServed from h (ask.Load x) t (load_held from h t s)
      held None = tt
      held (Some s) = answers (ask.Load x) refl t (Do Look ∷ []) (Some (Reply.Loaded (loaded.State s))) (tt, tt) (λ q is. were q)

      load : (o : Option Uid) → IsServed from h (ask.Load x) t (load_by x d.store from h t o)
      load (Some u) = answers (ask.Load x) refl t [] (Some (Reply.Loaded (loaded.InDoubt u))) tt (λ q is. were q)
      load None = held (held_at (object x) d.store)
  serves (ask.Activate b st) =
      let r = server.activate k h.path b st t.server in
      answers (ask.Activate b st) refl (with_server t r.part) r.outs (option_map Reply.Activated r.reply)
      (server_silent k r.outs (activate_own k h.path b st t.server))
      (λ q is. activate_kept (HasCome h q t.server.kept) k h.path b st t.server (were q))
  serves (ask.Record x b i g) = by_naming (λ o. served from h (with_naming t) Reply.Noted (naming.note h.path x b i g o)) t.naming
      (ask.Record x b i g) (λ n. let r = naming.note h.path x b i g n in
      answers (ask.Record x b i g) refl (with_naming t r.part) r.outs (option_map Reply.Noted r.reply)
      (naming_silent r.outs (note_own h.path x b i g n)) (λ q is. were q))
  serves (ask.Invoke x b i ends o) = by (server.invoke k h x b i ends o t.server).reply refl
    where
      r : Served Server InvokedReply
      r = server.invoke k h x b i ends o t.server

      by : (q : Option InvokedReply) → (server.invoke k h x b i ends o t.server).reply ≡ q → IsServed from h (ask.Invoke x b i ends o) t
          (sends_answer from h (with_server t (server.invoke k h x b i ends o t.server).part)
          (server.invoke k h x b i ends o t.server).outs (option_map Reply.Invoked q))
      by None is = tt
      by (Some q) is = record {
        front = r.outs;
        reply = Reply.Invoked q;
        are = refl;
        silent = server_silent k r.outs (invoke_own k h x b i ends o t.server);
        kept = invokes_kept (HasCome h (Reply.Invoked q) t.server.kept) k h x b i ends o t.server (were (Reply.Invoked q))
            (λ z its. IsNew z refl refl (ap Reply.Invoked (some_is (sym is ∙ its))));
        again = λ again_is. let f = again_kept k h x b i ends o t.server q is again_is in (f.0, f.1, f.2, ap Reply.Invoked f.3);
      }
  serves (ask.Vote i ties ends) =
      let r = server.vote k h.path i ties ends t.server in
      answers (ask.Vote i ties ends) refl (with_server t r.part) r.outs (option_map Reply.Voted r.reply)
      (server_silent k r.outs (vote_own k h.path i ties ends t.server))
      (λ q is. vote_kept (HasCome h q t.server.kept) k h.path i ties ends t.server (were q))
  serves (ask.Prepare states) = each (is_prepared (actor h.path) d.store)
    where
      a : Ask
      a = ask.Prepare states

      new : (p : Prep) → IsServed from h (ask.Prepare states) t (prepare_by k states from h t p)
      new Ready = answers (ask.Prepare states) refl t (Do Look ∷ Do (Prepare role.Store (actor h.path) states)
          ∷ Say (body.Prepared k (actor h.path) role.Store) ∷ []) (Some (Reply.Prepared prepared.Yes)) (tt, (tt, (tt, tt))) (λ q is. were q)
      new (Already u) = tt
      new (Old u v) = answers (ask.Prepare states) refl t (Do Look ∷ []) (Some (Reply.Prepared (prepared.Old u.num v))) (tt, tt)
          (λ q is. were q)
      new (InDoubt u holder) = answers (ask.Prepare states) refl t (Do Look ∷ []) (Some (Reply.Prepared (prepared.InDoubt u.num holder)))
          (tt, tt) (λ q is. were q)

      each : (b : Bool) → IsServed from h (ask.Prepare states) t (cond b (sends_answer from h t [] (Some (Reply.Prepared prepared.Yes)))
          (prepare_by k states from h t (prepare_answer (actor h.path) states d.store)))
      each true = answers (ask.Prepare states) refl t [] (Some (Reply.Prepared prepared.Yes)) tt (λ q is. were q)
      each false = new (prepare_answer (actor h.path) states d.store)
  serves (ask.Confirm grants excluded included) = by_naming (λ o. served from h (with_naming t) Reply.Confirmed
      (confirm h.path grants excluded included d.names o)) t.naming (ask.Confirm grants excluded included)
      (λ n. let r = confirm h.path grants excluded included d.names n in
      answers (ask.Confirm grants excluded included) refl (with_naming t r.part) r.outs (option_map Reply.Confirmed r.reply)
      (naming_silent r.outs (confirm_own h.path grants excluded included d.names n)) (λ q is. were q))
