-- What stores and naming answer is about objects, and a node: those that they were asked about.
use Rattle.arj_law_parts.proofs.Words
use Words.{◌≡◌, ◌≤◌, length, ◌∙◌, ◌++◌, ◌+◌, ◌==◌, ◌||◌, not, ℕ, Bool, true, false, cond, List, [], ◌∷◌, filter, map, Option, Some, None}
use Words.{IfSome, refl, sym, ap, subst, ⊎_elim}
use Words.{⊤, option_map, unwrap_or, AllByRecursion, list_all, and_parts, cons_option, Ask, Asked, ConfirmedReply, End, Head}
use Words.{Header, Message, ObjectState, Path, Row, Uid, asks, object, Reply, actor, answers, asked_by, last_end, response, heard}
use Words.{again_all, begin_action, is_serial, Grants, Marks, checked, confirm, confirm_entries, confirm_new, confirms, entries_after}
use Words.{entry_after, first_of_each, has_all, is_bare, is_there, lock_all, other_grant, prepared_by, refused_exclude, wanted, top_of}
use Words.{Coord}
use Words.{Already, Did, Disk, Do, Effect, InDoubt, Look, Old, Pair, Prep, Prepare, Ready, Say, Send, Served, either, first_refusal}
use Words.{held_at}
use Words.{holder_of, is_prepared, prepare_answer, refusal_in, refusal_of, by_holder, is_old, worked, acked, answer_query, tick_outs}
use Words.{Naming, is_over}
use Words.{listed_entry, is_listed, same_nodes, state_entry, stores_after, entry_state, entry, is_on, Handled, Parts, Took, Void, ack_told}
use Words.{coord_heard, end_states, handle, handle_ends, handle_other, holders, if_naming, is_earlier, load_by, load_held, naming_told}
use Words.{prepare_by, query_about, sends_answer, serve, served, store_told, with_coord, with_naming, with_server, AreAll, is_naming_effect}
use Words.{is_server_effect, acts as acts_of, parent_of, parts_in, restart_outs, activate_own, bind_own, confirm_own, ends_own, invoke_own}
use Words.{note_own, told_own, vote_own, response_reads_back, Post, Seen, uid_eq, void, reply, conflict_in, at_number, last_uid}
use Words.{Binding, BoundReply, Counted, Live, Made, Named, Node, bind_call, bind_made, bind_named, conflict_on, include_asked, live_above}
use Words.{live_asked, made_above, make_asked, on_counted, at_uid}
use Words.ask
use Words.body
use Words.bound
use Words.confirmed
use Words.ending
use Words.loaded
use Words.message
use Words.mode
use Words.prepared
use Words.role
use Words.what
use Words.naming
use Words.server
use Rattle.arj_law_promise.proofs.Terms
use Terms.{AllQuiet, AllSilent, In, IsGood, KeepsAsked, Up, Walks, all_append, by_coord, by_message, given, restart_silent, some_is, up}
use Terms.{walks_both, Action, IsGoodOf, node_here}
use Rattle.arj_law_promise.proofs.waiting
use waiting.AskedEffects.{acked_quiet, acts_quiet, heard_quiet, query_quiet, tick_quiet}
use waiting.Serving.{quiet_silent}
use Rattle.arj_msg.specs.InForm.{IsNode, IsObject}

-- at most 255 stores
abbrev pub ListsFew : BoundReply → Type 0
ListsFew (bound.Live b server i g stores) = length stores ≤ 255
ListsFew (bound.Make b server g stores) = length stores ≤ 255
ListsFew (bound.Write g stores) = length stores ≤ 255
ListsFew (bound.Conflict holder m) = ⊤

-- an object, and the node; so many stores
abbrev pub ReplyFits : Reply → Type 0
ReplyFits (Reply.Prepared (prepared.InDoubt x holder)) = IsObject x
ReplyFits (Reply.Prepared (prepared.Old x v)) = IsObject x
ReplyFits (Reply.Bound r) = ListsFew r
ReplyFits (Reply.Confirmed (confirmed.NoStores x)) = IsObject x
ReplyFits (Reply.Confirmed (confirmed.Listed x n)) = IsObject x × IsNode n
ReplyFits r = ⊤

-- so it is of each answer that was sent
abbrev pub RepliesFit : Seen → Type 0
RepliesFit M = (p : Post) (a : Asked) (r : Reply) → In p M.sent → answers p.message ≡ Some (a, r) → ReplyFits r

-- ---- effects

abbrev EffectFits : Effect → Type 0
EffectFits (Send to m) = (a : Asked) (r : Reply) → answers m ≡ Some (a, r) → ReplyFits r
EffectFits (Say b) = ⊤
EffectFits (Do w) = ⊤

abbrev AllFit : List Effect → Type 0
AllFit outs = AllByRecursion EffectFits outs

walk : (e k : ℕ) (v : Parts) (outs : List Effect) (d : Disk) (M : Seen) → AllFit outs → RepliesFit M →
    Walks RepliesFit e k outs (Up RepliesFit k v) d M
walk e k v [] d M fit all = all
walk e k v (Do x ∷ es) d M fit all = ((λ how. all), walk e k v es (worked x d) M fit.1 all)
walk e k v (Say b ∷ es) d M fit all = walk e k v es d _ fit.1 all
walk e k v (Send to m ∷ es) d M fit all = λ more quiet. walk e k v es d _ fit.1
    (λ p a r there is. ⊎_elim (λ same. fit.0 a r (ap (λ (q : Post). answers q.message) same ∙ is)) (λ old. all p a r old is) there)

fit_both : (es fs : List Effect) → AllFit es → AllFit fs → AllFit (es ++ fs)
fit_both es fs a b = all_append EffectFits es fs a b

silent_fit : (es : List Effect) → AllSilent es → AllFit es
silent_fit [] s = tt
silent_fit (Say b ∷ es) s = (tt, silent_fit es s.1)
silent_fit (Do w ∷ es) s = (tt, silent_fit es s.1)
silent_fit (Send to m ∷ es) s = (
  (λ a r is. let no_way : ◌≡◌ {A = Option (Asked × Reply)} None (Some (a, r)) = sym s.0 ∙ is in absurd (cc no_way)),
  silent_fit es s.1,
)

-- without messages
plain_fit : (test : Effect → Bool) → ((to : ℕ) (p : Message) → test (Send to p) ≡ false) → (es : List Effect) → AreAll test es → AllFit es
plain_fit test none [] own = tt
plain_fit test none (Say b ∷ es) own = (tt, plain_fit test none es (and_parts (test (Say b)) (list_all test es) own).1)
plain_fit test none (Do w ∷ es) own = (tt, plain_fit test none es (and_parts (test (Do w)) (list_all test es) own).1)
plain_fit test none (Send to p ∷ es) own =
    let no_way : true ≡ false = sym (and_parts (test (Send to p)) (list_all test es) own).0 ∙ none to p in absurd (cc no_way)

naming_fit : (es : List Effect) → AreAll is_naming_effect es → AllFit es
naming_fit es own = plain_fit is_naming_effect (λ to p. refl) es own

server_fit : (n : ℕ) (es : List Effect) → AreAll (is_server_effect n) es → AllFit es
server_fit n es own = plain_fit (is_server_effect n) (λ to p. refl) es own

response_fit : (to : ℕ) (a : Asked) (q : Reply) → ReplyFits q → EffectFits (Send to (response a q))
response_fit to a q fits b r is = subst ReplyFits
    (ap (λ (z : Asked × Reply). z.1) (some_is (sym (response_reads_back a q) ∙ is))) fits

-- ---- a store's answer

abbrev PrepFits : Prep → Type 0
PrepFits (Old u v) = IsObject u.num
PrepFits (InDoubt u holder) = IsObject u.num
PrepFits p = ⊤

refused_fits : (act : Uid) (s : ObjectState) (held : Option ObjectState) (holder : Option Uid) → IsObject s.uid.num →
    IfSome (refusal_of act s held holder) PrepFits
refused_fits act s None None is = tt
refused_fits act s None (Some u) is = is
refused_fits act s (Some h) holder is = by (uid_eq h.writer act) (is_old s h)
  where
    held_by : (o : Option Uid) → IfSome (by_holder s o) PrepFits
    held_by None = tt
    held_by (Some u) = is

    by : (a b : Bool) →
        IfSome (cond {A = Option Prep} a (Some (Already s.uid))
        (cond {A = Option Prep} b (Some (Old s.uid h.version)) (by_holder s holder))) PrepFits
    by true b = tt
    by false true = is
    by false false = held_by holder

answer_fits : (act : Uid) (d : Pair) (states : List ObjectState) → AllByRecursion (λ (s : ObjectState). IsObject s.uid.num) states →
    PrepFits (prepare_answer act states d)
answer_fits act d states all = by (first_refusal act d states) (first states all)
  where
    by : (o : Option Prep) → IfSome o PrepFits → PrepFits (unwrap_or o Ready)
    by None fits = tt
    by (Some p) fits = fits

    either_fits : (o p : Option Prep) → IfSome o PrepFits → IfSome p PrepFits → IfSome (either o p) PrepFits
    either_fits None p a b = b
    either_fits (Some q) p a b = a

    first : (ss : List ObjectState) → AllByRecursion (λ (s : ObjectState). IsObject s.uid.num) ss → IfSome (first_refusal act d ss) PrepFits
    first [] its = tt
    first (s ∷ ss) its = either_fits (refusal_in act d s) (first_refusal act d ss)
        (refused_fits act s (held_at s.uid d) (holder_of s.uid d) its.0) (first ss its.1)

-- ---- naming's answer

abbrev ConfirmFits : ConfirmedReply → Type 0
ConfirmFits c = ReplyFits (Reply.Confirmed c)

either_so : (o p : Option ConfirmedReply) → IfSome o ConfirmFits → IfSome p ConfirmFits → IfSome (either o p) ConfirmFits
either_so None p a b = b
either_so (Some q) p a b = a

first_so : {A : Type 0} (P : A → Type 0) (f : A → Option ConfirmedReply) → ((a : A) → P a → IfSome (f a) ConfirmFits) → (xs : List A) →
    AllByRecursion P xs → IfSome (first_of_each f xs) ConfirmFits
first_so P f each [] all = tt
first_so P f each (x ∷ xs) all = either_so (f x) (first_of_each f xs) (each x all.0) (first_so P f each xs all.1)

any : {A : Type 0} (xs : List A) → AllByRecursion (λ (a : A). ⊤) xs
any [] = tt
any (x ∷ xs) = (tt, any xs)

module _ (p : Path) (grants : Grants) (excluded included : Marks) (d : Pair) (n : Naming)
    (objects : AllByRecursion (λ (g : ℕ × ℕ). IsObject g.0) grants)
    (marks : AllByRecursion (λ (m : ℕ × ℕ). IsObject m.0 × IsNode m.1) included) where
  granted : (g : ℕ × ℕ) → IfSome (other_grant n g) ConfirmFits
  granted g = by (g.1 == n.inc)
    where
      by : (b : Bool) → IfSome (cond {A = Option ConfirmedReply} b None (Some (confirmed.Changed (what.Inc g.1 n.inc)))) ConfirmFits
      by true = tt
      by false = tt

  excludes : (x : ℕ) → IfSome (refused_exclude p n x) ConfirmFits
  excludes x = by (conflict_in x p (at_number x n.objects))
    where
      by : (o : Option Row) → IfSome (option_map (λ (r : Row). confirmed.Conflict (last_uid r.holder) r.mode) o) ConfirmFits
      by None = tt
      by (Some r) = tt

  there : (m : ℕ × ℕ) → IsObject m.0 × IsNode m.1 → IfSome (is_there d m) ConfirmFits
  there m is = by (is_listed m.1 (let e = listed_entry m.0 d in e.stores))
    where
      by : (b : Bool) → IfSome (cond {A = Option ConfirmedReply} b (Some (confirmed.Listed m.0 m.1)) None) ConfirmFits
      by true = is
      by false = tt

  bare : (s : ObjectState) → IsObject s.uid.num → IfSome (is_bare s) ConfirmFits
  bare s is = by (same_nodes (let e = state_entry s in e.stores) [])
    where
      by : (b : Bool) → IfSome (cond {A = Option ConfirmedReply} b (Some (confirmed.NoStores s.uid.num)) None) ConfirmFits
      by true = is
      by false = tt

  entries : (gs : Grants) → AllByRecursion (λ (g : ℕ × ℕ). IsObject g.0) gs →
      AllByRecursion (λ (s : ObjectState). IsObject s.uid.num) (entries_after (top_of p) gs excluded included d)
  entries [] all = tt
  entries (g ∷ gs) all = by (held_at (entry g.0) d) (entries gs all.1)
    where
      put : (s : ObjectState) (b : Bool) → AllByRecursion (λ (z : ObjectState). IsObject z.uid.num)
          (entries_after (top_of p) gs excluded included d) → AllByRecursion (λ (z : ObjectState). IsObject z.uid.num)
          (cons_option (cond b None (Some (entry_state g.0 (top_of p) s (stores_after g.0 excluded included (state_entry s)))))
          (entries_after (top_of p) gs excluded included d))
      put s true ih = ih
      put s false ih = (all.0, ih)

      by : (o : Option ObjectState) → AllByRecursion (λ (z : ObjectState). IsObject z.uid.num)
          (entries_after (top_of p) gs excluded included d) → AllByRecursion (λ (z : ObjectState). IsObject z.uid.num)
          (cons_option (entry_after (top_of p) excluded included g.0 o) (entries_after (top_of p) gs excluded included d))
      by None ih = ih
      by (Some s) ih = put s
          (same_nodes (stores_after g.0 excluded included (state_entry s)) (let e = state_entry s in e.stores)) ih

  checks : IfSome (checked p grants excluded included d n) ConfirmFits
  checks = either_so (first_of_each (other_grant n) grants) _ (first_so (λ g. ⊤) (other_grant n) (λ g u. granted g) grants (any grants))
      (either_so (first_of_each (refused_exclude p n) (wanted (top_of p) grants excluded d)) _
      (first_so (λ x. ⊤) (refused_exclude p n) (λ x u. excludes x) (wanted (top_of p) grants excluded d)
      (any (wanted (top_of p) grants excluded d)))
      (either_so (first_of_each (is_there d) included) _
      (first_so (λ (m : ℕ × ℕ). IsObject m.0 × IsNode m.1) (is_there d) there included marks)
      (first_so (λ (s : ObjectState). IsObject s.uid.num) is_bare bare (entries_after (top_of p) grants excluded included d)
      (entries grants objects))))

  abbrev Fits : Served Naming ConfirmedReply → Type 0
  Fits r = IfSome r.reply ConfirmFits

  confirms_fit : Fits (confirm p grants excluded included d n)
  confirms_fit = by (is_over p n) (has_all grants n) (is_on n.confirmed (top_of p)) (is_prepared (top_of p) d)
    where
      t : Did Naming
      t = lock_all (wanted (top_of p) grants excluded d) p n

      answered : (ss : List ObjectState) (a : Prep) → Fits (prepared_by (top_of p) ss t a)
      answered ss Ready = tt
      answered ss (Already u) = tt
      answered ss (Old u v) = tt
      answered ss (InDoubt u v) = tt

      entries_fit : (ss : List ObjectState) → Fits (confirm_entries (top_of p) ss d t)
      entries_fit [] = tt
      entries_fit (s ∷ ss) = answered (s ∷ ss) (prepare_answer (top_of p) (s ∷ ss) d)

      new : (c : Option ConfirmedReply) → IfSome c ConfirmFits → Fits (confirm_new p grants excluded included d n c)
      new (Some r) its = its
      new None its = entries_fit (entries_after (top_of p) grants excluded included d)

      by : (over has confirmed_there prepared_there : Bool) →
          Fits (cond {A = Served Naming ConfirmedReply} (over || not has) (void n)
          (cond {A = Served Naming ConfirmedReply} (confirmed_there || prepared_there) (reply (confirms (top_of p) n) confirmed.Yes)
          (confirm_new p grants excluded included d n (checked p grants excluded included d n))))
      by true has a b = tt
      by false false a b = tt
      by false true true b = tt
      by false true false true = tt
      by false true false false = new (checked p grants excluded included d n) checks

-- ---- naming's answer to a Bind

module _ (p : Path) (x : ℕ) (avoid : Binding) (d : Pair) (n : Naming) (few : length (let e = listed_entry x d in e.stores) ≤ 255) where
  abbrev Few : Served Counted BoundReply → Type 0
  Few r = IfSome r.reply ListsFew

  live : (c : Counted) (l : Live) (o : Option Row) → Few (live_asked n.inc x p (listed_entry x d) c l o)
  live c l None = few
  live c l (Some r) = tt

  made : (c : Counted) (o : Option Made) → Few (bind_made n.inc x p (listed_entry x d) c o)
  made c None = few
  made c (Some m) = few

  make : (c : Counted) (o : Option Row) → Few (make_asked n.inc x p avoid (listed_entry x d) c o)
  make c None = let o = c.named in made c (made_above avoid (at_uid (top_of p) o.made))
  make c (Some r) = tt

  write : (c : Counted) (o : Option Row) → Few (include_asked n.inc x p (listed_entry x d) c o)
  write c None = few
  write c (Some r) = tt

  call : (c : Counted) (o : Option Live) → Few (bind_call n.inc x p avoid (listed_entry x d) c o)
  call c None = make c (conflict_on x p mode.Write c.named)
  call c (Some l) = live c l (conflict_on x p mode.Read c.named)

  named_few : (c : Counted) (b : Bool) → Few (bind_named n.inc x p b avoid (listed_entry x d) c)
  named_few c true = write c (conflict_on x p mode.Write c.named)
  named_few c false = let o = c.named in call c (live_above avoid o.live)

  bound_few : (include : Bool) → IfSome (let r = naming.bind p x include avoid d n in r.reply) ListsFew
  bound_few include = by (is_over p n) (at_number x n.objects)
    where
      at : (o : Option Named) →
          IfSome (let r = on_counted x (bind_named n.inc x p include avoid (listed_entry x d)) n o in r.reply) ListsFew
      at None = tt
      at (Some o) = named_few (record { named = o; count = n.count }) include

      by : (b : Bool) (o : Option Named) → IfSome (let r = cond {A = Served Naming BoundReply} b (void n)
          (on_counted x (bind_named n.inc x p include avoid (listed_entry x d)) n o) in r.reply) ListsFew
      by true o = tt
      by false o = at o

-- ---- a node's answer

module _ (k : ℕ) (d : Disk) (t : Parts) (from : ℕ) (few : (x : ℕ) → length (let e = listed_entry x d.names in e.stores) ≤ 255) where
  abbrev By : Handled → Type 0
  By (Void es) = ⊤
  By (Took v es) = AllFit es

  answered_by : (h : Head) (v : Parts) (outs : List Effect) (o : Option Reply) → AllFit outs → IfSome o ReplyFits →
      By (sends_answer from h v outs o)
  answered_by h v outs None fit each = tt
  answered_by h v outs (Some r) fit each =
      fit_both outs (Send from (response (asked_by h) r) ∷ []) fit (response_fit from (asked_by h) r each, tt)

  said : {Q : Type 0} (say : Q → Reply) → ((q : Q) → ReplyFits (say q)) → (o : Option Q) → IfSome (option_map say o) ReplyFits
  said say each None = tt
  said say each (Some q) = each q

  with_it : (f : Naming → Handled) (o : Option Naming) → ((n : Naming) → By (f n)) → By (if_naming f o)
  with_it f None each = tt
  with_it f (Some n) each = each n

  module _ (m : Message) (prepares : (h : Head) (states : List ObjectState) → asks m ≡ Some (h, ask.Prepare states) →
      AllByRecursion (λ (s : ObjectState). IsObject s.uid.num) states)
      (confirms_it : (h : Head) (grants : Grants) (excluded included : Marks) → asks m ≡ Some (h, ask.Confirm grants excluded included) →
      AllByRecursion (λ (g : ℕ × ℕ). IsObject g.0) grants × AllByRecursion (λ (x : ℕ × ℕ). IsObject x.0 × IsNode x.1) included) where
    asked : (h : Head) (a : Ask) → asks m ≡ Some (h, a) → By (serve k d t from h a)
    asked h (ask.Bind x include avoid) is =
        with_it (λ o. served from h (with_naming t) Reply.Bound (naming.bind h.path x include avoid d.names o)) t.naming
        (λ n. let r = naming.bind h.path x include avoid d.names n in answered_by h (with_naming t r.part) r.outs
        (option_map Reply.Bound r.reply) (naming_fit r.outs (bind_own h.path x include avoid d.names n))
        (as_bound r.reply (bound_few h.path x avoid d.names n (few x) include)))
      where
        as_bound : (o : Option BoundReply) → IfSome o ListsFew → IfSome (option_map Reply.Bound o) ReplyFits
        as_bound None fits = tt
        as_bound (Some q) fits = fits
    asked h (ask.Load x) is = load (holder_of (object x) d.store)
      where
        state : (o : Option ObjectState) → By (load_held from h t o)
        state None = tt
        state (Some st) = answered_by h t (Do Look ∷ []) (Some (Reply.Loaded (loaded.State st))) (tt, tt) tt

        load : (o : Option Uid) → By (load_by x d.store from h t o)
        load (Some u) = answered_by h t [] (Some (Reply.Loaded (loaded.InDoubt u))) tt tt
        load None = state (held_at (object x) d.store)
    asked h (ask.Activate b st) is = let r = server.activate k h.path b st t.server in
        answered_by h (with_server t r.part) r.outs (option_map Reply.Activated r.reply)
        (server_fit k r.outs (activate_own k h.path b st t.server)) (said Reply.Activated (λ q. tt) r.reply)
    asked h (ask.Record x b i g) is = with_it (λ o. served from h (with_naming t) Reply.Noted (naming.note h.path x b i g o)) t.naming
        (λ n. let r = naming.note h.path x b i g n in answered_by h (with_naming t r.part) r.outs (option_map Reply.Noted r.reply)
        (naming_fit r.outs (note_own h.path x b i g n)) (said Reply.Noted (λ q. tt) r.reply))
    asked h (ask.Invoke x b i ends o) is = let r = server.invoke k h x b i ends o t.server in
        answered_by h (with_server t r.part) r.outs (option_map Reply.Invoked r.reply)
        (server_fit k r.outs (invoke_own k h x b i ends o t.server)) (said Reply.Invoked (λ q. tt) r.reply)
    asked h (ask.Vote i ties ends) is = let r = server.vote k h.path i ties ends t.server in
        answered_by h (with_server t r.part) r.outs (option_map Reply.Voted r.reply)
        (server_fit k r.outs (vote_own k h.path i ties ends t.server)) (said Reply.Voted (λ q. tt) r.reply)
    asked h (ask.Prepare states) is = each (is_prepared (actor h.path) d.store)
      where
        new : (a : Prep) → PrepFits a → By (prepare_by k states from h t a)
        new Ready fits = answered_by h t
            (Do Look ∷ Do (Prepare role.Store (actor h.path) states) ∷ Say (body.Prepared k (actor h.path) role.Store) ∷ [])
            (Some (Reply.Prepared prepared.Yes)) (tt, (tt, (tt, tt))) tt
        new (Already u) fits = tt
        new (Old u v) fits = answered_by h t (Do Look ∷ []) (Some (Reply.Prepared (prepared.Old u.num v))) (tt, tt) fits
        new (InDoubt u holder) fits =
            answered_by h t (Do Look ∷ []) (Some (Reply.Prepared (prepared.InDoubt u.num holder))) (tt, tt) fits

        each : (b : Bool) → By (cond b (sends_answer from h t [] (Some (Reply.Prepared prepared.Yes)))
            (prepare_by k states from h t (prepare_answer (actor h.path) states d.store)))
        each true = answered_by h t [] (Some (Reply.Prepared prepared.Yes)) tt tt
        each false = new (prepare_answer (actor h.path) states d.store) (answer_fits (actor h.path) d.store states (prepares h states is))
    asked h (ask.Confirm grants excluded included) is =
        with_it (λ o. served from h (with_naming t) Reply.Confirmed (confirm h.path grants excluded included d.names o)) t.naming
        (λ n. let r = confirm h.path grants excluded included d.names n in
        let c = confirms_it h grants excluded included is in
        answered_by h (with_naming t r.part) r.outs (option_map Reply.Confirmed r.reply)
        (naming_fit r.outs (confirm_own h.path grants excluded included d.names n))
        (as_reply r.reply (confirms_fit h.path grants excluded included d.names n c.0 c.1)))
      where
        as_reply : (o : Option ConfirmedReply) → IfSome o ConfirmFits → IfSome (option_map Reply.Confirmed o) ReplyFits
        as_reply None fits = tt
        as_reply (Some c) fits = fits

    queries : (us : List Uid) → AllFit (map query_about us)
    queries [] = tt
    queries (u ∷ us) = ((λ a r is. absurd (cc is)), queries us)

    ends_fit : (ack : Bool) (ends : List (Uid × End)) (o : Option (Uid × End)) → By (handle_ends k d t from ack ends o)
    ends_fit ack ends None = tt
    ends_fit ack ends (Some e) =
        let s = server.told k ends t.server in
        let o = naming_told e.0 e.1 d.names t.naming in
        fit_both (store_told k e.0 e.1 d.store ++ o.outs ++ s.outs) (ack_told from e.0 ack)
        (fit_both (store_told k e.0 e.1 d.store ++ o.outs) s.outs
        (fit_both (store_told k e.0 e.1 d.store) o.outs (stored (is_prepared e.0 d.store) e.1) (told_names t.naming))
        (server_fit k s.outs (ends_own k ends t.server))) (acked_told ack)
      where
        stored : (b : Bool) (how : End) → AllFit (cond b (end_states k e.0 how) [])
        stored false how = tt
        stored true ending.Commit = (tt, (tt, tt))
        stored true ending.Abort = (tt, (tt, tt))

        told_names : (o : Option Naming) → AllFit (naming_told e.0 e.1 d.names o).outs
        told_names None = tt
        told_names (Some n) = naming_fit (naming.told e.0 e.1 d.names n).outs (told_own e.0 e.1 d.names n)

        acked_told : (b : Bool) → AllFit (ack_told from e.0 b)
        acked_told true = ((λ a r is. absurd (cc is)), tt)
        acked_told false = tt

    module _ (hears : (a : Asked) (r : Reply) → AllFit (heard from a r d.intents t.coord).outs)
        (acks : (u : Uid) → AllFit (acked from u d.intents t.coord).outs) (tells : (u : Uid) →
        AllFit (answer_query from u d.intents t.coord)) where
      coord_left : (r : Served Coord (Unit {0})) → AllFit r.outs → By (coord_heard t r)
      coord_left r so = by_coord k d t from By tt r so

      other : (p : Message) → By (handle_other k d t from p)
      other (message.Told p) = ends_fit p.ack p.ends (last_end p.ends)
      other (message.Acked p) = coord_left (acked from p.act d.intents t.coord) (acks p.act)
      other (message.Query p) = tells p.act
      other (message.Hello p) = queries (filter (is_earlier p.node p.inc) (holders d t))
      other p = tt

      pub message_fits : By (handle k d t from m)
      message_fits = by_message k d t from By tt m asked (λ a r is. coord_left (heard from a r d.intents t.coord) (hears a r)) (other m)

-- ---- in every run

-- what must be known of a request that comes, and of entries
pub record Asks (M : Seen) : Type 0 where
  pub prepares : (p : Post) (h : Head) (states : List ObjectState) → In p M.sent → asks p.message ≡ Some (h, ask.Prepare states) →
      AllByRecursion (λ (s : ObjectState). IsObject s.uid.num) states
  pub confirms : (p : Post) (h : Head) (grants : Grants) (excluded included : Marks) → In p M.sent →
      asks p.message ≡ Some (h, ask.Confirm grants excluded included) →
      AllByRecursion (λ (g : ℕ × ℕ). IsObject g.0) grants × AllByRecursion (λ (x : ℕ × ℕ). IsObject x.0 × IsNode x.1) included
  pub entries : (j : ℕ) (n : Node) → M.nodes j ≡ Some n → (x : ℕ) →
      length (let e = listed_entry x (let d = n.disk in d.names) in e.stores) ≤ 255

-- beside what is kept by every handler, where that says so much of requests
pub replies_keep : (hd : Header) (R : Seen → Type 0) → KeepsAsked hd R → ((M : Seen) → R M → IsGood M) → ((M : Seen) → R M → Asks M) →
    KeepsAsked hd (λ M. R M × RepliesFit M)
replies_keep hd R keeps good knows = record {
  quiet = λ e bs M quiet g. (keeps.quiet e bs M quiet g.0, g.1);
  stop = λ e k d live M g. (keeps.stop e k d live M g.0, g.1);
  message = λ e k d t v from m outs M g there meant is. let b = good (up k d t M) g.0 in
      beside e k outs v d M (came e k d t v from m outs M b.0 b.1 (knows (up k d t M) g.0) there is)
      (keeps.message e k d t v from m outs M g.0 there meant is) g.1;
  act = λ e k d t i M is asks_node free g. let did = acts_of i d.intents t.coord in let b = good (up k d t M) g.0 in
      beside e k did.outs (with_coord t did.part) d M (quiet_fit did.outs (acts_quiet b.0 e k d t M b.1 hd i is free))
      (keeps.act e k d t i M is asks_node free g.0) g.1;
  begin = λ e k d t l how parent M new may free g. let did = begin_action l how parent (parent_of parent t.coord) t.coord in
      beside e k did.outs (with_coord t did.part) d (given l (record { node = k; serial = is_serial how }) M) (tt, tt)
      (keeps.begin e k d t l how parent M new may free g.0) g.1;
  tick = λ e k d t M g. let b = good (up k d t M) g.0 in beside e k (tick_outs (record { number = k; disk = d; live = Some t }) t)
      (with_coord t (again_all t.coord.doings t.coord).part) d M
      (quiet_fit (tick_outs (record { number = k; disk = d; live = Some t }) t) (tick_quiet b.0 e k d t M b.1))
      (keeps.tick e k d t M g.0) g.1;
  restart = λ e k d M g. beside e k (restart_outs hd k (d.inc + 1) d) (parts_in k (d.inc + 1) d) d M
      (silent_fit (restart_outs hd k (d.inc + 1) d) (restart_silent hd k (d.inc + 1) d)) (keeps.restart e k d M g.0) g.1;
  first = λ st formed. (keeps.first st formed, λ p a r there. absurd there);
}
  where
    quiet_fit : (es : List Effect) → AllQuiet es → AllFit es
    quiet_fit es q = silent_fit es (quiet_silent es q)

    beside : (e k : ℕ) (outs : List Effect) (v : Parts) (d : Disk) (M : Seen) → AllFit outs → Walks R e k outs (Up R k v) d M →
        RepliesFit M → Walks (λ N. R N × RepliesFit N) e k outs (Up (λ N. R N × RepliesFit N) k v) d M
    beside e k outs v d M fit walked all = walks_both R RepliesFit e k outs (Up R k v) (Up RepliesFit k v) d M walked
        (walk e k v outs d M fit all)

    came : (e k : ℕ) (d : Disk) (t v : Parts) (from : ℕ) (m : Message) (outs : List Effect) (M : Seen) (begun : List Action) (its : IsGoodOf
        begun
        (up k d t M)) → Asks (up k d t M) → In (record { from = from; to = k; message = m }) M.sent → handle k d t from m ≡ Took v outs →
        AllFit outs
    came e k d t v from m outs M begun its asks_so there is = let few = asks_so.entries k _ (node_here M k _) in
        subst (By k d t from few) is (message_fits k d t from few m
        (λ h states same. asks_so.prepares _ h states there same) (λ h g ex inc same. asks_so.confirms _ h g ex inc there same)
        (λ a r. quiet_fit (heard from a r d.intents t.coord).outs (heard_quiet begun e k d t M its from a r))
        (λ u. quiet_fit (acked from u d.intents t.coord).outs (acked_quiet begun e k d t M its from u))
        (λ u. quiet_fit (answer_query from u d.intents t.coord) (query_quiet begun e k d t M its from u)))
