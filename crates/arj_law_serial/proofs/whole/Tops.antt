-- Who is asked about, and who has something prepared at a store, isn't nested: in every message and at every store.
use Rattle.arj_law_parts.proofs.Words
use Words.{◌≡◌, ◌≢◌, ◌≤◌, ◌-◌, ◌∙◌, ◌++◌, ℕ, zero, suc, Bool, true, false, cond, List, [], ◌∷◌, length, take, Option, Some, None, refl, sym}
use Words.{ap, subst, inl, inr, filter, map, Contains, arith, ⊤, option_map, slice_index_or, AllByRecursion, list_all, and_parts, nobody}
use Words.{last_taken, In as In_list, in_from, in_to, Ask, Asked, End, Head, Kind, Message, ObjectState, Row, Uid, asks, last_uid, object}
use Words.{tops_of, top_uid, uids_of, Reply, actor, answers, asked_by, last_end, response, top_of, heard, At, AtActivate, AtBind, AtInvoke}
use Words.{AtLoad, AtNote, Goal, ask_at, plan_of, confirm, Calling, Committing, Coord, Idle, Now, Copy, Abort, Already, Commit, Disk, Do}
use Words.{Effect, InDoubt, Look, Old, Prep, Prepare, PutInc, PutIntent, Ready, RemoveIntent, Say, Send, Served, held_at, holder_of}
use Words.{is_prepared, prepare_answer, acked, answer_query, Named, Naming, Handled, Parts, Took, Void, ack_told, by_reply, coord_heard}
use Words.{end_states, handle, handle_answer, handle_ask, handle_ends, handle_other, holders, if_naming, is_earlier, load_by, load_held}
use Words.{locks_of, naming_told, prepare_by, prepared_actions, query_about, sends_answer, serve, store_told, with_coord, with_naming}
use Words.{with_server, at_number, uid_set, AreAll, is_coord_effect, is_naming_effect, is_server_effect, row_top, server_holders}
use Words.{activate_own, bind_own, confirm_own, ends_own, invoke_own, note_own, told_own, vote_own}
use Words.ask
use Words.body
use Words.ending
use Words.kind
use Words.loaded
use Words.message
use Words.prepared
use Words.role
use Words.naming
use Words.server
use Rattle.arj_law_serial.proofs.Terms
use Terms.{Action, AreBegun, action_of, AreTrue, IsTree, Paths, IsBusy, IsGoodCoord, IsVoting, IsTopAction, IsGoodNode, serial_alone}
use Terms.{IsEntryRow, asked_about, all_each, all_filter, all_keys, all_set, all_tops, AreOfEntries, AreUpper, HaveUpper, IsTopOf, HaveTops}
use Terms.{HoldsNames, IsAboutTop, MeansTop, PreparesTop}
use Rattle.arj_law_disk_view.proofs.running.{Holders.constituent, Lists.all_append}
use Rattle.arj_law_lock_view.proofs.facts.UpperRows.{top_asks}
use Rattle.arj_law_lock_view.specs.facts.Uppers.{HoldsUppers}
use Rattle.arj_law_parts.proofs.parts.Begun.{path_length}
use Rattle.arj_law_parts.specs.parts.Claims.{is_of_coord}
use Rattle.arj_law_runs.proofs.calls.{CoordSends.AllSo, CoordSends.IsSentBy, WorldSteps.no_request}

-- ---- what a message asks

-- a coordinator's message asks about nobody
unasked : (m : Message) → is_of_coord m ≡ true → asked_about m ≡ None
unasked (message.Query m) is = absurd (let no_way : false ≡ true = is in cc no_way)
unasked m is = refl

unasked_reply : (a : Asked) (r : Reply) → asked_about (response a r) ≡ None
unasked_reply a (Reply.Bound r) = refl
unasked_reply a (Reply.Loaded r) = refl
unasked_reply a (Reply.Activated i) = refl
unasked_reply a (Reply.Noted r) = refl
unasked_reply a (Reply.Invoked r) = refl
unasked_reply a (Reply.Voted r) = refl
unasked_reply a (Reply.Prepared r) = refl
unasked_reply a (Reply.Confirmed r) = refl

-- a step of a call asks nobody to prepare
not_step : (x : ℕ) (g : Goal) (at : At) (states : List ObjectState) → ask.Prepare states ≡ ask_at x g [] at → {P : Type 0} → P
not_step x g (AtBind avoid) states is = absurd (cc is)
not_step x g (AtLoad k s rest) states is = absurd (cc is)
not_step x g (AtActivate k st) states is = absurd (cc is)
not_step x g (AtNote k i) states is = absurd (cc is)
not_step x g (AtInvoke k i) states is = absurd (cc is)

-- ---- actions

-- each of the items, by where it stands, and of two relations
all_in : {A : Type 0} (Q : A → Type 0) (xs : List A) → ((x : A) → In_list x xs → Q x) → AllByRecursion Q xs
all_in Q [] each = tt
all_in Q (x ∷ xs) each = (each x (inl refl), all_in Q xs (λ y i. each y (inr i)))

all_two : {A : Type 0} (P R Q : A → Type 0) (xs : List A) → ((x : A) → P x → R x → Q x) → AllByRecursion P xs → AllByRecursion R xs →
    AllByRecursion Q xs
all_two P R Q [] to a b = tt
all_two P R Q (x ∷ xs) to a b = (to x a.0 b.0, all_two P R Q xs to a.1 b.1)

pub top_more : (a : Action) (acts : List Action) (u : Uid) → IsTopAction acts u → IsTopAction (a ∷ acts) u
top_more a acts u b = (b.0, in_to b.0 (a ∷ acts) (inr (in_from b.0 acts b.1)), b.2, b.3)

pub about_more : (a : Action) (acts : List Action) (to : ℕ) (o : Option Uid) → IsAboutTop acts to o → IsAboutTop (a ∷ acts) to o
about_more a acts to None its = tt
about_more a acts to (Some u) its = (its.0, top_more a acts u its.1)

pub asks_more : (a : Action) (acts : List Action) (o : Option (Head × Ask)) → PreparesTop acts o → PreparesTop (a ∷ acts) o
asks_more a acts None its = tt
asks_more a acts (Some (h, ask.Prepare states)) its = top_more a acts (actor h.path) its
asks_more a acts (Some (h, ask.Bind x include avoid)) its = tt
asks_more a acts (Some (h, ask.Load x)) its = tt
asks_more a acts (Some (h, ask.Activate b st)) its = tt
asks_more a acts (Some (h, ask.Record x b i g)) its = tt
asks_more a acts (Some (h, ask.Invoke x b i ends op)) its = tt
asks_more a acts (Some (h, ask.Vote i ties ends)) its = tt
asks_more a acts (Some (h, ask.Confirm grants excluded included)) its = tt

module _ (acts : List Action) (begun : AreBegun acts) where
  -- the top of an action's path isn't nested
  path_top : (a : Action) → Contains acts a → IsTopAction acts (top_of a.path)
  path_top a there = by a.kind refl
    where
      other : a.kind ≢ kind.Serial → IsTopAction acts (top_of a.path)
      other apart = let t = top_asks acts begun a.path (a, there, refl, apart) in (t.0, t.1, t.2, t.3)

      by : (k : Kind) → a.kind ≡ k → IsTopAction acts (top_of a.path)
      by kind.Serial is = let q = serial_alone acts begun a (in_from a acts there) is in
          (a, there, sym (λ i. last_uid (take (q.1 i) (q.0 i))), λ e. cc (sym is ∙ e))
      by kind.Top is = other (λ e. cc (sym is ∙ e))
      by kind.Nested is = other (λ e. cc (sym is ∙ e))
      by kind.Independent is = other (λ e. cc (sym is ∙ e))
      by kind.Constituent is = other (λ e. cc (sym is ∙ e))

  -- so is the top of a lock at a server
  call_top : (r : Row) (a : Action) → Contains acts a → r.holder ≡ uids_of a.path → r.tops ≡ tops_of a.path → IsTopAction acts (row_top r)
  call_top r a there holder tops = subst (IsTopAction acts) (sym ((λ j. top_uid (tops j) (holder j))
      ∙ at_top (tops_of a.path) (uids_of a.path) a.path.one_top (omega (arith, a.path.within, path_length a.path)))) (path_top a there)
    where
      at_top : (n : ℕ) (us : List Uid) → 1 ≤ n → n ≤ length us → top_uid n us ≡ last_uid (take n us)
      at_top zero us one le = let never : ◌≡◌ {A = ℕ} 0 1 = omega (arith, one) in cc
      at_top (suc n) us one le = let less : suc n - 1 ≡ n = omega arith in
          ap (λ m. slice_index_or us m nobody) less ∙ last_taken us n (omega (arith, le))

  -- and of a lock on an entry
  entry_top : (r : Row) → IsEntryRow acts r → AreUpper acts r.holder → IsTopAction acts (row_top r)
  entry_top r (inl f) upper = let only : AreUpper acts (f.0 ∷ []) = subst (AreUpper acts) f.2 upper in
      subst (IsTopAction acts) (sym (λ j. top_uid (f.3 j) (f.2 j))) only.0
  entry_top r (inr f) upper = let q = constituent acts begun f.0 f.1 f.2 in
      (f.0, f.1, sym (λ j. top_uid (f.4 j) ((f.3 ∙ q.3) j)), λ e. cc (sym f.2 ∙ e))

  -- ---- who holds something

  module _ (d : Disk) (stored : HaveTops acts d.store)
      (names : AllByRecursion (λ (e : Uid × List ObjectState). IsTopOf acts e.0 × AreOfEntries e.1) (let p = d.names in p.pend)) where
    abbrev Tops : List Uid → Type 0
    Tops us = AllByRecursion (IsTopAction acts) us

    names_tops : Tops (prepared_actions d.names)
    names_tops = all_keys (IsTopAction acts) d.names.pend (all_each (λ (e : Uid × List ObjectState). IsTopOf acts e.0 × AreOfEntries e.1)
        (λ (e : Uid × List ObjectState). IsTopAction acts e.0) d.names.pend (λ e its. let x = its.0 in (x.0, x.1, x.2, x.3)) names)

    stored_tops : Tops (prepared_actions d.store)
    stored_tops = all_keys (IsTopAction acts) d.store.pend stored

    pub prepared_in : Tops (uid_set (prepared_actions d.store ++ prepared_actions d.names))
    prepared_in = all_set (IsTopAction acts) (prepared_actions d.store ++ prepared_actions d.names)
        (all_append (IsTopAction acts) (prepared_actions d.store) (prepared_actions d.names) stored_tops names_tops)

    pub holders_in : (t : Parts) (paths : Paths) → IsGoodNode acts paths t → ((y : ℕ) (o : Copy) →
        Contains {X = ℕ × Copy} (let s = t.server in s.objects) (y, o) → at_number y (let s = t.server in s.objects) ≡ Some o) →
        ((n : Naming) → t.naming ≡ Some n → HoldsNames acts n) → Tops (holders d t)
    holders_in t paths good listed named =
        all_set (IsTopAction acts) (server_holders t.server ++ locks_of t.naming ++ prepared_actions d.store ++ prepared_actions d.names)
        (all_append (IsTopAction acts) (server_holders t.server ++ locks_of t.naming ++ prepared_actions d.store) (prepared_actions d.names)
        (all_append (IsTopAction acts) (server_holders t.server ++ locks_of t.naming) (prepared_actions d.store)
        (all_append (IsTopAction acts) (server_holders t.server) (locks_of t.naming) calls (entries t.naming refl)) stored_tops) names_tops)
      where
        calls : Tops (server_holders t.server)
        calls = all_tops (IsTopAction acts) (λ (c : Copy). c.rows) (let s = t.server in s.objects) (all_in (λ (e : ℕ × Copy). (r : Row) →
            Contains (let c = e.1 in c.rows) r → IsTopAction acts (row_top r)) (let s = t.server in s.objects)
            (λ e there r i. let k = good.knows in
            let f = k.rows e.0 e.1 r (listed e.0 e.1 (in_to e (let s = t.server in s.objects) there)) i in call_top r f.0 f.1 f.2 f.3))

        entries : (o : Option Naming) → t.naming ≡ o → Tops (locks_of o)
        entries None is = tt
        entries (Some n) is =
            let h = named n is in
            let u : HoldsUppers acts n = let o = h.objects in o.uppers in
            all_tops (IsTopAction acts) (λ (o : Named). o.rows) n.objects
            (all_two (λ (e : ℕ × Named). (r : Row) → Contains (let o = e.1 in o.rows) r → IsEntryRow acts r) (λ (e : ℕ × Named).
            HaveUpper acts (let o = e.1 in o.rows)) (λ (e : ℕ × Named). (r : Row) → Contains (let o = e.1 in o.rows) r →
            IsTopAction acts (row_top r)) n.objects (λ e rows upper r i. entry_top r (rows r i) (upper r i)) h.entries u.rows)

  -- ---- effects

  abbrev Fine : List Effect → Type 0
  Fine outs = AllByRecursion (MeansTop acts) outs

  pub both : (es fs : List Effect) → Fine es → Fine fs → Fine (es ++ fs)
  both es fs a b = all_append (MeansTop acts) es fs a b

  plain : (to : ℕ) (m : Message) → asked_about m ≡ None → asks m ≡ None → MeansTop acts (Send to m)
  plain to m nobody nothing = (subst (IsAboutTop acts to) (sym nobody) tt, subst (PreparesTop acts) (sym nothing) tt)

  pub queries : (us : List Uid) → AllByRecursion (IsTopAction acts) us → Fine (map query_about us)
  queries [] all = tt
  queries (u ∷ us) all = (((refl, all.0), tt), queries us all.1)

  -- a request of a coordinator
  request_top : (paths : Paths) (e : Coord) → IsTree paths → IsGoodCoord acts paths e → (to : ℕ) (h : Head) (a : Ask) → IsSentBy e to h a →
      PreparesTop acts (Some (h, a))
  request_top paths e tree good to h (ask.Prepare states) s = by s.doing.now refl
    where
      by : (n : Now) → s.doing.now ≡ n → IsTopAction acts (actor h.path)
      by Idle is = absurd (s.busy is)
      by (Calling z) is = let f = s.step z is in not_step z.x z.goal z.at states f.same
      by (Committing m) is =
          let v : IsVoting e.tree (actor h.path) (plan_of m) = subst (IsBusy e.tree (actor h.path)) is
          (good.busy (actor h.path) s.doing s.found) in
          let b = v.asking in (
            action_of b.branch,
            good.known (actor h.path) b.branch b.found,
            good.tree.lists.places (actor h.path) b.branch b.found,
            v.top b.branch b.found,
          )
  request_top paths e tree good to h (ask.Bind x include avoid) s = tt
  request_top paths e tree good to h (ask.Load x) s = tt
  request_top paths e tree good to h (ask.Activate b st) s = tt
  request_top paths e tree good to h (ask.Record x b i g) s = tt
  request_top paths e tree good to h (ask.Invoke x b i ends op) s = tt
  request_top paths e tree good to h (ask.Vote i ties ends) s = tt
  request_top paths e tree good to h (ask.Confirm grants excluded included) s = tt

  pub coord_fine : (paths : Paths) (e f : Coord) → IsTree paths → IsGoodCoord acts paths f → (es : List Effect) → AreTrue e es →
      AllSo f es → AreAll is_coord_effect es → Fine es
  coord_fine paths e f tree good [] its so own = tt
  coord_fine paths e f tree good (Say b ∷ es) its so own =
      (tt, coord_fine paths e f tree good es its.1 so.1 (and_parts (is_coord_effect (Say b)) (list_all is_coord_effect es) own).1)
  coord_fine paths e f tree good (Send to m ∷ es) its so own =
      ((subst (IsAboutTop acts to) (sym (unasked m its.0.plain)) tt, of (asks m) refl), coord_fine paths e f tree good es its.1 so.1 own)
    where
      of : (o : Option (Head × Ask)) → asks m ≡ o → PreparesTop acts o
      of None is = tt
      of (Some q) is = request_top paths f tree good to q.0 q.1 (so.0 q.0 q.1 is)
  coord_fine paths e f tree good (Do (PutIntent u i) ∷ es) its so own = (tt, coord_fine paths e f tree good es its.1 so.1 own)
  coord_fine paths e f tree good (Do (RemoveIntent u) ∷ es) its so own = (tt, coord_fine paths e f tree good es its.1 so.1 own)
  coord_fine paths e f tree good (Do Look ∷ es) its so own = absurd (cc own)
  coord_fine paths e f tree good (Do (PutInc i) ∷ es) its so own = absurd (cc own)
  coord_fine paths e f tree good (Do (Prepare r u states) ∷ es) its so own = absurd (cc own)
  coord_fine paths e f tree good (Do (Commit r u) ∷ es) its so own = absurd (cc own)
  coord_fine paths e f tree good (Do (Abort r u) ∷ es) its so own = absurd (cc own)

  server_fine : (n : ℕ) (es : List Effect) → AreAll (is_server_effect n) es → Fine es
  server_fine n [] own = tt
  server_fine n (Say b ∷ es) own = (tt, server_fine n es (and_parts (is_server_effect n (Say b)) (list_all (is_server_effect n) es) own).1)
  server_fine n (Send to m ∷ es) own = absurd (cc own)
  server_fine n (Do w ∷ es) own = absurd (cc own)

  naming_fine : (es : List Effect) → AreAll is_naming_effect es → Fine es
  naming_fine [] own = tt
  naming_fine (Say b ∷ es) own = (tt, naming_fine es (and_parts (is_naming_effect (Say b)) (list_all is_naming_effect es) own).1)
  naming_fine (Send to m ∷ es) own = absurd (cc own)
  naming_fine (Do (Prepare role.Names u states) ∷ es) own = (tt, naming_fine es own)
  naming_fine (Do (Prepare role.Store u states) ∷ es) own = absurd (cc own)
  naming_fine (Do (Commit r u) ∷ es) own =
      (tt, naming_fine es (and_parts (is_naming_effect (Do (Commit r u))) (list_all is_naming_effect es) own).1)
  naming_fine (Do (Abort r u) ∷ es) own =
      (tt, naming_fine es (and_parts (is_naming_effect (Do (Abort r u))) (list_all is_naming_effect es) own).1)
  naming_fine (Do Look ∷ es) own = (tt, naming_fine es (and_parts (is_naming_effect (Do Look)) (list_all is_naming_effect es) own).1)
  naming_fine (Do (PutInc i) ∷ es) own =
      (tt, naming_fine es (and_parts (is_naming_effect (Do (PutInc i))) (list_all is_naming_effect es) own).1)
  naming_fine (Do (PutIntent u i) ∷ es) own =
      (tt, naming_fine es (and_parts (is_naming_effect (Do (PutIntent u i))) (list_all is_naming_effect es) own).1)
  naming_fine (Do (RemoveIntent u) ∷ es) own =
      (tt, naming_fine es (and_parts (is_naming_effect (Do (RemoveIntent u))) (list_all is_naming_effect es) own).1)

  -- ---- one message

  module _ (k : ℕ) (d : Disk) (t : Parts) (from : ℕ) (hold : AllByRecursion (IsTopAction acts) (holders d t)) where
    abbrev By : Handled → Type 0
    By (Void outs) = ⊤
    By (Took v outs) = Fine outs

    answered : (h : Head) (v : Parts) (outs : List Effect) (o : Option Reply) → Fine outs → By (sends_answer from h v outs o)
    answered h v outs None fine = tt
    answered h v outs (Some r) fine = both outs (Send from (response (asked_by h) r) ∷ []) fine
        (plain from (response (asked_by h) r) (unasked_reply (asked_by h) r) (no_request (asked_by h) r), tt)

    with_it : (f : Naming → Handled) (o : Option Naming) → ((n : Naming) → By (f n)) → By (if_naming f o)
    with_it f None each = tt
    with_it f (Some n) each = each n

    asked : (h : Head) (a : Ask) → PreparesTop acts (Some (h, a)) → By (serve k d t from h a)
    asked h (ask.Bind x include avoid) top = with_it _ t.naming (λ n. let s = naming.bind h.path x include avoid d.names n in answered h
        (with_naming t s.part) s.outs (option_map Reply.Bound s.reply) (naming_fine s.outs (bind_own h.path x include avoid d.names n)))
    asked h (ask.Load x) top = load (holder_of (object x) d.store)
      where
        held : (s : Option ObjectState) → By (load_held from h t s)
        held None = tt
        held (Some s) = answered h t (Do Look ∷ []) (Some (Reply.Loaded (loaded.State s))) (tt, tt)

        load : (o : Option Uid) → By (load_by x d.store from h t o)
        load (Some u) = answered h t [] (Some (Reply.Loaded (loaded.InDoubt u))) tt
        load None = held (held_at (object x) d.store)
    asked h (ask.Activate b st) top = let r = server.activate k h.path b st t.server in answered h (with_server t r.part) r.outs
        (option_map Reply.Activated r.reply) (server_fine k r.outs (activate_own k h.path b st t.server))
    asked h (ask.Record x b i g) top = with_it _ t.naming (λ n. let r = naming.note h.path x b i g n in
        answered h (with_naming t r.part) r.outs (option_map Reply.Noted r.reply) (naming_fine r.outs (note_own h.path x b i g n)))
    asked h (ask.Invoke x b i ends o) top = let r = server.invoke k h x b i ends o t.server in answered h (with_server t r.part) r.outs
        (option_map Reply.Invoked r.reply) (server_fine k r.outs (invoke_own k h x b i ends o t.server))
    asked h (ask.Vote i ties ends) top = let r = server.vote k h.path i ties ends t.server in answered h (with_server t r.part) r.outs
        (option_map Reply.Voted r.reply) (server_fine k r.outs (vote_own k h.path i ties ends t.server))
    asked h (ask.Prepare states) top = each (is_prepared (actor h.path) d.store)
      where
        new : (a : Prep) → By (prepare_by k states from h t a)
        new Ready = answered h t (Do Look ∷ Do (Prepare role.Store (actor h.path) states) ∷ Say (body.Prepared k (actor h.path) role.Store)
            ∷ []) (Some (Reply.Prepared prepared.Yes)) (tt, (top, (tt, tt)))
        new (Already u) = tt
        new (Old u v) = answered h t (Do Look ∷ []) (Some (Reply.Prepared (prepared.Old u.num v))) (tt, tt)
        new (InDoubt u holder) = answered h t (Do Look ∷ []) (Some (Reply.Prepared (prepared.InDoubt u.num holder))) (tt, tt)

        each : (b : Bool) → By (cond b (sends_answer from h t [] (Some (Reply.Prepared prepared.Yes)))
            (prepare_by k states from h t (prepare_answer (actor h.path) states d.store)))
        each true = answered h t [] (Some (Reply.Prepared prepared.Yes)) tt
        each false = new (prepare_answer (actor h.path) states d.store)
    asked h (ask.Confirm grants excluded included) top =
        with_it _ t.naming (λ n. let r = confirm h.path grants excluded included d.names n in answered h (with_naming t r.part) r.outs
        (option_map Reply.Confirmed r.reply) (naming_fine r.outs (confirm_own h.path grants excluded included d.names n)))

    coord_left : (r : Served Coord (Unit {0})) → Fine r.outs → By (coord_heard t r)
    coord_left r fine = by r.reply
      where
        by : (o : Option (Unit {0})) → By (by_reply (with_coord t r.part) r.outs o)
        by None = tt
        by (Some u) = fine

    ends_left : (ack : Bool) (ends : List (Uid × End)) (o : Option (Uid × End)) → By (handle_ends k d t from ack ends o)
    ends_left ack ends None = tt
    ends_left ack ends (Some e) =
        let s = server.told k ends t.server in
        let o = naming_told e.0 e.1 d.names t.naming in
        both (store_told k e.0 e.1 d.store ++ o.outs ++ s.outs) (ack_told from e.0 ack) (both (store_told k e.0 e.1 d.store ++ o.outs)
        s.outs (both (store_told k e.0 e.1 d.store) o.outs (stored (is_prepared e.0 d.store) e.1) (named t.naming))
        (server_fine k s.outs (ends_own k ends t.server))) (acked_told ack)
      where
        stored : (b : Bool) (how : End) → Fine (cond b (end_states k e.0 how) [])
        stored false how = tt
        stored true ending.Commit = (tt, (tt, tt))
        stored true ending.Abort = (tt, (tt, tt))

        named : (o : Option Naming) → Fine (let r = naming_told e.0 e.1 d.names o in r.outs)
        named None = tt
        named (Some n) = naming_fine (naming.told e.0 e.1 d.names n).outs (told_own e.0 e.1 d.names n)

        acked_told : (b : Bool) → Fine (ack_told from e.0 b)
        acked_told true = (plain from (message.Acked (record { act = e.0 })) refl refl, tt)
        acked_told false = tt

    module _ (m : Message) (hears : (a : Asked) (r : Reply) → Fine (let q = heard from a r d.intents t.coord in q.outs)) (acks : (u : Uid) →
        Fine (let q = acked from u d.intents t.coord in q.outs)) (asks_query : (u : Uid) →
        Fine (answer_query from u d.intents t.coord)) where
      other : (m : Message) → By (handle_other k d t from m)
      other (message.Told m) = ends_left m.ack m.ends (last_end m.ends)
      other (message.Acked m) = coord_left (acked from m.act d.intents t.coord) (acks m.act)
      other (message.Query m) = asks_query m.act
      other (message.Hello m) = queries (filter (is_earlier m.node m.inc) (holders d t))
          (all_filter (IsTopAction acts) (is_earlier m.node m.inc) (holders d t) hold)
      other (message.Bind m) = tt
      other (message.Bound m) = tt
      other (message.Load m) = tt
      other (message.Loaded m) = tt
      other (message.Activate m) = tt
      other (message.Activated m) = tt
      other (message.RecordMsg m) = tt
      other (message.Recorded m) = tt
      other (message.Invoke m) = tt
      other (message.Invoked m) = tt
      other (message.Vote m) = tt
      other (message.Voted m) = tt
      other (message.Prepare m) = tt
      other (message.Prepared m) = tt
      other (message.Confirm m) = tt
      other (message.Confirmed m) = tt

      pub handled : PreparesTop acts (asks m) → (v : Parts) (outs : List Effect) → handle k d t from m ≡ Took v outs → Fine outs
      handled top v outs is = subst By is (by (asks m) top)
        where
          answer : (o : Option (Asked × Reply)) → By (handle_answer k d t from m o)
          answer None = other m
          answer (Some a) = coord_left (heard from a.0 a.1 d.intents t.coord) (hears a.0 a.1)

          by : (o : Option (Head × Ask)) → PreparesTop acts o → By (handle_ask k d t from m o)
          by None top = answer (answers m)
          by (Some a) top = asked a.0 a.1 top
