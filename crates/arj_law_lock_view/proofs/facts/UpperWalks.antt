-- What naming keeps of the actions that were begun, with what is prepared of entries on disks, holds in every run.
use Rattle.arj_law_parts.proofs.Words
use Words.{◌≡◌, ◌∙◌, ◌+◌, ◌==◌, ℕ, Bool, true, false, cond, List, [], ◌∷◌, ◌++◌, map, filter, refl, sym, ap, subst, inr, Option}
use Words.{Some, None, ⊤, option_map, unwrap_or, AllByRecursion, flat_map, list_all, is_eq, and_parts, uid_order, in_from, in_to}
use Words.{Ask, Asked, Binding, End, Head, Header, Kind, Label, Message, ObjectLine, ObjectState, Path, Uid, asks, object, Reply, actor}
use Words.{answers, asked_by, last_end, response, again_all, begin_action, heard, Grants, Marks, back_lines, confirm, recovered_naming}
use Words.{Coord, Abort, Already, Commit, Disk, Do, Effect, InDoubt, Intent, Look, Old, Pair, Prep, Prepare, PutInc, PutIntent, Ready}
use Words.{RemoveIntent, Say, Send, Served, Stop, Before, After, InPart, Work, held_at, holder_of, is_prepared, moved_some, new_states}
use Words.{prepare_answer, stopped, worked, acked, answer_query, tick_outs, Named, Naming, Handled, Parts, Took, Void, ack_told, by_reply}
use Words.{coord_heard, end_states, handle, handle_answer, handle_ask, handle_ends, handle_other, holders, if_naming, is_earlier, load_by}
use Words.{load_held, naming_hello, naming_told, prepare_by, prepared_actions, query_about, sends_answer, serve, store_told, with_coord}
use Words.{with_naming, with_server, at_uid, put_uid, uid_set, without_number, AreAll, is_coord_effect, is_server_effect, Node}
use Words.{acts as acts_of, hello_to, naming_at, naming_back, numbers_to, parent_of, parts_in}
use Words.{put_states, recovered_records, restart_outs, tolds_again, next_uid, path_below, acked_own, acts_own}
use Words.{again_own, heard_own, query_own, tolds_again_own, activate_own, ends_own, invoke_own, vote_own, Seen, is_serial}
use Words.ask
use Words.body
use Words.ending
use Words.loaded
use Words.message
use Words.prepared
use Words.role
use Words.naming
use Words.server
use Rattle.arj_law_lock_view.proofs.Terms
use Terms.{IsAtStarts, disk_by, entry_by, first_at, live_first, moved, Action, AreBegun, FitsAsk, FitsAsked, FitsMessage, IsAsker, IsEntry}
use Terms.{all_append, all_key, all_without, all_map, IsGoodOf}
use Terms.{begin_good, other_number, same_number, Keeps, at, given, posted, said, Up, Walks, halted, KeepsOf, begins_in, AreOfEntries}
use Terms.{HavePrepared, IsTopOf, PreparesUpper}
use Rattle.arj_law_lock_view.proofs.facts.Acts.{kept_of}
use Rattle.arj_law_lock_view.specs.facts.Uppers.{AreUppersOf, IsUpperNode}

some_is : {A : Type 0} {a b : A} → Some a ≡ Some b → a ≡ b
some_is {A} {a} {b} is = let k : ◌≡◌ {A = Option A} (Some a) (Some b) = is in cc

none_at : {A P : Type 0} {o : Option A} {x : A} → o ≡ None → o ≡ Some x → P
none_at {A} {P} {o} {x} none is = let no_way : ◌≡◌ {A = Option A} None (Some x) = sym none ∙ is in absurd (cc no_way)

abbrev FineOf : List Action → List Effect → Type 0
FineOf acts outs = AllByRecursion (PreparesUpper acts) outs

-- What naming keeps of the actions that were begun: it holds as it starts, and is kept by each call, which prepares entries of tops alone.
pub record IsHeld (N : List Action → Naming → Type 0) : Type 0 where
  pub more : (a : Action) (acts : List Action) → AreBegun (a ∷ acts) → (n : Naming) → N acts n → N (a ∷ acts) n
  pub starts : (acts : List Action) → AreBegun acts → (inc : ℕ) (d : Pair) → HavePrepared acts d → N acts (recovered_naming inc d)
  pub binds : (acts : List Action) → AreBegun acts → (p : Path) → IsAsker acts p → (x : ℕ) (include : Bool) (avoid : Binding) (d : Pair)
      (n : Naming) → N acts n → (let s = naming.bind p x include avoid d n in N acts s.part × FineOf acts s.outs)
  pub notes : (acts : List Action) → AreBegun acts → (p : Path) → IsAsker acts p → (x : ℕ) (b : Binding) (i g : ℕ) (n : Naming) → N acts n →
      (let s = naming.note p x b i g n in N acts s.part × FineOf acts s.outs)
  pub confirms : (acts : List Action) → AreBegun acts → (p : Path) → IsAsker acts p → (grants : Grants) (excluded included : Marks)
      (d : Pair) (n : Naming) → N acts n → (let s = confirm p grants excluded included d n in N acts s.part × FineOf acts s.outs)
  pub tells : (acts : List Action) → AreBegun acts → (u : Uid) (e : End) (d : Pair) (n : Naming) → N acts n →
      (let s = naming.told u e d n in N acts s.part × FineOf acts s.outs)
  pub hellos : (acts : List Action) → AreBegun acts → (node inc : ℕ) (n : Naming) → N acts n → N acts (naming.hello node inc n)

pub top_more : (a : Action) (acts : List Action) (u : Uid) → IsTopOf acts u → IsTopOf (a ∷ acts) u
top_more a acts u b = (b.0, in_to b.0 (a ∷ acts) (inr (in_from b.0 acts b.1)), b.2, b.3, b.4)

pub prepared_more : (a : Action) (acts : List Action) (d : Pair) → HavePrepared acts d → HavePrepared (a ∷ acts) d
prepared_more a acts d all = record { pend = by d.pend all.pend; held = all.held }
  where
    by : (ps : List (Uid × List ObjectState)) → AllByRecursion (λ (e : Uid × List ObjectState). IsTopOf acts e.0 × AreOfEntries e.1) ps →
        AllByRecursion (λ (e : Uid × List ObjectState). IsTopOf (a ∷ acts) e.0 × AreOfEntries e.1) ps
    by [] its = tt
    by (p ∷ ps) its = ((top_more a acts p.0 its.0.0, its.0.1), by ps its.1)

abbrev AreHeld : List (Uid × ObjectState) → Type 0
AreHeld held = AllByRecursion (λ (e : Uid × ObjectState). IsEntry e.0 × ⊤) held

moved_held : (ss : List ObjectState) (held : List (Uid × ObjectState)) → AreOfEntries ss → AreHeld held → AreHeld (moved ss held)
moved_held [] held of all = all
moved_held (s ∷ ss) held of all =
    moved_held ss (put_uid s.uid s held) of.1 (all_key IsEntry (λ (x : ObjectState). ⊤) s.uid s held of.0 tt all)

some_held : (which : Uid → Bool) (ss : List ObjectState) (held : List (Uid × ObjectState)) → AreOfEntries ss → AreHeld held →
    AreHeld (moved_some which ss held)
some_held which [] held of all = all
some_held which (s ∷ ss) held of all = some_held which ss (cond (which s.uid) (put_uid s.uid s held) held) of.1 (by (which s.uid))
  where
    by : (b : Bool) → AreHeld (cond b (put_uid s.uid s held) held)
    by true = all_key IsEntry (λ (x : ObjectState). ⊤) s.uid s held of.0 tt all
    by false = all

module _ (N : List Action → Naming → Type 0) (held : IsHeld N) where
  module _ (acts : List Action) (begun : AreBegun acts) where
    abbrev HasNaming : Parts → Type 0
    HasNaming t = (o : Naming) → t.naming ≡ Some o → N acts o

    abbrev Fine : List Effect → Type 0
    Fine outs = AllByRecursion (PreparesUpper acts) outs

    both : (es fs : List Effect) → Fine es → Fine fs → Fine (es ++ fs)
    both es fs a b = all_append (PreparesUpper acts) es fs a b

    -- ---- effects

    coord_fine : (es : List Effect) → AreAll is_coord_effect es → Fine es
    coord_fine [] own = tt
    coord_fine (Say b ∷ es) own = (tt, coord_fine es (and_parts (is_coord_effect (Say b)) (list_all is_coord_effect es) own).1)
    coord_fine (Send to m ∷ es) own = (tt, coord_fine es own)
    coord_fine (Do (PutIntent u i) ∷ es) own = (tt, coord_fine es own)
    coord_fine (Do (RemoveIntent u) ∷ es) own = (tt, coord_fine es own)
    coord_fine (Do Look ∷ es) own = absurd (cc own)
    coord_fine (Do (PutInc i) ∷ es) own = absurd (cc own)
    coord_fine (Do (Prepare r u states) ∷ es) own = absurd (cc own)
    coord_fine (Do (Commit r u) ∷ es) own = absurd (cc own)
    coord_fine (Do (Abort r u) ∷ es) own = absurd (cc own)

    server_fine : (n : ℕ) (es : List Effect) → AreAll (is_server_effect n) es → Fine es
    server_fine n [] own = tt
    server_fine n (Say b ∷ es) own =
        (tt, server_fine n es (and_parts (is_server_effect n (Say b)) (list_all (is_server_effect n) es) own).1)
    server_fine n (Send to m ∷ es) own = absurd (cc own)
    server_fine n (Do w ∷ es) own = absurd (cc own)

    queries : (us : List Uid) → Fine (map query_about us)
    queries [] = tt
    queries (u ∷ us) = (tt, queries us)

    -- ---- the disk

    new_of_entries : (u : Uid) (d : Pair) → HavePrepared acts d → AreOfEntries (new_states u d)
    new_of_entries u d all = by d.pend all.pend
      where
        by : (ps : List (Uid × List ObjectState)) → AllByRecursion (λ (e : Uid × List ObjectState). IsTopOf acts e.0 × AreOfEntries e.1) ps
            → AreOfEntries (unwrap_or (at_uid u ps) [])
        by [] its = tt
        by (p ∷ ps) its = one (is_eq (uid_order u p.0)) (by ps its.1)
          where
            one : (b : Bool) → AreOfEntries (unwrap_or (at_uid u ps) []) → AreOfEntries (unwrap_or (cond b (Some p.1) (at_uid u ps)) [])
            one true ih = its.0.1
            one false ih = ih

    names_worked : (w : Work) (d : Disk) → PreparesUpper acts (Do w) → HavePrepared acts d.names → HavePrepared acts (worked w d).names
    names_worked Look d fine all = all
    names_worked (PutInc i) d fine all = all
    names_worked (Prepare role.Store u states) d fine all = all
    names_worked (Prepare role.Names u states) d fine all =
        record { pend = all_key (IsTopOf acts) AreOfEntries u states d.names.pend fine.0 fine.1 all.pend; held = all.held }
    names_worked (Commit role.Store u) d fine all = all
    names_worked (Commit role.Names u) d fine all = record {
      pend = all_without (λ (e : Uid × List ObjectState). IsTopOf acts e.0 × AreOfEntries e.1) u d.names.pend all.pend;
      held = moved_held (new_states u d.names) d.names.held (new_of_entries u d.names all) all.held;
    }
    names_worked (Abort role.Store u) d fine all = all
    names_worked (Abort role.Names u) d fine all = record {
      pend = all_without (λ (e : Uid × List ObjectState). IsTopOf acts e.0 × AreOfEntries e.1) u d.names.pend all.pend;
      held = all.held;
    }
    names_worked (PutIntent u i) d fine all = all
    names_worked (RemoveIntent u) d fine all = all

    names_stopped : (how : Stop) (w : Work) (d : Disk) → PreparesUpper acts (Do w) → HavePrepared acts d.names →
        HavePrepared acts (stopped how w d).names
    names_stopped Before w d fine all = all
    names_stopped After w d fine all = names_worked w d fine all
    names_stopped (InPart which) Look d fine all = all
    names_stopped (InPart which) (PutInc i) d fine all = all
    names_stopped (InPart which) (Prepare r u states) d fine all = all
    names_stopped (InPart which) (Commit role.Store u) d fine all = all
    names_stopped (InPart which) (Commit role.Names u) d fine all =
        record { pend = all.pend; held = some_held which (new_states u d.names) d.names.held (new_of_entries u d.names all) all.held }
    names_stopped (InPart which) (Abort r u) d fine all = all
    names_stopped (InPart which) (PutIntent u i) d fine all = all
    names_stopped (InPart which) (RemoveIntent u) d fine all = all

    -- ---- one message

    module _ (k : ℕ) (d : Disk) (t : Parts) (from : ℕ) (m : Message) (its : HasNaming t) where
      abbrev By : Handled → Type 0
      By (Void outs) = ⊤
      By (Took v outs) = HasNaming v × Fine outs

      answered : (h : Head) (v : Parts) (outs : List Effect) (o : Option Reply) → HasNaming v → Fine outs →
          By (sends_answer from h v outs o)
      answered h v outs None so fine = tt
      answered h v outs (Some r) so fine = (so, both outs (Send from (response (asked_by h) r) ∷ []) fine (tt, tt))

      with_it : (f : Naming → Handled) (o : Option Naming) → ((n : Naming) → o ≡ Some n → By (f n)) → By (if_naming f o)
      with_it f None each = tt
      with_it f (Some n) each = each n refl

      named_so : (n : Naming) → N acts n → HasNaming (with_naming t n)
      named_so n so o is = subst (N acts) (some_is is) so

      asked : (h : Head) (a : Ask) → IsAsker acts h.path → By (serve k d t from h a)
      asked h (ask.Bind x include avoid) who = with_it _ t.naming (λ n at. let s = naming.bind h.path x include avoid d.names n in
          let g = held.binds acts begun h.path who x include avoid d.names n (its n at) in
          answered h (with_naming t s.part) s.outs (option_map Reply.Bound s.reply) (named_so s.part g.0) g.1)
      asked h (ask.Load x) who = load (holder_of (object x) d.store)
        where
          held_so : (s : Option ObjectState) → By (load_held from h t s)
          held_so None = tt
          held_so (Some s) = answered h t (Do Look ∷ []) (Some (Reply.Loaded (loaded.State s))) its (tt, tt)

          load : (o : Option Uid) → By (load_by x d.store from h t o)
          load (Some u) = answered h t [] (Some (Reply.Loaded (loaded.InDoubt u))) its tt
          load None = held_so (held_at (object x) d.store)
      asked h (ask.Activate b st) who = let r = server.activate k h.path b st t.server in answered h (with_server t r.part) r.outs
          (option_map Reply.Activated r.reply) its (server_fine k r.outs (activate_own k h.path b st t.server))
      asked h (ask.Record x b i g) who = with_it _ t.naming (λ n at. let r = naming.note h.path x b i g n in
          let w = held.notes acts begun h.path who x b i g n (its n at) in
          answered h (with_naming t r.part) r.outs (option_map Reply.Noted r.reply) (named_so r.part w.0) w.1)
      asked h (ask.Invoke x b i ends o) who = let r = server.invoke k h x b i ends o t.server in answered h (with_server t r.part) r.outs
          (option_map Reply.Invoked r.reply) its (server_fine k r.outs (invoke_own k h x b i ends o t.server))
      asked h (ask.Vote i ties ends) who = let r = server.vote k h.path i ties ends t.server in answered h (with_server t r.part) r.outs
          (option_map Reply.Voted r.reply) its (server_fine k r.outs (vote_own k h.path i ties ends t.server))
      asked h (ask.Prepare states) who = each (is_prepared (actor h.path) d.store)
        where
          new : (a : Prep) → By (prepare_by k states from h t a)
          new Ready = answered h t (Do Look ∷ Do (Prepare role.Store (actor h.path) states)
              ∷ Say (body.Prepared k (actor h.path) role.Store) ∷ []) (Some (Reply.Prepared prepared.Yes)) its (tt, (tt, (tt, tt)))
          new (Already u) = tt
          new (Old u v) = answered h t (Do Look ∷ []) (Some (Reply.Prepared (prepared.Old u.num v))) its (tt, tt)
          new (InDoubt u holder) = answered h t (Do Look ∷ []) (Some (Reply.Prepared (prepared.InDoubt u.num holder))) its (tt, tt)

          each : (b : Bool) → By (cond b (sends_answer from h t [] (Some (Reply.Prepared prepared.Yes)))
              (prepare_by k states from h t (prepare_answer (actor h.path) states d.store)))
          each true = answered h t [] (Some (Reply.Prepared prepared.Yes)) its tt
          each false = new (prepare_answer (actor h.path) states d.store)
      asked h (ask.Confirm grants excluded included) who = with_it _ t.naming (λ n at. let r = confirm h.path grants excluded included
          d.names n in let w = held.confirms acts begun h.path who grants excluded included d.names n (its n at) in
          answered h (with_naming t r.part) r.outs (option_map Reply.Confirmed r.reply) (named_so r.part w.0) w.1)

      asker : (h : Head) (a : Ask) → FitsAsk acts h a → IsAsker acts h.path
      asker h (ask.Bind x include avoid) fits = fits
      asker h (ask.Load x) fits = fits
      asker h (ask.Activate b st) fits = fits
      asker h (ask.Record x b i g) fits = fits
      asker h (ask.Invoke x b i ends o) fits = fits.0
      asker h (ask.Vote i ties ends) fits = fits.0
      asker h (ask.Prepare states) fits = fits
      asker h (ask.Confirm grants excluded included) fits = fits

      coord_left : (r : Served Coord (Unit {0})) → AreAll is_coord_effect r.outs → By (coord_heard t r)
      coord_left r own = by r.reply
        where
          by : (o : Option (Unit {0})) → By (by_reply (with_coord t r.part) r.outs o)
          by None = tt
          by (Some u) = (its, coord_fine r.outs own)

      ends_left : (ack : Bool) (ends : List (Uid × End)) (o : Option (Uid × End)) → By (handle_ends k d t from ack ends o)
      ends_left ack ends None = (its, tt)
      ends_left ack ends (Some e) =
          let s = server.told k ends t.server in
          let o = naming_told e.0 e.1 d.names t.naming in
          let w = told_so t.naming its in (
            w.0,
            both (store_told k e.0 e.1 d.store ++ o.outs ++ s.outs) (ack_told from e.0 ack) (both (store_told k e.0 e.1 d.store ++ o.outs)
                s.outs (both (store_told k e.0 e.1 d.store) o.outs (stored (is_prepared e.0 d.store) e.1) w.1)
                (server_fine k s.outs (ends_own k ends t.server))) (acked_told ack),
          )
        where
          told_so : (o : Option Naming) → ((n : Naming) → o ≡ Some n → N acts n) →
              ((n : Naming) → (naming_told e.0 e.1 d.names o).part ≡ Some n → N acts n) × Fine (naming_told e.0 e.1 d.names o).outs
          told_so None so = (λ n is. none_at refl is, tt)
          told_so (Some q) so = let w = held.tells acts begun e.0 e.1 d.names q (so q refl) in
              (λ n is. subst (N acts) (some_is is) w.0, w.1)

          stored : (b : Bool) (how : End) → Fine (cond b (end_states k e.0 how) [])
          stored false how = tt
          stored true ending.Commit = (tt, (tt, tt))
          stored true ending.Abort = (tt, (tt, tt))

          acked_told : (b : Bool) → Fine (ack_told from e.0 b)
          acked_told true = (tt, tt)
          acked_told false = tt

      other : (m : Message) → By (handle_other k d t from m)
      other (message.Told m) = ends_left m.ack m.ends (last_end m.ends)
      other (message.Acked m) = coord_left (acked from m.act d.intents t.coord) (acked_own from m.act d.intents t.coord)
      other (message.Query m) = (its, coord_fine (answer_query from m.act d.intents t.coord) (query_own from m.act d.intents t.coord))
      other (message.Hello m) = (hello_so t.naming its, queries (filter (is_earlier m.node m.inc) (holders d t)))
        where
          hello_so : (o : Option Naming) → ((n : Naming) → o ≡ Some n → N acts n) → (n : Naming) → naming_hello m.node m.inc o ≡ Some n →
              N acts n
          hello_so None so n is = none_at refl is
          hello_so (Some q) so n is = subst (N acts) (some_is is) (held.hellos acts begun m.node m.inc q (so q refl))
      other (message.Bind m) = tt
      other (message.Bound m) = tt
      other (message.Load m) = tt
      other (message.Loaded m) = tt
      other (message.Activate m) = tt
      other (message.Activated m) = tt
      other (message.RecordMsg m) = tt
      other (message.Recorded m) = tt
      other (message.Invoke m) = tt
      other (message.Invoked m) = tt
      other (message.Vote m) = tt
      other (message.Voted m) = tt
      other (message.Prepare m) = tt
      other (message.Prepared m) = tt
      other (message.Confirm m) = tt
      other (message.Confirmed m) = tt

      handled : FitsMessage acts m → (v : Parts) (outs : List Effect) → handle k d t from m ≡ Took v outs → HasNaming v × Fine outs
      handled fits v outs is = subst By is (by (asks m) refl)
        where
          answer : (o : Option (Asked × Reply)) → answers m ≡ o → By (handle_answer k d t from m o)
          answer None none = other m
          answer (Some a) at_a = coord_left (heard from a.0 a.1 d.intents t.coord) (heard_own from a.0 a.1 d.intents t.coord)

          by : (o : Option (Head × Ask)) → asks m ≡ o → By (handle_ask k d t from m o)
          by None none = answer (answers m) refl
          by (Some a) at_a = asked a.0 a.1 (asker a.0 a.1 (subst (FitsAsked acts m) at_a fits))

    -- ---- one node apart from the others

    abbrev AreSo : Seen → Type 0
    AreSo M = AreUppersOf N acts M

    abbrev Others : ℕ → Seen → Type 0
    Others k M = (j : ℕ) (n : Node) → (j ≡ k → ⊥) → M.nodes j ≡ Some n → IsUpperNode N acts n

    stands_at : (k : ℕ) (d : Disk) (live : Option Parts) (M : Seen) →
        (let S = at k d live M in S.nodes k) ≡ Some (record { number = k; disk = d; live = live })
    stands_at k d live M = λ i. cond (same_number k i) (Some (record { number = k; disk = d; live = live })) (M.nodes k)

    others : (k : ℕ) (d : Disk) (live : Option Parts) (M : Seen) → AreSo (at k d live M) → Others k M
    others k d live M all j n apart is =
        all j n ((λ i. cond (other_number j k apart i) (Some (record { number = k; disk = d; live = live })) (M.nodes j)) ∙ is)

    own : (k : ℕ) (d : Disk) (live : Option Parts) (M : Seen) → AreSo (at k d live M) →
        IsUpperNode N acts (record { number = k; disk = d; live = live })
    own k d live M all = all k (record { number = k; disk = d; live = live }) (stands_at k d live M)

    back : (k : ℕ) (d : Disk) (live : Option Parts) (M : Seen) → IsUpperNode N acts (record { number = k; disk = d; live = live }) →
        Others k M → AreSo (at k d live M)
    back k d live M its o j n is = by (j == k) refl is
      where
        by : (b : Bool) → (j == k) ≡ b → cond b (Some (record { number = k; disk = d; live = live })) (M.nodes j) ≡ Some n →
            IsUpperNode N acts n
        by true same e = subst (IsUpperNode N acts) (some_is e) its
        by false apart e = o j n (λ same. let no_way : true ≡ false = sym (ap (λ z. z == k) same ∙ same_number k) ∙ apart in cc no_way) e

    down_so : (e k : ℕ) (d : Disk) (M : Seen) → HavePrepared acts d.names → Others k M → AreSo (halted e k d M)
    down_so e k d M names o = back k d None M (record { names = names; live = λ t q is. none_at refl is }) o

    walk : (e k : ℕ) (v : Parts) (outs : List Effect) (d : Disk) (M : Seen) → Fine outs → HavePrepared acts d.names → Others k M →
        HasNaming v → Walks AreSo e k outs (Up AreSo k v) d M
    walk e k v [] d M fine names o its =
        back k d (Some v) M (record { names = names; live = λ t q is at_q. its q (ap (λ (z : Parts). z.naming) (some_is is) ∙ at_q) }) o
    walk e k v (Do w ∷ es) d M fine names o its = (
      λ how. down_so e k (stopped how w d) M (names_stopped how w d fine.0 names) o,
      walk e k v es (worked w d) M fine.1 (names_worked w d fine.0 names) o its,
    )
    walk e k v (Say b ∷ es) d M fine names o its = walk e k v es d (said e (b ∷ []) M) fine.1 names o its
    walk e k v (Send to m ∷ es) d M fine names o its =
        λ more quiet_lines. walk e k v es d (said e more (posted (record { from = k; to = to; message = m }) M)) fine.1 names o its

    -- ---- restarts

    new_naming : (k inc : ℕ) (d : Disk) → HavePrepared acts d.names → HasNaming (parts_in k inc d)
    new_naming k inc d names n is = by (k == 1) is
      where
        by : (b : Bool) → cond b (Some (recovered_naming inc d.names)) None ≡ Some n → N acts n
        by true e = subst (N acts) (some_is e) (held.starts acts begun inc d.names names)
        by false e = none_at refl e

    restart_fine : (hd : Header) (k inc : ℕ) (d : Disk) → Fine (restart_outs hd k inc d)
    restart_fine hd k inc d =
        both four hellos (both three asking (both two tolds (both one records (tt, (tt, (tt, (tt, back_so (naming_at k inc d.names)))))
        (tt, all_map (PreparesUpper acts) (λ (e : Uid × Intent). Say (body.Recovered k e.0)) d.intents (λ e. tt)))
        (coord_fine tolds (tolds_again_own d.intents))) (queries (uid_set (prepared_actions d.store ++ prepared_actions d.names))))
        (all_map (PreparesUpper acts) (hello_to k inc) (without_number k (numbers_to hd.nodes)) (λ w. tt))
      where
        back_so : (o : Option Naming) → Fine (naming_back o)
        back_so None = tt
        back_so (Some o) = by o.objects
          where
            by : (es : List (ℕ × Named)) → Fine (flat_map (λ (e : ℕ × Named). back_lines e.1) es)
            by [] = tt
            by (e ∷ es) = both (back_lines e.1) (flat_map (λ (z : ℕ × Named). back_lines z.1) es)
                (all_map (PreparesUpper acts) _ (let o = e.1 in o.rows) (λ r. tt)) (by es)

        one : List Effect
        one = Do Look ∷ Do (PutInc inc) ∷ Say (body.Up k inc) ∷ Do Look ∷ naming_back (naming_at k inc d.names)

        records : List Effect
        records = Do Look ∷ recovered_records k d.intents

        two : List Effect
        two = one ++ records

        tolds : List Effect
        tolds = tolds_again d.intents

        three : List Effect
        three = two ++ tolds

        asking : List Effect
        asking = map query_about (uid_set (prepared_actions d.store ++ prepared_actions d.names))

        four : List Effect
        four = three ++ asking

        hellos : List Effect
        hellos = map (hello_to k inc) (without_number k (numbers_to hd.nodes))

  -- ---- one more action

  node_more : (a : Action) (acts : List Action) → AreBegun (a ∷ acts) → (n : Node) → IsUpperNode N acts n → IsUpperNode N (a ∷ acts) n
  node_more a acts begun n its = record {
    names = prepared_more a acts (let d = n.disk in d.names) its.names;
    live = λ t o up_it at_o. held.more a acts begun o (its.live t o up_it at_o);
  }

  first_so : (hd : Header) → IsAtStarts hd (AreUppersOf N [])
  first_so hd st formed k n is = subst (IsUpperNode N []) (first_at hd st k n is) (record {
    names = first_names;
    live = λ t o up_it at_o. new_naming [] tt k (st.incs k + 1) (disk_by hd st k) first_names o
        (ap (λ (z : Parts). z.naming) (live_first hd st k t up_it) ∙ at_o);
  })
    where
      entry_of : ObjectLine → ObjectState
      entry_of o = entry_by hd.format (st.marks.entries o.x) o

      first_names : HavePrepared [] (let d = disk_by hd st k in d.names)
      first_names = record { pend = tt; held = by (k == 1) }
        where
          put : (ss : List ObjectState) (held : List (Uid × ObjectState)) → AreOfEntries ss → AreHeld held → AreHeld (put_states ss held)
          put [] held of all = all
          put (s ∷ ss) held of all = put ss (put_uid s.uid s held) of.1 (all_key IsEntry (λ (x : ObjectState). ⊤) s.uid s held of.0 tt all)

          entries : (os : List ObjectLine) → AreOfEntries (map entry_of os)
          entries [] = tt
          entries (o ∷ os) = (refl, entries os)

          by : (b : Bool) → AreHeld (put_states (cond b (map entry_of hd.objects) []) [])
          by true = put (map entry_of hd.objects) [] (entries hd.objects) tt
          by false = tt

  -- each handler keeps it, for the actions that were begun
  pub uppers_of : (hd : Header) → KeepsOf hd (λ acts M. ⊤) (AreUppersOf N)
  uppers_of hd = record {
    quiet = λ acts e bs M quiet more g p. p;
    stop = λ acts e k d live M more g p. let w = own acts g.begun k d live M p in
        down_so acts g.begun e k d M w.names (others acts g.begun k d live M p);
    message = λ acts e k d t v from m outs M more g p there meant is. let w = own acts g.begun k d (Some t) M p in
        let h = handled acts g.begun k d t from m (λ o at_o. w.live t o refl at_o)
        (g.fits (record { from = from; to = k; message = m }) there) v outs is in
        walk acts g.begun e k v outs d M h.1 w.names (others acts g.begun k d (Some t) M p) h.0;
    act = λ acts e k d t i M is free more g p. let did = acts_of i d.intents t.coord in let w = own acts g.begun k d (Some t) M p in
        walk acts g.begun e k (with_coord t did.part) did.outs d M (coord_fine acts g.begun did.outs (acts_own i d.intents t.coord)) w.names
        (others acts g.begun k d (Some t) M p) (λ o at_o. w.live t o refl at_o);
    begin = λ acts e k d t l how parent M new may free more g p.
        let did = begin_action l how parent (parent_of parent t.coord) t.coord in
        let a : Action = begins_in how parent t in
        let good = begin_good e k d t l how parent M new may free (acts, g) in
        let w = own acts g.begun k d (Some t) M p in
        let o = others acts g.begun k d (Some t) M p in
        let later = begins_so e k d t l how parent M acts good in
        walk (a ∷ acts) later e k (with_coord t did.part) did.outs d (given l (record { node = k; serial = is_serial how }) M) (tt, tt)
        (prepared_more a acts d.names w.names) (λ j n apart is. node_more a acts later n (o j n apart is))
        (λ q at_q. held.more a acts later q (w.live t q refl at_q));
    tick = λ acts e k d t M more g p. let w = own acts g.begun k d (Some t) M p in let r = again_all t.coord.doings t.coord in
        walk acts g.begun e k (with_coord t r.part) (tick_outs (record { number = k; disk = d; live = Some t }) t) d M
        (both acts g.begun (r.outs ++ tolds_again t.coord.telling) (map query_about (holders d t))
        (both acts g.begun r.outs (tolds_again t.coord.telling) (coord_fine acts g.begun r.outs (again_own t.coord.doings t.coord))
        (coord_fine acts g.begun (tolds_again t.coord.telling) (tolds_again_own t.coord.telling))) (queries acts g.begun (holders d t)))
        w.names (others acts g.begun k d (Some t) M p) (λ o at_o. w.live t o refl at_o);
    restart = λ acts e k d M more g p. let w = own acts g.begun k d None M p in
        walk acts g.begun e k (parts_in k (d.inc + 1) d) (restart_outs hd k (d.inc + 1) d) d M (restart_fine acts g.begun hd k (d.inc + 1)
        d) w.names (others acts g.begun k d None M p) (new_naming acts g.begun k (d.inc + 1) d w.names);
    first = first_so hd;
  }
    where
      -- the walk of a beginning is one line, behind which the actions were begun
      begins_so : (e k : ℕ) (d : Disk) (t : Parts) (l : Label) (how : Kind) (parent : Option Label) (M : Seen)
          → (let did = begin_action l how parent (parent_of parent t.coord) t.coord in
          let a : Action = record { path = path_below how (parent_of parent t.coord) (next_uid t.coord.tree); kind = how } in
          (acts : List Action) → Walks (IsGoodOf (a ∷ acts)) e k did.outs (Up (IsGoodOf (a ∷ acts)) k (with_coord t did.part)) d
          (given l (record { node = k; serial = is_serial how }) M) → AreBegun (a ∷ acts))
      begins_so e k d t l how parent M acts walked = walked.begun

  -- ---- all runs

  abbrev pub IsSo : Seen → Type 0
  IsSo M = (acts : List Action) × IsGoodOf acts M × AreUppersOf N acts M

  pub keeps_uppers : (hd : Header) → Keeps hd IsSo
  keeps_uppers hd = kept_of hd (AreUppersOf N) (uppers_of hd)
