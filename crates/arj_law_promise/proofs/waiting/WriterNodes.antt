-- Who wrote what a node has on its disk, prepares and sends.
use Rattle.arj_law_parts.proofs.Words
use Words.{◌≡◌, ◌∙◌, ◌++◌, ℕ, Bool, true, false, cond, find, List, [], ◌∷◌, map, Option, Some, None, refl, sym, ap, subst, inl, inr, ⊎_elim}
use Words.{IfSome, unwrap_or, ◌||◌, AllByRecursion, list_all, match_ordering, Ordering, Less, Equal, Greater, and_parts, uid_order, Ask}
use Words.{Asked, Head, Header, Message, ObjectState, Uid, asks, Reply, actor, answers, response, At, AtActivate, AtBind, AtInvoke, AtLoad}
use Words.{AtNote, Goal, ask_at, Machine, Confirming, Plan, Preparing, Used, Voting, ask_of, changed_of, state_by, state_for, states_for}
use Words.{Calling, Committing, Coord, Idle, Now, Abort, After, Before, Commit, Disk, Do, Effect, InPart, Intent, Look, Pair, Prepare}
use Words.{PutInc, PutIntent, RemoveIntent, Say, Send, Stop, Work, moved_some, new_states, stopped, worked, tell_all, query_about, at_uid}
use Words.{has, put_uid, AreAll, is_coord_effect, is_naming_effect, is_server_effect, restart_outs, tolds_again}
use Words.ask
use Words.ending
use Words.message
use Words.role
use Rattle.arj_law_promise.proofs.Terms
use Terms.{moved, AreTrue, is_of_coord, order_exact, all_both, all_map, bare, AllSo, IsSentBy, all_some, all_without, AnsweredIsBy, AskIsBy}
use Terms.{AskedIsBy, CoordIsBy, EffectIsBy, IsBy, IsOwnOrBy, NowIsBy, PairIsBy, PlanIsBy, ReplyIsBy, restart_said}
use Rattle.arj_law_promise.proofs.waiting.Known.{keyed_at}
use Rattle.arj_law_runs.proofs.addresses.Lists.{all_put}

-- a step of a call prepares nothing
step_none : (x : ℕ) (g : Goal) (at : At) {states : List ObjectState} → ask.Prepare states ≡ ask_at x g [] at → ⊥
step_none x g (AtBind avoid) is = cc is
step_none x g (AtLoad k s rest) is = cc is
step_none x g (AtActivate k st) is = cc is
step_none x g (AtNote k i) is = cc is
step_none x g (AtInvoke k i) is = cc is

-- ---- pairs

-- an entry that is put into a map, by its key
pub put_at : {X : Type 0} (Q : Uid → X → Type 0) (u : Uid) (v : X) (m : List (Uid × X)) → Q u v →
    AllByRecursion (λ (e : Uid × X). Q e.0 e.1) m → AllByRecursion (λ (e : Uid × X). Q e.0 e.1) (put_uid u v m)
put_at Q u v [] its all = (its, tt)
put_at {X} Q u v (e ∷ es) its all = by (uid_order u e.0) refl (put_at Q u v es its all.1)
  where
    by : (r : Ordering) → uid_order u e.0 ≡ r → AllByRecursion (λ (z : Uid × X). Q z.0 z.1) (put_uid u v es) →
        AllByRecursion (λ (z : Uid × X). Q z.0 z.1) (match_ordering r ((u, v) ∷ e ∷ es) ((e.0, v) ∷ es) (e ∷ put_uid u v es))
    by Less order ih = (its, all)
    by Equal order ih = (subst (λ w. Q w v) (order_exact u e.0 order) its, all.1)
    by Greater order ih = (all.0, ih)

module _ (P : Uid → Type 0) where
  abbrev pub Held : List (Uid × ObjectState) → Type 0
  Held held = AllByRecursion (λ (e : Uid × ObjectState). IsBy P e.1) held

  pub put_so : (s : ObjectState) (held : List (Uid × ObjectState)) → IsBy P s → Held held → Held (put_uid s.uid s held)
  put_so s held its all = all_put (λ (e : Uid × ObjectState). IsBy P e.1) s.uid s held (λ w. its) all

  moved_so : (ss : List ObjectState) (held : List (Uid × ObjectState)) → AllByRecursion (IsBy P) ss → Held held → Held (moved ss held)
  moved_so [] held its so = so
  moved_so (s ∷ ss) held its so = moved_so ss (put_uid s.uid s held) its.1 (put_so s held its.0 so)

  some_so : (which : Uid → Bool) (ss : List ObjectState) (held : List (Uid × ObjectState)) → AllByRecursion (IsBy P) ss → Held held →
      Held (moved_some which ss held)
  some_so which [] held its so = so
  some_so which (s ∷ ss) held its so = some_so which ss (cond (which s.uid) (put_uid s.uid s held) held) its.1 (by (which s.uid))
    where
      by : (b : Bool) → Held (cond b (put_uid s.uid s held) held)
      by true = put_so s held its.0 so
      by false = so

  -- what is prepared for such a writer is by one
  new_so : (u : Uid) (d : Pair) → P u → PairIsBy P d → AllByRecursion (IsBy P) (new_states u d)
  new_so u d its so = by (at_uid u d.pend) refl
    where
      each : (ss : List ObjectState) → AllByRecursion (IsOwnOrBy P u) ss → AllByRecursion (IsBy P) ss
      each [] all = tt
      each (s ∷ ss) all = (⊎_elim (λ same. subst P (sym same) its) (λ old. old) all.0, each ss all.1)

      by : (o : Option (List ObjectState)) → at_uid u d.pend ≡ o → AllByRecursion (IsBy P) (unwrap_or o [])
      by None is = tt
      by (Some ss) is = each ss (keyed_at (λ w (z : List ObjectState). AllByRecursion (IsOwnOrBy P w) z) u d.pend ss so.pend is)

  abbrev Disks : Disk → Type 0
  Disks d = PairIsBy P d.store

  worked_so : (w : Work) (d : Disk) → EffectIsBy P (Do w) → Disks d → Disks (worked w d)
  worked_so Look d its so = so
  worked_so (PutInc i) d its so = so
  worked_so (Prepare role.Store u states) d its so = record {
    held = so.held;
    pend = put_at (λ w (z : List ObjectState). AllByRecursion (IsOwnOrBy P w) z) u states d.store.pend its so.pend;
  }
  worked_so (Prepare role.Names u states) d its so = so
  worked_so (Commit role.Store u) d its so = record {
    held = moved_so (new_states u d.store) d.store.held (new_so u d.store its so) so.held;
    pend = all_without (λ (e : Uid × List ObjectState). AllByRecursion (IsOwnOrBy P e.0) e.1) u d.store.pend so.pend;
  }
  worked_so (Commit role.Names u) d its so = so
  worked_so (Abort role.Store u) d its so = record {
    held = so.held;
    pend = all_without (λ (e : Uid × List ObjectState). AllByRecursion (IsOwnOrBy P e.0) e.1) u d.store.pend so.pend;
  }
  worked_so (Abort role.Names u) d its so = so
  worked_so (PutIntent u i) d its so = so
  worked_so (RemoveIntent u) d its so = so

  pub stopped_so : (how : Stop) (w : Work) (d : Disk) → EffectIsBy P (Do w) → Disks d → Disks (stopped how w d)
  stopped_so Before w d its so = so
  stopped_so After w d its so = worked_so w d its so
  stopped_so (InPart which) (Commit role.Store u) d its so =
      record { held = some_so which (new_states u d.store) d.store.held (new_so u d.store its so) so.held; pend = so.pend }
  stopped_so (InPart which) (Commit role.Names u) d its so = so
  stopped_so (InPart which) Look d its so = so
  stopped_so (InPart which) (PutInc i) d its so = so
  stopped_so (InPart which) (Prepare r u states) d its so = so
  stopped_so (InPart which) (Abort r u) d its so = so
  stopped_so (InPart which) (PutIntent u i) d its so = so
  stopped_so (InPart which) (RemoveIntent u) d its so = so

  -- ---- what is sent

  abbrev pub Fine : List Effect → Type 0
  Fine outs = AllByRecursion (EffectIsBy P) outs

  pub fine_both : (es fs : List Effect) → Fine es → Fine fs → Fine (es ++ fs)
  fine_both es fs a b = all_both (EffectIsBy P) es fs a b

  pub queries : (us : List Uid) → Fine (map query_about us)
  queries us = all_map (EffectIsBy P) query_about us (λ u. (tt, tt))

  pub server_fine : (n : ℕ) (es : List Effect) → AreAll (is_server_effect n) es → Fine es
  server_fine n [] own = tt
  server_fine n (Say b ∷ es) own = (tt, server_fine n es (and_parts (is_server_effect n (Say b)) (list_all (is_server_effect n) es) own).1)
  server_fine n (Send to m ∷ es) own = absurd (cc own)
  server_fine n (Do w ∷ es) own = absurd (cc own)

  pub naming_fine : (es : List Effect) → AreAll is_naming_effect es → Fine es
  naming_fine [] own = tt
  naming_fine (Say b ∷ es) own = (tt, naming_fine es (and_parts (is_naming_effect (Say b)) (list_all is_naming_effect es) own).1)
  naming_fine (Send to m ∷ es) own = absurd (cc own)
  naming_fine (Do Look ∷ es) own = (tt, naming_fine es own)
  naming_fine (Do (Prepare role.Names u states) ∷ es) own = (tt, naming_fine es own)
  naming_fine (Do (Commit role.Names u) ∷ es) own = (tt, naming_fine es own)
  naming_fine (Do (Abort role.Names u) ∷ es) own = (tt, naming_fine es own)
  naming_fine (Do (Prepare role.Store u states) ∷ es) own = absurd (cc own)
  naming_fine (Do (Commit role.Store u) ∷ es) own = absurd (cc own)
  naming_fine (Do (Abort role.Store u) ∷ es) own = absurd (cc own)
  naming_fine (Do (PutInc i) ∷ es) own = absurd (cc own)
  naming_fine (Do (PutIntent u i) ∷ es) own = absurd (cc own)
  naming_fine (Do (RemoveIntent u) ∷ es) own = absurd (cc own)

  pub response_fine : (from : ℕ) (a : Asked) (r : Reply) → ReplyIsBy P a r → EffectIsBy P (Send from (response a r))
  response_fine from a (Reply.Bound r) its = (tt, its)
  response_fine from a (Reply.Loaded r) its = (tt, its)
  response_fine from a (Reply.Activated i) its = (tt, its)
  response_fine from a (Reply.Noted r) its = (tt, its)
  response_fine from a (Reply.Invoked r) its = (tt, its)
  response_fine from a (Reply.Voted r) its = (tt, its)
  response_fine from a (Reply.Prepared r) its = (tt, its)
  response_fine from a (Reply.Confirmed r) its = (tt, its)

  -- ---- what a coordinator sends

  -- what it sends isn't an answer
  no_answer : (m : Message) → is_of_coord m ≡ true → answers m ≡ None
  no_answer (message.Bind m) is = refl
  no_answer (message.Bound m) is = absurd (cc is)
  no_answer (message.Load m) is = refl
  no_answer (message.Loaded m) is = absurd (cc is)
  no_answer (message.Activate m) is = refl
  no_answer (message.Activated m) is = absurd (cc is)
  no_answer (message.RecordMsg m) is = refl
  no_answer (message.Recorded m) is = absurd (cc is)
  no_answer (message.Invoke m) is = refl
  no_answer (message.Invoked m) is = absurd (cc is)
  no_answer (message.Vote m) is = refl
  no_answer (message.Voted m) is = absurd (cc is)
  no_answer (message.Prepare m) is = refl
  no_answer (message.Prepared m) is = absurd (cc is)
  no_answer (message.Confirm m) is = refl
  no_answer (message.Confirmed m) is = absurd (cc is)
  no_answer (message.Told m) is = refl
  no_answer (message.Acked m) is = absurd (cc is)
  no_answer (message.Query m) is = absurd (cc is)
  no_answer (message.Hello m) is = absurd (cc is)

  module _ (Q : Uid → Type 0) (e : Coord) (so : CoordIsBy P Q e) where
    states_by : (n : ℕ) (u : Uid) (p : Plan) → PlanIsBy P u p → AllByRecursion (IsOwnOrBy P u) (states_for n p)
    states_by n u p its = all_some (λ (v : Used). IfSome v.loaded (IsBy P)) (IsOwnOrBy P u) (state_for n p) p.used
        (λ v of. by v of (changed_of v.x p) (found _ p.changed its.changed)) its.loaded
      where
        found : (test : ObjectState → Bool) (states : List ObjectState) → AllByRecursion (IsBy (λ w. w ≡ u)) states →
            IfSome (find test states) (IsBy (λ w. w ≡ u))
        found test [] all = tt
        found test (s ∷ ss) all = one (test s) (found test ss all.1)
          where
            one : (b : Bool) → IfSome (find test ss) (IsBy (λ w. w ≡ u)) → IfSome (cond b (Some s) (find test ss)) (IsBy (λ w. w ≡ u))
            one true ih = all.0
            one false ih = ih

        loads : (o : Option ObjectState) → IfSome o (IsBy P) → IfSome o (IsOwnOrBy P u)
        loads None of = tt
        loads (Some st) of = inr of

        by : (v : Used) → IfSome v.loaded (IsBy P) → (o : Option ObjectState) → IfSome o (IsBy (λ w. w ≡ u)) →
            IfSome (state_by n v o) (IsOwnOrBy P u)
        by v of None none = one (has v.joins n)
          where
            one : (b : Bool) → IfSome (cond b v.loaded None) (IsOwnOrBy P u)
            one true = loads v.loaded of
            one false = tt
        by v of (Some st) wrote = one (has v.stores n || has v.joins n)
          where
            one : (b : Bool) → IfSome (cond b (Some st) None) (IsOwnOrBy P u)
            one true = inl wrote
            one false = tt

    request_by : (to : ℕ) (h : Head) (a : Ask) → IsSentBy e to h a → AskIsBy P h a
    request_by to h a s = by a refl
      where
        prepares : (states : List ObjectState) → a ≡ ask.Prepare states → AllByRecursion (IsOwnOrBy P (actor h.path)) states
        prepares states is = now s.doing.now refl (so.works (actor h.path) s.doing s.found)
          where
            of_machine : (m : Machine) → ask.Prepare states ≡ ask_of m to → NowIsBy P (actor h.path) (Committing m) →
                AllByRecursion (IsOwnOrBy P (actor h.path)) states
            of_machine (Voting p left) same its = absurd (cc same)
            of_machine (Preparing p left) same its = let e : states ≡ states_for to p = cc same in
                subst (AllByRecursion (IsOwnOrBy P (actor h.path))) (sym e) (states_by to (actor h.path) p its.0)
            of_machine (Confirming p) same its = absurd (cc same)

            now : (n : Now) → s.doing.now ≡ n → NowIsBy P (actor h.path) n → AllByRecursion (IsOwnOrBy P (actor h.path)) states
            now Idle at its = absurd (s.busy at)
            now (Calling z) at its = absurd (step_none z.x z.goal z.at (sym (ap bare is) ∙ (let f = s.step z at in f.same)))
            now (Committing m) at its = of_machine m (sym is ∙ (let f = s.commit m at in f.same)) its

        by : (b : Ask) → a ≡ b → AskIsBy P h b
        by (ask.Prepare states) is = prepares states is
        by (ask.Bind x include avoid) is = tt
        by (ask.Load x) is = tt
        by (ask.Activate b st) is = tt
        by (ask.Record x b i g) is = tt
        by (ask.Invoke x b i ends op) is = tt
        by (ask.Vote i ties ends) is = tt
        by (ask.Confirm grants excluded included) is = tt

    -- each message that it sends, and each record that it writes
    pub coord_fine : (es : List Effect) → AllSo e es → AreTrue e es → AreAll is_coord_effect es → Fine es
    coord_fine [] all true_it own = tt
    coord_fine (Say b ∷ es) all true_it own =
        (tt, coord_fine es all.1 true_it.1 (and_parts (is_coord_effect (Say b)) (list_all is_coord_effect es) own).1)
    coord_fine (Send to m ∷ es) all true_it own = (
      (asked (asks m) refl, answered),
      coord_fine es all.1 true_it.1 (and_parts (is_coord_effect (Send to m)) (list_all is_coord_effect es) own).1,
    )
      where
        asked : (o : Option (Head × Ask)) → asks m ≡ o → AskedIsBy P o
        asked None is = tt
        asked (Some q) is = request_by to q.0 q.1 (all.0 q.0 q.1 is)

        answered : AnsweredIsBy P (answers m)
        answered = subst (AnsweredIsBy P) (sym (no_answer m (let t = true_it.0 in t.plain))) tt
    coord_fine (Do (PutIntent u i) ∷ es) all true_it own = (tt, coord_fine es all.1 true_it.1 own)
    coord_fine (Do (RemoveIntent u) ∷ es) all true_it own = (tt, coord_fine es all.1 true_it.1 own)
    coord_fine (Do Look ∷ es) all true_it own = absurd (cc own)
    coord_fine (Do (PutInc i) ∷ es) all true_it own = absurd (cc own)
    coord_fine (Do (Prepare r u states) ∷ es) all true_it own = absurd (cc own)
    coord_fine (Do (Commit r u) ∷ es) all true_it own = absurd (cc own)
    coord_fine (Do (Abort r u) ∷ es) all true_it own = absurd (cc own)

  pub tells_fine : (telling : List (Uid × Intent)) → Fine (tolds_again telling)
  tells_fine [] = tt
  tells_fine (e ∷ es) = let i = e.1 in fine_both (tell_all i.root true ((e.0, ending.Commit) ∷ []) i.nodes) (tolds_again es)
      (all_map (EffectIsBy P) _ i.nodes (λ w. (tt, tt))) (tells_fine es)

  -- ---- a restart

  pub restart_fine : (hd : Header) (k inc : ℕ) (d : Disk) → Fine (restart_outs hd k inc d)
  restart_fine hd k inc d = restart_said (EffectIsBy P) (λ b. tt) hd k inc d tt tt (tells_fine d.intents) (λ u. (tt, tt)) (λ n. (tt, tt))
