-- What a node's parts do beside the coordinator: of a decided top each included store goes on having the object.
use Rattle.arj_law_parts.proofs.Words
use Words.{◌≡◌, ◌⊎◌, ◌∙◌, ◌++◌, ◌==◌, ◌||◌, ℕ, Bool, true, false, cond, List, [], ◌∷◌, Option, Some, None, refl, sym, ap, subst, inl, inr}
use Words.{⊎_elim, eqb-true, is_some, unwrap_or, AllByRecursion, or_cases, uid_cases, Ask, Body, End, Head, Message, ObjectState, Uid, asks}
use Words.{object, Reply, actor, asked_by, last_end, response, Grants, Marks, Abort, After, Before, Commit, Disk, Do, Effect, InPart, Look}
use Words.{Pair, Prepare, Say, Send, Stop, held_at, is_prepared, moved_some, new_states, stopped, worked, answer_decided, answer_query}
use Words.{answer_recorded, is_deferred, is_kept_commit, root_or_self, tell, Parts, ack_told, end_states, store_told, at_uid, has, put_uid}
use Words.{without_uid, Node, branch_of, is_open, Intent, Post, Seen}
use Words.ask
use Words.body
use Words.ending
use Words.message
use Words.prepared
use Words.role
use Rattle.arj_law_promise.proofs.Terms
use Terms.{moved, told_by, put_cases, put_other, put_same, without_cases, without_other, no_request, In, is_quiet_line, up, Up, Walks}
use Terms.{halted, book, is_decided, IsAskedNode, PreparedWereAsked, some_is}
use Terms.objects
use Rattle.arj_law_promise.proofs.settling
use settling.{Cases.AllBeside, Cases.response_acks, Cores.IsDone, Cores.IsAsked, JoinRuns.SaysJoins, Joins.PreparedFrom, Joins.names_number}
use settling.{Knowns.itself, Knowns.never, Settled.sorted_as, Steps.Either, Stills.IsRight, Trails.FitsSo, Trails.Went}
use settling.Lights.{HasThese, IsUndeciding, aside_these, undeciding, undecided}
use settling.Milds.{here_is, lists_on, recorded_back, the_node}
use settling.Stocks.{IsFed, IsIncluded, IsStocked, halt_by, stocked_on, walk_by}

-- ---- committed states

pub put_keeps : (y : Uid) (st : ObjectState) (u : Uid) (held : List (Uid × ObjectState)) → is_some (at_uid y held) ≡ true →
    is_some (at_uid y (put_uid u st held)) ≡ true
put_keeps y st u held on = ⊎_elim (λ same. ap (λ z. is_some (at_uid z (put_uid u st held))) same ∙ ap (λ (o : Option ObjectState). is_some
    o) (put_same u st held)) (λ other. ap (λ (o : Option ObjectState). is_some o) (put_other y u st held other) ∙ on) (uid_cases y u)

pub moved_keeps : (y : Uid) (ss : List ObjectState) (held : List (Uid × ObjectState)) → is_some (at_uid y held) ≡ true →
    is_some (at_uid y (moved ss held)) ≡ true
moved_keeps y [] held on = on
moved_keeps y (s ∷ ss) held on = moved_keeps y ss (put_uid s.uid s held) (put_keeps y s s.uid held on)

pub some_keeps : (which : Uid → Bool) (y : Uid) (ss : List ObjectState) (held : List (Uid × ObjectState)) → is_some (at_uid y held) ≡ true →
    is_some (at_uid y (moved_some which ss held)) ≡ true
some_keeps which y [] held on = on
some_keeps which y (s ∷ ss) held on = some_keeps which y ss (cond (which s.uid) (put_uid s.uid s held) held) (by (which s.uid))
  where
    by : (b : Bool) → is_some (at_uid y (cond b (put_uid s.uid s held) held)) ≡ true
    by true = put_keeps y s s.uid held on
    by false = on

-- states are of objects
abbrev pub AreObjects : List ObjectState → Type 0
AreObjects ss = AllByRecursion (λ (st : ObjectState). st.uid ≡ object st.uid.num) ss

-- a state that is put in its place is there
moved_there : (x : ℕ) (ss : List ObjectState) (held : List (Uid × ObjectState)) → AreObjects ss → names_number x ss ≡ true →
    is_some (at_uid (object x) (moved ss held)) ≡ true
moved_there x [] held own on = absurd (cc on)
moved_there x (s ∷ ss) held own on = ⊎_elim
    (λ here. moved_keeps (object x) ss (put_uid s.uid s held) (ap (λ z. is_some (at_uid z (put_uid s.uid s held)))
    (sym (own.0 ∙ ap object (eqb-true s.uid.num x here))) ∙ ap (λ (o : Option ObjectState). is_some o) (put_same s.uid s held)))
    (λ rest. moved_there x ss (put_uid s.uid s held) own.1 rest)
    (or_cases (s.uid.num == x) (names_number x ss) on)

pub quiet_undeciding : (b : Body) → is_quiet_line b ≡ true → IsUndeciding b
quiet_undeciding (body.Committed l) q = absurd (cc q)
quiet_undeciding (body.Recovered n x) q = absurd (cc q)
quiet_undeciding b q = tt

abbrev acked_or : Uid → Message → Uid
acked_or u (message.Acked m) = m.act
acked_or u m = u

-- ---- steps beside the coordinator

module _ (k : ℕ) (d : Disk) (t : Parts) (M : Seen) (right : IsRight (up k d t M)) (says : SaysJoins M.sent) (stock : IsStocked (up k d t M))
    (own : (u : Uid) (ss : List ObjectState) → at_uid u (let s = d.store in s.pend) ≡ Some ss → AreObjects ss) (e : ℕ) (v : Parts) where
  abbrev S : Seen
  S = up k d t M

  here : S.nodes k ≡ Some (the_node k d (Some t))
  here = here_is k d (Some t) M

  -- what the store comes to have
  pub record StoreTo (c : Disk) : Type 0 where
    pub held : (y : Uid) → is_some (held_at y d.store) ≡ true → is_some (held_at y c.store) ≡ true
    pub keeps : (u : Uid) → is_prepared u d.store ≡ true → (is_prepared u c.store ≡ true)
        ⊎ ((x : ℕ) → IsIncluded (up k d t M) u x k → IsDone (up k d t M) u → is_some (held_at (object x) c.store) ≡ true)
    pub pends : (u : Uid) (ss : List ObjectState) → at_uid u (let s = c.store in s.pend) ≡ Some ss →
        (at_uid u (let s = d.store in s.pend) ≡ Some ss) ⊎ ((j : ℕ) × PreparedFrom j M.sent u k ss)
    pub intents : c.intents ≡ d.intents

  same_to : (c : Disk) → c ≡ d → StoreTo c
  same_to c is =
      subst StoreTo (sym is) (record { held = λ y on. on; keeps = λ u on. inl on; pends = λ u ss at_it. inl at_it; intents = refl })

  -- what is sent is no Confirm, and acknowledges only this
  abbrev SendsBeside : (Uid → Type 0) → Post → Type 0
  SendsBeside Ack p = ((h : Head) (g : Grants) (x i : Marks) → asks p.message ≡ Some (h, ask.Confirm g x i) → ⊥)
      × ((u : Uid) → p.message ≡ message.Acked (record { act = u }) → Ack u)

  module _ (c : Disk) (to : StoreTo c) where
    -- what is acknowledged the store has
    abbrev HasIt : Uid → Type 0
    HasIt u = (x : ℕ) → IsIncluded (up k d t M) u x k → IsDone (up k d t M) u → is_some (held_at (object x) c.store) ≡ true

    fed : (Z : Seen) (w : Went k M IsUndeciding (SendsBeside HasIt) (Either (HasThese c) v) Z) →
        IsFed k d (Some t) M IsUndeciding (SendsBeside HasIt) (Either (HasThese c) v) Z w
    fed Z w = record {
      held = λ y on. ap (λ s. is_some (held_at y s)) store ∙ to.held y on;
      keeps = λ u on. ⊎_elim (λ stays. inl (ap (is_prepared u) store ∙ stays))
          (λ gone. inr (λ x included done. ap (λ s. is_some (held_at (object x) s)) store ∙ gone x included done)) (to.keeps u on);
      pends = λ u ss at_it. to.pends u ss (ap (λ (s : Pair). at_uid u s.pend) (sym store) ∙ at_it);
      done = λ u x n included done. inl (was_done u done);
      lists = λ u x n included done listed.
          inl (lists_on k d (Some t) M IsUndeciding (SendsBeside HasIt) (Either (HasThese c) v) Z w intents u n listed);
      confirms = λ p so h g x i is. absurd (so.0 h g x i is);
      acks = λ p so u is x included done.
          (the_node k w.disk w.live, w.here, ap (λ s. is_some (held_at (object x) s)) store ∙ so.1 u is x included (was_done u done));
    }
      where
        store : (let b = w.disk in b.store) ≡ c.store
        store = w.fits.0.0

        intents : (let b = w.disk in b.intents) ≡ d.intents
        intents = w.fits.0.1 ∙ to.intents

        was_done : (u : Uid) → IsDone Z u → IsDone (up k d t M) u
        was_done u (inl on) = inl (undecided M.lines w.more w.said_so u (subst (λ ls. is_decided (book ls) u ≡ true) w.lines on))
        was_done u (inr r) = inr (recorded_back k d (Some t) M IsUndeciding (SendsBeside HasIt) (Either (HasThese c) v) Z w intents u r)

    abbrev Fits : Effect → Type 0
    Fits = FitsSo k M IsUndeciding (SendsBeside HasIt) quiet_undeciding tt (HasThese c)

    pub fits_both : (xs ys : List Effect) → AllByRecursion Fits xs → AllByRecursion Fits ys → AllByRecursion Fits (xs ++ ys)
    fits_both [] ys a b = b
    fits_both (x ∷ xs) ys a b = (a.0, fits_both xs ys a.1 b)

    pub beside_fits : (outs : List Effect) → AllBeside outs → AllByRecursion Fits outs
    beside_fits [] all = tt
    beside_fits (Say b ∷ es) all = (undeciding b all.0, beside_fits es all.1)
    beside_fits (Do w ∷ es) all = ((λ b these how. aside_these how w c b all.0 these), beside_fits es all.1)
    beside_fits (Send to m ∷ es) all = (
      (
        (λ h g x i is. let z = all.0 in let y = z.0 in y.0 h (ask.Confirm g x i) is),
        (λ u is. absurd (let z = all.0 in let y = z.1 in y.1 u is)),
      ),
      beside_fits es all.1,
    )

    pub stock_walk : (outs : List Effect) → AllByRecursion Fits outs → Walks IsRight e k outs (Up IsRight k v) c M →
        Walks IsStocked e k outs (Up IsStocked k v) c M
    stock_walk outs fits known =
        walk_by IsRight IsStocked k M IsUndeciding (SendsBeside HasIt) quiet_undeciding tt (HasThese c) v e outs c fits (refl, refl)
        (λ Z its w. stocked_on k d (Some t) M IsUndeciding (SendsBeside HasIt) (Either (HasThese c) v) Z w stock (fed Z w)) known

    pub stock_halt : IsRight (halted e k c M) → IsStocked (halted e k c M)
    stock_halt known = halt_by IsRight IsStocked k M IsUndeciding (SendsBeside HasIt) quiet_undeciding tt (HasThese c) v e c (refl, refl)
        (λ Z its w. stocked_on k d (Some t) M IsUndeciding (SendsBeside HasIt) (Either (HasThese c) v) Z w stock (fed Z w)) known

  pub beside_stock : (outs : List Effect) → AllBeside outs → Walks IsRight e k outs (Up IsRight k v) d M →
      Walks IsStocked e k outs (Up IsStocked k v) d M
  beside_stock outs all known = let to = same_to d refl in stock_walk d to outs (beside_fits d to outs all) known

  -- ---- a question

  query_fits : (c : Disk) (to : StoreTo c) (from : ℕ) (u : Uid) → AllByRecursion (Fits c to) (answer_query from u d.intents t.coord)
  query_fits c to from u = query (is_open u t.coord.tree || is_deferred u d.intents from)
    where
      told : (root : Uid) (ack : Bool) (how : End) → AllByRecursion (Fits c to) (tell root ack ((u, how) ∷ []) from ∷ [])
      told root ack how = (((λ h g x i is. cc is), (λ w is. absurd (cc is))), tt)

      decided : AllByRecursion (Fits c to) (answer_decided from u t.coord)
      decided = by (is_kept_commit from u t.coord)
        where
          by : (b : Bool) → AllByRecursion (Fits c to) (cond b (tell (root_or_self u (branch_of u t.coord.tree)) false ((u, ending.Commit)
              ∷ []) from ∷ []) (tell (root_or_self u (branch_of u t.coord.tree)) false ((u, ending.Abort) ∷ []) from ∷ []))
          by true = told (root_or_self u (branch_of u t.coord.tree)) false ending.Commit
          by false = told (root_or_self u (branch_of u t.coord.tree)) false ending.Abort

      recorded : (o : Option Intent) → AllByRecursion (Fits c to) (answer_recorded from u t.coord o)
      recorded None = decided
      recorded (Some i) = by (has i.nodes from)
        where
          by : (b : Bool) →
              AllByRecursion (Fits c to) (cond b (tell i.root true ((u, ending.Commit) ∷ []) from ∷ []) (answer_decided from u t.coord))
          by true = told i.root true ending.Commit
          by false = decided

      query : (b : Bool) → AllByRecursion (Fits c to) (cond b [] (answer_recorded from u t.coord (at_uid u d.intents)))
      query true = tt
      query false = recorded (at_uid u d.intents)

  pub asks_stock : (from : ℕ) (u : Uid) (outs : List Effect) → outs ≡ answer_query from u d.intents t.coord →
      Walks IsRight e k outs (Up IsRight k v) d M → Walks IsStocked e k outs (Up IsStocked k v) d M
  asks_stock from u outs are known = let to = same_to d refl in
      stock_walk d to outs (subst (AllByRecursion (Fits d to)) (sym are) (query_fits d to from u)) known

  -- ---- a prepare

  module _ (from : ℕ) (m : Message) (there : In (record { from = from; to = k; message = m }) M.sent) (h : Head) (states : List ObjectState)
      (asking : asks m ≡ Some (h, ask.Prepare states)) where
    abbrev act : Uid
    act = actor h.path

    answer_fits : (c : Disk) (to : StoreTo c) →
        AllByRecursion (Fits c to) (Send from (response (asked_by h) (Reply.Prepared prepared.Yes)) ∷ [])
    answer_fits c to = (
      (
        (λ l g x i is. let no_way : ◌≡◌ {A = Option (Head × Ask)} None (Some (l, ask.Confirm g x i)) = sym
            (no_request (asked_by h) (Reply.Prepared prepared.Yes)) ∙ is in cc no_way),
        (λ u is. absurd (response_acks (asked_by h) (Reply.Prepared prepared.Yes) u is)),
      ),
      tt,
    )

    pub again_stock : (outs : List Effect) → outs ≡ Send from (response (asked_by h) (Reply.Prepared prepared.Yes)) ∷ [] →
        Walks IsRight e k outs (Up IsRight k v) d M → Walks IsStocked e k outs (Up IsStocked k v) d M
    again_stock outs are known = let to = same_to d refl in
        stock_walk d to outs (subst (AllByRecursion (Fits d to)) (sym are) (answer_fits d to)) known

    abbrev put : Disk
    put = worked (Prepare role.Store (actor h.path) states) d

    put_to : StoreTo put
    put_to = record {
      held = λ y on. on;
      keeps = λ u on. inl (⊎_elim (λ one. ap (λ z. is_some (at_uid z (put_uid act states (let s = d.store in s.pend)))) one
          ∙ ap (λ (o : Option (List ObjectState)). is_some o) (put_same act states (let s = d.store in s.pend))) (λ other. ap (λ (o : Option
          (List ObjectState)). is_some o) (put_other u act states (let s = d.store in s.pend) other) ∙ on) (uid_cases u act));
      pends = λ u ss at_it. ⊎_elim (λ mine. inr (
        from,
        (record { from = from; to = k; message = m }, there, refl, refl, h, asking ∙ ap (λ z. Some (h, ask.Prepare z)) mine.1, sym mine.0),
      )) (λ old. inl old.1) (put_cases u act states ss (let s = d.store in s.pend) at_it);
      intents = refl;
    }

    pub prepares_stock : (outs : List Effect) → outs ≡ Do Look ∷ Do (Prepare role.Store (actor h.path) states)
        ∷ Say (body.Prepared k (actor h.path) role.Store) ∷ Send from (response (asked_by h) (Reply.Prepared prepared.Yes)) ∷ [] →
        Walks IsRight e k outs (Up IsRight k v) d M → Walks IsStocked e k outs (Up IsStocked k v) d M
    prepares_stock outs are known = subst (λ es. Walks IsStocked e k es (Up IsStocked k v) d M) (sym are)
        (by (subst (λ es. Walks IsRight e k es (Up IsRight k v) d M) are known))
      where
        looks : (how : Stop) → stopped how Look d ≡ d
        looks Before = refl
        looks After = refl
        looks (InPart which) = refl

        stops : (how : Stop) → IsRight (halted e k (stopped how (Prepare role.Store (actor h.path) states) d) M) →
            IsStocked (halted e k (stopped how (Prepare role.Store (actor h.path) states) d) M)
        stops Before z = stock_halt d (same_to d refl) z
        stops After z = stock_halt put put_to z
        stops (InPart which) z = stock_halt d (same_to d refl) z

        by : Walks IsRight e k (Do Look ∷ Do (Prepare role.Store (actor h.path) states) ∷ Say (body.Prepared k (actor h.path) role.Store)
            ∷ Send from (response (asked_by h) (Reply.Prepared prepared.Yes)) ∷ []) (Up IsRight k v) d M →
            Walks IsStocked e k (Do Look ∷ Do (Prepare role.Store (actor h.path) states) ∷ Say (body.Prepared k (actor h.path) role.Store)
            ∷ Send from (response (asked_by h) (Reply.Prepared prepared.Yes)) ∷ []) (Up IsStocked k v) d M
        by z = (
          (λ how. stock_halt (stopped how Look d) (same_to (stopped how Look d) (looks how)) (z.0 how)),
          (let y = z.1 in (
            (λ how. stops how (y.0 how)),
            stock_walk put put_to (Say (body.Prepared k (actor h.path) role.Store)
                ∷ Send from (response (asked_by h) (Reply.Prepared prepared.Yes)) ∷ []) (tt, answer_fits put put_to) y.1,
          )),
        )

  -- ---- an end

  sorted : objects.AreSorted (let s = d.store in s.pend)
  sorted = let q = right.0.0.1 in let z = q.2 in let p : PreparedWereAsked q.0 (up k d t M) = z.1 in let n : IsAskedNode M.sent k
      (the_node k d (Some t)) = p.nodes k (the_node k d (Some t)) here in let s = n.store in sorted_as (let y = d.store in y.pend) s.sorted

  module _ (from : ℕ) (m : Message) (there : In (record { from = from; to = k; message = m }) M.sent) (u : Uid) (how : End)
      (last : last_end (told_by m) ≡ Some (u, how)) where
    -- where it isn't prepared the store has what it includes
    unheld : is_prepared u d.store ≡ false → (x : ℕ) → IsIncluded (up k d t M) u x k → IsDone (up k d t M) u →
        is_some (held_at (object x) d.store) ≡ true
    unheld none x included done = ⊎_elim
        (λ both. let h = both.0 in absurd (let a_is : h.0 ≡ the_node k d (Some t) = some_is (sym h.1 ∙ here) in
        never (sym (ap (λ (z : Node). let c = z.disk in is_prepared u c.store) a_is) ∙ h.2) none))
        (λ stored. let a_is : stored.0 ≡ the_node k d (Some t) = some_is (sym stored.1 ∙ here) in
        ap (λ (z : Node). let c = z.disk in is_some (held_at (object x) c.store)) (sym a_is) ∙ stored.2)
        (stock.done u x k included done)

    ack_fits : (c : Disk) (to : StoreTo c) (ack : Bool) → HasIt c to u → AllByRecursion (Fits c to) (ack_told from u ack)
    ack_fits c to false its = tt
    ack_fits c to true its = (((λ h g x i is. cc is), (λ w is. subst (HasIt c to) (ap (acked_or u) is) its)), tt)

    rest_fits : (c : Disk) (to : StoreTo c) (rest : List Effect) (ack : Bool) → AllBeside rest → HasIt c to u →
        AllByRecursion (Fits c to) (rest ++ ack_told from u ack)
    rest_fits c to rest ack all its = fits_both c to rest (ack_told from u ack) (beside_fits c to rest all) (ack_fits c to ack its)

    module _ (held : is_prepared u d.store ≡ true) where
      -- its states, which it was asked for
      its_states : (ss : List ObjectState) × (at_uid u (let s = d.store in s.pend) ≡ Some ss)
      its_states = by (at_uid u (let s = d.store in s.pend)) refl held
        where
          by : (o : Option (List ObjectState)) → at_uid u (let s = d.store in s.pend) ≡ o → is_some o ≡ true →
              (ss : List ObjectState) × (at_uid u (let s = d.store in s.pend) ≡ Some ss)
          by None is some = absurd (cc some)
          by (Some ss) is some = (ss, is)

      asked_it : IsAsked (up k d t M) u k
      asked_it = let core = right.1 in core.held u k (the_node k d (Some t), here, held)

      its_names : (x : ℕ) → IsIncluded (up k d t M) u x k → names_number x (new_states u d.store) ≡ true
      its_names x included =
          let s = its_states in
          let p = stock.pend k (the_node k d (Some t)) u s.0 here s.1 in
          let q = p.1 in
          let home = (itself (up k d t M) right.0 p.0 u k (q.0, q.1, q.2, q.3, q.4, s.0, q.5, q.6)).1 in
          ap (λ (o : Option (List ObjectState)). names_number x (unwrap_or o [])) s.1
          ∙ says.named u.node u x k s.0 included (subst (λ j. PreparedFrom j M.sent u k s.0) (sym home) q)

      its_own : AreObjects (new_states u d.store)
      its_own = let s = its_states in subst (λ (o : Option (List ObjectState)). AreObjects (unwrap_or o [])) (sym s.1) (own u s.0 s.1)

      -- the store goes on to have it
      module _ (c : Disk) (pend : (let s = c.store in s.pend) ≡ without_uid u (let s = d.store in s.pend)) (keeps_held : (y : Uid) →
          is_some (held_at y d.store) ≡ true → is_some (held_at y c.store) ≡ true) (intents : c.intents ≡ d.intents) (gets : (x : ℕ) →
          IsIncluded (up k d t M) u x k → IsDone (up k d t M) u → is_some (held_at (object x) c.store) ≡ true) where
        gone_to : StoreTo c
        gone_to = record {
          held = keeps_held;
          keeps = λ w on. ⊎_elim (λ one. inr (λ x included done. gets x (subst (λ z. IsIncluded (up k d t M) z x k) one included)
              (subst (IsDone (up k d t M)) one done))) (λ other. inl (ap (λ z. is_some (at_uid w z)) pend ∙ ap
              (λ (o : Option (List ObjectState)). is_some o) (without_other w u (let s = d.store in s.pend) other) ∙ on)) (uid_cases w u);
          pends = λ w ss at_it. inl (without_cases w u ss (let s = d.store in s.pend) sorted (ap (at_uid w) (sym pend) ∙ at_it)).1;
          intents = intents;
        }

      commit_gets : (x : ℕ) → IsIncluded (up k d t M) u x k → IsDone (up k d t M) u →
          is_some (held_at (object x) (let c = worked (Commit role.Store u) d in c.store)) ≡ true
      commit_gets x included done = moved_there x (new_states u d.store) (let s = d.store in s.held) its_own (its_names x included)

      abort_gets : how ≡ ending.Abort → (x : ℕ) → IsIncluded (up k d t M) u x k → IsDone (up k d t M) u →
          is_some (held_at (object x) d.store) ≡ true
      abort_gets is x included done = ⊎_elim
          (λ both. let core = right.1 in absurd
          (core.told u k (record { from = from; to = k; message = m }, there, refl, last ∙ ap (λ z. Some (u, z)) is) asked_it both.1))
          (λ stored. let a_is : stored.0 ≡ the_node k d (Some t) = some_is (sym stored.1 ∙ here) in
          ap (λ (z : Node). let c = z.disk in is_some (held_at (object x) c.store)) (sym a_is) ∙ stored.2)
          (stock.done u x k included done)

      committed_to : StoreTo (worked (Commit role.Store u) d)
      committed_to = gone_to (worked (Commit role.Store u) d) refl
          (λ y on. moved_keeps y (new_states u d.store) (let s = d.store in s.held) on) refl commit_gets

      part_to : (which : Uid → Bool) → StoreTo (stopped (InPart which) (Commit role.Store u) d)
      part_to which = record {
        held = λ y on. some_keeps which y (new_states u d.store) (let s = d.store in s.held) on;
        keeps = λ w on. inl on;
        pends = λ w ss at_it. inl at_it;
        intents = refl;
      }

      commit_stops : (how : Stop) → IsRight (halted e k (stopped how (Commit role.Store u) d) M) →
          IsStocked (halted e k (stopped how (Commit role.Store u) d) M)
      commit_stops Before z = stock_halt d (same_to d refl) z
      commit_stops After z = stock_halt (worked (Commit role.Store u) d) committed_to z
      commit_stops (InPart which) z = stock_halt (stopped (InPart which) (Commit role.Store u) d) (part_to which) z

      commit_stock : (rest : List Effect) (ack : Bool) → AllBeside rest → Walks IsRight e k (Do (Commit role.Store u)
          ∷ Say (body.Done k u role.Store ending.Commit) ∷ (rest ++ ack_told from u ack)) (Up IsRight k v) d M → Walks IsStocked e k
          (Do (Commit role.Store u) ∷ Say (body.Done k u role.Store ending.Commit) ∷ (rest ++ ack_told from u ack)) (Up IsStocked k v) d M
      commit_stock rest ack all z = (
        (λ how. commit_stops how (z.0 how)),
        stock_walk (worked (Commit role.Store u) d) committed_to (Say (body.Done k u role.Store ending.Commit)
            ∷ (rest ++ ack_told from u ack)) (tt, rest_fits (worked (Commit role.Store u) d) committed_to rest ack all commit_gets) z.1,
      )

      aborted_to : how ≡ ending.Abort → StoreTo (worked (Abort role.Store u) d)
      aborted_to is = gone_to (worked (Abort role.Store u) d) refl (λ y on. on) refl (abort_gets is)

      abort_stops : how ≡ ending.Abort → (stop : Stop) → IsRight (halted e k (stopped stop (Abort role.Store u) d) M) →
          IsStocked (halted e k (stopped stop (Abort role.Store u) d) M)
      abort_stops is Before z = stock_halt d (same_to d refl) z
      abort_stops is After z = stock_halt (worked (Abort role.Store u) d) (aborted_to is) z
      abort_stops is (InPart which) z = stock_halt d (same_to d refl) z

      abort_stock : how ≡ ending.Abort → (rest : List Effect) (ack : Bool) → AllBeside rest → Walks IsRight e k (Do (Abort role.Store u)
          ∷ Say (body.Done k u role.Store ending.Abort) ∷ (rest ++ ack_told from u ack)) (Up IsRight k v) d M → Walks IsStocked e k
          (Do (Abort role.Store u) ∷ Say (body.Done k u role.Store ending.Abort) ∷ (rest ++ ack_told from u ack)) (Up IsStocked k v) d M
      abort_stock is rest ack all z = (
        (λ stop. abort_stops is stop (z.0 stop)),
        stock_walk (worked (Abort role.Store u) d) (aborted_to is) (Say (body.Done k u role.Store ending.Abort) ∷ (rest
            ++ ack_told from u ack)) (tt, rest_fits (worked (Abort role.Store u) d) (aborted_to is) rest ack all (abort_gets is)) z.1,
      )

    pub ends_stock : (rest : List Effect) (ack : Bool) (outs : List Effect) → AllBeside rest → outs ≡ store_told k u how d.store
        ++ (rest ++ ack_told from u ack) → Walks IsRight e k outs (Up IsRight k v) d M → Walks IsStocked e k outs (Up IsStocked k v) d M
    ends_stock rest ack outs all are known = subst (λ es. Walks IsStocked e k es (Up IsStocked k v) d M) (sym are)
        (by (is_prepared u d.store) refl (subst (λ es. Walks IsRight e k es (Up IsRight k v) d M) are known))
      where
        ends : (h : End) → how ≡ h → is_prepared u d.store ≡ true → Walks IsRight e k (end_states k u h ++ (rest ++ ack_told from u ack))
            (Up IsRight k v) d M → Walks IsStocked e k (end_states k u h ++ (rest ++ ack_told from u ack)) (Up IsStocked k v) d M
        ends ending.Commit is held z = commit_stock held rest ack all z
        ends ending.Abort is held z = abort_stock held is rest ack all z

        by : (b : Bool) → is_prepared u d.store ≡ b →
            Walks IsRight e k (cond b (end_states k u how) [] ++ (rest ++ ack_told from u ack)) (Up IsRight k v) d M →
            Walks IsStocked e k (cond b (end_states k u how) [] ++ (rest ++ ack_told from u ack)) (Up IsStocked k v) d M
        by false none z = let to = same_to d refl in
            stock_walk d to (rest ++ ack_told from u ack) (rest_fits d to rest ack all (unheld none)) z
        by true held z = ends how refl held z
