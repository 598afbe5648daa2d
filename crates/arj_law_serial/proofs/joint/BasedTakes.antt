-- A node takes a message: what is known of copies and votes of an object is so along its effects.
use Rattle.arj_law_parts.proofs.Words
use Words.{◌≡◌, ◌∙◌, ◌<◌, ◌⊎◌, ℕ, List, [], ◌∷◌, Bool, true, false, cond, Option, None, Some, refl, sym, ap, subst, inl, inr, ⊎_elim}
use Words.{AllByRecursion, Ask, Asked, Binding, End, Head, Message, ObjectState, Uid, VotedReply, What, asks, object, Reply, actor, answers}
use Words.{heard, Machine, plan_of, Committing, Doing, doing_of, Base, taken_copy, Disk, Do, Effect, Say, Send, Served, either, held_at}
use Words.{void, acked, answer_query, Parts, Took, handle, is_meant, binding_number, Server, apply_ends, first_unbound, has_ended}
use Words.{other_inc, vote_now, Post, Seen}
use Words.ask
use Words.server
use Rattle.arj_law_serial.proofs.Terms
use Terms.{Action, AreTrue, VotesAreUsed, Core, World, IsLater, node_here, KnowsRequests, top, Run, start, Alive, Call, State, run_keeps}
use Terms.{start_holds, Fixed, view_of, SeesLocks, state_code, IsAskingShown, IsMessageShown, IsShown, ListsEach, IsOfFamily, Sees}
use Terms.{family_told, turn_of, AreApart, In, Within, up, Up, Walks, AreBased, HasWriters, IsBasedAt, IsKnownState, IsVotedState}
use Terms.{IsYesBased, WasVotedOver}
use Terms.machine
use Rattle.arj_law_lock.specs.machine.State.{Activate}
use Rattle.arj_law_serial.proofs.joint
use joint.{BasedHeard.hears_so, BasedMessages.ends_raise, BasedNodes.handled_so}
use joint.BasedServes.{message_so, vote_so}
use joint.BasedWalks.{EffectIsSo, IsNewYes, Next, PartsAreBased, based_walk, new_yes, rest_of}
use Rattle.arj_law_serial.proofs.joint.BasedNodes as nodes
use Rattle.arj_law_serial.proofs.joint.BasedServes as serves

-- it asks to vote, or not
vote_or : (a : Ask) → ((i : ℕ) × (ties : List (ℕ × Binding)) × (ends : List (Uid × End)) × (a ≡ ask.Vote i ties ends))
    ⊎ ((i : ℕ) (ties : List (ℕ × Binding)) (ends : List (Uid × End)) → a ≡ ask.Vote i ties ends → ⊥)
vote_or (ask.Vote i ties ends) = inl (i, ties, ends, refl)
vote_or (ask.Bind y include avoid) = inr (λ i ties ends e. cc e)
vote_or (ask.Load y) = inr (λ i ties ends e. cc e)
vote_or (ask.Activate b st) = inr (λ i ties ends e. cc e)
vote_or (ask.Record y b i g) = inr (λ j ties ends e. cc e)
vote_or (ask.Invoke y b i es o) = inr (λ j ties ends e. cc e)
vote_or (ask.Prepare states) = inr (λ i ties ends e. cc e)
vote_or (ask.Confirm grants excluded included) = inr (λ i ties ends e. cc e)

module _ (f : Fixed) (apart : AreApart f.code) (x k : ℕ) (begun : List Action) (S : State) (W : World) (core : Core W.disk)
    (writers : HasWriters W.disk) (reached : Run (start f.first) S) (d : Disk) (t : Parts) (M : Seen) (are : AreBased f x S W (up k d t M))
    (sees : Sees (view_of f x begun k) t.server S)
    (planned : (u : Uid) → (let a = S.action (f.act u) in a.stage) ≡ 3 → (c : Call) → machine.In c S.calls → c.write ≡ true →
    top c.act ≡ f.act u → Alive S c.act → WasVotedOver f x u S W)
    (held : (y : ℕ) (st : ObjectState) → held_at (object y) d.store ≡ Some st → st.uid ≡ object x → IsKnownState W st) where
  here : (let N = up k d t M in N.nodes k) ≡ Some (record { number = k; disk = d; live = Some t })
  here = node_here M k (record { number = k; disk = d; live = Some t })

  abbrev B : Binding → Base → Type 0
  B b base = IsBasedAt S W (binding_number b) base.version base.writer

  module _ (v : Parts) (from : ℕ) (m : Message) (outs : List Effect) (posted : In (record { from = from; to = k; message = m }) M.sent)
      (meant : is_meant t m ≡ true) (is : handle k d t from m ≡ Took v outs) (shown : IsMessageShown (view_of f x begun k) t.server S m)
      (requests : (r : Asked × Reply) → answers m ≡ Some r →
      KnowsRequests M.sent k t.coord) (used : VotesAreUsed k t (up k d t M)) (numbered : (a : Asked) (q : Doing) (y : Machine) →
      doing_of a.act t.coord ≡ Some q → q.now ≡ Committing y → (let p = plan_of y in p.req) ≡ q.req)
      (heard_true : (a : Asked) (r : Reply) → let q = heard from a r d.intents t.coord in
      AreTrue q.part q.outs) (acked_true : (u : Uid) → let q = acked from u d.intents t.coord in
      AreTrue q.part q.outs) (query_true : (u : Uid) → AreTrue t.coord (answer_query from u d.intents t.coord)) where
    -- a state that is activated is known, under a binding that was made
    activated : (h : Head) (b : Binding) (st : ObjectState) → asks m ≡ Some (h, ask.Activate b st) → st.uid ≡ object x → IsKnownState W st →
        B b (let c = taken_copy b st in c.base)
    activated h b st asking of known = (below, λ counts. known)
      where
        its : IsShown (view_of f x begun k) h (ask.Activate b st) t.server S
        its = subst (IsAskingShown (view_of f x begun k) t.server S m) asking shown

        below : binding_number b < (let n = S.naming in n.bound)
        below =
            let i = (its.says (ap (λ (w : Uid). w.num) of)).1 in
            let z = run_keeps reached (start_holds f.first) in
            let w = z.mail (Activate (binding_number b) (state_code f.act f.code st)) i in
            w.1

    took : PartsAreBased f x S W v × AllByRecursion (nodes.SendIsSo x (IsKnownState W) (IsVotedState f x S W) B) outs
    took = handled_so x (IsKnownState W) (IsVotedState f x S W) B k d t from (
      are.copies k (record { number = k; disk = d; live = Some t }) t here refl,
      are.coords k (record { number = k; disk = d; live = Some t }) t here refl,
    ) held m v outs
        (λ a r answering. hears_so f x k S W d t v outs M are from m a posted is (requests (a, r) answering) used (numbered a) r answering)
        activated meant (are.posts (record { from = from; to = k; message = m }) posted)
        (ends_raise f apart x k begun S W core writers reached t.server sees planned m shown) is

    -- a Yes that is new
    abbrev New : Post → Asked → List ObjectState → Type 0
    New p a states = (h : Head) × (i : ℕ) × (ties : List (ℕ × Binding)) × (ends : List (Uid × End))
        × (asking : asks m ≡ Some (h, ask.Vote i ties ends)) × IsNewYes f x k begun from m h i ties ends t.server asking p a states

    yeses : AllByRecursion (serves.YesIsSo k New) outs
    yeses = by (asks m) refl
      where
        no_vote : ((h : Head) (i : ℕ) (ties : List (ℕ × Binding)) (ends : List (Uid × End)) → asks m ≡ Some (h, ask.Vote i ties ends) → ⊥) →
            AllByRecursion (serves.YesIsSo k New) outs
        no_vote other = message_so k New d t from (λ p a states new. other new.0 new.1 new.2 new.3 new.4) heard_true acked_true query_true m
            v outs other is

        by : (o : Option (Head × Ask)) → asks m ≡ o → AllByRecursion (serves.YesIsSo k New) outs
        by None at =
            no_vote (λ h i ties ends e. let n : ◌≡◌ {A = Option (Head × Ask)} None (Some (h, ask.Vote i ties ends)) = sym at ∙ e in cc n)
        by (Some q) at = ⊎_elim
            (λ (w : (i : ℕ) × (ties : List (ℕ × Binding)) × (ends : List (Uid × End)) × (q.1 ≡ ask.Vote i ties ends)).
            let asking : asks m ≡ Some (q.0, ask.Vote w.0 w.1 w.2) = at ∙ ap (λ (z : Ask). Some (q.0, z)) w.3 in
            (vote_so k New d t from m v outs q.0 w.0 w.1 w.2 asking
            (λ to z a states back of gives. (q.0, w.0, w.1, w.2, asking, (refl, back, of, gives))) is).1)
            (λ (none : (i : ℕ) (ties : List (ℕ × Binding)) (ends : List (Uid × End)) → q.1 ≡ ask.Vote i ties ends → ⊥).
            no_vote (λ h i ties ends e.
            none i ties ends (let n : ◌≡◌ {A = Option (Head × Ask)} (Some q) (Some (h, ask.Vote i ties ends)) = sym at ∙ e in cc n)))
            (vote_or q.1)

    zip : (es : List Effect) → AllByRecursion (nodes.SendIsSo x (IsKnownState W) (IsVotedState f x S W) B) es → AllByRecursion
        (serves.YesIsSo k New) es → AllByRecursion (EffectIsSo f x k begun S W M reached New (rest_of f x S W k d (Some t) M are)) es
    zip [] a b = tt
    zip (Send to z ∷ es) a b = ((a.0, b.0), zip es a.1 b.1)
    zip (Say z ∷ es) a b = (tt, zip es a.1 b.1)
    zip (Do z ∷ es) a b = (b.0, zip es a.1 b.1)

    new_based : (c : Disk) (N : Seen) (T : State) (V : World) → Within M.sent N.sent → Run S T → IsLater W V →
        SeesLocks f x begun T (up k c v N) → PartsAreBased f x T V v → (p : Post) (a : Asked) (states : List ObjectState) → New p a states →
        IsYesBased x (IsVotedState f x T V) N.sent p a states
    new_based c N T V within run later at its p a states (h, i, ties, ends, asking, new) = new_yes f x k begun from m h i ties ends t.server
        asking v lists left c N T V (within (record { from = from; to = k; message = m }) posted) at its p a states new
      where
        left : v.server ≡ (let r = server.vote k h.path i ties ends t.server in r.part)
        left = (vote_so k (λ p a states. Unit {0}) d t from m v outs h i ties ends asking (λ to z a states back of gives. tt) is).0

        its_ask : IsShown (view_of f x begun k) h (ask.Vote i ties ends) t.server S
        its_ask = subst (IsAskingShown (view_of f x begun k) t.server S m) asking shown

        told : IsOfFamily (let w = view_of f x begun k in w.family) (let q = apply_ends k ends t.server in q.part)
        told = family_told (view_of f x begun k) ends t.server its_ask.whole
            (turn_of (view_of f x begun k) ends t.server its_ask.whole its_ask.server (let z = its_ask.fits in z.2)) its_ask.server

        lists : ListsEach v.server
        lists = subst ListsEach (sym left) (by (has_ended h.path t.server))
          where
            P : Served Server VotedReply → Type 0
            P r = ListsEach r.part

            by_ties : (w : Option What) → P (vote_now k (actor h.path) ends t.server w)
            by_ties (Some w) = its_ask.server.listed
            by_ties None = told.listed

            by : (e : Bool) → P (cond {A = Served Server VotedReply} e (void t.server)
                (vote_now k (actor h.path) ends t.server (either (other_inc i t.server.inc) (first_unbound ties t.server))))
            by true = its_ask.server.listed
            by false = by_ties (either (other_inc i t.server.inc) (first_unbound ties t.server))

    pub message_based : (e : ℕ) → Walks (Next f x k begun S W M reached New (rest_of f x S W k d (Some t) M are)) e k outs
        (Up (Next f x k begun S W M reached New (rest_of f x S W k d (Some t) M are)) k v) d M
    message_based e = based_walk f x k begun S W M reached New (rest_of f x S W k d (Some t) M are) v took.0 new_based e outs
        (zip outs took.1 yeses) d M refl ((λ p i. i), (λ p i. are.posts p i), λ p a states i of. inl (are.yeses p a states i of))
