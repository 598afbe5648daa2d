-- What a server votes is of a copy whose state is known: so are the states that its Yes gives.
use Rattle.arj_law_parts.proofs.Words
use Words.{◌≡◌, ℕ, List, [], ◌∷◌, Bool, true, false, cond, Option, Some, None, refl, sym, ◌∙◌, ap, subst, inl, inr, Contains, eqb-true}
use Words.{made_over, in_filter_map, in_from, in_to, Binding, End, Head, ObjectState, Uid, VotedReply, What, object}
use Words.{actor, Copy, changed_state, Served, either, void, at_number, binding_eq, binding_number, Server}
use Words.{apply_ends, changed_copy, changed_states, first_unbound, has_ended, other_inc, vote_now}
use Words.list
use Words.ask
use Words.voted
use Words.what
use Words.server
use Rattle.arj_law_serial.proofs.Terms
use Terms.{keyed_found, World, some_is, Run, start, stay, State, Vote, run_keeps, start_holds, ShowsAsk, SeesCopy, ListsEach, copy_told}
use Terms.{Fixed, CopiesAreBased, IsVotedOver}
use Terms.machine
use Rattle.arj_law_serial.specs.joint.Based.{IsBased}

-- each tie is to a copy of its binding
tied_copy : (ties : List (ℕ × Binding)) (s : Server) (x : ℕ) (b : Binding) → first_unbound ties s ≡ None → list.In (x, b) ties →
    (c : Copy) × (at_number x s.objects ≡ Some c) × (binding_number b ≡ binding_number c.binding)
tied_copy [] s x b none i = absurd i
tied_copy (t ∷ ts) s x b none i = by (changed_copy t.1 (at_number t.0 s.objects)) refl none i (tied_copy ts s x b)
  where
    of_copy : (y : ℕ) (d : Binding) (o : Option Copy) → at_number y s.objects ≡ o → changed_copy d o ≡ None →
        (c : Copy) × (at_number y s.objects ≡ Some c) × (binding_number d ≡ binding_number c.binding)
    of_copy y d None is un = absurd (cc un)
    of_copy y d (Some c) is un = at (binding_eq d c.binding) refl un
      where
        at : (e : Bool) → binding_eq d c.binding ≡ e → cond e None (Some (what.Bind d c.binding)) ≡ None →
            (c : Copy) × (at_number y s.objects ≡ Some c) × (binding_number d ≡ binding_number c.binding)
        at true same_one un = (c, is, eqb-true (binding_number d) (binding_number c.binding) same_one)
        at false same_one un = absurd (cc un)

    by : (w : Option What) → changed_copy t.1 (at_number t.0 s.objects) ≡ w → either w (first_unbound ts s) ≡ None → list.In (x, b)
        (t ∷ ts) → (first_unbound ts s ≡ None → list.In (x, b) ts → (c : Copy) × (at_number x s.objects ≡ Some c) × (binding_number b
        ≡ binding_number c.binding)) → (c : Copy) × (at_number x s.objects ≡ Some c) × (binding_number b ≡ binding_number c.binding)
    by (Some d) is un i ih = absurd (cc un)
    by None is un (inl same_one) ih = subst (λ (z : ℕ × Binding). (c : Copy) × (at_number z.0 s.objects ≡ Some c)
        × (binding_number z.1 ≡ binding_number c.binding)) same_one (of_copy t.0 t.1 (at_number t.0 s.objects) refl is)
    by None is un (inr more) ih = ih un more

module _ (f : Fixed) (x : ℕ) (T : State) (W : World) (n : ℕ) (h : Head) (i : ℕ) (ties : List (ℕ × Binding)) (ends : List (Uid × End))
    (s : Server) where
  abbrev u : Uid
  u = actor h.path

  abbrev told : Server
  told = let d = apply_ends n ends s in d.part

  abbrev v : Server
  v = let r = server.vote n h.path i ties ends s in r.part

  module _ (states : List ObjectState) where
    abbrev Says : Served Server VotedReply → Type 0
    Says r = r.reply ≡ Some (voted.Yes states) →
        (first_unbound ties s ≡ None) × ((let z = r.part in z.objects) ≡ told.objects) × (changed_states u told ≡ states)

    by_ties : (a b : Option What) → first_unbound ties s ≡ b → Says (vote_now n u ends s (either a b))
    by_ties (Some w) b un e = let no_way : ◌≡◌ {A = VotedReply} (voted.Changed w) (voted.Yes states) = some_is refl e in absurd (cc no_way)
    by_ties None (Some w) un e = let no_way : ◌≡◌ {A = VotedReply} (voted.Changed w) (voted.Yes states) = some_is refl e in
        absurd (cc no_way)
    by_ties None None un e =
        (un, refl, let same : ◌≡◌ {A = VotedReply} (voted.Yes (changed_states u told)) (voted.Yes states) = some_is refl e in cc same)

    is_yes : Says (server.vote n h.path i ties ends s)
    is_yes = by (has_ended h.path s)
      where
        by : (e : Bool) →
            Says (cond {A = Served Server VotedReply} e (void s) (vote_now n u ends s (either (other_inc i s.inc) (first_unbound ties s))))
        by true e = let no_way : ◌≡◌ {A = Option VotedReply} None (Some (voted.Yes states)) = e in absurd (cc no_way)
        by false e = by_ties (other_inc i s.inc) (first_unbound ties s) refl e

  module _ (run : Run (start f.first) T) (lists : ListsEach v) (seen : (c : Copy) → at_number x v.objects ≡ Some c →
      SeesCopy f.act f.code x c (T.server n)) (copies : CopiesAreBased x T W v)
      (asked : ShowsAsk f.act f.code (record { x = x; path = h.path; number = h.req; node = n }) T (ask.Vote i ties ends)) where
    pub votes_are_over : (states : List ObjectState) → (let r = server.vote n h.path i ties ends s in r.reply) ≡ Some (voted.Yes states) →
        (b : Binding) (st : ObjectState) → Contains {X = ℕ × Binding} ties (x, b) → Contains states st → st.uid ≡ object x →
        IsVotedOver f x st.writer T W st
    votes_are_over states is b st tie there of =
        subst (λ (w : Uid). IsVotedOver f x w T W st) (ap (λ (q : ObjectState). q.writer) (made_over u x c st state).2) over
      where
        y : (first_unbound ties s ≡ None) × (v.objects ≡ told.objects) × (changed_states u told ≡ states)
        y = is_yes states is

        old : (c : Copy) × (at_number x s.objects ≡ Some c) × (binding_number b ≡ binding_number c.binding)
        old = tied_copy ties s x b y.0 (in_from {X = ℕ × Binding} (x, b) ties tie)

        found : (d : Copy) × (at_number x told.objects ≡ Some d) × (d.binding ≡ old.0.binding)
        found = copy_told n ends s x old.0 old.1

        c : Copy
        c = found.0

        at : at_number x v.objects ≡ Some c
        at = ap (λ (os : List (ℕ × Copy)). at_number x os) y.1 ∙ found.1

        bound : binding_number b ≡ binding_number c.binding
        bound = old.2 ∙ ap binding_number (sym found.2)

        state : changed_state u x c ≡ Some st
        state =
            let g = in_filter_map (λ (e : ℕ × Copy). changed_state u e.0 e.1) st told.objects
            (in_from st (changed_states u told) (subst (λ (zs : List ObjectState). Contains zs st) (sym y.2) there)) in
            let its_uid = ap (λ (q : ObjectState). q.uid) (made_over u (g.0).0 (g.0).1 st g.2).2 in
            let here : (g.0).0 ≡ x = ap (λ (w : Uid). w.num) (its_uid ∙ of) in
            let its : at_number x v.objects ≡ Some (g.0).1 = subst (λ (k : ℕ). at_number k v.objects ≡ Some (g.0).1) here
            (lists (g.0).0 (g.0).1
            (subst (λ (os : List (ℕ × Copy)). Contains {X = ℕ × Copy} os g.0) (sym y.1) (in_to {X = ℕ × Copy} g.0 told.objects g.1))) in
            let same : (g.0).1 ≡ c = some_is its at in
            subst (λ (z : Copy). changed_state u x z ≡ Some st) same (subst (λ (k : ℕ). changed_state u k (g.0).1 ≡ Some st) here g.2)

        sent : machine.In (Vote (f.act u) (binding_number b) i) T.net
        sent = (asked b tie).1

        over : IsVotedOver f x u T W st
        over = record {
          copy = c;
          before = T;
          node = n;
          inc = i;
          reached = run;
          called = (let z = run_keeps run (start_holds f.first) in let m = z.mail (Vote (f.act u) (binding_number b) i) sent in m.4);
          run = stay;
          state = state;
          sees = seen c at;
          sent = subst (λ (w : ℕ). machine.In (Vote (f.act u) w i) T.net) bound sent;
          based = keyed_found (λ (q : ℕ) (e : Copy). q ≡ x → IsBased T W e) x v.objects c copies at refl;
        }
