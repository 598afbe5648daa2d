-- A whole server votes.
use Rattle.arj_law_parts.proofs.Words
use Words.{◌≡◌, ◌≢◌, ◌≤◌, ◌<◌, ◌⊎◌, ◌∙◌, ◌==◌, ℕ, List, [], ◌∷◌, Bool, true, false, cond, Option, Some, None, refl, sym, ap, subst, inl}
use Words.{inr, ⊎_elim, Contains, arith, eqb-true, uid_cases, in_from, in_to, none_in, Binding, End, Head, ObjectState, Row, Uid}
use Words.{VotedReply, What, is_on, last_uid, actor, Copy, Served, either, void, at_number, at_uid, binding_eq, binding_number, with_uid}
use Words.{Server, apply_ends, changed_copy, changed_states, first_unbound, has_ended, other_inc, vote, vote_now}
use Words.list
use Words.ask
use Words.voted
use Words.what
use Rattle.arj_law_lock_view.proofs.Terms
use Terms.{Act, In, Run, stay, Ballot, State, go_on, act_other, differ, act_of, IsLowest, on_own, with_on, told_follows, Acts, IsReached}
use Terms.{HasVoted, IsCommitting, IsVoteOf, OnlyVote, ballot_for, OnlyEnds, SeesCopy, Goes, IsServedBy, SeesObject, last_of, IsShown}
use Terms.{IsVotedBy, ListsEach, HaveOne, AreBrought, IsOfFamily, Sees, View}
use Terms.machine
use Rattle.arj_law_lock_view.proofs.view
use view.{BindSteps.other_act, RunSteps.goes_along, RunSteps.goes_to, VoteSteps.votes_are_seen}
use view.LeftSteps.{ends_sent, shows_later}
use view.StateSteps.{ends_list, voted_once, voted_state}
use view.ToldSteps.{brought_go, copy_told, family_told, told_of, turn_of}
use Rattle.arj_law_lock_view.specs.view.Serving.{HasVotedHere, VotesAreTaken}
use Rattle.arj_law_parts.proofs.parts.InTurn.{all_told}

-- who isn't on the longer list isn't on the list, nor who was put on it
not_on : (v u : Uid) (us : List Uid) → is_on (with_uid u us) v ≡ false → (v ≢ u) × (is_on us v ≡ false)
not_on v u us off = ((λ same. cc (sym (with_on v u us (inl same)) ∙ off)), by (is_on us v) refl)
  where
    by : (t : Bool) → is_on us v ≡ t → t ≡ false
    by true on = absurd (cc (sym (with_on v u us (inr on)) ∙ off))
    by false on = refl

-- each tie is to a copy of its binding
tied_copy : (ties : List (ℕ × Binding)) (s : Server) (x : ℕ) (b : Binding) → first_unbound ties s ≡ None → list.In (x, b) ties →
    (c : Copy) × (at_number x s.objects ≡ Some c) × (binding_number b ≡ binding_number c.binding)
tied_copy [] s x b none i = absurd i
tied_copy (t ∷ ts) s x b none i = by (changed_copy t.1 (at_number t.0 s.objects)) refl none i (tied_copy ts s x b)
  where
    of_copy : (y : ℕ) (d : Binding) (o : Option Copy) → at_number y s.objects ≡ o → changed_copy d o ≡ None →
        (c : Copy) × (at_number y s.objects ≡ Some c) × (binding_number d ≡ binding_number c.binding)
    of_copy y d None is un = absurd (cc un)
    of_copy y d (Some c) is un = at (binding_eq d c.binding) refl un
      where
        at : (e : Bool) → binding_eq d c.binding ≡ e → cond e None (Some (what.Bind d c.binding)) ≡ None →
            (c : Copy) × (at_number y s.objects ≡ Some c) × (binding_number d ≡ binding_number c.binding)
        at true same_one un = (c, is, eqb-true (binding_number d) (binding_number c.binding) same_one)
        at false same_one un = absurd (cc un)

    by : (w : Option What) → changed_copy t.1 (at_number t.0 s.objects) ≡ w → either w (first_unbound ts s) ≡ None → list.In (x, b)
        (t ∷ ts) → (first_unbound ts s ≡ None → list.In (x, b) ts → (c : Copy) × (at_number x s.objects ≡ Some c) × (binding_number b
        ≡ binding_number c.binding)) → (c : Copy) × (at_number x s.objects ≡ Some c) × (binding_number b ≡ binding_number c.binding)
    by (Some d) is un i ih = absurd (cc un)
    by None is un (inl same_one) ih = subst (λ (z : ℕ × Binding). (c : Copy) × (at_number z.0 s.objects ≡ Some c)
        × (binding_number z.1 ≡ binding_number c.binding)) same_one (of_copy t.0 t.1 (at_number t.0 s.objects) refl is)
    by None is un (inr more) ih = ih un more

only_no_vote : (n : ℕ) (m : Act) (S : State) → OnlyVote n m S S
only_no_vote n m S = record { rest = refl; others = λ k other. refl; tops = λ a other. (refl, refl); raised = omega arith }

-- ends, and then a vote
vote_after : {n : ℕ} {m : Act} {S T V : State} → OnlyEnds n S T → OnlyVote n m T V → OnlyVote n m S V
vote_after {n} {m} {S} {T} {V} a b = record {
  rest = b.rest ∙ ap (λ (z : State). record z { server = V.server; yes = V.yes; vote = V.vote }) a.rest;
  others = λ k other. b.others k other ∙ a.others k other;
  tops = λ c other. (let k = b.tops c other in (k.0 ∙ ap (λ (z : State). z.yes c) a.rest, k.1 ∙ ap (λ (z : State). z.vote c) a.rest));
  raised = subst (λ (k : ℕ). k ≤ V.yes m) (ap (λ (z : State). z.yes m) a.rest) b.raised;
}

ends_and_no_vote : (n : ℕ) (m : Act) (S T : State) → OnlyEnds n S T → OnlyVote n m S T
ends_and_no_vote n m S T a = vote_after a (only_no_vote n m T)

voted_after : (n : ℕ) (m : Act) (b : ℕ) (given : Ballot) (S T V : State) → OnlyEnds n S T → HasVoted n m b given T V →
    HasVoted n m b given S V
voted_after n m b given S T V only h = record {
  voted = h.voted;
  yes = h.yes;
  first = λ less. h.first (subst (λ (k : ℕ). k < b) (sym yes_is) less);
  again = λ more. (let k = h.again (subst (λ (k : ℕ). b ≤ k) (sym yes_is) more) in
      (k.0 ∙ ap (λ (z : State). z.vote m) only.rest, k.1 ∙ yes_is));
}
  where
    yes_is : T.yes m ≡ S.yes m
    yes_is = ap (λ (z : State). z.yes m) only.rest

-- a tie of the object, or none
tie_of : (x : ℕ) (ties : List (ℕ × Binding)) →
    ((b : Binding) × list.In {X = ℕ × Binding} (x, b) ties) ⊎ ((b : Binding) → list.In {X = ℕ × Binding} (x, b) ties → ⊥)
tie_of x [] = inr (λ b i. i)
tie_of x (t ∷ ts) = by (t.0 == x) refl (tie_of x ts)
  where
    by : (e : Bool) → (t.0 == x) ≡ e →
        ((b : Binding) × list.In {X = ℕ × Binding} (x, b) ts) ⊎ ((b : Binding) → list.In {X = ℕ × Binding} (x, b) ts → ⊥) →
        ((b : Binding) × list.In {X = ℕ × Binding} (x, b) (t ∷ ts)) ⊎ ((b : Binding) → list.In {X = ℕ × Binding} (x, b) (t ∷ ts) → ⊥)
    by true is rest = inl (t.1, inl (λ j. (eqb-true t.0 x is j, t.1)))
    by false is (inl f) = inl (f.0, inr f.1)
    by false is (inr none) = inr (λ b i. off b i)
      where
        unlike : (j l : ℕ) → (j == l) ≡ false → j ≡ l → ⊥
        unlike j l a b = grind (arith, a, b)

        off : (b : Binding) → list.In {X = ℕ × Binding} (x, b) (t ∷ ts) → ⊥
        off b (inl same) = unlike t.0 x is (ap (λ (z : ℕ × Binding). z.0) same)
        off b (inr j) = none b j

-- the server has voted
abbrev is_yes : Option VotedReply → Bool
is_yes (Some (voted.Yes states)) = true
is_yes (Some (voted.Changed w)) = false
is_yes None = false

module _ (v : View) (h : Head) (i : ℕ) (ties : List (ℕ × Binding)) (ends : List (Uid × End)) (s : Server) (S : State)
    (reached : IsReached S) (lists : ListsEach s) (shown : IsShown v h (ask.Vote i ties ends) s S) (sees : Sees v s S) where
  abbrev act : Acts
  act = v.family.act

  abbrev n : ℕ
  n = v.node

  abbrev u : Uid
  u = actor h.path

  abbrev t : Server
  t = let d = apply_ends n ends s in d.part

  abbrev Votes : Served Server VotedReply → Type 0
  Votes r = Goes S (λ T. Sees v r.part T × OnlyVote n (act u) S T × ((b : Binding) (states : List ObjectState) → Contains {X = ℕ × Binding}
      ties (v.x, b) → r.reply ≡ Some (voted.Yes states) → HasVotedHere v u b r.part S T × IsVotedBy v u b states T × HaveOne v.x states))

  brought : AreBrought v ends s S
  brought = record { whole = shown.whole; server = shown.server; ordered = shown.fits.2; shown = shown.shown }

  -- what is known of the server after the ends
  after : IsOfFamily v.family t
  after = family_told v ends s shown.whole (turn_of v ends s shown.whole shown.server shown.fits.2) shown.server

  -- all below the top were told of, and no descendant has a lock
  lowest : (c : Copy) → at_number v.x t.objects ≡ Some c → IsLowest u c.rows
  lowest c there r k on =
      let d = after.knows.rows v.x c r there k in
      ⊎_elim (λ (is : act_of d.0 ≡ u). ap last_uid d.2 ∙ is)
      (λ (other : act_of d.0 ≢ u).
      let told_of_it = all_told v.family.begun shown.whole.begun n ends s (act_of d.0)
      (shown.fits.1 d.0 d.1 (ap (λ us. is_on us u) (sym d.2) ∙ on) other) in
      absurd (differ (ap (λ us. is_on us (act_of d.0)) d.2 ∙ on_own (let a = d.0 in a.path)) (none_in
      (λ (q : Row). is_on q.holder (act_of d.0)) r c.rows (after.good.none v.x c (act_of d.0) there told_of_it) (in_from r c.rows k))))
      (uid_cases (act_of d.0) u)

  committing : (c : Copy) → at_number v.x t.objects ≡ Some c → IsCommitting act v.family.paths v.x u c
  committing c there = record {
    one = (let w = shown.whole in let k = w.alike in k.one);
    good = after.good.copies v.x c there;
    lowest = lowest c there;
    told = told_of act v.family.paths v.x c shown.whole.alike (after.good.copies v.x c there) u;
  }

  -- ---- yes

  module _ (untied : first_unbound ties s ≡ None) (inc_is : i ≡ s.inc) where
    abbrev bound_server : Server
    bound_server = record t { voted = with_uid u t.voted }

    inc_after : t.inc ≡ s.inc
    inc_after = let k = told_follows n ends s in k.same

    sent_later : (T V : State) → OnlyVote n (act u) T V → (m : machine.Message) → In m T.net → In m V.net
    sent_later T V only m j = subst (λ (net : List machine.Message). In m net) (sym (ap (λ (z : State). z.net) only.rest)) j

    -- the server that voted, where the machine's may have too
    voted_too : (T V : State) → Sees v t T → SeesObject act v.code v.x t.inc (at_number v.x t.objects) (V.server n) V →
        OnlyVote n (act u) T V → (let m = V.server n in m.incarnation) ≡ (let m = T.server n in m.incarnation) →
        (let m = V.server n in m.request) ≡ (let m = T.server n in m.request)
        → ((w : Uid) → w ≢ u → (let m = V.server n in m.voted (act w)) ≡ (let m = T.server n in m.voted (act w))) → Sees v bound_server V
    voted_too T V k object only inc request others = record {
      incarnation = inc ∙ k.incarnation;
      object = object;
      latest = λ w fresh. subst (λ (f : Act → ℕ). f (act w) ≤ last_of (at_uid w t.kept)) (sym request) (k.latest w fresh);
      kept = λ w e d found wanted. shows_later act v.code w e.req d T V (sent_later T V only) e.answer (k.kept w e d found wanted);
      voted = λ w fresh off. (let q = not_on w u t.voted off in others w q.0 ∙ k.voted w fresh q.1);
    }

    abbrev yes_part : Served Server VotedReply
    yes_part = record { part = bound_server; outs = (let d = apply_ends n ends s in d.outs); reply = Some (voted.Yes (changed_states u t)) }

    abbrev Yes : State → State → Type 0
    Yes T V = Sees v bound_server V × OnlyVote n (act u) T V × ((b : Binding) → Contains {X = ℕ × Binding} ties (v.x, b) →
        HasVotedHere v u b bound_server S V × IsVotedBy v u b (changed_states u t) V × HaveOne v.x (changed_states u t))

    -- the object is tied to a binding, which its copy has
    module _ (b : Binding) (j : list.In {X = ℕ × Binding} (v.x, b) ties) (T : State) (run : Run S T) (k : Sees v t T)
        (only : OnlyEnds n S T) where
      f : (c : Copy) × (at_number v.x s.objects ≡ Some c) × (binding_number b ≡ binding_number c.binding)
      f = tied_copy ties s v.x b untied j

      abbrev c : Copy
      c = let g = copy_told n ends s v.x f.0 f.1 in g.0

      there : at_number v.x t.objects ≡ Some c
      there = let g = copy_told n ends s v.x f.0 f.1 in g.1

      number_of : (d : Binding) → list.In {X = ℕ × Binding} (v.x, d) ties → binding_number d ≡ binding_number c.binding
      number_of d l =
          let e = tied_copy ties s v.x d untied l in
          let two : ◌≡◌ {A = Option Copy} (Some e.0) (Some f.0) = sym e.1 ∙ f.1 in
          let same : e.0 ≡ f.0 = cc two in
          let g = copy_told n ends s v.x f.0 f.1 in
          e.2 ∙ ap (λ (z : Copy). binding_number z.binding) same ∙ ap binding_number (sym g.2)

      asked : IsServedBy S b n × In (machine.Vote (act u) (binding_number b) i) S.net
      asked = shown.says tt b (in_to {X = ℕ × Binding} (v.x, b) ties j)

      has_copy : SeesCopy act v.code v.x c (T.server n) × In (machine.Activated (binding_number c.binding) t.inc) T.net
      has_copy = subst (λ (z : Option Copy). SeesObject act v.code v.x t.inc z (T.server n) T) there k.object

      tied_votes : Goes T (λ V. Yes T V)
      tied_votes = goes_to (votes_are_seen act v.code v.family.paths n v.x i u c T (reached.0, go_on reached.1 run) (committing c there)
          (subst (λ (z : ℕ). In (machine.Vote (act u) z i) T.net) (number_of b j)
          (ends_sent only (machine.Vote (act u) (binding_number b) i) asked.1))
          (ap (λ (z : ℕ). (let w = T.binding z in w.server)) (sym (number_of b j))
          ∙ ap (λ (z : State). (let w = z.binding (binding_number b) in w.server)) only.rest ∙ asked.0)
          (k.incarnation ∙ inc_after ∙ sym inc_is) has_copy.0) (λ V g. (let keeps = g.2 in (
            voted_too T V k (subst (λ (z : Option Copy). SeesObject act v.code v.x t.inc z (V.server n) V) (sym there)
                (g.0, sent_later T V g.1 (machine.Activated (binding_number c.binding) t.inc) has_copy.1)) g.1 keeps.incarnation
                keeps.request
                (λ w other. ap (λ (z : Act → Bool). z (act w)) keeps.voted ∙ act_other (let m = T.server n in
                m.voted) (act u) true (act w) (other_act act (let l = shown.whole in let e = l.alike in e.one) w u other)),
            g.1,
            (λ d l. (let is = number_of d (in_from {X = ℕ × Binding} (v.x, d) ties l) in (
              record {
                copy = c;
                there = there;
                bound = is;
                voted = subst (λ (z : ℕ). HasVoted n (act u) z (ballot_for act v.code u c) S V) (sym is)
                    (voted_after n (act u) (binding_number c.binding) (ballot_for act v.code u c) S T V only g.3);
              },
              (let o = subst (λ (z : ℕ). (o : IsVoteOf (act u) z (ballot_for act v.code u c) V)
                  × SeesCopy act v.code v.x c ((let k = o.before in k.server) o.node)) (sym is) g.4 in
                  record { copy = c; vote = o.0; state = voted_state u t v.x c (ends_list n ends s lists) there; sees = o.1 }),
              voted_once u t v.x c (ends_list n ends s lists) there,
            ))),
          )))

    votes_yes : Votes yes_part
    votes_yes = goes_along (brought_go v ends s S brought sees) (λ T run g. ⊎_elim
        (λ (some : (b : Binding) × list.In {X = ℕ × Binding} (v.x, b) ties). goes_to (tied_votes some.0 some.1 T run g.0 g.1) (λ V y. (
          y.0,
          vote_after g.1 y.1,
          λ b states l is. (let given : voted.Yes (changed_states u t) ≡ voted.Yes states = cc is in let same : changed_states u t ≡
              states = cc given in let h = y.2 b l in (h.0, subst (λ z. IsVotedBy v u b z V) same h.1, subst (HaveOne v.x) same h.2)),
        )))
        (λ (none : (b : Binding) → list.In {X = ℕ × Binding} (v.x, b) ties → ⊥). record {
          state = T;
          run = stay;
          holds = (
            voted_too T T g.0 (let k = g.0 in k.object) (only_no_vote n (act u) T) refl refl (λ w other. refl),
            ends_and_no_vote n (act u) S T g.1,
            λ b states l is. absurd (none b (in_from {X = ℕ × Binding} (v.x, b) ties l)),
          );
        })
        (tie_of v.x ties))

  -- ---- any vote

  as_it_was : (r : Served Server VotedReply) → r.part ≡ s → is_yes r.reply ≡ false → Votes r
  as_it_was r same none = record {
    state = S;
    run = stay;
    holds = (
      subst (λ (z : Server). Sees v z S) (sym same) sees,
      only_no_vote n (act u) S,
      λ b states l is. absurd (differ (ap is_yes is) none),
    );
  }

  now : Votes (vote_now n u ends s (either (other_inc i s.inc) (first_unbound ties s)))
  now = by_inc (i == s.inc) refl
    where
      by_ties : i ≡ s.inc → (w : Option What) → first_unbound ties s ≡ w → Votes (vote_now n u ends s w)
      by_ties inc_is (Some w) is = as_it_was (vote_now n u ends s (Some w)) refl refl
      by_ties inc_is None is = votes_yes is inc_is

      by_inc : (e : Bool) → (i == s.inc) ≡ e →
          Votes (vote_now n u ends s (either (cond e None (Some (what.Inc i s.inc))) (first_unbound ties s)))
      by_inc true is = by_ties (eqb-true i s.inc is) (first_unbound ties s) refl
      by_inc false is = as_it_was (vote_now n u ends s (Some (what.Inc i s.inc))) refl refl

  pub given : Votes (vote n h.path i ties ends s)
  given = by (has_ended h.path s)
    where
      by : (e : Bool) → Votes (cond e (void s) (vote_now n u ends s (either (other_inc i s.inc) (first_unbound ties s))))
      by true = as_it_was (void s) refl refl
      by false = now

pub votes_are_taken : VotesAreTaken
votes_are_taken v h i ties ends s S reached lists shown sees = given v h i ties ends s S reached lists shown sees
