-- What commits have of votes, in each later state of the machine: what an answer shows of them, and who has them behind a step.
use Rattle.arj_law_parts.proofs.Words
use Words.{◌+◌, arith, ◌≡◌, ◌⊎◌, ◌∙◌, ◌==◌, ℕ, List, [], ◌∷◌, Bool, true, false, cond, eqb-true, Option, Some, None, refl, sym, ap, subst}
use Words.{inl}
use Words.{inr, ⊎_elim, Contains, in_from, in_to, Ask, Asked, ObjectState, Uid, object, Reply, actor, response, waits_for_commit, Machine}
use Words.{Used, Voting, ask_of, plan_of, Committing, Coord, Doing, doing_of, new_coord, Disk, Do, Effect, Intent, Say, Send, worked, Parts}
use Words.{Node, Seen, Header}
use Words.list
use Words.voted
use Rattle.arj_law_lock_view.proofs.Terms
use Terms.{IsAtStarts, first_up, Run, State, other_number, same_number, at, posted, said, Up, Walks, halted, AreVoted, side_at, ShowsReply}
use Terms.{View, IsCalledIn}
use Terms.{side_of, KnowsAnswer, Case, HoldsNamingIn, IsSeenIn, Spot, view_in, world_at, coord_at, Fixed, IsAnswerSeen, AreVotedAt}
use Rattle.arj_law_lock_view.proofs.facts.VoteCoords.{stays_voted}
use Rattle.arj_law_lock_view.proofs.running
use running.{OtherSteps.node_here, OtherSteps.node_there, StartSteps.no_work}
use running.AnswerGoes.{answers_back, of_commit, shown, who}
use Rattle.arj_law_lock_view.proofs.view.{ReplySteps.replies_stay_shown, VotedSteps.votes_are_shown}
use Rattle.arj_law_lock_view.specs.view.Voted.{ShowsVotes}
use Rattle.arj_law_parts.specs.moves.Seen.{In}
use Rattle.arj_law_runs.specs.calls.Runs.{VotesAreUsed}
use Rattle.std.specs.List.{find}

-- ---- what an answer shows

find_in : (x : ℕ) (us : List Used) (u : Used) → find (λ (q : Used). q.x == x) us ≡ Some u → list.In u us × (u.x ≡ x)
find_in x [] u is = absurd (cc is)
find_in x (q ∷ us) u is = by (q.x == x) refl is (find_in x us u)
  where
    by : (b : Bool) → (q.x == x) ≡ b → cond b (Some q) (find (λ (z : Used). z.x == x) us) ≡ Some u →
        (find (λ (z : Used). z.x == x) us ≡ Some u → list.In u us × (u.x ≡ x)) → list.In u (q ∷ us) × (u.x ≡ x)
    by true same e ih = let one : q ≡ u = cc e in (inl one, ap (λ (z : Used). z.x) (sym one) ∙ eqb-true q.x x same)
    by false other e ih = let r = ih e in (inr r.0, r.1)

module _ (c : Case) (s : Spot) (e from : ℕ) (a : Asked) (r : Reply) (is_seen : IsSeenIn c (world_at s))
    (holds : HoldsNamingIn c s.node (let t = s.parts in t.naming)) (knows : KnowsAnswer c s from a r)
    (sent : In (record { from = from; to = s.node; message = response a r }) (let M = s.seen in M.sent))
    (used : VotesAreUsed s.node s.parts (world_at s)) (T : State) (run : Run c.state T)
    (d : Doing) (found : doing_of a.act (coord_at s) ≡ Some d) (m : Machine) (is : d.now ≡ Committing m)
    (waits : waits_for_commit from a r m ≡ true) where
  abbrev f : Fixed
  f = c.fixed

  abbrev V : View
  V = view_in c s.node

  abbrev showing : IsAnswerSeen V (let M = s.seen in M.sent) (record { from = from; to = s.node; message = response a r }) (a, r) c.state
  showing = shown c s e from a r is_seen holds knows sent

  its_actor : actor (let h = showing.head in h.path) ≡ a.act
  its_actor = who c s e from a r is_seen holds knows sent d found

  reply : ShowsReply V showing.head (ask_of m from) T r
  reply = replies_stay_shown V showing.head (ask_of m from) r c.state T (f.first, (let z = is_seen.sees in z.run)) run (subst (λ (q : Ask).
      ShowsReply V showing.head q c.state r) (of_commit c s e from a r is_seen holds knows sent d found m is waits).1 showing.server)

  -- a state of the object is of what was called there
  used_here : (states : List ObjectState) (o : ObjectState) → r ≡ Reply.Voted (voted.Yes states) → Contains states o → o.uid ≡ object c.x →
      (q : Used) × IsCalledIn (side_of V (actor (let h = showing.head in h.path))) (plan_of m) q × (q.server ≡ from)
  used_here states o gave there about =
      let u = used from (response a r) a states sent (answers_back a r ∙ ap (λ (z : Reply). Some (a, z)) gave) d m found is o
      (in_from o states there) in
      let g = find_in (let z = o.uid in z.num) (let p = plan_of m in p.used) u.0 u.1 in
      (u.0, record { there = in_to u.0 (let p = plan_of m in p.used) g.0; about = g.1 ∙ ap (λ (z : Uid). z.num) about; called = u.3 }, u.2)

  shows_by : (k : Machine) (q : Reply) → m ≡ k → r ≡ q → ShowsVotes (side_of V (actor (let h = showing.head in h.path))) k from q T
  shows_by (Voting p left) (Reply.Voted (voted.Yes states)) same it =
      votes_are_shown V p left showing.head from (voted.Yes states) T
      (λ ss o gave there about. subst (λ (k : Machine). (q : Used) × IsCalledIn (side_of V (actor (let h = showing.head in h.path)))
      (plan_of k) q × (q.server ≡ from)) same (used_here ss o (it ∙ ap Reply.Voted gave) there about))
      (subst (λ (k : Machine). ShowsReply V showing.head (ask_of k from) T (Reply.Voted (voted.Yes states))) same
      (subst (λ (q : Reply). ShowsReply V showing.head (ask_of m from) T q) it reply))
  shows_by (Voting p left) (Reply.Voted (voted.Changed w)) same it = tt
  shows_by k q same it = tt

  pub votes_shown : ShowsVotes (side_at f.act f.code c.x a.act) m from r T
  votes_shown = subst (λ (u : Uid). ShowsVotes (side_at f.act f.code c.x u) m from r T) its_actor (shows_by m r refl refl)

-- ---- who is up behind a step

-- each node that is up was so before, or is this one with these parts
abbrev pub IsOldOrNew : Seen → ℕ → Parts → Seen → Type 0
IsOldOrNew M k v N = (j : ℕ) (n : Node) (t : Parts) → N.nodes j ≡ Some n → n.live ≡ Some t →
    ((j ≡ k → ⊥) × (M.nodes j ≡ Some n)) ⊎ ((j ≡ k) × (t ≡ v))

module _ (M : Seen) (k : ℕ) (v : Parts) where
  abbrev Nodes : Seen → Type 0
  Nodes N = IsOldOrNew M k v N

  apart : (j m : ℕ) → (j ≡ m) ⊎ (j ≡ m → ⊥)
  apart j m = grind arith

  -- the node as it is then
  at_node : (d : Disk) (live : Option Parts) (N : Seen) → ((t : Parts) → live ≡ Some t → t ≡ v) → ((j : ℕ) → N.nodes j ≡ M.nodes j) →
      IsOldOrNew M k v (at k d live N)
  at_node d live N new same j n t there up = ⊎_elim
      (λ (here : j ≡ k). inr (here, new t (ap (λ (z : Node). z.live) (its j here n there) ∙ up)))
      (λ (other : j ≡ k → ⊥). inl (other, sym (same j) ∙ sym (there_node j other) ∙ there))
      (apart j k)
    where
      here_node : (let W = at k d live N in W.nodes k) ≡ Some (record { number = k; disk = d; live = live })
      here_node = λ i. cond (same_number k i) (Some (record { number = k; disk = d; live = live })) (N.nodes k)

      there_node : (j : ℕ) → (j ≡ k → ⊥) → (let W = at k d live N in W.nodes j) ≡ N.nodes j
      there_node j other = λ i. cond (other_number j k other i) (Some (record { number = k; disk = d; live = live })) (N.nodes j)

      its : (j : ℕ) → j ≡ k → (n : Node) → (let W = at k d live N in W.nodes j) ≡ Some n → record { number = k; disk = d; live = live } ≡ n
      its j here n there = let one : ◌≡◌ {A = Option Node} (Some (record { number = k; disk = d; live = live })) (Some n) = sym here_node
          ∙ ap (λ (i : ℕ). (let W = at k d live N in W.nodes i)) (sym here) ∙ there in cc one

  pub nodes_walk : (e : ℕ) (outs : List Effect) (d : Disk) (N : Seen) → ((j : ℕ) → N.nodes j ≡ M.nodes j) →
      Walks Nodes e k outs (Up Nodes k v) d N
  nodes_walk e [] d N same =
      at_node d (Some v) N (λ t is. (let back : ◌≡◌ {A = Option Parts} (Some v) (Some t) = is in let one : v ≡ t = cc back in sym one)) same
  nodes_walk e (Do w ∷ es) d N same = (λ how. at_node _ None N (λ t is. absurd (cc is)) same, nodes_walk e es (worked w d) N same)
  nodes_walk e (Say b ∷ es) d N same = nodes_walk e es d (said e (b ∷ []) N) same
  nodes_walk e (Send to m ∷ es) d N same =
      λ more quiet. nodes_walk e es d (said e more (posted (record { from = k; to = to; message = m }) N)) same

-- ---- who has votes

-- those of the nodes but one have them, and so does this coordinator
abbrev pub HaveVotes : Fixed → ℕ → Seen → ℕ → Coord → State → Type 0
HaveVotes f x M k v S = ((j : ℕ) (n : Node) (t : Parts) → (j ≡ k → ⊥) → M.nodes j ≡ Some n → n.live ≡ Some t →
    AreVoted f.act f.code x t.coord S) × AreVoted f.act f.code x v S

pub voted_at : (f : Fixed) (x : ℕ) (M : Seen) (k : ℕ) (v : Parts) (N : Seen) (T : State) → IsOldOrNew M k v N →
    HaveVotes f x M k v.coord T → AreVotedAt f x T N
voted_at f x M k v N T nodes have j n t there up = ⊎_elim (λ old. have.0 j n t old.0 old.1 up)
    (λ new. subst (λ (q : Parts). AreVoted f.act f.code x q.coord T) (sym new.1) have.1) (nodes j n t there up)

-- all had them, and the machine has gone on
pub had_votes : (f : Fixed) (x k : ℕ) (d : Disk) (t : Parts) (M : Seen) (S T : State) → Run S T → AreVotedAt f x S (at k d (Some t) M) →
    HaveVotes f x M k t.coord T
had_votes f x k d t M S T run votes = (
  λ j n q other there up. stays_voted f.act f.code x q.coord S T run (votes j n q (node_there f x [] k d (Some t) M j other ∙ there) up),
  stays_voted f.act f.code x t.coord S T run
      (votes k (record { number = k; disk = d; live = Some t }) t (node_here f x [] k d (Some t) M) refl),
)

-- the node stops
pub halted_votes : (f : Fixed) (x e k : ℕ) (d : Disk) (live : Option Parts) (M : Seen) (S T : State) → Run S T →
    AreVotedAt f x S (at k d live M) → AreVotedAt f x T (halted e k d M)
halted_votes f x e k d live M S T run votes j n t there up = ⊎_elim
    (λ (here : j ≡ k). absurd (none n (its here)))
    (λ (other : j ≡ k → ⊥). stays_voted f.act f.code x t.coord S T run
    (votes j n t (node_there f x [] k d live M j other ∙ sym (node_there f x [] k d None M j other) ∙ there) up))
    (apart M k t j k)
  where
    its : j ≡ k → record { number = k; disk = d; live = None } ≡ n
    its here = let one : ◌≡◌ {A = Option Node} (Some (record { number = k; disk = d; live = None })) (Some n) = sym
        (node_here f x [] k d None M) ∙ ap (λ (i : ℕ). (let W = at k d None M in W.nodes i)) (sym here) ∙ there in cc one

    none : (m : Node) → record { number = k; disk = d; live = None } ≡ n → ⊥
    none m same = let bad : ◌≡◌ {A = Option Parts} None (Some t) = ap (λ (z : Node). z.live) same ∙ up in cc bad

-- the node starts anew
pub new_votes : (f : Fixed) (x k : ℕ) (d : Disk) (M : Seen) (inc : ℕ) (telling : List (Uid × Intent)) (S T : State) → Run S T →
    AreVotedAt f x S (at k d None M) → HaveVotes f x M k (record (new_coord k inc) { telling = telling }) T
new_votes f x k d M inc telling S T run votes = (
  λ j n q other there up. stays_voted f.act f.code x q.coord S T run (votes j n q (node_there f x [] k d None M j other ∙ there) up),
  λ u w m works. absurd (no_work k inc u w works),
)

-- no commit is under way at first
pub first_votes : (hd : Header) (f : Fixed) (x : ℕ) (S : State) → IsAtStarts hd (AreVotedAt f x S)
first_votes hd f x S st formed k n t there up u d m works now =
    absurd (no_work k (st.incs k + 1) u d (ap (λ (q : Parts). doing_of u q.coord) (first_up hd st k n t there up) ∙ works))
