-- A vote of a server goes in the machine.
use Rattle.arj_law_parts.proofs.Words
use Words.{◌≡◌, ◌≤◌, ◌<◌, ◌∙◌, ◌==◌, ℕ, Bool, true, false, cond, max, refl, sym, ap, subst, arith, eqb-true, Uid, Copy, binding_number}
use Rattle.arj_law_lock_view.proofs.Terms
use Terms.{Act, In, at_act, next, stay, step, Guard, Ballot, Server, State, VoteTop, held_value, act_here, act_other, at_here, number_self}
use Terms.{Paths, Acts, HasVoted, IsCommitting, OnlyVote, ballot_for, IsVoteOf, Codes, SeesCopy, Goes, IsReached}
use Terms.machine
use Rattle.arj_law_lock.specs.machine.Machine.{ballot}
use Rattle.arj_law_lock_view.proofs.view.{CopySteps.server_else, LogSteps.folded_here, LogSteps.held_seen}
use Rattle.arj_law_lock_view.specs.view.Commits.{KeepsVoter, VotesAreSeen}

module _ (act : Acts) (code : Codes) (paths : Paths) (n x i : ℕ) (u : Uid) (c : Copy) (S : State) (reached : IsReached S)
    (ends : IsCommitting act paths x u c) (sees : SeesCopy act code x c (S.server n)) where
  abbrev b : ℕ
  b = binding_number c.binding

  abbrev v : Server
  v = S.server n

  abbrev m : Act
  m = act u

  -- the server that has voted
  abbrev bound : Server
  bound = record v { voted = at_act v.voted m true }

  abbrev T : State
  T = next (VoteTop n m b i) S

  abbrev given : Ballot
  given = record { value = held_value m v.base v.log; under = v.base }

  ballot_is : given ≡ ballot_for act code u c
  ballot_is = λ k. record { value = held_seen act ends.one code u c.base v.base sees.base c.stack v.log sees.overs k; under = sees.base k }

  first : S.yes m < b → T.vote m ≡ ballot_for act code u c
  first less = act_here S.vote m (ballot S n m b) ∙ by (max (S.yes m) b == S.yes m) refl
    where
      by : (t : Bool) → (max (S.yes m) b == S.yes m) ≡ t → cond t (S.vote m) given ≡ ballot_for act code u c
      by true is = absurd (let e = eqb-true (max (S.yes m) b) (S.yes m) is in omega (arith, less, e))
      by false is = ballot_is

  again : b ≤ S.yes m → (T.vote m ≡ S.vote m) × (T.yes m ≡ S.yes m)
  again more = (
    act_here S.vote m (ballot S n m b) ∙ (λ k. cond (same_max k) (S.vote m) given),
    act_here S.yes m (max (S.yes m) b) ∙ stays,
  )
    where
      stays : max (S.yes m) b ≡ S.yes m
      stays = omega (arith, more)

      same_max : (max (S.yes m) b == S.yes m) ≡ true
      same_max = ap (λ (k : ℕ). k == S.yes m) stays ∙ number_self (S.yes m)

  may : In (machine.Vote m b i) S.net → (let k = S.binding b in k.server) ≡ n → v.incarnation ≡ i → Guard (VoteTop n m b i) S
  may sent server incarnation = (sent, server, incarnation, sees.active, folded_here act paths x u c ends code S v.log sees.overs)

  votes_go : In (machine.Vote m b i) S.net → (let k = S.binding b in k.server) ≡ n → v.incarnation ≡ i → Goes S (λ V.
      SeesCopy act code x c (V.server n) × OnlyVote n m S V × KeepsVoter m v (V.server n) × HasVoted n m b (ballot_for act code u c) S V
      × ((o : IsVoteOf m b (ballot_for act code u c) V) × SeesCopy act code x c ((let k = o.before in k.server) o.node)))
  votes_go sent server incarnation = record {
    state = T;
    run = step (VoteTop n m b i) (may sent server incarnation) stay;
    holds = (
      subst (SeesCopy act code x c) (sym (at_here S.server n bound))
          (record { active = sees.active; base = sees.base; overs = sees.overs; rows = sees.rows }),
      record {
        rest = refl;
        others = λ k other. server_else S n k bound other;
        tops = λ a other. (act_other S.yes m (max (S.yes m) b) a other, act_other S.vote m (ballot S n m b) a other);
        raised = subst (λ (k : ℕ). S.yes m ≤ k) (sym (act_here S.yes m (max (S.yes m) b))) (omega arith);
      },
      subst (KeepsVoter m v) (sym (at_here S.server n bound)) (record { incarnation = refl; request = refl; voted = refl }),
      record {
        voted = ap (λ (w : Server). w.voted m) (at_here S.server n bound) ∙ act_here v.voted m true;
        yes = subst (λ (k : ℕ). b ≤ k) (sym (act_here S.yes m (max (S.yes m) b))) (omega arith);
        first = first;
        again = again;
      },
      (record { before = S; node = n; inc = i; reached = reached; may = may sent server incarnation; run = stay; gives = ballot_is }, sees),
    );
  }

pub votes_are_seen : VotesAreSeen
votes_are_seen act code paths n x i u c S reached ends sent server incarnation sees =
    votes_go act code paths n x i u c S reached ends sees sent server incarnation
