-- A node is up again: its server and its naming are new in the machine, its coordinator has nothing.
use Rattle.arj_law_parts.proofs.Words
use Words.{◌≡◌, ◌≤◌, ◌∙◌, ◌+◌, ◌==◌, ℕ, List, [], Bool, true, false, cond, eqb-true, Option, Some, None, refl, sym, ap, subst, inr, ⊎_elim}
use Words.{arith, length, is_some, Message, Uid, recovered_naming, Doing, doing_of, new_coord, Disk, Named, Naming, at_number, new_server}
use Words.{naming_at, parts_in, Branch, branch_of, new_tree, Seen}
use Words.message
use Rattle.arj_law_lock_view.proofs.Terms
use Terms.{Act, same, Run, State, go_on, Action, act_of, doing_by, found_by, place_in, IsReached, OnlyServer, Goes, NobodyConfirmed}
use Terms.{OnlyNaming, OnlyServing, SeesNamingIn, SeesNaming, HasStopped, Sees, View, KnowsEntry, Fixed, view_of, ArePast, IsPast, SeesDown}
use Terms.{SeesUp}
use Terms.machine as state
use Rattle.arj_law_lock_view.proofs.running
use running.MoveSteps.{action_is, action_named, memory_named, memory_serving, naming_is, nothing_on, sees_named}
use running.OtherSteps.{SeesOthers, fresh_named, fresh_on, now_named, others_go, past_on, reached_of, records_on}
use running.TieSteps.{IsMoved, moved_named, moved_serving, moved_then}
use Rattle.arj_law_lock_view.proofs.view.{CallInputSteps.restarts_are_taken, ServerSteps.servers_start, StartNamingSteps.naming_starts}

-- a server that starts changes as one that takes a message
pub serving_of : (v : View) (m : Message) (S T : State) → OnlyServer v.node S T → OnlyServing v m S T
serving_of v m S T only = record {
  rest = only.rest ∙ (λ i. record S { server = T.server; yes = sym yes_is i; vote = sym vote_is i; net = T.net });
  others = only.others;
  sent = only.sent;
  tops = λ a none. (ap (λ (g : Act → ℕ). g a) yes_is, ap (λ (g : Act → state.Ballot). g a) vote_is);
  raised = λ a. (let e : T.yes a ≡ S.yes a = ap (λ (g : Act → ℕ). g a) yes_is in omega (arith, e));
}
  where
    yes_is : T.yes ≡ S.yes
    yes_is = ap (λ (z : State). z.yes) only.rest

    vote_is : T.vote ≡ S.vote
    vote_is = ap (λ (z : State). z.vote) only.rest

-- a new tree has nobody
pub no_branch : (node inc : ℕ) (u : Uid) (b : Branch) → branch_of u (new_tree node inc) ≡ Some b → ⊥
no_branch node inc u b there = place_in u.num b [] (found_by u (new_tree node inc) b there).1

pub no_work : (node inc : ℕ) (u : Uid) (d : Doing) → doing_of u (new_coord node inc) ≡ Some d → ⊥
no_work node inc u d works = place_in u.num d [] (doing_by u (new_coord node inc) d works).1

module _ (f : Fixed) (x : ℕ) (begun : List Action) (k : ℕ) where
  abbrev v : View
  v = view_of f x begun k

  -- all of a coordinator that stopped is past, once who was decided has its line
  past_all : (S : State) (d : Disk) (s : SeesDown v S d) → s.last ≡ None → (inc : ℕ) → ArePast v (new_tree k inc) S
  past_all S d s none inc a i home = inr (⊎_elim (λ here. gone here.0 here.1) (λ p. p) (s.past a i home))
    where
      stopped : HasStopped f.act s.tree None S
      stopped = subst (λ (o : Option Uid). HasStopped f.act s.tree o S) none s.stopped

      gone : (b : Branch) → branch_of (act_of a) s.tree ≡ Some b → IsPast v (act_of a) S
      gone b found = record {
        ended = λ act. ⊎_elim (λ is. absurd (cc is)) (λ h. h) (stopped.each (act_of a) b found act);
        over = ⊎_elim (λ h. absurd (cc h.1)) (λ three. three) (stopped.units (act_of a) b found);
      }

  pub record HasStarted (S : State) (d : Disk) (M : Seen) (T : State) : Type 0 where
    pub moved : IsMoved S T
    pub run : Run S T
    pub nobody : NobodyConfirmed S T
    pub others : SeesOthers f x begun k T M
    pub up : SeesUp v T (record d { inc = d.inc + 1 }) (parts_in k (d.inc + 1) d)

  module _ (S : State) (d : Disk) (M : Seen) (others : SeesOthers f x begun k S M) (s : SeesDown v S d) (none : s.last ≡ None)
      (entry : KnowsEntry x k d) where
    abbrev inc : ℕ
    inc = d.inc + 1

    g : Goes S (λ T. Sees v (new_server inc) T × OnlyServer v.node S T)
    g = servers_start v d.inc inc S (omega arith) s.server

    module _ (behind_server : State) (run_serving : Run S behind_server) (server_behind : Sees v (new_server inc) behind_server)
        (only : OnlyServer v.node S behind_server) where
      abbrev m : Message
      m = message.Hello (record { node = k; inc = inc })

      serving : OnlyServing v m S behind_server
      serving = serving_of v m S behind_server only

      nobody_behind : NobodyConfirmed S behind_server
      nobody_behind = ap (λ (z : State). z.confirmed) only.rest

      others_behind : SeesOthers f x begun k behind_server M
      others_behind = others_go f x begun k S behind_server M others run_serving (λ elsewhere. nobody_behind)
          (λ j disk live other seen_there. memory_serving v m S behind_server serving (view_of f x begun j) disk live other seen_there)
          (fresh_on f begun S behind_server (action_is v m S behind_server serving) (ap (λ (z : State). z.kept) only.rest)
          (ap (λ (z : State). z.calls) only.rest) (ap (λ (z : State). z.includes) only.rest) others.fresh)
          (let o = others.now in let e : behind_server.now ≡ S.now = ap (λ (z : State). z.now) only.rest in omega (arith, o, e))

      reached_behind : IsReached behind_server
      reached_behind = reached_of f x begun k behind_server M others_behind

      up_with : (T : State) → T.action ≡ S.action → Sees v (new_server inc) T → SeesNamingIn v T (naming_at k inc d.names) →
          SeesUp v T (record d { inc = inc }) (parts_in k inc d)
      up_with T same server naming = record {
        server = server;
        coord = restarts_are_taken f.act f.code x k inc d.intents T;
        naming = naming;
        inc = λ n is. its_inc (k == 1) n is;
        place = its_place (k == 1);
        home = λ u b there. absurd (no_branch k inc u b there);
        past = past_on S T ends v (new_tree k inc) (past_all S d s none inc);
        records = records_on S T ends v None d.intents
            (λ u i there. inr (⊎_elim (λ is. absurd (let bad : None ≡ Some u = sym none ∙ is in cc bad)) (λ so. so) (s.records u i there)));
      }
        where
          ends : (a : Act) → 3 ≤ (S.action a).stage → T.action a ≡ S.action a
          ends a ended = ap (λ (h : Act → state.Action). h a) same

          its_place : (b : Bool) → is_some (cond b (Some (recovered_naming inc d.names)) None) ≡ b
          its_place true = refl
          its_place false = refl

          its_inc : (b : Bool) (n : Naming) → cond b (Some (recovered_naming inc d.names)) None ≡ Some n → n.inc ≡ inc
          its_inc true n is = ap (λ (z : Naming). z.inc) (same_one is)
            where
              same_one : ◌≡◌ {A = Option Naming} (Some (recovered_naming inc d.names)) (Some n) → n ≡ recovered_naming inc d.names
              same_one q = sym (cc q)
          its_inc false n is = absurd (cc is)

      -- naming starts at node 1
      named : (one : (k == 1) ≡ true) (behind_naming : State) → Run behind_server behind_naming →
          SeesNaming v (recovered_naming inc d.names) behind_naming → OnlyNaming behind_server behind_naming →
          NobodyConfirmed behind_server behind_naming → HasStarted S d M behind_naming
      named one behind_naming run seen_naming only_named nobody = record {
        moved = moved_then S behind_server behind_naming (moved_serving v m S behind_server serving)
            (moved_named behind_server behind_naming only_named);
        run = go_on run_serving run;
        nobody = nobody ∙ nobody_behind;
        others = others_go f x begun k behind_server behind_naming M others_behind run (λ elsewhere. nobody)
            (λ j disk live other seen_there. memory_named behind_server behind_naming reached_behind run only_named (view_of f x begun j)
            disk live (λ its. other (its ∙ sym (eqb-true k 1 one))) seen_there) (fresh_named f begun behind_server behind_naming only_named
            others_behind.fresh) (now_named behind_server behind_naming (length M.lines) only_named others_behind.now);
        up = up_with behind_naming (action_named behind_server behind_naming reached_behind run only_named ∙ action_is v m S behind_server
            serving) (sees_named behind_server behind_naming reached_behind run only_named v (parts_in k inc d) server_behind)
            (subst (λ (b : Bool). SeesNamingIn v behind_naming (cond b (Some (recovered_naming inc d.names)) None)) (sym one) seen_naming);
      }

      starts : (b : Bool) → (k == 1) ≡ b → (T : State) × HasStarted S d M T
      starts false is = (
        behind_server,
        record {
          moved = moved_serving v m S behind_server serving;
          run = run_serving;
          nobody = nobody_behind;
          others = others_behind;
          up = up_with behind_server (action_is v m S behind_server serving) server_behind
              (subst (λ (b : Bool). SeesNamingIn v behind_server (cond b (Some (recovered_naming inc d.names)) None)) (sym is) tt);
        },
      )
      starts true is =
          let one : k ≡ 1 = eqb-true k 1 is in
          let o = there (at_number x (let n = recovered_naming inc d.names in n.objects)) (entry one inc) in
          let h = naming_starts v d.inc inc d.names o.0 behind_server (omega arith) o.1
          (nothing_on d.inc S behind_server (naming_is v m S behind_server serving) (s.naming one)) in
          (h.state, named is h.state h.run h.holds.0 h.holds.1 h.holds.2)
        where
          there : (o : Option Named) → is_some o ≡ true → (n : Named) × (o ≡ Some n)
          there None is = absurd (cc is)
          there (Some n) is = (n, refl)

    pub started : (T : State) × HasStarted S d M T
    started = starts g.state g.run g.holds.0 g.holds.1 (k == 1) refl
