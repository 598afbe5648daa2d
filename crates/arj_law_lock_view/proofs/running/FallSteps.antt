-- A node stops: the machine's server and naming stop there too, and all others are seen as they were.
use Rattle.arj_law_parts.proofs.Words
use Words.{◌≡◌, ◌∙◌, ◌==◌, ℕ, List, true, false, eqb-true, Option, Some, None, refl, sym, ap, subst, arith, length, is_some, Message}
use Words.{Naming, Parts, Seen}
use Words.message
use Rattle.arj_law_lock_view.proofs.Terms
use Terms.{Run, State, go_on, Action, owners_of, OnlyServer, SeesNothing, Goes, NobodyConfirmed, OnlyNaming, OnlyServing, SeesNamingIn}
use Terms.{Sees, View, HoldsNamingIn, Fixed, view_of}
use Terms.machine as state
use Rattle.arj_law_lock_view.proofs.running
use running.{StartSteps.serving_of}
use running.MoveSteps.{action_is, memory_named, memory_serving, naming_serving, server_named}
use running.OtherSteps.{SeesOthers, fresh_named, fresh_on, now_named, others_go, reached_of}
use running.TieSteps.{IsMoved, moved_named, moved_serving, moved_then}
use Rattle.arj_law_lock_view.proofs.view.{ServerSteps.servers_stop, StartNamingSteps.naming_stops}
use Rattle.arj_law_lock_view.specs.view.Serving.{IsDown}

module _ (f : Fixed) (x : ℕ) (begun : List Action) (k : ℕ) where
  abbrev v : View
  v = view_of f x begun k

  -- where the machine's node has stopped
  pub record HasFallen (inc : ℕ) (S : State) (M : Seen) (T : State) : Type 0 where
    pub moved : IsMoved S T
    pub run : Run S T
    pub others : SeesOthers f x begun k T M
    pub server : IsDown v.node inc T
    pub naming : v.node ≡ 1 → SeesNothing inc T
    pub nobody : NobodyConfirmed S T

  module _ (R S : State) (M : Seen) (t : Parts) (inc : ℕ) (others : SeesOthers f x begun k S M) (level : t.server.inc ≡ inc)
      (holds : HoldsNamingIn (record { fixed = f; x = x; begun = begun; state = R }) k t.naming) (place : is_some t.naming ≡ (k == 1))
      (its : (n : Naming) → t.naming ≡ Some n → n.inc ≡ inc) (server : Sees v t.server S) (naming : SeesNamingIn v S t.naming) where
    g : Goes S (λ T. IsDown v.node t.server.inc T × OnlyServer v.node S T)
    g = servers_stop v t.server S server

    module _ (B : State) (run_server : Run S B) (down : IsDown v.node inc B) (only : OnlyServer v.node S B) where
      abbrev m : Message
      m = message.Hello (record { node = k; inc = inc })

      serving : OnlyServing v m S B
      serving = serving_of v m S B only

      nobody_behind : NobodyConfirmed S B
      nobody_behind = ap (λ (z : State). z.confirmed) only.rest

      others_behind : SeesOthers f x begun k B M
      others_behind = others_go f x begun k S B M others run_server (λ elsewhere. nobody_behind)
          (λ j disk live other seen_there. memory_serving v m S B serving (view_of f x begun j) disk live other seen_there)
          (fresh_on f begun S B (action_is v m S B serving) (ap (λ (z : State). z.kept) only.rest) (ap (λ (z : State). z.calls) only.rest)
          (ap (λ (z : State). z.includes) only.rest) others.fresh)
          (let o = others.now in let e : B.now ≡ S.now = ap (λ (z : State). z.now) only.rest in omega (arith, o, e))

      -- naming stops at node 1
      named : (n : Naming) → n.inc ≡ inc → (one : (k == 1) ≡ true) → (C : State) → Run B C → SeesNothing n.inc C → OnlyNaming B C →
          NobodyConfirmed B C → HasFallen inc S M C
      named n level_n one C run nothing only_named nobody = record {
        moved = moved_then S B C (moved_serving v m S B serving) (moved_named B C only_named);
        run = go_on run_server run;
        others = others_go f x begun k B C M others_behind run (λ elsewhere. nobody)
            (λ j disk live other seen_there. memory_named B C (reached_of f x begun k B M others_behind) run only_named
            (view_of f x begun j) disk live (λ same. other (same ∙ sym (eqb-true k 1 one))) seen_there)
            (fresh_named f begun B C only_named others_behind.fresh) (now_named B C (length M.lines) only_named others_behind.now);
        server = record {
          last = down.last;
          low = down.low;
          empty =
              ap (λ (h : ℕ → state.Server). h k) (server_named B C (reached_of f x begun k B M others_behind) run only_named) ∙ down.empty;
        };
        naming = λ is. subst (λ (i : ℕ). SeesNothing i C) level_n nothing;
        nobody = nobody ∙ nobody_behind;
      }

      behind : (o : Option Naming) → is_some o ≡ (k == 1) → HoldsNamingIn (record { fixed = f; x = x; begun = begun; state = R }) k o →
          ((n : Naming) → o ≡ Some n → n.inc ≡ inc) → SeesNamingIn v S o → (T : State) × HasFallen inc S M T
      behind None there holds_it its_inc sees = (
        B,
        record {
          moved = moved_serving v m S B serving;
          run = run_server;
          others = others_behind;
          server = down;
          naming = λ is. absurd (let no_naming : false ≡ true = there ∙ ap (λ (j : ℕ). j == 1) is in cc no_naming);
          nobody = nobody_behind;
        },
      )
      behind (Some n) there holds_it its_inc sees =
          let h = holds_it n refl in
          let c = naming_stops v (owners_of begun) n B h.count (reached_of f x begun k B M others_behind) h.good
          (naming_serving v m S B serving v (Some n) sees) in
          (c.state, named n (its_inc n refl) (sym there) c.state c.run c.holds.0 c.holds.1 c.holds.2)

    pub fallen : (T : State) × HasFallen inc S M T
    fallen = behind g.state g.run (subst (λ (i : ℕ). IsDown v.node i g.state) level g.holds.0) g.holds.1 t.naming place holds its naming
