-- Of what a coordinator sends again at a tick, and of what it does where an acknowledgement or a query comes: its lines are
-- right, and it knows the book after them.
use Rattle.arj_law_parts.proofs.Words
use Words.{◌≡◌, arith, ℕ, ◌==◌, ◌&&◌, ◌||◌, not, List, [], ◌∷◌, ◌++◌, length, Bool, true, false, cond, Option, Some, None, refl, sym, ◌∙◌}
use Words.{subst, inl, inr, ⊎_elim, and_parts, is_on, In, in_from, in_to, End, Kind, Uid, uid_eq, again_all, again_now, Machine, plan_of}
use Words.{Calling, Committing, Coord, Doing, Idle, Now, doing_of, is_constituent_branch, is_kept_top, Effect, Intent, RemoveIntent, Do}
use Words.{Served, acked, acked_by, acked_left, answer_decided, answer_query, answer_recorded, is_deferred, is_kept_commit, let_go}
use Words.{root_or_self, tell, tell_all, tolds_let_go, took_part, at_uid, has, put_uid, without_number, without_uid, tolds_again, Branch}
use Words.{at_place, branch_of, ended_so, has_end, is_committed, is_open, is_constituent}
use Words.ending
use Words.kind
use Words.commit
use Rattle.arj_law_runs.proofs.Terms
use Terms.{placed, at_in, without_in, work_there, put_in, Book, is_decided, AreSaid, Calls, EachRecord, IsEnd, Knows}
use Rattle.arj_law_runs.proofs.journal
use journal.{Books.committed_decided}
use journal.CoordCalls.{alike_asks, alike_step, machine_partly, step_partly}
use journal.Effects.{ArePartly, Goes, IsPartly, all_both, all_flat, goes_partly, tells_partly}
use journal.Likes.{Alike, alike_calls, alike_knows, alike_same}
use Rattle.arj_protocol.specs.Ending.{is_over}

module _ (k : ℕ) where
  again_now_partly : (B : Book) (c : Coord) (n : Now) → ((m : Machine) → n ≡ Committing m → AreSaid B (let p = plan_of m in p.ends)) →
      Knows B c → ArePartly k B (again_now c n).outs
  again_now_partly B c Idle said knows = tt
  again_now_partly B c (Calling s) said knows = step_partly k B s c knows.lists
  again_now_partly B c (Committing m) said knows = machine_partly k B m c (said m refl)

  alike_again : (c : Coord) (n : Now) → Alike c (again_now c n).part
  alike_again c Idle = alike_same c
  alike_again c (Calling s) = alike_step s c
  alike_again c (Committing m) = alike_asks (plan_of m).path (plan_of m).req (commit.waiting m) c

  again_part : (B : Book) (ds : List Doing) (c : Coord) →
      ((d : Doing) (m : Machine) → In d ds → d.now ≡ Committing m → AreSaid B (let p = plan_of m in p.ends)) → Knows B c → Calls B c →
      ArePartly k B (again_all ds c).outs × Knows B (again_all ds c).part × Calls B (again_all ds c).part
  again_part B [] c said knows calls = (tt, knows, calls)
  again_part B (d ∷ ds) c said knows calls =
      let t = again_now c d.now in
      let a = alike_again c d.now in
      let r = again_part B ds t.part (λ x m i is. said x m (inr i) is) (alike_knows B c t.part a knows)
      (alike_calls B c t.part a calls) in (
        all_both (IsPartly k B) t.outs (again_all ds t.part).outs (again_now_partly B c d.now (λ m is. said d m (inl refl) is) knows) r.0,
        r.1,
        r.2,
      )

  -- a tick, with what goes behind it
  pub goes_again : (B : Book) (c : Coord) (more : List Effect) → Knows B c → Calls B c → ArePartly k B more →
      Goes k B ((again_all c.doings c).outs ++ more) (again_all c.doings c).part
  goes_again B c more knows calls all =
      let r = again_part B c.doings c (λ d m i is. by d m (placed d c.doings i) is) knows calls in
      goes_partly k B ((again_all c.doings c).outs ++ more) (again_all c.doings c).part
      (all_both (IsPartly k B) (again_all c.doings c).outs more r.0 all) r.1 r.2
    where
      same : (n : ℕ) → (n == n) ≡ true
      same n = grind arith

      by : (d : Doing) (m : Machine) → (j : ℕ) × (at_place j c.doings ≡ Some d) → d.now ≡ Committing m →
          AreSaid B (let p = plan_of m in p.ends)
      by d m p is = knows.plans (record { node = c.tree.node; inc = c.tree.inc; num = p.0 }) d m
          ((λ i. cond (same c.tree.node i && same c.tree.inc i) (at_place p.0 c.doings) None) ∙ p.1) is

  pub records_partly : (B : Book) (intents : List (Uid × Intent)) → EachRecord (λ u. is_decided B u ≡ true) intents →
      ArePartly k B (tolds_again intents)
  records_partly B intents each =
      all_flat (IsPartly k B) (λ (e : Uid × Intent). tell_all e.1.root true ((e.0, ending.Commit) ∷ []) e.1.nodes) intents
      (λ e i. tells_partly k B e.1.root true ((e.0, ending.Commit) ∷ []) e.1.nodes (each e.0 e.1 (in_to e intents i), tt))

  pub goes_acked : (B : Book) (from : ℕ) (u : Uid) (intents : List (Uid × Intent)) (c : Coord) → Knows B c → Calls B c →
      Goes k B (acked from u intents c).outs (acked from u intents c).part
  goes_acked B from u intents c knows calls = by (at_uid u c.telling) refl
    where
      Serves : Served Coord (Unit {0}) → Type 0
      Serves d = Goes k B d.outs d.part

      told_on : (m : List (Uid × Intent)) → ((w : Uid) (j : Intent) → In (w, j) m → (h : Intent) × In (w, h) c.telling) →
          Knows B (record c { telling = m })
      told_on m old = record {
        acts = knows.acts;
        lists = knows.lists;
        plans = knows.plans;
        telling = λ w j there. let o = old w j (in_from (w, j) m there) in knows.telling w o.0 (in_to (w, o.0) c.telling o.1);
        ties = knows.ties;
      }

      gone : (o : Option Intent) → ArePartly k B (tolds_let_go u (without_uid u intents) c o)
      gone None = tt
      gone (Some i) = one (not (uid_eq i.root u) && is_over (branch_of i.root c.tree))
        where
          one : (b : Bool) → ArePartly k B
              (cond b (tell_all i.root false ((i.root, ending.Abort) ∷ []) (let_go i.root (without_uid u intents) c i.nodes)) [])
          one true = tells_partly k B i.root false ((i.root, ending.Abort) ∷ []) (let_go i.root (without_uid u intents) c i.nodes) (tt, tt)
          one false = tt

      left : (i : Intent) → at_uid u c.telling ≡ Some i → (ns : List ℕ) → Serves (acked_left u i intents c ns)
      left i is [] = goes_partly k B (Do (RemoveIntent u) ∷ tolds_let_go u (without_uid u intents) c (at_uid u intents))
          (record c { telling = without_uid u c.telling }) (record { lined = tt; same = refl; puts = tt }, gone (at_uid u intents))
          (told_on (without_uid u c.telling) (λ w j h. (j, without_in u (w, j) c.telling h))) calls
      left i is (n ∷ ns) = goes_partly k B [] (record c { telling = put_uid u (record i { nodes = n ∷ ns }) c.telling }) tt
          (told_on (put_uid u (record i { nodes = n ∷ ns }) c.telling)
          (λ w j h. ⊎_elim (λ same. (i, subst (λ x. In (x, i) c.telling) (sym same) (at_in u i c.telling is))) (λ old. old)
          (put_in u (record i { nodes = n ∷ ns }) w j c.telling h))) calls

      nothing : Serves (record { part = c; outs = []; reply = None })
      nothing = goes_partly k B [] c tt knows calls

      by : (o : Option Intent) → at_uid u c.telling ≡ o → Serves (acked_by from u intents c o)
      by None is = nothing
      by (Some i) is = one (has i.nodes from)
        where
          one : (b : Bool) → Serves (cond {A = Served Coord (Unit {0})} b (acked_left u i intents c (without_number from i.nodes))
              (record { part = c; outs = []; reply = None }))
          one true = left i is (without_number from i.nodes)
          one false = nothing

  pub query_partly : (B : Book) (from : ℕ) (u : Uid) (intents : List (Uid × Intent)) (c : Coord) → length c.doings
      ≡ length c.tree.branches → Knows B c → EachRecord (λ w. is_decided B w ≡ true) intents → ArePartly k B (answer_query from u intents c)
  query_partly B from u intents c works knows found = first (is_open u c.tree || is_deferred u intents from)
    where
      aborts_it : (r : Uid) → ArePartly k B (tell r false ((u, ending.Abort) ∷ []) from ∷ [])
      aborts_it r = tells_partly k B r false ((u, ending.Abort) ∷ []) (from ∷ []) (tt, tt)

      commits_it : (r : Uid) (ack : Bool) → is_decided B u ≡ true → ArePartly k B (tell r ack ((u, ending.Commit) ∷ []) from ∷ [])
      commits_it r ack is = tells_partly k B r ack ((u, ending.Commit) ∷ []) (from ∷ []) (is, tt)

      -- a committed constituent is decided
      kept : (o : Option Branch) → branch_of u c.tree ≡ o → is_constituent_branch o ≡ true → ended_so ending.Commit o ≡ true →
          is_decided B u ≡ true
      kept None is of e = absurd (cc e)
      kept (Some b) is of e = let d = work_there c works u b is in let s = knows.acts u b d.0 is d.1 in
          committed_decided B u (committed b.kind b.ended of e s.end)
        where
          committed : (h : Kind) (x : Option End) → is_constituent h ≡ true → has_end ending.Commit x ≡ true → IsEnd B u h x →
              is_on B.committed u ≡ true
          committed kind.Constituent (Some ending.Commit) of f s = s
          committed kind.Constituent (Some ending.Abort) of f s = absurd (cc f)
          committed kind.Constituent None of f s = absurd (cc f)
          committed kind.Top x of f s = absurd (cc of)
          committed kind.Nested x of f s = absurd (cc of)
          committed kind.Serial x of f s = absurd (cc of)
          committed kind.Independent x of f s = absurd (cc of)

      decided_it : ArePartly k B (answer_decided from u c)
      decided_it = one (is_kept_commit from u c) refl
        where
          one : (b : Bool) → is_kept_commit from u c ≡ b → ArePartly k B (cond b (tell (root_or_self u (branch_of u c.tree)) false
              ((u, ending.Commit) ∷ []) from ∷ []) (tell (root_or_self u (branch_of u c.tree)) false ((u, ending.Abort) ∷ []) from ∷ []))
          one true is =
              let h = (and_parts (is_kept_top u c) (is_open (root_or_self u (branch_of u c.tree)) c.tree && took_part from (doing_of u c))
              is).0 in
              let q = and_parts (is_constituent_branch (branch_of u c.tree)) (is_committed u c.tree) h in
              commits_it (root_or_self u (branch_of u c.tree)) false (kept (branch_of u c.tree) refl q.0 q.1)
          one false is = aborts_it (root_or_self u (branch_of u c.tree))

      recorded : (o : Option Intent) → at_uid u intents ≡ o → ArePartly k B (answer_recorded from u c o)
      recorded None is = decided_it
      recorded (Some i) is = one (has i.nodes from)
        where
          one : (b : Bool) → ArePartly k B (cond b (tell i.root true ((u, ending.Commit) ∷ []) from ∷ []) (answer_decided from u c))
          one true = commits_it i.root true (found u i (in_to (u, i) intents (at_in u i intents is)))
          one false = decided_it

      first : (b : Bool) → ArePartly k B (cond b [] (answer_recorded from u c (at_uid u intents)))
      first true = tt
      first false = recorded (at_uid u intents) refl
