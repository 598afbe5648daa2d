-- Ends that a coordinator tells come in their turn.
use Rattle.arj_law_parts.proofs.Words
use Words.{◌≡◌, ◌≢◌, ◌⊎◌, ◌≤◌, ℕ, List, [], ◌∷◌, ◌++◌, length, take, Bool, true, false, cond, not, ◌&&◌, ◌||◌, nat_lt, ◌==◌, Option, Some}
use Words.{None, refl, sym, ◌∙◌, ap, subst, inl, inr, ⊎_elim, Contains, arith, is_some, or_cases, before_last, Row, last_uid, front, is_on}
use Words.{grant_row, drop_rows, pass_rows, strengthened, first_conflict, uid_eq, object, uid_is, uid_cases, CameBy, stayed, passed_on}
use Words.{grant_each, In, in_from, in_to, in_filter, none_in, came_by, Uid, Binding, Path, Head, End, Op, ObjectState, What, InvokedReply}
use Words.{VotedReply, Kind, uids_of, tops_of, op_mode, actor, Copy, taken_copy, end_copy, row_for, is_granted, is_top_in, run_copy}
use Words.{ask_copy, invoke_copy, Served, Did, either, reply, void, did_nothing, at_number, put_number, at_uid, binding_less, binding_eq}
use Words.{Server, Kept, new_server, is_told, has_ended, is_top, active_binding, took_copy, activate, other_inc, changed_by, end_new}
use Words.{end_one, apply_ends, told, keeps, on_copy, invoke_new, invoke_kept, invoke_now, is_below, invoke, first_unbound, vote_now, vote}
use Words.{put_same as put_number_same, put_other as put_number_other, one_or_two}
use Words.ending
use Words.kind
use Rattle.arj_law_parts.proofs.Terms
use Terms.{taken_end, Action, act_of, AreBegun, Stands, Paths, IsTree, IsLowest, Follows, IsGoodServer, IsInTurn, AreInTurn, has_end_of}
use Terms.{HasAllBelow, IsTopOn, AreOrdered, IsBegun}
use Rattle.arj_law_parts.proofs.parts
use parts.{GoodServers.good_end_one, Keys.put_same, Keys.on_drop, Keys.on_with, Pairs.at_each, Pairs.number_in}
use parts.Begun.{on_own, path_length, front_more, where_stands, serial_alone}
use parts.ServerRuns.{told_follows, one_follows}
use Rattle.arj_law_parts.specs.parts.Servers.{KnowsActions}
use Rattle.arj_lock.proofs.PassLeaves.{has}

never : {P : Type 0} (b : Bool) → b ≡ true → b ≡ false → P
never b holds fails = let no_way : true ≡ false = sym holds ∙ fails in cc

-- ---- who was told

pub told_stays : (s t : Server) → Follows s t → (w : Uid) → is_told w s ≡ true → is_told w t ≡ true
told_stays s t f w is = by (at_uid w s.ends) refl is
  where
    by : (o : Option End) → at_uid w s.ends ≡ o → is_some o ≡ true → is_told w t ≡ true
    by None e h = let no_way : false ≡ true = h in cc
    by (Some end) e h = ap is_some (f.ends w end e)

-- an end that comes is told
tells : (n : ℕ) (u : Uid) (e : End) (s : Server) → is_told u (end_one n u e s).part ≡ true
tells n u e s = by (is_told u s) refl
  where
    by : (b : Bool) → is_told u s ≡ b → is_told u (cond {A = Did Server} b (did_nothing s) (end_new n u (taken_end u e s) s)).part ≡ true
    by true is = is
    by false is = ap is_some (put_same u (taken_end u e s) s.ends)

pub end_of_more : (u : Uid) (es : List (Uid × End)) (e : Uid × End) → has_end_of u (es ++ e ∷ []) ≡ true →
    (has_end_of u es ≡ true) ⊎ (e.0 ≡ u)
end_of_more u [] e is =
    ⊎_elim (λ same. inr (uid_is e.0 u same)) (λ none. let no_way : false ≡ true = none in cc) (or_cases (uid_eq e.0 u) false is)
end_of_more u (f ∷ fs) e is = by (uid_eq f.0 u) (end_of_more u fs e) is
  where
    by : (b : Bool) → (has_end_of u (fs ++ e ∷ []) ≡ true → (has_end_of u fs ≡ true) ⊎ (e.0 ≡ u)) →
        (b || has_end_of u (fs ++ e ∷ [])) ≡ true → ((b || has_end_of u fs) ≡ true) ⊎ (e.0 ≡ u)
    by true ih h = inl refl
    by false ih h = ih h

-- ---- locks are of actions that were begun

abbrev pub IsKnown : List Action → Row → Type 0
IsKnown acts r = (a : Action) × Contains acts a × (r.holder ≡ uids_of a.path) × (r.tops ≡ tops_of a.path)

module _ (acts : List Action) where
  -- ---- a server knows them, under each call

  pub knows_new : (inc : ℕ) → KnowsActions acts (new_server inc)
  knows_new inc = record {
    rows = λ x c r is k. let no_way : ◌≡◌ {A = Option Copy} None (Some c) = is in cc;
    voted = λ t a is k on other. let no_way : false ≡ true = is in cc;
  }

  knows_put : (x : ℕ) (c : Copy) (s : Server) → ((r : Row) → Contains c.rows r → IsKnown acts r) → KnowsActions acts s →
      KnowsActions acts (record s { objects = put_number x c s.objects })
  knows_put x c s known was = record { rows = λ y d r is k. place y d r is k; voted = was.voted }
    where
      place : (y : ℕ) (d : Copy) (r : Row) → at_number y (put_number x c s.objects) ≡ Some d → Contains d.rows r → IsKnown acts r
      place y d r is k =
          ⊎_elim (λ same. at_same same) (λ apart. was.rows y d r (sym (put_number_other x y c s.objects apart.0) ∙ is) k) (one_or_two x y)
        where
          at_same : x ≡ y → IsKnown acts r
          at_same same =
              let e : ◌≡◌ {A = Option Copy} (Some c) (Some d) = sym (put_number_same x c s.objects)
              ∙ ap (λ j. at_number j (put_number x c s.objects)) same ∙ is in
              let one : c ≡ d = cc in
              known r (subst (λ (w : Copy). Contains w.rows r) (sym one) k)

  pub knows_activate : (n : ℕ) (p : Path) (b : Binding) (st : ObjectState) (s : Server) → KnowsActions acts s →
      KnowsActions acts (activate n p b st s).part
  knows_activate n p b st s knows =
      by (has_ended p s) (binding_less b (active_binding st.uid.num s)) (binding_eq b (active_binding st.uid.num s))
    where
      by : (over lower equal : Bool) → KnowsActions acts
          (cond {A = Served Server ℕ} (over || lower) (void s) (cond equal (reply s s.inc) (took_copy n st.uid.num b st s))).part
      by true lower equal = knows
      by false true equal = knows
      by false false true = knows
      by false false false = knows_put st.uid.num (taken_copy b st) s (λ r k. absurd (in_from r [] k)) knows

module _ (acts : List Action) (begun : AreBegun acts) where
  abbrev least : ℕ → ℕ → ℕ
  least long tops = cond (nat_lt long tops) long tops

  -- the parent of an action was begun, and its top is the action's, or it is a serializing action
  parent_known : (a : Action) → In a acts → (h : Uid) → before_last (uids_of a.path) ≡ Some h → (b : Action) × Contains acts b
      × (front (uids_of a.path) ≡ uids_of b.path) × (least (length (front (uids_of a.path))) (tops_of a.path) ≡ tops_of b.path)
  parent_known a i h parent = by a.kind (where_stands acts begun a i)
    where
      Found : Type 0
      Found = (b : Action) × Contains acts b × (front (uids_of a.path) ≡ uids_of b.path)
          × (least (length (front (uids_of a.path))) (tops_of a.path) ≡ tops_of b.path)

      alone : uids_of a.path ≡ act_of a ∷ [] → Found
      alone is = let no_way : ◌≡◌ {A = Option Uid} None (Some h) = sym (ap before_last is) ∙ parent in cc

      within : (long tops : ℕ) → tops ≤ long → nat_lt long tops ≡ false
      within long tops le = grind (arith, le)

      by : (k : Kind) → Stands acts a k → Found
      by kind.Top s = alone s.0
      by kind.Serial s = alone s.0
      by kind.Independent s = alone s.0
      by kind.Nested s =
          let b : Action = s.0 in
          let path : front (uids_of a.path) ≡ uids_of b.path = ap front s.3 ∙ front_more (uids_of b.path) (act_of a) in
          let inside : tops_of b.path ≤ length (uids_of b.path) = omega (arith, b.path.within, path_length b.path) in (
            b,
            s.1,
            path,
            (λ j. least (length (path j)) (s.4 j))
                ∙ (λ j. cond (within (length (uids_of b.path)) (tops_of b.path) inside j) (length (uids_of b.path)) (tops_of b.path)),
          )
      by kind.Constituent s =
          let b : Action = s.0 in
          let up = serial_alone acts begun b (in_from b acts s.1) s.2 in
          let path : front (uids_of a.path) ≡ uids_of b.path = ap front s.3 ∙ front_more (uids_of b.path) (act_of a) in
          (b, s.1, path, (λ j. least (length ((path ∙ up.0) j)) (s.4 j)) ∙ sym up.1)

  pub known_end : (u : Uid) (e : End) (c : Copy) → ((r : Row) → Contains c.rows r → IsKnown acts r) → (y : Row) →
      Contains (end_copy u e c).rows y → IsKnown acts y
  known_end u ending.Abort c known y k =
      known y (in_to y c.rows (in_filter (λ r. not (is_on r.holder u)) y c.rows (in_from y (drop_rows u c.rows) k)).0)
  known_end u ending.Commit c known y k = by (came_by u c.rows y (in_from y (pass_rows u c.rows) k))
    where
      strong : (r : Row) (o : Option Row) → ((strengthened r o).holder ≡ r.holder) × ((strengthened r o).tops ≡ r.tops)
      strong r None = (refl, refl)
      strong r (Some s) = (refl, refl)

      by : CameBy u c.rows y → IsKnown acts y
      by (stayed r there other is) = let f = known r there in let s = strong r _ in
          (f.0, f.1, ap (λ (q : Row). q.holder) is ∙ s.0 ∙ f.2, ap (λ (q : Row). q.tops) is ∙ s.1 ∙ f.3)
      by (passed_on r there own heir parent free is) =
          let f = known r there in
          let p = parent_known f.0 (in_from f.0 acts f.1) heir (ap before_last (sym f.2) ∙ parent) in (
            p.0,
            p.1,
            ap (λ (q : Row). q.holder) is ∙ ap front f.2 ∙ p.2,
            ap (λ (q : Row). q.tops) is ∙ (λ j. least (length (front (f.2 j))) (f.3 j)) ∙ p.3,
          )

  knows_end_one : (n : ℕ) (u : Uid) (e : End) (s : Server) → KnowsActions acts s → KnowsActions acts (end_one n u e s).part
  knows_end_one n u e s knows = by (is_told u s) (one_follows n u e s)
    where
      by : (b : Bool) → Follows s (cond {A = Did Server} b (did_nothing s) (end_new n u (taken_end u e s) s)).part →
          KnowsActions acts (cond {A = Did Server} b (did_nothing s) (end_new n u (taken_end u e s) s)).part
      by true f = knows
      by false f = record {
        rows = λ x d r is k. let g = at_each (λ y. end_copy u (taken_end u e s)) x s.objects d is in
            known_end u (taken_end u e s) g.0 (λ q. knows.rows x g.0 q g.1) r (subst (λ (c : Copy). Contains c.rows r) g.2 k);
        voted = λ t a is k on other.
            told_stays s (end_new n u (taken_end u e s) s).part f (act_of a) (knows.voted t a (on_drop t u s.voted is).1 k on other);
      }

  pub knows_told : (n : ℕ) (es : List (Uid × End)) (s : Server) → KnowsActions acts s → KnowsActions acts (told n es s).part
  knows_told n [] s knows = knows
  knows_told n (e ∷ es) s knows = let d = end_one n e.0 e.1 s in knows_told n es d.part (knows_end_one n e.0 e.1 s knows)

  pub known_run : (n : ℕ) (p : Path) (x : ℕ) (o : Op) (c : Copy) → IsBegun acts p → ((r : Row) → Contains c.rows r → IsKnown acts r) →
      (r : Row) → Contains (run_copy n p x o c).part.rows r → IsKnown acts r
  known_run n p x o c its known r k =
      by (is_granted (object x) (last_uid (uids_of p)) (op_mode o) c.rows) (in_from r (run_copy n p x o c).part.rows k)
    where
      new : Row
      new = row_for (object x) (uids_of p) (tops_of p) (op_mode o)

      mine : r ≡ new → IsKnown acts r
      mine same = (its.0, its.1, ap (λ (q : Row). q.holder) same ∙ its.2, ap (λ (q : Row). q.tops) same ∙ its.3)

      by : (b : Bool) → In r (cond b c.rows (grant_row new c.rows)) → IsKnown acts r
      by true j = known r (in_to r c.rows j)
      by false j = ⊎_elim (λ old. known r (in_to r c.rows old)) (λ q. ⊎_elim mine (λ f. let g = known f.0 (in_to f.0 c.rows f.1) in
          (g.0, g.1, ap (λ (w : Row). w.holder) f.3 ∙ g.2, ap (λ (w : Row). w.tops) f.3 ∙ g.3)) q) (grant_each new r c.rows j)

  knows_on_copy : (n : ℕ) (p : Path) (x : ℕ) (o : Op) (s : Server) → IsBegun acts p → KnowsActions acts s → (f : Option Copy) →
      at_number x s.objects ≡ f → KnowsActions acts (on_copy x (invoke_copy n p x o) s f).part
  knows_on_copy n p x o s its knows None there = knows
  knows_on_copy n p x o s its knows (Some c) there = by (first_conflict (uids_of p) (object x) (op_mode o) c.rows)
    where
      by : (r : Option Row) → KnowsActions acts (record s { objects = put_number x (ask_copy n p x o c r).part s.objects })
      by None = knows_put acts x (run_copy n p x o c).part s (known_run n p x o c its (λ r. knows.rows x c r there)) knows
      by (Some r) = knows_put acts x c s (λ q. knows.rows x c q there) knows

  knows_keeps : (act : Uid) (req : ℕ) (a : Option InvokedReply) (s : Server) → KnowsActions acts s → KnowsActions acts (keeps act req a s)
  knows_keeps act req None s knows = knows
  knows_keeps act req (Some a) s knows = record { rows = knows.rows; voted = knows.voted }

  pub knows_invoke : (n : ℕ) (h : Head) (x : ℕ) (b : Binding) (i : ℕ) (ends : List (Uid × End)) (o : Op) (s : Server) →
      IsBegun acts h.path → KnowsActions acts s → KnowsActions acts (invoke n h x b i ends o s).part
  knows_invoke n h x b i ends o s its knows = by (has_ended h.path s || is_below h.req (at_uid (actor h.path) s.kept))
    where
      new : KnowsActions acts (invoke_new n h x ends o s).part
      new =
          let d = apply_ends n ends s in
          let t = d.part in
          let r = on_copy x (invoke_copy n h.path x o) t (at_number x t.objects) in
          knows_keeps (actor h.path) h.req r.reply r.part
          (knows_on_copy n h.path x o t its (knows_told n ends s knows) (at_number x t.objects) refl)

      kept : (k : Option Kept) → KnowsActions acts (invoke_kept n h x ends o s k).part
      kept None = new
      kept (Some k) = one (k.req == h.req)
        where
          one : (c : Bool) → KnowsActions acts (cond {A = Served Server InvokedReply} c (reply s k.answer) (invoke_new n h x ends o s)).part
          one true = knows
          one false = new

      now : (w : Option What) → KnowsActions acts (invoke_now n h x ends o s w).part
      now (Some w) = knows
      now None = kept (at_uid (actor h.path) s.kept)

      by : (c : Bool) →
          KnowsActions acts (cond {A = Served Server InvokedReply} c (void s) (invoke_now n h x ends o s (changed_by i x b s))).part
      by true = knows
      by false = now (changed_by i x b s)

  -- after a list of ends each of them is told
  pub all_told : (n : ℕ) (es : List (Uid × End)) (s : Server) (u : Uid) → has_end_of u es ≡ true → is_told u (told n es s).part ≡ true
  all_told n [] s u is = let no_way : false ≡ true = is in cc
  all_told n (e ∷ es) s u is =
      let d = end_one n e.0 e.1 s in
      ⊎_elim (λ same. told_stays d.part (told n es d.part).part (told_follows n es d.part) u (subst (λ w. is_told w d.part ≡ true)
      (uid_is e.0 u same) (tells n e.0 e.1 s))) (λ rest. all_told n es d.part u rest) (or_cases (uid_eq e.0 u) (has_end_of u es) is)

  pub knows_vote : (n : ℕ) (p : Path) (i : ℕ) (ties : List (ℕ × Binding)) (ends : List (Uid × End)) (s : Server) →
      HasAllBelow acts (actor p) ends → KnowsActions acts s → KnowsActions acts (vote n p i ties ends s).part
  knows_vote n p i ties ends s below knows = by (has_ended p s)
    where
      yes : (w : Option What) → KnowsActions acts (vote_now n (actor p) ends s w).part
      yes (Some w) = knows
      yes None =
          let d = apply_ends n ends s in
          let g = knows_told n ends s knows in
          record {
            rows = g.rows;
            voted = λ t a is k on other. ⊎_elim (λ same. all_told n ends s (act_of a) (below a k (ap (is_on (uids_of a.path)) (sym same)
                ∙ on) (λ it. other (it ∙ sym same)))) (λ old. g.voted t a old k on other) (on_with t (actor p) d.part.voted is);
          }

      by : (b : Bool) → KnowsActions acts (cond {A = Served Server VotedReply} b (void s)
          (vote_now n (actor p) ends s (either (other_inc i s.inc) (first_unbound ties s)))).part
      by true = knows
      by false = yes (either (other_inc i s.inc) (first_unbound ties s))

  -- ---- ends in their turn

  module _ (paths : Paths) (tree : IsTree paths) where
    -- where all descendants were told, none of them has a lock
    lowest_told : (u : Uid) (s : Server) → IsGoodServer paths s → KnowsActions acts s →
        ((a : Action) → Contains acts a → is_on (uids_of a.path) u ≡ true → act_of a ≢ u → is_told (act_of a) s ≡ true) →
        (x : ℕ) (c : Copy) → at_number x s.objects ≡ Some c → IsLowest u c.rows
    lowest_told u s good knows ended x c there r k on = ⊎_elim (λ same. ap last_uid f.2 ∙ same) (λ other. never (is_on r.holder (act_of
        f.0)) (ap (λ us. is_on us (act_of f.0)) f.2 ∙ on_own f.0.path) (none_in (λ q. is_on q.holder (act_of f.0)) r c.rows (good.none x c
        (act_of f.0) there (ended f.0 f.1 (ap (λ us. is_on us u) (sym f.2) ∙ on) other)) (in_from r c.rows k))) (uid_cases (act_of f.0) u)
      where
        f : IsKnown acts r
        f = knows.rows x c r there k

    -- where the action is no top in a lock, and yet a top wherever it is, it is in none
    lowest_free : (u : Uid) (s : Server) → KnowsActions acts s → IsTopOn acts u → is_top u s ≡ false → (x : ℕ) (c : Copy) →
        at_number x s.objects ≡ Some c → IsLowest u c.rows
    lowest_free u s knows top none x c there r k on =
        let f = knows.rows x c r there k in
        let up : is_on (take r.tops r.holder) u ≡ true = (λ j. is_on (take (f.3 j) (f.2 j)) u)
        ∙ top f.0 f.1 (ap (λ us. is_on us u) (sym f.2) ∙ on) in
        never (is_top_in u c.rows) (has (λ (q : Row). is_on (take q.tops q.holder) u) r c.rows (in_from r c.rows k) up)
        (none_in (λ (e : ℕ × Copy). is_top_in u e.1.rows) (x, c) s.objects none (number_in x s.objects c there))

    turn_of : (u : Uid) (e : End) (before : List (Uid × End)) (s : Server) →
        (e ≡ ending.Commit → IsTopOn acts u ⊎ HasAllBelow acts u before) → ((w : Uid) → has_end_of w before ≡ true → is_told w s ≡ true) →
        IsGoodServer paths s → KnowsActions acts s → IsInTurn u e s
    turn_of u ending.Abort before s ordered over good knows fresh taken = let no_way : ending.Abort ≡ ending.Commit = taken in cc
    turn_of u ending.Commit before s ordered over good knows fresh taken =
        ⊎_elim top (λ below. lowest_told u s good knows (λ a k on other. over (act_of a) (below a k on other))) (ordered refl)
      where
        top : IsTopOn acts u → (x : ℕ) (c : Copy) → at_number x s.objects ≡ Some c → IsLowest u c.rows
        top is = by (is_top u s) (is_on s.voted u) refl refl taken
          where
            by : (a b : Bool) → is_top u s ≡ a → is_on s.voted u ≡ b → cond (a && not b) ending.Abort ending.Commit ≡ ending.Commit →
                (x : ℕ) (c : Copy) → at_number x s.objects ≡ Some c → IsLowest u c.rows
            by true true a b t = lowest_told u s good knows (λ d k on other. knows.voted u d b k on other)
            by true false a b t = let no_way : ending.Abort ≡ ending.Commit = t in cc
            by false b' a b t = lowest_free u s knows is a

    pub in_turn : (n : ℕ) (before es : List (Uid × End)) (s : Server) → AreOrdered acts before es →
        ((w : Uid) → has_end_of w before ≡ true → is_told w s ≡ true) → IsGoodServer paths s → KnowsActions acts s → AreInTurn n es s
    in_turn n before [] s ordered over good knows = tt
    in_turn n before (e ∷ es) s ordered over good knows =
        let d = end_one n e.0 e.1 s in
        let turn = turn_of e.0 e.1 before s ordered.0 over good knows in (
          turn,
          in_turn n (before ++ e ∷ []) es d.part ordered.1 (λ w is. ⊎_elim (λ old. told_stays s d.part (one_follows n e.0 e.1 s) w
              (over w old)) (λ same. subst (λ v. is_told v d.part ≡ true) same (tells n e.0 e.1 s)) (end_of_more w before e is))
              (good_end_one paths tree n e.0 e.1 s turn good) (knows_end_one n e.0 e.1 s knows),
        )

-- one action more, that isn't below a top for which the server voted
pub knows_more : (a : Action) (acts : List Action) (s : Server) → ((t : Uid) → is_on s.voted t ≡ true → is_on (uids_of a.path) t ≡ false) →
    KnowsActions acts s → KnowsActions (a ∷ acts) s
knows_more a acts s unvoted knows = record {
  rows = λ x c r there k. let f = knows.rows x c r there k in (f.0, in_to f.0 (a ∷ acts) (inr (in_from f.0 acts f.1)), f.2, f.3);
  voted = λ t b is k on other. ⊎_elim (λ same. never (is_on (uids_of a.path) t) (ap (λ (d : Action). is_on (uids_of d.path) t) same ∙ on)
      (unvoted t is)) (λ i. knows.voted t b is (in_to b acts i) on other) (in_from b (a ∷ acts) k);
}
