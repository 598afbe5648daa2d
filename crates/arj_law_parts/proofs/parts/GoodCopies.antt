-- A request and the end of an action keep a copy good.
use Rattle.arj_law_parts.proofs.Words
use Words.{◌≡◌, ◌≢◌, ◌⊎◌, ◌≤◌, ℕ, List, [], ◌∷◌, Bool, true, false, cond, not, ◌&&◌, Option, Some, None, refl, sym, ◌∙◌, ap, subst, inl}
use Words.{inr, ⊎_elim, Contains, arith, filter, find, length, min, filter_map, cons_option, and_parts, false_from_ne_true, before_last}
use Words.{Row, last_uid, front, is_on, is_row_of, is_held_by, is_heir, has_row, grant_row, drop_rows, pass_rows, passed, handed_on}
use Words.{renamed, strengthened, first_conflict, uid_eq, object, uid_is, uid_same, uid_isnt, uid_other, IsOneEach, CameBy, stayed}
use Words.{passed_on, passing, grant_each, kept_from, In, in_from, in_to, in_filter, in_find, in_find_none, one_each_grant, one_each_filter}
use Words.{came_by, stays_in, which, only_found, heir_is, on_parts, on_last, one_each_pass, is_write, Uid, Binding, ObjectState, Path, Op}
use Words.{Value, Mode, uids_of, tops_of, op_mode, writes, mode_code, conflicting, value_after, Copy, taken_copy, Over, is_of, written}
use Words.{folded, undone, over_of, is_top_over, settled, overs_committed, end_copy, row_for, is_granted, rows_asked, current, run_copy}
use Words.ending
use Words.mode
use Rattle.arj_law_parts.proofs.Terms.{Paths, IsTree, IsGoodCopy, IsLowest, HasHeirs, HasLock}
use Rattle.arj_law_parts.proofs.parts.Stands.{stronger_right, stands_asked, asked_has, stands_pass}
use Rattle.arj_law_parts.specs.parts.Copies.{IsChain}
use Rattle.arj_lock.proofs.Exclusion.{on_path}

never : {P : Type 0} (b : Bool) → b ≡ true → b ≡ false → P
never b holds fails = let no_way : true ≡ false = sym holds ∙ fails in cc

given : {X Y : Type 0} (f : X → Option Y) (x : X) (y : Y) (xs : List X) → In x xs → f x ≡ Some y → In y (filter_map f xs)
given f x y [] i e = absurd i
given {X} {Y} f x y (z ∷ zs) (inl same) e = subst (λ o. In y (cons_option o (filter_map f zs))) (sym (ap f same ∙ e)) (inl refl)
given {X} {Y} f x y (z ∷ zs) (inr i) e = by (f z) (given f x y zs i e)
  where
    by : (o : Option Y) → In y (filter_map f zs) → In y (cons_option o (filter_map f zs))
    by None ih = ih
    by (Some w) ih = inr ih

write_mode : (o : Op) → writes o ≡ true → op_mode o ≡ mode.Write
write_mode o e = by (op_mode o) e
  where
    by : (m : Mode) → is_write m ≡ true → m ≡ mode.Write
    by mode.Read f = cc
    by mode.Exclude f = cc
    by mode.Write f = refl

-- ---- overlays

over_in : (y : Over) (holder : List Uid) (tops : ℕ) (v : Value) (stack : List Over) → In y (written holder tops v stack) →
    (y.holder ≡ holder) ⊎ ((e : Over) × In e stack × (y.holder ≡ e.holder))
over_in y holder tops v [] (inl same) = inl (ap (λ (o : Over). o.holder) (sym same))
over_in y holder tops v [] (inr i) = absurd i
over_in y holder tops v (e ∷ es) i = by (is_of (last_uid holder) e) i
  where
    by : (b : Bool) → In y (cond b (record e { value = v } ∷ es) (record { holder = holder; tops = tops; value = v } ∷ e ∷ es)) →
        (y.holder ≡ holder) ⊎ ((f : Over) × In f (e ∷ es) × (y.holder ≡ f.holder))
    by true (inl same) = inr (e, inl refl, ap (λ (o : Over). o.holder) (sym same))
    by true (inr j) = inr (y, inr j, refl)
    by false (inl same) = inl (ap (λ (o : Over). o.holder) (sym same))
    by false (inr j) = inr (y, j, refl)

module _ (paths : Paths) (tree : IsTree paths) where
  chain_written : (holder : List Uid) (tops : ℕ) (v : Value) (stack : List Over) → holder ≡ paths (last_uid holder) →
      ((e : Over) → In e stack → e.holder ≡ paths (last_uid e.holder)) →
      ((f : Over) → In f stack → is_on holder (last_uid f.holder) ≡ true) → IsChain stack → IsChain (written holder tops v stack)
  chain_written holder tops v [] own sound on chain = ((λ f c. absurd (in_from f [] c)), tt)
  chain_written holder tops v (e ∷ es) own sound on chain = by (is_of (last_uid holder) e) refl
    where
      by : (b : Bool) → is_of (last_uid holder) e ≡ b →
          IsChain (cond b (record e { value = v } ∷ es) (record { holder = holder; tops = tops; value = v } ∷ e ∷ es))
      by true is = (chain.0, chain.1)
      by false is = ((λ f c. (on f (in_from f (e ∷ es) c), apart f (in_from f (e ∷ es) c))), chain)
        where
          apart : (f : Over) → In f (e ∷ es) → uid_eq (last_uid f.holder) (last_uid holder) ≡ false
          apart f (inl same) = ap (λ (o : Over). uid_eq (last_uid o.holder) (last_uid holder)) (sym same) ∙ is
          apart f (inr j) = false_from_ne_true (uid_eq (last_uid f.holder) (last_uid holder)) (λ it.
              let below = chain.0 f (in_to f es j) in
              let up : is_on (paths (last_uid e.holder)) (last_uid holder) ≡ true =
              (λ i. is_on (sym (sound e (inl refl)) i) (sym (uid_is (last_uid f.holder) (last_uid holder) it) i)) ∙ below.0 in
              let down : is_on (paths (last_uid holder)) (last_uid e.holder) ≡ true = ap (λ us. is_on us (last_uid e.holder)) (sym own)
              ∙ on e (inl refl) in
              never (uid_eq (last_uid e.holder) (last_uid holder)) (ap (λ w. uid_eq w (last_uid holder))
              (tree.anti (last_uid e.holder) (last_uid holder) up down) ∙ uid_same (last_uid holder)) is)

  chain_filter : (p : Over → Bool) (stack : List Over) → IsChain stack → IsChain (filter p stack)
  chain_filter p [] chain = tt
  chain_filter p (e ∷ es) chain = by (p e) (chain_filter p es chain.1)
    where
      by : (b : Bool) → IsChain (filter p es) → IsChain (cond b (e ∷ filter p es) (filter p es))
      by true ih = ((λ f c. chain.0 f (in_to f es (in_filter p f es (in_from f (filter p es) c)).0)), ih)
      by false ih = ih

  -- ---- a request

  module _ (x : ℕ) (c : Copy) (good : IsGoodCopy paths x c) where
    pub good_wrote : (n : ℕ) (p : Path) (o : Op) → uids_of p ≡ paths (last_uid (uids_of p)) →
        first_conflict (uids_of p) (object x) (op_mode o) c.rows ≡ None → IsGoodCopy paths x (run_copy n p x o c).part
    good_wrote n p o own free = by (writes o) refl
      where
        new : Row
        new = row_for (object x) (uids_of p) (tops_of p) (op_mode o)

        rows : List Row
        rows = rows_asked new c.rows

        each : (r : Row) → In r rows → (r.object ≡ object x) × (r.holder ≡ paths (last_uid r.holder))
        each r i = one (is_granted (object x) (last_uid (uids_of p)) (op_mode o) c.rows) i
          where
            old : (q : Row) → In q c.rows → (q.object ≡ object x) × (q.holder ≡ paths (last_uid q.holder))
            old q j = (good.objects q (in_to q c.rows j), good.holders q (in_to q c.rows j))

            one : (b : Bool) → In r (cond b c.rows (grant_row new c.rows)) → (r.object ≡ object x) × (r.holder ≡ paths (last_uid r.holder))
            one true j = old r j
            one false j = ⊎_elim (λ k. old r k) (λ s.
                ⊎_elim (λ same. (ap (λ (q : Row). q.object) same, subst (λ (q : Row). q.holder ≡ paths (last_uid q.holder)) (sym same) own))
                (λ f. let h = old f.0 f.1 in
                (ap (λ (q : Row). q.object) f.3 ∙ h.0, subst (λ (q : Row). q.holder ≡ paths (last_uid q.holder)) (sym f.3) h.1)) s)
                (grant_each new r c.rows j)

        one_each : (b : Bool) → IsOneEach (cond b c.rows (grant_row new c.rows))
        one_each true = good.one
        one_each false = one_each_grant new c.rows good.one

        above : op_mode o ≡ mode.Write → (f : Over) → In f c.stack → is_on (uids_of p) (last_uid f.holder) ≡ true
        above is f i =
            let h = good.guard f (in_to f c.stack i) in
            subst (λ w. is_on (uids_of p) w ≡ true) h.2 (on_path new h.0 c.rows free (in_from h.0 c.rows h.1) (ap (λ w. uid_eq w (object x))
            (good.objects h.0 h.1) ∙ uid_same (object x)) ((λ j. conflicting h.0.mode (is j)) ∙ against h.0.mode h.3))
          where
            against : (m : Mode) → 2 ≤ mode_code m → conflicting m mode.Write ≡ true
            against mode.Read h = absurd (omega (arith, h))
            against mode.Exclude h = refl
            against mode.Write h = refl

        by : (b : Bool) → writes o ≡ b → IsGoodCopy paths x (record c
            { stack = cond b (written (uids_of p) (tops_of p) (value_after o (current c.base c.stack)) c.stack) c.stack; rows = rows })
        by false is = record {
          objects = λ r k. (each r (in_from r rows k)).0;
          holders = λ r k. (each r (in_from r rows k)).1;
          one = one_each (is_granted (object x) (last_uid (uids_of p)) (op_mode o) c.rows);
          overs = good.overs;
          chain = good.chain;
          guard = λ e k. stands_asked (last_uid e.holder) 2 new c.rows (good.guard e k);
        }
        by true is = record {
          objects = λ r k. (each r (in_from r rows k)).0;
          holders = λ r k. (each r (in_from r rows k)).1;
          one = one_each (is_granted (object x) (last_uid (uids_of p)) (op_mode o) c.rows);
          overs = λ e k. ⊎_elim (λ same. subst (λ us. us ≡ paths (last_uid us)) (sym same) own) (λ f. subst (λ us. us ≡ paths (last_uid us))
              (sym f.2) (good.overs f.0 (in_to f.0 c.stack f.1))) (over_in e (uids_of p) (tops_of p) v c.stack (in_from e stack k));
          chain = chain_written (uids_of p) (tops_of p) v c.stack own (λ e i. good.overs e (in_to e c.stack i)) (above (write_mode o is))
              good.chain;
          guard = λ e k. ⊎_elim (λ same. subst (λ us. HasLock (last_uid us) 2 rows) (sym same) (let h = asked_has new c.rows in
              (h.0, h.1, h.2, omega (arith, h.3, ap mode_code (write_mode o is))))) (λ f. subst (λ us. HasLock (last_uid us) 2 rows)
              (sym f.2) (stands_asked (last_uid f.0.holder) 2 new c.rows (good.guard f.0 (in_to f.0 c.stack f.1))))
              (over_in e (uids_of p) (tops_of p) v c.stack (in_from e stack k));
        }
          where
            v : Value
            v = value_after o (current c.base c.stack)

            stack : List Over
            stack = written (uids_of p) (tops_of p) v c.stack

    -- ---- abort

    pub good_aborted : (u : Uid) → IsGoodCopy paths x (end_copy u ending.Abort c)
    good_aborted u = record {
      objects = λ r k. good.objects r (in_to r c.rows (row r k));
      holders = λ r k. good.holders r (in_to r c.rows (row r k));
      one = one_each_filter (λ r. not (is_on r.holder u)) c.rows good.one;
      overs = λ e k. good.overs e (in_to e c.stack (over e k).0);
      chain = chain_filter (λ e. not (is_on e.holder u)) c.stack good.chain;
      guard = λ e k.
          let o = over e k in
          let h = good.guard e (in_to e c.stack o.0) in
          let same : h.0.holder ≡ e.holder = good.holders h.0 h.1 ∙ ap paths h.2 ∙ sym (good.overs e (in_to e c.stack o.0)) in (
            h.0,
            in_to h.0 (drop_rows u c.rows)
                (kept_from (λ r. not (is_on r.holder u)) h.0 c.rows (in_from h.0 c.rows h.1) (ap (λ us. not (is_on us u)) same ∙ o.1)),
            h.2,
            h.3,
          );
    }
      where
        row : (r : Row) → Contains (drop_rows u c.rows) r → In r c.rows
        row r k = (in_filter (λ q. not (is_on q.holder u)) r c.rows (in_from r (drop_rows u c.rows) k)).0

        over : (e : Over) → Contains (undone u c.stack) e → In e c.stack × (not (is_on e.holder u) ≡ true)
        over e k = in_filter (λ q. not (is_on q.holder u)) e c.stack (in_from e (undone u c.stack) k)

    -- ---- commit

    module _ (u : Uid) (lowest : IsLowest u c.rows) (heirs : HasHeirs u c) where
      -- an heir's lock is as strong as what passes to it
      pub passed_lock : (r : Row) (heir : Uid) (k : ℕ) → In r c.rows → last_uid r.holder ≡ u → before_last r.holder ≡ Some heir → heir ≢ u →
          k ≤ mode_code r.mode → HasLock heir k (pass_rows u c.rows)
      passed_lock r heir k i own parent other strong = by (has_row r.object heir c.rows) refl
        where
          held : is_held_by u r ≡ true
          held = ap (λ w. uid_eq w u) own ∙ uid_same u

          by : (b : Bool) → has_row r.object heir c.rows ≡ b → HasLock heir k (pass_rows u c.rows)
          by false free = (
            renamed r,
            in_to (renamed r) (pass_rows u c.rows)
                (given (passed u c.rows) r (renamed r) c.rows i ((λ j. cond (held j) (handed_on c.rows r (parent j))
                (Some (strengthened r (passing u r.object (last_uid r.holder) c.rows)))) ∙ (λ j. cond (free j) None (Some (renamed r))))),
            (heir_is r.holder heir parent).0,
            strong,
          )
          by true there = to_row (which (is_row_of r.object heir) c.rows there)
            where
              to_row : (s : Row) × In s c.rows × (is_row_of r.object heir s ≡ true) → HasLock heir k (pass_rows u c.rows)
              to_row f = found (passing u f.0.object (last_uid f.0.holder) c.rows) refl
                where
                  last : last_uid f.0.holder ≡ heir
                  last =
                      uid_is (last_uid f.0.holder) heir (and_parts (uid_eq f.0.object r.object) (uid_eq (last_uid f.0.holder) heir) f.2).1

                  same_object : f.0.object ≡ r.object
                  same_object =
                      uid_is f.0.object r.object (and_parts (uid_eq f.0.object r.object) (uid_eq (last_uid f.0.holder) heir) f.2).0

                  is_it : Row → Bool
                  is_it row = is_row_of f.0.object u row && is_heir (before_last row.holder) (last_uid f.0.holder)

                  its : is_row_of f.0.object u r ≡ true
                  its = λ j. (ap (λ w. uid_eq r.object w) same_object ∙ uid_same r.object) j && held j

                  goes : is_it r ≡ true
                  goes = λ j. its j && (ap (λ o. is_heir o (last_uid f.0.holder)) parent ∙ ap (uid_eq heir) last ∙ uid_same heir) j

                  there_is : In (strengthened f.0 (passing u f.0.object (last_uid f.0.holder) c.rows)) (pass_rows u c.rows)
                  there_is = stays_in u c.rows f.0 f.1 (ap (λ w. uid_eq w u) last ∙ uid_other heir u other)

                  found : (o : Option Row) → passing u f.0.object (last_uid f.0.holder) c.rows ≡ o → HasLock heir k (pass_rows u c.rows)
                  found None is = absurd (never (is_it r) goes (in_find_none is_it r c.rows is i))
                  found (Some q) is =
                      let g = in_find is_it q c.rows is in
                      let mine = (and_parts (is_row_of f.0.object u q) (is_heir (before_last q.holder) (last_uid f.0.holder)) g.1).0 in
                      let e : ◌≡◌ {A = Option Row} (Some q) (Some r) = sym (only_found f.0.object u q c.rows good.one g.0 mine)
                      ∙ only_found f.0.object u r c.rows good.one i its in
                      let same : q ≡ r = cc in
                      let y : Row = strengthened f.0 (Some q) in (
                        y,
                        in_to y (pass_rows u c.rows) (subst (λ p. In (strengthened f.0 p) (pass_rows u c.rows)) is there_is),
                        last,
                        omega (arith, strong, ap (λ (w : Row). mode_code w.mode) same, stronger_right f.0.mode q.mode),
                      )

      each_passed : (y : Row) → In y (pass_rows u c.rows) → (y.object ≡ object x) × (y.holder ≡ paths (last_uid y.holder))
      each_passed y i = by (came_by u c.rows y i)
        where
          strong : (r : Row) (o : Option Row) → (strengthened r o).holder ≡ r.holder
          strong r None = refl
          strong r (Some s) = refl

          thing : (r : Row) (o : Option Row) → (strengthened r o).object ≡ r.object
          thing r None = refl
          thing r (Some s) = refl

          by : CameBy u c.rows y → (y.object ≡ object x) × (y.holder ≡ paths (last_uid y.holder))
          by (stayed r there other is) = (
            ap (λ (q : Row). q.object) is ∙ thing r _ ∙ good.objects r there,
            subst (λ us. us ≡ paths (last_uid us)) (sym (ap (λ (q : Row). q.holder) is ∙ strong r _)) (good.holders r there),
          )
          by (passed_on r there own heir parent free is) =
              let w = good.holders r there in
              let h = tree.heir (last_uid r.holder) heir (ap before_last (sym w) ∙ parent) in
              let front_is : front r.holder ≡ paths heir = ap front w ∙ h.0 in (
                ap (λ (q : Row). q.object) is ∙ good.objects r there,
                subst (λ us. us ≡ paths (last_uid us)) (sym (ap (λ (q : Row). q.holder) is))
                    (front_is ∙ ap paths (sym (heir_is r.holder heir parent).0)),
              )

      -- what holds where this stack is left
      after : (stack : List Over) → ((e : Over) → In e stack → e.holder ≡ paths (last_uid e.holder)) → IsChain stack →
          ((e : Over) → In e stack → HasLock (last_uid e.holder) 2 (pass_rows u c.rows)) → (d : Copy) → d.stack ≡ stack →
          d.rows ≡ pass_rows u c.rows → IsGoodCopy paths x d
      after stack overs chain guard d is rows = record {
        objects = λ r k. (each_passed r (in_from r (pass_rows u c.rows) (subst (λ rs. Contains rs r) rows k))).0;
        holders = λ r k. (each_passed r (in_from r (pass_rows u c.rows) (subst (λ rs. Contains rs r) rows k))).1;
        one = subst IsOneEach (sym rows) (one_each_pass u c.rows good.one);
        overs = λ e k. overs e (in_from e stack (subst (λ es. Contains es e) is k));
        chain = subst IsChain (sym is) chain;
        guard = λ e k. subst (HasLock (last_uid e.holder) 2) (sym rows) (guard e (in_from e stack (subst (λ es. Contains es e) is k)));
      }

      over_path : (e : Over) → In e c.stack → e.holder ≡ paths (last_uid e.holder)
      over_path e i = good.overs e (in_to e c.stack i)

      -- an overlay of another action stays guarded
      other_guard : (e : Over) → In e c.stack → last_uid e.holder ≢ u → HasLock (last_uid e.holder) 2 (pass_rows u c.rows)
      other_guard e i other = stands_pass u (last_uid e.holder) 2 c.rows other (good.guard e (in_to e c.stack i))

      none_of : (e : Over) → find (is_of u) c.stack ≡ None → In e c.stack → last_uid e.holder ≢ u
      none_of e none i same = never (is_of u e) (ap (λ w. uid_eq w u) same ∙ uid_same u) (in_find_none (is_of u) e c.stack none i)

      pub good_committed : IsGoodCopy paths x (end_copy u ending.Commit c)
      good_committed = by (over_of u c.stack) refl
        where
          by : (o : Option Over) → over_of u c.stack ≡ o →
              IsGoodCopy paths x (let d = overs_committed u o c in record d { rows = pass_rows u c.rows })
          by None none = after c.stack over_path good.chain (λ e i. other_guard e i (none_of e none i))
              (record c { rows = pass_rows u c.rows }) refl refl
          by (Some e) found = top (is_top_over e) refl
            where
              others : List Over
              others = filter (λ o. not (is_of u o)) c.stack

              kept : (f : Over) → In f others → In f c.stack × (last_uid f.holder ≢ u)
              kept f i = let g = in_filter (λ o. not (is_of u o)) f c.stack i in
                  (g.0, λ same. never (not (is_of u f)) g.1 (ap not (ap (λ w. uid_eq w u) same ∙ uid_same u)))

              its : last_uid e.holder ≡ u
              its = uid_is (last_uid e.holder) u (in_find (is_of u) e c.stack found).1

              folds : (h : Uid) → before_last e.holder ≡ Some h → (stack : List Over) → c.stack ≡ stack →
                  IsGoodCopy paths x (record c { stack = folded u c.stack; rows = pass_rows u c.rows })
              folds h parent [] is = let no_way : ◌≡◌ {A = Option Over} None (Some e) = ap (find (is_of u)) (sym is) ∙ found in cc
              folds h parent (o ∷ es) is = head (is_of u o) refl
                where
                  chain : IsChain (o ∷ es)
                  chain = subst IsChain is good.chain

                  here : (f : Over) → In f (o ∷ es) → In f c.stack
                  here f i = subst (In f) (sym is) i

                  head : (b : Bool) → is_of u o ≡ b → IsGoodCopy paths x (record c { stack = folded u c.stack; rows = pass_rows u c.rows })
                  head false other =
                      let deeper = in_find (is_of u) e es
                      (sym (λ i. cond (other i) (Some o) (find (is_of u) es)) ∙ ap (find (is_of u)) (sym is) ∙ found) in
                      let on = (chain.0 e (in_to e es deeper.0)).0 in
                      let g = good.guard o (in_to o c.stack (here o (inl refl))) in
                      let same : g.0.holder ≡ o.holder = good.holders g.0 g.1 ∙ ap paths g.2 ∙ sym (over_path o (here o (inl refl))) in
                      let below = lowest g.0 g.1 (ap (λ us. is_on us u) same ∙ ap (is_on o.holder) (sym its) ∙ on) in
                      never (is_of u o) (ap (λ w. uid_eq w u) (sym g.2 ∙ below) ∙ uid_same u) other
                  head true own = after stack overs (chain_written (front o.holder) tops o.value es parent_path (λ f i. over_path f (here f
                      (inr i))) on_front_of chain.1) guard (record c { stack = folded u c.stack; rows = pass_rows u c.rows }) stack_is refl
                    where
                      tops : ℕ
                      tops = min o.tops (length (front o.holder))

                      stack : List Over
                      stack = written (front o.holder) tops o.value es

                      stack_is : folded u c.stack ≡ stack
                      stack_is = ap (folded u) is ∙ (λ i. cond (own i) stack (o ∷ es))

                      one : o ≡ e
                      one = let k : ◌≡◌ {A = Option Over} (Some o) (Some e) = sym (λ i. cond (own i) (Some o) (find (is_of u) es))
                          ∙ ap (find (is_of u)) (sym is) ∙ found in cc

                      last : last_uid o.holder ≡ u
                      last = uid_is (last_uid o.holder) u own

                      path : o.holder ≡ paths u
                      path = over_path o (here o (inl refl)) ∙ ap paths last

                      parent_of : before_last o.holder ≡ Some h
                      parent_of = ap (λ (f : Over). before_last f.holder) one ∙ parent

                      tree_heir : (front (paths u) ≡ paths h) × (is_on (front (paths u)) u ≡ false)
                      tree_heir = tree.heir u h (ap before_last (sym path) ∙ parent_of)

                      up : (last_uid (front o.holder) ≡ h) × (1 ≤ length (front o.holder))
                      up = heir_is o.holder h parent_of

                      parent_path : front o.holder ≡ paths (last_uid (front o.holder))
                      parent_path = ap front path ∙ tree_heir.0 ∙ ap paths (sym up.0)

                      another : h ≢ u
                      another same = never (is_on (front o.holder) u) (ap (is_on (front o.holder)) (sym (up.0 ∙ same))
                          ∙ on_last (front o.holder) up.1) (ap (λ us. is_on (front us) u) path ∙ tree_heir.1)

                      on_front_of : (f : Over) → In f es → is_on (front o.holder) (last_uid f.holder) ≡ true
                      on_front_of f i =
                          let below = chain.0 f (in_to f es i) in
                          ⊎_elim (λ same. absurd (uid_isnt (last_uid f.holder) (last_uid o.holder) below.1 (sym (uid_is (last_uid o.holder)
                          (last_uid f.holder) same)))) (λ on. on) (on_parts o.holder (last_uid f.holder) below.0)

                      overs : (y : Over) → In y stack → y.holder ≡ paths (last_uid y.holder)
                      overs y i = ⊎_elim (λ same. subst (λ us. us ≡ paths (last_uid us)) (sym same) parent_path)
                          (λ f. subst (λ us. us ≡ paths (last_uid us)) (sym f.2) (over_path f.0 (here f.0 (inr f.1))))
                          (over_in y (front o.holder) tops o.value es i)

                      g : HasLock (last_uid o.holder) 2 c.rows
                      g = good.guard o (in_to o c.stack (here o (inl refl)))

                      heir_lock : HasLock h 2 (pass_rows u c.rows)
                      heir_lock = passed_lock g.0 h 2 (in_from g.0 c.rows g.1) (g.2 ∙ last)
                          (ap before_last (good.holders g.0 g.1 ∙ ap paths (g.2 ∙ last) ∙ sym path) ∙ parent_of) another g.3

                      guard : (y : Over) → In y stack → HasLock (last_uid y.holder) 2 (pass_rows u c.rows)
                      guard y i = ⊎_elim (λ same. subst (λ w. HasLock w 2 (pass_rows u c.rows)) (sym (ap last_uid same ∙ up.0)) heir_lock)
                          (λ f. subst (λ us. HasLock (last_uid us) 2 (pass_rows u c.rows)) (sym f.2)
                          (other_guard f.0 (here f.0 (inr f.1)) (λ same. uid_isnt (last_uid f.0.holder) (last_uid o.holder)
                          (chain.0 f.0 (in_to f.0 es f.1)).1 (same ∙ sym last)))) (over_in y (front o.holder) tops o.value es i)

              top : (b : Bool) → is_top_over e ≡ b → IsGoodCopy paths x
                  (let d = cond b (settled u e c) (record c { stack = folded u c.stack }) in record d { rows = pass_rows u c.rows })
              top true is = after others (λ f i. over_path f (kept f i).0) (chain_filter (λ o. not (is_of u o)) c.stack good.chain) (λ f i.
                  other_guard f (kept f i).0 (kept f i).1) (let d = settled u e c in record d { rows = pass_rows u c.rows }) refl refl
              top false is = let h = heirs e found is in folds h.0 h.1 c.stack refl

-- a copy as it is taken
pub good_taken : (paths : Paths) (x : ℕ) (b : Binding) (st : ObjectState) → IsGoodCopy paths x (taken_copy b st)
good_taken paths x b st = record {
  objects = λ r k. absurd (in_from r [] k);
  holders = λ r k. absurd (in_from r [] k);
  one = tt;
  overs = λ e k. absurd (in_from e [] k);
  chain = tt;
  guard = λ e k. absurd (in_from e [] k);
}
