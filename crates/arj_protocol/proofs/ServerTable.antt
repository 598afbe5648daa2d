-- The locks of a server change by its lines, and by these alone.
use Rattle.std.proofs.Common.{◌≡◌, ℕ, List, [], ◌∷◌, ◌++◌, Bool, true, false, cond, refl, sym, ◌∙◌, ap, subst, Option, Some, None, ◌==◌}
use Rattle.std.proofs.Common.{⊎_elim}
use Rattle.std.specs.Prelude.{◌||◌, if◌then◌else◌}
use Rattle.std.specs.Ordering.{nat_cmp, is_eq}
use Rattle.arj_protocol.specs.Words.{Uid, End, Path, Head, Binding, ObjectState, Op, Row, What, InvokedReply, uid_eq, nobody, object}
use Rattle.arj_protocol.specs.Words.{uids_of, tops_of, op_mode, first_conflict}
use Rattle.arj_protocol.specs.Words.ending
use Rattle.arj_protocol.specs.Words.body
use Rattle.arj_protocol.specs.Words.part
use Rattle.arj_protocol.specs.Order.{at_number, put_number, each, binding_eq, binding_less, at_uid}
use Rattle.arj_protocol.specs.Effect.{Effect, Say, either, void, reply}
use Rattle.arj_protocol.specs.Ask.{actor}
use Rattle.arj_protocol.specs.Copy.{Copy, end_copy, holds, run_copy, ask_copy, invoke_copy, taken_copy}
use Rattle.arj_protocol.specs.Server.{Server, Kept, activate, took_copy, has_ended, active_binding, invoke, invoke_now, invoke_kept}
use Rattle.arj_protocol.specs.Server.{invoke_new, on_copy, kept_after, keeps, is_below, vote, vote_now, apply_ends, end_one, end_new}
use Rattle.arj_protocol.specs.Server.{taken_end, has_locks, is_told, changed_by, other_inc, first_unbound}
use Rattle.arj_protocol.specs.Laws.{Holders, IsPathOf, AreOfActions, ServerTable, server_rows, rows_in_copy, rows_after, rows_ended}
use Rattle.arj_protocol.proofs.Maps.{put_other, put_same, found_any}
use Rattle.arj_protocol.proofs.RowSteps.{one_or_two, same_number, after_both, asked_after, asked_elsewhere, ends_none, told_after}

-- the table of object x at node n
module _ (h : Holders) (n x : ℕ) where
  Same : Server → List Effect → Server → Type 0
  Same s outs t = ServerTable h n x s outs t

  -- ---- ends

  end_rows : (u : Uid) (e : End) (c : Copy) → (end_copy u e c).rows ≡ rows_ended e u c.rows
  end_rows u ending.Commit c = refl
  end_rows u ending.Abort c = refl

  each_ends : (u : Uid) (e : End) (m : List (ℕ × Copy)) →
      rows_in_copy (at_number x (each (λ y. end_copy u e) m)) ≡ rows_ended e u (rows_in_copy (at_number x m))
  each_ends u e [] = of_none e
    where
      of_none : (e : End) → [] ≡ rows_ended e u []
      of_none ending.Commit = refl
      of_none ending.Abort = refl
  each_ends u e (y ∷ ys) = by (is_eq (nat_cmp x y.0)) (each_ends u e ys)
    where
      by : (b : Bool) → rows_in_copy (at_number x (each (λ y. end_copy u e) ys)) ≡ rows_ended e u (rows_in_copy (at_number x ys))
          → rows_in_copy (cond b (Some (end_copy u e y.1)) (at_number x (each (λ y. end_copy u e) ys))) ≡ rows_ended e u (rows_in_copy (cond b (Some y.1) (at_number x ys)))
      by true ih = end_rows u e y.1
      by false ih = ih

  holds_here : (u : Uid) (s : Server) → has_locks u s ≡ false → holds u (server_rows x s) ≡ false
  holds_here u s none = by (at_number x s.objects) refl
    where
      by : (o : Option Copy) → at_number x s.objects ≡ o → holds u (rows_in_copy o) ≡ false
      by None is = refl
      by (Some c) is = (found_any (λ (e : ℕ × Copy). holds u e.1.rows) x c s.objects none is).1

  new_end : (u : Uid) (e : End) (s : Server) → uid_eq nobody u ≡ false → ServerTable h n x s (end_new n u e s).outs (end_new n u e s).part
  new_end u e s someone = by (has_locks u s) refl
    where
      by : (b : Bool) → has_locks u s ≡ b →
          rows_in_copy (at_number x (each (λ y. end_copy u e) s.objects)) ≡ rows_after h n part.Server (object x) (if b then Say (body.Told n u e part.Server) ∷ [] else []) (server_rows x s)
      by true is = each_ends u e s.objects ∙ sym (told_after h n part.Server (object x) u e (server_rows x s) refl)
      by false is = each_ends u e s.objects ∙ ends_none u e (server_rows x s) someone (holds_here u s is)

  pub one_end : (u : Uid) (e : End) (s : Server) → uid_eq nobody u ≡ false →
      ServerTable h n x s (end_one n u e s).outs (end_one n u e s).part
  one_end u e s someone = by (is_told u s)
    where
      by : (b : Bool) →
          ServerTable h n x s (if b then (record {
            part = s;
            outs =
                [];
          }) else end_new n u (taken_end u e s) s).outs (if b then (record {
            part =
                s;
            outs = [];
          }) else end_new n u (taken_end u e s) s).part
      by true = refl
      by false = new_end u (taken_end u e s) s someone

  -- two calls in a row
  both_table : (s t v : Server) (es fs : List Effect) → ServerTable h n x s es t → ServerTable h n x t fs v →
      ServerTable h n x s (es ++ fs) v
  both_table s t v es fs a b =
      b ∙ ap (rows_after h n part.Server (object x) fs) a ∙ sym (after_both h n part.Server (object x) es fs (server_rows x s))

  pub ends_table : (es : List (Uid × End)) (s : Server) → AreOfActions es →
      ServerTable h n x s (apply_ends n es s).outs (apply_ends n es s).part
  ends_table [] s someone = refl
  ends_table (e ∷ es) s someone =
      let d = end_one n e.0 e.1 s in
      let t = apply_ends n es d.part in
      both_table s d.part t.part d.outs t.outs (one_end e.0 e.1 s someone.0) (ends_table es d.part someone.1)

  -- ---- activate

  took_table : (y : ℕ) (b : Binding) (st : ObjectState) (s : Server) →
      ServerTable h n x s (took_copy n y b st s).outs (took_copy n y b st s).part
  took_table y b st s = ⊎_elim {C = ServerTable h n x s (took_copy n y b st s).outs (took_copy n y b st s).part} one two (one_or_two y x)
    where
      one : y ≡ x → ServerTable h n x s (took_copy n y b st s).outs (took_copy n y b st s).part
      one is =
          let here : at_number x (put_number y (taken_copy b st) s.objects) ≡ Some (taken_copy b st) =
          subst (λ k. at_number k (put_number y (taken_copy b st) s.objects) ≡ Some (taken_copy b st)) is (put_same y (taken_copy b st) s.objects) in
          let own : (y == x) ≡ true = subst (λ k. (y == k) ≡ true) is (same_number y) in
          ap rows_in_copy here ∙ rw (same_number n, own) refl

      two : (is_eq (nat_cmp x y) ≡ false) × ((y == x) ≡ false) → ServerTable h n x s (took_copy n y b st s).outs (took_copy n y b st s).part
      two apart = ap rows_in_copy (put_other y x (taken_copy b st) s.objects apart.0) ∙ rw (same_number n, apart.1) refl

  pub activate_table : (p : Path) (b : Binding) (st : ObjectState) (s : Server) →
      ServerTable h n x s (activate n p b st s).outs (activate n p b st s).part
  activate_table p b st s = by (has_ended p s || binding_less b (active_binding st.uid.num s)) (binding_eq b (active_binding st.uid.num s))
    where
      by : (v e : Bool) →
          ServerTable h n x s (if v then void s else (if e then reply s s.inc else took_copy n st.uid.num b st s)).outs (if v then void s else (if e then reply s s.inc else took_copy n st.uid.num b st s)).part
      by true e = refl
      by false true = refl
      by false false = took_table st.uid.num b st s

  -- ---- invoke

  -- the operation on object y in its lock, put back
  ran_table : (p : Path) (y : ℕ) (op : Op) (s : Server) (c : Copy) → at_number y s.objects ≡ Some c →
      IsPathOf h (actor p) (uids_of p) (tops_of p)
      → ServerTable h n x s (run_copy n p y op c).outs (record s { objects = put_number y (run_copy n p y op c).part s.objects })
  ran_table p y op s c found is =
      ⊎_elim {C = ServerTable h n x s (run_copy n p y op c).outs (record s {
        objects =
            put_number y (run_copy n p y op c).part s.objects;
      })} one two (one_or_two y x)
    where
      one : y ≡ x →
          ServerTable h n x s (run_copy n p y op c).outs (record s { objects = put_number y (run_copy n p y op c).part s.objects })
      one same = subst (λ k. server_rows k (record s {
        objects =
            put_number y (run_copy n p y op c).part s.objects;
      }) ≡ rows_after h n part.Server (object k) (run_copy n p y op c).outs (server_rows k s)) same here
        where
          here : server_rows y (record s {
            objects =
                put_number y (run_copy n p y op c).part s.objects;
          }) ≡ rows_after h n part.Server (object y) (run_copy n p y op c).outs (server_rows y s)
          here =
              ap rows_in_copy (put_same y (run_copy n p y op c).part s.objects)
              ∙ sym (asked_after h n part.Server (object y) (uids_of p) (tops_of p) (op_mode op) c.rows is)
              ∙ ap (λ o. rows_after h n part.Server (object y) (run_copy n p y op c).outs (rows_in_copy o)) (sym found)

      two : (is_eq (nat_cmp x y) ≡ false) × ((y == x) ≡ false) →
          ServerTable h n x s (run_copy n p y op c).outs (record s { objects = put_number y (run_copy n p y op c).part s.objects })
      two apart =
          ap rows_in_copy (put_other y x (run_copy n p y op c).part s.objects apart.0)
          ∙ sym (asked_elsewhere h n part.Server (object y) (object x) (uids_of p) (tops_of p) (op_mode op) c.rows (server_rows x s) apart.1)

  -- putting back what was there leaves all rows
  put_back : (y : ℕ) (s : Server) (c : Copy) → at_number y s.objects ≡ Some c →
      server_rows x (record s { objects = put_number y c s.objects }) ≡ server_rows x s
  put_back y s c found =
      ⊎_elim {C = server_rows x (record s { objects = put_number y c s.objects }) ≡ server_rows x s} one two (one_or_two y x)
    where
      one : y ≡ x → server_rows x (record s { objects = put_number y c s.objects }) ≡ server_rows x s
      one same = subst (λ k. server_rows k (record s {
        objects =
            put_number y c s.objects;
      }) ≡ server_rows k s) same (ap rows_in_copy (put_same y c s.objects) ∙ ap rows_in_copy (sym found))

      two : (is_eq (nat_cmp x y) ≡ false) × ((y == x) ≡ false) →
          server_rows x (record s { objects = put_number y c s.objects }) ≡ server_rows x s
      two apart = ap rows_in_copy (put_other y x c s.objects apart.0)

  asked_table : (p : Path) (y : ℕ) (op : Op) (s : Server) (c : Copy) (r : Option Row) → at_number y s.objects ≡ Some c →
      IsPathOf h (actor p) (uids_of p) (tops_of p)
      → ServerTable h n x s (ask_copy n p y op c r).outs (record s { objects = put_number y (ask_copy n p y op c r).part s.objects })
  asked_table p y op s c (Some r) found is = put_back y s c found
  asked_table p y op s c None found is = ran_table p y op s c found is

  kept_rows : (act : Uid) (req : ℕ) (a : Option InvokedReply) (s : Server) → server_rows x (keeps act req a s) ≡ server_rows x s
  kept_rows act req None s = refl
  kept_rows act req (Some a) s = refl

  on_table : (hd : Head) (y : ℕ) (op : Op) (s : Server) (o : Option Copy) → at_number y s.objects ≡ o →
      IsPathOf h (actor hd.path) (uids_of hd.path) (tops_of hd.path)
      → ServerTable h n x s (kept_after hd (on_copy y (invoke_copy n hd.path y op) s o)).outs (kept_after hd (on_copy y (invoke_copy n hd.path y op) s o)).part
  on_table hd y op s None found is = refl
  on_table hd y op s (Some c) found is =
      let r = invoke_copy n hd.path y op c in
      kept_rows (actor hd.path) hd.req r.reply (record s { objects = put_number y r.part s.objects })
      ∙ asked_table hd.path y op s c (first_conflict (uids_of hd.path) (object y) (op_mode op) c.rows) found is

  new_table : (hd : Head) (y : ℕ) (ends : List (Uid × End)) (op : Op) (s : Server) →
      IsPathOf h (actor hd.path) (uids_of hd.path) (tops_of hd.path) → AreOfActions ends
      → ServerTable h n x s (invoke_new n hd y ends op s).outs (invoke_new n hd y ends op s).part
  new_table hd y ends op s is someone =
      let d = apply_ends n ends s in
      let t = d.part in
      let r = kept_after hd (on_copy y (invoke_copy n hd.path y op) t (at_number y t.objects)) in
      both_table s t r.part d.outs r.outs (ends_table ends s someone) (on_table hd y op t (at_number y t.objects) refl is)

  kept_table : (hd : Head) (y : ℕ) (ends : List (Uid × End)) (op : Op) (s : Server) (k : Option Kept) →
      IsPathOf h (actor hd.path) (uids_of hd.path) (tops_of hd.path) → AreOfActions ends
      → ServerTable h n x s (invoke_kept n hd y ends op s k).outs (invoke_kept n hd y ends op s k).part
  kept_table hd y ends op s None is someone = new_table hd y ends op s is someone
  kept_table hd y ends op s (Some k) is someone = by (k.req == hd.req)
    where
      by : (b : Bool) →
          ServerTable h n x s (if b then reply s k.answer else invoke_new n hd y ends op s).outs (if b then reply s k.answer else invoke_new n hd y ends op s).part
      by true = refl
      by false = new_table hd y ends op s is someone

  now_table : (hd : Head) (y : ℕ) (ends : List (Uid × End)) (op : Op) (s : Server) (w : Option What) →
      IsPathOf h (actor hd.path) (uids_of hd.path) (tops_of hd.path) → AreOfActions ends
      → ServerTable h n x s (invoke_now n hd y ends op s w).outs (invoke_now n hd y ends op s w).part
  now_table hd y ends op s (Some w) is someone = refl
  now_table hd y ends op s None is someone = kept_table hd y ends op s (at_uid (actor hd.path) s.kept) is someone

  pub invoke_table : (hd : Head) (y : ℕ) (b : Binding) (i : ℕ) (ends : List (Uid × End)) (op : Op) (s : Server) →
      IsPathOf h (actor hd.path) (uids_of hd.path) (tops_of hd.path) → AreOfActions ends
      → ServerTable h n x s (invoke n hd y b i ends op s).outs (invoke n hd y b i ends op s).part
  invoke_table hd y b i ends op s is someone = by (has_ended hd.path s || is_below hd.req (at_uid (actor hd.path) s.kept))
    where
      by : (v : Bool) →
          ServerTable h n x s (if v then void s else invoke_now n hd y ends op s (changed_by i y b s)).outs (if v then void s else invoke_now n hd y ends op s (changed_by i y b s)).part
      by true = refl
      by false = now_table hd y ends op s (changed_by i y b s) is someone

  -- ---- vote

  vote_now_table : (top : Uid) (ends : List (Uid × End)) (s : Server) (w : Option What) → AreOfActions ends →
      ServerTable h n x s (vote_now n top ends s w).outs (vote_now n top ends s w).part
  vote_now_table top ends s (Some w) someone = refl
  vote_now_table top ends s None someone = ends_table ends s someone

  pub vote_table : (p : Path) (i : ℕ) (ties : List (ℕ × Binding)) (ends : List (Uid × End)) (s : Server) → AreOfActions ends →
      ServerTable h n x s (vote n p i ties ends s).outs (vote n p i ties ends s).part
  vote_table p i ties ends s someone = by (has_ended p s)
    where
      by : (v : Bool) →
          ServerTable h n x s (if v then void s else vote_now n (actor p) ends s (either (other_inc i s.inc) (first_unbound ties s))).outs (if v then void s else vote_now n (actor p) ends s (either (other_inc i s.inc) (first_unbound ties s))).part
      by true = refl
      by false = vote_now_table (actor p) ends s (either (other_inc i s.inc) (first_unbound ties s)) someone
