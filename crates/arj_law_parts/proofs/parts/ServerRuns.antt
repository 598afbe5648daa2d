-- A server's bindings, ends and requests under each call.
use Rattle.arj_law_parts.proofs.Words
use Words.{◌≡◌, ◌≢◌, ◌≤◌, ◌==◌, ℕ, List, [], ◌∷◌, Bool, true, false, cond, ◌||◌, nat_lt, Option, Some, None, refl, sym, ◌∙◌, ap, subst, inl}
use Words.{inr, ⊎_elim, arith, is_some, uid_cases, Uid, Binding, Path, Head, End, Op, ObjectState, Row, What, InvokedReply, VotedReply}
use Words.{uids_of, first_conflict, object, op_mode, actor, Copy, taken_copy, end_copy, overs_committed, over_of, is_top_over, Over}
use Words.{settled, folded, ask_copy, invoke_copy, Served, Did, either, reply, void, did_nothing, at_number, put_number, each, at_uid}
use Words.{put_uid, binding_number, binding_less, binding_eq, Server, Kept, is_told, has_ended, binding_of, active_binding, took_copy}
use Words.{activate, other_inc, changed_by, end_new, end_one, apply_ends, told, keeps, on_copy, invoke_new, invoke_kept, invoke_now}
use Words.{is_below, invoke, first_unbound, vote_now, vote, put_same as put_number_same, put_other as put_number_other, one_or_two}
use Words.ending
use Rattle.arj_law_parts.proofs.Terms.{taken_end, Follows}
use Rattle.arj_law_parts.proofs.parts.{Keys.put_same, Keys.put_other, Keys.without_other, Pairs.at_each, Pairs.each_at}
use Rattle.arj_law_parts.specs.parts.Servers.{HasRun}

never : {P : Type 0} (b : Bool) → b ≡ true → b ≡ false → P
never b holds fails = let no_way : true ≡ false = sym holds ∙ fails in cc

not_less : (b : Binding) → binding_less b b ≡ false
not_less b = number (binding_number b)
  where
    number : (n : ℕ) → nat_lt n n ≡ false
    number n = grind arith

itself : (s : Server) → Follows s s
itself s = record { same = refl; bindings = λ x. not_less (active_binding x s); ends = λ u e is. is; run = λ u req h. h }

both : (s t v : Server) → Follows s t → Follows t v → Follows s v
both s t v a b = record {
  same = b.same ∙ a.same;
  bindings = λ x. number (binding_number (active_binding x s)) (binding_number (active_binding x t)) (binding_number (active_binding x v))
      (a.bindings x) (b.bindings x);
  ends = λ u e is. b.ends u e (a.ends u e is);
  run = λ u req h. b.run u req (a.run u req h);
}
  where
    number : (i j k : ℕ) → nat_lt j i ≡ false → nat_lt k j ≡ false → nat_lt k i ≡ false
    number i j k p q = grind (arith, p, q)

-- an object put back: its binding doesn't fall
put_follows : (s : Server) (x : ℕ) (c : Copy) → binding_less c.binding (active_binding x s) ≡ false →
    Follows s (record s { objects = put_number x c s.objects })
put_follows s x c up = record {
  same = refl;
  bindings = λ y. ⊎_elim (λ same. subst (λ j. binding_less (binding_of (at_number j (put_number x c s.objects))) (active_binding j s)
      ≡ false) same ((λ i. binding_less (binding_of (put_number_same x c s.objects i)) (active_binding x s)) ∙ up))
      (λ apart. (λ i. binding_less (binding_of (put_number_other x y c s.objects apart.0 i)) (active_binding y s))
      ∙ not_less (active_binding y s)) (one_or_two x y);
  ends = λ u e is. is;
  run = λ u req h. h;
}

-- ---- activate

pub activate_follows : (n : ℕ) (p : Path) (b : Binding) (st : ObjectState) (s : Server) → Follows s (activate n p b st s).part
activate_follows n p b st s =
    by (has_ended p s) (binding_less b (active_binding st.uid.num s)) (binding_eq b (active_binding st.uid.num s)) refl
  where
    by : (over lower equal : Bool) → binding_less b (active_binding st.uid.num s) ≡ lower →
        Follows s (cond {A = Served Server ℕ} (over || lower) (void s) (cond equal (reply s s.inc) (took_copy n st.uid.num b st s))).part
    by true lower equal is = itself s
    by false true equal is = itself s
    by false false true is = itself s
    by false false false is = put_follows s st.uid.num (taken_copy b st) is

-- ---- ends

pub end_binding : (u : Uid) (e : End) (c : Copy) → (end_copy u e c).binding ≡ c.binding
end_binding u ending.Abort c = refl
end_binding u ending.Commit c = by (over_of u c.stack)
  where
    by : (o : Option Over) → (overs_committed u o c).binding ≡ c.binding
    by None = refl
    by (Some o) = top (is_top_over o)
      where
        top : (b : Bool) → (cond b (settled u o c) (record c { stack = folded u c.stack })).binding ≡ c.binding
        top true = refl
        top false = refl

new_follows : (n : ℕ) (u : Uid) (e : End) (s : Server) → is_told u s ≡ false → Follows s (end_new n u e s).part
new_follows n u e s fresh = record {
  same = refl;
  bindings = λ x. (λ i. binding_less (bindings x i) (active_binding x s)) ∙ not_less (active_binding x s);
  ends = λ w f is. put_other w u e s.ends (other w f is) ∙ is;
  run = λ w req h. ⊎_elim (λ over. inl (is_told_after w over)) (λ k. ⊎_elim (λ same. inl (ap (λ o. is_some (at_uid o (put_uid u e s.ends)))
      same ∙ ap is_some (put_same u e s.ends))) (λ apart. inr (k.0, without_other w u s.kept apart ∙ k.1, k.2)) (uid_cases w u)) h;
}
  where
    bindings : (x : ℕ) → binding_of (at_number x (each (λ y. end_copy u e) s.objects)) ≡ active_binding x s
    bindings x = by (at_number x s.objects) refl (at_number x (each (λ y. end_copy u e) s.objects)) refl
      where
        by : (o : Option Copy) → at_number x s.objects ≡ o → (q : Option Copy) → at_number x (each (λ y. end_copy u e) s.objects) ≡ q →
            binding_of (at_number x (each (λ y. end_copy u e) s.objects)) ≡ binding_of (at_number x s.objects)
        by None is None was = ap binding_of was ∙ sym (ap binding_of is)
        by None is (Some c) was = let f = at_each (λ y. end_copy u e) x s.objects c was in
            let no_way : ◌≡◌ {A = Option Copy} None (Some f.0) = sym is ∙ f.1 in cc
        by (Some c) is q was = ap binding_of (each_at (λ y. end_copy u e) x s.objects c is) ∙ end_binding u e c ∙ sym (ap binding_of is)

    other : (w : Uid) (f : End) → at_uid w s.ends ≡ Some f → w ≢ u
    other w f is same = never (is_told u s) (ap (λ o. is_some (at_uid o s.ends)) (sym same) ∙ ap is_some is) fresh

    is_told_after : (w : Uid) → is_told w s ≡ true → is_some (at_uid w (put_uid u e s.ends)) ≡ true
    is_told_after w over = ap is_some
        (put_other w u e s.ends (λ same. never (is_told u s) (ap (λ o. is_some (at_uid o s.ends)) (sym same) ∙ over) fresh)) ∙ over

pub one_follows : (n : ℕ) (u : Uid) (e : End) (s : Server) → Follows s (end_one n u e s).part
one_follows n u e s = by (is_told u s) refl
  where
    by : (b : Bool) → is_told u s ≡ b → Follows s (cond {A = Did Server} b (did_nothing s) (end_new n u (taken_end u e s) s)).part
    by true is = itself s
    by false is = new_follows n u (taken_end u e s) s is

pub told_follows : (n : ℕ) (es : List (Uid × End)) (s : Server) → Follows s (told n es s).part
told_follows n [] s = itself s
told_follows n (e ∷ es) s = let d = end_one n e.0 e.1 s in let t = apply_ends n es d.part in
    both s d.part t.part (one_follows n e.0 e.1 s) (told_follows n es d.part)

-- ---- invoke

pub ask_binding : (n : ℕ) (p : Path) (x : ℕ) (op : Op) (c : Copy) → (invoke_copy n p x op c).part.binding ≡ c.binding
ask_binding n p x op c = by (first_conflict (uids_of p) (object x) (op_mode op) c.rows)
  where
    by : (r : Option Row) → (ask_copy n p x op c r).part.binding ≡ c.binding
    by None = refl
    by (Some r) = refl

copy_follows : (n : ℕ) (h : Head) (x : ℕ) (op : Op) (s : Server) (o : Option Copy) → at_number x s.objects ≡ o →
    Follows s (on_copy x (invoke_copy n h.path x op) s o).part
copy_follows n h x op s None found = itself s
copy_follows n h x op s (Some c) found = put_follows s x (invoke_copy n h.path x op c).part
    ((λ i. binding_less (ask_binding n h.path x op c i) (binding_of (found i))) ∙ not_less c.binding)

-- the answer is kept: the request isn't below the last one
keep_follows : (act : Uid) (req : ℕ) (a : Option InvokedReply) (first s : Server) → is_below req (at_uid act first.kept) ≡ false →
    Follows first s → Follows first (keeps act req a s)
keep_follows act req None first s above f = f
keep_follows act req (Some a) first s above f = record {
  same = f.same;
  bindings = f.bindings;
  ends = f.ends;
  run = λ u r h. ⊎_elim (λ same. own u r same h) (λ other. ⊎_elim (λ over. inl over)
      (λ k. inr (k.0, put_other u act (record { req = req; answer = a }) s.kept other ∙ k.1, k.2)) (f.run u r h)) (uid_cases u act);
}
  where
    number : (i j : ℕ) → nat_lt i j ≡ false → j ≤ i
    number i j p = grind (arith, p)

    own : (u : Uid) (r : ℕ) → u ≡ act → HasRun u r first → HasRun u r (keeps act req (Some a) s)
    own u r same (inl over) = inl (stays (at_uid u first.ends) refl over)
      where
        stays : (o : Option End) → at_uid u first.ends ≡ o → is_some (at_uid u first.ends) ≡ true → is_some (at_uid u s.ends) ≡ true
        stays None is e = never (is_some (at_uid u first.ends)) e (ap is_some is)
        stays (Some e) is was = ap is_some (f.ends u e is)
    own u r same (inr k) = inr (
      record { req = req; answer = a },
      ap (λ w. at_uid w (put_uid act (record { req = req; answer = a }) s.kept)) same
          ∙ put_same act (record { req = req; answer = a }) s.kept,
      omega (arith, k.2, number req k.0.req ((λ i. is_below req (sym (ap (λ w. at_uid w first.kept) (sym same) ∙ k.1) i)) ∙ above)),
    )

new_invoked : (n : ℕ) (h : Head) (x : ℕ) (ends : List (Uid × End)) (op : Op) (s : Server) →
    is_below h.req (at_uid (actor h.path) s.kept) ≡ false → Follows s (invoke_new n h x ends op s).part
new_invoked n h x ends op s above =
    let d = apply_ends n ends s in
    let t = d.part in
    let r = on_copy x (invoke_copy n h.path x op) t (at_number x t.objects) in
    keep_follows (actor h.path) h.req r.reply s r.part above
    (both s t r.part (told_follows n ends s) (copy_follows n h x op t (at_number x t.objects) refl))

kept_invoked : (n : ℕ) (h : Head) (x : ℕ) (ends : List (Uid × End)) (op : Op) (s : Server) →
    is_below h.req (at_uid (actor h.path) s.kept) ≡ false → (o : Option Kept) → Follows s (invoke_kept n h x ends op s o).part
kept_invoked n h x ends op s above None = new_invoked n h x ends op s above
kept_invoked n h x ends op s above (Some k) = by (k.req == h.req)
  where
    by : (b : Bool) → Follows s (cond {A = Served Server InvokedReply} b (reply s k.answer) (invoke_new n h x ends op s)).part
    by true = itself s
    by false = new_invoked n h x ends op s above

now_invoked : (n : ℕ) (h : Head) (x : ℕ) (ends : List (Uid × End)) (op : Op) (s : Server) →
    is_below h.req (at_uid (actor h.path) s.kept) ≡ false → (w : Option What) → Follows s (invoke_now n h x ends op s w).part
now_invoked n h x ends op s above (Some w) = itself s
now_invoked n h x ends op s above None = kept_invoked n h x ends op s above (at_uid (actor h.path) s.kept)

pub invoke_follows : (n : ℕ) (h : Head) (x : ℕ) (b : Binding) (i : ℕ) (ends : List (Uid × End)) (op : Op) (s : Server) →
    Follows s (invoke n h x b i ends op s).part
invoke_follows n h x b i ends op s = by (has_ended h.path s) (is_below h.req (at_uid (actor h.path) s.kept)) refl
  where
    by : (over below : Bool) → is_below h.req (at_uid (actor h.path) s.kept) ≡ below →
        Follows s (cond {A = Served Server InvokedReply} (over || below) (void s) (invoke_now n h x ends op s (changed_by i x b s))).part
    by true below is = itself s
    by false true is = itself s
    by false false is = now_invoked n h x ends op s is (changed_by i x b s)

-- ---- vote

pub vote_follows : (n : ℕ) (p : Path) (i : ℕ) (ties : List (ℕ × Binding)) (ends : List (Uid × End)) (s : Server) →
    Follows s (vote n p i ties ends s).part
vote_follows n p i ties ends s = by (has_ended p s)
  where
    yes : (w : Option What) → Follows s (vote_now n (actor p) ends s w).part
    yes (Some w) = itself s
    yes None = let d = apply_ends n ends s in let f = told_follows n ends s in
        record { same = f.same; bindings = f.bindings; ends = f.ends; run = f.run }

    by : (b : Bool) → Follows s (cond {A = Served Server VotedReply} b (void s)
        (vote_now n (actor p) ends s (either (other_inc i s.inc) (first_unbound ties s)))).part
    by true = itself s
    by false = yes (either (other_inc i s.inc) (first_unbound ties s))
