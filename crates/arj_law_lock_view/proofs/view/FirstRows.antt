-- The paths of an object's locks, whatever naming does with it, and who is first on them.
use Rattle.arj_law_parts.proofs.Words
use Words.{◌≡◌, ◌≢◌, ◌⊎◌, ◌∙◌, ℕ, List, [], ◌∷◌, Bool, true, false, cond, find, map, not, Option, Some, None, refl, sym, ap, subst, inl}
use Words.{inr, ⊎_elim, Contains, strengthened, uid_is, uid_isnt, uid_same, option_map, or_cases, or_left, or_parts, or_right, CameBy}
use Words.{passed_on, stayed, grant_each, In, in_filter, in_from, in_map, in_to, came_by, Uid, Binding, BoundReply, End, Entry, Mode}
use Words.{ObjectState, Path, RecordedReply, Row, before_last, drop_rows, entry, front, grant_row, is_on, is_row_of, last_uid, lower_row}
use Words.{pass_rows, uid_eq, top_of, top_path, pending_of, rows_back, is_granted, rows_asked, Served, either, reply, void, Counted, Live}
use Words.{Made, Named, bind_call, bind_made, bind_named, conflict_on, end_named, entry_row, include_asked, in_use, is_lowered}
use Words.{live_above, live_asked, locked, made_above, make_asked, note_made, note_named, note_other, at_uid, binding_eq, drop_uid}
use Words.{is_binding}
use Words.ending
use Words.mode
use Words.recorded
use Rattle.arj_law_lock_view.proofs.Terms
use Terms.{Act, Root, Sub, at_act, is_top, on, same, act_other, on_self, on_up, same_is, IsHolder, Owners, drop_on, Acts, AreOne, IsAlong}
use Terms.{HaveFirsts, StandsFirst}
use Rattle.std.proofs.lemmas.Bool.{not-true}

-- ---- what holds of the paths of all locks

module _ (P : List Uid → Type 0) where
  abbrev Have : List Row → Type 0
  Have rows = (r : Row) → Contains rows r → P r.holder

  have_asked : (new : Row) (rows : List Row) → P new.holder → Have rows → Have (rows_asked new rows)
  have_asked new rows its have r k = by (is_granted new.object (last_uid new.holder) new.mode rows) (in_from r (rows_asked new rows) k)
    where
      by : (b : Bool) → In r (cond b rows (grant_row new rows)) → P r.holder
      by true i = have r (in_to r rows i)
      by false i = ⊎_elim (λ old. have r (in_to r rows old)) (λ q. ⊎_elim (λ same. subst (λ (w : Row). P w.holder) (sym same) its)
          (λ f. subst P (sym (ap (λ (w : Row). w.holder) f.3)) (have f.0 (in_to f.0 rows f.1))) q) (grant_each new r rows i)

  pub have_lower : (top object : Uid) (rows : List Row) → Have rows → Have (lower_row top object rows)
  have_lower top object rows have r k =
      let f = in_map (λ row. cond (is_row_of object top row) (record row { mode = mode.Read }) row) r rows
      (in_from r (lower_row top object rows) k) in
      subst (λ (w : Row). P w.holder) f.2 (by f.0 (is_row_of object top f.0) (have f.0 (in_to f.0 rows f.1)))
    where
      by : (row : Row) (b : Bool) → P row.holder → P (cond b (record row { mode = mode.Read }) row).holder
      by row true its = its
      by row false its = its

  -- ---- a request

  module _ (p : Path) (its : P (top_path p)) where
    pub have_locked : (x : ℕ) (m : Mode) (o : Named) → Have o.rows → Have (let w = locked x p m o in w.rows)
    have_locked x m o have = have_asked (entry_row x p m) o.rows its have

    abbrev Bound : Served Counted BoundReply → Type 0
    Bound r = Have (let c = r.part in let o = c.named in o.rows)

    module _ (inc x : ℕ) (e : Entry) (c : Counted) (have : Have (let o = c.named in o.rows)) where
      have_live : (l : Live) (r : Option Row) → Bound (live_asked inc x p e c l r)
      have_live l (Some r) = have
      have_live l None = have_locked x mode.Read c.named have

      have_made : (m : Option Made) → Bound (bind_made inc x p e c m)
      have_made (Some m) = have_locked x mode.Write c.named have
      have_made None = have_locked x mode.Write c.named have

      have_make : (avoid : Binding) (r : Option Row) → Bound (make_asked inc x p avoid e c r)
      have_make avoid (Some r) = have
      have_make avoid None = have_made (made_above avoid (at_uid (top_of p) c.named.made))

      have_call : (avoid : Binding) (l : Option Live) → Bound (bind_call inc x p avoid e c l)
      have_call avoid (Some l) = have_live l (conflict_on x p mode.Read c.named)
      have_call avoid None = have_make avoid (conflict_on x p mode.Write c.named)

      have_include : (r : Option Row) → Bound (include_asked inc x p e c r)
      have_include (Some r) = have
      have_include None = have_locked x mode.Write c.named have

      pub have_bound : (include : Bool) (avoid : Binding) → Bound (bind_named inc x p include avoid e c)
      have_bound true avoid = have_include (conflict_on x p mode.Write c.named)
      have_bound false avoid = have_call avoid (live_above avoid c.named.live)

  -- ---- a Record

  abbrev Noted : Served Named RecordedReply → Type 0
  Noted r = Have (let o = r.part in o.rows)

  pub have_noted : (x : ℕ) (top : Uid) (b : Binding) (i : ℕ) (o : Named) → Have o.rows → Noted (note_named x top b i o)
  have_noted x top b i o have = by (is_binding b o.recorded)
    where
      lower : (w : Named) → Have w.rows → (z : Bool) →
          Have (let q = cond z (record w { rows = lower_row top (entry x) w.rows }) w in q.rows)
      lower w its true = have_lower top (entry x) w.rows its
      lower w its false = its

      one : (m : Made) (z : Bool) → Noted (note_made x top i o (record m { recorded = z }))
      one m true = have
      one m false = lower (in_use top m i o) have (is_lowered x top (in_use top m i o))

      other : (m : Option Made) → Noted (note_other x top b i o m)
      other None = have
      other (Some m) = same (binding_eq b m.binding)
        where
          same : (z : Bool) → Noted (cond {A = Served Named RecordedReply} z (note_made x top i o m) (void o))
          same true = one m m.recorded
          same false = have

      by : (z : Bool) → Noted (cond {A = Served Named RecordedReply} z (reply o recorded.Yes) (note_other x top b i o (at_uid top o.made)))
      by true = have
      by false = other (at_uid top o.made)

-- ---- an end

module _ (P Q : List Uid → Type 0) (u : Uid) where
  pub have_ended : ((us : List Uid) → P us → last_uid us ≢ u → Q us) → ((us : List Uid) (heir : Uid) → P us → before_last us ≡ Some heir →
      Q (front us)) → ((us : List Uid) → is_on us u ≡ false → P us → Q us)
      → (e : End) (o : Named) → Have P o.rows → Have Q (let w = end_named u e o in w.rows)
  have_ended others passes off ending.Abort o have r k =
      let f = in_filter (λ row. not (is_on row.holder u)) r o.rows (in_from r (drop_rows u o.rows) k) in
      off r.holder (not-true (is_on r.holder u) f.1) (have r (in_to r o.rows f.0))
  have_ended others passes off ending.Commit o have r k = by (came_by u o.rows r (in_from r (pass_rows u o.rows) k))
    where
      strong : (row : Row) (q : Option Row) → (strengthened row q).holder ≡ row.holder
      strong row None = refl
      strong row (Some s) = refl

      by : CameBy u o.rows r → Q r.holder
      by (stayed old there other is) = subst Q (sym (ap (λ (w : Row). w.holder) is ∙ strong old _))
          (others old.holder (have old there) (uid_isnt (last_uid old.holder) u other))
      by (passed_on old there own heir parent free is) =
          subst (λ (w : Row). Q w.holder) (sym is) (passes old.holder heir (have old there) parent)

-- ---- who is first

-- on a path of one
pub on_one : (u w : Uid) → is_on (u ∷ []) w ≡ true → u ≡ w
on_one u w h =
    ⊎_elim (λ same. uid_is u w same) (λ none. absurd (let no_way : false ≡ true = none in cc no_way)) (or_cases (uid_eq u w) false h)

one_on : (u w : Uid) → u ≡ w → is_on (u ∷ []) w ≡ true
one_on u w same = or_left (uid_eq u w) false (ap (uid_eq u) (sym same) ∙ uid_same u)

-- who stands above a top has nobody above, or is the top
above_top : (a b c : Act) → is_top a ≡ true → on a b ≡ true → on b c ≡ true → (b ≡ a) ⊎ (b ≡ c)
above_top (Root k) b c is over more = absurd (cc is)
above_top (Sub (Sub a m) n) b c is over more = absurd (cc is)
above_top (Sub (Root k) n) b c is over more = ⊎_elim (λ own. inl own) (λ up. (let root_is : Root k ≡ b = same_is (Root k) b up in
    inr (sym root_is ∙ same_is (Root k) c (subst (λ (z : Act). on z c ≡ true) (sym root_is) more)))) (on_up (Root k) n b over)

module _ (act : Acts) (one : AreOne act) where
  -- of a top behind its owner
  owner_alone : (s u : Uid) → uid_eq s u ≡ false → is_top (act u) ≡ true → IsAlong act (s ∷ u ∷ []) → IsAlong act (s ∷ [])
  owner_alone s u apart top along = record {
    above = λ w h. subst (λ (z : Uid). on (act s) (act z) ≡ true) (on_one s w h) (on_self (act s));
    alone = λ w h. ⊎_elim (λ own. absurd (uid_isnt s u apart (one s u own))) (λ up. one_on s w (one s w up))
        (above_top (act u) (act s) (act w) top (along.above s (or_left (uid_eq s s) (is_on (u ∷ []) s) (uid_same s))) h);
  }

  -- the path of a request
  pub first_of : (owner : Owners) (us confirmed : List Uid) (seen : Act → Bool) → IsHolder owner us → IsAlong act us →
      is_top (act (last_uid us)) ≡ true → StandsFirst act confirmed seen us
  first_of owner us confirmed seen (inl is) along top = subst (StandsFirst act confirmed seen) (sym is) (inl (subst (IsAlong act) is along))
  first_of owner us confirmed seen (inr (is, apart)) along top = subst (StandsFirst act confirmed seen) (sym is)
      (inl (owner_alone (owner (last_uid us)) (last_uid us) apart top (subst (IsAlong act) is along)))

  -- of a top that wasn't confirmed yet no lock was given back
  pub first_confirmed : (top : Uid) (before after : List Uid) (seen : Act → Bool) (us : List Uid) → is_on before top ≡ false → ((u : Uid) →
      is_on before u ≡ true → is_on after u ≡ true) → StandsFirst act before seen us → StandsFirst act after (at_act seen (act top) true) us
  first_confirmed top before after seen [] new more its = tt
  first_confirmed top before after seen (u ∷ us) new more (inl alone) = inl alone
  first_confirmed top before after seen (u ∷ us) new more (inr (none, on_it, off)) =
      inr (none, more u on_it, act_other seen (act top) true (act u) (differs (same (act u) (act top)) refl) ∙ off)
    where
      differs : (b : Bool) → same (act u) (act top) ≡ b → b ≡ false
      differs false is = refl
      differs true is =
          absurd (let is_it : u ≡ top = one u top (same_is (act u) (act top) is) in cc (sym on_it ∙ ap (is_on before) is_it ∙ new))

-- more are confirmed
pub first_more : (act : Acts) (before after : List Uid) (seen : Act → Bool) (us : List Uid) →
    ((u : Uid) → is_on before u ≡ true → is_on after u ≡ true) → StandsFirst act before seen us → StandsFirst act after seen us
first_more act before after seen [] more its = tt
first_more act before after seen (u ∷ us) more (inl alone) = inl alone
first_more act before after seen (u ∷ us) more (inr (none, on_it, off)) = inr (none, more u on_it, off)

-- ---- at an end

module _ (act : Acts) (confirmed : List Uid) (seen : Act → Bool) (u : Uid) where
  abbrev Before : List Uid → Type 0
  Before = StandsFirst act confirmed seen

  abbrev After : List Uid → Type 0
  After = StandsFirst act (drop_uid u confirmed) seen

  first_other : (us : List Uid) → Before us → last_uid us ≢ u → After us
  first_other [] its other = tt
  first_other (w ∷ us) (inl alone) other = inl alone
  first_other (w ∷ us) (inr (none, on_it, off)) other =
      inr (none, drop_on w u confirmed (λ same. other (ap (λ (k : List Uid). last_uid (w ∷ k)) none ∙ same)) on_it, off)

  first_off : (us : List Uid) → is_on us u ≡ false → Before us → After us
  first_off [] away its = tt
  first_off (w ∷ us) away (inl alone) = inl alone
  first_off (w ∷ us) away (inr (none, on_it, off)) =
      inr (none, drop_on w u confirmed (uid_isnt w u (or_parts (uid_eq w u) (is_on us u) away).0) on_it, off)

  first_passed : (us : List Uid) (heir : Uid) → Before us → before_last us ≡ Some heir → After (front us)
  first_passed [] heir its parent = tt
  first_passed (w ∷ []) heir its parent = tt
  first_passed (w ∷ v ∷ us) heir (inl alone) parent = inl alone
  first_passed (w ∷ v ∷ us) heir (inr (none, on_it, off)) parent = absurd (cc none)

  pub firsts_ended : (e : End) (o : Named) → HaveFirsts act confirmed seen o.rows →
      HaveFirsts act (drop_uid u confirmed) seen (let w = end_named u e o in w.rows)
  firsts_ended = have_ended Before After u first_other first_passed first_off

-- ---- at a restart

-- who is found prepared is among those who have something prepared
pending_on : (w : Uid) (pend : List (Uid × List ObjectState)) (f : Uid × ObjectState) → pending_of w pend ≡ Some f →
    is_on (map (λ (p : Uid × List ObjectState). p.0) pend) f.0 ≡ true
pending_on w [] f h = absurd (cc h)
pending_on w (p ∷ ps) f h = by (find (λ s. uid_eq s.uid w) p.1) h (pending_on w ps f)
  where
    by : (o : Option ObjectState) → either (option_map (λ s. (p.0, s)) o) (pending_of w ps) ≡ Some f → (pending_of w ps ≡ Some f → is_on
        (map (λ (q : Uid × List ObjectState). q.0) ps) f.0 ≡ true) → is_on (map (λ (q : Uid × List ObjectState). q.0) (p ∷ ps)) f.0 ≡ true
    by None is rest = or_right (uid_eq p.0 f.0) (is_on (map (λ (q : Uid × List ObjectState). q.0) ps) f.0) (rest is)
    by (Some s) is rest = or_left (uid_eq p.0 f.0) (is_on (map (λ (q : Uid × List ObjectState). q.0) ps) f.0) (let one : ◌≡◌ {A = Option
        (Uid × ObjectState)} (Some (p.0, s)) (Some f) = is in let own : p.0 ≡ f.0 = cc one in ap (uid_eq p.0) (sym own) ∙ uid_same p.0)

pub firsts_back : (act : Acts) (seen : Act → Bool) (w : Uid) (held : ObjectState) (pend : List (Uid × List ObjectState)) → ((a : Act) →
    seen a ≡ false) → HaveFirsts act (map (λ (p : Uid × List ObjectState). p.0) pend) seen (rows_back w held (pending_of w pend))
firsts_back act seen w held pend nobody r k = by (pending_of w pend) refl (in_from r (rows_back w held (pending_of w pend)) k)
  where
    back : (f : Uid × ObjectState) → pending_of w pend ≡ Some f →
        StandsFirst act (map (λ (p : Uid × List ObjectState). p.0) pend) seen (f.0 ∷ [])
    back f is = inr (refl, pending_on w pend f is, nobody (act f.0))

    by : (o : Option (Uid × ObjectState)) → pending_of w pend ≡ o → In r (rows_back w held o) →
        StandsFirst act (map (λ (p : Uid × List ObjectState). p.0) pend) seen r.holder
    by None is i = absurd i
    by (Some f) is (inl its) =
        subst (λ (q : Row). StandsFirst act (map (λ (p : Uid × List ObjectState). p.0) pend) seen q.holder) its (back f is)
    by (Some f) is (inr none) = absurd none
