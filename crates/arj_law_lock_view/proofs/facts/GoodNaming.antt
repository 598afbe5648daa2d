-- Objects at naming stay good, whatever naming does, for the actions that were begun.
use Rattle.arj_law_parts.proofs.Words
use Words.{◌≡◌, ◌∙◌, ◌≤◌, ◌+◌, ◌==◌, ◌||◌, ℕ, Bool, true, false, cond, map, not, List, [], ◌∷◌, Option, Some, None, refl, sym, ap, subst}
use Words.{inl, inr, ⊎_elim, arith, ⊤, is_some, option_map, AllByRecursion, is_eq, nat_cmp, uid_same, grant_clear, In, in_from, Binding}
use Words.{BoundReply, ConfirmedReply, End, Entry, ObjectState, Path, RecordedReply, Row, Uid, entry, first_conflict, grant_row, is_on}
use Words.{last_uid, lower_row, uid_eq, top_of, top_path, Grants, Marks, checked, confirm, confirm_entries, confirm_new, confirms}
use Words.{conflict_in, entries_after, first_of_each, has_all, is_bare, is_there, lock_all, lock_in, named_back, other_grant, pending_of}
use Words.{prepared_by, recovered_naming, refused_exclude, rows_back, wanted, is_granted, Already, Did, InDoubt, Old, Pair, Prep, Ready}
use Words.{Served, did_nothing, either, is_prepared, prepare_answer, reply, void, Counted, Live, Made, Named, bind_call, bind_made}
use Words.{bind_named, conflict_on, end_named, entry_row, hello_named, in_use, include_asked, is_lowered, live_above}
use Words.{live_asked, locked, lower_lines, lowered, made_above, make_asked, next_server, note_made, note_named, note_other, Naming}
use Words.{is_over, listed_entry, on_counted, on_named, taken_end, told_new, at_number, at_uid, binding_eq, put_number, with_uid, put_same}
use Words.{put_other, one_or_two, is_binding}
use Words.confirmed
use Words.ending
use Words.mode
use Words.recorded
use Words.what
use Words.naming
use Rattle.arj_law_lock_view.proofs.Terms
use Terms.{Action, AreBegun, owners_of, IsAsker, IsGoodObject, IsToldOf, Untold, AreGoodRows, Fits, IsTop, begun_fits, untold_path, on_with}
use Terms.{with_on, all_each, all_found, all_put, at_each, each_passes, either_none, IsEntry, all_filter, all_key, all_with, all_without}
use Terms.{AsTops, HavePrepared, HaveUpper, HoldsObjects, IsTopOf}
use Rattle.arj_law_lock_view.proofs.facts
use facts.{UpperRows.top_asks, Uppers.held_uppers, Uppers.uppers_more}
use facts.GoodOwners.{object_more, owns_none, top_on, tops_more}
use facts.UpperWalks.{IsHeld, keeps_uppers}
use Rattle.arj_law_lock_view.specs.facts.Uppers.{HandlersKeepObjects, ObjectsAreGood}
use Rattle.arj_law_parts.proofs.parts
use parts.{GoodCalls.good_more, GoodCalls.grown_bind}
use parts.GoodObjects.{good_bind, good_ended, good_fresh, good_hello, good_locked, good_note, on_own}

some_is : {A : Type 0} {a b : A} → Some a ≡ Some b → a ≡ b
some_is {A} {a} {b} is = let k : ◌≡◌ {A = Option A} (Some a) (Some b) = is in cc

none_not : {A P : Type 0} {x : A} → None ≡ Some x → P
none_not {A} {P} {x} is = let no_way : ◌≡◌ {A = Option A} None (Some x) = is in absurd (cc no_way)

-- ---- tops of bindings and includes

module _ (acts : List Action) where
  abbrev Tops : Named → Type 0
  Tops o = AsTops acts o

  module _ (p : Path) (top : IsTopOf acts (top_of p)) where
    abbrev Bound : Served Counted BoundReply → Type 0
    Bound r = Tops (let c = r.part in c.named)

    module _ (inc x : ℕ) (e : Entry) (c : Counted) (its : Tops c.named) where
      tops_live : (l : Live) (r : Option Row) → Bound (live_asked inc x p e c l r)
      tops_live l (Some r) = its
      tops_live l None = record { made = its.made; asked = its.asked }

      tops_made : (m : Option Made) → Bound (bind_made inc x p e c m)
      tops_made (Some m) = record { made = its.made; asked = its.asked }
      tops_made None = record {
        made = all_key (IsTopOf acts) (λ (m : Made). ⊤) (top_of p)
            (record { binding = record { inc = inc; count = c.count + 1 }; server = next_server c.named.turn e.servers; recorded = false })
            c.named.made top tt its.made;
        asked = its.asked;
      }

      tops_make : (avoid : Binding) (r : Option Row) → Bound (make_asked inc x p avoid e c r)
      tops_make avoid (Some r) = its
      tops_make avoid None = tops_made (made_above avoid (at_uid (top_of p) c.named.made))

      tops_call : (avoid : Binding) (l : Option Live) → Bound (bind_call inc x p avoid e c l)
      tops_call avoid (Some l) = tops_live l (conflict_on x p mode.Read c.named)
      tops_call avoid None = tops_make avoid (conflict_on x p mode.Write c.named)

      tops_include : (r : Option Row) → Bound (include_asked inc x p e c r)
      tops_include (Some r) = its
      tops_include None = record { made = its.made; asked = all_with (IsTopOf acts) (top_of p) c.named.asked top its.asked }

      tops_bound : (include : Bool) (avoid : Binding) → Bound (bind_named inc x p include avoid e c)
      tops_bound true avoid = tops_include (conflict_on x p mode.Write c.named)
      tops_bound false avoid = tops_call avoid (live_above avoid c.named.live)

    tops_note : (x : ℕ) (b : Binding) (i : ℕ) (o : Named) → Tops o → Tops (note_named x (top_of p) b i o).part
    tops_note x b i o its = recorded_yet (is_binding b o.recorded)
      where
        lower : (v : Named) → Tops v → Tops (lowered x (top_of p) v)
        lower v s = one (is_lowered x (top_of p) v)
          where
            one : (c : Bool) → Tops (cond c (record v { rows = lower_row (top_of p) (entry x) v.rows }) v)
            one true = record { made = s.made; asked = s.asked }
            one false = s

        made : (m : Made) → Tops (note_made x (top_of p) i o m).part
        made m = one m.recorded
          where
            one : (c : Bool) → Tops (cond {A = Served Named RecordedReply} c (reply o recorded.Yes) (record {
              part = lowered x (top_of p) (in_use (top_of p) m i o);
              outs = lower_lines x (top_of p) o;
              reply = Some recorded.Yes;
            })).part
            one true = its
            one false = lower (in_use (top_of p) m i o) (record {
              made = all_key (IsTopOf acts) (λ (m : Made). ⊤) (top_of p) (record m { recorded = true }) o.made top tt its.made;
              asked = its.asked;
            })

        other : (q : Option Made) → Tops (note_other x (top_of p) b i o q).part
        other None = its
        other (Some m) = one (binding_eq b m.binding)
          where
            one : (c : Bool) → Tops (cond {A = Served Named RecordedReply} c (note_made x (top_of p) i o m) (void o)).part
            one true = made m
            one false = its

        recorded_yet : (c : Bool) → Tops
            (cond {A = Served Named RecordedReply} c (reply o recorded.Yes) (note_other x (top_of p) b i o (at_uid (top_of p) o.made))).part
        recorded_yet true = its
        recorded_yet false = other (at_uid (top_of p) o.made)

  tops_end : (u : Uid) (e : End) (o : Named) → Tops o → Tops (end_named u e o)
  tops_end u ending.Commit o its = record {
    made = all_without (λ (e : Uid × Made). IsTopOf acts e.0 × ⊤) u o.made its.made;
    asked = all_filter (IsTopOf acts) _ o.asked its.asked;
  }
  tops_end u ending.Abort o its = record {
    made = all_without (λ (e : Uid × Made). IsTopOf acts e.0 × ⊤) u o.made its.made;
    asked = all_filter (IsTopOf acts) _ o.asked its.asked;
  }

-- ---- naming

module _ (acts : List Action) (begun : AreBegun acts) where
  abbrev Objects : Naming → Type 0
  Objects n = (x : ℕ) (o : Named) → at_number x n.objects ≡ Some o → IsGoodObject (owners_of acts) (is_on n.told) n.inc n.count x o

  abbrev AllTops : Naming → Type 0
  AllTops n = AllByRecursion (λ (e : ℕ × Named). AsTops acts e.1) n.objects

  -- one object is put
  put_objects : (x : ℕ) (new : Named) (count : ℕ) (n : Naming) → n.count ≤ count → IsGoodObject (owners_of acts) (is_on n.told) n.inc count
      x new → Objects n → Objects (record n { count = count; objects = put_number x new n.objects })
  put_objects x new count n up good all y q is = ⊎_elim
      (λ same. subst (λ (j : ℕ). IsGoodObject (owners_of acts) (is_on n.told) n.inc count j q) same
      (subst (IsGoodObject (owners_of acts) (is_on n.told) n.inc count x)
      (some_is (sym (put_same x new n.objects) ∙ ap (λ j. at_number j (put_number x new n.objects)) same ∙ is)) good))
      (λ apart. good_more (owners_of acts) (is_on n.told) n.inc n.count count y q up
      (all y q (sym (put_other x y new n.objects apart.0) ∙ is))) (one_or_two x y)

  fits : (p : Path) → IsAsker acts p → Fits (owners_of acts) p
  fits p who = subst (Fits (owners_of acts)) who.2 (begun_fits acts begun who.0 who.1 who.3)

  objects_bind : (p : Path) → IsAsker acts p → (x : ℕ) (include : Bool) (avoid : Binding) (d : Pair) (n : Naming) → AllTops n → Objects n →
      (let s = naming.bind p x include avoid d n in AllTops s.part × Objects s.part)
  objects_bind p who x include avoid d n tops good = by (is_over p n) refl
    where
      at_it : Counted → Served Counted BoundReply
      at_it = bind_named n.inc x p include avoid (listed_entry x d)

      there : Untold (is_on n.told) p → (o : Option Named) → at_number x n.objects ≡ o →
          (let s = on_counted x at_it n o in AllTops s.part × Objects s.part)
      there untold None is = (tops, good)
      there untold (Some o) is =
          let c : Counted = record { named = o; count = n.count } in
          let g = grown_bind x p d n.inc include avoid (listed_entry x d) c in (
            all_put (AsTops acts) x (at_it c).part.named n.objects (tops_bound acts p (top_asks acts begun p who) n.inc x (listed_entry x d)
                c (all_found (AsTops acts) x n.objects o tops is) include avoid) tops,
            put_objects x (at_it c).part.named (at_it c).part.count n g.more (good_bind (owners_of acts) (is_on n.told) x p (fits p who)
                untold n.inc include avoid (listed_entry x d) c (good x o is)) good,
          )

      by : (b : Bool) → is_over p n ≡ b → (let s = cond {A = Served Naming BoundReply} b (void n)
          (on_counted x at_it n (at_number x n.objects)) in AllTops s.part × Objects s.part)
      by true is = (tops, good)
      by false is = there (untold_path p n is) (at_number x n.objects) refl

  objects_note : (p : Path) → IsAsker acts p → (x : ℕ) (b : Binding) (i g : ℕ) (n : Naming) → AllTops n → Objects n →
      (let s = naming.note p x b i g n in AllTops s.part × Objects s.part)
  objects_note p who x b i g n tops good = by (is_over p n) (is_some (at_number x n.objects)) (g == n.inc) refl
    where
      there : Untold (is_on n.told) p → (o : Option Named) → at_number x n.objects ≡ o →
          (let s = on_named x (note_named x (top_of p) b i) n o in AllTops s.part × Objects s.part)
      there untold None is = (tops, good)
      there untold (Some o) is = (
        all_put (AsTops acts) x (note_named x (top_of p) b i o).part n.objects
            (tops_note acts p (top_asks acts begun p who) x b i o (all_found (AsTops acts) x n.objects o tops is)) tops,
        put_objects x (note_named x (top_of p) b i o).part n.count n (omega arith)
            (good_note (owners_of acts) (is_on n.told) x p (fits p who) untold n.inc n.count i b o (good x o is)) good,
      )

      by : (over known ours : Bool) → is_over p n ≡ over → (let s = cond {A = Served Naming RecordedReply} (over || not known) (void n)
          (cond {A = Served Naming RecordedReply} ours (on_named x (note_named x (top_of p) b i) n (at_number x n.objects))
          (reply n (recorded.Changed (what.Inc g n.inc)))) in AllTops s.part × Objects s.part)
      by true known ours is = (tops, good)
      by false false ours is = (tops, good)
      by false true true is = there (untold_path p n is) (at_number x n.objects) refl
      by false true false is = (tops, good)

  -- ---- exclude locks

  module _ (p : Path) (who : IsAsker acts p) where
    still_clear : (x : ℕ) (o : Named) → conflict_on x p mode.Exclude o ≡ None →
        conflict_on x p mode.Exclude (locked x p mode.Exclude o) ≡ None
    still_clear x o free = by (is_granted (entry x) (top_of p) mode.Exclude o.rows)
      where
        by : (b : Bool) →
            first_conflict (top_path p) (entry x) mode.Exclude (cond b o.rows (grant_row (entry_row x p mode.Exclude) o.rows)) ≡ None
        by true = free
        by false = let f = fits p who in grant_clear (top_path p) (entry x) mode.Exclude (entry_row x p mode.Exclude) o.rows
            (on_own (owners_of acts) (top_path p) f.holder) free

    one_clear : (x : ℕ) (n : Naming) (o : Option Named) → at_number x n.objects ≡ o → conflict_in x p o ≡ None → (y : ℕ) →
        conflict_in y p (at_number y n.objects) ≡ None → (let t = lock_in x p n o in conflict_in y p (at_number y t.part.objects)) ≡ None
    one_clear x n None is free y clear = clear
    one_clear x n (Some o) is free y clear = ⊎_elim
        (λ same. subst (λ j. conflict_in j p (at_number j (put_number x (locked x p mode.Exclude o) n.objects)) ≡ None) same
        (ap (conflict_in x p) (put_same x (locked x p mode.Exclude o) n.objects) ∙ still_clear x o free))
        (λ apart. ap (conflict_in y p) (put_other x y (locked x p mode.Exclude o) n.objects apart.0) ∙ clear) (one_or_two x y)

    objects_locks : (xs : List ℕ) (n : Naming) → ((x : ℕ) → In x xs → conflict_in x p (at_number x n.objects) ≡ None) →
        Untold (is_on n.told) p → AllTops n → Objects n → AllTops (lock_all xs p n).part × Objects (lock_all xs p n).part
    objects_locks [] n free untold tops good = (tops, good)
    objects_locks (x ∷ xs) n free untold tops good =
        let f = one (at_number x n.objects) refl in
        objects_locks xs (lock_in x p n (at_number x n.objects)).part (λ y i. one_clear x n (at_number x n.objects) refl (free x (inl refl))
        y (free y (inr i))) (still_untold (at_number x n.objects)) f.0 f.1
      where
        still_untold : (o : Option Named) → Untold (is_on (let t = lock_in x p n o in t.part.told)) p
        still_untold None = untold
        still_untold (Some o) = untold

        one : (o : Option Named) → at_number x n.objects ≡ o → AllTops (lock_in x p n o).part × Objects (lock_in x p n o).part
        one None is = (tops, good)
        one (Some o) is =
            let t = all_found (AsTops acts) x n.objects o tops is in (
              all_put (AsTops acts) x (locked x p mode.Exclude o) n.objects (record { made = t.made; asked = t.asked }) tops,
              put_objects x (locked x p mode.Exclude o) n.count n (omega arith) (good_locked (owners_of acts) (is_on n.told) x p
                  (fits p who) untold n.inc n.count mode.Exclude o (good x o is) (ap (conflict_in x p) (sym is) ∙ free x (inl refl))) good,
            )

    objects_confirm : (grants : Grants) (excluded included : Marks) (d : Pair) (n : Naming) → AllTops n → Objects n →
        (let s = confirm p grants excluded included d n in AllTops s.part × Objects s.part)
    objects_confirm grants excluded included d n tops good =
        by (is_over p n) (has_all grants n) (is_on n.confirmed (top_of p) || is_prepared (top_of p) d) refl
      where
        Well : Naming → Type 0
        Well m = AllTops m × Objects m

        answered : (states : List ObjectState) (t : Did Naming) (a : Prep) → Well t.part → Well (prepared_by (top_of p) states t a).part
        answered states t Ready s = s
        answered states t (Already u) s = s
        answered states t (Old u v) s = s
        answered states t (InDoubt u v) s = s

        entries : (states : List ObjectState) (t : Did Naming) → Well t.part → Well (confirm_entries (top_of p) states d t).part
        entries [] t s = s
        entries (x ∷ xs) t s = answered (x ∷ xs) t (prepare_answer (top_of p) (x ∷ xs) d) s

        free : checked p grants excluded included d n ≡ None → (x : ℕ) → In x (wanted (top_of p) grants excluded d) →
            conflict_in x p (at_number x n.objects) ≡ None
        free passes x i =
            let first = either_none (first_of_each (other_grant n) grants) (either
            (first_of_each (refused_exclude p n) (wanted (top_of p) grants excluded d)) (either (first_of_each (is_there d) included)
            (first_of_each is_bare (entries_after (top_of p) grants excluded included d)))) passes in
            let second = either_none (first_of_each (refused_exclude p n) (wanted (top_of p) grants excluded d)) (either (first_of_each
            (is_there d) included) (first_of_each is_bare (entries_after (top_of p) grants excluded included d))) first.1 in
            none (conflict_in x p (at_number x n.objects))
            (each_passes (refused_exclude p n) (wanted (top_of p) grants excluded d) x second.0 i)
          where
            none : (o : Option Row) → option_map (λ (r : Row). confirmed.Conflict (last_uid r.holder) r.mode) o ≡ None → o ≡ None
            none None e = refl
            none (Some r) e = cc

        new : Untold (is_on n.told) p → (c : Option ConfirmedReply) → checked p grants excluded included d n ≡ c →
            Well (confirm_new p grants excluded included d n c).part
        new untold (Some r) is = (tops, good)
        new untold None is = entries (entries_after (top_of p) grants excluded included d) (lock_all (wanted (top_of p) grants excluded d) p
            n) (objects_locks (wanted (top_of p) grants excluded d) n (free is) untold tops good)

        by : (over every again : Bool) → is_over p n ≡ over → Well (cond {A = Served Naming ConfirmedReply} (over || not every) (void n)
            (cond {A = Served Naming ConfirmedReply} again (reply (confirms (top_of p) n) confirmed.Yes)
            (confirm_new p grants excluded included d n (checked p grants excluded included d n)))).part
        by true every again is = (tops, good)
        by false false again is = (tops, good)
        by false true true is = (tops, good)
        by false true false is = new (untold_path p n is) (checked p grants excluded included d n) refl

  -- ---- ends, a server that comes back, and a restart

  told_of : (u : Uid) (n : Naming) → IsToldOf (is_on n.told) (is_on (with_uid u n.told)) u
  told_of u n = record {
    itself = with_on u u n.told (inl refl);
    before = λ w t. with_on w u n.told (inr t);
    only = λ w e. ⊎_elim (λ same. inr same) (λ old. inl old) (on_with w u n.told e);
  }

  objects_told : (u : Uid) (e : End) (d : Pair) (n : Naming) → AllByRecursion (IsTopOf acts) n.confirmed → AllTops n → Objects n →
      (let s = naming.told u e d n in AllTops s.part × Objects s.part)
  objects_told u e d n confirmed_tops tops good = by (is_on n.told u)
    where
      -- a commit is taken for one where naming confirmed the top
      top : (end : End) → taken_end u end n ≡ ending.Commit → IsTop (owners_of acts) u
      top ending.Abort is = absurd (cc is)
      top ending.Commit is = one (is_on n.confirmed u) refl is
        where
          one : (b : Bool) → is_on n.confirmed u ≡ b → cond b ending.Commit ending.Abort ≡ ending.Commit → IsTop (owners_of acts) u
          one true on same = owns_none acts begun u (top_on acts n.confirmed u confirmed_tops on)
          one false off same = absurd (cc same)

      by : (b : Bool) →
          (let t = cond {A = Did Naming} b (did_nothing n) (told_new u (taken_end u e n) d n) in AllTops t.part × Objects t.part)
      by true = (tops, good)
      by false = (
        all_each (AsTops acts) (λ k. end_named u (taken_end u e n)) (λ k o its. tops_end acts u (taken_end u e n) o its) n.objects tops,
        λ x o is. let g = at_each (λ y. end_named u (taken_end u e n)) x n.objects o is in
            subst (IsGoodObject (owners_of acts) (is_on (with_uid u n.told)) n.inc n.count x) (sym g.2) (good_ended (owners_of acts)
            (is_on n.told) (is_on (with_uid u n.told)) n.inc n.count x u g.0 (told_of u n) (good x g.0 g.1) (taken_end u e n) (top e)),
      )

  objects_hello : (node inc : ℕ) (n : Naming) → AllTops n → Objects n →
      AllTops (naming.hello node inc n) × Objects (naming.hello node inc n)
  objects_hello node inc n tops good = (
    all_each (AsTops acts) (λ k. hello_named node inc) (λ k o its. record { made = its.made; asked = its.asked }) n.objects tops,
    λ x o is. let f = at_each (λ y. hello_named node inc) x n.objects o is in subst (IsGoodObject (owners_of acts) (is_on n.told) n.inc
        n.count x) (sym f.2) (good_hello (owners_of acts) (is_on n.told) n.inc n.count x node inc f.0 (good x f.0 f.1)),
  )

  -- rows that are given back
  back_good : (u : Uid) (held : ObjectState) → IsEntry u → (q : Option (Uid × ObjectState)) →
      AreGoodRows (owners_of acts) (is_on []) u.num (rows_back u held q)
  back_good u held its None = record {
    objects = λ r i. absurd (in_from r [] i);
    holders = λ r i. absurd (in_from r [] i);
    apart = λ r s i. absurd (in_from r [] i);
    one = tt;
    none = λ w over. absurd (cc over);
  }
  back_good u held its (Some p) = record {
    objects =
        λ r i. ⊎_elim (λ same. ap (λ (z : Row). z.object) (sym same) ∙ its) (λ none. absurd none) (in_from r (rows_back u held (Some p)) i);
    holders = λ r i. ⊎_elim (λ same. inl (ap (λ (z : Row). z.holder) (sym same) ∙ ap (λ (z : Row). last_uid z.holder ∷ []) same))
        (λ none. absurd none) (in_from r (rows_back u held (Some p)) i);
    apart = λ r s i j object conflicts. ⊎_elim (λ one. ⊎_elim (λ two. inl
        (ap (λ (z : Row). uid_eq (last_uid z.holder) (last_uid r.holder) || uid_eq (last_uid z.holder) (owners_of acts (last_uid r.holder)))
        (sym two ∙ one) ∙ (λ k. uid_same (last_uid r.holder) k || uid_eq (last_uid r.holder) (owners_of acts (last_uid r.holder)))))
        (λ none. absurd none) (in_from s (rows_back u held (Some p)) j)) (λ none. absurd none) (in_from r (rows_back u held (Some p)) i);
    one = (refl, tt);
    none = λ w over. absurd (cc over);
  }

  objects_recovered : (inc : ℕ) (d : Pair) → HavePrepared acts d → AllTops (recovered_naming inc d) × Objects (recovered_naming inc d)
  objects_recovered inc d prepared = (tops d.held, objects d.held prepared.held)
    where
      tops : (held : List (Uid × ObjectState)) → AllByRecursion (λ (e : ℕ × Named). AsTops acts e.1) (map (named_back d) held)
      tops [] = tt
      tops (e ∷ es) = (record { made = tt; asked = tt }, tops es)

      objects : (held : List (Uid × ObjectState)) → AllByRecursion (λ (e : Uid × ObjectState). IsEntry e.0 × ⊤) held → (x : ℕ) (o : Named) →
          at_number x (map (named_back d) held) ≡ Some o → IsGoodObject (owners_of acts) (is_on []) inc 0 x o
      objects [] all x o is = none_not is
      objects (e ∷ es) all x o is = by (is_eq (nat_cmp x e.0.num)) refl is (objects es all.1 x o)
        where
          fresh : IsGoodObject (owners_of acts) (is_on []) inc 0 e.0.num (let f = named_back d e in f.1)
          fresh = good_fresh (owners_of acts) (is_on []) inc 0 e.0.num (rows_back e.0 e.1 (pending_of e.0 d.pend))
              (back_good e.0 e.1 all.0.0 (pending_of e.0 d.pend))

          by : (b : Bool) → is_eq (nat_cmp x e.0.num) ≡ b → cond b (Some (named_back d e).1) (at_number x (map (named_back d) es))
              ≡ Some o → (at_number x (map (named_back d) es) ≡ Some o → IsGoodObject (owners_of acts) (is_on []) inc 0 x o) →
              IsGoodObject (owners_of acts) (is_on []) inc 0 x o
          by true at f ih = subst (IsGoodObject (owners_of acts) (is_on []) inc 0 x) (some_is f)
              (subst (λ (j : ℕ). IsGoodObject (owners_of acts) (is_on []) inc 0 j (named_back d e).1) (⊎_elim (λ same. same)
              (λ apart. let no_way : true ≡ false = sym at ∙ apart.0 in absurd (cc no_way)) (one_or_two e.0.num x)) fresh)
          by false at f ih = ih f

-- ---- all runs

pub held_objects : IsHeld HoldsObjects
held_objects = record {
  more = λ a acts begun n its. record {
    uppers = uppers_more a acts n its.uppers;
    tops = tops a acts begun n.objects its.tops;
    objects = λ x o is. let u = its.uppers in object_more a acts begun (is_on n.told) n.inc n.count x o (all_found (λ (z : Named).
        HaveUpper acts z.rows) x n.objects o u.rows is) (all_found (AsTops acts) x n.objects o its.tops is) (its.objects x o is);
  };
  starts = λ acts begun inc d prepared. let r = objects_recovered acts begun inc d prepared in
      record { uppers = held_uppers.starts acts begun inc d prepared; tops = r.0; objects = r.1 };
  binds = λ acts begun p who x include avoid d n its. let w = held_uppers.binds acts begun p who x include avoid d n its.uppers in let r =
      objects_bind acts begun p who x include avoid d n its.tops its.objects in (record { uppers = w.0; tops = r.0; objects = r.1 }, w.1);
  notes = λ acts begun p who x b i g n its. let w = held_uppers.notes acts begun p who x b i g n its.uppers in
      let r = objects_note acts begun p who x b i g n its.tops its.objects in (record { uppers = w.0; tops = r.0; objects = r.1 }, w.1);
  confirms = λ acts begun p who grants excluded included d n its. let w = held_uppers.confirms acts begun p who grants excluded included d n
      its.uppers in let r = objects_confirm acts begun p who grants excluded included d n its.tops its.objects in
      (record { uppers = w.0; tops = r.0; objects = r.1 }, w.1);
  tells = λ acts begun u e d n its. let w = held_uppers.tells acts begun u e d n its.uppers in let h = its.uppers in
      let r = objects_told acts begun u e d n h.confirmed its.tops its.objects in (record { uppers = w.0; tops = r.0; objects = r.1 }, w.1);
  hellos = λ acts begun node inc n its. let r = objects_hello acts begun node inc n its.tops its.objects in
      record { uppers = held_uppers.hellos acts begun node inc n its.uppers; tops = r.0; objects = r.1 };
}
  where
    tops : (a : Action) (acts : List Action) → AreBegun (a ∷ acts) → (es : List (ℕ × Named)) →
        AllByRecursion (λ (e : ℕ × Named). AsTops acts e.1) es → AllByRecursion (λ (e : ℕ × Named). AsTops (a ∷ acts) e.1) es
    tops a acts begun [] all = tt
    tops a acts begun (e ∷ es) all = (tops_more a acts begun (λ u. false) e.1 all.0, tops a acts begun es all.1)

pub objects_keep : HandlersKeepObjects
objects_keep hd = keeps_uppers HoldsObjects held_objects hd

pub objects_good : ObjectsAreGood
objects_good v acts k n t o M held found live names q is = let h = (held k n found).live t o live names in h.objects v.x q is
